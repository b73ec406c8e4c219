-- A permission says nothing of fields, whatever its content.
use Rattle.std.proofs.Common.{◌≡◌, ℕ, ◌<◌, List, [], ◌∷◌, ◌++◌, length, map, inl, refl, sym, ap, ◌∙◌}
use Rattle.std.specs.List.{AllByRecursion, range_with_len}
use Rattle.sync_machine.specs.declared.fields.Field.{Field}
use Rattle.sync_join.specs.declared.tokens.Token.{Token}
use Rattle.sync_join.specs.Shards.{Kept, perm}
use Rattle.sync_join.specs.Join.{value_at, all_of}
use Rattle.sync_exchange.specs.Exchange.{permission}
use Rattle.sync_exchange.proofs.Tokens.{IsPart}
use Rattle.sync_exchange.proofs.Making.{part-other, sound-out, sound-in}
use Rattle.sync_exchange.proofs.OneStrategy.{perm-other}
use Rattle.sync_exchange.proofs.Doing.{no-permission}
use Rattle.sync_exchange.proofs.Transitions.{below-length}
use Rattle.sync_exchange_laws.specs.Permissions.{WritesKeepShards}

in-place : (t : Token) (xs ys : List Token) → IsPart t (xs ++ t ∷ ys) (xs ++ ys)
in-place t xs ys = record { before = xs; behind = ys; whole_is = refl; rest_is = refl }

maps-same : (fs : List Field) (kept : Kept) (one two : List Token) (ns : List ℕ)
    → AllByRecursion (λ (f : ℕ). value_at fs one kept f ≡ value_at fs two kept f) ns → map (value_at fs one kept) ns ≡ map (value_at fs two kept) ns
maps-same fs kept one two [] h = refl
maps-same fs kept one two (f ∷ ns) h = ap (λ v. v ∷ map (value_at fs one kept) ns) h.0 ∙ ap (λ vs. value_at fs two kept f ∷ vs) (maps-same fs kept one two ns h.1)

all-so : (P Q : ℕ → Type 0) (ns : List ℕ) → ((f : ℕ) → P f → Q f) → AllByRecursion P ns → AllByRecursion Q ns
all-so P Q [] h a = tt
all-so P Q (f ∷ ns) h a = (h f a.0, all-so P Q ns h a.1)

pub writes-keep-shards : WritesKeepShards
writes-keep-shards fs few k n m xs ys kept sound =
    let was = in-place (permission k n) xs ys in
    let is = in-place (permission k m) xs ys in
    let other = λ (f : ℕ) (lt : f < length fs). perm-other (length fs) perm f few lt refl in
    let same = λ (f : ℕ) (lt : f < length fs).
    part-other fs kept (permission k m) _ _ f is (other f lt) ∙ sym (part-other fs kept (permission k n) _ _ f was (other f lt)) in (
      sound-in fs kept (permission k m) _ _ is (inl refl) (λ count. absurd (no-permission fs few count)) (sound-out fs kept (permission k n) _ _ was sound),
      ap all_of (maps-same fs kept _ _ (range_with_len 0 (length fs))
          (all-so (λ f. f < length fs) (λ f. value_at fs (xs ++ permission k m ∷ ys) kept f ≡ value_at fs (xs ++ permission k n ∷ ys) kept f) _ same (below-length (length fs)))),
    )
