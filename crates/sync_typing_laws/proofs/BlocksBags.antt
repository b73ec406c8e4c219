-- Where tokens are in a bag, and a configuration in which tokens went from a word to a hand, or back.
use Rattle.std.specs.Prelude.{◌≡◌, ℕ, zero, suc, ℤ, List, [], ◌∷◌, ◌++◌, length, flat_map, slice_get, slice_set, slice_index_or, Option, Some}
use Rattle.std.specs.List.{AllByRecursion}
use Rattle.std.proofs.lemmas.List.{length-set}
use Rattle.sync_join.specs.declared.tokens.Token.{Token}
use Rattle.sync_exchange.specs.Exchange.{tokens_in}
use Rattle.sync_exchange.specs.declared.hands.Held.{Held}
use Rattle.sync_thread_machine.specs.MachineWithProgram.{MachineWithProgram}
use Rattle.sync_thread_meaning.specs.Meaning.{World}
use Rattle.sync_thread_meaning.specs.Shares.{Owned, Shares, WordAt, hand_of, owned_tokens, all_shards, array_words}
use Rattle.sync_typing_laws.proofs.BlocksTokens.{all_front, all_back, all_append}
use Rattle.sync_typing_laws.specs.Rests.{IsTidy, IsApart, HaveValues}
use Rattle.sync_typing_laws.specs.Soundness.{world_with}
use mathlib.Core.Path.{subst, ◌∙◌}

pub all_set : {X A : Type 0} (P : A → Type 0) (f : X → List A) (xs : List X) (i : ℕ) (y : X) → AllByRecursion P (flat_map f xs) → AllByRecursion P (f y) → AllByRecursion P (flat_map f (slice_set xs i y))
all_set P f [] i y all new = tt
all_set P f (x ∷ xs) zero y all new = all_append P (f y) (flat_map f xs) new (all_back P (f x) (flat_map f xs) all)
all_set P f (x ∷ xs) (suc i) y all new = all_append P (f x) (flat_map f (slice_set xs i y)) (all_front P (f x) (flat_map f xs) all) (all_set P f xs i y (all_back P (f x) (flat_map f xs) all) new)

pub all_at : {X A : Type 0} (P : A → Type 0) (f : X → List A) (xs : List X) (i : ℕ) (x : X) → slice_get xs i ≡ Some x → AllByRecursion P (flat_map f xs) → AllByRecursion P (f x)
all_at P f [] i x is all = absurd (cc)
all_at P f (z ∷ zs) zero x is all = subst (λ y. AllByRecursion P (f y)) (let same : z ≡ x = cc in same) (all_front P (f z) (flat_map f zs) all)
all_at P f (z ∷ zs) (suc i) x is all = all_at P f zs i x is (all_back P (f z) (flat_map f zs) all)

pub all_index : {X A : Type 0} (P : A → Type 0) (f : X → List A) (xs : List X) (i : ℕ) (d : X) → AllByRecursion P (flat_map f xs) → AllByRecursion P (f d) → AllByRecursion P (f (slice_index_or xs i d))
all_index P f [] i d all none = none
all_index P f (x ∷ xs) zero d all none = all_front P (f x) (flat_map f xs) all
all_index P f (x ∷ xs) (suc i) d all none = all_index P f xs i d (all_back P (f x) (flat_map f xs) all) none

pub each_set : {X : Type 0} (P : X → Type 0) (xs : List X) (i : ℕ) (y : X) → AllByRecursion P xs → P y → AllByRecursion P (slice_set xs i y)
each_set P [] i y all new = tt
each_set P (x ∷ xs) zero y all new = (new, all.1)
each_set P (x ∷ xs) (suc i) y all new = (all.0, each_set P xs i y all.1 new)

pub each_index : {X : Type 0} (P : X → Type 0) (xs : List X) (i : ℕ) (d : X) → AllByRecursion P xs → P d → P (slice_index_or xs i d)
each_index P [] i d all none = none
each_index P (x ∷ xs) zero d all none = all.0
each_index P (x ∷ xs) (suc i) d all none = each_index P xs i d all.1 none

pub have_set : (ps : List WordAt) (os : List Owned) (i : ℕ) (p : WordAt) (o : Owned) → slice_get ps i ≡ Some p → length o.values ≡ length p.word.names → HaveValues ps os → HaveValues ps (slice_set os i o)
have_set [] os i p o is len have = tt
have_set (q ∷ ps) [] i p o is len have = tt
have_set (q ∷ ps) (z ∷ os) zero p o is len have = ((let same : p ≡ q = cc in subst (λ (r : WordAt). length o.values ≡ length r.word.names) same len), have.1)
have_set (q ∷ ps) (z ∷ os) (suc i) p o is len have = (have.0, have_set ps os i p o is len have.1)

-- the bag of a configuration in which a hand and what a word owns have changed
pub bag_moved : (P : Token → Type 0) (g : Shares) (t i : ℕ) (h : List Held) (fs : List (ℕ → Option ℤ)) (o now : Owned) → slice_get g.owned i ≡ Some o
    → (AllByRecursion P (tokens_in (hand_of g t)) → AllByRecursion P (owned_tokens o) → AllByRecursion P (tokens_in h) × AllByRecursion P (owned_tokens now))
    → AllByRecursion P (all_shards g) → AllByRecursion P (all_shards (record g { hands = slice_set g.hands t h; proofs = fs; owned = slice_set g.owned i now }))
bag_moved P g t i h fs o now is moves all =
    let hands = all_front P (flat_map tokens_in g.hands) (flat_map owned_tokens g.owned ++ g.dust) all in
    let beside = all_back P (flat_map tokens_in g.hands) (flat_map owned_tokens g.owned ++ g.dust) all in
    let owned = all_front P (flat_map owned_tokens g.owned) g.dust beside in
    let dust = all_back P (flat_map owned_tokens g.owned) g.dust beside in
    let new = moves (all_index P tokens_in g.hands t [] hands tt) (all_at P owned_tokens g.owned i o is owned) in
    all_append P (flat_map tokens_in (slice_set g.hands t h)) (flat_map owned_tokens (slice_set g.owned i now) ++ g.dust) (all_set P tokens_in g.hands t h hands new.0)
    (all_append P (flat_map owned_tokens (slice_set g.owned i now)) g.dust (all_set P owned_tokens g.owned i now owned new.1) dust)

-- The configuration stays tidy where the new hand's names differ and no token is new.
pub tidy_moved : (x : MachineWithProgram) (s : World) → IsTidy x s → (t i : ℕ) (h : List Held) (fs : List (ℕ → Option ℤ)) → length fs ≡ length s.shares.proofs
    → (p : WordAt) → slice_get (array_words x.program.decls) i ≡ Some p → (o now : Owned) → slice_get s.shares.owned i ≡ Some o → length now.values ≡ length p.word.names → IsApart h
    → ((P : Token → Type 0) → AllByRecursion P (tokens_in (hand_of s.shares t)) → AllByRecursion P (owned_tokens o) → AllByRecursion P (tokens_in h) × AllByRecursion P (owned_tokens now))
    → IsTidy x (world_with s (record s.shares { hands = slice_set s.shares.hands t h; proofs = fs; owned = slice_set s.shares.owned i now }))
tidy_moved x s tidy t i h fs len p there o now owns values apart moves = record {
  sound = record {
    shaped = record { tokens = bag_moved _ s.shares t i h fs o now owns (moves _) tidy.sound.shaped.tokens; records = tidy.sound.shaped.records; stored = tidy.sound.shaped.stored };
    natural = bag_moved _ s.shares t i h fs o now owns (moves _) tidy.sound.natural;
  };
  apart = each_set IsApart s.shares.hands t h tidy.apart apart;
  hands = length-set s.shares.hands t h ∙ tidy.hands;
  proofs = len ∙ tidy.proofs;
  wraps = tidy.wraps;
  locals = tidy.locals;
  values = have_set (array_words x.program.decls) s.shares.owned i p now there values tidy.values;
  cells = tidy.cells;
  words_fit = tidy.words_fit;
  cells_fit = tidy.cells_fit;
  locals_fit = tidy.locals_fit;
}
