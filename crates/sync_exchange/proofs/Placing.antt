-- Tokens of a hand by their places.
use Rattle.std.proofs.Common.{◌≡◌, ℕ, zero, suc, ◌+◌, ◌<◌, Bool, true, false, List, [], ◌∷◌, ◌++◌, length, get_or, slice_set, remove, slice_get, cond, Some, None, unwrap_or, refl, sym, ap, ◌∙◌, arith, nat_eq, position}
use Rattle.std.proofs.lemmas.List.{set-append_left}
use Rattle.std.specs.List.{position_from}
use Rattle.std.proofs.lemmas.Iterator.Adapters.{position_from-zero}
use Rattle.std.proofs.lemmas.List.Quantifiers.{position-Some}
use Rattle.sync_join.proofs.Through.{cond-true, cond-false}
use Rattle.sync_join.specs.declared.tokens.Token.{Token}
use Rattle.sync_exchange.specs.declared.hands.Held.{Held}
use Rattle.sync_exchange.specs.Exchange.{held_as}
use Rattle.sync_exchange.specs.Splitting.{replaced, dropped}

abbrev pub has_name : ℕ → Held → Bool
has_name name h = nat_eq name h.name

-- the first token of a name stands at this place
abbrev IsFirst : ℕ → List Held → ℕ → Held → Type 0
IsFirst name hs i d = (i < length hs) × (has_name name (get_or hs i d) ≡ true) × ((k : ℕ) → k < i → has_name name (get_or hs k d) ≡ false)

rest-first : (name : ℕ) (h : Held) (hs : List Held) (i : ℕ) (d : Held) → IsFirst name (h ∷ hs) (suc i) d → IsFirst name hs i d
rest-first name h hs i d f = (omega arith, f.1, λ k less. f.2 (suc k) (omega arith))

held-first : (name : ℕ) (hs : List Held) (i : ℕ) (d : Held) → IsFirst name hs i d → held_as name hs ≡ Some (get_or hs i d).token
unfolding held_as
held-first name [] i d f = absurd (omega arith)
held-first name (h ∷ hs) zero d f = cond-true (nat_eq name h.name) (Some h.token) (held_as name hs) f.1
held-first name (h ∷ hs) (suc i) d f = cond-false (nat_eq name h.name) (Some h.token) (held_as name hs) (f.2 0 (omega arith)) ∙ held-first name hs i d (rest-first name h hs i d f)

replaced-first : (name : ℕ) (new : Held) (hs : List Held) (i : ℕ) (d : Held) → IsFirst name hs i d → replaced name new hs ≡ slice_set hs i new
replaced-first name new [] i d f = absurd (omega arith)
replaced-first name new (h ∷ hs) zero d f = cond-true (nat_eq name h.name) (new ∷ hs) (h ∷ replaced name new hs) f.1
replaced-first name new (h ∷ hs) (suc i) d f = cond-false (nat_eq name h.name) (new ∷ hs) (h ∷ replaced name new hs) (f.2 0 (omega arith)) ∙ ap (λ ks. h ∷ ks) (replaced-first name new hs i d (rest-first name h hs i d f))

dropped-first : (name : ℕ) (hs : List Held) (i : ℕ) (d : Held) → IsFirst name hs i d → dropped name hs ≡ remove hs i
dropped-first name [] i d f = absurd (omega arith)
dropped-first name (h ∷ hs) zero d f = cond-true (nat_eq name h.name) hs (h ∷ dropped name hs) f.1
dropped-first name (h ∷ hs) (suc i) d f = cond-false (nat_eq name h.name) hs (h ∷ dropped name hs) (f.2 0 (omega arith)) ∙ ap (λ ks. h ∷ ks) (dropped-first name hs i d (rest-first name h hs i d f))

same_some : {X : Type 0} (x y : X) → Some x ≡ Some y → x ≡ y
same_some x y e = ap (λ o. unwrap_or o x) e

module _ (name : ℕ) (hs : List Held) (i : ℕ) (d : Held) (e : position (λ (h : Held). nat_eq name h.name) hs ≡ Some i) where
  first : IsFirst name hs i d
  first = position-Some (has_name name) hs i d e

  pub token-at : (t : Token) → held_as name hs ≡ Some t → (get_or hs i d).token ≡ t
  token-at t h = same_some (get_or hs i d).token t (sym (held-first name hs i d first) ∙ h)

  pub place-within : i < length hs
  place-within = first.0

  pub set-at : (new : Held) → slice_set hs i new ≡ replaced name new hs
  set-at new = sym (replaced-first name new hs i d first)

  pub removed-at : remove hs i ≡ dropped name hs
  removed-at = sym (dropped-first name hs i d first)

  pub set-before : (new last : Held) → slice_set (hs ++ last ∷ []) i new ≡ replaced name new hs ++ last ∷ []
  set-before new last = set-append_left hs (last ∷ []) i new first.0 ∙ ap (λ ks. ks ++ last ∷ []) (set-at new)

-- ---- no place

none-cases : (name : ℕ) (h : Held) (hs : List Held) (i : ℕ) (b : Bool) → has_name name h ≡ b → cond b (Some i) (position_from (has_name name) (i + 1) hs) ≡ None → (position_from (has_name name) (i + 1) hs ≡ None → held_as name hs ≡ None) → held_as name (h ∷ hs) ≡ None
unfolding held_as
none-cases name h hs i true same e later = absurd (cc)
none-cases name h hs i false other e later = cond-false (nat_eq name h.name) (Some h.token) (held_as name hs) other ∙ later e

none-held : (name : ℕ) (hs : List Held) (i : ℕ) → position_from (has_name name) i hs ≡ None → held_as name hs ≡ None
unfolding held_as
none-held name [] i e = refl
none-held name (h ∷ hs) i e = none-cases name h hs i (has_name name h) refl e (none-held name hs (i + 1))

none_not_some : {X : Type 0} (x : X) → None ≡ Some x → ⊥
none_not_some x e = cc

pub no-place : (name : ℕ) (hs : List Held) (t : Token) → position (λ (h : Held). nat_eq name h.name) hs ≡ None → held_as name hs ≡ Some t → ⊥
no-place name hs t e h = none_not_some t (sym (none-held name hs 0 (sym (position_from-zero (has_name name) hs) ∙ e)) ∙ h)

pub got : {A : Type 0} (xs : List A) (i : ℕ) (x d : A) → slice_get xs i ≡ Some x → get_or xs i d ≡ x
got [] zero x d e = absurd (none_not_some x e)
got [] (suc i) x d e = absurd (none_not_some x e)
got (y ∷ xs) zero x d e = same_some y x e
got (y ∷ xs) (suc i) x d e = got xs i x d e
