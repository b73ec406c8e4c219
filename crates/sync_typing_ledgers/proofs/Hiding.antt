-- The newest entries of keys, while entries come and go.
use Rattle.std.proofs.Common.{rules, ◌≡◌, ℕ, suc, ◌-◌, ◌<◌, Bool, true, false, cond, if◌then◌else◌, List, [], ◌∷◌, ◌++◌, length, drop, Option, Some, None, Result, Ok, Err, refl, sym, ap, ◌∙◌, arith}
use Rattle.std.specs.Prelude.{nat_eq, reverse, OnOk, OnErr, IsOk, is_ok}
use Rattle.std.proofs.lemmas.Bool.{cond-true, cond-false, eqb-true, eq-eqb}
use Rattle.std.proofs.lemmas.List.{reverse-append}
use Rattle.sync_typing_ledgers.specs.declared.ledgers.Place.{Place}
use Rattle.sync_typing_ledgers.specs.declared.ledgers.Step.{Step}
use Rattle.sync_typing_ledgers.specs.Entries.{Entry, newest, oldest}
use Rattle.sync_typing_ledgers.specs.Steps.{entries_of}

pub turned : (xs : List Step) (x : Step) → reverse (xs ++ x ∷ []) ≡ x ∷ reverse xs
turned xs x = reverse-append xs (x ∷ [])

-- the map after a push
pub places_push : (ss : List Step) (s : Step) (old new : ℕ → Option Place) → ((k : ℕ) → old k ≡ newest k (entries_of ss))
    → ((k : ℕ) → new k ≡ cond (nat_eq s.key k) (Some (record { at = length (entries_of ss); value = s.value })) (old k))
    → (k : ℕ) → new k ≡ newest k (entries_of (s ∷ ss))
places_push ss s old new was is k =
    is k ∙ ap (λ o. cond (nat_eq s.key k) (Some (record { at = length (entries_of ss); value = s.value })) o) (was k)

-- and after the newest entry is gone
pub places_pop : (ss : List Step) (s : Step) (old new : ℕ → Option Place)
    → ((k : ℕ) → old k ≡ newest k (entries_of (s ∷ ss)))
    → ((k : ℕ) → new k ≡ cond (nat_eq s.key k) (newest s.key (entries_of ss)) (old k))
    → (k : ℕ) → new k ≡ newest k (entries_of ss)
places_pop ss s old new was is k = is k ∙ by (nat_eq s.key k) refl
  where
    by : (b : Bool) → nat_eq s.key k ≡ b → cond b (newest s.key (entries_of ss)) (old k) ≡ newest k (entries_of ss)
    by true e = ap (λ (m : ℕ). newest m (entries_of ss)) (eqb-true s.key k e)
    by false e =
        was k ∙ cond-false (nat_eq s.key k) (Some (record { at = length (entries_of ss); value = s.value })) (newest k (entries_of ss)) e

some_not_none : (p : Place) → ◌≡◌ {A = Option Place} (Some p) None → ⊥
some_not_none p e = cc

-- the key of the newest entry has a place
pub newest_there : (ss : List Step) (s : Step) → newest s.key (entries_of (s ∷ ss)) ≡ None → ⊥
newest_there ss s e =
    some_not_none (record { at = length (entries_of ss); value = s.value })
    (sym (cond-true (nat_eq s.key s.key) (Some (record { at = length (entries_of ss); value = s.value })) (newest s.key (entries_of ss)) (eq-eqb s.key s.key refl)) ∙ e)

pub is_ok_from : {A E : Type 0} (r : Result A E) (P : Type 0) → OnErr r P → (P → ⊥) → IsOk r
is_ok_from (Ok x) P h f = search rules
is_ok_from (Err e) P h f = absurd (f h)

pub on_ok : {A E : Type 0} (r : Result A E) (a : A) (P : Type 0) → r ≡ Ok a → OnOk r P → P
on_ok (Ok x) a P e h = h
on_ok (Err x) a P e h = absurd (cc)

pub after_push : {A E : Type 0} (r : Result (Unit {0}) E) (u : Unit {0}) (new old was : List A) (h : A) → r ≡ Ok u
    → new ≡ (if is_ok r then old ++ h ∷ [] else old) → old ≡ was → new ≡ was ++ h ∷ []
after_push (Ok x) u new old was h e f g = f ∙ ap (λ (hs : List _). hs ++ h ∷ []) g
after_push (Err x) u new old was h e f g = absurd (cc)

-- one entry less, where more are left than are to stay
pub oldest_less : (n : ℕ) (es : List Entry) → n < length es → oldest n (drop 1 es) ≡ oldest n es
oldest_less n [] more = absurd (omega (arith, more))
oldest_less n (e ∷ es) more =
    ap (λ (m : ℕ). drop m (e ∷ es)) (let later : suc (length es - n) ≡ suc (length es) - n = omega (arith, more) in later)
