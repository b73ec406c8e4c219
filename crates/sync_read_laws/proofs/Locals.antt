-- The locals that a list assigns are those before it and its own.
use Rattle.std.proofs.Common.{◌≡◌, ℕ, ◌||◌, Bool, true, false, if◌then◌else◌, List, [], ◌∷◌, ◌++◌, nat_eq, Option, Some, None, refl, sym, ap, ◌∙◌}
use Rattle.std.proofs.lemmas.Bool.{eqb-true}
use Rattle.std.proofs.lemmas.List.Folds.{list_any-append}
use Rattle.sync_base.proofs.Basics.{or_false, or_assoc}
use Rattle.sync_machine.specs.Naming.{is_in}
use Rattle.sync_thread.specs.Control.{Brace, Do, On, OnWhen, If, Loop, Next, Break, Meet, End}
use Rattle.sync_thread.specs.Programs.{LocalTree, Set, Proof, SharedTree, Read, Write, Peek, Operate, Print, ListTree}
use Rattle.sync_typing.specs.Lists.{with_local, with_local_if, assigned_here, assigned_by, assigned_locals}

-- what a function of lists adds does not depend on what is there
abbrev Spreads : (List ℕ → List ℕ) → Type 0
Spreads f = (held : List ℕ) (n : ℕ) → is_in n (f held) ≡ (is_in n held || is_in n (f []))

spreads_none : Spreads (λ held. held)
spreads_none held n = sym (or_false (is_in n held))

spreads_then : (f g : List ℕ → List ℕ) → Spreads f → Spreads g → Spreads (λ held. g (f held))
spreads_then f g one two held n =
    two (f held) n ∙ ap (λ z. z || is_in n (g [])) (one held n) ∙ or_assoc (is_in n held) (is_in n (f [])) (is_in n (g [])) ∙ ap (λ z. is_in n held || z) (sym (two (f []) n))

same_or : (a b : Bool) → (b ≡ true → a ≡ true) → a ≡ (a || b)
same_or true b h = refl
same_or false true h = h refl
same_or false false h = refl

spreads_local : (y : ℕ) → Spreads (with_local y)
spreads_local y held n = by (is_in y held) refl where
  here : is_in y held ≡ true → nat_eq n y ≡ true → is_in n held ≡ true
  here inside q = ap (λ z. is_in z held) (eqb-true n y q) ∙ inside

  by : (b : Bool) → is_in y held ≡ b → is_in n (if b then held else held ++ y ∷ []) ≡ (is_in n held || (nat_eq n y || false))
  by true inside = same_or (is_in n held) (nat_eq n y || false) (λ q. here inside (sym (or_false (nat_eq n y)) ∙ q))
  by false outside = list_any-append (nat_eq n) held (y ∷ [])

spreads_local_if : (o : Option ℕ) → Spreads (with_local_if o)
spreads_local_if None = spreads_none
spreads_local_if (Some y) = spreads_local y

spreads_here : (l : LocalTree) → Spreads (assigned_here l)
spreads_here (Set y c label) = spreads_local y
spreads_here (Proof p) = spreads_none

spreads_by : (a : SharedTree) → Spreads (assigned_by a)
spreads_by (Read y c i n ss) = spreads_local y
spreads_by (Peek y c i d) = spreads_local y
spreads_by (Operate a b) = spreads_local_if a.local
spreads_by (Write c i a n ss) = spreads_none
spreads_by (Print l o) = spreads_none

pub spreads : (l : ListTree) → Spreads (assigned_locals l)
spreads (Brace n) = spreads_none
spreads (Do l n rest) = spreads_then (assigned_here l) (assigned_locals rest) (spreads_here l) (spreads rest)
spreads (On a n rest) = spreads_then (assigned_by a) (assigned_locals rest) (spreads_by a) (spreads rest)
spreads (OnWhen a n one two joined rest) =
    spreads_then (with_local_if a.atomic.local) (λ xs. assigned_locals rest (assigned_locals two (assigned_locals one xs))) (spreads_local_if a.atomic.local)
    (spreads_then (assigned_locals one) (λ xs. assigned_locals rest (assigned_locals two xs)) (spreads one) (spreads_then (assigned_locals two) (assigned_locals rest) (spreads two) (spreads rest)))
spreads (If c n one two joined rest) = spreads_then (assigned_locals one) (λ xs. assigned_locals rest (assigned_locals two xs)) (spreads one) (spreads_then (assigned_locals two) (assigned_locals rest) (spreads two) (spreads rest))
spreads (Loop k j n body left rest) = spreads_then (assigned_locals body) (assigned_locals rest) (spreads body) (spreads rest)
spreads (Next j n rest) = spreads rest
spreads (Break j n rest) = spreads rest
spreads (Meet j n rest) = spreads rest
spreads (End j n rest) = spreads rest

-- what is added before a list is there besides
pub added_before : (f : List ℕ → List ℕ) (p : Bool) (rest : ListTree) (held : List ℕ) (n : ℕ) → is_in n (f held) ≡ (p || is_in n held) → is_in n (assigned_locals rest (f held)) ≡ (p || is_in n (assigned_locals rest held))
added_before f p rest held n e =
    spreads rest (f held) n ∙ ap (λ z. z || is_in n (assigned_locals rest [])) e ∙ or_assoc p (is_in n held) (is_in n (assigned_locals rest [])) ∙ ap (λ z. p || z) (sym (spreads rest held n))

pub local_here : (y : ℕ) (held : List ℕ) (n : ℕ) → is_in n (with_local y held) ≡ (nat_eq n y || is_in n held)
local_here y held n = spreads_local y held n ∙ ap (λ z. is_in n held || z) (or_false (nat_eq n y)) ∙ or_swap (is_in n held) (nat_eq n y) where
  or_swap : (a b : Bool) → (a || b) ≡ (b || a)
  or_swap true true = refl
  or_swap true false = refl
  or_swap false true = refl
  or_swap false false = refl

pub one_local : (y : ℕ) (rest : ListTree) (held : List ℕ) (n : ℕ) → is_in n (assigned_locals rest (with_local y held)) ≡ (nat_eq n y || is_in n (assigned_locals rest held))
one_local y rest held n = added_before (with_local y) (nat_eq n y) rest held n (local_here y held n)

pub local_if_here : (o : Option ℕ) (p : Bool) (rest : ListTree) (held : List ℕ) (n : ℕ) → is_in n (with_local_if o held) ≡ (p || is_in n held) → is_in n (assigned_locals rest (with_local_if o held)) ≡ (p || is_in n (assigned_locals rest held))
local_if_here o p rest held n e = added_before (with_local_if o) p rest held n e
