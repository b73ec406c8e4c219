-- What it says of an environment that a row went well.
use Rattle.std.specs.Prelude.{◌≡◌, ℕ, Bool, true, false, ◌&&◌, not, if◌then◌else◌, nat_lt, List, [], ◌∷◌, ◌++◌, Option, Some, None, Result, Ok, Err}
use Rattle.std.specs.List.{list_all}
use Rattle.sync_base.specs.Outcome.{◌>>=◌}
use Rattle.sync_base.specs.declared.stops.Rule.TheVariants.{T2, K8}
use Rattle.sync_terms.specs.Trees.{most_nodes, Tree, Formula, tree_size, formula_size, replaced_in}
use Rattle.sync_kernel_facts.specs.Facts.{named}
use Rattle.sync_typing.specs.Blocks.{fact_made}
use Rattle.sync_typing.specs.Dues.{Wants, pay, spare, row, new_names_due, are_apart}
use Rattle.sync_typing.specs.Environments.{Env, Outcome, Tokens, refused, fits, is_held, hand_after, take_in, tell}
use mathlib.Core.Path.{refl, sym, ap}

pub ok_same : {A B : Type 0} (a b : A) → (let r : Result A B = Ok a in r) ≡ Ok b → a ≡ b
ok_same {A} {B} a b e = ap (λ (r : Result A B). of r) e where
  of : Result A B → A
  of (Ok z) = z
  of (Err h) = a

pub bind_ok : {X Y : Type 0} (r : Outcome X) (f : X → Outcome Y) (y : Y) → (r >>= f) ≡ Ok y → (z : X) × (r ≡ Ok z) × (f z ≡ Ok y)
bind_ok (Ok z) f y e = (z, refl, e)
bind_ok (Err h) f y e = absurd (cc)

pub fits_ok : {X : Type 0} (line n : ℕ) (r : Outcome X) (y : X) → fits line n r ≡ Ok y → r ≡ Ok y
fits_ok {X} line n r y e = tested (nat_lt most_nodes n) e where
  tested : (b : Bool) → (if b then refused line K8 else r) ≡ Ok y → r ≡ Ok y
  tested true e = absurd (cc)
  tested false e = e

abbrev pub told : Option ℕ → Formula → Env → Env
told None form e = e
told (Some n) form e = record { terms = e.terms; hand = e.hand; facts = e.facts ++ named n form ∷ []; fresh = e.fresh }

pub tell_ok : (line : ℕ) (label : Option ℕ) (form : Formula) (e d : Env) → tell line label form e ≡ Ok d → d ≡ told label form e
tell_ok line None form e d is = sym (ok_same e d is)
tell_ok line (Some n) form e d is = sym (ok_same (told (Some n) form e) d (fits_ok line (formula_size form) (Ok (told (Some n) form e)) d is))

pub fact_ok : (line : ℕ) (s : ℕ → Tree) (f : Option Formula) (next : Outcome Env) (d : Env) → fact_made line s f next ≡ Ok d → next ≡ Ok d
fact_ok line s None next d is = is
fact_ok line s (Some f) next d is = fits_ok line (formula_size (replaced_in s f)) next d is

-- tokens come in where their terms are made
abbrev makes : ℕ → Outcome Env → Tokens → Outcome Env
makes line r [] = r
makes line r (t ∷ ts) = fits line (tree_size t.1.key) (fits line (tree_size t.1.value) (makes line r ts))

makes_ok : (line : ℕ) (r : Outcome Env) (ts : Tokens) (d : Env) → makes line r ts ≡ Ok d → r ≡ Ok d
makes_ok line r [] d is = is
makes_ok line r (t ∷ ts) d is = makes_ok line r ts d (fits_ok line (tree_size t.1.value) (makes line r ts) d (fits_ok line (tree_size t.1.key) _ d is))

pub takes_in : (line : ℕ) (gone : List ℕ) (new : Tokens) (e d : Env) → take_in line gone new e ≡ Ok d → d ≡ record { terms = e.terms; hand = hand_after gone new e.hand; facts = e.facts; fresh = e.fresh }
takes_in line gone new e d is = sym (ok_same (let r : Env = record { terms = e.terms; hand = hand_after gone new e.hand; facts = e.facts; fresh = e.fresh } in r) d (makes_ok line (Ok (record { terms = e.terms; hand = hand_after gone new e.hand; facts = e.facts; fresh = e.fresh })) new d is))

-- a row that wants new names alone
pub new_ok : {X : Type 0} (line : ℕ) (e : Env) (ns : List ℕ) (next : Outcome X) (y : X) → row e line (new_names_due e ns ∷ []) [] next ≡ Ok y → ((list_all (λ n. not (is_held e n)) ns && are_apart ns) ≡ true) × (next ≡ Ok y)
new_ok {X} line e ns next y is = tested (list_all (λ n. not (is_held e n)) ns && are_apart ns) refl is where
  tested : (b : Bool) → (list_all (λ n. not (is_held e n)) ns && are_apart ns) ≡ b → (pay e line (Wants T2 b ∷ []) [] >>= (λ left. spare left next)) ≡ Ok y → ((list_all (λ n. not (is_held e n)) ns && are_apart ns) ≡ true) × (next ≡ Ok y)
  tested true c is = (c, is)
  tested false c is = absurd (cc)
