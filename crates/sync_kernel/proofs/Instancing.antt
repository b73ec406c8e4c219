-- `inst`: what the code makes of the newest fact of a name.
use Rattle.std.proofs.Common.{◌≡◌, ℕ, zero, suc, ◌<◌, Bool, true, false, if◌then◌else◌, List, [], ◌∷◌, map, length, Option, Some, None, Result, Ok, Err, refl, sym, ap, subst, ◌∙◌, arith}
use Rattle.std.specs.Prelude.{nat_eq, option_map}
use Rattle.std.specs.Option.{option_map_or}
use Rattle.std.specs.List.{All, AllByRecursion}
use Rattle.std.proofs.lemmas.Bool.{eq-eqb, ne_eqb, cond-true, cond-false}
use Rattle.std.proofs.lemmas.List.{length-map}
use Rattle.sync_base.specs.Outcome.{first}
use Rattle.sync_base.specs.declared.stops.Rule.{Rule}
use Rattle.sync_base.specs.declared.stops.Rule.TheVariants.{K1, K3, K8}
use Rattle.sync_base.specs.declared.stops.Stop.{Stop}
use Rattle.sync_base.specs.declared.stops.Stop.TheVariants.{Refused}
use Rattle.sync_terms.specs.declared.nodes.Sym.{Sym}
use Rattle.sync_terms.specs.declared.nodes.TermId.{TermId}
use Rattle.sync_terms.specs.declared.nodes.FormId.{FormId}
use Rattle.sync_terms.specs.declared.scripts.HypName.{HypName}
use Rattle.sync_terms.specs.declared.store.TermStop.{TermStop}
use Rattle.sync_terms.specs.declared.store.TermStop.TheVariants.{TooLarge}
use Rattle.sync_terms.specs.declared.store.TermStop.TheVariants as term
use Rattle.sync_terms.specs.Trees.{most_nodes}
use Rattle.sync_terms.specs.Trees.{Tree, Name, Formula, Not, formula_size, replaced_in}
use Rattle.sync_terms.specs.Stored.{Stored, tree, formula, IsTerm, IsForm}
use Rattle.sync_terms.specs.Substitution.{term_of, substitution}
use Rattle.sync_kernel_facts.specs.declared.branches.Said.{Said}
use Rattle.sync_kernel_facts.specs.Facts.{Fact, same_name, newest}
use Rattle.sync_kernel_facts.specs.Literals.{literal_form}
use Rattle.sync_kernel_facts.specs.Branches.{said_fact, facts_in, IsSaid, AreSaid, newest_said}
use Rattle.sync_kernel.specs.Readings.{ArePaired}
use Rattle.sync_kernel.specs.Taking.{all_fit, by_params, fitting_terms, instance}
use Rattle.sync_kernel.specs.Holding.{Makes, large_stop}
use Rattle.sync_kernel_facts.proofs.Stacking.{newest_in}
use Rattle.sync_kernel.proofs.Stepping.{large_stops}

abbrev pub numbers : List Sym → List ℕ
numbers ps = map (λ (p : Sym). p.0) ps

pub pairs_stored : (s : Stored) (pairs : List (Sym × TermId)) → AllByRecursion (λ (p : Sym × TermId). IsTerm s p.1) pairs → All (λ (p : Sym × TermId). IsTerm s p.1) pairs
pairs_stored s [] h k d lt = absurd (omega arith)
pairs_stored s (p ∷ ps) h zero d lt = h.0
pairs_stored s (p ∷ ps) h (suc k) d lt = pairs_stored s ps h.1 k d (omega arith)

option_if : (s : Stored) (b : Bool) (t : TermId) (o : Option TermId) (x : Tree) → option_map_or (tree s) (if b then Some t else o) x ≡ (if b then tree s t else option_map_or (tree s) o x)
option_if s true t o x = refl
option_if s false t o x = refl

-- each parameter becomes the term at its place
pairs_at : (s : Stored) (pairs : List (Sym × TermId)) (x : ℕ) → substitution s pairs x ≡ by_params (numbers (map (λ (p : Sym × TermId). p.0) pairs)) (map (λ (p : Sym × TermId). tree s p.1) pairs) x
pairs_at s [] x = refl
pairs_at s (p ∷ ps) x =
    option_if s (nat_eq p.0.0 x) p.1 (term_of ps x) (Name x) ∙ ap (λ (o : Tree). if nat_eq p.0.0 x then tree s p.1 else o) (pairs_at s ps x)

pub pairs_are : (s : Stored) (params : List Sym) (terms : List Tree) (pairs : List (Sym × TermId)) → ArePaired s params terms pairs → substitution s pairs ≡ by_params (numbers params) terms
pairs_are s params terms pairs h =
    (λ i x. pairs_at s pairs x i) ∙ ap (λ (ps : List Sym). by_params (numbers ps) (map (λ (p : Sym × TermId). tree s p.1) pairs)) h.named ∙ ap (by_params (numbers params)) h.read

-- what the instance says
abbrev pub instance_form : Stored → Said → List Tree → Formula
instance_form s x terms = replaced_in (by_params (numbers x.params) terms) (literal_form s x.says)

module _ (s : Stored) (xs : List Said) (name : HypName) (terms : List Tree) where
  pub no_instance : newest_said name xs ≡ None → instance (newest name (facts_in s xs)) terms ≡ Err K1
  no_instance e = ap (λ (o : Option Fact). instance o terms) (newest_in s name xs ∙ ap (option_map (said_fact s)) e)

  found : (x : Said) → newest_said name xs ≡ Some x → instance (newest name (facts_in s xs)) terms
      ≡ (if nat_eq (length (numbers x.params)) (length terms) then fitting_terms terms (instance_form s x terms) else Err K3)
  found x e = ap (λ (o : Option Fact). instance o terms) (newest_in s name xs ∙ ap (option_map (said_fact s)) e)

  lengths : (x : Said) → length (numbers x.params) ≡ length x.params
  lengths x = length-map x.params (λ (p : Sym). p.0)

  pub other_number : (x : Said) → newest_said name xs ≡ Some x → (length x.params ≡ length terms → ⊥) → instance (newest name (facts_in s xs)) terms ≡ Err K3
  other_number x e ne =
      found x e ∙ cond-false (nat_eq (length (numbers x.params)) (length terms)) (fitting_terms terms (instance_form s x terms)) (Err K3)
      (ne_eqb (length (numbers x.params)) (length terms) (λ q. ne (sym (lengths x) ∙ q)))

  pub same_number : (x : Said) → newest_said name xs ≡ Some x → length x.params ≡ length terms → instance (newest name (facts_in s xs)) terms ≡ fitting_terms terms (instance_form s x terms)
  same_number x e same =
      found x e ∙ cond-true (nat_eq (length (numbers x.params)) (length terms)) (fitting_terms terms (instance_form s x terms)) (Err K3)
      (eq-eqb (length (numbers x.params)) (length terms) (lengths x ∙ same))

  pub instance_is : (x : Said) → newest_said name xs ≡ Some x → length x.params ≡ length terms → all_fit terms ≡ true → instance (newest name (facts_in s xs)) terms ≡ Ok (instance_form s x terms)
  instance_is x e same fit = same_number x e same ∙ cond-true (all_fit terms) (Ok (instance_form s x terms)) (Err K8) fit

pub makes_rule : (s : Stored) (line : ℕ) (e : Stop) (rule : Rule) (wanted : Result Formula Rule) → e ≡ Refused (record { line = line; rule = rule }) → wanted ≡ Err rule → Makes s line (Err e) wanted
makes_rule s line e rule wanted is w =
    subst (λ (x : Stop). Makes s line (Err x) wanted) (sym is) (subst (Makes s line (Err (Refused (record { line = line; rule = rule })))) (sym w) refl)

-- where a term is too large
pub terms_stop : (s t : Stored) (line : ℕ) (x : Said) (terms : List Tree) (wanted : Result Formula Rule) (stop : TermStop) (e : Stop) → wanted ≡ fitting_terms terms (instance_form s x terms) → e ≡ large_stop line stop
    → (stop ≡ TooLarge → all_fit terms ≡ false) → Makes t line (Err e) wanted
terms_stop s t line x terms wanted TooLarge e is at h =
    makes_rule t line e K8 wanted at (is ∙ cond-false (all_fit terms) (Ok (instance_form s x terms)) (Err K8) (h refl))
terms_stop s t line x terms wanted term.Memory e is at h = subst (λ (y : Stop). Makes t line (Err y) wanted) (sym at) tt

-- the literal of a formula with its symbols replaced
literal_by : (s t : Stored) (f : ℕ → Tree) (was id : FormId) (negated : Bool) → formula t id ≡ replaced_in f (formula s was) → (if negated then Not (formula t id) else formula t id) ≡ replaced_in f (if negated then Not (formula s was) else formula s was)
unfolding replaced_in
literal_by s t f was id true e = ap Not e
literal_by s t f was id false e = e

size_by : (s : Stored) (f : ℕ → Tree) (was : FormId) (negated : Bool) → most_nodes < formula_size (replaced_in f (formula s was)) → most_nodes < formula_size (replaced_in f (if negated then Not (formula s was) else formula s was))
unfolding replaced_in formula_size
size_by s f was true h = omega (arith, h)
size_by s f was false h = h

-- over a store that has grown since, where the pairs stand
module _ (s t u : Stored) (line : ℕ) (x : Said) (terms : List Tree) (pairs : List (Sym × TermId)) (wanted : Result Formula Rule) (is : wanted ≡ Ok (instance_form s x terms)) (paired : ArePaired t x.params terms pairs) (same : formula t x.says.form ≡ formula s x.says.form) where
  by_pairs : replaced_in (substitution t pairs) (formula t x.says.form) ≡ replaced_in (by_params (numbers x.params) terms) (formula s x.says.form)
  by_pairs = ap (λ (f : ℕ → Tree). replaced_in f (formula t x.says.form)) (pairs_are t x.params terms pairs paired) ∙ ap (replaced_in (by_params (numbers x.params) terms)) same

  pub instance_made : (id : FormId) → IsForm u id → formula u id ≡ replaced_in (substitution t pairs) (formula t x.says.form) → Makes u line (Ok (record { form = id; negated = x.says.negated })) wanted
  instance_made id stored e =
      subst (Makes u line (Ok (record { form = id; negated = x.says.negated }))) (sym is)
      (literal_by s u (by_params (numbers x.params) terms) x.says.form id x.says.negated (e ∙ by_pairs), stored)

  pub instance_stops : (stop : TermStop) (e : Stop) → e ≡ large_stop line stop → (stop ≡ TooLarge → most_nodes < formula_size (replaced_in (substitution t pairs) (formula t x.says.form))) → Makes u line (Err e) wanted
  instance_stops stop e at h =
      subst (Makes u line (Err e)) (sym is)
      (large_stops u line stop e (instance_form s x terms) at
      (λ q. size_by s (by_params (numbers x.params) terms) x.says.form x.says.negated (subst (λ (f : Formula). most_nodes < formula_size f) by_pairs (h q))))

-- ---- the newest fact of a name is stored

newest_or : (s : Stored) (b : Bool) (x y : Said) (o : Option Said) → IsSaid s x → (o ≡ Some y → IsSaid s y) → first o (if b then Some x else None) ≡ Some y → IsSaid s y
newest_or s b x y (Some z) h k e = k e
newest_or s true x y None h k e = subst (IsSaid s) (let p : x ≡ y = cc in p) h
newest_or s false x y None h k e = absurd (cc)

pub found_said : (s : Stored) (name : HypName) (xs : List Said) (y : Said) → AreSaid s xs → newest_said name xs ≡ Some y → IsSaid s y
found_said s name [] y h e = absurd (cc)
found_said s name (x ∷ xs) y h e = newest_or s (same_name x.name name) x y (newest_said name xs) h.0 (found_said s name xs y h.1) e
