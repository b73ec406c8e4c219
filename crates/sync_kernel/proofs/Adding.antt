-- The steps that add facts, one by one: what the code answers against what is defined.
use Rattle.std.proofs.Common.{◌≡◌, ℕ, ◌+◌, Bool, true, false, if◌then◌else◌, List, [], ◌∷◌, ◌++◌, map, Option, Some, None, Result, Ok, Err, refl, sym, ap, subst, ◌∙◌}
use Rattle.std.specs.Prelude.{not, nat_lt, option_map, IfOk}
use Rattle.std.proofs.lemmas.Bool.{cond-true, cond-false}
use Rattle.std.proofs.lemmas.List.{map_push}
use Rattle.sync_base.specs.Outcome.{◌>>=◌}
use Rattle.sync_base.specs.declared.stops.Rule.TheVariants.{K1, K2, K8}
use Rattle.sync_base.specs.declared.stops.Stop.{Stop}
use Rattle.sync_base.specs.declared.stops.Stop.TheVariants.{Refused, Memory}
use Rattle.sync_terms.specs.declared.nodes.Sym.{Sym}
use Rattle.sync_terms.specs.declared.nodes.FormId.{FormId}
use Rattle.sync_terms.specs.declared.scripts.HypName.{HypName}
use Rattle.sync_terms.specs.declared.scripts.HypName.TheVariants.{Denied}
use Rattle.sync_terms.specs.declared.store.TermStop.{TermStop}
use Rattle.sync_terms.specs.declared.store.TermStop.TheVariants as term
use Rattle.sync_terms.specs.Trees.{most_nodes}
use Rattle.sync_terms.specs.Trees.{Formula, neg, formula_size}
use Rattle.sync_terms.specs.Values.{Hypothesis}
use Rattle.sync_terms.specs.Stored.{Stored, Extends, IsForm, formula}
use Rattle.sync_terms.specs.Building.{BuildsForm, StopsBuilding}
use Rattle.sync_kernel_facts.specs.declared.literals.Literal.{Literal}
use Rattle.sync_kernel.specs.declared.splits.Pair.{Pair}
use Rattle.sync_kernel_facts.specs.declared.branches.Said.{Said}
use Rattle.sync_kernel_facts.specs.declared.branches.Known.{Known}
use Rattle.sync_kernel_facts.specs.declared.sequents.Hyp.{Hyp}
use Rattle.sync_kernel_facts.specs.Facts.{Fact, fact_of, denied, as_hypothesis, named, facts_size, is_plain}
use Rattle.sync_kernel_facts.specs.Literals.{literal_form, IsLiteral}
use Rattle.sync_kernel.specs.Pairs.{pair_forms, TakesApart}
use Rattle.sync_kernel_facts.specs.Branches.{said_fact, facts_in, IsSaid, AreSaid, said_size, Begins}
use Rattle.sync_kernel.specs.Taking.{Two, parts_of, plain_fact, taken}
use Rattle.sync_kernel.specs.Scripts.{with_fact, fitting, Cases, cases_with, both_fitting, with_cut}
use Rattle.sync_kernel.specs.Holding.{IsKnown, StopsFor, Leaves, large_stop}
use Rattle.sync_kernel.proofs.Fitting.{facts-push, facts-more, fits_with, fitting_if, not_fitting, still_not_fitting, both_not_fitting, right_not_fitting, AreSaid-push, Begins-refl, Begins-push}
use Rattle.sync_kernel.proofs.Stepping.{leaves_ok, stops_at, stops_memory}

-- ---- one fact more
module _ (s : Stored) (xs : List Said) (name : ℕ) (form : Formula) (x : Said) (h : AreSaid s xs) (k : IsSaid s x) (e : said_fact s x ≡ named name form) where
  size_is : x.size ≡ formula_size form
  size_is = k.1 ∙ ap (λ (f : Fact). formula_size f.form) e

  pub add_stops : (line : ℕ) (stop : Stop) → stop ≡ Refused (record { line = line; rule = K8 }) → false ≡ not (nat_lt most_nodes (said_size xs + x.size)) → StopsFor line stop (fitting (with_fact (facts_in s xs) name form))
  add_stops line stop is f =
      stops_at line stop K8 (fitting (with_fact (facts_in s xs) name form)) is (fitting_if (with_fact (facts_in s xs) name form) false (fits_with s xs name x.size form false h size_is f))

  pub add_leaves : (line : ℕ) (new : List Said) → new ≡ xs ++ x ∷ [] → true ≡ not (nat_lt most_nodes (said_size xs + x.size))
      → Leaves {A = Unit {0}} line (Ok tt) (λ _ known. facts_in s new ≡ known) (fitting (with_fact (facts_in s xs) name form))
  add_leaves line new is f =
      leaves_ok {A = Unit {0}} line (λ _ known. facts_in s new ≡ known) tt (with_fact (facts_in s xs) name form) (fitting (with_fact (facts_in s xs) name form))
      (fitting_if (with_fact (facts_in s xs) name form) true (fits_with s xs name x.size form true h size_is f)) (ap (facts_in s) is ∙ facts-push s xs x name form e)

pub add_said : (s : Stored) (xs new : List Said) (x : Said) → AreSaid s xs → IsSaid s x → new ≡ xs ++ x ∷ [] → AreSaid s new
add_said s xs new x h k is = subst (AreSaid s) (sym is) (AreSaid-push s xs x h k)

pub add_begins : (xs new : List Said) (x : Said) → new ≡ xs ++ x ∷ [] → Begins xs new
add_begins xs new x is = subst (Begins xs) (sym is) (Begins-push xs xs x (Begins-refl xs))

-- ---- a formula that was built

pub built_form : (s : Stored) (f : Formula) (r : Result FormId TermStop) → BuildsForm s f r → IfOk r (IsForm s)
built_form s f (Ok id) h = h.value.stored
built_form s f (Err e) h = tt

pub built_stops : (s : Stored) (line : ℕ) (r : Result FormId TermStop) (stop : TermStop) (e : Stop) (f : Formula) (fs : List Fact) (name : ℕ) → r ≡ Err stop → e ≡ large_stop line stop → BuildsForm s f r → StopsFor line e (fitting (with_fact fs name f))
built_stops s line (Ok id) stop e f fs name q is h = absurd (cc)
built_stops s line (Err term.TooLarge) stop e f fs name q is h = stops_at line e K8 (fitting (with_fact fs name f)) (is ∙ ap (large_stop line) (let p : stop ≡ term.TooLarge = cc in p)) (not_fitting fs name f h.stop)
built_stops s line (Err term.Memory) stop e f fs name q is h = stops_memory line e (fitting (with_fact fs name f)) (is ∙ ap (large_stop line) (let p : stop ≡ term.Memory = cc in p))

pub built_says : (s : Stored) (r : Result FormId TermStop) (id : FormId) (l : Literal) (f : Formula) → r ≡ Ok id → BuildsForm s f r → literal_form s l ≡ formula s id → literal_form s l ≡ f
built_says s (Ok x) id l f q h e = e ∙ ap (formula s) (let p : id ≡ x = cc in p) ∙ h.value.value
built_says s (Err x) id l f q h e = absurd (cc)

-- the same over a store that had gained less
pub leaves_from : (s t : Stored) (xs now : List Said) (line name : ℕ) (f : Formula) (r : Result (Unit {0}) Stop) → Extends s t → AreSaid s xs
    → Leaves line r (λ _ known. facts_in t now ≡ known) (fitting (with_fact (facts_in t xs) name f)) → Leaves line r (λ _ known. facts_in t now ≡ known) (fitting (with_fact (facts_in s xs) name f))
leaves_from s t xs now line name f r more said h = subst (λ (fs : List Fact). Leaves line r (λ _ known. facts_in t now ≡ known) (fitting (with_fact fs name f))) (facts-more s t xs more said) h

-- ---- a fact without parameters

pub none_known : (s : Stored) (k : Option Known) (o : Option Fact) → k ≡ None → IsKnown s k o → plain_fact o ≡ Err K1
none_known s None None e h = refl
none_known s None (Some f) e h = absurd h
none_known s (Some k) o e h = absurd (cc)

pub plain_leaves : (s : Stored) (line : ℕ) (known : Option Known) (k : Known) (o : Option Fact) → known ≡ Some k → IsKnown s known o → k.plain ≡ true
    → Leaves line (Ok k.says) (λ (l : Literal) (f : Fact). (literal_form s l ≡ f.form) × IsLiteral s l) (plain_fact o)
plain_leaves s line None k o e h p = absurd (cc)
plain_leaves s line (Some j) k None e h p = absurd h
plain_leaves s line (Some j) k (Some f) e h p =
    let same : j ≡ k = cc in
    let i = subst (λ (x : Known). (literal_form s x.says ≡ f.form) × (x.plain ≡ is_plain f) × IsLiteral s x.says) same h in
    leaves_ok line (λ (l : Literal) (f : Fact). (literal_form s l ≡ f.form) × IsLiteral s l) k.says f (plain_fact (Some f)) (cond-true (is_plain f) (Ok f) (Err K2) (sym i.1 ∙ p)) (i.0, i.2)

pub plain_stops : (s : Stored) (known : Option Known) (k : Known) (o : Option Fact) → known ≡ Some k → IsKnown s known o → k.plain ≡ false → plain_fact o ≡ Err K2
plain_stops s None k o e h p = absurd (cc)
plain_stops s (Some j) k None e h p = absurd h
plain_stops s (Some j) k (Some f) e h p = let same : j ≡ k = cc in cond-false (is_plain f) (Ok f) (Err K2) (sym h.1 ∙ ap (λ (x : Known). x.plain) same ∙ p)

-- ---- `parts`

still_by : (line : ℕ) (e : Stop) (fs : List Fact) (left right : ℕ) (f g : Formula) (b : Bool) → nat_lt most_nodes (facts_size (with_fact fs left f)) ≡ b → StopsFor line e (if b then Err K8 else Ok (with_fact fs left f))
    → StopsFor line e (fitting (with_fact (with_fact fs left f) right g))
still_by line Memory fs left right f g b is h = tt
still_by line (Refused r) fs left right f g true is h = stops_at line (Refused r) K8 (fitting (with_fact (with_fact fs left f) right g)) (ap Refused h) (still_not_fitting fs left right f g is)
still_by line (Refused r) fs left right f g false is h = absurd h

-- where the first of two facts is too much, both are
pub still_stops : (line : ℕ) (e : Stop) (fs : List Fact) (left right : ℕ) (f g : Formula) → StopsFor line e (fitting (with_fact fs left f)) → StopsFor line e (fitting (with_fact (with_fact fs left f) right g))
still_stops line e fs left right f g h = still_by line e fs left right f g (nat_lt most_nodes (facts_size (with_fact fs left f))) refl h

pub parts_taken : (s : Stored) (says : Literal) (p : Pair) (f : Fact) (o : Option Pair) → literal_form s says ≡ f.form → option_map (pair_forms s) o ≡ parts_of (literal_form s says) → o ≡ Some p → taken (parts_of f.form) ≡ Ok (pair_forms s p)
parts_taken s says p f o e h is = ap (λ (x : Formula). taken (parts_of x)) (sym e) ∙ ap taken (sym h ∙ ap (option_map (pair_forms s)) is)

-- ---- `split`

pub cases_taken : (s : Stored) (p : Pair) (o : Option Two) → TakesApart s (Ok (Some p)) o → taken o ≡ Ok (pair_forms s p)
cases_taken s p None h = absurd h
cases_taken s p (Some two) h = ap Ok (sym h.0)

pub cases_stop : (s : Stored) (line name : ℕ) (stop : TermStop) (e : Stop) (fs : List Fact) (o : Option Two) → e ≡ large_stop line stop → TakesApart s (Err stop) o → StopsFor line e (taken o >>= (λ (t : Two). both_fitting fs name t))
cases_stop s line name term.Memory e fs o is h = stops_memory line e (taken o >>= (λ (t : Two). both_fitting fs name t)) is
cases_stop s line name term.TooLarge e fs None is h = absurd h
cases_stop s line name term.TooLarge e fs (Some two) is h = stops_at line e K8 (both_fitting fs name two) is (both_not_fitting fs name two h)

-- the formula of a `cut` that is too large
pub cut_large : (line name : ℕ) (stop : TermStop) (e : Stop) (fs : List Fact) (form : Formula) → e ≡ large_stop line stop → StopsBuilding (formula_size form) stop → StopsFor line e (with_cut fs form name)
cut_large line name term.Memory e fs form is h = stops_memory line e (with_cut fs form name) is
cut_large line name term.TooLarge e fs form is h = stops_at line e K8 (with_cut fs form name) is (right_not_fitting fs name (record { left = neg form; right = form }) h)

-- the two facts over a store that had gained less
pub cases_from : (s t : Stored) (xs : List Said) (line name : ℕ) (forms : Two) (r : Result Pair Stop) → Extends s t → AreSaid s xs
    → Leaves line r (λ (p : Pair) (c : Cases). c ≡ cases_with (facts_in t xs) name (pair_forms t p)) (both_fitting (facts_in t xs) name forms)
    → Leaves line r (λ (p : Pair) (c : Cases). c ≡ cases_with (facts_in s xs) name (pair_forms t p)) (both_fitting (facts_in s xs) name forms)
cases_from s t xs line name forms r more said h =
    subst (λ (fs : List Fact). Leaves line r (λ (p : Pair) (c : Cases). c ≡ cases_with fs name (pair_forms t p)) (both_fitting fs name forms)) (facts-more s t xs more said) h

-- ---- the facts that a script begins with

pub start_fact : (s : Stored) (x : Said) (claim : FormId) → x.name ≡ Denied → x.params ≡ [] → literal_form s x.says ≡ neg (formula s claim) → said_fact s x ≡ denied s claim
start_fact s x claim n p f =
    ap (λ (m : HypName). record { name = m; params = map (λ (q : Sym). q.0) x.params; form = literal_form s x.says }) n
    ∙ ap (λ (ps : List Sym). record { name = Denied; params = map (λ (q : Sym). q.0) ps; form = literal_form s x.says }) p
    ∙ ap (λ (g : Formula). record { name = Denied; params = []; form = g }) f

pub started_facts : (s : Stored) (xs new : List Said) (x : Said) (hyps : List Fact) (claim : FormId) → new ≡ xs ++ x ∷ [] → facts_in s xs ≡ hyps → said_fact s x ≡ denied s claim → facts_in s new ≡ hyps ++ denied s claim ∷ []
started_facts s xs new x hyps claim is h e =
    ap (facts_in s) is ∙ map_push (said_fact s) xs x ∙ ap (λ (fs : List Fact). fs ++ said_fact s x ∷ []) h ∙ ap (λ (f : Fact). hyps ++ f ∷ []) e

pub given_map : (s : Stored) (hs : List Hyp) → map as_hypothesis (map (fact_of s) hs) ≡ map (λ (h : Hyp). as_hypothesis (fact_of s h)) hs
given_map s [] = refl
given_map s (h ∷ hs) = ap (λ (gs : List Hypothesis). as_hypothesis (fact_of s h) ∷ gs) (given_map s hs)
