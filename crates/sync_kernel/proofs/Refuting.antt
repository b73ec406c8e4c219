-- A block that breaks no rule closes its branch: no valuation makes all facts of the branch true.
use Rattle.std.proofs.Common.{◌≡◌, ◌⊎◌, inl, inr, ℕ, Bool, true, false, ◌||◌, if◌then◌else◌, List, [], ◌∷◌, ◌++◌, map, length, Option, Some, None, Result, Ok, Err, refl, ap, subst, ◌∙◌}
use Rattle.std.specs.Prelude.{not, nat_eq, nat_lt, OnOk}
use Rattle.std.specs.List.{AllByRecursion}
use Rattle.std.proofs.lemmas.Bool.{cases_Bool}
use Rattle.sync_base.proofs.Basics.{first_none}
use Rattle.sync_base.specs.Outcome.{first, Passes, ◌>>=◌}
use Rattle.sync_base.specs.declared.stops.Refusal.{Refusal}
use Rattle.sync_base.specs.declared.stops.Rule.{Rule}
use Rattle.sync_base.specs.declared.stops.Rule.TheVariants.{K2, K3, K8}
use Rattle.sync_base.specs.declared.stops.Stop.{Stop}
use Rattle.sync_terms.specs.declared.scripts.HypName.{HypName}
use Rattle.sync_terms.specs.Trees.{most_nodes}
use Rattle.sync_terms.specs.Trees.{Tree, Formula, neg, replaced_in}
use Rattle.sync_terms.specs.Values.{Valuation, truth, Holds, HoldsForAll, Hypothesis, IsValid}
use Rattle.sync_terms.specs.Plans.{Plan, End, Same, Sum, Inst, Parts, Split, Cut, Read, Size, Total, Cong}
use Rattle.sync_terms.proofs.Meaning.{truth-neg}
use Rattle.sync_kernel_facts.specs.Lemmas.{cong_fact, read_fact, size_fact, total_fact}
use Rattle.sync_kernel_facts.specs.Laws.{AreTrue}
use Rattle.sync_kernel_facts.specs.Facts.{Fact, same_name, newest, denial, as_hypothesis, facts_size, no_params, is_plain}
use Rattle.sync_kernel.specs.Steps.{at_line, same_fault, sum_fault}
use Rattle.sync_kernel.specs.Taking.{all_fit, fitting_terms, Two, parts_of, cases_of, plain_fact, taken, by_params, instance}
use Rattle.sync_kernel.specs.Scripts.{with_fact, fitting, with_instance, with_parts, Cases, cases_with, both_fitting, with_cases, with_cut, after, going, block_fault, script_fault}
use Rattle.sync_kernel.proofs.Sound.{AllHold, sum_refutes}
use Rattle.sync_kernel.proofs.Opposing.{same_refutes}
use Rattle.sync_kernel.proofs.Instances.{instance_holds}
use Rattle.sync_kernel.proofs.Takings.{parts_hold, cases_hold}

-- every fact holds, whatever its parameters stand for
abbrev pub FactsHold : Valuation → List Fact → Type 0
FactsHold v fs = AllByRecursion (λ (f : Fact). HoldsForAll f.params v f.form) fs

plain_holds : (v : Valuation) (ps : List ℕ) (f : Formula) → HoldsForAll ps v f → no_params ps ≡ true → Holds v f
plain_holds v [] f h e = h
plain_holds v (p ∷ ps) f h e = absurd (cc)

all_hold : (v : Valuation) (fs : List Fact) → FactsHold v fs → AllHold v fs
all_hold v [] h = tt
all_hold v (f ∷ fs) h = (λ p. plain_holds v f.params f.form h.0 p, all_hold v fs h.1)

one_more : (v : Valuation) (fs : List Fact) (name : ℕ) (form : Formula) → FactsHold v fs → Holds v form → FactsHold v (with_fact fs name form)
one_more v [] name form h k = (k, tt)
one_more v (f ∷ fs) name form h k = (h.0, one_more v fs name form h.1 k)

-- ---- the fact of a name
head_is : (g f : Fact) (b : Bool) → (if b then Some g else None) ≡ Some f → g ≡ f
head_is g f true e = cc
head_is g f false e = absurd (cc)

named_step : (v : Valuation) (name : HypName) (g f : Fact) (o : Option Fact) → HoldsForAll g.params v g.form → (o ≡ Some f → HoldsForAll f.params v f.form)
    → first o (if same_name g.name name then Some g else None) ≡ Some f → HoldsForAll f.params v f.form
named_step v name g f None h k e = subst (λ (x : Fact). HoldsForAll x.params v x.form) (head_is g f (same_name g.name name) e) h
named_step v name g f (Some x) h k e = k e

named_holds : (v : Valuation) (name : HypName) (fs : List Fact) → FactsHold v fs → (f : Fact) → newest name fs ≡ Some f → HoldsForAll f.params v f.form
named_holds v name [] h f e = absurd (cc)
named_holds v name (g ∷ gs) h f e = named_step v name g f (newest name gs) h.0 (λ q. named_holds v name gs h.1 f q) e

-- ---- what a step that goes on has

nothing_at : (line : ℕ) (o : Option Rule) → at_line line o ≡ None → o ≡ None
nothing_at line None e = refl
nothing_at line (Some r) e = absurd (cc)

went : {X : Type 0} (line : ℕ) (r : Result X Rule) (k : X → Option Refusal) → going line r k ≡ None → (x : X) × (r ≡ Ok x) × (k x ≡ None)
went line (Ok x) k e = (x, refl, e)
went line (Err rule) k e = absurd (cc)

bound : {X Y : Type 0} (r : Result X Rule) (k : X → Result Y Rule) (y : Y) → (r >>= k) ≡ Ok y → (x : X) × (r ≡ Ok x) × (k x ≡ Ok y)
bound (Ok x) k y e = (x, refl, e)
bound (Err rule) k y e = absurd (cc)

fitted : (b : Bool) (fs known : List Fact) → ◌≡◌ {A = Result (List Fact) Rule} (if b then Err K8 else Ok fs) (Ok known) → fs ≡ known
fitted true fs known e = absurd (cc)
fitted false fs known e = cc

fitting_is : (fs known : List Fact) → fitting fs ≡ Ok known → fs ≡ known
fitting_is fs known e = fitted (nat_lt most_nodes (facts_size fs)) fs known e

cases_fitted : (b : Bool) (x y : Cases) → ◌≡◌ {A = Result Cases Rule} (if b then Err K8 else Ok x) (Ok y) → x ≡ y
cases_fitted true x y e = absurd (cc)
cases_fitted false x y e = cc

both_are : (fs : List Fact) (name : ℕ) (forms : Two) (y : Cases) → both_fitting fs name forms ≡ Ok y → cases_with fs name forms ≡ y
both_are fs name forms y e = cases_fitted (nat_lt most_nodes (facts_size (with_fact fs name forms.left)) || nat_lt most_nodes (facts_size (with_fact fs name forms.right))) (cases_with fs name forms) y e

plain_if : (f g : Fact) (b : Bool) → ◌≡◌ {A = Result Fact Rule} (if b then Ok f else Err K2) (Ok g) → (b ≡ true) × (f ≡ g)
plain_if f g true e = (refl, (cc))
plain_if f g false e = absurd (cc)

plain_found : (v : Valuation) (fs : List Fact) (hyp : HypName) → FactsHold v fs → (g : Fact) → plain_fact (newest hyp fs) ≡ Ok g → Holds v g.form
plain_found v fs hyp h g e = by (newest hyp fs) refl e
  where
    by : (o : Option Fact) → newest hyp fs ≡ o → plain_fact o ≡ Ok g → Holds v g.form
    by None q r = absurd (cc)
    by (Some f) q r =
        let p = plain_if f g (is_plain f) r in
        subst (λ (x : Fact). Holds v x.form) p.1 (plain_holds v f.params f.form (named_holds v hyp fs h f q) p.0)

taken_is : (o : Option Two) (t : Two) → taken o ≡ Ok t → o ≡ Some t
taken_is None t e = absurd (cc)
taken_is (Some x) t e = cc

instance_if : (f g : Formula) (terms : List Tree) (b : Bool) → ◌≡◌ {A = Result Formula Rule} (if b then fitting_terms terms f else Err K3) (Ok g) → f ≡ g
instance_if f g terms true e = by (all_fit terms) e
  where
    by : (a : Bool) → ◌≡◌ {A = Result Formula Rule} (if a then Ok f else Err K8) (Ok g) → f ≡ g
    by true h = cc
    by false h = absurd (cc)
instance_if f g terms false e = absurd (cc)

instance_found : (v : Valuation) (fs : List Fact) (hyp : HypName) (terms : List Tree) → FactsHold v fs → (form : Formula) → instance (newest hyp fs) terms ≡ Ok form → Holds v form
instance_found v fs hyp terms h form e = by (newest hyp fs) refl e
  where
    by : (o : Option Fact) → newest hyp fs ≡ o → instance o terms ≡ Ok form → Holds v form
    by None q r = absurd (cc)
    by (Some f) q r =
        subst (λ (x : Formula). Holds v x) (instance_if (replaced_in (by_params f.params terms) f.form) form terms (nat_eq (length f.params) (length terms)) r)
        (instance_holds v f.params terms f.form (named_holds v hyp fs h f q))

-- ---- the steps
module _ (laws : AreTrue) (v : Valuation) where
  fits_hold : (fs known : List Fact) → FactsHold v fs → fitting fs ≡ Ok known → FactsHold v known
  fits_hold fs known h e = subst (FactsHold v) (fitting_is fs known e) h

  instance_hold : (fs : List Fact) (hyp : HypName) (terms : List Tree) (name : ℕ) (known : List Fact) → FactsHold v fs → with_instance fs hyp terms name ≡ Ok known → FactsHold v known
  instance_hold fs hyp terms name known h e =
      let p = bound (instance (newest hyp fs) terms) (λ (form : Formula). fitting (with_fact fs name form)) known e in
      fits_hold (with_fact fs name p.0) known (one_more v fs name p.0 h (instance_found v fs hyp terms h p.0 p.1)) p.2

  with_parts_hold : (fs : List Fact) (hyp : HypName) (left right : ℕ) (known : List Fact) → FactsHold v fs → with_parts fs hyp left right ≡ Ok known → FactsHold v known
  with_parts_hold fs hyp left right known h e =
      let p = bound (plain_fact (newest hyp fs)) (λ (f : Fact). taken (parts_of f.form) >>= (λ (t : Two). fitting (with_fact (with_fact fs left t.left) right t.right))) known e in
      let q = bound (taken (parts_of p.0.form)) (λ (t : Two). fitting (with_fact (with_fact fs left t.left) right t.right)) known p.2 in
      let k = parts_hold v p.0.form q.0 (plain_found v fs hyp h p.0 p.1) (taken_is (parts_of p.0.form) q.0 q.1) in
      fits_hold (with_fact (with_fact fs left q.0.left) right q.0.right) known (one_more v (with_fact fs left q.0.left) right q.0.right (one_more v fs left q.0.left h k.0) k.1) q.2

  abbrev OneHolds : Cases → Type 0
  OneHolds c = FactsHold v c.left ⊎ FactsHold v c.right

  one_holds : (fs : List Fact) (name : ℕ) (forms : Two) → FactsHold v fs → Holds v forms.left ⊎ Holds v forms.right → OneHolds (cases_with fs name forms)
  one_holds fs name forms h (inl a) = inl (one_more v fs name forms.left h a)
  one_holds fs name forms h (inr b) = inr (one_more v fs name forms.right h b)

  cases_one : (fs : List Fact) (hyp : HypName) (name : ℕ) (c : Cases) → FactsHold v fs → with_cases fs hyp name ≡ Ok c → OneHolds c
  cases_one fs hyp name c h e =
      let p = bound (plain_fact (newest hyp fs)) (λ (f : Fact). taken (cases_of f.form) >>= (λ (t : Two). both_fitting fs name t)) c e in
      let q = bound (taken (cases_of p.0.form)) (λ (t : Two). both_fitting fs name t) c p.2 in
      subst OneHolds (both_are fs name q.0 c q.2) (one_holds fs name q.0 h (cases_hold v p.0.form q.0 (plain_found v fs hyp h p.0 p.1) (taken_is (cases_of p.0.form) q.0 q.1)))

  either_holds : (form : Formula) → Holds v (neg form) ⊎ Holds v form
  either_holds form = elim (cases_Bool (truth v form)) [
    | inl t ↦ inr t
    | inr f ↦ inl (truth-neg v form ∙ ap not f)
  ]

  cut_one : (fs : List Fact) (form : Formula) (name : ℕ) (c : Cases) → FactsHold v fs → with_cut fs form name ≡ Ok c → OneHolds c
  cut_one fs form name c h e =
      subst OneHolds (both_are fs name (record { left = neg form; right = form }) c e) (one_holds fs name (record { left = neg form; right = form }) h (either_holds form))

  -- the facts of the branch of a block that breaks no rule do not all hold
  abbrev Refutes : Plan → Type 0
  Refutes p = (fs : List Fact) → FactsHold v fs → block_fault fs p ≡ None → ⊥

  two_refute : (c : Cases) (p q : Plan) → Refutes p → Refutes q → first (block_fault c.left p) (block_fault c.right q) ≡ None → OneHolds c → ⊥
  two_refute c p q hp hq e (inl a) = hp c.left a (first_none (block_fault c.left p) (block_fault c.right q) e).0
  two_refute c p q hp hq e (inr b) = hq c.right b (first_none (block_fault c.left p) (block_fault c.right q) e).1

  goes_refutes : (line : ℕ) (r : Result (List Fact) Rule) (rest : Plan) → ((known : List Fact) → r ≡ Ok known → FactsHold v known) → Refutes rest → going line r (λ (known : List Fact). block_fault known rest) ≡ None → ⊥
  goes_refutes line r rest holds ih e = let w = went line r (λ (known : List Fact). block_fault known rest) e in ih w.0 (holds w.0 w.1) w.2

  lemma_refutes : (line name : ℕ) (fs : List Fact) (form : Formula) (rest : Plan) → FactsHold v fs → Holds v form → Refutes rest
      → going line (fitting (with_fact fs name form)) (λ (known : List Fact). block_fault known rest) ≡ None → ⊥
  lemma_refutes line name fs form rest h t ih e =
      goes_refutes line (fitting (with_fact fs name form)) rest (λ known k. fits_hold (with_fact fs name form) known (one_more v fs name form h t) k) ih e

  pub block_refutes : (p : Plan) → Refutes p
  block_refutes (End line) fs h e = absurd (cc)
  block_refutes (Same line rest) fs h e = same_refutes v fs (all_hold v fs h) (nothing_at line (same_fault fs) (first_none (at_line line (same_fault fs)) (after rest) e).0)
  block_refutes (Sum line parts rest) fs h e = sum_refutes v fs (all_hold v fs h) parts (nothing_at line (sum_fault fs parts) (first_none (at_line line (sum_fault fs parts)) (after rest) e).0)
  block_refutes (Inst line hyp terms name rest) fs h e = goes_refutes line (with_instance fs hyp terms name) rest (λ known k. instance_hold fs hyp terms name known h k) (block_refutes rest) e
  block_refutes (Parts line hyp left right rest) fs h e = goes_refutes line (with_parts fs hyp left right) rest (λ known k. with_parts_hold fs hyp left right known h k) (block_refutes rest) e
  block_refutes (Split line hyp name one two rest) fs h e =
      let p = first_none (going line (with_cases fs hyp name) (λ (c : Cases). first (block_fault c.left one) (block_fault c.right two))) (after rest) e in
      let w = went line (with_cases fs hyp name) (λ (c : Cases). first (block_fault c.left one) (block_fault c.right two)) p.0 in
      two_refute w.0 one two (block_refutes one) (block_refutes two) w.2 (cases_one fs hyp name w.0 h w.1)
  block_refutes (Cut line form name block rest) fs h e =
      let w = went line (with_cut fs form name) (λ (c : Cases). first (block_fault c.left block) (block_fault c.right rest)) e in
      two_refute w.0 block rest (block_refutes block) (block_refutes rest) w.2 (cut_one fs form name w.0 h w.1)
  block_refutes (Read line m k name rest) fs h e = lemma_refutes line name fs (read_fact m k) rest h (laws.read v m k) (block_refutes rest) e
  block_refutes (Size line m k name rest) fs h e = lemma_refutes line name fs (size_fact m k) rest h (laws.size v m k) (block_refutes rest) e
  block_refutes (Total line m k name rest) fs h e = lemma_refutes line name fs (total_fact m k) rest h (laws.total v m k) (block_refutes rest) e
  block_refutes (Cong line m j k name rest) fs h e = lemma_refutes line name fs (cong_fact m j k) rest h (laws.cong v m j k) (block_refutes rest) e

  start_hold : (hyps : List Fact) (claim : Formula) → AllByRecursion (λ (h : Hypothesis). HoldsForAll h.params v h.form) (map as_hypothesis hyps) → Holds v (neg claim) → FactsHold v (hyps ++ denial claim ∷ [])
  start_hold [] claim h d = (d, tt)
  start_hold (f ∷ fs) claim h d = (h.0, start_hold fs claim h.1 d)

-- a script that breaks no rule proves its sequent
pub script_valid : AreTrue → (hyps : List Fact) (claim : Formula) (plan : Plan) → script_fault hyps claim plan ≡ None → IsValid (map as_hypothesis hyps) claim
script_valid laws hyps claim plan e = λ v h. elim (cases_Bool (truth v claim)) [
  | inl t ↦ t
  | inr f ↦ absurd (block_refutes laws v plan (hyps ++ denial claim ∷ []) (start_hold laws v hyps claim h (truth-neg v claim ∙ ap not f)) e)
]

pub passed_valid : AreTrue → (hyps : List Fact) (claim : Formula) (plan : Plan) (r : Result (Unit {0}) Stop) → Passes r (script_fault hyps claim plan) → OnOk r (IsValid (map as_hypothesis hyps) claim)
passed_valid laws hyps claim plan (Ok x) h = script_valid laws hyps claim plan h
passed_valid laws hyps claim plan (Err x) h = tt
