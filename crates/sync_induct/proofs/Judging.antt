-- The first proof of a title, by its place and by its script; and what a duty's proof is worth.
use Rattle.std.proofs.Common.{◌≡◌, ℕ, suc, ◌+◌, ◌<◌, ◌≤◌, Bool, true, false, cond, ltb, ◌||◌, List, [], ◌∷◌, Option, Some, None, Result, refl, sym, ap, subst, ◌∙◌, inl, inr, arith, add-zero, zero-add}
use Rattle.std.specs.Prelude.{not, slice_get}
use Rattle.std.specs.Option.{is_some}
use Rattle.std.proofs.lemmas.Bool.{cases_Bool, true≢false, false≢true, lt-ltb, le-ltb}
use Rattle.sync_base.proofs.Basics.{cond_false, cond_true, or_left, or_right}
use Rattle.sync_base.specs.declared.stops.Refusal.{Refusal}
use Rattle.sync_base.specs.declared.stops.Rule.TheVariants.{I1, K8}
use Rattle.sync_base.specs.declared.stops.Stop.{Stop}
use Rattle.sync_base.specs.Outcome.{Passes}
use Rattle.sync_terms.specs.Trees.{most_nodes, formula_size}
use Rattle.sync_terms.specs.Stored.{Stored}
use Rattle.sync_terms.specs.declared.proofs.Obligation.{Obligation}
use Rattle.sync_terms.specs.Plans.{Plan, plan_of}
use Rattle.sync_kernel.specs.Scripts.{script_fault}
use Rattle.sync_induct.specs.declared.index.Title.{Title}
use Rattle.sync_terms.specs.declared.proofs.Proof.{Proof}
use Rattle.sync_induct.specs.Duties.{Duty}
use Rattle.sync_induct.specs.Titles.{titled, same_title, first_at}
use Rattle.sync_induct.proofs.Titles.{none_of}
use Rattle.sync_induct.specs.Checks.{proof_of, sequent_size, is_large, judged, duty_fault}
use Rattle.sync_terms.specs.Proofs.{ProofTree, title_of, titles_of, proofs_in}

-- the proof at the place k, behind n others, is the first of the title
pub record IsFound (s : Stored) (ps : List Proof) (t : Title) (n i : ℕ) : Type 0 where
  pub place : ℕ
  pub is : i ≡ n + place
  pub proof : Proof
  pub there : slice_get ps place ≡ Some proof
  pub script : proof_of t (proofs_in s ps) ≡ Some (plan_of s proof.script.block)

some_is : (a b : ℕ) → Some a ≡ Some b → b ≡ a
some_is a b e = cc

proof_of-cons : (s : Stored) (t : Title) (p : Proof) (ps : List Proof) → proof_of t (proofs_in s (p ∷ ps)) ≡ cond (same_title (titled (title_of p)) t) (Some (plan_of s p.script.block)) (proof_of t (proofs_in s ps))
unfolding proof_of
proof_of-cons s t p ps = refl

first_at-cons : (t : Title) (n : ℕ) (p : Proof) (ps : List Proof) → first_at t n (titles_of (p ∷ ps)) ≡ cond (same_title (titled (title_of p)) t) (Some n) (first_at t (suc n) (titles_of ps))
unfolding first_at
first_at-cons t n p ps = refl

no_first : (t : Title) (n i : ℕ) → first_at t n [] ≡ Some i → ⊥
unfolding first_at
no_first t n i e = let f : None ≡ Some i = e in cc

pub found : (s : Stored) (ps : List Proof) (t : Title) (n i : ℕ) → first_at t n (titles_of ps) ≡ Some i → IsFound s ps t n i
found s [] t n i e = absurd (no_first t n i e)
found s (p ∷ ps) t n i e =
    elim (cases_Bool (same_title (titled (title_of p)) t)) [
      | inl y ↦
          let here : Some n ≡ Some i = sym (first_at-cons t n p ps ∙ cond_true (same_title (titled (title_of p)) t) (Some n) (first_at t (suc n) (titles_of ps)) y) ∙ e in
          record {
            place = 0;
            is = some_is n i here ∙ sym (add-zero n);
            proof = p;
            there = refl;
            script = proof_of-cons s t p ps ∙ cond_true (same_title (titled (title_of p)) t) (Some (plan_of s p.script.block)) (proof_of t (proofs_in s ps)) y;
          }
      | inr f ↦
          let later : first_at t (suc n) (titles_of ps) ≡ Some i = sym (first_at-cons t n p ps ∙ cond_false (same_title (titled (title_of p)) t) (Some n) (first_at t (suc n) (titles_of ps)) f) ∙ e in
          let r = found s ps t (suc n) i later in
          record {
            place = suc r.place;
            is = r.is ∙ moved n r.place;
            proof = r.proof;
            there = r.there;
            script = proof_of-cons s t p ps ∙ (cond_false (same_title (titled (title_of p)) t) (Some (plan_of s p.script.block)) (proof_of t (proofs_in s ps)) f ∙ r.script);
          }
    ] where
      moved : (n k : ℕ) → suc n + k ≡ n + suc k
      moved n k = omega arith

none_some : (n : ℕ) → Some n ≡ None → ⊥
none_some n e = cc

no_proof : (s : Stored) (t : Title) → proof_of t (proofs_in s []) ≡ None
unfolding proof_of
no_proof s t = refl

pub missing : (s : Stored) (ps : List Proof) (t : Title) (n : ℕ) → first_at t n (titles_of ps) ≡ None → proof_of t (proofs_in s ps) ≡ None
missing s [] t n e = no_proof s t
missing s (p ∷ ps) t n e =
    elim (cases_Bool (same_title (titled (title_of p)) t)) [
      | inl y ↦ absurd (none_some n (sym (first_at-cons t n p ps ∙ cond_true (same_title (titled (title_of p)) t) (Some n) (first_at t (suc n) (titles_of ps)) y) ∙ e))
      | inr f ↦ proof_of-cons s t p ps ∙ (cond_false (same_title (titled (title_of p)) t) (Some (plan_of s p.script.block)) (proof_of t (proofs_in s ps)) f
          ∙ missing s ps t (suc n) (sym (first_at-cons t n p ps ∙ cond_false (same_title (titled (title_of p)) t) (Some n) (first_at t (suc n) (titles_of ps)) f) ∙ e))
    ]

-- ---- what the proof of a duty is worth

pub judged-none : (ps : List ProofTree) (d : Duty) → proof_of (titled d.obligation) ps ≡ None → duty_fault ps d ≡ Some (record { line = d.obligation.line; rule = I1 })
judged-none ps d e = ap (judged d) e

pub judged-too-large : (ps : List ProofTree) (d : Duty) (plan : Plan) → proof_of (titled d.obligation) ps ≡ Some plan → is_large d ≡ true → duty_fault ps d ≡ Some (record { line = d.obligation.line; rule = K8 })
judged-too-large ps d plan e large = ap (judged d) e ∙ cond_true (is_large d) (Some (record { line = d.obligation.line; rule = K8 })) (script_fault d.facts d.claim plan) large

-- the test of the size of a sequent
is_over : (b : Bool) → false ≡ not b → b ≡ true
is_over true e = refl
is_over false e = absurd (false≢true e)

is_within : (b : Bool) → true ≡ not b → b ≡ false
is_within true e = absurd (true≢false e)
is_within false e = refl

pub judged-large : (ps : List ProofTree) (d : Duty) (plan : Plan) → proof_of (titled d.obligation) ps ≡ Some plan → false ≡ not (ltb most_nodes (sequent_size d.facts d.claim)) → duty_fault ps d ≡ Some (record { line = d.obligation.line; rule = K8 })
judged-large ps d plan e large = judged-too-large ps d plan e (or_right (ltb most_nodes (formula_size d.claim)) (ltb most_nodes (sequent_size d.facts d.claim)) (is_over (ltb most_nodes (sequent_size d.facts d.claim)) large))

pub large-claim : (d : Duty) → most_nodes < formula_size d.claim → is_large d ≡ true
large-claim d large = or_left (ltb most_nodes (formula_size d.claim)) (ltb most_nodes (sequent_size d.facts d.claim)) (lt-ltb most_nodes (formula_size d.claim) large)

small-both : (a b : Bool) → a ≡ false → b ≡ false → (a || b) ≡ false
small-both a b p q = rw p q

pub judged-script : (ps : List ProofTree) (d : Duty) (plan : Plan) → proof_of (titled d.obligation) ps ≡ Some plan → formula_size d.claim ≤ most_nodes → true ≡ not (ltb most_nodes (sequent_size d.facts d.claim)) → duty_fault ps d ≡ script_fault d.facts d.claim plan
judged-script ps d plan e claim small = ap (judged d) e
    ∙ cond_false (is_large d) (Some (record { line = d.obligation.line; rule = K8 })) (script_fault d.facts d.claim plan)
    (small-both (ltb most_nodes (formula_size d.claim)) (ltb most_nodes (sequent_size d.facts d.claim)) (le-ltb most_nodes (formula_size d.claim) claim) (is_within (ltb most_nodes (sequent_size d.facts d.claim)) small))

pub passes-same : {A : Type 0} (r : Result A Stop) (x y : Option Refusal) → x ≡ y → Passes r x → Passes r y
passes-same r x y e p = subst (λ (z : Option Refusal). Passes r z) e p

-- the script at the place that the index gives
pub script-at : (s : Stored) (ps : List Proof) (t : Title) (i : ℕ) (p : Proof) → first_at t 0 (titles_of ps) ≡ Some i → slice_get ps i ≡ Some p → proof_of t (proofs_in s ps) ≡ Some (plan_of s p.script.block)
script-at s ps t i p e there =
    let f = found s ps t 0 i e in
    let same_place : f.place ≡ i = sym (f.is ∙ zero-add f.place) in
    let both : Some f.proof ≡ Some p = sym f.there ∙ (ap (λ (k : ℕ). slice_get ps k) same_place ∙ there) in
    let same_proof : f.proof ≡ p = one f.proof p both in
    f.script ∙ ap (λ (q : Proof). Some (plan_of s q.script.block)) same_proof where
      one : (a b : Proof) → Some a ≡ Some b → a ≡ b
      one a b e = cc

-- the place is one of the list
pub place-there : (s : Stored) (ps : List Proof) (t : Title) (i : ℕ) → first_at t 0 (titles_of ps) ≡ Some i → slice_get ps i ≡ None → ⊥
place-there s ps t i e none =
    let f = found s ps t 0 i e in
    let same_place : f.place ≡ i = sym (f.is ∙ zero-add f.place) in
    let both : Some f.proof ≡ None = sym f.there ∙ (ap (λ (k : ℕ). slice_get ps k) same_place ∙ none) in
    apart f.proof both where
      apart : (a : Proof) → Some a ≡ None → ⊥
      apart a e = cc

-- ---- a duty whose claim there is not

place-some : (o : Option ℕ) → is_some o ≡ true → (i : ℕ) × (o ≡ Some i)
place-some (Some i) e = (i, refl)
place-some None e = absurd (false≢true e)

pub large-with_proof : (s : Stored) (ps : List Proof) (d : Duty) (o : Obligation) → d.obligation ≡ o → is_large d ≡ true → is_some (first_at (titled o) 0 (titles_of ps)) ≡ true → duty_fault (proofs_in s ps) d ≡ Some (record { line = o.line; rule = K8 })
large-with_proof s ps d o same large there =
    let at = place-some (first_at (titled o) 0 (titles_of ps)) there in
    let f = found s ps (titled o) 0 at.0 at.1 in
    judged-too-large (proofs_in s ps) d (plan_of s f.proof.script.block) (ap (λ (x : Obligation). proof_of (titled x) (proofs_in s ps)) same ∙ f.script) large ∙ ap (λ (x : Obligation). Some (record { line = x.line; rule = K8 })) same

pub large-without_proof : (s : Stored) (ps : List Proof) (d : Duty) (o : Obligation) → d.obligation ≡ o → is_some (first_at (titled o) 0 (titles_of ps)) ≡ false → duty_fault (proofs_in s ps) d ≡ Some (record { line = o.line; rule = I1 })
large-without_proof s ps d o same none =
    judged-none (proofs_in s ps) d (ap (λ (x : Obligation). proof_of (titled x) (proofs_in s ps)) same ∙ missing s ps (titled o) 0 (none_of (first_at (titled o) 0 (titles_of ps)) none))
    ∙ ap (λ (x : Obligation). Some (record { line = x.line; rule = I1 })) same
