-- Scripts of a store stay the same while it grows, so what they are worth does too.
use Rattle.std.proofs.Common.{◌≡◌, ℕ, zero, suc, List, [], ◌∷◌, Some, None, Result, refl, sym, subst, ◌∙◌}
use Rattle.std.specs.Prelude.{slice_get}
use Rattle.sync_base.specs.declared.stops.Stop.{Stop}
use Rattle.sync_base.specs.Outcome.{Passes}
use Rattle.sync_terms.specs.Plans.{plan_of, IsScriptOf}
use Rattle.sync_terms.specs.Stored.{Stored, Extends}
use Rattle.sync_terms.proofs.Extending.{Extends-trans}
use Rattle.sync_terms.specs.declared.proofs.Proof.{Proof}
use Rattle.sync_induct.specs.Duties.{Duty}
use Rattle.sync_induct.specs.Checklist.{Check}
use Rattle.sync_induct.specs.Checks.{duty_fault, checks_fault}
use Rattle.sync_terms.specs.Proofs.{ProofTree, title_of, proofs_in, AreScriptsOf}

module _ (s t : Stored) (e : Extends s t) where
  pub scripts-stay : (ps : List Proof) → AreScriptsOf s ps → AreScriptsOf t ps
  scripts-stay [] h = tt
  scripts-stay (p ∷ ps) h = (λ u more. h.0 u (Extends-trans e more) ∙ sym (h.0 t e), scripts-stay ps h.1)

  proofs-stay : (ps : List Proof) → AreScriptsOf s ps → proofs_in t ps ≡ proofs_in s ps
  proofs-stay [] h = refl
  proofs-stay (p ∷ ps) h =
      let one : plan_of t p.script.block ≡ plan_of s p.script.block = h.0 t e in
      let more = proofs-stay ps h.1 in
      λ i. record { title = title_of p; plan = one i } ∷ more i

  module _ (ps : List Proof) (scripts : AreScriptsOf s ps) where
    pub duty-over : {A : Type 0} (r : Result A Stop) (d : Duty) → Passes r (duty_fault (proofs_in t ps) d) → Passes r (duty_fault (proofs_in s ps) d)
    duty-over r d h = subst (λ (qs : List ProofTree). Passes r (duty_fault qs d)) (proofs-stay ps scripts) h

    pub checks-over : {A : Type 0} (r : Result A Stop) (cs : List Check) → Passes r (checks_fault (proofs_in t ps) cs) → Passes r (checks_fault (proofs_in s ps) cs)
    checks-over r cs h = subst (λ (qs : List ProofTree). Passes r (checks_fault qs cs)) (proofs-stay ps scripts) h

    -- where all is right
    pub none-over : (cs : List Check) → checks_fault (proofs_in t ps) cs ≡ None → checks_fault (proofs_in s ps) cs ≡ None
    none-over cs h = subst (λ (qs : List ProofTree). checks_fault qs cs ≡ None) (proofs-stay ps scripts) h

    pub duty-none_over : (d : Duty) → duty_fault (proofs_in t ps) d ≡ None → duty_fault (proofs_in s ps) d ≡ None
    duty-none_over d h = subst (λ (qs : List ProofTree). duty_fault qs d ≡ None) (proofs-stay ps scripts) h

some-same : (p q : Proof) → Some p ≡ Some q → p ≡ q
some-same p q e = cc

-- the script at a place
pub script-there : (s : Stored) (ps : List Proof) (i : ℕ) (p : Proof) → AreScriptsOf s ps → slice_get ps i ≡ Some p → IsScriptOf s p.script.block
script-there s [] i p h there = absurd (let g : None ≡ Some p = there in cc)
script-there s (q ∷ ps) zero p h there = subst (λ (x : Proof). IsScriptOf s x.script.block) (some-same q p there) h.0
script-there s (q ∷ ps) (suc i) p h there = script-there s ps i p h.1 there
