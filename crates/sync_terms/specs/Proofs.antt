-- The proofs of a text: what each is of, and its script as a plan.
use Rattle.std.specs.Prelude.{ℕ, List, map}
use Rattle.std.specs.List.{AllByRecursion}
use Rattle.sync_terms.specs.declared.proofs.Obligation.{Obligation}
use Rattle.sync_terms.specs.declared.proofs.Proof.{Proof}
use Rattle.sync_terms.specs.Stored.{Stored}
use Rattle.sync_terms.specs.Plans.{Plan, plan_of, IsScriptOf}

-- a proof: what it is of, with its own line, and its script as a plan
pub record ProofTree : Type 0 where
  pub title : Obligation
  pub plan : Plan

abbrev pub title_of : Proof → Obligation
title_of p = record { op = p.op; claim = p.claim; line = p.line }

abbrev pub titles_of : List Proof → List Obligation
titles_of ps = map title_of ps

-- the ids of a script are of the store
abbrev pub proof_in : Stored → Proof → ProofTree
proof_in s p = record { title = title_of p; plan = plan_of s p.script.block }

abbrev pub proofs_in : Stored → List Proof → List ProofTree
proofs_in s ps = map (proof_in s) ps

-- the scripts' ids are of the store: whatever it gains, they stay the same
abbrev pub AreScriptsOf : Stored → List Proof → Type 0
AreScriptsOf s ps = AllByRecursion (λ (p : Proof). IsScriptOf s p.script.block) ps
