use Rattle.std.proofs.Common.{sym, ◌∙◌}
use Rattle.sync_terms.proofs.BuildingLemmas.{shape-node}
use Rattle.sync_kernel_facts.proofs.Origins.{sum-nil, sum-put, sum-del, sum-bump, sum-any, plain}
use Rattle.sync_kernel_facts.proofs.lemmas.sum_law.Goals as goal

pub returns-in-Nil-clause-law : goal.returns-in-Nil-clause-law
returns-in-Nil-clause-law c = sum-nil _ (sym (shape-node c.args.terms.now _) ∙ c.in-Nil.ensures.value)

pub returns-in-Put-clause-law : goal.returns-in-Put-clause-law
returns-in-Put-clause-law c = sum-put _ _ _ _ (sym (shape-node c.args.terms.now _) ∙ c.in-Put.ensures.value)

pub returns-in-Del-clause-law : goal.returns-in-Del-clause-law
returns-in-Del-clause-law c = sum-del _ _ _ (sym (shape-node c.args.terms.now _) ∙ c.in-Del.ensures.value)

pub returns-in-Bump-clause-law : goal.returns-in-Bump-clause-law
returns-in-Bump-clause-law c = sum-bump _ _ _ _ (sym (shape-node c.args.terms.now _) ∙ c.in-Bump.ensures.value)

pub returns-in-Lit : goal.returns-in-Lit
returns-in-Lit c = record { law = sum-any c.args.terms.now c.term.result _ c.term.ensures.value (plain c.in-Lit.is); stored = (tt, tt) }
