use Rattle.std.proofs.Common.{sym, ◌∙◌}
use Rattle.sync_terms.proofs.BuildingLemmas.{shape-node, BuildsForm-same}
use Rattle.sync_kernel_facts.proofs.Origins.{read-nil, read-put, read-del, read-bump, read-any, plain}
use Rattle.sync_kernel_facts.proofs.lemmas.read_fact.Goals as goal

pub returns-in-Nil-clause-built : goal.returns-in-Nil-clause-built
returns-in-Nil-clause-built c = BuildsForm-same c.nil_read.ensures.built (read-nil _ _ (sym (shape-node c.args.terms.now _) ∙ c.in-Nil.ensures.value))

pub returns-in-Put-clause-built : goal.returns-in-Put-clause-built
returns-in-Put-clause-built c = BuildsForm-same c.put_read.ensures.built (read-put _ _ _ _ _ (sym (shape-node c.args.terms.now _) ∙ c.in-Put.ensures.value))

pub returns-in-Del-clause-built : goal.returns-in-Del-clause-built
returns-in-Del-clause-built c = BuildsForm-same c.del_read.ensures.built (read-del _ _ _ _ (sym (shape-node c.args.terms.now _) ∙ c.in-Del.ensures.value))

pub returns-in-Bump-clause-built : goal.returns-in-Bump-clause-built
returns-in-Bump-clause-built c = BuildsForm-same c.bump_read.ensures.built (read-bump _ _ _ _ _ (sym (shape-node c.args.terms.now _) ∙ c.in-Bump.ensures.value))

pub returns-in-Lit : goal.returns-in-Lit
returns-in-Lit c = record {
  built = BuildsForm-same c.any_read.ensures.built (read-any c.args.terms.now c.term.result _ _ c.term.ensures.value (plain c.in-Lit.is));
  keeps = c.any_read.ensures.keeps;
}
