use Rattle.sync_kernel.proofs.TakenApart.{or_parts, imp_parts, no_parts_not}
use Rattle.sync_kernel_facts.proofs.Saying.{plain_says}
use Rattle.sync_kernel.proofs.splits.parts_of_not.Goals as goal

pub returns-in-Or-clause-pair : goal.returns-in-Or-clause-pair
returns-in-Or-clause-pair c = or_parts c.args.terms.now c.args.node c.in-Or.a c.in-Or.b c.denial.result c.denial-in-Or.result c.in-Or.is c.denial.ensures.form c.denial-in-Or.ensures.form

pub returns-in-Imp-clause-pair : goal.returns-in-Imp-clause-pair
returns-in-Imp-clause-pair c =
    imp_parts c.args.terms.now c.args.node c.in-Imp.a c.in-Imp.b c.plain.result c.denial-in-Imp.result c.in-Imp.is (plain_says c.args.terms.now c.plain.result c.in-Imp.a c.plain.ensures) c.denial-in-Imp.ensures.form

pub returns-in-Le : goal.returns-in-Le
returns-in-Le c = record { pair = no_parts_not c.args.terms.now c.args.node c.in-Le.is; stored = tt }
