use Rattle.std.proofs.Common.{refl}
use Rattle.sync_induct.proofs.Growing.{assigned-some}
use Rattle.sync_induct.proofs.walks.Walk.assign.Goals as goal

pub returns-then-at-len : goal.returns-then-at-len
returns-then-at-len c = assigned-some c.args.terms.now c.args.self.now _ c.args.field c.in-Some.field c.args.value c.in-Some.is c.requires.walk c.requires.value refl refl
