use Rattle.std.proofs.Common.{subst}
use Rattle.sync_linear.specs.declared.terms.Part.{Part}
use Rattle.sync_linear.specs.Parts.{IsPartOf}
use Rattle.sync_linear.proofs.Spines.{put-down}
use Rattle.sync_linear.proofs.terms.taken_apart.Goals as goal

pub loop-rest-preserved : goal.loop-rest-preserved
loop-rest-preserved c =
    let p = subst (λ (x : Part). IsPartOf c.args.terms.now c.loop-rest.at x) c.in-Under.is c.step_of.ensures in
    put-down c.args.terms.now c.args.t c.loop-rest.at c.in-Under.walked c.loop-rest.rests.items c.put.new.rests.items c.in-Under.rest
    c.loop-rest.invariant p c.in_ok-put-in-Under.ensures
