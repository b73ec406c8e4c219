use Rattle.std.proofs.Common.{refl}
use Rattle.sync_typing_places.proofs.Placing.{own_new, env_new}
use Rattle.sync_typing_places.proofs.places.Place.new.Goals as goal

pub returns-clause-own : goal.returns-clause-own
returns-clause-own c = λ s. own_new s _ (c.new.ensures.holds s) c.new.ensures.whole (c.new.ensures.ids s) (c.new-2.ensures.ready s)

pub returns-clause-env : goal.returns-clause-env
returns-clause-env c = λ s. env_new s _ (c.new.ensures.holds s) (c.new-2.ensures.known s) refl
