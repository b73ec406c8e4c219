-- The theorem of sharding: a local exchange is a declared step of the whole, or a declared start.
use Rattle.std.specs.Prelude.{ℤ, Bool}
use Rattle.sync_exchange.specs.Projection.{Projects, Initialises, ReadsNoState}
use Rattle.sync_exchange.proofs.Transitions.{projects-in}
use Rattle.sync_exchange.proofs.Initialising.{initialises-in}
use Rattle.sync_exchange.proofs.Plainness.{whole-unread}

-- whatever the others hold
pub projects : (fits : ℤ → Bool) → Projects fits
projects = projects-in

pub initialises : (fits : ℤ → Bool) → Initialises fits
initialises = initialises-in

pub reads-no-state : (fits : ℤ → Bool) → ReadsNoState fits
reads-no-state = whole-unread
