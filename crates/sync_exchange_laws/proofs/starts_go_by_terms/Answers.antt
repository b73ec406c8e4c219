use Rattle.sync_exchange_laws.proofs.WholeTerms.{starts-go-by-terms}
use Rattle.sync_exchange_laws.proofs.starts_go_by_terms.Goals as goal

pub returns : goal.returns
returns c = starts-go-by-terms
