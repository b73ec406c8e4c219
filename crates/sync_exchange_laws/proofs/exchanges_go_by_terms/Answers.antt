use Rattle.sync_exchange_laws.proofs.WholeTerms.{exchanges-go-by-terms}
use Rattle.sync_exchange_laws.proofs.exchanges_go_by_terms.Goals as goal

pub returns : goal.returns
returns c = exchanges-go-by-terms
