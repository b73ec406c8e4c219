use Rattle.sync_exchange_laws.proofs.TermsSucceeding.{exchanges-of-terms-succeed}
use Rattle.sync_exchange_laws.proofs.exchanges_of_terms_succeed.Goals as goal

pub returns : goal.returns
returns c = exchanges-of-terms-succeed
