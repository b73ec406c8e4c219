use Rattle.sync_exchange_values.proofs.Evaluating.{value_of, fits_where_ok, wide_where_width}
use Rattle.sync_exchange_values.proofs.values.truth_of.Goals as goal

pub returns-clause-value : goal.returns-clause-value
returns-clause-value g c = value_of c.truth.result _ _ c.truth.ensures

pub returns-clause-fits : goal.returns-clause-fits
returns-clause-fits g c = fits_where_ok c.truth.result _ _ c.truth.ensures

pub returns-clause-width : goal.returns-clause-width
returns-clause-width g c = wide_where_width c.truth.result _ _ c.truth.ensures
