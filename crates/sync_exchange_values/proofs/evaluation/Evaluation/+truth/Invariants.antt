use Rattle.sync_exchange_values.proofs.evaluation.Evaluation.+truth.Given as goal

abbrev pub decreases-truth : goal.decreases-truth
decreases-truth g l = l.f.0
