-- The formulas on maps are true whatever their symbols stand for.
use Rattle.sync_terms.specs.Trees.{Tree}
use Rattle.sync_terms.specs.Values.{Valuation, Holds}
use Rattle.sync_kernel_facts.specs.Lemmas.{cong_fact, read_fact, size_fact, total_fact}

pub record AreTrue : Type 0 where
  pub cong : (v : Valuation) (m j k : Tree) → Holds v (cong_fact m j k)
  pub read : (v : Valuation) (m k : Tree) → Holds v (read_fact m k)
  pub size : (v : Valuation) (m k : Tree) → Holds v (size_fact m k)
  pub total : (v : Valuation) (m k : Tree) → Holds v (total_fact m k)
