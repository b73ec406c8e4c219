-- Hypotheses that are ready for proofs, as facts of a store.
use Rattle.std.specs.Prelude.{List}
use Rattle.sync_terms.specs.Stored.{Stored}
use Rattle.sync_kernel.specs.declared.hypotheses.Hypotheses.{Hypotheses}
use Rattle.sync_kernel_facts.specs.Facts.{Fact}
use Rattle.sync_kernel_facts.specs.Branches.{facts_in, AreSaid}
use Rattle.sync_kernel.specs.Notes.{AreNotes}

-- the hypotheses, newest last
unfoldable pub known_in : Stored → Hypotheses → List Fact
known_in s h = facts_in s h.branch

-- their formulas are of the store, and what is kept beside them is of them
pub record AreReady (s : Stored) (h : Hypotheses) : Type 0 where
  pub said : AreSaid s h.branch
  pub notes : AreNotes s (facts_in s h.branch) h.notes
