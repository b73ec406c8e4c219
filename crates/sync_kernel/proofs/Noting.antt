-- What is kept beside the facts of a branch, while the branch and the store grow.
use Rattle.std.proofs.Common.{List}
use Rattle.sync_terms.specs.Stored.{Stored, Extends}
use Rattle.sync_kernel_facts.specs.declared.branches.Said.{Said}
use Rattle.sync_kernel.specs.declared.notes.Notes.{Notes}
use Rattle.sync_kernel_facts.specs.Branches.{facts_in, AreSaid, Begins}
use Rattle.sync_kernel.specs.Notes.{AreNotes}
use Rattle.sync_kernel.proofs.Renewing.{lines-more}
use Rattle.sync_kernel.proofs.Seeing.{seen_grows}

pub notes_grow : (s t : Stored) (xs ys : List Said) (n : Notes) → Extends s t → AreSaid s xs → Begins xs ys → AreNotes s (facts_in s xs) n → AreNotes t (facts_in t ys) n
notes_grow s t xs ys n more said begins h = record {
  seen = seen_grows s t xs ys n.seen more said begins h.seen;
  lines = lines-more s t n.lines more h.lines;
}
