use Rattle.sync_kernel.proofs.notes.Notes.cut_back.Goals as goal

pub returns : goal.returns
returns c = λ s facts h. record { seen = c.cut_back.ensures s facts h.seen; lines = h.lines }
