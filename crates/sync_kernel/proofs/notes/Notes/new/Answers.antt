use Rattle.sync_kernel.proofs.notes.Notes.new.Goals as goal

pub returns : goal.returns
returns c = λ s facts. record { seen = c.new.ensures s facts; lines = c.new-2.ensures s }
