use Rattle.std.proofs.Common.{refl}
use Rattle.sync_thread_events.proofs.Laying.{cell_added, word_added}
use Rattle.sync_thread_events.proofs.layout.add.Goals as goal

pub returns-in-Word : goal.returns-in-Word
returns-in-Word c = word_added c.append.result c.args.decl c.in-Word.name c.in-Word.len c.in-Word.value c.args.laid.now _ c.in-Word.is
    c.append.ensures.numbers c.append.ensures.spans c.append.ensures.narrow refl refl

pub returns-in-Cell : goal.returns-in-Cell
returns-in-Cell c = cell_added c.append-in-Cell.result c.args.decl c.in-Cell.name c.in-Cell.len c.in-Cell.value c.args.laid.now _ c.in-Cell.is
    c.append-in-Cell.ensures.numbers c.append-in-Cell.ensures.spans c.append-in-Cell.ensures.narrow refl refl
