-- The rows of local statements and of cells, put together.
use Rattle.sync_typing_laws.proofs.Deciding.{laws}
use Rattle.sync_typing_laws.proofs.LocalCells.{read_shared}
use Rattle.sync_typing_laws.proofs.LocalCopies.{copy_local}
use Rattle.sync_typing_laws.proofs.LocalGoes.{set_local, let_local, assert_local, move_local, print_shared, if_test}
use Rattle.sync_typing_laws.proofs.LocalWrites.{write_shared}
use Rattle.sync_typing_laws.specs.RowLaws.{SingleRowsGoOn}
use Rattle.sync_typing_laws.specs.Ruling.{Meanings}

pub single_rows_go_on : (m : Meanings) → SingleRowsGoOn m
single_rows_go_on m fits x known t w = record {
  sets = set_local fits x known m.Spares m laws w.few t w.there w.names;
  lets = let_local fits x known m.Spares m laws w.few t w.there w.names;
  asserts = assert_local fits x known m.Spares m laws w.few t w.there w.names;
  moves = move_local fits x known m.Spares m laws w.few t w.there w.names;
  copies = copy_local fits x known m.Spares m laws w.few t w.there w.names;
  prints = print_shared fits x known m.Spares m laws w.few t w.there w.names;
  reads = read_shared fits x known m.Spares m laws w.few t w.there w.names;
  writes = write_shared fits x known m.Spares m laws w.few t w.there w.names;
  tests = if_test fits x known m.Spares m laws w.few t w.there w.names;
}
