-- What a text is checked for: a machine, and a program over it.
use Rattle.std.specs.Prelude.{List, map}
use Rattle.sync_machine.specs.declared.fields.Field.{Field}
use Rattle.sync_machine.specs.Machines.{MachineTree}
use Rattle.sync_thread.specs.declared.operands.CodeDecl.{CodeDecl}
use Rattle.sync_thread.specs.Programs.{ProgramTree}
use Rattle.sync_thread.specs.Arrays.{code_decl}

pub record MachineWithProgram : Type 0 where
  pub machine : MachineTree
  pub program : ProgramTree

abbrev pub fields_of : MachineWithProgram → List Field
fields_of x = x.machine.fields

abbrev pub decls_of : MachineWithProgram → List CodeDecl
decls_of x = map code_decl x.program.decls
