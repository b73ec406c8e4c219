-- What a text is checked for, a machine with a program over it, and the fields of its tokens' forms.
use Rattle.std.specs.Prelude.{ℕ, Option, unwrap_or}
use Rattle.sync_join.specs.Shards.{perm}
pub use Rattle.sync_thread_machine.specs.MachineWithProgram.{MachineWithProgram, fields_of, decls_of}

-- the field of a token's form; a form without field is that of a permission
abbrev pub field_of : Option ℕ → ℕ
field_of f = unwrap_or f perm
