-- What the names of a program stand for at a place, and how they come to stand for it.
use Rattle.std.specs.Prelude.{ℕ, ◌+◌, ◌-◌, ◌^◌, ◌==◌, nat_eq, nat_lt, min, Bool, true, false, ◌||◌, List, [], ◌∷◌, length, map, count_by, replicate, slice_get, slice_set, Option, Some, None, Result, Ok, if◌then◌else◌}
use Rattle.sync_base.specs.declared.stops.Refusal.{Refusal}
use Rattle.sync_base.specs.declared.stops.Rule.TheVariants.{N1, N2, N3}
use Rattle.sync_base.specs.declared.strategies.Strategy.{Strategy}
use Rattle.sync_base.specs.declared.strategies.Strategy.TheVariants as strategy
use Rattle.sync_base.specs.declared.strategies.OpMode.{OpMode}
use Rattle.sync_base.specs.declared.strategies.OpMode.TheVariants as mode
use Rattle.sync_machine.specs.declared.fields.Field.{Field}
use Rattle.sync_machine.specs.Machines.{ActTree, StepTree, OperationTree, MachineTree}
use Rattle.sync_machine.specs.Machines as acts
use Rattle.sync_rules.specs.declared.slots.Role.{Role}
use Rattle.sync_rules.specs.declared.slots.Role.TheVariants as role
use Rattle.sync_rules.specs.Slots.{SlotTree, slots_of}
use Rattle.sync_parse_exprs.specs.declared.raw_names.RawName.{RawName}
use Rattle.sync_read_names.specs.declared.scopes.Owners.{Owners}
use Rattle.sync_read_names.specs.declared.scopes.Owner.{Owner}
use Rattle.sync_read_names.specs.declared.scopes.Owner.TheVariants as owner
use Rattle.sync_read_names.specs.declared.scopes.Sight.{Sight}
use Rattle.sync_read_names.specs.declared.scopes.Scope.{Scope}
use Rattle.sync_read_names.specs.Scopes.{refuse, with_flag, with_owner, is_field, is_local, is_assigned, seen_as}
use Rattle.sync_read_programs.specs.declared.scopes.WordCounts.{WordCounts}
use Rattle.sync_read_programs.specs.declared.scopes.Declared.{Declared}
use Rattle.sync_read_programs.specs.declared.scopes.Declared.TheVariants as declared
use Rattle.sync_read_programs.specs.declared.scopes.Entrance.{Entrance}
use Rattle.sync_read_programs.specs.declared.scopes.Standing.{Standing}
use Rattle.sync_read_programs.specs.declared.scopes.Call.{Call}
use Rattle.sync_read_programs.specs.declared.scopes.Purpose.{Purpose}
use Rattle.sync_read_programs.specs.declared.scopes.Purpose.TheVariants as purpose
use Rattle.sync_read_programs.specs.declared.scopes.ProgramScope.{ProgramScope}

-- a refusal where a test is true
abbrev pub refuse_if : {A : Type 0} → Bool → Result A Refusal → Result A Refusal → Result A Refusal
refuse_if true refusal rest = refusal
refuse_if false refusal rest = rest

-- as many as are wanted, or N3 at the called name
abbrev pub as_many : ℕ → ℕ → ℕ → Result ℕ Refusal
as_many found wanted line = if found == wanted then Ok found else refuse N3 line

-- where nothing is wanted any number will do
abbrev pub as_many_if : Option ℕ → ℕ → ℕ → Result ℕ Refusal
as_many_if None found line = Ok found
as_many_if (Some wanted) found line = as_many found wanted line

-- ---- the machine

abbrev pub is_constant : Strategy → Bool
is_constant strategy.Constant = true
is_constant _ = false

-- a flag for each constant among the fields from this number on
unfoldable pub constants_from : ℕ → ℕ → List Field → ℕ
constants_from flags n [] = flags
constants_from flags n (f ∷ fs) = constants_from (if is_constant f.strategy then with_flag flags n else flags) (n + 1) fs

-- a slot for which a token is named, and one that gives a token
abbrev pub names_token : Role → Bool
names_token role.Change = true
names_token role.Read = true
names_token role.Taken = true
names_token role.In = true
names_token role.Given = false
names_token role.Out = false
names_token role.Seen = false

abbrev pub gives_token : Role → Bool
gives_token role.Given = true
gives_token role.Out = true
gives_token role.Change = false
gives_token role.Read = false
gives_token role.Taken = false
gives_token role.In = false
gives_token role.Seen = false

abbrev pub is_guard : ActTree → Bool
is_guard (acts.Guard f p) = true
is_guard _ = false

abbrev pub call_of : List Field → OperationTree → Call
call_of fs o = record {
  mode = o.mode;
  args = length o.params;
  tokens = count_by (λ (x : SlotTree). names_token x.role) (slots_of fs o);
  given = count_by (λ (x : SlotTree). gives_token x.role) (slots_of fs o);
  guards = count_by (λ (x : StepTree). is_guard x.act) o.steps;
}

abbrev pub calls_of : MachineTree → List Call
calls_of m = map (call_of m.fields) m.ops

abbrev pub no_standing : Standing
no_standing = record { declared = declared.Nothing; thread = None; ends_token = false; listed = 0 }

-- the scope behind a machine and its proofs, which have so many scripts
abbrev pub scope_behind : MachineTree → Scope → ℕ → ProgramScope
scope_behind m s scripts = record {
  scope = s;
  standings = replicate (length s.meanings) no_standing;
  calls = calls_of m;
  strategies = map (λ (f : Field). f.strategy) m.fields;
  constants = constants_from 0 0 m.fields;
  starts = false;
  lists = 0;
  scripts = scripts;
}

-- ---- places

abbrev pub with_sight : Sight → ProgramScope → ProgramScope
with_sight g s = record s { scope = record s.scope { sight = g } }

-- in a word's clauses and fact: `value`, `index`, constants
abbrev pub word_sight : ℕ → Sight
word_sight constants = record { fields = Some constants; held = false; clause = true; atomic = false; wrap = false }

-- among statements: `held`, constants
abbrev pub thread_sight : ℕ → Sight
thread_sight constants = record { fields = Some constants; held = true; clause = false; atomic = false; wrap = false }

abbrev pub entered : Bool → Owner → Sight → ProgramScope → ProgramScope
entered starts o g s = record s { scope = record s.scope { owner = o; claim = owner.Nobody; sight = g }; starts = starts }

abbrev pub in_word : ℕ → ProgramScope → ProgramScope
in_word name s = entered false (owner.Word name) (word_sight s.constants) s

-- The start has number 1, a thread 2 and its number from 0, the final block 18, and the keep that a thread ends with
-- 20 and the thread's number. The arguments of the start know no constant.
abbrev pub in_start : ProgramScope → ProgramScope
in_start s = entered true (owner.Thread 1) (thread_sight 0) s

abbrev pub in_thread : ℕ → ProgramScope → ProgramScope
in_thread number s = entered false (owner.Thread (2 + number)) (thread_sight s.constants) s

abbrev pub in_ends : ℕ → ProgramScope → ProgramScope
in_ends number s = entered false (owner.Thread (20 + number)) (thread_sight s.constants) s

abbrev pub in_last : ProgramScope → ProgramScope
in_last s = entered false (owner.Last 18) (thread_sight s.constants) s

-- with the constants, behind the arguments of the start
abbrev pub with_constants : ProgramScope → ProgramScope
with_constants s = with_sight (record s.scope.sight { fields = Some s.constants }) s

-- in and behind the block of an atomic statement
abbrev pub with_atomic : Bool → ProgramScope → ProgramScope
with_atomic known s = with_sight (record s.scope.sight { atomic = known }) s

-- where there is a newest statement with a `wrap`, and where there is none
abbrev pub with_wrap : Bool → ProgramScope → ProgramScope
with_wrap known s = with_sight (record s.scope.sight { wrap = known }) s

abbrev pub knows_wrap : ProgramScope → Bool
knows_wrap s = s.scope.sight.wrap

-- ---- locals and proof names

-- a name of a constant field; the constants are the fields that are known here
abbrev pub is_constant_name : ProgramScope → ℕ → Bool
is_constant_name s name = is_field (seen_as s.scope name)

abbrev pub has_proof : Owners → Owner → Bool
has_proof o (owner.Thread number) = nat_eq o.proof number
has_proof o (owner.Last number) = nat_eq o.proof number || o.ends
has_proof o owner.Nobody = false
has_proof o (owner.Operation number) = false
has_proof o (owner.Invariant number) = false
has_proof o (owner.Word name) = false

abbrev pub proof_of : Option Owners → Owner → Bool
proof_of (Some o) x = has_proof o x
proof_of None x = false

-- a proof name here
abbrev pub is_proof_name : ProgramScope → ℕ → Bool
is_proof_name s name = proof_of (slice_get s.scope.owners name) s.scope.owner

-- a name that may be a proof name, and one that may be a local: not both, and no constant's name
abbrev pub may_prove : ProgramScope → RawName → Result ℕ Refusal
may_prove s n = if is_constant_name s n.name || is_assigned s.scope n.name then refuse N2 n.line else Ok n.name

abbrev pub may_assign : ProgramScope → RawName → Result ℕ Refusal
may_assign s n = if is_constant_name s n.name || is_proof_name s n.name then refuse N2 n.line else Ok n.name

abbrev pub with_owners : ProgramScope → ℕ → Owners → ProgramScope
with_owners s name o = record s { scope = record s.scope { owners = slice_set s.scope.owners name o } }

abbrev pub with_local : Owners → Owner → Owners
with_local o (owner.Thread number) = record o { local = number }
with_local o (owner.Last number) = record o { local = number }
with_local o owner.Nobody = o
with_local o (owner.Operation number) = o
with_local o (owner.Invariant number) = o
with_local o (owner.Word name) = o

abbrev pub prove_more : Option Owners → ProgramScope → RawName → Result ProgramScope Refusal
prove_more None s n = refuse N1 n.line
prove_more (Some o) s n = Ok (with_owners s n.name (with_owner o s.scope.owner))

-- a proof name, known from here on
abbrev pub prove_name : ProgramScope → RawName → Result ProgramScope Refusal
prove_name s n = prove_more (slice_get s.scope.owners n.name) s n

abbrev pub assign_more : Option Owners → ProgramScope → RawName → Result ProgramScope Refusal
assign_more None s n = refuse N1 n.line
assign_more (Some o) s n = Ok (with_owners s n.name (with_local o s.scope.owner))

-- a local, known from here on
abbrev pub assign_name : ProgramScope → RawName → Result ProgramScope Refusal
assign_name s n = assign_more (slice_get s.scope.owners n.name) s n

abbrev pub end_more : Option Owners → ProgramScope → RawName → Result ProgramScope Refusal
end_more None s n = refuse N1 n.line
end_more (Some o) s n = if o.ends then refuse N2 n.line else Ok (with_owners s n.name (record (with_owner o s.scope.owner) { ends = true }))

-- a proof name of a keep that a thread ends with, which no other such keep has
abbrev pub end_name : ProgramScope → RawName → Result ProgramScope Refusal
end_name s n = end_more (slice_get s.scope.owners n.name) s n

-- a name that a word has for a value, once
abbrev pub word_name : ProgramScope → RawName → Result ProgramScope Refusal
word_name s n = if is_local s.scope n.name then refuse N2 n.line else prove_name s n

-- ---- words, cells, threads, lists of names

abbrev pub or_no_standing : Option Standing → Standing
or_no_standing (Some x) = x
or_no_standing None = no_standing

abbrev pub standing_of : ProgramScope → ℕ → Standing
standing_of s name = or_no_standing (slice_get s.standings name)

abbrev pub with_standing : ProgramScope → ℕ → Standing → ProgramScope
with_standing s name x = record s { standings = slice_set s.standings name x }

abbrev pub is_undeclared : Declared → Bool
is_undeclared declared.Nothing = true
is_undeclared (declared.Word c) = false
is_undeclared declared.Cell = false

-- the name is one of the text, or it is unknown
abbrev pub if_there : ProgramScope → RawName → Result ProgramScope Refusal → Result ProgramScope Refusal
if_there s n rest = if nat_lt n.name (length s.standings) then rest else refuse N1 n.line

-- a word or cell of a new name
abbrev pub declare_name : Declared → ProgramScope → RawName → Result ProgramScope Refusal
declare_name d s n = if_there s n (if is_undeclared (standing_of s n.name).declared then Ok (with_standing s n.name (record (standing_of s n.name) { declared = d })) else refuse N2 n.line)

abbrev pub counts_of : Declared → ℕ → Result WordCounts Refusal
counts_of (declared.Word c) line = Ok c
counts_of declared.Nothing line = refuse N1 line
counts_of declared.Cell line = refuse N1 line

-- the counts of a word
abbrev pub word_in : ProgramScope → RawName → Result WordCounts Refusal
word_in s n = counts_of (standing_of s n.name).declared n.line

abbrev pub is_cell : Declared → Bool
is_cell declared.Cell = true
is_cell declared.Nothing = false
is_cell (declared.Word c) = false

-- the name of a cell
abbrev pub cell_in : ProgramScope → RawName → Result ℕ Refusal
cell_in s n = if is_cell (standing_of s n.name).declared then Ok n.name else refuse N1 n.line

abbrev pub entrance_of : Option Entrance → ℕ → Result Entrance Refusal
entrance_of (Some e) line = Ok e
entrance_of None line = refuse N1 line

-- a thread
abbrev pub thread_named : ProgramScope → RawName → Result Entrance Refusal
thread_named s n = entrance_of (standing_of s n.name).thread n.line

abbrev pub or_entrance : Option Entrance → Entrance → Entrance
or_entrance (Some e) new = e
or_entrance None new = new

-- the first thread of a name counts
abbrev pub note_thread : ℕ → ℕ → ProgramScope → RawName → ProgramScope
note_thread number names s n = with_standing s n.name (record (standing_of s n.name) { thread = Some (or_entrance (standing_of s n.name).thread (record { number = number; names = names })) })

abbrev pub is_entrance : Option Entrance → ℕ → Bool
is_entrance (Some e) number = e.number == number
is_entrance None number = false

-- the thread with this number has a name that no earlier one has
abbrev pub first_of_name : ℕ → ProgramScope → RawName → Result ℕ Refusal
first_of_name number s n = if is_entrance (standing_of s n.name).thread number then Ok number else refuse N2 n.line

-- lists are numbered; a text has fewer than can be
abbrev pub next_list : ProgramScope → ProgramScope
next_list s = record s { lists = min (s.lists + 1) (2 ^ 32 - 1) }

-- a name stands in a list once
abbrev pub list_name : ProgramScope → RawName → Result ProgramScope Refusal
list_name s n = if_there s n (if (standing_of s n.name).listed == s.lists then refuse N2 n.line else Ok (with_standing s n.name (record (standing_of s n.name) { listed = s.lists })))

-- a token name of a keep that a thread ends with, which no other such keep has
abbrev pub end_token : ProgramScope → RawName → Result ProgramScope Refusal
end_token s n = if (standing_of s n.name).ends_token then refuse N2 n.line else Ok (with_standing s n.name (record (standing_of s n.name) { ends_token = true }))

-- ---- operations

-- `start` wants an init, `do` a transition or a property, `via` a property with exactly one guard
abbrev pub may_call : Purpose → Call → Bool
may_call p c = of p c.mode where
  of : Purpose → OpMode → Bool
  of purpose.Start mode.Init = true
  of purpose.Do mode.Transition = true
  of purpose.Do mode.Property = true
  of purpose.Via mode.Property = c.guards == 1
  of _ _ = false
