-- What the typing rules take for granted of a program: that its names, numbers and forms are what they should be.
--
-- The rules on names refuse every text that does not keep this; they ask for more, which is not needed here (that a
-- name is known before it is used is said by the typing rules themselves, or does not matter).
use Rattle.std.specs.Prelude.{◌≡◌, ◌^◌, ℕ, ◌-◌, ◌%◌, Bool, true, false, not, ◌&&◌, ◌||◌, nat_eq, nat_lt, List, [], ◌∷◌, ◌++◌, length, map, flat_map, count_by, slice_get, Option, Some, None, is_some, is_none, option_map, if◌then◌else◌}
use Rattle.std.specs.List.{list_all}
use Rattle.sync_terms.specs.Trees.{Tree, Formula}
use Rattle.sync_base.specs.declared.strategies.OpMode.{OpMode}
use Rattle.sync_base.specs.declared.strategies.OpMode.TheVariants as modes
use Rattle.sync_thread.specs.declared.operands.Opd.{Opd}
use Rattle.sync_thread.specs.declared.operands.Opd.TheVariants.{Number, Local}
use Rattle.sync_thread.specs.declared.operands.Cond.{Cond}
use Rattle.sync_thread.specs.declared.operands.Calc.{Calc}
use Rattle.sync_thread.specs.declared.operands.Calc.TheVariants as calc
use Rattle.sync_thread.specs.declared.operands.WordOp.{WordOp}
use Rattle.sync_thread.specs.declared.operands.WordOp.TheVariants as op
use Rattle.sync_thread.specs.declared.operands.Tok.{Tok}
use Rattle.sync_base.specs.declared.strategies.Strategy.{Strategy}
use Rattle.sync_base.specs.declared.strategies.Strategy.TheVariants as strategies
use Rattle.sync_machine.specs.Machines.{Term, PlaceTree, StepTree, OperationTree, MachineTree, ActTree}
use Rattle.sync_machine.specs.Machines as acts
use Rattle.sync_machine.specs.States.{Sort, Numbers, strategy_at}
use Rattle.sync_machine.specs.Scope.{Known}
use Rattle.sync_machine.specs.Naming.{is_in, number_fault, formula_fault}
use Rattle.sync_rules.specs.Shapes.{has_shape, has_value_alone}
use Rattle.sync_rules.specs.Slots.{SlotTree, slots_of}
use Rattle.sync_thread.specs.Control.{Brace, Do, On, OnWhen, If, Loop, Next, Break, Meet, End}
use Rattle.sync_thread.specs.Programs.{IndexTree, ShapeTree, ClauseTree, WordTree, DeclTree, Word, Cell, KeepLineTree, KeepFactTree, KeepTree, DoTree, ClosingTree, ProofTree, Let, Exchange, Split, Merge, Copy, Move, Assert, Open, Case, Close, Still, Seal, Give, ProofStepTree, JumpTree, LocalTree, Set, Proof, AtomicTree, SharedTree, Read, Write, Peek, Operate, Print, ChoiceTree, ListTree, ThreadTree, StartTree, ProgramTree, is_empty, is_unguarded}
use Rattle.sync_thread.specs.Arrays.{words_in, cells_named, name_limit}
use Rattle.sync_thread_machine.specs.MachineWithProgram.{MachineWithProgram, fields_of, decls_of}
use Rattle.sync_thread_machine.specs.ProgramSymbols.{symbols, value_symbol, index_symbol, old_symbol, new_symbol, wrap_symbol, first_fresh}
use Rattle.sync_typing.specs.Environments.{on_some}
use Rattle.sync_typing.specs.Dues.{are_apart}
use Rattle.sync_typing.specs.Exchanging.{named_field, gives_token}
use Rattle.sync_typing.specs.Keeps.{own_tokens}
use Rattle.sync_typing.specs.Lists.{named_word, assigned_locals}
use Rattle.sync_typing.specs.Typing.{is_constant, named_thread, all_ends}

-- ---- names and numbers

abbrev pub is_name : ℕ → Bool
is_name n = nat_lt n name_limit

abbrev pub are_names : List ℕ → Bool
are_names ns = list_all is_name ns

abbrev pub are_apart_names : List ℕ → Bool
are_apart_names ns = are_names ns && are_apart ns

-- a number of a word
abbrev pub is_small : ℕ → Bool
is_small n = nat_lt n (2 ^ 64)

abbrev pub as_many : {A B : Type 0} → List A → List B → Bool
as_many xs ys = nat_eq (length xs) (length ys)

-- ---- what terms may name: constants, some of `value` to `wrap`, and names, each of them a number

abbrev pub is_constant_field : MachineWithProgram → ℕ → Bool
is_constant_field x f = nat_lt f (length (fields_of x)) && is_constant (strategy_at (fields_of x) f)

abbrev pub number_if : Bool → Option Sort
number_if b = if b then Some Numbers else None

-- `held` of a name
abbrev pub is_held_symbol : ℕ → Bool
is_held_symbol y = nat_lt 63 y && (nat_lt y first_fresh && nat_eq (y % 4) 2)

-- a name or `held` of one
abbrev pub is_named : ℕ → Bool
is_named y = is_held_symbol y || (nat_lt 63 y && (nat_lt y first_fresh && nat_eq (y % 4) 0))

abbrev pub known_with : MachineWithProgram → List ℕ → Known
known_with x words y = number_if (is_constant_field x y || (is_in y words || is_named y))

-- in a word: its own names besides, no others
abbrev pub known_in_word : MachineWithProgram → WordTree → Known
known_in_word x w y = number_if (is_constant_field x y || is_in y (value_symbol ∷ index_symbol ∷ symbols w.names))

abbrev pub is_number : Known → Tree → Bool
is_number k t = is_none (number_fault k t)

abbrev pub is_formula : Known → Formula → Bool
is_formula k f = is_none (formula_fault k f)

abbrev pub if_there : {A : Type 0} → (A → Bool) → Option A → Bool
if_there p None = true
if_there p (Some a) = p a

-- ---- forms of tokens

-- what a token of a field has: a variable its value, a field without tokens nothing, another what its places have
abbrev pub has_token_shape : Strategy → PlaceTree → Bool
has_token_shape strategies.Variable p = has_value_alone p
has_token_shape strategies.StorageMap p = false
has_token_shape other p = has_shape other p

-- a permission has key and value
abbrev pub is_form : MachineWithProgram → ShapeTree → Bool
is_form x s = of s.field where
  of : Option ℕ → Bool
  of None = is_some s.key && is_some s.value
  of (Some f) =
      nat_lt f (length (fields_of x))
      && has_token_shape (strategy_at (fields_of x) f) (record { key = s.key; value = option_map Term s.value })

abbrev pub shape_is_named : MachineWithProgram → Known → ShapeTree → Bool
shape_is_named x k s = is_form x s && (if_there (is_number k) s.key && if_there (is_number k) s.value)

-- ---- words and cells

abbrev pub clause_is_named : MachineWithProgram → WordTree → ClauseTree → Bool
clause_is_named x w c =
    shape_is_named x (known_in_word x w) c.shape && if_there (is_formula (known_in_word x w)) c.guard

abbrev pub decl_is_named : MachineWithProgram → DeclTree → Bool
decl_is_named x (Word w) =
    is_small w.init
    && (are_apart_names w.names
    && (list_all (clause_is_named x w) w.clauses && if_there (is_formula (known_in_word x w)) w.fact))
decl_is_named x (Cell c) = is_small c.init

abbrev pub decl_name : DeclTree → ℕ
decl_name (Word w) = w.name
decl_name (Cell c) = c.name

abbrev pub decls_are_named : MachineWithProgram → Bool
decls_are_named x = are_apart_names (map decl_name x.program.decls) && list_all (decl_is_named x) x.program.decls

-- ---- exchanges

abbrev pub is_init : OperationTree → Bool
is_init o = of o.mode where
  of : OpMode → Bool
  of modes.Init = true
  of modes.Transition = false
  of modes.Property = false

abbrev pub is_property : OperationTree → Bool
is_property o = of o.mode where
  of : OpMode → Bool
  of modes.Property = true
  of modes.Init = false
  of modes.Transition = false

abbrev pub is_guard : StepTree → Bool
is_guard s = of s.act where
  of : ActTree → Bool
  of (acts.Guard f p) = true
  of other = false

-- a property with exactly one guard
abbrev pub may_peek : OperationTree → Bool
may_peek o = is_property o && nat_eq (count_by is_guard o.steps) 1

-- the start alone may name the permission of a cell
abbrev pub token_is_named : MachineWithProgram → Bool → Tok → Bool
token_is_named x starts t =
    is_name t.name && if_there (λ (i : ℕ). starts && is_some (cells_named t.name (decls_of x))) t.at

-- so many tokens an operation asks for, and gives
abbrev pub tokens_asked : MachineWithProgram → OperationTree → ℕ
tokens_asked x o = count_by (λ (s : SlotTree). is_some (named_field s)) (slots_of (fields_of x) o)

abbrev pub tokens_given : MachineWithProgram → OperationTree → ℕ
tokens_given x o = count_by gives_token (slots_of (fields_of x) o)

-- an operation of this kind, with as many arguments, tokens and new names as it wants
abbrev pub call_is_named : MachineWithProgram → (OperationTree → Bool) → Bool → Known → DoTree → Bool
call_is_named x kind starts k d = on_some (slice_get x.machine.ops d.op) false (λ (o : OperationTree).
    kind o && (as_many d.args o.params && (nat_eq (length d.tokens) (tokens_asked x o)
    && (nat_eq (length d.given) (tokens_given x o)
    && (list_all (is_number k) d.args && (list_all (token_is_named x starts) d.tokens && are_names d.given))))))

-- ---- keeps

abbrev pub keep_is_named : MachineWithProgram → Known → KeepTree → Bool
keep_is_named x k keep = are_apart_names keep.names && (are_apart_names (own_tokens keep)
    && (list_all (λ (l : KeepLineTree). shape_is_named x k l.shape) keep.lines
    && list_all (λ (f : KeepFactTree). is_formula k f.form) keep.facts))

-- as many arguments as the keep has names, where there is a keep
abbrev pub jump_is_named : Known → JumpTree → Option KeepTree → Bool
jump_is_named k j keep = list_all (is_number k) j.args && if_there (λ (t : KeepTree). as_many j.args t.names) keep

-- ---- proof statements

-- in the start, among a thread's statements, or in the block of an operation on a word
pub data SiteTree : Type 0 where
  AtStart : SiteTree
  InList : SiteTree
  AtWord : (word : WordTree) → SiteTree

abbrev pub at_start : SiteTree → Bool
at_start AtStart = true
at_start InList = false
at_start (AtWord w) = false

abbrev pub at_word : SiteTree → (WordTree → Bool) → Bool
at_word AtStart p = false
at_word InList p = false
at_word (AtWord w) p = p w

-- the words that terms may say there
abbrev pub words_at : SiteTree → List ℕ
words_at AtStart = []
words_at InList = wrap_symbol ∷ []
words_at (AtWord w) = old_symbol ∷ new_symbol ∷ wrap_symbol ∷ []

abbrev pub closing_is_named : MachineWithProgram → SiteTree → WordTree → ClosingTree → Bool
closing_is_named x site w c = as_many c.args w.names && (as_many c.tokens w.clauses
    && (list_all (is_number (known_with x (words_at site))) c.args
    && list_all (if_there (token_is_named x (at_start site))) c.tokens))

abbrev pub proof_is_named : MachineWithProgram → SiteTree → ProofTree → Bool
proof_is_named x site p = of p where
  k : Known
  k = known_with x (words_at site)

  of : ProofTree → Bool
  of (Let n t) = is_name n && is_number k t
  of (Exchange d) = call_is_named x (λ o. not (is_init o)) (at_start site) k d
  of (Split n a b t ss) = are_names (n ∷ a ∷ b ∷ []) && is_number k t
  of (Merge a b into) = are_names (a ∷ b ∷ into ∷ [])
  of (Copy n into) = are_names (n ∷ into ∷ [])
  of (Move t into) = token_is_named x (at_start site) t && is_name into
  of (Assert f label ss) = is_formula k f
  of (Open names tokens label) =
      at_word site (λ w. as_many names w.names
      && (nat_eq (length tokens) (count_by is_unguarded w.clauses) && (are_apart_names names && are_names tokens)))
  of (Case f) = at_word site (λ w. if_there is_name f.taken)
  of (Close c) = at_word site (λ w. closing_is_named x site w c)
  of (Still ss) = at_word site (λ w. true)
  of (Seal w i c) =
      at_start site
      && on_some (named_word w (words_in x.program.decls)) false (λ (d : WordTree). closing_is_named x site d c)
  of (Give t args ss) =
      at_start site
      && (list_all (is_number k) args
      && on_some (named_thread t x.program.threads) false (λ (d : ThreadTree). as_many args d.takes.names))

abbrev pub steps_are_named : MachineWithProgram → SiteTree → List ProofStepTree → Bool
steps_are_named x site ss = list_all (λ (s : ProofStepTree). proof_is_named x site s.what) ss

-- ---- statements

-- a number of 64 bits, or a local of the thread
abbrev pub operand_is_named : List ℕ → Opd → Bool
operand_is_named locals (Number n) = is_small n
operand_is_named locals (Local y) = is_in y locals

abbrev pub is_divisor : ℕ → Bool
is_divisor n = nat_lt 0 n && is_small n

abbrev pub calc_is_named : List ℕ → Calc → Bool
calc_is_named ls (calc.Plain a) = operand_is_named ls a
calc_is_named ls (calc.Plus a b) = operand_is_named ls a && operand_is_named ls b
calc_is_named ls (calc.Minus a b) = operand_is_named ls a && operand_is_named ls b
calc_is_named ls (calc.Times a n) = operand_is_named ls a && is_divisor n
calc_is_named ls (calc.Over a n) = operand_is_named ls a && is_divisor n
calc_is_named ls (calc.Modulo a n) = operand_is_named ls a && is_divisor n

abbrev pub op_is_named : List ℕ → WordOp → Bool
op_is_named ls op.Load = true
op_is_named ls (op.Store a) = operand_is_named ls a
op_is_named ls (op.Swap a) = operand_is_named ls a
op_is_named ls (op.Add a) = operand_is_named ls a
op_is_named ls (op.Sub a) = operand_is_named ls a
op_is_named ls (op.Cas a b) = operand_is_named ls a && operand_is_named ls b

abbrev pub cond_is_named : List ℕ → Cond → Bool
cond_is_named ls c = operand_is_named ls c.left && operand_is_named ls c.right

abbrev pub index_is_named : List ℕ → IndexTree → Bool
index_is_named ls i = operand_is_named ls i.operand

abbrev pub is_cell : MachineWithProgram → ℕ → Bool
is_cell x c = is_some (cells_named c (decls_of x))

-- an operation on a word that is there, and what is asked of its blocks
abbrev pub atomic_is_named : MachineWithProgram → List ℕ → AtomicTree → (WordTree → Bool) → Bool
atomic_is_named x ls a blocks =
    op_is_named ls a.op
    && (index_is_named ls a.index && on_some (named_word a.word (words_in x.program.decls)) false blocks)

abbrev pub local_is_named : MachineWithProgram → List ℕ → LocalTree → Bool
local_is_named x ls (Set y c label) = calc_is_named ls c
local_is_named x ls (Proof p) = proof_is_named x InList p

abbrev pub shared_is_named : MachineWithProgram → List ℕ → SharedTree → Bool
shared_is_named x ls (Read y c i n ss) = is_cell x c && (index_is_named ls i && is_name n)
shared_is_named x ls (Write c i o n ss) = is_cell x c && (index_is_named ls i && (operand_is_named ls o && is_name n))
shared_is_named x ls (Peek y c i d) =
    is_cell x c && (index_is_named ls i && call_is_named x may_peek false (known_with x (words_at InList)) d)
shared_is_named x ls (Operate a block) = atomic_is_named x ls a (λ w. steps_are_named x (AtWord w) block)
shared_is_named x ls (Print l o) = operand_is_named ls o

abbrev pub choice_is_named : MachineWithProgram → List ℕ → ChoiceTree → Bool
choice_is_named x ls a =
    atomic_is_named x ls a.atomic (λ w. steps_are_named x (AtWord w) a.first && steps_are_named x (AtWord w) a.second)
    && cond_is_named ls a.test.cond

-- the keeps that jumps go to
pub record Aims : Type 0 where
  pub next : Option KeepTree
  pub break : Option KeepTree
  pub meet : Option KeepTree
  pub end : Option KeepTree

abbrev pub known_here : MachineWithProgram → Known
known_here x = known_with x (words_at InList)

abbrev pub keep_here : MachineWithProgram → Option KeepTree → Bool
keep_here x k = if_there (keep_is_named x (known_here x)) k

abbrev pub list_is_named : MachineWithProgram → List ℕ → Aims → ListTree → Bool
list_is_named x ls t (Brace n) = true
list_is_named x ls t (Do l n rest) = local_is_named x ls l && list_is_named x ls t rest
list_is_named x ls t (On a n rest) = shared_is_named x ls a && list_is_named x ls t rest
list_is_named x ls t (OnWhen a n one two joined rest) =
    choice_is_named x ls a
    && (keep_here x joined
    && (list_is_named x ls (record t { meet = joined }) one
    && (list_is_named x ls (record t { meet = joined }) two && list_is_named x ls t rest)))
list_is_named x ls t (If c n one two joined rest) =
    cond_is_named ls c.cond
    && (keep_here x joined
    && (list_is_named x ls (record t { meet = joined }) one
    && (list_is_named x ls (record t { meet = joined }) two && list_is_named x ls t rest)))
list_is_named x ls t (Loop k j n body left rest) =
    keep_is_named x (known_here x) k && (jump_is_named (known_here x) j (Some k) && (keep_here x left
    && (list_is_named x ls (record t { next = Some k; break = left; meet = None }) body
    && list_is_named x ls t rest)))
list_is_named x ls t (Next j n rest) = jump_is_named (known_here x) j t.next && list_is_named x ls t rest
list_is_named x ls t (Break j n rest) = jump_is_named (known_here x) j t.break && list_is_named x ls t rest
list_is_named x ls t (Meet j n rest) = jump_is_named (known_here x) j t.meet && list_is_named x ls t rest
list_is_named x ls t (End j n rest) = jump_is_named (known_here x) j t.end && list_is_named x ls t rest

-- ---- a name is never both a local and a proof name of one thread

abbrev pub bound_by_proof : ProofTree → List ℕ
bound_by_proof (Let n t) = n ∷ []
bound_by_proof (Open names tokens label) = names
bound_by_proof other = []

abbrev pub bound_by_steps : List ProofStepTree → List ℕ
bound_by_steps ss = flat_map (λ (s : ProofStepTree). bound_by_proof s.what) ss

abbrev pub bound_by_keep : Option KeepTree → List ℕ
bound_by_keep None = []
bound_by_keep (Some k) = k.names

abbrev pub bound_here : LocalTree → List ℕ
bound_here (Set y c label) = []
bound_here (Proof p) = bound_by_proof p

abbrev pub bound_by_shared : SharedTree → List ℕ
bound_by_shared (Operate a block) = bound_by_steps block
bound_by_shared other = []

-- the proof names that a list binds
abbrev pub proof_names : ListTree → List ℕ
proof_names (Brace n) = []
proof_names (Do l n rest) = bound_here l ++ proof_names rest
proof_names (On a n rest) = bound_by_shared a ++ proof_names rest
proof_names (OnWhen a n one two joined rest) =
    bound_by_steps a.first ++ bound_by_steps a.second ++ bound_by_keep joined ++ proof_names one ++ proof_names two
    ++ proof_names rest
proof_names (If c n one two joined rest) =
    bound_by_keep joined ++ proof_names one ++ proof_names two ++ proof_names rest
proof_names (Loop k j n body left rest) = k.names ++ bound_by_keep left ++ proof_names body ++ proof_names rest
proof_names (Next j n rest) = proof_names rest
proof_names (Break j n rest) = proof_names rest
proof_names (Meet j n rest) = proof_names rest
proof_names (End j n rest) = proof_names rest

abbrev pub none_in : List ℕ → List ℕ → Bool
none_in ns ls = list_all (λ n. not (is_in n ls)) ns

-- a thread's or the final block's list, with the keeps that it begins with
abbrev pub body_is_named : MachineWithProgram → Aims → List KeepTree → ListTree → Bool
body_is_named x t ks body =
    are_names (assigned_locals body [])
    && (none_in (flat_map (λ (k : KeepTree). k.names) ks ++ proof_names body) (assigned_locals body [])
    && list_is_named x (assigned_locals body []) t body)

-- ---- programs

abbrev pub no_aims : Aims
no_aims = record { next = None; break = None; meet = None; end = None }

abbrev pub thread_is_named : MachineWithProgram → ThreadTree → Bool
thread_is_named x t =
    keep_is_named x (known_with x []) t.takes
    && (keep_is_named x (known_with x []) t.ends
    && body_is_named x (record no_aims { end = Some t.ends }) (t.takes ∷ []) t.body)

abbrev pub threads_are_named : MachineWithProgram → Bool
threads_are_named x =
    are_apart (map (λ (t : ThreadTree). t.name) x.program.threads) && list_all (thread_is_named x) x.program.threads

-- the keeps at the ends of threads have nothing in common
abbrev pub ends_are_apart : ProgramTree → Bool
ends_are_apart p =
    are_apart (flat_map (λ (k : KeepTree). k.names) (all_ends p)) && are_apart (flat_map own_tokens (all_ends p))

-- The arguments of the start know no name but `held` of names: these the typing rules refuse there.
abbrev pub known_at_start : Known
known_at_start y = number_if (is_held_symbol y)

-- a program without a start is the empty one
abbrev pub start_is_named : MachineWithProgram → Option StartTree → Bool
start_is_named x None = is_empty x.program
start_is_named x (Some s) = call_is_named x is_init true known_at_start s.form && steps_are_named x AtStart s.steps

abbrev pub final_is_named : MachineWithProgram → Option ListTree → Bool
final_is_named x None = true
final_is_named x (Some body) = body_is_named x no_aims (all_ends x.program) body

pub record AreNamed (x : MachineWithProgram) : Type 0 where
  pub declared : decls_are_named x ≡ true
  pub started : start_is_named x x.program.start ≡ true
  pub threads : threads_are_named x ≡ true
  pub apart : ends_are_apart x.program ≡ true
  pub few : nat_lt (length x.program.threads) (2 ^ 32 - 1) ≡ true
  pub last : final_is_named x x.program.last ≡ true

abbrev pub KeepsNames : MachineTree → ProgramTree → Type 0
KeepsNames m p = AreNamed (record { machine = m; program = p })

-- the same as a test
abbrev pub are_named : MachineWithProgram → Bool
are_named x =
    decls_are_named x
    && (start_is_named x x.program.start
    && (threads_are_named x
    && (ends_are_apart x.program
    && (nat_lt (length x.program.threads) (2 ^ 32 - 1) && final_is_named x x.program.last))))

abbrev pub keeps_names : MachineTree → ProgramTree → Bool
keeps_names m p = are_named (record { machine = m; program = p })
