-- The rows of proof statements, and of what stands in the proof block of an atomic statement.
use Rattle.std.specs.Prelude.{ℕ, suc, pred, pos, Bool, true, false, not, ◌&&◌, nat_eq, nat_lt, List, [], ◌∷◌, ◌++◌, length, map, filter, filter_map, slice_get, Option, Some, None, is_some, unwrap_or, option_map, Ok, if◌then◌else◌}
use Rattle.sync_base.specs.Outcome.{◌>>=◌}
use Rattle.sync_base.specs.declared.stops.Rule.{Rule}
use Rattle.sync_base.specs.declared.stops.Rule.TheVariants.{A1, A2, A3, A4, A6, T4, T5}
use Rattle.sync_terms.specs.Trees.{Tree, Lit, Name, Add, Sub, Formula, Le, Eq, neg, formula_size, replaced, replaced_in}
use Rattle.sync_machine.specs.declared.fields.Field.{Field}
use Rattle.sync_base.specs.declared.strategies.Strategy.{Strategy}
use Rattle.sync_base.specs.declared.strategies.Strategy.TheVariants as strategies
use Rattle.sync_machine.specs.Machines.{OperationTree}
use Rattle.sync_machine.specs.Naming.{is_in}
use Rattle.sync_machine.specs.States.{strategies as strategies_of}
use Rattle.sync_machine.specs.Statements.{or_zero, one}
use Rattle.sync_join.specs.Shards.{perm}
use Rattle.sync_thread.specs.declared.operands.CodeDecl.{CodeDecl}
use Rattle.sync_thread.specs.declared.operands.Tok.{Tok}
use Rattle.sync_thread.specs.Programs.{ScriptTree, ShapeTree, ClauseTree, WordTree, ClosingTree, CaseTree, ProofTree, ProofStepTree, Let, Exchange, Split, Merge, Copy, Move, Assert, Open, Case, Close, Still, is_unguarded, is_unclaimed, all_decided}
use Rattle.sync_thread.specs.Arrays.{token_number}
use Rattle.sync_thread_machine.specs.MachineWithProgram.{MachineWithProgram, fields_of, decls_of}
use Rattle.sync_terms.specs.Symbols.{name_symbol}
use Rattle.sync_thread_machine.specs.ProgramSymbols.{symbols, value_symbol, index_symbol}
use Rattle.sync_typing.specs.Symbols.{named_by, paired}
use Rattle.sync_typing.specs.Environments.{Env, TokenTree, Tokens, Outcome, on_some, fits, stands, read, read_form, is_held, token, take_in, use_up, name_as, tell}
use Rattle.sync_typing.specs.Dues.{Due, Wants, Makes, Owes, row, at_hand_due, asked_dues, new_names_due, agrees}
use Rattle.sync_typing.specs.Exchanging.{do_row}

-- ---- proof statements of all places

-- counts
abbrev pub can_split : Strategy → Bool
can_split strategies.Count = true
can_split other = false

-- persistent fields
abbrev pub can_copy : Strategy → Bool
can_copy strategies.PersistentOption = true
can_copy strategies.PersistentMap = true
can_copy strategies.PersistentSet = true
can_copy strategies.PersistentCount = true
can_copy other = false

-- the field's strategy passes; a permission has none
abbrev pub has_kind : List Field → (Strategy → Bool) → ℕ → Bool
has_kind fs p f = on_some (slice_get (strategies_of fs) f) false p

abbrev pub any_field : ℕ → Bool
any_field f = true

abbrev pub with_amount : TokenTree → Tree → TokenTree
with_amount t v = record { field = t.field; key = t.key; value = v }

abbrev pub let_row : ℕ → ℕ → Tree → Env → Outcome Env
let_row line n t e =
    row e line (at_hand_due e (t ∷ []) [] [] ∷ Makes (read e t) ∷ []) [] (Ok (name_as (name_symbol n) (read e t) e))

abbrev pub split_row : ℕ → List Field → ℕ → ℕ → ℕ → Tree → List ScriptTree → Env → Outcome Env
split_row line fs n a b t ss e =
    row e line
    (at_hand_due e (t ∷ []) [] ss ∷ asked_dues e [] (has_kind fs can_split) n ++ new_names_due e (a ∷ b ∷ [])
    ∷ Makes (read e t) ∷ Owes T4 (Le (Lit (pos 0)) (read e t)) ∷ Owes T4 (Le (read e t) (token e n).value) ∷ []) ss
    (take_in line (n ∷ []) ((a, with_amount (token e n) (read e t)) ∷ (b, with_amount (token e n) rest) ∷ []) e) where
      rest : Tree
      rest = Sub (token e n).value (read e t)

abbrev pub merge_row : ℕ → List Field → ℕ → ℕ → ℕ → Env → Outcome Env
merge_row line fs a b into e =
    row e line
    (asked_dues e [] (has_kind fs can_split) a ++ asked_dues e (a ∷ []) (nat_eq (token e a).field) b
    ++ new_names_due e (into ∷ []) ∷ []) []
    (take_in line (a ∷ b ∷ []) ((into, with_amount (token e a) (Add (token e a).value (token e b).value)) ∷ []) e)

abbrev pub copy_row : ℕ → List Field → ℕ → ℕ → Env → Outcome Env
copy_row line fs n into e =
    row e line (asked_dues e [] (has_kind fs can_copy) n ++ new_names_due e (into ∷ []) ∷ []) []
    (take_in line [] ((into, token e n) ∷ []) e)

abbrev pub move_row : ℕ → ℕ → ℕ → Env → Outcome Env
move_row line n into e =
    row e line (asked_dues e [] any_field n ++ new_names_due e (into ∷ []) ∷ []) []
    (take_in line (n ∷ []) ((into, token e n) ∷ []) e)

abbrev pub assert_row : ℕ → Formula → Option ℕ → List ScriptTree → Env → Outcome Env
assert_row line form label ss e =
    row e line (at_hand_due e [] (form ∷ []) ss ∷ Owes T5 (read_form e form) ∷ []) ss
    (tell line label (read_form e form) e)

-- ---- words

-- An open word: its index, and the values before and after the step.
pub record AroundTree : Type 0 where
  pub word : WordTree
  pub index : Tree
  pub old : Tree
  pub new : Tree

-- what `value`, `index` and the `with` names stand for in a word
abbrev pub in_word : Env → WordTree → Tree → Tree → List Tree → ℕ → Tree
in_word e w index value withs x =
    unwrap_or (named_by (paired (symbols w.names) withs ++ (value_symbol, value) ∷ (index_symbol, index) ∷ []) x)
    (stands e x)

-- the field of a token's form; a form without field is that of a permission
abbrev pub shape_field : ShapeTree → ℕ
shape_field x = unwrap_or x.field perm

-- the token that a form says, its names read in a word
abbrev pub shape_token : (ℕ → Tree) → ShapeTree → TokenTree
shape_token s x =
    record { field = shape_field x; key = replaced s (or_zero x.key); value = replaced s (unwrap_or x.value one) }

abbrev pub shape_if : (ℕ → Tree) → Option Tree → Option Tree
shape_if s t = option_map (replaced s) t

-- ---- close and seal

-- a guard, or its negation where there is no token; without a guard nothing has to be shown
abbrev pub guard_dues : (ℕ → Tree) → Option Formula → Bool → List Due
guard_dues s None has = []
guard_dues s (Some g) true = Owes A3 (replaced_in s g) ∷ []
guard_dues s (Some g) false = Owes A3 (neg (replaced_in s g)) ∷ []

abbrev pub shape_dues : Rule → (ℕ → Tree) → ShapeTree → TokenTree → List Due
shape_dues rule s x t = agrees rule t.key (shape_if s x.key) ++ agrees rule t.value (shape_if s x.value)

-- the token of a clause is held, not taken by an earlier clause, and of its field
abbrev pub clause_dues : Env → (ℕ → Tree) → List ℕ → ClauseTree → Option ℕ → List Due
clause_dues e s before c None = Wants A2 (is_some c.guard) ∷ guard_dues s c.guard false
clause_dues e s before c (Some n) =
    Wants A2 (is_held e n && (not (is_in n before) && nat_eq (token e n).field (shape_field c.shape)))
    ∷ guard_dues s c.guard true ++ shape_dues A3 s c.shape (token e n)

abbrev pub added_name : Option ℕ → List ℕ → List ℕ
added_name (Some n) ns = n ∷ ns
added_name None ns = ns

abbrev pub clauses_dues : Env → (ℕ → Tree) → List ℕ → List ClauseTree → List (Option ℕ) → List Due
clauses_dues e s before [] ns = []
clauses_dues e s before (c ∷ cs) [] = []
clauses_dues e s before (c ∷ cs) (n ∷ ns) = clause_dues e s before c n ++ clauses_dues e s (added_name n before) cs ns

abbrev pub fact_dues : (ℕ → Tree) → Option Formula → List Due
fact_dues s None = []
fact_dues s (Some f) = Owes A4 (replaced_in s f) ∷ []

-- the word has the tokens of its list, at a value
abbrev pub closing_row : ℕ → List CodeDecl → List Due → WordTree → Tree → Tree → ClosingTree → Env → Outcome Env
closing_row line ds dues w index value c e =
    row e line
    (at_hand_due e c.args [] c.scripts
    ∷ dues ++ map Makes withs ++ clauses_dues e s [] w.clauses tokens ++ fact_dues s w.fact) c.scripts
    (take_in line (filter_map (λ n. n) tokens) [] e) where
      tokens : List (Option ℕ)
      tokens = map (λ (t : Option Tok). option_map (token_number ds) t) c.tokens

      withs : List Tree
      withs = map (read e) c.args

      s : ℕ → Tree
      s = in_word e w index value withs

-- ---- proof blocks

-- what a block knows of its word: the terms of the `with` values, and the guarded clauses that it has decided
pub record Inside : Type 0 where
  pub env : Env
  pub withs : List Tree
  pub decided : List ℕ

abbrev pub inside : Inside → Outcome Env → Outcome Inside
inside x r = r >>= (λ e. Ok (record x { env = e }))

-- so many new symbols
abbrev pub new_symbols : ℕ → List ℕ → List Tree
new_symbols next [] = []
new_symbols next (n ∷ ns) = Name next ∷ new_symbols (suc next) ns

abbrev pub name_all : List ℕ → List Tree → Env → Env
name_all (n ∷ ns) (t ∷ ts) e = name_all ns ts (name_as (name_symbol n) t e)
name_all (n ∷ ns) [] e = e
name_all [] ts e = e

abbrev pub label_of : Option Formula → Option ℕ → Option ℕ
label_of None label = None
label_of (Some f) label = label

abbrev pub zipped : List ℕ → List TokenTree → Tokens
zipped (n ∷ ns) (t ∷ ts) = (n, t) ∷ zipped ns ts
zipped (n ∷ ns) [] = []
zipped [] ts = []

-- the word's fact is made with and without a label
abbrev pub fact_made : ℕ → (ℕ → Tree) → Option Formula → Outcome Env → Outcome Env
fact_made line s None next = next
fact_made line s (Some f) next = fits line (formula_size (replaced_in s f)) next

abbrev pub told_fact : (ℕ → Tree) → Option Formula → Formula
told_fact s None = Eq (Lit (pos 0)) (Lit (pos 0))
told_fact s (Some f) = replaced_in s f

abbrev pub open_row : ℕ → AroundTree → List ℕ → List ℕ → Option ℕ → Env → Outcome Inside
open_row line a names tokens label e =
    row e line (new_names_due e tokens ∷ []) [] (fact_made line s a.word.fact
    (tell line (label_of a.word.fact label) (told_fact s a.word.fact) (name_all names withs (use_up (length names) e))
    >>= take_in line [] (zipped tokens unguarded)))
    >>= (λ new. Ok (record { env = new; withs = withs; decided = [] })) where
      withs : List Tree
      withs = new_symbols e.fresh names

      s : ℕ → Tree
      s = in_word e a.word a.index a.old withs

      unguarded : List TokenTree
      unguarded = map (λ (c : ClauseTree). shape_token s c.shape) (filter is_unguarded a.word.clauses)

-- the clause with a number, from 1
abbrev pub clause_at : WordTree → ℕ → Option ClauseTree
clause_at w n = slice_get w.clauses (pred n)

abbrev pub case_of : ℕ → AroundTree → Inside → ClauseTree → Option ℕ → List ScriptTree → Outcome Env
case_of line a x c given ss =
    row x.env line
    (at_hand_due x.env [] [] ss ∷ new_names_due x.env (added_name given []) ∷ guard_dues s c.guard (is_some given)) ss
    (take_in line [] (zipped (added_name given []) (shape_token s c.shape ∷ [])) x.env) where
      s : ℕ → Tree
      s = in_word x.env a.word a.index a.old x.withs

-- the shape of the block says that it is the number of a guarded clause
abbrev pub case_row : ℕ → AroundTree → CaseTree → Inside → Outcome Inside
case_row line a f x =
    on_some (clause_at a.word f.clause) (Ok x)
    (λ c. inside (record x { decided = f.clause ∷ x.decided }) (case_of line a x c f.taken f.scripts))

abbrev pub close_row : ℕ → List CodeDecl → AroundTree → ClosingTree → Inside → Outcome Inside
close_row line ds a c x =
    inside x (closing_row line ds (Wants A1 (all_decided x.decided 1 a.word.clauses) ∷ []) a.word a.index a.new c x.env)

-- a word without clauses and fact may change
abbrev pub still_dues : AroundTree → List Due
still_dues a = if is_unclaimed a.word then [] else Owes A6 (Eq a.new a.old) ∷ []

abbrev pub still_row : ℕ → AroundTree → List ScriptTree → Env → Outcome Env
still_row line a ss e = row e line (at_hand_due e [] [] ss ∷ still_dues a) ss (Ok e)

-- ---- rows by the statement

abbrev pub with_op : {X : Type 0} → MachineWithProgram → ℕ → Outcome X → (OperationTree → Outcome X) → Outcome X
with_op x n other f = on_some (slice_get x.machine.ops n) other f

-- proof statements that stand in every place; the others have rows of their own
abbrev pub proof_row : MachineWithProgram → ℕ → ProofTree → Env → Outcome Env
proof_row x line (Let n t) e = let_row line n t e
proof_row x line (Exchange d) e = with_op x d.op (Ok e) (λ o. do_row line x o d e)
proof_row x line (Split n a b t ss) e = split_row line (fields_of x) n a b t ss e
proof_row x line (Merge a b into) e = merge_row line (fields_of x) a b into e
proof_row x line (Copy n into) e = copy_row line (fields_of x) n into e
proof_row x line (Move t into) e = move_row line (token_number (decls_of x) t) into e
proof_row x line (Assert form label ss) e = assert_row line form label ss e
proof_row x line other e = Ok e

abbrev pub block_step : MachineWithProgram → AroundTree → ProofStepTree → Inside → Outcome Inside
block_step x a s b = of s.what where
  of : ProofTree → Outcome Inside
  of (Open names tokens label) = open_row s.line a names tokens label b.env
  of (Case f) = case_row s.line a f b
  of (Close c) = close_row s.line (decls_of x) a c b
  of (Still ss) = inside b (still_row s.line a ss b.env)
  of other = inside b (proof_row x s.line other b.env)

abbrev pub block_steps : MachineWithProgram → AroundTree → List ProofStepTree → Inside → Outcome Inside
block_steps x a [] b = Ok b
block_steps x a (s ∷ ss) b = block_step x a s b >>= block_steps x a ss

abbrev pub block_row : MachineWithProgram → AroundTree → List ProofStepTree → Env → Outcome Env
block_row x a ss e = block_steps x a ss (record { env = e; withs = []; decided = [] }) >>= (λ b. Ok b.env)

-- ---- the shape of a block

pub data Stage : Type 0 where
  Fresh : Stage
  Opened : (cases : List ℕ) → Stage
  Done : Stage
  Wrong : Stage

abbrev pub is_guarded : WordTree → ℕ → Bool
is_guarded w n = nat_lt 0 n && on_some (clause_at w n) false (λ (c : ClauseTree). is_some c.guard)

abbrev pub moved : WordTree → Stage → ProofTree → Stage
moved w Fresh (Still ss) = Done
moved w Fresh (Open names tokens label) = Opened []
moved w (Opened ns) (Close c) = Done
moved w (Opened ns) (Case f) =
    if is_guarded w f.clause && not (is_in f.clause ns) then Opened (f.clause ∷ ns) else Wrong
moved w stage (Still ss) = Wrong
moved w stage (Open names tokens label) = Wrong
moved w stage (Close c) = Wrong
moved w stage (Case f) = Wrong
moved w stage other = stage

abbrev pub stage_behind : WordTree → Stage → List ProofStepTree → Stage
stage_behind w stage [] = stage
stage_behind w stage (s ∷ ss) = stage_behind w (moved w stage s.what) ss

abbrev pub is_block_shaped : WordTree → List ProofStepTree → Bool
is_block_shaped w ss = of (stage_behind w Fresh ss) where
  of : Stage → Bool
  of Done = true
  of Fresh = false
  of (Opened ns) = false
  of Wrong = false
