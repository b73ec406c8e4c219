-- Lists of statements: their endings, their silent paths, and the first rule that they break.
use Rattle.std.specs.Prelude.{ℕ, suc, pos, Bool, true, false, not, ◌&&◌, ◌||◌, nat_eq, List, [], ◌∷◌, ◌++◌, Option, Some, None, is_some, Ok, Err, if◌then◌else◌}
use Rattle.std.specs.Bool.{beq}
use Rattle.sync_base.specs.Outcome.{first, ◌>>=◌}
use Rattle.sync_base.specs.declared.stops.Refusal.{Refusal}
use Rattle.sync_base.specs.declared.stops.Rule.{Rule}
use Rattle.sync_base.specs.declared.stops.Rule.TheVariants.{A6, T8, T9}
use Rattle.sync_thread.specs.declared.operands.WordOp.{WordOp}
use Rattle.sync_thread.specs.declared.operands.WordOp.TheVariants as op
use Rattle.sync_terms.specs.Trees.{Tree, Name, Formula, Eq, Not, And, Or, neg, formula_size}
use Rattle.sync_machine.specs.Naming.{is_in}
use Rattle.sync_thread.specs.Resting.{silent}
use Rattle.sync_thread.specs.Control.{Forms, Stms, Brace, Do, On, OnWhen, If, Loop, Next, Break, Meet, End}
use Rattle.sync_thread.specs.Programs.{WordTree, KeepTree, ProofStepTree, JumpTree, LocalTree, Set, Proof, SharedTree, Read, Write, Peek, Operate, Print, AtomicTree, TestTree, ChoiceTree, ListTree}
use Rattle.sync_thread.specs.Arrays.{Span, words_in, cells_named}
use Rattle.sync_thread_machine.specs.MachineWithProgram.{MachineWithProgram, decls_of}
use Rattle.sync_thread_machine.specs.ProgramSymbols.{old_symbol, new_symbol, wrap_symbol}
use Rattle.sync_typing.specs.Environments.{Env, Outcome, on_some, refused, fits, stands, bind, assign, tell, top, use_up}
use Rattle.sync_typing.specs.Dues.{Due, Wants, row, at_hand_due}
use Rattle.sync_typing.specs.Locals.{operand, condition, added, taken_off, index_dues, index_spare, set_row, read_row, write_row}
use Rattle.sync_typing.specs.Exchanging.{peek_row}
use Rattle.sync_typing.specs.Blocks.{AroundTree, is_block_shaped, block_row, proof_row, with_op}
use Rattle.sync_typing.specs.Keeps.{keep_due, keep_if_due, arrive_row, after_keep}

-- ---- what a list says by its text, whatever its statements are

-- a `meet` of the list itself
abbrev pub has_meet : {f : Forms} → Stms f → Bool
has_meet (Brace n) = false
has_meet (Do l n rest) = has_meet rest
has_meet (On a n rest) = has_meet rest
has_meet (OnWhen a n one two joined rest) = has_meet rest
has_meet (If c n one two joined rest) = has_meet rest
has_meet (Loop k j n body left rest) = has_meet rest
has_meet (Next j n rest) = has_meet rest
has_meet (Break j n rest) = has_meet rest
has_meet (Meet j n rest) = true
has_meet (End j n rest) = has_meet rest

-- a `break` of the loop whose body this list is or stands in
abbrev pub has_break : {f : Forms} → Stms f → Bool
has_break (Brace n) = false
has_break (Do l n rest) = has_break rest
has_break (On a n rest) = has_break rest
has_break (OnWhen a n one two joined rest) = has_break one || (has_break two || has_break rest)
has_break (If c n one two joined rest) = has_break one || (has_break two || has_break rest)
has_break (Loop k j n body left rest) = has_break rest
has_break (Next j n rest) = has_break rest
has_break (Break j n rest) = true
has_break (Meet j n rest) = has_break rest
has_break (End j n rest) = has_break rest

abbrev pub line_of : {f : Forms} → Stms f → ℕ
line_of (Brace n) = n
line_of (Do l n rest) = n
line_of (On a n rest) = n
line_of (OnWhen a n one two joined rest) = n
line_of (If c n one two joined rest) = n
line_of (Loop k j n body left rest) = n
line_of (Next j n rest) = n
line_of (Break j n rest) = n
line_of (Meet j n rest) = n
line_of (End j n rest) = n

-- the line of the brace that closes a list
abbrev pub end_line : {f : Forms} → Stms f → ℕ
end_line (Brace n) = n
end_line (Do l n rest) = end_line rest
end_line (On a n rest) = end_line rest
end_line (OnWhen a n one two joined rest) = end_line rest
end_line (If c n one two joined rest) = end_line rest
end_line (Loop k j n body left rest) = end_line rest
end_line (Next j n rest) = end_line rest
end_line (Break j n rest) = end_line rest
end_line (Meet j n rest) = end_line rest
end_line (End j n rest) = end_line rest

-- ---- the locals that a list assigns, in the order in which it first does, after earlier ones

abbrev pub with_local : ℕ → List ℕ → List ℕ
with_local x xs = if is_in x xs then xs else xs ++ x ∷ []

abbrev pub with_local_if : Option ℕ → List ℕ → List ℕ
with_local_if None xs = xs
with_local_if (Some x) xs = with_local x xs

abbrev pub assigned_here : LocalTree → List ℕ → List ℕ
assigned_here (Set x calc label) xs = with_local x xs
assigned_here (Proof p) xs = xs

abbrev pub assigned_by : SharedTree → List ℕ → List ℕ
assigned_by (Read x c i n ss) xs = with_local x xs
assigned_by (Peek x c i d) xs = with_local x xs
assigned_by (Operate a b) xs = with_local_if a.local xs
assigned_by (Write c i a n ss) xs = xs
assigned_by (Print l o) xs = xs

abbrev pub assigned_locals : ListTree → List ℕ → List ℕ
assigned_locals (Brace n) xs = xs
assigned_locals (Do l n rest) xs = assigned_locals rest (assigned_here l xs)
assigned_locals (On a n rest) xs = assigned_locals rest (assigned_by a xs)
assigned_locals (OnWhen a n one two joined rest) xs =
    assigned_locals rest (assigned_locals two (assigned_locals one (with_local_if a.atomic.local xs)))
assigned_locals (If c n one two joined rest) xs = assigned_locals rest (assigned_locals two (assigned_locals one xs))
assigned_locals (Loop k j n body left rest) xs = assigned_locals rest (assigned_locals body xs)
assigned_locals (Next j n rest) xs = assigned_locals rest xs
assigned_locals (Break j n rest) xs = assigned_locals rest xs
assigned_locals (Meet j n rest) xs = assigned_locals rest xs
assigned_locals (End j n rest) xs = assigned_locals rest xs

-- ---- where a list stands

-- the text, and the locals of the thread
pub record Scene : Type 0 where
  pub text : MachineWithProgram
  pub locals : List ℕ

pub data ListKind : Type 0 where
  OfThread : ListKind
  OfLoop : ListKind
  OfBranch : ListKind
  OfFinal : ListKind

-- a keep to come to, with the `wrap` of its place
pub record Target : Type 0 where
  pub keep : KeepTree
  pub wrap : Tree

pub record Spot : Type 0 where
  pub kind : ListKind
  pub next : Option Target
  pub break : Option Target
  pub meet : Option Target
  pub end : Option Target

abbrev pub target : Env → Option KeepTree → Option Target
target e None = None
target e (Some k) = Some (record { keep = k; wrap = stands e wrap_symbol })

abbrev pub in_branch : Env → Option KeepTree → Spot → Spot
in_branch e joined p = record p { kind = OfBranch; meet = target e joined }

abbrev pub in_loop : Env → KeepTree → Option KeepTree → Spot → Spot
in_loop e k left p = record p { kind = OfLoop; next = target e (Some k); break = target e left; meet = None }

-- ---- rows

abbrev pub named_word : ℕ → List WordTree → Option WordTree
named_word n [] = None
named_word n (w ∷ ws) = if nat_eq n w.name then Some w else named_word n ws

abbrev pub word_of : Scene → ℕ → Option WordTree
word_of s n = named_word n (words_in s.text.program.decls)

abbrev pub cell_of : Scene → ℕ → Option Span
cell_of s n = cells_named n (decls_of s.text)

-- the new value of a word, with the symbols that are free
abbrev pub new_value : Env → WordOp → Tree
new_value e op.Load = Name e.fresh
new_value e (op.Store a) = operand e a
new_value e (op.Swap a) = operand e a
new_value e (op.Add a) = Name (suc e.fresh)
new_value e (op.Sub a) = Name (suc e.fresh)
new_value e (op.Cas a b) = Name (suc e.fresh)

-- what is known of old, new and `wrap`
abbrev pub cas_fact : Tree → Tree → Tree → Tree → Formula
cas_fact old new a b = Or (And (Eq old a) (Eq new b)) (And (Not (Eq old a)) (Eq new old))

-- e is the environment before the statement, whose symbols are meant
abbrev pub step_fact : ℕ → Env → WordOp → Option ℕ → Env → Outcome Env
step_fact line e (op.Add a) label now =
    bind line wrap_symbol (Name (suc (suc e.fresh))) (pos 1) now
    >>= tell line label (added (Name (suc e.fresh)) (Name e.fresh) (operand e a) (Name (suc (suc e.fresh))))
step_fact line e (op.Sub a) label now =
    bind line wrap_symbol (Name (suc (suc e.fresh))) (pos 1) now
    >>= tell line label (taken_off (Name (suc e.fresh)) (Name e.fresh) (operand e a) (Name (suc (suc e.fresh))))
step_fact line e (op.Cas a b) label now =
    tell line label (cas_fact (Name e.fresh) (Name (suc e.fresh)) (operand e a) (operand e b)) now
step_fact line e op.Load label now = Ok now
step_fact line e (op.Store a) label now = Ok now
step_fact line e (op.Swap a) label now = Ok now

abbrev pub assign_if : ℕ → Option ℕ → Tree → Env → Outcome Env
assign_if line None t e = Ok e
assign_if line (Some x) t e = assign line x t e

-- the operation on a word: `old`, `new` and `wrap` with their bounds, the label, and the local
abbrev pub stepped : ℕ → AtomicTree → Env → Outcome Env
stepped line a e =
    bind line old_symbol (Name e.fresh) top e
    >>= bind line new_symbol (new_value e a.op) top
    >>= step_fact line e a.op a.label
    >>= (λ now. assign_if line a.local (Name e.fresh) (use_up 3 now))

abbrev pub around_tree : WordTree → Env → AtomicTree → AroundTree
around_tree w e a = record { word = w; index = operand e a.index.operand; old = Name e.fresh; new = new_value e a.op }

-- the shape of the blocks, the keep, and the index
abbrev pub atomic_row : {X : Type 0} → ℕ → WordTree → AtomicTree → List Due → List Due → Env → Outcome X → Outcome X
atomic_row line w a before keeps e next =
    row e line (before ++ at_hand_due e [] [] a.index.scripts ∷ keeps ++ index_dues e a.index w.len
    ++ index_spare a.index w.len ∷ []) [] next

abbrev pub operate_row : MachineWithProgram → ℕ → WordTree → AtomicTree → List ProofStepTree → Env → Outcome Env
operate_row x line w a block e =
    atomic_row line w a (Wants A6 (is_block_shaped w block) ∷ []) [] e
    (stepped line a e >>= block_row x (around_tree w e a) block)

abbrev pub local_row : Scene → ℕ → LocalTree → Env → Outcome Env
local_row s line (Set x calc label) e = set_row line x calc label e
local_row s line (Proof p) e = proof_row s.text line p e

abbrev pub shared_row : Scene → ℕ → SharedTree → Env → Outcome Env
shared_row s line (Read x c i n ss) e = on_some (cell_of s c) (Ok e) (λ (c : Span). read_row line x c i n ss e)
shared_row s line (Write c i a n ss) e = on_some (cell_of s c) (Ok e) (λ (c : Span). write_row line c i a n ss e)
shared_row s line (Peek x c i d) e =
    on_some (cell_of s c) (Ok e) (λ (c : Span). with_op s.text d.op (Ok e) (λ o. peek_row line s.text x c i o d e))
shared_row s line (Operate a block) e =
    on_some (word_of s a.word) (Ok e) (λ (w : WordTree). operate_row s.text line w a block e)
shared_row s line (Print label o) e = Ok e

-- ---- lists

abbrev pub refuse : ℕ → Rule → Option Refusal
refuse line rule = Some (record { line = line; rule = rule })

-- a list that ends without an ending: the final block alone may
abbrev pub unended : ListKind → ℕ → Option Refusal
unended OfFinal line = None
unended OfThread line = refuse line T9
unended OfLoop line = refuse line T9
unended OfBranch line = refuse line T9

-- after an ending the list stops
abbrev pub after_ending : ListTree → Option Refusal
after_ending (Brace line) = None
after_ending other = refuse (line_of other) T9

-- a loop's own list does not end in `end`
abbrev pub ended_by_end : ListKind → ListTree → Option Refusal
ended_by_end OfLoop (Brace line) = refuse line T9
ended_by_end kind rest = after_ending rest

abbrev pub on : {X : Type 0} → Outcome X → (X → Option Refusal) → Option Refusal
on (Err r) rest = Some r
on (Ok x) rest = rest x

-- after a form: nothing, or what its keep says
abbrev pub past : ℕ → List ℕ → Option KeepTree → Env → (Env → Option Refusal) → ListTree → Option Refusal
past line locals None e rest stms = after_ending stms
past line locals (Some k) e rest stms = on (after_keep line locals k e) rest

-- a label's formula and its negation are made before the branches
abbrev pub both_fit : ℕ → Option ℕ → Formula → Outcome Env → Outcome Env
both_fit line None c next = next
both_fit line (Some h) c next = fits line (formula_size c) (fits line (formula_size (neg c)) next)

abbrev pub jump_row : ℕ → JumpTree → Option Target → Env → Outcome Env
jump_row line j None e = refused line T9
jump_row line j (Some t) e = arrive_row line [] t.keep j.args j.scripts t.wrap e (Ok e)

-- T9 of a form: it has a keep after it exactly where it comes there
abbrev pub has_its_keep : Bool → Option KeepTree → Due
has_its_keep comes keep = Wants T9 (beq comes (is_some keep))

-- what a list breaks, where it stands
abbrev pub Goes : Type 0
Goes = Spot → Env → Option Refusal

-- two branches, then what is after them
abbrev pub fork : Scene → ℕ → Option KeepTree → Spot → Env → Outcome Env → Goes → Outcome Env → Goes
    → (Env → Option Refusal) → ListTree → Option Refusal
fork s line joined p e one in_one two in_two goes_on rest =
    first (on one (in_one (in_branch e joined p)))
    (first (on two (in_two (in_branch e joined p))) (past line s.locals joined e goes_on rest))

abbrev pub if_row : ℕ → TestTree → Due → Option KeepTree → Env → Outcome Env
if_row line t shape joined e =
    row e line (shape ∷ keep_if_due e.terms joined) [] (both_fit line t.label (condition e t.cond) (Ok e))

-- a branch of an operation on a word begins with its block
abbrev pub branch_row : Scene → ℕ → AroundTree → Option ℕ → Formula → List ProofStepTree → Env → Outcome Env
branch_row s line a label form block e = tell line label form e >>= block_row s.text a block

abbrev pub choice_row : ℕ → WordTree → ChoiceTree → List Due → Option KeepTree → Env → Outcome Env
choice_row line w a shape joined e =
    atomic_row line w a.atomic shape (keep_if_due e.terms joined) e
    (stepped line a.atomic e >>= (λ now. both_fit line a.test.label (condition now a.test.cond) (Ok now)))

abbrev pub loop_row : ℕ → List ℕ → List Due → KeepTree → JumpTree → Option KeepTree → Env → Outcome Env
loop_row line locals shape k j left e =
    row e line shape [] (arrive_row line (keep_due e.terms k ∷ keep_if_due e.terms left) k j.args j.scripts
    (stands e wrap_symbol) e (after_keep line locals k e))

-- the first rule that a list breaks
abbrev pub list_fault : Scene → ListTree → Goes
list_fault s (Brace line) p e = unended p.kind line
list_fault s (Do l line rest) p e = on (local_row s line l e) (list_fault s rest p)
list_fault s (On a line rest) p e = on (shared_row s line a e) (list_fault s rest p)
list_fault s (OnWhen a line one two joined rest) p e = on_some (word_of s a.atomic.word) None (λ (w : WordTree).
    on (choice_row line w a (has_its_keep (has_meet one || has_meet two) joined
    ∷ Wants A6 (is_block_shaped w a.first && is_block_shaped w a.second) ∷ []) joined e)
    (λ now. fork s line joined p now
    (branch_row s line (around_tree w e a.atomic) a.test.label (condition now a.test.cond) a.first now)
    (list_fault s one)
    (branch_row s line (around_tree w e a.atomic) a.test.label (neg (condition now a.test.cond)) a.second now)
    (list_fault s two) (list_fault s rest p) rest))
list_fault s (If t line one two joined rest) p e =
    on (if_row line t (has_its_keep (has_meet one || has_meet two) joined) joined e)
    (λ same. fork s line joined p e
    (tell line t.label (condition e t.cond) e) (list_fault s one)
    (tell line t.label (neg (condition e t.cond)) e) (list_fault s two) (list_fault s rest p) rest)
list_fault s (Loop k j line body left rest) p e =
    on (loop_row line s.locals (has_its_keep (has_break body) left ∷ Wants T8 (not (silent body).next) ∷ []) k j left e)
    (λ inside. first (list_fault s body (in_loop e k left p) inside)
    (past line s.locals left e (list_fault s rest p) rest))
list_fault s (Next j line rest) p e = on (jump_row line j p.next e) (λ same. after_ending rest)
list_fault s (Break j line rest) p e = on (jump_row line j p.break e) (λ same. after_ending rest)
list_fault s (Meet j line rest) p e = on (jump_row line j p.meet e) (λ same. after_ending rest)
list_fault s (End j line rest) p e = on (jump_row line j p.end e) (λ same. ended_by_end p.kind rest)
