-- A shared step with its values: what it asks for, what it finds, and what it leaves.
use Rattle.std.specs.Prelude.{◌≡◌, ℕ, ◌+◌, ◌^◌, ◌<◌, if◌then◌else◌, nat_eq, List, [], ◌∷◌, ◌++◌, slice_set, slice_index_or, Option, Some, None, Result, Ok, Err}
use Rattle.sync_base.specs.Outcome.{◌>>=◌}
use Rattle.sync_thread.specs.declared.operands.Line.{Line}
use Rattle.sync_thread.specs.declared.operands.Opd.{Opd}
use Rattle.sync_thread.specs.declared.operands.WordOp.{WordOp}
use Rattle.sync_thread.specs.declared.operands.WordOp.TheVariants as op
use Rattle.sync_thread.specs.declared.program.CodeStmt.{CodeStmt, out-CodeStmt}
use Rattle.sync_thread.specs.declared.program.CodeStmt.TheOpen.{CodeStmt-F}
use Rattle.sync_thread.specs.Arrays as arrays
use Rattle.sync_thread.specs.Control.{Halt, Broken}
use Rattle.sync_thread.specs.Code.{CodeShared, Read, Write, Peek, Operate, Print, Memory, assigned, number_in, sum_of, difference_of}
use Rattle.sync_thread_places.specs.Values.{operand_in}
use Rattle.sync_thread_events.specs.declared.steps.WordStep.{WordStep}
use Rattle.sync_thread_events.specs.declared.steps.WordStep.TheVariants.{Load, Store, Swap, Add, Sub, Cas}
use Rattle.sync_thread_events.specs.declared.steps.SharedStep.{SharedStep}
use Rattle.sync_thread_events.specs.declared.steps.SharedStep.TheVariants as step
use Rattle.sync_thread_events.specs.declared.steps.Span.{Span}
use Rattle.sync_thread_events.specs.declared.steps.Spans.{Spans}

-- ---- where arrays are

abbrev pub spanned : Option Span → Option arrays.Span
spanned (Some s) = Some (record { base = s.base; len = s.len })
spanned None = None

-- the array of this name
abbrev pub span_in : List (Option Span) → ℕ → Option Span
span_in spans x = slice_index_or spans x None

-- the numbers of an array are 64 bits wide
abbrev pub AreNarrow : List (Option Span) → Type 0
AreNarrow spans = (x : ℕ) (s : Span) → span_in spans x ≡ Some s → s.base + s.len < 2 ^ 64

-- ---- what is asked for

abbrev pub asked_word : (Opd → ℕ) → WordOp → WordStep
asked_word f op.Load = Load
asked_word f (op.Store a) = Store (f a)
asked_word f (op.Swap a) = Swap (f a)
asked_word f (op.Add a) = Add (f a)
asked_word f (op.Sub a) = Sub (f a)
asked_word f (op.Cas a b) = Cas (f a) (f b)

-- a step of code, where arrays are there and locals are these
abbrev pub asked_with : (ℕ → Option arrays.Span) → (ℕ → Option arrays.Span) → (ℕ → ℕ) → CodeShared → Result SharedStep Halt
asked_with words cells f (Read x c i) = number_in (cells c) (operand_in f i) >>= (λ k. Ok (step.Read k))
asked_with words cells f (Peek x c i) = number_in (cells c) (operand_in f i) >>= (λ k. Ok (step.Read k))
asked_with words cells f (Write c i o) =
    number_in (cells c) (operand_in f i) >>= (λ k. Ok (step.Write k (operand_in f o)))
asked_with words cells f (Operate x o w i) =
    number_in (words w) (operand_in f i) >>= (λ k. Ok (step.Word k (asked_word (operand_in f) o)))
asked_with words cells f (Print l o) = Ok (step.Print l (operand_in f o))

-- the shared step of a statement
abbrev pub shared_of : CodeStmt-F CodeStmt → Option CodeShared
shared_of (CodeStmt-F.Read x c i) = Some (Read x c i)
shared_of (CodeStmt-F.Write c i o) = Some (Write c i o)
shared_of (CodeStmt-F.Peek x c i) = Some (Peek x c i)
shared_of (CodeStmt-F.Word x o w i) = Some (Operate x o w i)
shared_of (CodeStmt-F.Print l o) = Some (Print l o)
shared_of (CodeStmt-F.Set x c) = None
shared_of (CodeStmt-F.If c p q) = None
shared_of (CodeStmt-F.Loop body) = None
shared_of CodeStmt-F.Next = None
shared_of CodeStmt-F.Break = None
shared_of CodeStmt-F.End = None

abbrev pub asked_if : (ℕ → Option arrays.Span) → (ℕ → Option arrays.Span) → (ℕ → ℕ) → Option CodeShared → Result SharedStep Halt
asked_if words cells f (Some a) = asked_with words cells f a
asked_if words cells f None = Err Broken

abbrev pub asked_by : Spans → (ℕ → ℕ) → CodeStmt → Result SharedStep Halt
asked_by spans f s = asked_if (λ x. spanned (span_in spans.words.items x)) (λ x. spanned (span_in spans.cells.items x)) f (shared_of (out-CodeStmt s))

-- the local into which a step puts what it finds
abbrev pub local_of : CodeShared → Option ℕ
local_of (Read x c i) = Some x
local_of (Peek x c i) = Some x
local_of (Write c i o) = None
local_of (Operate x o w i) = x
local_of (Print l o) = None

abbrev pub local_in : Option CodeShared → Option ℕ
local_in (Some a) = local_of a
local_in None = None

abbrev pub assigned_if : Option ℕ → ℕ → (ℕ → ℕ) → ℕ → ℕ
assigned_if (Some x) n f = assigned x n f
assigned_if None n f = f

-- a table of locals with it
abbrev pub with_local : Option ℕ → ℕ → List ℕ → List ℕ
with_local (Some x) n ns = slice_set ns x n
with_local None n ns = ns

-- ---- what is done

-- what a step makes of a word that is n
abbrev pub worked : ℕ → WordStep → ℕ
worked n Load = n
worked n (Store new) = new
worked n (Swap new) = new
worked n (Add k) = sum_of n k
worked n (Sub k) = difference_of n k
worked n (Cas wanted new) = if nat_eq n wanted then new else n

-- what it finds in its word or cell
abbrev pub found_by : SharedStep → List ℕ → List ℕ → ℕ
found_by (step.Word k w) words cells = slice_index_or words k 0
found_by (step.Read k) words cells = slice_index_or cells k 0
found_by (step.Write k n) words cells = 0
found_by (step.Print l n) words cells = 0

abbrev pub words_after : SharedStep → List ℕ → List ℕ
words_after (step.Word k w) words = slice_set words k (worked (slice_index_or words k 0) w)
words_after (step.Read k) words = words
words_after (step.Write k n) words = words
words_after (step.Print l n) words = words

abbrev pub cells_after : SharedStep → List ℕ → List ℕ
cells_after (step.Word k w) cells = cells
cells_after (step.Read k) cells = cells
cells_after (step.Write k n) cells = slice_set cells k n
cells_after (step.Print l n) cells = cells

abbrev pub lines_after : SharedStep → List Line → List Line
lines_after (step.Word k w) lines = lines
lines_after (step.Read k) lines = lines
lines_after (step.Write k n) lines = lines
lines_after (step.Print l n) lines = lines ++ record { label = l; value = n } ∷ []

-- a memory on which a step is done
abbrev pub done_on : SharedStep → Memory → Memory
done_on s m = record m { words = words_after s m.words; cells = cells_after s m.cells; lines = lines_after s m.lines }
