-- The erased program: what it is, and what it does on words, cells and locals.
use Rattle.std.specs.Prelude.{◌≡◌, ℕ, zero, suc, ◌+◌, ◌-◌, ◌*◌, ◌/◌, ◌%◌, ◌^◌, ◌<◌, Bool, not, if◌then◌else◌, nat_eq}
use Rattle.std.specs.Prelude.{nat_lt, nat_le, List, [], ◌∷◌, ◌++◌, length, map, replicate, slice_set, slice_index_or}
use Rattle.std.specs.Prelude.{option_map, Option, Some, None, Result, Ok, Err}
use Rattle.sync_base.specs.Outcome.{◌>>=◌}
use Rattle.sync_thread.specs.declared.operands.Opd.{Opd}
use Rattle.sync_thread.specs.declared.operands.Opd.TheVariants.{Number, Local}
use Rattle.sync_thread.specs.declared.operands.Rel.{Rel}
use Rattle.sync_thread.specs.declared.operands.Rel.TheVariants as rel
use Rattle.sync_thread.specs.declared.operands.Cond.{Cond}
use Rattle.sync_thread.specs.declared.operands.Calc.{Calc}
use Rattle.sync_thread.specs.declared.operands.Calc.TheVariants.{Plain, Plus, Minus, Times, Over as Divided, Modulo}
use Rattle.sync_thread.specs.declared.operands.WordOp.{WordOp}
use Rattle.sync_thread.specs.declared.operands.WordOp.TheVariants.{Load, Store, Swap, Add, Sub, Cas}
use Rattle.sync_thread.specs.declared.operands.CodeDecl.{CodeDecl}
use Rattle.sync_thread.specs.declared.operands.Line.{Line}
use Rattle.sync_words.specs.declared.entries.Operation.{Operation}
use Rattle.sync_words.specs.declared.entries.Operation.TheVariants as operation
use Rattle.sync_words.specs.Entries.{changed}
use Rattle.sync_thread.specs.Programs.{SharedTree, AtomicTree, ListTree, ThreadTree, ProgramTree}
use Rattle.sync_thread.specs.Programs as tree
use Rattle.sync_thread.specs.Arrays.{code_decl, first_words, first_cells, Span, words_named, cells_named}
use Rattle.sync_thread.specs.Control.{Halt, Broken, Forms, Language, Stms, Brace, Do, On, OnWhen, If, Loop, Next, Break}
use Rattle.sync_thread.specs.Control.{Meet, End, StatementMeaning, ProgramMeaning, Running, events, start_from}

-- ---- trees

pub record CodeSet : Type 0 where
  pub local : ℕ
  pub calc : Calc

pub data CodeShared : Type 0 where
  Read : (local cell : ℕ) (index : Opd) → CodeShared
  Write : (cell : ℕ) (index operand : Opd) → CodeShared
  Peek : (local cell : ℕ) (index : Opd) → CodeShared
  Operate : (local : Option ℕ) (op : WordOp) (word : ℕ) (index : Opd) → CodeShared
  Print : (label : ℕ) (operand : Opd) → CodeShared

-- no step has branches of its own, and keeps and jumps say nothing
abbrev pub code_forms : Forms
code_forms =
    record { Local = CodeSet; Shared = CodeShared; Choice = ⊥; Test = Cond; Keep = Unit {0}; Jump = Unit {0} }

abbrev pub CodeList : Type 0
CodeList = Stms code_forms

pub record CodeThread : Type 0 where
  pub name : ℕ
  pub body : CodeList

pub record CodeTree : Type 0 where
  pub decls : List CodeDecl
  pub threads : List CodeThread
  pub last : Option CodeList

-- ---- erasure

abbrev pub code_word : AtomicTree → CodeShared
code_word a = Operate a.local a.op a.word a.index.operand

abbrev pub code_shared : SharedTree → CodeShared
code_shared (tree.Read x c i p ss) = Read x c i.operand
code_shared (tree.Write c i o p ss) = Write c i.operand o
code_shared (tree.Peek x c i d) = Peek x c i.operand
code_shared (tree.Operate a b) = code_word a
code_shared (tree.Print l o) = Print l o

-- The statements without labels, keeps, proofs and `meet`. A condition after a step is one of its own.
unfoldable pub code_list : ListTree → CodeList
code_list (Brace n) = Brace 0
code_list (Do (tree.Set x calc label) n rest) = Do (record { local = x; calc = calc }) 0 (code_list rest)
code_list (Do (tree.Proof p) n rest) = code_list rest
code_list (On a n rest) = On (code_shared a) 0 (code_list rest)
code_list (OnWhen a n p q joined rest) =
    On (code_word a.atomic) 0 (If a.test.cond 0 (code_list p) (code_list q) None (code_list rest))
code_list (If c n p q joined rest) = If c.cond 0 (code_list p) (code_list q) None (code_list rest)
code_list (Loop k j n body left rest) = Loop tt tt 0 (code_list body) (Some tt) (code_list rest)
code_list (Next j n rest) = Next tt 0 (code_list rest)
code_list (Break j n rest) = Break tt 0 (code_list rest)
code_list (Meet j n rest) = code_list rest
code_list (End j n rest) = End tt 0 (code_list rest)

abbrev pub code_thread : ThreadTree → CodeThread
code_thread t = record { name = t.name; body = code_list t.body }

abbrev pub code_of : ProgramTree → CodeTree
code_of x =
    record { decls = map code_decl x.decls; threads = map code_thread x.threads; last = option_map code_list x.last }

-- ---- words, cells and locals

-- Words and cells, each in the order of declaration; the lines printed so far; and the locals of each thread and then
-- of the final block. A local that was never set is 0.
pub record Memory : Type 0 where
  pub words : List ℕ
  pub cells : List ℕ
  pub lines : List Line
  pub locals : List (ℕ → ℕ)

abbrev pub number_in : Option Span → ℕ → Result ℕ Halt
number_in (Some s) i = if nat_lt i s.len then Ok (s.base + i) else Err Broken
number_in None i = Err Broken

abbrev pub locals_of : Memory → ℕ → ℕ → ℕ
locals_of m t = slice_index_or m.locals t (λ x. 0)

abbrev pub operand_value : Memory → ℕ → Opd → ℕ
operand_value m t (Number n) = n
operand_value m t (Local x) = locals_of m t x

abbrev pub assigned : ℕ → ℕ → (ℕ → ℕ) → ℕ → ℕ
assigned x n f y = if nat_eq y x then n else f y

abbrev pub setting : ℕ → ℕ → ℕ → Memory → Memory
setting t x n m = record m { locals = slice_set m.locals t (assigned x n (locals_of m t)) }

-- the number of a word or cell of an array; the index is in range
abbrev pub word_number : List CodeDecl → ℕ → Memory → ℕ → Opd → Result ℕ Halt
word_number ds t m x i = number_in (words_named x ds) (operand_value m t i)

abbrev pub cell_number : List CodeDecl → ℕ → Memory → ℕ → Opd → Result ℕ Halt
cell_number ds t m x i = number_in (cells_named x ds) (operand_value m t i)

abbrev pub word_at : Memory → ℕ → ℕ
word_at m i = slice_index_or m.words i 0

abbrev pub cell_at : Memory → ℕ → ℕ
cell_at m i = slice_index_or m.cells i 0

-- ---- what is computed

abbrev pub compares : Rel → ℕ → ℕ → Bool
compares rel.Eq a b = nat_eq a b
compares rel.Ne a b = not (nat_eq a b)
compares rel.Lt a b = nat_lt a b
compares rel.Le a b = nat_le a b

abbrev pub satisfies : Memory → ℕ → Cond → Bool
satisfies m t c = compares c.rel (operand_value m t c.left) (operand_value m t c.right)

abbrev pub sum_of : ℕ → ℕ → ℕ
sum_of a b = (a + b) % 2 ^ 64

abbrev pub difference_of : ℕ → ℕ → ℕ
difference_of a b = (a + (2 ^ 64 - b)) % 2 ^ 64

abbrev pub unless_zero : ℕ → ℕ → Result ℕ Halt
unless_zero zero x = Err Broken
unless_zero (suc n) x = Ok x

abbrev pub calculated : (Opd → ℕ) → Calc → Result ℕ Halt
calculated f (Plain a) = Ok (f a)
calculated f (Plus a b) = Ok (sum_of (f a) (f b))
calculated f (Minus a b) = Ok (difference_of (f a) (f b))
calculated f (Times a n) = Ok ((f a * n) % 2 ^ 64)
calculated f (Divided a n) = unless_zero n (f a / n)
calculated f (Modulo a n) = unless_zero n (f a % n)

-- what an operation leaves in a log, on a word that is n
abbrev pub logged : (Opd → ℕ) → WordOp → ℕ → Operation
logged f Load n = operation.Load n
logged f (Store a) n = operation.Store (f a)
logged f (Swap a) n = operation.Swap (f a) n
logged f (Add a) n = operation.Add (f a) n
logged f (Sub a) n = operation.Sub (f a) n
logged f (Cas a b) n = operation.Cas (f a) (f b) n

-- what an operation makes of a word that is n: what the operations of a table of words make of it
abbrev pub effect_of : (Opd → ℕ) → WordOp → ℕ → ℕ
effect_of f op n = changed n (logged f op n)

-- ---- what statements do

abbrev pub code_local : ℕ → CodeSet → Memory → Result Memory Halt
code_local t s m = calculated (operand_value m t) s.calc >>= (λ n. Ok (setting t s.local n m))

abbrev pub set_if : ℕ → Option ℕ → ℕ → Memory → Memory
set_if t (Some x) n m = setting t x n m
set_if t None n m = m

abbrev pub code_step : List CodeDecl → ℕ → CodeShared → Memory → Result Memory Halt
code_step ds t (Read x c i) m = cell_number ds t m c i >>= (λ k. Ok (setting t x (cell_at m k) m))
code_step ds t (Peek x c i) m = cell_number ds t m c i >>= (λ k. Ok (setting t x (cell_at m k) m))
code_step ds t (Write c i o) m =
    cell_number ds t m c i >>= (λ k. Ok (record m { cells = slice_set m.cells k (operand_value m t o) }))
code_step ds t (Operate x op w i) m = word_number ds t m w i
    >>= (λ k. let new = effect_of (operand_value m t) op (word_at m k) in
    Ok (set_if t x (word_at m k) (record m { words = slice_set m.words k new })))
code_step ds t (Print l o) m =
    Ok (record m { lines = m.lines ++ record { label = l; value = operand_value m t o } ∷ [] })

abbrev pub code_language : Language
code_language = record { forms = code_forms; Saved = Unit {0}; State = Memory }

abbrev pub code_statements : List CodeDecl → ℕ → StatementMeaning code_language
code_statements ds t = record {
  local = code_local t;
  shared = code_step ds t;
  choice = λ a m. absurd a;
  test = λ c m. satisfies m t c;
  save = λ m. tt;
  keep = λ k j v m. Ok m;
  falls = λ v m. Ok m;
}

abbrev pub code_meaning : CodeTree → ProgramMeaning code_language
code_meaning x = record {
  statements = code_statements x.decls;
  ends = λ t j m. Ok m;
  finishes = λ t m. Ok m;
  gathers = λ m. m;
  bodies = map (λ (t : CodeThread). t.body) x.threads;
  last = x.last;
}

-- nothing was done yet
abbrev pub first_memory : List CodeDecl → ℕ → Memory
first_memory ds n =
    record { words = first_words ds; cells = first_cells ds; lines = []; locals = replicate (suc n) (λ x. 0) }

-- a place in the erased program
abbrev pub ErasedConfig : Type 0
ErasedConfig = Running code_language

abbrev pub erased_start : CodeTree → Result ErasedConfig Halt
erased_start x = start_from (code_meaning x) (first_memory x.decls (length x.threads))

-- what the events of a list of numbers leave
abbrev pub erased_after : CodeTree → List ℕ → Result ErasedConfig Halt
erased_after x sigma = erased_start x >>= events (code_meaning x) sigma

-- A schedule is stuck where an index leaves its range, a divisor is 0, a word or a cell is not there, a `next` or a
-- `break` stands in no loop, a loop's body just ends, or a turn is silent. After a branch that just ends code goes on.
abbrev pub IsStuck : CodeTree → List ℕ → Type 0
IsStuck x sigma = erased_after x sigma ≡ Err Broken

-- no schedule is stuck, and the numbers of the threads and one more are 32 bits wide
pub record Fits (x : CodeTree) : Type 0 where
  pub goes : (sigma : List ℕ) → IsStuck x sigma → ⊥
  pub few : length x.threads < 2 ^ 32 - 1
