-- What a thread of code does depends on its locals and on what its steps find, and on nothing else.
use Rattle.std.specs.Prelude.{◌≡◌, ℕ, ◌<◌, List, length, Result, Ok, Err}
use Rattle.sync_thread.specs.declared.operands.CodeDecl.{CodeDecl}
use Rattle.sync_thread.specs.Control.{Halt, Language, Frame, Signal, At, Nexts, Breaks, Meets, Ends, Over, Fails, On}
use Rattle.sync_thread.specs.Control.{run}
use Rattle.sync_thread.specs.Control.{unwind, step}
use Rattle.sync_thread.specs.Code.{CodeShared, CodeList, Read, Write, Peek, Operate, Print, code_language, Memory}
use Rattle.sync_thread.specs.Code.{code_statements, locals_of, word_number, word_at, cell_number, cell_at}

-- both answers are there and alike, or both are the same failure
abbrev pub AreAlike : {S : Type 0} → (S → S → Type 0) → Result S Halt → Result S Halt → Type 0
AreAlike R (Ok s) (Ok z) = R s z
AreAlike R (Err h) (Err k) = h ≡ k
AreAlike R (Ok s) (Err h) = ⊥
AreAlike R (Err h) (Ok s) = ⊥

-- the second list ended up as the first one, in a state that is like its own
abbrev pub IsLike : {g : Language} → (g.State → g.State → Type 0) → Signal g → Signal g → Type 0
IsLike {g = g} R (At rest frames s) o = (z : g.State) × (o ≡ At rest frames z) × R s z
IsLike {g = g} R (Nexts j s) o = (z : g.State) × (o ≡ Nexts j z) × R s z
IsLike {g = g} R (Breaks j s) o = (z : g.State) × (o ≡ Breaks j z) × R s z
IsLike {g = g} R (Meets j s) o = (z : g.State) × (o ≡ Meets j z) × R s z
IsLike {g = g} R (Ends j s) o = (z : g.State) × (o ≡ Ends j z) × R s z
IsLike {g = g} R (Over s) o = (z : g.State) × (o ≡ Over z) × R s z
IsLike {g = g} R (Fails h) o = o ≡ Fails h

-- a thread's locals are there in two memories, and are the same
pub record SameLocals (t : ℕ) (m z : Memory) : Type 0 where
  pub room : t < length m.locals
  pub space : t < length z.locals
  pub same : locals_of m t ≡ locals_of z t

abbrev pub at_number : (ℕ → ℕ) → Result ℕ Halt → ℕ
at_number f (Ok k) = f k
at_number f (Err h) = 0

-- what a step finds in its word or cell; 0 where it looks at none
abbrev pub finds : List CodeDecl → ℕ → CodeShared → Memory → ℕ
finds ds t (Read x c i) m = at_number (cell_at m) (cell_number ds t m c i)
finds ds t (Peek x c i) m = at_number (cell_at m) (cell_number ds t m c i)
finds ds t (Write c i o) m = 0
finds ds t (Operate x op w i) m = at_number (word_at m) (word_number ds t m w i)
finds ds t (Print l o) m = 0

-- the leading statements of a list; and a step that finds the same, with the statements up to the next step
pub record GoesAlone (ds : List CodeDecl) (t : ℕ) (m z : Memory) : Type 0 where
  pub list : (ss : CodeList) → IsLike (SameLocals t) (run (code_statements ds t) ss m) (run (code_statements ds t) ss z)
  pub step : (a : CodeShared) (line : ℕ) (rest : CodeList) (frames : List (Frame code_language))
      → finds ds t a m ≡ finds ds t a z
      → IsLike (SameLocals t) (unwind (code_statements ds t) frames (step (code_statements ds t) (On a line rest) m))
      (unwind (code_statements ds t) frames (step (code_statements ds t) (On a line rest) z))

abbrev pub StepsAreAlone : Type 0
StepsAreAlone = (ds : List CodeDecl) (t : ℕ) (m z : Memory) → SameLocals t m z → GoesAlone ds t m z
