-- What a shared step with its values does is what the step of the code does.
use Rattle.std.proofs.Common.{◌≡◌, ℕ, ◌<◌, [], ◌∷◌, ◌++◌, length, slice_set, slice_index_or, Option, Some, None, Result, Ok, Err, refl, ap, ◌∙◌}
use Rattle.sync_base.specs.Outcome.{◌>>=◌}
use Rattle.sync_thread.specs.declared.operands.Opd.{Opd}
use Rattle.sync_thread.specs.declared.operands.WordOp.{WordOp}
use Rattle.sync_thread.specs.declared.operands.WordOp.TheVariants as op
use Rattle.sync_thread.specs.Arrays.{words_named, cells_named}
use Rattle.sync_thread.specs.Control.{Halt}
use Rattle.sync_thread.specs.Code.{Read, Write, Peek, Operate, Print, Memory, cell_at, word_at, number_in, operand_value, effect_of, set_if, setting}
use Rattle.sync_thread_places.specs.Values.{operand_in}
use Rattle.sync_thread_places.specs.Runs.{holding}
use Rattle.sync_thread_places.proofs.Held.{operand_held, operands_held, sets}
use Rattle.sync_thread_events.specs.declared.steps.SharedStep.{SharedStep}
use Rattle.sync_thread_events.specs.declared.steps.SharedStep.TheVariants as step
use Rattle.sync_thread_events.specs.Steps.{asked_word, assigned_if, worked}
use Rattle.sync_thread_events.specs.Laws.{StepsAreCodeSteps, memory_after}

works : (f : Opd → ℕ) (o : WordOp) (n : ℕ) → effect_of f o n ≡ worked n (asked_word f o)
works f op.Load n = refl
works f (op.Store a) n = refl
works f (op.Swap a) n = refl
works f (op.Add a) n = refl
works f (op.Sub a) n = refl
works f (op.Cas a b) n = refl

keeps : (t n : ℕ) (f : ℕ → ℕ) (x : Option ℕ) (m : Memory) → t < length m.locals
    → set_if t x n (holding t f m) ≡ holding t (assigned_if x n f) m
keeps t n f (Some x) m within = sets t x n f m within
keeps t n f None m within = refl

read_does : (t x c : ℕ) (i : Opd) (f : ℕ → ℕ) (m : Memory) → t < length m.locals → (r : Result ℕ Halt)
    → (r >>= (λ k. Ok (setting t x (cell_at m k) (holding t f m))))
    ≡ ((r >>= (λ k. Ok (step.Read k))) >>= (λ (s : SharedStep). Ok (memory_after t f (Read x c i) m s)))
read_does t x c i f m within (Ok k) = ap Ok (sets t x (slice_index_or m.cells k 0) f m within)
read_does t x c i f m within (Err h) = refl

word_does : (t : ℕ) (f : ℕ → ℕ) (x : Option ℕ) (o : WordOp) (w : ℕ) (i : Opd) (m : Memory) → t < length m.locals → (r : Result ℕ Halt)
    → (r >>= (λ k. Ok (set_if t x (word_at m k) (record (holding t f m) { words = slice_set m.words k (effect_of (operand_in f) o (word_at m k)) }))))
    ≡ ((r >>= (λ k. Ok (step.Word k (asked_word (operand_in f) o)))) >>= (λ (s : SharedStep). Ok (memory_after t f (Operate x o w i) m s)))
word_does t f x o w i m within (Ok k) =
    ap (λ n. Ok (set_if t x (word_at m k) (record (holding t f m) { words = slice_set m.words k n }))) (works (operand_in f) o (word_at m k))
    ∙ ap Ok (keeps t (word_at m k) f x (record m { words = slice_set m.words k (worked (word_at m k) (asked_word (operand_in f) o)) }) within)
word_does t f x o w i m within (Err h) = refl

write_does : (t c n : ℕ) (f : ℕ → ℕ) (i o : Opd) (m : Memory) (r : Result ℕ Halt) → n ≡ operand_in f o
    → (r >>= (λ k. Ok (record (holding t f m) { cells = slice_set m.cells k n })))
    ≡ ((r >>= (λ k. Ok (step.Write k (operand_in f o)))) >>= (λ (s : SharedStep). Ok (memory_after t f (Write c i o) m s)))
write_does t c n f i o m (Ok k) is = ap (λ v. Ok (record (holding t f m) { cells = slice_set m.cells k v })) is
write_does t c n f i o m (Err h) is = refl

pub steps_are_code_steps : StepsAreCodeSteps
steps_are_code_steps ds t f (Read x c i) m within =
    ap (λ j. number_in (cells_named c ds) j >>= (λ k. Ok (setting t x (cell_at m k) (holding t f m)))) (operand_held t f m within i)
    ∙ read_does t x c i f m within (number_in (cells_named c ds) (operand_in f i))
steps_are_code_steps ds t f (Peek x c i) m within =
    ap (λ j. number_in (cells_named c ds) j >>= (λ k. Ok (setting t x (cell_at m k) (holding t f m)))) (operand_held t f m within i)
    ∙ read_does t x c i f m within (number_in (cells_named c ds) (operand_in f i))
steps_are_code_steps ds t f (Write c i o) m within =
    ap (λ j. number_in (cells_named c ds) j >>= (λ k. Ok (record (holding t f m) { cells = slice_set m.cells k (operand_value (holding t f m) t o) })))
    (operand_held t f m within i)
    ∙ write_does t c (operand_value (holding t f m) t o) f i o m (number_in (cells_named c ds) (operand_in f i)) (operand_held t f m within o)
steps_are_code_steps ds t f (Operate x o w i) m within =
    ap (λ (g : Opd → ℕ). number_in (words_named w ds) (g i)
    >>= (λ k. Ok (set_if t x (word_at m k) (record (holding t f m) { words = slice_set m.words k (effect_of g o (word_at m k)) }))))
    (operands_held t f m within)
    ∙ word_does t f x o w i m within (number_in (words_named w ds) (operand_in f i))
steps_are_code_steps ds t f (Print l o) m within =
    ap (λ n. Ok (record (holding t f m) { lines = m.lines ++ record { label = l; value = n } ∷ [] })) (operand_held t f m within o)
