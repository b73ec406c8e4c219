-- In no schedule is the code that counts to two stuck.
use Rattle.std.proofs.Common.{◌≡◌, ℕ, zero, suc, List, [], ◌∷◌, Option, Some, None, Result, Ok, Err, refl, sym, ap, ◌∙◌, arith}
use Rattle.sync_base.specs.Outcome.{◌>>=◌}
use Rattle.sync_thread.specs.Control.{Halt, Broken, Paused, event, events, run, running, unwind}
use Rattle.sync_thread.specs.Code.{code_language, code_meaning, erased_start, ErasedConfig, first_memory, Fits, Memory}
use Rattle.sync_test_calls.specs.Counting.{adding_tree, counting_tree, printing_tree}
use Rattle.sync_thread.specs.Control.{On}
use Rattle.sync_thread.specs.Code.{Operate}
use Rattle.sync_thread.specs.declared.operands.Opd.TheVariants.{Number}
use Rattle.sync_thread.specs.declared.operands.WordOp.TheVariants.{Load}

-- who waits: both threads, one of them, or the final block before its load or its line, or nobody any more
data Spot : Type 0 where
  Both : Spot
  First : Spot
  Second : Spot
  Loads : Spot
  Prints : Spot
  Over : Spot

adds : Option (Paused code_language)
adds = Some (record { rest = adding_tree; frames = [] })

places : Spot → List (Option (Paused code_language))
places Both = adds ∷ adds ∷ None ∷ []
places First = adds ∷ None ∷ None ∷ []
places Second = None ∷ adds ∷ None ∷ []
places Loads = None ∷ None ∷ Some (record { rest = On (Operate (Some 4) Load 0 (Number 0)) 0 printing_tree; frames = [] }) ∷ []
places Prints = None ∷ None ∷ Some (record { rest = printing_tree; frames = [] }) ∷ []
places Over = None ∷ None ∷ None ∷ []

next : Spot → ℕ → Spot
next Both zero = Second
next Both (suc zero) = First
next Both (suc (suc t)) = Both
next First zero = Loads
next First (suc t) = First
next Second (suc zero) = Loads
next Second zero = Second
next Second (suc (suc t)) = Second
next Loads (suc (suc zero)) = Prints
next Loads zero = Loads
next Loads (suc zero) = Loads
next Loads (suc (suc (suc t))) = Loads
next Prints (suc (suc zero)) = Over
next Prints zero = Prints
next Prints (suc zero) = Prints
next Prints (suc (suc (suc t))) = Prints
next Over t = Over

at : Spot → Memory → ErasedConfig
at s m = running {g = code_language} m (places s)

memory_or : Memory → Result ErasedConfig Halt → Memory
memory_or m (Ok c) = c.state
memory_or m (Err h) = m

left_by : Spot → ℕ → Memory → Memory
left_by s t m = memory_or m (event (code_meaning counting_tree) t (at s m))

goes : (s : Spot) (t : ℕ) (m : Memory) → event (code_meaning counting_tree) t (at s m) ≡ Ok (at (next s t) (left_by s t m))
unfolding adds places next at memory_or left_by run unwind
goes Both zero m = refl
goes Both (suc zero) m = refl
goes Both (suc (suc zero)) m = refl
goes Both (suc (suc (suc t))) m = refl
goes First zero m = refl
goes First (suc zero) m = refl
goes First (suc (suc zero)) m = refl
goes First (suc (suc (suc t))) m = refl
goes Second zero m = refl
goes Second (suc zero) m = refl
goes Second (suc (suc zero)) m = refl
goes Second (suc (suc (suc t))) m = refl
goes Loads zero m = refl
goes Loads (suc zero) m = refl
goes Loads (suc (suc zero)) m = refl
goes Loads (suc (suc (suc t))) m = refl
goes Prints zero m = refl
goes Prints (suc zero) m = refl
goes Prints (suc (suc zero)) m = refl
goes Prints (suc (suc (suc t))) m = refl
goes Over zero m = refl
goes Over (suc zero) m = refl
goes Over (suc (suc zero)) m = refl
goes Over (suc (suc (suc t))) m = refl

never_stuck : (sigma : List ℕ) (s : Spot) (m : Memory) → events (code_meaning counting_tree) sigma (at s m) ≡ Err Broken → ⊥
never_stuck [] s m stuck = absurd cc
never_stuck (t ∷ ts) s m stuck =
    never_stuck ts (next s t) (left_by s t m)
    (sym (ap (λ (r : Result ErasedConfig Halt). r >>= events (code_meaning counting_tree) ts) (goes s t m)) ∙ stuck)

starts : erased_start counting_tree ≡ Ok (at Both (first_memory counting_tree.decls 2))
unfolding adds places at run unwind
starts = refl

pub counting_fits : Fits counting_tree
counting_fits = record {
  goes = λ sigma stuck. never_stuck sigma Both (first_memory counting_tree.decls 2)
      (sym (ap (λ (r : Result ErasedConfig Halt). r >>= events (code_meaning counting_tree) sigma) starts) ∙ stuck);
  few = omega arith;
}
