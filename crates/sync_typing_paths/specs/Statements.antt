-- An operation on a word as what it puts before the rest of its list, the jumps that a list comes to silently, and how
-- far a block has come.
use Rattle.std.specs.Prelude.{ℕ, not, ◌&&◌, ◌∷◌, reverse, if◌then◌else◌}
use Rattle.sync_terms.specs.Stored.{Stored}
use Rattle.sync_thread.specs.declared.program.Atomic.{Atomic, fold-Atomic}
use Rattle.sync_thread.specs.Programs.{ListTree}
use Rattle.sync_thread.specs.Resting.{Silent}
use Rattle.sync_thread.specs.Views.{Then, TailThen, kind_then, tail_then, atomic_then, list_then, stmt_then, when_then}
use Rattle.sync_machine.specs.Naming.{is_in}
use Rattle.sync_thread.specs.Programs.{WordTree}
use Rattle.sync_typing.specs.Blocks.{Fresh, Opened, Done, Wrong, is_guarded}
use Rattle.sync_typing.specs.Blocks as blocks
use Rattle.sync_typing_paths.specs.declared.blocks.Stage.{Stage}
use Rattle.sync_typing_paths.specs.declared.blocks.Stage.TheVariants as stage
use Rattle.sync_typing_paths.specs.declared.silences.Silence.{Silence}

abbrev pub atomic_tree : Stored → Atomic → ℕ → Then
atomic_tree s a =
    fold-Atomic (ℕ → Then) TailThen (ℕ → Then) ListTree Then TailThen
    (kind_then s) (tail_then s) (atomic_then s) list_then stmt_then (when_then s) a

abbrev pub silent_of : Silence → Silent
silent_of x = record { next = x.next; break = x.breaks; meet = x.meet }

-- the clauses that were decided, the newest first
abbrev pub stage_of : Stage → blocks.Stage
stage_of stage.Fresh = Fresh
stage_of (stage.Opened cases) = Opened (reverse cases.keys)
stage_of stage.Done = Done
stage_of stage.Wrong = Wrong

-- behind the case of a clause
abbrev pub stage_decided : WordTree → blocks.Stage → ℕ → blocks.Stage
stage_decided w (Opened ns) n = if is_guarded w n && not (is_in n ns) then Opened (n ∷ ns) else Wrong
stage_decided w Fresh n = Wrong
stage_decided w Done n = Wrong
stage_decided w Wrong n = Wrong
