-- A typed text is sound, where its rows of exchanges and of words are, what it peeks at is stored, and its start leaves
-- what its threads begin with.
use Rattle.std.specs.Prelude.{◌≡◌, ℕ, ◌≤◌, pos, length, filter, Some, Ok}
use Rattle.std.specs.Ordering.{int_eq}
use Rattle.sync_join.specs.declared.tokens.Token.{Token}
use Rattle.sync_machine.specs.States.{HoldsAlways}
use Rattle.sync_thread.specs.Code.{cell_number}
use Rattle.sync_thread.specs.Control.{Halt}
use Rattle.sync_thread.specs.Programs.{DoTree, IndexTree, Peek, StartTree}
use Rattle.sync_thread.specs.Resting.{AtRest, PassesUnless}
use Rattle.sync_thread_machine.specs.MachineWithProgram.{MachineWithProgram, decls_of}
use Rattle.sync_thread_meaning.specs.Meaning.{World, annotated_meaning, shared_step}
use Rattle.sync_thread_meaning.specs.Moments.{Configuration, first_shares, memory_of, start_shares}
use Rattle.sync_thread_meaning.specs.Shares.{Shares, no_bound}
use Rattle.sync_thread_meaning.specs.Sound.{IsGood, IsSound}
use Rattle.sync_typing.specs.Environments.{Env}
use Rattle.sync_typing_laws.specs.Ruling.{rules_of}
use Rattle.sync_typing_laws.specs.Standing.{IsWholeState}
use Rattle.sync_typing_rows.specs.RestLaws.{ExchangesGoOn, IsTypedText, StartLeaves, meanings_of}

abbrev pub no_failure : Halt → Type 0
no_failure h = ⊥

-- a peek that does not fail shows a stored permission of its cell
abbrev pub PeeksShow : MachineWithProgram → Type 0
PeeksShow x =
    (t : ℕ) (s z : World) → IsWholeState x s → (y c : ℕ) (i : IndexTree) (d : DoTree)
    → shared_step no_bound x t (Peek y c i d) s ≡ Ok z
    → (k : ℕ) → cell_number (decls_of x) t s.memory c i.operand ≡ Ok k
    → 1 ≤ length (filter (λ (u : Token). int_eq u.key (pos k)) s.shares.kept.stored)

-- what is left to show of a typed text
pub record HasSoundExchanges (x : MachineWithProgram) (known : Env) : Type 0 where
  pub rows : (t : ℕ) → t ≤ length x.program.threads → ExchangesGoOn (meanings_of x known no_failure) no_bound x known t
  pub peeks : PeeksShow x
  pub starts : (start : StartTree) → x.program.start ≡ Some start
      → PassesUnless no_failure (start_shares no_bound x start (memory_of x) (first_shares x (memory_of x)))
      (λ (h : Shares). StartLeaves x known (record { memory = memory_of x; shares = h }))

-- a program at rest is good
abbrev pub RestsAreGood : Type 0
RestsAreGood =
    (x : MachineWithProgram) (known : Env) → IsTypedText x known → HasSoundExchanges x known → (c : Configuration)
    → AtRest (rules_of x (meanings_of x known no_failure)) (annotated_meaning no_bound x) c → IsGood x c

abbrev pub TypedTextsAreSound : Type 0
TypedTextsAreSound =
    (x : MachineWithProgram) → HoldsAlways x.machine → (known : Env) → IsTypedText x known → HasSoundExchanges x known
    → IsSound x
