-- A program is typed where its parts are.
use mathlib.Core.Path.{refl, sym, ap, ◌∙◌}
use Rattle.std.specs.Prelude.{◌≡◌, List, [], ◌∷◌, Option, Some, None, Ok, Err}
use Rattle.std.specs.List.{AllByRecursion}
use Rattle.sync_base.specs.declared.stops.Refusal.{Refusal}
use Rattle.sync_base.specs.Outcome.{first}
use Rattle.sync_thread.specs.Programs.{ThreadTree, StartTree}
use Rattle.sync_thread_machine.specs.MachineWithProgram.{MachineWithProgram}
use Rattle.sync_typing.specs.Environments.{Env, Outcome, on_some}
use Rattle.sync_typing.specs.Lists.{on}
use Rattle.sync_typing.specs.Typing.{start_row, thread_fault, threads_fault, final_fault, type_fault}
use Rattle.sync_typing.specs.Laws.{EachPartIsTyped, TypedByParts}

-- of two that may refuse neither does
both_none : (a b : Option Refusal) → first a b ≡ None → (a ≡ None) × (b ≡ None)
both_none None b e = (refl, e)
both_none (Some r) b e = let no : Some r ≡ None = e in cc

none_both : (a b : Option Refusal) → a ≡ None → b ≡ None → first a b ≡ None
none_both None b a_is b_is = b_is
none_both (Some r) b a_is b_is = let no : Some r ≡ None = a_is in cc

each_typed : (x : MachineWithProgram) (e : Env) (ts : List ThreadTree) → threads_fault x e ts ≡ None
    → AllByRecursion (λ (t : ThreadTree). thread_fault x e t ≡ None) ts
each_typed x e [] is = tt
each_typed x e (t ∷ ts) is =
    let b = both_none (thread_fault x e t) (threads_fault x e ts) is in (b.0, each_typed x e ts b.1)

all_typed : (x : MachineWithProgram) (e : Env) (ts : List ThreadTree)
    → AllByRecursion (λ (t : ThreadTree). thread_fault x e t ≡ None) ts → threads_fault x e ts ≡ None
all_typed x e [] all = refl
all_typed x e (t ∷ ts) all = none_both (thread_fault x e t) (threads_fault x e ts) all.0 (all_typed x e ts all.1)

-- behind the start, with what it gives
abbrev behind : MachineWithProgram → Env → Option Refusal
behind x e = first (threads_fault x e x.program.threads) (final_fault x e x.program.last)

parts_of_start : (x : MachineWithProgram) (s : StartTree) (r : Outcome Env) → start_row x s ≡ r
    → on r (behind x) ≡ None → EachPartIsTyped x s
parts_of_start x s (Err refusal) begins is = let no : Some refusal ≡ None = is in cc
parts_of_start x s (Ok e) begins is =
    let b = both_none (threads_fault x e x.program.threads) (final_fault x e x.program.last) is in
    record { known = e; begins = begins; threads = each_typed x e x.program.threads b.0; last = b.1 }

start_of_parts : (x : MachineWithProgram) (s : StartTree) → EachPartIsTyped x s → on (start_row x s) (behind x) ≡ None
start_of_parts x s w = ap (λ (r : Outcome Env). on r (behind x)) w.begins
    ∙ none_both (threads_fault x w.known x.program.threads) (final_fault x w.known x.program.last)
    (all_typed x w.known x.program.threads w.threads) w.last

pub typed_by_parts : TypedByParts
typed_by_parts m p s here = (to, from) where
  x : MachineWithProgram
  x = record { machine = m; program = p }

  is : type_fault m p ≡ on (start_row x s) (behind x)
  is = ap (λ (o : Option StartTree). on_some o None (λ (u : StartTree). on (start_row x u) (behind x))) here

  to : type_fault m p ≡ None → EachPartIsTyped x s
  to e = parts_of_start x s (start_row x s) refl (sym is ∙ e)

  from : EachPartIsTyped x s → type_fault m p ≡ None
  from w = is ∙ start_of_parts x s w
