-- After a keep that was come to: its environment stands, with the forms round it, and all is whole.
use Rattle.std.specs.List.{AllByRecursion, list_all}
use Rattle.std.specs.Prelude.{◌≡◌, ℕ, ◌≤◌, ℤ, Bool, true, ◌&&◌, List, [], ◌∷◌, length, Option, Ok}
use Rattle.sync_exchange.specs.declared.hands.Held.{Held}
use Rattle.sync_rules.specs.Locality.{names_only}
use Rattle.sync_terms.specs.Values.{Valuation}
use Rattle.sync_thread.specs.Programs.{KeepTree, KeepLineTree, KeepFactTree}
use Rattle.sync_thread.specs.Resting.{Round}
use Rattle.sync_thread_machine.specs.MachineWithProgram.{MachineWithProgram, fields_of}
use Rattle.sync_thread_machine.specs.ProgramSymbols.{held_of}
use Rattle.sync_thread_meaning.specs.Meaning.{World, keep_sight, annotated_language}
use Rattle.sync_thread_meaning.specs.Shares.{Sight, hand_of, given_to}
use Rattle.sync_typing.specs.Dues.{are_apart}
use Rattle.sync_typing.specs.Environments.{Env}
use Rattle.sync_typing.specs.Keeps.{option_all, keep_names_only, is_at_hand_in, own_tokens, after_keep}
use Rattle.sync_typing.specs.Lists.{assigned_locals}
use Rattle.sync_typing.specs.Names.{known_here, keep_is_named, are_names, are_apart_names, shape_is_named, is_formula}
use Rattle.sync_typing_laws.proofs.KeepingTerms.{and_first, and_second}
use Rattle.sync_typing_laws.specs.Rests.{KnowsConstants}
use Rattle.sync_typing_laws.specs.Ruling.{body_at}
use Rattle.sync_typing_laws.specs.Standing.{Standing, Chain, IsWholeState}
use Rattle.sync_typing_rows.proofs.KeepingAfter.{mid_hand, after_values}
use Rattle.sync_typing_rows.proofs.KeepingEnv.{Shaped}
use Rattle.sync_typing_rows.proofs.KeepingRows.{Kept}
use Rattle.sync_typing_rows.proofs.KeepingScoped.{after_scoped}
use Rattle.sync_typing_rows.proofs.KeepingShaped.{shaped}
use Rattle.sync_typing_rows.proofs.KeepingStands.{keep_stands}
use Rattle.sync_typing_rows.proofs.KeepingWhole.{kept_whole}
use Rattle.sync_typing_rows.proofs.KeepingWords.{locals_known}
use mathlib.Core.Path.{sym, subst}

at_hand_each : (x : MachineWithProgram) (p : ℕ → Bool) (w : Sight) (hand : List Held) (ls : List KeepLineTree) → AllByRecursion (Shaped x p w hand) ls → AllByRecursion (λ (l : KeepLineTree). p (held_of l.name) ≡ true) ls
at_hand_each x p w hand [] all = tt
at_hand_each x p w hand (l ∷ ls) all = (all.0.names, at_hand_each x p w hand ls all.1)

pub kept_goes : (x : MachineWithProgram) (known : Env) → KnowsConstants x known → length (fields_of x) ≤ 32 → (t : ℕ) → t ≤ length x.program.threads → are_names (assigned_locals (body_at x t) []) ≡ true
    → (k : KeepTree) → keep_is_named x (known_here x) k ≡ true → (v : Valuation) (next : ℕ) (form : Round annotated_language Env) (round : List (Round annotated_language Env)) (s : World) → Chain x known v next s (form ∷ round)
    → keep_names_only (is_at_hand_in form.env.terms k) k ≡ true → IsWholeState x s → (vals : List ℤ) (z : World) → Kept x t s k vals form.saved z → (line : ℕ) (now : Env) → after_keep line (assigned_locals (body_at x t) []) k form.env ≡ Ok now
    → Standing x known t now (form ∷ round) z × IsWholeState x z
kept_goes x known knows few t below local_names k named v next form round s chain at_hand whole vals z kept line now is = (
  keep_stands x known knows few v next t s z form round chain k locals own kept.came now
      (after_values x known form.env knows few v form.saved next t s chain.0 k locals own lines line now
      (and_second (list_all (λ (l : KeepLineTree). shape_is_named x (known_here x) l.shape) k.lines) _ (and_second (are_apart_names (own_tokens k)) _ rest))
      (and_second (list_all (λ (l : KeepLineTree). option_all (names_only p) l.shape.key && option_all (names_only p) l.shape.value) k.lines) _ at_hand) kept.arrives.facts
      (locals_known x few form.env.terms v t s z whole.tidy k own form.saved kept.came local_names) is)
      (mid_hand x known form.env knows few v form.saved next t s chain.0 k locals own lines)
      (after_scoped form.env chain.0.scoped k locals (and_first (are_names k.names) (are_apart k.names) (and_first (are_apart_names k.names) _ named))
      (and_first (are_names (own_tokens k)) (are_apart (own_tokens k)) (and_first (are_apart_names (own_tokens k)) _ rest)) local_names at_hand
      (at_hand_each x p (keep_sight (fields_of x) s t own form.saved) (hand_of s.shares t) k.lines lines) line now is),
  subst (IsWholeState x) (sym kept.is) (kept_whole x t below s whole k named vals form.saved kept.arrival kept.arrives),
) where
  locals : List ℕ
  locals = assigned_locals (body_at x t) []

  own : ℕ → Option ℤ
  own = given_to k.names vals

  p : ℕ → Bool
  p = is_at_hand_in form.env.terms k

  rest : (are_apart_names (own_tokens k) && (list_all (λ (l : KeepLineTree). shape_is_named x (known_here x) l.shape) k.lines && list_all (λ (f : KeepFactTree). is_formula (known_here x) f.form) k.facts)) ≡ true
  rest = and_second (are_apart_names k.names) _ named

  lines : AllByRecursion (Shaped x p (keep_sight (fields_of x) s t own form.saved) (hand_of s.shares t)) k.lines
  lines = shaped x few form.env.terms t s whole.tidy k vals form.saved kept.arrival kept.arrives named at_hand
