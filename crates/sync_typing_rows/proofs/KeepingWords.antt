-- The locals of a thread are words in a keep's environment, and so their bounds are so in it.
use Rattle.std.proofs.Common.{arith}
use Rattle.std.proofs.lemmas.Bool.{ltb-true}
use Rattle.std.proofs.lemmas.Bool.Decides.{nat_tests}
use Rattle.std.specs.List.{AllByRecursion, list_all}
use Rattle.std.specs.Prelude.{◌≡◌, ℕ, ◌<◌, ◌≤◌, ℤ, pos, Bool, true, false, ◌||◌, nat_eq, List, [], ◌∷◌, length, Option, unwrap_or}
use Rattle.sync_machine.specs.Naming.{is_in}
use Rattle.sync_terms.specs.Symbols.{name_symbol}
use Rattle.sync_terms.specs.Trees.{Tree}
use Rattle.sync_terms.specs.Values.{Valuation}
use Rattle.sync_thread.specs.Arrays.{name_limit}
use Rattle.sync_thread.specs.Code.{locals_of}
use Rattle.sync_thread.specs.Programs.{KeepTree}
use Rattle.sync_thread_machine.specs.MachineWithProgram.{MachineWithProgram, fields_of}
use Rattle.sync_thread_meaning.specs.Meaning.{World, keep_sight}
use Rattle.sync_thread_meaning.specs.Shares.{hand_of, proofs_of, named_value, overlaid}
use Rattle.sync_typing.specs.Keeps.{renewed, with_own, local_bounds}
use Rattle.sync_typing.specs.Lists.{assigned_locals}
use Rattle.sync_typing.specs.Names.{are_names, is_name}
use Rattle.sync_typing_laws.proofs.KeepingSights.{value_name}
use Rattle.sync_typing_laws.proofs.KeepingTerms.{and_first, and_second}
use Rattle.sync_typing_laws.specs.Rests.{IsTidy, IsKnown}
use Rattle.sync_typing_laws.specs.Ruling.{body_at}
use Rattle.sync_typing_rows.proofs.Keeping.{renew, renew_own, own_terms}
use Rattle.sync_typing_rows.proofs.KeepingBounds.{IsWord, bounds_known}
use Rattle.sync_typing_rows.proofs.KeepingStands.{Came}
use mathlib.Core.Path.{refl, sym, ap, ◌∙◌}

or_more : (a b : Bool) → b ≡ true → (a || b) ≡ true
or_more true b is = refl
or_more false b is = is

nat_same : (n : ℕ) → nat_eq n n ≡ true
nat_same n = grind (arith, nat_tests)

module _ (x : MachineWithProgram) (few : length (fields_of x) ≤ 32) (before : ℕ → Option Tree) (v : Valuation) (t : ℕ) (s z : World) (tidy : IsTidy x s) (k : KeepTree) (own : ℕ → Option ℤ) (saved : ℤ) (came : Came x k own saved t s z) where
  abbrev g : ℕ → ℤ
  g = (keep_sight (fields_of x) s t own saved).valuation.number

  word : (y : ℕ) → y < name_limit → is_in y (assigned_locals (body_at x t) []) ≡ true → IsWord (renew v g) (with_own k.names (renewed before)) y
  word y below inside = record {
    own = own_terms k.names before (name_symbol y) (omega arith);
    number = locals_of s.memory t y;
    is = renew_own v g (name_symbol y) (omega arith) (omega arith)
        ∙ value_name (fields_of x) s.shares.kept (pos 0 ∷ pos 0 ∷ pos 0 ∷ pos 0 ∷ saved ∷ []) (named_value (overlaid own (proofs_of s.shares t)) (locals_of s.memory t)) (hand_of s.shares t) y few
        ∙ ap (λ o. unwrap_or o (pos (locals_of s.memory t y))) (sym (ap (λ f. f y) came.proofs) ∙ came.no_proofs y inside);
    fits = tidy.locals_fit t y;
  }

  words : (ls : List ℕ) → are_names ls ≡ true → ((y : ℕ) → is_in y ls ≡ true → is_in y (assigned_locals (body_at x t) []) ≡ true) → AllByRecursion (IsWord (renew v g) (with_own k.names (renewed before))) ls
  words [] names inside = tt
  words (y ∷ ls) names inside = (
    word y (ltb-true y name_limit (and_first (is_name y) (list_all is_name ls) names)) (inside y (ap (λ b. b || is_in y ls) (nat_same y))),
    words ls (and_second (is_name y) (list_all is_name ls) names) (λ n is. inside n (or_more (nat_eq n y) (is_in n ls) is)),
  )

  -- the bounds of the thread's locals are so, as `after_values` wants them
  pub locals_known : are_names (assigned_locals (body_at x t) []) ≡ true → AllByRecursion (IsKnown (renew v g)) (local_bounds (with_own k.names (renewed before)) (assigned_locals (body_at x t) []))
  locals_known names = bounds_known (renew v g) (with_own k.names (renewed before)) (assigned_locals (body_at x t) []) (words (assigned_locals (body_at x t) []) names (λ y is. is))
