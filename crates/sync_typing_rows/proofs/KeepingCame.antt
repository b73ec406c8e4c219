-- What a keep does to the state: its thread alone goes on, with what the keep says.
use Rattle.std.proofs.Common.{arith}
use Rattle.std.proofs.lemmas.Bool.Decides.{nat_tests}
use Rattle.std.proofs.lemmas.List.{get_or-set_same, get_or-set_other}
use Rattle.std.specs.Prelude.{◌≡◌, ℕ, ◌≤◌, ℤ, pos, Bool, true, false, not, if◌then◌else◌, nat_eq, List, [], ◌∷◌, length, Option, Some, None}
use Rattle.sync_exchange.specs.Exchange.{held_as}
use Rattle.sync_machine.specs.Naming.{is_in}
use Rattle.sync_thread.specs.Programs.{KeepTree}
use Rattle.sync_thread_machine.specs.MachineWithProgram.{MachineWithProgram}
use Rattle.sync_thread_meaning.specs.Meaning.{World, Arrival, keeping}
use Rattle.sync_thread_meaning.specs.Shares.{proofs_of, with_wrap, given_to, overlaid}
use Rattle.sync_typing.specs.Lists.{assigned_locals}
use Rattle.sync_typing.specs.Names.{none_in}
use Rattle.sync_typing_laws.proofs.KeepingTerms.{and_first, and_second}
use Rattle.sync_typing_laws.specs.Rests.{IsTidy}
use Rattle.sync_typing_laws.specs.Ruling.{body_at}
use Rattle.sync_typing_rows.proofs.KeepingArrive.{Arrives}
use Rattle.sync_typing_rows.proofs.KeepingStands.{Came}
use Rattle.sync_typing_laws.specs.Standing.{Stayed}
use mathlib.Core.Path.{refl, sym, ap, subst, ◌∙◌}

-- the state after a keep
abbrev pub kept_at : ℕ → ℤ → Arrival → World → World
kept_at t saved a s = record { memory = s.memory; shares = with_wrap t saved (keeping t a.kept a.left (overlaid a.own (proofs_of s.shares t)) s.shares) }

pub kept_stays : (x : MachineWithProgram) (t : ℕ) (saved : ℤ) (a : Arrival) (s : World) → Stayed x t s (kept_at t saved a s)
kept_stays x t saved a s = record {
  hands = λ u other. get_or-set_other s.shares.hands t u a.kept [] other;
  proofs = λ u other. get_or-set_other s.shares.proofs t u (overlaid a.own (proofs_of s.shares t)) (λ n. None) other;
  wraps = λ u other. get_or-set_other s.shares.wraps t u saved (pos 0) other;
  locals = λ u other. refl;
  kept = λ f below constant. refl;
}

-- names of which none is a local
none_given : (ns ls : List ℕ) → none_in ns ls ≡ true → (y : ℕ) → is_in y ls ≡ true → (vs : List ℤ) → given_to ns vs y ≡ None
none_given [] ls none y inside vs = refl
none_given (n ∷ ns) ls none y inside [] = refl
none_given (n ∷ ns) ls none y inside (v ∷ vs) = tested (nat_eq y n) refl (none_given ns ls (and_second (not (is_in n ls)) _ none) y inside vs) where
  tested : (b : Bool) → nat_eq y n ≡ b → given_to ns vs y ≡ None → (if b then Some v else given_to ns vs y) ≡ None
  tested false apart later = later
  tested true at later = let same : y ≡ n = grind (arith, nat_tests) in
      let no : false ≡ true = (ap not (sym (subst (λ z. is_in z ls ≡ true) same inside)) ∙ and_first (not (is_in n ls)) _ none) in cc

none_over : (f g : ℕ → Option ℤ) (y : ℕ) → f y ≡ None → g y ≡ None → overlaid f g y ≡ None
none_over f g y one two = (rw one) ∙ two

pub kept_came : (x : MachineWithProgram) (t : ℕ) → t ≤ length x.program.threads → (k : KeepTree) (vals : List ℤ) (saved : ℤ) (a : Arrival) (s : World) → IsTidy x s → Arrives x t s k vals saved a → none_in k.names (assigned_locals (body_at x t) []) ≡ true
    → ((y : ℕ) → is_in y (assigned_locals (body_at x t) []) ≡ true → proofs_of s.shares t y ≡ None) → Came x k (given_to k.names vals) saved t s (kept_at t saved a s)
kept_came x t below k vals saved a s tidy arrives none none_before = record {
  hand = λ n. ap (held_as n) (get_or-set_same s.shares.hands t a.kept [] (let many = tidy.hands in omega arith)) ∙ arrives.parts.kept n;
  proofs = proofs;
  locals = refl;
  wrap = get_or-set_same s.shares.wraps t saved (pos 0) (let many = tidy.wraps in omega arith);
  constants = λ f below constant. refl;
  no_proofs = λ y inside. ap (λ f. f y) proofs ∙ none_over (given_to k.names vals) (proofs_of s.shares t) y (none_given k.names (assigned_locals (body_at x t) []) none y inside vals) (none_before y inside);
} where
  proofs : proofs_of (kept_at t saved a s).shares t ≡ overlaid (given_to k.names vals) (proofs_of s.shares t)
  proofs = get_or-set_same s.shares.proofs t (overlaid a.own (proofs_of s.shares t)) (λ n. None) (let many = tidy.proofs in omega arith) ∙ ap (λ f. overlaid f (proofs_of s.shares t)) arrives.own
