-- Computed: a cell that is there once; a spend of a count whose conditions hold; and what it asks of the holder.
use Rattle.std.proofs.Common.{◌≡◌, ℤ, pos, Bool, true, false, List, [], ◌∷◌, Some, None, refl, ap, if◌then◌else◌, suc, ◌+◌}
use Rattle.std.specs.Ordering.{int_eq}
use Rattle.sync_terms.specs.Trees.{Lit}
use Rattle.sync_terms.specs.Values.{truth}
use Rattle.sync_machine.specs.declared.fields.Field.{Field}
use Rattle.sync_base.specs.declared.strategies.Strategy.TheVariants.{Count}
use Rattle.sync_base.specs.declared.strategies.OpMode.TheVariants as mode
use Rattle.sync_machine.specs.Machines.{Term, StepTree, OperationTree}
use Rattle.sync_machine.specs.Machines as acts
use Rattle.sync_machine.specs.Statements.{condition, enabling, safety, presence, amount_is_natural, field_of, after, removed}
use Rattle.sync_machine.specs.States.{Number, sort_of, last_values}
use Rattle.sync_machine.specs.Tests.{are_met, is_kept_safe}
use Rattle.sync_join.proofs.Maps.{equal}
use Rattle.sync_join.specs.Shards.{Kept}
use Rattle.sync_exchange.specs.Exchange.{permission}
use Rattle.sync_exchange_laws.specs.Permissions.{IsOnly}
use Rattle.sync_exchange_laws.specs.Conditions.{conditions_hold, safety_holds, state_after}

abbrev nothing_kept : Kept
nothing_kept = record { records = []; stored = [] }

differ : (n m : ℤ) → (n ≡ m → ⊥) → int_eq n m ≡ false
differ n m other = cases (int_eq n m) refl where
  cases : (b : Bool) → int_eq n m ≡ b → b ≡ false
  cases true e = absurd (other (equal n m e))
  cases false e = refl

-- the permission of cell 1 with content 7, alone
once : IsOnly (pos 1) (pos 7) (permission (pos 1) (pos 7) ∷ []) nothing_kept
once = record {
  once = refl;
  no_other = λ n other. ap (λ b. (if b then suc 0 else 0) + 0) (differ n (pos 7) other);
}

abbrev counted : List Field
counted = record { name = 0; strategy = Count; line = 1 } ∷ []

-- one is taken from the count
abbrev spend : OperationTree
spend = record {
  name = 1;
  mode = mode.Transition;
  params = [];
  steps = record { act = acts.Remove 0 (record { key = None; value = Some (Term (Lit (pos 1))) }); line = 2 } ∷ [];
  line = 2;
}

may-spend : conditions_hold counted (Number (pos 3) ∷ []) spend [] [] ≡ true
unfolding are_met condition enabling safety presence amount_is_natural field_of truth
may-spend = refl

is-safe : safety_holds counted (Number (pos 3) ∷ []) spend [] [] ≡ true
unfolding is_kept_safe condition enabling safety presence amount_is_natural field_of truth
is-safe = refl

-- none is left to take
may-not-spend : conditions_hold counted (Number (pos 0) ∷ []) spend [] [] ≡ false
unfolding are_met condition enabling safety presence amount_is_natural field_of truth
may-not-spend = refl

two-are-left : state_after counted (Number (pos 3) ∷ []) spend [] [] ≡ Number (pos 2) ∷ []
unfolding last_values after removed field_of sort_of
two-are-left = refl
