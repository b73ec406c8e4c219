-- What others have stays: where they are, and what those that have ended have left.
use Rattle.std.specs.Prelude.{◌≡◌, ℕ, ◌≤◌, pos, [], ◌∷◌, length, Some}
use Rattle.sync_exchange.specs.Exchange.{held_as}
use Rattle.sync_machine.specs.States.{Numbers}
use Rattle.sync_thread.specs.Code.{locals_of}
use Rattle.sync_thread.specs.Programs.{KeepTree}
use Rattle.sync_thread_machine.specs.MachineWithProgram.{MachineWithProgram, fields_of}
use Rattle.sync_thread_meaning.specs.Meaning.{World}
use Rattle.sync_thread_meaning.specs.Shares.{amount_of, hand_of, named_value, proofs_of, wrap_of}
use Rattle.sync_typing.specs.Environments.{Env}
use Rattle.sync_typing.specs.Keeps.{is_at_hand_in}
use Rattle.sync_typing.specs.Names.{known_with}
use Rattle.sync_typing.specs.Typing.{constants}
use Rattle.sync_typing_laws.proofs.KeepingSights.{OfField, OfHeld, OfName, OfWrap, Symbol, symbol_of, value_field, value_held, value_name}
use Rattle.sync_typing_laws.proofs.KeepingTerms.{Same}
use Rattle.sync_typing_laws.specs.Standing.{Stayed}
use Rattle.sync_typing_rows.proofs.Ending.{carried, no_wrap_known}
use Rattle.sync_typing_rows.proofs.MoreNames.{known_more}
use Rattle.sync_typing_rows.specs.BeginLaws.{sight_at}
use Rattle.sync_typing_rows.specs.EndLaws.{HasEnded, IsThreadKeep}
use mathlib.Core.Path.{sym, ap, subst, ◌∙◌}
use Rattle.sync_typing_laws.specs.Rests.{KnowsConstants}
use Rattle.sync_typing_rows.proofs.KeepingStays.{stands}
use Rattle.sync_typing_rows.specs.OthersLaws.{OthersAreLeft}

ended_stays : (x : MachineWithProgram) (known : Env) → length (fields_of x) ≤ 32 → KnowsConstants x known → (t u : ℕ) → (u ≡ t → ⊥) → (s z : World) → Stayed x t s z → (k : KeepTree) → IsThreadKeep x known k → HasEnded x u s k → HasEnded x u z k
ended_stays x known few knows t u other s z stays k keep is = record {
  kept = carried x known knows k keep (sight_at x u s) (sight_at x u z) same (λ i own. ap (held_as i) (stays.hands u other)) is.kept.lines is.kept.facts;
  hand = λ i off. ap (held_as i) (stays.hands u other) ∙ is.hand i off;
  proofs = λ y off. ap (λ f. f y) (stays.proofs u other) ∙ is.proofs y off;
  given = λ y own. (let it = is.given y own in (it.0, ap (λ f. f y) (stays.proofs u other) ∙ it.1));
} where
  same : Same (known_with x []) (is_at_hand_in (constants known) k) (sight_at x u s).valuation (sight_at x u z).valuation
  same y is_known at_hand = of (symbol_of x y (known_more x y is_known)) where
    of : Symbol x y → (sight_at x u s).valuation.number y ≡ (sight_at x u z).valuation.number y
    of (OfField below constant) = value_field (fields_of x) s.shares.kept (pos 0 ∷ pos 0 ∷ pos 0 ∷ pos 0 ∷ wrap_of s.shares u ∷ []) (named_value (proofs_of s.shares u) (locals_of s.memory u)) (hand_of s.shares u) y below
        ∙ sym (stays.kept y below constant) ∙ sym (value_field (fields_of x) z.shares.kept (pos 0 ∷ pos 0 ∷ pos 0 ∷ pos 0 ∷ wrap_of z.shares u ∷ []) (named_value (proofs_of z.shares u) (locals_of z.memory u)) (hand_of z.shares u) y below)
    of (OfWrap at) = absurd (no_wrap_known x few (subst (λ d. known_with x [] d ≡ Some Numbers) at is_known))
    of (OfName i at below) = subst (λ d. (sight_at x u s).valuation.number d ≡ (sight_at x u z).valuation.number d) (sym at)
        (value_name (fields_of x) s.shares.kept (pos 0 ∷ pos 0 ∷ pos 0 ∷ pos 0 ∷ wrap_of s.shares u ∷ []) (named_value (proofs_of s.shares u) (locals_of s.memory u)) (hand_of s.shares u) i few
        ∙ ap (λ f. named_value f (locals_of s.memory u) i) (sym (stays.proofs u other)) ∙ ap (λ l. named_value (proofs_of z.shares u) l i) (sym (stays.locals u other))
        ∙ sym (value_name (fields_of x) z.shares.kept (pos 0 ∷ pos 0 ∷ pos 0 ∷ pos 0 ∷ wrap_of z.shares u ∷ []) (named_value (proofs_of z.shares u) (locals_of z.memory u)) (hand_of z.shares u) i few))
    of (OfHeld i at below) = subst (λ d. (sight_at x u s).valuation.number d ≡ (sight_at x u z).valuation.number d) (sym at)
        (value_held (fields_of x) s.shares.kept (pos 0 ∷ pos 0 ∷ pos 0 ∷ pos 0 ∷ wrap_of s.shares u ∷ []) (named_value (proofs_of s.shares u) (locals_of s.memory u)) (hand_of s.shares u) i few
        ∙ ap (λ h. amount_of (held_as i h)) (sym (stays.hands u other))
        ∙ sym (value_held (fields_of x) z.shares.kept (pos 0 ∷ pos 0 ∷ pos 0 ∷ pos 0 ∷ wrap_of z.shares u ∷ []) (named_value (proofs_of z.shares u) (locals_of z.memory u)) (hand_of z.shares u) i few))

pub others_are_left : OthersAreLeft
others_are_left x known few knows t s z stays = record {
  stands = λ u other e round is. stands x known t u other s z stays e round is;
  ended = λ u other k keep is. ended_stays x known few knows t u other s z stays k keep is;
}
