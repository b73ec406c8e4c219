-- Two moves of a holder, computed: a token of a count is split, and one of its parts is spent.
use Rattle.std.proofs.Common.{◌≡◌, ◌≢◌, ℕ, zero, suc, ◌<◌, ℤ, pos, true, List, [], ◌∷◌, Some, None, inr, refl, sym, arith}
use Rattle.std.specs.Prelude.{Contains, slice_index_or}
use Rattle.std.specs.List.{IsDistinct}
use Rattle.std.proofs.lemmas.Int.{ints}
use Rattle.sync_terms.specs.Trees.{Lit}
use Rattle.sync_base.specs.declared.strategies.Strategy.TheVariants.{Count}
use Rattle.sync_base.specs.declared.strategies.OpMode.TheVariants as mode
use Rattle.sync_machine.specs.Machines.{Term, StepTree, OperationTree, MachineTree}
use Rattle.sync_machine.specs.Machines as acts
use Rattle.sync_machine.specs.States.{Number}
use Rattle.sync_rules.specs.Slots.{act_slot}
use Rattle.sync_exchange_values.specs.Fitting.{number_fits}
use Rattle.sync_exchange.specs.declared.hands.Held.{Held}
use Rattle.sync_exchange.specs.Exchange.{held_as, token_of, does}
use Rattle.sync_exchange.specs.Moves.{Move, Exchange, Split, Holders, all_tokens, IsExchange, IsSplit, AreMoves, no_more, one_more}
use Rattle.sync_exchange.specs.Runs.{calls_of}

-- one is taken from the count
abbrev spend : OperationTree
spend = record {
  name = 1;
  mode = mode.Transition;
  params = [];
  steps = record { act = acts.Remove 0 (record { key = None; value = Some (Term (Lit (pos 1))) }); line = 2 } ∷ [];
  line = 2;
}

abbrev counted : MachineTree
counted = record { name = 0; fields = record { name = 0; strategy = Count; line = 1 } ∷ []; ops = spend ∷ []; invariants = [] }

abbrev amount : ℕ → ℤ → Held
amount name n = record { name = name; token = record { field = 0; key = pos 0; value = n } }

-- two holders; the second one's hand stays as it is, and so does a loose token
abbrev with_hand : List Held → Holders
with_hand hand = record {
  hands = hand ∷ (amount 1 (pos 5) ∷ []) ∷ [];
  loose = token_of 0 (pos 0) (pos 4) ∷ [];
  kept = record { records = Number (pos 0) ∷ []; stored = [] };
}

abbrev moves : List Move
moves = Split 1 (pos 1) 2 3 ∷ Exchange spend [] (2 ∷ []) [] [] ∷ []

-- a name that is not held
other-name : (name : ℕ) → name ≢ 1 → Contains (1 ∷ []) name → ⊥
other-name name other h = at h.0 h.1 h.2 where
  at : (i : ℕ) → i < 1 → slice_index_or (1 ∷ []) i name ≡ name → ⊥
  at zero lt is = other (sym is)
  at (suc i) lt is = omega (arith, lt)

no-name : (P : Type 0) (name : ℕ) → Contains [] name → P
no-name P name h = let lt = h.1 in absurd (omega (arith, lt))

parted : IsSplit counted.fields 1 (pos 1) 2 3 (amount 1 (pos 3) ∷ []) (amount 2 (pos 1) ∷ amount 3 (pos 2) ∷ [])
unfolding held_as
parted = record {
  token = token_of 0 (pos 0) (pos 3);
  held = refl;
  counted = refl;
  natural = omega (arith, ints);
  within = omega (arith, ints);
  apart = λ e. absurd (omega (arith, e));
  first_new = other-name 2 (λ e. absurd (omega (arith, e)));
  second_new = other-name 3 (λ e. absurd (omega (arith, e)));
  leaves = refl;
}

spent : IsExchange (λ n. true) counted (all_tokens (with_hand (amount 2 (pos 1) ∷ amount 3 (pos 2) ∷ []))) spend [] (2 ∷ []) [] []
    (amount 2 (pos 1) ∷ amount 3 (pos 2) ∷ []) (with_hand []).kept (amount 3 (pos 2) ∷ []) (with_hand []).kept
unfolding held_as does act_slot number_fits IsDistinct
spent = record {
  declared = (zero, omega arith, refl);
  no_init = λ e. absurd (cc);
  enough = refl;
  wanted = record { enough_tokens = refl; enough_given = refl; given_apart = tt; given_new = λ name h. no-name _ name h };
  said = inr refl;
  bound = [];
  leaves = refl;
}

both : AreMoves (λ n. true) counted (with_hand (amount 1 (pos 3) ∷ [])) moves (with_hand (amount 3 (pos 2) ∷ []))
both = one_more {next = with_hand (amount 2 (pos 1) ∷ amount 3 (pos 2) ∷ [])}
    (record { before = []; hand = amount 1 (pos 3) ∷ []; left = amount 2 (pos 1) ∷ amount 3 (pos 2) ∷ []; after = (amount 1 (pos 5) ∷ []) ∷ []; was = refl; is = refl; stay = refl; does = (parted, refl) })
    (one_more {next = with_hand (amount 3 (pos 2) ∷ [])}
    (record { before = []; hand = amount 2 (pos 1) ∷ amount 3 (pos 2) ∷ []; left = amount 3 (pos 2) ∷ []; after = (amount 1 (pos 5) ∷ []) ∷ []; was = refl; is = refl; stay = refl; does = spent })
    no_more)

-- the split is no step, and the exchange is one
only_call : calls_of moves ≡ record { operation = spend; args = [] } ∷ []
only_call = refl
