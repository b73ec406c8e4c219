-- Computed: from an init on a token is split, a part passes to another holder, and the other is spent beside it; so the
-- premises of the laws on lists of moves can be met, and those of the laws of width.
use Rattle.std.proofs.Common.{◌≡◌, ◌≢◌, ℕ, zero, suc, ◌<◌, ℤ, pos, true, List, [], ◌∷◌, ◌++◌, Some, Ok, inr, refl, sym, arith}
use Rattle.std.specs.Prelude.{Contains, slice_index_or}
use Rattle.std.specs.List.{AllByRecursion, IsDistinct}
use Rattle.std.proofs.lemmas.Int.{ints}
use Rattle.sync_machine.specs.Naming.{bound_by}
use Rattle.sync_machine.specs.States.{State, IsInit}
use Rattle.sync_rules.specs.Slots.{act_slot}
use Rattle.sync_terms.specs.Values.{truth}
use Rattle.sync_join.specs.declared.tokens.Token.{Token}
use Rattle.sync_join.specs.Shards.{often}
use Rattle.sync_join.specs.Widths.{AreNarrow}
use Rattle.sync_exchange.specs.declared.hands.Held.{Held}
use Rattle.sync_exchange_values.specs.Fitting.{number_fits, form_fits}
use Rattle.sync_exchange.specs.Exchange.{Exchanged, held_as, stored_at, token_of, permission, argument, tokens_in, does, exchange_of}
use Rattle.sync_exchange.specs.Moves.{Move, Exchange, Split, Holders, all_tokens, AreApart, IsExchange, IsSplit, AreDealt, AreMoves, no_more, one_more, dealt}
use Rattle.sync_exchange.specs.MoveLaws.{RunsFromStart}
use Rattle.sync_exchange.specs.Runs.{calls_of}
use Rattle.sync_exchange.proofs.Widening.{unbounded}
use Rattle.sync_exchange.proofs.MovesStarting.{starts-go-on}
use Rattle.sync_exchange_laws.specs.Permissions.{there_often}
use Rattle.sync_exchange_laws.specs.Lasting.{IsGivenOnce}
use Rattle.sync_exchange_laws.specs.Widths.{IsWithin, AreWithin}
use Rattle.sync_exchange_laws.proofs.Lasting.{starts-give-once}
use Rattle.sync_exchange_laws.proofs.Joining.{states-fit}
use Rattle.sync_exchange_laws.proofs.Meeting as counts
use Rattle.sync_exchange_laws.proofs.Storage.{fields, begin, spend, stored_cell, proved, owner, blank, kept, all_three, begin-names, nothing-kept, permissions, begins}

abbrev part : ℕ → ℤ → Held
part name n = record { name = name; token = token_of 0 (pos 0) n }

-- these hands, with what is kept behind the init
abbrev with_hands : List (List Held) → Holders
with_hands hands = record { hands = hands; loose = []; kept = kept }

abbrev at_first : Holders
at_first = with_hands ((part 1 (pos 3) ∷ []) ∷ [])

abbrev halved : Holders
halved = with_hands ((part 2 (pos 1) ∷ part 3 (pos 2) ∷ []) ∷ [])

-- the second part has another name in the hand of its new holder
abbrev shared : Holders
shared = with_hands ((part 2 (pos 1) ∷ []) ∷ (part 9 (pos 2) ∷ []) ∷ [])

abbrev spent : Holders
spent = with_hands ([] ∷ (part 9 (pos 2) ∷ []) ∷ [])

abbrev moves : List Move
moves = Split 1 (pos 1) 2 3 ∷ Exchange spend (pos 1 ∷ []) (2 ∷ []) [] [] ∷ []

other-name : (name : ℕ) → name ≢ 1 → Contains (1 ∷ []) name → ⊥
other-name name other h = at h.0 h.1 h.2 where
  at : (i : ℕ) → i < 1 → slice_index_or (1 ∷ []) i name ≡ name → ⊥
  at zero lt is = other (sym is)
  at (suc i) lt is = omega (arith, lt)

splits : IsSplit fields 1 (pos 1) 2 3 (part 1 (pos 3) ∷ []) (part 2 (pos 1) ∷ part 3 (pos 2) ∷ [])
unfolding held_as
splits = record {
  token = token_of 0 (pos 0) (pos 3);
  held = refl;
  counted = refl;
  natural = omega (arith, ints);
  within = omega (arith, ints);
  apart = λ e. absurd (omega (arith, e));
  first_new = other-name 2 (λ e. absurd (omega (arith, e)));
  second_new = other-name 3 (λ e. absurd (omega (arith, e)));
  leaves = refl;
}

passes : AreDealt halved shared
unfolding IsDistinct
passes = record { same = λ t. refl; kept = refl; apart = ((tt, tt), ((tt, tt), tt)) }

-- beside the other holder
spends : IsExchange unbounded stored_cell (all_tokens shared) spend (pos 1 ∷ []) (2 ∷ []) [] []
    (part 2 (pos 1) ∷ []) kept
    [] kept
unfolding held_as stored_at does act_slot argument number_fits form_fits truth bound_by IsDistinct
spends = record {
  declared = (1, omega arith, refl);
  no_init = λ e. absurd (cc);
  enough = refl;
  wanted = record {
    enough_tokens = refl;
    enough_given = refl;
    given_apart = tt;
    given_new = λ name has among. absurd (let lt = has.1 in omega (arith, lt));
  };
  said = inr refl;
  bound = pos 3 ∷ [];
  leaves = refl;
}

list : AreMoves unbounded stored_cell at_first moves spent
list = one_more {next = halved}
    (record {
      before = [];
      hand = part 1 (pos 3) ∷ [];
      left = part 2 (pos 1) ∷ part 3 (pos 2) ∷ [];
      after = [];
      was = refl;
      is = refl;
      stay = refl;
      does = (splits, refl);
    })
    (dealt {next = shared} passes
    (one_more {next = spent}
    (record {
      before = [];
      hand = part 2 (pos 1) ∷ [];
      left = [];
      after = (part 9 (pos 2) ∷ []) ∷ [];
      was = refl;
      is = refl;
      stay = refl;
      does = spends;
    })
    no_more))

-- so the whole went through one declared step from the start of the init
runs : RunsFromStart stored_cell begin (pos 3 ∷ []) (calls_of moves) (all_tokens spent) kept
runs = (starts-go-on unbounded stored_cell proved begin (0, omega arith, refl) refl (pos 3 ∷ []) refl (7 ∷ [])
    (1 ∷ []) owner begin-names permissions blank nothing-kept refl [] all_three begins moves spent list).0

-- and the permission that the init was given is there, once: it is stored
given-once : IsGivenOnce (tokens_in owner) (all_tokens spent) kept
given-once = starts-give-once unbounded stored_cell proved begin (0, omega arith, refl) refl (pos 3 ∷ []) refl
    (7 ∷ []) (1 ∷ []) owner begin-names permissions blank nothing-kept refl [] all_three begins moves spent list

stored-once : there_often (pos 0) (pos 3) (all_tokens spent) kept ≡ 1
stored-once = refl

-- ---- widths

within : AreWithin (tokens_in counts.hand ++ []) counts.kept
within = record {
  tokens = (omega (arith, ints), (omega (arith, ints), tt));
  records = (refl, tt);
  stored = tt;
  few = omega arith;
}

fit : (AllByRecursion IsWithin counts.three → AreNarrow counts.counted.fields (tokens_in counts.hand ++ []))
    × (AreNarrow counts.counted.fields (tokens_in counts.hand ++ []) → AllByRecursion IsWithin counts.three)
fit = states-fit counts.counted.fields (tokens_in counts.hand ++ []) counts.kept counts.sound within counts.three refl

narrow-sums : AreNarrow counts.counted.fields (tokens_in counts.hand ++ [])
narrow-sums = fit.0 (refl, tt)
