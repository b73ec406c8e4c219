-- Computed: a spend of a count, and the init of a store, as threads and typing see them; so the premises can be met.
use Rattle.std.proofs.Common.{◌≡◌, ℕ, ℤ, pos, Bool, true, false, List, [], ◌∷◌, option_map, Option, Some, None, inr, refl, subst, arith, nat_eq, if◌then◌else◌}
use Rattle.std.specs.Prelude.{◌↔◌}
use Rattle.std.specs.List.{AllByRecursion}
use Rattle.sync_terms.specs.Trees.{Lit, replaced}
use Rattle.sync_terms.specs.Maps as maps
use Rattle.sync_terms.specs.Values.{Valuation, truth, Holds}
use Rattle.sync_machine.specs.States.{sort_of}
use Rattle.sync_rules.specs.Slots.{act_slot}
use Rattle.sync_join.specs.Shards.{IsToken}
use Rattle.sync_exchange.proofs.Strategies.{some_is}
use Rattle.sync_exchange.proofs.Widening.{unbounded}
use Rattle.sync_exchange_laws.specs.Terms.{HeldTerms, token_under, terms_as}
use Rattle.sync_exchange_laws.specs.WholeTerms.{exchange_dues}
use Rattle.sync_exchange_laws.proofs.Meeting as counts
use Rattle.sync_exchange_laws.proofs.Storage as stores
use Rattle.sync_thread.specs.Programs.{DoTree}
use Rattle.sync_thread_machine.specs.MachineWithProgram.{MachineWithProgram, decls_of}
use Rattle.sync_typing.specs.Environments.{Env, TokenTree}
use Rattle.sync_typing.specs.Exchanging.{deal_of, parts_of, token_dues}
use Rattle.sync_thread_exchanges.specs.Safety.{IsSeen}
use Rattle.sync_thread_exchanges.specs.Deals.{as_terms, IsHandOf, AreTokens, stands_for, owed, IsPassed}
use Rattle.sync_thread_exchanges.proofs.Seeing.{exchanges-are-seen, starts-are-seen}
use Rattle.sync_thread_exchanges.proofs.OwingVariables.{deals-ask-alike}

-- ---- to threads

spend-is-seen : IsSeen counts.counted.fields counts.three counts.spend [] true None
spend-is-seen =
    exchanges-are-seen unbounded counts.counted counts.proved counts.spend (1, omega arith, refl) (λ e. absurd (cc)) [] refl
    (1 ∷ []) [] counts.hand counts.names [] counts.kept counts.sound counts.three refl counts.reached [] (inr refl) _
    counts.follows

begin-is-seen : IsSeen stores.fields [] stores.begin (pos 3 ∷ []) true None
begin-is-seen =
    starts-are-seen unbounded stores.stored_cell stores.proved stores.begin (0, omega arith, refl) refl (pos 3 ∷ []) refl
    (7 ∷ []) (1 ∷ []) stores.owner stores.begin-names stores.permissions stores.blank stores.nothing-kept refl []
    stores.all_three stores.begins

-- ---- to typing: a token of one is at hand under the name 1

abbrev counting : MachineWithProgram
counting = record { machine = counts.counted; program = record { decls = []; start = None; threads = []; last = None } }

abbrev spends : DoTree
spends = record { op = 1; args = []; tokens = record { name = 1; at = None } ∷ []; given = []; label = None; scripts = []; line = 1 }

abbrev one : TokenTree
one = record { field = 0; key = Lit (pos 0); value = Lit (pos 1) }

abbrev at_hand : Env
at_hand = record {
  terms = λ x. None;
  hand = λ n. if nat_eq n 1 then Some one else None;
  facts = [];
  fresh = 1000;
}

abbrev hand : List HeldTerms
hand = record { name = 1; token = record { field = 0; key = Lit (pos 0); value = Lit (pos 1) } } ∷ []

abbrev nothing-known : Valuation
nothing-known = record { number = λ x. pos 0; mapping = λ x. maps.nil }

same-token : (b : Bool) → (if b then Some (as_terms one) else None) ≡ option_map as_terms (if b then Some one else None)
same-token true = refl
same-token false = refl

is-hand : IsHandOf at_hand.hand hand
unfolding terms_as
is-hand n = same-token (nat_eq n 1)

one-only : (b : Bool) (t : TokenTree) → (if b then Some one else None) ≡ Some t → one ≡ t
one-only true t e = some_is one t e
one-only false t e = absurd (cc)

are-tokens : AreTokens counts.counted.fields nothing-known at_hand.hand
unfolding sort_of
are-tokens n t e =
    subst (λ (u : TokenTree). IsToken counts.counted.fields (token_under nothing-known (as_terms u))) (one-only (nat_eq n 1) t e)
    (inr (omega arith, record { tokens = refl; keys = λ h. refl; elements = λ h. absurd (cc) }))

are-there : AllByRecursion IsPassed (token_dues at_hand [] (parts_of counts.counted.fields counts.spend) (1 ∷ []))
unfolding act_slot
are-there = (refl, (refl, (refl, tt)))

-- so what typing owes holds exactly where the dues do, and both do: one is asked for, and one is there
alike : AllByRecursion (Holds nothing-known) (owed (deal_of counting counts.spend spends at_hand).dues)
    ↔ AllByRecursion (Holds nothing-known)
    (exchange_dues counts.counted.fields (stands_for (deal_of counting counts.spend spends at_hand)) counts.spend (1 ∷ []) [] hand)
alike = deals-ask-alike counting counts.symbols counts.named counts.ruled counts.spend (1, omega arith, refl)
    (λ e. absurd (cc)) spends at_hand nothing-known hand is-hand are-tokens are-there

dues-hold : AllByRecursion (Holds nothing-known)
    (exchange_dues counts.counted.fields (stands_for (deal_of counting counts.spend spends at_hand)) counts.spend (1 ∷ []) [] hand)
unfolding act_slot replaced truth
dues-hold = alike.0 (refl, tt)
