-- A whole exchange over terms, with its variables: under a valuation it succeeds exactly where its dues hold.
use Rattle.std.specs.Prelude.{◌≡◌, ℕ, ℤ, List, [], ◌∷◌, ◌++◌, length, ◌⊎◌, true, Some, Ok}
use Rattle.std.specs.List.{AllByRecursion, Contains}
use Rattle.sync_terms.specs.Trees.{Tree, Formula}
use Rattle.sync_terms.specs.Values.{Valuation, Holds, with_terms}
use Rattle.sync_machine.specs.declared.fields.Field.{Field}
use Rattle.sync_machine.specs.Machines.{OperationTree, MachineTree}
use Rattle.sync_machine.specs.Statements.{zero}
use Rattle.sync_machine.specs.States.{State, IsInit, IsReached}
use Rattle.sync_rules.specs.Plain.{is_plain}
use Rattle.sync_rules.specs.declared.slots.Role.{Role}
use Rattle.sync_rules.specs.declared.slots.Role.TheVariants.{Given}
use Rattle.sync_rules.specs.Slots.{SlotTree}
use Rattle.sync_join.specs.declared.tokens.Token.{Token}
use Rattle.sync_join.specs.Shards.{Kept, AreSoundShards}
use Rattle.sync_join.specs.Join.{join_of}
use Rattle.sync_exchange.specs.Exchange.{Exchanged, tokens_in, next_name, variable_slots, exchange_of}
use Rattle.sync_exchange.specs.Projection.{AreNames, ArePermissions, AreBlank, IsProved}
use Rattle.sync_exchange_laws.specs.Starts.{start_valuation}
use Rattle.sync_exchange_laws.specs.Terms.{HeldTerms, hand_under, terms_as, TermsUnderWay, is_token, terms_read, terms_given, all_dues, all_terms_left}
use Rattle.sync_exchange_laws.specs.Agreeing.{end_valuation, Agrees, exchanged_under}

-- ---- the slots of variables

-- What has to hold at a variable's slot: that its token has the value that the variable stands for.
abbrev pub variable_dues : (ℕ → Tree) → SlotTree → TermsUnderWay → List Formula
variable_dues names s d = asked s.role where
  asked : Role → List Formula
  asked Given = []
  asked role = is_token s.field zero (names s.field) (terms_as (next_name d.tokens) d.hand)

-- a variable has the token of this name
abbrev pub terms_known : ℕ → ℕ → TermsUnderWay → TermsUnderWay
terms_known f name d = record d { variables = (f, name) ∷ d.variables }

-- what the slot leaves; a new token has the value 0 until its statement says another
abbrev pub variable_terms_left : SlotTree → TermsUnderWay → TermsUnderWay
variable_terms_left s d = left s.role where
  left : Role → TermsUnderWay
  left Given = terms_known s.field (next_name d.given) (terms_given s.field zero zero d)
  left role = terms_known s.field (next_name d.tokens) (terms_read d)

-- slot by slot
abbrev pub all_variable_dues : (ℕ → Tree) → List SlotTree → TermsUnderWay → List Formula
all_variable_dues names [] d = []
all_variable_dues names (s ∷ ss) d = variable_dues names s d ++ all_variable_dues names ss (variable_terms_left s d)

abbrev pub all_variable_terms_left : List SlotTree → TermsUnderWay → TermsUnderWay
all_variable_terms_left [] d = d
all_variable_terms_left (s ∷ ss) d = all_variable_terms_left ss (variable_terms_left s d)

-- ---- the whole

-- before the first slot, with these names for the slots and this hand
abbrev pub terms_at_first : List ℕ → List ℕ → List HeldTerms → TermsUnderWay
terms_at_first tokens given hand =
    record { tokens = tokens; given = given; variables = []; hand = hand; entered = [] }

-- behind the slots of the variables
abbrev pub terms_begun : List Field → OperationTree → List ℕ → List ℕ → List HeldTerms → TermsUnderWay
terms_begun fs o tokens given hand = all_variable_terms_left (variable_slots fs o) (terms_at_first tokens given hand)

-- all that has to hold
abbrev pub exchange_dues : List Field → (ℕ → Tree) → OperationTree → List ℕ → List ℕ → List HeldTerms → List Formula
exchange_dues fs names o tokens given hand =
    all_variable_dues names (variable_slots fs o) (terms_at_first tokens given hand)
    ++ all_dues fs names o.steps (terms_begun fs o tokens given hand)

-- the hand that it leaves: what was not taken, and the new tokens
abbrev pub hand_exchanged : List Field → (ℕ → Tree) → OperationTree → List ℕ → List ℕ → List HeldTerms → List HeldTerms
hand_exchanged fs names o tokens given hand =
    (all_terms_left fs names o.steps (terms_begun fs o tokens given hand)).hand
    ++ (all_terms_left fs names o.steps (terms_begun fs o tokens given hand)).entered

-- The exchange of the hand's values succeeds exactly where the dues hold, and then it leaves the values of the hand of
-- terms.
pub record GoesByTerms (fs : List Field) (names : ℕ → Tree) (v : Valuation) (o : OperationTree) (args : List ℤ)
    (tokens given : List ℕ) (hand : List HeldTerms) (kept : Kept) (whole : State) : Type 0 where
  pub succeeds : AllByRecursion (Holds v) (exchange_dues fs names o tokens given hand)
      → exchange_of fs o args tokens given whole (hand_under v hand) kept
      ≡ Ok (exchanged_under fs (with_terms names v) o args tokens given whole (hand_under v hand) kept)
  pub alone : (x : Exchanged) → exchange_of fs o args tokens given whole (hand_under v hand) kept ≡ Ok x
      → AllByRecursion (Holds v) (exchange_dues fs names o tokens given hand)
  pub leaves : (x : Exchanged) → exchange_of fs o args tokens given whole (hand_under v hand) kept ≡ Ok x
      → x.hand ≡ hand_under v (hand_exchanged fs names o tokens given hand)

-- ---- the laws

-- Under what the theorem of sharding asks, and where the terms of the operation's names have the values of its own
-- valuation at the end for all that it reads, the exchange of a transition or property goes by the terms.
abbrev pub ExchangesGoByTerms : Type 0
ExchangesGoByTerms = (m : MachineTree) → IsProved m → (o : OperationTree) → Contains m.ops o → (IsInit o → ⊥)
    → (args : List ℤ) → length args ≡ length o.params
    → (v : Valuation) (tokens given : List ℕ) (hand : List HeldTerms)
    → AreNames m.fields o tokens given (hand_under v hand)
    → (others : List Token) (kept : Kept) → AreSoundShards m.fields (tokens_in (hand_under v hand) ++ others) kept
    → (s : State) → join_of m.fields (tokens_in (hand_under v hand) ++ others) kept ≡ Some s → IsReached m s
    → (whole : State) → (whole ≡ s) ⊎ (is_plain m.fields o ≡ true)
    → (names : ℕ → Tree)
    → Agrees m.fields o (with_terms names v)
    (end_valuation m.fields s o args tokens given whole (hand_under v hand) kept)
    → GoesByTerms m.fields names v o args tokens given hand kept whole

-- So does the exchange of an init.
abbrev pub StartsGoByTerms : Type 0
StartsGoByTerms = (m : MachineTree) → IsProved m → (o : OperationTree) → Contains m.ops o → IsInit o
    → (args : List ℤ) → length args ≡ length o.params
    → (v : Valuation) (tokens given : List ℕ) (hand : List HeldTerms)
    → AreNames m.fields o tokens given (hand_under v hand) → ArePermissions (tokens_in (hand_under v hand))
    → (kept : Kept) → AreBlank m.fields kept.records → kept.stored ≡ []
    → (whole : State) (names : ℕ → Tree)
    → Agrees m.fields o (with_terms names v) (start_valuation m.fields o args)
    → GoesByTerms m.fields names v o args tokens given hand kept whole
