-- The exchange of an operation over terms: tokens whose keys and values are terms, what has to hold for it, and that
-- under every valuation under which this holds it is the exchange of the values.
--
-- What the names of the operation stand for is given as terms, for all of its statements at once: an argument, the
-- value of a variable's token or of a constant, and the value of the token or of the object that a place binds it to.
use Rattle.std.specs.Prelude.{◌≡◌, ℕ, ℤ, pos, not, List, [], ◌∷◌, ◌++◌, length, map, true, nat_eq, if◌then◌else◌, ◌⊎◌, Option, Some, None, Ok}
use Rattle.std.specs.List.{AllByRecursion, Contains, filter}
use Rattle.sync_base.specs.declared.strategies.Strategy.{Strategy}
use Rattle.sync_base.specs.declared.strategies.Strategy.TheVariants.{Variable, Count, PersistentCount}
use Rattle.sync_terms.specs.Trees.{Tree, Lit, Formula, Eq, replaced, replaced_in}
use Rattle.sync_terms.specs.Values.{Valuation, num, truth, Holds, with_terms}
use Rattle.sync_machine.specs.declared.fields.Field.{Field}
use Rattle.sync_machine.specs.Machines.{PlaceTree, ActTree, StepTree, OperationTree, MachineTree}
use Rattle.sync_machine.specs.Machines as acts
use Rattle.sync_machine.specs.Naming.{bound_names}
use Rattle.sync_machine.specs.Statements.{zero, key_of, value_of}
use Rattle.sync_machine.specs.States.{State, sort_of, strategy_at, value_in, IsInit, IsReached}
use Rattle.sync_rules.specs.Plain.{is_plain}
use Rattle.sync_join.specs.declared.tokens.Token.{Token}
use Rattle.sync_join.specs.Shards.{Kept, perm, AreSoundShards}
use Rattle.sync_join.specs.Join.{join_of}
use Rattle.sync_exchange.specs.declared.hands.Held.{Held}
use Rattle.sync_exchange.specs.Exchange.{Exchanging, tokens_in, stored_at, next_name, later_names, token_name, use_variables, variable_slots, beginning, exchange_of}
use Rattle.sync_exchange.specs.Projection.{AreNames, IsProved}
use Rattle.sync_exchange_laws.specs.Conditions.{valuation_at}
use Rattle.sync_exchange_laws.specs.Along.{key_under, value_under, left_under, AreThere, all_left, ended}
use Rattle.sync_exchange_laws.specs.Succeeding.{values_bound}

-- ---- tokens of terms

pub record TokenTerms : Type 0 where
  pub field : ℕ
  pub key : Tree
  pub value : Tree

pub record HeldTerms : Type 0 where
  pub name : ℕ
  pub token : TokenTerms

-- the token that it is under a valuation
abbrev pub token_under : Valuation → TokenTerms → Token
token_under v t = record { field = t.field; key = num v t.key; value = num v t.value }

abbrev pub held_under : Valuation → HeldTerms → Held
held_under v h = record { name = h.name; token = token_under v h.token }

abbrev pub hand_under : Valuation → List HeldTerms → List Held
hand_under v hs = map (held_under v) hs

-- the token of a name; all others; the token of a name with another value
unfoldable pub terms_as : ℕ → List HeldTerms → Option TokenTerms
terms_as name [] = None
terms_as name (h ∷ hs) = if nat_eq name h.name then Some h.token else terms_as name hs

abbrev pub terms_without : ℕ → List HeldTerms → List HeldTerms
terms_without name hs = filter (λ (h : HeldTerms). not (nat_eq name h.name)) hs

abbrev pub terms_revalued : ℕ → Tree → List HeldTerms → List HeldTerms
terms_revalued name t hs =
    map (λ (h : HeldTerms). if nat_eq name h.name then record h { token = record h.token { value = t } } else h) hs

-- ---- an exchange of terms under way

-- the names of tokens and the new names that are left, the variables with the names of their tokens, the hand without
-- what was taken, and the new tokens
pub record TermsUnderWay : Type 0 where
  pub tokens : List ℕ
  pub given : List ℕ
  pub variables : List (ℕ × ℕ)
  pub hand : List HeldTerms
  pub entered : List HeldTerms

-- a formula that never holds, and that the token is of this field, with this key and this value
abbrev pub never : Formula
never = Eq (Lit (pos 0)) (Lit (pos 1))

abbrev pub is_token : ℕ → Tree → Tree → Option TokenTerms → List Formula
is_token f key value None = never ∷ []
is_token f key value (Some t) = Eq (Lit (pos f)) (Lit (pos t.field)) ∷ Eq t.key key ∷ Eq t.value value ∷ []

abbrev pub place_dues : (ℕ → Tree) → ℕ → PlaceTree → TermsUnderWay → List Formula
place_dues names f p d =
    is_token f (replaced names (key_of p)) (replaced names (value_of p)) (terms_as (next_name d.tokens) d.hand)

-- What has to hold at a statement: a require; that the token that it names has the key and the value of its place.
abbrev pub dues_at : (ℕ → Tree) → ActTree → TermsUnderWay → List Formula
dues_at names (acts.Require form) d = replaced_in names form ∷ []
dues_at names (acts.Remove f p) d = place_dues names f p d
dues_at names (acts.Have f p) d = place_dues names f p d
dues_at names (acts.Deposit f p) d = place_dues names perm p d
dues_at names (acts.Init f t) d = []
dues_at names (acts.Assert form) d = []
dues_at names (acts.Update f t) d = []
dues_at names (acts.HaveVariable f) d = []
dues_at names (acts.Add f p) d = []
dues_at names (acts.Withdraw f p) d = []
dues_at names (acts.Guard f p) d = []

abbrev pub terms_taken : TermsUnderWay → TermsUnderWay
terms_taken d = record d { tokens = later_names d.tokens; hand = terms_without (next_name d.tokens) d.hand }

abbrev pub terms_read : TermsUnderWay → TermsUnderWay
terms_read d = record d { tokens = later_names d.tokens }

abbrev pub terms_given : ℕ → Tree → Tree → TermsUnderWay → TermsUnderWay
terms_given f key value d = record d {
  given = later_names d.given;
  entered =
      d.entered ++ record { name = next_name d.given; token = record { field = f; key = key; value = value } } ∷ [];
}

abbrev pub terms_changed : ℕ → Tree → TermsUnderWay → TermsUnderWay
terms_changed f t d = of (token_name f d.variables) where
  of : Option ℕ → TermsUnderWay
  of None = d
  of (Some name) = record d { hand = terms_revalued name t d.hand; entered = terms_revalued name t d.entered }

abbrev pub terms_started : Strategy → ℕ → Tree → TermsUnderWay → TermsUnderWay
terms_started Variable f t d = terms_changed f t d
terms_started Count f t d = terms_given f zero t d
terms_started PersistentCount f t d = terms_given f zero t d
terms_started s f t d = d

abbrev pub terms_updated : Strategy → ℕ → Tree → TermsUnderWay → TermsUnderWay
terms_updated Variable f t d = terms_changed f t d
terms_updated s f t d = d

-- what a statement leaves
abbrev pub terms_left : List Field → (ℕ → Tree) → ActTree → TermsUnderWay → TermsUnderWay
terms_left fs names (acts.Require form) d = d
terms_left fs names (acts.Assert form) d = d
terms_left fs names (acts.HaveVariable f) d = d
terms_left fs names (acts.Init f t) d = terms_started (strategy_at fs f) f (replaced names t) d
terms_left fs names (acts.Update f t) d = terms_updated (strategy_at fs f) f (replaced names t) d
terms_left fs names (acts.Remove f p) d = terms_taken d
terms_left fs names (acts.Have f p) d = terms_read d
terms_left fs names (acts.Add f p) d = terms_given f (replaced names (key_of p)) (replaced names (value_of p)) d
terms_left fs names (acts.Deposit f p) d = terms_taken d
terms_left fs names (acts.Withdraw f p) d = terms_given perm (replaced names (key_of p)) (replaced names (value_of p)) d
terms_left fs names (acts.Guard f p) d = d

-- statement by statement
abbrev pub all_terms_left : List Field → (ℕ → Tree) → List StepTree → TermsUnderWay → TermsUnderWay
all_terms_left fs names [] d = d
all_terms_left fs names (s ∷ ss) d = all_terms_left fs names ss (terms_left fs names s.act d)

abbrev pub all_dues : List Field → (ℕ → Tree) → List StepTree → TermsUnderWay → List Formula
all_dues fs names [] d = []
all_dues fs names (s ∷ ss) d = dues_at names s.act d ++ all_dues fs names ss (terms_left fs names s.act d)

-- ---- their values

-- an exchange under way has the values of these terms
pub record HasTerms (v : Valuation) (d : TermsUnderWay) (x : Exchanging) : Type 0 where
  pub tokens : x.tokens ≡ d.tokens
  pub given : x.given ≡ d.given
  pub variables : x.variables ≡ d.variables
  pub hand : x.hand ≡ hand_under v d.hand
  pub entered : x.entered ≡ hand_under v d.entered

-- the stored objects that statements look for are there, with the keys and the values of their places
abbrev pub IsStoredThere : Valuation → ActTree → Exchanging → Type 0
IsStoredThere v (acts.Withdraw f p) x = stored_at f (key_under v p) x.kept.stored ≡ Some (value_under v p)
IsStoredThere v (acts.Guard f p) x = stored_at f (key_under v p) x.kept.stored ≡ Some (value_under v p)
IsStoredThere v (acts.Require form) x = Unit {0}
IsStoredThere v (acts.Init f t) x = Unit {0}
IsStoredThere v (acts.Assert form) x = Unit {0}
IsStoredThere v (acts.Update f t) x = Unit {0}
IsStoredThere v (acts.HaveVariable f) x = Unit {0}
IsStoredThere v (acts.Add f p) x = Unit {0}
IsStoredThere v (acts.Remove f p) x = Unit {0}
IsStoredThere v (acts.Have f p) x = Unit {0}
IsStoredThere v (acts.Deposit f p) x = Unit {0}

abbrev pub AreStoredThere : List Field → Valuation → List StepTree → Exchanging → Type 0
AreStoredThere fs v [] x = Unit {0}
AreStoredThere fs v (s ∷ ss) x = IsStoredThere v s.act x × AreStoredThere fs v ss (left_under fs v s.act x)

-- all that a statement reads has the same value under two valuations
abbrev pub ReadsSame : List Field → Valuation → Valuation → ActTree → Type 0
ReadsSame fs v w (acts.Require form) = truth v form ≡ truth w form
ReadsSame fs v w (acts.Init f t) = value_in v (sort_of (strategy_at fs f)) t ≡ value_in w (sort_of (strategy_at fs f)) t
ReadsSame fs v w (acts.Update f t) =
    value_in v (sort_of (strategy_at fs f)) t ≡ value_in w (sort_of (strategy_at fs f)) t
ReadsSame fs v w (acts.Assert form) = Unit {0}
ReadsSame fs v w (acts.HaveVariable f) = Unit {0}
ReadsSame fs v w (acts.Add f p) = (key_under v p ≡ key_under w p) × (value_under v p ≡ value_under w p)
ReadsSame fs v w (acts.Remove f p) = (key_under v p ≡ key_under w p) × (value_under v p ≡ value_under w p)
ReadsSame fs v w (acts.Have f p) = (key_under v p ≡ key_under w p) × (value_under v p ≡ value_under w p)
ReadsSame fs v w (acts.Deposit f p) = (key_under v p ≡ key_under w p) × (value_under v p ≡ value_under w p)
ReadsSame fs v w (acts.Withdraw f p) = (key_under v p ≡ key_under w p) × (value_under v p ≡ value_under w p)
ReadsSame fs v w (acts.Guard f p) = (key_under v p ≡ key_under w p) × (value_under v p ≡ value_under w p)

-- so at each statement
abbrev pub AllReadSame : List Field → Valuation → Valuation → List StepTree → Type 0
AllReadSame fs v w ss = AllByRecursion (λ (step : StepTree). ReadsSame fs v w step.act) ss

-- ---- the laws

-- Where the dues of an exchange of terms hold under a valuation, each statement finds what it asks, and what is left
-- has the values of the terms that are left.
abbrev pub TermsAreExchanged : Type 0
TermsAreExchanged = (fs : List Field) (names : ℕ → Tree) (v : Valuation) (ss : List StepTree) (d : TermsUnderWay) (x : Exchanging)
    → HasTerms v d x → AllByRecursion (Holds v) (all_dues fs names ss d) → AreStoredThere fs (with_terms names v) ss x
    → AreThere fs (with_terms names v) ss x
    × HasTerms v (all_terms_left fs names ss d) (all_left fs (with_terms names v) ss x)

-- So under what the theorem of sharding asks: where the terms that stand for the operation's names have, for all that
-- its statements read, the values of the state, of the arguments and of this list of bound values, the exchange
-- succeeds, answers these, and leaves the values of the terms.
abbrev pub ExchangesOfTermsFollow : Type 0
ExchangesOfTermsFollow = (m : MachineTree) → IsProved m → (o : OperationTree) → Contains m.ops o → (IsInit o → ⊥)
    → (args : List ℤ) → length args ≡ length o.params
    → (tokens given : List ℕ) (hand : List Held) → AreNames m.fields o tokens given hand
    → (others : List Token) (kept : Kept) → AreSoundShards m.fields (tokens_in hand ++ others) kept
    → (s : State) → join_of m.fields (tokens_in hand ++ others) kept ≡ Some s → IsReached m s
    → (whole : State) → (whole ≡ s) ⊎ (is_plain m.fields o ≡ true)
    → (bound : List ℤ) → length bound ≡ length (bound_names o.steps)
    → (begun : Exchanging)
    → use_variables (variable_slots m.fields o) (beginning m.fields o args tokens given whole hand kept) ≡ Ok begun
    → (names : ℕ → Tree) (v : Valuation)
    → AllReadSame m.fields (with_terms names v) (valuation_at m.fields s o args bound) o.steps
    → (d : TermsUnderWay) → HasTerms v d begun → AllByRecursion (Holds v) (all_dues m.fields names o.steps d)
    → AreStoredThere m.fields (with_terms names v) o.steps begun
    → (exchange_of m.fields o args tokens given whole hand kept
    ≡ Ok (ended (all_left m.fields (with_terms names v) o.steps begun)))
    × HasTerms v (all_terms_left m.fields names o.steps d) (all_left m.fields (with_terms names v) o.steps begun)
    × ((ended (all_left m.fields (with_terms names v) o.steps begun)).bound ≡ bound)

-- And nothing has to be known beforehand of what it binds or of what is stored: where the terms that stand for the
-- operation's names have, for all that its statements read, the values of the state, of the arguments and of what is
-- bound on the way, and the dues hold, each statement finds what it asks, a stored object too, the exchange succeeds,
-- answers what is bound on the way, and leaves the values of the terms.
abbrev pub ExchangesOfTermsSucceed : Type 0
ExchangesOfTermsSucceed = (m : MachineTree) → IsProved m → (o : OperationTree) → Contains m.ops o → (IsInit o → ⊥)
    → (args : List ℤ) → length args ≡ length o.params
    → (tokens given : List ℕ) (hand : List Held) → AreNames m.fields o tokens given hand
    → (others : List Token) (kept : Kept) → AreSoundShards m.fields (tokens_in hand ++ others) kept
    → (s : State) → join_of m.fields (tokens_in hand ++ others) kept ≡ Some s → IsReached m s
    → (whole : State) → (whole ≡ s) ⊎ (is_plain m.fields o ≡ true)
    → (begun : Exchanging)
    → use_variables (variable_slots m.fields o) (beginning m.fields o args tokens given whole hand kept) ≡ Ok begun
    → (names : ℕ → Tree) (v : Valuation)
    → AllReadSame m.fields (with_terms names v) (valuation_at m.fields s o args (values_bound m.fields o.steps begun)) o.steps
    → (d : TermsUnderWay) → HasTerms v d begun → AllByRecursion (Holds v) (all_dues m.fields names o.steps d)
    → AreThere m.fields (with_terms names v) o.steps begun
    × (exchange_of m.fields o args tokens given whole hand kept
    ≡ Ok (ended (all_left m.fields (with_terms names v) o.steps begun)))
    × HasTerms v (all_terms_left m.fields names o.steps d) (all_left m.fields (with_terms names v) o.steps begun)
    × ((ended (all_left m.fields (with_terms names v) o.steps begun)).bound ≡ values_bound m.fields o.steps begun)
