-- A whole exchange, from its first slot to what it leaves.
use Rattle.std.proofs.Common.{◌≡◌, ℕ, zero, suc, ℤ, Bool, List, [], ◌∷◌, ◌++◌, map, slice_get, Some, Ok, sym, ap, ◌∙◌, slice_index_or}
use Rattle.sync_base.specs.Outcome.{◌>>=◌}
use Rattle.sync_terms.specs.Values.{Valuation}
use Rattle.sync_machine.specs.declared.fields.Field.{Field}
use Rattle.sync_machine.specs.Machines.{StepTree, OperationTree}
use Rattle.sync_machine.specs.States.{State}
use Rattle.sync_join.specs.Shards.{Kept}
use Rattle.sync_rules.specs.Slots.{SlotTree}
use Rattle.sync_exchange.specs.declared.hands.Held.{Held}
use Rattle.sync_exchange.specs.declared.hands.XStop.{XStop}
use Rattle.sync_exchange.specs.declared.hands.XStop.TheVariants.{Missing, Differs, RequireFalse, StoreEmpty, Width, Memory}
use Rattle.sync_exchange.specs.Exchange.{Exchanging, Exchanged, Answer, outcome, names_before, variable_slots, use_variables, does_all, exchange_in}
use Rattle.sync_exchange.specs.Outcomes.{Stops}
use Rattle.sync_exchange.specs.Works.{goes_through}
use Rattle.sync_exchange.proofs.Asking.{stops-bind, stops-is}

abbrev pub begun : Valuation → List ℕ → List ℕ → List Held → Kept → Exchanging
begun v tokens given hand kept = record { names = v; slot = 0; tokens = tokens; given = given; variables = []; hand = hand; entered = []; kept = kept; bound = [] }

pub stops-outcome : (stop : XStop) (r : Answer) → Stops stop r → Stops stop (outcome r)
stops-outcome Width r h = ap outcome h
stops-outcome Memory r h = tt
stops-outcome (Missing n) r h = ap outcome h
stops-outcome (Differs n) r h = ap outcome h
stops-outcome (RequireFalse n) r h = ap outcome h
stops-outcome (StoreEmpty n) r h = ap outcome h

module _ (fits : ℤ → Bool) (fs : List Field) (o : OperationTree) (args : List ℤ) (tokens given : List ℕ) (whole : State) (hand : List Held) (kept : Kept) (v : Valuation) (names : v ≡ names_before fs o args kept whole) where
  through : exchange_in fits fs o args tokens given whole hand kept ≡ outcome (goes_through fits fs (variable_slots fs o) o.steps (begun v tokens given hand kept))
  through = ap (λ u. outcome (goes_through fits fs (variable_slots fs o) o.steps (begun u tokens given hand kept))) (sym names)

  pub exchange-stop : (stop : XStop) (x : Exchanging) → x ≡ begun v tokens given hand kept → Stops stop (goes_through fits fs (variable_slots fs o) o.steps x) → Stops stop (exchange_in fits fs o args tokens given whole hand kept)
  exchange-stop stop x e h =
      stops-is stop (outcome (goes_through fits fs (variable_slots fs o) o.steps x)) (exchange_in fits fs o args tokens given whole hand kept)
      (ap (λ y. outcome (goes_through fits fs (variable_slots fs o) o.steps y)) e ∙ sym through)
      (stops-outcome stop (goes_through fits fs (variable_slots fs o) o.steps x) h)

  pub exchange-done : (x y : Exchanging) (z : Exchanged) → x ≡ begun v tokens given hand kept → goes_through fits fs (variable_slots fs o) o.steps x ≡ Ok y → record { hand = y.hand ++ y.entered; kept = y.kept; bound = y.bound } ≡ z → exchange_in fits fs o args tokens given whole hand kept ≡ Ok z
  exchange-done x y z e h ez = through ∙ ap (λ w. outcome (goes_through fits fs (variable_slots fs o) o.steps w)) (sym e) ∙ ap outcome h ∙ ap Ok ez

-- ---- the slots of variables and then the statements

module _ (fits : ℤ → Bool) (fs : List Field) (slots listed : List SlotTree) (same : listed ≡ slots) (steps : List StepTree) (x : Exchanging) where
  pub first-stop : (stop : XStop) → Stops stop (use_variables listed x) → Stops stop (goes_through fits fs slots steps x)
  first-stop stop h = stops-is stop (goes_through fits fs listed steps x) (goes_through fits fs slots steps x) (ap (λ ss. goes_through fits fs ss steps x) same) (stops-bind stop (use_variables listed x) (does_all fits fs steps) h)

  then-is : (y : Exchanging) → use_variables listed x ≡ Ok y → does_all fits fs steps y ≡ goes_through fits fs slots steps x
  then-is y h = sym (ap (λ ss. use_variables ss x >>= does_all fits fs steps) (sym same) ∙ ap (λ r. r >>= does_all fits fs steps) h)

  pub later-stop : (stop : XStop) (y : Exchanging) → use_variables listed x ≡ Ok y → Stops stop (does_all fits fs steps y) → Stops stop (goes_through fits fs slots steps x)
  later-stop stop y h s = stops-is stop (does_all fits fs steps y) (goes_through fits fs slots steps x) (then-is y h) s

  pub later-done : (y z : Exchanging) → use_variables listed x ≡ Ok y → does_all fits fs steps y ≡ Ok z → goes_through fits fs slots steps x ≡ Ok z
  later-done y z h k = sym (then-is y h) ∙ k

-- ---- the operation of a number

pub get-map : {A B : Type 0} (g : A → B) (xs : List A) (i : ℕ) (d : A) (b : B) → slice_get (map g xs) i ≡ Some b → b ≡ g (slice_index_or xs i d)
get-map g [] i d b e = absurd (none i b e) where
  none : {B : Type 0} (i : ℕ) (b : B) → slice_get [] i ≡ Some b → ⊥
  none zero b e = cc
  none (suc i) b e = cc
get-map g (x ∷ xs) zero d b e = cc
get-map g (x ∷ xs) (suc i) d b e = get-map g xs i d b e
