-- A whole exchange over what its code has at hand.
use Rattle.std.proofs.Common.{◌≡◌, ℕ, ℤ, Bool, List, ◌++◌, length, map, filter_map, Ok, sym, ap, subst, ◌∙◌}
use Rattle.std.specs.List.{range_with_len}
use Rattle.sync_terms.specs.declared.nodes.Sym.{Sym}
use Rattle.sync_machine.specs.declared.fields.Field.{Field}
use Rattle.sync_machine.specs.declared.machine.Machine.{Machine}
use Rattle.sync_machine.specs.declared.machine.Operation.{Operation}
use Rattle.sync_machine.specs.declared.machine.Step.{Step}
use Rattle.sync_machine.specs.Views.{operation_tree, steps_tree}
use Rattle.sync_join.specs.declared.tokens.Token.{Token}
use Rattle.sync_join.specs.declared.tokens.Rest.{Rest}
use Rattle.sync_join.specs.declared.values.Value.{Value}
use Rattle.sync_join.specs.Views.{value_tree, kept_of}
use Rattle.sync_rules.specs.Slots.{SlotTree, field_slot}
use Rattle.sync_exchange.specs.declared.hands.Held.{Held}
use Rattle.sync_exchange.specs.declared.hands.XStop.{XStop}
use Rattle.sync_exchange.specs.declared.works.Work.{Work}
use Rattle.sync_exchange.specs.Exchange.{Exchanging, Exchanged, names_before, exchange_in}
use Rattle.sync_exchange.specs.Outcomes.{Stops}
use Rattle.sync_exchange.specs.Works.{Base, under_way, fresh, goes_through, meaning_of}
use Rattle.sync_exchange.proofs.Asking.{stops-is}
use Rattle.sync_exchange.proofs.Finishing.{begun, exchange-stop, exchange-done}

module _ (fits : ℤ → Bool) (m : Machine) (op : Operation) (args : List ℤ) (tokens given : List ℕ) (whole : List Value) (hand : List Held) (rest : Rest)
    (fs : List Field) (F : fs ≡ m.fields) (rs : List Value) (R : rs ≡ rest.records) (sd : List Token) (S : sd ≡ rest.stored) (ps : List Sym) (P : ps ≡ op.params)
    (tk gv : List ℕ) (K : tk ≡ tokens) (G : gv ≡ given) (ss : List Step) (Z : ss ≡ op.steps) (w : Work) (W : w ≡ fresh hand rest.stored) where
  base : Base
  base = record { names = meaning_of fs ps args rs sd whole; tokens = tk; given = gv; records = map value_tree rs }

  slots : List Step → List SlotTree
  slots xs = filter_map (field_slot m.fields (steps_tree m.terms xs)) (range_with_len 0 (length m.fields))

  names-are : meaning_of fs ps args rs sd whole ≡ names_before m.fields (operation_tree m.terms op) args (kept_of rest) (map value_tree whole)
  names-are = λ i. meaning_of (F i) (P i) args (R i) (S i) whole

  begins : under_way base w ≡ begun (meaning_of fs ps args rs sd whole) tokens given hand (kept_of rest)
  unfolding base
  begins = ap (under_way base) W ∙ (λ i. begun (meaning_of fs ps args rs sd whole) (K i) (G i) hand (record { records = map value_tree (R i); stored = rest.stored }))

  same-way : goes_through fits fs (slots ss) (steps_tree m.terms ss) (under_way base w) ≡ goes_through fits m.fields (slots op.steps) (steps_tree m.terms op.steps) (under_way base w)
  same-way i = goes_through fits (F i) (slots (Z i)) (steps_tree m.terms (Z i)) (under_way base w)

  pub run-stop : (stop : XStop) → Stops stop (goes_through fits fs (filter_map (field_slot m.fields (steps_tree m.terms ss)) (range_with_len 0 (length m.fields))) (steps_tree m.terms ss) (under_way (record { names = meaning_of fs ps args rs sd whole; tokens = tk; given = gv; records = map value_tree rs }) w))
      → Stops stop (exchange_in fits m.fields (operation_tree m.terms op) args tokens given (map value_tree whole) hand (kept_of rest))
  unfolding base slots
  run-stop stop h =
      exchange-stop fits m.fields (operation_tree m.terms op) args tokens given (map value_tree whole) hand (kept_of rest) (meaning_of fs ps args rs sd whole) names-are stop (under_way base w) begins
      (stops-is stop (goes_through fits fs (slots ss) (steps_tree m.terms ss) (under_way base w)) (goes_through fits m.fields (slots op.steps) (steps_tree m.terms op.steps) (under_way base w)) same-way h)

  pub run-done : (y : Exchanging) (z : Exchanged) → goes_through fits fs (filter_map (field_slot m.fields (steps_tree m.terms ss)) (range_with_len 0 (length m.fields))) (steps_tree m.terms ss) (under_way (record { names = meaning_of fs ps args rs sd whole; tokens = tk; given = gv; records = map value_tree rs }) w) ≡ Ok y
      → record { hand = y.hand ++ y.entered; kept = y.kept; bound = y.bound } ≡ z
      → exchange_in fits m.fields (operation_tree m.terms op) args tokens given (map value_tree whole) hand (kept_of rest) ≡ Ok z
  unfolding base slots
  run-done y z h e =
      exchange-done fits m.fields (operation_tree m.terms op) args tokens given (map value_tree whole) hand (kept_of rest) (meaning_of fs ps args rs sd whole) names-are (under_way base w) y z begins (sym same-way ∙ h) e
