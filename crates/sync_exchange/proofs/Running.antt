-- Slots and statements one after another.
use Rattle.std.proofs.Common.{◌≡◌, ℕ, ◌+◌, ◌<◌, ℤ, Bool, List, [], length, map, drop, get_or, Ok, refl, sym, ap, ◌∙◌, nat_lt, slice_index_or, if◌then◌else◌}
use Rattle.std.proofs.lemmas.List.{at_drop_more}
use Rattle.sync_base.specs.Outcome.{◌>>=◌}
use Rattle.sync_machine.specs.declared.fields.Field.{Field}
use Rattle.sync_machine.specs.Machines.{StepTree}
use Rattle.sync_rules.specs.Slots.{SlotTree}
use Rattle.sync_exchange.specs.declared.hands.XStop.{XStop}
use Rattle.sync_exchange.specs.Exchange.{Exchanging, Answer, use_variable, use_variables, does, does_all}
use Rattle.sync_exchange.specs.Outcomes.{Stops}
use Rattle.sync_exchange.proofs.Asking.{stops-bind, stops-is}

-- ---- the slots of variables

module _ {S : Type 0} (view : S → SlotTree) (xs : List S) (i : ℕ) (d : S) (x : Exchanging) (h : i < length xs) where
  here-slot : use_variables (map view (drop i xs)) x ≡ (use_variable (view (get_or xs i d)).field (view (get_or xs i d)).role x >>= use_variables (map view (drop (i + 1) xs)))
  here-slot = at_drop_more (λ ss. use_variables (map view ss) x) xs i d h

  pub slots-more : (y : Exchanging) (whole : Answer) → use_variable (view (get_or xs i d)).field (view (get_or xs i d)).role x ≡ Ok y → use_variables (map view (drop i xs)) x ≡ whole → use_variables (map view (drop (i + 1) xs)) y ≡ whole
  slots-more y whole e inv = sym (here-slot ∙ ap (λ r. r >>= use_variables (map view (drop (i + 1) xs))) e) ∙ inv

  pub slots-stop : (stop : XStop) (whole : Answer) → Stops stop (use_variable (view (get_or xs i d)).field (view (get_or xs i d)).role x) → use_variables (map view (drop i xs)) x ≡ whole → Stops stop whole
  slots-stop stop whole s inv =
      stops-is stop (use_variable (view (get_or xs i d)).field (view (get_or xs i d)).role x >>= use_variables (map view (drop (i + 1) xs))) whole (sym here-slot ∙ inv)
      (stops-bind stop (use_variable (view (get_or xs i d)).field (view (get_or xs i d)).role x) (use_variables (map view (drop (i + 1) xs))) s)

-- ---- statements

module _ {S : Type 0} (fits : ℤ → Bool) (fs : List Field) (view : S → StepTree) (xs : List S) (i : ℕ) (d : S) (x : Exchanging) (h : i < length xs) where
  here-step : does_all fits fs (map view (drop i xs)) x ≡ (does fits fs (view (get_or xs i d)) x >>= does_all fits fs (map view (drop (i + 1) xs)))
  here-step = at_drop_more (λ ss. does_all fits fs (map view ss) x) xs i d h

  pub steps-more : (y : Exchanging) (whole : Answer) → does fits fs (view (get_or xs i d)) x ≡ Ok y → does_all fits fs (map view (drop i xs)) x ≡ whole → does_all fits fs (map view (drop (i + 1) xs)) y ≡ whole
  steps-more y whole e inv = sym (here-step ∙ ap (λ r. r >>= does_all fits fs (map view (drop (i + 1) xs))) e) ∙ inv

  pub steps-stop : (stop : XStop) (whole : Answer) → Stops stop (does fits fs (view (get_or xs i d)) x) → does_all fits fs (map view (drop i xs)) x ≡ whole → Stops stop whole
  steps-stop stop whole s inv =
      stops-is stop (does fits fs (view (get_or xs i d)) x >>= does_all fits fs (map view (drop (i + 1) xs))) whole (sym here-step ∙ inv)
      (stops-bind stop (does fits fs (view (get_or xs i d)) x) (does_all fits fs (map view (drop (i + 1) xs))) s)
