-- What statements ask, step by step.
use Rattle.std.proofs.Common.{◌≡◌, ℕ, ℤ, Bool, true, false, ◌&&◌, Option, Some, None, Result, Ok, Err, refl, sym, ap, ◌∙◌}
use Rattle.sync_base.specs.Outcome.{◌>>=◌}
use Rattle.sync_terms.specs.Trees.{Tree}
use Rattle.sync_machine.specs.Machines.{PatternTree, Bind, Term, PlaceTree}
use Rattle.sync_machine.specs.Statements.{key_of}
use Rattle.sync_join.specs.declared.tokens.Token.{Token}
use Rattle.sync_exchange_values.specs.Fitting.{number_fits}
use Rattle.sync_exchange.specs.declared.hands.XStop.{XStop}
use Rattle.sync_exchange.specs.declared.hands.XStop.TheVariants.{Missing, Differs, RequireFalse, StoreEmpty, Width, Memory}
use Rattle.sync_exchange.specs.Exchange.{Exchanging, Answer, unless, named, is_at_place, is_asked, key_at, amount_at, place_fits, asked_token, asked_object, stored_at}
use Rattle.sync_exchange.specs.Outcomes.{Stops, Stopped}
use Rattle.sync_exchange.specs.Works.{amount_fits, is_wanted}

-- ---- places

pub place-is : (fits : ℤ → Bool) (k : Option Tree) (v : Option PatternTree) (x : Exchanging) → place_fits fits (record { key = k; value = v }) x ≡ (number_fits fits x.names (key_of (record { key = k; value = v })) && amount_fits fits x.names v)
place-is fits k None x = refl
place-is fits k (Some (Bind y)) x = refl
place-is fits k (Some (Term t)) x = refl

pub wanted-is : (k : Option Tree) (v : Option PatternTree) (x : Exchanging) (n : ℤ) → is_asked (record { key = k; value = v }) n x ≡ is_wanted v (amount_at (record { key = k; value = v }) x) n
wanted-is k None x n = refl
wanted-is k (Some (Bind y)) x n = refl
wanted-is k (Some (Term t)) x n = refl

-- ---- stops

pub both-true : (a b : Bool) → a ≡ true → b ≡ true → (a && b) ≡ true
both-true a b p q = ap (λ c. c && b) p ∙ q

pub first-stop : (stop : XStop) (a b : Bool) → Stopped stop a → Stopped stop (a && b)
first-stop Width a b h = ap (λ c. c && b) h
first-stop Memory a b h = tt
first-stop (Missing n) a b h = absurd h
first-stop (Differs n) a b h = absurd h
first-stop (RequireFalse n) a b h = absurd h
first-stop (StoreEmpty n) a b h = absurd h

pub wide-stop : (stop : XStop) (fits : Bool) (answer : Answer) → Stopped stop fits → Stops stop (unless Width fits answer)
wide-stop Width fits answer h = ap (λ b. unless Width b answer) h
wide-stop Memory fits answer h = tt
wide-stop (Missing n) fits answer h = absurd h
wide-stop (Differs n) fits answer h = absurd h
wide-stop (RequireFalse n) fits answer h = absurd h
wide-stop (StoreEmpty n) fits answer h = absurd h

-- what stops first stops the whole
pub stops-bind : {A B : Type 0} (stop : XStop) (r : Result A XStop) (f : A → Result B XStop) → Stops stop r → Stops stop (r >>= f)
stops-bind Width r f h = ap (λ q. q >>= f) h
stops-bind Memory r f h = tt
stops-bind (Missing n) r f h = ap (λ q. q >>= f) h
stops-bind (Differs n) r f h = ap (λ q. q >>= f) h
stops-bind (RequireFalse n) r f h = ap (λ q. q >>= f) h
stops-bind (StoreEmpty n) r f h = ap (λ q. q >>= f) h

pub stops-is : {A : Type 0} (stop : XStop) (r s : Result A XStop) → r ≡ s → Stops stop r → Stops stop s
stops-is Width r s e h = sym e ∙ h
stops-is Memory r s e h = tt
stops-is (Missing n) r s e h = sym e ∙ h
stops-is (Differs n) r s e h = sym e ∙ h
stops-is (RequireFalse n) r s e h = sym e ∙ h
stops-is (StoreEmpty n) r s e h = sym e ∙ h

-- ---- tokens that are asked for

module _ (fits : ℤ → Bool) (f : ℕ) (p : PlaceTree) (x : Exchanging) (next : Token → Exchanging) where
  looked : Token → Answer
  looked t = unless Width (place_fits fits p x) (unless (Differs x.slot) (is_at_place f (key_at p x) t && is_asked p t.value x) (Ok (next t)))

  pub asked-missing : (stop : XStop) → Stops stop (named x) → Stops stop (asked_token fits f p x next)
  unfolding looked
  asked-missing stop h = stops-bind stop (named x) looked h

  found : (t : Token) → named x ≡ Ok t → asked_token fits f p x next ≡ looked t
  unfolding looked
  found t e = ap (λ r. r >>= looked) e

  pub asked-wide : (stop : XStop) (t : Token) → named x ≡ Ok t → Stopped stop (place_fits fits p x) → Stops stop (asked_token fits f p x next)
  unfolding looked
  asked-wide stop t e h = stops-is stop (looked t) (asked_token fits f p x next) (sym (found t e)) (wide-stop stop (place_fits fits p x) _ h)

  pub asked-differs : (t : Token) → named x ≡ Ok t → place_fits fits p x ≡ true → (is_at_place f (key_at p x) t && is_asked p t.value x) ≡ false → asked_token fits f p x next ≡ Err (Differs x.slot)
  unfolding looked
  asked-differs t e w h = found t e ∙ ap (λ b. unless Width b (unless (Differs x.slot) (is_at_place f (key_at p x) t && is_asked p t.value x) (Ok (next t)))) w ∙ ap (λ b. unless (Differs x.slot) b (Ok (next t))) h

  pub asked-found : (t : Token) → named x ≡ Ok t → place_fits fits p x ≡ true → (is_at_place f (key_at p x) t && is_asked p t.value x) ≡ true → asked_token fits f p x next ≡ Ok (next t)
  unfolding looked
  asked-found t e w h = found t e ∙ ap (λ b. unless Width b (unless (Differs x.slot) (is_at_place f (key_at p x) t && is_asked p t.value x) (Ok (next t)))) w ∙ ap (λ b. unless (Differs x.slot) b (Ok (next t))) h

-- ---- objects that are asked for

module _ (fits : ℤ → Bool) (f : ℕ) (p : PlaceTree) (x : Exchanging) (next : ℤ → Exchanging) where
  pub object-wide : (stop : XStop) → Stopped stop (place_fits fits p x) → Stops stop (asked_object fits f p x next)
  object-wide stop h = wide-stop stop (place_fits fits p x) _ h

  pub object-empty : place_fits fits p x ≡ true → stored_at f (key_at p x) x.kept.stored ≡ None → asked_object fits f p x next ≡ Err (StoreEmpty x.slot)
  object-empty w e = rw (w, e) refl

  pub object-differs : (n : ℤ) → place_fits fits p x ≡ true → stored_at f (key_at p x) x.kept.stored ≡ Some n → is_asked p n x ≡ false → asked_object fits f p x next ≡ Err (Differs x.slot)
  object-differs n w e h = rw (w, e) (ap (λ b. unless (Differs x.slot) b (Ok (next n))) h)

  pub object-found : (n : ℤ) → place_fits fits p x ≡ true → stored_at f (key_at p x) x.kept.stored ≡ Some n → is_asked p n x ≡ true → asked_object fits f p x next ≡ Ok (next n)
  object-found n w e h = rw (w, e) (ap (λ b. unless (Differs x.slot) b (Ok (next n))) h)
