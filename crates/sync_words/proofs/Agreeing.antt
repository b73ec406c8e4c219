-- Laws of seats and lists of entries.
use Rattle.std.proofs.Common.{◌≡◌, ℕ, ◌<◌, Bool, true, false, cond, ◌&&◌, ◌||◌, eqb, List, [], ◌∷◌, length, filter, refl, ap, ◌∙◌, arith}
use Rattle.std.proofs.lemmas.Bool.{eq-eqb, false≢true}
use Rattle.sync_words.specs.declared.entries.Entry.{Entry}
use Rattle.sync_words.specs.declared.rule.View.{View}
use Rattle.sync_words.specs.Entries.{has}
use Rattle.sync_words.specs.Views.{IsListOf}
use Rattle.sync_words.specs.Agreeing.{HasLogsOf, AreSome}
use Rattle.sync_words.proofs.Lists.{has-filter}
use Rattle.sync_words.proofs.Fitting.{log_is}

pub logs-agree : (v : View) (es : List Entry) → IsListOf es v → HasLogsOf v es
logs-agree v es list t = log_is es v list.fits t

-- the first number is there, and so are the others
has-here : (n : ℕ) (numbers : List ℕ) → has (n ∷ numbers) n ≡ true
has-here n numbers = ap (λ b. b || has numbers n) (eq-eqb n n refl)

or_true : (b : Bool) → (b || true) ≡ true
or_true true = refl
or_true false = refl

has-later : (n t : ℕ) (numbers : List ℕ) → has numbers t ≡ true → has (n ∷ numbers) t ≡ true
has-later n t numbers h = ap (λ b. eqb n t || b) h ∙ or_true (eqb n t)

abbrev Passes : (ℕ → Bool) → List ℕ → Type 0
Passes test numbers = (t : ℕ) × (has numbers t ≡ true) × (test t ≡ true)

-- one more number, where the rest `more` are those that pass
one-passes : (test : ℕ → Bool) (n : ℕ) (more numbers : List ℕ) → (0 < length more → Passes test numbers) → (b : Bool) → test n ≡ b → 0 < length (cond b (n ∷ more) more) → Passes test (n ∷ numbers)
one-passes test n more numbers rest true e some = (n, has-here n numbers, e)
one-passes test n more numbers rest false e some = let r = rest some in (r.0, has-later n r.0 numbers r.1, r.2)

some-passes : (test : ℕ → Bool) (numbers : List ℕ) → 0 < length (filter test numbers) → Passes test numbers
some-passes test [] some = absurd (omega arith)
some-passes test (n ∷ numbers) some = one-passes test n (filter test numbers) numbers (some-passes test numbers) (test n) refl some

some-there : (numbers : List ℕ) (t : ℕ) → has numbers t ≡ true → 0 < length numbers
some-there [] t h = absurd (false≢true h)
some-there (n ∷ numbers) t h = omega arith

pub numbers-agree : (test : ℕ → Bool) (numbers : List ℕ) → AreSome test numbers
numbers-agree test numbers =
    (some-passes test numbers, λ x. some-there (filter test numbers) x.0 (has-filter test numbers x.0 ∙ ap (λ b. b && has numbers x.0) x.2 ∙ x.1))
