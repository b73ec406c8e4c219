-- What statements do, once what they ask is known.
use Rattle.std.proofs.Common.{◌≡◌, ℕ, ℤ, pos, Bool, true, false, List, [], ◌∷◌, ◌++◌, Ok, Err, refl, sym, ap, ◌∙◌}
use Rattle.sync_base.specs.Outcome.{◌>>=◌}
use Rattle.sync_terms.specs.Trees.{Tree, Formula}
use Rattle.sync_terms.specs.Values.{truth}
use Rattle.sync_machine.specs.declared.fields.Field.{Field}
use Rattle.sync_machine.specs.Machines.{PlaceTree}
use Rattle.sync_machine.specs.Machines as acts
use Rattle.sync_machine.specs.States.{Value, strategy_at}
use Rattle.sync_machine.specs.Statements.{binds}
use Rattle.sync_join.specs.declared.tokens.Token.{Token}
use Rattle.sync_join.specs.Shards.{perm}
use Rattle.sync_join.specs.Join.{record_at}
use Rattle.sync_exchange_values.specs.Fitting.{form_fits}
use Rattle.sync_rules.specs.declared.slots.Role.TheVariants.{Given, Read}
use Rattle.sync_exchange.specs.declared.cases.Asked.{Asked}
use Rattle.sync_exchange.specs.declared.hands.XStop.{XStop}
use Rattle.sync_exchange.specs.declared.hands.XStop.TheVariants.{Differs, RequireFalse, Width}
use Rattle.sync_exchange.specs.Exchange.{Exchanging, Answer, unless, named, next_name, is_at_place, key_at, amount_at, place_fits, value_fits, new_value, started, updated, raised, asked_token, asked_object, withdrawn, after_reading, after_taking, after_seeing, after_giving, knowing, binding, recording, storing, use_variable, does}
use Rattle.sync_exchange.specs.Outcomes.{Stops, Stopped}
use Rattle.sync_exchange.proofs.Asking.{wide-stop}

-- ---- variables

pub variable-given : (f : ℕ) (x y z : Exchanging) → z ≡ after_giving (record { field = f; key = pos 0; value = pos 0 }) x → y ≡ knowing f (next_name x.given) (pos 0) z → use_variable f Given x ≡ Ok y
variable-given f x y z ez ey = ap Ok (sym (ey ∙ ap (knowing f (next_name x.given) (pos 0)) ez))

using : ℕ → Exchanging → Token → Answer
using f x t = unless (Differs x.slot) (is_at_place f (pos 0) t) (Ok (knowing f (next_name x.tokens) t.value (after_reading x)))

variable-is : (f : ℕ) (x : Exchanging) → use_variable f Read x ≡ (named x >>= using f x)
unfolding using
variable-is f x = refl

pub variable-read : (f : ℕ) (x y z : Exchanging) (t : Token) → named x ≡ Ok t → is_at_place f (pos 0) t ≡ true → z ≡ after_reading x → y ≡ knowing f (next_name x.tokens) t.value z → use_variable f Read x ≡ Ok y
unfolding using
variable-read f x y z t e same ez ey =
    variable-is f x ∙ ap (λ r. r >>= using f x) e
    ∙ ap (λ b. unless (Differs x.slot) b (Ok (knowing f (next_name x.tokens) t.value (after_reading x)))) same
    ∙ ap Ok (sym (ey ∙ ap (knowing f (next_name x.tokens) t.value) ez))

module _ (fits : ℤ → Bool) (fs : List Field) (line : ℕ) (x : Exchanging) where
  -- ---- requires

  pub require-stop : (form : Formula) (stop : XStop) → Stopped stop (form_fits fits x.names form) → Stops stop (does fits fs (record { act = acts.Require form; line = line }) x)
  unfolding does
  require-stop form stop h = wide-stop stop (form_fits fits x.names form) (unless (RequireFalse line) (truth x.names form) (Ok x)) h

  pub require-false : (form : Formula) → form_fits fits x.names form ≡ true → truth x.names form ≡ false → does fits fs (record { act = acts.Require form; line = line }) x ≡ Err (RequireFalse line)
  unfolding does
  require-false form w other = ap (λ b. unless Width b (unless (RequireFalse line) (truth x.names form) (Ok x))) w ∙ ap (λ b. unless (RequireFalse line) b (Ok x)) other

  pub require-true : (form : Formula) → form_fits fits x.names form ≡ true → truth x.names form ≡ true → does fits fs (record { act = acts.Require form; line = line }) x ≡ Ok x
  unfolding does
  require-true form w same = ap (λ b. unless Width b (unless (RequireFalse line) (truth x.names form) (Ok x))) w ∙ ap (λ b. unless (RequireFalse line) b (Ok x)) same

  -- ---- first values and new values

  pub init-stop : (f : ℕ) (t : Tree) (stop : XStop) → Stopped stop (value_fits fits fs f t x) → Stops stop (does fits fs (record { act = acts.Init f t; line = line }) x)
  unfolding does
  init-stop f t stop h = wide-stop stop (value_fits fits fs f t x) (Ok (started (strategy_at fs f) f (new_value fs f t x) x)) h

  pub init-done : (f : ℕ) (t : Tree) (v : Value) (y : Exchanging) → value_fits fits fs f t x ≡ true → v ≡ new_value fs f t x → y ≡ started (strategy_at fs f) f v x → does fits fs (record { act = acts.Init f t; line = line }) x ≡ Ok y
  unfolding does
  init-done f t v y w e ey = ap (λ b. unless Width b (Ok (started (strategy_at fs f) f (new_value fs f t x) x))) w ∙ ap Ok (sym (ey ∙ ap (λ u. started (strategy_at fs f) f u x) e))

  pub update-stop : (f : ℕ) (t : Tree) (stop : XStop) → Stopped stop (value_fits fits fs f t x) → Stops stop (does fits fs (record { act = acts.Update f t; line = line }) x)
  unfolding does
  update-stop f t stop h = wide-stop stop (value_fits fits fs f t x) (Ok (updated (strategy_at fs f) f (new_value fs f t x) x)) h

  pub update-done : (f : ℕ) (t : Tree) (v : Value) (y : Exchanging) → value_fits fits fs f t x ≡ true → v ≡ new_value fs f t x → y ≡ updated (strategy_at fs f) f v x → does fits fs (record { act = acts.Update f t; line = line }) x ≡ Ok y
  unfolding does
  update-done f t v y w e ey = ap (λ b. unless Width b (Ok (updated (strategy_at fs f) f (new_value fs f t x) x))) w ∙ ap Ok (sym (ey ∙ ap (λ u. updated (strategy_at fs f) f u x) e))

  -- ---- tokens that are asked for

  pub remove-stop : (f : ℕ) (p : PlaceTree) (stop : XStop) → ((next : ℤ → Exchanging) → Stops stop (asked_token fits f p x (λ (t : Token). next t.value))) → Stops stop (does fits fs (record { act = acts.Remove f p; line = line }) x)
  unfolding does
  remove-stop f p stop h = h (λ n. binding (binds p) n (after_taking x))

  pub remove-done : (f : ℕ) (p : PlaceTree) (n : ℤ) (y z : Exchanging) → ((next : ℤ → Exchanging) → asked_token fits f p x (λ (t : Token). next t.value) ≡ Ok (next n)) → z ≡ after_taking x → y ≡ binding (binds p) n z → does fits fs (record { act = acts.Remove f p; line = line }) x ≡ Ok y
  unfolding does
  remove-done f p n y z h ez ey = h (λ k. binding (binds p) k (after_taking x)) ∙ ap Ok (sym (ey ∙ ap (binding (binds p) n) ez))

  pub have-stop : (f : ℕ) (p : PlaceTree) (stop : XStop) → ((next : ℤ → Exchanging) → Stops stop (asked_token fits f p x (λ (t : Token). next t.value))) → Stops stop (does fits fs (record { act = acts.Have f p; line = line }) x)
  unfolding does
  have-stop f p stop h = h (λ n. binding (binds p) n (after_reading x))

  pub have-done : (f : ℕ) (p : PlaceTree) (n : ℤ) (y z : Exchanging) → ((next : ℤ → Exchanging) → asked_token fits f p x (λ (t : Token). next t.value) ≡ Ok (next n)) → z ≡ after_reading x → y ≡ binding (binds p) n z → does fits fs (record { act = acts.Have f p; line = line }) x ≡ Ok y
  unfolding does
  have-done f p n y z h ez ey = h (λ k. binding (binds p) k (after_reading x)) ∙ ap Ok (sym (ey ∙ ap (binding (binds p) n) ez))

  pub deposit-stop : (f : ℕ) (p : PlaceTree) (stop : XStop) → ((next : ℤ → Exchanging) → Stops stop (asked_token fits perm p x (λ (t : Token). next t.value))) → Stops stop (does fits fs (record { act = acts.Deposit f p; line = line }) x)
  unfolding does
  deposit-stop f p stop h = h (λ n. storing (x.kept.stored ++ record { field = f; key = key_at p x; value = amount_at p x } ∷ []) (after_taking x))

  pub deposit-done : (f : ℕ) (p : PlaceTree) (n : ℤ) (a : Asked) (y z : Exchanging) → ((next : ℤ → Exchanging) → asked_token fits perm p x (λ (t : Token). next t.value) ≡ Ok (next n)) → a ≡ record { key = key_at p x; value = amount_at p x } → z ≡ after_taking x → y ≡ storing (z.kept.stored ++ record { field = f; key = a.key; value = a.value } ∷ []) z → does fits fs (record { act = acts.Deposit f p; line = line }) x ≡ Ok y
  unfolding does
  deposit-done f p n a y z h ea ez ey =
      h (λ k. storing (x.kept.stored ++ record { field = f; key = key_at p x; value = amount_at p x } ∷ []) (after_taking x))
      ∙ ap Ok (sym (
      ey
      ∙ ap (λ (q : Exchanging). storing (q.kept.stored ++ record { field = f; key = a.key; value = a.value } ∷ []) q) ez
      ∙ ap (λ (b : Asked). storing (x.kept.stored ++ record { field = f; key = b.key; value = b.value } ∷ []) (after_taking x)) ea
      ))

  -- ---- additions

  pub add-stop : (f : ℕ) (p : PlaceTree) (stop : XStop) → Stopped stop (place_fits fits p x) → Stops stop (does fits fs (record { act = acts.Add f p; line = line }) x)
  unfolding does
  add-stop f p stop h = wide-stop stop (place_fits fits p x) _ h

  added : ℕ → Asked → Exchanging
  added f a = recording f (raised (strategy_at fs f) (record_at x.kept f) a.key a.value) (after_giving (record { field = f; key = a.key; value = a.value }) x)

  pub add-done : (f : ℕ) (p : PlaceTree) (a : Asked) (y z : Exchanging) → place_fits fits p x ≡ true → a ≡ record { key = key_at p x; value = amount_at p x } → z ≡ after_giving (record { field = f; key = a.key; value = a.value }) x → y ≡ recording f (raised (strategy_at fs f) (record_at z.kept f) a.key a.value) z → does fits fs (record { act = acts.Add f p; line = line }) x ≡ Ok y
  unfolding does added
  add-done f p a y z w ea ez ey =
      ap (λ b. unless Width b (Ok (added f (record { key = key_at p x; value = amount_at p x })))) w
      ∙ ap Ok (sym (ey ∙ ap (λ (q : Exchanging). recording f (raised (strategy_at fs f) (record_at q.kept f) a.key a.value) q) ez ∙ ap (added f) ea))

  -- ---- stored objects

  pub withdraw-stop : (f : ℕ) (p : PlaceTree) (stop : XStop) → ((next : ℤ → Exchanging) → Stops stop (asked_object fits f p x next)) → Stops stop (does fits fs (record { act = acts.Withdraw f p; line = line }) x)
  unfolding does
  withdraw-stop f p stop h = h (λ n. binding (binds p) n (storing (withdrawn f (key_at p x) x.kept.stored) (after_giving (record { field = perm; key = key_at p x; value = n }) x)))

  pub withdraw-done : (f : ℕ) (p : PlaceTree) (n : ℤ) (a : Asked) (y u z : Exchanging) → ((next : ℤ → Exchanging) → asked_object fits f p x next ≡ Ok (next n)) → a ≡ record { key = key_at p x; value = amount_at p x } → z ≡ after_giving (record { field = perm; key = a.key; value = n }) x → u ≡ storing (withdrawn f a.key z.kept.stored) z → y ≡ binding (binds p) n u → does fits fs (record { act = acts.Withdraw f p; line = line }) x ≡ Ok y
  unfolding does
  withdraw-done f p n a y u z h ea ez eu ey =
      h (λ k. binding (binds p) k (storing (withdrawn f (key_at p x) x.kept.stored) (after_giving (record { field = perm; key = key_at p x; value = k }) x)))
      ∙ ap Ok (sym (
      ey
      ∙ ap (binding (binds p) n) (
      eu
      ∙ ap (λ (q : Exchanging). storing (withdrawn f a.key q.kept.stored) q) ez
      ∙ ap (λ (b : Asked). storing (withdrawn f b.key x.kept.stored) (after_giving (record { field = perm; key = b.key; value = n }) x)) ea
      )
      ))

  pub guard-stop : (f : ℕ) (p : PlaceTree) (stop : XStop) → ((next : ℤ → Exchanging) → Stops stop (asked_object fits f p x next)) → Stops stop (does fits fs (record { act = acts.Guard f p; line = line }) x)
  unfolding does
  guard-stop f p stop h = h (λ n. binding (binds p) n (after_seeing x))

  pub guard-done : (f : ℕ) (p : PlaceTree) (n : ℤ) (y z : Exchanging) → ((next : ℤ → Exchanging) → asked_object fits f p x next ≡ Ok (next n)) → z ≡ after_seeing x → y ≡ binding (binds p) n z → does fits fs (record { act = acts.Guard f p; line = line }) x ≡ Ok y
  unfolding does
  guard-done f p n y z h ez ey = h (λ k. binding (binds p) k (after_seeing x)) ∙ ap Ok (sym (ey ∙ ap (binding (binds p) n) ez))
