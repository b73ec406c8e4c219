-- An exchange stops for what is the holder's to bring, and for nothing else.
use Rattle.std.proofs.Common.{◌≡◌, ℕ, suc, ◌+◌, pos, Bool, true, false, ◌&&◌, List, [], ◌∷◌, Some, Result, Ok, Err, inl, inr, ◌⊎◌, refl, sym, ap, subst, ◌∙◌, arith}
use Rattle.std.specs.List.{slice_get}
use Rattle.sync_base.specs.Outcome.{◌>>=◌}
use Rattle.sync_terms.specs.Trees.{Formula}
use Rattle.sync_machine.specs.declared.fields.Field.{Field}
use Rattle.sync_machine.specs.Machines.{PlaceTree, ActTree, StepTree}
use Rattle.sync_machine.specs.Machines as acts
use Rattle.sync_terms.specs.Values.{truth}
use Rattle.sync_rules.specs.declared.slots.Role.{Role}
use Rattle.sync_rules.specs.declared.slots.Role.TheVariants.{Taken, Read, Given, In}
use Rattle.sync_rules.specs.Slots.{SlotTree, place_slot, act_slot}
use Rattle.sync_join.specs.declared.tokens.Token.{Token}
use Rattle.sync_join.specs.Shards.{perm}
use Rattle.sync_exchange.specs.declared.hands.XStop.{XStop}
use Rattle.sync_exchange.specs.declared.hands.XStop.TheVariants.{Missing, Differs, RequireFalse, Width}
use Rattle.sync_exchange.specs.Exchange.{Exchanging, Answer, unless, held_as, next_name, named, is_at_place, key_at, place_fits, is_asked, asked_token, use_variable, use_variables, does}
use Rattle.sync_exchange.specs.Projection.{names_token}
use Rattle.sync_exchange.proofs.Passing.{either}
use Rattle.sync_exchange.proofs.Widening.{unbounded, place-fit, form-fit}
use Rattle.sync_exchange_laws.specs.Progress.{IsBrought}
use Rattle.sync_exchange_laws.proofs.Bringing.{Succeeds}
use Rattle.sync_exchange_laws.proofs.Slotting.{next-slot}

-- what stops for no reason but these
abbrev pub StopsFor : {A : Type 0} → (XStop → Type 0) → Result A XStop → Type 0
StopsFor H r = (stop : XStop) → r ≡ Err stop → H stop

err-is : {A : Type 0} (a b : XStop) → ◌≡◌ {A = Result A XStop} (Err a) (Err b) → a ≡ b
err-is a b e = cc

module _ (H : XStop → Type 0) where
  of-stop : {A : Type 0} (a : XStop) → H a → StopsFor {A = A} H (Err a)
  of-stop a h stop e = subst H (err-is a stop e) h

  of-ok : {A : Type 0} (y : A) → StopsFor {A = A} H (Ok y)
  of-ok y stop e = absurd (cc)

  of-success : {A : Type 0} (r : Result A XStop) → Succeeds r → StopsFor H r
  of-success r h stop e = absurd (let k : Ok h.0 ≡ Err stop = sym h.1 ∙ e in cc)

  of-test : (a : XStop) (b : Bool) (y : Exchanging) → (b ≡ false → H a) → StopsFor H (unless a b (Ok y))
  of-test a true y h = of-ok y
  of-test a false y h = of-stop a (h refl)

  of-fit : (b : Bool) (r : Answer) → b ≡ true → StopsFor H r → StopsFor H (unless Width b r)
  of-fit true r e h = h
  of-fit false r e h = absurd (cc)

  pub of-bind : {A B : Type 0} (r : Result A XStop) (g : A → Result B XStop) → StopsFor H r
      → ((a : A) → r ≡ Ok a → StopsFor H (g a)) → StopsFor H (r >>= g)
  of-bind (Ok a) g h k = k a refl
  of-bind (Err a) g h k = λ stop e. h stop (ap Err (err-is a stop e))

  -- a token may be missing, or differ, at this slot
  abbrev pub AtSlot : ℕ → Type 0
  AtSlot n = H (Missing n) × H (Differs n)

  named-well : (x : Exchanging) → AtSlot x.slot → StopsFor H (named x)
  named-well x h = either (held_as (next_name x.tokens) x.hand) (StopsFor H (named x))
      (λ none. rw none (of-stop (Missing x.slot) h.0))
      (λ t some. rw some (of-ok t))

  token-well : (f : ℕ) (p : PlaceTree) (x : Exchanging) (next : Token → Exchanging) → AtSlot x.slot
      → StopsFor H (asked_token unbounded f p x next)
  token-well f p x next h =
      of-bind (named x) _ (named-well x h)
      (λ t is. of-fit (place_fits unbounded p x) _ (place-fit p x)
      (of-test (Differs x.slot) (is_at_place f (key_at p x) t && is_asked p t.value x) (next t) (λ e. h.1)))

  -- a statement that succeeds where it gets what it asks stops for that alone
  pub statement-well : (fs : List Field) (x : Exchanging) (line : ℕ) (a : ActTree)
      → ((s : SlotTree) → act_slot fs a line ≡ Some s → names_token s.role ≡ true → AtSlot x.slot)
      → ((form : Formula) → a ≡ acts.Require form → truth x.names form ≡ false → H (RequireFalse line))
      → (IsBrought (record { act = a; line = line }) x → Succeeds (does unbounded fs (record { act = a; line = line }) x))
      → StopsFor H (does unbounded fs (record { act = a; line = line }) x)
  unfolding does act_slot
  statement-well fs x line (acts.Require form) slot falsity h =
      of-fit _ _ (form-fit x.names form) (of-test (RequireFalse line) (truth x.names form) x (falsity form refl))
  statement-well fs x line (acts.Remove f p) slot falsity h =
      token-well f p x _ (slot (place_slot Taken f p line) refl refl)
  statement-well fs x line (acts.Have f p) slot falsity h =
      token-well f p x _ (slot (place_slot Read f p line) refl refl)
  statement-well fs x line (acts.Deposit f p) slot falsity h =
      token-well perm p x _ (slot (place_slot In f p line) refl refl)
  statement-well fs x line (acts.Assert form) slot falsity h = of-ok x
  statement-well fs x line (acts.HaveVariable f) slot falsity h = of-ok x
  statement-well fs x line (acts.Init f t) slot falsity h = of-success _ (h tt)
  statement-well fs x line (acts.Update f t) slot falsity h = of-success _ (h tt)
  statement-well fs x line (acts.Add f p) slot falsity h = of-success _ (h tt)
  statement-well fs x line (acts.Withdraw f p) slot falsity h = of-success _ (h tt)
  statement-well fs x line (acts.Guard f p) slot falsity h = of-success _ (h tt)

  asking-well : (f : ℕ) (role : Role) (x : Exchanging) → AtSlot x.slot → StopsFor H (use_variable f role x)
  asking-well f Given x h = of-ok _
  asking-well f role x h =
      of-bind (named x) _ (named-well x h) (λ t is. of-test (Differs x.slot) (is_at_place f (pos 0) t) _ (λ e. h.1))

  variable-well : (f : ℕ) (role : Role) (x : Exchanging) → (role ≡ Given) ⊎ AtSlot x.slot
      → StopsFor H (use_variable f role x)
  variable-well f role x (inl e) = subst (λ r. StopsFor H (use_variable f r x)) (sym e) (of-ok _)
  variable-well f role x (inr h) = asking-well f role x h

  -- slots that give a token, or at which one may be missing or differ
  pub variables-well : (slots : List SlotTree) (x : Exchanging)
      → ((k : ℕ) (s : SlotTree) → slice_get slots k ≡ Some s → (s.role ≡ Given) ⊎ AtSlot (x.slot + k))
      → StopsFor H (use_variables slots x)
  variables-well [] x h = of-ok x
  variables-well (s ∷ ss) x h =
      let first : (s.role ≡ Given) ⊎ AtSlot x.slot = let e : x.slot + 0 ≡ x.slot = omega arith in
      subst (λ n. (s.role ≡ Given) ⊎ AtSlot n) e (h 0 s refl) in
      of-bind (use_variable s.field s.role x) _ (variable-well s.field s.role x first)
      (λ y is. variables-well ss y (λ k u e.
      let one = next-slot s x y is in
      let at : x.slot + suc k ≡ y.slot + k = omega (arith, one) in
      subst (λ n. (u.role ≡ Given) ⊎ AtSlot n) at (h (suc k) u e)))
