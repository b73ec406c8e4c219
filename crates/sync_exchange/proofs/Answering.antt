-- The values that an exchange answers are what its bound names stand for at its end.
use Rattle.std.proofs.Common.{◌≡◌, ◌≤◌, ℕ, ℤ, pos, Ok, Bool, true, false, List, [], ◌∷◌, ◌++◌, length, append_assoc, append-nil, Option, Some, None, is_none, refl, sym, ap, subst, ◌∙◌, if◌then◌else◌, nat_eq, nat_lt}
use Rattle.std.specs.List.{cons_option}
use Rattle.std.proofs.lemmas.Bool.{eq-eqb}
use Rattle.sync_terms.specs.Values.{Valuation}
use Rattle.sync_machine.specs.declared.fields.Field.{Field}
use Rattle.sync_base.specs.declared.strategies.Strategy.{Strategy}
use Rattle.sync_base.specs.declared.strategies.Strategy.TheVariants.{Variable}
use Rattle.sync_machine.specs.Machines.{PlaceTree, ActTree, StepTree}
use Rattle.sync_machine.specs.Machines as acts
use Rattle.sync_machine.specs.Naming.{bound_by, bound_names}
use Rattle.sync_machine.specs.Statements.{binds}
use Rattle.sync_machine.specs.States.{Value, strategy_at, strategy_of, AreGiven}
use Rattle.sync_rules.specs.declared.slots.Role.{Role}
use Rattle.sync_rules.specs.declared.slots.Role.TheVariants.{Given}
use Rattle.sync_rules.specs.Shapes.{has_shape, fits}
use Rattle.sync_rules.specs.Slots.{SlotTree}
use Rattle.sync_join.specs.Shards.{perm}
use Rattle.sync_join.specs.Join.{number_of}
use Rattle.sync_exchange.specs.declared.hands.XStop.TheVariants.{Differs, Width, RequireFalse}
use Rattle.sync_exchange.specs.Exchange.{Exchanging, named, is_at_place, token_name, revaluing, after_reading, after_taking, after_seeing, after_giving, binding, storing, withdrawn, permission, key_at, started, updated, new_value, use_variable, use_variables, does, does_all}
use Rattle.sync_exchange.proofs.Terms.{and_right}
use Rattle.sync_exchange.proofs.Passing.{either, unless-ok, ok_is, bind-ok, asked-token, asked-object}
use Rattle.sync_exchange.proofs.Going.{AreLawful, known-bound, fresh-beyond, names-kept_all}

-- what is bound by a statement that may bind this name
pub record Adds (o : Option ℕ) (x y : Exchanging) : Type 0 where
  pub values : List ℤ
  pub bound : y.bound ≡ x.bound ++ values
  pub given : AreGiven (cons_option o []) values y.names

adds-nothing : (x y : Exchanging) → x.bound ≡ y.bound → Adds None x y
adds-nothing x y same = record { values = []; bound = sym same ∙ sym (append-nil x.bound); given = tt }

binding-adds : (o : Option ℕ) (n : ℤ) (x u y : Exchanging) → u.bound ≡ x.bound → binding o n u ≡ y → Adds o x y
binding-adds None n x u y same is = adds-nothing x y (sym same ∙ ap (λ (w : Exchanging). w.bound) is)
binding-adds (Some z) n x u y same is = record {
  values = n ∷ [];
  bound = ap (λ (w : Exchanging). w.bound) (sym is) ∙ ap (λ (bs : List ℤ). bs ++ n ∷ []) same;
  given = (ap (λ (w : Exchanging). w.names.number z) (sym is) ∙ own, tt);
} where
  own : (if nat_eq z z then n else u.names.number z) ≡ n
  own = ap (λ b. if b then n else u.names.number z) (eq-eqb z z refl)

revaluing-bound : (f : ℕ) (n : ℤ) (x : Exchanging) → x.bound ≡ (revaluing f n x).bound
revaluing-bound f n x = either (token_name f x.variables) (x.bound ≡ (revaluing f n x).bound) (λ none. rw none refl) (λ name some. rw some refl)

started-bound : (s : Strategy) (f : ℕ) (w : Value) (x : Exchanging) → x.bound ≡ (started s f w x).bound
started-bound Variable f w x = revaluing-bound f (number_of w) x
started-bound s f w x = refl

updated-bound : (s : Strategy) (f : ℕ) (w : Value) (x : Exchanging) → x.bound ≡ (updated s f w x).bound
updated-bound Variable f w x = revaluing-bound f (number_of w) x
updated-bound s f w x = refl

none-of : (o : Option ℕ) → is_none o ≡ true → o ≡ None
none-of None e = refl
none-of (Some z) e = absurd cc

module _ (fit : ℤ → Bool) (fs : List Field) (x y : Exchanging) where
  bound-of : (u : Exchanging) → u ≡ y → u.bound ≡ y.bound
  bound-of u e = ap (λ (w : Exchanging). w.bound) e

  does-adds : (line : ℕ) (a : ActTree) → fits (strategy_of fs a) a ≡ true → does fit fs (record { act = a; line = line }) x ≡ Ok y → Adds (bound_by a) x y
  unfolding does bound_by fits
  does-adds line (acts.Require form) h e =
      let a = unless-ok Width _ _ y e in
      let b = unless-ok (RequireFalse line) _ (Ok x) y a.1 in adds-nothing x y (bound-of x (ok_is x y b.1))
  does-adds line (acts.Assert form) h e = adds-nothing x y (bound-of x (ok_is x y e))
  does-adds line (acts.HaveVariable f) h e = adds-nothing x y (bound-of x (ok_is x y e))
  does-adds line (acts.Init f t) h e =
      let a = unless-ok Width _ _ y e in
      let v = new_value fs f t x in
      adds-nothing x y (started-bound (strategy_at fs f) f v x ∙ bound-of (started (strategy_at fs f) f v x) (ok_is _ y a.1))
  does-adds line (acts.Update f t) h e =
      let a = unless-ok Width _ _ y e in
      let v = new_value fs f t x in
      adds-nothing x y (updated-bound (strategy_at fs f) f v x ∙ bound-of (updated (strategy_at fs f) f v x) (ok_is _ y a.1))
  does-adds line (acts.Remove f p) h e =
      let a = asked-token fit f p x _ y e in binding-adds (binds p) a.token.value x (after_taking x) y refl a.answer
  does-adds line (acts.Have f p) h e =
      let a = asked-token fit f p x _ y e in binding-adds (binds p) a.token.value x (after_reading x) y refl a.answer
  does-adds line (acts.Add f p) h e =
      let a = unless-ok Width _ _ y e in
      let none = none-of (binds p) (and_right (has_shape (strategy_of fs (acts.Add f p)) p) (is_none (binds p)) h) in
      subst (λ (o : Option ℕ). Adds o x y) (sym none) (adds-nothing x y (bound-of _ (ok_is _ y a.1)))
  does-adds line (acts.Deposit f p) h e =
      let a = asked-token fit perm p x _ y e in
      let none = none-of (binds p) (and_right (has_shape (strategy_of fs (acts.Deposit f p)) p) (is_none (binds p)) h) in
      subst (λ (o : Option ℕ). Adds o x y) (sym none) (adds-nothing x y (bound-of _ a.answer))
  does-adds line (acts.Withdraw f p) h e =
      let a = asked-object fit f p x _ y e in
      let u = storing (withdrawn f (key_at p x) x.kept.stored) (after_giving (permission (key_at p x) a.number) x) in
      binding-adds (binds p) a.number x u y refl a.answer
  does-adds line (acts.Guard f p) h e =
      let a = asked-object fit f p x _ y e in binding-adds (binds p) a.number x (after_seeing x) y refl a.answer

-- ---- several statements

given-on : (o : Option ℕ) (ns : List ℤ) (v w : Valuation) → ((z : ℕ) → o ≡ Some z → v.number z ≡ w.number z) → AreGiven (cons_option o []) ns v → AreGiven (cons_option o []) ns w
given-on None [] v w same h = tt
given-on None (n ∷ ns) v w same h = absurd h
given-on (Some z) [] v w same h = absurd h
given-on (Some z) (n ∷ ns) v w same h = (sym (same z refl) ∙ h.0, given-on None ns v w (λ y e. absurd (cc)) h.1)

given-both : (o : Option ℕ) (ns : List ℤ) (ps : List ℕ) (ms : List ℤ) (w : Valuation) → AreGiven (cons_option o []) ns w → AreGiven ps ms w → AreGiven (cons_option o ps) (ns ++ ms) w
given-both None [] ps ms w h k = k
given-both None (n ∷ ns) ps ms w h k = absurd h
given-both (Some z) [] ps ms w h k = absurd h
given-both (Some z) (n ∷ ns) ps ms w h k = (h.0, given-both None ns ps ms w h.1 k)

-- the values that statements bind, under a valuation that has what the symbols of names stand for at the end
pub record Answers (ss : List StepTree) (x y : Exchanging) (w : Valuation) : Type 0 where
  pub values : List ℤ
  pub bound : y.bound ≡ x.bound ++ values
  pub given : AreGiven (bound_names ss) values w

module _ (fit : ℤ → Bool) (fs : List Field) (few : length fs ≤ 32) (trusted : ℕ → Bool) (params : List ℕ) (w : Valuation) where
  pub all-answered : (before ss : List StepTree) (x y : Exchanging) → AreLawful fs trusted params before ss → does_all fit fs ss x ≡ Ok y
      → ((z : ℕ) → nat_lt z (length fs) ≡ false → y.names.number z ≡ w.number z) → Answers ss x y w
  all-answered before [] x y laws e same = record { values = []; bound = ap (λ (u : Exchanging). u.bound) (sym (ok_is x y e)) ∙ sym (append-nil x.bound); given = tt }
  all-answered before (s ∷ ss) x y laws e same =
      let a = bind-ok (does fit fs s x) (does_all fit fs ss) y e in
      let one = does-adds fit fs x a.0 s.line s.act laws.0.fit a.1 in
      let more = all-answered (before ++ s ∷ []) ss a.0 y laws.2 a.2 same in
      let stays : (z : ℕ) → bound_by s.act ≡ Some z → a.0.names.number z ≡ w.number z = λ z b.
      (names-kept_all fit fs few trusted params (before ++ s ∷ []) ss a.0 y laws.2 a.2 z (known-bound fs params before s z b)).number
      ∙ same z (fresh-beyond fs (params ++ bound_names before) z (laws.1 z b)) in
      record {
        values = one.values ++ more.values;
        bound = more.bound ∙ ap (λ (bs : List ℤ). bs ++ more.values) one.bound ∙ append_assoc x.bound one.values more.values;
        given = given-both (bound_by s.act) one.values (bound_names ss) more.values w (given-on (bound_by s.act) one.values a.0.names w stays one.given) more.given;
      }

-- ---- the slots of variables bind nothing

used-nothing : (role : Role) (f : ℕ) (x y : Exchanging) → use_variable f role x ≡ Ok y → x.bound ≡ y.bound
used-nothing Given f x y e = ap (λ (w : Exchanging). w.bound) (ok_is _ y e)
used-nothing role f x y e =
    let a = bind-ok (named x) _ y e in
    let b = unless-ok (Differs x.slot) (is_at_place f (pos 0) a.0) _ y a.2 in
    ap (λ (w : Exchanging). w.bound) (ok_is _ y b.1)

pub used-bind-nothing : (slots : List SlotTree) (x y : Exchanging) → use_variables slots x ≡ Ok y → x.bound ≡ y.bound
used-bind-nothing [] x y e = ap (λ (w : Exchanging). w.bound) (ok_is x y e)
used-bind-nothing (s ∷ ss) x y e =
    let a = bind-ok (use_variable s.field s.role x) (use_variables ss) y e in
    used-nothing s.role s.field x a.0 a.1 ∙ used-bind-nothing ss a.0 y a.2
