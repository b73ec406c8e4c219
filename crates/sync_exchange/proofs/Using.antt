-- The slots of variables in a transition or property: their tokens are read, and their values are those of the state.
use Rattle.std.proofs.Common.{◌≡◌, ℕ, ◌<◌, ℤ, pos, Bool, true, false, List, [], ◌∷◌, ◌++◌, length, get_or, filter_map, Option, Some, None, is_some, Ok, refl, sym, ap, subst, ◌∙◌, if◌then◌else◌, nat_eq, nat_lt}
use Rattle.std.specs.List.{AllByRecursion, cons_option}
use Rattle.std.proofs.lemmas.Bool.{eqb-true, eq-eqb, lt-ltb}
use Rattle.sync_base.specs.Outcome.{first}
use Rattle.sync_terms.specs.Trees.{Tree, Name, Nil}
use Rattle.sync_terms.specs.Maps as maps
use Rattle.sync_terms.specs.Values.{Valuation, num, with_value}
use Rattle.sync_machine.specs.declared.fields.Field.{Field}
use Rattle.sync_base.specs.declared.strategies.OpMode.{OpMode}
use Rattle.sync_base.specs.declared.strategies.OpMode.TheVariants as mode
use Rattle.sync_machine.specs.Machines.{ActTree, StepTree}
use Rattle.sync_machine.specs.Machines as acts
use Rattle.sync_machine.specs.Statements as statements
use Rattle.sync_machine.specs.States.{strategy_at}
use Rattle.sync_rules.specs.Locality.{is_variable}
use Rattle.sync_rules.specs.Strategies.{kind_of}
use Rattle.sync_rules.specs.Order.{may_stand_in, keeps_still, is_first_value}
use Rattle.sync_join.specs.declared.tokens.Token.{Token}
use Rattle.sync_join.specs.Join.{tokens_of, record_at}
use Rattle.sync_join.proofs.Leaving.{only_value-out}
use Rattle.sync_rules.specs.declared.slots.Role.{Role}
use Rattle.sync_rules.specs.declared.slots.Role.TheVariants.{Change, Read, Given}
use Rattle.sync_rules.specs.Slots.{SlotTree, value_slot, read_slot, only_if, needs, started_at, updated_to, valued, given_by, changed_by, read_by, earliest, variable_slot, field_slot}
use Rattle.sync_exchange.specs.declared.hands.XStop.TheVariants.{Differs}
use Rattle.sync_exchange.specs.Exchange.{Exchanging, held_as, tokens_in, without, token_name, next_name, named, is_at_place, after_reading, knowing, use_variable, use_variables}
use Rattle.sync_exchange.proofs.Terms.{and_left}
use Rattle.sync_exchange.proofs.Tokens.{held_as-more, taken-part}
use Rattle.sync_exchange.proofs.Making.{part-own}
use Rattle.sync_exchange.proofs.Strategies.{some_is}
use Rattle.sync_exchange.proofs.Storing.{not-true}
use Rattle.sync_exchange.proofs.Passing.{unless-ok, ok_is, bind-ok, named-ok}
use Rattle.sync_exchange.proofs.Standing.{bag_at, IsUnderWay, few-held}
use Rattle.sync_exchange.proofs.OneStrategy.{variable-only, only-variable}
use Rattle.sync_exchange.proofs.Going.{IsSameAt, same-through}

-- ---- slots of variables

pub valued-is : (role : Role) (x line : ℕ) (o : Option Tree) (sl : SlotTree) → valued role x line o ≡ Some sl → (sl.field ≡ x) × (sl.role ≡ role)
valued-is role x line None sl e = absurd (cc)
valued-is role x line (Some t) sl e =
    let is : value_slot role x t line ≡ sl = some_is (value_slot role x t line) sl e in
    (sym (ap (λ (s : SlotTree). s.field) is), sym (ap (λ (s : SlotTree). s.role) is))

read-is : (b : Bool) (x line : ℕ) (sl : SlotTree) → only_if b (read_slot x line) ≡ Some sl → (sl.field ≡ x) × (sl.role ≡ Read)
read-is false x line sl e = absurd (cc)
read-is true x line sl e =
    let is : read_slot x line ≡ sl = some_is (read_slot x line) sl e in
    (sym (ap (λ (s : SlotTree). s.field) is), sym (ap (λ (s : SlotTree). s.role) is))

pub first-cases : {A : Type 0} (a b : Option A) (y : A) (P : Type 0) → first a b ≡ Some y → (a ≡ Some y → P) → (a ≡ None → b ≡ Some y → P) → P
first-cases (Some z) b y P e here later = here e
first-cases None b y P e here later = later refl e

pub earliest-some : {A B : Type 0} (g : A → Option B) (xs : List A) (y : B) → earliest g xs ≡ Some y → (x : A) × (g x ≡ Some y)
earliest-some g [] y e = absurd (cc)
earliest-some g (x ∷ xs) y e = first-cases (g x) (earliest g xs) y ((z : _) × (g z ≡ Some y)) e (λ h. (x, h)) (λ none h. earliest-some g xs y h)

-- what a variable's slot is
pub slot-kinds : (fs : List Field) (ss : List StepTree) (x : ℕ) (sl : SlotTree) (P : Type 0) → variable_slot fs ss x ≡ Some sl
    → (earliest (given_by x) ss ≡ Some sl → sl.field ≡ x → sl.role ≡ Given → P) → (sl.field ≡ x → sl.role ≡ Change → P) → (sl.field ≡ x → sl.role ≡ Read → P) → P
slot-kinds fs ss x sl P e given changed read =
    first-cases (earliest (given_by x) ss) _ sl P e
    (λ h. let s = earliest-some (given_by x) ss sl h in let v = valued-is Given x s.0.line (started_at x s.0.act) sl s.1 in given h v.0 v.1)
    (λ none rest. first-cases (earliest (changed_by x) ss) _ sl P rest
    (λ h. let s = earliest-some (changed_by x) ss sl h in let v = valued-is Change x s.0.line (updated_to x s.0.act) sl s.1 in changed v.0 v.1)
    (λ none2 h. let s = earliest-some (read_by fs x) ss sl h in let v = read-is (needs fs x s.0.act) x s.0.line sl s.1 in read v.0 v.1))

if-some : {A : Type 0} (b : Bool) (o : Option A) (y : A) → (if b then o else None) ≡ Some y → (b ≡ true) × (o ≡ Some y)
if-some true o y e = (refl, e)
if-some false o y e = absurd (cc)

pub field-slot : (fs : List Field) (ss : List StepTree) (x : ℕ) (sl : SlotTree) → field_slot fs ss x ≡ Some sl → (is_variable (strategy_at fs x) ≡ true) × (variable_slot fs ss x ≡ Some sl)
field-slot fs ss x sl e = if-some (is_variable (strategy_at fs x)) (variable_slot fs ss x) sl e

-- ---- no statement gives a first value

abbrev pub HasNoInit : List StepTree → Type 0
HasNoInit ss = AllByRecursion (λ (s : StepTree). is_first_value (kind_of s.act) ≡ false) ss

still-no-init : (a : ActTree) → keeps_still mode.Property a ≡ true → is_first_value (kind_of a) ≡ false
unfolding kind_of statements.changed_by
still-no-init (acts.Init f t) e = absurd (cc)
still-no-init (acts.Require form) e = refl
still-no-init (acts.Assert form) e = refl
still-no-init (acts.Update f t) e = refl
still-no-init (acts.HaveVariable f) e = refl
still-no-init (acts.Add f p) e = refl
still-no-init (acts.Remove f p) e = refl
still-no-init (acts.Have f p) e = refl
still-no-init (acts.Deposit f p) e = refl
still-no-init (acts.Withdraw f p) e = refl
still-no-init (acts.Guard f p) e = refl

pub no-init : (m : OpMode) (a : ActTree) → (m ≡ mode.Init → ⊥) → may_stand_in m a ≡ true → keeps_still m a ≡ true → is_first_value (kind_of a) ≡ false
no-init mode.Init a other e k = absurd (other refl)
no-init mode.Transition a other e k = not-true (is_first_value (kind_of a)) e
no-init mode.Property a other e k = still-no-init a k

not-started : (x : ℕ) (a : ActTree) → is_first_value (kind_of a) ≡ false → started_at x a ≡ None
unfolding kind_of started_at
not-started x (acts.Init f t) e = absurd (cc)
not-started x (acts.Require form) e = refl
not-started x (acts.Assert form) e = refl
not-started x (acts.Update f t) e = refl
not-started x (acts.HaveVariable f) e = refl
not-started x (acts.Add f p) e = refl
not-started x (acts.Remove f p) e = refl
not-started x (acts.Have f p) e = refl
not-started x (acts.Deposit f p) e = refl
not-started x (acts.Withdraw f p) e = refl
not-started x (acts.Guard f p) e = refl

pub not-given : (x : ℕ) (ss : List StepTree) → HasNoInit ss → earliest (given_by x) ss ≡ None
not-given x [] h = refl
not-given x (s ∷ ss) h = ap (λ o. first (valued Given x s.line o) (earliest (given_by x) ss)) (not-started x s.act h.0) ∙ not-given x ss h.1

-- ---- a variable's token is read

pub record Uses (f : ℕ) (x y : Exchanging) : Type 0 where
  pub token : Token
  pub held : held_as (next_name x.tokens) x.hand ≡ Some token
  pub field : f ≡ token.field
  pub answer : knowing f (next_name x.tokens) token.value (after_reading x) ≡ y

pub uses-change : (f : ℕ) (x y : Exchanging) → use_variable f Change x ≡ Ok y → Uses f x y
uses-change f x y e =
    let a = bind-ok (named x) _ y e in
    let b = unless-ok (Differs x.slot) (is_at_place f (pos 0) a.0) _ y a.2 in
    record { token = a.0; held = named-ok x a.0 a.1; field = eqb-true f a.0.field (and_left _ _ b.0); answer = ok_is _ y b.1 }

pub uses-read : (f : ℕ) (x y : Exchanging) → use_variable f Read x ≡ Ok y → Uses f x y
uses-read f x y e =
    let a = bind-ok (named x) _ y e in
    let b = unless-ok (Differs x.slot) (is_at_place f (pos 0) a.0) _ y a.2 in
    record { token = a.0; held = named-ok x a.0 a.1; field = eqb-true f a.0.field (and_left _ _ b.0); answer = ok_is _ y b.1 }

pub uses : (fs : List Field) (ss : List StepTree) (f : ℕ) (sl : SlotTree) (x y : Exchanging) → HasNoInit ss → field_slot fs ss f ≡ Some sl → use_variable sl.field sl.role x ≡ Ok y → Uses f x y
uses fs ss f sl x y none slot e =
    slot-kinds fs ss f sl (Uses f x y) (field-slot fs ss f sl slot).1
    (λ given field role. let h = not-given f ss none in absurd (cc))
    (λ field role. uses-change f x y (ap (λ n. use_variable n Change x) (sym field) ∙ ap (λ r. use_variable sl.field r x) (sym role) ∙ e))
    (λ field role. uses-read f x y (ap (λ n. use_variable n Read x) (sym field) ∙ ap (λ r. use_variable sl.field r x) (sym role) ∙ e))

pub token-cases : (g f name other : ℕ) (vs : List (ℕ × ℕ)) (P : Type 0) → token_name g ((f, name) ∷ vs) ≡ Some other → (g ≡ f → name ≡ other → P) → (token_name g vs ≡ Some other → P) → P
unfolding token_name
token-cases g f name other vs P e here later = cases (nat_eq g f) refl e where
  cases : (b : Bool) → nat_eq g f ≡ b → (if b then Some name else token_name g vs) ≡ Some other → P
  cases true is h = here (eqb-true g f is) (some_is name other h)
  cases false is h = later h

module _ (fs : List Field) (v : Valuation) (others : List Token) (ss : List StepTree) (none : HasNoInit ss) (cur : List Tree)
    (names : (f : ℕ) → f < length fs → get_or cur f Nil ≡ Name f) (numbers : (f : ℕ) → f < length fs → is_variable (strategy_at fs f) ≡ true → v.mapping f ≡ maps.nil) where
  knowing-stands : (f : ℕ) (x y : Exchanging) → f < length fs → is_variable (strategy_at fs f) ≡ true → Uses f x y → IsUnderWay fs v others x cur → IsUnderWay fs v others y cur
  knowing-stands f x y lt var u h = subst (λ w. IsUnderWay fs v others w cur) u.answer (record {
    makes = h.makes;
    once = h.once;
    named = λ g name e. token-cases g f (next_name x.tokens) name x.variables ((t : Token) × (held_as name (x.hand ++ x.entered) ≡ Some t) × (t.field ≡ g)) e
        (λ same is. (u.token, subst (λ n. held_as n (x.hand ++ x.entered) ≡ Some u.token) is (held_as-more (next_name x.tokens) x.hand x.entered u.token u.held), sym (same ∙ u.field)))
        (λ later. h.named g name later);
    fields = λ g name e. token-cases g f (next_name x.tokens) name x.variables ((g < length fs) × (is_variable (strategy_at fs g) ≡ true)) e
        (λ same is. (subst (λ n. n < length fs) (sym same) lt, ap (λ n. is_variable (strategy_at fs n)) same ∙ var))
        (λ later. h.fields g name later);
  })

  -- the token has the value that the state has
  token-value : (f : ℕ) (x y : Exchanging) → f < length fs → is_variable (strategy_at fs f) ≡ true → (u : Uses f x y) → IsUnderWay fs v others x cur → u.token.value ≡ v.number f
  token-value f x y lt var u h =
      let t = u.token in
      let rest = tokens_in (without (next_name x.tokens) x.hand ++ x.entered) ++ others in
      let part = taken-part (next_name x.tokens) t x.hand x.entered others u.held (few-held (next_name x.tokens) (x.hand ++ x.entered) x.given (h.once (next_name x.tokens))) in
      let before = only-variable (strategy_at fs f) v (get_or cur f Nil) (t ∷ tokens_of f rest) (record_at x.kept f) (tokens_of f x.kept.stored) (variable-only (strategy_at fs f) var)
      (sym (part-own fs x.kept t (bag_at others x) rest f part (eq-eqb t.field f (sym u.field))) ∙ h.makes.values f lt) in
      (only_value-out t (tokens_of f rest) (num v (get_or cur f Nil)) before).1 ∙ ap (num v) (names f lt)

  with-cases : (f z : ℕ) (n : ℤ) (w : Valuation) → n ≡ v.number f → v.mapping f ≡ maps.nil → IsSameAt z w v → IsSameAt z (with_value f n maps.nil w) v
  with-cases f z n w number mapping h = cases (nat_eq z f) refl where
    cases : (b : Bool) → nat_eq z f ≡ b → IsSameAt z (with_value f n maps.nil w) v
    cases true e = record { number = rw e (number ∙ ap v.number (sym (eqb-true z f e))); mapping = rw e (sym (ap v.mapping (eqb-true z f e) ∙ mapping)) }
    cases false e = record { number = rw e h.number; mapping = rw e h.mapping }

  with-own : (f : ℕ) (n : ℤ) (w : Valuation) → n ≡ v.number f → v.mapping f ≡ maps.nil → IsSameAt f (with_value f n maps.nil w) v
  with-own f n w number mapping = let e : nat_eq f f ≡ true = eq-eqb f f refl in record { number = rw e number; mapping = rw e (sym mapping) }

  with-other : (f z : ℕ) (n : ℤ) (w : Valuation) → nat_eq z f ≡ false → IsSameAt z w (with_value f n maps.nil w)
  with-other f z n w e = record { number = rw e refl; mapping = rw e refl }

  pub record AreKnown (ns : List ℕ) (x y : Exchanging) : Type 0 where
    pub stands : IsUnderWay fs v others y cur
    pub given : y.given ≡ x.given
    pub keeps : (z : ℕ) → IsSameAt z x.names v → IsSameAt z y.names v
    pub remembers : (g : ℕ) → is_some (token_name g x.variables) ≡ true → is_some (token_name g y.variables) ≡ true
    pub learns : AllByRecursion (λ (f : ℕ). is_some (field_slot fs ss f) ≡ true → IsSameAt f y.names v × (is_some (token_name f y.variables) ≡ true)) ns
    pub beyond : (z : ℕ) → nat_lt z (length fs) ≡ false → IsSameAt z x.names y.names

  below-apart : (z f : ℕ) → nat_lt z (length fs) ≡ false → f < length fs → nat_eq z f ≡ false
  below-apart z f e lt = cases (nat_eq z f) refl where
    cases : (b : Bool) → nat_eq z f ≡ b → b ≡ false
    cases false is = refl
    cases true is = let h : nat_lt z (length fs) ≡ true = ap (λ n. nat_lt n (length fs)) (eqb-true z f is) ∙ lt-ltb f (length fs) lt in absurd (cc)

  token-more : (g f name : ℕ) (vs : List (ℕ × ℕ)) → is_some (token_name g vs) ≡ true → is_some (token_name g ((f, name) ∷ vs)) ≡ true
  unfolding token_name
  token-more g f name vs e = cases (nat_eq g f) where
    cases : (b : Bool) → is_some (if b then Some name else token_name g vs) ≡ true
    cases true = refl
    cases false = e

  token-here : (f name : ℕ) (vs : List (ℕ × ℕ)) → is_some (token_name f ((f, name) ∷ vs)) ≡ true
  unfolding token_name
  token-here f name vs = let e : nat_eq f f ≡ true = eq-eqb f f refl in rw e refl

  using-next : (f : ℕ) (ns : List ℕ) (x y : Exchanging) (o : Option SlotTree) → field_slot fs ss f ≡ o → AllByRecursion (λ (g : ℕ). g < length fs) (f ∷ ns)
      → use_variables (cons_option o (filter_map (field_slot fs ss) ns)) x ≡ Ok y → IsUnderWay fs v others x cur
      → ((z : Exchanging) → use_variables (filter_map (field_slot fs ss) ns) z ≡ Ok y → IsUnderWay fs v others z cur → AreKnown ns z y) → AreKnown (f ∷ ns) x y
  using-next f ns x y None slot lts e h later =
      let r = later x e h in
      record {
        stands = r.stands;
        given = r.given;
        keeps = r.keeps;
        remembers = r.remembers;
        learns = ((λ k. let d : is_some (field_slot fs ss f) ≡ false = ap is_some slot in absurd (cc)), r.learns);
        beyond = r.beyond;
      }
  using-next f ns x y (Some sl) slot lts e h later =
      let a = bind-ok (use_variable sl.field sl.role x) (use_variables (filter_map (field_slot fs ss) ns)) y e in
      let z = a.0 in
      let u = uses fs ss f sl x z none slot a.1 in
      let var = (field-slot fs ss f sl slot).0 in
      let nil = numbers f lts.0 var in
      let number = token-value f x z lts.0 var u h in
      let r = later z a.2 (knowing-stands f x z lts.0 var u h) in
      let known = λ (P : Exchanging → Type 0) (k : P (knowing f (next_name x.tokens) u.token.value (after_reading x))). subst P u.answer k in
      record {
        stands = r.stands;
        given = r.given ∙ known (λ w. w.given ≡ x.given) refl;
        keeps = λ n k. r.keeps n (known (λ w. IsSameAt n w.names v) (with-cases f n u.token.value x.names number nil k));
        remembers = λ g k. r.remembers g (known (λ w. is_some (token_name g w.variables) ≡ true) (token-more g f (next_name x.tokens) x.variables k));
        learns = ((λ k. (r.keeps f (known (λ w. IsSameAt f w.names v) (with-own f u.token.value x.names number nil)), r.remembers f (known (λ w. is_some (token_name f w.variables) ≡ true) (token-here f (next_name x.tokens) x.variables)))), r.learns);
        beyond = λ n k. same-through n x.names z.names y.names (known (λ w. IsSameAt n x.names w.names) (with-other f n u.token.value x.names (below-apart n f k lts.0))) (r.beyond n k);
      }

  pub using : (ns : List ℕ) (x y : Exchanging) → AllByRecursion (λ (f : ℕ). f < length fs) ns → use_variables (filter_map (field_slot fs ss) ns) x ≡ Ok y → IsUnderWay fs v others x cur → AreKnown ns x y
  using [] x y lts e h = subst (AreKnown [] x) (ok_is x y e) (record {
    stands = h;
    given = refl;
    keeps = λ z k. k;
    remembers = λ g k. k;
    learns = tt;
    beyond = λ z k. record { number = refl; mapping = refl };
  })
  using (f ∷ ns) x y lts e h = using-next f ns x y (field_slot fs ss f) refl lts e h (λ z d g. using ns z y lts.1 d g)
