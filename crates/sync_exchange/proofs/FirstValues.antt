-- In an init no field is changed before its first value is given.
use Rattle.std.proofs.Common.{◌≡◌, ℕ, ◌+◌, ◌<◌, ◌≤◌, ℤ, pos, Bool, true, false, not, ◌&&◌, ◌||◌, List, [], ◌∷◌, ◌++◌, length, get_or, append_assoc, count_by, Option, Some, Ok, refl, sym, ap, subst, ◌∙◌, arith, cond, nat_eq}
use Rattle.std.specs.List.{AllByRecursion, list_any, list_all}
use Rattle.std.proofs.lemmas.Bool.{eqb-true, eq-eqb}
use Rattle.std.proofs.lemmas.List.{get_or-set_other}
use Rattle.std.proofs.lemmas.List.Sums.{sum_by-cons}
use Rattle.sync_terms.specs.Trees.{Tree, Nil}
use Rattle.sync_terms.specs.Values.{Valuation}
use Rattle.sync_machine.specs.declared.fields.Field.{Field}
use Rattle.sync_base.specs.declared.strategies.Strategy.{Strategy}
use Rattle.sync_base.specs.declared.strategies.Strategy.TheVariants.{Variable, Constant, NotTokenized, Option as OptionField, Map, Set, Multiset, Count, PersistentOption, PersistentMap, PersistentSet, PersistentCount, StorageMap}
use Rattle.sync_base.specs.declared.strategies.OpMode.TheVariants as mode
use Rattle.sync_machine.specs.Machines.{ActTree, StepTree}
use Rattle.sync_machine.specs.Machines as acts
use Rattle.sync_machine.specs.Statements.{field_of, changed_by, after}
use Rattle.sync_machine.specs.States.{Value, sort_of, strategy_at, advanced, blank}
use Rattle.sync_machine.specs.Naming.{initialises}
use Rattle.sync_rules.specs.Strategies.{kind_of}
use Rattle.sync_rules.specs.Order.{may_start, may_follow}
use Rattle.sync_rules.specs.Locality.{is_variable}
use Rattle.sync_join.specs.declared.tokens.Token.{Token}
use Rattle.sync_join.specs.Shards.{perm}
use Rattle.sync_join.specs.Join.{tokens_of, number_of}
use Rattle.sync_exchange.specs.declared.hands.XStop.TheVariants.{Width, RequireFalse}
use Rattle.sync_exchange.specs.Exchange.{Exchanging, token_name, next_name, revaluing, after_giving, token_of, key_at, amount_at, started, new_value, does}
use Rattle.sync_exchange.proofs.Terms.{and_left, and_right}
use Rattle.sync_exchange.proofs.Tokens.{IsPart, taken-part, given-part, revalued-part}
use Rattle.sync_exchange.proofs.Strategies.{some_is}
use Rattle.sync_exchange.proofs.Storing.{nat_eq-turned, tokens_of-append}
use Rattle.sync_exchange.proofs.OneStrategy.{perm-other}
use Rattle.sync_exchange.proofs.Passing.{either, unless-ok, ok_is, asked-token}
use Rattle.sync_exchange.proofs.Standing.{bag_at, IsUnderWay, few-held}
use Rattle.sync_exchange.proofs.Rules.{AreRuled}

-- one of these statements gives the field its first value
abbrev pub is_started_in : ℕ → List StepTree → Bool
is_started_in f ss = list_any (λ (s : StepTree). initialises f s.act) ss

-- no statement stands before the first value of the field that it changes
abbrev pub AreOrdered : List StepTree → Type 0
AreOrdered [] = Unit {0}
AreOrdered (s ∷ ss) = ((f : ℕ) → changed_by s.act ≡ Some f → is_started_in f ss ≡ false) × AreOrdered ss

all-mid : {X : Type 0} (p : X → Bool) (pre : List X) (y : X) (post : List X) → list_all p (pre ++ y ∷ post) ≡ true → p y ≡ true
all-mid p [] y post e = and_left _ _ e
all-mid p (x ∷ pre) y post e = all-mid p pre y post (and_right (p x) _ e)

later-cases : (b : Bool) (r s : ActTree) (rest : Bool) → may_follow r s ≡ true → (b ≡ true → may_follow r s ≡ false) → rest ≡ false → (b || rest) ≡ false
later-cases true r s rest e h k = let g = h refl in absurd (cc)
later-cases false r s rest e h k = k

later-none : (fs : List Field) (f : ℕ) (pre : List StepTree) (s : StepTree) (post ss : List StepTree) → AreRuled fs mode.Init (pre ++ s ∷ post) ss
    → ((r : ActTree) → initialises f r ≡ true → may_follow r s.act ≡ false) → is_started_in f ss ≡ false
later-none fs f pre s post [] rules h = refl
later-none fs f pre s post (r ∷ ss) rules h =
    later-cases (initialises f r.act) r.act s.act (is_started_in f ss) (all-mid (λ (e : StepTree). may_follow r.act e.act) pre s post rules.0.ordered) (h r.act)
    (later-none fs f pre s (post ++ r ∷ []) ss (subst (λ xs. AreRuled fs mode.Init xs ss) (append_assoc pre (s ∷ post) (r ∷ [])) rules.1) h)

one-field : (f g : ℕ) → nat_eq f g ≡ true → not (nat_eq g f && true) ≡ false
one-field f g e = let h : nat_eq g f ≡ true = nat_eq-turned g f ∙ e in rw h refl

behind-add : (f : ℕ) (p : acts.PlaceTree) (r : ActTree) → initialises f r ≡ true → may_follow r (acts.Add f p) ≡ false
unfolding field_of kind_of
behind-add f p (acts.Init g t) e = one-field f g e
behind-add f p (acts.Require form) e = absurd (cc)
behind-add f p (acts.Assert form) e = absurd (cc)
behind-add f p (acts.Update g t) e = absurd (cc)
behind-add f p (acts.HaveVariable g) e = absurd (cc)
behind-add f p (acts.Add g l) e = absurd (cc)
behind-add f p (acts.Remove g l) e = absurd (cc)
behind-add f p (acts.Have g l) e = absurd (cc)
behind-add f p (acts.Deposit g l) e = absurd (cc)
behind-add f p (acts.Withdraw g l) e = absurd (cc)
behind-add f p (acts.Guard g l) e = absurd (cc)

behind-deposit : (f : ℕ) (p : acts.PlaceTree) (r : ActTree) → initialises f r ≡ true → may_follow r (acts.Deposit f p) ≡ false
unfolding field_of kind_of
behind-deposit f p (acts.Init g t) e = one-field f g e
behind-deposit f p (acts.Require form) e = absurd (cc)
behind-deposit f p (acts.Assert form) e = absurd (cc)
behind-deposit f p (acts.Update g t) e = absurd (cc)
behind-deposit f p (acts.HaveVariable g) e = absurd (cc)
behind-deposit f p (acts.Add g l) e = absurd (cc)
behind-deposit f p (acts.Remove g l) e = absurd (cc)
behind-deposit f p (acts.Have g l) e = absurd (cc)
behind-deposit f p (acts.Deposit g l) e = absurd (cc)
behind-deposit f p (acts.Withdraw g l) e = absurd (cc)
behind-deposit f p (acts.Guard g l) e = absurd (cc)

-- how many of the statements give the field its first value
abbrev pub starts_in : ℕ → List StepTree → ℕ
starts_in f ss = count_by (λ (s : StepTree). initialises f s.act) ss

pub starts-cons : (f : ℕ) (s : StepTree) (ss : List StepTree) → starts_in f (s ∷ ss) ≡ cond (initialises f s.act) 1 0 + starts_in f ss
starts-cons f s ss = sum_by-cons (λ (t : StepTree). cond (initialises f t.act) 1 0) s ss

none-cases : (b : Bool) (n : ℕ) (rest : Bool) → cond b 1 0 + n ≡ 0 → (n ≡ 0 → rest ≡ false) → (b || rest) ≡ false
none-cases true n rest e h = absurd (omega arith)
none-cases false n rest e h = h (omega (arith, e))

pub starts-none : (f : ℕ) (ss : List StepTree) → starts_in f ss ≡ 0 → is_started_in f ss ≡ false
starts-none f [] e = refl
starts-none f (s ∷ ss) e = none-cases (initialises f s.act) (starts_in f ss) (is_started_in f ss) (sym (starts-cons f s ss) ∙ e) (starts-none f ss)

few-cases : (b : Bool) (n : ℕ) → b ≡ true → cond b 1 0 + n ≤ 1 → n ≡ 0
few-cases true n e h = omega arith
few-cases false n e h = absurd (cc)

less-cases : (b : Bool) (n : ℕ) → cond b 1 0 + n ≤ 1 → n ≤ 1
less-cases true n h = omega arith
less-cases false n h = omega arith

abbrev pub AreInside : List Field → List StepTree → Type 0
AreInside fs ss = AllByRecursion (λ (s : StepTree). (f : ℕ) → field_of s.act ≡ Some f → f < length fs) ss

changed-inside : (a : ActTree) (f : ℕ) → changed_by a ≡ Some f → field_of a ≡ Some f
unfolding changed_by field_of
changed-inside (acts.Init g t) f e = e
changed-inside (acts.Update g t) f e = e
changed-inside (acts.Add g p) f e = e
changed-inside (acts.Remove g p) f e = e
changed-inside (acts.Deposit g p) f e = e
changed-inside (acts.Withdraw g p) f e = e
changed-inside (acts.HaveVariable g) f e = absurd (cc)
changed-inside (acts.Have g p) f e = absurd (cc)
changed-inside (acts.Guard g p) f e = absurd (cc)
changed-inside (acts.Require form) f e = absurd (cc)
changed-inside (acts.Assert form) f e = absurd (cc)

-- what a statement that changes the field is in an init
blocks : (fs : List Field) (before : List StepTree) (line : ℕ) (a : ActTree) (ss : List StepTree) (f : ℕ) → may_start a ≡ true → AreRuled fs mode.Init (before ++ record { act = a; line = line } ∷ []) ss
    → starts_in f (record { act = a; line = line } ∷ ss) ≤ 1 → changed_by a ≡ Some f → is_started_in f ss ≡ false
unfolding may_start changed_by
blocks fs before line (acts.Init g t) ss f start rules few e =
    let same : nat_eq f g ≡ true = eq-eqb f g (sym (some_is g f e)) in
    let count = starts-cons f (record { act = acts.Init g t; line = line }) ss in
    starts-none f ss (few-cases (nat_eq f g) (starts_in f ss) same (subst (λ n. n ≤ 1) count few))
blocks fs before line (acts.Add g p) ss f start rules few e =
    later-none fs f before (record { act = acts.Add g p; line = line }) [] ss rules (λ r h. ap (λ n. may_follow r (acts.Add n p)) (some_is g f e) ∙ behind-add f p r h)
blocks fs before line (acts.Deposit g p) ss f start rules few e =
    later-none fs f before (record { act = acts.Deposit g p; line = line }) [] ss rules (λ r h. ap (λ n. may_follow r (acts.Deposit n p)) (some_is g f e) ∙ behind-deposit f p r h)
blocks fs before line (acts.Require form) ss f start rules few e = absurd (cc)
blocks fs before line (acts.Assert form) ss f start rules few e = absurd (cc)
blocks fs before line (acts.Update g t) ss f start rules few e = absurd (cc)
blocks fs before line (acts.HaveVariable g) ss f start rules few e = absurd (cc)
blocks fs before line (acts.Remove g p) ss f start rules few e = absurd (cc)
blocks fs before line (acts.Have g p) ss f start rules few e = absurd (cc)
blocks fs before line (acts.Withdraw g p) ss f start rules few e = absurd (cc)
blocks fs before line (acts.Guard g p) ss f start rules few e = absurd (cc)

pub are-ordered : (fs : List Field) (before ss : List StepTree) → AreRuled fs mode.Init before ss → AreInside fs ss → ((f : ℕ) → f < length fs → starts_in f ss ≤ 1) → AreOrdered ss
are-ordered fs before [] rules inside few = tt
are-ordered fs before (s ∷ ss) rules inside few = (
  (λ f e. blocks fs before s.line s.act ss f rules.0.stands rules.1 (few f (inside.0 f (changed-inside s.act f e))) e),
  are-ordered fs (before ++ s ∷ []) ss rules.1 inside.1 (λ f lt. less-cases (initialises f s.act) (starts_in f ss) (subst (λ n. n ≤ 1) (starts-cons f s ss) (few f lt))),
)

-- ---- what a statement leaves of the other fields

pub spared : (fs : List Field) (cur : List Tree) (a : ActTree) (f : ℕ) → may_start a ≡ true → (changed_by a ≡ Some f → ⊥) → get_or (advanced fs cur a) f Nil ≡ get_or cur f Nil
unfolding field_of changed_by after may_start
spared fs cur (acts.Init g t) f start h = get_or-set_other cur g f _ Nil (λ e. h (ap Some (sym e)))
spared fs cur (acts.Add g p) f start h = get_or-set_other cur g f _ Nil (λ e. h (ap Some (sym e)))
spared fs cur (acts.Deposit g p) f start h = get_or-set_other cur g f _ Nil (λ e. h (ap Some (sym e)))
spared fs cur (acts.Require form) f start h = refl
spared fs cur (acts.Assert form) f start h = absurd (cc)
spared fs cur (acts.Update g t) f start h = absurd (cc)
spared fs cur (acts.HaveVariable g) f start h = absurd (cc)
spared fs cur (acts.Remove g p) f start h = absurd (cc)
spared fs cur (acts.Have g p) f start h = absurd (cc)
spared fs cur (acts.Withdraw g p) f start h = absurd (cc)
spared fs cur (acts.Guard g p) f start h = absurd (cc)

pub part-tokens : (t : Token) (whole rest : List Token) (f : ℕ) → IsPart t whole rest → nat_eq t.field f ≡ false → tokens_of f whole ≡ tokens_of f rest
part-tokens t whole rest f part e =
    ap (tokens_of f) part.whole_is ∙ tokens_of-append f part.before (t ∷ part.behind)
    ∙ ap (λ b. tokens_of f part.before ++ cond b (t ∷ tokens_of f part.behind) (tokens_of f part.behind)) e
    ∙ sym (tokens_of-append f part.before part.behind) ∙ ap (tokens_of f) (sym part.rest_is)

apart-field : (g f : ℕ) → (◌≡◌ {A = Option ℕ} (Some g) (Some f) → ⊥) → nat_eq g f ≡ false
apart-field g f h = cases (nat_eq g f) refl where
  cases : (b : Bool) → nat_eq g f ≡ b → b ≡ false
  cases true e = absurd (h (ap Some (eqb-true g f e)))
  cases false e = refl

module _ (fs : List Field) (few : length fs ≤ 32) (v : Valuation) (others : List Token) (x : Exchanging) (cur : List Tree) (stands : IsUnderWay fs v others x cur) (f : ℕ) (lt : f < length fs) where
  revaluing-tokens : (g : ℕ) (n : ℤ) → nat_eq g f ≡ false → tokens_of f (bag_at others (revaluing g n x)) ≡ tokens_of f (bag_at others x)
  revaluing-tokens g n other = either (token_name g x.variables) (tokens_of f (bag_at others (revaluing g n x)) ≡ tokens_of f (bag_at others x))
      (λ none. rw none refl)
      (λ name some.
      let tk = stands.named g name some in
      let parts = revalued-part name n tk.0 x.hand x.entered others tk.1 (few-held name (x.hand ++ x.entered) x.given (stands.once name)) in
      let away : nat_eq tk.0.field f ≡ false = ap (λ m. nat_eq m f) tk.2 ∙ other in
      rw some (part-tokens _ _ parts.rest f parts.is away ∙ sym (part-tokens tk.0 (bag_at others x) parts.rest f parts.was away)))

  given-tokens : (tk : Token) → nat_eq tk.field f ≡ false → tokens_of f (bag_at others (after_giving tk x)) ≡ tokens_of f (bag_at others x)
  given-tokens tk other = part-tokens tk (bag_at others (after_giving tk x)) (bag_at others x) f (given-part (next_name x.given) tk x.hand x.entered others) other

  started-tokens : (s : Strategy) (g : ℕ) (w : Value) → nat_eq g f ≡ false → tokens_of f (bag_at others (started s g w x)) ≡ tokens_of f (bag_at others x)
  started-tokens Variable g w other = revaluing-tokens g (number_of w) other
  started-tokens Count g w other = given-tokens (token_of g (pos 0) (number_of w)) other
  started-tokens PersistentCount g w other = given-tokens (token_of g (pos 0) (number_of w)) other
  started-tokens Constant g w other = refl
  started-tokens NotTokenized g w other = refl
  started-tokens OptionField g w other = refl
  started-tokens Map g w other = refl
  started-tokens Set g w other = refl
  started-tokens Multiset g w other = refl
  started-tokens PersistentOption g w other = refl
  started-tokens PersistentMap g w other = refl
  started-tokens PersistentSet g w other = refl
  started-tokens StorageMap g w other = refl

  pub tokens-kept : (fit : ℤ → Bool) (y : Exchanging) (line : ℕ) (a : ActTree) → may_start a ≡ true → does fit fs (record { act = a; line = line }) x ≡ Ok y → (changed_by a ≡ Some f → ⊥) → tokens_of f (bag_at others y) ≡ tokens_of f (bag_at others x)
  unfolding does may_start changed_by
  tokens-kept fit y line (acts.Require form) start e h =
      let a = unless-ok Width _ _ y e in
      let b = unless-ok (RequireFalse line) _ (Ok x) y a.1 in
      ap (λ (z : Exchanging). tokens_of f (bag_at others z)) (sym (ok_is x y b.1))
  tokens-kept fit y line (acts.Init g t) start e h =
      let a = unless-ok Width _ _ y e in
      ap (λ (z : Exchanging). tokens_of f (bag_at others z)) (sym (ok_is _ y a.1)) ∙ started-tokens (strategy_at fs g) g (new_value fs g t x) (apart-field g f h)
  tokens-kept fit y line (acts.Add g p) start e h =
      let a = unless-ok Width _ _ y e in
      ap (λ (z : Exchanging). tokens_of f (bag_at others z)) (sym (ok_is _ y a.1)) ∙ given-tokens (token_of g (key_at p x) (amount_at p x)) (apart-field g f h)
  tokens-kept fit y line (acts.Deposit g p) start e h =
      let a = asked-token fit perm p x _ y e in
      let part = taken-part (next_name x.tokens) a.token x.hand x.entered others a.held (few-held (next_name x.tokens) (x.hand ++ x.entered) x.given (stands.once (next_name x.tokens))) in
      ap (λ (z : Exchanging). tokens_of f (bag_at others z)) (sym a.answer) ∙ sym (part-tokens a.token (bag_at others x) _ f part (perm-other (length fs) a.token.field f few lt (sym a.field)))
  tokens-kept fit y line (acts.Assert form) start e h = absurd (cc)
  tokens-kept fit y line (acts.Update g t) start e h = absurd (cc)
  tokens-kept fit y line (acts.HaveVariable g) start e h = absurd (cc)
  tokens-kept fit y line (acts.Remove g p) start e h = absurd (cc)
  tokens-kept fit y line (acts.Have g p) start e h = absurd (cc)
  tokens-kept fit y line (acts.Withdraw g p) start e h = absurd (cc)
  tokens-kept fit y line (acts.Guard g p) start e h = absurd (cc)

-- ---- fields without first values yet

pub record AreWaiting (fs : List Field) (others : List Token) (ss : List StepTree) (x : Exchanging) (cur : List Tree) : Type 0 where
  pub ordered : AreOrdered ss
  pub starts : AllByRecursion (λ (s : StepTree). may_start s.act ≡ true) ss
  pub untouched : (f : ℕ) → f < length fs → is_started_in f ss ≡ true → get_or cur f Nil ≡ blank (sort_of (strategy_at fs f))
  pub free : (f : ℕ) → f < length fs → is_started_in f ss ≡ true → is_variable (strategy_at fs f) ≡ false → tokens_of f (bag_at others x) ≡ []

or-later : (a b : Bool) → b ≡ true → (a || b) ≡ true
or-later true b e = refl
or-later false b e = e

pub waiting-next : (fit : ℤ → Bool) (fs : List Field) → length fs ≤ 32 → (v : Valuation) (others : List Token) (s : StepTree) (ss : List StepTree) (x y : Exchanging) (cur : List Tree) → IsUnderWay fs v others x cur
    → does fit fs s x ≡ Ok y → AreWaiting fs others (s ∷ ss) x cur → AreWaiting fs others ss y (advanced fs cur s.act)
waiting-next fit fs few v others s ss x y cur stands e h =
    let spare = λ (f : ℕ) (started : is_started_in f ss ≡ true) (c : changed_by s.act ≡ Some f). let k = h.ordered.0 f c in clash (is_started_in f ss) started k in
    record {
      ordered = h.ordered.1;
      starts = h.starts.1;
      untouched = λ f lt started. spared fs cur s.act f h.starts.0 (spare f started) ∙ h.untouched f lt (or-later (initialises f s.act) _ started);
      free = λ f lt started var. tokens-kept fs few v others x cur stands f lt fit y s.line s.act h.starts.0 e (spare f started) ∙ h.free f lt (or-later (initialises f s.act) _ started) var;
    } where
      clash : (b : Bool) → b ≡ true → b ≡ false → ⊥
      clash b p q = let e : true ≡ false = sym p ∙ q in cc
