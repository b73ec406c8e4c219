-- Exchanges of inits, along the valuation of their arguments.
use Rattle.std.proofs.Common.{◌≡◌, ℕ, zero, suc, ◌+◌, ◌<◌, ◌≤◌, ℤ, Bool, true, false, not, ◌&&◌, List, [], ◌∷◌, ◌++◌, length, get_or, append-nil, filter_map, Option, Some, None, is_some, Ok, inl, refl, sym, ap, subst, ◌∙◌, arith, nat_eq, nat_lt}
use Rattle.std.specs.List.{AllByRecursion, cons_option, range_with_len}
use Rattle.std.proofs.lemmas.Bool.{eq-eqb, ltb-false}
use Rattle.sync_base.specs.Outcome.{◌>>=◌}
use Rattle.sync_terms.specs.Trees.{Tree, Nil}
use Rattle.sync_terms.specs.Maps as maps
use Rattle.sync_terms.specs.Values.{Valuation, with_terms}
use Rattle.sync_machine.specs.declared.fields.Field.{Field}
use Rattle.sync_base.specs.declared.strategies.OpMode.TheVariants as mode
use Rattle.sync_machine.specs.Machines.{ActTree, StepTree, OperationTree}
use Rattle.sync_machine.specs.Machines as acts
use Rattle.sync_machine.specs.Named.{own_names}
use Rattle.sync_machine.specs.Naming.{bound_by, bound_names, is_in, start_fault, IsTextName}
use Rattle.sync_machine.specs.Statements.{field_of}
use Rattle.sync_machine.specs.States.{State, AreGiven, IsInit, IsKeptSafe, AreMet, first_values, last_values, values_in, strategy_at, strategy_of, sort_of, blank}
use Rattle.sync_machine.proofs.Tests.{conditions-are-tests, safety-is-a-test}
use Rattle.sync_rules.specs.Locality.{is_variable}
use Rattle.sync_rules.specs.Order.{may_start}
use Rattle.sync_rules.specs.Shapes.{fits}
use Rattle.sync_rules.specs.declared.slots.Role.TheVariants.{Given}
use Rattle.sync_rules.specs.Slots.{SlotTree, started_at, given_by, earliest, field_slot}
use Rattle.sync_join.specs.Shards.{Kept, AreRecords}
use Rattle.sync_join.specs.Join.{join_of, value_at}
use Rattle.sync_join.proofs.States.{joined-state}
use Rattle.sync_join.proofs.Through.{append-nothing}
use Rattle.sync_exchange.specs.declared.hands.Held.{Held}
use Rattle.sync_exchange.specs.Exchange.{Exchanging, Exchanged, argument, tokens_in, token_name, use_variables, variable_slots, beginning, does_all, outcome}
use Rattle.sync_exchange.specs.Projection.{AreNames, ArePermissions, AreBlank}
use Rattle.sync_exchange.proofs.Terms.{Same, and_left}
use Rattle.sync_exchange.proofs.Passing.{ok_is, bind-ok}
use Rattle.sync_exchange.proofs.OneStrategy.{nothing-bound}
use Rattle.sync_exchange.proofs.Standing.{bag_at, IsReady}
use Rattle.sync_exchange.proofs.Going.{is_known_by, AreLawful, AreUsed, total_gives, going, Walk, walked}
use Rattle.sync_exchange.proofs.Rules.{IsRegular, AreRuled, regular, are-lawful}
use Rattle.sync_exchange.proofs.Using.{valued-is, first-cases, earliest-some, field-slot}
use Rattle.sync_exchange.proofs.Owning.{names-enough}
use Rattle.sync_exchange.proofs.Whole.{values-list, params-apart, are-given}
use Rattle.sync_exchange.proofs.Beginning.{same-outside, all-one, text-outside, variable-inside, some-name}
use Rattle.sync_exchange.proofs.Transitions.{outcome-ok, below-length}
use Rattle.sync_exchange.proofs.FirstValues.{is_started_in, starts_in, AreWaiting, are-ordered, waiting-next}
use Rattle.sync_exchange.proofs.Opening.{IsOpened, earliest-given, opening}
use Rattle.sync_exchange.proofs.Starting.{doing-init}
use Rattle.sync_exchange.proofs.Initialising.{is_outside, init-reading, all-start, all-inside, starts-once, start-open, open-stands, initialises-in}
use Rattle.sync_exchange_laws.specs.Along.{IsVariableThere, variable_left, AreVariablesThere, left_under, AreThere, all_left, begun_under, ended}
use Rattle.sync_exchange_laws.specs.Terms.{IsStoredThere, AreStoredThere}
use Rattle.sync_exchange_laws.specs.Starts.{start_valuation, ConditionsMakeStarts, StartsGoAlong, StartsFollow, StartsOfTermsFollow}
use Rattle.sync_exchange_laws.proofs.Variables.{variables-used}
use Rattle.sync_exchange_laws.proofs.Ending.{start-number, first-nil, unbound-kept, all-nil}
use Rattle.sync_exchange_laws.proofs.Along.{all-along, went-along}
use Rattle.sync_exchange_laws.proofs.Returning.{follows-along}
use Rattle.sync_exchange_laws.proofs.Substituting.{terms-are-exchanged, all-same}

-- ---- an init binds no name

act-binds-none : (fs : List Field) (a : ActTree) → may_start a ≡ true → fits (strategy_of fs a) a ≡ true
    → bound_by a ≡ None
unfolding may_start fits field_of bound_by
act-binds-none fs (acts.Init f t) start fit = refl
act-binds-none fs (acts.Require form) start fit = refl
act-binds-none fs (acts.Add f p) start fit = nothing-bound (strategy_at fs f) p fit
act-binds-none fs (acts.Deposit f p) start fit = nothing-bound (strategy_at fs f) p fit
act-binds-none fs (acts.Assert form) start fit = absurd (cc)
act-binds-none fs (acts.Update f t) start fit = absurd (cc)
act-binds-none fs (acts.HaveVariable f) start fit = absurd (cc)
act-binds-none fs (acts.Remove f p) start fit = absurd (cc)
act-binds-none fs (acts.Have f p) start fit = absurd (cc)
act-binds-none fs (acts.Withdraw f p) start fit = absurd (cc)
act-binds-none fs (acts.Guard f p) start fit = absurd (cc)

binds-none : (fs : List Field) (before ss : List StepTree) → AreRuled fs mode.Init before ss → bound_names ss ≡ []
binds-none fs before [] rules = refl
binds-none fs before (s ∷ ss) rules =
    ap (λ (o : Option ℕ). cons_option o (bound_names ss)) (act-binds-none fs s.act rules.0.stands rules.0.fit)
    ∙ binds-none fs (before ++ s ∷ []) ss rules.1

none-given : (ns : List ℤ) (v : Valuation) → AreGiven [] ns v → ns ≡ []
none-given [] v h = refl
none-given (n ∷ ns) v h = absurd h

-- an init looks for no stored object
act-stored : (v : Valuation) (a : ActTree) (x : Exchanging) → may_start a ≡ true
    → IsStoredThere v a x
unfolding may_start
act-stored v (acts.Init f t) x start = tt
act-stored v (acts.Require form) x start = tt
act-stored v (acts.Add f p) x start = tt
act-stored v (acts.Deposit f p) x start = tt
act-stored v (acts.Assert form) x start = absurd (cc)
act-stored v (acts.Update f t) x start = absurd (cc)
act-stored v (acts.HaveVariable f) x start = absurd (cc)
act-stored v (acts.Remove f p) x start = absurd (cc)
act-stored v (acts.Have f p) x start = absurd (cc)
act-stored v (acts.Withdraw f p) x start = absurd (cc)
act-stored v (acts.Guard f p) x start = absurd (cc)

all-stored : (fs : List Field) (v : Valuation) (ss : List StepTree) (x : Exchanging)
    → AllByRecursion (λ (s : StepTree). may_start s.act ≡ true) ss → AreStoredThere fs v ss x
all-stored fs v [] x starts = tt
all-stored fs v (s ∷ ss) x starts =
    (act-stored v s.act x starts.0, all-stored fs v ss (left_under fs v s.act x) starts.1)

-- ---- the slots of variables: each is given

module _ (fs : List Field) (ss : List StepTree) (starts : (f : ℕ) → f < length fs → 1 ≤ starts_in f ss) where
  given-slot : (f : ℕ) (sl : SlotTree) → f < length fs → field_slot fs ss f ≡ Some sl → sl.role ≡ Given
  given-slot f sl lt e =
      first-cases (earliest (given_by f) ss) _ sl (sl.role ≡ Given) (field-slot fs ss f sl e).1
      (λ here.
      let s = earliest-some (given_by f) ss sl here in (valued-is Given f s.0.line (started_at f s.0.act) sl s.1).1)
      (λ none later. absurd (let some = earliest-given f ss (starts f lt) in let no = sym some ∙ ap is_some none in cc))

  given-here : (v : Valuation) (sl : SlotTree) (x : Exchanging) → sl.role ≡ Given → IsVariableThere v sl x
  given-here v sl x is = rw is tt

  given-next : (v : Valuation) (n : ℕ) (rest : List SlotTree) (x : Exchanging) (o : Option SlotTree) → n < length fs
      → field_slot fs ss n ≡ o → ((y : Exchanging) → AreVariablesThere v rest y)
      → AreVariablesThere v (cons_option o rest) x
  given-next v n rest x None lt e later = later x
  given-next v n rest x (Some sl) lt e later = (given-here v sl x (given-slot n sl lt e), later (variable_left v sl x))

  given-there : (v : Valuation) (ns : List ℕ) (x : Exchanging) → AllByRecursion (λ (f : ℕ). f < length fs) ns
      → AreVariablesThere v (filter_map (field_slot fs ss) ns) x
  given-there v [] x below = tt
  given-there v (n ∷ ns) x below =
      given-next v n (filter_map (field_slot fs ss) ns) x (field_slot fs ss n) below.0 refl
      (λ y. given-there v ns y below.1)

-- ---- the valuation of the arguments

module _ (fs : List Field) (o : OperationTree) (args : List ℤ) (init : IsInit o) (rules : IsRegular fs o) where
  abbrev beyond_fields : Valuation
  beyond_fields = record { number = argument (own_names o) (args ++ []); mapping = λ z. maps.nil }

  pub ruled : AreRuled fs mode.Init [] o.steps
  ruled = subst (λ k. AreRuled fs k [] o.steps) init rules.rules

  no-names : bound_names o.steps ≡ []
  no-names = binds-none fs [] o.steps ruled

  outside-number : (z : ℕ) → nat_lt z (length fs) ≡ false
      → argument o.params args z ≡ (start_valuation fs o args).number z
  outside-number z out =
      ap (λ (ps : List ℕ). argument ps args z) (sym (append-nil o.params))
      ∙ ap (λ (qs : List ℕ). argument (o.params ++ qs) args z) (sym no-names)
      ∙ ap (λ (ns : List ℤ). argument (own_names o) ns z) (sym (append-nil args))
      ∙ (same-outside fs [] beyond_fields z out).number

  outside-mapping : (z : ℕ) → nat_lt z (length fs) ≡ false → maps.nil ≡ (start_valuation fs o args).mapping z
  outside-mapping z out = (same-outside fs [] beyond_fields z out).mapping

  pub first-given : length args ≡ length o.params → AreGiven o.params args (start_valuation fs o args)
  first-given long =
      are-given (start_valuation fs o args) o.params args long (params-apart fs [] o.params rules.params).1
      (all-one IsTextName (λ z. (start_valuation fs o args).number z ≡ argument o.params args z) o.params
      (λ z text. sym (outside-number z (text-outside fs z rules.few text))) rules.texts.params)

pub conditions-make-starts : ConditionsMakeStarts
conditions-make-starts m texts named ruled o has init args long holds =
    let rules = regular m texts named ruled o has in
    let v = start_valuation m.fields o args in
    record {
      names = v;
      declared = has;
      is_init = init;
      given = first-given m.fields o args init rules long;
      met = (conditions-are-tests m.fields v (first_values m.fields o.mode) o.steps).0 holds;
      leaves = refl;
    }

-- ---- the exchange of an init

first-blank : (fs : List Field) (f : ℕ) → f < length fs
    → get_or (first_values fs mode.Init) f Nil ≡ blank (sort_of (strategy_at fs f))
first-blank [] f lt = absurd (omega arith)
first-blank (g ∷ fs) zero lt = refl
first-blank (g ∷ fs) (suc f) lt = first-blank fs f (omega arith)

all-used : (fs : List Field) (vars : List (ℕ × ℕ)) (ss : List StepTree)
    → ((f : ℕ) → is_variable (strategy_at fs f) ≡ true → (name : ℕ) × (token_name f vars ≡ Some name))
    → AreUsed fs vars ss
all-used fs vars [] h = tt
all-used fs vars (s ∷ ss) h = ((λ f changed var. h f var), all-used fs vars ss h)

started-first : (f : ℕ) (t : Tree) (line : ℕ) (ss : List StepTree)
    → is_started_in f (record { act = acts.Init f t; line = line } ∷ ss) ≡ true
started-first f t line ss = let e : nat_eq f f ≡ true = eq-eqb f f refl in rw e refl

init-inside : (fs : List Field) (v : Valuation) (q : ℕ → Bool) (x y : Exchanging) (cur : List Tree) (f : ℕ) (t : Tree)
    → IsReady fs v q x y cur (acts.Init f t) → f < length fs
unfolding field_of
init-inside fs v q x y cur f t r = r.lawful.inside f refl

outside-is : (b : Bool) → not b ≡ true → b ≡ false
outside-is true e = absurd (cc)
outside-is false e = refl

module _ (fs : List Field) (o : OperationTree) (args : List ℤ) (tokens given : List ℕ) (hand : List Held)
    (kept : Kept) (whole : State)
    (init : IsInit o) (names : AreNames fs o tokens given hand) (rules : IsRegular fs o)
    (perms : ArePermissions (tokens_in hand)) (blanks : AreBlank fs kept.records) (empty : kept.stored ≡ []) where
  abbrev start : Exchanging
  start = beginning fs o args tokens given whole hand kept

  abbrev v : Valuation
  v = start_valuation fs o args

  abbrev cur : List Tree
  cur = first_values fs mode.Init

  once : (f : ℕ) → f < length fs → starts_in f o.steps ≡ 1
  once = starts-once fs o.steps (subst (λ k. start_fault fs k o.steps ≡ None) init rules.started)

  at-least : (f : ℕ) → f < length fs → 1 ≤ starts_in f o.steps
  at-least f lt = let e = once f lt in omega (arith, e)

  at-most : (f : ℕ) → f < length fs → starts_in f o.steps ≤ 1
  at-most f lt = let e = once f lt in omega (arith, e)

  abbrev in_order : AreRuled fs mode.Init [] o.steps
  in_order = ruled fs o args init rules

  laws : AreLawful fs (is_outside fs) o.params [] o.steps
  laws = are-lawful fs o.mode (is_outside fs) o.params [] o.steps rules.few rules.rules rules.statements
      rules.texts.bound
      (init-reading fs [] o.steps in_order)

  pub slots-there : AreVariablesThere v (variable_slots fs o) start
  slots-there = given-there fs o.steps at-least v (range_with_len 0 (length fs)) start (below-length (length fs))

  module _ (y0 : Exchanging) (first : use_variables (variable_slots fs o) start ≡ Ok y0) where
    pub begun-is : begun_under fs v o args tokens given whole hand kept ≡ y0
    begun-is = ok_is _ y0 (sym (variables-used v (variable_slots fs o) start slots-there) ∙ first)

    opened : IsOpened fs o.steps v start.names at-least (total_gives fs o.steps) y0
    opened =
        let enough = names-enough fs o tokens given hand names in
        opening fs o.steps v start.names at-least (total_gives fs o.steps) (length fs) 0 start y0 (omega arith) first
        (omega (arith, enough))
        (start-open fs o args tokens given hand kept whole rules.few names perms blanks empty v)

    records : AreRecords fs kept.records
    records =
        (start-open fs o args tokens given hand kept whole rules.few names perms blanks empty v).sound.shaped.records

    begun-number : (z : ℕ) → nat_lt z (length fs) ≡ false → y0.names.number z ≡ v.number z
    begun-number z out =
        sym (opened.all.beyond z out).number ∙ start-number fs o args tokens given hand kept whole z out
        ∙ outside-number fs o args init rules z out

    begun-mapping : (z : ℕ) → nat_lt z (length fs) ≡ false → y0.names.mapping z ≡ maps.nil
    begun-mapping z out =
        sym (opened.all.beyond z out).mapping ∙ first-nil fs kept whole z records (ltb-false z (length fs) out)

    pub begun-same : (q : ℕ → Bool) → ((z : ℕ) → q z ≡ true → nat_lt z (length fs) ≡ false) → Same q y0.names v
    begun-same q beyond = record {
      number = λ z e. begun-number z (beyond z e);
      mapping = λ z e. begun-mapping z (beyond z e) ∙ outside-mapping fs o args init rules z (beyond z e);
    }

    waiting : AreWaiting fs [] o.steps y0 cur
    waiting = record {
      ordered = are-ordered fs [] o.steps in_order (all-inside fs (is_outside fs) o.params [] o.steps laws) at-most;
      starts = all-start fs [] o.steps in_order;
      untouched = λ f lt k. first-blank fs f lt;
      free = λ f lt k var. opened.all.free f lt (inl var);
    }

    used : AreUsed fs y0.variables o.steps
    used = all-used fs y0.variables o.steps
        (λ f var. some-name (token_name f y0.variables) (opened.all.used f (variable-inside fs f var) var))

    module _ (fit : ℤ → Bool) (y : Exchanging) (rest : does_all fit fs o.steps y0 ≡ Ok y) where
      end-same : Same (is_outside fs) y.names v
      end-same = record {
        number = λ z e.
            let out = outside-is (nat_lt z (length fs)) e in
            sym (unbound-kept fit fs o.steps y0 y z rest
            (ap (λ (ps : List ℕ). is_in z ps) (no-names fs o args init rules)))
            ∙ begun-number z out;
        mapping = λ z e.
            let out = outside-is (nat_lt z (length fs)) e in
            all-nil fit fs o.steps y0 y z (begun-mapping z out) rest ∙ outside-mapping fs o args init rules z out;
      }

      pub first-walk : IsKeptSafe fs v cur o.steps → Walk fit fs v [] cur o.steps y0 y
      first-walk safe =
          going fit fs rules.few (is_outside fs) o.params v [] (λ ss x c. AreWaiting fs [] ss x c)
          (λ q x z c f t line ss h r extra e.
          let lt = init-inside fs v q x z c f t r in
          doing-init fs v [] q x z c h f t r lt (extra.untouched f lt (started-first f t line ss))
          (extra.free f lt (started-first f t line ss)) _ e)
          (λ q s ss x z c k h e extra. waiting-next fit fs rules.few v [] s ss x z c h e extra)
          (λ z e. ap not e) [] o.steps y0 y cur laws rest (open-stands fs v start.names y0 opened.all) safe end-same
          opened.enough used waiting

-- ---- the laws

pub starts-go-along : StartsGoAlong
starts-go-along fit m proved o has init args long tokens given hand names perms kept blanks empty whole x e =
    let rules = regular m proved.symbols proved.named proved.strategies o has in
    let start = beginning m.fields o args tokens given whole hand kept in
    let out = outcome-ok (use_variables (variable_slots m.fields o) start >>= does_all fit m.fields o.steps) x e in
    let y = out.0 in
    let a = bind-ok (use_variables (variable_slots m.fields o) start) (does_all fit m.fields o.steps) y out.1 in
    let v = start_valuation m.fields o args in
    let gives = first-given m.fields o args init rules long in
    let safe = proved.holds.starts_safe o has init args v gives in
    let cur = first_values m.fields mode.Init in
    let w = first-walk m.fields o args tokens given hand kept whole init names rules perms blanks empty a.0 a.1 fit
    y a.2
    (subst (λ k. IsKeptSafe m.fields v (first_values m.fields k) o.steps) init safe) in
    let went = all-along fit m.fields v [] o.steps a.0 y cur w in
    let d = walked fit m.fields v [] o.steps a.0 y cur w in
    let leaves : x ≡ ended y = sym (ok_is _ x (ap outcome (sym out.1) ∙ e)) in
    let last = last_values m.fields cur o.steps in
    let ends : join_of m.fields (bag_at [] y) y.kept ≡ Some (values_in v m.fields last) =
    joined-state m.fields (bag_at [] y) y.kept _
    (values-list v (value_at m.fields (bag_at [] y) y.kept) 0 m.fields last d.stands.makes.many
    (λ i lt.
    let at : 0 + i ≡ i = omega arith in
    ap (value_at m.fields (bag_at [] y) y.kept) at ∙ d.stands.makes.values i lt)) in
    let begins =
    initialises-in fit m proved o has init args long tokens given hand names perms kept blanks empty whole x e in
    record {
      named_as = gives;
      none_bound = none-given x.bound begins.start.names
          (subst (λ (ps : List ℕ). AreGiven ps x.bound begins.start.names)
          (no-names m.fields o args init rules) begins.answered);
      along = went-along m.fields v o args tokens given hand kept whole a.0 y x
          (slots-there m.fields o args tokens given hand kept whole init names rules perms blanks empty)
          (begun-is m.fields o args tokens given hand kept whole init names rules perms blanks empty a.0 a.1) went
          leaves;
      conditions = (conditions-are-tests m.fields v (first_values m.fields o.mode) o.steps).1
          (subst (λ k. AreMet m.fields v (first_values m.fields k) o.steps) (sym init) d.met);
      safe = (safety-is-a-test m.fields v (first_values m.fields o.mode) o.steps).1 safe;
      joined = ap (λ (u : Exchanged). join_of m.fields (tokens_in u.hand) u.kept) leaves
          ∙ ap (λ ts. join_of m.fields ts y.kept) (sym (append-nothing (tokens_in (y.hand ++ y.entered))))
          ∙ ends
          ∙ ap (λ k. Some (values_in v m.fields (last_values m.fields (first_values m.fields k) o.steps))) (sym init);
    }

pub starts-follow : StartsFollow
starts-follow m proved o has init args long tokens given hand names perms kept blanks empty whole there =
    let rules = regular m proved.symbols proved.named proved.strategies o has in
    let start = beginning m.fields o args tokens given whole hand kept in
    let v = start_valuation m.fields o args in
    let begun = begun_under m.fields v o args tokens given whole hand kept in
    let slots =
    slots-there m.fields o args tokens given hand kept whole init names rules perms blanks empty in
    let first = variables-used v (variable_slots m.fields o) start slots in
    let lawful = laws m.fields o args tokens given hand kept whole init names rules perms blanks empty in
    let same = begun-same m.fields o args tokens given hand kept whole init names rules perms blanks empty begun first
    (λ z. is_outside m.fields z && is_known_by m.fields (o.params ++ bound_names []) z)
    (λ z e. outside-is (nat_lt z (length m.fields)) (and_left _ _ e)) in
    (follows-along m.fields v (is_outside m.fields) o args tokens given hand kept whole
    (λ z out. sym (outside-mapping m.fields o args init rules z out)) lawful _
    (record { variables = slots; found = there; leaves = refl }) same).0

pub starts-of-terms-follow : StartsOfTermsFollow
starts-of-terms-follow m proved o has init args long tokens given hand apart perms kept blanks empty whole begun first
    names v reads d h dues =
    let rules = regular m proved.symbols proved.named proved.strategies o has in
    let w = start_valuation m.fields o args in
    let u = with_terms names v in
    let starts = all-start m.fields [] o.steps (ruled m.fields o args init rules) in
    let went = terms-are-exchanged m.fields names v o.steps d begun h dues
    (all-stored m.fields u o.steps begun starts) in
    let same = all-same m.fields u w o.steps begun reads went.0 in
    let is = begun-is m.fields o args tokens given hand kept whole init apart rules perms blanks empty begun first in
    let follow =
    starts-follow m proved o has init args long tokens given hand apart perms kept blanks empty whole
    (subst (AreThere m.fields w o.steps) (sym is) same.0) in (
      follow ∙ ap (λ (b : Exchanging). Ok (ended (all_left m.fields w o.steps b))) is
          ∙ ap (λ (b : Exchanging). Ok (ended b)) (sym same.1),
      went.1,
    )
