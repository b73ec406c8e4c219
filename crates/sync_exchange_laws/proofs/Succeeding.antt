-- An exchange succeeds where the holder brings what it asks under the valuation of the values that it binds.
use Rattle.std.proofs.Common.{◌≡◌, ℕ, ◌<◌, ◌≤◌, ℤ, Bool, true, false, ◌&&◌, List, [], ◌∷◌, ◌++◌, length, append_assoc, append-nil, Some, Ok, Err, inl, inr, ◌⊎◌, refl, sym, ap, subst, ◌∙◌, arith, nat_eq, nat_lt}
use Rattle.std.specs.Ordering.{int_eq}
use Rattle.std.specs.Cmp.{int_eq_equiv}
use Rattle.std.proofs.lemmas.Bool.{eq-eqb, le-ltb, cases_lt}
use Rattle.std.proofs.lemmas.List.Elements.{filter_map-append}
use Rattle.sync_base.specs.Outcome.{◌>>=◌}
use Rattle.sync_terms.specs.Maps as maps
use Rattle.sync_terms.specs.Values.{Valuation}
use Rattle.sync_machine.specs.declared.fields.Field.{Field}
use Rattle.sync_machine.specs.Machines.{PlaceTree, ActTree, StepTree, OperationTree, MachineTree}
use Rattle.sync_machine.specs.Machines as acts
use Rattle.sync_machine.specs.Named.{own_names}
use Rattle.sync_machine.specs.Naming.{bound_by, bound_names, is_in}
use Rattle.sync_machine.specs.States.{State, IsInit, IsAt, AreGiven, IsKeptSafe, first_values, sort_of, strategy_at}
use Rattle.sync_rules.specs.Locality.{place_names_only}
use Rattle.sync_join.specs.declared.tokens.Token.{Token}
use Rattle.sync_join.specs.Shards.{Kept, perm, AreSoundShards}
use Rattle.sync_join.specs.Join.{join_of}
use Rattle.sync_exchange.specs.declared.hands.Held.{Held}
use Rattle.sync_exchange.specs.declared.hands.XStop.{XStop}
use Rattle.sync_exchange.specs.Exchange.{Exchanging, Answer, named, is_at_place, key_at, is_asked, token_of, argument, tokens_in, use_variables, variable_slots, beginning, does, does_all}
use Rattle.sync_exchange.specs.Projection.{AreNames}
use Rattle.sync_exchange.proofs.Asking.{both-true}
use Rattle.sync_exchange.proofs.Terms.{Same, truth-same, and_left, and_right}
use Rattle.sync_exchange.proofs.Passing.{ok_is, bind-ok}
use Rattle.sync_exchange.proofs.Widening.{unbounded}
use Rattle.sync_exchange.proofs.Lawful.{IsLawful, reads_only, place-key, place-amount}
use Rattle.sync_exchange.proofs.Going.{is_known_by, AreLawful, known-bound, fresh-beyond}
use Rattle.sync_exchange.proofs.Answering.{Answers, all-answered, used-bind-nothing}
use Rattle.sync_exchange.proofs.Rules.{IsRegular, regular, are-lawful}
use Rattle.sync_exchange.proofs.Beginning.{valuation, number-inside, mapping-inside, same-outside, Trust, trust}
use Rattle.sync_exchange.proofs.Transitions.{outcome-ok}
use Rattle.sync_exchange_laws.specs.Conditions.{valuation_at}
use Rattle.sync_exchange_laws.specs.Progress.{IsBrought, AreBrought}
use Rattle.sync_exchange_laws.specs.Along.{key_under, value_under, begun_under, IsAlong}
use Rattle.sync_exchange_laws.specs.Succeeding.{IsBroughtUnder, AreBroughtUnder, values_behind, values_bound, values_bound_at, ExchangesSucceed}
use Rattle.sync_exchange_laws.proofs.Bringing.{is-asked-cases}
use Rattle.sync_exchange_laws.proofs.Testing.{argument-front}
use Rattle.sync_exchange_laws.proofs.Variables.{variables-used}
use Rattle.sync_exchange_laws.proofs.Ending.{is-argument, given-append, first-nil, all-nil}
use Rattle.sync_exchange_laws.proofs.Along.{IsAgreed, goes-under, exchanges-go-along}
use Rattle.sync_exchange_laws.proofs.Returning.{known-cases}
use Rattle.sync_exchange_laws.proofs.Progressing.{more-done, front-lawful, known, same, given-args, progresses}

-- ---- what is bound on the way

values-next : (fs : List Field) (s : StepTree) (ss : List StepTree) (x y : Exchanging) → does unbounded fs s x ≡ Ok y
    → values_bound fs (s ∷ ss) x ≡ values_bound fs ss y
values-next fs s ss x y e = ap (values_behind (values_bound fs ss) x.bound) e

values-stop : (fs : List Field) (s : StepTree) (ss : List StepTree) (x : Exchanging) (stop : XStop)
    → does unbounded fs s x ≡ Err stop → values_bound fs (s ∷ ss) x ≡ x.bound
values-stop fs s ss x stop e = ap (values_behind (values_bound fs ss) x.bound) e

-- what is bound in all is what is bound behind a front
values-front : (fs : List Field) (front back : List StepTree) (x y : Exchanging) → does_all unbounded fs front x ≡ Ok y
    → values_bound fs (front ++ back) x ≡ values_bound fs back y
values-front fs [] back x y e = ap (values_bound fs back) (ok_is x y e)
values-front fs (s ∷ ss) back x y e =
    let a = bind-ok (does unbounded fs s x) (does_all unbounded fs ss) y e in
    values-next fs s (ss ++ back) x a.0 a.1 ∙ values-front fs ss back a.0 y a.2

pub values-done : (fs : List Field) (ss : List StepTree) (x y : Exchanging) → does_all unbounded fs ss x ≡ Ok y
    → values_bound fs ss x ≡ y.bound
values-done fs ss x y e = ap (λ (ts : List StepTree). values_bound fs ts x) (sym (append-nil ss)) ∙ values-front fs ss [] x y e

answer-cases : (r : Answer) (P : Type 0) → ((y : Exchanging) → r ≡ Ok y → P) → ((stop : XStop) → r ≡ Err stop → P) → P
answer-cases (Ok y) P ok err = ok y refl
answer-cases (Err stop) P ok err = err stop refl

abbrev Extends : List ℤ → List ℤ → Type 0
Extends ns ms = (more : List ℤ) × (ms ≡ ns ++ more)

module _ (fs : List Field) (few : length fs ≤ 32) (trusted : ℕ → Bool) (params : List ℕ) where
  -- what is bound before stays in front
  values-more : (before ss : List StepTree) (x : Exchanging) → AreLawful fs trusted params before ss
      → Extends x.bound (values_bound fs ss x)
  values-more before [] x laws = ([], sym (append-nil x.bound))
  values-more before (s ∷ ss) x laws =
      answer-cases (does unbounded fs s x) (Extends x.bound (values_bound fs (s ∷ ss) x))
      (λ y e.
      let one = all-answered unbounded fs few trusted params y.names before (s ∷ []) x y (laws.0, laws.1, tt) (ap (λ r. r >>= does_all unbounded fs []) e) (λ z out. refl) in
      let rest = values-more (before ++ s ∷ []) ss y laws.2 in (
        one.values ++ rest.0,
        values-next fs s ss x y e ∙ rest.1 ∙ ap (λ (bs : List ℤ). bs ++ rest.0) one.bound
            ∙ append_assoc x.bound one.values rest.0,
      ))
      (λ stop e. ([], values-stop fs s ss x stop e ∙ sym (append-nil x.bound)))

laws-behind : (fs : List Field) (trusted : ℕ → Bool) (params : List ℕ) (before xs ys : List StepTree)
    → AreLawful fs trusted params before (xs ++ ys) → AreLawful fs trusted params (before ++ xs) ys
laws-behind fs trusted params before [] ys h =
    subst (λ (bs : List StepTree). AreLawful fs trusted params bs ys) (sym (append-nil before)) h
laws-behind fs trusted params before (x ∷ xs) ys h =
    subst (λ (bs : List StepTree). AreLawful fs trusted params bs ys) (append_assoc before (x ∷ []) xs)
    (laws-behind fs trusted params (before ++ x ∷ []) xs ys h.2)

given-length : (ps : List ℕ) (ns : List ℤ) (v : Valuation) → AreGiven ps ns v → length ns ≡ length ps
given-length [] [] v h = refl
given-length [] (n ∷ ns) v h = absurd h
given-length (p ∷ ps) [] v h = absurd h
given-length (p ∷ ps) (n ∷ ns) v h = let rest = given-length ps ns v h.1 in omega (arith, rest)

-- ---- one statement

module _ (fs : List Field) (v : Valuation) (q : ℕ → Bool) (x : Exchanging) (same : Same q x.names v) where
  token-brought : (f : ℕ) (p : PlaceTree) → place_names_only q p ≡ true
      → named x ≡ Ok (token_of f (key_under v p) (value_under v p))
      → (t : Token) × (named x ≡ Ok t) × ((is_at_place f (key_at p x) t && is_asked p t.value x) ≡ true)
  token-brought f p reads there =
      let k = key_under v p in
      let n = value_under v p in (
        token_of f k n,
        there,
        both-true (is_at_place f (key_at p x) (token_of f k n)) (is_asked p n x)
            (both-true (nat_eq f f) (int_eq (key_at p x) k) (eq-eqb f f refl) (ap (λ i. int_eq i k) (place-key q v p x same reads) ∙ int_eq_equiv.refl k))
            (is-asked-cases p.key p.value n x (λ none. sym (place-amount q v p x same reads none))),
      )

  one-brought : (line : ℕ) (a : ActTree) → IsLawful fs q a → IsBroughtUnder v a x
      → IsBrought (record { act = a; line = line }) x
  unfolding reads_only
  one-brought line (acts.Require form) lawful there = truth-same q x.names v same form lawful.reads ∙ there
  one-brought line (acts.Remove f p) lawful there = token-brought f p lawful.reads there
  one-brought line (acts.Have f p) lawful there = token-brought f p lawful.reads there
  one-brought line (acts.Deposit f p) lawful there = token-brought perm p lawful.reads there
  one-brought line (acts.Init f t) lawful there = tt
  one-brought line (acts.Update f t) lawful there = tt
  one-brought line (acts.HaveVariable f) lawful there = tt
  one-brought line (acts.Assert form) lawful there = tt
  one-brought line (acts.Add f p) lawful there = tt
  one-brought line (acts.Withdraw f p) lawful there = tt
  one-brought line (acts.Guard f p) lawful there = tt

-- ---- all statements

module _ (m : MachineTree) (o : OperationTree) (args : List ℤ) (tokens given : List ℕ) (hand : List Held) (others : List Token) (kept : Kept) (s whole : State)
    (joined : join_of m.fields (tokens_in hand ++ others) kept ≡ Some s)
    (sound : AreSoundShards m.fields (tokens_in hand ++ others) kept)
    (other : IsInit o → ⊥) (names : AreNames m.fields o tokens given hand) (rules : IsRegular m.fields o)
    (t : Trust m.fields o s whole) (y0 : Exchanging)
    (first : use_variables (variable_slots m.fields o) (beginning m.fields o args tokens given whole hand kept) ≡ Ok y0)
    (long : length args ≡ length o.params)
    (safe : (v : Valuation) → IsAt s v → AreGiven o.params args v → IsKeptSafe m.fields v (first_values m.fields o.mode) o.steps) where
  abbrev start : Exchanging
  start = beginning m.fields o args tokens given whole hand kept

  abbrev bound : List ℤ
  bound = values_bound m.fields o.steps y0

  abbrev beyond_fields : Valuation
  beyond_fields = record { number = argument (own_names o) (args ++ bound); mapping = λ z. maps.nil }

  abbrev v : Valuation
  v = valuation_at m.fields s o args bound

  laws : AreLawful m.fields t.test o.params [] o.steps
  laws = are-lawful m.fields o.mode t.test o.params [] o.steps rules.few rules.rules rules.statements rules.texts.bound t.reading

  module _ (front back : List StepTree) (split : front ++ back ≡ o.steps) (x : Exchanging) (did : does_all unbounded m.fields front y0 ≡ Ok x) where
    abbrev here : Valuation
    here = valuation m.fields s x.names

    abbrev so_far : List ℕ
    so_far = o.params ++ bound_names front

    front-laws : AreLawful m.fields t.test o.params [] front
    front-laws = front-lawful m.fields t.test o.params [] front back (subst (AreLawful m.fields t.test o.params []) (sym split) laws)

    at-fields : Same t.test x.names here
    at-fields = same m o args tokens given hand others kept s whole joined sound other names rules t y0 first long safe front back split x did

    answers : Answers front y0 x here
    answers = all-answered unbounded m.fields rules.few t.test o.params here [] front y0 x front-laws did (λ z out. (same-outside m.fields s x.names z out).number)

    own : AreGiven so_far (args ++ x.bound) here
    own =
        let none-yet : start.bound ≡ y0.bound = used-bind-nothing (variable_slots m.fields o) start y0 first in
        let all : x.bound ≡ answers.values =
        answers.bound ∙ ap (λ (bs : List ℤ). bs ++ answers.values) (sym none-yet) in
        given-append o.params (bound_names front) args x.bound here
        (given-args m o args tokens given hand others kept s whole joined sound other names rules t y0 first long safe front back split x did)
        (subst (λ (bs : List ℤ). AreGiven (bound_names front) bs here) (sym all) answers.given)

    more : Extends x.bound bound
    more =
        let rest = values-more m.fields rules.few t.test o.params front back x
        (laws-behind m.fields t.test o.params [] front back (subst (AreLawful m.fields t.test o.params []) (sym split) laws)) in (
          rest.0,
          ap (λ (ss : List StepTree). values_bound m.fields ss y0) (sym split)
              ∙ values-front m.fields front back y0 x did ∙ rest.1,
        )

    -- a name that is known by now stands for its value in the end
    own-value : (z : ℕ) → is_in z so_far ≡ true → here.number z ≡ argument (own_names o) (args ++ bound) z
    own-value z is =
        let all : own_names o ≡ so_far ++ bound_names back =
        ap (λ (ss : List StepTree). o.params ++ bound_names ss) (sym split)
        ∙ ap (λ (ys : List ℕ). o.params ++ ys) (filter_map-append (λ (b : StepTree). bound_by b.act) front back)
        ∙ sym (append_assoc o.params (bound_names front) (bound_names back)) in
        let values : args ++ bound ≡ (args ++ x.bound) ++ more.0 =
        ap (λ (bs : List ℤ). args ++ bs) more.1 ∙ sym (append_assoc args x.bound more.0) in
        sym (is-argument so_far (args ++ x.bound) here z own is)
        ∙ sym (argument-front so_far (bound_names back) (args ++ x.bound) more.0 z (given-length so_far (args ++ x.bound) here own) is)
        ∙ ap (λ (ps : List ℕ). argument ps ((args ++ x.bound) ++ more.0) z) (sym all)
        ∙ ap (λ (ns : List ℤ). argument (own_names o) ns z) (sym values)

    number-at : (z : ℕ) → t.test z ≡ true → is_known_by m.fields so_far z ≡ true → x.names.number z ≡ v.number z
    number-at z trusted is = cases (cases_lt z (length m.fields)) where
      inner : (out : nat_lt z (length m.fields) ≡ false) → (nat_lt z (length m.fields) ≡ true) ⊎ (is_in z so_far ≡ true)
          → x.names.number z ≡ v.number z
      inner out (inl e) = absurd (let no = sym e ∙ out in cc)
      inner out (inr e) =
          (same-outside m.fields s x.names z out).number ∙ own-value z e
          ∙ (same-outside m.fields s beyond_fields z out).number

      cases : (z < length m.fields) ⊎ (length m.fields ≤ z) → x.names.number z ≡ v.number z
      cases (inl lt) =
          at-fields.number z trusted ∙ number-inside m.fields s x.names z lt ∙ sym (number-inside m.fields s beyond_fields z lt)
      cases (inr le) =
          inner (le-ltb z (length m.fields) le)
          (known-cases (nat_lt z (length m.fields)) (is_in z so_far) (sort_of (strategy_at m.fields z)) is)

    mapping-at : (z : ℕ) → t.test z ≡ true → x.names.mapping z ≡ v.mapping z
    mapping-at z trusted = cases (cases_lt z (length m.fields)) where
      cases : (z < length m.fields) ⊎ (length m.fields ≤ z) → x.names.mapping z ≡ v.mapping z
      cases (inl lt) =
          at-fields.mapping z trusted ∙ mapping-inside m.fields s x.names z lt
          ∙ sym (mapping-inside m.fields s beyond_fields z lt)
      cases (inr le) =
          let out = le-ltb z (length m.fields) le in
          let begins = known m o args tokens given hand others kept s whole joined sound other names rules t y0 first long safe front back split x did in
          all-nil unbounded m.fields front y0 x z
          (sym (begins.beyond z out).mapping ∙ first-nil m.fields kept whole z sound.shaped.records le) did
          ∙ (same-outside m.fields s beyond_fields z out).mapping

    pub names-same : Same (λ z. t.test z && is_known_by m.fields so_far z) x.names v
    names-same = record {
      number = λ z e. number-at z (and_left _ _ e) (and_right (t.test z) _ e);
      mapping = λ z e. mapping-at z (and_left _ _ e);
    }

  pub all-brought : (front back : List StepTree) → front ++ back ≡ o.steps → (x : Exchanging)
      → does_all unbounded m.fields front y0 ≡ Ok x → AreBroughtUnder m.fields v back x → AreBrought m.fields back x
  all-brought front [] split x did brought = tt
  all-brought front (b ∷ back) split x did brought =
      let q : ℕ → Bool = λ z. t.test z && is_known_by m.fields (o.params ++ bound_names front) z in
      let agree = names-same front (b ∷ back) split x did in
      let lawful = laws-behind m.fields t.test o.params [] front (b ∷ back)
      (subst (AreLawful m.fields t.test o.params []) (sym split) laws) in (
        one-brought m.fields v q x agree b.line b.act lawful.0 brought.0,
        λ y is.
            let did_more = more-done m.fields front b y0 x y did is in
            let split_more = append_assoc front (b ∷ []) back ∙ split in
            let later = names-same (front ++ b ∷ []) back split_more y did_more in
            let agreed : IsAgreed m.fields v q x y b.act = record {
              same = agree;
              lawful = lawful.0;
              bound = λ z e.
                  let out = fresh-beyond m.fields (o.params ++ bound_names front) z (lawful.1 z e) in
                  later.number z (both-true (t.test z) _ (t.outside z out) (known-bound m.fields o.params front b z e));
            } in
            let left = (goes-under unbounded m.fields v q x y b.line b.act agreed is).1 in
            all-brought (front ++ b ∷ []) back split_more y did_more
            (subst (AreBroughtUnder m.fields v back) left brought.1),
      )

pub exchanges-succeed : ExchangesSucceed
exchanges-succeed m proved o has other args long tokens given hand names others kept sound s joined reached whole either
    variables brought =
    let rules = regular m proved.symbols proved.named proved.strategies o has in
    let t = trust m.fields o s whole other rules.rules either in
    let start = beginning m.fields o args tokens given whole hand kept in
    let begun = begun_under m.fields (valuation_at m.fields s o args []) o args tokens given whole hand kept in
    let first = variables-used (valuation_at m.fields s o args []) (variable_slots m.fields o) start variables in
    let bound = values_bound_at m.fields s o args tokens given whole hand kept in
    let e = progresses m proved o has other args long tokens given hand names others kept sound s joined reached whole
    either begun first
    (all-brought m o args tokens given hand others kept s whole joined sound other names rules t begun first long
    (λ v at gives. proved.holds.safe s reached o has other args v at gives) [] o.steps refl begun refl brought) in
    let x = e.0 in
    let out = outcome-ok (use_variables (variable_slots m.fields o) start >>= does_all unbounded m.fields o.steps) x e.1 in
    let a = bind-ok (use_variables (variable_slots m.fields o) start) (does_all unbounded m.fields o.steps) out.0 out.1 in
    let is : begun ≡ a.0 = ok_is begun a.0 (sym first ∙ a.1) in
    let values : x.bound ≡ bound =
    out.2.bound ∙ sym (values-done m.fields o.steps a.0 out.0 a.2) ∙ ap (values_bound m.fields o.steps) (sym is) in
    let goes = exchanges-go-along unbounded m proved o has other args long tokens given hand names others kept sound s
    joined reached whole either x e.1 in
    record {
      left = x;
      answer = e.1;
      bound_as = values;
      along = subst (λ (bs : List ℤ). IsAlong m.fields (valuation_at m.fields s o args bs) o args tokens given hand kept whole x) values goes.along;
    }
