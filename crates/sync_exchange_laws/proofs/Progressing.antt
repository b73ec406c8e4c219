-- An exchange goes on where each statement gets what it asks of the holder.
use Rattle.std.proofs.Common.{◌≡◌, ℕ, ◌+◌, ◌<◌, ◌≤◌, ℤ, Bool, true, false, ◌&&◌, ◌||◌, List, [], ◌∷◌, ◌++◌, length, map, filter_map, append_assoc, append-nil, length-append, Some, is_some, Ok, Err, inl, inr, ◌⊎◌, refl, sym, ap, subst, ◌∙◌, arith, nat_eq, nat_lt, get_or}
use Rattle.std.specs.List.{AllByRecursion, slice_get, range_with_len}
use Rattle.std.proofs.lemmas.Bool.{le-ltb, cases_lt}
use Rattle.std.proofs.lemmas.List.Folds.{list_any-append}
use Rattle.sync_base.specs.Outcome.{◌>>=◌}
use Rattle.sync_terms.specs.Trees.{Tree, Name, Formula}
use Rattle.sync_terms.specs.Values.{Valuation, truth}
use Rattle.sync_machine.specs.declared.fields.Field.{Field}
use Rattle.sync_machine.specs.Machines.{ActTree, StepTree, OperationTree, MachineTree}
use Rattle.sync_machine.specs.Machines as acts
use Rattle.sync_machine.specs.Statements.{safety}
use Rattle.sync_machine.specs.Naming.{bound_names, is_in, IsTextName}
use Rattle.sync_machine.specs.States.{State, IsInit, IsAt, AreGiven, strategy_at, strategy_of, current_of, advanced, IsMet, last_values, first_values, AreMet, IsKeptSafe}
use Rattle.sync_rules.specs.Plain.{is_kept}
use Rattle.sync_rules.specs.Slots.{SlotTree, field_slot, act_slot, statement_slot, slots_of}
use Rattle.sync_join.specs.declared.tokens.Token.{Token}
use Rattle.sync_join.specs.Shards.{Kept, AreSoundShards}
use Rattle.sync_join.specs.Join.{join_of}
use Rattle.sync_exchange.specs.declared.hands.Held.{Held}
use Rattle.sync_exchange.specs.declared.hands.XStop.{XStop}
use Rattle.sync_exchange.specs.Exchange.{Exchanging, Answer, argument, tokens_in, token_name, use_variables, variable_slots, beginning, does, does_all, outcome}
use Rattle.sync_exchange.specs.Projection.{names_token, AreNames}
use Rattle.sync_exchange.proofs.Terms.{Same, truth-same, and_left}
use Rattle.sync_exchange.proofs.Passing.{ok_is, bind-ok}
use Rattle.sync_exchange.proofs.Widening.{unbounded}
use Rattle.sync_exchange.proofs.Lawful.{IsLawful, reads_only}
use Rattle.sync_exchange.proofs.Going.{IsSameAt, same-through, is_known_by, AreLawful, AreUsed, AreDone, total_gives, known-in, names-kept_all, going, walked}
use Rattle.sync_exchange.proofs.Rules.{IsRegular, regular, are-lawful}
use Rattle.sync_exchange.proofs.Using.{HasNoInit, AreKnown, using, slot-kinds, field-slot, not-given}
use Rattle.sync_exchange.proofs.Whole.{nothing, state-length, first-names, first-name, params-apart, are-given}
use Rattle.sync_exchange.proofs.Owning.{names-enough}
use Rattle.sync_exchange.proofs.Beginning.{valuation, same-outside, at-state, Trust, trust, no-inits, start-nil, start-stands, start-same, are-used, all-both, all-in, text-outside}
use Rattle.sync_exchange.proofs.Transitions.{below-length, at-number, field-known as known-field, no-first}
use Rattle.sync_exchange_laws.specs.Progress.{IsBrought, AreBrought, Progresses, NamesToken, IsRefuted, IsHolders, StopsAreHolders}
use Rattle.sync_exchange_laws.proofs.Bringing.{Succeeds, one-succeeds}
use Rattle.sync_exchange_laws.proofs.Slotting.{all-slots, variables-slots, slot-front, statement-slot-at, from-filtered}
use Rattle.sync_exchange_laws.proofs.Stopping.{StopsFor, of-bind, statement-well, variables-well}

-- ---- the front of a list of statements

front-all : (P : StepTree → Type 0) (xs ys : List StepTree) → AllByRecursion P (xs ++ ys) → AllByRecursion P xs
front-all P [] ys h = tt
front-all P (x ∷ xs) ys h = (h.0, front-all P xs ys h.1)

pub front-lawful : (fs : List Field) (trusted : ℕ → Bool) (params : List ℕ) (before xs ys : List StepTree)
    → AreLawful fs trusted params before (xs ++ ys) → AreLawful fs trusted params before xs
front-lawful fs trusted params before [] ys h = tt
front-lawful fs trusted params before (x ∷ xs) ys h = (h.0, h.1, front-lawful fs trusted params (before ++ x ∷ []) xs ys h.2)

-- the statement behind a front
next-lawful : (fs : List Field) (trusted : ℕ → Bool) (params : List ℕ) (before xs : List StepTree) (s : StepTree) (ys : List StepTree) → AreLawful fs trusted params before (xs ++ s ∷ ys)
    → IsLawful fs (λ z. trusted z && is_known_by fs (params ++ bound_names (before ++ xs)) z) s.act
next-lawful fs trusted params before [] s ys h = subst (λ (bs : List StepTree). IsLawful fs (λ z. trusted z && is_known_by fs (params ++ bound_names bs) z) s.act) (sym (append-nil before)) h.0
next-lawful fs trusted params before (x ∷ xs) s ys h =
    subst (λ (bs : List StepTree). IsLawful fs (λ z. trusted z && is_known_by fs (params ++ bound_names bs) z) s.act)
    (append_assoc before (x ∷ []) xs)
    (next-lawful fs trusted params (before ++ x ∷ []) xs s ys h.2)

front-gives : (fs : List Field) (xs ys : List StepTree) → total_gives fs xs ≤ total_gives fs (xs ++ ys)
unfolding total_gives
front-gives fs [] ys = omega arith
front-gives fs (x ∷ xs) ys = let e = front-gives fs xs ys in omega (arith, e)

front-safe : (fs : List Field) (v : Valuation) (cur : List Tree) (xs ys : List StepTree)
    → IsKeptSafe fs v cur (xs ++ ys) → IsKeptSafe fs v cur xs
unfolding IsKeptSafe
front-safe fs v cur [] ys h = tt
front-safe fs v cur (x ∷ xs) ys h = (h.0, λ met. front-safe fs v (advanced fs cur x.act) xs ys (h.1 met))

back-safe : (fs : List Field) (v : Valuation) (cur : List Tree) (xs ys : List StepTree)
    → IsKeptSafe fs v cur (xs ++ ys) → AreMet fs v cur xs → IsKeptSafe fs v (last_values fs cur xs) ys
unfolding IsKeptSafe AreMet last_values
back-safe fs v cur [] ys h met = h
back-safe fs v cur (x ∷ xs) ys h met = back-safe fs v (advanced fs cur x.act) xs ys (h.1 met.0) met.1

safe-first : (fs : List Field) (v : Valuation) (cur : List Tree) (s : StepTree) (ss : List StepTree)
    → IsKeptSafe fs v cur (s ∷ ss) → IsMet v (safety (strategy_of fs s.act) (current_of cur s.act) s.act)
unfolding IsKeptSafe
safe-first fs v cur s ss h = h.0

pub more-done : (fs : List Field) (before : List StepTree) (s : StepTree) (w x y : Exchanging)
    → does_all unbounded fs before w ≡ Ok x → does unbounded fs s x ≡ Ok y
    → does_all unbounded fs (before ++ s ∷ []) w ≡ Ok y
more-done fs [] s w x y e one = ap (λ u. does unbounded fs s u >>= does_all unbounded fs []) (ok_is w x e)
    ∙ ap (λ r. r >>= does_all unbounded fs []) one
more-done fs (b ∷ before) s w x y e one =
    let a = bind-ok (does unbounded fs b w) (does_all unbounded fs before) x e in
    ap (λ r. r >>= does_all unbounded fs (before ++ s ∷ [])) a.1 ∙ more-done fs before s a.0 x y a.2 one

-- the slot of a variable names a token
variable-named : (m : MachineTree) (o : OperationTree) (k : ℕ) (sl : SlotTree) → HasNoInit o.steps
    → slice_get (variable_slots m.fields o) k ≡ Some sl → NamesToken m.fields o k
variable-named m o k sl none e =
    let f = from-filtered (field_slot m.fields o.steps) (range_with_len 0 (length m.fields)) k sl e in
    let names_it : names_token sl.role ≡ true =
    slot-kinds m.fields o.steps f.0 sl (names_token sl.role ≡ true) (field-slot m.fields o.steps f.0 sl f.1).1
    (λ given_by field role. let h = not-given f.0 o.steps none in absurd (cc))
    (λ field role. ap names_token role)
    (λ field role. ap names_token role) in
    (sl, slot-front (variable_slots m.fields o) (filter_map (statement_slot m.fields) o.steps) k sl e, names_it)

-- ---- where a front has been done

module _ (m : MachineTree) (o : OperationTree) (args : List ℤ) (tokens given : List ℕ) (hand : List Held) (others : List Token) (kept : Kept) (s whole : State)
    (joined : join_of m.fields (tokens_in hand ++ others) kept ≡ Some s)
    (sound : AreSoundShards m.fields (tokens_in hand ++ others) kept)
    (other : IsInit o → ⊥) (names : AreNames m.fields o tokens given hand) (rules : IsRegular m.fields o)
    (t : Trust m.fields o s whole) (y0 : Exchanging)
    (first : use_variables (variable_slots m.fields o) (beginning m.fields o args tokens given whole hand kept) ≡ Ok y0)
    (long : length args ≡ length o.params)
    (safe : (v : Valuation) → IsAt s v → AreGiven o.params args v → IsKeptSafe m.fields v (first_values m.fields o.mode) o.steps) where
  abbrev start : Exchanging
  start = beginning m.fields o args tokens given whole hand kept

  abbrev none : HasNoInit o.steps
  none = no-inits m.fields o.mode [] o.steps other rules.rules

  abbrev cur : List Tree
  cur = map Name (range_with_len 0 (length m.fields))

  laws : AreLawful m.fields t.test o.params [] o.steps
  laws = are-lawful m.fields o.mode t.test o.params [] o.steps rules.few rules.rules rules.statements rules.texts.bound t.reading

  module _ (front back : List StepTree) (split : front ++ back ≡ o.steps) (x : Exchanging) (did : does_all unbounded m.fields front y0 ≡ Ok x) where
    abbrev names_of : Valuation
    names_of = valuation m.fields s x.names

    pub known : AreKnown m.fields names_of others o.steps none cur (first-name m.fields) (start-nil m.fields o args tokens given hand others kept s whole joined sound x.names) (range_with_len 0 (length m.fields)) start y0
    known = using m.fields names_of others o.steps none cur (first-name m.fields) (start-nil m.fields o args tokens given hand others kept s whole joined sound x.names)
        (range_with_len 0 (length m.fields)) start y0 (below-length (length m.fields)) first
        (start-stands m.fields o args tokens given hand others kept s whole joined sound x.names names)

    both-laws : AreLawful m.fields t.test o.params [] (front ++ back)
    both-laws = subst (AreLawful m.fields t.test o.params []) (sym split) laws

    front-laws : AreLawful m.fields t.test o.params [] front
    front-laws = front-lawful m.fields t.test o.params [] front back both-laws

    field-first : (z : ℕ) → z < length m.fields → t.test z ≡ true → IsSameAt z y0.names names_of
    field-first z lt e = cases (t.knows z lt e) where
      cases : ((is_kept (strategy_at m.fields z) ≡ true) ⊎ (get_or whole z nothing ≡ get_or s z nothing)) ⊎ (is_some (field_slot m.fields o.steps z) ≡ true) → IsSameAt z y0.names names_of
      cases (inl h) = known.keeps z (start-same m.fields o args tokens given hand others kept s whole joined sound x.names z lt h)
      cases (inr h) = (at-number (λ f. is_some (field_slot m.fields o.steps f) ≡ true → IsSameAt f y0.names names_of × (is_some (token_name f y0.variables) ≡ true)) (length m.fields) z known.learns lt h).0

    turned : (z : ℕ) (a b : Valuation) → IsSameAt z a b → IsSameAt z b a
    turned z a b h = record { number = sym h.number; mapping = sym h.mapping }

    kept-to : (z : ℕ) → is_known_by m.fields (o.params ++ bound_names []) z ≡ true → IsSameAt z y0.names x.names
    kept-to z h = names-kept_all unbounded m.fields rules.few t.test o.params [] front y0 x front-laws did z h

    field-known : (z : ℕ) → z < length m.fields → is_known_by m.fields (o.params ++ bound_names []) z ≡ true
    field-known z lt = known-field m.fields (o.params ++ bound_names []) z lt

    at-end : (z : ℕ) → t.test z ≡ true → IsSameAt z x.names names_of
    at-end z e = cases (cases_lt z (length m.fields)) where
      cases : (z < length m.fields) ⊎ (length m.fields ≤ z) → IsSameAt z x.names names_of
      cases (inl lt) = same-through z x.names y0.names names_of (turned z y0.names x.names (kept-to z (field-known z lt))) (field-first z lt e)
      cases (inr le) = same-outside m.fields s x.names z (le-ltb z (length m.fields) le)

    pub same : Same t.test x.names names_of
    same = record { number = λ z e. (at-end z e).number; mapping = λ z e. (at-end z e).mapping }

    param-value : (z : ℕ) → IsTextName z → is_in z o.params ≡ true → names_of.number z ≡ argument o.params args z
    param-value z text has =
        let out : nat_lt z (length m.fields) ≡ false = text-outside m.fields z rules.few text in
        let here : is_in z (o.params ++ bound_names []) ≡ true =
        list_any-append (nat_eq z) o.params [] ∙ ap (λ b. b || false) has in
        let begun : IsSameAt z start.names y0.names = known.beyond z out in
        let is : start.names.number z ≡ argument o.params args z = rw out refl in
        sym (same-outside m.fields s x.names z out).number
        ∙ sym (kept-to z (known-in m.fields (o.params ++ bound_names []) z here)).number ∙ sym begun.number ∙ is

    pub given-args : AreGiven o.params args names_of
    given-args = are-given names_of o.params args long (params-apart m.fields [] o.params rules.params).1
        (all-both IsTextName (λ z. is_in z o.params ≡ true) (λ z. names_of.number z ≡ argument o.params args z) o.params param-value rules.texts.params (all-in o.params))

    all-safe : IsKeptSafe m.fields names_of cur (front ++ back)
    all-safe =
        let firsts : first_values m.fields o.mode ≡ cur = first-names m.fields o.mode other in
        let at = at-state m.fields s x.names (state-length m.fields (tokens_in hand ++ others) kept s joined) in
        subst (IsKeptSafe m.fields names_of cur) (sym split)
        (subst (λ c. IsKeptSafe m.fields names_of c o.steps) firsts (safe names_of at given-args))

    done : AreDone m.fields names_of others x cur front
    done =
        let many : length y0.given ≡ length given = ap length known.given in
        let enough = names-enough m.fields o tokens given hand names in
        let some = front-gives m.fields front back in
        let whole-gives = ap (total_gives m.fields) split in
        let used = are-used m.fields o.mode o.steps [] o.steps y0.variables refl none rules.rules
        (λ f lt slot. (at-number (λ f. is_some (field_slot m.fields o.steps f) ≡ true → IsSameAt f y0.names names_of × (is_some (token_name f y0.variables) ≡ true)) (length m.fields) f known.learns lt slot).1) in
        walked unbounded m.fields names_of others front y0 x cur
        (going unbounded m.fields rules.few t.test o.params names_of others (λ ss u c. HasNoInit ss)
        (λ q u z c f tree line ss h r extra e. no-first m.fields f tree line ss _ extra)
        (λ q r ss u z c h k e extra. extra.1)
        t.outside [] front y0 x cur front-laws did known.stands (front-safe m.fields names_of cur front back all-safe)
        same (omega (arith, many, enough, some, whole-gives))
        (front-all _ front back (subst (AreUsed m.fields y0.variables) (sym split) used))
        (front-all _ front back (subst HasNoInit (sym split) none)))

  -- the next statement succeeds where it gets what it asks
  next-succeeds : (front : List StepTree) (b : StepTree) (back : List StepTree) → front ++ b ∷ back ≡ o.steps
      → (x : Exchanging) → does_all unbounded m.fields front y0 ≡ Ok x
      → IsBrought b x → Succeeds (does unbounded m.fields b x)
  next-succeeds front b back split x did brought =
      let v = names_of front (b ∷ back) split x did in
      let d = done front (b ∷ back) split x did in
      let lawful = next-lawful m.fields t.test o.params [] front b back (both-laws front (b ∷ back) split x did) in
      let now = back-safe m.fields v cur front (b ∷ back) (all-safe front (b ∷ back) split x did) d.met in
      let sames = same front (b ∷ back) split x did in
      one-succeeds m.fields v others (λ z. t.test z && is_known_by m.fields (o.params ++ bound_names front) z) x
      (last_values m.fields cur front) d.stands
      (record { number = λ z e. sames.number z (and_left _ _ e); mapping = λ z e. sames.mapping z (and_left _ _ e) })
      b.line b.act lawful (safe-first m.fields v (last_values m.fields cur front) b back now) brought

  -- from here to the end
  ends : (front back : List StepTree) → front ++ back ≡ o.steps → (x : Exchanging)
      → does_all unbounded m.fields front y0 ≡ Ok x → AreBrought m.fields back x
      → Succeeds (does_all unbounded m.fields back x)
  ends front [] split x did brought = (x, refl)
  ends front (b ∷ back) split x did brought =
      let one = next-succeeds front b back split x did brought.0 in
      let rest =
      ends (front ++ b ∷ []) back (append_assoc front (b ∷ []) back ∙ split) one.0
      (more-done m.fields front b y0 x one.0 did one.1) (brought.1 one.0 one.1) in
      (rest.0, ap (λ r. r >>= does_all unbounded m.fields back) one.1 ∙ rest.1)

  -- the slot of a statement behind a front that has been done names a token
  slot-named : (front : List StepTree) (b : StepTree) (back : List StepTree) → front ++ b ∷ back ≡ o.steps
      → (x : Exchanging) → does_all unbounded m.fields front y0 ≡ Ok x
      → (sl : SlotTree) → act_slot m.fields b.act b.line ≡ Some sl → names_token sl.role ≡ true
      → NamesToken m.fields o x.slot
  slot-named front b back split x did sl e names_it =
      let vars = variable_slots m.fields o in
      let so_far = filter_map (statement_slot m.fields) front in
      let begun : y0.slot ≡ 0 + length vars = variables-slots vars start y0 first in
      let come = all-slots unbounded m.fields front y0 x did in
      let long = length-append vars so_far in
      let at : length (vars ++ so_far) ≡ x.slot = omega (arith, begun, come, long) in
      let there : slice_get (slots_of m.fields o) (length (vars ++ so_far)) ≡ Some sl =
      subst (λ (ss : List StepTree). slice_get (vars ++ filter_map (statement_slot m.fields) ss) (length (vars ++ so_far)) ≡ Some sl) split (statement-slot-at m.fields vars front b back sl e) in
      (sl, subst (λ n. slice_get (slots_of m.fields o) n ≡ Some sl) at there, names_it)

  -- a require that is false where a front has been done
  refuted : (front : List StepTree) (line : ℕ) (form : Formula) (back : List StepTree)
      → front ++ record { act = acts.Require form; line = line } ∷ back ≡ o.steps → (x : Exchanging)
      → does_all unbounded m.fields front y0 ≡ Ok x → truth x.names form ≡ false → IsRefuted m s o args line
  unfolding reads_only
  refuted front line form back split x did isnt =
      let b : StepTree = record { act = acts.Require form; line = line } in
      let v = names_of front (b ∷ back) split x did in
      let d = done front (b ∷ back) split x did in
      let lawful = next-lawful m.fields t.test o.params [] front b back (both-laws front (b ∷ back) split x did) in
      let sames = same front (b ∷ back) split x did in
      let q : ℕ → Bool = λ z. t.test z && is_known_by m.fields (o.params ++ bound_names front) z in
      let agree : Same q x.names v =
      record { number = λ z e. sames.number z (and_left _ _ e); mapping = λ z e. sames.mapping z (and_left _ _ e) } in
      record {
        front = front;
        form = form;
        back = back;
        written = sym split;
        names = v;
        before = at-state m.fields s x.names (state-length m.fields (tokens_in hand ++ others) kept s joined);
        given = given-args front (b ∷ back) split x did;
        met = subst (λ c. AreMet m.fields v c front) (sym (first-names m.fields o.mode other)) d.met;
        is_false = sym (truth-same q x.names v agree form lawful.reads) ∙ isnt;
      }

  step-is : (b : StepTree) (form : Formula) → b.act ≡ acts.Require form
      → record { act = acts.Require form; line = b.line } ≡ b
  step-is b form e = let with_act : ActTree → StepTree = λ a. record { act = a; line = b.line } in sym (ap with_act e)

  stops-well : (front back : List StepTree) → front ++ back ≡ o.steps → (x : Exchanging)
      → does_all unbounded m.fields front y0 ≡ Ok x
      → StopsFor (IsHolders m s o args) (does_all unbounded m.fields back x)
  stops-well front [] split x did = λ stop e. absurd (cc)
  stops-well front (b ∷ back) split x did =
      of-bind (IsHolders m s o args) (does unbounded m.fields b x) (does_all unbounded m.fields back)
      (statement-well (IsHolders m s o args) m.fields x b.line b.act
      (λ sl e names_it. let n = slot-named front b back split x did sl e names_it in (n, n))
      (λ form is isnt. refuted front b.line form back (ap (λ (c : StepTree). front ++ c ∷ back) (step-is b form is) ∙ split) x did isnt)
      (next-succeeds front b back split x did))
      (λ y is. stops-well (front ++ b ∷ []) back (append_assoc front (b ∷ []) back ∙ split) y (more-done m.fields front b y0 x y did is))

pub progresses : Progresses
progresses m proved o has other args long tokens given hand names others kept sound s joined reached whole either
    begun first brought =
    let rules = regular m proved.symbols proved.named proved.strategies o has in
    let t = trust m.fields o s whole other rules.rules either in
    let e = ends m o args tokens given hand others kept s whole joined sound other names rules t begun first long
    (λ v at gives. proved.holds.safe s reached o has other args v at gives) [] o.steps refl begun refl brought in
    (_, ap (λ r. outcome (r >>= does_all unbounded m.fields o.steps)) first ∙ ap outcome e.1)

outcome-stop : (r : Answer) (stop : XStop) → outcome r ≡ Err stop → r ≡ Err stop
outcome-stop (Ok x) stop e = absurd (cc)
outcome-stop (Err a) stop e = let same : a ≡ stop = cc in ap Err same

pub stops-are-holders : StopsAreHolders
stops-are-holders m proved o has other args long tokens given hand names others kept sound s joined reached whole
    either stop e =
    let rules = regular m proved.symbols proved.named proved.strategies o has in
    let t = trust m.fields o s whole other rules.rules either in
    let start = beginning m.fields o args tokens given whole hand kept in
    let none = no-inits m.fields o.mode [] o.steps other rules.rules in
    of-bind (IsHolders m s o args) (use_variables (variable_slots m.fields o) start)
    (does_all unbounded m.fields o.steps)
    (variables-well (IsHolders m s o args) (variable_slots m.fields o) start
    (λ k sl e.
    let at : k ≡ 0 + k = omega arith in
    let n = subst (NamesToken m.fields o) at (variable-named m o k sl none e) in inr (n, n)))
    (λ begun first. stops-well m o args tokens given hand others kept s whole joined sound other names rules t begun first long
    (λ v at gives. proved.holds.safe s reached o has other args v at gives) [] o.steps refl begun refl)
    stop (outcome-stop (use_variables (variable_slots m.fields o) start >>= does_all unbounded m.fields o.steps) stop e)
