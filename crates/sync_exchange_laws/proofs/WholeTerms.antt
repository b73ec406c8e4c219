-- The dues of a whole exchange of terms hold under a valuation exactly where what it asks there is brought.
use Rattle.std.proofs.Common.{◌≡◌, ℕ, ℤ, pos, Bool, true, false, List, [], ◌∷◌, ◌++◌, length, Option, Some, None, Result, Ok, Err, refl, sym, ap, subst, ◌∙◌, if◌then◌else◌, nat_eq}
use Rattle.std.specs.List.{AllByRecursion}
use Rattle.std.specs.Ordering.{int_eq}
use Rattle.std.specs.Cmp.{int_eq_equiv}
use Rattle.std.proofs.lemmas.List.{map-append}
use Rattle.sync_terms.specs.Trees.{Tree, Formula, replaced}
use Rattle.sync_terms.specs.Values.{Valuation, num, truth, Holds, with_terms}
use Rattle.sync_terms.proofs.Meaning.{num-replaced, truth-replaced_in}
use Rattle.sync_machine.specs.declared.fields.Field.{Field}
use Rattle.sync_machine.specs.Machines.{PlaceTree, ActTree, StepTree, OperationTree}
use Rattle.sync_machine.specs.Machines as acts
use Rattle.sync_machine.specs.Statements.{zero, key_of, value_of}
use Rattle.sync_machine.specs.States.{State}
use Rattle.sync_rules.specs.declared.slots.Role.{Role}
use Rattle.sync_rules.specs.declared.slots.Role.TheVariants.{Given}
use Rattle.sync_rules.specs.Slots.{SlotTree}
use Rattle.sync_join.specs.declared.tokens.Token.{Token}
use Rattle.sync_join.specs.Shards.{Kept, perm}
use Rattle.sync_join.proofs.Maps.{equal}
use Rattle.sync_exchange.specs.declared.hands.Held.{Held}
use Rattle.sync_exchange.specs.declared.hands.XStop.{XStop}
use Rattle.sync_exchange.specs.declared.hands.XStop.TheVariants.{Missing}
use Rattle.sync_exchange.specs.Exchange.{Exchanging, Exchanged, named, held_as, next_name, token_of, after_reading, after_giving, knowing, variable_slots, beginning, exchange_of}
use Rattle.sync_exchange_laws.specs.Along.{key_under, value_under, IsThere, left_under, all_left, IsVariableThere, variable_left, variables_left, AreVariablesThere, begun_under, ended}
use Rattle.sync_exchange_laws.specs.Succeeding.{IsBroughtUnder, AreBroughtUnder}
use Rattle.sync_exchange_laws.specs.Terms.{TokenTerms, HeldTerms, token_under, held_under, hand_under, terms_as, TermsUnderWay, is_token, place_dues, dues_at, terms_read, terms_given, terms_left, all_dues, all_terms_left, HasTerms}
use Rattle.sync_exchange_laws.specs.Agreeing.{BringsAll, exchanged_under, GoesBy}
use Rattle.sync_exchange_laws.specs.WholeTerms.{variable_dues, variable_terms_left, all_variable_dues, all_variable_terms_left, terms_known, terms_at_first, terms_begun, exchange_dues, hand_exchanged, GoesByTerms, ExchangesGoByTerms, StartsGoByTerms}
use Rattle.sync_exchange_laws.proofs.Along.{named-is}
use Rattle.sync_exchange_laws.proofs.Variables.{token-is}
use Rattle.sync_exchange_laws.proofs.Substituting.{as-under, read-so, gave, one-left, all-parts}
use Rattle.sync_exchange_laws.proofs.TermsSucceeding.{all-brought}
use Rattle.sync_exchange_laws.proofs.Agreeing.{exchanges-go-by-any, starts-go-by-any}

-- ---- a token that is there is the token of the terms

abbrev found : Token → Result Token XStop
found t = Ok t

ok-token : (t u : Token) → found t ≡ found u → t ≡ u
ok-token t u e = cc

pub eq-holds : (a b : ℤ) → a ≡ b → int_eq a b ≡ true
eq-holds a b e = subst (λ (c : ℤ). int_eq a c ≡ true) e (int_eq_equiv.refl a)

pub pair-holds : (P : Formula → Type 0) (xs ys : List Formula) → AllByRecursion P xs → AllByRecursion P ys
    → AllByRecursion P (xs ++ ys)
pair-holds P [] ys a b = b
pair-holds P (x ∷ xs) ys a b = (a.0, pair-holds P xs ys a.1 b)

none-case : (b : Bool) (t : Token) (k : TokenTerms) (later : Option Token) (rest : Option TokenTerms)
    → (if b then Some k else rest) ≡ None → (rest ≡ None → later ≡ None) → (if b then Some t else later) ≡ None
none-case true t k later rest e next = absurd (cc)
none-case false t k later rest e next = next e

none-under : (v : Valuation) (name : ℕ) (hs : List HeldTerms) → terms_as name hs ≡ None
    → held_as name (hand_under v hs) ≡ None
unfolding terms_as held_as
none-under v name [] e = refl
none-under v name (h ∷ hs) e =
    none-case (nat_eq name h.name) (token_under v h.token) h.token (held_as name (hand_under v hs)) (terms_as name hs) e
    (none-under v name hs)

no-token : (x : Exchanging) (t : Token) → held_as (next_name x.tokens) x.hand ≡ None → named x ≡ Ok t → ⊥
no-token x t none is = let err : named x ≡ Err (Missing x.slot) = rw none refl in cc

module _ (v : Valuation) (d : TermsUnderWay) (x : Exchanging) (h : HasTerms v d x) where
  held-here : (o : Option Token) → held_as (next_name d.tokens) (hand_under v d.hand) ≡ o
      → held_as (next_name x.tokens) x.hand ≡ o
  held-here o e =
      ap (λ (ns : List ℕ). held_as (next_name ns) x.hand) h.tokens ∙ ap (held_as (next_name d.tokens)) h.hand ∙ e

  -- where the named token is the one that is asked for, the dues hold
  token-due : (f : ℕ) (key value : Tree) → named x ≡ Ok (token_of f (num v key) (num v value))
      → AllByRecursion (Holds v) (is_token f key value (terms_as (next_name d.tokens) d.hand))
  unfolding truth
  token-due f key value there = on (terms_as (next_name d.tokens) d.hand) refl where
    on : (o : Option TokenTerms) → terms_as (next_name d.tokens) d.hand ≡ o
        → AllByRecursion (Holds v) (is_token f key value o)
    on None is =
        absurd (no-token x (token_of f (num v key) (num v value))
        (held-here None (none-under v (next_name d.tokens) d.hand is)) there)
    on (Some t) is =
        let same : token_of f (num v key) (num v value) ≡ token_under v t =
        ok-token _ _ (sym there ∙ named-is x (token_under v t)
        (held-here (Some (token_under v t)) (as-under v (next_name d.tokens) d.hand t is))) in (
          eq-holds (pos f) (pos t.field) (ap (λ (u : Token). pos u.field) same),
          (
            eq-holds (num v t.key) (num v key) (sym (ap (λ (u : Token). u.key) same)),
            (eq-holds (num v t.value) (num v value) (sym (ap (λ (u : Token). u.value) same)), tt),
          ),
        )

  same-field : (f g : ℕ) → pos f ≡ pos g → f ≡ g
  same-field f g e = cc

  -- and where they hold it is that token
  due-token : (f : ℕ) (key value : Tree)
      → AllByRecursion (Holds v) (is_token f key value (terms_as (next_name d.tokens) d.hand))
      → named x ≡ Ok (token_of f (num v key) (num v value))
  unfolding truth
  due-token f key value dues = on (terms_as (next_name d.tokens) d.hand) refl dues where
    on : (o : Option TokenTerms) → terms_as (next_name d.tokens) d.hand ≡ o
        → AllByRecursion (Holds v) (is_token f key value o) → named x ≡ Ok (token_of f (num v key) (num v value))
    on None is holds = absurd (let no = holds.0 in cc)
    on (Some t) is holds =
        named-is x (token_under v t) (held-here (Some (token_under v t)) (as-under v (next_name d.tokens) d.hand t is))
        ∙ ap Ok (token-is (token_under v t) f (num v key) (num v value)
        (same-field f t.field (equal (pos f) (pos t.field) holds.0))
        (equal (num v t.key) (num v key) holds.1.0) (equal (num v t.value) (num v value) holds.1.1.0))

-- ---- statements

module _ (fs : List Field) (names : ℕ → Tree) (v : Valuation) where
  abbrev u : Valuation
  u = with_terms names v

  place-due : (d : TermsUnderWay) (x : Exchanging) → HasTerms v d x → (f : ℕ) (p : PlaceTree)
      → named x ≡ Ok (token_of f (key_under u p) (value_under u p)) → AllByRecursion (Holds v) (place_dues names f p d)
  place-due d x h f p there =
      token-due v d x h f (replaced names (key_of p)) (replaced names (value_of p))
      (there ∙ ap (λ (k : ℤ). Ok (token_of f k (value_under u p))) (sym (num-replaced names v (key_of p)))
      ∙ ap (λ (n : ℤ). Ok (token_of f (num v (replaced names (key_of p))) n)) (sym (num-replaced names v (value_of p))))

  one-due : (d : TermsUnderWay) (x : Exchanging) → HasTerms v d x → (a : ActTree) → IsBroughtUnder u a x
      → AllByRecursion (Holds v) (dues_at names a d)
  one-due d x h (acts.Require form) brought = (truth-replaced_in names v form ∙ brought, tt)
  one-due d x h (acts.Remove f p) brought = place-due d x h f p brought
  one-due d x h (acts.Have f p) brought = place-due d x h f p brought
  one-due d x h (acts.Deposit f p) brought = place-due d x h perm p brought
  one-due d x h (acts.Withdraw f p) brought = tt
  one-due d x h (acts.Guard f p) brought = tt
  one-due d x h (acts.Init f t) brought = tt
  one-due d x h (acts.Assert form) brought = tt
  one-due d x h (acts.Update f t) brought = tt
  one-due d x h (acts.HaveVariable f) brought = tt
  one-due d x h (acts.Add f p) brought = tt

  all-due : (ss : List StepTree) (d : TermsUnderWay) (x : Exchanging) → HasTerms v d x → AreBroughtUnder fs u ss x
      → AllByRecursion (Holds v) (all_dues fs names ss d)
  all-due [] d x h brought = tt
  all-due (s ∷ ss) d x h brought =
      pair-holds (Holds v) (dues_at names s.act d) (all_dues fs names ss (terms_left fs names s.act d))
      (one-due d x h s.act brought.0)
      (all-due ss (terms_left fs names s.act d) (left_under fs u s.act x) (one-left fs names v d x h s.act) brought.1)

  -- what is left has the values of the terms, whatever is brought
  all-terms : (ss : List StepTree) (d : TermsUnderWay) (x : Exchanging) → HasTerms v d x
      → HasTerms v (all_terms_left fs names ss d) (all_left fs u ss x)
  all-terms [] d x h = h
  all-terms (s ∷ ss) d x h =
      all-terms ss (terms_left fs names s.act d) (left_under fs u s.act x) (one-left fs names v d x h s.act)

  -- ---- the slots of variables

  known-so : (f name : ℕ) (n : ℤ) (d : TermsUnderWay) (x : Exchanging) → HasTerms v d x
      → HasTerms v (terms_known f name d) (knowing f name n x)
  known-so f name n d x h = record {
    tokens = h.tokens;
    given = h.given;
    variables = ap (λ (vs : List (ℕ × ℕ)). (f, name) ∷ vs) h.variables;
    hand = h.hand;
    entered = h.entered;
  }

  variable-left-so : (role : Role) (s : SlotTree) (d : TermsUnderWay) (x : Exchanging) → s.role ≡ role → HasTerms v d x
      → HasTerms v (variable_terms_left s d) (variable_left u s x)
  variable-left-so Given s d x is h =
      rw is (subst (λ (ns : List ℕ). HasTerms v
      (terms_known s.field (next_name d.given) (terms_given s.field zero zero d))
      (knowing s.field (next_name ns) (pos 0) (after_giving (token_of s.field (pos 0) (pos 0)) x))) (sym h.given)
      (known-so s.field (next_name d.given) (pos 0) _ _ (gave v d x h s.field zero zero)))
  variable-left-so role s d x is h =
      rw is (subst (λ (ns : List ℕ). HasTerms v (terms_known s.field (next_name d.tokens) (terms_read d))
      (knowing s.field (next_name ns) (u.number s.field) (after_reading x))) (sym h.tokens)
      (known-so s.field (next_name d.tokens) (u.number s.field) _ _ (read-so v d x h)))

  variable-due : (role : Role) (s : SlotTree) (d : TermsUnderWay) (x : Exchanging) → s.role ≡ role → HasTerms v d x
      → IsVariableThere u s x → AllByRecursion (Holds v) (variable_dues names s d)
  variable-due Given s d x is h there = rw is tt
  variable-due role s d x is h there =
      let found : named x ≡ Ok (token_of s.field (pos 0) (u.number s.field)) = rw is at there in
      rw is (token-due v d x h s.field zero (names s.field) found)

  due-variable : (role : Role) (s : SlotTree) (d : TermsUnderWay) (x : Exchanging) → s.role ≡ role → HasTerms v d x
      → AllByRecursion (Holds v) (variable_dues names s d) → IsVariableThere u s x
  due-variable Given s d x is h dues = rw is tt
  due-variable role s d x is h dues =
      let holds : AllByRecursion (Holds v)
      (is_token s.field zero (names s.field) (terms_as (next_name d.tokens) d.hand)) =
      rw is at dues in
      rw is (due-token v d x h s.field zero (names s.field) holds)

  variables-left-so : (ss : List SlotTree) (d : TermsUnderWay) (x : Exchanging) → HasTerms v d x
      → HasTerms v (all_variable_terms_left ss d) (variables_left u ss x)
  variables-left-so [] d x h = h
  variables-left-so (s ∷ ss) d x h =
      variables-left-so ss (variable_terms_left s d) (variable_left u s x) (variable-left-so s.role s d x refl h)

  variables-due : (ss : List SlotTree) (d : TermsUnderWay) (x : Exchanging) → HasTerms v d x
      → AreVariablesThere u ss x → AllByRecursion (Holds v) (all_variable_dues names ss d)
  variables-due [] d x h there = tt
  variables-due (s ∷ ss) d x h there =
      pair-holds (Holds v) (variable_dues names s d) (all_variable_dues names ss (variable_terms_left s d))
      (variable-due s.role s d x refl h there.0)
      (variables-due ss (variable_terms_left s d) (variable_left u s x) (variable-left-so s.role s d x refl h) there.1)

  due-variables : (ss : List SlotTree) (d : TermsUnderWay) (x : Exchanging) → HasTerms v d x
      → AllByRecursion (Holds v) (all_variable_dues names ss d) → AreVariablesThere u ss x
  due-variables [] d x h dues = tt
  due-variables (s ∷ ss) d x h dues =
      let parts = all-parts (Holds v) (variable_dues names s d)
      (all_variable_dues names ss (variable_terms_left s d)) dues in (
        due-variable s.role s d x refl h parts.0,
        due-variables ss (variable_terms_left s d) (variable_left u s x) (variable-left-so s.role s d x refl h) parts.1,
      )

  -- ---- the whole

  module _ (o : OperationTree) (args : List ℤ) (tokens given : List ℕ) (hand : List HeldTerms) (kept : Kept)
      (whole : State) where
    abbrev first : Exchanging
    first = beginning fs o args tokens given whole (hand_under v hand) kept

    abbrev begun : Exchanging
    begun = begun_under fs u o args tokens given whole (hand_under v hand) kept

    at-first : HasTerms v (terms_at_first tokens given hand) first
    at-first = record { tokens = refl; given = refl; variables = refl; hand = refl; entered = refl }

    at-begun : HasTerms v (terms_begun fs o tokens given hand) begun
    at-begun = variables-left-so (variable_slots fs o) (terms_at_first tokens given hand) first at-first

    pub go-by-terms : GoesBy fs u o args tokens given (hand_under v hand) kept whole
        → GoesByTerms fs names v o args tokens given hand kept whole
    go-by-terms g = record {
      succeeds = λ dues.
          let parts =
          all-parts (Holds v) (all_variable_dues names (variable_slots fs o) (terms_at_first tokens given hand))
          (all_dues fs names o.steps (terms_begun fs o tokens given hand)) dues in
          g.succeeds (record {
            variables = due-variables (variable_slots fs o) (terms_at_first tokens given hand) first at-first parts.0;
            statements = (all-brought fs names v o.steps (terms_begun fs o tokens given hand) begun at-begun parts.1).0;
          });
      alone = λ x e.
          let brings = (g.alone x e).0 in
          pair-holds (Holds v) (all_variable_dues names (variable_slots fs o) (terms_at_first tokens given hand))
          (all_dues fs names o.steps (terms_begun fs o tokens given hand))
          (variables-due (variable_slots fs o) (terms_at_first tokens given hand) first at-first brings.variables)
          (all-due o.steps (terms_begun fs o tokens given hand) begun at-begun brings.statements);
      leaves = λ x e.
          let last = all-terms o.steps (terms_begun fs o tokens given hand) begun at-begun in
          let d = all_terms_left fs names o.steps (terms_begun fs o tokens given hand) in
          ap (λ (y : Exchanged). y.hand) (g.alone x e).1
          ∙ ap (λ (hs : List Held). hs ++ (all_left fs u o.steps begun).entered) last.hand
          ∙ ap (λ (hs : List Held). hand_under v d.hand ++ hs) last.entered
          ∙ sym (map-append (held_under v) d.hand d.entered);
    }

pub exchanges-go-by-terms : ExchangesGoByTerms
exchanges-go-by-terms m proved o has other args long v tokens given hand apart others kept sound s joined reached whole
    either names agrees =
    go-by-terms m.fields names v o args tokens given hand kept whole
    (exchanges-go-by-any m proved o has other args long tokens given (hand_under v hand) apart others kept sound s
    joined
    reached whole either (with_terms names v) agrees)

pub starts-go-by-terms : StartsGoByTerms
starts-go-by-terms m proved o has init args long v tokens given hand apart perms kept blanks empty whole names agrees =
    go-by-terms m.fields names v o args tokens given hand kept whole
    (starts-go-by-any m proved o has init args long tokens given (hand_under v hand) apart perms kept blanks empty whole
    (with_terms names v) agrees)
