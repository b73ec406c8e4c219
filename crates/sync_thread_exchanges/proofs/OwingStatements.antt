-- What typing owes at the statements of an operation holds exactly where the dues of the exchange of terms do.
use Rattle.std.proofs.Common.{◌≡◌, ℕ, suc, ◌<◌, ◌≤◌, ℤ, pos, Bool, true, false, ◌&&◌, ◌||◌, List, [], ◌∷◌, ◌++◌, length, drop, filter_map, option_map, unwrap_or, append_assoc, append-nil, Option, Some, None, is_some, inl, inr, ◌⊎◌, refl, sym, ap, subst, ◌∙◌, nat_eq, if◌then◌else◌}
use Rattle.std.specs.List.{AllByRecursion, cons_option, list_any}
use Rattle.std.proofs.lemmas.Bool.{false≢true, eqb-true, eq-eqb}
use Rattle.sync_base.specs.declared.stops.Rule.TheVariants.{T4}
use Rattle.sync_terms.specs.Trees.{Tree, Lit, Name, Formula, Eq, replaced, replaced_in}
use Rattle.sync_terms.specs.Values.{Valuation, num, truth, Holds}
use Rattle.sync_machine.specs.declared.fields.Field.{Field}
use Rattle.sync_base.specs.declared.strategies.Strategy.{Strategy}
use Rattle.sync_base.specs.declared.strategies.Strategy.TheVariants.{Variable, Constant, NotTokenized, Option as OptionField, Map, Set, Multiset, Count, PersistentOption, PersistentMap, PersistentSet, PersistentCount, StorageMap}
use Rattle.sync_machine.specs.Machines.{PatternTree, Bind, Term, PlaceTree, ActTree, StepTree}
use Rattle.sync_machine.specs.Machines as acts
use Rattle.sync_machine.specs.Naming.{bound_by, bound_names}
use Rattle.sync_machine.specs.Statements.{or_zero, or_one, bound_in, binds, key_of, value_of, field_of}
use Rattle.sync_machine.specs.States.{strategy_at, strategy_of}
use Rattle.sync_rules.specs.Locality.{place_names_only, key_names_only, is_variable}
use Rattle.sync_rules.specs.Shapes.{has_shape, fits}
use Rattle.sync_rules.specs.declared.kinds.OpKind.TheVariants as kinds
use Rattle.sync_rules.specs.Strategies.{has_statement, kind_of, HasKind}
use Rattle.sync_rules.specs.Order.{is_first_value}
use Rattle.sync_rules.specs.declared.slots.Role.TheVariants.{Given, Taken, Read, In, Out, Seen}
use Rattle.sync_rules.specs.Slots.{SlotTree, place_slot, act_slot, statement_slot}
use Rattle.sync_join.specs.Shards.{perm, IsToken}
use Rattle.sync_exchange.specs.Exchange.{next_name, later_names, token_name}
use Rattle.sync_exchange.proofs.Terms.{and_left, and_right}
use Rattle.sync_exchange.proofs.Lawful.{IsLawful, reads_only}
use Rattle.sync_exchange.proofs.Passing.{either}
use Rattle.sync_exchange.proofs.Strategies.{some_is}
use Rattle.sync_exchange.proofs.Going.{is_known_by, AreLawful, known-later, known-bound}
use Rattle.sync_exchange_laws.specs.Terms.{HeldTerms, TokenTerms, token_under, terms_as, TermsUnderWay, is_token, place_dues, dues_at, terms_left, terms_changed, terms_started, terms_updated, all_dues, all_terms_left}
use Rattle.sync_typing.specs.Symbols.{Names, named_by}
use Rattle.sync_typing.specs.Dues.{Due, Wants, Makes, Owes, agrees}
use Rattle.sync_typing.specs.Environments.{Env, TokenTree, token}
use Rattle.sync_typing.specs.Exchanging.{Part, Slot, Requires, slot_part, step_part, token_dues, Deal, dealt, dealt_form, dealt_if, pattern_term, head_of, binding, compare, shows, with_variable, deal_slot, deal}
use Rattle.sync_exchange.proofs.Using.{HasNoInit}
use Rattle.sync_exchange_laws.proofs.WholeTerms.{eq-holds}
use Rattle.sync_thread_exchanges.specs.Deals.{as_terms, AreTokens, stands_for, owed, IsPassed}
use Rattle.sync_thread_exchanges.proofs.Owing.{first-name, rest-names, without-other, revalued-other, Hold, Iff, hold-append, form-value, key-alike, value-alike, IsAsked, is-asked, token-of-field, key-zero, value-one}

-- ---- what a slot does to the names

-- a field whose statement names a token is no variable
pub no-variable : (s : Strategy) → has_statement s kinds.Have ≡ true → is_variable s ≡ false
no-variable Variable e = absurd (false≢true e)
no-variable Constant e = refl
no-variable NotTokenized e = refl
no-variable Count e = refl
no-variable PersistentCount e = refl
no-variable OptionField e = refl
no-variable Map e = refl
no-variable Set e = refl
no-variable Multiset e = refl
no-variable PersistentOption e = refl
no-variable PersistentMap e = refl
no-variable PersistentSet e = refl
no-variable StorageMap e = refl

-- the place of a statement, where it has a slot of its own
abbrev pub slot_value : ActTree → Option PatternTree
slot_value (acts.Remove f p) = p.value
slot_value (acts.Have f p) = p.value
slot_value (acts.Deposit f p) = p.value
slot_value (acts.Withdraw f p) = p.value
slot_value (acts.Guard f p) = p.value
slot_value (acts.Add f p) = None
slot_value (acts.Init f t) = None
slot_value (acts.Require form) = None
slot_value (acts.Assert form) = None
slot_value (acts.Update f t) = None
slot_value (acts.HaveVariable f) = None

-- the names behind a pattern, and these alone
abbrev pub with_pattern : Option PatternTree → Tree → Names → Names
with_pattern (Some (Bind y)) t ns = (y, t) ∷ ns
with_pattern (Some (Term u)) t ns = ns
with_pattern None t ns = ns

pub binding-names : (o : Option PatternTree) (t : Tree) (d : Deal) → (binding o t d).names ≡ with_pattern o t d.names
binding-names None t d = refl
binding-names (Some (Term u)) t d = refl
binding-names (Some (Bind y)) t d = refl

pub binding-tokens : (o : Option PatternTree) (t : Tree) (d : Deal) → (binding o t d).tokens ≡ d.tokens
binding-tokens None t d = refl
binding-tokens (Some (Term u)) t d = refl
binding-tokens (Some (Bind y)) t d = refl

pub binding-dues : (o : Option PatternTree) (t : Tree) (d : Deal) → (binding o t d).dues ≡ d.dues
binding-dues None t d = refl
binding-dues (Some (Term u)) t d = refl
binding-dues (Some (Bind y)) t d = refl

-- a name that the pattern does not bind, and the one that it binds
other-named : (o : Option PatternTree) (t : Tree) (ns : Names) (z : ℕ)
    → ((y : ℕ) → bound_in o ≡ Some y → nat_eq y z ≡ false) → named_by (with_pattern o t ns) z ≡ named_by ns z
other-named None t ns z other = refl
other-named (Some (Term u)) t ns z other = refl
other-named (Some (Bind y)) t ns z other = let apart = other y refl in rw apart refl

pub own-named : (o : Option PatternTree) (t : Tree) (ns : Names) (y : ℕ) → bound_in o ≡ Some y
    → named_by (with_pattern o t ns) y ≡ Some t
own-named None t ns y e = absurd (cc)
own-named (Some (Term u)) t ns y e = absurd (cc)
own-named (Some (Bind x)) t ns y e =
    let is : x ≡ y = some_is x y e in
    let same : nat_eq x y ≡ true = eq-eqb x y is in
    rw same refl

module _ (e : Env) (fs : List Field) where
  abbrev pub step_of : ℕ → ActTree → StepTree
  step_of line a = record { act = a; line = line }

  abbrev pub behind : ℕ → ActTree → Deal → Deal
  behind line a d = deal e fs (cons_option (step_part fs (step_of line a)) []) d

  -- what is shown binds a new symbol
  shown-names : (x : SlotTree) (d : Deal) → (t : Tree) × ((shows x d).names ≡ with_pattern x.value t d.names)
  shown-names x d = on x.value refl where
    on : (o : Option PatternTree) → x.value ≡ o → (t : Tree) × ((shows x d).names ≡ with_pattern x.value t d.names)
    on None is = (Name d.fresh, rw is refl)
    on (Some (Term u)) is = (Name d.fresh, rw is refl)
    on (Some (Bind y)) is = (Name d.fresh, rw is refl)

  -- a statement calls the name that it binds, and no other
  pub behind-names : (line : ℕ) (a : ActTree) (d : Deal) → HasKind (strategy_of fs a) (kind_of a)
      → is_first_value (kind_of a) ≡ false → (t : Tree)
      × ((behind line a d).names ≡ with_pattern (slot_value a) t d.names)
  unfolding act_slot kind_of field_of
  behind-names line (acts.Remove f p) d allowed later =
      ((token e (head_of d.tokens)).value, binding-names p.value (token e (head_of d.tokens)).value _)
  behind-names line (acts.Have f p) d allowed later =
      let out : is_variable (strategy_at fs f) ≡ false = no-variable (strategy_at fs f) allowed in
      ((token e (head_of d.tokens)).value, rw out (binding-names p.value (token e (head_of d.tokens)).value _))
  behind-names line (acts.Deposit f p) d allowed later =
      ((token e (head_of d.tokens)).value, binding-names p.value (token e (head_of d.tokens)).value _)
  behind-names line (acts.Withdraw f p) d allowed later = shown-names (place_slot Out f p line) d
  behind-names line (acts.Guard f p) d allowed later = shown-names (place_slot Seen f p line) d
  behind-names line (acts.Add f p) d allowed later = (Name 0, refl)
  behind-names line (acts.Require form) d allowed later = (Name 0, refl)
  behind-names line (acts.Assert form) d allowed later = (Name 0, refl)
  behind-names line (acts.Update f t) d allowed later = (Name 0, refl)
  behind-names line (acts.HaveVariable f) d allowed later = (Name 0, refl)
  behind-names line (acts.Init f t) d allowed later = absurd (cc)

  pub deal-cons : (o : Option Part) (ps : List Part) (d : Deal)
      → deal e fs (cons_option o ps) d ≡ deal e fs ps (deal e fs (cons_option o []) d)
  deal-cons None ps d = refl
  deal-cons (Some (Slot x)) ps d = refl
  deal-cons (Some (Requires form)) ps d = refl

  slot-binds : (a : ActTree) (y : ℕ) → bound_in (slot_value a) ≡ Some y → bound_by a ≡ Some y
  unfolding bound_by
  slot-binds (acts.Remove f p) y b = b
  slot-binds (acts.Have f p) y b = b
  slot-binds (acts.Deposit f p) y b = b
  slot-binds (acts.Withdraw f p) y b = b
  slot-binds (acts.Guard f p) y b = b
  slot-binds (acts.Add f p) y b = absurd (cc)
  slot-binds (acts.Init f t) y b = absurd (cc)
  slot-binds (acts.Require form) y b = absurd (cc)
  slot-binds (acts.Assert form) y b = absurd (cc)
  slot-binds (acts.Update f t) y b = absurd (cc)
  slot-binds (acts.HaveVariable f) y b = absurd (cc)

  abbrev pub parts : List StepTree → List Part
  parts ss = filter_map (step_part fs) ss

  module _ (params : List ℕ) where
    abbrev known : List StepTree → ℕ → Bool
    known bs z = is_known_by fs (params ++ bound_names bs) z

    apart : (bs : List StepTree) (y z : ℕ) → known bs y ≡ false → known bs z ≡ true → nat_eq y z ≡ false
    apart bs y z fresh is = cases (nat_eq y z) refl where
      cases : (b : Bool) → nat_eq y z ≡ b → b ≡ false
      cases true same = absurd (let there = ap (known bs) (eqb-true y z same) in let no = sym fresh ∙ there ∙ is in cc)
      cases false same = refl

    -- a name that is known stands for the same behind all that follows
    pub stays-named : (bs ss : List StepTree) → AreLawful fs (λ z. true) params bs ss → HasNoInit ss
        → (d : Deal) (z : ℕ)
        → known bs z ≡ true → named_by (deal e fs (parts ss) d).names z ≡ named_by d.names z
    stays-named bs [] laws none d z is = refl
    stays-named bs (s ∷ ss) laws none d z is =
        let here = behind-names s.line s.act d laws.0.allowed none.0 in
        let next = behind s.line s.act d in
        ap (λ (u : Deal). named_by u.names z) (deal-cons (step_part fs s) (parts ss) d)
        ∙ stays-named (bs ++ s ∷ []) ss laws.2 none.1 next z (known-later fs params bs (s ∷ []) z is)
        ∙ ap (λ (ns : Names). named_by ns z) here.1
        ∙ other-named (slot_value s.act) here.0 d.names z
        (λ y b. apart bs y z (laws.1 y (slot-binds s.act y b)) is)

-- ---- a deal under way, and the exchange of terms

module _ (e : Env) (fs : List Field) (v : Valuation) (names : ℕ → Tree) where
  pub record IsAlike (asked : List ℕ) (d : Deal) (t : TermsUnderWay) : Type 0 where
    pub tokens : t.tokens ≡ d.tokens
    pub hand : (m : ℕ) → list_any (nat_eq m) asked ≡ false → terms_as m t.hand ≡ option_map as_terms (e.hand m)
    pub variables : (f name : ℕ) → token_name f t.variables ≡ Some name → list_any (nat_eq name) asked ≡ true

  or-false : (a b : Bool) → (a || b) ≡ false → (a ≡ false) × (b ≡ false)
  or-false true b h = absurd (cc)
  or-false false b h = (refl, h)

  or-true : (a b : Bool) → b ≡ true → (a || b) ≡ true
  or-true true b h = refl
  or-true false b h = h

  -- a token that is asked for is read, or taken
  pub reads-alike : (asked : List ℕ) (d next : Deal) (t : TermsUnderWay) (hand : List HeldTerms) → IsAlike asked d t
      → next.tokens ≡ drop 1 d.tokens
      → ((m : ℕ) → nat_eq m (next_name t.tokens) ≡ false → terms_as m hand ≡ terms_as m t.hand)
      → IsAlike (head_of d.tokens ∷ asked) next (record t { tokens = later_names t.tokens; hand = hand })
  reads-alike asked d next t hand h tokens others = record {
    tokens = ap later_names h.tokens ∙ rest-names d.tokens ∙ sym tokens;
    hand = λ m new.
        let both = or-false (nat_eq m (head_of d.tokens)) (list_any (nat_eq m) asked) new in
        let first : next_name t.tokens ≡ head_of d.tokens = ap next_name h.tokens ∙ first-name d.tokens in
        others m (ap (nat_eq m) first ∙ both.0) ∙ h.hand m both.1;
    variables = λ f name known. or-true (nat_eq name (head_of d.tokens)) (list_any (nat_eq name) asked)
        (h.variables f name known);
  }

  pub same-alike : (asked : List ℕ) (d next : Deal) (t : TermsUnderWay) → IsAlike asked d t → next.tokens ≡ d.tokens
      → IsAlike asked next t
  same-alike asked d next t h tokens =
      record { tokens = h.tokens ∙ sym tokens; hand = h.hand; variables = h.variables }

  changes-alike : (asked : List ℕ) (d : Deal) (t : TermsUnderWay) (f : ℕ) (u : Tree) → IsAlike asked d t
      → IsAlike asked d (terms_changed f u t)
  changes-alike asked d t f u h =
      either (token_name f t.variables) (IsAlike asked d (terms_changed f u t)) (λ none. rw none h)
      (λ name some. rw some (record {
        tokens = h.tokens;
        hand = λ m new.
            revalued-other m name u t.hand (other m name new (h.variables f name some)) ∙ h.hand m new;
        variables = h.variables;
      })) where
        other : (m name : ℕ) → list_any (nat_eq m) asked ≡ false → list_any (nat_eq name) asked ≡ true
            → nat_eq m name ≡ false
        other m name new old = cases (nat_eq m name) refl where
          cases : (b : Bool) → nat_eq m name ≡ b → b ≡ false
          cases true same = absurd
              (let there = ap (λ (n : ℕ). list_any (nat_eq n) asked) (eqb-true m name same) in let no = sym new
              ∙ there ∙ old in cc)
          cases false same = refl

  pub updates-alike : (s : Strategy) (asked : List ℕ) (d : Deal) (t : TermsUnderWay) (f : ℕ) (u : Tree)
      → IsAlike asked d t
      → IsAlike asked d (terms_updated s f u t)
  updates-alike Variable asked d t f u h = changes-alike asked d t f u h
  updates-alike Constant asked d t f u h = h
  updates-alike NotTokenized asked d t f u h = h
  updates-alike Count asked d t f u h = h
  updates-alike PersistentCount asked d t f u h = h
  updates-alike OptionField asked d t f u h = h
  updates-alike Map asked d t f u h = h
  updates-alike Set asked d t f u h = h
  updates-alike Multiset asked d t f u h = h
  updates-alike PersistentOption asked d t f u h = h
  updates-alike PersistentMap asked d t f u h = h
  updates-alike PersistentSet asked d t f u h = h
  updates-alike StorageMap asked d t f u h = h

  -- the token that is asked for is the one of the hand of terms
  pub asked-there : (asked : List ℕ) (d : Deal) (t : TermsUnderWay) (f : ℕ) → IsAlike asked d t
      → (a : IsAsked e asked f (head_of d.tokens)) → terms_as (next_name t.tokens) t.hand ≡ Some (as_terms a.tok)
  asked-there asked d t f h a =
      ap (λ (n : ℕ). terms_as n t.hand) (ap next_name h.tokens ∙ first-name d.tokens) ∙ h.hand (head_of d.tokens) a.new
      ∙ ap (option_map as_terms) a.held

  module _ (d : Deal) (t : TermsUnderWay) (q : ℕ → Bool)
      (same : (z : ℕ) → q z ≡ true → stands_for d z ≡ names z) where
    -- what is owed at a place, and the dues there
    pub place-alike : (asked : List ℕ) (f : ℕ) (p : PlaceTree) → IsAlike asked d t → place_names_only q p ≡ true
        → (a : IsAsked e asked f (head_of d.tokens)) → (p.key ≡ None → num v a.tok.key ≡ pos 0)
        → (p.value ≡ None → num v a.tok.value ≡ pos 1) → ((y : ℕ) → binds p ≡ Some y → names y ≡ a.tok.value)
        → Iff v
        (Hold v (agrees T4 (token e (head_of d.tokens)).key (dealt_if d p.key)
        ++ agrees T4 (token e (head_of d.tokens)).value (dealt_if d (pattern_term p.value))))
        (AllByRecursion (Holds v) (place_dues names f p t))
    unfolding truth
    place-alike asked f p h reads a no_key no_value bound =
        let keys = key-alike v d names q same a.tok.key p.key (and_left _ _ reads) no_key in
        let values = value-alike v d names q same a.tok.value p.value (and_right (key_names_only q p.key) _ reads)
        no_value bound in
        let there = asked-there asked d t f h a in
        let both = hold-append v (agrees T4 a.tok.key (dealt_if d p.key))
        (agrees T4 a.tok.value (dealt_if d (pattern_term p.value))) in
        let owes : TokenTree → Type 0 =
        λ u. Hold v (agrees T4 u.key (dealt_if d p.key) ++ agrees T4 u.value (dealt_if d (pattern_term p.value))) in
        let asks : Option TokenTerms → Type 0 =
        λ o. AllByRecursion (Holds v) (is_token f (replaced names (key_of p)) (replaced names (value_of p)) o) in (
          λ held.
              let parts = both.0 (subst owes a.same held) in
              subst asks (sym there)
              (eq-holds (pos f) (pos a.tok.field) (ap pos a.field), (keys.0 parts.0, (values.0 parts.1, tt))),
          λ dues.
              let known = subst asks there dues in
              subst owes (sym a.same) (both.1 (keys.1 known.1.0, values.1 known.1.1.0)),
        )
