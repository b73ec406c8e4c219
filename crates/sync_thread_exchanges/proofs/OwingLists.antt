-- What typing owes over the statements of an operation holds exactly where the dues of the exchange of terms do.
use Rattle.std.proofs.Common.{◌≡◌, ℕ, suc, ◌<◌, ◌≤◌, ℤ, pos, Bool, true, false, ◌&&◌, ◌||◌, List, [], ◌∷◌, ◌++◌, length, drop, filter_map, unwrap_or, append_assoc, append-nil, Option, Some, None, is_some, inl, inr, ◌⊎◌, refl, sym, ap, subst, ◌∙◌, nat_eq}
use Rattle.std.specs.List.{AllByRecursion, cons_option, list_any}
use Rattle.std.proofs.lemmas.Bool.{false≢true}
use Rattle.sync_base.specs.declared.stops.Rule.TheVariants.{T4}
use Rattle.sync_terms.specs.Trees.{Tree, Name, Formula, replaced, replaced_in}
use Rattle.sync_terms.specs.Values.{Valuation, num, truth, Holds}
use Rattle.sync_machine.specs.declared.fields.Field.{Field}
use Rattle.sync_base.specs.declared.strategies.Strategy.{Strategy}
use Rattle.sync_base.specs.declared.strategies.Strategy.TheVariants.{Variable, Constant, NotTokenized, Option as OptionField, Map, Set, Multiset, Count, PersistentOption, PersistentMap, PersistentSet, PersistentCount, StorageMap}
use Rattle.sync_machine.specs.Machines.{PatternTree, Bind, Term, PlaceTree, ActTree, StepTree}
use Rattle.sync_machine.specs.Machines as acts
use Rattle.sync_machine.specs.Naming.{bound_by, bound_names}
use Rattle.sync_machine.specs.Statements.{or_zero, or_one, bound_in, binds, field_of}
use Rattle.sync_machine.specs.States.{strategy_at, strategy_of}
use Rattle.sync_rules.specs.Locality.{is_variable, place_names_only}
use Rattle.sync_rules.specs.Order.{is_first_value}
use Rattle.sync_rules.specs.Shapes.{has_shape, fits}
use Rattle.sync_rules.specs.declared.kinds.OpKind.TheVariants as kinds
use Rattle.sync_rules.specs.Strategies.{has_statement, kind_of}
use Rattle.sync_rules.specs.Slots.{SlotTree, place_slot, act_slot}
use Rattle.sync_rules.specs.declared.slots.Role.TheVariants.{Out, Seen}
use Rattle.sync_join.specs.Shards.{perm, IsToken}
use Rattle.sync_exchange.specs.Exchange.{next_name}
use Rattle.sync_exchange.proofs.Terms.{and_left, and_right}
use Rattle.sync_exchange.proofs.Lawful.{IsLawful, reads_only}
use Rattle.sync_exchange.proofs.Going.{is_known_by, AreLawful, known-bound}
use Rattle.sync_exchange.proofs.Using.{HasNoInit}
use Rattle.sync_exchange_laws.specs.Terms.{TermsUnderWay, terms_as, terms_without, token_under, place_dues, dues_at, terms_left, all_dues}
use Rattle.sync_exchange_laws.proofs.Substituting.{all-parts}
use Rattle.sync_exchange_laws.proofs.WholeTerms.{pair-holds}
use Rattle.sync_typing.specs.Symbols.{Names, named_by}
use Rattle.sync_typing.specs.Dues.{Due, Makes, Owes, agrees}
use Rattle.sync_typing.specs.Environments.{Env, TokenTree, token}
use Rattle.sync_typing.specs.Exchanging.{Part, calls, step_part, token_dues, Deal, dealt, dealt_form, dealt_if, pattern_term, head_of, shows, deal}
use Rattle.sync_thread_exchanges.specs.Deals.{as_terms, AreTokens, stands_for, owed, IsPassed}
use Rattle.sync_thread_exchanges.proofs.Owing.{without-other, Hold, Iff, hold-append, form-value, IsAsked, is-asked, token-of-field, key-zero, value-one}
use Rattle.sync_thread_exchanges.proofs.OwingStatements.{slot_value, with_pattern, no-variable, binding-names, binding-dues, binding-tokens, behind, behind-names, deal-cons, own-named, parts, stays-named, step_of, IsAlike, reads-alike, same-alike, updates-alike, place-alike}

-- a stored object's place has a key and a value
storage-place : (s : Strategy) (p : PlaceTree) → has_statement s kinds.Deposit ≡ true → has_shape s p ≡ true
    → (is_some p.key ≡ true) × (is_some p.value ≡ true)
unfolding has_shape
storage-place StorageMap p kind shape = (and_left _ _ shape, and_right (is_some p.key) _ shape)
storage-place Variable p kind shape = absurd (false≢true kind)
storage-place Constant p kind shape = absurd (false≢true kind)
storage-place NotTokenized p kind shape = absurd (false≢true kind)
storage-place Count p kind shape = absurd (false≢true kind)
storage-place PersistentCount p kind shape = absurd (false≢true kind)
storage-place OptionField p kind shape = absurd (false≢true kind)
storage-place Map p kind shape = absurd (false≢true kind)
storage-place Set p kind shape = absurd (false≢true kind)
storage-place Multiset p kind shape = absurd (false≢true kind)
storage-place PersistentOption p kind shape = absurd (false≢true kind)
storage-place PersistentMap p kind shape = absurd (false≢true kind)
storage-place PersistentSet p kind shape = absurd (false≢true kind)

some-none : {A : Type 0} (o : Option A) (P : Type 0) → is_some o ≡ true → o ≡ None → P
some-none o P some none = absurd (let no = sym (ap is_some none) ∙ some in cc)

module _ (e : Env) (fs : List Field) (few : length fs ≤ 32) (v : Valuation) (names : ℕ → Tree)
    (tokens : AreTokens fs v e.hand) where
  abbrev Holding : List Formula → Type 0
  Holding = AllByRecursion (Holds v)

  abbrev Passing : List Due → Type 0
  Passing = AllByRecursion IsPassed

  -- how a statement goes on: with names of tokens that were asked for, alike again, and with what it owes
  pub record GoesOn (line : ℕ) (a : ActTree) (d : Deal) (t : TermsUnderWay) (ps : List Part) : Type 0 where
    pub asked : List ℕ
    pub alike : IsAlike e fs v names asked (behind e fs line a d) (terms_left fs names a t)
    pub passes : Passing (token_dues e asked ps (behind e fs line a d).tokens)
    pub owes : Iff v (Hold v (behind e fs line a d).dues) (Hold v d.dues × Holding (dues_at names a t))

  -- nothing more is owed
  same-owed : (ds : List Due) → Iff v (Hold v ds) (Hold v ds × Unit {0})
  same-owed ds = (λ h. (h, tt), λ h. h.0)

  more-owed : (ds es : List Due) (fs : List Formula) → Iff v (Hold v es) (Holding fs)
      → Iff v (Hold v (ds ++ es)) (Hold v ds × Holding fs)
  more-owed ds es fs same =
      let both = hold-append v ds es in
      (λ h. let parts = both.0 h in (parts.0, same.0 parts.1), λ h. both.1 (h.0, same.1 h.1))

  makes-owed : (ds : List Due) (k n : Tree) → Iff v (Hold v (ds ++ Makes k ∷ Makes n ∷ [])) (Hold v ds × Unit {0})
  makes-owed ds k n =
      let both = hold-append v ds (Makes k ∷ Makes n ∷ []) in
      (λ h. ((both.0 h).0, tt), λ h. both.1 (h.0, tt))

  shown-owed : (x : SlotTree) (d : Deal) → Iff v (Hold v (shows x d).dues) (Hold v d.dues × Unit {0})
  shown-owed x d = on x.value refl where
    on : (o : Option PatternTree) → x.value ≡ o → Iff v (Hold v (shows x d).dues) (Hold v d.dues × Unit {0})
    on None is = rw is (makes-owed d.dues (dealt d (or_zero x.key)) (dealt d (or_one None)))
    on (Some (Term u)) is = rw is (makes-owed d.dues (dealt d (or_zero x.key)) (dealt d (or_one (Some (Term u)))))
    on (Some (Bind y)) is =
        let n : Deal = record (calls y (Name d.fresh) d) { fresh = suc d.fresh } in
        rw is (makes-owed d.dues (dealt n (or_zero x.key)) (dealt n (or_one (Some (Bind y)))))

  shown-tokens : (x : SlotTree) (d : Deal) → (shows x d).tokens ≡ d.tokens
  shown-tokens x d = on x.value refl where
    on : (o : Option PatternTree) → x.value ≡ o → (shows x d).tokens ≡ d.tokens
    on None is = rw is refl
    on (Some (Term u)) is = rw is refl
    on (Some (Bind y)) is = rw is refl

  module _ (bs : List StepTree) (params : List ℕ) (d : Deal) (t : TermsUnderWay) (asked : List ℕ) (ps : List Part)
      (same : (z : ℕ) → is_known_by fs (params ++ bound_names bs) z ≡ true → stands_for d z ≡ names z)
      (alike : IsAlike e fs v names asked d t) where
    abbrev q : ℕ → Bool
    q z = is_known_by fs (params ++ bound_names bs) z

    -- a name that the statement binds stands for what it is bound to
    abbrev Stays : ℕ → ActTree → Type 0
    Stays line a = (y : ℕ) → bound_by a ≡ Some y → stands_for (behind e fs line a d) y ≡ names y

    -- at a place of a token, whose due is of this field
    module _ (line : ℕ) (a : ActTree) (f : ℕ) (p : PlaceTree) (reads : place_names_only q p ≡ true)
        (asks : IsAsked e asked f (head_of d.tokens))
        (keys : p.key ≡ None → num v asks.tok.key ≡ pos 0) (values : p.value ≡ None → num v asks.tok.value ≡ pos 1)
        (named : (behind e fs line a d).names ≡ with_pattern p.value (token e (head_of d.tokens)).value d.names)
        (stays : (y : ℕ) → binds p ≡ Some y → stands_for (behind e fs line a d) y ≡ names y) where
      place-bound : (y : ℕ) → binds p ≡ Some y → names y ≡ asks.tok.value
      place-bound y b =
          let here : named_by (behind e fs line a d).names y ≡ Some asks.tok.value =
          ap (λ (ns : Names). named_by ns y) named
          ∙ own-named p.value (token e (head_of d.tokens)).value d.names y b
          ∙ ap (λ (u : TokenTree). Some u.value) asks.same in
          sym (stays y b) ∙ ap (λ (o : Option Tree). unwrap_or o (Name y)) here

      abbrev compared : List Due
      compared = agrees T4 (token e (head_of d.tokens)).key (dealt_if d p.key)
          ++ agrees T4 (token e (head_of d.tokens)).value (dealt_if d (pattern_term p.value))

      place-owed : (behind e fs line a d).dues ≡ d.dues ++ compared
          → Iff v (Hold v (behind e fs line a d).dues) (Hold v d.dues × Holding (place_dues names f p t))
      place-owed dues =
          let more =
          more-owed d.dues compared (place_dues names f p t)
          (place-alike e fs v names d t q same asked f p alike reads asks keys values place-bound) in
          (λ h. more.0 (subst (Hold v) dues h), λ h. subst (Hold v) (sym dues) (more.1 h))

    -- each statement
    pub step-on : (line : ℕ) (a : ActTree) → IsLawful fs (λ z. true && q z) a → is_first_value (kind_of a) ≡ false
        → Stays line a
        → Passing (token_dues e asked (cons_option (step_part fs (step_of e fs line a)) ps) d.tokens)
        → GoesOn line a d t ps
    unfolding act_slot bound_by fits field_of kind_of reads_only truth
    step-on line (acts.Require form) lawful later stays passes = record {
      asked = asked;
      alike = same-alike e fs v names asked d _ t alike refl;
      passes = passes;
      owes = more-owed d.dues (Owes T4 (dealt_form d form) ∷ []) (replaced_in names form ∷ [])
          (let value = form-value v d names q same form lawful.reads in
          (λ h. (sym value ∙ h.0, tt), λ h. (value ∙ h.0, tt)));
    }
    step-on line (acts.Assert form) lawful later stays passes =
        record { asked = asked; alike = alike; passes = passes; owes = same-owed d.dues }
    step-on line (acts.HaveVariable f) lawful later stays passes =
        record { asked = asked; alike = alike; passes = passes; owes = same-owed d.dues }
    step-on line (acts.Update f u) lawful later stays passes = record {
      asked = asked;
      alike = updates-alike e fs v names (strategy_at fs f) asked d t f (replaced names u) alike;
      passes = passes;
      owes = same-owed d.dues;
    }
    step-on line (acts.Init f u) lawful later stays passes = absurd (cc)
    step-on line (acts.Add f p) lawful later stays passes = record {
      asked = asked;
      alike = record { tokens = alike.tokens; hand = alike.hand; variables = alike.variables };
      passes = passes;
      owes = same-owed d.dues;
    }
    step-on line (acts.Withdraw f p) lawful later stays passes =
        let same_tokens = shown-tokens (place_slot Out f p line) d in
        record {
          asked = asked;
          alike = record { tokens = alike.tokens ∙ sym same_tokens; hand = alike.hand; variables = alike.variables };
          passes = subst (λ (ns : List ℕ). Passing (token_dues e asked ps ns)) (sym same_tokens) passes;
          owes = shown-owed (place_slot Out f p line) d;
        }
    step-on line (acts.Guard f p) lawful later stays passes =
        let same_tokens = shown-tokens (place_slot Seen f p line) d in
        record {
          asked = asked;
          alike = record { tokens = alike.tokens ∙ sym same_tokens; hand = alike.hand; variables = alike.variables };
          passes = subst (λ (ns : List ℕ). Passing (token_dues e asked ps ns)) (sym same_tokens) passes;
          owes = shown-owed (place_slot Seen f p line) d;
        }
    step-on line (acts.Remove f p) lawful later stays passes =
        let n = head_of d.tokens in
        let next = behind e fs line (acts.Remove f p) d in
        let asks = is-asked e asked f n (token_dues e (n ∷ asked) ps (drop 1 d.tokens)) passes in
        let tv = (token e n).value in
        let found : Deal = record d {
          dues = d.dues ++ agrees T4 (token e n).key (dealt_if d p.key)
              ++ agrees T4 (token e n).value (dealt_if d (pattern_term p.value));
        } in
        let tokens_are : next.tokens ≡ drop 1 d.tokens = ap (drop 1) (binding-tokens p.value tv found) in
        let names_are : next.names ≡ with_pattern p.value tv d.names = binding-names p.value tv found in
        let dues_are : next.dues ≡ d.dues
        ++ (agrees T4 (token e n).key (dealt_if d p.key)
        ++ agrees T4 (token e n).value (dealt_if d (pattern_term p.value))) = binding-dues p.value tv found
        ∙ append_assoc d.dues (agrees T4 (token e n).key (dealt_if d p.key))
        (agrees T4 (token e n).value (dealt_if d (pattern_term p.value))) in
        let shape = and_left (has_shape (strategy_at fs f) p) _ lawful.fit in
        let own = token-of-field fs v f asks.0.tok few (lawful.inside f refl) asks.0.field
        (tokens n asks.0.tok asks.0.held) in
        record {
          asked = n ∷ asked;
          alike = reads-alike e fs v names asked d next t (terms_without (next_name t.tokens) t.hand) alike tokens_are
              (λ m other. without-other m (next_name t.tokens) t.hand other);
          passes = subst (λ (ns : List ℕ). Passing (token_dues e (n ∷ asked) ps ns)) (sym tokens_are) asks.1;
          owes = place-owed line (acts.Remove f p) f p lawful.reads asks.0 (key-zero fs v f asks.0.tok p own shape)
              (value-one fs v f asks.0.tok p own shape) names_are stays dues_are;
        }
    step-on line (acts.Have f p) lawful later stays passes =
        let n = head_of d.tokens in
        let next = behind e fs line (acts.Have f p) d in
        let asks = is-asked e asked f n (token_dues e (n ∷ asked) ps (drop 1 d.tokens)) passes in
        let tv = (token e n).value in
        let found : Deal = record d {
          dues = d.dues ++ agrees T4 (token e n).key (dealt_if d p.key)
              ++ agrees T4 (token e n).value (dealt_if d (pattern_term p.value));
        } in
        let out : is_variable (strategy_at fs f) ≡ false = no-variable (strategy_at fs f) lawful.allowed in
        let tokens_are : next.tokens ≡ drop 1 d.tokens = rw out (ap (drop 1) (binding-tokens p.value tv found)) in
        let names_are : next.names ≡ with_pattern p.value tv d.names = rw out (binding-names p.value tv found) in
        let dues_are : next.dues ≡ d.dues
        ++ (agrees T4 (token e n).key (dealt_if d p.key)
        ++ agrees T4 (token e n).value (dealt_if d (pattern_term p.value))) = rw out
        (binding-dues p.value tv found
        ∙ append_assoc d.dues (agrees T4 (token e n).key (dealt_if d p.key))
        (agrees T4 (token e n).value (dealt_if d (pattern_term p.value)))) in
        let shape = and_left (has_shape (strategy_at fs f) p) _ lawful.fit in
        let own = token-of-field fs v f asks.0.tok few (lawful.inside f refl) asks.0.field
        (tokens n asks.0.tok asks.0.held) in
        record {
          asked = n ∷ asked;
          alike = reads-alike e fs v names asked d next t t.hand alike tokens_are (λ m other. refl);
          passes = subst (λ (ns : List ℕ). Passing (token_dues e (n ∷ asked) ps ns)) (sym tokens_are) asks.1;
          owes = place-owed line (acts.Have f p) f p lawful.reads asks.0 (key-zero fs v f asks.0.tok p own shape)
              (value-one fs v f asks.0.tok p own shape) names_are stays dues_are;
        }
    step-on line (acts.Deposit f p) lawful later stays passes =
        let n = head_of d.tokens in
        let next = behind e fs line (acts.Deposit f p) d in
        let asks = is-asked e asked perm n (token_dues e (n ∷ asked) ps (drop 1 d.tokens)) passes in
        let tv = (token e n).value in
        let found : Deal = record d {
          dues = d.dues ++ agrees T4 (token e n).key (dealt_if d p.key)
              ++ agrees T4 (token e n).value (dealt_if d (pattern_term p.value));
        } in
        let tokens_are : next.tokens ≡ drop 1 d.tokens = ap (drop 1) (binding-tokens p.value tv found) in
        let names_are : next.names ≡ with_pattern p.value tv d.names = binding-names p.value tv found in
        let dues_are : next.dues ≡ d.dues
        ++ (agrees T4 (token e n).key (dealt_if d p.key)
        ++ agrees T4 (token e n).value (dealt_if d (pattern_term p.value))) = binding-dues p.value tv found
        ∙ append_assoc d.dues (agrees T4 (token e n).key (dealt_if d p.key))
        (agrees T4 (token e n).value (dealt_if d (pattern_term p.value))) in
        let whole = storage-place (strategy_at fs f) p lawful.allowed
        (and_left (has_shape (strategy_at fs f) p) _ lawful.fit) in
        record {
          asked = n ∷ asked;
          alike = reads-alike e fs v names asked d next t (terms_without (next_name t.tokens) t.hand) alike tokens_are
              (λ m other. without-other m (next_name t.tokens) t.hand other);
          passes = subst (λ (ns : List ℕ). Passing (token_dues e (n ∷ asked) ps ns)) (sym tokens_are) asks.1;
          owes = place-owed line (acts.Deposit f p) perm p lawful.reads asks.0
              (λ none. some-none p.key (num v asks.0.tok.key ≡ pos 0) whole.0 none)
              (λ none. some-none p.value (num v asks.0.tok.value ≡ pos 1) whole.1 none) names_are stays
              dues_are;
        }

  -- ---- all statements

  module _ (params : List ℕ) (fin : Deal) (ends : (z : ℕ) → stands_for fin z ≡ names z) where
    pub rest-on : (bs ss : List StepTree) (asked : List ℕ) (d : Deal) (t : TermsUnderWay)
        → AreLawful fs (λ z. true) params bs ss → HasNoInit ss → IsAlike e fs v names asked d t
        → Passing (token_dues e asked (parts e fs ss) d.tokens) → deal e fs (parts e fs ss) d ≡ fin
        → Iff v (Hold v fin.dues) (Hold v d.dues × Holding (all_dues fs names ss t))
    rest-on bs [] asked d t laws none alike passes is =
        (λ h. (subst (λ (u : Deal). Hold v u.dues) (sym is) h, tt), λ h. subst (λ (u : Deal). Hold v u.dues) is h.0)
    rest-on bs (s ∷ ss) asked d t laws none alike passes is =
        let next = behind e fs s.line s.act d in
        let is_next : deal e fs (parts e fs ss) next ≡ fin =
        sym (deal-cons e fs (step_part fs s) (parts e fs ss) d) ∙ is in
        let in_end : (u : Deal) (z : ℕ) → named_by fin.names z ≡ named_by u.names z → stands_for u z ≡ names z =
        λ u z h. ap (λ (o : Option Tree). unwrap_or o (Name z)) (sym h) ∙ ends z in
        let same = λ (z : ℕ) (known : is_known_by fs (params ++ bound_names bs) z ≡ true).
        in_end d z
        (ap (λ (u : Deal). named_by u.names z) (sym is) ∙ stays-named e fs params bs (s ∷ ss) laws none d z known) in
        let stays = λ (y : ℕ) (b : bound_by s.act ≡ Some y).
        in_end next y
        (ap (λ (u : Deal). named_by u.names y) (sym is_next)
        ∙ stays-named e fs params (bs ++ s ∷ []) ss laws.2 none.1 next y (known-bound fs params bs s y b)) in
        let on = step-on bs params d t asked (parts e fs ss) same alike s.line s.act laws.0 none.0 stays passes in
        let rest = rest-on (bs ++ s ∷ []) ss on.asked next (terms_left fs names s.act t) laws.2 none.1 on.alike
        on.passes is_next in
        let all = all_dues fs names ss (terms_left fs names s.act t) in (
          λ h.
              let one = rest.0 h in
              let two = on.owes.0 one.0 in
              (two.0, pair-holds (Holds v) (dues_at names s.act t) all two.1 one.1),
          λ h.
              let both = all-parts (Holds v) (dues_at names s.act t) all h.1 in
              rest.1 (on.owes.1 (h.0, both.0), both.1),
        )
