-- What typing owes at one place of an exchange holds exactly where the due of the exchange of terms does.
use Rattle.std.proofs.Common.{◌≡◌, ℕ, zero, suc, ◌<◌, ◌≤◌, ℤ, pos, Bool, true, false, not, ◌&&◌, ◌||◌, List, [], ◌∷◌, ◌++◌, length, drop, filter_map, option_map, unwrap_or, Option, Some, None, is_some, is_none, inl, inr, ◌⊎◌, refl, sym, ap, subst, ◌∙◌, arith, nat_eq, if◌then◌else◌}
use Rattle.std.specs.List.{AllByRecursion, cons_option, list_any}
use Rattle.std.specs.Ordering.{int_eq}
use Rattle.std.proofs.lemmas.Bool.{false≢true, eqb-true, eq-eqb}
use Rattle.std.proofs.lemmas.List.Elements.{filter_map-append}
use Rattle.sync_base.specs.declared.stops.Rule.TheVariants.{T4}
use Rattle.sync_terms.specs.Trees.{Tree, Lit, Name, Nil, Formula, Eq, replaced, replaced_in}
use Rattle.sync_terms.specs.Values.{Valuation, num, mapped, truth, Holds, with_terms}
use Rattle.sync_terms.proofs.Meaning.{num-replaced, truth-replaced_in}
use Rattle.sync_machine.specs.declared.fields.Field.{Field}
use Rattle.sync_base.specs.declared.strategies.Strategy.{Strategy}
use Rattle.sync_base.specs.declared.strategies.Strategy.TheVariants.{Variable, Constant, NotTokenized, Option as OptionField, Map, Set, Multiset, Count, PersistentOption, PersistentMap, PersistentSet, PersistentCount, StorageMap}
use Rattle.sync_machine.specs.Machines.{PatternTree, Bind, Term, PlaceTree}
use Rattle.sync_machine.specs.Statements.{or_zero, or_one, bound_in, key_of, value_of}
use Rattle.sync_machine.specs.States.{strategy_at}
use Rattle.sync_rules.specs.Locality.{names_only, form_names_only, key_names_only, pattern_names_only}
use Rattle.sync_rules.specs.Shapes.{has_shape}
use Rattle.sync_join.specs.Shards.{perm, has_keys, has_elements, IsTokenOf, IsToken}
use Rattle.sync_join.proofs.Maps.{equal}
use Rattle.sync_exchange.specs.Exchange.{next_name, later_names, token_name}
use Rattle.sync_exchange.proofs.Terms.{Same, num-same, truth-same, and_left, and_right}
use Rattle.sync_exchange_laws.specs.Terms.{HeldTerms, TokenTerms, token_under, terms_as, terms_without, terms_revalued, TermsUnderWay, is_token}
use Rattle.sync_exchange_laws.proofs.Substituting.{all-parts}
use Rattle.sync_exchange_laws.proofs.WholeTerms.{pair-holds, eq-holds}
use Rattle.sync_typing.specs.Symbols.{Names, named_by}
use Rattle.sync_typing.specs.Dues.{Due, Wants, Makes, Owes, agrees, asked_dues}
use Rattle.sync_typing.specs.Environments.{Env, TokenTree, token, is_held}
use Rattle.sync_typing.specs.Exchanging.{Deal, dealt, dealt_form, dealt_if, pattern_term, head_of}
use Rattle.sync_thread_exchanges.specs.Deals.{as_terms, AreTokens, stands_for, owed_by, owed, IsPassed}

-- ---- names of tokens

pub first-name : (ns : List ℕ) → next_name ns ≡ head_of ns
first-name [] = refl
first-name (n ∷ ns) = refl

pub rest-names : (ns : List ℕ) → later_names ns ≡ drop 1 ns
rest-names [] = refl
rest-names (n ∷ ns) = refl

filtered : (b : Bool) (m n : ℕ) (t : TokenTerms) (xs ys : Option TokenTerms) → nat_eq m n ≡ false → xs ≡ ys
    → xs ≡ (if nat_eq m n then Some t else ys)
filtered b m n t xs ys other e = rw other e

-- another token than the one that is taken out, or that has another value
pub without-other : (m n : ℕ) (hs : List HeldTerms) → nat_eq m n ≡ false
    → terms_as m (terms_without n hs) ≡ terms_as m hs
unfolding terms_as
without-other m n [] other = refl
without-other m n (h ∷ hs) other = cases (nat_eq n h.name) refl (without-other m n hs other) where
  cases : (b : Bool) → nat_eq n h.name ≡ b → terms_as m (terms_without n hs) ≡ terms_as m hs
      → terms_as m (terms_without n (h ∷ hs)) ≡ terms_as m (h ∷ hs)
  cases true e rest =
      let apart : nat_eq m h.name ≡ false = ap (nat_eq m) (sym (eqb-true n h.name e)) ∙ other in
      rw e (rest ∙ rw apart refl)
  cases false e rest = rw e (ap (λ (o : Option TokenTerms). if nat_eq m h.name then Some h.token else o) rest)

pub revalued-other : (m n : ℕ) (t : Tree) (hs : List HeldTerms) → nat_eq m n ≡ false
    → terms_as m (terms_revalued n t hs) ≡ terms_as m hs
unfolding terms_as
revalued-other m n t [] other = refl
revalued-other m n t (h ∷ hs) other = cases (nat_eq n h.name) refl (revalued-other m n t hs other) where
  cases : (b : Bool) → nat_eq n h.name ≡ b → terms_as m (terms_revalued n t hs) ≡ terms_as m hs
      → terms_as m (terms_revalued n t (h ∷ hs)) ≡ terms_as m (h ∷ hs)
  cases true e rest =
      let apart : nat_eq m h.name ≡ false = ap (nat_eq m) (sym (eqb-true n h.name e)) ∙ other in
      rw (e, apart) rest
  cases false e rest = rw e (ap (λ (o : Option TokenTerms). if nat_eq m h.name then Some h.token else o) rest)

-- ---- what is owed

module _ (v : Valuation) where
  abbrev pub Hold : List Due → Type 0
  Hold ds = AllByRecursion (Holds v) (owed ds)

  abbrev pub Iff : Type 0 → Type 0 → Type 0
  Iff A B = (A → B) × (B → A)

  pub hold-append : (xs ys : List Due) → Iff (Hold (xs ++ ys)) (Hold xs × Hold ys)
  hold-append xs ys =
      let same = filter_map-append owed_by xs ys in (
        λ h. all-parts (Holds v) (owed xs) (owed ys) (subst (AllByRecursion (Holds v)) same h),
        λ h. subst (AllByRecursion (Holds v)) (sym same) (pair-holds (Holds v) (owed xs) (owed ys) h.0 h.1),
      )

  -- two terms, and two formulas, that name symbols which stand for the same in both
  module _ (d : Deal) (names : ℕ → Tree) (q : ℕ → Bool) (same : (z : ℕ) → q z ≡ true → stands_for d z ≡ names z) where
    same-values : Same q (with_terms (stands_for d) v) (with_terms names v)
    same-values = record { number = λ z e. ap (num v) (same z e); mapping = λ z e. ap (mapped v) (same z e) }

    pub term-value : (t : Tree) → names_only q t ≡ true → num v (dealt d t) ≡ num v (replaced names t)
    term-value t only =
        num-replaced (stands_for d) v t
        ∙ num-same q (with_terms (stands_for d) v) (with_terms names v) same-values t only
        ∙ sym (num-replaced names v t)

    pub form-value : (f : Formula) → form_names_only q f ≡ true
        → truth v (dealt_form d f) ≡ truth v (replaced_in names f)
    form-value f only =
        truth-replaced_in (stands_for d) v f
        ∙ truth-same q (with_terms (stands_for d) v) (with_terms names v) same-values f only
        ∙ sym (truth-replaced_in names v f)

    pub key-alike : (has : Tree) (o : Option Tree) → key_names_only q o ≡ true → (o ≡ None → num v has ≡ pos 0)
        → Iff (Hold (agrees T4 has (dealt_if d o))) (Holds v (Eq has (replaced names (or_zero o))))
    unfolding truth replaced
    key-alike has None only none = (λ h. eq-holds (num v has) (pos 0) (none refl), λ h. tt)
    key-alike has (Some t) only none =
        let same = term-value t only in (
          λ h. eq-holds (num v has) (num v (replaced names t)) (equal (num v has) (num v (dealt d t)) h.0 ∙ same),
          λ h. (
            eq-holds (num v has) (num v (dealt d t))
                (equal (num v has) (num v (replaced names t)) h ∙ sym same),
            tt,
          ),
        )

    pub value-alike : (has : Tree) (o : Option PatternTree) → pattern_names_only q o ≡ true
        → (o ≡ None → num v has ≡ pos 1) → ((y : ℕ) → bound_in o ≡ Some y → names y ≡ has)
        → Iff (Hold (agrees T4 has (dealt_if d (pattern_term o)))) (Holds v (Eq has (replaced names (or_one o))))
    unfolding truth replaced
    value-alike has None only none bound = (λ h. eq-holds (num v has) (pos 1) (none refl), λ h. tt)
    value-alike has (Some (Bind y)) only none bound =
        (λ h. eq-holds (num v has) (num v (names y)) (ap (num v) (sym (bound y refl))), λ h. tt)
    value-alike has (Some (Term t)) only none bound =
        let same = term-value t only in (
          λ h. eq-holds (num v has) (num v (replaced names t)) (equal (num v has) (num v (dealt d t)) h.0 ∙ same),
          λ h. (
            eq-holds (num v has) (num v (dealt d t))
                (equal (num v has) (num v (replaced names t)) h ∙ sym same),
            tt,
          ),
        )

-- ---- tokens that are asked for

-- the token of a name that is asked for: it is at hand, new to the statement, and of this field
pub record IsAsked (e : Env) (asked : List ℕ) (f n : ℕ) : Type 0 where
  pub tok : TokenTree
  pub held : e.hand n ≡ Some tok
  pub same : token e n ≡ tok
  pub new : list_any (nat_eq n) asked ≡ false
  pub field : f ≡ tok.field

not-true : (b : Bool) → not b ≡ true → b ≡ false
not-true true e = absurd (cc)
not-true false e = refl

pub is-asked : (e : Env) (asked : List ℕ) (f n : ℕ) (more : List Due)
    → AllByRecursion IsPassed (asked_dues e asked (nat_eq f) n ++ more)
    → IsAsked e asked f n × AllByRecursion IsPassed more
is-asked e asked f n more passed = (on (e.hand n) refl passed.0 passed.1.1.0, passed.1.1.1) where
  on : (o : Option TokenTree) → e.hand n ≡ o → is_some (e.hand n) ≡ true → nat_eq f (token e n).field ≡ true
      → IsAsked e asked f n
  on None is some field = absurd (let no = sym (ap is_some is) ∙ some in cc)
  on (Some t) is some field =
      let same : token e n ≡ t = ap
      (λ (o : Option TokenTree). unwrap_or o (record { field = 0; key = Nil; value = Nil })) is in
      record {
        tok = t;
        held = is;
        same = same;
        new = not-true (list_any (nat_eq n) asked) passed.1.0;
        field = eqb-true f t.field (ap (λ (u : TokenTree). nat_eq f u.field) (sym same) ∙ field);
      }

-- a place without a key, or without a value, is of a field whose tokens have the key 0, or the value 1
no-key : (s : Strategy) (p : PlaceTree) → has_shape s p ≡ true → p.key ≡ None → has_keys s ≡ false
unfolding has_shape
no-key OptionField p shape none = refl
no-key Count p shape none = refl
no-key PersistentOption p shape none = refl
no-key PersistentCount p shape none = refl
no-key Map p shape none = absurd (let no = sym (ap is_some none) ∙ and_left _ _ shape in cc)
no-key Set p shape none = absurd (let no = sym (ap is_some none) ∙ and_left _ _ shape in cc)
no-key Multiset p shape none = absurd (let no = sym (ap is_some none) ∙ and_left _ _ shape in cc)
no-key PersistentMap p shape none = absurd (let no = sym (ap is_some none) ∙ and_left _ _ shape in cc)
no-key PersistentSet p shape none = absurd (let no = sym (ap is_some none) ∙ and_left _ _ shape in cc)
no-key StorageMap p shape none = absurd (let no = sym (ap is_some none) ∙ and_left _ _ shape in cc)
no-key Variable p shape none = absurd (false≢true shape)
no-key Constant p shape none = absurd (false≢true shape)
no-key NotTokenized p shape none = absurd (false≢true shape)

no-value : (s : Strategy) (p : PlaceTree) → has_shape s p ≡ true → p.value ≡ None → has_elements s ≡ true
unfolding has_shape
no-value Set p shape none = refl
no-value Multiset p shape none = refl
no-value PersistentSet p shape none = refl
no-value OptionField p shape none = absurd (let no = sym (ap is_some none) ∙ and_right (is_none p.key) _ shape in cc)
no-value Count p shape none = absurd (let no = sym (ap is_some none) ∙ and_right (is_none p.key) _ shape in cc)
no-value PersistentOption p shape none = absurd
    (let no = sym (ap is_some none) ∙ and_right (is_none p.key) _ shape in cc)
no-value PersistentCount p shape none = absurd
    (let no = sym (ap is_some none) ∙ and_right (is_none p.key) _ shape in cc)
no-value Map p shape none = absurd (let no = sym (ap is_some none) ∙ and_right (is_some p.key) _ shape in cc)
no-value PersistentMap p shape none = absurd (let no = sym (ap is_some none) ∙ and_right (is_some p.key) _ shape in cc)
no-value StorageMap p shape none = absurd (let no = sym (ap is_some none) ∙ and_right (is_some p.key) _ shape in cc)
no-value Variable p shape none = absurd (false≢true shape)
no-value Constant p shape none = absurd (false≢true shape)
no-value NotTokenized p shape none = absurd (false≢true shape)

-- a token of a declared field
pub token-of-field : (fs : List Field) (v : Valuation) (f : ℕ) (t : TokenTree) → length fs ≤ 32 → f < length fs
    → f ≡ t.field → IsToken fs (token_under v (as_terms t)) → IsTokenOf (strategy_at fs f) (token_under v (as_terms t))
token-of-field fs v f t few lt is (inl perms) = absurd (omega (arith, few, lt, is, perms))
token-of-field fs v f t few lt is (inr own) =
    subst (λ (g : ℕ). IsTokenOf (strategy_at fs g) (token_under v (as_terms t))) (sym is) own.1

pub key-zero : (fs : List Field) (v : Valuation) (f : ℕ) (t : TokenTree) (p : PlaceTree)
    → IsTokenOf (strategy_at fs f) (token_under v (as_terms t)) → has_shape (strategy_at fs f) p ≡ true
    → p.key ≡ None → num v t.key ≡ pos 0
key-zero fs v f t p own shape none = own.keys (no-key (strategy_at fs f) p shape none)

pub value-one : (fs : List Field) (v : Valuation) (f : ℕ) (t : TokenTree) (p : PlaceTree)
    → IsTokenOf (strategy_at fs f) (token_under v (as_terms t)) → has_shape (strategy_at fs f) p ≡ true
    → p.value ≡ None → num v t.value ≡ pos 1
value-one fs v f t p own shape none = own.elements (no-value (strategy_at fs f) p shape none)
