-- An exchange of terms is, under a valuation under which its dues hold, the exchange of their values.
use Rattle.std.proofs.Common.{◌≡◌, ℕ, ℤ, pos, Bool, true, false, not, List, [], ◌∷◌, ◌++◌, length, Option, Some, None, Ok, refl, sym, ap, subst, ◌∙◌, if◌then◌else◌, nat_eq}
use Rattle.std.specs.List.{AllByRecursion}
use Rattle.std.proofs.lemmas.List.{map-append}
use Rattle.sync_terms.specs.Trees.{Tree, Formula, replaced}
use Rattle.sync_terms.specs.Values.{Valuation, num, truth, Holds, with_terms}
use Rattle.sync_terms.proofs.Meaning.{num-replaced, truth-replaced_in}
use Rattle.sync_machine.specs.declared.fields.Field.{Field}
use Rattle.sync_base.specs.declared.strategies.Strategy.{Strategy}
use Rattle.sync_base.specs.declared.strategies.Strategy.TheVariants.{Variable, Constant, NotTokenized, Option as OptionField, Map, Set, Multiset, Count, PersistentOption, PersistentMap, PersistentSet, PersistentCount, StorageMap}
use Rattle.sync_machine.specs.Machines.{PlaceTree, ActTree, StepTree}
use Rattle.sync_machine.specs.Machines as acts
use Rattle.sync_machine.specs.Statements.{zero, key_of, value_of, binds}
use Rattle.sync_machine.specs.States.{Value, sort_of, strategy_at, value_in}
use Rattle.sync_join.specs.declared.tokens.Token.{Token}
use Rattle.sync_join.specs.Shards.{perm}
use Rattle.sync_join.proofs.Maps.{equal}
use Rattle.sync_exchange.specs.declared.hands.Held.{Held}
use Rattle.sync_exchange.specs.Exchange.{Exchanging, named, held_as, without, revalued, next_name, later_names, token_name, stored_at, withdrawn, permission, token_of, after_reading, after_taking, after_seeing, after_giving, binding, recording, storing, revaluing, raising, started, updated, beginning}
use Rattle.sync_exchange.proofs.Passing.{either}
use Rattle.sync_exchange.proofs.Strategies.{some_is}
use Rattle.sync_exchange_laws.specs.Along.{key_under, value_under, IsThere, left_under, AreThere, all_left, ended}
use Rattle.sync_exchange_laws.specs.Terms.{TokenTerms, HeldTerms, token_under, held_under, hand_under, terms_as, terms_without, terms_revalued, TermsUnderWay, is_token, place_dues, dues_at, terms_taken, terms_read, terms_given, terms_changed, terms_started, terms_updated, terms_left, all_dues, HasTerms, IsStoredThere, ReadsSame, AllReadSame, TermsAreExchanged, ExchangesOfTermsFollow}
use Rattle.sync_exchange.proofs.Rules.{regular}
use Rattle.sync_exchange.proofs.Beginning.{trust}
use Rattle.sync_exchange_laws.specs.Conditions.{valuation_at}
use Rattle.sync_exchange_laws.proofs.Variables.{token-is, variables-found}
use Rattle.sync_exchange_laws.proofs.Along.{named-is}
use Rattle.sync_exchange_laws.proofs.Returning.{learned, exchanges-follow}

-- ---- hands

if-some : (b : Bool) (here later : Option TokenTerms) (t : TokenTerms) (P : Type 0)
    → (if b then here else later) ≡ Some t → (b ≡ true → here ≡ Some t → P) → (b ≡ false → later ≡ Some t → P) → P
if-some true here later t P e now behind = now refl e
if-some false here later t P e now behind = behind refl e

pub as-under : (v : Valuation) (name : ℕ) (hs : List HeldTerms) (t : TokenTerms) → terms_as name hs ≡ Some t
    → held_as name (hand_under v hs) ≡ Some (token_under v t)
unfolding terms_as held_as
as-under v name [] t e = absurd (cc)
as-under v name (h ∷ hs) t e =
    if-some (nat_eq name h.name) (Some h.token) (terms_as name hs) t
    (held_as name (hand_under v (h ∷ hs)) ≡ Some (token_under v t)) e
    (λ is here. rw is (ap (λ (u : TokenTerms). Some (token_under v u)) (some_is h.token t here)))
    (λ is later. rw is (as-under v name hs t later))

filter-case : (v : Valuation) (b : Bool) (h : HeldTerms) (xs : List Held) (ys : List HeldTerms) → xs ≡ hand_under v ys
    → (if b then held_under v h ∷ xs else xs) ≡ hand_under v (if b then h ∷ ys else ys)
filter-case v true h xs ys e = ap (λ (zs : List Held). held_under v h ∷ zs) e
filter-case v false h xs ys e = e

without-under : (v : Valuation) (name : ℕ) (hs : List HeldTerms)
    → without name (hand_under v hs) ≡ hand_under v (terms_without name hs)
without-under v name [] = refl
without-under v name (h ∷ hs) =
    filter-case v (not (nat_eq name h.name)) h (without name (hand_under v hs)) (terms_without name hs)
    (without-under v name hs)

revalue-case : (v : Valuation) (b : Bool) (h : HeldTerms) (t : Tree)
    → (if b then record (held_under v h) { token = record (token_under v h.token) { value = num v t } } else held_under v h)
    ≡ held_under v (if b then record h { token = record h.token { value = t } } else h)
revalue-case v true h t = refl
revalue-case v false h t = refl

revalued-under : (v : Valuation) (name : ℕ) (t : Tree) (hs : List HeldTerms)
    → revalued name (num v t) (hand_under v hs) ≡ hand_under v (terms_revalued name t hs)
revalued-under v name t [] = refl
revalued-under v name t (h ∷ hs) =
    ap (λ (k : Held). k ∷ revalued name (num v t) (hand_under v hs)) (revalue-case v (nat_eq name h.name) h t)
    ∙ ap (λ (ks : List Held). held_under v (if nat_eq name h.name then record h { token = record h.token { value = t } } else h) ∷ ks) (revalued-under v name t hs)

-- ---- what a statement leaves

module _ (v : Valuation) (d : TermsUnderWay) (x : Exchanging) (h : HasTerms v d x) where
  taken-so : HasTerms v (terms_taken d) (after_taking x)
  taken-so = record {
    tokens = ap later_names h.tokens;
    given = h.given;
    variables = h.variables;
    hand = ap (λ (ns : List ℕ). without (next_name ns) x.hand) h.tokens ∙ ap (without (next_name d.tokens)) h.hand
        ∙ without-under v (next_name d.tokens) d.hand;
    entered = h.entered;
  }

  pub read-so : HasTerms v (terms_read d) (after_reading x)
  read-so =
      record { tokens = ap later_names h.tokens; given = h.given; variables = h.variables; hand = h.hand; entered = h.entered }

  seen-so : HasTerms v d (after_seeing x)
  seen-so = record { tokens = h.tokens; given = h.given; variables = h.variables; hand = h.hand; entered = h.entered }

  pub gave : (f : ℕ) (k n : Tree) → HasTerms v (terms_given f k n d) (after_giving (token_of f (num v k) (num v n)) x)
  gave f k n =
      let held : ℕ → Held = λ name. record { name = name; token = token_of f (num v k) (num v n) } in
      record {
        tokens = h.tokens;
        given = ap later_names h.given;
        variables = h.variables;
        hand = h.hand;
        entered = ap (λ (hs : List Held). hs ++ held (next_name x.given) ∷ []) h.entered
            ∙ ap (λ (ns : List ℕ). hand_under v d.entered ++ held (next_name ns) ∷ []) h.given
            ∙ sym (map-append (held_under v) d.entered (record { name = next_name d.given; token = record { field = f; key = k; value = n } } ∷ []));
      }

  gave-as : (f : ℕ) (k n : Tree) (i j : ℤ) → num v k ≡ i → num v n ≡ j
      → HasTerms v (terms_given f k n d) (after_giving (token_of f i j) x)
  gave-as f k n i j key value =
      subst (λ (z : ℤ). HasTerms v (terms_given f k n d) (after_giving (token_of f z j) x)) key
      (subst (λ (z : ℤ). HasTerms v (terms_given f k n d) (after_giving (token_of f (num v k) z) x)) value (gave f k n))

  changed : (f : ℕ) (t : Tree) → HasTerms v (terms_changed f t d) (revaluing f (num v t) x)
  changed f t =
      either (token_name f d.variables) (HasTerms v (terms_changed f t d) (revaluing f (num v t) x))
      (λ none. let here : token_name f x.variables ≡ None = ap (token_name f) h.variables ∙ none in rw (none, here) h)
      (λ name some. let here : token_name f x.variables ≡ Some name = ap (token_name f) h.variables ∙ some in
      rw (some, here) (record {
        tokens = h.tokens;
        given = h.given;
        variables = h.variables;
        hand = ap (revalued name (num v t)) h.hand ∙ revalued-under v name t d.hand;
        entered = ap (revalued name (num v t)) h.entered ∙ revalued-under v name t d.entered;
      }))

  changed-as : (f : ℕ) (t : Tree) (i : ℤ) → num v t ≡ i → HasTerms v (terms_changed f t d) (revaluing f i x)
  changed-as f t i e = subst (λ (z : ℤ). HasTerms v (terms_changed f t d) (revaluing f z x)) e (changed f t)

-- bound names and what is kept are no tokens
bound-too : (v : Valuation) (d : TermsUnderWay) (o : Option ℕ) (n : ℤ) (x : Exchanging) → HasTerms v d x
    → HasTerms v d (binding o n x)
bound-too v d None n x h = h
bound-too v d (Some y) n x h =
    record { tokens = h.tokens; given = h.given; variables = h.variables; hand = h.hand; entered = h.entered }

stored-too : (v : Valuation) (d : TermsUnderWay) (ts : List Token) (x : Exchanging) → HasTerms v d x
    → HasTerms v d (storing ts x)
stored-too v d ts x h =
    record { tokens = h.tokens; given = h.given; variables = h.variables; hand = h.hand; entered = h.entered }

recorded-too : (v : Valuation) (d : TermsUnderWay) (f : ℕ) (w : Value) (x : Exchanging) → HasTerms v d x
    → HasTerms v d (recording f w x)
recorded-too v d f w x h =
    record { tokens = h.tokens; given = h.given; variables = h.variables; hand = h.hand; entered = h.entered }

module _ (fs : List Field) (names : ℕ → Tree) (v : Valuation) (d : TermsUnderWay) (x : Exchanging)
    (h : HasTerms v d x) where
  abbrev u : Valuation
  u = with_terms names v

  started-left : (s : Strategy) (f : ℕ) (t : Tree)
      → HasTerms v (terms_started s f (replaced names t) d) (started s f (value_in u (sort_of s) t) x)
  unfolding sort_of
  started-left Variable f t = changed-as v d x h f (replaced names t) (num u t) (num-replaced names v t)
  started-left Count f t = gave-as v d x h f zero (replaced names t) (pos 0) (num u t) refl (num-replaced names v t)
  started-left PersistentCount f t =
      recorded-too v _ f _ _ (gave-as v d x h f zero (replaced names t) (pos 0) (num u t) refl (num-replaced names v t))
  started-left Constant f t = recorded-too v d f _ x h
  started-left NotTokenized f t = recorded-too v d f _ x h
  started-left PersistentOption f t = recorded-too v d f _ x h
  started-left PersistentMap f t = recorded-too v d f _ x h
  started-left PersistentSet f t = recorded-too v d f _ x h
  started-left OptionField f t = h
  started-left Map f t = h
  started-left Set f t = h
  started-left Multiset f t = h
  started-left StorageMap f t = h

  updated-left : (s : Strategy) (f : ℕ) (t : Tree)
      → HasTerms v (terms_updated s f (replaced names t) d) (updated s f (value_in u (sort_of s) t) x)
  unfolding sort_of
  updated-left Variable f t = changed-as v d x h f (replaced names t) (num u t) (num-replaced names v t)
  updated-left NotTokenized f t = recorded-too v d f _ x h
  updated-left Count f t = h
  updated-left PersistentCount f t = h
  updated-left Constant f t = h
  updated-left PersistentOption f t = h
  updated-left PersistentMap f t = h
  updated-left PersistentSet f t = h
  updated-left OptionField f t = h
  updated-left Map f t = h
  updated-left Set f t = h
  updated-left Multiset f t = h
  updated-left StorageMap f t = h

  place-given : (f : ℕ) (p : PlaceTree)
      → HasTerms v (terms_given f (replaced names (key_of p)) (replaced names (value_of p)) d) (after_giving (token_of f (key_under u p) (value_under u p)) x)
  place-given f p =
      gave-as v d x h f (replaced names (key_of p)) (replaced names (value_of p)) (key_under u p) (value_under u p)
      (num-replaced names v (key_of p)) (num-replaced names v (value_of p))

  pub one-left : (a : ActTree) → HasTerms v (terms_left fs names a d) (left_under fs u a x)
  one-left (acts.Require form) = h
  one-left (acts.Assert form) = h
  one-left (acts.HaveVariable f) = h
  one-left (acts.Init f t) = started-left (strategy_at fs f) f t
  one-left (acts.Update f t) = updated-left (strategy_at fs f) f t
  one-left (acts.Remove f p) = bound-too v _ (binds p) (value_under u p) (after_taking x) (taken-so v d x h)
  one-left (acts.Have f p) = bound-too v _ (binds p) (value_under u p) (after_reading x) (read-so v d x h)
  one-left (acts.Add f p) = recorded-too v _ f _ _ (place-given f p)
  one-left (acts.Deposit f p) = stored-too v _ _ (after_taking x) (taken-so v d x h)
  one-left (acts.Withdraw f p) = bound-too v _ (binds p) (value_under u p) _ (stored-too v _ _ _ (place-given perm p))
  one-left (acts.Guard f p) = bound-too v _ (binds p) (value_under u p) (after_seeing x) (seen-so v d x h)

  -- ---- what it asks is there

  field-is : (f g : ℕ) → pos f ≡ pos g → f ≡ g
  field-is f g e = cc

  token-there : (f : ℕ) (p : PlaceTree) → AllByRecursion (Holds v) (place_dues names f p d)
      → named x ≡ Ok (token_of f (key_under u p) (value_under u p))
  unfolding truth
  token-there f p dues = on (terms_as (next_name d.tokens) d.hand) refl dues where
    on : (o : Option TokenTerms) → terms_as (next_name d.tokens) d.hand ≡ o
        → AllByRecursion (Holds v) (is_token f (replaced names (key_of p)) (replaced names (value_of p)) o)
        → named x ≡ Ok (token_of f (key_under u p) (value_under u p))
    on None is holds = absurd (let no = holds.0 in cc)
    on (Some t) is holds =
        let field = field-is f t.field (equal (pos f) (pos t.field) holds.0) in
        let key : num v t.key ≡ key_under u p =
        equal (num v t.key) (num v (replaced names (key_of p))) holds.1.0 ∙ num-replaced names v (key_of p) in
        let value : num v t.value ≡ value_under u p =
        equal (num v t.value) (num v (replaced names (value_of p))) holds.1.1.0
        ∙ num-replaced names v (value_of p) in
        let held : held_as (next_name x.tokens) x.hand ≡ Some (token_under v t) =
        ap (λ (ns : List ℕ). held_as (next_name ns) x.hand) h.tokens ∙ ap (held_as (next_name d.tokens)) h.hand
        ∙ as-under v (next_name d.tokens) d.hand t is in
        named-is x (token_under v t) held
        ∙ ap Ok (token-is (token_under v t) f (key_under u p) (value_under u p) field key value)

  pub one-there : (a : ActTree) → AllByRecursion (Holds v) (dues_at names a d) → IsStoredThere u a x → IsThere u a x
  one-there (acts.Require form) dues stored = sym (truth-replaced_in names v form) ∙ dues.0
  one-there (acts.Remove f p) dues stored = token-there f p dues
  one-there (acts.Have f p) dues stored = token-there f p dues
  one-there (acts.Deposit f p) dues stored = token-there perm p dues
  one-there (acts.Withdraw f p) dues stored = stored
  one-there (acts.Guard f p) dues stored = stored
  one-there (acts.Init f t) dues stored = tt
  one-there (acts.Assert form) dues stored = tt
  one-there (acts.Update f t) dues stored = tt
  one-there (acts.HaveVariable f) dues stored = tt
  one-there (acts.Add f p) dues stored = tt

-- ---- all statements

pub all-parts : (P : Formula → Type 0) (xs ys : List Formula) → AllByRecursion P (xs ++ ys) → AllByRecursion P xs
    × AllByRecursion P ys
all-parts P [] ys a = (tt, a)
all-parts P (x ∷ xs) ys a = let rest = all-parts P xs ys a.1 in ((a.0, rest.0), rest.1)

pub terms-are-exchanged : TermsAreExchanged
terms-are-exchanged fs names v [] d x h dues stored = (tt, h)
terms-are-exchanged fs names v (s ∷ ss) d x h dues stored =
    let parts = all-parts (Holds v) (dues_at names s.act d) (all_dues fs names ss (terms_left fs names s.act d)) dues in
    let rest =
    terms-are-exchanged fs names v ss (terms_left fs names s.act d) (left_under fs (with_terms names v) s.act x)
    (one-left fs names v d x h s.act) parts.1 stored.1 in
    ((one-there fs names v d x h s.act parts.0 stored.0, rest.0), rest.1)

-- ---- along two valuations under which all that is read is the same

module _ (fs : List Field) (v w : Valuation) (x : Exchanging) where
  pub same-left : (a : ActTree) → ReadsSame fs v w a → left_under fs v a x ≡ left_under fs w a x
  same-left (acts.Require form) e = refl
  same-left (acts.Assert form) e = refl
  same-left (acts.HaveVariable f) e = refl
  same-left (acts.Init f t) e = ap (λ (z : Value). started (strategy_at fs f) f z x) e
  same-left (acts.Update f t) e = ap (λ (z : Value). updated (strategy_at fs f) f z x) e
  same-left (acts.Remove f p) e = ap (λ (n : ℤ). binding (binds p) n (after_taking x)) e.1
  same-left (acts.Have f p) e = ap (λ (n : ℤ). binding (binds p) n (after_reading x)) e.1
  same-left (acts.Add f p) e =
      ap (λ (k : ℤ). raising fs f k (value_under v p) (after_giving (token_of f k (value_under v p)) x)) e.0
      ∙ ap (λ (n : ℤ). raising fs f (key_under w p) n (after_giving (token_of f (key_under w p) n) x)) e.1
  same-left (acts.Deposit f p) e =
      ap (λ (k : ℤ). storing (x.kept.stored ++ token_of f k (value_under v p) ∷ []) (after_taking x)) e.0
      ∙ ap (λ (n : ℤ). storing (x.kept.stored ++ token_of f (key_under w p) n ∷ []) (after_taking x)) e.1
  same-left (acts.Withdraw f p) e =
      let left : ℤ → ℤ → Exchanging = λ k n. binding (binds p) n (storing (withdrawn f k x.kept.stored) (after_giving (permission k n) x)) in
      ap (λ (k : ℤ). left k (value_under v p)) e.0 ∙ ap (left (key_under w p)) e.1
  same-left (acts.Guard f p) e = ap (λ (n : ℤ). binding (binds p) n (after_seeing x)) e.1

  token-same : (f : ℕ) (p : PlaceTree) → key_under v p ≡ key_under w p → value_under v p ≡ value_under w p
      → named x ≡ Ok (token_of f (key_under v p) (value_under v p))
      → named x ≡ Ok (token_of f (key_under w p) (value_under w p))
  token-same f p key value e =
      e ∙ ap (λ (k : ℤ). Ok (token_of f k (value_under v p))) key
      ∙ ap (λ (n : ℤ). Ok (token_of f (key_under w p) n)) value

  object-same : (f : ℕ) (p : PlaceTree) → key_under v p ≡ key_under w p → value_under v p ≡ value_under w p
      → stored_at f (key_under v p) x.kept.stored ≡ Some (value_under v p)
      → stored_at f (key_under w p) x.kept.stored ≡ Some (value_under w p)
  object-same f p key value e = ap (λ (k : ℤ). stored_at f k x.kept.stored) (sym key) ∙ e ∙ ap (λ (n : ℤ). Some n) value

  pub same-there : (a : ActTree) → ReadsSame fs v w a → IsThere v a x → IsThere w a x
  same-there (acts.Require form) e there = sym e ∙ there
  same-there (acts.Remove f p) e there = token-same f p e.0 e.1 there
  same-there (acts.Have f p) e there = token-same f p e.0 e.1 there
  same-there (acts.Deposit f p) e there = token-same perm p e.0 e.1 there
  same-there (acts.Withdraw f p) e there = object-same f p e.0 e.1 there
  same-there (acts.Guard f p) e there = object-same f p e.0 e.1 there
  same-there (acts.Init f t) e there = tt
  same-there (acts.Assert form) e there = tt
  same-there (acts.Update f t) e there = tt
  same-there (acts.HaveVariable f) e there = tt
  same-there (acts.Add f p) e there = tt

pub all-same : (fs : List Field) (v w : Valuation) (ss : List StepTree) (x : Exchanging)
    → AllReadSame fs v w ss → AreThere fs v ss x
    → AreThere fs w ss x × (all_left fs v ss x ≡ all_left fs w ss x)
all-same fs v w [] x reads there = (tt, refl)
all-same fs v w (s ∷ ss) x reads there =
    let one = same-left fs v w x s.act reads.0 in
    let rest = all-same fs v w ss (left_under fs v s.act x) reads.1 there.1 in
    ((same-there fs v w x s.act reads.0 there.0, subst (AreThere fs w ss) one rest.0), rest.1 ∙ ap (all_left fs w ss) one)

pub exchanges-of-terms-follow : ExchangesOfTermsFollow
exchanges-of-terms-follow m proved o has other args long tokens given hand apart others kept sound s joined reached
    whole either bound many begun first names v reads d h dues stored =
    let w = valuation_at m.fields s o args bound in
    let went = terms-are-exchanged m.fields names v o.steps d begun h dues stored in
    let same = all-same m.fields (with_terms names v) w o.steps begun reads went.0 in
    let rules = regular m proved.symbols proved.named proved.strategies o has in
    let t = trust m.fields o s whole other rules.rules either in
    let slots = variables-found m.fields o.steps w (length m.fields) 0
    (beginning m.fields o args tokens given whole hand kept) begun first
    (learned m o args tokens given hand others kept s whole joined sound other apart rules t begun first long bound) in
    let follow =
    exchanges-follow m proved o has other args long tokens given hand apart others kept sound s joined reached
    whole either bound many
    (ended (all_left m.fields (with_terms names v) o.steps begun))
    (record {
      variables = slots.0;
      found = subst (AreThere m.fields w o.steps) (sym slots.1) same.0;
      leaves = ap ended same.1 ∙ ap (λ (u : Exchanging). ended (all_left m.fields w o.steps u)) (sym slots.1);
    }) in
    (follow.0, went.1, follow.1)
