-- What a token that comes makes of its field's value and its record, strategy by strategy.
use Rattle.std.proofs.Common.{◌≡◌, ℤ, pos, ◌+ℤ◌, ◌≤ℤ◌, Bool, true, false, List, [], ◌∷◌, Option, Some, None, option_map, is_some, is_none, refl, sym, ap, subst, ◌∙◌, arith, if◌then◌else◌, int_le}
use Rattle.std.specs.List.{list_all}
use Rattle.std.specs.Ordering.{int_eq}
use Rattle.std.specs.FinMap as finmap
use Rattle.std.proofs.lemmas.Int.{ints}
use Rattle.sync_terms.specs.Trees.{Tree}
use Rattle.sync_terms.specs.Maps as maps
use Rattle.sync_terms.specs.Values.{Valuation, num, mapped, truth}
use Rattle.sync_base.specs.declared.strategies.Strategy.{Strategy}
use Rattle.sync_base.specs.declared.strategies.Strategy.TheVariants.{Variable, Constant, NotTokenized, Option as OptionField, Map, Set, Multiset, Count, PersistentOption, PersistentMap, PersistentSet, PersistentCount, StorageMap}
use Rattle.sync_machine.specs.Machines.{PatternTree, PlaceTree}
use Rattle.sync_machine.specs.Statements.{key_of, value_of, or_zero, or_one, freshness, added}
use Rattle.sync_machine.specs.States.{Value, Number, Mapped, sort_of, value_in, IsMet}
use Rattle.sync_rules.specs.declared.kinds.OpKind.TheVariants as kinds
use Rattle.sync_rules.specs.Strategies.{has_statement}
use Rattle.sync_rules.specs.Shapes.{fits_new, has_shape}
use Rattle.sync_join.specs.declared.tokens.Token.{Token}
use Rattle.sync_join.specs.Shards.{IsTokenOf, IsOf}
use Rattle.sync_join.specs.Join.{as_map, counts_of, sum_of, entries_of, number_of, is_value, is_entry, is_element, is_reached, borne_out, joined}
use Rattle.sync_entries.proofs.Maps.{get-put}
use Rattle.sync_join.proofs.Maps.{equal}
use Rattle.sync_join.proofs.Leaving.{as_map-in, get-put_same}
use Rattle.sync_exchange.specs.Exchange.{raised}
use Rattle.sync_exchange.proofs.Terms.{and_left, and_right, and_both}
use Rattle.sync_exchange.proofs.Strategies.{number_is, mapped_is, as_map_is, borne_is, borne, int_eq-refl, int_le-true, int_le-is, free-none, agrees-from}

-- ---- places as their strategies have them

no_key : (v : Valuation) (o : Option Tree) → is_none o ≡ true → num v (or_zero o) ≡ pos 0
no_key v None e = refl
no_key v (Some t) e = absurd (cc)

no_pattern : (v : Valuation) (o : Option PatternTree) → is_none o ≡ true → num v (or_one o) ≡ pos 1
no_pattern v None e = refl
no_pattern v (Some t) e = absurd (cc)

-- ---- persistent fields: what is borne out stays so

value_in_put : (m : maps.Map) (k n q w : ℤ) → ((l : ℤ) → finmap.get m k ≡ Some l → l ≡ n) → is_value (finmap.get m q) w ≡ true → is_value (finmap.get (maps.put m k n) q) w ≡ true
value_in_put m k n q w agree e = ap (λ o. is_value o w) (get-put m k n q) ∙ either (int_eq q k) (λ h. ap (finmap.get m) (equal q k h)) where
  same : (o : Option ℤ) → ((l : ℤ) → o ≡ Some l → l ≡ n) → is_value o w ≡ true → int_eq n w ≡ true
  same None h e = absurd (cc)
  same (Some l) h e = ap (λ x. int_eq x w) (sym (h l refl)) ∙ e

  either : (b : Bool) → (b ≡ true → finmap.get m q ≡ finmap.get m k) → is_value (if b then Some n else finmap.get m q) w ≡ true
  either true h = same (finmap.get m k) agree (ap (λ o. is_value o w) (sym (h refl)) ∙ e)
  either false h = e

entries-stay : (m : maps.Map) (k n : ℤ) (ts : List Token) → ((l : ℤ) → finmap.get m k ≡ Some l → l ≡ n) → list_all (is_entry (Mapped m)) ts ≡ true → list_all (is_entry (Mapped (maps.put m k n))) ts ≡ true
entries-stay m k n [] agree e = refl
entries-stay m k n (u ∷ ts) agree e =
    and_both _ _ (value_in_put m k n u.key u.value agree (and_left (is_entry (Mapped m) u) _ e)) (entries-stay m k n ts agree (and_right (is_entry (Mapped m) u) _ e))

entries-come : (m : maps.Map) (t : Token) (ts : List Token) → ((l : ℤ) → finmap.get m t.key ≡ Some l → l ≡ t.value) → list_all (is_entry (Mapped m)) ts ≡ true
    → list_all (is_entry (Mapped (maps.put m t.key t.value))) (t ∷ ts) ≡ true
entries-come m t ts agree e =
    and_both _ _ (ap (λ o. is_value o t.value) (get-put_same m t.key t.value) ∙ int_eq-refl t.value) (entries-stay m t.key t.value ts agree e)

some_in_put : (m : maps.Map) (k n q : ℤ) → is_some (finmap.get m q) ≡ true → is_some (finmap.get (maps.put m k n) q) ≡ true
some_in_put m k n q e = ap is_some (get-put m k n q) ∙ either (int_eq q k) where
  either : (b : Bool) → is_some (if b then Some n else finmap.get m q) ≡ true
  either true = refl
  either false = e

elements-stay : (m : maps.Map) (k n : ℤ) (ts : List Token) → list_all (is_element (Mapped m)) ts ≡ true → list_all (is_element (Mapped (maps.put m k n))) ts ≡ true
elements-stay m k n [] e = refl
elements-stay m k n (u ∷ ts) e =
    and_both _ _ (some_in_put m k n u.key (and_left (is_element (Mapped m) u) _ e)) (elements-stay m k n ts (and_right (is_element (Mapped m) u) _ e))

elements-come : (m : maps.Map) (n : ℤ) (t : Token) (ts : List Token) → list_all (is_element (Mapped m)) ts ≡ true → list_all (is_element (Mapped (maps.put m t.key n))) (t ∷ ts) ≡ true
elements-come m n t ts e = and_both _ _ (ap is_some (get-put_same m t.key n)) (elements-stay m t.key n ts e)

le_more : (a b c : ℤ) → int_le a b ≡ true → b ≤ℤ c → int_le a c ≡ true
le_more a b c e h = let k = int_le-is a b e in int_le-true a c (omega (arith, ints, k, h))

amounts-stay : (c n : ℤ) (ts : List Token) → c ≤ℤ n → list_all (is_reached (Number c)) ts ≡ true → list_all (is_reached (Number n)) ts ≡ true
amounts-stay c n [] h e = refl
amounts-stay c n (u ∷ ts) h e = and_both _ _ (le_more u.value c n (and_left (is_reached (Number c) u) _ e) h) (amounts-stay c n ts h (and_right (is_reached (Number c) u) _ e))

pub le-refl : (n : ℤ) → int_le n n ≡ true
le-refl n = int_le-true n n (omega (arith, ints))

-- ---- a token comes

abbrev pub Comes : Strategy → Valuation → Tree → PlaceTree → Token → List Token → Value → List Token → Type 0
Comes s v cur p t ts r st = joined s (t ∷ ts) (raised s r t.key t.value) st ≡ Some (value_in v (sort_of s) (added s cur p))

keyed-in : (v : Valuation) (cur : Tree) (k n : ℤ) (t : Token) (ts : List Token) → option_map Mapped (as_map ts) ≡ Some (Mapped (mapped v cur)) → finmap.get (mapped v cur) k ≡ None → t.key ≡ k → t.value ≡ n
    → option_map Mapped (as_map (t ∷ ts)) ≡ Some (Mapped (maps.put (mapped v cur) k n))
keyed-in v cur k n t ts e free is has =
    ap (option_map Mapped) (as_map-in t ts (mapped v cur) (as_map_is (as_map ts) (mapped v cur) e) (ap (finmap.get (mapped v cur)) is ∙ free))
    ∙ ap (λ q. Some (Mapped (maps.put (mapped v cur) q t.value))) is ∙ ap (λ w. Some (Mapped (maps.put (mapped v cur) k w))) has

entry-in : (m : maps.Map) (k n : ℤ) (t : Token) (ts : List Token) (r : Value) → borne_out (list_all (is_entry r) ts) r ≡ Some (Mapped m) → t.key ≡ k → t.value ≡ n
    → ((l : ℤ) → finmap.get m k ≡ Some l → l ≡ n)
    → borne_out (list_all (is_entry (Mapped (maps.put (entries_of r) t.key t.value))) (t ∷ ts)) (Mapped (maps.put (entries_of r) t.key t.value)) ≡ Some (Mapped (maps.put m k n))
entry-in m k n t ts r e is has agree =
    let b = borne_is (list_all (is_entry r) ts) r (Mapped m) e in
    let entries : entries_of r ≡ m = ap entries_of b.1 in
    borne _ _ _ (entries-come (entries_of r) t ts (λ l g. agree l (ap (finmap.get m) (sym is) ∙ ap (λ w. finmap.get w t.key) (sym entries) ∙ g) ∙ sym has) b.0)
    (ap (λ w. Mapped (maps.put w t.key t.value)) entries ∙ ap (λ q. Mapped (maps.put m q t.value)) is ∙ ap (λ w. Mapped (maps.put m k w)) has)

pub coming : (s : Strategy) (v : Valuation) (cur : Tree) (p : PlaceTree) (t : Token) (ts : List Token) (r : Value) (st : List Token)
    → has_statement s kinds.Add ≡ true → fits_new s p ≡ true → joined s ts r st ≡ Some (value_in v (sort_of s) cur)
    → t.key ≡ num v (key_of p) → t.value ≡ num v (value_of p) → IsMet v (freshness s cur p) → Comes s v cur p t ts r st
unfolding sort_of freshness added truth has_shape
coming OptionField v cur p t ts r st allowed fit e is has fresh = keyed-in v cur _ _ t ts e (free-none v cur (key_of p) (value_of p) fresh) is has
coming Map v cur p t ts r st allowed fit e is has fresh = keyed-in v cur _ _ t ts e (free-none v cur (key_of p) (value_of p) fresh) is has
coming Set v cur p t ts r st allowed fit e is has fresh =
    keyed-in v cur _ _ t ts e (free-none v cur (key_of p) (value_of p) fresh) is (has ∙ no_pattern v p.value (and_right _ _ (and_left _ _ fit)))
coming Multiset v cur p t ts r st allowed fit e is has fresh =
    ap (λ m. Some (Mapped (maps.bump m t.key (pos 1)))) (mapped_is (counts_of ts) (mapped v cur) e) ∙ ap (λ q. Some (Mapped (maps.bump (mapped v cur) q (pos 1)))) is
coming Count v cur p t ts r st allowed fit e is has fresh =
    ap (λ n. Some (Number (n +ℤ sum_of ts))) has ∙ ap (λ n. Some (Number (num v (value_of p) +ℤ n))) (number_is (sum_of ts) (num v cur) e)
    ∙ ap (λ n. Some (Number n)) (turned (num v (value_of p)) (num v cur)) where
      turned : (a b : ℤ) → a +ℤ b ≡ b +ℤ a
      turned a b = omega (arith, ints)
coming PersistentOption v cur p t ts r st allowed fit e is has fresh = entry-in _ _ _ t ts r e is has (agrees-from v cur (key_of p) (value_of p) fresh)
coming PersistentMap v cur p t ts r st allowed fit e is has fresh = entry-in _ _ _ t ts r e is has (agrees-from v cur (key_of p) (value_of p) fresh)
coming PersistentSet v cur p t ts r st allowed fit e is has fresh =
    let b = borne_is (list_all (is_element r) ts) r (Mapped (mapped v cur)) e in
    borne _ _ _ (elements-come (entries_of r) (pos 1) t ts b.0)
    (ap (λ w. Mapped (maps.put (entries_of w) t.key (pos 1))) b.1 ∙ ap (λ q. Mapped (maps.put (mapped v cur) q (pos 1))) is)
coming PersistentCount v cur p t ts r st allowed fit e is has fresh =
    let b = borne_is (list_all (is_reached r) ts) r (Number (num v cur)) e in
    let more : number_of r ≤ℤ t.value = subst (λ (x : ℤ). number_of r ≤ℤ x) (sym has) (subst (λ (x : ℤ). x ≤ℤ num v (value_of p)) (sym (ap number_of b.1)) (int_le-is _ _ fresh)) in
    borne _ _ _ (and_both _ _ (le-refl t.value) (amounts-stay (number_of r) t.value ts more b.0)) (ap Number has)
coming Variable v cur p t ts r st allowed fit e is has fresh = absurd (cc)
coming Constant v cur p t ts r st allowed fit e is has fresh = absurd (cc)
coming NotTokenized v cur p t ts r st allowed fit e is has fresh = absurd (cc)
coming StorageMap v cur p t ts r st allowed fit e is has fresh = absurd (cc)

-- the token is one of its field's
pub coming-shaped : (s : Strategy) (v : Valuation) (p : PlaceTree) (t : Token) → has_statement s kinds.Add ≡ true → fits_new s p ≡ true
    → t.key ≡ num v (key_of p) → t.value ≡ num v (value_of p) → IsTokenOf s t
unfolding has_shape
coming-shaped OptionField v p t allowed fit is has = record { tokens = refl; keys = λ e. is ∙ no_key v p.key (and_left _ _ (and_left _ _ fit)); elements = λ e. absurd (cc) }
coming-shaped Map v p t allowed fit is has = record { tokens = refl; keys = λ e. absurd (cc); elements = λ e. absurd (cc) }
coming-shaped Set v p t allowed fit is has = record { tokens = refl; keys = λ e. absurd (cc); elements = λ e. has ∙ no_pattern v p.value (and_right _ _ (and_left _ _ fit)) }
coming-shaped Multiset v p t allowed fit is has = record { tokens = refl; keys = λ e. absurd (cc); elements = λ e. has ∙ no_pattern v p.value (and_right _ _ (and_left _ _ fit)) }
coming-shaped Count v p t allowed fit is has = record { tokens = refl; keys = λ e. is ∙ no_key v p.key (and_left _ _ (and_left _ _ fit)); elements = λ e. absurd (cc) }
coming-shaped PersistentOption v p t allowed fit is has = record { tokens = refl; keys = λ e. is ∙ no_key v p.key (and_left _ _ (and_left _ _ fit)); elements = λ e. absurd (cc) }
coming-shaped PersistentMap v p t allowed fit is has = record { tokens = refl; keys = λ e. absurd (cc); elements = λ e. absurd (cc) }
coming-shaped PersistentSet v p t allowed fit is has = record { tokens = refl; keys = λ e. absurd (cc); elements = λ e. has ∙ no_pattern v p.value (and_right _ _ (and_left _ _ fit)) }
coming-shaped PersistentCount v p t allowed fit is has = record { tokens = refl; keys = λ e. is ∙ no_key v p.key (and_left _ _ (and_left _ _ fit)); elements = λ e. absurd (cc) }
coming-shaped Variable v p t allowed fit is has = absurd (cc)
coming-shaped Constant v p t allowed fit is has = absurd (cc)
coming-shaped NotTokenized v p t allowed fit is has = absurd (cc)
coming-shaped StorageMap v p t allowed fit is has = absurd (cc)

-- an amount of a count that comes is not negative
pub coming-natural : (s : Strategy) (v : Valuation) (cur : Tree) (p : PlaceTree) → IsMet v (freshness s cur p) → s ≡ Count → pos 0 ≤ℤ num v (value_of p)
unfolding freshness truth
coming-natural s v cur p fresh is = int_le-is (pos 0) (num v (value_of p)) (subst (λ (z : Strategy). IsMet v (freshness z cur p)) is fresh)

-- the record keeps its sort
pub raised-sort : (s : Strategy) (r : Value) (k n : ℤ) → IsOf (sort_of s) r → IsOf (sort_of s) (raised s r k n)
unfolding sort_of
raised-sort Variable r k n h = h
raised-sort Constant r k n h = h
raised-sort NotTokenized r k n h = h
raised-sort OptionField r k n h = h
raised-sort Map r k n h = h
raised-sort Set r k n h = h
raised-sort Multiset r k n h = h
raised-sort Count r k n h = h
raised-sort PersistentOption r k n h = tt
raised-sort PersistentMap r k n h = tt
raised-sort PersistentSet r k n h = tt
raised-sort PersistentCount r k n h = tt
raised-sort StorageMap r k n h = h
