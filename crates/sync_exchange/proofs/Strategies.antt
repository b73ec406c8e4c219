-- What a token that goes out, stays or comes makes of its field's value, strategy by strategy.
use Rattle.std.proofs.Common.{◌≡◌, ℤ, pos, ◌+ℤ◌, ◌-ℤ◌, ◌≤ℤ◌, ◌<ℤ◌, Bool, true, false, ◌||◌, List, ◌∷◌, Option, Some, None, option_map, unwrap_or, is_some, refl, sym, ap, subst, ◌∙◌, arith, if◌then◌else◌, int_le, int_lt}
use Rattle.std.specs.List.{AllByRecursion, list_all}
use Rattle.std.specs.Ordering.{int_eq}
use Rattle.std.specs.Cmp.{int_eq_equiv}
use Rattle.std.specs.FinMap as finmap
use Rattle.std.proofs.lemmas.Int.{ints}
use Rattle.sync_terms.specs.Trees.{Tree, Formula, Eq, Or, Get}
use Rattle.sync_terms.specs.Maps as maps
use Rattle.sync_terms.specs.Values.{Valuation, num, mapped, truth, Holds}
use Rattle.sync_base.specs.declared.strategies.Strategy.{Strategy}
use Rattle.sync_base.specs.declared.strategies.Strategy.TheVariants.{Variable, Constant, NotTokenized, Option as OptionField, Map, Set, Multiset, Count, PersistentOption, PersistentMap, PersistentSet, PersistentCount, StorageMap}
use Rattle.sync_machine.specs.Machines.{PlaceTree}
use Rattle.sync_machine.specs.Statements.{key_of, value_of, is_there, is_free, is_there_with, presence, both, removed}
use Rattle.sync_machine.specs.States.{Value, Number, Mapped, sort_of, value_in, IsMet}
use Rattle.sync_rules.specs.declared.kinds.OpKind.TheVariants as kinds
use Rattle.sync_rules.specs.Strategies.{has_statement}
use Rattle.sync_join.specs.declared.tokens.Token.{Token}
use Rattle.sync_join.specs.Join.{as_map, counts_of, sum_of, entries_of, number_of, is_value, is_entry, is_element, is_reached, borne_out, joined}
use Rattle.sync_entries.proofs.Maps.{get-put, same}
use Rattle.sync_join.proofs.Maps.{equal, bump-put}
use Rattle.sync_join.proofs.Bags.{counts_natural}
use Rattle.sync_join.proofs.Leaving.{as_map-out, del-put, get-put_same, sum_of-out, amount_within, are_counted}
use Rattle.sync_exchange.proofs.Terms.{and_left, and_both}

-- ---- values and tests

pub number_is : (m n : ℤ) → Some (Number m) ≡ Some (Number n) → m ≡ n
number_is m n e = cc

pub mapped_is : (m n : maps.Map) → Some (Mapped m) ≡ Some (Mapped n) → m ≡ n
mapped_is m n e = cc

pub some_is : {X : Type 0} (x y : X) → Some x ≡ Some y → x ≡ y
some_is x y e = cc

pub as_map_is : (o : Option maps.Map) (m : maps.Map) → option_map Mapped o ≡ Some (Mapped m) → o ≡ Some m
as_map_is None m e = absurd (cc)
as_map_is (Some n) m e = ap Some (mapped_is n m e)

pub only_is : (o : Option ℤ) (n : ℤ) → option_map Number o ≡ Some (Number n) → o ≡ Some n
only_is None n e = absurd (cc)
only_is (Some m) n e = ap Some (number_is m n e)

pub borne_is : (b : Bool) (r v : Value) → borne_out b r ≡ Some v → (b ≡ true) × (r ≡ v)
borne_is true r v e = (refl, some_is r v e)
borne_is false r v e = absurd (cc)

pub borne : (b : Bool) (r v : Value) → b ≡ true → r ≡ v → borne_out b r ≡ Some v
borne true r v p e = ap Some e
borne false r v p e = absurd (cc)

pub int_eq-refl : (n : ℤ) → int_eq n n ≡ true
int_eq-refl n = int_eq_equiv.refl n

pub int_le-true : (a b : ℤ) → a ≤ℤ b → int_le a b ≡ true
int_le-true a b h = grind (arith, ints)

pub int_le-is : (a b : ℤ) → int_le a b ≡ true → a ≤ℤ b
int_le-is a b h = grind (arith, ints)

-- ---- what a map has, as formulas say it

module _ (v : Valuation) (cur k w : Tree) where
  pub there-from : (n : ℤ) → finmap.get (mapped v cur) (num v k) ≡ Some n → Holds v (is_there cur k)
  unfolding truth
  there-from n g = rw g refl

  pub there_with-from : finmap.get (mapped v cur) (num v k) ≡ Some (num v w) → Holds v (is_there_with cur k w)
  unfolding truth
  there_with-from g = rw g (int_eq-refl (num v w))

  no_value : (o : Option ℤ) → int_eq (if is_some o then pos 1 else pos 0) (pos 0) ≡ true → o ≡ None
  no_value None e = refl
  no_value (Some n) e = absurd (cc)

  pub free-none : Holds v (is_free cur k) → finmap.get (mapped v cur) (num v k) ≡ None
  unfolding truth
  free-none h = no_value (finmap.get (mapped v cur) (num v k)) h

  -- a place that is free or has the value already: what is there is the value
  same_value : (o : Option ℤ) (n m : ℤ) → (int_eq (if is_some o then pos 1 else pos 0) (pos 0) || int_eq (unwrap_or o (pos 0)) n) ≡ true → o ≡ Some m → m ≡ n
  same_value None n m e s = absurd (cc)
  same_value (Some l) n m e s = some_is m l (sym s) ∙ equal l n e

  pub agrees-from : Holds v (Or (is_free cur k) (Eq (Get cur k) w)) → (m : ℤ) → finmap.get (mapped v cur) (num v k) ≡ Some m → m ≡ num v w
  unfolding truth
  agrees-from h m s = same_value (finmap.get (mapped v cur) (num v k)) (num v w) m h s

-- ---- multisets: one fewer

above : (n : ℤ) → pos 0 <ℤ n → int_lt (pos 0) n ≡ true
above n h = grind (arith, ints)

not_above : (n : ℤ) → n ≤ℤ pos 0 → int_lt (pos 0) n ≡ false
not_above n h = grind (arith, ints)

put-back : (m : maps.Map) (k w n : ℤ) → finmap.get m k ≡ Some n → maps.put (maps.put m k w) k n ≡ m
put-back m k w n here = same _ _ (λ q.
    get-put (maps.put m k w) k n q ∙ ap (λ o. if int_eq q k then Some n else o) (get-put m k w q)
    ∙ back (int_eq q k) (finmap.get m q) (λ at_k. ap (finmap.get m) (equal q k at_k) ∙ here)) where
      back : (b : Bool) (o : Option ℤ) → (b ≡ true → o ≡ Some n) → (if b then Some n else (if b then Some w else o)) ≡ o
      back true o h = sym (h refl)
      back false o h = refl

value-put_own : (m : maps.Map) (k w : ℤ) → maps.get (maps.put m k w) k ≡ w
value-put_own m k w = ap (λ o. unwrap_or o (pos 0)) (get-put_same m k w)

one_less : (m : maps.Map) (k g : ℤ) (o : Option ℤ) → finmap.get m k ≡ o → g ≡ unwrap_or o (pos 0) → ((n : ℤ) → o ≡ Some n → pos 0 <ℤ n)
    → (if int_lt (pos 0) g then maps.put (maps.put m k (g +ℤ pos 1)) k g else maps.del (maps.put m k (g +ℤ pos 1)) k) ≡ m
one_less m k g None is e counted =
    let none : int_lt (pos 0) g ≡ false = not_above g (omega (arith, ints, e)) in
    rw none (del-put m k (g +ℤ pos 1) is)
one_less m k g (Some n) is e counted =
    let more : pos 0 <ℤ n = counted n refl in
    let some : int_lt (pos 0) g ≡ true = above g (omega (arith, ints, e, more)) in
    rw some (put-back m k (g +ℤ pos 1) g (is ∙ ap Some (sym e)))

pub bump-back : (ts : List Token) (k : ℤ) → maps.bump (maps.bump (counts_of ts) k (pos 1)) k (pos 0 -ℤ pos 1) ≡ counts_of ts
bump-back ts k =
    let m = counts_of ts in
    let g = maps.get m k in
    let there : maps.bump m k (pos 1) ≡ maps.put m k (g +ℤ pos 1) = bump-put m k (counts_natural ts k) in
    let now : maps.get (maps.put m k (g +ℤ pos 1)) k +ℤ (pos 0 -ℤ pos 1) ≡ g = ap (λ x. x +ℤ (pos 0 -ℤ pos 1)) (value-put_own m k (g +ℤ pos 1)) ∙ less g in
    ap (λ n. maps.bump n k (pos 0 -ℤ pos 1)) there
    ∙ ap (λ x. if int_lt (pos 0) x then maps.put (maps.put m k (g +ℤ pos 1)) k x else maps.del (maps.put m k (g +ℤ pos 1)) k) now
    ∙ one_less m k g (finmap.get m k) refl refl (λ n e. are_counted ts k n e) where
      less : (g : ℤ) → (g +ℤ pos 1) +ℤ (pos 0 -ℤ pos 1) ≡ g
      less g = omega (arith, ints)

pub bump-there : (ts : List Token) (k : ℤ) → pos 1 ≤ℤ maps.get (maps.bump (counts_of ts) k (pos 1)) k
bump-there ts k =
    let m = counts_of ts in
    subst (λ (x : ℤ). pos 1 ≤ℤ x) (sym (ap (λ n. maps.get n k) (bump-put m k (counts_natural ts k)) ∙ value-put_own m k (maps.get m k +ℤ pos 1)))
    (more (maps.get m k) (counts_natural ts k)) where
      more : (g : ℤ) → pos 0 ≤ℤ g → pos 1 ≤ℤ (g +ℤ pos 1)
      more g h = omega (arith, ints)

-- ---- conditions

pub met-both : (v : Valuation) (a b : Option Formula) → IsMet v a → IsMet v b → IsMet v (both a b)
unfolding truth
met-both v (Some f) (Some g) x y = and_both (truth v f) (truth v g) x y
met-both v (Some f) None x y = x
met-both v None b x y = y

-- ---- a token goes out

abbrev pub AreAmounts : List Token → Type 0
AreAmounts ts = AllByRecursion (λ (u : Token). pos 0 ≤ℤ u.value) ts

abbrev pub Leaves : Strategy → Valuation → Tree → PlaceTree → List Token → Value → List Token → Type 0
Leaves s v cur p ts r st = IsMet v (presence s cur p) × (joined s ts r st ≡ Some (value_in v (sort_of s) (removed s cur p)))

keyed-out : (m : maps.Map) (k n : ℤ) (t : Token) (ts : List Token) → option_map Mapped (as_map (t ∷ ts)) ≡ Some (Mapped m) → t.key ≡ k → t.value ≡ n
    → (finmap.get m k ≡ Some n) × (option_map Mapped (as_map ts) ≡ Some (Mapped (maps.del m k)))
keyed-out m k n t ts e is has =
    let out = as_map-out t ts m (as_map_is (as_map (t ∷ ts)) m e) in
    (ap (finmap.get m) (sym is) ∙ out.0 ∙ ap Some has, ap (option_map Mapped) (out.1 ∙ ap (λ q. Some (maps.del m q)) is))

count-within : (a : ℤ) (t : Token) (ts : List Token) (c : ℤ) → Some (Number (sum_of (t ∷ ts))) ≡ Some (Number c) → t.value ≡ a → AreAmounts ts → (int_le a c ≡ true) × (sum_of ts ≡ c -ℤ a)
count-within a t ts c e has natural =
    let is : sum_of (t ∷ ts) ≡ c = number_is (sum_of (t ∷ ts)) c e in
    let within = amount_within t ts natural in (
      int_le-true a c (subst (λ (x : ℤ). x ≤ℤ c) has (subst (λ (x : ℤ). t.value ≤ℤ x) is within)),
      sum_of-out t ts ∙ ap (λ (x : ℤ). x -ℤ t.value) is ∙ ap (λ (x : ℤ). c -ℤ x) has,
    )

pub leaving : (s : Strategy) (v : Valuation) (cur : Tree) (p : PlaceTree) (t : Token) (ts : List Token) (r : Value) (st : List Token)
    → has_statement s kinds.Remove ≡ true → joined s (t ∷ ts) r st ≡ Some (value_in v (sort_of s) cur)
    → t.key ≡ num v (key_of p) → t.value ≡ num v (value_of p) → (s ≡ Count → AreAmounts ts) → Leaves s v cur p ts r st
unfolding sort_of presence removed truth
leaving OptionField v cur p t ts r st allowed e is has natural =
    let out = keyed-out (mapped v cur) (num v (key_of p)) (num v (value_of p)) t ts e is has in
    (there_with-from v cur (key_of p) (value_of p) out.0, out.1)
leaving Map v cur p t ts r st allowed e is has natural =
    let out = keyed-out (mapped v cur) (num v (key_of p)) (num v (value_of p)) t ts e is has in
    (there_with-from v cur (key_of p) (value_of p) out.0, out.1)
leaving Set v cur p t ts r st allowed e is has natural =
    let out = keyed-out (mapped v cur) (num v (key_of p)) (num v (value_of p)) t ts e is has in
    (there-from v cur (key_of p) (value_of p) (num v (value_of p)) out.0, out.1)
leaving Multiset v cur p t ts r st allowed e is has natural =
    let k = num v (key_of p) in
    let now : maps.bump (counts_of ts) k (pos 1) ≡ mapped v cur = ap (λ q. maps.bump (counts_of ts) q (pos 1)) (sym is) ∙ mapped_is _ (mapped v cur) e in (
      subst (λ (m : maps.Map). int_le (pos 1) (maps.get m k) ≡ true) now (int_le-true _ _ (bump-there ts k)),
      ap (λ m. Some (Mapped m)) (sym (bump-back ts k) ∙ ap (λ m. maps.bump m k (pos 0 -ℤ pos 1)) now),
    )
leaving Count v cur p t ts r st allowed e is has natural =
    let within = count-within (num v (value_of p)) t ts (num v cur) e has (natural refl) in
    (within.0, ap (λ n. Some (Number n)) within.1)
leaving Variable v cur p t ts r st allowed e is has natural = absurd (cc)
leaving Constant v cur p t ts r st allowed e is has natural = absurd (cc)
leaving NotTokenized v cur p t ts r st allowed e is has natural = absurd (cc)
leaving PersistentOption v cur p t ts r st allowed e is has natural = absurd (cc)
leaving PersistentMap v cur p t ts r st allowed e is has natural = absurd (cc)
leaving PersistentSet v cur p t ts r st allowed e is has natural = absurd (cc)
leaving PersistentCount v cur p t ts r st allowed e is has natural = absurd (cc)
leaving StorageMap v cur p t ts r st allowed e is has natural = absurd (cc)

-- ---- a token stays

value_is : (o : Option ℤ) (n : ℤ) → is_value o n ≡ true → o ≡ Some n
value_is None n e = absurd (cc)
value_is (Some m) n e = ap Some (equal m n e)

entry-stays : (m : maps.Map) (k n : ℤ) (t : Token) (ts : List Token) (r : Value) → borne_out (list_all (is_entry r) (t ∷ ts)) r ≡ Some (Mapped m) → t.key ≡ k → t.value ≡ n → finmap.get m k ≡ Some n
entry-stays m k n t ts r e is has =
    let b = borne_is (list_all (is_entry r) (t ∷ ts)) r (Mapped m) e in
    let own = value_is (finmap.get (entries_of r) t.key) t.value (and_left (is_entry r t) _ b.0) in
    ap (finmap.get m) (sym is) ∙ sym (ap (λ w. finmap.get (entries_of w) t.key) b.1) ∙ own ∙ ap Some has

some_value : (o : Option ℤ) → is_some o ≡ true → (n : ℤ) × (o ≡ Some n)
some_value None e = absurd (cc)
some_value (Some n) e = (n, refl)

element-stays : (m : maps.Map) (k : ℤ) (t : Token) (ts : List Token) (r : Value) → borne_out (list_all (is_element r) (t ∷ ts)) r ≡ Some (Mapped m) → t.key ≡ k → (n : ℤ) × (finmap.get m k ≡ Some n)
element-stays m k t ts r e is =
    let b = borne_is (list_all (is_element r) (t ∷ ts)) r (Mapped m) e in
    let own = some_value (finmap.get (entries_of r) t.key) (and_left (is_element r t) _ b.0) in
    (own.0, ap (finmap.get m) (sym is) ∙ sym (ap (λ w. finmap.get (entries_of w) t.key) b.1) ∙ own.1)

amount-stays : (c n : ℤ) (t : Token) (ts : List Token) (r : Value) → borne_out (list_all (is_reached r) (t ∷ ts)) r ≡ Some (Number c) → t.value ≡ n → int_le n c ≡ true
amount-stays c n t ts r e has =
    let b = borne_is (list_all (is_reached r) (t ∷ ts)) r (Number c) e in
    ap (λ x. int_le x c) (sym has) ∙ sym (ap (λ w. int_le t.value (number_of w)) b.1) ∙ and_left (is_reached r t) _ b.0

pub staying : (s : Strategy) (v : Valuation) (cur : Tree) (p : PlaceTree) (t : Token) (ts : List Token) (r : Value) (st : List Token)
    → has_statement s kinds.Have ≡ true → joined s (t ∷ ts) r st ≡ Some (value_in v (sort_of s) cur)
    → t.key ≡ num v (key_of p) → t.value ≡ num v (value_of p) → (s ≡ Count → AreAmounts ts) → IsMet v (presence s cur p)
unfolding sort_of presence removed truth
staying OptionField v cur p t ts r st allowed e is has natural = (leaving OptionField v cur p t ts r st refl e is has natural).0
staying Map v cur p t ts r st allowed e is has natural = (leaving Map v cur p t ts r st refl e is has natural).0
staying Set v cur p t ts r st allowed e is has natural = (leaving Set v cur p t ts r st refl e is has natural).0
staying Multiset v cur p t ts r st allowed e is has natural = (leaving Multiset v cur p t ts r st refl e is has natural).0
staying Count v cur p t ts r st allowed e is has natural = (leaving Count v cur p t ts r st refl e is has natural).0
staying PersistentOption v cur p t ts r st allowed e is has natural = there_with-from v cur (key_of p) (value_of p) (entry-stays _ _ _ t ts r e is has)
staying PersistentMap v cur p t ts r st allowed e is has natural = there_with-from v cur (key_of p) (value_of p) (entry-stays _ _ _ t ts r e is has)
staying PersistentSet v cur p t ts r st allowed e is has natural =
    let own = element-stays (mapped v cur) (num v (key_of p)) t ts r e is in there-from v cur (key_of p) (value_of p) own.0 own.1
staying PersistentCount v cur p t ts r st allowed e is has natural = amount-stays (num v cur) (num v (value_of p)) t ts r e has
staying Variable v cur p t ts r st allowed e is has natural = absurd (cc)
staying Constant v cur p t ts r st allowed e is has natural = absurd (cc)
staying NotTokenized v cur p t ts r st allowed e is has natural = absurd (cc)
staying StorageMap v cur p t ts r st allowed e is has natural = absurd (cc)
