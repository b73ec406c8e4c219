-- Splits, mergers and copies keep sound shards sound, and the state that they make.
use Rattle.std.proofs.Common.{◌≡◌, ◌≢◌, ℕ, ℤ, pos, ◌+ℤ◌, ◌-ℤ◌, ◌≤ℤ◌, Result, Ok, Err, Bool, true, false, ◌&&◌, inl, inr, List, [], ◌∷◌, ◌++◌, length, map, Some, None, unwrap_or, refl, sym, ap, subst, ◌∙◌, arith, nat_eq, append_assoc, if◌then◌else◌}
use Rattle.std.specs.Prelude.{OnOk}
use Rattle.std.specs.List.{AllByRecursion, list_all, range_with_len}
use Rattle.std.proofs.lemmas.Int.{ints}
use Rattle.std.proofs.lemmas.Bool.Decides.{nat_tests}
use Rattle.sync_machine.specs.declared.fields.Field.{Field}
use Rattle.sync_base.specs.declared.strategies.Strategy.{Strategy}
use Rattle.sync_base.specs.declared.strategies.Strategy.TheVariants.{Variable, Constant, NotTokenized, Option as OptionField, Map, Set, Multiset, Count, PersistentOption, PersistentMap, PersistentSet, PersistentCount, StorageMap}
use Rattle.sync_machine.specs.States.{Value, Number, strategy_at}
use Rattle.sync_join.specs.declared.tokens.Token.{Token}
use Rattle.sync_join.specs.Shards.{Kept, has_elements, IsToken, AreSoundShards}
use Rattle.sync_join.specs.Join.{tokens_of, sum_of, is_entry, is_element, is_reached, borne_out, joined, record_at, value_at, all_of, join_of}
use Rattle.sync_join.proofs.Through.{cond-true, cond-false}
use Rattle.sync_join.proofs.Bags.{join_of-front, value_at-other, value_at-own}
use Rattle.sync_exchange.specs.declared.hands.Held.{Held}
use Rattle.sync_exchange.specs.Exchange.{held_as, tokens_in}
use Rattle.sync_exchange.specs.Splitting.{replaced, dropped, held, split_of, merged_of, copied_of, KeepsShards, is_persistent, SplitKeeps, MergeKeeps, CopyKeeps}

same_some : {X : Type 0} (x y : X) → Some x ≡ Some y → x ≡ y
same_some x y e = ap (λ o. unwrap_or o x) e

none_not_some : {X : Type 0} (x : X) → None ≡ Some x → ⊥
none_not_some x e = cc

equal : (a b : ℕ) → nat_eq a b ≡ true → a ≡ b
equal a b e = grind (arith, nat_tests)

-- ---- where a token stands in a hand

pub record HeldAt (name : ℕ) (hs : List Held) (t : Token) : Type 0 where
  pub before : List Held
  pub after : List Held
  pub here : Held
  pub token : here.token ≡ t
  pub whole : hs ≡ before ++ here ∷ after
  pub changed : (new : Held) → replaced name new hs ≡ before ++ new ∷ after
  pub gone : dropped name hs ≡ before ++ after

stands-here : (name : ℕ) (h : Held) (hs : List Held) (t : Token) → nat_eq name h.name ≡ true → h.token ≡ t → HeldAt name (h ∷ hs) t
stands-here name h hs t same e = record {
  before = [];
  after = hs;
  here = h;
  token = e;
  whole = refl;
  changed = λ new. cond-true (nat_eq name h.name) (new ∷ hs) (h ∷ replaced name new hs) same;
  gone = cond-true (nat_eq name h.name) hs (h ∷ dropped name hs) same;
}

stands-later : (name : ℕ) (h : Held) (hs : List Held) (t : Token) → nat_eq name h.name ≡ false → HeldAt name hs t → HeldAt name (h ∷ hs) t
stands-later name h hs t other s = record {
  before = h ∷ s.before;
  after = s.after;
  here = s.here;
  token = s.token;
  whole = ap (λ ks. h ∷ ks) s.whole;
  changed = λ new. cond-false (nat_eq name h.name) (new ∷ hs) (h ∷ replaced name new hs) other ∙ ap (λ ks. h ∷ ks) (s.changed new);
  gone = cond-false (nat_eq name h.name) hs (h ∷ dropped name hs) other ∙ ap (λ ks. h ∷ ks) s.gone;
}

stands-cases : (name : ℕ) (h : Held) (hs : List Held) (t : Token) (b : Bool) → nat_eq name h.name ≡ b → (if b then Some h.token else held_as name hs) ≡ Some t → (held_as name hs ≡ Some t → HeldAt name hs t) → HeldAt name (h ∷ hs) t
stands-cases name h hs t true same e later = stands-here name h hs t same (same_some h.token t e)
stands-cases name h hs t false other e later = stands-later name h hs t other (later e)

pub stands : (name : ℕ) (hs : List Held) (t : Token) → held_as name hs ≡ Some t → HeldAt name hs t
unfolding held_as
stands name [] t e = absurd (none_not_some t e)
stands name (h ∷ hs) t e = stands-cases name h hs t (nat_eq name h.name) refl e (stands name hs t)

tokens-append : (xs ys : List Held) → tokens_in (xs ++ ys) ≡ tokens_in xs ++ tokens_in ys
tokens-append [] ys = refl
tokens-append (x ∷ xs) ys = ap (λ ts. x.token ∷ ts) (tokens-append xs ys)

-- the tokens of a hand with one among them, and those of the others behind
bag : (xs : List Held) (h : Held) (ys : List Held) (others : List Token) → tokens_in (xs ++ h ∷ ys) ++ others ≡ tokens_in xs ++ h.token ∷ (tokens_in ys ++ others)
bag xs h ys others = ap (λ ts. ts ++ others) (tokens-append xs (h ∷ ys)) ∙ append_assoc (tokens_in xs) (h.token ∷ tokens_in ys) others

-- ---- soundness

all-out : {X : Type 0} (P : X → Type 0) (xs : List X) (t : X) (ys : List X) → AllByRecursion P (xs ++ t ∷ ys) → P t × AllByRecursion P (xs ++ ys)
all-out P [] t ys h = (h.0, h.1)
all-out P (x ∷ xs) t ys h = let r = all-out P xs t ys h.1 in (r.0, (h.0, r.1))

all-in : {X : Type 0} (P : X → Type 0) (xs : List X) (t : X) (ys : List X) → P t → AllByRecursion P (xs ++ ys) → AllByRecursion P (xs ++ t ∷ ys)
all-in P [] t ys p h = (p, h)
all-in P (x ∷ xs) t ys p h = (h.0, all-in P xs t ys p h.1)

abbrev Natural : List Field → Token → Type 0
Natural fs t = strategy_at fs t.field ≡ Count → pos 0 ≤ℤ t.value

module _ (fs : List Field) (xs : List Token) (t : Token) (ys : List Token) (kept : Kept) where
  sound-token : AreSoundShards fs (xs ++ t ∷ ys) kept → IsToken fs t
  sound-token s = (all-out (IsToken fs) xs t ys s.shaped.tokens).0

  sound-natural : AreSoundShards fs (xs ++ t ∷ ys) kept → Natural fs t
  sound-natural s = (all-out (Natural fs) xs t ys s.natural).0

  sound-out : AreSoundShards fs (xs ++ t ∷ ys) kept → AreSoundShards fs (xs ++ ys) kept
  sound-out s = record {
    shaped = record { tokens = (all-out (IsToken fs) xs t ys s.shaped.tokens).1; records = s.shaped.records; stored = s.shaped.stored };
    natural = (all-out (Natural fs) xs t ys s.natural).1;
  }

  sound-in : IsToken fs t → Natural fs t → AreSoundShards fs (xs ++ ys) kept → AreSoundShards fs (xs ++ t ∷ ys) kept
  sound-in p n s = record {
    shaped = record { tokens = all-in (IsToken fs) xs t ys p s.shaped.tokens; records = s.shaped.records; stored = s.shaped.stored };
    natural = all-in (Natural fs) xs t ys n s.natural;
  }

-- a token of a count with another amount
amount-token : (fs : List Field) (t : Token) (n : ℤ) → strategy_at fs t.field ≡ Count → IsToken fs t → IsToken fs (record { field = t.field; key = t.key; value = n })
amount-token fs t n count (inl e) = inl e
amount-token fs t n count (inr h) = inr (h.0, record { tokens = h.1.tokens; keys = h.1.keys; elements = λ there. absurd (none (strategy_at fs t.field) count there) }) where
  none : (s : Strategy) → s ≡ Count → has_elements s ≡ true → ⊥
  none s e there = let f : has_elements Count ≡ true = ap has_elements (sym e) ∙ there in cc

-- ---- states

strategy-there : (fs : List Field) (f g : ℕ) (s : Strategy) → nat_eq f g ≡ true → strategy_at fs f ≡ s → strategy_at fs g ≡ s
strategy-there fs f g s e h = ap (strategy_at fs) (sym (equal f g e)) ∙ h

pair-sum : (a b c d : ℤ) → a +ℤ b ≡ c → a +ℤ (b +ℤ d) ≡ c +ℤ d
pair-sum a b c d e = omega (arith, ints)

-- two amounts make what their sum makes
two-value : (fs : List Field) (s n t : Token) (ts : List Token) (kept : Kept) → s.field ≡ t.field → n.field ≡ t.field → s.value +ℤ n.value ≡ t.value → strategy_at fs t.field ≡ Count → (f : ℕ) → value_at fs (s ∷ n ∷ ts) kept f ≡ value_at fs (t ∷ ts) kept f
two-value fs s n t ts kept sf nf sum count f = cases (nat_eq t.field f) refl where
  cases : (b : Bool) → nat_eq t.field f ≡ b → value_at fs (s ∷ n ∷ ts) kept f ≡ value_at fs (t ∷ ts) kept f
  cases true same =
      let here = strategy-there fs t.field f Count same count in
      let own : tokens_of f (n ∷ ts) ≡ n ∷ tokens_of f ts = cond-true (nat_eq n.field f) (n ∷ tokens_of f ts) (tokens_of f ts) (ap (λ g. nat_eq g f) nf ∙ same) in
      value_at-own fs s (n ∷ ts) kept f (ap (λ g. nat_eq g f) sf ∙ same)
      ∙ ap (λ us. joined (strategy_at fs f) (s ∷ us) (record_at kept f) (tokens_of f kept.stored)) own
      ∙ ap (λ q. joined q (s ∷ n ∷ tokens_of f ts) (record_at kept f) (tokens_of f kept.stored)) here
      ∙ ap (λ k. Some (Number k)) (pair-sum s.value n.value t.value (sum_of (tokens_of f ts)) sum)
      ∙ ap (λ q. joined q (t ∷ tokens_of f ts) (record_at kept f) (tokens_of f kept.stored)) (sym here)
      ∙ sym (value_at-own fs t ts kept f same)
  cases false other =
      value_at-other fs s (n ∷ ts) kept f (ap (λ g. nat_eq g f) sf ∙ other)
      ∙ value_at-other fs n ts kept f (ap (λ g. nat_eq g f) nf ∙ other)
      ∙ sym (value_at-other fs t ts kept f other)

two-one : (fs : List Field) (s n t : Token) (ts : List Token) (kept : Kept) → s.field ≡ t.field → n.field ≡ t.field → s.value +ℤ n.value ≡ t.value → strategy_at fs t.field ≡ Count → join_of fs (s ∷ n ∷ ts) kept ≡ join_of fs (t ∷ ts) kept
two-one fs s n t ts kept sf nf sum count i = all_of (map (λ f. two-value fs s n t ts kept sf nf sum count f i) (range_with_len 0 (length fs)))

twice : (b r : Bool) → (b && (b && r)) ≡ (b && r)
twice true r = refl
twice false r = refl

persistent-twice : (s : Strategy) (t : Token) (ts : List Token) (recorded : Value) (stored : List Token) → is_persistent s ≡ true → joined s (t ∷ t ∷ ts) recorded stored ≡ joined s (t ∷ ts) recorded stored
persistent-twice PersistentOption t ts r st p = ap (λ b. borne_out b r) (twice (is_entry r t) (list_all (is_entry r) ts))
persistent-twice PersistentMap t ts r st p = ap (λ b. borne_out b r) (twice (is_entry r t) (list_all (is_entry r) ts))
persistent-twice PersistentSet t ts r st p = ap (λ b. borne_out b r) (twice (is_element r t) (list_all (is_element r) ts))
persistent-twice PersistentCount t ts r st p = ap (λ b. borne_out b r) (twice (is_reached r t) (list_all (is_reached r) ts))
persistent-twice Variable t ts r st p = absurd (cc)
persistent-twice Constant t ts r st p = absurd (cc)
persistent-twice NotTokenized t ts r st p = absurd (cc)
persistent-twice OptionField t ts r st p = absurd (cc)
persistent-twice Map t ts r st p = absurd (cc)
persistent-twice Set t ts r st p = absurd (cc)
persistent-twice Multiset t ts r st p = absurd (cc)
persistent-twice Count t ts r st p = absurd (cc)
persistent-twice StorageMap t ts r st p = absurd (cc)

twice-value : (fs : List Field) (t : Token) (ts : List Token) (kept : Kept) → is_persistent (strategy_at fs t.field) ≡ true → (f : ℕ) → value_at fs (t ∷ t ∷ ts) kept f ≡ value_at fs (t ∷ ts) kept f
twice-value fs t ts kept p f = cases (nat_eq t.field f) refl where
  cases : (b : Bool) → nat_eq t.field f ≡ b → value_at fs (t ∷ t ∷ ts) kept f ≡ value_at fs (t ∷ ts) kept f
  cases true same =
      let own : tokens_of f (t ∷ ts) ≡ t ∷ tokens_of f ts = cond-true (nat_eq t.field f) (t ∷ tokens_of f ts) (tokens_of f ts) same in
      value_at-own fs t (t ∷ ts) kept f same
      ∙ ap (λ us. joined (strategy_at fs f) (t ∷ us) (record_at kept f) (tokens_of f kept.stored)) own
      ∙ persistent-twice (strategy_at fs f) t (tokens_of f ts) (record_at kept f) (tokens_of f kept.stored) (ap (λ g. is_persistent (strategy_at fs g)) (sym (equal t.field f same)) ∙ p)
      ∙ sym (value_at-own fs t ts kept f same)
  cases false other = value_at-other fs t (t ∷ ts) kept f other

twice-once : (fs : List Field) (t : Token) (ts : List Token) (kept : Kept) → is_persistent (strategy_at fs t.field) ≡ true → join_of fs (t ∷ t ∷ ts) kept ≡ join_of fs (t ∷ ts) kept
twice-once fs t ts kept p i = all_of (map (λ f. twice-value fs t ts kept p f i) (range_with_len 0 (length fs)))

-- ---- splits

what_is_left : (a b : ℤ) → (a -ℤ b) +ℤ b ≡ a
what_is_left a b = omega (arith, ints)

left_natural : (a b : ℤ) → b ≤ℤ a → pos 0 ≤ℤ (a -ℤ b)
left_natural a b h = omega (arith, ints)

module _ (fs : List Field) (kept : Kept) (others : List Token) (xs ys : List Token) (t : Token) (count : strategy_at fs t.field ≡ Count) (n : ℤ) (low : pos 0 ≤ℤ n) (high : n ≤ℤ t.value) where
  part : Token
  part = record { field = t.field; key = t.key; value = n }

  rest : Token
  rest = record { field = t.field; key = t.key; value = t.value -ℤ n }

  split-join : join_of fs (xs ++ part ∷ (ys ++ rest ∷ others)) kept ≡ join_of fs (xs ++ t ∷ (ys ++ others)) kept
  unfolding part rest
  split-join =
      join_of-front fs xs part (ys ++ rest ∷ others) kept
      ∙ ap (λ ts. join_of fs (part ∷ ts) kept) (sym (append_assoc xs ys (rest ∷ others)))
      ∙ join_of-front fs (part ∷ (xs ++ ys)) rest others kept
      ∙ two-one fs rest part t ((xs ++ ys) ++ others) kept refl refl (what_is_left t.value n) count
      ∙ ap (λ ts. join_of fs (t ∷ ts) kept) (append_assoc xs ys others)
      ∙ sym (join_of-front fs xs t (ys ++ others) kept)

  split-sound : AreSoundShards fs (xs ++ t ∷ (ys ++ others)) kept → AreSoundShards fs (xs ++ part ∷ (ys ++ rest ∷ others)) kept
  unfolding part rest
  split-sound s =
      let is = sound-token fs xs t (ys ++ others) kept s in
      let less = subst (λ (ts : List Token). AreSoundShards fs ts kept) (sym (append_assoc xs ys others)) (sound-out fs xs t (ys ++ others) kept s) in
      let more = sound-in fs (xs ++ ys) rest others kept (amount-token fs t (t.value -ℤ n) count is) (λ _. left_natural t.value n high) less in
      sound-in fs xs part (ys ++ rest ∷ others) kept (amount-token fs t n count is) (λ _. low) (subst (λ (ts : List Token). AreSoundShards fs ts kept) (append_assoc xs ys (rest ∷ others)) more)

-- the tokens behind a hand that has one more
behind : (xs : List Held) (h : Held) (ys : List Held) (k : Held) (others : List Token) → tokens_in ((xs ++ h ∷ ys) ++ k ∷ []) ++ others ≡ tokens_in xs ++ h.token ∷ (tokens_in ys ++ k.token ∷ others)
behind xs h ys k others =
    ap (λ ts. ts ++ others) (tokens-append (xs ++ h ∷ ys) (k ∷ []))
    ∙ append_assoc (tokens_in (xs ++ h ∷ ys)) (k.token ∷ []) others
    ∙ bag xs h ys (k.token ∷ others)

pub split-keeps : SplitKeeps
unfolding part rest
split-keeps fs hs name t e count n low high first second others kept sound =
    let s = stands name hs t e in
    let xs = tokens_in s.before in
    let ys = tokens_in s.after in
    let old : tokens_in hs ++ others ≡ xs ++ t ∷ (ys ++ others) =
    ap (λ ks. tokens_in ks ++ others) s.whole ∙ bag s.before s.here s.after others ∙ ap (λ u. xs ++ u ∷ (ys ++ others)) s.token in
    let new : tokens_in (split_of name t n first second hs) ++ others ≡ xs ++ part fs kept others xs ys t count n low high ∷ (ys ++ rest fs kept others xs ys t count n low high ∷ others) =
    ap (λ ks. tokens_in (ks ++ held second t (t.value -ℤ n) ∷ []) ++ others) (s.changed (held first t n)) ∙ behind s.before (held first t n) s.after (held second t (t.value -ℤ n)) others in (
      subst (λ (ts : List Token). AreSoundShards fs ts kept) (sym new) (split-sound fs kept others xs ys t count n low high (subst (λ (ts : List Token). AreSoundShards fs ts kept) old sound)),
      ap (λ ts. join_of fs ts kept) new ∙ split-join fs kept others xs ys t count n low high ∙ sym (ap (λ ts. join_of fs ts kept) old),
    )

-- ---- mergers

other-name : (a b c : ℕ) → a ≢ b → nat_eq b c ≡ true → nat_eq a c ≡ false
other-name a b c ne e = grind (arith, nat_tests)

held-cases : (a b : ℕ) (h : Held) (hs : List Held) → a ≢ b → held_as a (dropped b hs) ≡ held_as a hs → (c : Bool) → nat_eq b h.name ≡ c → held_as a (if c then hs else h ∷ dropped b hs) ≡ held_as a (h ∷ hs)
unfolding held_as
held-cases a b h hs ne ih true same = sym (cond-false (nat_eq a h.name) (Some h.token) (held_as a hs) (other-name a b h.name ne same))
held-cases a b h hs ne ih false other = ap (λ o. if nat_eq a h.name then Some h.token else o) ih

pub held-dropped : (a b : ℕ) (hs : List Held) → a ≢ b → held_as a (dropped b hs) ≡ held_as a hs
held-dropped a b [] ne = refl
held-dropped a b (h ∷ hs) ne = held-cases a b h hs ne (held-dropped a b hs ne) (nat_eq b h.name) refl

sum_natural : (a b : ℤ) → pos 0 ≤ℤ a → pos 0 ≤ℤ b → pos 0 ≤ℤ (a +ℤ b)
sum_natural a b h k = omega (arith, ints)

pub merge-keeps : MergeKeeps
merge-keeps fs hs a b t u ne ea eb same count into others kept sound =
    let m : Token = record { field = t.field; key = t.key; value = t.value +ℤ u.value } in
    let s = stands b hs u eb in
    let less = dropped b hs in
    let r = stands a less t (held-dropped a b hs ne ∙ ea) in
    let xs = tokens_in s.before in
    let ys = tokens_in s.after in
    let ps = tokens_in r.before in
    let qs = tokens_in r.after in
    let old : tokens_in hs ++ others ≡ xs ++ u ∷ (ys ++ others) =
    ap (λ ks. tokens_in ks ++ others) s.whole ∙ bag s.before s.here s.after others ∙ ap (λ v. xs ++ v ∷ (ys ++ others)) s.token in
    let mid : xs ++ (ys ++ others) ≡ ps ++ t ∷ (qs ++ others) =
    sym (append_assoc xs ys others) ∙ ap (λ ts. ts ++ others) (sym (ap tokens_in s.gone ∙ tokens-append s.before s.after))
    ∙ ap (λ ks. tokens_in ks ++ others) r.whole ∙ bag r.before r.here r.after others ∙ ap (λ v. ps ++ v ∷ (qs ++ others)) r.token in
    let new : tokens_in (merged_of a t b u into hs) ++ others ≡ ps ++ m ∷ (qs ++ others) =
    ap (λ ks. tokens_in ks ++ others) (r.changed (held into t (t.value +ℤ u.value))) ∙ bag r.before (held into t (t.value +ℤ u.value)) r.after others in
    let first = subst (λ (ts : List Token). AreSoundShards fs ts kept) old sound in
    let later = subst (λ (ts : List Token). AreSoundShards fs ts kept) mid (sound-out fs xs u (ys ++ others) kept first) in
    let low_u = sound-natural fs xs u (ys ++ others) kept first (ap (strategy_at fs) same ∙ count) in
    let low_t = sound-natural fs ps t (qs ++ others) kept later count in
    let is = amount-token fs t (t.value +ℤ u.value) count (sound-token fs ps t (qs ++ others) kept later) in (
      subst (λ (ts : List Token). AreSoundShards fs ts kept) (sym new) (sound-in fs ps m (qs ++ others) kept is (λ _. sum_natural t.value u.value low_t low_u) (sound-out fs ps t (qs ++ others) kept later)),
      ap (λ ts. join_of fs ts kept) new
          ∙ join_of-front fs ps m (qs ++ others) kept
          ∙ sym (two-one fs t u m (ps ++ (qs ++ others)) kept refl same refl count)
          ∙ sym (join_of-front fs (u ∷ ps) t (qs ++ others) kept)
          ∙ ap (λ ts. join_of fs (u ∷ ts) kept) (sym mid)
          ∙ sym (join_of-front fs xs u (ys ++ others) kept)
          ∙ ap (λ ts. join_of fs ts kept) (sym old),
    )

-- ---- copies

pub copy-keeps : CopyKeeps
copy-keeps fs hs name t e persistent new others kept sound =
    let s = stands name hs t e in
    let xs = tokens_in s.before in
    let ys = tokens_in s.after in
    let old : tokens_in hs ++ others ≡ xs ++ t ∷ (ys ++ others) =
    ap (λ ks. tokens_in ks ++ others) s.whole ∙ bag s.before s.here s.after others ∙ ap (λ v. xs ++ v ∷ (ys ++ others)) s.token in
    let more : tokens_in (copied_of t new hs) ++ others ≡ tokens_in hs ++ t ∷ others =
    ap (λ ts. ts ++ others) (tokens-append hs (held new t t.value ∷ [])) ∙ append_assoc (tokens_in hs) (t ∷ []) others in
    let first = subst (λ (ts : List Token). AreSoundShards fs ts kept) old sound in (
      subst (λ (ts : List Token). AreSoundShards fs ts kept) (sym more)
          (sound-in fs (tokens_in hs) t others kept (sound-token fs xs t (ys ++ others) kept first) (sound-natural fs xs t (ys ++ others) kept first) sound),
      ap (λ ts. join_of fs ts kept) more
          ∙ join_of-front fs (tokens_in hs) t others kept
          ∙ ap (λ ts. join_of fs (t ∷ ts) kept) old
          ∙ join_of-front fs (t ∷ xs) t (ys ++ others) kept
          ∙ twice-once fs t (xs ++ (ys ++ others)) kept persistent
          ∙ sym (join_of-front fs xs t (ys ++ others) kept)
          ∙ ap (λ ts. join_of fs ts kept) (sym old),
    )

-- ---- what a call promises of the whole

pub split-kept : {A E : Type 0} (fs : List Field) (hs new : List Held) (name : ℕ) (amount : ℤ) (first second : ℕ) (r : Result A E) → pos 0 ≤ℤ amount
    → ((t : Token) → held_as name hs ≡ Some t → amount ≤ℤ t.value) → ((t : Token) → held_as name hs ≡ Some t → OnOk r (new ≡ split_of name t amount first second hs))
    → (t : Token) → held_as name hs ≡ Some t → strategy_at fs t.field ≡ Count → OnOk r (KeepsShards fs hs new)
split-kept fs hs new name amount first second (Ok x) natural within exact t is counted =
    subst (KeepsShards fs hs) (sym (exact t is)) (split-keeps fs hs name t is counted amount natural (within t is) first second)
split-kept fs hs new name amount first second (Err e) natural within exact t is counted = tt

pub merge-kept : (fs : List Field) (hs new : List Held) (a b into : ℕ) → a ≢ b → ((t u : Token) → held_as a hs ≡ Some t → held_as b hs ≡ Some u → new ≡ merged_of a t b u into hs)
    → (t u : Token) → held_as a hs ≡ Some t → held_as b hs ≡ Some u → u.field ≡ t.field → strategy_at fs t.field ≡ Count → KeepsShards fs hs new
merge-kept fs hs new a b into apart exact t u first second same counted = subst (KeepsShards fs hs) (sym (exact t u first second)) (merge-keeps fs hs a b t u apart first second same counted into)

pub copy-kept : {A E : Type 0} (fs : List Field) (hs new : List Held) (name other : ℕ) (r : Result A E) → ((t : Token) → held_as name hs ≡ Some t → OnOk r (new ≡ copied_of t other hs))
    → (t : Token) → held_as name hs ≡ Some t → is_persistent (strategy_at fs t.field) ≡ true → OnOk r (KeepsShards fs hs new)
copy-kept fs hs new name other (Ok x) exact t is persistent = subst (KeepsShards fs hs) (sym (exact t is)) (copy-keeps fs hs name t is persistent other)
copy-kept fs hs new name other (Err e) exact t is persistent = tt
