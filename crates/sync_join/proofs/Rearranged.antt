-- Bags with the same tokens in another order: what does not depend on where a token stands is the same of both.
use Rattle.std.proofs.Common.{◌≡◌, ℕ, suc, ◌+◌, ℤ, pos, ◌≤ℤ◌, Bool, true, false, ◌&&◌, List, [], ◌∷◌, ◌++◌, refl, sym, ap, subst, ◌∙◌, arith, nat_eq, append_assoc, if◌then◌else◌}
use Rattle.std.specs.List.{AllByRecursion}
use Rattle.std.specs.Ordering.{int_eq}
use Rattle.std.specs.Cmp.{int_eq_equiv}
use Rattle.std.proofs.lemmas.Bool.Decides.{nat_tests}
use Rattle.sync_machine.specs.declared.fields.Field.{Field}
use Rattle.sync_base.specs.declared.strategies.Strategy.{Strategy}
use Rattle.sync_base.specs.declared.strategies.Strategy.TheVariants.{Count}
use Rattle.sync_machine.specs.States.{Value, strategy_at}
use Rattle.sync_join.specs.declared.tokens.Token.{Token}
use Rattle.sync_join.specs.Shards.{Kept, is_same_token, often, IsToken, AreSoundShards}
use Rattle.sync_join.specs.Join.{tokens_of, joined, record_at, value_at, join_of}
use Rattle.sync_join.proofs.Maps.{equal}
use Rattle.sync_join.proofs.Bags.{joined-front, stored-front, join_of-front}

-- ---- tokens and how often they stand in a bag

abbrev one_more : Bool → ℕ → ℕ
one_more b n = if b then suc n else n

-- every token stands in both as often
pub record IsRearranged (xs ys : List Token) : Type 0 where
  pub often : (t : Token) → often t xs ≡ often t ys

and-both : (a b : Bool) → (a && b) ≡ true → (a ≡ true) × (b ≡ true)
and-both true b e = (refl, e)
and-both false b e = absurd (cc)

both-and : (a b : Bool) → a ≡ true → b ≡ true → (a && b) ≡ true
both-and a b p q = ap (λ c. c && b) p ∙ q

nat-equal : (a b : ℕ) → nat_eq a b ≡ true → a ≡ b
nat-equal a b e = grind (arith, nat_tests)

nat-same : (a : ℕ) → nat_eq a a ≡ true
nat-same a = grind (arith, nat_tests)

same-token : (t u : Token) → is_same_token t u ≡ true → t ≡ u
same-token t u e =
    let outer = and-both (nat_eq t.field u.field) (int_eq t.key u.key && int_eq t.value u.value) e in
    let inner = and-both (int_eq t.key u.key) (int_eq t.value u.value) outer.1 in
    let f : t.field ≡ u.field = nat-equal t.field u.field outer.0 in
    let k : t.key ≡ u.key = equal t.key u.key inner.0 in
    let v : t.value ≡ u.value = equal t.value u.value inner.1 in
    ap (λ (x : ℕ). made x t.key t.value) f ∙ ap (λ (x : ℤ). made u.field x t.value) k ∙ ap (λ (x : ℤ). made u.field u.key x) v where
      made : ℕ → ℤ → ℤ → Token
      made f k v = record { field = f; key = k; value = v }

its-own : (t : Token) → is_same_token t t ≡ true
its-own t = both-and _ _ (nat-same t.field) (both-and _ _ (int_eq_equiv.refl t.key) (int_eq_equiv.refl t.value))

more-append : (b : Bool) (n m : ℕ) → one_more b (n + m) ≡ one_more b n + m
more-append true n m = omega arith
more-append false n m = refl

pub often-append : (t : Token) (xs ys : List Token) → often t (xs ++ ys) ≡ often t xs + often t ys
often-append t [] ys = omega arith
often-append t (x ∷ xs) ys =
    ap (one_more (is_same_token t x)) (often-append t xs ys)
    ∙ more-append (is_same_token t x) (often t xs) (often t ys)

-- ---- the same tokens in another order

pub rearranged-refl : (xs : List Token) → IsRearranged xs xs
rearranged-refl xs = record { often = λ t. refl }

pub rearranged-sym : (xs ys : List Token) → IsRearranged xs ys → IsRearranged ys xs
rearranged-sym xs ys h = record { often = λ t. sym (h.often t) }

pub rearranged-trans : (xs ys zs : List Token) → IsRearranged xs ys → IsRearranged ys zs → IsRearranged xs zs
rearranged-trans xs ys zs h k = record { often = λ t. h.often t ∙ k.often t }

-- two parts of a bag, each in another order
pub rearranged-append : (xs ys us vs : List Token) → IsRearranged xs ys → IsRearranged us vs → IsRearranged (xs ++ us) (ys ++ vs)
rearranged-append xs ys us vs h k = record {
  often = λ t.
      often-append t xs us ∙ ap (λ n. n + often t us) (h.often t) ∙ ap (λ n. often t ys + n) (k.often t)
      ∙ sym (often-append t ys vs);
}

pub rearranged-swap : (xs ys : List Token) → IsRearranged (xs ++ ys) (ys ++ xs)
rearranged-swap xs ys = record { often = λ t. often-append t xs ys ∙ turned (often t xs) (often t ys) ∙ sym (often-append t ys xs) } where
  turned : (n m : ℕ) → n + m ≡ m + n
  turned n m = omega arith

more-turned : (b : Bool) (n m : ℕ) → n + one_more b m ≡ one_more b (n + m)
more-turned true n m = omega arith
more-turned false n m = refl

-- a token is taken to the front
pub rearranged-front : (xs : List Token) (t : Token) (ys : List Token) → IsRearranged (xs ++ t ∷ ys) (t ∷ (xs ++ ys))
rearranged-front xs t ys = record {
  often = λ u.
      often-append u xs (t ∷ ys) ∙ more-turned (is_same_token u t) (often u xs) (often u ys)
      ∙ ap (one_more (is_same_token u t)) (sym (often-append u xs ys));
}

-- ---- a token that stands in a bag

pub record StandsIn (t : Token) (ys : List Token) : Type 0 where
  pub before : List Token
  pub behind : List Token
  pub is : ys ≡ before ++ t ∷ behind

later : (t u : Token) (us : List Token) → StandsIn t us → StandsIn t (u ∷ us)
later t u us s = record { before = u ∷ s.before; behind = s.behind; is = ap (λ xs. u ∷ xs) s.is }

stands-or : (t u : Token) (us : List Token) (n : ℕ) (b : Bool) → is_same_token t u ≡ b → (often t us ≡ suc n → StandsIn t us) → one_more b (often t us) ≡ suc n → StandsIn t (u ∷ us)
stands-or t u us n true same ih e = record { before = []; behind = us; is = ap (λ x. x ∷ us) (sym (same-token t u same)) }
stands-or t u us n false same ih e = later t u us (ih e)

pub stands : (t : Token) (ys : List Token) (n : ℕ) → often t ys ≡ suc n → StandsIn t ys
stands t [] n e = absurd (omega arith)
stands t (u ∷ us) n e = stands-or t u us n (is_same_token t u) refl (λ h. stands t us n h) e

its-often : (t : Token) (us : List Token) → often t (t ∷ us) ≡ suc (often t us)
its-often t us = ap (λ b. one_more b (often t us)) (its-own t)

nothing-more : (y : Token) (ys : List Token) → IsRearranged [] (y ∷ ys) → ⊥
nothing-more y ys h = let e = h.often y ∙ its-often y ys in never (often y ys) e where
  never : (n : ℕ) → 0 ≡ suc n → ⊥
  never n e = omega arith

cancel : (b : Bool) (n m : ℕ) → one_more b n ≡ one_more b m → n ≡ m
cancel true n m e = omega arith
cancel false n m e = e

-- without the token that both have
rearranged-rest : (t : Token) (xs ls rs : List Token) → IsRearranged (t ∷ xs) (ls ++ t ∷ rs) → IsRearranged xs (ls ++ rs)
rearranged-rest t xs ls rs h = record {
  often = λ u.
      cancel (is_same_token u t) (often u xs) (often u (ls ++ rs)) (h.often u ∙ (rearranged-front ls t rs).often u);
}

-- ---- what does not depend on where a token stands does not depend on the order

module _ (P : List Token → Type 0) (out : (xs : List Token) (t : Token) (ys : List Token) → P (xs ++ t ∷ ys) → P (t ∷ (xs ++ ys))) (back : (xs : List Token) (t : Token) (ys : List Token) → P (t ∷ (xs ++ ys)) → P (xs ++ t ∷ ys)) where
  behind : (ps : List Token) (t : Token) (xs : List Token) → (ps ++ t ∷ []) ++ xs ≡ ps ++ t ∷ xs
  behind ps t xs = append_assoc ps (t ∷ []) xs

  put-back : (ps ls : List Token) (t : Token) (rs : List Token) → P (ps ++ t ∷ (ls ++ rs)) → P (ps ++ (ls ++ t ∷ rs))
  put-back ps ls t rs p =
      subst P (append_assoc ps ls (t ∷ rs))
      (back (ps ++ ls) t rs (subst (λ xs. P (t ∷ xs)) (sym (append_assoc ps ls rs)) (out ps t (ls ++ rs) p)))

  along : (ps xs ys : List Token) → IsRearranged xs ys → P (ps ++ xs) → P (ps ++ ys)
  along ps [] [] h p = p
  along ps [] (y ∷ ys) h p = absurd (nothing-more y ys h)
  along ps (t ∷ xs) ys h p =
      let s = stands t ys (often t xs) (sym (h.often t) ∙ its-often t xs) in
      let moved = subst (IsRearranged (t ∷ xs)) s.is h in
      let rest = rearranged-rest t xs s.before s.behind moved in
      let next = along (ps ++ t ∷ []) xs (s.before ++ s.behind) rest (subst P (sym (behind ps t xs)) p) in
      subst (λ zs. P (ps ++ zs)) (sym s.is) (put-back ps s.before t s.behind (subst P (behind ps t (s.before ++ s.behind)) next))

  pub carried : (xs ys : List Token) → IsRearranged xs ys → P xs → P ys
  carried xs ys h p = along [] xs ys h p

-- ---- joins

-- A field's value depends on its own tokens, its record and its own stored permissions alone, and not on their order.
pub joined-rearranged : (s : Strategy) (xs ys : List Token) (recorded : Value) (us vs : List Token) → IsRearranged xs ys → IsRearranged us vs → joined s xs recorded us ≡ joined s ys recorded vs
joined-rearranged s xs ys recorded us vs h k =
    carried (λ zs. joined s xs recorded us ≡ joined s zs recorded us)
    (λ ls t rs e. e ∙ joined-front s ls t rs recorded us) (λ ls t rs e. e ∙ sym (joined-front s ls t rs recorded us)) xs ys h refl
    ∙ carried (λ zs. joined s ys recorded us ≡ joined s ys recorded zs)
    (λ ls t rs e. e ∙ stored-front s ys recorded ls t rs) (λ ls t rs e. e ∙ sym (stored-front s ys recorded ls t rs)) us vs k refl

pub value_at-rearranged : (fs : List Field) (xs ys : List Token) (k l : Kept) (f : ℕ) → IsRearranged (tokens_of f xs) (tokens_of f ys) → record_at k f ≡ record_at l f → IsRearranged (tokens_of f k.stored) (tokens_of f l.stored) → value_at fs xs k f ≡ value_at fs ys l f
value_at-rearranged fs xs ys k l f h r s =
    joined-rearranged (strategy_at fs f) (tokens_of f xs) (tokens_of f ys) (record_at k f) (tokens_of f k.stored) (tokens_of f l.stored) h s
    ∙ ap (λ (v : Value). joined (strategy_at fs f) (tokens_of f ys) v (tokens_of f l.stored)) r

pub join_of-rearranged : (fs : List Field) (xs ys : List Token) (kept : Kept) → IsRearranged xs ys → join_of fs xs kept ≡ join_of fs ys kept
join_of-rearranged fs xs ys kept h =
    carried (λ zs. join_of fs xs kept ≡ join_of fs zs kept)
    (λ ls t rs e. e ∙ join_of-front fs ls t rs kept) (λ ls t rs e. e ∙ sym (join_of-front fs ls t rs kept)) xs ys h refl

-- ---- what is true of every token

all-out : (P : Token → Type 0) (xs : List Token) (t : Token) (ys : List Token) → AllByRecursion P (xs ++ t ∷ ys) → AllByRecursion P (t ∷ (xs ++ ys))
all-out P [] t ys h = h
all-out P (x ∷ xs) t ys h = let later = all-out P xs t ys h.1 in (later.0, (h.0, later.1))

all-back : (P : Token → Type 0) (xs : List Token) (t : Token) (ys : List Token) → AllByRecursion P (t ∷ (xs ++ ys)) → AllByRecursion P (xs ++ t ∷ ys)
all-back P [] t ys h = h
all-back P (x ∷ xs) t ys h = (h.1.0, all-back P xs t ys (h.0, h.1.1))

pub all-rearranged : (P : Token → Type 0) (xs ys : List Token) → IsRearranged xs ys → AllByRecursion P xs → AllByRecursion P ys
all-rearranged P xs ys h all = carried (AllByRecursion P) (all-out P) (all-back P) xs ys h all

pub shards-rearranged : (fs : List Field) (xs ys : List Token) (kept : Kept) → IsRearranged xs ys → AreSoundShards fs xs kept → AreSoundShards fs ys kept
shards-rearranged fs xs ys kept h s = record {
  shaped = record {
    tokens = all-rearranged (IsToken fs) xs ys h s.shaped.tokens;
    records = s.shaped.records;
    stored = s.shaped.stored;
  };
  natural = all-rearranged (λ (t : Token). strategy_at fs t.field ≡ Count → pos 0 ≤ℤ t.value) xs ys h s.natural;
}
