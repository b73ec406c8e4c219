-- A cell of which one content is there once: no second permission, and no second object.
use Rattle.std.proofs.Common.{◌≡◌, ℕ, suc, ◌+◌, ℤ, Bool, true, false, ◌&&◌, List, [], ◌∷◌, ◌++◌, refl, sym, ap, subst, ◌∙◌, arith}
use Rattle.std.specs.Ordering.{int_eq}
use Rattle.std.specs.Cmp.{int_eq_equiv}
use Rattle.sync_join.specs.declared.tokens.Token.{Token}
use Rattle.sync_join.specs.Shards.{is_same_token}
use Rattle.sync_join.proofs.Maps.{equal}
use Rattle.sync_exchange.specs.Exchange.{permission}
use Rattle.sync_exchange.proofs.Tokens.{IsPart}
use Rattle.sync_exchange_laws.specs.Permissions.{is_content, stored_often, there_often, PermissionIsOnly, StoredIsOnly}
use Rattle.sync_exchange_laws.proofs.Cells.{one_if, often-part, own-permission}

own-content : (k n : ℤ) (t : Token) → t.key ≡ k → t.value ≡ n → is_content k n t ≡ true
own-content k n t key value =
    ap (λ j. int_eq k j && int_eq n t.value) key ∙ ap (λ b. b && int_eq n t.value) (int_eq_equiv.refl k) ∙ ap (int_eq n) value ∙ int_eq_equiv.refl n

stored-part : (k n : ℤ) (us vs : List Token) (t : Token) → stored_often k n (us ++ t ∷ vs) ≡ one_if (is_content k n t) + stored_often k n (us ++ vs)
stored-part k n [] vs t = refl
stored-part k n (u ∷ us) vs t = let e = stored-part k n us vs t in omega (arith, e)

-- a content that is there beside others, which are those without it
pub record IsBeside (k c n : ℤ) (all rest : ℤ → ℕ) : Type 0 where
  pub here : all n ≡ suc (rest n)
  pub less : (m : ℤ) → (b : ℕ) × (all m ≡ b + rest m)

only : (k c n : ℤ) (all rest : ℤ → ℕ) → IsBeside k c n all rest → all c ≡ 1 → ((m : ℤ) → (m ≡ c → ⊥) → all m ≡ 0) → (n ≡ c) × ((m : ℤ) → rest m ≡ 0)
only k c n all rest h once none = (is (int_eq n c) refl, λ m. empty m (int_eq m c) refl) where
  is : (b : Bool) → int_eq n c ≡ b → n ≡ c
  is true e = equal n c e
  is false e = absurd (let a = none n (λ same. let t : int_eq n c ≡ true = ap (int_eq n) (sym same) ∙ int_eq_equiv.refl n in clash (int_eq n c) t e) in let b = h.here in omega (arith, a, b)) where
    clash : (b : Bool) → b ≡ true → b ≡ false → ⊥
    clash b p q = cc

  empty : (m : ℤ) (b : Bool) → int_eq m c ≡ b → rest m ≡ 0
  empty m true e =
      let same : n ≡ m = is (int_eq n c) refl ∙ sym (equal m c e) in
      let one : all m ≡ 1 = ap all (equal m c e) ∙ once in
      let more : all m ≡ suc (rest m) = subst (λ (j : ℤ). all j ≡ suc (rest j)) same h.here in
      omega (arith, one, more)
  empty m false e =
      let zero : all m ≡ 0 = none m (λ same. let t : int_eq m c ≡ true = ap (int_eq m) (sym same) ∙ int_eq_equiv.refl m in absurd (cc)) in
      let less = h.less m in
      let is : all m ≡ less.0 + rest m = less.1 in
      omega (arith, zero, is)

pub permission-is-only : PermissionIsOnly
permission-is-only k c n xs ys kept h =
    let part : IsPart (permission k n) (xs ++ permission k n ∷ ys) (xs ++ ys) = record { before = xs; behind = ys; whole_is = refl; rest_is = refl } in
    only k c n (λ m. there_often k m (xs ++ permission k n ∷ ys) kept) (λ m. there_often k m (xs ++ ys) kept)
    (record {
      here =
          let a = often-part (permission k n) (permission k n) _ _ part in
          let b = ap one_if (own-permission k n (permission k n) refl ∙ own-content k n (permission k n) refl refl) in
          omega (arith, a, b);
      less = λ m. (one_if (is_same_token (permission k m) (permission k n)), let a = often-part (permission k m) (permission k n) _ _ part in omega (arith, a));
    })
    h.once h.no_other

pub stored-is-only : StoredIsOnly
stored-is-only k c bag us vs t records h key =
    only k c t.value (λ m. there_often k m bag (record { records = records; stored = us ++ t ∷ vs })) (λ m. there_often k m bag (record { records = records; stored = us ++ vs }))
    (record {
      here =
          let a = stored-part k t.value us vs t in
          let b = ap one_if (own-content k t.value t key refl) in
          omega (arith, a, b);
      less = λ m. (one_if (is_content k m t), let a = stored-part k m us vs t in omega (arith, a));
    })
    h.once h.no_other
