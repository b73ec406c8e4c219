-- A value of each field, and so a state.
use Rattle.std.proofs.Common.{◌≡◌, ℕ, zero, suc, ◌+◌, ◌<◌, List, [], ◌∷◌, ◌++◌, length, map, get_or, Option, Some, None, option_map, unwrap_or, refl, sym, ap, ◌∙◌, arith}
use Rattle.std.specs.List.{range_with_len}
use Rattle.std.proofs.lemmas.List.{map_push}
use Rattle.std.proofs.lemmas.List.FromFn.{length-map-range_with_len, get_or-map-range_with_len, map-range_with_len_more}
use Rattle.sync_machine.specs.declared.fields.Field.{Field}
use Rattle.sync_machine.specs.States.{State, Value}
use Rattle.sync_join.specs.declared.tokens.Token.{Token}
use Rattle.sync_join.specs.Shards.{Kept}
use Rattle.sync_join.specs.Join.{value_at, all_of, join_of}

same_some : {X : Type 0} (x y : X) → Some x ≡ Some y → x ≡ y
same_some x y e = ap (λ o. unwrap_or o x) e

none_not_some : {X : Type 0} (x : X) → None ≡ Some x → ⊥
none_not_some x e = cc

module _ {A : Type 0} where
  pub all_of-some : (ys : List A) → all_of (map Some ys) ≡ Some ys
  all_of-some [] = refl
  all_of-some (y ∷ ys) = ap (option_map (λ zs. y ∷ zs)) (all_of-some ys)

  onto : (x : A) (o : Option (List A)) (ys : List A) → option_map (λ zs. x ∷ zs) o ≡ Some ys → (zs : List A) × (o ≡ Some zs) × (ys ≡ x ∷ zs)
  onto x None ys e = absurd (none_not_some ys e)
  onto x (Some zs) ys e = (zs, refl, sym (same_some (x ∷ zs) ys e))

  -- where there is a list of all, each is there
  pub some-all_of : (xs : List (Option A)) (ys : List A) → all_of xs ≡ Some ys → xs ≡ map Some ys
  some-all_of [] ys e = ap (map Some) (same_some [] ys e)
  some-all_of (None ∷ xs) ys e = absurd (none_not_some ys e)
  some-all_of (Some x ∷ xs) ys e =
      let rest = onto x (all_of xs) ys e in
      ap (λ zs. Some x ∷ zs) (some-all_of xs rest.0 rest.1) ∙ sym (ap (map Some) rest.2)

  -- where one is not there, there is no list of all
  pub all_of-none : (xs : List (Option A)) (i : ℕ) (d : Option A) → i < length xs → get_or xs i d ≡ None → all_of xs ≡ None
  all_of-none [] i d h e = absurd (omega arith)
  all_of-none (None ∷ xs) i d h e = refl
  all_of-none (Some x ∷ xs) zero d h e = absurd (none_not_some x (sym e))
  all_of-none (Some x ∷ xs) (suc i) d h e = ap (option_map (λ ys. x ∷ ys)) (all_of-none xs i d (omega arith) e)

-- a state is joined exactly where it has each field's value
pub joined-state : (fs : List Field) (bag : List Token) (kept : Kept) (s : State) → map (value_at fs bag kept) (range_with_len 0 (length fs)) ≡ map Some s → join_of fs bag kept ≡ Some s
joined-state fs bag kept s e = ap all_of e ∙ all_of-some s

pub state-joined : (fs : List Field) (bag : List Token) (kept : Kept) (s : State) → join_of fs bag kept ≡ Some s → map (value_at fs bag kept) (range_with_len 0 (length fs)) ≡ map Some s
state-joined fs bag kept s e = some-all_of (map (value_at fs bag kept) (range_with_len 0 (length fs))) s e

-- a field without a value leaves no state
pub no-state : (fs : List Field) (bag : List Token) (kept : Kept) (f : ℕ) → f < length fs → value_at fs bag kept f ≡ None → join_of fs bag kept ≡ None
no-state fs bag kept f h e =
    let xs = map (value_at fs bag kept) (range_with_len 0 (length fs)) in
    let long : length xs ≡ length fs = length-map-range_with_len (value_at fs bag kept) 0 (length fs) in
    all_of-none xs f None (omega arith) (get_or-map-range_with_len (value_at fs bag kept) 0 (length fs) f f None h (omega arith) ∙ e)

-- one more field's value
pub values-more : (fs : List Field) (bag : List Token) (kept : Kept) (f : ℕ) (s : State) (v : Value) → map (value_at fs bag kept) (range_with_len 0 f) ≡ map Some s → value_at fs bag kept f ≡ Some v → map (value_at fs bag kept) (range_with_len 0 (f + 1)) ≡ map Some (s ++ v ∷ [])
values-more fs bag kept f s v inv e =
    map-range_with_len_more (value_at fs bag kept) 0 f f (omega arith)
    ∙ ap (λ xs. xs ++ value_at fs bag kept f ∷ []) inv ∙ ap (λ o. map Some s ++ o ∷ []) e
    ∙ sym (map_push Some s v)
