-- The way of a substitution down to a part that waits for none, and up again.
use Rattle.std.proofs.Common.{◌≡◌, ◌≢◌, ℕ, zero, suc, ◌+◌, ◌*◌, ◌^◌, ◌<◌, ◌≤◌, List, [], ◌∷◌, ◌++◌, length, get_or, Bool, true, false, cond, refl, sym, ap, ◌∙◌, subst, arith, inl, inr, ◌⊎◌, Option, Some, None, is_some, below_more, nat_eq, All}
use Rattle.std.proofs.lemmas.Bool.{false≢true}
use Rattle.std.proofs.lemmas.List.{length_push, get_or_push, get_or_append_left}
use Rattle.sync_terms.specs.declared.nodes.Sym.{Sym}
use Rattle.sync_terms.specs.declared.nodes.TermId.{TermId}
use Rattle.sync_terms.specs.declared.nodes.FormId.{FormId}
use Rattle.sync_terms.specs.declared.subst.Part.{Part}
use Rattle.sync_terms.specs.declared.subst.Part.TheVariants as part
use Rattle.sync_terms.specs.declared.subst.Replaced.{Replaced}
use Rattle.sync_terms.specs.Trees.{most_nodes}
use Rattle.sync_terms.specs.Trees.{Tree, Name, tree_size, formula_size, replaced, replaced_in}
use Rattle.sync_terms.specs.Stored.{Stored, tree, formula, IsTerm, IsForm, Extends}
use Rattle.sync_terms.specs.Replacing.{form_at, new_form, is_replaced, IsPart, InRange, rank, new_size, under_way, IsDone, IsStart, Waits, Replaces}
use Rattle.std.proofs.lemmas.List.Elements.{All-head, All-tail}
use Rattle.std.proofs.lemmas.Option.{none-some, same_Some}
use Rattle.std.specs.Option.{option_map_or}
use Rattle.sync_terms.specs.Substitution.{term_of, substitution}
use Rattle.sync_terms.proofs.Extending.{Extends-refl, Extends-trans}

-- ---- how many are left

abbrev one_where_false : Bool → ℕ
one_where_false true = 0
one_where_false false = 1

-- how many numbers below n fail the test
missing : (ℕ → Bool) → ℕ → ℕ
missing f zero = 0
missing f (suc n) = missing f n + one_where_false (f n)

missing-same : (f g : ℕ → Bool) (n : ℕ) → ((k : ℕ) → k < n → g k ≡ f k) → missing g n ≡ missing f n
unfolding missing
missing-same f g zero h = refl
missing-same f g (suc n) h =
    let here = h n (omega arith) in
    let rest = missing-same f g n (λ k l. h k (omega arith)) in
    cc

missing-one : (f g : ℕ → Bool) (n i : ℕ) → i < n → f i ≡ false → g i ≡ true → ((k : ℕ) → k ≢ i → g k ≡ f k) → missing g n + 1 ≡ missing f n
unfolding missing
missing-one f g zero i l e h o = absurd (omega arith)
missing-one f g (suc n) i l e h o = by (λ k. missing-one f g n i k e h o) (cases i n l)
  where
    cases : (i n : ℕ) → i < suc n → (i < n) ⊎ (i ≡ n)
    cases i n l = grind arith

    by : (i < n → missing g n + 1 ≡ missing f n) → (i < n) ⊎ (i ≡ n) → missing g n + one_where_false (g n) + 1 ≡ missing f n + one_where_false (f n)
    by rest (inl k) =
        let other : n ≢ i = omega arith in
        let same : one_where_false (g n) ≡ one_where_false (f n) = ap one_where_false (o n other) in
        omega (arith, rest k)
    by rest (inr k) =
        let below : missing g n ≡ missing f n = missing-same f g n (λ j l. let other : j ≢ i = omega arith in o j other) in
        let was : one_where_false (f n) ≡ 1 = ap one_where_false (ap f (sym k) ∙ e) in
        let is : one_where_false (g n) ≡ 0 = ap one_where_false (ap g (sym k) ∙ h) in
        omega arith

terms_left : Replaced → ℕ
terms_left d = missing (λ k. is_replaced d (part.Term (record { 0 = k }))) (2 ^ 32)

forms_left : Replaced → ℕ
forms_left d = missing (λ k. is_replaced d (part.Form (record { 0 = k }))) (2 ^ 32)

-- what is left to do when a part is on its way
pub work : Replaced → Part → ℕ
work d p = (terms_left d + forms_left d) * 2 ^ 33 + rank p

left-one : (s t : Stored) (d e : Replaced) (p : Part) → InRange p → is_replaced d p ≡ false → Replaces s d p t e → terms_left e + forms_left e + 1 ≡ terms_left d + forms_left d
unfolding terms_left forms_left
left-one s t d e (part.Term id) range absent h =
    let one = missing-one (λ k. is_replaced d (part.Term (record { 0 = k }))) (λ k. is_replaced e (part.Term (record { 0 = k }))) (2 ^ 32) id.0 range absent h.made
    (λ k other. h.others (part.Term (record { 0 = k })) (λ q. other (same_id k q))) in
    let rest = missing-same (λ k. is_replaced d (part.Form (record { 0 = k }))) (λ k. is_replaced e (part.Form (record { 0 = k }))) (2 ^ 32)
    (λ k l. h.others (part.Form (record { 0 = k })) (λ q. other_kind k q)) in
    omega arith
  where
    same_id : (k : ℕ) → part.Term (record { 0 = k }) ≡ part.Term id → k ≡ id.0
    same_id k q = cc

    other_kind : (k : ℕ) → part.Form (record { 0 = k }) ≡ part.Term id → ⊥
    other_kind k q = cc
left-one s t d e (part.Form id) range absent h =
    let one = missing-one (λ k. is_replaced d (part.Form (record { 0 = k }))) (λ k. is_replaced e (part.Form (record { 0 = k }))) (2 ^ 32) id.0 range absent h.made
    (λ k other. h.others (part.Form (record { 0 = k })) (λ q. other (same_id k q))) in
    let rest = missing-same (λ k. is_replaced d (part.Term (record { 0 = k }))) (λ k. is_replaced e (part.Term (record { 0 = k }))) (2 ^ 32)
    (λ k l. h.others (part.Term (record { 0 = k })) (λ q. other_kind k q)) in
    omega arith
  where
    same_id : (k : ℕ) → part.Form (record { 0 = k }) ≡ part.Form id → k ≡ id.0
    same_id k q = cc

    other_kind : (k : ℕ) → part.Term (record { 0 = k }) ≡ part.Form id → ⊥
    other_kind k q = cc

rank-within : (p : Part) → InRange p → rank p < 2 ^ 33
rank-within (part.Term id) h = omega arith
rank-within (part.Form id) h = omega arith

pub work-down : (d : Replaced) (p q : Part) → rank q < rank p → work d q < work d p
unfolding work
work-down d p q h = omega arith

pub work-up : (s t : Stored) (d e : Replaced) (p q : Part) → InRange p → is_replaced d p ≡ false → Replaces s d p t e → InRange q → work e q < work d p
unfolding work
work-up s t d e p q range absent h other = omega (arith, left-one s t d e p range absent h, rank-within q other)

-- ---- the way

-- a part that waits below the root
pub record OnWay (first : Stored) (start : Replaced) (root : Part) (s : Stored) (d : Replaced) (p : Part) : Type 0 where
  pub part : IsPart s p
  pub range : InRange p
  pub missing : is_replaced d p ≡ false
  pub smaller : new_size (under_way first start) s p ≤ new_size (under_way first start) first root

-- the parts that wait, from the root down
pub record IsWay (first : Stored) (start : Replaced) (root : Part) (s : Stored) (d : Replaced) (way : List Part) : Type 0 where
  pub extends : Extends first s
  pub done : IsDone s d
  pub same : under_way s d ≡ under_way first start
  pub bottom : get_or way 0 root ≡ root
  pub each : (k : ℕ) → k < length way → OnWay first start root s d (get_or way k root)
  pub falls : (j k : ℕ) → j < k → k < length way → rank (get_or way k root) < rank (get_or way j root)

new_size-more : (f : ℕ → Tree) (s t : Stored) → Extends s t → (p : Part) → IsPart s p → IsPart t p × (new_size f t p ≡ new_size f s p)
unfolding new_size
new_size-more f s t more (part.Term id) h = let m = more.terms id h in (m.0, ap (λ x. tree_size (replaced f x)) m.1)
new_size-more f s t more (part.Form id) h = let m = more.forms id h in (m.0, ap (λ x. formula_size (replaced_in f x)) m.1)

module _ (first : Stored) (start : Replaced) (root : Part) where
  pub IsWay-start : IsDone first start → IsPart first root → InRange root → is_replaced start root ≡ false → IsWay first start root first start (root ∷ [])
  IsWay-start done here range absent = record {
    extends = Extends-refl first;
    done = done;
    same = refl;
    bottom = refl;
    each = one;
    falls = λ j k l h. absurd (omega arith);
  }
    where
      one : (k : ℕ) → k < 1 → OnWay first start root first start (get_or (root ∷ []) k root)
      one zero l = record { part = here; range = range; missing = absent; smaller = omega arith }
      one (suc k) l = absurd (omega arith)

  module _ (s : Stored) (d : Replaced) (above : List Part) (p : Part) (way : IsWay first start root s d (above ++ p ∷ [])) where
    -- the last of the way
    last : get_or (above ++ p ∷ []) (length above) root ≡ p
    last = get_or_push above p root (length above) refl

    pub OnWay-last : OnWay first start root s d p
    OnWay-last = subst (OnWay first start root s d) last (way.each (length above) (omega (arith, length_push above p)))

    -- one more waits
    pub IsWay-push : (child : Part) → Waits s d p child → IsWay first start root s d ((above ++ p ∷ []) ++ child ∷ [])
    IsWay-push child waits =
        let old = above ++ p ∷ [] in
        let new = old ++ child ∷ [] in
        let here : (k : ℕ) → k < length old → get_or new k root ≡ get_or old k root = λ k h. get_or_append_left old (child ∷ []) root k h in
        let end : get_or new (length old) root ≡ child = get_or_push old child root (length old) refl in
        let small : new_size (under_way first start) s child ≤ new_size (under_way first start) s p = subst (λ f. new_size f s child ≤ new_size f s p) way.same waits.smaller in
        let on : OnWay first start root s d child = record { part = waits.part; range = waits.range; missing = waits.missing; smaller = omega (arith, OnWay-last.smaller) } in
        let more : length new ≡ length old + 1 = length_push old child in
        record {
          extends = way.extends;
          done = way.done;
          same = way.same;
          bottom = here 0 (omega (arith, length_push above p)) ∙ way.bottom;
          each = λ k h. below_more (λ k. OnWay first start root s d (get_or new k root)) (length old)
              (λ k h. subst (OnWay first start root s d) (sym (here k h)) (way.each k h)) (subst (OnWay first start root s d) (sym end) on) k (omega arith);
          falls = λ j k l h. below_more (λ k. (j : ℕ) → j < k → rank (get_or new k root) < rank (get_or new j root)) (length old)
              (λ k h j l. rw (here k h, here j (omega arith)) (way.falls j k l h))
              (λ j l. rw (end, here j l) (under child j l waits.before)) k (omega arith) j l;
        }
      where
        under : (child : Part) (j : ℕ) → j < length (above ++ p ∷ []) → rank child < rank p → rank child < rank (get_or (above ++ p ∷ []) j root)
        under child j l b = by (cases j (length above) (omega (arith, length_push above p)))
          where
            cases : (j n : ℕ) → j < n + 1 → (j < n) ⊎ (j ≡ n)
            cases j n l = grind arith

            by : (j < length above) ⊎ (j ≡ length above) → rank child < rank (get_or (above ++ p ∷ []) j root)
            by (inl h) =
                let falls : rank p < rank (get_or (above ++ p ∷ []) j root) = subst (λ q. rank q < rank (get_or (above ++ p ∷ []) j root)) last (way.falls j (length above) h (omega (arith, length_push above p))) in
                omega arith
            by (inr e) = subst (λ q. rank child < rank q) (sym last ∙ ap (λ n. get_or (above ++ p ∷ []) n root) (sym e)) b

    -- the last is replaced, and the others wait on
    pub IsWay-pop : (t : Stored) (e : Replaced) → Extends s t → Replaces s d p t e → 0 < length above → IsWay first start root t e above
    IsWay-pop t e more made some =
        let old = above ++ p ∷ [] in
        let here : (k : ℕ) → k < length above → get_or old k root ≡ get_or above k root = λ k h. get_or_append_left above (p ∷ []) root k h in
        record {
          extends = Extends-trans way.extends more;
          done = made.done;
          same = made.same ∙ way.same;
          bottom = sym (here 0 some) ∙ way.bottom;
          each = λ k h. subst (OnWay first start root t e) (here k h) (still k h);
          falls = λ j k l h. rw (← here k h, ← here j (omega arith)) (way.falls j k l (omega (arith, length_push above p)));
        }
      where
        still : (k : ℕ) → k < length above → OnWay first start root t e (get_or (above ++ p ∷ []) k root)
        still k h =
            let q = get_or (above ++ p ∷ []) k root in
            let on = way.each k (omega (arith, length_push above p)) in
            let falls : rank p < rank q = subst (λ r. rank r < rank q) last (way.falls k (length above) h (omega (arith, length_push above p))) in
            let size = new_size-more (under_way first start) s t more q on.part in
            record {
              part = size.0;
              range = on.range;
              missing = made.others q (λ same. not_less (rank p) (rank q) (ap rank (sym same)) falls) ∙ on.missing;
              smaller = rw size.1 on.smaller;
            }
          where
            not_less : (m n : ℕ) → m ≡ n → m < n → ⊥
            not_less m n e l = omega arith

  -- nothing more waits: what was replaced is the root
  pub way-end : (s t : Stored) (d e : Replaced) (above : List Part) (p : Part) → above ≡ [] → IsWay first start root s d (above ++ p ∷ []) → Replaces s d p t e
      → IsWay first start root s d (root ∷ []) × Replaces s d root t e
  way-end s t d e above p none way made =
      let here : IsWay first start root s d (p ∷ []) = subst (λ xs. IsWay first start root s d (xs ++ p ∷ [])) none way in
      let same : p ≡ root = here.bottom in
      (subst (λ q. IsWay first start root s d (q ∷ [])) same here, subst (λ q. Replaces s d q t e) same made)

-- ---- the end

module _ (first : Stored) (start : Replaced) (form : FormId) (s t : Stored) (d e : Replaced)
    (way : IsWay first start (part.Form form) s d (part.Form form ∷ [])) (more : Extends s t) (made : Replaces s d (part.Form form) t e) (here : IsForm first form) where
  pub formula-end : IsForm t (new_form e form) × (formula t (new_form e form) ≡ replaced_in (under_way first start) (formula first form))
  formula-end = by (form_at e form) refl made.made
    where
      by : (o : Option FormId) → form_at e form ≡ o → is_some o ≡ true → IsForm t (new_form e form) × (formula t (new_form e form) ≡ replaced_in (under_way first start) (formula first form))
      by (Some n) f i = rw f (
          let h = made.done.forms form n f in
          let same : under_way t e ≡ under_way first start = made.same ∙ way.same in
          let old = ((Extends-trans way.extends more).forms form here).1 in
          (h.1, h.2 ∙ ap (λ r. replaced_in r (formula t form)) same ∙ ap (replaced_in (under_way first start)) old))
      by None f i = absurd (false≢true i)

  pub fits-end : formula_size (replaced_in (under_way first start) (formula first form)) ≤ most_nodes
  unfolding new_size
  fits-end =
      let old = (way.extends.forms form here).1 in
      subst (λ x. formula_size (replaced_in (under_way first start) x) ≤ most_nodes) old (subst (λ r. formula_size (replaced_in r (formula s form)) ≤ most_nodes) way.same made.fits)

-- ---- the start

module _ (s : Stored) (map : List (Sym × TermId)) (d : Replaced) (start : IsStart map d) where
  pub under_way-start : under_way s d ≡ substitution s map
  under_way-start = λ i x. ap (λ o. option_map_or (tree s) o (Name x)) (start.symbols x) i

  pub IsDone-start : All (λ p. IsTerm s p.1) map → IsDone s d
  IsDone-start all = record {
    symbols = λ x id f. named map all x.0 id (sym (start.symbols x.0) ∙ f);
    terms = λ id new f. absurd (none-some new (sym (start.no_term id) ∙ f));
    forms = λ id new f. absurd (none-some new (sym (start.no_form id) ∙ f));
  }
    where
      named : (ps : List (Sym × TermId)) → All (λ p. IsTerm s p.1) ps → (x : ℕ) (id : TermId) → term_of ps x ≡ Some id → IsTerm s id
      named [] all x id f = absurd (none-some id f)
      named (p ∷ ps) all x id f = by (nat_eq p.0.0 x) refl (named ps (All-tail (λ (p : Sym × TermId). IsTerm s p.1) p ps all) x id)
        where
          by : (b : Bool) → nat_eq p.0.0 x ≡ b → (term_of ps x ≡ Some id → IsTerm s id) → IsTerm s id
          by true b rest = subst (IsTerm s) (same_Some p.1 id (ap (λ c. cond c (Some p.1) (term_of ps x)) (sym b) ∙ f)) (All-head (λ (p : Sym × TermId). IsTerm s p.1) p ps all)
          by false b rest = rest (ap (λ c. cond c (Some p.1) (term_of ps x)) (sym b) ∙ f)

  pub missing-start : (form : FormId) → is_replaced d (part.Form form) ≡ false
  missing-start form = ap is_some (start.no_form form)
