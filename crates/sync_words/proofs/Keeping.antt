-- Each move on the table keeps its rule.
use Rattle.std.proofs.Common.{◌≡◌, ◌≢◌, ◌⊎◌, ℕ, zero, suc, ◌+◌, ◌<◌, ◌≤◌, Bool, true, false, cond, not, ◌&&◌, ◌||◌, eqb, List, [], ◌∷◌, ◌++◌, length, get_or, set, sym, refl, ap, ◌∙◌, subst, inl, inr, ⊎_elim, arith, length-set}
use Rattle.std.specs.List.{range_with_len}
use mathlib.Core.Option.{some, some-injective, some-ne-none}
use lib.ListN.{get_elem?}
use Rattle.std.proofs.lemmas.Bool.{true≢false, false≢true, eq-eqb, ne_eqb, eqb-true, cases_eq, cases_Bool, or_cases, and_parts}
use Rattle.std.proofs.lemmas.List.Elements.{All-nil, All-push}
use Rattle.atomic_table.specs.Table.{State, opening, stepped, keeps}
use Rattle.atomic_table.proofs.Lists.{at_set, set_else, at_longer, at_last}
use Rattle.sync_words.specs.declared.entries.Entry.{Entry}
use Rattle.sync_words.specs.declared.rule.View.{View}
use Rattle.sync_words.specs.Entries.{agrees, changed, has}
use Rattle.sync_words.specs.Views.{opened, added, part, merged, spent, Fits}
use Rattle.sync_words.specs.Rule.{Kept}
use Rattle.sync_words.proofs.Lists.{legal_more, words_more, has-append, has-filter}
use Rattle.sync_words.proofs.Fitting.{fits_opened, fits_spent, fits_part, fits_merged, fits_other, fits_added}

pub has_range : (a n t : ℕ) → has (range_with_len a n) t ≡ true → (a ≤ t) × (t < a + n)
has_range a zero t h = absurd (false≢true h)
has_range a (suc n) t h =
    ⊎_elim
    (λ (e : eqb a t ≡ true). let same = eqb-true a t e in (omega arith, omega arith))
    (λ (r : has (range_with_len (a + 1) n) t ≡ true). let rest = has_range (a + 1) n t r in (omega arith, omega arith))
    (or_cases (eqb a t) (has (range_with_len (a + 1) n) t) h)

pub in_range : (a n t : ℕ) → a ≤ t → t < a + n → has (range_with_len a n) t ≡ true
in_range a zero t low high = absurd (omega arith)
in_range a (suc n) t low high =
    ⊎_elim
    (λ (e : a ≡ t). ap (λ b. b || has (range_with_len (a + 1) n) t) (eq-eqb a t e))
    (λ (ne : a ≡ t → ⊥). ap (λ b. b || has (range_with_len (a + 1) n) t) (ne_eqb a t ne) ∙ in_range (a + 1) n t (omega arith) (omega arith))
    (cases_eq a t)

-- the view at a place has the number
abbrev pub Has : List View → ℕ → ℕ → Type 0
Has views id t = (v : View) × (get_elem? views id ≡ some v) × (has v.numbers t ≡ true)

pub set_there : (views : List View) (id : ℕ) (v w : View) → get_elem? views id ≡ some v → get_elem? (set views id w) id ≡ some w
set_there [] id v w at = absurd (some-ne-none v (sym at))
set_there (x ∷ xs) zero v w at = refl
set_there (x ∷ xs) (suc id) v w at = set_there xs id v w at

same_view : (views : List View) (id : ℕ) (v w : View) → get_elem? views id ≡ some v → get_elem? views id ≡ some w → v ≡ w
same_view views id v w a b = some-injective v w (sym a ∙ b)

-- a place that has the number has it after a change of one view that leaves the number there
pub has_set : (views : List View) (id : ℕ) (v w : View) → get_elem? views id ≡ some v → (at t : ℕ) → (at ≡ id → has v.numbers t ≡ true → has w.numbers t ≡ true) → Has views at t → Has (set views id w) at t
has_set views id v w there at t stays was =
    ⊎_elim
    (λ (e : at ≡ id).
    let is : was.0 ≡ v = same_view views id was.0 v (subst (λ (i : ℕ). get_elem? views i ≡ some was.0) e was.1) there in
    (w, subst (λ (i : ℕ). get_elem? (set views id w) i ≡ some w) (sym e) (set_there views id v w there), stays e (subst (λ (x : View). has x.numbers t ≡ true) is was.2)))
    (λ (ne : at ≡ id → ⊥). (was.0, set_else views id at w ne ∙ was.1, was.2))
    (cases_eq at id)

at_snoc : (views : List View) (w u : View) (j : ℕ) → get_elem? (views ++ w ∷ []) j ≡ some u → (get_elem? views j ≡ some u) ⊎ ((j ≡ length views) × (w ≡ u))
at_snoc [] w u zero e = inr (refl, some-injective w u e)
at_snoc [] w u (suc j) e = absurd (some-ne-none u (sym e))
at_snoc (x ∷ xs) w u zero e = inl e
at_snoc (x ∷ xs) w u (suc j) e = ⊎_elim (λ (t : get_elem? xs j ≡ some u). inl t) (λ (t : (j ≡ length xs) × (w ≡ u)). inr (ap suc t.0, t.1)) (at_snoc xs w u j e)

-- the rule at the start
pub opens : (words : List ℕ) (threads : ℕ) → Kept words threads (opening words [] (opened words threads))
opens words threads = record {
  entries = [];
  legal = refl;
  leaves = refl;
  known = All-nil (λ (e : Entry). e.thread < threads);
  seat = λ t. 0;
  placed = λ t l. (opened words threads, refl, in_range 0 threads t (omega arith) (omega arith));
  alone = alone;
  fits = fits;
}
  where
    alone : (id : ℕ) (v : View) (t : ℕ) → get_elem? (opened words threads ∷ []) id ≡ some v → has v.numbers t ≡ true → (0 ≡ id) × (t < threads)
    alone zero v t at h = let r = has_range 0 threads t (subst (λ (x : View). has x.numbers t ≡ true) (sym (some-injective (opened words threads) v at)) h) in (refl, omega arith)
    alone (suc id) v t at h = absurd (some-ne-none v (sym at))

    fits : (id : ℕ) (v : View) → get_elem? (opened words threads ∷ []) id ≡ some v → Fits [] v
    fits zero v at = subst (Fits []) (some-injective (opened words threads) v at) (fits_opened words threads)
    fits (suc id) v at = absurd (some-ne-none v (sym at))

module _ (first : List ℕ) (threads : ℕ) (s : State ℕ View) (k : Kept first threads s) where
  -- a step that makes an entry
  unfoldable pub enters : (id : ℕ) (v : View) (e : Entry) (cs : List (ℕ × ℕ)) (n : ℕ) → get_elem? s.views id ≡ some v → has v.numbers e.thread ≡ true → e.word < length s.words
      → agrees (get_or s.words e.word 0) e.operation ≡ true → changed (get_or s.words e.word 0) e.operation ≡ n → Kept first threads (stepped s e.word n id cs (added v e) keeps)
  enters id v e cs n at own inside found becomes = record {
    entries = k.entries ++ e ∷ [];
    legal = legal_more first s.words k.entries e k.legal k.leaves inside found;
    leaves = words_more first s.words k.entries e k.leaves ∙ ap (set s.words e.word) becomes;
    known = All-push (λ (x : Entry). x.thread < threads) k.entries e k.known (k.alone id v e.thread at own).1;
    seat = k.seat;
    placed = λ t l. has_set s.views id v (added v e) at (k.seat t) t (λ _ h. h) (k.placed t l);
    alone = λ j u t there h.
        ⊎_elim
        (λ (x : (j ≡ id) × (added v e ≡ u)). let a = k.alone id v t at (subst (λ (y : View). has y.numbers t ≡ true) (sym x.1) h) in (a.0 ∙ sym x.0, a.1))
        (λ (x : (j ≢ id) × (get_elem? s.views j ≡ some u)). k.alone j u t x.1 h)
        (at_set s.views id j (added v e) u there);
    fits = λ j u there.
        ⊎_elim
        (λ (x : (j ≡ id) × (added v e ≡ u)). subst (Fits (k.entries ++ e ∷ [])) x.1 (fits_added k.entries e v own (k.fits id v at)))
        (λ (x : (j ≢ id) × (get_elem? s.views j ≡ some u)).
        ⊎_elim
        (λ (h : has u.numbers e.thread ≡ true). absurd (x.0 (sym (k.alone j u e.thread x.1 h).0 ∙ (k.alone id v e.thread at own).0)))
        (λ (h : has u.numbers e.thread ≡ false). fits_other k.entries e u h (k.fits j u x.1))
        (cases_Bool (has u.numbers e.thread)))
        (at_set s.views id j (added v e) u there);
  }

  -- a view is cut by a test of its numbers, and a new seat has what does not pass
  module _ (test other : ℕ → Bool) (apart : (t : ℕ) → other t ≡ not (test t)) (id : ℕ) (v : View) (at : get_elem? s.views id ≡ some v) where
    abbrev there : ℕ → ℕ
    there t = cond (has (part other v).numbers t) (length s.views) (k.seat t)

    goes : (t : ℕ) → has (part other v).numbers t ≡ true → there t ≡ length s.views
    goes t h = ap (λ (b : Bool). cond b (length s.views) (k.seat t)) h

    stays : (t : ℕ) → has (part other v).numbers t ≡ false → there t ≡ k.seat t
    stays t h = ap (λ (b : Bool). cond b (length s.views) (k.seat t)) h

    of_whole : (q : ℕ → Bool) (t : ℕ) → has (part q v).numbers t ≡ true → (q t ≡ true) × (has v.numbers t ≡ true)
    of_whole q t h = and_parts (q t) (has v.numbers t) (sym (has-filter q v.numbers t) ∙ h)

    not_both : (t : ℕ) → has (part test v).numbers t ≡ true → has (part other v).numbers t ≡ false
    not_both t h = has-filter other v.numbers t ∙ ap (λ b. b && has v.numbers t) (apart t ∙ ap not (of_whole test t h).0)

    one_of_both : (b c : Bool) → c ≡ not b → (h : Bool) → h ≡ true → (c && h) ≡ false → (b && h) ≡ true
    one_of_both true c e h y n = y
    one_of_both false c e h y n = absurd (true≢false (sym (ap (λ x. x && h) e ∙ y) ∙ n))

    pub splits : Kept first threads record { words = s.words; homes = s.homes; views = set s.views id (part test v) ++ part other v ∷ [] }
    splits = record {
      entries = k.entries;
      legal = k.legal;
      leaves = k.leaves;
      known = k.known;
      seat = there;
      placed = λ t l.
          ⊎_elim
          (λ (h : has (part other v).numbers t ≡ true).
          subst (λ (j : ℕ). Has (set s.views id (part test v) ++ part other v ∷ []) j t) (sym (goes t h))
          (part other v, at_last (set s.views id (part test v)) (part other v) (length s.views) (length-set s.views id (part test v)), h))
          (λ (h : has (part other v).numbers t ≡ false).
          let p = has_set s.views id v (part test v) at (k.seat t) t
          (λ _ own. has-filter test v.numbers t ∙ one_of_both (test t) (other t) (apart t) (has v.numbers t) own (sym (has-filter other v.numbers t) ∙ h)) (k.placed t l) in
          subst (λ (j : ℕ). Has (set s.views id (part test v) ++ part other v ∷ []) j t) (sym (stays t h))
          (p.0, at_longer (set s.views id (part test v)) (part other v ∷ []) (k.seat t) p.0 p.1, p.2))
          (cases_Bool (has (part other v).numbers t));
      alone = λ j u t found h.
          ⊎_elim
          (λ (front : get_elem? (set s.views id (part test v)) j ≡ some u).
          ⊎_elim
          (λ (x : (j ≡ id) × (part test v ≡ u)).
          let mine : has (part test v).numbers t ≡ true = subst (λ (y : View). has y.numbers t ≡ true) (sym x.1) h in
          let a = k.alone id v t at (of_whole test t mine).1 in
          (stays t (not_both t mine) ∙ a.0 ∙ sym x.0, a.1))
          (λ (x : (j ≢ id) × (get_elem? s.views j ≡ some u)).
          let a = k.alone j u t x.1 h in
          ⊎_elim
          (λ (m : has (part other v).numbers t ≡ true). absurd (x.0 (sym a.0 ∙ (k.alone id v t at (of_whole other t m).1).0)))
          (λ (m : has (part other v).numbers t ≡ false). (stays t m ∙ a.0, a.1))
          (cases_Bool (has (part other v).numbers t)))
          (at_set s.views id j (part test v) u front))
          (λ (last : (j ≡ length (set s.views id (part test v))) × (part other v ≡ u)).
          let mine : has (part other v).numbers t ≡ true = subst (λ (y : View). has y.numbers t ≡ true) (sym last.1) h in
          (goes t mine ∙ sym (length-set s.views id (part test v)) ∙ sym last.0, (k.alone id v t at (of_whole other t mine).1).1))
          (at_snoc (set s.views id (part test v)) (part other v) u j found);
      fits = λ j u found.
          ⊎_elim
          (λ (front : get_elem? (set s.views id (part test v)) j ≡ some u).
          ⊎_elim
          (λ (x : (j ≡ id) × (part test v ≡ u)). subst (Fits k.entries) x.1 (fits_part test k.entries v (k.fits id v at)))
          (λ (x : (j ≢ id) × (get_elem? s.views j ≡ some u)). k.fits j u x.1)
          (at_set s.views id j (part test v) u front))
          (λ (last : (j ≡ length (set s.views id (part test v))) × (part other v ≡ u)). subst (Fits k.entries) last.1 (fits_part other k.entries v (k.fits id v at)))
          (at_snoc (set s.views id (part test v)) (part other v) u j found);
    }

  -- a view takes in another, which is spent
  module _ (id other : ℕ) (v w : View) (at : get_elem? s.views id ≡ some v) (ne : other ≡ id → ⊥) (by : get_elem? s.views other ≡ some w) where
    abbrev both : View
    both = merged v w

    abbrev after : List View
    after = set (set s.views id both) other spent

    abbrev home : ℕ → ℕ
    home t = cond (has w.numbers t) id (k.seat t)

    moves : (t : ℕ) → has w.numbers t ≡ true → home t ≡ id
    moves t h = ap (λ (b : Bool). cond b id (k.seat t)) h

    rests : (t : ℕ) → has w.numbers t ≡ false → home t ≡ k.seat t
    rests t h = ap (λ (b : Bool). cond b id (k.seat t)) h

    disjoint : (t : ℕ) → has v.numbers t ≡ true → has w.numbers t ≡ true → ⊥
    disjoint t a b = ne (sym (k.alone other w t by b).0 ∙ (k.alone id v t at a).0)

    of_either : (t : ℕ) → has both.numbers t ≡ true → (has v.numbers t ≡ true) ⊎ (has w.numbers t ≡ true)
    of_either t h = or_cases (has v.numbers t) (has w.numbers t) (sym (has-append v.numbers w.numbers t) ∙ h)

    or_left : (a b : Bool) → a ≡ true → (a || b) ≡ true
    or_left a b e = ap (λ x. x || b) e

    or_right : (a b : Bool) → b ≡ true → (a || b) ≡ true
    or_right true b e = refl
    or_right false b e = e

    both_here : get_elem? after id ≡ some both
    both_here = set_else (set s.views id both) other id spent (λ e. ne (sym e)) ∙ set_there s.views id v both at

    at_after : (j : ℕ) (u : View) → get_elem? after j ≡ some u → ((j ≡ other) × (spent ≡ u)) ⊎ (((j ≡ id) × (both ≡ u)) ⊎ ((j ≢ other) × (j ≢ id) × (get_elem? s.views j ≡ some u)))
    at_after j u found =
        ⊎_elim
        (λ (x : (j ≡ other) × (spent ≡ u)). inl x)
        (λ (x : (j ≢ other) × (get_elem? (set s.views id both) j ≡ some u)).
        ⊎_elim
        (λ (y : (j ≡ id) × (both ≡ u)). inr (inl y))
        (λ (y : (j ≢ id) × (get_elem? s.views j ≡ some u)). inr (inr (x.0, y.0, y.1)))
        (at_set s.views id j both u x.1))
        (at_set (set s.views id both) other j spent u found)

    pub joins : Kept first threads record { words = s.words; homes = s.homes; views = after }
    joins = record {
      entries = k.entries;
      legal = k.legal;
      leaves = k.leaves;
      known = k.known;
      seat = home;
      placed = λ t l.
          ⊎_elim
          (λ (h : has w.numbers t ≡ true).
          subst (λ (j : ℕ). Has after j t) (sym (moves t h)) (both, both_here, has-append v.numbers w.numbers t ∙ or_right (has v.numbers t) (has w.numbers t) h))
          (λ (h : has w.numbers t ≡ false).
          subst (λ (j : ℕ). Has after j t) (sym (rests t h))
          (has_set (set s.views id both) other w spent (set_else s.views id other both ne ∙ by) (k.seat t) t (λ _ own. absurd (false≢true (sym h ∙ own)))
          (has_set s.views id v both at (k.seat t) t (λ _ own. has-append v.numbers w.numbers t ∙ or_left (has v.numbers t) (has w.numbers t) own) (k.placed t l))))
          (cases_Bool (has w.numbers t));
      alone = λ j u t found h.
          ⊎_elim
          (λ (x : (j ≡ other) × (spent ≡ u)). absurd (false≢true (subst (λ (y : View). has y.numbers t ≡ true) (sym x.1) h)))
          (λ (x : ((j ≡ id) × (both ≡ u)) ⊎ ((j ≢ other) × (j ≢ id) × (get_elem? s.views j ≡ some u))).
          ⊎_elim
          (λ (y : (j ≡ id) × (both ≡ u)).
          ⊎_elim
          (λ (a : has v.numbers t ≡ true).
          let mine = k.alone id v t at a in
          ⊎_elim
          (λ (b : has w.numbers t ≡ true). absurd (disjoint t a b))
          (λ (b : has w.numbers t ≡ false). (rests t b ∙ mine.0 ∙ sym y.0, mine.1))
          (cases_Bool (has w.numbers t)))
          (λ (b : has w.numbers t ≡ true). (moves t b ∙ sym y.0, (k.alone other w t by b).1))
          (of_either t (subst (λ (z : View). has z.numbers t ≡ true) (sym y.1) h)))
          (λ (y : (j ≢ other) × (j ≢ id) × (get_elem? s.views j ≡ some u)).
          let theirs = k.alone j u t y.2 h in
          ⊎_elim
          (λ (b : has w.numbers t ≡ true). absurd (y.0 (sym theirs.0 ∙ (k.alone other w t by b).0)))
          (λ (b : has w.numbers t ≡ false). (rests t b ∙ theirs.0, theirs.1))
          (cases_Bool (has w.numbers t)))
          x)
          (at_after j u found);
      fits = λ j u found.
          ⊎_elim
          (λ (x : (j ≡ other) × (spent ≡ u)). subst (Fits k.entries) x.1 (fits_spent k.entries))
          (λ (x : ((j ≡ id) × (both ≡ u)) ⊎ ((j ≢ other) × (j ≢ id) × (get_elem? s.views j ≡ some u))).
          ⊎_elim
          (λ (y : (j ≡ id) × (both ≡ u)). subst (Fits k.entries) y.1 (fits_merged k.entries v w (k.fits id v at) (k.fits other w by) disjoint))
          (λ (y : (j ≢ other) × (j ≢ id) × (get_elem? s.views j ≡ some u)). k.fits j u y.2)
          x)
          (at_after j u found);
    }
