-- A term taken apart down the operands that are walked, and its line made again from the innermost one.
use Rattle.std.proofs.Common.{◌≡◌, inl, inr, ℕ, ◌-◌, ◌<◌, ◌≤◌, ℤ, pos, ◌+ℤ◌, ◌*ℤ◌, List, [], ◌∷◌, ◌++◌, length, take, refl, sym, ap, subst, ◌∙◌, arith}
use Rattle.std.specs.Prelude.{FitsSigned}
use Rattle.std.specs.Int.{w128}
use Rattle.std.specs.List.{AllByRecursion}
use Rattle.std.proofs.lemmas.Int.{ints}
use Rattle.sync_terms.specs.declared.nodes.TermId.{TermId}
use Rattle.sync_terms.specs.Trees.{Tree, Lit, Add, Sub, Scale}
use Rattle.sync_terms.specs.Stored.{Stored, tree, IsTerm}
use Rattle.sync_linear.specs.declared.changes.Change.TheVariants as change
use Rattle.sync_linear.specs.declared.terms.Rest.{Rest}
use Rattle.sync_linear.specs.declared.terms.Rest.TheVariants as rest
use Rattle.sync_linear.specs.Lines.{Line, IsChanged, LineFits}
use Rattle.sync_linear.specs.Forms.{constant_of, coefficient_of, IsWithin, Narrow}
use Rattle.sync_linear.specs.Stores.{IsLineOf}
use Rattle.sync_linear.specs.Parts.{completed, IsBelow, wrapped, EndInSigns, IsPut, AreAlike, IsTaken}
use Rattle.sync_linear.proofs.Signs.{alike-same, alike-then, alike-wrapped, opposite, signs-alike}
use Rattle.sync_linear.proofs.Whole.{line_of_zero, plus_zero, zero_fits}
use Rattle.sync_linear.proofs.Joins.{join_line, join_fits, fits_line}

wrapped_push : (s : Stored) (rs : List Rest) (r : Rest) (t : Tree) → wrapped s (rs ++ r ∷ []) t ≡ wrapped s rs (completed s r t)
wrapped_push s [] r t = refl
wrapped_push s (x ∷ xs) r t = ap (completed s x) (wrapped_push s xs r t)

all_push : (s : Stored) (n : ℕ) (rs : List Rest) (r : Rest) → AllByRecursion (IsBelow s n) rs → IsBelow s n r → AllByRecursion (IsBelow s n) (rs ++ r ∷ [])
all_push s n [] r h i = (i, tt)
all_push s n (x ∷ xs) r h i = (h.0, all_push s n xs r h.1 i)

pub all_front : (s : Stored) (n : ℕ) (rs : List Rest) (r : Rest) → AllByRecursion (IsBelow s n) (rs ++ r ∷ []) → AllByRecursion (IsBelow s n) rs
all_front s n [] r h = tt
all_front s n (x ∷ xs) r h = (h.0, all_front s n xs r h.1)

pub all_last : (s : Stored) (n : ℕ) (rs : List Rest) (r : Rest) → AllByRecursion (IsBelow s n) (rs ++ r ∷ []) → IsBelow s n r
all_last s n [] r h = h.0
all_last s n (x ∷ xs) r h = all_last s n xs r h.1

narrow_walked : (s : Stored) (r : Rest) (t : Tree) → Narrow (completed s r t) → Narrow t
narrow_walked s (rest.Plus b) t h = h.1
narrow_walked s (rest.Minus b) t h = h.1
narrow_walked s (rest.Times n) t h = h.1
narrow_walked s (rest.AddedTo a) t h = h.2
narrow_walked s (rest.TakenFrom a) t h = h.2
narrow_walked s rest.Opposite t h = h.2

narrow_inner : (s : Stored) (rs : List Rest) (t : Tree) → Narrow (wrapped s rs t) → Narrow t
narrow_inner s [] t h = h
narrow_inner s (r ∷ rs) t h = narrow_inner s rs t (narrow_walked s r (wrapped s rs t) h)

-- on the way down: the rests so far make the term of the one that is looked at
pub record IsDown (s : Stored) (t : TermId) (rests : List Rest) (at : TermId) : Type 0 where
  pub whole : AreAlike s (wrapped s rests (tree s at)) (tree s t)
  pub below : AllByRecursion (IsBelow s t.0) rests
  pub stored : IsTerm s at
  pub earlier : at.0 ≤ t.0

pub top : (s : Stored) (t : TermId) → IsTerm s t → IsDown s t [] t
top s t p = record { whole = alike-same s refl; below = tt; stored = p; earlier = omega arith }

below_more : (s : Stored) (n m : ℕ) (r : Rest) → n ≤ m → IsBelow s n r → IsBelow s m r
below_more s n m (rest.Plus b) le h = (h.0, omega (arith, h.1))
below_more s n m (rest.Minus b) le h = (h.0, omega (arith, h.1))
below_more s n m (rest.Times k) le h = tt
below_more s n m (rest.AddedTo a) le h = (h.0, omega (arith, h.1))
below_more s n m (rest.TakenFrom a) le h = (h.0, omega (arith, h.1))
below_more s n m rest.Opposite le h = tt

pub down : (s : Stored) (t at a : TermId) (rs : List Rest) (r : Rest) → IsDown s t rs at → (tree s at ≡ completed s r (tree s a)) × IsTerm s a × (a.0 < at.0) × IsBelow s at.0 r → IsDown s t (rs ++ r ∷ []) a
down s t at a rs r d p = record {
  whole = alike-then (alike-same s (wrapped_push s rs r (tree s a) ∙ ap (wrapped s rs) (sym p.0))) d.whole;
  below = all_push s t.0 rs r d.below (below_more s at.0 t.0 r d.earlier p.3);
  stored = p.1;
  earlier = omega (arith, p.2, d.earlier);
}

-- a third sign, which takes the second away
pub fewer : (s : Stored) (t at a : TermId) (rs : List Rest) → IsDown s t rs at → EndInSigns rs
    → (tree s at ≡ completed s rest.Opposite (tree s a)) × IsTerm s a × (a.0 < at.0) × IsBelow s at.0 rest.Opposite
    → IsDown s t (take (length rs - 1) rs) a
fewer s t at a rs d e p =
    let one = e.front ++ rest.Opposite ∷ [] in
    let all : wrapped s rs (tree s at) ≡ wrapped s e.front (opposite (opposite (opposite (tree s a)))) =
    ap (λ (xs : List Rest). wrapped s xs (tree s at)) e.all
    ∙ (wrapped_push s one rest.Opposite (tree s at)
    ∙ (wrapped_push s e.front rest.Opposite (opposite (tree s at)) ∙ ap (λ (x : Tree). wrapped s e.front (opposite (opposite x))) p.0)) in
    let few : wrapped s (take (length rs - 1) rs) (tree s a) ≡ wrapped s e.front (opposite (tree s a)) =
    ap (λ (xs : List Rest). wrapped s xs (tree s a)) e.shorter ∙ wrapped_push s e.front rest.Opposite (tree s a) in
    record {
      whole = alike-then (alike-same s few)
          (alike-then (alike-wrapped s e.front (opposite (tree s a)) (opposite (opposite (opposite (tree s a)))) (signs-alike s (tree s a)))
          (alike-then (alike-same s (sym all)) d.whole));
      below = subst (AllByRecursion (IsBelow s t.0)) (sym e.shorter)
          (all_front s t.0 one rest.Opposite (subst (AllByRecursion (IsBelow s t.0)) e.all d.below));
      stored = p.1;
      earlier = omega (arith, p.2, d.earlier);
    }

pub put-down : (s : Stored) (t at a : TermId) (rs new : List Rest) (r : Rest) → IsDown s t rs at
    → (tree s at ≡ completed s r (tree s a)) × IsTerm s a × (a.0 < at.0) × IsBelow s at.0 r → IsPut rs r new → IsDown s t new a
put-down s t at a rs new r d p (inl e) = subst (λ (xs : List Rest). IsDown s t xs a) (sym e) (down s t at a rs r d p)
put-down s t at a rs new r d p (inr e) =
    subst (λ (xs : List Rest). IsDown s t xs a) (sym e.2)
    (fewer s t at a rs d e.1
    (subst (λ (x : Rest). (tree s at ≡ completed s x (tree s a)) × IsTerm s a × (a.0 < at.0) × IsBelow s at.0 x) e.0 p))

pub bottom : (s : Stored) (t at : TermId) (rs : List Rest) (line : Line) → IsDown s t rs at → IsLineOf s (tree s at) line × Narrow (tree s at) → IsTaken s t rs line
bottom s t at rs line d p = record { inner = tree s at; whole = d.whole; below = d.below; has_line = p.0; narrow = p.1 }

-- on the way up: one rest more is done
module _ (s : Stored) (t : TermId) (rs : List Rest) (r : Rest) (line : Line) (h : IsTaken s t (rs ++ r ∷ []) line) where
  whole_next : AreAlike s (wrapped s rs (completed s r h.inner)) (tree s t)
  whole_next = alike-then (alike-same s (sym (wrapped_push s rs r h.inner))) h.whole

  pub rises : (new : Line) → IsLineOf s (completed s r h.inner) new → Narrow (completed s r h.inner) → IsTaken s t rs new
  rises new l n = record { inner = completed s r h.inner; whole = whole_next; below = all_front s t.0 rs r h.below; has_line = l; narrow = n }

  pub narrow_next : Narrow (tree s t) → Narrow (completed s r h.inner)
  narrow_next n = narrow_inner s rs (completed s r h.inner) (whole_next.wide n)

pub zero_line : (s : Stored) → IsLineOf s (Lit (pos 0)) (record { constant = pos 0; atoms = [] })
zero_line s = record { constant = refl; atoms = λ id q. refl; stored = λ id ne. absurd (ne refl); has_atoms = tt }

from_zero : (s : Stored) (n : ℤ) (a : Tree) (l : Line) → IsLineOf s (Add (Lit (pos 0)) (Scale n a)) l → IsLineOf s (Scale n a) l
from_zero s n a l h = record {
  constant = h.constant ∙ plus_zero (n *ℤ constant_of a);
  atoms = λ id q. h.atoms id q ∙ plus_zero (n *ℤ coefficient_of (tree s id) a);
  stored = h.stored;
  has_atoms = h.has_atoms.1;
}

within_zero : (n : ℤ) (a : Tree) → IsWithin (Scale n a) → IsWithin (Add (Lit (pos 0)) (Scale n a))
within_zero n a h = record {
  constant = subst (FitsSigned w128) (sym (plus_zero (n *ℤ constant_of a))) h.constant;
  atoms = λ x. subst (FitsSigned w128) (sym (plus_zero (n *ℤ coefficient_of x a))) (h.atoms x);
}

pub up_opposite : (s : Stored) (t : TermId) (rs : List Rest) (line zero new : Line) → IsTaken s t (rs ++ rest.Opposite ∷ []) line
    → zero ≡ line_of_zero → IsChanged change.Minus zero line new → LineFits change.Minus zero line → IsTaken s t rs new
up_opposite s t rs line zero new h e c f =
    let i : IsLineOf s (Lit (pos 0)) zero = subst (IsLineOf s (Lit (pos 0))) (sym e) (zero_line s) in
    let w = join_fits change.Minus s (Lit (pos 0)) h.inner zero line i h.has_line f in
    rises s t rs rest.Opposite line h new (join_line change.Minus s (Lit (pos 0)) h.inner zero line new i h.has_line c)
    (w, (record { constant = zero_fits; atoms = λ x. zero_fits }), h.narrow)

pub wide_opposite : (s : Stored) (t : TermId) (rs : List Rest) (line zero : Line) → IsTaken s t (rs ++ rest.Opposite ∷ []) line
    → zero ≡ line_of_zero → (LineFits change.Minus zero line → ⊥) → Narrow (tree s t) → ⊥
wide_opposite s t rs line zero h e leaves n =
    let i : IsLineOf s (Lit (pos 0)) zero = subst (IsLineOf s (Lit (pos 0))) (sym e) (zero_line s) in
    leaves (fits_line change.Minus s (Lit (pos 0)) h.inner zero line i h.has_line (narrow_next s t rs rest.Opposite line h n).0)

-- the next line is that of the sum or of the difference with the second operand
pub up_plus : (s : Stored) (t b : TermId) (rs : List Rest) (line new : Line) → IsTaken s t (rs ++ rest.Plus b ∷ []) line → ((a : Tree) → IsLineOf s a line → IsLineOf s (Add a (tree s b)) new)
    → ((a : Tree) → IsLineOf s a line → IsWithin (Add a (tree s b))) → Narrow (tree s b) → IsTaken s t rs new
up_plus s t b rs line new h l f n = rises s t rs (rest.Plus b) line h new (l h.inner h.has_line) (f h.inner h.has_line, h.narrow, n)

pub up_minus : (s : Stored) (t b : TermId) (rs : List Rest) (line new : Line) → IsTaken s t (rs ++ rest.Minus b ∷ []) line → ((a : Tree) → IsLineOf s a line → IsLineOf s (Sub a (tree s b)) new)
    → ((a : Tree) → IsLineOf s a line → IsWithin (Sub a (tree s b))) → Narrow (tree s b) → IsTaken s t rs new
up_minus s t b rs line new h l f n = rises s t rs (rest.Minus b) line h new (l h.inner h.has_line) (f h.inner h.has_line, h.narrow, n)

pub up_times : (s : Stored) (t : TermId) (k : ℤ) (rs : List Rest) (line new : Line) → IsTaken s t (rs ++ rest.Times k ∷ []) line
    → IsChanged (change.Times k) line_of_zero line new → LineFits (change.Times k) line_of_zero line → IsTaken s t rs new
up_times s t k rs line new h c f =
    rises s t rs (rest.Times k) line h new (from_zero s k h.inner new (join_line (change.Times k) s (Lit (pos 0)) h.inner line_of_zero line new (zero_line s) h.has_line c))
    ((join_fits (change.Times k) s (Lit (pos 0)) h.inner line_of_zero line (zero_line s) h.has_line f).0, h.narrow)

-- a sum turned round has the same line
plus_turned : (x y : ℤ) → x +ℤ y ≡ y +ℤ x
plus_turned x y = omega (arith, ints)

turned_line : (s : Stored) (a b : Tree) (l : Line) → IsLineOf s (Add a b) l → IsLineOf s (Add b a) l
turned_line s a b l h = record {
  constant = h.constant ∙ plus_turned (constant_of a) (constant_of b);
  atoms = λ id q. h.atoms id q ∙ plus_turned (coefficient_of (tree s id) a) (coefficient_of (tree s id) b);
  stored = h.stored;
  has_atoms = (h.has_atoms.1, h.has_atoms.0);
}

turned_within : (a b : Tree) → IsWithin (Add a b) → IsWithin (Add b a)
turned_within a b h = record {
  constant = subst (FitsSigned w128) (plus_turned (constant_of a) (constant_of b)) h.constant;
  atoms = λ x. subst (FitsSigned w128) (plus_turned (coefficient_of x a) (coefficient_of x b)) (h.atoms x);
}

pub up_added : (s : Stored) (t a : TermId) (rs : List Rest) (line new : Line) → IsTaken s t (rs ++ rest.AddedTo a ∷ []) line → ((b : Tree) → IsLineOf s b line → IsLineOf s (Add b (tree s a)) new)
    → ((b : Tree) → IsLineOf s b line → IsWithin (Add b (tree s a))) → Narrow (tree s a) → IsTaken s t rs new
up_added s t a rs line new h l f n =
    rises s t rs (rest.AddedTo a) line h new (turned_line s h.inner (tree s a) new (l h.inner h.has_line)) (turned_within h.inner (tree s a) (f h.inner h.has_line), n, h.narrow)

pub up_taken : (s : Stored) (t a : TermId) (rs : List Rest) (line first new : Line) → IsTaken s t (rs ++ rest.TakenFrom a ∷ []) line → IsLineOf s (tree s a) first → Narrow (tree s a)
    → IsChanged change.Minus first line new → LineFits change.Minus first line → IsTaken s t rs new
up_taken s t a rs line first new h i n c f =
    rises s t rs (rest.TakenFrom a) line h new (join_line change.Minus s (tree s a) h.inner first line new i h.has_line c)
    (join_fits change.Minus s (tree s a) h.inner first line i h.has_line f, n, h.narrow)

-- where the next line does not fit, the term is not narrow
pub wide_plus : (s : Stored) (t b : TermId) (rs : List Rest) (line : Line) → IsTaken s t (rs ++ rest.Plus b ∷ []) line
    → ((a : Tree) → IsLineOf s a line → IsWithin (Add a (tree s b)) → Narrow (tree s b) → ⊥) → Narrow (tree s t) → ⊥
wide_plus s t b rs line h leaves n = let w = narrow_next s t rs (rest.Plus b) line h n in leaves h.inner h.has_line w.0 w.2

pub wide_minus : (s : Stored) (t b : TermId) (rs : List Rest) (line : Line) → IsTaken s t (rs ++ rest.Minus b ∷ []) line
    → ((a : Tree) → IsLineOf s a line → IsWithin (Sub a (tree s b)) → Narrow (tree s b) → ⊥) → Narrow (tree s t) → ⊥
wide_minus s t b rs line h leaves n = let w = narrow_next s t rs (rest.Minus b) line h n in leaves h.inner h.has_line w.0 w.2

pub wide_times : (s : Stored) (t : TermId) (k : ℤ) (rs : List Rest) (line : Line) → IsTaken s t (rs ++ rest.Times k ∷ []) line
    → (LineFits (change.Times k) line_of_zero line → ⊥) → Narrow (tree s t) → ⊥
wide_times s t k rs line h leaves n =
    let w = (narrow_next s t rs (rest.Times k) line h n).0 in
    leaves (fits_line (change.Times k) s (Lit (pos 0)) h.inner line_of_zero line (zero_line s) h.has_line (w, within_zero k h.inner w))

pub wide_added : (s : Stored) (t a : TermId) (rs : List Rest) (line : Line) → IsTaken s t (rs ++ rest.AddedTo a ∷ []) line
    → ((b : Tree) → IsLineOf s b line → IsWithin (Add b (tree s a)) → Narrow (tree s a) → ⊥) → Narrow (tree s t) → ⊥
wide_added s t a rs line h leaves n =
    let w = narrow_next s t rs (rest.AddedTo a) line h n in
    leaves h.inner h.has_line (turned_within (tree s a) h.inner w.0) w.1

pub wide_first : (s : Stored) (t a : TermId) (rs : List Rest) (line : Line) → IsTaken s t (rs ++ rest.TakenFrom a ∷ []) line → (Narrow (tree s a) → ⊥) → Narrow (tree s t) → ⊥
wide_first s t a rs line h leaves n = leaves (narrow_next s t rs (rest.TakenFrom a) line h n).1

pub wide_taken : (s : Stored) (t a : TermId) (rs : List Rest) (line first : Line) → IsTaken s t (rs ++ rest.TakenFrom a ∷ []) line → IsLineOf s (tree s a) first
    → (LineFits change.Minus first line → ⊥) → Narrow (tree s t) → ⊥
wide_taken s t a rs line first h i leaves n =
    leaves (fits_line change.Minus s (tree s a) h.inner first line i h.has_line (narrow_next s t rs (rest.TakenFrom a) line h n).0)

pub finished : (s : Stored) (t : TermId) (line : Line) → IsTaken s t [] line → IsLineOf s (tree s t) line × Narrow (tree s t)
finished s t line h = (
  record {
    constant = h.has_line.constant ∙ h.whole.constant;
    atoms = λ id q. h.has_line.atoms id q ∙ h.whole.atoms (tree s id);
    stored = h.has_line.stored;
    has_atoms = h.whole.stored h.has_line.has_atoms;
  },
  h.whole.narrow h.narrow,
)

pub popped : (s : Stored) (t : TermId) (all rs : List Rest) (r was : Rest) (line : Line) → all ≡ rs ++ was ∷ [] → was ≡ r → IsTaken s t all line → IsTaken s t (rs ++ r ∷ []) line
popped s t all rs r was line e f h = subst (λ (x : Rest). IsTaken s t (rs ++ x ∷ []) line) f (subst (λ (x : List Rest). IsTaken s t x line) e h)
