-- A line stays that of its term while the store grows.
use Rattle.std.proofs.Common.{◌≡◌, ◌⊎◌, inl, inr, ℕ, ◌<◌, ◌≤◌, ℤ, pos, Option, Some, None, length, sym, ap, subst, ◌∙◌, arith}
use Rattle.std.specs.Ordering.{int_eq}
use Rattle.std.proofs.lemmas.Bool.{cases_Bool, both_ways}
use Rattle.std.proofs.lemmas.Bool.Decides.{Decides-int_eq}
use Rattle.sync_terms.specs.declared.nodes.TermId.{TermId}
use Rattle.sync_terms.specs.Trees.{Tree, Lit, Name, Add, Sub, Scale, Get, Has, Size, Sum, Nil, Put, Del, Bump}
use Rattle.sync_terms.specs.Stored.{Stored, tree, IsTerm, Extends, IsShared}
use Rattle.sync_terms.proofs.Extending.{Extends-trans}
use Rattle.sync_linear.specs.Lines.{Line, times}
use Rattle.sync_linear.specs.Forms.{coefficient_of}
use Rattle.sync_linear.specs.Stores.{HasId, HasAtoms, IsLineOf}
use Rattle.sync_linear.proofs.Joins.{none_or_stored}
use Rattle.sync_kernel_facts.specs.declared.literals.Literal.{Literal}
use Rattle.sync_kernel.specs.declared.lines.Lines.{Lines}
use Rattle.sync_kernel_facts.specs.Literals.{literal_form}
use Rattle.sync_kernel.specs.Rows.{Row, row_of}
use Rattle.sync_kernel.specs.SumLines.{IsRowLine, WasLine, WereLines}
use Rattle.sync_kernel.proofs.Fitting.{literal-more}

cases_below : (n m : ℕ) → (n < m) ⊎ (m ≤ n)
cases_below n m = grind arith

cases_zero : (x : ℤ) → (x ≡ pos 0) ⊎ (x ≡ pos 0 → ⊥)
cases_zero x = elim (cases_Bool (int_eq x (pos 0))) [
  | inl e ↦ inl ((Decides-int_eq x (pos 0)).0 e)
  | inr e ↦ inr (λ same. both_ways (int_eq x (pos 0)) e ((Decides-int_eq x (pos 0)).1 same))
]

module _ (s t : Stored) (more : Extends s t) where
  id-more : (a : Tree) → HasId s a → HasId t a
  id-more a (id, stored, is) = let m = more.terms id stored in (id, m.0, m.1 ∙ is)

  atoms-more : (a : Tree) → HasAtoms s a → HasAtoms t a
  atoms-more (Lit n) h = tt
  atoms-more (Name x) h = id-more (Name x) h
  atoms-more (Add a b) h = (atoms-more a h.0, atoms-more b h.1)
  atoms-more (Sub a b) h = (atoms-more a h.0, atoms-more b h.1)
  atoms-more (Scale n a) h = atoms-more a h
  atoms-more (Get m k) h = id-more (Get m k) h
  atoms-more (Has m k) h = id-more (Has m k) h
  atoms-more (Size m) h = id-more (Size m) h
  atoms-more (Sum m) h = id-more (Sum m) h
  atoms-more Nil h = tt
  atoms-more (Put m k v) h = tt
  atoms-more (Del m k) h = tt
  atoms-more (Bump m k n) h = tt

  -- no id of the new store alone has a tree that the old store has
  new_tree : (shared : IsShared t) (id : TermId) → IsTerm t id → length s.nodes ≤ id.0 → HasId s (tree t id) → ⊥
  new_tree shared id stored new (j, old, is) =
      let m = more.terms j old in
      let same = ap (λ (i : TermId). i.0) (shared.terms j id m.0 stored (m.1 ∙ is)) in
      let lt : j.0 < length s.nodes = old in
      let below : id.0 < length s.nodes = subst (λ (n : ℕ). n < length s.nodes) same lt in
      omega (arith, below, new)

  module _ (shared : IsShared t) (a : Tree) (x : Line) (h : IsLineOf s a x) where
    new_atom : (id : TermId) → IsTerm t id → length s.nodes ≤ id.0 → times x.atoms id.0 ≡ coefficient_of (tree t id) a
    new_atom id stored new =
        let none : times x.atoms id.0 ≡ pos 0 = elim (cases_zero (times x.atoms id.0)) [
          | inl e ↦ e
          | inr ne ↦ absurd (let below : id.0 < length s.nodes = h.stored id.0 ne in omega (arith, below, new))
        ] in
        let gone : coefficient_of (tree t id) a ≡ pos 0 = elim (none_or_stored s (tree t id) a h.has_atoms) [
          | inl e ↦ e
          | inr has ↦ absurd (new_tree shared id stored new has)
        ] in
        none ∙ sym gone

    each_atom : (id : TermId) → IsTerm t id → times x.atoms id.0 ≡ coefficient_of (tree t id) a
    each_atom id stored = elim (cases_below id.0 (length s.nodes)) [
      | inl old ↦ h.atoms id old ∙ ap (λ (y : Tree). coefficient_of y a) (sym (more.terms id old).1)
      | inr new ↦ new_atom id stored new
    ]

    longer : (id : ℕ) → id < length s.nodes → id < length t.nodes
    longer id lt = (more.terms (record { 0 = id }) lt).0

    pub line-more : IsLineOf t a x
    line-more = record {
      constant = h.constant;
      atoms = each_atom;
      stored = λ id ne. longer id (h.stored id ne);
      has_atoms = atoms-more a h.has_atoms;
    }

  row-more : (shared : IsShared t) (o : Option Row) (x : Line) → IsRowLine s o x → IsRowLine t o x
  row-more shared None x h = h
  row-more shared (Some r) x h = (line-more shared r.line x h.0, h.1)

-- what was the line of a literal is its line
pub line_still : (s : Stored) (l : Literal) (x : Line) → IsShared s → WasLine s l x → IsRowLine s (row_of (literal_form s l)) x
line_still s l x shared h =
    subst (λ (o : Option Row). IsRowLine s o x) (ap row_of (sym (literal-more h.first s l h.grew h.stored)))
    (row-more h.first s h.grew shared (row_of (literal_form h.first l)) x h.line)

-- and the lines that were are so over a store that grows
pub lines-more : (s t : Stored) (lines : Lines) → Extends s t → WereLines s lines → WereLines t lines
lines-more s t lines more h = λ l x e. let w = h l x e in record { first = w.first; grew = Extends-trans w.grew more; stored = w.stored; line = w.line }
