-- The lines of atoms.
use Rattle.std.proofs.Common.{◌≡◌, ◌≢◌, ◌⊎◌, inl, inr, ℕ, ◌<◌, pos, [], ◌∷◌, length, refl, sym, ap, subst, ◌∙◌}
use Rattle.std.proofs.lemmas.Bool.{cases_eq}
use Rattle.sync_terms.specs.declared.nodes.Sym.{Sym}
use Rattle.sync_terms.specs.declared.nodes.TermId.{TermId}
use Rattle.sync_terms.specs.declared.nodes.Node.{Node}
use Rattle.sync_terms.specs.declared.nodes.Node.TheVariants as node
use Rattle.sync_terms.specs.Trees.{Tree}
use Rattle.sync_terms.specs.Stored.{Stored, tree, shape, IsTerm, IsShared}
use Rattle.sync_linear.specs.Lines.{Line, times}
use Rattle.sync_linear.specs.Forms.{one_at, Narrow}
use Rattle.sync_linear.specs.Stores.{IsLineOf}
use Rattle.sync_linear.proofs.Adding.{times_here, times_apart}
use Rattle.sync_linear.proofs.Trees.{one_here, none_there}

abbrev one_atom : ℕ → Line
one_atom id = record { constant = pos 0; atoms = (id, pos 1) ∷ [] }

-- a node that counts as an atom
abbrev IsAtom : Node → Type 0
IsAtom (node.Name x) = Unit {0}
IsAtom (node.Get m k) = Unit {0}
IsAtom (node.Has m k) = Unit {0}
IsAtom (node.Size m) = Unit {0}
IsAtom (node.Sum m) = Unit {0}
IsAtom _ = ⊥

abbrev IsOneOf : Node → Type 0
IsOneOf n = ((x : Sym) × (n ≡ node.Name x)) ⊎ (((m : TermId) × (k : TermId) × (n ≡ node.Get m k)) ⊎ (((m : TermId) × (k : TermId) × (n ≡ node.Has m k)) ⊎ (((m : TermId) × (n ≡ node.Size m)) ⊎ ((m : TermId) × (n ≡ node.Sum m)))))

is_atom : (n : Node) → IsOneOf n → IsAtom n
is_atom n (inl h) = subst IsAtom (sym h.1) tt
is_atom n (inr (inl h)) = subst IsAtom (sym h.2) tt
is_atom n (inr (inr (inl h))) = subst IsAtom (sym h.2) tt
is_atom n (inr (inr (inr (inl h)))) = subst IsAtom (sym h.1) tt
is_atom n (inr (inr (inr (inr h)))) = subst IsAtom (sym h.1) tt

atom_times : (s : Stored) (t : TermId) (x : Tree) → IsTerm s t → IsShared s → x ≡ tree s t → (id : TermId) → IsTerm s id → times (one_atom t.0).atoms id.0 ≡ one_at (tree s id) x
atom_times s t x p shared e id q = elim (cases_eq id.0 t.0) [
  | inl same ↦ (let i : id ≡ t = ap (λ (n : ℕ). record { 0 = n }) same in
      subst (λ (n : ℕ). times (one_atom n).atoms id.0 ≡ pos 1) same (times_here id.0 (pos 1) []) ∙ sym (one_here (tree s id)) ∙ ap (one_at (tree s id)) (ap (tree s) i ∙ sym e))
  | inr ne ↦ times_apart id.0 t.0 (pos 1) [] ne ∙ sym (none_there (tree s id) x (λ same. ne (ap (λ (i : TermId). i.0) (shared.terms id t q p (same ∙ e)))))
]

atom_stored : (s : Stored) (t : TermId) → IsTerm s t → (id : ℕ) → times (one_atom t.0).atoms id ≢ pos 0 → id < length s.nodes
atom_stored s t p id ne = elim (cases_eq id t.0) [ inl e ↦ subst (λ (n : ℕ). n < length s.nodes) (sym e) p | inr apart ↦ absurd (ne (times_apart id t.0 (pos 1) [] apart)) ]

line_of : (s : Stored) (t : TermId) (n : Node) → IsTerm s t → IsShared s → IsAtom n → shape s n ≡ tree s t → IsLineOf s (tree s t) (one_atom t.0) × Narrow (tree s t)
unfolding shape
line_of s t (node.Name x) p shared a e =
    subst (λ (y : Tree). IsLineOf s y (one_atom t.0) × Narrow y) e
    (record { constant = refl; atoms = atom_times s t _ p shared e; stored = atom_stored s t p; has_atoms = (t, p, sym e) }, tt)
line_of s t (node.Get m k) p shared a e =
    subst (λ (y : Tree). IsLineOf s y (one_atom t.0) × Narrow y) e
    (record { constant = refl; atoms = atom_times s t _ p shared e; stored = atom_stored s t p; has_atoms = (t, p, sym e) }, tt)
line_of s t (node.Has m k) p shared a e =
    subst (λ (y : Tree). IsLineOf s y (one_atom t.0) × Narrow y) e
    (record { constant = refl; atoms = atom_times s t _ p shared e; stored = atom_stored s t p; has_atoms = (t, p, sym e) }, tt)
line_of s t (node.Size m) p shared a e =
    subst (λ (y : Tree). IsLineOf s y (one_atom t.0) × Narrow y) e
    (record { constant = refl; atoms = atom_times s t _ p shared e; stored = atom_stored s t p; has_atoms = (t, p, sym e) }, tt)
line_of s t (node.Sum m) p shared a e =
    subst (λ (y : Tree). IsLineOf s y (one_atom t.0) × Narrow y) e
    (record { constant = refl; atoms = atom_times s t _ p shared e; stored = atom_stored s t p; has_atoms = (t, p, sym e) }, tt)
line_of s t _ p shared a e = absurd a

pub atom_line : (s : Stored) (t : TermId) (n : Node) → IsTerm s t → IsShared s → IsOneOf n → shape s n ≡ tree s t → IsLineOf s (tree s t) (one_atom t.0) × Narrow (tree s t)
atom_line s t n p shared h e = line_of s t n p shared (is_atom n h) e
