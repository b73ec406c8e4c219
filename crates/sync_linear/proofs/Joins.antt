-- Lines of terms that change one another: the line of the joined term, and when it fits.
use Rattle.std.proofs.Common.{◌≡◌, ◌≢◌, ◌⊎◌, inl, inr, ℕ, ◌<◌, ℤ, pos, ◌+ℤ◌, ◌-ℤ◌, ◌*ℤ◌, length, refl, sym, ap, subst, ◌∙◌, arith}
use Rattle.std.proofs.lemmas.Bool.{cases_lt}
use Rattle.sync_terms.specs.declared.nodes.TermId.{TermId}
use Rattle.sync_terms.specs.Trees.{Tree, Lit, Name, Add, Sub, Scale, Get, Has, Size, Sum, Nil, Put, Del, Bump}
use Rattle.sync_terms.specs.Stored.{Stored, tree}
use Rattle.sync_linear.specs.declared.changes.Change.{Change}
use Rattle.sync_linear.specs.declared.changes.Change.TheVariants.{Plus, Minus, Times}
use Rattle.sync_linear.specs.Changes.{changed, ChangeFits}
use Rattle.sync_linear.specs.Lines.{Line, times, IsChanged, LineFits}
use Rattle.sync_linear.specs.Forms.{constant_of, weighed, one_at, coefficient_of}
use Rattle.sync_linear.specs.Stores.{HasId, HasAtoms, IsLineOf, joined, JoinFits}
use Rattle.sync_linear.proofs.Ring.{times_zero}
use Rattle.sync_linear.proofs.Adding.{changed_by_none}
use Rattle.sync_linear.proofs.Whole.{none_fits, zero_fits, cases_int}
use Rattle.sync_linear.proofs.Trees.{cases_tree, none_there}

-- an atom that a term has is stored, where the term's atoms are
single : (s : Stored) (x t : Tree) → HasId s t → (one_at x t ≡ pos 0) ⊎ HasId s x
single s x t h = elim (cases_tree x t) [ inl e ↦ inr (subst (HasId s) (sym e) h) | inr ne ↦ inl (none_there x t ne) ]

two : (s : Stored) (x : Tree) (f : ℤ → ℤ → ℤ) (m n : ℤ) → f (pos 0) (pos 0) ≡ pos 0 → (m ≡ pos 0) ⊎ HasId s x → (n ≡ pos 0) ⊎ HasId s x → (f m n ≡ pos 0) ⊎ HasId s x
two s x f m n e (inr h) b = inr h
two s x f m n e (inl a) (inr h) = inr h
two s x f m n e (inl a) (inl b) = inl (ap (λ (y : ℤ). f y n) a ∙ ap (f (pos 0)) b ∙ e)

pub none_or_stored : (s : Stored) (x t : Tree) → HasAtoms s t → (coefficient_of x t ≡ pos 0) ⊎ HasId s x
none_or_stored s x (Add a b) h = two s x (λ (m n : ℤ). m +ℤ n) (coefficient_of x a) (coefficient_of x b) refl (none_or_stored s x a h.0) (none_or_stored s x b h.1)
none_or_stored s x (Sub a b) h = two s x (λ (m n : ℤ). m -ℤ n) (coefficient_of x a) (coefficient_of x b) refl (none_or_stored s x a h.0) (none_or_stored s x b h.1)
none_or_stored s x (Scale n a) h = elim (none_or_stored s x a h) [ inl e ↦ inl (ap (λ (y : ℤ). n *ℤ y) e ∙ times_zero n) | inr i ↦ inr i ]
none_or_stored s x (Name y) h = single s x (Name y) h
none_or_stored s x (Get m k) h = single s x (Get m k) h
none_or_stored s x (Has m k) h = single s x (Has m k) h
none_or_stored s x (Size m) h = single s x (Size m) h
none_or_stored s x (Sum m) h = single s x (Sum m) h
none_or_stored s x (Lit n) h = inl refl
none_or_stored s x Nil h = inl refl
none_or_stored s x (Put m k v) h = inl refl
none_or_stored s x (Del m k) h = inl refl
none_or_stored s x (Bump m k n) h = inl refl

-- each number of times changes as the terms' coefficients do
pub joined_constant : (how : Change) (a b : Tree) → constant_of (joined how a b) ≡ changed how (constant_of a) (constant_of b)
joined_constant Plus a b = refl
joined_constant Minus a b = refl
joined_constant (Times c) a b = refl

pub joined_weighed : (how : Change) (w : Tree → ℤ) (a b : Tree) → weighed w (joined how a b) ≡ changed how (weighed w a) (weighed w b)
joined_weighed Plus w a b = refl
joined_weighed Minus w a b = refl
joined_weighed (Times c) w a b = refl

joined_atoms : (how : Change) (s : Stored) (a b : Tree) → HasAtoms s a → HasAtoms s b → HasAtoms s (joined how a b)
joined_atoms Plus s a b h i = (h, i)
joined_atoms Minus s a b h i = (h, i)
joined_atoms (Times c) s a b h i = (h, i)

changed_same : (how : Change) (x y x' y' : ℤ) → x ≡ x' → y ≡ y' → changed how x y ≡ changed how x' y'
changed_same how x y x' y' e f = ap (λ (z : ℤ). changed how z y) e ∙ ap (changed how x') f

stored_both : (how : Change) (x y : ℤ) (P : Type 0) → (x ≢ pos 0 → P) → (y ≢ pos 0 → P) → changed how x y ≢ pos 0 → P
stored_both how x y P f g ne = elim (cases_int x (pos 0)) [
  | inr nx ↦ f nx
  | inl ex ↦ elim (cases_int y (pos 0)) [
    | inr ny ↦ g ny
    | inl ey ↦ absurd (ne (changed_same how x y (pos 0) (pos 0) ex ey ∙ changed_by_none how (pos 0)))
  ]
]

-- the line of the joined term
pub join_line : (how : Change) (s : Stored) (a b : Tree) (la lb l : Line) → IsLineOf s a la → IsLineOf s b lb → IsChanged how la lb l → IsLineOf s (joined how a b) l
join_line how s a b la lb l i j c = record {
  constant = c.constant ∙ changed_same how la.constant lb.constant (constant_of a) (constant_of b) i.constant j.constant ∙ sym (joined_constant how a b);
  atoms = λ id t. c.atoms id.0 ∙ changed_same how (times la.atoms id.0) (times lb.atoms id.0) (coefficient_of (tree s id) a) (coefficient_of (tree s id) b) (i.atoms id t) (j.atoms id t) ∙ sym (joined_weighed how (one_at (tree s id)) a b);
  stored = λ id ne. stored_both how (times la.atoms id) (times lb.atoms id) (id < length s.nodes) (i.stored id) (j.stored id) (λ z. ne (c.atoms id ∙ z));
  has_atoms = joined_atoms how s a b i.has_atoms j.has_atoms;
}

-- what a whole line says of each tree, stored or not
at_tree : (how : Change) (s : Stored) (a b : Tree) (la lb : Line) → IsLineOf s a la → IsLineOf s b lb → LineFits how la lb → (x : Tree) → ChangeFits how (coefficient_of x a) (coefficient_of x b)
at_tree how s a b la lb i j f x =
    let P : ℤ → ℤ → Type 0 = ChangeFits how in
    let here : HasId s x → P (coefficient_of x a) (coefficient_of x b) =
    λ h. subst (λ (t : Tree). ChangeFits how (coefficient_of t a) (coefficient_of t b)) h.2
    (subst (λ (y : ℤ). ChangeFits how (coefficient_of (tree s h.0) a) y) (j.atoms h.0 h.1)
    (subst (λ (y : ℤ). ChangeFits how y (times lb.atoms h.0.0)) (i.atoms h.0 h.1) (f.atoms h.0.0))) in
    elim (none_or_stored s x a i.has_atoms) [
      | inr h ↦ here h
      | inl ea ↦ elim (none_or_stored s x b j.has_atoms) [
        | inr h ↦ here h
        | inl eb ↦ subst (λ (y : ℤ). ChangeFits how y (coefficient_of x b)) (sym ea) (subst (λ (y : ℤ). ChangeFits how (pos 0) y) (sym eb) (none_fits how (pos 0) zero_fits))
      ]
    ]

at_constant : (how : Change) (s : Stored) (a b : Tree) (la lb : Line) → IsLineOf s a la → IsLineOf s b lb → LineFits how la lb → ChangeFits how (constant_of a) (constant_of b)
at_constant how s a b la lb i j f =
    subst (λ (y : ℤ). ChangeFits how (constant_of a) y) j.constant (subst (λ (y : ℤ). ChangeFits how y lb.constant) i.constant f.constant)

fits_join : (how : Change) (a b : Tree) → ChangeFits how (constant_of a) (constant_of b) → ((x : Tree) → ChangeFits how (coefficient_of x a) (coefficient_of x b)) → JoinFits how a b
fits_join Plus a b c f = record { constant = c; atoms = f }
fits_join Minus a b c f = record { constant = c; atoms = f }
fits_join (Times n) a b c f = (record { constant = c.0; atoms = λ x. (f x).0 }, record { constant = c.1; atoms = λ x. (f x).1 })

pub join_fits : (how : Change) (s : Stored) (a b : Tree) (la lb : Line) → IsLineOf s a la → IsLineOf s b lb → LineFits how la lb → JoinFits how a b
join_fits how s a b la lb i j f = fits_join how a b (at_constant how s a b la lb i j f) (at_tree how s a b la lb i j f)

-- and back
join_constant : (how : Change) (a b : Tree) → JoinFits how a b → ChangeFits how (constant_of a) (constant_of b)
join_constant Plus a b f = f.constant
join_constant Minus a b f = f.constant
join_constant (Times c) a b f = (f.0.constant, f.1.constant)

join_atoms : (how : Change) (a b : Tree) → JoinFits how a b → (x : Tree) → ChangeFits how (coefficient_of x a) (coefficient_of x b)
join_atoms Plus a b f x = f.atoms x
join_atoms Minus a b f x = f.atoms x
join_atoms (Times c) a b f x = (f.0.atoms x, f.1.atoms x)

-- a number that is no id of the store stands in no line
not_stored : (s : Stored) (t : Tree) (l : Line) → IsLineOf s t l → (id : ℕ) → (id < length s.nodes → ⊥) → times l.atoms id ≡ pos 0
not_stored s t l i id past = elim (cases_int (times l.atoms id) (pos 0)) [ inl e ↦ e | inr ne ↦ absurd (past (i.stored id ne)) ]

pub fits_line : (how : Change) (s : Stored) (a b : Tree) (la lb : Line) → IsLineOf s a la → IsLineOf s b lb → JoinFits how a b → LineFits how la lb
fits_line how s a b la lb i j f = record {
  constant = subst (λ (y : ℤ). ChangeFits how la.constant y) (sym j.constant) (subst (λ (y : ℤ). ChangeFits how y (constant_of b)) (sym i.constant) (join_constant how a b f));
  atoms = λ id. elim (cases_lt id (length s.nodes)) [
    | inl h ↦ (let t : TermId = record { 0 = id } in
        subst (λ (y : ℤ). ChangeFits how (times la.atoms id) y) (sym (j.atoms t h)) (subst (λ (y : ℤ). ChangeFits how y (coefficient_of (tree s t) b)) (sym (i.atoms t h)) (join_atoms how a b f (tree s t))))
    | inr past ↦ subst (λ (y : ℤ). ChangeFits how (times la.atoms id) y) (sym (not_stored s b lb j id (λ h. omega arith)))
        (subst (λ (y : ℤ). ChangeFits how y (pos 0)) (sym (not_stored s a la i id (λ h. omega arith))) (none_fits how (pos 0) zero_fits))
  ];
}
