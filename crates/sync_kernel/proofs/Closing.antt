-- When a sum of lines is a contradiction, by its line.
use Rattle.std.proofs.Common.{◌≡◌, ◌≢◌, inl, inr, ℕ, ℤ, pos, Bool, true, false, ◌&&◌, ◌||◌, List, [], ◌∷◌, Some, refl, sym, ap, subst, ◌∙◌, arith}
use Rattle.std.specs.Prelude.{int_lt, ◌<ℤ◌}
use Rattle.std.specs.Ordering.{int_eq, nat_cmp}
use Rattle.std.specs.BTreeMap.{is_at}
use Rattle.std.specs.Map.{lookup}
use Rattle.std.specs.List.{list_all}
use Rattle.std.proofs.lemmas.Int.{ints}
use Rattle.std.proofs.lemmas.Bool.{cond-true, false_from_ne_true}
use Rattle.std.proofs.lemmas.Bool.Decides.{Decides-int_eq}
use Rattle.sync_base.proofs.Basics.{or_false}
use Rattle.sync_terms.specs.declared.nodes.TermId.{TermId}
use Rattle.sync_terms.specs.Trees.{Tree}
use Rattle.sync_terms.specs.Stored.{Stored, tree, IsTerm}
use Rattle.sync_linear.specs.Lines.{Line, Atoms, times, IsLine}
use Rattle.sync_linear.specs.Forms.{constant_of, coefficient_of, one_at}
use Rattle.sync_linear.specs.Stores.{IsLineOf}
use Rattle.sync_linear.proofs.Adding.{at_here, times_here}
use Rattle.sync_linear.proofs.Joins.{none_or_stored}
use Rattle.sync_kernel.specs.declared.rows.Used.{Used}
use Rattle.sync_kernel.specs.Rows.{no_atom}
use Rattle.sync_kernel.specs.Steps.{is_bound, one_apart, closes}
use Rattle.sync_kernel.proofs.Atoms.{no_atom_is, is_no_atom}

pub empty_is : (s : Stored) (sum : Tree) (l : Line) → IsLineOf s sum l → l.atoms ≡ [] → no_atom sum ≡ true
empty_is s sum l i e = is_no_atom sum (λ a. elim (none_or_stored s a sum i.has_atoms) [
  | inl z ↦ z
  | inr h ↦ subst (λ (x : Tree). coefficient_of x sum ≡ pos 0) h.2 (sym (i.atoms h.0 h.1) ∙ ap (λ (es : Atoms). times es h.0.0) e)
])

nonempty : (s : Stored) (sum : Tree) (l : Line) (e : ℕ × ℤ) (es : Atoms) → IsLine l → IsLineOf s sum l → l.atoms ≡ e ∷ es → no_atom sum ≡ true → ⊥
nonempty s sum l e es is i same none =
    let here : times l.atoms e.0 ≡ e.1 = ap (λ (x : Atoms). times x e.0) same ∙ times_here e.0 e.1 es in
    let found : lookup (is_at (nat_cmp e.0)) l.atoms ≡ Some e.1 = ap (λ (x : Atoms). lookup (is_at (nat_cmp e.0)) x) same ∙ cond-true (is_at (nat_cmp e.0) e.0) (Some e.1) (lookup (is_at (nat_cmp e.0)) es) (at_here e.0) in
    let ne : e.1 ≢ pos 0 = λ z. is.no_zero e.0 (found ∙ ap Some z) in
    let t : TermId = record { 0 = e.0 } in
    let st : IsTerm s t = i.stored e.0 (λ z. ne (sym here ∙ z)) in
    ne (sym here ∙ i.atoms t st ∙ no_atom_is sum none (one_at (tree s t)))

pub is_empty : (s : Stored) (sum : Tree) (l : Line) (es : Atoms) → IsLine l → IsLineOf s sum l → l.atoms ≡ es → no_atom sum ≡ true → l.atoms ≡ []
is_empty s sum l [] is i e none = e
is_empty s sum l (x ∷ xs) is i e none = absurd (nonempty s sum l x xs is i e none)

differ : true ≡ false → ⊥
differ h = cc

pub above : (c : ℤ) → int_lt (pos 0) c ≡ true → pos 0 <ℤ c
above c h = grind (arith, ints)

pub shown : (c : ℤ) → pos 0 <ℤ c → (int_lt (pos 0) c ≡ true) × (int_eq c (pos 0) ≡ false)
shown c h = (grind (arith, ints), false_from_ne_true (int_eq c (pos 0)) (λ e. let z : c ≡ pos 0 = (Decides-int_eq c (pos 0)).0 e in absurd (omega (arith, ints))))

and_or : (n b d x y : Bool) → n ≡ true → b ≡ true → d ≡ false → (n && ((b && x) || (d && y))) ≡ x
and_or true true false x y e f g = or_false x
and_or false b d x y e f g = absurd (cc)
and_or true false d x y e f g = absurd (cc)
and_or true true true x y e f g = absurd (cc)

or_and : (n b d x y : Bool) → n ≡ true → b ≡ false → d ≡ true → (n && ((b && x) || (d && y))) ≡ y
or_and true false true x y e f g = refl
or_and false b d x y e f g = absurd (cc)
or_and true true d x y e f g = absurd (cc)
or_and true false false x y e f g = absurd (cc)

neither : (n b d x y : Bool) → (n ≡ true → (b ≡ false) × (d ≡ false)) → (n && ((b && x) || (d && y))) ≡ false
neither false b d x y h = refl
neither true true d x y h = absurd (differ (h refl).0)
neither true false true x y h = absurd (differ (h refl).1)
neither true false false x y h = refl

pub closes_shown : (s : Stored) (sum : Tree) (used : List Used) (l : Line) (b : Bool) → IsLineOf s sum l → (l.atoms ≡ []) × (pos 0 <ℤ l.constant) → b ≡ list_all (λ (u : Used). is_bound u.kind) used → b ≡ closes used sum
closes_shown s sum used l b i h e =
    let c = shown (constant_of sum) (subst (λ (z : ℤ). pos 0 <ℤ z) i.constant h.1) in
    e ∙ sym (and_or (no_atom sum) (int_lt (pos 0) (constant_of sum)) (int_eq (constant_of sum) (pos 0)) (list_all (λ (u : Used). is_bound u.kind) used) (one_apart used) (empty_is s sum l i h.0) c.0 c.1)

pub closes_zero : (s : Stored) (sum : Tree) (used : List Used) (l : Line) (b : Bool) → IsLineOf s sum l → (l.atoms ≡ []) × (l.constant ≡ pos 0) → b ≡ one_apart used → b ≡ closes used sum
closes_zero s sum used l b i h e =
    let z : constant_of sum ≡ pos 0 = sym i.constant ∙ h.1 in
    e ∙ sym (or_and (no_atom sum) (int_lt (pos 0) (constant_of sum)) (int_eq (constant_of sum) (pos 0)) (list_all (λ (u : Used). is_bound u.kind) used) (one_apart used) (empty_is s sum l i h.0)
    (ap (int_lt (pos 0)) z) ((Decides-int_eq (constant_of sum) (pos 0)).1 z))

pub closes_not : (s : Stored) (sum : Tree) (used : List Used) (l : Line) → IsLine l → IsLineOf s sum l → ((l.atoms ≡ []) × (pos 0 <ℤ l.constant) → ⊥) → ((l.atoms ≡ []) × (l.constant ≡ pos 0) → ⊥) → false ≡ closes used sum
closes_not s sum used l is i f g =
    sym (neither (no_atom sum) (int_lt (pos 0) (constant_of sum)) (int_eq (constant_of sum) (pos 0)) (list_all (λ (u : Used). is_bound u.kind) used) (one_apart used)
    (λ none. (let empty = is_empty s sum l l.atoms is i refl none in (
      false_from_ne_true (int_lt (pos 0) (constant_of sum)) (λ e. f (empty, subst (λ (z : ℤ). pos 0 <ℤ z) (sym i.constant) (above (constant_of sum) e))),
      false_from_ne_true (int_eq (constant_of sum) (pos 0)) (λ e. g (empty, i.constant ∙ (Decides-int_eq (constant_of sum) (pos 0)).0 e)),
    ))))
