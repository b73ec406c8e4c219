-- What is written down stays while the store grows, and is no smaller than its parts.
use Rattle.std.proofs.Common.{◌≡◌, ◌≤◌, refl, ap, arith}
use Rattle.sync_terms.specs.Trees.{Tree, Add, Sub, Get, Has, Size, Sum, Formula, Not, tree_size, formula_size}
use Rattle.sync_terms.specs.Stored.{Stored, Extends}
use Rattle.sync_kernel_facts.specs.declared.drafts.Part.{Part}
use Rattle.sync_kernel_facts.specs.declared.drafts.Part.TheVariants as part
use Rattle.sync_kernel_facts.specs.declared.drafts.Value.{Value}
use Rattle.sync_kernel_facts.specs.declared.drafts.Value.TheVariants.{Only, Plus, Minus, PlusMinus}
use Rattle.sync_kernel_facts.specs.declared.drafts.Relation.{Relation}
use Rattle.sync_kernel_facts.specs.declared.drafts.Relation.TheVariants.{AtMost, Below, Equal}
use Rattle.sync_kernel_facts.specs.declared.drafts.Connective.{Connective}
use Rattle.sync_kernel_facts.specs.declared.drafts.Connective.TheVariants as connective
use Rattle.sync_kernel_facts.specs.declared.drafts.Draft.{Draft}
use Rattle.sync_kernel_facts.specs.declared.drafts.Draft as draft
use Rattle.sync_kernel_facts.specs.Drafts.{part_tree, IsPart, value_tree, IsValue, compared, joined, draft_formula, IsDraft}

both : {A B : Type 0} (F : A → A → B) {a b c d : A} → a ≡ c → b ≡ d → F a b ≡ F c d
both F p q = λ i. F (p i) (q i)

module _ {s t : Stored} (more : Extends s t) where
  pub part-stays : (a : Part) → IsPart s a → part_tree t a ≡ part_tree s a
  part-stays (part.Stored x) h = (more.terms x h).1
  part-stays (part.Number n) h = refl
  part-stays (part.Get m k) h = both Get (more.terms m h.0).1 (more.terms k h.1).1
  part-stays (part.Has m k) h = both Has (more.terms m h.0).1 (more.terms k h.1).1
  part-stays (part.Size m) h = ap Size (more.terms m h).1
  part-stays (part.Sum m) h = ap Sum (more.terms m h).1

  pub IsPart-stays : (a : Part) → IsPart s a → IsPart t a
  IsPart-stays (part.Stored x) h = (more.terms x h).0
  IsPart-stays (part.Number n) h = tt
  IsPart-stays (part.Get m k) h = ((more.terms m h.0).0, (more.terms k h.1).0)
  IsPart-stays (part.Has m k) h = ((more.terms m h.0).0, (more.terms k h.1).0)
  IsPart-stays (part.Size m) h = (more.terms m h).0
  IsPart-stays (part.Sum m) h = (more.terms m h).0

  pub value-stays : (a : Value) → IsValue s a → value_tree t a ≡ value_tree s a
  value-stays (Only a) h = part-stays a h
  value-stays (Plus a b) h = both Add (part-stays a h.0) (part-stays b h.1)
  value-stays (Minus a b) h = both Sub (part-stays a h.0) (part-stays b h.1)
  value-stays (PlusMinus a b c) h = both Sub (both Add (part-stays a h.0) (part-stays b h.1)) (part-stays c h.2)

  pub IsValue-stays : (a : Value) → IsValue s a → IsValue t a
  IsValue-stays (Only a) h = IsPart-stays a h
  IsValue-stays (Plus a b) h = (IsPart-stays a h.0, IsPart-stays b h.1)
  IsValue-stays (Minus a b) h = (IsPart-stays a h.0, IsPart-stays b h.1)
  IsValue-stays (PlusMinus a b c) h = (IsPart-stays a h.0, IsPart-stays b h.1, IsPart-stays c h.2)

  pub draft-stays : (d : Draft) → IsDraft s d → draft_formula t d ≡ draft_formula s d
  draft-stays (draft.Test r a b) h = both (compared r) (value-stays a h.0) (value-stays b h.1)
  draft-stays (draft.Not' p f) h = ap Not (draft-stays f h)
  draft-stays (draft.Join' c p f q g) h = both (joined c) (draft-stays f h.0) (draft-stays g h.1)

  pub IsDraft-stays : (d : Draft) → IsDraft s d → IsDraft t d
  IsDraft-stays (draft.Test r a b) h = (IsValue-stays a h.0, IsValue-stays b h.1)
  IsDraft-stays (draft.Not' p f) h = IsDraft-stays f h
  IsDraft-stays (draft.Join' c p f q g) h = (IsDraft-stays f h.0, IsDraft-stays g h.1)

-- ---- the parts of a comparison, and of two formulas that make one

pub left_compared : (r : Relation) (a b : Tree) → tree_size a ≤ formula_size (compared r a b)
unfolding formula_size
left_compared AtMost a b = omega arith
left_compared Below a b = omega arith
left_compared Equal a b = omega arith

pub right_compared : (r : Relation) (a b : Tree) → tree_size b ≤ formula_size (compared r a b)
unfolding formula_size
right_compared AtMost a b = omega arith
right_compared Below a b = omega arith
right_compared Equal a b = omega arith

pub left_joined : (c : Connective) (f g : Formula) → formula_size f ≤ formula_size (joined c f g)
unfolding formula_size
left_joined connective.And f g = omega arith
left_joined connective.Or f g = omega arith
left_joined connective.Implies f g = omega arith

pub right_joined : (c : Connective) (f g : Formula) → formula_size g ≤ formula_size (joined c f g)
unfolding formula_size
right_joined connective.And f g = omega arith
right_joined connective.Or f g = omega arith
right_joined connective.Implies f g = omega arith

pub within_not : (f : Formula) → formula_size f ≤ formula_size (Not f)
unfolding formula_size
within_not f = omega arith

pub left_less : (a b : Tree) → tree_size a ≤ tree_size (Sub a b)
unfolding tree_size
left_less a b = omega arith
