-- Numbers and formulas over terms of a store, before they are built.
use Rattle.std.specs.Prelude.{ℕ, ◌+◌}
use Rattle.sync_terms.specs.Trees.{Tree, Lit, Add, Sub, Get, Has, Size, Sum, Formula, Le, Lt, Eq, Not, And, Or, Imp}
use Rattle.sync_terms.specs.Stored.{Stored, tree, IsTerm}
use Rattle.sync_kernel_facts.specs.declared.drafts.Part.{Part}
use Rattle.sync_kernel_facts.specs.declared.drafts.Part.TheVariants as part
use Rattle.sync_kernel_facts.specs.declared.drafts.Value.{Value}
use Rattle.sync_kernel_facts.specs.declared.drafts.Value.TheVariants.{Only, Plus, Minus, PlusMinus}
use Rattle.sync_kernel_facts.specs.declared.drafts.Relation.{Relation}
use Rattle.sync_kernel_facts.specs.declared.drafts.Relation.TheVariants.{AtMost, Below, Equal}
use Rattle.sync_kernel_facts.specs.declared.drafts.Connective.{Connective}
use Rattle.sync_kernel_facts.specs.declared.drafts.Connective.TheVariants as connective
use Rattle.sync_kernel_facts.specs.declared.drafts.Draft.{Draft}
use Rattle.sync_kernel_facts.specs.declared.drafts.Draft as draft

-- the number that a part is
abbrev pub part_tree : Stored → Part → Tree
part_tree s (part.Stored t) = tree s t
part_tree s (part.Number n) = Lit n
part_tree s (part.Get m k) = Get (tree s m) (tree s k)
part_tree s (part.Has m k) = Has (tree s m) (tree s k)
part_tree s (part.Size m) = Size (tree s m)
part_tree s (part.Sum m) = Sum (tree s m)

-- its terms are of the store
abbrev pub IsPart : Stored → Part → Type 0
IsPart s (part.Stored t) = IsTerm s t
IsPart s (part.Number n) = Unit {0}
IsPart s (part.Get m k) = IsTerm s m × IsTerm s k
IsPart s (part.Has m k) = IsTerm s m × IsTerm s k
IsPart s (part.Size m) = IsTerm s m
IsPart s (part.Sum m) = IsTerm s m

-- the number that is written down
abbrev pub value_tree : Stored → Value → Tree
value_tree s (Only a) = part_tree s a
value_tree s (Plus a b) = Add (part_tree s a) (part_tree s b)
value_tree s (Minus a b) = Sub (part_tree s a) (part_tree s b)
value_tree s (PlusMinus a b c) = Sub (Add (part_tree s a) (part_tree s b)) (part_tree s c)

abbrev pub IsValue : Stored → Value → Type 0
IsValue s (Only a) = IsPart s a
IsValue s (Plus a b) = IsPart s a × IsPart s b
IsValue s (Minus a b) = IsPart s a × IsPart s b
IsValue s (PlusMinus a b c) = IsPart s a × IsPart s b × IsPart s c

-- the formula of a relation, and of a connective
abbrev pub compared : Relation → Tree → Tree → Formula
compared AtMost a b = Le a b
compared Below a b = Lt a b
compared Equal a b = Eq a b

abbrev pub joined : Connective → Formula → Formula → Formula
joined connective.And f g = And f g
joined connective.Or f g = Or f g
joined connective.Implies f g = Imp f g

-- the formula that is written down
abbrev pub draft_formula : Stored → Draft → Formula
draft_formula s (draft.Test r a b) = compared r (value_tree s a) (value_tree s b)
draft_formula s (draft.Not' p f) = Not (draft_formula s f)
draft_formula s (draft.Join' c p f q g) = joined c (draft_formula s f) (draft_formula s g)

abbrev pub IsDraft : Stored → Draft → Type 0
IsDraft s (draft.Test r a b) = IsValue s a × IsValue s b
IsDraft s (draft.Not' p f) = IsDraft s f
IsDraft s (draft.Join' c p f q g) = IsDraft s f × IsDraft s g

-- how many connectives it has, a negation as one
abbrev pub connectives : Draft → ℕ
connectives (draft.Test r a b) = 0
connectives (draft.Not' p f) = connectives f + 1
connectives (draft.Join' c p f q g) = connectives f + connectives g + 1
