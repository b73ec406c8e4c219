-- That stores which only grow keep what their ids stand for.
use Rattle.std.proofs.Common.{◌≡◌, refl, ◌∙◌}
use Rattle.sync_terms.specs.declared.nodes.TermId.{TermId}
use Rattle.sync_terms.specs.declared.nodes.FormId.{FormId}
use Rattle.sync_terms.specs.Stored.{Stored, tree, formula, IsTerm, IsForm, Extends}

pub Extends-refl : (s : Stored) → Extends s s
Extends-refl s = record { terms = λ id h. (h, refl); forms = λ id h. (h, refl) }

pub Extends-trans : {r s t : Stored} → Extends r s → Extends s t → Extends r t
Extends-trans a b = record {
  terms = λ id h. let i = a.terms id h in let j = b.terms id i.0 in (j.0, j.1 ∙ i.1);
  forms = λ id h. let i = a.forms id h in let j = b.forms id i.0 in (j.0, j.1 ∙ i.1);
}

-- an id keeps its tree
pub tree-more : {s t : Stored} → Extends s t → (id : TermId) → IsTerm s id → tree t id ≡ tree s id
tree-more more id h = (more.terms id h).1

pub formula-more : {s t : Stored} → Extends s t → (id : FormId) → IsForm s id → formula t id ≡ formula s id
formula-more more id h = (more.forms id h).1

-- and stays an id of the store
pub IsTerm-more : {s t : Stored} → Extends s t → (id : TermId) → IsTerm s id → IsTerm t id
IsTerm-more more id h = (more.terms id h).0

pub IsForm-more : {s t : Stored} → Extends s t → (id : FormId) → IsForm s id → IsForm t id
IsForm-more more id h = (more.forms id h).0

-- what a caller of several calls needs of the earlier ids
pub ruleset growing = (IsTerm-more, IsForm-more)
