-- A store that grows keeps its ids.
use Rattle.std.proofs.Common.{◌≡◌, refl, ◌∙◌}
use Rattle.sync_terms.specs.declared.nodes.TermId.{TermId}
use Rattle.sync_terms.specs.declared.nodes.FormId.{FormId}
use Rattle.sync_terms.specs.Stored.{Stored, Extends, IsTerm, IsForm, tree, formula}

pub kept_tree : (s t : Stored) (id : TermId) → Extends s t → IsTerm s id → tree t id ≡ tree s id
kept_tree s t id e h = (e.terms id h).1

pub kept_term : (s t : Stored) (id : TermId) → Extends s t → IsTerm s id → IsTerm t id
kept_term s t id e h = (e.terms id h).0

pub kept_formula : (s t : Stored) (id : FormId) → Extends s t → IsForm s id → formula t id ≡ formula s id
kept_formula s t id e h = (e.forms id h).1

pub kept_form : (s t : Stored) (id : FormId) → Extends s t → IsForm s id → IsForm t id
kept_form s t id e h = (e.forms id h).0

pub stays : (s : Stored) → Extends s s
stays s = record { terms = λ id h. (h, refl); forms = λ id h. (h, refl) }

pub along : (s t u : Stored) → Extends s t → Extends t u → Extends s u
along s t u e f = record {
  terms = λ id h. ((f.terms id (e.terms id h).0).0, (f.terms id (e.terms id h).0).1 ∙ (e.terms id h).1);
  forms = λ id h. ((f.forms id (e.forms id h).0).0, (f.forms id (e.forms id h).0).1 ∙ (e.forms id h).1);
}
