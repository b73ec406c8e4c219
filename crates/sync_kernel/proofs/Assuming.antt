-- Hypotheses that are ready: over a store that grows, with one more, and behind a proof.
use Rattle.std.proofs.Common.{◌≡◌, ℕ, ◌+◌, Bool, false, List, [], ◌∷◌, ◌++◌, map, length, take, refl, sym, ap, subst, ◌∙◌}
use Rattle.std.specs.Prelude.{not, nat_lt}
use Rattle.std.proofs.lemmas.List.{length-map, map_push, take-map}
use Rattle.sync_terms.specs.declared.nodes.Sym.{Sym}
use Rattle.sync_terms.specs.declared.nodes.FormId.{FormId}
use Rattle.sync_terms.specs.declared.scripts.HypName.TheVariants.{Denied}
use Rattle.sync_terms.specs.Trees.{most_nodes}
use Rattle.sync_terms.specs.Trees.{neg}
use Rattle.sync_terms.specs.Stored.{Stored, Extends, formula}
use Rattle.sync_kernel_facts.specs.declared.branches.Said.{Said}
use Rattle.sync_kernel.specs.declared.hypotheses.Hypotheses.{Hypotheses}
use Rattle.sync_kernel_facts.specs.declared.sequents.Hyp.{Hyp}
use Rattle.sync_terms.proofs.Extending.{Extends-refl}
use Rattle.sync_kernel_facts.specs.Branches.{said_fact, facts_in, IsSaid, AreSaid, said_size, Begins}
use Rattle.sync_kernel_facts.specs.Facts.{Fact, fact_of, denial, facts_size}
use Rattle.sync_kernel.specs.Hypotheses.{AreReady, known_in}
use Rattle.sync_kernel_facts.specs.Literals.{literal_form}
use Rattle.sync_kernel.specs.Notes.{AreNotes}
use Rattle.sync_kernel.proofs.Adding.{start_fact, started_facts}
use Rattle.sync_kernel.proofs.Checking.{begins_before}
use Rattle.sync_kernel.proofs.Fitting.{facts-more, AreSaid-more, AreSaid-push, AreSaid-take, size-in, Begins-refl, Begins-push}
use Rattle.sync_kernel.proofs.Noting.{notes_grow}

-- ---- over a store that grows

pub AreReady-more : (s t : Stored) (h : Hypotheses) → Extends s t → AreReady s h → AreReady t h
AreReady-more s t h e r = record {
  said = AreSaid-more s t h.branch e r.said;
  notes = notes_grow s t h.branch h.branch h.notes e r.said (Begins-refl h.branch) r.notes;
}

pub known_in-more : (s t : Stored) (h : Hypotheses) → Extends s t → AreReady s h → known_in t h ≡ known_in s h
unfolding known_in
known_in-more s t h e r = facts-more s t h.branch e r.said

-- ---- none, and one more

pub none_ready : (s : Stored) (h : Hypotheses) → h.branch ≡ [] → AreNotes s (facts_in s h.branch) h.notes → AreReady s h
none_ready s h is notes = record { said = subst (AreSaid s) (sym is) tt; notes = notes }

pub none_known : (s : Stored) (h : Hypotheses) → h.branch ≡ [] → known_in s h ≡ []
unfolding known_in
none_known s h is = ap (facts_in s) is

pub more_ready : (s : Stored) (old new : Hypotheses) (x : Said) → new.branch ≡ old.branch ++ x ∷ [] → new.notes ≡ old.notes → IsSaid s x → AreReady s old → AreReady s new
more_ready s old new x is same said r = record {
  said = subst (AreSaid s) (sym is) (AreSaid-push s old.branch x r.said said);
  notes = subst (AreNotes s (facts_in s new.branch)) (sym same) (notes_grow s s old.branch new.branch old.notes (Extends-refl s) r.said
      (subst (Begins old.branch) (sym is) (Begins-push old.branch old.branch x (Begins-refl old.branch))) r.notes);
}

pub hyp_fact : (s : Stored) (x : Said) (h : Hyp) → x.name ≡ h.name → x.params ≡ h.params → x.says ≡ record { form = h.form; negated = false } → said_fact s x ≡ fact_of s h
hyp_fact s x h name params says = λ i. record { name = name i; params = map (λ (p : Sym). p.0) (params i); form = literal_form s (says i) }

pub more_known : (s : Stored) (old new : Hypotheses) (x : Said) (f : Fact) → new.branch ≡ old.branch ++ x ∷ [] → said_fact s x ≡ f → known_in s new ≡ known_in s old ++ f ∷ []
unfolding known_in
more_known s old new x f is says = ap (facts_in s) is ∙ map_push (said_fact s) old.branch x ∙ ap (λ (g : Fact). facts_in s old.branch ++ g ∷ []) says

pub fit_known : (s : Stored) (h : Hypotheses) (n : ℕ) (b : Bool) → AreReady s h → b ≡ not (nat_lt most_nodes (said_size h.branch + n)) → b ≡ not (nat_lt most_nodes (facts_size (known_in s h) + n))
unfolding known_in
fit_known s h n b r is = is ∙ ap (λ (m : ℕ). not (nat_lt most_nodes (m + n))) (size-in s h.branch r.said)

-- ---- a proof: the denied claim goes on the branch, and behind its script the branch is cut back

pub begun : (s : Stored) (h : Hypotheses) (new : List Said) (x : Said) (claim : FormId) → new ≡ h.branch ++ x ∷ [] → x.name ≡ Denied → x.params ≡ [] → literal_form s x.says ≡ neg (formula s claim)
    → facts_in s new ≡ known_in s h ++ denial (formula s claim) ∷ []
unfolding known_in
begun s h new x claim is name params form = started_facts s h.branch new x (facts_in s h.branch) claim is refl (start_fact s x claim name params form)

pub cut_is : (h : Hypotheses) (pushed ys new : List Said) (x : Said) (len : ℕ) → len ≡ length h.branch → pushed ≡ h.branch ++ x ∷ [] → Begins pushed ys → new ≡ take len ys → new ≡ h.branch
cut_is h pushed ys new x len is push begins cut = cut ∙ ap (λ (n : ℕ). take n ys) is ∙ begins_before h.branch ys x (subst (λ (zs : List Said). Begins zs ys) push begins)

pub begun_notes : (s : Stored) (h : Hypotheses) (new : List Said) (x : Said) → new ≡ h.branch ++ x ∷ [] → AreReady s h → AreNotes s (facts_in s new) h.notes
begun_notes s h new x is r =
    notes_grow s s h.branch new h.notes (Extends-refl s) r.said (subst (Begins h.branch) (sym is) (Begins-push h.branch h.branch x (Begins-refl h.branch))) r.notes

pub cut_ready : (s t : Stored) (old new : Hypotheses) (ys : List Said) (len : ℕ) → Extends s t → AreReady s old → new.branch ≡ old.branch → new.branch ≡ take len ys → AreNotes t (take len (facts_in t ys)) new.notes → AreReady t new
cut_ready s t old new ys len e r is cut notes = record {
  said = subst (AreSaid t) (sym is) (AreSaid-more s t old.branch e r.said);
  notes = subst (λ (fs : List Fact). AreNotes t fs new.notes) (take-map (said_fact t) len ys ∙ ap (facts_in t) (sym cut)) notes;
}

pub cut_known : (s t : Stored) (old new : Hypotheses) → Extends s t → AreReady s old → new.branch ≡ old.branch → known_in t new ≡ known_in s old
unfolding known_in
cut_known s t old new e r is = ap (facts_in t) is ∙ facts-more s t old.branch e r.said

-- ---- fewer hypotheses

pub known_length : (s : Stored) (h : Hypotheses) (n : ℕ) → n ≡ length h.branch → n ≡ length (known_in s h)
unfolding known_in
known_length s h n is = is ∙ sym (length-map h.branch (said_fact s))

pub back_ready : (s : Stored) (old new : Hypotheses) (len : ℕ) → new.branch ≡ take len old.branch → ((facts : List Fact) → AreNotes s facts old.notes → AreNotes s (take len facts) new.notes) → AreReady s old
    → AreReady s new
back_ready s old new len is notes r = record {
  said = subst (AreSaid s) (sym is) (AreSaid-take s len old.branch r.said);
  notes = subst (λ (fs : List Fact). AreNotes s fs new.notes) (take-map (said_fact s) len old.branch ∙ ap (facts_in s) (sym is)) (notes (facts_in s old.branch) r.notes);
}

pub back_known : (s : Stored) (old new : Hypotheses) (len : ℕ) → new.branch ≡ take len old.branch → known_in s new ≡ take len (known_in s old)
unfolding known_in
back_known s old new len is = ap (facts_in s) is ∙ sym (take-map (said_fact s) len old.branch)
