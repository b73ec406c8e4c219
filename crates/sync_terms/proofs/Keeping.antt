-- What adding a node to a store keeps.
use Rattle.std.proofs.Common.{◌≡◌, ℕ, pos, zero, suc, ◌<◌, ◌≤◌, List, [], ◌∷◌, ◌++◌, length, get_or, map, refl, sym, ap, ◌∙◌, subst, arith, below_more, inl, inr}
use Rattle.std.proofs.lemmas.List.{length_push, get_or_push, get_or_append_left, map_push}
use Rattle.sync_terms.specs.Inserted.{IsInserted}
use Rattle.sync_terms.proofs.Growth.{length-trees, trees-push, grown-stay, ChildrenBelow-more, PartsBelow-more, Stay-push, length-formulas, formulas-push, StayForms-push, grown_form-stay, formulas-stay}
use Rattle.sync_terms.specs.declared.nodes.TermId.{TermId}
use Rattle.sync_terms.specs.declared.nodes.FormId.{FormId}
use Rattle.sync_terms.specs.declared.nodes.Node.{Node}
use Rattle.sync_terms.specs.declared.nodes.Node.TheVariants as node
use Rattle.sync_terms.specs.declared.nodes.FormNode.{FormNode}
use Rattle.sync_terms.specs.declared.nodes.FormNode.TheVariants as form
use Rattle.sync_terms.specs.Trees.{Nil, Eq, tree_size, formula_size}
use Rattle.sync_terms.specs.Stored.{Stored, grown, trees, tree, formula_at, grown_form, formulas, formula, shape, form_shape, ChildrenBelow, PartsBelow, HasChildren, HasParts, Extends, GainsTerm, GainsForm}
use Rattle.sync_terms.specs.Trees.{most_nodes}
use Rattle.sync_terms.specs.StoreLists.{node_at, form_at, AreTerms, AreForms, AreInOrder}

abbrev no_node : Node
no_node = node.Lit (pos 0)

abbrev no_form : FormNode
no_form = form.Le (record { 0 = 0 }) (record { 0 = 0 })

-- each node stands at one place
abbrev pub Once : List Node → Type 0
Once ns = (i j : ℕ) → i < length ns → j < length ns → node_at ns i ≡ node_at ns j → i ≡ j

abbrev pub OnceForms : List FormNode → Type 0
OnceForms fs = (i j : ℕ) → i < length fs → j < length fs → form_at fs i ≡ form_at fs j → i ≡ j

small-push : (ss : List ℕ) (s : ℕ) → ((k : ℕ) → get_or ss k 0 ≤ most_nodes) → s ≤ most_nodes → (k : ℕ) → get_or (ss ++ s ∷ []) k 0 ≤ most_nodes
small-push [] s h l zero = l
small-push [] s h l (suc k) = omega arith
small-push (y ∷ ys) s h l zero = h 0
small-push (y ∷ ys) s h l (suc k) = small-push ys s (λ i. h (suc i)) l k

-- a fact of each place of a list with one more
each-push : {A : Type 0} (P : ℕ → Type 0) (xs : List A) (y : A) → ((k : ℕ) → k < length xs → P k) → P (length xs) → (k : ℕ) → k < length (xs ++ y ∷ []) → P k
each-push P xs y below here k h = below_more P (length xs) below here k (omega (arith, length_push xs y))

module _ (ns : List Node) (sizes : List ℕ) (x : Node) (kept : AreTerms ns sizes) (below : ChildrenBelow (length ns) x) (fits : tree_size (grown (trees ns) x) ≤ most_nodes) where
  AreTerms-push : Once (ns ++ x ∷ []) → AreTerms (ns ++ x ∷ []) (sizes ++ tree_size (grown (trees ns) x) ∷ [])
  AreTerms-push once =
      let ms = ns ++ x ∷ [] in
      let at : (k : ℕ) → k < length ns → node_at ms k ≡ node_at ns k = λ k h. get_or_append_left ns (x ∷ []) no_node k h in
      let last : node_at ms (length ns) ≡ x = get_or_push ns x no_node (length ns) refl in
      let stay = Stay-push ns x in
      record {
        earlier = each-push (λ k. ChildrenBelow k (node_at ms k)) ns x (λ k h. subst (ChildrenBelow k) (sym (at k h)) (kept.earlier k h)) (subst (ChildrenBelow (length ns)) (sym last) below);
        made = each-push (λ k. get_or (trees ms) k Nil ≡ grown (trees ms) (node_at ms k)) ns x
            (λ k h. stay k h ∙ kept.made k h ∙ sym (grown-stay (length ns) (trees ns) (trees ms) stay (node_at ns k) (ChildrenBelow-more k (length ns) (omega arith) (node_at ns k) (kept.earlier k h))) ∙ ap (grown (trees ms)) (sym (at k h)))
            (ap (λ ts. get_or ts (length ns) Nil) (trees-push ns x) ∙ get_or_push (trees ns) (grown (trees ns) x) Nil (length ns) (length-trees ns) ∙ sym (grown-stay (length ns) (trees ns) (trees ms) stay x below) ∙ ap (grown (trees ms)) (sym last));
        once = once;
        counted = ap (λ ss. ss ++ tree_size (grown (trees ns) x) ∷ []) kept.counted ∙ sym (map_push tree_size (trees ns) (grown (trees ns) x)) ∙ ap (map tree_size) (sym (trees-push ns x));
        small = small-push sizes (tree_size (grown (trees ns) x)) kept.small fits;
      }

  AreForms-more_terms : (fs : List FormNode) (fsizes : List ℕ) → AreForms ns fs fsizes → AreForms (ns ++ x ∷ []) fs fsizes
  AreForms-more_terms fs fsizes k =
      let ms = ns ++ x ∷ [] in
      let more : length ns ≤ length ms = omega (arith, length_push ns x) in
      let same : formulas (trees ms) fs ≡ formulas (trees ns) fs = formulas-stay (length ns) (trees ns) (trees ms) (Stay-push ns x) fs k.earlier in
      record {
        earlier = λ i h. PartsBelow-more (length ns) (length ms) i i more (omega arith) (form_at fs i) (k.earlier i h);
        made = λ i h. ap (λ gs. get_or gs i (Eq Nil Nil)) same ∙ k.made i h
            ∙ sym (grown_form-stay (length ns) i (trees ns) (trees ms) (formulas (trees ns) fs) (formulas (trees ms) fs) (Stay-push ns x) (λ j l. ap (λ gs. get_or gs j (Eq Nil Nil)) same) (form_at fs i) (k.earlier i h));
        once = k.once;
        counted = k.counted ∙ ap (map formula_size) (sym same);
        small = k.small;
      }

module _ (ns : List Node) (fs : List FormNode) (fsizes : List ℕ) (x : FormNode) (kept : AreForms ns fs fsizes) (below : PartsBelow (length ns) (length fs) x)
    (fits : formula_size (grown_form (trees ns) (formulas (trees ns) fs) x) ≤ most_nodes) where
  AreForms-push : OnceForms (fs ++ x ∷ []) → AreForms ns (fs ++ x ∷ []) (fsizes ++ formula_size (grown_form (trees ns) (formulas (trees ns) fs) x) ∷ [])
  AreForms-push once =
      let ts = trees ns in
      let ms = fs ++ x ∷ [] in
      let g = grown_form ts (formulas ts fs) x in
      let at : (k : ℕ) → k < length fs → form_at ms k ≡ form_at fs k = λ k h. get_or_append_left fs (x ∷ []) no_form k h in
      let last : form_at ms (length fs) ≡ x = get_or_push fs x no_form (length fs) refl in
      let stay = StayForms-push ts fs x in
      let again : (y : FormNode) → PartsBelow (length ns) (length fs) y → grown_form ts (formulas ts ms) y ≡ grown_form ts (formulas ts fs) y =
      λ y h. grown_form-stay (length ns) (length fs) ts ts (formulas ts fs) (formulas ts ms) (λ k l. refl) stay y h in
      record {
        earlier = each-push (λ k. PartsBelow (length ns) k (form_at ms k)) fs x (λ k h. subst (PartsBelow (length ns) k) (sym (at k h)) (kept.earlier k h)) (subst (PartsBelow (length ns) (length fs)) (sym last) below);
        made = each-push (λ k. get_or (formulas ts ms) k (Eq Nil Nil) ≡ grown_form ts (formulas ts ms) (form_at ms k)) fs x
            (λ k h. stay k h ∙ kept.made k h ∙ sym (again (form_at fs k) (PartsBelow-more (length ns) (length ns) k (length fs) (omega arith) (omega arith) (form_at fs k) (kept.earlier k h))) ∙ ap (grown_form ts (formulas ts ms)) (sym (at k h)))
            (ap (λ gs. get_or gs (length fs) (Eq Nil Nil)) (formulas-push ts fs x) ∙ get_or_push (formulas ts fs) g (Eq Nil Nil) (length fs) (length-formulas ts fs) ∙ sym (again x below) ∙ ap (grown_form ts (formulas ts ms)) (sym last));
        once = once;
        counted = ap (λ ss. ss ++ formula_size g ∷ []) kept.counted ∙ sym (map_push formula_size (formulas ts fs) g) ∙ ap (map formula_size) (sym (formulas-push ts fs x));
        small = small-push fsizes (formula_size g) kept.small fits;
      }

-- ---- a store

abbrev with_nodes : Stored → List Node → Stored
with_nodes s ms = record { nodes = ms; forms = s.forms }

abbrev with_forms : Stored → List FormNode → Stored
with_forms s ms = record { nodes = s.nodes; forms = ms }

module _ (s : Stored) (sizes fsizes : List ℕ) (x : Node) (size : ℕ) (ms : List Node) (msizes : List ℕ)
    (kept : AreInOrder s sizes fsizes) (below : HasChildren s x) (placed : IsInserted s.nodes sizes x size ms msizes) where
  pub AreInOrder-insert_term : size ≡ tree_size (shape s x) → size ≤ most_nodes → Once ms → AreInOrder (with_nodes s ms) msizes fsizes
  unfolding shape
  AreInOrder-insert_term is fits once = by placed
    where
      by : IsInserted s.nodes sizes x size ms msizes → AreInOrder (with_nodes s ms) msizes fsizes
      by (inl e) = rw (e.0, e.1) kept
      by (inr e) =
          let counted : tree_size (grown (trees s.nodes) x) ≤ most_nodes = subst (λ n. n ≤ most_nodes) is fits in
          let alone : Once (s.nodes ++ x ∷ []) = subst Once e.0 once in
          rw (e.0, e.1, is) (record {
            terms = AreTerms-push s.nodes sizes x kept.terms below counted alone;
            forms = AreForms-more_terms s.nodes sizes x kept.terms below counted s.forms fsizes kept.forms;
          })

  pub Extends-insert_term : Extends s (with_nodes s ms)
  unfolding tree formula
  Extends-insert_term = by placed
    where
      by : IsInserted s.nodes sizes x size ms msizes → Extends s (with_nodes s ms)
      by (inl e) = rw e.0 (record { terms = λ id h. (h, refl); forms = λ id h. (h, refl) })
      by (inr e) = rw e.0 (record {
        terms = λ id h. (omega (arith, length_push s.nodes x), Stay-push s.nodes x id.0 h);
        forms = λ id h. (h, ap (λ gs. formula_at gs id) (formulas-stay (length s.nodes) (trees s.nodes) (trees (s.nodes ++ x ∷ [])) (Stay-push s.nodes x) s.forms kept.forms.earlier));
      })

  pub GainsTerm-insert_term : GainsTerm s x (with_nodes s ms)
  GainsTerm-insert_term = by placed
    where
      by : IsInserted s.nodes sizes x size ms msizes → GainsTerm s x (with_nodes s ms)
      by (inl e) = inl (ap (with_nodes s) e.0)
      by (inr e) = inr (ap (with_nodes s) e.0)

  pub tree-insert_term : AreInOrder (with_nodes s ms) msizes fsizes → (i : ℕ) → i < length ms → node_at ms i ≡ x → tree (with_nodes s ms) (record { 0 = i }) ≡ shape s x
  unfolding tree shape
  tree-insert_term new i h at =
      let stay : (k : ℕ) → k < length s.nodes → get_or (trees ms) k Nil ≡ get_or (trees s.nodes) k Nil = λ k l. let id : TermId = record { 0 = k } in unfold tree in ((Extends-insert_term.terms id l).1) in
      new.terms.made i h ∙ ap (grown (trees ms)) at ∙ grown-stay (length s.nodes) (trees s.nodes) (trees ms) stay x below

module _ (s : Stored) (sizes fsizes : List ℕ) (x : FormNode) (size : ℕ) (ms : List FormNode) (msizes : List ℕ)
    (kept : AreInOrder s sizes fsizes) (below : HasParts s x) (placed : IsInserted s.forms fsizes x size ms msizes) where
  pub AreInOrder-insert_form : size ≡ formula_size (form_shape s x) → size ≤ most_nodes → OnceForms ms → AreInOrder (with_forms s ms) sizes msizes
  unfolding form_shape
  AreInOrder-insert_form is fits once = by placed
    where
      by : IsInserted s.forms fsizes x size ms msizes → AreInOrder (with_forms s ms) sizes msizes
      by (inl e) = rw (e.0, e.1) kept
      by (inr e) =
          let counted : formula_size (grown_form (trees s.nodes) (formulas (trees s.nodes) s.forms) x) ≤ most_nodes = subst (λ n. n ≤ most_nodes) is fits in
          let alone : OnceForms (s.forms ++ x ∷ []) = subst OnceForms e.0 once in
          rw (e.0, e.1, is) (record { terms = kept.terms; forms = AreForms-push s.nodes s.forms fsizes x kept.forms below counted alone })

  pub Extends-insert_form : Extends s (with_forms s ms)
  unfolding tree formula
  Extends-insert_form = by placed
    where
      by : IsInserted s.forms fsizes x size ms msizes → Extends s (with_forms s ms)
      by (inl e) = rw e.0 (record { terms = λ id h. (h, refl); forms = λ id h. (h, refl) })
      by (inr e) = rw e.0 (record {
        terms = λ id h. (h, refl);
        forms = λ id h. (omega (arith, length_push s.forms x), StayForms-push (trees s.nodes) s.forms x id.0 h);
      })

  pub GainsForm-insert_form : GainsForm s x (with_forms s ms)
  GainsForm-insert_form = by placed
    where
      by : IsInserted s.forms fsizes x size ms msizes → GainsForm s x (with_forms s ms)
      by (inl e) = inl (ap (with_forms s) e.0)
      by (inr e) = inr (ap (with_forms s) e.0)

  pub formula-insert_form : AreInOrder (with_forms s ms) sizes msizes → (i : ℕ) → i < length ms → form_at ms i ≡ x → formula (with_forms s ms) (record { 0 = i }) ≡ form_shape s x
  unfolding formula form_shape
  formula-insert_form new i h at =
      let ts = trees s.nodes in
      let stay : (k : ℕ) → k < length s.forms → get_or (formulas ts ms) k (Eq Nil Nil) ≡ get_or (formulas ts s.forms) k (Eq Nil Nil) = λ k l. let id : FormId = record { 0 = k } in unfold formula in ((Extends-insert_form.forms id l).1) in
      new.forms.made i h ∙ ap (grown_form ts (formulas ts ms)) at ∙ grown_form-stay (length s.nodes) (length s.forms) ts ts (formulas ts s.forms) (formulas ts ms) (λ k l. refl) stay x below
