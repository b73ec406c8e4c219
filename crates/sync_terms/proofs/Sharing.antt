-- That a store has one id for equal trees.
use Rattle.std.proofs.Common.{◌≡◌, ℕ, zero, suc, ◌<◌, ◌≤◌, List, length, get_or, Bool, true, sym, ap, ◌∙◌, subst, arith, inl, inr, ◌⊎◌}
use Rattle.std.proofs.lemmas.Bool.{false≢true}
use Rattle.std.proofs.lemmas.Map.Keys.{apart_from_distinct}
use Rattle.std.specs.List.{IsDistinct}
use Rattle.sync_terms.proofs.Growth.{ChildrenBelow-more, PartsBelow-more}
use Rattle.sync_terms.specs.declared.nodes.Node.{Node}
use Rattle.sync_terms.specs.declared.nodes.Node.TheVariants as node
use Rattle.sync_terms.specs.declared.nodes.FormNode.{FormNode}
use Rattle.sync_terms.specs.declared.nodes.FormNode.TheVariants as form
use Rattle.sync_terms.specs.Trees.{Tree, Nil, Formula, Eq}
use Rattle.sync_terms.specs.Stored.{Stored, grown, trees, tree, grown_form, formulas, formula, ChildrenBelow, PartsBelow, IsShared}
use Rattle.sync_terms.specs.StoreLists.{node_at, form_at, AreTerms, AreForms, AreInOrder}

-- the number is one of these
abbrev Apart : ℕ → List Tree → Type 0
Apart n ts = (a b : ℕ) → a < n → b < n → get_or ts a Nil ≡ get_or ts b Nil → a ≡ b

abbrev ApartForms : ℕ → List Formula → Type 0
ApartForms n gs = (f g : ℕ) → f < n → g < n → get_or gs f (Eq Nil Nil) ≡ get_or gs g (Eq Nil Nil) → f ≡ g

-- nodes with the same tree are one, where their children with the same tree are one
same-node : (n : ℕ) (ts : List Tree) → Apart n ts → (x y : Node) → ChildrenBelow n x → ChildrenBelow n y → grown ts x ≡ grown ts y → x ≡ y
same-node n ts apart (node.Lit k) (node.Lit k') h i e = cc
same-node n ts apart (node.Name y) (node.Name y') h i e =
    let n : y.0 ≡ y'.0 = cc in
    ap (λ (k : ℕ). node.Name (record { 0 = k })) n
same-node n ts apart (node.Add a b) (node.Add a' b') h i e =
    let ta : get_or ts a.0 Nil ≡ get_or ts a'.0 Nil = cc in
    let ea : a ≡ a' = ap (λ (k : ℕ). record { 0 = k }) (apart a.0 a'.0 h.0 i.0 ta) in
    let tb : get_or ts b.0 Nil ≡ get_or ts b'.0 Nil = cc in
    let eb : b ≡ b' = ap (λ (k : ℕ). record { 0 = k }) (apart b.0 b'.0 h.1 i.1 tb) in cc
same-node n ts apart (node.Sub a b) (node.Sub a' b') h i e =
    let ta : get_or ts a.0 Nil ≡ get_or ts a'.0 Nil = cc in
    let ea : a ≡ a' = ap (λ (k : ℕ). record { 0 = k }) (apart a.0 a'.0 h.0 i.0 ta) in
    let tb : get_or ts b.0 Nil ≡ get_or ts b'.0 Nil = cc in
    let eb : b ≡ b' = ap (λ (k : ℕ). record { 0 = k }) (apart b.0 b'.0 h.1 i.1 tb) in cc
same-node n ts apart (node.Scale k a) (node.Scale k' a') h i e =
    let ta : get_or ts a.0 Nil ≡ get_or ts a'.0 Nil = cc in
    let ea : a ≡ a' = ap (λ (k : ℕ). record { 0 = k }) (apart a.0 a'.0 h i ta) in cc
same-node n ts apart (node.Get a b) (node.Get a' b') h i e =
    let ta : get_or ts a.0 Nil ≡ get_or ts a'.0 Nil = cc in
    let ea : a ≡ a' = ap (λ (k : ℕ). record { 0 = k }) (apart a.0 a'.0 h.0 i.0 ta) in
    let tb : get_or ts b.0 Nil ≡ get_or ts b'.0 Nil = cc in
    let eb : b ≡ b' = ap (λ (k : ℕ). record { 0 = k }) (apart b.0 b'.0 h.1 i.1 tb) in cc
same-node n ts apart (node.Has a b) (node.Has a' b') h i e =
    let ta : get_or ts a.0 Nil ≡ get_or ts a'.0 Nil = cc in
    let ea : a ≡ a' = ap (λ (k : ℕ). record { 0 = k }) (apart a.0 a'.0 h.0 i.0 ta) in
    let tb : get_or ts b.0 Nil ≡ get_or ts b'.0 Nil = cc in
    let eb : b ≡ b' = ap (λ (k : ℕ). record { 0 = k }) (apart b.0 b'.0 h.1 i.1 tb) in cc
same-node n ts apart (node.Size a) (node.Size a') h i e =
    let ta : get_or ts a.0 Nil ≡ get_or ts a'.0 Nil = cc in
    let ea : a ≡ a' = ap (λ (k : ℕ). record { 0 = k }) (apart a.0 a'.0 h i ta) in cc
same-node n ts apart (node.Sum a) (node.Sum a') h i e =
    let ta : get_or ts a.0 Nil ≡ get_or ts a'.0 Nil = cc in
    let ea : a ≡ a' = ap (λ (k : ℕ). record { 0 = k }) (apart a.0 a'.0 h i ta) in cc
same-node n ts apart node.Nil node.Nil h i e = cc
same-node n ts apart (node.Put a b c) (node.Put a' b' c') h i e =
    let ta : get_or ts a.0 Nil ≡ get_or ts a'.0 Nil = cc in
    let ea : a ≡ a' = ap (λ (k : ℕ). record { 0 = k }) (apart a.0 a'.0 h.0 i.0 ta) in
    let tb : get_or ts b.0 Nil ≡ get_or ts b'.0 Nil = cc in
    let eb : b ≡ b' = ap (λ (k : ℕ). record { 0 = k }) (apart b.0 b'.0 h.1 i.1 tb) in
    let tc : get_or ts c.0 Nil ≡ get_or ts c'.0 Nil = cc in
    let ec : c ≡ c' = ap (λ (k : ℕ). record { 0 = k }) (apart c.0 c'.0 h.2 i.2 tc) in cc
same-node n ts apart (node.Del a b) (node.Del a' b') h i e =
    let ta : get_or ts a.0 Nil ≡ get_or ts a'.0 Nil = cc in
    let ea : a ≡ a' = ap (λ (k : ℕ). record { 0 = k }) (apart a.0 a'.0 h.0 i.0 ta) in
    let tb : get_or ts b.0 Nil ≡ get_or ts b'.0 Nil = cc in
    let eb : b ≡ b' = ap (λ (k : ℕ). record { 0 = k }) (apart b.0 b'.0 h.1 i.1 tb) in cc
same-node n ts apart (node.Bump a b c) (node.Bump a' b' c') h i e =
    let ta : get_or ts a.0 Nil ≡ get_or ts a'.0 Nil = cc in
    let ea : a ≡ a' = ap (λ (k : ℕ). record { 0 = k }) (apart a.0 a'.0 h.0 i.0 ta) in
    let tb : get_or ts b.0 Nil ≡ get_or ts b'.0 Nil = cc in
    let eb : b ≡ b' = ap (λ (k : ℕ). record { 0 = k }) (apart b.0 b'.0 h.1 i.1 tb) in
    let tc : get_or ts c.0 Nil ≡ get_or ts c'.0 Nil = cc in
    let ec : c ≡ c' = ap (λ (k : ℕ). record { 0 = k }) (apart c.0 c'.0 h.2 i.2 tc) in cc
same-node n ts apart x y h i e = cc

same-form : (n p : ℕ) (ts : List Tree) (gs : List Formula) → Apart n ts → ApartForms p gs → (x y : FormNode) → PartsBelow n p x → PartsBelow n p y → grown_form ts gs x ≡ grown_form ts gs y → x ≡ y
same-form n p ts gs apart forms (form.Le a b) (form.Le a' b') h i e =
    let ta : get_or ts a.0 Nil ≡ get_or ts a'.0 Nil = cc in
    let ea : a ≡ a' = ap (λ (k : ℕ). record { 0 = k }) (apart a.0 a'.0 h.0 i.0 ta) in
    let tb : get_or ts b.0 Nil ≡ get_or ts b'.0 Nil = cc in
    let eb : b ≡ b' = ap (λ (k : ℕ). record { 0 = k }) (apart b.0 b'.0 h.1 i.1 tb) in cc
same-form n p ts gs apart forms (form.Lt a b) (form.Lt a' b') h i e =
    let ta : get_or ts a.0 Nil ≡ get_or ts a'.0 Nil = cc in
    let ea : a ≡ a' = ap (λ (k : ℕ). record { 0 = k }) (apart a.0 a'.0 h.0 i.0 ta) in
    let tb : get_or ts b.0 Nil ≡ get_or ts b'.0 Nil = cc in
    let eb : b ≡ b' = ap (λ (k : ℕ). record { 0 = k }) (apart b.0 b'.0 h.1 i.1 tb) in cc
same-form n p ts gs apart forms (form.Eq a b) (form.Eq a' b') h i e =
    let ta : get_or ts a.0 Nil ≡ get_or ts a'.0 Nil = cc in
    let ea : a ≡ a' = ap (λ (k : ℕ). record { 0 = k }) (apart a.0 a'.0 h.0 i.0 ta) in
    let tb : get_or ts b.0 Nil ≡ get_or ts b'.0 Nil = cc in
    let eb : b ≡ b' = ap (λ (k : ℕ). record { 0 = k }) (apart b.0 b'.0 h.1 i.1 tb) in cc
same-form n p ts gs apart forms (form.Not f) (form.Not f') h i e =
    let tf : get_or gs f.0 (Eq Nil Nil) ≡ get_or gs f'.0 (Eq Nil Nil) = cc in
    let ef : f ≡ f' = ap (λ (k : ℕ). record { 0 = k }) (forms f.0 f'.0 h i tf) in cc
same-form n p ts gs apart forms (form.And f g) (form.And f' g') h i e =
    let tf : get_or gs f.0 (Eq Nil Nil) ≡ get_or gs f'.0 (Eq Nil Nil) = cc in
    let ef : f ≡ f' = ap (λ (k : ℕ). record { 0 = k }) (forms f.0 f'.0 h.0 i.0 tf) in
    let tg : get_or gs g.0 (Eq Nil Nil) ≡ get_or gs g'.0 (Eq Nil Nil) = cc in
    let eg : g ≡ g' = ap (λ (k : ℕ). record { 0 = k }) (forms g.0 g'.0 h.1 i.1 tg) in cc
same-form n p ts gs apart forms (form.Or f g) (form.Or f' g') h i e =
    let tf : get_or gs f.0 (Eq Nil Nil) ≡ get_or gs f'.0 (Eq Nil Nil) = cc in
    let ef : f ≡ f' = ap (λ (k : ℕ). record { 0 = k }) (forms f.0 f'.0 h.0 i.0 tf) in
    let tg : get_or gs g.0 (Eq Nil Nil) ≡ get_or gs g'.0 (Eq Nil Nil) = cc in
    let eg : g ≡ g' = ap (λ (k : ℕ). record { 0 = k }) (forms g.0 g'.0 h.1 i.1 tg) in cc
same-form n p ts gs apart forms (form.Imp f g) (form.Imp f' g') h i e =
    let tf : get_or gs f.0 (Eq Nil Nil) ≡ get_or gs f'.0 (Eq Nil Nil) = cc in
    let ef : f ≡ f' = ap (λ (k : ℕ). record { 0 = k }) (forms f.0 f'.0 h.0 i.0 tf) in
    let tg : get_or gs g.0 (Eq Nil Nil) ≡ get_or gs g'.0 (Eq Nil Nil) = cc in
    let eg : g ≡ g' = ap (λ (k : ℕ). record { 0 = k }) (forms g.0 g'.0 h.1 i.1 tg) in cc
same-form n p ts gs apart forms x y h i e = cc

apart-below : (ns : List Node) (sizes : List ℕ) → AreTerms ns sizes → (n : ℕ) → n ≤ length ns → Apart n (trees ns)
apart-below ns sizes k zero l a b h i e = absurd (omega arith)
apart-below ns sizes k (suc n) l a b h i e =
    let wa : a < length ns = omega arith in
    let wb : b < length ns = omega arith in
    let ca = ChildrenBelow-more a n (omega arith) (node_at ns a) (k.earlier a wa) in
    let cb = ChildrenBelow-more b n (omega arith) (node_at ns b) (k.earlier b wb) in
    let both : grown (trees ns) (node_at ns a) ≡ grown (trees ns) (node_at ns b) = sym (k.made a wa) ∙ e ∙ k.made b wb in
    k.once a b wa wb (same-node n (trees ns) (apart-below ns sizes k n (omega arith)) (node_at ns a) (node_at ns b) ca cb both)

apart-forms-below : (ns : List Node) (fs : List FormNode) (sizes fsizes : List ℕ) → AreTerms ns sizes → AreForms ns fs fsizes → (n : ℕ) → n ≤ length fs
    → ApartForms n (formulas (trees ns) fs)
apart-forms-below ns fs sizes fsizes t k zero l f g h i e = absurd (omega arith)
apart-forms-below ns fs sizes fsizes t k (suc n) l f g h i e =
    let wf : f < length fs = omega arith in
    let wg : g < length fs = omega arith in
    let gs = formulas (trees ns) fs in
    let pf = PartsBelow-more (length ns) (length ns) f n (omega arith) (omega arith) (form_at fs f) (k.earlier f wf) in
    let pg = PartsBelow-more (length ns) (length ns) g n (omega arith) (omega arith) (form_at fs g) (k.earlier g wg) in
    let both : grown_form (trees ns) gs (form_at fs f) ≡ grown_form (trees ns) gs (form_at fs g) = sym (k.made f wf) ∙ e ∙ k.made g wg in
    let terms = apart-below ns sizes t (length ns) (omega arith) in
    let forms = apart-forms-below ns fs sizes fsizes t k n (omega arith) in
    k.once f g wf wg (same-form (length ns) n (trees ns) gs terms forms (form_at fs f) (form_at fs g) pf pg both)

pub IsShared-from_kept : (s : Stored) (sizes fsizes : List ℕ) → AreInOrder s sizes fsizes → IsShared s
unfolding tree formula
IsShared-from_kept s sizes fsizes k = record {
  terms = λ a b h i e. ap (λ (n : ℕ). record { 0 = n }) (apart-below s.nodes sizes k.terms (length s.nodes) (omega arith) a.0 b.0 h i e);
  forms = λ f g h i e. ap (λ (n : ℕ). record { 0 = n }) (apart-forms-below s.nodes s.forms sizes fsizes k.terms k.forms (length s.forms) (omega arith) f.0 g.0 h i e);
}

-- no two of a list are equal, so one stands at one place
pub once-from_distinct : {N : Type 0} (eq : N → N → Bool) (d : N) → ((x : N) → eq x x ≡ true) → (xs : List N) → IsDistinct eq xs
    → (i j : ℕ) → i < length xs → j < length xs → get_or xs i d ≡ get_or xs j d → i ≡ j
once-from_distinct eq d itself xs apart i j h k e = by (cases i j)
  where
    cases : (i j : ℕ) → (i < j) ⊎ ((j < i) ⊎ (i ≡ j))
    cases i j = grind arith

    by : (i < j) ⊎ ((j < i) ⊎ (i ≡ j)) → i ≡ j
    by (inl l) = absurd (false≢true (sym (apart_from_distinct eq xs i j d apart l k) ∙ subst (λ y. eq (get_or xs i d) y ≡ true) e (itself (get_or xs i d))))
    by (inr (inl l)) = absurd (false≢true (sym (apart_from_distinct eq xs j i d apart l h) ∙ subst (λ y. eq (get_or xs j d) y ≡ true) (sym e) (itself (get_or xs j d))))
    by (inr (inr s)) = s
