-- How the trees of a list of nodes grow with it.
use Rattle.std.proofs.Common.{◌≡◌, ℕ, suc, ◌+◌, ◌<◌, ◌≤◌, List, [], ◌∷◌, ◌++◌, length, get_or, fold, refl, ap, ◌∙◌, arith}
use Rattle.std.proofs.lemmas.List.{length_push, get_or_append_left}
use Rattle.std.proofs.lemmas.List.Sums.{fold_push}
use Rattle.sync_terms.specs.declared.nodes.Node.{Node}
use Rattle.sync_terms.specs.declared.nodes.Node.TheVariants as node
use Rattle.sync_terms.specs.declared.nodes.FormNode.{FormNode}
use Rattle.sync_terms.specs.declared.nodes.FormNode.TheVariants as form
use Rattle.sync_terms.specs.Trees.{Tree, Nil, Formula, Eq}
use Rattle.sync_terms.specs.Stored.{grown, next_tree, trees, grown_form, next_formula, formulas, ChildrenBelow, PartsBelow}
use Rattle.sync_terms.specs.StoreLists.{form_at}

module _ {A B : Type 0} (make : List B → A → B) where
  abbrev next : List B → A → List B
  next ys x = ys ++ make ys x ∷ []

  length-fold : (xs : List A) (ys : List B) → length (fold next ys xs) ≡ length ys + length xs
  length-fold [] ys = omega arith
  length-fold (x ∷ xs) ys = length-fold xs (next ys x) ∙ omega (arith, length_push ys (make ys x))

-- ---- terms

pub length-trees : (ns : List Node) → length (trees ns) ≡ length ns
unfolding trees
length-trees ns = omega (arith, length-fold grown ns [])

pub trees-push : (ns : List Node) (n : Node) → trees (ns ++ n ∷ []) ≡ trees ns ++ grown (trees ns) n ∷ []
unfolding trees
trees-push ns n = fold_push next_tree [] ns n

-- the trees below a number stay
abbrev pub Stay : ℕ → List Tree → List Tree → Type 0
Stay n ts us = (k : ℕ) → k < n → get_or us k Nil ≡ get_or ts k Nil

pub grown-stay : (n : ℕ) (ts us : List Tree) → Stay n ts us → (x : Node) → ChildrenBelow n x → grown us x ≡ grown ts x
grown-stay n ts us e (node.Lit k) h = refl
grown-stay n ts us e (node.Name y) h = refl
grown-stay n ts us e (node.Add a b) h = let ea = e a.0 h.0 in let eb = e b.0 h.1 in cc
grown-stay n ts us e (node.Sub a b) h = let ea = e a.0 h.0 in let eb = e b.0 h.1 in cc
grown-stay n ts us e (node.Scale k a) h = let ea = e a.0 h in cc
grown-stay n ts us e (node.Get a b) h = let ea = e a.0 h.0 in let eb = e b.0 h.1 in cc
grown-stay n ts us e (node.Has a b) h = let ea = e a.0 h.0 in let eb = e b.0 h.1 in cc
grown-stay n ts us e (node.Size a) h = let ea = e a.0 h in cc
grown-stay n ts us e (node.Sum a) h = let ea = e a.0 h in cc
grown-stay n ts us e node.Nil h = refl
grown-stay n ts us e (node.Put a b c) h = let ea = e a.0 h.0 in let eb = e b.0 h.1 in let ec = e c.0 h.2 in cc
grown-stay n ts us e (node.Del a b) h = let ea = e a.0 h.0 in let eb = e b.0 h.1 in cc
grown-stay n ts us e (node.Bump a b c) h = let ea = e a.0 h.0 in let eb = e b.0 h.1 in let ec = e c.0 h.2 in cc

pub ChildrenBelow-more : (n m : ℕ) → n ≤ m → (x : Node) → ChildrenBelow n x → ChildrenBelow m x
ChildrenBelow-more n m l (node.Lit k) h = tt
ChildrenBelow-more n m l (node.Name y) h = tt
ChildrenBelow-more n m l (node.Add a b) h = (omega arith, omega arith)
ChildrenBelow-more n m l (node.Sub a b) h = (omega arith, omega arith)
ChildrenBelow-more n m l (node.Scale k a) h = omega arith
ChildrenBelow-more n m l (node.Get a b) h = (omega arith, omega arith)
ChildrenBelow-more n m l (node.Has a b) h = (omega arith, omega arith)
ChildrenBelow-more n m l (node.Size a) h = omega arith
ChildrenBelow-more n m l (node.Sum a) h = omega arith
ChildrenBelow-more n m l node.Nil h = tt
ChildrenBelow-more n m l (node.Put a b c) h = (omega arith, omega arith, omega arith)
ChildrenBelow-more n m l (node.Del a b) h = (omega arith, omega arith)
ChildrenBelow-more n m l (node.Bump a b c) h = (omega arith, omega arith, omega arith)

pub PartsBelow-more : (n m p q : ℕ) → n ≤ m → p ≤ q → (x : FormNode) → PartsBelow n p x → PartsBelow m q x
PartsBelow-more n m p q l k (form.Le a b) h = (omega arith, omega arith)
PartsBelow-more n m p q l k (form.Lt a b) h = (omega arith, omega arith)
PartsBelow-more n m p q l k (form.Eq a b) h = (omega arith, omega arith)
PartsBelow-more n m p q l k (form.Not f) h = omega arith
PartsBelow-more n m p q l k (form.And f g) h = (omega arith, omega arith)
PartsBelow-more n m p q l k (form.Or f g) h = (omega arith, omega arith)
PartsBelow-more n m p q l k (form.Imp f g) h = (omega arith, omega arith)

pub Stay-push : (ns : List Node) (x : Node) → Stay (length ns) (trees ns) (trees (ns ++ x ∷ []))
Stay-push ns x k h =
    let within : k < length (trees ns) = omega (arith, length-trees ns) in
    ap (λ ts. get_or ts k Nil) (trees-push ns x) ∙ get_or_append_left (trees ns) (grown (trees ns) x ∷ []) Nil k within

-- ---- formulas

pub length-formulas : (ts : List Tree) (fs : List FormNode) → length (formulas ts fs) ≡ length fs
unfolding formulas
length-formulas ts fs = omega (arith, length-fold (grown_form ts) fs [])

pub formulas-push : (ts : List Tree) (fs : List FormNode) (x : FormNode) → formulas ts (fs ++ x ∷ []) ≡ formulas ts fs ++ grown_form ts (formulas ts fs) x ∷ []
unfolding formulas
formulas-push ts fs x = fold_push (next_formula ts) [] fs x

abbrev pub StayForms : ℕ → List Formula → List Formula → Type 0
StayForms n gs hs = (k : ℕ) → k < n → get_or hs k (Eq Nil Nil) ≡ get_or gs k (Eq Nil Nil)

pub StayForms-push : (ts : List Tree) (fs : List FormNode) (x : FormNode) → StayForms (length fs) (formulas ts fs) (formulas ts (fs ++ x ∷ []))
StayForms-push ts fs x k h =
    let within : k < length (formulas ts fs) = omega (arith, length-formulas ts fs) in
    ap (λ gs. get_or gs k (Eq Nil Nil)) (formulas-push ts fs x) ∙ get_or_append_left (formulas ts fs) (grown_form ts (formulas ts fs) x ∷ []) (Eq Nil Nil) k within

pub grown_form-stay : (n p : ℕ) (ts us : List Tree) (gs hs : List Formula) → Stay n ts us → StayForms p gs hs → (x : FormNode) → PartsBelow n p x → grown_form us hs x ≡ grown_form ts gs x
grown_form-stay n p ts us gs hs d e (form.Le a b) h = let ea = d a.0 h.0 in let eb = d b.0 h.1 in cc
grown_form-stay n p ts us gs hs d e (form.Lt a b) h = let ea = d a.0 h.0 in let eb = d b.0 h.1 in cc
grown_form-stay n p ts us gs hs d e (form.Eq a b) h = let ea = d a.0 h.0 in let eb = d b.0 h.1 in cc
grown_form-stay n p ts us gs hs d e (form.Not f) h = let ef = e f.0 h in cc
grown_form-stay n p ts us gs hs d e (form.And f g) h = let ef = e f.0 h.0 in let eg = e g.0 h.1 in cc
grown_form-stay n p ts us gs hs d e (form.Or f g) h = let ef = e f.0 h.0 in let eg = e g.0 h.1 in cc
grown_form-stay n p ts us gs hs d e (form.Imp f g) h = let ef = e f.0 h.0 in let eg = e g.0 h.1 in cc

-- more terms change no formula
formulas-stay-from : (n p : ℕ) (ts us : List Tree) → Stay n ts us → (fs : List FormNode) → ((k : ℕ) → k < length fs → PartsBelow n p (form_at fs k))
    → (gs : List Formula) → fold (next_formula us) gs fs ≡ fold (next_formula ts) gs fs
formulas-stay-from n p ts us e [] below gs = refl
formulas-stay-from n p ts us e (x ∷ fs) below gs =
    let made = grown_form-stay n p ts us gs gs e (λ k h. refl) x (below 0 (omega arith)) in
    let rest = formulas-stay-from n p ts us e fs (λ k h. below (suc k) (omega arith)) (next_formula us gs x) in
    rest ∙ ap (λ g. fold (next_formula ts) (gs ++ g ∷ []) fs) made

pub formulas-stay : (n : ℕ) (ts us : List Tree) → Stay n ts us → (fs : List FormNode) → ((k : ℕ) → k < length fs → PartsBelow n k (form_at fs k)) → formulas us fs ≡ formulas ts fs
unfolding formulas
formulas-stay n ts us e fs below =
    formulas-stay-from n (length fs) ts us e fs (λ k h. PartsBelow-more n n k (length fs) (omega arith) (omega arith) (form_at fs k) (below k h)) []
