-- Steps of a substitution: what a node becomes, and what it waits for.
use Rattle.std.proofs.Common.{◌≡◌, ◌≢◌, ℕ, ◌+◌, ◌^◌, ◌<◌, ◌≤◌, length, Bool, true, false, cond, refl, sym, ap, ◌∙◌, subst, arith, inl, inr, Option, Some, None, IsSome, is_some, nat_eq, Result, Ok, Err}
use Rattle.std.proofs.lemmas.Bool.{false≢true, eqb-true, eq-eqb}
use Rattle.std.specs.Option.{option_map_or}
use Rattle.std.specs.HashMap.{get_by}
use Rattle.sync_terms.specs.declared.nodes.Sym.{Sym}
use Rattle.sync_terms.specs.declared.nodes.TermId.{TermId}
use Rattle.sync_terms.specs.declared.nodes.FormId.{FormId}
use Rattle.sync_terms.specs.declared.nodes.Node.{Node}
use Rattle.sync_terms.specs.declared.nodes.Node.TheVariants as node
use Rattle.sync_terms.specs.declared.nodes.FormNode.{FormNode}
use Rattle.sync_terms.specs.declared.nodes.FormNode.TheVariants as form
use Rattle.sync_terms.specs.declared.subst.Part.{Part}
use Rattle.sync_terms.specs.declared.subst.Part.TheVariants as part
use Rattle.sync_terms.specs.declared.subst.Replaced.{Replaced}
use Rattle.sync_terms.specs.Trees.{most_nodes}
use Rattle.sync_terms.specs.Trees.{Tree, Name, tree_size, formula_size, replaced, replaced_in}
use Rattle.sync_terms.specs.Stored.{Stored, tree, formula, IsTerm, IsForm, shape, form_shape, EachChild, EachPart, ChildrenBelow, PartsBelow, HasChildren, HasParts, Extends}
use Rattle.sync_terms.specs.Replacing.{symbol_at, term_at, form_at, new_term, new_form, renamed, renamed_form, IsChild, IsPartOf, is_replaced, InRange, rank, new_size, under_way, IsDone, Waits, Replaces}

pub ok_is_no_err : {T E : Type 0} (x : T) (e : E) → ◌≡◌ {A = Result T E} (Ok x) (Err e) → ⊥
ok_is_no_err x e h = cc

pub le_from_not : {m n : ℕ} → (n < m → ⊥) → m ≤ n
le_from_not h = omega arith

pub EachChild-more : (P Q : TermId → Type 0) → ((c : TermId) → P c → Q c) → (x : Node) → EachChild P x → EachChild Q x
EachChild-more P Q m (node.Lit n) h = tt
EachChild-more P Q m (node.Name y) h = tt
EachChild-more P Q m (node.Add a b) h = (m a h.0, m b h.1)
EachChild-more P Q m (node.Sub a b) h = (m a h.0, m b h.1)
EachChild-more P Q m (node.Scale n a) h = m a h
EachChild-more P Q m (node.Get a b) h = (m a h.0, m b h.1)
EachChild-more P Q m (node.Has a b) h = (m a h.0, m b h.1)
EachChild-more P Q m (node.Size a) h = m a h
EachChild-more P Q m (node.Sum a) h = m a h
EachChild-more P Q m node.Nil h = tt
EachChild-more P Q m (node.Put a b c) h = (m a h.0, m b h.1, m c h.2)
EachChild-more P Q m (node.Del a b) h = (m a h.0, m b h.1)
EachChild-more P Q m (node.Bump a b c) h = (m a h.0, m b h.1, m c h.2)

pub EachPart-more : (P Q : TermId → Type 0) (R S : FormId → Type 0) → ((a : TermId) → P a → Q a) → ((f : FormId) → R f → S f) → (x : FormNode) → EachPart P R x → EachPart Q S x
EachPart-more P Q R S m n (form.Le a b) h = (m a h.0, m b h.1)
EachPart-more P Q R S m n (form.Lt a b) h = (m a h.0, m b h.1)
EachPart-more P Q R S m n (form.Eq a b) h = (m a h.0, m b h.1)
EachPart-more P Q R S m n (form.Not f) h = n f h
EachPart-more P Q R S m n (form.And f g) h = (n f h.0, n g h.1)
EachPart-more P Q R S m n (form.Or f g) h = (n f h.0, n g h.1)
EachPart-more P Q R S m n (form.Imp f g) h = (n f h.0, n g h.1)

-- ---- what a node becomes

module _ (s : Stored) (f : TermId → TermId) (r : ℕ → Tree) where
  -- the term that f gives is of the store, and its tree is the replaced one
  abbrev pub Becomes : TermId → Type 0
  Becomes c = IsTerm s (f c) × (tree s (f c) ≡ replaced r (tree s c))

  pub shape-renamed : (x : Node) → EachChild Becomes x → ((y : Sym) → x ≡ node.Name y → ⊥) → HasChildren s (renamed f x) × (shape s (renamed f x) ≡ replaced r (shape s x))
  unfolding shape tree replaced
  shape-renamed (node.Lit n) h unnamed = (tt, refl)
  shape-renamed (node.Name y) h unnamed = absurd (unnamed y refl)
  shape-renamed (node.Add a b) h unnamed = let ea = h.0.1 in let eb = h.1.1 in ((h.0.0, h.1.0), (cc))
  shape-renamed (node.Sub a b) h unnamed = let ea = h.0.1 in let eb = h.1.1 in ((h.0.0, h.1.0), (cc))
  shape-renamed (node.Scale n a) h unnamed = let ea = h.1 in (h.0, (cc))
  shape-renamed (node.Get a b) h unnamed = let ea = h.0.1 in let eb = h.1.1 in ((h.0.0, h.1.0), (cc))
  shape-renamed (node.Has a b) h unnamed = let ea = h.0.1 in let eb = h.1.1 in ((h.0.0, h.1.0), (cc))
  shape-renamed (node.Size a) h unnamed = let ea = h.1 in (h.0, (cc))
  shape-renamed (node.Sum a) h unnamed = let ea = h.1 in (h.0, (cc))
  shape-renamed node.Nil h unnamed = (tt, refl)
  shape-renamed (node.Put a b c) h unnamed = let ea = h.0.1 in let eb = h.1.1 in let ec = h.2.1 in ((h.0.0, h.1.0, h.2.0), (cc))
  shape-renamed (node.Del a b) h unnamed = let ea = h.0.1 in let eb = h.1.1 in ((h.0.0, h.1.0), (cc))
  shape-renamed (node.Bump a b c) h unnamed = let ea = h.0.1 in let eb = h.1.1 in let ec = h.2.1 in ((h.0.0, h.1.0, h.2.0), (cc))

module _ (s : Stored) (f : TermId → TermId) (g : FormId → FormId) (r : ℕ → Tree) where
  abbrev pub BecomesForm : FormId → Type 0
  BecomesForm p = IsForm s (g p) × (formula s (g p) ≡ replaced_in r (formula s p))

  pub form_shape-renamed : (x : FormNode) → EachPart (Becomes s f r) BecomesForm x → HasParts s (renamed_form f g x) × (form_shape s (renamed_form f g x) ≡ replaced_in r (form_shape s x))
  unfolding form_shape tree formula replaced_in
  form_shape-renamed (form.Le a b) h = let ea = h.0.1 in let eb = h.1.1 in ((h.0.0, h.1.0), (cc))
  form_shape-renamed (form.Lt a b) h = let ea = h.0.1 in let eb = h.1.1 in ((h.0.0, h.1.0), (cc))
  form_shape-renamed (form.Eq a b) h = let ea = h.0.1 in let eb = h.1.1 in ((h.0.0, h.1.0), (cc))
  form_shape-renamed (form.Not f) h = let ef = h.1 in (h.0, (cc))
  form_shape-renamed (form.And f g) h = let ef = h.0.1 in let eg = h.1.1 in ((h.0.0, h.1.0), (cc))
  form_shape-renamed (form.Or f g) h = let ef = h.0.1 in let eg = h.1.1 in ((h.0.0, h.1.0), (cc))
  form_shape-renamed (form.Imp f g) h = let ef = h.0.1 in let eg = h.1.1 in ((h.0.0, h.1.0), (cc))

module _ (s : Stored) (d : Replaced) (done : IsDone s d) where
  pub Becomes-from_done : (c : TermId) → IsSome (term_at d c) → Becomes s (new_term d) (under_way s d) c
  Becomes-from_done c h = by (term_at d c) refl h
    where
      by : (o : Option TermId) → term_at d c ≡ o → IsSome o → Becomes s (new_term d) (under_way s d) c
      by (Some n) e i = rw e (let t = done.terms c n e in (t.1, t.2))
      by None e i = absurd (false≢true i)

  pub BecomesForm-from_done : (f : FormId) → IsSome (form_at d f) → BecomesForm s (new_term d) (new_form d) (under_way s d) f
  BecomesForm-from_done f h = by (form_at d f) refl h
    where
      by : (o : Option FormId) → form_at d f ≡ o → IsSome o → BecomesForm s (new_term d) (new_form d) (under_way s d) f
      by (Some n) e i = rw e (let t = done.forms f n e in (t.1, t.2))
      by None e i = absurd (false≢true i)

-- a formula's node, renamed, where its parts are replaced
pub renamed-form-is : (s : Stored) (d : Replaced) → IsDone s d → (id : FormId) (x y : FormNode) → y ≡ renamed_form (new_term d) (new_form d) x
    → EachPart (λ a. IsSome (term_at d a)) (λ f. IsSome (form_at d f)) x → form_shape s x ≡ formula s id
    → HasParts s y × (form_shape s y ≡ replaced_in (under_way s d) (formula s id))
renamed-form-is s d done id x y is present at =
    let r = under_way s d in
    let parts = EachPart-more (λ a. IsSome (term_at d a)) (Becomes s (new_term d) r) (λ f. IsSome (form_at d f)) (BecomesForm s (new_term d) (new_form d) r) (Becomes-from_done s d done) (BecomesForm-from_done s d done) x present in
    let h = form_shape-renamed s (new_term d) (new_form d) r x parts in
    rw is (h.0, h.1 ∙ ap (replaced_in r) at)

-- ---- what a node waits for

module _ (s : Stored) (d : Replaced) where
  waits-term : (p : Part) (c : TermId) → IsTerm s c → (InRange (part.Term c) → rank (part.Term c) < rank p) → tree_size (replaced (under_way s d) (tree s c)) ≤ new_size (under_way s d) s p
      → (q : Part) → q ≡ part.Term c → InRange q → is_replaced d q ≡ false → Waits s d p q
  unfolding new_size
  waits-term p c here before smaller q e range missing =
      let fits : InRange (part.Term c) = subst InRange e range in
      let w : is_replaced d (part.Term c) ≡ false = subst (λ q. is_replaced d q ≡ false) e missing in
      subst (Waits s d p) (sym e) (record { part = here; range = fits; before = before fits; missing = w; smaller = smaller })

  waits-form : (p : Part) (f : FormId) → IsForm s f → (InRange (part.Form f) → rank (part.Form f) < rank p) → formula_size (replaced_in (under_way s d) (formula s f)) ≤ new_size (under_way s d) s p
      → (q : Part) → q ≡ part.Form f → InRange q → is_replaced d q ≡ false → Waits s d p q
  unfolding new_size
  waits-form p f here before smaller q e range missing =
      let fits : InRange (part.Form f) = subst InRange e range in
      let w : is_replaced d (part.Form f) ≡ false = subst (λ q. is_replaced d q ≡ false) e missing in
      subst (Waits s d p) (sym e) (record { part = here; range = fits; before = before fits; missing = w; smaller = smaller })

  -- a child's tree is no larger, once replaced
  abbrev Smaller : ℕ → TermId → Type 0
  Smaller n c = tree_size (replaced (under_way s d) (tree s c)) ≤ n

  abbrev SmallerForm : ℕ → FormId → Type 0
  SmallerForm n f = formula_size (replaced_in (under_way s d) (formula s f)) ≤ n

  children-smaller : (x : Node) → EachChild (Smaller (tree_size (replaced (under_way s d) (shape s x)))) x
  unfolding shape tree replaced tree_size
  children-smaller (node.Lit n) = tt
  children-smaller (node.Name y) = tt
  children-smaller (node.Add a b) = (omega arith, omega arith)
  children-smaller (node.Sub a b) = (omega arith, omega arith)
  children-smaller (node.Scale n a) = omega arith
  children-smaller (node.Get a b) = (omega arith, omega arith)
  children-smaller (node.Has a b) = (omega arith, omega arith)
  children-smaller (node.Size a) = omega arith
  children-smaller (node.Sum a) = omega arith
  children-smaller node.Nil = tt
  children-smaller (node.Put a b c) = (omega arith, omega arith, omega arith)
  children-smaller (node.Del a b) = (omega arith, omega arith)
  children-smaller (node.Bump a b c) = (omega arith, omega arith, omega arith)

  parts-smaller : (x : FormNode) → EachPart (Smaller (formula_size (replaced_in (under_way s d) (form_shape s x)))) (SmallerForm (formula_size (replaced_in (under_way s d) (form_shape s x)))) x
  unfolding form_shape tree formula replaced_in formula_size
  parts-smaller (form.Le a b) = (omega arith, omega arith)
  parts-smaller (form.Lt a b) = (omega arith, omega arith)
  parts-smaller (form.Eq a b) = (omega arith, omega arith)
  parts-smaller (form.Not f) = omega arith
  parts-smaller (form.And f g) = (omega arith, omega arith)
  parts-smaller (form.Or f g) = (omega arith, omega arith)
  parts-smaller (form.Imp f g) = (omega arith, omega arith)

  module _ (p q : Part) (range : InRange q) (missing : is_replaced d q ≡ false) where
    -- a child of which three facts are known
    child-waits : (x : Node) → IsChild q x → EachChild (IsTerm s) x → EachChild (λ c. InRange (part.Term c) → c.0 < rank p) x → EachChild (Smaller (new_size (under_way s d) s p)) x → Waits s d p q
    child-waits (node.Lit n) i h before z = absurd i
    child-waits (node.Name y) i h before z = absurd i
    child-waits (node.Add a b) (inl e) h before z = waits-term p a h.0 before.0 z.0 q e range missing
    child-waits (node.Add a b) (inr e) h before z = waits-term p b h.1 before.1 z.1 q e range missing
    child-waits (node.Sub a b) (inl e) h before z = waits-term p a h.0 before.0 z.0 q e range missing
    child-waits (node.Sub a b) (inr e) h before z = waits-term p b h.1 before.1 z.1 q e range missing
    child-waits (node.Scale n a) e h before z = waits-term p a h before z q e range missing
    child-waits (node.Get a b) (inl e) h before z = waits-term p a h.0 before.0 z.0 q e range missing
    child-waits (node.Get a b) (inr e) h before z = waits-term p b h.1 before.1 z.1 q e range missing
    child-waits (node.Has a b) (inl e) h before z = waits-term p a h.0 before.0 z.0 q e range missing
    child-waits (node.Has a b) (inr e) h before z = waits-term p b h.1 before.1 z.1 q e range missing
    child-waits (node.Size a) e h before z = waits-term p a h before z q e range missing
    child-waits (node.Sum a) e h before z = waits-term p a h before z q e range missing
    child-waits node.Nil i h before z = absurd i
    child-waits (node.Put a b c) (inl e) h before z = waits-term p a h.0 before.0 z.0 q e range missing
    child-waits (node.Put a b c) (inr (inl e)) h before z = waits-term p b h.1 before.1 z.1 q e range missing
    child-waits (node.Put a b c) (inr (inr e)) h before z = waits-term p c h.2 before.2 z.2 q e range missing
    child-waits (node.Del a b) (inl e) h before z = waits-term p a h.0 before.0 z.0 q e range missing
    child-waits (node.Del a b) (inr e) h before z = waits-term p b h.1 before.1 z.1 q e range missing
    child-waits (node.Bump a b c) (inl e) h before z = waits-term p a h.0 before.0 z.0 q e range missing
    child-waits (node.Bump a b c) (inr (inl e)) h before z = waits-term p b h.1 before.1 z.1 q e range missing
    child-waits (node.Bump a b c) (inr (inr e)) h before z = waits-term p c h.2 before.2 z.2 q e range missing

    part-waits : (x : FormNode) → IsPartOf q x → EachPart (IsTerm s) (IsForm s) x → EachPart (λ c. InRange (part.Term c) → c.0 < rank p) (λ f. InRange (part.Form f) → 2 ^ 32 + f.0 < rank p) x
        → EachPart (Smaller (new_size (under_way s d) s p)) (SmallerForm (new_size (under_way s d) s p)) x → Waits s d p q
    part-waits (form.Le a b) (inl e) h before z = waits-term p a h.0 before.0 z.0 q e range missing
    part-waits (form.Le a b) (inr e) h before z = waits-term p b h.1 before.1 z.1 q e range missing
    part-waits (form.Lt a b) (inl e) h before z = waits-term p a h.0 before.0 z.0 q e range missing
    part-waits (form.Lt a b) (inr e) h before z = waits-term p b h.1 before.1 z.1 q e range missing
    part-waits (form.Eq a b) (inl e) h before z = waits-term p a h.0 before.0 z.0 q e range missing
    part-waits (form.Eq a b) (inr e) h before z = waits-term p b h.1 before.1 z.1 q e range missing
    part-waits (form.Not f) e h before z = waits-form p f h before z q e range missing
    part-waits (form.And f g) (inl e) h before z = waits-form p f h.0 before.0 z.0 q e range missing
    part-waits (form.And f g) (inr e) h before z = waits-form p g h.1 before.1 z.1 q e range missing
    part-waits (form.Or f g) (inl e) h before z = waits-form p f h.0 before.0 z.0 q e range missing
    part-waits (form.Or f g) (inr e) h before z = waits-form p g h.1 before.1 z.1 q e range missing
    part-waits (form.Imp f g) (inl e) h before z = waits-form p f h.0 before.0 z.0 q e range missing
    part-waits (form.Imp f g) (inr e) h before z = waits-form p g h.1 before.1 z.1 q e range missing

  pub Waits-child : (id : TermId) (x : Node) (q : Part) → shape s x ≡ tree s id → HasChildren s x → ChildrenBelow id.0 x → IsChild q x → InRange q → is_replaced d q ≡ false → Waits s d (part.Term id) q
  unfolding new_size
  Waits-child id x q is here below child range missing =
      child-waits (part.Term id) q range missing x child here (EachChild-more (λ c. c.0 < id.0) (λ c. InRange (part.Term c) → c.0 < id.0) (λ c h r. h) x below) (subst (λ t. EachChild (Smaller (tree_size (replaced (under_way s d) t))) x) is (children-smaller x))

  pub Waits-part : (id : FormId) (x : FormNode) (q : Part) → form_shape s x ≡ formula s id → HasParts s x → PartsBelow (length s.nodes) id.0 x → IsPartOf q x → InRange q → is_replaced d q ≡ false → Waits s d (part.Form id) q
  unfolding new_size
  Waits-part id x q is here below child range missing =
      let before = EachPart-more (λ a. a.0 < length s.nodes) (λ a. InRange (part.Term a) → a.0 < rank (part.Form id)) (λ f. f.0 < id.0) (λ f. InRange (part.Form f) → 2 ^ 32 + f.0 < rank (part.Form id)) (λ a h r. omega arith) (λ f h r. omega arith) x below in
      part-waits (part.Form id) q range missing x child here before (subst (λ t. EachPart (Smaller (formula_size (replaced_in (under_way s d) t))) (SmallerForm (formula_size (replaced_in (under_way s d) t))) x) is (parts-smaller x))

-- ---- what a step keeps

module _ (s t : Stored) (d : Replaced) (done : IsDone s d) (more : Extends s t) where
  -- the substitution stays while the store grows
  pub under_way-more : (e : Replaced) → e.symbols ≡ d.symbols → under_way t e ≡ under_way s d
  under_way-more e same = λ i x. at x i
    where
      by : (x : ℕ) (o : Option TermId) → symbol_at d (record { 0 = x }) ≡ o → option_map_or (tree t) o (Name x) ≡ option_map_or (tree s) o (Name x)
      by x (Some id) f = (more.terms id (done.symbols (record { 0 = x }) id f)).1
      by x None f = refl

      at : (x : ℕ) → under_way t e x ≡ under_way s d x
      at x = ap (λ m. option_map_or (tree t) (get_by (λ (k : Sym). nat_eq x k.0) m) (Name x)) same ∙ by x (symbol_at d (record { 0 = x })) refl

  -- what was replaced stays replaced
  still-term : (id new : TermId) → term_at d id ≡ Some new → IsTerm t id × IsTerm t new × (tree t new ≡ replaced (under_way s d) (tree t id))
  still-term id new f =
      let h = done.terms id new f in
      let i = more.terms id h.0 in
      let n = more.terms new h.1 in
      (i.0, n.0, n.1 ∙ h.2 ∙ ap (replaced (under_way s d)) (sym i.1))

  still-form : (id new : FormId) → form_at d id ≡ Some new → IsForm t id × IsForm t new × (formula t new ≡ replaced_in (under_way s d) (formula t id))
  still-form id new f =
      let h = done.forms id new f in
      let i = more.forms id h.0 in
      let n = more.forms new h.1 in
      (i.0, n.0, n.1 ∙ h.2 ∙ ap (replaced_in (under_way s d)) (sym i.1))

  pub Replaces-term : (e : Replaced) (id new : TermId) → IsTerm s id → IsTerm t new → tree t new ≡ replaced (under_way s d) (tree s id) → tree_size (replaced (under_way s d) (tree s id)) ≤ most_nodes → e.symbols ≡ d.symbols → e.forms ≡ d.forms
      → ((q : TermId) → term_at e q ≡ cond (nat_eq id.0 q.0) (Some new) (term_at d q)) → Replaces s d (part.Term id) t e
  unfolding new_size
  Replaces-term e id new old here is fits symbols forms at =
      let same = under_way-more e symbols in
      record { done = record { symbols = named; terms = each; forms = eachform }; same = same; made = made; fits = small; others = others }
    where
      named : (x : Sym) (i : TermId) → symbol_at e x ≡ Some i → IsTerm t i
      named x i f = (more.terms i (done.symbols x i (ap (get_by (λ (k : Sym). nat_eq x.0 k.0)) (sym symbols) ∙ f))).0

      term : (q n : TermId) (b : Bool) → nat_eq id.0 q.0 ≡ b → term_at e q ≡ Some n → IsTerm t q × IsTerm t n × (tree t n ≡ replaced (under_way s d) (tree t q))
      term q n true b f =
          let eq : q ≡ id = ap (λ (k : ℕ). record { 0 = k }) (sym (eqb-true id.0 q.0 b)) in
          let got : Some new ≡ Some n = ap (λ c. cond c (Some new) (term_at d q)) (sym b) ∙ sym (at q) ∙ f in
          let same : n ≡ new = cc in
          let i = more.terms id old in
          subst (λ q. IsTerm t q × IsTerm t n × (tree t n ≡ replaced (under_way s d) (tree t q))) (sym eq)
          (subst (λ n. IsTerm t id × IsTerm t n × (tree t n ≡ replaced (under_way s d) (tree t id))) (sym same) (i.0, here, is ∙ ap (replaced (under_way s d)) (sym i.1)))
      term q n false b f = still-term q n (ap (λ c. cond c (Some new) (term_at d q)) (sym b) ∙ sym (at q) ∙ f)

      each : (q n : TermId) → term_at e q ≡ Some n → IsTerm t q × IsTerm t n × (tree t n ≡ replaced (under_way t e) (tree t q))
      each q n f = rw (under_way-more e symbols) (term q n (nat_eq id.0 q.0) refl f)

      eachform : (q n : FormId) → form_at e q ≡ Some n → IsForm t q × IsForm t n × (formula t n ≡ replaced_in (under_way t e) (formula t q))
      eachform q n f = rw (under_way-more e symbols) (still-form q n (ap (get_by (λ (k : FormId). nat_eq q.0 k.0)) (sym forms) ∙ f))

      small : new_size (under_way s d) s (part.Term id) ≤ most_nodes
      small = fits

      made : is_replaced e (part.Term id) ≡ true
      made = ap is_some (at id ∙ ap (λ c. cond c (Some new) (term_at d id)) (eq-eqb id.0 id.0 refl))

      others : (q : Part) → q ≢ part.Term id → is_replaced e q ≡ is_replaced d q
      others (part.Term q) other = by (nat_eq id.0 q.0) refl
        where
          by : (b : Bool) → nat_eq id.0 q.0 ≡ b → is_replaced e (part.Term q) ≡ is_replaced d (part.Term q)
          by true b = absurd (other (ap (λ (k : ℕ). part.Term (record { 0 = k })) (sym (eqb-true id.0 q.0 b))))
          by false b = ap is_some (at q ∙ ap (λ c. cond c (Some new) (term_at d q)) b)
      others (part.Form q) other = ap (λ m. is_some (get_by (λ (k : FormId). nat_eq q.0 k.0) m)) forms

  pub Replaces-form : (e : Replaced) (id new : FormId) → IsForm s id → IsForm t new → formula t new ≡ replaced_in (under_way s d) (formula s id) → formula_size (replaced_in (under_way s d) (formula s id)) ≤ most_nodes → e.symbols ≡ d.symbols → e.terms ≡ d.terms
      → ((q : FormId) → form_at e q ≡ cond (nat_eq id.0 q.0) (Some new) (form_at d q)) → Replaces s d (part.Form id) t e
  unfolding new_size
  Replaces-form e id new old here is fits symbols terms at =
      let same = under_way-more e symbols in
      record { done = record { symbols = named; terms = each; forms = eachform }; same = same; made = made; fits = small; others = others }
    where
      named : (x : Sym) (i : TermId) → symbol_at e x ≡ Some i → IsTerm t i
      named x i f = (more.terms i (done.symbols x i (ap (get_by (λ (k : Sym). nat_eq x.0 k.0)) (sym symbols) ∙ f))).0

      form : (q n : FormId) (b : Bool) → nat_eq id.0 q.0 ≡ b → form_at e q ≡ Some n → IsForm t q × IsForm t n × (formula t n ≡ replaced_in (under_way s d) (formula t q))
      form q n true b f =
          let eq : q ≡ id = ap (λ (k : ℕ). record { 0 = k }) (sym (eqb-true id.0 q.0 b)) in
          let got : Some new ≡ Some n = ap (λ c. cond c (Some new) (form_at d q)) (sym b) ∙ sym (at q) ∙ f in
          let same : n ≡ new = cc in
          let i = more.forms id old in
          subst (λ q. IsForm t q × IsForm t n × (formula t n ≡ replaced_in (under_way s d) (formula t q))) (sym eq)
          (subst (λ n. IsForm t id × IsForm t n × (formula t n ≡ replaced_in (under_way s d) (formula t id))) (sym same) (i.0, here, is ∙ ap (replaced_in (under_way s d)) (sym i.1)))
      form q n false b f = still-form q n (ap (λ c. cond c (Some new) (form_at d q)) (sym b) ∙ sym (at q) ∙ f)

      eachform : (q n : FormId) → form_at e q ≡ Some n → IsForm t q × IsForm t n × (formula t n ≡ replaced_in (under_way t e) (formula t q))
      eachform q n f = rw (under_way-more e symbols) (form q n (nat_eq id.0 q.0) refl f)

      each : (q n : TermId) → term_at e q ≡ Some n → IsTerm t q × IsTerm t n × (tree t n ≡ replaced (under_way t e) (tree t q))
      each q n f = rw (under_way-more e symbols) (still-term q n (ap (get_by (λ (k : TermId). nat_eq q.0 k.0)) (sym terms) ∙ f))

      small : new_size (under_way s d) s (part.Form id) ≤ most_nodes
      small = fits

      made : is_replaced e (part.Form id) ≡ true
      made = ap is_some (at id ∙ ap (λ c. cond c (Some new) (form_at d id)) (eq-eqb id.0 id.0 refl))

      others : (q : Part) → q ≢ part.Form id → is_replaced e q ≡ is_replaced d q
      others (part.Form q) other = by (nat_eq id.0 q.0) refl
        where
          by : (b : Bool) → nat_eq id.0 q.0 ≡ b → is_replaced e (part.Form q) ≡ is_replaced d (part.Form q)
          by true b = absurd (other (ap (λ (k : ℕ). part.Form (record { 0 = k })) (sym (eqb-true id.0 q.0 b))))
          by false b = ap is_some (at q ∙ ap (λ c. cond c (Some new) (form_at d q)) b)
      others (part.Term q) other = ap (λ m. is_some (get_by (λ (k : TermId). nat_eq q.0 k.0) m)) terms
