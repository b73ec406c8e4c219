-- An id whose tree stays the same whatever the store gains is an id of the store.
use Rattle.std.proofs.Common.{◌≡◌, inl, inr, ℕ, zero, suc, ◌+◌, ◌-◌, ◌<◌, ◌≤◌, pos, List, [], ◌∷◌, ◌++◌, length, map, get_or, fold, replicate, refl, sym, ap, ◌∙◌, arith}
use Rattle.std.specs.Prelude.{nat_lt, if◌then◌else◌}
use Rattle.std.specs.List.{All}
use Rattle.std.proofs.lemmas.List.{append-nil, append_assoc, length-append, length-map, length-replicate, get_or_append_left, get_or-append_right, get_or-replicate, get_or_past, get_or_at, get_or-map}
use Rattle.std.proofs.lemmas.List.Sums.{fold-append}
use Rattle.std.proofs.lemmas.Bool.{cases_lt, lt-ltb, le-ltb, cond-true, cond-false}
use Rattle.sync_terms.specs.declared.nodes.TermId.{TermId}
use Rattle.sync_terms.specs.declared.nodes.FormId.{FormId}
use Rattle.sync_terms.specs.declared.nodes.Node.{Node}
use Rattle.sync_terms.specs.declared.nodes.Node.TheVariants as node
use Rattle.sync_terms.specs.declared.nodes.FormNode.{FormNode}
use Rattle.sync_terms.specs.declared.nodes.FormNode.TheVariants as form
use Rattle.sync_terms.specs.Trees.{Tree, Lit, Nil, Formula, Le, Lt, Eq}
use Rattle.sync_terms.specs.Stored.{Stored, tree_at, next_tree, trees, tree, grown_form, next_formula, formulas, formula, IsTerm, IsForm, Extends}
use Rattle.sync_terms.proofs.Growth.{length-trees, length-formulas}

abbrev lit : Node
lit = node.Lit (pos 0)

-- ---- more terms: so many numbers, and `nil` behind them

fold-lits : (k : ℕ) (ts : List Tree) → fold next_tree ts (replicate k lit) ≡ ts ++ replicate k (Lit (pos 0))
fold-lits zero ts = sym (append-nil ts)
fold-lits (suc k) ts = fold-lits k (ts ++ Lit (pos 0) ∷ []) ∙ append_assoc ts (Lit (pos 0) ∷ []) (replicate k (Lit (pos 0)))

abbrev longer : List Node → ℕ → List Node
longer ns k = ns ++ (replicate k lit ++ node.Nil ∷ [])

trees-longer : (ns : List Node) (k : ℕ) → trees (longer ns k) ≡ trees ns ++ (replicate k (Lit (pos 0)) ++ Nil ∷ [])
unfolding trees
trees-longer ns k =
    fold-append next_tree [] ns (replicate k lit ++ node.Nil ∷ [])
    ∙ fold-append next_tree (fold next_tree [] ns) (replicate k lit) (node.Nil ∷ [])
    ∙ ap (λ (ts : List Tree). ts ++ Nil ∷ []) (fold-lits k (fold next_tree [] ns))
    ∙ append_assoc (fold next_tree [] ns) (replicate k (Lit (pos 0))) (Nil ∷ [])

-- the earlier trees stay
at-before : (ns : List Node) (k i : ℕ) → i < length ns → get_or (trees (longer ns k)) i Nil ≡ get_or (trees ns) i Nil
at-before ns k i h =
    ap (λ (ts : List Tree). get_or ts i Nil) (trees-longer ns k)
    ∙ get_or_append_left (trees ns) (replicate k (Lit (pos 0)) ++ Nil ∷ []) Nil i (omega (arith, length-trees ns, h))

-- numbers stand behind them
at-behind : (ns : List Node) (k i : ℕ) → length ns ≤ i → i < length ns + k → get_or (trees (longer ns k)) i Nil ≡ Lit (pos 0)
at-behind ns k i low high =
    ap (λ (ts : List Tree). get_or ts i Nil) (trees-longer ns k)
    ∙ get_or-append_right (trees ns) (replicate k (Lit (pos 0)) ++ Nil ∷ []) (length ns) i Nil (length-trees ns) low
    ∙ get_or_append_left (replicate k (Lit (pos 0))) (Nil ∷ []) Nil (i - length ns) (omega (arith, length-replicate k (Lit (pos 0)), low, high))
    ∙ get_or-replicate k (i - length ns) (Lit (pos 0)) Nil (omega (arith, low, high))

-- and `nil` last
at-last : (ns : List Node) (k : ℕ) → get_or (trees (longer ns k)) (length ns + k) Nil ≡ Nil
at-last ns k =
    ap (λ (ts : List Tree). get_or ts (length ns + k) Nil) (trees-longer ns k ∙ sym (append_assoc (trees ns) (replicate k (Lit (pos 0))) (Nil ∷ [])))
    ∙ get_or_at (trees ns ++ replicate k (Lit (pos 0))) Nil [] Nil (length ns + k)
    (omega (arith, length-append (trees ns) (replicate k (Lit (pos 0))), length-trees ns, length-replicate k (Lit (pos 0))))

-- ---- formulas whose terms stay: what is behind the old terms is aimed at `nil`

abbrev aim : ℕ → ℕ → TermId → TermId
aim n q a = if nat_lt a.0 n then a else record { 0 = q }

abbrev aimed : ℕ → ℕ → FormNode → FormNode
aimed n q (form.Le a b) = form.Le (aim n q a) (aim n q b)
aimed n q (form.Lt a b) = form.Lt (aim n q a) (aim n q b)
aimed n q (form.Eq a b) = form.Eq (aim n q a) (aim n q b)
aimed n q (form.Not f) = form.Not f
aimed n q (form.And f g) = form.And f g
aimed n q (form.Or f g) = form.Or f g
aimed n q (form.Imp f g) = form.Imp f g

module _ (ns : List Node) (k : ℕ) where
  abbrev aiming : TermId → TermId
  aiming a = aim (length ns) (length ns + k) a

  aim-at : (a : TermId) → tree_at (trees (longer ns k)) (aiming a) ≡ tree_at (trees ns) a
  aim-at a = elim (cases_lt a.0 (length ns)) [
    | inl h ↦ ap (λ (x : TermId). tree_at (trees (longer ns k)) x) (cond-true (nat_lt a.0 (length ns)) a (record { 0 = length ns + k }) (lt-ltb a.0 (length ns) h)) ∙ at-before ns k a.0 h
    | inr h ↦ ap (λ (x : TermId). tree_at (trees (longer ns k)) x) (cond-false (nat_lt a.0 (length ns)) a (record { 0 = length ns + k }) (le-ltb a.0 (length ns) h)) ∙ at-last ns k
        ∙ sym (get_or_past (trees ns) a.0 Nil (omega (arith, length-trees ns, h)))
  ]

  both-at : (f : Tree → Tree → Formula) (a b : TermId) → f (tree_at (trees (longer ns k)) (aiming a)) (tree_at (trees (longer ns k)) (aiming b)) ≡ f (tree_at (trees ns) a) (tree_at (trees ns) b)
  both-at f a b = ap (λ (x : Tree). f x (tree_at (trees (longer ns k)) (aiming b))) (aim-at a) ∙ ap (f (tree_at (trees ns) a)) (aim-at b)

  aimed-form : (gs : List Formula) (x : FormNode) → grown_form (trees (longer ns k)) gs (aimed (length ns) (length ns + k) x) ≡ grown_form (trees ns) gs x
  aimed-form gs (form.Le a b) = both-at Le a b
  aimed-form gs (form.Lt a b) = both-at Lt a b
  aimed-form gs (form.Eq a b) = both-at Eq a b
  aimed-form gs (form.Not f) = refl
  aimed-form gs (form.And f g) = refl
  aimed-form gs (form.Or f g) = refl
  aimed-form gs (form.Imp f g) = refl

  fold-aimed : (fs : List FormNode) (gs : List Formula) → fold (next_formula (trees (longer ns k))) gs (map (aimed (length ns) (length ns + k)) fs) ≡ fold (next_formula (trees ns)) gs fs
  fold-aimed [] gs = refl
  fold-aimed (x ∷ fs) gs =
      ap (λ (g : Formula). fold (next_formula (trees (longer ns k))) (gs ++ g ∷ []) (map (aimed (length ns) (length ns + k)) fs)) (aimed-form gs x)
      ∙ fold-aimed fs (gs ++ grown_form (trees ns) gs x ∷ [])

-- a store with more terms
abbrev with_terms : Stored → ℕ → Stored
with_terms s k = record { nodes = longer s.nodes k; forms = map (aimed (length s.nodes) (length s.nodes + k)) s.forms }

extends_terms : (s : Stored) (k : ℕ) → Extends s (with_terms s k)
unfolding tree formula formulas
extends_terms s k = record {
  terms = λ id h. (omega (arith, length-append s.nodes (replicate k lit ++ node.Nil ∷ []), h), at-before s.nodes k id.0 h);
  forms = λ id h. (omega (arith, length-map s.forms (aimed (length s.nodes) (length s.nodes + k)), h), ap (λ (gs : List Formula). get_or gs id.0 (Eq Nil Nil)) (fold-aimed s.nodes k s.forms []));
}

lit_not_nil : Lit (pos 0) ≡ Nil → ⊥
lit_not_nil h = cc

pub stays_term : (s : Stored) (id : TermId) → ((t : Stored) → Extends s t → tree t id ≡ tree s id) → IsTerm s id
unfolding tree
stays_term s id stays = elim (cases_lt id.0 (length s.nodes)) [
  | inl h ↦ h
  | inr h ↦ absurd (lit_not_nil (
      sym (at-behind s.nodes (suc (id.0 - length s.nodes)) id.0 h (omega (arith, h)))
      ∙ stays (with_terms s (suc (id.0 - length s.nodes))) (extends_terms s (suc (id.0 - length s.nodes)))
      ∙ get_or_past (trees s.nodes) id.0 Nil (omega (arith, length-trees s.nodes, h))))
]

-- ---- more formulas

abbrev no_form : FormNode
no_form = form.Le (record { 0 = 0 }) (record { 0 = 0 })

abbrev no_formula : List Tree → Formula
no_formula ts = Le (get_or ts 0 Nil) (get_or ts 0 Nil)

fold-forms : (ts : List Tree) (k : ℕ) (gs : List Formula) → fold (next_formula ts) gs (replicate k no_form) ≡ gs ++ replicate k (no_formula ts)
fold-forms ts zero gs = sym (append-nil gs)
fold-forms ts (suc k) gs = fold-forms ts k (gs ++ no_formula ts ∷ []) ∙ append_assoc gs (no_formula ts ∷ []) (replicate k (no_formula ts))

formulas-more : (ts : List Tree) (fs : List FormNode) (k : ℕ) → formulas ts (fs ++ replicate k no_form) ≡ formulas ts fs ++ replicate k (no_formula ts)
unfolding formulas
formulas-more ts fs k = fold-append (next_formula ts) [] fs (replicate k no_form) ∙ fold-forms ts k (fold (next_formula ts) [] fs)

abbrev with_forms : Stored → ℕ → Stored
with_forms s k = record { nodes = s.nodes; forms = s.forms ++ replicate k no_form }

extends_forms : (s : Stored) (k : ℕ) → Extends s (with_forms s k)
unfolding tree formula
extends_forms s k = record {
  terms = λ id h. (h, refl);
  forms = λ id h. (
    omega (arith, length-append s.forms (replicate k no_form), h),
    ap (λ (gs : List Formula). get_or gs id.0 (Eq Nil Nil)) (formulas-more (trees s.nodes) s.forms k)
        ∙ get_or_append_left (formulas (trees s.nodes) s.forms) (replicate k (no_formula (trees s.nodes))) (Eq Nil Nil) id.0 (omega (arith, length-formulas (trees s.nodes) s.forms, h)),
  );
}

le_not_eq : (t u : Tree) → Le t u ≡ Eq Nil Nil → ⊥
le_not_eq t u h = cc

pub stays_form : (s : Stored) (id : FormId) → ((t : Stored) → Extends s t → formula t id ≡ formula s id) → IsForm s id
unfolding formula
stays_form s id stays = elim (cases_lt id.0 (length s.forms)) [
  | inl h ↦ h
  | inr h ↦ absurd (le_not_eq (get_or (trees s.nodes) 0 Nil) (get_or (trees s.nodes) 0 Nil) (
      sym (ap (λ (gs : List Formula). get_or gs id.0 (Eq Nil Nil)) (formulas-more (trees s.nodes) s.forms (suc (id.0 - length s.forms)))
      ∙ get_or-append_right (formulas (trees s.nodes) s.forms) (replicate (suc (id.0 - length s.forms)) (no_formula (trees s.nodes))) (length s.forms) id.0 (Eq Nil Nil) (length-formulas (trees s.nodes) s.forms) h
      ∙ get_or-replicate (suc (id.0 - length s.forms)) (id.0 - length s.forms) (no_formula (trees s.nodes)) (Eq Nil Nil) (omega (arith, h)))
      ∙ stays (with_forms s (suc (id.0 - length s.forms))) (extends_forms s (suc (id.0 - length s.forms)))
      ∙ get_or_past (formulas (trees s.nodes) s.forms) id.0 (Eq Nil Nil) (omega (arith, length-formulas (trees s.nodes) s.forms, h))))
]

-- each term of a list
pub stay_terms : (s : Stored) (ids : List TermId) → ((t : Stored) → Extends s t → map (tree t) ids ≡ map (tree s) ids) → All (IsTerm s) ids
stay_terms s ids stays k d lt =
    stays_term s (get_or ids k d) (λ t e. sym (get_or-map (tree t) ids k d Nil lt) ∙ ap (λ (ts : List Tree). get_or ts k Nil) (stays t e) ∙ get_or-map (tree s) ids k d Nil lt)
