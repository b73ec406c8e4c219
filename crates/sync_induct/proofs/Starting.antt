-- Where an operation begins: the values of its fields one by one, and the invariants as facts.
use Rattle.std.proofs.Common.{◌≡◌, ◌⊎◌, inl, inr, ℕ, suc, ◌+◌, ◌<◌, ◌≤◌, List, [], ◌∷◌, ◌++◌, length, map, get_or, take, refl, sym, ap, subst, ◌∙◌, arith, add-one, zero-add, add-zero}
use Rattle.std.specs.List.{AllByRecursion, range_with_len}
use Rattle.std.proofs.lemmas.List.{take_more, take_all, map-append, length-take-le}
use Rattle.sync_base.proofs.Basics.{all_push}
use Rattle.sync_terms.specs.Trees.{Tree, Name}
use Rattle.sync_terms.specs.declared.nodes.TermId.{TermId}
use Rattle.sync_terms.specs.Stored.{Stored, tree, IsTerm, IsForm, Extends}
use Rattle.sync_machine.specs.declared.fields.Field.{Field}
use Rattle.sync_base.specs.declared.strategies.OpMode.{OpMode}
use Rattle.sync_base.specs.declared.strategies.OpMode.TheVariants as mode
use Rattle.sync_machine.specs.declared.machine.Invariant.{Invariant}
use Rattle.sync_machine.specs.Machines.{InvariantTree}
use Rattle.sync_machine.specs.States.{sort_of, blank, first_values}
use Rattle.sync_machine.specs.Views.{invariant_tree}
use Rattle.sync_kernel_facts.specs.Facts.{Fact}
use Rattle.sync_kernel.specs.Hypotheses.{AreReady, known_in}
use Rattle.sync_induct.specs.declared.walks.Walk.{Walk}
use Rattle.sync_induct.specs.Duties.{invariant_facts, base_facts}
use Rattle.sync_induct.specs.Starts.{first_value, values_from}
use Rattle.sync_induct.specs.Walks.{HaveTrees, HasCome, known_of, values_of}
use Rattle.sync_induct.proofs.Lasting.{trees-stay, terms-stay, invariants-stay}

-- ---- ids with their trees

pub trees-last : (s t : Stored) (ids : List TermId) (ts : List Tree) → Extends s t → HaveTrees s ids ts → HaveTrees t ids ts
trees-last s t ids ts e h = record { terms = terms-stay s t e ids h.terms; are = trees-stay s t e ids h.terms ∙ h.are }

pub trees-push : (s t : Stored) (ids : List TermId) (ts : List Tree) (id : TermId) (x : Tree) → Extends s t → HaveTrees s ids ts → IsTerm t id → tree t id ≡ x → HaveTrees t (ids ++ id ∷ []) (ts ++ x ∷ [])
trees-push s t ids ts id x e h is same =
    let more = trees-last s t ids ts e h in
    let are = more.are in
    record { terms = all_push (IsTerm t) ids id more.terms is; are = map-append (tree t) ids (id ∷ []) ∙ (λ i. are i ++ same i ∷ []) }

-- ---- the first values

pub no-trees : (s : Stored) (m : OpMode) (ids : List TermId) → ids ≡ [] → HaveTrees s ids (values_from m 0 [])
unfolding values_from
no-trees s m ids e = record { terms = subst (λ (xs : List TermId). AllByRecursion (IsTerm s) xs) (sym e) tt; are = ap (map (tree s)) e }

values-push : (m : OpMode) (n : ℕ) (fs : List Field) (f : Field) → values_from m n (fs ++ f ∷ []) ≡ values_from m n fs ++ first_value m (n + length fs) f.strategy ∷ []
unfolding values_from
values-push m n [] f = ap (λ (k : ℕ). first_value m k f.strategy ∷ []) (sym (add-zero n))
values-push m n (g ∷ fs) f =
    let moved : suc n + length fs ≡ n + suc (length fs) = omega arith in
    ap (λ (ts : List Tree). first_value m n g.strategy ∷ ts) (values-push m (suc n) fs f ∙ ap (λ (k : ℕ). values_from m (suc n) fs ++ first_value m k f.strategy ∷ []) moved)

pub values-more : (m : OpMode) (fs : List Field) (i : ℕ) (d : Field) → i < length fs → values_from m 0 (take i fs) ++ first_value m i (get_or fs i d).strategy ∷ [] ≡ values_from m 0 (take (i + 1) fs)
values-more m fs i d lt =
    let n : 0 + length (take i fs) ≡ i = zero-add (length (take i fs)) ∙ length-take-le i fs (omega arith) in
    sym (ap (values_from m 0) (take_more fs i d lt) ∙ (values-push m 0 (take i fs) (get_or fs i d) ∙ ap (λ (k : ℕ). values_from m 0 (take i fs) ++ first_value m k (get_or fs i d).strategy ∷ []) n))

blanks : (n : ℕ) (fs : List Field) → values_from mode.Init n fs ≡ map (λ (f : Field). blank (sort_of f.strategy)) fs
unfolding values_from
blanks n [] = refl
blanks n (f ∷ fs) = ap (λ (ts : List Tree). blank (sort_of f.strategy) ∷ ts) (blanks (suc n) fs)

transition-names : (n : ℕ) (fs : List Field) → values_from mode.Transition n fs ≡ map Name (range_with_len n (length fs))
unfolding values_from
transition-names n [] = refl
transition-names n (f ∷ fs) = ap (λ (ts : List Tree). Name n ∷ ts) (transition-names (suc n) fs ∙ ap (λ (k : ℕ). map Name (range_with_len k (length fs))) (sym (add-one n)))

property-names : (n : ℕ) (fs : List Field) → values_from mode.Property n fs ≡ map Name (range_with_len n (length fs))
unfolding values_from
property-names n [] = refl
property-names n (f ∷ fs) = ap (λ (ts : List Tree). Name n ∷ ts) (property-names (suc n) fs ∙ ap (λ (k : ℕ). map Name (range_with_len k (length fs))) (sym (add-one n)))

-- all values are there
pub values-all : (m : OpMode) (fs : List Field) → values_from m 0 fs ≡ first_values fs m
values-all mode.Init fs = blanks 0 fs
values-all mode.Transition fs = transition-names 0 fs
values-all mode.Property fs = property-names 0 fs

pub values-end : (m : OpMode) (fs : List Field) (i : ℕ) → length fs ≤ i → values_from m 0 (take i fs) ≡ first_values fs m
values-end m fs i le = ap (values_from m 0) (take_all i fs le) ∙ values-all m fs

-- ---- the walk

-- nothing is known yet
pub begins : (t : Stored) (w : Walk) (ts : List Tree) → AreReady t w.hyps → known_in t w.hyps ≡ [] → HaveTrees t w.current.items ts → HasCome t w [] ts
begins t w ts ready none have = record { walk = record { ready = ready; values = have.terms }; known = none; now = have.are }

all-invariants : (m : OpMode) (is : List InvariantTree) → (m ≡ mode.Transition) ⊎ (m ≡ mode.Property) → base_facts m is ≡ invariant_facts is
all-invariants m is (inl e) = ap (λ (k : OpMode). base_facts k is) e
all-invariants m is (inr e) = ap (λ (k : OpMode). base_facts k is) e

-- the invariants have been added, over a store that had grown
pub assumed : (s t : Stored) (w v : Walk) (m : OpMode) (is : List Invariant) (ts : List Tree) → Extends s t → AllByRecursion (λ (i : Invariant). IsForm s i.form) is → (m ≡ mode.Transition) ⊎ (m ≡ mode.Property)
    → HasCome t w [] ts → HasCome t v (known_of t w ++ invariant_facts (map (invariant_tree t) is)) (values_of t w) → HasCome t v (base_facts m (map (invariant_tree s) is)) ts
assumed s t w v m is ts e forms other first h = record {
  walk = h.walk;
  known = h.known ∙ (ap (λ (k : List Fact). k ++ invariant_facts (map (invariant_tree t) is)) first.known
      ∙ (ap invariant_facts (invariants-stay s t e is forms) ∙ sym (all-invariants m (map (invariant_tree s) is) other)));
  now = h.now ∙ first.now;
}

-- an init begins with nothing
pub unassumed : (t : Stored) (w : Walk) (m : OpMode) (is : List InvariantTree) (ts : List Tree) → m ≡ mode.Init → HasCome t w [] ts → HasCome t w (base_facts m is) ts
unassumed t w m is ts init first = record { walk = first.walk; known = first.known ∙ sym (ap (λ (k : OpMode). base_facts k is) init); now = first.now }
