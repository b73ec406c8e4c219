-- The pairs of a closing claim, and that they substitute as it says.
use Rattle.std.proofs.Common.{◌≡◌, ℕ, zero, suc, ◌+◌, ◌<◌, ◌≤◌, Bool, true, false, List, [], ◌∷◌, ◌++◌, length, map, get_or, take, Option, Some, Result, Ok, Err, refl, sym, ap, subst, ◌∙◌, inl, inr, arith, cond, ltb, add-zero, zero-add}
use Rattle.std.specs.Prelude.{nat_eq, IfOk, if◌then◌else◌}
use Rattle.std.specs.Option.{option_map_or}
use Rattle.std.specs.List.{AllByRecursion, list_any}
use Rattle.std.proofs.lemmas.Bool.{cases_Bool, eqb-true, eq-eqb, ne_eqb, ltb-true, ltb-false}
use Rattle.std.proofs.lemmas.List.{take_more, take_all, map-append, length-take-le}
use Rattle.sync_terms.specs.declared.nodes.Sym.{Sym}
use Rattle.sync_terms.specs.declared.nodes.TermId.{TermId}
use Rattle.sync_terms.specs.declared.nodes.FormId.{FormId}
use Rattle.sync_terms.specs.declared.store.TermStop.{TermStop}
use Rattle.sync_terms.specs.Trees.{Tree, Name, Nil, replaced_in}
use Rattle.sync_terms.specs.declared.nodes.Node.TheVariants as node
use Rattle.sync_terms.specs.Stored.{Stored, tree, formula, shape, IsTerm, IsForm, Extends}
use Rattle.sync_terms.specs.Substitution.{term_of, substitution}
use Rattle.sync_machine.specs.declared.machine.Invariant.{Invariant}
use Rattle.sync_machine.specs.Scope.{IsNameSymbol}
use Rattle.sync_machine.specs.Views.{invariant_tree, symbols_of}
use Rattle.sync_induct.specs.Closing.{field_pairs, dollar_pair, pair_tree, HavePairs}
use Rattle.sync_induct.specs.Duties.{closing, closed_form}

-- the fields, numbered from n, each with its value as a tree
unfoldable pub field_trees : ℕ → List Tree → List (ℕ × Tree)
field_trees n [] = []
field_trees n (t ∷ ts) = (n, t) ∷ field_trees (suc n) ts

-- the tree of the first pair with a symbol; the symbol itself where there is none
unfoldable pub tree_of : List (ℕ × Tree) → ℕ → Tree
tree_of [] x = Name x
tree_of (p ∷ ps) x = if nat_eq p.0 x then p.1 else tree_of ps x

-- ---- pairs that are added at the end

field_pairs-push : (n : ℕ) (ts : List TermId) (t : TermId) → field_pairs n (ts ++ t ∷ []) ≡ field_pairs n ts ++ (record { 0 = n + length ts }, t) ∷ []
unfolding field_pairs
field_pairs-push n [] t = ap (λ (k : ℕ). (record { 0 = k }, t) ∷ []) (sym (add-zero n))
field_pairs-push n (u ∷ ts) t =
    let moved : suc n + length ts ≡ n + suc (length ts) = omega arith in
    ap (λ (ps : List (Sym × TermId)). (record { 0 = n }, u) ∷ ps) (field_pairs-push (suc n) ts t ∙ ap (λ (k : ℕ). field_pairs (suc n) ts ++ (record { 0 = k }, t) ∷ []) moved)

pub no-pairs : [] ≡ field_pairs 0 []
unfolding field_pairs
no-pairs = refl

pub pairs-more : (ts : List TermId) (i : ℕ) (d : TermId) → i < length ts → field_pairs 0 (take i ts) ++ (record { 0 = i }, get_or ts i d) ∷ [] ≡ field_pairs 0 (take (i + 1) ts)
pairs-more ts i d lt =
    let n : 0 + length (take i ts) ≡ i = zero-add (length (take i ts)) ∙ length-take-le i ts (omega arith) in
    sym (ap (field_pairs 0) (take_more ts i d lt) ∙ (field_pairs-push 0 (take i ts) (get_or ts i d) ∙ ap (λ (k : ℕ). field_pairs 0 (take i ts) ++ (record { 0 = k }, get_or ts i d) ∷ []) n))

pub name-at : (xs : List Sym) (i : ℕ) (d : Sym) → i < length xs → AllByRecursion IsNameSymbol (symbols_of xs) → IsNameSymbol (get_or xs i d).0
name-at [] i d lt h = absurd (omega arith)
name-at (x ∷ xs) zero d lt h = h.0
name-at (x ∷ xs) (suc i) d lt h = name-at xs i d (omega arith) h.1

pub dollars-more : (xs : List Sym) (i : ℕ) (d : Sym) → i < length xs → map dollar_pair (symbols_of (take i xs)) ++ dollar_pair (get_or xs i d).0 ∷ [] ≡ map dollar_pair (symbols_of (take (i + 1) xs))
dollars-more xs i d lt =
    sym (ap (λ (ys : List Sym). map dollar_pair (symbols_of ys)) (take_more xs i d lt)
    ∙ (ap (map dollar_pair) (map-append (λ (x : Sym). x.0) (take i xs) (get_or xs i d ∷ [])) ∙ map-append dollar_pair (symbols_of (take i xs)) ((get_or xs i d).0 ∷ [])))

pub dollars-all : (xs : List Sym) (i : ℕ) → length xs ≤ i → map dollar_pair (symbols_of (take i xs)) ≡ map dollar_pair (symbols_of xs)
dollars-all xs i le = ap (λ (ys : List Sym). map dollar_pair (symbols_of ys)) (take_all i xs le)

-- ---- their trees

-- the tree of a name's node
pub named : (s : Stored) (x : Sym) (n : ℕ) → x.0 ≡ n → shape s (node.Name x) ≡ Name n
unfolding shape
named s x n e = ap Name e

pub have-fields : (s : Stored) (n : ℕ) (ids : List TermId) → AllByRecursion (IsTerm s) ids → HavePairs s (field_pairs n ids) (field_trees n (map (tree s) ids))
unfolding field_pairs field_trees
have-fields s n [] h = record { terms = tt; are = refl }
have-fields s n (t ∷ ts) h =
    let more = have-fields s (suc n) ts h.1 in
    record { terms = (h.0, more.terms); are = ap (λ (ps : List (ℕ × Tree)). (n, tree s t) ∷ ps) more.are }

terms-last : (s t : Stored) (ps : List (Sym × TermId)) → Extends s t → AllByRecursion (λ (p : Sym × TermId). IsTerm s p.1) ps → AllByRecursion (λ (p : Sym × TermId). IsTerm t p.1) ps
terms-last s t [] e h = tt
terms-last s t (p ∷ ps) e h = ((e.terms p.1 h.0).0, terms-last s t ps e h.1)

trees-last : (s t : Stored) (ps : List (Sym × TermId)) → Extends s t → AllByRecursion (λ (p : Sym × TermId). IsTerm s p.1) ps → map (pair_tree t) ps ≡ map (pair_tree s) ps
trees-last s t [] e h = refl
trees-last s t (p ∷ ps) e h = let one = (e.terms p.1 h.0).1 in let more = trees-last s t ps e h.1 in λ i. (p.0.0, one i) ∷ more i

terms-push : (t : Stored) (ps : List (Sym × TermId)) (q : Sym × TermId) → AllByRecursion (λ (p : Sym × TermId). IsTerm t p.1) ps → IsTerm t q.1 → AllByRecursion (λ (p : Sym × TermId). IsTerm t p.1) (ps ++ q ∷ [])
terms-push t [] q h one = (one, tt)
terms-push t (p ∷ ps) q h one = (h.0, terms-push t ps q h.1 one)

-- one more pair, over a store that has grown
pub pairs-push : (s t : Stored) (ps : List (Sym × TermId)) (ts : List (ℕ × Tree)) (q : Sym × TermId) (x : Tree) → Extends s t → HavePairs s ps ts → IsTerm t q.1 → tree t q.1 ≡ x → HavePairs t (ps ++ q ∷ []) (ts ++ (q.0.0, x) ∷ [])
pairs-push s t ps ts q x e h is same =
    let are = trees-last s t ps e h.terms ∙ h.are in
    record {
      terms = terms-push t ps q (terms-last s t ps e h.terms) is;
      are = map-append (pair_tree t) ps (q ∷ []) ∙ (λ i. are i ++ (q.0.0, same i) ∷ []);
    }

-- the pairs of fields and parameters
pub all-pairs : (s t : Stored) (ids values : List TermId) (first last pairs : List (Sym × TermId)) (params given : List Sym) → AllByRecursion (IsTerm s) ids → first ≡ field_pairs 0 values → values ≡ ids
    → ((ps : List (ℕ × Tree)) → HavePairs s first ps → HavePairs t last (ps ++ map dollar_pair (symbols_of given))) → given ≡ params → pairs ≡ last
    → HavePairs t pairs (field_trees 0 (map (tree s) ids) ++ map dollar_pair (symbols_of params))
all-pairs s t ids values first last pairs params given terms is same more params_are last_is =
    let fields = subst (λ (ps : List (Sym × TermId)). HavePairs s ps (field_trees 0 (map (tree s) ids))) (sym (is ∙ ap (field_pairs 0) same)) (have-fields s 0 ids terms) in
    subst (λ (ps : List (Sym × TermId)). HavePairs t ps (field_trees 0 (map (tree s) ids) ++ map dollar_pair (symbols_of params))) (sym last_is)
    (subst (λ (xs : List Sym). HavePairs t last (field_trees 0 (map (tree s) ids) ++ map dollar_pair (symbols_of xs))) params_are (more (field_trees 0 (map (tree s) ids)) fields))

-- ---- what they substitute

chosen : (s : Stored) (b : Bool) (a : TermId) (o : Option TermId) (x : ℕ) → option_map_or (tree s) (cond b (Some a) o) (Name x) ≡ cond b (tree s a) (option_map_or (tree s) o (Name x))
chosen s true a o x = refl
chosen s false a o x = refl

substitution-trees : (s : Stored) (ps : List (Sym × TermId)) (x : ℕ) → substitution s ps x ≡ tree_of (map (pair_tree s) ps) x
unfolding tree_of
substitution-trees s [] x = refl
substitution-trees s (p ∷ ps) x = chosen s (nat_eq p.0.0 x) p.1 (term_of ps x) x ∙ ap (λ (t : Tree). cond (nat_eq p.0.0 x) (tree s p.1) t) (substitution-trees s ps x)

pick : (b : Bool) (x y : Tree) → b ≡ true → cond b x y ≡ x
pick b x y e = rw e

skip : (b : Bool) (x y : Tree) → b ≡ false → cond b x y ≡ y
skip b x y e = rw e

-- the value of a field
field-found : (n k : ℕ) (ts : List Tree) (rest : List (ℕ × Tree)) → k < length ts → tree_of (field_trees n ts ++ rest) (n + k) ≡ get_or ts k Nil
unfolding field_trees tree_of
field-found n k [] rest lt = absurd (omega arith)
field-found n zero (t ∷ ts) rest lt = pick (nat_eq n (n + 0)) t _ (eq-eqb n (n + 0) (sym (add-zero n)))
field-found n (suc k) (t ∷ ts) rest lt =
    let apart : nat_eq n (n + suc k) ≡ false = ne_eqb n (n + suc k) (λ e. omega arith) in
    let moved : n + suc k ≡ suc n + k = omega arith in
    skip (nat_eq n (n + suc k)) t _ apart ∙ (ap (tree_of (field_trees (suc n) ts ++ rest)) moved ∙ field-found (suc n) k ts rest (omega arith))

-- a symbol behind the fields
field-passed : (n x : ℕ) (ts : List Tree) (rest : List (ℕ × Tree)) → n + length ts ≤ x → tree_of (field_trees n ts ++ rest) x ≡ tree_of rest x
unfolding field_trees tree_of
field-passed n x [] rest le = refl
field-passed n x (t ∷ ts) rest le =
    let apart : nat_eq n x ≡ false = ne_eqb n x (λ e. omega arith) in
    skip (nat_eq n x) t _ apart ∙ field-passed (suc n) x ts rest (omega arith)

same-test : (x p : ℕ) → nat_eq p x ≡ nat_eq x p
same-test x p =
    elim (cases_Bool (nat_eq x p)) [
      | inl t ↦ eq-eqb p x (sym (eqb-true x p t)) ∙ sym t
      | inr f ↦ ne_eqb p x (λ e. let same : nat_eq x p ≡ true = eq-eqb x p (sym e) in cc) ∙ sym f
    ]

dollars-found : (params : List ℕ) (x : ℕ) → tree_of (map dollar_pair params) x ≡ cond (list_any (nat_eq x) params) (Name (suc x)) (Name x)
unfolding tree_of
dollars-found [] x = refl
dollars-found (p ∷ ps) x =
    elim (cases_Bool (nat_eq x p)) [
      | inl t ↦ let same : x ≡ p = eqb-true x p t in
          pick (nat_eq p x) (Name (suc p)) _ (same-test x p ∙ t) ∙ (ap (λ (y : ℕ). Name (suc y)) (sym same) ∙ sym (pick (list_any (nat_eq x) (p ∷ ps)) (Name (suc x)) (Name x) (rw t refl)))
      | inr f ↦ skip (nat_eq p x) (Name (suc p)) _ (same-test x p ∙ f) ∙ (dollars-found ps x ∙ ap (λ (b : Bool). cond b (Name (suc x)) (Name x)) (sym (rw f refl)))
    ]

closing-trees : (params : List ℕ) (last : List Tree) (x : ℕ) → tree_of (field_trees 0 last ++ map dollar_pair params) x ≡ closing params last x
closing-trees params last x =
    elim (cases_Bool (ltb x (length last))) [
      | inl t ↦ ap (tree_of (field_trees 0 last ++ map dollar_pair params)) (sym (zero-add x)) ∙ (field-found 0 x last (map dollar_pair params) (ltb-true _ _ t)
          ∙ sym (pick (ltb x (length last)) (get_or last x Nil) (cond (list_any (nat_eq x) params) (Name (suc x)) (Name x)) t))
      | inr f ↦ field-passed 0 x last (map dollar_pair params) (let le : length last ≤ x = ltb-false _ _ f in omega arith) ∙ (dollars-found params x
          ∙ sym (skip (ltb x (length last)) (get_or last x Nil) (cond (list_any (nat_eq x) params) (Name (suc x)) (Name x)) f))
    ]

-- the pairs of an invariant close it
pub closes : (s t : Stored) (pairs : List (Sym × TermId)) (last : List Tree) (i : Invariant) → Extends s t → IsForm s i.form → HavePairs t pairs (field_trees 0 last ++ map dollar_pair (symbols_of i.params))
    → replaced_in (substitution t pairs) (formula t i.form) ≡ closed_form last (invariant_tree s i)
closes s t pairs last i e form h =
    let as_trees = λ (x : ℕ). substitution-trees t pairs x ∙ (ap (λ (ts : List (ℕ × Tree)). tree_of ts x) h.are ∙ closing-trees (symbols_of i.params) last x) in
    let same = (e.forms i.form form).1 in
    λ j. replaced_in (λ x. as_trees x j) (same j)

-- what a substitution answers, read in the store before
pub closes-to : (s t u : Stored) (r : Result FormId TermStop) (pairs : List (Sym × TermId)) (last : List Tree) (i : Invariant) → Extends s t → IsForm s i.form → HavePairs t pairs (field_trees 0 last ++ map dollar_pair (symbols_of i.params))
    → IfOk r (λ id. IsForm u id × (formula u id ≡ replaced_in (substitution t pairs) (formula t i.form))) → IfOk r (λ id. IsForm u id × (formula u id ≡ closed_form last (invariant_tree s i)))
closes-to s t u (Ok id) pairs last i e form h done = (done.0, done.1 ∙ closes s t pairs last i e form h)
closes-to s t u (Err stop) pairs last i e form h done = tt
