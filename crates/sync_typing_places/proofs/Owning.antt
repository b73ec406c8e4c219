-- Names that come to stand for themselves, one by one.
use Rattle.std.proofs.Common.{◌≡◌, ℕ, suc, ◌+◌, ◌*◌, ◌<◌, Bool, true, false, ◌||◌, nat_eq, if◌then◌else◌, List, [], ◌∷◌, ◌++◌, length, take, get_or, Option, Some, None, option_map, nat_lt, append_assoc, refl, sym, ap, ◌∙◌, arith}
use Rattle.std.proofs.Math.Seq.{take-length, take-suc}
use Rattle.std.specs.Prelude.{unwrap_or}
use Rattle.std.proofs.lemmas.Bool.{eqb-true, le-ltb}
use Rattle.std.proofs.lemmas.List.{append-nil, map_push}
use Rattle.std.proofs.lemmas.List.Folds.{list_any-append}
use Rattle.std.specs.List.{list_any}
use Rattle.sync_machine.specs.Naming.{is_in}
use Rattle.sync_terms.specs.Stored.{tree, Extends, Stored}
use Rattle.sync_terms.specs.Symbols.{name_symbol}
use Rattle.sync_terms.specs.Trees.{Name, Tree}
use Rattle.sync_terms.specs.declared.nodes.TermId.{TermId}
use Rattle.sync_thread_machine.specs.ProgramSymbols.{symbols}
use Rattle.sync_typing.specs.Environments.{bounds, know, name_as, top, Env, TokenTree}
use Rattle.sync_typing.specs.Keeps.{local_bounds, renewed, with_own}
use Rattle.sync_typing_places.specs.declared.places.Place.{Place}
use Rattle.sync_typing_places.specs.Places.{env_of, own_bounds, with_hand, Becomes, IsOwn, IsRenewed}
use Rattle.sync_typing_places.specs.Hands.{Begins, Holds, IsHandOf, IsWhole}
use Rattle.sync_kernel.specs.declared.hypotheses.Hypotheses.{Hypotheses}
use Rattle.sync_kernel.specs.Hypotheses.{known_in, AreReady}
use Rattle.sync_kernel_facts.specs.Facts.{Fact}
use Rattle.sync_typing_places.proofs.Placing.{becomes_as, becomes_by, begins_on, hand_is, holds_own, stays, still_same, terms_are}

abbrev pub with_names : Env → List ℕ → Env
with_names e ns = with_hand e (with_own ns e.terms) e.hand

own_choice : (y x : ℕ) (a b : Bool) (o : Option Tree) → nat_eq y x ≡ b
    → (if b then Some (Name x) else (if a then Some (Name y) else o)) ≡ (if a || (b || false) then Some (Name y) else o)
own_choice y x true true o is = ap (λ (z : ℕ). Some (Name z)) (sym (eqb-true y x is))
own_choice y x true false o is = refl
own_choice y x false true o is = ap (λ (z : ℕ). Some (Name z)) (sym (eqb-true y x is))
own_choice y x false false o is = refl

-- one name more stands for itself
pub own_more : (names : List ℕ) (i d : ℕ) (before : ℕ → Option Tree) → i < length names
    → (λ y. if nat_eq y (name_symbol (get_or names i d)) then Some (Name (name_symbol (get_or names i d))) else with_own (take i names) before y)
    ≡ with_own (take (i + 1) names) before
own_more names i d before within = λ j y. at y j
  where
    at : (y : ℕ) → (if nat_eq y (name_symbol (get_or names i d)) then Some (Name (name_symbol (get_or names i d))) else with_own (take i names) before y)
        ≡ with_own (take (i + 1) names) before y
    at y =
        let x = name_symbol (get_or names i d) in
        let e : suc i ≡ i + 1 = omega arith in
        own_choice y x (is_in y (symbols (take i names))) (nat_eq y x) (before y) refl
        ∙ ap (λ (b : Bool). if b then Some (Name y) else before y)
        (sym (list_any-append (nat_eq y) (symbols (take i names)) (x ∷ []))
        ∙ ap (λ (xs : List ℕ). list_any (nat_eq y) xs)
        (sym (map_push name_symbol (take i names) (get_or names i d))
        ∙ ap symbols (sym (take-suc names i d within) ∙ ap (λ (k : ℕ). take k names) e)))

pub owned_on : (s t u : Stored) (p q r : Place) (names : List ℕ) (i d x : ℕ) (id : TermId) → i < length names → x ≡ name_symbol (get_or names i d)
    → Extends t u → IsOwn t q → tree u id ≡ Name x → Becomes s t p q (with_names (env_of s p) (take i names))
    → Becomes u u q r (name_as x (tree u id) (env_of u q)) → Becomes s u p r (with_names (env_of s p) (take (i + 1) names))
owned_on s t u p q r names i d x id within symbol more own is before now =
    let still = stays t u q more own in
    becomes_as s u p r (name_as x (tree u id) (env_of u q)) (with_names (env_of s p) (take (i + 1) names))
    ((λ j. name_as (symbol j) ((is ∙ ap (λ (y : ℕ). Name y) symbol) j) ((still.env ∙ before.env) j))
    ∙ ap (λ (terms : ℕ → Option Tree). with_hand (env_of s p) terms (env_of s p).hand) (own_more names i d (env_of s p).terms within))
    (becomes_by s u u p q r (env_of t q) (name_as x (tree u id) (env_of u q))
    (becomes_by s t u p q q (with_names (env_of s p) (take i names)) (env_of t q) before still) now)

pub owned_all : (s t : Stored) (p q : Place) (names : List ℕ) (i : ℕ) → i ≡ length names
    → Becomes s t p q (with_names (env_of s p) (take i names)) → Becomes s t p q (with_names (env_of s p) names)
owned_all s t p q names i all before =
    becomes_as s t p q (with_names (env_of s p) (take i names)) (with_names (env_of s p) names)
    (ap (λ (ns : List ℕ). with_names (env_of s p) ns) (ap (λ (k : ℕ). take k names) all ∙ take-length names)) before

-- ---- locals that are words

own_bounds_more : (xs : List ℕ) (x : ℕ) → own_bounds (xs ++ x ∷ []) ≡ own_bounds xs ++ bounds (name_symbol x) (Name (name_symbol x)) top
own_bounds_more [] x = append-nil (bounds (name_symbol x) (Name (name_symbol x)) top)
own_bounds_more (y ∷ ys) x =
    ap (λ (fs : List Fact). bounds (name_symbol y) (Name (name_symbol y)) top ++ fs) (own_bounds_more ys x)

pub known_on : (s t u v : Stored) (p q r : Place) (locals : List ℕ) (i d x : ℕ) (id : TermId) → i < length locals
    → x ≡ name_symbol (get_or locals i d) → Extends t u → IsOwn t q → tree u id ≡ Name x
    → Becomes s t p q (know (own_bounds (take i locals)) (env_of s p))
    → Becomes u v q r (know (bounds x (tree u id) top) (env_of u q))
    → Becomes s v p r (know (own_bounds (take (i + 1) locals)) (env_of s p))
known_on s t u v p q r locals i d x id within symbol more own is before now =
    let still = stays t u q more own in
    let y : ℕ = name_symbol (get_or locals i d) in
    let e : suc i ≡ i + 1 = omega arith in
    let fs : List Fact = own_bounds (take i locals) in
    becomes_as s v p r (know (bounds x (tree u id) top) (env_of u q)) (know (own_bounds (take (i + 1) locals)) (env_of s p))
    ((λ j. know (bounds (symbol j) ((is ∙ ap (λ (z : ℕ). Name z) symbol) j) top) ((still.env ∙ before.env) j))
    ∙ ap (λ (gs : List Fact). record { terms = (env_of s p).terms; hand = (env_of s p).hand; facts = gs; fresh = (env_of s p).fresh })
    (append_assoc (env_of s p).facts fs (bounds y (Name y) top))
    ∙ ap (λ (gs : List Fact). know gs (env_of s p))
    (sym (own_bounds_more (take i locals) (get_or locals i d))
    ∙ ap own_bounds (sym (take-suc locals i d within) ∙ ap (λ (k : ℕ). take k locals) e)))
    (becomes_by s u v p q r (env_of t q) (know (bounds x (tree u id) top) (env_of u q))
    (becomes_by s t u p q q (know fs (env_of s p)) (env_of t q) before still) now)

pub known_none : (s : Stored) (p : Place) → IsOwn s p → Becomes s s p p (know [] (env_of s p))
known_none s p own =
    becomes_as s s p p (env_of s p) (know [] (env_of s p))
    (ap (λ (gs : List Fact). record { terms = (env_of s p).terms; hand = (env_of s p).hand; facts = gs; fresh = (env_of s p).fresh })
    (sym (append-nil (env_of s p).facts)))
    (still_same s p own)

pub known_all : (s t : Stored) (p q : Place) (locals : List ℕ) (i : ℕ) → i ≡ length locals
    → Becomes s t p q (know (own_bounds (take i locals)) (env_of s p)) → Becomes s t p q (know (own_bounds locals) (env_of s p))
known_all s t p q locals i all before =
    becomes_as s t p q (know (own_bounds (take i locals)) (env_of s p)) (know (own_bounds locals) (env_of s p))
    (ap (λ (ns : List ℕ). know (own_bounds ns) (env_of s p)) (ap (λ (k : ℕ). take k locals) all ∙ take-length locals)) before

-- ---- behind a keep

own_term : (b : Bool) (x : ℕ) (o : Option Tree) → unwrap_or (if b then Some (Name x) else (if false then o else option_map (λ (t : Tree). Name x) o)) (Name x) ≡ Name x
own_term true x o = refl
own_term false x None = refl
own_term false x (Some t) = refl

own_local : (names : List ℕ) (before : ℕ → Option Tree) (n : ℕ)
    → unwrap_or (with_own names (renewed before) (name_symbol n)) (Name (name_symbol n)) ≡ Name (name_symbol n)
own_local names before n =
    let far : nat_lt (name_symbol n) 64 ≡ false = le-ltb (64 + 4 * n) 64 (omega arith) in
    ap (λ (b : Bool). unwrap_or (if is_in (name_symbol n) (symbols names) then Some (Name (name_symbol n))
    else (if b then before (name_symbol n) else option_map (λ (t : Tree). Name (name_symbol n)) (before (name_symbol n)))) (Name (name_symbol n))) far
    ∙ own_term (is_in (name_symbol n) (symbols names)) (name_symbol n) (before (name_symbol n))

locals_own : (names : List ℕ) (before : ℕ → Option Tree) (locals : List ℕ)
    → own_bounds locals ≡ local_bounds (with_own names (renewed before)) locals
locals_own names before [] = refl
locals_own names before (x ∷ xs) = λ j.
    bounds (name_symbol x) (sym (own_local names before x) j) top ++ locals_own names before xs j

pub is_renewed : (s t u : Stored) (old bared owned new : Place) (names locals : List ℕ) (out : Hypotheses) → out ≡ old.known
    → Holds s bared.hand (renewed (env_of s old).terms) (λ n. None) → IsWhole bared.hand → IsHandOf s bared.hand → Begins old.hand bared.hand
    → AreReady s bared.known → known_in s bared.known ≡ [] → bared.fresh ≡ old.fresh
    → Becomes s t bared owned (with_names (env_of s bared) names)
    → Becomes t u owned new (know (own_bounds locals) (env_of t owned))
    → IsRenewed s u old new names locals out
unfolding env_of
is_renewed s t u old bared owned new names locals out is_old holds whole ids begins ready none fresh one two = record {
  own = two.own;
  env = two.env ∙ ap (λ (e : Env). know (own_bounds locals) e) one.env
      ∙ (λ j. record {
        terms = with_own names (sym (terms_are s bared.hand (renewed (env_of s old).terms) (λ n. None) holds) j);
        hand = sym (hand_is s bared.hand (renewed (env_of s old).terms) (λ n. None) holds) j;
        facts = none j ++ locals_own names (env_of s old).terms locals j;
        fresh = fresh j;
      });
  leads = begins_on old.hand bared.hand new.hand begins (begins_on bared.hand owned.hand new.hand one.leads two.leads);
  known = is_old;
}

pub own_bare : (s : Stored) (bared : Place) (terms : ℕ → Option Tree) (hand : ℕ → Option TokenTree) → Holds s bared.hand terms hand
    → IsWhole bared.hand → IsHandOf s bared.hand → AreReady s bared.known → IsOwn s bared
own_bare s bared terms hand holds whole ids ready =
    record { whole = whole; ids = ids; holds = holds_own s bared.hand terms hand holds; ready = ready }
