-- Terms that are read one after another, each paired with a parameter.
use Rattle.std.proofs.Common.{◌≡◌, ℕ, zero, suc, ◌<◌, ◌≤◌, Bool, true, false, ◌&&◌, List, [], ◌∷◌, ◌++◌, map, length, get_or, refl, ap, ◌∙◌, arith}
use Rattle.std.specs.Prelude.{not, nat_lt}
use Rattle.std.specs.List.{AllByRecursion}
use Rattle.std.proofs.lemmas.Bool.{and_from, lt-ltb, le-ltb}
use Rattle.std.proofs.lemmas.List.Folds.{list_all-append}
use Rattle.std.proofs.lemmas.List.{map_push}
use Rattle.sync_base.proofs.Basics.{all_push}
use Rattle.sync_terms.specs.declared.nodes.Sym.{Sym}
use Rattle.sync_terms.specs.declared.nodes.TermId.{TermId}
use Rattle.sync_terms.specs.Trees.{Tree, most_nodes, tree_size, replaced}
use Rattle.sync_terms.specs.Stored.{Stored, tree, IsTerm, Extends}
use Rattle.sync_terms.specs.Building.{HasTerm}
use Rattle.sync_typing_ledgers.specs.Entries.{Kept}
use Rattle.sync_typing_reading.specs.Sayings.{stands_in, AreSaidOf}
use Rattle.sync_typing_reading.proofs.Staying.{stands_more}
use Rattle.sync_kernel.specs.Taking.{all_fit}
use Rattle.sync_kernel.specs.Readings.{tree_read, ArePaired}

-- what the names say stays while the store grows
pub tree_read-more : (s t : Stored) (k : Kept) (id : TermId) → Extends s t → AreSaidOf s k → IsTerm s id → tree_read t k id ≡ tree_read s k id
tree_read-more s t k id more said stored =
    ap (λ (f : ℕ → Tree). replaced f (tree t id)) (stands_more more k said) ∙ ap (replaced (stands_in s k)) (more.terms id stored).1

abbrev Pairs : Type 0
Pairs = List (Sym × TermId)

module _ (s t : Stored) (more : Extends s t) where
  pairs_stay : (pairs : Pairs) → AllByRecursion (λ (p : Sym × TermId). IsTerm s p.1) pairs
      → map (λ (p : Sym × TermId). tree t p.1) pairs ≡ map (λ (p : Sym × TermId). tree s p.1) pairs
  pairs_stay [] h = refl
  pairs_stay (p ∷ ps) h =
      ap (λ (x : Tree). x ∷ map (λ (p : Sym × TermId). tree t p.1) ps) (more.terms p.1 h.0).1 ∙ ap (λ (xs : List Tree). tree s p.1 ∷ xs) (pairs_stay ps h.1)

  still_stored : (pairs : Pairs) → AllByRecursion (λ (p : Sym × TermId). IsTerm s p.1) pairs → AllByRecursion (λ (p : Sym × TermId). IsTerm t p.1) pairs
  still_stored [] h = tt
  still_stored (p ∷ ps) h = ((more.terms p.1 h.0).0, still_stored ps h.1)

  pub paired_more : (params : List Sym) (terms : List Tree) (pairs : Pairs) (x : Sym) (id : TermId) (term : Tree) → ArePaired s params terms pairs → HasTerm t term id
      → ArePaired t (params ++ x ∷ []) (terms ++ term ∷ []) (pairs ++ (x, id) ∷ [])
  paired_more params terms pairs x id term h is = record {
    named = map_push (λ (p : Sym × TermId). p.0) pairs (x, id) ∙ ap (λ (xs : List Sym). xs ++ x ∷ []) h.named;
    read = map_push (λ (p : Sym × TermId). tree t p.1) pairs (x, id) ∙ ap (λ (xs : List Tree). xs ++ tree t id ∷ []) (pairs_stay pairs h.stored ∙ h.read)
        ∙ ap (λ (y : Tree). terms ++ y ∷ []) is.value;
    stored = all_push (λ (p : Sym × TermId). IsTerm t p.1) pairs (x, id) (still_stored pairs h.stored) is.stored;
  }

-- ---- terms that fit

abbrev fits_one : Tree → Bool
fits_one x = not (nat_lt most_nodes (tree_size x))

pub all_fit-push : (xs : List Tree) (x : Tree) → all_fit xs ≡ true → tree_size x ≤ most_nodes → all_fit (xs ++ x ∷ []) ≡ true
all_fit-push xs x h k =
    list_all-append fits_one xs (x ∷ []) ∙ and_from (all_fit xs) (all_fit (x ∷ [])) h (and_from (fits_one x) true (ap not (le-ltb most_nodes (tree_size x) k)) refl)

pub too_large_at : (f : TermId → Tree) (ids : List TermId) (i : ℕ) (d : TermId) → i < length ids → most_nodes < tree_size (f (get_or ids i d)) → all_fit (map f ids) ≡ false
too_large_at f [] i d lt h = absurd (omega arith)
too_large_at f (x ∷ xs) zero d lt h = ap (λ (b : Bool). not b && all_fit (map f xs)) (lt-ltb most_nodes (tree_size (f x)) h)
too_large_at f (x ∷ xs) (suc i) d lt h = either (fits_one (f x)) (all_fit (map f xs)) (too_large_at f xs i d (omega arith) h)
  where
    either : (a b : Bool) → b ≡ false → (a && b) ≡ false
    either true b e = e
    either false b e = refl
