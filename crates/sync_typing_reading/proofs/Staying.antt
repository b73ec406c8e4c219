-- What a ledger says stays while the store grows.
use Rattle.std.proofs.Common.{◌≡◌, ℕ, refl, ap}
use Rattle.std.specs.Prelude.{unwrap_or, Option}
use Rattle.sync_terms.specs.declared.nodes.TermId.{TermId}
use Rattle.sync_terms.specs.Stored.{Stored, IsTerm, Extends}
use Rattle.sync_terms.specs.Trees.{Tree, Name}
use Rattle.sync_typing_ledgers.specs.Entries.{Kept}
use Rattle.sync_typing_reading.specs.declared.sayings.Saying.{Saying}
use Rattle.sync_typing_reading.specs.declared.sayings.Saying.TheVariants as says
use Rattle.sync_typing_reading.specs.Sayings.{said_in, said_tree, tree_in, stands_in, AreSaidOf}

module _ {s t : Stored} (more : Extends s t) where
  said_more : (x : ℕ) (w : Saying) → ((a : TermId) → w ≡ says.Term a → IsTerm s a) → said_tree t x w ≡ said_tree s x w
  said_more x says.Nothing h = refl
  said_more x says.Itself h = refl
  said_more x (says.Term a) h = ap (λ (u : Tree). Option.Some u) (more.terms a (h a refl)).1

  pub tree_more : (k : Kept) → AreSaidOf s k → (x : ℕ) → tree_in t k x ≡ tree_in s k x
  tree_more k said x = said_more x (said_in k x) (said x)

  pub stands_more : (k : Kept) → AreSaidOf s k → stands_in t k ≡ stands_in s k
  stands_more k said i x = unwrap_or (tree_more k said x i) (Name x)

  pub AreSaidOf-more : (k : Kept) → AreSaidOf s k → AreSaidOf t k
  AreSaidOf-more k said x a e = (more.terms a (said x a e)).0
