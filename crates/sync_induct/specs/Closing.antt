-- The claim that an invariant is kept, as a substitution by pairs of symbols and terms.
use Rattle.std.specs.Prelude.{◌≡◌, ℕ, suc, List, [], ◌∷◌, map, Bool, Some, slice_get}
use Rattle.std.specs.List.{AllByRecursion}
use Rattle.sync_terms.specs.declared.nodes.Sym.{Sym}
use Rattle.sync_terms.specs.declared.nodes.TermId.{TermId}
use Rattle.sync_terms.specs.Symbols.{dollar_symbol}
use Rattle.sync_terms.specs.Trees.{Tree, Name}
use Rattle.sync_terms.specs.Stored.{Stored, tree, IsTerm, IsForm}
use Rattle.sync_machine.specs.declared.machine.Invariant.{Invariant}
use Rattle.sync_machine.specs.Machines.{OperationTree, InvariantTree}
use Rattle.sync_machine.specs.Scope.{IsNameSymbol}
use Rattle.sync_machine.specs.Views.{symbols_of}
use Rattle.sync_rules.specs.Obligations.{has_to_keep}
use Rattle.sync_terms.specs.declared.proofs.Claim.TheVariants.{Keeps}
use Rattle.sync_induct.specs.declared.index.Title.{Title}
use Rattle.sync_induct.specs.Titles.{title}

-- the fields, numbered from n, each with its value
unfoldable pub field_pairs : ℕ → List TermId → List (Sym × TermId)
field_pairs n [] = []
field_pairs n (t ∷ ts) = (record { 0 = n }, t) ∷ field_pairs (suc n) ts

-- `$p` for the parameter p
abbrev pub dollar_pair : ℕ → ℕ × Tree
dollar_pair p = (p, Name (dollar_symbol p))

-- a pair of a store, with its tree
abbrev pub pair_tree : Stored → Sym × TermId → ℕ × Tree
pair_tree s p = (p.0.0, tree s p.1)

-- pairs of a store with these trees
pub record HavePairs (s : Stored) (pairs : List (Sym × TermId)) (trees : List (ℕ × Tree)) : Type 0 where
  pub terms : AllByRecursion (λ (p : Sym × TermId). IsTerm s p.1) pairs
  pub are : map (pair_tree s) pairs ≡ trees

-- an invariant whose formula is of the store, and whose parameters are names of the text
pub record IsKeepable (s : Stored) (i : Invariant) : Type 0 where
  pub form : IsForm s i.form
  pub names : AllByRecursion IsNameSymbol (symbols_of i.params)

-- the titles that are wanted of an operation are those of the invariants that it has to keep
abbrev pub AreWanted : (Title → Bool) → ℕ → OperationTree → List InvariantTree → Type 0
AreWanted is_wanted op o is = (j : ℕ) (i : InvariantTree) → slice_get is j ≡ Some i → is_wanted (title op (Keeps j)) ≡ has_to_keep o i
