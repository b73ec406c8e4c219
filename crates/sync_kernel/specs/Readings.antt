-- What a step names, with what its symbols stand for by a ledger.
use Rattle.std.specs.Prelude.{◌≡◌, List, map}
use Rattle.std.specs.List.{AllByRecursion}
use Rattle.sync_terms.specs.declared.nodes.Sym.{Sym}
use Rattle.sync_terms.specs.declared.nodes.TermId.{TermId}
use Rattle.sync_terms.specs.declared.nodes.FormId.{FormId}
use Rattle.sync_terms.specs.declared.scripts.Block.{Block}
use Rattle.sync_terms.specs.declared.scripts.ScriptStep.{ScriptStep}
use Rattle.sync_terms.specs.Trees.{Tree, Formula, replaced, replaced_in}
use Rattle.sync_terms.specs.Stored.{Stored, tree, formula, IsTerm}
use Rattle.sync_terms.specs.Plans.{Plan, plan_of}
use Rattle.sync_typing_ledgers.specs.Entries.{Kept}
use Rattle.sync_typing_reading.specs.Sayings.{stands_in}
use Rattle.sync_kernel.specs.Replaced.{plan_replaced}
use Rattle.sync_kernel.specs.Scripts.{then_of}

abbrev pub tree_read : Stored → Kept → TermId → Tree
tree_read s names id = replaced (stands_in s names) (tree s id)

abbrev pub trees_read : Stored → Kept → List TermId → List Tree
trees_read s names ids = map (tree_read s names) ids

abbrev pub form_read : Stored → Kept → FormId → Formula
form_read s names id = replaced_in (stands_in s names) (formula s id)

abbrev pub plan_read : Stored → Kept → Block → Plan
plan_read s names block = plan_replaced (stands_in s names) (plan_of s block)

-- a step before the rest of its block
abbrev pub then_read : Stored → Kept → ScriptStep → Plan → Plan
then_read s names step rest = plan_replaced (stands_in s names) (then_of s step rest)

-- each symbol with the id of the term at its place
pub record ArePaired (s : Stored) (symbols : List Sym) (terms : List Tree) (pairs : List (Sym × TermId)) : Type 0 where
  pub named : map (λ (p : Sym × TermId). p.0) pairs ≡ symbols
  pub read : map (λ (p : Sym × TermId). tree s p.1) pairs ≡ terms
  pub stored : AllByRecursion (λ (p : Sym × TermId). IsTerm s p.1) pairs
