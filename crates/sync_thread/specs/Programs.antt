-- A program as plain trees, with trees in the place of ids.
use Rattle.std.specs.Prelude.{ℕ, suc, Bool, true, false, ◌&&◌, ◌||◌, nat_eq, List, [], ◌∷◌, length, Option, Some, None}
use Rattle.std.specs.Prelude.{is_none}
use Rattle.std.specs.List.{list_any}
use Rattle.sync_terms.specs.Trees.{Tree, Formula}
use Rattle.sync_terms.specs.Plans.{Plan}
use Rattle.sync_thread.specs.declared.operands.Opd.{Opd}
use Rattle.sync_thread.specs.declared.operands.Cond.{Cond}
use Rattle.sync_thread.specs.declared.operands.Calc.{Calc}
use Rattle.sync_thread.specs.declared.operands.WordOp.{WordOp}
use Rattle.sync_thread.specs.declared.operands.Tok.{Tok}
use Rattle.sync_thread.specs.Control.{Forms, Stms}

-- a proof script, with the line of its `by`
pub record ScriptTree : Type 0 where
  pub plan : Plan
  pub line : ℕ

-- an index into an array of words or cells
pub record IndexTree : Type 0 where
  pub operand : Opd
  pub scripts : List ScriptTree

-- a token's form: the field, none for a permission, with key and value where the field has them
pub record ShapeTree : Type 0 where
  pub field : Option ℕ
  pub key : Option Tree
  pub value : Option Tree

pub record ClauseTree : Type 0 where
  pub shape : ShapeTree
  pub guard : Option Formula
  pub line : ℕ

pub record WordTree : Type 0 where
  pub name : ℕ
  pub len : ℕ
  pub init : ℕ
  pub names : List ℕ
  pub clauses : List ClauseTree
  pub fact : Option Formula
  pub line : ℕ

abbrev pub is_unguarded : ClauseTree → Bool
is_unguarded c = is_none c.guard

-- the guarded clauses, numbered from n on, are all among these
abbrev pub all_decided : List ℕ → ℕ → List ClauseTree → Bool
all_decided ns n [] = true
all_decided ns n (c ∷ cs) = (is_unguarded c || list_any (nat_eq n) ns) && all_decided ns (suc n) cs

-- a word without clauses and fact
abbrev pub is_unclaimed : WordTree → Bool
is_unclaimed w = of w.clauses w.fact where
  of : List ClauseTree → Option Formula → Bool
  of [] None = true
  of [] (Some f) = false
  of (c ∷ cs) f = false

pub record CellTree : Type 0 where
  pub name : ℕ
  pub len : ℕ
  pub init : ℕ
  pub line : ℕ

pub data DeclTree : Type 0 where
  Word : (word : WordTree) → DeclTree
  Cell : (cell : CellTree) → DeclTree

pub record KeepLineTree : Type 0 where
  pub name : ℕ
  pub shape : ShapeTree
  pub line : ℕ

pub record KeepFactTree : Type 0 where
  pub form : Formula
  pub label : Option ℕ
  pub line : ℕ

pub record KeepTree : Type 0 where
  pub names : List ℕ
  pub lines : List KeepLineTree
  pub facts : List KeepFactTree
  pub line : ℕ

-- an exchange
pub record DoTree : Type 0 where
  pub op : ℕ
  pub args : List Tree
  pub tokens : List Tok
  pub given : List ℕ
  pub label : Option ℕ
  pub scripts : List ScriptTree
  pub line : ℕ

-- what goes back into a word: values for its names, and a token or none for each clause
pub record ClosingTree : Type 0 where
  pub args : List Tree
  pub tokens : List (Option Tok)
  pub scripts : List ScriptTree

-- a guarded clause is said to be true, with a name for its token, or false
pub record CaseTree : Type 0 where
  pub clause : ℕ
  pub taken : Option ℕ
  pub scripts : List ScriptTree

pub data ProofTree : Type 0 where
  Let : (name : ℕ) (term : Tree) → ProofTree
  Exchange : (form : DoTree) → ProofTree
  Split : (name first second : ℕ) (amount : Tree) (scripts : List ScriptTree) → ProofTree
  Merge : (one two into : ℕ) → ProofTree
  Copy : (name new : ℕ) → ProofTree
  Move : (token : Tok) (new : ℕ) → ProofTree
  Assert : (form : Formula) (label : Option ℕ) (scripts : List ScriptTree) → ProofTree
  Open : (names tokens : List ℕ) (label : Option ℕ) → ProofTree
  Case : (form : CaseTree) → ProofTree
  Close : (closing : ClosingTree) → ProofTree
  Still : (scripts : List ScriptTree) → ProofTree
  Seal : (word at : ℕ) (closing : ClosingTree) → ProofTree
  Give : (thread : ℕ) (args : List Tree) (scripts : List ScriptTree) → ProofTree

pub record ProofStepTree : Type 0 where
  pub what : ProofTree
  pub line : ℕ

-- what a jump brings to its keep
pub record JumpTree : Type 0 where
  pub args : List Tree
  pub scripts : List ScriptTree

pub data LocalTree : Type 0 where
  Set : (local : ℕ) (calc : Calc) (label : Option ℕ) → LocalTree
  Proof : (what : ProofTree) → LocalTree

-- an operation on a word
pub record AtomicTree : Type 0 where
  pub op : WordOp
  pub local : Option ℕ
  pub word : ℕ
  pub index : IndexTree
  pub label : Option ℕ

-- the block of an operation without one is `still`
pub data SharedTree : Type 0 where
  Read : (local cell : ℕ) (index : IndexTree) (token : ℕ) (scripts : List ScriptTree) → SharedTree
  Write : (cell : ℕ) (index : IndexTree) (operand : Opd) (token : ℕ) (scripts : List ScriptTree) → SharedTree
  Peek : (local cell : ℕ) (index : IndexTree) (form : DoTree) → SharedTree
  Operate : (atomic : AtomicTree) (block : List ProofStepTree) → SharedTree
  Print : (label : ℕ) (operand : Opd) → SharedTree

pub record TestTree : Type 0 where
  pub cond : Cond
  pub label : Option ℕ

-- an operation on a word with a condition after it, and a block for each of its branches
pub record ChoiceTree : Type 0 where
  pub atomic : AtomicTree
  pub test : TestTree
  pub first : List ProofStepTree
  pub second : List ProofStepTree

abbrev pub program_forms : Forms
program_forms = record {
  Local = LocalTree;
  Shared = SharedTree;
  Choice = ChoiceTree;
  Test = TestTree;
  Keep = KeepTree;
  Jump = JumpTree;
}

-- a list of statements
abbrev pub ListTree : Type 0
ListTree = Stms program_forms

pub record ThreadTree : Type 0 where
  pub name : ℕ
  pub takes : KeepTree
  pub ends : KeepTree
  pub body : ListTree
  pub line : ℕ

pub record StartTree : Type 0 where
  pub form : DoTree
  pub steps : List ProofStepTree
  pub line : ℕ

pub record ProgramTree : Type 0 where
  pub decls : List DeclTree
  pub start : Option StartTree
  pub threads : List ThreadTree
  pub last : Option ListTree

-- The empty program, which a text without a program has: no declarations, no start, no threads and no final block.
abbrev pub is_empty : ProgramTree → Bool
is_empty p = nat_eq (length p.decls) 0 && (is_none p.start && (nat_eq (length p.threads) 0 && is_none p.last))
