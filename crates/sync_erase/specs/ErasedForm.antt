-- The erased form: the text of a program's code, a statement on each line, two spaces of indentation a level.
use Rattle.std.specs.Prelude.{◌≡◌, ℕ, List, [], ◌∷◌, ◌++◌, codes, Option, Some, None}
use Rattle.std.specs.Fmt.{decimal}
use Rattle.std.specs.List.{flat_map}
use Rattle.sync_base.specs.declared.names.NameList.{NameList}
use Rattle.sync_base.specs.Names.{spelling}
use Rattle.sync_thread.specs.declared.operands.Calc.{Calc}
use Rattle.sync_thread.specs.declared.program.CodeStmt.{CodeStmt}
use Rattle.sync_thread.specs.Views.{code_stmt_tree}
use Rattle.sync_thread.specs.declared.operands.Calc.TheVariants.{Plain, Plus, Minus, Times, Over, Modulo}
use Rattle.sync_thread.specs.declared.operands.CodeDecl.{CodeDecl}
use Rattle.sync_thread.specs.declared.operands.CodeDecl.TheVariants as decl
use Rattle.sync_thread.specs.declared.operands.Cond.{Cond}
use Rattle.sync_thread.specs.declared.operands.Opd.{Opd}
use Rattle.sync_thread.specs.declared.operands.Opd.TheVariants.{Number, Local}
use Rattle.sync_thread.specs.declared.operands.Rel.{Rel}
use Rattle.sync_thread.specs.declared.operands.Rel.TheVariants as rel
use Rattle.sync_thread.specs.declared.operands.WordOp.{WordOp}
use Rattle.sync_thread.specs.declared.operands.WordOp.TheVariants.{Load, Store, Swap, Add, Sub, Cas}
use Rattle.sync_thread.specs.Control.{Brace, Do, On, OnWhen, If, Loop, Next, Break, Meet, End}
use Rattle.sync_thread.specs.Code.{CodeShared, CodeList, CodeThread, CodeTree, Read, Write, Peek, Operate, Print}

abbrev pub operand_text : NameList → Opd → List ℕ
operand_text names (Number n) = decimal n
operand_text names (Local x) = spelling names x

-- an element of an array
abbrev pub element_text : NameList → ℕ → Opd → List ℕ
element_text names x i = spelling names x ++ codes "[" ++ operand_text names i ++ codes "]"

-- what is given to a local
abbrev pub given_text : NameList → ℕ → List ℕ
given_text names x = spelling names x ++ codes " = "

abbrev pub maybe_given_text : NameList → Option ℕ → List ℕ
maybe_given_text names (Some x) = given_text names x
maybe_given_text names None = []

abbrev pub relation_text : Rel → List ℕ
relation_text rel.Eq = codes " = "
relation_text rel.Ne = codes " != "
relation_text rel.Lt = codes " < "
relation_text rel.Le = codes " <= "

abbrev pub condition_text : NameList → Cond → List ℕ
condition_text names c = operand_text names c.left ++ relation_text c.rel ++ operand_text names c.right

abbrev pub calculation_text : NameList → Calc → List ℕ
calculation_text names (Plain a) = operand_text names a
calculation_text names (Plus a b) = operand_text names a ++ codes " + " ++ operand_text names b
calculation_text names (Minus a b) = operand_text names a ++ codes " - " ++ operand_text names b
calculation_text names (Times a n) = operand_text names a ++ codes " * " ++ decimal n
calculation_text names (Over a n) = operand_text names a ++ codes " / " ++ decimal n
calculation_text names (Modulo a n) = operand_text names a ++ codes " % " ++ decimal n

-- an operation, with what stands for the element that it is done on
abbrev pub operation_text : NameList → List ℕ → WordOp → List ℕ
operation_text names element Load = codes "load " ++ element
operation_text names element (Store a) = codes "store " ++ element ++ codes " = " ++ operand_text names a
operation_text names element (Swap a) = codes "swap " ++ element ++ codes " " ++ operand_text names a
operation_text names element (Add a) = codes "add " ++ element ++ codes " " ++ operand_text names a
operation_text names element (Sub a) = codes "sub " ++ element ++ codes " " ++ operand_text names a
operation_text names element (Cas a b) =
    codes "cas " ++ element ++ codes " " ++ operand_text names a ++ codes " " ++ operand_text names b

abbrev pub step_text : NameList → CodeShared → List ℕ
step_text names (Read x c i) = given_text names x ++ codes "read " ++ element_text names c i
step_text names (Write c i a) = codes "write " ++ element_text names c i ++ codes " = " ++ operand_text names a
step_text names (Peek x c i) = given_text names x ++ codes "peek " ++ element_text names c i
step_text names (Operate x op w i) = maybe_given_text names x ++ operation_text names (element_text names w i) op
step_text names (Print l a) = codes "print " ++ spelling names l ++ codes " " ++ operand_text names a

-- a line with this indentation
abbrev pub line_text : List ℕ → List ℕ → List ℕ
line_text indent words = indent ++ words ++ 10 ∷ []

abbrev pub deeper : List ℕ → List ℕ
deeper indent = codes "  " ++ indent

unfoldable pub list_text : NameList → List ℕ → CodeList → List ℕ
list_text names indent (Brace n) = []
list_text names indent (Do s n rest) =
    line_text indent (given_text names s.local ++ calculation_text names s.calc ++ codes ";") ++ list_text names indent rest
list_text names indent (On a n rest) = line_text indent (step_text names a ++ codes ";") ++ list_text names indent rest
list_text names indent (OnWhen a n p q k rest) = absurd a
list_text names indent (If c n p q k rest) =
    line_text indent (codes "if " ++ condition_text names c ++ codes " {")
    ++ (list_text names (deeper indent) p ++ line_text indent (codes "} else {")
    ++ list_text names (deeper indent) q ++ line_text indent (codes "}"))
    ++ list_text names indent rest
list_text names indent (Loop k j n body left rest) =
    (line_text indent (codes "loop {") ++ list_text names (deeper indent) body ++ line_text indent (codes "}"))
    ++ list_text names indent rest
list_text names indent (Next j n rest) = line_text indent (codes "next;") ++ list_text names indent rest
list_text names indent (Break j n rest) = line_text indent (codes "break;") ++ list_text names indent rest
list_text names indent (Meet j n rest) = list_text names indent rest
list_text names indent (End j n rest) = line_text indent (codes "end;") ++ list_text names indent rest

-- what stands after the first line of an `if`
abbrev pub branches_text : NameList → List ℕ → CodeList → CodeList → List ℕ
branches_text names indent p q =
    list_text names (deeper indent) p ++ line_text indent (codes "} else {")
    ++ list_text names (deeper indent) q ++ line_text indent (codes "}")

abbrev pub loop_text : NameList → List ℕ → CodeList → List ℕ
loop_text names indent body =
    line_text indent (codes "loop {") ++ list_text names (deeper indent) body ++ line_text indent (codes "}")

-- the text gains what a statement says: before any rest it is the text of the statement before that rest
abbrev pub Prints : NameList → List ℕ → CodeStmt → List ℕ → List ℕ → Type 0
Prints names indent stmt old new =
    (rest : CodeList) → new ++ list_text names indent rest ≡ old ++ list_text names indent (code_stmt_tree stmt rest)

-- an array: its kind and name, its length and first value
abbrev pub array_text : NameList → List ℕ → ℕ → ℕ → ℕ → List ℕ
array_text names kind x len init =
    line_text [] (kind ++ spelling names x ++ codes "[" ++ decimal len ++ codes "] = " ++ decimal init ++ codes ";")

abbrev pub decl_text : NameList → CodeDecl → List ℕ
decl_text names (decl.Word x n v) = array_text names (codes "word ") x n v
decl_text names (decl.Cell x n v) = array_text names (codes "cell ") x n v

-- what stands in braces after this opening
abbrev pub block_text : NameList → List ℕ → CodeList → List ℕ
block_text names opening list =
    line_text [] (opening ++ codes " {") ++ list_text names (codes "  ") list ++ line_text [] (codes "}")

abbrev pub thread_text : NameList → CodeThread → List ℕ
thread_text names t = block_text names (codes "thread " ++ spelling names t.name) t.body

abbrev pub final_text : NameList → Option CodeList → List ℕ
final_text names (Some list) = block_text names (codes "final") list
final_text names None = []

abbrev pub code_text : NameList → CodeTree → List ℕ
code_text names c =
    flat_map (decl_text names) c.decls ++ flat_map (thread_text names) c.threads ++ final_text names c.last
