-- Productions of programs: what they are made of.
use Rattle.std.specs.Prelude.{◌≡◌, List, Option, Some, None, refl, ◌⊎◌}
use Rattle.std.proofs.Common.{inl, inr}
use Rattle.sync_lex.specs.declared.signs.Sign.{Sign}
use Rattle.sync_lex.specs.declared.signs.Sign.TheVariants as sign
use Rattle.sync_lex.specs.declared.terminals.Terminal.{Terminal}
use Rattle.sync_parse_exprs.specs.declared.raw_names.RawName.{RawName}
use Rattle.sync_parse_exprs.specs.declared.expressions.RawExpr.{RawExpr}
use Rattle.sync_parse_exprs.specs.Expressions.{expr_at}
use Rattle.sync_parse_exprs.specs.Terminals.{first_line}
use Rattle.sync_parse.specs.declared.scripts.RawScript.{RawScript}
use Rattle.sync_parse.specs.Scripts.{script_at}
use Rattle.sync_parse_forms.specs.Codes.{Test, at_sign, Code, leaf, a_name, a_number, nothing, after, before, both, either, row, listed, bracketed, node}
use Rattle.sync_parse_forms.specs.Readings.{Levelled}
use Rattle.sync_parse_programs.specs.declared.operands.RawNumber.{RawNumber}
use Rattle.sync_parse_programs.specs.declared.statements.RawStatement.{RawStatement}

-- productions that are known from elsewhere
pub data Known : Type 0 → Type 1 where
  an_expr : Known RawExpr
  a_script : Known RawScript

abbrev pub known_read : (X : Type 0) → Known X → Levelled X
known_read X an_expr = expr_at
known_read X a_script = script_at

-- a production of programs, in whose brackets statements may stand
abbrev pub Production : Type 0 → Type 1
Production A = Code Known RawStatement A

infixr 6 ◌∘◌
abbrev pub ◌∘◌ : {A B : Type 0} → Production A → Production B → Production (A × B)
c ∘ d = both c d

infixr 6 ◌▸◌
abbrev pub ◌▸◌ : {A : Type 0} → Sign → Production A → Production A
s ▸ c = after s c

infixr 7 ◌◂◌
abbrev pub ◌◂◌ : {A : Type 0} → Production A → Sign → Production A
c ◂ s = before c s

abbrev option_made : {A : Type 0} → List Terminal → A ⊎ Unit {0} → Option A
option_made ws (inl x) = Some x
option_made ws (inr u) = None

abbrev option_parts : {A : Type 0} → Option A → A ⊎ Unit {0}
option_parts (Some x) = inl x
option_parts None = inr tt

abbrev option_law : {A : Type 0} (ws : List Terminal) (x : A ⊎ Unit {0}) → option_parts (option_made ws x) ≡ x
option_law ws (inl x) = refl
option_law ws (inr u) = refl

-- c where the test says so, else d, which has no value
abbrev pub either_or_none : {A : Type 0} → Test → Production A → Production (Unit {0}) → Production (Option A)
either_or_none t c d = node option_made option_parts option_law (either t c d)

-- [c], where c begins with this sign
abbrev pub optional : {A : Type 0} → Sign → Production A → Production (Option A)
optional s c = either_or_none (at_sign s) c nothing

abbrev pub braces : {A : Type 0} → Production A → Production A
braces c = bracketed sign.OpenBrace sign.CloseBrace c

abbrev pub squares : {A : Type 0} → Production A → Production A
squares c = bracketed sign.OpenSquare sign.CloseSquare c

abbrev pub rounds : {A : Type 0} → Production A → Production A
rounds c = bracketed sign.OpenRound sign.CloseRound c

-- "(" list of c ")"
abbrev pub list_of : {A : Type 0} → Production A → Production (List A)
list_of c = rounds (listed sign.CloseRound c)

-- "[" list of c "]"
abbrev pub square_list_of : {A : Type 0} → Production A → Production (List A)
square_list_of c = squares (listed sign.CloseSquare c)

unfoldable pub expr : Production RawExpr
expr = leaf an_expr

unfoldable pub script : Production RawScript
script = leaf a_script

-- {script}
unfoldable pub scripts : Production (List RawScript)
scripts = row (at_sign sign.By) script

-- "(" list of expr ")"
unfoldable pub args : Production (List RawExpr)
args = list_of expr

-- "(" list of NAME ")"
unfoldable pub names : Production (List RawName)
names = list_of a_name

-- ["@" NAME]
unfoldable pub label : Production (Option RawName)
label = optional sign.Label (sign.Label ▸ a_name)

-- NUMBER, with its line
unfoldable pub numbered : Production RawNumber
numbered = node (λ ws n. record { number = n; line = first_line ws }) (λ x. x.number) (λ ws n. refl) a_number
