-- Productions of shapes, keeps, words, cells and proof statements.
use Rattle.std.specs.Prelude.{◌≡◌, ℕ, List, [], ◌∷◌, Option, Some, None, refl, ◌⊎◌}
use Rattle.std.proofs.Common.{inl, inr}
use Rattle.sync_lex.specs.declared.signs.Sign.TheVariants as sign
use Rattle.sync_lex.specs.declared.terminals.Terminal.{Terminal}
use Rattle.sync_parse_exprs.specs.declared.raw_names.RawName.{RawName}
use Rattle.sync_parse_exprs.specs.declared.expressions.RawExpr.{RawExpr}
use Rattle.sync_parse_exprs.specs.Terminals.{first_line}
use Rattle.sync_parse.specs.declared.scripts.RawScript.{RawScript}
use Rattle.sync_parse.specs.declared.trees.RawPlace.{RawPlace}
use Rattle.sync_parse.specs.declared.trees.RawPlace.TheVariants as place_kind
use Rattle.sync_parse.specs.declared.trees.RawPattern.{RawPattern}
use Rattle.sync_parse.specs.declared.trees.RawPattern.TheVariants as pattern_kind
use Rattle.sync_parse_forms.specs.Codes.{Test, at_sign, at_signs, at_name, to_brace, a_name, a_number, nothing, either, row, node}
use Rattle.sync_parse_programs.specs.Known.{Production, ◌∘◌, ◌▸◌, ◌◂◌, either_or_none, optional, braces, squares, rounds, list_of, square_list_of, expr, scripts, args, names, label, numbered}
use Rattle.sync_parse_programs.specs.declared.operands.RawNumber.{RawNumber}
use Rattle.sync_parse_programs.specs.declared.proof_statements.RawShape.{RawShape}
use Rattle.sync_parse_programs.specs.declared.proof_statements.RawToken.{RawToken}
use Rattle.sync_parse_programs.specs.declared.proof_statements.RawDoForm.{RawDoForm}
use Rattle.sync_parse_programs.specs.declared.proof_statements.RawClosing.{RawClosing}
use Rattle.sync_parse_programs.specs.declared.proof_statements.RawLet.{RawLet}
use Rattle.sync_parse_programs.specs.declared.proof_statements.RawSplit.{RawSplit}
use Rattle.sync_parse_programs.specs.declared.proof_statements.RawMerge.{RawMerge}
use Rattle.sync_parse_programs.specs.declared.proof_statements.RawCopy.{RawCopy}
use Rattle.sync_parse_programs.specs.declared.proof_statements.RawMove.{RawMove}
use Rattle.sync_parse_programs.specs.declared.proof_statements.RawAssert.{RawAssert}
use Rattle.sync_parse_programs.specs.declared.proof_statements.RawPlainProof.{RawPlainProof}
use Rattle.sync_parse_programs.specs.declared.proof_statements.RawOpen.{RawOpen}
use Rattle.sync_parse_programs.specs.declared.proof_statements.RawCase.{RawCase}
use Rattle.sync_parse_programs.specs.declared.proof_statements.RawProofKind.{RawProofKind}
use Rattle.sync_parse_programs.specs.declared.proof_statements.RawProofStatement.{RawProofStatement}
use Rattle.sync_parse_programs.specs.declared.proof_statements.RawSeal.{RawSeal}
use Rattle.sync_parse_programs.specs.declared.proof_statements.RawGive.{RawGive}
use Rattle.sync_parse_programs.specs.declared.proof_statements.RawStartKind.{RawStartKind}
use Rattle.sync_parse_programs.specs.declared.proof_statements.RawStartStatement.{RawStartStatement}
use Rattle.sync_parse_programs.specs.declared.proof_statements.RawKeepLine.{RawKeepLine}
use Rattle.sync_parse_programs.specs.declared.proof_statements.RawKeepFact.{RawKeepFact}
use Rattle.sync_parse_programs.specs.declared.proof_statements.RawKeep.{RawKeep}
use Rattle.sync_parse_programs.specs.declared.proof_statements.RawClause.{RawClause}
use Rattle.sync_parse_programs.specs.declared.proof_statements.RawWord.{RawWord}
use Rattle.sync_parse_programs.specs.declared.proof_statements.RawCell.{RawCell}
use Rattle.sync_parse_programs.specs.declared.proof_statements.RawDeclaration.{RawDeclaration}
use Rattle.sync_parse_programs.specs.declared.proof_statements.RawPlainProof.TheVariants as plain
use Rattle.sync_parse_programs.specs.declared.proof_statements.RawProofKind.TheVariants as proof
use Rattle.sync_parse_programs.specs.declared.proof_statements.RawStartKind.TheVariants as begin
use Rattle.sync_parse_programs.specs.declared.proof_statements.RawDeclaration.TheVariants as declared

-- ---- places and shapes

abbrev pattern_made : List Terminal → RawName ⊎ RawExpr → RawPattern
pattern_made ws (inl x) = pattern_kind.Bind x
pattern_made ws (inr e) = pattern_kind.Term e

abbrev pattern_parts : RawPattern → RawName ⊎ RawExpr
pattern_parts (pattern_kind.Bind x) = inl x
pattern_parts (pattern_kind.Term e) = inr e

abbrev pattern_law : (ws : List Terminal) (x : RawName ⊎ RawExpr) → pattern_parts (pattern_made ws x) ≡ x
pattern_law ws (inl x) = refl
pattern_law ws (inr e) = refl

-- pat = "?" NAME | expr
unfoldable pub pattern : Production RawPattern
pattern = node pattern_made pattern_parts pattern_law (either (at_sign sign.Question) (sign.Question ▸ a_name) expr)

abbrev place_made : List Terminal → RawPattern ⊎ (RawExpr × Option RawPattern) → RawPlace
place_made ws (inl v) = place_kind.Value v
place_made ws (inr (k, None)) = place_kind.Key k
place_made ws (inr (k, Some v)) = place_kind.Entry k v

abbrev place_parts : RawPlace → RawPattern ⊎ (RawExpr × Option RawPattern)
place_parts (place_kind.Value v) = inl v
place_parts (place_kind.Key k) = inr (k, None)
place_parts (place_kind.Entry k v) = inr (k, Some v)

abbrev place_law : (ws : List Terminal) (x : RawPattern ⊎ (RawExpr × Option RawPattern)) → place_parts (place_made ws x) ≡ x
place_law ws (inl v) = refl
place_law ws (inr (k, None)) = refl
place_law ws (inr (k, Some v)) = refl

-- place = "(" pat ")" | "[" expr "]" | "[" expr "=>" pat "]"
unfoldable pub place : Production RawPlace
place = node place_made place_parts place_law
    (either (at_sign sign.OpenRound) (rounds pattern) (squares (expr ∘ optional sign.MapsTo (sign.MapsTo ▸ pattern))))

-- shape = (NAME|"perm") place
unfoldable pub shape : Production RawShape
shape = node (λ ws x. record { field = x.0; place = x.1; line = first_line ws }) (λ t. (t.field, t.place)) (λ ws x. refl)
    (either_or_none at_name a_name (sign.Perm ▸ nothing) ∘ place)

-- ---- keeps

-- NAME ":" shape ";"
unfoldable pub keep_line : Production RawKeepLine
keep_line = node (λ ws x. record { name = x.0; shape = x.1 }) (λ t. (t.name, t.shape)) (λ ws x. refl) (a_name ∘ sign.Colon ▸ shape ◂ sign.Semicolon)

-- "fact" expr ["@" NAME] ";"
unfoldable pub keep_fact : Production RawKeepFact
keep_fact = node (λ ws x. record { form = x.0; label = x.1; line = first_line ws }) (λ t. (t.form, t.label)) (λ ws x. refl)
    (sign.Fact ▸ expr ∘ label ◂ sign.Semicolon)

-- keep = names "{" {NAME ":" shape ";"} {"fact" expr ["@" NAME] ";"} "}"
unfoldable pub keep : Production RawKeep
keep = node (λ ws x. record { names = x.0; lines = x.1.0; facts = x.1.1; line = first_line ws }) (λ t. (t.names, (t.lines, t.facts))) (λ ws x. refl)
    (names ∘ braces (row at_name keep_line ∘ row (at_sign sign.Fact) keep_fact))

-- ---- words and cells

-- ["when" expr]
unfoldable pub guard : Production (Option RawExpr)
guard = optional sign.When (sign.When ▸ expr)

-- "[" NUMBER "]"
unfoldable pub in_squares : Production RawNumber
in_squares = squares numbered

-- ["with" names]
unfoldable pub with_names : Production (Option (List RawName))
with_names = optional sign.With (sign.With ▸ names)

-- ["fact" expr ";"]
unfoldable pub word_fact : Production (Option RawExpr)
word_fact = optional sign.Fact (sign.Fact ▸ expr ◂ sign.Semicolon)

-- "holds" shape ["when" expr] ";"
unfoldable pub clause : Production RawClause
clause = node (λ ws x. record { shape = x.0; guard = x.1; line = first_line ws }) (λ t. (t.shape, t.guard)) (λ ws x. refl)
    (sign.Holds ▸ shape ∘ guard ◂ sign.Semicolon)

-- word = "word" NAME "[" NUMBER "]" "=" NUMBER ["with" names] "{" {clause} ["fact" expr ";"] "}"
unfoldable pub word : Production RawWord
word = node (λ ws x. record { name = x.0; length = x.1.0; value = x.1.1.0; with = x.1.1.1.0; clauses = x.1.1.1.1.0; fact = x.1.1.1.1.1; line = first_line ws })
    (λ t. (t.name, (t.length, (t.value, (t.with, (t.clauses, t.fact)))))) (λ ws x. refl)
    (sign.Word ▸ a_name ∘ in_squares ∘ sign.Equal ▸ numbered ∘ with_names ∘ braces (row (at_sign sign.Holds) clause ∘ word_fact))

-- cell = "cell" NAME "[" NUMBER "]" "=" NUMBER ";"
unfoldable pub cell : Production RawCell
cell = node (λ ws x. record { name = x.0; length = x.1.0; value = x.1.1; line = first_line ws }) (λ t. (t.name, (t.length, t.value))) (λ ws x. refl)
    (sign.Cell ▸ a_name ∘ in_squares ∘ sign.Equal ▸ numbered ◂ sign.Semicolon)

abbrev declaration_made : List Terminal → RawWord ⊎ RawCell → RawDeclaration
declaration_made ws (inl x) = declared.Word x
declaration_made ws (inr x) = declared.Cell x

abbrev declaration_parts : RawDeclaration → RawWord ⊎ RawCell
declaration_parts (declared.Word x) = inl x
declaration_parts (declared.Cell x) = inr x

abbrev declaration_law : (ws : List Terminal) (x : RawWord ⊎ RawCell) → declaration_parts (declaration_made ws x) ≡ x
declaration_law ws (inl x) = refl
declaration_law ws (inr x) = refl

-- word | cell
unfoldable pub declaration : Production RawDeclaration
declaration = node declaration_made declaration_parts declaration_law (either (at_sign sign.Word) word cell)

-- ---- proof statements

-- "[" NUMBER "]"
unfoldable pub in_squares_number : Production ℕ
in_squares_number = squares a_number

-- tok = NAME ["[" NUMBER "]"]
unfoldable pub token : Production RawToken
token = node (λ ws x. record { name = x.0; at = x.1 }) (λ t. (t.name, t.at)) (λ ws x. refl) (a_name ∘ optional sign.OpenSquare in_squares_number)

-- "(" list of tok ")"
unfoldable pub tokens : Production (List RawToken)
tokens = list_of token

-- doform = NAME args "(" list of tok ")" "->" names ["@" NAME] {script}
unfoldable pub do_form : Production RawDoForm
do_form = node (λ ws x. record { operation = x.0; args = x.1.0; tokens = x.1.1.0; given = x.1.1.1.0; label = x.1.1.1.1.0; scripts = x.1.1.1.1.1 })
    (λ t. (t.operation, (t.args, (t.tokens, (t.given, (t.label, t.scripts)))))) (λ ws x. refl)
    (a_name ∘ args ∘ tokens ∘ sign.Arrow ▸ names ∘ label ∘ scripts)

-- tok | "no"
unfoldable pub kept_token : Production (Option RawToken)
kept_token = either_or_none at_name token (sign.No ▸ nothing)

-- "[" list of ("no"|tok) "]"
unfoldable pub kept_tokens : Production (List (Option RawToken))
kept_tokens = square_list_of kept_token

-- closing = args "[" list of ("no"|tok) "]" {script}
unfoldable pub closing : Production RawClosing
closing = node (λ ws x. record { args = x.0; tokens = x.1.0; scripts = x.1.1 }) (λ t. (t.args, (t.tokens, t.scripts))) (λ ws x. refl)
    (args ∘ kept_tokens ∘ scripts)

-- "(" NAME "," NAME ")"
unfoldable pub pair : Production (RawName × RawName)
pair = rounds (a_name ∘ sign.Comma ▸ a_name)

-- "let" NAME "=" expr ";"
unfoldable pub let_form : Production RawLet
let_form = node (λ ws x. record { name = x.0; value = x.1 }) (λ t. (t.name, t.value)) (λ ws x. refl) (sign.Let ▸ a_name ∘ sign.Equal ▸ expr ◂ sign.Semicolon)

-- "split" NAME "->" "(" NAME "," NAME ")" expr {script} ";"
unfoldable pub split : Production RawSplit
split = node (λ ws x. record { token = x.0; first = x.1.0.0; second = x.1.0.1; amount = x.1.1.0; scripts = x.1.1.1 })
    (λ t. (t.token, ((t.first, t.second), (t.amount, t.scripts)))) (λ ws x. refl)
    (sign.Split ▸ a_name ∘ sign.Arrow ▸ pair ∘ expr ∘ scripts ◂ sign.Semicolon)

-- "merge" "(" NAME "," NAME ")" "->" NAME ";"
unfoldable pub merge : Production RawMerge
merge = node (λ ws x. record { first = x.0.0; second = x.0.1; given = x.1 }) (λ t. ((t.first, t.second), t.given)) (λ ws x. refl)
    (sign.Merge ▸ pair ∘ sign.Arrow ▸ a_name ◂ sign.Semicolon)

-- "copy" NAME "->" NAME ";"
unfoldable pub copy : Production RawCopy
copy = node (λ ws x. record { token = x.0; given = x.1 }) (λ t. (t.token, t.given)) (λ ws x. refl) (sign.Copy ▸ a_name ∘ sign.Arrow ▸ a_name ◂ sign.Semicolon)

-- "move" tok "->" NAME ";"
unfoldable pub move_form : Production RawMove
move_form = node (λ ws x. record { token = x.0; given = x.1 }) (λ t. (t.token, t.given)) (λ ws x. refl) (sign.Move ▸ token ∘ sign.Arrow ▸ a_name ◂ sign.Semicolon)

-- "assert" expr ["@" NAME] {script} ";"
unfoldable pub assertion : Production RawAssert
assertion = node (λ ws x. record { form = x.0; label = x.1.0; scripts = x.1.1 }) (λ t. (t.form, (t.label, t.scripts))) (λ ws x. refl)
    (sign.Assert ▸ expr ∘ label ∘ scripts ◂ sign.Semicolon)

-- what begins a plain proof statement
abbrev pub at_plain_proof : Test
at_plain_proof = at_signs (sign.Let ∷ sign.Do ∷ sign.Split ∷ sign.Merge ∷ sign.Copy ∷ sign.Move ∷ sign.Assert ∷ [])

abbrev PlainProofs : Type 0
PlainProofs = RawLet ⊎ (RawDoForm ⊎ (RawSplit ⊎ (RawMerge ⊎ (RawCopy ⊎ (RawMove ⊎ RawAssert)))))

abbrev plain_made : List Terminal → PlainProofs → RawPlainProof
plain_made ws (inl x) = plain.Let x
plain_made ws (inr (inl x)) = plain.Do x
plain_made ws (inr (inr (inl x))) = plain.Split x
plain_made ws (inr (inr (inr (inl x)))) = plain.Merge x
plain_made ws (inr (inr (inr (inr (inl x))))) = plain.Copy x
plain_made ws (inr (inr (inr (inr (inr (inl x)))))) = plain.Move x
plain_made ws (inr (inr (inr (inr (inr (inr x)))))) = plain.Assert x

abbrev plain_parts : RawPlainProof → PlainProofs
plain_parts (plain.Let x) = inl x
plain_parts (plain.Do x) = inr (inl x)
plain_parts (plain.Split x) = inr (inr (inl x))
plain_parts (plain.Merge x) = inr (inr (inr (inl x)))
plain_parts (plain.Copy x) = inr (inr (inr (inr (inl x))))
plain_parts (plain.Move x) = inr (inr (inr (inr (inr (inl x)))))
plain_parts (plain.Assert x) = inr (inr (inr (inr (inr (inr x)))))

abbrev plain_law : (ws : List Terminal) (x : PlainProofs) → plain_parts (plain_made ws x) ≡ x
plain_law ws (inl x) = refl
plain_law ws (inr (inl x)) = refl
plain_law ws (inr (inr (inl x))) = refl
plain_law ws (inr (inr (inr (inl x)))) = refl
plain_law ws (inr (inr (inr (inr (inl x))))) = refl
plain_law ws (inr (inr (inr (inr (inr (inl x)))))) = refl
plain_law ws (inr (inr (inr (inr (inr (inr x)))))) = refl

-- pstmt
unfoldable pub plain_proof : Production RawPlainProof
plain_proof = node plain_made plain_parts plain_law
    (either (at_sign sign.Let) let_form
    (either (at_sign sign.Do) (sign.Do ▸ do_form ◂ sign.Semicolon)
    (either (at_sign sign.Split) split
    (either (at_sign sign.Merge) merge
    (either (at_sign sign.Copy) copy
    (either (at_sign sign.Move) move_form
    assertion))))))

-- "[" list of NAME "]"
unfoldable pub opened : Production (List RawName)
opened = square_list_of a_name

-- "open" names "[" list of NAME "]" ["@" NAME] ";"
unfoldable pub opening : Production RawOpen
opening = node (λ ws x. record { names = x.0; tokens = x.1.0; label = x.1.1 }) (λ t. (t.names, (t.tokens, t.label))) (λ ws x. refl)
    (sign.Open ▸ names ∘ opened ∘ label ◂ sign.Semicolon)

-- "yes" NAME | "no"
unfoldable pub yes : Production (Option RawName)
yes = either_or_none (at_sign sign.Yes) (sign.Yes ▸ a_name) (sign.No ▸ nothing)

-- "case" NUMBER ("yes" NAME | "no") {script} ";"
unfoldable pub case_form : Production RawCase
case_form = node (λ ws x. record { clause = x.0; yes = x.1.0; scripts = x.1.1 }) (λ t. (t.clause, (t.yes, t.scripts))) (λ ws x. refl)
    (sign.Case ▸ a_number ∘ yes ∘ scripts ◂ sign.Semicolon)

abbrev Proofs : Type 0
Proofs = RawPlainProof ⊎ (RawOpen ⊎ (RawCase ⊎ (RawClosing ⊎ List RawScript)))

abbrev proof_made : List Terminal → Proofs → RawProofKind
proof_made ws (inl x) = proof.Plain x
proof_made ws (inr (inl x)) = proof.Open x
proof_made ws (inr (inr (inl x))) = proof.Case x
proof_made ws (inr (inr (inr (inl x)))) = proof.Close x
proof_made ws (inr (inr (inr (inr x)))) = proof.Still x

abbrev proof_parts : RawProofKind → Proofs
proof_parts (proof.Plain x) = inl x
proof_parts (proof.Open x) = inr (inl x)
proof_parts (proof.Case x) = inr (inr (inl x))
proof_parts (proof.Close x) = inr (inr (inr (inl x)))
proof_parts (proof.Still x) = inr (inr (inr (inr x)))

abbrev proof_law : (ws : List Terminal) (x : Proofs) → proof_parts (proof_made ws x) ≡ x
proof_law ws (inl x) = refl
proof_law ws (inr (inl x)) = refl
proof_law ws (inr (inr (inl x))) = refl
proof_law ws (inr (inr (inr (inl x)))) = refl
proof_law ws (inr (inr (inr (inr x)))) = refl

-- pstmt | "open" .. | "case" .. | "close" closing ";" | "still" {script} ";"
unfoldable pub proof_kind : Production RawProofKind
proof_kind = node proof_made proof_parts proof_law
    (either at_plain_proof plain_proof
    (either (at_sign sign.Open) opening
    (either (at_sign sign.Case) case_form
    (either (at_sign sign.Close) (sign.Close ▸ closing ◂ sign.Semicolon)
    (sign.Still ▸ scripts ◂ sign.Semicolon)))))

unfoldable pub proof_statement : Production RawProofStatement
proof_statement = node (λ ws x. record { what = x; line = first_line ws }) (λ t. t.what) (λ ws x. refl) proof_kind

-- pblock = "{" {pstmt | ..} "}"
unfoldable pub proof_block : Production (List RawProofStatement)
proof_block = braces (row to_brace proof_statement)

-- ---- the start

-- "seal" NAME "[" NUMBER "]" closing ";"
unfoldable pub seal : Production RawSeal
seal = node (λ ws x. record { word = x.0; at = x.1.0; closing = x.1.1 }) (λ t. (t.word, (t.at, t.closing))) (λ ws x. refl)
    (sign.Seal ▸ a_name ∘ in_squares_number ∘ closing ◂ sign.Semicolon)

-- "give" NAME args {script} ";"
unfoldable pub give : Production RawGive
give = node (λ ws x. record { thread = x.0; args = x.1.0; scripts = x.1.1 }) (λ t. (t.thread, (t.args, t.scripts))) (λ ws x. refl)
    (sign.Give ▸ a_name ∘ args ∘ scripts ◂ sign.Semicolon)

abbrev Starting : Type 0
Starting = RawPlainProof ⊎ (RawSeal ⊎ RawGive)

abbrev starting_made : List Terminal → Starting → RawStartKind
starting_made ws (inl x) = begin.Plain x
starting_made ws (inr (inl x)) = begin.Seal x
starting_made ws (inr (inr x)) = begin.Give x

abbrev starting_parts : RawStartKind → Starting
starting_parts (begin.Plain x) = inl x
starting_parts (begin.Seal x) = inr (inl x)
starting_parts (begin.Give x) = inr (inr x)

abbrev starting_law : (ws : List Terminal) (x : Starting) → starting_parts (starting_made ws x) ≡ x
starting_law ws (inl x) = refl
starting_law ws (inr (inl x)) = refl
starting_law ws (inr (inr x)) = refl

-- pstmt | "seal" .. | "give" ..
unfoldable pub start_kind : Production RawStartKind
start_kind = node starting_made starting_parts starting_law (either at_plain_proof plain_proof (either (at_sign sign.Seal) seal give))

unfoldable pub start_statement : Production RawStartStatement
start_statement = node (λ ws x. record { what = x; line = first_line ws }) (λ t. t.what) (λ ws x. refl) start_kind
