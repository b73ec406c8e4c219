-- Productions of statements.
use Rattle.std.specs.Prelude.{◌≡◌, ℕ, List, [], ◌∷◌, Option, refl, ◌⊎◌}
use Rattle.std.proofs.Common.{inl, inr, ap}
use Rattle.sync_lex.specs.declared.signs.Sign.TheVariants as sign
use Rattle.sync_lex.specs.declared.terminals.Terminal.{Terminal}
use Rattle.sync_parse_exprs.specs.declared.raw_names.RawName.{RawName}
use Rattle.sync_parse_exprs.specs.Terminals.{first_line}
use Rattle.sync_parse_forms.specs.Codes.{Test, at_sign, at_signs, to_brace, a_sign, a_name, inner, nothing, either, row, enclosed, node}
use Rattle.sync_parse_programs.specs.Known.{Production, ◌∘◌, ◌▸◌, ◌◂◌, optional, scripts, args, label}
use Rattle.sync_parse_programs.specs.Operands.{operand, condition, calculated, index, stored, word_operation}
use Rattle.sync_parse_programs.specs.ProofStatements.{keep, do_form, at_plain_proof, plain_proof, proof_block}
use Rattle.sync_parse_exprs.specs.declared.expressions.RawExpr.{RawExpr}
use Rattle.sync_parse.specs.declared.scripts.RawScript.{RawScript}
use Rattle.sync_parse_programs.specs.declared.operands.RawCondition.{RawCondition}
use Rattle.sync_parse_programs.specs.declared.operands.RawOperand.{RawOperand}
use Rattle.sync_parse_programs.specs.declared.operands.RawCalculation.{RawCalculation}
use Rattle.sync_parse_programs.specs.declared.proof_statements.RawKeep.{RawKeep}
use Rattle.sync_parse_programs.specs.declared.proof_statements.RawPlainProof.{RawPlainProof}
use Rattle.sync_parse_programs.specs.declared.proof_statements.RawProofStatement.{RawProofStatement}
use Rattle.sync_parse_programs.specs.declared.statements.RawAtomic.{RawAtomic}
use Rattle.sync_parse_programs.specs.declared.statements.RawStore.{RawStore}
use Rattle.sync_parse_programs.specs.declared.statements.RawRead.{RawRead}
use Rattle.sync_parse_programs.specs.declared.statements.RawPeek.{RawPeek}
use Rattle.sync_parse_programs.specs.declared.statements.RawWrite.{RawWrite}
use Rattle.sync_parse_programs.specs.declared.statements.RawJump.{RawJump}
use Rattle.sync_parse_programs.specs.declared.statements.RawList.{RawList, roll-RawList}
use Rattle.sync_parse_programs.specs.declared.statements.RawIf.{RawIf, roll-RawIf}
use Rattle.sync_parse_programs.specs.declared.statements.RawLoop.{RawLoop, roll-RawLoop}
use Rattle.sync_parse_programs.specs.declared.statements.RawWhen.{RawWhen, roll-RawWhen}
use Rattle.sync_parse_programs.specs.declared.statements.RawStatement.{RawStatement, roll-RawStatement}
use Rattle.sync_parse_programs.specs.declared.statements.RawTail.{RawTail}
use Rattle.sync_parse_programs.specs.declared.statements.RawRightSide.{RawRightSide}
use Rattle.sync_parse_programs.specs.declared.statements.RawStatementKind.{RawStatementKind}
use Rattle.sync_parse_programs.specs.declared.statements.RawTail.TheVariants as tail
use Rattle.sync_parse_programs.specs.declared.statements.RawRightSide.TheVariants as right
use Rattle.sync_parse_programs.specs.declared.statements.RawStatementKind.TheVariants as stmt
use Rattle.sync_parse_programs.specs.declared.statements.RawRightSide.TheViews.{out-RawList, out-RawIf, out-RawLoop, out-RawWhen, out-RawStatement, out-RawTail, out-RawRightSide, out-RawStatementKind}
use Rattle.sync_parse_programs.specs.declared.statements.RawRightSide.TheViews as view
use Rattle.sync_parse_programs.specs.declared.statements.RawRightSide.TheOpen.{RawList-F, RawIf-F, RawLoop-F, RawWhen-F, RawTail-F, RawRightSide-F, RawStatementKind-F}

-- ---- statements in braces

-- {stmt}
unfoldable pub statement_row : Production (List RawStatement)
statement_row = row to_brace inner

abbrev list_made : List Terminal → List RawStatement × ℕ → RawList
list_made ws x = roll-RawList (record { statements = x.0; end_line = x.1 })

abbrev list_seen : RawList-F RawRightSide RawStatementKind RawTail RawIf RawList RawLoop RawStatement RawWhen → List RawStatement × ℕ
list_seen l = (l.statements, l.end_line)

abbrev list_parts : RawList → List RawStatement × ℕ
list_parts t = list_seen (out-RawList t)

pub list_law : (ws : List Terminal) (x : List RawStatement × ℕ) → list_parts (list_made ws x) ≡ x
list_law ws x = ap list_seen (view.out-roll-RawList (record { statements = x.0; end_line = x.1 }))

-- "{" {stmt} "}"
unfoldable pub list : Production RawList
list = node list_made list_parts list_law (enclosed sign.OpenBrace sign.CloseBrace statement_row)

-- ["join" keep]
unfoldable pub joined : Production (Option RawKeep)
joined = optional sign.Join (sign.Join ▸ keep)

-- ["after" keep]
unfoldable pub behind_loop : Production (Option RawKeep)
behind_loop = optional sign.After (sign.After ▸ keep)

-- ---- atomic statements

-- ("load"|"swap"|"add"|"sub"|"cas") .. ["@" NAME]
unfoldable pub atomic : Production RawAtomic
atomic = node (λ ws x. record { operation = x.0; label = x.1 }) (λ t. (t.operation, t.label)) (λ ws x. refl) (word_operation ∘ label)

-- "store" NAME idx "=" opd ["@" NAME]
unfoldable pub store : Production RawStore
store = node (λ ws x. record { change = x.0; label = x.1 }) (λ t. (t.change, t.label)) (λ ws x. refl) (sign.Store ▸ stored ∘ label)

abbrev Whens : Type 0
Whens = RawCondition × (Option RawName × (List RawProofStatement × (RawList × (List RawProofStatement × (RawList × Option RawKeep)))))

abbrev when_made : List Terminal → Whens → RawWhen
when_made ws x = roll-RawWhen (record { condition = x.0; label = x.1.0; yes_proof = x.1.1.0; yes = x.1.1.1.0; no_proof = x.1.1.1.1.0; no = x.1.1.1.1.1.0; joined = x.1.1.1.1.1.1 })

abbrev when_seen : RawWhen-F RawRightSide RawStatementKind RawTail RawIf RawList RawLoop RawStatement RawWhen → Whens
when_seen v = (v.condition, (v.label, (v.yes_proof, (v.yes, (v.no_proof, (v.no, v.joined))))))

abbrev when_parts : RawWhen → Whens
when_parts t = when_seen (out-RawWhen t)

pub when_law : (ws : List Terminal) (x : Whens) → when_parts (when_made ws x) ≡ x
when_law ws x = ap when_seen (view.out-roll-RawWhen (record { condition = x.0; label = x.1.0; yes_proof = x.1.1.0; yes = x.1.1.1.0; no_proof = x.1.1.1.1.0; no = x.1.1.1.1.1.0; joined = x.1.1.1.1.1.1 }))

-- "when" cond ["@" NAME] "proof" pblock "{" {stmt} "}" "else" "proof" pblock "{" {stmt} "}" ["join" keep]
unfoldable pub when_form : Production RawWhen
when_form = node when_made when_parts when_law (sign.When ▸ condition ∘ label ∘ sign.Proof ▸ proof_block ∘ list ∘ sign.Else ▸ sign.Proof ▸ proof_block ∘ list ∘ joined)

abbrev Tails : Type 0
Tails = Unit {0} ⊎ (List RawProofStatement ⊎ RawWhen)

abbrev tail_made : List Terminal → Tails → RawTail
tail_made ws (inl u) = tail.Plain
tail_made ws (inr (inl x)) = tail.Block x
tail_made ws (inr (inr x)) = tail.When x

abbrev tail_seen : RawTail-F RawRightSide RawStatementKind RawTail RawIf RawList RawLoop RawStatement RawWhen → Tails
tail_seen RawTail-F.Plain = inl tt
tail_seen (RawTail-F.Block x) = inr (inl x)
tail_seen (RawTail-F.When x) = inr (inr x)

abbrev tail_parts : RawTail → Tails
tail_parts t = tail_seen (out-RawTail t)

pub tail_law : (ws : List Terminal) (x : Tails) → tail_parts (tail_made ws x) ≡ x
tail_law ws (inl u) = ap tail_seen view.outs-Plain
tail_law ws (inr (inl x)) = ap tail_seen (view.outs-Block x)
tail_law ws (inr (inr x)) = ap tail_seen (view.outs-When x)

-- ";" | "proof" pblock ";" | "when" ..
unfoldable pub ending : Production RawTail
ending = node tail_made tail_parts tail_law
    (either (at_sign sign.Semicolon) (sign.Semicolon ▸ nothing)
    (either (at_sign sign.Proof) (sign.Proof ▸ proof_block ◂ sign.Semicolon)
    when_form))

-- ---- what a local is given

-- "read" NAME idx "with" NAME {script} ";"
unfoldable pub read_form : Production RawRead
read_form = node (λ ws x. record { cell = x.0; index = x.1.0; permission = x.1.1.0; scripts = x.1.1.1 }) (λ t. (t.cell, (t.index, (t.permission, t.scripts)))) (λ ws x. refl)
    (sign.Read ▸ a_name ∘ index ∘ sign.With ▸ a_name ∘ scripts ◂ sign.Semicolon)

-- "peek" NAME idx "via" doform ";"
unfoldable pub peek : Production RawPeek
peek = node (λ ws x. record { cell = x.0; index = x.1.0; via = x.1.1 }) (λ t. (t.cell, (t.index, t.via))) (λ ws x. refl)
    (sign.Peek ▸ a_name ∘ index ∘ sign.Via ▸ do_form ◂ sign.Semicolon)

abbrev RightSides : Type 0
RightSides = (RawAtomic × RawTail) ⊎ (RawRead ⊎ (RawPeek ⊎ (RawCalculation × Option RawName)))

abbrev right_made : List Terminal → RightSides → RawRightSide
right_made ws (inl x) = right.Atomic x.0 x.1
right_made ws (inr (inl x)) = right.Read x
right_made ws (inr (inr (inl x))) = right.Peek x
right_made ws (inr (inr (inr x))) = right.Calculated x.0 x.1

abbrev right_seen : RawRightSide-F RawRightSide RawStatementKind RawTail RawIf RawList RawLoop RawStatement RawWhen → RightSides
right_seen (RawRightSide-F.Atomic a t) = inl (a, t)
right_seen (RawRightSide-F.Read x) = inr (inl x)
right_seen (RawRightSide-F.Peek x) = inr (inr (inl x))
right_seen (RawRightSide-F.Calculated x l) = inr (inr (inr (x, l)))

abbrev right_parts : RawRightSide → RightSides
right_parts r = right_seen (out-RawRightSide r)

pub right_law : (ws : List Terminal) (x : RightSides) → right_parts (right_made ws x) ≡ x
right_law ws (inl x) = ap right_seen (view.outs-Atomic x.0 x.1)
right_law ws (inr (inl x)) = ap right_seen (view.outs-Read x)
right_law ws (inr (inr (inl x))) = ap right_seen (view.outs-Peek x)
right_law ws (inr (inr (inr x))) = ap right_seen (view.outs-Calculated x.0 x.1)

-- what begins an atomic statement whose old value a local is given
abbrev pub at_atomic : Test
at_atomic = at_signs (sign.Load ∷ sign.Swap ∷ sign.Add ∷ sign.Sub ∷ sign.Cas ∷ [])

-- rhs
unfoldable pub right_side : Production RawRightSide
right_side = node right_made right_parts right_law
    (either at_atomic (atomic ∘ ending)
    (either (at_sign sign.Read) read_form
    (either (at_sign sign.Peek) peek
    (calculated ∘ label ◂ sign.Semicolon))))

-- ---- statements

-- "write" NAME idx "=" opd "with" NAME {script} ";"
unfoldable pub write_form : Production RawWrite
write_form = node (λ ws x. record { cell = x.0; index = x.1.0; operand = x.1.1.0; permission = x.1.1.1.0; scripts = x.1.1.1.1 })
    (λ t. (t.cell, (t.index, (t.operand, (t.permission, t.scripts))))) (λ ws x. refl)
    (sign.Write ▸ a_name ∘ index ∘ sign.Equal ▸ operand ∘ sign.With ▸ a_name ∘ scripts ◂ sign.Semicolon)

abbrev Ifs : Type 0
Ifs = RawCondition × (Option RawName × (RawList × (RawList × Option RawKeep)))

abbrev if_made : List Terminal → Ifs → RawIf
if_made ws x = roll-RawIf (record { condition = x.0; label = x.1.0; yes = x.1.1.0; no = x.1.1.1.0; joined = x.1.1.1.1 })

abbrev if_seen : RawIf-F RawRightSide RawStatementKind RawTail RawIf RawList RawLoop RawStatement RawWhen → Ifs
if_seen v = (v.condition, (v.label, (v.yes, (v.no, v.joined))))

abbrev if_parts : RawIf → Ifs
if_parts t = if_seen (out-RawIf t)

pub if_law : (ws : List Terminal) (x : Ifs) → if_parts (if_made ws x) ≡ x
if_law ws x = ap if_seen (view.out-roll-RawIf (record { condition = x.0; label = x.1.0; yes = x.1.1.0; no = x.1.1.1.0; joined = x.1.1.1.1 }))

-- "if" cond ["@" NAME] "{" {stmt} "}" "else" "{" {stmt} "}" ["join" keep]
unfoldable pub if_form : Production RawIf
if_form = node if_made if_parts if_law (sign.If ▸ condition ∘ label ∘ list ∘ sign.Else ▸ list ∘ joined)

abbrev Loops : Type 0
Loops = RawKeep × (ℕ × (List RawExpr × (List RawScript × (RawList × Option RawKeep))))

abbrev loop_made : List Terminal → Loops → RawLoop
loop_made ws x = roll-RawLoop (record { keep = x.0; from_line = x.1.0; args = x.1.1.0; scripts = x.1.1.1.0; body = x.1.1.1.1.0; after = x.1.1.1.1.1 })

abbrev loop_seen : RawLoop-F RawRightSide RawStatementKind RawTail RawIf RawList RawLoop RawStatement RawWhen → Loops
loop_seen v = (v.keep, (v.from_line, (v.args, (v.scripts, (v.body, v.after)))))

abbrev loop_parts : RawLoop → Loops
loop_parts t = loop_seen (out-RawLoop t)

pub loop_law : (ws : List Terminal) (x : Loops) → loop_parts (loop_made ws x) ≡ x
loop_law ws x = ap loop_seen (view.out-roll-RawLoop (record { keep = x.0; from_line = x.1.0; args = x.1.1.0; scripts = x.1.1.1.0; body = x.1.1.1.1.0; after = x.1.1.1.1.1 }))

-- "loop" keep "from" args {script} "{" {stmt} "}" ["after" keep]
unfoldable pub loop_form : Production RawLoop
loop_form = node loop_made loop_parts loop_law (sign.Loop ▸ keep ∘ a_sign sign.From ∘ args ∘ scripts ∘ list ∘ behind_loop)

-- args {script} ";"
unfoldable pub jump : Production RawJump
jump = node (λ ws x. record { args = x.0; scripts = x.1 }) (λ t. (t.args, t.scripts)) (λ ws x. refl) (args ∘ scripts ◂ sign.Semicolon)

abbrev Statements : Type 0
Statements = (RawStore × RawTail) ⊎ (RawWrite ⊎ ((RawName × RawOperand) ⊎ (RawIf ⊎ (RawLoop ⊎ (RawJump ⊎ (RawJump ⊎ (RawJump ⊎ (RawJump ⊎ (RawPlainProof ⊎ (RawName × RawRightSide))))))))))

abbrev statement_made : Statements → RawStatementKind
statement_made (inl x) = stmt.Store x.0 x.1
statement_made (inr (inl x)) = stmt.Write x
statement_made (inr (inr (inl x))) = stmt.Print x.0 x.1
statement_made (inr (inr (inr (inl x)))) = stmt.If x
statement_made (inr (inr (inr (inr (inl x))))) = stmt.Loop x
statement_made (inr (inr (inr (inr (inr (inl x)))))) = stmt.Next x
statement_made (inr (inr (inr (inr (inr (inr (inl x))))))) = stmt.Break x
statement_made (inr (inr (inr (inr (inr (inr (inr (inl x)))))))) = stmt.Meet x
statement_made (inr (inr (inr (inr (inr (inr (inr (inr (inl x))))))))) = stmt.End x
statement_made (inr (inr (inr (inr (inr (inr (inr (inr (inr (inl x)))))))))) = stmt.Proof x
statement_made (inr (inr (inr (inr (inr (inr (inr (inr (inr (inr x)))))))))) = stmt.Assign x.0 x.1

abbrev statement_seen : RawStatementKind-F RawRightSide RawStatementKind RawTail RawIf RawList RawLoop RawStatement RawWhen → Statements
statement_seen (RawStatementKind-F.Store s t) = inl (s, t)
statement_seen (RawStatementKind-F.Write x) = inr (inl x)
statement_seen (RawStatementKind-F.Print l o) = inr (inr (inl (l, o)))
statement_seen (RawStatementKind-F.If x) = inr (inr (inr (inl x)))
statement_seen (RawStatementKind-F.Loop x) = inr (inr (inr (inr (inl x))))
statement_seen (RawStatementKind-F.Next x) = inr (inr (inr (inr (inr (inl x)))))
statement_seen (RawStatementKind-F.Break x) = inr (inr (inr (inr (inr (inr (inl x))))))
statement_seen (RawStatementKind-F.Meet x) = inr (inr (inr (inr (inr (inr (inr (inl x)))))))
statement_seen (RawStatementKind-F.End x) = inr (inr (inr (inr (inr (inr (inr (inr (inl x))))))))
statement_seen (RawStatementKind-F.Proof x) = inr (inr (inr (inr (inr (inr (inr (inr (inr (inl x)))))))))
statement_seen (RawStatementKind-F.Assign n r) = inr (inr (inr (inr (inr (inr (inr (inr (inr (inr (n, r))))))))))

abbrev statement_parts : RawStatementKind → Statements
statement_parts k = statement_seen (out-RawStatementKind k)

pub statement_law : (x : Statements) → statement_seen (out-RawStatementKind (statement_made x)) ≡ x
statement_law (inl x) = ap statement_seen (view.outs-Store x.0 x.1)
statement_law (inr (inl x)) = ap statement_seen (view.outs-Write x)
statement_law (inr (inr (inl x))) = ap statement_seen (view.outs-Print x.0 x.1)
statement_law (inr (inr (inr (inl x)))) = ap statement_seen (view.outs-If x)
statement_law (inr (inr (inr (inr (inl x))))) = ap statement_seen (view.outs-Loop x)
statement_law (inr (inr (inr (inr (inr (inl x)))))) = ap statement_seen (view.outs-Next x)
statement_law (inr (inr (inr (inr (inr (inr (inl x))))))) = ap statement_seen (view.outs-Break x)
statement_law (inr (inr (inr (inr (inr (inr (inr (inl x)))))))) = ap statement_seen (view.outs-Meet x)
statement_law (inr (inr (inr (inr (inr (inr (inr (inr (inl x))))))))) = ap statement_seen (view.outs-End x)
statement_law (inr (inr (inr (inr (inr (inr (inr (inr (inr (inl x)))))))))) = ap statement_seen (view.outs-Proof x)
statement_law (inr (inr (inr (inr (inr (inr (inr (inr (inr (inr x)))))))))) = ap statement_seen (view.outs-Assign x.0 x.1)

-- "print" NAME opd ";"
unfoldable pub print_form : Production (RawName × RawOperand)
print_form = sign.Print ▸ a_name ∘ operand ◂ sign.Semicolon

-- NAME "=" rhs
unfoldable pub assignment : Production (RawName × RawRightSide)
assignment = a_name ∘ sign.Equal ▸ right_side

unfoldable pub statement_kind : Production RawStatementKind
statement_kind = node (λ ws x. statement_made x) statement_parts (λ ws x. statement_law x)
    (either (at_sign sign.Store) (store ∘ ending)
    (either (at_sign sign.Write) write_form
    (either (at_sign sign.Print) print_form
    (either (at_sign sign.If) if_form
    (either (at_sign sign.Loop) loop_form
    (either (at_sign sign.Next) (sign.Next ▸ jump)
    (either (at_sign sign.Break) (sign.Break ▸ jump)
    (either (at_sign sign.Meet) (sign.Meet ▸ jump)
    (either (at_sign sign.End) (sign.End ▸ jump)
    (either at_plain_proof plain_proof
    assignment))))))))))

-- stmt
unfoldable pub statement : Production RawStatement
statement = node (λ ws x. roll-RawStatement (record { what = x; line = first_line ws })) (λ t. (out-RawStatement t).what) (λ ws x. refl) statement_kind
