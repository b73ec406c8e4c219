-- The canonical lexemes of a text.
use Rattle.std.specs.Prelude.{ℕ, List, [], ◌∷◌, ◌++◌, map}
use Rattle.std.specs.List.{flat_map}
use Rattle.sync_base.specs.declared.strategies.OpMode.{OpMode}
use Rattle.sync_base.specs.declared.strategies.OpMode.TheVariants as mode
use Rattle.sync_lex.specs.declared.signs.Sign.{Sign}
use Rattle.sync_lex.specs.declared.signs.Sign.TheVariants as sign
use Rattle.sync_print.specs.Exprs.{Plain}
use Rattle.sync_print.specs.Texts.{PlainPattern, bind, term, PlainPlace, value, key, entry, PlainAct, init, require, assert, update, have_variable, have, guard, add, deposit, remove, withdraw, PlainField, PlainOperation, PlainInvariant, PlainMachine, PlainClaim, keeps, at, PlainProof, PlainText}
use Rattle.sync_print.specs.Lexemes.{Lexeme, one, one_name, one_number, one_strategy, in_round, listed}
use Rattle.sync_print.specs.ShowExprs.{show_expr}
use Rattle.sync_print.specs.ShowScripts.{show_block}

-- ---- statements

abbrev pub show_pattern : PlainPattern → List Lexeme
show_pattern (bind x) = one sign.Question ++ one_name x
show_pattern (term e) = show_expr e

abbrev pub show_place : PlainPlace → List Lexeme
show_place (value p) = one sign.OpenRound ++ show_pattern p ++ one sign.CloseRound
show_place (key e) = one sign.OpenSquare ++ show_expr e ++ one sign.CloseSquare
show_place (entry e p) = one sign.OpenSquare ++ show_expr e ++ one sign.MapsTo ++ show_pattern p ++ one sign.CloseSquare

-- a terminal and a formula
abbrev pub show_formula_act : Sign → Plain → List Lexeme
show_formula_act s e = one s ++ show_expr e ++ one sign.Semicolon

-- a terminal, a field and its value
abbrev pub show_value_act : Sign → ℕ → Plain → List Lexeme
show_value_act s x e = one s ++ one_name x ++ one sign.Equal ++ show_expr e ++ one sign.Semicolon

-- a terminal, a field, a sign and what is said of the field
abbrev pub show_place_act : Sign → ℕ → Sign → PlainPlace → List Lexeme
show_place_act s x symbol p = one s ++ one_name x ++ one symbol ++ show_place p ++ one sign.Semicolon

abbrev pub show_act : PlainAct → List Lexeme
show_act (init x e) = show_value_act sign.Init x e
show_act (require e) = show_formula_act sign.Require e
show_act (assert e) = show_formula_act sign.Assert e
show_act (update x e) = show_value_act sign.Update x e
show_act (have_variable x) = one sign.Have ++ one_name x ++ one sign.Semicolon
show_act (have x p) = show_place_act sign.Have x sign.AtLeast p
show_act (guard x p) = show_place_act sign.Guard x sign.AtLeast p
show_act (add x p) = show_place_act sign.Add x sign.PlusEqual p
show_act (deposit x p) = show_place_act sign.Deposit x sign.PlusEqual p
show_act (remove x p) = show_place_act sign.Remove x sign.MinusEqual p
show_act (withdraw x p) = show_place_act sign.Withdraw x sign.MinusEqual p

-- ---- machines

abbrev pub show_field : PlainField → List Lexeme
show_field f = one sign.Field ++ one_name f.name ++ one sign.Colon ++ one_strategy f.strategy ++ one sign.Semicolon

abbrev pub mode_sign : OpMode → Sign
mode_sign mode.Init = sign.Init
mode_sign mode.Transition = sign.Transition
mode_sign mode.Property = sign.Property

abbrev pub show_names : List ℕ → List Lexeme
show_names xs = in_round (listed (map one_name xs))

abbrev pub show_operation : PlainOperation → List Lexeme
show_operation o = one (mode_sign o.mode) ++ one_name o.name ++ show_names o.params ++ one sign.OpenBrace ++ flat_map show_act o.acts ++ one sign.CloseBrace

abbrev pub show_invariant : PlainInvariant → List Lexeme
show_invariant i = one sign.Invariant ++ one_name i.name ++ show_names i.params ++ one sign.Colon ++ show_expr i.form ++ one sign.Semicolon

abbrev pub show_machine : PlainMachine → List Lexeme
show_machine m = one sign.Machine ++ one_name m.name
    ++ one sign.OpenBrace ++ flat_map show_field m.fields ++ flat_map show_operation m.operations ++ flat_map show_invariant m.invariants ++ one sign.CloseBrace

-- ---- proofs

abbrev pub show_claim : PlainClaim → List Lexeme
show_claim (keeps x) = one sign.Keeps ++ one_name x
show_claim (at n) = one sign.At ++ one_number n

abbrev pub show_proof : PlainProof → List Lexeme
show_proof p = one_name p.operation ++ show_claim p.claim ++ one sign.By ++ show_block p.block

-- no proofs are not shown
abbrev pub show_proofs : List PlainProof → List Lexeme
show_proofs [] = []
show_proofs (p ∷ ps) = one sign.Proofs ++ one sign.OpenBrace ++ flat_map show_proof (p ∷ ps) ++ one sign.CloseBrace

-- ---- texts

abbrev pub show_version : List Lexeme
show_version = one sign.Version ++ one_number 1 ++ one sign.Semicolon

-- the canonical lexemes of a text
abbrev pub show : PlainText → List Lexeme
show t = show_version ++ show_machine t.machine ++ show_proofs t.proofs
