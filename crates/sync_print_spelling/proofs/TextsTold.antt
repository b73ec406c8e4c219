-- A text spells what is within the limits, and names its names in the order in which they are shown.
use Rattle.std.proofs.Common.{◌≡◌, ◌≤◌, ℕ, List, [], map, Ok, sym, ap, ◌∙◌, subst, arith}
use Rattle.std.specs.List.{All}
use Rattle.std.proofs.lemmas.List.{append-nil}
use Rattle.sync_base.specs.declared.names.NameList.{NameList}
use Rattle.sync_lex.specs.declared.signs.Sign.TheVariants as sign
use Rattle.sync_lex.specs.declared.terminals.Terminal.{Terminal}
use Rattle.sync_lex.specs.declared.terminals.Terminals.{Terminals}
use Rattle.sync_lex.specs.Terminals.{terminals_in}
use Rattle.sync_base.specs.Limits.{largest}
use Rattle.sync_parse.specs.declared.trees.RawText.{RawText}
use Rattle.sync_parse.specs.declared.trees.RawMachine.{RawMachine}
use Rattle.sync_parse.specs.declared.trees.RawProof.{RawProof}
use Rattle.sync_parse_grammar.specs.Texts.{Version, Text, Spells}
use Rattle.sync_parse_grammar.proofs.MachinesClear.{terminals_are}
use Rattle.sync_print.specs.Texts.{PlainText, plain_machine, plain_proof, plain_text}
use Rattle.sync_print.specs.ShowTexts.{show}
use Rattle.sync_print_spelling.specs.Limits.{TextFits}
use Rattle.sync_print_spelling.specs.Laws.{SpelledFits}
use Rattle.sync_print_spelling.specs.Namings.{names_said, terminal_names, in_order, LexemeFits}
use Rattle.sync_print_spelling.proofs.TrueNames.{TerminalsAreTrue}
use Rattle.sync_print_spelling.proofs.Told.{both, behind, sign_told, number_told, none_read}
use Rattle.sync_print_spelling.proofs.ListsTold.{Read, ended}
use Rattle.sync_print_spelling.proofs.MachinesTold.{machines_told, proofs_told}
use Rattle.sync_print_spelling.proofs.TerminalNames.{names_in_order}
use Rattle.sync_print_spelling.proofs.TextNames.{terminals_are_names}

-- what a machine and its proofs say
abbrev says : RawMachine × List RawProof → PlainText
says x = record { machine = plain_machine x.0; proofs = map plain_proof x.1 }

abbrev OfText : NameList → RawMachine × List RawProof → List Terminal → List Terminal → Type 0
OfText names x ts rest = Read names (TextFits (says x)) (show (says x)) ts rest

one_within : 1 ≤ largest
one_within = omega arith

text_told : {names : NameList} (ts rest : List Terminal) (x : RawMachine × List RawProof) → Text ts rest x → OfText names x ts rest
unfolding Text Version
text_told {names = names} ts rest x d =
    let v = d.one in
    let n = v.next in
    let e = d.next in
    let m = e.next in
    let ps = m.next in
    let y = machines_told.at e.middle m.middle m.value m.one in
    let z = proofs_told.at m.middle ps.middle ps.value ps.one in
    let version = both (both (sign_told sign.Version v.one) (behind (number_told 1 one_within n.one) (none_read n.next))) (sign_told sign.Semicolon e.one) in
    ended (OfText names) ps.next (record { fits = (y.fits, z.fits); tells = both (both version y.tells) z.tells })

-- all terminals of a text
whole_text : (names : NameList) (ws : List Terminal) (x : RawMachine × List RawProof) → Text ws [] x → TerminalsAreTrue names ws
    → TextFits (says x) × (terminal_names names ws ≡ names_said names (show (says x))) × All (LexemeFits names) (show (says x))
unfolding terminal_names
whole_text names ws x d are_true =
    let r = text_told {names = names} ws [] x d in
    let t = r.tells.told are_true in
    (r.fits, t.said ∙ append-nil (names_said names (show (says x))), t.fit)

-- ---- what a text spells

module _ (text : List ℕ) (raw : RawText) (d : Spells text raw) where
  terminals_true : TerminalsAreTrue raw.names d.0.list
  terminals_true = subst (λ (n : NameList). TerminalsAreTrue n d.0.list) (sym d.3) (terminals_are_names text d.0 d.1).terminals

  tree_fits : TextFits (plain_text raw) × (terminal_names raw.names d.0.list ≡ names_said raw.names (show (plain_text raw))) × All (LexemeFits raw.names) (show (plain_text raw))
  tree_fits = whole_text raw.names d.0.list (raw.machine, raw.proofs) d.2 terminals_true

  terminals_name : (ws : Terminals) → terminals_in text ≡ Ok ws → terminal_names raw.names ws.list ≡ names_said raw.names (show (plain_text raw))
  terminals_name ws e = ap (λ (v : Terminals). terminal_names raw.names v.list) (terminals_are (sym e ∙ d.1)) ∙ tree_fits.1

  names_shown : raw.names.list ≡ in_order [] (names_said raw.names (show (plain_text raw)))
  names_shown = subst (λ (n : NameList). n.list ≡ in_order [] (terminal_names n d.0.list)) (sym d.3) (names_in_order text d.0 d.1) ∙ ap (in_order []) tree_fits.1

pub spelled_fits : SpelledFits
spelled_fits = record {
  limits = λ text raw d. (tree_fits text raw d).0;
  lexemes = λ text raw d. (tree_fits text raw d).2;
  terminals = λ text raw ws d e. terminals_name text raw d ws e;
  names = names_shown;
}
