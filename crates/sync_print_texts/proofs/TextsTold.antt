-- A whole text spells what is within the limits, and names its names in the order in which they are shown.
use Rattle.std.proofs.Common.{◌≡◌, ◌≤◌, ℕ, List, [], ◌++◌, map, sym, ap, ◌∙◌, subst, arith}
use Rattle.std.specs.List.{All}
use Rattle.std.proofs.lemmas.List.{append-nil}
use Rattle.sync_base.specs.Limits.{largest}
use Rattle.sync_base.specs.declared.names.NameList.{NameList}
use Rattle.sync_lex.specs.declared.signs.Sign.TheVariants as sign
use Rattle.sync_lex.specs.declared.terminals.Terminal.{Terminal}
use Rattle.sync_parse_grammar.specs.Texts.{Version}
use Rattle.sync_parse_texts.specs.declared.text_reader.RawWholeText.{RawWholeText}
use Rattle.sync_parse_texts.specs.Texts.{Sections, program_part}
use Rattle.sync_parse_texts.specs.Spelled.{WholeText, Spells}
use Rattle.sync_print.specs.Texts.{PlainText, plain_machine, plain_proof}
use Rattle.sync_print.specs.Lexemes.{Lexeme}
use Rattle.sync_print.specs.ShowTexts.{show}
use Rattle.sync_print_programs.specs.Shown.{show_of}
use Rattle.sync_print_programs.specs.Written.{as_printed}
use Rattle.sync_print_spelling.specs.Limits.{TextFits}
use Rattle.sync_print_spelling.specs.Namings.{names_said, terminal_names, in_order, LexemeFits}
use Rattle.sync_print_spelling.proofs.TrueNames.{TerminalsAreTrue}
use Rattle.sync_print_spelling.proofs.Told.{Tells, both, behind, sign_told, number_told, none_read}
use Rattle.sync_print_spelling.proofs.ListsTold.{ended}
use Rattle.sync_print_spelling.proofs.MachinesTold.{machines_told, proofs_told}
use Rattle.sync_print_spelling.proofs.TerminalNames.{names_in_order}
use Rattle.sync_print_spelling.proofs.TextNames.{terminals_are_names}
use Rattle.sync_print_texts.specs.Whole.{plain_part, show_whole}
use Rattle.sync_print_texts.proofs.ProgramsTold.{FitsOf, programs_told}

-- what the machine and the proofs of a text say
abbrev says : Sections → PlainText
says x = record { machine = plain_machine x.0; proofs = map plain_proof x.1.0 }

abbrev shown : Sections → List Lexeme
shown x = show (says x) ++ map as_printed (show_of program_part x.1.1)

record OfText (names : NameList) (x : Sections) (ts rest : List Terminal) : Type 0 where
  texts : TextFits (says x)
  programs : TerminalsAreTrue names ts → FitsOf program_part x.1.1
  tells : Tells names (shown x) ts rest

one_within : 1 ≤ largest
one_within = omega arith

text_told : (names : NameList) (ts rest : List Terminal) (x : Sections) → WholeText ts rest x → OfText names x ts rest
unfolding WholeText Version
text_told names ts rest x d =
    let v = d.one in
    let n = v.next in
    let e = d.next in
    let m = e.next in
    let ps = m.next in
    let p = ps.next in
    let machines = machines_told {names = names} in
    let proofs = proofs_told {names = names} in
    let y = machines.at e.middle m.middle m.value m.one in
    let z = proofs.at m.middle ps.middle ps.value ps.one in
    let w = programs_told names program_part ps.middle p.middle p.value p.one in
    let version = both (both (sign_told sign.Version v.one) (behind (number_told 1 one_within n.one) (none_read n.next))) (sign_told sign.Semicolon e.one) in
    let text = both (both version y.tells) z.tells in
    let here : OfText names (m.value, (ps.value, p.value)) ts p.middle = record { texts = (y.fits, z.fits); programs = λ t. w.fits (text.told t).true_rest; tells = both text w.tells } in
    ended (OfText names) p.next here

-- ---- what a text spells

pub record CanBeShown (raw : RawWholeText) : Type 0 where
  pub texts : TextFits (plain_part raw)
  pub programs : FitsOf program_part raw.program
  pub each : All (LexemeFits raw.names) (show_whole raw)
  pub named : in_order [] (names_said raw.names (show_whole raw)) ≡ raw.names.list

all_named : (names : NameList) (ws : List Terminal) (x : Sections) → WholeText ws [] x → TerminalsAreTrue names ws → terminal_names names ws ≡ names_said names (shown x)
unfolding terminal_names
all_named names ws x d are_true = ((text_told names ws [] x d).tells.told are_true).said ∙ append-nil (names_said names (shown x))

pub can_be_shown : (text : List ℕ) (raw : RawWholeText) → Spells text raw → CanBeShown raw
can_be_shown text raw d =
    let are_true = subst (λ (n : NameList). TerminalsAreTrue n d.0.list) (sym d.3) (terminals_are_names text d.0 d.1).terminals in
    let x : Sections = (raw.machine, (raw.proofs, raw.program)) in
    let r = text_told raw.names d.0.list [] x d.2 in
    record {
      texts = r.texts;
      programs = r.programs are_true;
      each = (r.tells.told are_true).fit;
      named =
          sym (subst (λ (n : NameList). n.list ≡ in_order [] (terminal_names n d.0.list)) (sym d.3) (names_in_order text d.0 d.1)
          ∙ ap (in_order []) (all_named raw.names d.0.list x d.2 are_true));
    }
