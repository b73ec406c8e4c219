-- Whole texts: what they spell.
use Rattle.std.proofs.Common.{◌≡◌, ℕ, List, [], ◌++◌, map, Ok, refl, ap, ◌∙◌}
use Rattle.sync_lex.specs.declared.signs.Sign.TheVariants as sign
use Rattle.sync_lex.specs.declared.terminals.Terminal.{Terminal}
use Rattle.sync_lex.specs.declared.terminals.Terminals.{Terminals}
use Rattle.sync_lex.specs.Terminals.{terminals_in}
use Rattle.sync_parse.specs.declared.trees.RawText.{RawText}
use Rattle.sync_parse.specs.declared.trees.RawMachine.{RawMachine}
use Rattle.sync_parse.specs.declared.trees.RawProof.{RawProof}
use Rattle.sync_parse_grammar.specs.Texts.{Version, Text, Spells}
use Rattle.sync_parse_grammar.proofs.MachinesClear.{unambiguous}
use Rattle.sync_print.specs.Texts.{PlainMachine, PlainProof, PlainText, plain_machine, plain_proof, plain_text}
use Rattle.sync_print.specs.Lexemes.{one, one_number}
use Rattle.sync_print.specs.ShowTexts.{show_machine, show_proofs, show_version, show}
use Rattle.sync_print_spelling.specs.Says.{Says}
use Rattle.sync_print_spelling.specs.Limits.{TextFits}
use Rattle.sync_print_spelling.specs.Laws.{Derives, SaysText}
use Rattle.sync_print_spelling.proofs.Terminals.{split as parted, the_sign, the_number, yields, seq}
use Rattle.sync_print_spelling.proofs.Machines.{machines, proofs}

-- what a machine and its proofs say
abbrev says : RawMachine × List RawProof → PlainText
says x = record { machine = plain_machine x.0; proofs = map plain_proof x.1 }

text_is : (t : PlainText) {m : PlainMachine} {ps : List PlainProof} → m ≡ t.machine → ps ≡ t.proofs → ◌≡◌ {A = PlainText} (record { machine = m; proofs = ps }) t
text_is t p q = λ i. record { machine = p i; proofs = q i }

text_spelled : (t : PlainText) → TextFits t → (ts rest : List Terminal) → Says (show t) ts rest → Derives Text says t ts rest
unfolding Text Version
text_spelled t fits ts rest h =
    let n2 = parted (show_version ++ show_machine t.machine) (show_proofs t.proofs) h in
    let n1 = parted (show_version) (show_machine t.machine) n2.1 in
    let v2 = parted (one sign.Version ++ one_number 1) (one sign.Semicolon) n1.1 in
    let v1 = parted (one sign.Version) (one_number 1) v2.1 in
    let v = the_sign v1.1 in
    let e = the_sign v2.2 in
    let m = machines.holds t.machine fits.0 n1.0 n2.0 n1.2 in
    let ps = proofs.holds t.proofs fits.1 n2.0 rest n2.2 in
    record {
      raw = (m.raw, ps.raw);
      spelled = seq v.0 v2.0 (seq v.0 v1.0 v.1 (seq 1 v2.0 (the_number v1.2) (yields _))) (seq e.0 n1.0 e.1 (seq m.raw n2.0 m.spelled (seq ps.raw rest ps.spelled (yields _))));
      is = text_is t m.is ps.is;
    }

pub texts : (t : PlainText) → TextFits t → (text : List ℕ) (ws : Terminals) → terminals_in text ≡ Ok ws → Says (show t) ws.list [] → SaysText t text
texts t fits text ws e h =
    let y = text_spelled t fits ws.list [] h in
    let raw : RawText = record { machine = y.raw.0; proofs = y.raw.1; names = ws.names } in
    let spelled : Spells text raw = (ws, e, y.spelled, refl) in
    record {
      tree = raw;
      spelled = spelled;
      is = y.is;
      only = λ other d. ap plain_text (unambiguous text other raw d spelled) ∙ y.is;
    }
