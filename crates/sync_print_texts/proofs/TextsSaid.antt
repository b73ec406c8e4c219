-- Terminals that say what is shown of a whole text spell a text that says the same.
use Rattle.std.proofs.Common.{◌≡◌, List, [], ◌++◌, map}
use Rattle.sync_lex.specs.declared.signs.Sign.TheVariants as sign
use Rattle.sync_lex.specs.declared.terminals.Terminal.{Terminal}
use Rattle.sync_parse_grammar.specs.Texts.{Version, IsVersionOne}
use Rattle.sync_parse_texts.specs.declared.text_reader.RawWholeText.{RawWholeText}
use Rattle.sync_parse_texts.specs.Texts.{Sections, program_part}
use Rattle.sync_parse_texts.specs.Spelled.{WholeText}
use Rattle.sync_print.specs.Texts.{plain_machine, plain_proof}
use Rattle.sync_print.specs.Lexemes.{one, one_number}
use Rattle.sync_print.specs.ShowTexts.{show_machine, show_proofs, show_version, show}
use Rattle.sync_print_programs.specs.Shown.{show_of}
use Rattle.sync_print_programs.specs.Written.{as_printed}
use Rattle.sync_print_spelling.specs.Says.{Says, one_more}
use Rattle.sync_print_spelling.proofs.Terminals.{split as parted, the_sign, the_number, yields, seq}
use Rattle.sync_print_spelling.proofs.Machines.{machines, proofs}
use Rattle.sync_print_texts.specs.Whole.{plain_part, show_whole}
use Rattle.sync_print_texts.specs.Rereading.{SayAlike}
use Rattle.sync_print_texts.proofs.TextsTold.{CanBeShown}
use Rattle.sync_print_texts.proofs.Said.{said_of_program, programs_said}

-- these terminals spell a text that says the same
pub record Respelled (raw : RawWholeText) (ts : List Terminal) : Type 0 where
  pub tree : Sections
  pub spelled : WholeText ts [] tree
  pub same_machine : plain_machine tree.0 ≡ plain_machine raw.machine
  pub same_proofs : map plain_proof tree.1.0 ≡ map plain_proof raw.proofs
  pub same_program : SayAlike program_part tree.1.1 raw.program

pub respelled : (raw : RawWholeText) → CanBeShown raw → (ts : List Terminal) → Says (show_whole raw) ts [] → Respelled raw ts
unfolding WholeText Version
respelled raw is ts h =
    let t = plain_part raw in
    let n3 = parted (show t) (map as_printed (show_of program_part raw.program)) h in
    let n2 = parted (show_version ++ show_machine t.machine) (show_proofs t.proofs) n3.1 in
    let n1 = parted (show_version) (show_machine t.machine) n2.1 in
    let v2 = parted (one sign.Version ++ one_number 1) (one sign.Semicolon) n1.1 in
    let v1 = parted (one sign.Version) (one_number 1) v2.1 in
    let v = the_sign v1.1 in
    let e = the_sign v2.2 in
    let m = machines.holds t.machine is.texts.0 n1.0 n2.0 n1.2 in
    let ps = proofs.holds t.proofs is.texts.1 n2.0 n3.0 n2.2 in
    let p = programs_said program_part raw.program is.programs n3.0 [] (said_of_program (show_of program_part raw.program) n3.2) in
    record {
      tree = (m.raw, (ps.raw, p.tree));
      spelled =
          seq v.0 v2.0 (seq v.0 v1.0 v.1 (seq 1 v2.0 (the_number v1.2) (yields _)))
          (seq e.0 n1.0 e.1 (seq m.raw n2.0 m.spelled (seq ps.raw n3.0 ps.spelled (seq p.tree [] p.spelled (yields _)))));
      same_machine = m.is;
      same_proofs = ps.is;
      same_program = p.same;
    }

-- what is shown of a text is of version 1
pub version_one : (raw : RawWholeText) {ts : List Terminal} → Says (show_whole raw) ts [] → IsVersionOne ts
unfolding one one_number
version_one raw (one_more is (one_more number rest)) = number
