-- What is printed of a text that is spelled is read again as a tree that says the same; each tree that a text can hold is spelled.
use Rattle.std.proofs.Common.{◌≡◌, ◌<◌, ◌≤◌, ℕ, All, Bool, true, false, List, [], length, Result, Ok, Err, IfOk, inl, inr, refl, sym, ap, ◌∙◌, subst, arith}
use Rattle.std.specs.Prelude.{nat_lt}
use Rattle.std.proofs.lemmas.Bool.Decides.{nat_tests}
use Rattle.sync_base.specs.Limits.{longest_text}
use Rattle.sync_base.specs.Outcome as outcome
use Rattle.sync_base.specs.declared.names.Name.{Name}
use Rattle.sync_base.specs.declared.names.NameList.{NameList}
use Rattle.sync_base.specs.declared.stops.Refusal.{Refusal}
use Rattle.sync_base.specs.declared.stops.Rule.TheVariants.{L1}
use Rattle.sync_lex.specs.declared.terminals.Terminal.{Terminal}
use Rattle.sync_lex.specs.declared.terminals.Terminals.{Terminals}
use Rattle.sync_lex.specs.Terminals.{terminals_in}
use Rattle.sync_parse.specs.declared.trees.RawText.{RawText}
use Rattle.sync_parse.specs.Faults.{refused}
use Rattle.sync_parse.specs.Machines.{text_of, parsed}
use Rattle.sync_parse_grammar.specs.Texts.{IsVersionOne, Spells}
use Rattle.sync_parse_grammar.proofs.MachinesClear.{terminals_are}
use Rattle.sync_parse_grammar.proofs.MachinesSound.{sound}
use Rattle.sync_parse_grammar.proofs.MachinesComplete.{refused_deep}
use Rattle.sync_print.specs.Texts.{PlainText, plain_text}
use Rattle.sync_print.specs.Lexemes.{one, one_number, printed}
use Rattle.sync_print.specs.ShowTexts.{show}
use Rattle.sync_print_spelling.specs.Says.{Says, one_more}
use Rattle.sync_print_spelling.specs.Limits.{TextFits}
use Rattle.sync_print_spelling.specs.Laws.{SaysText, canonical, CanBeWritten, SpellAgain}
use Rattle.sync_print_spelling.specs.Namings.{names_said, in_order, LexemeFits}
use Rattle.sync_print_spelling.specs.Names.{AreNames}
use Rattle.sync_print_spelling.specs.Rereading.{Rereads, ReadsBack}
use Rattle.sync_print_spelling.proofs.Texts.{texts}
use Rattle.sync_print_spelling.proofs.TextsTold.{spelled_fits}
use Rattle.sync_print_spelling.proofs.PrintedTerminals.{printed_terminals_in, too_long}
use Rattle.sync_print_spelling.proofs.TextNames.{terminals_are_names}

-- what is shown of a text is of version 1
version_one : (t : PlainText) {ts : List Terminal} → Says (show t) ts [] → IsVersionOne ts
unfolding one one_number
version_one t (one_more is (one_more number rest)) = number

-- a text whose lexemes are refused is refused so
not_terminals_in : (bytes : List ℕ) (r : Refusal) → terminals_in bytes ≡ Err r → parsed bytes ≡ Err r
unfolding parsed
not_terminals_in bytes r e =
    ap (λ (w : Result Terminals Refusal). outcome.◌>>=◌ w (λ ws. outcome.◌>>=◌ {B = RawText} (refused ws.last_line (text_of ws.list)) (λ t. Ok (record { machine = t.0; proofs = t.1; names = ws.names })))) e

-- of a text within the limits, whose names are those that are shown, in order
module _ (raw : RawText) (fits : TextFits (plain_text raw)) (are : AreNames raw.names.list) (each : All (LexemeFits raw.names) (show (plain_text raw)))
    (named : in_order [] (names_said raw.names (show (plain_text raw))) ≡ raw.names.list) where
  abbrev printed_text : List ℕ
  printed_text = printed raw.names (show (plain_text raw))

  read_case : (ws : Terminals) → terminals_in printed_text ≡ Ok ws → ws.names ≡ raw.names → Says (show (plain_text raw)) ws.list [] → SaysText (plain_text raw) printed_text
      → (r : Result RawText Refusal) → parsed printed_text ≡ r → Rereads raw r
  read_case ws is names says canonical (Ok again) e =
      let d = sound printed_text again e in
      let same : d.0 ≡ ws = terminals_are (sym d.1 ∙ is) in
      (canonical.only again d, d.3 ∙ ap (λ (z : Terminals). z.names) same ∙ names)
  read_case ws is names says canonical (Err r) e = inr (refused_deep printed_text ws canonical.tree r is (version_one (plain_text raw) says) canonical.spelled e)

  short_read : length printed_text ≤ longest_text → ReadsBack raw printed_text
  short_read short =
      let p = printed_terminals_in raw.names are (show (plain_text raw)) each short in
      let says = p.1.says named in
      let canonical = texts (plain_text raw) fits printed_text p.0 p.1.terminals_in says in
      let names : p.0.names ≡ raw.names = ap (λ (list : List Name). record { list = list }) (p.1.named ∙ named) in
      read_case p.0 p.1.terminals_in names says canonical (parsed printed_text) refl

  spelled_again : length printed_text ≤ longest_text → SpellAgain raw printed_text
  spelled_again short =
      let p = printed_terminals_in raw.names are (show (plain_text raw)) each short in
      let says = p.1.says named in
      let written = texts (plain_text raw) fits printed_text p.0 p.1.terminals_in says in
      let same : written.spelled.0 ≡ p.0 = terminals_are (sym written.spelled.1 ∙ p.1.terminals_in) in
      let names : p.0.names ≡ raw.names = ap (λ (list : List Name). record { list = list }) (p.1.named ∙ named) in
      record {
        tree = written.tree;
        spelled = written.spelled;
        is = written.is;
        same_names = written.spelled.3 ∙ ap (λ (z : Terminals). z.names) same ∙ names;
      }

  long_read : longest_text < length printed_text → ReadsBack raw printed_text
  long_read over = subst (Rereads raw) (sym (not_terminals_in printed_text (record { line = 1; rule = L1 }) (too_long printed_text over))) (inl refl)

  read_back : ReadsBack raw printed_text
  read_back = by_length (nat_lt longest_text (length printed_text)) refl
    where
      by_length : (c : Bool) → nat_lt longest_text (length printed_text) ≡ c → ReadsBack raw printed_text
      by_length true e = long_read (grind (arith, nat_tests))
      by_length false e = short_read (grind (arith, nat_tests))

-- what is printed of a text that is spelled is read again as a tree that says the same, unless it is too long or too deep
pub reads_back : (text : List ℕ) (raw : RawText) → Spells text raw → ReadsBack raw (printed raw.names (show (plain_text raw)))
reads_back text raw d =
    let names = subst (λ (n : NameList). AreNames n.list) (sym d.3) (terminals_are_names text d.0 d.1).names in
    read_back raw (spelled_fits.limits text raw d) names (spelled_fits.lexemes text raw d) (sym (spelled_fits.names text raw d))

-- a tree that a text can hold is spelled by its canonical bytes
pub each_spelled : (raw : RawText) → CanBeWritten raw → SpellAgain raw (canonical raw)
each_spelled raw p = spelled_again raw p.limits p.names p.lexemes (sym p.order) p.short

-- the same of an answer
pub printed_reads_back : {E : Type 0} (raw : RawText) (r : Result (List ℕ) E) → IfOk r (λ (bytes : List ℕ). bytes ≡ printed raw.names (show (plain_text raw)))
    → IfOk r (λ (bytes : List ℕ). (source : List ℕ) → Spells source raw → ReadsBack raw bytes)
printed_reads_back raw (Ok bytes) e = λ source d. subst (ReadsBack raw) (sym e) (reads_back source raw d)
printed_reads_back raw (Err s) e = tt
