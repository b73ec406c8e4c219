-- What is printed of a whole text that is spelled is read again as a tree that says the same.
use Rattle.std.proofs.Common.{◌≡◌, ◌<◌, ◌≤◌, ℕ, Bool, true, false, List, length, Result, Ok, Err, IfOk, inl, inr, refl, sym, ap, ◌∙◌, subst, arith}
use Rattle.std.specs.Prelude.{nat_lt}
use Rattle.std.proofs.lemmas.Bool.Decides.{nat_tests}
use Rattle.sync_base.specs.Limits.{longest_text}
use Rattle.sync_base.specs.Outcome as outcome
use Rattle.sync_base.specs.declared.names.Name.{Name}
use Rattle.sync_base.specs.declared.names.NameList.{NameList}
use Rattle.sync_base.specs.declared.stops.Refusal.{Refusal}
use Rattle.sync_base.specs.declared.stops.Rule.TheVariants.{L1}
use Rattle.sync_base.specs.declared.stops.Stop.TheVariants as stop
use Rattle.sync_lex.specs.declared.terminals.Terminals.{Terminals}
use Rattle.sync_lex.specs.Terminals.{terminals_in}
use Rattle.sync_parse.specs.Faults.{refused}
use Rattle.sync_parse_grammar.specs.Texts.{IsVersionOne}
use Rattle.sync_parse_texts.specs.declared.text_reader.RawWholeText.{RawWholeText}
use Rattle.sync_parse_texts.specs.Texts.{sections_of, whole_text}
use Rattle.sync_parse_texts.specs.Spelled.{Spells}
use Rattle.sync_parse_texts.proofs.Answers.{answer_only, answer_deep}
use Rattle.sync_print.specs.Texts.{PlainMachine, PlainProof, PlainText}
use Rattle.sync_print.specs.Lexemes.{printed}
use Rattle.sync_print_spelling.specs.Names.{AreNames}
use Rattle.sync_print_spelling.proofs.PrintedTerminals.{printed_terminals_in, too_long}
use Rattle.sync_print_spelling.proofs.TextNames.{terminals_are_names}
use Rattle.sync_print_texts.specs.Whole.{show_whole}
use Rattle.sync_print_texts.specs.Rereading.{SaySame, Rereads, ReadsBack}
use Rattle.sync_print_texts.proofs.TextsTold.{CanBeShown, can_be_shown}
use Rattle.sync_print_texts.proofs.TextsSaid.{respelled, version_one}

-- a text whose lexemes are refused is refused so
not_terminals_in : (bytes : List ℕ) (r : Refusal) → terminals_in bytes ≡ Err r → whole_text bytes ≡ Err r
unfolding whole_text
not_terminals_in bytes r e =
    ap (λ (w : Result Terminals Refusal). outcome.◌>>=◌ w (λ ws. outcome.◌>>=◌ {B = RawWholeText} (refused ws.last_line (sections_of ws.list)) (λ t. Ok (record { machine = t.0; proofs = t.1.0; program = t.1.1; names = ws.names })))) e

plain_is : {m n : PlainMachine} {ps qs : List PlainProof} → m ≡ n → ps ≡ qs → ◌≡◌ {A = PlainText} (record { machine = m; proofs = ps }) (record { machine = n; proofs = qs })
plain_is p q = λ i. record { machine = p i; proofs = q i }

-- of a text within the limits, whose names are those that are shown, in order
module _ (raw : RawWholeText) (is : CanBeShown raw) (are : AreNames raw.names.list) where
  abbrev printed_text : List ℕ
  printed_text = printed raw.names (show_whole raw)

  read_case : (tree : RawWholeText) → SaySame tree raw → Spells printed_text tree → (ws : Terminals) → terminals_in printed_text ≡ Ok ws → IsVersionOne ws.list → (r : Result RawWholeText Refusal) → whole_text printed_text ≡ r → Rereads raw r
  read_case tree same spelled ws stands one (Ok again) e = subst (λ (t : RawWholeText). SaySame t raw) (answer_only printed_text (Ok again) e tree spelled) same
  read_case tree same spelled ws stands one (Err r) e = inr (answer_deep printed_text (Err (stop.Refused r)) e (ws, stands, one) tree spelled)

  short_read : length printed_text ≤ longest_text → ReadsBack raw printed_text
  short_read short =
      let p = printed_terminals_in raw.names are (show_whole raw) is.each short in
      let says = p.1.says is.named in
      let x = respelled raw is p.0.list says in
      let names : p.0.names ≡ raw.names = ap (λ (list : List Name). record { list = list }) (p.1.named ∙ is.named) in
      let tree : RawWholeText = record { machine = x.tree.0; proofs = x.tree.1.0; program = x.tree.1.1; names = p.0.names } in
      let same : SaySame tree raw = record { plain_parts = plain_is x.same_machine x.same_proofs; programs = x.same_program; same_names = names } in
      read_case tree same (p.0, p.1.terminals_in, x.spelled, refl) p.0 p.1.terminals_in (version_one raw says) (whole_text printed_text) refl

  long_read : longest_text < length printed_text → ReadsBack raw printed_text
  long_read over = subst (Rereads raw) (sym (not_terminals_in printed_text (record { line = 1; rule = L1 }) (too_long printed_text over))) (inl refl)

  read_back : ReadsBack raw printed_text
  read_back = by_length (nat_lt longest_text (length printed_text)) refl
    where
      by_length : (c : Bool) → nat_lt longest_text (length printed_text) ≡ c → ReadsBack raw printed_text
      by_length true e = long_read (grind (arith, nat_tests))
      by_length false e = short_read (grind (arith, nat_tests))

-- what is printed of a text that is spelled is read again as a tree that says the same, unless it is too long or too deep
reads_back : (text : List ℕ) (raw : RawWholeText) → Spells text raw → ReadsBack raw (printed raw.names (show_whole raw))
reads_back text raw d = read_back raw (can_be_shown text raw d) (subst (λ (n : NameList). AreNames n.list) (sym d.3) (terminals_are_names text d.0 d.1).names)

-- the same of an answer
pub printed_reads_back : {E : Type 0} (raw : RawWholeText) (r : Result (List ℕ) E) → IfOk r (λ (bytes : List ℕ). bytes ≡ printed raw.names (show_whole raw))
    → IfOk r (λ (bytes : List ℕ). (source : List ℕ) → Spells source raw → ReadsBack raw bytes)
printed_reads_back raw (Ok bytes) e = λ source d. subst (ReadsBack raw) (sym e) (reads_back source raw d)
printed_reads_back raw (Err s) e = tt
