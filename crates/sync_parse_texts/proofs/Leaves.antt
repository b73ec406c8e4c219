-- Expressions and scripts as productions that programs take from elsewhere, by the laws that are proved of them.
use Rattle.std.proofs.Common.{◌≡◌, ℕ, ◌<◌, Bool, true, false, ◌||◌, List, [], ◌∷◌, length, Ok, Err, ap, arith}
use Rattle.sync_lex.specs.declared.signs.Sign.TheVariants as sign
use Rattle.sync_lex.specs.declared.terminals.Terminal.{Terminal}
use Rattle.sync_parse_exprs.specs.declared.faults.Fault.TheVariants as fault
use Rattle.sync_parse_exprs.specs.Terminals.{Read}
use Rattle.sync_parse.specs.declared.scripts.RawScript.{RawScript}
use Rattle.sync_parse_forms.specs.Relations as forms
use Rattle.sync_parse_forms.specs.Fronts.{Set, code, among, all_of}
use Rattle.sync_parse_forms.proofs.Counting.{one_shorter}
use Rattle.sync_parse_forms.proofs.Forms.{Form}
use Rattle.sync_parse_forms.proofs.Completes as new_completes
use Rattle.sync_parse_forms.proofs.Bundle.{IsForm}
use Rattle.sync_parse_forms.proofs.Coded.{from_laws}
use Rattle.sync_parse_grammar.specs.Scripts.{Script}
use Rattle.sync_parse_forms.proofs.Clears.{Starts, starts_then, starts_the, starts_weaker}
use Rattle.sync_parse_grammar.proofs.Completes.{Complete, Met}
use Rattle.sync_parse_grammar.proofs.Counting.{silent_block}
use Rattle.sync_parse_grammar.proofs.ExpressionsSound.{expr_sound}
use Rattle.sync_parse_grammar.proofs.ExpressionsClear.{clear_expr, starts_expr}
use Rattle.sync_parse_grammar.proofs.ExpressionsComplete.{complete_expr, shrinks_expr}
use Rattle.sync_parse_grammar.proofs.ScriptsSound.{script_sound}
use Rattle.sync_parse_grammar.proofs.ScriptsClear.{clear_script}
use Rattle.sync_parse_grammar.proofs.ScriptsComplete.{complete_script}
use Rattle.sync_parse_programs.specs.Known.{Known, an_expr, a_script, known_read}
use Rattle.sync_parse_programs.specs.Begun.{known_first, known_follow}
use Rattle.sync_parse_texts.specs.SpelledPrograms.{known_spelled}

excused : {A S : Type 0} (r : Read A) (x : A × List Terminal) → Met r x S → new_completes.Met r x
excused (Ok v) x h = record { is = h.is.0 }
excused (Err (fault.Deep line)) x h = record { is = tt }
excused (Err (fault.Version line)) x h = absurd h.is.0
excused (Err fault.Ended) x h = absurd h.is.0
excused (Err (fault.Wanted line)) x h = absurd h.is.0
excused (Err (fault.Unbuilt line)) x h = absurd h.is.0

complete : {A : Type 0} {q : Set} {m : forms.Spelled A} {S : A → Type 0} {ts : List Terminal} (r : Read A) → Complete q m S ts r → new_completes.Complete q m ts r
complete r h = record { at = λ x rest d e. excused r (x, rest) (h.at x rest d e) }

-- ---- scripts

script_shrinks : (ts rest : List Terminal) (x : RawScript) → Script ts rest x → length rest < length ts
unfolding Script
script_shrinks ts rest x d =
    let a = one_shorter ts d.middle d.one.terminal d.one.stands in
    let b : length d.next.middle < length d.middle = (silent_block.at d.middle d.next.middle d.next.value d.next.one).shorter in
    let c : length d.next.middle ≡ length rest = ap (λ (us : List Terminal). length us) d.next.next.none in
    omega (arith, a, b, c)

script_starts : Starts Script (among (code sign.By ∷ []))
unfolding Script
script_starts = starts_weaker (starts_then starts_the) (record { at = λ c h. ap (λ (b : Bool). b || false) h })

abbrev pub known_form : (X : Type 0) → Known X → Form X
known_form X c = record { spelled = known_spelled X c; read = known_read X c }

pub known_law : {s : Bool} (X : Type 0) (c : Known X) (n : ℕ) (q : List ℕ) → all_of (known_follow X c) q ≡ true → IsForm s n true (known_first X c) q (known_form X c) (known_form X c)
known_law X an_expr n q h = from_laws (known_form X an_expr) (known_first X an_expr) (known_follow X an_expr) (λ left ts. expr_sound left ts) (λ left ts. complete _ (complete_expr left ts)) clear_expr starts_expr shrinks_expr q h
known_law X a_script n q h = from_laws (known_form X a_script) (known_first X a_script) (known_follow X a_script) (λ left ts. script_sound left ts) (λ left ts. complete _ (complete_script left ts)) clear_script script_starts
    (record { at = script_shrinks }) q h
