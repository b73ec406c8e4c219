-- What is known of the program of a text, behind which the text ends.
use Rattle.std.proofs.Common.{◌≡◌, ℕ, Bool, true, List, [], ◌∷◌, Result, Ok, Err, refl, arith}
use Rattle.sync_lex.specs.declared.signs.Sign.TheVariants as sign
use Rattle.sync_lex.specs.declared.terminals.Terminal.{Terminal}
use Rattle.sync_parse_exprs.specs.declared.faults.Fault.{Fault}
use Rattle.sync_parse_exprs.specs.declared.faults.Fault.TheVariants as fault
use Rattle.sync_parse_exprs.specs.Terminals.{Read}
use Rattle.sync_parse_forms.specs.Deciding.{decided, first, solid}
use Rattle.sync_parse_forms.proofs.Bundle.{IsForm}
use Rattle.sync_parse_forms.proofs.Completes.{Met, Complete}
use Rattle.sync_parse_forms.specs.Relations.{Spelled}
use Rattle.sync_parse_forms.proofs.Sounds.{Sound}
use Rattle.sync_parse_forms.specs.Fronts.{code, Set, among}
use Rattle.sync_parse_forms.proofs.Clears.{Clear, Follows}
use Rattle.sync_parse_grammar.proofs.Completes as grammar
use Rattle.sync_parse_programs.specs.Programs.{program, read}
use Rattle.sync_parse_programs.specs.Begun.{begun, begins_statement, behind_statement}
use Rattle.sync_parse_programs.proofs.Decided.{program_decided}
use Rattle.sync_parse_texts.specs.SpelledPrograms.{Spells}
use Rattle.sync_parse_texts.proofs.Statements.{formed, known}
use Rattle.sync_parse_texts.specs.Texts.{program_part}

-- the end of a text
abbrev pub at_end : Set
at_end = among (0 ∷ [])

-- what may follow the proofs
abbrev pub behind_proofs : Set
behind_proofs = among (code sign.Program ∷ 0 ∷ [])

program_first : first begun.first begins_statement program (0 ∷ []) ≡ code sign.Program ∷ []
unfolding program
program_first = refl

part_decided : decided begun begins_statement behind_statement true program_part (0 ∷ []) ≡ true
unfolding program_part
part_decided = rw (program_first, program_decided) refl

part_known : {s : Bool} {n : ℕ} → IsForm s n (solid program_part) (first begun.first begins_statement program_part (0 ∷ [])) (0 ∷ []) (formed program_part) (formed program_part)
part_known = known program_part (0 ∷ []) part_decided

pub part_sound : (left : ℕ) (ts : List Terminal) → Sound (Spells program_part) ts (read program_part left ts)
part_sound = (part_known {s = true} {n = 0}).sound tt

pub part_clear : Clear at_end (Spells program_part) (Spells program_part)
part_clear = (part_known {s = true} {n = 0}).clear

pub part_follows : Follows at_end behind_proofs (Spells program_part)
unfolding program_part program
part_follows = (part_known {s = true} {n = 0}).edge.follows

pub part_complete : (ts : List Terminal) → Complete at_end (Spells program_part) ts (read program_part 65 ts)
part_complete ts = record { at = ((part_known {s = true} {n = 66}).complete 65 (omega arith) ts).at }

-- ---- programs have no measure of depth, so nothing is said here of the tree that is too deep

pub met : {A S : Type 0} (r : Result A Fault) (x : A) → grammar.Met r x S → Met r x
met (Ok v) x h = record { is = h.is.0 }
met (Err (fault.Deep line)) x h = record { is = tt }
met (Err (fault.Version line)) x h = absurd h.is.0
met (Err fault.Ended) x h = absurd h.is.0
met (Err (fault.Wanted line)) x h = absurd h.is.0
met (Err (fault.Unbuilt line)) x h = absurd h.is.0

pub complete : {A : Type 0} {q : Set} {m : Spelled A} {S : A → Type 0} {ts : List Terminal} {r : Read A} → grammar.Complete q m S ts r → Complete q m ts r
complete {r = r} h = record { at = λ x rest d e. met r (x, rest) (h.at x rest d e) }

-- reading gives a tree
abbrev pub IsRead : {A : Type 0} → Result A Fault → Type 0
IsRead (Ok x) = Unit {0}
IsRead (Err f) = ⊥

-- what is read or too deep is read exactly where reading gives a tree
pub met_read : {A : Type 0} (r : Result A Fault) (x : A) → Met r x → grammar.Met r x (IsRead r)
met_read (Ok v) x h = record { is = (h.is, tt) }
met_read (Err (fault.Deep line)) x h = record { is = (tt, λ s. s) }
met_read (Err (fault.Version line)) x h = absurd h.is
met_read (Err fault.Ended) x h = absurd h.is
met_read (Err (fault.Wanted line)) x h = absurd h.is
met_read (Err (fault.Unbuilt line)) x h = absurd h.is
