-- What is read as a hypothesis or a part of a sum is within the limits, and its terminals name what is shown of it.
use Rattle.std.proofs.Common.{◌≡◌, ◌≤◌, ℕ, zero, suc, ℤ, pos, neg_ℤ, unsigned_abs, Bool, true, false, List, ◌++◌, min, Some, None, if◌then◌else◌, subst, arith}
use Rattle.std.specs.Int.{is_negative}
use Rattle.sync_base.proofs.Basics.{some_is}
use Rattle.sync_base.specs.declared.names.NameList.{NameList}
use Rattle.sync_lex.specs.declared.signs.Sign.{Sign}
use Rattle.sync_lex.specs.declared.signs.Sign.TheVariants as sign
use Rattle.sync_lex.specs.declared.terminals.Terminal.{Terminal}
use Rattle.sync_lex.specs.Signs.{is_same}
use Rattle.sync_base.specs.Limits.{largest}
use Rattle.sync_parse_exprs.specs.declared.expressions.Special.{Special}
use Rattle.sync_parse_exprs.specs.declared.expressions.Special.TheVariants as terminal
use Rattle.sync_parse_exprs.specs.declared.raw_names.RawName.{RawName}
use Rattle.sync_parse.specs.declared.scripts.RawSubject.{RawSubject}
use Rattle.sync_parse.specs.declared.scripts.RawHypName.{RawHypName}
use Rattle.sync_parse.specs.declared.scripts.RawPart.{RawPart}
use Rattle.sync_parse.specs.Scripts.{statement_number, bounded_of, times_of, last_statement}
use Rattle.sync_parse_forms.specs.Relations.{Yields, the_one, the_other}
use Rattle.sync_parse_grammar.specs.Scripts.{ASubject, Hyp, Scaled, Part, As}
use Rattle.sync_print.specs.Scripts.{plain_subject, plain_hyp, plain_part}
use Rattle.sync_print.specs.Lexemes.{one, one_number}
use Rattle.sync_print.specs.ShowExprs.{special_sign}
use Rattle.sync_print.specs.ShowScripts.{show_subject, show_hyp, show_times, show_part, show_as}
use Rattle.sync_print_spelling.specs.Limits.{IsBounded, SubjectFits, HypFits, PartFits}
use Rattle.sync_print_spelling.proofs.Told.{Tells, both, silent, number_shown, sign_read, sign_told, one_of_read, number_read, number_told, name_told}
use Rattle.sync_print_spelling.proofs.ListsTold.{Read, Reads, ended}

-- the terminals that a bound may stand on are bounded
bounded_case : (a b c : Bool) (w : Special) → (if a then Some terminal.Old else if b then Some terminal.New else if c then Some terminal.Wrap else None) ≡ Some w → IsBounded w
bounded_case true b c w e = subst IsBounded (some_is e) tt
bounded_case false true c w e = subst IsBounded (some_is e) tt
bounded_case false false true w e = subst IsBounded (some_is e) tt
bounded_case false false false w e = absurd cc

is_bounded : (s : Sign) (w : Special) → bounded_of s ≡ Some w → IsBounded w
unfolding bounded_of
is_bounded s w e = bounded_case (is_same s sign.Old) (is_same s sign.New) (is_same s sign.Wrap) w e

-- what is said of a subject that a production ends with
subject_end : {names : NameList} {x y : RawSubject} {ts us rest : List Terminal} → Yields x us rest y → Read names (SubjectFits (plain_subject x)) (show_subject (plain_subject x)) ts us
    → Read names (SubjectFits (plain_subject y)) (show_subject (plain_subject y)) ts rest
subject_end {names = names} d r = ended (λ (z : RawSubject) us vs. Read names (SubjectFits (plain_subject z)) (show_subject (plain_subject z)) us vs) d r

subject_told : {names : NameList} (ts rest : List Terminal) (x : RawSubject) → ASubject ts rest x → Read names (SubjectFits (plain_subject x)) (show_subject (plain_subject x)) ts rest
unfolding ASubject
subject_told ts rest x (the_one d) = subject_end d.next (record { fits = tt; tells = name_told d.one })
subject_told ts rest x (the_other d) =
    subject_end d.next (record { fits = is_bounded d.one.sign d.value.0 d.one.found; tells = both (one_of_read d.one) (silent (special_sign d.value.0)) })

subjects_told : {names : NameList} → Reads names ASubject plain_subject show_subject SubjectFits
subjects_told = record { at = subject_told }

pub within_last : (n : ℕ) → statement_number n ≤ last_statement
within_last n = omega arith

pub place_within_largest : (n : ℕ) → statement_number n ≤ largest
place_within_largest n = omega arith

hyp_end : {names : NameList} {x y : RawHypName} {ts us rest : List Terminal} → Yields x us rest y → Read names (HypFits (plain_hyp x)) (show_hyp (plain_hyp x)) ts us
    → Read names (HypFits (plain_hyp y)) (show_hyp (plain_hyp y)) ts rest
hyp_end {names = names} d r = ended (λ (z : RawHypName) us vs. Read names (HypFits (plain_hyp z)) (show_hyp (plain_hyp z)) us vs) d r

hyp_told : {names : NameList} (ts rest : List Terminal) (x : RawHypName) → Hyp ts rest x → Read names (HypFits (plain_hyp x)) (show_hyp (plain_hyp x)) ts rest
unfolding Hyp
hyp_told ts rest x (the_one d) = hyp_end d.next (record { fits = tt; tells = sign_told sign.Denied d.one })
hyp_told ts rest x (the_other (the_one d)) =
    let n = d.next in
    hyp_end n.next (record { fits = within_last n.value; tells = both (sign_told sign.At d.one) (number_told (statement_number n.value) (place_within_largest n.value) n.one) })
hyp_told ts rest x (the_other (the_other (the_one d))) =
    let s = d.next in
    let y = subject_told d.middle s.middle s.value s.one in
    hyp_end s.next (record { fits = y.fits; tells = both (sign_told sign.Low d.one) y.tells })
hyp_told ts rest x (the_other (the_other (the_other (the_one d)))) =
    let s = d.next in
    let y = subject_told d.middle s.middle s.value s.one in
    hyp_end s.next (record { fits = y.fits; tells = both (sign_told sign.High d.one) y.tells })
hyp_told ts rest x (the_other (the_other (the_other (the_other d)))) = hyp_end d.next (record { fits = tt; tells = name_told d.one })

pub hyps_told : {names : NameList} → Reads names Hyp plain_hyp show_hyp HypFits
hyps_told = record { at = hyp_told }

-- ---- parts of a sum

negated_within : (m : ℕ) → m ≤ largest → unsigned_abs (neg_ℤ (pos m)) ≤ largest
negated_within zero fits = fits
negated_within (suc m) fits = fits

cut_within : (n : ℕ) → min n largest ≤ largest
cut_within n = omega arith

times_within : (b : Bool) (n : ℕ) → unsigned_abs (times_of b n) ≤ largest
times_within true n = negated_within (min n largest) (cut_within n)
times_within false n = cut_within n

times_shown : {names : NameList} {ts : List Terminal} (z : ℤ) → unsigned_abs z ≤ largest → Tells names (show_times z) ts ts
times_shown {names = names} {ts = ts} z fits = go (is_negative z)
  where
    go : (b : Bool) → Tells names (if b then one sign.Minus ++ one_number (unsigned_abs z) else one_number (unsigned_abs z)) ts ts
    go true = both (silent sign.Minus) (number_shown (unsigned_abs z) fits)
    go false = number_shown (unsigned_abs z) fits

part_end : {names : NameList} {x y : RawPart} {ts us rest : List Terminal} → Yields x us rest y → Read names (PartFits (plain_part x)) (show_part (plain_part x)) ts us
    → Read names (PartFits (plain_part y)) (show_part (plain_part y)) ts rest
part_end {names = names} d r = ended (λ (z : RawPart) us vs. Read names (PartFits (plain_part z)) (show_part (plain_part z)) us vs) d r

scaled_told : {names : NameList} (minus : Bool) (ts rest : List Terminal) (x : RawPart) → Scaled minus ts rest x → Read names (PartFits (plain_part x)) (show_part (plain_part x)) ts rest
unfolding Scaled
scaled_told minus ts rest x d =
    let h = d.next in
    let y = hyp_told d.middle h.middle h.value h.one in
    let small = times_within minus d.value in
    part_end h.next (record { fits = (small, y.fits); tells = both (both (number_read d.one) (times_shown (times_of minus d.value) small)) y.tells })

part_told : {names : NameList} (ts rest : List Terminal) (x : RawPart) → Part ts rest x → Read names (PartFits (plain_part x)) (show_part (plain_part x)) ts rest
unfolding Part
part_told ts rest x (the_one d) = let y = scaled_told true d.middle rest x d.next in record { fits = y.fits; tells = both (sign_read d.one) y.tells }
part_told ts rest x (the_other d) = scaled_told false ts rest x d

pub parts_told : {names : NameList} → Reads names Part plain_part show_part PartFits
parts_told = record { at = part_told }

-- the name that a step gives
pub as_told : {names : NameList} {ts rest : List Terminal} (x : RawName) → As ts rest x → Tells names (show_as x.name) ts rest
unfolding As
as_told x d = both (sign_told sign.As d.one) (name_told d.next)
