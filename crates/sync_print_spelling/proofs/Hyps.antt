-- Hypotheses, and what stands with them in a step: what they spell.
use Rattle.std.proofs.Common.{◌≡◌, ◌≤◌, ℕ, suc, ℤ, pos, negsuc, neg_ℤ, unsigned_abs, Bool, true, false, List, ◌++◌, min, Some, if◌then◌else◌, refl, ap, arith}
use Rattle.std.specs.Int.{is_negative}
use Rattle.sync_lex.specs.declared.signs.Sign.TheVariants as sign
use Rattle.sync_lex.specs.declared.terminals.Terminal.{Terminal}
use Rattle.sync_base.specs.Limits.{largest}
use Rattle.sync_parse_exprs.specs.declared.expressions.Special.{Special}
use Rattle.sync_parse_exprs.specs.declared.expressions.Special.TheVariants as terminal
use Rattle.sync_parse_exprs.specs.declared.raw_names.RawName.{RawName}
use Rattle.sync_parse.specs.declared.scripts.RawSubject.TheVariants as raw_subject
use Rattle.sync_parse.specs.declared.scripts.RawHypName.TheVariants as raw
use Rattle.sync_parse.specs.Scripts.{statement_number, bounded_of, times_of, last_statement}
use Rattle.sync_parse_forms.specs.Relations.{the_one, the_other}
use Rattle.sync_parse_grammar.specs.Scripts.{ASubject, Hyp, Scaled, Part, As}
use Rattle.sync_print.specs.Scripts.{PlainSubject, name, special, PlainHyp, denied, label, at, low, high, PlainPart, plain_subject, plain_hyp, plain_part}
use Rattle.sync_print.specs.Lexemes.{one, one_name, one_number}
use Rattle.sync_print.specs.ShowExprs.{special_sign}
use Rattle.sync_print.specs.ShowScripts.{show_subject, show_hyp, show_part, show_as}
use Rattle.sync_print_spelling.specs.Says.{Says}
use Rattle.sync_print_spelling.specs.Limits.{IsBounded, SubjectFits, HypFits, PartFits}
use Rattle.sync_print_spelling.specs.Laws.{Derives, ShownIsDerived}
use Rattle.sync_print_spelling.proofs.Terminals.{split, the_sign, the_number, the_name, one_of, yields, seq}

bounded_found : (w : Special) → IsBounded w → bounded_of (special_sign w) ≡ Some w
unfolding bounded_of
bounded_found terminal.Value is = absurd is
bounded_found terminal.Index is = absurd is
bounded_found terminal.Old is = refl
bounded_found terminal.New is = refl
bounded_found terminal.Wrap is = refl

subject_spelled : (s : PlainSubject) → SubjectFits s → (ts rest : List Terminal) → Says (show_subject s) ts rest → Derives ASubject plain_subject s ts rest
unfolding ASubject
subject_spelled (name x) fits ts rest h =
    let n = the_name h in
    let named : RawName = record { name = x; line = n.0 } in
    record { raw = raw_subject.Name named; spelled = the_one (seq named rest n.1 (yields _)); is = refl }
subject_spelled (special w) fits ts rest h =
    let s = one_of bounded_of w (bounded_found w fits) h in
    record { raw = raw_subject.Special w s.0; spelled = the_other (seq (w, s.0) rest s.1 (yields _)); is = refl }

pub within_place : (n : ℕ) → n ≤ last_statement → statement_number n ≡ n
within_place n fits = omega arith

hyp_spelled : (p : PlainHyp) → HypFits p → (ts rest : List Terminal) → Says (show_hyp p) ts rest → Derives Hyp plain_hyp p ts rest
unfolding Hyp
hyp_spelled denied fits ts rest h =
    let s = the_sign h in
    record { raw = raw.Denied; spelled = the_one (seq s.0 rest s.1 (yields _)); is = refl }
hyp_spelled (label x) fits ts rest h =
    let n = the_name h in
    let named : RawName = record { name = x; line = n.0 } in
    record { raw = raw.Label named; spelled = the_other (the_other (the_other (the_other (seq named rest n.1 (yields _))))); is = refl }
hyp_spelled (at n) fits ts rest h =
    let r = split (one sign.At) (one_number n) h in
    let s = the_sign r.1 in
    record { raw = raw.At (statement_number n); spelled = the_other (the_one (seq s.0 r.0 s.1 (seq n rest (the_number r.2) (yields _)))); is = ap at (within_place n fits) }
hyp_spelled (low p) fits ts rest h =
    let r = split (one sign.Low) (show_subject p) h in
    let s = the_sign r.1 in
    let x = subject_spelled p fits r.0 rest r.2 in
    record { raw = raw.Low x.raw; spelled = the_other (the_other (the_one (seq s.0 r.0 s.1 (seq x.raw rest x.spelled (yields _))))); is = ap low x.is }
hyp_spelled (high p) fits ts rest h =
    let r = split (one sign.High) (show_subject p) h in
    let s = the_sign r.1 in
    let x = subject_spelled p fits r.0 rest r.2 in
    record { raw = raw.High x.raw; spelled = the_other (the_other (the_other (the_one (seq s.0 r.0 s.1 (seq x.raw rest x.spelled (yields _)))))); is = ap high x.is }

pub hyps : ShownIsDerived Hyp plain_hyp show_hyp HypFits
hyps = record { holds = hyp_spelled }

-- ---- parts of a sum

min_is : (n : ℕ) → n ≤ largest → min n largest ≡ n
min_is n fits = omega arith

times_are : (z : ℤ) (b : Bool) → is_negative z ≡ b → unsigned_abs z ≤ largest → times_of b (unsigned_abs z) ≡ z
times_are (pos n) true is fits = absurd (grind arith)
times_are (pos n) false is fits = ap pos (min_is n fits)
times_are (negsuc n) true is fits = ap (λ m. neg_ℤ (pos m)) (min_is (suc n) fits)
times_are (negsuc n) false is fits = absurd (cc)

part_is : {z z' : ℤ} {y y' : PlainHyp} → z ≡ z' → y ≡ y' → ◌≡◌ {A = PlainPart} (record { times = z; hyp = y }) (record { times = z'; hyp = y' })
part_is p q = λ i. record { times = p i; hyp = q i }

scaled_spelled : (p : PlainPart) (b : Bool) → is_negative p.times ≡ b → PartFits p → (ts us rest : List Terminal) → Says (one_number (unsigned_abs p.times)) ts us → Says (show_hyp p.hyp) us rest
    → Derives (Scaled b) plain_part p ts rest
unfolding Scaled
scaled_spelled p b is fits ts us rest n h =
    let x = hyp_spelled p.hyp fits.1 us rest h in
    record {
      raw = record { times = times_of b (unsigned_abs p.times); hyp = x.raw };
      spelled = seq (unsigned_abs p.times) us (the_number n) (seq x.raw rest x.spelled (yields _));
      is = part_is (times_are p.times b is fits.0) x.is;
    }

part_case : (p : PlainPart) → PartFits p → (ts rest : List Terminal) (b : Bool) → is_negative p.times ≡ b
    → Says ((if b then one sign.Minus ++ one_number (unsigned_abs p.times) else one_number (unsigned_abs p.times)) ++ show_hyp p.hyp) ts rest
    → Derives Part plain_part p ts rest
unfolding Part
part_case p fits ts rest true is h =
    let r = split (one sign.Minus ++ one_number (unsigned_abs p.times)) (show_hyp p.hyp) h in
    let q = split (one sign.Minus) (one_number (unsigned_abs p.times)) r.1 in
    let s = the_sign q.1 in
    let x = scaled_spelled p true is fits q.0 r.0 rest q.2 r.2 in
    record { raw = x.raw; spelled = the_one (seq s.0 q.0 s.1 x.spelled); is = x.is }
part_case p fits ts rest false is h =
    let r = split (one_number (unsigned_abs p.times)) (show_hyp p.hyp) h in
    let x = scaled_spelled p false is fits ts r.0 rest r.1 r.2 in
    record { raw = x.raw; spelled = the_other x.spelled; is = x.is }

part_spelled : (p : PlainPart) → PartFits p → (ts rest : List Terminal) → Says (show_part p) ts rest → Derives Part plain_part p ts rest
part_spelled p fits ts rest h = part_case p fits ts rest (is_negative p.times) refl h

pub parts : ShownIsDerived Part plain_part show_part PartFits
parts = record { holds = part_spelled }

-- the name that a step gives
pub the_as : (x : ℕ) {ts rest : List Terminal} → Says (show_as x) ts rest → (line : ℕ) × As ts rest (record { name = x; line = line })
unfolding As
the_as x h =
    let r = split (one sign.As) (one_name x) h in
    let s = the_sign r.1 in
    let n = the_name r.2 in
    (n.0, seq s.0 r.0 s.1 n.1)
