-- What is spelled as a script is read exactly where it fits its place, and is else refused for depth.
use Rattle.std.proofs.Common.{◌≡◌, ℕ, zero, suc, ◌-◌, ◌<◌, Bool, true, false, List, [], ◌∷◌, map, refl, sym, ap, ◌∙◌, subst, arith}
use Rattle.sync_base.proofs.Basics.{and_left, and_right}
use Rattle.sync_base.specs.Outcome as outcome
use Rattle.sync_lex.specs.declared.signs.Sign.{Sign}
use Rattle.sync_lex.specs.declared.signs.Sign.TheVariants as sign
use Rattle.sync_lex.specs.declared.terminals.TerminalKind.TheVariants as what
use Rattle.sync_lex.specs.declared.terminals.Terminal.{Terminal}
use Rattle.sync_parse_exprs.specs.declared.raw_names.RawName.{RawName}
use Rattle.sync_parse_exprs.specs.declared.expressions.RawExpr.{RawExpr}
use Rattle.sync_parse.specs.declared.scripts.RawSubject.{RawSubject}
use Rattle.sync_parse.specs.declared.scripts.RawSubject.TheVariants as subject
use Rattle.sync_parse.specs.declared.scripts.RawScript.{RawScript}
use Rattle.sync_parse.specs.declared.scripts.RawBlock.{RawBlock, roll-RawBlock}
use Rattle.sync_parse.specs.declared.scripts.RawScriptStep.{RawScriptStep}
use Rattle.sync_parse.specs.declared.scripts.RawStepKind.{RawStepKind}
use Rattle.sync_parse.specs.declared.scripts.RawStepKind.TheVariants as step
use Rattle.sync_parse_exprs.specs.Terminals.{Read, Reader, first_line}
use Rattle.sync_parse_exprs.specs.Expressions.{expr_at}
use Rattle.sync_parse.specs.Scripts.{subject_terminal, subject_said, subject_at, hyp_at, as_name, scaled, part_at, same_step, sum_step, inst_step, parts_step, lookup_step, cong_step, blockless_step, split_step, cut_step, step_kind, step_at, steps, block_with, nested, block_at, script_at}
use Rattle.sync_parse_forms.specs.Relations.{Spelled, Then, the_one, the_other}
use Rattle.sync_parse_grammar.specs.Expressions.{AnExpr}
use Rattle.sync_parse_grammar.specs.Scripts.{ASubject, Hyp, Scaled, Part, As, Same, Sum, Inst, Parts, Lookup, Cong, Split, Cut, StepKind, Step, BlockOf, Nested, Block, Script}
use Rattle.sync_parse_forms.specs.Fronts.{code, front, Set, any, only, both, others, all_of}
use Rattle.sync_parse_forms.proofs.Clears.{In, only_in, both_in, same_in, any_in, Starts, Clear, starts_then, starts_or, starts_the, starts_name, follows_starts, tail_is, head_is}
use Rattle.sync_parse_grammar.proofs.ExpressionsClear.{operators}
use Rattle.sync_parse_grammar.proofs.ScriptsClear.{starts_as, scaled_fork, same_fork, sum_fork, inst_fork, parts_fork, lookup_fork, cong_fork, split_fork, cut_fork, starts_step, clear_nested}
use Rattle.sync_parse_grammar.proofs.Counting.{Silent, silent_part, silent_step, silent_nested_block}
use Rattle.sync_parse_grammar.specs.Shallow.{with_both, with_all, expr_depth, block_depth}
use Rattle.sync_parse_grammar.proofs.Depths.{Fits, fits_room, fits_flat, fits_both, both_first, both_second, fits_within, within_fits, fits_is, Each, each_fits, fits_each, FitsExpr, step_depth, depth_of, FitsStepKind, FitsStep, FitsBlock, step_is, block_is, of_same, of_sum, of_inst, of_parts, of_split, of_cut, of_read, of_size, of_total, of_cong}
use Rattle.sync_parse_forms.proofs.Completes.{says}
use Rattle.sync_parse_grammar.proofs.Completes.{Met, gives, Complete, Free, Shows, shows_then, shows_yields, braced, complete_yields, complete_then, complete_part, complete_next, complete_opening, complete_here, complete_if, complete_last, complete_row, complete_series, each_free, met_within, no_room, complete_sign, complete_the, complete_name, complete_number}
use Rattle.sync_parse_grammar.proofs.ExpressionsComplete.{complete_expr, complete_args, round_fits, fits_round}

-- ---- alternatives by their first sign

abbrev pub never : Set
never c = false

-- sets as alternatives make them
abbrev pub union : List ℕ → Set
union [] = never
union (k ∷ []) = only k
union (k ∷ j ∷ ks) = both (only k) (union (j ∷ ks))

never_in : {q : Set} → In never q
never_in = record { at = λ c e. absurd cc }

pub union_in : {q : Set} (ks : List ℕ) → all_of q ks ≡ true → In (union ks) q
union_in [] e = never_in
union_in {q = q} (k ∷ []) e = only_in k (and_left (q k) true e)
union_in {q = q} (k ∷ j ∷ ks) e = both_in (only_in k (and_left (q k) (all_of q (j ∷ ks)) e)) (union_in (j ∷ ks) (and_right (q k) (all_of q (j ∷ ks)) e))

-- ---- hypotheses

subject_case : (left : ℕ) → 0 < left → (ts : List Terminal) (x : RawSubject) (rest : List Terminal) → ASubject ts rest x → Met (subject_at left ts) (x, rest) (Unit {0})
unfolding subject_at ASubject
subject_case left room [] x rest (the_one d) = let e : ◌≡◌ {A = List Terminal} [] (d.one.terminal ∷ d.middle) = d.one.stands in absurd cc
subject_case left room [] x rest (the_other d) = let e : ◌≡◌ {A = List Terminal} [] (d.one.terminal ∷ d.middle) = d.one.stands in absurd cc
subject_case left room (w ∷ ws) x rest (the_one d) =
    let e : ◌≡◌ {A = List Terminal} (w ∷ ws) (d.one.terminal ∷ d.middle) = d.one.stands in
    let line = ap (λ (z : Terminal). z.line) (head_is w d.one.terminal ws d.middle e) in
    let value : subject.Name (record { name = d.one.number; line = w.line }) ≡ x = (λ k. subject.Name (record { name = d.one.number; line = line k })) ∙ ap subject.Name (sym d.one.name_is) ∙ sym d.next.is in
    subst (λ z. Met (subject_said left w.line ws z) (x, rest) (Unit {0})) (sym (says w d.one.terminal ws d.middle (what.Name d.one.number d.one.strategy) e d.one.is))
    (met_within left w.line (λ s. room) λ above. gives value (tail_is w d.one.terminal ws d.middle e ∙ d.next.none) tt)
subject_case left room (w ∷ ws) x rest (the_other d) =
    let e : ◌≡◌ {A = List Terminal} (w ∷ ws) (d.one.terminal ∷ d.middle) = d.one.stands in
    let line : w.line ≡ d.value.1 = ap (λ (z : Terminal). z.line) (head_is w d.one.terminal ws d.middle e) ∙ sym d.one.line_is in
    let value : subject.Special d.value.0 w.line ≡ x = ap (subject.Special d.value.0) line ∙ sym d.next.is in
    subst (λ z. Met (subject_said left w.line ws z) (x, rest) (Unit {0})) (sym (says w d.one.terminal ws d.middle (what.Sign d.one.sign) e d.one.is))
    (subst (λ z. Met (subject_terminal left w.line ws z) (x, rest) (Unit {0})) (sym d.one.found) (met_within left w.line (λ s. room) λ above. gives value (tail_is w d.one.terminal ws d.middle e ∙ d.next.none) tt))

complete_subject : (left : ℕ) → 0 < left → (ts : List Terminal) → Complete any ASubject Free ts (subject_at left ts)
complete_subject left room ts = record { at = λ x rest d e. subject_case left room ts x rest d }

pub complete_hyp : {q : Set} (left : ℕ) → 0 < left → (ts : List Terminal) → Complete q Hyp Free ts (hyp_at left ts)
unfolding hyp_at Hyp
complete_hyp left room ts =
    complete_if sign.Denied (starts_then starts_the) (starts_or (starts_then starts_the) (starts_or (starts_then starts_the) (starts_or (starts_then starts_the) (starts_then starts_name))))
    (union_in (code sign.At ∷ code sign.Low ∷ code sign.High ∷ 1 ∷ []) refl)
    (complete_next (complete_the left room sign.Denied ts) λ d. complete_yields tt)
    (complete_if sign.At (starts_then starts_the) (starts_or (starts_then starts_the) (starts_or (starts_then starts_the) (starts_then starts_name)))
    (union_in (code sign.Low ∷ code sign.High ∷ 1 ∷ []) refl)
    (complete_next (complete_the left room sign.At ts) λ a. complete_next (complete_number left room a.1) λ n. complete_yields tt)
    (complete_if sign.Low (starts_then starts_the) (starts_or (starts_then starts_the) (starts_then starts_name))
    (union_in (code sign.High ∷ 1 ∷ []) refl)
    (complete_next (complete_the left room sign.Low ts) λ l. complete_next (complete_subject left room l.1) λ s. complete_yields tt)
    (complete_if sign.High (starts_then starts_the) (starts_then starts_name) (only_in _ refl)
    (complete_next (complete_the left room sign.High ts) λ h. complete_next (complete_subject left room h.1) λ s. complete_yields tt)
    (complete_next (complete_name left room ts) λ n. complete_yields tt))))

complete_scaled : {q : Set} (minus : Bool) (left : ℕ) → 0 < left → (ts : List Terminal) → Complete q (Scaled minus) Free ts (scaled minus left ts)
unfolding scaled Scaled
complete_scaled minus left room ts = complete_next (complete_number left room ts) λ n. complete_next (complete_hyp left room n.1) λ h. complete_yields tt

complete_summand : {q : Set} (left : ℕ) → 0 < left → (ts : List Terminal) → Complete q Part Free ts (part_at left ts)
unfolding part_at Part
complete_summand left room ts = complete_if sign.Minus (starts_then starts_the) (scaled_fork {q = any} false).left (only_in _ refl)
    (complete_next (complete_the left room sign.Minus ts) λ m. complete_scaled true left room m.1) (complete_scaled false left room ts)

complete_as : (left : ℕ) → 0 < left → (ts : List Terminal) → Complete any As Free ts (as_name left ts)
unfolding as_name As
complete_as left room ts = complete_next (complete_the left room sign.As ts) λ a. complete_name left room a.1

-- an expression, where what comes next begins with no operator
pub expr_next : {A : Type 0} {q p : Set} {T : A → Type 0} {ts : List Terminal} {g : RawExpr → Spelled A} {f : RawExpr × List Terminal → Read A} (left : ℕ)
    → ((v : RawExpr × List Terminal) → FitsExpr left v.0 → Complete q (g v.0) T v.1 (f v)) → ((x : RawExpr) → Starts (g x) p) → In p (others operators)
    → ((x : RawExpr) → Shows (g x) (λ y. T y → FitsExpr left x)) → Complete q (Then AnExpr g) T ts (outcome.◌>>=◌ (expr_at left ts) f)
expr_next {ts = ts} left next s i back = complete_then (others operators) (complete_expr left ts) next (λ x. follows_starts (s x) i) back

-- ---- steps

step_room : (left : ℕ) (x : RawStepKind) → FitsStepKind left x → 0 < left
step_room left x fits = fits_room fits

complete_same : {q : Set} (left : ℕ) (ts : List Terminal) → Complete q Same (FitsStepKind left) ts (same_step left ts)
unfolding same_step Same
complete_same left ts = complete_opening left sign.Same (step_room left) λ s room. complete_next (complete_the left room sign.Semicolon s.1) λ e. complete_yields (fits_is left of_same (fits_flat left room))

complete_sum : {q : Set} (left : ℕ) (ts : List Terminal) → Complete q Sum (FitsStepKind left) ts (sum_step left ts)
unfolding sum_step Sum
complete_sum left ts = complete_opening left sign.Sum (step_room left) λ s room.
    complete_then (only (code sign.Semicolon)) (complete_series {p = any} (record {
      complete = complete_summand left room;
      shrinks = record { at = λ ts rest x d. (silent_part.at ts rest x d).shorter };
      comma = refl;
      end = any_in;
      apart = only_in _ refl;
    }) s.1)
    (λ parts each. complete_next (complete_the left room sign.Semicolon parts.1) λ e. complete_yields (fits_is left (of_sum parts.0) (fits_flat left room))) (λ parts. follows_starts (starts_then starts_the) same_in)
    (λ parts. record { at = λ us rest y d fits. each_free parts })

complete_inst : {q : Set} (left : ℕ) (ts : List Terminal) → Complete q Inst (FitsStepKind left) ts (inst_step left ts)
unfolding inst_step Inst
complete_inst left ts = complete_opening left sign.Inst (step_room left) λ s room. complete_next (complete_hyp left room s.1) λ h.
    complete_part (complete_args left h.1)
    (λ args round. complete_next (complete_as left room args.1) λ a. complete_next (complete_the left room sign.Semicolon a.1) λ e. complete_yields (fits_is left (of_inst h.0 args.0 a.0) (round_fits left args.0 round)))
    (λ args. shows_then λ a. shows_then λ e. shows_yields λ fits. fits_round left args (fits_is left (sym (of_inst h.0 args a)) fits))

complete_parts : {q : Set} (left : ℕ) (ts : List Terminal) → Complete q Parts (FitsStepKind left) ts (parts_step left ts)
unfolding parts_step Parts
complete_parts left ts = complete_opening left sign.Parts (step_room left) λ s room. complete_next (complete_hyp left room s.1) λ h. complete_next (complete_as left room h.1) λ a.
    complete_next (complete_the left room sign.Comma a.1) λ c. complete_next (complete_name left room c.1) λ b. complete_next (complete_the left room sign.Semicolon b.1) λ e.
    complete_yields (fits_is left (of_parts h.0 a.0 b.0) (fits_flat left room))

-- a step of a map, a key and the name that it gives
record OfTwo (made : RawExpr → RawExpr → RawName → RawStepKind) : Type 0 where
  is : (m k : RawExpr) (a : RawName) → depth_of (made m k a) ≡ with_both (expr_depth m) (expr_depth k)

complete_lookup : {q : Set} (opening : Sign) (made : RawExpr → RawExpr → RawName → RawStepKind) → OfTwo made → (left : ℕ) (ts : List Terminal) → Complete q (Lookup opening made) (FitsStepKind left) ts (lookup_step opening made left ts)
unfolding lookup_step Lookup
complete_lookup opening made two left ts = complete_opening left opening (step_room left) λ s room.
    expr_next left (λ m first. complete_next (complete_the left room sign.Comma m.1) λ c.
    expr_next left (λ k second. complete_next (complete_as left room k.1) λ a. complete_next (complete_the left room sign.Semicolon a.1) λ e.
    complete_yields (fits_is left (two.is m.0 k.0 a.0) (fits_both left (expr_depth m.0) (expr_depth k.0) first second)))
    (λ k. starts_then starts_as) (only_in _ refl) (λ k. shows_then λ a. shows_then λ e. shows_yields λ fits. both_second left (expr_depth m.0) (expr_depth k) (fits_is left (sym (two.is m.0 k a)) fits)))
    (λ m. starts_then starts_the) (only_in _ refl)
    (λ m. shows_then λ c. shows_then λ k. shows_then λ a. shows_then λ e. shows_yields λ fits. both_first left (expr_depth m) (expr_depth k) (fits_is left (sym (two.is m k a)) fits))

complete_cong : {q : Set} (left : ℕ) (ts : List Terminal) → Complete q Cong (FitsStepKind left) ts (cong_step left ts)
unfolding cong_step Cong
complete_cong left ts = complete_opening left sign.Cong (step_room left) λ s room.
    expr_next left (λ m first. complete_next (complete_the left room sign.Comma m.1) λ c.
    expr_next left (λ j second. complete_next (complete_the left room sign.Comma j.1) λ d.
    expr_next left (λ k third. complete_next (complete_as left room k.1) λ a. complete_next (complete_the left room sign.Semicolon a.1) λ e.
    complete_yields (fits_is left (of_cong m.0 j.0 k.0 a.0) (fits_both left (expr_depth m.0) (with_both (expr_depth j.0) (expr_depth k.0)) first (fits_both left (expr_depth j.0) (expr_depth k.0) second third))))
    (λ k. starts_then starts_as) (only_in _ refl)
    (λ k. shows_then λ a. shows_then λ e. shows_yields λ fits. both_second left (expr_depth j.0) (expr_depth k) (behind_first left m.0 j.0 k a fits)))
    (λ j. starts_then starts_the) (only_in _ refl)
    (λ j. shows_then λ d. shows_then λ k. shows_then λ a. shows_then λ e. shows_yields λ fits. both_first left (expr_depth j) (expr_depth k) (behind_first left m.0 j k a fits)))
    (λ m. starts_then starts_the) (only_in _ refl)
    (λ m. shows_then λ c. shows_then λ j. shows_then λ d. shows_then λ k. shows_then λ a. shows_then λ e. shows_yields λ fits.
    both_first left (expr_depth m) (with_both (expr_depth j) (expr_depth k)) (fits_is left (sym (of_cong m j k a)) fits))
  where
    behind_first : (left : ℕ) (m j k : RawExpr) (a : RawName) → FitsStepKind left (step.Cong m j k a) → Fits left (with_both (expr_depth j) (expr_depth k))
    behind_first left m j k a fits = both_second left (expr_depth m) (with_both (expr_depth j) (expr_depth k)) (fits_is left (sym (of_cong m j k a)) fits)

complete_split : {q : Set} {m : Spelled RawBlock} (left : ℕ) (block : Reader RawBlock) → ((ts : List Terminal) → Complete any m (FitsBlock left) ts (block ts)) → (ts : List Terminal)
    → Complete q (Split m) (FitsStepKind left) ts (split_step block left ts)
unfolding split_step Split
complete_split left block c ts = complete_opening left sign.Split (step_room left) λ s room. complete_next (complete_hyp left room s.1) λ h. complete_next (complete_as left room h.1) λ a.
    complete_part (c a.1) (λ x first. complete_part (c x.1) (λ y second. complete_yields (fits_is left (of_split h.0 a.0 x.0 y.0) (fits_both left (block_depth x.0) (block_depth y.0) first second)))
    (λ y. shows_yields λ fits. both_second left (block_depth x.0) (block_depth y) (fits_is left (sym (of_split h.0 a.0 x.0 y)) fits)))
    (λ x. shows_then λ y. shows_yields λ fits. both_first left (block_depth x) (block_depth y) (fits_is left (sym (of_split h.0 a.0 x y)) fits))

complete_cut : {q : Set} {m : Spelled RawBlock} (left : ℕ) (block : Reader RawBlock) → ((ts : List Terminal) → Complete any m (FitsBlock left) ts (block ts)) → (ts : List Terminal)
    → Complete q (Cut m) (FitsStepKind left) ts (cut_step block left ts)
unfolding cut_step Cut
complete_cut left block c ts = complete_opening left sign.Cut (step_room left) λ s room.
    expr_next left (λ f first. complete_next (complete_as left room f.1) λ a.
    complete_part (c a.1) (λ x second. complete_yields (fits_is left (of_cut f.0 a.0 x.0) (fits_both left (expr_depth f.0) (block_depth x.0) first second)))
    (λ x. shows_yields λ fits. both_second left (expr_depth f.0) (block_depth x) (fits_is left (sym (of_cut f.0 a.0 x)) fits)))
    (λ f. starts_then starts_as) (only_in _ refl)
    (λ f. shows_then λ a. shows_then λ x. shows_yields λ fits. both_first left (expr_depth f) (block_depth x) (fits_is left (sym (of_cut f a x)) fits))

abbrev read_codes : List ℕ
read_codes = code sign.Size ∷ code sign.Total ∷ code sign.Cong ∷ []

abbrev parts_codes : List ℕ
parts_codes = code sign.Read ∷ read_codes

abbrev inst_codes : List ℕ
inst_codes = code sign.Parts ∷ parts_codes

abbrev sum_codes : List ℕ
sum_codes = code sign.Inst ∷ inst_codes

abbrev same_codes : List ℕ
same_codes = code sign.Sum ∷ sum_codes

complete_step_kind : {q : Set} {m : Spelled RawBlock} (left : ℕ) (block : Reader RawBlock) → ((ts : List Terminal) → Complete any m (FitsBlock left) ts (block ts)) → Clear any m m → (ts : List Terminal)
    → Complete q (StepKind m) (FitsStepKind left) ts (step_kind block left ts)
unfolding blockless_step StepKind
complete_step_kind left block c k ts =
    let s10 = (cong_fork {q = any}).left in
    let s9 = starts_or (lookup_fork {q = any} sign.Total step.Total).left s10 in
    let s8 = starts_or (lookup_fork {q = any} sign.Size step.Size).left s9 in
    let s7 = starts_or (lookup_fork {q = any} sign.Read step.Read).left s8 in
    let s6 = starts_or (parts_fork {q = any}).left s7 in
    let s5 = starts_or (inst_fork {q = any}).left s6 in
    let s4 = starts_or (sum_fork {q = any}).left s5 in
    let s3 = starts_or (same_fork {q = any}).left s4 in
    let s2 = starts_or (cut_fork {q = any} k).left s3 in
    complete_if sign.Split (split_fork {q = any} k).left s2 (union_in (code sign.Cut ∷ code sign.Same ∷ same_codes) refl) (complete_split left block c ts)
    (complete_if sign.Cut (cut_fork {q = any} k).left s3 (union_in (code sign.Same ∷ same_codes) refl) (complete_cut left block c ts)
    (complete_if sign.Same (same_fork {q = any}).left s4 (union_in same_codes refl) (complete_same left ts)
    (complete_if sign.Sum (sum_fork {q = any}).left s5 (union_in sum_codes refl) (complete_sum left ts)
    (complete_if sign.Inst (inst_fork {q = any}).left s6 (union_in inst_codes refl) (complete_inst left ts)
    (complete_if sign.Parts (parts_fork {q = any}).left s7 (union_in parts_codes refl) (complete_parts left ts)
    (complete_if sign.Read (lookup_fork {q = any} sign.Read step.Read).left s8 (union_in read_codes refl) (complete_lookup sign.Read step.Read (record { is = of_read }) left ts)
    (complete_if sign.Size (lookup_fork {q = any} sign.Size step.Size).left s9 (union_in (code sign.Total ∷ code sign.Cong ∷ []) refl) (complete_lookup sign.Size step.Size (record { is = of_size }) left ts)
    (complete_if sign.Total (lookup_fork {q = any} sign.Total step.Total).left s10 (only_in _ refl) (complete_lookup sign.Total step.Total (record { is = of_total }) left ts)
    (complete_last _ sign.Cong s10 (complete_cong left ts))))))))))

complete_step : {q : Set} {m : Spelled RawBlock} (left : ℕ) (block : Reader RawBlock) → ((ts : List Terminal) → Complete any m (FitsBlock left) ts (block ts)) → Clear any m m → (ts : List Terminal)
    → Complete q (Step m) (FitsStep left) ts (step_at block left ts)
unfolding step_at Step
complete_step left block c k ts = complete_here (complete_part (complete_step_kind left block c k ts)
    (λ x fits. complete_yields (fits_is left (step_is x.0 (first_line ts)) fits)) (λ x. shows_yields λ fits. fits_is left (sym (step_is x (first_line ts))) fits))

-- ---- blocks and scripts

-- a block fits where its steps fit one level deeper, with its closing brace
steps_fit : (left : ℕ) (xs : List RawScriptStep) (line : ℕ) → 0 < left - 1 → Each (FitsStep (left - 1)) xs → FitsBlock left (roll-RawBlock (record { steps = xs; end_line = line }))
steps_fit left xs line room each = fits_is left (block_is xs line) (fits_within left (with_all (map step_depth xs)) (each_fits (left - 1) step_depth xs room each))

fits_steps : (left : ℕ) (xs : List RawScriptStep) (line : ℕ) → FitsBlock left (roll-RawBlock (record { steps = xs; end_line = line })) → Fits (left - 1) (with_all (map step_depth xs))
fits_steps left xs line fits = within_fits left (with_all (map step_depth xs)) (fits_is left (sym (block_is xs line)) fits)

block_case : {m : Spelled RawBlock} (q : Set) (block : Reader RawBlock) (left : ℕ) → (0 < left → (ts : List Terminal) → Complete any m (FitsBlock (left - 1)) ts (block ts)) → Clear any m m → Silent true m
    → (ts : List Terminal) (x : RawBlock) (rest : List Terminal) → BlockOf m ts rest x → q (front rest) ≡ true → Met (block_with block left ts) (x, rest) (FitsBlock left x)
unfolding steps BlockOf
block_case q block zero c k s ts x rest d e = no_room _ _ sign.OpenBrace ts d.middle d.value d.one (λ fits. let room : 0 < 0 = fits_room fits in omega (arith, room))
block_case q block (suc below) c k s ts x rest d e =
    (complete_next {q = q} {T = FitsBlock (suc below)} (complete_the (suc below) (omega arith) sign.OpenBrace ts) λ o.
    complete_then (only (code sign.CloseBrace))
    (complete_row (braced (complete_step (suc below - 1) block (c (omega arith)) k) (record { at = λ ts rest x d. ((silent_step s).at ts rest x d).shorter }) (starts_step k)
    (union_in (code sign.Split ∷ code sign.Cut ∷ code sign.Same ∷ same_codes) refl)) o.1)
    (λ xs each. complete_part (complete_sign (suc below - 1) sign.CloseBrace xs.1) (λ e room. complete_yields (steps_fit (suc below) xs.0 e.0 room each)) (λ line. shows_yields λ fits. fits_room (fits_steps (suc below) xs.0 line fits)))
    (λ xs. follows_starts (starts_then starts_the) same_in)
    (λ xs. shows_then λ line. shows_yields λ fits. fits_each (suc below - 1) step_depth xs (fits_steps (suc below) xs line fits))).at x rest d e

complete_nested : (left depth : ℕ) → 0 < left → (ts : List Terminal) → Complete any (Nested depth) (FitsBlock (left - 1)) ts (nested left ts)
unfolding nested Nested
complete_nested zero depth room ts = absurd (omega (arith, room))
complete_nested (suc below) zero room ts = record { at = λ x rest d e. absurd d }
complete_nested (suc below) (suc depth) room ts = record {
  at = λ x rest d e.
      let less : below ≡ suc below - 1 = omega arith in
      subst (λ n. Met (block_with (nested below) below ts) (x, rest) (FitsBlock n x)) less
      (block_case any (nested below) below (λ room. complete_nested below depth room) (clear_nested depth depth) (silent_nested_block depth) ts x rest d refl);
}

outer_case : (left depth : ℕ) (ts : List Terminal) (x : RawBlock) (rest : List Terminal) → Nested depth ts rest x → Met (block_at left ts) (x, rest) (FitsBlock left x)
unfolding block_at Nested
outer_case left zero ts x rest d = absurd d
outer_case left (suc depth) ts x rest d = block_case any (nested left) left (λ room. complete_nested left depth room) (clear_nested depth depth) (silent_nested_block depth) ts x rest d refl

pub complete_block : (left : ℕ) (ts : List Terminal) → Complete any Block (FitsBlock left) ts (block_at left ts)
unfolding Block
complete_block left ts = record { at = λ x rest d e. outer_case left d.0 ts x rest d.1 }

abbrev pub FitsScript : ℕ → RawScript → Type 0
FitsScript left s = FitsBlock left s.block

pub complete_script : {q : Set} (left : ℕ) (ts : List Terminal) → Complete q Script (FitsScript left) ts (script_at left ts)
unfolding script_at Script
complete_script left ts = complete_opening left sign.By (λ s fits. fits_room fits) λ b room. complete_part (complete_block left b.1) (λ x fits. complete_yields fits) (λ x. shows_yields λ fits. fits)
