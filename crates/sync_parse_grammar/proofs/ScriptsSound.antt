-- What is read as a script is spelled.
use Rattle.std.proofs.Common.{◌≡◌, ℕ, zero, suc, ◌-◌, ◌==◌, Bool, true, false, List, [], ◌∷◌, length, Option, Some, None, refl}
use Rattle.sync_lex.specs.declared.signs.Sign.{Sign}
use Rattle.sync_lex.specs.declared.signs.Sign.TheVariants as sign
use Rattle.sync_lex.specs.declared.terminals.TerminalKind.{TerminalKind}
use Rattle.sync_lex.specs.declared.terminals.TerminalKind.TheVariants as what
use Rattle.sync_lex.specs.declared.terminals.Terminal.{Terminal}
use Rattle.sync_parse_exprs.specs.declared.raw_names.RawName.{RawName}
use Rattle.sync_parse_exprs.specs.declared.expressions.RawExpr.{RawExpr}
use Rattle.sync_parse_exprs.specs.declared.expressions.Special.{Special}
use Rattle.sync_parse.specs.declared.scripts.RawBlock.{RawBlock}
use Rattle.sync_parse.specs.declared.scripts.RawStepKind.{RawStepKind}
use Rattle.sync_parse.specs.declared.scripts.RawStepKind.TheVariants as step
use Rattle.sync_parse_exprs.specs.Terminals.{Reader, begins_with, goes_on}
use Rattle.sync_parse.specs.Scripts.{bounded_of, subject_terminal, subject_said, subject_at, hyp_at, as_name, scaled, part_at, wanted_other, same_step, sum_step, inst_step, parts_step, lookup_step, cong_step, blockless_step, split_step, cut_step, step_kind, step_at, steps, block_with, nested, block_at, script_at}
use Rattle.sync_parse_forms.specs.Relations.{Spelled}
use Rattle.sync_parse_grammar.specs.Scripts.{ASubject, Hyp, Scaled, Part, As, Same, Sum, Inst, Parts, Lookup, Cong, Split, Cut, StepKind, Step, BlockOf, Nested, Block, Script}
use Rattle.sync_parse_forms.proofs.Sounds.{Sound, stops, yields, then_sound, began, here, first, second, either, sign_sound, name_sound, number_sound, one_of, row_sound, series_sound}
use Rattle.sync_parse_grammar.proofs.ExpressionsSound.{expr_sound, exprs_sound}

pub refuse_sound : {A : Type 0} {m : Spelled A} (ts : List Terminal) → Sound m ts (wanted_other ts)
refuse_sound [] = stops
refuse_sound (w ∷ ws) = stops

subject_bounded : (left : ℕ) (w : Terminal) (ws : List Terminal) (s : Sign) → w.what ≡ what.Sign s → (x : Option Special) → bounded_of s ≡ x → Sound ASubject (w ∷ ws) (subject_terminal left w.line ws x)
unfolding ASubject
subject_bounded left w ws s is None e = stops
subject_bounded left w ws s is (Some opening) e = either (left == 0) stops (second (began _ _ (one_of bounded_of w ws s opening is e) yields))

subject_case : (left : ℕ) (w : Terminal) (ws : List Terminal) (x : TerminalKind) → w.what ≡ x → Sound ASubject (w ∷ ws) (subject_said left w.line ws x)
unfolding ASubject
subject_case left w ws (what.Name n strategy) is = either (left == 0) stops
    (first (began _ _ (record { terminal = w; number = n; strategy = strategy; stands = refl; is = is; name_is = refl }) yields))
subject_case left w ws (what.Number n) is = stops
subject_case left w ws (what.Sign s) is = subject_bounded left w ws s is (bounded_of s) refl

pub subject_sound : (left : ℕ) (ts : List Terminal) → Sound ASubject ts (subject_at left ts)
unfolding subject_at
subject_sound left [] = stops
subject_sound left (w ∷ ws) = subject_case left w ws w.what refl

pub hyp_sound : (left : ℕ) (ts : List Terminal) → Sound Hyp ts (hyp_at left ts)
unfolding hyp_at Hyp
hyp_sound left ts =
    either (begins_with sign.Denied ts) (first (then_sound (sign_sound left sign.Denied ts) λ d. yields))
    (either (begins_with sign.At ts) (second (first (then_sound (sign_sound left sign.At ts) λ a. then_sound (number_sound left a.1) λ n. yields)))
    (either (begins_with sign.Low ts) (second (second (first (then_sound (sign_sound left sign.Low ts) λ l. then_sound (subject_sound left l.1) λ s. yields))))
    (either (begins_with sign.High ts) (second (second (second (first (then_sound (sign_sound left sign.High ts) λ h. then_sound (subject_sound left h.1) λ s. yields)))))
    (second (second (second (second (then_sound (name_sound left ts) λ n. yields))))))))

pub scaled_sound : (minus : Bool) (left : ℕ) (ts : List Terminal) → Sound (Scaled minus) ts (scaled minus left ts)
unfolding scaled Scaled
scaled_sound minus left ts = then_sound (number_sound left ts) λ n. then_sound (hyp_sound left n.1) λ h. yields

pub part_sound : (left : ℕ) (ts : List Terminal) → Sound Part ts (part_at left ts)
unfolding part_at Part
part_sound left ts = either (begins_with sign.Minus ts) (first (then_sound (sign_sound left sign.Minus ts) λ m. scaled_sound true left m.1)) (second (scaled_sound false left ts))

pub as_sound : (left : ℕ) (ts : List Terminal) → Sound As ts (as_name left ts)
unfolding as_name As
as_sound left ts = then_sound (sign_sound left sign.As ts) λ a. name_sound left a.1

-- ---- steps

same_sound : (left : ℕ) (ts : List Terminal) → Sound Same ts (same_step left ts)
unfolding same_step Same
same_sound left ts = then_sound (sign_sound left sign.Same ts) λ s. then_sound (sign_sound left sign.Semicolon s.1) λ e. yields

sum_sound : (left : ℕ) (ts : List Terminal) → Sound Sum ts (sum_step left ts)
unfolding sum_step Sum
sum_sound left ts =
    then_sound (sign_sound left sign.Sum ts) λ s.
    then_sound (series_sound _ (part_sound left) s.1) λ parts.
    then_sound (sign_sound left sign.Semicolon parts.1) λ e. yields

inst_sound : (left : ℕ) (ts : List Terminal) → Sound Inst ts (inst_step left ts)
unfolding inst_step Inst
inst_sound left ts =
    then_sound (sign_sound left sign.Inst ts) λ s.
    then_sound (hyp_sound left s.1) λ h.
    then_sound (exprs_sound left h.1) λ args.
    then_sound (as_sound left args.1) λ a.
    then_sound (sign_sound left sign.Semicolon a.1) λ e. yields

parts_sound : (left : ℕ) (ts : List Terminal) → Sound Parts ts (parts_step left ts)
unfolding parts_step Parts
parts_sound left ts =
    then_sound (sign_sound left sign.Parts ts) λ s.
    then_sound (hyp_sound left s.1) λ h.
    then_sound (as_sound left h.1) λ a.
    then_sound (sign_sound left sign.Comma a.1) λ c.
    then_sound (name_sound left c.1) λ b.
    then_sound (sign_sound left sign.Semicolon b.1) λ e. yields

lookup_sound : (opening : Sign) (made : RawExpr → RawExpr → RawName → RawStepKind) (left : ℕ) (ts : List Terminal) → Sound (Lookup opening made) ts (lookup_step opening made left ts)
unfolding lookup_step Lookup
lookup_sound opening made left ts =
    then_sound (sign_sound left opening ts) λ s.
    then_sound (expr_sound left s.1) λ m.
    then_sound (sign_sound left sign.Comma m.1) λ c.
    then_sound (expr_sound left c.1) λ k.
    then_sound (as_sound left k.1) λ a.
    then_sound (sign_sound left sign.Semicolon a.1) λ e. yields

cong_sound : (left : ℕ) (ts : List Terminal) → Sound Cong ts (cong_step left ts)
unfolding cong_step Cong
cong_sound left ts =
    then_sound (sign_sound left sign.Cong ts) λ s.
    then_sound (expr_sound left s.1) λ m.
    then_sound (sign_sound left sign.Comma m.1) λ c.
    then_sound (expr_sound left c.1) λ j.
    then_sound (sign_sound left sign.Comma j.1) λ d.
    then_sound (expr_sound left d.1) λ k.
    then_sound (as_sound left k.1) λ a.
    then_sound (sign_sound left sign.Semicolon a.1) λ e. yields

split_sound : {m : Spelled RawBlock} (block : Reader RawBlock) → ((ts : List Terminal) → Sound m ts (block ts)) → (left : ℕ) (ts : List Terminal) → Sound (Split m) ts (split_step block left ts)
unfolding split_step Split
split_sound block sound left ts =
    then_sound (sign_sound left sign.Split ts) λ s.
    then_sound (hyp_sound left s.1) λ h.
    then_sound (as_sound left h.1) λ a.
    then_sound (sound a.1) λ b.
    then_sound (sound b.1) λ c. yields

cut_sound : {m : Spelled RawBlock} (block : Reader RawBlock) → ((ts : List Terminal) → Sound m ts (block ts)) → (left : ℕ) (ts : List Terminal) → Sound (Cut m) ts (cut_step block left ts)
unfolding cut_step Cut
cut_sound block sound left ts =
    then_sound (sign_sound left sign.Cut ts) λ s.
    then_sound (expr_sound left s.1) λ f.
    then_sound (as_sound left f.1) λ a.
    then_sound (sound a.1) λ b. yields

step_kind_sound : {m : Spelled RawBlock} (block : Reader RawBlock) → ((ts : List Terminal) → Sound m ts (block ts)) → (left : ℕ) (ts : List Terminal) → Sound (StepKind m) ts (step_kind block left ts)
unfolding blockless_step StepKind
step_kind_sound block sound left ts =
    either (begins_with sign.Split ts) (first (split_sound block sound left ts))
    (either (begins_with sign.Cut ts) (second (first (cut_sound block sound left ts)))
    (either (begins_with sign.Same ts) (second (second (first (same_sound left ts))))
    (either (begins_with sign.Sum ts) (second (second (second (first (sum_sound left ts)))))
    (either (begins_with sign.Inst ts) (second (second (second (second (first (inst_sound left ts))))))
    (either (begins_with sign.Parts ts) (second (second (second (second (second (first (parts_sound left ts)))))))
    (either (begins_with sign.Read ts) (second (second (second (second (second (second (first (lookup_sound sign.Read step.Read left ts))))))))
    (either (begins_with sign.Size ts) (second (second (second (second (second (second (second (first (lookup_sound sign.Size step.Size left ts)))))))))
    (either (begins_with sign.Total ts) (second (second (second (second (second (second (second (second (first (lookup_sound sign.Total step.Total left ts))))))))))
    (either (begins_with sign.Cong ts) (second (second (second (second (second (second (second (second (second (cong_sound left ts)))))))))) (refuse_sound ts))))))))))

pub step_sound : {m : Spelled RawBlock} (block : Reader RawBlock) → ((ts : List Terminal) → Sound m ts (block ts)) → (left : ℕ) (ts : List Terminal) → Sound (Step m) ts (step_at block left ts)
unfolding step_at Step
step_sound block sound left ts = here (then_sound (step_kind_sound block sound left ts) λ v. yields)

-- ---- blocks and scripts

block_with_sound : {m : Spelled RawBlock} (block : Reader RawBlock) → ((ts : List Terminal) → Sound m ts (block ts)) → (left : ℕ) (ts : List Terminal) → Sound (BlockOf m) ts (block_with block left ts)
unfolding steps BlockOf
block_with_sound block sound left ts =
    then_sound (sign_sound left sign.OpenBrace ts) λ o.
    then_sound (row_sound goes_on _ (step_sound block sound (left - 1)) (length o.1) o.1) λ x.
    then_sound (sign_sound (left - 1) sign.CloseBrace x.1) λ e. yields

nested_sound : (left : ℕ) (ts : List Terminal) → Sound (Nested left) ts (nested left ts)
unfolding nested Nested
nested_sound zero ts = stops
nested_sound (suc below) ts = block_with_sound (nested below) (nested_sound below) below ts

pub block_sound : (left : ℕ) (ts : List Terminal) → Sound Block ts (block_at left ts)
unfolding block_at Block Nested
block_sound left ts = record { holds = λ x rest e. (suc left, (block_with_sound (nested left) (nested_sound left) left ts).holds x rest e) }

pub script_sound : (left : ℕ) (ts : List Terminal) → Sound Script ts (script_at left ts)
unfolding script_at Script
script_sound left ts = then_sound (sign_sound left sign.By ts) λ b. then_sound (block_sound left b.1) λ x. yields
