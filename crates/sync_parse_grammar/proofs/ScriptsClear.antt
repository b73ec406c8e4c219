-- No terminals spell two scripts.
use Rattle.std.proofs.Common.{◌≡◌, ℕ, zero, suc, Bool, true, false, List, [], ◌∷◌, Some, refl}
use Rattle.sync_lex.specs.declared.signs.Sign.{Sign}
use Rattle.sync_lex.specs.declared.signs.Sign.TheVariants as sign
use Rattle.sync_lex.specs.Signs.{is_same}
use Rattle.sync_parse_exprs.specs.declared.raw_names.RawName.{RawName}
use Rattle.sync_parse_exprs.specs.declared.expressions.RawExpr.{RawExpr}
use Rattle.sync_parse_exprs.specs.declared.expressions.Special.{Special}
use Rattle.sync_parse_exprs.specs.declared.expressions.Special.TheVariants as special
use Rattle.sync_parse.specs.declared.scripts.RawBlock.{RawBlock}
use Rattle.sync_parse.specs.declared.scripts.RawStepKind.{RawStepKind}
use Rattle.sync_parse.specs.declared.scripts.RawStepKind.TheVariants as step
use Rattle.sync_parse.specs.Scripts.{bounded_of}
use Rattle.sync_parse_forms.specs.Relations.{Spelled, Then}
use Rattle.sync_parse_grammar.specs.Expressions.{AnExpr}
use Rattle.sync_parse_grammar.specs.Scripts.{ASubject, Hyp, Scaled, Part, As, Same, Sum, Inst, Parts, Lookup, Cong, Split, Cut, StepKind, Step, BlockOf, Nested, Block, Script}
use Rattle.sync_parse_forms.specs.Fronts.{code, Set, any, only, among, both, others}
use Rattle.sync_parse_forms.proofs.Clears.{In, only_in, same_in, any_in, Starts, Clear, Fork, lone, fork_or, starts_then, starts_here, starts_the, starts_name, starts_number, follows_starts, clear_the, clear_name, clear_number, clear_one_of, clear_yields, clear_here, clear_then, clear_next, clear_many, clear_series}
use Rattle.sync_parse_grammar.proofs.ExpressionsClear.{operators, row, starts_table, clear_expr, clear_args}

-- an expression, where what comes next begins with no operator
pub expr_then : {A : Type 0} {q p : Set} {g : RawExpr → Spelled A} → ((x : RawExpr) → Clear q (g x) (g x)) → ((x : RawExpr) → Starts (g x) p) → In p (others operators) → Clear q (Then AnExpr g) (Then AnExpr g)
expr_then next s i = clear_then (others operators) clear_expr next (λ x. follows_starts (s x) i) (λ x. follows_starts (s x) i)

-- ---- hypotheses

abbrev bounded_codes : List ℕ
bounded_codes = code sign.Old ∷ code sign.New ∷ code sign.Wrap ∷ []

bounded_in : (s : Sign) (x : Special) → bounded_of s ≡ Some x → among bounded_codes (code s) ≡ true
unfolding bounded_of
bounded_in s x e =
    row (among bounded_codes) s sign.Old special.Old x (is_same s sign.Old) _ refl e refl λ e.
    row (among bounded_codes) s sign.New special.New x (is_same s sign.New) _ refl e refl λ e.
    row (among bounded_codes) s sign.Wrap special.Wrap x (is_same s sign.Wrap) _ refl e refl λ e. absurd cc

subject_fork : {q : Set} → Fork q (both (only 1) (among bounded_codes)) ASubject ASubject
unfolding ASubject
subject_fork = fork_or (lone (clear_next clear_name λ x. clear_yields) (starts_then starts_name))
    (lone (clear_next clear_one_of λ x. clear_yields) (starts_then (starts_table bounded_in))) (only_in _ refl)

clear_subject : {q : Set} → Clear q ASubject ASubject
clear_subject = subject_fork.clear

abbrev hyps : Set
hyps = both (only (code sign.Denied)) (both (only (code sign.At)) (both (only (code sign.Low)) (both (only (code sign.High)) (only 1))))

hyp_fork : {q : Set} → Fork q hyps Hyp Hyp
unfolding Hyp
hyp_fork =
    fork_or (lone (clear_next clear_the λ l. clear_yields) (starts_then starts_the))
    (fork_or (lone (clear_next clear_the λ l. clear_next clear_number λ n. clear_yields) (starts_then starts_the))
    (fork_or (lone (clear_next clear_the λ l. clear_next clear_subject λ s. clear_yields) (starts_then starts_the))
    (fork_or (lone (clear_next clear_the λ l. clear_next clear_subject λ s. clear_yields) (starts_then starts_the))
    (lone (clear_next clear_name λ x. clear_yields) (starts_then starts_name)) (only_in _ refl)) (only_in _ refl)) (only_in _ refl)) (only_in _ refl)

pub clear_hyp : {q : Set} → Clear q Hyp Hyp
clear_hyp = hyp_fork.clear

pub scaled_fork : {q : Set} (minus : Bool) → Fork q (only 2) (Scaled minus) (Scaled minus)
unfolding Scaled
scaled_fork minus = lone (clear_next clear_number λ n. clear_next clear_hyp λ h. clear_yields) (starts_then starts_number)

pub clear_scaled : {q : Set} (minus : Bool) → Clear q (Scaled minus) (Scaled minus)
clear_scaled minus = (scaled_fork minus).clear

part_fork : {q : Set} → Fork q (both (only (code sign.Minus)) (only 2)) Part Part
unfolding Part
part_fork = fork_or (lone (clear_next clear_the λ l. clear_scaled true) (starts_then starts_the)) (scaled_fork false) (only_in _ refl)

pub clear_part : {q : Set} → Clear q Part Part
clear_part = part_fork.clear

pub clear_as : {q : Set} → Clear q As As
unfolding As
clear_as = clear_next clear_the λ l. clear_name

pub starts_as : Starts As (only (code sign.As))
unfolding As
starts_as = starts_then starts_the

-- ---- steps

pub same_fork : {q : Set} → Fork q (only (code sign.Same)) Same Same
unfolding Same
same_fork = lone (clear_next clear_the λ s. clear_next clear_the λ e. clear_yields) (starts_then starts_the)

pub sum_fork : {q : Set} → Fork q (only (code sign.Sum)) Sum Sum
unfolding Sum
sum_fork = lone (clear_next clear_the λ s.
    clear_then (only (code sign.Semicolon)) (clear_series any clear_part refl any_in (only_in _ refl)) (λ parts. clear_next clear_the λ e. clear_yields)
    (λ parts. follows_starts (starts_then starts_the) same_in) (λ parts. follows_starts (starts_then starts_the) same_in)) (starts_then starts_the)

pub inst_fork : {q : Set} → Fork q (only (code sign.Inst)) Inst Inst
unfolding Inst
inst_fork = lone (clear_next clear_the λ s. clear_next clear_hyp λ h. clear_next clear_args λ args. clear_next clear_as λ a. clear_next clear_the λ e. clear_yields) (starts_then starts_the)

pub parts_fork : {q : Set} → Fork q (only (code sign.Parts)) Parts Parts
unfolding Parts
parts_fork = lone (clear_next clear_the λ s. clear_next clear_hyp λ h. clear_next clear_as λ a. clear_next clear_the λ c. clear_next clear_name λ b. clear_next clear_the λ e. clear_yields)
    (starts_then starts_the)

pub lookup_fork : {q : Set} (opening : Sign) (made : RawExpr → RawExpr → RawName → RawStepKind) → Fork q (only (code opening)) (Lookup opening made) (Lookup opening made)
unfolding Lookup
lookup_fork opening made = lone (clear_next clear_the λ s.
    expr_then (λ m. clear_next clear_the λ c. expr_then (λ k. clear_next clear_as λ a. clear_next clear_the λ e. clear_yields) (λ k. starts_then starts_as) (only_in _ refl))
    (λ m. starts_then starts_the) (only_in _ refl)) (starts_then starts_the)

pub cong_fork : {q : Set} → Fork q (only (code sign.Cong)) Cong Cong
unfolding Cong
cong_fork = lone (clear_next clear_the λ s.
    expr_then (λ m. clear_next clear_the λ c.
    expr_then (λ j. clear_next clear_the λ d.
    expr_then (λ k. clear_next clear_as λ a. clear_next clear_the λ e. clear_yields) (λ k. starts_then starts_as) (only_in _ refl))
    (λ j. starts_then starts_the) (only_in _ refl))
    (λ m. starts_then starts_the) (only_in _ refl)) (starts_then starts_the)

pub split_fork : {q : Set} {m n : Spelled RawBlock} → Clear any m n → Fork q (only (code sign.Split)) (Split m) (Split n)
unfolding Split
split_fork c = record {
  clear = clear_next clear_the λ s. clear_next clear_hyp λ h. clear_next clear_as λ a. clear_next c λ x. clear_next c λ y. clear_yields;
  left = starts_then starts_the;
  right = starts_then starts_the;
}

pub cut_fork : {q : Set} {m n : Spelled RawBlock} → Clear any m n → Fork q (only (code sign.Cut)) (Cut m) (Cut n)
unfolding Cut
cut_fork c = record {
  clear = clear_next clear_the λ s.
      clear_then (others operators) clear_expr (λ f. clear_next clear_as λ a. clear_next c λ b. clear_yields)
      (λ f. follows_starts (starts_then starts_as) (only_in _ refl)) (λ f. follows_starts (starts_then starts_as) (only_in _ refl));
  left = starts_then starts_the;
  right = starts_then starts_the;
}

abbrev pub step_signs : Set
step_signs = both (only (code sign.Split)) (both (only (code sign.Cut)) (both (only (code sign.Same)) (both (only (code sign.Sum)) (both (only (code sign.Inst)) (both (only (code sign.Parts))
    (both (only (code sign.Read)) (both (only (code sign.Size)) (both (only (code sign.Total)) (only (code sign.Cong))))))))))

step_fork : {q : Set} {m n : Spelled RawBlock} → Clear any m n → Fork q step_signs (StepKind m) (StepKind n)
unfolding StepKind
step_fork c =
    fork_or (split_fork c) (fork_or (cut_fork c) (fork_or same_fork (fork_or sum_fork (fork_or inst_fork (fork_or parts_fork
    (fork_or (lookup_fork sign.Read step.Read) (fork_or (lookup_fork sign.Size step.Size) (fork_or (lookup_fork sign.Total step.Total) cong_fork
    (only_in _ refl)) (only_in _ refl)) (only_in _ refl)) (only_in _ refl)) (only_in _ refl)) (only_in _ refl)) (only_in _ refl)) (only_in _ refl)) (only_in _ refl)

pub clear_step : {q : Set} {m n : Spelled RawBlock} → Clear any m n → Clear q (Step m) (Step n)
unfolding Step
clear_step c = clear_next clear_here λ start. clear_next (step_fork c).clear λ x. clear_yields

pub starts_step : {m n : Spelled RawBlock} → Clear any m n → Starts (Step m) step_signs
unfolding Step
starts_step c = starts_here λ start. starts_then (step_fork {q = any} c).left

starts_step' : {m n : Spelled RawBlock} → Clear any m n → Starts (Step n) step_signs
unfolding Step
starts_step' c = starts_here λ start. starts_then (step_fork {q = any} c).right

-- ---- blocks and scripts

clear_block_of : {q : Set} {m n : Spelled RawBlock} → Clear any m n → Clear q (BlockOf m) (BlockOf n)
unfolding BlockOf
clear_block_of c = clear_next clear_the λ o.
    clear_then (only (code sign.CloseBrace)) (clear_many {p = any} (clear_step c) (starts_step c) (starts_step' c) any_in any_in (only_in _ refl)) (λ xs. clear_next clear_the λ e. clear_yields)
    (λ xs. follows_starts (starts_then starts_the) same_in) (λ xs. follows_starts (starts_then starts_the) same_in)

pub clear_nested : {q : Set} (depth other : ℕ) → Clear q (Nested depth) (Nested other)
unfolding Nested
clear_nested zero other = record { at = λ ts us rest vs x y d e same a b. absurd d }
clear_nested (suc depth) zero = record { at = λ ts us rest vs x y d e same a b. absurd e }
clear_nested (suc depth) (suc other) = clear_block_of (clear_nested depth other)

pub clear_block : {q : Set} → Clear q Block Block
unfolding Block
clear_block = record { at = λ ts us rest vs x y d e same a b. (clear_nested {q = any} d.0 e.0).at ts us rest vs x y d.1 e.1 same refl refl }

-- no terminals spell two scripts
pub clear_script : {q : Set} → Clear q Script Script
unfolding Script
clear_script = clear_next clear_the λ l. clear_next clear_block λ b. clear_yields
