-- The blocks of a script, to any depth: what they spell.
use Rattle.std.proofs.Common.{◌≡◌, ◌≤◌, ◌+◌, ℕ, zero, suc, List, [], ◌∷◌, ◌++◌, map, refl, ap, ◌∙◌, arith}
use Rattle.sync_lex.specs.declared.signs.Sign.TheVariants as sign
use Rattle.sync_lex.specs.declared.terminals.Terminal.{Terminal}
use Rattle.sync_parse_exprs.specs.declared.raw_names.RawName.{RawName}
use Rattle.sync_parse_exprs.specs.Terminals.{first_line}
use Rattle.sync_parse.specs.declared.scripts.RawBlock.{roll-RawBlock, fold-roll-RawBlock}
use Rattle.sync_parse.specs.declared.scripts.RawScriptStep.{RawScriptStep, roll-RawScriptStep, fold-roll-RawScriptStep}
use Rattle.sync_parse.specs.declared.scripts.RawStepKind.{RawStepKind}
use Rattle.sync_parse.specs.declared.scripts.RawStepKind.TheVariants as step
use Rattle.sync_parse_forms.specs.Relations.{Many, nothing, more, the_one, the_other}
use Rattle.sync_parse_grammar.specs.Scripts.{Split, Cut, StepKind, Step, BlockOf, Nested, Block}
use Rattle.sync_print.specs.Exprs.{Plain}
use Rattle.sync_print.specs.Scripts.{PlainHyp, PlainStep, same, sum, inst, parts, split, cut, read, size, total, cong, PlainBlock, done, first, block_of, plain_step, plain_block, plain_step_kind, plain_in_block, plain_at}
use Rattle.sync_print.specs.Lexemes.{one}
use Rattle.sync_print.specs.ShowExprs.{show_expr}
use Rattle.sync_print.specs.ShowScripts.{show_hyp, show_as, show_step, show_steps, show_block}
use Rattle.sync_print_spelling.specs.Says.{Says, no_more}
use Rattle.sync_print_spelling.specs.Limits.{ExprFits, HypFits, StepFits, BlockFits}
use Rattle.sync_print_spelling.specs.Laws.{Derives, ShownIsDerived}
use Rattle.sync_print_spelling.proofs.Terminals.{split as parted, the_sign, here_is, yields, seq}
use Rattle.sync_print_spelling.proofs.Expressions.{exprs}
use Rattle.sync_print_spelling.proofs.Hyps.{hyps, the_as}
use Rattle.sync_print_spelling.proofs.Steps.{said_step, said-Split, said-Cut, same_spelled, sum_spelled, inst_spelled, parts_spelled, read_spelled, size_spelled, total_spelled, cong_spelled}

pub said-Step : (what : RawStepKind) (line : ℕ) → plain_step (roll-RawScriptStep (record { what = what; line = line })) ≡ said_step what
said-Step what line = fold-roll-RawScriptStep PlainStep PlainBlock PlainStep plain_step_kind plain_in_block plain_at (record { what = what; line = line })

pub said-Block : (steps : List RawScriptStep) (line : ℕ) → plain_block (roll-RawBlock (record { steps = steps; end_line = line })) ≡ block_of (map plain_step steps)
said-Block steps line = fold-roll-RawBlock PlainStep PlainBlock PlainStep plain_step_kind plain_in_block plain_at (record { steps = steps; end_line = line })

abbrev mutual
  -- so deep blocks stand in it
  depth_of : PlainStep → ℕ
  depth_of same = 0
  depth_of (sum ps) = 0
  depth_of (inst h es x) = 0
  depth_of (parts h x y) = 0
  depth_of (split h x b c) = suc (depth b + depth c)
  depth_of (cut e x b) = suc (depth b)
  depth_of (read m k x) = 0
  depth_of (size m k x) = 0
  depth_of (total m k x) = 0
  depth_of (cong m j k x) = 0

  depth : PlainBlock → ℕ
  depth done = 0
  depth (first s b) = depth_of s + depth b

abbrev said_steps : List RawScriptStep → PlainBlock
said_steps xs = block_of (map plain_step xs)

-- a step, and the steps of a block, where so many braces may be open at once
record OfStep (s : PlainStep) : Type 0 where
  pub reads : (d : ℕ) → depth_of s ≤ d → (ts rest : List Terminal) → Says (show_step s) ts rest → Derives (StepKind (Nested d)) said_step s ts rest

record OfBlock (b : PlainBlock) : Type 0 where
  pub reads : (d : ℕ) → depth b ≤ d → (ts rest : List Terminal) → Says (show_steps b) ts rest → Derives (Many (Step (Nested d))) said_steps b ts rest

braced : (b : PlainBlock) → OfBlock b → (d : ℕ) → depth b ≤ d → (ts rest : List Terminal) → Says (show_block b) ts rest → Derives (Nested (suc d)) plain_block b ts rest
unfolding Nested BlockOf
braced b p d enough ts rest h =
    let r = parted (one sign.OpenBrace ++ show_steps b) (one sign.CloseBrace) h in
    let q = parted (one sign.OpenBrace) (show_steps b) r.1 in
    let o = the_sign q.1 in
    let y = p.reads d enough q.0 r.0 q.2 in
    let c = the_sign r.2 in
    record {
      raw = roll-RawBlock (record { steps = y.raw; end_line = c.0 });
      spelled = seq o.0 q.0 o.1 (seq y.raw r.0 y.spelled (seq c.0 rest c.1 (yields _)));
      is = said-Block y.raw c.0 ∙ y.is;
    }

split_spelled : (p : PlainHyp) (x : ℕ) (b c : PlainBlock) → HypFits p → OfBlock b → OfBlock c → (d : ℕ) → suc (depth b + depth c) ≤ d → (ts rest : List Terminal)
    → Says (one sign.Split ++ show_hyp p ++ show_as x ++ show_block b ++ show_block c) ts rest → Derives (StepKind (Nested d)) said_step (split p x b c) ts rest
unfolding StepKind Split
split_spelled p x b c fits of_b of_c zero enough ts rest h = absurd (omega arith)
split_spelled p x b c fits of_b of_c (suc d) enough ts rest h =
    let n4 = parted (one sign.Split ++ show_hyp p ++ show_as x ++ show_block b) (show_block c) h in
    let n3 = parted (one sign.Split ++ show_hyp p ++ show_as x) (show_block b) n4.1 in
    let n2 = parted (one sign.Split ++ show_hyp p) (show_as x) n3.1 in
    let n1 = parted (one sign.Split) (show_hyp p) n2.1 in
    let s = the_sign n1.1 in
    let y = hyps.holds p fits n1.0 n2.0 n1.2 in
    let a = the_as x n2.2 in
    let u = braced b of_b d (omega arith) n3.0 n4.0 n3.2 in
    let v = braced c of_c d (omega arith) n4.0 rest n4.2 in
    let named : RawName = record { name = x; line = a.0 } in
    record {
      raw = step.Split y.raw named u.raw v.raw;
      spelled = the_one (seq s.0 n1.0 s.1 (seq y.raw n2.0 y.spelled (seq named n3.0 a.1 (seq u.raw n4.0 u.spelled (seq v.raw rest v.spelled (yields _))))));
      is = said-Split y.raw named u.raw v.raw ∙ (ap (λ w. split w x (plain_block u.raw) (plain_block v.raw)) y.is ∙ (ap (λ w. split p x w (plain_block v.raw)) u.is ∙ ap (λ w. split p x b w) v.is));
    }

cut_spelled : (e : Plain) (x : ℕ) (b : PlainBlock) → ExprFits e → OfBlock b → (d : ℕ) → suc (depth b) ≤ d → (ts rest : List Terminal)
    → Says (one sign.Cut ++ show_expr e ++ show_as x ++ show_block b) ts rest → Derives (StepKind (Nested d)) said_step (cut e x b) ts rest
unfolding StepKind Cut
cut_spelled e x b fits of_b zero enough ts rest h = absurd (omega arith)
cut_spelled e x b fits of_b (suc d) enough ts rest h =
    let n3 = parted (one sign.Cut ++ show_expr e ++ show_as x) (show_block b) h in
    let n2 = parted (one sign.Cut ++ show_expr e) (show_as x) n3.1 in
    let n1 = parted (one sign.Cut) (show_expr e) n2.1 in
    let s = the_sign n1.1 in
    let y = exprs.holds e fits n1.0 n2.0 n1.2 in
    let a = the_as x n2.2 in
    let u = braced b of_b d (omega arith) n3.0 rest n3.2 in
    let named : RawName = record { name = x; line = a.0 } in
    record {
      raw = step.Cut y.raw named u.raw;
      spelled = the_other (the_one (seq s.0 n1.0 s.1 (seq y.raw n2.0 y.spelled (seq named n3.0 a.1 (seq u.raw rest u.spelled (yields _))))));
      is = said-Cut y.raw named u.raw ∙ (ap (λ w. cut w x (plain_block u.raw)) y.is ∙ ap (λ w. cut e x w) u.is);
    }

no_steps : (d : ℕ) {ts rest : List Terminal} → Says [] ts rest → Derives (Many (Step (Nested d))) said_steps done ts rest
no_steps d no_more = record { raw = []; spelled = nothing; is = refl }

more_steps : (s : PlainStep) (b : PlainBlock) → OfStep s → OfBlock b → (d : ℕ) → depth_of s + depth b ≤ d → (ts rest : List Terminal)
    → Says (show_step s ++ show_steps b) ts rest → Derives (Many (Step (Nested d))) said_steps (first s b) ts rest
unfolding Step
more_steps s b of_s of_b d enough ts rest h =
    let r = parted (show_step s) (show_steps b) h in
    let y = of_s.reads d (omega arith) ts r.0 r.1 in
    let ys = of_b.reads d (omega arith) r.0 rest r.2 in
    let x = roll-RawScriptStep (record { what = y.raw; line = first_line ts }) in
    record {
      raw = x ∷ ys.raw;
      spelled = more (seq ts ts here_is (seq y.raw r.0 y.spelled (yields x))) ys.spelled;
      is = ap (λ z. first z (said_steps ys.raw)) (said-Step y.raw (first_line ts) ∙ y.is) ∙ ap (first s) ys.is;
    }

mutual
  of_step : (s : PlainStep) → StepFits s → OfStep s
  of_step same fits = record { reads = λ d enough ts rest h. same_spelled (Nested d) h }
  of_step (sum ps) fits = record { reads = λ d enough ts rest h. sum_spelled (Nested d) ps fits.0 fits.1 h }
  of_step (inst p es x) fits = record { reads = λ d enough ts rest h. inst_spelled (Nested d) p es x fits.0 fits.1 h }
  of_step (parts p x y) fits = record { reads = λ d enough ts rest h. parts_spelled (Nested d) p x y fits h }
  of_step (split p x b c) fits = record { reads = split_spelled p x b c fits.0 (of_block b fits.1) (of_block c fits.2) }
  of_step (cut e x b) fits = record { reads = cut_spelled e x b fits.0 (of_block b fits.1) }
  of_step (read m k x) fits = record { reads = λ d enough ts rest h. read_spelled (Nested d) m k x fits.0 fits.1 h }
  of_step (size m k x) fits = record { reads = λ d enough ts rest h. size_spelled (Nested d) m k x fits.0 fits.1 h }
  of_step (total m k x) fits = record { reads = λ d enough ts rest h. total_spelled (Nested d) m k x fits.0 fits.1 h }
  of_step (cong m j k x) fits = record { reads = λ d enough ts rest h. cong_spelled (Nested d) m j k x fits.0 fits.1 fits.2 h }

  of_block : (b : PlainBlock) → BlockFits b → OfBlock b
  of_block done fits = record { reads = λ d enough ts rest h. no_steps d h }
  of_block (first s b) fits = record { reads = more_steps s b (of_step s fits.0) (of_block b fits.1) }

block_spelled : (b : PlainBlock) → BlockFits b → (ts rest : List Terminal) → Says (show_block b) ts rest → Derives Block plain_block b ts rest
unfolding Block
block_spelled b fits ts rest h =
    let y = braced b (of_block b fits) (depth b) (omega arith) ts rest h in
    record { raw = y.raw; spelled = (suc (depth b), y.spelled); is = y.is }

pub blocks : ShownIsDerived Block plain_block show_block BlockFits
blocks = record { holds = block_spelled }
