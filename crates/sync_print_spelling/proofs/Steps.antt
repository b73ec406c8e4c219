-- The steps of a block: what they spell.
use Rattle.std.proofs.Common.{◌≡◌, ◌≤◌, ℕ, List, ◌++◌, length, map, ap, ◌∙◌}
use Rattle.std.specs.List.{All}
use Rattle.sync_lex.specs.declared.signs.Sign.{Sign}
use Rattle.sync_lex.specs.declared.signs.Sign.TheVariants as sign
use Rattle.sync_lex.specs.declared.terminals.Terminal.{Terminal}
use Rattle.sync_parse_exprs.specs.declared.raw_names.RawName.{RawName}
use Rattle.sync_parse_exprs.specs.declared.expressions.RawExpr.{RawExpr}
use Rattle.sync_parse.specs.declared.scripts.RawHypName.{RawHypName}
use Rattle.sync_parse.specs.declared.scripts.RawPart.{RawPart}
use Rattle.sync_parse.specs.declared.scripts.RawBlock.{RawBlock}
use Rattle.sync_parse.specs.declared.scripts.RawStepKind.{RawStepKind, fold-RawStepKind, fold-roll-RawStepKind, roll-RawStepKind}
use Rattle.sync_parse.specs.declared.scripts.RawStepKind.TheOpen.{RawStepKind-F}
use Rattle.sync_parse.specs.declared.scripts.RawStepKind.TheVariants as step
use Rattle.sync_parse.specs.declared.scripts.RawStepKind.TheVariants.{rolls-Same, rolls-Sum, rolls-Inst, rolls-Parts, rolls-Split, rolls-Cut, rolls-Read, rolls-Size, rolls-Total, rolls-Cong}
use Rattle.sync_parse_forms.specs.Relations.{Spelled, the_one, the_other}
use Rattle.sync_parse_grammar.specs.Expressions.{Args}
use Rattle.sync_parse_grammar.specs.Scripts.{Same, Sum, Inst, Parts, Lookup, Cong, StepKind}
use Rattle.sync_print.specs.Exprs.{Plain, plain}
use Rattle.sync_print.specs.Scripts.{PlainHyp, PlainPart, PlainStep, same, sum, inst, parts, split, cut, read, size, total, cong, PlainBlock, plain_hyp, plain_part, plain_step_kind, plain_in_block, plain_at, plain_block}
use Rattle.sync_print.specs.Lexemes.{one, one_name, listed}
use Rattle.sync_print.specs.ShowExprs.{show_expr}
use Rattle.sync_print.specs.ShowScripts.{show_hyp, show_part, show_as, show_lookup}
use Rattle.sync_print_spelling.specs.Says.{Says}
use Rattle.sync_print_spelling.specs.Limits.{ExprFits, HypFits, PartFits}
use Rattle.sync_print_spelling.specs.Laws.{Derives}
use Rattle.sync_print_spelling.proofs.Terminals.{split as parted, the_sign, the_name, yields, seq}
use Rattle.sync_print_spelling.proofs.Expressions.{exprs}
use Rattle.sync_print_spelling.proofs.Lists.{series, in_brackets}
use Rattle.sync_print_spelling.proofs.Hyps.{hyps, parts as sum_parts, the_as}

-- what a step of a kind says
abbrev pub said_step : RawStepKind → PlainStep
said_step = fold-RawStepKind PlainStep PlainBlock PlainStep plain_step_kind plain_in_block plain_at

pub said-Same : said_step step.Same ≡ same
unfolding roll-RawStepKind denote.Hole.Carrier.roll
said-Same = ap said_step rolls-Same ∙ fold-roll-RawStepKind PlainStep PlainBlock PlainStep plain_step_kind plain_in_block plain_at RawStepKind-F.Same

pub said-Sum : (ps : List RawPart) → said_step (step.Sum ps) ≡ sum (map plain_part ps)
unfolding roll-RawStepKind denote.Hole.Carrier.roll
said-Sum ps = ap said_step (rolls-Sum ps) ∙ fold-roll-RawStepKind PlainStep PlainBlock PlainStep plain_step_kind plain_in_block plain_at (RawStepKind-F.Sum ps)

pub said-Inst : (h : RawHypName) (es : List RawExpr) (x : RawName) → said_step (step.Inst h es x) ≡ inst (plain_hyp h) (map plain es) x.name
unfolding roll-RawStepKind denote.Hole.Carrier.roll
said-Inst h es x = ap said_step (rolls-Inst h es x) ∙ fold-roll-RawStepKind PlainStep PlainBlock PlainStep plain_step_kind plain_in_block plain_at (RawStepKind-F.Inst h es x)

pub said-Parts : (h : RawHypName) (x y : RawName) → said_step (step.Parts h x y) ≡ parts (plain_hyp h) x.name y.name
unfolding roll-RawStepKind denote.Hole.Carrier.roll
said-Parts h x y = ap said_step (rolls-Parts h x y) ∙ fold-roll-RawStepKind PlainStep PlainBlock PlainStep plain_step_kind plain_in_block plain_at (RawStepKind-F.Parts h x y)

pub said-Split : (h : RawHypName) (x : RawName) (b c : RawBlock) → said_step (step.Split h x b c) ≡ split (plain_hyp h) x.name (plain_block b) (plain_block c)
unfolding roll-RawStepKind denote.Hole.Carrier.roll
said-Split h x b c = ap said_step (rolls-Split h x b c) ∙ fold-roll-RawStepKind PlainStep PlainBlock PlainStep plain_step_kind plain_in_block plain_at (RawStepKind-F.Split h x b c)

pub said-Cut : (e : RawExpr) (x : RawName) (b : RawBlock) → said_step (step.Cut e x b) ≡ cut (plain e) x.name (plain_block b)
unfolding roll-RawStepKind denote.Hole.Carrier.roll
said-Cut e x b = ap said_step (rolls-Cut e x b) ∙ fold-roll-RawStepKind PlainStep PlainBlock PlainStep plain_step_kind plain_in_block plain_at (RawStepKind-F.Cut e x b)

pub said-Read : (m k : RawExpr) (x : RawName) → said_step (step.Read m k x) ≡ read (plain m) (plain k) x.name
unfolding roll-RawStepKind denote.Hole.Carrier.roll
said-Read m k x = ap said_step (rolls-Read m k x) ∙ fold-roll-RawStepKind PlainStep PlainBlock PlainStep plain_step_kind plain_in_block plain_at (RawStepKind-F.Read m k x)

pub said-Size : (m k : RawExpr) (x : RawName) → said_step (step.Size m k x) ≡ size (plain m) (plain k) x.name
unfolding roll-RawStepKind denote.Hole.Carrier.roll
said-Size m k x = ap said_step (rolls-Size m k x) ∙ fold-roll-RawStepKind PlainStep PlainBlock PlainStep plain_step_kind plain_in_block plain_at (RawStepKind-F.Size m k x)

pub said-Total : (m k : RawExpr) (x : RawName) → said_step (step.Total m k x) ≡ total (plain m) (plain k) x.name
unfolding roll-RawStepKind denote.Hole.Carrier.roll
said-Total m k x = ap said_step (rolls-Total m k x) ∙ fold-roll-RawStepKind PlainStep PlainBlock PlainStep plain_step_kind plain_in_block plain_at (RawStepKind-F.Total m k x)

pub said-Cong : (m j k : RawExpr) (x : RawName) → said_step (step.Cong m j k x) ≡ cong (plain m) (plain j) (plain k) x.name
unfolding roll-RawStepKind denote.Hole.Carrier.roll
said-Cong m j k x = ap said_step (rolls-Cong m j k x) ∙ fold-roll-RawStepKind PlainStep PlainBlock PlainStep plain_step_kind plain_in_block plain_at (RawStepKind-F.Cong m j k x)

pub same_spelled : (I : Spelled RawBlock) {ts rest : List Terminal} → Says (one sign.Same ++ one sign.Semicolon) ts rest → Derives (StepKind I) said_step same ts rest
unfolding StepKind Same
same_spelled inner {rest = rest} h =
    let r = parted (one sign.Same) (one sign.Semicolon) h in
    let s = the_sign r.1 in
    let e = the_sign r.2 in
    record { raw = step.Same; spelled = the_other (the_other (the_one (seq s.0 r.0 s.1 (seq e.0 rest e.1 (yields _))))); is = said-Same }

pub sum_spelled : (I : Spelled RawBlock) (ps : List PlainPart) → 1 ≤ length ps → All PartFits ps → {ts rest : List Terminal} → Says (one sign.Sum ++ listed (map show_part ps) ++ one sign.Semicolon) ts rest
    → Derives (StepKind I) said_step (sum ps) ts rest
unfolding StepKind Sum
sum_spelled inner ps some fit {rest = rest} h =
    let r = parted (one sign.Sum ++ listed (map show_part ps)) (one sign.Semicolon) h in
    let q = parted (one sign.Sum) (listed (map show_part ps)) r.1 in
    let s = the_sign q.1 in
    let x = series sum_parts ps some fit q.0 r.0 q.2 in
    let e = the_sign r.2 in
    record { raw = step.Sum x.raw; spelled = the_other (the_other (the_other (the_one (seq s.0 q.0 s.1 (seq x.raw r.0 x.spelled (seq e.0 rest e.1 (yields _))))))); is = said-Sum x.raw ∙ ap sum x.is }

pub inst_spelled : (I : Spelled RawBlock) (p : PlainHyp) (es : List Plain) (x : ℕ) → HypFits p → All ExprFits es → {ts rest : List Terminal}
    → Says (one sign.Inst ++ show_hyp p ++ one sign.OpenRound ++ listed (map show_expr es) ++ one sign.CloseRound ++ show_as x ++ one sign.Semicolon) ts rest
    → Derives (StepKind I) said_step (inst p es x) ts rest
unfolding StepKind Inst Args
inst_spelled inner p es x fits fit {rest = rest} h =
    let n6 = parted (one sign.Inst ++ show_hyp p ++ one sign.OpenRound ++ listed (map show_expr es) ++ one sign.CloseRound ++ show_as x) (one sign.Semicolon) h in
    let n5 = parted (one sign.Inst ++ show_hyp p ++ one sign.OpenRound ++ listed (map show_expr es) ++ one sign.CloseRound) (show_as x) n6.1 in
    let n4 = parted (one sign.Inst ++ show_hyp p ++ one sign.OpenRound ++ listed (map show_expr es)) (one sign.CloseRound) n5.1 in
    let n3 = parted (one sign.Inst ++ show_hyp p ++ one sign.OpenRound) (listed (map show_expr es)) n4.1 in
    let n2 = parted (one sign.Inst ++ show_hyp p) (one sign.OpenRound) n3.1 in
    let n1 = parted (one sign.Inst) (show_hyp p) n2.1 in
    let s = the_sign n1.1 in
    let y = hyps.holds p fits n1.0 n2.0 n1.2 in
    let ys = in_brackets exprs es fit n2.0 n3.0 n4.0 n5.0 n2.2 n3.2 n4.2 in
    let a = the_as x n5.2 in
    let e = the_sign n6.2 in
    let named : RawName = record { name = x; line = a.0 } in
    record {
      raw = step.Inst y.raw ys.raw named;
      spelled = the_other (the_other (the_other (the_other (the_one (seq s.0 n1.0 s.1 (seq y.raw n2.0 y.spelled (seq ys.raw n5.0 ys.spelled (seq named n6.0 a.1 (seq e.0 rest e.1 (yields _))))))))));
      is = said-Inst y.raw ys.raw named ∙ (ap (λ z. inst z (map plain ys.raw) x) y.is ∙ ap (λ zs. inst p zs x) ys.is);
    }

pub parts_spelled : (I : Spelled RawBlock) (p : PlainHyp) (x y : ℕ) → HypFits p → {ts rest : List Terminal} → Says (one sign.Parts ++ show_hyp p ++ show_as x ++ one sign.Comma ++ one_name y ++ one sign.Semicolon) ts rest
    → Derives (StepKind I) said_step (parts p x y) ts rest
unfolding StepKind Parts
parts_spelled inner p x y fits {rest = rest} h =
    let n5 = parted (one sign.Parts ++ show_hyp p ++ show_as x ++ one sign.Comma ++ one_name y) (one sign.Semicolon) h in
    let n4 = parted (one sign.Parts ++ show_hyp p ++ show_as x ++ one sign.Comma) (one_name y) n5.1 in
    let n3 = parted (one sign.Parts ++ show_hyp p ++ show_as x) (one sign.Comma) n4.1 in
    let n2 = parted (one sign.Parts ++ show_hyp p) (show_as x) n3.1 in
    let n1 = parted (one sign.Parts) (show_hyp p) n2.1 in
    let s = the_sign n1.1 in
    let z = hyps.holds p fits n1.0 n2.0 n1.2 in
    let as_x = the_as x n2.2 in
    let c = the_sign n3.2 in
    let as_y = the_name n4.2 in
    let e = the_sign n5.2 in
    let named : RawName = record { name = x; line = as_x.0 } in
    let other : RawName = record { name = y; line = as_y.0 } in
    record {
      raw = step.Parts z.raw named other;
      spelled = the_other (the_other (the_other (the_other (the_other (the_one (seq s.0 n1.0 s.1 (seq z.raw n2.0 z.spelled (seq named n3.0 as_x.1 (seq c.0 n4.0 c.1 (seq other n5.0 as_y.1 (seq e.0 rest e.1 (yields _))))))))))));
      is = said-Parts z.raw named other ∙ ap (λ w. parts w x y) z.is;
    }

lookup_spelled : (opening : Sign) (made : RawExpr → RawExpr → RawName → RawStepKind) (what : Plain → Plain → ℕ → PlainStep)
    → ((m k : RawExpr) (x : RawName) → said_step (made m k x) ≡ what (plain m) (plain k) x.name)
    → (m k : Plain) (x : ℕ) → ExprFits m → ExprFits k → {ts rest : List Terminal} → Says (show_lookup opening m k x) ts rest → Derives (Lookup opening made) said_step (what m k x) ts rest
unfolding Lookup
lookup_spelled opening made what said m k x fit_m fit_k {rest = rest} h =
    let n5 = parted (one opening ++ show_expr m ++ one sign.Comma ++ show_expr k ++ show_as x) (one sign.Semicolon) h in
    let n4 = parted (one opening ++ show_expr m ++ one sign.Comma ++ show_expr k) (show_as x) n5.1 in
    let n3 = parted (one opening ++ show_expr m ++ one sign.Comma) (show_expr k) n4.1 in
    let n2 = parted (one opening ++ show_expr m) (one sign.Comma) n3.1 in
    let n1 = parted (one opening) (show_expr m) n2.1 in
    let s = the_sign n1.1 in
    let y = exprs.holds m fit_m n1.0 n2.0 n1.2 in
    let c = the_sign n2.2 in
    let z = exprs.holds k fit_k n3.0 n4.0 n3.2 in
    let as_x = the_as x n4.2 in
    let e = the_sign n5.2 in
    let named : RawName = record { name = x; line = as_x.0 } in
    record {
      raw = made y.raw z.raw named;
      spelled = seq s.0 n1.0 s.1 (seq y.raw n2.0 y.spelled (seq c.0 n3.0 c.1 (seq z.raw n4.0 z.spelled (seq named n5.0 as_x.1 (seq e.0 rest e.1 (yields _))))));
      is = said y.raw z.raw named ∙ (ap (λ w. what w (plain z.raw) x) y.is ∙ ap (λ w. what m w x) z.is);
    }

pub read_spelled : (I : Spelled RawBlock) (m k : Plain) (x : ℕ) → ExprFits m → ExprFits k → {ts rest : List Terminal} → Says (show_lookup sign.Read m k x) ts rest → Derives (StepKind I) said_step (read m k x) ts rest
unfolding StepKind
read_spelled inner m k x fit_m fit_k h =
    let y = lookup_spelled sign.Read step.Read read said-Read m k x fit_m fit_k h in
    record { raw = y.raw; spelled = the_other (the_other (the_other (the_other (the_other (the_other (the_one y.spelled)))))); is = y.is }

pub size_spelled : (I : Spelled RawBlock) (m k : Plain) (x : ℕ) → ExprFits m → ExprFits k → {ts rest : List Terminal} → Says (show_lookup sign.Size m k x) ts rest → Derives (StepKind I) said_step (size m k x) ts rest
unfolding StepKind
size_spelled inner m k x fit_m fit_k h =
    let y = lookup_spelled sign.Size step.Size size said-Size m k x fit_m fit_k h in
    record { raw = y.raw; spelled = the_other (the_other (the_other (the_other (the_other (the_other (the_other (the_one y.spelled))))))); is = y.is }

pub total_spelled : (I : Spelled RawBlock) (m k : Plain) (x : ℕ) → ExprFits m → ExprFits k → {ts rest : List Terminal} → Says (show_lookup sign.Total m k x) ts rest → Derives (StepKind I) said_step (total m k x) ts rest
unfolding StepKind
total_spelled inner m k x fit_m fit_k h =
    let y = lookup_spelled sign.Total step.Total total said-Total m k x fit_m fit_k h in
    record { raw = y.raw; spelled = the_other (the_other (the_other (the_other (the_other (the_other (the_other (the_other (the_one y.spelled)))))))); is = y.is }

pub cong_spelled : (I : Spelled RawBlock) (m j k : Plain) (x : ℕ) → ExprFits m → ExprFits j → ExprFits k → {ts rest : List Terminal} → Says (one sign.Cong ++ show_expr m ++ one sign.Comma ++ show_expr j ++ one sign.Comma ++ show_expr k ++ show_as x ++ one sign.Semicolon) ts rest
    → Derives (StepKind I) said_step (cong m j k x) ts rest
unfolding StepKind Cong
cong_spelled inner m j k x fit_m fit_j fit_k {rest = rest} h =
    let n7 = parted (one sign.Cong ++ show_expr m ++ one sign.Comma ++ show_expr j ++ one sign.Comma ++ show_expr k ++ show_as x) (one sign.Semicolon) h in
    let n6 = parted (one sign.Cong ++ show_expr m ++ one sign.Comma ++ show_expr j ++ one sign.Comma ++ show_expr k) (show_as x) n7.1 in
    let n5 = parted (one sign.Cong ++ show_expr m ++ one sign.Comma ++ show_expr j ++ one sign.Comma) (show_expr k) n6.1 in
    let n4 = parted (one sign.Cong ++ show_expr m ++ one sign.Comma ++ show_expr j) (one sign.Comma) n5.1 in
    let n3 = parted (one sign.Cong ++ show_expr m ++ one sign.Comma) (show_expr j) n4.1 in
    let n2 = parted (one sign.Cong ++ show_expr m) (one sign.Comma) n3.1 in
    let n1 = parted (one sign.Cong) (show_expr m) n2.1 in
    let s = the_sign n1.1 in
    let y = exprs.holds m fit_m n1.0 n2.0 n1.2 in
    let c = the_sign n2.2 in
    let z = exprs.holds j fit_j n3.0 n4.0 n3.2 in
    let d = the_sign n4.2 in
    let v = exprs.holds k fit_k n5.0 n6.0 n5.2 in
    let as_x = the_as x n6.2 in
    let e = the_sign n7.2 in
    let named : RawName = record { name = x; line = as_x.0 } in
    record {
      raw = step.Cong y.raw z.raw v.raw named;
      spelled = the_other (the_other (the_other (the_other (the_other (the_other (the_other (the_other (the_other (seq s.0 n1.0 s.1 (seq y.raw n2.0 y.spelled (seq c.0 n3.0 c.1 (seq z.raw n4.0 z.spelled (seq d.0 n5.0 d.1 (seq v.raw n6.0 v.spelled (seq named n7.0 as_x.1 (seq e.0 rest e.1 (yields _)))))))))))))))));
      is = said-Cong y.raw z.raw v.raw named ∙ (ap (λ w. cong w (plain z.raw) (plain v.raw) x) y.is ∙ (ap (λ w. cong m w (plain v.raw) x) z.is ∙ ap (λ w. cong m j w x) v.is));
    }
