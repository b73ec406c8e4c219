use Rattle.sync_terms.specs.Trees.{Sub}
use Rattle.sync_terms.specs.Stored.{tree}
use Rattle.std.proofs.lemmas.Result.{err_from_is_err_and}
use Rattle.sync_kernel.proofs.LineRows.{sub_wide, strict_line, strict_narrow, strict_width, plain_line, plain_narrow, sub_line, sub_narrow}
use Rattle.sync_kernel.proofs.rows.Shape.line.Goals as goal

pub returns-in_err-line-clause-width : goal.returns-in_err-line-clause-width
returns-in_err-line-clause-width c =
    let p = err_from_is_err_and c.from_residual-in_err-line.result c.from_residual-in_err-line.ensures.1 in
    λ e n. sub_wide c.args.terms.now c.args.self.strict c.args.self.left c.args.self.right c.in_ok-left.left c.in_ok-right.right c.in_ok-left.ensures.line c.in_ok-right.ensures.line (c.changed.ensures.width (cc)) n

pub returns-then-self-clause-line : goal.returns-then-self-clause-line
returns-then-self-clause-line c =
    let h = c.args.self in
    let i = sub_line c.args.terms.now h.left h.right c.in_ok-left.left c.in_ok-right.right c.in_ok-line.line c.in_ok-left.ensures.line c.in_ok-right.ensures.line c.in_ok-line.ensures.changed in
    let n = sub_narrow c.args.terms.now h.left h.right c.in_ok-left.left c.in_ok-right.right c.in_ok-left.ensures.line c.in_ok-right.ensures.line c.in_ok-left.ensures.narrow c.in_ok-right.ensures.narrow c.in_ok-line.ensures.fits in
    strict_line c.args.terms.now (Sub (tree c.args.terms.now h.left) (tree c.args.terms.now h.right)) c.in_ok-line.line c.number.result i n c.number.ensures h.strict c.changed-then-self-2.result c.if-self.true c.changed-then-self-2.ensures.changed

pub returns-then-self-clause-narrow : goal.returns-then-self-clause-narrow
returns-then-self-clause-narrow c =
    let h = c.args.self in
    let i = sub_line c.args.terms.now h.left h.right c.in_ok-left.left c.in_ok-right.right c.in_ok-line.line c.in_ok-left.ensures.line c.in_ok-right.ensures.line c.in_ok-line.ensures.changed in
    let n = sub_narrow c.args.terms.now h.left h.right c.in_ok-left.left c.in_ok-right.right c.in_ok-left.ensures.line c.in_ok-right.ensures.line c.in_ok-left.ensures.narrow c.in_ok-right.ensures.narrow c.in_ok-line.ensures.fits in
    strict_narrow c.args.terms.now (Sub (tree c.args.terms.now h.left) (tree c.args.terms.now h.right)) c.in_ok-line.line c.number.result i n c.number.ensures h.strict c.changed-then-self-2.result c.if-self.true c.changed-then-self-2.ensures.fits

pub returns-then-self-clause-width : goal.returns-then-self-clause-width
returns-then-self-clause-width c =
    let h = c.args.self in
    let i = sub_line c.args.terms.now h.left h.right c.in_ok-left.left c.in_ok-right.right c.in_ok-line.line c.in_ok-left.ensures.line c.in_ok-right.ensures.line c.in_ok-line.ensures.changed in
    let n = sub_narrow c.args.terms.now h.left h.right c.in_ok-left.left c.in_ok-right.right c.in_ok-left.ensures.line c.in_ok-right.ensures.line c.in_ok-left.ensures.narrow c.in_ok-right.ensures.narrow c.in_ok-line.ensures.fits in
    λ e w. strict_width c.args.terms.now (Sub (tree c.args.terms.now h.left) (tree c.args.terms.now h.right)) c.in_ok-line.line c.number.result i n c.number.ensures h.strict c.if-self.true (c.changed-then-self-2.ensures.width e) w

pub returns-clause-line : goal.returns-clause-line
returns-clause-line c =
    let h = c.args.self in
    plain_line c.args.terms.now (Sub (tree c.args.terms.now h.left) (tree c.args.terms.now h.right)) h.strict c.in_ok-line.line c.if-self.false
    (sub_line c.args.terms.now h.left h.right c.in_ok-left.left c.in_ok-right.right c.in_ok-line.line c.in_ok-left.ensures.line c.in_ok-right.ensures.line c.in_ok-line.ensures.changed)

pub returns-clause-narrow : goal.returns-clause-narrow
returns-clause-narrow c =
    let h = c.args.self in
    plain_narrow (Sub (tree c.args.terms.now h.left) (tree c.args.terms.now h.right)) h.strict c.if-self.false
    (sub_narrow c.args.terms.now h.left h.right c.in_ok-left.left c.in_ok-right.right c.in_ok-left.ensures.line c.in_ok-right.ensures.line c.in_ok-left.ensures.narrow c.in_ok-right.ensures.narrow c.in_ok-line.ensures.fits)
