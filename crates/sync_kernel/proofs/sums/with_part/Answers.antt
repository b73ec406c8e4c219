use Rattle.std.proofs.Common.{rules, ◌∙◌, ℤ, Ok, Err, sym, ap, subst}
use Rattle.std.specs.Prelude.{FitsSigned}
use Rattle.std.specs.Int.{w128}
use Rattle.std.proofs.lemmas.Int.{to_z-of_z}
use mir.Val.{to_z, of_z}
use Rattle.sync_linear.specs.declared.changes.Change.TheVariants as change
use Rattle.sync_linear.specs.Lines.{IsChanged, LineFits}
use Rattle.sync_kernel_facts.specs.declared.branches.Known.{Known}
use Rattle.std.proofs.Common.{Option, Some}
use Rattle.sync_kernel.specs.Steps.{with_part, with_row}
use Rattle.sync_kernel.specs.Shapes.{row_shaped}
use Rattle.sync_kernel.specs.Holding.{IsKnown}
use Rattle.std.specs.Option.{option_copied}
use Rattle.sync_kernel_facts.specs.Literals.{literal_form}
use Rattle.sync_kernel.specs.Rows.{row_of}
use Rattle.sync_kernel.proofs.Keeping.{row_line, shape_row}
use Rattle.sync_kernel.proofs.Renewing.{line_still}
use Rattle.sync_kernel.proofs.Parts.{part_is, line_stops, sum_stops, sum_goes, as_part}
use Rattle.sync_kernel.proofs.sums.with_part.Goals as goal

pub returns-in-Err-clause-part : goal.returns-in-Err-clause-part
returns-in-Err-clause-part c =
    let r = row_shaped c.args.terms.now c.in-Some-shape_known.shape in
    λ sum o i h.
    let k = subst (λ (x : Option Known). IsKnown c.args.terms.now x o) c.in-Some.is h in
    as_part c.args.terms.now c.args.line (Err c.too_wide.result) (with_part o sum c.args.part.now) (with_row (Some r) sum c.args.part.now)
    (part_is c.args.terms.now c.in-Some.known o c.shape_known.result c.in-Some-shape_known.shape sum c.args.part.now k c.shape_known.ensures.row c.in-Some-shape_known.is)
    (line_stops c.args.terms.now c.args.line r sum c.args.part.now c.in-Err.stop c.too_wide.result c.too_wide.ensures (λ e. c.in-Err.ensures.width (ap Err e)) (sym c.turned.ensures ∙ c.if-turned.false))

pub returns-in-Ok-clause-part : goal.returns-in-Ok-clause-part
returns-in-Ok-clause-part c =
    let s = c.args.terms.now in
    let says = c.in-Some.known.says in
    let row = c.unwrap-row.result.now in
    let r = row_shaped s c.in-Some-shape_known.shape in
    let f : FitsSigned w128 c.args.part.now.times = search rules in
    let same = to_z-of_z w128 c.args.part.now.times f in
    let kept = row_line s (row_of (literal_form s says)) r row (shape_row s c.in-Some.known c.shape_known.result c.in-Some-shape_known.shape c.shape_known.ensures.row c.in-Some-shape_known.is)
    (line_still s says row c.in-Some-shape_known.ensures.shared (c.keep.ensures.lines says row (sym c.get.ensures.value ∙ ap option_copied c.unwrap-row.ensures))) in
    λ sum o i h.
    let k = subst (λ (x : Option Known). IsKnown s x o) c.in-Some.is h in
    as_part s c.args.line (Ok (record { total = c.in-Ok.total; used = record { times = to_z w128 (of_z w128 c.args.part.now.times); kind = c.in-Some-shape_known.shape.kind } })) (with_part o sum c.args.part.now) (with_row (Some r) sum c.args.part.now)
    (part_is s c.in-Some.known o c.shape_known.result c.in-Some-shape_known.shape sum c.args.part.now k c.shape_known.ensures.row c.in-Some-shape_known.is)
    (sum_goes s c.args.line r sum c.args.part.now (record { total = c.in-Ok.total; used = record { times = to_z w128 (of_z w128 c.args.part.now.times); kind = c.in-Some-shape_known.shape.kind } }) c.args.total row i kept.0 kept.1
    (subst (λ (z : ℤ). IsChanged (change.Times z) c.args.total row c.in-Ok.total) same c.in-Ok.ensures.changed)
    (subst (λ (z : ℤ). LineFits (change.Times z) c.args.total row) same c.in-Ok.ensures.fits)
    (ap (λ (z : ℤ). record { times = z; kind = r.kind }) same)
    (sym c.turned.ensures ∙ c.if-turned.false))

pub returns-in-Err-changed-clause-part : goal.returns-in-Err-changed-clause-part
returns-in-Err-changed-clause-part c =
    let s = c.args.terms.now in
    let says = c.in-Some.known.says in
    let row = c.unwrap-row.result.now in
    let r = row_shaped s c.in-Some-shape_known.shape in
    let f : FitsSigned w128 c.args.part.now.times = search rules in
    let same = to_z-of_z w128 c.args.part.now.times f in
    let kept = row_line s (row_of (literal_form s says)) r row (shape_row s c.in-Some.known c.shape_known.result c.in-Some-shape_known.shape c.shape_known.ensures.row c.in-Some-shape_known.is)
    (line_still s says row c.in-Some-shape_known.ensures.shared (c.keep.ensures.lines says row (sym c.get.ensures.value ∙ ap option_copied c.unwrap-row.ensures))) in
    λ sum o i h.
    let k = subst (λ (x : Option Known). IsKnown s x o) c.in-Some.is h in
    as_part s c.args.line (Err c.too_wide-in-Err-changed.result) (with_part o sum c.args.part.now) (with_row (Some r) sum c.args.part.now)
    (part_is s c.in-Some.known o c.shape_known.result c.in-Some-shape_known.shape sum c.args.part.now k c.shape_known.ensures.row c.in-Some-shape_known.is)
    (sum_stops s c.args.line r sum c.args.part.now c.in-Err-changed.stop c.too_wide-in-Err-changed.result c.args.total row i kept.0 c.too_wide-in-Err-changed.ensures
    (λ e l. c.in-Err-changed.ensures.width (ap Err e) (subst (λ (z : ℤ). LineFits (change.Times z) c.args.total row) (sym same) l))
    (sym c.turned.ensures ∙ c.if-turned.false))
