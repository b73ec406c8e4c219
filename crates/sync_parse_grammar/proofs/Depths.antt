-- How deep parts of a text go, and where they fit a place.
use Rattle.std.proofs.Common.{◌≡◌, ℕ, suc, ◌-◌, ◌<◌, ◌≤◌, ℤ, List, [], ◌∷◌, map, max, refl, sym, ap, ◌∙◌, subst, arith}
use Rattle.sync_parse_exprs.specs.declared.raw_names.RawName.{RawName}
use Rattle.sync_parse_exprs.specs.declared.expressions.RawExpr.{RawExpr, fold-roll-RawExpr}
use Rattle.sync_parse_exprs.specs.declared.expressions.RawExprKind.{RawExprKind, fold-RawExprKind, fold-roll-RawExprKind, roll-RawExprKind}
use Rattle.sync_parse_exprs.specs.declared.expressions.RawExprKind.TheOpen.{RawExprKind-F}
use Rattle.sync_parse_exprs.specs.declared.expressions.RawExprKind.TheVariants as kind
use Rattle.sync_parse_exprs.specs.declared.expressions.RawExprKind.TheVariants.{rolls-Call}
use Rattle.sync_parse_exprs.specs.declared.expressions.Function.{Function}
use Rattle.sync_parse_exprs.specs.declared.expressions.Special.{Special}
use Rattle.sync_parse_exprs.specs.declared.expressions.Operator.{Operator}
use Rattle.sync_parse.specs.declared.scripts.RawHypName.{RawHypName}
use Rattle.sync_parse.specs.declared.scripts.RawPart.{RawPart}
use Rattle.sync_parse.specs.declared.scripts.RawBlock.{RawBlock, roll-RawBlock, fold-roll-RawBlock}
use Rattle.sync_parse.specs.declared.scripts.RawScriptStep.{RawScriptStep, roll-RawScriptStep, fold-RawScriptStep, fold-roll-RawScriptStep}
use Rattle.sync_parse.specs.declared.scripts.RawStepKind.{RawStepKind, fold-RawStepKind, fold-roll-RawStepKind, roll-RawStepKind}
use Rattle.sync_parse.specs.declared.scripts.RawStepKind.TheOpen.{RawStepKind-F}
use Rattle.sync_parse.specs.declared.scripts.RawStepKind.TheVariants as step
use Rattle.sync_parse.specs.declared.scripts.RawStepKind.TheVariants.{rolls-Same, rolls-Sum, rolls-Inst, rolls-Parts, rolls-Split, rolls-Cut, rolls-Read, rolls-Size, rolls-Total, rolls-Cong}
use Rattle.sync_parse_exprs.specs.Expressions.{placed}
use Rattle.sync_parse_grammar.specs.Shallow.{Depth, flat, with_both, with_all, in_brackets, with_run, Run, signs, Extent, single, longer, joined_extent, depth_in, kind_extent, extent_at, extent, expr_depth, step_kind_depth, block_depth_of, step_depth_of, block_depth}

-- ---- depths that fit

-- what may stand at a place with so many levels left
pub record Fits (left : ℕ) (d : Depth) : Type 0 where
  pub brackets : d.brackets < left
  pub longest : d.longest ≤ 64

pub fits_room : {left : ℕ} {d : Depth} → Fits left d → 0 < left
fits_room {left = left} {d = d} f = let p : d.brackets < left = f.brackets in omega (arith, p)

pub fits_flat : (left : ℕ) → 0 < left → Fits left flat
fits_flat left room = record { brackets = room; longest = omega arith }

pub fits_both : (left : ℕ) (a b : Depth) → Fits left a → Fits left b → Fits left (with_both a b)
fits_both left a b f g =
    let p : a.brackets < left = f.brackets in
    let q : b.brackets < left = g.brackets in
    let r : a.longest ≤ 64 = f.longest in
    let s : b.longest ≤ 64 = g.longest in
    record { brackets = grind (arith, p, q); longest = grind (arith, r, s) }

pub both_first : (left : ℕ) (a b : Depth) → Fits left (with_both a b) → Fits left a
both_first left a b f =
    let p : max a.brackets b.brackets < left = f.brackets in
    let r : max a.longest b.longest ≤ 64 = f.longest in
    record { brackets = grind (arith, p); longest = grind (arith, r) }

pub both_second : (left : ℕ) (a b : Depth) → Fits left (with_both a b) → Fits left b
both_second left a b f =
    let p : max a.brackets b.brackets < left = f.brackets in
    let r : max a.longest b.longest ≤ 64 = f.longest in
    record { brackets = grind (arith, p); longest = grind (arith, r) }

pub fits_within : (left : ℕ) (d : Depth) → Fits (left - 1) d → Fits left (in_brackets d)
fits_within left d f =
    let p : d.brackets < left - 1 = f.brackets in record { brackets = omega (arith, p); longest = f.longest }

pub within_fits : (left : ℕ) (d : Depth) → Fits left (in_brackets d) → Fits (left - 1) d
within_fits left d f =
    let p : suc d.brackets < left = f.brackets in record { brackets = omega (arith, p); longest = f.longest }

pub fits_run : (left n : ℕ) (d : Depth) → n ≤ 64 → Fits left d → Fits left (with_run n d)
fits_run left n d small f =
    let r : d.longest ≤ 64 = f.longest in record { brackets = f.brackets; longest = grind (arith, small, r) }

pub run_fits : (left n : ℕ) (d : Depth) → Fits left (with_run n d) → Fits left d
run_fits left n d f =
    let r : max n d.longest ≤ 64 = f.longest in record { brackets = f.brackets; longest = grind (arith, r) }

pub run_small : (left n : ℕ) (d : Depth) → Fits left (with_run n d) → n ≤ 64
run_small left n d f = let r : max n d.longest ≤ 64 = f.longest in grind (arith, r)

pub fits_is : (left : ℕ) {a b : Depth} → a ≡ b → Fits left b → Fits left a
fits_is left e f = subst (Fits left) (sym e) f

-- ---- lists

-- this holds of each
abbrev pub Each : {A : Type 0} → (A → Type 0) → List A → Type 0
Each S [] = Unit {0}
Each S (x ∷ xs) = S x × Each S xs

pub each_fits : {A : Type 0} (left : ℕ) (f : A → Depth) (xs : List A) → 0 < left → Each (λ x. Fits left (f x)) xs
    → Fits left (with_all (map f xs))
each_fits left f [] room h = fits_flat left room
each_fits left f (x ∷ xs) room h = fits_both left (f x) (with_all (map f xs)) h.0 (each_fits left f xs room h.1)

pub fits_each : {A : Type 0} (left : ℕ) (f : A → Depth) (xs : List A) → Fits left (with_all (map f xs))
    → Each (λ x. Fits left (f x)) xs
fits_each left f [] h = tt
fits_each left f (x ∷ xs) h =
    (both_first left (f x) (with_all (map f xs)) h, fits_each left f xs (both_second left (f x) (with_all (map f xs)) h))

-- ---- expressions

-- the extent of an expression of a kind
abbrev pub extent_of : RawExprKind → Extent
extent_of = fold-RawExprKind Extent Extent kind_extent extent_at

abbrev pub FitsKind : ℕ → RawExprKind → Type 0
FitsKind left x = Fits left (extent_of x).depth

abbrev pub FitsExpr : ℕ → RawExpr → Type 0
FitsExpr left e = Fits left (expr_depth e)

pub extent_placed : (x : RawExprKind) (line : ℕ) → extent (placed x line) ≡ extent_of x
extent_placed x line = fold-roll-RawExpr Extent Extent kind_extent extent_at (record { what = x; line = line })

pub fits_placed : (left : ℕ) (x : RawExprKind) (line : ℕ) → FitsKind left x → FitsExpr left (placed x line)
fits_placed left x line f = fits_is left (ap (λ (z : Extent). z.depth) (extent_placed x line)) f

pub placed_fits : (left : ℕ) (x : RawExprKind) (line : ℕ) → FitsExpr left (placed x line) → FitsKind left x
placed_fits left x line f = fits_is left (sym (ap (λ (z : Extent). z.depth) (extent_placed x line))) f

-- an expression of a kind that is no run and no chain, and goes so deep
pub record IsSingle (x : RawExprKind) (d : Depth) : Type 0 where
  pub is : extent_of x ≡ single d

-- one that is one sign or operator more than a part
pub record IsLonger (x : RawExprKind) (s : Run) (e : Extent) (d : Depth) : Type 0 where
  pub is : extent_of x ≡ longer s e d

pub of_number : (n : ℤ) → IsSingle (kind.Number n) flat
unfolding roll-RawExprKind denote.Hole.Carrier.roll
of_number n = record { is = fold-roll-RawExprKind Extent Extent kind_extent extent_at (RawExprKind-F.Number n) }

pub of_name : (x : RawName) → IsSingle (kind.Name x) flat
unfolding roll-RawExprKind denote.Hole.Carrier.roll
of_name x = record { is = fold-roll-RawExprKind Extent Extent kind_extent extent_at (RawExprKind-F.Name x) }

pub of_param : (line : ℕ) (x : RawName) → IsSingle (kind.Param line x) flat
unfolding roll-RawExprKind denote.Hole.Carrier.roll
of_param line x =
    record { is = fold-roll-RawExprKind Extent Extent kind_extent extent_at (RawExprKind-F.Param line x) }

pub of_nil : IsSingle kind.Nil flat
unfolding roll-RawExprKind denote.Hole.Carrier.roll
of_nil = record { is = fold-roll-RawExprKind Extent Extent kind_extent extent_at RawExprKind-F.Nil }

pub of_special : (w : Special) (line : ℕ) → IsSingle (kind.Special w line) flat
unfolding roll-RawExprKind denote.Hole.Carrier.roll
of_special w line =
    record { is = fold-roll-RawExprKind Extent Extent kind_extent extent_at (RawExprKind-F.Special w line) }

pub of_bracketed : (a : RawExpr) → IsSingle (kind.Bracketed a) (in_brackets (expr_depth a))
unfolding roll-RawExprKind denote.Hole.Carrier.roll
of_bracketed a = record { is = fold-roll-RawExprKind Extent Extent kind_extent extent_at (RawExprKind-F.Bracketed a) }

depths_in : (args : List RawExpr) → map depth_in (map extent args) ≡ map expr_depth args
depths_in [] = refl
depths_in (a ∷ args) = ap (λ (ds : List Depth). expr_depth a ∷ ds) (depths_in args)

pub of_call : (f : Function) (line : ℕ) (args : List RawExpr)
    → IsSingle (kind.Call f line args) (in_brackets (with_all (map expr_depth args)))
unfolding roll-RawExprKind denote.Hole.Carrier.roll
of_call f line args = record {
  is = ap extent_of (rolls-Call f line args) ∙ fold-roll-RawExprKind Extent Extent kind_extent extent_at (RawExprKind-F.Call f line args)
      ∙ ap (λ ds. single (in_brackets (with_all ds))) (depths_in args);
}

pub of_not : (a : RawExpr) → IsLonger (kind.Not a) signs (extent a) (expr_depth a)
unfolding roll-RawExprKind denote.Hole.Carrier.roll
of_not a = record { is = fold-roll-RawExprKind Extent Extent kind_extent extent_at (RawExprKind-F.Not a) }

pub of_minus : (a : RawExpr) → IsLonger (kind.Minus a) signs (extent a) (expr_depth a)
unfolding roll-RawExprKind denote.Hole.Carrier.roll
of_minus a = record { is = fold-roll-RawExprKind Extent Extent kind_extent extent_at (RawExprKind-F.Minus a) }

pub of_times : (n : ℤ) (a : RawExpr) → IsSingle (kind.Times n a) (expr_depth a)
unfolding roll-RawExprKind denote.Hole.Carrier.roll
of_times n a = record { is = fold-roll-RawExprKind Extent Extent kind_extent extent_at (RawExprKind-F.Times n a) }

pub of_two : (o : Operator) (a b : RawExpr) → extent_of (kind.Two o a b) ≡ joined_extent o (extent a) (extent b)
unfolding roll-RawExprKind denote.Hole.Carrier.roll
of_two o a b = fold-roll-RawExprKind Extent Extent kind_extent extent_at (RawExprKind-F.Two o a b)

-- it fits where its depth does
pub single_fits : (left : ℕ) (x : RawExprKind) (d : Depth) → IsSingle x d → Fits left d → FitsKind left x
single_fits left x d i f = fits_is left (ap (λ (z : Extent). z.depth) i.is) f

pub fits_single : (left : ℕ) (x : RawExprKind) (d : Depth) → IsSingle x d → FitsKind left x → Fits left d
fits_single left x d i f = fits_is left (sym (ap (λ (z : Extent). z.depth) i.is)) f

-- how many signs or operators the run or chain has that an expression of a kind is
abbrev pub run_of : Run → RawExprKind → ℕ
run_of r x = (extent_of x).run r

pub run_placed : (r : Run) (x : RawExprKind) (line : ℕ) → (extent (placed x line)).run r ≡ run_of r x
run_placed r x line = ap (λ (z : Extent). z.run r) (extent_placed x line)

-- ---- scripts

abbrev pub step_depth : RawScriptStep → Depth
step_depth = fold-RawScriptStep Depth Depth Depth step_kind_depth block_depth_of step_depth_of

-- the depth of a step of a kind
abbrev pub depth_of : RawStepKind → Depth
depth_of = fold-RawStepKind Depth Depth Depth step_kind_depth block_depth_of step_depth_of

abbrev pub FitsStepKind : ℕ → RawStepKind → Type 0
FitsStepKind left x = Fits left (depth_of x)

abbrev pub FitsStep : ℕ → RawScriptStep → Type 0
FitsStep left s = Fits left (step_depth s)

abbrev pub FitsBlock : ℕ → RawBlock → Type 0
FitsBlock left b = Fits left (block_depth b)

pub step_is : (x : RawStepKind) (line : ℕ)
    → step_depth (roll-RawScriptStep (record { what = x; line = line })) ≡ depth_of x
step_is x line =
    fold-roll-RawScriptStep Depth Depth Depth step_kind_depth block_depth_of step_depth_of (record { what = x; line = line })

pub block_is : (steps : List RawScriptStep) (line : ℕ)
    → block_depth (roll-RawBlock (record { steps = steps; end_line = line })) ≡ in_brackets (with_all (map step_depth steps))
block_is steps line =
    fold-roll-RawBlock Depth Depth Depth step_kind_depth block_depth_of step_depth_of (record { steps = steps; end_line = line })

pub of_same : depth_of step.Same ≡ flat
unfolding roll-RawStepKind denote.Hole.Carrier.roll
of_same =
    ap depth_of rolls-Same ∙ fold-roll-RawStepKind Depth Depth Depth step_kind_depth block_depth_of step_depth_of RawStepKind-F.Same

pub of_sum : (ps : List RawPart) → depth_of (step.Sum ps) ≡ flat
unfolding roll-RawStepKind denote.Hole.Carrier.roll
of_sum ps =
    ap depth_of (rolls-Sum ps) ∙ fold-roll-RawStepKind Depth Depth Depth step_kind_depth block_depth_of step_depth_of (RawStepKind-F.Sum ps)

pub of_inst : (h : RawHypName) (es : List RawExpr) (x : RawName)
    → depth_of (step.Inst h es x) ≡ in_brackets (with_all (map expr_depth es))
unfolding roll-RawStepKind denote.Hole.Carrier.roll
of_inst h es x =
    ap depth_of (rolls-Inst h es x) ∙ fold-roll-RawStepKind Depth Depth Depth step_kind_depth block_depth_of step_depth_of (RawStepKind-F.Inst h es x)

pub of_parts : (h : RawHypName) (x y : RawName) → depth_of (step.Parts h x y) ≡ flat
unfolding roll-RawStepKind denote.Hole.Carrier.roll
of_parts h x y =
    ap depth_of (rolls-Parts h x y) ∙ fold-roll-RawStepKind Depth Depth Depth step_kind_depth block_depth_of step_depth_of (RawStepKind-F.Parts h x y)

pub of_split : (h : RawHypName) (x : RawName) (b c : RawBlock)
    → depth_of (step.Split h x b c) ≡ with_both (block_depth b) (block_depth c)
unfolding roll-RawStepKind denote.Hole.Carrier.roll
of_split h x b c =
    ap depth_of (rolls-Split h x b c) ∙ fold-roll-RawStepKind Depth Depth Depth step_kind_depth block_depth_of step_depth_of (RawStepKind-F.Split h x b c)

pub of_cut : (e : RawExpr) (x : RawName) (b : RawBlock)
    → depth_of (step.Cut e x b) ≡ with_both (expr_depth e) (block_depth b)
unfolding roll-RawStepKind denote.Hole.Carrier.roll
of_cut e x b =
    ap depth_of (rolls-Cut e x b) ∙ fold-roll-RawStepKind Depth Depth Depth step_kind_depth block_depth_of step_depth_of (RawStepKind-F.Cut e x b)

pub of_read : (m k : RawExpr) (x : RawName) → depth_of (step.Read m k x) ≡ with_both (expr_depth m) (expr_depth k)
unfolding roll-RawStepKind denote.Hole.Carrier.roll
of_read m k x =
    ap depth_of (rolls-Read m k x) ∙ fold-roll-RawStepKind Depth Depth Depth step_kind_depth block_depth_of step_depth_of (RawStepKind-F.Read m k x)

pub of_size : (m k : RawExpr) (x : RawName) → depth_of (step.Size m k x) ≡ with_both (expr_depth m) (expr_depth k)
unfolding roll-RawStepKind denote.Hole.Carrier.roll
of_size m k x =
    ap depth_of (rolls-Size m k x) ∙ fold-roll-RawStepKind Depth Depth Depth step_kind_depth block_depth_of step_depth_of (RawStepKind-F.Size m k x)

pub of_total : (m k : RawExpr) (x : RawName) → depth_of (step.Total m k x) ≡ with_both (expr_depth m) (expr_depth k)
unfolding roll-RawStepKind denote.Hole.Carrier.roll
of_total m k x =
    ap depth_of (rolls-Total m k x) ∙ fold-roll-RawStepKind Depth Depth Depth step_kind_depth block_depth_of step_depth_of (RawStepKind-F.Total m k x)

pub of_cong : (m j k : RawExpr) (x : RawName)
    → depth_of (step.Cong m j k x) ≡ with_both (expr_depth m) (with_both (expr_depth j) (expr_depth k))
unfolding roll-RawStepKind denote.Hole.Carrier.roll
of_cong m j k x =
    ap depth_of (rolls-Cong m j k x) ∙ fold-roll-RawStepKind Depth Depth Depth step_kind_depth block_depth_of step_depth_of (RawStepKind-F.Cong m j k x)
