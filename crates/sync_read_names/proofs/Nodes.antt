-- The nodes of expressions and of their parts.
use Rattle.std.proofs.Common.{◌≡◌, ℕ, zero, suc, ◌+◌, ◌<◌, ◌≤◌, List, [], ◌∷◌, length, map, get_or, slice_get, min, Some, refl, sym, ap, ◌∙◌, arith}
use Rattle.sync_parse_exprs.specs.declared.expressions.RawExpr.{RawExpr, fold_out-RawExpr}
use Rattle.sync_parse_exprs.specs.declared.expressions.RawExprKind.{RawExprKind, fold-RawExprKind, fold-roll-RawExprKind, roll-RawExprKind}
use Rattle.sync_parse_exprs.specs.declared.expressions.RawExprKind.TheViews.{out-RawExpr}
use Rattle.sync_parse_exprs.specs.declared.expressions.RawExprKind.TheOpen.{RawExprKind-F}
use Rattle.sync_parse_exprs.specs.declared.expressions.Function.{Function}
use Rattle.sync_parse_exprs.specs.declared.expressions.Function.TheVariants as functions
use Rattle.sync_parse_exprs.specs.declared.expressions.RawExprKind.TheVariants as kinds
use Rattle.sync_parse_exprs.specs.declared.expressions.RawExprKind.TheVariants.{rolls-Call}
use Rattle.sync_terms.specs.Trees.{most_nodes}
use Rattle.sync_read_names.specs.Exprs.{Reading, reading, all_nodes, nodes_at, call_nodes as nodes_of_call, counted_call, Kind, kind_reading, expr_reading}

abbrev kind : RawExprKind → Kind
kind = fold-RawExprKind Kind Reading kind_reading expr_reading

-- an expression of a kind that is made of a layer
layer_is : (e : RawExpr) (k : RawExprKind) → (out-RawExpr e).what ≡ k → (reading e).nodes ≡ (kind k (out-RawExpr e).line).nodes
layer_is e k is =
    ap (λ (r : Reading). r.nodes) (fold_out-RawExpr Kind Reading kind_reading expr_reading e)
    ∙ ap (λ (k : RawExprKind). (kind k (out-RawExpr e).line).nodes) is

pub call_nodes : (e : RawExpr) (f : Function) (line : ℕ) (args : List RawExpr) → (out-RawExpr e).what ≡ kinds.Call f line args → (reading e).nodes ≡ nodes_of_call f (map reading args)
call_nodes e f line args is =
    layer_is e (roll-RawExprKind (RawExprKind-F.Call f line args)) (is ∙ sym (rolls-Call f line args))
    ∙ ap (λ (k : Kind). (k (out-RawExpr e).line).nodes) (fold-roll-RawExprKind Kind Reading kind_reading expr_reading (RawExprKind-F.Call f line args))

-- counted as one more than a term may have, or exactly
pub counted_min : (f : Function) (n : ℕ) → min (counted_call f (min n (most_nodes + 1))) (most_nodes + 1) ≡ min (counted_call f n) (most_nodes + 1)
counted_min functions.Held n = refl
counted_min functions.Get n = omega arith
counted_min functions.Has n = omega arith
counted_min functions.Size n = omega arith
counted_min functions.Sum n = omega arith
counted_min functions.Put n = omega arith
counted_min functions.Del n = omega arith
counted_min functions.Bump n = omega arith

-- ---- arguments

pub one_reading : (es : List RawExpr) (i : ℕ) (x : RawExpr) → x ≡ get_or es i x → i < length es → slice_get (map reading es) i ≡ Some (reading x)
one_reading [] i x is below = absurd (omega arith)
one_reading (e ∷ es) zero x is below = ap (λ y. Some (reading y)) (sym is)
one_reading (e ∷ es) (suc i) x is below = one_reading es i x is (omega arith)

below_all : (rs : List Reading) (i : ℕ) → nodes_at rs i ≤ all_nodes rs
unfolding all_nodes
below_all [] i = omega arith
below_all (r ∷ rs) zero = omega arith
below_all (r ∷ rs) (suc i) = let h = below_all rs i in omega (arith, h)

pub one_at : (es : List RawExpr) (i : ℕ) (x : RawExpr) → x ≡ get_or es i x → i < length es → nodes_at (map reading es) i ≡ (reading x).nodes
one_at [] i x is below = absurd (omega arith)
one_at (e ∷ es) zero x is below = ap (λ y. (reading y).nodes) (sym is)
one_at (e ∷ es) (suc i) x is below = one_at es i x is (omega arith)

pub one_small : (es : List RawExpr) (i : ℕ) (x : RawExpr) → all_nodes (map reading es) ≤ most_nodes → x ≡ get_or es i x → i < length es → (reading x).nodes ≤ most_nodes
one_small es i x small is below = omega (arith, below_all (map reading es) i, one_at es i x is below)

pub three_small : (rs : List Reading) → nodes_at rs 0 + nodes_at rs 1 + nodes_at rs 2 ≤ all_nodes rs
unfolding all_nodes
three_small [] = omega arith
three_small (a ∷ []) = omega arith
three_small (a ∷ b ∷ []) = omega arith
three_small (a ∷ b ∷ c ∷ rs) = omega arith
