-- Room for a list is room for the lists of its forms.
use Rattle.std.proofs.Common.{◌≡◌, ℕ, suc, ◌+◌, ◌<◌, ◌≤◌, List, length, map, max, get_or, sym, ap, ◌∙◌, subst, arith}
use Rattle.std.proofs.Math.Nat.{le-max_left, le-max_right}
use Rattle.sync_thread.specs.declared.operands.Calc.{Calc}
use Rattle.sync_thread.specs.declared.operands.Cond.{Cond}
use Rattle.sync_thread.specs.declared.program.CodeStmt.{CodeStmt}
use Rattle.sync_thread.specs.declared.program.CodeStmt.TheVariants as made
use Rattle.sync_thread_places.specs.declared.standings.Outcome.{Outcome}
use Rattle.sync_thread_places.specs.declared.standings.Standing.{Standing}
use Rattle.sync_thread_places.specs.Places.{most, nesting, width}
use Rattle.sync_thread_places.specs.Runs.{HasRoom, KeepsRoom}
use Rattle.sync_thread_places.proofs.Tables.{most_of}
use Rattle.sync_thread_places.proofs.Trees.{nesting_if, nesting_loop, width_if, width_loop, width_set}

pub set_room : (list : List CodeStmt) (depth at x : ℕ) (c : Calc) (s : CodeStmt) (z : Standing) → HasRoom list depth z
    → at < length list → s ≡ get_or list at s → s ≡ made.Set x c → x < length z.locals.items
set_room list depth at x c s z room within is same =
    let e : width s ≡ suc x = ap width same ∙ width_set x c in
    omega (arith, room.1, most_of width list at s within is, e)

pub yes_room : (list : List CodeStmt) (depth at : ℕ) (c : Cond) (p q : List CodeStmt) (s : CodeStmt) (z : Standing) → HasRoom list depth z
    → at < length list → s ≡ get_or list at s → s ≡ made.If c p q → HasRoom p (depth + 1) z
yes_room list depth at c p q s z room within is same =
    let n : nesting s ≡ suc (max (most (map nesting p)) (most (map nesting q))) = ap nesting same ∙ nesting_if c p q in
    let w : width s ≡ max (most (map width p)) (most (map width q)) = ap width same ∙ width_if c p q in (
      omega (arith, room.0, most_of nesting list at s within is, n, le-max_left (most (map nesting p)) (most (map nesting q))),
      omega (arith, room.1, most_of width list at s within is, w, le-max_left (most (map width p)) (most (map width q))),
    )

pub no_room : (list : List CodeStmt) (depth at : ℕ) (c : Cond) (p q : List CodeStmt) (s : CodeStmt) (z : Standing) → HasRoom list depth z
    → at < length list → s ≡ get_or list at s → s ≡ made.If c p q → HasRoom q (depth + 1) z
no_room list depth at c p q s z room within is same =
    let n : nesting s ≡ suc (max (most (map nesting p)) (most (map nesting q))) = ap nesting same ∙ nesting_if c p q in
    let w : width s ≡ max (most (map width p)) (most (map width q)) = ap width same ∙ width_if c p q in (
      omega (arith, room.0, most_of nesting list at s within is, n, le-max_right (most (map nesting p)) (most (map nesting q))),
      omega (arith, room.1, most_of width list at s within is, w, le-max_right (most (map width p)) (most (map width q))),
    )

pub body_room : (list : List CodeStmt) (depth at : ℕ) (b : List CodeStmt) (s : CodeStmt) (z : Standing) → HasRoom list depth z
    → at < length list → s ≡ get_or list at s → s ≡ made.Loop b → HasRoom b (depth + 1) z
body_room list depth at b s z room within is same =
    let n : nesting s ≡ suc (most (map nesting b)) = ap nesting same ∙ nesting_loop b in
    let w : width s ≡ most (map width b) = ap width same ∙ width_loop b in (
      omega (arith, room.0, most_of nesting list at s within is, n),
      omega (arith, room.1, most_of width list at s within is, w),
    )

-- room for a list that is the same one
pub same_room : (l k : List CodeStmt) (depth : ℕ) (z : Standing) → l ≡ k → HasRoom k depth z → HasRoom l depth z
same_room l k depth z same room = subst (λ x. HasRoom x depth z) (sym same) room

-- and in a standing whose tables are as long
pub later_room : (l : List CodeStmt) (depth deep : ℕ) (old new : Standing) (outcome : Outcome) → KeepsRoom deep old new outcome
    → HasRoom l depth old → HasRoom l depth new
later_room l depth deep old new outcome keeps room = (omega (arith, room.0, keeps.hops), omega (arith, room.1, keeps.locals))
