-- Maps of numbers within signed 128 bits: what puts and removals leave of that.
use Rattle.std.proofs.Common.{◌≡◌, ℤ, true, false, Option, Some, None, unwrap_or, sym, ap, subst, ◌∙◌, if◌then◌else◌, cond}
use Rattle.std.specs.Prelude.{FitsSigned}
use Rattle.std.specs.Int.{w128}
use Rattle.std.specs.Ordering.{int_eq, int_cmp}
use Rattle.std.specs.Cmp.{int_cmp_total}
use Rattle.std.specs.FinMap.{get-empty, get-remove}
use Rattle.std.specs.FinMap as finmap
use Rattle.sync_entries.specs.Narrow.{Map, HasNarrowValues}
use Rattle.sync_entries.proofs.Maps.{get-put}

same_some : (v n : ℤ) → Some v ≡ Some n → v ≡ n
same_some v n e = ap (λ (o : Option ℤ). unwrap_or o v) e

no_value : (n : ℤ) → None ≡ Some n → ⊥
no_value n e = cc

pub narrow-nil : HasNarrowValues finmap.empty
narrow-nil k n e = let none : finmap.get finmap.empty k ≡ None = get-empty int_cmp k in absurd (no_value n (sym none ∙ e))

pub narrow-put : (m : Map) (k v : ℤ) → HasNarrowValues m → FitsSigned w128 v → HasNarrowValues (finmap.insert m k v)
narrow-put m k v h fits q n e =
    elim (int_eq q k) as (λ b. (if b then Some v else finmap.get m q) ≡ Some n → FitsSigned w128 n) [
      | true ↦ λ s. subst (FitsSigned w128) (same_some v n s) fits
      | false ↦ λ s. h q n s
    ] (sym (get-put m k v q) ∙ e)

pub narrow-del : (m : Map) (k : ℤ) → HasNarrowValues m → HasNarrowValues (finmap.remove m k)
narrow-del m k h q n e =
    elim (int_eq q k) as (λ b. (cond b None (finmap.get m q)) ≡ Some n → FitsSigned w128 n) [
      | true ↦ λ s. absurd (no_value n s)
      | false ↦ λ s. h q n s
    ] (sym (get-remove int_cmp_total m k q) ∙ e)
