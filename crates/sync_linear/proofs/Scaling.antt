-- Lines whose numbers are all multiplied in place.
use native.Mathlib.Nat.{mul-suc}
use Rattle.std.proofs.Common.{zero, suc, ◌≡◌, ◌≢◌, ℕ, ℤ, pos, ◌*ℤ◌, map, Option, None, Some, unwrap_or, refl, sym, ap, subst, ◌∙◌, arith}
use Rattle.std.specs.Prelude.{FitsSigned, All, unsigned_abs, ◌*◌}
use Rattle.std.specs.Int.{w128, int_wrapping_mul}
use Rattle.std.specs.Option.{IfSome, option_map}
use Rattle.std.specs.Ordering.{nat_cmp}
use Rattle.std.specs.BTreeMap.{is_at}
use Rattle.std.specs.Map.{lookup, keys_of, values_of}
use Rattle.std.specs.List.Sorted.{IsStrictlySortedBy}
use mir.Val.{to_z, of_z}
use Rattle.std.proofs.lemmas.Int.{ints, to_z-of_z, wrapping_mul_is, int_wrap_fits, unsigned_abs-mul}
use Rattle.std.proofs.lemmas.Cmp.{eq_by_cmp_equiv, nat_cmp_total}
use Rattle.std.proofs.lemmas.Map.Keys.{IsDistinct-from_sorted}
use Rattle.std.proofs.lemmas.Map.Made.{lookup-map_values}
use Rattle.std.proofs.lemmas.Map.Views.{IfSome-lookup_from_All, All-values_from_lookup}
use Rattle.sync_linear.specs.declared.changes.Change.TheVariants.{Times}
use Rattle.sync_linear.specs.Lines.{Atoms, Line, times, HasNoZero, IsLine, IsChanged, LineFits}
use Rattle.sync_linear.proofs.Ring.{times_zero}
use Rattle.sync_linear.proofs.Whole.{line_of_zero, zero_fits, plus_zero, line_made}

pub none_fits : (c : ℤ) → FitsSigned w128 (c *ℤ pos 0)
none_fits c = subst (FitsSigned w128) (sym (times_zero c)) zero_fits

-- the products of all numbers fit, read off the entries and off the look-ups
fits_found : (c : ℤ) (o : Option ℤ) → IfSome o (λ n. FitsSigned w128 (c *ℤ n)) → FitsSigned w128 (c *ℤ unwrap_or o (pos 0))
fits_found c None h = none_fits c
fits_found c (Some n) h = h

found_fits : (c : ℤ) (o : Option ℤ) → FitsSigned w128 (c *ℤ unwrap_or o (pos 0)) → IfSome o (λ n. FitsSigned w128 (c *ℤ n))
found_fits c None h = tt
found_fits c (Some n) h = h

pub each_fits : (c : ℤ) (es : Atoms) → All (λ n. FitsSigned w128 (c *ℤ n)) (values_of es) → (q : ℕ) → FitsSigned w128 (c *ℤ times es q)
each_fits c es h q = fits_found c (lookup (is_at (nat_cmp q)) es) (IfSome-lookup_from_All (λ n. FitsSigned w128 (c *ℤ n)) (is_at (nat_cmp q)) es h)

pub values_fit : (c : ℤ) (es : Atoms) → IsStrictlySortedBy nat_cmp (keys_of es) → ((q : ℕ) → FitsSigned w128 (c *ℤ times es q)) → All (λ n. FitsSigned w128 (c *ℤ n)) (values_of es)
values_fit c es o h =
    All-values_from_lookup (eq_by_cmp_equiv nat_cmp_total) (λ n. FitsSigned w128 (c *ℤ n)) es (IsDistinct-from_sorted nat_cmp (keys_of es) o)
    (λ q. found_fits c (lookup (is_at (nat_cmp q)) es) (h q))

-- a number that was multiplied
product : (c n : ℤ) → FitsSigned w128 c → FitsSigned w128 n → FitsSigned w128 (c *ℤ n) → int_wrapping_mul w128 c n ≡ c *ℤ n
product c n f g h = wrapping_mul_is w128 c n f g ∙ int_wrap_fits w128 (c *ℤ n) h

abs_zero : (z : ℤ) → unsigned_abs z ≡ 0 → z ≡ pos 0
abs_zero z e = omega (arith, ints)

nat_divisor : (a b : ℕ) → a ≢ 0 → a * b ≡ 0 → b ≡ 0
nat_divisor a zero ne e = refl
nat_divisor a (suc b) ne e = absurd (ne (omega (arith, mul-suc a b, e)))

no_divisor : (c n : ℤ) → c ≢ pos 0 → c *ℤ n ≡ pos 0 → n ≡ pos 0
no_divisor c n ne e = abs_zero n (nat_divisor (unsigned_abs c) (unsigned_abs n) (λ z. ne (abs_zero c z)) (sym (unsigned_abs-mul c n) ∙ ap unsigned_abs e))

scaled_found : (c : ℤ) (o : Option ℤ) → FitsSigned w128 c → FitsSigned w128 (unwrap_or o (pos 0)) → FitsSigned w128 (c *ℤ unwrap_or o (pos 0))
    → unwrap_or (option_map (int_wrapping_mul w128 c) o) (pos 0) ≡ c *ℤ unwrap_or o (pos 0)
scaled_found c None f g h = sym (times_zero c)
scaled_found c (Some n) f g h = product c n f g h

found_nonzero : (c : ℤ) (o : Option ℤ) → FitsSigned w128 c → FitsSigned w128 (unwrap_or o (pos 0)) → FitsSigned w128 (c *ℤ unwrap_or o (pos 0))
    → c ≢ pos 0 → o ≢ Some (pos 0) → option_map (int_wrapping_mul w128 c) o ≢ Some (pos 0)
found_nonzero c None f g h nc ne e = absurd (cc)
found_nonzero c (Some n) f g h nc ne e = ne (ap Some (no_divisor c n nc (sym (product c n f g h) ∙ ap (λ (x : Option ℤ). unwrap_or x (pos 0)) e)))

module _ (c : ℤ) (old new : Atoms) (fits : FitsSigned w128 c) (made : new ≡ map (λ (e : ℕ × ℤ). (e.0, int_wrapping_mul w128 c e.1)) old)
    (within : (q : ℕ) → FitsSigned w128 (times old q)) (each : (q : ℕ) → FitsSigned w128 (c *ℤ times old q)) where
  found : (q : ℕ) → lookup (is_at (nat_cmp q)) new ≡ option_map (int_wrapping_mul w128 c) (lookup (is_at (nat_cmp q)) old)
  found q = ap (lookup (is_at (nat_cmp q))) made ∙ lookup-map_values (int_wrapping_mul w128 c) (is_at (nat_cmp q)) old

  pub scaled_times : (q : ℕ) → times new q ≡ c *ℤ times old q
  scaled_times q = ap (λ (o : Option ℤ). unwrap_or o (pos 0)) (found q) ∙ scaled_found c (lookup (is_at (nat_cmp q)) old) fits (within q) (each q)

  pub scaled_no_zero : c ≢ pos 0 → HasNoZero old → HasNoZero new
  scaled_no_zero nc z q e = found_nonzero c (lookup (is_at (nat_cmp q)) old) fits (within q) (each q) nc (z q) (sym (found q) ∙ e)

pub products_fit : (c : ℤ) (self old : Line) → old ≡ self → LineFits (Times c) line_of_zero self → (q : ℕ) → FitsSigned w128 (c *ℤ times old.atoms q)
products_fit c self old e f q = subst (λ (l : Line). FitsSigned w128 (c *ℤ times l.atoms q)) (sym e) (f.atoms q).0

-- the line whose constant and atoms were multiplied
module _ (c k : ℤ) (old : Line) (new : Atoms) (fits : FitsSigned w128 c) (is : IsLine old) (one : FitsSigned w128 (c *ℤ old.constant) × (k ≡ c *ℤ old.constant))
    (made : new ≡ map (λ (e : ℕ × ℤ). (e.0, int_wrapping_mul w128 c e.1)) old.atoms) (each : (q : ℕ) → FitsSigned w128 (c *ℤ times old.atoms q)) where
  constant_fits : FitsSigned w128 k
  constant_fits = subst (FitsSigned w128) (sym one.1) one.0

  pub scaled_is_line : c ≢ pos 0 → IsLine (record { constant = to_z w128 (of_z w128 k); atoms = new })
  scaled_is_line nc = line_made k new (record {
    no_zero = scaled_no_zero c old.atoms new fits made is.times_fit each nc is.no_zero;
    constant_fits = constant_fits;
    times_fit = λ q. subst (FitsSigned w128) (sym (scaled_times c old.atoms new fits made is.times_fit each q)) (each q);
  })

  pub scaled_is : (self : Line) → old ≡ self → IsChanged (Times c) line_of_zero self (record { constant = to_z w128 (of_z w128 k); atoms = new })
  scaled_is self e = subst (λ (l : Line). IsChanged (Times c) line_of_zero l (record { constant = to_z w128 (of_z w128 k); atoms = new })) e (record {
    constant = to_z-of_z w128 k constant_fits ∙ one.1 ∙ sym (plus_zero (c *ℤ old.constant));
    atoms = λ q. scaled_times c old.atoms new fits made is.times_fit each q ∙ sym (plus_zero (c *ℤ times old.atoms q));
  })
