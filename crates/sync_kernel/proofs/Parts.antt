-- One part of a `sum`: what the code answers against what is defined.
use Rattle.std.proofs.Common.{◌≡◌, ℕ, ℤ, pos, Bool, true, false, ◌&&◌, if◌then◌else◌, List, [], ◌∷◌, ◌++◌, Option, Some, None, Result, Ok, Err, refl, sym, ap, subst, ◌∙◌}
use Rattle.std.specs.Prelude.{option_map, IfSome}
use Rattle.std.specs.List.{list_all}
use Rattle.std.proofs.lemmas.Bool.{and_parts, and_from, cond-false, false_from_ne_true}
use Rattle.sync_base.specs.declared.stops.Rule.{Rule}
use Rattle.sync_base.specs.declared.stops.Rule.TheVariants.{K6, K7}
use Rattle.sync_base.specs.declared.stops.Stop.{Stop}
use Rattle.sync_base.specs.declared.stops.Stop.TheVariants.{Refused, Memory}
use Rattle.sync_base.specs.declared.stops.Refusal.{Refusal}
use Rattle.sync_base.specs.Outcome.{Passes}
use Rattle.sync_terms.specs.declared.scripts.Part.{Part}
use Rattle.sync_terms.specs.Trees.{Tree, Lit, Add, Scale, Formula}
use Rattle.sync_terms.specs.Stored.{Stored}
use Rattle.sync_linear.specs.declared.stops.LinearStop.{LinearStop}
use Rattle.sync_linear.specs.declared.stops.LinearStop.TheVariants as linear
use Rattle.sync_linear.specs.declared.changes.Change.TheVariants as change
use Rattle.sync_linear.specs.Lines.{Line, IsChanged, LineFits}
use Rattle.sync_linear.specs.Forms.{IsWithin, Narrow}
use Rattle.sync_linear.specs.Stores.{IsLineOf}
use Rattle.sync_linear.proofs.Spines.{zero_line}
use Rattle.sync_linear.proofs.Joins.{join_line, join_fits, fits_line}
use Rattle.sync_kernel_facts.specs.declared.branches.Known.{Known}
use Rattle.sync_kernel.specs.declared.rows.Shape.{Shape}
use Rattle.sync_kernel.specs.declared.rows.Used.{Used}
use Rattle.sync_kernel.specs.declared.sums.Summed.{Summed}
use Rattle.sync_kernel_facts.specs.Facts.{Fact, newest}
use Rattle.sync_kernel.specs.Rows.{Row, row_of, within, narrow}
use Rattle.sync_kernel.specs.Steps.{at_line, usable, is_turned, fits_in, Next, with_row, with_part, is_equation, one_apart, go_on, added, sum_fault}
use Rattle.sync_kernel.specs.Shapes.{row_shaped}
use Rattle.sync_kernel_facts.specs.Literals.{literal_form, IsLiteral}
use Rattle.sync_kernel.specs.Holding.{IsKnown, stop_of, StepGives}
use Rattle.sync_kernel.proofs.Atoms.{within_is, is_within, narrow_is, is_narrow}

usable_is : (s : Stored) (h : Known) (f : Fact) (row : Option Row) → IsKnown s (Some h) (Some f) → row ≡ (if h.plain then row_of (literal_form s h.says) else None) → row ≡ usable f
usable_is s h f row i e = e ∙ ap (λ (x : Formula). if h.plain then row_of x else None) i.0 ∙ ap (λ (b : Bool). if b then row_of f.form else None) i.1

pub part_is : (s : Stored) (h : Known) (o : Option Fact) (shape : Option Shape) (sh : Shape) (sum : Tree) (p : Part) → IsKnown s (Some h) o
    → option_map (row_shaped s) shape ≡ (if h.plain then row_of (literal_form s h.says) else None) → shape ≡ Some sh → with_part o sum p ≡ with_row (Some (row_shaped s sh)) sum p
part_is s h None shape sh sum p i e g = absurd i
part_is s h (Some f) shape sh sum p i e g =
    ap (λ (r : Option Row). with_row r sum p) (sym (usable_is s h f (option_map (row_shaped s) shape) i e) ∙ ap (option_map (row_shaped s)) g)

abbrev pub next_of : Tree → Part → Row → Next
next_of sum p r = record { sum = Add sum (Scale p.times r.line); used = record { times = p.times; kind = r.kind } }

fitted : (r : Row) (sum : Tree) (p : Part) (b : Bool) → is_turned r.kind p.times ≡ false → fits_in sum p.times r.line ≡ b → with_row (Some r) sum p ≡ (if b then Ok (next_of sum p r) else Err K7)
fitted r sum p b t f =
    cond-false (is_turned r.kind p.times) (Err K6) (if fits_in sum p.times r.line then Ok (next_of sum p r) else Err K7) t
    ∙ ap (λ (x : Bool). if x then Ok (next_of sum p r) else Err K7) f

fits_parts : (sum : Tree) (n : ℤ) (line : Tree) → fits_in sum n line ≡ true → Narrow line × IsWithin (Scale n line) × IsWithin (Add sum (Scale n line))
fits_parts sum n line h =
    let p = and_parts (narrow line) (within (Scale n line) && within (Add sum (Scale n line))) h in
    let q = and_parts (within (Scale n line)) (within (Add sum (Scale n line))) p.1 in
    (narrow_is line p.0, within_is (Scale n line) q.0, within_is (Add sum (Scale n line)) q.1)

wide : (s : Stored) (line : ℕ) (r : Row) (sum : Tree) (p : Part) (stop : LinearStop) (answer : Stop) → answer ≡ stop_of line stop → (stop ≡ linear.Width → fits_in sum p.times r.line ≡ true → ⊥)
    → is_turned r.kind p.times ≡ false → StepGives s line (Err answer) (with_row (Some r) sum p)
wide s line r sum p linear.Memory answer e w t = subst (λ (x : Stop). StepGives s line (Err x) (with_row (Some r) sum p)) (sym e) tt
wide s line r sum p linear.Width answer e w t =
    let f : fits_in sum p.times r.line ≡ false = false_from_ne_true (fits_in sum p.times r.line) (w refl) in
    subst (λ (x : Stop). StepGives s line (Err x) (with_row (Some r) sum p)) (sym e)
    (subst (λ (x : Result Next Rule). StepGives s line (Err (stop_of line linear.Width)) x) (sym (fitted r sum p false t f)) refl)

pub line_stops : (s : Stored) (line : ℕ) (r : Row) (sum : Tree) (p : Part) (stop : LinearStop) (answer : Stop) → answer ≡ stop_of line stop → (stop ≡ linear.Width → Narrow r.line → ⊥)
    → is_turned r.kind p.times ≡ false → StepGives s line (Err answer) (with_row (Some r) sum p)
line_stops s line r sum p stop answer e w t = wide s line r sum p stop answer e (λ k h. w k (fits_parts sum p.times r.line h).0) t

pub sum_stops : (s : Stored) (line : ℕ) (r : Row) (sum : Tree) (p : Part) (stop : LinearStop) (answer : Stop) (total row : Line) → IsLineOf s sum total → IsLineOf s r.line row → answer ≡ stop_of line stop
    → (stop ≡ linear.Width → LineFits (change.Times p.times) total row → ⊥)
    → is_turned r.kind p.times ≡ false → StepGives s line (Err answer) (with_row (Some r) sum p)
sum_stops s line r sum p stop answer total row i j e w t =
    wide s line r sum p stop answer e (λ k h. w k (fits_line (change.Times p.times) s sum r.line total row i j ((fits_parts sum p.times r.line h).1, (fits_parts sum p.times r.line h).2))) t

pub sum_goes : (s : Stored) (line : ℕ) (r : Row) (sum : Tree) (p : Part) (x : Summed) (total row : Line) → IsLineOf s sum total → IsLineOf s r.line row → Narrow r.line
    → IsChanged (change.Times p.times) total row x.total → LineFits (change.Times p.times) total row → x.used ≡ record { times = p.times; kind = r.kind }
    → is_turned r.kind p.times ≡ false → StepGives s line (Ok x) (with_row (Some r) sum p)
sum_goes s line r sum p x total row i j n c f u t =
    let w = join_fits (change.Times p.times) s sum r.line total row i j f in
    let b : fits_in sum p.times r.line ≡ true =
    and_from (narrow r.line) (within (Scale p.times r.line) && within (Add sum (Scale p.times r.line))) (is_narrow r.line n)
    (and_from (within (Scale p.times r.line)) (within (Add sum (Scale p.times r.line))) (is_within (Scale p.times r.line) w.0) (is_within (Add sum (Scale p.times r.line)) w.1)) in
    subst (λ (y : Result Next Rule). StepGives s line (Ok x) y) (sym (fitted r sum p true t b)) (join_line (change.Times p.times) s sum r.line total row x.total i j c, u)

pub as_part : (s : Stored) (line : ℕ) (r : Result Summed Stop) (x y : Result Next Rule) → x ≡ y → StepGives s line r y → StepGives s line r x
as_part s line r x y e h = subst (λ (z : Result Next Rule). StepGives s line r z) (sym e) h

-- ---- the loops over what was used
abbrev pub apart_rest : Bool → List Used → Bool
apart_rest true us = list_all (λ (u : Used). is_equation u.kind) us
apart_rest false us = one_apart us

-- ---- the loop over the parts
abbrev pub Stops : Stop → Option Refusal → Type 0
Stops Memory fault = Unit {0}
Stops (Refused f) fault = fault ≡ Some f

pub record Summing (s : Stored) (fs : List Fact) (parts rest : List Part) (used : List Used) (total : Line) : Type 0 where
  pub sum : Tree
  pub has_line : IsLineOf s sum total
  pub same : added fs sum used rest ≡ sum_fault fs parts

pub begins : (s : Stored) (fs : List Fact) (parts : List Part) (used : List Used) (total : Line) → used ≡ [] → total ≡ record { constant = pos 0; atoms = [] } → Summing s fs parts parts used total
begins s fs parts used total e f = record {
  sum = Lit (pos 0);
  has_line = subst (IsLineOf s (Lit (pos 0))) (sym f) (zero_line s);
  same = ap (λ (u : List Used). added fs (Lit (pos 0)) u parts) e;
}

module _ (s : Stored) (line : ℕ) (fs : List Fact) (parts rest : List Part) (used : List Used) (total : Line) (p : Part) (h : Summing s fs parts (p ∷ rest) used total) where
  after : (w : Result Next Rule) → with_part (newest p.hyp fs) h.sum p ≡ w → go_on w (λ (n : Next). added fs n.sum (used ++ n.used ∷ []) rest) ≡ sum_fault fs parts
  after w e = ap (λ (x : Result Next Rule). go_on x (λ (n : Next). added fs n.sum (used ++ n.used ∷ []) rest)) (sym e) ∙ h.same

  stops_with : (stop : Stop) (w : Result Next Rule) → with_part (newest p.hyp fs) h.sum p ≡ w → StepGives s line (Err stop) w → Stops stop (at_line line (sum_fault fs parts))
  stops_with Memory w e g = tt
  stops_with (Refused f) (Ok n) e g = absurd g
  stops_with (Refused f) (Err r) e g = ap (at_line line) (sym (after (Err r) e)) ∙ ap Some (sym g)

  pub stops_at : (stop : Stop) → StepGives s line (Err stop) (with_part (newest p.hyp fs) h.sum p) → Stops stop (at_line line (sum_fault fs parts))
  stops_at stop g = stops_with stop (with_part (newest p.hyp fs) h.sum p) refl g

  goes_with : (x : Summed) (w : Result Next Rule) → with_part (newest p.hyp fs) h.sum p ≡ w → StepGives s line (Ok x) w → Summing s fs parts rest (used ++ x.used ∷ []) x.total
  goes_with x (Ok n) e g = record {
    sum = n.sum;
    has_line = g.0;
    same = ap (λ (u : Used). added fs n.sum (used ++ u ∷ []) rest) g.1 ∙ after (Ok n) e;
  }
  goes_with x (Err r) e g = absurd g

  pub goes_at : (x : Summed) → StepGives s line (Ok x) (with_part (newest p.hyp fs) h.sum p) → Summing s fs parts rest (used ++ x.used ∷ []) x.total
  goes_at x g = goes_with x (with_part (newest p.hyp fs) h.sum p) refl g

pub known_stored : (s : Stored) (h : Option Known) (o : Option Fact) → IsKnown s h o → IfSome h (λ x. IsLiteral s x.says)
known_stored s None o i = tt
known_stored s (Some h) None i = absurd i
known_stored s (Some h) (Some f) i = i.2

pub passes_err : (r : Result (Unit {0}) Stop) (stop : Stop) (fault : Option Refusal) → r ≡ Err stop → Stops stop fault → Passes r fault
passes_err r Memory fault e h = subst (λ (x : Result (Unit {0}) Stop). Passes x fault) (sym e) tt
passes_err r (Refused f) fault e h = subst (λ (x : Result (Unit {0}) Stop). Passes x fault) (sym e) h
