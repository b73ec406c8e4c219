-- What statements between steps do, in the words of the meaning.
use Rattle.std.proofs.lemmas.Bool.Decides.{eqb_tells}
use Rattle.std.proofs.lemmas.Grind.{get_or-set_at}
use Rattle.std.proofs.lemmas.List.{get_or-set_other}
use Rattle.std.proofs.Common.{◌≢◌, ◌⊎◌, inl, inr, ◌≡◌, ℕ, zero, suc, ◌+◌, ◌<◌, ◌≤◌, Bool, true, false, not, if◌then◌else◌, nat_eq, List, [], ◌∷◌, ◌++◌, length, map, take, drop, set, get_or, slice_get, slice_index, slice_set, Option, Some, None, option_map, Result, Ok, Err, refl, sym, ap, ◌∙◌, subst, arith}
use Rattle.sync_base.specs.Outcome.{◌>>=◌}
use Rattle.sync_thread.specs.declared.operands.CodeDecl.{CodeDecl}
use Rattle.sync_thread.specs.declared.operands.Calc.{Calc}
use Rattle.sync_thread.specs.declared.operands.Cond.{Cond}
use Rattle.sync_thread.specs.declared.operands.Opd.{Opd}
use Rattle.sync_thread.specs.declared.operands.Opd.TheVariants.{Number, Local}
use Rattle.sync_thread.specs.declared.program.CodeStmt.{CodeStmt}
use Rattle.sync_thread.specs.declared.program.CodeStmt.TheVariants as made
use Rattle.sync_thread.specs.Control as control
use Rattle.sync_thread.specs.Control.{Halt, Broken, Frame, InBranch, InLoop, Signal, Stms, run, unwind, after_branch, after_fresh_body, after_older_body, after_frame, from_state}
use Rattle.sync_thread.specs.Code.{CodeList, CodeShared, code_forms, code_language, code_statements, Memory, operand_value, locals_of, assigned, setting, calculated, compares, satisfies}
use Rattle.sync_thread.specs.Views.{code_list_tree}
use Rattle.sync_thread_places.specs.declared.standings.Hop.{Hop}
use Rattle.sync_thread_places.specs.declared.standings.Standing.{Standing}
use Rattle.sync_thread_places.specs.declared.standings.Outcome.{Outcome}
use Rattle.sync_thread_places.specs.declared.standings.Outcome.TheVariants.{Waits, Next, Break, End, Over, Stuck}
use Rattle.sync_thread_places.specs.Places.{Enclosed, most, nesting, width, led_to, inside, place_in, paused, way_from, locals_in}
use Rattle.sync_thread_places.specs.Values.{operand_in, is_met_in}
use Rattle.sync_thread_places.specs.Runs.{holding, at_place, signal_of, told, IsRun, IsPassed, IsSet, HasRoom, KeepsRoom, after_body}
use Rattle.sync_thread_places.proofs.Tables.{got}
use Rattle.sync_thread_places.proofs.Trees.{round, here, set_tree, if_tree, loop_tree, next_tree, break_tree, end_tree, led_if, led_loop}

-- ---- memory with a thread's locals

pub set_again : {A : Type 0} (xs : List A) (i : ℕ) (x y : A) → set (set xs i x) i y ≡ set xs i y
set_again [] i x y = refl
set_again (z ∷ zs) zero x y = refl
set_again (z ∷ zs) (suc i) x y = ap (λ w. z ∷ w) (set_again zs i x y)

pub got_set : {A : Type 0} (xs : List A) (i : ℕ) (x d : A) → i < length xs → get_or (set xs i x) i d ≡ x
got_set [] i x d within = absurd (omega arith)
got_set (z ∷ zs) zero x d within = refl
got_set (z ∷ zs) (suc i) x d within = got_set zs i x d (omega arith)

pub holds : (t : ℕ) (f : ℕ → ℕ) (m : Memory) → t < length m.locals → locals_of (holding t f m) t ≡ f
holds t f m within = got_set m.locals t f (λ x. 0) within

pub operand_held : (t : ℕ) (f : ℕ → ℕ) (m : Memory) → t < length m.locals → (o : Opd)
    → operand_value (holding t f m) t o ≡ operand_in f o
operand_held t f m within (Number n) = refl
operand_held t f m within (Local x) = ap (λ (g : ℕ → ℕ). g x) (holds t f m within)

pub operands_held : (t : ℕ) (f : ℕ → ℕ) (m : Memory) → t < length m.locals
    → ◌≡◌ {A = Opd → ℕ} (operand_value (holding t f m) t) (operand_in f)
operands_held t f m within = λ i o. operand_held t f m within o i

pub sets : (t x n : ℕ) (f : ℕ → ℕ) (m : Memory) → t < length m.locals
    → setting t x n (holding t f m) ≡ holding t (assigned x n f) m
sets t x n f m within =
    ap (λ (g : ℕ → ℕ). record m { locals = set (set m.locals t f) t (assigned x n g) }) (holds t f m within)
    ∙ ap (λ (ls : List (ℕ → ℕ)). record m { locals = ls }) (set_again m.locals t f (assigned x n f))

pub held_again : (t : ℕ) (f g : ℕ → ℕ) (m : Memory) → holding t g (holding t f m) ≡ holding t g m
held_again t f g m = ap (λ (ls : List (ℕ → ℕ)). record m { locals = ls }) (set_again m.locals t f g)

-- a table with one place set
pub local_set : (ns : List ℕ) (x n y : ℕ) → x < length ns → locals_in (slice_set ns x n) y ≡ assigned x n (locals_in ns) y
local_set ns x n y within = by (eqb_tells y x) where
  by : ((nat_eq y x ≡ true) × (y ≡ x)) ⊎ ((nat_eq y x ≡ false) × (y ≢ x))
      → locals_in (slice_set ns x n) y ≡ assigned x n (locals_in ns) y
  by (inl (is, same)) = get_or-set_at ns x y n 0 same within ∙ sym (ap (λ b. if b then n else locals_in ns y) is)
  by (inr (isnt, other)) = get_or-set_other ns x y n 0 other ∙ sym (ap (λ b. if b then n else locals_in ns y) isnt)

pub locals_set : (ns : List ℕ) (x n : ℕ) → x < length ns
    → ◌≡◌ {A = ℕ → ℕ} (locals_in (slice_set ns x n)) (assigned x n (locals_in ns))
locals_set ns x n within = λ i y. local_set ns x n y within i

pub met : (t : ℕ) (f : ℕ → ℕ) (m : Memory) → t < length m.locals → (c : Cond)
    → satisfies (holding t f m) t c ≡ is_met_in f c
met t f m within c = ap (λ (g : Opd → ℕ). compares c.rel (g c.left) (g c.right)) (operands_held t f m within)
