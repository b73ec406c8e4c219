-- How the first fault is found, statement by statement and operation by operation.
use Rattle.std.proofs.Common.{◌≡◌, ℕ, ◌+◌, ◌<◌, ◌≤◌, List, map, length, get_or, drop, take, Option, Some, None, sym, ap, ◌∙◌}
use Rattle.std.proofs.lemmas.List.{at_drop_more, at_drop_all, take_more, map_push}
use Rattle.sync_base.specs.declared.stops.Rule.{Rule}
use Rattle.sync_base.specs.declared.stops.Refusal.{Refusal}
use Rattle.sync_base.specs.Outcome.{first}
use Rattle.sync_terms.specs.Stored.{Stored}
use Rattle.sync_machine.specs.declared.fields.Field.{Field}
use Rattle.sync_base.specs.declared.strategies.OpMode.{OpMode}
use Rattle.sync_machine.specs.declared.machine.Step.{Step}
use Rattle.sync_machine.specs.declared.machine.Operation.{Operation}
use Rattle.sync_machine.specs.Views.{act_tree, step_tree, steps_tree, operation_tree}
use Rattle.sync_rules.specs.Faults.{broken_rule, refused_at, steps_fault, operation_fault, operations_fault}

-- the fault of the statements from one on: its own, or that of the ones behind it
steps-here : (fs : List Field) (m : OpMode) (s : Stored) (i : ℕ) (xs : List Step) (d : Step) → i < length xs → steps_fault fs m (steps_tree s (take i xs)) (steps_tree s (drop i xs)) ≡ first (refused_at (get_or xs i d).line (broken_rule fs m (steps_tree s (take i xs)) (act_tree s (get_or xs i d).act))) (steps_fault fs m (steps_tree s (take (i + 1) xs)) (steps_tree s (drop (i + 1) xs)))
unfolding steps_fault
steps-here fs m s i xs d h =
    let here = refused_at (get_or xs i d).line (broken_rule fs m (steps_tree s (take i xs)) (act_tree s (get_or xs i d).act)) in
    at_drop_more (λ ys. steps_fault fs m (steps_tree s (take i xs)) (steps_tree s ys)) xs i d h
    ∙ ap (λ e. first here (steps_fault fs m e (steps_tree s (drop (i + 1) xs)))) (sym (ap (λ ys. steps_tree s ys) (take_more xs i d h) ∙ map_push (step_tree s) (take i xs) (get_or xs i d)))

pub steps-more : (fs : List Field) (m : OpMode) (s : Stored) (i : ℕ) (xs : List Step) (d : Step) (all : Option Refusal) → i < length xs → None ≡ broken_rule fs m (steps_tree s (take i xs)) (act_tree s (get_or xs i d).act) → steps_fault fs m (steps_tree s (take i xs)) (steps_tree s (drop i xs)) ≡ all → steps_fault fs m (steps_tree s (take (i + 1) xs)) (steps_tree s (drop (i + 1) xs)) ≡ all
steps-more fs m s i xs d all h none inv =
    ap (λ r. first (refused_at (get_or xs i d).line r) (steps_fault fs m (steps_tree s (take (i + 1) xs)) (steps_tree s (drop (i + 1) xs)))) none ∙ sym (steps-here fs m s i xs d h) ∙ inv

pub steps-found : (fs : List Field) (m : OpMode) (s : Stored) (i : ℕ) (xs : List Step) (d : Step) (all : Option Refusal) (rule : Rule) → i < length xs → Some rule ≡ broken_rule fs m (steps_tree s (take i xs)) (act_tree s (get_or xs i d).act) → steps_fault fs m (steps_tree s (take i xs)) (steps_tree s (drop i xs)) ≡ all → Some (record { line = (get_or xs i d).line; rule = rule }) ≡ all
steps-found fs m s i xs d all rule h some inv =
    ap (λ r. first (refused_at (get_or xs i d).line r) (steps_fault fs m (steps_tree s (take (i + 1) xs)) (steps_tree s (drop (i + 1) xs)))) some ∙ sym (steps-here fs m s i xs d h) ∙ inv

pub steps-all : (fs : List Field) (m : OpMode) (s : Stored) (i : ℕ) (xs : List Step) (all : Option Refusal) → length xs ≤ i → steps_fault fs m (steps_tree s (take i xs)) (steps_tree s (drop i xs)) ≡ all → None ≡ all
unfolding steps_fault
steps-all fs m s i xs all h inv =
    sym (at_drop_all (λ ys. steps_fault fs m (steps_tree s (take i xs)) (steps_tree s ys)) xs i h) ∙ inv

operations-here : (fs : List Field) (s : Stored) (i : ℕ) (xs : List Operation) (x : Operation) → i < length xs → x ≡ get_or xs i x → operations_fault fs (map (operation_tree s) (drop i xs)) ≡ first (operation_fault fs (operation_tree s x)) (operations_fault fs (map (operation_tree s) (drop (i + 1) xs)))
unfolding operations_fault
operations-here fs s i xs x h at =
    at_drop_more (λ ys. operations_fault fs (map (operation_tree s) ys)) xs i x h
    ∙ ap (λ y. first (operation_fault fs (operation_tree s y)) (operations_fault fs (map (operation_tree s) (drop (i + 1) xs)))) (sym at)

pub operations-more : (fs : List Field) (s : Stored) (i : ℕ) (xs : List Operation) (x : Operation) (all : Option Refusal) → i < length xs → x ≡ get_or xs i x → None ≡ operation_fault fs (operation_tree s x) → operations_fault fs (map (operation_tree s) (drop i xs)) ≡ all → operations_fault fs (map (operation_tree s) (drop (i + 1) xs)) ≡ all
operations-more fs s i xs x all h at none inv =
    ap (λ r. first r (operations_fault fs (map (operation_tree s) (drop (i + 1) xs)))) none ∙ sym (operations-here fs s i xs x h at) ∙ inv

pub operations-found : (fs : List Field) (s : Stored) (i : ℕ) (xs : List Operation) (x : Operation) (all : Option Refusal) (r : Refusal) → i < length xs → x ≡ get_or xs i x → Some r ≡ operation_fault fs (operation_tree s x) → operations_fault fs (map (operation_tree s) (drop i xs)) ≡ all → Some r ≡ all
operations-found fs s i xs x all r h at some inv =
    ap (λ q. first q (operations_fault fs (map (operation_tree s) (drop (i + 1) xs)))) some ∙ sym (operations-here fs s i xs x h at) ∙ inv

pub operations-all : (fs : List Field) (s : Stored) (i : ℕ) (xs : List Operation) (all : Option Refusal) → length xs ≤ i → operations_fault fs (map (operation_tree s) (drop i xs)) ≡ all → None ≡ all
unfolding operations_fault
operations-all fs s i xs all h inv = sym (at_drop_all (λ ys. operations_fault fs (map (operation_tree s) ys)) xs i h) ∙ inv
