-- What an operation brings, over a store or as trees.
use Rattle.std.proofs.Common.{◌≡◌, ℕ, zero, suc, ◌+◌, ◌<◌, Bool, cond, List, [], ◌∷◌, length, map, count_by, get_or, slice_get, Some, refl, sym, ap, ◌∙◌, arith}
use Rattle.std.proofs.lemmas.List.{length-map}
use Rattle.std.proofs.lemmas.List.Sums.{sum_by-cons}
use Rattle.sync_terms.specs.Stored.{Stored}
use Rattle.sync_terms.specs.declared.nodes.Sym.{Sym}
use Rattle.sync_machine.specs.Machines.{ActTree, StepTree}
use Rattle.sync_machine.specs.Views.{act_tree, step_tree, steps_tree, operation_tree, machine_tree}
use Rattle.sync_machine.specs.declared.fields.Field.{Field}
use Rattle.sync_machine.specs.declared.machine.Machine.{Machine}
use Rattle.sync_machine.specs.declared.machine.Operation.{Operation}
use Rattle.sync_machine.specs.declared.machine.Step.{Step}
use Rattle.sync_rules.specs.declared.slots.Role.{Role}
use Rattle.sync_rules.specs.declared.slots.Slot.{Slot}
use Rattle.sync_rules.specs.Slots.{SlotTree, slots_of, slots_if, signature_of}
use Rattle.sync_rules.specs.Views.{slot_tree, slots_tree}
use Rattle.sync_read_programs.specs.declared.scopes.Call.{Call}
use Rattle.sync_read_programs.specs.Scopes.{names_token, gives_token, is_guard, call_of}

slots_counted : (p : Role → Bool) (s : Stored) (xs : List Slot) → count_by (λ (x : SlotTree). p x.role) (slots_tree s xs) ≡ count_by (λ (x : Slot). p x.role) xs
slots_counted p s [] = refl
slots_counted p s (x ∷ xs) =
    sum_by-cons (λ (y : SlotTree). cond (p y.role) 1 0) (slot_tree s x) (slots_tree s xs)
    ∙ ap (λ n. cond (p x.role) 1 0 + n) (slots_counted p s xs)
    ∙ sym (sum_by-cons (λ (y : Slot). cond (p y.role) 1 0) x xs)

steps_counted : (p : ActTree → Bool) (s : Stored) (xs : List Step) → count_by (λ (x : StepTree). p x.act) (steps_tree s xs) ≡ count_by (λ (x : Step). p (act_tree s x.act)) xs
steps_counted p s [] = refl
steps_counted p s (x ∷ xs) =
    sum_by-cons (λ (y : StepTree). cond (p y.act) 1 0) (step_tree s x) (steps_tree s xs)
    ∙ ap (λ n. cond (p (act_tree s x.act)) 1 0 + n) (steps_counted p s xs)
    ∙ sym (sum_by-cons (λ (y : Step). cond (p (act_tree s y.act)) 1 0) x xs)

there_as_tree : (s : Stored) (os : List Operation) (i : ℕ) (o : Operation) → i < length os → o ≡ get_or os i o → slice_get (map (operation_tree s) os) i ≡ Some (operation_tree s o)
there_as_tree s [] i o low is = absurd (omega arith)
there_as_tree s (x ∷ xs) zero o low is = ap (λ y. Some (operation_tree s y)) (sym is)
there_as_tree s (x ∷ xs) (suc i) o low is = there_as_tree s xs i o (omega arith) is

-- the slots of an operation by its number are its own
signature_there : (m : Machine) (i : ℕ) (o : Operation) → i < length m.ops → o ≡ get_or m.ops i o → signature_of (machine_tree m) i ≡ slots_of m.fields (operation_tree m.terms o)
signature_there m i o low is = ap (slots_if m.fields) (there_as_tree m.terms m.ops i o low is)

-- the slots of a kind that an operation has by its number
kind_counted : (p : Role → Bool) (m : Machine) (i : ℕ) (o : Operation) (xs : List Slot)
    → i < length m.ops → o ≡ get_or m.ops i o → slots_tree m.terms xs ≡ signature_of (machine_tree m) i
    → count_by (λ (x : Slot). p x.role) xs ≡ count_by (λ (x : SlotTree). p x.role) (slots_of m.fields (operation_tree m.terms o))
kind_counted p m i o xs low is signed =
    sym (slots_counted p m.terms xs) ∙ ap (count_by (λ (x : SlotTree). p x.role)) (signed ∙ signature_there m i o low is)

-- what the operation with a number brings
pub call_is : (m : Machine) (i : ℕ) (o : Operation) (xs : List Slot) (args tokens given guards : ℕ)
    → i < length m.ops → o ≡ get_or m.ops i o → slots_tree m.terms xs ≡ signature_of (machine_tree m) i
    → args ≡ length o.params → tokens ≡ count_by (λ (x : Slot). names_token x.role) xs → given ≡ count_by (λ (x : Slot). gives_token x.role) xs
    → guards ≡ count_by (λ (x : Step). is_guard (act_tree m.terms x.act)) o.steps
    → record { mode = o.mode; args = args; tokens = tokens; given = given; guards = guards } ≡ call_of m.fields (operation_tree m.terms o)
call_is m i o xs args tokens given guards low is signed args_are tokens_are given_are guards_are =
    let make : ℕ → ℕ → ℕ → ℕ → Call = λ a t g u. record { mode = o.mode; args = a; tokens = t; given = g; guards = u } in
    let tree = operation_tree m.terms o in
    ap (λ a. make a tokens given guards) (args_are ∙ sym (length-map o.params (λ (x : Sym). x.0)))
    ∙ ap (λ t. make (length tree.params) t given guards) (tokens_are ∙ kind_counted names_token m i o xs low is signed)
    ∙ ap (λ g. make (length tree.params) (count_by (λ (x : SlotTree). names_token x.role) (slots_of m.fields tree)) g guards)
    (given_are ∙ kind_counted gives_token m i o xs low is signed)
    ∙ ap (make (length tree.params) (count_by (λ (x : SlotTree). names_token x.role) (slots_of m.fields tree)) (count_by (λ (x : SlotTree). gives_token x.role) (slots_of m.fields tree)))
    (guards_are ∙ sym (steps_counted is_guard m.terms o.steps))

-- what each operation brings
pub calls_are : (fs : List Field) (s : Stored) (os : List Operation) → map (λ o. call_of fs (operation_tree s o)) os ≡ map (call_of fs) (map (operation_tree s) os)
calls_are fs s [] = refl
calls_are fs s (o ∷ os) = ap (λ cs. call_of fs (operation_tree s o) ∷ cs) (calls_are fs s os)
