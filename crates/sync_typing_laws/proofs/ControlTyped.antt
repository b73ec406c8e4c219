-- Lists that break no typing rule keep the rules that Resting speaks of, wherever single rows are sound.
use Rattle.std.specs.Prelude.{◌≡◌, ℕ, ℤ, Bool, true, false, not, ◌||◌, if◌then◌else◌, nat_lt, List, [], ◌∷◌, ◌++◌, slice_get, Option, Some, None, Result, Ok, Err}
use mathlib.Core.Path.{refl, sym, subst, ◌∙◌}
use Rattle.std.proofs.lemmas.Option.{same_Some}
use Rattle.sync_base.specs.Outcome.{first, ◌>>=◌}
use Rattle.sync_base.specs.declared.stops.Refusal.{Refusal}
use Rattle.sync_base.specs.declared.stops.Rule.TheVariants.{K8}
use Rattle.sync_terms.specs.Trees.{most_nodes, Tree, neg, tree_size}
use Rattle.sync_thread.proofs.ControlEvents.{then_passes, events_rest, start_rests}
use Rattle.sync_thread.specs.Code.{satisfies}
use Rattle.sync_thread.specs.Control.{Halt, Brace, Do, On, OnWhen, If, Loop, Next, Break, Meet, End, is_brace, events, start_from}
use Rattle.sync_thread.specs.Programs.{WordTree, KeepTree, JumpTree, ChoiceTree, TestTree, ThreadTree, ListTree, ScriptTree, program_forms, StartTree}
use Rattle.sync_thread.specs.Resting.{Enclosing, Branch, Turn, Round, branch, PassesUnless, Advances, GoesPast, GoesInto, ComesTo, NextAt, BreakAt, MeetAt, NextComes, BreakComes, MeetComes, FinishComes, Rows, Premises, Ready, AtRest}
use Rattle.sync_thread_machine.specs.MachineWithProgram.{MachineWithProgram}
use Rattle.sync_thread_machine.specs.ProgramSymbols.{wrap_symbol}
use Rattle.sync_thread_meaning.specs.Meaning.{World, annotated_language, annotated_statements, annotated_meaning, choice_step}
use Rattle.sync_thread_meaning.specs.Moments.{start_of, start_shares, memory_of, first_shares, after_in}
use Rattle.sync_thread_meaning.specs.Shares.{Shares, wrap_of}
use Rattle.sync_typing.specs.Dues.{Due, Wants, Makes, Owes, Alone, Spare, pay, spare, show, row, at_hand_due}
use Rattle.sync_typing.specs.Environments.{Env, Outcome, on_some, refused, fits, stands, tell}
use Rattle.sync_typing.specs.Keeps.{keep_due, keep_if_due, keep_names_only, is_at_hand_in, arrive_dues, arrive_row, after_keep}
use Rattle.sync_typing.specs.Lists.{Spot, Target, in_branch, in_loop, local_row, shared_row, choice_row, branch_row, if_row, loop_row, jump_row, both_fit, stepped, around_tree, word_of, unended, after_ending, ended_by_end, on, past, fork, list_fault}
use Rattle.sync_typing.specs.Locals.{condition, index_dues, index_spare}
use Rattle.sync_typing.specs.Typing.{thread_place, final_place}
use Rattle.sync_typing_laws.proofs.ControlKept.{at_hand_grows, choice_keeping}
use Rattle.sync_typing_laws.specs.Ruling.{goal_at, scene_at, place_in, place_of, aim, Meanings, rules_of, Parts, when_dues, loop_dues, StatementRows}
use Rattle.sync_typing.specs.Lists as lists
use Rattle.sync_thread.specs.Resting as resting

-- an answer that passes a test passes a weaker one
passes_on : {A : Type 0} (spares : Halt → Type 0) (x : Result A Halt) (one two : A → Type 0)
    → PassesUnless spares x one → ((y : A) → one y → two y) → PassesUnless spares x two
passes_on spares (Ok y) one two is then_so = then_so y is
passes_on spares (Err h) one two is then_so = is

-- ---- what no fault says

on_none : {X : Type 0} (o : Outcome X) (f : X → Option Refusal) → on o f ≡ None → (y : X) × (o ≡ Ok y) × (f y ≡ None)
on_none (Ok y) f is = (y, refl, is)
on_none (Err r) f is = let no : Some r ≡ None = is in cc

first_none : {A : Type 0} (a b : Option A) → first a b ≡ None → (a ≡ None) × (b ≡ None)
first_none None b is = (refl, is)
first_none (Some y) b is = let no : Some y ≡ None = is in cc

spare_gives : {X : Type 0} (ss : List ScriptTree) (next : Outcome X) (y : X) → spare ss next ≡ Ok y → next ≡ Ok y
spare_gives [] next y is = is
spare_gives (s ∷ ss) next y is = let no : Err _ ≡ Ok y = is in cc

row_gives : {X : Type 0} (e : Env) (line : ℕ) (dues : List Due) (ss : List ScriptTree) (next : Outcome X) (y : X) → row e line dues ss next ≡ Ok y → next ≡ Ok y
row_gives e line dues ss next y is = from (pay e line dues ss) is where
  from : (o : Outcome (List ScriptTree)) → (o >>= (λ left. spare left next)) ≡ Ok y → next ≡ Ok y
  from (Ok left) is = spare_gives left next y is
  from (Err r) is = let no : Err r ≡ Ok y = is in cc

fits_gives : {X : Type 0} (line nodes : ℕ) (o : Outcome X) (y : X) → fits line nodes o ≡ Ok y → o ≡ Ok y
fits_gives line nodes o y is = tested (nat_lt most_nodes nodes) is where
  tested : (b : Bool) → (if b then refused line K8 else o) ≡ Ok y → o ≡ Ok y
  tested true is = let no : Err _ ≡ Ok y = is in cc
  tested false is = is

-- the tests among dues are true
abbrev Wanted : List Due → Type 0
Wanted [] = Unit {0}
Wanted (Wants rule b ∷ ds) = (b ≡ true) × Wanted ds
Wanted (Makes t ∷ ds) = Wanted ds
Wanted (Owes rule f ∷ ds) = Wanted ds
Wanted (Alone rule f ss ∷ ds) = Wanted ds
Wanted (Spare ss ∷ ds) = Wanted ds

shown_wanted : (o : Outcome (List ScriptTree)) (f : List ScriptTree → Outcome (List ScriptTree)) (left : List ScriptTree) (ds : List Due) → ((ss : List ScriptTree) → f ss ≡ Ok left → Wanted ds) → (o >>= f) ≡ Ok left → Wanted ds
shown_wanted (Ok ss) f left ds later is = later ss is
shown_wanted (Err r) f left ds later is = let no : Err r ≡ Ok left = is in cc

pay_wanted : (e : Env) (line : ℕ) (ds : List Due) (ss left : List ScriptTree) → pay e line ds ss ≡ Ok left → Wanted ds
pay_wanted e line [] ss left is = tt
pay_wanted e line (Wants rule true ∷ ds) ss left is = (refl, pay_wanted e line ds ss left is)
pay_wanted e line (Wants rule false ∷ ds) ss left is = let no : Err _ ≡ Ok left = is in cc
pay_wanted e line (Makes t ∷ ds) ss left is = pay_wanted e line ds ss left (fits_gives line (tree_size t) (pay e line ds ss) left is)
pay_wanted e line (Owes rule f ∷ ds) ss left is = shown_wanted (show e line rule f ss) (pay e line ds) left ds (λ rs. pay_wanted e line ds rs left) is
pay_wanted e line (Alone rule f own ∷ ds) ss left is = shown_wanted (show e line rule f own) (λ rs. pay e line ds ss) left ds (λ rs. pay_wanted e line ds ss left) is
pay_wanted e line (Spare rs ∷ ds) ss left is = pay_wanted e line ds ss left (spare_gives rs (pay e line ds ss) left is)

row_wanted : {X : Type 0} (e : Env) (line : ℕ) (dues : List Due) (ss : List ScriptTree) (next : Outcome X) (y : X) → row e line dues ss next ≡ Ok y → Wanted dues
row_wanted e line dues ss next y is = from (pay e line dues ss) refl is where
  from : (o : Outcome (List ScriptTree)) → pay e line dues ss ≡ o → (o >>= (λ left. spare left next)) ≡ Ok y → Wanted dues
  from (Ok left) paid is = pay_wanted e line dues ss left paid
  from (Err r) paid is = let no : Err r ≡ Ok y = is in cc

-- what a keep that is there names is at hand
keep_wanted : (before : ℕ → Option Tree) (keep : Option KeepTree) (ds : List Due) → Wanted (keep_if_due before keep ++ ds) → (k : KeepTree) → keep ≡ Some k → keep_names_only (is_at_hand_in before k) k ≡ true
keep_wanted before None ds wanted k is = let no : None ≡ Some k = is in cc
keep_wanted before (Some o) ds wanted k is = subst (λ z. keep_names_only (is_at_hand_in before z) z ≡ true) (same_Some o k is) wanted.0

not_true : (b : Bool) → not b ≡ true → b ≡ false
not_true false is = refl
not_true true is = let no : false ≡ true = is in cc

-- ---- where jumps go

no_jump : (n : ℕ) (j : JumpTree) (o : Option Target) (e same : Env) → o ≡ None → jump_row n j o e ≡ Ok same → ⊥
no_jump n j None e same none is = let no : Err _ ≡ Ok same = is in cc
no_jump n j (Some g) e same none is = let no : Some g ≡ None = none in cc

goal_next : (o : Option ThreadTree) → (on_some o final_place thread_place).next ≡ None
goal_next None = refl
goal_next (Some t) = refl

goal_break : (o : Option ThreadTree) → (on_some o final_place thread_place).break ≡ None
goal_break None = refl
goal_break (Some t) = refl

goal_meet : (o : Option ThreadTree) → (on_some o final_place thread_place).meet ≡ None
goal_meet None = refl
goal_meet (Some t) = refl

next_comes : (x : MachineWithProgram) (m : Meanings) (t n : ℕ) (j : JumpTree) (e same : Env) (round : List (Round annotated_language Env)) → ((g : Target) → (place_of (goal_at x t) round).next ≡ Some g → m.Jumps t g.keep j)
    → jump_row n j (place_of (goal_at x t) round).next e ≡ Ok same → NextComes (rules_of x m) t j round e
next_comes x m t n j e same [] named is = no_jump n j (goal_at x t).next e same (goal_next (slice_get x.program.threads t)) is
next_comes x m t n j e same (form ∷ round) named is = at form.form (next_comes x m t n j e same round) named is where
  at : (f : Enclosing program_forms) → (((g : Target) → (place_of (goal_at x t) round).next ≡ Some g → m.Jumps t g.keep j) → jump_row n j (place_of (goal_at x t) round).next e ≡ Ok same → NextComes (rules_of x m) t j round e)
      → ((g : Target) → (place_in f form.env (place_of (goal_at x t) round)).next ≡ Some g → m.Jumps t g.keep j) → jump_row n j (place_in f form.env (place_of (goal_at x t) round)).next e ≡ Ok same
      → NextAt (rules_of x m) t j f form.env e (NextComes (rules_of x m) t j round e)
  at (Branch joined) later named is = later named is
  at (Turn k left) later named is = (n, same, named (aim form.env k) refl, is)

keep_comes : (x : MachineWithProgram) (m : Meanings) (t n : ℕ) (j : JumpTree) (before e same : Env) (k : Option KeepTree) → ((g : Target) → lists.target before k ≡ Some g → m.Jumps t g.keep j)
    → jump_row n j (lists.target before k) e ≡ Ok same → ComesTo (rules_of x m) t k j before e
keep_comes x m t n j before e same None named is = no_jump n j None e same refl is
keep_comes x m t n j before e same (Some k) named is = (n, same, named (aim before k) refl, is)

break_comes : (x : MachineWithProgram) (m : Meanings) (t n : ℕ) (j : JumpTree) (e same : Env) (round : List (Round annotated_language Env)) → ((g : Target) → (place_of (goal_at x t) round).break ≡ Some g → m.Jumps t g.keep j)
    → jump_row n j (place_of (goal_at x t) round).break e ≡ Ok same → BreakComes (rules_of x m) t j round e
break_comes x m t n j e same [] named is = no_jump n j (goal_at x t).break e same (goal_break (slice_get x.program.threads t)) is
break_comes x m t n j e same (form ∷ round) named is = at form.form (break_comes x m t n j e same round) named is where
  at : (f : Enclosing program_forms) → (((g : Target) → (place_of (goal_at x t) round).break ≡ Some g → m.Jumps t g.keep j) → jump_row n j (place_of (goal_at x t) round).break e ≡ Ok same → BreakComes (rules_of x m) t j round e)
      → ((g : Target) → (place_in f form.env (place_of (goal_at x t) round)).break ≡ Some g → m.Jumps t g.keep j) → jump_row n j (place_in f form.env (place_of (goal_at x t) round)).break e ≡ Ok same
      → BreakAt (rules_of x m) t j f form.env e (BreakComes (rules_of x m) t j round e)
  at (Branch joined) later named is = later named is
  at (Turn k left) later named is = keep_comes x m t n j form.env e same left named is

meet_comes : (x : MachineWithProgram) (m : Meanings) (t n : ℕ) (j : JumpTree) (e same : Env) (round : List (Round annotated_language Env)) → ((g : Target) → (place_of (goal_at x t) round).meet ≡ Some g → m.Jumps t g.keep j)
    → jump_row n j (place_of (goal_at x t) round).meet e ≡ Ok same → MeetComes (rules_of x m) t j round e
meet_comes x m t n j e same [] named is = no_jump n j (goal_at x t).meet e same (goal_meet (slice_get x.program.threads t)) is
meet_comes x m t n j e same (form ∷ round) named is = at form.form named is where
  at : (f : Enclosing program_forms) → ((g : Target) → (place_in f form.env (place_of (goal_at x t) round)).meet ≡ Some g → m.Jumps t g.keep j) → jump_row n j (place_in f form.env (place_of (goal_at x t) round)).meet e ≡ Ok same
      → MeetAt (rules_of x m) t j f form.env e
  at (Branch joined) named is = keep_comes x m t n j form.env e same joined named is
  at (Turn k left) named is = no_jump n j None e same refl is

end_is : (goal : Spot) (round : List (Round annotated_language Env)) → (place_of goal round).end ≡ goal.end
end_is goal [] = refl
end_is goal (form ∷ round) = at form.form (end_is goal round) where
  at : (f : Enclosing program_forms) → (place_of goal round).end ≡ goal.end → (place_in f form.env (place_of goal round)).end ≡ goal.end
  at (Branch joined) later = later
  at (Turn k left) later = later

stop_comes : (x : MachineWithProgram) (m : Meanings) (t n : ℕ) (e : Env) (round : List (Round annotated_language Env)) → unended (place_of (goal_at x t) round).kind n ≡ None → FinishComes (rules_of x m) t round e
stop_comes x m t n e [] is = (n, is)
stop_comes x m t n e (form ∷ round) is = at form.form is where
  at : (f : Enclosing program_forms) → unended (place_in f form.env (place_of (goal_at x t) round)).kind n ≡ None → ⊥
  at (Branch joined) is = let no : Some _ ≡ None = is in cc
  at (Turn k left) is = let no : Some _ ≡ None = is in cc

ended_stops : (rest : ListTree) → after_ending rest ≡ None → is_brace rest ≡ true
ended_stops (Brace n) is = refl
ended_stops (Do l n r) is = let no : Some _ ≡ None = is in cc
ended_stops (On a n r) is = let no : Some _ ≡ None = is in cc
ended_stops (OnWhen a n p q k r) is = let no : Some _ ≡ None = is in cc
ended_stops (If c n p q k r) is = let no : Some _ ≡ None = is in cc
ended_stops (Loop k j n b l r) is = let no : Some _ ≡ None = is in cc
ended_stops (Next j n r) is = let no : Some _ ≡ None = is in cc
ended_stops (Break j n r) is = let no : Some _ ≡ None = is in cc
ended_stops (Meet j n r) is = let no : Some _ ≡ None = is in cc
ended_stops (End j n r) is = let no : Some _ ≡ None = is in cc

-- ---- forms

past_goes : (x : MachineWithProgram) (m : Meanings) (t n : ℕ) (joined : Option KeepTree) (e : Env) (rest : ListTree) (round : List (Round annotated_language Env)) → ((k : KeepTree) → joined ≡ Some k → m.Keeps t k) → ((k : KeepTree) → joined ≡ Some k → keep_names_only (is_at_hand_in e.terms k) k ≡ true) → m.Part t (place_of (goal_at x t) round) rest
    → past n (scene_at x t).locals joined e (list_fault (scene_at x t) rest (place_of (goal_at x t) round)) rest ≡ None → GoesPast (rules_of x m) t joined rest round e
past_goes x m t n None e rest round keeps at_hand part is = tt
past_goes x m t n (Some k) e rest round keeps at_hand part is =
    let (now, behind, none) = on_none (after_keep n (scene_at x t).locals k e) (list_fault (scene_at x t) rest (place_of (goal_at x t) round)) is in (now, (n, keeps k refl, at_hand k refl, behind), (none, part))

-- two branches, and what is after them
record Forks (x : MachineWithProgram) (t n : ℕ) (joined : Option KeepTree) (e : Env) (one_row two_row : Outcome Env) (one two rest : ListTree) (p : Spot) : Type 0 where
  into_one : Env
  one_is : one_row ≡ Ok into_one
  one_goes : list_fault (scene_at x t) one (in_branch e joined p) into_one ≡ None
  into_two : Env
  two_is : two_row ≡ Ok into_two
  two_goes : list_fault (scene_at x t) two (in_branch e joined p) into_two ≡ None
  behind : past n (scene_at x t).locals joined e (list_fault (scene_at x t) rest p) rest ≡ None

fork_none : (x : MachineWithProgram) (t n : ℕ) (joined : Option KeepTree) (e : Env) (one_row two_row : Outcome Env) (one two rest : ListTree) (p : Spot)
    → fork (scene_at x t) n joined p e one_row (list_fault (scene_at x t) one) two_row (list_fault (scene_at x t) two) (list_fault (scene_at x t) rest p) rest ≡ None → Forks x t n joined e one_row two_row one two rest p
fork_none x t n joined e one_row two_row one two rest p is =
    let (a, more) = first_none (on one_row (list_fault (scene_at x t) one (in_branch e joined p)))
    (first (on two_row (list_fault (scene_at x t) two (in_branch e joined p))) (past n (scene_at x t).locals joined e (list_fault (scene_at x t) rest p) rest)) is in
    let (b, c) = first_none (on two_row (list_fault (scene_at x t) two (in_branch e joined p))) (past n (scene_at x t).locals joined e (list_fault (scene_at x t) rest p) rest) more in
    let (into_one, one_is, one_goes) = on_none one_row (list_fault (scene_at x t) one (in_branch e joined p)) a in
    let (into_two, two_is, two_goes) = on_none two_row (list_fault (scene_at x t) two (in_branch e joined p)) b in
    record { into_one = into_one; one_is = one_is; one_goes = one_goes; into_two = into_two; two_is = two_is; two_goes = two_goes; behind = c }

-- the branch that is taken
taken_goes : (x : MachineWithProgram) (m : Meanings) (t n : ℕ) (joined : Option KeepTree) (v : ℤ) (e : Env) (one_row two_row : Outcome Env) (one two rest : ListTree) (round : List (Round annotated_language Env)) (forks : Forks x t n joined e one_row two_row one two rest (place_of (goal_at x t) round))
    → ((b : Bool) (e : Env) → m.Part t (in_branch e joined (place_of (goal_at x t) round)) (if b then one else two)) → ((k : KeepTree) → joined ≡ Some k → m.Keeps t k) → ((k : KeepTree) → joined ≡ Some k → keep_names_only (is_at_hand_in e.terms k) k ≡ true) → m.Part t (place_of (goal_at x t) round) rest
    → (b : Bool) → GoesInto (rules_of x m) t (if b then one else two) joined v rest round e (if b then forks.into_one else forks.into_two)
taken_goes x m t n joined v e one_row two_row one two rest round forks parts keeps at_hand part true = ((forks.one_goes, parts true e), past_goes x m t n joined e rest round keeps at_hand part forks.behind)
taken_goes x m t n joined v e one_row two_row one two rest round forks parts keeps at_hand part false = ((forks.two_goes, parts false e), past_goes x m t n joined e rest round keeps at_hand part forks.behind)

-- a loop's row gives what stands after its keep, and its body has no silent `next`
loop_behind : (n : ℕ) (locals : List ℕ) (body : ListTree) (left : Option KeepTree) (k : KeepTree) (j : JumpTree) (e inside : Env) → loop_row n locals (loop_dues body left) k j left e ≡ Ok inside → after_keep n locals k e ≡ Ok inside
loop_behind n locals body left k j e inside is =
    row_gives e n (at_hand_due e j.args [] j.scripts ∷ (keep_due e.terms k ∷ keep_if_due e.terms left) ++ arrive_dues e k j.args (stands e wrap_symbol)) j.scripts (after_keep n locals k e) inside
    (row_gives e n (loop_dues body left) [] (arrive_row n (keep_due e.terms k ∷ keep_if_due e.terms left) k j.args j.scripts (stands e wrap_symbol) e (after_keep n locals k e)) inside is)

loop_silent : (n : ℕ) (locals : List ℕ) (body : ListTree) (left : Option KeepTree) (k : KeepTree) (j : JumpTree) (e inside : Env) → loop_row n locals (loop_dues body left) k j left e ≡ Ok inside → (resting.silent body).next ≡ false
loop_silent n locals body left k j e inside is =
    let wanted : Wanted (loop_dues body left) = row_wanted e n (loop_dues body left) [] (arrive_row n (keep_due e.terms k ∷ keep_if_due e.terms left) k j.args j.scripts (stands e wrap_symbol) e (after_keep n locals k e)) inside is in
    not_true (resting.silent body).next wanted.1.0

-- what the keeps of a loop name is at hand
loop_wanted : (n : ℕ) (locals : List ℕ) (body : ListTree) (left : Option KeepTree) (k : KeepTree) (j : JumpTree) (e inside : Env) → loop_row n locals (loop_dues body left) k j left e ≡ Ok inside
    → Wanted (at_hand_due e j.args [] j.scripts ∷ keep_due e.terms k ∷ keep_if_due e.terms left ++ arrive_dues e k j.args (stands e wrap_symbol))
loop_wanted n locals body left k j e inside is =
    row_wanted e n (at_hand_due e j.args [] j.scripts ∷ keep_due e.terms k ∷ keep_if_due e.terms left ++ arrive_dues e k j.args (stands e wrap_symbol)) j.scripts (after_keep n locals k e) inside
    (row_gives e n (loop_dues body left) [] (arrive_row n (keep_due e.terms k ∷ keep_if_due e.terms left) k j.args j.scripts (stands e wrap_symbol) e (after_keep n locals k e)) inside is)

loop_at_hand : (n : ℕ) (locals : List ℕ) (body : ListTree) (left : Option KeepTree) (k : KeepTree) (j : JumpTree) (e inside : Env) → loop_row n locals (loop_dues body left) k j left e ≡ Ok inside → keep_names_only (is_at_hand_in e.terms k) k ≡ true
loop_at_hand n locals body left k j e inside is = (loop_wanted n locals body left k j e inside is).1.0

left_at_hand : (n : ℕ) (locals : List ℕ) (body : ListTree) (left : Option KeepTree) (k : KeepTree) (j : JumpTree) (e inside : Env) → loop_row n locals (loop_dues body left) k j left e ≡ Ok inside
    → (o : KeepTree) → left ≡ Some o → keep_names_only (is_at_hand_in e.terms o) o ≡ true
left_at_hand n locals body left k j e inside is = keep_wanted e.terms left (arrive_dues e k j.args (stands e wrap_symbol)) (loop_wanted n locals body left k j e inside is).1.1

wanted_tail : (d : Due) (ds : List Due) → Wanted (d ∷ ds) → Wanted ds
wanted_tail (Wants rule b) ds wanted = wanted.1
wanted_tail (Makes t) ds wanted = wanted
wanted_tail (Owes rule f) ds wanted = wanted
wanted_tail (Alone rule f ss) ds wanted = wanted
wanted_tail (Spare ss) ds wanted = wanted

wanted_more : (before : ℕ → Option Tree) (keep : Option KeepTree) → Wanted (keep_if_due before keep) → Wanted (keep_if_due before keep ++ [])
wanted_more before None wanted = wanted
wanted_more before (Some k) wanted = wanted

if_at_hand : (n : ℕ) (c : TestTree) (shape : Due) (joined : Option KeepTree) (e same : Env) → if_row n c shape joined e ≡ Ok same → (k : KeepTree) → joined ≡ Some k → keep_names_only (is_at_hand_in e.terms k) k ≡ true
if_at_hand n c shape joined e same is = keep_wanted e.terms joined [] (wanted_more e.terms joined (wanted_tail shape (keep_if_due e.terms joined)
    (row_wanted e n (shape ∷ keep_if_due e.terms joined) [] (both_fit n c.label (condition e c.cond) (Ok e)) same is)))

wanted_front : (ds more : List Due) → Wanted (ds ++ more) → Wanted ds
wanted_front [] more wanted = tt
wanted_front (Wants rule b ∷ ds) more wanted = (wanted.0, wanted_front ds more wanted.1)
wanted_front (Makes t ∷ ds) more wanted = wanted_front ds more wanted
wanted_front (Owes rule f ∷ ds) more wanted = wanted_front ds more wanted
wanted_front (Alone rule f ss ∷ ds) more wanted = wanted_front ds more wanted
wanted_front (Spare ss ∷ ds) more wanted = wanted_front ds more wanted

choice_at_hand : (n : ℕ) (w : WordTree) (a : ChoiceTree) (one two : ListTree) (joined : Option KeepTree) (e before : Env) → choice_row n w a (when_dues w a one two joined) joined e ≡ Ok before
    → (k : KeepTree) → joined ≡ Some k → keep_names_only (is_at_hand_in before.terms k) k ≡ true
choice_at_hand n w a one two joined e before is k there = at_hand_grows e before (choice_keeping n a.atomic a.test.label (λ now. condition now a.test.cond) e before (row_gives e n dues [] next before is)) k
    (keep_wanted e.terms joined (index_dues e a.atomic.index w.len) (wanted_front (keep_if_due e.terms joined ++ index_dues e a.atomic.index w.len) (index_spare a.atomic.index w.len ∷ []) (row_wanted e n dues [] next before is).1.1.1) k there) where
      dues : List Due
      dues = when_dues w a one two joined ++ at_hand_due e [] [] a.atomic.index.scripts ∷ keep_if_due e.terms joined ++ index_dues e a.atomic.index w.len ++ index_spare a.atomic.index w.len ∷ []

      next : Outcome Env
      next = stepped n a.atomic e >>= (λ now. both_fit n a.test.label (condition now a.test.cond) (Ok now))

-- ---- the rows of lists

choice_goes : (fits : ℤ → Bool) (x : MachineWithProgram) (m : Meanings) (t : ℕ) → Parts x m t → StatementRows fits x m t
    → (a : ChoiceTree) (n : ℕ) (one two : ListTree) (joined : Option KeepTree) (rest : ListTree) (round : List (Round annotated_language Env)) (e : Env) → (rules_of x m).Goes t (OnWhen a n one two joined rest) round e
    → (s : World) → m.Overall s → m.Stands t e round s → PassesUnless m.Spares (choice_step fits x t a s) (λ (y : Bool × World). (before now : Env)
    × Advances (rules_of x m) t s now (branch joined (wrap_of y.1.shares t) before ∷ round) y.1 × GoesInto (rules_of x m) t (if y.0 then one else two) joined (wrap_of y.1.shares t) rest round before now)
choice_goes fits x m t parts rows a n one two joined rest round e (none, part) s whole stands = found (parts.word p a n one two joined rest part) where
  p : Spot
  p = place_of (goal_at x t) round

  one_row : WordTree → Env → Outcome Env
  one_row w now = branch_row (scene_at x t) n (around_tree w e a.atomic) a.test.label (condition now a.test.cond) a.first now

  two_row : WordTree → Env → Outcome Env
  two_row w now = branch_row (scene_at x t) n (around_tree w e a.atomic) a.test.label (neg (condition now a.test.cond)) a.second now

  goes_on : WordTree → Env → Option Refusal
  goes_on w now = fork (scene_at x t) n joined p now (one_row w now) (list_fault (scene_at x t) one) (two_row w now) (list_fault (scene_at x t) two) (list_fault (scene_at x t) rest p) rest

  found : (w : WordTree) × (word_of (scene_at x t) a.atomic.word ≡ Some w) → PassesUnless m.Spares (choice_step fits x t a s) (λ (y : Bool × World). (before now : Env)
      × Advances (rules_of x m) t s now (branch joined (wrap_of y.1.shares t) before ∷ round) y.1 × GoesInto (rules_of x m) t (if y.0 then one else two) joined (wrap_of y.1.shares t) rest round before now)
  found (w, is) =
      let here : on (choice_row n w a (when_dues w a one two joined) joined e) (goes_on w) ≡ None =
      subst (λ o. on_some o None (λ (u : WordTree). on (choice_row n u a (when_dues u a one two joined) joined e) (goes_on u)) ≡ None) is none in
      let (before, before_is, forked) = on_none (choice_row n w a (when_dues w a one two joined) joined e) (goes_on w) here in
      let forks : Forks x t n joined before (one_row w before) (two_row w before) one two rest p = fork_none x t n joined before (one_row w before) (two_row w before) one two rest p forked in
      let (in_branches, keeps, behind) = parts.choice p a n one two joined rest part in
      passes_on m.Spares (choice_step fits x t a s) (λ (y : Bool × World). Advances (rules_of x m) t s (if y.0 then forks.into_one else forks.into_two) (branch joined (wrap_of y.1.shares t) before ∷ round) y.1)
      (λ (y : Bool × World). (before now : Env) × Advances (rules_of x m) t s now (branch joined (wrap_of y.1.shares t) before ∷ round) y.1 × GoesInto (rules_of x m) t (if y.0 then one else two) joined (wrap_of y.1.shares t) rest round before now)
      (rows.choice p a n one two joined rest part w is e before forks.into_one forks.into_two before_is forks.one_is forks.two_is round s whole stands)
      (λ y moves. (
        before,
        (if y.0 then forks.into_one else forks.into_two),
        moves,
        taken_goes x m t n joined (wrap_of y.1.shares t) before (one_row w before) (two_row w before) one two rest round forks in_branches keeps (choice_at_hand n w a one two joined e before before_is) behind y.0,
      ))

-- Where single rows are sound, lists that break no rule go on as Resting asks.
pub rows_of : (fits : ℤ → Bool) (x : MachineWithProgram) (m : Meanings) (t : ℕ) → Parts x m t → StatementRows fits x m t → Rows (rules_of x m) t (annotated_statements fits x t)
rows_of fits x m t parts rows = record {
  local = λ l n rest round e goes s whole stands.
      (let (now, is, none) = on_none (local_row (scene_at x t) n l e) (list_fault (scene_at x t) rest (place_of (goal_at x t) round)) goes.0 in
      passes_on m.Spares ((annotated_statements fits x t).local l s) (λ z. Advances (rules_of x m) t s now round z) (λ z. (now : Env) × Advances (rules_of x m) t s now round z × (rules_of x m).Goes t rest round now)
      (rows.local (place_of (goal_at x t) round) l n rest goes.1 e now is round s whole stands) (λ z moves. (now, moves, (none, parts.local (place_of (goal_at x t) round) l n rest goes.1))));
  shared = λ a n rest round e goes s whole stands.
      (let (now, is, none) = on_none (shared_row (scene_at x t) n a e) (list_fault (scene_at x t) rest (place_of (goal_at x t) round)) goes.0 in
      passes_on m.Spares ((annotated_statements fits x t).shared a s) (λ z. Advances (rules_of x m) t s now round z) (λ z. (now : Env) × Advances (rules_of x m) t s now round z × (rules_of x m).Goes t rest round now)
      (rows.shared (place_of (goal_at x t) round) a n rest goes.1 e now is round s whole stands) (λ z moves. (now, moves, (none, parts.shared (place_of (goal_at x t) round) a n rest goes.1))));
  choice = choice_goes fits x m t parts rows;
  test = λ c n one two joined rest round e goes s whole stands.
      (let p : Spot = place_of (goal_at x t) round in
      let one_row : Outcome Env = tell n c.label (condition e c.cond) e in
      let two_row : Outcome Env = tell n c.label (neg (condition e c.cond)) e in
      let (same, is, forked) = on_none (if_row n c (lists.has_its_keep (lists.has_meet one || lists.has_meet two) joined) joined e)
      (λ same. fork (scene_at x t) n joined p e one_row (list_fault (scene_at x t) one) two_row (list_fault (scene_at x t) two) (list_fault (scene_at x t) rest p) rest) goes.0 in
      let forks : Forks x t n joined e one_row two_row one two rest p = fork_none x t n joined e one_row two_row one two rest p forked in
      let (in_branches, keeps, behind) = parts.test p c n one two joined rest goes.1 in (
        (if satisfies s.memory t c.cond then forks.into_one else forks.into_two),
        rows.test p c n one two joined rest goes.1 e forks.into_one forks.into_two forks.one_is forks.two_is round s whole stands,
        taken_goes x m t n joined (wrap_of s.shares t) e one_row two_row one two rest round forks in_branches keeps (if_at_hand n c (lists.has_its_keep (lists.has_meet one || lists.has_meet two) joined) joined e same is) behind (satisfies s.memory t c.cond),
      ));
  loop = λ k j n body left rest round e goes s whole stands.
      (let p : Spot = place_of (goal_at x t) round in
      let (inside, is, none) = on_none (loop_row n (scene_at x t).locals (loop_dues body left) k j left e)
      (λ inside. first (list_fault (scene_at x t) body (in_loop e k left p) inside) (past n (scene_at x t).locals left e (list_fault (scene_at x t) rest p) rest)) goes.0 in
      let (in_body, past_it) = first_none (list_fault (scene_at x t) body (in_loop e k left p) inside) (past n (scene_at x t).locals left e (list_fault (scene_at x t) rest p) rest) none in
      let (part_body, keep, keeps, part) = parts.loop p k j n body left rest goes.1 in (
        inside,
        rows.loop p k j n body left rest goes.1 e inside is round s whole stands,
        ((n, keep, loop_at_hand n (scene_at x t).locals body left k j e inside is, loop_behind n (scene_at x t).locals body left k j e inside is), (in_body, part_body e), loop_silent n (scene_at x t).locals body left k j e inside is),
        past_goes x m t n left e rest round keeps (left_at_hand n (scene_at x t).locals body left k j e inside is) part past_it,
      ));
  next = λ j n rest round e goes.
      (let (same, is, none) = on_none (jump_row n j (place_of (goal_at x t) round).next e) (λ same. after_ending rest) goes.0 in
      next_comes x m t n j e same round (parts.next (place_of (goal_at x t) round) j n rest goes.1) is);
  break = λ j n rest round e goes.
      (let (same, is, none) = on_none (jump_row n j (place_of (goal_at x t) round).break e) (λ same. after_ending rest) goes.0 in
      break_comes x m t n j e same round (parts.break (place_of (goal_at x t) round) j n rest goes.1) is);
  meet = λ j n rest round e goes.
      (let (same, is, none) = on_none (jump_row n j (place_of (goal_at x t) round).meet e) (λ same. after_ending rest) goes.0 in
      (meet_comes x m t n j e same round (parts.meet (place_of (goal_at x t) round) j n rest goes.1) is, ended_stops rest none));
  end = λ j n rest round e goes.
      (let (same, is, none) = on_none (jump_row n j (place_of (goal_at x t) round).end e) (λ same. ended_by_end (place_of (goal_at x t) round).kind rest) goes.0 in (
        n,
        same,
        (λ g there. parts.end (place_of (goal_at x t) round) j n rest goes.1 g (end_is (goal_at x t) round ∙ there)),
        subst (λ o. jump_row n j o e ≡ Ok same) (end_is (goal_at x t) round) is,
      ));
  brace = λ n round e goes. stop_comes x m t n e round goes.0;
  keep = λ k j form round e behind comes is_behind s whole stands.
      (let (line, same, jumps, comes_is) = comes in let (at, keeps, at_hand, behind_is) = is_behind in
      rows.keep k j keeps jumps form e same behind line at comes_is at_hand behind_is round s whole stands);
  out = rows.out;
  self = rows.self;
  along = rows.along;
}

-- Where the start leaves what the threads begin with, the program rests at each moment of each schedule.
pub after_rests : (fits : ℤ → Bool) (x : MachineWithProgram) (m : Meanings) → Premises (rules_of x m) (annotated_meaning fits x) → (start : StartTree) → x.program.start ≡ Some start
    → PassesUnless m.Spares (start_shares fits x start (memory_of x) (first_shares x (memory_of x))) (λ (h : Shares). Ready (rules_of x m) (annotated_meaning fits x) (record { memory = memory_of x; shares = h }))
    → (sigma : List ℕ) → PassesUnless m.Spares (after_in fits x sigma) (AtRest (rules_of x m) (annotated_meaning fits x))
after_rests fits x m premises start is ready sigma =
    subst (λ o. PassesUnless m.Spares (start_of fits x o >>= events (annotated_meaning fits x) sigma) (AtRest (rules_of x m) (annotated_meaning fits x))) (sym is)
    (then_passes m.Spares (start_of fits x (Some start)) (events (annotated_meaning fits x) sigma) (AtRest (rules_of x m) (annotated_meaning fits x)) (AtRest (rules_of x m) (annotated_meaning fits x))
    (then_passes m.Spares (start_shares fits x start (memory_of x) (first_shares x (memory_of x))) (λ (h : Shares). start_from (annotated_meaning fits x) (record { memory = memory_of x; shares = h }))
    (λ (h : Shares). Ready (rules_of x m) (annotated_meaning fits x) (record { memory = memory_of x; shares = h })) (AtRest (rules_of x m) (annotated_meaning fits x)) ready
    (λ h begins. start_rests annotated_language (rules_of x m) (annotated_meaning fits x) premises (record { memory = memory_of x; shares = h }) begins))
    (λ c rest. events_rest (rules_of x m) (annotated_meaning fits x) premises sigma c rest))
