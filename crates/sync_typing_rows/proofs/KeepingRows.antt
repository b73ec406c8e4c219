-- The meaning's half of the rows on keeps: what the rules let come to a keep comes there, and its thread goes on with what it says.
use Rattle.std.proofs.Common.{arith}
use Rattle.std.specs.List.{list_all}
use Rattle.std.specs.Prelude.{◌≡◌, ℕ, ◌≤◌, ℤ, Bool, true, List, [], ◌∷◌, length, map, Option, Some, Ok, Err}
use Rattle.sync_base.specs.Outcome.{◌>>=◌}
use Rattle.sync_kernel_facts.specs.Laws.{AreTrue}
use Rattle.sync_machine.specs.Naming.{is_in}
use Rattle.sync_terms.specs.Values.{num}
use Rattle.sync_thread.specs.Control.{Halt}
use Rattle.sync_thread.specs.Programs.{KeepTree, JumpTree, ScriptTree, program_forms}
use Rattle.sync_thread.specs.Resting.{PassesUnless, Enclosing, Round}
use Rattle.sync_thread.specs.Symbols.{wrap_symbol}
use Rattle.sync_thread_machine.specs.MachineWithProgram.{MachineWithProgram, fields_of}
use Rattle.sync_thread_meaning.specs.Meaning.{World, Arrival, keep_step, arrived, annotated_language}
use Rattle.sync_thread_meaning.specs.Shares.{given_to, nowhere_near, sight_of, wrap_of}
use Rattle.sync_typing.specs.Dues.{Due, pay, spare, row}
use Rattle.sync_typing.specs.Environments.{Env, Outcome, read, stands as term_of}
use Rattle.sync_typing.specs.Keeps.{keep_names_only, is_at_hand_in, keep_due, keep_if_due, arrive_row, after_keep}
use Rattle.sync_typing.specs.Lists.{assigned_locals, jump_row, loop_row}
use Rattle.sync_typing.specs.Names.{known_here, keep_is_named, jump_is_named, is_number, as_many, none_in}
use Rattle.sync_typing_laws.proofs.KeepingTerms.{and_first}
use Rattle.sync_typing_laws.specs.Rests.{IsTidy}
use Rattle.sync_typing_laws.specs.Ruling.{aim, body_at}
use Rattle.sync_typing_laws.specs.Standing.{Chain, Standing, Stayed}
use Rattle.sync_typing_rows.proofs.KeepingArrive.{passes_then, SparesAt, Arrives, arrived_passes}
use Rattle.sync_typing_rows.proofs.KeepingCame.{kept_at, kept_stays, kept_came}
use Rattle.sync_typing_rows.proofs.KeepingStands.{Came}
use mathlib.Core.Path.{refl}

-- what a keep's step gives: the thread alone goes on, and has what the keep says
pub record Kept (x : MachineWithProgram) (t : ℕ) (s : World) (k : KeepTree) (vals : List ℤ) (saved : ℤ) (z : World) : Type 0 where
  pub arrival : Arrival
  pub arrives : Arrives x t s k vals saved arrival
  pub is : z ≡ kept_at t saved arrival s
  pub stays : Stayed x t s z
  pub came : Came x k (given_to k.names vals) saved t s z

pub keep_passes : AreTrue → (fits : ℤ → Bool) (spares : Halt → Type 0) (x : MachineWithProgram) (known : Env) (t : ℕ) → length (fields_of x) ≤ 32 → t ≤ length x.program.threads
    → (k : KeepTree) (j : JumpTree) → keep_is_named x (known_here x) k ≡ true → none_in k.names (assigned_locals (body_at x t) []) ≡ true → jump_is_named (known_here x) j (Some k) ≡ true
    → (form : Round annotated_language Env) (e same : Env) (line : ℕ) → jump_row line j (Some (aim form.env k)) e ≡ Ok same → keep_names_only (is_at_hand_in form.env.terms k) k ≡ true
    → (round : List (Round annotated_language Env)) (s : World) → SparesAt fits spares (sight_of (fields_of x) s.memory s.shares t nowhere_near).valuation → IsTidy x s → (is : Standing x known t e (form ∷ round) s)
    → PassesUnless spares (keep_step fits x t k j form.saved s) (Kept x t s k (map (num is.values) (map (read e) j.args)) form.saved)
keep_passes laws fits spares x known t few below k j named binds jumps form e same line row at_hand round s wide tidy is =
    passes_then spares (arrived fits x s t k j.args form.saved) (λ (a : Arrival). Ok (kept_at t form.saved a s)) (Arrives x t s k vals form.saved) (Kept x t s k vals form.saved)
    (arrived_passes laws fits spares x (λ y. is_in y (assigned_locals (body_at x t) [])) is.values form.env e t s wide (record { few = few; stands = is.stands; unsaid = is.unsaid }) is.chain.0.scoped k named at_hand j.args
    (and_first (list_all (is_number (known_here x)) j.args) (as_many j.args k.names) jumps) (term_of form.env wrap_symbol) form.saved is.chain.0.wrap line [] j.scripts (Ok e) same row)
    (λ a arrives. record {
      arrival = a;
      arrives = arrives;
      is = refl;
      stays = kept_stays x t form.saved a s;
      came = kept_came x t below k vals form.saved a s tidy arrives binds is.stands.no_proofs;
    }) where
      vals : List ℤ
      vals = map (num is.values) (map (read e) j.args)

-- ---- a loop is come to from before it

-- a form that begins here stands with those round it
pub begins : (x : MachineWithProgram) (known : Env) (t : ℕ) (e : Env) (form : Enclosing program_forms) (round : List (Round annotated_language Env)) (s : World) → (is : Standing x known t e round s)
    → Chain x known is.values e.fresh s (record { form = form; saved = wrap_of s.shares t; env = e } ∷ round)
begins x known t e form round s is =
    (record { scoped = is.stands.scoped; constants = is.stands.constants; same = is.same; wrap = is.stands.wrap; lasting = is.lasting; before = (let same : e.fresh ≤ e.fresh = omega arith in same) }, is.chain)

pub row_next : {X : Type 0} (e : Env) (line : ℕ) (dues : List Due) (ss : List ScriptTree) (next : Outcome X) (y : X) → row e line dues ss next ≡ Ok y → next ≡ Ok y
row_next e line dues ss next y is = from (pay e line dues ss) is where
  from : (o : Outcome (List ScriptTree)) → (o >>= (λ left. spare left next)) ≡ Ok y → next ≡ Ok y
  from (Ok []) is = is
  from (Ok (r ∷ rs)) is = let no : Err _ ≡ Ok y = is in cc
  from (Err r) is = let no : Err r ≡ Ok y = is in cc

pub loop_passes : AreTrue → (fits : ℤ → Bool) (spares : Halt → Type 0) (x : MachineWithProgram) (known : Env) (t : ℕ) → length (fields_of x) ≤ 32 → t ≤ length x.program.threads
    → (k : KeepTree) (j : JumpTree) (left : Option KeepTree) → keep_is_named x (known_here x) k ≡ true → none_in k.names (assigned_locals (body_at x t) []) ≡ true → jump_is_named (known_here x) j (Some k) ≡ true
    → (e inside : Env) (line : ℕ) (locals : List ℕ) (shape : List Due) → loop_row line locals shape k j left e ≡ Ok inside → keep_names_only (is_at_hand_in e.terms k) k ≡ true
    → (round : List (Round annotated_language Env)) (s : World) → SparesAt fits spares (sight_of (fields_of x) s.memory s.shares t nowhere_near).valuation → IsTidy x s → (is : Standing x known t e round s)
    → PassesUnless spares (keep_step fits x t k j (wrap_of s.shares t) s) (Kept x t s k (map (num is.values) (map (read e) j.args)) (wrap_of s.shares t))
loop_passes laws fits spares x known t few below k j left named binds jumps e inside line locals shape row at_hand round s wide tidy is =
    passes_then spares (arrived fits x s t k j.args saved) (λ (a : Arrival). Ok (kept_at t saved a s)) (Arrives x t s k vals saved) (Kept x t s k vals saved)
    (arrived_passes laws fits spares x (λ y. is_in y (assigned_locals (body_at x t) [])) is.values e e t s wide (record { few = few; stands = is.stands; unsaid = is.unsaid }) is.stands.scoped k named at_hand j.args
    (and_first (list_all (is_number (known_here x)) j.args) (as_many j.args k.names) jumps) (term_of e wrap_symbol) saved is.stands.wrap line (keep_due e.terms k ∷ keep_if_due e.terms left) j.scripts (after_keep line locals k e) inside
    (row_next e line shape [] (arrive_row line (keep_due e.terms k ∷ keep_if_due e.terms left) k j.args j.scripts (term_of e wrap_symbol) e (after_keep line locals k e)) inside row))
    (λ a arrives. record {
      arrival = a;
      arrives = arrives;
      is = refl;
      stays = kept_stays x t saved a s;
      came = kept_came x t below k vals saved a s tidy arrives binds is.stands.no_proofs;
    }) where
      saved : ℤ
      saved = wrap_of s.shares t

      vals : List ℤ
      vals = map (num is.values) (map (read e) j.args)
