-- The first rule that a program breaks: its start, its threads, its final block.
use Rattle.std.specs.Prelude.{ℕ, suc, ◌-◌, pos, Bool, true, false, ◌&&◌, ◌||◌, nat_eq, nat_lt, List, [], ◌∷◌, ◌++◌, map, slice_get, Option, Some, None, option_map, Ok, if◌then◌else◌}
use Rattle.std.specs.List.{list_all, range_with_len}
use Rattle.sync_base.specs.Outcome.{first, ◌>>=◌}
use Rattle.sync_base.specs.declared.stops.Refusal.{Refusal}
use Rattle.sync_base.specs.declared.stops.Rule.TheVariants.{A5, T10}
use Rattle.sync_terms.specs.Trees.{Tree, Lit}
use Rattle.sync_base.specs.declared.strategies.Strategy.{Strategy}
use Rattle.sync_base.specs.declared.strategies.Strategy.TheVariants as strategies
use Rattle.sync_thread.specs.declared.operands.CodeDecl.{CodeDecl}
use Rattle.sync_machine.specs.Machines.{ActTree, StepTree, OperationTree, MachineTree}
use Rattle.sync_machine.specs.Machines as acts
use Rattle.sync_machine.specs.States.{strategy_at}
use Rattle.sync_join.specs.Shards.{perm}
use Rattle.sync_thread.specs.Programs.{WordTree, KeepTree, ThreadTree, StartTree, ProgramTree, DoTree, ProofTree, ProofStepTree, Seal, Give, ListTree, ScriptTree, ClosingTree, is_unclaimed}
use Rattle.sync_thread.specs.Arrays.{words_in, first_cells, name_limit}
use Rattle.sync_thread_machine.specs.MachineWithProgram.{MachineWithProgram, fields_of, decls_of}
use Rattle.sync_thread_machine.specs.ProgramSymbols.{first_fresh}
use Rattle.sync_typing.specs.Symbols.{Names}
use Rattle.sync_typing.specs.Environments.{Env, TokenTree, Outcome, on_some, refused, name_as, take_in}
use Rattle.sync_typing.specs.Dues.{Wants, Makes, row}
use Rattle.sync_typing.specs.Exchanging.{Deal, deal_of, dealt, opening_dues, deal_effect}
use Rattle.sync_typing.specs.Blocks.{proof_row, closing_row, with_op}
use Rattle.sync_typing.specs.Keeps.{keep_due, arrive_row, own_tokens, at_beginning}
use Rattle.sync_typing.specs.Lists.{Scene, Spot, OfThread, OfFinal, named_word, list_fault, assigned_locals, end_line, on}

-- ---- threads that are given once, words that are sealed once

abbrev pub count_of : {A : Type 0} → (A → Bool) → List A → ℕ
count_of p [] = 0
count_of p (x ∷ xs) = if p x then suc (count_of p xs) else count_of p xs

abbrev pub gives_thread : ℕ → ProofStepTree → Bool
gives_thread n s = of s.what where
  of : ProofTree → Bool
  of (Give m args ss) = nat_eq n m
  of other = false

abbrev pub seals : ℕ → ℕ → ProofStepTree → Bool
seals n i s = of s.what where
  of : ProofTree → Bool
  of (Seal m j c) = nat_eq n m && nat_eq i j
  of other = false

abbrev pub has_no_names : List ℕ → Bool
has_no_names [] = true
has_no_names (n ∷ ns) = false

abbrev pub is_sealed : List ProofStepTree → WordTree → Bool
is_sealed ss w =
    (is_unclaimed w && has_no_names w.names)
    || list_all (λ i. nat_eq (count_of (seals w.name i) ss) 1) (range_with_len 0 w.len)

abbrev pub is_complete : ProgramTree → List ProofStepTree → Bool
is_complete p ss =
    list_all (λ (t : ThreadTree). nat_eq (count_of (gives_thread t.name) ss) 1) p.threads
    && list_all (is_sealed ss) (words_in p.decls)

-- ---- the start

abbrev pub is_constant : Strategy → Bool
is_constant strategies.Constant = true
is_constant other = false

-- a permission for each element of each cell
abbrev pub permission_of : ℕ → Option ℕ → Option TokenTree
permission_of k content =
    option_map (λ (c : ℕ). record { field = perm; key = Lit (pos k); value = Lit (pos c) }) content

abbrev pub first_hand : List CodeDecl → ℕ → Option TokenTree
first_hand ds n =
    if nat_lt n name_limit then None else permission_of (n - name_limit) (slice_get (first_cells ds) (n - name_limit))

abbrev pub first_env : List CodeDecl → Env
first_env ds = record { terms = λ x. None; hand = first_hand ds; facts = []; fresh = first_fresh }

-- the constants that an init gives their first values
abbrev pub first_constants : MachineWithProgram → Deal → List StepTree → Names
first_constants x d [] = []
first_constants x d (s ∷ ss) = of s.act ++ first_constants x d ss where
  of : ActTree → Names
  of (acts.Init f t) = if is_constant (strategy_at (fields_of x) f) then (f, dealt d t) ∷ [] else []
  of act = []

abbrev pub name_each : Names → Env → Env
name_each [] e = e
name_each (n ∷ ns) e = name_each ns (name_as n.0 n.1 e)

-- the start's exchange: as of a `do`; its constants are known to its scripts
abbrev pub first_row : ℕ → MachineWithProgram → OperationTree → DoTree → Env → Outcome Env
first_row line x o d e = with_constants (first_constants x (deal_of x o d e) o.steps) where
  with_constants : Names → Outcome Env
  with_constants cs =
      row (name_each cs e) line
      (opening_dues x o d e ++ map (λ (c : ℕ × Tree). Makes c.1) cs ++ (deal_of x o d e).dues) d.scripts
      (deal_effect line o d (deal_of x o d e) (name_each cs e))

abbrev pub named_thread : ℕ → List ThreadTree → Option ThreadTree
named_thread n [] = None
named_thread n (t ∷ ts) = if nat_eq n t.name then Some t else named_thread n ts

-- of what the start knows the constants alone are left
abbrev pub constants : Env → ℕ → Option Tree
constants e x = if nat_lt x 32 then e.terms x else None

-- In the keeps of a thread `wrap` names nothing, and has no value to bring.
abbrev pub no_wrap : Tree
no_wrap = Lit (pos 0)

-- the thread's tokens leave the hand
abbrev pub give_row : ℕ → ThreadTree → List Tree → List ScriptTree → Env → Outcome Env
give_row line t args ss e =
    arrive_row line (keep_due (constants e) t.takes ∷ []) t.takes args ss no_wrap e
    (take_in line (own_tokens t.takes) [] e)

abbrev pub seal_row : ℕ → List CodeDecl → WordTree → ℕ → ClosingTree → Env → Outcome Env
seal_row line ds w i c e = closing_row line ds (Wants A5 (nat_lt i w.len) ∷ []) w (Lit (pos i)) (Lit (pos w.init)) c e

abbrev pub start_step : MachineWithProgram → ProofStepTree → Env → Outcome Env
start_step x s e = of s.what where
  of : ProofTree → Outcome Env
  of (Seal w i c) =
      on_some (named_word w (words_in x.program.decls)) (Ok e) (λ (d : WordTree). seal_row s.line (decls_of x) d i c e)
  of (Give t args ss) =
      on_some (named_thread t x.program.threads) (Ok e) (λ (d : ThreadTree). give_row s.line d args ss e)
  of other = proof_row x s.line other e

abbrev pub start_steps : MachineWithProgram → List ProofStepTree → Env → Outcome Env
start_steps x [] e = Ok e
start_steps x (s ∷ ss) e = start_step x s e >>= start_steps x ss

-- what is known after the start
abbrev pub start_row : MachineWithProgram → StartTree → Outcome Env
start_row x s =
    if is_complete x.program s.steps then with_op x s.form.op (refused s.line T10)
    (λ o. first_row s.line x o s.form (first_env (decls_of x)) >>= start_steps x s.steps)
    else refused s.line T10

-- ---- the threads and the final block

abbrev pub scene_of : MachineWithProgram → ListTree → Scene
scene_of x body = record { text = x; locals = assigned_locals body [] }

-- the final block's list just ends; a thread ends at its `ends` keep
abbrev pub final_place : Spot
final_place = record { kind = OfFinal; next = None; break = None; meet = None; end = None }

abbrev pub thread_place : ThreadTree → Spot
thread_place t =
    record final_place { kind = OfThread; end = Some (record { keep = t.ends; wrap = no_wrap }) }

-- a list at its beginning, from keeps, where e is what is known after the start
abbrev pub list_from : MachineWithProgram → ℕ → Spot → List KeepTree → ListTree → Env → Option Refusal
list_from x line place ks body e =
    on (at_beginning line (constants e) (assigned_locals body []) ks first_fresh)
    (list_fault (scene_of x body) body place)

abbrev pub thread_fault : MachineWithProgram → Env → ThreadTree → Option Refusal
thread_fault x e t =
    on (row (first_env []) t.line (keep_due (constants e) t.ends ∷ []) [] (Ok (first_env [])))
    (λ same. list_from x t.line (thread_place t) (t.takes ∷ []) t.body e)

abbrev pub threads_fault : MachineWithProgram → Env → List ThreadTree → Option Refusal
threads_fault x e [] = None
threads_fault x e (t ∷ ts) = first (thread_fault x e t) (threads_fault x e ts)

abbrev pub all_ends : ProgramTree → List KeepTree
all_ends p = map (λ (t : ThreadTree). t.ends) p.threads

-- what is too large where the final block is entered is refused at the line of its closing brace
abbrev pub final_fault : MachineWithProgram → Env → Option ListTree → Option Refusal
final_fault x e None = None
final_fault x e (Some body) = list_from x (end_line body) final_place (all_ends x.program) body e

-- The first rule of T, A, I2, K and K8 that a text's program breaks.
abbrev pub program_fault : MachineWithProgram → Option Refusal
program_fault x =
    on_some x.program.start None (λ (s : StartTree). on (start_row x s)
    (λ e. first (threads_fault x e x.program.threads) (final_fault x e x.program.last)))

abbrev pub type_fault : MachineTree → ProgramTree → Option Refusal
type_fault m p = program_fault (record { machine = m; program = p })
