-- The rows of local statements that touch no token, of `print` and of `if`, in the words of StatementRows.
use Rattle.std.specs.Prelude.{◌≡◌, ℕ, ℤ, ◌≤◌, ◌<◌, Bool, true, false, not, ◌&&◌, ◌||◌, if◌then◌else◌, nat_eq, List, [], ◌∷◌, ◌++◌, length, Option, Some, None, Result, Ok}
use Rattle.std.specs.List.{list_all}
use Rattle.std.proofs.lemmas.Bool.{and_parts, ltb-true}
use Rattle.std.proofs.lemmas.List.Folds.{list_all-append}
use Rattle.sync_terms.specs.Trees.{Tree, Formula, neg}
use Rattle.sync_kernel_facts.specs.Laws.{AreTrue}
use Rattle.sync_machine.specs.Naming.{is_in}
use Rattle.sync_exchange_values.specs.Fitting.{number_fits}
use Rattle.sync_thread.specs.Arrays.{name_limit}
use Rattle.sync_thread.specs.Code.{satisfies}
use Rattle.sync_thread.specs.Control.{Halt, Wide, Brace, Do, On, OnWhen, If, Loop, Next, Break, Meet, End}
use Rattle.sync_thread.specs.Programs.{ScriptTree, Set, Proof, Let, Move, Assert, Print, LocalTree, SharedTree, Read, Write, Peek, Operate, TestTree, KeepTree, ListTree}
use Rattle.sync_thread.specs.Resting.{Round, PassesUnless, Advances, branch}
use Rattle.sync_thread.specs.declared.operands.Calc.{Calc}
use Rattle.sync_thread.specs.declared.operands.Opd.{Opd}
use Rattle.sync_thread.specs.declared.operands.Tok.{Tok}
use Rattle.sync_thread_machine.specs.MachineWithProgram.{MachineWithProgram, fields_of}
use Rattle.sync_thread_machine.specs.ProgramSymbols.{wrap_symbol}
use Rattle.sync_thread_meaning.specs.Meaning.{World, annotated_language, local_step, shared_step}
use Rattle.sync_thread_meaning.specs.Shares.{wrap_of, nowhere_near, sight_of}
use Rattle.sync_typing.specs.Environments.{Env, tell}
use Rattle.sync_typing.specs.Lists.{Spot, assigned_locals, assigned_here, assigned_by, with_local, with_local_if, local_row, shared_row}
use Rattle.sync_typing.specs.Locals.{condition}
use Rattle.sync_typing.specs.Names.{list_is_named, local_is_named, calc_is_named, cond_is_named, is_name, is_number, is_formula, known_with, none_in, proof_names, are_names}
use Rattle.sync_typing_laws.proofs.LocalProofs.{let_goes, assert_goes, print_goes}
use Rattle.sync_typing_laws.proofs.LocalRows.{AreFew, test_row}
use Rattle.sync_typing_laws.proofs.LocalTokens.{move_goes}
use Rattle.sync_typing_laws.specs.Rests.{IsPart, aims_of}
use Rattle.sync_typing_laws.specs.Ruling.{body_at, scene_at, Meanings, rules_of}
use Rattle.sync_typing_laws.proofs.LocalStatements as sets
use mathlib.Core.Path.{refl, sym, subst, ◌∙◌}
use Rattle.sync_typing_laws.specs.Standing.{IsWholeState, Standing, standing_in}

-- ---- what the rules on names say of one statement

assigned_kept : (p : ℕ → Bool) (x : ℕ) (xs : List ℕ) → list_all p (with_local x xs) ≡ true → list_all p xs ≡ true
assigned_kept p x xs is = tested (is_in x xs) is where
  tested : (b : Bool) → list_all p (if b then xs else xs ++ x ∷ []) ≡ true → list_all p xs ≡ true
  tested true h = h
  tested false h = (and_parts (list_all p xs) (list_all p (x ∷ [])) (sym (list_all-append p xs (x ∷ [])) ∙ h)).0

if_kept : (p : ℕ → Bool) (x : Option ℕ) (xs : List ℕ) → list_all p (with_local_if x xs) ≡ true → list_all p xs ≡ true
if_kept p None xs is = is
if_kept p (Some x) xs is = assigned_kept p x xs is

here_kept : (p : ℕ → Bool) (l : LocalTree) (xs : List ℕ) → list_all p (assigned_here l xs) ≡ true → list_all p xs ≡ true
here_kept p (Set x calc label) xs is = assigned_kept p x xs is
here_kept p (Proof f) xs is = is

by_kept : (p : ℕ → Bool) (a : SharedTree) (xs : List ℕ) → list_all p (assigned_by a xs) ≡ true → list_all p xs ≡ true
by_kept p (Read x c i n ss) xs is = assigned_kept p x xs is
by_kept p (Peek x c i d) xs is = assigned_kept p x xs is
by_kept p (Operate a b) xs is = if_kept p a.local xs is
by_kept p (Write c i a n ss) xs is = is
by_kept p (Print l o) xs is = is

-- what passes behind others passes alone
pub list_kept : (p : ℕ → Bool) (list : ListTree) (xs : List ℕ) → list_all p (assigned_locals list xs) ≡ true → list_all p xs ≡ true
list_kept p (Brace n) xs is = is
list_kept p (Do l n rest) xs is = here_kept p l xs (list_kept p rest (assigned_here l xs) is)
list_kept p (On a n rest) xs is = by_kept p a xs (list_kept p rest (assigned_by a xs) is)
list_kept p (OnWhen a n one two joined rest) xs is = if_kept p a.atomic.local xs (list_kept p one (with_local_if a.atomic.local xs) (list_kept p two (assigned_locals one (with_local_if a.atomic.local xs)) (list_kept p rest (assigned_locals two (assigned_locals one (with_local_if a.atomic.local xs))) is)))
list_kept p (If c n one two joined rest) xs is = list_kept p one xs (list_kept p two (assigned_locals one xs) (list_kept p rest (assigned_locals two (assigned_locals one xs)) is))
list_kept p (Loop k j n body left rest) xs is = list_kept p body xs (list_kept p rest (assigned_locals body xs) is)
list_kept p (Next j n rest) xs is = list_kept p rest xs is
list_kept p (Break j n rest) xs is = list_kept p rest xs is
list_kept p (Meet j n rest) xs is = list_kept p rest xs is
list_kept p (End j n rest) xs is = list_kept p rest xs is

not_is : (b : Bool) → not b ≡ true → b ≡ false
not_is true is = let no : false ≡ true = is in cc
not_is false is = refl

in_names : (ns : List ℕ) → are_names ns ≡ true → (y : ℕ) → is_in y ns ≡ true → y < name_limit
in_names [] all y inside = absurd (let no : false ≡ true = inside in cc)
in_names (n ∷ ns) all y inside = tested (nat_eq y n) refl inside (in_names ns (and_parts (is_name n) (are_names ns) all).1 y) where
  tested : (b : Bool) → nat_eq y n ≡ b → (b || is_in y ns) ≡ true → (is_in y ns ≡ true → y < name_limit) → y < name_limit
  tested true same h later = subst (λ d. d < name_limit) (sym (sets.same_number y n same)) (ltb-true n name_limit (and_parts (is_name n) (are_names ns) all).0)
  tested false other h later = later h

-- the locals of a thread are names
pub few_names : (x : MachineWithProgram) (t : ℕ) → are_names (assigned_locals (body_at x t) []) ≡ true → AreFew x t
few_names x t all y inside = in_names (assigned_locals (body_at x t) []) all y inside

-- ---- the rows

passes_ok : {A : Type 0} (spares : Halt → Type 0) (r : Result A Halt) (good : A → Type 0) (z : A) → r ≡ Ok z → good z → PassesUnless spares r good
passes_ok spares r good z is g = subst (λ d. PassesUnless spares d good) (sym is) g

module _ (fits : ℤ → Bool) (x : MachineWithProgram) (known : Env) (spares : Halt → Type 0) (m : Meanings) (laws : AreTrue) (few : length (fields_of x) ≤ 32) (t : ℕ) (there : t ≤ length x.program.threads) (names : are_names (assigned_locals (body_at x t) []) ≡ true) where
  abbrev pub Local : LocalTree → Type 0
  Local l = (p : Spot) (n : ℕ) (rest : ListTree) → IsPart x (scene_at x t).locals p (Do l n rest) → (e now : Env) → local_row (scene_at x t) n l e ≡ Ok now
      → (round : List (Round annotated_language Env)) (s : World) → IsWholeState x s → Standing x known t e round s → PassesUnless spares (local_step fits x t l s) (λ z. Advances (rules_of x (standing_in x known spares m)) t s now round z)

  -- `x = ..`
  pub set_local : (y : ℕ) (c : Calc) (label : Option ℕ) → Local (Set y c label)
  set_local y c label p n rest part e now row round s whole is =
      let inside : list_all (λ i. is_in i (assigned_locals (body_at x t) [])) (y ∷ []) ≡ true = list_kept (λ i. is_in i (assigned_locals (body_at x t) [])) rest (y ∷ []) part.assigns in
      let here : is_in y (assigned_locals (body_at x t) []) ≡ true = (and_parts (is_in y (assigned_locals (body_at x t) [])) true inside).0 in
      let named : calc_is_named (assigned_locals (body_at x t) []) c ≡ true = (and_parts (local_is_named x (scene_at x t).locals (Set y c label)) (list_is_named x (scene_at x t).locals (aims_of p) rest) part.named).0 in
      let g = sets.set_row_goes x known t few (few_names x t names) round s whole there fits n y c label e now row named here is in
      passes_ok spares (local_step fits x t (Set y c label) s) (λ z. Advances (rules_of x (standing_in x known spares m)) t s now round z) g.0 g.1 (g.2, g.3, g.4)

  -- `let`
  pub let_local : ((s : World) (u : Tree) → number_fits fits (sight_of (fields_of x) s.memory s.shares t nowhere_near).valuation u ≡ false → spares Wide) → (y : ℕ) (u : Tree) → Local (Proof (Let y u))
  let_local wide y u p n rest part e now row round s whole is =
      let named : (is_name y && is_number (known_with x (wrap_symbol ∷ [])) u) ≡ true = (and_parts (local_is_named x (scene_at x t).locals (Proof (Let y u))) (list_is_named x (scene_at x t).locals (aims_of p) rest) part.named).0 in
      let both = and_parts (is_name y) (is_number (known_with x (wrap_symbol ∷ [])) u) named in
      let binds : (not (is_in y (assigned_locals (body_at x t) [])) && none_in (proof_names rest) (assigned_locals (body_at x t) [])) ≡ true = part.binds in
      let free = not_is (is_in y (assigned_locals (body_at x t) [])) (and_parts (not (is_in y (assigned_locals (body_at x t) []))) (none_in (proof_names rest) (assigned_locals (body_at x t) [])) binds).0 in
      let_goes x known t few laws round s whole there fits spares n y u e now row (ltb-true y name_limit both.0) free both.1 (wide s u) is

  -- `assert`
  pub assert_local : (f : Formula) (label : Option ℕ) (ss : List ScriptTree) → Local (Proof (Assert f label ss))
  assert_local f label ss p n rest part e now row round s whole is =
      let named : is_formula (known_with x (wrap_symbol ∷ [])) f ≡ true = (and_parts (local_is_named x (scene_at x t).locals (Proof (Assert f label ss))) (list_is_named x (scene_at x t).locals (aims_of p) rest) part.named).0 in
      assert_goes x known t few laws round s whole there fits spares n f label ss e now row named is

  -- `move`
  pub move_local : (tok : Tok) (into : ℕ) → Local (Proof (Move tok into))
  move_local tok into p n rest part e now row round s whole is = move_goes x known t laws round s whole there fits spares n tok into e now row is

  -- `print`
  pub print_shared : (label : ℕ) (o : Opd) (p : Spot) (n : ℕ) (rest : ListTree) → IsPart x (scene_at x t).locals p (On (Print label o) n rest) → (e now : Env) → shared_row (scene_at x t) n (Print label o) e ≡ Ok now
      → (round : List (Round annotated_language Env)) (s : World) → IsWholeState x s → Standing x known t e round s → PassesUnless spares (shared_step fits x t (Print label o) s) (λ z. Advances (rules_of x (standing_in x known spares m)) t s now round z)
  print_shared label o p n rest part e now row round s whole is =
      subst (λ d. PassesUnless spares (shared_step fits x t (Print label o) s) (λ z. Advances (rules_of x (standing_in x known spares m)) t s d round z)) (let k : Ok e ≡ Ok now = row in cc) (print_goes x known t few laws round s whole there fits spares label o e is)

  -- the condition of an `if`
  pub if_test : (p : Spot) (c : TestTree) (n : ℕ) (one two : ListTree) (joined : Option KeepTree) (rest : ListTree) → IsPart x (scene_at x t).locals p (If c n one two joined rest)
      → (e first second : Env) → tell n c.label (condition e c.cond) e ≡ Ok first → tell n c.label (neg (condition e c.cond)) e ≡ Ok second
      → (round : List (Round annotated_language Env)) (s : World) → IsWholeState x s → Standing x known t e round s
      → Standing x known t (if satisfies s.memory t c.cond then first else second) (branch joined (wrap_of s.shares t) e ∷ round) s
  if_test p c n one two joined rest part e first second holds fails round s whole is =
      test_row x known t (few_names x t names) c.cond (and_first (cond_is_named (assigned_locals (body_at x t) []) c.cond) _ part.named) n c.label joined e first second holds fails round s is where
        and_first : (a b : Bool) → (a && b) ≡ true → a ≡ true
        and_first a b h = (and_parts a b h).0
