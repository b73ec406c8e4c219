-- The typing rules of lists as what Resting asks for, and the facts about single rows that are left to prove.
use Rattle.std.specs.Prelude.{◌≡◌, ℕ, ℤ, Bool, true, not, ◌&&◌, ◌||◌, if◌then◌else◌, List, [], ◌∷◌, slice_get, Option, Some, None, Ok}
use Rattle.sync_base.specs.declared.stops.Rule.TheVariants.{A6, T8}
use Rattle.sync_terms.specs.Trees.{neg}
use Rattle.sync_thread.specs.Code.{satisfies}
use Rattle.sync_thread.specs.Control.{Halt, Brace, Do, On, OnWhen, If, Loop, Next, Break, Meet, End}
use Rattle.sync_thread.specs.Programs.{WordTree, KeepTree, JumpTree, LocalTree, SharedTree, ChoiceTree, TestTree, ThreadTree, ListTree, program_forms}
use Rattle.sync_thread.specs.Resting.{silent, Enclosing, Branch, Turn, Round, branch, turn, Rules, PassesUnless, Advances}
use Rattle.sync_thread_machine.specs.MachineWithProgram.{MachineWithProgram}
use Rattle.sync_thread_machine.specs.ProgramSymbols.{wrap_symbol}
use Rattle.sync_thread_meaning.specs.Meaning.{World, annotated_language, local_step, shared_step, choice_step, keep_step}
use Rattle.sync_thread_meaning.specs.Shares.{wrap_of}
use Rattle.sync_typing.specs.Blocks.{is_block_shaped}
use Rattle.sync_typing.specs.Dues.{Due, Wants}
use Rattle.sync_typing.specs.Environments.{Env, on_some, stands, tell}
use Rattle.sync_typing.specs.Keeps.{keep_names_only, is_at_hand_in, after_keep}
use Rattle.sync_typing.specs.Lists.{Spot, Scene, Target, in_branch, in_loop, local_row, shared_row, choice_row, branch_row, loop_row, jump_row, around_tree, word_of, has_its_keep, has_meet, has_break, unended, list_fault}
use Rattle.sync_typing.specs.Locals.{condition}
use Rattle.sync_typing.specs.Typing.{scene_of, thread_place, final_place}

-- ---- where a list stands

abbrev pub last_list : Option ListTree → ListTree
last_list None = Brace 0
last_list (Some body) = body

-- the list of thread t, or of the final block
abbrev pub body_at : MachineWithProgram → ℕ → ListTree
body_at x t = on_some (slice_get x.program.threads t) (last_list x.program.last) (λ (u : ThreadTree). u.body)

abbrev pub goal_at : MachineWithProgram → ℕ → Spot
goal_at x t = on_some (slice_get x.program.threads t) final_place thread_place

abbrev pub scene_at : MachineWithProgram → ℕ → Scene
scene_at x t = scene_of x (body_at x t)

abbrev pub place_in : Enclosing program_forms → Env → Spot → Spot
place_in (Branch joined) e p = in_branch e joined p
place_in (Turn k left) e p = in_loop e k left p

-- where jumps go from inside these forms
abbrev pub place_of : Spot → List (Round annotated_language Env) → Spot
place_of goal [] = goal
place_of goal (form ∷ round) = place_in form.form form.env (place_of goal round)

abbrev pub aim : Env → KeepTree → Target
aim e k = record { keep = k; wrap = stands e wrap_symbol }

-- ---- what environments mean

-- Besides what Resting asks for: what the rules on names say of a list at a place, of keeps and of jumps to them.
pub record Meanings : Type 1 where
  pub Stands : ℕ → Env → List (Round annotated_language Env) → World → Type 0
  pub Overall : World → Type 0
  pub Stays : ℕ → World → World → Type 0
  pub HasLeft : ℕ → World → Type 0
  pub HasNothing : World → Type 0
  pub HasTaken : World → Type 0
  pub Spares : Halt → Type 0
  pub Part : ℕ → Spot → ListTree → Type 0
  pub Keeps : ℕ → KeepTree → Type 0
  pub Jumps : ℕ → KeepTree → JumpTree → Type 0

abbrev pub rules_of : MachineWithProgram → Meanings → Rules annotated_language
rules_of x m = record {
  Env = Env;
  Goes =
      λ t list round e.
      (list_fault (scene_at x t) list (place_of (goal_at x t) round) e ≡ None) × m.Part t
      (place_of (goal_at x t) round) list;
  Comes =
      λ t k j before e. (line : ℕ) × (same : Env) × m.Jumps t k j × (jump_row line j (Some (aim before k)) e ≡ Ok same);
  After =
      λ t k e now.
      (line : ℕ) × m.Keeps t k × (keep_names_only (is_at_hand_in e.terms k) k ≡ true) ×
      (after_keep line (scene_at x t).locals k e ≡ Ok now);
  MayEnd =
      λ t j e. (line : ℕ) × (same : Env) × ((g : Target) → (goal_at x t).end ≡ Some g
      → m.Jumps t g.keep j) × (jump_row line j (goal_at x t).end e ≡ Ok same);
  MayFinish = λ t e. (line : ℕ) × (unended (goal_at x t).kind line ≡ None);
  Stands = m.Stands;
  Overall = m.Overall;
  Stays = m.Stays;
  HasLeft = m.HasLeft;
  HasNothing = m.HasNothing;
  HasTaken = m.HasTaken;
  Spares = m.Spares;
}

-- ---- lists by their parts

-- the rules on names pass from a list to its parts
pub record Parts (x : MachineWithProgram) (m : Meanings) (t : ℕ) : Type 0 where
  pub local : (p : Spot) (l : LocalTree) (n : ℕ) (rest : ListTree) → m.Part t p (Do l n rest) → m.Part t p rest
  pub shared : (p : Spot) (a : SharedTree) (n : ℕ) (rest : ListTree) → m.Part t p (On a n rest) → m.Part t p rest
  pub word : (p : Spot) (a : ChoiceTree) (n : ℕ) (one two : ListTree) (joined : Option KeepTree) (rest : ListTree)
      → m.Part t p (OnWhen a n one two joined rest) → (w : WordTree) × (word_of (scene_at x t) a.atomic.word ≡ Some w)
  pub choice : (p : Spot) (a : ChoiceTree) (n : ℕ) (one two : ListTree) (joined : Option KeepTree) (rest : ListTree)
      → m.Part t p (OnWhen a n one two joined rest)
      → ((b : Bool) (e : Env) → m.Part t (in_branch e joined p) (if b then one else two)) × ((k : KeepTree)
      → joined ≡ Some k → m.Keeps t k) × m.Part t p rest
  pub test : (p : Spot) (c : TestTree) (n : ℕ) (one two : ListTree) (joined : Option KeepTree) (rest : ListTree)
      → m.Part t p (If c n one two joined rest)
      → ((b : Bool) (e : Env) → m.Part t (in_branch e joined p) (if b then one else two)) × ((k : KeepTree)
      → joined ≡ Some k → m.Keeps t k) × m.Part t p rest
  pub loop : (p : Spot) (k : KeepTree) (j : JumpTree) (n : ℕ) (body : ListTree) (left : Option KeepTree)
      (rest : ListTree) → m.Part t p (Loop k j n body left rest)
      → ((e : Env) → m.Part t (in_loop e k left p) body) × m.Keeps t k × ((o : KeepTree) → left ≡ Some o
      → m.Keeps t o) × m.Part t p rest
  pub next : (p : Spot) (j : JumpTree) (n : ℕ) (rest : ListTree) → m.Part t p (Next j n rest) → (g : Target)
      → p.next ≡ Some g → m.Jumps t g.keep j
  pub break : (p : Spot) (j : JumpTree) (n : ℕ) (rest : ListTree) → m.Part t p (Break j n rest) → (g : Target)
      → p.break ≡ Some g → m.Jumps t g.keep j
  pub meet : (p : Spot) (j : JumpTree) (n : ℕ) (rest : ListTree) → m.Part t p (Meet j n rest) → (g : Target)
      → p.meet ≡ Some g → m.Jumps t g.keep j
  pub end : (p : Spot) (j : JumpTree) (n : ℕ) (rest : ListTree) → m.Part t p (End j n rest) → (g : Target)
      → p.end ≡ Some g → m.Jumps t g.keep j

-- ---- rows

-- the dues of the forms that lists stand in
abbrev pub when_dues : WordTree → ChoiceTree → ListTree → ListTree → Option KeepTree → List Due
when_dues w a one two joined =
    has_its_keep (has_meet one || has_meet two) joined
    ∷ Wants A6 (is_block_shaped w a.first && is_block_shaped w a.second) ∷ []

abbrev pub loop_dues : ListTree → Option KeepTree → List Due
loop_dues body left = has_its_keep (has_break body) left ∷ Wants T8 (not (silent body).next) ∷ []

-- The facts about single rows: where the environment stands and the row gives another, the statement does not fail and
-- the other stands. They speak of one statement each, and of no list.
pub record StatementRows (fits : ℤ → Bool) (x : MachineWithProgram) (m : Meanings) (t : ℕ) : Type 0 where
  pub local : (p : Spot) (l : LocalTree) (n : ℕ) (rest : ListTree) → m.Part t p (Do l n rest) → (e now : Env)
      → local_row (scene_at x t) n l e ≡ Ok now
      → (round : List (Round annotated_language Env)) (s : World) → m.Overall s → m.Stands t e round s
      → PassesUnless m.Spares (local_step fits x t l s) (λ z. Advances (rules_of x m) t s now round z)
  pub shared : (p : Spot) (a : SharedTree) (n : ℕ) (rest : ListTree) → m.Part t p (On a n rest) → (e now : Env)
      → shared_row (scene_at x t) n a e ≡ Ok now
      → (round : List (Round annotated_language Env)) (s : World) → m.Overall s → m.Stands t e round s
      → PassesUnless m.Spares (shared_step fits x t a s) (λ z. Advances (rules_of x m) t s now round z)
  pub choice : (p : Spot) (a : ChoiceTree) (n : ℕ) (one two : ListTree) (joined : Option KeepTree) (rest : ListTree)
      → m.Part t p (OnWhen a n one two joined rest)
      → (w : WordTree) → word_of (scene_at x t) a.atomic.word ≡ Some w → (e before first second : Env)
      → choice_row n w a (when_dues w a one two joined) joined e ≡ Ok before
      → branch_row (scene_at x t) n (around_tree w e a.atomic) a.test.label
      (condition before a.test.cond) a.first before ≡ Ok first
      → branch_row (scene_at x t) n (around_tree w e a.atomic) a.test.label
      (neg (condition before a.test.cond)) a.second before ≡ Ok second
      → (round : List (Round annotated_language Env)) (s : World) → m.Overall s → m.Stands t e round s
      → PassesUnless m.Spares (choice_step fits x t a s) (λ (y : Bool × World). Advances (rules_of x m) t s (if y.0
      then first else second) (branch joined (wrap_of y.1.shares t) before ∷ round) y.1)
  pub test : (p : Spot) (c : TestTree) (n : ℕ) (one two : ListTree) (joined : Option KeepTree) (rest : ListTree)
      → m.Part t p (If c n one two joined rest)
      → (e first second : Env) → tell n c.label (condition e c.cond) e ≡ Ok first
      → tell n c.label (neg (condition e c.cond)) e ≡ Ok second
      → (round : List (Round annotated_language Env)) (s : World) → m.Overall s → m.Stands t e round s
      → m.Stands t (if satisfies s.memory t c.cond then first
      else second) (branch joined (wrap_of s.shares t) e ∷ round) s
  pub loop : (p : Spot) (k : KeepTree) (j : JumpTree) (n : ℕ) (body : ListTree) (left : Option KeepTree)
      (rest : ListTree) → m.Part t p (Loop k j n body left rest)
      → (e inside : Env) → loop_row n (scene_at x t).locals (loop_dues body left) k j left e ≡ Ok inside
      → (round : List (Round annotated_language Env)) (s : World) → m.Overall s → m.Stands t e round s
      → PassesUnless m.Spares (keep_step fits x t k j (wrap_of s.shares t) s) (λ z.
      Advances (rules_of x m) t s inside (turn k left (wrap_of s.shares t) e ∷ round) z)
  pub keep : (k : KeepTree) (j : JumpTree) → m.Keeps t k → m.Jumps t k j
      → (form : Round annotated_language Env) (e same now : Env) (line at : ℕ)
      → jump_row line j (Some (aim form.env k)) e ≡ Ok same
      → keep_names_only (is_at_hand_in form.env.terms k) k ≡ true
      → after_keep at (scene_at x t).locals k form.env ≡ Ok now
      → (round : List (Round annotated_language Env)) (s : World) → m.Overall s → m.Stands t e (form ∷ round) s
      → PassesUnless m.Spares (keep_step fits x t k j form.saved s) (λ z.
      Advances (rules_of x m) t s now (form ∷ round) z)
  pub out : (e : Env) (form : Round annotated_language Env) (round : List (Round annotated_language Env)) (s : World)
      → m.Stands t e (form ∷ round) s → m.Stands t e round s
  pub self : (s : World) → m.Stays t s s
  pub along : (s z y : World) → m.Stays t s z → m.Stays t z y → m.Stays t s y
