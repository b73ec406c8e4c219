-- A list that keeps the rules ends up before a shared step, or leaves by a way that the rules allow, and so on through
-- the forms round it.
use Rattle.std.specs.Prelude.{ℕ, Bool, true, false, ◌||◌, if◌then◌else◌, List, [], ◌∷◌, ◌++◌, Option, Some, None}
use Rattle.std.specs.Prelude.{Result, Ok, Err, ◌≡◌}
use mathlib.Core.Path.{refl, sym, subst, ◌∙◌}
use Rattle.sync_thread.specs.Control.{Halt, Broken, Language, Stms, Brace, Do, On, OnWhen, If, Loop, Next, Break, Meet}
use Rattle.sync_thread.specs.Control.{End, Frame, InBranch, InLoop, Signal, At, Nexts, Breaks, Meets, Ends, Over, Fails}
use Rattle.sync_thread.specs.Control.{StatementMeaning, from_state, kept_by, after_branch, after_fresh_body}
use Rattle.sync_thread.specs.Control.{after_older_body, after_choice, run, unwind, step}
use Rattle.sync_thread.specs.Resting.{Silent, no_way, either, after_branches, silent, is_step, Round, branch, turn}
use Rattle.sync_thread.specs.Resting.{Rules, PassesUnless, Advances, GoesPast, GoesRound, GoesInto, ComesTo, NextComes}
use Rattle.sync_thread.specs.Resting.{BreakComes, MeetComes, FinishComes, Rows, Framed}

-- all ways are open
abbrev pub free : Silent
free = record { next = true; break = true; meet = true }

-- before a shared step, with frames up to the forms `round`
pub record Halted {g : Language} (r : Rules g) (t : ℕ) (start : g.State) (round : List (Round g r.Env))
    (rest : Stms g.forms) (frames : List (Frame g)) (s : g.State) : Type 0 where
  pub env : r.Env
  pub inner : List (Round g r.Env)
  pub waits : is_step rest ≡ true
  pub goes : r.Goes t rest inner env
  pub moves : Advances r t start env inner s
  pub framed : Framed r t frames inner round

-- How a list ends in the forms `round`, by ways that are open in m; thread t went from `start` on.
abbrev pub Arrives : {g : Language} (r : Rules g) → ℕ → g.State → List (Round g r.Env) → Silent → Signal g → Type 0
Arrives r t start round m (At rest frames s) = Halted r t start round rest frames s
Arrives r t start round m (Nexts j s) =
    (m.next ≡ true) × (e : r.Env) × NextComes r t j round e × Advances r t start e round s
Arrives r t start round m (Breaks j s) =
    (m.break ≡ true) × (e : r.Env) × BreakComes r t j round e × Advances r t start e round s
Arrives r t start round m (Meets j s) =
    (m.meet ≡ true) × (e : r.Env) × MeetComes r t j round e × Advances r t start e round s
Arrives r t start round m (Ends j s) = (e : r.Env) × r.MayEnd t j e × Advances r t start e round s
Arrives r t start round m (Over s) = (e : r.Env) × FinishComes r t round e × Advances r t start e round s
Arrives r t start round m (Fails h) = r.Spares h

pub passes_on : {A : Type 0} (spares : Halt → Type 0) (x : Result A Halt) (one two : A → Type 0)
    → PassesUnless spares x one → ((y : A) → one y → two y) → PassesUnless spares x two
passes_on spares (Ok y) one two is then_so = then_so y is
passes_on spares (Err h) one two is then_so = is

loose : {g : Language} (r : Rules g) (t : ℕ) (start : g.State) (round : List (Round g r.Env)) (m n : Silent)
    → (m.next ≡ true → n.next ≡ true) → (m.break ≡ true → n.break ≡ true) → (m.meet ≡ true → n.meet ≡ true)
    → (o : Signal g) → Arrives r t start round m o → Arrives r t start round n o
loose r t start round m n a b c (At rest frames s) is = is
loose r t start round m n a b c (Nexts j s) (way, e, comes, moves) = (a way, e, comes, moves)
loose r t start round m n a b c (Breaks j s) (way, e, comes, moves) = (b way, e, comes, moves)
loose r t start round m n a b c (Meets j s) (way, e, comes, moves) = (c way, e, comes, moves)
loose r t start round m n a b c (Ends j s) is = is
loose r t start round m n a b c (Over s) is = is
loose r t start round m n a b c (Fails h) is = is

pub open_all : {g : Language} (r : Rules g) (t : ℕ) (start : g.State) (round : List (Round g r.Env)) (m : Silent)
    (o : Signal g)
    → Arrives r t start round m o → Arrives r t start round free o
open_all r t start round m o = loose r t start round m free (λ x. refl) (λ x. refl) (λ x. refl) o

from_passes : {g : Language} (r : Rules g) (t : ℕ) (start : g.State) (round : List (Round g r.Env)) (m : Silent)
    (x : Result g.State Halt) (good : g.State → Type 0) (on : g.State → Signal g)
    → PassesUnless r.Spares x good → ((s : g.State) → good s → Arrives r t start round m (on s))
    → Arrives r t start round m (from_state x on)
from_passes r t start round m (Ok s) good on is then_so = then_so s is
from_passes r t start round m (Err h) good on is then_so = is

-- thread t went on
further : {g : Language} (r : Rules g) (t : ℕ) (w : StatementMeaning g) (rows : Rows r t w) (start s z : g.State)
    (e now : r.Env) (round over : List (Round g r.Env))
    → Advances r t start e round s → Advances r t s now over z → Advances r t start now over z
further r t w rows start s z e now round over (whole, stays, stands) (whole', stays', stands') =
    (whole', rows.along start s z stays stays', stands')

step_out : {g : Language} (r : Rules g) (t : ℕ) (w : StatementMeaning g) (rows : Rows r t w) (start s : g.State)
    (e : r.Env) (form : Round g r.Env) (round : List (Round g r.Env))
    → Advances r t start e (form ∷ round) s → Advances r t start e round s
step_out r t w rows start s e form round (whole, stays, stands) = (whole, stays, rows.out e form round s stands)

-- the frames of a list inside one more frame
in_more : {g : Language} (r : Rules g) (t : ℕ) (f : Frame g) (fs : List (Frame g))
    (inner middle outer : List (Round g r.Env))
    → Framed r t fs inner middle → Framed r t (f ∷ []) middle outer → Framed r t (fs ++ f ∷ []) inner outer
in_more r t f [] inner middle outer is more = subst (λ x. Framed r t (f ∷ []) x outer) (sym is) more
in_more r t f (InBranch joined rest v ∷ fs) inner middle outer (e, round, same, past, framed) more =
    (e, round, same, past, in_more r t f fs round middle outer framed more)
in_more r t f (InLoop k body left rest v ∷ fs) inner middle outer (e, round, same, again, past, framed) more =
    (e, round, same, again, past, in_more r t f fs round middle outer framed more)

-- what stands after a form arrives from what its keep says
abbrev RestArrives : {g : Language} (r : Rules g) → ℕ → g.State → List (Round g r.Env) → Silent → Stms g.forms
    → (g.State → Signal g) → Type 0
RestArrives r t start round m rest on =
    (s : _) (e : r.Env) → r.Goes t rest round e → Advances r t start e round s → Arrives r t start round m (on s)

kept_arrives : {g : Language} (r : Rules g) (t : ℕ) (w : StatementMeaning g) (rows : Rows r t w) (start : g.State)
    (keep : Option g.forms.Keep) (rest : Stms g.forms) (form : Round g r.Env) (round : List (Round g r.Env))
    (m : Silent) (on : g.State → Signal g)
    → RestArrives r t start round m rest on → GoesPast r t keep rest round form.env
    → (j : g.forms.Jump) (s : g.State) (e : r.Env) → ComesTo r t keep j form.env e
    → Advances r t start e (form ∷ round) s
    → Arrives r t start round m (from_state (kept_by w keep j form.saved s) on)
kept_arrives r t w rows start None rest form round m on arrives past j s e comes moves = absurd comes
kept_arrives r t w rows start (Some k) rest form round m on arrives (beyond, is_behind, goes) j s e comes moves =
    from_passes r t start round m (w.keep k j form.saved s) (λ z. Advances r t s beyond (form ∷ round) z) on
    (rows.keep k j form round e beyond comes is_behind s moves.0 moves.2)
    (λ z is. arrives z beyond goes (step_out r t w rows start z beyond form round
    (further r t w rows start s z e beyond (form ∷ round) (form ∷ round) moves is)))

-- past a branch
branch_arrives : {g : Language} (r : Rules g) (t : ℕ) (w : StatementMeaning g) (rows : Rows r t w) (start : g.State)
    (joined : Option g.forms.Keep) (rest : Stms g.forms) (v : g.Saved) (before : r.Env) (round : List (Round g r.Env))
    (m n : Silent) (on : g.State → Signal g)
    → GoesPast r t joined rest round before → (m.next ≡ true → n.next ≡ true) → (m.break ≡ true → n.break ≡ true)
    → (m.meet ≡ true → RestArrives r t start round n rest on)
    → (o : Signal g) → Arrives r t start (branch joined v before ∷ round) m o
    → Arrives r t start round n (after_branch w joined rest v on o)
branch_arrives r t w rows start joined rest v before round m n on past a b c (At ss fs s) is = record {
  env = is.env;
  inner = is.inner;
  waits = is.waits;
  goes = is.goes;
  moves = is.moves;
  framed =
      in_more r t (InBranch joined rest v) fs is.inner (branch joined v before ∷ round) round is.framed
      (before, round, refl, past, refl);
}
branch_arrives r t w rows start joined rest v before round m n on past a b c (Meets j s) (way, e, comes, moves) =
    kept_arrives r t w rows start joined rest (branch joined v before) round n on (c way) past j s e comes moves
branch_arrives r t w rows start joined rest v before round m n on past a b c (Nexts j s) (way, e, comes, moves) =
    (a way, e, comes, step_out r t w rows start s e (branch joined v before) round moves)
branch_arrives r t w rows start joined rest v before round m n on past a b c (Breaks j s) (way, e, comes, moves) =
    (b way, e, comes, step_out r t w rows start s e (branch joined v before) round moves)
branch_arrives r t w rows start joined rest v before round m n on past a b c (Ends j s) (e, may, moves) =
    (e, may, step_out r t w rows start s e (branch joined v before) round moves)
branch_arrives r t w rows start joined rest v before round m n on past a b c (Over s) (e, may, moves) = absurd may
branch_arrives r t w rows start joined rest v before round m n on past a b c (Fails h) is = is

-- past a body that was begun since the last shared step
turn_arrives : {g : Language} (r : Rules g) (t : ℕ) (w : StatementMeaning g) (rows : Rows r t w) (start : g.State)
    (k : g.forms.Keep) (body : Stms g.forms) (left : Option g.forms.Keep) (rest : Stms g.forms) (v : g.Saved)
    (before inside : r.Env) (round : List (Round g r.Env)) (m n : Silent) (on : g.State → Signal g)
    → GoesRound r t k body left v round before inside → GoesPast r t left rest round before → m.next ≡ false
    → (m.break ≡ true → RestArrives r t start round n rest on)
    → (o : Signal g) → Arrives r t start (turn k left v before ∷ round) m o
    → Arrives r t start round n (after_fresh_body w k body left rest v on o)
turn_arrives r t w rows start k body left rest v before inside round m n on again past no_next b (At ss fs s) is =
    record {
      env = is.env;
      inner = is.inner;
      waits = is.waits;
      goes = is.goes;
      moves = is.moves;
      framed =
          in_more r t (InLoop k body left rest v) fs is.inner (turn k left v before ∷ round) round is.framed
          (before, round, refl, (inside, again), past, refl);
    }
turn_arrives r t w rows start k body left rest v before inside round m n on again past no_next b (Breaks j s)
    (way, e, comes, moves) =
    kept_arrives r t w rows start left rest (turn k left v before) round n on (b way) past j s e comes moves
turn_arrives r t w rows start k body left rest v before inside round m n on again past no_next b (Nexts j s)
    (way, e, comes, moves) = let no : false ≡ true = sym no_next ∙ way in cc
turn_arrives r t w rows start k body left rest v before inside round m n on again past no_next b (Meets j s)
    (way, e, comes, moves) = absurd comes
turn_arrives r t w rows start k body left rest v before inside round m n on again past no_next b (Over s)
    (e, may, moves) = absurd may
turn_arrives r t w rows start k body left rest v before inside round m n on again past no_next b (Ends j s)
    (e, may, moves) = (e, may, step_out r t w rows start s e (turn k left v before) round moves)
turn_arrives r t w rows start k body left rest v before inside round m n on again past no_next b (Fails h) is = is

-- ---- lists

or_left : (a b : Bool) → a ≡ true → (a || b) ≡ true
or_left true b is = refl
or_left false b is = let no : false ≡ true = is in cc

pub or_right : (a b : Bool) → b ≡ true → (a || b) ≡ true
or_right true b is = refl
or_right false b is = is

-- the ways of one branch are ways of both
record Among (m n : Silent) : Type 0 where
  next : m.next ≡ true → n.next ≡ true
  break : m.break ≡ true → n.break ≡ true
  meet : m.meet ≡ true → n.meet ≡ true

among_first : (m n : Silent) → Among m (either m n)
among_first m n =
    record { next = or_left m.next n.next; break = or_left m.break n.break; meet = or_left m.meet n.meet }

among_second : (m n : Silent) → Among n (either m n)
among_second m n =
    record { next = or_right m.next n.next; break = or_right m.break n.break; meet = or_right m.meet n.meet }

-- where the branches meet the ways of the rest are ways of all
behind_meet : (m n : Silent) → m.meet ≡ true → Among n (after_branches m n)
behind_meet m n is = record {
  next =
      λ x. or_right m.next (if m.meet then n else no_way).next
      (subst (λ b. (if b then n else no_way).next ≡ true) (sym is) x);
  break =
      λ x. or_right m.break (if m.meet then n else no_way).break
      (subst (λ b. (if b then n else no_way).break ≡ true) (sym is) x);
  meet = λ x. subst (λ b. (if b then n else no_way).meet ≡ true) (sym is) x;
}

-- past two branches, of which one is run
fork_arrives : {g : Language} (r : Rules g) (t : ℕ) (w : StatementMeaning g) (rows : Rows r t w) (start : g.State)
    (joined : Option g.forms.Keep) (rest : Stms g.forms) (v : g.Saved) (before : r.Env) (round : List (Round g r.Env))
    (one two : Silent)
    → GoesPast r t joined rest round before → RestArrives r t start round (silent rest) rest (run w rest)
    → (m : Silent) → Among m (either one two) → (o : Signal g)
    → Arrives r t start (branch joined v before ∷ round) m o
    → Arrives r t start round (after_branches (either one two) (silent rest))
    (after_branch w joined rest v (run w rest) o)
fork_arrives r t w rows start joined rest v before round one two past arrives m among o is =
    branch_arrives r t w rows start joined rest v before round m (after_branches (either one two) (silent rest))
    (run w rest) past
    (λ x. or_left (either one two).next (if (either one two).meet then silent rest else no_way).next (among.next x))
    (λ x. or_left (either one two).break (if (either one two).meet then silent rest else no_way).break (among.break x))
    (λ x s e goes moves. (let more : Among (silent rest) (after_branches (either one two) (silent rest)) = behind_meet
    (either one two) (silent rest) (among.meet x) in
    loose r t start round (silent rest) (after_branches (either one two) (silent rest)) more.next more.break more.meet
    (run w rest s) (arrives s e goes moves)))
    o is

-- the branch that is run
choose_arrives : {g : Language} (r : Rules g) (t : ℕ) (w : StatementMeaning g) (rows : Rows r t w) (start : g.State)
    (one two : Stms g.forms) (joined : Option g.forms.Keep) (rest : Stms g.forms) (v : g.Saved) (before now : r.Env)
    (round : List (Round g r.Env)) (s : g.State)
    → RestArrives r t start (branch joined v before ∷ round) (silent one) one (run w one)
    → RestArrives r t start (branch joined v before ∷ round) (silent two) two (run w two)
    → RestArrives r t start round (silent rest) rest (run w rest)
    → (b : Bool) → GoesInto r t (if b then one else two) joined v rest round before now
    → Advances r t start now (branch joined v before ∷ round) s
    → Arrives r t start round (after_branches (either (silent one) (silent two)) (silent rest))
    (after_branch w joined rest v (run w rest) (if b then run w one s else run w two s))
choose_arrives r t w rows start one two joined rest v before now round s in_one in_two beyond true (goes, past) moves =
    fork_arrives r t w rows start joined rest v before round (silent one) (silent two) past beyond (silent one)
    (among_first (silent one) (silent two)) (run w one s) (in_one s now goes moves)
choose_arrives r t w rows start one two joined rest v before now round s in_one in_two beyond false (goes, past) moves =
    fork_arrives r t w rows start joined rest v before round (silent one) (silent two) past beyond (silent two)
    (among_second (silent one) (silent two)) (run w two s) (in_two s now goes moves)

loop_arrives : {g : Language} (r : Rules g) (t : ℕ) (w : StatementMeaning g) (rows : Rows r t w) (start : g.State)
    (k : g.forms.Keep) (body : Stms g.forms) (left : Option g.forms.Keep) (rest : Stms g.forms) (v : g.Saved)
    (before inside : r.Env) (round : List (Round g r.Env)) (s : g.State)
    → RestArrives r t start (turn k left v before ∷ round) (silent body) body (run w body)
    → RestArrives r t start round (silent rest) rest (run w rest)
    → GoesRound r t k body left v round before inside → GoesPast r t left rest round before
    → Advances r t start inside (turn k left v before ∷ round) s
    → Arrives r t start round (if (silent body).break then silent rest else no_way)
    (after_fresh_body w k body left rest v (run w rest) (run w body s))
loop_arrives r t w rows start k body left rest v before inside round s in_body beyond again past moves =
    turn_arrives r t w rows start k body left rest v before inside round (silent body)
    (if (silent body).break then silent rest else no_way) (run w rest) again past again.2
    (λ x s e goes moves. subst (λ b. Arrives r t start round (if b then silent rest else no_way) (run w rest s))
    (sym x) (beyond s e goes moves))
    (run w body s) (in_body s inside again.1 moves)

-- a list that keeps the rules
pub run_arrives : {g : Language} (r : Rules g) (t : ℕ) (w : StatementMeaning g) (rows : Rows r t w) (start : g.State)
    (list : Stms g.forms) (round : List (Round g r.Env))
    → RestArrives r t start round (silent list) list (run w list)
unfolding run
run_arrives r t w rows start (Brace n) round s e goes moves = (e, rows.brace n round e goes, moves)
run_arrives r t w rows start (Do l n rest) round s e goes moves =
    from_passes r t start round (silent rest) (w.local l s) (λ z. (now : r.Env) × Advances r t s now round z
    × r.Goes t rest round now) (run w rest) (rows.local l n rest round e goes s moves.0 moves.2)
    (λ z is. run_arrives r t w rows start rest round z is.0 is.2
    (further r t w rows start s z e is.0 round round moves is.1))
run_arrives r t w rows start (On a n rest) round s e goes moves =
    record { env = e; inner = round; waits = refl; goes = goes; moves = moves; framed = refl }
run_arrives r t w rows start (OnWhen a n one two joined rest) round s e goes moves =
    record { env = e; inner = round; waits = refl; goes = goes; moves = moves; framed = refl }
run_arrives r t w rows start (If c n one two joined rest) round s e goes moves =
    let (now, stands, into) = rows.test c n one two joined rest round e goes s moves.0 moves.2 in
    choose_arrives r t w rows start one two joined rest (w.save s) e now round s
    (run_arrives r t w rows start one (branch joined (w.save s) e ∷ round))
    (run_arrives r t w rows start two (branch joined (w.save s) e ∷ round))
    (run_arrives r t w rows start rest round) (w.test c s) into (moves.0, moves.1, stands)
run_arrives r t w rows start (Loop k j n body left rest) round s e goes moves =
    let (inside, satisfies, again, past) = rows.loop k j n body left rest round e goes s moves.0 moves.2 in
    from_passes r t start round (if (silent body).break then silent rest else no_way) (w.keep k j (w.save s) s)
    (λ z. Advances r t s inside (turn k left (w.save s) e ∷ round) z)
    (λ z. after_fresh_body w k body left rest (w.save s) (run w rest) (run w body z)) satisfies
    (λ z is. loop_arrives r t w rows start k body left rest (w.save s) e inside round z
    (run_arrives r t w rows start body (turn k left (w.save s) e ∷ round)) (run_arrives r t w rows start rest round)
    again past (further r t w rows start s z e inside round (turn k left (w.save s) e ∷ round) moves is))
run_arrives r t w rows start (Next j n rest) round s e goes moves = (refl, e, rows.next j n rest round e goes, moves)
run_arrives r t w rows start (Break j n rest) round s e goes moves =
    (refl, e, rows.break j n rest round e goes, moves)
run_arrives r t w rows start (Meet j n rest) round s e goes moves =
    let (comes, last) = rows.meet j n rest round e goes in
    subst (λ b. Arrives r t start round (silent (Meet j n rest)) (if b then Meets j s else Fails Broken)) (sym last)
    (refl, e, comes, moves)
run_arrives r t w rows start (End j n rest) round s e goes moves = (e, rows.end j n rest round e goes, moves)

-- ---- frames

-- past a body that was begun before the last shared step
body_arrives : {g : Language} (r : Rules g) (t : ℕ) (w : StatementMeaning g) (rows : Rows r t w) (start : g.State)
    (k : g.forms.Keep) (body : Stms g.forms) (left : Option g.forms.Keep) (rest : Stms g.forms) (v : g.Saved)
    (before inside : r.Env) (round : List (Round g r.Env))
    → GoesRound r t k body left v round before inside → GoesPast r t left rest round before
    → (o : Signal g) → Arrives r t start (turn k left v before ∷ round) free o
    → Arrives r t start round free (after_older_body w k body left rest v o)
body_arrives r t w rows start k body left rest v before inside round again past o is = by_way o is where
  -- all but a `next`: as past a body that has no silent one
  once : Silent
  once = record { next = false; break = true; meet = true }

  as_turn : (o : Signal _) → Arrives r t start (turn k left v before ∷ round) once o
      → Arrives r t start round free (after_fresh_body w k body left rest v (run w rest) o)
  as_turn o is =
      turn_arrives r t w rows start k body left rest v before inside round once free (run w rest) again past refl
      (λ x s e goes moves. open_all r t start round (silent rest) (run w rest s)
      (run_arrives r t w rows start rest round s e goes moves)) o is

  by_way : (o : Signal _) → Arrives r t start (turn k left v before ∷ round) free o
      → Arrives r t start round free (after_older_body w k body left rest v o)
  by_way (Nexts j s) (way, e, comes, moves) =
      from_passes r t start round free (w.keep k j v s) (λ z. Advances r t s inside (turn k left v before ∷ round) z)
      (λ z. after_fresh_body w k body left rest v (run w rest) (run w body z))
      (rows.keep k j (turn k left v before) round e inside comes again.0 s moves.0 moves.2)
      (λ z is. open_all r t start round (if (silent body).break then silent rest else no_way)
      (after_fresh_body w k body left rest v (run w rest) (run w body z))
      (loop_arrives r t w rows start k body left rest v before inside round z
      (run_arrives r t w rows start body (turn k left v before ∷ round)) (run_arrives r t w rows start rest round)
      again past (further r t w rows start s z e inside (turn k left v before ∷ round)
      (turn k left v before ∷ round) moves is)))
  by_way (At ss fs s) is = as_turn (At ss fs s) is
  by_way (Breaks j s) is = as_turn (Breaks j s) is
  by_way (Meets j s) is = as_turn (Meets j s) is
  by_way (Over s) is = as_turn (Over s) is
  by_way (Ends j s) is = as_turn (Ends j s) is
  by_way (Fails h) is = is

-- the frames round a list
pub unwind_arrives : {g : Language} (r : Rules g) (t : ℕ) (w : StatementMeaning g) (rows : Rows r t w)
    (start : g.State) (fs : List (Frame g)) (inner outer : List (Round g r.Env))
    → Framed r t fs inner outer
    → (o : Signal g) → Arrives r t start inner free o → Arrives r t start outer free (unwind w fs o)
unfolding unwind
unwind_arrives r t w rows start [] inner outer framed o is = subst (λ x. Arrives r t start x free o) framed is
unwind_arrives r t w rows start (InBranch joined rest v ∷ fs) inner outer (e, round, same, past, framed) o is =
    unwind_arrives r t w rows start fs round outer framed (after_branch w joined rest v (run w rest) o)
    (branch_arrives r t w rows start joined rest v e round free free (run w rest) past (λ x. refl) (λ x. refl)
    (λ x s e goes moves. open_all r t start round (silent rest) (run w rest s)
    (run_arrives r t w rows start rest round s e goes moves))
    o (subst (λ x. Arrives r t start x free o) same is))
unwind_arrives r t w rows start (InLoop k body left rest v ∷ fs) inner outer
    (e, round, same, (inside, again), past, framed) o is =
    unwind_arrives r t w rows start fs round outer framed (after_older_body w k body left rest v o)
    (body_arrives r t w rows start k body left rest v e inside round again past o
    (subst (λ x. Arrives r t start x free o) same is))

-- ---- steps

chosen_arrives : {g : Language} (r : Rules g) (t : ℕ) (w : StatementMeaning g) (rows : Rows r t w) (start : g.State)
    (one two : Stms g.forms) (joined : Option g.forms.Keep) (rest : Stms g.forms) (round : List (Round g r.Env))
    (s : g.State) (e : r.Env)
    → Advances r t start e round s
    → (x : Result (Bool × g.State) Halt) → PassesUnless r.Spares x (λ (y : Bool × g.State). (before now : r.Env)
    × Advances r t s now (branch joined (w.save y.1) before ∷ round) y.1
    × GoesInto r t (if y.0 then one else two) joined (w.save y.1) rest round before now)
    → Arrives r t start round free (after_choice w one two joined rest x)
chosen_arrives r t w rows start one two joined rest round s e moves (Ok (b, z)) (before, now, is, into) =
    open_all r t start round (after_branches (either (silent one) (silent two)) (silent rest))
    (after_branch w joined rest (w.save z) (run w rest) (if b then run w one z else run w two z))
    (choose_arrives r t w rows start one two joined rest (w.save z) before now round z
    (run_arrives r t w rows start one (branch joined (w.save z) before ∷ round))
    (run_arrives r t w rows start two (branch joined (w.save z) before ∷ round))
    (run_arrives r t w rows start rest round) b into
    (further r t w rows start s z e now round (branch joined (w.save z) before ∷ round) moves is))
chosen_arrives r t w rows start one two joined rest round s e moves (Err h) is = is

-- a list that begins with a shared step, the step, and what follows up to the next one
pub step_arrives : {g : Language} (r : Rules g) (t : ℕ) (w : StatementMeaning g) (rows : Rows r t w) (start : g.State)
    (list : Stms g.forms) (round : List (Round g r.Env)) (s : g.State) (e : r.Env)
    → is_step list ≡ true → r.Goes t list round e → Advances r t start e round s
    → Arrives r t start round free (step w list s)
step_arrives r t w rows start (On a n rest) round s e waits goes moves =
    from_passes r t start round free (w.shared a s) (λ z. (now : r.Env) × Advances r t s now round z
    × r.Goes t rest round now) (run w rest) (rows.shared a n rest round e goes s moves.0 moves.2)
    (λ z is. open_all r t start round (silent rest) (run w rest z)
    (run_arrives r t w rows start rest round z is.0 is.2
    (further r t w rows start s z e is.0 round round moves is.1)))
step_arrives r t w rows start (OnWhen a n one two joined rest) round s e waits goes moves =
    chosen_arrives r t w rows start one two joined rest round s e moves (w.choice a s)
    (rows.choice a n one two joined rest round e goes s moves.0 moves.2)
step_arrives r t w rows start (Brace n) round s e waits goes moves = let no : false ≡ true = waits in cc
step_arrives r t w rows start (Do l n rest) round s e waits goes moves = let no : false ≡ true = waits in cc
step_arrives r t w rows start (If c n one two joined rest) round s e waits goes moves =
    let no : false ≡ true = waits in cc
step_arrives r t w rows start (Loop k j n body left rest) round s e waits goes moves =
    let no : false ≡ true = waits in cc
step_arrives r t w rows start (Next j n rest) round s e waits goes moves = let no : false ≡ true = waits in cc
step_arrives r t w rows start (Break j n rest) round s e waits goes moves = let no : false ≡ true = waits in cc
step_arrives r t w rows start (Meet j n rest) round s e waits goes moves = let no : false ≡ true = waits in cc
step_arrives r t w rows start (End j n rest) round s e waits goes moves = let no : false ≡ true = waits in cc
