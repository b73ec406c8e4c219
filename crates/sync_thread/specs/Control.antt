-- How lists of statements run, apart from what their statements do: the annotated program and the erased one share it.
--
-- A list runs up to its next shared step. A jump is a signal that the form round it takes; what stands round a list is
-- a list of frames, innermost first. No list runs without end: `run` goes down the list, `unwind` down the frames, and
-- each frame begins its body at most once more.
use Rattle.std.specs.Prelude.{ℕ, suc, Bool, true, false, if◌then◌else◌, List, [], ◌∷◌, ◌++◌, Option, Some, None, Result}
use Rattle.std.specs.Prelude.{Ok, Err, is_none, slice_get, slice_set, length, nat_lt, ◌≡◌}
use Rattle.std.specs.List.{list_all}
use Rattle.sync_base.specs.Outcome.{◌>>=◌}

-- Why something does not go on: what it does is not allowed, or a number leaves the bound that is asked for.
pub data Halt : Type 0 where
  Broken : Halt
  Wide : Halt

-- What a language's statements are made of: local statements, shared steps, shared steps with branches after them,
-- conditions, keeps, and what a jump brings to its keep.
pub record Forms : Type 1 where
  pub Local : Type 0
  pub Shared : Type 0
  pub Choice : Type 0
  pub Test : Type 0
  pub Keep : Type 0
  pub Jump : Type 0

-- besides, what is saved where a form with lists begins, and states
pub record Language : Type 1 where
  pub forms : Forms
  pub Saved : Type 0
  pub State : Type 0

-- What remains of a list of statements. A line is that of the statement, and at the end that of the closing brace; in
-- code it is 0.
pub data Stms (f : Forms) : Type 0 where
  Brace : (line : ℕ) → Stms f
  Do : (local : f.Local) (line : ℕ) (rest : Stms f) → Stms f
  On : (shared : f.Shared) (line : ℕ) (rest : Stms f) → Stms f
  OnWhen : (shared : f.Choice) (line : ℕ) (first second : Stms f) (joined : Option f.Keep) (rest : Stms f) → Stms f
  If : (test : f.Test) (line : ℕ) (first second : Stms f) (joined : Option f.Keep) (rest : Stms f) → Stms f
  Loop : (keep : f.Keep) (from : f.Jump) (line : ℕ) (body : Stms f) (left : Option f.Keep) (rest : Stms f) → Stms f
  Next : (jump : f.Jump) (line : ℕ) (rest : Stms f) → Stms f
  Break : (jump : f.Jump) (line : ℕ) (rest : Stms f) → Stms f
  Meet : (jump : f.Jump) (line : ℕ) (rest : Stms f) → Stms f
  End : (jump : f.Jump) (line : ℕ) (rest : Stms f) → Stms f

-- What stands round a list: a branch or a loop's body, with what was saved where its form began.
pub data Frame (g : Language) : Type 0 where
  InBranch : (joined : Option g.forms.Keep) (rest : Stms g.forms) (saved : g.Saved) → Frame g
  InLoop : (keep : g.forms.Keep) (body : Stms g.forms) (left : Option g.forms.Keep) (rest : Stms g.forms)
      (saved : g.Saved) → Frame g

-- How a list ends: before a shared step, with what remains from it on and the frames inside the list; by a jump; at
-- its end; or by a failure.
pub data Signal (g : Language) : Type 0 where
  At : (rest : Stms g.forms) (frames : List (Frame g)) (state : g.State) → Signal g
  Nexts : (jump : g.forms.Jump) (state : g.State) → Signal g
  Breaks : (jump : g.forms.Jump) (state : g.State) → Signal g
  Meets : (jump : g.forms.Jump) (state : g.State) → Signal g
  Ends : (jump : g.forms.Jump) (state : g.State) → Signal g
  Over : (state : g.State) → Signal g
  Fails : (halt : Halt) → Signal g

-- What statements do, in the hands of one thread.
pub record StatementMeaning (g : Language) : Type 0 where
  pub local : g.forms.Local → g.State → Result g.State Halt
  pub shared : g.forms.Shared → g.State → Result g.State Halt
  -- the branch that is taken, and the state after the step
  pub choice : g.forms.Choice → g.State → Result (Bool × g.State) Halt
  pub test : g.forms.Test → g.State → Bool
  pub save : g.State → g.Saved
  -- a jump comes to a keep
  pub keep : g.forms.Keep → g.forms.Jump → g.Saved → g.State → Result g.State Halt
  -- a branch's list just ends
  pub falls : g.Saved → g.State → Result g.State Halt

-- on from a state that is there
abbrev pub from_state : {g : Language} → Result g.State Halt → (g.State → Signal g) → Signal g
from_state (Ok s) f = f s
from_state (Err h) f = Fails h

-- a keep that is there
abbrev pub kept_by : {g : Language} → StatementMeaning g → Option g.forms.Keep → g.forms.Jump → g.Saved → g.State
    → Result g.State Halt
kept_by w (Some k) j v s = w.keep k j v s
kept_by w None j v s = Err Broken

-- nothing remains of the list
abbrev pub is_brace : {f : Forms} → Stms f → Bool
is_brace (Brace n) = true
is_brace (Do l n r) = false
is_brace (On a n r) = false
is_brace (OnWhen a n p q k r) = false
is_brace (If c n p q k r) = false
is_brace (Loop k j n b l r) = false
is_brace (Next j n r) = false
is_brace (Break j n r) = false
is_brace (Meet j n r) = false
is_brace (End j n r) = false

-- after a branch: `on` runs what stands after its form
abbrev pub after_branch : {g : Language} → StatementMeaning g → Option g.forms.Keep → Stms g.forms → g.Saved
    → (g.State → Signal g) → Signal g → Signal g
after_branch w joined rest v on (At ss fs s) = At ss (fs ++ InBranch joined rest v ∷ []) s
after_branch w joined rest v on (Meets j s) = from_state (kept_by w joined j v s) on
after_branch w joined rest v on (Over s) = from_state (w.falls v s) on
after_branch w joined rest v on (Nexts j s) = Nexts j s
after_branch w joined rest v on (Breaks j s) = Breaks j s
after_branch w joined rest v on (Ends j s) = Ends j s
after_branch w joined rest v on (Fails h) = Fails h

-- after a body that was begun since the last shared step: a `next` is a silent turn
abbrev pub after_fresh_body : {g : Language} → StatementMeaning g → g.forms.Keep → Stms g.forms → Option g.forms.Keep
    → Stms g.forms → g.Saved → (g.State → Signal g) → Signal g → Signal g
after_fresh_body w k body left rest v on (At ss fs s) = At ss (fs ++ InLoop k body left rest v ∷ []) s
after_fresh_body w k body left rest v on (Breaks j s) = from_state (kept_by w left j v s) on
after_fresh_body w k body left rest v on (Nexts j s) = Fails Broken
after_fresh_body w k body left rest v on (Meets j s) = Fails Broken
after_fresh_body w k body left rest v on (Over s) = Fails Broken
after_fresh_body w k body left rest v on (Ends j s) = Ends j s
after_fresh_body w k body left rest v on (Fails h) = Fails h

-- a list, from a state on
unfoldable pub run : {g : Language} → StatementMeaning g → Stms g.forms → g.State → Signal g
run w (Brace n) s = Over s
run w (Do l n rest) s = from_state (w.local l s) (run w rest)
run w (On a n rest) s = At (On a n rest) [] s
run w (OnWhen a n p q joined rest) s = At (OnWhen a n p q joined rest) [] s
run w (If c n p q joined rest) s =
    after_branch w joined rest (w.save s) (run w rest) (if w.test c s then run w p s else run w q s)
run w (Loop k j n body left rest) s =
    from_state (w.keep k j (w.save s) s)
    (λ t. after_fresh_body w k body left rest (w.save s) (run w rest) (run w body t))
run w (Next j n rest) s = Nexts j s
run w (Break j n rest) s = Breaks j s
run w (Meet j n rest) s = if is_brace rest then Meets j s else Fails Broken
run w (End j n rest) s = Ends j s

-- after a body that was begun before the last shared step: a `next` begins it once more
abbrev pub after_older_body : {g : Language} → StatementMeaning g → g.forms.Keep → Stms g.forms → Option g.forms.Keep
    → Stms g.forms → g.Saved → Signal g → Signal g
after_older_body w k body left rest v (Nexts j s) =
    from_state (w.keep k j v s) (λ t. after_fresh_body w k body left rest v (run w rest) (run w body t))
after_older_body w k body left rest v (At ss fs s) = after_fresh_body w k body left rest v (run w rest) (At ss fs s)
after_older_body w k body left rest v (Breaks j s) = after_fresh_body w k body left rest v (run w rest) (Breaks j s)
after_older_body w k body left rest v (Meets j s) = after_fresh_body w k body left rest v (run w rest) (Meets j s)
after_older_body w k body left rest v (Over s) = after_fresh_body w k body left rest v (run w rest) (Over s)
after_older_body w k body left rest v (Ends j s) = after_fresh_body w k body left rest v (run w rest) (Ends j s)
after_older_body w k body left rest v (Fails h) = after_fresh_body w k body left rest v (run w rest) (Fails h)

abbrev pub after_frame : {g : Language} → StatementMeaning g → Frame g → Signal g → Signal g
after_frame w (InBranch joined rest v) o = after_branch w joined rest v (run w rest) o
after_frame w (InLoop k body left rest v) o = after_older_body w k body left rest v o

-- the frames round a list, innermost first
unfoldable pub unwind : {g : Language} → StatementMeaning g → List (Frame g) → Signal g → Signal g
unwind w [] o = o
unwind w (f ∷ fs) o = unwind w fs (after_frame w f o)

-- the branch that a step takes, from the state after the step on
abbrev pub after_choice : {g : Language} → StatementMeaning g → Stms g.forms → Stms g.forms → Option g.forms.Keep
    → Stms g.forms → Result (Bool × g.State) Halt → Signal g
after_choice w p q joined rest (Ok (b, s)) =
    after_branch w joined rest (w.save s) (run w rest) (if b then run w p s else run w q s)
after_choice w p q joined rest (Err h) = Fails h

-- a list that begins with a shared step: the step, and what follows up to the next one
abbrev pub step : {g : Language} → StatementMeaning g → Stms g.forms → g.State → Signal g
step w (On a n rest) s = from_state (w.shared a s) (run w rest)
step w (OnWhen a n p q joined rest) s = after_choice w p q joined rest (w.choice a s)
step w (Brace n) s = Fails Broken
step w (Do l n rest) s = Fails Broken
step w (If c n p q joined rest) s = Fails Broken
step w (Loop k j n body left rest) s = Fails Broken
step w (Next j n rest) s = Fails Broken
step w (Break j n rest) s = Fails Broken
step w (Meet j n rest) s = Fails Broken
step w (End j n rest) s = Fails Broken

-- ---- threads

-- where a thread waits, before a shared step: what remains from the step on, and the frames round it
pub record Paused (g : Language) : Type 0 where
  pub rest : Stms g.forms
  pub frames : List (Frame g)

-- What a program does: its threads by their numbers, and the final block, whose number is that of the threads.
pub record ProgramMeaning (g : Language) : Type 0 where
  pub statements : ℕ → StatementMeaning g
  -- a thread comes to its `end`; its list just ends
  pub ends : ℕ → g.forms.Jump → g.State → Result g.State Halt
  pub finishes : ℕ → g.State → Result g.State Halt
  -- all threads have ended, and the final block takes what they left
  pub gathers : g.State → g.State
  pub bodies : List (Stms g.forms)
  pub last : Option (Stms g.forms)

-- A state, and where each thread and then the final block wait. One that has ended or not begun waits nowhere.
pub record Running (g : Language) : Type 0 where
  pub state : g.State
  pub places : List (Option (Paused g))

-- with its parts as arguments
abbrev pub running : {g : Language} → g.State → List (Option (Paused g)) → Running g
running s ps = record { state = s; places = ps }

-- thread t has ended
abbrev pub ended : {g : Language} → ℕ → List (Option (Paused g)) → Result g.State Halt → Result (Running g) Halt
ended t ps (Ok s) = Ok (running s (slice_set ps t None))
ended t ps (Err h) = Err h

-- thread t stands where its list ended up; the others stay
abbrev pub paused_at : {g : Language} → ProgramMeaning g → ℕ → List (Option (Paused g)) → Signal g
    → Result (Running g) Halt
paused_at p t ps (At rest frames s) = Ok (running s (slice_set ps t (Some (record { rest = rest; frames = frames }))))
paused_at p t ps (Ends j s) = ended t ps (p.ends t j s)
paused_at p t ps (Over s) = ended t ps (p.finishes t s)
paused_at p t ps (Nexts j s) = Err Broken
paused_at p t ps (Breaks j s) = Err Broken
paused_at p t ps (Meets j s) = Err Broken
paused_at p t ps (Fails h) = Err h

-- nobody waits
abbrev pub have_ended : {g : Language} → List (Option (Paused g)) → Bool
have_ended ps = list_all is_none ps

-- the final block begins with what all threads left, and runs up to its first shared step
abbrev pub final_begins : {g : Language} → ProgramMeaning g → List (Option (Paused g)) → g.State
    → Option (Stms g.forms) → Result (Running g) Halt
final_begins p ps s (Some ss) = paused_at p (length p.bodies) ps (run (p.statements (length p.bodies)) ss s)
final_begins p ps s None = Ok (running s ps)

-- Where all threads have ended the final block takes over.
abbrev pub hand_over : {g : Language} → ProgramMeaning g → Running g → Result (Running g) Halt
hand_over p c = if have_ended c.places then final_begins p c.places (p.gathers c.state) p.last else Ok c

-- An event of thread t, or of the final block where t is the number of threads: the shared step, and the local
-- statements up to the next one. Whoever waits nowhere changes nothing.
abbrev pub event_at : {g : Language} → ProgramMeaning g → ℕ → Running g → Option (Option (Paused g))
    → Result (Running g) Halt
event_at p t c (Some (Some w)) =
    paused_at p t c.places (unwind (p.statements t) w.frames (step (p.statements t) w.rest c.state))
    >>= (λ (d : Running _). if nat_lt t (length p.bodies) then hand_over p d else Ok d)
event_at p t c (Some None) = Ok c
event_at p t c None = Ok c

-- the event of whoever has this number
abbrev pub event : {g : Language} → ProgramMeaning g → ℕ → Running g → Result (Running g) Halt
event p t c = event_at p t c (slice_get c.places t)

-- the leading local statements of the threads, in order, from thread t on
abbrev pub lead : {g : Language} → ProgramMeaning g → ℕ → List (Stms g.forms) → Running g → Result (Running g) Halt
lead p t [] c = Ok c
lead p t (b ∷ bs) c = paused_at p t c.places (run (p.statements t) b c.state) >>= lead p (suc t) bs

-- nobody waits yet
abbrev pub nowhere : {g : Language} → List (Stms g.forms) → List (Option (Paused g))
nowhere [] = None ∷ []
nowhere (b ∷ bs) = None ∷ nowhere bs

-- The start: the threads' leading local statements, and the final block's where all threads have ended by then.
abbrev pub start_from : {g : Language} → ProgramMeaning g → g.State → Result (Running g) Halt
start_from p s = lead p 0 p.bodies (running s (nowhere p.bodies)) >>= hand_over p

-- the events of a list of numbers, in order
abbrev pub events : {g : Language} → ProgramMeaning g → List ℕ → Running g → Result (Running g) Halt
events p [] c = Ok c
events p (t ∷ ts) c = event p t c >>= events p ts

-- somebody with this number waits
abbrev pub is_waiting : {g : Language} → Option (Option (Paused g)) → Bool
is_waiting (Some (Some w)) = true
is_waiting (Some None) = false
is_waiting None = false

abbrev pub waits_at : {g : Language} → ℕ → List (Option (Paused g)) → Bool
waits_at t ps = is_waiting (slice_get ps t)

-- each event of a list is one of somebody who waits
abbrev pub AllMove : {g : Language} → ProgramMeaning g → List ℕ → Running g → Type 0
AllMove p [] c = Unit {0}
AllMove p (t ∷ ts) c = (waits_at t c.places ≡ true) × ((d : Running _) → event p t c ≡ Ok d → AllMove p ts d)
