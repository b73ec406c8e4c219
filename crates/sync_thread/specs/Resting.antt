-- When a program rests between its events, whatever its statements and the rules for them are: what a type system has
-- to say of single statements, so that every event goes on and the program rests again.
use Rattle.std.specs.Prelude.{ℕ, suc, ◌<◌, ◌≤◌, Bool, true, false, ◌||◌, if◌then◌else◌, List, [], ◌∷◌, length}
use Rattle.std.specs.Prelude.{slice_get, Option, Some, None, Result, Ok, Err, ◌≡◌, ◌⊎◌}
use Rattle.sync_base.specs.Outcome.{◌>>=◌}
use Rattle.sync_thread.specs.Control.{Halt, Forms, Language, Stms, Brace, Do, On, OnWhen, If, Loop, Next, Break, Meet}
use Rattle.sync_thread.specs.Control.{End, Frame, InBranch, InLoop, StatementMeaning, is_brace, Paused, ProgramMeaning}
use Rattle.sync_thread.specs.Control.{Running, have_ended, event, start_from, events}

-- ---- silent paths

-- the jumps that a list may come to without a shared step
pub record Silent : Type 0 where
  pub next : Bool
  pub break : Bool
  pub meet : Bool

-- none of them
abbrev pub no_way : Silent
no_way = record { next = false; break = false; meet = false }

-- those of one or of the other
abbrev pub either : Silent → Silent → Silent
either a b = record { next = a.next || b.next; break = a.break || b.break; meet = a.meet || b.meet }

-- after branches: on where one of them meets
abbrev pub after_branches : Silent → Silent → Silent
after_branches inner rest =
    either (record { next = inner.next; break = inner.break; meet = false }) (if inner.meet then rest else no_way)

-- What the list's text lets happen silently, whatever its conditions; an inner loop lets through where its body breaks
-- silently.
abbrev pub silent : {f : Forms} → Stms f → Silent
silent (Brace n) = no_way
silent (Do l n rest) = silent rest
silent (On a n rest) = no_way
silent (OnWhen a n one two joined rest) = no_way
silent (If c n one two joined rest) = after_branches (either (silent one) (silent two)) (silent rest)
silent (Loop k j n body left rest) = if (silent body).break then silent rest else no_way
silent (Next j n rest) = record { next = true; break = false; meet = false }
silent (Break j n rest) = record { next = false; break = true; meet = false }
silent (Meet j n rest) = record { next = false; break = false; meet = true }
silent (End j n rest) = no_way

-- a list begins with a shared step
abbrev pub is_step : {f : Forms} → Stms f → Bool
is_step (On a n rest) = true
is_step (OnWhen a n one two joined rest) = true
is_step (Brace n) = false
is_step (Do l n rest) = false
is_step (If c n one two joined rest) = false
is_step (Loop k j n body left rest) = false
is_step (Next j n rest) = false
is_step (Break j n rest) = false
is_step (Meet j n rest) = false
is_step (End j n rest) = false

-- ---- what rules speak of

-- a form whose branch or body a list stands in, with its keeps
pub data Enclosing (f : Forms) : Type 0 where
  Branch : (joined : Option f.Keep) → Enclosing f
  Turn : (keep : f.Keep) (left : Option f.Keep) → Enclosing f

-- a form round a list, with what was saved and what was known where the form began
pub record Round (g : Language) (Env : Type 0) : Type 0 where
  pub form : Enclosing g.forms
  pub saved : g.Saved
  pub env : Env

-- inside a branch; inside a loop's body
abbrev pub branch : {g : Language} {Env : Type 0} → Option g.forms.Keep → g.Saved → Env → Round g Env
branch joined v e = record { form = Branch joined; saved = v; env = e }

abbrev pub turn : {g : Language} {Env : Type 0} → g.forms.Keep → Option g.forms.Keep → g.Saved → Env → Round g Env
turn k left v e = record { form = Turn k left; saved = v; env = e }

-- What typing rules say, and what their environments mean. The number is that of the thread or of the final block; the
-- forms round a list stand innermost first.
pub record Rules (g : Language) : Type 1 where
  pub Env : Type 0
  -- a list keeps the rules, in these forms and from this environment on
  pub Goes : ℕ → Stms g.forms → List (Round g Env) → Env → Type 0
  -- a jump from the second environment may come to the keep of a form that began in the first
  pub Comes : ℕ → g.forms.Keep → g.forms.Jump → Env → Env → Type 0
  -- after the keep of a form that began in the first environment the second is known
  pub After : ℕ → g.forms.Keep → Env → Env → Type 0
  -- a thread may come to its `end`; its list may just end
  pub MayEnd : ℕ → g.forms.Jump → Env → Type 0
  pub MayFinish : ℕ → Env → Type 0
  -- the environment, and what the forms round need of those before them, are true of what the thread has
  pub Stands : ℕ → Env → List (Round g Env) → g.State → Type 0
  -- what is true of the state as a whole
  pub Overall : g.State → Type 0
  -- the thread alone went from one state to the other
  pub Stays : ℕ → g.State → g.State → Type 0
  -- the thread has ended, and left what the final block takes
  pub HasLeft : ℕ → g.State → Type 0
  -- the final block has nothing yet; it has taken what the threads left
  pub HasNothing : g.State → Type 0
  pub HasTaken : g.State → Type 0
  -- the reasons for which an event may fail after all
  pub Spares : Halt → Type 0

-- an answer, unless it failed for a reason that is spared
abbrev pub PassesUnless : {A : Type 0} → (Halt → Type 0) → Result A Halt → (A → Type 0) → Type 0
PassesUnless spares (Ok x) good = good x
PassesUnless spares (Err h) good = spares h

-- thread t alone went from s to z, all is whole, and the environment stands
abbrev pub Advances : {g : Language} (r : Rules g) → ℕ → g.State → r.Env → List (Round g r.Env) → g.State → Type 0
Advances r t s e round z = r.Overall z × r.Stays t s z × r.Stands t e round z

-- after a form: what its keep says, if it has one, and then the list goes on
abbrev pub GoesPast : {g : Language} (r : Rules g) → ℕ → Option g.forms.Keep → Stms g.forms → List (Round g r.Env)
    → r.Env → Type 0
GoesPast r t None rest round e = Unit {0}
GoesPast r t (Some k) rest round e = (beyond : r.Env) × r.After t k e beyond × r.Goes t rest round beyond

-- a loop's body goes on from its keep, and comes to no `next` without a shared step
abbrev pub GoesRound : {g : Language} (r : Rules g) → ℕ → g.forms.Keep → Stms g.forms → Option g.forms.Keep → g.Saved
    → List (Round g r.Env) → r.Env → r.Env → Type 0
GoesRound r t k body left v round e inside =
    r.After t k e inside × r.Goes t body (turn k left v e ∷ round) inside × ((silent body).next ≡ false)

-- a branch goes on inside its form, and so does what is after the form
abbrev pub GoesInto : {g : Language} (r : Rules g) → ℕ → Stms g.forms → Option g.forms.Keep → g.Saved → Stms g.forms
    → List (Round g r.Env) → r.Env → r.Env → Type 0
GoesInto r t list joined v rest round e inside =
    r.Goes t list (branch joined v e ∷ round) inside × GoesPast r t joined rest round e

-- a jump comes to a keep that is there
abbrev pub ComesTo : {g : Language} (r : Rules g) → ℕ → Option g.forms.Keep → g.forms.Jump → r.Env → r.Env → Type 0
ComesTo r t None j before e = ⊥
ComesTo r t (Some k) j before e = r.Comes t k j before e

-- a `next`, a `break`, a `meet` in a form comes to the keep that is meant; `outside` is what holds of it round the form
abbrev pub NextAt : {g : Language} (r : Rules g) → ℕ → g.forms.Jump → Enclosing g.forms → r.Env → r.Env → Type 0
    → Type 0
NextAt r t j (Branch joined) before e outside = outside
NextAt r t j (Turn k left) before e outside = r.Comes t k j before e

abbrev pub BreakAt : {g : Language} (r : Rules g) → ℕ → g.forms.Jump → Enclosing g.forms → r.Env → r.Env → Type 0
    → Type 0
BreakAt r t j (Branch joined) before e outside = outside
BreakAt r t j (Turn k left) before e outside = ComesTo r t left j before e

abbrev pub MeetAt : {g : Language} (r : Rules g) → ℕ → g.forms.Jump → Enclosing g.forms → r.Env → r.Env → Type 0
MeetAt r t j (Branch joined) before e = ComesTo r t joined j before e
MeetAt r t j (Turn k left) before e = ⊥

abbrev pub NextComes : {g : Language} (r : Rules g) → ℕ → g.forms.Jump → List (Round g r.Env) → r.Env → Type 0
NextComes r t j [] e = ⊥
NextComes r t j (form ∷ round) e = NextAt r t j form.form form.env e (NextComes r t j round e)

abbrev pub BreakComes : {g : Language} (r : Rules g) → ℕ → g.forms.Jump → List (Round g r.Env) → r.Env → Type 0
BreakComes r t j [] e = ⊥
BreakComes r t j (form ∷ round) e = BreakAt r t j form.form form.env e (BreakComes r t j round e)

abbrev pub MeetComes : {g : Language} (r : Rules g) → ℕ → g.forms.Jump → List (Round g r.Env) → r.Env → Type 0
MeetComes r t j [] e = ⊥
MeetComes r t j (form ∷ round) e = MeetAt r t j form.form form.env e

-- a list may just end outside of all forms alone
abbrev pub FinishComes : {g : Language} (r : Rules g) → ℕ → List (Round g r.Env) → r.Env → Type 0
FinishComes r t [] e = r.MayFinish t e
FinishComes r t (form ∷ round) e = ⊥

-- ---- what has to be proved of single statements

-- For thread t: what follows for each statement from that its list keeps the rules.
pub record Rows {g : Language} (r : Rules g) (t : ℕ) (w : StatementMeaning g) : Type 0 where
  pub local : (l : g.forms.Local) (n : ℕ) (rest : Stms g.forms) (round : List (Round g r.Env)) (e : r.Env)
      → r.Goes t (Do l n rest) round e → (s : g.State) → r.Overall s → r.Stands t e round s
      → PassesUnless r.Spares (w.local l s) (λ z. (now : r.Env) × Advances r t s now round z × r.Goes t rest round now)
  pub shared : (a : g.forms.Shared) (n : ℕ) (rest : Stms g.forms) (round : List (Round g r.Env)) (e : r.Env)
      → r.Goes t (On a n rest) round e → (s : g.State) → r.Overall s → r.Stands t e round s
      → PassesUnless r.Spares (w.shared a s) (λ z. (now : r.Env) × Advances r t s now round z × r.Goes t rest round now)
  -- `before` is what is known after the step and before its branches
  pub choice : (a : g.forms.Choice) (n : ℕ) (one two : Stms g.forms) (joined : Option g.forms.Keep)
      (rest : Stms g.forms)
      (round : List (Round g r.Env)) (e : r.Env)
      → r.Goes t (OnWhen a n one two joined rest) round e → (s : g.State) → r.Overall s → r.Stands t e round s
      → PassesUnless r.Spares (w.choice a s) (λ (y : Bool × g.State). (before now : r.Env)
      × Advances r t s now (branch joined (w.save y.1) before ∷ round) y.1
      × GoesInto r t (if y.0 then one else two) joined (w.save y.1) rest round before now)
  pub test : (c : g.forms.Test) (n : ℕ) (one two : Stms g.forms) (joined : Option g.forms.Keep) (rest : Stms g.forms)
      (round : List (Round g r.Env)) (e : r.Env)
      → r.Goes t (If c n one two joined rest) round e → (s : g.State) → r.Overall s → r.Stands t e round s
      → (now : r.Env) × r.Stands t now (branch joined (w.save s) e ∷ round) s
      × GoesInto r t (if w.test c s then one else two) joined (w.save s) rest round e now
  pub loop : (k : g.forms.Keep) (j : g.forms.Jump) (n : ℕ) (body : Stms g.forms) (left : Option g.forms.Keep)
      (rest : Stms g.forms) (round : List (Round g r.Env)) (e : r.Env)
      → r.Goes t (Loop k j n body left rest) round e → (s : g.State) → r.Overall s → r.Stands t e round s
      → (inside : r.Env)
      × PassesUnless r.Spares (w.keep k j (w.save s) s)
      (λ z. Advances r t s inside (turn k left (w.save s) e ∷ round) z)
      × GoesRound r t k body left (w.save s) round e inside × GoesPast r t left rest round e
  pub next : (j : g.forms.Jump) (n : ℕ) (rest : Stms g.forms) (round : List (Round g r.Env)) (e : r.Env)
      → r.Goes t (Next j n rest) round e → NextComes r t j round e
  pub break : (j : g.forms.Jump) (n : ℕ) (rest : Stms g.forms) (round : List (Round g r.Env)) (e : r.Env)
      → r.Goes t (Break j n rest) round e → BreakComes r t j round e
  pub meet : (j : g.forms.Jump) (n : ℕ) (rest : Stms g.forms) (round : List (Round g r.Env)) (e : r.Env)
      → r.Goes t (Meet j n rest) round e → MeetComes r t j round e × (is_brace rest ≡ true)
  pub end : (j : g.forms.Jump) (n : ℕ) (rest : Stms g.forms) (round : List (Round g r.Env)) (e : r.Env)
      → r.Goes t (End j n rest) round e → r.MayEnd t j e
  pub brace : (n : ℕ) (round : List (Round g r.Env)) (e : r.Env) → r.Goes t (Brace n) round e
      → FinishComes r t round e
  -- a jump comes to a keep: what the keep says is known, of the form that the keep belongs to and of those round it
  pub keep : (k : g.forms.Keep) (j : g.forms.Jump) (form : Round g r.Env) (round : List (Round g r.Env))
      (e beyond : r.Env)
      → r.Comes t k j form.env e → r.After t k form.env beyond
      → (s : g.State) → r.Overall s → r.Stands t e (form ∷ round) s
      → PassesUnless r.Spares (w.keep k j form.saved s) (λ z. Advances r t s beyond (form ∷ round) z)
  -- out of a form
  pub out : (e : r.Env) (form : Round g r.Env) (round : List (Round g r.Env)) (s : g.State)
      → r.Stands t e (form ∷ round) s → r.Stands t e round s
  -- to go on and to go on again is to go on
  pub self : (s : g.State) → r.Stays t s s
  pub along : (s z y : g.State) → r.Stays t s z → r.Stays t z y → r.Stays t s y

-- a list begins, outside of all forms
abbrev pub MayBegin : {g : Language} (r : Rules g) → ℕ → Stms g.forms → g.State → Type 0
MayBegin r t list s = (e : r.Env) × r.Stands t e [] s × r.Goes t list [] e

-- a thread or the final block went from s to z and has ended
abbrev pub Leaves : {g : Language} (r : Rules g) → ℕ → g.State → g.State → Type 0
Leaves r t s z = r.Overall z × r.Stays t s z × r.HasLeft t z

-- For the whole program: its threads and its final block, and what one leaves to another.
pub record Premises {g : Language} (r : Rules g) (p : ProgramMeaning g) : Type 0 where
  pub rows : (t : ℕ) → t ≤ length p.bodies → Rows r t (p.statements t)
  pub ends : (t : ℕ) → t ≤ length p.bodies → (j : g.forms.Jump) (e : r.Env) → r.MayEnd t j e → (s : g.State)
      → r.Overall s → r.Stands t e [] s → PassesUnless r.Spares (p.ends t j s) (λ z. Leaves r t s z)
  pub finishes : (t : ℕ) → t ≤ length p.bodies → (e : r.Env) → r.MayFinish t e → (s : g.State) → r.Overall s
      → r.Stands t e [] s → PassesUnless r.Spares (p.finishes t s) (λ z. Leaves r t s z)
  -- what others have stays
  pub stands : (t u : ℕ) → (u ≡ t → ⊥) → (s z : g.State) → r.Stays t s z → (e : r.Env) (round : List (Round g r.Env))
      → r.Stands u e round s → r.Stands u e round z
  pub left : (t u : ℕ) → (u ≡ t → ⊥) → (s z : g.State) → r.Stays t s z → r.HasLeft u s → r.HasLeft u z
  pub nothing : (t : ℕ) → t < length p.bodies → (s z : g.State) → r.Stays t s z → r.HasNothing s → r.HasNothing z
  pub taken : (s z : g.State) → r.Stays (length p.bodies) s z → r.HasTaken s → r.HasTaken z
  -- the final block takes what the threads left
  pub gathers : (s : g.State) → r.Overall s → r.HasNothing s → ((t : ℕ) → t < length p.bodies → r.HasLeft t s)
      → r.Overall (p.gathers s) × r.HasTaken (p.gathers s)
      × ((list : Stms g.forms) → p.last ≡ Some list → MayBegin r (length p.bodies) list (p.gathers s))

-- ---- configurations at rest

-- the frames round a place, innermost first: the forms that they belong to keep the rules, up to those of `outer`
abbrev pub Framed : {g : Language} (r : Rules g) → ℕ → List (Frame g) → List (Round g r.Env) → List (Round g r.Env)
    → Type 0
Framed r t [] inner outer = inner ≡ outer
Framed r t (InBranch joined rest v ∷ fs) inner outer =
    (e : r.Env) × (round : List (Round _ r.Env)) × (inner ≡ branch joined v e ∷ round)
    × GoesPast r t joined rest round e × Framed r t fs round outer
Framed r t (InLoop k body left rest v ∷ fs) inner outer =
    (e : r.Env) × (round : List (Round _ r.Env)) × (inner ≡ turn k left v e ∷ round)
    × ((inside : r.Env) × GoesRound r t k body left v round e inside) × GoesPast r t left rest round e
    × Framed r t fs round outer

-- somebody waits before a shared step
pub record Rested {g : Language} (r : Rules g) (t : ℕ) (s : g.State) (w : Paused g) : Type 0 where
  pub env : r.Env
  pub round : List (Round g r.Env)
  pub waits : is_step w.rest ≡ true
  pub goes : r.Goes t w.rest round env
  pub stands : r.Stands t env round s
  pub framed : Framed r t w.frames round []

-- a thread waits, or has ended
abbrev pub PlaceRests : {g : Language} (r : Rules g) → ℕ → g.State → Option (Paused g) → Type 0
PlaceRests r t s (Some w) = Rested r t s w
PlaceRests r t s None = r.HasLeft t s

-- not all threads have ended, and the final block has not begun
pub record ThreadsRun {g : Language} (r : Rules g) (p : ProgramMeaning g) (c : Running g) : Type 0 where
  pub threads : (t : ℕ) → t < length p.bodies → (o : Option (Paused g)) → slice_get c.places t ≡ Some o
      → PlaceRests r t c.state o
  pub last : slice_get c.places (length p.bodies) ≡ Some None
  pub nothing : r.HasNothing c.state
  pub waits : have_ended c.places ≡ false

-- the final block waits, or it has ended or there is none
abbrev pub LastRests : {g : Language} (r : Rules g) (p : ProgramMeaning g) → g.State → Option (Option (Paused g))
    → Type 0
LastRests r p s (Some (Some w)) = Rested r (length p.bodies) s w
LastRests r p s (Some None) = (p.last ≡ None) ⊎ r.HasLeft (length p.bodies) s
LastRests r p s None = ⊥

-- all threads have ended, and the final block has taken over
pub record FinalRuns {g : Language} (r : Rules g) (p : ProgramMeaning g) (c : Running g) : Type 0 where
  pub ended : (t : ℕ) → t < length p.bodies → slice_get c.places t ≡ Some None
  pub taken : r.HasTaken c.state
  pub last : LastRests r p c.state (slice_get c.places (length p.bodies))

-- A program between its events: the state is as it should be, and everybody is where the rules go on.
pub record AtRest {g : Language} (r : Rules g) (p : ProgramMeaning g) (c : Running g) : Type 0 where
  pub whole : r.Overall c.state
  pub places : length c.places ≡ suc (length p.bodies)
  pub stage : ThreadsRun r p c ⊎ FinalRuns r p c

-- the state that the threads begin in
pub record Ready {g : Language} (r : Rules g) (p : ProgramMeaning g) (s : g.State) : Type 0 where
  pub whole : r.Overall s
  pub nothing : r.HasNothing s
  pub begin : (t : ℕ) (list : Stms g.forms) → slice_get p.bodies t ≡ Some list → MayBegin r t list s

-- ---- the laws

-- an event of anybody leaves a program at rest, or fails for a reason that is spared
abbrev pub EventsRest : (g : Language) (r : Rules g) → ProgramMeaning g → Type 0
EventsRest g r p = Premises r p → (t : ℕ) (c : Running g) → AtRest r p c
    → PassesUnless r.Spares (event p t c) (AtRest r p)

-- from a state in which the threads may begin every schedule leaves a program at rest
abbrev pub SchedulesRest : (g : Language) (r : Rules g) → ProgramMeaning g → Type 0
SchedulesRest g r p = Premises r p → (s : g.State) → Ready r p s → (ts : List ℕ)
    → PassesUnless r.Spares (start_from p s >>= events p ts) (AtRest r p)

-- where no failure is spared every schedule goes on
abbrev pub SchedulesGoOn : (g : Language) (r : Rules g) → ProgramMeaning g → Type 0
SchedulesGoOn g r p = Premises r p → ((h : Halt) → r.Spares h → ⊥) → (s : g.State) → Ready r p s → (ts : List ℕ)
    → (c : Running g) × (start_from p s >>= events p ts ≡ Ok c) × AtRest r p c
