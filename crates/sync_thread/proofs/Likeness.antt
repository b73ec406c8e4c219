-- A list that runs from two states that are alike ends up in the same way, in states that are alike.
use Rattle.std.specs.Prelude.{◌≡◌, Bool, true, false, if◌then◌else◌, List, [], ◌∷◌, Option, Some, None, Result}
use Rattle.std.specs.Prelude.{Ok, Err}
use mathlib.Core.Path.{refl, sym, ap, subst}
use Rattle.sync_thread.specs.Control.{Halt, Broken, Language, Stms, Brace, Do, On, OnWhen, If, Loop, Next, Break, Meet}
use Rattle.sync_thread.specs.Control.{End, Frame, InBranch, InLoop, Signal, At, Nexts, Breaks, Meets, Ends, Over, Fails}
use Rattle.sync_thread.specs.Control.{StatementMeaning, from_state, kept_by, is_brace, after_branch, after_fresh_body}
use Rattle.sync_thread.specs.Control.{after_older_body, after_frame, run, unwind}
use Rattle.sync_thread.specs.Alone.{AreAlike, IsLike}

-- What statements do depends on what is alike in two states alone.
pub record Respects {g : Language} (R : g.State → g.State → Type 0) (w : StatementMeaning g) : Type 0 where
  pub local : (l : g.forms.Local) (s z : g.State) → R s z → AreAlike R (w.local l s) (w.local l z)
  pub test : (c : g.forms.Test) (s z : g.State) → R s z → w.test c s ≡ w.test c z
  pub save : (s z : g.State) → R s z → w.save s ≡ w.save z
  pub keep : (k : g.forms.Keep) (j : g.forms.Jump) (v : g.Saved) (s z : g.State) → R s z
      → AreAlike R (w.keep k j v s) (w.keep k j v z)
  pub falls : (v : g.Saved) (s z : g.State) → R s z → AreAlike R (w.falls v s) (w.falls v z)

pub from_like : {g : Language} (R : g.State → g.State → Type 0) (x y : Result g.State Halt) (on : g.State → Signal g)
    → AreAlike R x y → ((s z : g.State) → R s z → IsLike R (on s) (on z))
    → IsLike R (from_state x on) (from_state y on)
from_like R (Ok s) (Ok z) on like go = go s z like
from_like R (Err h) (Err k) on like go = ap (λ i. Fails i) (sym like)
from_like R (Ok s) (Err h) on like go = absurd like
from_like R (Err h) (Ok s) on like go = absurd like

kept_like : {g : Language} (R : g.State → g.State → Type 0) (w : StatementMeaning g) → Respects R w
    → (k : Option g.forms.Keep) (j : g.forms.Jump) (v : g.Saved) (s z : g.State) → R s z
    → AreAlike R (kept_by w k j v s) (kept_by w k j v z)
kept_like R w both (Some k) j v s z like = both.keep k j v s z like
kept_like R w both None j v s z like = refl

branch_like : {g : Language} (R : g.State → g.State → Type 0) (w : StatementMeaning g) → Respects R w
    → (joined : Option g.forms.Keep) (rest : Stms g.forms) (v : g.Saved) (on : g.State → Signal g)
    → ((s z : g.State) → R s z → IsLike R (on s) (on z)) → (o q : Signal g) → IsLike R o q
    → IsLike R (after_branch w joined rest v on o) (after_branch w joined rest v on q)
branch_like R w both joined rest v on go (At ss fs s) q (z, is, like) =
    (z, ap (after_branch w joined rest v on) is, like)
branch_like R w both joined rest v on go (Meets j s) q (z, is, like) =
    subst (λ p. IsLike R (from_state (kept_by w joined j v s) on) (after_branch w joined rest v on p)) (sym is)
    (from_like R (kept_by w joined j v s) (kept_by w joined j v z) on (kept_like R w both joined j v s z like) go)
branch_like R w both joined rest v on go (Over s) q (z, is, like) =
    subst (λ p. IsLike R (from_state (w.falls v s) on) (after_branch w joined rest v on p)) (sym is)
    (from_like R (w.falls v s) (w.falls v z) on (both.falls v s z like) go)
branch_like R w both joined rest v on go (Nexts j s) q (z, is, like) =
    (z, ap (after_branch w joined rest v on) is, like)
branch_like R w both joined rest v on go (Breaks j s) q (z, is, like) =
    (z, ap (after_branch w joined rest v on) is, like)
branch_like R w both joined rest v on go (Ends j s) q (z, is, like) =
    (z, ap (after_branch w joined rest v on) is, like)
branch_like R w both joined rest v on go (Fails h) q is = ap (after_branch w joined rest v on) is

body_like : {g : Language} (R : g.State → g.State → Type 0) (w : StatementMeaning g) → Respects R w
    → (k : g.forms.Keep) (body : Stms g.forms) (left : Option g.forms.Keep) (rest : Stms g.forms) (v : g.Saved)
    (on : g.State → Signal g) → ((s z : g.State) → R s z → IsLike R (on s) (on z)) → (o q : Signal g) → IsLike R o q
    → IsLike R (after_fresh_body w k body left rest v on o) (after_fresh_body w k body left rest v on q)
body_like R w both k body left rest v on go (At ss fs s) q (z, is, like) =
    (z, ap (after_fresh_body w k body left rest v on) is, like)
body_like R w both k body left rest v on go (Breaks j s) q (z, is, like) =
    subst (λ p. IsLike R (from_state (kept_by w left j v s) on) (after_fresh_body w k body left rest v on p)) (sym is)
    (from_like R (kept_by w left j v s) (kept_by w left j v z) on (kept_like R w both left j v s z like) go)
body_like R w both k body left rest v on go (Ends j s) q (z, is, like) =
    (z, ap (after_fresh_body w k body left rest v on) is, like)
body_like R w both k body left rest v on go (Nexts j s) q (z, is, like) =
    ap (after_fresh_body w k body left rest v on) is
body_like R w both k body left rest v on go (Meets j s) q (z, is, like) =
    ap (after_fresh_body w k body left rest v on) is
body_like R w both k body left rest v on go (Over s) q (z, is, like) =
    ap (after_fresh_body w k body left rest v on) is
body_like R w both k body left rest v on go (Fails h) q is = ap (after_fresh_body w k body left rest v on) is

either_like : {g : Language} (R : g.State → g.State → Type 0) (b c : Bool) (o u q r : Signal g) → b ≡ c
    → IsLike R o q → IsLike R u r → IsLike R (if b then o else u) (if c then q else r)
either_like R true c o u q r same is other = subst (λ d. IsLike R o (if d then q else r)) same is
either_like R false c o u q r same is other = subst (λ d. IsLike R u (if d then q else r)) same other

meet_like : (g : Language) (R : g.State → g.State → Type 0) (b : Bool) (j : g.forms.Jump) (s z : g.State) → R s z
    → IsLike {g = g} R (if b then Meets j s else Fails Broken) (if b then Meets j z else Fails Broken)
meet_like g R true j s z like = (z, refl, like)
meet_like g R false j s z like = refl

pub run_like : {g : Language} (R : g.State → g.State → Type 0) (w : StatementMeaning g) → Respects R w
    → (ss : Stms g.forms) (s z : g.State) → R s z → IsLike R (run w ss s) (run w ss z)
unfolding run
run_like R w both (Brace n) s z like = (z, refl, like)
run_like R w both (Do l n rest) s z like =
    from_like R (w.local l s) (w.local l z) (run w rest) (both.local l s z like) (run_like R w both rest)
run_like R w both (On a n rest) s z like = (z, refl, like)
run_like R w both (OnWhen a n p q joined rest) s z like = (z, refl, like)
run_like R w both (If c n p q joined rest) s z like =
    subst (λ v. IsLike R (after_branch w joined rest (w.save s) (run w rest)
    (if w.test c s then run w p s else run w q s))
    (after_branch w joined rest v (run w rest) (if w.test c z then run w p z else run w q z))) (both.save s z like)
    (branch_like R w both joined rest (w.save s) (run w rest) (run_like R w both rest)
    (if w.test c s then run w p s else run w q s) (if w.test c z then run w p z else run w q z)
    (either_like R (w.test c s) (w.test c z) (run w p s) (run w q s) (run w p z) (run w q z) (both.test c s z like)
    (run_like R w both p s z like) (run_like R w both q s z like)))
run_like R w both (Loop k j n body left rest) s z like =
    subst (λ v. IsLike R (from_state (w.keep k j (w.save s) s)
    (λ t. after_fresh_body w k body left rest (w.save s) (run w rest) (run w body t)))
    (from_state (w.keep k j v z) (λ t. after_fresh_body w k body left rest v (run w rest) (run w body t))))
    (both.save s z like)
    (from_like R (w.keep k j (w.save s) s) (w.keep k j (w.save s) z)
    (λ t. after_fresh_body w k body left rest (w.save s) (run w rest) (run w body t))
    (both.keep k j (w.save s) s z like)
    (λ t u alike. body_like R w both k body left rest (w.save s) (run w rest) (run_like R w both rest) (run w body t)
    (run w body u) (run_like R w both body t u alike)))
run_like R w both (Next j n rest) s z like = (z, refl, like)
run_like R w both (Break j n rest) s z like = (z, refl, like)
run_like {g = g} R w both (Meet j n rest) s z like = meet_like g R (is_brace rest) j s z like
run_like R w both (End j n rest) s z like = (z, refl, like)

older_like : {g : Language} (R : g.State → g.State → Type 0) (w : StatementMeaning g) → Respects R w
    → (k : g.forms.Keep) (body : Stms g.forms) (left : Option g.forms.Keep) (rest : Stms g.forms) (v : g.Saved)
    (o q : Signal g) → IsLike R o q
    → IsLike R (after_older_body w k body left rest v o) (after_older_body w k body left rest v q)
older_like R w both k body left rest v (Nexts j s) q (z, is, like) =
    subst (λ p. IsLike R (after_older_body w k body left rest v (Nexts j s)) (after_older_body w k body left rest v p))
    (sym is) (from_like R (w.keep k j v s) (w.keep k j v z)
    (λ t. after_fresh_body w k body left rest v (run w rest) (run w body t)) (both.keep k j v s z like)
    (λ t u alike. body_like R w both k body left rest v (run w rest) (run_like R w both rest) (run w body t)
    (run w body u) (run_like R w both body t u alike)))
older_like R w both k body left rest v (At ss fs s) q (z, is, like) =
    (z, ap (after_older_body w k body left rest v) is, like)
older_like R w both k body left rest v (Breaks j s) q (z, is, like) =
    subst (λ p. IsLike R (from_state (kept_by w left j v s) (run w rest)) (after_older_body w k body left rest v p))
    (sym is) (from_like R (kept_by w left j v s) (kept_by w left j v z) (run w rest)
    (kept_like R w both left j v s z like) (run_like R w both rest))
older_like R w both k body left rest v (Ends j s) q (z, is, like) =
    (z, ap (after_older_body w k body left rest v) is, like)
older_like R w both k body left rest v (Meets j s) q (z, is, like) = ap (after_older_body w k body left rest v) is
older_like R w both k body left rest v (Over s) q (z, is, like) = ap (after_older_body w k body left rest v) is
older_like R w both k body left rest v (Fails h) q is = ap (after_older_body w k body left rest v) is

frame_like : {g : Language} (R : g.State → g.State → Type 0) (w : StatementMeaning g) → Respects R w
    → (f : Frame g) (o q : Signal g) → IsLike R o q → IsLike R (after_frame w f o) (after_frame w f q)
frame_like R w both (InBranch joined rest v) o q is =
    branch_like R w both joined rest v (run w rest) (run_like R w both rest) o q is
frame_like R w both (InLoop k body left rest v) o q is = older_like R w both k body left rest v o q is

pub unwind_like : {g : Language} (R : g.State → g.State → Type 0) (w : StatementMeaning g) → Respects R w
    → (fs : List (Frame g)) (o q : Signal g) → IsLike R o q → IsLike R (unwind w fs o) (unwind w fs q)
unfolding unwind
unwind_like R w both [] o q is = is
unwind_like R w both (f ∷ fs) o q is =
    unwind_like R w both fs (after_frame w f o) (after_frame w f q) (frame_like R w both f o q is)
