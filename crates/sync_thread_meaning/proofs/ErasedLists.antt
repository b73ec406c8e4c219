-- The erased program does what the annotated one does, wherever that does not fail.
use Rattle.std.specs.Prelude.{◌≡◌, ℕ, ℤ, Bool, true, false, if◌then◌else◌, List, [], ◌∷◌, ◌++◌, map, Option, Some, None}
use Rattle.std.specs.Prelude.{Result, Ok, Err}
use mathlib.Core.Path.{refl, sym, ap, subst}
use Rattle.sync_base.specs.Outcome.{◌>>=◌}
use Rattle.sync_thread.specs.Control
use Rattle.sync_thread.specs.Control.{Halt, Broken, Brace, Do, On, OnWhen, If, Loop, Next, Break, Meet, End, Frame}
use Rattle.sync_thread.specs.Control.{InBranch, InLoop, Signal, At, Nexts, Breaks, Meets, Ends, Over, Fails, from_state}
use Rattle.sync_thread.specs.Control.{kept_by, is_brace, after_branch, after_fresh_body, after_older_body, after_frame}
use Rattle.sync_thread.specs.Control.{after_choice, run, unwind, step}
use Rattle.sync_thread.specs.Programs.{ListTree, Set, Proof, KeepTree, JumpTree, ChoiceTree}
use Rattle.sync_thread.specs.Code.{Memory, code_language, code_list, code_statements, code_local, code_step}
use Rattle.sync_thread.specs.Code.{code_shared, code_word, satisfies, operand_value}
use Rattle.sync_thread_meaning.specs.Shares.{Shares, wrap_of, proofs_of, with_wrap, overlaid}
use Rattle.sync_thread_meaning.specs.MachineWithProgram.{MachineWithProgram, decls_of}
use Rattle.sync_thread_meaning.specs.Erased.{erased_frame}
use Rattle.sync_thread_meaning.specs.Meaning.{World, Arrival, annotated_language, annotated_statements, with_shares}
use Rattle.sync_thread_meaning.specs.Meaning.{local_step, shared_step, keep_step, arrived, share_step, word_block}
use Rattle.sync_thread_meaning.specs.Meaning.{keeping, wrapping, calc_wrap, proof_step, InThread}

-- an end of the erased list is the one of the annotated list, unless that failed
abbrev pub Same : Signal annotated_language → Signal code_language → Type 0
Same (At ss fs s) o = o ≡ At (code_list ss) (map erased_frame fs) s.memory
Same (Nexts j s) o = o ≡ Nexts tt s.memory
Same (Breaks j s) o = o ≡ Breaks tt s.memory
Same (Meets j s) o = o ≡ Over s.memory
Same (Ends j s) o = o ≡ Ends tt s.memory
Same (Over s) o = o ≡ Over s.memory
Same (Fails h) o = Unit {0}

abbrev pub SameState : Result World Halt → Result Memory Halt → Type 0
SameState (Ok s) r = r ≡ Ok s.memory
SameState (Err h) r = Unit {0}

map_two : {A B : Type 0} (f : A → B) (xs ys : List A) → map f (xs ++ ys) ≡ map f xs ++ map f ys
map_two f [] ys = refl
map_two f (x ∷ xs) ys = ap (λ zs. f x ∷ zs) (map_two f xs ys)

shares_same : (m : Memory) (r : Result Shares Halt) → SameState (with_shares m r) (Ok m)
shares_same m (Ok g) = refl
shares_same m (Err h) = tt

there_same : (r : Result Memory Halt) (f : Memory → Result Shares Halt)
    → SameState (r >>= (λ m. with_shares m (f m))) r
there_same (Ok m) f = shares_same m (f m)
there_same (Err h) f = tt

from_same : (r : Result World Halt) (q : Result Memory Halt) (on : World → Signal annotated_language) (go : Memory
    → Signal code_language)
    → SameState r q
    → ((s : World) → Same (on s) (go s.memory)) → Same (from_state r on) (from_state q go)
from_same (Ok s) q on go is same = subst (λ p. Same (on s) (from_state p go)) (sym is) (same s)
from_same (Err h) q on go is same = tt

either_same : (b : Bool) (o u : Signal annotated_language) (q r : Signal code_language) → Same o q → Same u r
    → Same (if b then o else u) (if b then q else r)
either_same true o u q r is other = is
either_same false o u q r is other = other

pub made_same : {A : Type 0} (r : Result A Halt) (f : A → Shares) (m : Memory)
    → SameState (r >>= (λ a. Ok (record { memory = m; shares = f a }))) (Ok m)
made_same (Ok a) f m = refl
made_same (Err h) f m = tt

keep_same : (fits : ℤ → Bool) (x : MachineWithProgram) (t : ℕ) (k : KeepTree) (j : JumpTree) (v : ℤ) (s : World)
    → SameState (keep_step fits x t k j v s) (Ok s.memory)
keep_same fits x t k j v s = made_same (arrived fits x s t k j.args v)
    (λ (a : Arrival). with_wrap t v (keeping t a.kept a.left (overlaid a.own (proofs_of s.shares t)) s.shares)) s.memory

kept_same : (fits : ℤ → Bool) (x : MachineWithProgram) (t : ℕ) (k : Option KeepTree) (j : JumpTree) (v : ℤ) (s : World)
    → SameState (kept_by (annotated_statements fits x t) k j v s) (Ok s.memory)
kept_same fits x t (Some k) j v s = keep_same fits x t k j v s
kept_same fits x t None j v s = tt

branch_same : (fits : ℤ → Bool) (x : MachineWithProgram) (t : ℕ) (joined : Option KeepTree) (rest : ListTree) (v : ℤ)
    (on : World → Signal annotated_language) (go : Memory → Signal code_language)
    → ((s : World) → Same (on s) (go s.memory)) → (o : Signal annotated_language) (q : Signal code_language)
    → Same o q
    → Same (after_branch (annotated_statements fits x t) joined rest v on o)
    (after_branch (code_statements (decls_of x) t) None (code_list rest) tt go q)
branch_same fits x t joined rest v on go same (At ss fs s) q is =
    subst (λ p. Same (At ss (fs ++ InBranch joined rest v ∷ []) s)
    (after_branch (code_statements (decls_of x) t) None (code_list rest) tt go p)) (sym is)
    (ap (λ gs. At (code_list ss) gs s.memory) (sym (map_two erased_frame fs (InBranch joined rest v ∷ []))))
branch_same fits x t joined rest v on go same (Meets j s) q is =
    subst (λ p. Same (from_state (kept_by (annotated_statements fits x t) joined j v s) on)
    (after_branch (code_statements (decls_of x) t) None (code_list rest) tt go p)) (sym is)
    (from_same (kept_by (annotated_statements fits x t) joined j v s) (Ok s.memory) on go
    (kept_same fits x t joined j v s) same)
branch_same fits x t joined rest v on go same (Over s) q is = tt
branch_same fits x t joined rest v on go same (Nexts j s) q is =
    subst (λ p. Same (Nexts j s) (after_branch (code_statements (decls_of x) t) None (code_list rest) tt go p))
    (sym is) refl
branch_same fits x t joined rest v on go same (Breaks j s) q is =
    subst (λ p. Same (Breaks j s) (after_branch (code_statements (decls_of x) t) None (code_list rest) tt go p))
    (sym is) refl
branch_same fits x t joined rest v on go same (Ends j s) q is =
    subst (λ p. Same (Ends j s) (after_branch (code_statements (decls_of x) t) None (code_list rest) tt go p))
    (sym is) refl
branch_same fits x t joined rest v on go same (Fails h) q is = tt

turn_same : (fits : ℤ → Bool) (x : MachineWithProgram) (t : ℕ) (k : KeepTree) (body : ListTree)
    (left : Option KeepTree) (rest : ListTree) (v : ℤ) (on : World → Signal annotated_language) (go : Memory
    → Signal code_language)
    → ((s : World) → Same (on s) (go s.memory)) → (o : Signal annotated_language) (q : Signal code_language)
    → Same o q
    → Same (after_fresh_body (annotated_statements fits x t) k body left rest v on o)
    (after_fresh_body (code_statements (decls_of x) t) tt (code_list body) (Some tt) (code_list rest) tt go q)
turn_same fits x t k body left rest v on go same (At ss fs s) q is =
    subst (λ p. Same (At ss (fs ++ InLoop k body left rest v ∷ []) s)
    (after_fresh_body (code_statements (decls_of x) t) tt (code_list body) (Some tt) (code_list rest) tt go p))
    (sym is)
    (ap (λ gs. At (code_list ss) gs s.memory) (sym (map_two erased_frame fs (InLoop k body left rest v ∷ []))))
turn_same fits x t k body left rest v on go same (Breaks j s) q is =
    subst (λ p. Same (from_state (kept_by (annotated_statements fits x t) left j v s) on)
    (after_fresh_body (code_statements (decls_of x) t) tt (code_list body) (Some tt) (code_list rest) tt go p))
    (sym is)
    (from_same (kept_by (annotated_statements fits x t) left j v s) (Ok s.memory) on go
    (kept_same fits x t left j v s) same)
turn_same fits x t k body left rest v on go same (Nexts j s) q is = tt
turn_same fits x t k body left rest v on go same (Meets j s) q is = tt
turn_same fits x t k body left rest v on go same (Over s) q is = tt
turn_same fits x t k body left rest v on go same (Ends j s) q is =
    subst (λ p. Same (Ends j s) (after_fresh_body (code_statements (decls_of x) t) tt (code_list body) (Some tt)
    (code_list rest) tt go p)) (sym is) refl
turn_same fits x t k body left rest v on go same (Fails h) q is = tt

meet_same : (fits : ℤ → Bool) (x : MachineWithProgram) (t : ℕ) (j : JumpTree) (rest : ListTree) (s : World)
    → Same (if is_brace rest then Meets j s else Fails Broken)
    (run (code_statements (decls_of x) t) (code_list rest) s.memory)
unfolding run code_list
meet_same fits x t j (Brace n) s = refl
meet_same fits x t j (Do l n r) s = tt
meet_same fits x t j (On a n r) s = tt
meet_same fits x t j (OnWhen a n p q k r) s = tt
meet_same fits x t j (If c n p q k r) s = tt
meet_same fits x t j (Loop k i n b l r) s = tt
meet_same fits x t j (Next i n r) s = tt
meet_same fits x t j (Break i n r) s = tt
meet_same fits x t j (Meet i n r) s = tt
meet_same fits x t j (End i n r) s = tt

pub run_same : (fits : ℤ → Bool) (x : MachineWithProgram) (t : ℕ) (ss : ListTree) (s : World)
    → Same (run (annotated_statements fits x t) ss s) (run (code_statements (decls_of x) t) (code_list ss) s.memory)
unfolding run code_list
run_same fits x t (Brace n) s = refl
run_same fits x t (Do (Set y c label) n rest) s =
    from_same (local_step fits x t (Set y c label) s) (code_local t (record { local = y; calc = c }) s.memory)
    (run (annotated_statements fits x t) rest) (run (code_statements (decls_of x) t) (code_list rest))
    (there_same (code_local t (record { local = y; calc = c }) s.memory)
    (λ m. Ok (wrapping t (calc_wrap (operand_value s.memory t) c) s.shares))) (run_same fits x t rest)
run_same fits x t (Do (Proof p) n rest) s = from_same (local_step fits x t (Proof p) s) (Ok s.memory)
    (run (annotated_statements fits x t) rest) (run (code_statements (decls_of x) t) (code_list rest))
    (shares_same s.memory (proof_step fits x t InThread s.memory p s.shares)) (run_same fits x t rest)
run_same fits x t (On a n rest) s = refl
run_same fits x t (OnWhen a n p q joined rest) s = refl
run_same fits x t (If c n p q joined rest) s =
    branch_same fits x t joined rest (wrap_of s.shares t) (run (annotated_statements fits x t) rest)
    (run (code_statements (decls_of x) t) (code_list rest)) (run_same fits x t rest)
    (if satisfies s.memory t c.cond then run (annotated_statements fits x t) p s else run
    (annotated_statements fits x t) q s)
    (if satisfies s.memory t c.cond then run (code_statements (decls_of x) t) (code_list p) s.memory else run
    (code_statements (decls_of x) t) (code_list q) s.memory)
    (either_same (satisfies s.memory t c.cond) (run (annotated_statements fits x t) p s)
    (run (annotated_statements fits x t) q s) (run (code_statements (decls_of x) t) (code_list p) s.memory)
    (run (code_statements (decls_of x) t) (code_list q) s.memory) (run_same fits x t p s) (run_same fits x t q s))
run_same fits x t (Loop k j n body left rest) s =
    from_same (keep_step fits x t k j (wrap_of s.shares t) s) (Ok s.memory)
    (λ u. after_fresh_body (annotated_statements fits x t) k body left rest (wrap_of s.shares t)
    (run (annotated_statements fits x t) rest) (run (annotated_statements fits x t) body u))
    (λ m. after_fresh_body (code_statements (decls_of x) t) tt (code_list body) (Some tt) (code_list rest) tt
    (run (code_statements (decls_of x) t) (code_list rest))
    (run (code_statements (decls_of x) t) (code_list body) m))
    (keep_same fits x t k j (wrap_of s.shares t) s)
    (λ u. turn_same fits x t k body left rest (wrap_of s.shares t) (run (annotated_statements fits x t) rest)
    (run (code_statements (decls_of x) t) (code_list rest)) (run_same fits x t rest)
    (run (annotated_statements fits x t) body u) (run (code_statements (decls_of x) t) (code_list body) u.memory)
    (run_same fits x t body u))
run_same fits x t (Next j n rest) s = refl
run_same fits x t (Break j n rest) s = refl
run_same fits x t (Meet j n rest) s = meet_same fits x t j rest s
run_same fits x t (End j n rest) s = refl

body_same : (fits : ℤ → Bool) (x : MachineWithProgram) (t : ℕ) (k : KeepTree) (body : ListTree)
    (left : Option KeepTree) (rest : ListTree) (v : ℤ) (o : Signal annotated_language) (q : Signal code_language)
    → Same o q
    → Same (after_older_body (annotated_statements fits x t) k body left rest v o)
    (after_older_body (code_statements (decls_of x) t) tt (code_list body) (Some tt) (code_list rest) tt q)
body_same fits x t k body left rest v (Nexts j s) q is =
    subst (λ p. Same (after_older_body (annotated_statements fits x t) k body left rest v (Nexts j s))
    (after_older_body (code_statements (decls_of x) t) tt (code_list body) (Some tt) (code_list rest) tt p))
    (sym is)
    (from_same (keep_step fits x t k j v s) (Ok s.memory)
    (λ u. after_fresh_body (annotated_statements fits x t) k body left rest v
    (run (annotated_statements fits x t) rest) (run (annotated_statements fits x t) body u))
    (λ m. after_fresh_body (code_statements (decls_of x) t) tt (code_list body) (Some tt) (code_list rest) tt
    (run (code_statements (decls_of x) t) (code_list rest))
    (run (code_statements (decls_of x) t) (code_list body) m))
    (keep_same fits x t k j v s)
    (λ u. turn_same fits x t k body left rest v (run (annotated_statements fits x t) rest)
    (run (code_statements (decls_of x) t) (code_list rest)) (run_same fits x t rest)
    (run (annotated_statements fits x t) body u) (run (code_statements (decls_of x) t) (code_list body) u.memory)
    (run_same fits x t body u)))
body_same fits x t k body left rest v (At ss fs s) q is =
    subst (λ p. Same (after_older_body (annotated_statements fits x t) k body left rest v (At ss fs s))
    (after_older_body (code_statements (decls_of x) t) tt (code_list body) (Some tt) (code_list rest) tt p))
    (sym is)
    (turn_same fits x t k body left rest v (run (annotated_statements fits x t) rest)
    (run (code_statements (decls_of x) t) (code_list rest)) (run_same fits x t rest) (At ss fs s)
    (At (code_list ss) (map erased_frame fs) s.memory) refl)
body_same fits x t k body left rest v (Breaks j s) q is =
    subst (λ p. Same (after_older_body (annotated_statements fits x t) k body left rest v (Breaks j s))
    (after_older_body (code_statements (decls_of x) t) tt (code_list body) (Some tt) (code_list rest) tt p))
    (sym is)
    (turn_same fits x t k body left rest v (run (annotated_statements fits x t) rest)
    (run (code_statements (decls_of x) t) (code_list rest)) (run_same fits x t rest) (Breaks j s)
    (Breaks tt s.memory) refl)
body_same fits x t k body left rest v (Ends j s) q is =
    subst (λ p. Same (Ends j s) (after_older_body (code_statements (decls_of x) t) tt (code_list body) (Some tt)
    (code_list rest) tt p)) (sym is) refl
body_same fits x t k body left rest v (Meets j s) q is = tt
body_same fits x t k body left rest v (Over s) q is = tt
body_same fits x t k body left rest v (Fails h) q is = tt

frame_same : (fits : ℤ → Bool) (x : MachineWithProgram) (t : ℕ) (f : Frame annotated_language)
    (o : Signal annotated_language) (q : Signal code_language)
    → Same o q
    → Same (after_frame (annotated_statements fits x t) f o)
    (after_frame (code_statements (decls_of x) t) (erased_frame f) q)
frame_same fits x t (InBranch joined rest v) o q is =
    branch_same fits x t joined rest v (run (annotated_statements fits x t) rest)
    (run (code_statements (decls_of x) t) (code_list rest)) (run_same fits x t rest) o q is
frame_same fits x t (InLoop k body left rest v) o q is = body_same fits x t k body left rest v o q is

pub unwind_same : (fits : ℤ → Bool) (x : MachineWithProgram) (t : ℕ) (fs : List (Frame annotated_language))
    (o : Signal annotated_language) (q : Signal code_language)
    → Same o q
    → Same (unwind (annotated_statements fits x t) fs o)
    (unwind (code_statements (decls_of x) t) (map erased_frame fs) q)
unfolding unwind
unwind_same fits x t [] o q is = is
unwind_same fits x t (f ∷ fs) o q is =
    unwind_same fits x t fs (after_frame (annotated_statements fits x t) f o)
    (after_frame (code_statements (decls_of x) t) (erased_frame f) q) (frame_same fits x t f o q is)

chosen_same : (fits : ℤ → Bool) (x : MachineWithProgram) (t : ℕ) (a : ChoiceTree) (p q : ListTree)
    (joined : Option KeepTree) (rest : ListTree) (m : Memory) (r : Result Shares Halt)
    → Same (after_choice (annotated_statements fits x t) p q joined rest (with_shares m r
    >>= (λ (w : World). Ok (satisfies m t a.test.cond, w))))
    (run (code_statements (decls_of x) t) (If a.test.cond 0 (code_list p) (code_list q) None (code_list rest)) m)
unfolding run
chosen_same fits x t a p q joined rest m (Err h) = tt
chosen_same fits x t a p q joined rest m (Ok g) = let w : World = record { memory = m; shares = g } in
    branch_same fits x t joined rest (wrap_of g t) (run (annotated_statements fits x t) rest)
    (run (code_statements (decls_of x) t) (code_list rest)) (run_same fits x t rest)
    (if satisfies m t a.test.cond then run (annotated_statements fits x t) p w else run
    (annotated_statements fits x t) q w)
    (if satisfies m t a.test.cond then run (code_statements (decls_of x) t) (code_list p) m else run
    (code_statements (decls_of x) t) (code_list q) m)
    (either_same (satisfies m t a.test.cond) (run (annotated_statements fits x t) p w)
    (run (annotated_statements fits x t) q w) (run (code_statements (decls_of x) t) (code_list p) m)
    (run (code_statements (decls_of x) t) (code_list q) m) (run_same fits x t p w) (run_same fits x t q w))

choice_same : (fits : ℤ → Bool) (x : MachineWithProgram) (t : ℕ) (a : ChoiceTree) (p q : ListTree)
    (joined : Option KeepTree) (rest : ListTree) (r : Result Memory Halt) (f : Memory → Result Shares Halt)
    → Same (after_choice (annotated_statements fits x t) p q joined rest (r
    >>= (λ (m : Memory). with_shares m (f m) >>= (λ (w : World). Ok (satisfies m t a.test.cond, w)))))
    (from_state r (run (code_statements (decls_of x) t)
    (If a.test.cond 0 (code_list p) (code_list q) None (code_list rest))))
choice_same fits x t a p q joined rest (Ok m) f = chosen_same fits x t a p q joined rest m (f m)
choice_same fits x t a p q joined rest (Err h) f = tt

pub step_same : (fits : ℤ → Bool) (x : MachineWithProgram) (t : ℕ) (ss : ListTree) (s : World)
    → Same (step (annotated_statements fits x t) ss s) (step (code_statements (decls_of x) t) (code_list ss) s.memory)
unfolding code_list
step_same fits x t (On a n rest) s =
    from_same (shared_step fits x t a s) (code_step (decls_of x) t (code_shared a) s.memory)
    (run (annotated_statements fits x t) rest) (run (code_statements (decls_of x) t) (code_list rest))
    (there_same (code_step (decls_of x) t (code_shared a) s.memory) (λ m. share_step fits x t a s.memory m s.shares))
    (run_same fits x t rest)
step_same fits x t (OnWhen a n p q joined rest) s =
    choice_same fits x t a p q joined rest (code_step (decls_of x) t (code_word a.atomic) s.memory)
    (λ m. word_block fits x t a.atomic (if satisfies m t a.test.cond then a.first else a.second) s.memory m s.shares)
step_same fits x t (Brace n) s = tt
step_same fits x t (Do l n r) s = tt
step_same fits x t (If c n p q k r) s = tt
step_same fits x t (Loop k j n b l r) s = tt
step_same fits x t (Next j n r) s = tt
step_same fits x t (Break j n r) s = tt
step_same fits x t (Meet j n r) s = tt
step_same fits x t (End j n r) s = tt
