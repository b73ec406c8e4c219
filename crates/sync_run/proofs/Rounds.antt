-- Rounds of a run, thread by thread.
use Rattle.std.proofs.Common.{MatchResult, OnOk, ◌≡◌, ◌≢◌, ◌⊎◌, inl, inr, ℕ, zero, suc, ◌+◌, ◌<◌, ◌≤◌, true, false, nat_eq, List, [], ◌∷◌, length, map, slice_index, slice_set, replicate, Result, Ok, Err, refl, sym, ap, ◌∙◌, subst, arith}
use Rattle.std.proofs.lemmas.Bool.Decides.{eqb_tells}
use Rattle.std.proofs.lemmas.List.{length-replicate, length-set}
use Rattle.sync_thread.specs.Control.{Broken, event, waits_at, is_waiting}
use Rattle.sync_thread.specs.Code.{CodeThread, CodeTree, code_meaning, ErasedConfig, erased_start, IsStuck}
use Rattle.sync_thread.specs.declared.program.Code.{Code}
use Rattle.sync_thread.specs.declared.program.CodeThread.{CodeThread as Thread}
use Rattle.sync_thread.specs.Views.{code_tree, code_thread_tree}
use Rattle.sync_thread_events.specs.declared.endings.Halted.{Halted}
use Rattle.sync_thread_events.specs.declared.endings.Halted.TheVariants.{Stuck, Memory}
use Rattle.sync_thread_events.specs.Moves.{Halts}
use Rattle.sync_run.specs.Turns.{LeadsTo, LeadsOn, GetsStuck, HasMade, IsInRound, IsInLast}
use Rattle.sync_thread_events.proofs.Others.{others_stay}
use Rattle.sync_run.proofs.Leading.{one_more, steps_same, steps_other, leads_more, stuck_after}

-- whoever makes a step has made one more
made_one : (t k : ℕ) (c d : ErasedConfig) (steps : List ℕ) → t < length steps → waits_at t c.places ≡ true
    → HasMade k t c steps → HasMade (suc k) t d (one_more steps t)
made_one t k c d steps within waits made = record {
  most = omega (arith, steps_same steps t within, made.most);
  all = λ still. omega (arith, steps_same steps t within, made.all waits);
}

threads_long : (x : CodeTree) → length (code_meaning x).bodies ≡ length x.threads
threads_long x = by x.threads where
  by : (ts : List CodeThread) → length (map (λ (s : CodeThread). s.body) ts) ≡ length ts
  by [] = refl
  by (t ∷ ts) = ap suc (by ts)

-- and the others have made as many as before
others_made : (x : CodeTree) (t u k : ℕ) (c d : ErasedConfig) (steps : List ℕ) → event (code_meaning x) t c ≡ Ok d
    → u ≢ t → u < length x.threads → HasMade k u c steps → HasMade k u d (one_more steps t)
others_made x t u k c d steps goes other thread made =
    let long : length (code_meaning x).bodies ≡ length x.threads = threads_long x in
    let here : u ≢ length (code_meaning x).bodies = λ same. omega (arith, same, long, thread) in
    let stays : waits_at u d.places ≡ waits_at u c.places = ap is_waiting (others_stay (code_meaning x) t u c d goes other here) in
    record {
      most = omega (arith, steps_other steps t u other, made.most);
      all = λ waits. omega (arith, steps_other steps t u other, made.all (sym stays ∙ waits));
    }

made_fewer : (k t : ℕ) (c : ErasedConfig) (steps : List ℕ) → waits_at t c.places ≡ false → HasMade k t c steps
    → (n : ℕ) → k ≤ n → HasMade n t c steps
made_fewer k t c steps rests made n most = record {
  most = omega (arith, made.most, most);
  all = λ waits. absurd (let no : false ≡ true = sym rests ∙ waits in cc);
}

-- ---- a round

pub step_made : (x : CodeTree) (k t : ℕ) (c d : ErasedConfig) (steps : List ℕ) → t < length x.threads
    → waits_at t c.places ≡ true → event (code_meaning x) t c ≡ Ok d → IsInRound x k t c steps
    → IsInRound x k (t + 1) d (one_more steps t)
step_made x k t c d steps thread waits goes now =
    let within : t < length steps = omega (arith, now.count, thread) in
    record {
      count = length-set steps t (slice_index steps t + 1) ∙ now.count;
      done = λ u before. done u before (eqb_tells u t);
      next = λ u after among. others_made x t u k c d steps goes (λ same. omega (arith, same, after)) among
          (now.next u (omega (arith, after)) among);
      last = steps_other steps t (length x.threads) (λ same. omega (arith, same, thread)) ∙ now.last;
    } where
      done : (u : ℕ) → u < t + 1 → ((nat_eq u t ≡ true) × (u ≡ t)) ⊎ ((nat_eq u t ≡ false) × (u ≢ t))
          → HasMade (suc k) u d (one_more steps t)
      done u before (inl (is, same)) = subst (λ v. HasMade (suc k) v d (one_more steps t)) (sym same)
          (made_one t k c d steps (omega (arith, now.count, thread)) waits (now.next t (omega arith) thread))
      done u before (inr (isnt, other)) = others_made x t u (suc k) c d steps goes other (omega (arith, before, thread, other))
          (now.done u (omega (arith, before, other)))

pub rest_passed : (x : CodeTree) (k t : ℕ) (c : ErasedConfig) (steps : List ℕ) → t < length x.threads
    → waits_at t c.places ≡ false → IsInRound x k t c steps → IsInRound x k (t + 1) c steps
rest_passed x k t c steps thread rests now = record {
  count = now.count;
  done = λ u before. done u before (eqb_tells u t);
  next = λ u after among. now.next u (omega (arith, after)) among;
  last = now.last;
} where
  done : (u : ℕ) → u < t + 1 → ((nat_eq u t ≡ true) × (u ≡ t)) ⊎ ((nat_eq u t ≡ false) × (u ≢ t))
      → HasMade (suc k) u c steps
  done u before (inl (is, same)) = subst (λ v. HasMade (suc k) v c steps) (sym same)
      (made_fewer k t c steps rests (now.next t (omega arith) thread) (suc k) (omega arith))
  done u before (inr (isnt, other)) = now.done u (omega (arith, before, other))

pub round_over : (x : CodeTree) (k : ℕ) (c : ErasedConfig) (steps : List ℕ)
    → IsInRound x k (length x.threads) c steps → IsInRound x (k + 1) 0 c steps
round_over x k c steps now = record {
  count = now.count;
  done = λ u before. absurd (omega (arith, before));
  next = λ u after among. subst (λ n. HasMade n u c steps) (let e : suc k ≡ k + 1 = omega arith in e) (now.done u among);
  last = now.last;
}

-- ---- from the threads to the final block

pub all_used : (x : CodeTree) (budget : ℕ) (c : ErasedConfig) (steps : List ℕ) → IsInRound x budget 0 c steps
    → IsInLast x budget 0 c steps
all_used x budget c steps now = record {
  count = now.count;
  threads = λ u among. now.next u (omega arith) among;
  last = record { most = omega (arith, now.last); all = λ waits. omega arith };
}

pub all_ended : (x : CodeTree) (budget k : ℕ) (c : ErasedConfig) (steps : List ℕ) → k ≤ budget
    → ((u : ℕ) → u < length x.threads → waits_at u c.places ≡ false) → IsInRound x k 0 c steps
    → IsInLast x budget 0 c steps
all_ended x budget k c steps most rest now = record {
  count = now.count;
  threads = λ u among. made_fewer k u c steps (rest u among) (now.next u (omega arith) among) budget most;
  last = record { most = omega (arith, now.last); all = λ waits. omega arith };
}

-- ---- the final block

pub last_made : (x : CodeTree) (budget k : ℕ) (c d : ErasedConfig) (steps : List ℕ)
    → waits_at (length x.threads) c.places ≡ true → event (code_meaning x) (length x.threads) c ≡ Ok d
    → IsInLast x budget k c steps → IsInLast x budget (k + 1) d (one_more steps (length x.threads))
last_made x budget k c d steps waits goes now =
    let n = length x.threads in
    record {
      count = length-set steps n (slice_index steps n + 1) ∙ now.count;
      threads = λ u among. others_made x n u budget c d steps goes (λ same. omega (arith, same, among)) among (now.threads u among);
      last = subst (λ m. HasMade m n d (one_more steps n)) (let e : suc k ≡ k + 1 = omega arith in e)
          (made_one n k c d steps (omega (arith, now.count)) waits now.last);
    }

pub last_ended : (x : CodeTree) (budget k : ℕ) (c : ErasedConfig) (steps : List ℕ) → k ≤ budget
    → waits_at (length x.threads) c.places ≡ false → IsInLast x budget k c steps → IsInLast x budget budget c steps
last_ended x budget k c steps most rests now = record {
  count = now.count;
  threads = now.threads;
  last = made_fewer k (length x.threads) c steps rests now.last budget most;
}

-- ---- in code

pub tree_long : (code : Code) → length (code_tree code).threads ≡ length code.threads
tree_long code = by code.threads where
  by : (ts : List Thread) → length (map code_thread_tree ts) ≡ length ts
  by [] = refl
  by (t ∷ ts) = ap suc (by ts)

-- who waits in his round has made as many steps as there were rounds
made_now : (k t : ℕ) (c : ErasedConfig) (steps : List ℕ) → waits_at t c.places ≡ true → HasMade k t c steps
    → slice_set steps t (k + 1) ≡ one_more steps t
made_now k t c steps waits made =
    ap (λ n. slice_set steps t (n + 1)) (let e : k ≡ slice_index steps t = omega (arith, made.most, made.all waits) in e)

pub none_to_go : (x : CodeTree) (k t : ℕ) (c : ErasedConfig) (steps : List ℕ) → t < length x.threads
    → IsInRound x k t c steps → t < length steps
none_to_go x k t c steps thread now = omega (arith, thread, now.count)

pub visited : (x : CodeTree) (k t : ℕ) (c d : ErasedConfig) (steps after : List ℕ) → t < length x.threads
    → waits_at t c.places ≡ true → event (code_meaning x) t c ≡ Ok d → after ≡ slice_set steps t (k + 1)
    → IsInRound x k t c steps → IsInRound x k (t + 1) d after
visited x k t c d steps after thread waits goes is now =
    subst (IsInRound x k (t + 1) d) (sym (is ∙ made_now k t c steps waits (now.next t (omega arith) thread)))
    (step_made x k t c d steps thread waits goes now)

pub visited_leads : (x : CodeTree) (k t : ℕ) (c d : ErasedConfig) (steps after : List ℕ) → t < length x.threads
    → waits_at t c.places ≡ true → event (code_meaning x) t c ≡ Ok d → after ≡ slice_set steps t (k + 1)
    → IsInRound x k t c steps → LeadsOn x c steps d after
visited_leads x k t c d steps after thread waits goes is now =
    subst (LeadsOn x c steps d) (sym (is ∙ made_now k t c steps waits (now.next t (omega arith) thread)))
    (leads_more x t c d steps (omega (arith, thread, now.count)) waits goes)

pub on_along : (x : CodeTree) (a b c : ErasedConfig) (one two three : List ℕ) → LeadsOn x a one b two
    → LeadsOn x b two c three → LeadsOn x a one c three
on_along x a b c one two three first second start led = second start (first start led)

pub stuck_along : (x : CodeTree) (a b : ErasedConfig) (one two : List ℕ) → LeadsOn x a one b two
    → GetsStuck x b two → GetsStuck x a one
stuck_along x a b one two first stuck start starts led = stuck start starts (first start led)

pub gets_stuck : (x : CodeTree) (t : ℕ) (c : ErasedConfig) (steps : List ℕ)
    → event (code_meaning x) t c ≡ Err Broken → GetsStuck x c steps
gets_stuck x t c steps stops start starts led = stuck_after x t Broken c start steps starts stops led

-- what was reached, where an answer is there; and otherwise the same of what comes of a failure
pub halted_along : (P Q : Type 0) (h : Halted) → (P → Q) → Halts P h → Halts Q h
halted_along P Q Stuck on is = on is
halted_along P Q Memory on is = tt

pub visited_either : {A : Type 0} (x : CodeTree) (k t : ℕ) (c d : ErasedConfig) (steps after : List ℕ) (r : Result A Halted)
    → t < length x.threads → waits_at t c.places ≡ true
    → MatchResult r (λ _. event (code_meaning x) t c ≡ Ok d) (Halts (event (code_meaning x) t c ≡ Err Broken))
    → OnOk r (after ≡ slice_set steps t (k + 1)) → IsInRound x k t c steps
    → MatchResult r (λ _. LeadsOn x c steps d after) (Halts (GetsStuck x c steps))
visited_either x k t c d steps after (Ok u) thread waits goes is now = visited_leads x k t c d steps after thread waits goes is now
visited_either x k t c d steps after (Err h) thread waits stops is now =
    halted_along (event (code_meaning x) t c ≡ Err Broken) (GetsStuck x c steps) h (gets_stuck x t c steps) stops

pub halted_on : (x : CodeTree) (a b : ErasedConfig) (one two : List ℕ) (h : Halted) → LeadsOn x a one b two
    → Halts (GetsStuck x b two) h → Halts (GetsStuck x a one) h
halted_on x a b one two h first stops =
    halted_along (GetsStuck x b two) (GetsStuck x a one) h (stuck_along x a b one two first) stops

pub round_ends : (x : CodeTree) (k t : ℕ) (c : ErasedConfig) (steps : List ℕ) → t ≡ length x.threads
    → IsInRound x k t c steps → IsInRound x (k + 1) 0 c steps
round_ends x k t c steps last now = round_over x k c steps (subst (λ n. IsInRound x k n c steps) last now)

pub last_more : (x : CodeTree) (budget k t : ℕ) (c d : ErasedConfig) (steps after : List ℕ) → t ≡ length x.threads
    → waits_at t c.places ≡ true → event (code_meaning x) t c ≡ Ok d → after ≡ slice_set steps t (k + 1)
    → IsInLast x budget k c steps → IsInLast x budget (k + 1) d after
last_more x budget k t c d steps after here waits goes is now =
    subst (IsInLast x budget (k + 1) d)
    (sym (is ∙ made_now k t c steps waits (subst (λ n. HasMade k n c steps) (sym here) now.last) ∙ ap (one_more steps) here))
    (last_made x budget k c d steps (subst (λ n. waits_at n c.places ≡ true) here waits)
    (subst (λ n. event (code_meaning x) n c ≡ Ok d) here goes) now)

pub last_on : (x : CodeTree) (budget k t : ℕ) (a c d : ErasedConfig) (one steps after : List ℕ) → t ≡ length x.threads
    → waits_at t c.places ≡ true → event (code_meaning x) t c ≡ Ok d → after ≡ slice_set steps t (k + 1)
    → IsInLast x budget k c steps → LeadsOn x a one c steps → LeadsOn x a one d after
last_on x budget k t a c d one steps after here waits goes is now first = on_along x a c d one steps after first
    (subst (LeadsOn x c steps d)
    (sym (is ∙ made_now k t c steps waits (subst (λ n. HasMade k n c steps) (sym here) now.last)))
    (leads_more x t c d steps (omega (arith, here, now.count)) waits goes))

-- ---- the start

zeros : (n t : ℕ) → slice_index (replicate n 0) t ≡ 0
zeros zero t = refl
zeros (suc n) zero = refl
zeros (suc n) (suc t) = zeros n t

pub first_round : (code : Code) (c : ErasedConfig) (steps : List ℕ) → steps ≡ replicate (length code.threads + 1) 0
    → IsInRound (code_tree code) 0 0 c steps
first_round code c steps is = record {
  count = ap length is ∙ length-replicate (length code.threads + 1) 0 ∙ (let e : length code.threads + 1 ≡ suc (length (code_tree code).threads) = omega (arith, tree_long code) in e);
  done = λ u before. absurd (omega (arith, before));
  next = λ u after among. record { most = omega (arith, none u); all = λ waits. omega arith };
  last = none (length (code_tree code).threads);
} where
  none : (u : ℕ) → slice_index steps u ≡ 0
  none u = ap (λ xs. slice_index xs u) is ∙ zeros (length code.threads + 1) u

pub none_led : (x : CodeTree) (start : ErasedConfig) (n : ℕ) (steps : List ℕ) → steps ≡ replicate n 0
    → LeadsTo x start start steps
none_led x start n steps is = record {
  sigma = [];
  moves = tt;
  leaves = refl;
  counts = λ u. ap (λ xs. slice_index xs u) is ∙ zeros n u;
}

pub stuck_from_start : (x : CodeTree) (start : ErasedConfig) (n : ℕ) (steps : List ℕ) (h : Halted)
    → erased_start x ≡ Ok start → steps ≡ replicate n 0 → Halts (GetsStuck x start steps) h
    → Halts ((sigma : List ℕ) × IsStuck x sigma) h
stuck_from_start x start n steps h starts is stops =
    halted_along (GetsStuck x start steps) ((sigma : List ℕ) × IsStuck x sigma) h
    (λ stuck. stuck start starts (none_led x start n steps is)) stops
