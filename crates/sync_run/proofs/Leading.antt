-- A schedule with one event more.
use Rattle.std.proofs.Common.{◌≡◌, ◌≢◌, ◌⊎◌, inl, inr, ℕ, ◌+◌, ◌<◌, true, false, cond, nat_eq, List, [], ◌∷◌, ◌++◌, length, slice_index, slice_set, Result, Ok, Err, refl, sym, ap, ◌∙◌, subst, arith}
use Rattle.std.proofs.lemmas.Bool.Decides.{eqb_tells}
use Rattle.std.proofs.lemmas.Grind.{get_or-set_at}
use Rattle.std.proofs.lemmas.List.{get_or-set_other}
use Rattle.std.proofs.lemmas.List.Sums.{sum_by_push}
use Rattle.sync_base.specs.Outcome.{◌>>=◌}
use Rattle.sync_thread.specs.Control.{Halt, Language, ProgramMeaning, Running, event, events, AllMove, waits_at}
use Rattle.sync_thread.specs.Code.{CodeTree, code_meaning, ErasedConfig, erased_start, erased_after}
use Rattle.sync_thread.specs.Reports.{steps_in}
use Rattle.sync_thread_events.proofs.Schedules.{events_more}
use Rattle.sync_thread_events.proofs.Tables.{ok_same}
use Rattle.sync_run.specs.Turns.{LeadsTo, LeadsOn}

moves_more : {g : Language} (p : ProgramMeaning g) (sigma : List ℕ) (t : ℕ) (c d : Running g)
    → events p sigma c ≡ Ok d → AllMove p sigma c → waits_at t d.places ≡ true → AllMove p (sigma ++ t ∷ []) c
moves_more {g = g} p [] t c d is moves waits =
    (subst (λ (b : Running g). waits_at t b.places ≡ true) (sym (ok_same c d is)) waits, λ e goes. tt)
moves_more {g = g} p (s ∷ ss) t c d is (first, later) waits =
    (first, λ b goes. moves_more p ss t b d (subst (λ (q : Result (Running g) Halt). q >>= events p ss ≡ Ok d) goes is) (later b goes) waits)

-- one step more of t
abbrev pub one_more : List ℕ → ℕ → List ℕ
one_more steps t = slice_set steps t (slice_index steps t + 1)

pub steps_same : (steps : List ℕ) (t : ℕ) → t < length steps → slice_index (one_more steps t) t ≡ slice_index steps t + 1
steps_same steps t within = get_or-set_at steps t t (slice_index steps t + 1) 0 refl within

pub steps_other : (steps : List ℕ) (t u : ℕ) → u ≢ t → slice_index (one_more steps t) u ≡ slice_index steps u
steps_other steps t u other = get_or-set_other steps t u (slice_index steps t + 1) 0 other

counts_more : (sigma steps : List ℕ) (t : ℕ) → t < length steps → ((u : ℕ) → slice_index steps u ≡ steps_in sigma u)
    → (u : ℕ) → slice_index (one_more steps t) u ≡ steps_in (sigma ++ t ∷ []) u
counts_more sigma steps t within counts u = by (eqb_tells u t) where
  pushed : steps_in (sigma ++ t ∷ []) u ≡ steps_in sigma u + cond (nat_eq u t) 1 0
  pushed = sum_by_push (λ x. cond (nat_eq u x) 1 0) sigma t

  by : ((nat_eq u t ≡ true) × (u ≡ t)) ⊎ ((nat_eq u t ≡ false) × (u ≢ t))
      → slice_index (one_more steps t) u ≡ steps_in (sigma ++ t ∷ []) u
  by (inl (is, same)) =
      let e : slice_index (one_more steps t) u ≡ slice_index steps u + 1 =
      ap (λ w. slice_index (one_more steps t) w) same ∙ steps_same steps t within ∙ ap (λ w. slice_index steps w + 1) (sym same) in
      let one : ◌≡◌ {A = ℕ} (cond (nat_eq u t) 1 0) 1 = ap (λ b. cond b 1 0) is in
      omega (arith, e, one, pushed, counts u)
  by (inr (isnt, other)) =
      let none : ◌≡◌ {A = ℕ} (cond (nat_eq u t) 1 0) 0 = ap (λ b. cond b 1 0) isnt in
      omega (arith, steps_other steps t u other, none, pushed, counts u)

-- whoever waits makes one step more
pub leads_more : (x : CodeTree) (t : ℕ) (c d : ErasedConfig) (steps : List ℕ) → t < length steps
    → waits_at t c.places ≡ true → event (code_meaning x) t c ≡ Ok d → LeadsOn x c steps d (one_more steps t)
leads_more x t c d steps within waits goes start led =
    record {
      sigma = led.sigma ++ t ∷ [];
      moves = moves_more (code_meaning x) led.sigma t start c led.leaves led.moves waits;
      leaves = events_more (code_meaning x) led.sigma t start c (Ok d) led.leaves goes;
      counts = counts_more led.sigma steps t within led.counts;
    }

-- a step that cannot go on makes the schedule a stuck one
pub stuck_after : (x : CodeTree) (t : ℕ) (h : Halt) (c start : ErasedConfig) (steps : List ℕ)
    → erased_start x ≡ Ok start → event (code_meaning x) t c ≡ Err h → LeadsTo x start c steps
    → (sigma : List ℕ) × (erased_after x sigma ≡ Err h)
stuck_after x t h c start steps starts stops led = (
  led.sigma ++ t ∷ [],
  ap (λ (q : Result ErasedConfig Halt). q >>= events (code_meaning x) (led.sigma ++ t ∷ [])) starts
      ∙ events_more (code_meaning x) led.sigma t start c (Err h) led.leaves stops,
)
