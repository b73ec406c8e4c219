-- Nobody races at rest: whose next step accesses a cell holds its permission, or peeks at a stored one.
use Rattle.std.proofs.Common.{arith, inl, inr}
use Rattle.std.proofs.lemmas.Bool.Decides.{nat_tests}
use Rattle.std.specs.Ordering.{int_eq}
use Rattle.std.specs.Prelude.{◌≡◌, ℕ, suc, ◌+◌, ◌<◌, ◌≤◌, pos, Bool, true, false, if◌then◌else◌, nat_lt, nat_eq, List, [], ◌∷◌, length, map, filter, slice_get, slice_set, Option, Some, None, Ok, Err, Result, ◌⊎◌}
use Rattle.sync_base.specs.Outcome.{◌>>=◌}
use Rattle.sync_exchange.specs.Exchange.{held_as, revalued, tokens_in}
use Rattle.sync_join.specs.declared.tokens.Token.{Token}
use Rattle.sync_thread.specs.Arrays.{Span, cells_named}
use Rattle.sync_thread.specs.Code.{Memory, cell_at, cell_number, number_in, operand_value, setting}
use Rattle.sync_thread.specs.Control.{Brace, Break, Broken, Do, End, Halt, If, Loop, Meet, Next, On, OnWhen, Paused}
use Rattle.sync_thread.specs.Programs.{IndexTree, ListTree, Operate, Peek, Print, Read, ScriptTree, SharedTree, ThreadTree, Write}
use Rattle.sync_thread.specs.Resting.{Advances, AtRest, FinalRuns, LastRests, PassesUnless, Rested, Round, ThreadsRun}
use Rattle.sync_thread.specs.declared.operands.Opd.{Opd}
use Rattle.sync_thread_machine.specs.MachineWithProgram.{MachineWithProgram, decls_of}
use Rattle.sync_thread_meaning.specs.Meaning.{World, annotated_language, annotated_meaning, permits_cell, shared_step, with_shares}
use Rattle.sync_thread_meaning.specs.Moments.{Configuration}
use Rattle.sync_thread_meaning.specs.Shares.{Shares, hand_of, no_bound, only_if, with_hand}
use Rattle.sync_thread_meaning.specs.Sound.{IsGood, Races, access, access_at, next_access, paused_access}
use Rattle.sync_typing.specs.Environments.{Env}
use Rattle.sync_typing.specs.Lists.{list_fault, shared_row}
use Rattle.sync_typing_laws.proofs.ClosingStands.{number_free}
use Rattle.sync_typing_laws.proofs.LocalCells.{cell_is_there}
use Rattle.sync_typing_laws.specs.Ruling.{Meanings, StatementRows, goal_at, place_of, rules_of, scene_at}
use Rattle.sync_typing_laws.specs.Rests.{IsPart}
use Rattle.sync_typing_laws.specs.Standing.{IsWholeState, Standing}
use Rattle.sync_typing_rows.proofs.Permissions.{count, one_held, two_contents}
use Rattle.sync_typing_rows.proofs.TextNames.{below_is, on_none}
use Rattle.sync_typing_rows.proofs.TextRests.{rows}
use Rattle.sync_typing_rows.specs.RestLaws.{IsTypedText, meanings_of}
use Rattle.sync_typing_rows.specs.SoundLaws.{HasSoundExchanges, RestsAreGood, no_failure}
use mathlib.Core.Path.{refl, sym, ap, subst, ◌∙◌}

-- ---- a cell that has a number is there

found_in : (o : Option Span) (i k : ℕ) → number_in o i ≡ Ok k → (p : Span) × (o ≡ Some p) × (i < p.len) × (p.base + i ≡ k)
found_in None i k is = absurd (let no : Err Broken ≡ Ok k = is in cc)
found_in (Some p) i k is = by (nat_lt i p.len) refl is where
  number : ℕ → Result ℕ Halt → ℕ
  number d (Ok n) = n
  number d (Err h) = d

  by : (b : Bool) → nat_lt i p.len ≡ b → (if b then Ok (p.base + i) else Err Broken) ≡ Ok k → (q : Span) × (Some p ≡ Some q) × (i < q.len) × (q.base + i ≡ k)
  by true low j = (p, refl, grind (arith, nat_tests), ap (number k) j)
  by false low j = absurd (let no : Err Broken ≡ Ok k = j in cc)

cell_below : (x : MachineWithProgram) (t : ℕ) (s : World) → IsWholeState x s → (c : ℕ) (o : Opd) (k : ℕ) → cell_number (decls_of x) t s.memory c o ≡ Ok k → k < length s.memory.cells
cell_below x t s whole c o k is =
    let it = found_in (cells_named c (decls_of x)) (operand_value s.memory t o) k is in
    let below = cell_is_there c (decls_of x) it.0 it.1 (operand_value s.memory t o) it.2 in
    let many = whole.tidy.cells in let same : it.0.base + operand_value s.memory t o ≡ k = it.3 in omega (arith, below, many, same)

-- ---- a step on a cell that does not fail has its permission

read_permits : (x : MachineWithProgram) (t : ℕ) (s : World) (y c : ℕ) (i : IndexTree) (n : ℕ) (ss : List ScriptTree) (k : ℕ) (good : World → Type 0) → cell_number (decls_of x) t s.memory c i.operand ≡ Ok k
    → PassesUnless no_failure (shared_step no_bound x t (Read y c i n ss) s) good → permits_cell k (held_as n (hand_of s.shares t)) ≡ true
read_permits x t s y c i n ss k good there is = of (permits_cell k (held_as n (hand_of s.shares t))) refl
    (subst (λ r. PassesUnless no_failure ((r >>= (λ j. Ok (setting t y (cell_at s.memory j) s.memory))) >>= (λ m. with_shares m (r >>= (λ j. only_if (permits_cell j (held_as n (hand_of s.shares t))) (Ok s.shares))))) good) there is) where
      of : (b : Bool) → permits_cell k (held_as n (hand_of s.shares t)) ≡ b → PassesUnless no_failure (with_shares (setting t y (cell_at s.memory k) s.memory) (only_if (permits_cell k (held_as n (hand_of s.shares t))) (Ok s.shares))) good → b ≡ true
      of true same is = refl
      of false same is = absurd (subst (λ b. PassesUnless no_failure (with_shares (setting t y (cell_at s.memory k) s.memory) (only_if b (Ok s.shares))) good) same is)

write_permits : (x : MachineWithProgram) (t : ℕ) (s : World) (c : ℕ) (i : IndexTree) (o : Opd) (n : ℕ) (ss : List ScriptTree) (k : ℕ) (good : World → Type 0) → cell_number (decls_of x) t s.memory c i.operand ≡ Ok k
    → PassesUnless no_failure (shared_step no_bound x t (Write c i o n ss) s) good → permits_cell k (held_as n (hand_of s.shares t)) ≡ true
write_permits x t s c i o n ss k good there is = of (permits_cell k (held_as n (hand_of s.shares t))) refl
    (subst (λ r. PassesUnless no_failure ((r >>= (λ j. Ok (after j))) >>= (λ m. with_shares m (r >>= (λ j. only_if (permits_cell j (held_as n (hand_of s.shares t))) (Ok given))))) good) there is) where
      after : ℕ → Memory
      after j = record s.memory { cells = slice_set s.memory.cells j (operand_value s.memory t o) }

      given : Shares
      given = with_hand t (revalued n (pos (operand_value s.memory t o)) (hand_of s.shares t)) s.shares

      of : (b : Bool) → permits_cell k (held_as n (hand_of s.shares t)) ≡ b → PassesUnless no_failure (with_shares (after k) (only_if (permits_cell k (held_as n (hand_of s.shares t))) (Ok given))) good → b ≡ true
      of true same is = refl
      of false same is = absurd (subst (λ b. PassesUnless no_failure (with_shares (after k) (only_if b (Ok given))) good) same is)

-- ---- accesses

-- what is known of somebody whose next step accesses a cell
pub record HasAccess (x : MachineWithProgram) (t : ℕ) (s : World) (k : ℕ) (writes : Bool) : Type 0 where
  pub below : k < length s.memory.cells
  pub how : (1 ≤ count k (tokens_in (hand_of s.shares t))) ⊎ ((writes ≡ false) × (1 ≤ length (filter (λ (u : Token). int_eq u.key (pos k)) s.shares.kept.stored)))

-- the cell and the way of an access, from a number
abbrev pub of_cell : Bool → Result ℕ Halt → Option (ℕ × Bool)
of_cell writes (Ok k) = Some (k, writes)
of_cell writes (Err h) = None

abbrev cell_or : ℕ → Option (ℕ × Bool) → ℕ
cell_or d (Some p) = p.0
cell_or d None = d

abbrev way_or : Bool → Option (ℕ × Bool) → Bool
way_or d (Some p) = p.1
way_or d None = d

is_cell : (writes : Bool) (r : Result ℕ Halt) (k : ℕ) (how : Bool) → of_cell writes r ≡ Some (k, how) → (r ≡ Ok k) × (writes ≡ how)
is_cell writes (Ok j) k how is = (ap Ok (ap (cell_or k) is), ap (way_or how) is)
is_cell writes (Err h) k how is = absurd (let no : None ≡ Some (k, how) = is in cc)

module _ (x : MachineWithProgram) (known : Env) (typed : IsTypedText x known) (sound : HasSoundExchanges x known) where
  abbrev m : Meanings
  m = meanings_of x known no_failure

  abbrev n : ℕ
  n = length x.program.threads

  all_rows : (t : ℕ) → t ≤ n → StatementRows no_bound x m t
  all_rows t below = rows no_bound no_failure (λ v u out. (let no : false ≡ true = sym out ∙ number_free v u in cc)) x known typed sound.rows t below

  accessed : (t : ℕ) (s : World) → IsWholeState x s → (a : SharedTree) (k : ℕ) (writes : Bool) → access x s.memory t a ≡ Some (k, writes) → (good : World → Type 0) → PassesUnless no_failure (shared_step no_bound x t a s) good → HasAccess x t s k writes
  accessed t s whole (Read y c i p ss) k writes is good passes = let it = is_cell false (cell_number (decls_of x) t s.memory c i.operand) k writes is in record {
    below = cell_below x t s whole c i.operand k it.0;
    how = inl (one_held k p (hand_of s.shares t) (read_permits x t s y c i p ss k good it.0 passes));
  }
  accessed t s whole (Write c i o p ss) k writes is good passes = let it = is_cell true (cell_number (decls_of x) t s.memory c i.operand) k writes is in record {
    below = cell_below x t s whole c i.operand k it.0;
    how = inl (one_held k p (hand_of s.shares t) (write_permits x t s c i o p ss k good it.0 passes));
  }
  accessed t s whole (Peek y c i d) k writes is good passes = let it = is_cell false (cell_number (decls_of x) t s.memory c i.operand) k writes is in record {
    below = cell_below x t s whole c i.operand k it.0;
    how = inr (sym it.1, goes (shared_step no_bound x t (Peek y c i d) s) refl it.0 passes);
  } where
    goes : (r : Result World Halt) → shared_step no_bound x t (Peek y c i d) s ≡ r → cell_number (decls_of x) t s.memory c i.operand ≡ Ok k → PassesUnless no_failure r good → 1 ≤ length (filter (λ (u : Token). int_eq u.key (pos k)) s.shares.kept.stored)
    goes (Ok z) same there passes = sound.peeks t s z whole y c i d same k there
    goes (Err h) same there passes = absurd passes
  accessed t s whole (Operate a block) k writes is good passes = absurd (let no : None ≡ Some (k, writes) = is in cc)
  accessed t s whole (Print label o) k writes is good passes = absurd (let no : None ≡ Some (k, writes) = is in cc)

  listed : (t : ℕ) → t ≤ n → (s : World) → IsWholeState x s → (e : Env) (round : List (Round annotated_language Env)) → Standing x known t e round s → (list : ListTree) → list_fault (scene_at x t) list (place_of (goal_at x t) round) e ≡ None
      → IsPart x (scene_at x t).locals (place_of (goal_at x t) round) list → (k : ℕ) (writes : Bool) → next_access x s.memory t list ≡ Some (k, writes) → HasAccess x t s k writes
  listed t below s whole e round stands (On a line rest) goes part k writes is =
      let row = on_none (shared_row (scene_at x t) line a e) (list_fault (scene_at x t) rest (place_of (goal_at x t) round)) goes in
      accessed t s whole a k writes is (λ z. Advances (rules_of x m) t s row.0 round z) ((all_rows t below).shared (place_of (goal_at x t) round) a line rest part e row.0 row.1 round s whole stands)
  listed t below s whole e round stands (Brace line) goes part k writes is = absurd (let no : None ≡ Some (k, writes) = is in cc)
  listed t below s whole e round stands (Do l line rest) goes part k writes is = absurd (let no : None ≡ Some (k, writes) = is in cc)
  listed t below s whole e round stands (OnWhen a line one two joined rest) goes part k writes is = absurd (let no : None ≡ Some (k, writes) = is in cc)
  listed t below s whole e round stands (If c line one two joined rest) goes part k writes is = absurd (let no : None ≡ Some (k, writes) = is in cc)
  listed t below s whole e round stands (Loop q j line body left rest) goes part k writes is = absurd (let no : None ≡ Some (k, writes) = is in cc)
  listed t below s whole e round stands (Next j line rest) goes part k writes is = absurd (let no : None ≡ Some (k, writes) = is in cc)
  listed t below s whole e round stands (Break j line rest) goes part k writes is = absurd (let no : None ≡ Some (k, writes) = is in cc)
  listed t below s whole e round stands (Meet j line rest) goes part k writes is = absurd (let no : None ≡ Some (k, writes) = is in cc)
  listed t below s whole e round stands (End j line rest) goes part k writes is = absurd (let no : None ≡ Some (k, writes) = is in cc)

  rested : (t : ℕ) → t ≤ n → (s : World) → IsWholeState x s → (w : Paused annotated_language) → Rested (rules_of x m) t s w → (k : ℕ) (writes : Bool) → next_access x s.memory t w.rest ≡ Some (k, writes) → HasAccess x t s k writes
  rested t below s whole w is k writes next = listed t below s whole is.env is.round is.stands w.rest is.goes.0 is.goes.1 k writes next

  -- ---- races

  module _ (c : Configuration) (rests : AtRest (rules_of x m) (annotated_meaning no_bound x) c) where
    abbrev s : World
    s = c.state

    abbrev bodies : ℕ
    bodies = length (map (λ (u : ThreadTree). u.body) x.program.threads)

    many : bodies ≡ n
    many = length_bodies x.program.threads where
      length_bodies : (ts : List ThreadTree) → length (map (λ (u : ThreadTree). u.body) ts) ≡ length ts
      length_bodies [] = refl
      length_bodies (u ∷ ts) = ap suc (length_bodies ts)

    waiting : (t k : ℕ) (writes : Bool) → access_at x c t ≡ Some (k, writes) → (w : Paused annotated_language) × (slice_get c.places t ≡ Some (Some w)) × (next_access x s.memory t w.rest ≡ Some (k, writes))
    waiting t k writes is = by (slice_get c.places t) refl is where
      by : (o : Option (Option (Paused annotated_language))) → slice_get c.places t ≡ o → paused_access x s.memory t o ≡ Some (k, writes) → (w : Paused annotated_language) × (slice_get c.places t ≡ Some (Some w)) × (next_access x s.memory t w.rest ≡ Some (k, writes))
      by (Some (Some w)) same next = (w, same, next)
      by (Some None) same next = absurd (let no : None ≡ Some (k, writes) = next in cc)
      by None same next = absurd (let no : None ≡ Some (k, writes) = next in cc)

    bounded_by : (t : ℕ) (w : Paused annotated_language) → slice_get c.places t ≡ Some (Some w) → t ≤ n
    bounded_by t w there = let less : t < length c.places = below_is c.places t (Some w) there in let places : length c.places ≡ suc bodies = rests.places in let all = many in omega (arith, less, places, all)

    -- a thread waits while not all threads have ended, and the final block waits where they have
    has_access : (t k : ℕ) (writes : Bool) → access_at x c t ≡ Some (k, writes) → HasAccess x t s k writes
    has_access t k writes is = by rests.stage where
      it : (w : Paused annotated_language) × (slice_get c.places t ≡ Some (Some w)) × (next_access x s.memory t w.rest ≡ Some (k, writes))
      it = waiting t k writes is

      below : t ≤ n
      below = bounded_by t it.0 it.1

      last_or : (b : Bool) → nat_eq t bodies ≡ b → (t ≡ bodies) ⊎ (t < bodies)
      last_or true k = inl (grind (arith, nat_tests))
      last_or false k = inr (let all = many in grind (arith, nat_tests, below, all))

      last_place : LastRests (rules_of x m) (annotated_meaning no_bound x) s (slice_get c.places bodies) → t ≡ bodies → Rested (rules_of x m) t s it.0
      last_place last same = subst (λ d. Rested (rules_of x m) d s it.0) (sym same) (subst (λ o. LastRests (rules_of x m) (annotated_meaning no_bound x) s o) (sym (ap (λ d. slice_get c.places d) same) ∙ it.1) last)

      by : ThreadsRun (rules_of x m) (annotated_meaning no_bound x) c ⊎ FinalRuns (rules_of x m) (annotated_meaning no_bound x) c → HasAccess x t s k writes
      by (inl run) = elim (last_or (nat_eq t bodies) refl) [
        | inl same ↦ absurd (let no : Some (Some it.0) ≡ Some None = sym it.1 ∙ ap (λ d. slice_get c.places d) same ∙ run.last in cc)
        | inr less ↦ rested t below s rests.whole it.0 (run.threads t less (Some it.0) it.1) k writes it.2
      ]
      by (inr final) = elim (last_or (nat_eq t bodies) refl) [
        | inl same ↦ rested t below s rests.whole it.0 (last_place final.last same) k writes it.2
        | inr less ↦ absurd (let no : Some (Some it.0) ≡ Some None = sym it.1 ∙ final.ended t less in cc)
      ]

    pub no_race : Races x c → ⊥
    no_race race = by (has_access race.one race.cell true race.writes) (has_access race.two race.cell race.how race.accesses) where
      by : HasAccess x race.one s race.cell true → HasAccess x race.two s race.cell race.how → ⊥
      by one two = elim one.how [
        | inl held ↦ two_contents race.cell race.one s.shares (pos (cell_at s.memory race.cell)) (rests.whole.good.cells race.cell one.below) held (other two.how)
        | inr stored ↦ (let no : true ≡ false = stored.0 in cc)
      ] where
        other : (1 ≤ count race.cell (tokens_in (hand_of s.shares race.two))) ⊎ ((race.how ≡ false) × (1 ≤ length (filter (λ (u : Token). int_eq u.key (pos race.cell)) s.shares.kept.stored)))
            → ((u : ℕ) × (race.one ≡ u → ⊥) × (1 ≤ count race.cell (tokens_in (hand_of s.shares u)))) ⊎ (1 ≤ length (filter (λ (u : Token). int_eq u.key (pos race.cell)) s.shares.kept.stored))
        other (inl held) = inl (race.two, race.apart, held)
        other (inr stored) = inr stored.1

    pub good : IsGood x c
    good = record {
      state = rests.whole.good.state;
      joined = rests.whole.good.joined;
      reached = rests.whole.good.reached;
      meets = rests.whole.good.meets;
      words = rests.whole.good.words;
      cells = rests.whole.good.cells;
      no_race = no_race;
    }

pub rests_are_good : RestsAreGood
rests_are_good x known typed sound c rests = good x known typed sound c rests
