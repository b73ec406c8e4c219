-- Typed programs rest: the rows of single statements, what ends and what takes over, put together.
use Rattle.std.proofs.Common.{arith}
use Rattle.std.proofs.lemmas.Bool.{and_parts}
use Rattle.std.proofs.lemmas.Bool.Decides.{nat_tests}
use Rattle.std.proofs.lemmas.List.{length-map}
use Rattle.std.specs.Prelude.{◌≡◌, ℕ, ℤ, zero, suc, ◌<◌, ◌≤◌, Bool, true, false, if◌then◌else◌, nat_eq, List, [], ◌∷◌, length, map, slice_get, Option, Some, None, unwrap_or, Ok, Err}
use Rattle.sync_exchange_values.specs.Fitting.{number_fits}
use Rattle.sync_terms.specs.Trees.{Tree}
use Rattle.sync_terms.specs.Values.{Valuation}
use Rattle.sync_thread.specs.Control.{Broken, Do, Halt, On, Wide}
use Rattle.sync_thread.specs.Programs.{Assert, Case, Close, Copy, Exchange, Give, JumpTree, Let, ListTree, LocalTree, Merge, Move, Open, Operate, Peek, Print, Proof, ProofTree, Read, Seal, Set, SharedTree, Split, Still, ThreadTree, Write}
use Rattle.sync_thread.specs.Resting.{Advances, AtRest, MayBegin, PassesUnless, Premises, Ready, Round}
use Rattle.sync_thread_machine.specs.MachineWithProgram.{MachineWithProgram}
use Rattle.sync_thread_machine.specs.ProgramSymbols.{first_fresh}
use Rattle.sync_thread_meaning.specs.Meaning.{World, annotated_language, annotated_meaning, end_step, finish_step, gather, local_step, shared_step}
use Rattle.sync_thread_meaning.specs.Moments.{after_in, first_shares, memory_of, start_shares}
use Rattle.sync_thread_meaning.specs.Shares.{Shares, hand_of}
use Rattle.sync_typing.specs.Environments.{Env, on_some}
use Rattle.sync_typing.specs.Keeps.{at_beginning}
use Rattle.sync_typing.specs.Lists.{Spot, Target, assigned_locals, end_line, jump_row, list_fault, local_row, shared_row, unended}
use Rattle.sync_typing.specs.Names.{jump_is_named, known_here, list_is_named, local_is_named}
use Rattle.sync_typing.specs.Typing.{all_ends, constants, final_place, scene_of, thread_place}
use Rattle.sync_typing_laws.proofs.ControlNamed.{parts_of}
use Rattle.sync_typing_laws.proofs.ControlStanding.{out}
use Rattle.sync_typing_laws.proofs.ControlTyped.{after_rests, rows_of}
use Rattle.sync_typing_laws.proofs.LocalRows.{stayed_along, stayed_self}
use Rattle.sync_typing_laws.proofs.SingleRows.{single_rows_go_on}
use Rattle.sync_typing_laws.specs.Rests.{HasConstants, IsPart, aims_of}
use Rattle.sync_typing_laws.specs.RowLaws.{RowsGoOn}
use Rattle.sync_typing_laws.specs.Ruling.{Meanings, StatementRows, goal_at, rules_of, scene_at}
use Rattle.sync_typing_laws.specs.Standing.{IsWholeState, Standing, Stayed}
use Rattle.sync_typing_rows.proofs.Beginning.{beginnings_stand}
use Rattle.sync_typing_rows.proofs.Ending.{ends_go_on}
use Rattle.sync_typing_rows.proofs.Gathering.{gathers_go_on}
use Rattle.sync_typing_rows.proofs.KeepRows.{keep_rows_go_on, passes_more}
use Rattle.sync_typing_rows.proofs.OthersStay.{others_are_left}
use Rattle.sync_typing_rows.proofs.SplitRows.{split_rows_go_on}
use Rattle.sync_typing_rows.proofs.TextNames.{all_first, below_is, body_of, end_keep, final_part, goal_of, goes_from, goes_last, last_body, last_goal, on_none, takes_first, takes_part, thread_of_text}
use Rattle.sync_typing_rows.specs.BeginLaws.{HasBegun}
use Rattle.sync_typing_rows.specs.EndLaws.{HasEnded, IsThreadKeep}
use Rattle.sync_typing_rows.specs.GatherLaws.{HasNothingYet, HasTakenAll}
use Rattle.sync_typing_rows.specs.KeepLaws.{KeepsGoOn}
use Rattle.sync_typing_rows.specs.RestLaws.{EndedBy, ExchangesGoOn, IsTypedText, StartLeaves, TypedTextsRest, meanings_of}
use Rattle.sync_typing_rows.specs.SplitLaws.{SplitsGoOn}
use mathlib.Core.Path.{refl, sym, ap, subst, ◌∙◌}

at_index : {A : Type 0} (xs : List A) (i : ℕ) → i < length xs → (a : A) × (slice_get xs i ≡ Some a)
at_index [] i lt = absurd (omega (arith, lt))
at_index (x ∷ xs) zero lt = (x, refl)
at_index (x ∷ xs) (suc i) lt = at_index xs i (omega (arith, lt))

module _ (fits : ℤ → Bool) (spares : Halt → Type 0) (wide : (v : Valuation) (u : Tree) → number_fits fits v u ≡ false → spares Wide) (x : MachineWithProgram) (known : Env) (typed : IsTypedText x known)
    (left_rows : (t : ℕ) → t ≤ length x.program.threads → ExchangesGoOn (meanings_of x known spares) fits x known t) where
  abbrev m : Meanings
  m = meanings_of x known spares

  abbrev n : ℕ
  n = length x.program.threads

  module _ (t : ℕ) (below : t ≤ length x.program.threads) where
    single : RowsGoOn m fits x known t
    single = single_rows_go_on m fits x known t (thread_of_text x known typed t below)

    splits : SplitsGoOn m fits x known t
    splits = split_rows_go_on m fits x known t (thread_of_text x known typed t below) (λ s u. wide _ u)

    keeps : KeepsGoOn m fits x known t
    keeps = keep_rows_go_on m fits x known t (thread_of_text x known typed t below) typed.knows (λ s u. wide _ u)

    not_here : (p : Spot) (f : ProofTree) (line : ℕ) (rest : ListTree) → local_is_named x (scene_at x t).locals (Proof f) ≡ false → IsPart x (scene_at x t).locals p (Do (Proof f) line rest) → ⊥
    not_here p f line rest none part = let no : false ≡ true = sym none ∙ (and_parts (local_is_named x (scene_at x t).locals (Proof f)) (list_is_named x (scene_at x t).locals (aims_of p) rest) part.named).0 in cc

    abbrev LocalIs : LocalTree → Type 0
    LocalIs l = (p : Spot) (line : ℕ) (rest : ListTree) → IsPart x (scene_at x t).locals p (Do l line rest) → (e now : Env) → local_row (scene_at x t) line l e ≡ Ok now
        → (round : List (Round annotated_language Env)) (s : World) → IsWholeState x s → Standing x known t e round s → PassesUnless spares (local_step fits x t l s) (λ z. Advances (rules_of x m) t s now round z)

    local_is : (l : LocalTree) → LocalIs l
    local_is (Set y c label) = single.sets y c label
    local_is (Proof (Let y u)) = single.lets (λ s v. wide _ v) y u
    local_is (Proof (Exchange d)) = (left_rows t below).exchanges d
    local_is (Proof (Split y one two amount ss)) = splits.splits y one two amount ss
    local_is (Proof (Merge a b into)) = splits.merges a b into
    local_is (Proof (Copy y into)) = single.copies y into
    local_is (Proof (Move tok into)) = single.moves tok into
    local_is (Proof (Assert f label ss)) = single.asserts f label ss
    local_is (Proof (Open names tokens label)) = λ p line rest part. absurd (not_here p (Open names tokens label) line rest refl part)
    local_is (Proof (Case form)) = λ p line rest part. absurd (not_here p (Case form) line rest refl part)
    local_is (Proof (Close form)) = λ p line rest part. absurd (not_here p (Close form) line rest refl part)
    local_is (Proof (Still ss)) = λ p line rest part. absurd (not_here p (Still ss) line rest refl part)
    local_is (Proof (Seal word i form)) = λ p line rest part. absurd (not_here p (Seal word i form) line rest refl part)
    local_is (Proof (Give thread args ss)) = λ p line rest part. absurd (not_here p (Give thread args ss) line rest refl part)

    abbrev SharedIs : SharedTree → Type 0
    SharedIs a = (p : Spot) (line : ℕ) (rest : ListTree) → IsPart x (scene_at x t).locals p (On a line rest) → (e now : Env) → shared_row (scene_at x t) line a e ≡ Ok now
        → (round : List (Round annotated_language Env)) (s : World) → IsWholeState x s → Standing x known t e round s → PassesUnless spares (shared_step fits x t a s) (λ z. Advances (rules_of x m) t s now round z)

    shared_is : (a : SharedTree) → SharedIs a
    shared_is (Read y c i k ss) = single.reads y c i k ss
    shared_is (Write c i a k ss) = single.writes c i a k ss
    shared_is (Peek y c i d) = (left_rows t below).peeks y c i d
    shared_is (Operate a block) = (left_rows t below).operates a block
    shared_is (Print label o) = single.prints label o

    pub rows : StatementRows fits x m t
    rows = record {
      local = λ p l line rest part e now row round s whole stands. local_is l p line rest part e now row round s whole stands;
      shared = λ p a line rest part e now row round s whole stands. shared_is a p line rest part e now row round s whole stands;
      choice = (left_rows t below).choices;
      test = single.tests;
      loop = keeps.loops;
      keep = λ k j named jump form e same now line at row at_hand after round s whole stands. keeps.jumps k j named.0 named.1 jump form e same now line at row at_hand after round s whole stands;
      out = out x known t;
      self = stayed_self x t;
      along = stayed_along x t;
    }

  -- ---- ends

  abbrev Left : ℕ → World → World → Type 0
  Left t s z = IsWholeState x z × Stayed x t s z × EndedBy x t z (slice_get x.program.threads t)

  ends : (t : ℕ) → t ≤ n → (j : JumpTree) (e : Env) → (line : ℕ) (same : Env) → ((g : Target) → (goal_at x t).end ≡ Some g → jump_is_named (known_here x) j (Some g.keep) ≡ true) → jump_row line j (goal_at x t).end e ≡ Ok same
      → (s : World) → IsWholeState x s → Standing x known t e [] s → PassesUnless spares (end_step fits x t j s) (Left t s)
  ends t below j e line same jumps row s whole stands = by (slice_get x.program.threads t) refl jumps row where
    by : (o : Option ThreadTree) → slice_get x.program.threads t ≡ o → ((g : Target) → (on_some o final_place thread_place).end ≡ Some g → jump_is_named (known_here x) j (Some g.keep) ≡ true) → jump_row line j (on_some o final_place thread_place).end e ≡ Ok same
        → PassesUnless spares (end_step fits x t j s) (Left t s)
    by None none jumps row = absurd (let no : Err _ ≡ Ok same = row in cc)
    by (Some u) there jumps row = passes_more spares (end_step fits x t j s) (λ z. IsWholeState x z × Stayed x t s z × HasEnded x t z u.ends) (Left t s)
        (λ z is. (is.0, is.1, subst (λ (o : Option ThreadTree). EndedBy x t z o) (sym there) is.2))
        (ends_go_on m fits x known t (thread_of_text x known typed t below) typed.knows (λ s v. wide _ v) u there (end_keep x known typed t u there) j (jumps _ refl) line e same row s whole stands)

  finishes : (t : ℕ) → t ≤ n → (line : ℕ) → unended (goal_at x t).kind line ≡ None → (s : World) → IsWholeState x s → PassesUnless spares (finish_step x t s) (Left t s)
  finishes t below line none s whole = by (slice_get x.program.threads t) refl none where
    done : (b : Bool) → nat_eq t n ≡ b → slice_get x.program.threads t ≡ None → PassesUnless spares (if b then Ok s else Err Broken) (Left t s)
    done true k gone = (whole, stayed_self x t s, subst (λ (o : Option ThreadTree). EndedBy x t s o) (sym gone) tt)
    done false k gone = absurd (let less : t < n = grind (arith, nat_tests, below) in let there = at_index x.program.threads t less in let no : None ≡ Some there.0 = sym gone ∙ there.1 in cc)

    by : (o : Option ThreadTree) → slice_get x.program.threads t ≡ o → unended (on_some o final_place thread_place).kind line ≡ None → PassesUnless spares (finish_step x t s) (Left t s)
    by None gone none = done (nat_eq t n) refl gone
    by (Some u) there none = absurd (let no : Some _ ≡ None = none in cc)

  -- ---- others

  constants_stay : (t : ℕ) (s z : World) → Stayed x t s z → ((v : Valuation) → HasConstants x v known s) → (v : Valuation) → HasConstants x v known z
  constants_stay t s z stays has v f below constant = let it = has v f below constant in (it.0, it.1, it.2 ∙ sym (stays.kept f below constant))

  left_stays : (t u : ℕ) → (u ≡ t → ⊥) → (s z : World) → Stayed x t s z → EndedBy x u s (slice_get x.program.threads u) → EndedBy x u z (slice_get x.program.threads u)
  left_stays t u other s z stays is = by (slice_get x.program.threads u) refl is where
    by : (o : Option ThreadTree) → slice_get x.program.threads u ≡ o → EndedBy x u s o → EndedBy x u z o
    by None gone is = tt
    by (Some thread) there is = (others_are_left x known typed.few typed.knows t s z stays).ended u other thread.ends (end_keep x known typed u thread there) is

  nothing_stays : (t : ℕ) → t < n → (s z : World) → Stayed x t s z → HasNothingYet x known s → HasNothingYet x known z
  nothing_stays t less s z stays is = record {
    hand = stays.hands n other ∙ is.hand;
    proofs = λ y. ap (λ f. f y) (stays.proofs n other) ∙ is.proofs y;
    locals = λ y. ap (λ l. l y) (stays.locals n other) ∙ is.locals y;
    constants = constants_stay t s z stays is.constants;
  } where
    other : n ≡ t → ⊥
    other same = omega (arith, same, less)

  -- ---- where lists begin

  begins_at : (t : ℕ) (u : ThreadTree) → slice_get x.program.threads t ≡ Some u → IsThreadKeep x known u.takes → (s : World) → IsWholeState x s → ((v : Valuation) → HasConstants x v known s) → HasBegun x t s (u.takes ∷ []) → MayBegin (rules_of x m) t u.body s
  begins_at t u there keep s whole has begun = (
    it.0,
    beginnings_stand x known t (thread_of_text x known typed t below) typed.knows s whole.tidy has (u.takes ∷ []) (takes_first x known typed t u there keep, tt) begun u.line it.0
        (subst (λ (b : ListTree). at_beginning u.line (constants known) (assigned_locals b []) (u.takes ∷ []) first_fresh ≡ Ok it.0) (sym (body_of x known typed t u there)) it.1),
    (
      subst (λ (g : Spot). list_fault (scene_at x t) u.body g it.0 ≡ None) (sym (goal_of x known typed t u there)) (subst (λ (b : ListTree). list_fault (scene_of x b) u.body (thread_place u) it.0 ≡ None) (sym (body_of x known typed t u there)) it.2),
      subst (λ (g : Spot). IsPart x (scene_at x t).locals g u.body) (sym (goal_of x known typed t u there)) (subst (λ (b : ListTree). IsPart x (assigned_locals b []) (thread_place u) u.body) (sym (body_of x known typed t u there)) (takes_part x known typed t u there)),
    ),
  ) where
    below : t ≤ n
    below = let less : t < n = below_is x.program.threads t u there in omega (arith, less)

    it : (e : Env) × (at_beginning u.line (constants known) (assigned_locals u.body []) (u.takes ∷ []) first_fresh ≡ Ok e) × (list_fault (scene_of x u.body) u.body (thread_place u) e ≡ None)
    it = on_none (at_beginning u.line (constants known) (assigned_locals u.body []) (u.takes ∷ []) first_fresh) (list_fault (scene_of x u.body) u.body (thread_place u)) (goes_from x known typed t u there)

  last_begins : (body : ListTree) → x.program.last ≡ Some body → (s : World) → HasTakenAll x known s → MayBegin (rules_of x m) n body s
  last_begins body is s taken = (
    it.0,
    beginnings_stand x known n (thread_of_text x known typed n (let same : n ≤ n = omega arith in same)) typed.knows s taken.whole.tidy taken.constants (all_ends x.program) (all_first x known typed body is) taken.begun (end_line body) it.0
        (subst (λ (b : ListTree). at_beginning (end_line body) (constants known) (assigned_locals b []) (all_ends x.program) first_fresh ≡ Ok it.0) (sym (last_body x known typed body is)) it.1),
    (
      subst (λ (g : Spot). list_fault (scene_at x n) body g it.0 ≡ None) (sym (last_goal x known typed)) (subst (λ (b : ListTree). list_fault (scene_of x b) body final_place it.0 ≡ None) (sym (last_body x known typed body is)) it.2),
      subst (λ (g : Spot). IsPart x (scene_at x n).locals g body) (sym (last_goal x known typed)) (subst (λ (b : ListTree). IsPart x (assigned_locals b []) final_place body) (sym (last_body x known typed body is)) (final_part x known typed body is)),
    ),
  ) where
    it : (e : Env) × (at_beginning (end_line body) (constants known) (assigned_locals body []) (all_ends x.program) first_fresh ≡ Ok e) × (list_fault (scene_of x body) body final_place e ≡ None)
    it = on_none (at_beginning (end_line body) (constants known) (assigned_locals body []) (all_ends x.program) first_fresh) (list_fault (scene_of x body) body final_place) (goes_last x known typed body is)

  -- ---- the whole

  many : length (map (λ (u : ThreadTree). u.body) x.program.threads) ≡ n
  many = length-map x.program.threads (λ (u : ThreadTree). u.body)

  abbrev bodies : ℕ
  bodies = length (map (λ (u : ThreadTree). u.body) x.program.threads)

  few_of : (t : ℕ) → t ≤ bodies → t ≤ n
  few_of t le = subst (λ d. t ≤ d) many le

  less_of : (t : ℕ) → t < bodies → t < n
  less_of t lt = subst (λ d. t < d) many lt

  pub premises : Premises (rules_of x m) (annotated_meaning fits x)
  premises = record {
    rows = λ t le. rows_of fits x m t (parts_of x m t) (rows t (few_of t le));
    ends = λ t le j e may s whole stands. ends t (few_of t le) j e may.0 may.1 may.2 may.3 s whole stands;
    finishes = λ t le e may s whole stands. finishes t (few_of t le) may.0 may.1 s whole;
    stands = λ t u other s z stays e round is. (others_are_left x known typed.few typed.knows t s z stays).stands u other e round is;
    left = left_stays;
    nothing = λ t lt s z stays is. nothing_stays t (less_of t lt) s z stays is;
    taken = λ s z stays is t lt. stays.hands t (λ same. (let more : bodies ≡ n = many in omega (arith, same, lt, more))) ∙ is t lt;
    gathers = λ s whole nothing left. gathers s whole nothing (λ t lt. left t (subst (λ d. t < d) (sym many) lt));
  } where
    gathers : (s : World) → IsWholeState x s → HasNothingYet x known s → ((t : ℕ) → t < n → EndedBy x t s (slice_get x.program.threads t))
        → IsWholeState x (gather x s) × ((t : ℕ) → t < n → hand_of (gather x s).shares t ≡ []) × ((list : ListTree) → x.program.last ≡ Some list → MayBegin (rules_of x m) bodies list (gather x s))
    gathers s whole nothing left = (taken.whole, taken.left, λ list is. subst (λ d. MayBegin (rules_of x m) d list (gather x s)) (sym many) (last_begins list is (gather x s) taken)) where
      taken : HasTakenAll x known (gather x s)
      taken = gathers_go_on x known (thread_of_text x known typed n (let same : n ≤ n = omega arith in same)) typed.knows (end_keep x known typed) typed.named.apart s whole nothing
          (λ t u there. subst (λ (o : Option ThreadTree). EndedBy x t s o) there (left t (below_is x.program.threads t u there)))

  ready : (s : World) → StartLeaves x known s → Ready (rules_of x m) (annotated_meaning fits x) s
  ready s leaves = record { whole = leaves.whole; nothing = leaves.nothing; begin = begin } where
    body_there : (ts : List ThreadTree) (t : ℕ) (list : ListTree) → slice_get (map (λ (u : ThreadTree). u.body) ts) t ≡ Some list → (u : ThreadTree) × (slice_get ts t ≡ Some u) × (u.body ≡ list)
    body_there [] t list is = absurd (let no : None ≡ Some list = is in cc)
    body_there (u ∷ ts) zero list is = (u, refl, ap (λ o. unwrap_or o u.body) is)
    body_there (u ∷ ts) (suc t) list is = body_there ts t list is

    begin : (t : ℕ) (list : ListTree) → slice_get (map (λ (u : ThreadTree). u.body) x.program.threads) t ≡ Some list → MayBegin (rules_of x m) t list s
    begin t list is = let it = body_there x.program.threads t list is in
        subst (λ (b : ListTree). MayBegin (rules_of x m) t b s) it.2 (begins_at t it.0 it.1 (leaves.takes t it.0 it.1) s leaves.whole leaves.nothing.constants (leaves.begun t it.0 it.1))

pub typed_texts_rest : (m : Meanings) → TypedTextsRest m
typed_texts_rest m fits wide x known typed left_rows start is leaves sigma = starts_well where
  starts_well : PassesUnless m.Spares (after_in fits x sigma) (AtRest (rules_of x (meanings_of x known m.Spares)) (annotated_meaning fits x))
  starts_well = after_rests fits x (meanings_of x known m.Spares) (premises fits m.Spares wide x known typed left_rows) start is
      (passes_more m.Spares (start_shares fits x start (memory_of x) (first_shares x (memory_of x))) (λ (h : Shares). StartLeaves x known (record { memory = memory_of x; shares = h })) (λ (h : Shares). Ready (rules_of x (meanings_of x known m.Spares)) (annotated_meaning fits x) (record { memory = memory_of x; shares = h }))
      (λ h leaves_it. ready fits m.Spares wide x known typed left_rows (record { memory = memory_of x; shares = h }) leaves_it) leaves) sigma
