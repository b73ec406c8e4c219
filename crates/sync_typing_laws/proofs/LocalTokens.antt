-- The row of `move`.
use Rattle.std.proofs.Common.{arith, inl, inr}
use Rattle.std.specs.Prelude.{◌≡◌, ℕ, zero, suc, ℤ, ◌<◌, ◌≤◌, Bool, true, false, not, ◌&&◌, ◌||◌, if◌then◌else◌, nat_eq, List, [], ◌∷◌, ◌++◌, length, slice_set, slice_index_or, Option, Some, None, is_some, is_none, option_map, Ok}
use Rattle.std.specs.List.{AllByRecursion}
use Rattle.std.proofs.lemmas.Bool.{and_parts}
use Rattle.std.proofs.lemmas.Bool.Decides.{eqb_tells}
use Rattle.std.proofs.lemmas.List.{get_or-set_same, get_or-set_other, length-set}
use mathlib.Core.Path.{refl, sym, ap, subst, ◌∙◌}
use Rattle.std.specs.Prelude.{pos}
use Rattle.sync_base.specs.Outcome.{◌>>=◌, first}
use Rattle.sync_terms.specs.Values.{Valuation}
use Rattle.sync_kernel_facts.specs.Laws.{AreTrue}
use Rattle.sync_join.specs.Join.{join_of}
use Rattle.sync_join.specs.Shards.{AreSoundShards}
use Rattle.sync_join.specs.declared.tokens.Token.{Token as Shard}
use Rattle.sync_exchange.specs.Exchange.{held_as, tokens_in}
use Rattle.sync_exchange.specs.Splitting.{replaced, held}
use Rattle.sync_exchange.specs.declared.hands.Held.{Held}
use Rattle.sync_thread.specs.Arrays.{token_number}
use Rattle.sync_thread.specs.Code.{cell_at}
use Rattle.sync_thread.specs.Control.{Halt}
use Rattle.sync_thread.specs.Programs.{Proof, Move}
use Rattle.sync_thread.specs.Resting.{Round, PassesUnless}
use Rattle.sync_thread.specs.declared.operands.Tok.{Tok}
use Rattle.sync_thread_machine.specs.MachineWithProgram.{MachineWithProgram, fields_of, decls_of}
use Rattle.sync_thread_meaning.specs.Meaning.{World, annotated_language, local_step, with_shares}
use Rattle.sync_thread_meaning.specs.Shares.{hand_of, with_hand, all_shards, found, only_if, are_new}
use Rattle.sync_thread_meaning.specs.Sound.{contents_of}
use Rattle.sync_typing.specs.Blocks.{move_row, any_field}
use Rattle.sync_typing.specs.Dues.{Due, asked_dues, new_names_due}
use Rattle.sync_typing.specs.Environments.{Env, TokenTree, take_in, hand_after, token}
use Rattle.sync_typing_laws.proofs.LocalDues.{Met, row_met}
use Rattle.sync_typing_laws.proofs.LocalHands.{HeldAnew, hands_it, renamed_tokens, renamed_held, same_bag, take_in_is}
use Rattle.sync_typing_laws.proofs.LocalMoves.{At, at_standing, standing_at}
use Rattle.sync_typing_laws.proofs.LocalProofs.{Goes}
use Rattle.sync_typing_laws.proofs.LocalRenamed.{renamed_here, renamed_gone, renamed_apart}
use Rattle.sync_typing_laws.specs.Rests.{worth, IsApart}
use Rattle.sync_typing_laws.specs.Standing.{IsWholeState, Standing, Stayed}

all_set : {A : Type 0} (P : A → Type 0) (xs : List A) (t : ℕ) (y : A) → AllByRecursion P xs → P y → AllByRecursion P (slice_set xs t y)
all_set P [] t y all one = tt
all_set P (x ∷ xs) zero y all one = (one, all.1)
all_set P (x ∷ xs) (suc t) y all one = (all.0, all_set P xs t y all.1 one)

all_at : {A : Type 0} (P : A → Type 0) (xs : List A) (t : ℕ) (d : A) → t < length xs → AllByRecursion P xs → P (slice_index_or xs t d)
all_at P [] t d lt all = absurd (omega (arith, lt))
all_at P (x ∷ xs) zero d lt all = all.0
all_at P (x ∷ xs) (suc t) d lt all = all_at P xs t d (omega (arith, lt)) all.1

some_is : {A : Type 0} (o : Option A) → is_some o ≡ true → (u : A) × (o ≡ Some u)
some_is None k = absurd (let never : false ≡ true = k in cc)
some_is (Some u) k = (u, refl)

none_is : {A : Type 0} (o : Option A) → not (is_some o) ≡ true → o ≡ None
none_is None k = refl
none_is (Some u) k = absurd (let never : false ≡ true = k in cc)

-- a hand with the same tokens, and names that differ, leaves the state whole
pub hand_whole : (x : MachineWithProgram) (t : ℕ) (new : List Held) (s : World) → t < length s.shares.hands → tokens_in new ≡ tokens_in (hand_of s.shares t) → IsApart new → IsWholeState x s
    → IsWholeState x (record { memory = s.memory; shares = with_hand t new s.shares })
hand_whole x t new s lt same apart whole = record {
  tidy = record {
    sound = subst (λ b. AreSoundShards (fields_of x) b s.shares.kept) (sym bag) whole.tidy.sound;
    apart = all_set IsApart s.shares.hands t new whole.tidy.apart apart;
    hands = length-set s.shares.hands t new ∙ whole.tidy.hands;
    proofs = whole.tidy.proofs;
    wraps = whole.tidy.wraps;
    locals = whole.tidy.locals;
    values = whole.tidy.values;
    cells = whole.tidy.cells;
    words_fit = whole.tidy.words_fit;
    cells_fit = whole.tidy.cells_fit;
    locals_fit = whole.tidy.locals_fit;
  };
  good = record {
    state = whole.good.state;
    joined = subst (λ b. join_of (fields_of x) b s.shares.kept ≡ Some whole.good.state) (sym bag) whole.good.joined;
    reached = whole.good.reached;
    meets = whole.good.meets;
    words = whole.good.words;
    cells = λ k l. subst (λ b. contents_of k b s.shares.kept ≡ pos (cell_at s.memory k) ∷ []) (sym bag) (whole.good.cells k l);
  };
} where
  bag : all_shards (with_hand t new s.shares) ≡ all_shards s.shares
  bag = same_bag t new s.shares lt same

-- the tokens that are held after `move`
module _ (e : Env) (n into : ℕ) (u : TokenTree) (has : e.hand n ≡ Some u) where
  abbrev pub moved : ℕ → Option TokenTree
  moved = hand_after (n ∷ []) ((into, token e n) ∷ []) e.hand

  token_is : token e n ≡ u
  token_is = cc

  moved_here : (m : ℕ) → nat_eq into m ≡ true → moved m ≡ Some u
  moved_here m k = subst (λ b. first (if b then Some (token e n) else None) (if nat_eq m n || false then None else e.hand m) ≡ Some u) (sym k) (ap Some token_is)

  moved_gone : (m : ℕ) → nat_eq into m ≡ false → nat_eq m n ≡ true → moved m ≡ None
  moved_gone m k j = subst (λ b. first (if b then Some (token e n) else None) (if nat_eq m n || false then None else e.hand m) ≡ None) (sym k) (subst (λ b. (if b || false then None else e.hand m) ≡ None) (sym j) refl)

  moved_other : (m : ℕ) → nat_eq into m ≡ false → nat_eq m n ≡ false → moved m ≡ e.hand m
  moved_other m k j = subst (λ b. first (if b then Some (token e n) else None) (if nat_eq m n || false then None else e.hand m) ≡ e.hand m) (sym k) (subst (λ b. (if b || false then None else e.hand m) ≡ e.hand m) (sym j) refl)

  moved_from : (m : ℕ) (w : TokenTree) → moved m ≡ Some w → (i : ℕ) × (e.hand i ≡ Some w)
  moved_from m w is = elim (eqb_tells into m) [
    | inl a ↦ (n, has ∙ sym (moved_here m a.0) ∙ is)
    | inr a ↦ (elim (eqb_tells m n) [
      | inl b ↦ absurd (let never : None ≡ Some w = sym (moved_gone m a.0 b.0) ∙ is in cc)
      | inr b ↦ (m, sym (moved_other m a.0 b.0) ∙ is)
    ])
  ]

module _ (x : MachineWithProgram) (known : Env) (t : ℕ) (laws : AreTrue) (round : List (Round annotated_language Env)) (s : World) (whole : IsWholeState x s) (lt : t ≤ length x.program.threads) where
  pub move_goes : (fits : ℤ → Bool) (spares : Halt → Type 0) (line : ℕ) (tok : Tok) (into : ℕ) (e now : Env) → move_row line (token_number (decls_of x) tok) into e ≡ Ok now → Standing x known t e round s
      → PassesUnless spares (local_step fits x t (Proof (Move tok into)) s) (Goes x known t round s now)
  move_goes fits spares line tok into e now accepted is = subst (λ r. PassesUnless spares (with_shares s.memory r) (Goes x known t round s now)) (sym goes) (
    hand_whole x t new s hands_lt (renamed_tokens n into sh hs held_here) (renamed_apart n into sh hs apart held_free) whole,
    stayed,
    standing_at x known t v now round z (subst (λ d. At x known t v d round z) (take_in_is line (n ∷ []) ((into, token e n) ∷ []) e now met.1) (hands_it x known t v e (moved e n into u has) round s z anew at)),
  ) where
    n : ℕ
    n = token_number (decls_of x) tok

    v : Valuation
    v = is.values

    at : At x known t v e round s
    at = at_standing x known t e round s is

    hands_lt : t < length s.shares.hands
    hands_lt = let k = whole.tidy.hands in omega (arith, k, lt)

    dues : List Due
    dues = asked_dues e [] any_field n ++ new_names_due e (into ∷ []) ∷ []

    met : AllByRecursion (Met v) dues × (take_in line (n ∷ []) ((into, token e n) ∷ []) e ≡ Ok now)
    met = row_met laws v e line at.stands.known dues [] (take_in line (n ∷ []) ((into, token e n) ∷ []) e) now accepted

    token_here : (u : TokenTree) × (e.hand n ≡ Some u)
    token_here = some_is (e.hand n) met.0.0

    u : TokenTree
    u = token_here.0

    has : e.hand n ≡ Some u
    has = token_here.1

    free : e.hand into ≡ None
    free = (let k : ((not (is_some (e.hand into)) && true) && true) ≡ true = met.0.1.1.1.0 in none_is (e.hand into) (and_parts (not (is_some (e.hand into))) true (and_parts (not (is_some (e.hand into)) && true) true k).0).0)

    hs : List Held
    hs = hand_of s.shares t

    sh : Shard
    sh = worth v u

    held_here : held_as n hs ≡ Some sh
    held_here = at.stands.hand n ∙ ap (option_map (worth v)) has

    held_free : held_as into hs ≡ None
    held_free = at.stands.hand into ∙ ap (option_map (worth v)) free

    apart : IsApart hs
    apart = all_at IsApart s.shares.hands t [] hands_lt whole.tidy.apart

    other : n ≡ into → ⊥
    other k = (let one : e.hand n ≡ None = subst (λ d. e.hand d ≡ None) (sym k) free in let never : Some u ≡ None = sym has ∙ one in cc)

    new : List Held
    new = replaced n (held into sh sh.value) hs

    z : World
    z = record { memory = s.memory; shares = with_hand t new s.shares }

    goes : (found (held_as n hs) >>= (λ (k : Shard). only_if (are_new (into ∷ []) hs) (Ok (with_hand t (replaced n (held into k k.value) hs) s.shares)))) ≡ Ok (with_hand t new s.shares)
    goes = subst (λ o. (found o >>= (λ (k : Shard). only_if (are_new (into ∷ []) hs) (Ok (with_hand t (replaced n (held into k k.value) hs) s.shares)))) ≡ Ok (with_hand t new s.shares)) (sym held_here)
        (subst (λ o. only_if (is_none o && true) (Ok (with_hand t new s.shares)) ≡ Ok (with_hand t new s.shares)) (sym held_free) refl)

    stayed : Stayed x t s z
    stayed = record { hands = λ i k. get_or-set_other s.shares.hands t i new [] k; proofs = λ i k. refl; wraps = λ i k. refl; locals = λ i k. refl; kept = λ f l c. refl }

    held_then : (m : ℕ) → held_as m new ≡ option_map (worth v) (moved e n into u has m)
    held_then m = elim (eqb_tells into m) [
      | inl a ↦ subst (λ d. held_as d new ≡ option_map (worth v) (moved e n into u has m)) a.1 (renamed_here n into sh hs held_here held_free ∙ sym (ap (option_map (worth v)) (moved_here e n into u has m a.0)))
      | inr a ↦ (elim (eqb_tells m n) [
        | inl b ↦ subst (λ d. held_as d new ≡ option_map (worth v) (moved e n into u has m)) (sym b.1) (renamed_gone n into sh hs apart held_here other ∙ sym (ap (option_map (worth v)) (moved_gone e n into u has m a.0 b.0)))
        | inr b ↦ renamed_held n into sh hs held_here held_free m b.1 (λ k. a.1 (sym k)) ∙ at.stands.hand m ∙ sym (ap (option_map (worth v)) (moved_other e n into u has m a.0 b.0))
      ])
    ]

    anew : HeldAnew x t v e.fresh (moved e n into u has) s z
    anew = record {
      kept = λ f l c. refl;
      wrap = refl;
      proofs = refl;
      locals = refl;
      hand = λ m. subst (λ h. held_as m h ≡ option_map (worth v) (moved e n into u has m)) (sym (get_or-set_same s.shares.hands t new [] hands_lt)) (held_then m);
      keys = λ m w k. (let f = moved_from e n into u has m w k in at.stands.scoped.keys f.0 w f.1);
      values = λ m w k. (let f = moved_from e n into u has m w k in at.stands.scoped.values f.0 w f.1);
    }
