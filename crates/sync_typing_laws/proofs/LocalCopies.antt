-- A hand with other tokens that make the same state, and the row of `copy`.
use Rattle.std.proofs.Common.{arith, inl, inr}
use Rattle.std.specs.Prelude.{◌≡◌, ℕ, zero, suc, ℤ, pos, ◌<◌, ◌≤◌, ◌+◌, Bool, true, false, not, ◌&&◌, if◌then◌else◌, nat_eq, List, [], ◌∷◌, ◌++◌, length, map, filter, slice_get, slice_set, slice_index_or, Option, Some, None, is_some, is_none, option_map, Ok}
use Rattle.std.specs.List.{AllByRecursion, IsDistinct, flat_map}
use Rattle.std.specs.Ordering.{int_eq}
use Rattle.std.proofs.lemmas.Bool.{and_parts, ne_eqb}
use Rattle.std.proofs.lemmas.Bool.Decides.{eqb_tells}
use Rattle.std.proofs.lemmas.List.{get_or-set_same, get_or-set_other, length-set}
use Rattle.sync_base.specs.Outcome.{◌>>=◌, first}
use Rattle.sync_base.specs.declared.strategies.Strategy.{Strategy}
use Rattle.sync_base.specs.declared.strategies.Strategy.TheVariants.{Variable, Constant, NotTokenized, Option as OptionField, Map, Set, Multiset, Count, PersistentOption, PersistentMap, PersistentSet, PersistentCount, StorageMap}
use Rattle.sync_terms.specs.Values.{Valuation}
use Rattle.sync_kernel_facts.specs.Laws.{AreTrue}
use Rattle.sync_machine.specs.States.{strategies, strategy_at}
use Rattle.sync_machine.specs.declared.fields.Field.{Field}
use Rattle.sync_join.proofs.Rearranged.{IsRearranged, often-append, rearranged-sym, shards-rearranged, join_of-rearranged}
use Rattle.sync_join.specs.Join.{join_of}
use Rattle.sync_join.specs.Shards.{perm, AreSoundShards, often}
use Rattle.sync_join.specs.declared.tokens.Token.{Token as Shard}
use Rattle.sync_exchange.proofs.Keeping.{copy-keeps}
use Rattle.sync_exchange.specs.Exchange.{held_as, tokens_in}
use Rattle.sync_exchange.specs.Splitting.{held, copied_of, KeepsShards, is_persistent as lasts_for}
use Rattle.sync_exchange.specs.declared.hands.Held.{Held}
use Rattle.sync_thread.specs.Code.{cell_at}
use Rattle.sync_thread.specs.Control.{Halt}
use Rattle.sync_thread.specs.Programs.{Proof, Copy}
use Rattle.sync_thread.specs.Resting.{Round, PassesUnless}
use Rattle.sync_thread_machine.specs.MachineWithProgram.{MachineWithProgram, fields_of}
use Rattle.sync_thread_meaning.specs.Meaning.{World, annotated_language, local_step, with_shares, may_be_copied}
use Rattle.sync_thread_meaning.specs.Shares.{Shares, hand_of, with_hand, all_shards, beside, found, only_if, are_new}
use Rattle.sync_typing.specs.Blocks.{copy_row, has_kind, can_copy}
use Rattle.sync_typing.specs.Dues.{Due, asked_dues, new_names_due}
use Rattle.sync_typing.specs.Environments.{Env, TokenTree, take_in, hand_after, token, on_some}
use Rattle.sync_typing.specs.Lists.{assigned_locals}
use Rattle.sync_typing.specs.Names.{are_names}
use Rattle.sync_typing_laws.proofs.LocalDues.{Met, row_met}
use Rattle.sync_typing_laws.proofs.LocalGoes.{Local}
use Rattle.sync_typing_laws.proofs.LocalHands.{HeldAnew, hands_it, take_in_is}
use Rattle.sync_typing_laws.proofs.LocalMoves.{At, at_standing, standing_at}
use Rattle.sync_typing_laws.proofs.LocalProofs.{Goes}
use Rattle.sync_typing_laws.proofs.LocalRenamed.{names_of, none_apart}
use Rattle.sync_typing_laws.specs.Rests.{worth, IsApart}
use Rattle.sync_typing_laws.specs.Ruling.{Meanings, body_at}
use mathlib.Core.Path.{refl, sym, ap, subst, ◌∙◌}
use Rattle.sync_typing_laws.specs.Standing.{IsWholeState, Standing, Stayed}

all_set : {A : Type 0} (P : A → Type 0) (xs : List A) (t : ℕ) (y : A) → AllByRecursion P xs → P y → AllByRecursion P (slice_set xs t y)
all_set P [] t y all one = tt
all_set P (x ∷ xs) zero y all one = (one, all.1)
all_set P (x ∷ xs) (suc t) y all one = (all.0, all_set P xs t y all.1 one)

all_at : {A : Type 0} (P : A → Type 0) (xs : List A) (t : ℕ) (d : A) → t < length xs → AllByRecursion P xs → P (slice_index_or xs t d)
all_at P [] t d lt all = absurd (omega (arith, lt))
all_at P (x ∷ xs) zero d lt all = all.0
all_at P (x ∷ xs) (suc t) d lt all = all_at P xs t d (omega (arith, lt)) all.1

some_is : {A : Type 0} (o : Option A) → is_some o ≡ true → (u : A) × (o ≡ Some u)
some_is None k = absurd (let never : false ≡ true = k in cc)
some_is (Some u) k = (u, refl)

none_is : {A : Type 0} (o : Option A) → not (is_some o) ≡ true → o ≡ None
none_is None k = refl
none_is (Some u) k = absurd (let never : false ≡ true = k in cc)

-- ---- one hand first, and behind it all others

abbrev pub others_of : List (List Held) → ℕ → List Shard
others_of [] t = []
others_of (h ∷ hands) zero = flat_map tokens_in hands
others_of (h ∷ hands) (suc t) = tokens_in h ++ others_of hands t

set_times : (u : Shard) (hands : List (List Held)) (t : ℕ) (new : List Held) → t < length hands → often u (flat_map tokens_in (slice_set hands t new)) ≡ often u (tokens_in new) + often u (others_of hands t)
set_times u [] t new lt = absurd (omega (arith, lt))
set_times u (h ∷ hands) zero new lt = often-append u (tokens_in new) (flat_map tokens_in hands)
set_times u (h ∷ hands) (suc t) new lt =
    let a = often-append u (tokens_in h) (flat_map tokens_in (slice_set hands t new)) in
    let b = often-append u (tokens_in h) (others_of hands t) in
    let c = set_times u hands t new (omega (arith, lt)) in omega (arith, a, b, c)

old_times : (u : Shard) (hands : List (List Held)) (t : ℕ) → t < length hands → often u (flat_map tokens_in hands) ≡ often u (tokens_in (slice_index_or hands t [])) + often u (others_of hands t)
old_times u [] t lt = absurd (omega (arith, lt))
old_times u (h ∷ hands) zero lt = often-append u (tokens_in h) (flat_map tokens_in hands)
old_times u (h ∷ hands) (suc t) lt =
    let a = often-append u (tokens_in h) (flat_map tokens_in hands) in
    let b = often-append u (tokens_in h) (others_of hands t) in
    let c = old_times u hands t (omega (arith, lt)) in omega (arith, a, b, c)

pub new_first : (t : ℕ) (new : List Held) (g : Shares) → t < length g.hands → IsRearranged (all_shards (with_hand t new g)) (tokens_in new ++ (others_of g.hands t ++ beside g))
new_first t new g lt = record {
  often = λ u.
      let a = often-append u (flat_map tokens_in (slice_set g.hands t new)) (beside g) in
      let b = often-append u (tokens_in new) (others_of g.hands t ++ beside g) in
      let c = often-append u (others_of g.hands t) (beside g) in
      let d = set_times u g.hands t new lt in omega (arith, a, b, c, d);
}

pub old_first : (t : ℕ) (g : Shares) → t < length g.hands → IsRearranged (all_shards g) (tokens_in (hand_of g t) ++ (others_of g.hands t ++ beside g))
old_first t g lt = record {
  often = λ u.
      let a = often-append u (flat_map tokens_in g.hands) (beside g) in
      let b = often-append u (tokens_in (hand_of g t)) (others_of g.hands t ++ beside g) in
      let c = often-append u (others_of g.hands t) (beside g) in
      let d = old_times u g.hands t lt in omega (arith, a, b, c, d);
}

-- ---- the permissions

abbrev pub perms : List Shard → List Shard
perms ts = filter (λ (t : Shard). nat_eq t.field perm) ts

pub perms_append : (xs ys : List Shard) → perms (xs ++ ys) ≡ perms xs ++ perms ys
perms_append [] ys = refl
perms_append (x ∷ xs) ys = by (nat_eq x.field perm) (perms_append xs ys) where
  by : (b : Bool) → perms (xs ++ ys) ≡ perms xs ++ perms ys → (if b then x ∷ perms (xs ++ ys) else perms (xs ++ ys)) ≡ (if b then x ∷ perms xs else perms xs) ++ perms ys
  by true later = ap (λ d. x ∷ d) later
  by false later = later

same_perms : (hands : List (List Held)) (t : ℕ) (new : List Held) → t < length hands → perms (tokens_in new) ≡ perms (tokens_in (slice_index_or hands t [])) → perms (flat_map tokens_in (slice_set hands t new)) ≡ perms (flat_map tokens_in hands)
same_perms [] t new lt same = absurd (omega (arith, lt))
same_perms (h ∷ hands) zero new lt same = perms_append (tokens_in new) (flat_map tokens_in hands) ∙ ap (λ d. d ++ perms (flat_map tokens_in hands)) same ∙ sym (perms_append (tokens_in h) (flat_map tokens_in hands))
same_perms (h ∷ hands) (suc t) new lt same = perms_append (tokens_in h) (flat_map tokens_in (slice_set hands t new)) ∙ ap (λ d. perms (tokens_in h) ++ d) (same_perms hands t new (omega (arith, lt)) same) ∙ sym (perms_append (tokens_in h) (flat_map tokens_in hands))

pub bag_perms : (t : ℕ) (new : List Held) (g : Shares) → t < length g.hands → perms (tokens_in new) ≡ perms (tokens_in (hand_of g t)) → perms (all_shards (with_hand t new g)) ≡ perms (all_shards g)
bag_perms t new g lt same = perms_append (flat_map tokens_in (slice_set g.hands t new)) (beside g) ∙ ap (λ d. d ++ perms (beside g)) (same_perms g.hands t new lt same) ∙ sym (perms_append (flat_map tokens_in g.hands) (beside g))

-- a hand that makes the same state with all others, and has the same permissions, leaves the state whole
pub other_hand_whole : (x : MachineWithProgram) (t : ℕ) (new : List Held) (s : World) → t < length s.shares.hands → KeepsShards (fields_of x) (hand_of s.shares t) new → perms (tokens_in new) ≡ perms (tokens_in (hand_of s.shares t)) → IsApart new → IsWholeState x s
    → IsWholeState x (record { memory = s.memory; shares = with_hand t new s.shares })
other_hand_whole x t new s lt keeps same apart whole = record {
  tidy = record {
    sound = shards-rearranged (fields_of x) (tokens_in new ++ rest) (all_shards (with_hand t new s.shares)) s.shares.kept (rearranged-sym (all_shards (with_hand t new s.shares)) (tokens_in new ++ rest) (new_first t new s.shares lt)) kept.0;
    apart = all_set IsApart s.shares.hands t new whole.tidy.apart apart;
    hands = length-set s.shares.hands t new ∙ whole.tidy.hands;
    proofs = whole.tidy.proofs;
    wraps = whole.tidy.wraps;
    locals = whole.tidy.locals;
    values = whole.tidy.values;
    cells = whole.tidy.cells;
    words_fit = whole.tidy.words_fit;
    cells_fit = whole.tidy.cells_fit;
    locals_fit = whole.tidy.locals_fit;
  };
  good = record {
    state = whole.good.state;
    joined = join_of-rearranged (fields_of x) (all_shards (with_hand t new s.shares)) (tokens_in new ++ rest) s.shares.kept (new_first t new s.shares lt) ∙ kept.1
        ∙ sym (join_of-rearranged (fields_of x) (all_shards s.shares) (tokens_in (hand_of s.shares t) ++ rest) s.shares.kept (old_first t s.shares lt)) ∙ whole.good.joined;
    reached = whole.good.reached;
    meets = whole.good.meets;
    words = whole.good.words;
    cells = λ k l. subst (λ b. map (λ (d : Shard). d.value) (filter (λ (d : Shard). int_eq d.key (pos k)) (b ++ s.shares.kept.stored)) ≡ pos (cell_at s.memory k) ∷ []) (sym (bag_perms t new s.shares lt same)) (whole.good.cells k l);
  };
} where
  rest : List Shard
  rest = others_of s.shares.hands t ++ beside s.shares

  kept : AreSoundShards (fields_of x) (tokens_in new ++ rest) s.shares.kept × (join_of (fields_of x) (tokens_in new ++ rest) s.shares.kept ≡ join_of (fields_of x) (tokens_in (hand_of s.shares t) ++ rest) s.shares.kept)
  kept = keeps rest s.shares.kept (shards-rearranged (fields_of x) (all_shards s.shares) (tokens_in (hand_of s.shares t) ++ rest) s.shares.kept (old_first t s.shares lt) whole.tidy.sound)

-- ---- kinds

kind_at : (p : Strategy → Bool) (xs : List Strategy) (f : ℕ) → on_some (slice_get xs f) false p ≡ true → (f < length xs) × (p (slice_index_or xs f NotTokenized) ≡ true)
kind_at p [] f is = absurd (let never : false ≡ true = is in cc)
kind_at p (x ∷ xs) zero is = (omega arith, is)
kind_at p (x ∷ xs) (suc f) is = let k = kind_at p xs f is in (let l = k.0 in omega (arith, l), k.1)

length_strategies : (fs : List Field) → length (strategies fs) ≡ length fs
length_strategies [] = refl
length_strategies (f ∷ fs) = let k = length_strategies fs in omega (arith, k)

-- a field of a kind is declared, so it is none of permissions
pub kind_is : (p : Strategy → Bool) (fs : List Field) (f : ℕ) → length fs ≤ 32 → has_kind fs p f ≡ true → (nat_eq f perm ≡ false) × (p (strategy_at fs f) ≡ true)
kind_is p fs f few is = let k = kind_at p (strategies fs) f is in (ne_eqb f perm (λ same. (let l = k.0 in let m = length_strategies fs in let n : f ≡ 4294967295 = same in omega (arith, l, m, n, few))), k.1)

persists : (s : Strategy) → can_copy s ≡ true → lasts_for s ≡ true
persists PersistentOption is = refl
persists PersistentMap is = refl
persists PersistentSet is = refl
persists PersistentCount is = refl
persists Variable is = is
persists Constant is = is
persists NotTokenized is = is
persists OptionField is = is
persists Map is = is
persists Set is = is
persists Multiset is = is
persists Count is = is
persists StorageMap is = is

-- ---- a token that comes last

pub last_other : (m : ℕ) (hs : List Held) (h : Held) → nat_eq m h.name ≡ false → held_as m (hs ++ h ∷ []) ≡ held_as m hs
unfolding held_as
last_other m [] h off = subst (λ b. (if b then Some h.token else None) ≡ None) (sym off) refl
last_other m (g ∷ hs) h off = ap (λ d. if nat_eq m g.name then Some g.token else d) (last_other m hs h off)

pub last_here : (m : ℕ) (hs : List Held) (h : Held) → nat_eq m h.name ≡ true → held_as m hs ≡ None → held_as m (hs ++ h ∷ []) ≡ Some h.token
unfolding held_as
last_here m [] h on none = subst (λ b. (if b then Some h.token else None) ≡ Some h.token) (sym on) refl
last_here m (g ∷ hs) h on none = by (nat_eq m g.name) none (last_here m hs h on) where
  by : (b : Bool) → (if b then Some g.token else held_as m hs) ≡ None → (held_as m hs ≡ None → held_as m (hs ++ h ∷ []) ≡ Some h.token) → (if b then Some g.token else held_as m (hs ++ h ∷ [])) ≡ Some h.token
  by true k later = absurd (let never : Some g.token ≡ None = k in cc)
  by false k later = later k

pub last_perms : (hs : List Held) (h : Held) → nat_eq h.token.field perm ≡ false → perms (tokens_in (hs ++ h ∷ [])) ≡ perms (tokens_in hs)
last_perms [] h off = subst (λ b. (if b then h.token ∷ [] else []) ≡ []) (sym off) refl
last_perms (g ∷ hs) h off = ap (λ d. if nat_eq g.token.field perm then g.token ∷ d else d) (last_perms hs h off)

turned : (a b : ℕ) → nat_eq a b ≡ false → nat_eq b a ≡ false
turned a b off = elim (eqb_tells b a) [
  | inl k ↦ absurd (let one : nat_eq a a ≡ false = subst (λ d. nat_eq a d ≡ false) k.1 off in elim (eqb_tells a a) [ inl j ↦ (let never : true ≡ false = sym j.0 ∙ one in cc) | inr j ↦ j.1 refl ])
  | inr k ↦ k.0
]

more_names : (n : ℕ) (hs : List Held) (h : Held) → nat_eq n h.name ≡ false → AllByRecursion (λ y. nat_eq n y ≡ false) (names_of hs) → AllByRecursion (λ y. nat_eq n y ≡ false) (names_of (hs ++ h ∷ []))
more_names n [] h off all = (off, tt)
more_names n (g ∷ hs) h off all = (all.0, more_names n hs h off all.1)

pub last_apart : (hs : List Held) (h : Held) → AllByRecursion (λ y. nat_eq h.name y ≡ false) (names_of hs) → IsApart hs → IsApart (hs ++ h ∷ [])
unfolding IsDistinct
last_apart [] h all apart = (tt, tt)
last_apart (g ∷ hs) h all apart = (more_names g.name hs h (turned h.name g.name all.0) apart.0, last_apart hs h all.1 apart.1)

-- ---- `copy`

module _ (e : Env) (n into : ℕ) (u : TokenTree) (has : e.hand n ≡ Some u) where
  abbrev pub copied : ℕ → Option TokenTree
  copied = hand_after [] ((into, token e n) ∷ []) e.hand

  token_is : token e n ≡ u
  token_is = cc

  copied_here : (m : ℕ) → nat_eq into m ≡ true → copied m ≡ Some u
  copied_here m k = subst (λ b. first (if b then Some (token e n) else None) (e.hand m) ≡ Some u) (sym k) (ap Some token_is)

  copied_other : (m : ℕ) → nat_eq into m ≡ false → copied m ≡ e.hand m
  copied_other m k = subst (λ b. first (if b then Some (token e n) else None) (e.hand m) ≡ e.hand m) (sym k) refl

  copied_from : (m : ℕ) (w : TokenTree) → copied m ≡ Some w → (i : ℕ) × (e.hand i ≡ Some w)
  copied_from m w is = elim (eqb_tells into m) [
    | inl a ↦ (n, has ∙ sym (copied_here m a.0) ∙ is)
    | inr a ↦ (m, sym (copied_other m a.0) ∙ is)
  ]

module _ (x : MachineWithProgram) (known : Env) (t : ℕ) (few : length (fields_of x) ≤ 32) (laws : AreTrue) (round : List (Round annotated_language Env)) (s : World) (whole : IsWholeState x s) (lt : t ≤ length x.program.threads) where
  pub copy_goes : (fits : ℤ → Bool) (spares : Halt → Type 0) (line n into : ℕ) (e now : Env) → copy_row line (fields_of x) n into e ≡ Ok now → Standing x known t e round s
      → PassesUnless spares (local_step fits x t (Proof (Copy n into)) s) (Goes x known t round s now)
  copy_goes fits spares line n into e now accepted is = subst (λ r. PassesUnless spares (with_shares s.memory r) (Goes x known t round s now)) (sym goes) (
    other_hand_whole x t new s hands_lt (copy-keeps (fields_of x) hs n sh held_here persistent into) (last_perms hs (held into sh sh.value) kind.0) (last_apart hs (held into sh sh.value) (none_apart into hs held_free) apart) whole,
    stayed,
    standing_at x known t v now round z (subst (λ d. At x known t v d round z) (take_in_is line [] ((into, token e n) ∷ []) e now met.1) (hands_it x known t v e (copied e n into u has) round s z anew at)),
  ) where
    v : Valuation
    v = is.values

    at : At x known t v e round s
    at = at_standing x known t e round s is

    hands_lt : t < length s.shares.hands
    hands_lt = let k = whole.tidy.hands in omega (arith, k, lt)

    dues : List Due
    dues = asked_dues e [] (has_kind (fields_of x) can_copy) n ++ new_names_due e (into ∷ []) ∷ []

    met : AllByRecursion (Met v) dues × (take_in line [] ((into, token e n) ∷ []) e ≡ Ok now)
    met = row_met laws v e line at.stands.known dues [] (take_in line [] ((into, token e n) ∷ []) e) now accepted

    token_here : (u : TokenTree) × (e.hand n ≡ Some u)
    token_here = some_is (e.hand n) met.0.0

    u : TokenTree
    u = token_here.0

    has : e.hand n ≡ Some u
    has = token_here.1

    free : e.hand into ≡ None
    free = (let k : ((not (is_some (e.hand into)) && true) && true) ≡ true = met.0.1.1.1.0 in none_is (e.hand into) (and_parts (not (is_some (e.hand into))) true (and_parts (not (is_some (e.hand into)) && true) true k).0).0)

    hs : List Held
    hs = hand_of s.shares t

    sh : Shard
    sh = worth v u

    kind : (nat_eq u.field perm ≡ false) × (can_copy (strategy_at (fields_of x) u.field) ≡ true)
    kind = kind_is can_copy (fields_of x) u.field few (subst (λ (d : TokenTree). has_kind (fields_of x) can_copy d.field ≡ true) (token_is e n into u has) met.0.1.1.0)

    persistent : lasts_for (strategy_at (fields_of x) u.field) ≡ true
    persistent = persists (strategy_at (fields_of x) u.field) kind.1

    held_here : held_as n hs ≡ Some sh
    held_here = at.stands.hand n ∙ ap (option_map (worth v)) has

    held_free : held_as into hs ≡ None
    held_free = at.stands.hand into ∙ ap (option_map (worth v)) free

    apart : IsApart hs
    apart = all_at IsApart s.shares.hands t [] hands_lt whole.tidy.apart

    new : List Held
    new = copied_of sh into hs

    z : World
    z = record { memory = s.memory; shares = with_hand t new s.shares }

    goes : (found (held_as n hs) >>= (λ (k : Shard). only_if (may_be_copied (fields_of x) k && are_new (into ∷ []) hs) (Ok (with_hand t (copied_of k into hs) s.shares)))) ≡ Ok (with_hand t new s.shares)
    goes = subst (λ o. (found o >>= (λ (k : Shard). only_if (may_be_copied (fields_of x) k && are_new (into ∷ []) hs) (Ok (with_hand t (copied_of k into hs) s.shares)))) ≡ Ok (with_hand t new s.shares)) (sym held_here)
        (subst (λ b. only_if (b && are_new (into ∷ []) hs) (Ok (with_hand t new s.shares)) ≡ Ok (with_hand t new s.shares)) (sym persistent)
        (subst (λ o. only_if (is_none o && true) (Ok (with_hand t new s.shares)) ≡ Ok (with_hand t new s.shares)) (sym held_free) refl))

    stayed : Stayed x t s z
    stayed = record { hands = λ i k. get_or-set_other s.shares.hands t i new [] k; proofs = λ i k. refl; wraps = λ i k. refl; locals = λ i k. refl; kept = λ f l c. refl }

    held_then : (m : ℕ) → held_as m new ≡ option_map (worth v) (copied e n into u has m)
    held_then m = elim (eqb_tells into m) [
      | inl a ↦ subst (λ d. held_as d new ≡ option_map (worth v) (copied e n into u has m)) a.1 (last_here into hs (held into sh sh.value) (subst (λ d. nat_eq into d ≡ true) (sym a.1) a.0) held_free ∙ sym (ap (option_map (worth v)) (copied_here e n into u has m a.0)))
      | inr a ↦ last_other m hs (held into sh sh.value) (turned into m a.0) ∙ at.stands.hand m ∙ sym (ap (option_map (worth v)) (copied_other e n into u has m a.0))
    ]

    anew : HeldAnew x t v e.fresh (copied e n into u has) s z
    anew = record {
      kept = λ f l c. refl;
      wrap = refl;
      proofs = refl;
      locals = refl;
      hand = λ m. subst (λ h. held_as m h ≡ option_map (worth v) (copied e n into u has m)) (sym (get_or-set_same s.shares.hands t new [] hands_lt)) (held_then m);
      keys = λ m w k. (let f = copied_from e n into u has m w k in at.stands.scoped.keys f.0 w f.1);
      values = λ m w k. (let f = copied_from e n into u has m w k in at.stands.scoped.values f.0 w f.1);
    }

module _ (fits : ℤ → Bool) (x : MachineWithProgram) (known : Env) (spares : Halt → Type 0) (m : Meanings) (laws : AreTrue) (few : length (fields_of x) ≤ 32) (t : ℕ) (found : t ≤ length x.program.threads) (names : are_names (assigned_locals (body_at x t) []) ≡ true) where
  pub copy_local : (n into : ℕ) → Local fits x known spares m laws few t found names (Proof (Copy n into))
  copy_local n into p line rest part e now row round s whole is = copy_goes x known t few laws round s whole found fits spares line n into e now row is
