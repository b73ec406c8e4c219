-- What is true of the state as a whole is so after a keep: the same tokens are in it, in other places.
use Rattle.std.proofs.Common.{arith}
use Rattle.std.proofs.lemmas.List.{length-set}
use Rattle.std.specs.List.{AllByRecursion, IsDistinct, list_any}
use Rattle.std.specs.Ordering.{int_eq}
use Rattle.std.specs.Prelude.{◌≡◌, ℕ, zero, suc, ◌+◌, ◌<◌, ◌≤◌, ℤ, pos, Bool, true, false, not, ◌&&◌, ◌||◌, if◌then◌else◌, nat_eq, List, [], ◌∷◌, ◌++◌, length, map, flat_map, filter, slice_set, slice_index_or, Option}
use Rattle.sync_exchange.specs.Exchange.{tokens_in}
use Rattle.sync_exchange.specs.declared.hands.Held.{Held}
use Rattle.sync_join.proofs.Rearranged.{IsRearranged, often-append, carried, join_of-rearranged, shards-rearranged}
use Rattle.sync_join.specs.Shards.{Kept, often, perm}
use Rattle.sync_join.specs.declared.tokens.Token.{Token}
use Rattle.sync_thread.specs.Programs.{KeepTree}
use Rattle.sync_thread_machine.specs.MachineWithProgram.{MachineWithProgram, fields_of}
use Rattle.sync_thread_meaning.specs.Meaning.{World, Arrival}
use Rattle.sync_thread_meaning.specs.Shares.{proofs_of, all_shards, beside, owned_tokens, overlaid}
use Rattle.sync_thread_meaning.specs.Sound.{contents_of}
use Rattle.sync_typing.specs.Dues.{are_apart}
use Rattle.sync_typing.specs.Keeps.{own_tokens}
use Rattle.sync_typing.specs.Names.{known_here, keep_is_named, are_names, are_apart_names}
use Rattle.sync_typing_laws.proofs.KeepingTerms.{and_first, and_second}
use Rattle.sync_typing_laws.specs.Rests.{IsApart}
use Rattle.sync_typing_rows.proofs.KeepingArrive.{Arrives}
use Rattle.sync_typing_rows.proofs.KeepingCame.{kept_at}
use Rattle.sync_typing_laws.specs.Standing.{IsWholeState}
use mathlib.Core.Path.{refl, sym, ap, subst, ◌∙◌}

-- ---- a list of one number does not depend on the order

abbrev push : Bool → ℤ → List ℤ → List ℤ
push true v l = v ∷ l
push false v l = l

swap : (a b : Bool) (v u : ℤ) (l : List ℤ) → length (push a v (push b u l)) ≤ 1 → push a v (push b u l) ≡ push b u (push a v l)
swap true true v u l few = let no : suc (suc (length l)) ≤ 1 = few in absurd (omega (arith, no))
swap true false v u l few = refl
swap false b v u l few = refl

swap_length : (a b : Bool) (v u : ℤ) (l : List ℤ) → length (push a v (push b u l)) ≡ length (push b u (push a v l))
swap_length true true v u l = refl
swap_length true false v u l = refl
swap_length false b v u l = refl

push_length : (a : Bool) (v : ℤ) (l : List ℤ) (m : List ℤ) → length l ≡ length m → length (push a v l) ≡ length (push a v m)
push_length true v l m same = ap suc same
push_length false v l m same = same

push_few : (a : Bool) (v : ℤ) (l : List ℤ) → length (push a v l) ≤ 1 → length l ≤ 1
push_few true v l few = let more : suc (length l) ≤ 1 = few in omega (arith, more)
push_few false v l few = few

module _ (k : ℕ) (kept : Kept) where
  abbrev is_perm : Token → Bool
  is_perm t = nat_eq t.field perm

  abbrev is_at : Token → Bool
  is_at t = int_eq t.key (pos k)

  abbrev content : Token → ℤ
  content t = t.value

  abbrev got : List Token → List ℤ
  got xs = contents_of k xs kept

  got_cons : (t : Token) (ys : List Token) → got (t ∷ ys) ≡ push (is_perm t && is_at t) t.value (got ys)
  got_cons t ys = one (is_perm t) where
    rest : List Token
    rest = filter is_perm ys

    two : (c : Bool) → map content (if c then t ∷ filter is_at (rest ++ kept.stored) else filter is_at (rest ++ kept.stored)) ≡ push c t.value (got ys)
    two true = refl
    two false = refl

    one : (b : Bool) → map content (filter is_at ((if b then t ∷ rest else rest) ++ kept.stored)) ≡ push (b && is_at t) t.value (got ys)
    one true = two (is_at t)
    one false = refl

  moved_length : (xs : List Token) (t : Token) (ys : List Token) → length (got (xs ++ t ∷ ys)) ≡ length (got (t ∷ (xs ++ ys)))
  moved_length [] t ys = refl
  moved_length (x ∷ xs) t ys = ap length (got_cons x (xs ++ t ∷ ys))
      ∙ push_length (is_perm x && is_at x) x.value (got (xs ++ t ∷ ys)) (push (is_perm t && is_at t) t.value (got (xs ++ ys))) (moved_length xs t ys ∙ ap length (got_cons t (xs ++ ys)))
      ∙ swap_length (is_perm x && is_at x) (is_perm t && is_at t) x.value t.value (got (xs ++ ys))
      ∙ ap (λ l. length (push (is_perm t && is_at t) t.value l)) (sym (got_cons x (xs ++ ys))) ∙ ap length (sym (got_cons t (x ∷ (xs ++ ys))))

  moved : (xs : List Token) (t : Token) (ys : List Token) → length (got (xs ++ t ∷ ys)) ≤ 1 → got (xs ++ t ∷ ys) ≡ got (t ∷ (xs ++ ys))
  moved [] t ys few = refl
  moved (x ∷ xs) t ys few = got_cons x (xs ++ t ∷ ys) ∙ there (moved xs t ys less)
      ∙ swap (is_perm x && is_at x) (is_perm t && is_at t) x.value t.value (got (xs ++ ys)) (subst (λ l. length l ≤ 1) (got_cons x (xs ++ t ∷ ys) ∙ there (moved xs t ys less)) few)
      ∙ ap (push (is_perm t && is_at t) t.value) (sym (got_cons x (xs ++ ys))) ∙ sym (got_cons t (x ∷ (xs ++ ys))) where
        less : length (got (xs ++ t ∷ ys)) ≤ 1
        less = push_few (is_perm x && is_at x) x.value (got (xs ++ t ∷ ys)) (subst (λ l. length l ≤ 1) (got_cons x (xs ++ t ∷ ys)) few)

        there : got (xs ++ t ∷ ys) ≡ got (t ∷ (xs ++ ys)) → push (is_perm x && is_at x) x.value (got (xs ++ t ∷ ys)) ≡ push (is_perm x && is_at x) x.value (push (is_perm t && is_at t) t.value (got (xs ++ ys)))
        there same = ap (push (is_perm x && is_at x) x.value) (same ∙ got_cons t (xs ++ ys))

  few_one : (l : List ℤ) (c : ℤ) → l ≡ c ∷ [] → length l ≤ 1
  few_one l c is = subst (λ m. length m ≤ 1) (sym is) (let same : 1 ≤ 1 = omega arith in same)

  one_content : (c : ℤ) (xs ys : List Token) → IsRearranged xs ys → got xs ≡ c ∷ [] → got ys ≡ c ∷ []
  one_content c xs ys same is = carried (λ zs. got zs ≡ c ∷ [])
      (λ ls t rs it. sym (moved ls t rs (few_one (got (ls ++ t ∷ rs)) c it)) ∙ it)
      (λ ls t rs it. moved ls t rs (subst (λ n. n ≤ 1) (sym (moved_length ls t rs)) (few_one (got (t ∷ (ls ++ rs))) c it)) ∙ it) xs ys same is

-- ---- the bag

counts_set : (u : Token) (hs : List (List Held)) (t : ℕ) (h : List Held) → t < length hs
    → often u (flat_map tokens_in (slice_set hs t h)) + often u (tokens_in (slice_index_or hs t [])) ≡ often u (flat_map tokens_in hs) + often u (tokens_in h)
counts_set u [] t h below = let no : t < 0 = below in absurd (omega (arith, no))
counts_set u (g ∷ hs) zero h below =
    let one = often-append u (tokens_in h) (flat_map tokens_in hs) in let two = often-append u (tokens_in g) (flat_map tokens_in hs) in omega (arith, one, two)
counts_set u (g ∷ hs) (suc t) h below =
    let one = often-append u (tokens_in g) (flat_map tokens_in (slice_set hs t h)) in let two = often-append u (tokens_in g) (flat_map tokens_in hs) in
    let later = counts_set u hs t h (let less : suc t < suc (length hs) = below in omega (arith, less)) in omega (arith, one, two, later)

each_set : {X : Type 0} (P : X → Type 0) (xs : List X) (i : ℕ) (y : X) → AllByRecursion P xs → P y → AllByRecursion P (slice_set xs i y)
each_set P [] i y all new = tt
each_set P (x ∷ xs) zero y all new = (new, all.1)
each_set P (x ∷ xs) (suc i) y all new = (all.0, each_set P xs i y all.1 new)

apart_from : (n : ℕ) (ns : List ℕ) → not (list_any (nat_eq n) ns) ≡ true → AllByRecursion (λ m. nat_eq n m ≡ false) ns
apart_from n [] is = tt
apart_from n (m ∷ ns) is = tested (nat_eq n m) refl is (apart_from n ns) where
  tested : (b : Bool) → nat_eq n m ≡ b → not (b || list_any (nat_eq n) ns) ≡ true → (not (list_any (nat_eq n) ns) ≡ true → AllByRecursion (λ m. nat_eq n m ≡ false) ns) → (nat_eq n m ≡ false) × AllByRecursion (λ m. nat_eq n m ≡ false) ns
  tested true same is later = let no : false ≡ true = is in cc
  tested false same is later = (same, later is)

distinct : (ns : List ℕ) → are_apart ns ≡ true → IsDistinct nat_eq ns
unfolding IsDistinct
distinct [] is = tt
distinct (n ∷ ns) is = (apart_from n ns (and_first (not (list_any (nat_eq n) ns)) (are_apart ns) is), distinct ns (and_second (not (list_any (nat_eq n) ns)) (are_apart ns) is))

-- the tokens after a keep are those before it
pub kept_bag : (x : MachineWithProgram) (t : ℕ) (s : World) → t < length s.shares.hands → (k : KeepTree) (vals : List ℤ) (saved : ℤ) (a : Arrival) → Arrives x t s k vals saved a → IsRearranged (all_shards s.shares) (all_shards (kept_at t saved a s).shares)
kept_bag x t s below k vals saved a arrives = record { often = same } where
  same : (u : Token) → often u (all_shards s.shares) ≡ often u (all_shards (kept_at t saved a s).shares)
  same u =
      let one = often-append u (flat_map tokens_in s.shares.hands) (beside s.shares) in
      let two = often-append u (flat_map owned_tokens s.shares.owned) s.shares.dust in
      let three = often-append u (flat_map tokens_in (slice_set s.shares.hands t a.kept)) (flat_map owned_tokens s.shares.owned ++ (s.shares.dust ++ tokens_in a.left)) in
      let four = often-append u (flat_map owned_tokens s.shares.owned) (s.shares.dust ++ tokens_in a.left) in
      let five = often-append u s.shares.dust (tokens_in a.left) in
      let six = arrives.parts.bag.often u in let seven = often-append u (tokens_in a.kept) (tokens_in a.left) in
      let eight = counts_set u s.shares.hands t a.kept below in omega (arith, one, two, three, four, five, six, seven, eight)

-- the same tokens in other places, with other proof values: the state is as whole as before
pub moved_whole : (x : MachineWithProgram) (s : World) → IsWholeState x s → (hands : List (List Held)) (proofs : List (ℕ → Option ℤ)) (wraps : List ℤ) (dust : List Token)
    → IsRearranged (all_shards s.shares) (all_shards (record { kept = s.shares.kept; hands = hands; proofs = proofs; wraps = wraps; owned = s.shares.owned; dust = dust })) → AllByRecursion IsApart hands
    → length hands ≡ suc (length x.program.threads) → length proofs ≡ suc (length x.program.threads) → length wraps ≡ suc (length x.program.threads)
    → IsWholeState x (record { memory = s.memory; shares = record { kept = s.shares.kept; hands = hands; proofs = proofs; wraps = wraps; owned = s.shares.owned; dust = dust } })
moved_whole x s whole hands proofs wraps dust bag apart many_hands many_proofs many_wraps = record {
  tidy = record {
    sound = shards-rearranged (fields_of x) (all_shards s.shares) (all_shards (record { kept = s.shares.kept; hands = hands; proofs = proofs; wraps = wraps; owned = s.shares.owned; dust = dust })) s.shares.kept bag whole.tidy.sound;
    apart = apart;
    hands = many_hands;
    proofs = many_proofs;
    wraps = many_wraps;
    locals = whole.tidy.locals;
    values = whole.tidy.values;
    cells = whole.tidy.cells;
    words_fit = whole.tidy.words_fit;
    cells_fit = whole.tidy.cells_fit;
    locals_fit = whole.tidy.locals_fit;
  };
  good = record {
    state = whole.good.state;
    joined = sym (join_of-rearranged (fields_of x) (all_shards s.shares) (all_shards (record { kept = s.shares.kept; hands = hands; proofs = proofs; wraps = wraps; owned = s.shares.owned; dust = dust })) s.shares.kept bag) ∙ whole.good.joined;
    reached = whole.good.reached;
    meets = whole.good.meets;
    words = whole.good.words;
    cells = λ c low. one_content c s.shares.kept _ (all_shards s.shares) (all_shards (record { kept = s.shares.kept; hands = hands; proofs = proofs; wraps = wraps; owned = s.shares.owned; dust = dust })) bag (whole.good.cells c low);
  };
}

-- what comes to a keep is apart, as its tokens are
pub kept_apart : (x : MachineWithProgram) (t : ℕ) (s : World) → AllByRecursion IsApart s.shares.hands → (k : KeepTree) → are_apart (own_tokens k) ≡ true → (vals : List ℤ) (saved : ℤ) (a : Arrival) → Arrives x t s k vals saved a → AllByRecursion IsApart (slice_set s.shares.hands t a.kept)
kept_apart x t s apart k own vals saved a arrives = each_set IsApart s.shares.hands t a.kept apart (subst (IsDistinct nat_eq) (sym arrives.parts.names) (distinct (own_tokens k) own))

pub kept_whole : (x : MachineWithProgram) (t : ℕ) → t ≤ length x.program.threads → (s : World) → IsWholeState x s → (k : KeepTree) → keep_is_named x (known_here x) k ≡ true → (vals : List ℤ) (saved : ℤ) (a : Arrival) → Arrives x t s k vals saved a → IsWholeState x (kept_at t saved a s)
kept_whole x t below s whole k named vals saved a arrives = moved_whole x s whole (slice_set s.shares.hands t a.kept) (slice_set s.shares.proofs t (overlaid a.own (proofs_of s.shares t))) (slice_set s.shares.wraps t saved) (s.shares.dust ++ tokens_in a.left)
    (kept_bag x t s (let many = whole.tidy.hands in omega arith) k vals saved a arrives)
    (kept_apart x t s whole.tidy.apart k (and_second (are_names (own_tokens k)) (are_apart (own_tokens k)) (and_first (are_apart_names (own_tokens k)) _ (and_second (are_apart_names k.names) _ named))) vals saved a arrives)
    (length-set s.shares.hands t a.kept ∙ whole.tidy.hands) (length-set s.shares.proofs t (overlaid a.own (proofs_of s.shares t)) ∙ whole.tidy.proofs) (length-set s.shares.wraps t saved ∙ whole.tidy.wraps)
