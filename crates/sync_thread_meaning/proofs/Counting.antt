-- How often a token stands among all shards, where one hand or what one word owns changes.
use Rattle.std.proofs.Common.{◌≡◌, ℕ, zero, suc, ◌+◌, ◌<◌, Bool, true, false, if◌then◌else◌, List, [], ◌∷◌, ◌++◌}
use Rattle.std.proofs.Common.{length}
use Rattle.std.proofs.Common.{flat_map, slice_get, slice_set, slice_index_or, nat_eq, Option, Some, None, refl, sym}
use Rattle.std.proofs.Common.{ap, ◌∙◌, arith}
use Rattle.std.proofs.lemmas.List.{map-append}
use Rattle.sync_join.specs.declared.tokens.Token.{Token}
use Rattle.sync_join.specs.Shards.{often}
use Rattle.sync_join.proofs.Rearranged.{often-append}
use Rattle.sync_exchange.specs.declared.hands.Held.{Held}
use Rattle.sync_exchange.specs.Exchange.{held_as, tokens_in}
use Rattle.sync_exchange.specs.Splitting.{dropped, replaced, held}
use Rattle.sync_thread_meaning.specs.Shares.{Owned, Shares, hand_of, with_hand, handed_to, owned_tokens, all_shards}
use Rattle.sync_thread_meaning.specs.Words.{with_owned, with_owned_anew, tokens_at}

-- how often, in these hands; in these words
abbrev pub in_hand : Token → List Held → ℕ
in_hand u hs = often u (tokens_in hs)

abbrev pub in_word : Token → Owned → ℕ
in_word u o = often u (owned_tokens o)

abbrev pub in_all : Token → Shares → ℕ
in_all u g = often u (all_shards g)

-- ---- lists of lists

abbrev some_or : {X : Type 0} → X → Option X → X
some_or x (Some y) = y
some_or x None = x

some_is : {X : Type 0} (x y : X) → Some x ≡ Some y → x ≡ y
some_is x y is = ap (some_or x) is

set_count : {X : Type 0} (f : X → List Token) (u : Token) (xs : List X) (i : ℕ) (x y : X) → slice_get xs i ≡ Some x
    → often u (flat_map f (slice_set xs i y)) + often u (f x) ≡ often u (flat_map f xs) + often u (f y)
set_count f u [] i x y is = absurd (cc)
set_count f u (z ∷ zs) zero x y is =
    let one = often-append u (f y) (flat_map f zs) in
    let two = often-append u (f z) (flat_map f zs) in
    let same : often u (f z) ≡ often u (f x) = ap (λ w. often u (f w)) (some_is z x is) in
    omega (arith, one, two, same)
set_count f u (z ∷ zs) (suc i) x y is =
    let one = often-append u (f z) (flat_map f (slice_set zs i y)) in
    let two = often-append u (f z) (flat_map f zs) in
    let rest = set_count f u zs i x y is in
    omega (arith, one, two, rest)

pub got : {X : Type 0} (xs : List X) (i : ℕ) (d : X) → i < length xs → slice_get xs i ≡ Some (slice_index_or xs i d)
got [] i d less = absurd (omega (arith, less))
got (x ∷ xs) zero d less = refl
got (x ∷ xs) (suc i) d less = got xs i d (omega (arith, less))

pub got_below : {X : Type 0} (xs : List X) (i : ℕ) (x : X) → slice_get xs i ≡ Some x → i < length xs
got_below [] i x is = absurd (cc)
got_below (z ∷ zs) zero x is = omega arith
got_below (z ∷ zs) (suc i) x is = let less = got_below zs i x is in omega (arith, less)

-- ---- all shards

all_is : (u : Token) (g : Shares)
    → in_all u g
    ≡ often u (flat_map tokens_in g.hands) + (often u (flat_map owned_tokens g.owned) + often u g.dust)
all_is u g = often-append u (flat_map tokens_in g.hands) (flat_map owned_tokens g.owned ++ g.dust)
    ∙ ap (λ n. often u (flat_map tokens_in g.hands) + n) (often-append u (flat_map owned_tokens g.owned) g.dust)

pub hand_count : (u : Token) (g : Shares) (t : ℕ) (hs : List Held) → t < length g.hands
    → in_all u (with_hand t hs g) + in_hand u (hand_of g t) ≡ in_all u g + in_hand u hs
hand_count u g t hs less =
    let one = all_is u (with_hand t hs g) in
    let two = all_is u g in
    let moved = set_count tokens_in u g.hands t (hand_of g t) hs (got g.hands t [] less) in
    omega (arith, one, two, moved)

pub handed_count : (u : Token) (g : Shares) (t : ℕ) (hs : List Held) → t < length g.hands
    → in_all u (handed_to t hs g) ≡ in_all u g + in_hand u hs
handed_count u g t hs less =
    let moved = hand_count u g t (hand_of g t ++ hs) less in
    let both : in_hand u (hand_of g t ++ hs) ≡ in_hand u (hand_of g t) + in_hand u hs =
    ap (often u) (map-append (λ (h : Held). h.token) (hand_of g t) hs)
    ∙ often-append u (tokens_in (hand_of g t)) (tokens_in hs) in
    omega (arith, moved, both)

pub owned_count : (u : Token) (g : Shares) (i : ℕ) (o now : Owned) → slice_get g.owned i ≡ Some o
    → in_all u (with_owned i now g) + in_word u o ≡ in_all u g + in_word u now
owned_count u g i o now is =
    let one = all_is u (with_owned i now g) in
    let two = all_is u g in
    let moved = set_count owned_tokens u g.owned i o now is in
    omega (arith, one, two, moved)

pub dust_count : (u : Token) (g : Shares) (ts us : List Token) → g.dust ≡ us → (n : ℕ) → often u ts ≡ often u us + n
    → in_all u (record g { dust = ts }) ≡ in_all u g + n
dust_count u g ts us is n more =
    let one = all_is u (record g { dust = ts }) in
    let two = all_is u g in
    let same : often u g.dust ≡ often u us = ap (often u) is in
    omega (arith, one, two, same, more)

pub anew_count : (u : Token) (g : Shares) (i : ℕ) (o now : Owned) → slice_get g.owned i ≡ Some o
    → in_all u (with_owned_anew i now g) ≡ in_all u g + in_word u now
anew_count u g i o now is =
    let had : often u (tokens_at (slice_get g.owned i)) ≡ in_word u o = ap (λ z. often u (tokens_at z)) is in
    let both = often-append u (tokens_at (slice_get g.owned i)) g.dust in
    let dusty : Shares = record g { dust = tokens_at (slice_get g.owned i) ++ g.dust } in
    let one = dust_count u g (tokens_at (slice_get g.owned i) ++ g.dust) g.dust refl (in_word u o)
    (omega (arith, had, both)) in
    let two = owned_count u dusty i o now is in
    omega (arith, one, two)

-- what a place of a word has
pub place_count : (u : Token) (os : List (Option Token)) (i : ℕ) (f : Option Token → List Token) (x y : Option Token)
    → slice_get os i ≡ Some x
    → often u (flat_map f (slice_set os i y)) + often u (f x) ≡ often u (flat_map f os) + often u (f y)
place_count u os i f x y is = set_count f u os i x y is

-- ---- hands

-- one token before others
pub one_count : (u t : Token) (ts : List Token) → often u (t ∷ ts) ≡ often u (t ∷ []) + often u ts
one_count u t ts = often-append u (t ∷ []) ts

pub dropped_count : (u : Token) (n : ℕ) (hs : List Held) (t : Token) → held_as n hs ≡ Some t
    → in_hand u hs ≡ often u (t ∷ []) + in_hand u (dropped n hs)
unfolding held_as
dropped_count u n [] t is = absurd (cc)
dropped_count u n (h ∷ hs) t is = by (nat_eq n h.name) is (dropped_count u n hs t) where
  by : (b : Bool) → (if b then Some h.token else held_as n hs) ≡ Some t
      → (held_as n hs ≡ Some t → in_hand u hs ≡ often u (t ∷ []) + in_hand u (dropped n hs))
      → often u (h.token ∷ tokens_in hs)
      ≡ often u (t ∷ []) + in_hand u (if b then hs else h ∷ dropped n hs)
  by true is rest = one_count u h.token (tokens_in hs)
      ∙ ap (λ z. often u (z ∷ []) + in_hand u hs) (some_is h.token t is)
  by false is rest =
      let one = one_count u h.token (tokens_in hs) in
      let two = one_count u h.token (tokens_in (dropped n hs)) in
      let later = rest is in
      omega (arith, one, two, later)

pub renamed_count : (u : Token) (n new : ℕ) (hs : List Held) (t : Token) → held_as n hs ≡ Some t
    → in_hand u (replaced n (held new t t.value) hs) ≡ in_hand u hs
unfolding held_as
renamed_count u n new [] t is = absurd (cc)
renamed_count u n new (h ∷ hs) t is = by (nat_eq n h.name) is (renamed_count u n new hs t) where
  by : (b : Bool) → (if b then Some h.token else held_as n hs) ≡ Some t
      → (held_as n hs ≡ Some t → in_hand u (replaced n (held new t t.value) hs) ≡ in_hand u hs)
      → in_hand u (if b then held new t t.value ∷ hs else h ∷ replaced n (held new t t.value) hs)
      ≡ often u (h.token ∷ tokens_in hs)
  by true is rest = ap (λ z. often u (z ∷ tokens_in hs)) (sym (some_is h.token t is))
  by false is rest =
      let one = one_count u h.token (tokens_in hs) in
      let two = one_count u h.token (tokens_in (replaced n (held new t t.value) hs)) in
      let later = rest is in
      omega (arith, one, two, later)
