-- Tokens that leave the hand one by one, and others that enter it.
use Rattle.std.proofs.Common.{◌≡◌, ℕ, suc, ◌+◌, ◌<◌, ◌≤◌, Bool, true, false, ◌||◌, nat_eq, if◌then◌else◌, List, [], ◌∷◌, length, take, drop, get_or, Option, Some, None, refl, sym, ap, ◌∙◌, arith}
use Rattle.std.proofs.Math.ListN.{drop_of_length-le}
use Rattle.std.proofs.Math.Seq.{take-length, take-suc}
use Rattle.std.proofs.lemmas.List.Folds.{list_any-append}
use Rattle.std.specs.List.{list_any}
use Rattle.sync_base.specs.Outcome.{first}
use Rattle.sync_terms.specs.Stored.{Stored}
use Rattle.sync_typing.specs.Environments.{among, hand_after, Env, TokenTree, Tokens}
use Rattle.sync_typing_places.specs.declared.places.NamedToken.{NamedToken}
use Rattle.sync_typing_places.specs.declared.places.Place.{Place}
use Rattle.sync_typing_places.specs.Hands.{token_tree, with_token}
use Rattle.sync_typing_places.specs.Places.{env_of, named_tokens, with_hand, Becomes}
use Rattle.sync_typing_places.proofs.Holding.{turned}
use Rattle.sync_typing_places.proofs.Placing.{becomes_as, becomes_by}
use Rattle.sync_typing_places.proofs.Scripting.{next_item}

gone_one : (a b : Bool) (o : Option TokenTree) → (if b then None else (if a then None else o)) ≡ (if a || (b || false) then None else o)
gone_one true true o = refl
gone_one true false o = refl
gone_one false true o = refl
gone_one false false o = refl

-- one token more has left
pub gone_more : (gone : List ℕ) (i d : ℕ) (hand : ℕ → Option TokenTree) → i < length gone
    → with_token (get_or gone i d) None (hand_after (take i gone) [] hand) ≡ hand_after (take (i + 1) gone) [] hand
gone_more gone i d hand within = λ j n. at n j
  where
    at : (n : ℕ) → (if nat_eq n (get_or gone i d) then None else (if list_any (nat_eq n) (take i gone) then None else hand n))
        ≡ (if list_any (nat_eq n) (take (i + 1) gone) then None else hand n)
    at n =
        let e : i + 1 ≡ suc i = omega arith in
        gone_one (list_any (nat_eq n) (take i gone)) (nat_eq n (get_or gone i d)) (hand n)
        ∙ ap (λ (b : Bool). if b then None else hand n)
        (sym (list_any-append (nat_eq n) (take i gone) (get_or gone i d ∷ []))
        ∙ ap (λ (xs : List ℕ). list_any (nat_eq n) xs) (sym (take-suc gone i d within) ∙ ap (λ (k : ℕ). take k gone) (sym e)))

pub gone_all : (gone : List ℕ) (i : ℕ) (new : Tokens) (hand : ℕ → Option TokenTree) → i ≡ length gone
    → hand_after (take i gone) new hand ≡ hand_after gone new hand
gone_all gone i new hand is =
    ap (λ (xs : List ℕ). hand_after xs new hand) (ap (λ (k : ℕ). take k gone) is ∙ take-length gone)

-- one token more has entered
new_one : (a : Bool) (t : TokenTree) (o rest : Option TokenTree)
    → (if a then Some t else first o rest) ≡ first (if a then Some t else o) rest
new_one true t o rest = refl
new_one false t o rest = refl

pub new_more : (s : Stored) (gone : List ℕ) (new : List NamedToken) (i : ℕ) (d : NamedToken) (hand : ℕ → Option TokenTree)
    → i < length new
    → with_token (get_or new i d).number (Some (token_tree s (get_or new i d).token)) (hand_after gone (named_tokens s (drop (i + 1) new)) hand)
    ≡ hand_after gone (named_tokens s (drop i new)) hand
new_more s gone new i d hand within = λ j n. at n j
  where
    at : (n : ℕ)
        → (if nat_eq n (get_or new i d).number then Some (token_tree s (get_or new i d).token)
        else hand_after gone (named_tokens s (drop (i + 1) new)) hand n)
        ≡ hand_after gone (named_tokens s (drop i new)) hand n
    at n =
        ap (λ (b : Bool). if b then Some (token_tree s (get_or new i d).token) else hand_after gone (named_tokens s (drop (i + 1) new)) hand n)
        (turned n (get_or new i d).number)
        ∙ new_one (nat_eq (get_or new i d).number n) (token_tree s (get_or new i d).token) (among (named_tokens s (drop (i + 1) new)) n)
        (if list_any (nat_eq n) gone then None else hand n)
        ∙ ap (λ (xs : List NamedToken). hand_after gone (named_tokens s xs) hand n) (sym (next_item new i d within))

pub new_none : (s : Stored) (gone : List ℕ) (new : List NamedToken) (i : ℕ) (hand : ℕ → Option TokenTree) → length new ≤ i
    → hand_after gone [] hand ≡ hand_after gone (named_tokens s (drop i new)) hand
new_none s gone new i hand far =
    ap (λ (xs : List NamedToken). hand_after gone (named_tokens s xs) hand) (sym (drop_of_length-le new far))

-- ---- the place meanwhile

abbrev with_taken : Env → (ℕ → Option TokenTree) → Env
with_taken e hand = with_hand e e.terms hand

pub gone_on : (s : Stored) (p q r : Place) (gone : List ℕ) (i d : ℕ) → i < length gone
    → Becomes s s p q (with_taken (env_of s p) (hand_after (take i gone) [] (env_of s p).hand))
    → Becomes s s q r (with_taken (env_of s q) (with_token (get_or gone i d) None (env_of s q).hand))
    → Becomes s s p r (with_taken (env_of s p) (hand_after (take (i + 1) gone) [] (env_of s p).hand))
gone_on s p q r gone i d within before now =
    becomes_as s s p r (with_taken (env_of s q) (with_token (get_or gone i d) None (env_of s q).hand))
    (with_taken (env_of s p) (hand_after (take (i + 1) gone) [] (env_of s p).hand))
    (ap (λ (e : Env). with_taken e (with_token (get_or gone i d) None e.hand)) before.env
    ∙ ap (λ (h : ℕ → Option TokenTree). with_taken (env_of s p) h) (gone_more gone i d (env_of s p).hand within))
    (becomes_by s s s p q r (with_taken (env_of s p) (hand_after (take i gone) [] (env_of s p).hand))
    (with_taken (env_of s q) (with_token (get_or gone i d) None (env_of s q).hand)) before now)

pub gone_then : (s : Stored) (p q : Place) (gone : List ℕ) (new : List NamedToken) (i k : ℕ) → i ≡ length gone → length new ≤ k
    → Becomes s s p q (with_taken (env_of s p) (hand_after (take i gone) [] (env_of s p).hand))
    → Becomes s s p q (with_taken (env_of s p) (hand_after gone (named_tokens s (drop k new)) (env_of s p).hand))
gone_then s p q gone new i k all far before =
    becomes_as s s p q (with_taken (env_of s p) (hand_after (take i gone) [] (env_of s p).hand))
    (with_taken (env_of s p) (hand_after gone (named_tokens s (drop k new)) (env_of s p).hand))
    (ap (λ (h : ℕ → Option TokenTree). with_taken (env_of s p) h)
    (gone_all gone i [] (env_of s p).hand all ∙ new_none s gone new k (env_of s p).hand far))
    before

pub new_on : (s : Stored) (p q r : Place) (gone : List ℕ) (new : List NamedToken) (i k : ℕ) (d : NamedToken) → i < length new → i + 1 ≡ k
    → Becomes s s p q (with_taken (env_of s p) (hand_after gone (named_tokens s (drop k new)) (env_of s p).hand))
    → Becomes s s q r (with_taken (env_of s q)
    (with_token (get_or new i d).number (Some (token_tree s (get_or new i d).token)) (env_of s q).hand))
    → Becomes s s p r (with_taken (env_of s p) (hand_after gone (named_tokens s (drop i new)) (env_of s p).hand))
new_on s p q r gone new i k d within next before now =
    let here : Env → Env = λ (e : Env). with_taken e
    (with_token (get_or new i d).number (Some (token_tree s (get_or new i d).token)) e.hand) in
    becomes_as s s p r (here (env_of s q)) (with_taken (env_of s p) (hand_after gone (named_tokens s (drop i new)) (env_of s p).hand))
    (ap here before.env
    ∙ ap (λ (m : ℕ). here (with_taken (env_of s p) (hand_after gone (named_tokens s (drop m new)) (env_of s p).hand))) (sym next)
    ∙ ap (λ (h : ℕ → Option TokenTree). with_taken (env_of s p) h) (new_more s gone new i d (env_of s p).hand within))
    (becomes_by s s s p q r (with_taken (env_of s p) (hand_after gone (named_tokens s (drop k new)) (env_of s p).hand))
    (here (env_of s q)) before now)

pub new_all : (s : Stored) (p q : Place) (gone : List ℕ) (new : List NamedToken) (i : ℕ) → i ≡ 0
    → Becomes s s p q (with_taken (env_of s p) (hand_after gone (named_tokens s (drop i new)) (env_of s p).hand))
    → Becomes s s p q (with_taken (env_of s p) (hand_after gone (named_tokens s new) (env_of s p).hand))
new_all s p q gone new i start before =
    becomes_as s s p q (with_taken (env_of s p) (hand_after gone (named_tokens s (drop i new)) (env_of s p).hand))
    (with_taken (env_of s p) (hand_after gone (named_tokens s new) (env_of s p).hand))
    (ap (λ (m : ℕ). with_taken (env_of s p) (hand_after gone (named_tokens s (drop m new)) (env_of s p).hand)) start) before
