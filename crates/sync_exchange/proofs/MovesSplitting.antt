-- Splits, mergers and copies leave the names of a hand apart.
use Rattle.std.proofs.Common.{◌≡◌, ◌≢◌, ℕ, ◌+◌, ◌≤◌, ℤ, ◌+ℤ◌, ◌-ℤ◌, Bool, true, false, List, [], ◌∷◌, ◌++◌, refl, sym, ap, subst, ◌∙◌, arith, if◌then◌else◌, nat_eq}
use Rattle.std.proofs.lemmas.Bool.{eqb-true}
use Rattle.sync_machine.specs.declared.fields.Field.{Field}
use Rattle.sync_join.specs.declared.tokens.Token.{Token}
use Rattle.sync_exchange.specs.declared.hands.Held.{Held}
use Rattle.sync_exchange.specs.Splitting.{replaced, dropped, held, split_of, merged_of, copied_of}
use Rattle.sync_exchange.proofs.Tokens.{occurs, names_in, holds, holds-append}
use Rattle.sync_exchange.proofs.Owning.{distinct-occurs}
use Rattle.sync_exchange.proofs.Keeping.{HeldAt, stands, held-dropped}
use Rattle.sync_exchange.specs.Moves.{IsApart, IsSplit, IsMerger, IsCopy}
use Rattle.sync_exchange.proofs.MovesApart.{IsOnce, occurs-distinct, not-held}

-- a token under one more name
pub once-more : (new : Held) (hs : List Held) → IsOnce hs → holds new.name hs ≡ 0 → IsOnce (new ∷ hs)
unfolding occurs
once-more new hs once none z = cases (nat_eq z new.name) refl (once z) where
  cases : (b : Bool) → nat_eq z new.name ≡ b → holds z hs ≤ 1 → (if b then 1 else 0) + holds z hs ≤ 1
  cases true same few = let here : holds z hs ≡ 0 = ap (λ n. holds n hs) (eqb-true z new.name same) ∙ none in omega (arith, here)
  cases false other few = omega (arith, few)

holds-one : (z : ℕ) (new : Held) (hs : List Held) → holds z (new ∷ hs) ≡ (if nat_eq z new.name then 1 else 0) + holds z hs
unfolding occurs
holds-one z new hs = refl

-- where a token stands among others does not matter
holds-front : (z : ℕ) (xs : List Held) (new : Held) (ys : List Held) → holds z (xs ++ new ∷ ys) ≡ holds z (new ∷ (xs ++ ys))
holds-front z xs new ys =
    let a = holds-append z xs (new ∷ ys) in
    let b = holds-append z xs ys in
    let c = holds-one z new ys in
    let d = holds-one z new (xs ++ ys) in omega (arith, a, b, c, d)

module _ (name : ℕ) (hs : List Held) (t : Token) (s : HeldAt name hs t) where
  pub holds-replaced : (z : ℕ) (new : Held) → holds z (replaced name new hs) ≡ holds z (new ∷ dropped name hs)
  holds-replaced z new =
      ap (λ ks. holds z ks) (s.changed new) ∙ holds-front z s.before new s.after
      ∙ ap (λ ks. holds z (new ∷ ks)) (sym s.gone)

  pub holds-dropped : (z : ℕ) → holds z (dropped name hs) ≤ holds z hs
  holds-dropped z =
      let a : holds z (dropped name hs) ≡ holds z (s.before ++ s.after) = ap (λ ks. holds z ks) s.gone in
      let b : holds z hs ≡ holds z (s.here ∷ (s.before ++ s.after)) = ap (λ ks. holds z ks) s.whole ∙ holds-front z s.before s.here s.after in
      let c = holds-one z s.here (s.before ++ s.after) in omega (arith, a, b, c)

  pub once-dropped : IsOnce hs → IsOnce (dropped name hs)
  once-dropped once z = let a = holds-dropped z in let b = once z in omega (arith, a, b)

  pub none-dropped : (z : ℕ) → holds z hs ≡ 0 → holds z (dropped name hs) ≡ 0
  none-dropped z none = let a = holds-dropped z in omega (arith, a, none)

  pub once-replaced : (new : Held) → IsOnce hs → holds new.name hs ≡ 0 → IsOnce (replaced name new hs)
  once-replaced new once none z =
      let a = holds-replaced z new in
      let b = once-more new (dropped name hs) (once-dropped once) (none-dropped new.name none) z in omega (arith, a, b)

holds-none : (z : ℕ) → holds z [] ≡ 0
unfolding occurs
holds-none z = refl

-- a token comes last
pub once-last : (new : Held) (hs : List Held) → IsOnce hs → holds new.name hs ≡ 0 → IsOnce (hs ++ new ∷ [])
once-last new hs once none z =
    let a = holds-append z hs (new ∷ []) in
    let b = once-more new hs once none z in
    let c = holds-one z new hs in
    let d = holds-one z new [] in
    let e = holds-none z in omega (arith, a, b, c, d, e)

other-none : (z : ℕ) (new : Held) (hs : List Held) → new.name ≢ z → holds z hs ≡ 0 → holds z (new ∷ hs) ≡ 0
unfolding occurs
other-none z new hs other none = cases (nat_eq z new.name) refl where
  cases : (b : Bool) → nat_eq z new.name ≡ b → (if b then 1 else 0) + holds z hs ≡ 0
  cases true same = absurd (other (sym (eqb-true z new.name same)))
  cases false apart = omega (arith, none)

pub apart-once : (hs : List Held) → IsApart hs → IsOnce hs
apart-once hs h z = distinct-occurs z (names_in hs) h

pub once-apart : (hs : List Held) → IsOnce hs → IsApart hs
once-apart hs h = occurs-distinct (names_in hs) h

split-once : (hs : List Held) (name : ℕ) (t : Token) → HeldAt name hs t → (one two : Held) → IsOnce hs → holds one.name hs ≡ 0 → holds two.name hs ≡ 0 → one.name ≢ two.name → IsOnce (replaced name one hs ++ two ∷ [])
split-once hs name t s one two once none also apart =
    once-last two (replaced name one hs) (once-replaced name hs t s one once none)
    (holds-replaced name hs t s two.name one ∙ other-none two.name one (dropped name hs) apart (none-dropped name hs t s two.name also))

pub apart-split : (fs : List Field) (name : ℕ) (amount : ℤ) (first second : ℕ) (hand left : List Held) → IsSplit fs name amount first second hand left → IsApart hand → IsApart left
apart-split fs name amount first second hand left h apart =
    subst IsApart (sym h.leaves)
    (once-apart (split_of name h.token amount first second hand)
    (split-once hand name h.token (stands name hand h.token h.held) (held first h.token amount) (held second h.token (h.token.value -ℤ amount))
    (apart-once hand apart) (not-held first hand h.first_new) (not-held second hand h.second_new) h.apart))

pub apart-merger : (fs : List Field) (a b into : ℕ) (hand left : List Held) → IsMerger fs a b into hand left → IsApart hand → IsApart left
apart-merger fs a b into hand left h apart =
    let s = stands b hand h.other h.other_held in
    let r = stands a (dropped b hand) h.token (held-dropped a b hand h.apart ∙ h.held) in
    subst IsApart (sym h.leaves)
    (once-apart (merged_of a h.token b h.other into hand)
    (once-replaced a (dropped b hand) h.token r (held into h.token (h.token.value +ℤ h.other.value))
    (once-dropped b hand h.other s (apart-once hand apart)) (none-dropped b hand h.other s into (not-held into hand h.into_new))))

pub apart-copy : (fs : List Field) (name new : ℕ) (hand left : List Held) → IsCopy fs name new hand left → IsApart hand → IsApart left
apart-copy fs name new hand left h apart =
    subst IsApart (sym h.leaves)
    (once-apart (copied_of h.token new hand) (once-last (held new h.token h.token.value) hand (apart-once hand apart) (not-held new hand h.not_held)))
