-- A hand with another token in the place of one, and one without a token: what they hold, their names, their permissions.
use Rattle.std.proofs.Common.{arith}
use Rattle.std.proofs.lemmas.Bool.Decides.{nat_tests}
use Rattle.std.specs.List.{AllByRecursion, IsDistinct}
use Rattle.std.specs.Prelude.{◌≡◌, ℕ, Bool, true, false, if◌then◌else◌, nat_eq, List, [], ◌∷◌, Option, Some, None}
use Rattle.sync_exchange.specs.Exchange.{held_as, tokens_in}
use Rattle.sync_exchange.specs.Splitting.{dropped, replaced}
use Rattle.sync_exchange.specs.declared.hands.Held.{Held}
use Rattle.sync_join.specs.Shards.{perm}
use Rattle.sync_join.specs.declared.tokens.Token.{Token as Shard}
use Rattle.sync_typing_laws.proofs.LocalCopies.{perms}
use Rattle.sync_typing_laws.proofs.LocalRenamed.{apart_none, names_of, none_apart}
use Rattle.sync_typing_laws.specs.Rests.{IsApart}
use mathlib.Core.Path.{refl, sym, ap, subst, ◌∙◌}

equal : (a b : ℕ) → nat_eq a b ≡ true → a ≡ b
equal a b is = grind (arith, nat_tests)

turned : (a b : ℕ) → nat_eq a b ≡ false → nat_eq b a ≡ false
turned a b off = grind (arith, nat_tests)

-- a number is not both
clash : (a b c : ℕ) → nat_eq a b ≡ true → nat_eq a c ≡ true → nat_eq b c ≡ false → ⊥
clash a b c one two off = let never : true ≡ false = sym (subst (λ z. nat_eq z c ≡ true) (equal a b one) two) ∙ off in cc

-- ---- another token in the place of one

pub held_replaced : (n : ℕ) (new : Held) (u : Shard) (hs : List Held) → IsApart hs → held_as n hs ≡ Some u → held_as new.name hs ≡ None → (m : ℕ)
    → held_as m (replaced n new hs) ≡ (if nat_eq m new.name then Some new.token else (if nat_eq m n then None else held_as m hs))
unfolding held_as IsDistinct
held_replaced n new u [] apart is free m = absurd (let never : None ≡ Some u = is in cc)
held_replaced n new u (h ∷ hs) apart is free m = by (nat_eq n h.name) refl (nat_eq m new.name) refl (nat_eq m n) refl (nat_eq m h.name) refl is (λ k. held_replaced n new u hs apart.1 k (apart_none new.name hs off.1) m) where
  off : AllByRecursion (λ y. nat_eq new.name y ≡ false) (names_of (h ∷ hs))
  off = none_apart new.name (h ∷ hs) free

  front : (b : Bool) → nat_eq m new.name ≡ b → (o : Option Shard) → (b ≡ false → held_as m hs ≡ o) → (if nat_eq m new.name then Some new.token else held_as m hs) ≡ (if b then Some new.token else o)
  front true k o later = ap (λ z. if z then Some new.token else held_as m hs) k
  front false k o later = ap (λ z. if z then Some new.token else held_as m hs) k ∙ later refl

  gone : (c d : Bool) → nat_eq n h.name ≡ true → nat_eq m n ≡ c → nat_eq m h.name ≡ d → held_as m hs ≡ (if c then None else (if d then Some h.token else held_as m hs))
  gone true d kn km kh = apart_none m hs (subst (λ z. AllByRecursion (λ y. nat_eq z y ≡ false) (names_of hs)) (sym (equal m n km ∙ equal n h.name kn)) apart.0)
  gone false true kn km kh = absurd (let never : true ≡ false = sym (subst (λ z. nat_eq m z ≡ true) (sym (equal n h.name kn)) kh) ∙ km in cc)
  gone false false kn km kh = refl

  by : (a : Bool) → nat_eq n h.name ≡ a → (b : Bool) → nat_eq m new.name ≡ b → (c : Bool) → nat_eq m n ≡ c → (d : Bool) → nat_eq m h.name ≡ d → (if a then Some h.token else held_as n hs) ≡ Some u
      → (held_as n hs ≡ Some u → held_as m (replaced n new hs) ≡ (if b then Some new.token else (if c then None else held_as m hs)))
      → held_as m (if a then new ∷ hs else h ∷ replaced n new hs) ≡ (if b then Some new.token else (if c then None else (if d then Some h.token else held_as m hs)))
  by true ka b kb c kc d kd is later = front b kb (if c then None else (if d then Some h.token else held_as m hs)) (λ k. gone c d ka kc kd)
  by false ka true kb c kc true kd is later = absurd (clash m new.name h.name kb kd off.0)
  by false ka false kb true kc true kd is later = absurd (clash m n h.name kc kd ka)
  by false ka false kb false kc true kd is later = ap (λ z. if z then Some h.token else held_as m (replaced n new hs)) kd
  by false ka b kb c kc false kd is later = ap (λ z. if z then Some h.token else held_as m (replaced n new hs)) kd ∙ later is

still_apart : (i n : ℕ) (new : Held) (hs : List Held) → nat_eq i new.name ≡ false → AllByRecursion (λ y. nat_eq i y ≡ false) (names_of hs) → AllByRecursion (λ y. nat_eq i y ≡ false) (names_of (replaced n new hs))
still_apart i n new [] off all = tt
still_apart i n new (h ∷ hs) off all = by (nat_eq n h.name) (still_apart i n new hs off all.1) where
  by : (b : Bool) → AllByRecursion (λ y. nat_eq i y ≡ false) (names_of (replaced n new hs)) → AllByRecursion (λ y. nat_eq i y ≡ false) (names_of (if b then new ∷ hs else h ∷ replaced n new hs))
  by true later = (off, all.1)
  by false later = (all.0, later)

pub replaced_apart : (n : ℕ) (new : Held) (hs : List Held) → IsApart hs → held_as new.name hs ≡ None → IsApart (replaced n new hs)
unfolding IsDistinct
replaced_apart n new [] apart free = tt
replaced_apart n new (h ∷ hs) apart free = by (nat_eq n h.name) (none_apart new.name (h ∷ hs) free) (λ k. replaced_apart n new hs apart.1 (apart_none new.name hs k)) where
  by : (b : Bool) → AllByRecursion (λ y. nat_eq new.name y ≡ false) (names_of (h ∷ hs)) → (AllByRecursion (λ y. nat_eq new.name y ≡ false) (names_of hs) → IsApart (replaced n new hs))
      → IsApart (if b then new ∷ hs else h ∷ replaced n new hs)
  by true all later = (all.1, apart.1)
  by false all later = (still_apart h.name n new hs (turned new.name h.name all.0) apart.0, later all.1)

is_token : (h : Held) (u : Shard) → Some h.token ≡ Some u → h.token ≡ u
is_token h u is = cc

pub replaced_perms : (n : ℕ) (new : Held) (u : Shard) (hs : List Held) → held_as n hs ≡ Some u → nat_eq u.field perm ≡ false → nat_eq new.token.field perm ≡ false → perms (tokens_in (replaced n new hs)) ≡ perms (tokens_in hs)
unfolding held_as
replaced_perms n new u [] is off none = refl
replaced_perms n new u (h ∷ hs) is off none = by (nat_eq n h.name) is (λ k. replaced_perms n new u hs k off none) where
  by : (b : Bool) → (if b then Some h.token else held_as n hs) ≡ Some u → (held_as n hs ≡ Some u → perms (tokens_in (replaced n new hs)) ≡ perms (tokens_in hs))
      → perms (tokens_in (if b then new ∷ hs else h ∷ replaced n new hs)) ≡ perms (h.token ∷ tokens_in hs)
  by true k later = ap (λ b. if b then new.token ∷ perms (tokens_in hs) else perms (tokens_in hs)) none
      ∙ ap (λ b. if b then h.token ∷ perms (tokens_in hs) else perms (tokens_in hs)) (sym (subst (λ (d : Shard). nat_eq d.field perm ≡ false) (sym (is_token h u k)) off))
  by false k later = ap (λ d. if nat_eq h.token.field perm then h.token ∷ d else d) (later k)

-- ---- without a token

less_apart : (i n : ℕ) (hs : List Held) → AllByRecursion (λ y. nat_eq i y ≡ false) (names_of hs) → AllByRecursion (λ y. nat_eq i y ≡ false) (names_of (dropped n hs))
less_apart i n [] all = tt
less_apart i n (h ∷ hs) all = by (nat_eq n h.name) (less_apart i n hs all.1) where
  by : (b : Bool) → AllByRecursion (λ y. nat_eq i y ≡ false) (names_of (dropped n hs)) → AllByRecursion (λ y. nat_eq i y ≡ false) (names_of (if b then hs else h ∷ dropped n hs))
  by true later = all.1
  by false later = (all.0, later)

pub dropped_apart : (n : ℕ) (hs : List Held) → IsApart hs → IsApart (dropped n hs)
unfolding IsDistinct
dropped_apart n [] apart = tt
dropped_apart n (h ∷ hs) apart = by (nat_eq n h.name) (dropped_apart n hs apart.1) where
  by : (b : Bool) → IsApart (dropped n hs) → IsApart (if b then hs else h ∷ dropped n hs)
  by true later = apart.1
  by false later = (less_apart h.name n hs apart.0, later)

pub dropped_perms : (n : ℕ) (u : Shard) (hs : List Held) → held_as n hs ≡ Some u → nat_eq u.field perm ≡ false → perms (tokens_in (dropped n hs)) ≡ perms (tokens_in hs)
unfolding held_as
dropped_perms n u [] is off = refl
dropped_perms n u (h ∷ hs) is off = by (nat_eq n h.name) is (λ k. dropped_perms n u hs k off) where
  by : (b : Bool) → (if b then Some h.token else held_as n hs) ≡ Some u → (held_as n hs ≡ Some u → perms (tokens_in (dropped n hs)) ≡ perms (tokens_in hs))
      → perms (tokens_in (if b then hs else h ∷ dropped n hs)) ≡ perms (h.token ∷ tokens_in hs)
  by true k later = ap (λ b. if b then h.token ∷ perms (tokens_in hs) else perms (tokens_in hs)) (sym (subst (λ (d : Shard). nat_eq d.field perm ≡ false) (sym (is_token h u k)) off))
  by false k later = ap (λ d. if nat_eq h.token.field perm then h.token ∷ d else d) (later k)
