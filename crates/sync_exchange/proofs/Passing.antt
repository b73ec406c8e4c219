-- What an exchange that does not stop has found.
use Rattle.std.proofs.Common.{◌≡◌, ℕ, ℤ, Bool, true, false, ◌&&◌, Option, Some, None, Result, Ok, Err, refl, sym, ap, ◌∙◌}
use Rattle.std.proofs.lemmas.Bool.{eqb-true}
use Rattle.sync_base.specs.Outcome.{◌>>=◌}
use Rattle.sync_machine.specs.Machines.{PlaceTree}
use Rattle.sync_join.specs.declared.tokens.Token.{Token}
use Rattle.sync_join.proofs.Maps.{equal}
use Rattle.sync_exchange.specs.declared.hands.XStop.{XStop}
use Rattle.sync_exchange.specs.declared.hands.XStop.TheVariants.{Differs, Width}
use Rattle.sync_exchange.specs.Exchange.{Exchanging, Answer, held_as, next_name, unless, named, is_at_place, key_at, place_fits, is_asked, asked_token, asked_object, stored_at}
use Rattle.sync_exchange.proofs.Terms.{and_left, and_right}

pub ok_is : {A : Type 0} (x y : A) → ◌≡◌ {A = Result A XStop} (Ok x) (Ok y) → x ≡ y
ok_is x y e = cc

pub bind-ok : {A B : Type 0} (r : Result A XStop) (g : A → Result B XStop) (y : B) → (r >>= g) ≡ Ok y → (x : A) × (r ≡ Ok x) × (g x ≡ Ok y)
bind-ok (Ok x) g y e = (x, refl, e)
bind-ok (Err stop) g y e = absurd (cc)

pub unless-ok : (stop : XStop) (b : Bool) (answer : Answer) (y : Exchanging) → unless stop b answer ≡ Ok y → (b ≡ true) × (answer ≡ Ok y)
unless-ok stop true answer y e = (refl, e)
unless-ok stop false answer y e = absurd (cc)

pub either : {A : Type 0} (o : Option A) (P : Type 0) → (o ≡ None → P) → ((x : A) → o ≡ Some x → P) → P
either None P none some = none refl
either (Some x) P none some = some x refl

pub named-ok : (x : Exchanging) (t : Token) → named x ≡ Ok t → held_as (next_name x.tokens) x.hand ≡ Some t
named-ok x t e = either (held_as (next_name x.tokens) x.hand) (held_as (next_name x.tokens) x.hand ≡ Some t)
    (λ none. let h = rw none at e in absurd (cc))
    (λ u some. let h = rw some at e in some ∙ ap Some (ok_is u t h))

-- the token that a place asks for
pub record IsAskedToken (f : ℕ) (p : PlaceTree) (x : Exchanging) (next : Token → Exchanging) (y : Exchanging) : Type 0 where
  pub token : Token
  pub held : held_as (next_name x.tokens) x.hand ≡ Some token
  pub field : f ≡ token.field
  pub key : token.key ≡ key_at p x
  pub value : is_asked p token.value x ≡ true
  pub answer : next token ≡ y

pub asked-token : (fits : ℤ → Bool) (f : ℕ) (p : PlaceTree) (x : Exchanging) (next : Token → Exchanging) (y : Exchanging) → asked_token fits f p x next ≡ Ok y → IsAskedToken f p x next y
asked-token fits f p x next y e =
    let a = bind-ok (named x) _ y e in
    let t = a.0 in
    let b = unless-ok Width (place_fits fits p x) _ y a.2 in
    let c = unless-ok (Differs x.slot) (is_at_place f (key_at p x) t && is_asked p t.value x) _ y b.1 in
    let d = and_left (is_at_place f (key_at p x) t) _ c.0 in
    record {
      token = t;
      held = named-ok x t a.1;
      field = eqb-true f t.field (and_left _ _ d);
      key = sym (equal (key_at p x) t.key (and_right _ _ d));
      value = and_right (is_at_place f (key_at p x) t) _ c.0;
      answer = ok_is (next t) y c.1;
    }

-- the object that a place asks for
pub record IsAskedObject (f : ℕ) (p : PlaceTree) (x : Exchanging) (next : ℤ → Exchanging) (y : Exchanging) : Type 0 where
  pub number : ℤ
  pub stored : stored_at f (key_at p x) x.kept.stored ≡ Some number
  pub value : is_asked p number x ≡ true
  pub answer : next number ≡ y

pub asked-object : (fits : ℤ → Bool) (f : ℕ) (p : PlaceTree) (x : Exchanging) (next : ℤ → Exchanging) (y : Exchanging) → asked_object fits f p x next ≡ Ok y → IsAskedObject f p x next y
asked-object fits f p x next y e =
    let a = unless-ok Width (place_fits fits p x) _ y e in
    either (stored_at f (key_at p x) x.kept.stored) (IsAskedObject f p x next y)
    (λ none. let h = rw none at a.1 in absurd (cc))
    (λ n some. let h = rw some at a.1 in
    let b = unless-ok (Differs x.slot) (is_asked p n x) (Ok (next n)) y h in
    record { number = n; stored = some; value = b.0; answer = ok_is (next n) y b.1 })
