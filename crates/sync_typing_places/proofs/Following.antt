-- What a place has become after one call, and another after it.
use Rattle.std.proofs.Common.{◌≡◌, refl, sym, ap, ◌∙◌, subst, Result, Ok, Err}
use Rattle.sync_base.specs.Outcome.{Stops, ◌>>=◌}
use Rattle.sync_base.specs.declared.stops.Stop.{Stop}
use Rattle.sync_base.specs.declared.stops.Stop.TheVariants.{Refused, Memory}
use Rattle.sync_terms.specs.Stored.{Stored}
use Rattle.sync_typing.specs.Environments.{Env, Outcome}
use Rattle.sync_typing_places.specs.declared.places.Place.{Place}
use Rattle.sync_typing_places.specs.Places.{env_of, Becomes, Follows, Stays}
use Rattle.sync_typing_places.proofs.Placing.{becomes_as, becomes_by}

-- ---- one place after another

pub becomes_then : {s t u : Stored} {p q r : Place} {e f : Env} → Becomes s t p q e → Becomes t u q r f → Becomes s u p r f
becomes_then {s} {t} {u} {p} {q} {r} {e} {f} one two = becomes_by s t u p q r e f one two

-- the same over a store that has gained
pub stays_then : {s t u : Stored} {p q : Place} {e : Env} → Stays s t p → Becomes t u p q e → Becomes s u p q e
stays_then one two = becomes_then one two

pub then_stays : {s t u : Stored} {p q : Place} {e : Env} → Becomes s t p q e → Stays t u q → Becomes s u p q e
then_stays {s} {t} {u} {p} {q} {e} one two = becomes_as s u p q (env_of t q) e one.env (becomes_then one two)

-- the same by another word for what is known there
pub becomes_other : {s t : Stored} {p q : Place} {e f : Env} → e ≡ f → Becomes s t p q e → Becomes s t p q f
becomes_other {s} {t} {p} {q} {e} {f} is one = becomes_as s t p q e f is one

-- ---- rules that are followed

pub follows : {A : Type 0} {s t : Stored} {p q : Place} {e : Env} {wanted : Outcome Env} (a : A) → Becomes s t p q e
    → wanted ≡ Ok e → Follows s t p q (Ok a) wanted
follows a now is = record {
  own = now.own;
  env = is ∙ ap (λ (e : Env). Ok e) (sym now.env);
  leads = now.leads;
  remembers = now.remembers;
}

-- the rule refuses, or memory was wanting
pub stops : {A : Type 0} {s t : Stored} {p q : Place} {wanted : Outcome Env} (x : Stop) → Stops x wanted
    → Follows {A = A} s t p q (Err x) wanted
stops x is = record { own = tt; env = is; leads = tt; remembers = tt }

-- what a rule that was followed has made of the place
pub followed : {A : Type 0} {s t : Stored} {p q : Place} {wanted : Outcome Env} (a : A) → Follows s t p q (Ok a) wanted
    → Becomes s t p q (env_of t q)
followed a is = record { own = is.own; env = refl; leads = is.leads; remembers = is.remembers }

-- first the place becomes another, and then a rule is followed
pub then_follows : {A : Type 0} {s t u : Stored} {p q r : Place} {e : Env} {wanted : Outcome Env} (result : Result A Stop)
    → Becomes s t p q e → Follows t u q r result wanted → Follows s u p r result wanted
then_follows (Ok a) one two =
    let both = becomes_then one (followed a two) in
    record { own = both.own; env = two.env; leads = both.leads; remembers = both.remembers }
then_follows (Err x) one two = record { own = tt; env = two.env; leads = tt; remembers = tt }

-- the same of another wish
pub wished : {A : Type 0} {s t : Stored} {p q : Place} {wanted other : Outcome Env} (result : Result A Stop) → wanted ≡ other
    → Follows s t p q result other → Follows s t p q result wanted
wished {s} {t} {p} {q} result same is = subst (λ (w : Outcome Env). Follows s t p q result w) (sym same) is

-- one rule after another
pub follows_then : {A B : Type 0} {s t u : Stored} {p q r : Place} {one : Outcome Env} (f : Env → Outcome Env) (a : A) (result : Result B Stop)
    → Follows s t p q (Ok a) one → Follows t u q r result (f (env_of t q)) → Follows s u p r result (one >>= f)
follows_then f a result first second =
    wished result (ap (λ (o : Outcome Env). o >>= f) first.env) (then_follows result (followed a first) second)

pub refuses_then : {A B : Type 0} {s t u : Stored} {p q r : Place} {one : Outcome Env} (f : Env → Outcome Env) (x : Stop)
    → Follows {A = A} s t p q (Err x) one → Follows {A = B} s u p r (Err x) (one >>= f)
refuses_then f Memory first = record { own = tt; env = tt; leads = tt; remembers = tt }
refuses_then f (Refused x) first = record { own = tt; env = ap (λ (o : Outcome Env). o >>= f) first.env; leads = tt; remembers = tt }
