-- Conditions that are computed at a state, and the step that they make.
use Rattle.std.proofs.Common.{◌≡◌, ℕ, ℤ, Bool, true, false, ◌||◌, List, [], ◌∷◌, ◌++◌, length, refl, sym, ◌∙◌, arith, if◌then◌else◌, nat_eq}
use Rattle.sync_terms.specs.Maps as maps
use Rattle.sync_terms.specs.Values.{Valuation}
use Rattle.sync_machine.specs.Naming.{bound_names, is_in, IsTextName}
use Rattle.sync_machine.specs.States.{first_values}
use Rattle.sync_machine.proofs.Tests.{conditions-are-tests}
use Rattle.sync_exchange.specs.Exchange.{argument}
use Rattle.sync_exchange.proofs.Beginning.{same-outside, at-state, all-both, all-in, text-outside}
use Rattle.sync_exchange.proofs.Rules.{regular}
use Rattle.sync_exchange.proofs.Whole.{params-apart, are-given}
use Rattle.sync_machine.specs.Named.{own_names}
use Rattle.sync_exchange_laws.specs.Conditions.{valuation_at, ConditionsMakeSteps}

-- an argument of a list is the same behind which others stand
front-cases : (b : Bool) (n m k : ℤ) → (b ≡ false → m ≡ k) → (if b then n else m) ≡ (if b then n else k)
front-cases true n m k h = refl
front-cases false n m k h = h refl

later-in : (a b : Bool) → (a || b) ≡ true → a ≡ false → b ≡ true
later-in true b e f = absurd (cc)
later-in false b e f = e

pub argument-front : (ps qs : List ℕ) (ns ms : List ℤ) (x : ℕ) → length ns ≡ length ps → is_in x ps ≡ true → argument (ps ++ qs) (ns ++ ms) x ≡ argument ps ns x
unfolding argument
argument-front [] qs ns ms x long e = absurd cc
argument-front (p ∷ ps) qs [] ms x long e = absurd (omega arith)
argument-front (p ∷ ps) qs (n ∷ ns) ms x long e =
    front-cases (nat_eq x p) n (argument (ps ++ qs) (ns ++ ms) x) (argument ps ns x)
    (λ other. argument-front ps qs ns ms x (omega arith) (later-in (nat_eq x p) (is_in x ps) e other))

pub conditions-make-steps : ConditionsMakeSteps
conditions-make-steps m texts named ruled o has other args bound long s many holds =
    let rules = regular m texts named ruled o has in
    let w : Valuation = record { number = argument (own_names o) (args ++ bound); mapping = λ x. maps.nil } in
    let v = valuation_at m.fields s o args bound in
    let value = λ (z : ℕ) (text : IsTextName z) (here : is_in z o.params ≡ true).
    sym (same-outside m.fields s w z (text-outside m.fields z rules.few text)).number ∙ argument-front o.params (bound_names o.steps) args bound z long here in
    record {
      names = v;
      declared = has;
      no_init = other;
      before = at-state m.fields s w many;
      given = are-given v o.params args long (params-apart m.fields [] o.params rules.params).1
          (all-both IsTextName (λ z. is_in z o.params ≡ true) (λ z. v.number z ≡ argument o.params args z) o.params value rules.texts.params (all-in o.params));
      met = (conditions-are-tests m.fields v (first_values m.fields o.mode) o.steps).0 holds;
      leaves = refl;
    }
