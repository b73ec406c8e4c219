-- The tests of conditions, and the facts that they say.
use Rattle.std.proofs.Common.{◌≡◌, ◌↔◌, Bool, true, false, not, ◌&&◌, ◌||◌, List, [], ◌∷◌, Option, Some, None, refl, sym, ap, ◌∙◌}
use Rattle.sync_terms.specs.Trees.{Tree, Formula}
use Rattle.sync_terms.specs.Values.{Valuation}
use Rattle.sync_machine.specs.declared.fields.Field.{Field}
use Rattle.sync_machine.specs.Machines.{StepTree}
use Rattle.sync_machine.specs.Statements.{safety, condition}
use Rattle.sync_machine.specs.States.{strategy_of, current_of, advanced, IsMet, AreMet, IsKeptSafe}
use Rattle.sync_machine.specs.Tests.{is_met, are_met, is_kept_safe, ConditionsAreTests, SafetyIsATest}

both : (a b : Bool) → (a && b) ≡ true → (a ≡ true) × (b ≡ true)
both true b e = (refl, e)
both false b e = absurd cc

join : (a b : Bool) → a ≡ true → b ≡ true → (a && b) ≡ true
join a b p q = ap (λ c. c && b) p ∙ q

then : (a b : Bool) → (not a || b) ≡ true → a ≡ true → b ≡ true
then true b e h = e
then false b e h = absurd cc

if_then : (a b : Bool) → (a ≡ true → b ≡ true) → (not a || b) ≡ true
if_then true b h = h refl
if_then false b h = refl

met_fact : (v : Valuation) (o : Option Formula) → is_met v o ≡ true → IsMet v o
met_fact v None e = tt
met_fact v (Some f) e = e

met_test : (v : Valuation) (o : Option Formula) → IsMet v o → is_met v o ≡ true
met_test v None h = refl
met_test v (Some f) h = h

met_facts : (fs : List Field) (v : Valuation) (cur : List Tree) (ss : List StepTree) → are_met fs v cur ss ≡ true → AreMet fs v cur ss
unfolding are_met AreMet
met_facts fs v cur [] e = tt
met_facts fs v cur (s ∷ ss) e = let p = both _ _ e in (met_fact v _ p.0, met_facts fs v (advanced fs cur s.act) ss p.1)

met_tests : (fs : List Field) (v : Valuation) (cur : List Tree) (ss : List StepTree) → AreMet fs v cur ss → are_met fs v cur ss ≡ true
unfolding are_met AreMet
met_tests fs v cur [] h = refl
met_tests fs v cur (s ∷ ss) h = join _ _ (met_test v _ h.0) (met_tests fs v (advanced fs cur s.act) ss h.1)

safe_facts : (fs : List Field) (v : Valuation) (cur : List Tree) (ss : List StepTree) → is_kept_safe fs v cur ss ≡ true → IsKeptSafe fs v cur ss
unfolding is_kept_safe IsKeptSafe
safe_facts fs v cur [] e = tt
safe_facts fs v cur (s ∷ ss) e =
    let p = both _ _ e in
    (met_fact v _ p.0, λ h. safe_facts fs v (advanced fs cur s.act) ss (then _ _ p.1 (met_test v _ h)))

safe_tests : (fs : List Field) (v : Valuation) (cur : List Tree) (ss : List StepTree) → IsKeptSafe fs v cur ss → is_kept_safe fs v cur ss ≡ true
unfolding is_kept_safe IsKeptSafe
safe_tests fs v cur [] h = refl
safe_tests fs v cur (s ∷ ss) h =
    join _ _ (met_test v _ h.0) (if_then _ _ (λ e. safe_tests fs v (advanced fs cur s.act) ss (h.1 (met_fact v _ e))))

pub conditions-are-tests : ConditionsAreTests
conditions-are-tests fs v cur ss = (met_facts fs v cur ss, met_tests fs v cur ss)

pub safety-is-a-test : SafetyIsATest
safety-is-a-test fs v cur ss = (safe_facts fs v cur ss, safe_tests fs v cur ss)
