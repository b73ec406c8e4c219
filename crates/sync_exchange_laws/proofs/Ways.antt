-- Whole exchanges keep how often each content of each cell is there.
use Rattle.std.proofs.Common.{◌≡◌, List, [], ◌++◌, length, map, append-nil, sym, ap, subst, ◌∙◌}
use Rattle.std.specs.List.{range_with_len}
use Rattle.sync_base.specs.Outcome.{◌>>=◌}
use Rattle.sync_terms.specs.Trees.{Name}
use Rattle.sync_base.specs.declared.strategies.OpMode.TheVariants as mode
use Rattle.sync_machine.specs.States.{first_values, IsKeptSafe}
use Rattle.sync_join.specs.declared.tokens.Token.{Token}
use Rattle.sync_join.specs.Shards.{Kept}
use Rattle.sync_exchange.specs.declared.hands.Held.{Held}
use Rattle.sync_exchange.specs.Exchange.{tokens_in, use_variables, variable_slots, beginning, does_all}
use Rattle.sync_exchange.proofs.Passing.{bind-ok}
use Rattle.sync_exchange.proofs.Standing.{bag_at}
use Rattle.sync_exchange.proofs.Rules.{regular}
use Rattle.sync_exchange.proofs.Whole.{state-length, first-names}
use Rattle.sync_exchange.proofs.Beginning.{valuation, at-state, trust}
use Rattle.sync_exchange.proofs.Initialising.{given-args as first-given, walk as first-walk}
use Rattle.sync_exchange.proofs.Transitions.{outcome-ok, below-length, given-args, walk}
use Rattle.sync_exchange_laws.specs.Permissions.{there_often, PermissionsStay, FirstPermissionsStay}
use Rattle.sync_exchange_laws.proofs.Permitting.{stays, slots-there}

pub permissions-stay : PermissionsStay
permissions-stay fit m proved o has other args long tokens given hand names others kept sound s joined reached whole either x e k n =
    let rules = regular m proved.symbols proved.named proved.strategies o has in
    let start = beginning m.fields o args tokens given whole hand kept in
    let out = outcome-ok (use_variables (variable_slots m.fields o) start >>= does_all fit m.fields o.steps) x e in
    let y = out.0 in
    let a = bind-ok (use_variables (variable_slots m.fields o) start) (does_all fit m.fields o.steps) y out.1 in
    let t = trust m.fields o s whole other rules.rules either in
    let v = valuation m.fields s y.names in
    let at = at-state m.fields s y.names (state-length m.fields (tokens_in hand ++ others) kept s joined) in
    let args_are = given-args fit m o args tokens given hand others kept s whole joined sound other names rules t a.0 y a.1 a.2 long in
    let firsts : first_values m.fields o.mode ≡ map Name (range_with_len 0 (length m.fields)) = first-names m.fields o.mode other in
    let safe = subst (λ c. IsKeptSafe m.fields v c o.steps) firsts (proved.holds.safe s reached o has other args v at args_are) in
    let w = walk fit m o args tokens given hand others kept s whole joined sound other names rules t a.0 y a.1 a.2 safe in
    ap (λ (ts : List Token). there_often k n (ts ++ others) x.kept) out.2.hand
    ∙ ap (λ (kp : Kept). there_often k n (bag_at others y) kp) out.2.kept
    ∙ stays m.fields rules.few others k n fit v o.steps a.0 y (map Name (range_with_len 0 (length m.fields))) w
    ∙ slots-there m.fields rules.few others k n o.steps (range_with_len 0 (length m.fields)) start a.0 (below-length (length m.fields)) a.1
    ∙ ap (λ (hs : List Held). there_often k n (tokens_in hs ++ others) kept) (append-nil hand)

pub first-permissions-stay : FirstPermissionsStay
first-permissions-stay fit m proved o has init args long tokens given hand names perms kept blanks empty whole x e k n =
    let rules = regular m proved.symbols proved.named proved.strategies o has in
    let start = beginning m.fields o args tokens given whole hand kept in
    let out = outcome-ok (use_variables (variable_slots m.fields o) start >>= does_all fit m.fields o.steps) x e in
    let y = out.0 in
    let a = bind-ok (use_variables (variable_slots m.fields o) start) (does_all fit m.fields o.steps) y out.1 in
    let gives = first-given fit m o args tokens given hand kept whole init names rules perms blanks empty a.0 y a.1 a.2 long in
    let safe = subst (λ k. IsKeptSafe m.fields y.names (first_values m.fields k) o.steps) init (proved.holds.starts_safe o has init args y.names gives) in
    let w = first-walk fit m o args tokens given hand kept whole init names rules perms blanks empty a.0 y a.1 a.2 safe in
    ap (λ (ts : List Token). there_often k n ts x.kept) (out.2.hand ∙ sym (append-nil (tokens_in (y.hand ++ y.entered))))
    ∙ ap (λ (kp : Kept). there_often k n (bag_at [] y) kp) out.2.kept
    ∙ stays m.fields rules.few [] k n fit y.names o.steps a.0 y (first_values m.fields mode.Init) w
    ∙ slots-there m.fields rules.few [] k n o.steps (range_with_len 0 (length m.fields)) start a.0 (below-length (length m.fields)) a.1
    ∙ ap (λ (ts : List Token). there_often k n ts kept) (append-nil (tokens_in (hand ++ [])))
    ∙ ap (λ (hs : List Held). there_often k n (tokens_in hs) kept) (append-nil hand)
