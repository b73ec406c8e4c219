-- What is shown: claims that are clear, or that the first script that is left proves.
use Rattle.std.proofs.Common.{◌≡◌, ℕ, ◌+◌, ◌≤◌, Bool, true, false, not, nat_lt, if◌then◌else◌, List, [], ◌∷◌, length, Option, Some, None, Result, Ok, Err, OnOk, refl, sym, ap, subst, ◌∙◌, arith}
use Rattle.std.proofs.lemmas.Bool.{le-ltb}
use Rattle.sync_base.specs.Outcome.{Gives, Passes, Stops}
use Rattle.sync_base.specs.declared.stops.Refusal.{Refusal}
use Rattle.sync_base.specs.declared.stops.Rule.{Rule}
use Rattle.sync_base.specs.declared.stops.Rule.TheVariants.{I2, K8}
use Rattle.sync_base.specs.declared.stops.Stop.{Stop}
use Rattle.sync_base.specs.declared.stops.Stop.TheVariants.{Refused, Memory}
use Rattle.sync_kernel.specs.Hypotheses.{known_in, AreReady}
use Rattle.sync_kernel.specs.Replaced.{plan_replaced}
use Rattle.sync_kernel.specs.Scripts.{script_fault}
use Rattle.sync_kernel_facts.specs.Facts.{facts_size}
use Rattle.sync_terms.specs.Plans.{plan_of, IsScriptOf}
use Rattle.sync_terms.specs.Stored.{Extends, Stored}
use Rattle.sync_terms.specs.Trees.{formula_size, most_nodes, neg, Formula, Tree}
use Rattle.sync_terms.specs.declared.scripts.Script.{Script}
use Rattle.sync_thread.specs.Programs.{ScriptTree}
use Rattle.sync_thread.specs.Views.{script_tree, scripts_tree}
use Rattle.sync_typing.specs.Dues.{is_clear, script_rule, show, use_first}
use Rattle.sync_typing.specs.Environments.{refused, stands, Env, Outcome}
use Rattle.sync_typing_reading.specs.Sayings.{stands_in}
use Rattle.sync_typing_places.specs.declared.hands.Hand.{Hand}
use Rattle.sync_typing_places.specs.declared.places.Place.{Place}
use Rattle.sync_typing_places.specs.Hands.{IsSame}
use Rattle.sync_typing_places.specs.Places.{env_of, none_left, AreScriptsOf, Becomes, IsOwn}
use Rattle.sync_typing_places.proofs.Holding.{stands_is}
use Rattle.sync_typing_places.proofs.Placing.{becomes_as, becomes_by, known_more, own_holds, same_place, stays}

-- ---- a script proves a claim

-- the facts and the claim are too large together
pub too_large : (s : Stored) (p : Place) (line : ℕ) (claim : Formula) (x : ScriptTree) (n : ℕ) (b : Bool) → n ≡ formula_size (neg claim)
    → b ≡ not (nat_lt most_nodes (facts_size (known_in s p.known) + n)) → b ≡ false
    → script_rule (env_of s p) line claim x ≡ Some (record { line = line; rule = K8 })
unfolding env_of
too_large s p line claim x n b size is over_it =
    let over : nat_lt most_nodes (facts_size (known_in s p.known) + formula_size (neg claim)) ≡ true =
    turned (nat_lt most_nodes (facts_size (known_in s p.known) + formula_size (neg claim)))
    (sym (is ∙ ap (λ (m : ℕ). not (nat_lt most_nodes (facts_size (known_in s p.known) + m))) size) ∙ over_it) in
    ap (λ (c : Bool). if c then Some (record { line = line; rule = K8 })
    else script_fault (known_in s p.known) claim (plan_replaced (stands (env_of s p)) x.plan)) over
  where
    turned : (c : Bool) → not c ≡ false → c ≡ true
    turned true e = refl
    turned false e = absurd (cc)

pub script_passes : {A : Type 0} (r : Result A Stop) (s : Stored) (p : Place) (line : ℕ) (claim : Formula) (x : Script) (n : ℕ) (b : Bool)
    → IsOwn s p → n ≡ formula_size (neg claim) → b ≡ not (nat_lt most_nodes (facts_size (known_in s p.known) + n)) → b ≡ true
    → Passes r (script_fault (known_in s p.known) claim (plan_replaced (stands_in s p.hand.names) (plan_of s x.block)))
    → Passes r (script_rule (env_of s p) line claim (script_tree s x))
unfolding env_of
script_passes r s p line claim x n b own size is fits passes =
    let within : nat_lt most_nodes (facts_size (known_in s p.known) + formula_size (neg claim)) ≡ false =
    turned (nat_lt most_nodes (facts_size (known_in s p.known) + formula_size (neg claim)))
    (sym (is ∙ ap (λ (m : ℕ). not (nat_lt most_nodes (facts_size (known_in s p.known) + m))) size) ∙ fits) in
    let fault : script_rule (env_of s p) line claim (script_tree s x)
    ≡ script_fault (known_in s p.known) claim (plan_replaced (stands_in s p.hand.names) (plan_of s x.block)) =
    ap (λ (c : Bool). if c then Some (record { line = line; rule = K8 })
    else script_fault (known_in s p.known) claim (plan_replaced (stands (env_of s p)) (plan_of s x.block))) within
    ∙ ap (λ (g : ℕ → Tree). script_fault (known_in s p.known) claim (plan_replaced g (plan_of s x.block)))
    (sym (stands_is s p.hand (env_of s p) (own_holds s p own))) in
    subst (λ (o : Option Refusal). Passes r o) (sym fault) passes
  where
    turned : (c : Bool) → not c ≡ true → c ≡ false
    turned true e = absurd (cc)
    turned false e = refl

-- the place is the same behind the proof
pub still_there : (s t : Stored) (old new : Place) → IsOwn s old → Extends s t → new.hand ≡ old.hand → new.fresh ≡ old.fresh
    → AreReady t new.known → known_in t new.known ≡ known_in s old.known → Becomes s t old new (env_of s old)
still_there s t old new own more hand fresh ready known =
    let still = stays s t old more own in
    let same : IsSame old.hand new.hand =
    subst (λ (h : Hand). IsSame old.hand h) (sym hand) (record { names = refl; places = refl; tokens = refl }) in
    becomes_as s t old new (env_of t old) (env_of s old) still.env
    (becomes_by s t t old old new (env_of s old) (env_of t old) still
    (same_place t old new still.own same ready (known ∙ sym (known_more s t old more own)) fresh))

pub on_both : {A E : Type 0} (r : Result A E) (P Q R : Type 0) → (P → Q → R) → OnOk r P → OnOk r Q → OnOk r R
on_both (Ok a) P Q R f p q = f p q
on_both (Err e) P Q R f p q = tt

-- ---- a claim is shown

-- a claim of a store fits
show_fits : (e : Env) (line : ℕ) (rule : Rule) (claim : Formula) (ss : List ScriptTree) → formula_size claim ≤ most_nodes
    → show e line rule claim ss ≡ (if is_clear claim then Ok ss else use_first e line rule claim ss)
show_fits e line rule claim ss fits =
    ap (λ (b : Bool). if b then refused line K8 else (if is_clear claim then Ok ss else use_first e line rule claim ss))
    (le-ltb most_nodes (formula_size claim) fits)

pub shown_clear : (e : Env) (line : ℕ) (rule : Rule) (claim : Formula) (ss : List ScriptTree) → formula_size claim ≤ most_nodes
    → is_clear claim ≡ true → show e line rule claim ss ≡ Ok ss
shown_clear e line rule claim ss fits is =
    show_fits e line rule claim ss fits ∙ ap (λ (b : Bool). if b then Ok ss else use_first e line rule claim ss) is

show_first : (e : Env) (line : ℕ) (rule : Rule) (claim : Formula) (ss : List ScriptTree) → formula_size claim ≤ most_nodes
    → is_clear claim ≡ false → show e line rule claim ss ≡ use_first e line rule claim ss
show_first e line rule claim ss fits is =
    show_fits e line rule claim ss fits ∙ ap (λ (b : Bool). if b then Ok ss else use_first e line rule claim ss) is

pub shown_none : (e : Env) (line : ℕ) (rule : Rule) (claim : Formula) (ss : List ScriptTree) → formula_size claim ≤ most_nodes
    → is_clear claim ≡ false → ss ≡ [] → show e line rule claim ss ≡ refused line rule
shown_none e line rule claim ss fits is none =
    show_first e line rule claim ss fits is ∙ ap (λ (xs : List ScriptTree). use_first e line rule claim xs) none

abbrev used_by : List ScriptTree → Option Refusal → Outcome (List ScriptTree)
used_by ss None = Ok ss
used_by ss (Some r) = Err r

used_first : (e : Env) (line : ℕ) (rule : Rule) (claim : Formula) (x : ScriptTree) (ss : List ScriptTree)
    → use_first e line rule claim (x ∷ ss) ≡ used_by ss (script_rule e line claim x)
used_first e line rule claim x ss = refl

shown_first : (e : Env) (line : ℕ) (rule : Rule) (claim : Formula) (all : List ScriptTree) (x : ScriptTree) (ss : List ScriptTree)
    → formula_size claim ≤ most_nodes → is_clear claim ≡ false → all ≡ x ∷ ss
    → show e line rule claim all ≡ used_by ss (script_rule e line claim x)
shown_first e line rule claim all x ss fits is first =
    show_first e line rule claim all fits is ∙ ap (λ (xs : List ScriptTree). use_first e line rule claim xs) first
    ∙ used_first e line rule claim x ss

pub shown_proved : (e : Env) (line : ℕ) (rule : Rule) (claim : Formula) (all : List ScriptTree) (x : ScriptTree) (ss : List ScriptTree)
    → formula_size claim ≤ most_nodes → is_clear claim ≡ false → all ≡ x ∷ ss → script_rule e line claim x ≡ None
    → show e line rule claim all ≡ Ok ss
shown_proved e line rule claim all x ss fits is first none =
    shown_first e line rule claim all x ss fits is first ∙ ap (used_by ss) none

pub shown_stops : (e : Env) (line : ℕ) (rule : Rule) (claim : Formula) (all : List ScriptTree) (x : ScriptTree) (ss : List ScriptTree)
    (stop : Stop) → formula_size claim ≤ most_nodes → is_clear claim ≡ false → all ≡ x ∷ ss
    → Passes {A = Unit {0}} (Err stop) (script_rule e line claim x) → Stops stop (show e line rule claim all)
shown_stops e line rule claim all x ss Memory fits is first some = tt
shown_stops e line rule claim all x ss (Refused r) fits is first some =
    shown_first e line rule claim all x ss fits is first ∙ ap (used_by ss) some

pub gives_stop : {A B : Type 0} (view : A → B) (r : Result A Stop) (x : Stop) (wanted : Result B Refusal) → r ≡ Err x → Stops x wanted
    → Gives view r wanted
gives_stop view r x wanted is stops = subst (λ (o : Result _ Stop). Gives view o wanted) (sym is) stops

-- ---- scripts that are left

pub none_spare : (s : Stored) (ss : List Script) → length ss ≡ 0 → none_left (scripts_tree s ss) ≡ Ok tt
none_spare s [] none = refl
none_spare s (x ∷ ss) none = absurd (omega arith)

pub one_spare : (s : Stored) (all : List Script) (x : Script) (ss : List Script) → all ≡ x ∷ ss
    → none_left (scripts_tree s all) ≡ Err (record { line = x.line; rule = I2 })
one_spare s all x ss is = ap (λ (xs : List Script). none_left (scripts_tree s xs)) is

pub first_script : (s : Stored) (all : List Script) (x : Script) (ss : List Script) → AreScriptsOf s all → all ≡ x ∷ ss → IsScriptOf s x.block
first_script s all x ss of is = λ t more.
    (let both : scripts_tree t (x ∷ ss) ≡ scripts_tree s (x ∷ ss) =
    subst (λ (ys : List Script). scripts_tree t ys ≡ scripts_tree s ys) is (of t more) in
    let one : script_tree t x ≡ script_tree s x = cc in
    ap (λ (y : ScriptTree). y.plan) one)

pub later_scripts : (s : Stored) (all : List Script) (x : Script) (ss : List Script) → AreScriptsOf s all → all ≡ x ∷ ss → AreScriptsOf s ss
later_scripts s all x ss of is = λ t more.
    (let both : scripts_tree t (x ∷ ss) ≡ scripts_tree s (x ∷ ss) =
    subst (λ (ys : List Script). scripts_tree t ys ≡ scripts_tree s ys) is (of t more) in cc)
