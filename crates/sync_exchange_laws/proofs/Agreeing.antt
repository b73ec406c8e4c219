-- An exchange goes by each valuation that agrees with its own.
use Rattle.std.proofs.Common.{◌≡◌, ℕ, ℤ, pos, true, List, [], ◌∷◌, length, Ok, refl, sym, ap, subst, ◌∙◌}
use Rattle.std.specs.List.{AllByRecursion}
use Rattle.sync_base.specs.Outcome.{◌>>=◌}
use Rattle.sync_terms.specs.Values.{Valuation}
use Rattle.sync_machine.specs.declared.fields.Field.{Field}
use Rattle.sync_machine.specs.Machines.{ActTree, StepTree, OperationTree}
use Rattle.sync_machine.specs.Machines as acts
use Rattle.sync_machine.specs.States.{State}
use Rattle.sync_rules.specs.Order.{may_start}
use Rattle.sync_rules.specs.declared.slots.Role.{Role}
use Rattle.sync_rules.specs.declared.slots.Role.TheVariants.{Given}
use Rattle.sync_rules.specs.Slots.{SlotTree}
use Rattle.sync_join.specs.Shards.{Kept}
use Rattle.sync_exchange.specs.declared.hands.Held.{Held}
use Rattle.sync_exchange.specs.Exchange.{Exchanging, Exchanged, next_name, token_of, after_reading, knowing, variable_slots, beginning, use_variables, does_all}
use Rattle.sync_exchange.proofs.Passing.{ok_is, bind-ok}
use Rattle.sync_exchange.proofs.Rules.{regular}
use Rattle.sync_exchange.proofs.Beginning.{trust}
use Rattle.sync_exchange.proofs.Initialising.{all-start}
use Rattle.sync_exchange.proofs.Transitions.{outcome-ok}
use Rattle.sync_exchange.proofs.Widening.{unbounded}
use Rattle.sync_exchange_laws.specs.Conditions.{valuation_at}
use Rattle.sync_exchange_laws.specs.Along.{IsThere, left_under, IsVariableThere, variable_left, variables_left, AreVariablesThere, AreThere, all_left, begun_under, ended, IsAlong}
use Rattle.sync_exchange_laws.specs.Succeeding.{IsBroughtUnder, AreBroughtUnder, values_bound, values_bound_at, SucceedsWith}
use Rattle.sync_exchange_laws.specs.Starts.{start_valuation}
use Rattle.sync_exchange_laws.specs.Agreeing.{end_valuation, IsSlotSame, Agrees, BringsAll, exchanged_under, ExchangesGoByAny, StartsGoByAny}
use Rattle.sync_exchange_laws.proofs.Variables.{variables-used, variables-found}
use Rattle.sync_exchange_laws.proofs.Along.{exchanges-go-along}
use Rattle.sync_exchange_laws.proofs.Returning.{learned}
use Rattle.sync_exchange_laws.proofs.Succeeding.{values-done, exchanges-succeed}
use Rattle.sync_exchange_laws.proofs.Substituting.{all-same}
use Rattle.sync_exchange_laws.proofs.TermsSucceeding.{all-brought-same, all-turned}
use Rattle.sync_exchange_laws.proofs.Starting.{ruled, starts-go-along, starts-follow}

-- ---- variables under two valuations

module _ (v w : Valuation) where
  variable-same : (role : Role) (s : SlotTree) (x : Exchanging) → s.role ≡ role → IsSlotSame v w s
      → IsVariableThere v s x → IsVariableThere w s x × (variable_left v s x ≡ variable_left w s x)
  variable-same Given s x is e there = rw is (tt, refl)
  variable-same role s x is e there =
      let found = rw is at there in
      let same : v.number s.field ≡ w.number s.field = e (λ given. let never = sym is ∙ given in absurd (cc)) in
      rw is (
        found ∙ ap (λ (n : ℤ). Ok (token_of s.field (pos 0) n)) same,
        ap (λ (n : ℤ). knowing s.field (next_name x.tokens) n (after_reading x)) same,
      )

  variables-same : (ss : List SlotTree) (x : Exchanging)
      → AllByRecursion (IsSlotSame v w) ss → AreVariablesThere v ss x
      → AreVariablesThere w ss x × (variables_left v ss x ≡ variables_left w ss x)
  variables-same [] x e there = (tt, refl)
  variables-same (s ∷ ss) x e there =
      let one = variable-same s.role s x refl e.0 there.0 in
      let rest = variables-same ss (variable_left v s x) e.1 there.1 in (
        (one.0, subst (AreVariablesThere w ss) one.1 rest.0),
        rest.1 ∙ ap (variables_left w ss) one.1,
      )

variables-turned : (v w : Valuation) (ss : List SlotTree)
    → AllByRecursion (IsSlotSame v w) ss
    → AllByRecursion (IsSlotSame w v) ss
variables-turned v w [] e = tt
variables-turned v w (s ∷ ss) e = (λ taken. sym (e.0 taken), variables-turned v w ss e.1)

agrees-turned : (fs : List Field) (o : OperationTree) (v w : Valuation) → Agrees fs o v w → Agrees fs o w v
agrees-turned fs o v w a = record {
  variables = variables-turned v w (variable_slots fs o) a.variables;
  statements = all-turned fs v w o.steps a.statements;
}

-- ---- all there under one valuation, and so under another

all-brought-there : (fs : List Field) (v : Valuation) (ss : List StepTree) (x : Exchanging) → AreThere fs v ss x
    → AreBroughtUnder fs v ss x
all-brought-there fs v [] x there = tt
all-brought-there fs v (s ∷ ss) x there =
    (one s.act there.0, all-brought-there fs v ss (left_under fs v s.act x) there.1) where
      one : (a : ActTree) → IsThere v a x → IsBroughtUnder v a x
      one (acts.Require form) there = there
      one (acts.Remove f p) there = there
      one (acts.Have f p) there = there
      one (acts.Deposit f p) there = there
      one (acts.Withdraw f p) there = tt
      one (acts.Guard f p) there = tt
      one (acts.Init f t) there = tt
      one (acts.Assert form) there = tt
      one (acts.Update f t) there = tt
      one (acts.HaveVariable f) there = tt
      one (acts.Add f p) there = tt

module _ (fs : List Field) (v w : Valuation) (o : OperationTree) (args : List ℤ) (tokens given : List ℕ)
    (hand : List Held) (kept : Kept) (whole : State) (agrees : Agrees fs o v w) where
  abbrev start : Exchanging
  start = beginning fs o args tokens given whole hand kept

  pub begun-same : AreVariablesThere v (variable_slots fs o) start
      → AreVariablesThere w (variable_slots fs o) start
      × (begun_under fs v o args tokens given whole hand kept ≡ begun_under fs w o args tokens given whole hand kept)
  begun-same there = variables-same v w (variable_slots fs o) start agrees.variables there

  pub brings-same : BringsAll fs v o args tokens given hand kept whole
      → BringsAll fs w o args tokens given hand kept whole
  brings-same b =
      let begun = begun-same b.variables in
      record {
        variables = begun.0;
        statements = subst (AreBroughtUnder fs w o.steps) begun.1
            (all-brought-same fs v w o.steps _ agrees.statements b.statements);
      }

  pub along-same : (x : Exchanged) → IsAlong fs v o args tokens given hand kept whole x
      → IsAlong fs w o args tokens given hand kept whole x
  along-same x a =
      let begun = begun-same a.variables in
      let same = all-same fs v w o.steps (begun_under fs v o args tokens given whole hand kept) agrees.statements
      a.found in
      record {
        variables = begun.0;
        found = subst (AreThere fs w o.steps) begun.1 same.0;
        leaves = a.leaves ∙ ap ended same.1 ∙ ap (λ (b : Exchanging). ended (all_left fs w o.steps b)) begun.1;
      }

-- what goes along a valuation is brought under it, and left as it says
along-brings : (fs : List Field) (v : Valuation) (o : OperationTree) (args : List ℤ) (tokens given : List ℕ)
    (hand : List Held) (kept : Kept) (whole : State) (x : Exchanged)
    → IsAlong fs v o args tokens given hand kept whole x
    → BringsAll fs v o args tokens given hand kept whole
    × (x ≡ exchanged_under fs v o args tokens given whole hand kept)
along-brings fs v o args tokens given hand kept whole x a = (
  record { variables = a.variables; statements = all-brought-there fs v o.steps _ a.found },
  a.leaves,
)

-- ---- transitions and properties

pub exchanges-go-by-any : ExchangesGoByAny
exchanges-go-by-any m proved o has other args long tokens given hand apart others kept sound s joined reached whole
    either v agrees =
    let fs = m.fields in
    let rules = regular m proved.symbols proved.named proved.strategies o has in
    let t = trust fs o s whole other rules.rules either in
    let start = beginning fs o args tokens given whole hand kept in
    let w = end_valuation fs s o args tokens given whole hand kept in
    let none = valuation_at fs s o args [] in
    let found : (u : Valuation) (bound : List ℤ) → (begun : Exchanging)
    → use_variables (variable_slots fs o) start ≡ Ok begun
    → AreVariablesThere (valuation_at fs s o args bound) (variable_slots fs o) start
    × (begun_under fs (valuation_at fs s o args bound) o args tokens given whole hand kept ≡ begun) =
    λ u bound begun first.
    variables-found fs o.steps (valuation_at fs s o args bound) (length fs) 0 start begun first
    (learned m o args tokens given hand others kept s whole joined sound other apart rules t begun first long bound) in
    record {
      succeeds = λ brings.
          let b = brings-same fs v w o args tokens given hand kept whole agrees brings in
          let first = variables-used w (variable_slots fs o) start b.variables in
          let at = found w [] (begun_under fs w o args tokens given whole hand kept) first in
          let e =
          exchanges-succeed m proved o has other args long tokens given hand apart others kept sound s joined reached
          whole either at.0 (subst (AreBroughtUnder fs w o.steps) (sym at.1) b.statements) in
          let along =
          along-same fs w v o args tokens given hand kept whole (agrees-turned fs o v w agrees) e.left e.along in
          e.answer ∙ ap (λ (x : Exchanged). Ok x) along.leaves;
      alone = λ x e.
          let out = outcome-ok (use_variables (variable_slots fs o) start >>= does_all unbounded fs o.steps) x e in
          let a = bind-ok (use_variables (variable_slots fs o) start) (does_all unbounded fs o.steps) out.0 out.1 in
          let at = found w [] a.0 a.1 in
          let bound : x.bound ≡ values_bound_at fs s o args tokens given whole hand kept =
          out.2.bound ∙ sym (values-done fs o.steps a.0 out.0 a.2) ∙ ap (values_bound fs o.steps) (sym at.1) in
          let goes =
          exchanges-go-along unbounded m proved o has other args long tokens given hand apart others kept sound s joined
          reached whole either x e in
          along-brings fs v o args tokens given hand kept whole x
          (along-same fs w v o args tokens given hand kept whole (agrees-turned fs o v w agrees) x
          (subst (λ (bs : List ℤ). IsAlong fs (valuation_at fs s o args bs) o args tokens given hand kept whole x) bound
          goes.along));
    }

-- ---- inits

-- an init looks for no stored object, so what is brought is all that is to be there
first-there : (v : Valuation) (a : ActTree) (x : Exchanging) → may_start a ≡ true → IsBroughtUnder v a x → IsThere v a x
unfolding may_start
first-there v (acts.Init f t) x start brought = tt
first-there v (acts.Require form) x start brought = brought
first-there v (acts.Add f p) x start brought = tt
first-there v (acts.Deposit f p) x start brought = brought
first-there v (acts.Assert form) x start brought = absurd (cc)
first-there v (acts.Update f t) x start brought = absurd (cc)
first-there v (acts.HaveVariable f) x start brought = absurd (cc)
first-there v (acts.Remove f p) x start brought = absurd (cc)
first-there v (acts.Have f p) x start brought = absurd (cc)
first-there v (acts.Withdraw f p) x start brought = absurd (cc)
first-there v (acts.Guard f p) x start brought = absurd (cc)

all-first-there : (fs : List Field) (v : Valuation) (ss : List StepTree) (x : Exchanging)
    → AllByRecursion (λ (s : StepTree). may_start s.act ≡ true) ss → AreBroughtUnder fs v ss x → AreThere fs v ss x
all-first-there fs v [] x starts brought = tt
all-first-there fs v (s ∷ ss) x starts brought = (
  first-there v s.act x starts.0 brought.0,
  all-first-there fs v ss (left_under fs v s.act x) starts.1 brought.1,
)

pub starts-go-by-any : StartsGoByAny
starts-go-by-any m proved o has init args long tokens given hand apart perms kept blanks empty whole v agrees =
    let fs = m.fields in
    let rules = regular m proved.symbols proved.named proved.strategies o has in
    let w = start_valuation fs o args in
    let turned = agrees-turned fs o v w agrees in
    let may = all-start fs [] o.steps (ruled fs o args init rules) in
    record {
      succeeds = λ brings.
          let b = brings-same fs v w o args tokens given hand kept whole agrees brings in
          let there = all-first-there fs w o.steps (begun_under fs w o args tokens given whole hand kept) may
          b.statements in
          let answer =
          starts-follow m proved o has init args long tokens given hand apart perms kept blanks empty whole there in
          let along =
          along-same fs w v o args tokens given hand kept whole turned
          (exchanged_under fs w o args tokens given whole hand kept)
          (record { variables = b.variables; found = there; leaves = refl }) in
          answer ∙ ap (λ (x : Exchanged). Ok x) along.leaves;
      alone = λ x e.
          let goes =
          starts-go-along unbounded m proved o has init args long tokens given hand apart perms kept blanks empty
          whole x
          e in
          along-brings fs v o args tokens given hand kept whole x
          (along-same fs w v o args tokens given hand kept whole turned x goes.along);
    }
