-- An exchange of terms whose dues hold succeeds: the stored objects are there, and nothing is known of what it binds.
use Rattle.std.proofs.Common.{◌≡◌, ℕ, ℤ, List, [], ◌∷◌, length, Ok, sym, ap, subst, ◌∙◌}
use Rattle.std.specs.List.{AllByRecursion}
use Rattle.sync_terms.specs.Trees.{Tree}
use Rattle.sync_terms.specs.Values.{Valuation, Holds, with_terms}
use Rattle.sync_machine.specs.declared.fields.Field.{Field}
use Rattle.sync_machine.specs.Machines.{ActTree, StepTree}
use Rattle.sync_machine.specs.Machines as acts
use Rattle.sync_exchange.specs.Exchange.{Exchanging, Exchanged, beginning}
use Rattle.sync_exchange.proofs.Rules.{regular}
use Rattle.sync_exchange.proofs.Beginning.{trust}
use Rattle.sync_exchange_laws.specs.Conditions.{valuation_at}
use Rattle.sync_exchange_laws.specs.Along.{left_under, AreThere, all_left, begun_under, ended}
use Rattle.sync_exchange_laws.specs.Succeeding.{IsBroughtUnder, AreBroughtUnder, values_bound, values_bound_at, SucceedsWith}
use Rattle.sync_exchange_laws.specs.Terms.{TermsUnderWay, dues_at, terms_left, all_terms_left, all_dues, HasTerms, ReadsSame, AllReadSame, ExchangesOfTermsSucceed}
use Rattle.sync_exchange_laws.proofs.Variables.{variables-found}
use Rattle.sync_exchange_laws.proofs.Returning.{learned}
use Rattle.sync_exchange_laws.proofs.Succeeding.{exchanges-succeed}
use Rattle.sync_exchange_laws.proofs.Substituting.{one-left, one-there, all-parts, same-left, same-there, all-same}

-- ---- what the dues say is brought

module _ (fs : List Field) (names : ℕ → Tree) (v : Valuation) where
  abbrev u : Valuation
  u = with_terms names v

  one-brought : (d : TermsUnderWay) (x : Exchanging) → HasTerms v d x → (a : ActTree)
      → AllByRecursion (Holds v) (dues_at names a d) → IsBroughtUnder u a x
  one-brought d x h (acts.Require form) dues = one-there fs names v d x h (acts.Require form) dues tt
  one-brought d x h (acts.Remove f p) dues = one-there fs names v d x h (acts.Remove f p) dues tt
  one-brought d x h (acts.Have f p) dues = one-there fs names v d x h (acts.Have f p) dues tt
  one-brought d x h (acts.Deposit f p) dues = one-there fs names v d x h (acts.Deposit f p) dues tt
  one-brought d x h (acts.Withdraw f p) dues = tt
  one-brought d x h (acts.Guard f p) dues = tt
  one-brought d x h (acts.Init f t) dues = tt
  one-brought d x h (acts.Assert form) dues = tt
  one-brought d x h (acts.Update f t) dues = tt
  one-brought d x h (acts.HaveVariable f) dues = tt
  one-brought d x h (acts.Add f p) dues = tt

  pub all-brought : (ss : List StepTree) (d : TermsUnderWay) (x : Exchanging) → HasTerms v d x
      → AllByRecursion (Holds v) (all_dues fs names ss d)
      → AreBroughtUnder fs u ss x × HasTerms v (all_terms_left fs names ss d) (all_left fs u ss x)
  all-brought [] d x h dues = (tt, h)
  all-brought (s ∷ ss) d x h dues =
      let parts = all-parts (Holds v) (dues_at names s.act d)
      (all_dues fs names ss (terms_left fs names s.act d)) dues in
      let rest =
      all-brought ss (terms_left fs names s.act d) (left_under fs u s.act x) (one-left fs names v d x h s.act)
      parts.1 in
      ((one-brought d x h s.act parts.0, rest.0), rest.1)

-- ---- under two valuations under which all that is read is the same

module _ (fs : List Field) (v w : Valuation) where
  brought-same : (x : Exchanging) (a : ActTree) → ReadsSame fs v w a → IsBroughtUnder v a x → IsBroughtUnder w a x
  brought-same x (acts.Require form) e there = same-there fs v w x (acts.Require form) e there
  brought-same x (acts.Remove f p) e there = same-there fs v w x (acts.Remove f p) e there
  brought-same x (acts.Have f p) e there = same-there fs v w x (acts.Have f p) e there
  brought-same x (acts.Deposit f p) e there = same-there fs v w x (acts.Deposit f p) e there
  brought-same x (acts.Withdraw f p) e there = tt
  brought-same x (acts.Guard f p) e there = tt
  brought-same x (acts.Init f t) e there = tt
  brought-same x (acts.Assert form) e there = tt
  brought-same x (acts.Update f t) e there = tt
  brought-same x (acts.HaveVariable f) e there = tt
  brought-same x (acts.Add f p) e there = tt

  pub all-brought-same : (ss : List StepTree) (x : Exchanging) → AllReadSame fs v w ss
      → AreBroughtUnder fs v ss x → AreBroughtUnder fs w ss x
  all-brought-same [] x reads there = tt
  all-brought-same (s ∷ ss) x reads there = (
    brought-same x s.act reads.0 there.0,
    subst (AreBroughtUnder fs w ss) (same-left fs v w x s.act reads.0)
        (all-brought-same ss (left_under fs v s.act x) reads.1 there.1),
  )

  turned : (a : ActTree) → ReadsSame fs v w a → ReadsSame fs w v a
  turned (acts.Require form) e = sym e
  turned (acts.Init f t) e = sym e
  turned (acts.Update f t) e = sym e
  turned (acts.Assert form) e = tt
  turned (acts.HaveVariable f) e = tt
  turned (acts.Add f p) e = (sym e.0, sym e.1)
  turned (acts.Remove f p) e = (sym e.0, sym e.1)
  turned (acts.Have f p) e = (sym e.0, sym e.1)
  turned (acts.Deposit f p) e = (sym e.0, sym e.1)
  turned (acts.Withdraw f p) e = (sym e.0, sym e.1)
  turned (acts.Guard f p) e = (sym e.0, sym e.1)

  pub all-turned : (ss : List StepTree) → AllReadSame fs v w ss → AllReadSame fs w v ss
  all-turned [] reads = tt
  all-turned (s ∷ ss) reads = (turned s.act reads.0, all-turned ss reads.1)

-- ---- the law

pub exchanges-of-terms-succeed : ExchangesOfTermsSucceed
exchanges-of-terms-succeed m proved o has other args long tokens given hand apart others kept sound s joined reached
    whole either begun first names v reads d h dues =
    let rules = regular m proved.symbols proved.named proved.strategies o has in
    let t = trust m.fields o s whole other rules.rules either in
    let start = beginning m.fields o args tokens given whole hand kept in
    let slots = λ (bound : List ℤ). variables-found m.fields o.steps (valuation_at m.fields s o args bound)
    (length m.fields) 0 start begun first
    (learned m o args tokens given hand others kept s whole joined sound other apart rules t begun first long bound) in
    let u = with_terms names v in
    let bound = values_bound m.fields o.steps begun in
    let w = valuation_at m.fields s o args bound in
    let before = begun_under m.fields (valuation_at m.fields s o args []) o args tokens given whole hand kept in
    let is : before ≡ begun = (slots []).1 in
    let same : values_bound_at m.fields s o args tokens given whole hand kept ≡ bound =
    ap (values_bound m.fields o.steps) is in
    let went = all-brought m.fields names v o.steps d begun h dues in
    let brought = all-brought-same m.fields u w o.steps begun reads went.0 in
    let e = subst (SucceedsWith m s o args tokens given hand kept whole) same
    (exchanges-succeed m proved o has other args long tokens given hand apart others kept sound s joined reached whole
    either (slots []).0
    (subst (λ (bs : List ℤ). AreBroughtUnder m.fields (valuation_at m.fields s o args bs) o.steps before) (sym same)
    (subst (AreBroughtUnder m.fields w o.steps) (sym is) brought))) in
    let along = e.along in
    let there = subst (AreThere m.fields w o.steps) (slots bound).1 along.found in
    let both = all-same m.fields w u o.steps begun (all-turned m.fields u w o.steps reads) there in
    let left : e.left ≡ ended (all_left m.fields u o.steps begun) =
    along.leaves ∙ ap (λ (b : Exchanging). ended (all_left m.fields w o.steps b)) (slots bound).1 ∙ ap ended both.1 in (
      both.0,
      e.answer ∙ ap (λ (x : Exchanged). Ok x) left,
      went.1,
      ap (λ (x : Exchanged). x.bound) (sym left) ∙ e.bound_as,
    )
