-- An exchange on its way, whose tokens make with those of the others the values that the fields have so far.
use Rattle.std.proofs.Common.{◌≡◌, ℕ, ◌+◌, ◌<◌, ◌≤◌, ℤ, Bool, true, false, List, [], ◌∷◌, ◌++◌, length, append_assoc, Option, Some, None, refl, sym, ap, ◌∙◌, arith, nat_eq}
use Rattle.std.proofs.lemmas.Bool.{eqb-true, eq-eqb}
use Rattle.std.proofs.lemmas.List.{map-append}
use Rattle.sync_terms.specs.Trees.{Tree}
use Rattle.sync_terms.specs.Values.{Valuation}
use Rattle.sync_machine.specs.declared.fields.Field.{Field}
use Rattle.sync_machine.specs.Machines.{ActTree}
use Rattle.sync_machine.specs.Statements.{safety, condition, changed_by}
use Rattle.sync_machine.specs.States.{strategy_at, strategy_of, current_of, advanced, IsMet}
use Rattle.sync_machine.specs.Naming.{bound_by}
use Rattle.sync_rules.specs.Locality.{is_variable}
use Rattle.sync_join.specs.declared.tokens.Token.{Token}
use Rattle.sync_exchange.specs.declared.hands.Held.{Held}
use Rattle.sync_exchange.specs.Exchange.{Exchanging, held_as, without, revalued, tokens_in, token_name, next_name, later_names, binding}
use Rattle.sync_exchange.proofs.Terms.{Same}
use Rattle.sync_exchange.proofs.Tokens.{occurs, names_in, names_in-revalued, holds, holds-append, holds-without, under, held_as-more, held_as-without, held_as-revalued}
use Rattle.sync_exchange.proofs.Strategies.{some_is}
use Rattle.sync_exchange.proofs.Making.{Makes}
use Rattle.sync_exchange.proofs.Lawful.{IsLawful, gives}

abbrev pub bag_at : List Token → Exchanging → List Token
bag_at others x = tokens_in (x.hand ++ x.entered) ++ others

-- the names of variables are of tokens of theirs
abbrev pub AreNamed : List (ℕ × ℕ) → List Held → Type 0
AreNamed vars hs = (g name : ℕ) → token_name g vars ≡ Some name → (t : Token) × (held_as name hs ≡ Some t) × (t.field ≡ g)

-- and are of variables alone
abbrev pub AreVariables : List Field → List (ℕ × ℕ) → Type 0
AreVariables fs vars = (g name : ℕ) → token_name g vars ≡ Some name → (g < length fs) × (is_variable (strategy_at fs g) ≡ true)

pub record IsUnderWay (fs : List Field) (v : Valuation) (others : List Token) (x : Exchanging) (cur : List Tree) : Type 0 where
  pub makes : Makes fs v (bag_at others x) x.kept cur
  pub once : (name : ℕ) → holds name (x.hand ++ x.entered) + occurs name x.given ≤ 1
  pub named : AreNamed x.variables (x.hand ++ x.entered)
  pub fields : AreVariables fs x.variables

-- what is known when a statement is done
pub record IsReady (fs : List Field) (v : Valuation) (q : ℕ → Bool) (x y : Exchanging) (cur : List Tree) (a : ActTree) : Type 0 where
  pub same : Same q x.names v
  pub lawful : IsLawful fs q a
  pub safe : IsMet v (safety (strategy_of fs a) (current_of cur a) a)
  pub bound : (z : ℕ) → bound_by a ≡ Some z → y.names.number z ≡ v.number z
  pub enough : gives fs a ≤ length x.given
  pub used : (f : ℕ) → changed_by a ≡ Some f → is_variable (strategy_at fs f) ≡ true → (name : ℕ) × (token_name f x.variables ≡ Some name)

-- what is known behind it
pub record GoesAlong (fs : List Field) (v : Valuation) (others : List Token) (x y : Exchanging) (cur : List Tree) (a : ActTree) : Type 0 where
  pub met : IsMet v (condition (strategy_of fs a) (current_of cur a) a)
  pub stands : IsUnderWay fs v others y (advanced fs cur a)
  pub given : length y.given + gives fs a ≡ length x.given
  pub variables : y.variables ≡ x.variables

-- ---- names

pub few-held : (name : ℕ) (hs : List Held) (gs : List ℕ) → holds name hs + occurs name gs ≤ 1 → holds name hs ≤ 1
few-held name hs gs h = omega arith

pub once-without : (gone : ℕ) (hand entered : List Held) (gs : List ℕ) → ((name : ℕ) → holds name (hand ++ entered) + occurs name gs ≤ 1)
    → (name : ℕ) → holds name (without gone hand ++ entered) + occurs name gs ≤ 1
once-without gone hand entered gs h name =
    let a = holds-append name hand entered in
    let b = holds-append name (without gone hand) entered in
    let c = holds-without name gone hand in
    let d = h name in omega (arith, a, b, c, d)

pub once-revalued : (other : ℕ) (n : ℤ) (hand entered : List Held) (gs : List ℕ) → ((name : ℕ) → holds name (hand ++ entered) + occurs name gs ≤ 1)
    → (name : ℕ) → holds name (revalued other n hand ++ revalued other n entered) + occurs name gs ≤ 1
once-revalued other n hand entered gs h name =
    let a = holds-append name hand entered in
    let b = holds-append name (revalued other n hand) (revalued other n entered) in
    let c : holds name (revalued other n hand) ≡ holds name hand = ap (occurs name) (names_in-revalued other n hand) in
    let e : holds name (revalued other n entered) ≡ holds name entered = ap (occurs name) (names_in-revalued other n entered) in
    let d = h name in omega (arith, a, b, c, d, e)

one-more : (name : ℕ) (gs : List ℕ) (t : Token) → 1 ≤ length gs → occurs name (names_in (under (next_name gs) t ∷ [])) + occurs name (later_names gs) ≡ occurs name gs
unfolding occurs
one-more name [] t h = absurd (omega arith)
one-more name (g ∷ gs) t h = omega arith

pub once-given : (hand entered : List Held) (gs : List ℕ) (t : Token) → 1 ≤ length gs → ((name : ℕ) → holds name (hand ++ entered) + occurs name gs ≤ 1)
    → (name : ℕ) → holds name (hand ++ (entered ++ under (next_name gs) t ∷ [])) + occurs name (later_names gs) ≤ 1
once-given hand entered gs t some h name =
    let new = under (next_name gs) t ∷ [] in
    let a : holds name (hand ++ (entered ++ new)) ≡ holds name ((hand ++ entered) ++ new) = ap (λ hs. holds name hs) (sym (append_assoc hand entered new)) in
    let b = holds-append name (hand ++ entered) new in
    let c = one-more name gs t some in
    let d = h name in omega (arith, a, b, c, d)

pub later-length : (gs : List ℕ) → 1 ≤ length gs → length (later_names gs) + 1 ≡ length gs
later-length [] h = absurd (omega arith)
later-length (g ∷ gs) h = omega arith

-- ---- variables' tokens

-- a token of another field has another name
pub named-without : (vars : List (ℕ × ℕ)) (gone : ℕ) (t : Token) (hand entered : List Held) → held_as gone hand ≡ Some t
    → ((g name : ℕ) → token_name g vars ≡ Some name → t.field ≡ g → ⊥)
    → AreNamed vars (hand ++ entered) → AreNamed vars (without gone hand ++ entered)
named-without vars gone t hand entered held other named g name e =
    let n = named g name e in
    let u = n.0 in
    (u, cases (nat_eq name gone) refl n.1, n.2) where
      cases : (b : Bool) → nat_eq name gone ≡ b → held_as name (hand ++ entered) ≡ Some (named g name e).0 → held_as name (without gone hand ++ entered) ≡ Some (named g name e).0
      cases true is found =
          let here : held_as name (hand ++ entered) ≡ Some t = held_as-more name hand entered t (ap (λ m. held_as m hand) (eqb-true name gone is) ∙ held) in
          absurd (other g name e (ap (λ (u : Token). u.field) (some_is t _ (sym here ∙ found)) ∙ (named g name e).2))
      cases false is found = held_as-without name gone hand entered is ∙ found

pub named-given : (vars : List (ℕ × ℕ)) (hand entered : List Held) (h : Held) → AreNamed vars (hand ++ entered) → AreNamed vars (hand ++ (entered ++ h ∷ []))
named-given vars hand entered h named g name e =
    let n = named g name e in
    (n.0, ap (held_as name) (sym (append_assoc hand entered (h ∷ []))) ∙ held_as-more name (hand ++ entered) (h ∷ []) n.0 n.1, n.2)

pub named-revalued : (vars : List (ℕ × ℕ)) (other : ℕ) (n : ℤ) (hand entered : List Held) → AreNamed vars (hand ++ entered) → AreNamed vars (revalued other n hand ++ revalued other n entered)
named-revalued vars other n hand entered named g name e =
    let m = named g name e in
    let still = held_as-revalued name other n (hand ++ entered) m.0 m.1 in
    (still.0, ap (held_as name) (sym (map-append _ hand entered)) ∙ still.1, still.2 ∙ m.2)

-- ---- bound names

pub binding-stands : (fs : List Field) (v : Valuation) (others : List Token) (o : Option ℕ) (n : ℤ) (x : Exchanging) (cur : List Tree) → IsUnderWay fs v others x cur → IsUnderWay fs v others (binding o n x) cur
binding-stands fs v others None n x cur h = h
binding-stands fs v others (Some z) n x cur h = record { makes = h.makes; once = h.once; named = h.named; fields = h.fields }

pub binding-given : (o : Option ℕ) (n : ℤ) (x : Exchanging) → (binding o n x).given ≡ x.given
binding-given None n x = refl
binding-given (Some z) n x = refl

pub binding-variables : (o : Option ℕ) (n : ℤ) (x : Exchanging) → (binding o n x).variables ≡ x.variables
binding-variables None n x = refl
binding-variables (Some z) n x = refl

pub binding-own : (o : Option ℕ) (n : ℤ) (x : Exchanging) (z : ℕ) → o ≡ Some z → (binding o n x).names.number z ≡ n
binding-own None n x z e = absurd (cc)
binding-own (Some y) n x z e = rw (eq-eqb z y (sym (some_is y z e))) refl
