-- What each statement that was done found and left, under the valuation of the step.
use Rattle.std.proofs.Common.{◌≡◌, ℕ, ℤ, Bool, true, List, [], ◌∷◌, ◌++◌, length, map, Some, Ok, refl, sym, ap, subst, ◌∙◌}
use Rattle.std.specs.List.{AllByRecursion, range_with_len}
use Rattle.sync_terms.specs.Trees.{Tree, Name}
use Rattle.sync_terms.specs.Values.{Valuation, truth}
use Rattle.sync_machine.specs.declared.fields.Field.{Field}
use Rattle.sync_machine.specs.Machines.{PlaceTree, ActTree, StepTree, OperationTree}
use Rattle.sync_machine.specs.Machines as acts
use Rattle.sync_machine.specs.Naming.{bound_by}
use Rattle.sync_machine.specs.Statements.{binds, safety, field_of}
use Rattle.sync_machine.specs.States.{Value, sort_of, strategy_at, strategy_of, current_of, advanced, IsMet, State}
use Rattle.sync_rules.specs.Locality.{place_names_only}
use Rattle.sync_rules.specs.Shapes.{fits}
use Rattle.sync_join.specs.declared.tokens.Token.{Token}
use Rattle.sync_join.specs.Shards.{perm}
use Rattle.sync_exchange.specs.declared.hands.XStop.TheVariants.{Width, RequireFalse}
use Rattle.sync_exchange.specs.Exchange.{Exchanging, named, held_as, next_name, stored_at, withdrawn, permission, token_of, key_at, amount_at, is_asked, after_reading, after_taking, after_seeing, after_giving, binding, storing, raising, started, updated, variable_slots, beginning, does, Exchanged}
use Rattle.sync_exchange.specs.declared.hands.Held.{Held}
use Rattle.sync_join.specs.Shards.{Kept}
use Rattle.sync_exchange.proofs.Terms.{Same, truth-same, value-same}
use Rattle.sync_exchange.proofs.Passing.{unless-ok, ok_is, asked-token, asked-object}
use Rattle.sync_exchange.proofs.Lawful.{IsLawful, reads_only, place-key, place-asked, place-amount}
use Rattle.sync_exchange.proofs.OneStrategy.{nothing-bound}
use Rattle.sync_exchange.proofs.Standing.{binding-own}
use Rattle.sync_exchange.proofs.Going.{Walk}
use Rattle.sync_exchange_laws.specs.Conditions.{valuation_at}
use Rattle.sync_exchange_laws.specs.Along.{ExchangesGoAlong, key_under, value_under, IsThere, left_under, AreThere, all_left, AreVariablesThere, begun_under, ended, IsAlong, AssertHolds}
use Rattle.sync_exchange_laws.proofs.Variables.{token-is, variables-found}
use Rattle.sync_exchange_laws.proofs.Ending.{walked-at}

-- a held token is the one that the next slot names
pub named-is : (x : Exchanging) (t : Token) → held_as (next_name x.tokens) x.hand ≡ Some t → named x ≡ Ok t
named-is x t e = rw e refl

-- a statement whose terms have their values under a valuation, and whose bound name has behind it
pub record IsAgreed (fs : List Field) (v : Valuation) (q : ℕ → Bool) (x y : Exchanging) (a : ActTree) : Type 0 where
  pub same : Same q x.names v
  pub lawful : IsLawful fs q a
  pub bound : (z : ℕ) → bound_by a ≡ Some z → y.names.number z ≡ v.number z

module _ (fit : ℤ → Bool) (fs : List Field) (v : Valuation) (q : ℕ → Bool) (x y : Exchanging) where
  -- the value that a place asks for, where it is bound too
  asked-is : (a : ActTree) (p : PlaceTree) (n : ℤ) (z : Exchanging) → IsAgreed fs v q x y a
      → (place_names_only q p ≡ true)
      → is_asked p n x ≡ true → binding (binds p) n z ≡ y → ((w : ℕ) → binds p ≡ Some w → bound_by a ≡ Some w)
      → n ≡ value_under v p
  asked-is a p n z r reads is answer binds_it =
      place-asked q v p n x r.same reads is
      (λ w b. sym (binding-own (binds p) n z w b) ∙ ap (λ (u : Exchanging). u.names.number w) answer ∙ r.bound w (binds_it w b))

  pub goes-under : (line : ℕ) (a : ActTree) → IsAgreed fs v q x y a
      → does fit fs (record { act = a; line = line }) x ≡ Ok y → IsThere v a x × (left_under fs v a x ≡ y)
  unfolding does reads_only bound_by fits safety field_of
  goes-under line (acts.Require form) r e =
      let a = unless-ok Width _ _ y e in
      let b = unless-ok (RequireFalse line) (truth x.names form) (Ok x) y a.1 in
      (sym (truth-same q x.names v r.same form r.lawful.reads) ∙ b.0, ok_is x y b.1)
  goes-under line (acts.Assert form) r e = (tt, ok_is x y e)
  goes-under line (acts.HaveVariable f) r e = (tt, ok_is x y e)
  goes-under line (acts.Init f t) r e =
      let a = unless-ok Width _ _ y e in
      (tt, ap (λ (w : Value). started (strategy_at fs f) f w x) (sym (value-same q x.names v r.same (sort_of (strategy_at fs f)) t r.lawful.reads)) ∙ ok_is _ y a.1)
  goes-under line (acts.Update f t) r e =
      let a = unless-ok Width _ _ y e in
      (tt, ap (λ (w : Value). updated (strategy_at fs f) f w x) (sym (value-same q x.names v r.same (sort_of (strategy_at fs f)) t r.lawful.reads)) ∙ ok_is _ y a.1)
  goes-under line (acts.Remove f p) r e =
      let a = asked-token fit f p x (λ (t : Token). binding (binds p) t.value (after_taking x)) y e in
      let key = a.key ∙ place-key q v p x r.same r.lawful.reads in
      let value =
      asked-is (acts.Remove f p) p a.token.value (after_taking x) r r.lawful.reads a.value a.answer (λ w b. b) in (
        named-is x a.token a.held ∙ ap Ok (token-is a.token f (key_under v p) (value_under v p) a.field key value),
        ap (λ (n : ℤ). binding (binds p) n (after_taking x)) (sym value) ∙ a.answer,
      )
  goes-under line (acts.Have f p) r e =
      let a = asked-token fit f p x (λ (t : Token). binding (binds p) t.value (after_reading x)) y e in
      let key = a.key ∙ place-key q v p x r.same r.lawful.reads in
      let value =
      asked-is (acts.Have f p) p a.token.value (after_reading x) r r.lawful.reads a.value a.answer (λ w b. b) in (
        named-is x a.token a.held ∙ ap Ok (token-is a.token f (key_under v p) (value_under v p) a.field key value),
        ap (λ (n : ℤ). binding (binds p) n (after_reading x)) (sym value) ∙ a.answer,
      )
  goes-under line (acts.Add f p) r e =
      let a = unless-ok Width _ _ y e in
      let key = place-key q v p x r.same r.lawful.reads in
      let value = place-amount q v p x r.same r.lawful.reads (nothing-bound (strategy_at fs f) p r.lawful.fit) in (
        tt,
        ap (λ (k : ℤ). raising fs f k (value_under v p) (after_giving (token_of f k (value_under v p)) x)) (sym key)
            ∙ ap (λ (n : ℤ). raising fs f (key_at p x) n (after_giving (token_of f (key_at p x) n) x)) (sym value)
            ∙ ok_is _ y a.1,
      )
  goes-under line (acts.Deposit f p) r e =
      let z = storing (x.kept.stored ++ token_of f (key_at p x) (amount_at p x) ∷ []) (after_taking x) in
      let a = asked-token fit perm p x (λ (t : Token). z) y e in
      let none = nothing-bound (strategy_at fs f) p r.lawful.fit in
      let key = place-key q v p x r.same r.lawful.reads in
      let amount = place-amount q v p x r.same r.lawful.reads none in
      let value =
      place-asked q v p a.token.value x r.same r.lawful.reads a.value
      (λ w b. let c = sym b ∙ none in absurd (cc)) in (
        named-is x a.token a.held
            ∙ ap Ok (token-is a.token perm (key_under v p) (value_under v p) a.field (a.key ∙ key) value),
        ap (λ (k : ℤ). storing (x.kept.stored ++ token_of f k (value_under v p) ∷ []) (after_taking x)) (sym key)
            ∙ ap (λ (n : ℤ). storing (x.kept.stored ++ token_of f (key_at p x) n ∷ []) (after_taking x)) (sym amount)
            ∙ a.answer,
      )
  goes-under line (acts.Withdraw f p) r e =
      let left : ℤ → ℤ → Exchanging = λ k n. storing (withdrawn f k x.kept.stored) (after_giving (permission k n) x) in
      let a = asked-object fit f p x (λ (n : ℤ). binding (binds p) n (left (key_at p x) n)) y e in
      let key = place-key q v p x r.same r.lawful.reads in
      let value =
      asked-is (acts.Withdraw f p) p a.number (left (key_at p x) a.number) r r.lawful.reads a.value a.answer
      (λ w b. b) in (
        ap (λ (k : ℤ). stored_at f k x.kept.stored) (sym key) ∙ a.stored ∙ ap Some value,
        ap (λ (k : ℤ). binding (binds p) (value_under v p) (left k (value_under v p))) (sym key)
            ∙ ap (λ (n : ℤ). binding (binds p) n (left (key_at p x) n)) (sym value) ∙ a.answer,
      )
  goes-under line (acts.Guard f p) r e =
      let a = asked-object fit f p x (λ (n : ℤ). binding (binds p) n (after_seeing x)) y e in
      let key = place-key q v p x r.same r.lawful.reads in
      let value = asked-is (acts.Guard f p) p a.number (after_seeing x) r r.lawful.reads a.value a.answer (λ w b. b) in (
        ap (λ (k : ℤ). stored_at f k x.kept.stored) (sym key) ∙ a.stored ∙ ap Some value,
        ap (λ (n : ℤ). binding (binds p) n (after_seeing x)) (sym value) ∙ a.answer,
      )

-- an assert is true, since its safety condition is
assert-holds : (fs : List Field) (v : Valuation) (cur : List Tree) (a : ActTree)
    → IsMet v (safety (strategy_of fs a) (current_of cur a) a) → AssertHolds v a
unfolding safety
assert-holds fs v cur (acts.Assert form) h = h
assert-holds fs v cur (acts.Require form) h = tt
assert-holds fs v cur (acts.Init f t) h = tt
assert-holds fs v cur (acts.Update f t) h = tt
assert-holds fs v cur (acts.HaveVariable f) h = tt
assert-holds fs v cur (acts.Add f p) h = tt
assert-holds fs v cur (acts.Remove f p) h = tt
assert-holds fs v cur (acts.Have f p) h = tt
assert-holds fs v cur (acts.Deposit f p) h = tt
assert-holds fs v cur (acts.Withdraw f p) h = tt
assert-holds fs v cur (acts.Guard f p) h = tt

-- all that was found and left, under the valuation of the step
pub record WentUnder (fs : List Field) (v : Valuation) (ss : List StepTree) (x y : Exchanging) : Type 0 where
  pub there : AreThere fs v ss x
  pub leaves : all_left fs v ss x ≡ y
  pub asserts : AllByRecursion (λ (s : StepTree). AssertHolds v s.act) ss

pub all-along : (fit : ℤ → Bool) (fs : List Field) (v : Valuation) (others : List Token) (ss : List StepTree) (x y : Exchanging) (cur : List Tree)
    → Walk fit fs v others cur ss x y → WentUnder fs v ss x y
unfolding Walk
all-along fit fs v others [] x y cur w = record { there = tt; leaves = w.1; asserts = tt }
all-along fit fs v others (s ∷ ss) x y cur w =
    let r = w.1.ready in
    let one = goes-under fit fs v w.1.reads x w.0 s.line s.act (record { same = r.same; lawful = r.lawful; bound = r.bound }) w.1.did in
    let rest = all-along fit fs v others ss w.0 y (advanced fs cur s.act) w.2 in
    record {
      there = (one.0, subst (AreThere fs v ss) (sym one.1) rest.there);
      leaves = ap (all_left fs v ss) one.1 ∙ rest.leaves;
      asserts = (assert-holds fs v cur s.act w.1.ready.safe, rest.asserts);
    }

-- ---- whole exchanges

-- the slots of the variables and the statements together
pub went-along : (fs : List Field) (v : Valuation) (o : OperationTree) (args : List ℤ) (tokens given : List ℕ) (hand : List Held) (kept : Kept) (whole : State) (begun end : Exchanging) (x : Exchanged)
    → AreVariablesThere v (variable_slots fs o) (beginning fs o args tokens given whole hand kept)
    → begun_under fs v o args tokens given whole hand kept ≡ begun → WentUnder fs v o.steps begun end → x ≡ ended end
    → IsAlong fs v o args tokens given hand kept whole x
went-along fs v o args tokens given hand kept whole begun end x there is went leaves = record {
  variables = there;
  found = subst (AreThere fs v o.steps) (sym is) went.there;
  leaves = leaves ∙ ap ended (sym went.leaves) ∙ ap (λ (u : Exchanging). ended (all_left fs v o.steps u)) (sym is);
}

pub exchanges-go-along : ExchangesGoAlong
exchanges-go-along fit m proved o has other args long tokens given hand names others kept sound s joined reached whole
    either x e =
    let w =
    walked-at fit m proved o has other args long tokens given hand names others kept sound s joined reached whole
    either x e in
    let v = valuation_at m.fields s o args x.bound in
    let went =
    all-along fit m.fields v others o.steps w.begun w.end (map Name (range_with_len 0 (length m.fields))) w.walk in
    let slots = variables-found m.fields o.steps v (length m.fields) 0
    (beginning m.fields o args tokens given whole hand kept) w.begun w.first w.learns in
    record {
      before = w.before;
      named_as = w.named_as;
      asserts = went.asserts;
      along = went-along m.fields v o args tokens given hand kept whole w.begun w.end x slots.0 slots.1 went w.leaves;
    }
