-- Valuations that stand for the same at each field and each name of an operation agree on all that it reads.
use Rattle.std.proofs.Common.{◌≡◌, ℕ, zero, suc, ◌+◌, ◌<◌, ◌≤◌, Bool, true, ◌&&◌, List, [], ◌∷◌, ◌++◌, length, filter_map, append_assoc, Option, Some, None, inl, inr, ◌⊎◌, refl, sym, ap, subst, ◌∙◌, arith, nat_lt}
use Rattle.std.specs.List.{AllByRecursion, cons_option, range_with_len}
use Rattle.std.proofs.lemmas.Bool.{ltb-true}
use Rattle.sync_terms.specs.Trees.{Tree}
use Rattle.sync_terms.specs.Values.{Valuation, num}
use Rattle.sync_machine.specs.declared.fields.Field.{Field}
use Rattle.sync_machine.specs.Machines.{PatternTree, Bind, Term, PlaceTree, ActTree, StepTree, OperationTree}
use Rattle.sync_machine.specs.Machines as acts
use Rattle.sync_machine.specs.Named.{own_names}
use Rattle.sync_machine.specs.Naming.{bound_by, bound_names, is_in}
use Rattle.sync_machine.specs.Statements.{or_zero, or_one, bound_in, key_of, value_of, binds}
use Rattle.sync_machine.specs.States.{sort_of, strategy_at}
use Rattle.sync_rules.specs.Locality.{key_names_only, pattern_names_only, place_names_only}
use Rattle.sync_rules.specs.Slots.{SlotTree, field_slot}
use Rattle.sync_exchange.specs.Exchange.{variable_slots}
use Rattle.sync_exchange.proofs.Terms.{Same, num-same, truth-same, value-same, and_left, and_right}
use Rattle.sync_exchange.proofs.Lawful.{IsLawful, reads_only}
use Rattle.sync_exchange.proofs.Going.{is_known_by, AreLawful, known-later, known-bound}
use Rattle.sync_exchange.proofs.Rules.{regular, are-lawful}
use Rattle.sync_exchange.proofs.Trusting.{all-reading}
use Rattle.sync_exchange_laws.specs.Along.{key_under, value_under}
use Rattle.sync_exchange_laws.specs.Terms.{ReadsSame, AllReadSame}
use Rattle.sync_exchange_laws.specs.Agreeing.{StandsForSame, IsSlotSame, ValuationsAgree}
use Rattle.sync_exchange_laws.proofs.Variables.{slot-field}
use Rattle.sync_exchange_laws.proofs.Returning.{known-cases}

-- ---- one statement

module _ (q : ℕ → Bool) (v w : Valuation) (same : Same q v w) where
  key-cases : (o : Option Tree) → key_names_only q o ≡ true → num v (or_zero o) ≡ num w (or_zero o)
  key-cases None reads = refl
  key-cases (Some t) reads = num-same q v w same t reads

  value-cases : (o : Option PatternTree) → pattern_names_only q o ≡ true
      → ((z : ℕ) → bound_in o ≡ Some z → v.number z ≡ w.number z) → num v (or_one o) ≡ num w (or_one o)
  value-cases None reads bound = refl
  value-cases (Some (Bind z)) reads bound = bound z refl
  value-cases (Some (Term t)) reads bound = num-same q v w same t reads

  place-same : (p : PlaceTree) → place_names_only q p ≡ true → ((z : ℕ) → binds p ≡ Some z → v.number z ≡ w.number z)
      → (key_under v p ≡ key_under w p) × (value_under v p ≡ value_under w p)
  place-same p reads bound = (
    key-cases p.key (and_left _ _ reads),
    value-cases p.value (and_right (key_names_only q p.key) _ reads) bound,
  )

  reads-same : (fs : List Field) (a : ActTree) → reads_only q a ≡ true
      → ((z : ℕ) → bound_by a ≡ Some z → v.number z ≡ w.number z) → ReadsSame fs v w a
  unfolding reads_only bound_by
  reads-same fs (acts.Require form) reads bound = truth-same q v w same form reads
  reads-same fs (acts.Init f t) reads bound = value-same q v w same (sort_of (strategy_at fs f)) t reads
  reads-same fs (acts.Update f t) reads bound = value-same q v w same (sort_of (strategy_at fs f)) t reads
  reads-same fs (acts.Assert form) reads bound = tt
  reads-same fs (acts.HaveVariable f) reads bound = tt
  reads-same fs (acts.Add f p) reads bound = place-same p reads bound
  reads-same fs (acts.Remove f p) reads bound = place-same p reads bound
  reads-same fs (acts.Have f p) reads bound = place-same p reads bound
  reads-same fs (acts.Deposit f p) reads bound = place-same p reads bound
  reads-same fs (acts.Withdraw f p) reads bound = place-same p reads bound
  reads-same fs (acts.Guard f p) reads bound = place-same p reads bound

-- ---- all statements, and the slots of variables

module _ (fs : List Field) (o : OperationTree) (v w : Valuation)
    (fields : (f : ℕ) → f < length fs → StandsForSame v w f)
    (names : (x : ℕ) → is_in x (own_names o) ≡ true → StandsForSame v w x) where
  known-same : (z : ℕ) → is_known_by fs (own_names o) z ≡ true → StandsForSame v w z
  known-same z known =
      cases (known-cases (nat_lt z (length fs)) (is_in z (own_names o)) (sort_of (strategy_at fs z)) known) where
        cases : (nat_lt z (length fs) ≡ true) ⊎ (is_in z (own_names o) ≡ true) → StandsForSame v w z
        cases (inl e) = fields z (ltb-true z (length fs) e)
        cases (inr e) = names z e

  all-read-same : (before ss : List StepTree) → before ++ ss ≡ o.steps → AreLawful fs (λ z. true) o.params before ss
      → AllReadSame fs v w ss
  all-read-same before [] split laws = tt
  all-read-same before (s ∷ ss) split laws =
      let at : (z : ℕ) → is_known_by fs (o.params ++ bound_names (before ++ s ∷ ss)) z ≡ true → StandsForSame v w z =
      λ z known.
      known-same z (subst (λ (ts : List StepTree). is_known_by fs (o.params ++ bound_names ts) z ≡ true) split known) in
      let next : (before ++ s ∷ []) ++ ss ≡ before ++ s ∷ ss = append_assoc before (s ∷ []) ss in
      let same : Same (λ z. true && is_known_by fs (o.params ++ bound_names before) z) v w = record {
        number = λ z e. (at z (known-later fs o.params before (s ∷ ss) z e)).0;
        mapping = λ z e. (at z (known-later fs o.params before (s ∷ ss) z e)).1;
      } in
      let bound : (z : ℕ) → bound_by s.act ≡ Some z → v.number z ≡ w.number z =
      λ z b.
      (at z
      (subst (λ (ts : List StepTree). is_known_by fs (o.params ++ bound_names ts) z ≡ true) next
      (known-later fs o.params (before ++ s ∷ []) ss z (known-bound fs o.params before s z b)))).0 in (
        reads-same (λ z. true && is_known_by fs (o.params ++ bound_names before) z) v w same fs s.act laws.0.reads
            bound,
        all-read-same (before ++ s ∷ []) ss (next ∙ split) laws.2,
      )

  slot-next : (k : ℕ) (rest : List SlotTree) (slot : Option SlotTree) → k < length fs → field_slot fs o.steps k ≡ slot
      → AllByRecursion (IsSlotSame v w) rest → AllByRecursion (IsSlotSame v w) (cons_option slot rest)
  slot-next k rest None lt is later = later
  slot-next k rest (Some s) lt is later =
      (λ taken. subst (λ f. v.number f ≡ w.number f) (sym (slot-field fs o.steps k s is)) (fields k lt).0, later)

  slots-same : (n k : ℕ) → k + n ≤ length fs
      → AllByRecursion (IsSlotSame v w) (filter_map (field_slot fs o.steps) (range_with_len k n))
  slots-same zero k le = tt
  slots-same (suc n) k le =
      slot-next k (filter_map (field_slot fs o.steps) (range_with_len (k + 1) n)) (field_slot fs o.steps k)
      (omega arith) refl
      (slots-same n (k + 1) (omega arith))

pub valuations-agree : ValuationsAgree
valuations-agree m texts named ruled o has v w fields names =
    let rules = regular m texts named ruled o has in
    record {
      variables = slots-same m.fields o v w fields names (length m.fields) 0 (omega arith);
      statements = all-read-same m.fields o v w fields names [] o.steps refl
          (are-lawful m.fields o.mode (λ z. true) o.params [] o.steps rules.few rules.rules rules.statements
          rules.texts.bound (all-reading o.steps));
    }
