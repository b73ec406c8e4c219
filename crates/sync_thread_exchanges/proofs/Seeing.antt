-- What threads look at at an exchange is what its laws say.
use Rattle.std.proofs.Common.{◌≡◌, ℕ, zero, suc, ◌+◌, ◌<◌, ◌≤◌, ℤ, pos, Bool, true, false, ◌&&◌, List, [], ◌∷◌, ◌++◌, length, map, append-nil, slice_index_or, Option, Some, None, Ok, inl, inr, ◌⊎◌, refl, sym, ap, subst, ◌∙◌, arith, nat_eq, nat_lt, if◌then◌else◌}
use Rattle.std.specs.List.{AllByRecursion, range_with_len}
use Rattle.std.proofs.lemmas.Bool.{lt-ltb, ltb-false}
use Rattle.std.proofs.lemmas.List.{get_or_past, length-map}
use Rattle.std.proofs.lemmas.List.FromFn.{length-map-range_with_len}
use Rattle.sync_entries.specs.Narrow.{is_narrow}
use Rattle.sync_terms.specs.Trees.{Tree, Name}
use Rattle.sync_terms.specs.Maps as maps
use Rattle.sync_terms.specs.Values.{Valuation}
use Rattle.sync_machine.specs.declared.fields.Field.{Field}
use Rattle.sync_base.specs.declared.strategies.OpMode.{OpMode}
use Rattle.sync_base.specs.declared.strategies.OpMode.TheVariants as mode
use Rattle.sync_base.specs.declared.strategies.Strategy.{Strategy}
use Rattle.sync_base.specs.declared.strategies.Strategy.TheVariants.{Variable, Constant, NotTokenized, Option as OptionField, Map, Set, Multiset, Count, PersistentOption, PersistentMap, PersistentSet, PersistentCount, StorageMap}
use Rattle.sync_machine.specs.Machines.{OperationTree}
use Rattle.sync_machine.specs.Naming.{bound_names, is_in}
use Rattle.sync_machine.specs.Named.{own_names}
use Rattle.sync_machine.specs.States.{Value, Number, Mapped, State, sort_of, strategy_at, first_values, blank}
use Rattle.sync_rules.specs.Locality.{names_only}
use Rattle.sync_join.specs.declared.tokens.Token.{Token}
use Rattle.sync_join.specs.Shards.{Kept}
use Rattle.sync_join.specs.Join.{number_of, entries_of, value_at, join_of}
use Rattle.sync_join.proofs.States.{state-joined}
use Rattle.sync_exchange.specs.Exchange.{argument, tokens_in}
use Rattle.sync_exchange.proofs.Terms.{Same, and_left, and_right, and_both}
use Rattle.sync_exchange.proofs.Going.{is_known_by}
use Rattle.sync_exchange.proofs.Rules.{regular, are-lawful}
use Rattle.sync_exchange.proofs.Trusting.{all-reading}
use Rattle.sync_exchange.proofs.Whole.{state-length}
use Rattle.sync_exchange_laws.specs.Conditions.{valuation_at}
use Rattle.sync_exchange_laws.specs.Guards.{guarded}
use Rattle.sync_exchange_laws.specs.Widths.{IsWithin}
use Rattle.sync_exchange_laws.proofs.Testing.{argument-front}
use Rattle.sync_exchange_laws.proofs.Ending.{exchanges-meet-conditions}
use Rattle.sync_exchange_laws.proofs.Returning.{known-cases}
use Rattle.sync_exchange_laws.proofs.Starting.{starts-go-along}
use Rattle.sync_exchange_laws.proofs.Joining.{states-fit}
use Rattle.sync_thread_meaning.specs.Exchanges.{operation_names, number_or_map_fits, state_fits}
use Rattle.sync_thread_exchanges.specs.Safety.{first_key, NamesAgree, IsSeen, SightsAgree, ExchangesAreSeen, StartsAreSeen}
use Rattle.sync_thread_exchanges.specs.Widths.{FitsAgree, JoinedStatesFit}
use Rattle.sync_thread_exchanges.proofs.Names.{AreOnly}
use Rattle.sync_thread_exchanges.proofs.Sights.{are-asserting, all-alike}

-- ---- names

argument-longer : (ps qs : List ℕ) (ns : List ℤ) (x : ℕ) → length ns ≡ length ps
    → argument (ps ++ qs) (ns ++ []) x ≡ argument ps ns x
unfolding argument
argument-longer [] [] [] x long = refl
argument-longer [] (q ∷ qs) [] x long = refl
argument-longer [] qs (n ∷ ns) x long = absurd (omega (arith, long))
argument-longer (p ∷ ps) qs [] x long = absurd (omega (arith, long))
argument-longer (p ∷ ps) qs (n ∷ ns) x long =
    ap (λ (i : ℤ). if nat_eq x p then n else i) (argument-longer ps qs ns x (omega (arith, long)))

module _ (fs : List Field) (s : State) (o : OperationTree) (args : List ℤ) (short : length s ≤ length fs) where
  mapping-agrees : (bound : List ℤ) (x : ℕ)
      → (operation_names fs s o args).mapping x ≡ (valuation_at fs s o args bound).mapping x
  mapping-agrees bound x = cases (nat_lt x (length fs)) refl where
    cases : (b : Bool) → nat_lt x (length fs) ≡ b
        → (operation_names fs s o args).mapping x ≡ (valuation_at fs s o args bound).mapping x
    cases true e = rw e refl
    cases false e =
        let past : length s ≤ x = let out = ltb-false x (length fs) e in omega (arith, out, short) in
        rw e (ap entries_of (get_or_past s x (Number (pos 0)) past))

  -- fields and parameters, before a name is bound
  params-agree : (bound : List ℤ) → length args ≡ length o.params → (x : ℕ)
      → is_known_by fs (o.params ++ bound_names []) x ≡ true
      → (operation_names fs s o args).number x ≡ (valuation_at fs s o args bound).number x
  params-agree bound long x known = cases (nat_lt x (length fs)) refl where
    cases : (b : Bool) → nat_lt x (length fs) ≡ b
        → (operation_names fs s o args).number x ≡ (valuation_at fs s o args bound).number x
    cases true e = rw e refl
    cases false e =
        rw e (sym (argument-front o.params (bound_names o.steps) args bound x long
        (own (known-cases (nat_lt x (length fs)) (is_in x (o.params ++ [])) (sort_of (strategy_at fs x)) known)))) where
          own : (nat_lt x (length fs) ≡ true) ⊎ (is_in x (o.params ++ []) ≡ true) → is_in x o.params ≡ true
          own (inl field) = absurd (let not = sym field ∙ e in cc)
          own (inr name) = ap (is_in x) (sym (append-nil o.params)) ∙ name

pub names-agree : NamesAgree
names-agree fs s o args short long x = (
  ap (λ (i : ℤ). if nat_lt x (length fs) then number_of (slice_index_or s x (Number (pos 0))) else i)
      (sym (argument-longer o.params (bound_names o.steps) args x long)),
  mapping-agrees fs s o args short [] x,
)

-- ---- the fields' values before the first statement

module _ (q : ℕ → Bool) where
  blank-only : (s : Strategy) → names_only q (blank (sort_of s)) ≡ true
  unfolding sort_of names_only
  blank-only Variable = refl
  blank-only Constant = refl
  blank-only NotTokenized = refl
  blank-only Count = refl
  blank-only PersistentCount = refl
  blank-only OptionField = refl
  blank-only Map = refl
  blank-only Set = refl
  blank-only Multiset = refl
  blank-only PersistentOption = refl
  blank-only PersistentMap = refl
  blank-only PersistentSet = refl
  blank-only StorageMap = refl

  blanks-only : (fs : List Field) → AreOnly q (map (λ (f : Field). blank (sort_of f.strategy)) fs)
  blanks-only [] = tt
  blanks-only (f ∷ fs) = (blank-only f.strategy, blanks-only fs)

  names-only : (n k : ℕ) → ((x : ℕ) → x < k + n → q x ≡ true) → AreOnly q (map Name (range_with_len k n))
  unfolding names_only
  names-only zero k all = tt
  names-only (suc n) k all = (all k (omega arith), names-only n (k + 1) (λ x lt. all x (omega arith)))

  first-only : (fs : List Field) (m : OpMode) → ((x : ℕ) → x < length fs → q x ≡ true) → AreOnly q (first_values fs m)
  first-only fs mode.Init all = blanks-only fs
  first-only fs mode.Transition all = names-only (length fs) 0 (λ x lt. all x (omega arith))
  first-only fs mode.Property all = names-only (length fs) 0 (λ x lt. all x (omega arith))

field-known : (fs : List Field) (names : List ℕ) (x : ℕ) → x < length fs → is_known_by fs names x ≡ true
field-known fs names x lt = let e : nat_lt x (length fs) ≡ true = lt-ltb x (length fs) lt in rw e refl

-- ---- the laws

pub sights-agree : SightsAgree
sights-agree m texts named ruled o has args bound long s short holds =
    let fs = m.fields in
    let rules = regular m texts named ruled o has in
    let v = valuation_at fs s o args bound in
    let q : ℕ → Bool = is_known_by fs (o.params ++ bound_names []) in
    let same : Same q (operation_names fs s o args) v = record {
      number = λ x known. params-agree fs s o args short bound long x known;
      mapping = λ x known. mapping-agrees fs s o args short bound x;
    } in
    let alike =
    all-alike fs o.params v (λ x out. rw out refl) [] o.steps (first_values fs o.mode) (operation_names fs s o args)
    (are-lawful fs o.mode (λ x. true) o.params [] o.steps rules.few rules.rules rules.statements rules.texts.bound
    (all-reading o.steps))
    (are-asserting fs o.params [] o.steps rules.statements)
    (first-only q fs o.mode (λ x lt. field-known fs (o.params ++ bound_names []) x lt)) same holds in
    record { safety = alike.safety; guards = alike.guards }

pub exchanges-are-seen : ExchangesAreSeen
exchanges-are-seen fit m proved o has other args long tokens given hand names others kept sound s joined reached whole
    either x e =
    let meets =
    exchanges-meet-conditions fit m proved o has other args long tokens given hand names others kept sound s joined
    reached whole either x e in
    let seen =
    sights-agree m proved.symbols proved.named proved.strategies o has args x.bound long s
    (let many = state-length m.fields (tokens_in hand ++ others) kept s joined in omega (arith, many))
    meets.conditions in
    record { safety = seen.safety ∙ meets.safe; guards = seen.guards }

pub starts-are-seen : StartsAreSeen
starts-are-seen fit m proved o has init args long tokens given hand names perms kept blanks empty whole x e =
    let goes = starts-go-along fit m proved o has init args long tokens given hand names perms kept blanks empty
    whole x e in
    let seen =
    sights-agree m proved.symbols proved.named proved.strategies o has args [] long [] (omega arith) goes.conditions in
    record { safety = seen.safety ∙ goes.safe; guards = seen.guards }

-- ---- widths

one-fits : (w : Value) → (number_or_map_fits is_narrow w ≡ true → IsWithin w)
    × (IsWithin w → number_or_map_fits is_narrow w ≡ true)
one-fits (Number n) = (λ e. e, λ e. e)
one-fits (Mapped m) = (λ e. e, λ e. e)

pub fits-agree : FitsAgree
fits-agree [] = (λ e. tt, λ h. refl)
fits-agree (w ∷ ws) =
    let rest = fits-agree ws in
    let one = one-fits w in (
      λ e. (one.0 (and_left _ _ e), rest.0 (and_right (number_or_map_fits is_narrow w) _ e)),
      λ h. and_both _ _ (one.1 h.0) (rest.1 h.1),
    )

pub joined-states-fit : JoinedStatesFit
joined-states-fit fs bag kept sound within s joined =
    let fit = states-fit fs bag kept sound within s joined in
    let same = fits-agree s in
    (λ e. fit.0 (same.0 e), λ n. same.1 (fit.1 n))
