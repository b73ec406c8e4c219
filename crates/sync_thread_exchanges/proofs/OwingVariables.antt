-- What typing owes for an exchange, its variables first, holds exactly where the dues of the exchange of terms do.
use Rattle.std.proofs.Common.{◌≡◌, ℕ, zero, suc, ◌+◌, ◌<◌, ◌≤◌, pos, Bool, true, false, List, [], ◌∷◌, ◌++◌, length, drop, filter_map, unwrap_or, append_assoc, append-nil, Option, Some, None, inl, inr, ◌⊎◌, refl, sym, ap, subst, ◌∙◌, arith, nat_eq, nat_lt}
use Rattle.std.specs.List.{AllByRecursion, cons_option, list_any, range_with_len}
use Rattle.std.proofs.lemmas.Bool.{eqb-true, eq-eqb, lt-ltb}
use Rattle.sync_terms.specs.Trees.{Tree, Name, Formula}
use Rattle.sync_terms.specs.Values.{Valuation, num, truth, Holds}
use Rattle.sync_machine.specs.declared.fields.Field.{Field}
use Rattle.sync_base.specs.declared.strategies.Strategy.{Strategy}
use Rattle.sync_base.specs.declared.strategies.Strategy.TheVariants.{Variable}
use Rattle.sync_machine.specs.Machines.{StepTree, OperationTree}
use Rattle.sync_machine.specs.Naming.{bound_names}
use Rattle.sync_machine.specs.Statements as statements
use Rattle.sync_machine.specs.States.{strategy_at}
use Rattle.sync_rules.specs.Locality.{is_variable}
use Rattle.sync_rules.specs.declared.slots.Role.{Role}
use Rattle.sync_rules.specs.declared.slots.Role.TheVariants.{Change, Read}
use Rattle.sync_rules.specs.Slots.{SlotTree, value_slot, read_slot, only_if, valued, needs, updated_to, given_by, changed_by, read_by, earliest, variable_slot, field_slot}
use Rattle.sync_join.specs.Shards.{has_keys, IsToken}
use Rattle.sync_exchange.specs.Exchange.{next_name, later_names, token_name, variable_slots}
use Rattle.sync_exchange.proofs.OneStrategy.{variable-only}
use Rattle.sync_exchange.proofs.Going.{is_known_by, AreLawful}
use Rattle.sync_exchange.proofs.Rules.{regular, are-lawful}
use Rattle.sync_exchange.proofs.Trusting.{all-reading}
use Rattle.sync_exchange.proofs.Beginning.{no-inits}
use Rattle.sync_exchange.proofs.Strategies.{some_is}
use Rattle.sync_exchange.proofs.Using.{HasNoInit, first-cases, earliest-some, field-slot, not-given, token-cases}
use Rattle.sync_exchange_laws.specs.Terms.{HeldTerms, TermsUnderWay, terms_as, is_token, all_dues}
use Rattle.sync_exchange_laws.specs.WholeTerms.{variable_dues, variable_terms_left, all_variable_dues, all_variable_terms_left, terms_at_first}
use Rattle.sync_exchange_laws.proofs.Substituting.{all-parts}
use Rattle.sync_exchange_laws.proofs.WholeTerms.{pair-holds, eq-holds}
use Rattle.sync_thread.specs.Arrays.{token_numbers}
use Rattle.sync_thread_machine.specs.MachineWithProgram.{MachineWithProgram, fields_of, decls_of}
use Rattle.sync_typing.specs.Symbols.{Names, named_by, paired}
use Rattle.sync_typing.specs.Dues.{Due}
use Rattle.sync_typing.specs.Environments.{Env, TokenTree, token}
use Rattle.sync_typing.specs.Exchanging.{Part, Slot, Requires, slot_part, token_dues, Deal, head_of, deal_slot, deal, args_of, constants_from, deal_of}
use Rattle.sync_thread_exchanges.specs.Deals.{as_terms, AreTokens, stands_for, IsPassed, DealsAskAlike}
use Rattle.sync_thread_exchanges.proofs.Owing.{first-name, Hold, Iff, IsAsked, is-asked, token-of-field}
use Rattle.sync_thread_exchanges.proofs.OwingStatements.{parts, stays-named, IsAlike, reads-alike, asked-there}
use Rattle.sync_thread_exchanges.proofs.OwingLists.{rest-on}

-- ---- what the slot of a variable is

valued-cases : (role : Role) (k line : ℕ) (o : Option Tree) (sl : SlotTree) (P : SlotTree → Type 0)
    → valued role k line o ≡ Some sl → ((u : Tree) → P (value_slot role k u line)) → P sl
valued-cases role k line None sl P e h = absurd (cc)
valued-cases role k line (Some u) sl P e h = subst P (some_is (value_slot role k u line) sl e) (h u)

read-cases : (b : Bool) (k line : ℕ) (sl : SlotTree) (P : SlotTree → Type 0)
    → only_if b (read_slot k line) ≡ Some sl → P (read_slot k line) → P sl
read-cases false k line sl P e h = absurd (cc)
read-cases true k line sl P e h = subst P (some_is (read_slot k line) sl e) h

variable-kind : (fs : List Field) (ss : List StepTree) (k : ℕ) (sl : SlotTree) (P : SlotTree → Type 0) → HasNoInit ss
    → field_slot fs ss k ≡ Some sl → ((u : Tree) (line : ℕ) → P (value_slot Change k u line))
    → ((line : ℕ) → P (read_slot k line)) → P sl
variable-kind fs ss k sl P none slot changes reads =
    first-cases (earliest (given_by k) ss) _ sl (P sl) (field-slot fs ss k sl slot).1
    (λ given. absurd (let no_init = not-given k ss none in let no = sym no_init ∙ given in cc))
    (λ not_given rest.
    first-cases (earliest (changed_by k) ss) _ sl (P sl) rest
    (λ changed.
    let s = earliest-some (changed_by k) ss sl changed in
    valued-cases Change k s.0.line (updated_to k s.0.act) sl P s.1 (λ u. changes u s.0.line))
    (λ not_changed read.
    let s = earliest-some (read_by fs k) ss sl read in
    read-cases (needs fs k s.0.act) k s.0.line sl P s.1 (reads s.0.line)))

-- ---- one variable

module _ (e : Env) (fs : List Field) (few : length fs ≤ 32) (v : Valuation) (names : ℕ → Tree)
    (tokens : AreTokens fs v e.hand) where
  abbrev Holding : List Formula → Type 0
  Holding = AllByRecursion (Holds v)

  abbrev Passing : List Due → Type 0
  Passing = AllByRecursion IsPassed

  -- what the slot does to the names
  record Names-behind (k : ℕ) (d : Deal) (sl : SlotTree) : Type 0 where
    called : (deal_slot e fs sl d).names ≡ (k, (token e (head_of d.tokens)).value) ∷ d.names

  slot-names : (k : ℕ) (d : Deal) (sl : SlotTree) (ss : List StepTree) → HasNoInit ss
      → is_variable (strategy_at fs k) ≡ true
      → field_slot fs ss k ≡ Some sl → Names-behind k d sl
  slot-names k d sl ss none var slot =
      variable-kind fs ss k sl (Names-behind k d) none slot (λ u line. record { called = rw var refl })
      (λ line. record { called = rw var refl })

  record GoesOnVariable (k : ℕ) (d : Deal) (t : TermsUnderWay) (ps : List Part) (sl : SlotTree) : Type 0 where
    asked : List ℕ
    alike : IsAlike e fs v names asked (deal_slot e fs sl d) (variable_terms_left sl t)
    passes : Passing (token_dues e asked ps (deal_slot e fs sl d).tokens)
    owes : Iff v (Hold v (deal_slot e fs sl d).dues) (Hold v d.dues)
    dues : Holding (variable_dues names sl t)

  module _ (k : ℕ) (d : Deal) (t : TermsUnderWay) (asked : List ℕ) (ps : List Part) (below : k < length fs)
      (var : is_variable (strategy_at fs k) ≡ true) (alike : IsAlike e fs v names asked d t)
      (value : names k ≡ (token e (head_of d.tokens)).value) where
    known-alike : (next : Deal) → next.tokens ≡ drop 1 d.tokens
        → IsAlike e fs v names (head_of d.tokens ∷ asked) next
        (record t { tokens = later_names t.tokens; variables = (k, next_name t.tokens) ∷ t.variables })
    known-alike next tokens_are =
        let h = reads-alike e fs v names asked d next t t.hand alike tokens_are (λ m other. refl) in
        let first : next_name t.tokens ≡ head_of d.tokens = ap next_name alike.tokens ∙ first-name d.tokens in
        record {
          tokens = h.tokens;
          hand = h.hand;
          variables = λ f name some.
              token-cases f k (next_name t.tokens) name t.variables
              (list_any (nat_eq name) (head_of d.tokens ∷ asked) ≡ true) some
              (λ same is. let own : nat_eq name (head_of d.tokens) ≡ true = eq-eqb name (head_of d.tokens)
              (sym is ∙ first) in rw own refl)
              (λ later. h.variables f name later);
        }

    no-keys : (s : Strategy) → is_variable s ≡ true → has_keys s ≡ false
    no-keys s is = ap has_keys (variable-only s is)

    variable-due : IsAsked e asked k (head_of d.tokens)
        → Holding (is_token k statements.zero (names k) (terms_as (next_name t.tokens) t.hand))
    unfolding truth
    variable-due asks =
        let there = asked-there e fs v names asked d t k alike asks in
        let own = token-of-field fs v k asks.tok few below asks.field (tokens (head_of d.tokens) asks.tok asks.held) in
        subst (λ o. Holding (is_token k statements.zero (names k) o)) (sym there) (
          eq-holds (pos k) (pos asks.tok.field) (ap pos asks.field),
          (
            eq-holds (num v asks.tok.key) (pos 0) (own.keys (no-keys (strategy_at fs k) var)),
            (
              eq-holds (num v asks.tok.value) (num v (names k))
                  (ap (num v) (sym (value ∙ ap (λ (u : TokenTree). u.value) asks.same))),
              tt,
            ),
          ),
        )

    changes-on : (u : Tree) (line : ℕ) → Passing (token_dues e asked (Slot (value_slot Change k u line) ∷ ps) d.tokens)
        → GoesOnVariable k d t ps (value_slot Change k u line)
    changes-on u line passes =
        let n = head_of d.tokens in
        let next = deal_slot e fs (value_slot Change k u line) d in
        let asks = is-asked e asked k n (token_dues e (n ∷ asked) ps (drop 1 d.tokens)) passes in
        let tokens_are : next.tokens ≡ drop 1 d.tokens = rw var refl in
        record {
          asked = n ∷ asked;
          alike = known-alike next tokens_are;
          passes = subst (λ (ns : List ℕ). Passing (token_dues e (n ∷ asked) ps ns)) (sym tokens_are) asks.1;
          owes = rw var ((λ h. h), (λ h. h));
          dues = variable-due asks.0;
        }

    reads-on : (line : ℕ) → Passing (token_dues e asked (Slot (read_slot k line) ∷ ps) d.tokens)
        → GoesOnVariable k d t ps (read_slot k line)
    reads-on line passes =
        let n = head_of d.tokens in
        let next = deal_slot e fs (read_slot k line) d in
        let asks = is-asked e asked k n (token_dues e (n ∷ asked) ps (drop 1 d.tokens)) passes in
        let tokens_are : next.tokens ≡ drop 1 d.tokens = rw var refl in
        let dues_are : next.dues ≡ d.dues = rw var (append-nil (d.dues ++ []) ∙ append-nil d.dues) in
        record {
          asked = n ∷ asked;
          alike = known-alike next tokens_are;
          passes = subst (λ (ns : List ℕ). Passing (token_dues e (n ∷ asked) ps ns)) (sym tokens_are) asks.1;
          owes = (λ h. subst (Hold v) dues_are h, λ h. subst (Hold v) (sym dues_are) h);
          dues = variable-due asks.0;
        }

    variable-on : (ss : List StepTree) (sl : SlotTree) → HasNoInit ss → field_slot fs ss k ≡ Some sl
        → Passing (token_dues e asked (Slot sl ∷ ps) d.tokens) → GoesOnVariable k d t ps sl
    variable-on ss sl none slot passes =
        variable-kind fs ss k sl
        (λ x. Passing (token_dues e asked (Slot x ∷ ps) d.tokens) → GoesOnVariable k d t ps x) none slot changes-on
        reads-on passes

  -- ---- all variables

  deal-append : (xs ys : List Part) (d : Deal) → deal e fs (xs ++ ys) d ≡ deal e fs ys (deal e fs xs d)
  deal-append [] ys d = refl
  deal-append (Slot x ∷ xs) ys d = deal-append xs ys (deal_slot e fs x d)
  deal-append (Requires form ∷ xs) ys d =
      deal-append xs ys _

  module _ (ss : List StepTree) (none : HasNoInit ss) where
    abbrev variable_parts : ℕ → ℕ → List Part
    variable_parts n k = filter_map (λ (f : ℕ). slot_part (field_slot fs ss f)) (range_with_len k n)

    abbrev slots : ℕ → ℕ → List SlotTree
    slots n k = filter_map (field_slot fs ss) (range_with_len k n)

    -- the slots of later variables leave a name of an earlier one
    later-slots : (n k z : ℕ) (d : Deal) → z < k
        → named_by (deal e fs (variable_parts n k) d).names z ≡ named_by d.names z
    later-slots zero k z d lt = refl
    later-slots (suc n) k z d lt =
        next (field_slot fs ss k) refl (λ (u : Deal). later-slots n (k + 1) z u (omega (arith, lt))) where
          next : (o : Option SlotTree) → field_slot fs ss k ≡ o
              → ((u : Deal) → named_by (deal e fs (variable_parts n (k + 1)) u).names z ≡ named_by u.names z)
              → named_by (deal e fs (cons_option (slot_part o) (variable_parts n (k + 1))) d).names z ≡ named_by
              d.names z
          next None slot rest = rest d
          next (Some sl) slot rest =
              let here = slot-names k d sl ss none (field-slot fs ss k sl slot).0 slot in
              let apart : nat_eq k z ≡ false = other (nat_eq k z) refl in
              rest (deal_slot e fs sl d) ∙ ap (λ (ns : Names). named_by ns z) here.called ∙ rw apart refl where
                other : (b : Bool) → nat_eq k z ≡ b → b ≡ false
                other true same = absurd (let is = eqb-true k z same in omega (arith, is, lt))
                other false same = refl

    module _ (params : List ℕ) (laws : AreLawful fs (λ z. true) params [] ss) (fin : Deal)
        (ends : (z : ℕ) → stands_for fin z ≡ names z) where
      field-known : (ps : List ℕ) (k : ℕ) → k < length fs → is_known_by fs ps k ≡ true
      field-known ps k lt = let e : nat_lt k (length fs) ≡ true = lt-ltb k (length fs) lt in rw e refl

      -- in the end a variable stands for the value of its token
      variable-value : (n k : ℕ) (d : Deal) (sl : SlotTree) → k < length fs → field_slot fs ss k ≡ Some sl
          → deal e fs (variable_parts n (k + 1) ++ parts e fs ss) (deal_slot e fs sl d) ≡ fin
          → names k ≡ (token e (head_of d.tokens)).value
      variable-value n k d sl lt slot is =
          let next = deal_slot e fs sl d in
          let vars = deal e fs (variable_parts n (k + 1)) next in
          let here = slot-names k d sl ss none (field-slot fs ss k sl slot).0 slot in
          let own : nat_eq k k ≡ true = eq-eqb k k refl in
          let first : named_by ((k, (token e (head_of d.tokens)).value) ∷ d.names) k ≡ Some
          (token e (head_of d.tokens)).value = rw own refl in
          let named_so : named_by fin.names k ≡ Some (token e (head_of d.tokens)).value =
          ap (λ (u : Deal). named_by u.names k) (sym is ∙ deal-append (variable_parts n (k + 1)) (parts e fs ss) next)
          ∙ stays-named e fs params [] ss laws none vars k (field-known (params ++ bound_names []) k lt)
          ∙ later-slots n (k + 1) k next (omega arith)
          ∙ ap (λ (ns : Names). named_by ns k) here.called ∙ first in
          sym (ends k) ∙ ap (λ (o : Option Tree). unwrap_or o (Name k)) named_so

      abbrev Asks : ℕ → ℕ → Deal → TermsUnderWay → Type 0
      Asks n k d t = Iff v (Hold v fin.dues)
          (Hold v d.dues × Holding
          (all_variable_dues names (slots n k) t ++ all_dues fs names ss (all_variable_terms_left (slots n k) t)))

      abbrev Later : ℕ → ℕ → Type 0
      Later n k = (asked : List ℕ) (d : Deal) (t : TermsUnderWay) → IsAlike e fs v names asked d t
          → Passing (token_dues e asked (variable_parts n k ++ parts e fs ss) d.tokens)
          → deal e fs (variable_parts n k ++ parts e fs ss) d ≡ fin → Asks n k d t

      variable-next : (n k : ℕ) (asked : List ℕ) (d : Deal) (t : TermsUnderWay) (o : Option SlotTree) → k < length fs
          → field_slot fs ss k ≡ o → IsAlike e fs v names asked d t
          → Passing (token_dues e asked (cons_option (slot_part o) (variable_parts n (k + 1)) ++ parts e fs ss)
          d.tokens)
          → deal e fs (cons_option (slot_part o) (variable_parts n (k + 1)) ++ parts e fs ss) d ≡ fin
          → Later n (k + 1)
          → Iff v (Hold v fin.dues)
          (Hold v d.dues × Holding
          (all_variable_dues names (cons_option o (slots n (k + 1))) t
          ++ all_dues fs names ss (all_variable_terms_left (cons_option o (slots n (k + 1))) t)))
      variable-next n k asked d t None lt slot alike passes is later = later asked d t alike passes is
      variable-next n k asked d t (Some sl) lt slot alike passes is later =
          let ps = variable_parts n (k + 1) ++ parts e fs ss in
          let next = deal_slot e fs sl d in
          let value = variable-value n k d sl lt slot is in
          let on = variable-on k d t asked ps lt (field-slot fs ss k sl slot).0 alike value ss sl none slot passes in
          let rest = later on.asked next (variable_terms_left sl t) on.alike on.passes is in
          let own = variable_dues names sl t in
          let others = all_variable_dues names (slots n (k + 1)) (variable_terms_left sl t) in
          let last = all_dues fs names ss (all_variable_terms_left (slots n (k + 1)) (variable_terms_left sl t)) in
          let order : (own ++ others) ++ last ≡ own ++ (others ++ last) = append_assoc own others last in (
            λ h.
                let r = rest.0 h in
                (on.owes.0 r.0, subst Holding (sym order) (pair-holds (Holds v) own (others ++ last) on.dues r.1)),
            λ h.
                let both = all-parts (Holds v) own (others ++ last) (subst Holding order h.1) in
                rest.1 (on.owes.1 h.0, both.1),
          )

      variables-on : (n k : ℕ) → k + n ≤ length fs → Later n k
      variables-on zero k le asked d t alike passes is =
          rest-on e fs few v names tokens params fin ends [] ss asked d t laws none alike passes is
      variables-on (suc n) k le asked d t alike passes is =
          variable-next n k asked d t (field_slot fs ss k) (omega arith) refl alike passes is
          (variables-on n (k + 1) (omega arith))

-- ---- the law

no-variables : (f name : ℕ) → token_name f [] ≡ Some name → ⊥
unfolding token_name
no-variables f name e = absurd (cc)

pub deals-ask-alike : DealsAskAlike
deals-ask-alike x texts named ruled o has other d e v hand hand_is tokens passes =
    let fs = fields_of x in
    let rules = regular x.machine texts named ruled o has in
    let fin = deal_of x o d e in
    let ns = token_numbers (decls_of x) d.tokens in
    let laws =
    are-lawful fs o.mode (λ z. true) o.params [] o.steps rules.few rules.rules rules.statements rules.texts.bound
    (all-reading o.steps) in
    let first : Deal = record {
      names = paired o.params (args_of e d) ++ constants_from e 0 fs;
      tokens = ns;
      given = d.given;
      dues = [];
      gone = [];
      new = [];
      guarded = None;
      fresh = e.fresh;
    } in
    let alike : IsAlike e fs v (stands_for fin) [] first (terms_at_first ns d.given hand) = record {
      tokens = refl;
      hand = λ m new. hand_is m;
      variables = λ f name some. absurd (no-variables f name some);
    } in
    let all =
    variables-on e fs rules.few v (stands_for fin) tokens o.steps (no-inits fs o.mode [] o.steps other rules.rules)
    o.params laws
    fin (λ z. refl) (length fs) 0 (omega arith) [] first (terms_at_first ns d.given hand) alike passes refl in
    (λ h. (all.0 h).1, λ dues. all.1 (tt, dues))
