-- What the parts of an exchange under way stand for.
use Rattle.std.specs.Prelude.{◌≡◌, ℕ, ℤ, pos, Bool, true, false, List, [], ◌∷◌, ◌++◌, length, map, drop, slice_index_or, slice_set, nat_lt, nat_eq, if◌then◌else◌, Option, Some, None, Result, OnOk, filter_map}
use Rattle.std.specs.List.{range_with_len}
use Rattle.std.specs.Ordering.{int_eq}
use Rattle.sync_base.specs.Outcome.{first, ◌>>=◌}
use Rattle.sync_base.specs.declared.stops.NoMemory.{NoMemory}
use Rattle.sync_terms.specs.declared.nodes.Sym.{Sym}
use Rattle.sync_terms.specs.Maps as maps
use Rattle.sync_terms.specs.Trees.{Tree, Formula}
use Rattle.sync_terms.specs.Values.{Valuation, num, mapped, truth, with_value}
use Rattle.sync_machine.specs.declared.fields.Field.{Field}
use Rattle.sync_base.specs.declared.strategies.Strategy.{Strategy}
use Rattle.sync_machine.specs.States.{Value, Number, Mapped, State, Sort, Numbers, Maps, strategy_at}
use Rattle.sync_machine.specs.Machines.{PatternTree, Bind, Term, PlaceTree, ActTree, StepTree}
use Rattle.sync_machine.specs.Statements.{one, or_one}
use Rattle.sync_machine.specs.Views.{symbols_of}
use Rattle.sync_entries.specs.Narrow.{is_narrow}
use Rattle.sync_exchange_values.specs.Fitting.{number_fits, map_fits, form_fits}
use Rattle.sync_join.specs.declared.tokens.Token.{Token}
use Rattle.sync_join.specs.Shards.{Kept}
use Rattle.sync_join.specs.Join.{entries_of, number_of}
use Rattle.sync_join.specs.Views.{value_tree}
use Rattle.sync_rules.specs.Slots.{SlotTree, field_slot}
use Rattle.sync_exchange.specs.declared.hands.Held.{Held}
use Rattle.sync_exchange.specs.declared.changes.Change.{Change}
use Rattle.sync_exchange.specs.declared.changes.Change.TheVariants as change
use Rattle.sync_exchange.specs.declared.changes.Recording.{Recording}
use Rattle.sync_exchange.specs.declared.scopes.Known.{Known}
use Rattle.sync_exchange.specs.declared.scopes.Outer.{Outer}
use Rattle.sync_exchange.specs.declared.works.Named.{Named}
use Rattle.sync_exchange.specs.declared.works.Work.{Work}
use Rattle.sync_exchange.specs.declared.works.Finished.{Finished}
use Rattle.sync_exchange.specs.declared.cases.Asked.{Asked}
use Rattle.sync_exchange.specs.declared.cases.Case.{Case}
use Rattle.sync_exchange.specs.declared.evaluation.Found.{Found}
use Rattle.sync_exchange.specs.declared.hands.XStop.{XStop}
use Rattle.sync_join.specs.declared.values.Value.{Value as StoredValue}
use Rattle.sync_exchange.specs.Exchange.{Exchanging, Exchanged, Answer, seen, argument, key_at, amount_at, place_fits, value_fits, new_value, asked_token, asked_object, recording, storing, withdrawn, started, updated, use_variables, does, does_all}
use Rattle.sync_exchange.specs.Outcomes.{Gives, Leaves, Measures}

-- ---- records

abbrev pub changed : Change → Value → Value
changed (change.Number n) recorded = Number n
changed (change.Map m) recorded = Mapped m
changed (change.Put k n) recorded = Mapped (maps.put (entries_of recorded) k n)

abbrev pub value_in_list : List Value → ℕ → Value
value_in_list vs f = slice_index_or vs f (Number (pos 0))

abbrev pub changed_at : Recording → List Value → List Value
changed_at r vs = slice_set vs r.field (changed r.change (value_in_list vs r.field))

-- the records after changes, one after another
abbrev pub recorded : List Recording → List Value → List Value
recorded [] vs = vs
recorded (r ∷ rs) vs = recorded rs (changed_at r vs)

-- a list of which some elements have been replaced
abbrev pub laid_over : {A : Type 0} → List (Option A) → List A → List A
laid_over ns [] = []
laid_over [] (v ∷ vs) = v ∷ vs
laid_over (None ∷ ns) (v ∷ vs) = v ∷ laid_over ns vs
laid_over (Some w ∷ ns) (v ∷ vs) = w ∷ laid_over ns vs

-- ---- hands

-- a token, with another value where it has this name
abbrev pub revalued_as : ℕ → ℤ → Held → Held
revalued_as name n h = if nat_eq name h.name then record h { token = record h.token { value = n } } else h

-- ---- what symbols stand for

abbrev pub outer_value : Outer → ℕ → Value
outer_value o x =
    seen (strategy_at o.fields.now x) (record { records = map value_tree o.records.now; stored = o.stored.now }) (map value_tree o.whole.now) x

abbrev pub outer_number : Outer → ℕ → ℤ
outer_number o x = if nat_lt x (length o.fields.now) then number_of (outer_value o x) else argument (symbols_of o.params.now) o.args.now x

abbrev pub outer_meaning : Outer → Valuation
outer_meaning o = record { number = outer_number o; mapping = λ x. entries_of (outer_value o x) }

-- symbols that have come to stand for numbers, the later ones before the earlier
abbrev pub known_over : List Known → Valuation → Valuation
known_over [] v = v
known_over (k ∷ ks) v = known_over ks (with_value k.symbol k.number maps.nil v)

-- the number that a symbol has come to stand for last
abbrev pub last_known : ℕ → List Known → Option ℤ
last_known x [] = None
last_known x (k ∷ ks) = first (last_known x ks) (if nat_eq x k.symbol then Some k.number else None)

-- ---- an exchange under way

-- what it stands on
pub record Base : Type 0 where
  pub names : Valuation
  pub tokens : List ℕ
  pub given : List ℕ
  pub records : List Value

abbrev pub base_of : Case → Base
base_of c = record { names = outer_meaning c.outer; tokens = c.tokens.now; given = c.given.now; records = map value_tree c.outer.records.now }

-- the variables with the names of their tokens, the last one first
abbrev pub variables_of : List Named → List (ℕ × ℕ)
variables_of [] = []
variables_of (v ∷ vs) = variables_of vs ++ (v.field, v.name) ∷ []

abbrev pub under_way : Base → Work → Exchanging
under_way b w = record {
  names = known_over w.known b.names;
  slot = w.slot;
  tokens = drop w.tokens b.tokens;
  given = drop w.given b.given;
  variables = variables_of w.variables;
  hand = w.hand;
  entered = w.entered;
  kept = record { records = recorded w.changes b.records; stored = w.stored };
  bound = w.bound;
}

abbrev pub now_of : Case → Work → Exchanging
now_of c w = under_way (base_of c) w

-- ---- places

abbrev pub is_numbers : Sort → Bool
is_numbers Numbers = true
is_numbers Maps = false

abbrev pub amount_fits : (ℤ → Bool) → Valuation → Option PatternTree → Bool
amount_fits fits v (Some (Bind y)) = true
amount_fits fits v (Some (Term t)) = number_fits fits v t
amount_fits fits v None = number_fits fits v one

abbrev pub is_wanted : Option PatternTree → ℤ → ℤ → Bool
is_wanted (Some (Bind y)) wanted n = true
is_wanted (Some (Term t)) wanted n = int_eq wanted n
is_wanted None wanted n = int_eq wanted n

-- ---- the end

abbrev pub finished : List StoredValue → Finished → Exchanged
finished vs x = record { hand = x.hand; kept = record { records = map value_tree (laid_over x.records vs); stored = x.stored }; bound = x.bound }

abbrev pub goes_through : (ℤ → Bool) → List Field → List SlotTree → List StepTree → Exchanging → Answer
goes_through fits fs slots steps x = use_variables slots x >>= does_all fits fs steps

-- what symbols stand for before the first slot, from plain lists
abbrev pub meaning_of : List Field → List Sym → List ℤ → List StoredValue → List Token → List StoredValue → Valuation
meaning_of fs ps args rs stored whole = record {
  number = λ x. if nat_lt x (length fs) then number_of (value x) else argument (symbols_of ps) args x;
  mapping = λ x. entries_of (value x);
} where
  value : ℕ → Value
  value x = seen (strategy_at fs x) (record { records = map value_tree rs; stored = stored }) (map value_tree whole) x

-- ---- what the parts of the code say

-- behind a statement the work is as the definition has it, or it stopped as the definition stops
abbrev pub ActsAt : {A : Type 0} → Result A XStop → Case → StepTree → Work → Work → Type 0
ActsAt result c step old new = Leaves result (now_of c new) (does is_narrow c.outer.fields.now step (now_of c old))

-- so it is of what a statement does, at whatever line
abbrev pub ActsAs : {A : Type 0} → Result A XStop → Case → ActTree → Work → Work → Type 0
ActsAs result c act old new = (line : ℕ) → ActsAt result c (record { act = act; line = line }) old new

-- the number, the map and the truth that the symbols make of a term or a formula here
abbrev pub MeasuresNumber : Result ℤ XStop → Case → Work → Tree → Type 0
MeasuresNumber result c w t = Measures (λ (n : ℤ). n) result (number_fits is_narrow (now_of c w).names t) (num (now_of c w).names t)

abbrev pub MeasuresMap : Result maps.Map XStop → Case → Work → Tree → Type 0
MeasuresMap result c w t = Measures (λ (m : maps.Map). m) result (map_fits is_narrow (now_of c w).names t) (mapped (now_of c w).names t)

abbrev pub MeasuresTruth : Result Bool XStop → Case → Work → Formula → Type 0
MeasuresTruth result c w f = Measures (λ (b : Bool). b) result (form_fits is_narrow (now_of c w).names f) (truth (now_of c w).names f)

-- the value that a term gives a field
abbrev pub MeasuresValue : Result StoredValue XStop → Case → Work → ℕ → Tree → Type 0
MeasuresValue result c w f t =
    Measures value_tree result (value_fits is_narrow c.outer.fields.now f t (now_of c w)) (new_value c.outer.fields.now f t (now_of c w))

-- the value or the amount that a place asks for
abbrev pub MeasuresAmount : Result ℤ XStop → Case → Work → Option PatternTree → Type 0
MeasuresAmount result c w p =
    Measures (λ (n : ℤ). n) result (amount_fits is_narrow (now_of c w).names p) (num (now_of c w).names (or_one p))

-- the key and the value that a place asks for
abbrev pub asked_at : Case → Work → PlaceTree → Asked
asked_at c w p = record { key = key_at p (now_of c w); value = amount_at p (now_of c w) }

abbrev pub MeasuresAsked : Result Asked XStop → Case → Work → PlaceTree → Type 0
MeasuresAsked result c w p = Measures (λ (a : Asked). a) result (place_fits is_narrow p (now_of c w)) (asked_at c w p)

-- the token or the object that a place asks for
abbrev pub FindsToken : Result Found XStop → Case → Work → ℕ → PlaceTree → Type 0
FindsToken result c w f p = (next : ℤ → Exchanging)
    → Gives (λ (m : Found). next m.token.value) result (asked_token is_narrow f p (now_of c w) (λ (t : Token). next t.value))

abbrev pub FindsObject : Result Found XStop → Case → Work → ℕ → PlaceTree → Type 0
FindsObject result c w f p = (next : ℤ → Exchanging)
    → Gives (λ (m : Found). next m.token.value) result (asked_object is_narrow f p (now_of c w) next)

-- before the first slot
abbrev pub fresh : List Held → List Token → Work
fresh hand stored = record {
  known = [];
  slot = 0;
  tokens = 0;
  given = 0;
  variables = [];
  hand = hand;
  entered = [];
  changes = [];
  stored = stored;
  bound = [];
}

-- the slots of variables and then the statements, from here on
abbrev pub goes_on : Case → List StepTree → Work → Answer
goes_on c steps w =
    goes_through is_narrow c.outer.fields.now (filter_map (field_slot c.m.now.fields steps) (range_with_len 0 (length c.m.now.fields))) steps (now_of c w)

-- what is left of these records and the work
abbrev pub left_by : Work → List StoredValue → Exchanged
left_by w vs = record {
  hand = w.hand ++ w.entered;
  kept = record { records = recorded w.changes (map value_tree vs); stored = w.stored };
  bound = w.bound;
}

-- a field has its first value, and a new one
abbrev pub StartsAs : {A : Type 0} → Result A NoMemory → Case → ℕ → StoredValue → Work → Work → Type 0
StartsAs result c f v old new = OnOk result (now_of c new ≡ started (strategy_at c.outer.fields.now f) f (value_tree v) (now_of c old))

abbrev pub ChangesAs : {A : Type 0} → Result A NoMemory → Case → ℕ → StoredValue → Work → Work → Type 0
ChangesAs result c f v old new = OnOk result (now_of c new ≡ updated (strategy_at c.outer.fields.now f) f (value_tree v) (now_of c old))

-- the slots of variables and the statements are as the definition has them, or it stopped as the definition stops
abbrev pub UsesAs : {A : Type 0} → Result A XStop → Case → List SlotTree → Work → Work → Type 0
UsesAs result c slots old new = Leaves result (now_of c new) (use_variables slots (now_of c old))

abbrev pub ActsAll : {A : Type 0} → Result A XStop → Case → List StepTree → Work → Work → Type 0
ActsAll result c steps old new = Leaves result (now_of c new) (does_all is_narrow c.outer.fields.now steps (now_of c old))

-- a field has another record; the object at a key is no longer stored
abbrev pub RecordsAs : {A : Type 0} → Result A NoMemory → Base → ℕ → Change → Work → Work → Type 0
RecordsAs result b f change old new =
    OnOk result (under_way b new ≡ recording f (changed change (value_in_list (under_way b old).kept.records f)) (under_way b old))

abbrev pub WithdrawsAs : {A : Type 0} → Result A NoMemory → Base → ℕ → ℤ → Work → Work → Type 0
WithdrawsAs result b f k old new = OnOk result (under_way b new ≡ storing (withdrawn f k (under_way b old).kept.stored) (under_way b old))
