-- What the symbols of a word's clauses stand for: the same for the environment as for the word.
use Rattle.std.specs.Prelude.{◌≡◌, ℕ, ℤ, pos, ◌/◌, ◌%◌, ◌-◌, ◌<◌, ◌≤◌, Bool, true, false, ◌||◌, if◌then◌else◌, nat_eq, nat_lt, List, [], ◌∷◌, ◌++◌, length, map, Some, None, is_some, unwrap_or, ◌⊎◌}
use Rattle.std.specs.List.{list_all}
use Rattle.std.proofs.Common.{inl, inr, arith}
use Rattle.std.proofs.lemmas.Bool.{ltb-true, lt-ltb, le-ltb, eqb-true, eq-eqb, or_cases, and_parts, cond-true, cond-false, false_from_ne_true}
use Rattle.std.proofs.lemmas.Bool.Decides.{eqb_tells}
use Rattle.std.proofs.lemmas.List.{length-map}
use Rattle.sync_base.specs.Outcome.{first}
use Rattle.sync_base.specs.declared.strategies.Strategy.{Strategy}
use Rattle.sync_base.specs.declared.strategies.Strategy.TheVariants.{Constant}
use Rattle.sync_terms.specs.Symbols.{name_symbol}
use Rattle.sync_terms.specs.Trees.{Tree, Name, Formula, replaced, replaced_in}
use Rattle.sync_terms.specs.Values.{Valuation, num, truth}
use Rattle.sync_machine.specs.Naming.{number_fault, formula_fault, is_in}
use Rattle.sync_machine.specs.States.{Numbers, Maps, strategy_at}
use Rattle.sync_rules.specs.Locality.{names_only, form_names_only}
use Rattle.sync_join.specs.Join.{record_at, number_of}
use Rattle.sync_exchange.proofs.Terms.{number-known, formula-known}
use Rattle.sync_thread.specs.Programs.{WordTree}
use Rattle.sync_thread_machine.specs.MachineWithProgram.{MachineWithProgram, fields_of}
use Rattle.sync_thread_machine.specs.ProgramSymbols.{symbols, value_symbol, index_symbol}
use Rattle.sync_thread_meaning.specs.Meaning.{World}
use Rattle.sync_thread_meaning.specs.Shares.{WordAt, word_sight, given_to, symbol_value, is_seen}
use Rattle.sync_typing.specs.Blocks.{in_word}
use Rattle.sync_typing.specs.Environments.{Env, stands, held_value, token_named}
use Rattle.sync_typing.specs.Names.{number_if, is_constant_field, known_in_word}
use Rattle.sync_typing.specs.Symbols.{paired, named_by}
use Rattle.sync_typing.specs.Typing.{is_constant}
use Rattle.sync_typing_laws.proofs.BlocksTerms.{read_num, read_truth, replaced_names, replaced_form_names, names_more, form_names_more}
use Rattle.sync_typing_laws.specs.Rests.{HasConstants}
use mathlib.Core.Path.{refl, sym, ap, subst, ◌∙◌}

-- ---- what a word's terms may name

pub no_maps : (b : Bool) → number_if b ≡ Some Maps → ⊥
no_maps true e = absurd (cc)
no_maps false e = absurd (cc)

pub is_number_if : (b : Bool) → is_some (number_if b) ≡ true → b ≡ true
is_number_if true e = refl
is_number_if false e = absurd (cc)

pub number_if_some : (b : Bool) → number_if b ≡ Some Numbers → b ≡ true
number_if_some true e = refl
number_if_some false e = absurd (cc)

pub symbol_among : (y : ℕ) (names : List ℕ) → is_in y (symbols names) ≡ true → (n : ℕ) × (y ≡ name_symbol n)
symbol_among y [] e = absurd (cc)
symbol_among y (m ∷ ms) e = elim (or_cases (nat_eq y (name_symbol m)) (is_in y (symbols ms)) e) [
  | inl here ↦ (m, eqb-true y (name_symbol m) here)
  | inr there ↦ symbol_among y ms there
]

-- A symbol that a word's clauses may name is a constant's, `value`, `index` or that of one of its names.
pub word_cases : (x : MachineWithProgram) (w : WordTree) (y : ℕ) → is_some (known_in_word x w y) ≡ true
    → (is_constant_field x y ≡ true) ⊎ ((y ≡ 32) ⊎ ((y ≡ 33) ⊎ ((n : ℕ) × (y ≡ name_symbol n))))
word_cases x w y e = elim (or_cases (is_constant_field x y) (is_in y (value_symbol ∷ index_symbol ∷ symbols w.names)) (is_number_if (is_constant_field x y || is_in y (value_symbol ∷ index_symbol ∷ symbols w.names)) e)) [
  | inl c ↦ inl c
  | inr i ↦ elim (or_cases (nat_eq y 32) (nat_eq y 33 || is_in y (symbols w.names)) i) [
    | inl a ↦ inr (inl (eqb-true y 32 a))
    | inr j ↦ elim (or_cases (nat_eq y 33) (is_in y (symbols w.names)) j) [
      | inl b ↦ inr (inr (inl (eqb-true y 33 b)))
      | inr k ↦ inr (inr (inr (symbol_among y w.names k)))
    ]
  ]
]

-- ---- none of them is `held` of a token

symbol_no_held : (n : ℕ) → nat_eq ((name_symbol n - 64) % 4) 2 ≡ false
symbol_no_held n = false_from_ne_true (nat_eq ((name_symbol n - 64) % 4) 2) (λ e. let f : (name_symbol n - 64) % 4 ≡ 2 = eqb-true ((name_symbol n - 64) % 4) 2 e in omega (arith))

symbol_number : (n : ℕ) → (name_symbol n - 64) / 4 ≡ n
symbol_number n = omega (arith)

symbol_high : (n : ℕ) → nat_lt (name_symbol n) 64 ≡ false
symbol_high n = le-ltb (name_symbol n) 64 (omega (arith))

seen_symbol : (n : ℕ) → is_seen [] (name_symbol n) ≡ true
seen_symbol n = let a = symbol_high n in let b = symbol_no_held n in rw (a, b) refl

seen_low : (y : ℕ) → y < 64 → is_seen [] y ≡ true
seen_low y l = let a = lt-ltb y 64 l in rw (a) refl

pub constant_low : (x : MachineWithProgram) → length (fields_of x) ≤ 32 → (y : ℕ) → is_constant_field x y ≡ true → y < length (fields_of x)
constant_low x few y e = ltb-true y (length (fields_of x)) (and_parts (nat_lt y (length (fields_of x))) (is_constant (strategy_at (fields_of x) y)) e).0

pub seen_in_word : (x : MachineWithProgram) → length (fields_of x) ≤ 32 → (w : WordTree) (y : ℕ) → is_some (known_in_word x w y) ≡ true → is_seen [] y ≡ true
seen_in_word x few w y e = elim (word_cases x w y e) [
  | inl c ↦ let l = constant_low x few y c in seen_low y (omega (arith))
  | inr (inl a) ↦ seen_low y (omega (arith))
  | inr (inr (inl b)) ↦ seen_low y (omega (arith))
  | inr (inr (inr k)) ↦ subst (λ z. is_seen [] z ≡ true) (sym k.1) (seen_symbol k.0)
]

-- ---- what each stands for

is_constant_is : (s : Strategy) → is_constant s ≡ true → s ≡ Constant
is_constant_is s e = grind (arith)

pub symbol_eq : (m n : ℕ) (b : Bool) → nat_eq m n ≡ b → nat_eq (name_symbol m) (name_symbol n) ≡ b
symbol_eq m n true e = eq-eqb (name_symbol m) (name_symbol n) (ap name_symbol (eqb-true m n e))
symbol_eq m n false e = false_from_ne_true (nat_eq (name_symbol m) (name_symbol n)) (λ f. let g : name_symbol m ≡ name_symbol n = eqb-true (name_symbol m) (name_symbol n) f in let h : m ≡ n = omega (arith) in let i = eq-eqb m n h in absurd (cc))

eq_turned : (m n : ℕ) → nat_eq m n ≡ nat_eq n m
eq_turned m n = elim (eqb_tells m n) [
  | inl y ↦ y.0 ∙ sym (eq-eqb n m (sym y.1))
  | inr f ↦ f.0 ∙ sym (false_from_ne_true (nat_eq n m) (λ e. f.1 (sym (eqb-true n m e))))
]

-- a name of a word stands for its value
pub paired_value : (v : Valuation) (names : List ℕ) (withs : List Tree) (more : List (ℕ × Tree)) (other : Tree) (n : ℕ) → length names ≡ length withs → is_in (name_symbol n) (symbols names) ≡ true
    → num v (unwrap_or (named_by (paired (symbols names) withs ++ more) (name_symbol n)) other) ≡ unwrap_or (given_to names (map (num v) withs) n) (pos 0)
paired_value v [] withs more other n len e = absurd (cc)
paired_value v (m ∷ ms) [] more other n len e = absurd (cc)
paired_value v (m ∷ ms) (t ∷ ts) more other n len e = tested (nat_eq m n) refl (paired_value v ms ts more other n (omega (arith))) where
  tested : (b : Bool) → nat_eq m n ≡ b → (is_in (name_symbol n) (symbols ms) ≡ true → num v (unwrap_or (named_by (paired (symbols ms) ts ++ more) (name_symbol n)) other) ≡ unwrap_or (given_to ms (map (num v) ts) n) (pos 0)) → num v (unwrap_or (named_by (paired (symbols (m ∷ ms)) (t ∷ ts) ++ more) (name_symbol n)) other) ≡ unwrap_or (given_to (m ∷ ms) (map (num v) (t ∷ ts)) n) (pos 0)
  tested true is later = let a = symbol_eq m n true is in let b = sym (eq_turned m n) ∙ is in rw (a, b) refl
  tested false is later = let a = symbol_eq m n false is in let b = sym (eq_turned m n) ∙ is in
      let c : nat_eq (name_symbol n) (name_symbol m) ≡ false = eq_turned (name_symbol n) (name_symbol m) ∙ a in
      let d : is_in (name_symbol n) (symbols ms) ≡ true = elim (or_cases (nat_eq (name_symbol n) (name_symbol m)) (is_in (name_symbol n) (symbols ms)) e) [ inl h ↦ absurd (cc) | inr h ↦ h ] in
      rw (a, b) (later d)

-- a symbol that is none of these names is looked for behind them
pub paired_other : (names : List ℕ) (withs : List Tree) (more : List (ℕ × Tree)) (y : ℕ) → is_in y (symbols names) ≡ false → named_by (paired (symbols names) withs ++ more) y ≡ named_by more y
paired_other [] withs more y e = refl
paired_other (m ∷ ms) [] more y e = refl
paired_other (m ∷ ms) (t ∷ ts) more y e = tested (nat_eq (name_symbol m) y) refl (paired_other ms ts more y) where
  tested : (b : Bool) → nat_eq (name_symbol m) y ≡ b → (is_in y (symbols ms) ≡ false → named_by (paired (symbols ms) ts ++ more) y ≡ named_by more y) → named_by (paired (symbols (m ∷ ms)) (t ∷ ts) ++ more) y ≡ named_by more y
  tested true is later = let a : nat_eq y (name_symbol m) ≡ true = eq_turned y (name_symbol m) ∙ is in let b : (nat_eq y (name_symbol m) || is_in y (symbols ms)) ≡ false = e in absurd (grind (arith))
  tested false is later = let a : nat_eq y (name_symbol m) ≡ false = eq_turned y (name_symbol m) ∙ is in
      let b : is_in y (symbols ms) ≡ false = sym (ap (λ c. c || is_in y (symbols ms)) a) ∙ e in rw (is) (later b)

low_among : (y : ℕ) (names : List ℕ) → y < 64 → is_in y (symbols names) ≡ false
low_among y names l = false_from_ne_true (is_in y (symbols names)) (λ e. let k = symbol_among y names e in let f : y ≡ name_symbol k.0 = k.1 in omega (arith))

named_otherwise : (e : Env) (w : WordTree) (index value : Tree) (withs : List Tree) (y : ℕ) → y < 32 → in_word e w index value withs y ≡ stands e y
named_otherwise e w index value withs y l =
    let a = paired_other w.names withs ((value_symbol, value) ∷ (index_symbol, index) ∷ []) y (low_among y w.names (omega (arith))) in
    let b : nat_eq 32 y ≡ false = false_from_ne_true (nat_eq 32 y) (λ f. let g = eqb-true 32 y f in omega (arith)) in
    let c : nat_eq 33 y ≡ false = false_from_ne_true (nat_eq 33 y) (λ f. let g = eqb-true 33 y f in omega (arith)) in
    ap (λ o. unwrap_or o (stands e y)) a ∙ ap (λ z. unwrap_or (if z then Some value else (if nat_eq 33 y then Some index else None)) (stands e y)) b
    ∙ ap (λ z. unwrap_or (if z then Some index else None) (stands e y)) c

stands_at : (e : Env) (y : ℕ) (t : Tree) → e.terms y ≡ Some t → stands e y ≡ t
stands_at e y t is = ap (λ o. unwrap_or (first o (held_value e.hand (token_named y))) (Name y)) is

-- what a constant, `value`, `index` and a name of the word stand for, in the environment as in the word
module _ (x : MachineWithProgram) (few : length (fields_of x) ≤ 32) (v : Valuation) (e : Env) (s : World) (constants : HasConstants x v e s) (p : WordAt) (index value : Tree) (withs : List Tree) (at : ℤ)
    (is_index : num v index ≡ pos p.index) (is_value : num v value ≡ at) (many : length p.word.names ≡ length withs) where
  numbers : ℕ → ℤ
  numbers y = symbol_value (fields_of x) s.shares.kept (at ∷ pos p.index ∷ []) (λ n. unwrap_or (given_to p.word.names (map (num v) withs) n) (pos 0)) [] y

  constant_is : (y : ℕ) → is_constant_field x y ≡ true → num v (in_word e p.word index value withs y) ≡ numbers y
  unfolding numbers
  constant_is y c =
      let parts = and_parts (nat_lt y (length (fields_of x))) (is_constant (strategy_at (fields_of x) y)) c in
      let l : y < length (fields_of x) = ltb-true y (length (fields_of x)) parts.0 in
      let k = constants y l (is_constant_is (strategy_at (fields_of x) y) parts.1) in
      ap (num v) (named_otherwise e p.word index value withs y (omega (arith)) ∙ stands_at e y k.0 k.1) ∙ k.2
      ∙ sym (cond-true (nat_lt y (length (fields_of x))) (number_of (record_at s.shares.kept y)) _ parts.0)

  value_is : num v (in_word e p.word index value withs 32) ≡ numbers 32
  unfolding numbers
  value_is =
      let a = paired_other p.word.names withs ((value_symbol, value) ∷ (index_symbol, index) ∷ []) 32 (low_among 32 p.word.names (omega (arith))) in
      let b : nat_lt 32 (length (fields_of x)) ≡ false = le-ltb 32 (length (fields_of x)) few in
      ap (λ o. num v (unwrap_or o (stands e 32))) a ∙ is_value ∙ sym (cond-false (nat_lt 32 (length (fields_of x))) (number_of (record_at s.shares.kept 32)) at b)

  index_is : num v (in_word e p.word index value withs 33) ≡ numbers 33
  unfolding numbers
  index_is =
      let a = paired_other p.word.names withs ((value_symbol, value) ∷ (index_symbol, index) ∷ []) 33 (low_among 33 p.word.names (omega (arith))) in
      let b : nat_lt 33 (length (fields_of x)) ≡ false = le-ltb 33 (length (fields_of x)) (omega (arith)) in
      ap (λ o. num v (unwrap_or o (stands e 33))) a ∙ is_index ∙ sym (cond-false (nat_lt 33 (length (fields_of x))) (number_of (record_at s.shares.kept 33)) (pos p.index) b)

  name_is : (n : ℕ) → is_in (name_symbol n) (symbols p.word.names) ≡ true → num v (in_word e p.word index value withs (name_symbol n)) ≡ numbers (name_symbol n)
  unfolding numbers
  name_is n i =
      let a = paired_value v p.word.names withs ((value_symbol, value) ∷ (index_symbol, index) ∷ []) (stands e (name_symbol n)) n many i in
      let b : nat_lt (name_symbol n) (length (fields_of x)) ≡ false = le-ltb (name_symbol n) (length (fields_of x)) (omega (arith)) in
      let c = symbol_high n in
      let d = symbol_no_held n in
      let f = symbol_number n in
      a ∙ (let named : ℕ → ℤ = λ n. unwrap_or (given_to p.word.names (map (num v) withs) n) (pos 0) in sym (rw (b, c, d, f) refl))

  pub in_word_is : (y : ℕ) → is_some (known_in_word x p.word y) ≡ true → num v (in_word e p.word index value withs y) ≡ (word_sight (fields_of x) s.shares.kept p at (map (num v) withs)).valuation.number y
  unfolding numbers
  in_word_is y known = elim (or_cases (is_constant_field x y) (is_in y (value_symbol ∷ index_symbol ∷ symbols p.word.names)) (is_number_if (is_constant_field x y || is_in y (value_symbol ∷ index_symbol ∷ symbols p.word.names)) known)) [
    | inl c ↦ constant_is y c
    | inr i ↦ elim (or_cases (nat_eq y 32) (nat_eq y 33 || is_in y (symbols p.word.names)) i) [
      | inl a ↦ subst (λ z. num v (in_word e p.word index value withs z) ≡ numbers z) (sym (eqb-true y 32 a)) value_is
      | inr j ↦ elim (or_cases (nat_eq y 33) (is_in y (symbols p.word.names)) j) [
        | inl b ↦ subst (λ z. num v (in_word e p.word index value withs z) ≡ numbers z) (sym (eqb-true y 33 b)) index_is
        | inr k ↦ let n = symbol_among y p.word.names k in subst (λ z. num v (in_word e p.word index value withs z) ≡ numbers z) (sym n.1) (name_is n.0 (subst (λ z. is_in z (symbols p.word.names) ≡ true) n.1 k))
      ]
    ]
  ]

  known_is : (y : ℕ) → known_in_word x p.word y ≡ Some Numbers → num v (in_word e p.word index value withs y) ≡ (word_sight (fields_of x) s.shares.kept p at (map (num v) withs)).valuation.number y
  known_is y k = in_word_is y (ap is_some k)

  pub term_is : (t : Tree) → number_fault (known_in_word x p.word) t ≡ None → num v (replaced (in_word e p.word index value withs) t) ≡ num (word_sight (fields_of x) s.shares.kept p at (map (num v) withs)).valuation t
  term_is t e' = read_num (known_in_word x p.word) (λ y. no_maps (is_constant_field x y || is_in y (value_symbol ∷ index_symbol ∷ symbols p.word.names))) (in_word e p.word index value withs) v
      (word_sight (fields_of x) s.shares.kept p at (map (num v) withs)).valuation known_is t e'

  pub form_is : (f : Formula) → formula_fault (known_in_word x p.word) f ≡ None → truth v (replaced_in (in_word e p.word index value withs) f) ≡ truth (word_sight (fields_of x) s.shares.kept p at (map (num v) withs)).valuation f
  form_is f e' = read_truth (known_in_word x p.word) (λ y. no_maps (is_constant_field x y || is_in y (value_symbol ∷ index_symbol ∷ symbols p.word.names))) (in_word e p.word index value withs) v
      (word_sight (fields_of x) s.shares.kept p at (map (num v) withs)).valuation known_is f e'

-- a word's terms and formulas look at no token
pub term_seen : (x : MachineWithProgram) → length (fields_of x) ≤ 32 → (w : WordTree) (t : Tree) → number_fault (known_in_word x w) t ≡ None → names_only (is_seen []) t ≡ true
term_seen x few w t e = names_more (λ y. is_some (known_in_word x w y)) (is_seen []) (seen_in_word x few w) t (number-known (known_in_word x w) t e)

pub form_seen : (x : MachineWithProgram) → length (fields_of x) ≤ 32 → (w : WordTree) (f : Formula) → formula_fault (known_in_word x w) f ≡ None → form_names_only (is_seen []) f ≡ true
form_seen x few w f e = form_names_more (λ y. is_some (known_in_word x w y)) (is_seen []) (seen_in_word x few w) f (formula-known (known_in_word x w) f e)

-- what they name once the word's symbols are replaced
pub term_names : (p : ℕ → Bool) (x : MachineWithProgram) (w : WordTree) (s : ℕ → Tree) → ((y : ℕ) → is_some (known_in_word x w y) ≡ true → names_only p (s y) ≡ true) → (t : Tree) → number_fault (known_in_word x w) t ≡ None → names_only p (replaced s t) ≡ true
term_names p x w s only t e = replaced_names (λ y. is_some (known_in_word x w y)) p s only t (number-known (known_in_word x w) t e)

pub form_names : (p : ℕ → Bool) (x : MachineWithProgram) (w : WordTree) (s : ℕ → Tree) → ((y : ℕ) → is_some (known_in_word x w y) ≡ true → names_only p (s y) ≡ true) → (f : Formula) → formula_fault (known_in_word x w) f ≡ None → form_names_only p (replaced_in s f) ≡ true
form_names p x w s only f e = replaced_form_names (λ y. is_some (known_in_word x w y)) p s only f (formula-known (known_in_word x w) f e)

-- ---- what they name

found_scoped : (p : ℕ → Bool) (names : List ℕ) (withs : List Tree) (more : List (ℕ × Tree)) (y : ℕ) (other : Tree) → list_all (names_only p) withs ≡ true → (named_by (paired names withs ++ more) y ≡ named_by more y → names_only p (unwrap_or (named_by more y) other) ≡ true)
    → names_only p (unwrap_or (named_by (paired names withs ++ more) y) other) ≡ true
found_scoped p [] withs more y other all rest = rest refl
found_scoped p (m ∷ ms) [] more y other all rest = rest refl
found_scoped p (m ∷ ms) (t ∷ ts) more y other all rest = tested (nat_eq m y) refl (found_scoped p ms ts more y other (and_parts (names_only p t) (list_all (names_only p) ts) all).1) where
  tested : (b : Bool) → nat_eq m y ≡ b → ((named_by (paired ms ts ++ more) y ≡ named_by more y → names_only p (unwrap_or (named_by more y) other) ≡ true) → names_only p (unwrap_or (named_by (paired ms ts ++ more) y) other) ≡ true)
      → names_only p (unwrap_or (if b then Some t else named_by (paired ms ts ++ more) y) other) ≡ true
  tested true is later = (and_parts (names_only p t) (list_all (names_only p) ts) all).0
  tested false is later = later (λ e. rest (ap (λ (z : Bool). if z then Some t else named_by (paired ms ts ++ more) y) is ∙ e))

found_named : (p : ℕ → Bool) (names : List ℕ) (withs : List Tree) (more : List (ℕ × Tree)) (y : ℕ) (other : Tree) → length names ≡ length withs → list_all (names_only p) withs ≡ true → is_in y names ≡ true → names_only p (unwrap_or (named_by (paired names withs ++ more) y) other) ≡ true
found_named p [] withs more y other len all e = absurd (cc)
found_named p (m ∷ ms) [] more y other len all e = absurd (cc)
found_named p (m ∷ ms) (t ∷ ts) more y other len all e = tested (nat_eq m y) refl (found_named p ms ts more y other (omega (arith)) (and_parts (names_only p t) (list_all (names_only p) ts) all).1) where
  tested : (b : Bool) → nat_eq m y ≡ b → (is_in y ms ≡ true → names_only p (unwrap_or (named_by (paired ms ts ++ more) y) other) ≡ true) → names_only p (unwrap_or (if b then Some t else named_by (paired ms ts ++ more) y) other) ≡ true
  tested true is later = (and_parts (names_only p t) (list_all (names_only p) ts) all).0
  tested false is later = let a : nat_eq y m ≡ false = eq_turned y m ∙ is in later (sym (ap (λ z. z || is_in y ms) a) ∙ e)

pub in_word_scoped : (p : ℕ → Bool) (x : MachineWithProgram) (w : WordTree) (e : Env) (index value : Tree) (withs : List Tree) → length w.names ≡ length withs → list_all (names_only p) withs ≡ true → names_only p value ≡ true → names_only p index ≡ true
    → ((y : ℕ) → is_constant_field x y ≡ true → names_only p (stands e y) ≡ true) → (y : ℕ) → is_some (known_in_word x w y) ≡ true → names_only p (in_word e w index value withs y) ≡ true
in_word_scoped p x w e index value withs len all v i constants y known = found_scoped p (symbols w.names) withs ((value_symbol, value) ∷ (index_symbol, index) ∷ []) y (stands e y) all
    (λ unfound. elim (or_cases (is_constant_field x y) (is_in y (value_symbol ∷ index_symbol ∷ symbols w.names)) (is_number_if (is_constant_field x y || is_in y (value_symbol ∷ index_symbol ∷ symbols w.names)) known)) [
      | inl c ↦ value_or (nat_eq 32 y) (nat_eq 33 y) (constants y c)
      | inr j ↦ elim (or_cases (nat_eq y 32) (nat_eq y 33 || is_in y (symbols w.names)) j) [
        | inl a ↦ let b : nat_eq 32 y ≡ true = eq_turned 32 y ∙ a in subst (λ (z : Bool). names_only p (unwrap_or (if z then Some value else (if nat_eq 33 y then Some index else None)) (stands e y)) ≡ true) (sym b) v
        | inr k ↦ elim (or_cases (nat_eq y 33) (is_in y (symbols w.names)) k) [
          | inl a ↦ let b : nat_eq 33 y ≡ true = eq_turned 33 y ∙ a in subst (λ (z : Bool). names_only p (unwrap_or (if nat_eq 32 y then Some value else (if z then Some index else None)) (stands e y)) ≡ true) (sym b) (index_or (nat_eq 32 y))
          | inr m ↦ subst (λ o. names_only p (unwrap_or o (stands e y)) ≡ true) unfound (named_scoped m)
        ]
      ]
    ]) where
      value_or : (a b : Bool) → names_only p (stands e y) ≡ true → names_only p (unwrap_or (if a then Some value else (if b then Some index else None)) (stands e y)) ≡ true
      value_or true b c = v
      value_or false true c = i
      value_or false false c = c

      index_or : (a : Bool) → names_only p (unwrap_or (if a then Some value else Some index) (stands e y)) ≡ true
      index_or true = v
      index_or false = i

      named_scoped : is_in y (symbols w.names) ≡ true → names_only p (unwrap_or (named_by (paired (symbols w.names) withs ++ (value_symbol, value) ∷ (index_symbol, index) ∷ []) y) (stands e y)) ≡ true
      named_scoped m = found_named p (symbols w.names) withs ((value_symbol, value) ∷ (index_symbol, index) ∷ []) y (stands e y) (length-map w.names name_symbol ∙ len) all m
