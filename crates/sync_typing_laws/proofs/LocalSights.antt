-- What a term of a statement is in the meaning is what its term is that typing reads in the environment.
use Rattle.std.proofs.Common.{arith, inl, inr}
use Rattle.std.specs.Prelude.{◌≡◌, ℕ, ◌<◌, ◌≤◌, ◌+◌, ◌-◌, ◌*◌, ◌/◌, ◌%◌, Bool, true, false, ◌&&◌, ◌||◌, nat_lt, nat_eq, List, [], ◌∷◌, length, Option, Some, None, is_some, is_none}
use Rattle.std.proofs.lemmas.Bool.{and_parts, and_from, or_cases, ltb-true, lt-ltb, ltb-false, ne_eqb}
use Rattle.std.proofs.lemmas.Bool.Decides.{eqb_tells}
use Rattle.sync_base.specs.declared.strategies.Strategy.{Strategy}
use Rattle.sync_terms.proofs.Meaning.{num-replaced, truth-replaced_in}
use Rattle.sync_terms.specs.Symbols.{name_symbol}
use Rattle.sync_terms.specs.Trees.{Tree, Lit, Name, Add, Sub, Scale, Get, Has, Size, Sum, Nil, Put, Del, Bump, Formula, Le, Lt, Eq, Not, And, Or, Imp, replaced, replaced_in}
use Rattle.sync_terms.specs.Values.{Valuation, num, truth, with_terms}
use Rattle.sync_machine.specs.Naming.{number_fault, formula_fault, is_in}
use Rattle.sync_machine.specs.Scope.{Known}
use Rattle.sync_machine.specs.States.{Sort, Numbers, Maps, strategy_at}
use Rattle.sync_rules.specs.Locality.{names_only, form_names_only}
use Rattle.sync_join.specs.Join.{record_at, number_of}
use Rattle.sync_exchange.specs.Exchange.{held_as}
use Rattle.sync_thread.specs.Arrays.{name_limit}
use Rattle.sync_thread.specs.Code.{locals_of}
use Rattle.sync_thread.specs.Resting.{Round}
use Rattle.sync_thread_machine.specs.MachineWithProgram.{MachineWithProgram, fields_of}
use Rattle.sync_thread_machine.specs.ProgramSymbols.{wrap_symbol, first_fresh}
use Rattle.sync_thread_meaning.specs.Meaning.{World, annotated_language}
use Rattle.sync_thread_meaning.specs.Shares.{hand_of, proofs_of, wrap_of, named_value, nowhere_near, Sight, sight_of, is_seen, amount_of}
use Rattle.sync_typing.specs.Environments.{Env, TokenTree, token_named, said, is_at_hand, read, read_form, stands as term_of}
use Rattle.sync_typing.specs.Names.{known_with, number_if, is_constant_field, is_held_symbol, is_named, is_number, is_formula}
use Rattle.sync_typing.specs.Typing.{is_constant}
use Rattle.sync_typing_laws.proofs.LocalMoves.{At, is_used, names_more, form_more}
use Rattle.sync_typing_laws.proofs.LocalRows.{stands_known, stands_unknown}
use Rattle.sync_typing_laws.proofs.LocalTerms.{number_agrees, formula_agrees}
use Rattle.sync_typing_laws.specs.Rests.{worth}
use Rattle.sync_base.specs.declared.strategies.Strategy.TheVariants as strategies
use mathlib.Core.Path.{refl, sym, ap, subst, ◌∙◌}

-- ---- terms that are replaced

module _ (p q : ℕ → Bool) (f : ℕ → Tree) (each : (y : ℕ) → p y ≡ true → names_only q (f y) ≡ true) where
  pub replaced_names : (t : Tree) → names_only p t ≡ true → names_only q (replaced f t) ≡ true
  unfolding names_only replaced
  replaced_names (Lit n) is = refl
  replaced_names (Name y) is = each y is
  replaced_names (Add a b) is = let k = and_parts (names_only p a) (names_only p b) is in and_from (names_only q (replaced f a)) (names_only q (replaced f b)) (replaced_names a k.0) (replaced_names b k.1)
  replaced_names (Sub a b) is = let k = and_parts (names_only p a) (names_only p b) is in and_from (names_only q (replaced f a)) (names_only q (replaced f b)) (replaced_names a k.0) (replaced_names b k.1)
  replaced_names (Scale n a) is = replaced_names a is
  replaced_names (Get a b) is = let k = and_parts (names_only p a) (names_only p b) is in and_from (names_only q (replaced f a)) (names_only q (replaced f b)) (replaced_names a k.0) (replaced_names b k.1)
  replaced_names (Has a b) is = let k = and_parts (names_only p a) (names_only p b) is in and_from (names_only q (replaced f a)) (names_only q (replaced f b)) (replaced_names a k.0) (replaced_names b k.1)
  replaced_names (Size a) is = replaced_names a is
  replaced_names (Sum a) is = replaced_names a is
  replaced_names Nil is = refl
  replaced_names (Put a b c) is = let k = and_parts (names_only p a && names_only p b) (names_only p c) is in let j = and_parts (names_only p a) (names_only p b) k.0 in
      and_from (names_only q (replaced f a) && names_only q (replaced f b)) (names_only q (replaced f c)) (and_from (names_only q (replaced f a)) (names_only q (replaced f b)) (replaced_names a j.0) (replaced_names b j.1)) (replaced_names c k.1)
  replaced_names (Del a b) is = let k = and_parts (names_only p a) (names_only p b) is in and_from (names_only q (replaced f a)) (names_only q (replaced f b)) (replaced_names a k.0) (replaced_names b k.1)
  replaced_names (Bump a b c) is = let k = and_parts (names_only p a && names_only p b) (names_only p c) is in let j = and_parts (names_only p a) (names_only p b) k.0 in
      and_from (names_only q (replaced f a) && names_only q (replaced f b)) (names_only q (replaced f c)) (and_from (names_only q (replaced f a)) (names_only q (replaced f b)) (replaced_names a j.0) (replaced_names b j.1)) (replaced_names c k.1)

  pub replaced_form_names : (g : Formula) → form_names_only p g ≡ true → form_names_only q (replaced_in f g) ≡ true
  unfolding form_names_only replaced_in
  replaced_form_names (Le a b) is = let k = and_parts (names_only p a) (names_only p b) is in and_from (names_only q (replaced f a)) (names_only q (replaced f b)) (replaced_names a k.0) (replaced_names b k.1)
  replaced_form_names (Lt a b) is = let k = and_parts (names_only p a) (names_only p b) is in and_from (names_only q (replaced f a)) (names_only q (replaced f b)) (replaced_names a k.0) (replaced_names b k.1)
  replaced_form_names (Eq a b) is = let k = and_parts (names_only p a) (names_only p b) is in and_from (names_only q (replaced f a)) (names_only q (replaced f b)) (replaced_names a k.0) (replaced_names b k.1)
  replaced_form_names (Not g) is = replaced_form_names g is
  replaced_form_names (And g h) is = let k = and_parts (form_names_only p g) (form_names_only p h) is in and_from (form_names_only q (replaced_in f g)) (form_names_only q (replaced_in f h)) (replaced_form_names g k.0) (replaced_form_names h k.1)
  replaced_form_names (Or g h) is = let k = and_parts (form_names_only p g) (form_names_only p h) is in and_from (form_names_only q (replaced_in f g)) (form_names_only q (replaced_in f h)) (replaced_form_names g k.0) (replaced_form_names h k.1)
  replaced_form_names (Imp g h) is = let k = and_parts (form_names_only p g) (form_names_only p h) is in and_from (form_names_only q (replaced_in f g)) (form_names_only q (replaced_in f h)) (replaced_form_names g k.0) (replaced_form_names h k.1)

or_false : (a b : Bool) → (a || b) ≡ true → b ≡ false → a ≡ true
or_false true b is off = refl
or_false false b is off = absurd (let k : true ≡ false = sym is ∙ off in cc)

-- ---- numbers of symbols

not_less : (a b : ℕ) → b ≤ a → nat_lt a b ≡ false
not_less a b le = tested (nat_lt a b) refl where
  tested : (c : Bool) → nat_lt a b ≡ c → nat_lt a b ≡ false
  tested true k = absurd (let lt = ltb-true a b k in omega (arith, le, lt))
  tested false k = k

constant_strategy : (s : Strategy) → is_constant s ≡ true → s ≡ strategies.Constant
constant_strategy strategies.Constant is = refl
constant_strategy strategies.Variable is = absurd (cc)
constant_strategy strategies.NotTokenized is = absurd (cc)
constant_strategy strategies.Option is = absurd (cc)
constant_strategy strategies.Map is = absurd (cc)
constant_strategy strategies.Set is = absurd (cc)
constant_strategy strategies.Multiset is = absurd (cc)
constant_strategy strategies.Count is = absurd (cc)
constant_strategy strategies.PersistentOption is = absurd (cc)
constant_strategy strategies.PersistentMap is = absurd (cc)
constant_strategy strategies.PersistentSet is = absurd (cc)
constant_strategy strategies.PersistentCount is = absurd (cc)
constant_strategy strategies.StorageMap is = absurd (cc)

-- the forms of symbols from 64 on
name_form : (y : ℕ) → 63 < y → y % 4 ≡ 0 → y ≡ 64 + 4 * ((y - 64) / 4)
name_form y far is = omega (arith, far, is)

held_form : (y : ℕ) → 63 < y → y % 4 ≡ 2 → y ≡ 66 + 4 * ((y - 66) / 4)
held_form y far is = omega (arith, far, is)

same_is : (a b : ℕ) → nat_eq a b ≡ true → a ≡ b
same_is a b is = elim (eqb_tells a b) [ inl k ↦ k.1 | inr k ↦ absurd (let no : true ≡ false = sym is ∙ k.0 in cc) ]

is_same : (a b : ℕ) → a ≡ b → nat_eq a b ≡ true
is_same a b is = elim (eqb_tells a b) [ inl k ↦ k.0 | inr k ↦ absurd (k.1 is) ]

-- a token's symbol, and the token
module _ (e : Env) (n : ℕ) (small : n < name_limit) where
  token_is : token_named (66 + 4 * n) ≡ Some n
  token_is =
      let a = lt-ltb 63 (66 + 4 * n) (omega arith) in
      let b : nat_lt (66 + 4 * n) first_fresh ≡ true = (let k : n < 1048576 = small in lt-ltb (66 + 4 * n) 4194368 (omega (arith, k))) in
      let c = is_same ((66 + 4 * n) % 4) 2 (omega arith) in
      let d : (66 + 4 * n - 66) / 4 ≡ n = omega arith in cc

  pub held_term : e.terms (66 + 4 * n) ≡ None → (u : TokenTree) → e.hand n ≡ Some u → term_of e (66 + 4 * n) ≡ u.value
  held_term none u is = let k = token_is in cc

said_term : (e : Env) (y : ℕ) (u : Tree) → e.terms y ≡ Some u → term_of e y ≡ u
said_term e y u is = cc

module _ (x : MachineWithProgram) (known : Env) (t : ℕ) (v : Valuation) (e : Env) (round : List (Round annotated_language Env)) (s : World) (few : length (fields_of x) ≤ 32) (is : At x known t v e round s) where
  abbrev pub here : Sight
  here = sight_of (fields_of x) s.memory s.shares t nowhere_near

  constant_left : (y : ℕ) → nat_lt y (length (fields_of x)) ≡ true → here.valuation.number y ≡ number_of (record_at s.shares.kept y)
  constant_left y lt = cc

  constant_number : (y : ℕ) → is_constant_field x y ≡ true → here.valuation.number y ≡ num v (term_of e y)
  constant_number y const =
      let p = and_parts (nat_lt y (length (fields_of x))) (is_constant (strategy_at (fields_of x) y)) const in
      let c = is.stands.constants y (ltb-true y (length (fields_of x)) p.0) (constant_strategy (strategy_at (fields_of x) y) p.1) in
      constant_left y p.0 ∙ sym (ap (num v) (said_term e y c.0 c.1) ∙ c.2)

  wrap_number : here.valuation.number wrap_symbol ≡ num v (term_of e wrap_symbol)
  wrap_number = let no = not_less 36 (length (fields_of x)) (omega (arith, few)) in let left : here.valuation.number wrap_symbol ≡ wrap_of s.shares t = cc in left ∙ sym is.stands.wrap

  far_number : (y : ℕ) → 63 < y → (nat_lt y (length (fields_of x)) ≡ false) × (nat_lt y 64 ≡ false)
  far_number y far = (not_less y (length (fields_of x)) (omega (arith, far, few)), not_less y 64 (omega (arith, far)))

  name_number : (n : ℕ) → n < name_limit → here.valuation.number (name_symbol n) ≡ num v (term_of e (name_symbol n))
  name_number n small = left ∙ sym (by (e.terms (name_symbol n)) refl) where
    left : here.valuation.number (name_symbol n) ≡ named_value (proofs_of s.shares t) (locals_of s.memory t) n
    left =
        let f = far_number (64 + 4 * n) (omega arith) in let a = f.0 in let b = f.1 in
        let two = ne_eqb ((64 + 4 * n - 64) % 4) 2 (λ k. (let j : (64 + 4 * n - 64) % 4 ≡ 0 = omega arith in omega (arith, k, j))) in
        let d : (64 + 4 * n - 64) / 4 ≡ n = omega arith in cc

    by : (o : Option Tree) → e.terms (name_symbol n) ≡ o → num v (term_of e (name_symbol n)) ≡ named_value (proofs_of s.shares t) (locals_of s.memory t) n
    by None k = ap (num v) (stands_unknown e n k) ∙ is.unsaid n small k
    by (Some u) k = ap (num v) (stands_known e n u k) ∙ is.stands.names n u k

  -- a symbol of a token is said by no name
  unsaid_held : (n : ℕ) → e.terms (66 + 4 * n) ≡ None
  unsaid_held n = by (e.terms (66 + 4 * n)) refl where
    by : (o : Option Tree) → e.terms (66 + 4 * n) ≡ o → e.terms (66 + 4 * n) ≡ None
    by None k = k
    by (Some u) k = absurd (elim (is.stands.scoped.said (66 + 4 * n) u k) [
      | inl lt ↦ omega (arith, lt)
      | inr text ↦ (let j : 66 + 4 * n ≡ 64 + 4 * text.0 = text.1 in omega (arith, j))
    ])

  -- a token's symbol that is at hand is of a token that is held
  held_said : (n : ℕ) → n < name_limit → is_at_hand e (66 + 4 * n) ≡ true → (u : TokenTree) × (e.hand n ≡ Some u)
  held_said n small at = by (e.hand n) refl where
    by : (o : Option TokenTree) → e.hand n ≡ o → (u : TokenTree) × (e.hand n ≡ Some u)
    by (Some u) k = (u, k)
    by None k = absurd (let a = not_less (66 + 4 * n) 64 (omega arith) in let b = unsaid_held n in let c = token_is e n small in
        let no : is_at_hand e (66 + 4 * n) ≡ false = cc in let both : true ≡ false = sym at ∙ no in cc)

  held_number : (n : ℕ) → n < name_limit → is_at_hand e (66 + 4 * n) ≡ true → here.valuation.number (66 + 4 * n) ≡ num v (term_of e (66 + 4 * n))
  held_number n small at =
      let h = held_said n small at in
      let f = far_number (66 + 4 * n) (omega arith) in let a = f.0 in let b = f.1 in
      let two = is_same ((66 + 4 * n - 64) % 4) 2 (omega arith) in
      let d : (66 + 4 * n - 64) / 4 ≡ n = omega arith in
      let left : here.valuation.number (66 + 4 * n) ≡ amount_of (held_as n (hand_of s.shares t)) = cc in
      let hand : held_as n (hand_of s.shares t) ≡ Some (worth v h.0) = (let j = h.1 in let i = is.stands.hand n in cc) in
      left ∙ ap amount_of hand ∙ sym (ap (num v) (held_term e n small (unsaid_held n) h.0 h.1))

  abbrev pub words_here : Known
  words_here = known_with x (wrap_symbol ∷ [])

  is_number_if : (b : Bool) (o : Sort) → number_if b ≡ Some o → (b ≡ true) × (o ≡ Numbers)
  is_number_if true Numbers k = (refl, refl)
  is_number_if true Maps k = absurd (let no : Some Numbers ≡ Some Maps = k in cc)
  is_number_if false o k = absurd (let no : None ≡ Some o = k in cc)

  named_number : (y : ℕ) → is_named y ≡ true → is_at_hand e y ≡ true → here.valuation.number y ≡ num v (term_of e y)
  named_number y named at = elim (or_cases (is_held_symbol y) (nat_lt 63 y && (nat_lt y first_fresh && nat_eq (y % 4) 0)) named) [
    | inl held ↦ (let a = and_parts (nat_lt 63 y) (nat_lt y first_fresh && nat_eq (y % 4) 2) held in let b = and_parts (nat_lt y first_fresh) (nat_eq (y % 4) 2) a.1 in
        let far = ltb-true 63 y a.0 in let near : y < 4194368 = ltb-true y first_fresh b.0 in let two = same_is (y % 4) 2 b.1 in let form = held_form y far two in
        let small : (y - 66) / 4 < 1048576 = omega (arith, near, far, two) in
        subst (λ d. here.valuation.number d ≡ num v (term_of e d)) (sym form) (held_number ((y - 66) / 4) small (subst (λ d. is_at_hand e d ≡ true) form at)))
    | inr name ↦ (let a = and_parts (nat_lt 63 y) (nat_lt y first_fresh && nat_eq (y % 4) 0) name in let b = and_parts (nat_lt y first_fresh) (nat_eq (y % 4) 0) a.1 in
        let far = ltb-true 63 y a.0 in let near : y < 4194368 = ltb-true y first_fresh b.0 in let zero = same_is (y % 4) 0 b.1 in let form = name_form y far zero in
        let small : (y - 64) / 4 < 1048576 = omega (arith, near, far, zero) in
        subst (λ d. here.valuation.number d ≡ num v (term_of e d)) (sym form) (name_number ((y - 64) / 4) small))
  ]

  known_number : (y : ℕ) → words_here y ≡ Some Numbers → is_at_hand e y ≡ true → here.valuation.number y ≡ num v (term_of e y)
  known_number y k at =
      let b = (is_number_if (is_constant_field x y || (is_in y (wrap_symbol ∷ []) || is_named y)) Numbers k).0 in
      elim (or_cases (is_constant_field x y) (is_in y (wrap_symbol ∷ []) || is_named y) b) [
        | inl const ↦ constant_number y const
        | inr other ↦ (elim (or_cases (is_in y (wrap_symbol ∷ [])) (is_named y) other) [
          | inl word ↦ (elim (or_cases (nat_eq y wrap_symbol) false word) [
            | inl same ↦ subst (λ d. here.valuation.number d ≡ num v (term_of e d)) (sym (same_is y wrap_symbol same)) wrap_number
            | inr off ↦ absurd (let never : false ≡ true = off in cc)
          ])
          | inr named ↦ named_number y named at
        ])
      ]

  no_maps : (y : ℕ) → words_here y ≡ Some Maps → ⊥
  no_maps y k = let b = (is_number_if (is_constant_field x y || (is_in y (wrap_symbol ∷ []) || is_named y)) Maps k).1 in let no : Maps ≡ Numbers = b in cc

  none_is : {A : Type 0} (o : Option A) → is_none o ≡ true → o ≡ None
  none_is None k = refl
  none_is (Some a) k = absurd (let no : false ≡ true = k in cc)

  -- a term of the text has the value of the term that typing reads
  pub term_value : (u : Tree) → is_number words_here u ≡ true → names_only (is_at_hand e) u ≡ true → num here.valuation u ≡ num v (read e u)
  term_value u number names = number_agrees words_here (is_at_hand e) here.valuation (with_terms (term_of e) v) known_number no_maps u (none_is (number_fault words_here u) number) names ∙ sym (num-replaced (term_of e) v u)

  pub form_value : (f : Formula) → is_formula words_here f ≡ true → form_names_only (is_at_hand e) f ≡ true → truth here.valuation f ≡ truth v (read_form e f)
  form_value f formula names = formula_agrees words_here (is_at_hand e) here.valuation (with_terms (term_of e) v) known_number no_maps f (none_is (formula_fault words_here f) formula) names ∙ sym (truth-replaced_in (term_of e) v f)

  -- what is at hand is seen, and names what is in use
  pub at_hand_seen : (y : ℕ) → is_at_hand e y ≡ true → is_seen (hand_of s.shares t) y ≡ true
  at_hand_seen y at = by (nat_lt y 64) refl (nat_eq ((y - 64) % 4) 2) refl where
    held : (n : ℕ) → n < name_limit → is_at_hand e (66 + 4 * n) ≡ true → is_some (held_as n (hand_of s.shares t)) ≡ true
    held n small k = let h = held_said n small k in let j = h.1 in let i = is.stands.hand n in cc

    far_held : (n : ℕ) → name_limit ≤ n → is_at_hand e (66 + 4 * n) ≡ true → ⊥
    far_held n large k =
        let a = not_less (66 + 4 * n) 64 (omega arith) in let b = unsaid_held n in
        let c : nat_lt (66 + 4 * n) first_fresh ≡ false = (let l : 1048576 ≤ n = large in not_less (66 + 4 * n) 4194368 (omega (arith, l))) in
        let d = lt-ltb 63 (66 + 4 * n) (omega arith) in
        let no : is_at_hand e (66 + 4 * n) ≡ false = cc in let both : true ≡ false = sym k ∙ no in cc

    token_here : (n : ℕ) → is_at_hand e (66 + 4 * n) ≡ true → is_some (held_as n (hand_of s.shares t)) ≡ true
    token_here n k = either (nat_lt n name_limit) refl where
      either : (b : Bool) → nat_lt n name_limit ≡ b → is_some (held_as n (hand_of s.shares t)) ≡ true
      either true lt = held n (ltb-true n name_limit lt) k
      either false off = absurd (far_held n (ltb-false n name_limit off) k)

    by : (b : Bool) → nat_lt y 64 ≡ b → (c : Bool) → nat_eq ((y - 64) % 4) 2 ≡ c → is_seen (hand_of s.shares t) y ≡ true
    by true k c j = cc
    by false k false j = cc
    by false k true j =
        let far = ltb-false y 64 k in let two = same_is ((y - 64) % 4) 2 j in
        let form : y ≡ 66 + 4 * ((y - 64) / 4) = omega (arith, far, two) in
        let there = token_here ((y - 64) / 4) (subst (λ d. is_at_hand e d ≡ true) form at) in cc

  pub at_hand_used : (y : ℕ) → is_at_hand e y ≡ true → names_only (is_used e.fresh) (term_of e y) ≡ true
  unfolding names_only
  at_hand_used y at = by (e.terms y) refl (token_named y) refl where
    small : nat_lt y 64 ≡ true → nat_lt y e.fresh ≡ true
    small k = let lt = ltb-true y 64 k in let far : 4194368 ≤ e.fresh = is.stands.scoped.beyond in lt-ltb y e.fresh (omega (arith, lt, far))

    alone : e.terms y ≡ None → token_named y ≡ None → names_only (is_used e.fresh) (term_of e y) ≡ true
    alone k j = let near : nat_lt y 64 ≡ true = (or_false (nat_lt y 64) (is_some (said e y)) at (let i : said e y ≡ None = cc in ap is_some i)) in
        let term : term_of e y ≡ Name y = cc in subst (λ d. names_only (is_used e.fresh) d ≡ true) (sym term) (small near)

    token : (n : ℕ) → e.terms y ≡ None → token_named y ≡ Some n → (o : Option TokenTree) → e.hand n ≡ o → names_only (is_used e.fresh) (term_of e y) ≡ true
    token n k j None h = let near : nat_lt y 64 ≡ true = (or_false (nat_lt y 64) (is_some (said e y)) at (let i : said e y ≡ None = cc in ap is_some i)) in
        let term : term_of e y ≡ Name y = cc in subst (λ d. names_only (is_used e.fresh) d ≡ true) (sym term) (small near)
    token n k j (Some u) h = let term : term_of e y ≡ u.value = cc in subst (λ d. names_only (is_used e.fresh) d ≡ true) (sym term) (is.stands.scoped.values n u h)

    by : (o : Option Tree) → e.terms y ≡ o → (c : Option ℕ) → token_named y ≡ c → names_only (is_used e.fresh) (term_of e y) ≡ true
    by (Some u) k c j = subst (λ d. names_only (is_used e.fresh) d ≡ true) (sym (said_term e y u k)) (is.stands.scoped.names y u k)
    by None k None j = alone k j
    by None k (Some n) j = token n k j (e.hand n) refl

  pub read_used : (u : Tree) → names_only (is_at_hand e) u ≡ true → names_only (is_used e.fresh) (read e u) ≡ true
  read_used u names = replaced_names (is_at_hand e) (is_used e.fresh) (term_of e) at_hand_used u names

  pub read_form_used : (f : Formula) → form_names_only (is_at_hand e) f ≡ true → form_names_only (is_used e.fresh) (read_form e f) ≡ true
  read_form_used f names = replaced_form_names (is_at_hand e) (is_used e.fresh) (term_of e) at_hand_used f names

  pub term_seen : (u : Tree) → names_only (is_at_hand e) u ≡ true → names_only (is_seen (hand_of s.shares t)) u ≡ true
  term_seen u names = names_more (is_at_hand e) (is_seen (hand_of s.shares t)) at_hand_seen u names

  pub form_seen : (f : Formula) → form_names_only (is_at_hand e) f ≡ true → form_names_only (is_seen (hand_of s.shares t)) f ≡ true
  form_seen f names = form_more (is_at_hand e) (is_seen (hand_of s.shares t)) at_hand_seen f names
