-- The word closes and is kept at its new value.
use Rattle.std.specs.Prelude.{◌≡◌, ℕ, suc, ℤ, pos, not, ◌&&◌, flat_map, is_none, ◌-◌, ◌/◌, ◌%◌, ◌≤◌, Bool, true, false, ◌||◌, if◌then◌else◌, nat_eq, nat_lt, List, [], ◌∷◌, ◌++◌, length, map, filter_map, slice_get, Option, Some, None, is_some, option_map, Result, Ok, ◌⊎◌}
use Rattle.std.specs.List.{list_all, AllByRecursion}
use Rattle.std.specs.FinMap as finmap
use Rattle.std.proofs.Common.{inl, inr, arith}
use Rattle.std.proofs.lemmas.Bool.{le-ltb, eqb-true, and_parts, cond-false}
use Rattle.std.proofs.lemmas.Bool.Decides.{nat_tests}
use Rattle.std.proofs.lemmas.List.{get_or-set_same, length-map}
use Rattle.sync_base.specs.Outcome.{◌>>=◌, first}
use Rattle.sync_base.specs.declared.stops.Rule.{Rule}
use Rattle.sync_base.specs.declared.stops.Rule.TheVariants.{A1}
use Rattle.sync_terms.proofs.Meaning.{num-replaced}
use Rattle.sync_terms.specs.Symbols.{name_symbol}
use Rattle.sync_terms.specs.Trees.{Tree, Lit, Name, Add, Sub, Scale, Get, Has, Size, Sum, Nil, Put, Del, Bump, Formula, replaced, replaced_in}
use Rattle.sync_terms.specs.Values.{Valuation, num, mapped, truth, with_terms}
use Rattle.sync_machine.specs.Naming.{number_fault, formula_fault, is_in}
use Rattle.sync_machine.specs.Scope.{Known}
use Rattle.sync_machine.specs.States.{Numbers}
use Rattle.sync_rules.specs.Locality.{names_only}
use Rattle.sync_join.specs.declared.tokens.Token.{Token}
use Rattle.sync_join.specs.Join.{record_at, number_of}
use Rattle.sync_exchange_values.specs.Fitting.{number_fits, map_fits}
use Rattle.sync_exchange.specs.Exchange.{held_as}
use Rattle.sync_exchange.specs.declared.hands.Held.{Held}
use Rattle.sync_thread.specs.Arrays.{token_number, name_limit}
use Rattle.sync_thread.specs.Code.{locals_of}
use Rattle.sync_thread.specs.Control.{Halt}
use Rattle.sync_thread.specs.Programs.{WordTree, ClauseTree, ClosingTree, Close, all_decided}
use Rattle.sync_thread.specs.declared.operands.Tok.{Tok}
use Rattle.sync_thread_machine.specs.MachineWithProgram.{MachineWithProgram, fields_of, decls_of}
use Rattle.sync_thread_machine.specs.ProgramSymbols.{held_of, wrap_symbol, old_symbol, new_symbol}
use Rattle.sync_thread_meaning.specs.Meaning.{World, InBlock, proof_step}
use Rattle.sync_thread_meaning.specs.Shares.{Owned, token_list, Shares, Around, only_if, WordAt, array_words, hand_of, proofs_of, wrap_of, with_hand, no_bound, named_value, amount_of, Sight, sight_of, term_value, term_values, word_sight, is_seen, fact_is_true, guard_truth}
use Rattle.sync_thread_meaning.specs.Sound.{clause_is_kept, word_is_kept}
use Rattle.sync_thread_meaning.specs.Words.{OpenBlock, Put as PutBack, put_back, with_owned, tokens_at, word_closed, clauses_at}
use Rattle.sync_typing.specs.Blocks.{AroundTree, Inside, in_word, clauses_dues, fact_dues, closing_row, close_row}
use Rattle.sync_typing.specs.Dues.{Wants, Makes, at_hand_due}
use Rattle.sync_typing.specs.Environments.{Env, token_named, held_value, said, stands, read, is_at_hand, hand_after, take_in, TokenTree}
use Rattle.sync_typing.specs.Names.{AtWord, proof_is_named, as_many, is_number, is_formula, if_there, clause_is_named, are_apart_names, known_with, known_here, known_in_word, number_if, is_constant_field, is_named}
use Rattle.sync_typing_laws.proofs.BlocksBack.{Back, goes_back}
use Rattle.sync_typing_laws.proofs.BlocksBags.{each_index, tidy_moved}
use Rattle.sync_typing_laws.proofs.BlocksDecls.{word_named}
use Rattle.sync_typing_laws.proofs.BlocksRows.{ok_same, bind_ok, takes_in}
use Rattle.sync_typing_laws.proofs.BlocksTerms.{names_more}
use Rattle.sync_typing_laws.proofs.BlocksTokens.{all_front, all_back}
use Rattle.sync_typing_laws.proofs.BlocksWord.{term_is, form_is, term_seen, form_seen, no_maps}
use Rattle.sync_typing_laws.proofs.Deciding.{laws}
use Rattle.sync_typing_laws.proofs.KeepingSights.{Symbol, OfField, OfWrap, OfName, OfHeld, symbol_of, or_one, value_field, value_wrap, value_name, value_held, stands_said, token_of_symbol, held_unsaid, stands_held, said_held, held_at_hand}
use Rattle.sync_typing_laws.proofs.KeepingTerms.{NumbersOnly, Same, same_num}
use Rattle.sync_typing_laws.proofs.LocalDues.{Met, row_met}
use Rattle.sync_typing_laws.proofs.Opening.{empty_apart, set_get, none_is}
use Rattle.sync_typing_laws.specs.Rests.{IsTidy, IsApart, StandsAt, IsKeptAt, IsKnown, worth, clauses_are_half_kept}
use Rattle.sync_typing_laws.specs.Soundness.{HasNamedWords, CloseStands, world_with}
use mathlib.Core.Path.{refl, sym, ap, subst, ◌∙◌}

-- ---- every term is within no bound

all_fit : (zs : List ℤ) → list_all no_bound zs ≡ true
all_fit [] = refl
all_fit (z ∷ zs) = all_fit zs

mutual
  unfolding number_fits map_fits

  pub number_free : (v : Valuation) (t : Tree) → number_fits no_bound v t ≡ true
  number_free v (Lit n) = refl
  number_free v (Name x) = refl
  number_free v (Add a b) = let x = number_free v a in let y = number_free v b in rw (x, y) refl
  number_free v (Sub a b) = let x = number_free v a in let y = number_free v b in rw (x, y) refl
  number_free v (Scale n a) = let x = number_free v a in rw (x) refl
  number_free v (Get m k) = let x = map_free v m in let y = number_free v k in rw (x, y) refl
  number_free v (Has m k) = let x = map_free v m in let y = number_free v k in rw (x, y) refl
  number_free v (Size m) = let x = map_free v m in rw (x) refl
  number_free v (Sum m) = let x = map_free v m in rw (x) refl
  number_free v Nil = refl
  number_free v (Put m k w) = refl
  number_free v (Del m k) = refl
  number_free v (Bump m k n) = refl

  map_free : (v : Valuation) (t : Tree) → map_fits no_bound v t ≡ true
  map_free v (Name x) = all_fit (finmap.values (v.mapping x))
  map_free v (Put m k w) = let x = map_free v m in let y = number_free v k in let z = number_free v w in rw (x, y, z) refl
  map_free v (Del m k) = let x = map_free v m in let y = number_free v k in rw (x, y) refl
  map_free v (Bump m k n) = let x = map_free v m in let y = number_free v k in let z = number_free v n in let u = all_fit (finmap.values (mapped v (Bump m k n))) in rw (x, y, z) u
  map_free v Nil = refl
  map_free v (Lit n) = refl
  map_free v (Add a b) = refl
  map_free v (Sub a b) = refl
  map_free v (Scale n a) = refl
  map_free v (Get m k) = refl
  map_free v (Has m k) = refl
  map_free v (Size m) = refl
  map_free v (Sum m) = refl

-- ---- the symbols that terms in a word's block name

abbrev pub known_at : MachineWithProgram → Known
known_at x = known_with x (old_symbol ∷ new_symbol ∷ wrap_symbol ∷ [])

at_cases : (x : MachineWithProgram) (y : ℕ) → known_at x y ≡ Some Numbers → (y ≡ 34) ⊎ ((y ≡ 35) ⊎ (known_here x y ≡ Some Numbers))
at_cases x y is = tested (nat_eq y 34) (nat_eq y 35) refl refl is where
  tested : (p q : Bool) → nat_eq y 34 ≡ p → nat_eq y 35 ≡ q → number_if (is_constant_field x y || ((p || (q || (nat_eq y 36 || false))) || is_named y)) ≡ Some Numbers → (y ≡ 34) ⊎ ((y ≡ 35) ⊎ (known_here x y ≡ Some Numbers))
  tested true q a b e = inl (eqb-true y 34 a)
  tested false true a b e = inr (inl (eqb-true y 35 b))
  tested false false a b e = inr (inr e)

numbers_at : (x : MachineWithProgram) → NumbersOnly (known_at x)
numbers_at x y = no_maps (is_constant_field x y || (is_in y (old_symbol ∷ new_symbol ∷ wrap_symbol ∷ []) || is_named y))

-- a name of which something is known is said by a term
name_said : (e : Env) (n : ℕ) → is_at_hand e (name_symbol n) ≡ true → (u : Tree) × (e.terms (name_symbol n) ≡ Some u)
name_said e n is = tested (e.terms (name_symbol n)) refl where
  far : nat_lt (name_symbol n) 64 ≡ false
  far = le-ltb (name_symbol n) 64 (omega (arith))

  there : is_some (first (e.terms (name_symbol n)) None) ≡ true
  there = subst (λ o. is_some (first (e.terms (name_symbol n)) (held_value e.hand o)) ≡ true) (token_of_symbol n) (subst (λ b. (b || is_some (said e (name_symbol n))) ≡ true) far is)

  tested : (o : Option Tree) → e.terms (name_symbol n) ≡ o → (u : Tree) × (e.terms (name_symbol n) ≡ Some u)
  tested (Some u) same = (u, same)
  tested None same = absurd (let no : false ≡ true = subst (λ (o : Option Tree). is_some (first o None) ≡ true) same there in cc)

-- a symbol is seen, if it is no `held` or of a token that is held
seen_if : (hand : List Held) (y : ℕ) → ((n : ℕ) → y ≡ held_of n → is_some (held_as n hand) ≡ true) → is_seen hand y ≡ true
seen_if hand y tokens = small (nat_lt y 64) refl where
  token : (b : Bool) → nat_lt y 64 ≡ false → nat_eq ((y - 64) % 4) 2 ≡ b → (if b then is_some (held_as ((y - 64) / 4) hand) else true) ≡ true
  token false large is = refl
  token true large is = tokens ((y - 64) / 4) (grind (arith, nat_tests))

  small : (b : Bool) → nat_lt y 64 ≡ b → (if b then true else if nat_eq ((y - 64) % 4) 2 then is_some (held_as ((y - 64) / 4) hand) else true) ≡ true
  small true is = refl
  small false is = token (nat_eq ((y - 64) % 4) 2) is refl

-- ---- arguments

module _ (x : MachineWithProgram) (few : length (fields_of x) ≤ 32) (is_assigned : ℕ → Bool) (v : Valuation) (e : Env) (t : ℕ) (s : World) (a : Around) (st : StandsAt x is_assigned v e t s) where
  abbrev here : Sight
  here = sight_of (fields_of x) s.memory s.shares t a

  abbrev words : List ℤ
  words = pos 0 ∷ pos 0 ∷ a.old ∷ a.new ∷ wrap_of s.shares t ∷ []

  abbrev names : ℕ → ℤ
  names = named_value (proofs_of s.shares t) (locals_of s.memory t)

  by_symbol : (y : ℕ) → Symbol x y → is_at_hand e y ≡ true → num v (stands e y) ≡ here.valuation.number y
  by_symbol y (OfField below constant) is = let it = st.constants y below constant in ap (num v) (stands_said e y it.0 it.1) ∙ it.2 ∙ sym (value_field (fields_of x) s.shares.kept words names (hand_of s.shares t) y below)
  by_symbol y (OfWrap same) is = subst (λ z. num v (stands e z) ≡ here.valuation.number z) (sym same) (st.wrap ∙ sym (value_wrap (fields_of x) s.shares.kept a.old a.new (wrap_of s.shares t) names (hand_of s.shares t) few))
  by_symbol y (OfName n same below) is = let it = name_said e n (subst (λ z. is_at_hand e z ≡ true) same is) in
      subst (λ z. num v (stands e z) ≡ here.valuation.number z) (sym same) (ap (num v) (stands_said e (name_symbol n) it.0 it.1) ∙ st.names n it.0 it.1 ∙ sym (value_name (fields_of x) s.shares.kept words names (hand_of s.shares t) n few))
  by_symbol y (OfHeld n same below) is = let it = held_at_hand e st.scoped n below (subst (λ z. is_at_hand e z ≡ true) same is) in
      subst (λ z. num v (stands e z) ≡ here.valuation.number z) (sym same) (ap (num v) (stands_held e st.scoped n below it.0 it.1) ∙ sym (ap amount_of (st.hand n ∙ ap (option_map (worth v)) it.1))
      ∙ sym (value_held (fields_of x) s.shares.kept words names (hand_of s.shares t) n few))

  older_here : here.valuation.number 34 ≡ a.old
  older_here = cond-false (nat_lt 34 (length (fields_of x))) (number_of (record_at s.shares.kept 34)) a.old (le-ltb 34 (length (fields_of x)) (omega (arith)))

  newer_here : here.valuation.number 35 ≡ a.new
  newer_here = cond-false (nat_lt 35 (length (fields_of x))) (number_of (record_at s.shares.kept 35)) a.new (le-ltb 35 (length (fields_of x)) (omega (arith)))

  -- in a word's block, and in the start
  pub same_at : num v (stands e 34) ≡ a.old → num v (stands e 35) ≡ a.new → Same (known_at x) (is_at_hand e) (with_terms (stands e) v) here.valuation
  same_at is_older is_newer y known is = elim (at_cases x y known) [
    | inl o ↦ subst (λ z. num v (stands e z) ≡ here.valuation.number z) (sym o) (is_older ∙ sym older_here)
    | inr r ↦ elim r [
      | inl n ↦ subst (λ z. num v (stands e z) ≡ here.valuation.number z) (sym n) (is_newer ∙ sym newer_here)
      | inr k ↦ by_symbol y (symbol_of x y k) is
    ]
  ]

  pub same_in_start : Same (known_with x []) (is_at_hand e) (with_terms (stands e) v) here.valuation
  same_in_start y known is = by_symbol y (symbol_of x y (more (is_constant_field x y) (nat_eq y 36) (is_named y) known)) is where
    more : (p q r : Bool) → number_if (p || (false || r)) ≡ Some Numbers → number_if (p || ((q || false) || r)) ≡ Some Numbers
    more true q r k = refl
    more false true r k = refl
    more false false r k = k

  seen_at : (y : ℕ) → is_at_hand e y ≡ true → is_seen (hand_of s.shares t) y ≡ true
  seen_at y is = seen_if (hand_of s.shares t) y (λ n same. known n (subst (λ z. is_at_hand e z ≡ true) same is)) where
    known : (n : ℕ) → is_at_hand e (held_of n) ≡ true → is_some (held_as n (hand_of s.shares t)) ≡ true
    known n is = tested (nat_lt n name_limit) refl where
      word : is_some (said e (held_of n)) ≡ true
      word = elim (or_one (nat_lt (held_of n) 64) (is_some (said e (held_of n))) is) [
        | inl small ↦ (let no : false ≡ true = (let far : nat_lt (held_of n) 64 ≡ false = grind (arith, nat_tests) in sym far ∙ small) in cc)
        | inr said ↦ said
      ]

      tested : (b : Bool) → nat_lt n name_limit ≡ b → is_some (held_as n (hand_of s.shares t)) ≡ true
      tested true below = let there : (u : TokenTree) × (e.hand n ≡ Some u) = said_held e st.scoped n (grind (arith, nat_tests)) word in ap is_some (st.hand n ∙ ap (option_map (worth v)) there.1)
      tested false past = let none : token_named (held_of n) ≡ None = grind (arith, nat_tests) in
          let no : false ≡ true = subst (λ o. is_some (held_value e.hand o) ≡ true) none (subst (λ o. is_some (first o (held_value e.hand (token_named (held_of n)))) ≡ true) (held_unsaid e st.scoped n) word) in cc

  value_is : (k : Known) → NumbersOnly k → Same k (is_at_hand e) (with_terms (stands e) v) here.valuation → (u : Tree) → is_number k u ≡ true → names_only (is_at_hand e) u ≡ true → term_value no_bound here u ≡ Ok (num v (read e u))
  value_is k only alike u number at_hand =
      let seen = names_more (is_at_hand e) (is_seen (hand_of s.shares t)) seen_at u at_hand in
      let free = number_free here.valuation u in
      let same : num here.valuation u ≡ num v (read e u) = sym (num-replaced (stands e) v u ∙ same_num k (is_at_hand e) (with_terms (stands e) v) here.valuation only alike u (none_is (number_fault k u) number) at_hand) in
      rw (seen, free, same) refl

  pub values_are : (k : Known) → NumbersOnly k → Same k (is_at_hand e) (with_terms (stands e) v) here.valuation → (args : List Tree) → list_all (is_number k) args ≡ true → list_all (names_only (is_at_hand e)) args ≡ true → term_values no_bound here args ≡ Ok (map (num v) (map (read e) args))
  values_are k only alike [] numbers at_hand = refl
  values_are k only alike (u ∷ us) numbers at_hand =
      let m = and_parts (is_number k u) (list_all (is_number k) us) numbers in
      let l = and_parts (names_only (is_at_hand e) u) (list_all (names_only (is_at_hand e)) us) at_hand in
      let one = value_is k only alike u m.0 l.0 in
      let rest = values_are k only alike us m.1 l.1 in
      ap (λ r. r >>= (λ n. term_values no_bound here us >>= (λ ns. Ok (n ∷ ns)))) one ∙ ap (λ r. r >>= (λ ns. Ok (num v (read e u) ∷ ns))) rest

-- ---- an open word with every clause decided has no token

nothing : (o : Option Token) → is_none o ≡ true → token_list o ≡ []
nothing None is = refl
nothing (Some t) is = absurd (cc)

picked : (g : Option Formula) (d k n : Bool) → (if is_some g && not d then k else n) ≡ true → (is_none g || d) ≡ true → n ≡ true
picked (Some f) true k n half all = half
picked (Some f) false k n half all = absurd (cc)
picked None d k n half all = half

none_left : (v : Sight) (n : ℕ) (decided : List ℕ) (cs : List ClauseTree) (os : List (Option Token)) → clauses_are_half_kept v n decided cs os ≡ true → all_decided decided n cs ≡ true → flat_map token_list os ≡ []
none_left v n decided [] [] half all = refl
none_left v n decided [] (o ∷ os) half all = absurd (cc)
none_left v n decided (c ∷ cs) [] half all = absurd (cc)
none_left v n decided (c ∷ cs) (o ∷ os) half all =
    let h = and_parts (if is_some c.guard && not (is_in n decided) then clause_is_kept v c o else is_none o) (clauses_are_half_kept v (suc n) decided cs os) half in
    let a = and_parts (is_none c.guard || is_in n decided) (all_decided decided (suc n) cs) all in
    let here = nothing o (picked c.guard (is_in n decided) (clause_is_kept v c o) (is_none o) h.0 a.0) in
    ap (λ ts. ts ++ flat_map token_list os) here ∙ none_left v (suc n) decided cs os h.1 a.1

-- ---- the meaning of the statement

closed_is : (x : MachineWithProgram) (t i : ℕ) (v : Sight) (value : ℤ) (form : ClosingTree) (g : Shares) (p : WordAt) (ns : List ℤ) (k : PutBack) → slice_get (array_words x.program.decls) i ≡ Some p → tokens_at (slice_get g.owned i) ≡ [] → term_values no_bound v form.args ≡ Ok ns
    → put_back (decls_of x) (word_sight (fields_of x) g.kept p value ns) p.word.clauses form.tokens (hand_of g t) ≡ Ok k → fact_is_true (word_sight (fields_of x) g.kept p value ns) p.word.fact ≡ true
    → word_closed no_bound x t v i value form g ≡ Ok (with_owned i (record { tokens = k.tokens; values = ns }) (with_hand t k.left g))
closed_is x t i v value form g p ns k a z b c d = rw (a, z, b, c, d) refl

clauses_are : (x : MachineWithProgram) (i : ℕ) (p : WordAt) → slice_get (array_words x.program.decls) i ≡ Some p → clauses_at x i ≡ p.word.clauses
clauses_are x i p is = rw (is) refl

closes : (x : MachineWithProgram) (t : ℕ) (b : OpenBlock) (s : World) (form : ClosingTree) (p : WordAt) (r : Result Shares Halt) → slice_get (array_words x.program.decls) b.number ≡ Some p → all_decided b.decided 1 p.word.clauses ≡ true
    → word_closed no_bound x t (sight_of (fields_of x) s.memory s.shares t b.around) b.number b.around.new form s.shares ≡ r → proof_step no_bound x t (InBlock b) s.memory (Close form) s.shares ≡ r
closes x t b s form p r there all is = ap (λ cs. only_if (all_decided b.decided 1 cs) going) (clauses_are x b.number p there) ∙ ap (λ z. only_if z going) all ∙ is where
  going : Result Shares Halt
  going = word_closed no_bound x t (sight_of (fields_of x) s.memory s.shares t b.around) b.number b.around.new form s.shares

-- what an accepted row says
module _ (x : MachineWithProgram) (line : ℕ) (v : Valuation) (e : Env) (w : WordTree) (index value : Tree) (form : ClosingTree) where
  abbrev pub row_withs : List Tree
  row_withs = map (read e) form.args

  abbrev pub row_tokens : List (Option ℕ)
  row_tokens = map (λ (t : Option Tok). option_map (token_number (decls_of x)) t) form.tokens

  abbrev pub row_reads : ℕ → Tree
  row_reads = in_word e w index value row_withs

  abbrev pub closed_env : Env
  closed_env = record { terms = e.terms; hand = hand_after (filter_map (λ n. n) row_tokens) [] e.hand; facts = e.facts; fresh = e.fresh }

  pub record Accepted (rule : Rule) (test : Bool) (d : Env) : Type 0 where
    pub at_hand : list_all (names_only (is_at_hand e)) form.args ≡ true
    pub wanted : test ≡ true
    pub clauses : AllByRecursion (Met v) (clauses_dues e row_reads [] w.clauses row_tokens)
    pub fact : AllByRecursion (Met v) (fact_dues row_reads w.fact)
    pub env : d ≡ closed_env

  pub accepted : (rule : Rule) (test : Bool) (d : Env) → AllByRecursion (IsKnown v) e.facts → closing_row line (decls_of x) (Wants rule test ∷ []) w index value form e ≡ Ok d → Accepted rule test d
  accepted rule test d known row =
      let m = row_met laws v e line known (at_hand_due e form.args [] form.scripts ∷ Wants rule test ∷ map Makes row_withs ++ clauses_dues e row_reads [] w.clauses row_tokens ++ fact_dues row_reads w.fact)
      form.scripts (take_in line (filter_map (λ n. n) row_tokens) [] e) d row in
      let front = all_front (Met v) (map Makes row_withs ++ clauses_dues e row_reads [] w.clauses row_tokens) (fact_dues row_reads w.fact) m.0.1.1 in
      record {
        at_hand = (and_parts (list_all (names_only (is_at_hand e)) form.args) _ m.0.0).0;
        wanted = m.0.1.0;
        clauses = all_back (Met v) (map Makes row_withs) (clauses_dues e row_reads [] w.clauses row_tokens) front;
        fact = all_back (Met v) (map Makes row_withs ++ clauses_dues e row_reads [] w.clauses row_tokens) (fact_dues row_reads w.fact) m.0.1.1;
        env = takes_in line (filter_map (λ n. n) row_tokens) [] e d m.1;
      }

-- ---- a word gets its tokens and values, at a value, where the arguments have values at `here`

module _ (x : MachineWithProgram) (named : HasNamedWords x) (is_assigned : ℕ → Bool) (v : Valuation) (e : Env) (index value : Tree) (t : ℕ) (s : World) (i : ℕ) (p : WordAt)
    (there : slice_get (array_words x.program.decls) i ≡ Some p) (is_index : num v index ≡ pos p.index) (new : ℕ) (is_value : num v value ≡ pos new)
    (thread : t ≤ length x.program.threads) (tidy : IsTidy x s) (st : StandsAt x is_assigned v e t s) (owned : Owned) (owns : slice_get s.shares.owned i ≡ Some owned) (empty : tokens_at (slice_get s.shares.owned i) ≡ [])
    (line : ℕ) (form : ClosingTree) (args_many : length form.args ≡ length p.word.names) (tokens_many : length form.tokens ≡ length p.word.clauses)
    (here : Sight) (given_values : term_values no_bound here form.args ≡ Ok (map (num v) (map (read e) form.args)))
    (clauses_met : AllByRecursion (Met v) (clauses_dues e (row_reads x line v e p.word index value form) [] p.word.clauses (row_tokens x line v e p.word index value form)))
    (fact_met : AllByRecursion (Met v) (fact_dues (row_reads x line v e p.word index value form) p.word.fact)) where
  abbrev withs : List Tree
  withs = map (read e) form.args

  abbrev reads : ℕ → Tree
  reads = in_word e p.word index value withs

  abbrev sight : Sight
  sight = word_sight (fields_of x) s.shares.kept p (pos new) (map (num v) withs)

  with_many : length p.word.names ≡ length withs
  with_many = sym (length-map form.args (read e) ∙ args_many)

  word_parts : (list_all (clause_is_named x p.word) p.word.clauses ≡ true) × (if_there (is_formula (known_in_word x p.word)) p.word.fact ≡ true)
  word_parts = let k = and_parts _ _ (word_named x named.named i p there) in let l = and_parts (are_apart_names p.word.names) _ k.1 in and_parts _ _ l.1

  same : (u : Tree) → number_fault (known_in_word x p.word) u ≡ None → num v (replaced reads u) ≡ num sight.valuation u
  same = term_is x named.few_fields v e s st.constants p index value withs (pos new) is_index is_value with_many

  form_same : (f : Formula) → formula_fault (known_in_word x p.word) f ≡ None → truth v (replaced_in reads f) ≡ truth sight.valuation f
  form_same = form_is x named.few_fields v e s st.constants p index value withs (pos new) is_index is_value with_many

  says : (f : Formula) → formula_fault (known_in_word x p.word) f ≡ None → guard_truth sight (Some f) ≡ Some (truth v (replaced_in reads f))
  says f good = ap (λ (z : Bool). if z then Some (truth sight.valuation f) else None) (form_seen x named.few_fields p.word f good) ∙ ap Some (sym (form_same f good))

  back : Back x p.word e (decls_of x) reads v sight same (term_seen x named.few_fields p.word) says p.word.clauses form.tokens (hand_of s.shares t)
  back = goes_back x p.word e (decls_of x) reads v sight same (term_seen x named.few_fields p.word) says p.word.clauses form.tokens [] (hand_of s.shares t)
      (each_index IsApart s.shares.hands t [] tidy.apart empty_apart) (λ m out. st.hand m) word_parts.0 tokens_many clauses_met

  fact_true : fact_is_true sight p.word.fact ≡ true
  fact_true = tested p.word.fact word_parts.1 fact_met where
    tested : (o : Option Formula) → if_there (is_formula (known_in_word x p.word)) o ≡ true → AllByRecursion (Met v) (fact_dues reads o) → fact_is_true sight o ≡ true
    tested None good met = refl
    tested (Some f) good met = let k = none_is (formula_fault (known_in_word x p.word) f) good in let l = form_seen x named.few_fields p.word f k in let m : truth sight.valuation f ≡ true = sym (form_same f k) ∙ met.0 in rw (l, m) refl

  abbrev now : Owned
  now = record { tokens = back.put.tokens; values = map (num v) withs }

  abbrev given : Shares
  given = with_owned i now (with_hand t back.put.left s.shares)

  abbrev later : Env
  later = closed_env x line v e p.word index value form

  now_many : length now.values ≡ length p.word.names
  now_many = length-map withs (num v) ∙ sym with_many

  closed_so : word_closed no_bound x t here i (pos new) form s.shares ≡ Ok given
  closed_so = closed_is x t i here (pos new) form s.shares p (map (num v) withs) back.put there empty given_values back.is fact_true

  still_tidy : IsTidy x (world_with s given)
  still_tidy = tidy_moved x s tidy t i back.put.left s.shares.proofs refl p there owned now owns now_many back.apart (λ P inhand inword. back.tokens P inhand)

  held_now : (m : ℕ) → held_as m (hand_of given t) ≡ option_map (worth v) (later.hand m)
  held_now m = ap (held_as m) (get_or-set_same s.shares.hands t back.put.left [] (let l = tidy.hands in omega (arith))) ∙ back.left m ∙ tested (is_in m (filter_map (λ n. n) (row_tokens x line v e p.word index value form))) where
    tested : (z : Bool) → (if z then None else held_as m (hand_of s.shares t)) ≡ option_map (worth v) (if z then None else e.hand m)
    tested true = refl
    tested false = st.hand m

  tokens_scoped : (m : ℕ) (u : TokenTree) → later.hand m ≡ Some u → (names_only (λ z. nat_lt z e.fresh) u.key ≡ true) × (names_only (λ z. nat_lt z e.fresh) u.value ≡ true)
  tokens_scoped m u is = tested (is_in m (filter_map (λ n. n) (row_tokens x line v e p.word index value form))) is where
    tested : (z : Bool) → (if z then None else e.hand m) ≡ Some u → (names_only (λ z. nat_lt z e.fresh) u.key ≡ true) × (names_only (λ z. nat_lt z e.fresh) u.value ≡ true)
    tested true is = absurd (cc)
    tested false is = (st.scoped.keys m u is, st.scoped.values m u is)

  stands_now : StandsAt x is_assigned v later t (world_with s given)
  stands_now = record {
    constants = st.constants;
    names = st.names;
    no_proofs = st.no_proofs;
    wrap = st.wrap;
    hand = held_now;
    known = st.known;
    scoped = record { names = st.scoped.names; keys = λ m u is. (tokens_scoped m u is).0; values = λ m u is. (tokens_scoped m u is).1; facts = st.scoped.facts; said = st.scoped.said; beyond = st.scoped.beyond };
  }

  kept_now : word_is_kept (fields_of x) s.shares.kept p new now ≡ true
  kept_now = let k = fact_true in let l = back.kept in rw (k, l) refl

  kept_at : IsKeptAt x i new (world_with s given)
  kept_at = record { place = p; there = there; owned = now; owns = set_get s.shares.owned i owned now owns; named = now_many; kept = kept_now }

  pub closes_all : (g : Shares) × (word_closed no_bound x t here i (pos new) form s.shares ≡ Ok g) × IsTidy x (world_with s g) × StandsAt x is_assigned v later t (world_with s g) × IsKeptAt x i new (world_with s g)
  closes_all = (given, closed_so, still_tidy, stands_now, kept_at)

-- ---- the word of a block closes

pub close_stands : CloseStands
close_stands x named is_assigned v c a t s b thread tidy so new at line form proof d row =
    let p : WordAt = so.around.place in
    let same : record { word = p.word; index = a.index; old = a.old; new = a.new } ≡ a = ap (λ (w : WordTree). let r : AroundTree = record { word = w; index = a.index; old = a.old; new = a.new } in r) (sym so.around.word) in
    let made = bind_ok (closing_row line (decls_of x) (Wants A1 (all_decided c.decided 1 p.word.clauses) ∷ []) p.word a.index a.new form c.env) (λ (e : Env). Ok (record c { env = e })) d
    (subst (λ (z : AroundTree). close_row line (decls_of x) z form c ≡ Ok d) (sym same) row) in
    let ok = accepted x line v c.env p.word a.index a.new form A1 (all_decided c.decided 1 p.word.clauses) made.0 so.stands.known made.1 in
    let env : d.env ≡ closed_env x line v c.env p.word a.index a.new form = ap (λ (i : Inside). i.env) (sym (ok_same (record c { env = made.0 }) d made.2)) ∙ ok.env in
    let n1 = and_parts (as_many form.args p.word.names) _ (subst (λ w. proof_is_named x (AtWord w) (Close form) ≡ true) so.around.word proof) in
    let n2 = and_parts (as_many form.tokens p.word.clauses) _ n1.1 in
    let n3 = and_parts (list_all (is_number (known_at x)) form.args) _ n2.1 in
    let args = values_are x named.few_fields is_assigned v c.env t s b.around so.stands (known_at x) (numbers_at x)
    (same_at x named.few_fields is_assigned v c.env t s b.around so.stands (ap (num v) so.around.old_named ∙ so.around.old) (ap (num v) so.around.new_named ∙ so.around.new)) form.args n3.0 ok.at_hand in
    let r = closes_all x named is_assigned v c.env a.index a.new t s b.number p so.around.there so.around.index new (so.around.new ∙ at) thread tidy so.stands so.owned so.owns (ap tokens_at so.owns ∙ none_left _ 1 c.decided p.word.clauses so.owned.tokens so.kept ok.wanted) line form
    (eqb-true (length form.args) (length p.word.names) n1.0) (eqb-true (length form.tokens) (length p.word.clauses) n2.0) (sight_of (fields_of x) s.memory s.shares t b.around) args ok.clauses ok.fact in (
      r.0,
      closes x t b s form p (Ok r.0) so.around.there (sym (ap (λ ds. all_decided ds 1 p.word.clauses) so.decided) ∙ ok.wanted)
          (ap (λ z. word_closed no_bound x t (sight_of (fields_of x) s.memory s.shares t b.around) b.number z form s.shares) at ∙ r.1),
      r.2,
      subst (λ (e : Env). StandsAt x is_assigned v e t (world_with s r.0)) (sym env) r.3,
      r.4,
    )
