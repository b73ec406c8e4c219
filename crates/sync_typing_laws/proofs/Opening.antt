-- A word that is kept at its old value opens: what is then known is so, and what was known stays.
use Rattle.std.specs.Prelude.{◌≡◌, ℕ, zero, suc, ℤ, pos, ◌+◌, ◌<◌, ◌≤◌, Bool, true, false, ◌&&◌, ◌||◌, not, if◌then◌else◌, nat_eq, nat_lt, List, [], ◌∷◌, ◌++◌, length, map, filter, flat_map, count_by, slice_get, slice_set, Option, Some, None, is_some, is_none, option_map, unwrap_or, Ok, ◌⊎◌}
use Rattle.std.specs.List.{list_all, AllByRecursion, IsDistinct}
use Rattle.std.proofs.Common.{inl, inr, arith}
use Rattle.std.proofs.lemmas.Bool.{ltb-true, lt-ltb, le-ltb, eqb-true, and_parts}
use Rattle.std.proofs.lemmas.List.{length-set, get_or-set_same, map-append}
use Rattle.sync_base.specs.Outcome.{first}
use Rattle.sync_terms.specs.Symbols.{name_symbol}
use Rattle.sync_terms.specs.Trees.{Tree, Name, Formula, replaced, replaced_in}
use Rattle.sync_terms.specs.Values.{Valuation, num, truth, Holds}
use Rattle.sync_machine.specs.Naming.{number_fault, formula_fault, IsTextName, is_in}
use Rattle.sync_machine.specs.Statements.{or_zero, one}
use Rattle.sync_rules.specs.Locality.{names_only, form_names_only}
use Rattle.sync_kernel_facts.specs.Facts.{Fact}
use Rattle.sync_join.specs.Shards.{IsToken}
use Rattle.sync_join.specs.declared.tokens.Token.{Token}
use Rattle.sync_exchange.specs.Exchange.{held_as, tokens_in}
use Rattle.sync_exchange.specs.declared.hands.Held.{Held}
use Rattle.sync_thread.specs.Code.{locals_of}
use Rattle.sync_thread.specs.Programs.{ShapeTree, ClauseTree, WordTree, Word, Open, is_unguarded}
use Rattle.sync_thread_machine.specs.MachineWithProgram.{MachineWithProgram, fields_of}
use Rattle.sync_thread_meaning.specs.Meaning.{World, InBlock, proof_step}
use Rattle.sync_thread_meaning.specs.Shares.{Owned, Shares, WordAt, array_words, hand_of, proofs_of, wrap_of, with_hand, with_proofs, no_bound, are_new, differ, given_to, overlaid, named_value, word_sight, Sight, is_seen, fact_is_true, owned_tokens}
use Rattle.sync_thread_meaning.specs.Sound.{clauses_are_kept, word_is_kept}
use Rattle.sync_thread_meaning.specs.Words.{OpenBlock, Taken, taken_out, with_owned, word_opened}
use Rattle.sync_typing.specs.Blocks.{AroundTree, Inside, in_word, shape_token, new_symbols, name_all, label_of, told_fact, zipped, open_row}
use Rattle.sync_typing.specs.Dues.{are_apart}
use Rattle.sync_typing.specs.Environments.{Env, Tokens, among, hand_after, is_held, stands, held_value, token_named, take_in, tell, use_up, TokenTree}
use Rattle.sync_typing.specs.Names.{AtWord, proof_is_named, as_many, are_names, are_apart_names, is_name, is_formula, if_there, is_number, is_form, shape_is_named, clause_is_named, known_in_word, decl_is_named}
use Rattle.sync_typing_laws.proofs.BlocksBags.{all_at, each_index, tidy_moved}
use Rattle.sync_typing_laws.proofs.BlocksDecls.{word_named}
use Rattle.sync_typing_laws.proofs.BlocksNames.{with_new, new_agrees, new_values, length_new, new_below, named_hand, named_facts, named_fresh, named_low, named_cases, named_all}
use Rattle.sync_typing_laws.proofs.BlocksRows.{ok_same, bind_ok, told, takes_in, tell_ok, fact_ok, new_ok}
use Rattle.sync_typing_laws.proofs.BlocksTaken.{Out, comes_out}
use Rattle.sync_typing_laws.proofs.BlocksTerms.{num_below, truth_below, names_more, form_names_more}
use Rattle.sync_typing_laws.proofs.BlocksTokens.{held_append, among_none, apart_differ, held_not_new, all_same, is_some_map, all_append, apart_append}
use Rattle.sync_typing_laws.proofs.BlocksWord.{term_is, form_is, form_names, term_names, in_word_scoped, constant_low}
use Rattle.sync_typing_laws.specs.Rests.{IsTidy, IsApart, StandsAt, StandsAround, StandsOpen, AgreeBelow, HasConstants, IsKnown, IsScopedEnv, worth, clauses_are_half_kept}
use Rattle.sync_typing_laws.specs.Soundness.{HasNamedWords, OpenStands, world_with}
use Rattle.sync_kernel_facts.specs.Facts as facts
use mathlib.Core.Path.{refl, sym, ap, subst, ◌∙◌}

-- ---- the row

-- the environment behind the row
abbrev pub opened_env : WordTree → (ℕ → Tree) → List ℕ → List ℕ → List Tree → Option ℕ → Env → Env
opened_env w s names tokens withs label e = let telling : Env = told (label_of w.fact label) (told_fact s w.fact) (name_all names withs (use_up (length names) e)) in
    record { terms = telling.terms; hand = hand_after [] (zipped tokens (map (λ (c : ClauseTree). shape_token s c.shape) (filter is_unguarded w.clauses))) telling.hand; facts = telling.facts; fresh = telling.fresh }

pub opens_to : (line : ℕ) (a : AroundTree) (names tokens : List ℕ) (label : Option ℕ) (e : Env) (c : Inside) → open_row line a names tokens label e ≡ Ok c
    → ((list_all (λ n. not (is_held e n)) tokens && are_apart tokens) ≡ true)
    × (c ≡ record { env = opened_env a.word (in_word e a.word a.index a.old (new_symbols e.fresh names)) names tokens (new_symbols e.fresh names) label e; withs = new_symbols e.fresh names; decided = [] })
opens_to line a names tokens label e c is =
    let last = bind_ok _ (λ (new : Env). Ok (record { env = new; withs = new_symbols e.fresh names; decided = [] })) c is in
    let begun = new_ok line e tokens _ last.0 last.1 in
    let taken = bind_ok (tell line (label_of a.word.fact label) (told_fact s a.word.fact) (name_all names (new_symbols e.fresh names) (use_up (length names) e)))
    (take_in line [] (zipped tokens (map (λ (c : ClauseTree). shape_token s c.shape) (filter is_unguarded a.word.clauses)))) last.0 (fact_ok line s a.word.fact _ last.0 begun.1) in
    let first_env = tell_ok line (label_of a.word.fact label) (told_fact s a.word.fact) (name_all names (new_symbols e.fresh names) (use_up (length names) e)) taken.0 taken.1 in
    let last_env = takes_in line [] (zipped tokens (map (λ (c : ClauseTree). shape_token s c.shape) (filter is_unguarded a.word.clauses))) taken.0 last.0 taken.2 in (
      begun.0,
      sym (ok_same (record { env = last.0; withs = new_symbols e.fresh names; decided = [] }) c last.2)
          ∙ ap (λ (d : Env). let r : Inside = record { env = d; withs = new_symbols e.fresh names; decided = [] } in r)
          (last_env ∙ ap (λ (d : Env). let r : Env = record { terms = d.terms; hand = hand_after [] (zipped tokens (map (λ (c : ClauseTree). shape_token s c.shape) (filter is_unguarded a.word.clauses))) d.hand; facts = d.facts; fresh = d.fresh } in r) first_env),
    ) where
      s : ℕ → Tree
      s = in_word e a.word a.index a.old (new_symbols e.fresh names)

pub set_get : {X : Type 0} (xs : List X) (i : ℕ) (old new : X) → slice_get xs i ≡ Some old → slice_get (slice_set xs i new) i ≡ Some new
set_get [] i old new is = absurd (cc)
set_get (x ∷ xs) zero old new is = refl
set_get (x ∷ xs) (suc i) old new is = set_get xs i old new is

pub none_is : {A : Type 0} (o : Option A) → is_none o ≡ true → o ≡ None
none_is None e = refl
none_is (Some a) e = absurd (cc)

-- ---- what stays

pub empty_apart : IsApart []
unfolding IsDistinct
empty_apart = tt

told_terms : (label : Option ℕ) (form : Formula) (e : Env) → (told label form e).terms ≡ e.terms
told_terms None form e = refl
told_terms (Some n) form e = refl

told_hand : (label : Option ℕ) (form : Formula) (e : Env) → (told label form e).hand ≡ e.hand
told_hand None form e = refl
told_hand (Some n) form e = refl

told_fresh : (label : Option ℕ) (form : Formula) (e : Env) → (told label form e).fresh ≡ e.fresh
told_fresh None form e = refl
told_fresh (Some n) form e = refl

told_facts : (P : Fact → Type 0) (label : Option ℕ) (form : Formula) (e : Env) → AllByRecursion P e.facts → ((n : ℕ) → label ≡ Some n → P (facts.named n form)) → AllByRecursion P (told label form e).facts
told_facts P None form e all new = all
told_facts P (Some n) form e all new = all_append P e.facts (facts.named n form ∷ []) all (new n refl, tt)

given_none : (names : List ℕ) (values : List ℤ) (y : ℕ) → is_in y names ≡ false → given_to names values y ≡ None
given_none [] values y e = refl
given_none (n ∷ ns) [] y e = refl
given_none (n ∷ ns) (z ∷ zs) y e = tested (nat_eq y n) (given_none ns zs y) e where
  tested : (b : Bool) → (is_in y ns ≡ false → given_to ns zs y ≡ None) → (b || is_in y ns) ≡ false → (if b then Some z else given_to ns zs y) ≡ None
  tested true later e = absurd (cc)
  tested false later e = later e

overlaid_some : (f g : ℕ → Option ℤ) (n : ℕ) (z : ℤ) → f n ≡ Some z → overlaid f g n ≡ Some z
overlaid_some f g n z is = rw (is) refl

overlaid_none : (f g : ℕ → Option ℤ) (n : ℕ) → f n ≡ None → overlaid f g n ≡ g n
overlaid_none f g n is = rw (is) refl

opened_is : (x : MachineWithProgram) (t i : ℕ) (names tokens : List ℕ) (g : Shares) (p : WordAt) (o : Owned) (k : Taken) → slice_get (array_words x.program.decls) i ≡ Some p → slice_get g.owned i ≡ Some o → are_new tokens (hand_of g t) ≡ true → taken_out p.word.clauses o.tokens tokens ≡ Ok k
    → word_opened x t i names tokens g ≡ Ok (with_owned i (record { tokens = k.owned; values = o.values }) (with_proofs t (overlaid (given_to names o.values) (proofs_of g t)) (with_hand t (hand_of g t ++ k.held) g)))
opened_is x t i names tokens g p o k a b c d = rw (a, b, c, d) refl

pub low_unheld : (y : ℕ) → y < 64 → token_named y ≡ None
low_unheld y l = let a : nat_lt 63 y ≡ false = le-ltb 63 y (omega (arith)) in rw (a) refl

-- what a shape's terms name, read in a word
module _ (q : ℕ → Bool) (x : MachineWithProgram) (w : WordTree) (s : ℕ → Tree) (known : (y : ℕ) → is_some (known_in_word x w y) ≡ true → names_only q (s y) ≡ true) where
  key_scoped : (o : Option Tree) → if_there (is_number (known_in_word x w)) o ≡ true → names_only q (replaced s (or_zero o)) ≡ true
  unfolding names_only replaced
  key_scoped None e = refl
  key_scoped (Some u) e = term_names q x w s known u (none_is (number_fault (known_in_word x w) u) e)

  value_scoped : (o : Option Tree) → if_there (is_number (known_in_word x w)) o ≡ true → names_only q (replaced s (unwrap_or o one)) ≡ true
  unfolding names_only replaced
  value_scoped None e = refl
  value_scoped (Some u) e = term_names q x w s known u (none_is (number_fault (known_in_word x w) u) e)

  pub shape_scoped : (sh : ShapeTree) → shape_is_named x (known_in_word x w) sh ≡ true → (names_only q (shape_token s sh).key ≡ true) × (names_only q (shape_token s sh).value ≡ true)
  shape_scoped sh named = let a = and_parts (is_form x sh) _ named in let c = and_parts (if_there (is_number (known_in_word x w)) sh.key) (if_there (is_number (known_in_word x w)) sh.value) a.1 in (key_scoped sh.key c.0, value_scoped sh.value c.1)

  filtered : (cs : List ClauseTree) → list_all (clause_is_named x w) cs ≡ true → list_all (clause_is_named x w) (filter is_unguarded cs) ≡ true
  filtered [] named = refl
  filtered (c ∷ cs) named = tested (is_unguarded c) (filtered cs k.1) where
    k : (clause_is_named x w c ≡ true) × (list_all (clause_is_named x w) cs ≡ true)
    k = and_parts (clause_is_named x w c) (list_all (clause_is_named x w) cs) named

    tested : (b : Bool) → list_all (clause_is_named x w) (filter is_unguarded cs) ≡ true → list_all (clause_is_named x w) (if b then c ∷ filter is_unguarded cs else filter is_unguarded cs) ≡ true
    tested true later = let a = k.0 in rw (a) later
    tested false later = later

  each_scoped : (n : ℕ) (u : TokenTree) (tokens : List ℕ) (ds : List ClauseTree) → list_all (clause_is_named x w) ds ≡ true → among (zipped tokens (map (λ (c : ClauseTree). shape_token s c.shape) ds)) n ≡ Some u → (names_only q u.key ≡ true) × (names_only q u.value ≡ true)
  each_scoped n u [] ds named is = absurd (cc)
  each_scoped n u (m ∷ ms) [] named is = absurd (cc)
  each_scoped n u (m ∷ ms) (c ∷ ds) named is = tested (nat_eq m n) (each_scoped n u ms ds k.1) is where
    k : (clause_is_named x w c ≡ true) × (list_all (clause_is_named x w) ds ≡ true)
    k = and_parts (clause_is_named x w c) (list_all (clause_is_named x w) ds) named

    tested : (b : Bool) → (among (zipped ms (map (λ (c : ClauseTree). shape_token s c.shape) ds)) n ≡ Some u → (names_only q u.key ≡ true) × (names_only q u.value ≡ true))
        → (if b then Some (shape_token s c.shape) else among (zipped ms (map (λ (c : ClauseTree). shape_token s c.shape) ds)) n) ≡ Some u → (names_only q u.key ≡ true) × (names_only q u.value ≡ true)
    tested true later is = let same : shape_token s c.shape ≡ u = cc in subst (λ (r : TokenTree). (names_only q r.key ≡ true) × (names_only q r.value ≡ true)) same
        (shape_scoped c.shape (and_parts (shape_is_named x (known_in_word x w) c.shape) (if_there (is_formula (known_in_word x w)) c.guard) k.0).0)
    tested false later is = later is

  pub shapes_scoped : (tokens : List ℕ) (cs : List ClauseTree) → list_all (clause_is_named x w) cs ≡ true → (n : ℕ) (u : TokenTree) → among (zipped tokens (map (λ (c : ClauseTree). shape_token s c.shape) (filter is_unguarded cs))) n ≡ Some u
      → (names_only q u.key ≡ true) × (names_only q u.value ≡ true)
  shapes_scoped tokens cs named n u is = each_scoped n u tokens (filter is_unguarded cs) (filtered cs named) is

-- ---- the word opens

module _ (x : MachineWithProgram) (named : HasNamedWords x) (is_assigned : ℕ → Bool) (v : Valuation) (e : Env) (index older newer : Tree) (t : ℕ) (s : World) (b : OpenBlock) (p : WordAt)
    (there : slice_get (array_words x.program.decls) b.number ≡ Some p) (is_index : num v index ≡ pos p.index) (is_older : num v older ≡ b.around.old) (is_newer : num v newer ≡ b.around.new)
    (scoped : (names_only (λ y. nat_lt y e.fresh) index && (names_only (λ y. nat_lt y e.fresh) older && names_only (λ y. nat_lt y e.fresh) newer)) ≡ true)
    (older_named : stands e 34 ≡ older) (newer_named : stands e 35 ≡ newer)
    (thread : t ≤ length x.program.threads) (tidy : IsTidy x s) (st : StandsAt x is_assigned v e t s) (old : ℕ) (was : b.around.old ≡ pos old) (owned : Owned) (owns : slice_get s.shares.owned b.number ≡ Some owned)
    (many : length owned.values ≡ length p.word.names) (kept : word_is_kept (fields_of x) s.shares.kept p old owned ≡ true) (undecided : b.decided ≡ [])
    (names tokens : List ℕ) (label : Option ℕ) (names_many : length names ≡ length p.word.names) (tokens_many : length tokens ≡ count_by is_unguarded p.word.clauses) (names_are : are_names names ≡ true) (names_apart : are_apart names ≡ true)
    (free : (y : ℕ) → is_assigned y ≡ true → is_in y names ≡ false)
    (new_tokens : (list_all (λ n. not (is_held e n)) tokens && are_apart tokens) ≡ true) where
  abbrev w : Valuation
  w = with_new e.fresh owned.values v

  abbrev withs : List Tree
  withs = new_symbols e.fresh names

  abbrev reads : ℕ → Tree
  reads = in_word e p.word index older withs

  agree : AgreeBelow e.fresh v w
  agree = new_agrees e.fresh owned.values v

  values : map (num w) withs ≡ owned.values
  values = new_values e.fresh owned.values v names (omega (arith))

  stays : (u : Tree) → names_only (λ y. nat_lt y e.fresh) u ≡ true → num w u ≡ num v u
  stays u is = num_below e.fresh v w agree u is

  constants : HasConstants x w e s
  constants f l c = let k = st.constants f l c in (k.0, k.1, stays k.0 (st.scoped.names f k.0 k.1) ∙ k.2)

  in_scope : (names_only (λ y. nat_lt y e.fresh) index ≡ true) × (names_only (λ y. nat_lt y e.fresh) older ≡ true) × (names_only (λ y. nat_lt y e.fresh) newer ≡ true)
  in_scope = let a = and_parts (names_only (λ y. nat_lt y e.fresh) index) _ scoped in let c = and_parts (names_only (λ y. nat_lt y e.fresh) older) _ a.1 in (a.0, c.0, c.1)

  with_many : length p.word.names ≡ length withs
  with_many = sym (length_new e.fresh names ∙ names_many)

  index_now : num w index ≡ pos p.index
  index_now = stays index in_scope.0 ∙ is_index

  older_now : num w older ≡ pos old
  older_now = stays older in_scope.1 ∙ is_older ∙ was

  word_kept : word_is_kept (fields_of x) s.shares.kept p old (record { tokens = owned.tokens; values = map (num w) withs }) ≡ true
  word_kept = subst (λ vs. word_is_kept (fields_of x) s.shares.kept p old (record { tokens = owned.tokens; values = vs }) ≡ true) (sym values) kept

  word_parts : (fact_is_true (word_sight (fields_of x) s.shares.kept p (pos old) (map (num w) withs)) p.word.fact ≡ true)
      × (clauses_are_kept (word_sight (fields_of x) s.shares.kept p (pos old) (map (num w) withs)) p.word.clauses owned.tokens ≡ true)
  word_parts = and_parts _ _ word_kept

  decl : decl_is_named x (Word p.word) ≡ true
  decl = word_named x named.named b.number p there

  clauses_named : (list_all (clause_is_named x p.word) p.word.clauses ≡ true) × (if_there (is_formula (known_in_word x p.word)) p.word.fact ≡ true)
  clauses_named = let a = and_parts _ _ decl in let c = and_parts (are_apart_names p.word.names) _ a.1 in and_parts _ _ c.1

  shaped : AllByRecursion (IsToken (fields_of x)) (owned_tokens owned)
  shaped = all_at (IsToken (fields_of x)) owned_tokens s.shares.owned b.number owned owns (beside_tokens (flat_map tokens_in s.shares.hands) (flat_map owned_tokens s.shares.owned) s.shares.dust tidy.sound.shaped.tokens) where
    beside_tokens : (hands owns dust : List Token) → AllByRecursion (IsToken (fields_of x)) (hands ++ (owns ++ dust)) → AllByRecursion (IsToken (fields_of x)) owns
    beside_tokens [] [] dust all = tt
    beside_tokens [] (o ∷ os) dust all = (all.0, beside_tokens [] os dust all.1)
    beside_tokens (h ∷ hs) os dust all = beside_tokens hs os dust all.1

  abbrev sight : Sight
  sight = word_sight (fields_of x) s.shares.kept p (pos old) (map (num w) withs)

  reads_is : (u : Tree) → number_fault (known_in_word x p.word) u ≡ None → num w (replaced reads u) ≡ num sight.valuation u
  reads_is = term_is x named.few_fields w e s constants p index older withs (pos old) index_now older_now with_many

  out : Out x named.few_fields p.word reads w sight reads_is p.word.clauses owned.tokens tokens
  out = comes_out x named.few_fields p.word reads w sight reads_is p.word.clauses owned.tokens tokens word_parts.1 clauses_named.0 tokens_many shaped

  -- what the block knows then
  abbrev form : Formula
  form = told_fact reads p.word.fact

  abbrev entered : Tokens
  entered = zipped tokens (map (λ (c : ClauseTree). shape_token reads c.shape) (filter is_unguarded p.word.clauses))

  abbrev begun : Env
  begun = name_all names withs (use_up (length names) e)

  abbrev later : Env
  later = opened_env p.word reads names tokens withs label e

  now_terms : (y : ℕ) → later.terms y ≡ begun.terms y
  now_terms y = ap (λ (f : ℕ → Option Tree). f y) (told_terms (label_of p.word.fact label) (told_fact reads p.word.fact) (name_all names withs (use_up (length names) e)))

  now_hand : (n : ℕ) → later.hand n ≡ first (among entered n) (e.hand n)
  now_hand n = ap (λ (h : ℕ → Option TokenTree). first (among (zipped tokens (map (λ (c : ClauseTree). shape_token reads c.shape) (filter is_unguarded p.word.clauses))) n) (h n))
      (told_hand (label_of p.word.fact label) (told_fact reads p.word.fact) (name_all names withs (use_up (length names) e)) ∙ named_hand names withs (use_up (length names) e))

  now_fresh : later.fresh ≡ e.fresh + length names
  now_fresh = told_fresh (label_of p.word.fact label) (told_fact reads p.word.fact) (name_all names withs (use_up (length names) e)) ∙ named_fresh names withs (use_up (length names) e)

  wider : (y : ℕ) → nat_lt y e.fresh ≡ true → nat_lt y later.fresh ≡ true
  wider y l = let a = ltb-true y e.fresh l in lt-ltb y later.fresh (let c = now_fresh in omega (arith))

  wide : (u : Tree) → names_only (λ y. nat_lt y e.fresh) u ≡ true → names_only (λ y. nat_lt y later.fresh) u ≡ true
  wide u is = names_more (λ y. nat_lt y e.fresh) (λ y. nat_lt y later.fresh) wider u is

  now_low : (y : ℕ) → y < 64 → later.terms y ≡ e.terms y
  now_low y l = now_terms y ∙ named_low names withs (use_up (length names) e) y l

  -- symbols that are no names stand for what they stood for
  stood : (y : ℕ) → y < 64 → token_named y ≡ None → stands later y ≡ stands e y
  stood y l unheld = ap (λ o. unwrap_or (first (later.terms y) (held_value later.hand o)) (Name y)) unheld ∙ ap (λ o. unwrap_or (first o None) (Name y)) (now_low y l)
      ∙ sym (ap (λ o. unwrap_or (first (e.terms y) (held_value e.hand o)) (Name y)) unheld)

  -- ---- the tokens

  tokens_new : are_new tokens (hand_of s.shares t) ≡ true
  tokens_new = let a = and_parts (list_all (λ n. not (is_held e n)) tokens) (are_apart tokens) new_tokens in
      let c : differ tokens ≡ true = sym (apart_differ tokens) ∙ a.1 in
      let d : list_all (λ n. is_none (held_as n (hand_of s.shares t))) tokens ≡ true = all_same (λ n. is_none (held_as n (hand_of s.shares t))) (λ n. not (is_held e n)) (λ n. ap is_none (st.hand n) ∙ is_some_map (worth v) (e.hand n)) tokens ∙ a.0 in
      rw (c, d) refl

  abbrev hand : List Held
  hand = hand_of s.shares t ++ out.taken.held

  abbrev given : Shares
  given = with_owned b.number (record { tokens = out.taken.owned; values = owned.values }) (with_proofs t (overlaid (given_to names owned.values) (proofs_of s.shares t)) (with_hand t hand s.shares))

  done : proof_step no_bound x t (InBlock b) s.memory (Open names tokens label) s.shares ≡ Ok given
  done = opened_is x t b.number names tokens s.shares p owned out.taken there owns tokens_new out.is

  still_tidy : IsTidy x (world_with s given)
  still_tidy = tidy_moved x s tidy t b.number (hand_of s.shares t ++ out.taken.held) (slice_set s.shares.proofs t (overlaid (given_to names owned.values) (proofs_of s.shares t))) (length-set s.shares.proofs t _)
      p there owned (record { tokens = out.taken.owned; values = owned.values }) owns many
      (apart_append (hand_of s.shares t) out.taken.held tokens out.under tokens_new (each_index IsApart s.shares.hands t [] tidy.apart (empty_apart)))
      (λ P inhand inword. let k = out.tokens P inword in (subst (AllByRecursion P) (sym (tokens_append (hand_of s.shares t) out.taken.held)) (all_append P (tokens_in (hand_of s.shares t)) (tokens_in out.taken.held) inhand k.0), k.1)) where
        tokens_append : (xs ys : List Held) → tokens_in (xs ++ ys) ≡ tokens_in xs ++ tokens_in ys
        tokens_append xs ys = map-append (λ (h : Held). h.token) xs ys

  hand_given : hand_of given t ≡ hand
  hand_given = get_or-set_same s.shares.hands t hand [] (let l = tidy.hands in omega (arith))

  proofs_given : proofs_of given t ≡ overlaid (given_to names owned.values) (proofs_of s.shares t)
  proofs_given = get_or-set_same s.shares.proofs t (overlaid (given_to names owned.values) (proofs_of s.shares t)) (λ y. None) (let l = tidy.proofs in omega (arith))

  worth_same : (n : ℕ) (u : TokenTree) → e.hand n ≡ Some u → worth w u ≡ worth v u
  worth_same n u is = let a = stays u.key (st.scoped.keys n u is) in let c = stays u.value (st.scoped.values n u is) in
      ap (λ (z : ℤ). let r : Token = record { field = u.field; key = z; value = num w u.value } in r) a ∙ ap (λ (z : ℤ). let r : Token = record { field = u.field; key = num v u.key; value = z } in r) c

  held_now : (n : ℕ) → held_as n (hand_of given t) ≡ option_map (worth w) (later.hand n)
  held_now n = ap (held_as n) hand_given ∙ held_append n (hand_of s.shares t) out.taken.held ∙ ap (λ o. first o (held_as n out.taken.held)) (st.hand n) ∙ ap (λ o. first (option_map (worth v) (e.hand n)) o) (out.held n)
      ∙ tested (e.hand n) refl ∙ ap (option_map (worth w)) (sym (now_hand n)) where
        tested : (o : Option TokenTree) → e.hand n ≡ o → first (option_map (worth v) (e.hand n)) (option_map (worth w) (among entered n)) ≡ option_map (worth w) (first (among entered n) (e.hand n))
        tested None is = ap (λ o. first (option_map (worth v) o) (option_map (worth w) (among entered n))) is ∙ right (among entered n) ∙ ap (λ o. option_map (worth w) (first (among entered n) o)) (sym is) where
          right : (o : Option TokenTree) → option_map (worth w) o ≡ option_map (worth w) (first o None)
          right None = refl
          right (Some z) = refl
        tested (Some u) is =
            let a : is_held e n ≡ true = ap is_some is in
            let c : among entered n ≡ None = among_none n tokens _ (held_not_new (is_held e) n tokens (and_parts (list_all (λ n. not (is_held e n)) tokens) (are_apart tokens) new_tokens).0 a) in
            ap (λ o. first (option_map (worth v) o) (option_map (worth w) (among entered n))) is ∙ ap Some (sym (worth_same n u is)) ∙ sym (ap (λ o. option_map (worth w) (first o (e.hand n))) c ∙ ap (option_map (worth w)) is)

  -- ---- what stands

  names_now : (y : ℕ) (u : Tree) → later.terms (name_symbol y) ≡ Some u → num w u ≡ named_value (proofs_of given t) (locals_of s.memory t) y
  names_now y u is = elim (named_cases w names withs (use_up (length names) e) (sym (length_new e.fresh names)) names_apart y u (sym (now_terms (name_symbol y)) ∙ is)) [
    | inl g ↦ sym (ap (λ (f : ℕ → Option ℤ). unwrap_or (f y) (pos (locals_of s.memory t y))) proofs_given ∙ ap (λ o. unwrap_or o (pos (locals_of s.memory t y))) (overlaid_some (given_to names owned.values) (proofs_of s.shares t) y (num w u) (ap (λ zs. given_to names zs y) (sym values) ∙ g)))
    | inr r ↦ stays u (st.scoped.names (name_symbol y) u r.2) ∙ st.names y u r.2 ∙ sym (ap (λ (f : ℕ → Option ℤ). unwrap_or (f y) (pos (locals_of s.memory t y))) proofs_given
        ∙ ap (λ o. unwrap_or o (pos (locals_of s.memory t y))) (overlaid_none (given_to names owned.values) (proofs_of s.shares t) y (ap (λ zs. given_to names zs y) (sym values) ∙ r.0)))
  ]

  no_proofs_now : (y : ℕ) → is_assigned y ≡ true → proofs_of given t y ≡ None
  no_proofs_now y is = ap (λ (f : ℕ → Option ℤ). f y) proofs_given ∙ overlaid_none (given_to names owned.values) (proofs_of s.shares t) y (given_none names owned.values y (free y is)) ∙ st.no_proofs y is

  -- what a symbol below those of names stands for is in scope
  stands_scoped : (y : ℕ) → y < 64 → token_named y ≡ None → names_only (λ z. nat_lt z e.fresh) (stands e y) ≡ true
  unfolding names_only
  stands_scoped y l unheld = subst (λ u. names_only (λ z. nat_lt z e.fresh) u ≡ true) (sym (ap (λ o. unwrap_or (first (e.terms y) (held_value e.hand o)) (Name y)) unheld)) (tested (e.terms y) refl) where
    tested : (o : Option Tree) → e.terms y ≡ o → names_only (λ z. nat_lt z e.fresh) (unwrap_or (first o None) (Name y)) ≡ true
    tested None is = lt-ltb y e.fresh (let far = st.scoped.beyond in omega (arith))
    tested (Some u) is = st.scoped.names y u is

  wrap_now : num w (stands later 36) ≡ wrap_of given t
  wrap_now = ap (num w) (stood 36 (omega (arith)) refl) ∙ stays (stands e 36) (stands_scoped 36 (omega (arith)) refl) ∙ st.wrap

  constants_now : HasConstants x w later (world_with s given)
  constants_now f l c = let k = constants f l c in (k.0, now_low f (let few = named.few_fields in omega (arith)) ∙ k.1, k.2)

  known_scoped : (y : ℕ) → is_some (known_in_word x p.word y) ≡ true → names_only (λ z. nat_lt z later.fresh) (reads y) ≡ true
  known_scoped = in_word_scoped (λ z. nat_lt z later.fresh) x p.word e index older withs with_many (new_below e.fresh later.fresh names (let a = now_fresh in omega (arith))) (wide older in_scope.1) (wide index in_scope.0)
      (λ y c. let l = constant_low x named.few_fields y c in let few = named.few_fields in wide (stands e y) (stands_scoped y (omega (arith)) (low_unheld y (omega (arith)))))

  fact_true : (f : Formula) → p.word.fact ≡ Some f → Holds w (replaced_in reads f)
  fact_true f is = form_is x named.few_fields w e s constants p index older withs (pos old) index_now older_now with_many f (none_is (formula_fault (known_in_word x p.word) f) (subst (λ o. if_there (is_formula (known_in_word x p.word)) o ≡ true) is clauses_named.1))
      ∙ (and_parts (form_names_only (is_seen []) f) (truth sight.valuation f) (subst (λ o. fact_is_true sight o ≡ true) is word_parts.0)).1

  known_now : AllByRecursion (IsKnown w) later.facts
  known_now = told_facts (IsKnown w) (label_of p.word.fact label) (told_fact reads p.word.fact) begun
      (subst (AllByRecursion (IsKnown w)) (sym (named_facts names withs (use_up (length names) e))) (each e.facts st.known st.scoped.facts)) new where
        each : (fs : List Fact) → AllByRecursion (IsKnown v) fs → AllByRecursion (λ (f : Fact). form_names_only (λ z. nat_lt z e.fresh) f.form ≡ true) fs → AllByRecursion (IsKnown w) fs
        each [] known within = tt
        each (f ∷ fs) known within = ((known.0.0, truth_below e.fresh v w agree f.form within.0 ∙ known.0.1), each fs known.1 within.1)

        new : (n : ℕ) → label_of p.word.fact label ≡ Some n → IsKnown w (facts.named n (told_fact reads p.word.fact))
        new n is = tested p.word.fact refl is where
          tested : (o : Option Formula) → p.word.fact ≡ o → label_of o label ≡ Some n → IsKnown w (facts.named n (told_fact reads o))
          tested None e1 is = absurd (cc)
          tested (Some f) e1 is = (refl, fact_true f e1)

  each_new : AllByRecursion (λ u. (n : ℕ) → is_name n ≡ true → names_only (λ z. nat_lt z later.fresh) u ≡ true) withs
  each_new = from_list withs (new_below e.fresh later.fresh names (let a = now_fresh in omega (arith))) where
    from_list : (us : List Tree) → list_all (names_only (λ z. nat_lt z later.fresh)) us ≡ true → AllByRecursion (λ u. (n : ℕ) → is_name n ≡ true → names_only (λ z. nat_lt z later.fresh) u ≡ true) us
    from_list [] is = tt
    from_list (u ∷ us) is = let k = and_parts (names_only (λ z. nat_lt z later.fresh) u) (list_all (names_only (λ z. nat_lt z later.fresh)) us) is in ((λ n a. k.0), from_list us k.1)

  each_said : AllByRecursion (λ u. (n : ℕ) → is_name n ≡ true → (name_symbol n < 64) ⊎ IsTextName (name_symbol n)) withs
  each_said = any withs where
    any : (us : List Tree) → AllByRecursion (λ (u : Tree). (n : ℕ) → is_name n ≡ true → (name_symbol n < 64) ⊎ IsTextName (name_symbol n)) us
    any [] = tt
    any (u ∷ us) = ((λ n a. inr (n, refl, ltb-true n 1048576 a)), any us)

  tokens_scoped : (n : ℕ) (u : TokenTree) → later.hand n ≡ Some u → (names_only (λ z. nat_lt z later.fresh) u.key ≡ true) × (names_only (λ z. nat_lt z later.fresh) u.value ≡ true)
  tokens_scoped n u is = tested (among entered n) refl (sym (now_hand n) ∙ is) where
    tested : (o : Option TokenTree) → among entered n ≡ o → first o (e.hand n) ≡ Some u → (names_only (λ z. nat_lt z later.fresh) u.key ≡ true) × (names_only (λ z. nat_lt z later.fresh) u.value ≡ true)
    tested None e1 is = (wide u.key (st.scoped.keys n u is), wide u.value (st.scoped.values n u is))
    tested (Some z) e1 is = let same : z ≡ u = cc in subst (λ (r : TokenTree). (names_only (λ z. nat_lt z later.fresh) r.key ≡ true) × (names_only (λ z. nat_lt z later.fresh) r.value ≡ true)) same
        (shapes_scoped (λ z. nat_lt z later.fresh) x p.word reads known_scoped tokens p.word.clauses clauses_named.0 n z e1)

  facts_scoped : AllByRecursion (λ (f : Fact). form_names_only (λ z. nat_lt z later.fresh) f.form ≡ true) later.facts
  facts_scoped = told_facts (λ (f : Fact). form_names_only (λ z. nat_lt z later.fresh) f.form ≡ true) (label_of p.word.fact label) (told_fact reads p.word.fact) begun
      (subst (AllByRecursion (λ (f : Fact). form_names_only (λ z. nat_lt z later.fresh) f.form ≡ true)) (sym (named_facts names withs (use_up (length names) e))) (each e.facts st.scoped.facts)) new where
        each : (fs : List Fact) → AllByRecursion (λ (f : Fact). form_names_only (λ z. nat_lt z e.fresh) f.form ≡ true) fs → AllByRecursion (λ (f : Fact). form_names_only (λ z. nat_lt z later.fresh) f.form ≡ true) fs
        each [] within = tt
        each (f ∷ fs) within = (form_names_more (λ y. nat_lt y e.fresh) (λ y. nat_lt y later.fresh) wider f.form within.0, each fs within.1)

        new : (n : ℕ) → label_of p.word.fact label ≡ Some n → form_names_only (λ z. nat_lt z later.fresh) (told_fact reads p.word.fact) ≡ true
        new n is = tested p.word.fact refl is where
          tested : (o : Option Formula) → p.word.fact ≡ o → label_of o label ≡ Some n → form_names_only (λ z. nat_lt z later.fresh) (told_fact reads o) ≡ true
          tested None e1 is = absurd (cc)
          tested (Some f) e1 is = form_names (λ z. nat_lt z later.fresh) x p.word reads known_scoped f (none_is (formula_fault (known_in_word x p.word) f) (subst (λ o. if_there (is_formula (known_in_word x p.word)) o ≡ true) e1 clauses_named.1))

  scoped_now : IsScopedEnv later
  scoped_now = record {
    names = λ y u is. named_all (λ y u. names_only (λ z. nat_lt z later.fresh) u ≡ true) names withs (use_up (length names) e) (λ y u is. wide u (st.scoped.names y u is)) each_new names_are y u (sym (now_terms y) ∙ is);
    keys = λ n u is. (tokens_scoped n u is).0;
    values = λ n u is. (tokens_scoped n u is).1;
    facts = facts_scoped;
    said = λ y u is. named_all (λ y u. (y < 64) ⊎ IsTextName y) names withs (use_up (length names) e) st.scoped.said each_said names_are y u (sym (now_terms y) ∙ is);
    beyond = (let a = now_fresh in let far = st.scoped.beyond in omega (arith));
  }

  stands_now : StandsAt x is_assigned w later t (world_with s given)
  stands_now = record { constants = constants_now; names = names_now; no_proofs = no_proofs_now; wrap = wrap_now; hand = held_now; known = known_now; scoped = scoped_now }

  around_now : StandsAround x w later (record { word = p.word; index = index; old = older; new = newer }) b
  around_now = record {
    place = p;
    there = there;
    word = refl;
    index = index_now;
    old = stays older in_scope.1 ∙ is_older;
    new = stays newer in_scope.2 ∙ is_newer;
    scoped = (let a = wide index in_scope.0 in let c = wide older in_scope.1 in let d = wide newer in_scope.2 in rw (a, c, d) refl);
    old_named = stood 34 (omega (arith)) refl ∙ older_named;
    new_named = stood 35 (omega (arith)) refl ∙ newer_named;
  }

  open_now : StandsOpen x is_assigned w (record { env = later; withs = withs; decided = [] }) (record { word = p.word; index = index; old = older; new = newer }) t (world_with s given) b
  unfolding around_now
  open_now = record {
    stands = stands_now;
    around = around_now;
    old = old;
    was = was;
    owned = record { tokens = out.taken.owned; values = owned.values };
    owns = set_get s.shares.owned b.number owned _ owns;
    values = values;
    scoped = new_below e.fresh later.fresh names (let a = now_fresh in omega (arith));
    decided = sym undecided;
    kept = subst (λ vs. clauses_are_half_kept (word_sight (fields_of x) s.shares.kept p (pos old) vs) 1 [] p.word.clauses out.taken.owned ≡ true) values (out.half 1);
  }

  pub opens : (g : Shares) × (proof_step no_bound x t (InBlock b) s.memory (Open names tokens label) s.shares ≡ Ok g) × IsTidy x (world_with s g)
      × (u : Valuation) × AgreeBelow e.fresh v u × StandsOpen x is_assigned u (record { env = later; withs = withs; decided = [] }) (record { word = p.word; index = index; old = older; new = newer }) t (world_with s g) b
  opens = (given, done, still_tidy, w, agree, open_now)

pub open_stands : OpenStands
open_stands x named is_assigned v e a t s b thread tidy st around old was kept undecided line names tokens label proof free c row =
    let p : WordAt = around.place in
    let same : record { word = p.word; index = a.index; old = a.old; new = a.new } ≡ a = ap (λ (w : WordTree). let r : AroundTree = record { word = w; index = a.index; old = a.old; new = a.new } in r) (sym around.word) in
    let to = opens_to line (record { word = p.word; index = a.index; old = a.old; new = a.new }) names tokens label e c (subst (λ (z : AroundTree). open_row line z names tokens label e ≡ Ok c) (sym same) row) in
    let n1 = and_parts (as_many names p.word.names) _ (subst (λ w. proof_is_named x (AtWord w) (Open names tokens label) ≡ true) around.word proof) in
    let n2 = and_parts (nat_eq (length tokens) (count_by is_unguarded p.word.clauses)) _ n1.1 in
    let n3 = and_parts (are_apart_names names) _ n2.1 in
    let n4 = and_parts (are_names names) (are_apart names) n3.0 in
    let place : kept.place ≡ p = (let both : Some kept.place ≡ Some p = sym kept.there ∙ around.there in cc) in
    let r = opens x named is_assigned v e a.index a.old a.new t s b p around.there around.index around.old around.new around.scoped around.old_named around.new_named thread tidy st old was kept.owned kept.owns
    (subst (λ (q : WordAt). length kept.owned.values ≡ length q.word.names) place kept.named) (subst (λ (q : WordAt). word_is_kept (fields_of x) s.shares.kept q old kept.owned ≡ true) place kept.kept) undecided
    names tokens label (eqb-true (length names) (length p.word.names) n1.0) (eqb-true (length tokens) (count_by is_unguarded p.word.clauses) n2.0) n4.0 n4.1 free to.0 in
    (r.0, r.1, r.2, r.3, r.4, subst (λ (z : AroundTree). StandsOpen x is_assigned r.3 c z t (world_with s r.0) b) same (subst (λ (d : Inside). StandsOpen x is_assigned r.3 d (record { word = p.word; index = a.index; old = a.old; new = a.new }) t (world_with s r.0) b) (sym to.1) r.5))
