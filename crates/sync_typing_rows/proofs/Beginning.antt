-- Where a thread or the final block begins, its environment stands for what it has: keep by keep.
use Rattle.std.proofs.Common.{arith, inl, inr}
use Rattle.std.proofs.lemmas.Bool.{ltb-true, and_from}
use Rattle.std.proofs.lemmas.Bool.Decides.{nat_tests}
use Rattle.std.specs.List.{AllByRecursion, list_all}
use Rattle.std.specs.Prelude.{◌≡◌, ℕ, ◌%◌, ◌/◌, ◌-◌, ◌<◌, ◌≤◌, ℤ, pos, Bool, true, false, not, ◌&&◌, ◌||◌, if◌then◌else◌, nat_eq, nat_lt, List, [], ◌∷◌, ◌++◌, length, map, Option, Some, None, is_some, unwrap_or, option_map, Ok, Err, ◌⊎◌}
use Rattle.sync_base.specs.Outcome.{◌>>=◌, first}
use Rattle.sync_exchange.specs.Exchange.{held_as}
use Rattle.sync_exchange.specs.declared.hands.Held.{Held}
use Rattle.sync_join.specs.declared.tokens.Token.{Token as Shard}
use Rattle.sync_kernel_facts.specs.Facts.{Fact, named}
use Rattle.sync_machine.specs.Naming.{IsTextName, formula_fault, is_in}
use Rattle.sync_rules.specs.Locality.{form_names_only, names_only}
use Rattle.sync_terms.proofs.Meaning.{truth-replaced_in}
use Rattle.sync_terms.specs.Symbols.{name_symbol}
use Rattle.sync_terms.specs.Trees.{Tree, Lit, Name, replaced_in}
use Rattle.sync_terms.specs.Values.{Valuation, num, truth, with_terms}
use Rattle.sync_thread.specs.Code.{locals_of}
use Rattle.sync_thread.specs.Programs.{KeepFactTree, KeepLineTree, KeepTree}
use Rattle.sync_thread_machine.specs.MachineWithProgram.{MachineWithProgram, fields_of}
use Rattle.sync_thread_machine.specs.ProgramSymbols.{first_fresh, held_of, symbols, wrap_symbol}
use Rattle.sync_thread_meaning.specs.Meaning.{World}
use Rattle.sync_thread_meaning.specs.Shares.{Sight, amount_of, hand_of, is_seen, is_true, keep_facts_hold, named_value, proofs_of, wrap_of}
use Rattle.sync_typing.specs.Dues.{are_apart}
use Rattle.sync_typing.specs.Environments.{Env, Outcome, TokenTree, among, bounds, held_value, stands, take_in, token_named, top}
use Rattle.sync_typing.specs.Keeps.{at_beginning, bare, enter_keep, enter_keeps, is_at_hand_in, kept_tokens, local_bounds, option_all, own_tokens, tell_all}
use Rattle.sync_typing.specs.Names.{are_apart_names, are_names, is_formula, known_here, none_in, shape_is_named}
use Rattle.sync_typing.specs.Typing.{constants}
use Rattle.sync_typing_laws.proofs.KeepingSights.{numbers_only, or_one, value_field, value_held, value_name, value_wrap}
use Rattle.sync_typing_laws.proofs.KeepingTerms.{Same, and_first, and_second, same_truth}
use Rattle.sync_typing_laws.proofs.LocalGoes.{few_names}
use Rattle.sync_typing_laws.proofs.LocalMoves.{is_used, names_more}
use Rattle.sync_typing_laws.proofs.LocalSights.{replaced_form_names}
use Rattle.sync_typing_laws.specs.Rests.{HasConstants, IsKnown, IsTidy, KnowsConstants, is_lasting, worth}
use Rattle.sync_typing_laws.specs.RowLaws.{IsThreadOf}
use Rattle.sync_typing_laws.specs.Ruling.{scene_at}
use Rattle.sync_typing_laws.specs.Standing.{Standing}
use Rattle.sync_typing_rows.proofs.BeginTerms.{Says, OfConstant, OfLocal, OfOwn, at_first, in_append, in_fields, local_term, low_term, near_constant, or_false, says}
use Rattle.sync_typing_rows.proofs.KeepingEnv.{Shaped, Told, entered, keep_hand, number_none, take_in_is, tell_all_is}
use Rattle.sync_typing_rows.proofs.KeepingScoped.{in_held, in_symbols, text_low}
use Rattle.sync_typing_rows.proofs.KeepingShaped.{hand_tokens, lines_shaped}
use Rattle.sync_typing_rows.proofs.KeptScoped.{kept_in}
use Rattle.sync_typing_rows.specs.BeginLaws.{BeginningsStand, HasBegun, HasKept, IsFirstKeep, names_of, sight_at, tokens_of}
use mathlib.Core.Path.{refl, sym, ap, subst, ◌∙◌}

token_is : (y n : ℕ) → token_named y ≡ Some n → y ≡ held_of n
token_is y n is = by (nat_lt 63 y && (nat_lt y first_fresh && nat_eq (y % 4) 2)) refl is where
  some : (a b : ℕ) → Some a ≡ Some b → a ≡ b
  some a b k = ap (λ o. unwrap_or o a) k

  by : (b : Bool) → (nat_lt 63 y && (nat_lt y first_fresh && nat_eq (y % 4) 2)) ≡ b → (if b then Some ((y - 66) / 4) else None) ≡ Some n → y ≡ held_of n
  by true k j = let at : (y - 66) / 4 ≡ n = some ((y - 66) / 4) n j in
      let far : 63 < y = ltb-true 63 y (and_first (nat_lt 63 y) _ k) in
      let two : y % 4 ≡ 2 = (let t : nat_eq (y % 4) 2 ≡ true = and_second (nat_lt y first_fresh) (nat_eq (y % 4) 2) (and_second (nat_lt 63 y) _ k) in grind (arith, nat_tests)) in
      omega (arith, at, far, two)
  by false k j = absurd (let no : None ≡ Some n = j in cc)

low_token : (y : ℕ) → y < 64 → token_named y ≡ None
low_token y low = grind (arith, nat_tests)

none_of : {A B : Type 0} (f : A → B) (o : Option A) → option_map f o ≡ None → o ≡ None
none_of f None is = refl
none_of f (Some a) is = absurd (let no : Some (f a) ≡ None = is in cc)

apart_all : (ks : List KeepTree) (locals : List ℕ) → AllByRecursion (λ (k : KeepTree). none_in k.names locals ≡ true) ks → (n : ℕ) → is_in n locals ≡ true → is_in n (names_of ks) ≡ false
apart_all [] locals all n inside = refl
apart_all (k ∷ ks) locals all n inside = in_append n k.names (names_of ks) ∙ ap (λ b. b || is_in n (names_of ks)) (off k.names all.0) ∙ apart_all ks locals all.1 n inside where
  off : (ns : List ℕ) → none_in ns locals ≡ true → is_in n ns ≡ false
  off [] none = refl
  off (m ∷ ns) none = by (nat_eq n m) refl (off ns (and_second (not (is_in m locals)) _ none)) where
    by : (b : Bool) → nat_eq n m ≡ b → is_in n ns ≡ false → (b || is_in n ns) ≡ false
    by false k later = later
    by true k later = let at : n ≡ m = grind (arith, nat_tests) in
        absurd (let no : false ≡ true = ap not (sym (subst (λ z. is_in z locals ≡ true) at inside)) ∙ and_first (not (is_in m locals)) _ none in cc)

module _ (x : MachineWithProgram) (known : Env) (t : ℕ) (of_text : IsThreadOf x t) (knows : KnowsConstants x known) (s : World) (tidy : IsTidy x s) (has : (v : Valuation) → HasConstants x v known s)
    (all : List KeepTree) (firsts : AllByRecursion (IsFirstKeep x known t) all) (begun : HasBegun x t s all) where
  abbrev locals : List ℕ
  locals = (scene_at x t).locals

  abbrev w : Sight
  w = sight_at x t s

  abbrev v : Valuation
  v = w.valuation

  abbrev hs : List Held
  hs = hand_of s.shares t

  abbrev terms : ℕ → Option Tree
  terms = at_first known locals all

  abbrev q : ℕ → Bool
  q = is_used first_fresh

  words : List ℤ
  words = pos 0 ∷ pos 0 ∷ pos 0 ∷ pos 0 ∷ wrap_of s.shares t ∷ []

  abbrev named_here : ℕ → ℤ
  named_here = named_value (proofs_of s.shares t) (locals_of s.memory t)

  name_is : (n : ℕ) → v.number (name_symbol n) ≡ named_here n
  name_is n = value_name (fields_of x) s.shares.kept (pos 0 ∷ pos 0 ∷ pos 0 ∷ pos 0 ∷ wrap_of s.shares t ∷ []) (named_value (proofs_of s.shares t) (locals_of s.memory t)) hs n of_text.few

  held_is : (n : ℕ) → v.number (held_of n) ≡ amount_of (held_as n hs)
  held_is n = value_held (fields_of x) s.shares.kept (pos 0 ∷ pos 0 ∷ pos 0 ∷ pos 0 ∷ wrap_of s.shares t ∷ []) (named_value (proofs_of s.shares t) (locals_of s.memory t)) hs n of_text.few

  name_lists : (ks : List KeepTree) → AllByRecursion (IsFirstKeep x known t) ks → list_all (λ (k : KeepTree). are_names k.names) ks ≡ true
  name_lists [] is = refl
  name_lists (k ∷ ks) is = and_from (are_names k.names) (list_all (λ (k : KeepTree). are_names k.names) ks) (and_first (are_names k.names) (are_apart k.names) (and_first (are_apart_names k.names) _ is.0.named)) (name_lists ks is.1)

  bind_lists : (ks : List KeepTree) → AllByRecursion (IsFirstKeep x known t) ks → AllByRecursion (λ (k : KeepTree). none_in k.names locals ≡ true) ks
  bind_lists [] is = tt
  bind_lists (k ∷ ks) is = (is.0.binds, bind_lists ks is.1)

  says_so : (y : ℕ) (u : Tree) → terms y ≡ Some u → Says known locals y u
  says_so y u is = says known locals all (name_lists all firsts) y u is

  free_local : (n : ℕ) → is_in n locals ≡ true → is_in n (names_of all) ≡ false
  free_local n inside = apart_all all locals (bind_lists all firsts) n inside

  no_proof : (n : ℕ) → is_in n locals ≡ true → proofs_of s.shares t n ≡ None
  no_proof n inside = begun.proofs n (free_local n inside)

  zero_local : (n : ℕ) → is_in n locals ≡ true → named_here n ≡ pos 0
  zero_local n inside = ap (λ o. unwrap_or o (pos (locals_of s.memory t n))) (no_proof n inside) ∙ ap pos (begun.locals n)

  some_tree : (a b : Tree) → Some a ≡ Some b → a ≡ b
  some_tree a b is = ap (λ o. unwrap_or o a) is

  -- the terms have the values of their symbols, and name none that is free
  value_of : (y : ℕ) (u : Tree) → Says known locals y u → num v u ≡ v.number y
  value_of y u (OfConstant low is) =
      let constant = knows.alone y u low is in
      let below : y < length (fields_of x) = in_fields (fields_of x) y constant in
      let it = has v y below constant in
      ap (num v) (some_tree u it.0 (sym is ∙ it.1)) ∙ it.2 ∙ sym (value_field (fields_of x) s.shares.kept (pos 0 ∷ pos 0 ∷ pos 0 ∷ pos 0 ∷ wrap_of s.shares t ∷ []) (named_value (proofs_of s.shares t) (locals_of s.memory t)) hs y below)
  value_of y u (OfOwn text is) = ap (num v) is
  value_of y u (OfLocal n at inside is) = ap (num v) is ∙ sym (ap v.number at ∙ name_is n ∙ zero_local n inside)

  name_used : (y : ℕ) → y < first_fresh → names_only q (Name y) ≡ true
  unfolding names_only
  name_used y low = grind (arith, nat_tests)

  zero_used : names_only q (Lit (pos 0)) ≡ true
  unfolding names_only
  zero_used = refl

  closed_used : (u : Tree) → names_only (λ (y : ℕ). false) u ≡ true → names_only q u ≡ true
  closed_used u is = names_more (λ (y : ℕ). false) q (λ y no. (let never : false ≡ true = no in cc)) u is

  used_of : (y : ℕ) (u : Tree) → Says known locals y u → names_only q u ≡ true
  used_of y u (OfConstant low is) = closed_used u (knows.closed y u low is)
  used_of y u (OfOwn text is) = subst (λ z. names_only q z ≡ true) (sym is) (name_used y (text_low y text))
  used_of y u (OfLocal n at inside is) = subst (λ z. names_only q z ≡ true) (sym is) zero_used

  -- ---- an environment between the keeps: D says which tokens have come in

  pub record Between (D : ℕ → Bool) (e : Env) : Type 0 where
    pub said : (y : ℕ) → e.terms y ≡ terms y
    pub fresh : e.fresh ≡ first_fresh
    pub held : (n : ℕ) → option_map (worth v) (e.hand n) ≡ (if D n then held_as n hs else None)
    pub facts : AllByRecursion (λ (f : Fact). IsKnown v f × (form_names_only q f.form ≡ true)) e.facts
    pub tokens : (n : ℕ) (a : TokenTree) → e.hand n ≡ Some a → (names_only q a.key ≡ true) × (names_only q a.value ≡ true)

  -- a token that came in is the one that is held
  came_in : (D : ℕ → Bool) (e : Env) (is : (n : ℕ) → option_map (worth v) (e.hand n) ≡ (if D n then held_as n hs else None)) (n : ℕ) (a : TokenTree) → e.hand n ≡ Some a → held_as n hs ≡ Some (worth v a)
  came_in D e is n a there = by (D n) (sym (is n) ∙ ap (option_map (worth v)) there) where
    by : (b : Bool) → (if b then held_as n hs else None) ≡ Some (worth v a) → held_as n hs ≡ Some (worth v a)
    by true k = k
    by false k = absurd (let no : None ≡ Some (worth v a) = k in cc)

  -- what symbols stand for is what they are
  same_here : (D : ℕ → Bool) (e : Env) → Between D e → (y : ℕ) → num v (stands e y) ≡ v.number y
  same_here D e is y = by (e.terms y) refl (token_named y) refl where
    tokens : (n : ℕ) → token_named y ≡ Some n → (o : Option TokenTree) → e.hand n ≡ o → num v (unwrap_or (option_map (λ (a : TokenTree). a.value) o) (Name y)) ≡ v.number y
    tokens n named_so None none = refl
    tokens n named_so (Some a) there = sym (ap v.number (token_is y n named_so) ∙ held_is n ∙ ap amount_of (came_in D e is.held n a there))

    by : (o : Option Tree) → e.terms y ≡ o → (m : Option ℕ) → token_named y ≡ m → num v (unwrap_or (first o (held_value e.hand m)) (Name y)) ≡ v.number y
    by (Some u) said m named_so = value_of y u (says_so y u (sym (is.said y) ∙ said))
    by None said None named_so = refl
    by None said (Some n) named_so = tokens n named_so (e.hand n) refl

  -- and they name none that is free
  used_here : (D : ℕ → Bool) (e : Env) → Between D e → (y : ℕ) → y < first_fresh → names_only q (stands e y) ≡ true
  used_here D e is y low = by (e.terms y) refl (token_named y) where
    tokens : (n : ℕ) (o : Option TokenTree) → e.hand n ≡ o → names_only q (unwrap_or (option_map (λ (a : TokenTree). a.value) o) (Name y)) ≡ true
    tokens n None none = name_used y low
    tokens n (Some a) there = (is.tokens n a there).1

    by : (o : Option Tree) → e.terms y ≡ o → (m : Option ℕ) → names_only q (unwrap_or (first o (held_value e.hand m)) (Name y)) ≡ true
    by (Some u) said m = used_of y u (says_so y u (sym (is.said y) ∙ said))
    by None said None = name_used y low
    by None said (Some n) = tokens n (e.hand n) refl

  -- ---- one keep comes in

  module _ (D : ℕ → Bool) (e : Env) (between : Between D e) (k : KeepTree) (first_keep : IsFirstKeep x known t k) (kept : HasKept x t s k) where
    abbrev p : ℕ → Bool
    p = is_at_hand_in (constants known) k

    abbrev more : ℕ → Bool
    more n = is_in n (own_tokens k) || D n

    abbrev mid : Env
    mid = entered [] (kept_tokens (stands e) k.lines) e

    rest : (are_apart_names (own_tokens k) && (list_all (λ (l : KeepLineTree). shape_is_named x (known_here x) l.shape) k.lines && list_all (λ (f : KeepFactTree). is_formula (known_here x) f.form) k.facts)) ≡ true
    rest = and_second (are_apart_names k.names) _ first_keep.named

    own_names : are_names (own_tokens k) ≡ true
    own_names = and_first (are_names (own_tokens k)) (are_apart (own_tokens k)) (and_first (are_apart_names (own_tokens k)) _ rest)

    line_names : list_all (λ (l : KeepLineTree). option_all (names_only p) l.shape.key && option_all (names_only p) l.shape.value) k.lines ≡ true
    line_names = and_first _ (list_all (λ (f : KeepFactTree). form_names_only p f.form) k.facts) first_keep.at_hand

    shaped : AllByRecursion (Shaped x p w hs) k.lines
    shaped = lines_shaped x of_text.few (constants known) k w hs (hand_tokens x t s tidy) k.lines kept.lines (and_first (list_all (λ (l : KeepLineTree). shape_is_named x (known_here x) l.shape) k.lines) _ (and_second (are_apart_names (own_tokens k)) _ rest))
        line_names own_names (λ n is. is)

    base : Same (known_here x) p (with_terms (stands e) v) v
    base y is_known at_hand = same_here D e between y

    kept_is : (n : ℕ) → option_map (worth v) (among (kept_tokens (stands e) k.lines) n) ≡ (if is_in n (own_tokens k) then held_as n hs else None)
    kept_is n = keep_hand x p v w hs (stands e) base (λ m a is. held_is m ∙ ap amount_of is) k.lines shaped n

    -- what is at hand is no free symbol
    at_hand_low : (y : ℕ) → p y ≡ true → y < first_fresh
    at_hand_low y is = elim (or_one (nat_lt y 64) (is_some (constants known y) || (is_in y (symbols k.names) || is_in y (map held_of (own_tokens k)))) is) [
      | inl small ↦ (let low : y < 64 = ltb-true y 64 small in omega (arith, low))
      | inr later ↦ elim (or_one (is_some (constants known y)) (is_in y (symbols k.names) || is_in y (map held_of (own_tokens k))) later) [
        | inl some ↦ constant (nat_lt y 32) refl some
        | inr other ↦ elim (or_one (is_in y (symbols k.names)) (is_in y (map held_of (own_tokens k))) other) [
          | inl name ↦ text_low y (in_symbols y k.names (and_first (are_names k.names) (are_apart k.names) (and_first (are_apart_names k.names) _ first_keep.named)) name)
          | inr token ↦ in_held y (own_tokens k) own_names token
        ]
      ]
    ] where
      constant : (b : Bool) → nat_lt y 32 ≡ b → is_some (if b then known.terms y else None) ≡ true → y < first_fresh
      constant true near some = let low : y < 32 = ltb-true y 32 near in omega (arith, low)
      constant false far some = absurd (let no : false ≡ true = some in cc)

    used_at : (y : ℕ) → p y ≡ true → names_only q (stands e y) ≡ true
    used_at y at_hand = used_here D e between y (at_hand_low y at_hand)

    held_names : (ls : List KeepLineTree) → AllByRecursion (Shaped x p w hs) ls → AllByRecursion (λ (l : KeepLineTree). p (held_of l.name) ≡ true) ls
    held_names [] is = tt
    held_names (l ∷ ls) is = (is.0.names, held_names ls is.1)

    some_first : {A : Type 0} (a o : Option A) → (b : A) → first a o ≡ Some b → (a ≡ Some b) ⊎ (o ≡ Some b)
    some_first (Some c) o b is = inl is
    some_first None o b is = inr is

    mapped_first : (a o : Option TokenTree) → option_map (worth v) (first a o) ≡ first (option_map (worth v) a) (option_map (worth v) o)
    mapped_first (Some c) o = refl
    mapped_first None o = refl

    merged : (b c : Bool) (o : Option Shard) → first (if b then o else None) (if c then o else None) ≡ (if b || c then o else None)
    merged true c (Some a) = refl
    merged true true None = refl
    merged true false None = refl
    merged false c o = refl

    mid_between : (facts : AllByRecursion (λ (f : Fact). IsKnown v f × (form_names_only q f.form ≡ true)) e.facts) → Between more mid
    mid_between facts = record {
      said = between.said;
      fresh = between.fresh;
      held = λ n. mapped_first (among (kept_tokens (stands e) k.lines) n) (e.hand n) ∙ ap (λ o. first o (option_map (worth v) (e.hand n))) (kept_is n) ∙ ap (λ o. first (if is_in n (own_tokens k) then held_as n hs else None) o) (between.held n) ∙ merged (is_in n (own_tokens k)) (D n) (held_as n hs);
      facts = facts;
      tokens = λ n a is. elim (some_first (among (kept_tokens (stands e) k.lines) n) (e.hand n) a is) [
        | inl new ↦ kept_in p q (stands e) used_at k.lines line_names (held_names k.lines shaped) n a new
        | inr old ↦ between.tokens n a old
      ];
    }

    facts_hold : (fs : List KeepFactTree) → list_all (λ (f : KeepFactTree). is_formula (known_here x) f.form) fs ≡ true → list_all (λ (f : KeepFactTree). form_names_only p f.form) fs ≡ true → keep_facts_hold w fs ≡ true
        → AllByRecursion (λ (f : KeepFactTree). (n : ℕ) → IsKnown v (named n (replaced_in (stands mid) f.form)) × (form_names_only q (replaced_in (stands mid) f.form) ≡ true)) fs
    facts_hold [] formed at_hand are = tt
    facts_hold (f ∷ fs) formed at_hand are = (
      λ n. (
        (
          refl,
          truth-replaced_in (stands mid) v f.form
              ∙ same_truth (known_here x) p (with_terms (stands mid) v) v (numbers_only x) (λ y is_known seen. same_here more mid (mid_between between.facts) y) f.form (number_none (formula_fault (known_here x) f.form) (and_first (is_formula (known_here x) f.form) _ formed)) (and_first (form_names_only p f.form) _ at_hand)
              ∙ and_second (form_names_only (is_seen w.hand) f.form) (truth v f.form) (and_first (is_true w f.form) (keep_facts_hold w fs) are),
        ),
        replaced_form_names p q (stands mid) (λ y seen. used_here more mid (mid_between between.facts) y (at_hand_low y seen)) f.form (and_first (form_names_only p f.form) _ at_hand),
      ),
      facts_hold fs (and_second (is_formula (known_here x) f.form) _ formed) (and_second (form_names_only p f.form) _ at_hand) (and_second (is_true w f.form) (keep_facts_hold w fs) are),
    )

    pub comes_in : (line : ℕ) (now : Env) → enter_keep line k e ≡ Ok now → Between more now
    comes_in line now is = went (take_in line [] (kept_tokens (stands e) k.lines) e) refl is where
      of : Told (λ (f : Fact). IsKnown v f × (form_names_only q f.form ≡ true)) mid now → Between more now
      of told = record {
        said = λ y. ap (λ f. f y) told.terms ∙ between.said y;
        fresh = told.fresh ∙ between.fresh;
        held = λ n. ap (λ h. option_map (worth v) (h n)) told.hand ∙ (mid_between between.facts).held n;
        facts = told.facts;
        tokens = λ n a there. (mid_between between.facts).tokens n a (sym (ap (λ h. h n) told.hand) ∙ there);
      }

      went : (o : Outcome Env) → take_in line [] (kept_tokens (stands e) k.lines) e ≡ o → (o >>= tell_all line k.facts) ≡ Ok now → Between more now
      went (Ok m) same is = let at : mid ≡ m = take_in_is line [] (kept_tokens (stands e) k.lines) e m same in
          of (tell_all_is (λ (f : Fact). IsKnown v f × (form_names_only q f.form ≡ true)) line k.facts mid now between.facts
          (facts_hold k.facts (and_second (list_all (λ (l : KeepLineTree). shape_is_named x (known_here x) l.shape) k.lines) _ (and_second (are_apart_names (own_tokens k)) _ rest)) (and_second (list_all (λ (l : KeepLineTree). option_all (names_only p) l.shape.key && option_all (names_only p) l.shape.value) k.lines) _ first_keep.at_hand) kept.facts)
          (subst (λ z. tell_all line k.facts z ≡ Ok now) (sym at) is))
      went (Err r) same is = let no : Err r ≡ Ok now = is in cc

  -- ---- all keeps

  abbrev come : List KeepTree → (ℕ → Bool) → ℕ → Bool
  come [] D = D
  come (k ∷ ks) D = come ks (λ n. is_in n (own_tokens k) || D n)

  all_come : (ks : List KeepTree) → AllByRecursion (IsFirstKeep x known t) ks → AllByRecursion (HasKept x t s) ks → (D : ℕ → Bool) (e : Env) → Between D e → (line : ℕ) (now : Env) → enter_keeps line ks e ≡ Ok now → Between (come ks D) now
  all_come [] named_all kept_all D e between line now is = subst (Between D) (ap (from e) is) between where
    from : Env → Outcome Env → Env
    from d (Ok y) = y
    from d (Err r) = d
  all_come (k ∷ ks) named_all kept_all D e between line now is = went (enter_keep line k e) refl is (λ m came j. all_come ks named_all.1 kept_all.1 (λ n. is_in n (own_tokens k) || D n) m came line now j) where
    went : (o : Outcome Env) → enter_keep line k e ≡ o → (o >>= enter_keeps line ks) ≡ Ok now → ((m : Env) → Between (λ n. is_in n (own_tokens k) || D n) m → enter_keeps line ks m ≡ Ok now → Between (come (k ∷ ks) D) now) → Between (come (k ∷ ks) D) now
    went (Ok m) same is later = later m (comes_in D e between k named_all.0 kept_all.0 line m same) is
    went (Err r) same is later = let no : Err r ≡ Ok now = is in cc

  not_come : (ks : List KeepTree) (D : ℕ → Bool) (n : ℕ) → come ks D n ≡ false → (is_in n (tokens_of ks) ≡ false) × (D n ≡ false)
  not_come [] D n is = (refl, is)
  not_come (k ∷ ks) D n is = let later = not_come ks (λ m. is_in m (own_tokens k) || D m) n is in let parts = or_false (is_in n (own_tokens k)) (D n) later.1 in
      (in_append n (own_tokens k) (tokens_of ks) ∙ ap (λ b. b || is_in n (tokens_of ks)) parts.0 ∙ later.0, parts.1)

  -- ---- the bounds of locals

  zero_known : (n : ℕ) → AllByRecursion (λ (f : Fact). IsKnown v f × (form_names_only q f.form ≡ true)) (bounds n (Lit (pos 0)) top)
  unfolding truth form_names_only names_only
  zero_known n = (((refl, refl), refl), (((refl, refl), refl), tt))

  bounds_hold : (ls : List ℕ) → ((n : ℕ) → is_in n ls ≡ true → is_in n locals ≡ true) → AllByRecursion (λ (f : Fact). IsKnown v f × (form_names_only q f.form ≡ true)) (local_bounds terms ls)
  bounds_hold [] inside = tt
  bounds_hold (n ∷ ls) inside = both (bounds (name_symbol n) (unwrap_or (terms (name_symbol n)) (Name (name_symbol n))) top)
      (subst (λ o. AllByRecursion (λ (f : Fact). IsKnown v f × (form_names_only q f.form ≡ true)) (bounds (name_symbol n) (unwrap_or o (Name (name_symbol n))) top)) (sym (local_term known locals all n (inside n here) (free_local n (inside n here)))) (zero_known (name_symbol n)))
      (bounds_hold ls (λ m is. inside m (more (nat_eq m n) (is_in m ls) is))) where
        here : is_in n (n ∷ ls) ≡ true
        here = let same : nat_eq n n ≡ true = grind (arith, nat_tests) in ap (λ b. b || is_in n ls) same

        more : (a b : Bool) → b ≡ true → (a || b) ≡ true
        more true b is = refl
        more false b is = is

        both : (fs : List Fact) → AllByRecursion (λ (f : Fact). IsKnown v f × (form_names_only q f.form ≡ true)) fs → AllByRecursion (λ (f : Fact). IsKnown v f × (form_names_only q f.form ≡ true)) (local_bounds terms ls)
            → AllByRecursion (λ (f : Fact). IsKnown v f × (form_names_only q f.form ≡ true)) (fs ++ local_bounds terms ls)
        both [] one two = two
        both (f ∷ fs) one two = (one.0, both fs one.1 two)

  abbrev begin : Env
  begin = bare terms locals first_fresh

  first_between : Between (λ n. false) begin
  first_between = record { said = λ y. refl; fresh = refl; held = λ n. refl; facts = bounds_hold locals (λ n is. is); tokens = λ n a is. (let no : None ≡ Some a = is in cc) }

  -- ---- the environment at the beginning

  facts_of : (fs : List Fact) → AllByRecursion (λ (f : Fact). IsKnown v f × (form_names_only q f.form ≡ true)) fs → AllByRecursion (IsKnown v) fs × AllByRecursion (λ (f : Fact). form_names_only q f.form ≡ true) fs
  facts_of [] is = (tt, tt)
  facts_of (f ∷ fs) is = let later = facts_of fs is.1 in ((is.0.0, later.0), (is.0.1, later.1))

  lasts : (m : ℕ) → names_only (is_lasting m) (Name wrap_symbol) ≡ true
  unfolding names_only
  lasts m = refl

  stands_then : (D : ℕ → Bool) (e : Env) → Between D e → ((n : ℕ) → D n ≡ false → held_as n hs ≡ None) → Standing x known t e [] s
  stands_then D e is rest_free = record {
    values = v;
    stands = record {
      constants = λ f below constant. (let it = has v f below constant in let low : f < 32 = (let few : length (fields_of x) ≤ 32 = of_text.few in omega (arith, few, below)) in (it.0, near f low ∙ it.1, it.2));
      names = λ y u said. value_of (name_symbol y) u (says_so (name_symbol y) u (sym (is.said (name_symbol y)) ∙ said)) ∙ name_is y;
      no_proofs = no_proof;
      wrap = same_here D e is wrap_symbol ∙ value_wrap (fields_of x) s.shares.kept (pos 0) (pos 0) (wrap_of s.shares t) (named_value (proofs_of s.shares t) (locals_of s.memory t)) hs of_text.few;
      hand = λ n. sym (is.held n ∙ by n (D n) refl);
      known = (facts_of e.facts is.facts).0;
      scoped = record {
        names = λ y u said. subst (λ m. names_only (is_used m) u ≡ true) (sym is.fresh) (used_of y u (says_so y u (sym (is.said y) ∙ said)));
        keys = λ n a there. subst (λ m. names_only (is_used m) a.key ≡ true) (sym is.fresh) (is.tokens n a there).0;
        values = λ n a there. subst (λ m. names_only (is_used m) a.value ≡ true) (sym is.fresh) (is.tokens n a there).1;
        facts = subst (λ m. AllByRecursion (λ (f : Fact). form_names_only (is_used m) f.form ≡ true) e.facts) (sym is.fresh) (facts_of e.facts is.facts).1;
        said = λ y u said. is_said y u (says_so y u (sym (is.said y) ∙ said));
        beyond = subst (λ m. first_fresh ≤ m) (sym is.fresh) (let same : first_fresh ≤ first_fresh = omega arith in same);
      };
    };
    same = near;
    unsaid = λ y below none. name_is y;
    lasting = subst (λ u. names_only (is_lasting e.fresh) u ≡ true) (sym wrap_is) (lasts e.fresh);
    chain = tt;
  } where
    near : (f : ℕ) → f < 32 → e.terms f ≡ known.terms f
    near f low = is.said f ∙ low_term known locals all f (let small : f < 32 = low in omega (arith, small)) ∙ near_constant known locals f low

    by : (n : ℕ) (b : Bool) → D n ≡ b → (if b then held_as n hs else None) ≡ held_as n hs
    by n true k = refl
    by n false k = sym (rest_free n k)

    is_said : (y : ℕ) (u : Tree) → Says known locals y u → (y < 64) ⊎ IsTextName y
    is_said y u (OfConstant low k) = inl (let small : y < 32 = low in omega (arith, small))
    is_said y u (OfOwn text k) = inr text
    is_said y u (OfLocal n at inside k) = inr (n, at, few_names x t of_text.names n inside)

    wrap_is : stands e wrap_symbol ≡ Name wrap_symbol
    wrap_is = ap (λ o. unwrap_or (first o (held_value e.hand (token_named wrap_symbol))) (Name wrap_symbol)) (is.said wrap_symbol ∙ low_term known locals all wrap_symbol (omega arith)) ∙ refl

  pub begins : (line : ℕ) (e : Env) → at_beginning line (constants known) locals all first_fresh ≡ Ok e → Standing x known t e [] s
  begins line e is = stands_then (come all (λ n. false)) e (all_come all firsts begun.kept (λ n. false) begin first_between line e is) (λ n none. begun.hand n (not_come all (λ m. false) n none).0)

pub beginnings_stand : BeginningsStand
beginnings_stand x known t of_text knows s tidy has ks firsts begun line e is = begins x known t of_text knows s tidy has ks firsts begun line e is
