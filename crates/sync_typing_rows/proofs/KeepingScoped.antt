-- After a keep no term or fact of its environment names a symbol that is still free.
use Rattle.std.proofs.Common.{arith, inl, inr}
use Rattle.std.proofs.lemmas.Bool.{ltb-true, and_from}
use Rattle.std.proofs.lemmas.Bool.Decides.{nat_tests}
use Rattle.std.specs.List.{AllByRecursion, list_all}
use Rattle.std.specs.Prelude.{◌≡◌, ℕ, ◌+◌, ◌*◌, ◌<◌, ◌≤◌, Bool, true, false, ◌||◌, if◌then◌else◌, nat_eq, nat_lt, List, [], ◌∷◌, map, Option, Some, None, is_some, unwrap_or, option_map, Ok, Err, ◌⊎◌}
use Rattle.sync_base.specs.Outcome.{◌>>=◌, first}
use Rattle.sync_kernel_facts.specs.Facts.{Fact, named}
use Rattle.sync_machine.specs.Naming.{IsTextName, is_in}
use Rattle.sync_rules.specs.Locality.{names_only, form_names_only}
use Rattle.sync_terms.specs.Symbols.{name_symbol}
use Rattle.sync_terms.specs.Trees.{Tree, Name, replaced_in}
use Rattle.sync_thread.specs.Arrays.{name_limit}
use Rattle.sync_thread.specs.Programs.{KeepTree, KeepLineTree, KeepFactTree}
use Rattle.sync_thread_machine.specs.ProgramSymbols.{symbols, held_of, first_fresh}
use Rattle.sync_typing.specs.Environments.{Env, TokenTree, Outcome, among, held_value, token_named, stands, take_in}
use Rattle.sync_typing.specs.Keeps.{renewed, with_own, bare, local_bounds, kept_tokens, tell_all, after_keep, is_at_hand_in, own_tokens, keep_names_only}
use Rattle.sync_typing.specs.Names.{are_names, is_name}
use Rattle.sync_typing_laws.proofs.KeepingSights.{or_one}
use Rattle.sync_typing_laws.proofs.KeepingTerms.{and_first, and_second}
use Rattle.sync_typing_laws.proofs.LocalSights.{replaced_form_names}
use Rattle.sync_typing_laws.specs.Rests.{IsScopedEnv}
use Rattle.sync_typing_rows.proofs.Keeping.{own_terms, low_terms}
use Rattle.sync_typing_rows.proofs.KeptScoped.{LineNames, IsIn, kept_in}
use Rattle.sync_typing_rows.proofs.KeepingEnv.{entered, take_in_is, Told, tell_all_is}
use mathlib.Core.Path.{refl, sym, ap, subst, ◌∙◌}

some_is : (a b : Tree) → Some a ≡ Some b → a ≡ b
some_is a b is = ap (λ o. unwrap_or o a) is

or_made : (q : ℕ → Bool) (o : Option Tree) (y : ℕ) → ((u : Tree) → o ≡ Some u → names_only q u ≡ true) → q y ≡ true → names_only q (unwrap_or o (Name y)) ≡ true
unfolding names_only
or_made q None y some none = none
or_made q (Some u) y some none = some u refl

is_one : (n m : ℕ) → nat_eq n m ≡ true → n ≡ m
is_one n m is = grind (arith, nat_tests)

-- a symbol among those of names, or among the `held` of names, is no free one
pub in_symbols : (y : ℕ) (ns : List ℕ) → are_names ns ≡ true → is_in y (symbols ns) ≡ true → IsTextName y
in_symbols y [] names is = let no : false ≡ true = is in cc
in_symbols y (n ∷ ns) names is = elim (or_one (nat_eq y (name_symbol n)) (is_in y (symbols ns)) is) [
  | inl same ↦ (n, is_one y (name_symbol n) same, ltb-true n name_limit (and_first (is_name n) (list_all is_name ns) names))
  | inr later ↦ in_symbols y ns (and_second (is_name n) (list_all is_name ns) names) later
]

pub in_held : (y : ℕ) (ns : List ℕ) → are_names ns ≡ true → is_in y (map held_of ns) ≡ true → y < first_fresh
in_held y [] names is = let no : false ≡ true = is in cc
in_held y (n ∷ ns) names is = elim (or_one (nat_eq y (held_of n)) (is_in y (map held_of ns)) is) [
  | inl same ↦ (let at : y ≡ held_of n = is_one y (held_of n) same in let below : n < 1048576 = ltb-true n name_limit (and_first (is_name n) (list_all is_name ns) names) in omega (arith, at, below))
  | inr later ↦ in_held y ns (and_second (is_name n) (list_all is_name ns) names) later
]

pub text_low : (y : ℕ) → IsTextName y → y < first_fresh
text_low y it = let same : y ≡ 64 + 4 * it.0 = it.1 in let less : it.0 < 1048576 = it.2 in omega (arith, same, less)

module _ (before : Env) (scoped : IsScopedEnv before) (k : KeepTree) (locals : List ℕ) (own_names : are_names k.names ≡ true) (own_held : are_names (own_tokens k) ≡ true) (local_names : are_names locals ≡ true) where
  abbrev e : Env
  e = bare (with_own k.names (renewed before.terms)) locals before.fresh

  abbrev p : ℕ → Bool
  p = is_at_hand_in before.terms k

  abbrev q : ℕ → Bool
  q z = nat_lt z before.fresh

  abbrev mid : Env
  mid = entered [] (kept_tokens (stands e) k.lines) e

  below_is : (y : ℕ) → y < first_fresh → q y ≡ true
  below_is y low = let far : first_fresh ≤ before.fresh = scoped.beyond in grind (arith, nat_tests)

  -- what something is said of
  some_said : (y : ℕ) (o : Option Tree) → before.terms y ≡ o → is_some o ≡ true → (y < 64) ⊎ IsTextName y
  some_said y (Some u) same is = scoped.said y u same
  some_said y None same is = let no : false ≡ true = is in cc

  said_low : (y : ℕ) → (y < 64) ⊎ IsTextName y → y < first_fresh
  said_low y (inl small) = omega (arith, small)
  said_low y (inr it) = text_low y it

  at_hand_low : (y : ℕ) → p y ≡ true → y < first_fresh
  at_hand_low y is = elim (or_one (nat_lt y 64) (is_some (before.terms y) || (is_in y (symbols k.names) || is_in y (map held_of (own_tokens k)))) is) [
    | inl small ↦ said_low y (inl (ltb-true y 64 small))
    | inr more ↦ elim (or_one (is_some (before.terms y)) (is_in y (symbols k.names) || is_in y (map held_of (own_tokens k))) more) [
      | inl some ↦ said_low y (some_said y (before.terms y) refl some)
      | inr other ↦ elim (or_one (is_in y (symbols k.names)) (is_in y (map held_of (own_tokens k))) other) [
        | inl name ↦ text_low y (in_symbols y k.names own_names name)
        | inr token ↦ in_held y (own_tokens k) own_held token
      ]
    ]
  ]

  said_is : (y : ℕ) (u : Tree) → e.terms y ≡ Some u → (y < 64) ⊎ IsTextName y
  said_is y u said = tested (nat_lt y 64) refl (is_in y (symbols k.names)) refl (before.terms y) refl said where
    tested : (a : Bool) → nat_lt y 64 ≡ a → (b : Bool) → is_in y (symbols k.names) ≡ b → (o : Option Tree) → before.terms y ≡ o → (if b then Some (Name y) else (if a then o else option_map (λ (t : Tree). Name y) o)) ≡ Some u → (y < 64) ⊎ IsTextName y
    tested true low b is o same said = inl (ltb-true y 64 low)
    tested false high true is o same said = inr (in_symbols y k.names own_names is)
    tested false high false is (Some t) same said = scoped.said y t same
    tested false high false is None same said = let no : None ≡ Some u = said in cc

  terms_in : (y : ℕ) (u : Tree) → e.terms y ≡ Some u → names_only q u ≡ true
  unfolding names_only
  terms_in y u said = tested (nat_lt y 64) refl where
    tested : (b : Bool) → nat_lt y 64 ≡ b → names_only q u ≡ true
    tested true low = scoped.names y u (sym (low_terms k.names before.terms y (ltb-true y 64 low)) ∙ said)
    tested false high = elim (own_terms k.names before.terms y (grind (arith, nat_tests))) [
      | inl none ↦ (let no : None ≡ Some u = sym none ∙ said in cc)
      | inr some ↦ subst (λ z. names_only q z ≡ true) (some_is (Name y) u (sym some ∙ said)) (below_is y (said_low y (said_is y u said)))
    ]

  -- what a symbol at hand stands for, where tokens have such values
  stands_in : (hand : ℕ → Option TokenTree) → ((n : ℕ) (a : TokenTree) → hand n ≡ Some a → names_only q a.value ≡ true) → (y : ℕ) → p y ≡ true → names_only q (unwrap_or (first (e.terms y) (held_value hand (token_named y))) (Name y)) ≡ true
  stands_in hand values y at_hand = or_made q (first (e.terms y) (held_value hand (token_named y))) y (λ u is. from (e.terms y) refl (token_named y) u is) (below_is y (at_hand_low y at_hand)) where
    of_token : (n : ℕ) (o : Option TokenTree) → hand n ≡ o → (u : Tree) → option_map (λ (t : TokenTree). t.value) o ≡ Some u → names_only q u ≡ true
    of_token n (Some a) same u is = subst (λ z. names_only q z ≡ true) (some_is a.value u is) (values n a same)
    of_token n None same u is = let no : None ≡ Some u = is in cc

    from : (o : Option Tree) → e.terms y ≡ o → (m : Option ℕ) → (u : Tree) → first o (held_value hand m) ≡ Some u → names_only q u ≡ true
    from (Some t) same m u is = terms_in y u (same ∙ is)
    from None same None u is = let no : None ≡ Some u = is in cc
    from None same (Some n) u is = of_token n (hand n) refl u is

  base : (y : ℕ) → p y ≡ true → names_only q (stands e y) ≡ true
  base y at_hand = stands_in (λ n. None) (λ n a no. (let never : None ≡ Some a = no in cc)) y at_hand

  among_alone : (o : Option TokenTree) → first o (if false then None else None) ≡ o
  among_alone None = refl
  among_alone (Some t) = refl

  module _ (at_hand : keep_names_only p k ≡ true) (held_names : AllByRecursion (λ (l : KeepLineTree). p (held_of l.name) ≡ true) k.lines) where
    line_names : list_all (LineNames p q (stands e) base) k.lines ≡ true
    line_names = and_first (list_all (LineNames p q (stands e) base) k.lines) (list_all (λ (f : KeepFactTree). form_names_only p f.form) k.facts) at_hand

    hand_in : (n : ℕ) (a : TokenTree) → mid.hand n ≡ Some a → IsIn p q (stands e) base a
    hand_in n a is = kept_in p q (stands e) base k.lines line_names held_names n a
        (sym (among_alone (among (kept_tokens (stands e) k.lines) n)) ∙ is)

    abbrev Q : Fact → Type 0
    Q f = form_names_only q f.form ≡ true

    bounds_in : (ls : List ℕ) → are_names ls ≡ true → AllByRecursion Q (local_bounds e.terms ls)
    unfolding names_only form_names_only
    bounds_in [] names = tt
    bounds_in (y ∷ ls) names = (and_from true (names_only q term) refl one, (and_from (names_only q term) true one refl, bounds_in ls (and_second (is_name y) (list_all is_name ls) names))) where
      term : Tree
      term = unwrap_or (e.terms (name_symbol y)) (Name (name_symbol y))

      one : names_only q term ≡ true
      one = or_made q (e.terms (name_symbol y)) (name_symbol y) (terms_in (name_symbol y)) (below_is (name_symbol y) (text_low (name_symbol y) (y, refl, ltb-true y name_limit (and_first (is_name y) (list_all is_name ls) names))))

    facts_in : (fs : List KeepFactTree) → list_all (λ (f : KeepFactTree). form_names_only p f.form) fs ≡ true → AllByRecursion (λ (f : KeepFactTree). (n : ℕ) → Q (named n (replaced_in (stands mid) f.form))) fs
    facts_in [] names = tt
    facts_in (f ∷ fs) names = (λ n. replaced_form_names p q (stands mid) (stands_in mid.hand (λ n a is. (hand_in n a is).1)) f.form (and_first (form_names_only p f.form) _ names), facts_in fs (and_second (form_names_only p f.form) _ names))

    after_in : (line : ℕ) (now : Env) → after_keep line locals k before ≡ Ok now → Told Q mid now
    after_in line now is = went (take_in line [] (kept_tokens (stands e) k.lines) e) refl is where
      went : (o : Outcome Env) → take_in line [] (kept_tokens (stands e) k.lines) e ≡ o → (o >>= tell_all line k.facts) ≡ Ok now → Told Q mid now
      went (Ok m) same is = let at : mid ≡ m = take_in_is line [] (kept_tokens (stands e) k.lines) e m same in
          tell_all_is Q line k.facts mid now (bounds_in locals local_names) (facts_in k.facts (and_second (list_all (LineNames p q (stands e) base) k.lines) _ at_hand)) (subst (λ z. tell_all line k.facts z ≡ Ok now) (sym at) is)
      went (Err c) same is = let no : Err c ≡ Ok now = is in cc

    -- nothing in the environment after the keep is still free
    pub after_scoped : (line : ℕ) (now : Env) → after_keep line locals k before ≡ Ok now → IsScopedEnv now
    after_scoped line now is = of (after_in line now is) where
      of : Told Q mid now → IsScopedEnv now
      of told = record {
        names = λ y u said. subst (λ m. names_only (λ z. nat_lt z m) u ≡ true) (sym told.fresh) (terms_in y u (sym (ap (λ f. f y) told.terms) ∙ said));
        keys = λ n a it. subst (λ m. names_only (λ z. nat_lt z m) a.key ≡ true) (sym told.fresh) (hand_in n a (sym (ap (λ f. f n) told.hand) ∙ it)).0;
        values = λ n a it. subst (λ m. names_only (λ z. nat_lt z m) a.value ≡ true) (sym told.fresh) (hand_in n a (sym (ap (λ f. f n) told.hand) ∙ it)).1;
        facts = subst (λ m. AllByRecursion (λ (f : Fact). form_names_only (λ z. nat_lt z m) f.form ≡ true) now.facts) (sym told.fresh) told.facts;
        said = λ y u said. said_is y u (sym (ap (λ f. f y) told.terms) ∙ said);
        beyond = subst (λ m. first_fresh ≤ m) (sym told.fresh) scoped.beyond;
      }
