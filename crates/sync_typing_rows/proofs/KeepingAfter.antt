-- The values of a keep's environment: its tokens are those kept, and its facts are so.
use Rattle.std.proofs.Common.{arith}
use Rattle.std.proofs.lemmas.Bool.Decides.{nat_tests}
use Rattle.std.specs.List.{AllByRecursion, list_all}
use Rattle.std.specs.Prelude.{◌≡◌, ℕ, ◌<◌, ◌≤◌, ℤ, pos, Bool, true, false, if◌then◌else◌, List, [], ◌∷◌, length, Option, Some, None, unwrap_or, option_map, Ok, Err}
use Rattle.sync_base.specs.Outcome.{◌>>=◌, first}
use Rattle.sync_exchange.specs.Exchange.{held_as}
use Rattle.sync_kernel_facts.specs.Facts.{named}
use Rattle.sync_machine.specs.Naming.{formula_fault, is_in}
use Rattle.sync_rules.specs.Locality.{form_names_only}
use Rattle.sync_terms.proofs.Meaning.{truth-replaced_in}
use Rattle.sync_terms.specs.Trees.{Name, replaced_in}
use Rattle.sync_terms.specs.Values.{Valuation, num, truth, with_terms}
use Rattle.sync_thread.specs.Arrays.{name_limit}
use Rattle.sync_thread.specs.Code.{locals_of}
use Rattle.sync_thread.specs.Programs.{KeepTree, KeepFactTree}
use Rattle.sync_thread_machine.specs.MachineWithProgram.{MachineWithProgram, fields_of}
use Rattle.sync_thread_machine.specs.ProgramSymbols.{held_of}
use Rattle.sync_thread_meaning.specs.Meaning.{World, keep_sight}
use Rattle.sync_thread_meaning.specs.Shares.{Sight, hand_of, proofs_of, named_value, overlaid, amount_of, is_true, is_seen, keep_facts_hold}
use Rattle.sync_typing.specs.Environments.{Env, TokenTree, Outcome, among, held_value, token_named, stands, take_in}
use Rattle.sync_typing.specs.Keeps.{renewed, with_own, bare, kept_tokens, tell_all, after_keep, is_at_hand_in, own_tokens}
use Rattle.sync_typing.specs.Names.{known_here, is_formula}
use Rattle.sync_typing_laws.proofs.KeepingSights.{Symbol, OfField, OfWrap, OfName, OfHeld, symbol_of, numbers_only, token_of_symbol, token_of_held, value_held, own_token}
use Rattle.sync_typing_laws.proofs.KeepingTerms.{Same, same_truth, and_first, and_second}
use Rattle.sync_typing_laws.specs.Rests.{Lasts, KnowsConstants, IsKnown, worth}
use Rattle.sync_typing_rows.proofs.Keeping.{renew, renew_own, held_terms, bare_same}
use Rattle.sync_typing_rows.proofs.KeepingEnv.{entered, take_in_is, Told, tell_all_is, Shaped, keep_hand, number_none}
use mathlib.Core.Path.{refl, sym, ap, subst, ◌∙◌}

token_low : (y : ℕ) → y < 64 → token_named y ≡ None
token_low y low = grind (arith, nat_tests)

among_alone : (o : Option TokenTree) → first o (if false then None else None) ≡ o
among_alone None = refl
among_alone (Some t) = refl

module _ (x : MachineWithProgram) (known before : Env) (knows : KnowsConstants x known) (few : length (fields_of x) ≤ 32) (v : Valuation) (saved : ℤ) (next t : ℕ) (s : World) (lasts : Lasts x known v saved before next s)
    (k : KeepTree) (locals : List ℕ) (own : ℕ → Option ℤ) where
  abbrev sight : Sight
  sight = keep_sight (fields_of x) s t own saved

  abbrev w : Valuation
  w = renew v sight.valuation.number

  abbrev e : Env
  e = bare (with_own k.names (renewed before.terms)) locals before.fresh

  abbrev p : ℕ → Bool
  p = is_at_hand_in before.terms k

  abbrev mid : Env
  mid = entered [] (kept_tokens (stands e) k.lines) e

  base : Same (known_here x) p (with_terms (stands e) w) sight.valuation
  base y is_known at_hand = bare_same x known before knows few v saved next t s lasts k.names locals own y is_known refl

  of_held : (n : ℕ) (a : _) → held_as n (hand_of s.shares t) ≡ Some a → sight.valuation.number (held_of n) ≡ a.value
  of_held n a is = value_held (fields_of x) s.shares.kept (pos 0 ∷ pos 0 ∷ pos 0 ∷ pos 0 ∷ saved ∷ []) (named_value (overlaid own (proofs_of s.shares t)) (locals_of s.memory t)) (hand_of s.shares t) n few ∙ ap amount_of is

  module _ (shaped : AllByRecursion (Shaped x p sight (hand_of s.shares t)) k.lines) where
    -- the tokens at hand are those of the lines
    pub mid_hand : (n : ℕ) → option_map (worth w) (mid.hand n) ≡ (if is_in n (own_tokens k) then held_as n (hand_of s.shares t) else None)
    mid_hand n = ap (option_map (worth w)) (among_alone (among (kept_tokens (stands e) k.lines) n)) ∙ keep_hand x p w sight (hand_of s.shares t) (stands e) base of_held k.lines shaped n

    plain : (y : ℕ) → token_named y ≡ None → stands mid y ≡ stands e y
    plain y none = ap (λ o. unwrap_or (first (e.terms y) (held_value mid.hand o)) (Name y)) none ∙ sym (ap (λ o. unwrap_or (first (e.terms y) (held_value e.hand o)) (Name y)) none)

    held_stands : (n : ℕ) → n < name_limit → (o : Option TokenTree) → mid.hand n ≡ o → stands mid (held_of n) ≡ unwrap_or (option_map (λ (a : TokenTree). a.value) o) (Name (held_of n))
    held_stands n below o is = ap (λ z. unwrap_or (first z (held_value mid.hand (token_named (held_of n)))) (Name (held_of n))) (held_terms k.names before lasts.scoped n)
        ∙ ap (λ z. unwrap_or (held_value mid.hand z) (Name (held_of n))) (token_of_held n below) ∙ ap (λ (z : Option TokenTree). unwrap_or (option_map (λ (a : TokenTree). a.value) z) (Name (held_of n))) is

    -- what the keep names stands for what it is in it
    pub mid_same : Same (known_here x) p (with_terms (stands mid) w) sight.valuation
    mid_same y is_known at_hand = by (symbol_of x y is_known) where
      low : token_named y ≡ None → num w (stands mid y) ≡ sight.valuation.number y
      low none = ap (num w) (plain y none) ∙ base y is_known at_hand

      by : Symbol x y → num w (stands mid y) ≡ sight.valuation.number y
      by (OfField below constant) = low (token_low y (omega arith))
      by (OfWrap at) = low (token_low y (omega arith))
      by (OfName n at below) = low (ap token_named at ∙ token_of_symbol n)
      by (OfHeld n at below) = subst (λ z. num w (stands mid z) ≡ sight.valuation.number z) (sym at) (tested (mid.hand n) refl) where
        own_it : is_in n (own_tokens k) ≡ true
        own_it = own_token before lasts.scoped k n (subst (λ z. p z ≡ true) at at_hand)

        hand : option_map (worth w) (mid.hand n) ≡ held_as n (hand_of s.shares t)
        hand = mid_hand n ∙ ap (λ b. if b then held_as n (hand_of s.shares t) else None) own_it

        value : sight.valuation.number (held_of n) ≡ amount_of (held_as n (hand_of s.shares t))
        value = value_held (fields_of x) s.shares.kept (pos 0 ∷ pos 0 ∷ pos 0 ∷ pos 0 ∷ saved ∷ []) (named_value (overlaid own (proofs_of s.shares t)) (locals_of s.memory t)) (hand_of s.shares t) n few

        tested : (o : Option TokenTree) → mid.hand n ≡ o → num w (stands mid (held_of n)) ≡ sight.valuation.number (held_of n)
        tested None is = ap (num w) (held_stands n below None is) ∙ renew_own v sight.valuation.number (held_of n) (omega arith) (omega arith)
        tested (Some a) is = ap (num w) (held_stands n below (Some a) is) ∙ ap (λ (z : Option TokenTree). amount_of (option_map (worth w) z)) (sym is) ∙ ap amount_of hand ∙ sym value

    facts_known : (fs : List KeepFactTree) → list_all (λ (f : KeepFactTree). is_formula (known_here x) f.form) fs ≡ true → list_all (λ (f : KeepFactTree). form_names_only p f.form) fs ≡ true → keep_facts_hold sight fs ≡ true
        → AllByRecursion (λ (f : KeepFactTree). (n : ℕ) → IsKnown w (named n (replaced_in (stands mid) f.form))) fs
    facts_known [] formed at_hand are = tt
    facts_known (f ∷ fs) formed at_hand are = (
      λ n. (
        refl,
        truth-replaced_in (stands mid) w f.form
            ∙ same_truth (known_here x) p (with_terms (stands mid) w) sight.valuation (numbers_only x) mid_same f.form (number_none (formula_fault (known_here x) f.form) (and_first (is_formula (known_here x) f.form) _ formed)) (and_first (form_names_only p f.form) _ at_hand)
            ∙ and_second (form_names_only (is_seen sight.hand) f.form) (truth sight.valuation f.form) (and_first (is_true sight f.form) (keep_facts_hold sight fs) are),
      ),
      facts_known fs (and_second (is_formula (known_here x) f.form) _ formed) (and_second (form_names_only p f.form) _ at_hand) (and_second (is_true sight f.form) (keep_facts_hold sight fs) are),
    )

    -- After the keep: names and symbols are those of the bare environment, the tokens are those kept, and the facts are so.
    pub after_values : (line : ℕ) (now : Env) → list_all (λ (f : KeepFactTree). is_formula (known_here x) f.form) k.facts ≡ true → list_all (λ (f : KeepFactTree). form_names_only p f.form) k.facts ≡ true → keep_facts_hold sight k.facts ≡ true
        → AllByRecursion (IsKnown w) e.facts → after_keep line locals k before ≡ Ok now → Told (IsKnown w) mid now
    after_values line now formed at_hand are bounded is = went (take_in line [] (kept_tokens (stands e) k.lines) e) refl is where
      went : (o : Outcome Env) → take_in line [] (kept_tokens (stands e) k.lines) e ≡ o → (o >>= tell_all line k.facts) ≡ Ok now → Told (IsKnown w) mid now
      went (Ok m) same is = let at : mid ≡ m = take_in_is line [] (kept_tokens (stands e) k.lines) e m same in
          tell_all_is (IsKnown w) line k.facts mid now bounded (facts_known k.facts formed at_hand are) (subst (λ z. tell_all line k.facts z ≡ Ok now) (sym at) is)
      went (Err r) same is = let no : Err r ≡ Ok now = is in cc
