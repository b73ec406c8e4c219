-- A jump that the rules let come to a keep comes there: arguments, lines and facts are as the keep says.
use Rattle.std.proofs.Common.{arith, inl, inr}
use Rattle.std.proofs.lemmas.Bool.Decides.{nat_tests, Decides-int_eq}
use Rattle.std.specs.Cmp.{int_eq_equiv}
use Rattle.std.specs.List.{AllByRecursion, list_all}
use Rattle.std.specs.Ordering.{int_eq}
use Rattle.std.specs.Prelude.{◌≡◌, ℕ, ◌-◌, ◌/◌, ◌%◌, ℤ, Bool, true, false, not, ◌&&◌, ◌||◌, if◌then◌else◌, nat_eq, nat_lt, List, [], ◌∷◌, ◌++◌, map, Option, Some, None, is_some, is_none, unwrap_or, option_map, Result, Ok, Err}
use Rattle.sync_base.specs.Outcome.{◌>>=◌, first}
use Rattle.sync_base.specs.declared.stops.Rule.TheVariants.{T6}
use Rattle.sync_exchange.specs.Exchange.{held_as, tokens_in}
use Rattle.sync_exchange.specs.Splitting.{dropped}
use Rattle.sync_exchange.specs.declared.hands.Held.{Held}
use Rattle.sync_exchange_values.specs.Fitting.{number_fits}
use Rattle.sync_join.proofs.Rearranged.{IsRearranged, rearranged-refl, rearranged-trans, rearranged-append, rearranged-front}
use Rattle.sync_kernel_facts.specs.Laws.{AreTrue}
use Rattle.sync_join.specs.declared.tokens.Token.{Token}
use Rattle.sync_machine.specs.Naming.{number_fault, formula_fault, is_in}
use Rattle.sync_rules.specs.Locality.{names_only, form_names_only}
use Rattle.sync_terms.proofs.Meaning.{num-replaced, truth-replaced_in}
use Rattle.sync_terms.specs.Trees.{Tree, replaced}
use Rattle.sync_terms.specs.Values.{Valuation, num, truth, with_terms}
use Rattle.sync_thread.specs.Arrays.{name_limit}
use Rattle.sync_thread.specs.Control.{Halt, Wide}
use Rattle.sync_thread.specs.Programs.{KeepLineTree, KeepFactTree, KeepTree, ScriptTree}
use Rattle.sync_thread.specs.Resting.{PassesUnless}
use Rattle.sync_thread_machine.specs.MachineWithProgram.{MachineWithProgram, fields_of}
use Rattle.sync_thread_machine.specs.ProgramSymbols.{held_of}
use Rattle.sync_thread_meaning.specs.MachineWithProgram.{field_of}
use Rattle.sync_thread_meaning.specs.Meaning.{World, Arrival, keep_sight, arrived}
use Rattle.sync_thread_meaning.specs.Shares.{hand_of, is_seen, given_to, nowhere_near, Sight, sight_of, term_value, term_values, only_if, bounded, found, is_of_form, is_true, Parted, keep_lines, keep_facts_hold, has_value}
use Rattle.sync_typing.specs.Blocks.{shape_if, shape_dues}
use Rattle.sync_typing.specs.Dues.{Due, Makes, at_hand_due, agrees, are_apart}
use Rattle.sync_typing.specs.Environments.{Env, Outcome, said, held_value, token_named, stands, read, is_at_hand, is_held, token, TokenTree}
use Rattle.sync_typing.specs.Keeps.{option_all, keep_names_only, is_at_hand_in, own_tokens, arriving, lines_asks, lines_dues, facts_dues, arrive_dues, arrive_row}
use Rattle.sync_typing.specs.Names.{known_here, if_there, is_number, is_formula, shape_is_named, is_form, keep_is_named, are_apart_names}
use Rattle.sync_typing_laws.proofs.KeepingSights.{Place, or_one, numbers_only, here_same, keep_same, own_token, said_held, held_unsaid}
use Rattle.sync_typing_laws.proofs.KeepingTerms.{Same, same_num, same_truth, and_first, and_second, and_both}
use Rattle.sync_typing_laws.proofs.LocalDues.{Met, row_met}
use Rattle.sync_typing_laws.proofs.LocalMoves.{names_more, form_more}
use Rattle.sync_typing_laws.specs.Rests.{IsScopedEnv, worth}
use mathlib.Core.Path.{refl, sym, ap, subst, ◌∙◌}

-- ---- what passes

pub passes_then : {A B : Type 0} (spares : Halt → Type 0) (o : Result A Halt) (f : A → Result B Halt) (P : A → Type 0) (Q : B → Type 0) → PassesUnless spares o P → ((a : A) → P a → PassesUnless spares (f a) Q) → PassesUnless spares (o >>= f) Q
passes_then spares (Ok a) f P Q is later = later a is
passes_then spares (Err h) f P Q is later = is

-- where a number leaves the bound the failure is spared
abbrev pub SparesAt : (ℤ → Bool) → (Halt → Type 0) → Valuation → Type 0
SparesAt fits spares v = (u : Tree) → number_fits fits v u ≡ false → spares Wide

none_is : {A : Type 0} (o : Option A) → is_none o ≡ true → o ≡ None
none_is None is = refl
none_is (Some a) is = let no : false ≡ true = is in cc

-- ---- names that are seen

-- a symbol is seen, if it is no `held` or of a token that is held
pub seen_if : (hand : List Held) (y : ℕ) → ((n : ℕ) → y ≡ held_of n → is_some (held_as n hand) ≡ true) → is_seen hand y ≡ true
seen_if hand y tokens = small (nat_lt y 64) refl where
  token : (b : Bool) → nat_lt y 64 ≡ false → nat_eq ((y - 64) % 4) 2 ≡ b → (if b then is_some (held_as ((y - 64) / 4) hand) else true) ≡ true
  token false large is = refl
  token true large is = tokens ((y - 64) / 4) (grind (arith, nat_tests))

  small : (b : Bool) → nat_lt y 64 ≡ b → (if b then true else if nat_eq ((y - 64) % 4) 2 then is_some (held_as ((y - 64) / 4) hand) else true) ≡ true
  small true is = refl
  small false is = token (nat_eq ((y - 64) % 4) 2) is refl

held_is : (x : MachineWithProgram) (q : ℕ → Bool) (v : Valuation) (e : Env) (t : ℕ) (s : World) → Place x q v e t s → (n : ℕ) (a : TokenTree) → e.hand n ≡ Some a → held_as n (hand_of s.shares t) ≡ Some (worth v a)
held_is x q v e t s p n a is = p.stands.hand n ∙ ap (option_map (worth v)) is

seen_here : (x : MachineWithProgram) (q : ℕ → Bool) (v : Valuation) (e : Env) (t : ℕ) (s : World) → Place x q v e t s → (y : ℕ) → is_at_hand e y ≡ true → is_seen (hand_of s.shares t) y ≡ true
seen_here x q v e t s p y is = seen_if (hand_of s.shares t) y (λ n same. known n (subst (λ z. is_at_hand e z ≡ true) same is)) where
  known : (n : ℕ) → is_at_hand e (held_of n) ≡ true → is_some (held_as n (hand_of s.shares t)) ≡ true
  known n is = tested (nat_lt n name_limit) refl where
    word : is_some (said e (held_of n)) ≡ true
    word = elim (or_one (nat_lt (held_of n) 64) (is_some (said e (held_of n))) is) [
      | inl small ↦ (let no : false ≡ true = (let far : nat_lt (held_of n) 64 ≡ false = grind (arith, nat_tests) in sym far ∙ small) in cc)
      | inr said ↦ said
    ]

    tested : (b : Bool) → nat_lt n name_limit ≡ b → is_some (held_as n (hand_of s.shares t)) ≡ true
    tested true below = let there : (a : TokenTree) × (e.hand n ≡ Some a) = said_held e p.stands.scoped n (grind (arith, nat_tests)) word in ap is_some (held_is x q v e t s p n there.0 there.1)
    tested false past = let none : token_named (held_of n) ≡ None = grind (arith, nat_tests) in
        let no : false ≡ true = subst (λ o. is_some (held_value e.hand o) ≡ true) none (subst (λ o. is_some (first o (held_value e.hand (token_named (held_of n)))) ≡ true) (held_unsaid e p.stands.scoped n) word) in cc

-- ---- arguments

values_pass : (fits : ℤ → Bool) (spares : Halt → Type 0) (x : MachineWithProgram) (q : ℕ → Bool) (v : Valuation) (e : Env) (t : ℕ) (s : World) → SparesAt fits spares (sight_of (fields_of x) s.memory s.shares t nowhere_near).valuation → Place x q v e t s
    → (args : List Tree) → list_all (is_number (known_here x)) args ≡ true → list_all (names_only (is_at_hand e)) args ≡ true
    → PassesUnless spares (term_values fits (sight_of (fields_of x) s.memory s.shares t nowhere_near) args) (λ ns. ns ≡ map (num v) (map (read e) args))
values_pass fits spares x q v e t s wide p [] numbers at_hand = refl
values_pass fits spares x q v e t s wide p (a ∷ args) numbers at_hand =
    passes_then spares (term_value fits here a) (λ n. term_values fits here args >>= (λ ns. Ok (n ∷ ns))) (λ n. n ≡ num v (read e a)) (λ ns. ns ≡ map (num v) (map (read e) (a ∷ args))) one
    (λ n is. passes_then spares (term_values fits here args) (λ ns. Ok (n ∷ ns)) (λ ns. ns ≡ map (num v) (map (read e) args)) (λ ns. ns ≡ map (num v) (map (read e) (a ∷ args)))
    (values_pass fits spares x q v e t s wide p args (and_second (is_number (known_here x) a) _ numbers) (and_second (names_only (is_at_hand e) a) _ at_hand))
    (λ ns more. ap (λ z. z ∷ ns) is ∙ ap (λ z. num v (read e a) ∷ z) more)) where
      here : Sight
      here = sight_of (fields_of x) s.memory s.shares t nowhere_near

      named : names_only (is_at_hand e) a ≡ true
      named = and_first (names_only (is_at_hand e) a) (list_all (names_only (is_at_hand e)) args) at_hand

      same : num here.valuation a ≡ num v (read e a)
      same = sym (num-replaced (stands e) v a ∙ same_num (known_here x) (is_at_hand e) (with_terms (stands e) v) here.valuation (numbers_only x) (here_same x q v e t s p) a
          (none_is (number_fault (known_here x) a) (and_first (is_number (known_here x) a) (list_all (is_number (known_here x)) args) numbers)) named)

      bound : (b : Bool) → number_fits fits here.valuation a ≡ b → PassesUnless spares (bounded b (Ok (num here.valuation a))) (λ n. n ≡ num v (read e a))
      bound true is = same
      bound false is = wide a is

      one : PassesUnless spares (term_value fits here a) (λ n. n ≡ num v (read e a))
      one = subst (λ b. PassesUnless spares (only_if b (bounded (number_fits fits here.valuation a) (Ok (num here.valuation a)))) (λ n. n ≡ num v (read e a)))
          (sym (names_more (is_at_hand e) (is_seen (hand_of s.shares t)) (seen_here x q v e t s p) a named)) (bound (number_fits fits here.valuation a) refl)

-- ---- lines

all_left : {A : Type 0} (P : A → Type 0) (xs ys : List A) → AllByRecursion P (xs ++ ys) → AllByRecursion P xs
all_left P [] ys all = tt
all_left P (x ∷ xs) ys all = (all.0, all_left P xs ys all.1)

all_right : {A : Type 0} (P : A → Type 0) (xs ys : List A) → AllByRecursion P (xs ++ ys) → AllByRecursion P ys
all_right P [] ys all = all
all_right P (x ∷ xs) ys all = all_right P xs ys all.1

-- the token of a line is there, and is of its form
abbrev pub LineIs : Sight → List Held → KeepLineTree → Type 0
LineIs w hand l = (a : Token) × (held_as l.name hand ≡ Some a) × (is_of_form w l.shape a ≡ true)

-- what the lines of a keep take out of a hand, and what they leave
pub record Parts (ls : List KeepLineTree) (hand : List Held) (p : Parted) : Type 0 where
  pub kept : (n : ℕ) → held_as n p.kept ≡ (if is_in n (map (λ (l : KeepLineTree). l.name) ls) then held_as n hand else None)
  pub names : map (λ (h : Held). h.name) p.kept ≡ map (λ (l : KeepLineTree). l.name) ls
  pub bag : IsRearranged (tokens_in hand) (tokens_in p.kept ++ tokens_in p.left)

drop_other : (m n : ℕ) (hand : List Held) → nat_eq m n ≡ false → held_as m (dropped n hand) ≡ held_as m hand
unfolding held_as
drop_other m n [] apart = refl
drop_other m n (h ∷ hs) apart = tested (nat_eq n h.name) refl (drop_other m n hs apart) where
  tested : (b : Bool) → nat_eq n h.name ≡ b → held_as m (dropped n hs) ≡ held_as m hs → held_as m (if b then hs else h ∷ dropped n hs) ≡ held_as m (h ∷ hs)
  tested true is later = let far : nat_eq m h.name ≡ false = grind (arith, nat_tests) in sym (subst (λ b. (if b then Some h.token else held_as m hs) ≡ held_as m hs) (sym far) refl)
  tested false is later = ap (λ z. if nat_eq m h.name then Some h.token else z) later

drop_bag : (n : ℕ) (a : Token) (hand : List Held) → held_as n hand ≡ Some a → IsRearranged (tokens_in hand) (a ∷ tokens_in (dropped n hand))
unfolding held_as
drop_bag n a [] is = let no : None ≡ Some a = is in cc
drop_bag n a (h ∷ hs) is = tested (nat_eq n h.name) is (drop_bag n a hs) where
  tested : (b : Bool) → (if b then Some h.token else held_as n hs) ≡ Some a → (held_as n hs ≡ Some a → IsRearranged (tokens_in hs) (a ∷ tokens_in (dropped n hs))) → IsRearranged (tokens_in (h ∷ hs)) (a ∷ tokens_in (if b then hs else h ∷ dropped n hs))
  tested true is later = subst (λ o. IsRearranged (h.token ∷ tokens_in hs) (unwrap_or o h.token ∷ tokens_in hs)) is (rearranged-refl (h.token ∷ tokens_in hs))
  tested false is later = rearranged-trans (h.token ∷ tokens_in hs) (h.token ∷ (a ∷ tokens_in (dropped n hs))) (a ∷ (h.token ∷ tokens_in (dropped n hs)))
      (rearranged-append (h.token ∷ []) (h.token ∷ []) (tokens_in hs) (a ∷ tokens_in (dropped n hs)) (rearranged-refl (h.token ∷ [])) (later is))
      (rearranged-front (h.token ∷ []) a (tokens_in (dropped n hs)))

not_false : (b : Bool) → not b ≡ true → b ≡ false
not_false false is = refl
not_false true is = let no : false ≡ true = is in cc

in_apart : (n m : ℕ) (ns : List ℕ) → is_in m ns ≡ true → is_in n ns ≡ false → nat_eq m n ≡ false
in_apart n m [] one two = let no : false ≡ true = one in cc
in_apart n m (k ∷ ns) one two = tested (nat_eq m k) refl one (nat_eq n k) refl two (in_apart n m ns) where
  tested : (b : Bool) → nat_eq m k ≡ b → (b || is_in m ns) ≡ true → (c : Bool) → nat_eq n k ≡ c → (c || is_in n ns) ≡ false → (is_in m ns ≡ true → is_in n ns ≡ false → nat_eq m n ≡ false) → nat_eq m n ≡ false
  tested b same one true other two later = let no : true ≡ false = two in cc
  tested true same one false other two later = grind (arith, nat_tests)
  tested false same one false other two later = later one two

lines_later : (w : Sight) (n : ℕ) (hand : List Held) (ls : List KeepLineTree) → is_in n (map (λ (l : KeepLineTree). l.name) ls) ≡ false → AllByRecursion (LineIs w hand) ls → AllByRecursion (LineIs w (dropped n hand)) ls
lines_later w n hand [] apart all = tt
lines_later w n hand (l ∷ ls) apart all = ((all.0.0, drop_other l.name n hand (first_apart (nat_eq n l.name) refl apart) ∙ all.0.1, all.0.2), lines_later w n hand ls (rest_apart (nat_eq n l.name) apart) all.1) where
  first_apart : (b : Bool) → nat_eq n l.name ≡ b → (b || is_in n (map (λ (l : KeepLineTree). l.name) ls)) ≡ false → nat_eq l.name n ≡ false
  first_apart true same is = let no : true ≡ false = is in cc
  first_apart false same is = grind (arith, nat_tests)

  rest_apart : (b : Bool) → (b || is_in n (map (λ (l : KeepLineTree). l.name) ls)) ≡ false → is_in n (map (λ (l : KeepLineTree). l.name) ls) ≡ false
  rest_apart true is = let no : true ≡ false = is in cc
  rest_apart false is = is

pub lines_pass : (w : Sight) (ls : List KeepLineTree) (hand : List Held) → are_apart (map (λ (l : KeepLineTree). l.name) ls) ≡ true → AllByRecursion (LineIs w hand) ls → (p : Parted) × (keep_lines w ls hand ≡ Ok p) × Parts ls hand p
unfolding held_as
lines_pass w [] hand apart all = (record { kept = []; left = hand }, refl, record { kept = λ n. refl; names = refl; bag = rearranged-refl (tokens_in hand) })
lines_pass w (l ∷ ls) hand apart all = here (lines_pass w ls (dropped l.name hand) (and_second (not (is_in l.name names)) (are_apart names) apart) (lines_later w l.name hand ls new all.1)) where
  names : List ℕ
  names = map (λ (l : KeepLineTree). l.name) ls

  new : is_in l.name names ≡ false
  new = not_false (is_in l.name names) (and_first (not (is_in l.name names)) (are_apart names) apart)

  a : Token
  a = all.0.0

  one : Held
  one = record { name = l.name; token = a }

  put : Token → Parted → Result Parted Halt
  put t p = Ok (record { kept = record { name = l.name; token = t } ∷ p.kept; left = p.left })

  rest : Result Parted Halt
  rest = keep_lines w ls (dropped l.name hand)

  made : (p : Parted) → rest ≡ Ok p → keep_lines w (l ∷ ls) hand ≡ Ok (record { kept = one ∷ p.kept; left = p.left })
  made p is = subst (λ o. (found o >>= (λ (t : Token). only_if (is_of_form w l.shape t) (rest >>= put t))) ≡ put a p) (sym all.0.1)
      (subst (λ b. only_if b (rest >>= put a) ≡ put a p) (sym all.0.2) (subst (λ o. (o >>= put a) ≡ put a p) (sym is) refl))

  found : (p : Parted) → Parts ls (dropped l.name hand) p → (n : ℕ) → held_as n (one ∷ p.kept) ≡ (if (nat_eq n l.name || is_in n names) then held_as n hand else None)
  found p parts n = tested (nat_eq n l.name) refl where
    same_hand : (b : Bool) → is_in n names ≡ b → nat_eq n l.name ≡ false → (if b then held_as n (dropped l.name hand) else None) ≡ (if b then held_as n hand else None)
    same_hand true inside far = drop_other n l.name hand far
    same_hand false outside far = refl

    tested : (b : Bool) → nat_eq n l.name ≡ b → (if b then Some a else held_as n p.kept) ≡ (if (b || is_in n names) then held_as n hand else None)
    tested true is = let same : n ≡ l.name = grind (arith, nat_tests) in sym (ap (λ m. held_as m hand) same ∙ all.0.1)
    tested false is = parts.kept n ∙ same_hand (is_in n names) refl is

  here : (p : Parted) × (keep_lines w ls (dropped l.name hand) ≡ Ok p) × Parts ls (dropped l.name hand) p → (p : Parted) × (keep_lines w (l ∷ ls) hand ≡ Ok p) × Parts (l ∷ ls) hand p
  here (p, is, parts) = (
    record { kept = one ∷ p.kept; left = p.left },
    made p is,
    record {
      kept = found p parts;
      names = ap (λ ns. l.name ∷ ns) parts.names;
      bag = rearranged-trans (tokens_in hand) (a ∷ tokens_in (dropped l.name hand)) (a ∷ (tokens_in p.kept ++ tokens_in p.left)) (drop_bag l.name a hand all.0.1)
          (rearranged-append (a ∷ []) (a ∷ []) (tokens_in (dropped l.name hand)) (tokens_in p.kept ++ tokens_in p.left) (rearranged-refl (a ∷ [])) parts.bag);
    },
  )

-- ---- lines and facts are as the rules say

-- what a keep needs of a valuation of its own names
pub record Keep (x : MachineWithProgram) (before : Env) (k : KeepTree) (v : Valuation) (s : ℕ → Tree) (w : Sight) : Type 0 where
  pub same : Same (known_here x) (is_at_hand_in before.terms k) (with_terms s v) w.valuation
  pub seen : (y : ℕ) → is_at_hand_in before.terms k y ≡ true → is_seen w.hand y ≡ true

number_met : (x : MachineWithProgram) (before : Env) (k : KeepTree) (v : Valuation) (s : ℕ → Tree) (w : Sight) → Keep x before k v s w → (o : Option Tree) → if_there (is_number (known_here x)) o ≡ true → option_all (names_only (is_at_hand_in before.terms k)) o ≡ true
    → (has : Tree) → AllByRecursion (Met v) (agrees T6 has (shape_if s o)) → has_value w o (num v has) ≡ true
unfolding truth
number_met x before k v s w it None named at_hand has met = refl
number_met x before k v s w it (Some asked) named at_hand has met =
    and_both (names_only (is_seen w.hand) asked) (int_eq (num w.valuation asked) (num v has)) (names_more (is_at_hand_in before.terms k) (is_seen w.hand) it.seen asked at_hand)
    (subst (λ z. int_eq z (num v has) ≡ true) (sym same) (int_eq_equiv.refl (num v has))) where
      claim : num v has ≡ num v (replaced s asked)
      claim = (Decides-int_eq (num v has) (num v (replaced s asked))).0 met.0

      same : num w.valuation asked ≡ num v has
      same = sym (claim ∙ num-replaced s v asked ∙ same_num (known_here x) (is_at_hand_in before.terms k) (with_terms s v) w.valuation (numbers_only x) it.same asked (none_is (number_fault (known_here x) asked) named) at_hand)

token_is : (e : Env) (n : ℕ) (a : TokenTree) → e.hand n ≡ Some a → token e n ≡ a
token_is e n a is = rw is

held_there : (e : Env) (n : ℕ) → is_held e n ≡ true → (a : TokenTree) × (e.hand n ≡ Some a)
held_there e n is = tested (e.hand n) refl where
  tested : (o : Option TokenTree) → e.hand n ≡ o → (a : TokenTree) × (e.hand n ≡ Some a)
  tested (Some a) same = (a, same)
  tested None same = let no : false ≡ true = subst (λ (o : Option TokenTree). is_some o ≡ true) same is in cc

lines_met : (x : MachineWithProgram) (before e : Env) (k : KeepTree) (v : Valuation) (s : ℕ → Tree) (w : Sight) → Keep x before k v s w → ((n : ℕ) (a : TokenTree) → e.hand n ≡ Some a → held_as n w.hand ≡ Some (worth v a))
    → (ls : List KeepLineTree) → list_all (λ (l : KeepLineTree). shape_is_named x (known_here x) l.shape) ls ≡ true
    → list_all (λ (l : KeepLineTree). option_all (names_only (is_at_hand_in before.terms k)) l.shape.key && option_all (names_only (is_at_hand_in before.terms k)) l.shape.value) ls ≡ true
    → AllByRecursion (Met v) (lines_asks e ls) → AllByRecursion (Met v) (lines_dues e s ls) → AllByRecursion (LineIs w w.hand) ls
lines_met x before e k v s w it holds [] named at_hand only_if dues = tt
lines_met x before e k v s w it holds (l ∷ ls) named at_hand only_if dues = ((worth v a, holds l.name a there.1, form), lines_met x before e k v s w it holds ls (and_second (shape_is_named x (known_here x) l.shape) _ named) (and_second (p l.shape.key && p l.shape.value) _ at_hand) only_if.1.1.1 (all_right (Met v) (shape_dues T6 s l.shape (token e l.name)) (lines_dues e s ls) dues)) where
  p : Option Tree → Bool
  p o = option_all (names_only (is_at_hand_in before.terms k)) o

  there : (a : TokenTree) × (e.hand l.name ≡ Some a)
  there = held_there e l.name only_if.0

  a : TokenTree
  a = there.0

  both : AllByRecursion (Met v) (shape_dues T6 s l.shape a)
  both = subst (λ (z : TokenTree). AllByRecursion (Met v) (shape_dues T6 s l.shape z)) (token_is e l.name a there.1) (all_left (Met v) (shape_dues T6 s l.shape (token e l.name)) (lines_dues e s ls) dues)

  field : nat_eq (field_of l.shape.field) a.field ≡ true
  field = subst (λ (z : TokenTree). nat_eq (field_of l.shape.field) z.field ≡ true) (token_is e l.name a there.1) only_if.1.1.0

  numbers : (if_there (is_number (known_here x)) l.shape.key && if_there (is_number (known_here x)) l.shape.value) ≡ true
  numbers = and_second (is_form x l.shape) _ (and_first (shape_is_named x (known_here x) l.shape) _ named)

  here : (p l.shape.key && p l.shape.value) ≡ true
  here = and_first (p l.shape.key && p l.shape.value) _ at_hand

  form : is_of_form w l.shape (worth v a) ≡ true
  form = and_both (nat_eq (field_of l.shape.field) a.field && has_value w l.shape.key (num v a.key)) (has_value w l.shape.value (num v a.value))
      (and_both (nat_eq (field_of l.shape.field) a.field) (has_value w l.shape.key (num v a.key)) field
      (number_met x before k v s w it l.shape.key (and_first (if_there (is_number (known_here x)) l.shape.key) _ numbers) (and_first (p l.shape.key) (p l.shape.value) here) a.key (all_left (Met v) (agrees T6 a.key (shape_if s l.shape.key)) (agrees T6 a.value (shape_if s l.shape.value)) both)))
      (number_met x before k v s w it l.shape.value (and_second (if_there (is_number (known_here x)) l.shape.key) _ numbers) (and_second (p l.shape.key) (p l.shape.value) here) a.value (all_right (Met v) (agrees T6 a.key (shape_if s l.shape.key)) (agrees T6 a.value (shape_if s l.shape.value)) both))

facts_met : (x : MachineWithProgram) (before : Env) (k : KeepTree) (v : Valuation) (s : ℕ → Tree) (w : Sight) → Keep x before k v s w → (fs : List KeepFactTree) → list_all (λ (f : KeepFactTree). is_formula (known_here x) f.form) fs ≡ true
    → list_all (λ (f : KeepFactTree). form_names_only (is_at_hand_in before.terms k) f.form) fs ≡ true → AllByRecursion (Met v) (facts_dues s fs) → keep_facts_hold w fs ≡ true
facts_met x before k v s w it [] named at_hand dues = refl
facts_met x before k v s w it (f ∷ fs) named at_hand dues = and_both (is_true w f.form) (keep_facts_hold w fs)
    (and_both (form_names_only (is_seen w.hand) f.form) (truth w.valuation f.form) (form_more (is_at_hand_in before.terms k) (is_seen w.hand) it.seen f.form here)
    (sym (truth-replaced_in s v f.form ∙ same_truth (known_here x) (is_at_hand_in before.terms k) (with_terms s v) w.valuation (numbers_only x) it.same f.form (none_is (formula_fault (known_here x) f.form) (and_first (is_formula (known_here x) f.form) _ named)) here) ∙ dues.0))
    (facts_met x before k v s w it fs (and_second (is_formula (known_here x) f.form) _ named) (and_second (form_names_only (is_at_hand_in before.terms k) f.form) _ at_hand) dues.1) where
      here : form_names_only (is_at_hand_in before.terms k) f.form ≡ true
      here = and_first (form_names_only (is_at_hand_in before.terms k) f.form) _ at_hand

-- ---- the whole of it

-- where a jump comes to a keep: the arguments' values, what is kept and left, and that lines and facts are so
pub record Arrives (x : MachineWithProgram) (t : ℕ) (s : World) (k : KeepTree) (vals : List ℤ) (saved : ℤ) (a : Arrival) : Type 0 where
  pub own : a.own ≡ given_to k.names vals
  pub parts : Parts k.lines (hand_of s.shares t) (record { kept = a.kept; left = a.left })
  pub lines : AllByRecursion (LineIs (keep_sight (fields_of x) s t (given_to k.names vals) saved) (hand_of s.shares t)) k.lines
  pub facts : keep_facts_hold (keep_sight (fields_of x) s t (given_to k.names vals) saved) k.facts ≡ true

in_names : (e : Env) (v : Valuation) (ls : List KeepLineTree) → AllByRecursion (Met v) (lines_asks e ls) → (n : ℕ) → is_in n (map (λ (l : KeepLineTree). l.name) ls) ≡ true → (a : TokenTree) × (e.hand n ≡ Some a)
in_names e v [] all n is = let no : false ≡ true = is in cc
in_names e v (l ∷ ls) all n is = tested (nat_eq n l.name) refl is (in_names e v ls all.1.1.1 n) where
  tested : (b : Bool) → nat_eq n l.name ≡ b → (b || is_in n (map (λ (l : KeepLineTree). l.name) ls)) ≡ true → (is_in n (map (λ (l : KeepLineTree). l.name) ls) ≡ true → (a : TokenTree) × (e.hand n ≡ Some a)) → (a : TokenTree) × (e.hand n ≡ Some a)
  tested true same is later = let at : n ≡ l.name = grind (arith, nat_tests) in subst (λ m. (a : TokenTree) × (e.hand m ≡ Some a)) (sym at) (held_there e l.name all.0)
  tested false same is later = later is

seen_keep : (x : MachineWithProgram) (q : ℕ → Bool) (v : Valuation) (before e : Env) (t : ℕ) (s : World) → Place x q v e t s → IsScopedEnv before → (k : KeepTree)
    → ((n : ℕ) → is_in n (own_tokens k) ≡ true → (a : TokenTree) × (e.hand n ≡ Some a)) → (y : ℕ) → is_at_hand_in before.terms k y ≡ true → is_seen (hand_of s.shares t) y ≡ true
seen_keep x q v before e t s p scoped k tokens y is = seen_if (hand_of s.shares t) y (λ n same.
    let there : (a : TokenTree) × (e.hand n ≡ Some a) = tokens n (own_token before scoped k n (subst (λ z. is_at_hand_in before.terms k z ≡ true) same is)) in ap is_some (held_is x q v e t s p n there.0 there.1))

pub arrived_passes : {X : Type 0} → AreTrue → (fits : ℤ → Bool) (spares : Halt → Type 0) (x : MachineWithProgram) (q : ℕ → Bool) (v : Valuation) (before e : Env) (t : ℕ) (s : World) → SparesAt fits spares (sight_of (fields_of x) s.memory s.shares t nowhere_near).valuation → Place x q v e t s → IsScopedEnv before
    → (k : KeepTree) → keep_is_named x (known_here x) k ≡ true → keep_names_only (is_at_hand_in before.terms k) k ≡ true → (args : List Tree) → list_all (is_number (known_here x)) args ≡ true → (wrap : Tree) (saved : ℤ) → num v wrap ≡ saved
    → (line : ℕ) (earlier : List Due) (ss : List ScriptTree) (goal : Outcome X) (same : X) → arrive_row line earlier k args ss wrap e goal ≡ Ok same
    → PassesUnless spares (arrived fits x s t k args saved) (Arrives x t s k (map (num v) (map (read e) args)) saved)
arrived_passes laws fits spares x q v before e t s wide p scoped k named at_hand args numbers wrap saved worth_saved line earlier ss goal same row =
    passes_then spares (term_values fits (sight_of (fields_of x) s.memory s.shares t nowhere_near) args) after (λ ns. ns ≡ vals) (Arrives x t s k vals saved)
    (values_pass fits spares x q v e t s wide p args numbers hands)
    (λ ns is. subst (λ z. PassesUnless spares (after z) (Arrives x t s k vals saved)) (sym is) goes) where
      vals : List ℤ
      vals = map (num v) (map (read e) args)

      sight : List ℤ → Sight
      sight ns = keep_sight (fields_of x) s t (given_to k.names ns) saved

      ended : List ℤ → Parted → Result Arrival Halt
      ended ns p = only_if (keep_facts_hold (sight ns) k.facts) (Ok (record { kept = p.kept; left = p.left; own = given_to k.names ns }))

      after : List ℤ → Result Arrival Halt
      after ns = keep_lines (sight ns) k.lines (hand_of s.shares t) >>= ended ns

      arrives : ℕ → Tree
      arrives = arriving e k args wrap

      met : AllByRecursion (Met v) (at_hand_due e args [] ss ∷ earlier ++ arrive_dues e k args wrap)
      met = (row_met laws v e line p.stands.known (at_hand_due e args [] ss ∷ earlier ++ arrive_dues e k args wrap) ss goal same row).0

      here_met : AllByRecursion (Met v) (arrive_dues e k args wrap)
      here_met = all_right (Met v) earlier (arrive_dues e k args wrap) met.1

      hands : list_all (names_only (is_at_hand e)) args ≡ true
      hands = and_first (list_all (names_only (is_at_hand e)) args) _ met.0

      made : List Due
      made = map Makes (map (read e) args)

      front : AllByRecursion (Met v) ((lines_asks e k.lines ++ made) ++ lines_dues e arrives k.lines)
      front = all_left (Met v) ((lines_asks e k.lines ++ made) ++ lines_dues e arrives k.lines) (facts_dues arrives k.facts) here_met

      asks_met : AllByRecursion (Met v) (lines_asks e k.lines)
      asks_met = all_left (Met v) (lines_asks e k.lines) made (all_left (Met v) (lines_asks e k.lines ++ made) (lines_dues e arrives k.lines) front)

      forms_met : AllByRecursion (Met v) (lines_dues e arrives k.lines)
      forms_met = all_right (Met v) (lines_asks e k.lines ++ made) (lines_dues e arrives k.lines) front

      truths_met : AllByRecursion (Met v) (facts_dues arrives k.facts)
      truths_met = all_right (Met v) ((lines_asks e k.lines ++ made) ++ lines_dues e arrives k.lines) (facts_dues arrives k.facts) here_met

      tokens : (n : ℕ) → is_in n (own_tokens k) ≡ true → (a : TokenTree) × (e.hand n ≡ Some a)
      tokens n is = in_names e v k.lines asks_met n is

      it : Keep x before k v arrives (sight vals)
      it = record { same = keep_same x q v before e t s p scoped k args wrap saved worth_saved tokens; seen = seen_keep x q v before e t s p scoped k tokens }

      rest : (are_apart (own_tokens k) && (list_all (λ (l : KeepLineTree). shape_is_named x (known_here x) l.shape) k.lines && list_all (λ (f : KeepFactTree). is_formula (known_here x) f.form) k.facts)) ≡ true
      rest = and_second (are_apart_names k.names) _ (tokens_apart k named) where
        tokens_apart : (k : KeepTree) → keep_is_named x (known_here x) k ≡ true → (are_apart_names k.names && (are_apart (own_tokens k) && (list_all (λ (l : KeepLineTree). shape_is_named x (known_here x) l.shape) k.lines && list_all (λ (f : KeepFactTree). is_formula (known_here x) f.form) k.facts))) ≡ true
        tokens_apart k is = let tail = and_second (are_apart_names k.names) _ is in and_both (are_apart_names k.names) _ (and_first (are_apart_names k.names) _ is)
            (and_both (are_apart (own_tokens k)) _ (and_second _ (are_apart (own_tokens k)) (and_first (are_apart_names (own_tokens k)) _ tail)) (and_second (are_apart_names (own_tokens k)) _ tail))

      forms : (list_all (λ (l : KeepLineTree). shape_is_named x (known_here x) l.shape) k.lines && list_all (λ (f : KeepFactTree). is_formula (known_here x) f.form) k.facts) ≡ true
      forms = and_second (are_apart (own_tokens k)) _ rest

      lines : AllByRecursion (LineIs (sight vals) (hand_of s.shares t)) k.lines
      lines = lines_met x before e k v arrives (sight vals) it (held_is x q v e t s p) k.lines (and_first (list_all (λ (l : KeepLineTree). shape_is_named x (known_here x) l.shape) k.lines) _ forms) (and_first _ (list_all (λ (f : KeepFactTree). form_names_only (is_at_hand_in before.terms k) f.form) k.facts) at_hand)
          asks_met forms_met

      facts : keep_facts_hold (sight vals) k.facts ≡ true
      facts = facts_met x before k v arrives (sight vals) it k.facts (and_second (list_all (λ (l : KeepLineTree). shape_is_named x (known_here x) l.shape) k.lines) _ forms) (and_second (list_all (λ (l : KeepLineTree). option_all (names_only (is_at_hand_in before.terms k)) l.shape.key && option_all (names_only (is_at_hand_in before.terms k)) l.shape.value) k.lines) _ at_hand)
          truths_met

      found : (p : Parted) × (keep_lines (sight vals) k.lines (hand_of s.shares t) ≡ Ok p) × Parts k.lines (hand_of s.shares t) p
      found = lines_pass (sight vals) k.lines (hand_of s.shares t) (and_first (are_apart (own_tokens k)) _ rest) lines

      goes : PassesUnless spares (after vals) (Arrives x t s k vals saved)
      goes = subst (λ o. PassesUnless spares (o >>= ended vals) (Arrives x t s k vals saved)) (sym found.1)
          (subst (λ b. PassesUnless spares (only_if b (Ok (record { kept = found.0.kept; left = found.0.left; own = given_to k.names vals }))) (Arrives x t s k vals saved)) (sym facts)
          (record { own = refl; parts = found.2; lines = lines; facts = facts }))
