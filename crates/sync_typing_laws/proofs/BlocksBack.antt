-- Tokens go back into a word that closes.
use Rattle.std.specs.Prelude.{◌≡◌, ℕ, Bool, true, false, ◌&&◌, ◌||◌, not, if◌then◌else◌, nat_eq, List, [], ◌∷◌, length, map, flat_map, filter_map, Option, Some, None, is_some, option_map, unwrap_or, Ok}
use Rattle.std.specs.List.{list_all, AllByRecursion, IsDistinct}
use Rattle.std.specs.Ordering.{int_eq}
use Rattle.std.proofs.lemmas.Bool.{and_parts, or_parts, eqb-true}
use Rattle.std.proofs.lemmas.Bool.Decides.{Decides-int_eq}
use mathlib.Core.Path.{refl, sym, ap, subst, ◌∙◌}
use Rattle.std.proofs.Common.{arith}
use Rattle.sync_base.specs.declared.stops.Rule.{Rule}
use Rattle.sync_base.specs.declared.stops.Rule.TheVariants.{A3}
use Rattle.sync_terms.specs.Trees.{Tree, Formula, replaced, replaced_in}
use Rattle.sync_terms.specs.Values.{Valuation, num, truth}
use Rattle.sync_machine.specs.Naming.{number_fault, formula_fault, is_in}
use Rattle.sync_machine.specs.Scope.{Known}
use Rattle.sync_rules.specs.Locality.{names_only}
use Rattle.sync_kernel.proofs.Sound.{truth_neg}
use Rattle.sync_join.specs.declared.tokens.Token.{Token}
use Rattle.sync_exchange.specs.Exchange.{held_as, tokens_in}
use Rattle.sync_exchange.specs.Splitting.{dropped}
use Rattle.sync_exchange.specs.declared.hands.Held.{Held}
use Rattle.sync_thread.specs.Arrays.{token_number}
use Rattle.sync_thread.specs.Programs.{ShapeTree, ClauseTree, WordTree}
use Rattle.sync_thread.specs.declared.operands.CodeDecl.{CodeDecl}
use Rattle.sync_thread.specs.declared.operands.Tok.{Tok}
use Rattle.sync_thread_machine.specs.MachineWithProgram.{MachineWithProgram}
use Rattle.sync_thread_meaning.specs.MachineWithProgram.{field_of}
use Rattle.sync_thread_meaning.specs.Shares.{Sight, is_of_form, is_seen, guard_truth, token_list, has_value as has_number}
use Rattle.sync_thread_meaning.specs.Sound.{clauses_are_kept}
use Rattle.sync_thread_meaning.specs.Words.{Put, put_back}
use Rattle.sync_typing.specs.Blocks.{guard_dues, clause_dues, clauses_dues, shape_if, shape_dues}
use Rattle.sync_typing.specs.Dues.{agrees}
use Rattle.sync_typing.specs.Environments.{Env, is_held, token, TokenTree}
use Rattle.sync_typing.specs.Names.{is_number, is_formula, is_form, shape_is_named, clause_is_named, if_there, known_in_word}
use Rattle.sync_typing_laws.proofs.BlocksTokens.{all_front, all_back, eq_turned}
use Rattle.sync_typing_laws.proofs.LocalDues.{Met}
use Rattle.sync_typing_laws.proofs.Opening.{none_is}
use Rattle.sync_typing_laws.specs.Rests.{worth, IsApart}

none_later : (m : ℕ) (hs : List Held) → AllByRecursion (λ y. nat_eq m y ≡ false) (map (λ (h : Held). h.name) hs) → held_as m hs ≡ None
unfolding held_as
none_later m [] all = refl
none_later m (h ∷ hs) all = ap (λ (b : Bool). if b then Some h.token else held_as m hs) all.0 ∙ none_later m hs all.1

-- a token is gone from a hand, the others stay
pub held_dropped : (m n : ℕ) (hs : List Held) → IsApart hs → held_as m (dropped n hs) ≡ (if nat_eq m n then None else held_as m hs)
unfolding held_as IsDistinct
held_dropped m n [] apart = both (nat_eq m n) where
  both : (b : Bool) → (let r : Option Token = None in r) ≡ (if b then None else None)
  both true = refl
  both false = refl
held_dropped m n (h ∷ hs) apart = tested (nat_eq n h.name) refl (held_dropped m n hs apart.1) where
  tested : (b : Bool) → nat_eq n h.name ≡ b → held_as m (dropped n hs) ≡ (if nat_eq m n then None else held_as m hs)
      → held_as m (if b then hs else h ∷ dropped n hs) ≡ (if nat_eq m n then None else (if nat_eq m h.name then Some h.token else held_as m hs))
  tested true is later = on (nat_eq m n) refl where
    on : (c : Bool) → nat_eq m n ≡ c → held_as m hs ≡ (if c then None else (if nat_eq m h.name then Some h.token else held_as m hs))
    on true e = let a : m ≡ h.name = eqb-true m n e ∙ eqb-true n h.name is in subst (λ k. held_as k hs ≡ None) (sym a) (none_later h.name hs apart.0)
    on false e = let a : nat_eq m h.name ≡ false = subst (λ k. nat_eq m k ≡ false) (eqb-true n h.name is) e in sym (ap (λ (z : Bool). if z then Some h.token else held_as m hs) a)
  tested false is later = on (nat_eq m h.name) refl where
    on : (c : Bool) → nat_eq m h.name ≡ c → (if c then Some h.token else held_as m (dropped n hs)) ≡ (if nat_eq m n then None else (if c then Some h.token else held_as m hs))
    on false e = later
    on true e = let a : nat_eq n m ≡ false = subst (λ k. nat_eq n k ≡ false) (sym (eqb-true m h.name e)) is in
        let b : nat_eq m n ≡ false = eq_turned m n ∙ a in sym (ap (λ (z : Bool). if z then None else Some h.token) b)

-- what is said of all names, or of all tokens, is said of those that are left
names_dropped : (P : ℕ → Type 0) (n : ℕ) (hs : List Held) → AllByRecursion P (map (λ (h : Held). h.name) hs) → AllByRecursion P (map (λ (h : Held). h.name) (dropped n hs))
names_dropped P n [] all = tt
names_dropped P n (h ∷ hs) all = tested (nat_eq n h.name) (names_dropped P n hs all.1) where
  tested : (b : Bool) → AllByRecursion P (map (λ (h : Held). h.name) (dropped n hs)) → AllByRecursion P (map (λ (h : Held). h.name) (if b then hs else h ∷ dropped n hs))
  tested true later = all.1
  tested false later = (all.0, later)

pub apart_dropped : (n : ℕ) (hs : List Held) → IsApart hs → IsApart (dropped n hs)
unfolding IsDistinct
apart_dropped n [] apart = tt
apart_dropped n (h ∷ hs) apart = tested (nat_eq n h.name) (apart_dropped n hs apart.1) where
  tested : (b : Bool) → IsApart (dropped n hs) → IsApart (if b then hs else h ∷ dropped n hs)
  tested true later = apart.1
  tested false later = (names_dropped (λ y. nat_eq h.name y ≡ false) n hs apart.0, later)

pub all_dropped : (P : Token → Type 0) (n : ℕ) (hs : List Held) → AllByRecursion P (tokens_in hs) → AllByRecursion P (tokens_in (dropped n hs))
all_dropped P n [] all = tt
all_dropped P n (h ∷ hs) all = tested (nat_eq n h.name) (all_dropped P n hs all.1) where
  tested : (b : Bool) → AllByRecursion P (tokens_in (dropped n hs)) → AllByRecursion P (tokens_in (if b then hs else h ∷ dropped n hs))
  tested true later = all.1
  tested false later = (all.0, later)

-- what is said of a token that is held
pub all_held : (P : Token → Type 0) (n : ℕ) (hs : List Held) (t : Token) → held_as n hs ≡ Some t → AllByRecursion P (tokens_in hs) → P t
unfolding held_as
all_held P n [] t is all = absurd (cc)
all_held P n (h ∷ hs) t is all = tested (nat_eq n h.name) (λ e. all_held P n hs t e all.1) is where
  tested : (b : Bool) → (held_as n hs ≡ Some t → P t) → (if b then Some h.token else held_as n hs) ≡ Some t → P t
  tested true later e = let same : h.token ≡ t = cc in subst P same all.0
  tested false later e = later e

-- ---- a token that meets a form's dues is of the form

module _ (k : Known) (s : ℕ → Tree) (v : Valuation) (sight : Sight) (same : (t : Tree) → number_fault k t ≡ None → num v (replaced s t) ≡ num sight.valuation t) (seen : (t : Tree) → number_fault k t ≡ None → names_only (is_seen sight.hand) t ≡ true) where
  agreed : (rule : Rule) (o : Option Tree) (u : Tree) → if_there (is_number k) o ≡ true → AllByRecursion (Met v) (agrees rule u (shape_if s o)) → has_number sight o (num v u) ≡ true
  unfolding truth
  agreed rule None u named met = refl
  agreed rule (Some t) u named met =
      let fault = none_is (number_fault k t) named in
      let a = seen t fault in
      let e : num v u ≡ num sight.valuation t = (Decides-int_eq (num v u) (num v (replaced s t))).0 met.0 ∙ same t fault in
      let b : int_eq (num sight.valuation t) (num v u) ≡ true = (Decides-int_eq (num sight.valuation t) (num v u)).1 (sym e) in rw (a, b) refl

  pub form_met : (rule : Rule) (sh : ShapeTree) (u : TokenTree) → if_there (is_number k) sh.key ≡ true → if_there (is_number k) sh.value ≡ true → nat_eq u.field (field_of sh.field) ≡ true → AllByRecursion (Met v) (shape_dues rule s sh u) → is_of_form sight sh (worth v u) ≡ true
  form_met rule sh u key value field met =
      let a : nat_eq (field_of sh.field) u.field ≡ true = eq_turned (field_of sh.field) u.field ∙ field in
      let b = agreed rule sh.key u.key key (all_front (Met v) (agrees rule u.key (shape_if s sh.key)) (agrees rule u.value (shape_if s sh.value)) met) in
      let d = agreed rule sh.value u.value value (all_back (Met v) (agrees rule u.key (shape_if s sh.key)) (agrees rule u.value (shape_if s sh.value)) met) in rw (a, b, d) refl

-- ---- the tokens of a list go back, a clause at a time

some_of : {A B : Type 0} (f : A → B) (o : Option A) (d : A) → is_some o ≡ true → option_map f o ≡ Some (f (unwrap_or o d))
some_of f None d e = absurd (let no : false ≡ true = e in cc)
some_of f (Some a) d e = refl

not_is : (b : Bool) → not b ≡ true → b ≡ false
not_is true e = absurd (let no : false ≡ true = e in cc)
not_is false e = refl

module _ (x : MachineWithProgram) (w : WordTree) (e : Env) (ds : List CodeDecl) (s : ℕ → Tree) (v : Valuation) (sight : Sight)
    (same : (t : Tree) → number_fault (known_in_word x w) t ≡ None → num v (replaced s t) ≡ num sight.valuation t) (seen : (t : Tree) → number_fault (known_in_word x w) t ≡ None → names_only (is_seen sight.hand) t ≡ true)
    (says : (f : Formula) → formula_fault (known_in_word x w) f ≡ None → guard_truth sight (Some f) ≡ Some (truth v (replaced_in s f))) where
  abbrev gone : List (Option Tok) → List ℕ
  gone ts = filter_map (λ n. n) (map (λ (t : Option Tok). option_map (token_number ds) t) ts)

  pub record Back (cs : List ClauseTree) (ts : List (Option Tok)) (hand : List Held) : Type 1 where
    pub put : Put
    pub is : put_back ds sight cs ts hand ≡ Ok put
    pub kept : clauses_are_kept sight cs put.tokens ≡ true
    pub apart : IsApart put.left
    pub left : (m : ℕ) → held_as m put.left ≡ (if is_in m (gone ts) then None else held_as m hand)
    pub tokens : (P : Token → Type 0) → AllByRecursion P (tokens_in hand) → AllByRecursion P (tokens_in put.left) × AllByRecursion P (flat_map token_list put.tokens)

  without_token : (c : ClauseTree) (cs : List ClauseTree) (ts : List (Option Tok)) (hand : List Held) → guard_truth sight c.guard ≡ Some false → Back cs ts hand → Back (c ∷ cs) (None ∷ ts) hand
  without_token c cs ts hand a later = record {
    put = record { tokens = None ∷ later.put.tokens; left = later.put.left };
    is = (let l = later.is in rw (a, l) refl);
    kept = (let l = later.kept in rw (a, l) refl);
    apart = later.apart;
    left = later.left;
    tokens = λ P all. later.tokens P all;
  }

  with_token : (c : ClauseTree) (cs : List ClauseTree) (tok : Tok) (ts : List (Option Tok)) (hand : List Held) (t : Token) → IsApart hand → held_as (token_number ds tok) hand ≡ Some t → guard_truth sight c.guard ≡ Some true → is_of_form sight c.shape t ≡ true
      → Back cs ts (dropped (token_number ds tok) hand) → Back (c ∷ cs) (Some tok ∷ ts) hand
  with_token c cs tok ts hand t apart h a f later = record {
    put = record { tokens = Some t ∷ later.put.tokens; left = later.put.left };
    is = (let l = later.is in rw (h, a, f, l) refl);
    kept = (let l = later.kept in rw (a, f, l) refl);
    apart = later.apart;
    left = λ m. later.left m ∙ ap (λ o. if is_in m (gone ts) then None else o) (held_dropped m (token_number ds tok) hand apart) ∙ either (is_in m (gone ts)) (nat_eq m (token_number ds tok)) (held_as m hand);
    tokens = λ P all. (let k = later.tokens P (all_dropped P (token_number ds tok) hand all) in (k.0, (all_held P (token_number ds tok) hand t h all, k.1)));
  } where
    either : (b d : Bool) (o : Option Token) → (if b then None else (if d then None else o)) ≡ (if d || b then None else o)
    either true true o = refl
    either true false o = refl
    either false true o = refl
    either false false o = refl

  -- a guard of a clause with a token is true, and of one without it is false
  guard_yes : (o : Option Formula) → if_there (is_formula (known_in_word x w)) o ≡ true → AllByRecursion (Met v) (guard_dues s o true) → guard_truth sight o ≡ Some true
  guard_yes None named met = refl
  guard_yes (Some f) named met = says f (none_is (formula_fault (known_in_word x w) f) named) ∙ ap Some met.0

  guard_not : (o : Option Formula) → if_there (is_formula (known_in_word x w)) o ≡ true → is_some o ≡ true → AllByRecursion (Met v) (guard_dues s o false) → guard_truth sight o ≡ Some false
  guard_not None named is met = absurd (let no : false ≡ true = is in cc)
  guard_not (Some f) named is met = says f (none_is (formula_fault (known_in_word x w) f) named) ∙ ap Some (not_is (truth v (replaced_in s f)) (sym (truth_neg v (replaced_in s f)) ∙ met.0))

  -- the tokens of a list whose dues are met go back
  pub goes_back : (cs : List ClauseTree) (ts : List (Option Tok)) (before : List ℕ) (hand : List Held) → IsApart hand → ((m : ℕ) → is_in m before ≡ false → held_as m hand ≡ option_map (worth v) (e.hand m))
      → list_all (clause_is_named x w) cs ≡ true → length ts ≡ length cs → AllByRecursion (Met v) (clauses_dues e s before cs (map (λ (t : Option Tok). option_map (token_number ds) t) ts)) → Back cs ts hand
  goes_back [] [] before hand apart held named many met = record { put = record { tokens = []; left = hand }; is = refl; kept = refl; apart = apart; left = λ m. refl; tokens = λ P all. (all, tt) }
  goes_back [] (t ∷ ts) before hand apart held named many met = absurd (omega (arith))
  goes_back (c ∷ cs) [] before hand apart held named many met = absurd (omega (arith))
  goes_back (c ∷ cs) (None ∷ ts) before hand apart held named many met =
      let k = and_parts (clause_is_named x w c) (list_all (clause_is_named x w) cs) named in
      let g = (and_parts (shape_is_named x (known_in_word x w) c.shape) (if_there (is_formula (known_in_word x w)) c.guard) k.0).1 in
      let rest = clauses_dues e s before cs (map (λ (t : Option Tok). option_map (token_number ds) t) ts) in
      without_token c cs ts hand (guard_not c.guard g met.0 (all_front (Met v) (guard_dues s c.guard false) rest met.1))
      (goes_back cs ts before hand apart held k.1 (omega (arith)) (all_back (Met v) (guard_dues s c.guard false) rest met.1))
  goes_back (c ∷ cs) (Some tok ∷ ts) before hand apart held named many met =
      let n : ℕ = token_number ds tok in
      let k = and_parts (clause_is_named x w c) (list_all (clause_is_named x w) cs) named in
      let g = and_parts (shape_is_named x (known_in_word x w) c.shape) (if_there (is_formula (known_in_word x w)) c.guard) k.0 in
      let sh = and_parts (if_there (is_number (known_in_word x w)) c.shape.key) (if_there (is_number (known_in_word x w)) c.shape.value) (and_parts (is_form x c.shape) _ g.0).1 in
      let rest = clauses_dues e s (n ∷ before) cs (map (λ (t : Option Tok). option_map (token_number ds) t) ts) in
      let one = all_front (Met v) (clause_dues e s before c (Some n)) rest met in
      let w1 = and_parts (is_held e n) (not (is_in n before) && nat_eq (token e n).field (field_of c.shape.field)) one.0 in
      let w2 = and_parts (not (is_in n before)) (nat_eq (token e n).field (field_of c.shape.field)) w1.1 in
      with_token c cs tok ts hand (worth v (token e n)) apart (held n (not_is (is_in n before) w2.0) ∙ some_of (worth v) (e.hand n) _ w1.0)
      (guard_yes c.guard g.1 (all_front (Met v) (guard_dues s c.guard true) (shape_dues A3 s c.shape (token e n)) one.1))
      (form_met (known_in_word x w) s v sight same seen A3 c.shape (token e n) sh.0 sh.1 w2.1 (all_back (Met v) (guard_dues s c.guard true) (shape_dues A3 s c.shape (token e n)) one.1))
      (goes_back cs ts (n ∷ before) (dropped n hand) (apart_dropped n hand apart) (λ m out. still m n before hand apart out held) k.1 (omega (arith)) (all_back (Met v) (clause_dues e s before c (Some n)) rest met)) where
        still : (m n : ℕ) (before : List ℕ) (hand : List Held) → IsApart hand → (nat_eq m n || is_in m before) ≡ false → ((m : ℕ) → is_in m before ≡ false → held_as m hand ≡ option_map (worth v) (e.hand m)) → held_as m (dropped n hand) ≡ option_map (worth v) (e.hand m)
        still m n before hand apart out held = let p = or_parts (nat_eq m n) (is_in m before) out in held_dropped m n hand apart ∙ ap (λ (z : Bool). if z then None else held_as m hand) p.0 ∙ held m p.1
