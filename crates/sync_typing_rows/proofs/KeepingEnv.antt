-- After a keep its environment stands again, for a valuation with new values of the thread's own symbols.
use Rattle.std.proofs.Common.{arith}
use Rattle.std.proofs.lemmas.Bool.Decides.{nat_tests, Decides-int_eq}
use Rattle.std.specs.List.{AllByRecursion}
use Rattle.std.specs.Ordering.{int_eq}
use Rattle.std.specs.Prelude.{◌≡◌, ℕ, zero, suc, ℤ, pos, Bool, true, false, ◌&&◌, ◌||◌, if◌then◌else◌, nat_eq, nat_lt, List, [], ◌∷◌, ◌++◌, length, map, Option, Some, None, is_some, is_none, unwrap_or, option_map, Ok, Err}
use Rattle.sync_base.specs.Outcome.{◌>>=◌}
use Rattle.sync_base.specs.declared.stops.Rule.TheVariants.{K8}
use Rattle.sync_exchange.specs.Exchange.{held_as}
use Rattle.sync_exchange.specs.declared.hands.Held.{Held}
use Rattle.sync_join.specs.declared.tokens.Token.{Token as Real}
use Rattle.sync_kernel_facts.specs.Facts.{Fact, named}
use Rattle.sync_machine.specs.Naming.{number_fault, is_in}
use Rattle.sync_machine.specs.Statements.{or_zero, one}
use Rattle.sync_machine.specs.States.{Numbers}
use Rattle.sync_rules.specs.Locality.{names_only}
use Rattle.sync_terms.proofs.Meaning.{num-replaced}
use Rattle.sync_terms.specs.Trees.{most_nodes, Tree, Lit, Name, tree_size, formula_size, replaced, replaced_in}
use Rattle.sync_terms.specs.Values.{Valuation, num, with_terms}
use Rattle.sync_thread.specs.Programs.{KeepLineTree, KeepFactTree}
use Rattle.sync_thread_machine.specs.MachineWithProgram.{MachineWithProgram}
use Rattle.sync_thread_machine.specs.ProgramSymbols.{held_of}
use Rattle.sync_thread_meaning.specs.MachineWithProgram.{field_of}
use Rattle.sync_thread_meaning.specs.Shares.{Sight, is_of_form, is_seen, has_value}
use Rattle.sync_typing.specs.Environments.{Env, TokenTree, Tokens, Outcome, refused, fits, hand_after, among, take_in, know, tell, stands}
use Rattle.sync_typing.specs.Keeps.{option_all, is_circular, line_value, value_among, line_values, kept_tokens, tell_all}
use Rattle.sync_typing.specs.Names.{known_here, if_there, is_number}
use Rattle.sync_typing_laws.proofs.KeepingSights.{numbers_only}
use Rattle.sync_typing_laws.proofs.KeepingTerms.{Same, same_num, and_first, and_second}
use Rattle.sync_typing_laws.specs.Rests.{worth}
use mathlib.Core.Path.{refl, sym, ap, subst, ◌∙◌}

fits_is : {X : Type 0} (line n : ℕ) (o : Outcome X) (x : X) → fits line n o ≡ Ok x → o ≡ Ok x
fits_is line n o x is = tested (nat_lt most_nodes n) is where
  tested : (b : Bool) → (if b then refused line K8 else o) ≡ Ok x → o ≡ Ok x
  tested true is = let no : Err _ ≡ Ok x = is in cc
  tested false is = is

-- a result that leads to an environment
abbrev pub Leads : Outcome Env → Env → Type 0
Leads o now = o ≡ Ok now

same_env : (r now : Env) → Leads (Ok r) now → r ≡ now
same_env r now is = ap (from r) is where
  from : Env → Outcome Env → Env
  from d (Ok x) = x
  from d (Err e) = d

made_is : (F : Tokens → Outcome Env) (line : ℕ) (r now : Env) → Leads (F []) r → ((t : ℕ × TokenTree) (ts : Tokens) → F (t ∷ ts) ≡ fits line (tree_size t.1.key) (fits line (tree_size t.1.value) (F ts))) → (new : Tokens) → F new ≡ Ok now → Leads (Ok r) now
made_is F line r now nil cons [] is = sym nil ∙ is
made_is F line r now nil cons (t ∷ ts) is = made_is F line r now nil cons ts (fits_is line (tree_size t.1.value) (F ts) now (fits_is line (tree_size t.1.key) (fits line (tree_size t.1.value) (F ts)) now (sym (cons t ts) ∙ is)))

abbrev pub entered : List ℕ → Tokens → Env → Env
entered gone new e = record { terms = e.terms; hand = hand_after gone new e.hand; facts = e.facts; fresh = e.fresh }

abbrev taken : ℕ → List ℕ → Tokens → Env → Tokens → Outcome Env
taken line gone new e [] = Ok (record { terms = e.terms; hand = hand_after gone new e.hand; facts = e.facts; fresh = e.fresh })
taken line gone new e (t ∷ ts) = fits line (tree_size t.1.key) (fits line (tree_size t.1.value) (taken line gone new e ts))

same_taken : (line : ℕ) (gone : List ℕ) (new : Tokens) (e : Env) → take_in line gone new e ≡ taken line gone new e new
same_taken line gone new e = refl

pub take_in_is : (line : ℕ) (gone : List ℕ) (new : Tokens) (e now : Env) → take_in line gone new e ≡ Ok now → entered gone new e ≡ now
take_in_is line gone new e now is = same_env (entered gone new e) now (made_is (taken line gone new e) line (entered gone new e) now refl (λ t ts. refl) new is)

-- ---- facts that are told

-- the same names, tokens and symbols, and facts that are so
pub record Told (Q : Fact → Type 0) (e now : Env) : Type 0 where
  pub terms : now.terms ≡ e.terms
  pub hand : now.hand ≡ e.hand
  pub fresh : now.fresh ≡ e.fresh
  pub facts : AllByRecursion Q now.facts

all_both : {A : Type 0} (Q : A → Type 0) (xs ys : List A) → AllByRecursion Q xs → AllByRecursion Q ys → AllByRecursion Q (xs ++ ys)
all_both Q [] ys one two = two
all_both Q (x ∷ xs) ys one two = (one.0, all_both Q xs ys one.1 two)

pub tell_all_is : (Q : Fact → Type 0) (line : ℕ) (fs : List KeepFactTree) (e now : Env) → AllByRecursion Q e.facts → AllByRecursion (λ (f : KeepFactTree). (n : ℕ) → Q (named n (replaced_in (stands e) f.form))) fs → tell_all line fs e ≡ Ok now → Told Q e now
tell_all_is Q line [] e now old new is = subst (Told Q e) (same_env e now is) (record { terms = refl; hand = refl; fresh = refl; facts = old })
tell_all_is Q line (f ∷ fs) e now old new is = by f.label is (λ old is. tell_all_is Q line fs e now old new.1 is) (λ n old is. tell_all_is Q line fs (more n) now old new.1 is) where
  more : ℕ → Env
  more n = know (named n (replaced_in (stands e) f.form) ∷ []) e

  same : (n : ℕ) → Told Q (more n) now → Told Q e now
  same n it = record { terms = it.terms; hand = it.hand; fresh = it.fresh; facts = it.facts }

  by : (label : Option ℕ) → (tell line label (replaced_in (stands e) f.form) e >>= tell_all line fs) ≡ Ok now → (AllByRecursion Q e.facts → tell_all line fs e ≡ Ok now → Told Q e now)
      → ((n : ℕ) → AllByRecursion Q (more n).facts → tell_all line fs (more n) ≡ Ok now → Told Q (more n) now) → Told Q e now
  by None is later also = later old is
  by (Some n) is later also = same n (also n (all_both Q e.facts (named n (replaced_in (stands e) f.form) ∷ []) old (new.0 n, tt)) (told (nat_lt most_nodes (formula_size (replaced_in (stands e) f.form))) is)) where
    told : (b : Bool) → ((if b then refused line K8 else Ok (more n)) >>= tell_all line fs) ≡ Ok now → tell_all line fs (more n) ≡ Ok now
    told true is = let no : Err _ ≡ Ok now = is in cc
    told false is = is

-- ---- the tokens of a keep

-- Lines that are as they say, in a hand: a token of which nothing is said of its key or value has 0 or 1.
pub record Shaped (x : MachineWithProgram) (p : ℕ → Bool) (w : Sight) (hand : List Held) (l : KeepLineTree) : Type 0 where
  pub token : Real
  pub held : held_as l.name hand ≡ Some token
  pub form : is_of_form w l.shape token ≡ true
  pub key : l.shape.key ≡ None → token.key ≡ pos 0
  pub value : l.shape.value ≡ None → token.value ≡ pos 1
  pub number_key : if_there (is_number (known_here x)) l.shape.key ≡ true
  pub number_value : if_there (is_number (known_here x)) l.shape.value ≡ true
  pub names_key : option_all (names_only p) l.shape.key ≡ true
  pub names_value : option_all (names_only p) l.shape.value ≡ true
  pub known : known_here x (held_of l.name) ≡ Some Numbers
  pub names : p (held_of l.name) ≡ true

none_is : {A : Type 0} (o : Option A) → (if is_some o then false else true) ≡ true → o ≡ None
none_is None is = refl
none_is (Some a) is = let no : false ≡ true = is in cc

-- what a line asks of a number is so of it, and where it asks nothing the number is this one
asked_is : (x : MachineWithProgram) (p : ℕ → Bool) (w : Sight) (n : ℤ) (o : Option Tree) (other : Tree) → has_value w o n ≡ true → (o ≡ None → n ≡ num w.valuation other) → num w.valuation (unwrap_or o other) ≡ n
asked_is x p w n None other is same = sym (same refl)
asked_is x p w n (Some t) other is same = (Decides-int_eq (num w.valuation t) n).0 (and_second (names_only (is_seen w.hand) t) (int_eq (num w.valuation t) n) is)

no_fault : (o : Option Tree) (other : Tree) (x : MachineWithProgram) → if_there (is_number (known_here x)) o ≡ true → is_number (known_here x) other ≡ true → is_number (known_here x) (unwrap_or o other) ≡ true
no_fault None other x one two = two
no_fault (Some t) other x one two = one

no_names : (o : Option Tree) (other : Tree) (p : ℕ → Bool) → option_all (names_only p) o ≡ true → names_only p other ≡ true → names_only p (unwrap_or o other) ≡ true
no_names None other p one two = two
no_names (Some t) other p one two = one

zero_is : (o : Option Tree) → or_zero o ≡ unwrap_or o (Lit (pos 0))
zero_is None = refl
zero_is (Some t) = refl

lit_number : (x : MachineWithProgram) (n : ℤ) → is_number (known_here x) (Lit n) ≡ true
unfolding number_fault
lit_number x n = refl

lit_names : (p : ℕ → Bool) (n : ℤ) → names_only p (Lit n) ≡ true
unfolding names_only
lit_names p n = refl

pub number_none : {A : Type 0} (o : Option A) → is_none o ≡ true → o ≡ None
number_none None is = refl
number_none (Some a) is = let no : false ≡ true = is in cc

module _ (x : MachineWithProgram) (p : ℕ → Bool) (r : Valuation) (w : Sight) (hand : List Held) (sb : ℕ → Tree) (base : Same (known_here x) p (with_terms sb r) w.valuation)
    (of_held : (n : ℕ) (a : Real) → held_as n hand ≡ Some a → w.valuation.number (held_of n) ≡ a.value) where
  -- a term read through the lines of a keep
  through : (deeper : ℕ → Tree) → Same (known_here x) p (with_terms (λ y. replaced sb (deeper y)) r) w.valuation → (t : Tree) → is_number (known_here x) t ≡ true → names_only p t ≡ true → num r (replaced sb (replaced deeper t)) ≡ num w.valuation t
  through deeper same t number names = num-replaced sb r (replaced deeper t) ∙ num-replaced deeper (with_terms sb r) t
      ∙ same_num (known_here x) p (with_terms deeper (with_terms sb r)) w.valuation (numbers_only x) (λ y known at_hand. sym (num-replaced sb r (deeper y)) ∙ same y known at_hand) t (number_none (number_fault (known_here x) t) number) names

  itself : (y : ℕ) → num r (replaced sb (Name y)) ≡ num r (sb y)
  unfolding replaced
  itself y = refl

  named_by_line : (deeper : ℕ → Tree) (y : ℕ) → num r (replaced sb (replaced deeper (Name y))) ≡ num r (replaced sb (deeper y))
  unfolding replaced
  named_by_line deeper y = refl

  line_is : (deeper : ℕ → Tree) → Same (known_here x) p (with_terms (λ y. replaced sb (deeper y)) r) w.valuation → (l : KeepLineTree) → (it : Shaped x p w hand l) → num r (replaced sb (replaced deeper (line_value l))) ≡ w.valuation.number (held_of l.name)
  line_is deeper same l it = through deeper same (line_value l) (no_fault l.shape.value (Lit (pos 1)) x it.number_value (lit_number x (pos 1))) (no_names l.shape.value (Lit (pos 1)) p it.names_value (lit_names p (pos 1)))
      ∙ asked_is x p w it.token.value l.shape.value (Lit (pos 1)) (and_second _ (has_value w l.shape.value it.token.value) it.form) it.value ∙ sym (of_held l.name it.token it.held)

  among_same : (deeper : ℕ → Tree) → Same (known_here x) p (with_terms (λ y. replaced sb (deeper y)) r) w.valuation → (all ls : List KeepLineTree) → AllByRecursion (Shaped x p w hand) ls
      → Same (known_here x) p (with_terms (λ y. replaced sb (value_among deeper all ls y)) r) w.valuation
  among_same deeper same all [] shaped y known at_hand = itself y ∙ base y known at_hand
  among_same deeper same all (l ∷ ls) shaped y known at_hand = tested (nat_eq (held_of l.name) y) refl (among_same deeper same all ls shaped.1 y known at_hand) where
    circle : (b : Bool) → y ≡ held_of l.name → num r (replaced sb (if b then Name y else replaced deeper (line_value l))) ≡ w.valuation.number y
    circle true at = itself y ∙ base y known at_hand
    circle false at = line_is deeper same l shaped.0 ∙ ap w.valuation.number (sym at)

    tested : (b : Bool) → nat_eq (held_of l.name) y ≡ b → num r (replaced sb (value_among deeper all ls y)) ≡ w.valuation.number y
        → num r (replaced sb (if b then (if is_circular all l then Name y else replaced deeper (line_value l)) else value_among deeper all ls y)) ≡ w.valuation.number y
    tested true at later = circle (is_circular all l) (grind (arith, nat_tests))
    tested false at later = later

  values_same : (ls : List KeepLineTree) → AllByRecursion (Shaped x p w hand) ls → (m : ℕ) → Same (known_here x) p (with_terms (λ y. replaced sb (line_values m ls y)) r) w.valuation
  values_same ls shaped zero y known at_hand = itself y ∙ base y known at_hand
  values_same ls shaped (suc m) y known at_hand = among_same (line_values m ls) (values_same ls shaped m) ls ls shaped y known at_hand

  abbrev token_for : (ℕ → Tree) → KeepLineTree → TokenTree
  token_for deeper l = record { field = field_of l.shape.field; key = replaced sb (replaced deeper (or_zero l.shape.key)); value = replaced sb (replaced deeper (Name (held_of l.name))) }

  abbrev tokens_for : (ℕ → Tree) → List KeepLineTree → Tokens
  tokens_for deeper ls = map (λ (l : KeepLineTree). (l.name, token_for deeper l)) ls

  abbrev real : ℕ → ℤ → ℤ → Real
  real f k v = record { field = f; key = k; value = v }

  token_worth : (deeper : ℕ → Tree) → Same (known_here x) p (with_terms (λ y. replaced sb (deeper y)) r) w.valuation → (l : KeepLineTree) → (it : Shaped x p w hand l) → worth r (token_for deeper l) ≡ it.token
  token_worth deeper same l it = ap (λ f. real f key value) field ∙ ap (λ k. real it.token.field k value) keys ∙ ap (λ v. real it.token.field it.token.key v) values where
    key : ℤ
    key = num r (replaced sb (replaced deeper (or_zero l.shape.key)))

    value : ℤ
    value = num r (replaced sb (replaced deeper (Name (held_of l.name))))

    front : (nat_eq (field_of l.shape.field) it.token.field && has_value w l.shape.key it.token.key) ≡ true
    front = and_first _ (has_value w l.shape.value it.token.value) it.form

    field : field_of l.shape.field ≡ it.token.field
    field = let is : nat_eq (field_of l.shape.field) it.token.field ≡ true = and_first (nat_eq (field_of l.shape.field) it.token.field) (has_value w l.shape.key it.token.key) front in grind (arith, nat_tests)

    keys : key ≡ it.token.key
    keys = ap (λ u. num r (replaced sb (replaced deeper u))) (zero_is l.shape.key)
        ∙ through deeper same (unwrap_or l.shape.key (Lit (pos 0))) (no_fault l.shape.key (Lit (pos 0)) x it.number_key (lit_number x (pos 0))) (no_names l.shape.key (Lit (pos 0)) p it.names_key (lit_names p (pos 0)))
        ∙ asked_is x p w it.token.key l.shape.key (Lit (pos 0)) (and_second (nat_eq (field_of l.shape.field) it.token.field) (has_value w l.shape.key it.token.key) front) it.key

    values : value ≡ it.token.value
    values = named_by_line deeper (held_of l.name) ∙ same (held_of l.name) it.known it.names ∙ of_held l.name it.token it.held

  hand_for : (deeper : ℕ → Tree) → Same (known_here x) p (with_terms (λ y. replaced sb (deeper y)) r) w.valuation → (ls : List KeepLineTree) → AllByRecursion (Shaped x p w hand) ls
      → (n : ℕ) → option_map (worth r) (among (tokens_for deeper ls) n) ≡ (if is_in n (map (λ (l : KeepLineTree). l.name) ls) then held_as n hand else None)
  hand_for deeper same [] shaped n = refl
  hand_for deeper same (l ∷ ls) shaped n = tested (nat_eq n l.name) refl (hand_for deeper same ls shaped.1 n) where
    names : List ℕ
    names = map (λ (l : KeepLineTree). l.name) ls

    tested : (b : Bool) → nat_eq n l.name ≡ b → option_map (worth r) (among (tokens_for deeper ls) n) ≡ (if is_in n names then held_as n hand else None)
        → option_map (worth r) (if nat_eq l.name n then Some (token_for deeper l) else among (tokens_for deeper ls) n) ≡ (if (nat_eq n l.name || is_in n names) then held_as n hand else None)
    tested true is later = let back : nat_eq l.name n ≡ true = grind (arith, nat_tests) in let at : n ≡ l.name = grind (arith, nat_tests) in
        ap (λ b. option_map (worth r) (if b then Some (token_for deeper l) else among (tokens_for deeper ls) n)) back ∙ ap (λ (o : Real). Some o) (token_worth deeper same l shaped.0) ∙ sym shaped.0.held ∙ ap (λ m. held_as m hand) (sym at)
        ∙ ap (λ b. if (b || is_in n names) then held_as n hand else None) (sym is)
    tested false is later = let back : nat_eq l.name n ≡ false = grind (arith, nat_tests) in
        ap (λ b. option_map (worth r) (if b then Some (token_for deeper l) else among (tokens_for deeper ls) n)) back ∙ later ∙ ap (λ b. if (b || is_in n names) then held_as n hand else None) (sym is)

  -- the tokens of a keep are those of its lines in the hand
  pub keep_hand : (ls : List KeepLineTree) → AllByRecursion (Shaped x p w hand) ls → (n : ℕ) → option_map (worth r) (among (kept_tokens sb ls) n) ≡ (if is_in n (map (λ (l : KeepLineTree). l.name) ls) then held_as n hand else None)
  keep_hand ls shaped n = hand_for (line_values (length ls) ls) (values_same ls shaped (length ls)) ls shaped n
