-- A thread ends: what comes to its last keep is what it has then.
use Rattle.std.proofs.Common.{arith, inl, inr}
use Rattle.std.proofs.lemmas.Bool.{le-ltb}
use Rattle.std.proofs.lemmas.Bool.Decides.{nat_tests}
use Rattle.std.proofs.lemmas.List.{get_or-set_same, get_or-set_other, length-set}
use Rattle.std.specs.List.{AllByRecursion, list_all}
use Rattle.std.specs.Prelude.{◌≡◌, ℕ, suc, ◌<◌, ◌≤◌, ℤ, pos, Bool, true, false, ◌&&◌, ◌||◌, if◌then◌else◌, nat_eq, nat_lt, List, [], ◌∷◌, ◌++◌, length, map, slice_set, Option, Some, None, is_some, unwrap_or, Ok}
use Rattle.sync_base.specs.Outcome.{◌>>=◌}
use Rattle.sync_exchange.specs.Exchange.{held_as, tokens_in}
use Rattle.sync_join.specs.Join.{record_at, number_of}
use Rattle.sync_machine.specs.Naming.{is_in}
use Rattle.sync_machine.specs.States.{Numbers, strategy_at}
use Rattle.sync_rules.specs.Locality.{form_names_only, names_only}
use Rattle.sync_terms.specs.Symbols.{name_symbol}
use Rattle.sync_terms.specs.Trees.{Tree}
use Rattle.sync_terms.specs.Values.{num}
use Rattle.sync_thread.specs.Code.{locals_of}
use Rattle.sync_thread.specs.Programs.{JumpTree, KeepFactTree, KeepLineTree, KeepTree, ThreadTree}
use Rattle.sync_thread.specs.Resting.{PassesUnless}
use Rattle.sync_thread_machine.specs.MachineWithProgram.{MachineWithProgram, fields_of}
use Rattle.sync_thread_machine.specs.ProgramSymbols.{first_fresh, held_of, symbols, wrap_symbol}
use Rattle.sync_thread_meaning.specs.Meaning.{Arrival, World, arrived, keep_sight, keeping}
use Rattle.sync_thread_meaning.specs.Shares.{Sight, amount_of, found, given_to, hand_of, is_seen, keep_facts_hold, named_value, overlaid, proofs_of, wrap_of}
use Rattle.sync_typing.specs.Dues.{are_apart}
use Rattle.sync_typing.specs.Environments.{Env, read}
use Rattle.sync_typing.specs.Keeps.{is_at_hand_in, option_all, own_tokens}
use Rattle.sync_typing.specs.Lists.{assigned_locals, jump_row}
use Rattle.sync_typing.specs.Names.{are_apart_names, are_names, as_many, is_formula, is_named, is_number, jump_is_named, known_here, known_with, number_if, shape_is_named}
use Rattle.sync_typing.specs.Typing.{constants, is_constant, no_wrap}
use Rattle.sync_typing_laws.proofs.Deciding.{laws}
use Rattle.sync_typing_laws.proofs.KeepingSights.{OfField, OfHeld, OfName, OfWrap, Symbol, or_one, own_token, symbol_of, value_field, value_held, value_name}
use Rattle.sync_typing_laws.proofs.KeepingTerms.{Same, and_first, and_second}
use Rattle.sync_typing_laws.proofs.LocalMoves.{names_more}
use Rattle.sync_typing_laws.specs.Rests.{IsScopedEnv, KnowsConstants}
use Rattle.sync_typing_laws.specs.RowLaws.{IsThreadOf, SparesWidth}
use Rattle.sync_typing_laws.specs.Ruling.{Meanings, body_at}
use Rattle.sync_typing_laws.specs.Standing.{IsWholeState, Standing, Stayed}
use Rattle.sync_typing_rows.proofs.BeginTerms.{in_names}
use Rattle.sync_typing_rows.proofs.Carried.{facts_carry, lines_carry}
use Rattle.sync_typing_rows.proofs.KeepingArrive.{Arrives, arrived_passes, passes_then, seen_if}
use Rattle.sync_typing_rows.proofs.KeepingWhole.{kept_apart, kept_bag, moved_whole}
use Rattle.sync_typing_rows.proofs.MoreNames.{keep_named_more, known_more}
use Rattle.sync_typing_rows.specs.BeginLaws.{HasKept, IsLineHeld, KeptAt, sight_at}
use Rattle.sync_typing_rows.specs.EndLaws.{EndsGoOn, HasEnded, IsThreadKeep}
use mathlib.Core.Path.{refl, sym, ap, subst, ◌∙◌}

-- ---- constants alone

abbrev pub only_constants : Env → Env
only_constants known = record { terms = constants known; hand = λ n. None; facts = []; fresh = first_fresh }

near_is : (known : Env) (y : ℕ) (u : Tree) → constants known y ≡ Some u → (y < 32) × (known.terms y ≡ Some u)
near_is known y u is = by (nat_lt y 32) refl is where
  by : (b : Bool) → nat_lt y 32 ≡ b → (if b then known.terms y else None) ≡ Some u → (y < 32) × (known.terms y ≡ Some u)
  by true k j = (grind (arith, nat_tests), j)
  by false k j = absurd (let no : None ≡ Some u = j in cc)

pub constants_scoped : (x : MachineWithProgram) (known : Env) → KnowsConstants x known → IsScopedEnv (only_constants known)
constants_scoped x known knows = record {
  names = λ y u is. (let it = near_is known y u is in names_more (λ (z : ℕ). false) (λ z. nat_lt z first_fresh) (λ z no. (let never : false ≡ true = no in cc)) u (knows.closed y u it.0 it.1));
  keys = λ n a is. (let no : None ≡ Some a = is in cc);
  values = λ n a is. (let no : None ≡ Some a = is in cc);
  facts = tt;
  said = λ y u is. (let it = near_is known y u is in let low : y < 32 = it.0 in inl (omega (arith, low)));
  beyond = (let same : first_fresh ≤ first_fresh = omega arith in same);
}

-- a name at hand is one of the keep's own
pub own_name : (known : Env) (k : KeepTree) (n : ℕ) → is_at_hand_in (constants known) k (name_symbol n) ≡ true → is_in n k.names ≡ true
own_name known k n is = elim (or_one (nat_lt (name_symbol n) 64) (is_some (constants known (name_symbol n)) || (is_in (name_symbol n) (symbols k.names) || is_in (name_symbol n) (map held_of (own_tokens k)))) is) [
  | inl small ↦ (let far : nat_lt (name_symbol n) 64 ≡ false = grind (arith, nat_tests) in absurd (let no : false ≡ true = sym far ∙ small in cc))
  | inr more ↦ elim (or_one (is_some (constants known (name_symbol n))) (is_in (name_symbol n) (symbols k.names) || is_in (name_symbol n) (map held_of (own_tokens k))) more) [
    | inl some ↦ (let far : nat_lt (name_symbol n) 32 ≡ false = grind (arith, nat_tests) in absurd (let no : false ≡ true = sym (ap (λ b. is_some (if b then known.terms (name_symbol n) else None)) far) ∙ some in cc))
    | inr other ↦ elim (or_one (is_in (name_symbol n) (symbols k.names)) (is_in (name_symbol n) (map held_of (own_tokens k))) other) [
      | inl own ↦ sym (in_names n k.names) ∙ own
      | inr held ↦ absurd (no_held (own_tokens k) held)
    ]
  ]
] where
  no_held : (ns : List ℕ) → is_in (name_symbol n) (map held_of ns) ≡ true → ⊥
  no_held [] k = let no : false ≡ true = k in cc
  no_held (m ∷ ns) k = let off : nat_eq (name_symbol n) (held_of m) ≡ false = grind (arith, nat_tests) in no_held ns (sym (ap (λ b. b || is_in (name_symbol n) (map held_of ns)) off) ∙ k)

-- `wrap` is not known in keeps of threads
pub no_wrap_known : (x : MachineWithProgram) → length (fields_of x) ≤ 32 → known_with x [] wrap_symbol ≡ Some Numbers → ⊥
no_wrap_known x few is = by (nat_lt wrap_symbol (length (fields_of x))) far (is_constant (strategy_at (fields_of x) wrap_symbol)) is where
  far : nat_lt wrap_symbol (length (fields_of x)) ≡ false
  far = le-ltb wrap_symbol (length (fields_of x)) (omega (arith, few))

  by : (b : Bool) → b ≡ false → (c : Bool) → number_if ((b && c) || (false || is_named wrap_symbol)) ≡ Some Numbers → ⊥
  by false k c j = let no : None ≡ Some Numbers = j in cc
  by true k c j = let no : true ≡ false = k in cc

-- ---- values that are given

length_map : {A B : Type 0} (f : A → B) (xs : List A) → length (map f xs) ≡ length xs
length_map f [] = refl
length_map f (x ∷ xs) = ap suc (length_map f xs)

pub given_some : (ns : List ℕ) (vs : List ℤ) → length vs ≡ length ns → (y : ℕ) → is_in y ns ≡ true → (v : ℤ) × (given_to ns vs y ≡ Some v)
given_some [] vs many y inside = absurd (let no : false ≡ true = inside in cc)
given_some (n ∷ ns) [] many y inside = absurd (omega (arith, many))
given_some (n ∷ ns) (v ∷ vs) many y inside = by (nat_eq y n) inside (given_some ns vs (let less : suc (length vs) ≡ suc (length ns) = many in omega (arith, less)) y) where
  by : (b : Bool) → (b || is_in y ns) ≡ true → (is_in y ns ≡ true → (u : ℤ) × (given_to ns vs y ≡ Some u)) → (u : ℤ) × ((if b then Some v else given_to ns vs y) ≡ Some u)
  by true k later = (v, refl)
  by false k later = later k

pub given_none : (ns : List ℕ) (vs : List ℤ) (y : ℕ) → is_in y ns ≡ false → given_to ns vs y ≡ None
given_none [] vs y out = refl
given_none (n ∷ ns) [] y out = refl
given_none (n ∷ ns) (v ∷ vs) y out = by (nat_eq y n) out (given_none ns vs y) where
  by : (b : Bool) → (b || is_in y ns) ≡ false → (is_in y ns ≡ false → given_to ns vs y ≡ None) → (if b then Some v else given_to ns vs y) ≡ None
  by true k later = absurd (let no : true ≡ false = k in cc)
  by false k later = later k

pub over_given : (f g : ℕ → Option ℤ) (y : ℕ) (n : ℤ) → f y ≡ Some n → overlaid f g y ≡ Some n
over_given f g y n is = rw is

-- the tokens of lines are held
pub lines_held : (w : Sight) (ls : List KeepLineTree) → AllByRecursion (IsLineHeld w) ls → (n : ℕ) → is_in n (map (λ (l : KeepLineTree). l.name) ls) ≡ true → is_some (held_as n w.hand) ≡ true
lines_held w [] all n is = absurd (let no : false ≡ true = is in cc)
lines_held w (l ∷ ls) all n is = by (nat_eq n l.name) refl is (lines_held w ls all.1 n) where
  by : (b : Bool) → nat_eq n l.name ≡ b → (b || is_in n (map (λ (l : KeepLineTree). l.name) ls)) ≡ true → (is_in n (map (λ (l : KeepLineTree). l.name) ls) ≡ true → is_some (held_as n w.hand) ≡ true) → is_some (held_as n w.hand) ≡ true
  by true k j later = let at : n ≡ l.name = grind (arith, nat_tests) in ap (λ m. is_some (held_as m w.hand)) at ∙ ap is_some all.0.1
  by false k j later = later j

-- what a keep says at one place it says at another where its names and tokens are the same
pub carried : (x : MachineWithProgram) (known : Env) → KnowsConstants x known → (k : KeepTree) → IsThreadKeep x known k → (w there : Sight) → Same (known_with x []) (is_at_hand_in (constants known) k) w.valuation there.valuation
    → ((n : ℕ) → is_in n (own_tokens k) ≡ true → held_as n there.hand ≡ held_as n w.hand) → AllByRecursion (IsLineHeld w) k.lines → keep_facts_hold w k.facts ≡ true → KeptAt there k
carried x known knows k keep w there same held_same lines facts = record {
  lines = lines_carry x p w there same seen k.lines held_same (and_first (list_all (λ (l : KeepLineTree). shape_is_named x (known_with x []) l.shape) k.lines) _ (and_second (are_apart_names (own_tokens k)) _ rest))
      (and_first _ (list_all (λ (f : KeepFactTree). form_names_only p f.form) k.facts) keep.at_hand) lines;
  facts = facts_carry x p w there same seen k.facts (and_second (list_all (λ (l : KeepLineTree). shape_is_named x (known_with x []) l.shape) k.lines) _ (and_second (are_apart_names (own_tokens k)) _ rest))
      (and_second (list_all (λ (l : KeepLineTree). option_all (names_only p) l.shape.key && option_all (names_only p) l.shape.value) k.lines) _ keep.at_hand) facts;
} where
  p : ℕ → Bool
  p = is_at_hand_in (constants known) k

  seen : (y : ℕ) → is_at_hand_in (constants known) k y ≡ true → is_seen there.hand y ≡ true
  seen y at_hand = seen_if there.hand y (λ n at. (let own = own_token (only_constants known) (constants_scoped x known knows) k n (subst (λ d. is_at_hand_in (constants known) k d ≡ true) at at_hand) in ap is_some (held_same n own) ∙ lines_held w k.lines lines n own))

  rest : (are_apart_names (own_tokens k) && (list_all (λ (l : KeepLineTree). shape_is_named x (known_with x []) l.shape) k.lines && list_all (λ (f : KeepFactTree). is_formula (known_with x []) f.form) k.facts)) ≡ true
  rest = and_second (are_apart_names k.names) _ keep.named

-- ---- what comes to a keep of a thread is so at the place that it comes to

-- with the keep's own values alone in place of all proof values, and the kept tokens as the hand of thread u
module _ (x : MachineWithProgram) (known : Env) (few : length (fields_of x) ≤ 32) (knows : KnowsConstants x known) (k : KeepTree) (keep : IsThreadKeep x known k) (t : ℕ) (s : World) (vals : List ℤ) (many : length vals ≡ length k.names) (a : Arrival) (arrives : Arrives x t s k vals (pos 0) a)
    (u : ℕ) (z : World) (kept_same : z.shares.kept ≡ s.shares.kept) (proofs_are : proofs_of z.shares u ≡ given_to k.names vals) (hand_is : (n : ℕ) → is_in n (own_tokens k) ≡ true → held_as n (hand_of z.shares u) ≡ held_as n a.kept) where
  abbrev w : Sight
  w = keep_sight (fields_of x) s t (given_to k.names vals) (pos 0)

  abbrev there : Sight
  there = sight_at x u z

  abbrev p : ℕ → Bool
  p = is_at_hand_in (constants known) k

  held_same : (n : ℕ) → is_in n (own_tokens k) ≡ true → held_as n there.hand ≡ held_as n w.hand
  held_same n own = hand_is n own ∙ arrives.parts.kept n ∙ ap (λ b. if b then held_as n (hand_of s.shares t) else None) own

  own_held : (n : ℕ) → p (held_of n) ≡ true → is_in n (own_tokens k) ≡ true
  own_held n is = own_token (only_constants known) (constants_scoped x known knows) k n is

  same : Same (known_with x []) p w.valuation there.valuation
  same y is_known at_hand = by (symbol_of x y (known_more x y is_known)) where
    by : Symbol x y → w.valuation.number y ≡ there.valuation.number y
    by (OfField below constant) = value_field (fields_of x) s.shares.kept (pos 0 ∷ pos 0 ∷ pos 0 ∷ pos 0 ∷ pos 0 ∷ []) (named_value (overlaid (given_to k.names vals) (proofs_of s.shares t)) (locals_of s.memory t)) (hand_of s.shares t) y below
        ∙ ap (λ g. number_of (record_at g y)) (sym kept_same) ∙ sym (value_field (fields_of x) z.shares.kept (pos 0 ∷ pos 0 ∷ pos 0 ∷ pos 0 ∷ wrap_of z.shares u ∷ []) (named_value (proofs_of z.shares u) (locals_of z.memory u)) (hand_of z.shares u) y below)
    by (OfWrap at) = absurd (no_wrap_known x few (subst (λ d. known_with x [] d ≡ Some Numbers) at is_known))
    by (OfName n at below) = subst (λ d. w.valuation.number d ≡ there.valuation.number d) (sym at)
        (value_name (fields_of x) s.shares.kept (pos 0 ∷ pos 0 ∷ pos 0 ∷ pos 0 ∷ pos 0 ∷ []) (named_value (overlaid (given_to k.names vals) (proofs_of s.shares t)) (locals_of s.memory t)) (hand_of s.shares t) n few
        ∙ ap (λ o. unwrap_or o (pos (locals_of s.memory t n))) (over_given (given_to k.names vals) (proofs_of s.shares t) n given.0 given.1)
        ∙ sym (value_name (fields_of x) z.shares.kept (pos 0 ∷ pos 0 ∷ pos 0 ∷ pos 0 ∷ wrap_of z.shares u ∷ []) (named_value (proofs_of z.shares u) (locals_of z.memory u)) (hand_of z.shares u) n few
        ∙ ap (λ o. unwrap_or o (pos (locals_of z.memory u n))) (ap (λ f. f n) proofs_are ∙ given.1))) where
          given : (v : ℤ) × (given_to k.names vals n ≡ Some v)
          given = given_some k.names vals many n (own_name known k n (subst (λ d. p d ≡ true) at at_hand))
    by (OfHeld n at below) = subst (λ d. w.valuation.number d ≡ there.valuation.number d) (sym at)
        (value_held (fields_of x) s.shares.kept (pos 0 ∷ pos 0 ∷ pos 0 ∷ pos 0 ∷ pos 0 ∷ []) (named_value (overlaid (given_to k.names vals) (proofs_of s.shares t)) (locals_of s.memory t)) (hand_of s.shares t) n few
        ∙ ap amount_of (sym (held_same n (own_held n (subst (λ d. p d ≡ true) at at_hand))))
        ∙ sym (value_held (fields_of x) z.shares.kept (pos 0 ∷ pos 0 ∷ pos 0 ∷ pos 0 ∷ wrap_of z.shares u ∷ []) (named_value (proofs_of z.shares u) (locals_of z.memory u)) (hand_of z.shares u) n few))

  pub kept_there : HasKept x u z k
  kept_there = carried x known knows k keep w there same held_same arrives.lines arrives.facts

-- ---- the end of a thread

module _ (m : Meanings) (fits : ℤ → Bool) (x : MachineWithProgram) (known : Env) (t : ℕ) (of_text : IsThreadOf x t) (knows : KnowsConstants x known) (wide : SparesWidth m fits x t) (thread : ThreadTree) (keep : IsThreadKeep x known thread.ends)
    (j : JumpTree) (jump : jump_is_named (known_here x) j (Some thread.ends) ≡ true) (s : World) (whole : IsWholeState x s) where
  abbrev k : KeepTree
  k = thread.ends

  abbrev ended : Arrival → World
  ended a = record { memory = s.memory; shares = keeping t a.kept a.left a.own s.shares }

  hands_lt : t < length s.shares.hands
  hands_lt = let many = whole.tidy.hands in let there = of_text.there in omega (arith, many, there)

  proofs_lt : t < length s.shares.proofs
  proofs_lt = let many = whole.tidy.proofs in let there = of_text.there in omega (arith, many, there)

  module _ (vals : List ℤ) (many : length vals ≡ length k.names) (a : Arrival) (arrives : Arrives x t s k vals (pos 0) a) where
    hand_is : hand_of (ended a).shares t ≡ a.kept
    hand_is = get_or-set_same s.shares.hands t a.kept [] hands_lt

    proofs_are : proofs_of (ended a).shares t ≡ given_to k.names vals
    proofs_are = get_or-set_same s.shares.proofs t a.own (λ n. None) proofs_lt ∙ arrives.own

    own_apart : are_apart (own_tokens k) ≡ true
    own_apart = and_second (are_names (own_tokens k)) (are_apart (own_tokens k)) (and_first (are_apart_names (own_tokens k)) _ (and_second (are_apart_names k.names) _ keep.named))

    whole_then : IsWholeState x (ended a)
    whole_then = moved_whole x s whole (slice_set s.shares.hands t a.kept) (slice_set s.shares.proofs t a.own) s.shares.wraps (s.shares.dust ++ tokens_in a.left) (kept_bag x t s hands_lt k vals (pos 0) a arrives)
        (kept_apart x t s whole.tidy.apart k own_apart vals (pos 0) a arrives) (length-set s.shares.hands t a.kept ∙ whole.tidy.hands) (length-set s.shares.proofs t a.own ∙ whole.tidy.proofs) whole.tidy.wraps

    stayed : Stayed x t s (ended a)
    stayed = record {
      hands = λ u other. get_or-set_other s.shares.hands t u a.kept [] other;
      proofs = λ u other. get_or-set_other s.shares.proofs t u a.own (λ n. None) other;
      wraps = λ u other. refl;
      locals = λ u other. refl;
      kept = λ f below constant. refl;
    }

    has_ended : HasEnded x t (ended a) k
    has_ended = record {
      kept = kept_there x known of_text.few knows k keep t s vals many a arrives t (ended a) refl proofs_are (λ n own. ap (held_as n) hand_is);
      hand = λ n out. ap (held_as n) hand_is ∙ arrives.parts.kept n ∙ ap (λ b. if b then held_as n (hand_of s.shares t) else None) out;
      proofs = λ y out. ap (λ f. f y) proofs_are ∙ given_none k.names vals y out;
      given = λ y inside. (let it = given_some k.names vals many y inside in (it.0, ap (λ f. f y) proofs_are ∙ it.1));
    }

  pub end_goes : (line : ℕ) (e same : Env) → jump_row line j (Some (record { keep = k; wrap = no_wrap })) e ≡ Ok same → Standing x known t e [] s
      → PassesUnless m.Spares (arrived fits x s t k j.args (pos 0) >>= (λ (a : Arrival). Ok (ended a))) (λ z. IsWholeState x z × Stayed x t s z × HasEnded x t z k)
  end_goes line e same row is = passes_then m.Spares (arrived fits x s t k j.args (pos 0)) (λ (a : Arrival). Ok (ended a)) (Arrives x t s k vals (pos 0)) (λ z. IsWholeState x z × Stayed x t s z × HasEnded x t z k)
      (arrived_passes laws fits m.Spares x (λ y. is_in y (assigned_locals (body_at x t) [])) is.values (only_constants known) e t s (wide s) (record { few = of_text.few; stands = is.stands; unsaid = is.unsaid }) (constants_scoped x known knows)
      k (keep_named_more x k keep.named) keep.at_hand j.args (and_first (list_all (is_number (known_here x)) j.args) (as_many j.args k.names) jump) no_wrap (pos 0) refl line [] j.scripts (Ok e) same row)
      (λ a arrives. (whole_then vals many a arrives, stayed vals many a arrives, has_ended vals many a arrives)) where
        vals : List ℤ
        vals = map (num is.values) (map (read e) j.args)

        many : length vals ≡ length k.names
        many = length_map (num is.values) (map (read e) j.args) ∙ length_map (read e) j.args ∙ (let same : nat_eq (length j.args) (length k.names) ≡ true = and_second (list_all (is_number (known_here x)) j.args) (as_many j.args k.names) jump in grind (arith, nat_tests))

pub ends_go_on : (m : Meanings) → EndsGoOn m
ends_go_on m fits x known t of_text knows wide thread there keep j jump line e same row s whole is =
    subst (λ (o : Option ThreadTree). PassesUnless m.Spares (found o >>= (λ (u : ThreadTree). arrived fits x s t u.ends j.args (pos 0) >>= (λ (a : Arrival). Ok (record s { shares = keeping t a.kept a.left a.own s.shares }))))
    (λ z. IsWholeState x z × Stayed x t s z × HasEnded x t z thread.ends)) (sym there)
    (end_goes m fits x known t of_text knows wide thread keep j jump s whole line e same row is)
