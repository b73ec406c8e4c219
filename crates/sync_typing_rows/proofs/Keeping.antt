-- After a keep the thread's own symbols have new values, and all that lasts stays: the forms round the keep.
use Rattle.std.proofs.Common.{arith, inl, inr}
use Rattle.std.proofs.lemmas.Bool.Decides.{nat_tests}
use Rattle.std.specs.Prelude.{◌≡◌, ℕ, ◌<◌, ◌≤◌, ℤ, pos, ◌+ℤ◌, ◌-ℤ◌, ◌*ℤ◌, Bool, true, false, not, ◌&&◌, ◌||◌, if◌then◌else◌, nat_eq, nat_lt, List, [], ◌∷◌, length, Option, Some, None, unwrap_or, option_map, ◌⊎◌}
use Rattle.sync_base.specs.Outcome.{first}
use Rattle.sync_base.specs.declared.strategies.Strategy.TheVariants.{Constant}
use Rattle.sync_join.specs.Join.{record_at, number_of}
use Rattle.sync_machine.specs.Naming.{is_in}
use Rattle.sync_machine.specs.States.{strategy_at}
use Rattle.sync_rules.specs.Locality.{names_only}
use Rattle.sync_terms.specs.Symbols.{name_symbol}
use Rattle.sync_terms.specs.Trees.{Tree, Lit, Name, Add, Sub, Scale, Get, Has, Size, Sum, Nil, Put, Del, Bump}
use Rattle.sync_terms.specs.Values.{Valuation, num, mapped, with_terms}
use Rattle.sync_thread.specs.Code.{locals_of}
use Rattle.sync_thread.specs.Resting.{Round}
use Rattle.sync_thread.specs.Symbols.{wrap_symbol}
use Rattle.sync_thread_machine.specs.MachineWithProgram.{MachineWithProgram, fields_of}
use Rattle.sync_thread_machine.specs.ProgramSymbols.{symbols, held_of, first_fresh}
use Rattle.sync_thread_meaning.specs.Meaning.{World, annotated_language, keep_sight}
use Rattle.sync_thread_meaning.specs.Shares.{hand_of, proofs_of, named_value, overlaid}
use Rattle.sync_typing.specs.Environments.{Env, held_value, token_named, stands}
use Rattle.sync_typing.specs.Keeps.{renewed, with_own, bare}
use Rattle.sync_typing.specs.Names.{known_here}
use Rattle.sync_typing_laws.proofs.KeepingSights.{or_one, stands_said, held_unsaid, Symbol, OfField, OfWrap, OfName, OfHeld, symbol_of, value_field, value_wrap, token_of_symbol, no_symbol}
use Rattle.sync_typing_laws.proofs.KeepingTerms.{and_first, and_second, Same}
use Rattle.sync_typing_laws.specs.Rests.{Lasts, HasConstants, HasConstantsOf, KnowsConstants, is_lasting, IsScopedEnv}
use Rattle.sync_typing_laws.specs.Standing.{Chain}
use mathlib.Core.Path.{refl, sym, ap, subst, ◌∙◌}
use Rattle.sync_terms.specs.Maps as maps

-- ---- terms at two valuations

mutual
  unfolding names_only

  pub agree : (p : ℕ → Bool) (v w : Valuation) → ((y : ℕ) → p y ≡ true → v.number y ≡ w.number y) → ((y : ℕ) → v.mapping y ≡ w.mapping y) → (t : Tree) → names_only p t ≡ true → num v t ≡ num w t
  agree p v w ns ms (Lit n) is = refl
  agree p v w ns ms (Name y) is = ns y is
  agree p v w ns ms (Add a b) is = ap (λ z. z +ℤ num v b) (agree p v w ns ms a (and_first (names_only p a) (names_only p b) is)) ∙ ap (λ z. num w a +ℤ z) (agree p v w ns ms b (and_second (names_only p a) (names_only p b) is))
  agree p v w ns ms (Sub a b) is = ap (λ z. z -ℤ num v b) (agree p v w ns ms a (and_first (names_only p a) (names_only p b) is)) ∙ ap (λ z. num w a -ℤ z) (agree p v w ns ms b (and_second (names_only p a) (names_only p b) is))
  agree p v w ns ms (Scale n a) is = ap (λ z. n *ℤ z) (agree p v w ns ms a is)
  agree p v w ns ms (Get a b) is = ap (λ z. maps.get z (num v b)) (agree_map p v w ns ms a (and_first (names_only p a) (names_only p b) is)) ∙ ap (λ z. maps.get (mapped w a) z) (agree p v w ns ms b (and_second (names_only p a) (names_only p b) is))
  agree p v w ns ms (Has a b) is = ap (λ z. maps.has z (num v b)) (agree_map p v w ns ms a (and_first (names_only p a) (names_only p b) is)) ∙ ap (λ z. maps.has (mapped w a) z) (agree p v w ns ms b (and_second (names_only p a) (names_only p b) is))
  agree p v w ns ms (Size a) is = ap (λ z. maps.size z) (agree_map p v w ns ms a is)
  agree p v w ns ms (Sum a) is = ap (λ z. maps.sum z) (agree_map p v w ns ms a is)
  agree p v w ns ms Nil is = refl
  agree p v w ns ms (Put a b c) is = refl
  agree p v w ns ms (Del a b) is = refl
  agree p v w ns ms (Bump a b c) is = refl

  pub agree_map : (p : ℕ → Bool) (v w : Valuation) → ((y : ℕ) → p y ≡ true → v.number y ≡ w.number y) → ((y : ℕ) → v.mapping y ≡ w.mapping y) → (t : Tree) → names_only p t ≡ true → mapped v t ≡ mapped w t
  agree_map p v w ns ms (Name y) is = ms y
  agree_map p v w ns ms (Put a b c) is = let front = and_first (names_only p a && names_only p b) (names_only p c) is in
      ap (λ z. maps.put z (num v b) (num v c)) (agree_map p v w ns ms a (and_first (names_only p a) (names_only p b) front))
      ∙ ap (λ z. maps.put (mapped w a) z (num v c)) (agree p v w ns ms b (and_second (names_only p a) (names_only p b) front))
      ∙ ap (λ z. maps.put (mapped w a) (num w b) z) (agree p v w ns ms c (and_second (names_only p a && names_only p b) (names_only p c) is))
  agree_map p v w ns ms (Del a b) is = ap (λ z. maps.del z (num v b)) (agree_map p v w ns ms a (and_first (names_only p a) (names_only p b) is)) ∙ ap (λ z. maps.del (mapped w a) z) (agree p v w ns ms b (and_second (names_only p a) (names_only p b) is))
  agree_map p v w ns ms (Bump a b c) is = let front = and_first (names_only p a && names_only p b) (names_only p c) is in
      ap (λ z. maps.bump z (num v b) (num v c)) (agree_map p v w ns ms a (and_first (names_only p a) (names_only p b) front))
      ∙ ap (λ z. maps.bump (mapped w a) z (num v c)) (agree p v w ns ms b (and_second (names_only p a) (names_only p b) front))
      ∙ ap (λ z. maps.bump (mapped w a) (num w b) z) (agree p v w ns ms c (and_second (names_only p a && names_only p b) (names_only p c) is))
  agree_map p v w ns ms Nil is = refl
  agree_map p v w ns ms (Lit n) is = refl
  agree_map p v w ns ms (Add a b) is = refl
  agree_map p v w ns ms (Sub a b) is = refl
  agree_map p v w ns ms (Scale n a) is = refl
  agree_map p v w ns ms (Get a b) is = refl
  agree_map p v w ns ms (Has a b) is = refl
  agree_map p v w ns ms (Size a) is = refl
  agree_map p v w ns ms (Sum a) is = refl

-- ---- new values

-- the symbols of names have new values, all others what they had
abbrev pub renew : Valuation → (ℕ → ℤ) → Valuation
renew v g = record { number = λ y. if nat_lt y 64 || not (nat_lt y first_fresh) then v.number y else g y; mapping = v.mapping }

pub renew_own : (v : Valuation) (g : ℕ → ℤ) (y : ℕ) → 64 ≤ y → y < first_fresh → (renew v g).number y ≡ g y
renew_own v g y low high = let one : nat_lt y 64 ≡ false = grind (arith, nat_tests) in let two : nat_lt y first_fresh ≡ true = grind (arith, nat_tests) in
    ap (λ b. if b || not (nat_lt y first_fresh) then v.number y else g y) one ∙ ap (λ b. if not b then v.number y else g y) two

lasting_is : (next y : ℕ) → is_lasting next y ≡ true → (nat_lt y 64 || not (nat_lt y first_fresh)) ≡ true
lasting_is next y is = elim (or_one (nat_eq y wrap_symbol) (not (nat_lt y first_fresh) && nat_lt y next) is) [
  | inl wrap ↦ (let small : nat_lt y 64 ≡ true = grind (arith, nat_tests) in subst (λ b. (b || not (nat_lt y first_fresh)) ≡ true) (sym small) refl)
  | inr late ↦ tested (nat_lt y 64) (and_first (not (nat_lt y first_fresh)) (nat_lt y next) late)
] where
  tested : (b : Bool) → not (nat_lt y first_fresh) ≡ true → (b || not (nat_lt y first_fresh)) ≡ true
  tested true is = refl
  tested false is = is

pub renew_lasting : (v : Valuation) (g : ℕ → ℤ) (next : ℕ) (t : Tree) → names_only (is_lasting next) t ≡ true → num (renew v g) t ≡ num v t
renew_lasting v g next t is = agree (is_lasting next) (renew v g) v (λ y lasts. ap (λ b. if b then v.number y else g y) (lasting_is next y lasts)) (λ y. refl) t is

pub renew_closed : (v : Valuation) (g : ℕ → ℤ) (t : Tree) → names_only (λ y. false) t ≡ true → num (renew v g) t ≡ num v t
renew_closed v g t is = agree (λ y. false) (renew v g) v (λ y no. (let never : false ≡ true = no in cc)) (λ y. refl) t is

-- ---- what lasts

-- the constants of an environment that has those that are known stand for the same
pub constants_last : (x : MachineWithProgram) (known e : Env) → KnowsConstants x known → length (fields_of x) ≤ 32 → HasConstantsOf known e → (v : Valuation) (g : ℕ → ℤ) (s z : World)
    → ((f : ℕ) → f < length (fields_of x) → strategy_at (fields_of x) f ≡ Constant → record_at z.shares.kept f ≡ record_at s.shares.kept f) → HasConstants x v e s → HasConstants x (renew v g) e z
constants_last x known e knows few same v g s z kept has f below constant = let it = has f below constant in
    let low : f < 32 = omega arith in
    (it.0, it.1, renew_closed v g it.0 (knows.closed f it.0 low (sym (same f low) ∙ it.1)) ∙ it.2 ∙ ap number_of (sym (kept f below constant)))

-- the forms round a keep stand with the new values
pub chain_lasts : (x : MachineWithProgram) (known : Env) → KnowsConstants x known → length (fields_of x) ≤ 32 → (v : Valuation) (g : ℕ → ℤ) (s z : World)
    → ((f : ℕ) → f < length (fields_of x) → strategy_at (fields_of x) f ≡ Constant → record_at z.shares.kept f ≡ record_at s.shares.kept f)
    → (next : ℕ) (round : List (Round annotated_language Env)) → Chain x known v next s round → Chain x known (renew v g) next z round
chain_lasts x known knows few v g s z kept next [] is = tt
chain_lasts x known knows few v g s z kept next (form ∷ round) (lasts, chain) = (
  record {
    scoped = lasts.scoped;
    constants = constants_last x known form.env knows few lasts.same v g s z kept lasts.constants;
    same = lasts.same;
    wrap = renew_lasting v g form.env.fresh (stands form.env wrap_symbol) lasts.lasting ∙ lasts.wrap;
    lasting = lasts.lasting;
    before = lasts.before;
  },
  chain_lasts x known knows few v g s z kept form.env.fresh round chain,
)

-- ---- names after a keep

pub no_low : (ns : List ℕ) (y : ℕ) → y < 64 → is_in y (symbols ns) ≡ false
no_low [] y low = refl
no_low (n ∷ ns) y low = let far : nat_eq y (name_symbol n) ≡ false = grind (arith, nat_tests) in subst (λ b. (b || is_in y (symbols ns)) ≡ false) (sym far) (no_low ns y low)

pub low_terms : (ns : List ℕ) (before : ℕ → Option Tree) (y : ℕ) → y < 64 → with_own ns (renewed before) y ≡ before y
low_terms ns before y low = let small : nat_lt y 64 ≡ true = grind (arith, nat_tests) in
    ap (λ b. if b then Some (Name y) else (if nat_lt y 64 then before y else option_map (λ t. Name y) (before y))) (no_low ns y low) ∙ ap (λ b. if b then before y else option_map (λ t. Name y) (before y)) small

-- a name stands for its own symbol, if something is said of it
pub own_terms : (ns : List ℕ) (before : ℕ → Option Tree) (y : ℕ) → 64 ≤ y → (with_own ns (renewed before) y ≡ None) ⊎ (with_own ns (renewed before) y ≡ Some (Name y))
own_terms ns before y high = by (is_in y (symbols ns)) (before y) where
  small : nat_lt y 64 ≡ false
  small = grind (arith, nat_tests)

  by : (b : Bool) (o : Option Tree) → ((if b then Some (Name y) else (if nat_lt y 64 then o else option_map (λ t. Name y) o)) ≡ None) ⊎ ((if b then Some (Name y) else (if nat_lt y 64 then o else option_map (λ t. Name y) o)) ≡ Some (Name y))
  by true o = inr refl
  by false None = inl (ap (λ b. if b then None else None) small)
  by false (Some u) = inr (ap (λ b. if b then Some u else Some (Name y)) small)

bare_name : (ns locals : List ℕ) (before : ℕ → Option Tree) (fresh n : ℕ) → stands (bare (with_own ns (renewed before)) locals fresh) (name_symbol n) ≡ Name (name_symbol n)
bare_name ns locals before fresh n = elim (own_terms ns before (name_symbol n) (omega arith)) [
  | inl none ↦ ap (λ o. unwrap_or (first o (held_value (bare (with_own ns (renewed before)) locals fresh).hand (token_named (name_symbol n)))) (Name (name_symbol n))) none
      ∙ ap (λ o. unwrap_or (held_value (bare (with_own ns (renewed before)) locals fresh).hand o) (Name (name_symbol n))) (token_of_symbol n)
  | inr some ↦ stands_said (bare (with_own ns (renewed before)) locals fresh) (name_symbol n) (Name (name_symbol n)) some
]

nothing_held : (o : Option ℕ) → held_value (λ n. None) o ≡ None
nothing_held None = refl
nothing_held (Some n) = refl

pub held_terms : (ns : List ℕ) (before : Env) → IsScopedEnv before → (n : ℕ) → with_own ns (renewed before.terms) (held_of n) ≡ None
held_terms ns before scoped n = ap (λ b. if b then Some (Name (held_of n)) else (if nat_lt (held_of n) 64 then before.terms (held_of n) else option_map (λ t. Name (held_of n)) (before.terms (held_of n)))) (no_symbol n ns)
    ∙ ap (λ b. if b then before.terms (held_of n) else option_map (λ t. Name (held_of n)) (before.terms (held_of n))) large ∙ ap (λ o. option_map (λ (t : Tree). Name (held_of n)) o) (held_unsaid before scoped n) where
      large : nat_lt (held_of n) 64 ≡ false
      large = grind (arith, nat_tests)

bare_held : (ns locals : List ℕ) (before : Env) → IsScopedEnv before → (fresh n : ℕ) → stands (bare (with_own ns (renewed before.terms)) locals fresh) (held_of n) ≡ Name (held_of n)
bare_held ns locals before scoped fresh n = ap (λ o. unwrap_or (first o (held_value (λ m. None) (token_named (held_of n)))) (Name (held_of n))) (held_terms ns before scoped n) ∙ ap (λ o. unwrap_or o (Name (held_of n))) (nothing_held (token_named (held_of n)))

-- With the new values the names of a keep are after it what they are in it.
pub bare_same : (x : MachineWithProgram) (known before : Env) → KnowsConstants x known → length (fields_of x) ≤ 32 → (v : Valuation) (saved : ℤ) (next t : ℕ) (s : World) → Lasts x known v saved before next s
    → (ns locals : List ℕ) (own : ℕ → Option ℤ) → Same (known_here x) (λ y. true) (with_terms (stands (bare (with_own ns (renewed before.terms)) locals before.fresh)) (renew v (keep_sight (fields_of x) s t own saved).valuation.number)) (keep_sight (fields_of x) s t own saved).valuation
bare_same x known before knows few v saved next t s lasts ns locals own y is_known any = by (symbol_of x y is_known) where
  e : Env
  e = bare (with_own ns (renewed before.terms)) locals before.fresh

  g : ℕ → ℤ
  g = (keep_sight (fields_of x) s t own saved).valuation.number

  words : List ℤ
  words = pos 0 ∷ pos 0 ∷ pos 0 ∷ pos 0 ∷ saved ∷ []

  names : ℕ → ℤ
  names = named_value (overlaid own (proofs_of s.shares t)) (locals_of s.memory t)

  low_wrap : stands e wrap_symbol ≡ stands before wrap_symbol
  low_wrap = ap (λ o. unwrap_or (first o None) (Name wrap_symbol)) (low_terms ns before.terms wrap_symbol (omega arith))

  by : Symbol x y → num (renew v g) (stands e y) ≡ g y
  by (OfField below constant) = let it = lasts.constants y below constant in let low : y < 64 = omega arith in let lower : y < 32 = omega arith in
      ap (num (renew v g)) (stands_said e y it.0 (low_terms ns before.terms y low ∙ it.1))
      ∙ renew_closed v g it.0 (knows.closed y it.0 lower (sym (lasts.same y lower) ∙ it.1)) ∙ it.2 ∙ sym (value_field (fields_of x) s.shares.kept words names (hand_of s.shares t) y below)
  by (OfWrap at) = subst (λ z. num (renew v g) (stands e z) ≡ g z) (sym at) (ap (num (renew v g)) low_wrap ∙ renew_lasting v g before.fresh (stands before wrap_symbol) lasts.lasting ∙ lasts.wrap
      ∙ sym (value_wrap (fields_of x) s.shares.kept (pos 0) (pos 0) saved names (hand_of s.shares t) few))
  by (OfName n at below) = subst (λ z. num (renew v g) (stands e z) ≡ g z) (sym at) (ap (num (renew v g)) (bare_name ns locals before.terms before.fresh n) ∙ renew_own v g (name_symbol n) (omega arith) (omega arith))
  by (OfHeld n at below) = subst (λ z. num (renew v g) (stands e z) ≡ g z) (sym at) (ap (num (renew v g)) (bare_held ns locals before lasts.scoped before.fresh n) ∙ renew_own v g (held_of n) (omega arith) (omega arith))
