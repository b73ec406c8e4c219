-- The rows of `x = ..`, `let`, `assert` and `print`.
use Rattle.std.proofs.Common.{arith, inl, inr}
use Rattle.std.specs.Prelude.{◌≡◌, ℕ, suc, ℤ, pos, ◌<◌, ◌≤◌, ◌+◌, ◌-◌, ◌^◌, Bool, true, false, if◌then◌else◌, nat_lt, nat_eq, int_le, List, [], ◌∷◌, length, slice_set, slice_index_or, Option, Some, None, Ok, ◌⊎◌}
use Rattle.std.specs.List.{AllByRecursion}
use Rattle.std.proofs.lemmas.Bool.{and_parts, and_from, ltb-true, lt-ltb, ne_eqb}
use Rattle.std.proofs.lemmas.Bool.Decides.{eqb_tells}
use Rattle.std.proofs.lemmas.List.{get_or-set_same, get_or-set_other, length-set}
use Rattle.sync_base.specs.Outcome.{◌>>=◌}
use Rattle.sync_terms.specs.Symbols.{name_symbol}
use Rattle.sync_terms.specs.Trees.{Tree, Name, Formula, tree_size, formula_size}
use Rattle.sync_terms.specs.Values.{Valuation, num, truth, Holds, with_value}
use Rattle.sync_machine.specs.Naming.{is_in}
use Rattle.sync_rules.specs.Locality.{names_only, form_names_only}
use Rattle.sync_kernel_facts.specs.Facts.{Fact, named}
use Rattle.sync_thread.specs.Code.{locals_of, operand_value, setting, assigned as assigned_to}
use Rattle.sync_thread.specs.Programs.{Set}
use Rattle.sync_thread.specs.Resting.{Round}
use Rattle.sync_thread.specs.declared.operands.Calc.{Calc}
use Rattle.sync_thread.specs.declared.operands.Calc.TheVariants.{Plain, Plus, Minus, Times, Over, Modulo}
use Rattle.sync_thread.specs.declared.operands.Opd.{Opd}
use Rattle.sync_thread_machine.specs.MachineWithProgram.{MachineWithProgram, fields_of}
use Rattle.sync_thread_machine.specs.ProgramSymbols.{wrap_symbol, first_fresh}
use Rattle.sync_thread_meaning.specs.Meaning.{World, annotated_language, calc_wrap, wrapping, with_shares, local_step}
use Rattle.sync_thread_meaning.specs.Shares.{proofs_of, with_wrap}
use Rattle.sync_typing.specs.Environments.{Env, know, name_as, use_up, bounds, bind, assign, tell, top}
use Rattle.sync_typing.specs.Lists.{assigned_locals}
use Rattle.sync_typing.specs.Locals.{operand, calc_fact, greatest_wrap, compute, set_row}
use Rattle.sync_typing.specs.Names.{operand_is_named, calc_is_named, is_divisor, is_small}
use Rattle.sync_typing_laws.proofs.LocalDues.{fits_ok, then_ok}
use Rattle.sync_typing_laws.proofs.LocalMoves.{At, at_standing, standing_at, is_used, used_more, names_more, num_below, knows, fresher, NamedAnew, names_it, WrappedAnew, wraps_it}
use Rattle.sync_typing_laws.proofs.LocalRows.{AreFew, operand_is, operand_used, operand_fits}
use Rattle.sync_typing_laws.proofs.LocalSets.{IsCalculated, plus_is, minus_is, times_is, over_is, modulo_is, le_pos}
use Rattle.sync_typing_laws.specs.Rests.{IsKnown, AgreeBelow, is_lasting}
use Rattle.sync_typing_laws.specs.Ruling.{body_at}
use Rattle.sync_terms.specs.Maps as maps
use mathlib.Core.Path.{refl, sym, ap, subst, ◌∙◌}
use Rattle.sync_typing_laws.specs.Standing.{IsWholeState, Standing, Stayed}

pub same_number : (a b : ℕ) → nat_eq a b ≡ true → a ≡ b
same_number a b is = elim (eqb_tells a b) [ inl k ↦ k.1 | inr k ↦ absurd (let never : true ≡ false = sym is ∙ k.0 in cc) ]

-- ---- places of lists

set_here : {A : Type 0} (xs : List A) (t : ℕ) (y d : A) → t < length xs → slice_index_or (slice_set xs t y) t d ≡ y
set_here xs t y d lt = get_or-set_same xs t y d lt

set_there : {A : Type 0} (xs : List A) (t u : ℕ) (y d : A) → (u ≡ t → ⊥) → slice_index_or (slice_set xs t y) u d ≡ slice_index_or xs u d
set_there xs t u y d apart = get_or-set_other xs t u y d apart

-- ---- a local is another

abbrev pub with_local : ℕ → ℕ → ℕ → World → World
with_local t y n s = record { memory = setting t y n s.memory; shares = s.shares }

abbrev pub with_wrapped : ℕ → ℤ → World → World
with_wrapped t m s = record { memory = s.memory; shares = with_wrap t m s.shares }

pub local_whole : (x : MachineWithProgram) (t y n : ℕ) (s : World) → t < length s.memory.locals → n < 2 ^ 64 → IsWholeState x s → IsWholeState x (with_local t y n s)
local_whole x t y n s lt fits is = record {
  tidy = record {
    sound = is.tidy.sound;
    apart = is.tidy.apart;
    hands = is.tidy.hands;
    proofs = is.tidy.proofs;
    wraps = is.tidy.wraps;
    locals = length-set s.memory.locals t (assigned_to y n (locals_of s.memory t)) ∙ is.tidy.locals;
    values = is.tidy.values;
    cells = is.tidy.cells;
    words_fit = is.tidy.words_fit;
    cells_fit = is.tidy.cells_fit;
    locals_fit = λ u i. by u i (eqb_tells u t);
  };
  good = record { state = is.good.state; joined = is.good.joined; reached = is.good.reached; meets = is.good.meets; words = is.good.words; cells = is.good.cells };
} where
  small : (b : Bool) (i : ℕ) → (if b then n else locals_of s.memory t i) < 2 ^ 64
  small true i = fits
  small false i = is.tidy.locals_fit t i

  by : (u i : ℕ) → ((nat_eq u t ≡ true) × (u ≡ t)) ⊎ ((nat_eq u t ≡ false) × (u ≡ t → ⊥)) → locals_of (setting t y n s.memory) u i < 2 ^ 64
  by u i (inl same) = subst (λ d. locals_of (setting t y n s.memory) d i < 2 ^ 64) (sym same.1)
      (subst (λ f. f i < 2 ^ 64) (sym (set_here s.memory.locals t (assigned_to y n (locals_of s.memory t)) (λ z. 0) lt)) (small (nat_eq i y) i))
  by u i (inr other) = subst (λ f. f i < 2 ^ 64) (sym (set_there s.memory.locals t u (assigned_to y n (locals_of s.memory t)) (λ z. 0) other.1)) (is.tidy.locals_fit u i)

pub local_stayed : (x : MachineWithProgram) (t y n : ℕ) (s : World) → Stayed x t s (with_local t y n s)
local_stayed x t y n s = record {
  hands = λ u k. refl;
  proofs = λ u k. refl;
  wraps = λ u k. refl;
  kept = λ f lt c. refl;
  locals = λ u k. set_there s.memory.locals t u (assigned_to y n (locals_of s.memory t)) (λ z. 0) k;
}

pub wrap_whole : (x : MachineWithProgram) (t : ℕ) (m : ℤ) (s : World) → IsWholeState x s → IsWholeState x (with_wrapped t m s)
wrap_whole x t m s is = record {
  tidy = record {
    sound = is.tidy.sound;
    apart = is.tidy.apart;
    hands = is.tidy.hands;
    proofs = is.tidy.proofs;
    wraps = length-set s.shares.wraps t m ∙ is.tidy.wraps;
    locals = is.tidy.locals;
    values = is.tidy.values;
    cells = is.tidy.cells;
    words_fit = is.tidy.words_fit;
    cells_fit = is.tidy.cells_fit;
    locals_fit = is.tidy.locals_fit;
  };
  good = record { state = is.good.state; joined = is.good.joined; reached = is.good.reached; meets = is.good.meets; words = is.good.words; cells = is.good.cells };
}

pub wrap_stayed : (x : MachineWithProgram) (t : ℕ) (m : ℤ) (s : World) → Stayed x t s (with_wrapped t m s)
wrap_stayed x t m s = record {
  hands = λ u k. refl;
  proofs = λ u k. refl;
  locals = λ u k. refl;
  kept = λ f lt c. refl;
  wraps = λ u k. set_there s.shares.wraps t u m (pos 0) k;
}

wrap_anew : (x : MachineWithProgram) (t : ℕ) (m : ℤ) (s : World) → t < length s.shares.wraps → WrappedAnew x t m s (with_wrapped t m s)
wrap_anew x t m s lt = record { kept = λ f lt2 c. refl; hand = refl; wrap = set_here s.shares.wraps t m (pos 0) lt; proofs = refl; locals = refl }

-- a local that is assigned is no proof name, so its value is the new one
local_anew : (x : MachineWithProgram) (t y n : ℕ) (s : World) → t < length s.memory.locals → is_in y (assigned_locals (body_at x t) []) ≡ true → ((i : ℕ) → is_in i (assigned_locals (body_at x t) []) ≡ true → proofs_of s.shares t i ≡ None)
    → NamedAnew x t y (pos n) s (with_local t y n s)
local_anew x t y n s lt here none = record {
  kept = λ f lt2 c. refl;
  hand = refl;
  wrap = refl;
  here = (let p = none y here in let l = locals_are y in let k = same_is y in cc);
  others = λ i apart. (let l = locals_are i in let k = ne_eqb i y apart in cc);
  no_proofs = none;
} where
  same_is : (i : ℕ) → nat_eq i i ≡ true
  same_is i = elim (eqb_tells i i) [ inl k ↦ k.0 | inr k ↦ absurd (k.1 refl) ]

  locals_are : (i : ℕ) → locals_of (setting t y n s.memory) t i ≡ (if nat_eq i y then n else locals_of s.memory t i)
  locals_are i = ap (λ (f : ℕ → ℕ). f i) (set_here s.memory.locals t (assigned_to y n (locals_of s.memory t)) (λ z. 0) lt)

-- ---- bounds

pub bounds_known : (v : Valuation) (z : ℕ) (t : Tree) (n : ℕ) (high : ℤ) → num v t ≡ pos n → int_le (pos n) high ≡ true → AllByRecursion (IsKnown v) (bounds z t high)
unfolding truth
bounds_known v z t n high is le = ((refl, subst (λ d. int_le (pos 0) d ≡ true) (sym is) (le_pos 0 n (omega arith))), ((refl, subst (λ d. int_le d high ≡ true) (sym is) le), tt))

pub bounds_used : (p : ℕ → Bool) (z : ℕ) (t : Tree) (high : ℤ) → names_only p t ≡ true → AllByRecursion (λ (f : Fact). form_names_only p f.form ≡ true) (bounds z t high)
unfolding names_only form_names_only
bounds_used p z t high is = (is, (and_from (names_only p t) true is refl, tt))

abbrev pub bound_env : ℕ → Tree → ℤ → Env → Env
bound_env z t high e = know (bounds z t high) (name_as z t e)

pub bind_is : (line z : ℕ) (t : Tree) (high : ℤ) (e now : Env) → bind line z t high e ≡ Ok now → bound_env z t high e ≡ now
bind_is line z t high e now is = let k = fits_ok line (tree_size t + 2) (Ok (bound_env z t high e)) now is in cc

-- `x = t`, where the term is the new value
pub assigns : (x : MachineWithProgram) (known : Env) (t : ℕ) (v : Valuation) (e : Env) (y n : ℕ) (u : Tree) (round : List (Round annotated_language Env)) (s : World) → length (fields_of x) ≤ 32 → AreFew x t → t < length s.memory.locals
    → is_in y (assigned_locals (body_at x t) []) ≡ true → names_only (is_used e.fresh) u ≡ true → num v u ≡ pos n → n < 2 ^ 64
    → At x known t v e round s → At x known t v (bound_env (name_symbol y) u top e) round (with_local t y n s)
assigns x known t v e y n u round s few names lt here used is fits at =
    knows x known t v (name_as (name_symbol y) u e) (bounds (name_symbol y) u top) round (with_local t y n s) (bounds_known v (name_symbol y) u n top is (le_pos n (2 ^ 64 - 1) (omega (arith, fits)))) (bounds_used (is_used e.fresh) (name_symbol y) u top used)
    (names_it x known t v e y u round s (with_local t y n s) few (names y here) used (subst (λ d. NamedAnew x t y d s (with_local t y n s)) (sym is) (local_anew x t y n s lt here at.stands.no_proofs)) at)

-- ---- two new symbols

two_more : ℕ → ℤ → ℤ → Valuation → Valuation
two_more next m n v = with_value (suc next) n maps.nil (with_value next m maps.nil v)

two_agree : (next : ℕ) (m n : ℤ) (v : Valuation) → AgreeBelow next v (two_more next m n v)
unfolding two_more
two_agree next m n v = record {
  numbers = λ y lt. (let a = ne_eqb y next (λ k. omega (arith, lt, k)) in let b = ne_eqb y (suc next) (λ k. omega (arith, lt, k)) in cc);
  maps = λ y lt. (let a = ne_eqb y next (λ k. omega (arith, lt, k)) in let b = ne_eqb y (suc next) (λ k. omega (arith, lt, k)) in cc);
}

is_itself : (i : ℕ) → nat_eq i i ≡ true
is_itself i = elim (eqb_tells i i) [ inl k ↦ k.0 | inr k ↦ absurd (k.1 refl) ]

first_is : (next : ℕ) (m n : ℤ) (v : Valuation) → num (two_more next m n v) (Name next) ≡ m
unfolding two_more
first_is next m n v = let a = is_itself next in let b = ne_eqb next (suc next) (λ k. omega (arith, k)) in cc

second_is : (next : ℕ) (m n : ℤ) (v : Valuation) → num (two_more next m n v) (Name (suc next)) ≡ n
unfolding two_more
second_is next m n v = let a = is_itself (suc next) in cc

name_used : (next y : ℕ) → y < next → names_only (is_used next) (Name y) ≡ true
unfolding names_only
name_used next y lt = lt-ltb y next lt

name_lasts : (next y : ℕ) → first_fresh ≤ y → y < next → names_only (is_lasting next) (Name y) ≡ true
unfolding names_only
name_lasts next y far lt = (let a = ltb-not y first_fresh far in let b = lt-ltb y next lt in let k = ne_eqb y 36 (λ k. omega (arith, far, k)) in cc) where
  ltb-not : (a b : ℕ) → b ≤ a → nat_lt a b ≡ false
  ltb-not a b le = tested (nat_lt a b) refl where
    tested : (c : Bool) → nat_lt a b ≡ c → nat_lt a b ≡ false
    tested true k = absurd (let lt2 = ltb-true a b k in omega (arith, le, lt2))
    tested false k = k

-- ---- `x = ..`

module _ (x : MachineWithProgram) (known : Env) (t : ℕ) (few : length (fields_of x) ≤ 32) (names : AreFew x t) (round : List (Round annotated_language Env)) (s : World) (whole : IsWholeState x s) (lt : t ≤ length x.program.threads) where
  abbrev pub ls : List ℕ
  ls = assigned_locals (body_at x t) []

  pub locals_lt : t < length s.memory.locals
  locals_lt = (let k = whole.tidy.locals in omega (arith, k, lt))

  pub wraps_lt : t < length s.shares.wraps
  wraps_lt = (let k = whole.tidy.wraps in omega (arith, k, lt))

  -- the statement does not fail, and what stands then
  abbrev pub Goes : (ℤ → Bool) → ℕ → Calc → Option ℕ → Env → Type 0
  Goes fits y c label now = (z : World) × (local_step fits x t (Set y c label) s ≡ Ok z) × IsWholeState x z × Stayed x t s z × Standing x known t now round z

  pub plain_row : (fits : ℤ → Bool) (line y : ℕ) (a : Opd) (label : Option ℕ) (e now : Env) → set_row line y (Plain a) label e ≡ Ok now → operand_is_named ls a ≡ true → is_in y ls ≡ true → Standing x known t e round s → Goes fits y (Plain a) label now
  plain_row fits line y a label e now row named here is =
      let v = is.values in
      let at = at_standing x known t e round s is in
      let n = operand_value s.memory t a in
      let small = operand_fits x t s whole.tidy ls a named in (
        with_local t y n s,
        refl,
        local_whole x t y n s locals_lt small whole,
        local_stayed x t y n s,
        standing_at x known t v now round (with_local t y n s) (subst (λ d. At x known t v d round (with_local t y n s)) (bind_is line (name_symbol y) (operand e a) top e now row)
            (assigns x known t v e y n (operand e a) round s few names locals_lt here (operand_used x known t v e round s names at a named) (operand_is x known t v e round s names at a named) small at)),
      )

  pub computed_row : (fits : ℤ → Bool) (line y : ℕ) (c : Calc) (label : Option ℕ) (e now : Env) → compute line y c label e ≡ Ok now → (k : IsCalculated x t s e c) → is_in y ls ≡ true → Standing x known t e round s → Goes fits y c label now
  computed_row fits line y c label e now row k here is = (z, goes, z_whole, z_stayed, standing_at x known t w now round z now_at) where
    v : Valuation
    v = is.values

    at : At x known t v e round s
    at = at_standing x known t e round s is

    w : Valuation
    w = two_more e.fresh (pos k.wrap) (pos k.value) v

    m : World
    m = with_wrapped t (pos k.wrap) s

    z : World
    z = with_local t y k.value m

    goes : local_step fits x t (Set y c label) s ≡ Ok z
    goes = subst (λ r. (r >>= (λ n. Ok (setting t y n s.memory)) >>= (λ d. with_shares d (Ok (wrapping t (calc_wrap (operand_value s.memory t) c) s.shares)))) ≡ Ok z) (sym k.result)
        (subst (λ o. with_shares (setting t y k.value s.memory) (Ok (wrapping t o s.shares)) ≡ Ok z) (sym k.leaves) refl)

    z_whole : IsWholeState x z
    z_whole = local_whole x t y k.value m locals_lt k.fits (wrap_whole x t (pos k.wrap) s whole)

    z_stayed : Stayed x t s z
    z_stayed = record {
      hands = λ u n. refl;
      proofs = λ u n. refl;
      kept = λ f l d. refl;
      wraps = λ u n. (wrap_stayed x t (pos k.wrap) s).wraps u n;
      locals = λ u n. (local_stayed x t y k.value m).locals u n;
    }

    wide : Env
    wide = use_up 2 e

    agree : AgreeBelow e.fresh v w
    agree = two_agree e.fresh (pos k.wrap) (pos k.value) v

    far : first_fresh ≤ e.fresh
    far = at.stands.scoped.beyond

    old_value : (o : Opd) → operand_is_named ls o ≡ true → num w (operand e o) ≡ pos (operand_value s.memory t o)
    old_value o named = sym (num_below e.fresh v w agree (operand e o) (operand_used x known t v e round s names at o named)) ∙ operand_is x known t v e round s names at o named

    old_used : (o : Opd) → operand_is_named ls o ≡ true → names_only (is_used (e.fresh + 2)) (operand e o) ≡ true
    old_used o named = names_more (is_used e.fresh) (is_used (e.fresh + 2)) (used_more e.fresh (e.fresh + 2) (omega arith)) (operand e o) (operand_used x known t v e round s names at o named)

    wrap_value : num w (Name e.fresh) ≡ pos k.wrap
    wrap_value = first_is e.fresh (pos k.wrap) (pos k.value) v

    new_value : num w (Name (suc e.fresh)) ≡ pos k.value
    new_value = second_is e.fresh (pos k.wrap) (pos k.value) v

    wrap_at : At x known t w (bound_env wrap_symbol (Name e.fresh) (greatest_wrap c) wide) round m
    wrap_at = knows x known t w (name_as wrap_symbol (Name e.fresh) wide) (bounds wrap_symbol (Name e.fresh) (greatest_wrap c)) round m (bounds_known w wrap_symbol (Name e.fresh) k.wrap (greatest_wrap c) wrap_value k.within)
        (bounds_used (is_used (e.fresh + 2)) wrap_symbol (Name e.fresh) (greatest_wrap c) (name_used (e.fresh + 2) e.fresh (omega arith)))
        (wraps_it x known t w wide (Name e.fresh) round s m few (name_lasts (e.fresh + 2) e.fresh far (omega arith)) (subst (λ d. WrappedAnew x t d s m) (sym wrap_value) (wrap_anew x t (pos k.wrap) s wraps_lt))
        (fresher x known t v w 2 e round s agree at))

    fact : Formula
    fact = calc_fact e c (Name (suc e.fresh)) (Name e.fresh)

    -- the two steps of the row before the assignment
    parts : (two : Env) × ((bind line wrap_symbol (Name e.fresh) (greatest_wrap c) e >>= tell line label fact) ≡ Ok two) × (assign line y (Name (suc e.fresh)) (use_up 2 two) ≡ Ok now)
    parts = then_ok (bind line wrap_symbol (Name e.fresh) (greatest_wrap c) e >>= tell line label fact) (λ two. assign line y (Name (suc e.fresh)) (use_up 2 two)) now row

    two : Env
    two = parts.0

    inner : (one : Env) × (bind line wrap_symbol (Name e.fresh) (greatest_wrap c) e ≡ Ok one) × (tell line label fact one ≡ Ok two)
    inner = then_ok (bind line wrap_symbol (Name e.fresh) (greatest_wrap c) e) (tell line label fact) two parts.1

    told : tell line label fact (bound_env wrap_symbol (Name e.fresh) (greatest_wrap c) e) ≡ Ok two
    told = subst (λ d. tell line label fact d ≡ Ok two) (sym (bind_is line wrap_symbol (Name e.fresh) (greatest_wrap c) e inner.0 inner.1)) inner.2

    two_at : At x known t w (use_up 2 two) round m
    two_at = by label told where
      base : Env
      base = bound_env wrap_symbol (Name e.fresh) (greatest_wrap c) e

      true_fact : Holds w fact
      true_fact = k.holds w (Name (suc e.fresh)) (Name e.fresh) old_value new_value wrap_value

      used_fact : form_names_only (is_used (e.fresh + 2)) fact ≡ true
      used_fact = k.used (is_used (e.fresh + 2)) (Name (suc e.fresh)) (Name e.fresh) old_used (name_used (e.fresh + 2) (suc e.fresh) (omega arith)) (name_used (e.fresh + 2) e.fresh (omega arith))

      by : (o : Option ℕ) → tell line o fact base ≡ Ok two → At x known t w (use_up 2 two) round m
      by None h = subst (λ d. At x known t w (use_up 2 d) round m) (let j : Ok base ≡ Ok two = h in cc) wrap_at
      by (Some name) h = subst (λ d. At x known t w (use_up 2 d) round m) (let j : Ok (know (named name fact ∷ []) base) ≡ Ok two = fits_ok line (formula_size fact) (Ok (know (named name fact ∷ []) base)) two h in cc)
          (knows x known t w (use_up 2 base) (named name fact ∷ []) round m ((refl, true_fact), tt) (used_fact, tt) wrap_at)

    two_fresh : two.fresh ≡ e.fresh
    two_fresh = by label told where
      base : Env
      base = bound_env wrap_symbol (Name e.fresh) (greatest_wrap c) e

      by : (o : Option ℕ) → tell line o fact base ≡ Ok two → two.fresh ≡ e.fresh
      by None h = (let j : Ok base ≡ Ok two = h in let i : base ≡ two = cc in ap (λ (d : Env). d.fresh) (sym i))
      by (Some name) h = (let j : Ok (know (named name fact ∷ []) base) ≡ Ok two = fits_ok line (formula_size fact) (Ok (know (named name fact ∷ []) base)) two h in let i : know (named name fact ∷ []) base ≡ two = cc in ap (λ (d : Env). d.fresh) (sym i))

    now_at : At x known t w now round z
    now_at = subst (λ d. At x known t w d round z) (bind_is line (name_symbol y) (Name (suc e.fresh)) top (use_up 2 two) now parts.2)
        (assigns x known t w (use_up 2 two) y k.value (Name (suc e.fresh)) round m few names locals_lt here (name_used (two.fresh + 2) (suc e.fresh) (let j = two_fresh in omega (arith, j))) new_value k.fits two_at)

  -- the row of `x = ..`
  pub set_row_goes : (fits : ℤ → Bool) (line y : ℕ) (c : Calc) (label : Option ℕ) (e now : Env) → set_row line y c label e ≡ Ok now → calc_is_named ls c ≡ true → is_in y ls ≡ true → Standing x known t e round s → Goes fits y c label now
  set_row_goes fits line y (Plain a) label e now row named here is = plain_row fits line y a label e now row named here is
  set_row_goes fits line y (Plus a b) label e now row named here is = let p = and_parts (operand_is_named ls a) (operand_is_named ls b) named in computed_row fits line y (Plus a b) label e now row (plus_is x t s e whole.tidy a b p.0 p.1) here is
  set_row_goes fits line y (Minus a b) label e now row named here is = let p = and_parts (operand_is_named ls a) (operand_is_named ls b) named in computed_row fits line y (Minus a b) label e now row (minus_is x t s e whole.tidy a b p.0 p.1) here is
  set_row_goes fits line y (Times a n) label e now row named here is = let p = and_parts (operand_is_named ls a) (is_divisor n) named in let q = and_parts (nat_lt 0 n) (is_small n) p.1 in
      computed_row fits line y (Times a n) label e now row (times_is x t s e whole.tidy a n p.0 (ltb-true 0 n q.0)) here is
  set_row_goes fits line y (Over a n) label e now row named here is = let p = and_parts (operand_is_named ls a) (is_divisor n) named in let q = and_parts (nat_lt 0 n) (is_small n) p.1 in
      computed_row fits line y (Over a n) label e now row (over_is x t s e whole.tidy a n p.0 (ltb-true 0 n q.0)) here is
  set_row_goes fits line y (Modulo a n) label e now row named here is = let p = and_parts (operand_is_named ls a) (is_divisor n) named in let q = and_parts (nat_lt 0 n) (is_small n) p.1 in
      computed_row fits line y (Modulo a n) label e now row (modulo_is x t s e whole.tidy a n p.0 (ltb-true 0 n q.0) (ltb-true n (2 ^ 64) q.1)) here is
