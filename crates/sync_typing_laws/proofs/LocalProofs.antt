-- The rows of `let`, `assert` and `print`.
use Rattle.std.proofs.Common.{arith, inl, inr}
use Rattle.std.specs.Prelude.{◌≡◌, ℕ, ℤ, ◌<◌, ◌≤◌, Bool, true, false, ◌&&◌, nat_eq, List, [], ◌∷◌, length, Option, Some, None, Ok, Err}
use Rattle.std.specs.List.{AllByRecursion}
use Rattle.std.proofs.lemmas.Bool.{and_parts, ne_eqb}
use Rattle.std.proofs.lemmas.Bool.Decides.{eqb_tells}
use Rattle.std.proofs.lemmas.List.{get_or-set_same, get_or-set_other, length-set}
use Rattle.sync_base.specs.Outcome.{◌>>=◌}
use Rattle.sync_base.specs.declared.stops.Rule.TheVariants.{T5}
use Rattle.sync_terms.specs.Symbols.{name_symbol}
use Rattle.sync_terms.specs.Trees.{Tree, Formula}
use Rattle.sync_terms.specs.Values.{Valuation, num, truth, Holds}
use Rattle.sync_kernel_facts.specs.Laws.{AreTrue}
use Rattle.sync_machine.specs.Naming.{is_in}
use Rattle.sync_rules.specs.Locality.{names_only, form_names_only}
use Rattle.sync_exchange_values.specs.Fitting.{number_fits}
use Rattle.sync_thread.specs.Arrays.{name_limit}
use Rattle.sync_thread.specs.Control.{Halt, Wide}
use Rattle.sync_thread.specs.Programs.{Proof, Let, Assert, Print, ScriptTree}
use Rattle.sync_thread.specs.Resting.{Round, PassesUnless}
use Rattle.sync_thread.specs.declared.operands.Opd.{Opd}
use Rattle.sync_thread_machine.specs.MachineWithProgram.{MachineWithProgram, fields_of}
use Rattle.sync_thread_machine.specs.ProgramSymbols.{wrap_symbol}
use Rattle.sync_thread_meaning.specs.Meaning.{World, annotated_language, local_step, shared_step, one_value, with_shares}
use Rattle.sync_thread_meaning.specs.Shares.{hand_of, proofs_of, with_proofs, overlaid, nowhere_near, sight_of, is_seen, only_if, bounded}
use Rattle.sync_typing.specs.Blocks.{let_row, assert_row}
use Rattle.sync_typing.specs.Dues.{Due, Makes, Owes, at_hand_due}
use Rattle.sync_typing.specs.Environments.{Env, Outcome, name_as, is_at_hand, read, read_form, tell}
use Rattle.sync_typing.specs.Lists.{assigned_locals}
use Rattle.sync_typing.specs.Names.{known_with, is_number, is_formula}
use Rattle.sync_typing.specs.Symbols.{scripts_name_only}
use Rattle.sync_typing_laws.proofs.LocalDues.{Met, row_met}
use Rattle.sync_typing_laws.proofs.LocalMoves.{At, chain_goes, at_standing, standing_at, NamedAnew, names_it}
use Rattle.sync_typing_laws.proofs.LocalRows.{stayed_self, tells}
use Rattle.sync_typing_laws.proofs.LocalSights.{term_value, form_value, read_used, read_form_used, term_seen, form_seen}
use Rattle.sync_typing_laws.specs.Ruling.{body_at}
use mathlib.Core.Path.{refl, sym, ap, subst, ◌∙◌}
use Rattle.sync_typing_laws.specs.Standing.{IsWholeState, Standing, Stayed}

-- what a row gives, of the state that the statement leaves
abbrev pub Goes : MachineWithProgram → Env → ℕ → List (Round annotated_language Env) → World → Env → World → Type 0
Goes x known t round s now z = IsWholeState x z × Stayed x t s z × Standing x known t now round z

over_none : (f g : ℕ → Option ℤ) (y : ℕ) → f y ≡ None → overlaid f g y ≡ g y
over_none f g y is = cc

over_some : (f g : ℕ → Option ℤ) (y : ℕ) (n : ℤ) → f y ≡ Some n → overlaid f g y ≡ Some n
over_some f g y n is = cc

abbrev pub with_proof : ℕ → ℕ → ℤ → World → World
with_proof t y n s = record { memory = s.memory; shares = with_proofs t (overlaid (one_value y n) (proofs_of s.shares t)) s.shares }

module _ (x : MachineWithProgram) (known : Env) (t : ℕ) (few : length (fields_of x) ≤ 32) (laws : AreTrue) (round : List (Round annotated_language Env)) (s : World) (whole : IsWholeState x s) (lt : t ≤ length x.program.threads) where
  abbrev pub ls : List ℕ
  ls = assigned_locals (body_at x t) []

  proofs_lt : t < length s.shares.proofs
  proofs_lt = (let k = whole.tidy.proofs in omega (arith, k, lt))

  -- a proof name that is no local comes to stand for a number
  proof_whole : (y : ℕ) (n : ℤ) → IsWholeState x (with_proof t y n s)
  proof_whole y n = record {
    tidy = record {
      sound = whole.tidy.sound;
      apart = whole.tidy.apart;
      hands = whole.tidy.hands;
      proofs = length-set s.shares.proofs t (overlaid (one_value y n) (proofs_of s.shares t)) ∙ whole.tidy.proofs;
      wraps = whole.tidy.wraps;
      locals = whole.tidy.locals;
      values = whole.tidy.values;
      cells = whole.tidy.cells;
      words_fit = whole.tidy.words_fit;
      cells_fit = whole.tidy.cells_fit;
      locals_fit = whole.tidy.locals_fit;
    };
    good = record { state = whole.good.state; joined = whole.good.joined; reached = whole.good.reached; meets = whole.good.meets; words = whole.good.words; cells = whole.good.cells };
  }

  proof_stayed : (y : ℕ) (n : ℤ) → Stayed x t s (with_proof t y n s)
  proof_stayed y n = record {
    hands = λ u k. refl;
    wraps = λ u k. refl;
    locals = λ u k. refl;
    kept = λ f l c. refl;
    proofs = λ u k. get_or-set_other s.shares.proofs t u (overlaid (one_value y n) (proofs_of s.shares t)) (λ z. None) k;
  }

  proofs_are : (y : ℕ) (n : ℤ) (i : ℕ) → proofs_of (with_proof t y n s).shares t i ≡ overlaid (one_value y n) (proofs_of s.shares t) i
  proofs_are y n i = ap (λ (f : ℕ → Option ℤ). f i) (get_or-set_same s.shares.proofs t (overlaid (one_value y n) (proofs_of s.shares t)) (λ z. None) proofs_lt)

  same_is : (i : ℕ) → nat_eq i i ≡ true
  same_is i = elim (eqb_tells i i) [ inl k ↦ k.0 | inr k ↦ absurd (k.1 refl) ]

  one_here : (y : ℕ) (n : ℤ) → one_value y n y ≡ Some n
  one_here y n = let k = same_is y in cc

  one_there : (y : ℕ) (n : ℤ) (i : ℕ) → (i ≡ y → ⊥) → one_value y n i ≡ None
  one_there y n i apart = let k = ne_eqb i y apart in cc

  proof_there : (y : ℕ) (n : ℤ) (i : ℕ) → (i ≡ y → ⊥) → proofs_of (with_proof t y n s).shares t i ≡ proofs_of s.shares t i
  proof_there y n i apart = proofs_are y n i ∙ over_none (one_value y n) (proofs_of s.shares t) i (one_there y n i apart)

  proof_here : (y : ℕ) (n : ℤ) → proofs_of (with_proof t y n s).shares t y ≡ Some n
  proof_here y n = proofs_are y n y ∙ over_some (one_value y n) (proofs_of s.shares t) y n (one_here y n)

  true_false : (b : Bool) → b ≡ true → b ≡ false → ⊥
  true_false b one two = let k : true ≡ false = sym one ∙ two in cc

  proof_anew : (y : ℕ) (n : ℤ) → is_in y ls ≡ false → ((i : ℕ) → is_in i ls ≡ true → proofs_of s.shares t i ≡ None) → NamedAnew x t y n s (with_proof t y n s)
  proof_anew y n free none = record {
    kept = λ f l c. refl;
    hand = refl;
    wrap = refl;
    here = (let k = proof_here y n in cc);
    others = λ i apart. (let k = proof_there y n i apart in cc);
    no_proofs = λ i a. proof_there y n i (λ k. true_false (is_in i ls) a (subst (λ d. is_in d ls ≡ false) (sym k) free)) ∙ none i a;
  }

  -- `let`: the only failure is a number outside the bound
  pub let_goes : (fits : ℤ → Bool) (spares : Halt → Type 0) (line y : ℕ) (u : Tree) (e now : Env) → let_row line y u e ≡ Ok now → y < name_limit → is_in y ls ≡ false → is_number (known_with x (wrap_symbol ∷ [])) u ≡ true
      → (number_fits fits (sight_of (fields_of x) s.memory s.shares t nowhere_near).valuation u ≡ false → spares Wide) → Standing x known t e round s → PassesUnless spares (local_step fits x t (Proof (Let y u)) s) (Goes x known t round s now)
  let_goes fits spares line y u e now accepted small free number wide is = by (number_fits fits (sight_of (fields_of x) s.memory s.shares t nowhere_near).valuation u) refl where
    v : Valuation
    v = is.values

    at : At x known t v e round s
    at = at_standing x known t e round s is

    dues : List Due
    dues = at_hand_due e (u ∷ []) [] [] ∷ Makes (read e u) ∷ []

    gives : Outcome Env
    gives = Ok (name_as (name_symbol y) (read e u) e)

    met : AllByRecursion (Met v) dues × (gives ≡ Ok now)
    met = row_met laws v e line at.stands.known dues [] (Ok (name_as (name_symbol y) (read e u) e)) now accepted

    names : names_only (is_at_hand e) u ≡ true
    names = let k : ((names_only (is_at_hand e) u && true) && (true && true)) ≡ true = met.0.0 in (and_parts (names_only (is_at_hand e) u) true (and_parts (names_only (is_at_hand e) u && true) (true && true) k).0).0

    env : name_as (name_symbol y) (read e u) e ≡ now
    env = let k = met.1 in cc

    n : ℤ
    n = num (sight_of (fields_of x) s.memory s.shares t nowhere_near).valuation u

    value : n ≡ num v (read e u)
    value = term_value x known t v e round s few at u number names

    z : World
    z = with_proof t y n s

    good : Goes x known t round s now z
    good = (
      proof_whole y n,
      proof_stayed y n,
      standing_at x known t v now round z (subst (λ d. At x known t v d round z) env
          (names_it x known t v e y (read e u) round s z few small (read_used x known t v e round s few at u names) (subst (λ d. NamedAnew x t y d s z) value (proof_anew y n free at.stands.no_proofs)) at)),
    )

    seen : names_only (is_seen (hand_of s.shares t)) u ≡ true
    seen = term_seen x known t v e round s few at u names

    by : (b : Bool) → number_fits fits (sight_of (fields_of x) s.memory s.shares t nowhere_near).valuation u ≡ b → PassesUnless spares (local_step fits x t (Proof (Let y u)) s) (Goes x known t round s now)
    by true k = subst (λ r. PassesUnless spares (with_shares s.memory (r >>= (λ i. Ok (with_proofs t (overlaid (one_value y i) (proofs_of s.shares t)) s.shares)))) (Goes x known t round s now)) (sym goes) good where
      goes : only_if (names_only (is_seen (hand_of s.shares t)) u) (bounded (number_fits fits (sight_of (fields_of x) s.memory s.shares t nowhere_near).valuation u) (Ok n)) ≡ Ok n
      goes = let j = seen in cc
    by false k = subst (λ r. PassesUnless spares (with_shares s.memory (r >>= (λ i. Ok (with_proofs t (overlaid (one_value y i) (proofs_of s.shares t)) s.shares)))) (Goes x known t round s now)) (sym stops) (wide k) where
      stops : only_if (names_only (is_seen (hand_of s.shares t)) u) (bounded (number_fits fits (sight_of (fields_of x) s.memory s.shares t nowhere_near).valuation u) (Ok n)) ≡ Err Wide
      stops = let j = seen in cc

  -- `assert`
  pub assert_goes : (fits : ℤ → Bool) (spares : Halt → Type 0) (line : ℕ) (f : Formula) (label : Option ℕ) (ss : List ScriptTree) (e now : Env) → assert_row line f label ss e ≡ Ok now → is_formula (known_with x (wrap_symbol ∷ [])) f ≡ true
      → Standing x known t e round s → PassesUnless spares (local_step fits x t (Proof (Assert f label ss)) s) (Goes x known t round s now)
  assert_goes fits spares line f label ss e now accepted formula is = subst (λ r. PassesUnless spares (with_shares s.memory r) (Goes x known t round s now)) (sym goes) (whole, stayed_self x t s, standing_at x known t v now round s at_now) where
    v : Valuation
    v = is.values

    at : At x known t v e round s
    at = at_standing x known t e round s is

    dues : List Due
    dues = at_hand_due e [] (f ∷ []) ss ∷ Owes T5 (read_form e f) ∷ []

    met : AllByRecursion (Met v) dues × (tell line label (read_form e f) e ≡ Ok now)
    met = row_met laws v e line at.stands.known dues ss (tell line label (read_form e f) e) now accepted

    names : form_names_only (is_at_hand e) f ≡ true
    names = let k : (true && ((form_names_only (is_at_hand e) f && true) && scripts_name_only (is_at_hand e) ss)) ≡ true = met.0.0 in
        (and_parts (form_names_only (is_at_hand e) f) true (and_parts (form_names_only (is_at_hand e) f && true) (scripts_name_only (is_at_hand e) ss) (and_parts true ((form_names_only (is_at_hand e) f && true) && scripts_name_only (is_at_hand e) ss) k).1).0).0

    holds : Holds v (read_form e f)
    holds = met.0.1.0

    at_now : At x known t v now round s
    at_now = tells x known t v e now line label (read_form e f) round s met.1 holds (read_form_used x known t v e round s few at f names) at

    goes : only_if (form_names_only (is_seen (hand_of s.shares t)) f && truth (sight_of (fields_of x) s.memory s.shares t nowhere_near).valuation f) (Ok s.shares) ≡ Ok s.shares
    goes = let a = form_seen x known t v e round s few at f names in let b = form_value x known t v e round s few at f formula names ∙ holds in cc

  -- `print`
  pub print_goes : (fits : ℤ → Bool) (spares : Halt → Type 0) (label : ℕ) (o : Opd) (e : Env) → Standing x known t e round s → PassesUnless spares (shared_step fits x t (Print label o) s) (Goes x known t round s e)
  print_goes fits spares label o e is = (
    record {
      tidy = record {
        sound = whole.tidy.sound;
        apart = whole.tidy.apart;
        hands = whole.tidy.hands;
        proofs = whole.tidy.proofs;
        wraps = whole.tidy.wraps;
        locals = whole.tidy.locals;
        values = whole.tidy.values;
        cells = whole.tidy.cells;
        words_fit = whole.tidy.words_fit;
        cells_fit = whole.tidy.cells_fit;
        locals_fit = whole.tidy.locals_fit;
      };
      good = record { state = whole.good.state; joined = whole.good.joined; reached = whole.good.reached; meets = whole.good.meets; words = whole.good.words; cells = whole.good.cells };
    },
    record { hands = λ u n. refl; proofs = λ u n. refl; wraps = λ u n. refl; locals = λ u n. refl; kept = λ f l c. refl },
    record {
      values = is.values;
      stands = record { constants = is.stands.constants; names = is.stands.names; no_proofs = is.stands.no_proofs; wrap = is.stands.wrap; hand = is.stands.hand; known = is.stands.known; scoped = is.stands.scoped };
      same = is.same;
      unsaid = is.unsaid;
      lasting = is.lasting;
      chain = chain_goes x known is.values is.values e.fresh e.fresh s _ round (record { numbers = λ y l. refl; maps = λ y l. refl }) (omega arith) (λ f l c. refl) is.chain;
    },
  )
