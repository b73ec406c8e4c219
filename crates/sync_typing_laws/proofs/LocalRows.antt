-- Local statements without tokens, and the condition of `if`: where the row is accepted the statement does not fail,
-- and the new environment stands for what the thread then has.
use Rattle.std.proofs.Common.{arith}
use Rattle.std.specs.Prelude.{◌≡◌, ℕ, pos, ◌<◌, ◌≤◌, ◌+◌, ◌*◌, ◌%◌, ◌^◌, Bool, true, false, not, ◌&&◌, if◌then◌else◌, nat_lt, nat_le, nat_eq, int_le, int_lt, List, [], ◌∷◌, Option, Some, None, Ok}
use Rattle.std.specs.Ordering.{int_eq}
use Rattle.std.proofs.lemmas.Int.{ints}
use Rattle.std.proofs.lemmas.Bool.{and_parts, and_from, ltb-true, lt-ltb, ne_eqb}
use Rattle.sync_terms.proofs.Meaning.{truth-neg}
use Rattle.sync_terms.specs.Symbols.{name_symbol}
use Rattle.sync_terms.specs.Trees.{Tree, Name, Formula, Le, Lt, Eq, Not, And, Or, Imp, neg, formula_size}
use Rattle.sync_terms.specs.Values.{Valuation, num, truth, Holds}
use Rattle.sync_machine.specs.Naming.{is_in}
use Rattle.sync_rules.specs.Locality.{names_only, form_names_only}
use Rattle.sync_kernel_facts.specs.Facts.{named}
use Rattle.sync_thread.specs.Arrays.{name_limit}
use Rattle.sync_thread.specs.Code.{locals_of, operand_value, compares, satisfies}
use Rattle.sync_thread.specs.Programs.{KeepTree}
use Rattle.sync_thread.specs.Resting.{Round, branch}
use Rattle.sync_thread.specs.declared.operands.Cond.{Cond}
use Rattle.sync_thread.specs.declared.operands.Opd.{Opd}
use Rattle.sync_thread.specs.declared.operands.Opd.TheVariants.{Number, Local}
use Rattle.sync_thread.specs.declared.operands.Rel.{Rel}
use Rattle.sync_thread_machine.specs.MachineWithProgram.{MachineWithProgram}
use Rattle.sync_thread_machine.specs.ProgramSymbols.{first_fresh}
use Rattle.sync_thread_meaning.specs.Meaning.{World, annotated_language}
use Rattle.sync_thread_meaning.specs.Shares.{proofs_of, wrap_of, named_value}
use Rattle.sync_typing.specs.Environments.{Env, know, tell, stands as term_of}
use Rattle.sync_typing.specs.Lists.{assigned_locals}
use Rattle.sync_typing.specs.Locals.{operand, condition}
use Rattle.sync_typing.specs.Names.{operand_is_named, cond_is_named}
use Rattle.sync_typing_laws.proofs.LocalDues.{fits_ok}
use Rattle.sync_typing_laws.proofs.LocalMoves.{At, at_standing, standing_at, is_used, knows}
use Rattle.sync_typing_laws.specs.Rests.{IsTidy}
use Rattle.sync_typing_laws.specs.Ruling.{body_at}
use Rattle.sync_thread.specs.declared.operands.Rel.TheVariants as rel
use mathlib.Core.Path.{refl, sym, ap, subst, ◌∙◌}
use Rattle.sync_typing_laws.specs.Standing.{Standing, Stayed}

-- ---- the state as a whole, and what others have

pub stayed_self : (x : MachineWithProgram) (t : ℕ) (s : World) → Stayed x t s s
stayed_self x t s = record { hands = λ u n. refl; proofs = λ u n. refl; wraps = λ u n. refl; locals = λ u n. refl; kept = λ f lt c. refl }

pub stayed_along : (x : MachineWithProgram) (t : ℕ) (s z y : World) → Stayed x t s z → Stayed x t z y → Stayed x t s y
stayed_along x t s z y a b = record {
  hands = λ u n. b.hands u n ∙ a.hands u n;
  proofs = λ u n. b.proofs u n ∙ a.proofs u n;
  wraps = λ u n. b.wraps u n ∙ a.wraps u n;
  locals = λ u n. b.locals u n ∙ a.locals u n;
  kept = λ f lt c. b.kept f lt c ∙ a.kept f lt c;
}

-- ---- operands

-- a local is below the limit of names, as the rules on names say
abbrev pub AreFew : MachineWithProgram → ℕ → Type 0
AreFew x t = (y : ℕ) → is_in y (assigned_locals (body_at x t) []) ≡ true → y < name_limit

-- the symbol of a name stands for its term, or for itself
no_token : (y : ℕ) → ((64 + 4 * y) % 4) ≡ 0
no_token y = omega (arith)

is_two : (n : ℕ) → n ≡ 0 → nat_eq n 2 ≡ false
is_two n e = ne_eqb n 2 (λ k. omega (arith, e, k))

pub stands_known : (e : Env) (y : ℕ) (u : Tree) → e.terms (name_symbol y) ≡ Some u → term_of e (name_symbol y) ≡ u
stands_known e y u is = cc

and_false : (a b : Bool) → (a && (b && false)) ≡ false
and_false true true = refl
and_false true false = refl
and_false false b = refl

pub stands_unknown : (e : Env) (y : ℕ) → e.terms (name_symbol y) ≡ None → term_of e (name_symbol y) ≡ Name (name_symbol y)
stands_unknown e y is =
    let two = is_two ((64 + 4 * y) % 4) (no_token y) in
    let no = and_false (nat_lt 63 (64 + 4 * y)) (nat_lt (64 + 4 * y) first_fresh) in cc

pub local_value : (x : MachineWithProgram) (known : Env) (t : ℕ) (v : Valuation) (e : Env) (round : List (Round annotated_language Env)) (s : World) → AreFew x t → At x known t v e round s → (y : ℕ) → is_in y (assigned_locals (body_at x t) []) ≡ true
    → num v (term_of e (name_symbol y)) ≡ pos (locals_of s.memory t y)
local_value x known t v e round s few is y local = by (e.terms (name_symbol y)) refl where
  value : named_value (proofs_of s.shares t) (locals_of s.memory t) y ≡ pos (locals_of s.memory t y)
  value = let none = is.stands.no_proofs y local in cc

  by : (o : Option Tree) → e.terms (name_symbol y) ≡ o → num v (term_of e (name_symbol y)) ≡ pos (locals_of s.memory t y)
  by None k = subst (λ d. num v d ≡ pos (locals_of s.memory t y)) (sym (stands_unknown e y k)) (is.unsaid y (few y local) k ∙ value)
  by (Some u) k = subst (λ d. num v d ≡ pos (locals_of s.memory t y)) (sym (stands_known e y u k)) (is.stands.names y u k ∙ value)

pub local_used : (x : MachineWithProgram) (known : Env) (t : ℕ) (v : Valuation) (e : Env) (round : List (Round annotated_language Env)) (s : World) → AreFew x t → At x known t v e round s → (y : ℕ) → is_in y (assigned_locals (body_at x t) []) ≡ true
    → names_only (is_used e.fresh) (term_of e (name_symbol y)) ≡ true
unfolding names_only
local_used x known t v e round s few is y local = by (e.terms (name_symbol y)) refl where
  used : names_only (is_used e.fresh) (Name (name_symbol y)) ≡ true
  used = (let far : 4194368 ≤ e.fresh = is.stands.scoped.beyond in let small : y < 1048576 = few y local in lt-ltb (64 + 4 * y) e.fresh (omega (arith, far, small)))

  by : (o : Option Tree) → e.terms (name_symbol y) ≡ o → names_only (is_used e.fresh) (term_of e (name_symbol y)) ≡ true
  by None k = subst (λ d. names_only (is_used e.fresh) d ≡ true) (sym (stands_unknown e y k)) used
  by (Some u) k = subst (λ d. names_only (is_used e.fresh) d ≡ true) (sym (stands_known e y u k)) (is.stands.scoped.names (name_symbol y) u k)

pub operand_is : (x : MachineWithProgram) (known : Env) (t : ℕ) (v : Valuation) (e : Env) (round : List (Round annotated_language Env)) (s : World) → AreFew x t → At x known t v e round s → (a : Opd) → operand_is_named (assigned_locals (body_at x t) []) a ≡ true
    → num v (operand e a) ≡ pos (operand_value s.memory t a)
operand_is x known t v e round s few is (Number n) named = refl
operand_is x known t v e round s few is (Local y) named = local_value x known t v e round s few is y named

pub operand_used : (x : MachineWithProgram) (known : Env) (t : ℕ) (v : Valuation) (e : Env) (round : List (Round annotated_language Env)) (s : World) → AreFew x t → At x known t v e round s → (a : Opd) → operand_is_named (assigned_locals (body_at x t) []) a ≡ true
    → names_only (is_used e.fresh) (operand e a) ≡ true
unfolding names_only
operand_used x known t v e round s few is (Number n) named = refl
operand_used x known t v e round s few is (Local y) named = local_used x known t v e round s few is y named

pub operand_fits : (x : MachineWithProgram) (t : ℕ) (s : World) → IsTidy x s → (ls : List ℕ) (a : Opd) → operand_is_named ls a ≡ true → operand_value s.memory t a < 2 ^ 64
operand_fits x t s tidy ls (Number n) named = ltb-true n (2 ^ 64) named
operand_fits x t s tidy ls (Local y) named = tidy.locals_fit t y

-- ---- conditions

lt_is : (a b : ℕ) → int_lt (pos a) (pos b) ≡ nat_lt a b
lt_is a b = grind (arith, ints)

le_is : (a b : ℕ) → int_le (pos a) (pos b) ≡ nat_le a b
le_is a b = grind (arith, ints)

eq_is : (a b : ℕ) → int_eq (pos a) (pos b) ≡ nat_eq a b
eq_is a b = grind (arith, ints)

pub condition_true : (v : Valuation) (e : Env) (c : Cond) (a b : ℕ) → num v (operand e c.left) ≡ pos a → num v (operand e c.right) ≡ pos b → truth v (condition e c) ≡ compares c.rel a b
unfolding truth
condition_true v e c a b ea eb = of c.rel refl where
  left : Tree
  left = operand e c.left

  right : Tree
  right = operand e c.right

  of : (r : Rel) → c.rel ≡ r → truth v (condition e c) ≡ compares c.rel a b
  of rel.Eq k = let i = eq_is a b in cc
  of rel.Ne k = let i = eq_is a b in cc
  of rel.Lt k = let i = lt_is a b in cc
  of rel.Le k = let i = le_is a b in cc

pub condition_used : (p : ℕ → Bool) (e : Env) (c : Cond) → names_only p (operand e c.left) ≡ true → names_only p (operand e c.right) ≡ true → form_names_only p (condition e c) ≡ true
unfolding form_names_only
condition_used p e c l r = of c.rel refl where
  of : (q : Rel) → c.rel ≡ q → form_names_only p (condition e c) ≡ true
  of rel.Eq k = let i = and_from (names_only p (operand e c.left)) (names_only p (operand e c.right)) l r in cc
  of rel.Ne k = let i = and_from (names_only p (operand e c.left)) (names_only p (operand e c.right)) l r in cc
  of rel.Lt k = let i = and_from (names_only p (operand e c.left)) (names_only p (operand e c.right)) l r in cc
  of rel.Le k = let i = and_from (names_only p (operand e c.left)) (names_only p (operand e c.right)) l r in cc

pub neg_used : (p : ℕ → Bool) (f : Formula) → form_names_only p f ≡ true → form_names_only p (neg f) ≡ true
unfolding form_names_only
neg_used p (Le a b) is = is
neg_used p (Lt a b) is = is
neg_used p (Eq a b) is = is
neg_used p (Not f) is = is
neg_used p (And f g) is = is
neg_used p (Or f g) is = is
neg_used p (Imp f g) is = is

-- ---- labels

-- what a label says is known then
pub tells : (x : MachineWithProgram) (known : Env) (t : ℕ) (v : Valuation) (e now : Env) (line : ℕ) (label : Option ℕ) (f : Formula) (round : List (Round annotated_language Env)) (s : World) → tell line label f e ≡ Ok now
    → Holds v f → form_names_only (is_used e.fresh) f ≡ true → At x known t v e round s → At x known t v now round s
tells x known t v e now line None f round s row holds names is = subst (λ d. At x known t v d round s) (let k : Ok e ≡ Ok now = row in cc) is
tells x known t v e now line (Some name) f round s row holds names is =
    let k = fits_ok line (formula_size f) (Ok (know (named name f ∷ []) e)) now row in
    subst (λ d. At x known t v d round s) (let j : Ok (know (named name f ∷ []) e) ≡ Ok now = k in cc) (knows x known t v e (named name f ∷ []) round s ((refl, holds), tt) (names, tt) is)

-- ---- a form that begins

pub enters : (x : MachineWithProgram) (known : Env) (t : ℕ) (v : Valuation) (e : Env) (joined : Option KeepTree) (round : List (Round annotated_language Env)) (s : World) → At x known t v e round s → At x known t v e (branch joined (wrap_of s.shares t) e ∷ round) s
enters x known t v e joined round s is = record {
  stands = is.stands;
  same = is.same;
  unsaid = is.unsaid;
  lasting = is.lasting;
  chain = (record { scoped = is.stands.scoped; constants = is.stands.constants; same = is.same; wrap = is.stands.wrap; lasting = is.lasting; before = omega arith }, is.chain);
}

-- the condition of an `if`
pub test_row : (x : MachineWithProgram) (known : Env) (t : ℕ) → AreFew x t → (c : Cond) → cond_is_named (assigned_locals (body_at x t) []) c ≡ true → (line : ℕ) (label : Option ℕ) (joined : Option KeepTree) (e first second : Env)
    → tell line label (condition e c) e ≡ Ok first → tell line label (neg (condition e c)) e ≡ Ok second
    → (round : List (Round annotated_language Env)) (s : World) → Standing x known t e round s → Standing x known t (if satisfies s.memory t c then first else second) (branch joined (wrap_of s.shares t) e ∷ round) s
test_row x known t few c named line label joined e first second one two round s is = by (satisfies s.memory t c) refl where
  v : Valuation
  v = is.values

  at : At x known t v e (branch joined (wrap_of s.shares t) e ∷ round) s
  at = enters x known t v e joined round s (at_standing x known t e round s is)

  ls : List ℕ
  ls = assigned_locals (body_at x t) []

  both : (operand_is_named ls c.left ≡ true) × (operand_is_named ls c.right ≡ true)
  both = and_parts (operand_is_named ls c.left) (operand_is_named ls c.right) named

  tells_it : truth v (condition e c) ≡ satisfies s.memory t c
  tells_it = condition_true v e c (operand_value s.memory t c.left) (operand_value s.memory t c.right) (operand_is x known t v e _ s few at c.left both.0) (operand_is x known t v e _ s few at c.right both.1)

  used : form_names_only (is_used e.fresh) (condition e c) ≡ true
  used = condition_used (is_used e.fresh) e c (operand_used x known t v e _ s few at c.left both.0) (operand_used x known t v e _ s few at c.right both.1)

  by : (b : Bool) → satisfies s.memory t c ≡ b → Standing x known t (if b then first else second) (branch joined (wrap_of s.shares t) e ∷ round) s
  by true k = standing_at x known t v first _ s (tells x known t v e first line label (condition e c) _ s one (tells_it ∙ k) used at)
  by false k = standing_at x known t v second _ s (tells x known t v e second line label (neg (condition e c)) _ s two (truth-neg v (condition e c) ∙ ap not (tells_it ∙ k)) (neg_used (is_used e.fresh) (condition e c) used) at)
