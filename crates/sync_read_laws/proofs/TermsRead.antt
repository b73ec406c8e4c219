-- A term that is read at a place of a program has its sort, and a formula compares numbers, over what is known there.
use Rattle.std.proofs.Common.{◌≡◌, ℕ, ℤ, zero, suc, Bool, true, false, if◌then◌else◌, ◌==◌, slice_get, List, [], ◌∷◌, map, length, Option, Some, None, Result, Ok, Err, refl, sym, ap, subst, true≢false}
use Rattle.std.specs.List.{AllByRecursion}
use Rattle.std.specs.Result.{IfOk}
use Rattle.sync_base.specs.declared.stops.Refusal.{Refusal}
use Rattle.sync_base.specs.declared.stops.Rule.TheVariants.{N1, N3}
use Rattle.sync_base.specs.Outcome.{◌>>=◌, first}
use Rattle.sync_terms.specs.Trees.{Tree, Formula}
use Rattle.sync_terms.specs.Trees as trees
use Rattle.sync_machine.specs.States.{Numbers, Maps}
use Rattle.sync_machine.specs.Scope.{Known}
use Rattle.sync_machine.specs.Naming.{sort_fault, number_fault, map_fault, formula_fault}
use Rattle.sync_parse_exprs.specs.declared.expressions.Special.{Special}
use Rattle.sync_parse_exprs.specs.declared.raw_names.RawName.{RawName}
use Rattle.sync_parse_exprs.specs.declared.expressions.RawExpr.{RawExpr, ind-RawExpr, map-RawExpr, roll-RawExpr, fold-roll-RawExpr}
use Rattle.sync_parse_exprs.specs.declared.expressions.RawExprKind.{RawExprKind, fold-RawExprKind, fold-roll-RawExprKind, roll-RawExprKind, map-RawExprKind}
use Rattle.sync_parse_exprs.specs.declared.expressions.RawExprKind.TheOpen.{RawExprKind-F, RawExpr-F}
use Rattle.sync_parse_exprs.specs.declared.expressions.Function.{Function}
use Rattle.sync_parse_exprs.specs.declared.expressions.Function.TheVariants as function
use Rattle.sync_parse_exprs.specs.declared.expressions.Operator.{Operator}
use Rattle.sync_parse_exprs.specs.declared.expressions.Operator.TheVariants as operator
use Rattle.sync_read_names.specs.declared.scopes.Sort.{Sort}
use Rattle.sync_read_names.specs.declared.scopes.Sort.TheVariants as sort
use Rattle.sync_read_names.specs.declared.scopes.Meaning.{Meaning}
use Rattle.sync_read_names.specs.declared.scopes.Meaning.TheVariants.{Nothing, Field, Operation, Invariant}
use Rattle.sync_read_names.specs.declared.scopes.Scope.{Scope}
use Rattle.sync_read_names.specs.Scopes.{refuse, symbol_of, param_symbol_of, is_local, is_owned, knows_params, field_sort, field_symbol, seen_as, knows_special, special_number, symbol_or, held_symbol_of}
use Rattle.sync_read_names.specs.Exprs.{Reading, unless, clashes, misfit, term_as, form_as, pair_as, forms_as, two_in, argument, map_and_key, map_and_two, applied, call_fault, call_term, held_name, held_term, two_terms, two_forms, compared, Kind, kind_reading, expr_reading, reading, start_fault, term_of, form_of}
use Rattle.sync_read.proofs.Chains.{after_ok, unless_ok, both}

-- the refusal does not matter
other_refusal : {A : Type 0} (P : A → Type 0) (b : Bool) (x y : Refusal) (r : Result A Refusal) → IfOk (if b then Err x else r) P → IfOk (if b then Err y else r) P
other_refusal P true x y r h = tt
other_refusal P false x y r h = h

-- ---- what a scope knows

-- what may be named at a place is known, each as its sort
pub record Agrees (s : Scope) (k : Known) : Type 0 where
  pub nobody : knows_params s.claim ≡ false
  pub words : (w : Special) → knows_special s.sight w ≡ true → k (special_number w) ≡ Some Numbers
  pub held : (n : ℕ) → s.sight.held ≡ true → k (held_symbol_of n) ≡ Some Numbers
  pub own : (n : ℕ) → is_local s n ≡ true → k (symbol_of n) ≡ Some Numbers
  pub numbers : (n i : ℕ) → seen_as s n ≡ Field i sort.Number → k i ≡ Some Numbers
  pub maps : (n i : ℕ) → seen_as s n ≡ Field i sort.Map → k i ≡ Some Maps

module _ (s : Scope) (k : Known) (agrees : Agrees s k) where
  abbrev IsNumber : Tree → Type 0
  IsNumber t = number_fault k t ≡ None

  abbrev IsMap : Tree → Type 0
  IsMap t = map_fault k t ≡ None

  abbrev IsFormula : Formula → Type 0
  IsFormula f = formula_fault k f ≡ None

  record Good (r : Reading) : Type 0 where
    number : IfOk (term_as sort.Number r s) IsNumber
    mapping : IfOk (term_as sort.Map r s) IsMap
    form : IfOk (form_as r s) IsFormula

  name_number : (x : ℕ) → k x ≡ Some Numbers → IsNumber (trees.Name x)
  unfolding number_fault
  name_number x e = ap (sort_fault Numbers) e

  name_map : (x : ℕ) → k x ≡ Some Maps → IsMap (trees.Name x)
  unfolding number_fault
  name_map x e = ap (sort_fault Maps) e

  -- ---- pairs and arguments

  pair_is : (v w : Sort) (P Q : Tree → Type 0) (a b : Reading) → IfOk (term_as v a s) P → IfOk (term_as w b s) Q → IfOk (pair_as v a w b s) (λ p. P p.0 × Q p.1)
  pair_is v w P Q a b p q =
      after_ok (λ p. P p.0 × Q p.1) P (term_as v a s) _ p (λ x px.
      after_ok (λ p. P p.0 × Q p.1) Q (term_as w b s) _ q (λ y qy. (px, qy)))

  forms_is : (a b : Reading) → Good a → Good b → IfOk (forms_as a b s) (λ p. IsFormula p.0 × IsFormula p.1)
  forms_is a b p q =
      after_ok (λ p. IsFormula p.0 × IsFormula p.1) IsFormula (form_as a s) _ p.form (λ x px.
      after_ok (λ p. IsFormula p.0 × IsFormula p.1) IsFormula (form_as b s) _ q.form (λ y qy. (px, qy)))

  number_at : (rs : List Reading) (at line : ℕ) → AllByRecursion Good rs → IfOk (argument sort.Number rs at line s) IsNumber
  number_at [] at line h = tt
  number_at (r ∷ rs) zero line h = h.0.number
  number_at (r ∷ rs) (suc at) line h = number_at rs at line h.1

  map_at : (rs : List Reading) (at line : ℕ) → AllByRecursion Good rs → IfOk (argument sort.Map rs at line s) IsMap
  map_at [] at line h = tt
  map_at (r ∷ rs) zero line h = h.0.mapping
  map_at (r ∷ rs) (suc at) line h = map_at rs at line h.1

  key_is : (rs : List Reading) (line : ℕ) → AllByRecursion Good rs → IfOk (map_and_key rs line s) (λ p. IsMap p.0 × IsNumber p.1)
  key_is rs line h =
      after_ok (λ p. IsMap p.0 × IsNumber p.1) IsMap (argument sort.Map rs 0 line s) _ (map_at rs 0 line h) (λ m pm.
      after_ok (λ p. IsMap p.0 × IsNumber p.1) IsNumber (argument sort.Number rs 1 line s) _ (number_at rs 1 line h) (λ x px. (pm, px)))

  abbrev ThreeSorted : Tree × Tree × Tree → Type 0
  ThreeSorted p = IsMap p.0 × IsNumber p.1 × IsNumber p.2

  two_is : (rs : List Reading) (line : ℕ) → AllByRecursion Good rs → IfOk (map_and_two rs line s) ThreeSorted
  two_is rs line h =
      after_ok ThreeSorted (λ p. IsMap p.0 × IsNumber p.1) (map_and_key rs line s) _ (key_is rs line h) (λ p q.
      after_ok ThreeSorted IsNumber (argument sort.Number rs 2 line s) _ (number_at rs 2 line h) (λ x px. (q.0, q.1, px)))

  -- ---- kinds of expressions

  number_good : (n : ℤ) (line : ℕ) → Good (kind_reading (RawExprKind-F.Number n) line)
  unfolding number_fault
  number_good n line = record { number = refl; mapping = tt; form = tt }

  nil_good : (line : ℕ) → Good (kind_reading RawExprKind-F.Nil line)
  unfolding number_fault
  nil_good line = record { number = tt; mapping = refl; form = tt }

  -- a refusal, whatever was wanted
  refused : {A : Type 0} (P : A → Type 0) (b : Bool) (x y : Refusal) → IfOk (if b then Err x else Err y) P
  refused P true x y = tt
  refused P false x y = tt

  special_number_term : (w : Special) (at : ℕ) (r : Refusal) (b : Bool) → knows_special s.sight w ≡ b
      → IfOk (if clashes sort.Number (if b then Some sort.Number else None) then Err r else (symbol_or (if b then Some (special_number w) else None) at >>= λ x. Ok (trees.Name x))) IsNumber
  special_number_term w at r true e = name_number (special_number w) (agrees.words w e)
  special_number_term w at r false e = tt

  special_map_term : (w : Special) (at : ℕ) (r : Refusal) (b : Bool)
      → IfOk (if clashes sort.Map (if b then Some sort.Number else None) then Err r else (symbol_or (if b then Some (special_number w) else None) at >>= λ x. Ok (trees.Name x))) IsMap
  special_map_term w at r true = tt
  special_map_term w at r false = tt

  special_good : (w : Special) (at line : ℕ) → Good (kind_reading (RawExprKind-F.Special w at) line)
  special_good w at line =
      let r : Refusal = misfit (kind_reading (RawExprKind-F.Special w at) line) s in record {
        number = special_number_term w at r (knows_special s.sight w) refl;
        mapping = special_map_term w at r (knows_special s.sight w);
        form = refused IsFormula (clashes sort.Formula ((kind_reading (RawExprKind-F.Special w at) line).sort s)) r _;
      }

  named_number : (named : RawName) (r : Refusal) (b : Bool) (m : Meaning) → is_local s named.name ≡ b → seen_as s named.name ≡ m
      → IfOk (if clashes sort.Number (if b then Some sort.Number else field_sort m) then Err r else ((if b then Ok (symbol_of named.name) else field_symbol m named.line) >>= λ x. Ok (trees.Name x))) IsNumber
  named_number named r true m e f = name_number (symbol_of named.name) (agrees.own named.name e)
  named_number named r false Nothing e f = tt
  named_number named r false (Field i sort.Number) e f = name_number i (agrees.numbers named.name i f)
  named_number named r false (Field i sort.Map) e f = tt
  named_number named r false (Field i sort.Formula) e f = tt
  named_number named r false (Operation i) e f = tt
  named_number named r false (Invariant i) e f = tt

  named_map : (named : RawName) (r : Refusal) (b : Bool) (m : Meaning) → is_local s named.name ≡ b → seen_as s named.name ≡ m
      → IfOk (if clashes sort.Map (if b then Some sort.Number else field_sort m) then Err r else ((if b then Ok (symbol_of named.name) else field_symbol m named.line) >>= λ x. Ok (trees.Name x))) IsMap
  named_map named r true m e f = tt
  named_map named r false Nothing e f = tt
  named_map named r false (Field i sort.Number) e f = tt
  named_map named r false (Field i sort.Map) e f = name_map i (agrees.maps named.name i f)
  named_map named r false (Field i sort.Formula) e f = tt
  named_map named r false (Operation i) e f = tt
  named_map named r false (Invariant i) e f = tt

  name_good : (named : RawName) (line : ℕ) → Good (kind_reading (RawExprKind-F.Name named) line)
  name_good named line =
      let r : Refusal = misfit (kind_reading (RawExprKind-F.Name named) line) s in record {
        number = named_number named r (is_local s named.name) (seen_as s named.name) refl refl;
        mapping = named_map named r (is_local s named.name) (seen_as s named.name) refl refl;
        form = refused IsFormula (clashes sort.Formula ((kind_reading (RawExprKind-F.Name named) line).sort s)) r _;
      }

  param_term : (P : Tree → Type 0) (wanted : Sort) (at line : ℕ) (named : RawName) (r : Refusal) (b : Bool) → b ≡ false
      → IfOk (if clashes wanted (if b then Some sort.Number else None) then Err r else ((if b then (if is_owned s s.claim named.name then Ok (param_symbol_of named.name) else refuse N1 named.line) else refuse N1 at) >>= λ x. Ok (trees.Name x))) P
  param_term P wanted at line named r true e = absurd (true≢false e)
  param_term P wanted at line named r false e = tt

  param_good : (at line : ℕ) (named : RawName) → Good (kind_reading (RawExprKind-F.Param at named) line)
  param_good at line named =
      let r : Refusal = misfit (kind_reading (RawExprKind-F.Param at named) line) s in record {
        number = param_term IsNumber sort.Number at line named r (knows_params s.claim) agrees.nobody;
        mapping = param_term IsMap sort.Map at line named r (knows_params s.claim) agrees.nobody;
        form = refused IsFormula (clashes sort.Formula ((kind_reading (RawExprKind-F.Param at named) line).sort s)) r _;
      }

  bracketed_good : (r : Reading) (line : ℕ) → Good r → Good (kind_reading (RawExprKind-F.Bracketed r) line)
  bracketed_good r line h = record {
    number = other_refusal IsNumber (clashes sort.Number (r.sort s)) _ _ (r.term s) h.number;
    mapping = other_refusal IsMap (clashes sort.Map (r.sort s)) _ _ (r.term s) h.mapping;
    form = other_refusal IsFormula (clashes sort.Formula (r.sort s)) _ _ (r.form s) h.form;
  }

  not_good : (r : Reading) (line : ℕ) → Good r → Good (kind_reading (RawExprKind-F.Not r) line)
  unfolding formula_fault
  not_good r line h = record { number = tt; mapping = tt; form = after_ok IsFormula IsFormula (form_as r s) _ h.form (λ f p. p) }

  minus_good : (r : Reading) (line : ℕ) → Good r → Good (kind_reading (RawExprKind-F.Minus r) line)
  unfolding number_fault
  minus_good r line h = record { number = after_ok IsNumber IsNumber (term_as sort.Number r s) _ h.number (λ t p. p); mapping = tt; form = tt }

  times_good : (n : ℤ) (r : Reading) (line : ℕ) → Good r → Good (kind_reading (RawExprKind-F.Times n r) line)
  unfolding number_fault
  times_good n r line h = record { number = after_ok IsNumber IsNumber (term_as sort.Number r s) _ h.number (λ t p. p); mapping = tt; form = tt }

  -- ---- two operands

  sum_is : (op : Operator) (x y : Tree) → IsNumber x → IsNumber y → IsNumber (two_terms op x y)
  unfolding number_fault
  sum_is operator.Plus x y p q = both (number_fault k x) (number_fault k y) p q
  sum_is _ x y p q = both (number_fault k x) (number_fault k y) p q

  joined_is : (op : Operator) (f g : Formula) → IsFormula f → IsFormula g → IsFormula (two_forms op f g)
  unfolding formula_fault
  joined_is operator.Implies f g p q = both (formula_fault k f) (formula_fault k g) p q
  joined_is operator.Or f g p q = both (formula_fault k f) (formula_fault k g) p q
  joined_is _ f g p q = both (formula_fault k f) (formula_fault k g) p q

  compared_is : (op : Operator) (x y : Tree) → IsNumber x → IsNumber y → IsFormula (compared op x y)
  unfolding formula_fault
  compared_is operator.AtMost x y p q = both (number_fault k x) (number_fault k y) p q
  compared_is operator.Below x y p q = both (number_fault k x) (number_fault k y) p q
  compared_is operator.NotEqual x y p q = both (number_fault k x) (number_fault k y) p q
  compared_is _ x y p q = both (number_fault k x) (number_fault k y) p q

  abbrev TwoNumbers : Tree × Tree → Type 0
  TwoNumbers p = IsNumber p.0 × IsNumber p.1

  two_numbers : (a b : Reading) → Good a → Good b → IfOk (pair_as sort.Number a sort.Number b s) TwoNumbers
  two_numbers a b p q = pair_is sort.Number sort.Number IsNumber IsNumber a b p.number q.number

  sum_term : (op : Operator) (a b : Reading) → Good a → Good b → IfOk (pair_as sort.Number a sort.Number b s >>= (λ p. Ok (two_terms op p.0 p.1))) IsNumber
  sum_term op a b p q = after_ok IsNumber TwoNumbers (pair_as sort.Number a sort.Number b s) _ (two_numbers a b p q) (λ t h. sum_is op t.0 t.1 h.0 h.1)

  compared_form : (op : Operator) (a b : Reading) → Good a → Good b → IfOk (two_in false op a b s) IsFormula
  compared_form op a b p q = after_ok IsFormula TwoNumbers (pair_as sort.Number a sort.Number b s) _ (two_numbers a b p q) (λ t h. compared_is op t.0 t.1 h.0 h.1)

  joined_form : (op : Operator) (a b : Reading) → Good a → Good b → IfOk (two_in true op a b s) IsFormula
  joined_form op a b p q = after_ok IsFormula (λ p. IsFormula p.0 × IsFormula p.1) (forms_as a b s) _ (forms_is a b p q) (λ t h. joined_is op t.0 t.1 h.0 h.1)

  two_good : (op : Operator) (a b : Reading) (line : ℕ) → Good a → Good b → Good (kind_reading (RawExprKind-F.Two op a b) line)
  two_good operator.Plus a b line p q = record { number = sum_term operator.Plus a b p q; mapping = tt; form = tt }
  two_good operator.Minus a b line p q = record { number = sum_term operator.Minus a b p q; mapping = tt; form = tt }
  two_good operator.Implies a b line p q = record { number = tt; mapping = tt; form = joined_form operator.Implies a b p q }
  two_good operator.Or a b line p q = record { number = tt; mapping = tt; form = joined_form operator.Or a b p q }
  two_good operator.And a b line p q = record { number = tt; mapping = tt; form = joined_form operator.And a b p q }
  two_good operator.Equal a b line p q = record { number = tt; mapping = tt; form = compared_form operator.Equal a b p q }
  two_good operator.NotEqual a b line p q = record { number = tt; mapping = tt; form = compared_form operator.NotEqual a b p q }
  two_good operator.AtMost a b line p q = record { number = tt; mapping = tt; form = compared_form operator.AtMost a b p q }
  two_good operator.Below a b line p q = record { number = tt; mapping = tt; form = compared_form operator.Below a b p q }

  -- ---- functions

  module _ (args : List Reading) (line : ℕ) (h : AllByRecursion Good args) where
    of_key : (P : Tree → Type 0) (make : Tree → Tree → Tree) → ((m x : Tree) → IsMap m → IsNumber x → P (make m x)) → IfOk (map_and_key args line s >>= (λ p. Ok (make p.0 p.1))) P
    of_key P make is = after_ok P (λ p. IsMap p.0 × IsNumber p.1) (map_and_key args line s) _ (key_is args line h) (λ t q. is t.0 t.1 q.0 q.1)

    of_map : (make : Tree → Tree) → ((m : Tree) → IsMap m → IsNumber (make m)) → IfOk (argument sort.Map args 0 line s >>= (λ m. Ok (make m))) IsNumber
    of_map make is = after_ok IsNumber IsMap (argument sort.Map args 0 line s) _ (map_at args 0 line h) is

    of_two : (make : Tree → Tree → Tree → Tree) → ((m x y : Tree) → IsMap m → IsNumber x → IsNumber y → IsMap (make m x y)) → IfOk (map_and_two args line s >>= (λ p. Ok (make p.0 p.1 p.2))) IsMap
    of_two make is = after_ok IsMap ThreeSorted (map_and_two args line s) _ (two_is args line h) (λ t q. is t.0 t.1 t.2 q.0 q.1 q.2)

    bare_is : (o : Option RawName) (at : ℕ) → s.sight.held ≡ true → IfOk (held_name o at) IsNumber
    bare_is None at known = tt
    bare_is (Some n) at known = name_number (held_symbol_of n.name) (agrees.held n.name known)

    held_is : (o : Option Reading) (at : ℕ) → s.sight.held ≡ true → IfOk (held_term o at) IsNumber
    held_is None at known = tt
    held_is (Some r) at known = bare_is r.bare r.line known

    held_number : (r : Refusal) (b : Bool) (at : ℕ) → s.sight.held ≡ b
        → IfOk (if clashes sort.Number (if b then Some sort.Number else None) then Err r else unless (if b then (if length args == 1 then None else Some (record { line = line; rule = N3 })) else Some (record { line = line; rule = N1 })) (held_term (slice_get args 0) line)) IsNumber
    held_number r true at e = unless_ok IsNumber (if length args == 1 then None else Some (record { line = line; rule = N3 })) _ (held_is (slice_get args 0) line e)
    held_number r false at e = tt

    held_map : (r : Refusal) (b : Bool) (fault : Option Refusal) (rest : Result Tree Refusal)
        → IfOk (if clashes sort.Map (if b then Some sort.Number else None) then Err r else unless (if b then fault else Some (record { line = line; rule = N1 })) rest) IsMap
    held_map r true fault rest = tt
    held_map r false fault rest = tt

    call_good : (f : Function) (at : ℕ) → Good (kind_reading (RawExprKind-F.Call f line args) at)
    unfolding number_fault applied call_term
    call_good function.Get at = record {
      number = unless_ok IsNumber (call_fault s.sight function.Get line (length args)) _ (of_key IsNumber trees.Get (λ m x p q. both (map_fault k m) (number_fault k x) p q));
      mapping = tt;
      form = tt;
    }
    call_good function.Has at = record {
      number = unless_ok IsNumber (call_fault s.sight function.Has line (length args)) _ (of_key IsNumber trees.Has (λ m x p q. both (map_fault k m) (number_fault k x) p q));
      mapping = tt;
      form = tt;
    }
    call_good function.Size at = record { number = unless_ok IsNumber (call_fault s.sight function.Size line (length args)) _ (of_map trees.Size (λ m p. p)); mapping = tt; form = tt }
    call_good function.Sum at = record { number = unless_ok IsNumber (call_fault s.sight function.Sum line (length args)) _ (of_map trees.Sum (λ m p. p)); mapping = tt; form = tt }
    call_good function.Put at = record {
      number = tt;
      mapping = unless_ok IsMap (call_fault s.sight function.Put line (length args)) _ (of_two trees.Put (λ m x y p q r. both (map_fault k m) (first (number_fault k x) (number_fault k y)) p (both (number_fault k x) (number_fault k y) q r)));
      form = tt;
    }
    call_good function.Del at = record {
      number = tt;
      mapping = unless_ok IsMap (call_fault s.sight function.Del line (length args)) _ (of_key IsMap trees.Del (λ m x p q. both (map_fault k m) (number_fault k x) p q));
      form = tt;
    }
    call_good function.Bump at = record {
      number = tt;
      mapping = unless_ok IsMap (call_fault s.sight function.Bump line (length args)) _ (of_two trees.Bump (λ m x y p q r. both (map_fault k m) (first (number_fault k x) (number_fault k y)) p (both (number_fault k x) (number_fault k y) q r)));
      form = tt;
    }
    call_good function.Held at =
        let r : Refusal = misfit (kind_reading (RawExprKind-F.Call function.Held line args) at) s in record {
          number = held_number r s.sight.held at refl;
          mapping = held_map r s.sight.held _ _;
          form = refused IsFormula (clashes sort.Formula ((kind_reading (RawExprKind-F.Call function.Held line args) at).sort s)) r _;
        }

  -- ---- every expression

  abbrev kind : RawExprKind → Kind
  kind = fold-RawExprKind Kind Reading kind_reading expr_reading

  abbrev GoodKind : RawExprKind → Type 0
  GoodKind x = (line : ℕ) → Good (kind x line)

  abbrev GoodExpr : RawExpr → Type 0
  GoodExpr e = Good (reading e)

  abbrev KindThat : Type 0
  KindThat = (x : RawExprKind) × GoodKind x

  abbrev ExprThat : Type 0
  ExprThat = (e : RawExpr) × GoodExpr e

  all_good : (es : List ExprThat) → AllByRecursion Good (map reading (map (λ e. e.0) es))
  all_good [] = tt
  all_good (e ∷ es) = (e.1, all_good es)

  abbrev plain : RawExprKind-F KindThat ExprThat → RawExprKind-F RawExprKind RawExpr
  plain y = map-RawExprKind KindThat ExprThat RawExprKind RawExpr (λ e. e.0) (λ e. e.0) y

  layer_good : (y : RawExprKind-F KindThat ExprThat) (line : ℕ) → Good (kind_reading (map-RawExprKind RawExprKind RawExpr Kind Reading kind reading (plain y)) line)
  layer_good (RawExprKind-F.Number n) line = number_good n line
  layer_good (RawExprKind-F.Name named) line = name_good named line
  layer_good (RawExprKind-F.Param at named) line = param_good at line named
  layer_good RawExprKind-F.Nil line = nil_good line
  layer_good (RawExprKind-F.Bracketed e) line = bracketed_good (reading e.0) line e.1
  layer_good (RawExprKind-F.Special word at) line = special_good word at line
  layer_good (RawExprKind-F.Call f at args) line = call_good (map reading (map (λ e. e.0) args)) at (all_good args) f line
  layer_good (RawExprKind-F.Not e) line = not_good (reading e.0) line e.1
  layer_good (RawExprKind-F.Minus e) line = minus_good (reading e.0) line e.1
  layer_good (RawExprKind-F.Times n e) line = times_good n (reading e.0) line e.1
  layer_good (RawExprKind-F.Two op a b) line = two_good op (reading a.0) (reading b.0) line a.1 b.1

  kind_good : (y : RawExprKind-F KindThat ExprThat) → GoodKind (roll-RawExprKind (plain y))
  kind_good y line = subst (λ (x : Kind). Good (x line)) (sym (fold-roll-RawExprKind Kind Reading kind_reading expr_reading (plain y))) (layer_good y line)

  expr_good : (y : RawExpr-F KindThat ExprThat) → GoodExpr (roll-RawExpr (map-RawExpr KindThat ExprThat RawExprKind RawExpr (λ e. e.0) (λ e. e.0) y))
  expr_good y = subst Good (sym (fold-roll-RawExpr Kind Reading kind_reading expr_reading (map-RawExpr KindThat ExprThat RawExprKind RawExpr (λ e. e.0) (λ e. e.0) y))) (y.what.1 y.line)

  good : (e : RawExpr) → GoodExpr e
  good = ind-RawExpr GoodKind GoodExpr (λ x y is. subst (λ z. GoodKind (roll-RawExprKind z)) is (kind_good y)) (λ x y is. subst (λ z. GoodExpr (roll-RawExpr z)) is (expr_good y))

  pub term_number : (e : RawExpr) → IfOk (term_of sort.Number e s) (λ t. number_fault k t ≡ None)
  term_number e = unless_ok IsNumber (start_fault (reading e) s) _ (good e).number

  pub term_map : (e : RawExpr) → IfOk (term_of sort.Map e s) (λ t. map_fault k t ≡ None)
  term_map e = unless_ok IsMap (start_fault (reading e) s) _ (good e).mapping

  pub form_is : (e : RawExpr) → IfOk (form_of e s) (λ f. formula_fault k f ≡ None)
  form_is e = unless_ok IsFormula (start_fault (reading e) s) _ (good e).form
