-- What an expression is: its term or its formula, or the first rule that it breaks.
--
-- At one place the rule with the smaller number counts. An expression that begins with a lexeme that breaks N1 or N3
-- is refused for it, before its size (N5) and its sort (N6), which stand at the same lexeme; then come its parts. Where
-- it begins with a bracket, its size and its sort come first, since they stand at the bracket.
use Rattle.std.specs.Prelude.{ℕ, ◌+◌, ◌==◌, pos, Bool, true, false, not, List, [], ◌∷◌, length, slice_get, nat_lt, Option, Some, None, Result, Ok, Err, if◌then◌else◌}
use Rattle.sync_base.specs.declared.stops.Refusal.{Refusal}
use Rattle.sync_base.specs.declared.stops.Rule.TheVariants.{N1, N3, N5, N6}
use Rattle.sync_base.specs.Outcome.{◌>>=◌, first}
use Rattle.sync_terms.specs.Trees.{Tree, Formula, most_nodes}
use Rattle.sync_terms.specs.Trees as trees
use Rattle.sync_parse_exprs.specs.declared.expressions.RawExpr.{RawExpr, fold-RawExpr}
use Rattle.sync_parse_exprs.specs.declared.expressions.RawExprKind.TheOpen.{RawExprKind-F, RawExpr-F}
use Rattle.sync_parse_exprs.specs.declared.expressions.Function.{Function}
use Rattle.sync_parse_exprs.specs.declared.expressions.Function.TheVariants as function
use Rattle.sync_parse_exprs.specs.declared.expressions.Operator.{Operator}
use Rattle.sync_parse_exprs.specs.declared.expressions.Operator.TheVariants as operator
use Rattle.sync_parse_exprs.specs.declared.raw_names.RawName.{RawName}
use Rattle.sync_read_names.specs.declared.scopes.Sort.{Sort}
use Rattle.sync_read_names.specs.declared.scopes.Sort.TheVariants as sort
use Rattle.sync_read_names.specs.declared.scopes.Sight.{Sight}
use Rattle.sync_read_names.specs.declared.scopes.Scope.{Scope}
use Rattle.sync_read_names.specs.Scopes.{refuse, name_sort, known_symbol, knows_params, param_symbol, knows_special, word_symbol, held_symbol_of}

-- an expression: its line; its nodes as a tree; the name that it is, in brackets or not; its sort, where its name is
-- known; the rule N1 or N3 that its first lexeme breaks; and its term or formula, if that is what it is
pub record Reading : Type 0 where
  pub line : ℕ
  pub nodes : ℕ
  pub bare : Option RawName
  pub sort : Scope → Option Sort
  pub opening : Scope → Option Refusal
  pub term : Scope → Result Tree Refusal
  pub form : Scope → Result Formula Refusal

-- what is refused already, or else the rest
abbrev pub unless : {A : Type 0} → Option Refusal → Result A Refusal → Result A Refusal
unless (Some r) rest = Err r
unless None rest = rest

-- ---- sorts

abbrev pub same_sort : Sort → Sort → Bool
same_sort sort.Number sort.Number = true
same_sort sort.Map sort.Map = true
same_sort sort.Formula sort.Formula = true
same_sort _ _ = false

-- another sort is wanted
abbrev pub clashes : Sort → Option Sort → Bool
clashes wanted (Some found) = not (same_sort found wanted)
clashes wanted None = false

abbrev pub or_sort : Option Refusal → ℕ → Refusal
or_sort (Some r) line = r
or_sort None line = record { line = line; rule = N6 }

-- the refusal of an expression of another sort
abbrev pub misfit : Reading → Scope → Refusal
misfit r s = or_sort (r.opening s) r.line

-- the expression as a term of a sort, and as a formula
abbrev pub term_as : Sort → Reading → Scope → Result Tree Refusal
term_as wanted r s = if clashes wanted (r.sort s) then Err (misfit r s) else r.term s

abbrev pub form_as : Reading → Scope → Result Formula Refusal
form_as r s = if clashes sort.Formula (r.sort s) then Err (misfit r s) else r.form s

abbrev pub pair_as : Sort → Reading → Sort → Reading → Scope → Result (Tree × Tree) Refusal
pair_as v a w b s = do
  x ← term_as v a s
  y ← term_as w b s
  Ok (x, y)

abbrev pub forms_as : Reading → Reading → Scope → Result (Formula × Formula) Refusal
forms_as a b s = do
  f ← form_as a s
  g ← form_as b s
  Ok (f, g)

-- ---- functions

abbrev pub arity : Function → ℕ
arity function.Get = 2
arity function.Has = 2
arity function.Size = 1
arity function.Sum = 1
arity function.Put = 3
arity function.Del = 2
arity function.Bump = 3
arity function.Held = 1

-- `held` is for programs alone
abbrev pub function_sort : Sight → Function → Option Sort
function_sort g function.Get = Some sort.Number
function_sort g function.Has = Some sort.Number
function_sort g function.Size = Some sort.Number
function_sort g function.Sum = Some sort.Number
function_sort g function.Put = Some sort.Map
function_sort g function.Del = Some sort.Map
function_sort g function.Bump = Some sort.Map
function_sort g function.Held = if g.held then Some sort.Number else None

abbrev pub knows_function : Sight → Function → Bool
knows_function g function.Held = g.held
knows_function g _ = true

-- a function that is not known, or that has another number of arguments
abbrev pub call_fault : Sight → Function → ℕ → ℕ → Option Refusal
call_fault g f line count =
    if knows_function g f
    then (if count == arity f then None else Some (record { line = line; rule = N3 }))
    else Some (record { line = line; rule = N1 })

abbrev pub term_or_missing : Sort → Option Reading → ℕ → Scope → Result Tree Refusal
term_or_missing wanted (Some r) line s = term_as wanted r s
term_or_missing wanted None line s = refuse N3 line

-- the argument at a place, as a term of a sort
abbrev pub argument : Sort → List Reading → ℕ → ℕ → Scope → Result Tree Refusal
argument wanted args at line s = term_or_missing wanted (slice_get args at) line s

-- a map and a number
abbrev pub map_and_key : List Reading → ℕ → Scope → Result (Tree × Tree) Refusal
map_and_key args line s = do
  m ← argument sort.Map args 0 line s
  k ← argument sort.Number args 1 line s
  Ok (m, k)

-- a map and two numbers
abbrev pub map_and_two : List Reading → ℕ → Scope → Result (Tree × Tree × Tree) Refusal
map_and_two args line s = do
  p ← map_and_key args line s
  v ← argument sort.Number args 2 line s
  Ok (p.0, p.1, v)

-- `held` of a name
abbrev pub held_name : Option RawName → ℕ → Result Tree Refusal
held_name (Some named) line = Ok (trees.Name (held_symbol_of named.name))
held_name None line = refuse N6 line

abbrev pub held_term : Option Reading → ℕ → Result Tree Refusal
held_term (Some r) line = held_name r.bare r.line
held_term None line = refuse N3 line

-- a function of arguments of which there are as many as it takes
unfoldable pub applied : Function → List Reading → ℕ → Scope → Result Tree Refusal
applied function.Get args line s = do
  p ← map_and_key args line s
  Ok (trees.Get p.0 p.1)
applied function.Has args line s = do
  p ← map_and_key args line s
  Ok (trees.Has p.0 p.1)
applied function.Size args line s = do
  m ← argument sort.Map args 0 line s
  Ok (trees.Size m)
applied function.Sum args line s = do
  m ← argument sort.Map args 0 line s
  Ok (trees.Sum m)
applied function.Put args line s = do
  p ← map_and_two args line s
  Ok (trees.Put p.0 p.1 p.2)
applied function.Del args line s = do
  p ← map_and_key args line s
  Ok (trees.Del p.0 p.1)
applied function.Bump args line s = do
  p ← map_and_two args line s
  Ok (trees.Bump p.0 p.1 p.2)
applied function.Held args line s = held_term (slice_get args 0) line

unfoldable pub call_term : Function → List Reading → ℕ → Scope → Result Tree Refusal
call_term f args line s = unless (call_fault s.sight f line (length args)) (applied f args line s)

-- ---- operators

abbrev pub operator_sort : Operator → Sort
operator_sort operator.Plus = sort.Number
operator_sort operator.Minus = sort.Number
operator_sort operator.Implies = sort.Formula
operator_sort operator.Or = sort.Formula
operator_sort operator.And = sort.Formula
operator_sort operator.Equal = sort.Formula
operator_sort operator.NotEqual = sort.Formula
operator_sort operator.AtMost = sort.Formula
operator_sort operator.Below = sort.Formula

-- `t != u` is `!(t = u)`
abbrev pub operator_nodes : Operator → ℕ
operator_nodes operator.NotEqual = 2
operator_nodes _ = 1

abbrev pub two_terms : Operator → Tree → Tree → Tree
two_terms operator.Plus x y = trees.Add x y
two_terms _ x y = trees.Sub x y

abbrev pub two_forms : Operator → Formula → Formula → Formula
two_forms operator.Implies f g = trees.Imp f g
two_forms operator.Or f g = trees.Or f g
two_forms _ f g = trees.And f g

abbrev pub compared : Operator → Tree → Tree → Formula
compared operator.AtMost x y = trees.Le x y
compared operator.Below x y = trees.Lt x y
compared operator.NotEqual x y = trees.Not (trees.Eq x y)
compared _ x y = trees.Eq x y

abbrev pub joins_forms : Operator → Bool
joins_forms operator.Implies = true
joins_forms operator.Or = true
joins_forms operator.And = true
joins_forms _ = false

-- ---- expressions

abbrev pub Kind : Type 0
Kind = ℕ → Reading

unfoldable pub all_nodes : List Reading → ℕ
all_nodes [] = 0
all_nodes (r ∷ rs) = r.nodes + all_nodes rs

abbrev pub or_none : Option Reading → ℕ
or_none (Some r) = r.nodes
or_none None = 0

-- the nodes of the argument at a place
abbrev pub nodes_at : List Reading → ℕ → ℕ
nodes_at rs at = or_none (slice_get rs at)

-- the nodes of a call whose arguments have so many; `held` of a name is one node
abbrev pub counted_call : Function → ℕ → ℕ
counted_call function.Held n = 1
counted_call _ n = 1 + n

abbrev pub call_nodes : Function → List Reading → ℕ
call_nodes f args = counted_call f (all_nodes args)

-- the nodes of a kind as a tree; `-t` is `0 - t`
abbrev pub nodes_in : RawExprKind-F Kind Reading → ℕ
nodes_in (RawExprKind-F.Number n) = 1
nodes_in (RawExprKind-F.Name named) = 1
nodes_in (RawExprKind-F.Param line named) = 1
nodes_in RawExprKind-F.Nil = 1
nodes_in (RawExprKind-F.Bracketed e) = e.nodes
nodes_in (RawExprKind-F.Special word line) = 1
nodes_in (RawExprKind-F.Call f line args) = call_nodes f args
nodes_in (RawExprKind-F.Not e) = 1 + e.nodes
nodes_in (RawExprKind-F.Minus e) = 2 + e.nodes
nodes_in (RawExprKind-F.Times n e) = 1 + e.nodes
nodes_in (RawExprKind-F.Two op a b) = operator_nodes op + a.nodes + b.nodes

-- the name that a kind is
abbrev pub bare_in : RawExprKind-F Kind Reading → Option RawName
bare_in (RawExprKind-F.Name named) = Some named
bare_in (RawExprKind-F.Bracketed e) = e.bare
bare_in _ = None

abbrev pub sort_in : RawExprKind-F Kind Reading → Scope → Option Sort
sort_in (RawExprKind-F.Number n) s = Some sort.Number
sort_in (RawExprKind-F.Name named) s = name_sort s named.name
sort_in (RawExprKind-F.Param line named) s = if knows_params s.claim then Some sort.Number else None
sort_in RawExprKind-F.Nil s = Some sort.Map
sort_in (RawExprKind-F.Bracketed e) s = e.sort s
sort_in (RawExprKind-F.Special word line) s = if knows_special s.sight word then Some sort.Number else None
sort_in (RawExprKind-F.Call f line args) s = function_sort s.sight f
sort_in (RawExprKind-F.Not e) s = Some sort.Formula
sort_in (RawExprKind-F.Minus e) s = Some sort.Number
sort_in (RawExprKind-F.Times n e) s = Some sort.Number
sort_in (RawExprKind-F.Two op a b) s = Some (operator_sort op)

abbrev pub if_unknown : Option Sort → ℕ → Option Refusal
if_unknown None line = Some (record { line = line; rule = N1 })
if_unknown (Some x) line = None

abbrev pub opening_in : RawExprKind-F Kind Reading → Scope → Option Refusal
opening_in (RawExprKind-F.Name named) s = if_unknown (name_sort s named.name) named.line
opening_in (RawExprKind-F.Param line named) s = if knows_params s.claim then None else Some (record { line = line; rule = N1 })
opening_in (RawExprKind-F.Special word line) s = if knows_special s.sight word then None else Some (record { line = line; rule = N1 })
opening_in (RawExprKind-F.Call f line args) s = call_fault s.sight f line (length args)
opening_in (RawExprKind-F.Two op a b) s = a.opening s
opening_in (RawExprKind-F.Number n) s = None
opening_in RawExprKind-F.Nil s = None
opening_in (RawExprKind-F.Bracketed e) s = None
opening_in (RawExprKind-F.Not e) s = None
opening_in (RawExprKind-F.Minus e) s = None
opening_in (RawExprKind-F.Times n e) s = None

abbrev pub term_in : RawExprKind-F Kind Reading → ℕ → Scope → Result Tree Refusal
term_in (RawExprKind-F.Number n) at s = Ok (trees.Lit n)
term_in (RawExprKind-F.Name named) at s = do
  x ← known_symbol s named
  Ok (trees.Name x)
term_in (RawExprKind-F.Param line named) at s = do
  x ← param_symbol s line named
  Ok (trees.Name x)
term_in RawExprKind-F.Nil at s = Ok trees.Nil
term_in (RawExprKind-F.Bracketed e) at s = e.term s
term_in (RawExprKind-F.Special word line) at s = do
  x ← word_symbol s word line
  Ok (trees.Name x)
term_in (RawExprKind-F.Call f line args) at s = call_term f args line s
term_in (RawExprKind-F.Minus e) at s = do
  x ← term_as sort.Number e s
  Ok (trees.Sub (trees.Lit (pos 0)) x)
term_in (RawExprKind-F.Times n e) at s = do
  x ← term_as sort.Number e s
  Ok (trees.Scale n x)
term_in (RawExprKind-F.Two op a b) at s = do
  p ← pair_as sort.Number a sort.Number b s
  Ok (two_terms op p.0 p.1)
term_in (RawExprKind-F.Not e) at s = refuse N6 at

abbrev pub two_in : Bool → Operator → Reading → Reading → Scope → Result Formula Refusal
two_in true op a b s = do
  p ← forms_as a b s
  Ok (two_forms op p.0 p.1)
two_in false op a b s = do
  p ← pair_as sort.Number a sort.Number b s
  Ok (compared op p.0 p.1)

-- a name or word is no formula, and comes here where it is unknown
abbrev pub form_in : RawExprKind-F Kind Reading → ℕ → Scope → Result Formula Refusal
form_in (RawExprKind-F.Not e) at s = do
  f ← form_as e s
  Ok (trees.Not f)
form_in (RawExprKind-F.Bracketed e) at s = e.form s
form_in (RawExprKind-F.Two op a b) at s = two_in (joins_forms op) op a b s
form_in (RawExprKind-F.Name named) at s = refuse N1 named.line
form_in (RawExprKind-F.Param line named) at s = refuse N1 line
form_in (RawExprKind-F.Special word line) at s = refuse N1 line
form_in (RawExprKind-F.Call f line args) at s = refuse N1 line
form_in (RawExprKind-F.Number n) at s = refuse N6 at
form_in RawExprKind-F.Nil at s = refuse N6 at
form_in (RawExprKind-F.Minus e) at s = refuse N6 at
form_in (RawExprKind-F.Times n e) at s = refuse N6 at

abbrev pub kind_reading : RawExprKind-F Kind Reading → Kind
kind_reading k line = record { line = line; nodes = nodes_in k; bare = bare_in k; sort = sort_in k; opening = opening_in k; term = term_in k line; form = form_in k line }

abbrev pub expr_reading : RawExpr-F Kind Reading → Reading
expr_reading e = e.what e.line

abbrev pub reading : RawExpr → Reading
reading = fold-RawExpr Kind Reading kind_reading expr_reading

-- ---- expressions that stand by themselves

-- a term or formula of more nodes than a store has
abbrev pub too_large : Reading → Option Refusal
too_large r = if nat_lt most_nodes r.nodes then Some (record { line = r.line; rule = N5 }) else None

-- the rule that their first lexeme breaks, but for N6
abbrev pub start_fault : Reading → Scope → Option Refusal
start_fault r s = first (r.opening s) (too_large r)

abbrev pub term_of : Sort → RawExpr → Scope → Result Tree Refusal
term_of wanted e s = unless (start_fault (reading e) s) (term_as wanted (reading e) s)

abbrev pub form_of : RawExpr → Scope → Result Formula Refusal
form_of e s = unless (start_fault (reading e) s) (form_as (reading e) s)
