-- The rows of local statements, of indices and of cells.
use Rattle.std.specs.Prelude.{◌^◌, ℕ, suc, ◌+◌, ◌-◌, ℤ, pos, Bool, false, nat_eq, nat_lt, List, [], ◌∷◌, ◌++◌, drop, Option, if◌then◌else◌}
use Rattle.sync_base.specs.Outcome.{◌>>=◌}
use Rattle.sync_base.specs.declared.stops.Rule.TheVariants.{A5, T7}
use Rattle.sync_terms.specs.Trees.{Tree, Lit, Name, Add, Sub, Scale, Formula, Le, Lt, Eq, Not, And}
use Rattle.sync_thread.specs.declared.operands.Opd.{Opd}
use Rattle.sync_thread.specs.declared.operands.Opd.TheVariants.{Number, Local}
use Rattle.sync_thread.specs.declared.operands.Rel.{Rel}
use Rattle.sync_thread.specs.declared.operands.Rel.TheVariants as rel
use Rattle.sync_thread.specs.declared.operands.Cond.{Cond}
use Rattle.sync_thread.specs.declared.operands.Calc.{Calc}
use Rattle.sync_thread.specs.declared.operands.Calc.TheVariants.{Plain, Plus, Minus, Times, Over, Modulo}
use Rattle.sync_join.specs.Shards.{perm}
use Rattle.sync_thread.specs.Programs.{ScriptTree, IndexTree}
use Rattle.sync_thread.specs.Arrays.{Span}
use Rattle.sync_terms.specs.Symbols.{name_symbol}
use Rattle.sync_thread_machine.specs.ProgramSymbols.{wrap_symbol}
use Rattle.sync_typing.specs.Environments.{Env, TokenTree, stands, Outcome, token, take_in, use_up, bind, assign, tell, top}
use Rattle.sync_typing.specs.Dues.{Due, Owes, Alone, Spare, row, at_hand_due, asked_dues}

abbrev pub operand : Env → Opd → Tree
operand e (Number n) = Lit (pos n)
operand e (Local x) = stands e (name_symbol x)

abbrev pub condition : Env → Cond → Formula
condition e c = of c.rel where
  of : Rel → Formula
  of rel.Eq = Eq (operand e c.left) (operand e c.right)
  of rel.Ne = Not (Eq (operand e c.left) (operand e c.right))
  of rel.Lt = Lt (operand e c.left) (operand e c.right)
  of rel.Le = Le (operand e c.left) (operand e c.right)

-- ---- arithmetic of words

-- so many times 2^64
abbrev pub turns : Tree → Tree
turns wrap = Scale (pos (2 ^ 64)) wrap

abbrev pub added : Tree → Tree → Tree → Tree → Formula
added x a b wrap = Eq x (Sub (Add a b) (turns wrap))

abbrev pub taken_off : Tree → Tree → Tree → Tree → Formula
taken_off x a b wrap = Eq x (Add (Sub a b) (turns wrap))

-- what is known of x after `x = ..`; of `x = a` nothing
abbrev pub calc_fact : Env → Calc → Tree → Tree → Formula
calc_fact e (Plain a) x w = Eq x (operand e a)
calc_fact e (Plus a b) x w = added x (operand e a) (operand e b) w
calc_fact e (Minus a b) x w = taken_off x (operand e a) (operand e b) w
calc_fact e (Times a n) x w = Eq x (Sub (Scale (pos n) (operand e a)) (turns w))
calc_fact e (Over a n) x w = Eq (operand e a) (Add (Scale (pos n) x) w)
calc_fact e (Modulo a n) x w = And (Eq (operand e a) (Add (Scale (pos n) w) x)) (Le x (Sub (Lit (pos n)) (Lit (pos 1))))

-- the greatest `wrap`
abbrev pub greatest_wrap : Calc → ℤ
greatest_wrap (Plain a) = pos 0
greatest_wrap (Plus a b) = pos 1
greatest_wrap (Minus a b) = pos 1
greatest_wrap (Times a n) = pos (n - 1)
greatest_wrap (Over a n) = pos (n - 1)
greatest_wrap (Modulo a n) = top

-- `x = ..` with a new `wrap` and a new value, which are two new symbols
abbrev pub compute : ℕ → ℕ → Calc → Option ℕ → Env → Outcome Env
compute line x calc label e =
    bind line wrap_symbol (Name e.fresh) (greatest_wrap calc) e
    >>= tell line label (calc_fact e calc (Name (suc e.fresh)) (Name e.fresh))
    >>= (λ e2. assign line x (Name (suc e.fresh)) (use_up 2 e2))

abbrev pub set_row : ℕ → ℕ → Calc → Option ℕ → Env → Outcome Env
set_row line x (Plain a) label e = assign line x (operand e a) e
set_row line x (Plus a b) label e = compute line x (Plus a b) label e
set_row line x (Minus a b) label e = compute line x (Minus a b) label e
set_row line x (Times a n) label e = compute line x (Times a n) label e
set_row line x (Over a n) label e = compute line x (Over a n) label e
set_row line x (Modulo a n) label e = compute line x (Modulo a n) label e

-- ---- indices

-- a literal below the length
abbrev pub is_below : Opd → ℕ → Bool
is_below (Number n) len = nat_lt n len
is_below (Local x) len = false

abbrev pub in_range : Env → IndexTree → ℕ → Formula
in_range e i len = Lt (operand e i.operand) (Lit (pos len))

abbrev pub index_dues : Env → IndexTree → ℕ → List Due
index_dues e i len = if is_below i.operand len then [] else Alone A5 (in_range e i len) i.scripts ∷ []

-- the index's scripts that it has not used; `i < length` is no equation, so it is never clear
abbrev pub index_spare : IndexTree → ℕ → Due
index_spare i len = Spare (if is_below i.operand len then i.scripts else drop 1 i.scripts)

-- ---- cells

-- the number of a cell's element: a number for a literal index, else a sum
abbrev pub cell_term : Env → Span → Opd → Tree
cell_term e c (Number n) = Lit (pos (c.base + n))
cell_term e c (Local x) = Add (Lit (pos c.base)) (stands e (name_symbol x))

abbrev pub is_perm : ℕ → Bool
is_perm f = nat_eq f perm

-- the permission of an element that is read or written
abbrev pub cell_dues : Env → Span → IndexTree → ℕ → List ScriptTree → List Due
cell_dues e c i n ss =
    at_hand_due e [] [] i.scripts ∷ at_hand_due e [] [] ss ∷ asked_dues e [] is_perm n ++ index_dues e i c.len
    ++ Owes T7 (Eq (token e n).key (cell_term e c i.operand)) ∷ index_spare i c.len ∷ []

abbrev pub read_row : ℕ → ℕ → Span → IndexTree → ℕ → List ScriptTree → Env → Outcome Env
read_row line x c i n ss e = row e line (cell_dues e c i n ss) ss (assign line x (token e n).value e)

-- a permission with another content
abbrev pub content : TokenTree → Tree → TokenTree
content t v = record { field = t.field; key = t.key; value = v }

abbrev pub write_row : ℕ → Span → IndexTree → Opd → ℕ → List ScriptTree → Env → Outcome Env
write_row line c i a n ss e =
    row e line (cell_dues e c i n ss) ss (take_in line (n ∷ []) ((n, content (token e n) (operand e a)) ∷ []) e)
