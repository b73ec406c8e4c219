-- The chain of a level, as its loop begins and where its first item stops.
use Rattle.std.proofs.Common.{◌≡◌, ℕ, List, Option, Ok, refl, sym, ◌∙◌}
use Rattle.sync_lex.specs.declared.terminals.Terminal.{Terminal}
use Rattle.sync_parse_exprs.specs.declared.expressions.RawExprKind.{RawExprKind}
use Rattle.sync_parse_exprs.specs.declared.expressions.Operator.{Operator}
use Rattle.sync_parse_exprs.specs.declared.expr_reader.Level.{Level}
use Rattle.sync_parse_exprs.specs.declared.expr_reader.Level.TheVariants as level
use Rattle.sync_parse_exprs.specs.declared.faults.Halt.{Halt}
use Rattle.sync_parse_exprs.specs.declared.faults.Halt.TheVariants as halt
use Rattle.sync_parse_exprs.specs.Faults.{Halts}
use Rattle.sync_parse_exprs.specs.Terminals.{Reader, longest_chain, first_line}
use Rattle.sync_parse_exprs.specs.Expressions.{chain, chained, sums, ands, ors, operator_at, item_at, level_at}

-- how far a level is from the items of sums
abbrev pub rank : Level → ℕ
rank level.Sums = 0
rank level.Ands = 1
rank level.Ors = 2

pub level_is : (l : Level) (inner : Reader RawExprKind) (left : ℕ) (ts : List Terminal) → level_at l inner left ts ≡ chained (operator_at l) (item_at l inner left) ts
unfolding sums ands ors
level_is level.Sums inner left ts = refl
level_is level.Ands inner left ts = refl
level_is level.Ors inner left ts = refl

begins : (op : Terminal → Option Operator) (item : Reader RawExprKind) (ts rest : List Terminal) (held : RawExprKind) (line : ℕ) → item ts ≡ Ok (held, rest) → line ≡ first_line ts
    → chain op item line longest_chain held rest ≡ chained op item ts
begins op item ts rest held line read line-is = rw (read, line-is) refl

pub level_begins : (l : Level) (inner : Reader RawExprKind) (left : ℕ) (ts rest : List Terminal) (held : RawExprKind) (line : ℕ)
    → item_at l inner left ts ≡ Ok (held, rest) → line ≡ first_line ts
    → chain (operator_at l) (item_at l inner left) line longest_chain held rest ≡ level_at l inner left ts
level_begins l inner left ts rest held line read line-is =
    begins (operator_at l) (item_at l inner left) ts rest held line read line-is ∙ sym (level_is l inner left ts)

pub level_stops : (h : Halt) (l : Level) (inner : Reader RawExprKind) (left : ℕ) (ts : List Terminal) → Halts h (item_at l inner left ts) → Halts h (level_at l inner left ts)
level_stops halt.Memory l inner left ts stops = tt
level_stops (halt.Fault f) l inner left ts stops = level_is l inner left ts ∙ rw stops refl
