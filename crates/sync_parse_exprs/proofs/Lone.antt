-- A name or a number that no operator follows is read alike at each level.
use Rattle.std.proofs.Common.{◌≡◌, ◌≢◌, ℕ, zero, suc, Bool, true, false, cond, ne_eqb, List, ◌∷◌, Option, None, Some, Ok, refl, sym, ap, ◌∙◌}
use Rattle.std.specs.Prelude.{is_some}
use Rattle.sync_base.specs.declared.strategies.Strategy.{Strategy}
use Rattle.sync_lex.specs.declared.signs.Sign.TheVariants as sign
use Rattle.sync_lex.specs.declared.terminals.TerminalKind.TheVariants as what
use Rattle.sync_lex.specs.declared.terminals.Terminal.{Terminal}
use Rattle.sync_lex.specs.Terminals.{is_sign}
use Rattle.sync_parse_exprs.specs.declared.expressions.RawExprKind.{RawExprKind}
use Rattle.sync_parse_exprs.specs.declared.expressions.RawExprKind.TheVariants as kind
use Rattle.sync_parse_exprs.specs.declared.expressions.Operator.{Operator}
use Rattle.sync_parse_exprs.specs.Terminals.{Reader, first_line, longest_chain}
use Rattle.sync_parse_exprs.specs.Expressions.{signed, factor_of, operand, unary, product, chain, sum_of, relation_of, related, and_of, or_of, sums, relation, ands, ors, implies}

chain_stops : (op : Terminal → Option Operator) (item : Reader RawExprKind) (line more : ℕ) (held : RawExprKind) (z : Terminal) (ws : List Terminal) → op z ≡ None
    → chain op item line more held (z ∷ ws) ≡ Ok (held, z ∷ ws)
unfolding chain
chain_stops op item line zero held z ws e = rw e refl
chain_stops op item line (suc more) held z ws e = rw (chain, e) refl

unsigned : (inner : Reader RawExprKind) (left run : ℕ) (w : Terminal) (ws : List Terminal) → is_sign w sign.Bang ≡ false → is_sign w sign.Minus ≡ false
    → unary inner left run (w ∷ ws) ≡ operand inner left (w ∷ ws)
unfolding unary
unsigned inner left zero w ws bang minus = rw (bang, minus) refl
unsigned inner left (suc run) w ws bang minus = rw (bang, minus) refl

related_stops : (item : Reader RawExprKind) (line : ℕ) (held : RawExprKind) (z : Terminal) (ws : List Terminal) → relation_of z ≡ None → related item line held (z ∷ ws) ≡ Ok (held, z ∷ ws)
related_stops item line held z ws e = rw (related, e) refl

no_operator : (o : Option Operator) → is_some o ≡ false → o ≡ None
no_operator None e = refl
no_operator (Some x) e = absurd cc

module _ (inner : Reader RawExprKind) (left : ℕ) (shallow : left ≢ 0) (w z : Terminal) (ws : List Terminal) (star : is_sign z sign.Star ≡ false) (no_sum : sum_of z ≡ None) where
  product_is : (held : RawExprKind) → is_sign w sign.Bang ≡ false → is_sign w sign.Minus ≡ false → operand inner left (w ∷ z ∷ ws) ≡ Ok (held, z ∷ ws)
      → product inner left (w ∷ z ∷ ws) ≡ Ok (held, z ∷ ws)
  unfolding product factor_of
  product_is held bang minus read = rw star (unsigned inner left longest_chain w (z ∷ ws) bang minus ∙ read)

  sums_is : (held : RawExprKind) → product inner left (w ∷ z ∷ ws) ≡ Ok (held, z ∷ ws) → sums inner left (w ∷ z ∷ ws) ≡ Ok (held, z ∷ ws)
  unfolding sums
  sums_is held read = rw read (chain_stops sum_of (product inner left) w.line longest_chain held z ws no_sum)

  name_read : (n : ℕ) (s : Option Strategy) → w.what ≡ what.Name n s → operand inner left (w ∷ z ∷ ws) ≡ Ok (kind.Name (record { name = n; line = w.line }), z ∷ ws)
  unfolding operand
  name_read n s said = rw (said, ne_eqb left 0 shallow) refl

  number_read : (n : ℕ) → w.what ≡ what.Number n → operand inner left (w ∷ z ∷ ws) ≡ Ok (kind.Number (signed n), z ∷ ws)
  unfolding operand
  number_read n said = rw (said, ne_eqb left 0 shallow) refl

  name_sum : (n : ℕ) (s : Option Strategy) → w.what ≡ what.Name n s → sums inner left (w ∷ z ∷ ws) ≡ Ok (kind.Name (record { name = n; line = w.line }), z ∷ ws)
  name_sum n s said = sums_is _ (product_is _ (rw said refl) (rw said refl) (name_read n s said))

  number_sum : (n : ℕ) → w.what ≡ what.Number n → sums inner left (w ∷ z ∷ ws) ≡ Ok (kind.Number (signed n), z ∷ ws)
  number_sum n said = sums_is _ (product_is _ (rw said refl) (rw said refl) (number_read n said))

module _ (inner : Reader RawExprKind) (left : ℕ) (ts rest : List Terminal) (w z : Terminal) (ws : List Terminal) where
  pub name_is_sum : (n : ℕ) (s : Option Strategy) → ts ≡ w ∷ rest → rest ≡ z ∷ ws → w.what ≡ what.Name n s → left ≢ 0 → is_sign z sign.Star ≡ false → is_some (sum_of z) ≡ false
      → sums inner left ts ≡ Ok (kind.Name (record { name = n; line = w.line }), rest)
  name_is_sum n s front behind said shallow star no_sum = rw (front, behind) (name_sum inner left shallow w z ws star (no_operator (sum_of z) no_sum) n s said)

  pub number_is_sum : (n : ℕ) → ts ≡ w ∷ rest → rest ≡ z ∷ ws → w.what ≡ what.Number n → left ≢ 0 → is_sign z sign.Star ≡ false → is_some (sum_of z) ≡ false
      → sums inner left ts ≡ Ok (kind.Number (signed n), rest)
  number_is_sum n front behind said shallow star no_sum = rw (front, behind) (number_sum inner left shallow w z ws star (no_operator (sum_of z) no_sum) n said)

module _ (inner : Reader RawExprKind) (left : ℕ) (ts : List Terminal) (held : RawExprKind) (z : Terminal) (ws : List Terminal) where
  relation_is : sums inner left ts ≡ Ok (held, z ∷ ws) → relation_of z ≡ None → relation inner left ts ≡ Ok (held, z ∷ ws)
  unfolding relation
  relation_is read none = rw read (related_stops (sums inner left) (first_line ts) held z ws none)

  ands_is : relation inner left ts ≡ Ok (held, z ∷ ws) → is_sign z sign.And ≡ false → ands inner left ts ≡ Ok (held, z ∷ ws)
  unfolding ands
  ands_is read other = rw read (chain_stops and_of (relation inner left) (first_line ts) longest_chain held z ws (rw other refl))

  ors_is : ands inner left ts ≡ Ok (held, z ∷ ws) → is_sign z sign.Or ≡ false → ors inner left ts ≡ Ok (held, z ∷ ws)
  unfolding ors
  ors_is read other = rw read (chain_stops or_of (ands inner left) (first_line ts) longest_chain held z ws (rw other refl))

  implies_is : (run : ℕ) → ors inner left ts ≡ Ok (held, z ∷ ws) → is_sign z sign.Implies ≡ false → implies inner left run ts ≡ Ok (held, z ∷ ws)
  unfolding implies
  implies_is zero read other = rw read (rw other refl)
  implies_is (suc run) read other = rw read (rw other refl)

  all_is : (run : ℕ) → sums inner left ts ≡ Ok (held, z ∷ ws) → relation_of z ≡ None → is_sign z sign.And ≡ false → is_sign z sign.Or ≡ false → is_sign z sign.Implies ≡ false
      → implies inner left run ts ≡ Ok (held, z ∷ ws)
  all_is run read none no_and no_or no_implies = implies_is run (ors_is (ands_is (relation_is read none) no_and) no_or) no_implies

pub sum_is_all : (inner : Reader RawExprKind) (left run : ℕ) (ts rest : List Terminal) (held : RawExprKind) (z : Terminal) (ws : List Terminal) → rest ≡ z ∷ ws → sums inner left ts ≡ Ok (held, rest)
    → relation_of z ≡ None → is_sign z sign.And ≡ false → is_sign z sign.Or ≡ false → is_sign z sign.Implies ≡ false → implies inner left run ts ≡ Ok (held, rest)
sum_is_all inner left run ts rest held z ws behind read none no_and no_or no_implies =
    rw behind (all_is inner left ts held z ws run (rw behind at read) none no_and no_or no_implies)
