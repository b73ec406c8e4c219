-- The first terminal as a number: 0 for none, 1 for a name, 2 for a number, and one number for each sign. Sets of them.
use Rattle.std.specs.Prelude.{ℕ, suc, eqb, Bool, true, false, not, ◌&&◌, ◌||◌, List, [], ◌∷◌}
use Rattle.sync_lex.specs.declared.signs.Sign.{Sign}
use Rattle.sync_lex.specs.contracts.signs.Sign.{the_type}
use Rattle.sync_lex.specs.declared.terminals.TerminalKind.{TerminalKind}
use Rattle.sync_lex.specs.declared.terminals.TerminalKind.TheVariants as what
use Rattle.sync_lex.specs.declared.terminals.Terminal.{Terminal}
use denote.Enum.Declared.{tag_of}

abbrev pub code : Sign → ℕ
code s = suc (suc (suc (tag_of the_type s)))

abbrev pub front_of : TerminalKind → ℕ
front_of (what.Name n strategy) = 1
front_of (what.Number n) = 2
front_of (what.Sign s) = code s

abbrev pub front : List Terminal → ℕ
front [] = 0
front (w ∷ ws) = front_of w.what

abbrev pub Set : Type 0
Set = ℕ → Bool

abbrev pub any : Set
any c = true

abbrev pub only : ℕ → Set
only k c = eqb c k

abbrev pub both : Set → Set → Set
both p q c = p c || q c

abbrev pub others : Set → Set
others p c = not (p c)

-- one of these
abbrev pub among : List ℕ → Set
among [] c = false
among (k ∷ ks) c = eqb c k || among ks c

-- all of them are in the set
abbrev pub all_of : Set → List ℕ → Bool
all_of q [] = true
all_of q (k ∷ ks) = q k && all_of q ks
