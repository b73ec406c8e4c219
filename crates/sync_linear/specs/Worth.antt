-- What a line is worth over a store, when the symbols stand for something.
use Rattle.std.specs.Prelude.{◌≡◌, ℕ, zero, suc, ℤ, pos, ◌+ℤ◌, ◌*ℤ◌, length}
use Rattle.sync_terms.specs.Trees.{Tree}
use Rattle.sync_terms.specs.Values.{Valuation, num}
use Rattle.sync_terms.specs.Stored.{Stored, tree, IsShared}
use Rattle.sync_linear.specs.declared.changes.Change.{Change}
use Rattle.sync_linear.specs.Changes.{changed}
use Rattle.sync_linear.specs.Lines.{Line, times, IsChanged}
use Rattle.sync_linear.specs.Stores.{IsLineOf}

-- the sum of f over the numbers below n
unfoldable pub summed_below : (ℕ → ℤ) → ℕ → ℤ
summed_below f zero = pos 0
summed_below f (suc n) = summed_below f n +ℤ f n

-- the value of a stored term, as many times as it stands in the line
abbrev pub worth_at : Valuation → Stored → Line → ℕ → ℤ
worth_at v s line id = num v (tree s (record { 0 = id })) *ℤ times line.atoms id

-- the line's constant, and what its atoms of the store are worth
abbrev pub worth : Valuation → Stored → Line → ℤ
worth v s line = line.constant +ℤ summed_below (worth_at v s line) (length s.nodes)

-- The line of a term is worth what the term is, and a line that changes changes its worth by the other's, whatever the symbols stand for.
pub record LinesAreWorth : Type 0 where
  pub of_term : (v : Valuation) (s : Stored) (t : Tree) (line : Line) → IsShared s → IsLineOf s t line → worth v s line ≡ num v t
  pub of_change : (v : Valuation) (s : Stored) (how : Change) (old by new : Line) → IsChanged how old by new
      → worth v s new ≡ changed how (worth v s old) (worth v s by)
