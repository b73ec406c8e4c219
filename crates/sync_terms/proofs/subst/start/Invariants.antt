use Rattle.std.proofs.Common.{◌≡◌, ℕ, drop, nat_eq}
use Rattle.std.specs.HashMap.{get_by}
use Rattle.sync_terms.specs.declared.nodes.Sym.{Sym}
use Rattle.sync_terms.specs.Substitution.{term_of}
use Rattle.sync_terms.proofs.subst.start.Given as goal

abbrev pub invariant-loop-i : goal.invariant-loop-i
invariant-loop-i l = (x : ℕ) → get_by (λ (k : Sym). nat_eq x k.0) l.symbols ≡ term_of (drop l.i l.map) x
