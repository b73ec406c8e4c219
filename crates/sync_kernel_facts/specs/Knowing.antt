-- What is known of a fact.
use Rattle.std.specs.Prelude.{Bool, true, false, List, [], ◌∷◌}
use Rattle.sync_terms.specs.declared.nodes.Sym.{Sym}
use Rattle.sync_kernel_facts.specs.declared.branches.Said.{Said}
use Rattle.sync_kernel_facts.specs.declared.branches.Known.{Known}

abbrev pub are_none : List Sym → Bool
are_none [] = true
are_none (p ∷ ps) = false

abbrev pub known_of : Said → Known
known_of x = record { says = x.says; plain = are_none x.params }
