-- What a step says of a map, as a formula.
use Rattle.sync_terms.specs.declared.nodes.TermId.{TermId}
use Rattle.sync_terms.specs.Stored.{Stored, IsTerm}
use Rattle.sync_terms.specs.Trees.{Tree, Formula}
use Rattle.sync_kernel_facts.specs.Lemmas.{cong_fact, read_fact, size_fact, total_fact}
use Rattle.sync_kernel.specs.declared.steps.MapFact.{MapFact}
use Rattle.sync_kernel.specs.declared.steps.MapFact.TheVariants.{Read, Size, Total, Cong}

-- what is said, its ids being these trees
abbrev pub map_form : (TermId → Tree) → MapFact → Formula
map_form t (Read map key) = read_fact (t map) (t key)
map_form t (Size map key) = size_fact (t map) (t key)
map_form t (Total map key) = total_fact (t map) (t key)
map_form t (Cong map left right) = cong_fact (t map) (t left) (t right)

-- its terms are of the store
abbrev pub HasMapIds : Stored → MapFact → Type 0
HasMapIds s (Read map key) = IsTerm s map × IsTerm s key
HasMapIds s (Size map key) = IsTerm s map × IsTerm s key
HasMapIds s (Total map key) = IsTerm s map × IsTerm s key
HasMapIds s (Cong map left right) = IsTerm s map × IsTerm s left × IsTerm s right
