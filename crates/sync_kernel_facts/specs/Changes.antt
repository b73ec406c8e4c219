-- A change of a map over a store.
use Rattle.sync_terms.specs.Trees.{Formula}
use Rattle.sync_terms.specs.Stored.{Stored, tree, IsTerm}
use Rattle.sync_kernel_facts.specs.Lemmas.{changed_read}
use Rattle.sync_kernel_facts.specs.declared.lemmas.Change.{Change}

abbrev pub IsChange : Stored → Change → Type 0
IsChange s c = IsTerm s c.map × IsTerm s c.key × IsTerm s c.inner × IsTerm s c.at

-- what the map has at the key that is read, where this holds at the key of the change
abbrev pub change_form : Stored → Change → Formula → Formula
change_form s c change = changed_read (tree s c.map) (tree s c.key) (tree s c.inner) (tree s c.at) change
