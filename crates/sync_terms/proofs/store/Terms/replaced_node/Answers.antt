use Rattle.std.proofs.Common.{sym, ap, ◌∙◌, IsSome}
use Rattle.std.specs.Option.{option_map_or}
use Rattle.sync_terms.specs.Replacing.{term_at, new_term, under_way}
use Rattle.sync_terms.specs.Stored.{tree, shape}
use Rattle.sync_terms.specs.Trees.{Name, replaced}
use Rattle.sync_terms.proofs.Steps.{EachChild-more, Becomes, Becomes-from_done, shape-renamed}
use Rattle.sync_terms.proofs.store.Terms.replaced_node.Goals as goal

pub term-requires : goal.term-requires
term-requires c = c.requires.done.symbols c.in-Name.symbol c.in-Some.field-0.now (sym c.in-Some.ensures.value)

pub returns-in-Some-clause-shape : goal.returns-in-Some-clause-shape
unfolding shape replaced
returns-in-Some-clause-shape c =
    let s = c.args.self.now in
    rw c.in-Name.is (c.term.ensures.value ∙ ap (λ o. option_map_or (tree s) o (Name c.in-Name.symbol.0)) c.in-Some.ensures.value)

pub returns-in-None-clause-shape : goal.returns-in-None-clause-shape
unfolding shape replaced
returns-in-None-clause-shape c =
    let s = c.args.self.now in
    rw c.in-Name.is (ap (λ o. option_map_or (tree s) o (Name c.in-Name.symbol.0)) c.in-None.ensures.value)

pub returns-in_default : goal.returns-in_default
returns-in_default c =
    let s = c.args.self.now in
    let d = c.args.done.now in
    let becomes = EachChild-more (λ c. IsSome (term_at d c)) (Becomes s (new_term d) (under_way s d)) (Becomes-from_done s d c.requires.done) c.args.node c.requires.present in
    let made = shape-renamed s (new_term d) (under_way s d) c.args.node becomes c.in_default.not-Name in
    rw c.renamed.ensures (record { children = made.0; shape = made.1 })
