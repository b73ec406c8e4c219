use Rattle.std.proofs.Common.{◌≡◌, ◌<◌, ◌≤◌, length, sym, ◌∙◌, subst, arith}
use Rattle.std.proofs.lemmas.List.{get_or_read}
use Rattle.sync_terms.specs.Stored.{IsForm, formula}
use Rattle.sync_terms.specs.Trees.{formula_size}
use Rattle.sync_terms.specs.Trees.{most_nodes}
use Rattle.sync_terms.proofs.Reading.{size-form, size-form-le, length-form_sizes, formula_size-some}
use Rattle.sync_terms.proofs.store.Terms.size_of.Goals as goal

pub index-requires : goal.index-requires
index-requires c =
    let here = subst (λ s. IsForm s c.args.id) (sym c.self.view_is) c.requires in
    omega (arith, length-form_sizes _ _ _ c.self.invariant, c.self.inside.form_sizes.ok.0)

-- what is read is the size of the tree
read : (c : goal.After-from) → c.from.result ≡ formula_size (formula c.args.self.now c.args.id)
read c =
    let here = subst (λ s. IsForm s c.args.id) (sym c.self.view_is) c.requires in
    let within : c.args.id.0 < length c.self.inside.form_sizes.items = omega (arith, length-form_sizes _ _ _ c.self.invariant) in
    let size = size-form _ _ _ c.self.invariant c.args.id here in
    subst (λ s. c.from.result ≡ formula_size (formula s c.args.id)) c.self.view_is (c.from.ensures ∙ get_or_read c.self.inside.form_sizes.items c.args.id.0 _ within c.index.ensures 0 ∙ size)

pub returns-clause-size : goal.returns-clause-size
returns-clause-size c = read c

pub returns-clause-some : goal.returns-clause-some
returns-clause-some c = subst (λ n. 1 ≤ n) (sym (read c)) (formula_size-some (formula c.args.self.now c.args.id))

pub returns-clause-bound : goal.returns-clause-bound
returns-clause-bound c =
    let here = subst (λ s. IsForm s c.args.id) (sym c.self.view_is) c.requires in
    let bound = subst (λ s. formula_size (formula s c.args.id) ≤ most_nodes) c.self.view_is (size-form-le _ _ _ c.self.invariant c.args.id here) in
    subst (λ n. n ≤ most_nodes) (sym (read c)) bound
