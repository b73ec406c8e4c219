use Rattle.std.proofs.Common.{◌∙◌, ◌++◌, ◌∷◌, [], List, ℕ, ap, get_or, take}
use Rattle.sync_terms.specs.declared.nodes.Sym.{Sym}
use Rattle.sync_terms.specs.declared.nodes.TermId.{TermId}
use Rattle.sync_induct.specs.Closing.{field_pairs}
use Rattle.sync_induct.proofs.Substituting.{no-pairs, pairs-more}
use Rattle.sync_induct.proofs.closing.field_pairs.Goals as goal

pub loop-i-init : goal.loop-i-init
loop-i-init c = c.new-pairs.ensures.items ∙ no-pairs

pub loop-i-preserved : goal.loop-i-preserved
loop-i-preserved c =
    let ts = c.args.values.now in
    let i = c.loop-i.i in
    let d : TermId = record { 0 = 0 } in
    c.in_ok-push.ensures.items
    ∙ (ap (λ (ps : List (Sym × TermId)). ps ++ (record { 0 = c.in_ok-place_number.field-0 }, get_or ts i d) ∷ []) c.loop-i.invariant
    ∙ (ap (λ (k : ℕ). field_pairs 0 (take i ts) ++ (record { 0 = k }, get_or ts i d) ∷ []) c.in_ok-place_number.ensures ∙ pairs-more ts i d c.loop-i-test.true))
