use Rattle.std.proofs.Common.{◌≡◌, ◌∙◌, true, false, sym, ap}
use Rattle.std.specs.Option.{is_some}
use Rattle.sync_terms.specs.Proofs.{titles_of}
use Rattle.sync_induct.specs.Titles.{titled, first_at}
use Rattle.sync_induct.proofs.Judging.{large-with_proof, large-without_proof}
use Rattle.sync_induct.proofs.duties.too_large.Goals as goal

pub returns-then-contains_key : goal.returns-then-contains_key
returns-then-contains_key c = λ s d same large.
    let ps = c.args.book.proofs.now in
    let o = c.args.obligation in
    let there : is_some (first_at (titled o) 0 (titles_of ps)) ≡ true = sym (ap is_some (c.requires (titled o))) ∙ (rw c.new-title.ensures at (sym c.contains_key.ensures ∙ c.if-contains_key.true)) in
    rw c.refused.ensures (large-with_proof s ps d o same large there)

pub returns-else-contains_key : goal.returns-else-contains_key
returns-else-contains_key c = λ s d same large.
    let ps = c.args.book.proofs.now in
    let o = c.args.obligation in
    let none : is_some (first_at (titled o) 0 (titles_of ps)) ≡ false = sym (ap is_some (c.requires (titled o))) ∙ (rw c.new-title.ensures at (sym c.contains_key.ensures ∙ c.if-contains_key.false)) in
    rw c.refused-else-contains_key.ensures (large-without_proof s ps d o same none)
