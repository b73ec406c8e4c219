use Rattle.sync_check.specs.Texts.{text_tree}
use Rattle.sync_check.proofs.Accepting.{text_means, is_listed}
use Rattle.sync_check.proofs.listing.list.Goals as goal

pub returns-clause-means : goal.returns-clause-means
returns-clause-means c =
    let t = text_tree c.in_ok-text.text in
    is_listed c.args.bytes.now t c.listed.result (text_means c.args.bytes.now t c.in_ok-text.ensures.exact) c.in_ok-text.ensures.formed c.listed.ensures
