use Rattle.std.proofs.Common.{◌≡◌, map, take}
use Rattle.sync_check.specs.Texts.{text_tree}
use Rattle.sync_check.specs.Listing.{obligation_line}
use Rattle.sync_check.proofs.listing.lines_of.Given as goal

abbrev pub invariant-loop-obligation : goal.invariant-loop-obligation
invariant-loop-obligation l = l.lines.items ≡ map (obligation_line (text_tree l.text)) (take l.obligation-index l.obligations)
