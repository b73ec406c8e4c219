use Rattle.sync_terms.proofs.Reading.{AreInOrder-empty}
use Rattle.sync_terms.proofs.store.Terms.new.Goals as goal

pub invariant_of-result : goal.invariant_of-result
invariant_of-result c = rw (c.new.ensures.empty, c.new-3.ensures.empty, c.new-2.ensures.items, c.new-4.ensures.items) AreInOrder-empty
