use Rattle.std.proofs.Common.{sym, subst}
use Rattle.sync_terms.specs.Stored.{IsTerm, IsShared}
use Rattle.sync_terms.proofs.Reading.{shape-node}
use Rattle.sync_terms.proofs.Sharing.{IsShared-from_kept}
use Rattle.sync_terms.proofs.store.Terms.term.Goals as goal

pub returns-clause-value : goal.returns-clause-value
returns-clause-value c =
    let here = subst (λ s. IsTerm s c.args.id) (sym c.self.view_is) c.requires in
    rw (c.as_slice.ensures.keys, ← c.self.view_is) (shape-node _ _ _ c.self.invariant c.args.id here)

pub returns-clause-shared : goal.returns-clause-shared
returns-clause-shared c = subst IsShared c.self.view_is (IsShared-from_kept _ _ _ c.self.invariant)
