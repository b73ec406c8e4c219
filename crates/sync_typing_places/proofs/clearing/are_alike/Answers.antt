use Rattle.std.proofs.Common.{Option, subst}
use Rattle.sync_linear.specs.Lines.{Line}
use Rattle.sync_terms.specs.Stored.{tree}
use Rattle.sync_typing_places.specs.Clearing.{IsLineIfNarrow}
use Rattle.sync_typing_places.proofs.Alike.{clear_both, clear_wide, clear_wide_too, none_narrow, if_ok}
use Rattle.sync_typing_places.proofs.clearing.are_alike.Goals as goal

pub returns-in_default : goal.returns-in_default
returns-in_default c =
    let s = c.args.terms.now in
    clear_wide (tree s c.args.left) (tree s c.args.right) (none_narrow s (tree s c.args.left) c.in_ok-one.field-0 c.in_ok-one.ensures c.in_default.not-Some)

pub returns-in_default-2 : goal.returns-in_default-2
returns-in_default-2 c =
    let s = c.args.terms.now in
    clear_wide_too (tree s c.args.left) (tree s c.args.right) (none_narrow s (tree s c.args.right) c.in_ok-two.field-0 c.in_ok-two.ensures c.in_default-2.not-Some)

pub returns : goal.returns
returns c =
    let s = c.args.terms.now in
    let a = tree s c.args.left in
    let b = tree s c.args.right in
    let p = subst (λ (o : Option Line). IsLineIfNarrow s a o) c.in-Some.is c.in_ok-one.ensures in
    let q = subst (λ (o : Option Line). IsLineIfNarrow s b o) c.in-Some-2.is c.in_ok-two.ensures in
    if_ok c.is_same.result _ _ (λ is e. clear_both a b is p.1 q.1 (e s a b p.0 q.0 p.1 q.1)) c.is_same.ensures
