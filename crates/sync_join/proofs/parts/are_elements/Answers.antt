use Rattle.std.proofs.Common.{◌∙◌, rules, not, ◌||◌, nat_eq}
use Rattle.std.proofs.lemmas.Iterator.{YieldsList-from_slice}
use Rattle.std.proofs.lemmas.Iterator.Search.{all_from_yields_List}
use Rattle.sync_join.specs.declared.tokens.Token.{Token}
use Rattle.sync_join.specs.Join.{is_element}
use Rattle.sync_join.specs.Views.{value_tree}
use Rattle.sync_join.proofs.Through.{all-own}
use Rattle.sync_join.proofs.parts.are_elements.Goals as goal

pub returns : goal.returns
returns c =
    let r = value_tree c.args.recorded.now in
    all_from_yields_List (λ (t : Token). not (nat_eq t.field c.args.field) || is_element r t) _ _ _ c.all.ensures.ran (YieldsList-from_slice c.args.tokens.now cc) (λ x b q k. search rules)
    ∙ all-own (is_element r) c.args.field c.args.tokens.now
