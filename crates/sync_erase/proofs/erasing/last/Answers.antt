use Rattle.std.proofs.Common.{Some, option_map, sym, ap, ◌∙◌}
use Rattle.sync_thread.specs.Code.{code_list}
use Rattle.sync_thread.specs.Views.{list_tree}
use Rattle.sync_erase.proofs.erasing.last.Goals as goal

pub returns-in_ok-statements-in-Some : goal.returns-in_ok-statements-in-Some
returns-in_ok-statements-in-Some c s = ap Some (c.in_ok-statements-in-Some.ensures s) ∙ sym (ap (λ o. option_map code_list (option_map (list_tree s) o)) c.in-Some.is)
