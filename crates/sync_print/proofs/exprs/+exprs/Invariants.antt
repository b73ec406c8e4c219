use Rattle.std.proofs.Common.{◌≡◌, ◌++◌, drop, map}
use Rattle.sync_print.specs.Exprs.{plain}
use Rattle.sync_print.specs.Lexemes.{printed, with_commas, listed}
use Rattle.sync_print.specs.ShowExprs.{show_expr}
use Rattle.sync_print.proofs.exprs.+exprs.Given as goal

abbrev pub invariant-exprs-loop-e : goal.invariant-exprs-loop-e
invariant-exprs-loop-e l =
    l.out.items ++ printed l.names (with_commas l.behind (map show_expr (map plain (drop l.e-index l.es))))
    ≡ l.initial.out.items ++ printed l.names (listed (map show_expr (map plain l.es)))
