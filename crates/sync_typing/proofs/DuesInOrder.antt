-- Dues are met one after another.
use mathlib.Core.Path.{refl}
use Rattle.std.specs.Prelude.{◌≡◌, Bool, true, false, List, [], ◌∷◌, ◌++◌, Ok, Err, nat_lt, if◌then◌else◌}
use Rattle.sync_base.specs.Outcome.{◌>>=◌}
use Rattle.sync_base.specs.declared.stops.Refusal.{Refusal}
use Rattle.sync_terms.specs.Trees.{most_nodes, tree_size}
use Rattle.sync_thread.specs.Programs.{ScriptTree}
use Rattle.sync_typing.specs.Environments.{Outcome}
use Rattle.sync_typing.specs.Dues.{Wants, Makes, Owes, Alone, Spare, pay, show, spare}
use Rattle.sync_typing.specs.Laws.{DuesGoOn}

-- steps in a row may be grouped
grouped : (r : Outcome (List ScriptTree)) (f g : List ScriptTree → Outcome (List ScriptTree)) (h : List ScriptTree
    → Outcome (List ScriptTree)) → ((ss : List ScriptTree) → h ss ≡ (f ss >>= g)) → (r >>= h) ≡ ((r >>= f) >>= g)
grouped (Ok ss) f g h same = same ss
grouped (Err refusal) f g h same = refl

under_test : (b : Bool) (r : Refusal) (a c : Outcome (List ScriptTree)) (g : List ScriptTree
    → Outcome (List ScriptTree)) → a ≡ (c >>= g) → (if b then a else Err r) ≡ ((if b then c else Err r) >>= g)
under_test true r a c g same = same
under_test false r a c g same = refl

under_limit : (b : Bool) (r : Refusal) (a c : Outcome (List ScriptTree)) (g : List ScriptTree
    → Outcome (List ScriptTree)) → a ≡ (c >>= g) → (if b then Err r else a) ≡ ((if b then Err r else c) >>= g)
under_limit true r a c g same = refl
under_limit false r a c g same = same

under_spare : (left : List ScriptTree) (a c : Outcome (List ScriptTree)) (g : List ScriptTree
    → Outcome (List ScriptTree)) → a ≡ (c >>= g) → spare left a ≡ (spare left c >>= g)
under_spare [] a c g same = same
under_spare (s ∷ ss) a c g same = refl

pub dues_go_on : DuesGoOn
dues_go_on e line [] later ss = refl
dues_go_on e line (Wants rule test ∷ ds) later ss =
    under_test test _ (pay e line (ds ++ later) ss) (pay e line ds ss) (pay e line later)
    (dues_go_on e line ds later ss)
dues_go_on e line (Makes t ∷ ds) later ss =
    under_limit (nat_lt most_nodes (tree_size t)) _ (pay e line (ds ++ later) ss) (pay e line ds ss) (pay e line later)
    (dues_go_on e line ds later ss)
dues_go_on e line (Owes rule claim ∷ ds) later ss =
    grouped (show e line rule claim ss) (pay e line ds) (pay e line later) (pay e line (ds ++ later))
    (dues_go_on e line ds later)
dues_go_on e line (Alone rule claim own ∷ ds) later ss =
    grouped (show e line rule claim own) (λ left. pay e line ds ss) (pay e line later) (λ left.
    pay e line (ds ++ later) ss) (λ left. dues_go_on e line ds later ss)
dues_go_on e line (Spare left ∷ ds) later ss =
    under_spare left (pay e line (ds ++ later) ss) (pay e line ds ss) (pay e line later) (dues_go_on e line ds later ss)
