-- Scripts with each symbol replaced at once.
use Rattle.std.specs.Prelude.{ℕ, map}
use Rattle.sync_terms.specs.Trees.{Tree, replaced, replaced_in}
use Rattle.sync_terms.specs.Plans.{Plan, End, Same, Sum, Inst, Parts, Split, Cut, Read, Size, Total, Cong}

-- each symbol of a script replaced at once
abbrev pub plan_replaced : (ℕ → Tree) → Plan → Plan
plan_replaced s (End line) = End line
plan_replaced s (Same line rest) = Same line (plan_replaced s rest)
plan_replaced s (Sum line parts rest) = Sum line parts (plan_replaced s rest)
plan_replaced s (Inst line hyp terms name rest) = Inst line hyp (map (replaced s) terms) name (plan_replaced s rest)
plan_replaced s (Parts line hyp left right rest) = Parts line hyp left right (plan_replaced s rest)
plan_replaced s (Split line hyp name one two rest) =
    Split line hyp name (plan_replaced s one) (plan_replaced s two) (plan_replaced s rest)
plan_replaced s (Cut line form name block rest) =
    Cut line (replaced_in s form) name (plan_replaced s block) (plan_replaced s rest)
plan_replaced s (Read line m k name rest) = Read line (replaced s m) (replaced s k) name (plan_replaced s rest)
plan_replaced s (Size line m k name rest) = Size line (replaced s m) (replaced s k) name (plan_replaced s rest)
plan_replaced s (Total line m k name rest) = Total line (replaced s m) (replaced s k) name (plan_replaced s rest)
plan_replaced s (Cong line m j k name rest) =
    Cong line (replaced s m) (replaced s j) (replaced s k) name (plan_replaced s rest)
