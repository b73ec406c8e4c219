-- What symbols stand for, as a list, and which symbols a script names.
use Rattle.std.specs.Prelude.{ℕ, Bool, true, ◌&&◌, List, [], ◌∷◌, nat_eq, Option, Some, None, if◌then◌else◌}
use Rattle.std.specs.List.{list_all}
use Rattle.sync_terms.specs.Trees.{Tree}
use Rattle.sync_terms.specs.Plans.{Plan, End, Same, Sum, Inst, Parts, Split, Cut, Read, Size, Total, Cong}
use Rattle.sync_rules.specs.Locality.{names_only, form_names_only}
use Rattle.sync_thread.specs.Programs.{ScriptTree}

-- what symbols stand for, the newest first
abbrev pub Names : Type 0
Names = List (ℕ × Tree)

abbrev pub named_by : Names → ℕ → Option Tree
named_by [] x = None
named_by (p ∷ ps) x = if nat_eq p.0 x then Some p.1 else named_by ps x

-- each name with its term
abbrev pub paired : List ℕ → List Tree → Names
paired (x ∷ xs) (t ∷ ts) = (x, t) ∷ paired xs ts
paired (x ∷ xs) [] = []
paired [] ts = []

-- ---- scripts

-- every symbol of a script passes
abbrev pub plan_names_only : (ℕ → Bool) → Plan → Bool
plan_names_only p (End line) = true
plan_names_only p (Same line rest) = plan_names_only p rest
plan_names_only p (Sum line parts rest) = plan_names_only p rest
plan_names_only p (Inst line hyp terms name rest) = list_all (names_only p) terms && plan_names_only p rest
plan_names_only p (Parts line hyp left right rest) = plan_names_only p rest
plan_names_only p (Split line hyp name one two rest) =
    plan_names_only p one && (plan_names_only p two && plan_names_only p rest)
plan_names_only p (Cut line form name block rest) =
    form_names_only p form && (plan_names_only p block && plan_names_only p rest)
plan_names_only p (Read line m k name rest) = names_only p m && (names_only p k && plan_names_only p rest)
plan_names_only p (Size line m k name rest) = names_only p m && (names_only p k && plan_names_only p rest)
plan_names_only p (Total line m k name rest) = names_only p m && (names_only p k && plan_names_only p rest)
plan_names_only p (Cong line m j k name rest) =
    names_only p m && (names_only p j && (names_only p k && plan_names_only p rest))

abbrev pub scripts_name_only : (ℕ → Bool) → List ScriptTree → Bool
scripts_name_only p ss = list_all (λ (s : ScriptTree). plan_names_only p s.plan) ss
