-- What a statement has to meet, in order, and the scripts that it has for it.
use Rattle.std.specs.Prelude.{ℕ, ◌+◌, Bool, true, false, not, ◌&&◌, nat_eq, nat_lt, List, [], ◌∷◌, ◌++◌, Option, Some, None, Ok, Err, if◌then◌else◌}
use Rattle.std.specs.List.{list_all, list_any}
use Rattle.std.specs.Ordering.{int_eq}
use Rattle.sync_base.specs.Outcome.{◌>>=◌}
use Rattle.sync_base.specs.declared.stops.Refusal.{Refusal}
use Rattle.sync_base.specs.declared.stops.Rule.{Rule}
use Rattle.sync_base.specs.declared.stops.Rule.TheVariants.{I2, K8, T1, T2, T3}
use Rattle.sync_terms.specs.Trees.{Tree, most_nodes, Formula, Le, Lt, Eq, Not, And, Or, Imp, neg, tree_size, formula_size}
use Rattle.sync_linear.specs.Forms.{constant_of, coefficient_of}
use Rattle.sync_rules.specs.Locality.{names_only, form_names_only}
use Rattle.sync_kernel_facts.specs.Facts.{facts_size}
use Rattle.sync_kernel.specs.Rows.{atoms_of, narrow}
use Rattle.sync_kernel.specs.Scripts.{script_fault}
use Rattle.sync_kernel.specs.Replaced.{plan_replaced}
use Rattle.sync_thread.specs.Programs.{ScriptTree}
use Rattle.sync_typing.specs.Symbols.{scripts_name_only}
use Rattle.sync_typing.specs.Environments.{Env, stands, is_at_hand, Outcome, refused, fits, is_held, token}

-- Wants: a test is true. Makes: a term is made. Owes: a formula is clear, or the statement's next script proves it.
-- Alone: the same with scripts of its own. Spare: scripts that nothing has used.
pub data Due : Type 0 where
  Wants : (rule : Rule) (test : Bool) → Due
  Makes : (term : Tree) → Due
  Owes : (rule : Rule) (form : Formula) → Due
  Alone : (rule : Rule) (form : Formula) (scripts : List ScriptTree) → Due
  Spare : (scripts : List ScriptTree) → Due

-- ---- clear obligations

-- the same constant, and each atom as often
abbrev pub same_line : Tree → Tree → Bool
same_line a b =
    int_eq (constant_of a) (constant_of b)
    && list_all (λ x. int_eq (coefficient_of x a) (coefficient_of x b)) (atoms_of a ++ atoms_of b)

-- an equation of terms with the same normal form, within 128 bits
abbrev pub is_clear : Formula → Bool
is_clear (Eq a b) = narrow a && (narrow b && same_line a b)
is_clear (Le a b) = false
is_clear (Lt a b) = false
is_clear (Not f) = false
is_clear (And f g) = false
is_clear (Or f g) = false
is_clear (Imp f g) = false

-- ---- what is shown

-- a script proves a claim from what is known; its names stand for their terms at this place
abbrev pub script_rule : Env → ℕ → Formula → ScriptTree → Option Refusal
script_rule e line claim s =
    if nat_lt most_nodes (facts_size e.facts + formula_size (neg claim)) then Some (record { line = line; rule = K8 })
    else script_fault e.facts claim (plan_replaced (stands e) s.plan)

-- the first script is used; none is left over, or that is the rule
abbrev pub use_first : Env → ℕ → Rule → Formula → List ScriptTree → Outcome (List ScriptTree)
use_first e line rule claim [] = refused line rule
use_first e line rule claim (s ∷ ss) = used (script_rule e line claim s) where
  used : Option Refusal → Outcome (List ScriptTree)
  used None = Ok ss
  used (Some r) = Err r

-- a claim is clear, or the first script proves it; the scripts that are left
abbrev pub show : Env → ℕ → Rule → Formula → List ScriptTree → Outcome (List ScriptTree)
show e line rule claim ss =
    fits line (formula_size claim) (if is_clear claim then Ok ss else use_first e line rule claim ss)

-- a script that is left over
abbrev pub spare : {X : Type 0} → List ScriptTree → Outcome X → Outcome X
spare [] rest = rest
spare (s ∷ ss) rest = refused s.line I2

-- the dues in order, with the scripts that are left
abbrev pub pay : Env → ℕ → List Due → List ScriptTree → Outcome (List ScriptTree)
pay e line [] ss = Ok ss
pay e line (Wants rule test ∷ ds) ss = if test then pay e line ds ss else refused line rule
pay e line (Makes t ∷ ds) ss = fits line (tree_size t) (pay e line ds ss)
pay e line (Owes rule claim ∷ ds) ss = show e line rule claim ss >>= pay e line ds
pay e line (Alone rule claim own ∷ ds) ss = show e line rule claim own >>= (λ left. pay e line ds ss)
pay e line (Spare left ∷ ds) ss = spare left (pay e line ds ss)

-- A row: all dues are met, no script is left over, and then.
abbrev pub row : {X : Type 0} → Env → ℕ → List Due → List ScriptTree → Outcome X → Outcome X
row e line dues ss next = pay e line dues ss >>= (λ left. spare left next)

-- ---- dues in words

-- T1 of the names in terms, formulas and scripts
abbrev pub at_hand_due : Env → List Tree → List Formula → List ScriptTree → Due
at_hand_due e ts fs ss =
    Wants T1 (list_all (names_only (is_at_hand e)) ts
    && (list_all (form_names_only (is_at_hand e)) fs && scripts_name_only (is_at_hand e) ss))

-- a token is asked for: held, not asked for before by this statement, and of such a field
abbrev pub asked_dues : Env → List ℕ → (ℕ → Bool) → ℕ → List Due
asked_dues e before field n =
    Wants T1 (is_held e n) ∷ Wants T2 (not (list_any (nat_eq n) before)) ∷ Wants T3 (field (token e n).field) ∷ []

abbrev pub are_apart : List ℕ → Bool
are_apart [] = true
are_apart (n ∷ ns) = not (list_any (nat_eq n) ns) && are_apart ns

-- names of new tokens: none is held, and they differ
abbrev pub new_names_due : Env → List ℕ → Due
new_names_due e ns = Wants T2 (list_all (λ n. not (is_held e n)) ns && are_apart ns)

-- what the token has is what is asked, if something is asked
abbrev pub agrees : Rule → Tree → Option Tree → List Due
agrees rule has None = []
agrees rule has (Some asked) = Owes rule (Eq has asked) ∷ []
