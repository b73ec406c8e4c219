-- What `parts`, `split` and `inst` take from a fact.
use Rattle.std.specs.Prelude.{ℕ, Bool, not, nat_eq, nat_lt, List, [], ◌∷◌, length, Option, Some, None, Result, Ok, Err, if◌then◌else◌}
use Rattle.std.specs.List.{list_all}
use Rattle.sync_base.specs.declared.stops.Rule.{Rule}
use Rattle.sync_base.specs.declared.stops.Rule.TheVariants.{K1, K2, K3, K8}
use Rattle.sync_terms.specs.Trees.{Tree, Name, Formula, Le, Lt, Eq, Not, And, Or, Imp, most_nodes, tree_size, neg, replaced_in}
use Rattle.sync_kernel_facts.specs.Facts.{Fact, is_plain}

pub record Two : Type 0 where
  pub left : Formula
  pub right : Formula

abbrev pub two : Formula → Formula → Option Two
two f g = Some (record { left = f; right = g })

abbrev pub parts_of_not : Formula → Option Two
parts_of_not (Or f g) = two (neg f) (neg g)
parts_of_not (Imp f g) = two f (neg g)
parts_of_not (Le t u) = None
parts_of_not (Lt t u) = None
parts_of_not (Eq t u) = None
parts_of_not (Not f) = None
parts_of_not (And f g) = None

-- two formulas that hold where this one does
abbrev pub parts_of : Formula → Option Two
parts_of (And f g) = two f g
parts_of (Not f) = parts_of_not f
parts_of (Le t u) = None
parts_of (Lt t u) = None
parts_of (Eq t u) = None
parts_of (Or f g) = None
parts_of (Imp f g) = None

abbrev pub cases_of_not : Formula → Option Two
cases_of_not (And f g) = two (neg f) (neg g)
cases_of_not (Eq t u) = two (Lt t u) (Lt u t)
cases_of_not (Le t u) = None
cases_of_not (Lt t u) = None
cases_of_not (Not f) = None
cases_of_not (Or f g) = None
cases_of_not (Imp f g) = None

-- two formulas of which one holds where this one does
abbrev pub cases_of : Formula → Option Two
cases_of (Or f g) = two f g
cases_of (Imp f g) = two (neg f) g
cases_of (Not f) = cases_of_not f
cases_of (Le t u) = None
cases_of (Lt t u) = None
cases_of (Eq t u) = None
cases_of (And f g) = None

-- the fact of a name; it has no parameters
abbrev pub plain_fact : Option Fact → Result Fact Rule
plain_fact None = Err K1
plain_fact (Some f) = if is_plain f then Ok f else Err K2

-- what it is taken apart into
abbrev pub taken : Option Two → Result Two Rule
taken None = Err K2
taken (Some x) = Ok x

-- each parameter becomes the term at its place, and other symbols stay
abbrev pub by_params : List ℕ → List Tree → ℕ → Tree
by_params (p ∷ ps) (t ∷ ts) x = if nat_eq p x then t else by_params ps ts x
by_params (p ∷ ps) [] x = Name x
by_params [] ts x = Name x

-- no term has more than so many nodes
abbrev pub all_fit : List Tree → Bool
all_fit terms = list_all (λ (t : Tree). not (nat_lt most_nodes (tree_size t))) terms

-- terms that all fit, in a formula; also a term that is not used has to fit
abbrev pub fitting_terms : List Tree → Formula → Result Formula Rule
fitting_terms terms form = if all_fit terms then Ok form else Err K8

-- the fact of a name, with a term for each parameter
abbrev pub instance : Option Fact → List Tree → Result Formula Rule
instance None terms = Err K1
instance (Some f) terms =
    if nat_eq (length f.params) (length terms) then fitting_terms terms (replaced_in (by_params f.params terms) f.form)
    else Err K3
