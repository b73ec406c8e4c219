-- What a proof step may use: the hypotheses of a sequent and the negation of its claim, newest last.
use Rattle.std.specs.Prelude.{ℕ, ◌+◌, Bool, true, false, nat_eq, List, [], ◌∷◌, map, Option, Some, None, if◌then◌else◌}
use Rattle.sync_base.specs.Outcome.{first}
use Rattle.sync_terms.specs.declared.nodes.Sym.{Sym}
use Rattle.sync_terms.specs.declared.nodes.FormId.{FormId}
use Rattle.sync_terms.specs.declared.scripts.HypName.{HypName}
use Rattle.sync_terms.specs.declared.scripts.HypName.TheVariants.{Label, Denied, At, Low, High}
use Rattle.sync_terms.specs.Trees.{Formula, neg, formula_size}
use Rattle.sync_terms.specs.Values.{Hypothesis}
use Rattle.sync_terms.specs.Stored.{Stored, formula}
use Rattle.sync_kernel_facts.specs.declared.sequents.Hyp.{Hyp}

pub record Fact : Type 0 where
  pub name : HypName
  pub params : List ℕ
  pub form : Formula

abbrev pub same_name : HypName → HypName → Bool
same_name (Label m) (Label n) = nat_eq m n
same_name Denied Denied = true
same_name (At m) (At n) = nat_eq m n
same_name (Low m) (Low n) = nat_eq m n
same_name (High m) (High n) = nat_eq m n
same_name _ _ = false

abbrev pub no_params : List ℕ → Bool
no_params [] = true
no_params (p ∷ ps) = false

-- a fact without parameters
abbrev pub is_plain : Fact → Bool
is_plain f = no_params f.params

-- the newest fact of a name
abbrev pub newest : HypName → List Fact → Option Fact
newest name [] = None
newest name (f ∷ fs) = first (newest name fs) (if same_name f.name name then Some f else None)

abbrev pub fact_of : Stored → Hyp → Fact
fact_of s h = record { name = h.name; params = map (λ (p : Sym). p.0) h.params; form = formula s h.form }

-- the negation of a claim, under its own name
abbrev pub denial : Formula → Fact
denial claim = record { name = Denied; params = []; form = neg claim }

abbrev pub denied : Stored → FormId → Fact
denied s claim = denial (formula s claim)

abbrev pub as_hypothesis : Fact → Hypothesis
as_hypothesis f = record { params = f.params; form = f.form }

-- a fact that a step gives a name
abbrev pub named : ℕ → Formula → Fact
named name form = record { name = Label name; params = []; form = form }

-- the nodes of all facts
unfoldable pub facts_size : List Fact → ℕ
facts_size [] = 0
facts_size (f ∷ fs) = formula_size f.form + facts_size fs
