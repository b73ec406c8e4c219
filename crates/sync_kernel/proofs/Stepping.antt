-- The steps that add facts: what each leaves, from what its parts give.
use Rattle.std.proofs.Common.{◌≡◌, ℕ, ◌<◌, Bool, true, false, if◌then◌else◌, List, [], ◌∷◌, Option, Some, None, Result, Ok, Err, refl, sym, ap, subst}
use Rattle.std.specs.Prelude.{option_map, IfSome}
use Rattle.sync_base.specs.Outcome.{first, Passes, ◌>>=◌}
use Rattle.sync_base.specs.declared.stops.Refusal.{Refusal}
use Rattle.sync_base.specs.declared.stops.Rule.{Rule}
use Rattle.sync_base.specs.declared.stops.Rule.TheVariants.{K8}
use Rattle.sync_base.specs.declared.stops.Stop.{Stop}
use Rattle.sync_base.specs.declared.stops.Stop.TheVariants.{Refused, Memory}
use Rattle.sync_terms.specs.declared.scripts.HypName.{HypName}
use Rattle.sync_terms.specs.declared.store.TermStop.{TermStop}
use Rattle.sync_terms.specs.declared.store.TermStop.TheVariants.{TooLarge}
use Rattle.sync_terms.specs.declared.store.TermStop.TheVariants as term
use Rattle.sync_terms.specs.Trees.{most_nodes}
use Rattle.sync_terms.specs.Trees.{Formula, formula_size}
use Rattle.sync_terms.specs.Stored.{Stored}
use Rattle.sync_kernel_facts.specs.declared.literals.Literal.{Literal}
use Rattle.sync_kernel_facts.specs.declared.branches.Said.{Said}
use Rattle.sync_kernel_facts.specs.declared.branches.Known.{Known}
use Rattle.sync_kernel_facts.specs.Facts.{Fact, same_name, newest}
use Rattle.sync_kernel_facts.specs.Literals.{literal_form, IsLiteral}
use Rattle.sync_kernel_facts.specs.Branches.{said_fact, facts_in, IsSaid, AreSaid, newest_said}
use Rattle.sync_kernel_facts.specs.Knowing.{known_of}
use Rattle.sync_kernel.specs.Scripts.{with_fact, fitting, going}
use Rattle.sync_kernel.specs.Holding.{IsKnown, StopsFor, Leaves, Refuses, Makes, large_stop}
use Rattle.sync_kernel.proofs.Fitting.{not_fitting}
use Rattle.sync_kernel_facts.proofs.Stacking.{newest_in}
use Rattle.sync_kernel_facts.proofs.Names.{none_params}

-- ---- answers of any kind

pub leaves_err : {A X : Type 0} (line : ℕ) (P : A → X → Type 0) (r : Result A Stop) (e : Stop) (wanted : Result X Rule) → r ≡ Err e → StopsFor line e wanted → Leaves line r P wanted
leaves_err line P r e wanted is h = subst (λ (x : Result _ Stop). Leaves line x P wanted) (sym is) h

pub leaves_ok : {A X : Type 0} (line : ℕ) (P : A → X → Type 0) (a : A) (x : X) (wanted : Result X Rule) → wanted ≡ Ok x → P a x → Leaves line (Ok a) P wanted
leaves_ok line P a x wanted is h = subst (Leaves line (Ok a) P) (sym is) h

pub stops_at : {X : Type 0} (line : ℕ) (e : Stop) (rule : Rule) (wanted : Result X Rule) → e ≡ Refused (record { line = line; rule = rule }) → wanted ≡ Err rule → StopsFor line e wanted
stops_at line e rule wanted is w =
    subst (λ (x : Stop). StopsFor line x wanted) (sym is) (subst (StopsFor line (Refused (record { line = line; rule = rule }))) (sym w) refl)

-- a stop in the first of two parts
pub stops_first : {X Y : Type 0} (line : ℕ) (e : Stop) (wanted : Result X Rule) (k : X → Result Y Rule) → StopsFor line e wanted → StopsFor line e (wanted >>= k)
stops_first line Memory wanted k h = tt
stops_first line (Refused f) (Ok x) k h = absurd h
stops_first line (Refused f) (Err r) k h = h

pub stops_memory : {X : Type 0} (line : ℕ) (e : Stop) (wanted : Result X Rule) → e ≡ Memory → StopsFor line e wanted
stops_memory line e wanted is = subst (λ (x : Stop). StopsFor line x wanted) (sym is) tt

-- what is behind the first part
pub behind_first : {A X Y : Type 0} (line : ℕ) (P : A → X → Type 0) (a : A) (wanted : Result X Rule) (k : X → Result Y Rule) (Goal : Result Y Rule → Type 0) → Leaves line (Ok a) P wanted
    → ((x : X) → P a x → Goal (k x)) → Goal (wanted >>= k)
behind_first line P a (Ok x) k Goal h f = f x h
behind_first line P a (Err r) k Goal h f = absurd h

-- ---- what was made

pub made_err : (s : Stored) (line : ℕ) (e : Stop) (wanted : Result Formula Rule) (fs : List Fact) (name : ℕ) → Makes s line (Err e) wanted → StopsFor line e (wanted >>= (λ (f : Formula). fitting (with_fact fs name f)))
made_err s line Memory wanted fs name h = tt
made_err s line (Refused x) (Ok f) fs name h = stops_at line (Refused x) K8 (fitting (with_fact fs name f)) (ap Refused h.0) (not_fitting fs name f h.1)
made_err s line (Refused x) (Err r) fs name h = h

pub made_ok : (s : Stored) (line : ℕ) (l : Literal) (wanted : Result Formula Rule) (k : Formula → Result (List Fact) Rule) (Goal : Result (List Fact) Rule → Type 0) → Makes s line (Ok l) wanted → Goal (k (literal_form s l)) → Goal (wanted >>= k)
made_ok s line l (Ok f) k Goal h g = subst (λ (x : Formula). Goal (k x)) h.0 g
made_ok s line l (Err r) k Goal h g = absurd h

pub made_literal : (s : Stored) (line : ℕ) (l : Literal) (wanted : Result Formula Rule) → Makes s line (Ok l) wanted → IsLiteral s l
made_literal s line l (Ok f) h = h.1
made_literal s line l (Err r) h = absurd h

pub large_stops : (s : Stored) (line : ℕ) (stop : TermStop) (e : Stop) (f : Formula) → e ≡ large_stop line stop → (stop ≡ TooLarge → most_nodes < formula_size f) → Makes s line (Err e) (Ok f)
large_stops s line term.TooLarge e f is h = subst (λ (x : Stop). Makes s line (Err x) (Ok f)) (sym is) (refl, h refl)
large_stops s line term.Memory e f is h = subst (λ (x : Stop). Makes s line (Err x) (Ok f)) (sym is) tt

-- ---- the fact of a name

pub known_is : (s : Stored) (xs : List Said) (name : HypName) (k : Option Known) → AreSaid s xs → k ≡ option_map known_of (newest_said name xs) → IsKnown s k (newest name (facts_in s xs))
known_is s xs name k said e =
    subst (λ (x : Option Known). IsKnown s x (newest name (facts_in s xs))) (sym e)
    (subst (IsKnown s (option_map known_of (newest_said name xs))) (sym (newest_in s name xs)) (by (newest_said name xs) (among xs said)))
  where
    by : (o : Option Said) → IfSome o (IsSaid s) → IsKnown s (option_map known_of o) (option_map (said_fact s) o)
    by None h = tt
    by (Some x) h = (refl, none_params x.params, h.0)

    pick : (b : Bool) (x : Said) (o : Option Said) → IsSaid s x → IfSome o (IsSaid s) → IfSome (first o (if b then Some x else None)) (IsSaid s)
    pick b x (Some y) h k = k
    pick true x None h k = h
    pick false x None h k = tt

    among : (ys : List Said) → AreSaid s ys → IfSome (newest_said name ys) (IsSaid s)
    among [] h = tt
    among (y ∷ ys) h = pick (same_name y.name name) y (newest_said name ys) h.0 (among ys h.1)

-- ---- going on

-- what a block breaks behind a step that was taken
pub goes_on : {A : Type 0} (line : ℕ) (a : A) (now : List Fact) (wanted : Result (List Fact) Rule) (k : List Fact → Option Refusal) → Leaves line (Ok a) (λ _ known. now ≡ known) wanted → going line wanted k ≡ k now
goes_on line a now (Ok known) k h = ap k (sym h)
goes_on line a now (Err r) k h = absurd h

pub goes_to : {A X : Type 0} (line : ℕ) (P : A → X → Type 0) (a : A) (wanted : Result X Rule) (k : X → Option Refusal) (Goal : Option Refusal → Type 0) → Leaves line (Ok a) P wanted
    → ((x : X) → P a x → Goal (k x)) → Goal (going line wanted k)
goes_to line P a (Ok x) k Goal h f = f x h
goes_to line P a (Err r) k Goal h f = absurd h

pub refuses : {X : Type 0} (line : ℕ) (e : Stop) (wanted : Result X Rule) (k : X → Option Refusal) → StopsFor line e wanted → Refuses e (going line wanted k)
refuses line Memory wanted k h = tt
refuses line (Refused f) (Ok x) k h = absurd h
refuses line (Refused f) (Err r) k h = ap Some (sym h)

-- the first of two
pub refuses_first : (e : Stop) (a b : Option Refusal) → Refuses e a → Refuses e (first a b)
refuses_first Memory a b h = tt
refuses_first (Refused r) a b h = ap (λ (o : Option Refusal). first o b) h

pub passes_err : {A : Type 0} (r : Result A Stop) (e : Stop) (fault : Option Refusal) → r ≡ Err e → Refuses e fault → Passes r fault
passes_err r Memory fault is h = subst (λ (x : Result _ Stop). Passes x fault) (sym is) tt
passes_err r (Refused f) fault is h = subst (λ (x : Result _ Stop). Passes x fault) (sym is) h

pub err_refuses : (A : Type 0) (e : Stop) (fault : Option Refusal) → Passes {A = A} (Err e) fault → Refuses e fault
err_refuses A Memory fault h = tt
err_refuses A (Refused r) fault h = h
