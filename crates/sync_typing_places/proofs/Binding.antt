-- Symbols that come to stand for numbers with bounds.
use Rattle.std.proofs.Common.{◌≡◌, ℕ, ◌+◌, ℤ, pos, Bool, false, nat_lt, if◌then◌else◌, [], ◌∷◌, append_assoc, Result, Ok, Err, sym, ap, subst, ◌∙◌, arith}
use Rattle.sync_base.specs.declared.stops.Rule.TheVariants.{K8}
use Rattle.sync_base.specs.declared.stops.Stop.{Stop}
use Rattle.sync_base.specs.declared.stops.Stop.TheVariants.{Refused, Memory}
use Rattle.sync_kernel_facts.specs.Facts.{Fact}
use Rattle.sync_terms.specs.declared.nodes.FormId.{FormId}
use Rattle.sync_terms.specs.declared.nodes.TermId.{TermId}
use Rattle.sync_terms.specs.declared.scripts.HypName.TheVariants.{High, Low}
use Rattle.sync_terms.specs.Stored.{formula, tree, Extends, Stored}
use Rattle.sync_terms.specs.Building.{HasForm}
use Rattle.sync_terms.specs.Trees.{formula_size, most_nodes, tree_size, Formula, Le, Lit, Tree}
use Rattle.sync_typing.specs.Environments.{bind, bounds, know, name_as, refused, Env}
use Rattle.sync_typing_places.specs.declared.places.Bounds.{Bounds}
use Rattle.sync_typing_places.specs.declared.places.Place.{Place}
use Rattle.sync_typing_places.specs.Places.{env_of, Becomes, Follows, MakesBounds, MakesForm, Stays}
use Rattle.sync_typing_places.proofs.Following.{becomes_other, becomes_then, follows}

-- ---- formulas of bounds

pub made_as : (s : Stored) (line : ℕ) (f g : Formula) (r : Result FormId Stop) → f ≡ g → MakesForm s line f r → MakesForm s line g r
made_as s line f g r is makes = subst (λ (h : Formula). MakesForm s line h r) is makes

low_size : (t : Tree) → formula_size (Le (Lit (pos 0)) t) ≡ tree_size t + 2
unfolding tree_size formula_size
low_size t = omega arith

high_size : (t : Tree) (n : ℤ) → formula_size (Le t (Lit n)) ≡ tree_size t + 2
unfolding tree_size formula_size
high_size t n = omega arith

stops_as : (s : Stored) (line : ℕ) (t : Tree) (high : ℤ) (f : Formula) (x : Stop) → formula_size f ≡ tree_size t + 2
    → MakesForm s line f (Err x) → MakesBounds s line t high (Err x)
stops_as s line t high f Memory size makes = tt
stops_as s line t high f (Refused r) size makes = (ap (λ (n : ℕ). nat_lt most_nodes n) (sym size) ∙ makes.0, makes.1)

pub low_stops : (s : Stored) (line : ℕ) (t : Tree) (high : ℤ) (r : Result Bounds Stop) (x : Stop) → r ≡ Err x
    → MakesForm s line (Le (Lit (pos 0)) t) (Err x) → MakesBounds s line t high r
low_stops s line t high r x is makes =
    subst (λ (o : Result Bounds Stop). MakesBounds s line t high o) (sym is) (stops_as s line t high (Le (Lit (pos 0)) t) x (low_size t) makes)

pub high_stops : (s : Stored) (line : ℕ) (u t : Tree) (number high : ℤ) → u ≡ t → number ≡ high → (r : Result Bounds Stop) (x : Stop)
    → r ≡ Err x → MakesForm s line (Le u (Lit number)) (Err x) → MakesBounds s line t high r
high_stops s line u t number high same as_high r x is makes =
    subst (λ (o : Result Bounds Stop). MakesBounds s line t high o) (sym is)
    (stops_as s line t high (Le t (Lit high)) x (high_size t high)
    (made_as s line (Le u (Lit number)) (Le t (Lit high)) (Err x) (λ i. Le (same i) (Lit (as_high i))) makes))

-- both bounds, the first of them made before the store had the second
pub bounds_all : (s t : Stored) (id : TermId) (u : Tree) (number high : ℤ) (low top : FormId) → tree s id ≡ u → number ≡ high → Extends s t
    → HasForm s (Le (Lit (pos 0)) u) low → nat_lt most_nodes (formula_size (Le (Lit (pos 0)) u)) ≡ false
    → HasForm t (Le (tree s id) (Lit number)) top
    → HasForm t (Le (Lit (pos 0)) u) low × HasForm t (Le u (Lit high)) top × (nat_lt most_nodes (tree_size u + 2) ≡ false)
bounds_all s t id u number high low top is as_high more first fits second = (
  record { stored = (more.forms low first.stored).0; value = (more.forms low first.stored).1 ∙ first.value },
  record { stored = second.stored; value = second.value ∙ (λ i. Le (is i) (Lit (as_high i))) },
  ap (λ (m : ℕ). nat_lt most_nodes m) (sym (low_size u)) ∙ fits,
)

-- ---- the symbol is named, and then its bounds are known

know_both : (e : Env) (low high : Fact) → know (high ∷ []) (know (low ∷ []) e) ≡ know (low ∷ high ∷ []) e
know_both e low high = λ i. record {
  terms = e.terms;
  hand = e.hand;
  facts = append_assoc e.facts (low ∷ []) (high ∷ []) i;
  fresh = e.fresh;
}

pub bound_follows : (s t : Stored) (p q m r : Place) (line x : ℕ) (id : TermId) (u : Tree) (high : ℤ) (b : Bounds)
    → Stays s t p → tree t id ≡ u → MakesBounds t line u high (Ok b)
    → Becomes t t p q (name_as x (tree t id) (env_of t p))
    → Becomes t t q m (know (record { name = Low x; params = []; form = formula t b.low } ∷ []) (env_of t q))
    → Becomes t t m r (know (record { name = High x; params = []; form = formula t b.high } ∷ []) (env_of t m))
    → Follows {A = Unit {0}} s t p r (Ok tt) (bind line x u high (env_of s p))
bound_follows s t p q m r line x id u high b still is made one two three =
    let low : Fact = record { name = Low x; params = []; form = formula t b.low } in
    let top : Fact = record { name = High x; params = []; form = formula t b.high } in
    let env : know (top ∷ []) (env_of t m) ≡ know (bounds x u high) (name_as x u (env_of s p)) =
    ap (λ (e : Env). know (top ∷ []) e) (two.env ∙ ap (λ (e : Env). know (low ∷ []) e)
    (one.env ∙ (λ i. name_as x (is i) (still.env i))))
    ∙ know_both (name_as x u (env_of s p)) low top
    ∙ (λ i. know (record { name = Low x; params = []; form = made.0.value i }
    ∷ record { name = High x; params = []; form = made.1.value i } ∷ []) (name_as x u (env_of s p))) in
    follows tt (becomes_other env (becomes_then (becomes_then (becomes_then still one) two) three))
    (ap (λ (c : Bool). if c then refused line K8 else Ok (know (bounds x u high) (name_as x u (env_of s p)))) made.2)

-- the bounds of a term are known of a symbol
pub word_known : (s t : Stored) (p m r : Place) (line x : ℕ) (u : Tree) (high : ℤ) (b : Bounds)
    → Stays s t p → MakesBounds t line u high (Ok b)
    → Becomes t t p m (know (record { name = Low x; params = []; form = formula t b.low } ∷ []) (env_of t p))
    → Becomes t t m r (know (record { name = High x; params = []; form = formula t b.high } ∷ []) (env_of t m))
    → Becomes s t p r (know (bounds x u high) (env_of s p))
word_known s t p m r line x u high b still made one two =
    let low : Fact = record { name = Low x; params = []; form = formula t b.low } in
    let top : Fact = record { name = High x; params = []; form = formula t b.high } in
    let env : know (top ∷ []) (env_of t m) ≡ know (bounds x u high) (env_of s p) =
    ap (λ (e : Env). know (top ∷ []) e) (one.env ∙ ap (λ (e : Env). know (low ∷ []) e) still.env)
    ∙ know_both (env_of s p) low top
    ∙ (λ i. know (record { name = Low x; params = []; form = made.0.value i }
    ∷ record { name = High x; params = []; form = made.1.value i } ∷ []) (env_of s p)) in
    becomes_other env (becomes_then (becomes_then still one) two)
