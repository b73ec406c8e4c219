-- The names of facts, and lists of parameters.
use Rattle.std.proofs.Common.{◌≡◌, Bool, true, List, [], ◌∷◌, map, refl, ◌∙◌}
use Rattle.std.proofs.lemmas.Bool.{false_from_ne_true}
use Rattle.sync_terms.specs.declared.nodes.Sym.{Sym}
use Rattle.sync_terms.specs.declared.scripts.HypName.{HypName}
use Rattle.sync_terms.specs.declared.scripts.HypName.TheVariants.{Label, Denied, At, Low, High}
use Rattle.sync_kernel_facts.specs.Facts.{same_name, no_params}
use Rattle.sync_kernel_facts.specs.Knowing.{are_none}
use Rattle.sync_kernel_facts.specs.Branches.{equal_names}

pub names_equal : (a b : HypName) → equal_names a b ≡ same_name a b
names_equal (Label m) (Label n) = refl
names_equal (Label m) Denied = refl
names_equal (Label m) (At n) = refl
names_equal (Label m) (Low n) = refl
names_equal (Label m) (High n) = refl
names_equal Denied (Label n) = refl
names_equal Denied Denied = refl
names_equal Denied (At n) = refl
names_equal Denied (Low n) = refl
names_equal Denied (High n) = refl
names_equal (At m) (Label n) = refl
names_equal (At m) Denied = refl
names_equal (At m) (At n) = refl
names_equal (At m) (Low n) = refl
names_equal (At m) (High n) = refl
names_equal (Low m) (Label n) = refl
names_equal (Low m) Denied = refl
names_equal (Low m) (At n) = refl
names_equal (Low m) (Low n) = refl
names_equal (Low m) (High n) = refl
names_equal (High m) (Label n) = refl
names_equal (High m) Denied = refl
names_equal (High m) (At n) = refl
names_equal (High m) (Low n) = refl
names_equal (High m) (High n) = refl

nonempty : (p : Sym) (ps : List Sym) → p ∷ ps ≡ [] → ⊥
nonempty p ps e = cc

-- a list of parameters is empty where the hypothesis has none
pub none_is : (ps : List Sym) (b : Bool) → (b ≡ true → ps ≡ []) → (ps ≡ [] → b ≡ true) → b ≡ are_none ps
none_is [] b f g = g refl
none_is (p ∷ ps) b f g = false_from_ne_true b (λ e. nonempty p ps (f e))

pub none_params : (ps : List Sym) → are_none ps ≡ no_params (map (λ (p : Sym). p.0) ps)
none_params [] = refl
none_params (p ∷ ps) = refl

pub plain_is : (ps : List Sym) (b : Bool) → (b ≡ true → ps ≡ []) → (ps ≡ [] → b ≡ true) → b ≡ no_params (map (λ (p : Sym). p.0) ps)
plain_is ps b f g = none_is ps b f g ∙ none_params ps
