-- Where a fact holds whatever its parameters stand for, it holds with terms for them.
use Rattle.std.proofs.Common.{◌≡◌, ℕ, Bool, true, false, List, [], ◌∷◌, refl, sym, ap, subst, ◌∙◌}
use Rattle.std.specs.Prelude.{nat_eq}
use Rattle.std.specs.List.{list_any}
use Rattle.std.proofs.lemmas.Bool.{or_parts, or_from, cond-true, cond-false, eqb-true, ne_eqb, eq-eqb, both_ways}
use Rattle.sync_terms.specs.Trees.{Tree, Name, Formula, replaced_in}
use Rattle.sync_terms.specs.Values.{Valuation, num, mapped, Holds, with_value, with_terms, HoldsForAll}
use Rattle.sync_terms.proofs.Meaning.{truth-replaced_in}
use Rattle.sync_kernel.specs.Taking.{by_params}

-- the symbol is one of the parameters
abbrev is_param : List ℕ → ℕ → Bool
is_param ps x = list_any (λ (p : ℕ). nat_eq p x) ps

abbrev AgreeAt : Valuation → Valuation → ℕ → Type 0
AgreeAt v w x = (w.number x ≡ v.number x) × (w.mapping x ≡ v.mapping x)

same_valuation : (v w : Valuation) → ((x : ℕ) → AgreeAt v w x) → w ≡ v
same_valuation v w h = λ i. record { number = λ x. (h x).0 i; mapping = λ x. (h x).1 i }

eq_symmetric : (x p : ℕ) → nat_eq x p ≡ false → nat_eq p x ≡ false
eq_symmetric x p f = ne_eqb p x (λ e. both_ways (nat_eq x p) f (eq-eqb x p (sym e)))

one_more : (v w : Valuation) (p : ℕ) (ps : List ℕ) → ((x : ℕ) → is_param (p ∷ ps) x ≡ false → AgreeAt v w x)
    → (x : ℕ) → is_param ps x ≡ false → AgreeAt (with_value p (w.number p) (w.mapping p) v) w x
one_more v w p ps h x f = by (nat_eq x p) refl
  where
    by : (b : Bool) → nat_eq x p ≡ b → AgreeAt (with_value p (w.number p) (w.mapping p) v) w x
    by true e =
        let same : x ≡ p = eqb-true x p e in
        (ap w.number same ∙ sym (cond-true (nat_eq x p) (w.number p) (v.number x) e), ap w.mapping same ∙ sym (cond-true (nat_eq x p) (w.mapping p) (v.mapping x) e))
    by false e =
        let there = h x (or_from (nat_eq p x) (is_param ps x) (eq_symmetric x p e) f) in
        (there.0 ∙ sym (cond-false (nat_eq x p) (w.number p) (v.number x) e), there.1 ∙ sym (cond-false (nat_eq x p) (w.mapping p) (v.mapping x) e))

-- a valuation that agrees but for the parameters
agrees_holds : (ps : List ℕ) (v w : Valuation) (f : Formula) → HoldsForAll ps v f → ((x : ℕ) → is_param ps x ≡ false → AgreeAt v w x) → Holds w f
agrees_holds [] v w f h agree = subst (λ (u : Valuation). Holds u f) (sym (same_valuation v w (λ x. agree x refl))) h
agrees_holds (p ∷ ps) v w f h agree = agrees_holds ps (with_value p (w.number p) (w.mapping p) v) w f (h (w.number p) (w.mapping p)) (one_more v w p ps agree)

-- other symbols stay
other_symbol : (ps : List ℕ) (ts : List Tree) (x : ℕ) → is_param ps x ≡ false → by_params ps ts x ≡ Name x
other_symbol [] ts x h = refl
other_symbol (p ∷ ps) [] x h = refl
other_symbol (p ∷ ps) (t ∷ ts) x h =
    let apart = or_parts (nat_eq p x) (is_param ps x) h in
    cond-false (nat_eq p x) t (by_params ps ts x) apart.0 ∙ other_symbol ps ts x apart.1

pub instance_holds : (v : Valuation) (ps : List ℕ) (ts : List Tree) (f : Formula) → HoldsForAll ps v f → Holds v (replaced_in (by_params ps ts) f)
instance_holds v ps ts f h =
    truth-replaced_in (by_params ps ts) v f
    ∙ agrees_holds ps v (with_terms (by_params ps ts) v) f h (λ x apart. (let same = other_symbol ps ts x apart in (ap (num v) same, ap (mapped v) same)))
