-- What replacing symbols and negating mean.
use Rattle.std.proofs.Common.{◌≡◌, ℕ, Bool, true, false, not, refl, sym, ap, ◌∙◌}
use Rattle.sync_terms.specs.Trees.{Tree, Lit, Name, Add, Sub, Scale, Get, Has, Size, Sum, Nil, Put, Del, Bump, Formula, Le, Lt, Eq, Not, And, Or, Imp, neg, replaced, replaced_in}
use Rattle.sync_terms.specs.Values.{Valuation, num, mapped, truth, with_terms}

-- a replaced term is what the term is where each symbol stands for its term
mutual
  unfolding replaced

  pub num-replaced : (f : ℕ → Tree) (v : Valuation) (t : Tree) → num v (replaced f t) ≡ num (with_terms f v) t
  num-replaced f v (Lit n) = refl
  num-replaced f v (Name y) = refl
  num-replaced f v (Add a b) = let ea = num-replaced f v a in let eb = num-replaced f v b in cc
  num-replaced f v (Sub a b) = let ea = num-replaced f v a in let eb = num-replaced f v b in cc
  num-replaced f v (Scale n a) = let ea = num-replaced f v a in cc
  num-replaced f v (Get a b) = let ea = mapped-replaced f v a in let eb = num-replaced f v b in cc
  num-replaced f v (Has a b) = let ea = mapped-replaced f v a in let eb = num-replaced f v b in cc
  num-replaced f v (Size a) = let ea = mapped-replaced f v a in cc
  num-replaced f v (Sum a) = let ea = mapped-replaced f v a in cc
  num-replaced f v Nil = refl
  num-replaced f v (Put a b c) = refl
  num-replaced f v (Del a b) = refl
  num-replaced f v (Bump a b c) = refl

  pub mapped-replaced : (f : ℕ → Tree) (v : Valuation) (t : Tree) → mapped v (replaced f t) ≡ mapped (with_terms f v) t
  mapped-replaced f v (Lit n) = refl
  mapped-replaced f v (Name y) = refl
  mapped-replaced f v (Add a b) = refl
  mapped-replaced f v (Sub a b) = refl
  mapped-replaced f v (Scale n a) = refl
  mapped-replaced f v (Get a b) = refl
  mapped-replaced f v (Has a b) = refl
  mapped-replaced f v (Size a) = refl
  mapped-replaced f v (Sum a) = refl
  mapped-replaced f v Nil = refl
  mapped-replaced f v (Put a b c) = let ea = mapped-replaced f v a in let eb = num-replaced f v b in let ec = num-replaced f v c in cc
  mapped-replaced f v (Del a b) = let ea = mapped-replaced f v a in let eb = num-replaced f v b in cc
  mapped-replaced f v (Bump a b c) = let ea = mapped-replaced f v a in let eb = num-replaced f v b in let ec = num-replaced f v c in cc

-- and so is a replaced formula
pub truth-replaced_in : (f : ℕ → Tree) (v : Valuation) (form : Formula) → truth v (replaced_in f form) ≡ truth (with_terms f v) form
unfolding truth replaced_in
truth-replaced_in r v (Le a b) = let ea = num-replaced r v a in let eb = num-replaced r v b in cc
truth-replaced_in r v (Lt a b) = let ea = num-replaced r v a in let eb = num-replaced r v b in cc
truth-replaced_in r v (Eq a b) = let ea = num-replaced r v a in let eb = num-replaced r v b in cc
truth-replaced_in r v (Not f) = let ef = truth-replaced_in r v f in cc
truth-replaced_in r v (And f g) = let ef = truth-replaced_in r v f in let eg = truth-replaced_in r v g in cc
truth-replaced_in r v (Or f g) = let ef = truth-replaced_in r v f in let eg = truth-replaced_in r v g in cc
truth-replaced_in r v (Imp f g) = let ef = truth-replaced_in r v f in let eg = truth-replaced_in r v g in cc

pub not-not : (b : Bool) → not (not b) ≡ b
not-not true = refl
not-not false = refl

-- a double negation changes nothing
pub truth-not_not : (v : Valuation) (form : Formula) → truth v (Not (Not form)) ≡ truth v form
unfolding truth
truth-not_not v form = not-not (truth v form)

pub truth-not : (v : Valuation) (form : Formula) → truth v (Not form) ≡ not (truth v form)
unfolding truth
truth-not v form = refl

pub truth-neg : (v : Valuation) (form : Formula) → truth v (neg form) ≡ not (truth v form)
unfolding truth
truth-neg v (Le a b) = refl
truth-neg v (Lt a b) = refl
truth-neg v (Eq a b) = refl
truth-neg v (Not f) = sym (not-not (truth v f))
truth-neg v (And f g) = refl
truth-neg v (Or f g) = refl
truth-neg v (Imp f g) = refl
