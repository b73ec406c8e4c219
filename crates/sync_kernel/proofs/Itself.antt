-- Where no name stands for anything, each symbol stands for itself.
use Rattle.std.proofs.Common.{◌≡◌, ℕ, List, [], ◌∷◌, map, length, refl, ap, ◌∙◌, arith}
use Rattle.std.specs.Prelude.{option_map, unwrap_or}
use Rattle.std.specs.Option.{option_map_or}
use Rattle.sync_terms.specs.Trees.{Tree, Lit, Name, Add, Sub, Scale, Get, Has, Size, Sum, Nil, Put, Del, Bump, Formula, Le, Lt, Eq, Not, And, Or, Imp, replaced, replaced_in}
use Rattle.sync_terms.specs.Plans as plan
use Rattle.sync_terms.specs.Plans.{Plan}
use Rattle.sync_terms.specs.Stored.{Stored}
use Rattle.sync_typing_ledgers.specs.Entries.{Kept, Entry, found_at, newest}
use Rattle.sync_typing_reading.specs.declared.sayings.Saying.TheVariants as says
use Rattle.sync_typing_reading.specs.Sayings.{said_by, said_tree, stands_in}
use Rattle.sync_kernel.specs.Replaced.{plan_replaced}

pub itself : (t : Tree) → replaced Name t ≡ t
unfolding replaced
itself (Lit n) = refl
itself (Name x) = refl
itself (Add a b) = let p = itself a in let q = itself b in cc
itself (Sub a b) = let p = itself a in let q = itself b in cc
itself (Scale n a) = let p = itself a in cc
itself (Get a b) = let p = itself a in let q = itself b in cc
itself (Has a b) = let p = itself a in let q = itself b in cc
itself (Size a) = let p = itself a in cc
itself (Sum a) = let p = itself a in cc
itself Nil = refl
itself (Put a b c) = let p = itself a in let q = itself b in let r = itself c in cc
itself (Del a b) = let p = itself a in let q = itself b in cc
itself (Bump a b c) = let p = itself a in let q = itself b in let r = itself c in cc

pub formula_itself : (f : Formula) → replaced_in Name f ≡ f
unfolding replaced_in
formula_itself (Le a b) = let p = itself a in let q = itself b in cc
formula_itself (Lt a b) = let p = itself a in let q = itself b in cc
formula_itself (Eq a b) = let p = itself a in let q = itself b in cc
formula_itself (Not f) = let p = formula_itself f in cc
formula_itself (And f g) = let p = formula_itself f in let q = formula_itself g in cc
formula_itself (Or f g) = let p = formula_itself f in let q = formula_itself g in cc
formula_itself (Imp f g) = let p = formula_itself f in let q = formula_itself g in cc

all_itself : (ts : List Tree) → map (replaced Name) ts ≡ ts
all_itself [] = refl
all_itself (t ∷ ts) = ap (λ (x : Tree). x ∷ map (replaced Name) ts) (itself t) ∙ ap (λ (xs : List Tree). t ∷ xs) (all_itself ts)

pub plan_itself : (p : Plan) → plan_replaced Name p ≡ p
plan_itself (plan.End line) = refl
plan_itself (plan.Same line rest) = let r = plan_itself rest in cc
plan_itself (plan.Sum line parts rest) = let r = plan_itself rest in cc
plan_itself (plan.Inst line hyp terms name rest) = let t = all_itself terms in let r = plan_itself rest in cc
plan_itself (plan.Parts line hyp left right rest) = let r = plan_itself rest in cc
plan_itself (plan.Split line hyp name one two rest) = let a = plan_itself one in let b = plan_itself two in let r = plan_itself rest in cc
plan_itself (plan.Cut line form name block rest) = let f = formula_itself form in let b = plan_itself block in let r = plan_itself rest in cc
plan_itself (plan.Read line m k name rest) = let p = itself m in let q = itself k in let r = plan_itself rest in cc
plan_itself (plan.Size line m k name rest) = let p = itself m in let q = itself k in let r = plan_itself rest in cc
plan_itself (plan.Total line m k name rest) = let p = itself m in let q = itself k in let r = plan_itself rest in cc
plan_itself (plan.Cong line m j k name rest) = let p = itself m in let q = itself j in let o = itself k in let r = plan_itself rest in cc

pub no_names : (s : Stored) (k : Kept) → length k.entries ≡ 0 → stands_in s k ≡ Name
no_names s k e = λ i x. by x k.entries e i
  where
    by : (x : ℕ) (es : List Entry) → length es ≡ 0 → unwrap_or (said_tree s x (option_map_or (said_by x) (option_map (found_at k.floor) (newest x es)) says.Nothing)) (Name x) ≡ Name x
    by x [] e = refl
    by x (y ∷ ys) e = absurd (omega arith)
