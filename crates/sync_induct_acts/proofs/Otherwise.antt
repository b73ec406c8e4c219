-- What the definitions of statements say of the strategies and statements that they pass over.
use Rattle.std.proofs.Common.{◌≡◌, ℕ, ◌⊎◌, inl, inr, Option, Some, None, refl, sym, ap, ◌≤◌, arith}
use Rattle.sync_terms.specs.declared.nodes.TermId.{TermId}
use Rattle.sync_terms.specs.declared.nodes.FormId.{FormId}
use Rattle.sync_terms.specs.Trees.{Tree, Formula, formula_size}
use Rattle.sync_terms.specs.Stored.{Stored}
use Rattle.sync_base.specs.declared.strategies.Strategy.{Strategy}
use Rattle.sync_base.specs.declared.strategies.Strategy.TheVariants.{Count}
use Rattle.sync_machine.specs.declared.machine.Place.{Place}
use Rattle.sync_machine.specs.declared.machine.Act.{Act}
use Rattle.sync_machine.specs.declared.machine.Act.TheVariants.{Require, Assert, Update, HaveVariable, Remove, Have, Withdraw, Guard}
use Rattle.sync_machine.specs.Statements.{amount_is_natural, both, enabling, safety, condition, after}
use Rattle.sync_machine.specs.Views.{act_tree}
use Rattle.sync_induct_acts.specs.Conditions.{condition_size}

pub natural-none : (k : Strategy) (t : Tree) → (k ≡ Count → ⊥) → None ≡ amount_is_natural k t
unfolding amount_is_natural
natural-none Count t h = absurd (h refl)
natural-none k t h = refl

module _ (s : Stored) (k : Strategy) (m : Tree) where
  pub enabling-none : (a : Act) → ((f : FormId) → a ≡ Require f → ⊥) → ((f : ℕ) (p : Place) → a ≡ Remove f p → ⊥) → ((f : ℕ) (p : Place) → a ≡ Have f p → ⊥) → None ≡ enabling k m (act_tree s a)
  unfolding enabling
  enabling-none (Require f) x y z = absurd (x f refl)
  enabling-none (Remove f p) x y z = absurd (y f p refl)
  enabling-none (Have f p) x y z = absurd (z f p refl)
  enabling-none a x y z = refl

  pub condition-both : (a : Act) → ((f : ℕ) (p : Place) → a ≡ Withdraw f p → ⊥) → ((f : ℕ) (p : Place) → a ≡ Guard f p → ⊥) → both (safety k m (act_tree s a)) (enabling k m (act_tree s a)) ≡ condition k m (act_tree s a)
  unfolding condition
  condition-both (Withdraw f p) x y = absurd (x f p refl)
  condition-both (Guard f p) x y = absurd (y f p refl)
  condition-both a x y = refl

  pub safety-none : (a : Act) → ((x : FormId) × (a ≡ Require x)) ⊎ (((x : ℕ) × (y : TermId) × (a ≡ Update x y)) ⊎ ((x : ℕ) × (a ≡ HaveVariable x))) → None ≡ safety k m (act_tree s a)
  unfolding safety
  safety-none a (inl w) = ap (λ (b : Act). safety k m (act_tree s b)) (sym w.1)
  safety-none a (inr (inl w)) = ap (λ (b : Act). safety k m (act_tree s b)) (sym w.2)
  safety-none a (inr (inr w)) = ap (λ (b : Act). safety k m (act_tree s b)) (sym w.1)

  pub after-same : (a : Act) → ((x : FormId) × (a ≡ Require x)) ⊎ (((x : FormId) × (a ≡ Assert x)) ⊎ (((x : ℕ) × (a ≡ HaveVariable x)) ⊎ (((x : ℕ) × (y : Place) × (a ≡ Have x y)) ⊎ ((x : ℕ) × (y : Place) × (a ≡ Guard x y)))))
      → m ≡ after k m (act_tree s a)
  unfolding after
  after-same a (inl w) = ap (λ (b : Act). after k m (act_tree s b)) (sym w.1)
  after-same a (inr (inl w)) = ap (λ (b : Act). after k m (act_tree s b)) (sym w.1)
  after-same a (inr (inr (inl w))) = ap (λ (b : Act). after k m (act_tree s b)) (sym w.1)
  after-same a (inr (inr (inr (inl w)))) = ap (λ (b : Act). after k m (act_tree s b)) (sym w.2)
  after-same a (inr (inr (inr (inr w)))) = ap (λ (b : Act). after k m (act_tree s b)) (sym w.2)

-- each of two conditions is no larger than both
pub both-left : (a b : Option Formula) → condition_size a ≤ condition_size (both a b)
unfolding formula_size
both-left (Some f) (Some g) = omega arith
both-left (Some f) None = omega arith
both-left None b = omega arith

pub both-right : (a b : Option Formula) → condition_size b ≤ condition_size (both a b)
unfolding formula_size
both-right (Some f) (Some g) = omega arith
both-right (Some f) None = omega arith
both-right None b = omega arith
