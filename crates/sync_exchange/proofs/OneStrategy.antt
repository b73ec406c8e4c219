-- Which strategies have which statements, and what follows for a field of one strategy.
use Rattle.std.proofs.Common.{◌≡◌, ℕ, ◌<◌, ◌≤◌, ℤ, pos, Bool, true, false, ◌&&◌, List, [], ◌∷◌, length, Option, Some, None, option_map, refl, sym, ap, subst, ◌∙◌, arith, nat_eq}
use Rattle.sync_join.proofs.Through.{is_other}
use Rattle.sync_terms.specs.Trees.{Tree}
use Rattle.sync_terms.specs.Values.{Valuation, num, mapped}
use Rattle.sync_base.specs.declared.strategies.Strategy.{Strategy}
use Rattle.sync_base.specs.declared.strategies.Strategy.TheVariants.{Variable, Constant, NotTokenized, Option as OptionField, Map, Set, Multiset, Count, PersistentOption, PersistentMap, PersistentSet, PersistentCount, StorageMap}
use Rattle.sync_machine.specs.Machines.{PlaceTree}
use Rattle.sync_machine.specs.Statements.{binds}
use Rattle.sync_machine.specs.States.{Value, Number, Mapped, Sort, Numbers, Maps, sort_of, value_in}
use Rattle.sync_rules.specs.declared.kinds.OpKind.TheVariants as kinds
use Rattle.sync_rules.specs.Strategies.{has_statement}
use Rattle.sync_rules.specs.Locality.{is_variable}
use Rattle.sync_rules.specs.Shapes.{fits_new, has_shape}
use Rattle.sync_join.specs.declared.tokens.Token.{Token}
use Rattle.sync_join.specs.Shards.{perm, IsOf}
use Rattle.sync_join.specs.Join.{joined, only_value, as_map, number_of}
use Rattle.sync_exchange.proofs.Terms.{and_right}
use Rattle.sync_exchange.proofs.Strategies.{as_map_is, only_is}

pub variable-only : (s : Strategy) → is_variable s ≡ true → s ≡ Variable
variable-only Variable e = refl
variable-only Constant e = absurd (cc)
variable-only NotTokenized e = absurd (cc)
variable-only OptionField e = absurd (cc)
variable-only Map e = absurd (cc)
variable-only Set e = absurd (cc)
variable-only Multiset e = absurd (cc)
variable-only Count e = absurd (cc)
variable-only PersistentOption e = absurd (cc)
variable-only PersistentMap e = absurd (cc)
variable-only PersistentSet e = absurd (cc)
variable-only PersistentCount e = absurd (cc)
variable-only StorageMap e = absurd (cc)

pub not-removed : (s : Strategy) → is_variable s ≡ true → has_statement s kinds.Remove ≡ false
not-removed s e = ap (λ z. has_statement z kinds.Remove) (variable-only s e)

pub storage-only : (s : Strategy) → has_statement s kinds.Guard ≡ true → s ≡ StorageMap
storage-only Variable e = absurd (cc)
storage-only Constant e = absurd (cc)
storage-only NotTokenized e = absurd (cc)
storage-only OptionField e = absurd (cc)
storage-only Map e = absurd (cc)
storage-only Set e = absurd (cc)
storage-only Multiset e = absurd (cc)
storage-only Count e = absurd (cc)
storage-only PersistentOption e = absurd (cc)
storage-only PersistentMap e = absurd (cc)
storage-only PersistentSet e = absurd (cc)
storage-only PersistentCount e = absurd (cc)
storage-only StorageMap e = refl

pub deposit-guard : (s : Strategy) → has_statement s kinds.Deposit ≡ true → has_statement s kinds.Guard ≡ true
deposit-guard Variable e = absurd (cc)
deposit-guard Constant e = absurd (cc)
deposit-guard NotTokenized e = absurd (cc)
deposit-guard OptionField e = absurd (cc)
deposit-guard Map e = absurd (cc)
deposit-guard Set e = absurd (cc)
deposit-guard Multiset e = absurd (cc)
deposit-guard Count e = absurd (cc)
deposit-guard PersistentOption e = absurd (cc)
deposit-guard PersistentMap e = absurd (cc)
deposit-guard PersistentSet e = absurd (cc)
deposit-guard PersistentCount e = absurd (cc)
deposit-guard StorageMap e = refl

pub withdraw-guard : (s : Strategy) → has_statement s kinds.Withdraw ≡ true → has_statement s kinds.Guard ≡ true
withdraw-guard Variable e = absurd (cc)
withdraw-guard Constant e = absurd (cc)
withdraw-guard NotTokenized e = absurd (cc)
withdraw-guard OptionField e = absurd (cc)
withdraw-guard Map e = absurd (cc)
withdraw-guard Set e = absurd (cc)
withdraw-guard Multiset e = absurd (cc)
withdraw-guard Count e = absurd (cc)
withdraw-guard PersistentOption e = absurd (cc)
withdraw-guard PersistentMap e = absurd (cc)
withdraw-guard PersistentSet e = absurd (cc)
withdraw-guard PersistentCount e = absurd (cc)
withdraw-guard StorageMap e = refl

pub update-cases : (s : Strategy) (P : Type 0) → has_statement s kinds.Update ≡ true → (s ≡ Variable → P) → (s ≡ NotTokenized → P) → P
update-cases Variable P e one other = one refl
update-cases NotTokenized P e one other = other refl
update-cases Constant P e one other = absurd (cc)
update-cases OptionField P e one other = absurd (cc)
update-cases Map P e one other = absurd (cc)
update-cases Set P e one other = absurd (cc)
update-cases Multiset P e one other = absurd (cc)
update-cases Count P e one other = absurd (cc)
update-cases PersistentOption P e one other = absurd (cc)
update-cases PersistentMap P e one other = absurd (cc)
update-cases PersistentSet P e one other = absurd (cc)
update-cases PersistentCount P e one other = absurd (cc)
update-cases StorageMap P e one other = absurd (cc)

pub nothing-bound : (s : Strategy) (p : PlaceTree) → fits_new s p ≡ true → binds p ≡ None
nothing-bound s p e = none (binds p) (and_right (has_shape s p) _ e) where
  none : (o : Option ℕ) → Rattle.std.proofs.Common.is_none o ≡ true → o ≡ None
  none None e = refl
  none (Some x) e = absurd (cc)

-- ---- a field of one strategy

pub stored-map : (s : Strategy) (v : Valuation) (t : Tree) (ts : List Token) (r : Value) (st : List Token) → s ≡ StorageMap → joined s ts r st ≡ Some (value_in v (sort_of s) t) → as_map st ≡ Some (mapped v t)
unfolding sort_of
stored-map s v t ts r st is e = as_map_is (as_map st) (mapped v t) (subst (λ z. joined z ts r st ≡ Some (value_in v (sort_of z) t)) is e)

pub map-stored : (s : Strategy) (v : Valuation) (t : Tree) (ts : List Token) (r : Value) (st : List Token) → s ≡ StorageMap → as_map st ≡ Some (mapped v t) → joined s ts r st ≡ Some (value_in v (sort_of s) t)
unfolding sort_of
map-stored s v t ts r st is e = subst (λ z. joined z ts r st ≡ Some (value_in v (sort_of z) t)) (sym is) (ap (option_map Mapped) e)

pub only-variable : (s : Strategy) (v : Valuation) (t : Tree) (ts : List Token) (r : Value) (st : List Token) → s ≡ Variable → joined s ts r st ≡ Some (value_in v (sort_of s) t) → only_value ts ≡ Some (num v t)
unfolding sort_of
only-variable s v t ts r st is e = only_is (only_value ts) (num v t) (subst (λ z. joined z ts r st ≡ Some (value_in v (sort_of z) t)) is e)

pub variable-only-value : (s : Strategy) (v : Valuation) (t : Tree) (ts : List Token) (r : Value) (st : List Token) → s ≡ Variable → only_value ts ≡ Some (num v t) → joined s ts r st ≡ Some (value_in v (sort_of s) t)
unfolding sort_of
variable-only-value s v t ts r st is e = subst (λ z. joined z ts r st ≡ Some (value_in v (sort_of z) t)) (sym is) (ap (option_map Number) e)

pub variable-number : (s : Strategy) (v : Valuation) (t : Tree) → s ≡ Variable → number_of (value_in v (sort_of s) t) ≡ num v t
unfolding sort_of
variable-number s v t is = subst (λ z. number_of (value_in v (sort_of z) t) ≡ num v t) (sym is) refl

pub value-sort : (s : Sort) (v : Valuation) (t : Tree) → IsOf s (value_in v s t)
value-sort Numbers v t = tt
value-sort Maps v t = tt

-- ---- permissions

pub perm-other : (n f g : ℕ) → n ≤ 32 → g < n → f ≡ perm → nat_eq f g ≡ false
perm-other n f g few lt is = is_other f g (λ e. omega (arith, few, lt, is, e))
