-- What a step names, as the names say: sizes of facts on maps, and plans over a store that grows.
use Rattle.std.proofs.Common.{◌≡◌, ℕ, ◌+◌, ◌≤◌, List, [], ◌∷◌, map, Result, Ok, Err, refl, sym, ap, subst, arith}
use Rattle.std.specs.Prelude.{IfErr, IsErrAnd}
use Rattle.sync_terms.specs.declared.store.TermStop.{TermStop}
use Rattle.sync_terms.specs.Trees.{Tree, Lit, Name, Add, Sub, Scale, Get, Has, Size, Sum, Nil, Put, Del, Bump, tree_size, formula_size, replaced}
use Rattle.sync_terms.specs.declared.nodes.TermId.{TermId}
use Rattle.sync_terms.specs.declared.scripts.HypName.{HypName}
use Rattle.sync_terms.specs.Stored.{Stored, tree}
use Rattle.sync_terms.specs.Plans.{Plan, Inst}
use Rattle.sync_typing_ledgers.specs.Entries.{Kept}
use Rattle.sync_typing_reading.specs.Sayings.{stands_in}
use Rattle.sync_kernel_facts.specs.Facts.{Fact}
use Rattle.sync_kernel.specs.Replaced.{plan_replaced}
use Rattle.sync_kernel.specs.Readings.{tree_read, trees_read}
use Rattle.sync_kernel.specs.Scripts.{with_instance, going, block_fault}
use Rattle.sync_kernel_facts.specs.Lemmas.{cong_fact, read_fact, size_fact, total_fact}

-- a fact on a map is larger than its terms together
pub read_fits : (m k : Tree) → tree_size m + tree_size k ≤ formula_size (read_fact m k)
unfolding tree_size formula_size
read_fits (Lit n) k = omega arith
read_fits (Name x) k = omega arith
read_fits (Add a b) k = omega arith
read_fits (Sub a b) k = omega arith
read_fits (Scale n a) k = omega arith
read_fits (Get a b) k = omega arith
read_fits (Has a b) k = omega arith
read_fits (Size a) k = omega arith
read_fits (Sum a) k = omega arith
read_fits Nil k = omega arith
read_fits (Put m j w) k = omega arith
read_fits (Del m j) k = omega arith
read_fits (Bump m j n) k = omega arith

pub size_fits : (m k : Tree) → tree_size m + tree_size k ≤ formula_size (size_fact m k)
unfolding tree_size formula_size
size_fits m k = omega arith

pub total_fits : (m k : Tree) → tree_size m + tree_size k ≤ formula_size (total_fact m k)
unfolding tree_size formula_size
total_fits m k = omega arith

pub cong_fits : (m j k : Tree) → tree_size m + (tree_size j + tree_size k) ≤ formula_size (cong_fact m j k)
unfolding tree_size formula_size
cong_fits m j k = omega arith

-- a stop that was handed on
pub if_err : {A : Type 0} (P : TermStop → Type 0) (e : TermStop) (r : Result A TermStop) → IsErrAnd r (λ y. y ≡ e) → P e → IfErr r P
if_err P e (Ok x) was h = tt
if_err P e (Err y) was h = subst P (sym was) h

-- the terms of a step, replaced one by one
reads : (s : Stored) (k : Kept) (ids : List TermId) → map (replaced (stands_in s k)) (map (tree s) ids) ≡ trees_read s k ids
reads s k [] = refl
reads s k (x ∷ xs) = ap (λ (ts : List Tree). tree_read s k x ∷ ts) (reads s k xs)

-- `inst` before the rest of its block
pub inst_reads : (s : Stored) (k : Kept) (facts : List Fact) (line : ℕ) (hyp : HypName) (ids : List TermId) (name : ℕ) (rest : Plan)
    → block_fault facts (plan_replaced (stands_in s k) (Inst line hyp (map (tree s) ids) name rest))
    ≡ going line (with_instance facts hyp (trees_read s k ids) name) (λ (known : List Fact). block_fault known (plan_replaced (stands_in s k) rest))
inst_reads s k facts line hyp ids name rest =
    ap (λ (ts : List Tree). going line (with_instance facts hyp ts name) (λ (known : List Fact). block_fault known (plan_replaced (stands_in s k) rest))) (reads s k ids)
