-- What a branch keeps of its stack.
use Rattle.std.specs.Prelude.{◌≡◌, ℕ, ◌+◌, ◌<◌, List, map, length, take, slice_index_or}
use Rattle.sync_kernel_facts.specs.declared.branches.Said.{Said}
use Rattle.sync_kernel_facts.specs.declared.branches.Held.{Held}
use Rattle.sync_kernel_facts.specs.Branches.{place_from, said_size, capped}

abbrev pub saids : List Held → List Said
saids hs = map (λ (h : Held). h.said) hs

-- each fact has the place of the fact that it hides, and the nodes of all facts up to it
pub record IsStack (hs : List Held) : Type 0 where
  pub hides : (i : ℕ) (d : Held) → i < length hs → (slice_index_or hs i d).hides ≡ place_from 0 (slice_index_or hs i d).said.name (take i (saids hs))
  pub totals : (i : ℕ) (d : Held) → i < length hs → (slice_index_or hs i d).total ≡ capped (said_size (take (i + 1) (saids hs)))
