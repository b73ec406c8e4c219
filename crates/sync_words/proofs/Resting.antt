-- That some state of the table has a seat: at the start, behind a step and behind a cut.
use Rattle.std.proofs.Common.{◌≡◌, ℕ, Bool, not, List, [], ◌∷◌, length, set, refl, length-set, ltb, leb}
use mathlib.Core.Logic.{∥∥₁_elim}
use Rattle.atomic_table.specs.Table.{opening}
use Rattle.atomic_table.proofs.Lists.{at_longer, at_last}
use Rattle.sync_words.specs.declared.entries.Entry.{Entry}
use Rattle.sync_words.specs.declared.rule.View.{View}
use Rattle.sync_words.specs.Views.{opened, part, below, from, Listed}
use Rattle.sync_words.specs.Rule.{Stands, IsSeated}
use Rattle.sync_words.proofs.Fitting.{list_of}
use Rattle.sync_words.proofs.Keeping.{opens, splits, set_there}
use Rattle.sync_words.proofs.Stepping.{test_apart}

pub rests_opened : (words : List ℕ) (threads : ℕ) → IsSeated (opened words threads)
unfolding IsSeated
rests_opened words threads = (opening words [] (opened words threads), opens words threads, (0, refl))

pub rests_stood : (v : View) (e : Entry) → Stands v e → ∥ IsSeated v ∥₁
unfolding IsSeated
rests_stood v e s = ∣ (s.state, s.rule, s.seat) ∣₁

-- a seat of some state has a list
pub listed_rests : (v : View) → ∥ IsSeated v ∥₁ → ∥ Listed v ∥₁
unfolding IsSeated
listed_rests v rests = ∥∥₁_elim rests (hlevel) (λ (x : IsSeated v). ∣ (x.1.entries, list_of x.1.entries v x.1.legal (x.1.fits x.2.0 v x.2.1) x.1.known) ∣₁)

rests_parts : (test other : ℕ → Bool) → ((t : ℕ) → other t ≡ not (test t)) → (v : View) → IsSeated v → IsSeated (part test v) × IsSeated (part other v)
unfolding IsSeated
rests_parts test other apart v (s, k, there) =
    let id = there.0 in
    let front = set s.views id (part test v) in
    let after = splits v.words v.threads s k test other apart id v there.1 in (
      (_, after, (id, at_longer front (part other v ∷ []) id (part test v) (set_there s.views id v (part test v) there.1))),
      (_, after, (length s.views, at_last front (part other v) (length s.views) (length-set s.views id (part test v)))),
    )

rests_cut : (at : ℕ) (v : View) → IsSeated v → IsSeated (below at v) × IsSeated (from at v)
rests_cut at v rests = rests_parts (λ n. ltb n at) (λ n. leb at n) (test_apart at) v rests

pub rests_below : (at : ℕ) (v : View) → ∥ IsSeated v ∥₁ → ∥ IsSeated (below at v) ∥₁
rests_below at v rests = ∥∥₁_elim rests (hlevel) (λ (x : IsSeated v). ∣ (rests_cut at v x).0 ∣₁)

pub rests_from : (at : ℕ) (v : View) → ∥ IsSeated v ∥₁ → ∥ IsSeated (from at v) ∥₁
rests_from at v rests = ∥∥₁_elim rests (hlevel) (λ (x : IsSeated v). ∣ (rests_cut at v x).1 ∣₁)
