-- What becomes of records, strategy by strategy.
use Rattle.std.proofs.Common.{◌≡◌, ℕ, ℤ, ◌⊎◌, inl, inr, Result, Ok, Err, OnOk, ap, ◌∙◌}
use Rattle.sync_terms.specs.Maps.{put}
use Rattle.sync_base.specs.declared.strategies.Strategy.{Strategy}
use Rattle.sync_base.specs.declared.strategies.Strategy.TheVariants.{Constant, NotTokenized, PersistentOption, PersistentMap, PersistentSet}
use Rattle.sync_machine.specs.States.{Value, Mapped}
use Rattle.sync_join.specs.Join.{entries_of}
use Rattle.sync_exchange.specs.Exchange.{Exchanging, raised, started, recording}

-- an answer that leaves what is the same leaves it
pub on-same : {A E : Type 0} {b b' : A} (a : A) (r : Result (Unit {0}) E) → b ≡ b' → OnOk r (a ≡ b) → OnOk r (a ≡ b')
on-same a (Ok x) e h = h ∙ e
on-same a (Err x) e h = tt

pub raised-entry : (s : Strategy) (r : Value) (k n : ℤ) → (s ≡ PersistentOption) ⊎ (s ≡ PersistentMap) → raised s r k n ≡ Mapped (put (entries_of r) k n)
raised-entry s r k n (inl e) = ap (λ q. raised q r k n) e
raised-entry s r k n (inr e) = ap (λ q. raised q r k n) e

pub started-record : (s : Strategy) (f : ℕ) (v : Value) (x : Exchanging) → (s ≡ Constant) ⊎ ((s ≡ NotTokenized) ⊎ ((s ≡ PersistentOption) ⊎ ((s ≡ PersistentMap) ⊎ (s ≡ PersistentSet)))) → started s f v x ≡ recording f v x
started-record s f v x (inl e) = ap (λ q. started q f v x) e
started-record s f v x (inr (inl e)) = ap (λ q. started q f v x) e
started-record s f v x (inr (inr (inl e))) = ap (λ q. started q f v x) e
started-record s f v x (inr (inr (inr (inl e)))) = ap (λ q. started q f v x) e
started-record s f v x (inr (inr (inr (inr e)))) = ap (λ q. started q f v x) e
