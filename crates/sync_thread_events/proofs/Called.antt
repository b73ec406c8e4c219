-- Code that fits, from its start on: it is never stuck, and when nothing comes of an event.
use Rattle.std.proofs.Common.{◌≡◌, inl, inr, ℕ, Bool, true, false, [], ◌∷◌, ◌++◌, Ok, Err, refl, sym, ap, ◌∙◌, subst}
use Rattle.sync_base.specs.Outcome.{◌>>=◌}
use Rattle.sync_thread.specs.declared.operands.Moved.{Moved}
use Rattle.sync_thread.specs.declared.program.Code.{Code}
use Rattle.sync_thread.specs.Control.{Broken, event, events, waits_at}
use Rattle.sync_thread.specs.Code.{code_meaning, CodeTree, erased_start, Fits}
use Rattle.sync_thread.specs.Views.{code_tree}
use Rattle.sync_thread_events.specs.declared.endings.Halted.{Halted}
use Rattle.sync_thread_events.specs.declared.endings.Halted.TheVariants.{Stuck}
use Rattle.sync_thread_events.specs.declared.moments.Moment.{Moment}
use Rattle.sync_thread_events.specs.Calls.{HasNoEvent, IsLeft, MovesUnless}
use Rattle.sync_thread_events.specs.Moments.{config_of, IsMomentOf, moved_if}
use Rattle.sync_thread_events.specs.Moves.{Halts}
use Rattle.sync_thread_events.proofs.Schedules.{after_more, final_block_waits_last}

-- as the stop says
pub stuck_so : (P : Type 0) (h : Halted) → h ≡ Stuck → Halts P h → P
stuck_so P h is halts = subst (Halts P) is halts

pub starts_well : (x : CodeTree) → Fits x → erased_start x ≡ Err Broken → ⊥
starts_well x fits stuck = fits.goes [] (ap (λ q. q >>= events (code_meaning x) []) stuck)

pub goes_well : (x : Code) (m : Moment) (t : ℕ) → Fits (code_tree x) → IsLeft x m
    → event (code_meaning (code_tree x)) t (config_of x m) ≡ Err Broken → ⊥
goes_well x m t fits left stuck =
    fits.goes (left.sigma ++ t ∷ []) (after_more (code_tree x) left.sigma t (config_of x m) (Err Broken) left.leaves stuck)

pub left_first : (x : Code) (m : Moment) → IsMomentOf x m → erased_start (code_tree x) ≡ Ok (config_of x m) → IsLeft x m
left_first x m made starts = record {
  made = made;
  sigma = [];
  leaves = ap (λ q. q >>= events (code_meaning (code_tree x)) []) starts;
}

pub left_more : (x : Code) (m n : Moment) (t : ℕ) → IsLeft x m → IsMomentOf x n
    → event (code_meaning (code_tree x)) t (config_of x m) ≡ Ok (config_of x n) → IsLeft x n
left_more x m n t left made goes = record {
  made = made;
  sigma = left.sigma ++ t ∷ [];
  leaves = after_more (code_tree x) left.sigma t (config_of x m) (Ok (config_of x n)) left.leaves goes;
}

-- nothing comes exactly of these events
pub moved_so : (x : Code) (m : Moment) (t : ℕ) (moved : Moved) → IsLeft x m → moved ≡ moved_if (waits_at t (config_of x m).places)
    → MovesUnless (HasNoEvent (code_tree x) t (config_of x m)) moved
moved_so x m t moved left is =
    subst (MovesUnless (HasNoEvent (code_tree x) t (config_of x m))) (sym is) (by (waits_at t (config_of x m).places) refl) where
      by : (b : Bool) → waits_at t (config_of x m).places ≡ b → MovesUnless (HasNoEvent (code_tree x) t (config_of x m)) (moved_if b)
      by false rests = inl rests
      by true waits = no where
        no : HasNoEvent (code_tree x) t (config_of x m) → ⊥
        no (inl rests) = let both : true ≡ false = sym waits ∙ rests in absurd cc
        no (inr (final, u, still)) =
            final_block_waits_last (code_tree x) left.sigma (config_of x m) left.leaves
            (subst (λ n. waits_at n (config_of x m).places ≡ true) final waits) u still
