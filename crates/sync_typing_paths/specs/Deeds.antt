-- How often threads are given and words sealed, as the code counts it.
use Rattle.std.specs.Prelude.{ℕ, zero, suc, Bool, true, false, ◌&&◌, ◌||◌, nat_eq, Option, Some, None}
use Rattle.std.specs.Bool.{beq}
use Rattle.std.specs.List.{list_all, range_with_len}
use Rattle.sync_thread.specs.Programs.{WordTree, ProofStepTree, ProofTree, Seal, Give, is_unclaimed}
use Rattle.sync_typing.specs.Environments.{on_some}
use Rattle.sync_typing.specs.Typing.{has_no_names}
use Rattle.sync_typing_paths.specs.declared.deeds.Deed.{Deed}
use Rattle.sync_typing_paths.specs.declared.deeds.Times.{Times}
use Rattle.sync_typing_paths.specs.declared.deeds.Times.TheVariants.{Once, More}

abbrev pub same_deed : Deed → Deed → Bool
same_deed d e = beq d.seals e.seals && (nat_eq d.name e.name && nat_eq d.at e.at)

abbrev pub gives : ℕ → Deed
gives n = record { seals = false; name = n; at = 0 }

abbrev pub seals : ℕ → ℕ → Deed
seals n i = record { seals = true; name = n; at = i }

abbrev pub deed_in : ProofStepTree → Option Deed
deed_in s = of s.what where
  of : ProofTree → Option Deed
  of (Give n args ss) = Some (gives n)
  of (Seal n i c) = Some (seals n i)
  of other = None

abbrev pub is_deed : Deed → ProofStepTree → Bool
is_deed d s = on_some (deed_in s) false (λ (e : Deed). same_deed e d)

abbrev pub once_more : Option Times → Times
once_more None = Once
once_more (Some t) = More

-- so many times more
abbrev pub later : Option Times → ℕ → Option Times
later t zero = t
later t (suc n) = later (Some (once_more t)) n

abbrev pub times_of : ℕ → Option Times
times_of n = later None n

abbrev pub is_once : Option Times → Bool
is_once None = false
is_once (Some Once) = true
is_once (Some More) = false

abbrev pub is_free : WordTree → Bool
is_free w = is_unclaimed w && has_no_names w.names

abbrev pub is_sealed_in : (Deed → Option Times) → WordTree → Bool
is_sealed_in times w = is_free w || list_all (λ i. is_once (times (seals w.name i))) (range_with_len 0 w.len)
