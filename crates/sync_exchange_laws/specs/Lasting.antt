-- Permissions through lists of moves: how often each content of each cell is there stays, and after an init it is once.
use Rattle.std.specs.Prelude.{◌≡◌, ℕ, ℤ, Bool, List, [], ◌∷◌, length, ◌⊎◌, Some, Ok}
use Rattle.std.specs.List.{Contains}
use Rattle.sync_machine.specs.Machines.{OperationTree, MachineTree}
use Rattle.sync_machine.specs.States.{State, IsInit, IsReached}
use Rattle.sync_join.specs.declared.tokens.Token.{Token}
use Rattle.sync_join.specs.Shards.{Kept, often, AreSoundShards}
use Rattle.sync_join.specs.Join.{join_of}
use Rattle.sync_exchange.specs.declared.hands.Held.{Held}
use Rattle.sync_exchange.specs.Exchange.{Exchanged, exchange_in, permission, tokens_in}
use Rattle.sync_exchange.specs.Moves.{Move, Holders, all_tokens, AreApart, AreMoves}
use Rattle.sync_exchange.specs.Projection.{AreNames, ArePermissions, AreBlank, IsProved}
use Rattle.sync_exchange_laws.specs.Permissions.{there_often, IsOnly}

-- A list of moves by any holders, between which tokens pass from hand to hand, keeps how often each content of each
-- cell is there.
abbrev pub RunsKeepPermissions : Type 0
RunsKeepPermissions = (fits : ℤ → Bool) (m : MachineTree) → IsProved m → (moves : List Move) (old new : Holders)
    → AreMoves fits m old moves new
    → AreApart old.hands → AreSoundShards m.fields (all_tokens old) old.kept
    → (s : State) → join_of m.fields (all_tokens old) old.kept ≡ Some s → IsReached m s
    → (k n : ℤ) → there_often k n (all_tokens new) new.kept ≡ there_often k n (all_tokens old) old.kept

-- no content of the cell is there, or one content, once
abbrev pub IsOnceAtMost : ℤ → List Token → Kept → Type 0
IsOnceAtMost k bag kept = ((n : ℤ) → there_often k n bag kept ≡ 0) ⊎ ((c : ℤ) × IsOnly k c bag kept)

-- What is there behind an init and any moves: each content of each cell as often as in the hand of the init, and so
-- each cell once at most.
pub record IsGivenOnce (first : List Token) (bag : List Token) (kept : Kept) : Type 0 where
  pub as_given : (k n : ℤ) → there_often k n bag kept ≡ often (permission k n) first
  pub once_at_most : (k : ℤ) → IsOnceAtMost k bag kept

-- The exchange of an init by a holder of permissions alone, of each cell at most one, and then any list of moves: each
-- permission is there as it was given, once at most.
abbrev pub StartsGiveOnce : Type 0
StartsGiveOnce = (fits : ℤ → Bool) (m : MachineTree) → IsProved m → (o : OperationTree) → Contains m.ops o → IsInit o
    → (args : List ℤ) → length args ≡ length o.params
    → (tokens given : List ℕ) (hand : List Held) → AreNames m.fields o tokens given hand
    → ArePermissions (tokens_in hand) → (kept : Kept) → AreBlank m.fields kept.records → kept.stored ≡ []
    → (whole : State) (x : Exchanged) → exchange_in fits m.fields o args tokens given whole hand kept ≡ Ok x
    → (moves : List Move) (new : Holders)
    → AreMoves fits m (record { hands = x.hand ∷ []; loose = []; kept = x.kept }) moves new
    → IsGivenOnce (tokens_in hand) (all_tokens new) new.kept
