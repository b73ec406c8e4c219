-- How often a content of a cell is there: as a permission among all tokens, or stored.
use Rattle.std.specs.Prelude.{◌≡◌, ℕ, ◌+◌, ◌≤◌, ℤ, Bool, true, ◌&&◌, List, [], ◌∷◌, ◌++◌, length, if◌then◌else◌, ◌⊎◌, Some, Ok}
use Rattle.std.specs.List.{Contains}
use Rattle.std.specs.Ordering.{int_eq}
use Rattle.sync_machine.specs.declared.fields.Field.{Field}
use Rattle.sync_machine.specs.Machines.{OperationTree, MachineTree}
use Rattle.sync_machine.specs.States.{Value, State, IsInit, IsReached}
use Rattle.sync_rules.specs.Plain.{is_plain}
use Rattle.sync_join.specs.declared.tokens.Token.{Token}
use Rattle.sync_join.specs.Shards.{Kept, often, AreSoundShards}
use Rattle.sync_join.specs.Join.{join_of}
use Rattle.sync_exchange.specs.declared.hands.Held.{Held}
use Rattle.sync_exchange.specs.Exchange.{Exchanged, exchange_in, permission, tokens_in}
use Rattle.sync_exchange.specs.Moves.{Move, Holders, all_tokens, AreApart, IsMove}
use Rattle.sync_exchange.specs.Projection.{AreNames, ArePermissions, AreBlank, IsProved}

-- the stored object has this key and this value
abbrev pub is_content : ℤ → ℤ → Token → Bool
is_content k n t = int_eq k t.key && int_eq n t.value

-- how often a content of a cell is stored
abbrev pub stored_often : ℤ → ℤ → List Token → ℕ
stored_often k n [] = 0
stored_often k n (t ∷ ts) = (if is_content k n t then 1 else 0) + stored_often k n ts

-- how often it is there
abbrev pub there_often : ℤ → ℤ → List Token → Kept → ℕ
there_often k n bag kept = often (permission k n) bag + stored_often k n kept.stored

-- Every exchange of a transition or property keeps how often each content of each cell is there, whatever the others
-- hold.
abbrev pub PermissionsStay : Type 0
PermissionsStay = (fits : ℤ → Bool) (m : MachineTree) → IsProved m → (o : OperationTree) → Contains m.ops o
    → (IsInit o → ⊥)
    → (args : List ℤ) → length args ≡ length o.params
    → (tokens given : List ℕ) (hand : List Held) → AreNames m.fields o tokens given hand
    → (others : List Token) (kept : Kept) → AreSoundShards m.fields (tokens_in hand ++ others) kept
    → (s : State) → join_of m.fields (tokens_in hand ++ others) kept ≡ Some s → IsReached m s
    → (whole : State) → (whole ≡ s) ⊎ (is_plain m.fields o ≡ true)
    → (x : Exchanged) → exchange_in fits m.fields o args tokens given whole hand kept ≡ Ok x
    → (k n : ℤ) → there_often k n (tokens_in x.hand ++ others) x.kept ≡ there_often k n (tokens_in hand ++ others) kept

-- So does the exchange of an init.
abbrev pub FirstPermissionsStay : Type 0
FirstPermissionsStay = (fits : ℤ → Bool) (m : MachineTree) → IsProved m → (o : OperationTree) → Contains m.ops o
    → IsInit o
    → (args : List ℤ) → length args ≡ length o.params
    → (tokens given : List ℕ) (hand : List Held) → AreNames m.fields o tokens given hand
    → ArePermissions (tokens_in hand) → (kept : Kept) → AreBlank m.fields kept.records → kept.stored ≡ []
    → (whole : State) (x : Exchanged) → exchange_in fits m.fields o args tokens given whole hand kept ≡ Ok x
    → (k n : ℤ) → there_often k n (tokens_in x.hand) x.kept ≡ there_often k n (tokens_in hand) kept

-- So does every move of any holder: an exchange, a split, a merger and a copy.
abbrev pub MovesKeepPermissions : Type 0
MovesKeepPermissions = (fits : ℤ → Bool) (m : MachineTree) → IsProved m → (move : Move) (old new : Holders)
    → IsMove fits m old move new
    → AreApart old.hands → AreSoundShards m.fields (all_tokens old) old.kept
    → (s : State) → join_of m.fields (all_tokens old) old.kept ≡ Some s → IsReached m s
    → (k n : ℤ) → there_often k n (all_tokens new) new.kept ≡ there_often k n (all_tokens old) old.kept

-- ---- writes

-- A permission whose content is another one: sound shards stay sound, and make the same state.
abbrev pub WritesKeepShards : Type 0
WritesKeepShards = (fs : List Field) → length fs ≤ 32 → (k n m : ℤ) (xs ys : List Token) (kept : Kept)
    → AreSoundShards fs (xs ++ permission k n ∷ ys) kept
    → AreSoundShards fs (xs ++ permission k m ∷ ys) kept
    × (join_of fs (xs ++ permission k m ∷ ys) kept ≡ join_of fs (xs ++ permission k n ∷ ys) kept)

-- ---- a cell that is there once

-- This content of the cell is there once, and no other.
pub record IsOnly (k c : ℤ) (bag : List Token) (kept : Kept) : Type 0 where
  pub once : there_often k c bag kept ≡ 1
  pub no_other : (n : ℤ) → (n ≡ c → ⊥) → there_often k n bag kept ≡ 0

-- Where a permission of the cell is in the bag, it is the only one: there is no second, and nothing of the cell is
-- stored.
abbrev pub PermissionIsOnly : Type 0
PermissionIsOnly = (k c n : ℤ) (xs ys : List Token) (kept : Kept) → IsOnly k c (xs ++ permission k n ∷ ys) kept
    → (n ≡ c) × ((m : ℤ) → there_often k m (xs ++ ys) kept ≡ 0)

-- Where an object of the cell is stored, it is the only one: there is no permission, and no second object.
abbrev pub StoredIsOnly : Type 0
StoredIsOnly = (k c : ℤ) (bag us vs : List Token) (t : Token) (records : List Value)
    → IsOnly k c bag (record { records = records; stored = us ++ t ∷ vs }) → t.key ≡ k
    → (t.value ≡ c) × ((m : ℤ) → there_often k m bag (record { records = records; stored = us ++ vs }) ≡ 0)
