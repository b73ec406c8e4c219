-- Holders of the tokens of one machine, and the moves that any of them makes.
use Rattle.std.specs.Prelude.{◌≡◌, ◌≢◌, ℕ, ℤ, pos, ◌≤ℤ◌, List, [], ◌∷◌, ◌++◌, length, map, flat_map, count_by, Bool, true, ◌⊎◌, Some, Ok, nat_eq}
use Rattle.std.specs.List.{AllByRecursion, Contains, IsDistinct}
use Rattle.sync_machine.specs.declared.fields.Field.{Field}
use Rattle.sync_base.specs.declared.strategies.Strategy.TheVariants.{Count}
use Rattle.sync_machine.specs.Machines.{OperationTree, MachineTree}
use Rattle.sync_machine.specs.States.{State, IsInit, strategy_at}
use Rattle.sync_join.specs.declared.tokens.Token.{Token}
use Rattle.sync_join.specs.Shards.{Kept, often}
use Rattle.sync_join.specs.Join.{join_of}
use Rattle.sync_rules.specs.Slots.{SlotTree, slots_of}
use Rattle.sync_exchange.specs.declared.hands.Held.{Held}
use Rattle.sync_exchange.specs.Exchange.{held_as, tokens_in, exchange_in}
use Rattle.sync_rules.specs.Plain.{is_plain}
use Rattle.sync_exchange.specs.Projection.{names_token, names_new, is_among}
use Rattle.sync_exchange.specs.Splitting.{split_of, merged_of, copied_of, is_persistent}

-- What a holder does: an exchange, with the state that it says is the whole; or a token of its hand is split, two are
-- merged, or one is copied.
pub data Move : Type 0 where
  Exchange : (o : OperationTree) (args : List ℤ) (tokens given : List ℕ) (whole : State) → Move
  Split : (name : ℕ) (amount : ℤ) (first second : ℕ) → Move
  Merge : (a b into : ℕ) → Move
  Copy : (name new : ℕ) → Move

-- The hand of each holder; loose tokens, which have no names: what no hand has any more or not yet, and what holders have
-- that are not told of; and what is kept beside all tokens.
pub record Holders : Type 0 where
  pub hands : List (List Held)
  pub loose : List Token
  pub kept : Kept

-- the tokens of all hands, in order, and then the loose ones
abbrev pub bag_of : List (List Held) → List Token → List Token
bag_of hands loose = flat_map tokens_in hands ++ loose

abbrev pub all_tokens : Holders → List Token
all_tokens h = bag_of h.hands h.loose

-- no name stands twice in a hand
abbrev pub IsApart : List Held → Type 0
IsApart hand = IsDistinct nat_eq (map (λ (h : Held). h.name) hand)

-- so it is in each hand; two hands may have the same name
abbrev pub AreApart : List (List Held) → Type 0
AreApart hands = AllByRecursion IsApart hands

-- ---- what a move asks, and what it leaves

-- As many names as the slots of an operation want; the new ones differ, and none of them is held.
pub record AreWanted (fs : List Field) (o : OperationTree) (tokens given : List ℕ) (hand : List Held) : Type 0 where
  pub enough_tokens : length tokens ≡ count_by (λ (s : SlotTree). names_token s.role) (slots_of fs o)
  pub enough_given : length given ≡ count_by (λ (s : SlotTree). names_new s.role) (slots_of fs o)
  pub given_apart : IsDistinct nat_eq given
  pub given_new : (name : ℕ) → Contains given name → is_among name hand → ⊥

-- The exchange of a transition or property of the machine, with as many arguments as parameters. What is said of the
-- whole is the state of which all tokens are the shards, unless the operation is plain.
pub record IsExchange (fits : ℤ → Bool) (m : MachineTree) (bag : List Token) (o : OperationTree) (args : List ℤ) (tokens given : List ℕ) (whole : State)
    (hand : List Held) (kept : Kept) (left : List Held) (rest : Kept) : Type 0 where
  pub declared : Contains m.ops o
  pub no_init : IsInit o → ⊥
  pub enough : length args ≡ length o.params
  pub wanted : AreWanted m.fields o tokens given hand
  pub said : (join_of m.fields bag kept ≡ Some whole) ⊎ (is_plain m.fields o ≡ true)
  -- the values of the names that it binds
  pub bound : List ℤ
  pub leaves : exchange_in fits m.fields o args tokens given whole hand kept ≡ Ok (record { hand = left; kept = rest; bound = bound })

-- A held token of a count is split at an amount that it has; the new names differ, and neither is held.
pub record IsSplit (fs : List Field) (name : ℕ) (amount : ℤ) (first second : ℕ) (hand left : List Held) : Type 0 where
  pub token : Token
  pub held : held_as name hand ≡ Some token
  pub counted : strategy_at fs token.field ≡ Count
  pub natural : pos 0 ≤ℤ amount
  pub within : amount ≤ℤ token.value
  pub apart : first ≢ second
  pub first_new : is_among first hand → ⊥
  pub second_new : is_among second hand → ⊥
  pub leaves : left ≡ split_of name token amount first second hand

-- Two different held tokens of one count are merged; the new name is not held.
pub record IsMerger (fs : List Field) (a b into : ℕ) (hand left : List Held) : Type 0 where
  pub token : Token
  pub other : Token
  pub held : held_as a hand ≡ Some token
  pub other_held : held_as b hand ≡ Some other
  pub apart : a ≢ b
  pub one_field : other.field ≡ token.field
  pub counted : strategy_at fs token.field ≡ Count
  pub into_new : is_among into hand → ⊥
  pub leaves : left ≡ merged_of a token b other into hand

-- A held token of a persistent field is copied; the new name is not held.
pub record IsCopy (fs : List Field) (name new : ℕ) (hand left : List Held) : Type 0 where
  pub token : Token
  pub held : held_as name hand ≡ Some token
  pub persistent : is_persistent (strategy_at fs token.field) ≡ true
  pub not_held : is_among new hand → ⊥
  pub leaves : left ≡ copied_of token new hand

-- A move of the holder of one hand, where the tokens of all are this bag. An exchange alone changes what is kept.
abbrev pub Does : (ℤ → Bool) → MachineTree → List Token → Move → List Held → Kept → List Held → Kept → Type 0
Does fits m bag (Exchange o args tokens given whole) hand kept left rest = IsExchange fits m bag o args tokens given whole hand kept left rest
Does fits m bag (Split name amount first second) hand kept left rest = IsSplit m.fields name amount first second hand left × (rest ≡ kept)
Does fits m bag (Merge a b into) hand kept left rest = IsMerger m.fields a b into hand left × (rest ≡ kept)
Does fits m bag (Copy name new) hand kept left rest = IsCopy m.fields name new hand left × (rest ≡ kept)

-- ---- moves of any holder

-- One holder makes a move, and all other hands and the loose tokens stay as they are.
pub record IsMove (fits : ℤ → Bool) (m : MachineTree) (old : Holders) (move : Move) (new : Holders) : Type 0 where
  pub before : List (List Held)
  pub hand : List Held
  pub left : List Held
  pub after : List (List Held)
  pub was : old.hands ≡ before ++ hand ∷ after
  pub is : new.hands ≡ before ++ left ∷ after
  pub stay : new.loose ≡ old.loose
  pub does : Does fits m (all_tokens old) move hand old.kept left new.kept

-- ---- tokens that pass from hand to hand

-- Tokens pass from hand to hand, under any names, and become loose or are taken up again: there may be other hands than
-- before, but all tokens together are the same, each as often. In each hand the names are apart.
pub record AreDealt (old new : Holders) : Type 0 where
  pub same : (t : Token) → often t (all_tokens old) ≡ often t (all_tokens new)
  pub kept : new.kept ≡ old.kept
  pub apart : AreApart new.hands

-- ---- lists of moves

-- one move after another, each by any holder; between them tokens may pass from hand to hand
pub data AreMoves (fits : ℤ → Bool) (m : MachineTree) : Holders → List Move → Holders → Type 0 where
  no_more : {here : Holders} → AreMoves fits m here [] here
  one_more : {old next new : Holders} {move : Move} {moves : List Move} → IsMove fits m old move next → AreMoves fits m next moves new
      → AreMoves fits m old (move ∷ moves) new
  dealt : {old next new : Holders} {moves : List Move} → AreDealt old next → AreMoves fits m next moves new → AreMoves fits m old moves new
