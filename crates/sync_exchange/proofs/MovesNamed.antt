-- Every move leaves the names of each hand apart.
use Rattle.std.proofs.Common.{ℕ, List, ◌∷◌, [], ◌++◌, ℤ, Bool, sym, subst}
use Rattle.std.specs.List.{AllByRecursion}
use Rattle.sync_machine.specs.Machines.{OperationTree, MachineTree}
use Rattle.sync_machine.specs.declared.fields.Field.{Field}
use Rattle.sync_join.specs.declared.tokens.Token.{Token}
use Rattle.sync_join.specs.Shards.{Kept}
use Rattle.sync_exchange.specs.declared.hands.Held.{Held}
use Rattle.sync_exchange.specs.Projection.{AreNames}
use Rattle.sync_exchange.specs.Moves.{Move, Exchange, Split, Merge, Copy, IsApart, AreApart, AreWanted, Does}
use Rattle.sync_exchange.specs.MoveLaws.{NamesStayApart}
use Rattle.sync_exchange.proofs.MovesSplitting.{apart-split, apart-merger, apart-copy}
use Rattle.sync_exchange.proofs.MovesExchanging.{apart-exchange}

-- ---- one hand among all

pub all-at : {X : Type 0} (P : X → Type 0) (xs : List X) (x : X) (ys : List X) → AllByRecursion P (xs ++ x ∷ ys) → P x
all-at P [] x ys h = h.0
all-at P (z ∷ xs) x ys h = all-at P xs x ys h.1

pub all-with : {X : Type 0} (P : X → Type 0) (xs : List X) (x y : X) (ys : List X) → P y → AllByRecursion P (xs ++ x ∷ ys) → AllByRecursion P (xs ++ y ∷ ys)
all-with P [] x y ys p h = (p, h.1)
all-with P (z ∷ xs) x y ys p h = (h.0, all-with P xs x y ys p h.1)

-- ---- moves

-- names that are wanted of a hand whose names are apart
pub names-of : (fs : List Field) (o : OperationTree) (tokens given : List ℕ) (hand : List Held) → AreWanted fs o tokens given hand → IsApart hand → AreNames fs o tokens given hand
names-of fs o tokens given hand w apart = record {
  enough_tokens = w.enough_tokens;
  enough_given = w.enough_given;
  held_apart = apart;
  given_apart = w.given_apart;
  given_new = w.given_new;
}

pub apart-does : (fits : ℤ → Bool) (m : MachineTree) (bag : List Token) (move : Move) (hand : List Held) (kept : Kept) (left : List Held) (rest : Kept) → Does fits m bag move hand kept left rest → IsApart hand → IsApart left
apart-does fits m bag (Exchange o args tokens given whole) hand kept left rest d apart =
    apart-exchange fits m.fields o args tokens given whole hand kept (names-of m.fields o tokens given hand d.wanted apart) (record { hand = left; kept = rest; bound = d.bound }) d.leaves
apart-does fits m bag (Split name amount first second) hand kept left rest d apart = apart-split m.fields name amount first second hand left d.0 apart
apart-does fits m bag (Merge a b into) hand kept left rest d apart = apart-merger m.fields a b into hand left d.0 apart
apart-does fits m bag (Copy name new) hand kept left rest d apart = apart-copy m.fields name new hand left d.0 apart

pub names-stay-apart : NamesStayApart
names-stay-apart fits m move old new h apart =
    let hands = subst AreApart h.was apart in
    let here = all-at IsApart h.before h.hand h.after hands in
    let there = apart-does fits m _ move h.hand old.kept h.left new.kept h.does here in
    subst AreApart (sym h.is) (all-with IsApart h.before h.hand h.left h.after there hands)
