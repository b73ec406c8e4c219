-- A list of moves by any holders is a list of declared steps of the whole.
use Rattle.std.proofs.Common.{◌≡◌, ℕ, ℤ, Bool, true, List, ◌∷◌, ◌++◌, flat_map, Option, Some, None, unwrap_or, inl, inr, ◌⊎◌, refl, sym, ap, subst, ◌∙◌, arith}
use Rattle.std.specs.List.{cons_option}
use Rattle.std.proofs.lemmas.Grind.{flat_map-append}
use Rattle.sync_machine.specs.Machines.{MachineTree}
use Rattle.sync_machine.specs.States.{State, Steps, IsReached, steps}
use Rattle.sync_join.specs.declared.tokens.Token.{Token}
use Rattle.sync_join.specs.Shards.{Kept, AreSoundShards, often}
use Rattle.sync_join.specs.Join.{join_of}
use Rattle.sync_join.proofs.Rearranged.{IsRearranged, often-append, rearranged-sym, shards-rearranged, join_of-rearranged}
use Rattle.sync_exchange.specs.declared.hands.Held.{Held}
use Rattle.sync_exchange.specs.Exchange.{tokens_in}
use Rattle.sync_rules.specs.Plain.{is_plain}
use Rattle.sync_exchange.specs.Splitting.{KeepsShards}
use Rattle.sync_exchange.specs.Projection.{IsProved}
use Rattle.sync_exchange.proofs.Keeping.{split-keeps, merge-keeps, copy-keeps}
use Rattle.sync_exchange.proofs.Projecting.{projects}
use Rattle.sync_exchange.specs.Moves.{Move, Exchange, Split, Merge, Copy, Holders, bag_of, all_tokens, IsApart, AreApart, IsSplit, IsMerger, IsCopy, Does, IsMove, AreMoves, no_more, one_more, dealt}
use Rattle.sync_exchange.specs.Runs.{Call, call_of, calls_of, Runs, no_step, one_step, RunsOn}
use Rattle.sync_exchange.specs.MoveLaws.{MovesAreSteps}
use Rattle.sync_exchange.proofs.MovesNamed.{all-at, names-of, names-stay-apart}

-- ---- one hand first, and behind it all others

abbrev pub all_but : List (List Held) → List (List Held) → List Token → List Token
all_but before after others = (flat_map tokens_in before ++ flat_map tokens_in after) ++ others

parts-often : (t : Token) (xs ys zs us : List Token) → often t ((xs ++ (ys ++ zs)) ++ us) ≡ often t (ys ++ ((xs ++ zs) ++ us))
parts-often t xs ys zs us =
    let a = often-append t (xs ++ (ys ++ zs)) us in
    let b = often-append t xs (ys ++ zs) in
    let c = often-append t ys zs in
    let d = often-append t ys ((xs ++ zs) ++ us) in
    let e = often-append t (xs ++ zs) us in
    let f = often-append t xs zs in omega (arith, a, b, c, d, e, f)

pub hand-first : (before : List (List Held)) (hand : List Held) (after : List (List Held)) (others : List Token) → IsRearranged (bag_of (before ++ hand ∷ after) others) (tokens_in hand ++ all_but before after others)
hand-first before hand after others = record {
  often = λ t.
      ap (λ ts. often t (ts ++ others)) (flat_map-append tokens_in before (hand ∷ after))
      ∙ parts-often t (flat_map tokens_in before) (tokens_in hand) (flat_map tokens_in after) others;
}

-- ---- one move

-- no step, or one
abbrev pub Advances : MachineTree → State → Option Call → State → Type 0
Advances m s None t = s ≡ t
Advances m s (Some c) t = Steps m s c.operation c.args t

pub record MovesOn (m : MachineTree) (s : State) (call : Option Call) (bag : List Token) (kept : Kept) : Type 0 where
  pub sound : AreSoundShards m.fields bag kept
  pub state : State
  pub joined : join_of m.fields bag kept ≡ Some state
  pub advances : Advances m s call state

same_some : {X : Type 0} (x y : X) → Some x ≡ Some y → x ≡ y
same_some x y e = ap (λ o. unwrap_or o x) e

module _ (m : MachineTree) (s : State) (hand : List Held) (kept : Kept) (others : List Token) (sound : AreSoundShards m.fields (tokens_in hand ++ others) kept) (joined : join_of m.fields (tokens_in hand ++ others) kept ≡ Some s) where
  stays-same : (left : List Held) (rest : Kept) → KeepsShards m.fields hand left → rest ≡ kept → MovesOn m s None (tokens_in left ++ others) rest
  stays-same left rest keeps same =
      let k = keeps others kept sound in
      subst (MovesOn m s None (tokens_in left ++ others)) (sym same) (record { sound = k.0; state = s; joined = k.1 ∙ joined; advances = refl })

  keeps-split : (name : ℕ) (amount : ℤ) (first second : ℕ) (left : List Held) → IsSplit m.fields name amount first second hand left → KeepsShards m.fields hand left
  keeps-split name amount first second left h =
      subst (KeepsShards m.fields hand) (sym h.leaves) (split-keeps m.fields hand name h.token h.held h.counted amount h.natural h.within first second)

  keeps-merger : (a b into : ℕ) (left : List Held) → IsMerger m.fields a b into hand left → KeepsShards m.fields hand left
  keeps-merger a b into left h =
      subst (KeepsShards m.fields hand) (sym h.leaves) (merge-keeps m.fields hand a b h.token h.other h.apart h.held h.other_held h.one_field h.counted into)

  keeps-copy : (name new : ℕ) (left : List Held) → IsCopy m.fields name new hand left → KeepsShards m.fields hand left
  keeps-copy name new left h =
      subst (KeepsShards m.fields hand) (sym h.leaves) (copy-keeps m.fields hand name h.token h.held h.persistent new)

  moves-on : (fits : ℤ → Bool) → IsProved m → IsReached m s → IsApart hand → (bag : List Token) → join_of m.fields bag kept ≡ Some s → (move : Move) (left : List Held) (rest : Kept)
      → Does fits m bag move hand kept left rest → MovesOn m s (call_of move) (tokens_in left ++ others) rest
  moves-on fits proved reached apart bag all (Exchange o args tokens given whole) left rest d =
      let l = projects fits m proved o d.declared d.no_init args d.enough tokens given hand (names-of m.fields o tokens given hand d.wanted apart) others kept sound s joined reached whole (said d.said)
      (record { hand = left; kept = rest; bound = d.bound }) d.leaves in
      record { sound = l.sound; state = l.state; joined = l.joined; advances = l.step } where
        said : (join_of m.fields bag kept ≡ Some whole) ⊎ (is_plain m.fields o ≡ true) → (whole ≡ s) ⊎ (is_plain m.fields o ≡ true)
        said (inl e) = inl (same_some whole s (sym e ∙ all))
        said (inr e) = inr e
  moves-on fits proved reached apart bag all (Split name amount first second) left rest d = stays-same left rest (keeps-split name amount first second left d.0) d.1
  moves-on fits proved reached apart bag all (Merge a b into) left rest d = stays-same left rest (keeps-merger a b into left d.0) d.1
  moves-on fits proved reached apart bag all (Copy name new) left rest d = stays-same left rest (keeps-copy name new left d.0) d.1

pub move-on : (fits : ℤ → Bool) (m : MachineTree) → IsProved m → (move : Move) (old new : Holders) → IsMove fits m old move new
    → AreApart old.hands → AreSoundShards m.fields (all_tokens old) old.kept
    → (s : State) → join_of m.fields (all_tokens old) old.kept ≡ Some s → IsReached m s
    → MovesOn m s (call_of move) (all_tokens new) new.kept
move-on fits m proved move old new h apart sound s joined reached =
    let bag : List Token = bag_of old.hands old.loose in
    let rest = all_but h.before h.after old.loose in
    let order : IsRearranged bag (tokens_in h.hand ++ rest) =
    subst (λ hands. IsRearranged (bag_of hands old.loose) (tokens_in h.hand ++ rest)) (sym h.was) (hand-first h.before h.hand h.after old.loose) in
    let same : bag_of (h.before ++ h.left ∷ h.after) old.loose ≡ bag_of new.hands new.loose =
    ap (λ hands. bag_of hands old.loose) (sym h.is) ∙ ap (bag_of new.hands) (sym h.stay) in
    let back : IsRearranged (tokens_in h.left ++ rest) (bag_of new.hands new.loose) =
    subst (IsRearranged (tokens_in h.left ++ rest)) same
    (rearranged-sym (bag_of (h.before ++ h.left ∷ h.after) old.loose) (tokens_in h.left ++ rest) (hand-first h.before h.left h.after old.loose)) in
    let own : IsApart h.hand = all-at IsApart h.before h.hand h.after (subst AreApart h.was apart) in
    let on = moves-on m s h.hand old.kept rest (shards-rearranged m.fields bag (tokens_in h.hand ++ rest) old.kept order sound)
    (sym (join_of-rearranged m.fields bag (tokens_in h.hand ++ rest) old.kept order) ∙ joined)
    fits proved reached own bag joined move h.left new.kept h.does in
    record {
      sound = shards-rearranged m.fields (tokens_in h.left ++ rest) (bag_of new.hands new.loose) new.kept back on.sound;
      state = on.state;
      joined = sym (join_of-rearranged m.fields (tokens_in h.left ++ rest) (bag_of new.hands new.loose) new.kept back) ∙ on.joined;
      advances = on.advances;
    }

-- ---- lists of moves

same-bag : (xs ys : List Token) → ((t : Token) → often t xs ≡ often t ys) → IsRearranged xs ys
same-bag xs ys same = record { often = same }

reached-on : (m : MachineTree) (s t : State) (call : Option Call) → Advances m s call t → IsReached m s → IsReached m t
reached-on m s t None e reached = subst (IsReached m) e reached
reached-on m s t (Some c) step reached = steps c.operation c.args reached step

runs-on : (m : MachineTree) (s t u : State) (call : Option Call) (calls : List Call) → Advances m s call t → Runs m t calls u → Runs m s (cons_option call calls) u
runs-on m s t u None calls e run = subst (λ (x : State). Runs m x calls u) (sym e) run
runs-on m s t u (Some c) calls step run = one_step step run

pub moves-are-steps : MovesAreSteps
moves-are-steps fits m proved moves old new list apart sound s joined reached = go old moves new list apart sound s joined reached where
  go : (old : Holders) (moves : List Move) (new : Holders) → AreMoves fits m old moves new
      → AreApart old.hands → AreSoundShards m.fields (all_tokens old) old.kept
      → (s : State) → join_of m.fields (all_tokens old) old.kept ≡ Some s → IsReached m s
      → RunsOn m s (calls_of moves) (all_tokens new) new.kept × AreApart new.hands
  go old moves new no_more apart sound s joined reached = (record { sound = sound; state = s; joined = joined; run = no_step; reached = reached }, apart)
  go old moves new (dealt {next = next} d list) apart sound s joined reached =
      let order = same-bag (all_tokens old) (all_tokens next) d.same in
      go next moves new list d.apart
      (subst (AreSoundShards m.fields (all_tokens next)) (sym d.kept) (shards-rearranged m.fields (all_tokens old) (all_tokens next) old.kept order sound))
      s (ap (join_of m.fields (all_tokens next)) d.kept ∙ sym (join_of-rearranged m.fields (all_tokens old) (all_tokens next) old.kept order) ∙ joined) reached
  go old _ new (one_more {next = next} {move = move} {moves = later} h list) apart sound s joined reached =
      let on = move-on fits m proved move old next h apart sound s joined reached in
      let rest = go next later new list (names-stay-apart fits m move old next h apart) on.sound on.state on.joined (reached-on m s on.state (call_of move) on.advances reached) in (
        record {
          sound = rest.0.sound;
          state = rest.0.state;
          joined = rest.0.joined;
          run = runs-on m s on.state rest.0.state (call_of move) (calls_of later) on.advances rest.0.run;
          reached = rest.0.reached;
        },
        rest.1,
      )
