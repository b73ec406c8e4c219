-- Lists of moves keep how often each content of each cell is there; after an init each cell is there once at most.
use Rattle.std.proofs.Common.{◌≡◌, ℕ, ◌+◌, ℤ, Bool, true, false, ◌&&◌, List, [], ◌∷◌, ◌++◌, append-nil, map, Some, inl, inr, ◌⊎◌, refl, sym, ap, subst, ◌∙◌, arith}
use Rattle.std.specs.List.{AllByRecursion, IsDistinct}
use Rattle.std.specs.Ordering.{int_eq}
use Rattle.std.specs.Cmp.{int_eq_equiv}
use Rattle.sync_machine.specs.Machines.{MachineTree}
use Rattle.sync_machine.specs.States.{State, IsReached, starts}
use Rattle.sync_join.specs.declared.tokens.Token.{Token}
use Rattle.sync_join.specs.Shards.{Kept, perm, is_same_token, often, AreSoundShards}
use Rattle.sync_join.specs.Join.{join_of}
use Rattle.sync_join.proofs.Maps.{equal}
use Rattle.sync_join.proofs.Rearranged.{IsRearranged, shards-rearranged, join_of-rearranged}
use Rattle.sync_exchange.specs.Exchange.{permission, tokens_in}
use Rattle.sync_exchange.specs.Moves.{Move, Holders, bag_of, all_tokens, AreApart, AreMoves, no_more, one_more, dealt}
use Rattle.sync_exchange.specs.Projection.{ArePermissions, IsProved}
use Rattle.sync_exchange.proofs.Projecting.{initialises}
use Rattle.sync_exchange.proofs.MovesExchanging.{apart-exchange}
use Rattle.sync_exchange.proofs.Moving.{moves-are-steps}
use Rattle.sync_exchange_laws.specs.Permissions.{is_content, stored_often, there_often, IsOnly}
use Rattle.sync_exchange_laws.specs.Lasting.{RunsKeepPermissions, IsOnceAtMost, StartsGiveOnce}
use Rattle.sync_exchange_laws.proofs.Cells.{one_if, often-cons, own-permission}
use Rattle.sync_exchange_laws.proofs.Ways.{first-permissions-stay}
use Rattle.sync_exchange_laws.proofs.Handling.{moves-keep-permissions}

-- ---- lists of moves

pub runs-keep-permissions : RunsKeepPermissions
runs-keep-permissions fits m proved moves old new list apart sound s joined reached k n =
    go old moves new list apart sound s joined reached where
      go : (old : Holders) (moves : List Move) (new : Holders) → AreMoves fits m old moves new
          → AreApart old.hands → AreSoundShards m.fields (all_tokens old) old.kept
          → (s : State) → join_of m.fields (all_tokens old) old.kept ≡ Some s → IsReached m s
          → there_often k n (all_tokens new) new.kept ≡ there_often k n (all_tokens old) old.kept
      go old moves new no_more apart sound s joined reached = refl
      go old moves new (dealt {next = next} d list) apart sound s joined reached =
          let order : IsRearranged (all_tokens old) (all_tokens next) = record { often = d.same } in
          let later = go next moves new list d.apart
          (subst (AreSoundShards m.fields (all_tokens next)) (sym d.kept)
          (shards-rearranged m.fields (all_tokens old) (all_tokens next) old.kept order sound))
          s
          (ap (join_of m.fields (all_tokens next)) d.kept
          ∙ sym (join_of-rearranged m.fields (all_tokens old) (all_tokens next) old.kept order) ∙ joined)
          reached in
          let a = d.same (permission k n) in
          let b = ap (λ (kept : Kept). stored_often k n kept.stored) d.kept in
          omega (arith, later, a, b)
      go old _ new (one_more {next = next} {move = move} {moves = rest} h list) apart sound s joined reached =
          let on = moves-are-steps fits m proved (move ∷ []) old next (one_more h no_more) apart sound s joined
          reached in
          go next rest new list on.1 on.0.sound on.0.state on.0.joined on.0.reached
          ∙ moves-keep-permissions fits m proved move old next h apart sound s joined reached k n

-- ---- the hand of an init

-- permissions of other cells
other-cells : (k n : ℤ) (ts : List Token) → AllByRecursion (λ (t : Token). t.field ≡ perm) ts
    → AllByRecursion (λ (j : ℤ). int_eq k j ≡ false) (map (λ (t : Token). t.key) ts) → often (permission k n) ts ≡ 0
other-cells k n [] perms others = refl
other-cells k n (t ∷ ts) perms others =
    let a = often-cons (permission k n) t ts in
    let b : is_same_token (permission k n) t ≡ false =
    own-permission k n t perms.0 ∙ ap (λ c. c && int_eq n t.value) others.0 in
    let c = ap one_if b in
    let d = other-cells k n ts perms.1 others.1 in
    omega (arith, a, c, d)

abbrev IsFirstOnce : ℤ → List Token → Type 0
IsFirstOnce k ts =
    ((n : ℤ) → often (permission k n) ts ≡ 0)
    ⊎ ((c : ℤ) × (often (permission k c) ts ≡ 1) × ((n : ℤ) → (n ≡ c → ⊥) → often (permission k n) ts ≡ 0))

differs : (n m : ℤ) → (n ≡ m → ⊥) → int_eq n m ≡ false
differs n m other = cases (int_eq n m) refl where
  cases : (b : Bool) → int_eq n m ≡ b → b ≡ false
  cases true e = absurd (other (equal n m e))
  cases false e = refl

module _ (k : ℤ) (t : Token) (ts : List Token) (permission-first : t.field ≡ perm) where
  count : (n : ℤ) → often (permission k n) (t ∷ ts) ≡ one_if (is_content k n t) + often (permission k n) ts
  count n =
      often-cons (permission k n) t ts
      ∙ ap (λ b. one_if b + often (permission k n) ts) (own-permission k n t permission-first)

  -- a permission of another cell
  other-first : int_eq k t.key ≡ false → (n : ℤ) → often (permission k n) (t ∷ ts) ≡ often (permission k n) ts
  other-first other n =
      let a = count n in
      let b = ap (λ c. one_if (c && int_eq n t.value)) other in
      omega (arith, a, b)

  later-once : int_eq k t.key ≡ false → IsFirstOnce k ts → IsFirstOnce k (t ∷ ts)
  later-once other (inl none) = inl (λ n. other-first other n ∙ none n)
  later-once other (inr one) =
      inr (one.0, other-first other one.0 ∙ one.1, λ n differ. other-first other n ∙ one.2 n differ)

  -- the permission of the cell, which no other is of
  own-once : int_eq k t.key ≡ true → ((n : ℤ) → often (permission k n) ts ≡ 0) → IsFirstOnce k (t ∷ ts)
  own-once own none =
      inr (
        t.value,
        let a = count t.value in
            let b = ap (λ c. one_if (c && int_eq t.value t.value)) own ∙ ap one_if (int_eq_equiv.refl t.value) in
            let c = none t.value in
            omega (arith, a, b, c),
        λ n other.
            let a = count n in
            let b = ap (λ c. one_if (c && int_eq n t.value)) own ∙ ap one_if (differs n t.value other) in
            let c = none n in
            omega (arith, a, b, c),
      )

  by-key : (b : Bool) → int_eq k t.key ≡ b → (int_eq k t.key ≡ true → (n : ℤ) → often (permission k n) ts ≡ 0)
      → IsFirstOnce k ts → IsFirstOnce k (t ∷ ts)
  by-key true e others later = own-once e (others e)
  by-key false e others later = later-once e later

first-once : (k : ℤ) (ts : List Token) → AllByRecursion (λ (t : Token). t.field ≡ perm) ts
    → IsDistinct int_eq (map (λ (t : Token). t.key) ts) → IsFirstOnce k ts
unfolding IsDistinct
first-once k [] perms apart = inl (λ n. refl)
first-once k (t ∷ ts) perms apart =
    by-key k t ts perms.0 (int_eq k t.key) refl
    (λ own n.
    other-cells k n ts perms.1
    (subst (λ (j : ℤ). AllByRecursion (λ (i : ℤ). int_eq j i ≡ false) (map (λ (u : Token). u.key) ts))
    (sym (equal k t.key own)) apart.0))
    (first-once k ts perms.1 apart.1)

once-at-most : (k : ℤ) (first bag : List Token) (kept : Kept)
    → ((n : ℤ) → there_often k n bag kept ≡ often (permission k n) first) → IsFirstOnce k first
    → IsOnceAtMost k bag kept
once-at-most k first bag kept same (inl none) = inl (λ n. same n ∙ none n)
once-at-most k first bag kept same (inr one) =
    inr (one.0, record { once = same one.0 ∙ one.1; no_other = λ n other. same n ∙ one.2 n other })

pub starts-give-once : StartsGiveOnce
starts-give-once fits m proved o declared init args enough tokens given hand names permissions kept blank stored whole
    x is moves new list =
    let begins =
    initialises fits m proved o declared init args enough tokens given hand names permissions kept blank stored whole x
    is in
    let alone : bag_of (x.hand ∷ []) [] ≡ tokens_in x.hand =
    append-nil (tokens_in x.hand ++ []) ∙ append-nil (tokens_in x.hand) in
    let apart = apart-exchange fits m.fields o args tokens given whole hand kept names x is in
    let lasts =
    runs-keep-permissions fits m proved moves (record { hands = x.hand ∷ []; loose = []; kept = x.kept }) new list
    (apart, tt) (subst (λ (ts : List Token). AreSoundShards m.fields ts x.kept) (sym alone) begins.sound)
    begins.state (ap (λ (ts : List Token). join_of m.fields ts x.kept) alone ∙ begins.joined)
    (starts o args begins.start) in
    let as_given : (k n : ℤ) → there_often k n (all_tokens new) new.kept ≡ often (permission k n) (tokens_in hand) =
    λ k n.
    let a = lasts k n in
    let b = ap (often (permission k n)) alone in
    let c =
    first-permissions-stay fits m proved o declared init args enough tokens given hand names permissions kept blank
    stored whole x is k n in
    let d = ap (stored_often k n) stored in
    omega (arith, a, b, c, d) in
    record {
      as_given = as_given;
      once_at_most = λ k.
          once-at-most k (tokens_in hand) (all_tokens new) new.kept (as_given k)
          (first-once k (tokens_in hand) permissions.permissions permissions.apart);
    }
