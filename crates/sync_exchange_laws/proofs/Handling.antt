-- Splits, mergers, copies and exchanges by any holder keep how often each content of each cell is there.
use Rattle.std.proofs.Common.{◌≡◌, ℕ, ◌+◌, ◌≤◌, ℤ, ◌+ℤ◌, ◌-ℤ◌, Bool, true, false, ◌&&◌, List, [], ◌∷◌, ◌++◌, length, append-nil, Some, inl, inr, ◌⊎◌, refl, sym, ap, subst, ◌∙◌, arith, nat_eq}
use Rattle.std.specs.Ordering.{int_eq}
use Rattle.std.proofs.lemmas.Bool.{eqb-true}
use Rattle.sync_machine.specs.declared.fields.Field.{Field}
use Rattle.sync_base.specs.declared.strategies.Strategy.{Strategy}
use Rattle.sync_base.specs.declared.strategies.Strategy.TheVariants.{NotTokenized, Count}
use Rattle.sync_machine.specs.Machines.{MachineTree}
use Rattle.sync_machine.specs.States.{State, IsReached, strategy_at}
use Rattle.sync_machine.proofs.Named.{named}
use Rattle.sync_rules.specs.Plain.{is_plain}
use Rattle.sync_join.specs.declared.tokens.Token.{Token}
use Rattle.sync_join.specs.Shards.{Kept, perm, is_same_token, often, AreSoundShards}
use Rattle.sync_join.specs.Join.{join_of}
use Rattle.sync_join.proofs.Rearranged.{IsRearranged, often-append, shards-rearranged, join_of-rearranged}
use Rattle.sync_exchange.specs.declared.hands.Held.{Held}
use Rattle.sync_exchange.specs.Exchange.{permission, held_as, tokens_in}
use Rattle.sync_exchange.specs.Splitting.{held, replaced, dropped, is_persistent}
use Rattle.sync_exchange.specs.Moves.{Move, Exchange, Split, Merge, Copy, bag_of, IsApart, AreApart, IsSplit, IsMerger, IsCopy, Does}
use Rattle.sync_exchange.specs.Projection.{IsProved}
use Rattle.sync_exchange.proofs.Doing.{beyond}
use Rattle.sync_exchange.proofs.Keeping.{stands, held-dropped}
use Rattle.sync_exchange.proofs.MovesNamed.{all-at, names-of}
use Rattle.sync_exchange.proofs.Moving.{all_but, hand-first}
use Rattle.sync_exchange_laws.specs.Permissions.{there_often, stored_often, MovesKeepPermissions}
use Rattle.sync_exchange_laws.proofs.Cells.{one_if, often-cons}
use Rattle.sync_exchange_laws.proofs.Ways.{permissions-stay}

-- ---- tokens of a hand

held-part : (u : Token) (xs : List Held) (h : Held) (ys : List Held) → often u (tokens_in (xs ++ h ∷ ys)) ≡ one_if (is_same_token u h.token) + often u (tokens_in (xs ++ ys))
held-part u [] h ys = often-cons u h.token (tokens_in ys)
held-part u (x ∷ xs) h ys =
    let a = often-cons u x.token (tokens_in (xs ++ h ∷ ys)) in
    let b = held-part u xs h ys in
    let c = often-cons u x.token (tokens_in (xs ++ ys)) in
    omega (arith, a, b, c)

held-last : (u : Token) (hs : List Held) (h : Held) → often u (tokens_in (hs ++ h ∷ [])) ≡ one_if (is_same_token u h.token) + often u (tokens_in hs)
held-last u hs h = held-part u hs h [] ∙ ap (λ (ks : List Held). one_if (is_same_token u h.token) + often u (tokens_in ks)) (append-nil hs)

module _ (k n : ℤ) where
  abbrev one : Token → ℕ
  one t = one_if (is_same_token (permission k n) t)

  abbrev many : List Held → ℕ
  many hs = often (permission k n) (tokens_in hs)

  none-of : (t : Token) → nat_eq perm t.field ≡ false → one t ≡ 0
  none-of t e = ap (λ b. one_if (b && (int_eq k t.key && int_eq n t.value))) e

  replaced-keeps : (name : ℕ) (t : Token) (new : Held) (hs : List Held) → held_as name hs ≡ Some t → one t ≡ 0 → one new.token ≡ 0 → many (replaced name new hs) ≡ many hs
  replaced-keeps name t new hs is old fresh =
      let s = stands name hs t is in
      let a = ap many (s.changed new) ∙ held-part (permission k n) s.before new s.after in
      let b = ap many s.whole ∙ held-part (permission k n) s.before s.here s.after in
      let c : one s.here.token ≡ 0 = ap one s.token ∙ old in
      omega (arith, a, b, c, fresh)

  dropped-keeps : (name : ℕ) (t : Token) (hs : List Held) → held_as name hs ≡ Some t → one t ≡ 0 → many (dropped name hs) ≡ many hs
  dropped-keeps name t hs is old =
      let s = stands name hs t is in
      let a = ap many s.gone in
      let b = ap many s.whole ∙ held-part (permission k n) s.before s.here s.after in
      let c : one s.here.token ≡ 0 = ap one s.token ∙ old in
      omega (arith, a, b, c)

  last-keeps : (hs : List Held) (h : Held) → one h.token ≡ 0 → many (hs ++ h ∷ []) ≡ many hs
  last-keeps hs h fresh = let a = held-last (permission k n) hs h in omega (arith, a, fresh)

-- a field of a strategy that has tokens is not that of permissions
field-none : (fs : List Field) → length fs ≤ 32 → (s : Strategy) → (NotTokenized ≡ s → ⊥) → (f : ℕ) → strategy_at fs f ≡ s → nat_eq perm f ≡ false
field-none fs few s other f is = cases (nat_eq perm f) refl where
  cases : (b : Bool) → nat_eq perm f ≡ b → b ≡ false
  cases true e = absurd (other (sym (beyond fs perm (omega (arith, few))) ∙ ap (strategy_at fs) (eqb-true perm f e) ∙ is))
  cases false e = refl

persistent-other : (s : Strategy) → is_persistent s ≡ true → NotTokenized ≡ s → ⊥
persistent-other s e is = let h : is_persistent NotTokenized ≡ true = ap is_persistent is ∙ e in cc

module _ (fs : List Field) (few : length fs ≤ 32) (k n : ℤ) (hand left : List Held) where
  split-permits : (name : ℕ) (amount : ℤ) (first second : ℕ) → IsSplit fs name amount first second hand left → many k n left ≡ many k n hand
  split-permits name amount first second h =
      let none = field-none fs few Count (λ e. cc) h.token.field h.counted in
      ap (many k n) h.leaves
      ∙ last-keeps k n (replaced name (held first h.token amount) hand) (held second h.token (h.token.value -ℤ amount)) (none-of k n _ none)
      ∙ replaced-keeps k n name h.token (held first h.token amount) hand h.held (none-of k n h.token none) (none-of k n _ none)

  merger-permits : (a b into : ℕ) → IsMerger fs a b into hand left → many k n left ≡ many k n hand
  merger-permits a b into h =
      let none = field-none fs few Count (λ e. cc) h.token.field h.counted in
      let none2 : nat_eq perm h.other.field ≡ false = ap (nat_eq perm) h.one_field ∙ none in
      ap (many k n) h.leaves
      ∙ replaced-keeps k n a h.token (held into h.token (h.token.value +ℤ h.other.value)) (dropped b hand) (held-dropped a b hand h.apart ∙ h.held) (none-of k n h.token none) (none-of k n _ none)
      ∙ dropped-keeps k n b h.other hand h.other_held (none-of k n h.other none2)

  copy-permits : (name new : ℕ) → IsCopy fs name new hand left → many k n left ≡ many k n hand
  copy-permits name new h =
      let none = field-none fs few (strategy_at fs h.token.field) (persistent-other (strategy_at fs h.token.field) h.persistent) h.token.field refl in
      ap (many k n) h.leaves ∙ last-keeps k n hand (held new h.token h.token.value) (none-of k n _ none)

-- ---- a move of one hand, and of any holder

same-some : {X : Type 0} (x y : X) → Some x ≡ Some y → x ≡ y
same-some x y e = cc

module _ (fits : ℤ → Bool) (m : MachineTree) (proved : IsProved m) (s : State) (reached : IsReached m s) (hand : List Held) (kept : Kept) (others : List Token)
    (sound : AreSoundShards m.fields (tokens_in hand ++ others) kept) (joined : join_of m.fields (tokens_in hand ++ others) kept ≡ Some s) (apart : IsApart hand)
    (bag : List Token) (all : join_of m.fields bag kept ≡ Some s) (k n : ℤ) where
  few : length m.fields ≤ 32
  few = (named m proved.symbols proved.named).few_fields

  beside : (left : List Held) (rest : Kept) → rest ≡ kept → many k n left ≡ many k n hand → there_often k n (tokens_in left ++ others) rest ≡ there_often k n (tokens_in hand ++ others) kept
  beside left rest same e =
      let a = often-append (permission k n) (tokens_in left) others in
      let b = often-append (permission k n) (tokens_in hand) others in
      let c = ap (λ (kp : Kept). stored_often k n kp.stored) same in
      omega (arith, a, b, c, e)

  does-permit : (move : Move) (left : List Held) (rest : Kept) → Does fits m bag move hand kept left rest → there_often k n (tokens_in left ++ others) rest ≡ there_often k n (tokens_in hand ++ others) kept
  does-permit (Exchange o args tokens given whole) left rest d =
      permissions-stay fits m proved o d.declared d.no_init args d.enough tokens given hand (names-of m.fields o tokens given hand d.wanted apart) others kept sound s joined reached whole (said d.said)
      (record { hand = left; kept = rest; bound = d.bound }) d.leaves k n where
        said : (join_of m.fields bag kept ≡ Some whole) ⊎ (is_plain m.fields o ≡ true) → (whole ≡ s) ⊎ (is_plain m.fields o ≡ true)
        said (inl e) = inl (same-some whole s (sym e ∙ all))
        said (inr e) = inr e
  does-permit (Split name amount first second) left rest d = beside left rest d.1 (split-permits m.fields few k n hand left name amount first second d.0)
  does-permit (Merge a b into) left rest d = beside left rest d.1 (merger-permits m.fields few k n hand left a b into d.0)
  does-permit (Copy name new) left rest d = beside left rest d.1 (copy-permits m.fields few k n hand left name new d.0)

pub moves-keep-permissions : MovesKeepPermissions
moves-keep-permissions fits m proved move old new h apart sound s joined reached k n =
    let rest = all_but h.before h.after old.loose in
    let bag : List Token = bag_of old.hands old.loose in
    let order : IsRearranged bag (tokens_in h.hand ++ rest) =
    subst (λ hands. IsRearranged (bag_of hands old.loose) (tokens_in h.hand ++ rest)) (sym h.was) (hand-first h.before h.hand h.after old.loose) in
    let same : bag_of (h.before ++ h.left ∷ h.after) old.loose ≡ bag_of new.hands new.loose =
    ap (λ hands. bag_of hands old.loose) (sym h.is) ∙ ap (bag_of new.hands) (sym h.stay) in
    let back = hand-first h.before h.left h.after old.loose in
    let own : IsApart h.hand = all-at IsApart h.before h.hand h.after (subst AreApart h.was apart) in
    let e = does-permit fits m proved s reached h.hand old.kept rest (shards-rearranged m.fields bag (tokens_in h.hand ++ rest) old.kept order sound)
    (sym (join_of-rearranged m.fields bag (tokens_in h.hand ++ rest) old.kept order) ∙ joined) own bag joined k n move h.left new.kept h.does in
    let a = order.often (permission k n) in
    let b = sym (ap (often (permission k n)) same) ∙ back.often (permission k n) in
    omega (arith, a, b, e)
