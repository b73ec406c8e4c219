-- Names in the order in which they are met, and a table of what bytes said.
use Rattle.std.proofs.Common.{◌≡◌, ℕ, ◌+◌, Bool, true, false, cond, not, ◌||◌, List, [], ◌∷◌, ◌++◌, length, length-append, Option, Some, None, MatchOption, refl, sym, ap, ◌∙◌, subst, arith}
use Rattle.std.specs.List.{list_any, position_or_len}
use Rattle.std.specs.Str.{bytes_eq}
use Rattle.std.proofs.lemmas.List.Folds.{list_any-append}
use Rattle.std.proofs.lemmas.Cmp.{nat_list_eq_equiv}
use Rattle.std.proofs.lemmas.Slice.Eq.{bytes_eq-Decides}
use Rattle.sync_base.proofs.Basics.{neither, or_true}
use Rattle.sync_base.specs.declared.names.Name.{Name}
use Rattle.sync_lex.specs.declared.lexemes.Kind.{Kind}
use Rattle.sync_lex.specs.declared.lexemes.Kind.TheVariants as kind
use Rattle.sync_lex.specs.contracts.lexemes.Kind.{the_type}
use denote.Enum.Bare.{sameb}
use Rattle.sync_lex.specs.declared.signs.Sign.{Sign}
use Rattle.sync_lex.specs.declared.terminals.TerminalKind.{TerminalKind}
use Rattle.sync_lex.specs.declared.terminals.TerminalKind.TheVariants as what
use Rattle.sync_lex.specs.Signs.{sign_of}
use Rattle.sync_lex.specs.Strategies.{strategy_of}
use Rattle.sync_lex.specs.Terminals.{name_of, spells, number_in, names_with, named, said, Recalls}

module _ (p : Name → Bool) where
  -- the place behind a list that does not have it, also where it is put there
  place_new : (names : List Name) (n : Name) → list_any p names ≡ false → p n ≡ true → (position_or_len p names ≡ length names) × (position_or_len p (names ++ n ∷ []) ≡ length names)
  place_new [] n new here = (refl, rw here refl)
  place_new (m ∷ names) n new here =
      let parts = neither (p m) (list_any p names) new in
      let rest = place_new names n parts.1 here in
      (rw (parts.0, rest.0) (omega arith), rw (parts.0, rest.1) (omega arith))

  place_behind : (here : Bool) (names more : List Name) → (here || list_any p names) ≡ true → (list_any p names ≡ true → position_or_len p (names ++ more) ≡ position_or_len p names)
      → cond (not here) (1 + position_or_len p (names ++ more)) 0 ≡ cond (not here) (1 + position_or_len p names) 0
  place_behind true names more there rest = refl
  place_behind false names more there rest = ap (λ (n : ℕ). 1 + n) (rest there)

  -- the place in a list that has it, also with more behind it
  place_old : (names more : List Name) → list_any p names ≡ true → position_or_len p (names ++ more) ≡ position_or_len p names
  place_old [] more there = absurd cc
  place_old (m ∷ names) more there = place_behind (p m) names more there (place_old names more)

itself : (bytes : List ℕ) → bytes_eq bytes bytes ≡ true
itself bytes = nat_list_eq_equiv.refl bytes

-- names that have a spelling keep its number and themselves
module _ (bytes : List ℕ) (names : List Name) where
  with_old : list_any (spells bytes) names ≡ true → names_with names bytes ≡ names
  unfolding names_with
  with_old there = rw there refl

  with_new : list_any (spells bytes) names ≡ false → names_with names bytes ≡ names ++ name_of bytes ∷ []
  unfolding names_with
  with_new new = rw new refl

  number_old : (more : List Name) → list_any (spells bytes) names ≡ true → number_in (names ++ more) bytes ≡ number_in names bytes
  unfolding number_in
  number_old more there = place_old (spells bytes) names more there

  number_new : list_any (spells bytes) names ≡ false → (number_in names bytes ≡ length names) × (number_in (names ++ name_of bytes ∷ []) bytes ≡ length names)
  unfolding number_in
  number_new new = place_new (spells bytes) names (name_of bytes) new (itself bytes)

  there_now : list_any (spells bytes) (names ++ name_of bytes ∷ []) ≡ true
  there_now = rw (list_any-append (spells bytes) names (name_of bytes ∷ []), itself bytes) (or_true (list_any (spells bytes) names))

  -- a new name has the next number, and stands at the end
  pub named_new : list_any (spells bytes) names ≡ false → None ≡ sign_of bytes
      → named names bytes (sign_of bytes) ≡ (what.Name (length names) (strategy_of bytes), names ++ name_of bytes ∷ [])
  named_new new none = rw (← none, (number_new new).0, with_new new) refl

-- bytes say the same again
again_by : (bytes : List ℕ) (names : List Name) (there : Bool) → list_any (spells bytes) names ≡ there → named (names_with names bytes) bytes None ≡ named names bytes None
again_by bytes names true there = rw (with_old bytes names there, with_old bytes names there) refl
again_by bytes names false new =
    let more = names ++ name_of bytes ∷ [] in
    rw (with_new bytes names new, with_old bytes more (there_now bytes names), (number_new bytes names new).0, (number_new bytes names new).1) refl

again : (bytes : List ℕ) (names : List Name) (s : Option Sign) → named (named names bytes s).1 bytes s ≡ named names bytes s
again bytes names (Some s) = refl
again bytes names None = again_by bytes names (list_any (spells bytes) names) refl

-- what is no number is a name or a sign
pub said_named : (names : List Name) (k : Kind) (bytes : List ℕ) → false ≡ sameb the_type k kind.Number → named names bytes (sign_of bytes) ≡ said names k bytes
said_named names kind.Number bytes other = absurd cc
said_named names kind.Name bytes other = refl
said_named names kind.Sign bytes other = refl

-- what bytes said that were met before
pub recalled : (names : List Name) (table : List ℕ → Option TerminalKind) (bytes : List ℕ) (w : TerminalKind) → Recalls names table → Some w ≡ table bytes → (w, names) ≡ named names bytes (sign_of bytes)
recalled names table bytes w recalls is = rw (← is) at (recalls bytes)

module _ (q : List ℕ) (names : List Name) (bytes : List ℕ) where
  is_there : (there : Bool) → list_any (spells q) names ≡ there → names ≡ names_with names q → list_any (spells q) names ≡ true
  is_there true e same = e
  is_there false e same = absurd (let f = ap (λ (ns : List Name). length ns) (same ∙ with_new q names e) in omega (arith, length-append names (name_of q ∷ [])))

  -- other names stay as they are where one is put behind them
  still_by : (there : Bool) (w : TerminalKind) → list_any (spells bytes) names ≡ there → list_any (spells q) names ≡ true → (w, names) ≡ named names q None
      → (w, names_with names bytes) ≡ named (names_with names bytes) q None
  still_by true w e old is = rw (with_old bytes names e) is
  still_by false w e old is =
      let more = names ++ name_of bytes ∷ [] in
      let said = ap (λ (s : TerminalKind × List Name). s.0) is in
      let kept : list_any (spells q) more ≡ true = rw (list_any-append (spells q) names (name_of bytes ∷ []), old) refl in
      rw (with_new bytes names e, with_old q more kept, number_old q names (name_of bytes ∷ []) old) (ap (λ (v : TerminalKind). (v, more)) said)

  still : (w : TerminalKind) (s t : Option Sign) → (w, names) ≡ named names q t → (w, (named names bytes s).1) ≡ named (named names bytes s).1 q t
  still w (Some s) t is = is
  still w None (Some t) is = ap (λ (v : TerminalKind). (v, names_with names bytes)) (ap (λ (s : TerminalKind × List Name). s.0) is)
  still w None None is =
      still_by (list_any (spells bytes) names) w refl (is_there (list_any (spells q) names) refl (ap (λ (s : TerminalKind × List Name). s.1) is)) is

  lacks_by : (there : Bool) → list_any (spells bytes) names ≡ there → bytes_eq q bytes ≡ false → list_any (spells q) names ≡ false → list_any (spells q) (names_with names bytes) ≡ false
  lacks_by true e other lacks = rw (with_old bytes names e) lacks
  lacks_by false e other lacks = rw (with_new bytes names e, list_any-append (spells q) names (name_of bytes ∷ []), lacks, other) refl

  lacks : (s : Option Sign) → bytes_eq q bytes ≡ false → list_any (spells q) names ≡ false → list_any (spells q) (named names bytes s).1 ≡ false
  lacks (Some s) other new = new
  lacks None other new = lacks_by (list_any (spells bytes) names) refl other new

module _ (bytes : List ℕ) (names : List Name) where
  abbrev now : TerminalKind × List Name
  now = named names bytes (sign_of bytes)

  recalls_at : (q : List ℕ) (same : Bool) → bytes_eq bytes q ≡ same → (before : Option TerminalKind)
      → MatchOption before (list_any (spells q) names ≡ false) (λ w. (w, names) ≡ named names q (sign_of q))
      → MatchOption (cond same (Some now.0) before) (list_any (spells q) now.1 ≡ false) (λ w. (w, now.1) ≡ named now.1 q (sign_of q))
  recalls_at q true e before is = subst (λ (q : List ℕ). (now.0, now.1) ≡ named now.1 q (sign_of q)) ((bytes_eq-Decides bytes q).0 e) (sym (again bytes names (sign_of bytes)))
  recalls_at q false e None is = lacks q names bytes (sign_of bytes) (nat_list_eq_equiv.symm q bytes ∙ e) is
  recalls_at q false e (Some w) is = still q names bytes w (sign_of bytes) (sign_of q) is

  -- a table in which what the bytes say is put recalls it with the rest
  pub recalls_more : (before after : List ℕ → Option TerminalKind) → Recalls names before
      → ((q : List ℕ) → after q ≡ cond (bytes_eq bytes q) (Some now.0) (before q)) → Recalls now.1 after
  recalls_more before after recalls put q = rw (put q) (recalls_at q (bytes_eq bytes q) refl (before q) (recalls q))
