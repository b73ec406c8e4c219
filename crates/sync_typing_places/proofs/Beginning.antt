-- A hand that says and has more.
use Rattle.std.proofs.Common.{◌≡◌, ℕ, suc, ◌-◌, ◌≤◌, Bool, true, false, if◌then◌else◌, nat_lt, List, [], ◌∷◌, ◌++◌, length, drop, take, Option, Some, None, option_map, refl, sym, ap, ◌∙◌, subst, arith, Result, Ok, Err, OnOk}
use Rattle.sync_terms.specs.declared.nodes.TermId.{TermId}
use Rattle.sync_thread.specs.Arrays.{name_limit}
use Rattle.sync_thread_machine.specs.ProgramSymbols.{held_of}
use Rattle.sync_terms.specs.Stored.{Stored}
use Rattle.sync_typing_ledgers.specs.Entries.{Entry, Kept, found_at, newest, oldest}
use Rattle.sync_typing_reading.specs.Sayings.{tree_in, AreSaidOf}
use Rattle.sync_typing_places.specs.declared.hands.Token.{Token}
use Rattle.sync_typing_places.specs.declared.hands.Hand.{Hand}
use Rattle.sync_typing_places.specs.declared.marks.Mark.{Mark}
use Rattle.sync_typing_places.specs.Hands.{held_said, placed, token_at, token_tree, with_said, Begins, Holds, IsHandOf, IsMarkOf, IsSame, IsWhole}
use Rattle.sync_typing_places.proofs.Saying.{raised}
use Rattle.sync_typing_places.proofs.Holding.{items_with, place_of}

-- all entries, and all but the newest
oldest_all : (es : List Entry) → oldest (length es) es ≡ es
oldest_all es = let e : length es - length es ≡ 0 = omega arith in ap (λ n. drop n es) e

oldest_more : (e : Entry) (es : List Entry) → oldest (length es) (e ∷ es) ≡ es
oldest_more e es = let n : suc (length es) - length es ≡ 1 = omega arith in ap (λ m. drop m (e ∷ es)) n

take_all : (ts : List Token) → take (length ts) ts ≡ ts
take_all [] = refl
take_all (t ∷ ts) = ap (λ us. t ∷ us) (take_all ts)

take_more : (ts us : List Token) → take (length ts) (ts ++ us) ≡ ts
take_more [] us = refl
take_more (t ∷ ts) us = ap (λ vs. t ∷ vs) (take_more ts us)

take_with : (ts : List Token) (t : Option Token) → take (length ts) (items_with ts t) ≡ ts
take_with ts None = take_all ts
take_with ts (Some t) = take_more ts (t ∷ [])

pub begins_named : (h new : Hand) (x : ℕ) (t : Option TermId) → new.names ≡ with_said h.names x t → new.places ≡ h.places
    → new.tokens.items ≡ h.tokens.items → Begins h new
begins_named h new x t named places tokens = record {
  names = ap (λ (k : Kept). oldest (length h.names.entries) k.entries) named ∙ oldest_more _ h.names.entries;
  places = ap (λ (k : Kept). oldest (length h.places.entries) k.entries) places ∙ oldest_all h.places.entries;
  tokens = ap (λ (ts : List Token). take (length h.tokens.items) ts) tokens ∙ take_all h.tokens.items;
}

pub begins_same : (h new : Hand) → new.names ≡ h.names → new.places ≡ h.places → new.tokens.items ≡ h.tokens.items → Begins h new
begins_same h new names places tokens = record {
  names = ap (λ (k : Kept). oldest (length h.names.entries) k.entries) names ∙ oldest_all h.names.entries;
  places = ap (λ (k : Kept). oldest (length h.places.entries) k.entries) places ∙ oldest_all h.places.entries;
  tokens = ap (λ (ts : List Token). take (length h.tokens.items) ts) tokens ∙ take_all h.tokens.items;
}

oldest_held : (k : Kept) (n : ℕ) (v : Option TermId) (b : Bool)
    → oldest (length k.entries) (if b then with_said k (held_of n) v else k).entries ≡ k.entries
oldest_held k n v true = oldest_more _ k.entries
oldest_held k n v false = oldest_all k.entries

pub begins_token : (h new : Hand) (n : ℕ) (t : Option Token)
    → new.names ≡ held_said n (option_map (λ (u : Token). u.value) t) h.names
    → new.places ≡ record h.places { entries = record { key = n; value = place_of h.tokens.items t } ∷ h.places.entries }
    → new.tokens.items ≡ items_with h.tokens.items t → Begins h new
begins_token h new n t named places tokens = record {
  names = ap (λ (k : Kept). oldest (length h.names.entries) k.entries) named
      ∙ oldest_held h.names n (option_map (λ (u : Token). u.value) t) (nat_lt n name_limit);
  places = ap (λ (k : Kept). oldest (length h.places.entries) k.entries) places ∙ oldest_more _ h.places.entries;
  tokens = ap (λ (ts : List Token). take (length h.tokens.items) ts) tokens ∙ take_with h.tokens.items t;
}

pub begins_renewed : (h new : Hand) → new.names ≡ raised h.names → new.places ≡ raised h.places
    → new.tokens.items ≡ h.tokens.items → Begins h new
begins_renewed h new named places tokens = record {
  names = ap (λ (k : Kept). oldest (length h.names.entries) k.entries) named ∙ oldest_all h.names.entries;
  places = ap (λ (k : Kept). oldest (length h.places.entries) k.entries) places ∙ oldest_all h.places.entries;
  tokens = ap (λ (ts : List Token). take (length h.tokens.items) ts) tokens ∙ take_all h.tokens.items;
}

-- what was taken back to where a ledger was is that ledger
taken_back : (k was new : Kept) (n floor : ℕ) → n ≡ length k.entries → floor ≡ k.floor
    → oldest (length k.entries) was.entries ≡ k.entries
    → new ≡ record { entries = oldest n was.entries; floor = floor } → new ≡ k
taken_back k was new n floor count at begins is =
    is ∙ (λ i. record { entries = oldest (count i) was.entries; floor = at i })
    ∙ ap (λ (es : List Entry). record { entries = es; floor = k.floor }) begins

pub undone : (h was new : Hand) (m : Mark) → IsMarkOf h m → Begins h was
    → new.names ≡ record { entries = oldest m.names was.names.entries; floor = m.names_floor }
    → new.places ≡ record { entries = oldest m.places was.places.entries; floor = m.places_floor }
    → new.tokens.items ≡ take m.tokens was.tokens.items → IsSame h new
undone h was new m mark begins names places tokens = record {
  names = taken_back h.names was.names new.names m.names m.names_floor mark.names mark.names_floor begins.names names;
  places = taken_back h.places was.places new.places m.places m.places_floor mark.places mark.places_floor begins.places places;
  tokens = tokens ∙ ap (λ n. take n was.tokens.items) mark.tokens ∙ begins.tokens;
}

pub on_ok : {A E : Type 0} (r : Result A E) (P Q : Type 0) → (P → Q) → OnOk r P → OnOk r Q
on_ok (Ok a) P Q f is = f is
on_ok (Err e) P Q f is = tt

-- ---- nothing is said, and no token is at hand

pub holds_new : (s : Stored) (h : Hand) → h.names ≡ record { entries = []; floor = 0 }
    → h.places ≡ record { entries = []; floor = 0 } → Holds s h (λ x. None) (λ n. None)
holds_new s h names places = record {
  names = λ x none. ap (λ (k : Kept). tree_in s k x) names;
  held = λ x n is. ap (λ (k : Kept). tree_in s k x) names;
  no_token = λ x n is. refl;
  few = λ x far. refl;
  at_hand = λ n. ap (λ (k : Kept). option_map (token_tree s) (placed h.tokens.items (option_map (found_at k.floor) (newest n k.entries)))) places;
}

pub whole_new : (h : Hand) → h.names ≡ record { entries = []; floor = 0 } → h.places ≡ record { entries = []; floor = 0 }
    → IsWhole h
whole_new h names places = record {
  names = subst (λ (k : Kept). k.floor ≤ length k.entries) (sym names) (omega arith);
  places = subst (λ (k : Kept). k.floor ≤ length k.entries) (sym places) (omega arith);
  placed = λ n p is. absurd (let no : None ≡ Some p = sym (ap (λ (k : Kept). newest n k.entries) places) ∙ is in cc);
}

pub ids_new : (s : Stored) (h : Hand) → h.names ≡ record { entries = []; floor = 0 }
    → h.places ≡ record { entries = []; floor = 0 } → IsHandOf s h
ids_new s h names places = record {
  said = subst (AreSaidOf s) (sym names) (λ x t is. absurd (cc));
  tokens = λ n t is. absurd
      (let none : token_at h n ≡ None = ap (λ (k : Kept). placed h.tokens.items (option_map (found_at k.floor) (newest n k.entries))) places in
      let no : None ≡ Some t = sym none ∙ is in cc);
}
