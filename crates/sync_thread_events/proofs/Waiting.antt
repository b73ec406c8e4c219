-- Who waits, by the tables.
use Rattle.std.proofs.Common.{◌≡◌, ℕ, zero, suc, ◌+◌, ◌<◌, ◌≤◌, Bool, true, false, not, ◌&&◌, if◌then◌else◌, is_none, List, [], ◌∷◌, length, take, get_or, slice_get, Some, None, refl, sym, ap, ◌∙◌}
use Rattle.std.specs.List.{list_all}
use Rattle.std.proofs.lemmas.List.{take_all, take_more}
use Rattle.sync_thread_places.proofs.Tables.{got}
use Rattle.std.proofs.lemmas.List.Folds.{list_all-append}
use Rattle.sync_thread.specs.declared.program.CodeStmt.{CodeStmt}
use Rattle.sync_thread.specs.Control.{have_ended, is_waiting, waits_at}
use Rattle.sync_thread_places.specs.declared.standings.Standing.{Standing}
use Rattle.sync_thread_places.specs.Places.{place_of, place_in, way_from}
use Rattle.sync_thread_events.specs.Moves.{IsThere}
use Rattle.sync_thread_events.specs.Moments.{IsReady, Pairwise, places_of}
use Rattle.sync_thread_events.proofs.Tables.{some_same}

-- one place

there_waits : (list : List CodeStmt) (s : Standing) → IsThere list s → is_waiting (Some (place_of list s)) ≡ s.waits
there_waits list s there = by s.waits refl where
  by : (b : Bool) → s.waits ≡ b → is_waiting (Some (place_of list s)) ≡ s.waits
  by true waits = let (w, at) = there waits in ap (λ p. is_waiting (Some p)) at ∙ sym waits
  by false rests = ap (λ b. is_waiting (Some (if b then place_in (way_from 0 s) s.at list else None))) rests ∙ sym rests

none_there : (list : List CodeStmt) (s : Standing) → IsThere list s → is_none (place_of list s) ≡ not s.waits
none_there list s there = by s.waits refl where
  by : (b : Bool) → s.waits ≡ b → is_none (place_of list s) ≡ not s.waits
  by true waits = let (w, at) = there waits in ap is_none at ∙ ap not (sym waits)
  by false rests = ap (λ b. is_none (if b then place_in (way_from 0 s) s.at list else None)) rests ∙ ap not (sym rests)

-- by number

pub waits_some : (lists : List (List CodeStmt)) (ss : List Standing) (t : ℕ) (s : Standing) → Pairwise IsReady lists ss → slice_get ss t ≡ Some s
    → s.waits ≡ waits_at t (places_of lists ss)
waits_some [] [] t s all e = absurd cc
waits_some [] (z ∷ zs) t s all e = absurd all
waits_some (l ∷ ls) [] t s all e = absurd all
waits_some (l ∷ ls) (z ∷ zs) zero s (first, all) e = ap (λ (y : Standing). y.waits) (sym (some_same z s e)) ∙ sym (there_waits l z first.there)
waits_some (l ∷ ls) (z ∷ zs) (suc t) s (first, all) e = waits_some ls zs t s all e

pub waits_none : (lists : List (List CodeStmt)) (ss : List Standing) (t : ℕ) → slice_get ss t ≡ None
    → false ≡ waits_at t (places_of lists ss)
waits_none [] ss t e = refl
waits_none (l ∷ ls) [] t e = refl
waits_none (l ∷ ls) (z ∷ zs) zero e = absurd cc
waits_none (l ∷ ls) (z ∷ zs) (suc t) e = waits_none ls zs t e

-- and back: who waits in the meaning is in the tables
pub waits_back : (lists : List (List CodeStmt)) (ss : List Standing) (t : ℕ) → Pairwise IsReady lists ss → waits_at t (places_of lists ss) ≡ true
    → (l : List CodeStmt) × (s : Standing) × (slice_get lists t ≡ Some l) × (slice_get ss t ≡ Some s) × (s.waits ≡ true)
waits_back [] ss t all waits = absurd cc
waits_back (l ∷ ls) [] t all waits = absurd all
waits_back (l ∷ ls) (z ∷ zs) zero (first, all) waits = (l, z, refl, refl, sym (there_waits l z first.there) ∙ waits)
waits_back (l ∷ ls) (z ∷ zs) (suc t) (first, all) waits = waits_back ls zs t all waits

-- ---- whether anybody waits

abbrev pub rests : Standing → Bool
rests s = not s.waits

pub none_waits : (lists : List (List CodeStmt)) (ss : List Standing) → Pairwise IsReady lists ss
    → list_all rests ss ≡ have_ended (places_of lists ss)
none_waits [] [] all = refl
none_waits [] (z ∷ zs) all = absurd all
none_waits (l ∷ ls) [] all = absurd all
none_waits (l ∷ ls) (z ∷ zs) (first, all) =
    ap (λ b. b && list_all rests zs) (sym (none_there l z first.there)) ∙ ap (λ b. is_none (place_of l z) && b) (none_waits ls zs all)

pub one_waits : (ss : List Standing) (i : ℕ) (s : Standing) → slice_get ss i ≡ Some s → s.waits ≡ true → list_all rests ss ≡ false
one_waits [] i s e waits = absurd cc
one_waits (z ∷ zs) zero s e waits =
    ap (λ b. b && list_all rests zs) (ap (λ (y : Standing). not y.waits) (some_same z s e) ∙ ap not waits)
one_waits (z ∷ zs) (suc i) s e waits = ap (λ b. not z.waits && b) (one_waits zs i s e waits) ∙ both (not z.waits) where
  both : (b : Bool) → (b && false) ≡ false
  both true = refl
  both false = refl

pub rests_more : (ss : List Standing) (i : ℕ) (s : Standing) → i < length ss → get_or ss i s ≡ s → s.waits ≡ false
    → list_all rests (take i ss) ≡ true → list_all rests (take (i + 1) ss) ≡ true
rests_more ss i s within is rest before =
    ap (list_all rests) (take_more ss i s within)
    ∙ list_all-append rests (take i ss) (get_or ss i s ∷ [])
    ∙ ap (λ b. b && list_all rests (get_or ss i s ∷ [])) before
    ∙ ap (λ (y : Standing). not y.waits && true) is ∙ ap (λ b. not b && true) rest

-- as the loop has it
pub one_still : (lists : List (List CodeStmt)) (ss items : List Standing) (i : ℕ) (s : Standing) → Pairwise IsReady lists ss → items ≡ ss
    → i < length items → s ≡ get_or items i s → s.waits ≡ true → false ≡ have_ended (places_of lists ss)
one_still lists ss items i s all is within at waits =
    sym (ap (list_all rests) (sym is) ∙ one_waits items i s (got items i s within at) waits) ∙ none_waits lists ss all

pub none_still : (lists : List (List CodeStmt)) (ss items : List Standing) (i : ℕ) → Pairwise IsReady lists ss → items ≡ ss
    → length items ≤ i → list_all rests (take i items) ≡ true → true ≡ have_ended (places_of lists ss)
none_still lists ss items i all is past rest =
    sym (ap (list_all rests) (sym is) ∙ ap (list_all rests) (sym (take_all i items past)) ∙ rest) ∙ none_waits lists ss all
