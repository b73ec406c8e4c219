-- Lists by number: what is there, and what is put there.
use Rattle.std.proofs.Common.{◌≡◌, ℕ, zero, suc, ◌<◌, List, [], ◌∷◌, length, map, slice_get, slice_set, Option, Some, None, Result, Ok, Err, refl, sym, ap, ◌∙◌, subst, arith}
use Rattle.sync_thread.specs.declared.program.CodeStmt.{CodeStmt}
use Rattle.sync_thread_places.specs.declared.standings.Standing.{Standing}
use Rattle.sync_thread_places.specs.Places.{place_of}
use Rattle.sync_thread_events.specs.Moments.{places_of, Pairwise}

pub some_same : {A : Type 0} (a b : A) → ◌≡◌ {A = Option A} (Some a) (Some b) → a ≡ b
some_same a b e = ap (λ o. elim o [ Some c ↦ c | None ↦ a ]) e

pub ok_same : {A B : Type 0} (a b : A) → ◌≡◌ {A = Result A B} (Ok a) (Ok b) → a ≡ b
ok_same a b e = ap (λ r. elim r [ Ok c ↦ c | Err h ↦ a ]) e

pub err_same : {A B : Type 0} (a b : B) → ◌≡◌ {A = Result A B} (Err a) (Err b) → a ≡ b
err_same a b e = ap (λ r. elim r [ Ok c ↦ a | Err h ↦ h ]) e

pub got_within : {A : Type 0} (xs : List A) (t : ℕ) (x : A) → slice_get xs t ≡ Some x → t < length xs
got_within [] t x e = absurd cc
got_within (y ∷ ys) zero x e = omega arith
got_within (y ∷ ys) (suc t) x e = let h : t < length ys = got_within ys t x e in omega (arith, h)

pub set_same : {A : Type 0} (xs : List A) (t : ℕ) (x : A) → slice_get xs t ≡ Some x → slice_set xs t x ≡ xs
set_same [] t x e = refl
set_same (y ∷ ys) zero x e = ap (λ z. z ∷ ys) (sym (some_same y x e))
set_same (y ∷ ys) (suc t) x e = ap (λ zs. y ∷ zs) (set_same ys t x e)

pub map_got : {A B : Type 0} (f : A → B) (xs : List A) (t : ℕ) (x : A) → slice_get xs t ≡ Some x → slice_get (map f xs) t ≡ Some (f x)
map_got f [] t x e = absurd cc
map_got f (y ∷ ys) zero x e = ap (λ z. Some (f z)) (some_same y x e)
map_got f (y ∷ ys) (suc t) x e = map_got f ys t x e

pub map_set : {A B : Type 0} (f : A → B) (xs : List A) (t : ℕ) (x : A) → slice_set (map f xs) t (f x) ≡ map f (slice_set xs t x)
map_set f [] t x = refl
map_set f (y ∷ ys) zero x = refl
map_set f (y ∷ ys) (suc t) x = ap (λ zs. f y ∷ zs) (map_set f ys t x)

-- ---- lists of statements beside standings

pub places_got : (lists : List (List CodeStmt)) (ss : List Standing) (t : ℕ) (list : List CodeStmt) (s : Standing)
    → slice_get lists t ≡ Some list → slice_get ss t ≡ Some s → slice_get (places_of lists ss) t ≡ Some (place_of list s)
places_got [] ss t list s e f = absurd cc
places_got (l ∷ ls) [] t list s e f = absurd cc
places_got (l ∷ ls) (z ∷ zs) zero list s e f =
    ap (λ k. Some (place_of k z)) (some_same l list e) ∙ ap (λ k. Some (place_of list k)) (some_same z s f)
places_got (l ∷ ls) (z ∷ zs) (suc t) list s e f = places_got ls zs t list s e f

pub places_set : (lists : List (List CodeStmt)) (ss : List Standing) (t : ℕ) (list : List CodeStmt) (new : Standing)
    → slice_get lists t ≡ Some list → slice_set (places_of lists ss) t (place_of list new) ≡ places_of lists (slice_set ss t new)
places_set [] ss t list new e = absurd cc
places_set (l ∷ ls) [] t list new e = refl
places_set (l ∷ ls) (z ∷ zs) zero list new e = ap (λ k. place_of k new ∷ places_of ls zs) (sym (some_same l list e))
places_set (l ∷ ls) (z ∷ zs) (suc t) list new e = ap (λ ps. place_of l z ∷ ps) (places_set ls zs t list new e)

pub pair_got : (P : List CodeStmt → Standing → Type 0) (lists : List (List CodeStmt)) (ss : List Standing) (t : ℕ)
    (list : List CodeStmt) (s : Standing) → Pairwise P lists ss → slice_get lists t ≡ Some list → slice_get ss t ≡ Some s → P list s
pair_got P [] ss t list s all e f = absurd cc
pair_got P (l ∷ ls) [] t list s all e f = absurd all
pair_got P (l ∷ ls) (z ∷ zs) zero list s (first, all) e f =
    subst (λ k. P list k) (some_same z s f) (subst (λ k. P k z) (some_same l list e) first)
pair_got P (l ∷ ls) (z ∷ zs) (suc t) list s (first, all) e f = pair_got P ls zs t list s all e f

pub pair_set : (P : List CodeStmt → Standing → Type 0) (lists : List (List CodeStmt)) (ss : List Standing) (t : ℕ)
    (list : List CodeStmt) (new : Standing) → Pairwise P lists ss → slice_get lists t ≡ Some list → P list new
    → Pairwise P lists (slice_set ss t new)
pair_set P [] [] t list new all e holds = tt
pair_set P [] (z ∷ zs) t list new all e holds = absurd all
pair_set P (l ∷ ls) [] t list new all e holds = absurd all
pair_set P (l ∷ ls) (z ∷ zs) zero list new (first, all) e holds = (subst (λ k. P k new) (sym (some_same l list e)) holds, all)
pair_set P (l ∷ ls) (z ∷ zs) (suc t) list new (first, all) e holds = (first, pair_set P ls zs t list new all e holds)

pub pair_long : (P : List CodeStmt → Standing → Type 0) (lists : List (List CodeStmt)) (ss : List Standing) → Pairwise P lists ss
    → length ss ≡ length lists
pair_long P [] [] all = refl
pair_long P [] (z ∷ zs) all = absurd all
pair_long P (l ∷ ls) [] all = absurd all
pair_long P (l ∷ ls) (z ∷ zs) (first, all) = ap suc (pair_long P ls zs all)

pub pair_weaker : (P Q : List CodeStmt → Standing → Type 0) → ((l : List CodeStmt) (s : Standing) → P l s → Q l s)
    → (lists : List (List CodeStmt)) (ss : List Standing) → Pairwise P lists ss → Pairwise Q lists ss
pair_weaker P Q on [] [] all = tt
pair_weaker P Q on [] (z ∷ zs) all = absurd all
pair_weaker P Q on (l ∷ ls) [] all = absurd all
pair_weaker P Q on (l ∷ ls) (z ∷ zs) (first, all) = (on l z first, pair_weaker P Q on ls zs all)
