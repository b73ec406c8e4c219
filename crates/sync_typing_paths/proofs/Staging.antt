-- How far a block has come behind the case of a clause.
use Rattle.std.proofs.Common.{◌≡◌, ℕ, ◌-◌, ◌<◌, Bool, true, false, not, ◌&&◌, ◌||◌, nat_eq, nat_lt, map, option_map, if◌then◌else◌, List, [], ◌∷◌, ◌++◌, length, get_or, Option, Some, None, Result, Ok, Err, refl, sym, ap, ◌∙◌, arith}
use Rattle.std.specs.Prelude.{IfOk, is_some, pred, reverse, slice_get}
use Rattle.std.specs.List.{list_any}
use Rattle.std.proofs.lemmas.Bool.{lt-ltb, ltb-false, ltb-true}
use Rattle.std.proofs.lemmas.List.{reverse-append}
use Rattle.std.proofs.lemmas.Option.{slice_get-get_or, slice_get-map, slice_get_past}
use Rattle.sync_terms.specs.Stored.{Stored, formula}
use Rattle.sync_thread.specs.declared.program.Clause.{Clause}
use Rattle.sync_thread.specs.declared.program.Word.{Word}
use Rattle.sync_thread.specs.Programs.{CaseTree, ClauseTree, WordTree, Case}
use Rattle.sync_thread.specs.Views.{clause_tree, word_tree}
use Rattle.sync_typing.specs.Blocks.{Stage, Fresh, Opened, Done, Wrong, is_guarded, moved}
use Rattle.sync_typing.specs.Environments.{on_some}
use Rattle.sync_typing_paths.specs.Statements.{stage_decided}

-- ---- the clauses that were decided

turned_or : (a b : Bool) → (a || (b || false)) ≡ (b || a)
turned_or true true = refl
turned_or true false = refl
turned_or false true = refl
turned_or false false = refl

any_append : (p : ℕ → Bool) (xs ys : List ℕ) → list_any p (xs ++ ys) ≡ (list_any p xs || list_any p ys)
any_append p [] ys = refl
any_append p (x ∷ xs) ys = ap (λ b. p x || b) (any_append p xs ys) ∙ grouped (p x) (list_any p xs) (list_any p ys)
  where
    grouped : (a b c : Bool) → (a || (b || c)) ≡ ((a || b) || c)
    grouped true b c = refl
    grouped false b c = refl

any_reverse : (p : ℕ → Bool) (xs : List ℕ) → list_any p (reverse xs) ≡ list_any p xs
any_reverse p [] = refl
any_reverse p (x ∷ xs) =
    ap (list_any p) (reverse-append (x ∷ []) xs) ∙ any_append p (reverse xs) (x ∷ [])
    ∙ ap (λ b. b || (p x || false)) (any_reverse p xs) ∙ turned_or (list_any p xs) (p x)

pub decided_new : (w : WordTree) (keys new : List ℕ) (n : ℕ) → is_guarded w n ≡ true
    → list_any (nat_eq n) keys ≡ false → new ≡ (if list_any (nat_eq n) keys then keys else keys ++ n ∷ [])
    → Opened (reverse new) ≡ stage_decided w (Opened (reverse keys)) n
decided_new w keys new n guarded absent are =
    let here = any_reverse (nat_eq n) keys ∙ absent in
    ap (λ (ks : List ℕ). Opened (reverse ks)) (are ∙ ap (λ b. if b then keys else keys ++ n ∷ []) absent)
    ∙ ap Opened (reverse-append keys (n ∷ []))
    ∙ sym (λ i. if guarded i && not (here i) then Opened (n ∷ reverse keys) else Wrong)

pub decided_again : (w : WordTree) (keys : List ℕ) (n : ℕ) → is_guarded w n ≡ true → list_any (nat_eq n) keys ≡ true
    → Wrong ≡ stage_decided w (Opened (reverse keys)) n
decided_again w keys n guarded there =
    let here = any_reverse (nat_eq n) keys ∙ there in
    sym (λ i. if guarded i && not (here i) then Opened (n ∷ reverse keys) else Wrong)

pub decided_none : (w : WordTree) (ns : List ℕ) (n : ℕ) → is_guarded w n ≡ false
    → Wrong ≡ stage_decided w (Opened ns) n
decided_none w ns n guarded =
    sym (ap (λ b. if b && not (list_any (nat_eq n) ns) then Opened (n ∷ ns) else Wrong) guarded)

pub moved_case : (w : WordTree) (st : Stage) (f : CaseTree) → stage_decided w st f.clause ≡ moved w st (Case f)
moved_case w Fresh f = refl
moved_case w (Opened ns) f = refl
moved_case w Done f = refl
moved_case w Wrong f = refl

pub if_ok : {A E : Type 0} (r : Result A E) (P Q : A → Type 0) → ((a : A) → P a → Q a) → IfOk r P → IfOk r Q
if_ok (Ok a) P Q f is = f a is
if_ok (Err e) P Q f is = tt

-- ---- a clause with a guard

guard_of : (s : Stored) (o : Option Clause)
    → on_some o false (λ (c : Clause). is_some c.guard)
    ≡ on_some (option_map (clause_tree s) o) false (λ (c : ClauseTree). is_some c.guard)
guard_of s None = refl
guard_of s (Some c) = same c.guard
  where
    same : (g : Option _) → is_some g ≡ is_some (option_map (formula s) g)
    same None = refl
    same (Some f) = refl

pub guarded_is : (s : Stored) (w : Word) (n : ℕ) → 0 < n
    → on_some (slice_get w.clauses (n - 1)) false (λ (c : Clause). is_some c.guard) ≡ is_guarded (word_tree s w) n
guarded_is s w n some =
    guard_of s (slice_get w.clauses (n - 1))
    ∙ ap (λ (o : Option ClauseTree). on_some o false (λ (c : ClauseTree). is_some c.guard)) (sym (slice_get-map (clause_tree s) w.clauses (n - 1)))
    ∙ (let e : n - 1 ≡ pred n = omega (arith, some) in
    let yes : true ≡ nat_lt 0 n = sym (lt-ltb 0 n some) in
    λ i. yes i && on_some (slice_get (map (clause_tree s) w.clauses) (e i)) false (λ (c : ClauseTree). is_some c.guard))

pub guard_some : (s : Stored) (w : Word) (n : ℕ) (xs : List Clause) (c : Clause) → xs ≡ w.clauses → (n ≡ 0 → ⊥)
    → true ≡ nat_lt (n - 1) (length xs) → c ≡ get_or xs (n - 1) c → is_some c.guard ≡ is_guarded (word_tree s w) n
guard_some s w n xs c are some within is =
    let at : slice_get xs (n - 1) ≡ Some c =
    slice_get-get_or xs (n - 1) c (ltb-true (n - 1) (length xs) (sym within)) ∙ ap (λ (d : Clause). Some d) (sym is) in
    sym (ap (λ (o : Option Clause). on_some o false (λ (d : Clause). is_some d.guard)) (ap (λ ys. slice_get ys (n - 1)) (sym are) ∙ at))
    ∙ guarded_is s w n (omega (arith, some))

pub guard_none : (s : Stored) (w : Word) (n : ℕ) (xs : List Clause) → xs ≡ w.clauses → (n ≡ 0 → ⊥)
    → false ≡ nat_lt (n - 1) (length xs) → false ≡ is_guarded (word_tree s w) n
guard_none s w n xs are some past =
    sym (ap (λ (o : Option Clause). on_some o false (λ (d : Clause). is_some d.guard))
    (ap (λ ys. slice_get ys (n - 1)) (sym are) ∙ slice_get_past xs (n - 1) (ltb-false (n - 1) (length xs) (sym past))))
    ∙ guarded_is s w n (omega (arith, some))
