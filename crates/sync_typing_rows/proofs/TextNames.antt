-- What the rules on names and the typing rules say of the threads and the final block of a text.
use Rattle.std.proofs.Common.{arith}
use Rattle.std.proofs.lemmas.Bool.{and_parts}
use Rattle.std.specs.List.{AllByRecursion, list_all}
use Rattle.std.specs.Prelude.{◌≡◌, ℕ, zero, suc, ◌<◌, ◌≤◌, pos, Bool, true, not, List, [], ◌∷◌, ◌++◌, length, map, flat_map, slice_get, Option, Some, None, unwrap_or, Ok, Err}
use Rattle.sync_base.specs.Outcome.{first}
use Rattle.sync_base.specs.declared.stops.Refusal.{Refusal}
use Rattle.sync_base.specs.declared.stops.Rule.TheVariants.{T1}
use Rattle.sync_machine.specs.Naming.{is_in}
use Rattle.sync_terms.specs.Maps as maps
use Rattle.sync_terms.specs.Values.{Valuation}
use Rattle.sync_thread.specs.Programs.{KeepTree, ListTree, ThreadTree}
use Rattle.sync_thread_machine.specs.MachineWithProgram.{MachineWithProgram}
use Rattle.sync_typing.specs.Dues.{Due, Wants, row}
use Rattle.sync_typing.specs.Environments.{Env, Outcome, on_some}
use Rattle.sync_typing.specs.Keeps.{is_at_hand_in, keep_due, keep_names_only}
use Rattle.sync_typing.specs.Lists.{assigned_locals, on}
use Rattle.sync_typing.specs.Names.{Aims, are_names, body_is_named, final_is_named, keep_is_named, known_with, list_is_named, no_aims, none_in, proof_names, thread_is_named}
use Rattle.sync_typing.specs.Typing.{all_ends, constants, final_fault, final_place, first_env, list_from, thread_fault, thread_place, threads_fault}
use Rattle.sync_typing.specs.Lists.{end_line}
use Rattle.sync_typing_laws.proofs.ControlNamed.{body_part}
use Rattle.sync_typing_laws.proofs.Deciding.{laws}
use Rattle.sync_typing_laws.proofs.LocalDues.{Met, row_met}
use Rattle.sync_typing_laws.specs.Rests.{IsPart}
use Rattle.sync_typing_laws.specs.RowLaws.{IsThreadOf}
use Rattle.sync_typing_laws.specs.Ruling.{body_at, goal_at, last_list}
use Rattle.sync_typing_rows.proofs.KeepRows.{front}
use Rattle.sync_typing_rows.proofs.MoreNames.{keep_named_more}
use Rattle.sync_typing_rows.specs.BeginLaws.{IsFirstKeep}
use Rattle.sync_typing_rows.specs.EndLaws.{IsThreadKeep}
use Rattle.sync_typing_rows.specs.RestLaws.{IsTypedText}
use mathlib.Core.Path.{refl, sym, ap, subst, ◌∙◌}

pub at_all : {A : Type 0} (p : A → Bool) (xs : List A) (i : ℕ) (a : A) → list_all p xs ≡ true → slice_get xs i ≡ Some a → p a ≡ true
at_all p [] i a all is = absurd (let no : None ≡ Some a = is in cc)
at_all p (x ∷ xs) zero a all is = let same : x ≡ a = ap (λ o. unwrap_or o x) is in subst (λ d. p d ≡ true) same (and_parts (p x) (list_all p xs) all).0
at_all p (x ∷ xs) (suc i) a all is = at_all p xs i a (and_parts (p x) (list_all p xs) all).1 is

pub below_is : {A : Type 0} (xs : List A) (i : ℕ) (a : A) → slice_get xs i ≡ Some a → i < length xs
below_is [] i a is = absurd (let no : None ≡ Some a = is in cc)
below_is (x ∷ xs) zero a is = omega arith
below_is (x ∷ xs) (suc i) a is = let later : i < length xs = below_is xs i a is in omega (arith, later)

pub none_at : {A : Type 0} (xs : List A) → slice_get xs (length xs) ≡ None
none_at [] = refl
none_at (x ∷ xs) = none_at xs

pub on_none : {X : Type 0} (o : Outcome X) (f : X → Option Refusal) → on o f ≡ None → (y : X) × (o ≡ Ok y) × (f y ≡ None)
on_none (Ok y) f is = (y, refl, is)
on_none (Err r) f is = absurd (let no : Some r ≡ None = is in cc)

first_none : {A : Type 0} (a b : Option A) → first a b ≡ None → (a ≡ None) × (b ≡ None)
first_none None b is = (refl, is)
first_none (Some y) b is = absurd (let no : Some y ≡ None = is in cc)

back : (p : ℕ → Bool) (xs ys : List ℕ) → list_all p (xs ++ ys) ≡ true → list_all p ys ≡ true
back p [] ys is = is
back p (x ∷ xs) ys is = back p xs ys (and_parts (p x) (list_all p (xs ++ ys)) is).1

thread_faults : (x : MachineWithProgram) (known : Env) (ts : List ThreadTree) (i : ℕ) (u : ThreadTree) → threads_fault x known ts ≡ None → slice_get ts i ≡ Some u → thread_fault x known u ≡ None
thread_faults x known [] i u none is = absurd (let no : None ≡ Some u = is in cc)
thread_faults x known (t ∷ ts) zero u none is = let same : t ≡ u = ap (λ o. unwrap_or o t) is in subst (λ (d : ThreadTree). thread_fault x known d ≡ None) same (first_none (thread_fault x known t) (threads_fault x known ts) none).0
thread_faults x known (t ∷ ts) (suc i) u none is = thread_faults x known ts i u (first_none (thread_fault x known t) (threads_fault x known ts) none).1 is

-- a due alone that wants a test
wanted : (e : Env) (line : ℕ) (test : Bool) (next : Outcome Env) (y : Env) → row (first_env []) line (Wants T1 test ∷ []) [] next ≡ Ok y → test ≡ true
wanted e line test next y is = met.0.0 where
  v : Valuation
  v = record { number = λ n. pos 0; mapping = λ n. maps.nil }

  dues : List Due
  dues = Wants T1 test ∷ []

  met : AllByRecursion (Met v) dues × (next ≡ Ok y)
  met = row_met laws v (first_env []) line tt dues [] next y is

module _ (x : MachineWithProgram) (known : Env) (typed : IsTypedText x known) where
  abbrev n : ℕ
  n = length x.program.threads

  pub thread_named : (t : ℕ) (u : ThreadTree) → slice_get x.program.threads t ≡ Some u → thread_is_named x u ≡ true
  thread_named t u there = at_all (thread_is_named x) x.program.threads t u (and_parts _ (list_all (thread_is_named x) x.program.threads) typed.named.threads).1 there

  pub goes_from : (t : ℕ) (u : ThreadTree) → slice_get x.program.threads t ≡ Some u → list_from x u.line (thread_place u) (u.takes ∷ []) u.body known ≡ None
  goes_from t u there = (on_none (row (first_env []) u.line (keep_due (constants known) u.ends ∷ []) [] (Ok (first_env []))) (λ same. list_from x u.line (thread_place u) (u.takes ∷ []) u.body known) (thread_faults x known x.program.threads t u typed.threads there)).2

  pub end_keep : (t : ℕ) (u : ThreadTree) → slice_get x.program.threads t ≡ Some u → IsThreadKeep x known u.ends
  end_keep t u there = record {
    named = (and_parts (keep_is_named x (known_with x []) u.ends) _ (and_parts (keep_is_named x (known_with x []) u.takes) _ (thread_named t u there)).1).0;
    at_hand = (let it = on_none (row (first_env []) u.line (keep_due (constants known) u.ends ∷ []) [] (Ok (first_env []))) (λ same. list_from x u.line (thread_place u) (u.takes ∷ []) u.body known) (thread_faults x known x.program.threads t u typed.threads there) in
        wanted known u.line (keep_names_only (is_at_hand_in (constants known) u.ends) u.ends) (Ok (first_env [])) it.0 it.1);
  }

  abbrev thread_aims : ThreadTree → Aims
  thread_aims u = record no_aims { end = Some u.ends }

  pub body_named : (t : ℕ) (u : ThreadTree) → slice_get x.program.threads t ≡ Some u → body_is_named x (thread_aims u) (u.takes ∷ []) u.body ≡ true
  body_named t u there = (and_parts (keep_is_named x (known_with x []) u.ends) _ (and_parts (keep_is_named x (known_with x []) u.takes) _ (thread_named t u there)).1).1

  -- where a thread or the final block is
  pub body_of : (t : ℕ) (u : ThreadTree) → slice_get x.program.threads t ≡ Some u → body_at x t ≡ u.body
  body_of t u there = ap (λ (o : Option ThreadTree). on_some o (last_list x.program.last) (λ (v : ThreadTree). v.body)) there

  pub last_body : (body : ListTree) → x.program.last ≡ Some body → body_at x n ≡ body
  last_body body is = ap (λ (o : Option ThreadTree). on_some o (last_list x.program.last) (λ (v : ThreadTree). v.body)) (none_at x.program.threads) ∙ ap last_list is

  pub goal_of : (t : ℕ) (u : ThreadTree) → slice_get x.program.threads t ≡ Some u → goal_at x t ≡ thread_place u
  goal_of t u there = ap (λ (o : Option ThreadTree). on_some o final_place thread_place) there

  pub last_goal : goal_at x n ≡ final_place
  last_goal = ap (λ (o : Option ThreadTree). on_some o final_place thread_place) (none_at x.program.threads)

  final_named : (body : ListTree) → x.program.last ≡ Some body → body_is_named x no_aims (all_ends x.program) body ≡ true
  final_named body is = subst (λ (o : Option ListTree). final_is_named x o ≡ true) is typed.named.last

  local_names : (t : ℕ) → are_names (assigned_locals (body_at x t) []) ≡ true
  local_names t = by (slice_get x.program.threads t) refl x.program.last refl where
    by : (o : Option ThreadTree) → slice_get x.program.threads t ≡ o → (l : Option ListTree) → x.program.last ≡ l → are_names (assigned_locals (on_some o (last_list l) (λ (u : ThreadTree). u.body)) []) ≡ true
    by (Some u) there l last = (and_parts (are_names (assigned_locals u.body [])) _ (body_named t u there)).0
    by None none None last = refl
    by None none (Some body) last = (and_parts (are_names (assigned_locals body [])) _ (final_named body last)).0

  pub thread_of_text : (t : ℕ) → t ≤ n → IsThreadOf x t
  thread_of_text t below = record { few = typed.few; there = below; names = local_names t }

  -- ---- where they begin

  first_keep : (t : ℕ) (k : KeepTree) → IsThreadKeep x known k → none_in k.names (assigned_locals (body_at x t) []) ≡ true → IsFirstKeep x known t k
  first_keep t k keep binds = record { named = keep_named_more x k keep.named; at_hand = keep.at_hand; binds = binds }

  pub takes_first : (t : ℕ) (u : ThreadTree) → slice_get x.program.threads t ≡ Some u → IsThreadKeep x known u.takes → IsFirstKeep x known t u.takes
  takes_first t u there keep = first_keep t u.takes keep (subst (λ (b : ListTree). none_in u.takes.names (assigned_locals b []) ≡ true) (sym (body_of t u there)) free) where
    q : ℕ → Bool
    q y = not (is_in y (assigned_locals u.body []))

    all_free : none_in (flat_map (λ (k : KeepTree). k.names) (u.takes ∷ []) ++ proof_names u.body) (assigned_locals u.body []) ≡ true
    all_free = (and_parts (none_in (flat_map (λ (k : KeepTree). k.names) (u.takes ∷ []) ++ proof_names u.body) (assigned_locals u.body [])) (list_is_named x (assigned_locals u.body []) (thread_aims u) u.body)
        (and_parts (are_names (assigned_locals u.body [])) _ (body_named t u there)).1).0

    free : none_in u.takes.names (assigned_locals u.body []) ≡ true
    free = front q u.takes.names [] (front q (u.takes.names ++ []) (proof_names u.body) all_free)

  ends_first : (body : ListTree) → x.program.last ≡ Some body → (ts : List ThreadTree) → ((i : ℕ) (u : ThreadTree) → slice_get ts i ≡ Some u → IsThreadKeep x known u.ends)
      → list_all (λ (y : ℕ). not (is_in y (assigned_locals body []))) (flat_map (λ (k : KeepTree). k.names) (map (λ (u : ThreadTree). u.ends) ts)) ≡ true → AllByRecursion (IsFirstKeep x known n) (map (λ (u : ThreadTree). u.ends) ts)
  ends_first body is [] keeps free = tt
  ends_first body is (u ∷ ts) keeps free = (
    first_keep n u.ends (keeps 0 u refl) (subst (λ (b : ListTree). none_in u.ends.names (assigned_locals b []) ≡ true) (sym (last_body body is)) (front (λ (y : ℕ). not (is_in y (assigned_locals body []))) u.ends.names _ free)),
    ends_first body is ts (λ i v there. keeps (suc i) v there) (back (λ (y : ℕ). not (is_in y (assigned_locals body []))) u.ends.names _ free),
  )

  pub all_first : (body : ListTree) → x.program.last ≡ Some body → AllByRecursion (IsFirstKeep x known n) (all_ends x.program)
  all_first body is = ends_first body is x.program.threads end_keep (front (λ (y : ℕ). not (is_in y (assigned_locals body []))) (flat_map (λ (k : KeepTree). k.names) (all_ends x.program)) (proof_names body)
      (and_parts (none_in (flat_map (λ (k : KeepTree). k.names) (all_ends x.program) ++ proof_names body) (assigned_locals body [])) (list_is_named x (assigned_locals body []) no_aims body)
      (and_parts (are_names (assigned_locals body [])) _ (final_named body is)).1).0)

  pub takes_part : (t : ℕ) (u : ThreadTree) → slice_get x.program.threads t ≡ Some u → IsPart x (assigned_locals u.body []) (thread_place u) u.body
  takes_part t u there = body_part x (thread_place u) (u.takes ∷ []) u.body (body_named t u there)

  pub final_part : (body : ListTree) → x.program.last ≡ Some body → IsPart x (assigned_locals body []) final_place body
  final_part body is = body_part x final_place (all_ends x.program) body (final_named body is)

  pub goes_last : (body : ListTree) → x.program.last ≡ Some body → list_from x (end_line body) final_place (all_ends x.program) body known ≡ None
  goes_last body is = subst (λ (o : Option ListTree). final_fault x known o ≡ None) is typed.last
