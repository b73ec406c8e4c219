-- What the rules on names say of a list they say of its parts.
use Rattle.std.specs.Prelude.{◌≡◌, ℕ, Bool, true, false, not, ◌&&◌, ◌||◌, if◌then◌else◌, nat_eq, List, [], ◌∷◌, ◌++◌, Option, Some, None, option_map}
use Rattle.std.specs.List.{list_all, flat_map}
use Rattle.std.proofs.lemmas.List.Folds.{list_all-append}
use Rattle.std.proofs.lemmas.Bool.{eqb-true, eq-eqb, or_right}
use Rattle.sync_machine.specs.Naming.{is_in}
use Rattle.sync_thread.specs.Control.{Brace, Do, On, OnWhen, If, Loop, Next, Break, Meet, End}
use Rattle.sync_thread.specs.Programs.{WordTree, KeepTree, JumpTree, LocalTree, Set, Proof, SharedTree, Read, Write, Peek, Operate, Print, ListTree}
use Rattle.sync_thread_machine.specs.MachineWithProgram.{MachineWithProgram}
use Rattle.sync_typing.specs.Environments.{Env, on_some}
use Rattle.sync_typing.specs.Lists.{Spot, Target, in_branch, in_loop, word_of, assigned_locals, assigned_here, assigned_by, with_local, with_local_if}
use Rattle.sync_typing.specs.Names.{list_is_named, local_is_named, shared_is_named, choice_is_named, steps_are_named, AtWord, op_is_named, index_is_named, cond_is_named, keep_here, keep_is_named, known_here, jump_is_named, proof_names, bound_here, bound_by_shared, bound_by_steps, bound_by_keep, none_in, are_names, body_is_named}
use Rattle.sync_typing_laws.proofs.ControlKept.{all_grow}
use Rattle.sync_typing_laws.specs.Rests.{IsPart, aims_of}
use Rattle.sync_typing_laws.specs.Ruling.{scene_at, Meanings, Parts}
use mathlib.Core.Path.{refl, sym, subst, ◌∙◌}
use Rattle.sync_typing_laws.specs.Standing.{with_names}

and_first : (a b : Bool) → (a && b) ≡ true → a ≡ true
and_first true b is = refl
and_first false b is = is

and_second : (a b : Bool) → (a && b) ≡ true → b ≡ true
and_second true b is = is
and_second false b is = let no : false ≡ true = is in cc

and_both : (a b : Bool) → a ≡ true → b ≡ true → (a && b) ≡ true
and_both a b one two = subst (λ z. (z && b) ≡ true) (sym one) two

front : (p : ℕ → Bool) (xs ys : List ℕ) → list_all p (xs ++ ys) ≡ true → list_all p xs ≡ true
front p xs ys is = and_first (list_all p xs) (list_all p ys) (sym (list_all-append p xs ys) ∙ is)

back : (p : ℕ → Bool) (xs ys : List ℕ) → list_all p (xs ++ ys) ≡ true → list_all p ys ≡ true
back p xs ys is = and_second (list_all p xs) (list_all p ys) (sym (list_all-append p xs ys) ∙ is)

whole : (p : ℕ → Bool) (xs ys : List ℕ) → list_all p xs ≡ true → list_all p ys ≡ true → list_all p (xs ++ ys) ≡ true
whole p xs ys one two = list_all-append p xs ys ∙ and_both (list_all p xs) (list_all p ys) one two

-- ---- the locals that a list assigns

-- what is put behind others is put behind fewer, too
record Adds (p : ℕ → Bool) (f : List ℕ → List ℕ) : Type 0 where
  kept : (xs : List ℕ) → list_all p (f xs) ≡ true → list_all p xs ≡ true
  fewer : (xs ys : List ℕ) → list_all p (f xs) ≡ true → list_all p ys ≡ true → list_all p (f ys) ≡ true

nothing_adds : (p : ℕ → Bool) → Adds p (λ xs. xs)
nothing_adds p = record { kept = λ xs is. is; fewer = λ xs ys is other. other }

then_adds : (p : ℕ → Bool) (f h : List ℕ → List ℕ) → Adds p f → Adds p h → Adds p (λ xs. h (f xs))
then_adds p f h one two = record { kept = λ xs is. one.kept xs (two.kept (f xs) is); fewer = λ xs ys is other. two.fewer (f xs) (f ys) is (one.fewer xs ys (two.kept (f xs) is) other) }

in_all : (p : ℕ → Bool) (x : ℕ) (xs : List ℕ) → is_in x xs ≡ true → list_all p xs ≡ true → p x ≡ true
in_all p x [] inside all = let no : false ≡ true = inside in cc
in_all p x (y ∷ ys) inside all = tested (nat_eq x y) refl inside (in_all p x ys) where
  tested : (b : Bool) → nat_eq x y ≡ b → (b || is_in x ys) ≡ true → (is_in x ys ≡ true → list_all p ys ≡ true → p x ≡ true) → p x ≡ true
  tested true same inside later = subst (λ z. p z ≡ true) (sym (eqb-true x y same)) (and_first (p y) (list_all p ys) all)
  tested false other inside later = later inside (and_second (p y) (list_all p ys) all)

local_adds : (p : ℕ → Bool) (x : ℕ) → Adds p (with_local x)
local_adds p x = record { kept = kept; fewer = fewer } where
  kept : (xs : List ℕ) → list_all p (with_local x xs) ≡ true → list_all p xs ≡ true
  kept xs is = tested (is_in x xs) is where
    tested : (b : Bool) → list_all p (if b then xs else xs ++ x ∷ []) ≡ true → list_all p xs ≡ true
    tested true is = is
    tested false is = front p xs (x ∷ []) is

  passes : (xs : List ℕ) → list_all p (with_local x xs) ≡ true → p x ≡ true
  passes xs is = tested (is_in x xs) refl is where
    tested : (b : Bool) → is_in x xs ≡ b → list_all p (if b then xs else xs ++ x ∷ []) ≡ true → p x ≡ true
    tested true inside is = in_all p x xs inside is
    tested false outside is = and_first (p x) true (back p xs (x ∷ []) is)

  fewer : (xs ys : List ℕ) → list_all p (with_local x xs) ≡ true → list_all p ys ≡ true → list_all p (with_local x ys) ≡ true
  fewer xs ys is other = tested (is_in x ys) where
    tested : (b : Bool) → list_all p (if b then ys else ys ++ x ∷ []) ≡ true
    tested true = other
    tested false = whole p ys (x ∷ []) other (and_both (p x) true (passes xs is) refl)

if_adds : (p : ℕ → Bool) (x : Option ℕ) → Adds p (with_local_if x)
if_adds p None = nothing_adds p
if_adds p (Some x) = local_adds p x

here_adds : (p : ℕ → Bool) (l : LocalTree) → Adds p (assigned_here l)
here_adds p (Set x calc label) = local_adds p x
here_adds p (Proof f) = nothing_adds p

by_adds : (p : ℕ → Bool) (a : SharedTree) → Adds p (assigned_by a)
by_adds p (Read x c i n ss) = local_adds p x
by_adds p (Peek x c i d) = local_adds p x
by_adds p (Operate a b) = if_adds p a.local
by_adds p (Write c i a n ss) = nothing_adds p
by_adds p (Print l o) = nothing_adds p

list_adds : (p : ℕ → Bool) (list : ListTree) → Adds p (assigned_locals list)
list_adds p (Brace n) = nothing_adds p
list_adds p (Do l n rest) = then_adds p (assigned_here l) (assigned_locals rest) (here_adds p l) (list_adds p rest)
list_adds p (On a n rest) = then_adds p (assigned_by a) (assigned_locals rest) (by_adds p a) (list_adds p rest)
list_adds p (OnWhen a n one two joined rest) = then_adds p (with_local_if a.atomic.local) (λ xs. assigned_locals rest (assigned_locals two (assigned_locals one xs))) (if_adds p a.atomic.local)
    (then_adds p (assigned_locals one) (λ xs. assigned_locals rest (assigned_locals two xs)) (list_adds p one) (then_adds p (assigned_locals two) (assigned_locals rest) (list_adds p two) (list_adds p rest)))
list_adds p (If c n one two joined rest) = then_adds p (assigned_locals one) (λ xs. assigned_locals rest (assigned_locals two xs)) (list_adds p one) (then_adds p (assigned_locals two) (assigned_locals rest) (list_adds p two) (list_adds p rest))
list_adds p (Loop k j n body left rest) = then_adds p (assigned_locals body) (assigned_locals rest) (list_adds p body) (list_adds p rest)
list_adds p (Next j n rest) = list_adds p rest
list_adds p (Break j n rest) = list_adds p rest
list_adds p (Meet j n rest) = list_adds p rest
list_adds p (End j n rest) = list_adds p rest

-- the last of what two lists assign, behind others, and the first
last_assigns : (p : ℕ → Bool) (rest : ListTree) (xs : List ℕ) → list_all p (assigned_locals rest xs) ≡ true → list_all p (assigned_locals rest []) ≡ true
last_assigns p rest xs is = (list_adds p rest).fewer xs [] is refl

-- ---- aims

branch_named : (x : MachineWithProgram) (ls : List ℕ) (p : Spot) (e : Env) (joined : Option KeepTree) (list : ListTree) → list_is_named x ls (record (aims_of p) { meet = joined }) list ≡ true → list_is_named x ls (aims_of (in_branch e joined p)) list ≡ true
branch_named x ls p e None list is = is
branch_named x ls p e (Some k) list is = is

body_named : (x : MachineWithProgram) (ls : List ℕ) (p : Spot) (e : Env) (k : KeepTree) (left : Option KeepTree) (list : ListTree) → list_is_named x ls (record (aims_of p) { next = Some k; break = left; meet = None }) list ≡ true
    → list_is_named x ls (aims_of (in_loop e k left p)) list ≡ true
body_named x ls p e k None list is = is
body_named x ls p e k (Some o) list is = is

-- ---- the parts

-- what the rules on names say, as a meaning's `Part`, `Keeps` and `Jumps`
jump_named : (x : MachineWithProgram) (j : JumpTree) (o : Option Target) (b : Bool) → (jump_is_named (known_here x) j (option_map (λ (t : Target). t.keep) o) && b) ≡ true → (g : Target) → o ≡ Some g → jump_is_named (known_here x) j (Some g.keep) ≡ true
jump_named x j o b is g there = subst (λ z. jump_is_named (known_here x) j (option_map (λ (t : Target). t.keep) z) ≡ true) there (and_first (jump_is_named (known_here x) j (option_map (λ (t : Target). t.keep) o)) b is)

keep_there : (x : MachineWithProgram) (ls : List ℕ) (o : Option KeepTree) → keep_here x o ≡ true → none_in (bound_by_keep o) ls ≡ true → (k : KeepTree) → o ≡ Some k → (keep_is_named x (known_here x) k ≡ true) × (none_in k.names ls ≡ true)
keep_there x ls o named binds k there = (subst (λ z. keep_here x z ≡ true) there named, subst (λ z. none_in (bound_by_keep z) ls ≡ true) there binds)

found_word : (o : Option WordTree) (blocks : WordTree → Bool) → on_some o false blocks ≡ true → (w : WordTree) × (o ≡ Some w)
found_word None blocks is = let no : false ≡ true = is in cc
found_word (Some w) blocks is = (w, refl)

-- two branches with their keep, and the rest
branches_named : (x : MachineWithProgram) (ls : List ℕ) (p : Spot) (one two : ListTree) (joined : Option KeepTree) (rest : ListTree)
    → (keep_here x joined && (list_is_named x ls (record (aims_of p) { meet = joined }) one && (list_is_named x ls (record (aims_of p) { meet = joined }) two && list_is_named x ls (aims_of p) rest))) ≡ true
    → (xs : List ℕ) → list_all (λ y. is_in y ls) (assigned_locals rest (assigned_locals two (assigned_locals one xs))) ≡ true
    → none_in (bound_by_keep joined) ls ≡ true → none_in (proof_names one) ls ≡ true → none_in (proof_names two) ls ≡ true → none_in (proof_names rest) ls ≡ true
    → ((b : Bool) (e : Env) → IsPart x ls (in_branch e joined p) (if b then one else two)) × ((k : KeepTree) → joined ≡ Some k → (keep_is_named x (known_here x) k ≡ true) × (none_in k.names ls ≡ true)) × IsPart x ls p rest
branches_named x ls p one two joined rest named xs assigns binds_keep binds_one binds_two binds_rest = (
  taken,
  keep_there x ls joined (and_first (keep_here x joined) in_lists named) binds_keep,
  record { named = and_second two_is rest_is three; assigns = last_assigns q rest (assigned_locals two (assigned_locals one xs)) assigns; binds = binds_rest },
) where
  q : ℕ → Bool
  q y = is_in y ls

  one_is : Bool
  one_is = list_is_named x ls (record (aims_of p) { meet = joined }) one

  two_is : Bool
  two_is = list_is_named x ls (record (aims_of p) { meet = joined }) two

  rest_is : Bool
  rest_is = list_is_named x ls (aims_of p) rest

  in_lists : Bool
  in_lists = one_is && (two_is && rest_is)

  lists_are : in_lists ≡ true
  lists_are = and_second (keep_here x joined) in_lists named

  three : (two_is && rest_is) ≡ true
  three = and_second one_is (two_is && rest_is) lists_are

  two_assigns : list_all q (assigned_locals two (assigned_locals one xs)) ≡ true
  two_assigns = (list_adds q rest).kept (assigned_locals two (assigned_locals one xs)) assigns

  taken : (b : Bool) (e : Env) → IsPart x ls (in_branch e joined p) (if b then one else two)
  taken true e = record { named = branch_named x ls p e joined one (and_first one_is (two_is && rest_is) lists_are); assigns = last_assigns q one xs ((list_adds q two).kept (assigned_locals one xs) two_assigns); binds = binds_one }
  taken false e = record { named = branch_named x ls p e joined two (and_first two_is rest_is three); assigns = last_assigns q two (assigned_locals one xs) two_assigns; binds = binds_two }

loop_named : (x : MachineWithProgram) (ls : List ℕ) (p : Spot) (k : KeepTree) (j : JumpTree) (n : ℕ) (body : ListTree) (left : Option KeepTree) (rest : ListTree) → IsPart x ls p (Loop k j n body left rest)
    → ((e : Env) → IsPart x ls (in_loop e k left p) body) × ((keep_is_named x (known_here x) k ≡ true) × (none_in k.names ls ≡ true))
    × ((o : KeepTree) → left ≡ Some o → (keep_is_named x (known_here x) o ≡ true) × (none_in o.names ls ≡ true)) × IsPart x ls p rest
loop_named x ls p k j n body left rest part = (
  (λ e. record { named = body_named x ls p e k left body (and_first body_is rest_is lists_are); assigns = last_assigns q body [] ((list_adds q rest).kept (assigned_locals body []) part.assigns); binds = back r (k.names ++ bound_by_keep left) (proof_names body) third }),
  (and_first keep_is (jump_is && (left_is && (body_is && rest_is))) part.named, front r k.names (bound_by_keep left) second),
  keep_there x ls left (and_first left_is (body_is && rest_is) more) (back r k.names (bound_by_keep left) second),
  record { named = and_second body_is rest_is lists_are; assigns = last_assigns q rest (assigned_locals body []) part.assigns; binds = back r (k.names ++ bound_by_keep left ++ proof_names body) (proof_names rest) part.binds },
) where
  q : ℕ → Bool
  q y = is_in y ls

  r : ℕ → Bool
  r y = not (is_in y ls)

  keep_is : Bool
  keep_is = keep_is_named x (known_here x) k

  jump_is : Bool
  jump_is = jump_is_named (known_here x) j (Some k)

  left_is : Bool
  left_is = keep_here x left

  body_is : Bool
  body_is = list_is_named x ls (record (aims_of p) { next = Some k; break = left; meet = None }) body

  rest_is : Bool
  rest_is = list_is_named x ls (aims_of p) rest

  more : (left_is && (body_is && rest_is)) ≡ true
  more = and_second jump_is (left_is && (body_is && rest_is)) (and_second keep_is (jump_is && (left_is && (body_is && rest_is))) part.named)

  lists_are : (body_is && rest_is) ≡ true
  lists_are = and_second left_is (body_is && rest_is) more

  third : list_all r (k.names ++ bound_by_keep left ++ proof_names body) ≡ true
  third = front r (k.names ++ bound_by_keep left ++ proof_names body) (proof_names rest) part.binds

  second : list_all r (k.names ++ bound_by_keep left) ≡ true
  second = front r (k.names ++ bound_by_keep left) (proof_names body) third

pub parts_of : (x : MachineWithProgram) (m : Meanings) (t : ℕ) → Parts x (with_names x m) t
parts_of x m t = record {
  local = λ p l n rest part. record { named = and_second (local_is_named x ls l) (list_is_named x ls (aims_of p) rest) part.named; assigns = last_assigns q rest (assigned_here l []) part.assigns; binds = back r (bound_here l) (proof_names rest) part.binds };
  shared = λ p a n rest part. record { named = and_second (shared_is_named x ls a) (list_is_named x ls (aims_of p) rest) part.named; assigns = last_assigns q rest (assigned_by a []) part.assigns; binds = back r (bound_by_shared a) (proof_names rest) part.binds };
  word = λ p a n one two joined rest part. found_word (word_of (scene_at x t) a.atomic.word) (λ w. steps_are_named x (AtWord w) a.first && steps_are_named x (AtWord w) a.second)
      (and_second (index_is_named ls a.atomic.index) _ (and_second (op_is_named ls a.atomic.op) _ (and_first _ (cond_is_named ls a.test.cond) (and_first (choice_is_named x ls a) _ part.named))));
  choice = λ p a n one two joined rest part.
      (let four : list_all r (bound_by_steps a.first ++ bound_by_steps a.second ++ bound_by_keep joined ++ proof_names one ++ proof_names two) ≡ true = front r (bound_by_steps a.first ++ bound_by_steps a.second ++ bound_by_keep joined ++ proof_names one ++ proof_names two) (proof_names rest) part.binds in
      let three : list_all r (bound_by_steps a.first ++ bound_by_steps a.second ++ bound_by_keep joined ++ proof_names one) ≡ true = front r (bound_by_steps a.first ++ bound_by_steps a.second ++ bound_by_keep joined ++ proof_names one) (proof_names two) four in
      let two_of : list_all r (bound_by_steps a.first ++ bound_by_steps a.second ++ bound_by_keep joined) ≡ true = front r (bound_by_steps a.first ++ bound_by_steps a.second ++ bound_by_keep joined) (proof_names one) three in
      branches_named x ls p one two joined rest (and_second (choice_is_named x ls a) _ part.named) (with_local_if a.atomic.local []) part.assigns (back r (bound_by_steps a.first ++ bound_by_steps a.second) (bound_by_keep joined) two_of)
      (back r (bound_by_steps a.first ++ bound_by_steps a.second ++ bound_by_keep joined) (proof_names one) three)
      (back r (bound_by_steps a.first ++ bound_by_steps a.second ++ bound_by_keep joined ++ proof_names one) (proof_names two) four)
      (back r (bound_by_steps a.first ++ bound_by_steps a.second ++ bound_by_keep joined ++ proof_names one ++ proof_names two) (proof_names rest) part.binds));
  test = λ p c n one two joined rest part.
      (let four : list_all r (bound_by_keep joined ++ proof_names one ++ proof_names two) ≡ true = front r (bound_by_keep joined ++ proof_names one ++ proof_names two) (proof_names rest) part.binds in
      let three : list_all r (bound_by_keep joined ++ proof_names one) ≡ true = front r (bound_by_keep joined ++ proof_names one) (proof_names two) four in
      branches_named x ls p one two joined rest (and_second (cond_is_named ls c.cond) _ part.named) [] part.assigns (front r (bound_by_keep joined) (proof_names one) three) (back r (bound_by_keep joined) (proof_names one) three)
      (back r (bound_by_keep joined ++ proof_names one) (proof_names two) four) (back r (bound_by_keep joined ++ proof_names one ++ proof_names two) (proof_names rest) part.binds));
  loop = λ p k j n body left rest part. loop_named x ls p k j n body left rest part;
  next = λ p j n rest part g there. jump_named x j p.next (list_is_named x ls (aims_of p) rest) part.named g there;
  break = λ p j n rest part g there. jump_named x j p.break (list_is_named x ls (aims_of p) rest) part.named g there;
  meet = λ p j n rest part g there. jump_named x j p.meet (list_is_named x ls (aims_of p) rest) part.named g there;
  end = λ p j n rest part g there. jump_named x j p.end (list_is_named x ls (aims_of p) rest) part.named g there;
} where
  ls : List ℕ
  ls = (scene_at x t).locals

  q : ℕ → Bool
  q y = is_in y ls

  r : ℕ → Bool
  r y = not (is_in y ls)

-- ---- the whole list

all_in : (xs : List ℕ) → list_all (λ y. is_in y xs) xs ≡ true
all_in [] = refl
all_in (x ∷ xs) = and_both (is_in x (x ∷ xs)) (list_all (λ y. is_in y (x ∷ xs)) xs) (subst (λ b. (b || is_in x xs) ≡ true) (sym (eq-eqb x x refl)) refl)
    (all_grow (λ y. is_in y xs) (λ y. is_in y (x ∷ xs)) (λ y inside. or_right (nat_eq y x) (is_in y xs) inside) xs (all_in xs))

-- a thread's list, and the final block's, as they begin
pub body_part : (x : MachineWithProgram) (p : Spot) (ks : List KeepTree) (body : ListTree) → body_is_named x (aims_of p) ks body ≡ true → IsPart x (assigned_locals body []) p body
body_part x p ks body is = record {
  named = and_second (none_in (flat_map (λ (k : KeepTree). k.names) ks ++ proof_names body) ls) (list_is_named x ls (aims_of p) body) rest;
  assigns = all_in ls;
  binds = back (λ y. not (is_in y ls)) (flat_map (λ (k : KeepTree). k.names) ks) (proof_names body) (and_first (none_in (flat_map (λ (k : KeepTree). k.names) ks ++ proof_names body) ls) (list_is_named x ls (aims_of p) body) rest);
} where
  ls : List ℕ
  ls = assigned_locals body []

  rest : (none_in (flat_map (λ (k : KeepTree). k.names) ks ++ proof_names body) ls && list_is_named x ls (aims_of p) body) ≡ true
  rest = and_second (are_names ls) _ is
