-- What a name more that is listed, proved, assigned or ended does to a place.
use Rattle.std.proofs.Common.{◌≡◌, ℕ, zero, suc, ◌<◌, ◌&&◌, ◌||◌, not, Bool, true, false, if◌then◌else◌, List, [], ◌∷◌, ◌++◌, length, slice_get, slice_set, nat_lt, nat_eq, Option, Some, None, Result, Ok, Err, refl, sym, ap, ◌∙◌, true≢false, length-set}
use Rattle.std.specs.Result.{IfOk}
use Rattle.std.proofs.lemmas.Bool.{lt-ltb, ltb-true, eq-eqb, eqb-true, and_from, and_parts, or_left}
use Rattle.std.proofs.lemmas.Option.{slice_get_within}
use Rattle.std.proofs.lemmas.List.Folds.{list_all-append, list_any-append}
use Rattle.sync_base.proofs.Basics.{or_false}
use Rattle.sync_base.specs.declared.stops.Refusal.{Refusal}
use Rattle.sync_base.specs.declared.stops.Rule.TheVariants.{N1, N2}
use Rattle.sync_machine.specs.Naming.{is_in}
use Rattle.sync_parse_exprs.specs.declared.raw_names.RawName.{RawName}
use Rattle.sync_read_names.specs.declared.scopes.Owners.{Owners}
use Rattle.sync_read_names.specs.declared.scopes.Owner.{Owner}
use Rattle.sync_read_names.specs.declared.scopes.Owner.TheVariants as owner
use Rattle.sync_read_names.specs.Scopes.{refuse, with_owner, has_local, local_of, is_assigned}
use Rattle.sync_read.proofs.Owning.{get_set_here, get_set_other}
use Rattle.sync_typing.specs.Dues.{are_apart}
use Rattle.sync_typing.specs.Names.{are_names, are_apart_names, is_name}
use Rattle.sync_thread.specs.Arrays.{name_limit}
use Rattle.sync_read_programs.specs.declared.scopes.Standing.{Standing}
use Rattle.sync_read_programs.specs.declared.scopes.ProgramScope.{ProgramScope}
use Rattle.sync_read_programs.specs.Scopes.{standing_of, or_no_standing, with_standing, with_owners, with_local, has_proof, proof_of, is_proof_name, is_constant_name, may_prove, may_assign, prove_more, prove_name, assign_more, assign_name, end_more, end_name, list_name, end_token, next_list}
use Rattle.sync_read_laws.proofs.Places.{Stays, Keeps, Apart, none, is_mine, number_of, local_number, ends_of, ends_at}

-- ---- elements that are set

pub same_set : {A B : Type 0} (v : Option A → B) (xs : List A) (m : ℕ) (y : A) (n : ℕ) → v (Some y) ≡ v (slice_get xs m) → v (slice_get (slice_set xs m y) n) ≡ v (slice_get xs n)
same_set v [] m y n e = refl
same_set v (x ∷ xs) zero y zero e = e
same_set v (x ∷ xs) zero y (suc n) e = refl
same_set v (x ∷ xs) (suc m) y zero e = refl
same_set v (x ∷ xs) (suc m) y (suc n) e = same_set v xs m y n e

pub new_set : {A : Type 0} (v : Option A → Bool) (xs : List A) (m : ℕ) (y : A) (n : ℕ) → m < length xs → v (Some y) ≡ true → v (slice_get (slice_set xs m y) n) ≡ (nat_eq n m || v (slice_get xs n))
new_set v xs m y n there e = by (nat_eq n m) refl where
  by : (b : Bool) → nat_eq n m ≡ b → v (slice_get (slice_set xs m y) n) ≡ (b || v (slice_get xs n))
  by true q = ap (λ k. v (slice_get (slice_set xs m y) k)) (eqb-true n m q) ∙ ap v (get_set_here xs m y there) ∙ e
  by false q = ap v (get_set_other xs m n y (λ p. absurd (true≢false (sym (eq-eqb n m p) ∙ q))))

without_set : (xs : List Owners) (m k : ℕ) (y : Owners) → (y.local ≡ k → ⊥) → ((n : ℕ) → local_number (slice_get xs n) ≡ k → ⊥) → (n : ℕ) → local_number (slice_get (slice_set xs m y) n) ≡ k → ⊥
without_set [] m k y other h n e = h n e
without_set (x ∷ xs) zero k y other h zero e = other e
without_set (x ∷ xs) zero k y other h (suc n) e = h (suc n) e
without_set (x ∷ xs) (suc m) k y other h zero e = h zero e
without_set (x ∷ xs) (suc m) k y other h (suc n) e = without_set xs m k y other (λ j. h (suc j)) n e

-- ---- owners

proves_here : (o : Owners) (x : Owner) → is_mine x ≡ true → has_proof (with_owner o x) x ≡ true
proves_here o owner.Nobody e = cc
proves_here o (owner.Operation k) e = cc
proves_here o (owner.Invariant k) e = cc
proves_here o (owner.Word k) e = cc
proves_here o (owner.Thread k) e = eq-eqb k k refl
proves_here o (owner.Last k) e = or_left (nat_eq k k) o.ends (eq-eqb k k refl)

same_local : (o : Owners) (x : Owner) → has_local (with_owner o x) x ≡ has_local o x
same_local o owner.Nobody = refl
same_local o (owner.Operation k) = refl
same_local o (owner.Invariant k) = refl
same_local o (owner.Word k) = refl
same_local o (owner.Thread k) = refl
same_local o (owner.Last k) = refl

same_number : (o : Owners) (x : Owner) → (with_owner o x).local ≡ o.local
same_number o owner.Nobody = refl
same_number o (owner.Operation k) = refl
same_number o (owner.Invariant k) = refl
same_number o (owner.Word k) = refl
same_number o (owner.Thread k) = refl
same_number o (owner.Last k) = refl

same_ends : (o : Owners) (x : Owner) → (with_owner o x).ends ≡ o.ends
same_ends o owner.Nobody = refl
same_ends o (owner.Operation k) = refl
same_ends o (owner.Invariant k) = refl
same_ends o (owner.Word k) = refl
same_ends o (owner.Thread k) = refl
same_ends o (owner.Last k) = refl

local_here : (o : Owners) (x : Owner) → is_mine x ≡ true → has_local (with_local o x) x ≡ true
local_here o owner.Nobody e = cc
local_here o (owner.Operation k) e = cc
local_here o (owner.Invariant k) e = cc
local_here o (owner.Word k) e = cc
local_here o (owner.Thread k) e = eq-eqb k k refl
local_here o (owner.Last k) e = eq-eqb k k refl

same_proof : (o : Owners) (x : Owner) → has_proof (with_local o x) x ≡ has_proof o x
same_proof o owner.Nobody = refl
same_proof o (owner.Operation k) = refl
same_proof o (owner.Invariant k) = refl
same_proof o (owner.Word k) = refl
same_proof o (owner.Thread k) = refl
same_proof o (owner.Last k) = refl

ends_stay : (o : Owners) (x : Owner) → (with_local o x).ends ≡ o.ends
ends_stay o owner.Nobody = refl
ends_stay o (owner.Operation k) = refl
ends_stay o (owner.Invariant k) = refl
ends_stay o (owner.Word k) = refl
ends_stay o (owner.Thread k) = refl
ends_stay o (owner.Last k) = refl

number_here : (o : Owners) (x : Owner) → is_mine x ≡ true → (with_local o x).local ≡ number_of x
number_here o owner.Nobody e = cc
number_here o (owner.Operation k) e = cc
number_here o (owner.Invariant k) e = cc
number_here o (owner.Word k) e = cc
number_here o (owner.Thread k) e = refl
number_here o (owner.Last k) e = refl

-- `ends` makes a name of the final block a proof name, which it is besides
ends_too : (o : Owners) (x : Owner) → is_mine x ≡ true → has_proof (record (with_owner o x) { ends = true }) x ≡ true
ends_too o owner.Nobody e = cc
ends_too o (owner.Operation k) e = cc
ends_too o (owner.Invariant k) e = cc
ends_too o (owner.Word k) e = cc
ends_too o (owner.Thread k) e = eq-eqb k k refl
ends_too o (owner.Last k) e = or_left (nat_eq k k) true (eq-eqb k k refl)

local_too : (o : Owners) (x : Owner) → has_local (record (with_owner o x) { ends = true }) x ≡ has_local o x
local_too o owner.Nobody = refl
local_too o (owner.Operation k) = refl
local_too o (owner.Invariant k) = refl
local_too o (owner.Word k) = refl
local_too o (owner.Thread k) = refl
local_too o (owner.Last k) = refl

-- ---- names that are proved and assigned

abbrev pub only : ℕ → ℕ → Bool
only m n = nat_eq n m

apart_proved : (s next : ProgramScope) (m : ℕ) → is_assigned s.scope m ≡ false → ((n : ℕ) → is_assigned next.scope n ≡ is_assigned s.scope n) → ((n : ℕ) → is_proof_name next n ≡ (only m n || is_proof_name s n)) → Apart s → Apart next
apart_proved s next m free locals proofs h n is = proofs n ∙ by (nat_eq n m) refl where
  by : (b : Bool) → nat_eq n m ≡ b → (b || is_proof_name s n) ≡ false
  by true q = absurd (true≢false (sym (sym (locals n) ∙ is) ∙ ap (is_assigned s.scope) (eqb-true n m q) ∙ free))
  by false q = h n (sym (locals n) ∙ is)

apart_assigned : (s next : ProgramScope) (m : ℕ) → is_proof_name s m ≡ false → ((n : ℕ) → is_assigned next.scope n ≡ (only m n || is_assigned s.scope n)) → ((n : ℕ) → is_proof_name next n ≡ is_proof_name s n) → Apart s → Apart next
apart_assigned s next m free locals proofs h n is = proofs n ∙ by (nat_eq n m) refl where
  by : (b : Bool) → nat_eq n m ≡ b → is_proof_name s n ≡ false
  by true q = ap (is_proof_name s) (eqb-true n m q) ∙ free
  by false q = h n (ap (λ c. c || is_assigned s.scope n) (sym q) ∙ sym (locals n) ∙ is)

-- a proof name more
pub prove_goes : (s : ProgramScope) (n : RawName) → is_mine s.scope.owner ≡ true → is_assigned s.scope n.name ≡ false
    → IfOk (prove_name s n) (λ next. (n.name < length s.scope.owners) × Stays s next (only n.name) none none none × (next.standings ≡ s.standings) × (next.lists ≡ s.lists))
prove_goes s n mine free = by (slice_get s.scope.owners n.name) refl where
  by : (o : Option Owners) → slice_get s.scope.owners n.name ≡ o
      → IfOk (prove_more o s n) (λ next. (n.name < length s.scope.owners) × Stays s next (only n.name) none none none × (next.standings ≡ s.standings) × (next.lists ≡ s.lists))
  by None there = tt
  by (Some o) there =
      let x = s.scope.owner in
      let y = with_owner o x in
      let inside : n.name < length s.scope.owners = slice_get_within s.scope.owners n.name o there in
      let locals : (k : ℕ) → is_assigned (with_owners s n.name y).scope k ≡ is_assigned s.scope k =
      (λ k. same_set (λ z. local_of z x) s.scope.owners n.name y k (same_local o x ∙ ap (λ z. local_of z x) (sym there))) in
      let proofs : (k : ℕ) → is_proof_name (with_owners s n.name y) k ≡ (only n.name k || is_proof_name s k) =
      (λ k. new_set (λ z. proof_of z x) s.scope.owners n.name y k inside (proves_here o x mine)) in (
        inside,
        record {
          goes = record {
            calls = refl;
            strategies = refl;
            constants = refl;
            starts = refl;
            meanings = refl;
            claim = refl;
            owner = refl;
            names = refl;
            owners = length-set s.scope.owners n.name y;
            declared = λ k. refl;
            threads = λ k. refl;
            tokens = λ k. refl;
            locals = locals;
            proofs = proofs;
            ends = λ k. same_set ends_of s.scope.owners n.name y k (same_ends o x ∙ ap ends_of (sym there));
            apart = apart_proved s (with_owners s n.name y) n.name free locals proofs;
            without = λ j other h k e. h k (sym (same_set local_number s.scope.owners n.name y k (same_number o x ∙ ap local_number (sym there))) ∙ e);
          };
          sight = refl;
        },
        refl,
        refl,
      )

-- a proof name more of a keep that a thread ends with
pub end_goes : (s : ProgramScope) (n : RawName) → is_mine s.scope.owner ≡ true → is_assigned s.scope n.name ≡ false
    → IfOk (end_name s n) (λ next. (n.name < length s.scope.owners) × (ends_at s n.name ≡ false) × Stays s next (only n.name) none (only n.name) none × (next.standings ≡ s.standings) × (next.lists ≡ s.lists))
end_goes s n mine free = by (slice_get s.scope.owners n.name) refl where
  with_test : (o : Owners) (b : Bool) → slice_get s.scope.owners n.name ≡ Some o → o.ends ≡ b
      → IfOk (if b then refuse N2 n.line else Ok (with_owners s n.name (record (with_owner o s.scope.owner) { ends = true }))) (λ next. (n.name < length s.scope.owners) × (ends_at s n.name ≡ false) × Stays s next (only n.name) none (only n.name) none × (next.standings ≡ s.standings) × (next.lists ≡ s.lists))
  with_test o true there e = tt
  with_test o false there e =
      let x = s.scope.owner in
      let y : Owners = record (with_owner o x) { ends = true } in
      let inside : n.name < length s.scope.owners = slice_get_within s.scope.owners n.name o there in
      let locals : (k : ℕ) → is_assigned (with_owners s n.name y).scope k ≡ is_assigned s.scope k =
      (λ k. same_set (λ z. local_of z x) s.scope.owners n.name y k (local_too o x ∙ ap (λ z. local_of z x) (sym there))) in
      let proofs : (k : ℕ) → is_proof_name (with_owners s n.name y) k ≡ (only n.name k || is_proof_name s k) =
      (λ k. new_set (λ z. proof_of z x) s.scope.owners n.name y k inside (ends_too o x mine)) in (
        inside,
        ap ends_of there ∙ e,
        record {
          goes = record {
            calls = refl;
            strategies = refl;
            constants = refl;
            starts = refl;
            meanings = refl;
            claim = refl;
            owner = refl;
            names = refl;
            owners = length-set s.scope.owners n.name y;
            declared = λ k. refl;
            threads = λ k. refl;
            tokens = λ k. refl;
            locals = locals;
            proofs = proofs;
            ends = λ k. new_set ends_of s.scope.owners n.name y k inside refl;
            apart = apart_proved s (with_owners s n.name y) n.name free locals proofs;
            without = λ j other h k e. h k (sym (same_set local_number s.scope.owners n.name y k (same_number o x ∙ ap local_number (sym there))) ∙ e);
          };
          sight = refl;
        },
        refl,
        refl,
      )

  by : (o : Option Owners) → slice_get s.scope.owners n.name ≡ o
      → IfOk (end_more o s n) (λ next. (n.name < length s.scope.owners) × (ends_at s n.name ≡ false) × Stays s next (only n.name) none (only n.name) none × (next.standings ≡ s.standings) × (next.lists ≡ s.lists))
  by None there = tt
  by (Some o) there = with_test o o.ends there refl

-- a local more
pub assign_goes : (s : ProgramScope) (n : RawName) → is_mine s.scope.owner ≡ true → is_proof_name s n.name ≡ false
    → IfOk (assign_name s n) (λ next. Stays s next none (only n.name) none none)
assign_goes s n mine free = by (slice_get s.scope.owners n.name) refl where
  by : (o : Option Owners) → slice_get s.scope.owners n.name ≡ o → IfOk (assign_more o s n) (λ next. Stays s next none (only n.name) none none)
  by None there = tt
  by (Some o) there =
      let x = s.scope.owner in
      let y = with_local o x in
      let inside : n.name < length s.scope.owners = slice_get_within s.scope.owners n.name o there in
      let locals : (k : ℕ) → is_assigned (with_owners s n.name y).scope k ≡ (only n.name k || is_assigned s.scope k) =
      (λ k. new_set (λ z. local_of z x) s.scope.owners n.name y k inside (local_here o x mine)) in
      let proofs : (k : ℕ) → is_proof_name (with_owners s n.name y) k ≡ is_proof_name s k =
      (λ k. same_set (λ z. proof_of z x) s.scope.owners n.name y k (same_proof o x ∙ ap (λ z. proof_of z x) (sym there))) in
      record {
        goes = record {
          calls = refl;
          strategies = refl;
          constants = refl;
          starts = refl;
          meanings = refl;
          claim = refl;
          owner = refl;
          names = refl;
          owners = length-set s.scope.owners n.name y;
          declared = λ k. refl;
          threads = λ k. refl;
          tokens = λ k. refl;
          locals = locals;
          proofs = proofs;
          ends = λ k. same_set ends_of s.scope.owners n.name y k (ends_stay o x ∙ ap ends_of (sym there));
          apart = apart_assigned s (with_owners s n.name y) n.name free locals proofs;
          without = λ j other h. without_set s.scope.owners n.name j y (λ e. other (sym (number_here o x mine) ∙ e)) h;
        };
        sight = refl;
      }

-- ---- tests

neither : {A : Type 0} (P : A → Type 0) (a b : Bool) (r : Result A Refusal) (f : Refusal) → (b ≡ false → IfOk r P) → IfOk (if a || b then Err f else r) P
neither P true b r f h = tt
neither P false true r f h = tt
neither P false false r f h = h refl

pub may_prove_is : (s : ProgramScope) (n : RawName) → IfOk (may_prove s n) (λ k. (k ≡ n.name) × (is_assigned s.scope n.name ≡ false))
may_prove_is s n = neither (λ k. (k ≡ n.name) × (is_assigned s.scope n.name ≡ false)) (is_constant_name s n.name) (is_assigned s.scope n.name) _ _ (λ e. (refl, e))

pub may_assign_is : (s : ProgramScope) (n : RawName) → IfOk (may_assign s n) (λ k. (k ≡ n.name) × (is_proof_name s n.name ≡ false))
may_assign_is s n = neither (λ k. (k ≡ n.name) × (is_proof_name s n.name ≡ false)) (is_constant_name s n.name) (is_proof_name s n.name) _ _ (λ e. (refl, e))

-- ---- lists of names

-- these names stand in the list of now
abbrev pub Listed : List ℕ → ProgramScope → Type 0
Listed ns s = (n : ℕ) → is_in n ns ≡ true → (standing_of s n).listed ≡ s.lists

pub listed_same : (ns : List ℕ) (s next : ProgramScope) → next.standings ≡ s.standings → next.lists ≡ s.lists → Listed ns s → Listed ns next
listed_same ns s next same lists h n inside = ap (λ (xs : List Standing). (or_no_standing (slice_get xs n)).listed) same ∙ h n inside ∙ sym lists

-- a standing changes without its declaration and its thread
standing_keeps : (s : ProgramScope) (m : ℕ) (y : Standing) (ts : ℕ → Bool) → y.declared ≡ (standing_of s m).declared → y.thread ≡ (standing_of s m).thread
    → ((n : ℕ) → (standing_of (with_standing s m y) n).ends_token ≡ (ts n || (standing_of s n).ends_token)) → Stays s (with_standing s m y) none none none ts
standing_keeps s m y ts same thread tokens = record {
  goes = record {
    calls = refl;
    strategies = refl;
    constants = refl;
    starts = refl;
    meanings = refl;
    claim = refl;
    owner = refl;
    names = length-set s.standings m y;
    owners = refl;
    declared = λ n. same_set (λ o. (or_no_standing o).declared) s.standings m y n same;
    threads = λ n. same_set (λ o. (or_no_standing o).thread) s.standings m y n thread;
    tokens = tokens;
    locals = λ n. refl;
    proofs = λ n. refl;
    ends = λ n. refl;
    apart = λ h. h;
    without = λ k other h. h;
  };
  sight = refl;
}

in_append : (n m : ℕ) (ns : List ℕ) → is_in n (ns ++ m ∷ []) ≡ (is_in n ns || nat_eq n m)
in_append n m ns = list_any-append (nat_eq n) ns (m ∷ []) ∙ ap (λ z. is_in n ns || z) (or_false (nat_eq n m))

-- one more name of a list, which did not stand in it
pub list_goes : (s : ProgramScope) (n : RawName) (ns : List ℕ) → Listed ns s
    → IfOk (list_name s n) (λ next. (n.name < length s.standings) × (is_in n.name ns ≡ false) × Keeps s next × Listed (ns ++ n.name ∷ []) next × (next.scope ≡ s.scope))
list_goes s n ns listed = by (nat_lt n.name (length s.standings)) refl where
  other : (b : Bool) → n.name < length s.standings → nat_eq (standing_of s n.name).listed s.lists ≡ b
      → IfOk (if b then refuse N2 n.line else Ok (with_standing s n.name (record (standing_of s n.name) { listed = s.lists }))) (λ next. (n.name < length s.standings) × (is_in n.name ns ≡ false) × Keeps s next × Listed (ns ++ n.name ∷ []) next × (next.scope ≡ s.scope))
  other true there e = tt
  other false there e =
      let y : Standing = record (standing_of s n.name) { listed = s.lists } in
      (there, new (is_in n.name ns) refl, standing_keeps s n.name y none refl refl (λ k. same_set (λ o. (or_no_standing o).ends_token) s.standings n.name y k refl), now, refl) where
        new : (b : Bool) → is_in n.name ns ≡ b → b ≡ false
        new true inside = absurd (true≢false (sym (eq-eqb (standing_of s n.name).listed s.lists (listed n.name inside)) ∙ e))
        new false inside = refl

        now : Listed (ns ++ n.name ∷ []) (with_standing s n.name (record (standing_of s n.name) { listed = s.lists }))
        now k inside = split (nat_eq k n.name) refl where
          split : (b : Bool) → nat_eq k n.name ≡ b → (standing_of (with_standing s n.name (record (standing_of s n.name) { listed = s.lists })) k).listed ≡ s.lists
          split true q = ap (λ j. (standing_of (with_standing s n.name (record (standing_of s n.name) { listed = s.lists })) j).listed) (eqb-true k n.name q) ∙ ap (λ o. (or_no_standing o).listed) (get_set_here s.standings n.name (record (standing_of s n.name) { listed = s.lists }) there)
          split false q =
              ap (λ o. (or_no_standing o).listed) (get_set_other s.standings n.name k (record (standing_of s n.name) { listed = s.lists }) (λ p. absurd (true≢false (sym (eq-eqb k n.name p) ∙ q))))
              ∙ listed k (sym (ap (λ z. is_in k ns || z) q ∙ or_false (is_in k ns)) ∙ sym (in_append k n.name ns) ∙ inside)

  by : (b : Bool) → nat_lt n.name (length s.standings) ≡ b
      → IfOk (if b then (if nat_eq (standing_of s n.name).listed s.lists then refuse N2 n.line else Ok (with_standing s n.name (record (standing_of s n.name) { listed = s.lists }))) else refuse N1 n.line) (λ next. (n.name < length s.standings) × (is_in n.name ns ≡ false) × Keeps s next × Listed (ns ++ n.name ∷ []) next × (next.scope ≡ s.scope))
  by true e = other (nat_eq (standing_of s n.name).listed s.lists) (ltb-true n.name (length s.standings) e) refl
  by false e = tt

-- a token of a keep that a thread ends with
pub end_token_goes : (s : ProgramScope) (n : RawName) (ns : List ℕ) → n.name < length s.standings → Listed ns s
    → IfOk (end_token s n) (λ next. ((standing_of s n.name).ends_token ≡ false) × Stays s next none none none (only n.name) × Listed ns next × (next.scope ≡ s.scope))
end_token_goes s n ns there listed = by (standing_of s n.name).ends_token refl where
  by : (b : Bool) → (standing_of s n.name).ends_token ≡ b
      → IfOk (if b then refuse N2 n.line else Ok (with_standing s n.name (record (standing_of s n.name) { ends_token = true }))) (λ next. ((standing_of s n.name).ends_token ≡ false) × Stays s next none none none (only n.name) × Listed ns next × (next.scope ≡ s.scope))
  by true e = tt
  by false e =
      let y : Standing = record (standing_of s n.name) { ends_token = true } in
      (e, standing_keeps s n.name y (only n.name) refl refl (λ k. new_set (λ o. (or_no_standing o).ends_token) s.standings n.name y k there refl), (λ k inside. same_set (λ o. (or_no_standing o).listed) s.standings n.name y k refl ∙ listed k inside), refl)

-- the next list
pub next_keeps : (s : ProgramScope) → Keeps s (next_list s)
next_keeps s = record {
  goes = record {
    calls = refl;
    strategies = refl;
    constants = refl;
    starts = refl;
    meanings = refl;
    claim = refl;
    owner = refl;
    names = refl;
    owners = refl;
    declared = λ n. refl;
    threads = λ n. refl;
    tokens = λ n. refl;
    locals = λ n. refl;
    proofs = λ n. refl;
    ends = λ n. refl;
    apart = λ h. h;
    without = λ k other h. h;
  };
  sight = refl;
}

-- ---- names that differ

not_both : (n m : ℕ) → nat_eq n m ≡ false → nat_eq m n ≡ false
not_both n m e = by (nat_eq m n) refl where
  by : (b : Bool) → nat_eq m n ≡ b → b ≡ false
  by true q = absurd (true≢false (sym (eq-eqb n m (sym (eqb-true m n q))) ∙ e))
  by false q = refl

not_first : (a b : Bool) → (a || b) ≡ false → a ≡ false
not_first true b e = cc
not_first false b e = refl

not_second : (a b : Bool) → (a || b) ≡ false → b ≡ false
not_second true b e = cc
not_second false b e = e

pub apart_more : (ns : List ℕ) (n : ℕ) → are_apart ns ≡ true → is_in n ns ≡ false → are_apart (ns ++ n ∷ []) ≡ true
apart_more [] n a e = refl
apart_more (m ∷ ms) n a e =
    let p = and_parts (not (is_in m ms)) (are_apart ms) a in
    and_from (not (is_in m (ms ++ n ∷ []))) (are_apart (ms ++ n ∷ [])) (ap not (in_append m n ms ∙ ap (λ z. is_in m ms || z) (not_both n m (not_first (nat_eq n m) (is_in n ms) e)) ∙ or_false (is_in m ms)) ∙ p.0) (apart_more ms n p.1 (not_second (nat_eq n m) (is_in n ms) e))

pub names_more : (ns : List ℕ) (n : ℕ) → are_apart_names ns ≡ true → n < name_limit → is_in n ns ≡ false → are_apart_names (ns ++ n ∷ []) ≡ true
names_more ns n a few e =
    let p = and_parts (are_names ns) (are_apart ns) a in
    and_from (are_names (ns ++ n ∷ [])) (are_apart (ns ++ n ∷ [])) (list_all-append is_name ns (n ∷ []) ∙ and_from (are_names ns) (is_name n && true) p.0 (and_from (is_name n) true (lt-ltb n name_limit few) refl)) (apart_more ns n p.1 e)
