-- Whole programs that are read keep the names.
use Rattle.std.proofs.Common.{◌≡◌, ℕ, zero, suc, ◌+◌, ◌<◌, ◌≤◌, ◌&&◌, ◌||◌, Bool, true, false, if◌then◌else◌, List, [], ◌∷◌, length, map, slice_get, nat_lt, nat_eq, Option, Some, None, Result, Ok, Err, refl, sym, ap, subst, ◌∙◌, true≢false, arith}
use Rattle.std.specs.Result.{IfOk}
use Rattle.std.proofs.lemmas.Bool.{lt-ltb, ltb-true, ltb-false, eq-eqb, eqb-true, and_from}
use Rattle.sync_base.specs.declared.stops.Refusal.{Refusal}
use Rattle.sync_base.specs.Outcome.{◌>>=◌}
use Rattle.sync_machine.specs.Naming.{is_in}
use Rattle.sync_parse_exprs.specs.declared.expressions.Special.{Special}
use Rattle.sync_parse_exprs.specs.declared.expressions.Special.TheVariants as special
use Rattle.sync_thread.specs.Control.{Brace}
use Rattle.sync_thread.specs.Programs.{KeepTree, ListTree}
use Rattle.sync_thread.specs.Arrays.{name_limit}
use Rattle.sync_thread_machine.specs.MachineWithProgram.{MachineWithProgram, fields_of}
use Rattle.sync_typing.specs.Names.{call_is_named}
use Rattle.sync_read_names.specs.Scopes.{knows_special, special_number}
use Rattle.sync_read.specs.Scripts.{numbers_from}
use Rattle.sync_read.proofs.Chains.{after_ok}
use Rattle.sync_read_programs.specs.declared.scopes.Purpose.TheVariants as purpose
use Rattle.sync_read_programs.specs.declared.scopes.ProgramScope.{ProgramScope}
use Rattle.sync_read_programs.specs.Scopes.{standing_of}
use Rattle.std.specs.Prelude.{flat_map}
use Rattle.sync_parse_programs.specs.declared.statements.RawThread.{RawThread}
use Rattle.sync_thread.specs.Programs.{ThreadTree}
use Rattle.sync_typing.specs.Dues.{are_apart}
use Rattle.sync_typing.specs.Typing.{named_thread, all_ends}
use Rattle.sync_typing.specs.Names.{are_apart_names, final_is_named}
use Rattle.sync_read_names.specs.declared.scopes.Owners.{Owners}
use Rattle.sync_read_names.specs.declared.scopes.Owner.TheVariants as owner
use Rattle.sync_read_names.specs.Scopes.{meaning_of}
use Rattle.sync_read_programs.specs.declared.scopes.Entrance.{Entrance}
use Rattle.sync_read_programs.specs.Scopes.{thread_sight}
use Rattle.sync_read_programs.specs.Programs.{threads_from, last_in}
use Rattle.std.specs.List.{AllByRecursion}
use Rattle.std.specs.Prelude.{replicate}
use Rattle.std.proofs.Common.{length-set}
use Rattle.sync_machine.specs.States.{Numbers}
use Rattle.sync_machine.specs.Machines.{MachineTree}
use Rattle.sync_parse_programs.specs.declared.proof_statements.RawDoForm.{RawDoForm}
use Rattle.sync_parse_programs.specs.declared.statements.RawStart.{RawStart}
use Rattle.sync_parse_programs.specs.declared.statements.RawProgram.{RawProgram}
use Rattle.sync_thread.specs.Programs.{StartTree, ProgramTree}
use Rattle.sync_typing.specs.Names.{AtStart, steps_are_named, bound_by_steps, is_init, known_at_start, number_if, KeepsNames, decl_name}
use Rattle.sync_read_names.specs.declared.scopes.Scope.{Scope}
use Rattle.sync_read_names.specs.declared.scopes.Sort.TheVariants as sort
use Rattle.sync_read_names.specs.Scopes.{is_word, or_unowned}
use Rattle.sync_read_programs.specs.declared.scopes.Standing.{Standing}
use Rattle.sync_read_programs.specs.Scopes.{scope_behind, no_standing, or_no_standing, or_entrance, note_thread, in_start, with_constants}
use Rattle.sync_read_programs.specs.ProofStatements.{called, start_exchange, start_steps_from}
use Rattle.sync_read_programs.specs.Keeps.{all_room, declarations_from}
use Rattle.sync_read_programs.specs.Programs.{threads_noted, start_in, program_from, no_program, resolved_program}
use Rattle.sync_read.proofs.Owning.{get_set_here, get_set_other}
use Rattle.sync_read_laws.specs.Laws.{IsFree, IsBehind, ReadProgramsKeepNames}
use Rattle.sync_read_laws.proofs.TermsRead.{Agrees}
use Rattle.sync_read_laws.proofs.Places.{At, IsDeclared, at_stays, Goes, Keeps, Without, local_number, rests_then, seen_up, no_flag, held_is_held, none}
use Rattle.std.proofs.lemmas.List.{length-map, length-replicate}
use Rattle.sync_thread.specs.Programs.{DeclTree}
use Rattle.sync_read_laws.proofs.KeepsRead.{raw_name}
use Rattle.sync_read_laws.proofs.Moves.{same_set}
use Rattle.sync_read_laws.proofs.Parts.{numbers_named}
use Rattle.sync_read_laws.proofs.ProofsRead.{called_is, start_is_init, exchange_behind}
use Rattle.sync_read_laws.proofs.BlocksRead.{Enters, StepsGo, start_steps_go, sight_rests}
use Rattle.sync_read_laws.proofs.DeclarationsRead.{Declaring, proof_number, declarations_go}
use Rattle.sync_read_laws.proofs.ThreadsRead.{Ready, ready_goes, entered_ready, entered_at, no_word, raw_thread, raw_many, thread_name, takes_many, Held, ThreadsGo, threads_go, last_goes}

-- ---- threads that the start knows

past : (xs : List Standing) (n : ℕ) → length xs ≤ n → slice_get xs n ≡ None
past [] n past_it = refl
past (x ∷ xs) zero past_it = absurd (omega (arith, past_it))
past (x ∷ xs) (suc n) past_it = past xs n (omega (arith, past_it))

abbrev thread_at : ProgramScope → ℕ → Option Entrance
thread_at s n = (standing_of s n).thread

noted_length : (raw : List RawThread) (number : ℕ) (s : ProgramScope) → length (threads_noted number s raw).standings ≡ length s.standings
unfolding threads_noted
noted_length [] number s = refl
noted_length (t ∷ raw) number s = noted_length raw (number + 1) (note_thread number (length t.takes.names) s t.name) ∙ length-set s.standings t.name.name _

-- the first thread of a name stays
stays_noted : (raw : List RawThread) (number : ℕ) (s : ProgramScope) (n : ℕ) (e : Entrance) → thread_at s n ≡ Some e → thread_at (threads_noted number s raw) n ≡ Some e
unfolding threads_noted
stays_noted [] number s n e is = is
stays_noted (t ∷ raw) number s n e is = stays_noted raw (number + 1) (note_thread number (length t.takes.names) s t.name) n e (by (nat_eq n t.name.name) refl) where
  by : (b : Bool) → nat_eq n t.name.name ≡ b → thread_at (note_thread number (length t.takes.names) s t.name) n ≡ Some e
  by true q = same_set (λ o. (or_no_standing o).thread) s.standings t.name.name _ n (now (thread_at s t.name.name) (ap (thread_at s) (sym (eqb-true n t.name.name q)) ∙ is) ∙ sym (ap (thread_at s) (sym (eqb-true n t.name.name q)) ∙ is)) ∙ is where
    now : (o : Option Entrance) → o ≡ Some e → Some (or_entrance o (record { number = number; names = length t.takes.names })) ≡ Some e
    now None there = absurd cc
    now (Some d) there = there
  by false q = ap (λ o. (or_no_standing o).thread) (get_set_other s.standings t.name.name n _ (λ p. absurd (true≢false (sym (eq-eqb n t.name.name p) ∙ q)))) ∙ is

abbrev Entering : List ThreadTree → ℕ → Entrance → Type 0
Entering ts n e = (d : ThreadTree) × (named_thread n ts ≡ Some d) × (length d.takes.names ≡ e.names)

abbrev names_or : ℕ → Option Entrance → ℕ
names_or d None = d
names_or d (Some e) = e.names

-- a name that is a thread's is that of the first thread of the name
no_some : {A : Type 0} (a : A) → None ≡ Some a → ⊥
no_some a q = cc

first_of : {A : Type 0} {a b : A} {xs ys : List A} → a ∷ xs ≡ b ∷ ys → a ≡ b
first_of q = cc

rest_of : {A : Type 0} {a b : A} {xs ys : List A} → a ∷ xs ≡ b ∷ ys → xs ≡ ys
rest_of q = cc

noted_here : (number : ℕ) (s : ProgramScope) (t : RawThread) (n : ℕ) → n < length s.standings → n ≡ t.name.name → thread_at s n ≡ None → thread_at (note_thread number (length t.takes.names) s t.name) n ≡ Some (record { number = number; names = length t.takes.names })
noted_here number s t n within same before =
    ap (thread_at (note_thread number (length t.takes.names) s t.name)) same
    ∙ ap (λ o. (or_no_standing o).thread) (get_set_here s.standings t.name.name _ (subst (λ k. k < length s.standings) same within))
    ∙ ap (λ o. Some (or_entrance o (record { number = number; names = length t.takes.names }))) (ap (thread_at s) (sym same) ∙ before)

noted_other : (number : ℕ) (s : ProgramScope) (t : RawThread) (n : ℕ) → nat_eq n t.name.name ≡ false → thread_at (note_thread number (length t.takes.names) s t.name) n ≡ thread_at s n
noted_other number s t n other = ap (λ o. (or_no_standing o).thread) (get_set_other s.standings t.name.name n _ (λ p. absurd (true≢false (sym (eq-eqb n t.name.name p) ∙ other))))

outside : (n k : ℕ) → nat_lt n k ≡ false → k ≤ n
outside n k e = ltb-false n k e

noted : (raw : List RawThread) (ts : List ThreadTree) (number : ℕ) (s : ProgramScope) (n : ℕ) (e : Entrance) → map thread_name ts ≡ map raw_thread raw → map takes_many ts ≡ map raw_many raw
    → thread_at s n ≡ None → thread_at (threads_noted number s raw) n ≡ Some e → Entering ts n e
unfolding threads_noted
noted [] ts number s n e said many before is = absurd (no_some e (sym before ∙ is))
noted (t ∷ raw) [] number s n e said many before is = cc
noted (t ∷ raw) (u ∷ ts) number s n e said many before is = by (nat_lt n (length s.standings)) refl (λ z at_none there. noted raw ts (number + 1) z n e (rest_of said) (rest_of many) at_none there) where
  same_name : u.name ≡ t.name.name
  same_name = first_of said

  here : n ≡ t.name.name → n < length s.standings → Entering (u ∷ ts) n e
  here same within =
      let new : Entrance = record { number = number; names = length t.takes.names } in
      let final : thread_at (threads_noted (number + 1) (note_thread number (length t.takes.names) s t.name) raw) n ≡ Some new = stays_noted raw (number + 1) (note_thread number (length t.takes.names) s t.name) n new (noted_here number s t n within same before) in
      (u, ap (λ b. if b then Some u else named_thread n ts) (eq-eqb n u.name (same ∙ sym same_name)), first_of many ∙ ap (names_or 0) (sym final ∙ is))

  there : nat_eq n t.name.name ≡ false → Entering ts n e → Entering (u ∷ ts) n e
  there other (d, named, count) = (d, ap (λ b. if b then Some u else named_thread n ts) (ap (nat_eq n) same_name ∙ other) ∙ named, count)

  split : (c : Bool) → nat_eq n t.name.name ≡ c → n < length s.standings → ((z : ProgramScope) → thread_at z n ≡ None → thread_at (threads_noted (number + 1) z raw) n ≡ Some e → Entering ts n e) → Entering (u ∷ ts) n e
  split true q within later = here (eqb-true n t.name.name q) within
  split false q within later = there q (later (note_thread number (length t.takes.names) s t.name) (noted_other number s t n q ∙ before) is)

  by : (b : Bool) → nat_lt n (length s.standings) ≡ b → ((z : ProgramScope) → thread_at z n ≡ None → thread_at (threads_noted (number + 1) z raw) n ≡ Some e → Entering ts n e) → Entering (u ∷ ts) n e
  by false within later = absurd (no_some e (sym (ap (λ o. (or_no_standing o).thread) (past (threads_noted number s (t ∷ raw)).standings n (subst (λ k. k ≤ n) (sym (noted_length (t ∷ raw) number s)) (outside n (length s.standings) within)))) ∙ is))
  by true within later = split (nat_eq n t.name.name) refl (ltb-true n (length s.standings) within) later

-- what is known otherwise stays
noted_ready : (x : MachineWithProgram) (raw : List RawThread) (number : ℕ) (s : ProgramScope) → Ready x s → Ready x (threads_noted number s raw)
unfolding threads_noted
noted_ready x [] number s h = h
noted_ready x (t ∷ raw) number s h = noted_ready x raw (number + 1) (note_thread number (length t.takes.names) s t.name) (record {
  calls = h.calls;
  strategies = h.strategies;
  constants = h.constants;
  sorts = h.sorts;
  names = subst (λ k. k ≤ name_limit) (sym (length-set s.standings t.name.name _)) h.names;
  owners = h.owners;
  declared = λ n. subst (IsDeclared x.program.decls n) (sym (same_set (λ o. (or_no_standing o).declared) s.standings t.name.name _ n refl)) (h.declared n);
})

noted_scope : (raw : List RawThread) (number : ℕ) (s : ProgramScope) → (threads_noted number s raw).scope ≡ s.scope
unfolding threads_noted
noted_scope [] number s = refl
noted_scope (t ∷ raw) number s = noted_scope raw (number + 1) (note_thread number (length t.takes.names) s t.name)

-- ---- the start

-- nobody has assigned to a name or proved it
abbrev Untouched : Scope → Type 0
Untouched s = (n : ℕ) → (local_number (slice_get s.owners n) ≡ 0) × (proof_number (slice_get s.owners n) ≡ 0)

record StartGo (x : MachineWithProgram) (s : ProgramScope) (st : StartTree) (next : ProgramScope) : Type 0 where
  named : (call_is_named x is_init true known_at_start st.form && steps_are_named x AtStart st.steps) ≡ true
  ps : ℕ → Bool
  goes : Goes (in_start s) next ps none none none

start_agrees : (s : ProgramScope) → Untouched s.scope → Agrees (in_start s).scope known_at_start
start_agrees s untouched = record {
  nobody = refl;
  words = words;
  held = λ n known. ap number_if (held_is_held n);
  own = λ n mine. absurd (true≢false (sym (sym (nobody_has (slice_get s.scope.owners n) (untouched n).0 (untouched n).1) ∙ mine)));
  numbers = λ n i is. absurd (true≢false (sym (seen_up (in_start s).scope.sight 0 i (meaning_of s.scope n) sort.Number refl is).1 ∙ no_flag i));
  maps = λ n i is. absurd (true≢false (sym (seen_up (in_start s).scope.sight 0 i (meaning_of s.scope n) sort.Map refl is).1 ∙ no_flag i));
} where
  nobody_has : (o : Option Owners) → local_number o ≡ 0 → proof_number o ≡ 0 → or_unowned o (owner.Thread 1) ≡ false
  nobody_has None l p = refl
  nobody_has (Some o) l p = ap (λ z. nat_eq z 1 || nat_eq o.proof 1) l ∙ ap (λ z. nat_eq z 1) p

  words : (w : Special) → knows_special (thread_sight 0) w ≡ true → known_at_start (special_number w) ≡ Some Numbers
  words special.Value known = absurd (true≢false (sym known))
  words special.Index known = absurd (true≢false (sym known))
  words special.Old known = absurd (true≢false (sym known))
  words special.New known = absurd (true≢false (sym known))
  words special.Wrap known = absurd (true≢false (sym known))

start_goes : (x : MachineWithProgram) (s : ProgramScope) (raw : RawStart) → Ready x s → Untouched s.scope → Enters x.program.threads s → IfOk (start_in (in_start s) raw) (λ r. StartGo x s r.0 r.1)
unfolding start_in start_exchange
start_goes x s raw ready untouched enters =
    let s1 = in_start s in
    let s2 = with_constants s1 in
    let h2 : At x true [] s2 = entered_at x true [] (owner.Thread 1) (thread_sight s.constants) s ready refl refl (no_word s.constants []) in
    after_ok (λ r. StartGo x s r.0 r.1) (λ d. (call_is_named x is_init true known_at_start d.0 ≡ true) × Keeps s2 d.1) (start_exchange s1 raw.form) _ (first raw.form h2) (λ d call.
    let h3 : At x true [] d.1 = at_stays x true [] s2 d.1 none none none none h2 call.1 in
    let e3 : Enters x.program.threads d.1 = (λ n e is. enters n e (sym (call.1.goes.threads n) ∙ is)) in
    after_ok (λ r. StartGo x s r.0 r.1) (λ q. StepsGo x AtStart [] d.1 q.0 q.1) (start_steps_from [] d.1 raw.statements) _ (start_steps_go x raw.statements [] d.1 h3 e3) (λ ss go. record {
      named = and_from (call_is_named x is_init true known_at_start d.0) _ call.0 (ap (steps_are_named x AtStart) go.are ∙ go.named);
      ps = λ n. is_in n (bound_by_steps go.added);
      goes = rests_then s1 d.1 ss.1 (λ n. is_in n (bound_by_steps go.added)) none none none (rests_then s1 s2 d.1 none none none none (sight_rests s1 _) call.1.goes) go.stays.goes;
    })) where
      first : (d : RawDoForm) → At x true [] (with_constants (in_start s)) → IfOk (start_exchange (in_start s) d) (λ q. (call_is_named x is_init true known_at_start q.0 ≡ true) × Keeps (with_constants (in_start s)) q.1)
      first d h =
          after_ok _ _ (called purpose.Start (in_start s) d) _ (called_is x purpose.Start (in_start s) d ready.calls) (λ op c.
          after_ok _ _ (numbers_from [] (in_start s).scope d.args) _ (numbers_named (in_start s).scope known_at_start (start_agrees s untouched) d.args) (λ args named.
          exchange_behind x true [] (with_constants (in_start s)) h is_init purpose.Start known_at_start op args d c (start_is_init (fields_of x) c.operation c.may) named.0 named.1))

-- ---- the scope behind a machine

standing_first : (k n : ℕ) → or_no_standing (slice_get (replicate k no_standing) n) ≡ no_standing
standing_first zero n = refl
standing_first (suc k) zero = refl
standing_first (suc k) (suc n) = standing_first k n

free_local : (os : List Owners) (n : ℕ) → AllByRecursion IsFree os → local_number (slice_get os n) ≡ 0
free_local [] n h = refl
free_local (o ∷ os) zero h = h.0.local
free_local (o ∷ os) (suc n) h = free_local os n h.1

free_proof : (os : List Owners) (n : ℕ) → AllByRecursion IsFree os → proof_number (slice_get os n) ≡ 0
free_proof [] n h = refl
free_proof (o ∷ os) zero h = h.0.proof
free_proof (o ∷ os) (suc n) h = free_proof os n h.1

free_word : (os : List Owners) (m n : ℕ) → AllByRecursion IsFree os → or_unowned (slice_get os n) (owner.Word m) ≡ false
free_word [] m n h = refl
free_word (o ∷ os) m zero h = ap (λ w. is_word w m) h.0.word
free_word (o ∷ os) m (suc n) h = free_word os m n h.1

abbrev with_program : MachineTree → ProgramTree → MachineWithProgram
with_program m p = record { machine = m; program = p }

declaring_first : (m : MachineTree) (p : ProgramTree) (s : Scope) (scripts : ℕ) → IsBehind m s → Declaring (with_program m p) [] (scope_behind m s scripts)
declaring_first m p s scripts h = record {
  calls = refl;
  strategies = refl;
  constants = refl;
  sorts = h.sorts;
  names = subst (λ k. k ≤ name_limit) (sym (length-replicate (length s.meanings) no_standing)) h.meanings;
  owners = h.owners;
  declared = λ n. subst (λ (o : Standing). IsDeclared [] n o.declared) (sym (standing_first (length s.meanings) n)) refl;
  local = λ n. free_local s.owners n h.free;
  proof = λ n. free_proof s.owners n h.free;
  words = λ k n owned. absurd (true≢false (sym owned ∙ free_word s.owners k n h.free));
  threads = λ n. ap (λ (o : Standing). o.thread) (standing_first (length s.meanings) n);
  named = refl;
  apart = refl;
}

-- ---- whole programs

after_eq : {A B E : Type 0} (P : B → Type 0) (r : Result A E) (f : A → Result B E) → ((a : A) → r ≡ Ok a → IfOk (f a) P) → IfOk (r >>= f) P
after_eq P (Ok a) f h = h a refl
after_eq P (Err e) f h = tt

from_ok : {A E : Type 0} (P : A → Type 0) (r : Result A E) (a : A) → r ≡ Ok a → IfOk r P → P a
from_ok P r a e h = subst (λ z. IfOk z P) e h

-- threads of these names, which take as many
stand_in : RawThread → ThreadTree
stand_in t =
    let k : KeepTree = record { names = map raw_name t.takes.names; lines = []; facts = []; line = 0 } in
    record { name = t.name.name; takes = k; ends = k; body = Brace 0; line = 0 }

stand_in_names : (raw : List RawThread) → map thread_name (map stand_in raw) ≡ map raw_thread raw
unfolding stand_in
stand_in_names [] = refl
stand_in_names (t ∷ raw) = ap (λ ns. t.name.name ∷ ns) (stand_in_names raw)

stand_in_takes : (raw : List RawThread) → map takes_many (map stand_in raw) ≡ map raw_many raw
unfolding stand_in
stand_in_takes [] = refl
stand_in_takes (t ∷ raw) = ap (λ n. n ∷ map takes_many (map stand_in raw)) (length-map t.takes.names raw_name) ∙ ap (λ ns. length t.takes.names ∷ ns) (stand_in_takes raw)

ready_of : (x : MachineWithProgram) (s : ProgramScope) → Declaring x x.program.decls s → Ready x s
ready_of x s h = record { calls = h.calls; strategies = h.strategies; constants = h.constants; sorts = h.sorts; names = h.names; owners = h.owners; declared = h.declared }

module _ (m : MachineTree) (s : Scope) (scripts : ℕ) (raw : RawProgram) (behind : IsBehind m s) where
  declaring : (p : ProgramTree) (ds : List DeclTree × ProgramScope) → declarations_from [] all_room (scope_behind m s scripts) raw.declarations ≡ Ok ds → Declaring (with_program m p) ds.0 ds.1
  declaring p ds e = from_ok (λ r. Declaring (with_program m p) r.0 r.1) (declarations_from [] all_room (scope_behind m s scripts) raw.declarations) ds e (declarations_go (with_program m p) raw.declarations [] all_room (scope_behind m s scripts) (declaring_first m p s scripts behind))

  -- the start of a program with these declarations and with threads of these names
  started : (p : ProgramTree) (z : ProgramScope) (st : StartTree × ProgramScope) → Declaring (with_program m p) p.decls z → map thread_name p.threads ≡ map raw_thread raw.threads → map takes_many p.threads ≡ map raw_many raw.threads
      → start_in (in_start (threads_noted 0 z raw.threads)) raw.start ≡ Ok st → StartGo (with_program m p) (threads_noted 0 z raw.threads) st.0 st.1
  started p z st d said many e =
      from_ok (λ r. StartGo (with_program m p) (threads_noted 0 z raw.threads) r.0 r.1) (start_in (in_start (threads_noted 0 z raw.threads)) raw.start) st e
      (start_goes (with_program m p) (threads_noted 0 z raw.threads) raw.start (noted_ready (with_program m p) raw.threads 0 z (ready_of (with_program m p) z d))
      (subst Untouched (sym (noted_scope raw.threads 0 z)) (λ n. (d.local n, d.proof n)))
      (λ n e is. noted raw.threads p.threads 0 z n e said many (d.threads n) is))

  whole : (ds : List DeclTree × ProgramScope) (st : StartTree × ProgramScope) (ts : List ThreadTree × ProgramScope) (l : Option ListTree)
      → declarations_from [] all_room (scope_behind m s scripts) raw.declarations ≡ Ok ds → start_in (in_start (threads_noted 0 ds.1 raw.threads)) raw.start ≡ Ok st
      → threads_from [] st.1 raw.threads ≡ Ok ts → last_in ts.1 raw.last ≡ Ok l → KeepsNames m (record { decls = ds.0; start = Some st.0; threads = ts.0; last = l })
  whole ds st ts l e0 e1 e2 e3 =
      let p : ProgramTree = record { decls = ds.0; start = Some st.0; threads = ts.0; last = l } in
      let x = with_program m p in
      let q : ProgramTree = record { decls = ds.0; start = None; threads = map stand_in raw.threads; last = None } in
      let noted_scope_at = threads_noted 0 ds.1 raw.threads in
      let d : Declaring x ds.0 ds.1 = declaring p ds e0 in
      let before : StartGo (with_program m q) noted_scope_at st.0 st.1 = started q ds.1 st (declaring q ds e0) (stand_in_names raw.threads) (stand_in_takes raw.threads) e1 in
      let r1 : Ready x noted_scope_at = noted_ready x raw.threads 0 ds.1 (ready_of x ds.1 d) in
      let r2 : Ready x st.1 = ready_goes x (in_start noted_scope_at) st.1 before.ps none none none before.goes (entered_ready x true (owner.Thread 1) (thread_sight 0) noted_scope_at r1) in
      let without : (k : ℕ) → 1 < k → Without k st.1 = (λ k above. before.goes.without k (λ e. omega (arith, above, e)) (λ n e. untouched_not d k n above e)) in
      let first : Held x [] st.1 = record {
        named = refl;
        apart = refl;
        numbered = λ n no. absurd (true≢false (sym no));
        names = refl;
        tokens = refl;
        ended = λ n no. absurd (true≢false (sym no));
        token_ended = λ n no. absurd (true≢false (sym no));
        ready = r2;
        without = λ k above below. without k above;
        few = omega arith;
      } in
      let threads : ThreadsGo x raw.threads [] ts.0 ts.1 = from_ok (λ r. ThreadsGo x raw.threads [] r.0 r.1) (threads_from [] st.1 raw.threads) ts e2 (threads_go x raw.threads [] st.1 first) in
      let held = threads.holds in
      let go : StartGo x noted_scope_at st.0 st.1 = started p ds.1 st d (ap (map thread_name) threads.are ∙ threads.said) (ap (map takes_many) threads.are ∙ threads.many) e1 in record {
        declared = and_from (are_apart_names (map decl_name ds.0)) _ d.apart d.named;
        started = go.named;
        threads = and_from (are_apart (map thread_name ts.0)) _ held.apart held.named;
        apart = and_from (are_apart (flat_map (λ (k : KeepTree). k.names) (all_ends p))) _ held.names held.tokens;
        few = lt-ltb (length ts.0) 4294967295 (omega (arith, held.few));
        last = from_ok (λ y. final_is_named x y ≡ true) (last_in ts.1 raw.last) l e3 (last_goes x ts.1 raw.last held);
      } where
        untouched_not : Declaring (with_program m (record { decls = ds.0; start = Some st.0; threads = ts.0; last = l })) ds.0 ds.1 → (k n : ℕ) → 1 < k → local_number (slice_get (threads_noted 0 ds.1 raw.threads).scope.owners n) ≡ k → ⊥
        untouched_not d k n above e = let z : local_number (slice_get ds.1.scope.owners n) ≡ k = ap (λ (sc : Scope). local_number (slice_get sc.owners n)) (sym (noted_scope raw.threads 0 ds.1)) ∙ e in omega (arith, above, z, d.local n)

  program_keeps : IfOk (program_from (scope_behind m s scripts) raw) (KeepsNames m)
  unfolding program_from
  program_keeps =
      after_eq (KeepsNames m) (declarations_from [] all_room (scope_behind m s scripts) raw.declarations) _ (λ ds e0.
      after_eq (KeepsNames m) (start_in (in_start (threads_noted 0 ds.1 raw.threads)) raw.start) _ (λ st e1.
      after_eq (KeepsNames m) (threads_from [] st.1 raw.threads) _ (λ ts e2.
      after_eq (KeepsNames m) (last_in ts.1 raw.last) _ (λ l e3. whole ds st ts l e0 e1 e2 e3))))

no_program_keeps : (m : MachineTree) → KeepsNames m no_program
no_program_keeps m = record { declared = refl; started = refl; threads = refl; apart = refl; few = refl; last = refl }

abbrev program_or : ProgramTree → Result ProgramTree Refusal → ProgramTree
program_or d (Ok p) = p
program_or d (Err r) = d

pub read_programs_keep_names : ReadProgramsKeepNames
unfolding resolved_program
read_programs_keep_names m s scripts None p behind e = subst (KeepsNames m) (ap (program_or no_program) e) (no_program_keeps m)
read_programs_keep_names m s scripts (Some raw) p behind e = from_ok (KeepsNames m) (program_from (scope_behind m s scripts) raw) p e (program_keeps m s scripts raw behind)
