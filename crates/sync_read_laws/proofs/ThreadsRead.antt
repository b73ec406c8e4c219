-- Threads and the final block that are read keep the names.
use Rattle.std.proofs.Common.{◌≡◌, ℕ, ◌+◌, ◌<◌, ◌≤◌, ◌&&◌, ◌||◌, not, Bool, true, false, List, [], ◌∷◌, ◌++◌, length, map, slice_get, nat_lt, nat_eq, Option, Some, None, Ok, refl, sym, ap, subst, ◌∙◌, true≢false, append_assoc, append-nil, length-append, arith}
use Rattle.std.specs.List.{list_all}
use Rattle.std.specs.Result.{IfOk}
use Rattle.std.proofs.lemmas.Bool.{lt-ltb, ltb-true, eq-eqb, eqb-true, and_from, and_parts, or_left, or_right}
use Rattle.std.proofs.lemmas.List.Folds.{list_all-append, list_any-append}
use Rattle.sync_base.proofs.Basics.{or_false}
use Rattle.sync_machine.specs.Naming.{is_in}
use Rattle.sync_parse_exprs.specs.declared.expressions.Special.{Special}
use Rattle.sync_parse_exprs.specs.declared.expressions.Special.TheVariants as special
use Rattle.sync_parse_exprs.specs.declared.raw_names.RawName.{RawName}
use Rattle.sync_thread.specs.Programs.{KeepTree, ListTree}
use Rattle.sync_thread.specs.Arrays.{name_limit}
use Rattle.sync_thread_machine.specs.MachineWithProgram.{MachineWithProgram}
use Rattle.sync_typing.specs.Lists.{assigned_locals}
use Rattle.sync_typing.specs.Names.{Aims as Keeps_ahead, is_name, known_with, keep_is_named, InList, words_at, proof_names}
use Rattle.sync_read_names.specs.Scopes.{knows_special, special_number, is_assigned}
use Rattle.sync_read.proofs.Chains.{after_ok, if_ok, weaker}
use Rattle.sync_read_programs.specs.declared.scopes.Aims.{Aims}
use Rattle.sync_read_programs.specs.declared.scopes.ProgramScope.{ProgramScope}
use Rattle.sync_read_programs.specs.Scopes.{standing_of, is_proof_name}
use Rattle.sync_read_programs.specs.Keeps.{keep_in}
use Rattle.std.specs.Prelude.{flat_map}
use Rattle.sync_machine.specs.declared.fields.Field.{Field}
use Rattle.sync_machine.specs.States.{strategy_at}
use Rattle.sync_parse_programs.specs.declared.statements.RawThread.{RawThread}
use Rattle.sync_parse_programs.specs.declared.statements.RawList.{RawList}
use Rattle.sync_thread.specs.Programs.{ThreadTree}
use Rattle.sync_typing.specs.Keeps.{own_tokens}
use Rattle.sync_typing.specs.Dues.{are_apart}
use Rattle.sync_typing.specs.Typing.{all_ends}
use Rattle.sync_typing.specs.Names.{are_names, are_apart_names, none_in, body_is_named, no_aims, thread_is_named, final_is_named}
use Rattle.sync_read.specs.Acts.{few_before, strategy_sort}
use Rattle.sync_read_names.specs.declared.scopes.Sort.{Sort}
use Rattle.sync_read_names.specs.declared.scopes.Meaning.TheVariants.{Field as AField}
use Rattle.sync_read_names.specs.declared.scopes.Owners.{Owners}
use Rattle.sync_read_names.specs.declared.scopes.Owner.{Owner}
use Rattle.sync_read_names.specs.declared.scopes.Owner.TheVariants as owner
use Rattle.sync_read_names.specs.declared.scopes.Sight.{Sight}
use Rattle.sync_read_names.specs.Scopes.{meaning_of, local_of}
use Rattle.sync_read_programs.specs.declared.scopes.Entrance.{Entrance}
use Rattle.sync_read_programs.specs.Scopes.{calls_of, constants_from, entered, in_thread, in_ends, in_last, thread_sight, prove_name, proof_of, is_entrance, first_of_name}
use Rattle.sync_read_programs.specs.Statements.{list_in}
use Rattle.sync_read_programs.specs.Programs.{aims_at, known_again, thread_in, threads_from, last_in}
use Rattle.std.proofs.lemmas.Option.{slice_get_within}
use Rattle.std.proofs.lemmas.List.{map-append}
use Rattle.sync_read_laws.proofs.Places.{At, IsDeclared, Goes, Stays, Without, is_mine, number_of, local_number, ends_at, ends_of, keeps_here, at_stays, none}
use Rattle.sync_read_laws.proofs.Moves.{only, prove_goes, apart_more}
use Rattle.sync_read_laws.proofs.KeepsRead.{raw_name, KeepGo, keep_goes, stays_then, swap}
use Rattle.sync_read_laws.proofs.SinglesRead.{InThread, Agree}
use Rattle.sync_read_laws.proofs.ListsRead.{BodyGo}
use Rattle.sync_read_laws.proofs.EveryList.{list_is_good}

-- ---- what is known wherever a program goes on

pub record Ready (x : MachineWithProgram) (s : ProgramScope) : Type 0 where
  pub calls : s.calls ≡ calls_of x.machine
  pub strategies : s.strategies ≡ map (λ (f : Field). f.strategy) x.machine.fields
  pub constants : s.constants ≡ constants_from 0 0 x.machine.fields
  pub sorts : (n f : ℕ) (t : Sort) → meaning_of s.scope n ≡ AField f t → t ≡ strategy_sort (strategy_at x.machine.fields f)
  pub names : length s.standings ≤ name_limit
  pub owners : length s.scope.owners ≤ name_limit
  pub declared : (n : ℕ) → IsDeclared x.program.decls n (standing_of s n).declared

pub ready_goes : (x : MachineWithProgram) (s next : ProgramScope) (ps ls es ts : ℕ → Bool) → Goes s next ps ls es ts → Ready x s → Ready x next
ready_goes x s next ps ls es ts g h = record {
  calls = g.calls ∙ h.calls;
  strategies = g.strategies ∙ h.strategies;
  constants = g.constants ∙ h.constants;
  sorts = λ n f t is. h.sorts n f t (ap (λ ms. meaning_of (record s.scope { meanings = ms }) n) (sym g.meanings) ∙ is);
  names = subst (λ k. k ≤ name_limit) (sym g.names) h.names;
  owners = subst (λ k. k ≤ name_limit) (sym g.owners) h.owners;
  declared = λ n. subst (IsDeclared x.program.decls n) (sym (g.declared n)) (h.declared n);
}

-- another place begins
pub entered_ready : (x : MachineWithProgram) (b : Bool) (o : Owner) (g : Sight) (s : ProgramScope) → Ready x s → Ready x (entered b o g s)
entered_ready x b o g s h = record { calls = h.calls; strategies = h.strategies; constants = h.constants; sorts = h.sorts; names = h.names; owners = h.owners; declared = h.declared }

pub entered_at : (x : MachineWithProgram) (b : Bool) (ws : List ℕ) (o : Owner) (g : Sight) (s : ProgramScope) → Ready x s → is_mine o ≡ true → g.fields ≡ Some s.constants → ((w : Special) → knows_special g w ≡ true → is_in (special_number w) ws ≡ true) → At x b ws (entered b o g s)
entered_at x b ws o g s h mine fields words = record {
  calls = h.calls;
  strategies = h.strategies;
  constants = h.constants;
  sorts = h.sorts;
  names = h.names;
  owners = h.owners;
  declared = h.declared;
  starts = refl;
  nobody = refl;
  mine = mine;
  fields = fields;
  words = words;
}

pub no_word : (c : ℕ) (ws : List ℕ) (w : Special) → knows_special (thread_sight c) w ≡ true → is_in (special_number w) ws ≡ true
no_word c ws special.Value known = absurd (true≢false (sym known))
no_word c ws special.Index known = absurd (true≢false (sym known))
no_word c ws special.Old known = absurd (true≢false (sym known))
no_word c ws special.New known = absurd (true≢false (sym known))
no_word c ws special.Wrap known = absurd (true≢false (sym known))

-- ---- locals of others

not_same : (a b : ℕ) → (a ≡ b → ⊥) → nat_eq a b ≡ false
not_same a b apart = by (nat_eq a b) refl where
  by : (c : Bool) → nat_eq a b ≡ c → c ≡ false
  by true q = absurd (apart (eqb-true a b q))
  by false q = refl

unassigned : (k : ℕ) (o : Option Owners) → (local_number o ≡ k → ⊥) → (local_of o (owner.Thread k) ≡ false) × (local_of o (owner.Last k) ≡ false)
unassigned k None other = (refl, refl)
unassigned k (Some o) other = (not_same o.local k other, not_same o.local k other)

others : (k : ℕ) (o : Option Owners) → 0 < k → local_of o (owner.Thread k) ≡ false → local_number o ≡ k → ⊥
others k None some free e = omega (arith, some, e)
others k (Some o) some free e = absurd (true≢false (sym (eq-eqb o.local k e) ∙ free))

-- ---- names that are known again

again_goes : (ns : List RawName) (s : ProgramScope) → is_mine s.scope.owner ≡ true → ((n : ℕ) → is_assigned s.scope n ≡ false) → IfOk (known_again s ns) (λ next. Stays s next (λ n. is_in n (map raw_name ns)) none none none)
unfolding known_again
again_goes [] s mine free = keeps_here s
again_goes (n ∷ ns) s mine free =
    after_ok _ _ (prove_name s n) _ (prove_goes s n mine (free n.name)) (λ a one.
    weaker _ _ (known_again a ns) (again_goes ns a (ap is_mine one.1.goes.owner ∙ mine) (λ k. one.1.goes.locals k ∙ free k)) (λ next rest.
    stays_then s a next (only n.name) none none none (λ k. is_in k (map raw_name ns)) none none none (λ k. is_in k (map raw_name (n ∷ ns))) none none none
    (λ k z. swap (only n.name k) (is_in k (map raw_name ns)) z) (λ k z. refl) (λ k z. refl) (λ k z. refl) one.1 rest))

-- ---- bodies

all_of : (p : ℕ → Bool) (ns : List ℕ) → ((n : ℕ) → is_in n ns ≡ true → p n ≡ true) → list_all p ns ≡ true
all_of p [] h = refl
all_of p (n ∷ ns) h = and_from (p n) (list_all p ns) (h n (or_left (nat_eq n n) (is_in n ns) (eq-eqb n n refl))) (all_of p ns (λ k inside. h k (or_right (nat_eq k n) (is_in k ns) inside)))

assigned_there : (x : MachineWithProgram) (s : ProgramScope) → Ready x s → (n : ℕ) → is_assigned s.scope n ≡ true → is_name n ≡ true
assigned_there x s h n is = by (slice_get s.scope.owners n) refl where
  by : (o : Option Owners) → slice_get s.scope.owners n ≡ o → is_name n ≡ true
  by None there = absurd (true≢false (sym (sym (ap (λ o. local_of o s.scope.owner) there) ∙ is)))
  by (Some o) there = lt-ltb n name_limit (omega (arith, slice_get_within s.scope.owners n o there, h.owners))

either : (a b : Bool) (P : Type 0) → (a || b) ≡ true → (a ≡ true → P) → (b ≡ true → P) → P
either true b P e f g = f refl
either false b P e f g = g e

-- a body in a place where nothing is assigned, and these names are proof names
pub body_named : (x : MachineWithProgram) (a : Aims) (t : Keeps_ahead) (known : List ℕ) (ks : List KeepTree) (l : ListTree) (s next : ProgramScope) → Agree a t → Ready x s → ((n : ℕ) → is_assigned s.scope n ≡ false)
    → ((n : ℕ) → is_in n (flat_map (λ (k : KeepTree). k.names) ks) ≡ true → is_proof_name s n ≡ true) → BodyGo x a l s next → body_is_named x t ks l ≡ true
body_named x a t known ks l s next agree ready free proved go =
    and_from (are_names own) _ (all_of is_name own (λ n inside. assigned_there x next (ready_goes x s next go.ps go.ls none none go.goes ready) n (assigned n inside)))
    (and_from (none_in bound own) _ (all_of (λ n. not (is_in n own)) bound (λ n inside. ap not (apart n (proof n inside)))) (go.named t agree own among)) where
      own : List ℕ
      own = assigned_locals l []

      bound : List ℕ
      bound = flat_map (λ (k : KeepTree). k.names) ks ++ proof_names l

      assigned : (n : ℕ) → is_in n (assigned_locals l []) ≡ true → is_assigned next.scope n ≡ true
      assigned n inside = go.goes.locals n ∙ or_left (go.ls n) (is_assigned s.scope n) (sym (or_false (go.ls n)) ∙ sym (go.locals [] n) ∙ inside)

      among : (n : ℕ) → is_assigned next.scope n ≡ true → is_in n (assigned_locals l []) ≡ true
      among n is = go.locals [] n ∙ or_false (go.ls n) ∙ sym (or_false (go.ls n)) ∙ ap (λ z. go.ls n || z) (sym (free n)) ∙ sym (go.goes.locals n) ∙ is

      proof : (n : ℕ) → is_in n (flat_map (λ (k : KeepTree). k.names) ks ++ proof_names l) ≡ true → is_proof_name next n ≡ true
      proof n inside = either (is_in n (flat_map (λ (k : KeepTree). k.names) ks)) (is_in n (proof_names l)) (is_proof_name next n ≡ true) (sym (list_any-append (nat_eq n) (flat_map (λ (k : KeepTree). k.names) ks) (proof_names l)) ∙ inside)
          (λ e. go.goes.proofs n ∙ or_right (go.ps n) (is_proof_name s n) (proved n e))
          (λ e. go.goes.proofs n ∙ or_left (go.ps n) (is_proof_name s n) (sym (go.proofs n) ∙ e))

      apart : (n : ℕ) → is_proof_name next n ≡ true → is_in n (assigned_locals l []) ≡ false
      apart n is = by (is_in n (assigned_locals l [])) refl where
        by : (b : Bool) → is_in n (assigned_locals l []) ≡ b → b ≡ false
        by true inside = absurd (true≢false (sym is ∙ go.goes.apart (λ k e. absurd (true≢false (sym e ∙ free k))) n (assigned n inside)))
        by false inside = refl

-- ---- one thread

pub record ThreadGo (x : MachineWithProgram) (number : ℕ) (s : ProgramScope) (raw : RawThread) (t : ThreadTree) (next : ProgramScope) : Type 0 where
  pub named : thread_is_named x t ≡ true
  pub name : t.name ≡ raw.name.name
  pub many : length t.takes.names ≡ length raw.takes.names
  pub entrance : Entrance
  pub there : (standing_of s t.name).thread ≡ Some entrance
  pub numbered : entrance.number ≡ number
  pub few : number < 16
  pub ready : Ready x next
  pub threads : (n : ℕ) → (standing_of next n).thread ≡ (standing_of s n).thread
  pub tokens : (n : ℕ) → (standing_of next n).ends_token ≡ (is_in n (own_tokens t.ends) || (standing_of s n).ends_token)
  pub ends : (n : ℕ) → ends_at next n ≡ (is_in n t.ends.names || ends_at s n)
  pub without : (k : ℕ) → number + 2 < k → k < 20 → Without k s → Without k next
  pub fresh : (n : ℕ) → is_in n t.ends.names ≡ true → ends_at s n ≡ false
  pub fresh_tokens : (n : ℕ) → is_in n (own_tokens t.ends) ≡ true → (standing_of s n).ends_token ≡ false

and_no : (a : Bool) → (a && false) ≡ false
and_no true = refl
and_no false = refl

and_yes : (a : Bool) → (a && true) ≡ a
and_yes true = refl
and_yes false = refl

few_is : (most n line : ℕ) → IfOk (few_before most n line) (λ k. n < most)
few_is most n line = if_ok (λ k. n < most) (nat_lt n most) (Ok n) _ (λ e. ltb-true n most e)

entrance_first : (o : Option Entrance) (number : ℕ) → is_entrance o number ≡ true → (e : Entrance) × (o ≡ Some e) × (e.number ≡ number)
entrance_first None number is = absurd (true≢false (sym is))
entrance_first (Some e) number is = (e, refl, eqb-true e.number number is)

first_is : (number : ℕ) (s : ProgramScope) (n : RawName) → IfOk (first_of_name number s n) (λ k. (e : Entrance) × ((standing_of s n.name).thread ≡ Some e) × (e.number ≡ number))
first_is number s n = if_ok (λ k. (e : Entrance) × ((standing_of s n.name).thread ≡ Some e) × (e.number ≡ number)) (is_entrance (standing_of s n.name).thread number) (Ok number) _ (λ is. entrance_first (standing_of s n.name).thread number is)

pub thread_goes : (x : MachineWithProgram) (number : ℕ) (s : ProgramScope) (t : RawThread) → Ready x s → Without (2 + number) s → IfOk (thread_in number s t) (λ r. ThreadGo x number s t r.0 r.1)
unfolding thread_in
thread_goes x number s t ready others_there =
    let P : ThreadTree × ProgramScope → Type 0 = λ r. ThreadGo x number s t r.0 r.1 in
    let me : ℕ = 2 + number in
    let s1 = in_thread number s in
    let r1 : Ready x s1 = entered_ready x false (owner.Thread me) (thread_sight s.constants) s ready in
    let h1 : At x false [] s1 = entered_at x false [] (owner.Thread me) (thread_sight s.constants) s ready refl refl (no_word s.constants []) in
    after_ok P _ (few_before 16 number t.line) _ (few_is 16 number t.line) (λ n few.
    after_ok P _ (first_of_name number s t.name) _ (first_is number s t.name) (λ m first.
    after_ok P (λ r. KeepGo x [] false s1 t.takes r.0 r.1) (keep_in false s1 t.takes) _ (keep_goes x false [] false s1 t.takes h1) (λ takes one.
    let g1 : Goes s1 takes.1 (λ n. is_in n takes.0.names) none (λ n. is_in n takes.0.names && false) (λ n. is_in n (own_tokens takes.0) && false) = one.stays.goes in
    let r2 : Ready x takes.1 = ready_goes x s1 takes.1 _ _ _ _ g1 r1 in
    let s2 = in_ends number takes.1 in
    let r3 : Ready x s2 = entered_ready x false (owner.Thread (20 + number)) (thread_sight takes.1.constants) takes.1 r2 in
    let h2 : At x false [] s2 = entered_at x false [] (owner.Thread (20 + number)) (thread_sight takes.1.constants) takes.1 r2 refl refl (no_word takes.1.constants []) in
    after_ok P (λ r. KeepGo x [] true s2 t.ends r.0 r.1) (keep_in true s2 t.ends) _ (keep_goes x false [] true s2 t.ends h2) (λ ends two.
    let g2 : Goes s2 ends.1 (λ n. is_in n ends.0.names) none (λ n. is_in n ends.0.names && true) (λ n. is_in n (own_tokens ends.0) && true) = two.stays.goes in
    let r4 : Ready x ends.1 = ready_goes x s2 ends.1 _ _ _ _ g2 r3 in
    let s3 = in_thread number ends.1 in
    let r5 : Ready x s3 = entered_ready x false (owner.Thread me) (thread_sight ends.1.constants) ends.1 r4 in
    let h3 : At x false (words_at InList) s3 = entered_at x false (words_at InList) (owner.Thread me) (thread_sight ends.1.constants) ends.1 r4 refl refl (no_word ends.1.constants (words_at InList)) in
    let free1 : (n : ℕ) → is_assigned takes.1.scope n ≡ false = (λ n. g1.locals n ∙ (unassigned me (slice_get s.scope.owners n) (others_there n)).0) in
    let w2 : Without me takes.1 = (λ n. others me (slice_get takes.1.scope.owners n) (omega arith) (ap (λ o. local_of (slice_get takes.1.scope.owners n) o) (sym g1.owner) ∙ free1 n)) in
    let w3 : Without me ends.1 = g2.without me (λ e. omega (arith, e)) w2 in
    let free3 : (n : ℕ) → is_assigned s3.scope n ≡ false = (λ n. (unassigned me (slice_get ends.1.scope.owners n) (w3 n)).0) in
    after_ok P _ (known_again s3 t.takes.names) _ (again_goes t.takes.names s3 refl free3) (λ again third.
    let g3 = third.goes in
    let h4 : InThread x again = at_stays x false (words_at InList) s3 again (λ n. is_in n (map raw_name t.takes.names)) none none none h3 third in
    let r6 : Ready x again = ready_goes x s3 again _ _ _ _ g3 r5 in
    after_ok P (λ r. BodyGo x (aims_at (Some (length t.ends.names))) r.0 again r.1) (list_in t.body (aims_at (Some (length t.ends.names))) again) _ (list_is_good x t.body (aims_at (Some (length t.ends.names))) again h4) (λ body last.
    let g4 = last.goes in record {
      named = and_from (keep_is_named x (known_with x []) takes.0) _ one.named (and_from (keep_is_named x (known_with x []) ends.0) _ two.named
          (body_named x (aims_at (Some (length t.ends.names))) (record no_aims { end = Some ends.0 }) [] (takes.0 ∷ []) body.0 again body.1
          (record { next = tt; break = tt; meet = tt; end = ap Some (sym two.many) }) r6 (λ n. g3.locals n ∙ free3 n)
          (λ n inside. g3.proofs n ∙ or_left (is_in n (map raw_name t.takes.names)) (is_proof_name s3 n) (ap (is_in n) (sym (append-nil takes.0.names ∙ one.said)) ∙ inside)) last));
      name = refl;
      many = one.many;
      entrance = first.0;
      there = first.1;
      numbered = first.2;
      few = few;
      ready = ready_goes x again body.1 _ _ _ _ g4 r6;
      threads = λ n. g4.threads n ∙ g3.threads n ∙ g2.threads n ∙ g1.threads n;
      tokens = λ n. g4.tokens n ∙ g3.tokens n ∙ g2.tokens n ∙ ap (λ z. (is_in n (own_tokens ends.0) && true) || z) (g1.tokens n ∙ ap (λ z. z || (standing_of s n).ends_token) (and_no (is_in n (own_tokens takes.0)))) ∙ ap (λ z. z || (standing_of s n).ends_token) (and_yes (is_in n (own_tokens ends.0)));
      ends = λ n. g4.ends n ∙ g3.ends n ∙ g2.ends n ∙ ap (λ z. (is_in n ends.0.names && true) || z) (g1.ends n ∙ ap (λ z. z || ends_at s n) (and_no (is_in n takes.0.names))) ∙ ap (λ z. z || ends_at s n) (and_yes (is_in n ends.0.names));
      without = λ k above below h. g4.without k (λ e. omega (arith, above, sym (ap number_of g3.owner) ∙ e)) (g3.without k (λ e. omega (arith, above, e)) (g2.without k (λ e. omega (arith, below, e)) (g1.without k (λ e. omega (arith, above, e)) h)));
      fresh = λ n inside. sym (g1.ends n ∙ ap (λ z. z || ends_at s n) (and_no (is_in n takes.0.names))) ∙ two.fresh n (and_yes (is_in n ends.0.names) ∙ inside);
      fresh_tokens = λ n inside. sym (g1.tokens n ∙ ap (λ z. z || (standing_of s n).ends_token) (and_no (is_in n (own_tokens takes.0)))) ∙ two.fresh_tokens n (and_yes (is_in n (own_tokens ends.0)) ∙ inside);
    }))))))

-- ---- threads one after another

abbrev pub thread_name : ThreadTree → ℕ
thread_name t = t.name

abbrev pub takes_many : ThreadTree → ℕ
takes_many t = length t.takes.names

abbrev pub raw_thread : RawThread → ℕ
raw_thread t = t.name.name

abbrev pub raw_many : RawThread → ℕ
raw_many t = length t.takes.names

abbrev end_names : List ThreadTree → List ℕ
end_names ts = flat_map (λ (k : KeepTree). k.names) (map (λ (t : ThreadTree). t.ends) ts)

abbrev end_tokens : List ThreadTree → List ℕ
end_tokens ts = flat_map own_tokens (map (λ (t : ThreadTree). t.ends) ts)

pub record Held (x : MachineWithProgram) (ts : List ThreadTree) (s : ProgramScope) : Type 0 where
  pub named : list_all (thread_is_named x) ts ≡ true
  pub apart : are_apart (map thread_name ts) ≡ true
  pub numbered : (n : ℕ) → is_in n (map thread_name ts) ≡ true → (e : Entrance) × ((standing_of s n).thread ≡ Some e) × (e.number < length ts)
  pub names : are_apart (end_names ts) ≡ true
  pub tokens : are_apart (end_tokens ts) ≡ true
  pub ended : (n : ℕ) → is_in n (end_names ts) ≡ true → ends_at s n ≡ true
  pub token_ended : (n : ℕ) → is_in n (end_tokens ts) ≡ true → (standing_of s n).ends_token ≡ true
  pub ready : Ready x s
  pub without : (k : ℕ) → length ts + 1 < k → k < 20 → Without k s
  pub few : length ts ≤ 16

pub record ThreadsGo (x : MachineWithProgram) (raw : List RawThread) (held ts : List ThreadTree) (next : ProgramScope) : Type 0 where
  pub added : List ThreadTree
  pub are : ts ≡ held ++ added
  pub said : map thread_name added ≡ map raw_thread raw
  pub many : map takes_many added ≡ map raw_many raw
  pub holds : Held x ts next

flat_more : {A : Type 0} (f : A → List ℕ) (xs : List A) (y : A) → flat_map f (xs ++ y ∷ []) ≡ flat_map f xs ++ f y
flat_more f [] y = append-nil (f y)
flat_more f (x ∷ xs) y = ap (λ z. f x ++ z) (flat_more f xs y) ∙ sym (append_assoc (f x) (flat_map f xs) (f y))

abbrev number_or : ℕ → Option Entrance → ℕ
number_or d None = d
number_or d (Some e) = e.number

-- lists without a common name
apart_both : (xs ys : List ℕ) → are_apart xs ≡ true → are_apart ys ≡ true → ((n : ℕ) → is_in n xs ≡ true → is_in n ys ≡ false) → are_apart (xs ++ ys) ≡ true
apart_both [] ys a b h = b
apart_both (x ∷ xs) ys a b h =
    let p = and_parts (not (is_in x xs)) (are_apart xs) a in
    and_from (not (is_in x (xs ++ ys))) (are_apart (xs ++ ys))
    (ap not (list_any-append (nat_eq x) xs ys ∙ ap (λ z. is_in x xs || z) (h x (or_left (nat_eq x x) (is_in x xs) (eq-eqb x x refl))) ∙ or_false (is_in x xs)) ∙ p.0)
    (apart_both xs ys p.1 b (λ n inside. h n (or_right (nat_eq n x) (is_in n xs) inside)))

no_both : (n : ℕ) (a b : Bool) → (b ≡ true → a ≡ false) → a ≡ true → b ≡ false
no_both n a true h is = absurd (true≢false (sym is ∙ h refl))
no_both n a false h is = refl

held_more : (x : MachineWithProgram) (raw : RawThread) (held : List ThreadTree) (s next : ProgramScope) (t : ThreadTree) → Held x held s → ThreadGo x (length held) s raw t next → Held x (held ++ t ∷ []) next
held_more x raw held s next t h go = record {
  named = list_all-append (thread_is_named x) held (t ∷ []) ∙ and_from (list_all (thread_is_named x) held) _ h.named (and_from (thread_is_named x t) true go.named refl);
  apart = ap are_apart (map-append thread_name held (t ∷ [])) ∙ apart_more (map thread_name held) t.name h.apart (new (is_in t.name (map thread_name held)) refl);
  numbered = λ n inside. either (is_in n (map thread_name held)) (nat_eq n t.name) ((e : Entrance) × ((standing_of next n).thread ≡ Some e) × (e.number < length (held ++ t ∷ [])))
      (ap (λ z. is_in n (map thread_name held) || z) (sym (or_false (nat_eq n t.name))) ∙ sym (list_any-append (nat_eq n) (map thread_name held) (t.name ∷ [])) ∙ ap (is_in n) (sym (map-append thread_name held (t ∷ []))) ∙ inside)
      (λ before. let e = h.numbered n before in (e.0, go.threads n ∙ e.1, omega (arith, e.2, longer)))
      (λ now. (go.entrance, go.threads n ∙ ap (λ k. (standing_of s k).thread) (eqb-true n t.name now) ∙ go.there, omega (arith, go.numbered, longer)));
  names = ap are_apart (ends_more) ∙ apart_both (end_names held) t.ends.names h.names (own_apart) (λ n inside. no_both n (ends_at s n) (is_in n t.ends.names) (go.fresh n) (h.ended n inside));
  tokens = ap are_apart (tokens_more) ∙ apart_both (end_tokens held) (own_tokens t.ends) h.tokens (tokens_apart) (λ n inside. no_both n (standing_of s n).ends_token (is_in n (own_tokens t.ends)) (go.fresh_tokens n) (h.token_ended n inside));
  ended = λ n inside. go.ends n ∙ either (is_in n (end_names held)) (is_in n t.ends.names) ((is_in n t.ends.names || ends_at s n) ≡ true)
      (sym (list_any-append (nat_eq n) (end_names held) t.ends.names) ∙ ap (is_in n) (sym ends_more) ∙ inside)
      (λ before. or_right (is_in n t.ends.names) (ends_at s n) (h.ended n before)) (λ now. or_left (is_in n t.ends.names) (ends_at s n) now);
  token_ended = λ n inside. go.tokens n ∙ either (is_in n (end_tokens held)) (is_in n (own_tokens t.ends)) ((is_in n (own_tokens t.ends) || (standing_of s n).ends_token) ≡ true)
      (sym (list_any-append (nat_eq n) (end_tokens held) (own_tokens t.ends)) ∙ ap (is_in n) (sym tokens_more) ∙ inside)
      (λ before. or_right (is_in n (own_tokens t.ends)) (standing_of s n).ends_token (h.token_ended n before)) (λ now. or_left (is_in n (own_tokens t.ends)) (standing_of s n).ends_token now);
  ready = go.ready;
  without = λ k above below. go.without k (omega (arith, above, longer)) below (h.without k (omega (arith, above, longer)) below);
  few = omega (arith, go.few, longer);
} where
  longer : length (held ++ t ∷ []) ≡ length held + 1
  longer = length-append held (t ∷ [])

  ends_more : end_names (held ++ t ∷ []) ≡ end_names held ++ t.ends.names
  ends_more = ap (flat_map (λ (k : KeepTree). k.names)) (map-append (λ (u : ThreadTree). u.ends) held (t ∷ [])) ∙ flat_more (λ (k : KeepTree). k.names) (map (λ (u : ThreadTree). u.ends) held) t.ends

  tokens_more : end_tokens (held ++ t ∷ []) ≡ end_tokens held ++ own_tokens t.ends
  tokens_more = ap (flat_map own_tokens) (map-append (λ (u : ThreadTree). u.ends) held (t ∷ [])) ∙ flat_more own_tokens (map (λ (u : ThreadTree). u.ends) held) t.ends

  ends_named : keep_is_named x (known_with x []) t.ends ≡ true
  ends_named = (and_parts (keep_is_named x (known_with x []) t.ends) _ (and_parts (keep_is_named x (known_with x []) t.takes) _ go.named).1).0

  own_apart : are_apart t.ends.names ≡ true
  own_apart = (and_parts (are_names t.ends.names) (are_apart t.ends.names) (and_parts (are_apart_names t.ends.names) _ ends_named).0).1

  tokens_apart : are_apart (own_tokens t.ends) ≡ true
  tokens_apart = (and_parts (are_names (own_tokens t.ends)) (are_apart (own_tokens t.ends)) (and_parts (are_apart_names (own_tokens t.ends)) _ (and_parts (are_apart_names t.ends.names) _ ends_named).1).0).1

  new : (b : Bool) → is_in t.name (map thread_name held) ≡ b → b ≡ false
  new true inside =
      let e = h.numbered t.name inside in
      let same : e.0.number ≡ go.entrance.number = ap (number_or 0) (sym e.1 ∙ go.there) in
      absurd (omega (arith, e.2, same, go.numbered))
  new false inside = refl

pub threads_go : (x : MachineWithProgram) (raw : List RawThread) (held : List ThreadTree) (s : ProgramScope) → Held x held s → IfOk (threads_from held s raw) (λ r. ThreadsGo x raw held r.0 r.1)
unfolding threads_from
threads_go x [] held s h = record { added = []; are = sym (append-nil held); said = refl; many = refl; holds = h }
threads_go x (t ∷ raw) held s h =
    after_ok _ (λ r. ThreadGo x (length held) s t r.0 r.1) (thread_in (length held) s t) _ (thread_goes x (length held) s t h.ready (h.without (2 + length held) (omega arith) (omega (arith, h.few)))) (λ y one.
    weaker _ _ (threads_from (held ++ y.0 ∷ []) y.1 raw) (threads_go x raw (held ++ y.0 ∷ []) y.1 (held_more x t held s y.1 y.0 h one)) (λ r rest. record {
      added = y.0 ∷ rest.added;
      are = rest.are ∙ append_assoc held (y.0 ∷ []) rest.added;
      said = ap (λ ns. y.0.name ∷ ns) rest.said ∙ ap (λ n. n ∷ map raw_thread raw) one.name;
      many = ap (λ ns. length y.0.takes.names ∷ ns) rest.many ∙ ap (λ n. n ∷ map raw_many raw) one.many;
      holds = rest.holds;
    }))

-- ---- the final block

pub last_goes : (x : MachineWithProgram) (s : ProgramScope) (raw : Option RawList) → Held x x.program.threads s → IfOk (last_in s raw) (λ l. final_is_named x l ≡ true)
unfolding last_in
last_goes x s None h = refl
last_goes x s (Some l) h =
    let s1 = in_last s in
    let h1 : At x false (words_at InList) s1 = entered_at x false (words_at InList) (owner.Last 18) (thread_sight s.constants) s h.ready refl refl (no_word s.constants (words_at InList)) in
    let few : length x.program.threads + 1 < 18 = omega (arith, h.few) in
    let free : (n : ℕ) → is_assigned s1.scope n ≡ false = (λ n. (unassigned 18 (slice_get s.scope.owners n) (h.without 18 few (omega arith) n)).1) in
    after_ok _ (λ r. BodyGo x (aims_at None) r.0 s1 r.1) (list_in l (aims_at None) s1) _ (list_is_good x l (aims_at None) s1 h1) (λ body go.
    body_named x (aims_at None) no_aims [] (all_ends x.program) body.0 s1 body.1 (record { next = tt; break = tt; meet = tt; end = tt }) (entered_ready x false (owner.Last 18) (thread_sight s.constants) s h.ready) free
    (λ n inside. proved (slice_get s.scope.owners n) (h.ended n inside)) go) where
      proved : (o : Option Owners) → ends_of o ≡ true → proof_of o (owner.Last 18) ≡ true
      proved None e = absurd (true≢false (sym e))
      proved (Some o) e = or_right (nat_eq o.proof 18) o.ends e
