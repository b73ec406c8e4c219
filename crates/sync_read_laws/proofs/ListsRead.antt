-- Statements with lists, and lists, that are read keep the names.
use Rattle.std.proofs.Common.{◌≡◌, ℕ, ◌&&◌, ◌||◌, Bool, true, false, List, [], ◌∷◌, ◌++◌, length, nat_eq, Option, Some, None, refl, sym, ap, ◌∙◌, append_assoc, append-nil}
use Rattle.std.specs.List.{AllByRecursion}
use Rattle.std.specs.Result.{IfOk}
use Rattle.std.proofs.lemmas.Bool.{and_from}
use Rattle.std.proofs.lemmas.List.Folds.{list_any-append}
use Rattle.sync_base.proofs.Basics.{or_false, or_assoc}
use Rattle.sync_machine.specs.Naming.{is_in}
use Rattle.sync_parse_exprs.specs.declared.raw_names.RawName.{RawName}
use Rattle.sync_parse_programs.specs.declared.operands.RawLoad.{RawLoad}
use Rattle.sync_parse_programs.specs.declared.operands.RawChange.{RawChange}
use Rattle.sync_parse_programs.specs.declared.operands.RawCas.{RawCas}
use Rattle.sync_parse_programs.specs.declared.operands.RawWordOperation.{RawWordOperation}
use Rattle.sync_parse_programs.specs.declared.operands.RawWordOperation.TheVariants as word
use Rattle.sync_parse_programs.specs.declared.proof_statements.RawKeep.{RawKeep}
use Rattle.sync_thread.specs.declared.operands.WordOp.{WordOp}
use Rattle.sync_thread.specs.declared.operands.WordOp.TheVariants as op
use Rattle.sync_thread.specs.declared.operands.Opd.{Opd}
use Rattle.sync_thread.specs.Control.{Brace}
use Rattle.sync_thread.specs.Programs.{WordTree, AtomicTree, KeepTree, ListTree}
use Rattle.sync_thread.specs.Arrays.{words_in}
use Rattle.sync_thread.specs.Views.{Then}
use Rattle.sync_thread_machine.specs.MachineWithProgram.{MachineWithProgram}
use Rattle.sync_typing.specs.Lists.{named_word, assigned_locals}
use Rattle.sync_typing.specs.Names.{Aims as Keeps_ahead, known_here, keep_here, keep_is_named, jump_is_named, InList, words_at, operand_is_named, op_is_named, index_is_named, list_is_named, proof_names, bound_by_keep}
use Rattle.sync_read.proofs.Chains.{after_ok, weaker}
use Rattle.sync_read_programs.specs.declared.scopes.WordCounts.{WordCounts}
use Rattle.sync_read_programs.specs.declared.scopes.Aims.{Aims}
use Rattle.sync_read_programs.specs.declared.scopes.ProgramScope.{ProgramScope}
use Rattle.sync_read_programs.specs.Scopes.{may_assign, assign_name, word_in, with_wrap}
use Rattle.sync_read_programs.specs.Operands.{operand_in, two_operands, index_in}
use Rattle.sync_read_programs.specs.Keeps.{keep_in, keep_if}
use Rattle.sync_read_programs.specs.Statements.{Operation, atomic_of, load_in, change_in, cas_in, word_operation_in, wrap_if, jump_in, names_of}
use Rattle.sync_read_laws.proofs.Places.{Goes, Stays, Keeps, rests_here, keeps_here, goes_then, goes_as, rests_then, then_rests, at_stays, none}
use Rattle.sync_read_laws.proofs.Moves.{only, may_assign_is}
use Rattle.sync_read_laws.proofs.Parts.{Among, WithLocals, operand_named, two_named, index_named}
use Rattle.sync_read_laws.proofs.KeepsRead.{KeepGo, keep_goes, stays_as}
use Rattle.sync_read_laws.proofs.ProofsRead.{Counts, word_is}
use Rattle.sync_read_laws.proofs.Locals.{one_local}
use Rattle.sync_parse_programs.specs.declared.statements.RawAtomic.{RawAtomic}
use Rattle.sync_parse_programs.specs.declared.statements.RawStore.{RawStore}
use Rattle.sync_parse_programs.specs.declared.statements.RawRightSide.TheOpen.{RawList-F, RawIf-F, RawLoop-F, RawWhen-F, RawTail-F}
use Rattle.sync_thread.specs.Views.{TailThen, before}
use Rattle.sync_typing.specs.Environments.{on_some}
use Rattle.sync_typing.specs.Lists.{with_local_if}
use Rattle.sync_typing.specs.Names.{AtWord, cond_is_named, atomic_is_named, steps_are_named, bound_by_steps}
use Rattle.sync_read_programs.specs.Scopes.{knows_wrap}
use Rattle.sync_read_programs.specs.Operands.{condition_in}
use Rattle.sync_read_programs.specs.ProofStatements.{proof_block}
use Rattle.sync_read_programs.specs.Statements.{Statement, Kind, RightSide, Tail, Body, in_branch, in_loop, when_in, tail_in, wraps, assigned_in, stored_in, if_in, loop_in, statements_from, body_of}
use Rattle.sync_read_laws.proofs.Parts.{condition_named}
use Rattle.sync_read_laws.proofs.KeepsRead.{swap}
use Rattle.sync_read_laws.proofs.BlocksRead.{BlockGo, block_goes}
use Rattle.sync_read_laws.proofs.Locals.{added_before}
use Rattle.sync_read_laws.proofs.SinglesRead.{InThread, Brings, Agree, Adds, among_before, wrap_place, wrap_if_place, assigned_goes, jump_goes}

some_is : {A : Type 0} (o : Option A) (a : A) (f : A → Bool) → o ≡ Some a → f a ≡ true → on_some o false f ≡ true
some_is o a f there e = ap (λ z. on_some z false f) there ∙ e

and_none : (a : Bool) → (a && false) ≡ false
and_none true = refl
and_none false = refl

-- ---- keeps behind branches and loops

pub record KeepIfGo (x : MachineWithProgram) (s : ProgramScope) (raw : Option RawKeep) (k : Option KeepTree) (next : ProgramScope) : Type 0 where
  pub named : keep_here x k ≡ true
  pub brings : Brings (names_of raw) k
  pub stays : Stays s next (λ n. is_in n (bound_by_keep k)) none none none

keep_plain : (x : MachineWithProgram) (ws : List ℕ) (s : ProgramScope) (raw : RawKeep) (k : KeepTree) (next : ProgramScope) → KeepGo x ws false s raw k next → Stays s next (λ n. is_in n k.names) none none none
keep_plain x ws s raw k next go = stays_as s next (λ n. is_in n k.names) none (λ n. is_in n k.names && false) _ (λ n. is_in n k.names) none none none (λ n. refl) (λ n. refl) (λ n. and_none (is_in n k.names)) (λ n. and_none _) go.stays

pub keep_if_goes : (x : MachineWithProgram) (s : ProgramScope) (o : Option RawKeep) → InThread x s → IfOk (keep_if s o) (λ r. KeepIfGo x s o r.0 r.1)
unfolding keep_if
keep_if_goes x s None h = record { named = refl; brings = tt; stays = keeps_here s }
keep_if_goes x s (Some k) h =
    after_ok _ (λ r. KeepGo x (words_at InList) false s k r.0 r.1) (keep_in false s k) _ (keep_goes x false (words_at InList) false s k h) (λ r go. record {
      named = go.named;
      brings = ap Some (sym go.many);
      stays = keep_plain x (words_at InList) s k r.0 r.1 go;
    })

-- ---- what a list adds

pub record BodyGo (x : MachineWithProgram) (a : Aims) (l : ListTree) (s next : ProgramScope) : Type 0 where
  pub ps : ℕ → Bool
  pub ls : ℕ → Bool
  pub goes : Goes s next ps ls none none
  pub at : InThread x next
  pub proofs : (n : ℕ) → is_in n (proof_names l) ≡ ps n
  pub locals : (held : List ℕ) (n : ℕ) → is_in n (assigned_locals l held) ≡ (ls n || is_in n held)
  pub named : (t : Keeps_ahead) → Agree a t → (own : List ℕ) → Among next own → list_is_named x own t l ≡ true

-- what the end of an operation on this word adds, whatever operation it is
pub record TailGo (x : MachineWithProgram) (w : WordTree) (a : Aims) (f : TailThen) (s next : ProgramScope) : Type 0 where
  pub ps : ℕ → Bool
  pub ls : ℕ → Bool
  pub goes : Goes s next ps ls none none
  pub at : InThread x next
  pub proofs : (o : AtomicTree) (line : ℕ) (rest : ListTree) (n : ℕ) → is_in n (proof_names (f o line rest)) ≡ (ps n || is_in n (proof_names rest))
  pub locals : (o : AtomicTree) (line : ℕ) (rest : ListTree) (held : List ℕ) (n : ℕ) → is_in n (assigned_locals (f o line rest) held) ≡ (ls n || is_in n (assigned_locals rest (with_local_if o.local held)))
  pub named : (o : AtomicTree) (line : ℕ) → named_word o.word (words_in x.program.decls) ≡ Some w → (t : Keeps_ahead) → Agree a t → (own : List ℕ) → Among next own
      → op_is_named own o.op ≡ true → index_is_named own o.index ≡ true → (rest : ListTree) → list_is_named x own t rest ≡ true → list_is_named x own t (f o line rest) ≡ true

abbrev pub GoodStatement : MachineWithProgram → Statement → Type 0
GoodStatement x f = (a : Aims) (s : ProgramScope) → InThread x s → IfOk (f a s) (λ r. Adds x a r.0 s r.1)

abbrev pub GoodKind : MachineWithProgram → Kind → Type 0
GoodKind x f = (line : ℕ) → GoodStatement x (f line)

abbrev pub GoodRight : MachineWithProgram → RightSide → Type 0
GoodRight x f = (n : RawName) → GoodKind x (f n)

abbrev pub GoodBody : MachineWithProgram → Body → Type 0
GoodBody x f = (a : Aims) (s : ProgramScope) → InThread x s → IfOk (f a s) (λ r. BodyGo x a r.0 s r.1)

abbrev pub GoodTail : MachineWithProgram → Tail → Type 0
GoodTail x f = (w : WordTree) (c : WordCounts) → Counts w c → (a : Aims) (s : ProgramScope) → InThread x s → IfOk (f c a s) (λ r. TailGo x w a r.0 s r.1)

-- in a branch a jump by `meet` comes to the keep behind it
agree_branch : (a : Aims) (t : Keeps_ahead) (raw : Option RawKeep) (k : Option KeepTree) → Agree a t → Brings (names_of raw) k → Agree (in_branch raw a) (record t { meet = k })
agree_branch a t raw k h brings = record { next = h.next; break = h.break; meet = brings; end = h.end }

agree_loop : (a : Aims) (t : Keeps_ahead) (raw : RawKeep) (left : Option RawKeep) (k : KeepTree) (l : Option KeepTree) → Agree a t → length k.names ≡ length raw.names → Brings (names_of left) l → Agree (in_loop raw left a) (record t { next = Some k; break = l; meet = None })
agree_loop a t raw left k l h same brings = record { next = ap Some (sym same); break = brings; meet = tt; end = h.end }

-- ---- lists

record ManyGo (x : MachineWithProgram) (a : Aims) (held : List Then) (s : ProgramScope) (fs : List Then) (next : ProgramScope) : Type 0 where
  added : List Then
  are : fs ≡ held ++ added
  adds : Adds x a (before added) s next

no_more : (x : MachineWithProgram) (a : Aims) (s : ProgramScope) → InThread x s → Adds x a (λ rest. rest) s s
no_more x a s h = record { ps = none; ls = none; goes = rests_here s; at = h; proofs = λ rest n. refl; locals = λ rest held n. refl; named = λ t agree own among rest is. is }

one_then : (x : MachineWithProgram) (a : Aims) (f g : Then) (s b next : ProgramScope) → Adds x a f s b → Adds x a g b next → Adds x a (λ rest. f (g rest)) s next
one_then x a f g s b next one two = record {
  ps = λ n. one.ps n || two.ps n;
  ls = λ n. one.ls n || two.ls n;
  goes = goes_then s b next one.ps one.ls none none two.ps two.ls none none (λ n. one.ps n || two.ps n) (λ n. one.ls n || two.ls n) none none
      (λ n z. swap (one.ps n) (two.ps n) z) (λ n z. swap (one.ls n) (two.ls n) z) (λ n z. refl) (λ n z. refl) one.goes two.goes;
  at = two.at;
  proofs = λ rest n. one.proofs (g rest) n ∙ ap (λ z. one.ps n || z) (two.proofs rest n) ∙ sym (or_assoc (one.ps n) (two.ps n) (is_in n (proof_names rest)));
  locals = λ rest held n. one.locals (g rest) held n ∙ ap (λ z. one.ls n || z) (two.locals rest held n) ∙ sym (or_assoc (one.ls n) (two.ls n) (is_in n (assigned_locals rest held)));
  named = λ t agree own among rest is. one.named t agree own (among_before b next two.ps two.ls none none two.goes own among) (g rest) (two.named t agree own among rest is);
}

statements_go : (x : MachineWithProgram) (fs : List Statement) → AllByRecursion (GoodStatement x) fs → (a : Aims) (held : List Then) (s : ProgramScope) → InThread x s → IfOk (statements_from a held s fs) (λ r. ManyGo x a held s r.0 r.1)
unfolding statements_from
statements_go x [] good a held s h = record { added = []; are = sym (append-nil held); adds = no_more x a s h }
statements_go x (f ∷ fs) good a held s h =
    after_ok _ (λ r. Adds x a r.0 s r.1) (f a s) _ (good.0 a s h) (λ y one.
    weaker _ _ (statements_from a (held ++ y.0 ∷ []) y.1 fs) (statements_go x fs good.1 a (held ++ y.0 ∷ []) y.1 one.at) (λ r rest. record {
      added = y.0 ∷ rest.added;
      are = rest.are ∙ append_assoc held (y.0 ∷ []) rest.added;
      adds = one_then x a y.0 (before rest.added) s y.1 r.1 one rest.adds;
    }))

pub body_good : (x : MachineWithProgram) (b : RawList-F RightSide Kind Tail Kind Body Kind Statement Tail) → AllByRecursion (GoodStatement x) b.statements → GoodBody x (body_of b)
body_good x b good a s h =
    after_ok _ (λ r. ManyGo x a [] s r.0 r.1) (statements_from a [] s b.statements) _ (statements_go x b.statements good a [] s h) (λ ys go.
    let w = wrap_place x (knows_wrap s) ys.1 go.adds.at in
    let end : ListTree = Brace b.end_line in record {
      ps = go.adds.ps;
      ls = go.adds.ls;
      goes = then_rests s ys.1 (with_wrap (knows_wrap s) ys.1) go.adds.ps go.adds.ls none none go.adds.goes w.0;
      at = w.1;
      proofs = λ n. ap (λ fs. is_in n (proof_names (before fs end))) go.are ∙ go.adds.proofs end n ∙ or_false (go.adds.ps n);
      locals = λ held n. ap (λ fs. is_in n (assigned_locals (before fs end) held)) go.are ∙ go.adds.locals end held n;
      named = λ t agree own among. ap (λ fs. list_is_named x own t (before fs end)) go.are ∙ go.adds.named t agree own (λ n is. among n (w.0.locals n ∙ is)) end refl;
    })

-- ---- branches

-- what the branches and the keep behind them add together
abbrev three : (ℕ → Bool) → (ℕ → Bool) → (ℕ → Bool) → ℕ → Bool
three p q r n = (p n || q n) || r n

three_join : (p q r z : Bool) → (r || (q || (p || z))) ≡ (((p || q) || r) || z)
three_join p q r z = ap (λ y. r || y) (swap p q z) ∙ swap (p || q) r z

-- the names of a keep come first in the list of names, behind both branches in the place
names_join : (p q r z : Bool) → (r || (p || (q || z))) ≡ (((p || q) || r) || z)
names_join true true true z = refl
names_join true true false z = refl
names_join true false true z = refl
names_join true false false z = refl
names_join false true true z = refl
names_join false true false z = refl
names_join false false true z = refl
names_join false false false z = refl

locals_join : (p q z : Bool) → (q || (p || z)) ≡ (((p || q) || false) || z)
locals_join true true z = refl
locals_join true false z = refl
locals_join false true z = refl
locals_join false false z = refl

goes_three : (s a b c : ProgramScope) (p l q m r : ℕ → Bool) → Goes s a p l none none → Goes a b q m none none → Goes b c r none none none → Goes s c (three p q r) (three l m none) none none
goes_three s a b c p l q m r one two last =
    goes_then s b c (λ n. p n || q n) (λ n. l n || m n) none none r none none none (three p q r) (three l m none) none none
    (λ n z. swap (p n || q n) (r n) z) (λ n z. ap (λ y. y || z) (sym (or_false (l n || m n)))) (λ n z. refl) (λ n z. refl)
    (goes_then s a b p l none none q m none none (λ n. p n || q n) (λ n. l n || m n) none none (λ n z. swap (p n) (q n) z) (λ n z. swap (l n) (m n) z) (λ n z. refl) (λ n z. refl) one two)
    last

in_three : (n : ℕ) (k p q r : List ℕ) → is_in n (k ++ p ++ q ++ r) ≡ (is_in n k || (is_in n p || (is_in n q || is_in n r)))
in_three n k p q r =
    list_any-append (nat_eq n) (k ++ p ++ q) r
    ∙ ap (λ z. z || is_in n r) (list_any-append (nat_eq n) (k ++ p) q ∙ ap (λ z. z || is_in n q) (list_any-append (nat_eq n) k p))
    ∙ or_assoc (is_in n k || is_in n p) (is_in n q) (is_in n r) ∙ or_assoc (is_in n k) (is_in n p) (is_in n q || is_in n r)

pub if_good : (x : MachineWithProgram) (y : RawIf-F RightSide Kind Tail Kind Body Kind Statement Tail) → GoodBody x y.yes → GoodBody x y.no → GoodKind x (if_in y)
if_good x y first second line a s h =
    after_ok _ _ (condition_in s y.condition) _ (condition_named s y.condition) (λ c cond.
    after_ok _ (λ r. BodyGo x (in_branch y.joined a) r.0 s r.1) (y.yes (in_branch y.joined a) s) _ (first (in_branch y.joined a) s h) (λ p one.
    after_ok _ (λ r. BodyGo x (in_branch y.joined a) r.0 p.1 r.1) (y.no (in_branch y.joined a) p.1) _ (second (in_branch y.joined a) p.1 one.at) (λ q two.
    after_ok _ (λ r. KeepIfGo x q.1 y.joined r.0 r.1) (keep_if q.1 y.joined) _ (keep_if_goes x q.1 y.joined two.at) (λ k kept.
    let all = goes_three s p.1 q.1 k.1 one.ps one.ls two.ps two.ls (λ n. is_in n (bound_by_keep k.0)) one.goes two.goes kept.stays.goes in record {
      ps = three one.ps two.ps (λ n. is_in n (bound_by_keep k.0));
      ls = three one.ls two.ls none;
      goes = all;
      at = at_stays x false (words_at InList) q.1 k.1 (λ n. is_in n (bound_by_keep k.0)) none none none two.at kept.stays;
      proofs = λ rest n. in_three n (bound_by_keep k.0) (proof_names p.0) (proof_names q.0) (proof_names rest)
          ∙ ap (λ z. is_in n (bound_by_keep k.0) || (z || (is_in n (proof_names q.0) || is_in n (proof_names rest)))) (one.proofs n)
          ∙ ap (λ z. is_in n (bound_by_keep k.0) || (one.ps n || (z || is_in n (proof_names rest)))) (two.proofs n)
          ∙ names_join (one.ps n) (two.ps n) (is_in n (bound_by_keep k.0)) (is_in n (proof_names rest));
      locals = λ rest held n. added_before (λ xs. assigned_locals q.0 (assigned_locals p.0 xs)) (three one.ls two.ls none n) rest held n
          (two.locals (assigned_locals p.0 held) n ∙ ap (λ z. two.ls n || z) (one.locals held n) ∙ locals_join (one.ls n) (two.ls n) (is_in n held));
      named = λ t agree own among rest is.
          let later = among_before q.1 k.1 (λ n. is_in n (bound_by_keep k.0)) none none none kept.stays.goes own among in
          let between = among_before p.1 q.1 two.ps two.ls none none two.goes own later in
          let now = among_before s p.1 one.ps one.ls none none one.goes own between in
          let inside = agree_branch a t y.joined k.0 agree kept.brings in
          and_from (cond_is_named own c) _ (cond own now)
          (and_from (keep_here x k.0) _ kept.named
          (and_from (list_is_named x own (record t { meet = k.0 }) p.0) _ (one.named (record t { meet = k.0 }) inside own between)
          (and_from (list_is_named x own (record t { meet = k.0 }) q.0) _ (two.named (record t { meet = k.0 }) inside own later) is)));
    }))))

-- ---- loops

loop_join : (k b l z : Bool) → (k || (l || (b || z))) ≡ (((k || b) || l) || z)
loop_join true b l z = refl
loop_join false true true z = refl
loop_join false true false z = refl
loop_join false false true z = refl
loop_join false false false z = refl

pub loop_good : (x : MachineWithProgram) (y : RawLoop-F RightSide Kind Tail Kind Body Kind Statement Tail) → GoodBody x y.body → GoodKind x (loop_in y)
loop_good x y inner line a s h =
    let w0 = wrap_place x false s h in
    let s0 = with_wrap false s in
    after_ok _ (λ r. KeepGo x (words_at InList) false s0 y.keep r.0 r.1) (keep_in false s0 y.keep) _ (keep_goes x false (words_at InList) false s0 y.keep w0.1) (λ k kept.
    let ks = keep_plain x (words_at InList) s0 y.keep k.0 k.1 kept in
    let h1 : InThread x k.1 = at_stays x false (words_at InList) s0 k.1 (λ n. is_in n k.0.names) none none none w0.1 ks in
    let w1 = wrap_place x (knows_wrap s) k.1 h1 in
    let s1 = with_wrap (knows_wrap s) k.1 in
    after_ok _ _ (jump_in (Some (length y.keep.names)) y.from_line s1 (record { args = y.args; scripts = y.scripts })) _ (jump_goes x (Some (length y.keep.names)) y.from_line s1 (record { args = y.args; scripts = y.scripts }) w1.1) (λ j jumps.
    let h2 : InThread x j.1 = at_stays x false (words_at InList) s1 j.1 none none none none w1.1 jumps.1 in
    let w2 = wrap_place x false j.1 h2 in
    let s2 = with_wrap false j.1 in
    after_ok _ (λ r. BodyGo x (in_loop y.keep y.after a) r.0 s2 r.1) (y.body (in_loop y.keep y.after a) s2) _ (inner (in_loop y.keep y.after a) s2 w2.1) (λ b went.
    after_ok _ (λ r. KeepIfGo x b.1 y.after r.0 r.1) (keep_if b.1 y.after) _ (keep_if_goes x b.1 y.after went.at) (λ l left.
    let h4 : InThread x l.1 = at_stays x false (words_at InList) b.1 l.1 (λ n. is_in n (bound_by_keep l.0)) none none none went.at left.stays in
    let w3 = wrap_place x (knows_wrap s) l.1 h4 in
    let end = with_wrap (knows_wrap s) l.1 in
    let first : Goes s s2 (λ n. is_in n k.0.names) none none none =
    rests_then s s0 s2 (λ n. is_in n k.0.names) none none none w0.0 (then_rests s0 k.1 s2 (λ n. is_in n k.0.names) none none none ks.goes
    (rests_then k.1 s1 s2 none none none none w1.0 (rests_then s1 j.1 s2 none none none none jumps.1.goes w2.0))) in
    let last : Goes b.1 end (λ n. is_in n (bound_by_keep l.0)) none none none = then_rests b.1 l.1 end (λ n. is_in n (bound_by_keep l.0)) none none none left.stays.goes w3.0 in record {
      ps = three (λ n. is_in n k.0.names) went.ps (λ n. is_in n (bound_by_keep l.0));
      ls = three none went.ls none;
      goes = goes_three s s2 b.1 end (λ n. is_in n k.0.names) none went.ps went.ls (λ n. is_in n (bound_by_keep l.0)) first went.goes last;
      at = w3.1;
      proofs = λ rest n. in_three n k.0.names (bound_by_keep l.0) (proof_names b.0) (proof_names rest)
          ∙ ap (λ z. is_in n k.0.names || (is_in n (bound_by_keep l.0) || (z || is_in n (proof_names rest)))) (went.proofs n)
          ∙ loop_join (is_in n k.0.names) (went.ps n) (is_in n (bound_by_keep l.0)) (is_in n (proof_names rest));
      locals = λ rest held n. added_before (assigned_locals b.0) (three none went.ls none n) rest held n (went.locals held n ∙ ap (λ z. z || is_in n held) (sym (or_false (went.ls n))));
      named = λ t agree own among rest is.
          let later = among_before b.1 end (λ n. is_in n (bound_by_keep l.0)) none none none last own among in
          and_from (keep_is_named x (known_here x) k.0) _ kept.named
          (and_from (jump_is_named (known_here x) j.0 (Some k.0)) _ (jumps.0 (Some k.0) (ap Some (sym kept.many)))
          (and_from (keep_here x l.0) _ left.named
          (and_from (list_is_named x own (record t { next = Some k.0; break = l.0; meet = None }) b.0) _ (went.named (record t { next = Some k.0; break = l.0; meet = None }) (agree_loop a t y.keep y.after k.0 l.0 agree kept.many left.brings) own later) is)));
    }))))

-- ---- operations on words

-- an operation on a word that was declared
record OperationGo (x : MachineWithProgram) (s : ProgramScope) (o : Operation) (next : ProgramScope) : Type 0 where
  word : WordTree
  there : named_word o.word (words_in x.program.decls) ≡ Some word
  counts : Counts word o.counts
  op : WithLocals s (λ own. op_is_named own o.op)
  index : WithLocals s (λ own. index_is_named own o.index)
  keeps : Keeps s next

-- what is among the locals behind an index is so before it
among_kept : (s next : ProgramScope) → Keeps s next → (own : List ℕ) → Among s own → Among next own
among_kept s next keeps own among n is = among n (sym (keeps.goes.locals n) ∙ is)

module _ (x : MachineWithProgram) where
  load_goes : (s : ProgramScope) (r : RawLoad) → InThread x s → IfOk (load_in s r) (λ q. OperationGo x s q.0 q.1)
  unfolding load_in
  load_goes s r h =
      after_ok _ _ (word_in s r.word) _ (word_is x false (words_at InList) s h r.word) (λ c is.
      after_ok _ _ (index_in s r.index) _ (index_named s r.index) (λ i index. record { word = is.0; there = is.1; counts = is.2; op = λ own among. refl; index = index.0; keeps = index.1 }))

  change_goes : (make : Opd → WordOp) → ((own : List ℕ) (o : Opd) → op_is_named own (make o) ≡ operand_is_named own o) → (s : ProgramScope) (r : RawChange) → InThread x s → IfOk (change_in make s r) (λ q. OperationGo x s q.0 q.1)
  unfolding change_in
  change_goes make same s r h =
      after_ok _ _ (word_in s r.word) _ (word_is x false (words_at InList) s h r.word) (λ c is.
      after_ok _ _ (index_in s r.index) _ (index_named s r.index) (λ i index.
      after_ok _ _ (operand_in i.1 r.operand) _ (operand_named i.1 r.operand) (λ o operand. record {
        word = is.0;
        there = is.1;
        counts = is.2;
        op = λ own among. same own o ∙ operand own (among_kept s i.1 index.1 own among);
        index = index.0;
        keeps = index.1;
      })))

  cas_goes : (s : ProgramScope) (r : RawCas) → InThread x s → IfOk (cas_in s r) (λ q. OperationGo x s q.0 q.1)
  unfolding cas_in
  cas_goes s r h =
      after_ok _ _ (word_in s r.word) _ (word_is x false (words_at InList) s h r.word) (λ c is.
      after_ok _ _ (index_in s r.index) _ (index_named s r.index) (λ i index.
      after_ok _ _ (two_operands i.1 r.expected r.changed) _ (two_named i.1 r.expected r.changed) (λ p operands. record {
        word = is.0;
        there = is.1;
        counts = is.2;
        op = λ own among. operands own (among_kept s i.1 index.1 own among);
        index = index.0;
        keeps = index.1;
      })))

  operation_goes : (s : ProgramScope) (r : RawWordOperation) → InThread x s → IfOk (word_operation_in s r) (λ q. OperationGo x s q.0 q.1)
  unfolding word_operation_in
  operation_goes s (word.Load r) h = load_goes s r h
  operation_goes s (word.Swap r) h = change_goes op.Swap (λ own o. refl) s r h
  operation_goes s (word.Add r) h = change_goes op.Add (λ own o. refl) s r h
  operation_goes s (word.Sub r) h = change_goes op.Sub (λ own o. refl) s r h
  operation_goes s (word.Cas r) h = cas_goes s r h

  -- ---- how they end

  atomic_named : (w : WordTree) (o : AtomicTree) (own : List ℕ) (blocks : WordTree → Bool) → named_word o.word (words_in x.program.decls) ≡ Some w → op_is_named own o.op ≡ true → index_is_named own o.index ≡ true → blocks w ≡ true → atomic_is_named x own o blocks ≡ true
  atomic_named w o own blocks there one two is = and_from (op_is_named own o.op) _ one (and_from (index_is_named own o.index) _ two (some_is (named_word o.word (words_in x.program.decls)) w blocks there is))

  pub plain_tail : GoodTail x (tail_in RawTail-F.Plain)
  plain_tail w c counts a s h = record {
    ps = none;
    ls = none;
    goes = rests_here s;
    at = h;
    proofs = λ o line rest n. refl;
    locals = λ o line rest held n. refl;
    named = λ o line there t agree own among one two rest is. and_from (atomic_is_named x own o _) (list_is_named x own t rest) (atomic_named w o own _ there one two refl) is;
  }

  pub block_tail : (xs : List _) → GoodTail x (tail_in (RawTail-F.Block xs))
  block_tail xs w c counts a s h =
      after_ok _ (λ r. BlockGo x w s r.0 r.1) (proof_block c s xs) _ (block_goes x w c counts s xs h) (λ r go. record {
        ps = λ n. is_in n (bound_by_steps r.0);
        ls = none;
        goes = go.goes;
        at = go.at;
        proofs = λ o line rest n. list_any-append (nat_eq n) (bound_by_steps r.0) (proof_names rest);
        locals = λ o line rest held n. refl;
        named = λ o line there t agree own among one two rest is. and_from (atomic_is_named x own o (λ v. steps_are_named x (AtWord v) r.0)) (list_is_named x own t rest) (atomic_named w o own (λ v. steps_are_named x (AtWord v) r.0) there one two go.named) is;
      })

-- first the two blocks, then the keep and the branches, as the list has them
blocks_join : (f g k p q : Bool) → ((((f || p) || g) || q) || k) ≡ ((((f || g) || k) || p) || q)
blocks_join true true true true true = refl
blocks_join true true true true false = refl
blocks_join true true true false true = refl
blocks_join true true true false false = refl
blocks_join true true false true true = refl
blocks_join true true false true false = refl
blocks_join true true false false true = refl
blocks_join true true false false false = refl
blocks_join true false true true true = refl
blocks_join true false true true false = refl
blocks_join true false true false true = refl
blocks_join true false true false false = refl
blocks_join true false false true true = refl
blocks_join true false false true false = refl
blocks_join true false false false true = refl
blocks_join true false false false false = refl
blocks_join false true true true true = refl
blocks_join false true true true false = refl
blocks_join false true true false true = refl
blocks_join false true true false false = refl
blocks_join false true false true true = refl
blocks_join false true false true false = refl
blocks_join false true false false true = refl
blocks_join false true false false false = refl
blocks_join false false true true true = refl
blocks_join false false true true false = refl
blocks_join false false true false true = refl
blocks_join false false true false false = refl
blocks_join false false false true true = refl
blocks_join false false false true false = refl
blocks_join false false false false true = refl
blocks_join false false false false false = refl

in_five : (n : ℕ) (f g k p q : List ℕ) → is_in n (f ++ g ++ k ++ p ++ q) ≡ ((((is_in n f || is_in n g) || is_in n k) || is_in n p) || is_in n q)
in_five n f g k p q =
    list_any-append (nat_eq n) (f ++ g ++ k ++ p) q
    ∙ ap (λ z. z || is_in n q) (list_any-append (nat_eq n) (f ++ g ++ k) p
    ∙ ap (λ z. z || is_in n p) (list_any-append (nat_eq n) (f ++ g) k
    ∙ ap (λ z. z || is_in n k) (list_any-append (nat_eq n) f g)))

-- one after another, each behind those before it
goes_more : (s a b : ProgramScope) (p l q m : ℕ → Bool) → Goes s a p l none none → Goes a b q m none none → Goes s b (λ n. p n || q n) (λ n. l n || m n) none none
goes_more s a b p l q m one two = goes_then s a b p l none none q m none none (λ n. p n || q n) (λ n. l n || m n) none none (λ n z. swap (p n) (q n) z) (λ n z. swap (l n) (m n) z) (λ n z. refl) (λ n z. refl) one two

when_locals : (p q z : Bool) → (q || (p || z)) ≡ (((((false || p) || false) || q) || false) || z)
when_locals true true z = refl
when_locals true false z = refl
when_locals false true z = refl
when_locals false false z = refl

pub when_good : (x : MachineWithProgram) (y : RawWhen-F RightSide Kind Tail Kind Body Kind Statement Tail) → GoodBody x y.yes → GoodBody x y.no → GoodTail x (when_in y)
when_good x y first second w c counts a s h =
    after_ok _ _ (condition_in s y.condition) _ (condition_named s y.condition) (λ d cond.
    after_ok _ (λ r. BlockGo x w s r.0 r.1) (proof_block c s y.yes_proof) _ (block_goes x w c counts s y.yes_proof h) (λ ps front.
    after_ok _ (λ r. BodyGo x (in_branch y.joined a) r.0 ps.1 r.1) (y.yes (in_branch y.joined a) ps.1) _ (first (in_branch y.joined a) ps.1 front.at) (λ p one.
    after_ok _ (λ r. BlockGo x w p.1 r.0 r.1) (proof_block c p.1 y.no_proof) _ (block_goes x w c counts p.1 y.no_proof one.at) (λ qs back.
    after_ok _ (λ r. BodyGo x (in_branch y.joined a) r.0 qs.1 r.1) (y.no (in_branch y.joined a) qs.1) _ (second (in_branch y.joined a) qs.1 back.at) (λ q two.
    after_ok _ (λ r. KeepIfGo x q.1 y.joined r.0 r.1) (keep_if q.1 y.joined) _ (keep_if_goes x q.1 y.joined two.at) (λ k kept.
    let F : ℕ → Bool = λ n. is_in n (bound_by_steps ps.0) in
    let G : ℕ → Bool = λ n. is_in n (bound_by_steps qs.0) in
    let K : ℕ → Bool = λ n. is_in n (bound_by_keep k.0) in
    let g1 = goes_more s ps.1 p.1 F none one.ps one.ls front.goes one.goes in
    let g2 = goes_more s p.1 qs.1 (λ n. F n || one.ps n) (λ n. false || one.ls n) G none g1 back.goes in
    let g3 = goes_more s qs.1 q.1 (λ n. (F n || one.ps n) || G n) (λ n. (false || one.ls n) || false) two.ps two.ls g2 two.goes in
    let g4 = goes_more s q.1 k.1 (λ n. ((F n || one.ps n) || G n) || two.ps n) (λ n. ((false || one.ls n) || false) || two.ls n) K none g3 kept.stays.goes in
    let all : List ℕ = bound_by_steps ps.0 ++ bound_by_steps qs.0 ++ bound_by_keep k.0 ++ proof_names p.0 ++ proof_names q.0 in record {
      ps = λ n. is_in n all;
      ls = λ n. (((false || one.ls n) || false) || two.ls n) || false;
      goes = goes_as s k.1 (λ n. (((F n || one.ps n) || G n) || two.ps n) || K n) _ none none (λ n. is_in n all) (λ n. (((false || one.ls n) || false) || two.ls n) || false) none none
          (λ n. blocks_join (F n) (G n) (K n) (one.ps n) (two.ps n)
          ∙ ap (λ z. (((F n || G n) || K n) || z) || two.ps n) (sym (one.proofs n))
          ∙ ap (λ z. (((F n || G n) || K n) || is_in n (proof_names p.0)) || z) (sym (two.proofs n))
          ∙ sym (in_five n (bound_by_steps ps.0) (bound_by_steps qs.0) (bound_by_keep k.0) (proof_names p.0) (proof_names q.0)))
          (λ n. refl) (λ n. refl) (λ n. refl) g4;
      at = at_stays x false (words_at InList) q.1 k.1 K none none none two.at kept.stays;
      proofs = λ o line rest n. list_any-append (nat_eq n) all (proof_names rest);
      locals = λ o line rest held n. added_before (λ xs. assigned_locals q.0 (assigned_locals p.0 xs)) ((((false || one.ls n) || false) || two.ls n) || false) rest (with_local_if o.local held) n
          (two.locals (assigned_locals p.0 (with_local_if o.local held)) n ∙ ap (λ z. two.ls n || z) (one.locals (with_local_if o.local held) n) ∙ when_locals (one.ls n) (two.ls n) (is_in n (with_local_if o.local held)));
      named = λ o line there t agree own among good index rest is.
          let later = among_before q.1 k.1 K none none none kept.stays.goes own among in
          let behind = among_before qs.1 q.1 two.ps two.ls none none two.goes own later in
          let between = among_before p.1 qs.1 G none none none back.goes own behind in
          let before_it = among_before ps.1 p.1 one.ps one.ls none none one.goes own between in
          let now = among_before s ps.1 F none none none front.goes own before_it in
          let inside = agree_branch a t y.joined k.0 agree kept.brings in
          let blocks : WordTree → Bool = λ v. steps_are_named x (AtWord v) ps.0 && steps_are_named x (AtWord v) qs.0 in
          and_from (atomic_is_named x own o blocks && cond_is_named own d) _ (and_from (atomic_is_named x own o blocks) (cond_is_named own d) (atomic_named x w o own blocks there good index (and_from (steps_are_named x (AtWord w) ps.0) (steps_are_named x (AtWord w) qs.0) front.named back.named)) (cond own now))
          (and_from (keep_here x k.0) _ kept.named
          (and_from (list_is_named x own (record t { meet = k.0 }) p.0) _ (one.named (record t { meet = k.0 }) inside own between)
          (and_from (list_is_named x own (record t { meet = k.0 }) q.0) _ (two.named (record t { meet = k.0 }) inside own later) is)));
    }))))))

-- ---- statements of words

pub assigned_good : (x : MachineWithProgram) (n : RawName) (o : RawAtomic) (tail : Tail) → GoodTail x tail → GoodKind x (assigned_in n o tail)
assigned_good x n o tail good line a s h =
    after_ok _ _ (may_assign s n) _ (may_assign_is s n) (λ k may.
    after_ok _ (λ q. OperationGo x s q.0 q.1) (word_operation_in s o.operation) _ (operation_goes x s o.operation h) (λ p on_word.
    let h1 : InThread x p.1 = at_stays x false (words_at InList) s p.1 none none none none h on_word.keeps in
    let wrapped = wrap_if_place x (wraps o.operation) p.1 h1 in
    let s1 = wrap_if (wraps o.operation) p.1 in
    after_ok _ _ (assign_name s1 n) _ (assigned_goes x s s1 n k may.0 may.1 (rests_then s p.1 s1 none none none none on_word.keeps.goes wrapped.0) wrapped.1) (λ s2 went.
    after_ok _ (λ r. TailGo x on_word.word a r.0 s2 r.1) (tail p.0.counts a s2) _ (good on_word.word p.0.counts on_word.counts a s2 went.1) (λ t ends.
    let at : AtomicTree = atomic_of p.0 (Some k) o.label in record {
      ps = ends.ps;
      ls = λ j. only k j || ends.ls j;
      goes = goes_then s s2 t.1 none (only k) none none ends.ps ends.ls none none ends.ps (λ j. only k j || ends.ls j) none none (λ j z. refl) (λ j z. swap (only k j) (ends.ls j) z) (λ j z. refl) (λ j z. refl) went.0 ends.goes;
      at = ends.at;
      proofs = λ rest j. ends.proofs at line rest j;
      locals = λ rest held j. ends.locals at line rest held j ∙ ap (λ z. ends.ls j || z) (one_local k rest held j) ∙ swap (only k j) (ends.ls j) (is_in j (assigned_locals rest held));
      named = λ v agree own among rest is.
          let behind = among_before s2 t.1 ends.ps ends.ls none none ends.goes own among in
          let now = among_before s s2 none (only k) none none went.0 own behind in
          ends.named at line on_word.there v agree own among (on_word.op own now) (on_word.index own now) rest is;
    }))))

pub stored_good : (x : MachineWithProgram) (r : RawStore) (tail : Tail) → GoodTail x tail → GoodKind x (stored_in r tail)
stored_good x r tail good line a s h =
    after_ok _ (λ q. OperationGo x s q.0 q.1) (change_in op.Store s r.change) _ (change_goes x op.Store (λ own o. refl) s r.change h) (λ p on_word.
    let h1 : InThread x p.1 = at_stays x false (words_at InList) s p.1 none none none none h on_word.keeps in
    after_ok _ (λ q. TailGo x on_word.word a q.0 p.1 q.1) (tail p.0.counts a p.1) _ (good on_word.word p.0.counts on_word.counts a p.1 h1) (λ t ends.
    let at : AtomicTree = atomic_of p.0 None r.label in record {
      ps = ends.ps;
      ls = ends.ls;
      goes = rests_then s p.1 t.1 ends.ps ends.ls none none on_word.keeps.goes ends.goes;
      at = ends.at;
      proofs = λ rest j. ends.proofs at line rest j;
      locals = λ rest held j. ends.locals at line rest held j;
      named = λ v agree own among rest is.
          let now = among_before s p.1 none none none none on_word.keeps.goes own (among_before p.1 t.1 ends.ps ends.ls none none ends.goes own among) in
          ends.named at line on_word.there v agree own among (on_word.op own now) (on_word.index own now) rest is;
    }))
