-- Statements without lists that are read keep the names.
use Rattle.std.proofs.Common.{◌≡◌, ℕ, ◌&&◌, ◌||◌, Bool, true, false, List, [], length, nat_eq, Option, Some, None, is_some, Ok, refl, sym, ap, ◌∙◌}
use Rattle.std.specs.List.{list_all}
use Rattle.std.specs.Result.{IfOk}
use Rattle.std.proofs.lemmas.Bool.{eq-eqb, eqb-true, and_from, or_right}
use Rattle.std.proofs.lemmas.List.Folds.{list_any-append}
use Rattle.sync_machine.specs.Naming.{is_in}
use Rattle.sync_parse_exprs.specs.declared.expressions.Special.{Special}
use Rattle.sync_parse_exprs.specs.declared.expressions.Special.TheVariants as special
use Rattle.sync_parse_exprs.specs.declared.raw_names.RawName.{RawName}
use Rattle.sync_parse_programs.specs.declared.operands.RawOperand.{RawOperand}
use Rattle.sync_parse_programs.specs.declared.operands.RawCalculation.{RawCalculation}
use Rattle.sync_parse_programs.specs.declared.proof_statements.RawPlainProof.{RawPlainProof}
use Rattle.sync_parse_programs.specs.declared.statements.RawRead.{RawRead}
use Rattle.sync_parse_programs.specs.declared.statements.RawPeek.{RawPeek}
use Rattle.sync_parse_programs.specs.declared.statements.RawWrite.{RawWrite}
use Rattle.sync_parse_programs.specs.declared.statements.RawJump.{RawJump}
use Rattle.sync_thread.specs.Control.{Next, Break, Meet, End}
use Rattle.sync_thread.specs.Programs.{WordTree, IndexTree, AtomicTree, KeepTree, JumpTree, ListTree}
use Rattle.sync_thread.specs.Programs as tree
use Rattle.sync_thread.specs.Arrays.{cells_named}
use Rattle.sync_thread.specs.Views.{Then}
use Rattle.sync_thread_machine.specs.MachineWithProgram.{MachineWithProgram, fields_of, decls_of}
use Rattle.sync_typing.specs.Lists.{assigned_locals}
use Rattle.sync_typing.specs.Names.{Aims as Keeps_ahead, is_name, if_there, as_many, is_number, known_here, jump_is_named, InList, words_at, operand_is_named, calc_is_named, index_is_named, is_cell as is_cell_name, may_peek, proof_is_named, shared_is_named, list_is_named, proof_names, bound_by_proof}
use Rattle.sync_read_names.specs.Scopes.{knows_special, special_number, is_assigned}
use Rattle.sync_read.specs.Scripts.{numbers_from}
use Rattle.sync_read.proofs.Chains.{after_ok, if_ok, weaker}
use Rattle.sync_read_programs.specs.declared.scopes.Declared.{Declared}
use Rattle.sync_read_programs.specs.declared.scopes.Declared.TheVariants as declared
use Rattle.sync_read_programs.specs.declared.scopes.Purpose.TheVariants as purpose
use Rattle.sync_read_programs.specs.declared.scopes.Aims.{Aims}
use Rattle.sync_read_programs.specs.declared.scopes.ProgramScope.{ProgramScope}
use Rattle.sync_read_programs.specs.Scopes.{standing_of, is_cell, is_proof_name, as_many_if, may_assign, assign_name, cell_in, with_wrap}
use Rattle.sync_read_programs.specs.Operands.{token_name, operand_in, calculation_in, scripts_from, index_in}
use Rattle.sync_read_programs.specs.ProofStatements.{exchange_in, plain_in}
use Rattle.sync_read_programs.specs.Statements.{calculation_wraps, wrap_if, set_in, read_in, peek_in, write_in, print_in, jump_in, jumped, proof_statement}
use Rattle.sync_read_laws.proofs.Places.{At, IsDeclared, Goes, Rests, Keeps, rests_here, keeps_here, keeps_then, goes_as, rests_then, at_stays, at_goes, at_agrees, none}
use Rattle.sync_read_laws.proofs.Moves.{only, assign_goes, may_assign_is}
use Rattle.sync_read_laws.proofs.Parts.{Among, operand_named, calculation_named, index_named, numbers_named, token_name_is, scripts_keep}
use Rattle.sync_read_laws.proofs.ProofsRead.{exchange_named, via_peeks, ProofGo, plain_goes}
use Rattle.sync_read_laws.proofs.BlocksRead.{sight_rests}
use Rattle.sync_read_laws.proofs.Locals.{one_local}

abbrev pub InThread : MachineWithProgram → ProgramScope → Type 0
InThread x s = At x false (words_at InList) s

-- ---- keeps that jumps go to

-- so many values are brought to this keep, where there is one
abbrev pub Brings : Option ℕ → Option KeepTree → Type 0
Brings o None = Unit {0}
Brings o (Some k) = o ≡ Some (length k.names)

pub record Agree (a : Aims) (t : Keeps_ahead) : Type 0 where
  pub next : Brings a.next t.next
  pub break : Brings a.breaks t.break
  pub meet : Brings a.meet t.meet
  pub end : Brings a.end t.end

-- ---- what a statement adds

pub record Adds (x : MachineWithProgram) (a : Aims) (f : Then) (s next : ProgramScope) : Type 0 where
  pub ps : ℕ → Bool
  pub ls : ℕ → Bool
  pub goes : Goes s next ps ls none none
  pub at : InThread x next
  pub proofs : (rest : ListTree) (n : ℕ) → is_in n (proof_names (f rest)) ≡ (ps n || is_in n (proof_names rest))
  pub locals : (rest : ListTree) (held : List ℕ) (n : ℕ) → is_in n (assigned_locals (f rest) held) ≡ (ls n || is_in n (assigned_locals rest held))
  pub named : (t : Keeps_ahead) → Agree a t → (own : List ℕ) → Among next own → (rest : ListTree) → list_is_named x own t rest ≡ true → list_is_named x own t (f rest) ≡ true

-- what is among the locals later is so now
pub among_before : (s next : ProgramScope) (p l e t : ℕ → Bool) → Goes s next p l e t → (own : List ℕ) → Among next own → Among s own
among_before s next p l e t g own among n is = among n (g.locals n ∙ or_right (l n) (is_assigned s.scope n) is)

at_wrap : (x : MachineWithProgram) (b : Bool) (s : ProgramScope) → InThread x s → InThread x (with_wrap b s)
at_wrap x b s h = at_goes x false (words_at InList) (words_at InList) s (with_wrap b s) none none none none h (sight_rests s _) refl words where
  words : (v : Special) → knows_special (with_wrap b s).scope.sight v ≡ true → is_in (special_number v) (words_at InList) ≡ true
  words special.Value known = h.words special.Value known
  words special.Index known = h.words special.Index known
  words special.Old known = h.words special.Old known
  words special.New known = h.words special.New known
  words special.Wrap known = refl

pub wrap_place : (x : MachineWithProgram) (b : Bool) (s : ProgramScope) → InThread x s → Rests s (with_wrap b s) × InThread x (with_wrap b s)
wrap_place x b s h = (sight_rests s _, at_wrap x b s h)

pub wrap_if_place : (x : MachineWithProgram) (b : Bool) (s : ProgramScope) → InThread x s → Rests s (wrap_if b s) × InThread x (wrap_if b s)
wrap_if_place x true s h = wrap_place x true s h
wrap_if_place x false s h = (rests_here s, h)

-- ---- assignments

-- a local more, behind steps that name nothing
pub assigned_goes : (x : MachineWithProgram) (s a : ProgramScope) (n : RawName) (k : ℕ) → k ≡ n.name → is_proof_name s n.name ≡ false → Rests s a → InThread x a
    → IfOk (assign_name a n) (λ next. Goes s next none (only k) none none × InThread x next)
assigned_goes x s a n k is free rests h =
    weaker _ _ (assign_name a n) (assign_goes a n h.mine (rests.proofs n.name ∙ free)) (λ next went. (
      goes_as s next none (only n.name) none none none (only k) none none (λ j. refl) (λ j. ap (nat_eq j) (sym is)) (λ j. refl) (λ j. refl) (rests_then s a next none (only n.name) none none rests went.goes),
      at_stays x false (words_at InList) a next none (only n.name) none none h went,
    ))

module _ (x : MachineWithProgram) where
  abbrev Added : Aims → ProgramScope → Then × ProgramScope → Type 0
  Added a s r = Adds x a r.0 s r.1

  pub set_goes : (a : Aims) (n : RawName) (c : RawCalculation) (label : Option RawName) (line : ℕ) (s : ProgramScope) → InThread x s → IfOk (set_in n c label line s) (Added a s)
  unfolding set_in
  set_goes a n c label line s h =
      after_ok (Added a s) _ (may_assign s n) _ (may_assign_is s n) (λ k may.
      after_ok (Added a s) _ (calculation_in s c) _ (calculation_named s c) (λ y calc.
      let w = wrap_if_place x (calculation_wraps c) s h in
      after_ok (Added a s) _ (assign_name (wrap_if (calculation_wraps c) s) n) _ (assigned_goes x s (wrap_if (calculation_wraps c) s) n k may.0 may.1 w.0 w.1) (λ next went. record {
        ps = none;
        ls = only k;
        goes = went.0;
        at = went.1;
        proofs = λ rest j. refl;
        locals = λ rest held j. one_local k rest held j;
        named = λ t agree own among rest is. and_from (calc_is_named own y) (list_is_named x own t rest) (calc own (among_before s next none (only k) none none went.0 own among)) is;
      })))

  cell_is : (s : ProgramScope) → InThread x s → (n : RawName) → IfOk (cell_in s n) (λ c. is_cell_name x c ≡ true)
  cell_is s h n = if_ok (λ c. is_cell_name x c ≡ true) (is_cell (standing_of s n.name).declared) (Ok n.name) _ (by (standing_of s n.name).declared (h.declared n.name)) where
    by : (d : Declared) → IsDeclared x.program.decls n.name d → is_cell d ≡ true → is_some (cells_named n.name (decls_of x)) ≡ true
    by declared.Nothing is e = cc
    by (declared.Word c) is e = cc
    by declared.Cell is e = is

  pub read_goes : (a : Aims) (n : RawName) (r : RawRead) (line : ℕ) (s : ProgramScope) → InThread x s → IfOk (read_in n r line s) (Added a s)
  unfolding read_in
  read_goes a n r line s h =
      after_ok (Added a s) _ (may_assign s n) _ (may_assign_is s n) (λ k may.
      after_ok (Added a s) _ (cell_in s r.cell) _ (cell_is s h r.cell) (λ c cell.
      after_ok (Added a s) _ (index_in s r.index) _ (index_named s r.index) (λ i index.
      after_ok (Added a s) (λ q. Keeps i.1 q.1) (scripts_from [] i.1 r.scripts) _ (scripts_keep [] i.1 r.scripts) (λ ss keeps.
      let k2 : Keeps s ss.1 = keeps_then s i.1 ss.1 none none none none index.1 keeps in
      after_ok (Added a s) _ (assign_name ss.1 n) _ (assigned_goes x s ss.1 n k may.0 may.1 k2.goes (at_stays x false (words_at InList) s ss.1 none none none none h k2)) (λ next went. record {
        ps = none;
        ls = only k;
        goes = went.0;
        at = went.1;
        proofs = λ rest j. refl;
        locals = λ rest held j. one_local k rest held j;
        named = λ t agree own among rest is. and_from (shared_is_named x own (tree.Read k c i.0 (token_name r.permission) ss.0)) (list_is_named x own t rest)
            (and_from (is_cell_name x c) _ cell (and_from (index_is_named own i.0) (is_name (token_name r.permission)) (index.0 own (among_before s next none (only k) none none went.0 own among)) (token_name_is r.permission))) is;
      })))))

  pub peek_goes : (a : Aims) (n : RawName) (p : RawPeek) (line : ℕ) (s : ProgramScope) → InThread x s → IfOk (peek_in n p line s) (Added a s)
  unfolding peek_in
  peek_goes a n p line s h =
      after_ok (Added a s) _ (may_assign s n) _ (may_assign_is s n) (λ k may.
      after_ok (Added a s) _ (cell_in s p.cell) _ (cell_is s h p.cell) (λ c cell.
      after_ok (Added a s) _ (index_in s p.index) _ (index_named s p.index) (λ i index.
      let h1 : InThread x i.1 = at_stays x false (words_at InList) s i.1 none none none none h index.1 in
      after_ok (Added a s) _ (exchange_in purpose.Via i.1 p.via) _ (exchange_named x false (words_at InList) i.1 h1 may_peek purpose.Via (via_peeks (fields_of x)) p.via) (λ d call.
      let k2 : Keeps s d.1 = keeps_then s i.1 d.1 none none none none index.1 call.1 in
      after_ok (Added a s) _ (assign_name d.1 n) _ (assigned_goes x s d.1 n k may.0 may.1 k2.goes (at_stays x false (words_at InList) s d.1 none none none none h k2)) (λ next went. record {
        ps = none;
        ls = only k;
        goes = went.0;
        at = went.1;
        proofs = λ rest j. refl;
        locals = λ rest held j. one_local k rest held j;
        named = λ t agree own among rest is. and_from (shared_is_named x own (tree.Peek k c i.0 d.0)) (list_is_named x own t rest)
            (and_from (is_cell_name x c) _ cell (and_from (index_is_named own i.0) _ (index.0 own (among_before s next none (only k) none none went.0 own among)) call.0)) is;
      })))))

  -- a statement that binds nothing
  nothing_added : (a : Aims) (f : Then) (s next : ProgramScope) → InThread x s → Keeps s next
      → ((rest : ListTree) (n : ℕ) → is_in n (proof_names (f rest)) ≡ is_in n (proof_names rest))
      → ((rest : ListTree) (held : List ℕ) (n : ℕ) → is_in n (assigned_locals (f rest) held) ≡ is_in n (assigned_locals rest held))
      → ((t : Keeps_ahead) → Agree a t → (own : List ℕ) → Among s own → (rest : ListTree) → list_is_named x own t rest ≡ true → list_is_named x own t (f rest) ≡ true)
      → Adds x a f s next
  nothing_added a f s next h keeps proofs locals named = record {
    ps = none;
    ls = none;
    goes = keeps.goes;
    at = at_stays x false (words_at InList) s next none none none none h keeps;
    proofs = proofs;
    locals = locals;
    named = λ t agree own among rest is. named t agree own (among_before s next none none none none keeps.goes own among) rest is;
  }

  pub write_goes : (a : Aims) (w : RawWrite) (line : ℕ) (s : ProgramScope) → InThread x s → IfOk (write_in w line s) (Added a s)
  unfolding write_in
  write_goes a w line s h =
      after_ok (Added a s) _ (cell_in s w.cell) _ (cell_is s h w.cell) (λ c cell.
      after_ok (Added a s) _ (index_in s w.index) _ (index_named s w.index) (λ i index.
      after_ok (Added a s) _ (operand_in i.1 w.operand) _ (operand_named i.1 w.operand) (λ o operand.
      after_ok (Added a s) (λ q. Keeps i.1 q.1) (scripts_from [] i.1 w.scripts) _ (scripts_keep [] i.1 w.scripts) (λ ss keeps.
      nothing_added a _ s ss.1 h (keeps_then s i.1 ss.1 none none none none index.1 keeps) (λ rest n. refl) (λ rest held n. refl)
      (λ t agree own among rest is. and_from (shared_is_named x own (tree.Write c i.0 o (token_name w.permission) ss.0)) (list_is_named x own t rest)
      (and_from (is_cell_name x c) _ cell (and_from (index_is_named own i.0) _ (index.0 own among) (and_from (operand_is_named own o) (is_name (token_name w.permission)) (operand own (λ n is. among n (sym (index.1.goes.locals n) ∙ is))) (token_name_is w.permission)))) is)))))

  pub print_goes : (a : Aims) (label : RawName) (r : RawOperand) (line : ℕ) (s : ProgramScope) → InThread x s → IfOk (print_in label r line s) (Added a s)
  unfolding print_in
  print_goes a label r line s h =
      after_ok (Added a s) _ (operand_in s r) _ (operand_named s r) (λ o operand.
      nothing_added a _ s s h (keeps_here s) (λ rest n. refl) (λ rest held n. refl)
      (λ t agree own among rest is. and_from (operand_is_named own o) (list_is_named x own t rest) (operand own among) is))

  pub proof_goes : (a : Aims) (line : ℕ) (p : RawPlainProof) (s : ProgramScope) → InThread x s → IfOk (proof_statement line s p) (Added a s)
  unfolding proof_statement
  proof_goes a line p s h =
      after_ok (Added a s) (λ q. ProofGo x InList s q.0 q.1) (plain_in s p) _ (plain_goes x InList s h p) (λ q go. record {
        ps = λ n. is_in n (bound_by_proof q.0);
        ls = none;
        goes = go.stays.goes;
        at = at_stays x false (words_at InList) s q.1 (λ n. is_in n (bound_by_proof q.0)) none none none h go.stays;
        proofs = λ rest n. list_any-append (nat_eq n) (bound_by_proof q.0) (proof_names rest);
        locals = λ rest held n. refl;
        named = λ t agree own among rest is. and_from (proof_is_named x InList q.0) (list_is_named x own t rest) go.named is;
      })

  -- ---- jumps

  many_if : (o : Option ℕ) (found line : ℕ) → IfOk (as_many_if o found line) (λ n. (w : ℕ) → o ≡ Some w → found ≡ w)
  many_if None found line = λ w e. absurd cc
  many_if (Some v) found line = if_ok (λ n. (w : ℕ) → Some v ≡ Some w → found ≡ w) (nat_eq found v) (Ok found) _ (λ e w same. eqb-true found v e ∙ ap (of_some v) same) where
    of_some : ℕ → Option ℕ → ℕ
    of_some d None = d
    of_some d (Some n) = n

  pub jump_goes : (o : Option ℕ) (line : ℕ) (s : ProgramScope) (j : RawJump) → InThread x s → IfOk (jump_in o line s j) (λ r. ((k : Option KeepTree) → Brings o k → jump_is_named (known_here x) r.0 k ≡ true) × Keeps s r.1)
  unfolding jump_in
  jump_goes o line s j h =
      after_ok _ _ (as_many_if o (length j.args) line) _ (many_if o (length j.args) line) (λ n many.
      after_ok _ _ (numbers_from [] s.scope j.args) _ (numbers_named s.scope (known_here x) (at_agrees x false (words_at InList) s h) j.args) (λ ts named.
      after_ok _ (λ q. Keeps s q.1) (scripts_from [] s j.scripts) _ (scripts_keep [] s j.scripts) (λ ss keeps. (brought ts named.0 named.1 many, keeps)))) where
        brought : (ts : List _) → list_all (is_number (known_here x)) ts ≡ true → length ts ≡ length j.args → ((w : ℕ) → o ≡ Some w → length j.args ≡ w) → (k : Option KeepTree) → Brings o k → (list_all (is_number (known_here x)) ts && if_there (λ (t : KeepTree). as_many ts t.names) k) ≡ true
        brought ts is same many None brings = and_from (list_all (is_number (known_here x)) ts) true is refl
        brought ts is same many (Some k) brings = and_from (list_all (is_number (known_here x)) ts) (as_many ts k.names) is (eq-eqb (length ts) (length k.names) (same ∙ many (length k.names) brings))

  jumped_goes : (a : Aims) (make : JumpTree → ℕ → Then) (o : Option ℕ) (line : ℕ) (s : ProgramScope) (j : RawJump) → InThread x s → (aim : Keeps_ahead → Option KeepTree) → ((t : Keeps_ahead) → Agree a t → Brings o (aim t))
      → ((y : JumpTree) (rest : ListTree) (n : ℕ) → is_in n (proof_names (make y line rest)) ≡ is_in n (proof_names rest))
      → ((y : JumpTree) (rest : ListTree) (held : List ℕ) (n : ℕ) → is_in n (assigned_locals (make y line rest) held) ≡ is_in n (assigned_locals rest held))
      → ((y : JumpTree) (t : Keeps_ahead) (own : List ℕ) (rest : ListTree) → jump_is_named (known_here x) y (aim t) ≡ true → list_is_named x own t rest ≡ true → list_is_named x own t (make y line rest) ≡ true)
      → IfOk (jumped make o line s j) (Added a s)
  unfolding jumped
  jumped_goes a make o line s j h aim brings proofs locals named =
      after_ok (Added a s) _ (jump_in o line s j) _ (jump_goes o line s j h) (λ y go.
      nothing_added a (make y.0 line) s y.1 h go.1 (proofs y.0) (locals y.0) (λ t agree own among rest is. named y.0 t own rest (go.0 (aim t) (brings t agree)) is))

  pub next_goes : (a : Aims) (line : ℕ) (s : ProgramScope) (j : RawJump) → InThread x s → IfOk (jumped Next a.next line s j) (Added a s)
  next_goes a line s j h = jumped_goes a Next a.next line s j h (λ t. t.next) (λ t g. g.next) (λ y rest n. refl) (λ y rest held n. refl) (λ y t own rest is more. and_from (jump_is_named (known_here x) y t.next) (list_is_named x own t rest) is more)

  pub break_goes : (a : Aims) (line : ℕ) (s : ProgramScope) (j : RawJump) → InThread x s → IfOk (jumped Break a.breaks line s j) (Added a s)
  break_goes a line s j h = jumped_goes a Break a.breaks line s j h (λ t. t.break) (λ t g. g.break) (λ y rest n. refl) (λ y rest held n. refl) (λ y t own rest is more. and_from (jump_is_named (known_here x) y t.break) (list_is_named x own t rest) is more)

  pub meet_goes : (a : Aims) (line : ℕ) (s : ProgramScope) (j : RawJump) → InThread x s → IfOk (jumped Meet a.meet line s j) (Added a s)
  meet_goes a line s j h = jumped_goes a Meet a.meet line s j h (λ t. t.meet) (λ t g. g.meet) (λ y rest n. refl) (λ y rest held n. refl) (λ y t own rest is more. and_from (jump_is_named (known_here x) y t.meet) (list_is_named x own t rest) is more)

  pub end_goes : (a : Aims) (line : ℕ) (s : ProgramScope) (j : RawJump) → InThread x s → IfOk (jumped End a.end line s j) (Added a s)
  end_goes a line s j h = jumped_goes a End a.end line s j h (λ t. t.end) (λ t g. g.end) (λ y rest n. refl) (λ y rest held n. refl) (λ y t own rest is more. and_from (jump_is_named (known_here x) y t.end) (list_is_named x own t rest) is more)
