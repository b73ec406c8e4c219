-- Exchanges and proof statements that are read keep the names.
use Rattle.std.proofs.Common.{◌≡◌, ℕ, zero, suc, ◌&&◌, not, Bool, true, false, List, [], ◌∷◌, length, map, slice_get, count_by, nat_eq, Option, Some, is_some, Ok, refl, sym, ap, subst, ◌∙◌, arith}
use Rattle.std.specs.List.{list_all}
use Rattle.std.specs.Result.{IfOk}
use Rattle.std.proofs.lemmas.Bool.{lt-ltb, eq-eqb, eqb-true, and_from, and_parts}
use Rattle.std.proofs.lemmas.List.{length-map}
use Rattle.sync_base.proofs.Basics.{or_false}
use Rattle.sync_base.specs.declared.strategies.OpMode.{OpMode}
use Rattle.sync_base.specs.declared.strategies.OpMode.TheVariants as mode
use Rattle.sync_terms.specs.Trees.{Tree}
use Rattle.sync_machine.specs.declared.fields.Field.{Field}
use Rattle.sync_machine.specs.Machines.{ActTree, StepTree, OperationTree}
use Rattle.sync_machine.specs.Machines as acts
use Rattle.sync_machine.specs.Scope.{Known}
use Rattle.sync_machine.specs.Naming.{is_in}
use Rattle.sync_rules.specs.declared.slots.Role.{Role}
use Rattle.sync_rules.specs.declared.slots.Role.TheVariants as role
use Rattle.sync_rules.specs.Slots.{SlotTree, slots_of}
use Rattle.sync_parse_exprs.specs.declared.raw_names.RawName.{RawName}
use Rattle.sync_parse_programs.specs.declared.proof_statements.RawDoForm.{RawDoForm}
use Rattle.sync_parse_programs.specs.declared.proof_statements.RawClosing.{RawClosing}
use Rattle.sync_parse_programs.specs.declared.proof_statements.RawLet.{RawLet}
use Rattle.sync_parse_programs.specs.declared.proof_statements.RawSplit.{RawSplit}
use Rattle.sync_parse_programs.specs.declared.proof_statements.RawMove.{RawMove}
use Rattle.sync_parse_programs.specs.declared.proof_statements.RawAssert.{RawAssert}
use Rattle.sync_parse_programs.specs.declared.proof_statements.RawPlainProof.{RawPlainProof}
use Rattle.sync_parse_programs.specs.declared.proof_statements.RawPlainProof.TheVariants as plain
use Rattle.sync_thread.specs.Programs.{WordTree, ProofTree, is_unguarded}
use Rattle.sync_thread.specs.Arrays.{words_in, name_limit}
use Rattle.sync_thread_machine.specs.MachineWithProgram.{MachineWithProgram, fields_of}
use Rattle.sync_typing.specs.Environments.{on_some}
use Rattle.sync_typing.specs.Exchanging.{named_field}
use Rattle.sync_typing.specs.Exchanging.{gives_token as gives_one}
use Rattle.sync_typing.specs.Lists.{named_word}
use Rattle.sync_typing.specs.Names.{is_name, are_names, as_many, is_number, is_formula, token_is_named, tokens_asked, tokens_given, call_is_named, is_init, may_peek, known_with, SiteTree, at_start, words_at, closing_is_named, proof_is_named, bound_by_proof}
use Rattle.sync_typing.specs.Names.{is_guard as is_guard_step}
use Rattle.sync_read_names.specs.declared.scopes.Sort.TheVariants as sort
use Rattle.sync_read_names.specs.Scopes.{meaning_of}
use Rattle.sync_read_names.specs.Exprs.{term_of, form_of}
use Rattle.sync_read.specs.Scripts.{operation_meaning, numbers_from}
use Rattle.sync_read.proofs.Chains.{after, after_ok, if_ok}
use Rattle.sync_read_programs.specs.declared.scopes.WordCounts.{WordCounts}
use Rattle.sync_read_programs.specs.declared.scopes.Declared.{Declared}
use Rattle.sync_read_programs.specs.declared.scopes.Declared.TheVariants as declared
use Rattle.sync_read_programs.specs.declared.scopes.Call.{Call}
use Rattle.sync_read_programs.specs.declared.scopes.Purpose.{Purpose}
use Rattle.sync_read_programs.specs.declared.scopes.Purpose.TheVariants as purpose
use Rattle.sync_read_programs.specs.declared.scopes.ProgramScope.{ProgramScope}
use Rattle.sync_read_programs.specs.Scopes.{may_call, may_prove, prove_name, standing_of, counts_of, word_in, names_token, gives_token, is_guard, call_of, calls_of}
use Rattle.sync_read_programs.specs.Operands.{token_name, scripts_from}
use Rattle.sync_read_programs.specs.ProofStatements.{token_in, tokens_from, tokens_or_no_from, has_counts, call_with, called, exchange_with, exchange_in, closing_in, closes, let_in, split_in, move_in, assert_in, plain_in}
use Rattle.sync_read_laws.proofs.TermsRead.{Agrees}
use Rattle.sync_read_laws.proofs.Places.{At, IsDeclared, Stays, Keeps, keeps_here, at_agrees, none}
use Rattle.sync_read_laws.proofs.Moves.{only, prove_goes, may_prove_is}
use Rattle.sync_read_laws.proofs.Parts.{number_named, form_named, numbers_named, token_named, tokens_more, tokens_or_no_more, token_name_is, token_names_are, scripts_keep}
use Rattle.sync_read_laws.proofs.KeepsRead.{stays_as}

-- ---- what an operation wants

count_same : {A : Type 0} (p q : A → Bool) → ((a : A) → p a ≡ q a) → (xs : List A) → count_by p xs ≡ count_by q xs
count_same p q same xs = ap (λ f. count_by f xs) (λ i. λ a. same a i)

some_is : {A : Type 0} (o : Option A) (a : A) (f : A → Bool) → o ≡ Some a → f a ≡ true → on_some o false f ≡ true
some_is o a f there e = ap (λ z. on_some z false f) there ∙ e

asks : (x : SlotTree) → names_token x.role ≡ is_some (named_field x)
asks x = by x.role where
  by : (r : Role) → names_token r ≡ is_some (named_field (record x { role = r }))
  by role.Change = refl
  by role.Read = refl
  by role.Taken = refl
  by role.In = refl
  by role.Given = refl
  by role.Out = refl
  by role.Seen = refl

gives : (x : SlotTree) → gives_token x.role ≡ gives_one x
gives x = by x.role where
  by : (r : Role) → gives_token r ≡ gives_one (record x { role = r })
  by role.Change = refl
  by role.Read = refl
  by role.Taken = refl
  by role.In = refl
  by role.Given = refl
  by role.Out = refl
  by role.Seen = refl

guards : (s : StepTree) → is_guard s.act ≡ is_guard_step s
guards s = by s.act where
  by : (a : ActTree) → is_guard a ≡ is_guard_step (record s { act = a })
  by (acts.Guard f p) = refl
  by (acts.Init f t) = refl
  by (acts.Require f) = refl
  by (acts.Assert f) = refl
  by (acts.Update f t) = refl
  by (acts.HaveVariable f) = refl
  by (acts.Have f p) = refl
  by (acts.Add f p) = refl
  by (acts.Deposit f p) = refl
  by (acts.Remove f p) = refl
  by (acts.Withdraw f p) = refl

-- for what an operation is called tells its kind
pub start_is_init : (fs : List Field) (o : OperationTree) → may_call purpose.Start (call_of fs o) ≡ true → is_init o ≡ true
start_is_init fs o = by o.mode where
  by : (m : OpMode) → may_call purpose.Start (record (call_of fs o) { mode = m }) ≡ true → is_init (record o { mode = m }) ≡ true
  by mode.Init e = refl
  by mode.Transition e = cc
  by mode.Property e = cc

pub do_is_none : (fs : List Field) (o : OperationTree) → may_call purpose.Do (call_of fs o) ≡ true → not (is_init o) ≡ true
do_is_none fs o = by o.mode where
  by : (m : OpMode) → may_call purpose.Do (record (call_of fs o) { mode = m }) ≡ true → not (is_init (record o { mode = m })) ≡ true
  by mode.Init e = cc
  by mode.Transition e = refl
  by mode.Property e = refl

pub via_peeks : (fs : List Field) (o : OperationTree) → may_call purpose.Via (call_of fs o) ≡ true → may_peek o ≡ true
via_peeks fs o = by o.mode where
  by : (m : OpMode) → may_call purpose.Via (record (call_of fs o) { mode = m }) ≡ true → may_peek (record o { mode = m }) ≡ true
  by mode.Init e = cc
  by mode.Transition e = cc
  by mode.Property e = ap (λ n. nat_eq n 1) (sym (count_same (λ (s : StepTree). is_guard s.act) is_guard_step guards o.steps)) ∙ e

-- an operation with as many parameters and slots as there are arguments, tokens and names
pub record Called (x : MachineWithProgram) (p : Purpose) (d : RawDoForm) (op : ℕ) : Type 0 where
  pub operation : OperationTree
  pub there : slice_get x.machine.ops op ≡ Some operation
  pub may : may_call p (call_of (fields_of x) operation) ≡ true
  pub args : length d.args ≡ length operation.params
  pub tokens : length d.tokens ≡ tokens_asked x operation
  pub given : length d.given ≡ tokens_given x operation

pub called_is : (x : MachineWithProgram) (p : Purpose) (s : ProgramScope) (d : RawDoForm) → s.calls ≡ calls_of x.machine → IfOk (called p s d) (Called x p d)
unfolding called
called_is x p s d same =
    after (Called x p d) (operation_meaning (meaning_of s.scope d.operation.name) d.operation.line) _ (λ op. ap_calls op (slice_get s.calls op) refl) where
      test : (op : ℕ) (o : OperationTree) → slice_get x.machine.ops op ≡ Some o → IfOk (call_with (Some (call_of (fields_of x) o)) p d op) (Called x p d)
      test op o there = if_ok (Called x p d) (may_call p (call_of (fields_of x) o)) _ _ (λ may. if_ok (Called x p d) (has_counts (call_of (fields_of x) o) d) (Ok op) _ (λ e.
          let one = and_parts (nat_eq (length d.args) (length o.params)) _ e in
          let two = and_parts (nat_eq (length d.tokens) (call_of (fields_of x) o).tokens) _ one.1 in
          record {
            operation = o;
            there = there;
            may = may;
            args = eqb-true (length d.args) (length o.params) one.0;
            tokens = eqb-true (length d.tokens) (call_of (fields_of x) o).tokens two.0 ∙ count_same (λ (z : SlotTree). names_token z.role) (λ (z : SlotTree). is_some (named_field z)) asks (slots_of (fields_of x) o);
            given = eqb-true (length d.given) (call_of (fields_of x) o).given two.1 ∙ count_same (λ (z : SlotTree). gives_token z.role) gives_one gives (slots_of (fields_of x) o);
          }))

      of_map : (op : ℕ) (os : List OperationTree) (i : ℕ) → ((o : OperationTree) → slice_get os i ≡ Some o → IfOk (call_with (Some (call_of (fields_of x) o)) p d op) (Called x p d)) → IfOk (call_with (slice_get (map (call_of (fields_of x)) os) i) p d op) (Called x p d)
      of_map op [] i h = tt
      of_map op (o ∷ os) zero h = h o refl
      of_map op (o ∷ os) (suc i) h = of_map op os i h

      ap_calls : (op : ℕ) (o : Option Call) → slice_get s.calls op ≡ o → IfOk (call_with (slice_get s.calls op) p d op) (Called x p d)
      ap_calls op o is = subst (λ cs. IfOk (call_with (slice_get cs op) p d op) (Called x p d)) (sym same) (of_map op x.machine.ops op (test op))

-- ---- exchanges

pub exchange_behind : (x : MachineWithProgram) (b : Bool) (ws : List ℕ) (s : ProgramScope) → At x b ws s → (sort_of : OperationTree → Bool) (p : Purpose) (k : Known) (op : ℕ) (args : List Tree) (d : RawDoForm) (c : Called x p d op)
    → sort_of c.operation ≡ true → list_all (is_number k) args ≡ true → length args ≡ length d.args
    → IfOk (exchange_with op args s d) (λ r. (call_is_named x sort_of b k r.0 ≡ true) × Keeps s r.1)
unfolding exchange_with
exchange_behind x b ws s h sort_of p k op args d c is named many =
    after_ok _ _ (tokens_from [] s d.tokens) _ (tokens_more x b ws s h d.tokens [] refl) (λ ts tokens.
    after_ok _ _ (scripts_from [] s d.scripts) _ (scripts_keep [] s d.scripts) (λ ss keeps.
    let o = c.operation in (
      some_is (slice_get x.machine.ops op) o _ c.there (and_from (sort_of o) _ is
          (and_from (as_many args o.params) _ (eq-eqb (length args) (length o.params) (many ∙ c.args))
          (and_from (nat_eq (length ts) (tokens_asked x o)) _ (eq-eqb (length ts) (tokens_asked x o) (omega (arith, tokens.1, c.tokens)))
          (and_from (nat_eq (length (map token_name d.given)) (tokens_given x o)) _ (eq-eqb (length (map token_name d.given)) (tokens_given x o) (length-map d.given token_name ∙ c.given))
          (and_from (list_all (is_number k) args) _ named
          (and_from (list_all (token_is_named x b) ts) (are_names (map token_name d.given)) tokens.0 (token_names_are d.given))))))),
      keeps,
    )))

pub exchange_named : (x : MachineWithProgram) (b : Bool) (ws : List ℕ) (s : ProgramScope) → At x b ws s → (sort_of : OperationTree → Bool) (p : Purpose) → ((o : OperationTree) → may_call p (call_of (fields_of x) o) ≡ true → sort_of o ≡ true) → (d : RawDoForm)
    → IfOk (exchange_in p s d) (λ r. (call_is_named x sort_of b (known_with x ws) r.0 ≡ true) × Keeps s r.1)
unfolding exchange_in
exchange_named x b ws s h sort_of p tells d =
    after_ok _ _ (called p s d) _ (called_is x p s d h.calls) (λ op c.
    after_ok _ _ (numbers_from [] s.scope d.args) _ (numbers_named s.scope (known_with x ws) (at_agrees x b ws s h) d.args) (λ args named.
    exchange_behind x b ws s h sort_of p (known_with x ws) op args d c (tells c.operation c.may) named.0 named.1))

-- ---- closings

-- a word has so many names, clauses, and clauses without a guard
pub record Counts (w : WordTree) (c : WordCounts) : Type 0 where
  pub names : length w.names ≡ c.names
  pub clauses : length w.clauses ≡ c.clauses
  pub unguarded : count_by is_unguarded w.clauses ≡ c.unguarded

-- a name that was declared as a word
pub word_is : (x : MachineWithProgram) (b : Bool) (ws : List ℕ) (s : ProgramScope) → At x b ws s → (n : RawName) → IfOk (word_in s n) (λ c. (w : WordTree) × (named_word n.name (words_in x.program.decls) ≡ Some w) × Counts w c)
word_is x b ws s h n = by (standing_of s n.name).declared (h.declared n.name) where
  by : (d : Declared) → IsDeclared x.program.decls n.name d → IfOk (counts_of d n.line) (λ c. (w : WordTree) × (named_word n.name (words_in x.program.decls) ≡ Some w) × Counts w c)
  by declared.Nothing is = tt
  by declared.Cell is = tt
  by (declared.Word c) is = (is.word, is.named, record { names = is.names; clauses = is.clauses; unguarded = is.unguarded })

pub closes_is : (w : WordTree) (c : WordCounts) → Counts w c → (d : RawClosing) (line : ℕ) → IfOk (closes c d line) (λ n. (length d.args ≡ length w.names) × (length d.tokens ≡ length w.clauses))
closes_is w c counts d line = if_ok (λ n. (length d.args ≡ length w.names) × (length d.tokens ≡ length w.clauses)) (nat_eq (length d.args) c.names && nat_eq (length d.tokens) c.clauses) (Ok c.clauses) _ (λ e.
    let p = and_parts (nat_eq (length d.args) c.names) (nat_eq (length d.tokens) c.clauses) e in
    (eqb-true (length d.args) c.names p.0 ∙ sym counts.names, eqb-true (length d.tokens) c.clauses p.1 ∙ sym counts.clauses))

pub closing_named : (x : MachineWithProgram) (site : SiteTree) (s : ProgramScope) → At x (at_start site) (words_at site) s → (w : WordTree) (d : RawClosing) → length d.args ≡ length w.names → length d.tokens ≡ length w.clauses
    → IfOk (closing_in s d) (λ r. (closing_is_named x site w r.0 ≡ true) × Keeps s r.1)
unfolding closing_in
closing_named x site s h w d args tokens =
    after_ok _ _ (numbers_from [] s.scope d.args) _ (numbers_named s.scope (known_with x (words_at site)) (at_agrees x (at_start site) (words_at site) s h) d.args) (λ ts named.
    after_ok _ _ (tokens_or_no_from [] s d.tokens) _ (tokens_or_no_more x (at_start site) (words_at site) s h d.tokens [] refl) (λ ks there.
    after_ok _ _ (scripts_from [] s d.scripts) _ (scripts_keep [] s d.scripts) (λ ss keeps. (
      and_from (as_many ts w.names) _ (eq-eqb (length ts) (length w.names) (named.1 ∙ args))
          (and_from (as_many ks w.clauses) _ (eq-eqb (length ks) (length w.clauses) (omega (arith, there.1, tokens)))
          (and_from (list_all (is_number (known_with x (words_at site))) ts) _ named.0 there.0)),
      keeps,
    ))))

-- ---- statements that stand everywhere

-- behind a proof statement
pub record ProofGo (x : MachineWithProgram) (site : SiteTree) (s : ProgramScope) (p : ProofTree) (next : ProgramScope) : Type 0 where
  pub named : proof_is_named x site p ≡ true
  pub stays : Stays s next (λ n. is_in n (bound_by_proof p)) none none none

module _ (x : MachineWithProgram) (site : SiteTree) (s : ProgramScope) (h : At x (at_start site) (words_at site) s) where
  abbrev b : Bool
  b = at_start site

  abbrev ws : List ℕ
  ws = words_at site

  abbrev k : Known
  k = known_with x ws

  agrees : Agrees s.scope k
  agrees = at_agrees x b ws s h

  abbrev Good : ProofTree × ProgramScope → Type 0
  Good r = ProofGo x site s r.0 r.1

  let_goes : (l : RawLet) → IfOk (let_in s l) Good
  unfolding let_in
  let_goes l =
      after_ok Good _ (may_prove s l.name) _ (may_prove_is s l.name) (λ n may.
      after_ok Good (λ t. is_number k t ≡ true) (term_of sort.Number l.value s.scope) _ (number_named s.scope k agrees l.value) (λ t is.
      after_ok Good _ (prove_name s l.name) _ (prove_goes s l.name h.mine may.1) (λ next went. record {
        named = and_from (is_name n) (is_number k t) (subst (λ j. is_name j ≡ true) (sym may.0) (lt-ltb l.name.name name_limit (omega (arith, went.0, h.owners)))) is;
        stays = stays_as s next (only l.name.name) none none none (λ j. is_in j (n ∷ [])) none none none (λ j. ap (nat_eq j) (sym may.0) ∙ sym (or_false (nat_eq j n))) (λ j. refl) (λ j. refl) (λ j. refl) went.1;
      })))

  split_goes : (r : RawSplit) → IfOk (split_in s r) Good
  unfolding split_in
  split_goes r =
      after_ok Good (λ t. is_number k t ≡ true) (term_of sort.Number r.amount s.scope) _ (number_named s.scope k agrees r.amount) (λ t is.
      after_ok Good (λ q. Keeps s q.1) (scripts_from [] s r.scripts) _ (scripts_keep [] s r.scripts) (λ ss keeps. record {
        named = and_from (are_names (map token_name (r.token ∷ r.first ∷ r.second ∷ []))) (is_number k t) (token_names_are (r.token ∷ r.first ∷ r.second ∷ [])) is;
        stays = keeps;
      }))

  move_goes : (m : RawMove) → IfOk (move_in s m) (λ p. (proof_is_named x site p ≡ true) × ((z : ProgramScope) → Stays z z (λ n. is_in n (bound_by_proof p)) none none none))
  unfolding move_in
  move_goes m = after_ok _ (λ t. token_is_named x b t ≡ true) (token_in s m.token) _ (token_named x b ws s h m.token) (λ t is. (and_from (token_is_named x b t) (is_name (token_name m.given)) is (token_name_is m.given), λ z. keeps_here z))

  assert_goes : (r : RawAssert) → IfOk (assert_in s r) Good
  unfolding assert_in
  assert_goes r =
      after_ok Good (λ f. is_formula k f ≡ true) (form_of r.form s.scope) _ (form_named s.scope k agrees r.form) (λ f is.
      after_ok Good (λ q. Keeps s q.1) (scripts_from [] s r.scripts) _ (scripts_keep [] s r.scripts) (λ ss keeps. record { named = is; stays = keeps }))

  pub plain_goes : (p : RawPlainProof) → IfOk (plain_in s p) Good
  unfolding plain_in
  plain_goes (plain.Let l) = let_goes l
  plain_goes (plain.Do d) = after_ok Good _ (exchange_in purpose.Do s d) _ (exchange_named x b ws s h (λ o. not (is_init o)) purpose.Do (do_is_none (fields_of x)) d) (λ r is. record { named = is.0; stays = is.1 })
  plain_goes (plain.Split r) = split_goes r
  plain_goes (plain.Merge m) = record { named = token_names_are (m.first ∷ m.second ∷ m.given ∷ []); stays = keeps_here s }
  plain_goes (plain.Copy c) = record { named = token_names_are (c.token ∷ c.given ∷ []); stays = keeps_here s }
  plain_goes (plain.Move m) = after_ok Good _ (move_in s m) _ (move_goes m) (λ p is. record { named = is.0; stays = is.1 s })
  plain_goes (plain.Assert r) = assert_goes r
