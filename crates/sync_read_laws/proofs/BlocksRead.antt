-- Blocks of operations on words, and the start, that are read keep the names.
use Rattle.std.proofs.Common.{◌≡◌, ℕ, ◌&&◌, ◌||◌, Bool, true, false, List, [], ◌∷◌, ◌++◌, length, map, count_by, nat_eq, Option, Some, None, Ok, refl, sym, ap, ◌∙◌, true≢false, append_assoc, append-nil}
use Rattle.std.specs.List.{list_all}
use Rattle.std.specs.Result.{IfOk}
use Rattle.std.proofs.lemmas.Bool.{eq-eqb, eqb-true, and_from, and_parts}
use Rattle.std.proofs.lemmas.List.{length-map}
use Rattle.std.proofs.lemmas.List.Folds.{list_any-append}
use Rattle.sync_machine.specs.Naming.{is_in}
use Rattle.sync_parse_exprs.specs.declared.raw_names.RawName.{RawName}
use Rattle.sync_parse_programs.specs.declared.proof_statements.RawClosing.{RawClosing}
use Rattle.sync_parse_programs.specs.declared.proof_statements.RawOpen.{RawOpen}
use Rattle.sync_parse_programs.specs.declared.proof_statements.RawCase.{RawCase}
use Rattle.sync_parse_programs.specs.declared.proof_statements.RawProofKind.{RawProofKind}
use Rattle.sync_parse_programs.specs.declared.proof_statements.RawProofKind.TheVariants as kind
use Rattle.sync_parse_programs.specs.declared.proof_statements.RawProofStatement.{RawProofStatement}
use Rattle.sync_parse_programs.specs.declared.proof_statements.RawSeal.{RawSeal}
use Rattle.sync_parse_programs.specs.declared.proof_statements.RawGive.{RawGive}
use Rattle.sync_parse_programs.specs.declared.proof_statements.RawStartKind.{RawStartKind}
use Rattle.sync_parse_programs.specs.declared.proof_statements.RawStartKind.TheVariants as start
use Rattle.sync_parse_programs.specs.declared.proof_statements.RawStartStatement.{RawStartStatement}
use Rattle.sync_thread.specs.Programs.{WordTree, ProofTree, ProofStepTree, ThreadTree, is_unguarded}
use Rattle.sync_thread.specs.Arrays.{words_in}
use Rattle.sync_thread_machine.specs.MachineWithProgram.{MachineWithProgram}
use Rattle.sync_typing.specs.Environments.{on_some}
use Rattle.sync_typing.specs.Lists.{named_word}
use Rattle.sync_typing.specs.Typing.{named_thread}
use Rattle.sync_typing.specs.Names.{are_apart_names, as_many, is_number, known_with, SiteTree, AtStart, InList, AtWord, words_at, proof_is_named, steps_are_named, bound_by_proof, bound_by_steps}
use Rattle.sync_read_names.specs.declared.scopes.Sight.{Sight}
use Rattle.sync_read.specs.Scripts.{numbers_from}
use Rattle.sync_read.proofs.Chains.{after_ok, if_ok, weaker}
use Rattle.sync_read_programs.specs.declared.scopes.WordCounts.{WordCounts}
use Rattle.sync_read_programs.specs.declared.scopes.Entrance.{Entrance}
use Rattle.sync_read_programs.specs.declared.scopes.ProgramScope.{ProgramScope}
use Rattle.sync_read_programs.specs.Scopes.{as_many as as_many_or, standing_of, word_in, entrance_of, thread_named, with_sight, with_atomic, next_list}
use Rattle.sync_read_programs.specs.Operands.{token_name, scripts_from}
use Rattle.sync_read_programs.specs.Keeps.{proof_names_from}
use Rattle.sync_read_programs.specs.ProofStatements.{closing_in, closes, opens, open_in, case_in, close_in, proof_in, proof_step, proof_steps_from, proof_block, seal_in, give_in, start_kind, start_step, start_steps_from}
use Rattle.sync_read_laws.proofs.Places.{At, Goes, Rests, Stays, Keeps, keeps_here, keeps_then, goes_then, then_rests, at_stays, at_goes, at_agrees, none}
use Rattle.sync_read_laws.proofs.Moves.{next_keeps}
use Rattle.sync_read_laws.proofs.Parts.{numbers_named, token_names_are, token_name_if_is, scripts_keep}
use Rattle.sync_read_laws.proofs.KeepsRead.{raw_name, NamesGo, names_go, stays_then, stays_as, swap}
use Rattle.sync_parse_exprs.specs.declared.expressions.Special.{Special}
use Rattle.sync_parse_exprs.specs.declared.expressions.Special.TheVariants as special
use Rattle.sync_read_names.specs.Scopes.{knows_special, special_number}
use Rattle.sync_read_laws.proofs.ProofsRead.{Counts, word_is, closes_is, closing_named, ProofGo, plain_goes}

-- ---- the block of an operation on a word

module _ (x : MachineWithProgram) (w : WordTree) (c : WordCounts) (counts : Counts w c) where
  abbrev site : SiteTree
  site = AtWord w

  abbrev ws : List ℕ
  ws = words_at (AtWord w)

  opens_is : (r : RawOpen) (line : ℕ) → IfOk (opens c r line) (λ n. (length r.names ≡ length w.names) × (length r.tokens ≡ count_by is_unguarded w.clauses))
  opens_is r line = if_ok (λ n. (length r.names ≡ length w.names) × (length r.tokens ≡ count_by is_unguarded w.clauses)) (nat_eq (length r.names) c.names && nat_eq (length r.tokens) c.unguarded) (Ok c.names) _ (λ e.
      let p = and_parts (nat_eq (length r.names) c.names) (nat_eq (length r.tokens) c.unguarded) e in
      (eqb-true (length r.names) c.names p.0 ∙ sym counts.names, eqb-true (length r.tokens) c.unguarded p.1 ∙ sym counts.unguarded))

  open_goes : (s : ProgramScope) (line : ℕ) (r : RawOpen) → At x false ws s → IfOk (open_in c line s r) (λ q. ProofGo x site s q.0 q.1)
  unfolding open_in
  open_goes s line r h =
      let P : ProofTree × ProgramScope → Type 0 = λ q. ProofGo x site s q.0 q.1 in
      let s1 = next_list s in
      after_ok P _ (opens c r line) _ (opens_is r line) (λ n many.
      after_ok P (λ q. NamesGo false [] s1 q.0 q.1 r.names) (proof_names_from false [] s1 r.names) _
      (names_go x false ws false r.names [] s1 (at_stays x false ws s s1 none none none none h (next_keeps s)) (λ n no. absurd (true≢false (sym no))) refl) (λ ns one. record {
        named = and_from (as_many ns.0 w.names) _ (eq-eqb (length ns.0) (length w.names) (ap length (one.are ∙ one.said) ∙ length-map r.names raw_name ∙ many.0))
            (and_from (nat_eq (length (map token_name r.tokens)) (count_by is_unguarded w.clauses)) _ (eq-eqb (length (map token_name r.tokens)) (count_by is_unguarded w.clauses) (length-map r.tokens token_name ∙ many.1))
            (and_from (are_apart_names ns.0) _ one.apart (token_names_are r.tokens)));
        stays = keeps_then s s1 ns.1 (λ n. is_in n ns.0) none none none (next_keeps s)
            (stays_as s1 ns.1 (λ n. is_in n one.added) none (λ n. is_in n one.added && false) none (λ n. is_in n ns.0) none none none (λ n. ap (is_in n) (sym one.are)) (λ n. refl) (λ n. and_none (is_in n one.added)) (λ n. refl) one.stays);
      })) where
        and_none : (a : Bool) → (a && false) ≡ false
        and_none true = refl
        and_none false = refl

  case_goes : (s : ProgramScope) (r : RawCase) → IfOk (case_in s r) (λ q. ProofGo x site s q.0 q.1)
  unfolding case_in
  case_goes s r = after_ok _ (λ q. Keeps s q.1) (scripts_from [] s r.scripts) _ (scripts_keep [] s r.scripts) (λ ss keeps. record { named = token_name_if_is r.yes; stays = keeps })

  close_goes : (s : ProgramScope) (line : ℕ) (d : RawClosing) → At x false ws s → IfOk (close_in c line s d) (λ q. ProofGo x site s q.0 q.1)
  unfolding close_in
  close_goes s line d h =
      after_ok _ _ (closes c d line) _ (closes_is w c counts d line) (λ n many.
      after_ok _ _ (closing_in s d) _ (closing_named x site s h w d many.0 many.1) (λ q is. record { named = is.0; stays = is.1 }))

  proof_goes : (s : ProgramScope) (line : ℕ) (r : RawProofKind) → At x false ws s → IfOk (proof_in c line s r) (λ q. ProofGo x site s q.0 q.1)
  unfolding proof_in
  proof_goes s line (kind.Plain p) h = plain_goes x site s h p
  proof_goes s line (kind.Open r) h = open_goes s line r h
  proof_goes s line (kind.Case r) h = case_goes s r
  proof_goes s line (kind.Close d) h = close_goes s line d h
  proof_goes s line (kind.Still xs) h = after_ok _ (λ q. Keeps s q.1) (scripts_from [] s xs) _ (scripts_keep [] s xs) (λ ss keeps. record { named = refl; stays = keeps })

  step_goes : (s : ProgramScope) (r : RawProofStatement) → At x false ws s → IfOk (proof_step c s r) (λ q. ProofGo x site s q.0.what q.1)
  unfolding proof_step
  step_goes s r h = after_ok _ (λ q. ProofGo x site s q.0 q.1) (proof_in c r.line s r.what) _ (proof_goes s r.line r.what h) (λ q go. go)

-- behind more steps of a block, or of the start
pub record StepsGo (x : MachineWithProgram) (site : SiteTree) (held : List ProofStepTree) (s : ProgramScope) (ss : List ProofStepTree) (next : ProgramScope) : Type 0 where
  pub added : List ProofStepTree
  pub are : ss ≡ held ++ added
  pub named : steps_are_named x site added ≡ true
  pub stays : Stays s next (λ n. is_in n (bound_by_steps added)) none none none

no_steps : (x : MachineWithProgram) (site : SiteTree) (held : List ProofStepTree) (s : ProgramScope) → StepsGo x site held s held s
no_steps x place held s = record { added = []; are = sym (append-nil held); named = refl; stays = keeps_here s }

more_steps : (x : MachineWithProgram) (site : SiteTree) (held : List ProofStepTree) (s a next : ProgramScope) (y : ProofStepTree) (ss : List ProofStepTree) → ProofGo x site s y.what a → StepsGo x site (held ++ y ∷ []) a ss next → StepsGo x site held s ss next
more_steps x place held s a next y ss one rest = record {
  added = y ∷ rest.added;
  are = rest.are ∙ append_assoc held (y ∷ []) rest.added;
  named = and_from (proof_is_named x place y.what) _ one.named rest.named;
  stays = stays_then s a next (λ n. is_in n (bound_by_proof y.what)) none none none (λ n. is_in n (bound_by_steps rest.added)) none none none (λ n. is_in n (bound_by_steps (y ∷ rest.added))) none none none
      (λ n z. swap (is_in n (bound_by_proof y.what)) (is_in n (bound_by_steps rest.added)) z ∙ ap (λ v. v || z) (sym (list_any-append (nat_eq n) (bound_by_proof y.what) (bound_by_steps rest.added))))
      (λ n z. refl) (λ n z. refl) (λ n z. refl) one.stays rest.stays;
}

steps_go : (x : MachineWithProgram) (w : WordTree) (c : WordCounts) → Counts w c → (raw : List RawProofStatement) (held : List ProofStepTree) (s : ProgramScope) → At x false (words_at (AtWord w)) s
    → IfOk (proof_steps_from c held s raw) (λ q. StepsGo x (AtWord w) held s q.0 q.1)
unfolding proof_steps_from
steps_go x w c counts [] held s h = no_steps x (AtWord w) held s
steps_go x w c counts (r ∷ raw) held s h =
    after_ok _ (λ q. ProofGo x (AtWord w) s q.0.what q.1) (proof_step c s r) _ (step_goes x w c counts s r h) (λ y one.
    weaker _ _ (proof_steps_from c (held ++ y.0 ∷ []) y.1 raw)
    (steps_go x w c counts raw (held ++ y.0 ∷ []) y.1 (at_stays x false (words_at (AtWord w)) s y.1 (λ n. is_in n (bound_by_proof y.0.what)) none none none h one.stays))
    (λ q rest. more_steps x (AtWord w) held s y.1 q.1 y.0 q.0 one rest))

-- only what is seen changes
pub sight_rests : (s : ProgramScope) (g : Sight) → Rests s (with_sight g s)
sight_rests s g = record {
  calls = refl;
  strategies = refl;
  constants = refl;
  starts = refl;
  meanings = refl;
  claim = refl;
  owner = refl;
  names = refl;
  owners = refl;
  declared = λ n. refl;
  threads = λ n. refl;
  tokens = λ n. refl;
  locals = λ n. refl;
  proofs = λ n. refl;
  ends = λ n. refl;
  apart = λ h. h;
  without = λ k other h. h;
}

pub record BlockGo (x : MachineWithProgram) (w : WordTree) (s : ProgramScope) (ss : List ProofStepTree) (next : ProgramScope) : Type 0 where
  pub named : steps_are_named x (AtWord w) ss ≡ true
  pub goes : Goes s next (λ n. is_in n (bound_by_steps ss)) none none none
  pub at : At x false (words_at InList) next

at_atomic : (x : MachineWithProgram) (w : WordTree) (s : ProgramScope) → At x false (words_at InList) s → At x false (words_at (AtWord w)) (with_atomic true s)
at_atomic x w s h = at_goes x false (words_at InList) (words_at (AtWord w)) s (with_atomic true s) none none none none h (sight_rests s _) refl words where
  words : (v : Special) → knows_special (with_atomic true s).scope.sight v ≡ true → is_in (special_number v) (words_at (AtWord w)) ≡ true
  words special.Value known = h.words special.Value known
  words special.Index known = h.words special.Index known
  words special.Old known = refl
  words special.New known = refl
  words special.Wrap known = refl

at_plain : (x : MachineWithProgram) (w : WordTree) (s : ProgramScope) → At x false (words_at (AtWord w)) s → At x false (words_at InList) (with_atomic false s)
at_plain x w s h = at_goes x false (words_at (AtWord w)) (words_at InList) s (with_atomic false s) none none none none h (sight_rests s _) refl words where
  words : (v : Special) → knows_special (with_atomic false s).scope.sight v ≡ true → is_in (special_number v) (words_at InList) ≡ true
  words special.Value known = h.words special.Value known
  words special.Index known = h.words special.Index known
  words special.Old known = known
  words special.New known = known
  words special.Wrap known = refl

pub block_goes : (x : MachineWithProgram) (w : WordTree) (c : WordCounts) → Counts w c → (s : ProgramScope) (raw : List RawProofStatement) → At x false (words_at InList) s → IfOk (proof_block c s raw) (λ q. BlockGo x w s q.0 q.1)
unfolding proof_block
block_goes x w c counts s raw h =
    let s1 = with_atomic true s in
    let h1 : At x false (words_at (AtWord w)) s1 = at_atomic x w s h in
    after_ok _ (λ q. StepsGo x (AtWord w) [] s1 q.0 q.1) (proof_steps_from c [] s1 raw) _ (steps_go x w c counts raw [] s1 h1) (λ ys go. record {
      named = ap (steps_are_named x (AtWord w)) go.are ∙ go.named;
      goes = goes_then s s1 (with_atomic false ys.1) none none none none (λ n. is_in n (bound_by_steps go.added)) none none none (λ n. is_in n (bound_by_steps ys.0)) none none none
          (λ n z. ap (λ ss. is_in n (bound_by_steps ss) || z) (sym go.are)) (λ n z. refl) (λ n z. refl) (λ n z. refl) (sight_rests s _)
          (then_rests s1 ys.1 (with_atomic false ys.1) (λ n. is_in n (bound_by_steps go.added)) none none none go.stays.goes (sight_rests ys.1 _));
      at = at_plain x w ys.1 (at_stays x false (words_at (AtWord w)) s1 ys.1 (λ n. is_in n (bound_by_steps go.added)) none none none h1 go.stays);
    })

-- ---- the start

-- a name that is a thread's is that of one of these threads, which takes so many names
abbrev pub Enters : List ThreadTree → ProgramScope → Type 0
Enters ts s = (n : ℕ) (e : Entrance) → (standing_of s n).thread ≡ Some e → (d : ThreadTree) × (named_thread n ts ≡ Some d) × (length d.takes.names ≡ e.names)

enters_goes : (ts : List ThreadTree) (s next : ProgramScope) (p l e t : ℕ → Bool) → Goes s next p l e t → Enters ts s → Enters ts next
enters_goes ts s next p l e t g h n r is = h n r (sym (g.threads n) ∙ is)

some_is : {A : Type 0} (o : Option A) (a : A) (f : A → Bool) → o ≡ Some a → f a ≡ true → on_some o false f ≡ true
some_is o a f there e = ap (λ z. on_some z false f) there ∙ e

module _ (x : MachineWithProgram) where
  abbrev StartAt : ProgramScope → Type 0
  StartAt s = At x true [] s

  seal_goes : (s : ProgramScope) (r : RawSeal) → At x true [] s → IfOk (seal_in s r) (λ q. ProofGo x AtStart s q.0 q.1)
  unfolding seal_in
  seal_goes s r h =
      after_ok _ _ (word_in s r.word) _ (word_is x true [] s h r.word) (λ c is.
      after_ok _ _ (closes c r.closing r.word.line) _ (closes_is is.0 c is.2 r.closing r.word.line) (λ n many.
      after_ok _ _ (closing_in s r.closing) _ (closing_named x AtStart s h is.0 r.closing many.0 many.1) (λ q named. record {
        named = some_is (named_word r.word.name (words_in x.program.decls)) is.0 _ is.1 named.0;
        stays = named.1;
      })))

  as_many_is : (found wanted line : ℕ) → IfOk (as_many_or found wanted line) (λ n. found ≡ wanted)
  as_many_is found wanted line = if_ok (λ n. found ≡ wanted) (nat_eq found wanted) (Ok found) _ (λ e. eqb-true found wanted e)

  entrance_is : (s : ProgramScope) (n : RawName) → IfOk (thread_named s n) (λ e. (standing_of s n.name).thread ≡ Some e)
  entrance_is s n = by (standing_of s n.name).thread refl where
    by : (o : Option Entrance) → (standing_of s n.name).thread ≡ o → IfOk (entrance_of o n.line) (λ e. (standing_of s n.name).thread ≡ Some e)
    by None is = tt
    by (Some e) is = is

  give_goes : (s : ProgramScope) (r : RawGive) → At x true [] s → Enters x.program.threads s → IfOk (give_in s r) (λ q. ProofGo x AtStart s q.0 q.1)
  unfolding give_in
  give_goes s r h enters =
      after_ok _ _ (thread_named s r.thread) _ (entrance_is s r.thread) (λ e there.
      after_ok _ _ (as_many_or (length r.args) e.names r.thread.line) _ (as_many_is (length r.args) e.names r.thread.line) (λ n many.
      after_ok _ _ (numbers_from [] s.scope r.args) _ (numbers_named s.scope (known_with x []) (at_agrees x true [] s h) r.args) (λ ts named.
      after_ok _ (λ q. Keeps s q.1) (scripts_from [] s r.scripts) _ (scripts_keep [] s r.scripts) (λ ss keeps.
      let d = enters r.thread.name e there in record {
        named = and_from (list_all (is_number (known_with x [])) ts) _ named.0 (some_is (named_thread r.thread.name x.program.threads) d.0 _ d.1 (eq-eqb (length ts) (length d.0.takes.names) (named.1 ∙ many ∙ sym d.2)));
        stays = keeps;
      }))))

  start_kind_goes : (s : ProgramScope) (r : RawStartKind) → At x true [] s → Enters x.program.threads s → IfOk (start_kind s r) (λ q. ProofGo x AtStart s q.0 q.1)
  unfolding start_kind
  start_kind_goes s (start.Plain p) h enters = plain_goes x AtStart s h p
  start_kind_goes s (start.Seal r) h enters = seal_goes s r h
  start_kind_goes s (start.Give r) h enters = give_goes s r h enters

  start_step_goes : (s : ProgramScope) (r : RawStartStatement) → At x true [] s → Enters x.program.threads s → IfOk (start_step s r) (λ q. ProofGo x AtStart s q.0.what q.1)
  unfolding start_step
  start_step_goes s r h enters = after_ok _ (λ q. ProofGo x AtStart s q.0 q.1) (start_kind s r.what) _ (start_kind_goes s r.what h enters) (λ q go. go)

  pub start_steps_go : (raw : List RawStartStatement) (held : List ProofStepTree) (s : ProgramScope) → At x true [] s → Enters x.program.threads s → IfOk (start_steps_from held s raw) (λ q. StepsGo x AtStart held s q.0 q.1)
  unfolding start_steps_from
  start_steps_go [] held s h enters = no_steps x AtStart held s
  start_steps_go (r ∷ raw) held s h enters =
      after_ok _ (λ q. ProofGo x AtStart s q.0.what q.1) (start_step s r) _ (start_step_goes s r h enters) (λ y one.
      weaker _ _ (start_steps_from (held ++ y.0 ∷ []) y.1 raw)
      (start_steps_go raw (held ++ y.0 ∷ []) y.1 (at_stays x true [] s y.1 (λ n. is_in n (bound_by_proof y.0.what)) none none none h one.stays) (enters_goes x.program.threads s y.1 (λ n. is_in n (bound_by_proof y.0.what)) none none none one.stays.goes enters))
      (λ q rest. more_steps x AtStart held s y.1 q.1 y.0 q.0 one rest))
