-- Statements without lists, once their parts are made.
use Rattle.std.proofs.Common.{◌≡◌, ℕ, List, [], Ok, sym, ap, ◌∙◌}
use Rattle.sync_base.specs.Outcome.{◌>>=◌}
use Rattle.sync_terms.specs.Stored.{Stored}
use Rattle.sync_terms.specs.declared.scripts.Script.{Script}
use Rattle.sync_parse_exprs.specs.declared.raw_names.RawName.{RawName}
use Rattle.sync_parse_programs.specs.declared.statements.RawRead.{RawRead}
use Rattle.sync_parse_programs.specs.declared.statements.RawPeek.{RawPeek}
use Rattle.sync_parse_programs.specs.declared.statements.RawWrite.{RawWrite}
use Rattle.sync_thread.specs.declared.operands.Opd.{Opd}
use Rattle.sync_thread.specs.declared.program.Idx.{Idx}
use Rattle.sync_thread.specs.declared.program.DoForm.{DoForm}
use Rattle.sync_thread.specs.declared.program.StmtKind.{fold-roll-StmtKind}
use Rattle.sync_thread.specs.declared.program.StmtKind.TheOpen.{StmtKind-F}
use Rattle.sync_thread.specs.declared.program.StmtKind.TheVariants as made
use Rattle.sync_thread.specs.declared.program.StmtKind.TheVariants.{rolls-Read, rolls-Peek, rolls-Write}
use Rattle.sync_thread.specs.Control.{On}
use Rattle.sync_thread.specs.Programs.{ListTree}
use Rattle.sync_thread.specs.Programs as tree
use Rattle.sync_thread.specs.Views.{Then, TailThen, index_tree, scripts_tree, do_tree, kind_then, tail_then, atomic_then, list_then, stmt_then, when_then}
use Rattle.sync_read_programs.specs.declared.scopes.Purpose.TheVariants as purpose
use Rattle.sync_read_programs.specs.declared.scopes.ProgramScope.{ProgramScope}
use Rattle.sync_read_programs.specs.Scopes.{may_assign, assign_name, cell_in}
use Rattle.sync_read_programs.specs.Operands.{token_name, operand_in, scripts_from, index_in}
use Rattle.sync_read_programs.specs.ProofStatements.{exchange_in}
use Rattle.sync_read_programs.specs.Statements.{read_in, peek_in, write_in}
use Rattle.sync_read_programs.specs.Parts.{kind_tree}

read_is : (t : Stored) (n c : ℕ) (i : Idx) (p : ℕ) (ss : List Script) (line : ℕ) → kind_tree t (made.Read n c i p ss) line ≡ On (tree.Read n c (index_tree t i) p (scripts_tree t ss)) line
read_is t n c i p ss line =
    ap (λ k. kind_tree t k line) (sym (rolls-Read n c i p ss))
    ∙ ap (λ (f : ℕ → Then). f line) (fold-roll-StmtKind (ℕ → Then) TailThen (ℕ → Then) ListTree Then TailThen (kind_then t) (tail_then t) (atomic_then t) list_then stmt_then (when_then t) (StmtKind-F.Read n c i p ss))

peek_is : (t : Stored) (n c : ℕ) (i : Idx) (d : DoForm) (line : ℕ) → kind_tree t (made.Peek n c i d) line ≡ On (tree.Peek n c (index_tree t i) (do_tree t d)) line
peek_is t n c i d line =
    ap (λ k. kind_tree t k line) (sym (rolls-Peek n c i d))
    ∙ ap (λ (f : ℕ → Then). f line) (fold-roll-StmtKind (ℕ → Then) TailThen (ℕ → Then) ListTree Then TailThen (kind_then t) (tail_then t) (atomic_then t) list_then stmt_then (when_then t) (StmtKind-F.Peek n c i d))

write_is : (t : Stored) (c : ℕ) (i : Idx) (o : Opd) (p : ℕ) (ss : List Script) (line : ℕ) → kind_tree t (made.Write c i o p ss) line ≡ On (tree.Write c (index_tree t i) o p (scripts_tree t ss)) line
write_is t c i o p ss line =
    ap (λ k. kind_tree t k line) (sym (rolls-Write c i o p ss))
    ∙ ap (λ (f : ℕ → Then). f line) (fold-roll-StmtKind (ℕ → Then) TailThen (ℕ → Then) ListTree Then TailThen (kind_then t) (tail_then t) (atomic_then t) list_then stmt_then (when_then t) (StmtKind-F.Write c i o p ss))

pub read_made : (s s1 s2 s3 : ProgramScope) (t : Stored) (x : RawName) (r : RawRead) (line n c p : ℕ) (i : Idx) (ss : List Script)
    → may_assign s x ≡ Ok n → cell_in s r.cell ≡ Ok c → index_in s r.index ≡ Ok (index_tree t i, s1)
    → scripts_from [] s1 r.scripts ≡ Ok (scripts_tree t ss, s2) → assign_name s2 x ≡ Ok s3 → p ≡ token_name r.permission
    → read_in x r line s ≡ Ok (kind_tree t (made.Read n c i p ss) line, s3)
unfolding read_in
read_made s s1 s2 s3 t x r line n c p i ss one two three four five six =
    ap (λ y. y >>= (λ n. cell_in s r.cell >>= (λ c. index_in s r.index >>= (λ i. scripts_from [] i.1 r.scripts >>= (λ ss. assign_name ss.1 x >>= (λ s2. Ok (On (tree.Read n c i.0 (token_name r.permission) ss.0) line, s2))))))) one
    ∙ ap (λ y. y >>= (λ c. index_in s r.index >>= (λ i. scripts_from [] i.1 r.scripts >>= (λ ss. assign_name ss.1 x >>= (λ s2. Ok (On (tree.Read n c i.0 (token_name r.permission) ss.0) line, s2)))))) two
    ∙ ap (λ y. y >>= (λ i. scripts_from [] i.1 r.scripts >>= (λ ss. assign_name ss.1 x >>= (λ s2. Ok (On (tree.Read n c i.0 (token_name r.permission) ss.0) line, s2))))) three
    ∙ ap (λ y. y >>= (λ ss. assign_name ss.1 x >>= (λ s2. Ok (On (tree.Read n c (index_tree t i) (token_name r.permission) ss.0) line, s2)))) four
    ∙ ap (λ y. y >>= (λ s2. Ok (On (tree.Read n c (index_tree t i) (token_name r.permission) (scripts_tree t ss)) line, s2))) five
    ∙ ap (λ f. Ok (f, s3)) (sym (read_is t n c i (token_name r.permission) ss line))
    ∙ ap (λ q. Ok (kind_tree t (made.Read n c i q ss) line, s3)) (sym six)

pub peek_made : (s s1 s2 s3 : ProgramScope) (t : Stored) (x : RawName) (p : RawPeek) (line n c : ℕ) (i : Idx) (d : DoForm)
    → may_assign s x ≡ Ok n → cell_in s p.cell ≡ Ok c → index_in s p.index ≡ Ok (index_tree t i, s1)
    → exchange_in purpose.Via s1 p.via ≡ Ok (do_tree t d, s2) → assign_name s2 x ≡ Ok s3
    → peek_in x p line s ≡ Ok (kind_tree t (made.Peek n c i d) line, s3)
unfolding peek_in
peek_made s s1 s2 s3 t x p line n c i d one two three four five =
    ap (λ y. y >>= (λ n. cell_in s p.cell >>= (λ c. index_in s p.index >>= (λ i. exchange_in purpose.Via i.1 p.via >>= (λ d. assign_name d.1 x >>= (λ s2. Ok (On (tree.Peek n c i.0 d.0) line, s2))))))) one
    ∙ ap (λ y. y >>= (λ c. index_in s p.index >>= (λ i. exchange_in purpose.Via i.1 p.via >>= (λ d. assign_name d.1 x >>= (λ s2. Ok (On (tree.Peek n c i.0 d.0) line, s2)))))) two
    ∙ ap (λ y. y >>= (λ i. exchange_in purpose.Via i.1 p.via >>= (λ d. assign_name d.1 x >>= (λ s2. Ok (On (tree.Peek n c i.0 d.0) line, s2))))) three
    ∙ ap (λ y. y >>= (λ d. assign_name d.1 x >>= (λ s2. Ok (On (tree.Peek n c (index_tree t i) d.0) line, s2)))) four
    ∙ ap (λ y. y >>= (λ s2. Ok (On (tree.Peek n c (index_tree t i) (do_tree t d)) line, s2))) five
    ∙ ap (λ f. Ok (f, s3)) (sym (peek_is t n c i d line))

pub write_made : (s s1 s2 : ProgramScope) (t : Stored) (w : RawWrite) (line c p : ℕ) (i : Idx) (o : Opd) (ss : List Script)
    → cell_in s w.cell ≡ Ok c → index_in s w.index ≡ Ok (index_tree t i, s1) → operand_in s1 w.operand ≡ Ok o
    → scripts_from [] s1 w.scripts ≡ Ok (scripts_tree t ss, s2) → p ≡ token_name w.permission
    → write_in w line s ≡ Ok (kind_tree t (made.Write c i o p ss) line, s2)
unfolding write_in
write_made s s1 s2 t w line c p i o ss one two three four five =
    ap (λ y. y >>= (λ c. index_in s w.index >>= (λ i. operand_in i.1 w.operand >>= (λ o. scripts_from [] i.1 w.scripts >>= (λ ss. Ok (On (tree.Write c i.0 o (token_name w.permission) ss.0) line, ss.1)))))) one
    ∙ ap (λ y. y >>= (λ i. operand_in i.1 w.operand >>= (λ o. scripts_from [] i.1 w.scripts >>= (λ ss. Ok (On (tree.Write c i.0 o (token_name w.permission) ss.0) line, ss.1))))) two
    ∙ ap (λ y. y >>= (λ o. scripts_from [] s1 w.scripts >>= (λ ss. Ok (On (tree.Write c (index_tree t i) o (token_name w.permission) ss.0) line, ss.1)))) three
    ∙ ap (λ y. y >>= (λ ss. Ok (On (tree.Write c (index_tree t i) o (token_name w.permission) ss.0) line, ss.1))) four
    ∙ ap (λ f. Ok (f, s2)) (sym (write_is t c i o (token_name w.permission) ss line))
    ∙ ap (λ q. Ok (kind_tree t (made.Write c i o q ss) line, s2)) (sym five)
