-- Every list that is read keeps the names.
use Rattle.std.proofs.Common.{List, [], ◌∷◌, map, sym, subst}
use Rattle.std.specs.List.{AllByRecursion}
use Rattle.sync_thread_machine.specs.MachineWithProgram.{MachineWithProgram}
use Rattle.sync_parse_programs.specs.declared.statements.RawList.{RawList, fold-RawList, roll-RawList, fold-roll-RawList, map-RawList, ind-RawList}
use Rattle.sync_parse_programs.specs.declared.statements.RawStatement.{RawStatement, fold-RawStatement, roll-RawStatement, fold-roll-RawStatement, map-RawStatement}
use Rattle.sync_parse_programs.specs.declared.statements.RawWhen.{RawWhen, fold-RawWhen, roll-RawWhen, fold-roll-RawWhen, map-RawWhen}
use Rattle.sync_parse_programs.specs.declared.statements.RawTail.{RawTail, fold-RawTail, roll-RawTail, fold-roll-RawTail, map-RawTail}
use Rattle.sync_parse_programs.specs.declared.statements.RawIf.{RawIf, fold-RawIf, roll-RawIf, fold-roll-RawIf, map-RawIf}
use Rattle.sync_parse_programs.specs.declared.statements.RawLoop.{RawLoop, fold-RawLoop, roll-RawLoop, fold-roll-RawLoop, map-RawLoop}
use Rattle.sync_parse_programs.specs.declared.statements.RawRightSide.{RawRightSide, fold-RawRightSide, roll-RawRightSide, fold-roll-RawRightSide, map-RawRightSide}
use Rattle.sync_parse_programs.specs.declared.statements.RawStatementKind.{RawStatementKind, fold-RawStatementKind, roll-RawStatementKind, fold-roll-RawStatementKind, map-RawStatementKind}
use Rattle.sync_parse_programs.specs.declared.statements.RawRightSide.TheOpen.{RawList-F, RawIf-F, RawLoop-F, RawStatement-F, RawWhen-F, RawTail-F, RawRightSide-F, RawStatementKind-F}
use Rattle.sync_read_programs.specs.Statements.{Statement, Kind, RightSide, Tail, Body, when_in, tail_in, right_in, if_in, loop_in, kind_in, statement_of, body_of, list_in}
use Rattle.sync_read_laws.proofs.SinglesRead.{set_goes, read_goes, peek_goes, write_goes, print_goes, proof_goes, next_goes, break_goes, meet_goes, end_goes}
use Rattle.sync_read_laws.proofs.ListsRead.{GoodStatement, GoodKind, GoodRight, GoodBody, GoodTail, body_good, if_good, loop_good as loops_are_good, plain_tail, block_tail, when_good, assigned_good, stored_good}

abbrev right : RawRightSide → RightSide
right = fold-RawRightSide RightSide Kind Tail Kind Body Kind Statement Tail right_in kind_in tail_in if_in body_of loop_in statement_of when_in

abbrev kind : RawStatementKind → Kind
kind = fold-RawStatementKind RightSide Kind Tail Kind Body Kind Statement Tail right_in kind_in tail_in if_in body_of loop_in statement_of when_in

abbrev tail : RawTail → Tail
tail = fold-RawTail RightSide Kind Tail Kind Body Kind Statement Tail right_in kind_in tail_in if_in body_of loop_in statement_of when_in

abbrev branch : RawIf → Kind
branch = fold-RawIf RightSide Kind Tail Kind Body Kind Statement Tail right_in kind_in tail_in if_in body_of loop_in statement_of when_in

abbrev list : RawList → Body
list = fold-RawList RightSide Kind Tail Kind Body Kind Statement Tail right_in kind_in tail_in if_in body_of loop_in statement_of when_in

abbrev loop : RawLoop → Kind
loop = fold-RawLoop RightSide Kind Tail Kind Body Kind Statement Tail right_in kind_in tail_in if_in body_of loop_in statement_of when_in

abbrev statement : RawStatement → Statement
statement = fold-RawStatement RightSide Kind Tail Kind Body Kind Statement Tail right_in kind_in tail_in if_in body_of loop_in statement_of when_in

abbrev choice : RawWhen → Tail
choice = fold-RawWhen RightSide Kind Tail Kind Body Kind Statement Tail right_in kind_in tail_in if_in body_of loop_in statement_of when_in

module _ (x : MachineWithProgram) where
  abbrev GoodRightAt : RawRightSide → Type 0
  GoodRightAt y = GoodRight x (right y)

  abbrev RightThat : Type 0
  RightThat = (y : RawRightSide) × GoodRightAt y

  abbrev GoodKindAt : RawStatementKind → Type 0
  GoodKindAt y = GoodKind x (kind y)

  abbrev KindThat : Type 0
  KindThat = (y : RawStatementKind) × GoodKindAt y

  abbrev GoodTailAt : RawTail → Type 0
  GoodTailAt y = GoodTail x (tail y)

  abbrev TailThat : Type 0
  TailThat = (y : RawTail) × GoodTailAt y

  abbrev GoodIfAt : RawIf → Type 0
  GoodIfAt y = GoodKind x (branch y)

  abbrev IfThat : Type 0
  IfThat = (y : RawIf) × GoodIfAt y

  abbrev GoodListAt : RawList → Type 0
  GoodListAt y = GoodBody x (list y)

  abbrev ListThat : Type 0
  ListThat = (y : RawList) × GoodListAt y

  abbrev GoodLoopAt : RawLoop → Type 0
  GoodLoopAt y = GoodKind x (loop y)

  abbrev LoopThat : Type 0
  LoopThat = (y : RawLoop) × GoodLoopAt y

  abbrev GoodStatementAt : RawStatement → Type 0
  GoodStatementAt y = GoodStatement x (statement y)

  abbrev StatementThat : Type 0
  StatementThat = (y : RawStatement) × GoodStatementAt y

  abbrev GoodWhenAt : RawWhen → Type 0
  GoodWhenAt y = GoodTail x (choice y)

  abbrev WhenThat : Type 0
  WhenThat = (y : RawWhen) × GoodWhenAt y

  abbrev plain_right : RawRightSide-F RightThat KindThat TailThat IfThat ListThat LoopThat StatementThat WhenThat → RawRightSide-F RawRightSide RawStatementKind RawTail RawIf RawList RawLoop RawStatement RawWhen
  plain_right y = map-RawRightSide RightThat KindThat TailThat IfThat ListThat LoopThat StatementThat WhenThat RawRightSide RawStatementKind RawTail RawIf RawList RawLoop RawStatement RawWhen (λ e. e.0) (λ e. e.0) (λ e. e.0) (λ e. e.0) (λ e. e.0) (λ e. e.0) (λ e. e.0) (λ e. e.0) y

  abbrev seen_right : RawRightSide-F RawRightSide RawStatementKind RawTail RawIf RawList RawLoop RawStatement RawWhen → RawRightSide-F RightSide Kind Tail Kind Body Kind Statement Tail
  seen_right y = map-RawRightSide RawRightSide RawStatementKind RawTail RawIf RawList RawLoop RawStatement RawWhen RightSide Kind Tail Kind Body Kind Statement Tail right kind tail branch list loop statement choice y

  abbrev plain_kind : RawStatementKind-F RightThat KindThat TailThat IfThat ListThat LoopThat StatementThat WhenThat → RawStatementKind-F RawRightSide RawStatementKind RawTail RawIf RawList RawLoop RawStatement RawWhen
  plain_kind y = map-RawStatementKind RightThat KindThat TailThat IfThat ListThat LoopThat StatementThat WhenThat RawRightSide RawStatementKind RawTail RawIf RawList RawLoop RawStatement RawWhen (λ e. e.0) (λ e. e.0) (λ e. e.0) (λ e. e.0) (λ e. e.0) (λ e. e.0) (λ e. e.0) (λ e. e.0) y

  abbrev seen_kind : RawStatementKind-F RawRightSide RawStatementKind RawTail RawIf RawList RawLoop RawStatement RawWhen → RawStatementKind-F RightSide Kind Tail Kind Body Kind Statement Tail
  seen_kind y = map-RawStatementKind RawRightSide RawStatementKind RawTail RawIf RawList RawLoop RawStatement RawWhen RightSide Kind Tail Kind Body Kind Statement Tail right kind tail branch list loop statement choice y

  abbrev plain_tail_at : RawTail-F RightThat KindThat TailThat IfThat ListThat LoopThat StatementThat WhenThat → RawTail-F RawRightSide RawStatementKind RawTail RawIf RawList RawLoop RawStatement RawWhen
  plain_tail_at y = map-RawTail RightThat KindThat TailThat IfThat ListThat LoopThat StatementThat WhenThat RawRightSide RawStatementKind RawTail RawIf RawList RawLoop RawStatement RawWhen (λ e. e.0) (λ e. e.0) (λ e. e.0) (λ e. e.0) (λ e. e.0) (λ e. e.0) (λ e. e.0) (λ e. e.0) y

  abbrev seen_tail : RawTail-F RawRightSide RawStatementKind RawTail RawIf RawList RawLoop RawStatement RawWhen → RawTail-F RightSide Kind Tail Kind Body Kind Statement Tail
  seen_tail y = map-RawTail RawRightSide RawStatementKind RawTail RawIf RawList RawLoop RawStatement RawWhen RightSide Kind Tail Kind Body Kind Statement Tail right kind tail branch list loop statement choice y

  abbrev plain_branch : RawIf-F RightThat KindThat TailThat IfThat ListThat LoopThat StatementThat WhenThat → RawIf-F RawRightSide RawStatementKind RawTail RawIf RawList RawLoop RawStatement RawWhen
  plain_branch y = map-RawIf RightThat KindThat TailThat IfThat ListThat LoopThat StatementThat WhenThat RawRightSide RawStatementKind RawTail RawIf RawList RawLoop RawStatement RawWhen (λ e. e.0) (λ e. e.0) (λ e. e.0) (λ e. e.0) (λ e. e.0) (λ e. e.0) (λ e. e.0) (λ e. e.0) y

  abbrev seen_branch : RawIf-F RawRightSide RawStatementKind RawTail RawIf RawList RawLoop RawStatement RawWhen → RawIf-F RightSide Kind Tail Kind Body Kind Statement Tail
  seen_branch y = map-RawIf RawRightSide RawStatementKind RawTail RawIf RawList RawLoop RawStatement RawWhen RightSide Kind Tail Kind Body Kind Statement Tail right kind tail branch list loop statement choice y

  abbrev plain_list : RawList-F RightThat KindThat TailThat IfThat ListThat LoopThat StatementThat WhenThat → RawList-F RawRightSide RawStatementKind RawTail RawIf RawList RawLoop RawStatement RawWhen
  plain_list y = map-RawList RightThat KindThat TailThat IfThat ListThat LoopThat StatementThat WhenThat RawRightSide RawStatementKind RawTail RawIf RawList RawLoop RawStatement RawWhen (λ e. e.0) (λ e. e.0) (λ e. e.0) (λ e. e.0) (λ e. e.0) (λ e. e.0) (λ e. e.0) (λ e. e.0) y

  abbrev seen_list : RawList-F RawRightSide RawStatementKind RawTail RawIf RawList RawLoop RawStatement RawWhen → RawList-F RightSide Kind Tail Kind Body Kind Statement Tail
  seen_list y = map-RawList RawRightSide RawStatementKind RawTail RawIf RawList RawLoop RawStatement RawWhen RightSide Kind Tail Kind Body Kind Statement Tail right kind tail branch list loop statement choice y

  abbrev plain_loop : RawLoop-F RightThat KindThat TailThat IfThat ListThat LoopThat StatementThat WhenThat → RawLoop-F RawRightSide RawStatementKind RawTail RawIf RawList RawLoop RawStatement RawWhen
  plain_loop y = map-RawLoop RightThat KindThat TailThat IfThat ListThat LoopThat StatementThat WhenThat RawRightSide RawStatementKind RawTail RawIf RawList RawLoop RawStatement RawWhen (λ e. e.0) (λ e. e.0) (λ e. e.0) (λ e. e.0) (λ e. e.0) (λ e. e.0) (λ e. e.0) (λ e. e.0) y

  abbrev seen_loop : RawLoop-F RawRightSide RawStatementKind RawTail RawIf RawList RawLoop RawStatement RawWhen → RawLoop-F RightSide Kind Tail Kind Body Kind Statement Tail
  seen_loop y = map-RawLoop RawRightSide RawStatementKind RawTail RawIf RawList RawLoop RawStatement RawWhen RightSide Kind Tail Kind Body Kind Statement Tail right kind tail branch list loop statement choice y

  abbrev plain_statement : RawStatement-F RightThat KindThat TailThat IfThat ListThat LoopThat StatementThat WhenThat → RawStatement-F RawRightSide RawStatementKind RawTail RawIf RawList RawLoop RawStatement RawWhen
  plain_statement y = map-RawStatement RightThat KindThat TailThat IfThat ListThat LoopThat StatementThat WhenThat RawRightSide RawStatementKind RawTail RawIf RawList RawLoop RawStatement RawWhen (λ e. e.0) (λ e. e.0) (λ e. e.0) (λ e. e.0) (λ e. e.0) (λ e. e.0) (λ e. e.0) (λ e. e.0) y

  abbrev seen_statement : RawStatement-F RawRightSide RawStatementKind RawTail RawIf RawList RawLoop RawStatement RawWhen → RawStatement-F RightSide Kind Tail Kind Body Kind Statement Tail
  seen_statement y = map-RawStatement RawRightSide RawStatementKind RawTail RawIf RawList RawLoop RawStatement RawWhen RightSide Kind Tail Kind Body Kind Statement Tail right kind tail branch list loop statement choice y

  abbrev plain_choice : RawWhen-F RightThat KindThat TailThat IfThat ListThat LoopThat StatementThat WhenThat → RawWhen-F RawRightSide RawStatementKind RawTail RawIf RawList RawLoop RawStatement RawWhen
  plain_choice y = map-RawWhen RightThat KindThat TailThat IfThat ListThat LoopThat StatementThat WhenThat RawRightSide RawStatementKind RawTail RawIf RawList RawLoop RawStatement RawWhen (λ e. e.0) (λ e. e.0) (λ e. e.0) (λ e. e.0) (λ e. e.0) (λ e. e.0) (λ e. e.0) (λ e. e.0) y

  abbrev seen_choice : RawWhen-F RawRightSide RawStatementKind RawTail RawIf RawList RawLoop RawStatement RawWhen → RawWhen-F RightSide Kind Tail Kind Body Kind Statement Tail
  seen_choice y = map-RawWhen RawRightSide RawStatementKind RawTail RawIf RawList RawLoop RawStatement RawWhen RightSide Kind Tail Kind Body Kind Statement Tail right kind tail branch list loop statement choice y

  right_layer : (y : RawRightSide-F RightThat KindThat TailThat IfThat ListThat LoopThat StatementThat WhenThat) → GoodRight x (right_in (seen_right (plain_right y)))
  right_layer (RawRightSide-F.Atomic o y) n line a s h = assigned_good x n o (tail y.0) y.1 line a s h
  right_layer (RawRightSide-F.Read r) n line a s h = read_goes x a n r line s h
  right_layer (RawRightSide-F.Peek p) n line a s h = peek_goes x a n p line s h
  right_layer (RawRightSide-F.Calculated c label) n line a s h = set_goes x a n c label line s h

  right_good : (y : RawRightSide-F RightThat KindThat TailThat IfThat ListThat LoopThat StatementThat WhenThat) → GoodRightAt (roll-RawRightSide (plain_right y))
  right_good y = subst (GoodRight x) (sym (fold-roll-RawRightSide RightSide Kind Tail Kind Body Kind Statement Tail right_in kind_in tail_in if_in body_of loop_in statement_of when_in (plain_right y))) (right_layer y)

  kind_layer : (y : RawStatementKind-F RightThat KindThat TailThat IfThat ListThat LoopThat StatementThat WhenThat) → GoodKind x (kind_in (seen_kind (plain_kind y)))
  kind_layer (RawStatementKind-F.Store r y) line a s h = stored_good x r (tail y.0) y.1 line a s h
  kind_layer (RawStatementKind-F.Write w) line a s h = write_goes x a w line s h
  kind_layer (RawStatementKind-F.Print label o) line a s h = print_goes x a label o line s h
  kind_layer (RawStatementKind-F.If y) line a s h = y.1 line a s h
  kind_layer (RawStatementKind-F.Loop y) line a s h = y.1 line a s h
  kind_layer (RawStatementKind-F.Next j) line a s h = next_goes x a line s j h
  kind_layer (RawStatementKind-F.Break j) line a s h = break_goes x a line s j h
  kind_layer (RawStatementKind-F.Meet j) line a s h = meet_goes x a line s j h
  kind_layer (RawStatementKind-F.End j) line a s h = end_goes x a line s j h
  kind_layer (RawStatementKind-F.Proof p) line a s h = proof_goes x a line p s h
  kind_layer (RawStatementKind-F.Assign n y) line a s h = y.1 n line a s h

  kind_good : (y : RawStatementKind-F RightThat KindThat TailThat IfThat ListThat LoopThat StatementThat WhenThat) → GoodKindAt (roll-RawStatementKind (plain_kind y))
  kind_good y = subst (GoodKind x) (sym (fold-roll-RawStatementKind RightSide Kind Tail Kind Body Kind Statement Tail right_in kind_in tail_in if_in body_of loop_in statement_of when_in (plain_kind y))) (kind_layer y)

  tail_layer : (y : RawTail-F RightThat KindThat TailThat IfThat ListThat LoopThat StatementThat WhenThat) → GoodTail x (tail_in (seen_tail (plain_tail_at y)))
  tail_layer RawTail-F.Plain = plain_tail x
  tail_layer (RawTail-F.Block xs) = block_tail x xs
  tail_layer (RawTail-F.When y) = y.1

  tail_good : (y : RawTail-F RightThat KindThat TailThat IfThat ListThat LoopThat StatementThat WhenThat) → GoodTailAt (roll-RawTail (plain_tail_at y))
  tail_good y = subst (GoodTail x) (sym (fold-roll-RawTail RightSide Kind Tail Kind Body Kind Statement Tail right_in kind_in tail_in if_in body_of loop_in statement_of when_in (plain_tail_at y))) (tail_layer y)

  branch_layer : (y : RawIf-F RightThat KindThat TailThat IfThat ListThat LoopThat StatementThat WhenThat) → GoodKind x (if_in (seen_branch (plain_branch y)))
  branch_layer y = if_good x (seen_branch (plain_branch y)) y.yes.1 y.no.1

  branch_good : (y : RawIf-F RightThat KindThat TailThat IfThat ListThat LoopThat StatementThat WhenThat) → GoodIfAt (roll-RawIf (plain_branch y))
  branch_good y = subst (GoodKind x) (sym (fold-roll-RawIf RightSide Kind Tail Kind Body Kind Statement Tail right_in kind_in tail_in if_in body_of loop_in statement_of when_in (plain_branch y))) (branch_layer y)

  all_good : (ys : List StatementThat) → AllByRecursion (GoodStatement x) (map statement (map (λ e. e.0) ys))
  all_good [] = tt
  all_good (y ∷ ys) = (y.1, all_good ys)

  list_layer : (y : RawList-F RightThat KindThat TailThat IfThat ListThat LoopThat StatementThat WhenThat) → GoodBody x (body_of (seen_list (plain_list y)))
  list_layer y = body_good x (seen_list (plain_list y)) (all_good y.statements)

  list_good : (y : RawList-F RightThat KindThat TailThat IfThat ListThat LoopThat StatementThat WhenThat) → GoodListAt (roll-RawList (plain_list y))
  list_good y = subst (GoodBody x) (sym (fold-roll-RawList RightSide Kind Tail Kind Body Kind Statement Tail right_in kind_in tail_in if_in body_of loop_in statement_of when_in (plain_list y))) (list_layer y)

  loop_layer : (y : RawLoop-F RightThat KindThat TailThat IfThat ListThat LoopThat StatementThat WhenThat) → GoodKind x (loop_in (seen_loop (plain_loop y)))
  loop_layer y = loops_are_good x (seen_loop (plain_loop y)) y.body.1

  loop_good : (y : RawLoop-F RightThat KindThat TailThat IfThat ListThat LoopThat StatementThat WhenThat) → GoodLoopAt (roll-RawLoop (plain_loop y))
  loop_good y = subst (GoodKind x) (sym (fold-roll-RawLoop RightSide Kind Tail Kind Body Kind Statement Tail right_in kind_in tail_in if_in body_of loop_in statement_of when_in (plain_loop y))) (loop_layer y)

  statement_layer : (y : RawStatement-F RightThat KindThat TailThat IfThat ListThat LoopThat StatementThat WhenThat) → GoodStatement x (statement_of (seen_statement (plain_statement y)))
  statement_layer y = y.what.1 y.line

  statement_good : (y : RawStatement-F RightThat KindThat TailThat IfThat ListThat LoopThat StatementThat WhenThat) → GoodStatementAt (roll-RawStatement (plain_statement y))
  statement_good y = subst (GoodStatement x) (sym (fold-roll-RawStatement RightSide Kind Tail Kind Body Kind Statement Tail right_in kind_in tail_in if_in body_of loop_in statement_of when_in (plain_statement y))) (statement_layer y)

  choice_layer : (y : RawWhen-F RightThat KindThat TailThat IfThat ListThat LoopThat StatementThat WhenThat) → GoodTail x (when_in (seen_choice (plain_choice y)))
  choice_layer y = when_good x (seen_choice (plain_choice y)) y.yes.1 y.no.1

  choice_good : (y : RawWhen-F RightThat KindThat TailThat IfThat ListThat LoopThat StatementThat WhenThat) → GoodWhenAt (roll-RawWhen (plain_choice y))
  choice_good y = subst (GoodTail x) (sym (fold-roll-RawWhen RightSide Kind Tail Kind Body Kind Statement Tail right_in kind_in tail_in if_in body_of loop_in statement_of when_in (plain_choice y))) (choice_layer y)

  pub list_is_good : (l : RawList) → GoodBody x (list_in l)
  list_is_good = ind-RawList GoodRightAt GoodKindAt GoodTailAt GoodIfAt GoodListAt GoodLoopAt GoodStatementAt GoodWhenAt (λ y z is. subst (λ v. GoodRightAt (roll-RawRightSide v)) is (right_good z)) (λ y z is. subst (λ v. GoodKindAt (roll-RawStatementKind v)) is (kind_good z)) (λ y z is. subst (λ v. GoodTailAt (roll-RawTail v)) is (tail_good z)) (λ y z is. subst (λ v. GoodIfAt (roll-RawIf v)) is (branch_good z)) (λ y z is. subst (λ v. GoodListAt (roll-RawList v)) is (list_good z)) (λ y z is. subst (λ v. GoodLoopAt (roll-RawLoop v)) is (loop_good z)) (λ y z is. subst (λ v. GoodStatementAt (roll-RawStatement v)) is (statement_good z)) (λ y z is. subst (λ v. GoodWhenAt (roll-RawWhen v)) is (choice_good z))
