use Rattle.std.proofs.Common.{rules, ◌≡◌, false, ap, sym, ◌∙◌, nat_eq}
use Rattle.std.specs.List.{list_any}
use Rattle.std.proofs.lemmas.Bool.{not-false}
use Rattle.sync_thread.specs.Views.{word_tree}
use Rattle.sync_typing_paths.specs.declared.blocks.Stage.{Stage}
use Rattle.sync_typing_paths.specs.Statements.{stage_decided, stage_of}
use Rattle.sync_typing_paths.proofs.Staging.{decided_new, decided_again, decided_none}
use Rattle.sync_typing_paths.proofs.blocks.decided.Goals.{else-is_guarded-via-then-is_guarded+in_ok-insert-in-Opened+else-branch, else-is_guarded-via-else-is_guarded}
use Rattle.sync_typing_paths.proofs.blocks.decided.Goals as goal

pub returns-then-branch : goal.returns-then-branch
returns-then-branch c = λ s.
    let w = word_tree s c.args.word.now in
    let absent : list_any (nat_eq c.args.clause) c.in-Opened.cases.keys ≡ false = search rules in
    decided_new w c.in-Opened.cases.keys c.insert.new.self.keys c.args.clause (sym (c.is_guarded.ensures s) ∙ c.if-is_guarded.true) absent c.in_ok-insert-in-Opened.ensures.keys
    ∙ ap (λ (st : Stage). stage_decided w (stage_of st) c.args.clause) (sym c.in-Opened.is)

pub returns-else-is_guarded : goal.returns-else-is_guarded
returns-else-is_guarded c = elim c.else-is_guarded.branch [
  | else-is_guarded-via-then-is_guarded+in_ok-insert-in-Opened+else-branch w ↦ λ s.
      decided_again (word_tree s c.args.word.now) c.in-Opened.cases.keys c.args.clause (sym (c.is_guarded.ensures s) ∙ w.if-is_guarded.true)
      (not-false (list_any (nat_eq c.args.clause) c.in-Opened.cases.keys) (sym w.in_ok-insert-in-Opened.ensures.added ∙ w.if-branch.false))
      ∙ ap (λ (st : Stage). stage_decided (word_tree s c.args.word.now) (stage_of st) c.args.clause) (sym c.in-Opened.is)
  | else-is_guarded-via-else-is_guarded w ↦ λ s.
      decided_none (word_tree s c.args.word.now) _ c.args.clause (sym (c.is_guarded.ensures s) ∙ w.if-is_guarded.false)
      ∙ ap (λ (st : Stage). stage_decided (word_tree s c.args.word.now) (stage_of st) c.args.clause) (sym c.in-Opened.is)
]
