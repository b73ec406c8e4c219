use Rattle.std.proofs.Common.{◌&&◌, List, Option, map, sym, ap, ◌∙◌}
use Rattle.std.specs.HashMap.{get}
use Rattle.std.specs.List.{list_all}
use Rattle.std.proofs.Math.ListN.{drop_of_length-le}
use Rattle.sync_thread.specs.declared.program.Decl.{Decl}
use Rattle.sync_thread.specs.declared.program.ProofStmt.{ProofStmt}
use Rattle.sync_thread.specs.declared.program.Thread.{Thread}
use Rattle.sync_thread.specs.Arrays.{words_in}
use Rattle.sync_thread.specs.Views.{decl_tree, proof_steps_tree}
use Rattle.sync_typing.specs.Typing.{count_of}
use Rattle.sync_typing_paths.specs.declared.deeds.Deed.{Deed}
use Rattle.sync_typing_paths.specs.declared.deeds.Times.{Times}
use Rattle.sync_typing_paths.specs.Deeds.{gives, is_deed, is_once, is_sealed_in, later, same_deed}
use Rattle.sync_typing_paths.proofs.Counting.{Counted, all_given, all_sealed, both_then, both_else}
use Rattle.sync_typing_paths.proofs.deeds.is_complete.Goals.{then-given, else-given}
use Rattle.sync_typing_paths.proofs.deeds.is_complete.Goals as goal

pub returns : goal.returns
returns c = λ s.
    let times : Deed → Option Times = λ d. get same_deed c.loop-step.deeds d in
    let ss = proof_steps_tree s c.args.steps.now in
    let counted : Counted times ss = (λ d.
    sym (ap (λ (xs : List ProofStmt). later (times d) (count_of (is_deed d) (proof_steps_tree s xs))) (drop_of_length-le c.args.steps.now c.loop-step-test.false))
    ∙ c.loop-step.invariant s d) in
    let threads = ap (λ (ts : List Thread). list_all (λ n. is_once (get same_deed c.loop-step.deeds (gives n))) (map (λ (t : Thread). t.name) ts)) c.as_slice.ensures in
    let words = ap (λ (ds : List Decl). list_all (is_sealed_in (get same_deed c.loop-step.deeds)) (words_in (map (decl_tree s) ds))) c.as_slice-2.ensures in
    let given = c.are_given-given.ensures ∙ threads ∙ all_given times ss counted s c.args.program.now.threads in
    let sealed = c.are_sealed-sealed.ensures s ∙ words ∙ all_sealed times ss counted (words_in (map (decl_tree s) c.args.program.now.decls)) in
    elim c.if-given.branch [
      | then-given w ↦ both_then c.are_given-given.result c.are_sealed-sealed.result c.if-given.result w.if-given.true w.result-is ∙ (λ i. given i && sealed i)
      | else-given w ↦ both_else c.are_given-given.result c.are_sealed-sealed.result c.if-given.result w.if-given.false (w.result-is ∙ w.if-given.false) ∙ (λ i. given i && sealed i)
    ]
