use Rattle.std.proofs.Common.{◌≡◌, ◌+◌, ◌≤◌, drop, length-drop, get_or, arith, ◌∙◌}
use Rattle.std.proofs.lemmas.List.Elements.{All-from_recursion}
use Rattle.sync_lex.specs.Spelling.{IsLexeme}
use Rattle.sync_lex.specs.Lexemes.{line_after}
use Rattle.sync_lex.proofs.Feeds.{behind_gap, behind_word}
use Rattle.sync_lex.proofs.Held.{is_broken, is_done, read_here, is_next_line, is_same_line, whole}
use Rattle.sync_lex.proofs.Places.{lies}
use Rattle.sync_lex.proofs.Within.{gap_fits, word_fits}
use Rattle.sync_lex.proofs.lexer.lex.Goals as goal
use Rattle.sync_lex.proofs.lexer.lex.Goals.{then-text-at-eq10, else-text-at-eq10}

is_read : goal.returns-clause-exact
is_read c =
    let l = c.loop-at in
    whole c.args.text.now (omega arith) ∙ is_done c.args.text.now l.list l.at l.line _ 0 (omega arith) l.invariant.so_far

pub overflow_add-at : goal.overflow_add-at
overflow_add-at c =
    let l = c.loop-at in
    let text = c.args.text.now in
    omega (arith, length-drop l.at text, gap_fits (drop l.at text) c.in-Gap.len (read_here text l.at _ c.in-Gap.ensures))

pub loop-at-smaller-in-Gap : goal.loop-at-smaller-in-Gap
loop-at-smaller-in-Gap c =
    let l = c.loop-at in
    let text = c.args.text.now in
    omega (arith, length-drop l.at text, gap_fits (drop l.at text) c.in-Gap.len (read_here text l.at _ c.in-Gap.ensures))

pub loop-at-preserved-in-Gap : goal.loop-at-preserved-in-Gap
loop-at-preserved-in-Gap c =
    let l = c.loop-at in
    let text = c.args.text.now in
    let line = c.if-text-at-eq10.line in
    let line_is : line ≡ line_after (get_or text l.at 0) l.line = elim c.if-text-at-eq10.branch [
      | then-text-at-eq10 w ↦ is_next_line (get_or text l.at 0) l.line line (omega arith) w.line-is
      | else-text-at-eq10 w ↦ is_same_line (get_or text l.at 0) l.line line (λ e. omega arith) w.line-is
    ] in
    let lines : line ≤ l.at + 1 + 1 = elim c.if-text-at-eq10.branch [ then-text-at-eq10 w ↦ omega arith | else-text-at-eq10 w ↦ omega arith ] in
    let here = read_here text l.at _ c.in-Gap.ensures in
    let fits = gap_fits (drop l.at text) c.in-Gap.len here in
    record {
      so_far = rw line_is (behind_gap text l.list l.at l.line _ (omega arith) c.in-Gap.len here l.invariant.so_far);
      lines = omega arith;
      within = omega (arith, length-drop l.at text);
    }

pub overflow_add-at-in-Match : goal.overflow_add-at-in-Match
overflow_add-at-in-Match c =
    let l = c.loop-at in
    let text = c.args.text.now in
    omega (arith, length-drop l.at text, word_fits (drop l.at text) c.in-Match.kind c.in-Match.len (read_here text l.at _ c.in-Match.ensures))

pub overflow_cast-at-in-Match : goal.overflow_cast-at-in-Match
overflow_cast-at-in-Match c =
    let l = c.loop-at in
    let text = c.args.text.now in
    omega (arith, length-drop l.at text, word_fits (drop l.at text) c.in-Match.kind c.in-Match.len (read_here text l.at _ c.in-Match.ensures))

pub overflow_add-at-in-Match-2 : goal.overflow_add-at-in-Match-2
overflow_add-at-in-Match-2 c =
    let l = c.loop-at in
    let text = c.args.text.now in
    omega (arith, length-drop l.at text, word_fits (drop l.at text) c.in-Match.kind c.in-Match.len (read_here text l.at _ c.in-Match.ensures))

pub loop-at-smaller : goal.loop-at-smaller
loop-at-smaller c =
    let l = c.loop-at in
    let text = c.args.text.now in
    omega (arith, length-drop l.at text, word_fits (drop l.at text) c.in-Match.kind c.in-Match.len (read_here text l.at _ c.in-Match.ensures))

pub loop-at-preserved : goal.loop-at-preserved
loop-at-preserved c =
    let l = c.loop-at in
    let text = c.args.text.now in
    let here = read_here text l.at _ c.in-Match.ensures in
    let fits = word_fits (drop l.at text) c.in-Match.kind c.in-Match.len here in
    record {
      so_far = rw c.in_ok-push-in-Match.ensures.ok (behind_word text l.list l.at l.line _ (omega arith) c.in-Match.kind c.in-Match.len here l.invariant.so_far);
      lines = omega arith;
      within = omega (arith, length-drop l.at text);
    }

pub returns-in-Broken-clause-exact : goal.returns-in-Broken-clause-exact
returns-in-Broken-clause-exact c =
    let l = c.loop-at in
    let text = c.args.text.now in
    let here = read_here text l.at _ c.in-Broken.ensures in
    whole text (omega arith) ∙ is_broken text l.list l.at l.line _ c.in-Broken.rule (omega arith) here l.invariant.so_far

pub returns-clause-exact : goal.returns-clause-exact
returns-clause-exact c = is_read c

pub returns-clause-lexemes : goal.returns-clause-lexemes
returns-clause-lexemes c = All-from_recursion (IsLexeme c.args.text.now) c.loop-at.list (lies c.args.text.now _ (is_read c)).each

pub returns-clause-apart : goal.returns-clause-apart
returns-clause-apart c = (lies c.args.text.now _ (is_read c)).apart

pub returns-clause-last : goal.returns-clause-last
returns-clause-last c = (lies c.args.text.now _ (is_read c)).last

pub returns-clause-parted : goal.returns-clause-parted
returns-clause-parted c = (lies c.args.text.now _ (is_read c)).parted
