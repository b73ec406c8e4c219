use Rattle.std.proofs.Common.{◌≡◌, List, [], ◌∷◌, ◌++◌, ℕ, length, ap, sym, ◌∙◌, arith, refl}
use Rattle.sync_base.specs.declared.names.Name.{Name}
use Rattle.sync_lex.specs.declared.terminals.TerminalKind.{TerminalKind}
use Rattle.sync_lex.specs.Terminals.{name_of}
use Rattle.sync_lex.proofs.Interned.{named_new}
use Rattle.sync_lex.proofs.terminal_reader.said_first.Goals as goal

pub returns-clause-what : goal.returns-clause-what
returns-clause-what c =
    let number : c.in-Ok.number ≡ length c.args.names.now = omega arith in
    rw (number, c.strategy_of.ensures, named_new c.args.bytes.now c.args.names.now c.requires c.in_default.ensures) refl

pub returns-clause-names : goal.returns-clause-names
returns-clause-names c =
    c.in_ok-push.ensures.ok ∙ ap (λ (bs : List ℕ). c.args.names.now ++ name_of bs ∷ []) c.in_ok-from_slice.ensures
    ∙ sym (ap (λ (s : TerminalKind × List Name). s.1) (named_new c.args.bytes.now c.args.names.now c.requires c.in_default.ensures))
