use Rattle.std.proofs.Common.{List, Some, cond, ap, sym, ◌∙◌}
use Rattle.std.specs.HashMap.{get_by}
use Rattle.std.specs.Str.{bytes_eq}
use Rattle.std.proofs.lemmas.Map.Text.{hash_map_updates_str}
use Rattle.sync_base.specs.declared.names.Name.{Name}
use Rattle.sync_lex.specs.declared.terminals.TerminalKind.{TerminalKind}
use Rattle.sync_lex.specs.Terminals.{named}
use Rattle.sync_lex.proofs.Interned.{said_named, recalled, recalls_more}
use Rattle.sync_lex.proofs.terminal_reader.said.Goals as goal

pub returns-in-Some-clause-what : goal.returns-in-Some-clause-what
returns-in-Some-clause-what c =
    let names = c.args.names.now in
    let bytes = c.args.bytes.now in
    ap (λ (s : TerminalKind × List Name). s.0) (sym (ap (named names bytes) c.in-Some.ensures) ∙ said_named names c.args.kind bytes c.if-eq.ensures)

pub returns-in-Some-clause-names : goal.returns-in-Some-clause-names
returns-in-Some-clause-names c =
    let names = c.args.names.now in
    let bytes = c.args.bytes.now in
    ap (λ (s : TerminalKind × List Name). s.1) (sym (ap (named names bytes) c.in-Some.ensures) ∙ said_named names c.args.kind bytes c.if-eq.ensures)

pub returns-in-Some-get-clause-what : goal.returns-in-Some-get-clause-what
returns-in-Some-get-clause-what c =
    let is = recalled c.args.names.now (λ q. get_by (λ r. bytes_eq q r.now) c.args.met.now) c.args.bytes.now c.in-Some-get.what.now c.requires c.in-Some-get.ensures.value in
    ap (λ (s : TerminalKind × List Name). s.0) (is ∙ said_named c.args.names.now c.args.kind c.args.bytes.now c.if-eq.ensures)

pub returns-in-Some-get-clause-names : goal.returns-in-Some-get-clause-names
returns-in-Some-get-clause-names c =
    let is = recalled c.args.names.now (λ q. get_by (λ r. bytes_eq q r.now) c.args.met.now) c.args.bytes.now c.in-Some-get.what.now c.requires c.in-Some-get.ensures.value in
    ap (λ (s : TerminalKind × List Name). s.1) (is ∙ said_named c.args.names.now c.args.kind c.args.bytes.now c.if-eq.ensures)

pub returns-clause-kept : goal.returns-clause-kept
returns-clause-kept c =
    let bytes = c.args.bytes.now in
    let names = c.args.names.now in
    let put = hash_map_updates_str bytes c.args.met.now c.insert.new.self (Some c.in_ok-what.what) c.in_ok-insert.ensures.updates in
    rw c.in_ok-what.ensures.names
    (recalls_more bytes names (λ q. get_by (λ r. bytes_eq q r.now) c.args.met.now) (λ q. get_by (λ r. bytes_eq q r.now) c.insert.new.self) c.requires
    (λ q. put q ∙ ap (λ (w : TerminalKind). cond (bytes_eq bytes q) (Some w) (get_by (λ r. bytes_eq q r.now) c.args.met.now)) c.in_ok-what.ensures.what))
