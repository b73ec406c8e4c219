use Rattle.std.proofs.Common.{sym, subst, arith}
use Rattle.sync_cli.specs.Answers.{IsAnswer}
use Rattle.sync_cli.proofs.Answering.{Allowed-from_answer, IsAnswer-unwrap}
use Rattle.sync_cli.proofs.serving.answer_to.Goals as goal

pub returns-in-Ok-clause-allowed : goal.returns-in-Ok-clause-allowed
returns-in-Ok-clause-allowed g c =
    let command = c.in-Some.command in
    let judged = IsAnswer-unwrap command c.deref.result.now c.respond.result c.respond.ensures in
    let answer : IsAnswer command c.deref.result.now c.unwrap_or.result = subst (IsAnswer command c.deref.result.now) (sym c.unwrap_or.ensures) judged in
    let read : IsAnswer command c.in-Ok.text.items c.unwrap_or.result = subst (λ text. IsAnswer command text c.unwrap_or.result) c.deref.ensures.value answer in
    Allowed-from_answer c.args.words.now _ _ _ _ c.in-Ok.text.items _ command c.unwrap_or.result c.in-Some.ensures c.in-Ok.ensures.given (omega (arith, c.in-Ok.text.ok.0)) c.in-Ok.ensures.whole c.in-Ok.ensures.bounded c.in-Ok.ensures.sound read
