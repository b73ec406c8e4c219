use Rattle.std.proofs.Common.{rules, ℤ, pos, sym, subst, ◌∙◌, refl, to_z, of_z}
use Rattle.std.specs.Prelude.{FitsSigned}
use Rattle.std.specs.Int.{w128}
use Rattle.std.proofs.lemmas.Int.{to_z-of_z}
use Rattle.sync_exchange_values.specs.declared.questions.Question.TheVariants as question
use Rattle.sync_exchange_values.proofs.Nodes.{AnswerAt, lit_at, name_at, add_at, sub_at, scale_at, get_at, has_at, get_stop, has_stop, size_at, sum_at, no_number, named_at, put_at, del_at, bump_at, empty_at, named_answer, built_answer, stopped_answer}
use Rattle.sync_exchange_values.proofs.evaluation.Evaluation.+terms.Goals as goal

pub number-returns-in-Lit : goal.number-returns-in-Lit
number-returns-in-Lit g t c =
    let v = g.M.Meanings.meaning c.args.self.now.names.now in
    let s = c.args.self.now.terms.now in
    let f : FitsSigned w128 c.in-Lit.n = search rules in
    let z = to_z-of_z w128 c.in-Lit.n f in
    lit_at v s c.args.t c.term.result c.in-Lit.n (to_z w128 (of_z w128 c.in-Lit.n)) c.in-Lit.is c.term.ensures.value (subst (FitsSigned w128) (sym z) f) z

pub number-returns-in-Name : goal.number-returns-in-Name
number-returns-in-Name g t c =
    let v = g.M.Meanings.meaning c.args.self.now.names.now in
    let s = c.args.self.now.terms.now in
    let f : FitsSigned w128 c.number.result = search rules in
    let z = to_z-of_z w128 c.number.result f in
    name_at v s c.args.t c.term.result c.in-Name.x (to_z w128 (of_z w128 c.number.result)) c.in-Name.is c.term.ensures.value (subst (FitsSigned w128) (sym z) f) (z ∙ c.number.ensures)

pub number-returns-in-Add : goal.number-returns-in-Add
number-returns-in-Add g t c =
    let v = g.M.Meanings.meaning c.args.self.now.names.now in
    let s = c.args.self.now.terms.now in
    add_at v s c.args.t c.term.result c.in-Add.a c.in-Add.b c.number-in-Add.result c.number-in-Add-2.result c.apply.result c.in-Add.is c.term.ensures.value c.number-in-Add.ensures c.number-in-Add-2.ensures c.apply.ensures

pub number-returns-in-Sub : goal.number-returns-in-Sub
number-returns-in-Sub g t c =
    let v = g.M.Meanings.meaning c.args.self.now.names.now in
    let s = c.args.self.now.terms.now in
    sub_at v s c.args.t c.term.result c.in-Sub.a c.in-Sub.b c.number-in-Sub.result c.number-in-Sub-2.result c.apply-in-Sub.result c.in-Sub.is c.term.ensures.value c.number-in-Sub.ensures c.number-in-Sub-2.ensures c.apply-in-Sub.ensures

pub number-returns-in-Scale : goal.number-returns-in-Scale
number-returns-in-Scale g t c =
    let v = g.M.Meanings.meaning c.args.self.now.names.now in
    let s = c.args.self.now.terms.now in
    let f : FitsSigned w128 c.in-Scale.times = search rules in
    let z = to_z-of_z w128 c.in-Scale.times f in
    scale_at v s c.args.t c.term.result c.in-Scale.times (to_z w128 (of_z w128 c.in-Scale.times)) c.in-Scale.a c.number-in-Scale.result c.apply-in-Scale.result c.in-Scale.is c.term.ensures.value f z c.number-in-Scale.ensures c.apply-in-Scale.ensures

pub number-returns-in-Ok : goal.number-returns-in-Ok
number-returns-in-Ok g t c =
    let v = g.M.Meanings.meaning c.args.self.now.names.now in
    let s = c.args.self.now.terms.now in
    let f : FitsSigned w128 c.in-Ok.key = search rules in
    let z = to_z-of_z w128 c.in-Ok.key f in
    get_at v s c.args.t c.term.result c.in-Get.m c.in-Get.k c.in-Ok.key c.ask.result c.in-Get.is c.term.ensures.value c.in-Ok.ensures (subst (λ (q : ℤ). AnswerAt v s c.in-Get.m (question.Get q) c.ask.result) z c.ask.ensures)

pub number-returns-in-Err : goal.number-returns-in-Err
number-returns-in-Err g t c =
    let v = g.M.Meanings.meaning c.args.self.now.names.now in
    let s = c.args.self.now.terms.now in
    get_stop v s c.args.t c.term.result c.in-Get.m c.in-Get.k c.in-Err.stop c.in-Get.is c.term.ensures.value c.in-Err.ensures

pub number-returns-in-Ok-number : goal.number-returns-in-Ok-number
number-returns-in-Ok-number g t c =
    let v = g.M.Meanings.meaning c.args.self.now.names.now in
    let s = c.args.self.now.terms.now in
    let f : FitsSigned w128 c.in-Ok-number.key = search rules in
    let z = to_z-of_z w128 c.in-Ok-number.key f in
    has_at v s c.args.t c.term.result c.in-Has.m c.in-Has.k c.in-Ok-number.key c.ask-in-Ok-number.result c.in-Has.is c.term.ensures.value c.in-Ok-number.ensures (subst (λ (q : ℤ). AnswerAt v s c.in-Has.m (question.Has q) c.ask-in-Ok-number.result) z c.ask-in-Ok-number.ensures)

pub number-returns-in-Err-number : goal.number-returns-in-Err-number
number-returns-in-Err-number g t c =
    let v = g.M.Meanings.meaning c.args.self.now.names.now in
    let s = c.args.self.now.terms.now in
    has_stop v s c.args.t c.term.result c.in-Has.m c.in-Has.k c.in-Err-number.stop c.in-Has.is c.term.ensures.value c.in-Err-number.ensures

pub number-returns-in-Size : goal.number-returns-in-Size
number-returns-in-Size g t c =
    let v = g.M.Meanings.meaning c.args.self.now.names.now in
    let s = c.args.self.now.terms.now in
    size_at v s c.args.t c.term.result c.in-Size.m c.ask-in-Size.result c.in-Size.is c.term.ensures.value c.ask-in-Size.ensures

pub number-returns-in-Sum : goal.number-returns-in-Sum
number-returns-in-Sum g t c =
    let v = g.M.Meanings.meaning c.args.self.now.names.now in
    let s = c.args.self.now.terms.now in
    sum_at v s c.args.t c.term.result c.in-Sum.m c.ask-in-Sum.result c.in-Sum.is c.term.ensures.value c.ask-in-Sum.ensures

pub number-returns-in-Nil : goal.number-returns-in-Nil
number-returns-in-Nil g t c =
    let v = g.M.Meanings.meaning c.args.self.now.names.now in
    let s = c.args.self.now.terms.now in
    no_number v s c.args.t c.term.result (pos 0) c.term.ensures.value refl c.in-Nil.is

pub ask-returns-in-Some : goal.ask-returns-in-Some
ask-returns-in-Some g t c =
    let v = g.M.Meanings.meaning c.args.self.now.names.now in
    let s = c.args.self.now.terms.now in
    named_answer v s c.args.m c.term.result c.in-Name.x c.args.question c.in-Some.map.now c.of.result c.in-Name.is c.term.ensures.value c.in-Some.ensures c.of.ensures.answer c.of.ensures.narrow

pub ask-returns-in-Ok : goal.ask-returns-in-Ok
ask-returns-in-Ok g t c =
    let v = g.M.Meanings.meaning c.args.self.now.names.now in
    let s = c.args.self.now.terms.now in
    named_answer v s c.args.m c.term.result c.in-Name.x c.args.question c.in-Ok.map c.of-in-Ok.result c.in-Name.is c.term.ensures.value c.in-Ok.ensures c.of-in-Ok.ensures.answer c.of-in-Ok.ensures.narrow

pub ask-returns-in-Ok-map : goal.ask-returns-in-Ok-map
ask-returns-in-Ok-map g t c =
    let v = g.M.Meanings.meaning c.args.self.now.names.now in
    let s = c.args.self.now.terms.now in
    built_answer v s c.args.m c.args.question c.in-Ok-map.map c.of-in-Ok-map.result c.in-Ok-map.ensures c.of-in-Ok-map.ensures.answer

pub ask-returns-in-Err-map : goal.ask-returns-in-Err-map
ask-returns-in-Err-map g t c =
    let v = g.M.Meanings.meaning c.args.self.now.names.now in
    let s = c.args.self.now.terms.now in
    stopped_answer v s c.args.m c.args.question c.in-Err-map.stop c.in-Err-map.ensures

pub map-returns-in-Some : goal.map-returns-in-Some
map-returns-in-Some g t c =
    let v = g.M.Meanings.meaning c.args.self.now.names.now in
    let s = c.args.self.now.terms.now in
    named_at v s c.args.t c.term.result c.in-Name.x c.in-Some.map.now c.copied.result c.in-Name.is c.term.ensures.value c.in-Some.ensures c.copied.ensures

pub map-returns-in-Ok : goal.map-returns-in-Ok
map-returns-in-Ok g t c =
    let v = g.M.Meanings.meaning c.args.self.now.names.now in
    let s = c.args.self.now.terms.now in
    named_at v s c.args.t c.term.result c.in-Name.x c.in-Ok.map c.copied-in-Ok.result c.in-Name.is c.term.ensures.value c.in-Ok.ensures c.copied-in-Ok.ensures

pub map-returns-in-Put : goal.map-returns-in-Put
map-returns-in-Put g t c =
    let v = g.M.Meanings.meaning c.args.self.now.names.now in
    let s = c.args.self.now.terms.now in
    put_at v s c.args.t c.term.result c.in-Put.m c.in-Put.k c.in-Put.w c.map-in-Put.result c.number.result c.number-in-Put.result c.put.result c.in-Put.is c.term.ensures.value c.map-in-Put.ensures c.number.ensures c.number-in-Put.ensures c.put.ensures

pub map-returns-in-Del : goal.map-returns-in-Del
map-returns-in-Del g t c =
    let v = g.M.Meanings.meaning c.args.self.now.names.now in
    let s = c.args.self.now.terms.now in
    del_at v s c.args.t c.term.result c.in-Del.m c.in-Del.k c.map-in-Del.result c.number-in-Del.result c.removed.result c.in-Del.is c.term.ensures.value c.map-in-Del.ensures c.number-in-Del.ensures c.removed.ensures

pub map-returns-in-Bump : goal.map-returns-in-Bump
map-returns-in-Bump g t c =
    let v = g.M.Meanings.meaning c.args.self.now.names.now in
    let s = c.args.self.now.terms.now in
    bump_at v s c.args.t c.term.result c.in-Bump.m c.in-Bump.k c.in-Bump.n c.map-in-Bump.result c.number-in-Bump.result c.number-in-Bump-2.result c.bumped.result c.in-Bump.is c.term.ensures.value c.map-in-Bump.ensures c.number-in-Bump.ensures c.number-in-Bump-2.ensures c.bumped.ensures

pub map-returns-in-Nil : goal.map-returns-in-Nil
map-returns-in-Nil g t c =
    let v = g.M.Meanings.meaning c.args.self.now.names.now in
    let s = c.args.self.now.terms.now in
    empty_at v s c.args.t c.term.result c.new.result c.term.ensures.value c.new.ensures c.in-Nil.is
