use Rattle.sync_exchange_values.proofs.Formulas.{le_at, lt_at, eq_at, not_at, and_at, or_at, imp_at}
use Rattle.sync_exchange_values.proofs.evaluation.Evaluation.+truth.Goals as goal

pub returns-in-Le : goal.returns-in-Le
returns-in-Le g t c =
    let v = g.M.Meanings.meaning c.args.self.now.names.now in
    let s = c.args.self.now.terms.now in
    le_at v s c.args.f c.form.result c.in-Le.a c.in-Le.b c.number.result c.number-in-Le.result c.apply.result c.in-Le.is c.form.ensures.value c.number.ensures c.number-in-Le.ensures c.apply.ensures

pub returns-in-Lt : goal.returns-in-Lt
returns-in-Lt g t c =
    let v = g.M.Meanings.meaning c.args.self.now.names.now in
    let s = c.args.self.now.terms.now in
    lt_at v s c.args.f c.form.result c.in-Lt.a c.in-Lt.b c.number-in-Lt.result c.number-in-Lt-2.result c.apply-in-Lt.result c.in-Lt.is c.form.ensures.value c.number-in-Lt.ensures c.number-in-Lt-2.ensures c.apply-in-Lt.ensures

pub returns-in-Eq : goal.returns-in-Eq
returns-in-Eq g t c =
    let v = g.M.Meanings.meaning c.args.self.now.names.now in
    let s = c.args.self.now.terms.now in
    eq_at v s c.args.f c.form.result c.in-Eq.a c.in-Eq.b c.number-in-Eq.result c.number-in-Eq-2.result c.apply-in-Eq.result c.in-Eq.is c.form.ensures.value c.number-in-Eq.ensures c.number-in-Eq-2.ensures c.apply-in-Eq.ensures

pub returns-in-Not : goal.returns-in-Not
returns-in-Not g t c =
    let v = g.M.Meanings.meaning c.args.self.now.names.now in
    let s = c.args.self.now.terms.now in
    not_at v s c.args.f c.form.result c.in-Not.g c.truth.result c.negated.result c.in-Not.is c.form.ensures.value c.truth.ensures c.negated.ensures

pub returns-in-And : goal.returns-in-And
returns-in-And g t c =
    let v = g.M.Meanings.meaning c.args.self.now.names.now in
    let s = c.args.self.now.terms.now in
    and_at v s c.args.f c.form.result c.in-And.g c.in-And.h c.truth-in-And.result c.truth-in-And-2.result c.apply-in-And.result c.in-And.is c.form.ensures.value c.truth-in-And.ensures c.truth-in-And-2.ensures c.apply-in-And.ensures

pub returns-in-Or : goal.returns-in-Or
returns-in-Or g t c =
    let v = g.M.Meanings.meaning c.args.self.now.names.now in
    let s = c.args.self.now.terms.now in
    or_at v s c.args.f c.form.result c.in-Or.g c.in-Or.h c.truth-in-Or.result c.truth-in-Or-2.result c.apply-in-Or.result c.in-Or.is c.form.ensures.value c.truth-in-Or.ensures c.truth-in-Or-2.ensures c.apply-in-Or.ensures

pub returns-in-Imp : goal.returns-in-Imp
returns-in-Imp g t c =
    let v = g.M.Meanings.meaning c.args.self.now.names.now in
    let s = c.args.self.now.terms.now in
    imp_at v s c.args.f c.form.result c.in-Imp.g c.in-Imp.h c.truth-in-Imp.result c.truth-in-Imp-2.result c.apply-in-Imp.result c.in-Imp.is c.form.ensures.value c.truth-in-Imp.ensures c.truth-in-Imp-2.ensures c.apply-in-Imp.ensures
