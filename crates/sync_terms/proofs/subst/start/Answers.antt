use Rattle.std.proofs.Common.{◌≡◌, ◌<◌, ◌-◌, ◌+◌, length, ◌∷◌, drop, get_or, nat_eq, sym, ap, ◌∙◌, cond, Some, arith}
use Rattle.std.proofs.lemmas.List.{drop_all, drop_more}
use Rattle.std.specs.Map.{lookup}
use Rattle.sync_terms.specs.declared.nodes.Sym.{Sym}
use Rattle.sync_terms.specs.declared.nodes.TermId.{TermId}
use Rattle.sync_terms.specs.Substitution.{term_of}
use Rattle.sync_terms.proofs.subst.start.Goals as goal

pub loop-i-init : goal.loop-i-init
loop-i-init c = λ x.
    ap (λ es. lookup (λ (k : Sym). nat_eq x k.0) es) c.new-symbols.ensures.empty ∙ ap (λ ps. term_of ps x) (sym (drop_all (length c.args.map.now) c.args.map.now (omega arith)))

pub loop-i-preserved : goal.loop-i-preserved
loop-i-preserved c = λ x.
    let map = c.args.map.now in
    let i = c.loop-i.i in
    let none : Sym × TermId = (record { 0 = 0 }, record { 0 = 0 }) in
    let pair = get_or map (i - 1) none in
    let within : i - 1 < length map = omega arith in
    let back : i - 1 + 1 ≡ i = omega arith in
    let rest : drop (i - 1) map ≡ pair ∷ drop i map = drop_more map (i - 1) none within ∙ ap (λ n. pair ∷ drop n map) back in
    c.in_ok-insert.ensures.updates.0 (record { 0 = x }) ∙ ap (λ o. cond (nat_eq pair.0.0 x) (Some pair.1) o) (c.loop-i.invariant x) ∙ ap (λ ps. term_of ps x) (sym rest)

pub returns : goal.returns
returns c = record {
  symbols = λ x. let start : c.loop-i.i ≡ 0 = omega arith in c.loop-i.invariant x ∙ ap (λ i. term_of (drop i c.args.map.now) x) start;
  no_term = λ id. ap (λ es. lookup (λ k. nat_eq id.0 k.0) es) c.new.ensures.empty;
  no_form = λ id. ap (λ es. lookup (λ k. nat_eq id.0 k.0) es) c.new-2.ensures.empty;
}
