use Rattle.std.proofs.Common.{◌∙◌, ◌+◌, ◌++◌, ◌∷◌, [], List, ℕ, suc, ap, sym, subst, get_or, map, take, append_assoc}
use Rattle.sync_terms.specs.Trees.{Tree, Name}
use Rattle.sync_terms.specs.declared.nodes.Sym.{Sym}
use Rattle.sync_terms.specs.declared.nodes.TermId.{TermId}
use Rattle.sync_terms.proofs.Extending.{Extends-trans}
use Rattle.sync_machine.specs.Views.{symbols_of}
use Rattle.sync_induct.specs.Closing.{HavePairs, dollar_pair}
use Rattle.sync_induct.proofs.Substituting.{name-at, dollars-more, dollars-all, pairs-push, named}
use Rattle.sync_induct.proofs.closing.add_dollars.Goals as goal

pub dollar-requires : goal.dollar-requires
dollar-requires c = name-at c.args.params.now c.loop-param.param-index (record { 0 = 0 }) c.loop-param-test.true c.requires

pub returns-in_err-push-clause-keeps : goal.returns-in_err-push-clause-keeps
returns-in_err-push-clause-keeps c = Extends-trans c.loop-param.invariant.keeps c.in-Ok.ensures.keeps

pub loop-param-preserved : goal.loop-param-preserved
loop-param-preserved c =
    let xs = c.args.params.now in
    let i = c.loop-param.param-index in
    let d : Sym = record { 0 = 0 } in
    let e = c.in-Ok.ensures in
    let t = c.add_term.new.self in
    record {
      keeps = Extends-trans c.loop-param.invariant.keeps e.keeps;
      have = λ ps before.
          subst (λ (qs : List (Sym × TermId)). HavePairs t qs (ps ++ map dollar_pair (symbols_of (take (i + 1) xs)))) (sym c.in_ok-push.ensures.items)
          (subst (λ (ts : List (ℕ × Tree)). HavePairs t (c.loop-param.pairs.items ++ (get_or xs i d, c.in-Ok.term) ∷ []) ts)
          (append_assoc ps (map dollar_pair (symbols_of (take i xs))) _ ∙ ap (λ (ts : List (ℕ × Tree)). ps ++ ts) (dollars-more xs i d c.loop-param-test.true))
          (pairs-push c.loop-param.terms t c.loop-param.pairs.items (ps ++ map dollar_pair (symbols_of (take i xs))) (get_or xs i d, c.in-Ok.term) (Name (suc (get_or xs i d).0)) e.keeps (c.loop-param.invariant.have ps before) e.id.0
          (e.id.1 ∙ named c.loop-param.terms c.dollar.result (suc (get_or xs i d).0) c.dollar.ensures)));
    }

pub returns-clause-pairs : goal.returns-clause-pairs
returns-clause-pairs c = λ ps before. subst (λ (qs : List (ℕ × Tree)). HavePairs c.loop-param.terms c.loop-param.pairs.items (ps ++ qs)) (dollars-all c.args.params.now c.loop-param.param-index c.loop-param-test.false) (c.loop-param.invariant.have ps before)
