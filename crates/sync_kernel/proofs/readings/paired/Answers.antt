use Rattle.std.proofs.Common.{◌≡◌, ◌<◌, ◌≤◌, ◌+◌, ◌++◌, ◌∷◌, [], List, ℕ, true, length, get_or, take, ap, sym, subst, ◌∙◌}
use Rattle.std.proofs.lemmas.List.{map_push, take_more}
use Rattle.std.proofs.lemmas.Result.{err_from_is_err_and}
use Rattle.sync_terms.specs.declared.nodes.Sym.{Sym}
use Rattle.sync_terms.specs.declared.nodes.TermId.{TermId}
use Rattle.sync_terms.specs.declared.store.TermStop.TheVariants.{TooLarge}
use Rattle.sync_terms.specs.Trees.{Tree, most_nodes, tree_size}
use Rattle.sync_terms.specs.Building.{StopsBuilding}
use Rattle.sync_terms.proofs.Extending.{Extends-trans}
use Rattle.sync_terms.proofs.BuildingLemmas.{HasTerm-same}
use Rattle.sync_kernel.specs.Readings.{tree_read, trees_read, ArePaired}
use Rattle.sync_kernel.specs.Taking.{all_fit}
use Rattle.sync_kernel.proofs.Pairing.{tree_read-more, paired_more, all_fit-push, too_large_at}
use Rattle.sync_kernel.proofs.readings.paired.Goals as goal

pub returns-in_err-read-clause-stop : goal.returns-in_err-read-clause-stop
returns-in_err-read-clause-stop c = λ large.
    (let s = c.args.terms.now in
    let k = c.args.names.now in
    let xs = c.args.list.now in
    let i = c.loop-i.i in
    let d : TermId = record { 0 = 0 } in
    let id = get_or xs i d in
    let q = err_from_is_err_and c.from_residual.result c.from_residual.ensures.1 in
    let is : c.in_err-read.field-0.0 ≡ TooLarge = cc in
    let stop : most_nodes < tree_size (tree_read c.loop-i.terms k id) = subst (StopsBuilding (tree_size (tree_read c.loop-i.terms k id))) is c.in_err-read.ensures.built.stop in
    too_large_at (tree_read s k) xs i d c.loop-i-test.true
    (subst (λ (x : Tree). most_nodes < tree_size x) (tree_read-more s c.loop-i.terms k id c.loop-i.invariant.keeps c.requires.said (c.requires.list i d c.loop-i-test.true)) stop))

pub returns-in_err-read-clause-keeps : goal.returns-in_err-read-clause-keeps
returns-in_err-read-clause-keeps c = Extends-trans c.loop-i.invariant.keeps c.read_term.ensures.keeps

pub returns-in_err-push-clause-keeps : goal.returns-in_err-push-clause-keeps
returns-in_err-push-clause-keeps c = Extends-trans c.loop-i.invariant.keeps c.read_term.ensures.keeps

pub loop-i-preserved : goal.loop-i-preserved
loop-i-preserved c =
    let s = c.args.terms.now in
    let k = c.args.names.now in
    let xs = c.args.list.now in
    let ps = c.args.params.now in
    let i = c.loop-i.i in
    let d : TermId = record { 0 = 0 } in
    let p : Sym = record { 0 = 0 } in
    let id = get_or xs i d in
    let t = c.read_term.new.terms in
    let below : i < length ps = subst (λ (n : ℕ). i < n) (sym c.requires.number) c.loop-i-test.true in
    let same = tree_read-more s c.loop-i.terms k id c.loop-i.invariant.keeps c.requires.said (c.requires.list i d c.loop-i-test.true) in
    let terms : trees_read s k (take i xs) ++ tree_read s k id ∷ [] ≡ trees_read s k (take (i + 1) xs) =
    sym (ap (trees_read s k) (take_more xs i d c.loop-i-test.true) ∙ map_push (tree_read s k) (take i xs) id) in
    record {
      keeps = Extends-trans c.loop-i.invariant.keeps c.read_term.ensures.keeps;
      paired = subst (ArePaired t (take (i + 1) ps) (trees_read s k (take (i + 1) xs))) (sym c.in_ok-push.ensures.items)
          (subst (λ (qs : List Sym). ArePaired t qs (trees_read s k (take (i + 1) xs)) (c.loop-i.pairs.items ++ (get_or ps i p, c.in_ok-read.read) ∷ [])) (sym (take_more ps i p below))
          (subst (λ (ts : List Tree). ArePaired t (take i ps ++ get_or ps i p ∷ []) ts (c.loop-i.pairs.items ++ (get_or ps i p, c.in_ok-read.read) ∷ [])) terms
          (paired_more c.loop-i.terms t c.read_term.ensures.keeps (take i ps) (trees_read s k (take i xs)) c.loop-i.pairs.items (get_or ps i p) c.in_ok-read.read (tree_read s k id) c.loop-i.invariant.paired
          (HasTerm-same c.in_ok-read.ensures.built.value same))));
      fits = subst (λ (ts : List Tree). all_fit ts ≡ true) terms
          (all_fit-push (trees_read s k (take i xs)) (tree_read s k id) c.loop-i.invariant.fits
          (subst (λ (x : Tree). tree_size x ≤ most_nodes) same c.in_ok-read.ensures.built.fits));
    }
