use Rattle.std.proofs.Common.{◌≡◌, true, false, cond, Some, take, sym, ap, ◌∙◌}
use Rattle.std.specs.Option.{is_some}
use Rattle.std.specs.HashSet.{contains}
use Rattle.std.specs.HashMap.{get}
use Rattle.sync_base.specs.Outcome.{first}
use Rattle.sync_induct.specs.declared.index.Title.{Title}
use Rattle.sync_induct.specs.Checks.{has_title, stray_fault}
use Rattle.sync_terms.specs.Proofs.{title_of, titles_of}
use Rattle.sync_induct.specs.Titles.{titled, same_title, first_at}
use Rattle.sync_induct.proofs.Titles.{lacks, placed-next, held-next, stray-next, stray-found, stray_end, placed_end, titles-end, unwanted, second}
use Rattle.sync_induct.proofs.index.places.Goals as goal
use Rattle.sync_induct.proofs.index.places.Goals.{then-not-contains-via-then-not-contains, then-not-contains-via-else-not-contains+then-contains_key}

pub loop-i-preserved : goal.loop-i-preserved
loop-i-preserved c =
    let p = c.index-proofs-i.result in
    let ps = c.args.proofs.now in
    let k = titled (title_of p) in
    let absent : is_some (get same_title c.loop-i.places k) ≡ false = rw c.new-title.ensures at (sym c.contains_key.ensures ∙ c.if-contains_key.false) in
    let added : (t : Title) → get same_title c.insert.new.self t ≡ cond (same_title k t) (Some c.loop-i.i) (get same_title c.loop-i.places t) = λ t. rw c.new-title.ensures at (c.in_ok-insert.ensures.updates.0 t) in
    record {
      placed = λ t. placed-next t ps c.loop-i.i p (get same_title c.loop-i.places t) (get same_title c.insert.new.self t) _ c.loop-i-test.true (sym c.index-proofs-i.is) (lacks (λ x. get same_title c.loop-i.places x) k t absent) (added t) (c.loop-i.invariant.placed t);
      held = λ t. held-next t ps c.loop-i.i p (get same_title c.loop-i.places t) (get same_title c.insert.new.self t) c.loop-i-test.true (sym c.index-proofs-i.is) (added t) (c.loop-i.invariant.held t);
      strays = λ os covers. stray-next os ps c.loop-i.i p _ c.loop-i-test.true (sym c.index-proofs-i.is)
          (let found : contains same_title c.args.wanted.now k ≡ true = rw c.new-title.ensures at (sym c.contains.ensures ∙ c.if-not-contains.false) in sym (covers k) ∙ found)
          (sym (c.loop-i.invariant.held k) ∙ absent) (c.loop-i.invariant.strays os covers);
    }

pub returns-then-not-contains-clause-exact : goal.returns-then-not-contains-clause-exact
returns-then-not-contains-clause-exact c = λ os covers.
    let p = c.index-proofs-i.result in
    let k = titled (title_of p) in
    let ps = c.args.proofs.now in
    stray-found os ps c.loop-i.i p _ c.loop-i-test.true (sym c.index-proofs-i.is)
    (elim c.then-not-contains.branch [
      | then-not-contains-via-then-not-contains w ↦
          let out : contains same_title c.args.wanted.now k ≡ false = rw c.new-title.ensures at (sym c.contains.ensures ∙ w.if-not-contains.true) in
          unwanted (has_title os k) (has_title (titles_of (take c.loop-i.i ps)) k) (sym (covers k) ∙ out)
      | then-not-contains-via-else-not-contains+then-contains_key w ↦
          let there : is_some (get same_title c.loop-i.places k) ≡ true = rw c.new-title.ensures at (sym w.contains_key.ensures ∙ w.if-contains_key.true) in
          second (has_title os k) (has_title (titles_of (take c.loop-i.i ps)) k) (sym (c.loop-i.invariant.held k) ∙ there)
    ])
    (c.loop-i.invariant.strays os covers)

pub returns-clause-placed : goal.returns-clause-placed
returns-clause-placed c = λ t. placed_end t c.loop-i.i (get same_title c.loop-i.places t) _ (ap (λ os. first (get same_title c.loop-i.places t) (first_at t c.loop-i.i os)) (sym (titles-end c.args.proofs.now c.loop-i.i c.loop-i-test.false)) ∙ c.loop-i.invariant.placed t)

pub returns-clause-exact : goal.returns-clause-exact
returns-clause-exact c = λ os covers. stray_end os (titles_of (take c.loop-i.i c.args.proofs.now)) _ (ap (λ rest. stray_fault os (titles_of (take c.loop-i.i c.args.proofs.now)) rest) (sym (titles-end c.args.proofs.now c.loop-i.i c.loop-i-test.false)) ∙ c.loop-i.invariant.strays os covers)
