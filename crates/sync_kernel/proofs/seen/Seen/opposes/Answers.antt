use Rattle.std.proofs.Common.{Bool, ◌||◌, sym, ap, ◌∙◌}
use Rattle.std.proofs.lemmas.Bool.{or_left}
use Rattle.sync_terms.specs.Trees.{Not}
use Rattle.sync_kernel_facts.specs.Literals.{literal_form}
use Rattle.sync_kernel.specs.Opposed.{is_fact, is_undone}
use Rattle.sync_kernel.proofs.Seeing.{said_has, denied_has, undone_some, undone_none}
use Rattle.sync_kernel.proofs.seen.Seen.opposes.Goals as goal
use Rattle.sync_kernel.proofs.seen.Seen.opposes.Goals.{in-Some+else-has, in_default}

pub returns-then-has : goal.returns-then-has
returns-then-has c = λ s fs shared h stored bare denies.
    (let form = literal_form s c.args.says in
    let d = c.in-Some.denied in
    let u = undone_some s fs form c.args.denies d c.in-Some.is denies in
    sym (or_left (is_undone fs form) (is_fact fs (Not form)) (u.0 ∙ sym (said_has s fs c.args.self.now d shared h u.1 u.2) ∙ sym c.has.ensures ∙ c.if-has.true)))

pub returns : goal.returns
returns c = λ s fs shared h stored bare denies.
    (let form = literal_form s c.args.says in
    let denied = c.has-2.ensures ∙ denied_has s fs c.args.self.now c.args.says shared h stored bare in
    denied ∙ sym (ap (λ (b : Bool). b || is_fact fs (Not form)) (elim c.match-denies.branch [
      | in-Some+else-has w ↦
          (let d = w.in-Some.denied in
          let u = undone_some s fs form c.args.denies d w.in-Some.is denies in
          u.0 ∙ sym (said_has s fs c.args.self.now d shared h u.1 u.2) ∙ sym w.has.ensures ∙ w.if-has.false)
      | in_default w ↦ undone_none s fs form c.args.denies w.in_default.is denies
    ])))
