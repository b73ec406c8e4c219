use Rattle.std.proofs.Common.{refl, sym, ap, subst, ◌∙◌}
use Rattle.sync_kernel.specs.declared.hypotheses.Hypotheses.{Hypotheses}
use Rattle.sync_kernel.specs.Hypotheses.{known_in, AreReady}
use Rattle.sync_typing_places.proofs.Owning.{is_renewed, own_bare}
use Rattle.sync_typing_places.proofs.Placing.{own_holds}
use Rattle.sync_typing_places.proofs.places.Place.renew.Goals as goal

pub own_names-requires-clause-own : goal.own_names-requires-clause-own
own_names-requires-clause-own c =
    let s = c.args.terms.now in
    own_bare s _ _ _ (c.renew.ensures.holds s _ _ (own_holds s c.args.self.now c.requires.own)) c.renew.ensures.whole
    (c.renew.ensures.ids s c.requires.own.ids)
    (subst (λ (k : Hypotheses). AreReady s k) (sym c.replace-known.ensures.after) (c.new.ensures.ready s))

pub returns-clause-renewed : goal.returns-clause-renewed
returns-clause-renewed c =
    let s = c.args.terms.now in
    is_renewed s c.own_names.new.terms c.know_locals.new.terms c.args.self.now _ c.own_names.new.self c.know_locals.new.self
    c.args.own.now c.args.locals.now c.replace-known.result c.replace-known.ensures.value
    (c.renew.ensures.holds s _ _ (own_holds s c.args.self.now c.requires.own)) c.renew.ensures.whole
    (c.renew.ensures.ids s c.requires.own.ids) c.renew.ensures.begins
    (subst (λ (k : Hypotheses). AreReady s k) (sym c.replace-known.ensures.after) (c.new.ensures.ready s))
    (ap (λ (k : Hypotheses). known_in s k) c.replace-known.ensures.after ∙ c.new.ensures.known s) refl
    c.in_ok-own_names.ensures.becomes c.in_ok-know_locals.ensures.becomes
