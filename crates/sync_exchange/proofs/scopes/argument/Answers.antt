use Rattle.std.proofs.Common.{◌≤◌, ◌<◌, pos, length, get_or, sym, ◌∙◌, arith, rules, SFits}
use Rattle.std.specs.Int.{w128}
use Rattle.std.proofs.lemmas.Int.{to_z-of_z}
use Rattle.sync_terms.specs.declared.nodes.Sym.{Sym}
use Rattle.sync_join.proofs.Through.{is_same, is_other}
use Rattle.sync_exchange.proofs.Walks.{argument-here, argument-later, argument-none, argument-short}
use Rattle.sync_exchange.proofs.scopes.argument.Goals as goal

pub returns-then-i-args : goal.returns-then-i-args
returns-then-i-args c =
    let short : length c.args.args.now ≤ c.loop-i.i = omega arith in
    sym (argument-short c.args.params.now c.args.args.now c.args.x c.loop-i.i short) ∙ c.loop-i.invariant

pub returns-then-x-params : goal.returns-then-x-params
returns-then-x-params c =
    let ps = c.args.params.now in
    let ns = c.args.args.now in
    let i = c.loop-i.i in
    let d : Sym = record { 0 = 0 } in
    let h : i < length ps = omega arith in
    let k : i < length ns = omega arith in
    let fits : SFits w128 (get_or ns i (pos 0)) = search rules in
    to_z-of_z w128 (get_or ns i (pos 0)) fits
    ∙ sym (argument-here ps ns c.args.x i d (pos 0) h k (is_same c.args.x (get_or ps i d).0 c.if-x-params.true)) ∙ c.loop-i.invariant

pub loop-i-preserved : goal.loop-i-preserved
loop-i-preserved c =
    let ps = c.args.params.now in
    let ns = c.args.args.now in
    let i = c.loop-i.i in
    let d : Sym = record { 0 = 0 } in
    let h : i < length ps = omega arith in
    let k : i < length ns = omega arith in
    sym (argument-later ps ns c.args.x i d h k (is_other c.args.x (get_or ps i d).0 c.if-x-params.false)) ∙ c.loop-i.invariant

pub returns : goal.returns
returns c =
    let none : length c.args.params.now ≤ c.loop-i.i = omega arith in
    sym (argument-none c.args.params.now c.args.args.now c.args.x c.loop-i.i none) ∙ c.loop-i.invariant
