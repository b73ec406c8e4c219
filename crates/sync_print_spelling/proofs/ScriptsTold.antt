-- What is read as a step, a block or a script is within the limits, and its terminals name what is shown of it.
use Rattle.std.proofs.Common.{◌≡◌, ℕ, zero, suc, List, [], ◌∷◌, ◌++◌, map, refl, sym, ap, ◌∙◌, subst}
use Rattle.std.specs.List.{flat_map, All}
use Rattle.std.proofs.lemmas.List.Elements.{All-head, All-tail}
use Rattle.sync_base.specs.declared.names.NameList.{NameList}
use Rattle.sync_lex.specs.declared.signs.Sign.{Sign}
use Rattle.sync_lex.specs.declared.signs.Sign.TheVariants as sign
use Rattle.sync_lex.specs.declared.terminals.Terminal.{Terminal}
use Rattle.sync_parse_exprs.specs.declared.raw_names.RawName.{RawName}
use Rattle.sync_parse_exprs.specs.declared.expressions.RawExpr.{RawExpr}
use Rattle.sync_parse.specs.declared.scripts.RawBlock.{RawBlock}
use Rattle.sync_parse.specs.declared.scripts.RawStepKind.{RawStepKind}
use Rattle.sync_parse.specs.declared.scripts.RawStepKind.TheVariants as step
use Rattle.sync_parse_forms.specs.Relations.{Spelled, Yields, the_one, the_other}
use Rattle.sync_parse_grammar.specs.Scripts.{Same, Sum, Inst, Parts, Lookup, Cong, Split, Cut, StepKind, Step, BlockOf, Nested, Block}
use Rattle.sync_print.specs.Exprs.{Plain, plain}
use Rattle.sync_print.specs.Scripts.{PlainStep, PlainBlock, plain_block, plain_step, block_of}
use Rattle.sync_print.specs.ShowScripts.{show_step, show_steps, show_block, show_lookup}
use Rattle.sync_print_spelling.specs.Limits.{ExprFits, StepFits, BlockFits}
use Rattle.sync_print_spelling.proofs.Told.{Tells, both, behind, nothing, silent, sign_told, name_told, none_read}
use Rattle.sync_print_spelling.proofs.ListsTold.{Read, Reads, rows, series}
use Rattle.sync_print_spelling.proofs.ExpressionsTold.{exprs_told, args_told}
use Rattle.sync_print_spelling.proofs.HypsTold.{hyps_told, parts_told, as_told}
use Rattle.sync_print_spelling.proofs.Steps.{said_step, said-Same, said-Sum, said-Inst, said-Parts, said-Split, said-Cut, said-Read, said-Size, said-Total, said-Cong}
use Rattle.sync_print_spelling.proofs.Scripts.{said-Step, said-Block}

-- ---- steps

-- a step is within the limits, and terminals name what is shown of it
abbrev OfStep : NameList → PlainStep → List Terminal → List Terminal → Type 0
OfStep names s ts rest = Read names (StepFits s) (show_step s) ts rest

-- a step that a production ends with
step_end : {names : NameList} {x y : RawStepKind} {s : PlainStep} {ts us rest : List Terminal} → Yields x us rest y → said_step x ≡ s → OfStep names s ts us → OfStep names (said_step y) ts rest
step_end {names = names} {s = s} {ts = ts} {rest = rest} d says r =
    let same : said_step _ ≡ s = ap said_step d.is ∙ says in
    let here : OfStep names s ts rest = record { fits = r.fits; tells = behind r.tells (none_read d) } in
    subst (λ z. OfStep names z ts rest) (sym same) here

same_told : {names : NameList} (ts rest : List Terminal) (x : RawStepKind) → Same ts rest x → OfStep names (said_step x) ts rest
unfolding Same
same_told ts rest x d = step_end d.next.next said-Same (record { fits = tt; tells = both (sign_told sign.Same d.one) (sign_told sign.Semicolon d.next.one) })

sum_told : {names : NameList} (ts rest : List Terminal) (x : RawStepKind) → Sum ts rest x → OfStep names (said_step x) ts rest
unfolding Sum
sum_told ts rest x d =
    let p = d.next in
    let e = p.next in
    let y = (series parts_told).at d.middle p.middle p.value p.one in
    step_end e.next (said-Sum p.value) (record { fits = y.fits; tells = both (both (sign_told sign.Sum d.one) y.tells) (sign_told sign.Semicolon e.one) })

inst_told : {names : NameList} (ts rest : List Terminal) (x : RawStepKind) → Inst ts rest x → OfStep names (said_step x) ts rest
unfolding Inst
inst_told ts rest x d =
    let h = d.next in
    let es = h.next in
    let a = es.next in
    let e = a.next in
    let y = hyps_told.at d.middle h.middle h.value h.one in
    let ys = args_told.at h.middle es.middle es.value es.one in
    step_end e.next (said-Inst h.value es.value a.value) (record {
      fits = (y.fits, ys.fits);
      tells = both (both (both (both (both (both (sign_told sign.Inst d.one) y.tells) (silent sign.OpenRound)) ys.tells) (silent sign.CloseRound)) (as_told a.value a.one)) (sign_told sign.Semicolon e.one);
    })

parts_step_told : {names : NameList} (ts rest : List Terminal) (x : RawStepKind) → Parts ts rest x → OfStep names (said_step x) ts rest
unfolding Parts
parts_step_told ts rest x d =
    let h = d.next in
    let a = h.next in
    let c = a.next in
    let b = c.next in
    let e = b.next in
    let y = hyps_told.at d.middle h.middle h.value h.one in
    step_end e.next (said-Parts h.value a.value b.value) (record {
      fits = y.fits;
      tells = both (both (both (both (both (sign_told sign.Parts d.one) y.tells) (as_told a.value a.one)) (sign_told sign.Comma c.one)) (name_told b.one)) (sign_told sign.Semicolon e.one);
    })

lookup_told : {names : NameList} (opening : Sign) (made : RawExpr → RawExpr → RawName → RawStepKind) (what : Plain → Plain → ℕ → PlainStep)
    → ((m k : RawExpr) (x : RawName) → said_step (made m k x) ≡ what (plain m) (plain k) x.name)
    → ((m k : Plain) (x : ℕ) (ts rest : List Terminal) → ExprFits m → ExprFits k → Tells names (show_lookup opening m k x) ts rest → OfStep names (what m k x) ts rest)
    → (ts rest : List Terminal) (x : RawStepKind) → Lookup opening made ts rest x → OfStep names (said_step x) ts rest
unfolding Lookup
lookup_told opening made what said of_what ts rest x d =
    let m = d.next in
    let c = m.next in
    let k = c.next in
    let a = k.next in
    let e = a.next in
    let y = exprs_told.at d.middle m.middle m.value m.one in
    let z = exprs_told.at c.middle k.middle k.value k.one in
    step_end e.next (said m.value k.value a.value) (of_what (plain m.value) (plain k.value) a.value.name ts e.middle y.fits z.fits
    (both (both (both (both (both (sign_told opening d.one) y.tells) (sign_told sign.Comma c.one)) z.tells) (as_told a.value a.one)) (sign_told sign.Semicolon e.one)))

cong_told : {names : NameList} (ts rest : List Terminal) (x : RawStepKind) → Cong ts rest x → OfStep names (said_step x) ts rest
unfolding Cong
cong_told ts rest x d =
    let m = d.next in
    let c = m.next in
    let j = c.next in
    let b = j.next in
    let k = b.next in
    let a = k.next in
    let e = a.next in
    let u = exprs_told.at d.middle m.middle m.value m.one in
    let v = exprs_told.at c.middle j.middle j.value j.one in
    let w = exprs_told.at b.middle k.middle k.value k.one in
    step_end e.next (said-Cong m.value j.value k.value a.value) (record {
      fits = (u.fits, v.fits, w.fits);
      tells = both (both (both (both (both (both (both (sign_told sign.Cong d.one) u.tells) (sign_told sign.Comma c.one)) v.tells) (sign_told sign.Comma b.one)) w.tells) (as_told a.value a.one))
          (sign_told sign.Semicolon e.one);
    })

-- the blocks of a step
abbrev BlocksTold : NameList → Spelled RawBlock → Type 0
BlocksTold names block = Reads names block plain_block show_block BlockFits

split_told : {names : NameList} {I : Spelled RawBlock} → BlocksTold names I → (ts rest : List Terminal) (x : RawStepKind) → Split I ts rest x → OfStep names (said_step x) ts rest
unfolding Split
split_told i ts rest x d =
    let h = d.next in
    let a = h.next in
    let b = a.next in
    let c = b.next in
    let y = hyps_told.at d.middle h.middle h.value h.one in
    let u = i.at a.middle b.middle b.value b.one in
    let v = i.at b.middle c.middle c.value c.one in
    step_end c.next (said-Split h.value a.value b.value c.value) (record {
      fits = (y.fits, u.fits, v.fits);
      tells = both (both (both (both (sign_told sign.Split d.one) y.tells) (as_told a.value a.one)) u.tells) v.tells;
    })

cut_told : {names : NameList} {I : Spelled RawBlock} → BlocksTold names I → (ts rest : List Terminal) (x : RawStepKind) → Cut I ts rest x → OfStep names (said_step x) ts rest
unfolding Cut
cut_told i ts rest x d =
    let f = d.next in
    let a = f.next in
    let b = a.next in
    let y = exprs_told.at d.middle f.middle f.value f.one in
    let u = i.at a.middle b.middle b.value b.one in
    step_end b.next (said-Cut f.value a.value b.value) (record { fits = (y.fits, u.fits); tells = both (both (both (sign_told sign.Cut d.one) y.tells) (as_told a.value a.one)) u.tells })

kind_told : {names : NameList} {I : Spelled RawBlock} → BlocksTold names I → (ts rest : List Terminal) (x : RawStepKind) → StepKind I ts rest x → OfStep names (said_step x) ts rest
unfolding StepKind
kind_told i ts rest x (the_one d) = split_told i ts rest x d
kind_told i ts rest x (the_other (the_one d)) = cut_told i ts rest x d
kind_told i ts rest x (the_other (the_other (the_one d))) = same_told ts rest x d
kind_told i ts rest x (the_other (the_other (the_other (the_one d)))) = sum_told ts rest x d
kind_told i ts rest x (the_other (the_other (the_other (the_other (the_one d))))) = inst_told ts rest x d
kind_told i ts rest x (the_other (the_other (the_other (the_other (the_other (the_one d)))))) = parts_step_told ts rest x d
kind_told i ts rest x (the_other (the_other (the_other (the_other (the_other (the_other (the_one d))))))) =
    lookup_told sign.Read step.Read PlainStep.read said-Read (λ m k y us vs p q r. record { fits = (p, q); tells = r }) ts rest x d
kind_told i ts rest x (the_other (the_other (the_other (the_other (the_other (the_other (the_other (the_one d)))))))) =
    lookup_told sign.Size step.Size PlainStep.size said-Size (λ m k y us vs p q r. record { fits = (p, q); tells = r }) ts rest x d
kind_told i ts rest x (the_other (the_other (the_other (the_other (the_other (the_other (the_other (the_other (the_one d))))))))) =
    lookup_told sign.Total step.Total PlainStep.total said-Total (λ m k y us vs p q r. record { fits = (p, q); tells = r }) ts rest x d
kind_told i ts rest x (the_other (the_other (the_other (the_other (the_other (the_other (the_other (the_other (the_other d))))))))) = cong_told ts rest x d

steps_told : {names : NameList} {I : Spelled RawBlock} → BlocksTold names I → Reads names (Step I) plain_step show_step StepFits
unfolding Step
steps_told {names = names} i = record {
  at = λ ts rest raw d.
      let k = d.next in
      let y = kind_told i d.middle k.middle k.value k.one in
      let says : plain_step raw ≡ said_step k.value = ap plain_step k.next.is ∙ said-Step k.value _ in
      let here : OfStep names (said_step k.value) ts rest = record { fits = y.fits; tells = both (nothing d.one.none) (behind y.tells (none_read k.next)) } in
      subst (λ z. OfStep names z ts rest) (sym says) here;
}

-- ---- blocks

block_fits : (ss : List PlainStep) → All StepFits ss → BlockFits (block_of ss)
block_fits [] fits = tt
block_fits (s ∷ ss) fits = (All-head StepFits s ss fits, block_fits ss (All-tail StepFits s ss fits))

steps_shown : (ss : List PlainStep) → show_steps (block_of ss) ≡ flat_map show_step ss
steps_shown [] = refl
steps_shown (s ∷ ss) = ap (λ xs. show_step s ++ xs) (steps_shown ss)

-- a block is within the limits, and terminals name what is shown of it
abbrev OfBlock : NameList → PlainBlock → List Terminal → List Terminal → Type 0
OfBlock names b ts rest = Read names (BlockFits b) (show_block b) ts rest

block_told : {names : NameList} {I : Spelled RawBlock} → BlocksTold names I → BlocksTold names (BlockOf I)
unfolding BlockOf
block_told {names = names} i = record {
  at = λ ts rest raw d.
      let s = d.next in
      let c = s.next in
      let ys = (rows (steps_told i)).at d.middle s.middle s.value s.one in
      let ss = map plain_step s.value in
      let says : plain_block raw ≡ block_of ss = ap plain_block c.next.is ∙ said-Block s.value _ in
      let inner : Tells names (show_steps (block_of ss)) d.middle s.middle = subst (λ xs. Tells names xs d.middle s.middle) (sym (steps_shown ss)) ys.tells in
      let here : OfBlock names (block_of ss) ts rest
      = record { fits = block_fits ss ys.fits; tells = behind (both (both (sign_told sign.OpenBrace d.one) inner) (sign_told sign.CloseBrace c.one)) (none_read c.next) } in
      subst (λ z. OfBlock names z ts rest) (sym says) here;
}

nested : {names : NameList} (depth : ℕ) → BlocksTold names (Nested depth)
unfolding Nested
nested zero = record { at = λ ts rest raw d. absurd d }
nested (suc depth) = block_told (nested depth)

pub blocks_told : {names : NameList} → Reads names Block plain_block show_block BlockFits
unfolding Block
blocks_told = record { at = λ ts rest raw d. (nested d.0).at ts rest raw d.1 }
