-- How a list ends, as a loop reads it.
use Rattle.std.proofs.Common.{◌≡◌, ℕ, zero, suc, ◌+◌, ◌-◌, ◌<◌, Bool, true, false, List, [], ◌∷◌, ◌++◌, Result, Ok, Err, refl, sym, ◌∙◌, arith}
use Rattle.sync_lex.specs.declared.signs.Sign.TheVariants as sign
use Rattle.sync_lex.specs.declared.terminals.Terminal.{Terminal}
use Rattle.sync_lex.specs.Terminals.{is_sign}
use Rattle.sync_parse_exprs.specs.declared.faults.Halt.{Halt}
use Rattle.sync_parse_exprs.specs.declared.faults.Halt.TheVariants as halt
use Rattle.sync_parse_exprs.specs.Faults.{Halts}
use Rattle.sync_parse_exprs.specs.Terminals.{Read, Reader, behind_commas}

at_end : {A : Type 0} (item : Reader A) (more : ℕ) (held : List A) → behind_commas item more held [] ≡ Ok (held, [])
unfolding behind_commas
at_end item zero held = refl
at_end item (suc more) held = refl

at_other : {A : Type 0} (item : Reader A) (more : ℕ) (held : List A) (w : Terminal) (ws : List Terminal) → is_sign w sign.Comma ≡ false → behind_commas item more held (w ∷ ws) ≡ Ok (held, w ∷ ws)
unfolding behind_commas
at_other item zero held w ws is = refl
at_other item (suc more) held w ws is = rw is refl

pub commas_end : {A : Type 0} (item : Reader A) (more : ℕ) (held : List A) (ts : List Terminal) (total : Read (List A)) → ts ≡ [] → behind_commas item more held ts ≡ total → total ≡ Ok (held, ts)
commas_end item more held ts total is so_far = sym so_far ∙ rw is (at_end item more held)

pub commas_other : {A : Type 0} (item : Reader A) (more : ℕ) (held : List A) (w : Terminal) (ws : List Terminal) (ts : List Terminal) (total : Read (List A)) → ts ≡ w ∷ ws → is_sign w sign.Comma ≡ false
    → behind_commas item more held ts ≡ total → total ≡ Ok (held, ts)
commas_other item more held w ws ts total front is so_far = sym so_far ∙ rw front (at_other item more held w ws is)

-- a list stops where an item does
pub commas_stop : {A : Type 0} (h : Halt) (item : Reader A) (n i : ℕ) (held : List A) (w : Terminal) (ws : List Terminal) (ts : List Terminal) (total : Read (List A))
    → i < n → ts ≡ w ∷ ws → is_sign w sign.Comma ≡ true → Halts h (item ws) → behind_commas item (n - i) held ts ≡ total → Halts h total
unfolding behind_commas
commas_stop halt.Memory item n i held w ws ts total lt front is fault so_far = tt
commas_stop (halt.Fault f) item n i held w ws ts total lt front is fault so_far =
    let k : n - i ≡ suc (n - (i + 1)) = omega arith in
    let one : behind_commas item (n - i) held ts ≡ Err f = rw (k, front, is, fault) refl in
    sym so_far ∙ one
