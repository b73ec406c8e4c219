-- How many bytes are taken of a source.
use Rattle.std.proofs.Common.{◌≡◌, ℕ, ◌+◌, ◌≤◌, List, ◌++◌, length, Option, Some, None, refl, sym, ap, subst, arith, length-append}
use Rattle.sync_base.specs.Outside.{GivesFront}
use Rattle.sync_cli.specs.Streams.{TakesAtMost}

pub takes_none : (most : ℕ) (told left : Option (List ℕ)) → left ≡ told → TakesAtMost most told left
takes_none most None left same = tt
takes_none most (Some told) left same = let P : Option (List ℕ) → Type 0 = TakesAtMost most (Some told) in subst P (sym same) (omega arith)

pub takes_front : (most : ℕ) (told left : Option (List ℕ)) (given : List ℕ) → GivesFront told left given → length given ≤ most → TakesAtMost most told left
takes_front most None left given front few = tt
takes_front most (Some told) left given front few =
    let P : Option (List ℕ) → Type 0 = TakesAtMost most (Some told) in
    subst P (sym front.2) (omega (arith, ap length front.1, length-append given front.0))

-- what is taken behind a front
pub takes_on : (most more : ℕ) (told left rest : Option (List ℕ)) (given : List ℕ) → GivesFront told left given → TakesAtMost more left rest → length given + more ≤ most → TakesAtMost most told rest
takes_on most more None left rest given front taken few = tt
takes_on most more (Some told) left None given front taken few =
    let P : Option (List ℕ) → Type 0 = λ l. TakesAtMost more l None in subst P front.2 taken
takes_on most more (Some told) left (Some rest) given front taken few =
    let P : Option (List ℕ) → Type 0 = λ l. TakesAtMost more l (Some rest) in
    let behind : length front.0 ≤ more + length rest = subst P front.2 taken in
    omega (arith, ap length front.1, length-append given front.0, behind)
