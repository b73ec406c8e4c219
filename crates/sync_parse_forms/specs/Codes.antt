-- A grammar as data: each production is a value, and all that is said of it is computed from that value.
use Rattle.std.specs.Prelude.{◌≡◌, ℕ, List, ◌⊎◌}
use Rattle.sync_lex.specs.declared.signs.Sign.{Sign}
use Rattle.sync_lex.specs.declared.terminals.Terminal.{Terminal}
use Rattle.sync_parse_exprs.specs.declared.raw_names.RawName.{RawName}

-- what is looked at to tell what begins here
pub data Test : Type 0 where
  at_sign : Sign → Test
  at_signs : List Sign → Test
  at_name : Test
  at_number : Test
  -- anything but a closing brace
  to_brace : Test

-- A production whose value is of type A. K: productions that are known from elsewhere. R: the values of the one production that
-- may stand in its own brackets.
pub data Code (K : Type 0 → Type 1) (R : Type 0) : Type 0 → Type 1 where
  leaf : {A : Type 0} → K A → Code K R A
  -- a sign; its line
  a_sign : Sign → Code K R ℕ
  a_name : Code K R RawName
  a_number : Code K R ℕ
  inner : Code K R R
  -- no terminals
  nothing : Code K R (Unit {0})
  -- a sign whose line does not count, and another production; the same behind it
  after : {A : Type 0} → Sign → Code K R A → Code K R A
  before : {A : Type 0} → Code K R A → Sign → Code K R A
  both : {A B : Type 0} → Code K R A → Code K R B → Code K R (A × B)
  -- the first where the test says so, else the second
  either : {A B : Type 0} → Test → Code K R A → Code K R B → Code K R (A ⊎ B)
  -- items in a row, as long as the test says so
  row : {A : Type 0} → Test → Code K R A → Code K R (List A)
  -- items with commas between, or nothing where this sign comes
  listed : {A : Type 0} → Sign → Code K R A → Code K R (List A)
  -- what stands between two brackets; the same with the line of the closing one
  bracketed : {A : Type 0} → Sign → Sign → Code K R A → Code K R A
  enclosed : {A : Type 0} → Sign → Sign → Code K R A → Code K R (A × ℕ)
  -- a tree made of what was spelled, and of the terminals from its beginning on; its parts are what was spelled
  node : {A B : Type 0} → (made : List Terminal → A → B) → (parts : B → A) → ((ws : List Terminal) (x : A) → parts (made ws x) ≡ x) → Code K R A → Code K R B
