-- Productions as relations: the terminals from a place on, the terminals that are left behind it, and the value that is spelled.
-- Nothing here looks ahead, counts, or has a limit.
use Rattle.std.specs.Prelude.{◌≡◌, ℕ, List, [], ◌∷◌, Option, Some}
use Rattle.sync_base.specs.declared.strategies.Strategy.{Strategy}
use Rattle.sync_lex.specs.declared.signs.Sign.{Sign}
use Rattle.sync_lex.specs.declared.signs.Sign.TheVariants as sign
use Rattle.sync_lex.specs.declared.terminals.TerminalKind.TheVariants as what
use Rattle.sync_lex.specs.declared.terminals.Terminal.{Terminal}
use Rattle.sync_parse_exprs.specs.declared.raw_names.RawName.{RawName}

abbrev pub Spelled : Type 0 → Type 1
Spelled A = List Terminal → List Terminal → A → Type 0

-- ---- single lexemes

-- this sign or reserved word; the value is its line
pub record The (s : Sign) (ts rest : List Terminal) (line : ℕ) : Type 0 where
  pub terminal : Terminal
  pub stands : ts ≡ terminal ∷ rest
  pub is : terminal.what ≡ what.Sign s
  pub line_is : line ≡ terminal.line

-- a name that is no reserved word
pub record AName (ts rest : List Terminal) (x : RawName) : Type 0 where
  pub terminal : Terminal
  pub number : ℕ
  pub strategy : Option Strategy
  pub stands : ts ≡ terminal ∷ rest
  pub is : terminal.what ≡ what.Name number strategy
  pub name_is : x ≡ record { name = number; line = terminal.line }

pub record ANumber (ts rest : List Terminal) (n : ℕ) : Type 0 where
  pub terminal : Terminal
  pub stands : ts ≡ terminal ∷ rest
  pub is : terminal.what ≡ what.Number n

-- a name that is the name of a strategy
pub record AStrategy (ts rest : List Terminal) (strategy : Strategy) : Type 0 where
  pub terminal : Terminal
  pub number : ℕ
  pub stands : ts ≡ terminal ∷ rest
  pub is : terminal.what ≡ what.Name number (Some strategy)

-- a sign or reserved word that a table has, for what it has there, with its line
pub record OneOf {A : Type 0} (table : Sign → Option A) (ts rest : List Terminal) (x : A × ℕ) : Type 0 where
  pub terminal : Terminal
  pub sign : Sign
  pub stands : ts ≡ terminal ∷ rest
  pub is : terminal.what ≡ what.Sign sign
  pub found : table sign ≡ Some x.0
  pub line_is : x.1 ≡ terminal.line

-- ---- one after another, one or the other, and repetition

-- no terminals, for this value
pub record Yields {A : Type 0} (x : A) (ts rest : List Terminal) (y : A) : Type 0 where
  pub none : ts ≡ rest
  pub is : y ≡ x

-- no terminals; the value is the terminals that begin here
pub record Here (ts rest : List Terminal) (from : List Terminal) : Type 0 where
  pub none : ts ≡ rest
  pub is : from ≡ ts

-- one production, and behind it another, which may use its value
pub record Then {A B : Type 0} (One : Spelled A) (Next : A → Spelled B) (ts rest : List Terminal) (y : B) : Type 0 where
  pub value : A
  pub middle : List Terminal
  pub one : One ts middle value
  pub next : Next value middle rest y

infixl 10 ◌>>=◌
abbrev pub ◌>>=◌ : {A B : Type 0} → Spelled A → (A → Spelled B) → Spelled B
one >>= next = Then one next

infixl 10 ◌>>◌
abbrev pub ◌>>◌ : {A B : Type 0} → Spelled A → Spelled B → Spelled B
one >> next = Then one (λ x. next)

-- one production or the other
pub data Either {A : Type 0} (One Other : Spelled A) (ts rest : List Terminal) (x : A) : Type 0 where
  the_one : One ts rest x → Either One Other ts rest x
  the_other : Other ts rest x → Either One Other ts rest x

infixr 8 ◌or◌
abbrev pub ◌or◌ : {A : Type 0} → Spelled A → Spelled A → Spelled A
one or other = Either one other

-- an item and ";"
unfoldable pub Closed : {A : Type 0} → Spelled A → Spelled A
Closed item = do
  x ← item
  The sign.Semicolon
  Yields x

-- items in a row, as many as there are
pub data Many {A : Type 0} (Item : Spelled A) : List Terminal → List Terminal → List A → Type 0 where
  nothing : {ts : List Terminal} → Many Item ts ts []
  more : {ts us rest : List Terminal} {x : A} {xs : List A} → Item ts us x → Many Item us rest xs → Many Item ts rest (x ∷ xs)

-- items with commas between, at least one
unfoldable pub Series : {A : Type 0} → Spelled A → Spelled (List A)
Series item = do
  x ← item
  xs ← Many (The sign.Comma >> item)
  Yields (x ∷ xs)

-- items with commas between, or nothing
unfoldable pub Listed : {A : Type 0} → Spelled A → Spelled (List A)
Listed item = Yields [] or Series item

-- a list in round brackets
unfoldable pub InRound : {A : Type 0} → Spelled A → Spelled (List A)
InRound item = do
  The sign.OpenRound
  xs ← Listed item
  The sign.CloseRound
  Yields xs

unfoldable pub Names : Spelled (List RawName)
Names = InRound AName
