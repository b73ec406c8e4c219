-- A production with how it is read: a form is both, and forms are put together.
use Rattle.std.proofs.Common.{◌≡◌, ℕ, zero, suc, Bool, List, [], ◌∷◌, refl, ap}
use Rattle.sync_lex.specs.declared.signs.Sign.{Sign}
use Rattle.sync_lex.specs.declared.terminals.Terminal.{Terminal}
use Rattle.sync_parse_exprs.specs.declared.raw_names.RawName.{RawName}
use Rattle.sync_parse_exprs.specs.Terminals.{sign_at, name_at, number_at}
use Rattle.sync_parse_forms.specs.Relations.{Spelled, The, AName, ANumber, Yields, Here, Then, Either, Many, Listed}
use Rattle.sync_parse_forms.specs.Codes.{Code}
use Rattle.sync_parse_forms.specs.Readings as readings
use Rattle.sync_parse_forms.specs.Readings.{Levelled, gives, followed, inside, a_row, a_list, reading, read_levels, reading_nested}
use Rattle.sync_parse_forms.specs.Spellings.{Inside, spelling, spelled_levels, spelling_nested}

pub record Form (A : Type 0) : Type 1 where
  pub spelled : Spelled A
  pub read : Levelled A

abbrev pub the : Sign → Form ℕ
the s = record { spelled = The s; read = λ left. sign_at left s }

abbrev pub name : Form RawName
name = record { spelled = AName; read = name_at }

abbrev pub number : Form ℕ
number = record { spelled = ANumber; read = number_at }

abbrev pub yields : {A : Type 0} → A → Form A
yields x = record { spelled = Yields x; read = gives x }

abbrev pub here : Form (List Terminal)
here = record { spelled = Here; read = readings.here }

infixl 10 ◌>>=◌
abbrev pub ◌>>=◌ : {A B : Type 0} → Form A → (A → Form B) → Form B
m >>= g = record { spelled = Then m.spelled (λ x. (g x).spelled); read = followed m.read (λ x. (g x).read) }

abbrev pub choice : {A : Type 0} → (List Terminal → Bool) → Form A → Form A → Form A
choice begins m n = record { spelled = Either m.spelled n.spelled; read = readings.choice begins m.read n.read }

abbrev pub many : {A : Type 0} → (List Terminal → Bool) → Form A → Form (List A)
many begins m = record { spelled = Many m.spelled; read = a_row begins m.read }

abbrev pub list : {A : Type 0} → Sign → Form A → Form (List A)
list close m = record { spelled = Listed m.spelled; read = a_list close m.read }

abbrev pub within : {A : Type 0} → Sign → Sign → Form A → Form (A × ℕ)
within open_ close m = record { spelled = Inside open_ close m.spelled; read = inside open_ close m.read }

-- ---- productions that are data

-- the leaves and what stands in its own brackets as forms
abbrev pub form : {K : Type 0 → Type 1} {R A : Type 0} → ((X : Type 0) → K X → Form X) → Form R → Code K R A → Form A
form k r c = record { spelled = spelling (λ X x. (k X x).spelled) r.spelled c; read = reading (λ X x. (k X x).read) r.read c }

abbrev pub nested : {K : Type 0 → Type 1} {R : Type 0} → ((X : Type 0) → K X → Form X) → Code K R R → Form R
nested k c = record { spelled = spelling_nested (λ X x. (k X x).spelled) c; read = reading_nested (λ X x. (k X x).read) c }

-- with so many levels
abbrev pub levels : {K : Type 0 → Type 1} {R : Type 0} → ((X : Type 0) → K X → Form X) → Code K R R → ℕ → Form R
levels k c depth = record { spelled = spelled_levels (λ X x. (k X x).spelled) c depth; read = read_levels (λ X x. (k X x).read) c depth }
