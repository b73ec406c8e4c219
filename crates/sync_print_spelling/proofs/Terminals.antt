-- Terminals that say runs of lexemes, and productions put together.
use Rattle.std.proofs.Common.{◌≡◌, Option, Some, ℕ, List, [], ◌∷◌, ◌++◌, refl}
use Rattle.sync_lex.specs.declared.signs.Sign.{Sign}
use Rattle.sync_lex.specs.declared.terminals.Terminal.{Terminal}
use Rattle.sync_parse_exprs.specs.declared.expressions.RawExprKind.{RawExprKind}
use Rattle.sync_parse_forms.specs.Relations.{Spelled, The, AName, ANumber, OneOf, Yields, Here, Then}
use Rattle.sync_parse_grammar.specs.Expressions.{placed_at, Whole}
use Rattle.sync_print.specs.Lexemes.{Lexeme, one, one_name, one_number}
use Rattle.sync_print_spelling.specs.Says.{Says, no_more, one_more}

-- ---- terminals

-- terminals that say two runs of lexemes
pub split : {ts rest : List Terminal} (xs ys : List Lexeme) → Says (xs ++ ys) ts rest → (us : List Terminal) × Says xs ts us × Says ys us rest
split {ts = ts} [] ys h = (ts, no_more, h)
split (x ∷ xs) ys (one_more is h) = let r = split xs ys h in (r.0, one_more is r.1, r.2)

pub the_sign : {s : Sign} {ts rest : List Terminal} → Says (one s) ts rest → (line : ℕ) × The s ts rest line
unfolding one
the_sign (one_more {w = w} is no_more) = (w.line, record { terminal = w; stands = refl; is = is; line_is = refl })

pub the_number : {n : ℕ} {ts rest : List Terminal} → Says (one_number n) ts rest → ANumber ts rest n
unfolding one_number
the_number (one_more {w = w} is no_more) = record { terminal = w; stands = refl; is = is }

pub the_name : {x : ℕ} {ts rest : List Terminal} → Says (one_name x) ts rest → (line : ℕ) × AName ts rest (record { name = x; line = line })
unfolding one_name
the_name {x} (one_more {w = w} is no_more) = (w.line, record { terminal = w; number = x; strategy = is.0; stands = refl; is = is.1; name_is = refl })

-- a sign that a table has
pub one_of : {A : Type 0} {s : Sign} {ts rest : List Terminal} (table : Sign → Option A) (x : A) → table s ≡ Some x → Says (one s) ts rest → (line : ℕ) × OneOf table ts rest (x, line)
unfolding one
one_of {s = s} table x found (one_more {w = w} is no_more) = (w.line, record { terminal = w; sign = s; stands = refl; is = is; found = found; line_is = refl })

-- ---- productions, put together

pub here_is : {ts : List Terminal} → Here ts ts ts
here_is = record { none = refl; is = refl }

pub yields : {A : Type 0} (x : A) {ts : List Terminal} → Yields x ts ts x
yields x = record { none = refl; is = refl }

pub seq : {A B : Type 0} {One : Spelled A} {Next : A → Spelled B} {ts rest : List Terminal} {y : B} (x : A) (us : List Terminal) → One ts us x → Next x us rest y → Then One Next ts rest y
seq x us p q = record { value = x; middle = us; one = p; next = q }

pub whole : {K : Spelled RawExprKind} {ts rest : List Terminal} {x : RawExprKind} → K ts rest x → Whole K ts rest (placed_at x ts)
whole {ts = ts} {rest = rest} {x = x} h = seq ts ts here_is (seq x rest h (yields _))
