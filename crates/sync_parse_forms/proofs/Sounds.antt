-- What a reading function gives is spelled: the law for each way to put productions together.
use Rattle.std.proofs.Common.{◌≡◌, ℕ, zero, suc, ◌-◌, ◌==◌, Bool, true, false, if◌then◌else◌, List, [], ◌∷◌, ◌++◌, length, Result, Ok, Err, Option, Some, None, refl, sym, ap, ◌∙◌, subst, append_assoc, append-nil}
use Rattle.sync_base.specs.Outcome as outcome
use Rattle.sync_lex.specs.declared.signs.Sign.{Sign}
use Rattle.sync_lex.specs.declared.signs.Sign.TheVariants as sign
use Rattle.sync_lex.specs.contracts.signs.Sign.{the_type}
use Rattle.sync_lex.specs.declared.terminals.TerminalKind.{TerminalKind}
use Rattle.sync_lex.specs.declared.terminals.TerminalKind.TheVariants as what
use Rattle.sync_lex.specs.declared.terminals.Terminal.{Terminal}
use Rattle.sync_lex.specs.Terminals.{says_sign, is_sign}
use Rattle.sync_parse_exprs.specs.declared.faults.Fault.{Fault}
use Rattle.sync_parse_exprs.specs.Terminals.{Read, Reader, begins_with, sign_at, name_at, name_said, number_at, number_said, strategy_at, strategy_said, row, behind_commas, series, listed, in_round, names_at}
use Rattle.sync_parse_forms.specs.Relations.{Spelled, The, AName, ANumber, AStrategy, OneOf, Yields, Here, Then, ◌>>◌, Either, the_one, the_other, Many, nothing, more, Series, Listed, InRound, Names}
use denote.Enum.Bare.{same_true}

-- what is read here, if it is not a fault, is spelled by the terminals from here on
pub record Sound {A : Type 0} (m : Spelled A) (ts : List Terminal) (r : Read A) : Type 0 where
  pub holds : (x : A) (rest : List Terminal) → r ≡ Ok (x, rest) → m ts rest x

pub ok_is : {A : Type 0} {u v : A} → ◌≡◌ {A = Result A Fault} (Ok u) (Ok v) → u ≡ v
ok_is e = cc

pub stops : {A : Type 0} {m : Spelled A} {ts : List Terminal} {f : Fault} → Sound m ts (Err f)
stops = record { holds = λ x rest e. absurd cc }

pub yields : {A : Type 0} {x : A} {ts : List Terminal} → Sound (Yields x) ts (Ok (x, ts))
yields = record { holds = λ y rest e. record { none = ap (λ v. v.1) (ok_is e); is = sym (ap (λ v. v.0) (ok_is e)) } }

pub then_sound : {A B : Type 0} {m : Spelled A} {ts : List Terminal} {r : Read A} {g : A → Spelled B} {f : A × List Terminal → Read B}
    → Sound m ts r → ((v : A × List Terminal) → Sound (g v.0) v.1 (f v)) → Sound (Then m g) ts (outcome.◌>>=◌ r f)
then_sound {r = Ok v} a b = record { holds = λ y rest e. record { value = v.0; middle = v.1; one = a.holds v.0 v.1 refl; next = (b v).holds y rest e } }
then_sound {r = Err f} a b = record { holds = λ y rest e. absurd cc }

-- where the front is known to be spelled
pub began : {A B : Type 0} {m : Spelled A} {ts : List Terminal} {g : A → Spelled B} {r : Read B} (us : List Terminal) (x : A) → m ts us x → Sound (g x) us r → Sound (Then m g) ts r
began us x front a = record { holds = λ y rest e. record { value = x; middle = us; one = front; next = a.holds y rest e } }

pub here : {B : Type 0} {ts : List Terminal} {g : List Terminal → Spelled B} {r : Read B} → Sound (g ts) ts r → Sound (Then Here g) ts r
here {ts = ts} a = record { holds = λ y rest e. record { value = ts; middle = ts; one = record { none = refl; is = refl }; next = a.holds y rest e } }

pub first : {A : Type 0} {m n : Spelled A} {ts : List Terminal} {r : Read A} → Sound m ts r → Sound (Either m n) ts r
first a = record { holds = λ x rest e. the_one (a.holds x rest e) }

pub second : {A : Type 0} {m n : Spelled A} {ts : List Terminal} {r : Read A} → Sound n ts r → Sound (Either m n) ts r
second a = record { holds = λ x rest e. the_other (a.holds x rest e) }

pub either : {A : Type 0} {m : Spelled A} {ts : List Terminal} {r s : Read A} (c : Bool) → Sound m ts r → Sound m ts s → Sound m ts (if c then r else s)
either true a b = a
either false a b = b

-- as `either`, where it is known what the test says
pub tested : {A : Type 0} {m : Spelled A} {ts : List Terminal} {r s : Read A} (c : Bool) → (c ≡ true → Sound m ts r) → Sound m ts s → Sound m ts (if c then r else s)
tested true a b = a refl
tested false a b = b

-- ---- lexemes

-- a terminal that is this sign
pub is_the : (w : Terminal) (s : Sign) → is_sign w s ≡ true → w.what ≡ what.Sign s
is_the w s e = go w.what e
  where
    go : (x : TerminalKind) → says_sign x s ≡ true → x ≡ what.Sign s
    go (what.Sign own) h = ap what.Sign (same_true the_type tt own s h)
    go (what.Name n strategy) h = absurd cc
    go (what.Number n) h = absurd cc

pub sign_sound : (left : ℕ) (s : Sign) (ts : List Terminal) → Sound (The s) ts (sign_at left s ts)
unfolding sign_at
sign_sound left s [] = stops
sign_sound left s (w ∷ ws) = tested (is_sign w s) (λ is. either (left == 0) stops (record {
  holds = λ x rest e. record {
    terminal = w;
    stands = ap (λ v. w ∷ v.1) (ok_is e);
    is = is_the w s is;
    line_is = sym (ap (λ v. v.0) (ok_is e));
  };
})) stops

name_case : (left : ℕ) (w : Terminal) (ws : List Terminal) (x : TerminalKind) → w.what ≡ x → Sound AName (w ∷ ws) (name_said left w.line ws x)
name_case left w ws (what.Name n strategy) is = either (left == 0) stops (record {
  holds = λ x rest e. record {
    terminal = w;
    number = n;
    strategy = strategy;
    stands = ap (λ v. w ∷ v.1) (ok_is e);
    is = is;
    name_is = sym (ap (λ v. v.0) (ok_is e));
  };
})
name_case left w ws (what.Number n) is = stops
name_case left w ws (what.Sign s) is = stops

pub name_sound : (left : ℕ) (ts : List Terminal) → Sound AName ts (name_at left ts)
unfolding name_at
name_sound left [] = stops
name_sound left (w ∷ ws) = name_case left w ws w.what refl

number_case : (left : ℕ) (w : Terminal) (ws : List Terminal) (x : TerminalKind) → w.what ≡ x → Sound ANumber (w ∷ ws) (number_said left w.line ws x)
number_case left w ws (what.Number n) is = either (left == 0) stops (record {
  holds = λ x rest e. record {
    terminal = w;
    stands = ap (λ v. w ∷ v.1) (ok_is e);
    is = is ∙ ap (λ v. what.Number v.0) (ok_is e);
  };
})
number_case left w ws (what.Name n strategy) is = stops
number_case left w ws (what.Sign s) is = stops

pub number_sound : (left : ℕ) (ts : List Terminal) → Sound ANumber ts (number_at left ts)
unfolding number_at
number_sound left [] = stops
number_sound left (w ∷ ws) = number_case left w ws w.what refl

strategy_case : (left : ℕ) (w : Terminal) (ws : List Terminal) (x : TerminalKind) → w.what ≡ x → Sound AStrategy (w ∷ ws) (strategy_said left w.line ws x)
strategy_case left w ws (what.Name n (Some strategy)) is = either (left == 0) stops (record {
  holds = λ x rest e. record {
    terminal = w;
    number = n;
    stands = ap (λ v. w ∷ v.1) (ok_is e);
    is = is ∙ ap (λ v. what.Name n (Some v.0)) (ok_is e);
  };
})
strategy_case left w ws (what.Name n None) is = stops
strategy_case left w ws (what.Number n) is = stops
strategy_case left w ws (what.Sign s) is = stops

pub strategy_sound : (left : ℕ) (ts : List Terminal) → Sound AStrategy ts (strategy_at left ts)
unfolding strategy_at
strategy_sound left [] = stops
strategy_sound left (w ∷ ws) = strategy_case left w ws w.what refl

-- a terminal of a table, where its sign is known
pub one_of : {A : Type 0} (table : Sign → Option A) (w : Terminal) (ws : List Terminal) (s : Sign) (x : A) → w.what ≡ what.Sign s → table s ≡ Some x → OneOf table (w ∷ ws) ws (x, w.line)
one_of table w ws s x is found = record { terminal = w; sign = s; stands = refl; is = is; found = found; line_is = refl }

pub the_sign : (w : Terminal) (ws : List Terminal) (s : Sign) → w.what ≡ what.Sign s → The s (w ∷ ws) ws w.line
the_sign w ws s is = record { terminal = w; stands = refl; is = is; line_is = refl }

-- ---- repetition

row_step : {A : Type 0} {m : Spelled A} (begins : List Terminal → Bool) (item : Reader A) → ((ts : List Terminal) → Sound m ts (item ts))
    → (count : ℕ) → ((held : List A) (ts : List Terminal) (xs : List A) (rest : List Terminal) → row begins item count held ts ≡ Ok (xs, rest)
    → (ys : List A) × Many m ts rest ys × (xs ≡ held ++ ys))
    → (held : List A) (ts : List Terminal) (xs : List A) (rest : List Terminal) (r : Read A) → item ts ≡ r
    → outcome.◌>>=◌ r (λ x. row begins item count (held ++ x.0 ∷ []) x.1) ≡ Ok (xs, rest)
    → (ys : List A) × Many m ts rest ys × (xs ≡ held ++ ys)
row_step begins item sound count again held ts xs rest (Err f) read e = absurd cc
row_step begins item sound count again held ts xs rest (Ok v) read e =
    let h = again (held ++ v.0 ∷ []) v.1 xs rest e in
    (v.0 ∷ h.0, more ((sound ts).holds v.0 v.1 read) h.1, h.2 ∙ append_assoc held (v.0 ∷ []) h.0)

none_more : {A : Type 0} {m : Spelled A} (held : List A) (ts : List Terminal) (xs : List A) (rest : List Terminal) → ◌≡◌ {A = Read (List A)} (Ok (held, ts)) (Ok (xs, rest))
    → (ys : List A) × Many m ts rest ys × (xs ≡ held ++ ys)
none_more {m = m} held ts xs rest e = ([], subst (λ us. Many m ts us []) (ap (λ v. v.1) (ok_is e)) nothing, ap (λ v. v.0) (sym (ok_is e)) ∙ sym (append-nil held))

-- one more item, where the terminals begin one
row_case : {A : Type 0} {m : Spelled A} (begins : List Terminal → Bool) (item : Reader A) → ((ts : List Terminal) → Sound m ts (item ts))
    → (count : ℕ) → ((held : List A) (ts : List Terminal) (xs : List A) (rest : List Terminal) → row begins item count held ts ≡ Ok (xs, rest)
    → (ys : List A) × Many m ts rest ys × (xs ≡ held ++ ys))
    → (held : List A) (ts : List Terminal) (xs : List A) (rest : List Terminal) (c : Bool)
    → (if c then outcome.◌>>=◌ (item ts) (λ x. row begins item count (held ++ x.0 ∷ []) x.1) else Ok (held, ts)) ≡ Ok (xs, rest)
    → (ys : List A) × Many m ts rest ys × (xs ≡ held ++ ys)
row_case begins item sound count again held ts xs rest true e = row_step begins item sound count again held ts xs rest (item ts) refl e
row_case begins item sound count again held ts xs rest false e = none_more held ts xs rest e

row_holds : {A : Type 0} {m : Spelled A} (begins : List Terminal → Bool) (item : Reader A) → ((ts : List Terminal) → Sound m ts (item ts))
    → (count : ℕ) (held : List A) (ts : List Terminal) (xs : List A) (rest : List Terminal) → row begins item count held ts ≡ Ok (xs, rest)
    → (ys : List A) × Many m ts rest ys × (xs ≡ held ++ ys)
unfolding row
row_holds begins item sound zero held ts xs rest e = none_more held ts xs rest e
row_holds begins item sound (suc count) held ts xs rest e = row_case begins item sound count (row_holds begins item sound count) held ts xs rest (begins ts) e

pub row_sound : {A : Type 0} {m : Spelled A} (begins : List Terminal → Bool) (item : Reader A) → ((ts : List Terminal) → Sound m ts (item ts))
    → (count : ℕ) (ts : List Terminal) → Sound (Many m) ts (row begins item count [] ts)
row_sound {m = m} begins item sound count ts = record { holds = λ xs rest e. let h = row_holds begins item sound count [] ts xs rest e in subst (Many m ts rest) (sym h.2) h.1 }

-- ---- lists with commas

commas_step : {A : Type 0} {m : Spelled A} (item : Reader A) → ((ts : List Terminal) → Sound m ts (item ts))
    → (count : ℕ) → ((held : List A) (ts : List Terminal) (xs : List A) (rest : List Terminal) → behind_commas item count held ts ≡ Ok (xs, rest)
    → (ys : List A) × Many (The sign.Comma >> m) ts rest ys × (xs ≡ held ++ ys))
    → (held : List A) (w : Terminal) (ws : List Terminal) (xs : List A) (rest : List Terminal) (r : Read A) → item ws ≡ r → w.what ≡ what.Sign sign.Comma
    → outcome.◌>>=◌ r (λ x. behind_commas item count (held ++ x.0 ∷ []) x.1) ≡ Ok (xs, rest)
    → (ys : List A) × Many (The sign.Comma >> m) (w ∷ ws) rest ys × (xs ≡ held ++ ys)
commas_step item sound count again held w ws xs rest (Err f) read is e = absurd cc
commas_step item sound count again held w ws xs rest (Ok v) read is e =
    let h = again (held ++ v.0 ∷ []) v.1 xs rest e in
    (v.0 ∷ h.0, more (record { value = w.line; middle = ws; one = the_sign w ws sign.Comma is; next = (sound ws).holds v.0 v.1 read }) h.1, h.2 ∙ append_assoc held (v.0 ∷ []) h.0)

commas_case : {A : Type 0} {m : Spelled A} (item : Reader A) → ((ts : List Terminal) → Sound m ts (item ts))
    → (count : ℕ) → ((held : List A) (ts : List Terminal) (xs : List A) (rest : List Terminal) → behind_commas item count held ts ≡ Ok (xs, rest)
    → (ys : List A) × Many (The sign.Comma >> m) ts rest ys × (xs ≡ held ++ ys))
    → (held : List A) (w : Terminal) (ws : List Terminal) (xs : List A) (rest : List Terminal) (c : Bool) → is_sign w sign.Comma ≡ c
    → (if c then outcome.◌>>=◌ (item ws) (λ x. behind_commas item count (held ++ x.0 ∷ []) x.1) else Ok (held, w ∷ ws)) ≡ Ok (xs, rest)
    → (ys : List A) × Many (The sign.Comma >> m) (w ∷ ws) rest ys × (xs ≡ held ++ ys)
commas_case item sound count again held w ws xs rest true is e = commas_step item sound count again held w ws xs rest (item ws) refl (is_the w sign.Comma is) e
commas_case item sound count again held w ws xs rest false is e = none_more held (w ∷ ws) xs rest e

commas_hold : {A : Type 0} {m : Spelled A} (item : Reader A) → ((ts : List Terminal) → Sound m ts (item ts))
    → (count : ℕ) (held : List A) (ts : List Terminal) (xs : List A) (rest : List Terminal) → behind_commas item count held ts ≡ Ok (xs, rest)
    → (ys : List A) × Many (The sign.Comma >> m) ts rest ys × (xs ≡ held ++ ys)
unfolding behind_commas
commas_hold item sound zero held ts xs rest e = none_more held ts xs rest e
commas_hold item sound (suc count) held [] xs rest e = none_more held [] xs rest e
commas_hold item sound (suc count) held (w ∷ ws) xs rest e =
    commas_case item sound count (commas_hold item sound count) held w ws xs rest (is_sign w sign.Comma) refl e

-- the first item with those behind commas
series_end : {A : Type 0} {m : Spelled A} (item : Reader A) → ((ts : List Terminal) → Sound m ts (item ts))
    → (x : A) (ts : List Terminal) → Sound (Then (Many (The sign.Comma >> m)) (λ xs. Yields (x ∷ xs))) ts (behind_commas item (length ts) (x ∷ []) ts)
series_end item sound x ts = record {
  holds = λ xs rest e. let h = commas_hold item sound (length ts) (x ∷ []) ts xs rest e in
      record { value = h.0; middle = rest; one = h.1; next = record { none = refl; is = h.2 } };
}

pub series_sound : {A : Type 0} {m : Spelled A} (item : Reader A) → ((ts : List Terminal) → Sound m ts (item ts)) → (ts : List Terminal) → Sound (Series m) ts (series item ts)
unfolding series Series
series_sound item sound ts = then_sound (sound ts) λ v. series_end item sound v.0 v.1

pub listed_sound : {A : Type 0} {m : Spelled A} (item : Reader A) (close : Sign) → ((ts : List Terminal) → Sound m ts (item ts)) → (ts : List Terminal) → Sound (Listed m) ts (listed item close ts)
unfolding listed Listed
listed_sound item close sound ts = either (begins_with close ts) (first yields) (second (series_sound item sound ts))

pub round_sound : {A : Type 0} {m : Spelled A} (left : ℕ) (item : Reader A) → ((ts : List Terminal) → Sound m ts (item ts)) → (ts : List Terminal)
    → Sound (InRound m) ts (in_round left (listed item sign.CloseRound) ts)
unfolding in_round InRound
round_sound left item sound ts =
    then_sound (sign_sound left sign.OpenRound ts) λ o.
    then_sound (listed_sound item sign.CloseRound sound o.1) λ xs.
    then_sound (sign_sound (left - 1) sign.CloseRound xs.1) λ e. yields

pub names_sound : (left : ℕ) (ts : List Terminal) → Sound Names ts (names_at left ts)
unfolding names_at Names
names_sound left = round_sound left (name_at (left - 1)) (name_sound (left - 1))
