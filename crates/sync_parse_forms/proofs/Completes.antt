-- What is spelled is read, where it is not too deep: the law for each way to put productions together.
use Rattle.std.proofs.Common.{◌≡◌, ℕ, zero, suc, ◌-◌, ◌<◌, ◌≤◌, ◌==◌, eqb, Bool, true, false, not, ◌||◌, if◌then◌else◌, List, [], ◌∷◌, ◌++◌, length, Result, Ok, Err, Some, refl, sym, ap, ◌∙◌, subst, arith, append_assoc, append-nil}
use Rattle.std.proofs.lemmas.Bool.{eqb-true}
use Rattle.sync_base.proofs.Basics.{not_true}
use Rattle.sync_base.specs.Outcome as outcome
use Rattle.sync_base.specs.declared.strategies.Strategy.{Strategy}
use Rattle.sync_lex.specs.declared.signs.Sign.{Sign}
use Rattle.sync_lex.specs.declared.signs.Sign.TheVariants as sign
use Rattle.sync_lex.specs.contracts.signs.Sign.{the_type}
use Rattle.sync_lex.specs.declared.terminals.TerminalKind.{TerminalKind}
use Rattle.sync_lex.specs.declared.terminals.TerminalKind.TheVariants as what
use Rattle.sync_lex.specs.declared.terminals.Terminal.{Terminal}
use Rattle.sync_lex.specs.Terminals.{says_sign, is_sign}
use Rattle.sync_parse_exprs.specs.declared.faults.Fault.{Fault}
use Rattle.sync_parse_exprs.specs.declared.faults.Fault.TheVariants as fault
use Rattle.sync_parse_exprs.specs.declared.raw_names.RawName.{RawName}
use Rattle.sync_parse_exprs.specs.Terminals.{Read, Reader, unless_deep, begins_with, goes_on, sign_at, name_at, name_said, number_at, number_said, strategy_at, strategy_said, row, behind_commas, series, listed, in_round, names_at}
use Rattle.sync_parse_forms.specs.Relations.{Spelled, The, AName, ANumber, AStrategy, Yields, Here, Then, ◌>>◌, Either, the_one, the_other, Many, nothing, more, Series, Listed, InRound, Names}
use Rattle.sync_parse_forms.specs.Fronts.{code, front, front_of, Set, any, only, both, others}
use Rattle.sync_parse_forms.proofs.Clears.{In, only_in, same_in, Starts, Follows, starts_then, starts_the, starts_name, follows_starts, follows_then, follows_many, follows_yields, head_is, tail_is}
use Rattle.sync_parse_forms.proofs.Counting.{one_shorter}
use denote.Enum.Bare.{true_same}
use denote.Enum.Declared.{tag_of}
use lib.Dec.{eqb-zero-suc, eqb-suc-suc}

-- too deep
abbrev pub Excused : Fault → Type 0
Excused (fault.Deep line) = Unit {0}
Excused (fault.Version line) = ⊥
Excused fault.Ended = ⊥
Excused (fault.Wanted line) = ⊥
Excused (fault.Unbuilt line) = ⊥

-- reading gives this value, or stops for depth
abbrev pub Meets : {A : Type 0} → Result A Fault → A → Type 0
Meets (Ok x) y = x ≡ y
Meets (Err f) y = Excused f

-- the same as one fact
pub record Met {A : Type 0} (r : Result A Fault) (x : A) : Type 0 where
  pub is : Meets r x

pub gives : {A : Type 0} {x y : A} {us vs : List Terminal} → x ≡ y → us ≡ vs → Met {A = A × List Terminal} (Ok (x, us)) (y, vs)
gives p q = record { is = λ i. (p i, q i) }

-- what these terminals spell is read here, where one of q follows
pub record Complete {A : Type 0} (q : Set) (m : Spelled A) (ts : List Terminal) (r : Read A) : Type 0 where
  pub at : (x : A) (rest : List Terminal) → m ts rest x → q (front rest) ≡ true → Met r (x, rest)

-- what is spelled takes a terminal
pub record Shrinks {A : Type 0} (m : Spelled A) : Type 0 where
  pub at : (ts rest : List Terminal) (x : A) → m ts rest x → length rest < length ts

-- ---- putting together

pub complete_yields : {A : Type 0} {q : Set} {x : A} {ts : List Terminal} → Complete q (Yields x) ts (Ok (x, ts))
complete_yields = record { at = λ y rest d e. gives (sym d.is) d.none }

then_case : {A B : Type 0} {p q : Set} {m : Spelled A} {ts : List Terminal} {g : A → Spelled B} {f : A × List Terminal → Read B} (r : Read A)
    → Complete p m ts r → ((v : A × List Terminal) → Complete q (g v.0) v.1 (f v)) → ((x : A) → Follows q p (g x))
    → (y : B) (rest : List Terminal) → Then m g ts rest y → q (front rest) ≡ true → Met (outcome.◌>>=◌ r f) (y, rest)
then_case {g = g} (Ok v) one next follows y rest d e =
    let h = (one.at d.value d.middle d.one ((follows d.value).at d.middle rest y d.next e)).is in
    (next v).at y rest (subst (λ z. g z.0 z.1 rest y) (sym h) d.next) e
then_case (Err f) one next follows y rest d e = record { is = (one.at d.value d.middle d.one ((follows d.value).at d.middle rest y d.next e)).is }

pub complete_then : {A B : Type 0} {q : Set} {m : Spelled A} {ts : List Terminal} {r : Read A} {g : A → Spelled B} {f : A × List Terminal → Read B} (p : Set)
    → Complete p m ts r → ((v : A × List Terminal) → Complete q (g v.0) v.1 (f v)) → ((x : A) → Follows q p (g x)) → Complete q (Then m g) ts (outcome.◌>>=◌ r f)
complete_then {r = r} p one next follows = record { at = then_case r one next follows }

pub complete_next : {A B : Type 0} {q : Set} {m : Spelled A} {ts : List Terminal} {r : Read A} {g : A → Spelled B} {f : A × List Terminal → Read B}
    → Complete any m ts r → ((v : A × List Terminal) → Complete q (g v.0) v.1 (f v)) → Complete q (Then m g) ts (outcome.◌>>=◌ r f)
complete_next one next = complete_then any one next (λ x. record { at = λ ts rest y d e. refl })

pub complete_here : {B : Type 0} {q : Set} {ts : List Terminal} {g : List Terminal → Spelled B} {r : Read B} → Complete q (g ts) ts r → Complete q (Then Here g) ts r
complete_here {ts = ts} {g = g} c = record {
  at = λ y rest d e.
      c.at y rest (subst (λ us. g ts us rest y) (sym d.one.none) (subst (λ us. g us d.middle rest y) d.one.is d.next)) e;
}

pub complete_weaker : {A : Type 0} {q p : Set} {m : Spelled A} {ts : List Terminal} {r : Read A} → Complete p m ts r → In q p → Complete q m ts r
complete_weaker c i = record { at = λ x rest d e. c.at x rest d (i.at (front rest) e) }

pub met_if : {A : Type 0} {r : Read A} {x : A × List Terminal} (s : Read A) (c : Bool) → c ≡ true → Met r x → Met (if c then r else s) x
met_if s true e h = h
met_if s false e h = absurd cc

pub met_else : {A : Type 0} {s : Read A} {x : A × List Terminal} (r : Read A) (c : Bool) → c ≡ false → Met s x → Met (if c then r else s) x
met_else r true e h = absurd cc
met_else r false e h = h

-- a lexeme that is wanted, and is not too deep
pub met_within : {A : Type 0} {go : Read A} {x : A × List Terminal} (left line : ℕ) → (0 < left → Met go x) → Met (unless_deep left line go) x
met_within zero line h = record { is = tt }
met_within {go = go} {x = x} (suc below) line h = go_case (suc below == 0) (eqb_no below) (h (omega arith))
  where
    eqb_no : (n : ℕ) → (suc n == 0) ≡ false
    eqb_no n = no_zero (suc n == 0) refl
      where
        no_zero : (c : Bool) → (suc n == 0) ≡ c → (suc n == 0) ≡ false
        no_zero true e = let k : suc n ≡ 0 = eqb-true (suc n) 0 e in absurd (omega (arith, k))
        no_zero false e = e

    go_case : (c : Bool) → c ≡ false → Met go x → Met (if c then Err (fault.Deep line) else go) x
    go_case true e k = record { is = tt }
    go_case false e k = k

-- ---- single lexemes

-- the terminal at the front says what the derivation's terminal says
pub says : (w v : Terminal) (ws vs : List Terminal) (x : TerminalKind) → ◌≡◌ {A = List Terminal} (w ∷ ws) (v ∷ vs) → v.what ≡ x → w.what ≡ x
says w v ws vs x e is = ap (λ (z : Terminal). z.what) (head_is w v ws vs e) ∙ is

pub is_it : (w : Terminal) (s : Sign) → w.what ≡ what.Sign s → is_sign w s ≡ true
is_it w s is = ap (λ z. says_sign z s) is ∙ true_same the_type s s refl

sign_case : (left : ℕ) (s : Sign) (ts : List Terminal) (line : ℕ) (rest : List Terminal) → The s ts rest line → Met (sign_at left s ts) (line, rest)
unfolding sign_at
sign_case left s [] line rest d = let e : ◌≡◌ {A = List Terminal} [] (d.terminal ∷ rest) = d.stands in absurd cc
sign_case left s (w ∷ ws) line rest d =
    let e : ◌≡◌ {A = List Terminal} (w ∷ ws) (d.terminal ∷ rest) = d.stands in
    met_if _ (is_sign w s) (is_it w s (says w d.terminal ws rest (what.Sign s) e d.is)) (met_within left w.line λ room.
    gives (ap (λ (z : Terminal). z.line) (head_is w d.terminal ws rest e) ∙ sym d.line_is) (tail_is w d.terminal ws rest e))

pub complete_the : (left : ℕ) (s : Sign) (ts : List Terminal) → Complete any (The s) ts (sign_at left s ts)
complete_the left s ts = record { at = λ line rest d e. sign_case left s ts line rest d }

-- at level 0 the lexeme is too deep
pub no_room : {B : Type 0} (f : ℕ × List Terminal → Read B) (x : B × List Terminal) (s : Sign) (ts rest : List Terminal) (line : ℕ) → The s ts rest line → Met (outcome.◌>>=◌ (sign_at 0 s ts) f) x
unfolding sign_at
no_room f x s [] rest line d = let e : ◌≡◌ {A = List Terminal} [] (d.terminal ∷ rest) = d.stands in absurd cc
no_room f x s (w ∷ ws) rest line d = go (is_sign w s) (is_it w s (says w d.terminal ws rest (what.Sign s) d.stands d.is))
  where
    go : (c : Bool) → c ≡ true → Met (outcome.◌>>=◌ (if c then Err (fault.Deep w.line) else Err (fault.Wanted w.line)) f) x
    go true e = record { is = tt }
    go false e = absurd cc

name_case : (left : ℕ) (ts : List Terminal) (x : RawName) (rest : List Terminal) → AName ts rest x → Met (name_at left ts) (x, rest)
unfolding name_at
name_case left [] x rest d = let e : ◌≡◌ {A = List Terminal} [] (d.terminal ∷ rest) = d.stands in absurd cc
name_case left (w ∷ ws) x rest d =
    let e : ◌≡◌ {A = List Terminal} (w ∷ ws) (d.terminal ∷ rest) = d.stands in
    let line = ap (λ (z : Terminal). z.line) (head_is w d.terminal ws rest e) in
    let value : ◌≡◌ {A = RawName} (record { name = d.number; line = w.line }) x = (λ i. record { name = d.number; line = line i }) ∙ sym d.name_is in
    let met : Met (name_said left w.line ws (what.Name d.number d.strategy)) (x, rest) = met_within left w.line (λ room. gives value (tail_is w d.terminal ws rest e)) in
    subst (λ z. Met (name_said left w.line ws z) (x, rest)) (sym (says w d.terminal ws rest (what.Name d.number d.strategy) e d.is)) met

pub complete_name : (left : ℕ) (ts : List Terminal) → Complete any AName ts (name_at left ts)
complete_name left ts = record { at = λ x rest d e. name_case left ts x rest d }

number_case : (left : ℕ) (ts : List Terminal) (n : ℕ) (rest : List Terminal) → ANumber ts rest n → Met (number_at left ts) (n, rest)
unfolding number_at
number_case left [] n rest d = let e : ◌≡◌ {A = List Terminal} [] (d.terminal ∷ rest) = d.stands in absurd cc
number_case left (w ∷ ws) n rest d =
    let e : ◌≡◌ {A = List Terminal} (w ∷ ws) (d.terminal ∷ rest) = d.stands in
    let met : Met (number_said left w.line ws (what.Number n)) (n, rest) = met_within left w.line (λ room. gives refl (tail_is w d.terminal ws rest e)) in
    subst (λ z. Met (number_said left w.line ws z) (n, rest)) (sym (says w d.terminal ws rest (what.Number n) e d.is)) met

pub complete_number : (left : ℕ) (ts : List Terminal) → Complete any ANumber ts (number_at left ts)
complete_number left ts = record { at = λ n rest d e. number_case left ts n rest d }

strategy_case : (left : ℕ) (ts : List Terminal) (x : Strategy) (rest : List Terminal) → AStrategy ts rest x → Met (strategy_at left ts) (x, rest)
unfolding strategy_at
strategy_case left [] x rest d = let e : ◌≡◌ {A = List Terminal} [] (d.terminal ∷ rest) = d.stands in absurd cc
strategy_case left (w ∷ ws) x rest d =
    let e : ◌≡◌ {A = List Terminal} (w ∷ ws) (d.terminal ∷ rest) = d.stands in
    let met : Met (strategy_said left w.line ws (what.Name d.number (Some x))) (x, rest) = met_within left w.line (λ room. gives refl (tail_is w d.terminal ws rest e)) in
    subst (λ z. Met (strategy_said left w.line ws z) (x, rest)) (sym (says w d.terminal ws rest (what.Name d.number (Some x)) e d.is)) met

pub complete_strategy : (left : ℕ) (ts : List Terminal) → Complete any AStrategy ts (strategy_at left ts)
complete_strategy left ts = record { at = λ x rest d e. strategy_case left ts x rest d }

-- ---- tests of the first lexeme

pub front_case : (s : Sign) (x : TerminalKind) → says_sign x s ≡ eqb (front_of x) (code s)
front_case s (what.Name n strategy) = sym (eqb-suc-suc 0 (suc (suc (tag_of the_type s))) ∙ eqb-zero-suc (suc (tag_of the_type s)))
front_case s (what.Number n) = sym (eqb-suc-suc 1 (suc (suc (tag_of the_type s))) ∙ eqb-suc-suc 0 (suc (tag_of the_type s)) ∙ eqb-zero-suc (tag_of the_type s))
front_case s (what.Sign own) = sym (eqb-suc-suc (suc (suc (tag_of the_type own))) (suc (suc (tag_of the_type s)))
    ∙ eqb-suc-suc (suc (tag_of the_type own)) (suc (tag_of the_type s)) ∙ eqb-suc-suc (tag_of the_type own) (tag_of the_type s))

pub begins_is : (s : Sign) (ts : List Terminal) → begins_with s ts ≡ only (code s) (front ts)
begins_is s [] = sym (eqb-zero-suc (suc (suc (tag_of the_type s))))
begins_is s (w ∷ ws) = front_case s w.what

pub begins_not : (s : Sign) (ts : List Terminal) → others (only (code s)) (front ts) ≡ true → begins_with s ts ≡ false
begins_not s ts e = begins_is s ts ∙ not_true (only (code s) (front ts)) e

if_case : {A : Type 0} {q r : Set} {m n : Spelled A} {ts : List Terminal} {a b : Read A} (s : Sign) → Starts m (only (code s)) → Starts n r → In r (others (only (code s)))
    → Complete q m ts a → Complete q n ts b → (x : A) (rest : List Terminal) → Either m n ts rest x → q (front rest) ≡ true → Met (if begins_with s ts then a else b) (x, rest)
if_case {ts = ts} s t u i c d x rest (the_one h) e = met_if _ (begins_with s ts) (begins_is s ts ∙ t.at ts rest x h) (c.at x rest h e)
if_case {ts = ts} s t u i c d x rest (the_other h) e = met_else _ (begins_with s ts) (begins_not s ts (i.at (front ts) (u.at ts rest x h))) (d.at x rest h e)

-- one that begins with this sign, or another that does not
pub complete_if : {A : Type 0} {q r : Set} {m n : Spelled A} {ts : List Terminal} {a b : Read A} (s : Sign) → Starts m (only (code s)) → Starts n r → In r (others (only (code s)))
    → Complete q m ts a → Complete q n ts b → Complete q (Either m n) ts (if begins_with s ts then a else b)
complete_if s t u i c d = record { at = if_case s t u i c d }

-- the last of alternatives
pub complete_last : {A : Type 0} {q : Set} {m : Spelled A} {ts : List Terminal} {a : Read A} (b : Read A) (s : Sign) → Starts m (only (code s)) → Complete q m ts a → Complete q m ts (if begins_with s ts then a else b)
complete_last {ts = ts} b s t c = record { at = λ x rest d e. met_if _ (begins_with s ts) (begins_is s ts ∙ t.at ts rest x d) (c.at x rest d e) }

absent_case : {A : Type 0} {q : Set} {z : A} {n : Spelled A} {ts : List Terminal} {a : Read A} (s : Sign) → Starts n (only (code s)) → In q (others (only (code s)))
    → Complete q n ts a → (x : A) (rest : List Terminal) → Either (Yields z) n ts rest x → q (front rest) ≡ true → Met (if begins_with s ts then a else Ok (z, ts)) (x, rest)
absent_case {q = q} {ts = ts} s t i c x rest (the_one h) e =
    met_else _ (begins_with s ts) (begins_not s ts (i.at (front ts) (subst (λ us. q (front us) ≡ true) (sym h.none) e))) (gives (sym h.is) h.none)
absent_case {ts = ts} s t i c x rest (the_other h) e = met_if _ (begins_with s ts) (begins_is s ts ∙ t.at ts rest x h) (c.at x rest h e)

-- what may be absent, and begins with this sign
pub complete_optional : {A : Type 0} {q : Set} {z : A} {n : Spelled A} {ts : List Terminal} {a : Read A} (s : Sign) → Starts n (only (code s)) → In q (others (only (code s)))
    → Complete q n ts a → Complete q (Either (Yields z) n) ts (if begins_with s ts then a else Ok (z, ts))
complete_optional s t i c = record { at = absent_case s t i c }

-- ---- items in a row

pub pair_is : {A : Type 0} {x y : A} {us vs : List Terminal} → x ≡ y → us ≡ vs → ◌≡◌ {A = A × List Terminal} (x, us) (y, vs)
pair_is p q = λ i. (p i, q i)

-- what is known of a row: what its items begin with, and what follows it
pub record Row {A : Type 0} (q p : Set) (m : Spelled A) (begins : List Terminal → Bool) (item : Reader A) : Type 0 where
  pub complete : (ts : List Terminal) → Complete p m ts (item ts)
  pub shrinks : Shrinks m
  pub begin : (ts rest : List Terminal) (x : A) → m ts rest x → begins ts ≡ true
  pub stop : (ts : List Terminal) → q (front ts) ≡ true → begins ts ≡ false
  pub follows : Follows q p (Many m)

row_step : {A : Type 0} {m : Spelled A} (begins : List Terminal → Bool) (item : Reader A) (count : ℕ) (held : List A) (x : A) (us : List Terminal) (xs : List A) (rest : List Terminal)
    → ((held : List A) (ts : List Terminal) → length ts ≤ count → Many m ts rest xs → Met (row begins item count held ts) (held ++ xs, rest))
    → (r : Read A) → Met r (x, us) → length us ≤ count → Many m us rest xs
    → Met (outcome.◌>>=◌ r (λ v. row begins item count (held ++ v.0 ∷ []) v.1)) (held ++ x ∷ xs, rest)
row_step {m = m} begins item count held x us xs rest again (Ok v) met small ds =
    let got : Met (row begins item count (held ++ x ∷ []) us) ((held ++ x ∷ []) ++ xs, rest) = again (held ++ x ∷ []) us small ds in
    let moved : Met (row begins item count (held ++ v.0 ∷ []) v.1) ((held ++ x ∷ []) ++ xs, rest) = subst (λ z. Met (row begins item count (held ++ z.0 ∷ []) z.1) ((held ++ x ∷ []) ++ xs, rest)) (sym met.is) got in
    subst (λ (ys : List _). Met (row begins item count (held ++ v.0 ∷ []) v.1) (ys, rest)) (append_assoc held (x ∷ []) xs) moved
row_step begins item count held x us xs rest again (Err f) met small ds = record { is = met.is }

row_case : {A : Type 0} {q p : Set} {m : Spelled A} (begins : List Terminal → Bool) (item : Reader A) → Row q p m begins item → (count : ℕ) (held : List A) (ts : List Terminal) (xs : List A) (rest : List Terminal)
    → length ts ≤ count → q (front rest) ≡ true → Many m ts rest xs → Met (row begins item count held ts) (held ++ xs, rest)
unfolding row
row_case begins item known zero held ts xs rest small e nothing = gives (sym (append-nil held)) refl
row_case begins item known zero held ts xs rest small e (more {us = us} {x = x} d ds) = let h = known.shrinks.at ts us x d in absurd (omega (arith, h, small))
row_case begins item known (suc count) held ts xs rest small e nothing = met_else _ (begins ts) (known.stop ts e) (gives (sym (append-nil held)) refl)
row_case {A = A} {q = q} {p = p} {m = m} begins item known (suc count) held ts xs rest small e (more {us = us} {x = x} {xs = ys} d ds) =
    let h = known.shrinks.at ts us x d in
    let fits : length us ≤ count = omega (arith, h, small) in
    met_if _ (begins ts) (known.begin ts us x d)
    (row_step begins item count held x us ys rest (λ held us small ds. row_case begins item known count held us ys rest small e ds) (item ts)
    ((known.complete ts).at x us d (known.follows.at us rest ys ds e)) fits ds)

pub complete_row : {A : Type 0} {q p : Set} {m : Spelled A} {begins : List Terminal → Bool} {item : Reader A} → Row q p m begins item → (ts : List Terminal) → Complete q (Many m) ts (row begins item (length ts) [] ts)
complete_row {begins = begins} {item = item} known ts = record { at = λ xs rest d e. row_case begins item known (length ts) [] ts xs rest (omega arith) e d }

-- items up to a closing brace
goes_case : (x : TerminalKind) → eqb (front_of x) 0 ≡ false
goes_case (what.Name n strategy) = refl
goes_case (what.Number n) = refl
goes_case (what.Sign s) = off (eqb (code s) 0) refl
  where
    off : (c : Bool) → eqb (code s) 0 ≡ c → eqb (code s) 0 ≡ false
    off true e = let k : code s ≡ 0 = eqb-true (code s) 0 e in absurd (omega (arith, k))
    off false e = e

pub goes_is : (ts : List Terminal) → others (both (only 0) (only (code sign.CloseBrace))) (front ts) ≡ true → goes_on ts ≡ true
goes_is [] e = absurd cc
goes_is (w ∷ ws) e = go (only 0 (front_of w.what)) (goes_case w.what) e
  where
    go : (c : Bool) → c ≡ false → not (c || only (code sign.CloseBrace) (front_of w.what)) ≡ true → goes_on (w ∷ ws) ≡ true
    go true off h = absurd cc
    go false off h = ap not (front_case sign.CloseBrace w.what) ∙ h

goes_not : (ts : List Terminal) → only (code sign.CloseBrace) (front ts) ≡ true → goes_on ts ≡ false
goes_not [] e = refl
goes_not (w ∷ ws) e = ap not (front_case sign.CloseBrace w.what ∙ e)

-- a row up to a closing brace
pub braced : {A : Type 0} {r : Set} {m : Spelled A} {item : Reader A} → ((ts : List Terminal) → Complete any m ts (item ts)) → Shrinks m → Starts m r → In r (others (both (only 0) (only (code sign.CloseBrace))))
    → Row (only (code sign.CloseBrace)) any m goes_on item
braced c s t i = record {
  complete = c;
  shrinks = s;
  begin = λ ts rest x d. goes_is ts (i.at (front ts) (t.at ts rest x d));
  stop = goes_not;
  follows = record { at = λ ts rest xs d e. refl };
}

-- ---- lists with commas

commas_step : {A : Type 0} {m : Spelled A} (item : Reader A) (count : ℕ) (held : List A) (x : A) (us : List Terminal) (xs : List A) (rest : List Terminal)
    → ((held : List A) (ts : List Terminal) → length ts ≤ count → Many (The sign.Comma >> m) ts rest xs → Met (behind_commas item count held ts) (held ++ xs, rest))
    → (r : Read A) → Met r (x, us) → length us ≤ count → Many (The sign.Comma >> m) us rest xs
    → Met (outcome.◌>>=◌ r (λ v. behind_commas item count (held ++ v.0 ∷ []) v.1)) (held ++ x ∷ xs, rest)
commas_step item count held x us xs rest again (Ok v) met small ds =
    let got : Met (behind_commas item count (held ++ x ∷ []) us) ((held ++ x ∷ []) ++ xs, rest) = again (held ++ x ∷ []) us small ds in
    let moved : Met (behind_commas item count (held ++ v.0 ∷ []) v.1) ((held ++ x ∷ []) ++ xs, rest) =
    subst (λ z. Met (behind_commas item count (held ++ z.0 ∷ []) z.1) ((held ++ x ∷ []) ++ xs, rest)) (sym met.is) got in
    subst (λ (ys : List _). Met (behind_commas item count (held ++ v.0 ∷ []) v.1) (ys, rest)) (append_assoc held (x ∷ []) xs) moved
commas_step item count held x us xs rest again (Err f) met small ds = record { is = met.is }

-- what is known of an item of a list
pub record Listing {A : Type 0} (q p : Set) (m : Spelled A) (item : Reader A) : Type 0 where
  pub complete : (ts : List Terminal) → Complete p m ts (item ts)
  pub shrinks : Shrinks m
  pub comma : p (code sign.Comma) ≡ true
  pub end : In q p
  pub apart : In q (others (only (code sign.Comma)))

commas_follow : {A : Type 0} {q p : Set} {m : Spelled A} {item : Reader A} → Listing q p m item → Follows q p (Many (The sign.Comma >> m))
commas_follow known = follows_many (starts_then starts_the) (only_in _ known.comma) known.end

commas_case : {A : Type 0} {q p : Set} {m : Spelled A} (item : Reader A) → Listing q p m item → (count : ℕ) (held : List A) (ts : List Terminal) (xs : List A) (rest : List Terminal)
    → length ts ≤ count → q (front rest) ≡ true → Many (The sign.Comma >> m) ts rest xs → Met (behind_commas item count held ts) (held ++ xs, rest)
unfolding behind_commas
commas_case item known zero held ts xs rest small e nothing = gives (sym (append-nil held)) refl
commas_case item known zero held ts xs rest small e (more {us = us} d ds) = let h = one_shorter ts d.middle d.one.terminal d.one.stands in absurd (omega (arith, h, small))
commas_case item known (suc count) held [] xs rest small e nothing = gives (sym (append-nil held)) refl
commas_case item known (suc count) held [] xs rest small e (more d ds) = let h : ◌≡◌ {A = List Terminal} [] (d.one.terminal ∷ d.middle) = d.one.stands in absurd cc
commas_case item known (suc count) held (w ∷ ws) xs rest small e nothing =
    met_else _ (is_sign w sign.Comma) (front_case sign.Comma w.what ∙ not_true (only (code sign.Comma) (front_of w.what)) (known.apart.at (front_of w.what) e)) (gives (sym (append-nil held)) refl)
commas_case item known (suc count) held (w ∷ ws) xs rest small e (more {us = us} {x = x} {xs = ys} d ds) =
    let h : ◌≡◌ {A = List Terminal} (w ∷ ws) (d.one.terminal ∷ d.middle) = d.one.stands in
    let tail = tail_is w d.one.terminal ws d.middle h in
    let less = known.shrinks.at d.middle us x d.next in
    let same : length d.middle ≡ length ws = ap (λ (zs : List Terminal). length zs) (sym tail) in
    let fits : length us ≤ count = omega (arith, less, same, small) in
    let met = subst (λ zs. Met (item zs) (x, us)) (sym tail) ((known.complete d.middle).at x us d.next ((commas_follow known).at us rest ys ds e)) in
    met_if _ (is_sign w sign.Comma) (is_it w sign.Comma (says w d.one.terminal ws d.middle (what.Sign sign.Comma) h d.one.is))
    (commas_step item count held x us ys rest (λ held us small ds. commas_case item known count held us ys rest small e ds) (item ws) met fits ds)

series_end : {A : Type 0} {q p : Set} {m : Spelled A} {item : Reader A} → Listing q p m item → (x : A) (ts : List Terminal)
    → Complete q (Then (Many (The sign.Comma >> m)) (λ xs. Yields (x ∷ xs))) ts (behind_commas item (length ts) (x ∷ []) ts)
series_end {q = q} {item = item} known x ts = record {
  at = λ ys rest d e.
      let end = subst (λ us. q (front us) ≡ true) (sym d.next.none) e in
      let met = commas_case item known (length ts) (x ∷ []) ts d.value d.middle (omega arith) end d.one in
      subst (Met (behind_commas item (length ts) (x ∷ []) ts)) (pair_is (sym d.next.is) d.next.none) met;
}

pub complete_series : {A : Type 0} {q p : Set} {m : Spelled A} {item : Reader A} → Listing q p m item → (ts : List Terminal) → Complete q (Series m) ts (series item ts)
unfolding series Series
complete_series {q = q} {p = p} known ts = complete_then p (known.complete ts) (λ v. series_end known v.0 v.1) (λ x. follows_then q (commas_follow known) (λ xs. follows_yields same_in))

list_case : {A : Type 0} {r : Set} {n : Spelled (List A)} {ts : List Terminal} {a : Read (List A)} (close : Sign) → Starts n r → In r (others (only (code close)))
    → Complete (only (code close)) n ts a → (xs : List A) (rest : List Terminal) → Either (Yields []) n ts rest xs → only (code close) (front rest) ≡ true
    → Met (if begins_with close ts then Ok ([], ts) else a) (xs, rest)
list_case {ts = ts} close s i c xs rest (the_one d) e =
    met_if _ (begins_with close ts) (begins_is close ts ∙ subst (λ us. only (code close) (front us) ≡ true) (sym d.none) e) (gives (sym d.is) d.none)
list_case {ts = ts} close s i c xs rest (the_other d) e = met_else _ (begins_with close ts) (begins_not close ts (i.at (front ts) (s.at ts rest xs d))) (c.at xs rest d e)

pub complete_listed : {A : Type 0} {p r : Set} {m : Spelled A} {item : Reader A} (close : Sign) → Listing (only (code close)) p m item → Starts m r → In r (others (only (code close))) → (ts : List Terminal)
    → Complete (only (code close)) (Listed m) ts (listed item close ts)
unfolding listed Listed Series
complete_listed close known s i ts = record { at = list_case close (starts_then s) i (complete_series known ts) }

round_case : {A : Type 0} {p r : Set} {m : Spelled A} (q : Set) (left : ℕ) (item : Reader A) → (0 < left → Listing (only (code sign.CloseRound)) p m item) → Starts m r → In r (others (only (code sign.CloseRound))) → (ts : List Terminal)
    → (xs : List A) (rest : List Terminal) → InRound m ts rest xs → q (front rest) ≡ true → Met (in_round left (listed item sign.CloseRound) ts) (xs, rest)
unfolding in_round InRound
round_case q zero item known s i ts xs rest d e = no_room _ _ sign.OpenRound ts d.middle d.value d.one
round_case q (suc below) item known s i ts xs rest d e =
    (complete_next {q = q} (complete_the (suc below) sign.OpenRound ts) λ o.
    complete_then (only (code sign.CloseRound)) (complete_listed sign.CloseRound (known (omega arith)) s i o.1)
    (λ v. complete_next (complete_the (suc below - 1) sign.CloseRound v.1) λ c. complete_yields) (λ x. follows_starts (starts_then starts_the) same_in)).at xs rest d e

-- a list in round brackets, where the items are read one level deeper
pub complete_round : {A : Type 0} {q p r : Set} {m : Spelled A} (left : ℕ) (item : Reader A) → (0 < left → Listing (only (code sign.CloseRound)) p m item) → Starts m r → In r (others (only (code sign.CloseRound)))
    → (ts : List Terminal) → Complete q (InRound m) ts (in_round left (listed item sign.CloseRound) ts)
complete_round {q = q} left item known s i ts = record { at = round_case q left item known s i ts }

pub shrinks_name : Shrinks AName
shrinks_name = record { at = λ ts rest x d. one_shorter ts rest d.terminal d.stands }

pub complete_names : {q : Set} (left : ℕ) (ts : List Terminal) → Complete q Names ts (names_at left ts)
unfolding names_at Names
complete_names left ts = complete_round left (name_at (left - 1))
    (λ room. record { complete = complete_name (left - 1); shrinks = shrinks_name; comma = refl; end = record { at = λ c e. refl }; apart = only_in _ refl }) starts_name (only_in _ refl) ts
