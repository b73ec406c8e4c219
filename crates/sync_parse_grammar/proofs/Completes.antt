-- What is spelled is read exactly where it is not too deep, and is else refused for depth: the law for each way to put productions
-- together.
use Rattle.std.proofs.Common.{◌≡◌, ℕ, zero, suc, ◌-◌, ◌<◌, ◌≤◌, ◌==◌, Bool, true, false, not, if◌then◌else◌, List, [], ◌∷◌, ◌++◌, length, Result, Ok, Err, Some, refl, sym, ap, ◌∙◌, subst, arith, append_assoc, append-nil}
use Rattle.std.proofs.lemmas.Bool.{eqb-true}
use Rattle.sync_base.proofs.Basics.{not_true}
use Rattle.sync_base.specs.Outcome as outcome
use Rattle.sync_base.specs.declared.strategies.Strategy.{Strategy}
use Rattle.sync_lex.specs.declared.signs.Sign.{Sign}
use Rattle.sync_lex.specs.declared.signs.Sign.TheVariants as sign
use Rattle.sync_lex.specs.declared.terminals.TerminalKind.TheVariants as what
use Rattle.sync_lex.specs.declared.terminals.Terminal.{Terminal}
use Rattle.sync_lex.specs.Terminals.{is_sign}
use Rattle.sync_parse_exprs.specs.declared.faults.Fault.{Fault}
use Rattle.sync_parse_exprs.specs.declared.faults.Fault.TheVariants as fault
use Rattle.sync_parse_exprs.specs.declared.raw_names.RawName.{RawName}
use Rattle.sync_parse_exprs.specs.Terminals.{Read, Reader, unless_deep, begins_with, goes_on, sign_at, name_at, name_said, number_at, number_said, strategy_at, strategy_said, row, behind_commas, series, listed, in_round, names_at}
use Rattle.sync_parse_forms.specs.Relations.{Spelled, The, AName, ANumber, AStrategy, Yields, Here, Then, ◌>>◌, Either, the_one, the_other, Many, nothing, more, Series, Listed, InRound, Names}
use Rattle.sync_parse_forms.specs.Fronts.{code, front, front_of, Set, any, only, both, others}
use Rattle.sync_parse_forms.proofs.Clears.{In, only_in, same_in, Starts, Follows, starts_then, starts_the, starts_name, follows_starts, follows_then, follows_many, follows_yields, head_is, tail_is}
use Rattle.sync_parse_forms.proofs.Completes.{Excused, Shrinks, says, is_it, front_case, begins_is, begins_not, pair_is, goes_is, shrinks_name}
use Rattle.sync_parse_forms.proofs.Counting.{one_shorter}
use Rattle.sync_parse_grammar.proofs.Depths.{Each}

-- reading gives this value, and S holds; or reading stops for depth, and S does not hold
abbrev pub Meets : {A : Type 0} → Result A Fault → A → Type 0 → Type 0
Meets (Ok x) y S = (x ≡ y) × S
Meets (Err f) y S = Excused f × (S → ⊥)

-- the same as one fact
pub record Met {A : Type 0} (r : Result A Fault) (x : A) (S : Type 0) : Type 0 where
  pub is : Meets r x S

pub gives : {A : Type 0} {x y : A} {us vs : List Terminal} {S : Type 0} → x ≡ y → us ≡ vs → S → Met {A = A × List Terminal} (Ok (x, us)) (y, vs) S
gives p q s = record { is = ((λ i. (p i, q i)), s) }

-- S and T hold of the same
pub met_as : {A : Type 0} {x : A} {S T : Type 0} (r : Result A Fault) → (S → T) → (T → S) → Met r x S → Met r x T
met_as (Ok v) to from h = record { is = (h.is.0, to h.is.1) }
met_as (Err f) to from h = record { is = (h.is.0, λ t. h.is.1 (from t)) }

-- too deep, where S does not hold
pub too_deep : {A : Type 0} {x : A} {S : Type 0} {line : ℕ} → (S → ⊥) → Met {A = A} (Err (fault.Deep line)) x S
too_deep never = record { is = (tt, never) }

-- what these terminals spell is read here exactly where S holds of it, where one of q follows
pub record Complete {A : Type 0} (q : Set) (m : Spelled A) (S : A → Type 0) (ts : List Terminal) (r : Read A) : Type 0 where
  pub at : (x : A) (rest : List Terminal) → m ts rest x → q (front rest) ≡ true → Met r (x, rest) (S x)

-- for what is never too deep
abbrev pub Free : {A : Type 0} → A → Type 0
Free x = Unit {0}

-- P holds of all that is spelled
pub record Shows {A : Type 0} (m : Spelled A) (P : A → Type 0) : Type 0 where
  pub at : (ts rest : List Terminal) (x : A) → m ts rest x → P x

-- ---- what holds of all that is spelled

pub shows_yields : {A : Type 0} {x : A} {P : A → Type 0} → P x → Shows (Yields x) P
shows_yields {P = P} p = record { at = λ ts rest y d. subst P (sym d.is) p }

pub shows_then : {A B : Type 0} {m : Spelled A} {g : A → Spelled B} {P : B → Type 0} → ((x : A) → Shows (g x) P) → Shows (Then m g) P
shows_then h = record { at = λ ts rest y d. (h d.value).at d.middle rest y d.next }

either_case : {A : Type 0} {m n : Spelled A} {P : A → Type 0} → Shows m P → Shows n P → (ts rest : List Terminal) (x : A) → Either m n ts rest x → P x
either_case a b ts rest x (the_one d) = a.at ts rest x d
either_case a b ts rest x (the_other d) = b.at ts rest x d

pub shows_or : {A : Type 0} {m n : Spelled A} {P : A → Type 0} → Shows m P → Shows n P → Shows (Either m n) P
shows_or a b = record { at = either_case a b }

-- ---- putting together

pub complete_yields : {A : Type 0} {q : Set} {x : A} {S : A → Type 0} {ts : List Terminal} → S x → Complete q (Yields x) S ts (Ok (x, ts))
complete_yields {S = S} s = record { at = λ y rest d e. gives (sym d.is) d.none (subst S (sym d.is) s) }

then_case : {A B : Type 0} {p q : Set} {m : Spelled A} {S : A → Type 0} {T : B → Type 0} {ts : List Terminal} {g : A → Spelled B} {f : A × List Terminal → Read B} (r : Read A)
    → Complete p m S ts r → ((v : A × List Terminal) → m ts v.1 v.0 → S v.0 → Complete q (g v.0) T v.1 (f v)) → ((x : A) → Follows q p (g x)) → ((x : A) → Shows (g x) (λ y. T y → S x))
    → (y : B) (rest : List Terminal) → Then m g ts rest y → q (front rest) ≡ true → Met (outcome.◌>>=◌ r f) (y, rest) (T y)
then_case {m = m} {S = S} {ts = ts} {g = g} (Ok v) one next follows back y rest d e =
    let h = (one.at d.value d.middle d.one ((follows d.value).at d.middle rest y d.next e)).is in
    (next v (subst (λ z. m ts z.1 z.0) (sym h.0) d.one) (subst (λ z. S z.0) (sym h.0) h.1)).at y rest (subst (λ z. g z.0 z.1 rest y) (sym h.0) d.next) e
then_case (Err f) one next follows back y rest d e =
    let h = (one.at d.value d.middle d.one ((follows d.value).at d.middle rest y d.next e)).is in
    record { is = (h.0, λ t. h.1 ((back d.value).at d.middle rest y d.next t)) }

-- a part for which S holds exactly where it is read, with what goes on with it, where T implies S
pub complete_spelled : {A B : Type 0} {q : Set} {m : Spelled A} {S : A → Type 0} {T : B → Type 0} {ts : List Terminal} {r : Read A} {g : A → Spelled B} {f : A × List Terminal → Read B} (p : Set)
    → Complete p m S ts r → ((v : A × List Terminal) → m ts v.1 v.0 → S v.0 → Complete q (g v.0) T v.1 (f v)) → ((x : A) → Follows q p (g x)) → ((x : A) → Shows (g x) (λ y. T y → S x))
    → Complete q (Then m g) T ts (outcome.◌>>=◌ r f)
complete_spelled {r = r} p one next follows back = record { at = then_case r one next follows back }

pub complete_then : {A B : Type 0} {q : Set} {m : Spelled A} {S : A → Type 0} {T : B → Type 0} {ts : List Terminal} {r : Read A} {g : A → Spelled B} {f : A × List Terminal → Read B} (p : Set)
    → Complete p m S ts r → ((v : A × List Terminal) → S v.0 → Complete q (g v.0) T v.1 (f v)) → ((x : A) → Follows q p (g x)) → ((x : A) → Shows (g x) (λ y. T y → S x))
    → Complete q (Then m g) T ts (outcome.◌>>=◌ r f)
complete_then p one next follows back = complete_spelled p one (λ v d s. next v s) follows back

-- the same, of a part behind which anything may follow
pub complete_part : {A B : Type 0} {q : Set} {m : Spelled A} {S : A → Type 0} {T : B → Type 0} {ts : List Terminal} {r : Read A} {g : A → Spelled B} {f : A × List Terminal → Read B}
    → Complete any m S ts r → ((v : A × List Terminal) → S v.0 → Complete q (g v.0) T v.1 (f v)) → ((x : A) → Shows (g x) (λ y. T y → S x)) → Complete q (Then m g) T ts (outcome.◌>>=◌ r f)
complete_part one next back = complete_then any one next (λ x. record { at = λ ts rest y d e. refl }) back

-- the same, of a part that is never too deep
pub complete_next : {A B : Type 0} {q : Set} {m : Spelled A} {T : B → Type 0} {ts : List Terminal} {r : Read A} {g : A → Spelled B} {f : A × List Terminal → Read B}
    → Complete any m Free ts r → ((v : A × List Terminal) → Complete q (g v.0) T v.1 (f v)) → Complete q (Then m g) T ts (outcome.◌>>=◌ r f)
complete_next one next = complete_part one (λ v s. next v) (λ x. record { at = λ ts rest y d t. tt })

pub complete_here : {B : Type 0} {q : Set} {T : B → Type 0} {ts : List Terminal} {g : List Terminal → Spelled B} {r : Read B} → Complete q (g ts) T ts r → Complete q (Then Here g) T ts r
complete_here {ts = ts} {g = g} c = record {
  at = λ y rest d e.
      c.at y rest (subst (λ us. g ts us rest y) (sym d.one.none) (subst (λ us. g us d.middle rest y) d.one.is d.next)) e;
}

-- S and T hold of the same
pub complete_iff : {A : Type 0} {q : Set} {m : Spelled A} {S T : A → Type 0} {ts : List Terminal} {r : Read A} → Complete q m S ts r → ((x : A) → S x → T x) → ((x : A) → T x → S x) → Complete q m T ts r
complete_iff {r = r} c to from = record { at = λ x rest d e. met_as r (to x) (from x) (c.at x rest d e) }

pub met_if : {A : Type 0} {r : Read A} {x : A × List Terminal} {S : Type 0} (s : Read A) (c : Bool) → c ≡ true → Met r x S → Met (if c then r else s) x S
met_if s true e h = h
met_if s false e h = absurd cc

pub met_else : {A : Type 0} {s : Read A} {x : A × List Terminal} {S : Type 0} (r : Read A) (c : Bool) → c ≡ false → Met s x S → Met (if c then r else s) x S
met_else r true e h = absurd cc
met_else r false e h = h

-- a lexeme that is wanted, which is not too deep where S holds
pub met_within : {A : Type 0} {go : Read A} {x : A × List Terminal} {S : Type 0} (left line : ℕ) → (S → 0 < left) → (0 < left → Met go x S) → Met (unless_deep left line go) x S
met_within zero line need h = too_deep λ s. none (need s)
  where
    none : 0 < 0 → ⊥
    none k = omega (arith, k)
met_within {go = go} {x = x} {S = S} (suc below) line need h = go_case (suc below == 0) (eqb_no below) (h (omega arith))
  where
    eqb_no : (n : ℕ) → (suc n == 0) ≡ false
    eqb_no n = no_zero (suc n == 0) refl
      where
        no_zero : (c : Bool) → (suc n == 0) ≡ c → (suc n == 0) ≡ false
        no_zero true e = let k : suc n ≡ 0 = eqb-true (suc n) 0 e in absurd (omega (arith, k))
        no_zero false e = e

    go_case : (c : Bool) → c ≡ false → Met go x S → Met (if c then Err (fault.Deep line) else go) x S
    go_case true e k = absurd cc
    go_case false e k = k

-- ---- single lexemes

sign_case : {S : Type 0} (left : ℕ) → (S → 0 < left) → (0 < left → S) → (s : Sign) (ts : List Terminal) (line : ℕ) (rest : List Terminal) → The s ts rest line → Met (sign_at left s ts) (line, rest) S
unfolding sign_at
sign_case left need room s [] line rest d = let e : ◌≡◌ {A = List Terminal} [] (d.terminal ∷ rest) = d.stands in absurd cc
sign_case left need room s (w ∷ ws) line rest d =
    let e : ◌≡◌ {A = List Terminal} (w ∷ ws) (d.terminal ∷ rest) = d.stands in
    met_if _ (is_sign w s) (is_it w s (says w d.terminal ws rest (what.Sign s) e d.is)) (met_within left w.line need λ above.
    gives (ap (λ (z : Terminal). z.line) (head_is w d.terminal ws rest e) ∙ sym d.line_is) (tail_is w d.terminal ws rest e) (room above))

-- a sign, where there is a level left
pub complete_sign : (left : ℕ) (s : Sign) (ts : List Terminal) → Complete any (The s) (λ line. 0 < left) ts (sign_at left s ts)
complete_sign left s ts = record { at = λ line rest d e. sign_case left (λ room. room) (λ room. room) s ts line rest d }

pub complete_the : (left : ℕ) → 0 < left → (s : Sign) (ts : List Terminal) → Complete any (The s) Free ts (sign_at left s ts)
complete_the left room s ts = record { at = λ line rest d e. sign_case left (λ s. room) (λ above. tt) s ts line rest d }

-- a sign with what goes on with it, where T wants a level
pub complete_opening : {B : Type 0} {q : Set} {T : B → Type 0} {ts : List Terminal} {g : ℕ → Spelled B} {f : ℕ × List Terminal → Read B} (left : ℕ) (s : Sign) → ((y : B) → T y → 0 < left)
    → ((v : ℕ × List Terminal) → 0 < left → Complete q (g v.0) T v.1 (f v)) → Complete q (Then (The s) g) T ts (outcome.◌>>=◌ (sign_at left s ts) f)
complete_opening {ts = ts} left s room next = complete_part (complete_sign left s ts) next (λ line. record { at = λ us rest y d fits. room y fits })

-- at level 0 the lexeme is too deep
pub no_room : {B : Type 0} {S : Type 0} (f : ℕ × List Terminal → Read B) (x : B × List Terminal) (s : Sign) (ts rest : List Terminal) (line : ℕ) → The s ts rest line → (S → ⊥)
    → Met (outcome.◌>>=◌ (sign_at 0 s ts) f) x S
unfolding sign_at
no_room f x s [] rest line d never = let e : ◌≡◌ {A = List Terminal} [] (d.terminal ∷ rest) = d.stands in absurd cc
no_room {S = S} f x s (w ∷ ws) rest line d never = go (is_sign w s) (is_it w s (says w d.terminal ws rest (what.Sign s) d.stands d.is))
  where
    go : (c : Bool) → c ≡ true → Met (outcome.◌>>=◌ (if c then Err (fault.Deep w.line) else Err (fault.Wanted w.line)) f) x S
    go true e = too_deep never
    go false e = absurd cc

name_case : (left : ℕ) → 0 < left → (ts : List Terminal) (x : RawName) (rest : List Terminal) → AName ts rest x → Met (name_at left ts) (x, rest) (Unit {0})
unfolding name_at
name_case left room [] x rest d = let e : ◌≡◌ {A = List Terminal} [] (d.terminal ∷ rest) = d.stands in absurd cc
name_case left room (w ∷ ws) x rest d =
    let e : ◌≡◌ {A = List Terminal} (w ∷ ws) (d.terminal ∷ rest) = d.stands in
    let line = ap (λ (z : Terminal). z.line) (head_is w d.terminal ws rest e) in
    let value : ◌≡◌ {A = RawName} (record { name = d.number; line = w.line }) x = (λ i. record { name = d.number; line = line i }) ∙ sym d.name_is in
    let met : Met (name_said left w.line ws (what.Name d.number d.strategy)) (x, rest) (Unit {0}) = met_within left w.line (λ s. room) (λ above. gives value (tail_is w d.terminal ws rest e) tt) in
    subst (λ z. Met (name_said left w.line ws z) (x, rest) (Unit {0})) (sym (says w d.terminal ws rest (what.Name d.number d.strategy) e d.is)) met

pub complete_name : (left : ℕ) → 0 < left → (ts : List Terminal) → Complete any AName Free ts (name_at left ts)
complete_name left room ts = record { at = λ x rest d e. name_case left room ts x rest d }

number_case : {S : Type 0} (left : ℕ) → (S → 0 < left) → (0 < left → S) → (ts : List Terminal) (n : ℕ) (rest : List Terminal) → ANumber ts rest n → Met (number_at left ts) (n, rest) S
unfolding number_at
number_case left need room [] n rest d = let e : ◌≡◌ {A = List Terminal} [] (d.terminal ∷ rest) = d.stands in absurd cc
number_case {S = S} left need room (w ∷ ws) n rest d =
    let e : ◌≡◌ {A = List Terminal} (w ∷ ws) (d.terminal ∷ rest) = d.stands in
    let met : Met (number_said left w.line ws (what.Number n)) (n, rest) S = met_within left w.line need (λ above. gives refl (tail_is w d.terminal ws rest e) (room above)) in
    subst (λ z. Met (number_said left w.line ws z) (n, rest) S) (sym (says w d.terminal ws rest (what.Number n) e d.is)) met

-- a number, where there is a level left
pub complete_factor : (left : ℕ) (ts : List Terminal) → Complete any ANumber (λ n. 0 < left) ts (number_at left ts)
complete_factor left ts = record { at = λ n rest d e. number_case left (λ room. room) (λ room. room) ts n rest d }

pub complete_number : (left : ℕ) → 0 < left → (ts : List Terminal) → Complete any ANumber Free ts (number_at left ts)
complete_number left room ts = record { at = λ n rest d e. number_case left (λ s. room) (λ above. tt) ts n rest d }

strategy_case : (left : ℕ) → 0 < left → (ts : List Terminal) (x : Strategy) (rest : List Terminal) → AStrategy ts rest x → Met (strategy_at left ts) (x, rest) (Unit {0})
unfolding strategy_at
strategy_case left room [] x rest d = let e : ◌≡◌ {A = List Terminal} [] (d.terminal ∷ rest) = d.stands in absurd cc
strategy_case left room (w ∷ ws) x rest d =
    let e : ◌≡◌ {A = List Terminal} (w ∷ ws) (d.terminal ∷ rest) = d.stands in
    let met : Met (strategy_said left w.line ws (what.Name d.number (Some x))) (x, rest) (Unit {0}) = met_within left w.line (λ s. room) (λ above. gives refl (tail_is w d.terminal ws rest e) tt) in
    subst (λ z. Met (strategy_said left w.line ws z) (x, rest) (Unit {0})) (sym (says w d.terminal ws rest (what.Name d.number (Some x)) e d.is)) met

pub complete_strategy : (left : ℕ) → 0 < left → (ts : List Terminal) → Complete any AStrategy Free ts (strategy_at left ts)
complete_strategy left room ts = record { at = λ x rest d e. strategy_case left room ts x rest d }

-- ---- tests of the first lexeme

if_case : {A : Type 0} {q r : Set} {m n : Spelled A} {S : A → Type 0} {ts : List Terminal} {a b : Read A} (s : Sign) → Starts m (only (code s)) → Starts n r → In r (others (only (code s)))
    → Complete q m S ts a → Complete q n S ts b → (x : A) (rest : List Terminal) → Either m n ts rest x → q (front rest) ≡ true → Met (if begins_with s ts then a else b) (x, rest) (S x)
if_case {ts = ts} s t u i c d x rest (the_one h) e = met_if _ (begins_with s ts) (begins_is s ts ∙ t.at ts rest x h) (c.at x rest h e)
if_case {ts = ts} s t u i c d x rest (the_other h) e = met_else _ (begins_with s ts) (begins_not s ts (i.at (front ts) (u.at ts rest x h))) (d.at x rest h e)

-- one that begins with this sign, or another that does not
pub complete_if : {A : Type 0} {q r : Set} {m n : Spelled A} {S : A → Type 0} {ts : List Terminal} {a b : Read A} (s : Sign) → Starts m (only (code s)) → Starts n r → In r (others (only (code s)))
    → Complete q m S ts a → Complete q n S ts b → Complete q (Either m n) S ts (if begins_with s ts then a else b)
complete_if s t u i c d = record { at = if_case s t u i c d }

-- the last of alternatives
pub complete_last : {A : Type 0} {q : Set} {m : Spelled A} {S : A → Type 0} {ts : List Terminal} {a : Read A} (b : Read A) (s : Sign) → Starts m (only (code s)) → Complete q m S ts a → Complete q m S ts (if begins_with s ts then a else b)
complete_last {ts = ts} b s t c = record { at = λ x rest d e. met_if _ (begins_with s ts) (begins_is s ts ∙ t.at ts rest x d) (c.at x rest d e) }

absent_case : {A : Type 0} {q : Set} {z : A} {n : Spelled A} {S : A → Type 0} {ts : List Terminal} {a : Read A} (s : Sign) → Starts n (only (code s)) → In q (others (only (code s))) → S z
    → Complete q n S ts a → (x : A) (rest : List Terminal) → Either (Yields z) n ts rest x → q (front rest) ≡ true → Met (if begins_with s ts then a else Ok (z, ts)) (x, rest) (S x)
absent_case {q = q} {S = S} {ts = ts} s t i fits c x rest (the_one h) e =
    met_else _ (begins_with s ts) (begins_not s ts (i.at (front ts) (subst (λ us. q (front us) ≡ true) (sym h.none) e))) (gives (sym h.is) h.none (subst S (sym h.is) fits))
absent_case {ts = ts} s t i fits c x rest (the_other h) e = met_if _ (begins_with s ts) (begins_is s ts ∙ t.at ts rest x h) (c.at x rest h e)

-- what may be absent, and begins with this sign
pub complete_optional : {A : Type 0} {q : Set} {z : A} {n : Spelled A} {S : A → Type 0} {ts : List Terminal} {a : Read A} (s : Sign) → Starts n (only (code s)) → In q (others (only (code s))) → S z
    → Complete q n S ts a → Complete q (Either (Yields z) n) S ts (if begins_with s ts then a else Ok (z, ts))
complete_optional s t i fits c = record { at = absent_case s t i fits c }

-- ---- items in a row

-- what is known of a row: what its items begin with, and what follows it
pub record Row {A : Type 0} (q p : Set) (m : Spelled A) (S : A → Type 0) (begins : List Terminal → Bool) (item : Reader A) : Type 0 where
  pub complete : (ts : List Terminal) → Complete p m S ts (item ts)
  pub shrinks : Shrinks m
  pub begin : (ts rest : List Terminal) (x : A) → m ts rest x → begins ts ≡ true
  pub stop : (ts : List Terminal) → q (front ts) ≡ true → begins ts ≡ false
  pub follows : Follows q p (Many m)

-- one more item before those that are read
more_met : {A : Type 0} (S : A → Type 0) (x : A) (xs : List A) {y : List A × List Terminal} (r : Read (List A)) → S x → Met r y (Each S xs) → Met r y (S x × Each S xs)
more_met S x xs r s h = met_as r (λ each. (s, each)) (λ each. each.1) h

row_step : {A : Type 0} {m : Spelled A} (S : A → Type 0) (begins : List Terminal → Bool) (item : Reader A) (count : ℕ) (held : List A) (x : A) (us : List Terminal) (xs : List A) (rest : List Terminal)
    → ((held : List A) (ts : List Terminal) → length ts ≤ count → Many m ts rest xs → Met (row begins item count held ts) (held ++ xs, rest) (Each S xs))
    → (r : Read A) → Met r (x, us) (S x) → length us ≤ count → Many m us rest xs
    → Met (outcome.◌>>=◌ r (λ v. row begins item count (held ++ v.0 ∷ []) v.1)) (held ++ x ∷ xs, rest) (S x × Each S xs)
row_step {m = m} S begins item count held x us xs rest again (Ok v) met small ds =
    let got : Met (row begins item count (held ++ x ∷ []) us) ((held ++ x ∷ []) ++ xs, rest) (Each S xs) = again (held ++ x ∷ []) us small ds in
    let moved : Met (row begins item count (held ++ v.0 ∷ []) v.1) ((held ++ x ∷ []) ++ xs, rest) (Each S xs) = subst (λ z. Met (row begins item count (held ++ z.0 ∷ []) z.1) ((held ++ x ∷ []) ++ xs, rest) (Each S xs)) (sym met.is.0) got in
    more_met S x xs _ met.is.1 (subst (λ (ys : List _). Met (row begins item count (held ++ v.0 ∷ []) v.1) (ys, rest) (Each S xs)) (append_assoc held (x ∷ []) xs) moved)
row_step S begins item count held x us xs rest again (Err f) met small ds = record { is = (met.is.0, λ each. met.is.1 each.0) }

row_case : {A : Type 0} {q p : Set} {m : Spelled A} {S : A → Type 0} (begins : List Terminal → Bool) (item : Reader A) → Row q p m S begins item → (count : ℕ) (held : List A) (ts : List Terminal) (xs : List A) (rest : List Terminal)
    → length ts ≤ count → q (front rest) ≡ true → Many m ts rest xs → Met (row begins item count held ts) (held ++ xs, rest) (Each S xs)
unfolding row
row_case begins item known zero held ts xs rest small e nothing = gives (sym (append-nil held)) refl tt
row_case begins item known zero held ts xs rest small e (more {us = us} {x = x} d ds) = let h = known.shrinks.at ts us x d in absurd (omega (arith, h, small))
row_case begins item known (suc count) held ts xs rest small e nothing = met_else _ (begins ts) (known.stop ts e) (gives (sym (append-nil held)) refl tt)
row_case {S = S} begins item known (suc count) held ts xs rest small e (more {us = us} {x = x} {xs = ys} d ds) =
    let h = known.shrinks.at ts us x d in
    let fits : length us ≤ count = omega (arith, h, small) in
    met_if _ (begins ts) (known.begin ts us x d)
    (row_step S begins item count held x us ys rest (λ held us small ds. row_case begins item known count held us ys rest small e ds) (item ts)
    ((known.complete ts).at x us d (known.follows.at us rest ys ds e)) fits ds)

pub complete_row : {A : Type 0} {q p : Set} {m : Spelled A} {S : A → Type 0} {begins : List Terminal → Bool} {item : Reader A} → Row q p m S begins item → (ts : List Terminal)
    → Complete q (Many m) (Each S) ts (row begins item (length ts) [] ts)
complete_row {begins = begins} {item = item} known ts = record { at = λ xs rest d e. row_case begins item known (length ts) [] ts xs rest (omega arith) e d }

-- items up to a closing brace
goes_not : (ts : List Terminal) → only (code sign.CloseBrace) (front ts) ≡ true → goes_on ts ≡ false
goes_not [] e = refl
goes_not (w ∷ ws) e = ap not (front_case sign.CloseBrace w.what ∙ e)

-- a row up to a closing brace
pub braced : {A : Type 0} {r : Set} {m : Spelled A} {S : A → Type 0} {item : Reader A} → ((ts : List Terminal) → Complete any m S ts (item ts)) → Shrinks m → Starts m r
    → In r (others (both (only 0) (only (code sign.CloseBrace)))) → Row (only (code sign.CloseBrace)) any m S goes_on item
braced c s t i = record {
  complete = c;
  shrinks = s;
  begin = λ ts rest x d. goes_is ts (i.at (front ts) (t.at ts rest x d));
  stop = goes_not;
  follows = record { at = λ ts rest xs d e. refl };
}

-- ---- lists with commas

commas_step : {A : Type 0} {m : Spelled A} (S : A → Type 0) (item : Reader A) (count : ℕ) (held : List A) (x : A) (us : List Terminal) (xs : List A) (rest : List Terminal)
    → ((held : List A) (ts : List Terminal) → length ts ≤ count → Many (The sign.Comma >> m) ts rest xs → Met (behind_commas item count held ts) (held ++ xs, rest) (Each S xs))
    → (r : Read A) → Met r (x, us) (S x) → length us ≤ count → Many (The sign.Comma >> m) us rest xs
    → Met (outcome.◌>>=◌ r (λ v. behind_commas item count (held ++ v.0 ∷ []) v.1)) (held ++ x ∷ xs, rest) (S x × Each S xs)
commas_step S item count held x us xs rest again (Ok v) met small ds =
    let got : Met (behind_commas item count (held ++ x ∷ []) us) ((held ++ x ∷ []) ++ xs, rest) (Each S xs) = again (held ++ x ∷ []) us small ds in
    let moved : Met (behind_commas item count (held ++ v.0 ∷ []) v.1) ((held ++ x ∷ []) ++ xs, rest) (Each S xs) =
    subst (λ z. Met (behind_commas item count (held ++ z.0 ∷ []) z.1) ((held ++ x ∷ []) ++ xs, rest) (Each S xs)) (sym met.is.0) got in
    more_met S x xs _ met.is.1 (subst (λ (ys : List _). Met (behind_commas item count (held ++ v.0 ∷ []) v.1) (ys, rest) (Each S xs)) (append_assoc held (x ∷ []) xs) moved)
commas_step S item count held x us xs rest again (Err f) met small ds = record { is = (met.is.0, λ each. met.is.1 each.0) }

-- what is known of an item of a list
pub record Listing {A : Type 0} (q p : Set) (m : Spelled A) (S : A → Type 0) (item : Reader A) : Type 0 where
  pub complete : (ts : List Terminal) → Complete p m S ts (item ts)
  pub shrinks : Shrinks m
  pub comma : p (code sign.Comma) ≡ true
  pub end : In q p
  pub apart : In q (others (only (code sign.Comma)))

commas_follow : {A : Type 0} {q p : Set} {m : Spelled A} {S : A → Type 0} {item : Reader A} → Listing q p m S item → Follows q p (Many (The sign.Comma >> m))
commas_follow known = follows_many (starts_then starts_the) (only_in _ known.comma) known.end

commas_case : {A : Type 0} {q p : Set} {m : Spelled A} {S : A → Type 0} (item : Reader A) → Listing q p m S item → (count : ℕ) (held : List A) (ts : List Terminal) (xs : List A) (rest : List Terminal)
    → length ts ≤ count → q (front rest) ≡ true → Many (The sign.Comma >> m) ts rest xs → Met (behind_commas item count held ts) (held ++ xs, rest) (Each S xs)
unfolding behind_commas
commas_case item known zero held ts xs rest small e nothing = gives (sym (append-nil held)) refl tt
commas_case item known zero held ts xs rest small e (more {us = us} d ds) = let h = one_shorter ts d.middle d.one.terminal d.one.stands in absurd (omega (arith, h, small))
commas_case item known (suc count) held [] xs rest small e nothing = gives (sym (append-nil held)) refl tt
commas_case item known (suc count) held [] xs rest small e (more d ds) = let h : ◌≡◌ {A = List Terminal} [] (d.one.terminal ∷ d.middle) = d.one.stands in absurd cc
commas_case item known (suc count) held (w ∷ ws) xs rest small e nothing =
    met_else _ (is_sign w sign.Comma) (front_case sign.Comma w.what ∙ not_true (only (code sign.Comma) (front_of w.what)) (known.apart.at (front_of w.what) e)) (gives (sym (append-nil held)) refl tt)
commas_case {S = S} item known (suc count) held (w ∷ ws) xs rest small e (more {us = us} {x = x} {xs = ys} d ds) =
    let h : ◌≡◌ {A = List Terminal} (w ∷ ws) (d.one.terminal ∷ d.middle) = d.one.stands in
    let tail = tail_is w d.one.terminal ws d.middle h in
    let less = known.shrinks.at d.middle us x d.next in
    let same : length d.middle ≡ length ws = ap (λ (zs : List Terminal). length zs) (sym tail) in
    let fits : length us ≤ count = omega (arith, less, same, small) in
    let met = subst (λ zs. Met (item zs) (x, us) (S x)) (sym tail) ((known.complete d.middle).at x us d.next ((commas_follow known).at us rest ys ds e)) in
    met_if _ (is_sign w sign.Comma) (is_it w sign.Comma (says w d.one.terminal ws d.middle (what.Sign sign.Comma) h d.one.is))
    (commas_step S item count held x us ys rest (λ held us small ds. commas_case item known count held us ys rest small e ds) (item ws) met fits ds)

series_end : {A : Type 0} {q p : Set} {m : Spelled A} {S : A → Type 0} {item : Reader A} → Listing q p m S item → (x : A) → S x → (ts : List Terminal)
    → Complete q (Then (Many (The sign.Comma >> m)) (λ xs. Yields (x ∷ xs))) (Each S) ts (behind_commas item (length ts) (x ∷ []) ts)
series_end {q = q} {S = S} {item = item} known x s ts = record {
  at = λ ys rest d e.
      let end = subst (λ us. q (front us) ≡ true) (sym d.next.none) e in
      let met = commas_case item known (length ts) (x ∷ []) ts d.value d.middle (omega arith) end d.one in
      let all : Met (behind_commas item (length ts) (x ∷ []) ts) (x ∷ d.value, d.middle) (Each S (x ∷ d.value)) = more_met S x d.value _ s met in
      subst (λ z. Met (behind_commas item (length ts) (x ∷ []) ts) z (Each S z.0)) (pair_is (sym d.next.is) d.next.none) all;
}

pub complete_series : {A : Type 0} {q p : Set} {m : Spelled A} {S : A → Type 0} {item : Reader A} → Listing q p m S item → (ts : List Terminal) → Complete q (Series m) (Each S) ts (series item ts)
unfolding series Series
complete_series {q = q} {p = p} known ts = complete_then p (known.complete ts) (λ v s. series_end known v.0 s v.1) (λ x. follows_then q (commas_follow known) (λ xs. follows_yields same_in))
    (λ x. shows_then λ xs. shows_yields λ each. each.0)

list_case : {A : Type 0} {r : Set} {n : Spelled (List A)} {S : A → Type 0} {ts : List Terminal} {a : Read (List A)} (close : Sign) → Starts n r → In r (others (only (code close)))
    → Complete (only (code close)) n (Each S) ts a → (xs : List A) (rest : List Terminal) → Either (Yields []) n ts rest xs → only (code close) (front rest) ≡ true
    → Met (if begins_with close ts then Ok ([], ts) else a) (xs, rest) (Each S xs)
list_case {S = S} {ts = ts} close s i c xs rest (the_one d) e =
    met_if _ (begins_with close ts) (begins_is close ts ∙ subst (λ us. only (code close) (front us) ≡ true) (sym d.none) e) (gives (sym d.is) d.none (subst (Each S) (sym d.is) tt))
list_case {ts = ts} close s i c xs rest (the_other d) e = met_else _ (begins_with close ts) (begins_not close ts (i.at (front ts) (s.at ts rest xs d))) (c.at xs rest d e)

pub complete_listed : {A : Type 0} {p r : Set} {m : Spelled A} {S : A → Type 0} {item : Reader A} (close : Sign) → Listing (only (code close)) p m S item → Starts m r → In r (others (only (code close)))
    → (ts : List Terminal) → Complete (only (code close)) (Listed m) (Each S) ts (listed item close ts)
unfolding listed Listed Series
complete_listed close known s i ts = record { at = list_case close (starts_then s) i (complete_series known ts) }

-- a list in round brackets, which stands one level deeper, with its closing bracket
abbrev pub Round : {A : Type 0} → ℕ → (A → Type 0) → List A → Type 0
Round left S xs = (0 < left - 1) × Each S xs

round_case : {A : Type 0} {p r : Set} {m : Spelled A} {S : A → Type 0} (q : Set) (left : ℕ) (item : Reader A) → (0 < left → Listing (only (code sign.CloseRound)) p m S item) → Starts m r
    → In r (others (only (code sign.CloseRound))) → (ts : List Terminal) → (xs : List A) (rest : List Terminal) → InRound m ts rest xs → q (front rest) ≡ true
    → Met (in_round left (listed item sign.CloseRound) ts) (xs, rest) (Round left S xs)
unfolding in_round InRound
round_case q zero item known s i ts xs rest d e = no_room _ _ sign.OpenRound ts d.middle d.value d.one (λ fits. let k = fits.0 in omega (arith, k))
round_case {S = S} q (suc below) item known s i ts xs rest d e =
    (complete_next {q = q} {T = Round (suc below) S} (complete_the (suc below) (omega arith) sign.OpenRound ts) λ o.
    complete_then (only (code sign.CloseRound)) (complete_listed sign.CloseRound (known (omega arith)) s i o.1)
    (λ v each. complete_part (complete_sign (suc below - 1) sign.CloseRound v.1) (λ c room. complete_yields (room, each)) (λ line. shows_yields λ fits. fits.0))
    (λ x. follows_starts (starts_then starts_the) same_in) (λ x. shows_then λ c. shows_yields λ fits. fits.1)).at xs rest d e

-- a list in round brackets, where the items are read one level deeper
pub complete_round : {A : Type 0} {q p r : Set} {m : Spelled A} {S : A → Type 0} (left : ℕ) (item : Reader A) → (0 < left → Listing (only (code sign.CloseRound)) p m S item) → Starts m r
    → In r (others (only (code sign.CloseRound))) → (ts : List Terminal) → Complete q (InRound m) (Round left S) ts (in_round left (listed item sign.CloseRound) ts)
complete_round {q = q} left item known s i ts = record { at = round_case q left item known s i ts }

pub each_free : {A : Type 0} (xs : List A) → Each Free xs
each_free [] = tt
each_free (x ∷ xs) = (tt, each_free xs)

pub complete_names : {q : Set} (left : ℕ) → 0 < left - 1 → (ts : List Terminal) → Complete q Names Free ts (names_at left ts)
unfolding names_at Names
complete_names left room ts = complete_iff (complete_round left (name_at (left - 1))
    (λ above. record { complete = complete_name (left - 1) room; shrinks = shrinks_name; comma = refl; end = record { at = λ c e. refl }; apart = only_in _ refl }) starts_name (only_in _ refl) ts)
    (λ xs fits. tt) (λ xs free. (room, each_free xs))
