-- What a production that is data reads is within the limits, and its terminals name what is shown of it.
use Rattle.std.proofs.Common.{◌≡◌, ◌≤◌, ℕ, List, [], ◌∷◌, ◌++◌, map, refl, sym, ap, ◌∙◌, subst}
use Rattle.std.proofs.lemmas.List.Elements.{All-head}
use Rattle.sync_base.specs.Limits.{largest}
use Rattle.sync_base.specs.declared.names.NameList.{NameList}
use Rattle.sync_lex.specs.declared.signs.Sign.{Sign}
use Rattle.sync_lex.specs.declared.signs.Sign.TheVariants as sign
use Rattle.sync_lex.specs.declared.terminals.Terminal.{Terminal}
use Rattle.sync_parse_exprs.specs.declared.raw_names.RawName.{RawName}
use Rattle.sync_parse_forms.specs.Lexemes as lexeme
use Rattle.sync_parse_forms.specs.Lexemes.{Lexeme}
use Rattle.sync_parse_forms.specs.Relations.{Spelled, The, AName, ANumber, Yields, Then, the_one, the_other, Many, nothing, more, Listed, Series}
use Rattle.sync_parse_forms.specs.Codes.{Code}
use Rattle.sync_parse_forms.specs.Spellings.{spelling}
use Rattle.sync_parse_forms.specs.Shows.{show, all_shown, commas_shown, list_shown, Each, no_one, and_next, Fits}
use Rattle.sync_parse_forms.specs.Relations as grammar
use Rattle.sync_print.specs.Lexemes.{one, one_name, one_number}
use Rattle.sync_print_programs.specs.Written.{as_printed}
use Rattle.sync_print_spelling.proofs.TrueNames.{KindIsTrue, TerminalIsTrue, TerminalsAreTrue}
use Rattle.sync_print_spelling.proofs.Told as told
use Rattle.sync_print_spelling.proofs.Told.{Tells}

-- what is read is within a limit, where its terminals are true, and they name what these lexemes name
pub record Reads (names : NameList) (limit : Type 0) (xs : List Lexeme) (ts rest : List Terminal) : Type 0 where
  pub fits : TerminalsAreTrue names ts → limit
  pub tells : Tells names (map as_printed xs) ts rest

printed_joined : (xs ys : List Lexeme) → map as_printed (xs ++ ys) ≡ map as_printed xs ++ map as_printed ys
printed_joined [] ys = refl
printed_joined (x ∷ xs) ys = ap (λ z. as_printed x ∷ z) (printed_joined xs ys)

both : {names : NameList} {P Q : Type 0} {xs ys : List Lexeme} {ts us rest : List Terminal} → Reads names P xs ts us → Reads names Q ys us rest → Reads names (P × Q) (xs ++ ys) ts rest
both {names = names} {xs = xs} {ys = ys} {ts = ts} {rest = rest} p q = record {
  fits = λ t. (p.fits t, q.fits (p.tells.told t).true_rest);
  tells = subst (λ z. Tells names z ts rest) (sym (printed_joined xs ys)) (told.both p.tells q.tells);
}

the_sign : {names : NameList} {s : Sign} {ts rest : List Terminal} {line : ℕ} → The s ts rest line → Tells names (map as_printed (lexeme.a_sign s ∷ [])) ts rest
unfolding one
the_sign {names = names} {s = s} {ts = ts} {rest = rest} {line = line} d =
    let e : grammar.The s ts rest line = record { terminal = d.terminal; stands = d.stands; is = d.is; line_is = d.line_is } in told.sign_told s e

after : {names : NameList} {P : Type 0} {s : Sign} {xs : List Lexeme} {ts us rest : List Terminal} {line : ℕ} → The s ts us line → Reads names P xs us rest → Reads names P (lexeme.a_sign s ∷ xs) ts rest
after d p = record { fits = λ t. p.fits ((the_sign d).told t).true_rest; tells = told.both (the_sign d) p.tells }

before : {names : NameList} {P : Type 0} {s : Sign} {xs : List Lexeme} {ts us rest : List Terminal} {line : ℕ} → Reads names P xs ts us → The s us rest line → Reads names P (xs ++ lexeme.a_sign s ∷ []) ts rest
before {names = names} {s = s} {xs = xs} {ts = ts} {rest = rest} p d = record {
  fits = p.fits;
  tells = subst (λ z. Tells names z ts rest) (sym (printed_joined xs (lexeme.a_sign s ∷ []))) (told.both p.tells (the_sign d));
}

none : {names : NameList} {ts rest : List Terminal} → ts ≡ rest → Reads names (Unit {0}) [] ts rest
none e = record { fits = λ t. tt; tells = told.nothing e }

within : (names : NameList) {ts rest : List Terminal} {n : ℕ} → ANumber ts rest n → TerminalsAreTrue names ts → n ≤ largest
within names {rest = rest} d t = subst (KindIsTrue names) d.is (All-head (TerminalIsTrue names) d.terminal rest (subst (TerminalsAreTrue names) d.stands t))

the_number : {names : NameList} {ts rest : List Terminal} {n : ℕ} → ANumber ts rest n → Reads names (n ≤ largest) (lexeme.a_number n ∷ []) ts rest
unfolding one_number
the_number {names = names} {ts = ts} {rest = rest} {n = n} d =
    let e : grammar.ANumber ts rest n = record { terminal = d.terminal; stands = d.stands; is = d.is } in
    record { fits = λ t. within names d t; tells = record { told = λ t. (told.number_told {names = names} n (within names d t) e).told t } }

the_name : {names : NameList} {ts rest : List Terminal} {x : RawName} → AName ts rest x → Reads names (Unit {0}) (lexeme.a_name x.name ∷ []) ts rest
unfolding one_name
the_name {ts = ts} {rest = rest} {x = x} d =
    let e : grammar.AName ts rest x = record { terminal = d.terminal; number = d.number; strategy = d.strategy; stands = d.stands; is = d.is; name_is = d.name_is } in
    record { fits = λ t. tt; tells = told.name_told e }

-- behind which nothing stands
ends : {names : NameList} {A P : Type 0} {xs : List Lexeme} {x y : A} {ts us rest : List Terminal} → Reads names P xs ts us → Yields x us rest y → Reads names P xs ts rest
ends {names = names} {P = P} {xs = xs} {ts = ts} p d = subst (λ vs. Reads names P xs ts vs) d.none p

abbrev Item : {A : Type 0} → NameList → Spelled A → (A → List Lexeme) → (A → Type 0) → Type 0
Item {A = A} names m shown fit = (ts rest : List Terminal) (x : A) → m ts rest x → Reads names (fit x) (shown x) ts rest

rows : {A : Type 0} {names : NameList} {m : Spelled A} {shown : A → List Lexeme} {fit : A → Type 0} → Item names m shown fit → (ts rest : List Terminal) (xs : List A) → Many m ts rest xs → Reads names (Each fit xs) (all_shown shown xs) ts rest
rows item ts rest xs nothing = record { fits = λ t. no_one; tells = told.nothing refl }
rows item ts rest xs (more {us = us} {x = x} {xs = ys} d ds) =
    let p = both (item ts us x d) (rows item us rest ys ds) in record { fits = λ t. and_next (p.fits t).0 (p.fits t).1; tells = p.tells }

commas : {A : Type 0} {names : NameList} {m : Spelled A} {shown : A → List Lexeme} {fit : A → Type 0} → Item names m shown fit → (ts rest : List Terminal) (xs : List A) → Many (Then (The sign.Comma) (λ l. m)) ts rest xs
    → Reads names (Each fit xs) (commas_shown shown xs) ts rest
commas item ts rest xs nothing = record { fits = λ t. no_one; tells = told.nothing refl }
commas item ts rest xs (more {us = us} {x = x} {xs = ys} d ds) =
    let p = after d.one (both (item d.middle us x d.next) (commas item us rest ys ds)) in record { fits = λ t. and_next (p.fits t).0 (p.fits t).1; tells = p.tells }

lists : {A : Type 0} {names : NameList} {m : Spelled A} {shown : A → List Lexeme} {fit : A → Type 0} → Item names m shown fit → (ts rest : List Terminal) (xs : List A) → Listed m ts rest xs → Reads names (Each fit xs) (list_shown shown xs) ts rest
unfolding Listed Series
lists {names = names} {shown = shown} {fit = fit} item ts rest xs (the_one d) =
    subst (λ ys. Reads names (Each fit ys) (list_shown shown ys) ts rest) (sym d.is) (record { fits = λ t. no_one; tells = told.nothing d.none })
lists {names = names} {shown = shown} {fit = fit} item ts rest xs (the_other d) =
    let p = both (item ts d.middle d.value d.one) (commas item d.middle d.next.middle d.next.value d.next.one) in
    let q : Reads names (Each fit (d.value ∷ d.next.value)) (list_shown shown (d.value ∷ d.next.value)) ts d.next.middle = record { fits = λ t. and_next (p.fits t).0 (p.fits t).1; tells = p.tells } in
    subst (λ ys. Reads names (Each fit ys) (list_shown shown ys) ts rest) (sym d.next.next.is) (ends q d.next.next)

abbrev pub LeafTold : NameList → (K : Type 0 → Type 1) → ((X : Type 0) → K X → Spelled X) → ((X : Type 0) → K X → X → List Lexeme) → ((X : Type 0) → K X → X → Type 0) → Type 1
LeafTold names K j k l = (X : Type 0) (c : K X) (ts rest : List Terminal) (x : X) → j X c ts rest x → Reads names (l X c x) (k X c x) ts rest

pub told_of : (names : NameList) {K : Type 0 → Type 1} {R A : Type 0} (j : (X : Type 0) → K X → Spelled X) (k : (X : Type 0) → K X → X → List Lexeme) (l : (X : Type 0) → K X → X → Type 0) → LeafTold names K j k l
    → (m : Spelled R) (r : R → List Lexeme) (z : R → Type 0) → ((ts rest : List Terminal) (x : R) → m ts rest x → Reads names (z x) (r x) ts rest)
    → (c : Code K R A) → (ts rest : List Terminal) (x : A) → spelling j m c ts rest x → Reads names (Fits l z c x) (show k r c x) ts rest
told_of names j k l w m r z i (Code.leaf {A = X} c) ts rest x d = w X c ts rest x d
told_of names j k l w m r z i (Code.a_sign s) ts rest x d = record { fits = λ t. tt; tells = the_sign d }
told_of names j k l w m r z i Code.a_name ts rest x d = the_name d
told_of names j k l w m r z i Code.a_number ts rest x d = the_number d
told_of names j k l w m r z i Code.inner ts rest x d = i ts rest x d
told_of names j k l w m r z i Code.nothing ts rest x d = none d.none
told_of names j k l w m r z i (Code.after s c) ts rest x d = after d.one (told_of names j k l w m r z i c d.middle rest x d.next)
told_of names j k l w m r z i (Code.before c s) ts rest x d =
    let e = d.next in
    subst (λ y. Reads names (Fits l z c y) (show k r c y ++ lexeme.a_sign s ∷ []) ts rest) (sym e.next.is) (ends (before (told_of names j k l w m r z i c ts d.middle d.value d.one) e.one) e.next)
told_of names j k l w m r z i (Code.both c b) ts rest x d =
    let e = d.next in
    subst (λ y. Reads names (Fits l z c y.0 × Fits l z b y.1) (show k r c y.0 ++ show k r b y.1) ts rest) (sym e.next.is)
    (ends (both (told_of names j k l w m r z i c ts d.middle d.value d.one) (told_of names j k l w m r z i b d.middle e.middle e.value e.one)) e.next)
told_of names j k l w m r z i (Code.either q c b) ts rest x (the_one d) =
    subst (λ y. Reads names (Fits l z (Code.either q c b) y) (show k r (Code.either q c b) y) ts rest) (sym d.next.is) (ends (told_of names j k l w m r z i c ts d.middle d.value d.one) d.next)
told_of names j k l w m r z i (Code.either q c b) ts rest x (the_other d) =
    subst (λ y. Reads names (Fits l z (Code.either q c b) y) (show k r (Code.either q c b) y) ts rest) (sym d.next.is) (ends (told_of names j k l w m r z i b ts d.middle d.value d.one) d.next)
told_of names j k l w m r z i (Code.row q c) ts rest xs d = rows (told_of names j k l w m r z i c) ts rest xs d
told_of names j k l w m r z i (Code.listed q c) ts rest xs d = lists (told_of names j k l w m r z i c) ts rest xs d
told_of names j k l w m r z i (Code.bracketed o e c) ts rest x d =
    let b = d.one in
    let v = b.next in
    let y = v.next in
    let value : d.value.0 ≡ v.value = ap (λ u. u.0) y.next.is in
    subst (λ u. Reads names (Fits l z c u) (lexeme.a_sign o ∷ (show k r c u ++ lexeme.a_sign e ∷ [])) ts rest) (sym (d.next.is ∙ value))
    (ends (ends (after b.one (before (told_of names j k l w m r z i c b.middle v.middle v.value v.one) y.one)) y.next) d.next)
told_of names j k l w m r z i (Code.enclosed o e c) ts rest x d =
    let v = d.next in
    let y = v.next in
    subst (λ u. Reads names (Fits l z c u.0) (lexeme.a_sign o ∷ (show k r c u.0 ++ lexeme.a_sign e ∷ [])) ts rest) (sym y.next.is)
    (ends (after d.one (before (told_of names j k l w m r z i c d.middle v.middle v.value v.one) y.one)) y.next)
told_of names j k l w m r z i (Code.node make parts law c) ts rest x d =
    let e = d.next in
    let known = told_of names j k l w m r z i c d.middle e.middle e.value e.one in
    let here = subst (λ us. Reads names (Fits l z c e.value) (show k r c e.value) us e.middle) (sym d.one.none) known in
    subst (λ y. Reads names (Fits l z c (parts y)) (show k r c (parts y)) ts rest) (sym e.next.is)
    (subst (λ y. Reads names (Fits l z c y) (show k r c y) ts rest) (sym (law d.value e.value)) (ends here e.next))
