-- Rows of items, and lists with commas: what they spell.
use Rattle.std.proofs.Common.{◌≡◌, ◌≤◌, true, List, [], ◌∷◌, ◌++◌, length, map, refl, ap, ◌∙◌, arith}
use Rattle.std.specs.List.{flat_map, All}
use Rattle.std.proofs.lemmas.List.Elements.{All-head, All-tail}
use Rattle.sync_lex.specs.declared.signs.Sign.TheVariants as sign
use Rattle.sync_lex.specs.declared.terminals.Terminal.{Terminal}
use Rattle.sync_parse_forms.specs.Relations.{Spelled, The, the_one, the_other, Many, nothing, more, Series, Listed, InRound, ◌>>◌}
use Rattle.sync_print.specs.Lexemes.{Lexeme, one, with_commas, listed}
use Rattle.sync_print_spelling.specs.Says.{Says, no_more}
use Rattle.sync_print_spelling.specs.Laws.{Derives, ShownIsDerived}
use Rattle.sync_print_spelling.proofs.Terminals.{split, the_sign, yields, seq}

both_are : {A : Type 0} {x y : A} {xs ys : List A} → x ≡ y → xs ≡ ys → ◌≡◌ {A = List A} (x ∷ xs) (y ∷ ys)
both_are {y = y} {xs = xs} p q = ap (λ z. z ∷ xs) p ∙ ap (λ zs. y ∷ zs) q

row_spelled : {A B : Type 0} {M : Spelled A} {says : A → B} {show : B → List Lexeme} {Fits : B → Type 0} → ShownIsDerived M says show Fits
    → (xs : List B) → All Fits xs → (ts rest : List Terminal) → Says (flat_map show xs) ts rest → Derives (Many M) (map says) xs ts rest
row_spelled item [] fits ts rest no_more = record { raw = []; spelled = nothing; is = refl }
row_spelled {show = show} {Fits = Fits} item (x ∷ xs) fits ts rest h =
    let r = split (show x) (flat_map show xs) h in
    let y = item.holds x (All-head Fits x xs fits) ts r.0 r.1 in
    let ys = row_spelled item xs (All-tail Fits x xs fits) r.0 rest r.2 in
    record { raw = y.raw ∷ ys.raw; spelled = more y.spelled ys.spelled; is = both_are y.is ys.is }

-- items in a row
pub rows : {A B : Type 0} {M : Spelled A} {says : A → B} {show : B → List Lexeme} {Fits : B → Type 0} → ShownIsDerived M says show Fits
    → ShownIsDerived (Many M) (map says) (flat_map show) (All Fits)
rows item = record { holds = row_spelled item }

behind_spelled : {A B : Type 0} {M : Spelled A} {says : A → B} {show : B → List Lexeme} {Fits : B → Type 0} → ShownIsDerived M says show Fits
    → (xs : List B) → All Fits xs → (ts rest : List Terminal) → Says (with_commas true (map show xs)) ts rest → Derives (Many (The sign.Comma >> M)) (map says) xs ts rest
behind_spelled item [] fits ts rest no_more = record { raw = []; spelled = nothing; is = refl }
behind_spelled {show = show} {Fits = Fits} item (x ∷ xs) fits ts rest h =
    let r = split (one sign.Comma ++ show x) (with_commas true (map show xs)) h in
    let q = split (one sign.Comma) (show x) r.1 in
    let c = the_sign q.1 in
    let y = item.holds x (All-head Fits x xs fits) q.0 r.0 q.2 in
    let ys = behind_spelled item xs (All-tail Fits x xs fits) r.0 rest r.2 in
    record { raw = y.raw ∷ ys.raw; spelled = more (seq c.0 q.0 c.1 y.spelled) ys.spelled; is = both_are y.is ys.is }

-- items with commas between, at least one
pub series : {A B : Type 0} {M : Spelled A} {says : A → B} {show : B → List Lexeme} {Fits : B → Type 0} → ShownIsDerived M says show Fits
    → (xs : List B) → 1 ≤ length xs → All Fits xs → (ts rest : List Terminal) → Says (listed (map show xs)) ts rest → Derives (Series M) (map says) xs ts rest
unfolding Series
series item [] some fits ts rest h = absurd (omega arith)
series {show = show} {Fits = Fits} item (x ∷ xs) some fits ts rest h =
    let r = split (show x) (with_commas true (map show xs)) h in
    let y = item.holds x (All-head Fits x xs fits) ts r.0 r.1 in
    let ys = behind_spelled item xs (All-tail Fits x xs fits) r.0 rest r.2 in
    record { raw = y.raw ∷ ys.raw; spelled = seq y.raw r.0 y.spelled (seq ys.raw rest ys.spelled (yields _)); is = both_are y.is ys.is }

-- items with commas between, or nothing
pub lists : {A B : Type 0} {M : Spelled A} {says : A → B} {show : B → List Lexeme} {Fits : B → Type 0} → ShownIsDerived M says show Fits
    → (xs : List B) → All Fits xs → (ts rest : List Terminal) → Says (listed (map show xs)) ts rest → Derives (Listed M) (map says) xs ts rest
unfolding Listed
lists item [] fits ts rest no_more = record { raw = []; spelled = the_one (yields []); is = refl }
lists item (x ∷ xs) fits ts rest h =
    let y = series item (x ∷ xs) (omega arith) fits ts rest h in
    record { raw = y.raw; spelled = the_other y.spelled; is = y.is }

-- the same in round brackets
pub in_brackets : {A B : Type 0} {M : Spelled A} {says : A → B} {show : B → List Lexeme} {Fits : B → Type 0} → ShownIsDerived M says show Fits
    → (xs : List B) → All Fits xs → (ts us vs rest : List Terminal) → Says (one sign.OpenRound) ts us → Says (listed (map show xs)) us vs → Says (one sign.CloseRound) vs rest
    → Derives (InRound M) (map says) xs ts rest
unfolding InRound
in_brackets item xs fits ts us vs rest o h c =
    let y = lists item xs fits us vs h in
    let opens = the_sign o in
    let closes = the_sign c in
    record { raw = y.raw; spelled = seq opens.0 us opens.1 (seq y.raw vs y.spelled (seq closes.0 rest closes.1 (yields _))); is = y.is }
