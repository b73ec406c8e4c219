-- What a production reads is within the limits and names what is shown of it: rows of items, and lists with commas.
use Rattle.std.proofs.Common.{◌≤◌, true, List, [], ◌∷◌, length, map, refl, sym, subst, arith}
use Rattle.std.specs.List.{flat_map, All}
use Rattle.std.proofs.lemmas.List.Elements.{All-nil, All-cons}
use Rattle.sync_base.specs.declared.names.NameList.{NameList}
use Rattle.sync_lex.specs.declared.signs.Sign.TheVariants as sign
use Rattle.sync_lex.specs.declared.terminals.Terminal.{Terminal}
use Rattle.sync_parse_forms.specs.Relations.{Spelled, The, Yields, the_one, the_other, Closed, Many, nothing as no_items, more, Series, Listed, InRound, ◌>>◌}
use Rattle.sync_print.specs.Lexemes.{Lexeme, with_commas, listed}
use Rattle.sync_print_spelling.proofs.Told.{Tells, both, behind, nothing, sign_read, sign_told}

-- what is read is within a limit, and its terminals name what these lexemes name
pub record Read (names : NameList) (limit : Type 0) (xs : List Lexeme) (ts rest : List Terminal) : Type 0 where
  pub fits : limit
  pub tells : Tells names xs ts rest

-- what a production reads is within the limits, and its terminals name what is shown of it
pub record Reads {A B : Type 0} (names : NameList) (production : Spelled A) (says : A → B) (shown : B → List Lexeme) (limits : B → Type 0) : Type 0 where
  pub at : (ts rest : List Terminal) (raw : A) → production ts rest raw → Read names (limits (says raw)) (shown (says raw)) ts rest

-- the end of a production
pub ended : {A : Type 0} {x y : A} {ts us rest : List Terminal} (Q : A → List Terminal → List Terminal → Type 0) → Yields x us rest y → Q x ts us → Q y ts rest
ended {y = y} {ts = ts} {us = us} Q d q = subst (λ vs. Q y ts vs) d.none (subst (λ z. Q z ts us) (sym d.is) q)

pub closed : {A B : Type 0} {names : NameList} {M : Spelled A} {says : A → B} {shown : B → List Lexeme} {Fits : B → Type 0} → Reads names M says shown Fits → Reads names (Closed M) says shown Fits
unfolding Closed
closed {names = names} {says = says} {shown = shown} {Fits = Fits} item = record {
  at = λ ts rest raw d.
      let x = item.at ts d.middle d.value d.one in
      let end = d.next in
      let here : Read names (Fits (says d.value)) (shown (says d.value)) ts end.middle = record { fits = x.fits; tells = behind x.tells (sign_read end.one) } in
      ended (λ z us vs. Read names (Fits (says z)) (shown (says z)) us vs) end.next here;
}

row_reads : {A B : Type 0} {names : NameList} {M : Spelled A} {says : A → B} {shown : B → List Lexeme} {Fits : B → Type 0} → Reads names M says shown Fits
    → (ts rest : List Terminal) (xs : List A) → Many M ts rest xs → Read names (All Fits (map says xs)) (flat_map shown (map says xs)) ts rest
row_reads {Fits = Fits} item ts rest xs no_items = record { fits = All-nil Fits; tells = nothing refl }
row_reads {says = says} {Fits = Fits} item ts rest xs (more {us = us} {x = x} {xs = ys} d ds) =
    let y = item.at ts us x d in
    let z = row_reads item us rest ys ds in
    record { fits = All-cons Fits (says x) (map says ys) y.fits z.fits; tells = both y.tells z.tells }

-- items in a row
pub rows : {A B : Type 0} {names : NameList} {M : Spelled A} {says : A → B} {shown : B → List Lexeme} {Fits : B → Type 0} → Reads names M says shown Fits
    → Reads names (Many M) (map says) (flat_map shown) (All Fits)
rows item = record { at = row_reads item }

behind_commas : {A B : Type 0} {names : NameList} {M : Spelled A} {says : A → B} {shown : B → List Lexeme} {Fits : B → Type 0} → Reads names M says shown Fits
    → (ts rest : List Terminal) (xs : List A) → Many (The sign.Comma >> M) ts rest xs → Read names (All Fits (map says xs)) (with_commas true (map shown (map says xs))) ts rest
behind_commas {Fits = Fits} item ts rest xs no_items = record { fits = All-nil Fits; tells = nothing refl }
behind_commas {says = says} {Fits = Fits} item ts rest xs (more {us = us} {x = x} {xs = ys} d ds) =
    let y = item.at d.middle us x d.next in
    let z = behind_commas item us rest ys ds in
    record { fits = All-cons Fits (says x) (map says ys) y.fits z.fits; tells = both (both (sign_told sign.Comma d.one) y.tells) z.tells }

-- items with commas between, at least one
pub series : {A B : Type 0} {names : NameList} {M : Spelled A} {says : A → B} {shown : B → List Lexeme} {Fits : B → Type 0} → Reads names M says shown Fits
    → Reads names (Series M) (map says) (λ xs. listed (map shown xs)) (λ xs. (1 ≤ length xs) × All Fits xs)
unfolding Series
series {A = A} {names = names} {says = says} {shown = shown} {Fits = Fits} item = record {
  at = λ ts rest raw d.
      let y = item.at ts d.middle d.value d.one in
      let z = behind_commas item d.middle d.next.middle d.next.value d.next.one in
      let some : 1 ≤ length (map says (d.value ∷ d.next.value)) = omega arith in
      let here : Read names ((1 ≤ length (map says (d.value ∷ d.next.value))) × All Fits (map says (d.value ∷ d.next.value))) (listed (map shown (map says (d.value ∷ d.next.value)))) ts d.next.middle
      = record { fits = (some, All-cons Fits (says d.value) (map says d.next.value) y.fits z.fits); tells = both y.tells z.tells } in
      ended (λ (xs : List A) us vs. Read names ((1 ≤ length (map says xs)) × All Fits (map says xs)) (listed (map shown (map says xs))) us vs) d.next.next here;
}

-- items with commas between, or nothing
listed_reads : {A B : Type 0} {names : NameList} {M : Spelled A} {says : A → B} {shown : B → List Lexeme} {Fits : B → Type 0} → Reads names M says shown Fits
    → (ts rest : List Terminal) (xs : List A) → Listed M ts rest xs → Read names (All Fits (map says xs)) (listed (map shown (map says xs))) ts rest
unfolding Listed
listed_reads {A = A} {names = names} {says = says} {shown = shown} {Fits = Fits} item ts rest xs (the_one d) =
    let here : Read names (All Fits (map says [])) (listed (map shown (map says []))) ts ts = record { fits = All-nil Fits; tells = nothing refl } in
    ended (λ (ys : List A) us vs. Read names (All Fits (map says ys)) (listed (map shown (map says ys))) us vs) d here
listed_reads item ts rest xs (the_other d) = let x = (series item).at ts rest xs d in record { fits = x.fits.1; tells = x.tells }

-- the same in round brackets, which name nothing
pub in_brackets : {A B : Type 0} {names : NameList} {M : Spelled A} {says : A → B} {shown : B → List Lexeme} {Fits : B → Type 0} → Reads names M says shown Fits
    → Reads names (InRound M) (map says) (λ xs. listed (map shown xs)) (All Fits)
unfolding InRound
in_brackets {A = A} {names = names} {says = says} {shown = shown} {Fits = Fits} item = record {
  at = λ ts rest raw d.
      let x = listed_reads item d.middle d.next.middle d.next.value d.next.one in
      let end = d.next.next in
      let here : Read names (All Fits (map says d.next.value)) (listed (map shown (map says d.next.value))) ts end.middle
      = record { fits = x.fits; tells = both (sign_read d.one) (behind x.tells (sign_read end.one)) } in
      ended (λ (xs : List A) us vs. Read names (All Fits (map says xs)) (listed (map shown (map says xs))) us vs) end.next here;
}
