-- Terminals that spell a value leave the trace that its lexemes leave: one theorem for all productions that are data.
use Rattle.std.proofs.Common.{◌≡◌, ℕ, zero, suc, List, [], ◌∷◌, ◌++◌, Option, ◌⊎◌, inl, inr, refl, sym, ap, ◌∙◌, subst, append_assoc}
use Rattle.sync_lex.specs.declared.signs.Sign.{Sign}
use Rattle.sync_lex.specs.declared.signs.Sign.TheVariants as sign
use Rattle.sync_lex.specs.declared.terminals.Terminal.{Terminal}
use Rattle.sync_parse_exprs.specs.declared.raw_names.RawName.{RawName}
use Rattle.sync_parse_forms.specs.Lexemes as lexeme
use Rattle.sync_parse_forms.specs.Lexemes.{Lexeme}
use Rattle.sync_parse_forms.specs.Relations.{Spelled, The, AName, ANumber, Yields, Here, Then, Either, the_one, the_other, Many, nothing, more, Listed, Series}
use Rattle.sync_parse_forms.specs.Codes.{Code}
use Rattle.sync_parse_forms.specs.Spellings.{spelling, spelled_levels}
use Rattle.sync_parse_forms.specs.Shows.{show, all_shown, commas_shown, list_shown, shown_levels}
use Rattle.sync_parse_forms.specs.Traces.{Trace, of_what, of_terminals, of_lexeme, of_lexemes, Traced}

joined : {T : Type 0} (t : Trace T) (xs ys : List Lexeme) → of_lexemes t (xs ++ ys) ≡ of_lexemes t xs ++ of_lexemes t ys
joined t [] ys = refl
joined t (x ∷ xs) ys = ap (λ z. of_lexeme t x ++ z) (joined t xs ys) ∙ sym (append_assoc (of_lexeme t x) (of_lexemes t xs) (of_lexemes t ys))

pub both : {T : Type 0} {t : Trace T} {xs ys : List Lexeme} {ts us rest : List Terminal} → Traced t xs ts us → Traced t ys us rest → Traced t (xs ++ ys) ts rest
both {t = t} {xs = xs} {ys = ys} {rest = rest} p q = record {
  same = p.same ∙ (ap (λ z. of_lexemes t xs ++ z) q.same ∙ (sym (append_assoc (of_lexemes t xs) (of_lexemes t ys) (of_terminals t rest)) ∙ ap (λ z. z ++ of_terminals t rest) (sym (joined t xs ys))));
}

none : {T : Type 0} {t : Trace T} {ts rest : List Terminal} → ts ≡ rest → Traced t [] ts rest
none {t = t} e = record { same = ap (of_terminals t) e }

one : {T : Type 0} {t : Trace T} {ts rest : List Terminal} (w : Terminal) (x : Lexeme) → ts ≡ w ∷ rest → of_what t w.what ≡ of_lexeme t x → Traced t (x ∷ []) ts rest
one {t = t} {rest = rest} w x e is = record { same = ap (of_terminals t) e ∙ ap (λ z. z ++ of_terminals t rest) (is ∙ sym (append-nil-of (of_lexeme t x))) }
  where
    append-nil-of : {B : Type 0} (xs : List B) → xs ++ [] ≡ xs
    append-nil-of [] = refl
    append-nil-of (y ∷ ys) = ap (λ z. y ∷ z) (append-nil-of ys)

the_sign : {T : Type 0} {t : Trace T} {s : Sign} {ts rest : List Terminal} {line : ℕ} → The s ts rest line → Traced t (lexeme.a_sign s ∷ []) ts rest
the_sign {t = t} {s = s} d = one d.terminal (lexeme.a_sign s) d.stands (ap (of_what t) d.is)

the_number : {T : Type 0} {t : Trace T} {ts rest : List Terminal} {n : ℕ} → ANumber ts rest n → Traced t (lexeme.a_number n ∷ []) ts rest
the_number {t = t} {n = n} d = one d.terminal (lexeme.a_number n) d.stands (ap (of_what t) d.is)

the_name : {T : Type 0} {t : Trace T} {ts rest : List Terminal} {x : RawName} → AName ts rest x → Traced t (lexeme.a_name x.name ∷ []) ts rest
the_name {t = t} {x = x} d = one d.terminal (lexeme.a_name x.name) d.stands (ap (of_what t) d.is ∙ ap t.of_name (sym (ap (λ (y : RawName). y.name) d.name_is)))

-- behind which nothing stands
ends : {T A : Type 0} {t : Trace T} {xs : List Lexeme} {x y : A} {ts us rest : List Terminal} → Traced t xs ts us → Yields x us rest y → Traced t xs ts rest
ends {t = t} {xs = xs} {ts = ts} p d = subst (λ vs. Traced t xs ts vs) d.none p

rows : {T A : Type 0} {t : Trace T} {m : Spelled A} {shown : A → List Lexeme} → ((ts rest : List Terminal) (x : A) → m ts rest x → Traced t (shown x) ts rest) → (ts rest : List Terminal) (xs : List A) → Many m ts rest xs → Traced t (all_shown shown xs) ts rest
rows item ts rest xs nothing = none refl
rows item ts rest xs (more {us = us} {x = x} {xs = ys} d ds) = both (item ts us x d) (rows item us rest ys ds)

commas : {T A : Type 0} {t : Trace T} {m : Spelled A} {shown : A → List Lexeme} → ((ts rest : List Terminal) (x : A) → m ts rest x → Traced t (shown x) ts rest) → (ts rest : List Terminal) (xs : List A) → Many (Then (The sign.Comma) (λ l. m)) ts rest xs
    → Traced t (commas_shown shown xs) ts rest
commas item ts rest xs nothing = none refl
commas item ts rest xs (more {us = us} {x = x} {xs = ys} d ds) = both (the_sign d.one) (both (item d.middle us x d.next) (commas item us rest ys ds))

lists : {T A : Type 0} {t : Trace T} {m : Spelled A} {shown : A → List Lexeme} → ((ts rest : List Terminal) (x : A) → m ts rest x → Traced t (shown x) ts rest) → (ts rest : List Terminal) (xs : List A) → Listed m ts rest xs → Traced t (list_shown shown xs) ts rest
unfolding Listed Series
lists {t = t} {shown = shown} item ts rest xs (the_one d) = subst (λ ys. Traced t (list_shown shown ys) ts rest) (sym d.is) (none d.none)
lists {t = t} {shown = shown} item ts rest xs (the_other d) =
    subst (λ ys. Traced t (list_shown shown ys) ts rest) (sym d.next.next.is) (ends (both (item ts d.middle d.value d.one) (commas item d.middle d.next.middle d.next.value d.next.one)) d.next.next)

abbrev pub LeafTraced : {T : Type 0} → Trace T → (K : Type 0 → Type 1) → ((X : Type 0) → K X → Spelled X) → ((X : Type 0) → K X → X → List Lexeme) → Type 1
LeafTraced t K j k = (X : Type 0) (c : K X) (ts rest : List Terminal) (x : X) → j X c ts rest x → Traced t (k X c x) ts rest

pub traced : {T : Type 0} (t : Trace T) {K : Type 0 → Type 1} {R A : Type 0} (j : (X : Type 0) → K X → Spelled X) (k : (X : Type 0) → K X → X → List Lexeme) → LeafTraced t K j k
    → (m : Spelled R) (r : R → List Lexeme) → ((ts rest : List Terminal) (x : R) → m ts rest x → Traced t (r x) ts rest)
    → (c : Code K R A) → (ts rest : List Terminal) (x : A) → spelling j m c ts rest x → Traced t (show k r c x) ts rest
traced t j k w m r i (Code.leaf {A = X} c) ts rest x d = w X c ts rest x d
traced t j k w m r i (Code.a_sign s) ts rest x d = the_sign d
traced t j k w m r i Code.a_name ts rest x d = the_name d
traced t j k w m r i Code.a_number ts rest x d = the_number d
traced t j k w m r i Code.inner ts rest x d = i ts rest x d
traced t j k w m r i Code.nothing ts rest x d = none d.none
traced t j k w m r i (Code.after s c) ts rest x d = both (the_sign d.one) (traced t j k w m r i c d.middle rest x d.next)
traced t j k w m r i (Code.before c s) ts rest x d =
    let e = d.next in
    subst (λ y. Traced t (show k r c y ++ lexeme.a_sign s ∷ []) ts rest) (sym e.next.is) (ends (both (traced t j k w m r i c ts d.middle d.value d.one) (the_sign e.one)) e.next)
traced t j k w m r i (Code.both c b) ts rest x d =
    let e = d.next in
    subst (λ y. Traced t (show k r c y.0 ++ show k r b y.1) ts rest) (sym e.next.is)
    (ends (both (traced t j k w m r i c ts d.middle d.value d.one) (traced t j k w m r i b d.middle e.middle e.value e.one)) e.next)
traced t j k w m r i (Code.either q c b) ts rest x (the_one d) =
    subst (λ y. Traced t (show k r (Code.either q c b) y) ts rest) (sym d.next.is) (ends (traced t j k w m r i c ts d.middle d.value d.one) d.next)
traced t j k w m r i (Code.either q c b) ts rest x (the_other d) =
    subst (λ y. Traced t (show k r (Code.either q c b) y) ts rest) (sym d.next.is) (ends (traced t j k w m r i b ts d.middle d.value d.one) d.next)
traced t j k w m r i (Code.row q c) ts rest xs d = rows (traced t j k w m r i c) ts rest xs d
traced t j k w m r i (Code.listed q c) ts rest xs d = lists (traced t j k w m r i c) ts rest xs d
traced t j k w m r i (Code.bracketed o e c) ts rest x d =
    let b = d.one in
    let v = b.next in
    let z = v.next in
    let value : d.value.0 ≡ v.value = ap (λ y. y.0) z.next.is in
    subst (λ y. Traced t (lexeme.a_sign o ∷ (show k r c y ++ lexeme.a_sign e ∷ [])) ts rest) (sym (d.next.is ∙ value))
    (ends (ends (both (the_sign b.one) (both (traced t j k w m r i c b.middle v.middle v.value v.one) (the_sign z.one))) z.next) d.next)
traced t j k w m r i (Code.enclosed o e c) ts rest x d =
    let v = d.next in
    let z = v.next in
    subst (λ y. Traced t (lexeme.a_sign o ∷ (show k r c y.0 ++ lexeme.a_sign e ∷ [])) ts rest) (sym z.next.is)
    (ends (both (the_sign d.one) (both (traced t j k w m r i c d.middle v.middle v.value v.one) (the_sign z.one))) z.next)
traced t j k w m r i (Code.node make parts law c) ts rest x d =
    let e = d.next in
    let known = traced t j k w m r i c d.middle e.middle e.value e.one in
    let here = subst (λ us. Traced t (show k r c e.value) us e.middle) (sym d.one.none) known in
    subst (λ y. Traced t (show k r c (parts y)) ts rest) (sym e.next.is) (subst (λ y. Traced t (show k r c y) ts rest) (sym (law d.value e.value)) (ends here e.next))

-- with so many levels
pub traced_levels : {T : Type 0} (t : Trace T) {K : Type 0 → Type 1} {R : Type 0} (j : (X : Type 0) → K X → Spelled X) (k : (X : Type 0) → K X → X → List Lexeme) → LeafTraced t K j k
    → (c : Code K R R) (n : ℕ) (ts rest : List Terminal) (x : R) → spelled_levels j c n ts rest x → Traced t (shown_levels k c n x) ts rest
unfolding spelled_levels shown_levels
traced_levels t j k w c zero ts rest x d = absurd d
traced_levels t j k w c (suc n) ts rest x d = traced t j k w (spelled_levels j c n) (shown_levels k c n) (traced_levels t j k w c n) c ts rest x d
