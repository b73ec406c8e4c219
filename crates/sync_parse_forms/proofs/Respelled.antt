-- What is shown of a value spells a value that says the same: one theorem for all productions that are data.
use Rattle.std.proofs.Common.{◌≡◌, ◌≤◌, ℕ, List, [], ◌∷◌, ◌++◌, Option, ◌⊎◌, inl, inr, refl, sym, subst}
use Rattle.sync_lex.specs.declared.signs.Sign.{Sign}
use Rattle.sync_lex.specs.declared.signs.Sign.TheVariants as sign
use Rattle.sync_lex.specs.declared.terminals.Terminal.{Terminal}
use Rattle.sync_parse_exprs.specs.declared.raw_names.RawName.{RawName}
use Rattle.sync_parse_forms.specs.Lexemes as lexeme
use Rattle.sync_parse_forms.specs.Lexemes.{Lexeme, IsSaid, Says, no_more, one_more}
use Rattle.sync_parse_forms.specs.Relations.{Spelled, The, AName, ANumber, Yields, Here, Then, Either, the_one, the_other, Many, nothing, more, Listed, Series}
use Rattle.sync_parse_forms.specs.Codes.{Code}
use Rattle.sync_parse_forms.specs.Spellings.{Inside, spelling}
use Rattle.sync_parse_forms.specs.Shows.{show, all_shown, commas_shown, list_shown, SameRows, Same, Each, no_one, and_next, Fits}

-- terminals that say two runs of lexemes
pub split : {ts rest : List Terminal} (xs ys : List Lexeme) → Says (xs ++ ys) ts rest → (us : List Terminal) × Says xs ts us × Says ys us rest
split {ts = ts} [] ys h = (ts, no_more, h)
split (x ∷ xs) ys (one_more is h) = let r = split xs ys h in (r.0, one_more is r.1, r.2)

the_sign : {s : Sign} {ts rest : List Terminal} → Says (lexeme.a_sign s ∷ []) ts rest → (line : ℕ) × The s ts rest line
the_sign (one_more {w = w} is no_more) = (w.line, record { terminal = w; stands = refl; is = is; line_is = refl })

cut_sign : {s : Sign} {xs : List Lexeme} {ts rest : List Terminal} → Says (lexeme.a_sign s ∷ xs) ts rest → (us : List Terminal) × ((line : ℕ) × The s ts us line) × Says xs us rest
cut_sign (one_more {w = w} {ts = us} is h) = (us, (w.line, record { terminal = w; stands = refl; is = is; line_is = refl }), h)

the_number : {n : ℕ} {ts rest : List Terminal} → Says (lexeme.a_number n ∷ []) ts rest → ANumber ts rest n
the_number (one_more {w = w} is no_more) = record { terminal = w; stands = refl; is = is }

the_name : {x : ℕ} {ts rest : List Terminal} → Says (lexeme.a_name x ∷ []) ts rest → (line : ℕ) × AName ts rest (record { name = x; line = line })
the_name {x} (one_more {w = w} is no_more) = (w.line, record { terminal = w; number = x; strategy = is.0; stands = refl; is = is.1; name_is = refl })

nothing_said : {ts rest : List Terminal} → Says [] ts rest → ts ≡ rest
nothing_said no_more = refl

seq : {A B : Type 0} {One : Spelled A} {Next : A → Spelled B} {ts rest : List Terminal} {y : B} (x : A) (us : List Terminal) → One ts us x → Next x us rest y → Then One Next ts rest y
seq x us p q = record { value = x; middle = us; one = p; next = q }

yields : {A : Type 0} (x : A) {ts : List Terminal} → Yields x ts ts x
yields x = record { none = refl; is = refl }

here_is : {ts : List Terminal} → Here ts ts ts
here_is = record { none = refl; is = refl }

-- terminals that say this spell something that says the same
pub record Respelled {A : Type 0} (m : Spelled A) (SameAs : A → A → Type 0) (y : A) (ts rest : List Terminal) : Type 0 where
  pub tree : A
  pub spelled : m ts rest tree
  pub same : SameAs tree y

none_many : {A : Type 0} {m : Spelled A} {ts rest : List Terminal} → ts ≡ rest → Many m ts rest []
none_many {m = m} {ts = ts} e = subst (λ us. Many m ts us []) e nothing

rows : {A : Type 0} {m : Spelled A} {SameAs : A → A → Type 0} {shown : A → List Lexeme} {Fit : A → Type 0} → ((y : A) → Fit y → (ts rest : List Terminal) → Says (shown y) ts rest → Respelled m SameAs y ts rest)
    → (ys : List A) → Each Fit ys → (ts rest : List Terminal) → Says (all_shown shown ys) ts rest → Respelled (Many m) (SameRows SameAs) ys ts rest
rows item [] no_one ts rest h = record { tree = []; spelled = none_many (nothing_said h); same = SameRows.none }
rows {shown = shown} item (y ∷ ys) (and_next f fs) ts rest h =
    let k = split (shown y) (all_shown shown ys) h in
    let x = item y f ts k.0 k.1 in
    let xs = rows item ys fs k.0 rest k.2 in
    record { tree = x.tree ∷ xs.tree; spelled = more x.spelled xs.spelled; same = SameRows.next x.same xs.same }

commas : {A : Type 0} {m : Spelled A} {SameAs : A → A → Type 0} {shown : A → List Lexeme} {Fit : A → Type 0} → ((y : A) → Fit y → (ts rest : List Terminal) → Says (shown y) ts rest → Respelled m SameAs y ts rest)
    → (ys : List A) → Each Fit ys → (ts rest : List Terminal) → Says (commas_shown shown ys) ts rest → Respelled (Many (Then (The sign.Comma) (λ l. m))) (SameRows SameAs) ys ts rest
commas item [] no_one ts rest h = record { tree = []; spelled = none_many (nothing_said h); same = SameRows.none }
commas {shown = shown} item (y ∷ ys) (and_next f fs) ts rest h =
    let s = cut_sign h in
    let k = split (shown y) (commas_shown shown ys) s.2 in
    let x = item y f s.0 k.0 k.1 in
    let xs = commas item ys fs k.0 rest k.2 in
    record { tree = x.tree ∷ xs.tree; spelled = more (seq s.1.0 s.0 s.1.1 x.spelled) xs.spelled; same = SameRows.next x.same xs.same }

lists : {A : Type 0} {m : Spelled A} {SameAs : A → A → Type 0} {shown : A → List Lexeme} {Fit : A → Type 0} → ((y : A) → Fit y → (ts rest : List Terminal) → Says (shown y) ts rest → Respelled m SameAs y ts rest)
    → (ys : List A) → Each Fit ys → (ts rest : List Terminal) → Says (list_shown shown ys) ts rest → Respelled (Listed m) (SameRows SameAs) ys ts rest
unfolding Listed Series
lists item [] no_one ts rest h = record { tree = []; spelled = the_one (record { none = nothing_said h; is = refl }); same = SameRows.none }
lists {shown = shown} item (y ∷ ys) (and_next f fs) ts rest h =
    let k = split (shown y) (commas_shown shown ys) h in
    let x = item y f ts k.0 k.1 in
    let xs = commas item ys fs k.0 rest k.2 in
    record { tree = x.tree ∷ xs.tree; spelled = the_other (seq x.tree k.0 x.spelled (seq xs.tree rest xs.spelled (yields _))); same = SameRows.next x.same xs.same }

-- what is asked of known forms
abbrev pub LeafShown : (K : Type 0 → Type 1) → ((X : Type 0) → K X → Spelled X) → ((X : Type 0) → K X → X → List Lexeme) → ((X : Type 0) → K X → X → X → Type 0) → ((X : Type 0) → K X → X → Type 0) → Type 1
LeafShown K j k o f = (X : Type 0) (c : K X) (y : X) → f X c y → (ts rest : List Terminal) → Says (k X c y) ts rest → Respelled (j X c) (o X c) y ts rest

pub shown : {K : Type 0 → Type 1} {R A : Type 0} (j : (X : Type 0) → K X → Spelled X) (k : (X : Type 0) → K X → X → List Lexeme) (o : (X : Type 0) → K X → X → X → Type 0) (l : (X : Type 0) → K X → X → Type 0) → LeafShown K j k o l
    → (m : Spelled R) (r : R → List Lexeme) (e : R → R → Type 0) (z : R → Type 0) → ((y : R) → z y → (ts rest : List Terminal) → Says (r y) ts rest → Respelled m e y ts rest)
    → (c : Code K R A) (y : A) → Fits l z c y → (ts rest : List Terminal) → Says (show k r c y) ts rest → Respelled (spelling j m c) (Same o e c) y ts rest
shown j k o l w m r e z i (Code.leaf {A = X} c) y f ts rest h = w X c y f ts rest h
shown j k o l w m r e z i (Code.a_sign s) y f ts rest h = let d = the_sign h in record { tree = d.0; spelled = d.1; same = tt }
shown j k o l w m r e z i Code.a_name y f ts rest h = let d = the_name h in record { tree = record { name = y.name; line = d.0 }; spelled = d.1; same = refl }
shown j k o l w m r e z i Code.a_number y f ts rest h = record { tree = y; spelled = the_number h; same = refl }
shown j k o l w m r e z i Code.inner y f ts rest h = i y f ts rest h
shown j k o l w m r e z i Code.nothing y f ts rest h = record { tree = tt; spelled = record { none = nothing_said h; is = refl }; same = tt }
shown j k o l w m r e z i (Code.after s c) y f ts rest h =
    let d = cut_sign h in
    let x = shown j k o l w m r e z i c y f d.0 rest d.2 in
    record { tree = x.tree; spelled = seq d.1.0 d.0 d.1.1 x.spelled; same = x.same }
shown j k o l w m r e z i (Code.before c s) y f ts rest h =
    let d = split (show k r c y) (lexeme.a_sign s ∷ []) h in
    let x = shown j k o l w m r e z i c y f ts d.0 d.1 in
    let t = the_sign d.2 in
    record { tree = x.tree; spelled = seq x.tree d.0 x.spelled (seq t.0 rest t.1 (yields _)); same = x.same }
shown j k o l w m r e z i (Code.both c d) y f ts rest h =
    let n = split (show k r c y.0) (show k r d y.1) h in
    let a = shown j k o l w m r e z i c y.0 f.0 ts n.0 n.1 in
    let b = shown j k o l w m r e z i d y.1 f.1 n.0 rest n.2 in
    record { tree = (a.tree, b.tree); spelled = seq a.tree n.0 a.spelled (seq b.tree rest b.spelled (yields _)); same = (a.same, b.same) }
shown j k o l w m r e z i (Code.either t c d) (inl y) f ts rest h =
    let x = shown j k o l w m r e z i c y f ts rest h in
    record { tree = inl x.tree; spelled = the_one (seq x.tree rest x.spelled (yields _)); same = x.same }
shown j k o l w m r e z i (Code.either t c d) (inr y) f ts rest h =
    let x = shown j k o l w m r e z i d y f ts rest h in
    record { tree = inr x.tree; spelled = the_other (seq x.tree rest x.spelled (yields _)); same = x.same }
shown j k o l w m r e z i (Code.row t c) ys f ts rest h = rows (shown j k o l w m r e z i c) ys f ts rest h
shown j k o l w m r e z i (Code.listed q c) ys f ts rest h = lists (shown j k o l w m r e z i c) ys f ts rest h
shown j k o l w m r e z i (Code.bracketed a b c) y f ts rest h =
    let d = cut_sign h in
    let n = split (show k r c y) (lexeme.a_sign b ∷ []) d.2 in
    let x = shown j k o l w m r e z i c y f d.0 n.0 n.1 in
    let t = the_sign n.2 in
    record { tree = x.tree; spelled = seq (x.tree, t.0) rest (seq d.1.0 d.0 d.1.1 (seq x.tree n.0 x.spelled (seq t.0 rest t.1 (yields _)))) (yields _); same = x.same }
shown j k o l w m r e z i (Code.enclosed a b c) y f ts rest h =
    let d = cut_sign h in
    let n = split (show k r c y.0) (lexeme.a_sign b ∷ []) d.2 in
    let x = shown j k o l w m r e z i c y.0 f d.0 n.0 n.1 in
    let t = the_sign n.2 in
    record { tree = (x.tree, t.0); spelled = seq d.1.0 d.0 d.1.1 (seq x.tree n.0 x.spelled (seq t.0 rest t.1 (yields _))); same = x.same }
shown j k o l w m r e z i (Code.node make parts law c) y f ts rest h =
    let x = shown j k o l w m r e z i c (parts y) f ts rest h in
    record { tree = make ts x.tree; spelled = seq ts ts here_is (seq x.tree rest x.spelled (yields _)); same = subst (λ v. Same o e c v (parts y)) (sym (law ts x.tree)) x.same }
