-- Writing one part of a text after the other.
use Rattle.std.proofs.Common.{◌≡◌, ◌≤◌, ◌<◌, ◌+◌, get_or, add-one, drop-cons, length, drop, map, ℕ, suc, Bool, true, List, [], ◌∷◌, ◌++◌, sym, ap, ◌∙◌, append_assoc}
use Rattle.std.proofs.lemmas.List.{append-nil}
use Rattle.std.proofs.Math.ListN.{drop_of_length-le}
use Rattle.std.specs.List.{flat_map}
use Rattle.std.proofs.lemmas.Grind.{flat_map-append}
use Rattle.sync_base.specs.declared.names.NameList.{NameList}
use Rattle.sync_lex.specs.declared.signs.Sign.TheVariants as sign
use Rattle.sync_print.specs.Lexemes.{Lexeme, written, printed, needed, with_commas}

pub printed-append : (names : NameList) (x y : List Lexeme) → printed names (x ++ y) ≡ printed names x ++ printed names y
unfolding printed
printed-append names x y = flat_map-append (written names) x y

pub joined : (names : NameList) (a : List ℕ) (x y : List Lexeme) → (a ++ printed names x) ++ printed names y ≡ a ++ printed names (x ++ y)
joined names a x y = append_assoc a (printed names x) (printed names y) ∙ ap (λ z. a ++ z) (sym (printed-append names x y))

pub nothing_more : (names : NameList) (a : List ℕ) → a ++ printed names [] ≡ a
unfolding printed
nothing_more names a = simp append-nil

-- one more of items with commas
pub comma_step : (names : NameList) (a : List ℕ) (b : Bool) (x : List Lexeme) (xs : List (List Lexeme))
    → ((a ++ printed names (needed b sign.Comma)) ++ printed names x) ++ printed names (with_commas true xs) ≡ a ++ printed names (with_commas b (x ∷ xs))
comma_step names a b x xs = simp (joined, append_assoc)

-- no more items with commas
pub commas_end : {A B : Type 0} (names : NameList) (a all : List ℕ) (b : Bool) (f : B → List Lexeme) (g : A → B) (n : ℕ) (xs : List A)
    → length xs ≤ n → a ++ printed names (with_commas b (map f (map g (drop n xs)))) ≡ all → a ≡ all
commas_end names a all b f g n xs past e =
    let none : drop n xs ≡ [] = drop_of_length-le xs past in
    let here = rw none at e in
    sym (nothing_more names a) ∙ here

-- one more of a list, as it stands behind some of it
pub next_item : {A : Type 0} (n : ℕ) (xs : List A) (x : A) → n < length xs → x ≡ get_or xs n x → drop n xs ≡ x ∷ drop (n + 1) xs
next_item n xs x within is = rw add-one (drop-cons xs n x within ∙ ap (λ z. z ∷ drop (suc n) xs) (sym is))

pub commas_more : {A B : Type 0} (names : NameList) (a a' a'' all : List ℕ) (b : Bool) (f : B → List Lexeme) (g : A → B) (n : ℕ) (xs : List A) (x : A)
    → n < length xs → x ≡ get_or xs n x → a' ≡ a ++ printed names (needed b sign.Comma) → a'' ≡ a' ++ printed names (f (g x))
    → a ++ printed names (with_commas b (map f (map g (drop n xs)))) ≡ all
    → a'' ++ printed names (with_commas true (map f (map g (drop (n + 1) xs)))) ≡ all
commas_more names a a' a'' all b f g n xs x within is e e' before =
    let here : a ++ printed names (with_commas b (map f (map g (x ∷ drop (n + 1) xs)))) ≡ all = rw (next_item n xs x within is) at before in
    let both : a'' ≡ (a ++ printed names (needed b sign.Comma)) ++ printed names (f (g x)) = cc in
    ap (λ z. z ++ printed names (with_commas true (map f (map g (drop (n + 1) xs))))) both
    ∙ (comma_step names a b (f (g x)) (map f (map g (drop (n + 1) xs))) ∙ here)

-- rows of items
pub row_end : {A B : Type 0} (names : NameList) (a all : List ℕ) (f : B → List Lexeme) (g : A → B) (n : ℕ) (xs : List A)
    → length xs ≤ n → a ++ printed names (flat_map f (map g (drop n xs))) ≡ all → a ≡ all
row_end names a all f g n xs past e =
    let none : drop n xs ≡ [] = drop_of_length-le xs past in
    let here = rw none at e in
    sym (nothing_more names a) ∙ here

pub row_more : {A B : Type 0} (names : NameList) (a a' all : List ℕ) (f : B → List Lexeme) (g : A → B) (n : ℕ) (xs : List A) (x : A)
    → n < length xs → x ≡ get_or xs n x → a' ≡ a ++ printed names (f (g x))
    → a ++ printed names (flat_map f (map g (drop n xs))) ≡ all
    → a' ++ printed names (flat_map f (map g (drop (n + 1) xs))) ≡ all
row_more names a a' all f g n xs x within is e before =
    let here : a ++ printed names (flat_map f (map g (x ∷ drop (n + 1) xs))) ≡ all = rw (next_item n xs x within is) at before in
    ap (λ z. z ++ printed names (flat_map f (map g (drop (n + 1) xs)))) e
    ∙ (joined names a (f (g x)) (flat_map f (map g (drop (n + 1) xs))) ∙ here)

-- one part and then another
pub more : (names : NameList) (a b d : List ℕ) (x y : List Lexeme) → b ≡ a ++ printed names x → d ≡ b ++ printed names y → d ≡ a ++ printed names (x ++ y)
more names a b d x y e f = f ∙ (ap (λ z. z ++ printed names y) e ∙ joined names a x y)

-- these parts are what was to be written
pub shows : (names : NameList) (a b : List ℕ) (x y : List Lexeme) → b ≡ a ++ printed names x → x ≡ y → b ≡ a ++ printed names y
shows names a b x y e f = e ∙ ap (λ z. a ++ printed names z) f

-- the same for items that are read at their place
item_at : {A : Type 0} (n : ℕ) (xs : List A) (d : A) → n < length xs → drop n xs ≡ get_or xs n d ∷ drop (n + 1) xs
item_at n xs d within = rw add-one (drop-cons xs n d within)

pub row_more_at : {A B : Type 0} (names : NameList) (a a' all : List ℕ) (f : B → List Lexeme) (g : A → B) (n : ℕ) (xs : List A) (d : A)
    → n < length xs → a' ≡ a ++ printed names (f (g (get_or xs n d)))
    → a ++ printed names (flat_map f (map g (drop n xs))) ≡ all
    → a' ++ printed names (flat_map f (map g (drop (n + 1) xs))) ≡ all
row_more_at names a a' all f g n xs d within e before =
    let x = get_or xs n d in
    let here : a ++ printed names (flat_map f (map g (x ∷ drop (n + 1) xs))) ≡ all = rw (item_at n xs d within) at before in
    ap (λ z. z ++ printed names (flat_map f (map g (drop (n + 1) xs)))) e
    ∙ (joined names a (f (g x)) (flat_map f (map g (drop (n + 1) xs))) ∙ here)

pub commas_more_at : {A B : Type 0} (names : NameList) (a a' a'' all : List ℕ) (b : Bool) (f : B → List Lexeme) (g : A → B) (n : ℕ) (xs : List A) (d : A)
    → n < length xs → a' ≡ a ++ printed names (needed b sign.Comma) → a'' ≡ a' ++ printed names (f (g (get_or xs n d)))
    → a ++ printed names (with_commas b (map f (map g (drop n xs)))) ≡ all
    → a'' ++ printed names (with_commas true (map f (map g (drop (n + 1) xs)))) ≡ all
commas_more_at names a a' a'' all b f g n xs d within e e' before =
    let x = get_or xs n d in
    let here : a ++ printed names (with_commas b (map f (map g (x ∷ drop (n + 1) xs)))) ≡ all = rw (item_at n xs d within) at before in
    let both : a'' ≡ (a ++ printed names (needed b sign.Comma)) ++ printed names (f (g x)) = e' ∙ ap (λ z. z ++ printed names (f (g x))) e in
    ap (λ z. z ++ printed names (with_commas true (map f (map g (drop (n + 1) xs))))) both
    ∙ (comma_step names a b (f (g x)) (map f (map g (drop (n + 1) xs))) ∙ here)
