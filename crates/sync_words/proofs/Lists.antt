-- Facts on lists of entries: what a legal list leaves, and what each thread number has of a list.
use Rattle.std.proofs.Common.{◌≡◌, ℕ, zero, suc, ◌<◌, Bool, true, false, cond, ◌&&◌, ◌||◌, eqb, ltb, List, [], ◌∷◌, ◌++◌, length, get_or, filter, All, Option, Some, None, sym, refl, ap, ◌∙◌, subst, length-set, get_or-set_same, get_or-set_other}
use Rattle.std.specs.Prelude.{unwrap_or}
use mathlib.Core.Option.{some, some-injective, some-ne-none}
use lib.ListN.{get_elem?}
use Rattle.std.proofs.lemmas.Bool.{eqb-true, eqb-false, lt-ltb, ltb-true, and_parts, and_from}
use Rattle.std.proofs.lemmas.List.Elements.{filter-append, All-head, All-tail}
use Rattle.std.proofs.lemmas.List.Folds.{list_any-append}
use Rattle.sync_words.specs.declared.entries.Entry.{Entry}
use Rattle.sync_words.specs.declared.entries.Operation.{Operation}
use Rattle.sync_words.specs.declared.entries.Operation.TheVariants.{Load, Store, Swap, Add, Sub, Cas}
use Rattle.sync_words.specs.Entries.{agrees, changed, words_with, words_after, is_legal, IsLegal, log_of, has, entries_of, left_by, later, last_left}

and_assoc : (a b c : Bool) → ((a && b) && c) ≡ (a && (b && c))
and_assoc true b c = refl
and_assoc false b c = refl

pub length-words_after : (words : List ℕ) (es : List Entry) → length (words_after words es) ≡ length words
length-words_after words [] = refl
length-words_after words (e ∷ es) = length-words_after (words_with words e) es ∙ length-set words e.word (changed (get_or words e.word 0) e.operation)

pub words_after-append : (words : List ℕ) (xs ys : List Entry) → words_after words (xs ++ ys) ≡ words_after (words_after words xs) ys
words_after-append words [] ys = refl
words_after-append words (x ∷ xs) ys = words_after-append (words_with words x) xs ys

is_legal-append : (words : List ℕ) (xs ys : List Entry) → is_legal words (xs ++ ys) ≡ (is_legal words xs && is_legal (words_after words xs) ys)
is_legal-append words [] ys = refl
is_legal-append words (x ∷ xs) ys =
    let here : Bool = ltb x.word (length words) && agrees (get_or words x.word 0) x.operation in
    ap (λ b. here && b) (is_legal-append (words_with words x) xs ys)
    ∙ sym (and_assoc here (is_legal (words_with words x) xs) (is_legal (words_after (words_with words x) xs) ys))

-- one more entry that finds what is there
pub legal_more : (words now : List ℕ) (es : List Entry) (e : Entry) → IsLegal words es → words_after words es ≡ now → e.word < length now → agrees (get_or now e.word 0) e.operation ≡ true → IsLegal words (es ++ e ∷ [])
legal_more words now es e legal is inside found =
    is_legal-append words es (e ∷ [])
    ∙ and_from _ _ legal (ap (λ ws. is_legal ws (e ∷ [])) is ∙ and_from _ _ (and_from _ _ (lt-ltb e.word (length now) inside) found) refl)

pub words_more : (words now : List ℕ) (es : List Entry) (e : Entry) → words_after words es ≡ now → words_after words (es ++ e ∷ []) ≡ words_with now e
words_more words now es e is = words_after-append words es (e ∷ []) ∙ ap (λ ws. words_with ws e) is

-- what an operation tells that it left is what it makes of what it found
left_is : (n : ℕ) (operation : Operation) → agrees n operation ≡ true → changed n operation ≡ left_by operation
left_is n (Load old) h = eqb-true n old h
left_is n (Store new) h = refl
left_is n (Swap new old) h = refl
left_is n (Add k old) h = ap (λ z. changed z (Add k old)) (eqb-true n old h)
left_is n (Sub k old) h = ap (λ z. changed z (Sub k old)) (eqb-true n old h)
left_is n (Cas wanted new old) h = ap (λ z. changed z (Cas wanted new old)) (eqb-true n old h)

later_or : (x y : Option ℕ) (n m : ℕ) → m ≡ unwrap_or x n → unwrap_or y m ≡ unwrap_or (later x y) n
later_or x (Some k) n m e = refl
later_or x None n m e = e

one_left : (words : List ℕ) (e : Entry) (word : ℕ) → e.word < length words → agrees (get_or words e.word 0) e.operation ≡ true → (b : Bool) → eqb e.word word ≡ b → get_or (words_with words e) word 0 ≡ unwrap_or (cond b (Some (left_by e.operation)) None) (get_or words word 0)
one_left words e word inside found true same =
    let here : e.word ≡ word = eqb-true e.word word same in
    subst (λ w. get_or (words_with words e) w 0 ≡ left_by e.operation) here
    (get_or-set_same words e.word (changed (get_or words e.word 0) e.operation) 0 inside ∙ left_is (get_or words e.word 0) e.operation found)
one_left words e word inside found false other = get_or-set_other words e.word word (changed (get_or words e.word 0) e.operation) 0 (λ h. eqb-false e.word word other (sym h))

-- a word is as the last entry on it left it
pub value_after : (words : List ℕ) (es : List Entry) (word : ℕ) → IsLegal words es → get_or (words_after words es) word 0 ≡ unwrap_or (last_left word es) (get_or words word 0)
value_after words [] word legal = refl
value_after words (e ∷ es) word legal =
    let parts = and_parts (ltb e.word (length words) && agrees (get_or words e.word 0) e.operation) (is_legal (words_with words e) es) legal in
    let here = and_parts (ltb e.word (length words)) (agrees (get_or words e.word 0) e.operation) parts.0 in
    value_after (words_with words e) es word parts.1
    ∙ later_or (cond (eqb e.word word) (Some (left_by e.operation)) None) (last_left word es) (get_or words word 0) (get_or (words_with words e) word 0)
    (one_left words e word (ltb-true e.word (length words) here.0) here.1 (eqb e.word word) refl)

pub legal_rest : (words : List ℕ) (xs ys : List Entry) → IsLegal words (xs ++ ys) → IsLegal (words_after words xs) ys
legal_rest words xs ys legal = (and_parts (is_legal words xs) (is_legal (words_after words xs) ys) (sym (is_legal-append words xs ys) ∙ legal)).1

pub log_of-append : (t : ℕ) (xs ys : List Entry) → log_of t (xs ++ ys) ≡ log_of t xs ++ log_of t ys
log_of-append t xs ys = filter-append (λ e. eqb e.thread t) xs ys

pub has-append : (ns ms : List ℕ) (t : ℕ) → has (ns ++ ms) t ≡ (has ns t || has ms t)
has-append ns ms t = list_any-append (λ n. eqb n t) ns ms

pub entries_of-append : (ns : List ℕ) (xs ys : List Entry) → entries_of ns (xs ++ ys) ≡ entries_of ns xs ++ entries_of ns ys
entries_of-append ns xs ys = filter-append (λ e. has ns e.thread) xs ys

-- one more number, where the rest `more` are the ones that pass of those that `all` tells of
has_more : (test : ℕ → Bool) (n t : ℕ) (more : List ℕ) (all : Bool) → has more t ≡ (test t && all) → (b : Bool) → test n ≡ b → (c : Bool) → eqb n t ≡ c → has (cond b (n ∷ more) more) t ≡ (test t && (c || all))
has_more test n t more all rest true e true f = ap (λ z. z || has more t) f ∙ sym (ap (λ z. z && true) (ap test (sym (eqb-true n t f)) ∙ e))
has_more test n t more all rest true e false f = ap (λ z. z || has more t) f ∙ rest
has_more test n t more all rest false e true f =
    let off : test t ≡ false = ap test (sym (eqb-true n t f)) ∙ e in
    rest ∙ (ap (λ z. z && all) off ∙ sym (ap (λ z. z && true) off))
has_more test n t more all rest false e false f = rest

-- a filtered list of numbers has what passes
pub has-filter : (test : ℕ → Bool) (ns : List ℕ) (t : ℕ) → has (filter test ns) t ≡ (test t && has ns t)
has-filter test [] t = elim (test t) as (λ b. false ≡ (b && false)) [ true ↦ refl | false ↦ refl ]
has-filter test (n ∷ ns) t = has_more test n t (filter test ns) (has ns t) (has-filter test ns t) (test n) refl (eqb n t) refl

-- one more entry, where `kept` is what the test keeps of the entries `es`
log_more : (test : ℕ → Bool) (t : ℕ) (e : Entry) (kept es : List Entry) → log_of t kept ≡ cond (test t) (log_of t es) [] → (b : Bool) → test e.thread ≡ b → (c : Bool) → eqb e.thread t ≡ c
    → log_of t (cond b (e ∷ kept) kept) ≡ cond (test t) (cond c (e ∷ log_of t es) (log_of t es)) []
log_more test t e kept es rest true p true q =
    let on : test t ≡ true = ap test (sym (eqb-true e.thread t q)) ∙ p in
    ap (λ z. cond z (e ∷ log_of t kept) (log_of t kept)) q ∙ ap (λ l. e ∷ l) (rest ∙ ap (λ z. cond z (log_of t es) []) on) ∙ sym (ap (λ z. cond z (e ∷ log_of t es) []) on)
log_more test t e kept es rest true p false q = ap (λ z. cond z (e ∷ log_of t kept) (log_of t kept)) q ∙ rest
log_more test t e kept es rest false p true q =
    let off : test t ≡ false = ap test (sym (eqb-true e.thread t q)) ∙ p in
    rest ∙ (ap (λ z. cond z (log_of t es) []) off ∙ sym (ap (λ z. cond z (e ∷ log_of t es) []) off))
log_more test t e kept es rest false p false q = rest

-- the log of a thread in what a test of the numbers keeps of a list
pub log_of-kept : (test : ℕ → Bool) (t : ℕ) (es : List Entry) → log_of t (filter (λ e. test e.thread) es) ≡ cond (test t) (log_of t es) []
log_of-kept test t [] = elim (test t) as (λ b. ◌≡◌ {A = List Entry} [] (cond b [] [])) [ true ↦ refl | false ↦ refl ]
log_of-kept test t (e ∷ es) = log_more test t e (filter (λ x. test x.thread) es) es (log_of-kept test t es) (test e.thread) refl (eqb e.thread t) refl

pub filter_all : (p : Entry → Bool) (es : List Entry) → All (λ e. p e ≡ true) es → filter p es ≡ es
filter_all p [] h = refl
filter_all p (e ∷ es) h = ap (λ b. cond b (e ∷ filter p es) (filter p es)) (All-head (λ x. p x ≡ true) e es h) ∙ ap (λ l. e ∷ l) (filter_all p es (All-tail (λ x. p x ≡ true) e es h))

pub filter_none : (p : Entry → Bool) (es : List Entry) → ((e : Entry) → p e ≡ false) → filter p es ≡ []
filter_none p [] h = refl
filter_none p (e ∷ es) h = ap (λ b. cond b (e ∷ filter p es) (filter p es)) (h e) ∙ filter_none p es h

-- a word read by its place
pub word_at : (words : List ℕ) (i n : ℕ) → get_elem? words i ≡ some n → n ≡ get_or words i 0
word_at [] i n e = absurd (some-ne-none n (sym e))
word_at (x ∷ xs) zero n e = sym (some-injective x n e)
word_at (x ∷ xs) (suc i) n e = word_at xs i n e
