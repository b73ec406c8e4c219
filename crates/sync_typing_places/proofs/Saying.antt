-- What a ledger says when something more is said, and when its floor is raised.
use Rattle.std.proofs.Common.{◌≡◌, ℕ, suc, ◌-◌, ◌<◌, ◌≤◌, ◌%◌, Bool, true, false, not, ◌||◌, nat_eq, nat_lt, if◌then◌else◌, List, [], ◌∷◌, length, Option, Some, None, option_map, refl, sym, ap, ◌∙◌, arith}
use Rattle.std.specs.Option.{option_map_or}
use Rattle.std.proofs.Math.Dec.{eqb-suc-zero}
use Rattle.std.proofs.lemmas.Bool.{le-ltb, lt-ltb}
use Rattle.std.proofs.lemmas.Option.{same_Some}
use Rattle.sync_terms.specs.declared.nodes.TermId.{TermId}
use Rattle.sync_terms.specs.Stored.{Stored, tree}
use Rattle.sync_terms.specs.Trees.{Tree, Name}
use Rattle.sync_typing.specs.Keeps.{renewed}
use Rattle.sync_typing_ledgers.specs.declared.ledgers.Place.{Place}
use Rattle.sync_typing_ledgers.specs.Entries.{Entry, Kept, found_at, newest}
use Rattle.sync_typing_reading.specs.declared.sayings.Saying.{Saying}
use Rattle.sync_typing_reading.specs.declared.sayings.Saying.TheVariants as says
use Rattle.sync_typing_reading.specs.Sayings.{entry_value, said_by, said_in, said_tree, tree_in}
use Rattle.sync_typing_places.specs.Hands.{with_said}

-- what a place says
abbrev pub said_at : ℕ → ℕ → Option Place → Saying
said_at floor x p = option_map_or (said_by x) (option_map (found_at floor) p) says.Nothing

abbrev pub saying_of : Option TermId → Saying
saying_of None = says.Nothing
saying_of (Some t) = says.Term t

newest_says : (x : ℕ) (t : Option TermId) → said_by x (record { value = entry_value t; is_below = false }) ≡ saying_of t
newest_says x None = refl
newest_says x (Some t) =
    let e : nat_eq (suc t.0) 0 ≡ false = eqb-suc-zero t.0 in
    let n : suc t.0 - 1 ≡ t.0 = omega arith in
    ap (λ (b : Bool). if b then says.Nothing else says.Term (record { 0 = suc t.0 - 1 })) e
    ∙ ap (λ (m : ℕ). says.Term (record { 0 = m })) n

pub of_if : {A B : Type 0} (f : A → B) (b : Bool) (p q : A) → f (if b then p else q) ≡ (if b then f p else f q)
of_if f true p q = refl
of_if f false p q = refl

-- what is said when something more is said
pub said_more : (k : Kept) (x : ℕ) (t : Option TermId) → k.floor ≤ length k.entries → (y : ℕ)
    → said_in (with_said k x t) y ≡ (if nat_eq x y then saying_of t else said_in k y)
said_more k x t fits y =
    of_if (said_at k.floor y) (nat_eq x y) (Some (record { at = length k.entries; value = entry_value t })) (newest y k.entries)
    ∙ ap (λ (w : Saying). if nat_eq x y then w else said_in k y)
    (ap (λ (b : Bool). said_by y (record { value = entry_value t; is_below = b })) (le-ltb (length k.entries) k.floor fits) ∙ newest_says y t)

pub tree_of_saying : (s : Stored) (y : ℕ) (t : Option TermId) → said_tree s y (saying_of t) ≡ option_map (tree s) t
tree_of_saying s y None = refl
tree_of_saying s y (Some t) = refl

pub tree_more : (s : Stored) (k : Kept) (x : ℕ) (t : Option TermId) → k.floor ≤ length k.entries → (y : ℕ)
    → tree_in s (with_said k x t) y ≡ (if nat_eq x y then option_map (tree s) t else tree_in s k y)
tree_more s k x t fits y =
    ap (said_tree s y) (said_more k x t fits y)
    ∙ of_if (said_tree s y) (nat_eq x y) (saying_of t) (said_in k y)
    ∙ ap (λ (u : Option Tree). if nat_eq x y then u else tree_in s k y) (tree_of_saying s y t)

-- ---- with the floor raised

place_case : (b : Bool) (h : Place) (o : Option Place) (p : Place) (n : ℕ) → (if b then Some h else o) ≡ Some p
    → h.at ≡ n → (o ≡ Some p → p.at < n) → p.at < suc n
place_case true h o p n is at rest =
    let e : p.at ≡ n = sym (ap (λ (q : Place). q.at) (same_Some h p is)) ∙ at in omega (arith, e)
place_case false h o p n is at rest = let e : p.at < n = rest is in omega (arith, e)

-- an entry stands among those that there are
at_most : (y : ℕ) (es : List Entry) (p : Place) → newest y es ≡ Some p → p.at < length es
at_most y [] p is = absurd (cc)
at_most y (e ∷ es) p is =
    place_case (nat_eq e.key y) (record { at = length es; value = e.value }) (newest y es) p (length es) is refl (at_most y es p)

abbrev pub raised : Kept → Kept
raised k = record k { floor = length k.entries }

-- what an entry says, by its tests: it has no value, is below the floor, of a word or field, of `held`
abbrev says_by : (z b l m : Bool) → Saying → Saying
says_by z b l m t = if z then says.Nothing else if not b || l then t else if m then says.Nothing else says.Itself

stays_or_is_own : (s : Stored) (y : ℕ) (z b l m : Bool) (a : TermId) (t : Option Tree)
    → said_tree s y (says_by z b l m (says.Term a)) ≡ t → (l ≡ false → m ≡ true → t ≡ None)
    → said_tree s y (says_by z true l m (says.Term a)) ≡ (if l then t else option_map (λ (u : Tree). Name y) t)
stays_or_is_own s y true b true m a t is none = is
stays_or_is_own s y true b false m a t is none = ap (option_map (λ (u : Tree). Name y)) is
stays_or_is_own s y false true true m a t is none = is
stays_or_is_own s y false false true m a t is none = is
stays_or_is_own s y false b false true a t is none = sym (ap (option_map (λ (u : Tree). Name y)) (none refl refl))
stays_or_is_own s y false true false false a t is none = ap (option_map (λ (u : Tree). Name y)) is
stays_or_is_own s y false false false false a t is none = ap (option_map (λ (u : Tree). Name y)) is

gone : (s : Stored) (y : ℕ) (z : Bool) (a : TermId) → said_tree s y (says_by z true false true (says.Term a)) ≡ None
gone s y true a = refl
gone s y false a = refl

pub below_all : (k : Kept) (y : ℕ) (p : Place) → newest y k.entries ≡ Some p → nat_lt p.at (length k.entries) ≡ true
below_all k y p is = lt-ltb p.at (length k.entries) (at_most y k.entries p is)

-- a name stands for itself, and a word or field for what it stood for
pub tree_renewed : (s : Stored) (k : Kept) (y : ℕ) (terms : ℕ → Option Tree) → tree_in s k y ≡ terms y
    → (nat_lt y 64 ≡ false → nat_eq (y % 4) 2 ≡ true → terms y ≡ None) → tree_in s (raised k) y ≡ renewed terms y
tree_renewed s k y terms is none = by (newest y k.entries) refl
  where
    by : (o : Option Place) → newest y k.entries ≡ o → tree_in s (raised k) y ≡ renewed terms y
    by None e =
        let was : None ≡ terms y = sym (ap (λ (q : Option Place). said_tree s y (said_at k.floor y q)) e) ∙ is in
        ap (λ (q : Option Place). said_tree s y (said_at (length k.entries) y q)) e ∙ nothing (nat_lt y 64) (terms y) was
      where
        nothing : (l : Bool) (t : Option Tree) → None ≡ t → None ≡ (if l then t else option_map (λ (u : Tree). Name y) t)
        nothing true t w = w
        nothing false t w = ap (option_map (λ (u : Tree). Name y)) w
    by (Some p) e =
        let was : said_tree s y (says_by (nat_eq p.value 0) (nat_lt p.at k.floor) (nat_lt y 64) (nat_eq (y % 4) 2) (says.Term (record { 0 = p.value - 1 }))) ≡ terms y =
        sym (ap (λ (q : Option Place). said_tree s y (said_at k.floor y q)) e) ∙ is in
        ap (λ (q : Option Place). said_tree s y (said_at (length k.entries) y q)) e
        ∙ ap (λ (b : Bool). said_tree s y (says_by (nat_eq p.value 0) b (nat_lt y 64) (nat_eq (y % 4) 2) (says.Term (record { 0 = p.value - 1 })))) (below_all k y p e)
        ∙ stays_or_is_own s y (nat_eq p.value 0) (nat_lt p.at k.floor) (nat_lt y 64) (nat_eq (y % 4) 2) (record { 0 = p.value - 1 }) (terms y) was none

-- and `held` of a token for nothing
pub held_renewed : (s : Stored) (k : Kept) (y : ℕ) → nat_lt y 64 ≡ false → nat_eq (y % 4) 2 ≡ true
    → tree_in s (raised k) y ≡ None
held_renewed s k y far two = by (newest y k.entries) refl
  where
    by : (o : Option Place) → newest y k.entries ≡ o → tree_in s (raised k) y ≡ None
    by None e = ap (λ (q : Option Place). said_tree s y (said_at (length k.entries) y q)) e
    by (Some p) e =
        ap (λ (q : Option Place). said_tree s y (said_at (length k.entries) y q)) e
        ∙ (let b = below_all k y p e in
        λ i. said_tree s y (says_by (nat_eq p.value 0) (b i) (far i) (two i) (says.Term (record { 0 = p.value - 1 }))))
        ∙ gone s y (nat_eq p.value 0) (record { 0 = p.value - 1 })

still_said : (z b l m : Bool) (a t : TermId) → says_by z true l m (says.Term a) ≡ says.Term t
    → says_by z b l m (says.Term a) ≡ says.Term t
still_said true b l m a t is = absurd (cc)
still_said false true true m a t is = is
still_said false false true m a t is = is
still_said false b false true a t is = absurd (cc)
still_said false b false false a t is = absurd (cc)

-- a term that is said behind a keep was said before it
pub term_renewed : (k : Kept) (y : ℕ) (t : TermId) → said_in (raised k) y ≡ says.Term t → said_in k y ≡ says.Term t
term_renewed k y t is = by (newest y k.entries) refl
  where
    by : (o : Option Place) → newest y k.entries ≡ o → said_in k y ≡ says.Term t
    by None e = absurd (let no : says.Nothing ≡ says.Term t = sym (ap (said_at (length k.entries) y) e) ∙ is in cc)
    by (Some p) e =
        ap (said_at k.floor y) e
        ∙ still_said (nat_eq p.value 0) (nat_lt p.at k.floor) (nat_lt y 64) (nat_eq (y % 4) 2) (record { 0 = p.value - 1 }) t
        (ap (λ (b : Bool). says_by (nat_eq p.value 0) b (nat_lt y 64) (nat_eq (y % 4) 2) (says.Term (record { 0 = p.value - 1 }))) (sym (below_all k y p e))
        ∙ sym (ap (said_at (length k.entries) y) e) ∙ is)
