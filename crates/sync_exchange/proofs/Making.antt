-- A bag of tokens and what is kept, which make the values that terms have.
use Rattle.std.proofs.Common.{◌≡◌, ◌≢◌, ℕ, zero, suc, ◌<◌, pos, ◌≤ℤ◌, Bool, true, false, List, [], ◌∷◌, ◌++◌, length, get_or, Some, refl, sym, ap, subst, ◌∙◌, arith, cond, nat_eq}
use Rattle.std.proofs.Math.ListN.{set, length-set}
use Rattle.std.specs.List.{AllByRecursion}
use Rattle.std.proofs.lemmas.Bool.{eqb-true, eq-eqb}
use Rattle.std.proofs.lemmas.List.{get_or-set_same, get_or-set_other, set-get_or}
use Rattle.sync_terms.specs.Trees.{Tree, Nil}
use Rattle.sync_terms.specs.Values.{Valuation}
use Rattle.sync_machine.specs.declared.fields.Field.{Field}
use Rattle.sync_base.specs.declared.strategies.Strategy.TheVariants.{Count, StorageMap}
use Rattle.sync_machine.specs.States.{Value, Number, sort_of, value_in, strategy_at}
use Rattle.sync_join.specs.declared.tokens.Token.{Token}
use Rattle.sync_join.specs.Shards.{Kept, IsToken, IsOf, AreRecords, AreSoundShards}
use Rattle.sync_join.specs.Join.{tokens_of, joined, record_at, value_at}
use Rattle.sync_join.proofs.Bags.{value_at-front, value_at-other, value_at-own}
use Rattle.sync_exchange.proofs.Tokens.{IsPart}

pub record Makes (fs : List Field) (v : Valuation) (bag : List Token) (kept : Kept) (cur : List Tree) : Type 0 where
  pub values : (f : ℕ) → f < length fs → value_at fs bag kept f ≡ Some (value_in v (sort_of (strategy_at fs f)) (get_or cur f Nil))
  pub sound : AreSoundShards fs bag kept
  pub many : length cur ≡ length fs

-- ---- one token and the others

all-front : {X : Type 0} (P : X → Type 0) (xs : List X) (y : X) (zs : List X) → AllByRecursion P (xs ++ y ∷ zs) → P y × AllByRecursion P (xs ++ zs)
all-front P [] y zs h = (h.0, h.1)
all-front P (x ∷ xs) y zs h = let r = all-front P xs y zs h.1 in (r.0, (h.0, r.1))

front-all : {X : Type 0} (P : X → Type 0) (xs : List X) (y : X) (zs : List X) → P y → AllByRecursion P (xs ++ zs) → AllByRecursion P (xs ++ y ∷ zs)
front-all P [] y zs p h = (p, h)
front-all P (x ∷ xs) y zs p h = (h.0, front-all P xs y zs p h.1)

pub all-part : (P : Token → Type 0) (t : Token) (whole rest : List Token) → IsPart t whole rest → AllByRecursion P whole → P t × AllByRecursion P rest
all-part P t whole rest part h =
    let r = all-front P part.before t part.behind (subst (AllByRecursion P) part.whole_is h) in
    (r.0, subst (AllByRecursion P) (sym part.rest_is) r.1)

pub part-all : (P : Token → Type 0) (t : Token) (whole rest : List Token) → IsPart t whole rest → P t → AllByRecursion P rest → AllByRecursion P whole
part-all P t whole rest part p h =
    subst (AllByRecursion P) (sym part.whole_is) (front-all P part.before t part.behind p (subst (AllByRecursion P) part.rest_is h))

pub value-part : (fs : List Field) (kept : Kept) (t : Token) (whole rest : List Token) (f : ℕ) → IsPart t whole rest → value_at fs whole kept f ≡ value_at fs (t ∷ rest) kept f
value-part fs kept t whole rest f part =
    ap (λ b. value_at fs b kept f) part.whole_is ∙ value_at-front fs part.before t part.behind kept f ∙ ap (λ b. value_at fs (t ∷ b) kept f) (sym part.rest_is)

-- a token says nothing of another field
pub part-other : (fs : List Field) (kept : Kept) (t : Token) (whole rest : List Token) (f : ℕ) → IsPart t whole rest → nat_eq t.field f ≡ false → value_at fs whole kept f ≡ value_at fs rest kept f
part-other fs kept t whole rest f part other = value-part fs kept t whole rest f part ∙ value_at-other fs t rest kept f other

-- of its own it stands in front
pub part-own : (fs : List Field) (kept : Kept) (t : Token) (whole rest : List Token) (f : ℕ) → IsPart t whole rest → nat_eq t.field f ≡ true
    → value_at fs whole kept f ≡ joined (strategy_at fs f) (t ∷ tokens_of f rest) (record_at kept f) (tokens_of f kept.stored)
part-own fs kept t whole rest f part own = value-part fs kept t whole rest f part ∙ value_at-own fs t rest kept f own

-- ---- sound shards

pub sound-out : (fs : List Field) (kept : Kept) (t : Token) (whole rest : List Token) → IsPart t whole rest → AreSoundShards fs whole kept → AreSoundShards fs rest kept
sound-out fs kept t whole rest part h = record {
  shaped = record {
    tokens = (all-part (IsToken fs) t whole rest part h.shaped.tokens).1;
    records = h.shaped.records;
    stored = h.shaped.stored;
  };
  natural = (all-part (λ (u : Token). strategy_at fs u.field ≡ Count → pos 0 ≤ℤ u.value) t whole rest part h.natural).1;
}

pub sound-in : (fs : List Field) (kept : Kept) (t : Token) (whole rest : List Token) → IsPart t whole rest → IsToken fs t → (strategy_at fs t.field ≡ Count → pos 0 ≤ℤ t.value)
    → AreSoundShards fs rest kept → AreSoundShards fs whole kept
sound-in fs kept t whole rest part is natural h = record {
  shaped = record {
    tokens = part-all (IsToken fs) t whole rest part is h.shaped.tokens;
    records = h.shaped.records;
    stored = h.shaped.stored;
  };
  natural = part-all (λ (u : Token). strategy_at fs u.field ≡ Count → pos 0 ≤ℤ u.value) t whole rest part natural h.natural;
}

pub token-of-part : (fs : List Field) (kept : Kept) (t : Token) (whole rest : List Token) → IsPart t whole rest → AreSoundShards fs whole kept → IsToken fs t
token-of-part fs kept t whole rest part h = (all-part (IsToken fs) t whole rest part h.shaped.tokens).0

-- other records, of their sorts
pub sound-recorded : (fs : List Field) (bag : List Token) (kept : Kept) (rs : List Value) → AreRecords fs rs → AreSoundShards fs bag kept → AreSoundShards fs bag (record { records = rs; stored = kept.stored })
sound-recorded fs bag kept rs are h = record {
  shaped = record { tokens = h.shaped.tokens; records = are; stored = h.shaped.stored };
  natural = h.natural;
}

-- other stored objects, in storage fields
pub sound-stored : (fs : List Field) (bag : List Token) (kept : Kept) (ts : List Token) → AllByRecursion (λ (t : Token). strategy_at fs t.field ≡ StorageMap) ts → AreSoundShards fs bag kept
    → AreSoundShards fs bag (record { records = kept.records; stored = ts })
sound-stored fs bag kept ts are h = record {
  shaped = record { tokens = h.shaped.tokens; records = h.shaped.records; stored = are };
  natural = h.natural;
}

pub records-length : (fs : List Field) (rs : List Value) → AreRecords fs rs → length rs ≡ length fs
records-length [] [] h = refl
records-length (f ∷ fs) (r ∷ rs) h = ap suc (records-length fs rs h.1)
records-length [] (r ∷ rs) h = absurd h
records-length (f ∷ fs) [] h = absurd h

pub records-at : (fs : List Field) (rs : List Value) (f : ℕ) → AreRecords fs rs → f < length fs → IsOf (sort_of (strategy_at fs f)) (get_or rs f (Number (pos 0)))
records-at [] [] f h lt = absurd (omega arith)
records-at (g ∷ fs) (r ∷ rs) zero h lt = h.0
records-at (g ∷ fs) (r ∷ rs) (suc f) h lt = records-at fs rs f h.1 (omega arith)
records-at [] (r ∷ rs) f h lt = absurd h
records-at (g ∷ fs) [] f h lt = absurd h

pub records-set : (fs : List Field) (rs : List Value) (f : ℕ) (w : Value) → AreRecords fs rs → IsOf (sort_of (strategy_at fs f)) w → AreRecords fs (set rs f w)
records-set [] [] f w h is = tt
records-set (g ∷ fs) (r ∷ rs) zero w h is = (is, h.1)
records-set (g ∷ fs) (r ∷ rs) (suc f) w h is = (h.0, records-set fs rs f w h.1 is)
records-set [] (r ∷ rs) f w h is = absurd h
records-set (g ∷ fs) [] f w h is = absurd h

-- the amounts of a count
abbrev pub AreAmountsOf : List Field → ℕ → List Token → Type 0
AreAmountsOf fs f ts = strategy_at fs f ≡ Count → AllByRecursion (λ (u : Token). pos 0 ≤ℤ u.value) (tokens_of f ts)

amounts-cons : (fs : List Field) (f : ℕ) (b : Bool) (t : Token) (ts : List Token) → nat_eq t.field f ≡ b → strategy_at fs f ≡ Count → (strategy_at fs t.field ≡ Count → pos 0 ≤ℤ t.value)
    → AllByRecursion (λ (u : Token). pos 0 ≤ℤ u.value) (tokens_of f ts) → AllByRecursion (λ (u : Token). pos 0 ≤ℤ u.value) (cond b (t ∷ tokens_of f ts) (tokens_of f ts))
amounts-cons fs f true t ts e count natural h = (natural (ap (strategy_at fs) (eqb-true t.field f e) ∙ count), h)
amounts-cons fs f false t ts e count natural h = h

pub amounts-of : (fs : List Field) (f : ℕ) (ts : List Token) → AllByRecursion (λ (t : Token). strategy_at fs t.field ≡ Count → pos 0 ≤ℤ t.value) ts → AreAmountsOf fs f ts
amounts-of fs f [] h count = tt
amounts-of fs f (t ∷ ts) h count = amounts-cons fs f (nat_eq t.field f) t ts refl count h.0 (amounts-of fs f ts h.1 count)

-- ---- a field changes

either-field : (f g : ℕ) (P : ℕ → Type 0) → P f → (nat_eq g f ≡ false → P g) → P g
either-field f g P own other = cases (nat_eq g f) refl where
  cases : (b : Bool) → nat_eq g f ≡ b → P g
  cases true e = subst P (sym (eqb-true g f e)) own
  cases false e = other e

apart : (g f : ℕ) → nat_eq g f ≡ false → g ≢ f
apart g f e same = let h = eq-eqb g f same in absurd (cc)

pub change-one : (fs : List Field) (v : Valuation) (bag more : List Token) (kept now : Kept) (cur : List Tree) (f : ℕ) (t : Tree) → Makes fs v bag kept cur → f < length fs
    → value_at fs more now f ≡ Some (value_in v (sort_of (strategy_at fs f)) t)
    → ((g : ℕ) → g < length fs → nat_eq g f ≡ false → value_at fs more now g ≡ value_at fs bag kept g)
    → AreSoundShards fs more now → Makes fs v more now (set cur f t)
change-one fs v bag more kept now cur f t h lt own other sound = record {
  values = λ g below. either-field f g (λ x. value_at fs more now x ≡ Some (value_in v (sort_of (strategy_at fs x)) (get_or (set cur f t) x Nil)))
      (own ∙ ap (λ u. Some (value_in v (sort_of (strategy_at fs f)) u)) (sym (get_or-set_same cur f t Nil (let m = h.many in omega (arith, m)))))
      (λ e. other g below e ∙ h.values g below ∙ ap (λ u. Some (value_in v (sort_of (strategy_at fs g)) u)) (sym (get_or-set_other cur f g t Nil (apart g f e))));
  sound = sound;
  many = length-set cur f t ∙ h.many;
}

-- a field keeps its value
pub same-field : (fs : List Field) (v : Valuation) (bag : List Token) (kept : Kept) (cur : List Tree) (f : ℕ) → Makes fs v bag kept cur → Makes fs v bag kept (set cur f (get_or cur f Nil))
same-field fs v bag kept cur f h = subst (Makes fs v bag kept) (sym (set-get_or cur f Nil)) h

pub kept-value : (fs : List Field) (bag : List Token) (kept now : Kept) (g : ℕ) → record_at now g ≡ record_at kept g → tokens_of g now.stored ≡ tokens_of g kept.stored
    → value_at fs bag now g ≡ value_at fs bag kept g
kept-value fs bag kept now g r s =
    ap (λ w. joined (strategy_at fs g) (tokens_of g bag) w (tokens_of g now.stored)) r
    ∙ ap (λ st. joined (strategy_at fs g) (tokens_of g bag) (record_at kept g) st) s
