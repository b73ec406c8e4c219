-- No terminals spell two values: the law for each way to put productions together. Where a production may go on or not, what
-- follows it decides; so a production is clear if no lexeme follows that could continue it.
use Rattle.std.proofs.Common.{◌≡◌, ℕ, suc, eqb, Bool, true, false, not, ◌&&◌, ◌||◌, List, [], ◌∷◌, Option, Some, refl, sym, ap, ◌∙◌, subst}
use Rattle.std.proofs.lemmas.Bool.{eqb-true, eq-eqb}
use Rattle.sync_base.proofs.Basics.{and_left, and_right, or_left, or_right, some_is}
use Rattle.sync_base.specs.declared.strategies.Strategy.{Strategy}
use Rattle.sync_lex.specs.declared.signs.Sign.{Sign}
use Rattle.sync_lex.specs.declared.signs.Sign.TheVariants as sign
use Rattle.sync_parse_forms.specs.Fronts.{code, front_of, front, Set, any, only, both, others, among, all_of}
use Rattle.sync_lex.specs.declared.terminals.TerminalKind.{TerminalKind}
use Rattle.sync_lex.specs.declared.terminals.TerminalKind.TheVariants as what
use Rattle.sync_lex.specs.declared.terminals.Terminal.{Terminal}
use Rattle.sync_parse_forms.specs.Relations.{Spelled, The, AName, ANumber, AStrategy, OneOf, Yields, Here, Then, Either, the_one, the_other, Closed, Many, nothing, more, Series, Listed, InRound, Names}

pub record In (p q : Set) : Type 0 where
  pub at : (c : ℕ) → p c ≡ true → q c ≡ true

pub only_in : {q : Set} (k : ℕ) → q k ≡ true → In (only k) q
only_in {q = q} k e = record { at = λ c h. subst (λ x. q x ≡ true) (sym (eqb-true c k h)) e }

or_in : (a b c : Bool) → (a ≡ true → c ≡ true) → (b ≡ true → c ≡ true) → (a || b) ≡ true → c ≡ true
or_in true b c f g e = f refl
or_in false b c f g e = g e

among_case : (ks : List ℕ) (q : Set) → all_of q ks ≡ true → (c : ℕ) → among ks c ≡ true → q c ≡ true
among_case [] q e c h = absurd cc
among_case (k ∷ ks) q e c h = or_in (eqb c k) (among ks c) (q c) (λ f. (only_in {q = q} k (and_left (q k) (all_of q ks) e)).at c f) (among_case ks q (and_right (q k) (all_of q ks) e) c) h

pub among_in : {q : Set} (ks : List ℕ) → all_of q ks ≡ true → In (among ks) q
among_in {q = q} ks e = record { at = among_case ks q e }

-- what is none of two sets is none of the second
pub others_in : (p q : Set) → In (others (both p q)) (others q)
others_in p q = record { at = λ c e. go (p c) (q c) e }
  where
    go : (a b : Bool) → not (a || b) ≡ true → not b ≡ true
    go true b e = absurd cc
    go false b e = e

pub others_first : (p q : Set) → In (others (both p q)) (others p)
others_first p q = record { at = λ c e. go (p c) (q c) e }
  where
    go : (a b : Bool) → not (a || b) ≡ true → not a ≡ true
    go true b e = absurd cc
    go false b e = refl

pub both_in : {p q r : Set} → In p r → In q r → In (both p q) r
both_in {p = p} {q = q} {r = r} f g = record { at = λ c h. or_in (p c) (q c) (r c) (f.at c) (g.at c) h }

pub any_in : {p : Set} → In p any
any_in = record { at = λ c h. refl }

pub same_in : {p : Set} → In p p
same_in = record { at = λ c h. h }

pub not_both : {A : Type 0} (b : Bool) → b ≡ true → not b ≡ true → A
not_both true e f = absurd cc
not_both false e f = absurd cc

-- the terminals that are spelled begin with one of these
pub record Starts {A : Type 0} (m : Spelled A) (p : Set) : Type 0 where
  pub at : (ts rest : List Terminal) (x : A) → m ts rest x → p (front ts) ≡ true

-- where one of q follows the terminals that are spelled, they begin with one of p, or there are none and q follows
pub record Follows {A : Type 0} (q p : Set) (m : Spelled A) : Type 0 where
  pub at : (ts rest : List Terminal) (x : A) → m ts rest x → q (front rest) ≡ true → p (front ts) ≡ true

-- two productions that spell one value, and end at one place, where they begin with the same terminals and one of q follows
pub record Clear {A : Type 0} (q : Set) (m n : Spelled A) : Type 0 where
  pub at : (ts us rest vs : List Terminal) (x y : A) → m ts rest x → n us vs y → ts ≡ us → q (front rest) ≡ true → q (front vs) ≡ true → (rest ≡ vs) × (x ≡ y)

-- ---- what begins

pub starts_weaker : {A : Type 0} {m : Spelled A} {p q : Set} → Starts m p → In p q → Starts m q
starts_weaker s i = record { at = λ ts rest x d. i.at (front ts) (s.at ts rest x d) }

pub starts_then : {A B : Type 0} {m : Spelled A} {g : A → Spelled B} {p : Set} → Starts m p → Starts (Then m g) p
starts_then s = record { at = λ ts rest y d. s.at ts d.middle d.value d.one }

pub starts_here : {B : Type 0} {g : List Terminal → Spelled B} {p : Set} → ((start : List Terminal) → Starts (g start) p) → Starts (Then Here g) p
starts_here {p = p} s = record { at = λ ts rest y d. subst (λ us. p (front us) ≡ true) (sym d.one.none) ((s d.value).at d.middle rest y d.next) }

starts_case : {A : Type 0} {m n : Spelled A} {p q : Set} → Starts m p → Starts n q → (ts rest : List Terminal) (x : A) → Either m n ts rest x → both p q (front ts) ≡ true
starts_case {p = p} {q = q} s t ts rest x (the_one d) = or_left (p (front ts)) (q (front ts)) (s.at ts rest x d)
starts_case {p = p} {q = q} s t ts rest x (the_other d) = or_right (p (front ts)) (q (front ts)) (t.at ts rest x d)

pub starts_or : {A : Type 0} {m n : Spelled A} {p q : Set} → Starts m p → Starts n q → Starts (Either m n) (both p q)
starts_or s t = record { at = starts_case s t }

pub same_front : (ts : List Terminal) (w : Terminal) (rest : List Terminal) (x : TerminalKind) → ts ≡ w ∷ rest → w.what ≡ x → front ts ≡ front_of x
same_front ts w rest x e is = ap front e ∙ ap front_of is

eqb_same : (k c : ℕ) → c ≡ k → eqb c k ≡ true
eqb_same k c e = eq-eqb c k e

pub starts_the : {s : Sign} → Starts (The s) (only (code s))
starts_the {s = s} = record { at = λ ts rest x d. eqb_same (code s) (front ts) (same_front ts d.terminal rest (what.Sign s) d.stands d.is) }

pub starts_name : Starts AName (only 1)
starts_name = record { at = λ ts rest x d. eqb_same 1 (front ts) (same_front ts d.terminal rest (what.Name d.number d.strategy) d.stands d.is) }

pub starts_number : Starts ANumber (only 2)
starts_number = record { at = λ ts rest x d. eqb_same 2 (front ts) (same_front ts d.terminal rest (what.Number x) d.stands d.is) }

-- ---- what follows

pub follows_starts : {A : Type 0} {m : Spelled A} {q p r : Set} → Starts m r → In r p → Follows q p m
follows_starts s i = record { at = λ ts rest x d e. i.at (front ts) (s.at ts rest x d) }

pub follows_any : {A : Type 0} {m : Spelled A} {q : Set} → Follows q any m
follows_any = record { at = λ ts rest x d e. refl }

pub follows_yields : {A : Type 0} {x : A} {q p : Set} → In q p → Follows q p (Yields x)
follows_yields {p = p} i = record { at = λ ts rest x d e. subst (λ us. p (front us) ≡ true) (sym d.none) (i.at (front rest) e) }

follows_case : {A : Type 0} {m n : Spelled A} {q p : Set} → Follows q p m → Follows q p n → (ts rest : List Terminal) (x : A) → Either m n ts rest x → q (front rest) ≡ true → p (front ts) ≡ true
follows_case f g ts rest x (the_one d) e = f.at ts rest x d e
follows_case f g ts rest x (the_other d) e = g.at ts rest x d e

pub follows_or : {A : Type 0} {m n : Spelled A} {q p : Set} → Follows q p m → Follows q p n → Follows q p (Either m n)
follows_or f g = record { at = follows_case f g }

pub follows_then : {A B : Type 0} {m : Spelled A} {g : A → Spelled B} {q p : Set} (r : Set) → Follows r p m → ((x : A) → Follows q r (g x)) → Follows q p (Then m g)
follows_then r f h = record { at = λ ts rest y d e. f.at ts d.middle d.value d.one ((h d.value).at d.middle rest y d.next e) }

follows_many_case : {A : Type 0} {m : Spelled A} {q p r : Set} → Starts m r → In r p → In q p → (ts rest : List Terminal) (xs : List A) → Many m ts rest xs → q (front rest) ≡ true → p (front ts) ≡ true
follows_many_case s i j ts rest xs nothing e = j.at (front ts) e
follows_many_case s i j ts rest xs (more d ds) e = i.at (front ts) (s.at ts _ _ d)

pub follows_many : {A : Type 0} {m : Spelled A} {q p r : Set} → Starts m r → In r p → In q p → Follows q p (Many m)
follows_many s i j = record { at = follows_many_case s i j }

-- ---- single lexemes

pub tail_is : (w v : Terminal) (ws vs : List Terminal) → ◌≡◌ {A = List Terminal} (w ∷ ws) (v ∷ vs) → ws ≡ vs
tail_is w v ws vs e = cc

pub head_is : (w v : Terminal) (ws vs : List Terminal) → ◌≡◌ {A = List Terminal} (w ∷ ws) (v ∷ vs) → w ≡ v
head_is w v ws vs e = cc

pub clear_the : {q : Set} {s : Sign} → Clear q (The s) (The s)
clear_the = record {
  at = λ ts us rest vs x y d e same a b.
      let both = sym d.stands ∙ same ∙ e.stands in
      (tail_is d.terminal e.terminal rest vs both, d.line_is ∙ ap (λ (w : Terminal). w.line) (head_is d.terminal e.terminal rest vs both) ∙ sym e.line_is);
}

name_is : (n k : ℕ) (s t : Option Strategy) → ◌≡◌ {A = TerminalKind} (what.Name n s) (what.Name k t) → n ≡ k
name_is n k s t e = cc

strategy_is : (n k : ℕ) (s t : Strategy) → ◌≡◌ {A = TerminalKind} (what.Name n (Some s)) (what.Name k (Some t)) → s ≡ t
strategy_is n k s t e = cc

number_is : (n k : ℕ) → ◌≡◌ {A = TerminalKind} (what.Number n) (what.Number k) → n ≡ k
number_is n k e = cc

pub sign_is : (s t : Sign) → ◌≡◌ {A = TerminalKind} (what.Sign s) (what.Sign t) → s ≡ t
sign_is s t e = cc

pub clear_name : {q : Set} → Clear q AName AName
clear_name = record {
  at = λ ts us rest vs x y d e same a b.
      let both = sym d.stands ∙ same ∙ e.stands in
      let terminals = head_is d.terminal e.terminal rest vs both in
      let n = name_is d.number e.number d.strategy e.strategy (sym d.is ∙ ap (λ (w : Terminal). w.what) terminals ∙ e.is) in
      let line = ap (λ (w : Terminal). w.line) terminals in
      (tail_is d.terminal e.terminal rest vs both, d.name_is ∙ (λ i. record { name = n i; line = line i }) ∙ sym e.name_is);
}

pub clear_number : {q : Set} → Clear q ANumber ANumber
clear_number = record {
  at = λ ts us rest vs x y d e same a b.
      let both = sym d.stands ∙ same ∙ e.stands in
      (tail_is d.terminal e.terminal rest vs both, number_is x y (sym d.is ∙ ap (λ (w : Terminal). w.what) (head_is d.terminal e.terminal rest vs both) ∙ e.is));
}

pub clear_strategy : {q : Set} → Clear q AStrategy AStrategy
clear_strategy = record {
  at = λ ts us rest vs x y d e same a b.
      let both = sym d.stands ∙ same ∙ e.stands in
      (tail_is d.terminal e.terminal rest vs both, strategy_is d.number e.number x y (sym d.is ∙ ap (λ (w : Terminal). w.what) (head_is d.terminal e.terminal rest vs both) ∙ e.is));
}

pub clear_one_of : {A : Type 0} {q : Set} {table : Sign → Option A} → Clear q (OneOf table) (OneOf table)
clear_one_of {table = table} = record {
  at = λ ts us rest vs x y d e same a b.
      let both = sym d.stands ∙ same ∙ e.stands in
      let terminals = head_is d.terminal e.terminal rest vs both in
      let s = sign_is d.sign e.sign (sym d.is ∙ ap (λ (w : Terminal). w.what) terminals ∙ e.is) in
      let first = some_is (sym d.found ∙ ap table s ∙ e.found) in
      let second = d.line_is ∙ ap (λ (w : Terminal). w.line) terminals ∙ sym e.line_is in
      (tail_is d.terminal e.terminal rest vs both, λ i. (first i, second i));
}

-- ---- putting together

pub clear_yields : {A : Type 0} {q : Set} {x : A} → Clear q (Yields x) (Yields x)
clear_yields = record { at = λ ts us rest vs y z d e same a b. (sym d.none ∙ same ∙ e.none, d.is ∙ sym e.is) }

pub clear_here : {q : Set} → Clear q Here Here
clear_here = record { at = λ ts us rest vs y z d e same a b. (sym d.none ∙ same ∙ e.none, d.is ∙ same ∙ sym e.is) }

pub clear_weaker : {A : Type 0} {m n : Spelled A} {p q : Set} → Clear q m n → In p q → Clear p m n
clear_weaker c i = record { at = λ ts us rest vs x y d e same a b. c.at ts us rest vs x y d e same (i.at (front rest) a) (i.at (front vs) b) }

-- one and then another: what the other begins with, or what follows it, may follow the one
pub clear_then : {A B : Type 0} {m n : Spelled A} {g h : A → Spelled B} {q : Set} (p : Set) → Clear p m n
    → ((x : A) → Clear q (g x) (h x)) → ((x : A) → Follows q p (g x)) → ((x : A) → Follows q p (h x)) → Clear q (Then m g) (Then n h)
clear_then {h = h} p one next f k = record {
  at = λ ts us rest vs x y d e same a b.
      let first = one.at ts us d.middle e.middle d.value e.value d.one e.one same ((f d.value).at d.middle rest x d.next a) ((k e.value).at e.middle vs y e.next b) in
      let moved = subst (λ z. h z e.middle vs y) (sym first.1) e.next in
      (next d.value).at d.middle e.middle rest vs x y d.next moved first.0 a b;
}

-- where anything may follow the one
pub clear_next : {A B : Type 0} {m n : Spelled A} {g h : A → Spelled B} {q : Set} → Clear any m n → ((x : A) → Clear q (g x) (h x)) → Clear q (Then m g) (Then n h)
clear_next one next = clear_then any one next (λ x. follows_any) (λ x. follows_any)

clear_case : {A : Type 0} {m n k l : Spelled A} {q p r : Set} → Clear q m n → Clear q k l → Starts m p → Starts n p → Starts k r → Starts l r → In p (others r)
    → (ts us rest vs : List Terminal) (x y : A) → Either m k ts rest x → Either n l us vs y → ts ≡ us → q (front rest) ≡ true → q (front vs) ≡ true → (rest ≡ vs) × (x ≡ y)
clear_case c d s t u v i ts us rest vs x y (the_one a) (the_one b) same e f = c.at ts us rest vs x y a b same e f
clear_case c d s t u v i ts us rest vs x y (the_other a) (the_other b) same e f = d.at ts us rest vs x y a b same e f
clear_case {r = r} c d s t u v i ts us rest vs x y (the_one a) (the_other b) same e f =
    not_both (r (front ts)) (ap r (ap front same) ∙ v.at us vs y b) (i.at (front ts) (s.at ts rest x a))
clear_case {r = r} c d s t u v i ts us rest vs x y (the_other a) (the_one b) same e f =
    not_both (r (front us)) (ap r (ap front (sym same)) ∙ u.at ts rest x a) (i.at (front us) (t.at us vs y b))

pub clear_or : {A : Type 0} {m n k l : Spelled A} {q p r : Set} → Clear q m n → Clear q k l → Starts m p → Starts n p → Starts k r → Starts l r → In p (others r)
    → Clear q (Either m k) (Either n l)
clear_or c d s t u v i = record { at = clear_case c d s t u v i }

-- alternatives that begin apart from others
pub record Fork {A : Type 0} (q p : Set) (m n : Spelled A) : Type 0 where
  pub clear : Clear q m n
  pub left : Starts m p
  pub right : Starts n p

pub lone : {A : Type 0} {m : Spelled A} {q p : Set} → Clear q m m → Starts m p → Fork q p m m
lone c s = record { clear = c; left = s; right = s }

pub fork_or : {A : Type 0} {m n k l : Spelled A} {q p r : Set} → Fork q p m n → Fork q r k l → In p (others r) → Fork q (both p r) (Either m k) (Either n l)
fork_or f g i = record { clear = clear_or f.clear g.clear f.left f.right g.left g.right i; left = starts_or f.left g.left; right = starts_or f.right g.right }

optional_case : {A : Type 0} {z : A} {k l : Spelled A} {q r : Set} → Clear q k l → Starts k r → Starts l r → In q (others r)
    → (ts us rest vs : List Terminal) (x y : A) → Either (Yields z) k ts rest x → Either (Yields z) l us vs y → ts ≡ us → q (front rest) ≡ true → q (front vs) ≡ true → (rest ≡ vs) × (x ≡ y)
optional_case d u v i ts us rest vs x y (the_one a) (the_one b) same e f = (sym a.none ∙ same ∙ b.none, a.is ∙ sym b.is)
optional_case d u v i ts us rest vs x y (the_other a) (the_other b) same e f = d.at ts us rest vs x y a b same e f
optional_case {r = r} d u v i ts us rest vs x y (the_one a) (the_other b) same e f =
    not_both (r (front rest)) (ap r (ap front (sym a.none ∙ same)) ∙ v.at us vs y b) (i.at (front rest) e)
optional_case {r = r} d u v i ts us rest vs x y (the_other a) (the_one b) same e f =
    not_both (r (front vs)) (ap r (ap front (sym b.none ∙ sym same)) ∙ u.at ts rest x a) (i.at (front vs) f)

-- what may be absent, where nothing follows that it begins with
pub clear_optional : {A : Type 0} {z : A} {k l : Spelled A} {q r : Set} → Clear q k l → Starts k r → Starts l r → In q (others r) → Clear q (Either (Yields z) k) (Either (Yields z) l)
clear_optional d u v i = record { at = optional_case d u v i }

many_case : {A : Type 0} {m n : Spelled A} {q p r : Set} → Clear p m n → Starts m r → Starts n r → In r p → In q p → In q (others r)
    → (ts us rest vs : List Terminal) (xs ys : List A) → Many m ts rest xs → Many n us vs ys → ts ≡ us → q (front rest) ≡ true → q (front vs) ≡ true → (rest ≡ vs) × (xs ≡ ys)
many_case c s t i j k ts us rest vs xs ys nothing nothing same e f = (same, refl)
many_case {r = r} c s t i j k ts us rest vs xs ys nothing (more b more_b) same e f =
    not_both (r (front ts)) (ap r (ap front same) ∙ t.at us _ _ b) (k.at (front ts) e)
many_case {r = r} c s t i j k ts us rest vs xs ys (more a more_a) nothing same e f =
    not_both (r (front us)) (ap r (ap front (sym same)) ∙ s.at ts _ _ a) (k.at (front us) f)
many_case {A = A} c s t i j k ts us rest vs xs ys (more {us = mid} {x = x} {xs = xs'} a more_a) (more {us = mid'} {x = y} {xs = ys'} b more_b) same e f =
    let first = c.at ts us mid mid' x y a b same (follows_many_case s i j mid rest xs' more_a e) (follows_many_case t i j mid' vs ys' more_b f) in
    let next = many_case c s t i j k mid mid' rest vs xs' ys' more_a more_b first.0 e f in
    (next.0, λ z. first.1 z ∷ next.1 z)

-- items in a row, where nothing follows that an item begins with
pub clear_many : {A : Type 0} {m n : Spelled A} {q p r : Set} → Clear p m n → Starts m r → Starts n r → In r p → In q p → In q (others r) → Clear q (Many m) (Many n)
clear_many c s t i j k = record { at = many_case c s t i j k }

-- an item that a semicolon may follow, and the semicolon
pub clear_closed : {A : Type 0} {m n : Spelled A} {q : Set} (p : Set) → Clear p m n → p (code sign.Semicolon) ≡ true → Clear q (Closed m) (Closed n)
unfolding Closed
clear_closed p c e = clear_then p c (λ x. clear_next clear_the λ l. clear_yields) (λ x. follows_starts (starts_then starts_the) (only_in _ e)) (λ x. follows_starts (starts_then starts_the) (only_in _ e))

-- items with commas between, where nothing else follows that continues an item
pub clear_series : {A : Type 0} {m n : Spelled A} {q : Set} (p : Set) → Clear p m n → p (code sign.Comma) ≡ true → In q p → In q (others (only (code sign.Comma))) → Clear q (Series m) (Series n)
unfolding Series
clear_series {q = q} p c e i j =
    clear_then p c
    (λ x. clear_then q (clear_many (clear_next clear_the λ l. c) (starts_then starts_the) (starts_then starts_the) (only_in _ e) i j) (λ xs. clear_yields)
    (λ xs. follows_yields same_in) (λ xs. follows_yields same_in))
    (λ x. follows_then q (follows_many (starts_then starts_the) (only_in _ e) i) (λ xs. follows_yields same_in))
    (λ x. follows_then q (follows_many (starts_then starts_the) (only_in _ e) i) (λ xs. follows_yields same_in))

pub starts_series : {A : Type 0} {m : Spelled A} {p : Set} → Starts m p → Starts (Series m) p
unfolding Series
starts_series s = starts_then s

pub clear_round : {A : Type 0} {m n : Spelled A} {q : Set} (p r : Set) → Clear p m n → Starts m r → Starts n r
    → p (code sign.Comma) ≡ true → p (code sign.CloseRound) ≡ true → others r (code sign.CloseRound) ≡ true → Clear q (InRound m) (InRound n)
unfolding InRound Listed
clear_round p r c s t comma close apart =
    clear_next clear_the λ l.
    clear_then (only (code sign.CloseRound))
    (clear_optional (clear_series p c comma (only_in _ close) (only_in _ refl)) (starts_series s) (starts_series t) (only_in _ apart))
    (λ xs. clear_next clear_the λ e. clear_yields)
    (λ xs. follows_starts (starts_then starts_the) same_in) (λ xs. follows_starts (starts_then starts_the) same_in)

pub starts_round : {A : Type 0} (m : Spelled A) → Starts (InRound m) (only (code sign.OpenRound))
unfolding InRound
starts_round m = starts_then starts_the

pub clear_names : {q : Set} → Clear q Names Names
unfolding Names
clear_names = clear_round any (only 1) clear_name starts_name starts_name refl refl refl
