-- One record of what is known of a form, and one law for each way to put forms together.
use Rattle.std.proofs.Common.{◌≡◌, ℕ, zero, suc, ◌+◌, ◌-◌, ◌<◌, ◌≤◌, eqb, Bool, true, false, not, ◌&&◌, ◌||◌, if◌then◌else◌, List, [], ◌∷◌, ◌++◌, length, Result, Ok, Err, refl, sym, ap, ◌∙◌, subst, arith}
use Rattle.std.proofs.lemmas.Bool.{eqb-true, eq-eqb}
use Rattle.sync_base.proofs.Basics.{not_true}
use Rattle.sync_base.specs.Outcome as outcome
use Rattle.sync_lex.specs.declared.signs.Sign.{Sign}
use Rattle.sync_lex.specs.declared.signs.Sign.TheVariants as sign
use Rattle.sync_lex.specs.declared.terminals.TerminalKind.{TerminalKind}
use Rattle.sync_lex.specs.declared.terminals.TerminalKind.TheVariants as what
use Rattle.sync_lex.specs.declared.terminals.Terminal.{Terminal}
use Rattle.sync_parse_exprs.specs.Terminals.{Read, Reader, begins_with, goes_on, sign_at}
use Rattle.sync_parse_forms.specs.Relations.{Spelled, The, AName, ANumber, Yields, Here, Then, Either, the_one, the_other, Many, nothing, more, Listed, Series}
use Rattle.sync_parse_forms.specs.Fronts.{code, front, front_of, Set, any, only, both, others, among, all_of}
use Rattle.sync_parse_forms.specs.Codes.{Test}
use Rattle.sync_parse_forms.specs.Readings.{is_name, is_number, begins_name, begins_number, begins_one, tests, inside}
use Rattle.sync_parse_forms.specs.Spellings.{Inside}
use Rattle.sync_parse_forms.specs.Deciding.{list_ends, brace_or_end, codes_of, said_by, tells}
use Rattle.sync_parse_forms.proofs.Forms.{Form, the, name, number, yields, here, ◌>>=◌, choice, many, list, within}
use Rattle.sync_parse_forms.proofs.Counting.{Shorter, Holds, one_shorter}
use Rattle.sync_parse_forms.proofs.Sounds as sounds
use Rattle.sync_parse_forms.proofs.Sounds.{Sound, then_sound, sign_sound, name_sound, number_sound, row_sound, listed_sound, either}
use Rattle.sync_parse_forms.proofs.Clears.{In, among_in, any_in, same_in, only_in, not_both, Starts, Follows, Clear, starts_the, starts_name, starts_number, starts_weaker, starts_series, follows_then, follows_yields, follows_many, follows_starts, clear_the, clear_name, clear_number, clear_yields, clear_here, clear_then, clear_next, clear_weaker, clear_many, clear_optional, clear_series}
use Rattle.sync_parse_forms.proofs.Completes.{Met, gives, Complete, Shrinks, Row, Listing, complete_yields, complete_then, complete_next, complete_weaker, met_if, met_else, begins_is, front_case, no_room, complete_the, complete_name, complete_number, complete_row, complete_listed}

-- what is known of a relation alone: what it begins with, what may follow it, and whether it takes a terminal
pub record Edge {A : Type 0} (b : Bool) (p q : List ℕ) (m : Spelled A) : Type 0 where
  pub follows : Follows (among q) (among p) m
  pub starts : Holds b → Starts m (among p)
  pub takes : (ts rest : List Terminal) (x : A) → m ts rest x → Shorter b (length rest) (length ts)

-- reading f gives what it spells (where s), all that it spells and is not too deep, below level n, where one of q follows;
-- it begins with one of p, and spells one value, also beside g
pub record IsForm {A : Type 0} (s : Bool) (n : ℕ) (b : Bool) (p q : List ℕ) (f g : Form A) : Type 0 where
  pub sound : Holds s → (left : ℕ) (ts : List Terminal) → Sound f.spelled ts (f.read left ts)
  pub complete : (left : ℕ) → left < n → (ts : List Terminal) → Complete (among q) f.spelled ts (f.read left ts)
  pub clear : Clear (among q) f.spelled g.spelled
  pub edge : Edge b p q f.spelled
  pub edge_too : Edge b p q g.spelled

-- ---- sets

or_in : (a b c : Bool) → (a ≡ true → c ≡ true) → (b ≡ true → c ≡ true) → (a || b) ≡ true → c ≡ true
or_in true b c f g e = f refl
or_in false b c f g e = g e

or_true : (a b : Bool) → b ≡ true → (a || b) ≡ true
or_true true b e = refl
or_true false b e = e

lone_in : (k : ℕ) → In (only k) (among (k ∷ []))
lone_in k = record { at = λ c h. ap (λ (b : Bool). b || false) h }

in_lone : (k : ℕ) → In (among (k ∷ [])) (only k)
in_lone k = record { at = λ c h. or_in (eqb c k) false (eqb c k) (λ e. e) (λ e. absurd cc) h }

head_in : (k : ℕ) (ks : List ℕ) → In (among (k ∷ [])) (among (k ∷ ks))
head_in k ks = record { at = λ c h. or_in (eqb c k) false (eqb c k || among ks c) (λ e. ap (λ (b : Bool). b || among ks c) e) (λ e. absurd cc) h }

tail_in : (k : ℕ) (ks : List ℕ) → In (among ks) (among (k ∷ ks))
tail_in k ks = record { at = λ c h. or_true (eqb c k) (among ks c) h }

first_in : (ks js : List ℕ) → In (among ks) (among (ks ++ js))
first_in [] js = record { at = λ c h. absurd cc }
first_in (k ∷ ks) js = record { at = λ c h. or_in (eqb c k) (among ks c) (eqb c k || among (ks ++ js) c) (λ e. ap (λ (b : Bool). b || among (ks ++ js) c) e) (λ e. or_true (eqb c k) (among (ks ++ js) c) ((first_in ks js).at c e)) h }

second_in : (ks js : List ℕ) → In (among js) (among (ks ++ js))
second_in [] js = same_in
second_in (k ∷ ks) js = record { at = λ c h. or_true (eqb c k) (among (ks ++ js) c) ((second_in ks js).at c h) }

-- ---- edges

edge_terminal : {A : Type 0} {m : Spelled A} {q : List ℕ} (k : ℕ) → Starts m (only k) → Shrinks m → Edge true (k ∷ []) q m
edge_terminal k s t = record {
  follows = follows_starts s (lone_in k);
  starts = λ is. starts_weaker s (lone_in k);
  takes = t.at;
}

shorter_both : (j k : Bool) (a b c : ℕ) → Shorter j b a → Shorter k c b → Shorter (j || k) c a
shorter_both true true a b c p q = omega arith
shorter_both true false a b c p q = omega arith
shorter_both false true a b c p q = omega arith
shorter_both false false a b c p q = omega arith

shorter_left : (j k : Bool) (a b : ℕ) → Shorter j a b → Shorter (j && k) a b
shorter_left true true a b p = p
shorter_left true false a b p = omega arith
shorter_left false k a b p = p

shorter_right : (j k : Bool) (a b : ℕ) → Shorter k a b → Shorter (j && k) a b
shorter_right true k a b p = p
shorter_right false true a b p = omega arith
shorter_right false false a b p = p

either_true : (a b : Bool) → Holds (a && b) → Holds a
either_true true b h = tt
either_true false b h = h

other_true : (a b : Bool) → Holds (a && b) → Holds b
other_true true b h = h
other_true false b h = absurd h

then_starts : {A B : Type 0} {p r q : List ℕ} (a b : Bool) {m : Spelled A} {g : A → Spelled B} → Edge a p r m → ((x : A) → Edge b r q (g x)) → Holds (a || b) → Starts (Then m g) (among p)
then_starts true b one next is = record { at = λ ts rest y d. (one.starts tt).at ts d.middle d.value d.one }
then_starts false b one next is = record { at = λ ts rest y d. one.follows.at ts d.middle d.value d.one (((next d.value).starts is).at d.middle rest y d.next) }

edge_then : {A B : Type 0} {p r q : List ℕ} {a b : Bool} {m : Spelled A} {g : A → Spelled B} → Edge a p r m → ((x : A) → Edge b r q (g x)) → Edge (a || b) p q (Then m g)
edge_then {r = r} {a = a} {b = b} one next = record {
  follows = follows_then (among r) one.follows (λ x. (next x).follows);
  starts = then_starts a b one next;
  takes = λ ts rest y d. shorter_both a b (length ts) (length d.middle) (length rest) (one.takes ts d.middle d.value d.one) ((next d.value).takes d.middle rest y d.next);
}

none_takes : (ts rest : List Terminal) → ts ≡ rest → length rest ≤ length ts
none_takes ts rest e = let same = ap (λ (us : List Terminal). length us) e in omega (arith, same)

edge_yields : {A : Type 0} {x : A} {q : List ℕ} → Edge false q q (Yields x)
edge_yields = record { follows = follows_yields same_in; starts = λ is. absurd is; takes = λ ts rest y d. none_takes ts rest d.none }

edge_here : {q : List ℕ} → Edge false q q Here
edge_here {q = q} = record {
  follows = record { at = λ ts rest x d e. subst (λ us. among q (front us) ≡ true) (sym d.none) e };
  starts = λ is. absurd is;
  takes = λ ts rest y d. none_takes ts rest d.none;
}

or_follows : {A : Type 0} (p r q : List ℕ) {m n : Spelled A} → Follows (among q) (among p) m → Follows (among q) (among r) n → (ts rest : List Terminal) (x : A) → Either m n ts rest x → among q (front rest) ≡ true → among (p ++ r) (front ts) ≡ true
or_follows p r q f g ts rest x (the_one d) e = (first_in p r).at (front ts) (f.at ts rest x d e)
or_follows p r q f g ts rest x (the_other d) e = (second_in p r).at (front ts) (g.at ts rest x d e)

or_starts : {A : Type 0} (p r : List ℕ) {m n : Spelled A} → Starts m (among p) → Starts n (among r) → (ts rest : List Terminal) (x : A) → Either m n ts rest x → among (p ++ r) (front ts) ≡ true
or_starts p r s t ts rest x (the_one d) = (first_in p r).at (front ts) (s.at ts rest x d)
or_starts p r s t ts rest x (the_other d) = (second_in p r).at (front ts) (t.at ts rest x d)

or_takes : {A : Type 0} {p r q : List ℕ} (a b : Bool) {m n : Spelled A} → Edge a p q m → Edge b r q n → (ts rest : List Terminal) (x : A) → Either m n ts rest x → Shorter (a && b) (length rest) (length ts)
or_takes a b one other ts rest x (the_one d) = shorter_left a b (length rest) (length ts) (one.takes ts rest x d)
or_takes a b one other ts rest x (the_other d) = shorter_right a b (length rest) (length ts) (other.takes ts rest x d)

edge_or : {A : Type 0} {p r q : List ℕ} {a b : Bool} {m n : Spelled A} → Edge a p q m → Edge b r q n → Edge (a && b) (p ++ r) q (Either m n)
edge_or {p = p} {r = r} {q = q} {a = a} {b = b} one other = record {
  follows = record { at = or_follows p r q one.follows other.follows };
  starts = λ is. record { at = or_starts p r (one.starts (either_true a b is)) (other.starts (other_true a b is)) };
  takes = or_takes a b one other;
}

many_takes : {A : Type 0} {p r : List ℕ} {m : Spelled A} → Edge true p r m → (ts rest : List Terminal) (xs : List A) → Many m ts rest xs → length rest ≤ length ts
many_takes one ts rest xs nothing = omega arith
many_takes one ts rest xs (more {us = us} {x = x} {xs = ys} d ds) = let a : length us < length ts = one.takes ts us x d in let b = many_takes one us rest ys ds in omega (arith, a, b)

edge_many : {A : Type 0} {p r q : List ℕ} {m : Spelled A} → Edge true p r m → Edge false (p ++ q) q (Many m)
edge_many {p = p} {q = q} one = record {
  follows = follows_many (one.starts tt) (first_in p q) (second_in p q);
  starts = λ is. absurd is;
  takes = many_takes one;
}

-- ---- forms

pub the_form : {s : Bool} {n : ℕ} {q : List ℕ} {w : Sign} → IsForm s n true (code w ∷ []) q (the w) (the w)
the_form {w = w} = record {
  sound = λ is left ts. sign_sound left w ts;
  complete = λ left room ts. complete_weaker (complete_the left w ts) any_in;
  clear = clear_the;
  edge = edge_terminal (code w) starts_the (record { at = λ ts rest x d. one_shorter ts rest d.terminal d.stands });
  edge_too = edge_terminal (code w) starts_the (record { at = λ ts rest x d. one_shorter ts rest d.terminal d.stands });
}

pub name_form : {s : Bool} {n : ℕ} {q : List ℕ} → IsForm s n true (1 ∷ []) q name name
name_form = record {
  sound = λ is left ts. name_sound left ts;
  complete = λ left room ts. complete_weaker (complete_name left ts) any_in;
  clear = clear_name;
  edge = edge_terminal 1 starts_name (record { at = λ ts rest x d. one_shorter ts rest d.terminal d.stands });
  edge_too = edge_terminal 1 starts_name (record { at = λ ts rest x d. one_shorter ts rest d.terminal d.stands });
}

pub number_form : {s : Bool} {n : ℕ} {q : List ℕ} → IsForm s n true (2 ∷ []) q number number
number_form = record {
  sound = λ is left ts. number_sound left ts;
  complete = λ left room ts. complete_weaker (complete_number left ts) any_in;
  clear = clear_number;
  edge = edge_terminal 2 starts_number (record { at = λ ts rest x d. one_shorter ts rest d.terminal d.stands });
  edge_too = edge_terminal 2 starts_number (record { at = λ ts rest x d. one_shorter ts rest d.terminal d.stands });
}

pub done : {A : Type 0} {s : Bool} {n : ℕ} {q : List ℕ} {x : A} → IsForm s n false q q (yields x) (yields x)
done = record { sound = λ is left ts. sounds.yields; complete = λ left room ts. complete_yields; clear = clear_yields; edge = edge_yields; edge_too = edge_yields }

here_sound : (ts : List Terminal) → Sound Here ts (Ok (ts, ts))
here_sound ts = record { holds = λ x rest e. let same = sounds.ok_is e in record { none = ap (λ v. v.1) same; is = sym (ap (λ v. v.0) same) } }

pub here_form : {s : Bool} {n : ℕ} {q : List ℕ} → IsForm s n false q q here here
here_form = record {
  sound = λ is left ts. here_sound ts;
  complete = λ left room ts. record { at = λ x rest d e. gives (sym d.is) d.none };
  clear = clear_here;
  edge = edge_here;
  edge_too = edge_here;
}

-- one after another
pub seq : {A B : Type 0} {s : Bool} {n : ℕ} {a b : Bool} {p r q : List ℕ} {f g : Form A} {h k : A → Form B}
    → IsForm s n a p r f g → ((x : A) → IsForm s n b r q (h x) (k x)) → IsForm s n (a || b) p q (f >>= h) (g >>= k)
seq {r = r} one next = record {
  sound = λ is left ts. then_sound (one.sound is left ts) (λ v. (next v.0).sound is left v.1);
  complete = λ left room ts. complete_then (among r) (one.complete left room ts) (λ v. (next v.0).complete left room v.1) (λ x. (next x).edge.follows);
  clear = clear_then (among r) one.clear (λ x. (next x).clear) (λ x. (next x).edge.follows) (λ x. (next x).edge_too.follows);
  edge = edge_then one.edge (λ x. (next x).edge);
  edge_too = edge_then one.edge_too (λ x. (next x).edge_too);
}

-- ---- tests

-- the test tells what begins with one of p from what begins with one of q
pub record Ends (begins : List Terminal → Bool) (p q : List ℕ) : Type 0 where
  pub yes : (ts : List Terminal) → among p (front ts) ≡ true → begins ts ≡ true
  pub no : (ts : List Terminal) → among q (front ts) ≡ true → begins ts ≡ false

no_code : (k : ℕ) (s : Sign) → k < 3 → eqb (code s) k ≡ false
no_code k s small = go (eqb (code s) k) refl
  where
    go : (c : Bool) → eqb (code s) k ≡ c → eqb (code s) k ≡ false
    go true e = let same : code s ≡ k = eqb-true (code s) k e in absurd (omega (arith, same, small))
    go false e = e

name_is : (x : TerminalKind) → is_name x ≡ only 1 (front_of x)
name_is (what.Name n strategy) = refl
name_is (what.Number n) = refl
name_is (what.Sign s) = sym (no_code 1 s (omega arith))

number_is : (x : TerminalKind) → is_number x ≡ only 2 (front_of x)
number_is (what.Name n strategy) = refl
number_is (what.Number n) = refl
number_is (what.Sign s) = sym (no_code 2 s (omega arith))

begins_name_is : (ts : List Terminal) → begins_name ts ≡ only 1 (front ts)
begins_name_is [] = refl
begins_name_is (w ∷ ws) = name_is w.what

begins_number_is : (ts : List Terminal) → begins_number ts ≡ only 2 (front ts)
begins_number_is [] = refl
begins_number_is (w ∷ ws) = number_is w.what

begins_one_is : (ss : List Sign) (ts : List Terminal) → begins_one ss ts ≡ among (codes_of ss) (front ts)
begins_one_is [] ts = refl
begins_one_is (s ∷ ss) ts = λ i. begins_is s ts i || begins_one_is ss ts i

zero_is : (x : TerminalKind) → only 0 (front_of x) ≡ false
zero_is (what.Name n strategy) = refl
zero_is (what.Number n) = refl
zero_is (what.Sign s) = no_code 0 s (omega arith)

goes_on_is : (ts : List Terminal) → goes_on ts ≡ others brace_or_end (front ts)
goes_on_is [] = refl
goes_on_is (w ∷ ws) = ap not (front_case sign.CloseBrace w.what ∙ ap (λ (b : Bool). b || only (code sign.CloseBrace) (front_of w.what)) (sym (zero_is w.what)))

tests_is : (t : Test) (ts : List Terminal) → tests t ts ≡ said_by t (front ts)
tests_is (Test.at_sign s) ts = begins_is s ts
tests_is (Test.at_signs ss) ts = begins_one_is ss ts
tests_is Test.at_name ts = begins_name_is ts
tests_is Test.at_number ts = begins_number_is ts
tests_is Test.to_brace ts = goes_on_is ts

both_hold : (a b : Bool) → (a && b) ≡ true → (a ≡ true) × (b ≡ true)
both_hold true b e = (refl, e)
both_hold false b e = absurd cc

pub told : (t : Test) (p q : List ℕ) → tells t p q ≡ true → Ends (tests t) p q
told t p q e = let h = both_hold (all_of (said_by t) p) (all_of (others (said_by t)) q) e in record {
  yes = λ ts f. tests_is t ts ∙ (among_in {q = said_by t} p h.0).at (front ts) f;
  no = λ ts f. tests_is t ts ∙ not_true (said_by t (front ts)) ((among_in {q = others (said_by t)} q h.1).at (front ts) f);
}

-- ---- one or the other

choice_case : {A : Type 0} (p r q : List ℕ) {m n : Spelled A} {ts : List Terminal} {a b : Read A} (begins : List Terminal → Bool) → Ends begins p r → Follows (among q) (among p) m → Follows (among q) (among r) n
    → Complete (among q) m ts a → Complete (among q) n ts b → (x : A) (rest : List Terminal) → Either m n ts rest x → among q (front rest) ≡ true → Met (if begins ts then a else b) (x, rest)
choice_case p r q {ts = ts} begins ends s t c d x rest (the_one h) e = met_if _ (begins ts) (ends.yes ts (s.at ts rest x h e)) (c.at x rest h e)
choice_case p r q {ts = ts} begins ends s t c d x rest (the_other h) e = met_else _ (begins ts) (ends.no ts (t.at ts rest x h e)) (d.at x rest h e)

yes_no : {B : Type 0} (b : Bool) → b ≡ true → b ≡ false → B
yes_no true e f = absurd cc
yes_no false e f = absurd cc

clash : {B : Type 0} {begins : List Terminal → Bool} (p r : List ℕ) (ts us : List Terminal) → Ends begins p r → ts ≡ us → among p (front ts) ≡ true → among r (front us) ≡ true → B
clash {begins = begins} p r ts us ends same x y = yes_no (begins us) (ap begins (sym same) ∙ ends.yes ts x) (ends.no us y)

clear_case : {A : Type 0} {m n k l : Spelled A} {begins : List Terminal → Bool} (q p r : List ℕ) → Ends begins p r → Clear (among q) m n → Clear (among q) k l → Follows (among q) (among p) m → Follows (among q) (among p) n
    → Follows (among q) (among r) k → Follows (among q) (among r) l
    → (ts us rest vs : List Terminal) (x y : A) → Either m k ts rest x → Either n l us vs y → ts ≡ us → among q (front rest) ≡ true → among q (front vs) ≡ true → (rest ≡ vs) × (x ≡ y)
clear_case q p r ends c d s t u v ts us rest vs x y (the_one a) (the_one b) same e f = c.at ts us rest vs x y a b same e f
clear_case q p r ends c d s t u v ts us rest vs x y (the_other a) (the_other b) same e f = d.at ts us rest vs x y a b same e f
clear_case q p r ends c d s t u v ts us rest vs x y (the_one a) (the_other b) same e f = clash p r ts us ends same (s.at ts rest x a e) (v.at us vs y b f)
clear_case q p r ends c d s t u v ts us rest vs x y (the_other a) (the_one b) same e f = clash p r us ts ends (sym same) (t.at us vs y b f) (u.at ts rest x a e)

pub one_of : {A : Type 0} {s : Bool} {n : ℕ} {a b : Bool} {p r q : List ℕ} {begins : List Terminal → Bool} {f g h k : Form A}
    → IsForm s n a p q f g → IsForm s n b r q h k → Ends begins p r → IsForm s n (a && b) (p ++ r) q (choice begins f h) (choice begins g k)
one_of {p = p} {r = r} {q = q} {begins = begins} one other ends = record {
  sound = λ is left ts. either (begins ts) (sounds.first (one.sound is left ts)) (sounds.second (other.sound is left ts));
  complete = λ left room ts. record { at = choice_case p r q begins ends one.edge.follows other.edge.follows (one.complete left room ts) (other.complete left room ts) };
  clear = record { at = clear_case q p r ends one.clear other.clear one.edge.follows one.edge_too.follows other.edge.follows other.edge_too.follows };
  edge = edge_or one.edge other.edge;
  edge_too = edge_or one.edge_too other.edge_too;
}

-- ---- rows

pub row : {A : Type 0} {s : Bool} {n : ℕ} {p q : List ℕ} {begins : List Terminal → Bool} {f g : Form A}
    → IsForm s n true p (p ++ q) f g → Ends begins p q → all_of (others (among p)) q ≡ true → IsForm s n false (p ++ q) q (many begins f) (many begins g)
row {p = p} {q = q} {begins = begins} {f = f} item ends apart = record {
  sound = λ is left ts. row_sound begins (f.read left) (item.sound is left) (length ts) ts;
  complete = λ left room ts. complete_row {q = among q} {p = among (p ++ q)} (record {
    complete = item.complete left room;
    shrinks = record { at = item.edge.takes };
    begin = λ ts rest x d. ends.yes ts ((item.edge.starts tt).at ts rest x d);
    stop = ends.no;
    follows = (edge_many {q = q} item.edge).follows;
  }) ts;
  clear = clear_many {q = among q} {p = among (p ++ q)} {r = among p} item.clear (item.edge.starts tt) (item.edge_too.starts tt) (first_in p q) (second_in p q) (among_in q apart);
  edge = edge_many item.edge;
  edge_too = edge_many item.edge_too;
}

-- ---- brackets

-- below a level that is one higher
inside_case : {A : Type 0} {s : Bool} {n : ℕ} {b : Bool} {p : List ℕ} (q : List ℕ) (o c : Sign) {f g : Form A} → IsForm s n b p (code c ∷ []) f g → (left : ℕ) → left < suc n → (ts : List Terminal)
    → (x : A × ℕ) (rest : List Terminal) → Inside o c f.spelled ts rest x → among q (front rest) ≡ true → Met (inside o c f.read left ts) (x, rest)
inside_case q o c item zero room ts x rest d e = no_room _ _ o ts d.middle d.value d.one
inside_case {n = n} q o c item (suc below) room ts x rest d e =
    let less : suc below - 1 < n = omega arith in
    (complete_next {q = among q} (complete_the (suc below) o ts) λ l.
    complete_then (among (code c ∷ [])) (item.complete (suc below - 1) less l.1)
    (λ v. complete_next (complete_the (suc below - 1) c v.1) λ k. complete_yields) (λ v. follows_starts (record { at = λ ts rest y h. starts_the.at ts h.middle h.value h.one }) (lone_in (code c)))).at x rest d e

edge_inside : {A : Type 0} {q : List ℕ} {b : Bool} {p : List ℕ} (o c : Sign) {m : Spelled A} → Edge b p (code c ∷ []) m → Edge {A = A × ℕ} true (code o ∷ []) q (Inside o c m)
edge_inside {b = b} o c inner = edge_then {a = true} {b = b || true} (the_form {s = true} {n = 0} {w = o}).edge (λ k. edge_then {a = b} {b = true} inner (λ x. edge_then {a = true} {b = false} (the_form {s = true} {n = 0} {w = c}).edge (λ l. edge_yields)))

pub deeper : {A : Type 0} {s : Bool} {n : ℕ} {b : Bool} {p q : List ℕ} {o c : Sign} {f g : Form A} → IsForm s n b p (code c ∷ []) f g → IsForm s (suc n) true (code o ∷ []) q (within o c f) (within o c g)
deeper {q = q} {o = o} {c = c} {f = f} item = record {
  sound = λ is left ts. then_sound (sign_sound left o ts) (λ l. then_sound (item.sound is (left - 1) l.1) (λ x. then_sound (sign_sound (left - 1) c x.1) (λ e. sounds.yields)));
  complete = λ left room ts. record { at = inside_case q o c item left room ts };
  clear = clear_then any clear_the (λ l. clear_then (among (code c ∷ [])) item.clear (λ x. clear_next clear_the λ k. clear_yields)
      (λ x. follows_starts (record { at = λ ts rest y h. starts_the.at ts h.middle h.value h.one }) (lone_in (code c)))
      (λ x. follows_starts (record { at = λ ts rest y h. starts_the.at ts h.middle h.value h.one }) (lone_in (code c))))
      (λ l. record { at = λ ts rest x d e. refl }) (λ l. record { at = λ ts rest x d e. refl });
  edge = edge_inside o c item.edge;
  edge_too = edge_inside o c item.edge_too;
}

-- what is known below a level is known below a lower one
pub lower : {A : Type 0} {s : Bool} {n : ℕ} {b : Bool} {p q : List ℕ} {f g : Form A} → IsForm s (suc n) b p q f g → IsForm s n b p q f g
lower {n = n} known = record {
  sound = known.sound;
  complete = λ left room ts. known.complete left (omega (arith, room)) ts;
  clear = known.clear;
  edge = known.edge;
  edge_too = known.edge_too;
}

pub as_deep : {A : Type 0} {s : Bool} {n : ℕ} {b : Bool} {p q : List ℕ} {o c : Sign} {f g : Form A} → IsForm s n b p (code c ∷ []) f g → IsForm s n true (code o ∷ []) q (within o c f) (within o c g)
as_deep item = lower (deeper item)

-- ---- lists

commas_take : {A : Type 0} {p r : List ℕ} {m : Spelled A} → Edge true p r m → (ts rest : List Terminal) (xs : List A) → Many (Then (The sign.Comma) (λ l. m)) ts rest xs → length rest ≤ length ts
commas_take item ts rest xs nothing = omega arith
commas_take item ts rest xs (more {us = us} {x = x} {xs = ys} d ds) =
    let a = one_shorter ts d.middle d.one.terminal d.one.stands in
    let b : length us < length d.middle = item.takes d.middle us x d.next in
    let c = commas_take item us rest ys ds in
    omega (arith, a, b, c)

list_takes : {A : Type 0} {p r : List ℕ} {m : Spelled A} → Edge true p r m → (ts rest : List Terminal) (xs : List A) → Listed m ts rest xs → length rest ≤ length ts
unfolding Listed Series
list_takes item ts rest xs (the_one d) = none_takes ts rest d.none
list_takes item ts rest xs (the_other d) =
    let a : length d.middle < length ts = item.takes ts d.middle d.value d.one in
    let b = commas_take item d.middle d.next.middle d.next.value d.next.one in
    let c = none_takes d.next.middle rest d.next.next.none in
    omega (arith, a, b, c)

list_follows : {A : Type 0} (p : List ℕ) {r : List ℕ} (z : ℕ) {m : Spelled A} → Edge true p r m → (ts rest : List Terminal) (xs : List A) → Listed m ts rest xs → among (z ∷ []) (front rest) ≡ true → among (p ++ z ∷ []) (front ts) ≡ true
unfolding Listed
list_follows p z item ts rest xs (the_one d) e = subst (λ us. among (p ++ z ∷ []) (front us) ≡ true) (sym d.none) ((second_in p (z ∷ [])).at (front rest) e)
list_follows p z item ts rest xs (the_other d) e = (first_in p (z ∷ [])).at (front ts) ((starts_series (item.starts tt)).at ts rest xs d)

edge_list : {A : Type 0} {p r : List ℕ} {m : Spelled A} (z : ℕ) → Edge true p r m → Edge false (p ++ z ∷ []) (z ∷ []) (Listed m)
edge_list {p = p} z item = record {
  follows = record { at = list_follows p z item };
  starts = λ is. absurd is;
  takes = list_takes item;
}

clear_list : {A : Type 0} {m n : Spelled A} {p r : Set} (z : ℕ) → Clear r m n → Starts m p → Starts n p → r (code sign.Comma) ≡ true → r z ≡ true → others (only (code sign.Comma)) z ≡ true → In p (others (only z)) → Clear (only z) (Listed m) (Listed n)
unfolding Listed
clear_list {p = p} {r = r} z c s t comma end apart away =
    clear_optional (clear_series r c comma (only_in z end) (only_in z apart)) (starts_series s) (starts_series t) (only_in z (not_in (p z) refl))
  where
    not_in : (b : Bool) → p z ≡ b → not (p z) ≡ true
    not_in true e = not_both (only z z) (eq-eqb z z refl) (away.at z e)
    not_in false e = ap not e

pub a_list_form : {A : Type 0} {s : Bool} {n : ℕ} {p : List ℕ} {f g : Form A} (e : Sign) → IsForm s n true p (list_ends e) f g → all_of (others (only (code e))) p ≡ true → not (eqb (code e) (code sign.Comma)) ≡ true
    → IsForm s n false (p ++ code e ∷ []) (code e ∷ []) (list e f) (list e g)
a_list_form {p = p} {f = f} {g = g} e item away apart = record {
  sound = λ is left ts. listed_sound (f.read left) e (item.sound is left) ts;
  complete = λ left room ts. complete_weaker (complete_listed {p = among (list_ends e)} {r = among p} e (record {
    complete = item.complete left room;
    shrinks = record { at = item.edge.takes };
    comma = (head_in (code sign.Comma) (code e ∷ [])).at (code sign.Comma) (lone_self (code sign.Comma));
    end = only_in (code e) (ends_e (code e));
    apart = only_in (code e) apart;
  }) (item.edge.starts tt) (among_in p away) ts) (in_lone (code e));
  clear = clear_weaker (clear_list (code e) item.clear (item.edge.starts tt) (item.edge_too.starts tt) ((head_in (code sign.Comma) (code e ∷ [])).at (code sign.Comma) (lone_self (code sign.Comma))) (ends_e (code e)) apart (among_in p away)) (in_lone (code e));
  edge = edge_list (code e) item.edge;
  edge_too = edge_list (code e) item.edge_too;
}
  where
    lone_self : (k : ℕ) → among (k ∷ []) k ≡ true
    lone_self k = (lone_in k).at k (eq-eqb k k refl)

    ends_e : (k : ℕ) → among (code sign.Comma ∷ k ∷ []) k ≡ true
    ends_e k = (tail_in (code sign.Comma) (k ∷ [])).at k ((lone_in k).at k (eq-eqb k k refl))
