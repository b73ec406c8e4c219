-- One theorem for all productions that are data: where one terminal ahead decides, a production is read as it is spelled, all of it,
-- and spells one value.
use Rattle.std.proofs.Common.{subst, ap, inl, inr, eqb, ◌≡◌, ℕ, zero, suc, Bool, true, false, ◌&&◌, ◌||◌, not, List, [], ◌∷◌, ◌++◌, refl}
use Rattle.sync_lex.specs.declared.signs.Sign.{Sign}
use Rattle.sync_lex.specs.declared.signs.Sign.TheVariants as sign
use Rattle.sync_lex.specs.declared.terminals.Terminal.{Terminal}
use Rattle.sync_parse_forms.specs.Relations.{Spelled}
use Rattle.sync_parse_forms.specs.Fronts.{code, front, Set, only, others, among, all_of}
use Rattle.sync_parse_forms.specs.Codes.{Test, Code}
use Rattle.sync_parse_forms.specs.Readings.{tests}
use Rattle.sync_parse_forms.specs.Deciding.{Begun, list_ends, first, solid, tells, only_true, decided}
use Rattle.sync_parse_forms.proofs.Forms.{Form, form, within}
use Rattle.sync_parse_forms.proofs.Completes.{complete_weaker, Complete, Shrinks}
use Rattle.sync_parse_forms.proofs.Sounds.{Sound}
use Rattle.sync_parse_forms.proofs.Clears.{Clear, In, Follows, Starts, starts_weaker, clear_weaker, among_in, same_in}
use Rattle.sync_parse_forms.proofs.Bundle.{Edge, IsForm, Ends, told, the_form, name_form, number_form, done, here_form, seq, one_of, row, deeper, as_deep, a_list_form}

-- ---- weaker laws

edge_change : {A : Type 0} {m : Spelled A} {b : Bool} {p r q z : List ℕ} → Edge b p q m → In (among p) (among r) → In (among z) (among q) → Edge b r z m
edge_change known i j = record {
  follows = record { at = λ ts rest x d e. i.at (front ts) (known.follows.at ts rest x d (j.at (front rest) e)) };
  starts = λ is. starts_weaker (known.starts is) i;
  takes = known.takes;
}

change : {A : Type 0} {s : Bool} {n : ℕ} {b : Bool} {p r q z : List ℕ} {f g : Form A} → IsForm s n b p q f g → In (among p) (among r) → In (among z) (among q) → IsForm s n b r z f g
change known i j = record {
  sound = known.sound;
  complete = λ left room ts. complete_weaker (known.complete left room ts) j;
  clear = clear_weaker known.clear j;
  edge = edge_change known.edge i j;
  edge_too = edge_change known.edge_too i j;
}

parts : (a b : Bool) → (a && b) ≡ true → (a ≡ true) × (b ≡ true)
parts true b e = (refl, e)
parts false b e = absurd cc

-- the levels that are known of inner forms, and outside of brackets
abbrev pub level : Bool → ℕ → ℕ
level true n = n
level false n = suc n

true_is : (b : Bool) → only_true b ≡ true → b ≡ true
true_is true e = refl
true_is false e = absurd cc

made_solid : {A : Type 0} {s : Bool} {n : ℕ} {p q : List ℕ} {f g : Form A} (b : Bool) → only_true b ≡ true → IsForm s n b p q f g → IsForm s n true p q f g
made_solid true e known = known
made_solid false e known = absurd cc

-- an inner form, where it may stand
inner_case : {R : Type 0} {s : Bool} {n : ℕ} {b e : List ℕ} {f g : Form R} (open_ : Bool) (q : List ℕ) → IsForm s n true b e f g → (open_ && all_of (among e) q) ≡ true → IsForm s (level open_ n) true b q f g
inner_case {e = e} true q known h = change known same_in (among_in q h)
inner_case false q known h = absurd cc

brackets_case : {A : Type 0} {s : Bool} {n : ℕ} {b : Bool} {p q : List ℕ} {o k : Sign} {f g : Form A} (open_ : Bool) → IsForm s n b p (code k ∷ []) f g → IsForm s (level open_ n) true (code o ∷ []) q (within o k f) (within o k g)
brackets_case true known = as_deep known
brackets_case false known = deeper known

-- THE theorem. TerminalKind is known of the leaves, and of the production in its own brackets, is known of each production.
pub coded : {K : Type 0 → Type 1} {R A : Type 0} {s : Bool} {n : ℕ} (j : (X : Type 0) → K X → Form X) (k : Begun K) → ((X : Type 0) (c : K X) (n : ℕ) (q : List ℕ) → all_of (k.follow X c) q ≡ true → IsForm s n true (k.first X c) q (j X c) (j X c))
    → (b e : List ℕ) (f g : Form R) → IsForm s n true b e f g → (open_ : Bool) (c : Code K R A) (q : List ℕ) → decided k b e open_ c q ≡ true
    → IsForm s (level open_ n) (solid c) (first k.first b c q) q (form j f c) (form j g c)
coded j k w b e f g known open_ (Code.leaf {A = X} c) q h = w X c (level open_ _) q h
coded j k w b e f g known open_ (Code.a_sign s) q h = the_form
coded j k w b e f g known open_ Code.a_name q h = name_form
coded j k w b e f g known open_ Code.a_number q h = number_form
coded j k w b e f g known open_ Code.inner q h = inner_case open_ q known h
coded j k w b e f g known open_ Code.nothing q h = done
coded j k w b e f g known open_ (Code.after s c) q h = seq the_form λ l. coded j k w b e f g known open_ c q h
coded j k w b e f g known open_ (Code.before c s) q h = seq (coded j k w b e f g known open_ c (code s ∷ []) h) λ x. seq the_form λ l. done
coded j k w b e f g known open_ (Code.both c d) q h =
    let k0 = parts (decided k b e open_ c (first k.first b d q)) (decided k b e open_ d q) h in
    seq (coded j k w b e f g known open_ c (first k.first b d q) k0.0) λ x. seq (coded j k w b e f g known open_ d q k0.1) λ y. done
coded j k w b e f g known open_ (Code.either t c d) q h =
    let k0 = parts (tells t (first k.first b c q) (first k.first b d q)) (decided k b e open_ c q && decided k b e open_ d q) h in
    let l = parts (decided k b e open_ c q) (decided k b e open_ d q) k0.1 in
    one_of (seq (coded j k w b e f g known open_ c q l.0) λ x. done) (seq (coded j k w b e f g known open_ d q l.1) λ y. done) (told t (first k.first b c q) (first k.first b d q) k0.0)
coded j k w b e f g known open_ (Code.row t c) q h =
    let p = first k.first b c [] in
    let apart = all_of (others (among p)) q in
    let ends = tells t p q in
    let k0 = parts (only_true (solid c)) (all_of (among p) (first k.first b c (p ++ q)) && (decided k b e open_ c (p ++ q) && (ends && apart))) h in
    let l = parts (all_of (among p) (first k.first b c (p ++ q))) (decided k b e open_ c (p ++ q) && (ends && apart)) k0.1 in
    let m = parts (decided k b e open_ c (p ++ q)) (ends && apart) l.1 in
    let o = parts ends apart m.1 in
    row (made_solid (solid c) k0.0 (change (coded j k w b e f g known open_ c (p ++ q) m.0) (among_in (first k.first b c (p ++ q)) l.0) same_in)) (told t p q o.0) o.1
coded j k w b e f g known open_ (Code.listed z c) q h =
    let p = first k.first b c (list_ends z) in
    let away = all_of (others (only (code z))) p in
    let apart = not (eqb (code z) (code sign.Comma)) in
    let ends = all_of (among (code z ∷ [])) q in
    let k0 = parts (only_true (solid c)) (decided k b e open_ c (list_ends z) && (away && (apart && ends))) h in
    let l = parts (decided k b e open_ c (list_ends z)) (away && (apart && ends)) k0.1 in
    let m = parts away (apart && ends) l.1 in
    let o = parts apart ends m.1 in
    change (a_list_form z (made_solid (solid c) k0.0 (coded j k w b e f g known open_ c (list_ends z) l.0)) m.0 o.0) same_in (among_in q o.1)
coded j k w b e f g known open_ (Code.bracketed o z c) q h = seq (brackets_case open_ (coded j k w b e f g known true c (code z ∷ []) h)) λ x. done
coded j k w b e f g known open_ (Code.enclosed o z c) q h = brackets_case open_ (coded j k w b e f g known true c (code z ∷ []) h)
coded j k w b e f g known open_ (Code.node made of law c) q h = seq here_form λ start. seq (coded j k w b e f g known open_ c q h) λ x. done

-- what is known of a form elsewhere, by the laws that are proved there
pub from_laws : {A : Type 0} {s : Bool} {n : ℕ} (f : Form A) (ks : List ℕ) (p : Set) → ((left : ℕ) (ts : List Terminal) → Sound f.spelled ts (f.read left ts)) → ((left : ℕ) (ts : List Terminal) → Complete p f.spelled ts (f.read left ts)) → Clear p f.spelled f.spelled
    → Starts f.spelled (among ks) → Shrinks f.spelled → (q : List ℕ) → all_of p q ≡ true → IsForm s n true ks q f f
from_laws f ks p sound complete clear starts shrinks q e =
    let edge : Edge true ks q f.spelled = record { follows = record { at = λ ts rest x d h. starts.at ts rest x d }; starts = λ is. starts; takes = shrinks.at } in
    record {
      sound = λ is left ts. sound left ts;
      complete = λ left room ts. complete_weaker (complete left ts) (among_in q e);
      clear = clear_weaker clear (among_in q e);
      edge = edge;
      edge_too = edge;
    }
