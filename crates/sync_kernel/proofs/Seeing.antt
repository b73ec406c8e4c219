-- What was seen of facts, while facts come and go and the store grows.
use Rattle.std.proofs.Common.{◌≡◌, ℕ, zero, suc, ◌+◌, ◌-◌, ◌<◌, ◌≤◌, Bool, true, false, ◌&&◌, ◌||◌, if◌then◌else◌, List, [], ◌∷◌, ◌++◌, map, length, take, get_or, Option, Some, None, refl, sym, ap, subst, ◌∙◌, arith}
use Rattle.std.specs.List.{list_any, AllZip}
use Rattle.std.proofs.lemmas.Bool.{cond-true, cond-false}
use Rattle.std.proofs.lemmas.List.{length_push, length-map, length-take, length-take-le, take_all, take-take, take-append-le, take-map, take_more, map_push, get_or-map}
use Rattle.std.proofs.lemmas.Slice.Zip.{AllZip-long}
use Rattle.sync_terms.specs.Trees.{Formula, Le, Lt, Eq, Not, And, Or, Imp}
use Rattle.sync_terms.specs.Stored.{Stored, IsShared, Extends}
use Rattle.sync_kernel_facts.specs.declared.literals.Literal.{Literal}
use Rattle.sync_kernel_facts.specs.declared.branches.Said.{Said}
use Rattle.sync_kernel_facts.specs.declared.branches.Held.{Held}
use Rattle.sync_kernel.specs.declared.seen.Seen.{Seen}
use Rattle.sync_kernel_facts.specs.Facts.{Fact, is_plain}
use Rattle.sync_kernel_facts.specs.Branches.{said_fact, facts_in, AreSaid, Begins}
use Rattle.sync_kernel_facts.specs.Literals.{literal_form, IsLiteral, IsBare, is_negation, denied_by, IsEntry}
use Rattle.sync_kernel.specs.Rows.{formula_eq}
use Rattle.sync_kernel.specs.Opposed.{is_fact, is_undone, is_closing_with}
use Rattle.sync_kernel_facts.specs.Stacks.{saids}
use Rattle.sync_kernel_facts.specs.Trails.{has_entry}
use Rattle.sync_kernel.specs.Seen.{says, denies, is_closed, HasSeen, seen_count, IsSeen}
use Rattle.sync_kernel.proofs.Fitting.{facts-more, literal-more, IsLiteral-more}
use Rattle.sync_kernel.proofs.SameSteps.{literals_tell}
use Rattle.sync_kernel.proofs.Closed.{closed_with, closed_take, open_before}

abbrev Entries : Type 0
Entries = List (Option Literal)

abbrev Wanted : Type 0
Wanted = List (Option Formula)

-- ---- entries

abbrev AreEntries : Stored → Entries → Wanted → Type 0
AreEntries s es fs = AllZip (IsEntry s) es fs

entry-more : (s t : Stored) (e : Option Literal) (f : Option Formula) → Extends s t → IsEntry s e f → IsEntry t e f
entry-more s t None None more h = tt
entry-more s t None (Some f) more h = absurd h
entry-more s t (Some l) None more h = absurd h
entry-more s t (Some l) (Some f) more h =
    (literal-more s t l more h.1 ∙ h.0, IsLiteral-more s t l more h.1, λ b. ap is_negation (more.forms l.form h.1).1 ∙ h.2 b)

entries-more : (s t : Stored) (es : Entries) (fs : Wanted) → Extends s t → AreEntries s es fs → AreEntries t es fs
entries-more s t [] [] more h = tt
entries-more s t [] (f ∷ fs) more h = absurd h
entries-more s t (e ∷ es) [] more h = absurd h
entries-more s t (e ∷ es) (f ∷ fs) more h = (entry-more s t e f more h.0, entries-more s t es fs more h.1)

entries-push : (s : Stored) (es : Entries) (fs : Wanted) (e : Option Literal) (f : Option Formula) → AreEntries s es fs → IsEntry s e f → AreEntries s (es ++ e ∷ []) (fs ++ f ∷ [])
entries-push s [] [] e f h k = (k, tt)
entries-push s [] (g ∷ gs) e f h k = absurd h
entries-push s (x ∷ xs) [] e f h k = absurd h
entries-push s (x ∷ xs) (g ∷ gs) e f h k = (h.0, entries-push s xs gs e f h.1 k)

entries-take : (s : Stored) (n : ℕ) (es : Entries) (fs : Wanted) → AreEntries s es fs → AreEntries s (take n es) (take n fs)
entries-take s zero es fs h = tt
entries-take s (suc n) [] [] h = tt
entries-take s (suc n) [] (f ∷ fs) h = absurd h
entries-take s (suc n) (e ∷ es) [] h = absurd h
entries-take s (suc n) (e ∷ es) (f ∷ fs) h = (h.0, entries-take s n es fs h.1)

entries_long : (s : Stored) (es : Entries) (fs : Wanted) → AreEntries s es fs → length es ≡ length fs
entries_long s es fs h = sym (AllZip-long (IsEntry s) es fs h)

-- ---- a literal among them

abbrev is_wanted : Formula → Option Formula → Bool
is_wanted g None = false
is_wanted g (Some f) = formula_eq f g

module _ (s : Stored) (l : Literal) (shared : IsShared s) (stored : IsLiteral s l) (bare : IsBare s l) where
  entries_have : (es : Entries) (fs : Wanted) → AreEntries s es fs → has_entry es l ≡ list_any (is_wanted (literal_form s l)) fs
  entries_have [] [] h = refl
  entries_have [] (f ∷ fs) h = absurd h
  entries_have (e ∷ es) [] h = absurd h
  entries_have (None ∷ es) (None ∷ fs) h = entries_have es fs h.1
  entries_have (None ∷ es) (Some f ∷ fs) h = absurd h.0
  entries_have (Some m ∷ es) (None ∷ fs) h = absurd h.0
  entries_have (Some m ∷ es) (Some f ∷ fs) h =
      ap (λ (b : Bool). b || has_entry es l) (literals_tell s m l shared h.0.1 stored h.0.2 bare ∙ ap (λ (g : Formula). formula_eq g (literal_form s l)) h.0.0)
      ∙ ap (λ (b : Bool). formula_eq f (literal_form s l) || b) (entries_have es fs h.1)

says_wanted : (p : Bool) (f g : Formula) → (p && formula_eq f g) ≡ is_wanted g (if p then Some f else None)
says_wanted true f g = refl
says_wanted false f g = refl

fact_said : (fs : List Fact) (g : Formula) → is_fact fs g ≡ list_any (is_wanted g) (map says fs)
fact_said [] g = refl
fact_said (f ∷ fs) g =
    ap (λ (b : Bool). b || is_fact fs g) (says_wanted (is_plain f) f.form g) ∙ ap (λ (b : Bool). is_wanted g (says f) || b) (fact_said fs g)

denies_wanted : (p : Bool) (f g : Formula) → (p && formula_eq f (Not g)) ≡ is_wanted g (if p then denied_by f else None)
denies_wanted false f g = refl
denies_wanted true (Not f) g = refl
denies_wanted true (Le a b) g = refl
denies_wanted true (Lt a b) g = refl
denies_wanted true (Eq a b) g = refl
denies_wanted true (And a b) g = refl
denies_wanted true (Or a b) g = refl
denies_wanted true (Imp a b) g = refl

fact_denied : (fs : List Fact) (g : Formula) → is_fact fs (Not g) ≡ list_any (is_wanted g) (map denies fs)
fact_denied [] g = refl
fact_denied (f ∷ fs) g =
    ap (λ (b : Bool). b || is_fact fs (Not g)) (denies_wanted (is_plain f) f.form g) ∙ ap (λ (b : Bool). is_wanted g (denies f) || b) (fact_denied fs g)

module _ (s : Stored) (fs : List Fact) (v : Seen) (l : Literal) (shared : IsShared s) (h : HasSeen s fs v) (stored : IsLiteral s l) (bare : IsBare s l) where
  pub said_has : has_entry v.said l ≡ is_fact fs (literal_form s l)
  said_has = entries_have s l shared stored bare v.said (map says fs) h.said ∙ sym (fact_said fs (literal_form s l))

  pub denied_has : has_entry v.denied l ≡ is_fact fs (Not (literal_form s l))
  denied_has = entries_have s l shared stored bare v.denied (map denies fs) h.denied ∙ sym (fact_denied fs (literal_form s l))

-- ---- one fact more

module _ (s : Stored) (fs : List Fact) (f : Fact) (v w : Seen) (e d : Option Literal) (b : Bool) (is : w ≡ record { said = v.said ++ e ∷ []; denied = v.denied ++ d ∷ []; closed = b }) where
  seen_next : HasSeen s fs v → v.closed ≡ false → IsEntry s e (says f) → IsEntry s d (denies f) → b ≡ (is_plain f && is_closing_with fs f.form) → HasSeen s (fs ++ f ∷ []) w
  seen_next h unclosed k j closes =
      let none : is_closed fs ≡ false = sym h.closed ∙ unclosed in
      let len = length_push fs f in
      subst (HasSeen s (fs ++ f ∷ [])) (sym is) (record {
        said = subst (AreEntries s (v.said ++ e ∷ [])) (sym (map_push says fs f)) (entries-push s v.said (map says fs) e (says f) h.said k);
        denied = subst (AreEntries s (v.denied ++ d ∷ [])) (sym (map_push denies fs f)) (entries-push s v.denied (map denies fs) d (denies f) h.denied j);
        before = ap is_closed (ap (λ (n : ℕ). take n (fs ++ f ∷ [])) (let z : length (fs ++ f ∷ []) - 1 ≡ length fs = omega (arith, len) in z) ∙ take-append-le (length fs) fs (f ∷ []) (omega arith) ∙ take_all (length fs) fs (omega arith)) ∙ none;
        closed = closes ∙ sym (closed_with fs f none);
      })

module _ (s : Stored) (fs : List Fact) (f : Fact) (v w : Seen) (h : HasSeen s fs v) (unclosed : v.closed ≡ false) where
  pub seen_passed : w ≡ record { said = v.said ++ None ∷ []; denied = v.denied ++ None ∷ []; closed = false } → is_plain f ≡ false → HasSeen s (fs ++ f ∷ []) w
  seen_passed is p =
      seen_next s fs f v w None None false is h unclosed
      (subst (IsEntry s None) (sym (cond-false (is_plain f) (Some f.form) None p)) tt)
      (subst (IsEntry s None) (sym (cond-false (is_plain f) (denied_by f.form) None p)) tt)
      (sym (ap (λ (b : Bool). b && is_closing_with fs f.form) p))

  pub seen_taken : (l : Literal) (d : Option Literal) (b : Bool) → w ≡ record { said = v.said ++ Some l ∷ []; denied = v.denied ++ d ∷ []; closed = b } → is_plain f ≡ true
      → literal_form s l ≡ f.form → IsLiteral s l → IsBare s l → IsEntry s d (denied_by (literal_form s l)) → b ≡ is_closing_with fs (literal_form s l) → HasSeen s (fs ++ f ∷ []) w
  seen_taken l d b is p form stored bare k closes =
      seen_next s fs f v w (Some l) d b is h unclosed
      (subst (IsEntry s (Some l)) (sym (cond-true (is_plain f) (Some f.form) None p)) (form, stored, bare))
      (subst (IsEntry s d) (ap denied_by form ∙ sym (cond-true (is_plain f) (denied_by f.form) None p)) k)
      (closes ∙ ap (is_closing_with fs) form ∙ sym (ap (λ (x : Bool). x && is_closing_with fs f.form) p))

-- the same of all facts
pub seen_more : (s : Stored) (fs : List Fact) (d : Fact) (v w : Seen) → IsSeen s fs v → seen_count v < length fs → HasSeen s (take (seen_count v) fs ++ get_or fs (seen_count v) d ∷ []) w → seen_count w ≡ seen_count v + 1 → IsSeen s fs w
seen_more s fs d v w h lt k e = record {
  within = omega (arith, lt, e);
  oldest = subst (λ (gs : List Fact). HasSeen s gs w) (sym (take_more fs (seen_count v) d lt) ∙ ap (λ (n : ℕ). take n fs) (sym e)) k;
}

-- a fact of the stack
pub held_fact : (s : Stored) (xs : List Said) (hs : List Held) (k n : ℕ) (x : Held) → saids hs ≡ xs → k ≡ n → n < length hs → said_fact s (get_or hs k x).said ≡ get_or (facts_in s xs) n (said_fact s x.said)
held_fact s xs hs k n x e same lt =
    let len : length (saids hs) ≡ length hs = length-map hs (λ (h : Held). h.said) in
    ap (λ (i : ℕ). said_fact s (get_or hs i x).said) same ∙ ap (said_fact s) (sym (get_or-map (λ (h : Held). h.said) hs n x x.said lt))
    ∙ sym (get_or-map (said_fact s) (saids hs) n x.said (said_fact s x.said) (omega (arith, len, lt))) ∙ ap (λ (ys : List Said). get_or (facts_in s ys) n (said_fact s x.said)) e

-- whether `same` closes
module _ (s : Stored) (fs : List Fact) (v : Seen) (h : IsSeen s fs v) where
  pub seen_closed : v.closed ≡ true → is_closed fs ≡ true
  seen_closed e = closed_take (seen_count v) fs (sym h.oldest.closed ∙ e)

  pub seen_open : v.closed ≡ false → length fs ≤ seen_count v → is_closed fs ≡ false
  seen_open e le = ap is_closed (sym (take_all (seen_count v) fs le)) ∙ sym h.oldest.closed ∙ e

-- ---- fewer facts

module _ (s : Stored) (fs : List Fact) (v w : Seen) (n : ℕ) (h : IsSeen s fs v) where
  pub seen_fewer : n < seen_count v → w ≡ record { said = take n v.said; denied = take n v.denied; closed = false } → IsSeen s (take n fs) w
  seen_fewer lt is =
      let k = seen_count v in
      let within : k ≤ length fs = h.within in
      let old = h.oldest in
      let len : length (take n v.said) ≡ n = length-take-le n v.said (omega (arith, lt)) in
      let long : length (take n fs) ≡ n = length-take-le n fs (omega (arith, lt, within)) in
      let same : take n (take k fs) ≡ take n fs = take-take n k fs (omega (arith, lt)) in
      let whole : length (take k fs) ≡ k = length-take-le k fs within in
      let unclosed : is_closed (take (k - 1) fs) ≡ false =
      ap is_closed (sym (take-take (k - 1) k fs (omega arith)) ∙ ap (λ (m : ℕ). take (m - 1) (take k fs)) (sym whole)) ∙ old.before in
      subst (IsSeen s (take n fs)) (sym is) (record {
        within = omega (arith, len, long);
        oldest = subst (λ (gs : List Fact). HasSeen s gs (record { said = take n v.said; denied = take n v.denied; closed = false })) (sym (take_all (length (take n v.said)) (take n fs) (omega (arith, len, long)))) (record {
          said = subst (AreEntries s (take n v.said)) (take-map says n (take k fs) ∙ ap (map says) same) (entries-take s n v.said (map says (take k fs)) old.said);
          denied = subst (AreEntries s (take n v.denied)) (take-map denies n (take k fs) ∙ ap (map denies) same) (entries-take s n v.denied (map denies (take k fs)) old.denied);
          before = ap is_closed (take-take (length (take n fs) - 1) n fs (omega (arith, long))) ∙ open_before (length (take n fs) - 1) (k - 1) fs (omega (arith, long, lt)) unclosed;
          closed = sym (open_before n (k - 1) fs (omega (arith, lt)) unclosed);
        });
      })

  pub seen_kept : seen_count v ≤ n → w ≡ record { said = take n v.said; denied = take n v.denied; closed = v.closed } → IsSeen s (take n fs) w
  seen_kept le is =
      let k = seen_count v in
      let within : k ≤ length fs = h.within in
      let long = length-take n fs in
      let denied_long : length v.denied ≡ k = entries_long s v.denied (map denies (take k fs)) h.oldest.denied ∙ length-map (take k fs) denies ∙ length-take-le k fs within in
      let same : w ≡ v = is ∙ ap (λ (es : Entries). record { said = es; denied = take n v.denied; closed = v.closed }) (take_all n v.said le)
      ∙ ap (λ (es : Entries). record { said = v.said; denied = es; closed = v.closed }) (take_all n v.denied (omega (arith, denied_long, le))) in
      subst (IsSeen s (take n fs)) (sym same) (record {
        within = omega (arith, long, le, within);
        oldest = subst (λ (gs : List Fact). HasSeen s gs v) (sym (take-take k n fs le)) h.oldest;
      })

-- ---- while the branch and the store grow

pub seen_grows : (s t : Stored) (xs ys : List Said) (v : Seen) → Extends s t → AreSaid s xs → Begins xs ys → IsSeen s (facts_in s xs) v → IsSeen t (facts_in t ys) v
seen_grows s t xs ys v more said begins h =
    let k = seen_count v in
    let within : k ≤ length (facts_in s xs) = h.within in
    let long : length (facts_in s xs) ≡ length xs = length-map xs (said_fact s) in
    let longer : length (facts_in t ys) ≡ length ys = length-map ys (said_fact t) in
    let old = h.oldest in
    let same : take k (facts_in s xs) ≡ take k (facts_in t ys) =
    ap (take k) (sym (facts-more s t xs more said)) ∙ take-map (said_fact t) k xs ∙ ap (λ (zs : List Said). facts_in t (take k zs)) (sym begins.1)
    ∙ ap (facts_in t) (take-take k (length xs) ys (omega (arith, within, long))) ∙ sym (take-map (said_fact t) k ys) in
    record {
      within = omega (arith, within, long, longer, begins.0);
      oldest = subst (λ (fs : List Fact). HasSeen t fs v) same (record {
        said = entries-more s t v.said (map says (take k (facts_in s xs))) more old.said;
        denied = entries-more s t v.denied (map denies (take k (facts_in s xs))) more old.denied;
        before = old.before;
        closed = old.closed;
      });
    }

-- ---- what a literal denies

pub undone_some : (s : Stored) (fs : List Fact) (f : Formula) (o : Option Literal) (l : Literal) → o ≡ Some l → IsEntry s o (denied_by f) → (is_undone fs f ≡ is_fact fs (literal_form s l)) × IsLiteral s l × IsBare s l
undone_some s fs f o l e h = by f (subst (λ (x : Option Literal). IsEntry s x (denied_by f)) e h)
  where
    by : (f : Formula) → IsEntry s (Some l) (denied_by f) → (is_undone fs f ≡ is_fact fs (literal_form s l)) × IsLiteral s l × IsBare s l
    by (Not g) h = (ap (is_fact fs) (sym h.0), h.1, h.2)
    by (Le a b) h = absurd h
    by (Lt a b) h = absurd h
    by (Eq a b) h = absurd h
    by (And a b) h = absurd h
    by (Or a b) h = absurd h
    by (Imp a b) h = absurd h

pub undone_none : (s : Stored) (fs : List Fact) (f : Formula) (o : Option Literal) → o ≡ None → IsEntry s o (denied_by f) → is_undone fs f ≡ false
undone_none s fs f o e h = by f (subst (λ (x : Option Literal). IsEntry s x (denied_by f)) e h)
  where
    by : (f : Formula) → IsEntry s None (denied_by f) → is_undone fs f ≡ false
    by (Not g) h = absurd h
    by (Le a b) h = refl
    by (Lt a b) h = refl
    by (Eq a b) h = refl
    by (And a b) h = refl
    by (Or a b) h = refl
    by (Imp a b) h = refl

pub seen_is : (x y z w : Entries) (b c : Bool) → x ≡ z → y ≡ w → b ≡ c → ◌≡◌ {A = Seen} (record { said = x; denied = y; closed = b }) (record { said = z; denied = w; closed = c })
seen_is x y z w b c e f g =
    ap (λ (es : Entries). record { said = es; denied = y; closed = b }) e ∙ ap (λ (es : Entries). record { said = z; denied = es; closed = b }) f ∙ ap (λ (d : Bool). record { said = z; denied = w; closed = d }) g
