-- Titles in maps and lists, as the loop over proofs goes on.
use Rattle.std.proofs.Common.{◌≡◌, ℕ, suc, ◌+◌, ◌<◌, Bool, true, false, not, ◌||◌, ◌&&◌, cond, eqb, List, [], ◌∷◌, ◌++◌, length, take, drop, get_or, Option, Some, None, refl, sym, ap, subst, ◌∙◌, inl, inr, add-one, ◌≤◌}
use Rattle.std.specs.Option.{is_some}
use Rattle.std.specs.Bool.{beq}
use Rattle.std.proofs.lemmas.Bool.{cases_Bool, eqb-true, true≢false, false≢true, and_parts}
use Rattle.sync_base.specs.declared.stops.Refusal.{Refusal}
use Rattle.sync_base.specs.declared.stops.Rule.TheVariants.{I2}
use Rattle.sync_base.specs.Outcome.{first}
use Rattle.sync_terms.specs.declared.proofs.Obligation.{Obligation}
use Rattle.sync_induct.specs.declared.index.Title.{Title}
use Rattle.sync_terms.specs.declared.proofs.Proof.{Proof}
use Rattle.std.proofs.Math.Seq.{drop-cons}
use Rattle.std.proofs.lemmas.List.{take_more, map-append}
use Rattle.std.proofs.Math.ListN.{drop_of_length-le}
use Rattle.sync_base.proofs.Basics.{cond_false, cond_true}
use Rattle.sync_induct.specs.Checks.{has_title, stray_fault}
use Rattle.sync_terms.specs.Proofs.{title_of, titles_of}
use Rattle.sync_induct.specs.Titles.{titled, same_title, first_at}

beq_true : (a b : Bool) → beq a b ≡ true → a ≡ b
beq_true true true e = refl
beq_true true false e = absurd (false≢true e)
beq_true false true e = absurd (false≢true e)
beq_true false false e = refl

-- equal titles are one
pub one_title : (a b : Title) → same_title a b ≡ true → a ≡ b
one_title a b e =
    let p = and_parts (eqb a.op b.op) (beq a.keeps b.keeps && eqb a.number b.number) e in
    let q = and_parts (beq a.keeps b.keeps) (eqb a.number b.number) p.1 in
    let op : a.op ≡ b.op = eqb-true a.op b.op p.0 in
    let keeps : a.keeps ≡ b.keeps = beq_true a.keeps b.keeps q.0 in
    let number : a.number ≡ b.number = eqb-true a.number b.number q.1 in
    λ i. record { op = op i; keeps = keeps i; number = number i }

pub none_of : (x : Option ℕ) → is_some x ≡ false → x ≡ None
none_of (Some n) e = absurd (true≢false e)
none_of None e = refl

first_at-cons : (t : Title) (i : ℕ) (o : Obligation) (rest : List Obligation) → first_at t i (o ∷ rest) ≡ cond (same_title (titled o) t) (Some i) (first_at t (suc i) rest)
unfolding first_at
first_at-cons t i o rest = refl

-- the map finds the first of what came, else the rest is searched
pub placed_more : (t : Title) (o : Obligation) (i : ℕ) (old new : Option ℕ) (rest : List Obligation) (total : Option ℕ) → (same_title (titled o) t ≡ true → old ≡ None)
    → new ≡ cond (same_title (titled o) t) (Some i) old → first old (first_at t i (o ∷ rest)) ≡ total → first new (first_at t (suc i) rest) ≡ total
placed_more t o i old new rest total free is so_far =
    elim (cases_Bool (same_title (titled o) t)) [
      | inl e ↦
          let n : new ≡ Some i = is ∙ cond_true (same_title (titled o) t) (Some i) old e in
          let c : first_at t i (o ∷ rest) ≡ Some i = first_at-cons t i o rest ∙ cond_true (same_title (titled o) t) (Some i) (first_at t (suc i) rest) e in
          let here : first old (first_at t i (o ∷ rest)) ≡ Some i = ap (λ x. first x (first_at t i (o ∷ rest))) (free e) ∙ ap (λ y. first None y) c in
          ap (λ x. first x (first_at t (suc i) rest)) n ∙ (sym here ∙ so_far)
      | inr e ↦
          let n : new ≡ old = is ∙ cond_false (same_title (titled o) t) (Some i) old e in
          let c : first_at t i (o ∷ rest) ≡ first_at t (suc i) rest = first_at-cons t i o rest ∙ cond_false (same_title (titled o) t) (Some i) (first_at t (suc i) rest) e in
          ap (λ x. first x (first_at t (suc i) rest)) n ∙ (ap (λ y. first old y) (sym c) ∙ so_far)
    ]

some_cond : (b : Bool) (i : ℕ) (old : Option ℕ) → is_some (cond b (Some i) old) ≡ (b || is_some old)
some_cond true i old = refl
some_cond false i old = refl

or_or : (a b c : Bool) → b ≡ c → (a || b) ≡ (c || (a || false))
or_or true true c e = ap (λ x. x || true) e
or_or true false c e = ap (λ x. x || true) e
or_or false b c e = e ∙ right c where
  right : (c : Bool) → c ≡ (c || false)
  right true = refl
  right false = refl

or_assoc : (a b c : Bool) → (a || (b || c)) ≡ ((a || b) || c)
or_assoc true b c = refl
or_assoc false b c = refl

any_append : (t : Title) (xs : List Obligation) (o : Obligation) → has_title (xs ++ o ∷ []) t ≡ (has_title xs t || (same_title (titled o) t || false))
any_append t [] o = refl
any_append t (x ∷ xs) o = ap (λ b. same_title (titled x) t || b) (any_append t xs o) ∙ or_assoc (same_title (titled x) t) (has_title xs t) (same_title (titled o) t || false)

-- what the map holds is what came
pub held_more : (t : Title) (o : Obligation) (i : ℕ) (old new : Option ℕ) (came : List Obligation) → new ≡ cond (same_title (titled o) t) (Some i) old → is_some old ≡ has_title came t → is_some new ≡ has_title (came ++ o ∷ []) t
held_more t o i old new came is held =
    ap (λ x. is_some x) is ∙ (some_cond (same_title (titled o) t) i old ∙ (or_or (same_title (titled o) t) (is_some old) (has_title came t) held ∙ sym (any_append t came o)))

-- a proof that is no stray
pub stray_more : (os came : List Obligation) (o : Obligation) (rest : List Obligation) (total : Option Refusal) → has_title os (titled o) ≡ true → has_title came (titled o) ≡ false
    → stray_fault os came (o ∷ rest) ≡ total → stray_fault os (came ++ o ∷ []) rest ≡ total
unfolding stray_fault
stray_more os came o rest total in_it fresh so_far =
    sym (cond_true (has_title os (titled o) && not (has_title came (titled o))) (stray_fault os (came ++ o ∷ []) rest) (Some (record { line = o.line; rule = I2 })) (rw (in_it, fresh) refl)) ∙ so_far

-- a proof that is one
pub stray_here : (os came : List Obligation) (o : Obligation) (rest : List Obligation) (total : Option Refusal) → (has_title os (titled o) && not (has_title came (titled o))) ≡ false
    → stray_fault os came (o ∷ rest) ≡ total → total ≡ Some (record { line = o.line; rule = I2 })
unfolding stray_fault
stray_here os came o rest total stray so_far =
    sym so_far ∙ cond_false (has_title os (titled o) && not (has_title came (titled o))) (stray_fault os (came ++ o ∷ []) rest) (Some (record { line = o.line; rule = I2 })) stray

pub stray_end : (os came : List Obligation) (total : Option Refusal) → stray_fault os came [] ≡ total → total ≡ None
unfolding stray_fault
stray_end os came total so_far = sym so_far

pub placed_end : (t : Title) (i : ℕ) (old total : Option ℕ) → first old (first_at t i []) ≡ total → old ≡ total
unfolding first_at
placed_end t i None total e = e
placed_end t i (Some n) total e = e

-- ---- the loop at a place

pub titles-drop : (ps : List Proof) (i : ℕ) (p : Proof) → i < length ps → get_or ps i p ≡ p → titles_of (drop i ps) ≡ title_of p ∷ titles_of (drop (i + 1) ps)
titles-drop ps i p lt is = ap titles_of (drop-cons ps i p lt) ∙ (ap (λ (x : Proof). title_of x ∷ titles_of (drop (suc i) ps)) is ∙ ap (λ (n : ℕ). title_of p ∷ titles_of (drop n ps)) (sym (add-one i)))

pub titles-take : (ps : List Proof) (i : ℕ) (p : Proof) → i < length ps → get_or ps i p ≡ p → titles_of (take (i + 1) ps) ≡ titles_of (take i ps) ++ title_of p ∷ []
titles-take ps i p lt is = ap titles_of (take_more ps i p lt ∙ ap (λ (x : Proof). take i ps ++ x ∷ []) is) ∙ map-append title_of (take i ps) (p ∷ [])

pub titles-end : (ps : List Proof) (i : ℕ) → length ps ≤ i → titles_of (drop i ps) ≡ []
titles-end ps i le = ap titles_of (drop_of_length-le ps le)

-- a title that the map lacks is lacking however it is spelled
pub lacks : (get : Title → Option ℕ) (k t : Title) → is_some (get k) ≡ false → same_title k t ≡ true → get t ≡ None
lacks get k t absent e = none_of (get t) (ap (λ (x : Title). is_some (get x)) (sym (one_title k t e)) ∙ absent)

pub placed-next : (t : Title) (ps : List Proof) (i : ℕ) (p : Proof) (old new total : Option ℕ) → i < length ps → get_or ps i p ≡ p → (same_title (titled (title_of p)) t ≡ true → old ≡ None)
    → new ≡ cond (same_title (titled (title_of p)) t) (Some i) old → first old (first_at t i (titles_of (drop i ps))) ≡ total → first new (first_at t (i + 1) (titles_of (drop (i + 1) ps))) ≡ total
placed-next t ps i p old new total lt is free added so_far =
    subst (λ (n : ℕ). first new (first_at t n (titles_of (drop (i + 1) ps))) ≡ total) (sym (add-one i))
    (placed_more t (title_of p) i old new (titles_of (drop (i + 1) ps)) total free added (ap (λ (os : List Obligation). first old (first_at t i os)) (sym (titles-drop ps i p lt is)) ∙ so_far))

pub held-next : (t : Title) (ps : List Proof) (i : ℕ) (p : Proof) (old new : Option ℕ) → i < length ps → get_or ps i p ≡ p
    → new ≡ cond (same_title (titled (title_of p)) t) (Some i) old → is_some old ≡ has_title (titles_of (take i ps)) t → is_some new ≡ has_title (titles_of (take (i + 1) ps)) t
held-next t ps i p old new lt is added held =
    held_more t (title_of p) i old new (titles_of (take i ps)) added held ∙ ap (λ (os : List Obligation). has_title os t) (sym (titles-take ps i p lt is))

pub stray-next : (os : List Obligation) (ps : List Proof) (i : ℕ) (p : Proof) (total : Option Refusal) → i < length ps → get_or ps i p ≡ p → has_title os (titled (title_of p)) ≡ true → has_title (titles_of (take i ps)) (titled (title_of p)) ≡ false
    → stray_fault os (titles_of (take i ps)) (titles_of (drop i ps)) ≡ total → stray_fault os (titles_of (take (i + 1) ps)) (titles_of (drop (i + 1) ps)) ≡ total
stray-next os ps i p total lt is in_it fresh so_far =
    ap (λ (came : List Obligation). stray_fault os came (titles_of (drop (i + 1) ps))) (titles-take ps i p lt is)
    ∙ stray_more os (titles_of (take i ps)) (title_of p) (titles_of (drop (i + 1) ps)) total in_it fresh (ap (λ (rest : List Obligation). stray_fault os (titles_of (take i ps)) rest) (sym (titles-drop ps i p lt is)) ∙ so_far)

pub stray-found : (os : List Obligation) (ps : List Proof) (i : ℕ) (p : Proof) (total : Option Refusal) → i < length ps → get_or ps i p ≡ p → (has_title os (titled (title_of p)) && not (has_title (titles_of (take i ps)) (titled (title_of p)))) ≡ false
    → stray_fault os (titles_of (take i ps)) (titles_of (drop i ps)) ≡ total → total ≡ Some (record { line = p.line; rule = I2 })
stray-found os ps i p total lt is stray so_far =
    stray_here os (titles_of (take i ps)) (title_of p) (titles_of (drop (i + 1) ps)) total stray (ap (λ (rest : List Obligation). stray_fault os (titles_of (take i ps)) rest) (sym (titles-drop ps i p lt is)) ∙ so_far)

pub unwanted : (a b : Bool) → a ≡ false → (a && not b) ≡ false
unwanted a b e = rw e refl

pub second : (a b : Bool) → b ≡ true → (a && not b) ≡ false
second true b e = rw e refl
second false b e = refl
