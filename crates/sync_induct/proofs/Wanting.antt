-- Which titles the list of obligations has: of an operation, those of the invariants that it has to keep.
use Rattle.std.proofs.Common.{◌≡◌, ℕ, zero, suc, ◌+◌, ◌<◌, Bool, true, false, ◌||◌, ◌&&◌, cond, List, [], ◌∷◌, ◌++◌, Some, None, refl, sym, ap, ◌∙◌, arith, add-zero, zero-add}
use Rattle.std.specs.Prelude.{nat_eq, slice_get}
use Rattle.std.proofs.lemmas.Bool.{ne_eqb, eq-eqb}
use Rattle.std.proofs.lemmas.List.Folds.{list_any-append}
use Rattle.sync_base.proofs.Basics.{and_false, or_false}
use Rattle.sync_machine.specs.declared.fields.Field.{Field}
use Rattle.sync_machine.specs.Machines.{StepTree, OperationTree, InvariantTree, MachineTree}
use Rattle.sync_terms.specs.declared.proofs.Claim.TheVariants.{At, Keeps}
use Rattle.sync_terms.specs.declared.proofs.Obligation.{Obligation}
use Rattle.sync_rules.specs.Obligations.{has_safety, safety_claims, has_to_keep, keeps_claims, claims_of, obligations_of}
use Rattle.sync_induct.specs.declared.index.Title.{Title}
use Rattle.sync_induct.specs.Titles.{title, titled, same_title}
use Rattle.sync_induct.specs.Checks.{has_title}
use Rattle.sync_induct.specs.Closing.{AreWanted}

-- the title of the claim that an invariant is kept
abbrev keeping : ℕ → ℕ → Title
keeping op j = title op (Keeps j)

has-append : (xs ys : List Obligation) (t : Title) → has_title (xs ++ ys) t ≡ (has_title xs t || has_title ys t)
has-append xs ys t = list_any-append (λ (o : Obligation). same_title (titled o) t) xs ys

false-and : (a b : Bool) → a ≡ false → (a && b) ≡ false
false-and a b e = rw e refl

-- one in front that has another title
other-first : (b : Bool) (o : Obligation) (rest : List Obligation) (t : Title) → same_title (titled o) t ≡ false → has_title (cond b (o ∷ rest) rest) t ≡ has_title rest t
other-first true o rest t e = ap (λ (x : Bool). x || has_title rest t) e
other-first false o rest t e = refl

-- a statement's title is no invariant's
safety-apart : (fs : List Field) (op n : ℕ) (ss : List StepTree) (k j : ℕ) → has_title (safety_claims fs op n ss) (keeping k j) ≡ false
unfolding safety_claims
safety-apart fs op n [] k j = refl
safety-apart fs op n (s ∷ ss) k j =
    other-first (has_safety fs s) (record { op = op; claim = At n; line = s.line }) (safety_claims fs op (suc n) ss) (keeping k j) (and_false (nat_eq op k)) ∙ safety-apart fs op (suc n) ss k j

-- of another operation
keeps-apart : (o : OperationTree) (op n : ℕ) (is : List InvariantTree) (k j : ℕ) → (op ≡ k → ⊥) → has_title (keeps_claims o op n is) (keeping k j) ≡ false
unfolding keeps_claims
keeps-apart o op n [] k j apart = refl
keeps-apart o op n (i ∷ is) k j apart =
    other-first (has_to_keep o i) (record { op = op; claim = Keeps n; line = o.line }) (keeps_claims o op (suc n) is) (keeping k j) (false-and (nat_eq op k) (nat_eq n j) (ne_eqb op k apart)) ∙ keeps-apart o op (suc n) is k j apart

other-number : (op n j : ℕ) → (n ≡ j → ⊥) → (nat_eq op op && nat_eq n j) ≡ false
other-number op n j apart = ap (λ (x : Bool). nat_eq op op && x) (ne_eqb n j apart) ∙ and_false (nat_eq op op)

-- of a later invariant
keeps-later : (o : OperationTree) (op n : ℕ) (is : List InvariantTree) (j : ℕ) → j < n → has_title (keeps_claims o op n is) (keeping op j) ≡ false
unfolding keeps_claims
keeps-later o op n [] j lt = refl
keeps-later o op n (i ∷ is) j lt =
    other-first (has_to_keep o i) (record { op = op; claim = Keeps n; line = o.line }) (keeps_claims o op (suc n) is) (keeping op j) (other-number op n j (λ e. omega arith)) ∙ keeps-later o op (suc n) is j (omega arith)

own-first : (b : Bool) (o : OperationTree) (op n : ℕ) (rest : List Obligation) → has_title rest (keeping op n) ≡ false → has_title (cond b (record { op = op; claim = Keeps n; line = o.line } ∷ rest) rest) (keeping op n) ≡ b
own-first true o op n rest e = ap (λ (x : Bool). (x && nat_eq n n) || has_title rest (keeping op n)) (eq-eqb op op refl) ∙ ap (λ (x : Bool). x || has_title rest (keeping op n)) (eq-eqb n n refl)
own-first false o op n rest e = e

some-same : {A : Type 0} (x y : A) → Some x ≡ Some y → x ≡ y
some-same x y e = cc

-- the invariant with number n + j
keeps-here : (o : OperationTree) (op n : ℕ) (is : List InvariantTree) (j : ℕ) (i : InvariantTree) → slice_get is j ≡ Some i → has_title (keeps_claims o op n is) (keeping op (n + j)) ≡ has_to_keep o i
unfolding keeps_claims
keeps-here o op n [] j i e = absurd (let f : None ≡ Some i = e in cc)
keeps-here o op n (x ∷ is) zero i e =
    let same : x ≡ i = some-same x i e in
    ap (λ (k : ℕ). has_title (keeps_claims o op n (x ∷ is)) (keeping op k)) (add-zero n)
    ∙ (own-first (has_to_keep o x) o op n (keeps_claims o op (suc n) is) (keeps-later o op (suc n) is n (omega arith)) ∙ ap (has_to_keep o) same)
keeps-here o op n (x ∷ is) (suc j) i e =
    let moved : n + suc j ≡ suc n + j = omega arith in
    other-first (has_to_keep o x) (record { op = op; claim = Keeps n; line = o.line }) (keeps_claims o op (suc n) is) (keeping op (n + suc j)) (other-number op n (n + suc j) (λ same. omega arith))
    ∙ (ap (λ (k : ℕ). has_title (keeps_claims o op (suc n) is) (keeping op k)) moved ∙ keeps-here o op (suc n) is j i e)

or-parts : (a b : Bool) → a ≡ false → (a || b) ≡ b
or-parts a b e = rw e refl

-- of a later operation
claims-later : (m : MachineTree) (op : ℕ) (os : List OperationTree) (k j : ℕ) → k < op → has_title (claims_of m op os) (keeping k j) ≡ false
unfolding claims_of
claims-later m op [] k j lt = refl
claims-later m op (o ∷ os) k j lt =
    let own = safety_claims m.fields op 1 o.steps in
    let kept = keeps_claims o op 0 m.invariants in
    let rest = claims_of m (suc op) os in
    has-append (own ++ kept) rest (keeping k j)
    ∙ (ap (λ (b : Bool). b || has_title rest (keeping k j)) (has-append own kept (keeping k j) ∙ (or-parts _ _ (safety-apart m.fields op 1 o.steps k j) ∙ keeps-apart o op 0 m.invariants k j (λ e. omega arith)))
    ∙ claims-later m (suc op) os k j (omega arith))

claims-here : (m : MachineTree) (op : ℕ) (os : List OperationTree) (k : ℕ) (o : OperationTree) (j : ℕ) (i : InvariantTree) → slice_get os k ≡ Some o → slice_get m.invariants j ≡ Some i
    → has_title (claims_of m op os) (keeping (op + k) j) ≡ has_to_keep o i
unfolding claims_of
claims-here m op [] k o j i e f = absurd (let g : None ≡ Some o = e in cc)
claims-here m op (x ∷ os) zero o j i e f =
    let own = safety_claims m.fields op 1 x.steps in
    let kept = keeps_claims x op 0 m.invariants in
    let rest = claims_of m (suc op) os in
    let same : x ≡ o = some-same x o e in
    ap (λ (k : ℕ). has_title ((own ++ kept) ++ rest) (keeping k j)) (add-zero op)
    ∙ (has-append (own ++ kept) rest (keeping op j)
    ∙ (ap (λ (b : Bool). has_title (own ++ kept) (keeping op j) || b) (claims-later m (suc op) os op j (omega arith)) ∙ (or_false (has_title (own ++ kept) (keeping op j))
    ∙ (has-append own kept (keeping op j) ∙ (or-parts _ _ (safety-apart m.fields op 1 x.steps op j)
    ∙ (ap (λ (n : ℕ). has_title kept (keeping op n)) (sym (zero-add j)) ∙ (keeps-here x op 0 m.invariants j i f ∙ ap (λ (y : OperationTree). has_to_keep y i) same)))))))
claims-here m op (x ∷ os) (suc k) o j i e f =
    let own = safety_claims m.fields op 1 x.steps in
    let kept = keeps_claims x op 0 m.invariants in
    let rest = claims_of m (suc op) os in
    let moved : op + suc k ≡ suc op + k = omega arith in
    has-append (own ++ kept) rest (keeping (op + suc k) j)
    ∙ (ap (λ (b : Bool). b || has_title rest (keeping (op + suc k) j))
    (has-append own kept (keeping (op + suc k) j) ∙ (or-parts _ _ (safety-apart m.fields op 1 x.steps (op + suc k) j) ∙ keeps-apart x op 0 m.invariants (op + suc k) j (λ same. omega arith)))
    ∙ (ap (λ (n : ℕ). has_title rest (keeping n j)) moved ∙ claims-here m (suc op) os k o j i e f))

-- a test that knows the titles of the obligations knows which invariants an operation has to keep
pub wanted-of : (m : MachineTree) (is_wanted : Title → Bool) → ((t : Title) → is_wanted t ≡ has_title (obligations_of m) t) → (k : ℕ) (o : OperationTree) → slice_get m.ops k ≡ Some o → AreWanted is_wanted k o m.invariants
wanted-of m is_wanted knows k o e = λ j i f.
    knows (keeping k j) ∙ (ap (λ (n : ℕ). has_title (obligations_of m) (keeping n j)) (sym (zero-add k)) ∙ claims-here m 0 m.ops k o j i e f)
