-- What lines are worth: that of a term, and that of a line that changes.
use Rattle.std.proofs.Common.{◌≡◌, ◌≢◌, ◌⊎◌, inl, inr, ℕ, zero, suc, ◌<◌, ℤ, pos, ◌+ℤ◌, ◌-ℤ◌, ◌*ℤ◌, length, refl, sym, ap, ◌∙◌, arith}
use Rattle.std.specs.Prelude.{nat_eq}
use Rattle.std.proofs.Math.IntN.{+ℤ_idl, +ℤ_idr}
use Rattle.std.proofs.lemmas.Int.{ints}
use Rattle.std.proofs.lemmas.Bool.{cases_Bool, eqb-true, eqb-false}
use Rattle.sync_terms.specs.declared.nodes.TermId.{TermId}
use Rattle.sync_terms.specs.Trees.{Tree, Lit, Name, Add, Sub, Scale, Get, Has, Size, Sum, Nil, Put, Del, Bump}
use Rattle.sync_terms.specs.Values.{Valuation, num}
use Rattle.sync_terms.specs.Stored.{Stored, tree, IsTerm, IsShared}
use Rattle.sync_linear.specs.declared.changes.Change.{Change}
use Rattle.sync_linear.specs.declared.changes.Change.TheVariants.{Plus, Minus, Times}
use Rattle.sync_linear.specs.Changes.{changed}
use Rattle.sync_linear.specs.Lines.{Line, times, IsChanged}
use Rattle.sync_linear.specs.Forms.{constant_of, weighed, one_at, coefficient_of}
use Rattle.sync_linear.specs.Stores.{HasId, HasAtoms, IsLineOf}
use Rattle.sync_linear.specs.Worth.{summed_below, worth_at, worth}
use Rattle.sync_linear.proofs.Ring.{times_zero, times_one, distributes}
use Rattle.sync_linear.proofs.Trees.{one_here, none_there}
use Rattle.sync_linear.proofs.Weighing.{rearranged, scaled, plus, weighed_zero, value_is}

-- ---- sums over the numbers below one

summed-same : (f g : ℕ → ℤ) (n : ℕ) → ((i : ℕ) → i < n → f i ≡ g i) → summed_below f n ≡ summed_below g n
unfolding summed_below
summed-same f g zero h = refl
summed-same f g (suc n) h =
    ap (λ (x : ℤ). x +ℤ f n) (summed-same f g n (λ i l. h i (omega arith))) ∙ ap (λ (x : ℤ). summed_below g n +ℤ x) (h n (omega arith))

summed-none : (f : ℕ → ℤ) (n : ℕ) → ((i : ℕ) → i < n → f i ≡ pos 0) → summed_below f n ≡ pos 0
unfolding summed_below
summed-none f zero h = refl
summed-none f (suc n) h =
    ap (λ (x : ℤ). x +ℤ f n) (summed-none f n (λ i l. h i (omega arith))) ∙ ap (λ (x : ℤ). pos 0 +ℤ x) (h n (omega arith))

-- where only one of them counts
summed-one : (f : ℕ → ℤ) (n k : ℕ) (x : ℤ) → k < n → f k ≡ x → ((i : ℕ) → i < n → i ≢ k → f i ≡ pos 0) → summed_below f n ≡ x
unfolding summed_below
summed-one f zero k x l e h = absurd (omega arith)
summed-one f (suc n) k x l e h = elim (cases_Bool (nat_eq n k)) [
  | inl t ↦ (let same : n ≡ k = eqb-true n k t in
      ap (λ (y : ℤ). y +ℤ f n) (summed-none f n (λ i m. h i (omega arith) (λ (q : i ≡ k). omega arith)))
      ∙ (ap (λ (i : ℕ). pos 0 +ℤ f i) same ∙ (+ℤ_idl (f k) ∙ e)))
  | inr t ↦ (let ne : n ≢ k = eqb-false n k t in
      ap (λ (y : ℤ). y +ℤ f n) (summed-one f n k x (omega arith) e (λ i m. h i (omega arith)))
      ∙ (ap (λ (y : ℤ). x +ℤ y) (h n (omega arith) ne) ∙ +ℤ_idr x))
]

-- ---- changes of sums

regrouped : (a b c d : ℤ) → (a +ℤ b) +ℤ (c +ℤ d) ≡ (a +ℤ c) +ℤ (b +ℤ d)
regrouped a b c d = omega (arith, ints)

regrouped_minus : (a b c d : ℤ) → (a -ℤ b) +ℤ (c -ℤ d) ≡ (a +ℤ c) -ℤ (b +ℤ d)
regrouped_minus a b c d = omega (arith, ints)

changes-add : (how : Change) (a b c d : ℤ) → changed how a b +ℤ changed how c d ≡ changed how (a +ℤ c) (b +ℤ d)
changes-add Plus a b c d = regrouped a b c d
changes-add Minus a b c d = regrouped_minus a b c d
changes-add (Times n) a b c d = rearranged a c n b d

less-times : (w a b : ℤ) → w *ℤ (a -ℤ b) ≡ (w *ℤ a) -ℤ (w *ℤ b)
less-times w a b = let back : (a -ℤ b) +ℤ b ≡ a = omega (arith, ints) in
    omega (arith, ints, distributes w (a -ℤ b) b, ap (λ (z : ℤ). w *ℤ z) back)

changes-times : (how : Change) (w a b : ℤ) → w *ℤ changed how a b ≡ changed how (w *ℤ a) (w *ℤ b)
changes-times Plus w a b = distributes w a b
changes-times Minus w a b = less-times w a b
changes-times (Times n) w a b = scaled w a n b

changes-none : (how : Change) → changed how (pos 0) (pos 0) ≡ pos 0
changes-none Plus = refl
changes-none Minus = refl
changes-none (Times n) = +ℤ_idl (n *ℤ pos 0) ∙ times_zero n

summed-changed : (how : Change) (f g : ℕ → ℤ) (n : ℕ) → summed_below (λ i. changed how (f i) (g i)) n ≡ changed how (summed_below f n) (summed_below g n)
unfolding summed_below
summed-changed how f g zero = sym (changes-none how)
summed-changed how f g (suc n) =
    ap (λ (x : ℤ). x +ℤ changed how (f n) (g n)) (summed-changed how f g n) ∙ changes-add how (summed_below f n) (summed_below g n) (f n) (g n)

pub change-worth : (v : Valuation) (s : Stored) (how : Change) (old by new : Line) → IsChanged how old by new
    → worth v s new ≡ changed how (worth v s old) (worth v s by)
change-worth v s how old by new h =
    let w : ℕ → ℤ = λ id. num v (tree s (record { 0 = id })) in
    let n = length s.nodes in
    let each : summed_below (worth_at v s new) n ≡ summed_below (λ id. changed how (worth_at v s old id) (worth_at v s by id)) n =
    summed-same (worth_at v s new) (λ id. changed how (worth_at v s old id) (worth_at v s by id)) n
    (λ id l. ap (λ (x : ℤ). w id *ℤ x) (h.atoms id) ∙ changes-times how (w id) (times old.atoms id) (times by.atoms id)) in
    ap (λ (x : ℤ). x +ℤ summed_below (worth_at v s new) n) h.constant
    ∙ (ap (λ (x : ℤ). changed how old.constant by.constant +ℤ x) (each ∙ summed-changed how (worth_at v s old) (worth_at v s by) n)
    ∙ changes-add how old.constant by.constant (summed_below (worth_at v s old) n) (summed_below (worth_at v s by) n))

-- ---- the line of a term

-- the weight that the ids below n give a tree
spread : (ℕ → ℤ) → Stored → ℕ → Tree → ℤ
spread w s n x = summed_below (λ id. w id *ℤ one_at (tree s (record { 0 = id })) x) n

summed-weighed : (w : ℕ → ℤ) (s : Stored) (n : ℕ) (t : Tree)
    → summed_below (λ id. w id *ℤ coefficient_of (tree s (record { 0 = id })) t) n ≡ weighed (spread w s n) t
unfolding summed_below spread
summed-weighed w s zero t = sym (weighed_zero t)
summed-weighed w s (suc n) t =
    ap (λ (x : ℤ). x +ℤ (w n *ℤ coefficient_of (tree s (record { 0 = n })) t)) (summed-weighed w s n t)
    ∙ sym (plus (w n) (spread w s n) (one_at (tree s (record { 0 = n }))) t)

module _ (v : Valuation) (s : Stored) (shared : IsShared s) where
  value_of_id : ℕ → ℤ
  value_of_id id = num v (tree s (record { 0 = id }))

  -- a stored atom counts once
  spread-stored : (x : Tree) → HasId s x → spread value_of_id s (length s.nodes) x ≡ num v x
  unfolding value_of_id spread
  spread-stored x h =
      let f : ℕ → ℤ = λ id. num v (tree s (record { 0 = id })) *ℤ one_at (tree s (record { 0 = id })) x in
      summed-one f (length s.nodes) h.0.0 (num v x) h.1
      (ap (λ (y : Tree). num v y *ℤ one_at y x) h.2 ∙ (ap (λ (n : ℤ). num v x *ℤ n) (one_here x) ∙ times_one (num v x)))
      (λ i l ne. ap (λ (n : ℤ). num v (tree s (record { 0 = i })) *ℤ n)
      (none_there (tree s (record { 0 = i })) x (λ e. ne (ap (λ (t : TermId). t.0) (shared.terms (record { 0 = i }) h.0 l h.1 (e ∙ sym h.2)))))
      ∙ times_zero (num v (tree s (record { 0 = i }))))

  weighed-stored : (t : Tree) → HasAtoms s t → weighed (spread value_of_id s (length s.nodes)) t ≡ weighed (num v) t
  weighed-stored (Lit n) h = refl
  weighed-stored (Name x) h = spread-stored (Name x) h
  weighed-stored (Add a b) h =
      ap (λ (x : ℤ). x +ℤ weighed (spread value_of_id s (length s.nodes)) b) (weighed-stored a h.0) ∙ ap (λ (x : ℤ). weighed (num v) a +ℤ x) (weighed-stored b h.1)
  weighed-stored (Sub a b) h =
      ap (λ (x : ℤ). x -ℤ weighed (spread value_of_id s (length s.nodes)) b) (weighed-stored a h.0) ∙ ap (λ (x : ℤ). weighed (num v) a -ℤ x) (weighed-stored b h.1)
  weighed-stored (Scale n a) h = ap (λ (x : ℤ). n *ℤ x) (weighed-stored a h)
  weighed-stored (Get m k) h = spread-stored (Get m k) h
  weighed-stored (Has m k) h = spread-stored (Has m k) h
  weighed-stored (Size m) h = spread-stored (Size m) h
  weighed-stored (Sum m) h = spread-stored (Sum m) h
  weighed-stored Nil h = refl
  weighed-stored (Put m k x) h = refl
  weighed-stored (Del m k) h = refl
  weighed-stored (Bump m k n) h = refl

  pub term-worth : (t : Tree) (line : Line) → IsLineOf s t line → worth v s line ≡ num v t
  unfolding value_of_id
  term-worth t line i =
      let n = length s.nodes in
      let f : ℕ → ℤ = λ id. value_of_id id *ℤ coefficient_of (tree s (record { 0 = id })) t in
      ap (λ (x : ℤ). x +ℤ summed_below (worth_at v s line) n) i.constant
      ∙ (ap (λ (x : ℤ). constant_of t +ℤ x)
      (summed-same (worth_at v s line) f n (λ id l. ap (λ (x : ℤ). value_of_id id *ℤ x) (i.atoms (record { 0 = id }) l))
      ∙ (summed-weighed value_of_id s n t ∙ weighed-stored t i.has_atoms))
      ∙ sym (value_is v t))
