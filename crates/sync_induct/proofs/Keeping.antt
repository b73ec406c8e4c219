-- The duties to keep the invariants: each over a store that has grown by its claim, and one after another.
use Rattle.std.proofs.Common.{◌≡◌, ℕ, suc, ◌+◌, ◌<◌, ◌≤◌, Bool, true, false, cond, List, [], ◌∷◌, length, map, get_or, drop, Some, None, Result, Err, refl, sym, ap, subst, ◌∙◌, add-one}
use Rattle.std.specs.Prelude.{OnOk, slice_get}
use Rattle.std.specs.Option.{option_map}
use Rattle.std.specs.List.{AllByRecursion}
use Rattle.std.proofs.lemmas.List.{at_drop_more, at_drop_all}
use Rattle.std.proofs.lemmas.List.Elements.{All-get_or, All-from_recursion}
use Rattle.std.proofs.lemmas.Option.{slice_get-map, slice_get_read}
use Rattle.sync_base.specs.declared.stops.Stop.{Stop}
use Rattle.sync_base.specs.Outcome.{Passes}
use Rattle.sync_terms.specs.Trees.{Tree}
use Rattle.sync_terms.specs.declared.nodes.FormId.{FormId}
use Rattle.sync_terms.specs.Stored.{Stored, formula, IsForm, Extends}
use Rattle.sync_terms.proofs.Extending.{Extends-trans}
use Rattle.sync_machine.specs.declared.machine.Invariant.{Invariant}
use Rattle.sync_machine.specs.Machines.{InvariantTree, OperationTree}
use Rattle.sync_machine.specs.Views.{invariant_tree, symbols_of}
use Rattle.sync_kernel_facts.specs.Facts.{Fact}
use Rattle.sync_terms.specs.declared.proofs.Claim.TheVariants as claims
use Rattle.sync_terms.specs.declared.proofs.Obligation.{Obligation}
use Rattle.sync_rules.specs.Obligations.{has_to_keep}
use Rattle.sync_induct.specs.declared.index.Title.{Title}
use Rattle.sync_induct.specs.declared.walks.Walk.{Walk}
use Rattle.sync_induct.specs.Checklist.{Check, Proves, proves}
use Rattle.sync_induct.specs.Checks.{duty_fault, checks_fault, duty_of}
use Rattle.sync_terms.specs.Proofs.{ProofTree}
use Rattle.sync_induct.specs.Duties.{Duty, closed_form, kept_duty, keeps_duties, IsProved}
use Rattle.sync_induct.specs.Titles.{title}
use Rattle.sync_induct.specs.Closing.{IsKeepable, AreWanted}
use Rattle.sync_induct.specs.Walks.{IsWalk, HasCome, values_of, known_of}
use Rattle.sync_induct.proofs.Lasting.{known-stays, as-come}
use Rattle.sync_induct.proofs.Remaining.{Remains, remains-same, remains-past_one, remains-refused_one}

module _ (s t : Stored) (e : Extends s t) (w : Walk) (walk : IsWalk s w) where
  module _ (claim : FormId) (o : Obligation) (i : InvariantTree) (is : formula t claim ≡ closed_form (values_of s w) i) where
    duty-is : duty_of t w.hyps claim o ≡ kept_duty o (known_of s w) (values_of s w) i
    duty-is = let facts = known-stays s t e w walk in λ j. record { obligation = o; facts = facts j; claim = is j }

    pub passes-kept : {A : Type 0} (r : Result A Stop) (ps : List ProofTree) → Passes r (duty_fault ps (duty_of t w.hyps claim o)) → Passes r (duty_fault ps (kept_duty o (known_of s w) (values_of s w) i))
    passes-kept r ps h = subst (λ (d : Duty). Passes r (duty_fault ps d)) duty-is h

    pub proved-kept : {A : Type 0} (r : Result A Stop) → OnOk r (IsProved (duty_of t w.hyps claim o)) → OnOk r (IsProved (kept_duty o (known_of s w) (values_of s w) i))
    proved-kept r h = subst (λ (d : Duty). OnOk r (IsProved d)) duty-is h

-- the duty of an invariant in a store that has grown
pub here-is : (s t : Stored) (w v : Walk) (op line number j : ℕ) (x : Invariant) → Extends s t → HasCome t v (known_of s w) (values_of s w) → IsForm s x.form → number ≡ j
    → kept_duty (record { op = op; claim = claims.Keeps number; line = line }) (known_of t v) (values_of t v) (invariant_tree t x) ≡ kept_duty (record { op = op; claim = claims.Keeps j; line = line }) (known_of s w) (values_of s w) (invariant_tree s x)
here-is s t w v op line number j x e come form n =
    let facts = come.known in
    let last = come.now in
    let same = (e.forms x.form form).1 in
    λ k. kept_duty (record { op = op; claim = claims.Keeps (n k); line = line }) (facts k) (last k) (record { name = x.name; params = symbols_of x.params; form = same k; line = x.line })

-- ---- the loop over invariants

-- what is left from the invariant with index j on
abbrev pub kept_from : Stored → OperationTree → ℕ → List Fact → List Tree → List Invariant → ℕ → List Check
kept_from s o op facts last xs j = proves (keeps_duties o op facts last j (map (invariant_tree s) (drop j xs)))

-- the checks of duties of which the first is there where b is
with-first : (b : Bool) (d : Duty) (ds : List Duty) → proves (cond b (d ∷ ds) ds) ≡ cond b (Proves d ∷ proves ds) (proves ds)
with-first true d ds = refl
with-first false d ds = refl

module _ (s : Stored) (o : OperationTree) (op : ℕ) (facts : List Fact) (last : List Tree) (xs : List Invariant) (j : ℕ) (x : Invariant) (lt : j < length xs) (is : x ≡ get_or xs j x) where
  abbrev pub duty_here : Duty
  duty_here = kept_duty (record { op = op; claim = claims.Keeps j; line = o.line }) facts last (invariant_tree s x)

  pub listed : slice_get (map (invariant_tree s) xs) j ≡ Some (invariant_tree s x)
  listed = slice_get-map (invariant_tree s) xs j ∙ ap (option_map (invariant_tree s)) (slice_get_read xs (length xs) j x refl lt is)

  from-here : kept_from s o op facts last xs j ≡ cond (has_to_keep o (invariant_tree s x)) (Proves duty_here ∷ kept_from s o op facts last xs (j + 1)) (kept_from s o op facts last xs (j + 1))
  unfolding keeps_duties
  from-here =
      ap proves (at_drop_more (λ (ys : List Invariant). keeps_duties o op facts last j (map (invariant_tree s) ys)) xs j x lt
      ∙ (λ k. cond (has_to_keep o (invariant_tree s (same k))) (kept_duty (record { op = op; claim = claims.Keeps j; line = o.line }) facts last (invariant_tree s (same k)) ∷ rest k) (rest k)))
      ∙ with-first (has_to_keep o (invariant_tree s x)) duty_here (keeps_duties o op facts last (j + 1) (map (invariant_tree s) (drop (j + 1) xs))) where
        same : get_or xs j x ≡ x
        same = sym is

        rest : keeps_duties o op facts last (suc j) (map (invariant_tree s) (drop (j + 1) xs)) ≡ keeps_duties o op facts last (j + 1) (map (invariant_tree s) (drop (j + 1) xs))
        rest = ap (λ (k : ℕ). keeps_duties o op facts last k (map (invariant_tree s) (drop (j + 1) xs))) (sym (add-one j))

  -- whether it is wanted
  pub wanted-is : (is_wanted : Title → Bool) (number : ℕ) (t : Title) (found b : Bool) → AreWanted is_wanted op o (map (invariant_tree s) xs) → number ≡ j → t ≡ title op (claims.Keeps number) → found ≡ is_wanted t → found ≡ b
      → has_to_keep o (invariant_tree s x) ≡ b
  wanted-is is_wanted number t found b wanted n t_is found_is b_is =
      sym (wanted j (invariant_tree s x) listed) ∙ (sym (found_is ∙ (ap is_wanted t_is ∙ ap (λ (k : ℕ). is_wanted (title op (claims.Keeps k))) n)) ∙ b_is)

  pub keepable-here : AllByRecursion (IsKeepable s) xs → IsKeepable s x
  keepable-here h = subst (IsKeepable s) (sym is) (All-get_or (IsKeepable s) xs j x lt (All-from_recursion (IsKeepable s) xs h))

  module _ (ps : List ProofTree) (all : List Check) (h : Remains ps all (kept_from s o op facts last xs j)) where
    pub kept-skipped : has_to_keep o (invariant_tree s x) ≡ false → Remains ps all (kept_from s o op facts last xs (j + 1))
    kept-skipped e = remains-same ps all (kept_from s o op facts last xs j) _ (from-here ∙ ap (λ (b : Bool). cond b (Proves duty_here ∷ kept_from s o op facts last xs (j + 1)) (kept_from s o op facts last xs (j + 1))) e) h

    wanted-here : has_to_keep o (invariant_tree s x) ≡ true → Remains ps all (Proves duty_here ∷ kept_from s o op facts last xs (j + 1))
    wanted-here e = remains-same ps all (kept_from s o op facts last xs j) _ (from-here ∙ ap (λ (b : Bool). cond b (Proves duty_here ∷ kept_from s o op facts last xs (j + 1)) (kept_from s o op facts last xs (j + 1))) e) h

    pub kept-passed : has_to_keep o (invariant_tree s x) ≡ true → duty_fault ps duty_here ≡ None → IsProved duty_here → Remains ps all (kept_from s o op facts last xs (j + 1))
    kept-passed e none proved = remains-past_one ps all (kept_from s o op facts last xs (j + 1)) (Proves duty_here) (wanted-here e) none proved

    pub kept-refused : (A B : Type 0) (stop : Stop) → has_to_keep o (invariant_tree s x) ≡ true → Passes {A = A} (Err stop) (duty_fault ps duty_here) → Passes {A = B} (Err stop) (checks_fault ps all)
    kept-refused A B stop e p = remains-refused_one A B stop ps all (kept_from s o op facts last xs (j + 1)) (Proves duty_here) (wanted-here e) p

pub kept-end : (s : Stored) (o : OperationTree) (op : ℕ) (facts : List Fact) (last : List Tree) (xs : List Invariant) (j : ℕ) (ps : List ProofTree) (all : List Check) → length xs ≤ j
    → Remains ps all (kept_from s o op facts last xs j) → Remains ps all []
unfolding keeps_duties
kept-end s o op facts last xs j ps all le h = remains-same ps all (kept_from s o op facts last xs j) [] (at_drop_all (λ (ys : List Invariant). proves (keeps_duties o op facts last j (map (invariant_tree s) ys))) xs j le) h

-- where the loop stands before the invariant with index j, over the store t, having begun over s
pub record IsKeeping (s t : Stored) (w v : Walk) (o : OperationTree) (op : ℕ) (xs : List Invariant) (ps : List ProofTree) (j : ℕ) : Type 0 where
  pub keeps : Extends s t
  pub come : HasCome t v (known_of s w) (values_of s w)
  pub left : Remains ps (kept_from s o op (known_of s w) (values_of s w) xs 0) (kept_from s o op (known_of s w) (values_of s w) xs j)

pub same-keeping : (s t t' : Stored) (w v v' : Walk) (o : OperationTree) (op : ℕ) (xs : List Invariant) (ps : List ProofTree) (j : ℕ) → t' ≡ t → v' ≡ v → IsKeeping s t w v o op xs ps j → IsKeeping s t' w v' o op xs ps j
same-keeping s t t' w v v' o op xs ps j e f h = subst (λ (u : Stored). IsKeeping s u w v' o op xs ps j) (sym e) (subst (λ (u : Walk). IsKeeping s t w u o op xs ps j) (sym f) h)

module _ (s t : Stored) (w v : Walk) (o : OperationTree) (op : ℕ) (xs : List Invariant) (ps : List ProofTree) (j number : ℕ) (x : Invariant) (lt : j < length xs) (is : x ≡ get_or xs j x) (n : number ≡ j)
    (keepable : AllByRecursion (IsKeepable s) xs) (h : IsKeeping s t w v o op xs ps j) where
  -- the duty as the loop meets it
  abbrev pub duty_met : Duty
  duty_met = kept_duty (record { op = op; claim = claims.Keeps number; line = o.line }) (known_of t v) (values_of t v) (invariant_tree t x)

  met-is : duty_met ≡ duty_here s o op (known_of s w) (values_of s w) xs j x lt is
  met-is = here-is s t w v op o.line number j x h.keeps h.come (keepable-here s o op (known_of s w) (values_of s w) xs j x lt is keepable).form n

  pub keeping-skips : has_to_keep o (invariant_tree s x) ≡ false → IsKeeping s t w v o op xs ps (j + 1)
  keeping-skips e = record {
    keeps = h.keeps;
    come = h.come;
    left = kept-skipped s o op (known_of s w) (values_of s w) xs j x lt is ps (kept_from s o op (known_of s w) (values_of s w) xs 0) h.left e;
  }

  pub keeping-passes : (u : Stored) (y : Walk) → has_to_keep o (invariant_tree s x) ≡ true → Extends t u → HasCome u y (known_of t v) (values_of t v) → duty_fault ps duty_met ≡ None → IsProved duty_met
      → IsKeeping s u w y o op xs ps (j + 1)
  keeping-passes u y e more come none proved = record {
    keeps = Extends-trans h.keeps more;
    come = as-come u y _ _ _ _ come h.come.known h.come.now;
    left = kept-passed s o op (known_of s w) (values_of s w) xs j x lt is ps (kept_from s o op (known_of s w) (values_of s w) xs 0) h.left e
        (subst (λ (d : Duty). duty_fault ps d ≡ None) met-is none) (subst IsProved met-is proved);
  }

  pub keeping-refused : (A B : Type 0) (stop : Stop) → has_to_keep o (invariant_tree s x) ≡ true → Passes {A = A} (Err stop) (duty_fault ps duty_met) → Passes {A = B} (Err stop) (checks_fault ps (kept_from s o op (known_of s w) (values_of s w) xs 0))
  keeping-refused A B stop e p =
      kept-refused s o op (known_of s w) (values_of s w) xs j x lt is ps (kept_from s o op (known_of s w) (values_of s w) xs 0) h.left A B stop e
      (subst (λ (d : Duty). Passes {A = A} (Err stop) (duty_fault ps d)) met-is p)
