-- A guarded clause that was not decided is decided as the row says.
use Rattle.std.specs.Prelude.{◌≡◌, ℕ, zero, suc, pos, ◌+◌, ◌<◌, ◌≤◌, Bool, true, false, ◌&&◌, ◌||◌, not, if◌then◌else◌, nat_eq, nat_lt, List, [], ◌∷◌, ◌++◌, length, map, flat_map, slice_get, slice_set, Option, Some, None, is_some, is_none, option_map, unwrap_or, Result, Ok}
use Rattle.std.specs.List.{list_all, list_any, AllByRecursion}
use Rattle.std.proofs.Common.{arith}
use Rattle.std.proofs.lemmas.Bool.{lt-ltb, eqb-true, eq-eqb, and_parts, false_from_ne_true}
use Rattle.std.proofs.lemmas.List.{get_or-set_same, length-map, map-append}
use Rattle.sync_base.specs.Outcome.{◌>>=◌, first}
use Rattle.sync_base.specs.declared.stops.Refusal.{Refusal}
use Rattle.sync_terms.specs.Trees.{Tree, Name, Formula, neg, replaced_in}
use Rattle.sync_terms.specs.Values.{Valuation, num, truth, Holds}
use Rattle.sync_kernel_facts.proofs.Truths.{cong_true, read_true, size_true, total_true}
use Rattle.sync_kernel_facts.specs.Laws.{AreTrue}
use Rattle.sync_machine.specs.Naming.{formula_fault, is_in}
use Rattle.sync_rules.specs.Locality.{names_only}
use Rattle.sync_kernel.proofs.Sound.{truth_neg}
use Rattle.sync_join.specs.Shards.{IsToken}
use Rattle.sync_join.specs.declared.tokens.Token.{Token}
use Rattle.sync_exchange.specs.Exchange.{held_as, tokens_in}
use Rattle.sync_exchange.specs.declared.hands.Held.{Held}
use Rattle.sync_thread.specs.Programs.{ScriptTree, CaseTree, ClauseTree, WordTree}
use Rattle.sync_thread_machine.specs.MachineWithProgram.{MachineWithProgram, fields_of}
use Rattle.sync_thread_meaning.specs.Meaning.{World}
use Rattle.sync_thread_meaning.specs.Shares.{Owned, Shares, token_list, guard_truth, is_of_form, Sight, WordAt, array_words, hand_of, with_hand, only_if, are_new, word_sight, owned_tokens}
use Rattle.sync_thread_meaning.specs.Sound.{clause_is_kept}
use Rattle.sync_thread_meaning.specs.Words.{OpenBlock, with_owned, case_taken, decided_case}
use Rattle.sync_typing.specs.Blocks.{AroundTree, Inside, in_word, shape_token, zipped, added_name, guard_dues, case_of, case_row, is_guarded}
use Rattle.sync_typing.specs.Dues.{are_apart, at_hand_due, new_names_due}
use Rattle.sync_typing.specs.Environments.{Env, on_some, hand_after, is_held, stands, held_value, token_named, take_in, TokenTree}
use Rattle.sync_typing.specs.Names.{are_apart_names, is_formula, if_there, shape_is_named, clause_is_named, known_in_word}
use Rattle.sync_typing_laws.proofs.BlocksBags.{all_at, all_set, each_index, tidy_moved}
use Rattle.sync_typing_laws.proofs.BlocksDecls.{word_named}
use Rattle.sync_typing_laws.proofs.BlocksRows.{ok_same, bind_ok, takes_in}
use Rattle.sync_typing_laws.proofs.BlocksTokens.{shape_worth, eq_turned, held_append, all_same, is_some_map, all_append, apart_append}
use Rattle.sync_typing_laws.proofs.BlocksWord.{term_is, form_is, form_seen, in_word_scoped, constant_low}
use Rattle.sync_typing_laws.proofs.LocalDues.{Met, row_met}
use Rattle.sync_typing_laws.proofs.Opening.{empty_apart, shape_scoped, set_get, none_is, low_unheld}
use Rattle.sync_typing_laws.specs.Rests.{IsTidy, IsApart, StandsAt, StandsOpen, HaveValues, IsKnown, IsScopedEnv, worth, clauses_are_half_kept}
use Rattle.sync_typing_laws.specs.Soundness.{HasNamedWords, CaseStands, world_with}
use mathlib.Core.Path.{refl, sym, ap, subst, ◌∙◌}

pub laws : AreTrue
laws = record { cong = cong_true; read = read_true; size = size_true; total = total_true }

-- ---- clauses of an open word

pub half_at : (v : Sight) (decided : List ℕ) (m : ℕ) (cs : List ClauseTree) (os : List (Option Token)) (n : ℕ) (c : ClauseTree) (g : Formula) → clauses_are_half_kept v m decided cs os ≡ true → slice_get cs n ≡ Some c → c.guard ≡ Some g → is_in (m + n) decided ≡ false
    → (o : Option Token) × (slice_get os n ≡ Some o) × (clause_is_kept v c o ≡ true)
half_at v decided m [] os n c g half is guard free = absurd (cc)
half_at v decided m (z ∷ cs) [] n c g half is guard free = absurd (cc)
half_at v decided m (z ∷ cs) (o ∷ os) zero c g half is guard free =
    let same : z ≡ c = cc in
    let a : is_some z.guard ≡ true = ap (λ (k : ClauseTree). is_some k.guard) same ∙ ap is_some guard in
    let b : is_in m decided ≡ false = (let f : m + 0 ≡ m = omega (arith) in sym (ap (λ k. is_in k decided) f) ∙ free) in
    let k = (and_parts (if is_some z.guard && not (is_in m decided) then clause_is_kept v z o else is_none o) (clauses_are_half_kept v (suc m) decided cs os) half).0 in
    (o, refl, subst (λ (y : ClauseTree). clause_is_kept v y o ≡ true) same (sym (ap (λ (y : Bool). if y then clause_is_kept v z o else is_none o) (both a b)) ∙ k)) where
      both : {p q : Bool} → p ≡ true → q ≡ false → (p && not q) ≡ true
      both e f = rw (e, f) refl
half_at v decided m (z ∷ cs) (o ∷ os) (suc n) c g half is guard free =
    half_at v decided (suc m) cs os n c g (and_parts (if is_some z.guard && not (is_in m decided) then clause_is_kept v z o else is_none o) (clauses_are_half_kept v (suc m) decided cs os) half).1 is guard
    (let f : m + suc n ≡ suc m + n = omega (arith) in sym (ap (λ k. is_in k decided) f) ∙ free)

other_number : (k n : ℕ) (decided : List ℕ) → (k ≡ n → ⊥) → is_in k (n ∷ decided) ≡ is_in k decided
other_number k n decided apart = ap (λ b. b || is_in k decided) (false_from_ne_true (nat_eq k n) (λ e. apart (eqb-true k n e)))

-- behind the clause nothing changes
half_more : (v : Sight) (decided : List ℕ) (n m : ℕ) (cs : List ClauseTree) (os : List (Option Token)) → n < m → clauses_are_half_kept v m decided cs os ≡ true → clauses_are_half_kept v m (n ∷ decided) cs os ≡ true
half_more v decided n m [] [] l half = refl
half_more v decided n m [] (o ∷ os) l half = half
half_more v decided n m (c ∷ cs) [] l half = half
half_more v decided n m (c ∷ cs) (o ∷ os) l half =
    let p = and_parts (if is_some c.guard && not (is_in m decided) then clause_is_kept v c o else is_none o) (clauses_are_half_kept v (suc m) decided cs os) half in
    let a = other_number m n decided (λ e. let f : m ≡ n = e in omega (arith)) in
    let b : (if is_some c.guard && not (is_in m (n ∷ decided)) then clause_is_kept v c o else is_none o) ≡ true = ap (λ y. if is_some c.guard && not y then clause_is_kept v c o else is_none o) a ∙ p.0 in
    let d = half_more v decided n (suc m) cs os (omega (arith)) p.1 in rw (b, d) refl

pub half_set : (v : Sight) (decided : List ℕ) (m n : ℕ) (cs : List ClauseTree) (os : List (Option Token)) → clauses_are_half_kept v m decided cs os ≡ true → clauses_are_half_kept v m ((m + n) ∷ decided) cs (slice_set os n None) ≡ true
half_set v decided m n [] [] half = refl
half_set v decided m zero [] (o ∷ os) half = half
half_set v decided m (suc n) [] (o ∷ os) half = half
half_set v decided m n (c ∷ cs) [] half = half
half_set v decided m zero (c ∷ cs) (o ∷ os) half =
    let p = and_parts (if is_some c.guard && not (is_in m decided) then clause_is_kept v c o else is_none o) (clauses_are_half_kept v (suc m) decided cs os) half in
    let f : m + 0 ≡ m = omega (arith) in
    let a : is_in m (m ∷ decided) ≡ true = ap (λ b. b || is_in m decided) (eq-eqb m m refl) in
    let d = half_more v decided m (suc m) cs os (omega (arith)) p.1 in
    subst (λ k. ((if is_some c.guard && not (is_in m (k ∷ decided)) then clause_is_kept v c None else true) && clauses_are_half_kept v (suc m) (k ∷ decided) cs os) ≡ true) (sym f)
    (subst (λ b. ((if is_some c.guard && not b then clause_is_kept v c None else true) && clauses_are_half_kept v (suc m) (m ∷ decided) cs os) ≡ true) (sym a) (none_there (is_some c.guard) (clause_is_kept v c None) d)) where
      none_there : {r : Bool} (p q : Bool) → r ≡ true → ((if p && false then q else true) && r) ≡ true
      none_there true q e = e
      none_there false q e = e
half_set v decided m (suc n) (c ∷ cs) (o ∷ os) half =
    let p = and_parts (if is_some c.guard && not (is_in m decided) then clause_is_kept v c o else is_none o) (clauses_are_half_kept v (suc m) decided cs os) half in
    let f : m + suc n ≡ suc m + n = omega (arith) in
    let a = other_number m (m + suc n) decided (λ e. let g : m ≡ m + suc n = e in omega (arith)) in
    let b : (if is_some c.guard && not (is_in m ((m + suc n) ∷ decided)) then clause_is_kept v c o else is_none o) ≡ true = ap (λ y. if is_some c.guard && not y then clause_is_kept v c o else is_none o) a ∙ p.0 in
    let d = subst (λ k. clauses_are_half_kept v (suc m) (k ∷ decided) cs (slice_set os n None) ≡ true) (sym f) (half_set v decided (suc m) n cs os p.1) in rw (b, d) refl

pub set_same : {X : Type 0} (xs : List X) (i : ℕ) (x : X) → slice_get xs i ≡ Some x → slice_set xs i x ≡ xs
set_same [] i x is = refl
set_same (z ∷ zs) zero x is = (let same : x ≡ z = cc in ap (λ y. y ∷ zs) same)
set_same (z ∷ zs) (suc i) x is = ap (λ ys. z ∷ ys) (set_same zs i x is)

-- ---- what a kept clause says of its token

pub kept_true : (v : Sight) (c : ClauseTree) (o : Option Token) → guard_truth v c.guard ≡ Some true → clause_is_kept v c o ≡ true → (t : Token) × (o ≡ Some t) × (is_of_form v c.shape t ≡ true)
kept_true v c (Some t) truth kept = (t, refl, (rw (truth) at kept))
kept_true v c None truth kept = absurd (let a : false ≡ true = (rw (truth) at kept) in cc)

pub kept_false : (v : Sight) (c : ClauseTree) (o : Option Token) → guard_truth v c.guard ≡ Some false → clause_is_kept v c o ≡ true → o ≡ None
kept_false v c (Some t) truth kept = absurd (let a : false ≡ true = (rw (truth) at kept) in cc)
kept_false v c None truth kept = refl

-- ---- the meaning of the statement

pub decides : (x : MachineWithProgram) (t : ℕ) (b : OpenBlock) (n : ℕ) (taken : Option ℕ) (scripts : List ScriptTree) (g : Shares) (p : WordAt) (o : Owned) (c : ClauseTree) (token : Option Token) (holds : Bool)
    → slice_get (array_words x.program.decls) b.number ≡ Some p → slice_get g.owned b.number ≡ Some o → slice_get p.word.clauses n ≡ Some c → slice_get o.tokens n ≡ Some token → is_some c.guard ≡ true → list_any (nat_eq (suc n)) b.decided ≡ false
    → guard_truth (word_sight (fields_of x) g.kept p b.around.old o.values) c.guard ≡ Some holds → decided_case x t b (record { clause = suc n; taken = taken; scripts = scripts }) g ≡ case_taken t b.number o n holds taken token g
decides x t b n taken scripts g p o c token holds e1 e2 e3 e4 e5 e6 e7 = rw (e1, e2, e3, e4, e5, e6, e7) refl

low_scoped : (e : Env) (y : ℕ) → y < 64 → IsScopedEnv e → (o : Option Tree) → e.terms y ≡ o → names_only (λ z. nat_lt z e.fresh) (unwrap_or (first o None) (Name y)) ≡ true
unfolding names_only
low_scoped e y l scoped None is = lt-ltb y e.fresh (let far = scoped.beyond in omega (arith))
low_scoped e y l scoped (Some u) is = scoped.names y u is

one_held : (m q : ℕ) (z : Token) → held_as m (record { name = q; token = z } ∷ []) ≡ (if nat_eq q m then Some z else None)
unfolding held_as
one_held m q z = ap (λ (b : Bool). if b then Some z else None) (eq_turned m q)

not_some : {A : Type 0} (o : Option A) → not (is_some o) ≡ true → o ≡ None
not_some None e = refl
not_some (Some a) e = absurd (cc)

-- ---- a clause is decided

have_get : (ps : List WordAt) (os : List Owned) (i : ℕ) (p : WordAt) (o : Owned) → HaveValues ps os → slice_get ps i ≡ Some p → slice_get os i ≡ Some o → length o.values ≡ length p.word.names
have_get [] os i p o have a b = absurd (cc)
have_get (q ∷ ps) [] i p o have a b = absurd (cc)
have_get (q ∷ ps) (z ∷ os) zero p o have a b = let same : q ≡ p = cc in let other : z ≡ o = cc in subst (λ (r : WordAt). length o.values ≡ length r.word.names) same (subst (λ (r : Owned). length r.values ≡ length q.word.names) other have.0)
have_get (q ∷ ps) (z ∷ os) (suc i) p o have a b = have_get ps os i p o have.1 a b

flat_set : (P : Token → Type 0) (os : List (Option Token)) (n : ℕ) (o : Option Token) → slice_get os n ≡ Some o → AllByRecursion P (flat_map token_list os) → AllByRecursion P (token_list o) × AllByRecursion P (flat_map token_list (slice_set os n None))
flat_set P os n o is all = (all_at P token_list os n o is all, all_set P token_list os n None all tt)

module _ (x : MachineWithProgram) (named : HasNamedWords x) (is_assigned : ℕ → Bool) (v : Valuation) (c : Inside) (index older newer : Tree) (t : ℕ) (s : World) (b : OpenBlock) (p : WordAt)
    (there : slice_get (array_words x.program.decls) b.number ≡ Some p) (is_index : num v index ≡ pos p.index) (is_older : num v older ≡ b.around.old) (is_newer : num v newer ≡ b.around.new)
    (scoped : (names_only (λ y. nat_lt y c.env.fresh) index && (names_only (λ y. nat_lt y c.env.fresh) older && names_only (λ y. nat_lt y c.env.fresh) newer)) ≡ true)
    (older_named : stands c.env 34 ≡ older) (newer_named : stands c.env 35 ≡ newer)
    (thread : t ≤ length x.program.threads) (tidy : IsTidy x s) (st : StandsAt x is_assigned v c.env t s) (old : ℕ) (was : b.around.old ≡ pos old) (owned : Owned) (owns : slice_get s.shares.owned b.number ≡ Some owned)
    (values : map (num v) c.withs ≡ owned.values) (withs_scoped : list_all (names_only (λ y. nat_lt y c.env.fresh)) c.withs ≡ true) (decided : c.decided ≡ b.decided)
    (kept : clauses_are_half_kept (word_sight (fields_of x) s.shares.kept p (pos old) owned.values) 1 c.decided p.word.clauses owned.tokens ≡ true)
    (n : ℕ) (cl : ClauseTree) (at : slice_get p.word.clauses n ≡ Some cl) (g : Formula) (guard : cl.guard ≡ Some g) (undecided : is_in (suc n) c.decided ≡ false) (scripts : List ScriptTree) where
  abbrev reads : ℕ → Tree
  reads = in_word c.env p.word index older c.withs

  abbrev sight : Sight
  sight = word_sight (fields_of x) s.shares.kept p (pos old) (map (num v) c.withs)

  many : length owned.values ≡ length p.word.names
  many = have_get (array_words x.program.decls) s.shares.owned b.number p owned tidy.values there owns

  with_many : length p.word.names ≡ length c.withs
  with_many = sym many ∙ sym (ap length values) ∙ length-map c.withs (num v)

  older_is : num v older ≡ pos old
  older_is = is_older ∙ was

  in_scope : (names_only (λ y. nat_lt y c.env.fresh) index ≡ true) × (names_only (λ y. nat_lt y c.env.fresh) older ≡ true) × (names_only (λ y. nat_lt y c.env.fresh) newer ≡ true)
  in_scope = let a = and_parts (names_only (λ y. nat_lt y c.env.fresh) index) _ scoped in let d = and_parts (names_only (λ y. nat_lt y c.env.fresh) older) _ a.1 in (a.0, d.0, d.1)

  clause_named : (shape_is_named x (known_in_word x p.word) cl.shape ≡ true) × (if_there (is_formula (known_in_word x p.word)) cl.guard ≡ true)
  clause_named = let a = and_parts _ _ (word_named x named.named b.number p there) in let d = and_parts (are_apart_names p.word.names) _ a.1 in let f = and_parts (list_all (clause_is_named x p.word) p.word.clauses) _ d.1 in
      and_parts (shape_is_named x (known_in_word x p.word) cl.shape) _ (each p.word.clauses n at f.0) where
        each : (cs : List ClauseTree) (n : ℕ) → slice_get cs n ≡ Some cl → list_all (clause_is_named x p.word) cs ≡ true → clause_is_named x p.word cl ≡ true
        each [] n is all = absurd (cc)
        each (z ∷ cs) zero is all = let same : z ≡ cl = cc in subst (λ (k : ClauseTree). clause_is_named x p.word k ≡ true) same (and_parts (clause_is_named x p.word z) (list_all (clause_is_named x p.word) cs) all).0
        each (z ∷ cs) (suc n) is all = each cs n is (and_parts (clause_is_named x p.word z) (list_all (clause_is_named x p.word) cs) all).1

  guard_named : formula_fault (known_in_word x p.word) g ≡ None
  guard_named = none_is (formula_fault (known_in_word x p.word) g) (subst (λ o. if_there (is_formula (known_in_word x p.word)) o ≡ true) guard clause_named.1)

  truth_is : guard_truth sight cl.guard ≡ Some (truth v (replaced_in reads g))
  truth_is = ap (guard_truth sight) guard ∙ ap (λ (z : Bool). if z then Some (truth sight.valuation g) else None) (form_seen x named.few_fields p.word g guard_named)
      ∙ ap Some (sym (form_is x named.few_fields v c.env s st.constants p index older c.withs (pos old) is_index older_is with_many g guard_named))

  half : clauses_are_half_kept sight 1 c.decided p.word.clauses owned.tokens ≡ true
  half = subst (λ vs. clauses_are_half_kept (word_sight (fields_of x) s.shares.kept p (pos old) vs) 1 c.decided p.word.clauses owned.tokens ≡ true) (sym values) kept

  has : (o : Option Token) × (slice_get owned.tokens n ≡ Some o) × (clause_is_kept sight cl o ≡ true)
  has = half_at sight c.decided 1 p.word.clauses owned.tokens n cl g half at guard (let f : 1 + n ≡ suc n = omega (arith) in ap (λ k. is_in k c.decided) f ∙ undecided)

  half_now : clauses_are_half_kept (word_sight (fields_of x) s.shares.kept p (pos old) owned.values) 1 (suc n ∷ c.decided) p.word.clauses (slice_set owned.tokens n None) ≡ true
  half_now = let f : 1 + n ≡ suc n = omega (arith) in subst (λ k. clauses_are_half_kept (word_sight (fields_of x) s.shares.kept p (pos old) owned.values) 1 (k ∷ c.decided) p.word.clauses (slice_set owned.tokens n None) ≡ true) f
      (half_set (word_sight (fields_of x) s.shares.kept p (pos old) owned.values) c.decided 1 n p.word.clauses owned.tokens kept)

  meaning : (taken : Option ℕ) (holds : Bool) → guard_truth sight cl.guard ≡ Some holds → decided_case x t b (record { clause = suc n; taken = taken; scripts = scripts }) s.shares ≡ case_taken t b.number owned n holds taken has.0 s.shares
  meaning taken holds is = decides x t b n taken scripts s.shares p owned cl has.0 holds there owns at has.1 (ap is_some guard) (sym (ap (list_any (nat_eq (suc n))) decided) ∙ undecided)
      (ap (λ z. guard_truth (word_sight (fields_of x) s.shares.kept p z owned.values) cl.guard) was ∙ ap (λ vs. guard_truth (word_sight (fields_of x) s.shares.kept p (pos old) vs) cl.guard) (sym values) ∙ is)

  abbrev Decided : Option ℕ → Env → Type 0
  Decided taken e = (h : Shares) × (decided_case x t b (record { clause = suc n; taken = taken; scripts = scripts }) s.shares ≡ Ok h) × IsTidy x (world_with s h)
      × StandsOpen x is_assigned v (record { env = e; withs = c.withs; decided = suc n ∷ c.decided }) (record { word = p.word; index = index; old = older; new = newer }) t (world_with s h) (record b { decided = suc n ∷ c.decided })

  pub decides_no : Holds v (neg (replaced_in reads g)) → Decided None c.env
  decides_no holds =
      let no : truth v (replaced_in reads g) ≡ false = not_true (truth v (replaced_in reads g)) (sym (truth_neg v (replaced_in reads g)) ∙ holds) in
      let none : has.0 ≡ None = kept_false sight cl has.0 (truth_is ∙ ap Some no) has.2 in (
        s.shares,
        meaning None false (truth_is ∙ ap Some no) ∙ ap (λ o. case_taken t b.number owned n false None o s.shares) none,
        tidy,
        record {
          stands = st;
          around = record { place = p; there = there; word = refl; index = is_index; old = is_older; new = is_newer; scoped = scoped; old_named = older_named; new_named = newer_named };
          old = old;
          was = was;
          owned = owned;
          owns = owns;
          values = values;
          scoped = withs_scoped;
          decided = refl;
          kept = subst (λ os. clauses_are_half_kept (word_sight (fields_of x) s.shares.kept p (pos old) owned.values) 1 (suc n ∷ c.decided) p.word.clauses os ≡ true) (set_same owned.tokens n None (has.1 ∙ ap Some none)) half_now;
        },
      ) where
        not_true : (z : Bool) → not z ≡ true → z ≡ false
        not_true true e = absurd (cc)
        not_true false e = refl

  abbrev env_with : ℕ → Env
  env_with q = record { terms = c.env.terms; hand = hand_after [] ((q, shape_token reads cl.shape) ∷ []) c.env.hand; facts = c.env.facts; fresh = c.env.fresh }

  reads_scoped : (y : ℕ) → is_some (known_in_word x p.word y) ≡ true → names_only (λ z. nat_lt z c.env.fresh) (reads y) ≡ true
  reads_scoped = in_word_scoped (λ z. nat_lt z c.env.fresh) x p.word c.env index older c.withs with_many withs_scoped in_scope.1 in_scope.0
      (λ y k. let l = constant_low x named.few_fields y k in let few = named.few_fields in stands_scoped y (omega (arith)) (low_unheld y (omega (arith)))) where
        stands_scoped : (y : ℕ) → y < 64 → token_named y ≡ None → names_only (λ z. nat_lt z c.env.fresh) (stands c.env y) ≡ true
        stands_scoped y l unheld = subst (λ u. names_only (λ z. nat_lt z c.env.fresh) u ≡ true) (sym (ap (λ o. unwrap_or (first (c.env.terms y) (held_value c.env.hand o)) (Name y)) unheld)) (low_scoped c.env y l st.scoped (c.env.terms y) refl)

  -- the token comes into the hand
  module _ (q : ℕ) (free : (list_all (λ m. not (is_held c.env m)) (q ∷ []) && are_apart (q ∷ [])) ≡ true) (holds : Holds v (replaced_in reads g)) where
    token : (z : Token) × (has.0 ≡ Some z) × (is_of_form sight cl.shape z ≡ true)
    token = kept_true sight cl has.0 (truth_is ∙ ap Some holds) has.2

    there_now : slice_get owned.tokens n ≡ Some (Some token.0)
    there_now = has.1 ∙ ap Some token.1

    is_token : IsToken (fields_of x) token.0
    is_token = (flat_set (IsToken (fields_of x)) owned.tokens n (Some token.0) there_now (all_at (IsToken (fields_of x)) owned_tokens s.shares.owned b.number owned owns (beside_tokens (flat_map tokens_in s.shares.hands) (flat_map owned_tokens s.shares.owned) s.shares.dust tidy.sound.shaped.tokens))).0.0 where
      beside_tokens : (hands owns dust : List Token) → AllByRecursion (IsToken (fields_of x)) (hands ++ (owns ++ dust)) → AllByRecursion (IsToken (fields_of x)) owns
      beside_tokens [] [] dust all = tt
      beside_tokens [] (o ∷ os) dust all = (all.0, beside_tokens [] os dust all.1)
      beside_tokens (h ∷ hs) os dust all = beside_tokens hs os dust all.1

    worth_is : worth v (shape_token reads cl.shape) ≡ token.0
    worth_is = shape_worth x named.few_fields (known_in_word x p.word) reads v sight (term_is x named.few_fields v c.env s st.constants p index older c.withs (pos old) is_index older_is with_many) cl.shape token.0 clause_named.0 is_token token.2

    are : are_new (q ∷ []) (hand_of s.shares t) ≡ true
    are = let a = and_parts (list_all (λ m. not (is_held c.env m)) (q ∷ [])) (are_apart (q ∷ [])) free in
        let d : list_all (λ m. is_none (held_as m (hand_of s.shares t))) (q ∷ []) ≡ true = all_same (λ m. is_none (held_as m (hand_of s.shares t))) (λ m. not (is_held c.env m)) (λ m. ap is_none (st.hand m) ∙ is_some_map (worth v) (c.env.hand m)) (q ∷ []) ∙ a.0 in d

    abbrev new : List Held
    new = record { name = q; token = token.0 } ∷ []

    abbrev given : Shares
    given = with_owned b.number (record owned { tokens = slice_set owned.tokens n None }) (with_hand t (hand_of s.shares t ++ new) s.shares)

    done : decided_case x t b (record { clause = suc n; taken = Some q; scripts = scripts }) s.shares ≡ Ok given
    done = meaning (Some q) true (truth_is ∙ ap Some holds) ∙ ap (λ o. case_taken t b.number owned n true (Some q) o s.shares) token.1 ∙ ap (λ z. only_if z (Ok given)) are

    still_tidy : IsTidy x (world_with s given)
    still_tidy = tidy_moved x s tidy t b.number (hand_of s.shares t ++ new) s.shares.proofs refl p there owned (record owned { tokens = slice_set owned.tokens n None }) owns many
        (apart_append (hand_of s.shares t) new (q ∷ []) refl are (each_index IsApart s.shares.hands t [] tidy.apart empty_apart))
        (λ P inhand inword. let k = flat_set P owned.tokens n (Some token.0) there_now inword in (subst (AllByRecursion P) (sym (map-append (λ (h : Held). h.token) (hand_of s.shares t) new)) (all_append P (tokens_in (hand_of s.shares t)) (tokens_in new) inhand k.0), k.1))

    held_now : (m : ℕ) → held_as m (hand_of given t) ≡ option_map (worth v) ((env_with q).hand m)
    held_now m = ap (held_as m) (get_or-set_same s.shares.hands t (hand_of s.shares t ++ new) [] (let l = tidy.hands in omega (arith))) ∙ held_append m (hand_of s.shares t) new ∙ ap (λ o. first o (held_as m new)) (st.hand m)
        ∙ ap (λ o. first (option_map (worth v) (c.env.hand m)) o) (one_held m q token.0) ∙ tested (nat_eq q m) refl where
          tested : (z : Bool) → nat_eq q m ≡ z → first (option_map (worth v) (c.env.hand m)) (if z then Some token.0 else None) ≡ option_map (worth v) (first (if nat_eq q m then Some (shape_token reads cl.shape) else None) (c.env.hand m))
          tested true is =
              let unheld : c.env.hand m ≡ None = (let a = (and_parts (not (is_held c.env q)) _ (and_parts (list_all (λ m. not (is_held c.env m)) (q ∷ [])) (are_apart (q ∷ [])) free).0).0 in
              subst (λ k. c.env.hand k ≡ None) (eqb-true q m is) (not_some (c.env.hand q) a)) in
              ap (λ o. first (option_map (worth v) o) (Some token.0)) unheld ∙ ap Some (sym worth_is) ∙ sym (ap (λ (z : Bool). option_map (worth v) (first (if z then Some (shape_token reads cl.shape) else None) (c.env.hand m))) is)
          tested false is = right (option_map (worth v) (c.env.hand m)) ∙ sym (ap (λ (z : Bool). option_map (worth v) (first (if z then Some (shape_token reads cl.shape) else None) (c.env.hand m))) is) where
            right : (o : Option Token) → first o None ≡ o
            right None = refl
            right (Some z) = refl

    tokens_scoped : (m : ℕ) (u : TokenTree) → (env_with q).hand m ≡ Some u → (names_only (λ z. nat_lt z c.env.fresh) u.key ≡ true) × (names_only (λ z. nat_lt z c.env.fresh) u.value ≡ true)
    tokens_scoped m u is = tested (nat_eq q m) is where
      tested : (z : Bool) → first (if z then Some (shape_token reads cl.shape) else None) (c.env.hand m) ≡ Some u → (names_only (λ z. nat_lt z c.env.fresh) u.key ≡ true) × (names_only (λ z. nat_lt z c.env.fresh) u.value ≡ true)
      tested true is = let same : shape_token reads cl.shape ≡ u = cc in subst (λ (r : TokenTree). (names_only (λ z. nat_lt z c.env.fresh) r.key ≡ true) × (names_only (λ z. nat_lt z c.env.fresh) r.value ≡ true)) same
          (shape_scoped (λ z. nat_lt z c.env.fresh) x p.word reads reads_scoped cl.shape clause_named.0)
      tested false is = (st.scoped.keys m u is, st.scoped.values m u is)

    pub decides_yes : Decided (Some q) (env_with q)
    decides_yes = (
      given,
      done,
      still_tidy,
      record {
        stands = record {
          constants = st.constants;
          names = st.names;
          no_proofs = st.no_proofs;
          wrap = st.wrap;
          hand = held_now;
          known = st.known;
          scoped = record { names = st.scoped.names; keys = λ m u is. (tokens_scoped m u is).0; values = λ m u is. (tokens_scoped m u is).1; facts = st.scoped.facts; said = st.scoped.said; beyond = st.scoped.beyond };
        };
        around = record { place = p; there = there; word = refl; index = is_index; old = is_older; new = is_newer; scoped = scoped; old_named = older_named; new_named = newer_named };
        old = old;
        was = was;
        owned = record owned { tokens = slice_set owned.tokens n None };
        owns = set_get s.shares.owned b.number owned _ owns;
        values = values;
        scoped = withs_scoped;
        decided = refl;
        kept = half_now;
      },
    )

-- what an accepted row says: where the token goes its name is new and the guard is true, else the guard's negation is
met : (x : MachineWithProgram) (line : ℕ) (v : Valuation) (a : AroundTree) (c : Inside) (cl : ClauseTree) (g : Formula) → cl.guard ≡ Some g → (taken : Option ℕ) (scripts : List ScriptTree) (e : Env) → AllByRecursion (IsKnown v) c.env.facts → case_of line a c cl taken scripts ≡ Ok e
    → ((list_all (λ m. not (is_held c.env m)) (added_name taken []) && are_apart (added_name taken [])) ≡ true) × AllByRecursion (Met v) (guard_dues (in_word c.env a.word a.index a.old c.withs) (Some g) (is_some taken))
    × (take_in line [] (zipped (added_name taken []) (shape_token (in_word c.env a.word a.index a.old c.withs) cl.shape ∷ [])) c.env ≡ Ok e)
met x line v a c cl g guard taken scripts e known is =
    let m = row_met laws v c.env line known (at_hand_due c.env [] [] scripts ∷ new_names_due c.env (added_name taken []) ∷ guard_dues (in_word c.env a.word a.index a.old c.withs) cl.guard (is_some taken)) scripts (take_in line [] (zipped (added_name taken []) (shape_token (in_word c.env a.word a.index a.old c.withs) cl.shape ∷ [])) c.env) e is in
    (m.0.1.0, subst (λ o. AllByRecursion (Met v) (guard_dues (in_word c.env a.word a.index a.old c.withs) o (is_some taken))) guard m.0.1.1, m.1)

module _ (x : MachineWithProgram) (named : HasNamedWords x) (is_assigned : ℕ → Bool) (v : Valuation) (c : Inside) (a : AroundTree) (t : ℕ) (s : World) (b : OpenBlock) (thread : t ≤ length x.program.threads) (tidy : IsTidy x s) (so : StandsOpen x is_assigned v c a t s b) where
  abbrev there_around : AroundTree
  there_around = record { word = so.around.place.word; index = a.index; old = a.old; new = a.new }

  same : there_around ≡ a
  same = ap (λ (w : WordTree). let r : AroundTree = record { word = w; index = a.index; old = a.old; new = a.new } in r) (sym so.around.word)

  abbrev Decides : CaseTree → Inside → AroundTree → Type 0
  Decides form d z = (h : Shares) × (decided_case x t b form s.shares ≡ Ok h) × IsTidy x (world_with s h) × StandsOpen x is_assigned v d z t (world_with s h) (record b { decided = d.decided })

  by_number : (line n : ℕ) (taken : Option ℕ) (scripts : List ScriptTree) → is_guarded so.around.place.word (suc n) ≡ true → is_in (suc n) c.decided ≡ false → (d : Inside) → case_row line there_around (record { clause = suc n; taken = taken; scripts = scripts }) c ≡ Ok d
      → (o : Option ClauseTree) → slice_get so.around.place.word.clauses n ≡ o → Decides (record { clause = suc n; taken = taken; scripts = scripts }) d there_around
  by_number line n taken scripts guarded free d row None at = absurd (let e : on_some (slice_get so.around.place.word.clauses n) false (λ (k : ClauseTree). is_some k.guard) ≡ true = (and_parts (nat_lt 0 (suc n)) _ guarded).1 in
      let f : false ≡ true = subst (λ o. on_some o false (λ (k : ClauseTree). is_some k.guard) ≡ true) at e in cc)
  by_number line n taken scripts guarded free d row (Some cl) at = by_guard cl.guard refl (subst (λ o. on_some o false (λ (k : ClauseTree). is_some k.guard) ≡ true) at (and_parts (nat_lt 0 (suc n)) (on_some (slice_get so.around.place.word.clauses n) false (λ (k : ClauseTree). is_some k.guard)) guarded).1) where
    by_guard : (o : Option Formula) → cl.guard ≡ o → is_some cl.guard ≡ true → Decides (record { clause = suc n; taken = taken; scripts = scripts }) d there_around
    by_guard None guard is = absurd (let f : false ≡ true = sym (ap is_some guard) ∙ is in cc)
    by_guard (Some g) guard is = by_taken taken (bind_ok (case_of line there_around (record c { decided = suc n ∷ c.decided }) cl taken scripts) (λ (e : Env). Ok (record { env = e; withs = c.withs; decided = suc n ∷ c.decided })) d
        (subst (λ o. on_some o (Ok c) (λ (k : ClauseTree). case_of line there_around (record c { decided = suc n ∷ c.decided }) k taken scripts >>= (λ (e : Env). Ok (record { env = e; withs = c.withs; decided = suc n ∷ c.decided }))) ≡ Ok d) at row)) where
          by_taken : (given : Option ℕ) → (e : Env) × (case_of line there_around (record c { decided = suc n ∷ c.decided }) cl given scripts ≡ Ok e) × ((let r : Result Inside Refusal = Ok (record { env = e; withs = c.withs; decided = suc n ∷ c.decided }) in r) ≡ Ok d)
              → Decides (record { clause = suc n; taken = given; scripts = scripts }) d there_around
          by_taken None made = let m = met x line v there_around (record c { decided = suc n ∷ c.decided }) cl g guard None scripts made.0 so.stands.known made.1 in
              let r = decides_no x named is_assigned v c a.index a.old a.new t s b so.around.place so.around.there so.around.index so.around.old so.around.new so.around.scoped so.around.old_named so.around.new_named thread tidy so.stands so.old so.was so.owned so.owns so.values so.scoped so.decided so.kept
              n cl at g guard free scripts m.1.0 in
              let e1 : made.0 ≡ c.env = takes_in line [] [] c.env made.0 m.2 in
              let e2 : record { env = c.env; withs = c.withs; decided = suc n ∷ c.decided } ≡ d = ap (λ (e : Env). let z : Inside = record { env = e; withs = c.withs; decided = suc n ∷ c.decided } in z) (sym e1) ∙ ok_same _ d made.2 in
              subst (λ (z : Inside). Decides (record { clause = suc n; taken = None; scripts = scripts }) z there_around) e2 r
          by_taken (Some q) made = let m = met x line v there_around (record c { decided = suc n ∷ c.decided }) cl g guard (Some q) scripts made.0 so.stands.known made.1 in
              let r = decides_yes x named is_assigned v c a.index a.old a.new t s b so.around.place so.around.there so.around.index so.around.old so.around.new so.around.scoped so.around.old_named so.around.new_named thread tidy so.stands so.old so.was so.owned so.owns so.values so.scoped so.decided so.kept
              n cl at g guard free scripts q m.0 m.1.0 in
              let e1 = takes_in line [] ((q, shape_token (in_word c.env so.around.place.word a.index a.old c.withs) cl.shape) ∷ []) c.env made.0 m.2 in
              let e2 = ap (λ (e : Env). let z : Inside = record { env = e; withs = c.withs; decided = suc n ∷ c.decided } in z) (sym e1) ∙ ok_same _ d made.2 in
              subst (λ (z : Inside). Decides (record { clause = suc n; taken = Some q; scripts = scripts }) z there_around) e2 r

  by_clause : (line n : ℕ) (taken : Option ℕ) (scripts : List ScriptTree) → is_guarded so.around.place.word n ≡ true → is_in n c.decided ≡ false → (d : Inside) → case_row line there_around (record { clause = n; taken = taken; scripts = scripts }) c ≡ Ok d
      → Decides (record { clause = n; taken = taken; scripts = scripts }) d there_around
  by_clause line zero taken scripts guarded free d row = absurd (let f : false ≡ true = guarded in cc)
  by_clause line (suc n) taken scripts guarded free d row = by_number line n taken scripts guarded free d row (slice_get so.around.place.word.clauses n) refl

  pub decides_all : (line : ℕ) (form : CaseTree) → is_guarded a.word form.clause ≡ true → is_in form.clause c.decided ≡ false → (d : Inside) → case_row line a form c ≡ Ok d → Decides form d a
  decides_all line form guarded free d row = subst (λ (z : AroundTree). Decides form d z) same
      (by_clause line form.clause form.taken form.scripts (subst (λ w. is_guarded w form.clause ≡ true) so.around.word guarded) free d (subst (λ (z : AroundTree). case_row line z form c ≡ Ok d) (sym same) row))

pub case_stands : CaseStands
case_stands x named is_assigned v c a t s b thread tidy so line form proof guarded free d row = decides_all x named is_assigned v c a t s b thread tidy so line form guarded free d row
