-- How what an environment says goes on where the environment and the thread's state grow by one thing: symbols that are
-- still free, a fact, a word's value under a name, `wrap`, a proof name.
use Rattle.std.proofs.Common.{arith}
use Rattle.std.specs.Prelude.{◌≡◌, ℕ, ℤ, ◌<◌, ◌≤◌, ◌+◌, ◌*◌, Bool, true, false, not, ◌&&◌, if◌then◌else◌, nat_lt, nat_eq, List, [], ◌∷◌, ◌++◌, length, Option, Some, None, option_map, ◌⊎◌}
use Rattle.std.specs.List.{AllByRecursion}
use Rattle.std.proofs.Common.{inl, inr}
use Rattle.std.proofs.lemmas.Bool.{and_parts, and_from, or_cases, or_left, or_right, ltb-true, lt-ltb, ne_eqb}
use Rattle.std.proofs.lemmas.Bool.Decides.{eqb_tells}
use Rattle.sync_terms.specs.Symbols.{name_symbol}
use Rattle.sync_terms.specs.Trees.{Tree, Lit, Name, Add, Sub, Scale, Get, Has, Size, Sum, Nil, Put, Del, Bump, Formula, Le, Lt, Eq, Not, And, Or, Imp}
use Rattle.sync_terms.specs.Values.{Valuation, num, mapped, truth}
use Rattle.sync_machine.specs.Naming.{IsTextName, is_in}
use Rattle.sync_rules.specs.Locality.{names_only, form_names_only}
use Rattle.sync_kernel_facts.specs.Facts.{Fact}
use Rattle.sync_exchange.specs.Exchange.{held_as}
use Rattle.sync_thread.specs.Arrays.{name_limit}
use Rattle.sync_thread.specs.Code.{locals_of}
use Rattle.sync_thread.specs.Resting.{Round}
use Rattle.sync_thread_machine.specs.MachineWithProgram.{MachineWithProgram, fields_of}
use Rattle.sync_thread_machine.specs.ProgramSymbols.{wrap_symbol, first_fresh}
use Rattle.sync_thread_meaning.specs.Meaning.{World, annotated_language}
use Rattle.sync_thread_meaning.specs.Shares.{hand_of, proofs_of, wrap_of, named_value}
use Rattle.sync_typing.specs.Environments.{Env, TokenTree, know, name_as, use_up, stands as term_of}
use Rattle.sync_typing.specs.Lists.{assigned_locals}
use Rattle.sync_typing_laws.specs.Rests.{worth, IsKnown, IsScopedEnv, HasConstants, StandsAt, AgreeBelow, HasConstantsOf, is_lasting}
use Rattle.sync_typing_laws.specs.Ruling.{body_at}
use mathlib.Core.Path.{refl, sym, subst, ◌∙◌}
use Rattle.sync_typing_laws.specs.Standing.{Chain, SameConstants, Standing}

-- ---- terms that name what two valuations agree on

pub record AgreeOn (p : ℕ → Bool) (v w : Valuation) : Type 0 where
  pub numbers : (y : ℕ) → p y ≡ true → v.number y ≡ w.number y
  pub maps : (y : ℕ) → p y ≡ true → v.mapping y ≡ w.mapping y

module _ (p : ℕ → Bool) (v w : Valuation) (same : AgreeOn p v w) where
  mutual
    unfolding names_only

    pub num_same : (t : Tree) → names_only p t ≡ true → num v t ≡ num w t
    num_same (Lit n) is = refl
    num_same (Name x) is = same.numbers x is
    num_same (Add a b) is = let q = and_parts (names_only p a) (names_only p b) is in let ea = num_same a q.0 in let eb = num_same b q.1 in cc
    num_same (Sub a b) is = let q = and_parts (names_only p a) (names_only p b) is in let ea = num_same a q.0 in let eb = num_same b q.1 in cc
    num_same (Scale n a) is = let ea = num_same a is in cc
    num_same (Get a b) is = let q = and_parts (names_only p a) (names_only p b) is in let ea = map_same a q.0 in let eb = num_same b q.1 in cc
    num_same (Has a b) is = let q = and_parts (names_only p a) (names_only p b) is in let ea = map_same a q.0 in let eb = num_same b q.1 in cc
    num_same (Size a) is = let ea = map_same a is in cc
    num_same (Sum a) is = let ea = map_same a is in cc
    num_same Nil is = refl
    num_same (Put a b c) is = refl
    num_same (Del a b) is = refl
    num_same (Bump a b c) is = refl

    pub map_same : (t : Tree) → names_only p t ≡ true → mapped v t ≡ mapped w t
    map_same (Lit n) is = refl
    map_same (Name x) is = same.maps x is
    map_same (Add a b) is = refl
    map_same (Sub a b) is = refl
    map_same (Scale n a) is = refl
    map_same (Get a b) is = refl
    map_same (Has a b) is = refl
    map_same (Size a) is = refl
    map_same (Sum a) is = refl
    map_same Nil is = refl
    map_same (Put a b c) is = let q = and_parts (names_only p a && names_only p b) (names_only p c) is in let r = and_parts (names_only p a) (names_only p b) q.0 in
        let ea = map_same a r.0 in let eb = num_same b r.1 in let ec = num_same c q.1 in cc
    map_same (Del a b) is = let q = and_parts (names_only p a) (names_only p b) is in let ea = map_same a q.0 in let eb = num_same b q.1 in cc
    map_same (Bump a b c) is = let q = and_parts (names_only p a && names_only p b) (names_only p c) is in let r = and_parts (names_only p a) (names_only p b) q.0 in
        let ea = map_same a r.0 in let eb = num_same b r.1 in let ec = num_same c q.1 in cc

  pub truth_same : (f : Formula) → form_names_only p f ≡ true → truth v f ≡ truth w f
  unfolding truth form_names_only
  truth_same (Le a b) is = let q = and_parts (names_only p a) (names_only p b) is in let ea = num_same a q.0 in let eb = num_same b q.1 in cc
  truth_same (Lt a b) is = let q = and_parts (names_only p a) (names_only p b) is in let ea = num_same a q.0 in let eb = num_same b q.1 in cc
  truth_same (Eq a b) is = let q = and_parts (names_only p a) (names_only p b) is in let ea = num_same a q.0 in let eb = num_same b q.1 in cc
  truth_same (Not f) is = let ef = truth_same f is in cc
  truth_same (And f g) is = let q = and_parts (form_names_only p f) (form_names_only p g) is in let ef = truth_same f q.0 in let eg = truth_same g q.1 in cc
  truth_same (Or f g) is = let q = and_parts (form_names_only p f) (form_names_only p g) is in let ef = truth_same f q.0 in let eg = truth_same g q.1 in cc
  truth_same (Imp f g) is = let q = and_parts (form_names_only p f) (form_names_only p g) is in let ef = truth_same f q.0 in let eg = truth_same g q.1 in cc

module _ (p q : ℕ → Bool) (more : (y : ℕ) → p y ≡ true → q y ≡ true) where
  pub names_more : (t : Tree) → names_only p t ≡ true → names_only q t ≡ true
  unfolding names_only
  names_more (Lit n) is = refl
  names_more (Name x) is = more x is
  names_more (Add a b) is = let k = and_parts (names_only p a) (names_only p b) is in and_from (names_only q a) (names_only q b) (names_more a k.0) (names_more b k.1)
  names_more (Sub a b) is = let k = and_parts (names_only p a) (names_only p b) is in and_from (names_only q a) (names_only q b) (names_more a k.0) (names_more b k.1)
  names_more (Scale n a) is = names_more a is
  names_more (Get a b) is = let k = and_parts (names_only p a) (names_only p b) is in and_from (names_only q a) (names_only q b) (names_more a k.0) (names_more b k.1)
  names_more (Has a b) is = let k = and_parts (names_only p a) (names_only p b) is in and_from (names_only q a) (names_only q b) (names_more a k.0) (names_more b k.1)
  names_more (Size a) is = names_more a is
  names_more (Sum a) is = names_more a is
  names_more Nil is = refl
  names_more (Put a b c) is = let k = and_parts (names_only p a && names_only p b) (names_only p c) is in let j = and_parts (names_only p a) (names_only p b) k.0 in
      and_from (names_only q a && names_only q b) (names_only q c) (and_from (names_only q a) (names_only q b) (names_more a j.0) (names_more b j.1)) (names_more c k.1)
  names_more (Del a b) is = let k = and_parts (names_only p a) (names_only p b) is in and_from (names_only q a) (names_only q b) (names_more a k.0) (names_more b k.1)
  names_more (Bump a b c) is = let k = and_parts (names_only p a && names_only p b) (names_only p c) is in let j = and_parts (names_only p a) (names_only p b) k.0 in
      and_from (names_only q a && names_only q b) (names_only q c) (and_from (names_only q a) (names_only q b) (names_more a j.0) (names_more b j.1)) (names_more c k.1)

  pub form_more : (f : Formula) → form_names_only p f ≡ true → form_names_only q f ≡ true
  unfolding form_names_only
  form_more (Le a b) is = let k = and_parts (names_only p a) (names_only p b) is in and_from (names_only q a) (names_only q b) (names_more a k.0) (names_more b k.1)
  form_more (Lt a b) is = let k = and_parts (names_only p a) (names_only p b) is in and_from (names_only q a) (names_only q b) (names_more a k.0) (names_more b k.1)
  form_more (Eq a b) is = let k = and_parts (names_only p a) (names_only p b) is in and_from (names_only q a) (names_only q b) (names_more a k.0) (names_more b k.1)
  form_more (Not f) is = form_more f is
  form_more (And f g) is = let k = and_parts (form_names_only p f) (form_names_only p g) is in and_from (form_names_only q f) (form_names_only q g) (form_more f k.0) (form_more g k.1)
  form_more (Or f g) is = let k = and_parts (form_names_only p f) (form_names_only p g) is in and_from (form_names_only q f) (form_names_only q g) (form_more f k.0) (form_more g k.1)
  form_more (Imp f g) is = let k = and_parts (form_names_only p f) (form_names_only p g) is in and_from (form_names_only q f) (form_names_only q g) (form_more f k.0) (form_more g k.1)

-- ---- symbols that are in use

abbrev pub is_used : ℕ → ℕ → Bool
is_used next y = nat_lt y next

pub used_more : (a b : ℕ) → a ≤ b → (y : ℕ) → is_used a y ≡ true → is_used b y ≡ true
used_more a b below y is = let k = ltb-true y a is in lt-ltb y b (omega (arith, k, below))

lasting_more : (a b : ℕ) → a ≤ b → (y : ℕ) → is_lasting a y ≡ true → is_lasting b y ≡ true
lasting_more a b below y is = elim (or_cases (nat_eq y wrap_symbol) (not (nat_lt y first_fresh) && nat_lt y a) is) [
  | inl e ↦ or_left (nat_eq y wrap_symbol) (not (nat_lt y first_fresh) && nat_lt y b) e
  | inr e ↦ (let k = and_parts (not (nat_lt y first_fresh)) (nat_lt y a) e in
      or_right (nat_eq y wrap_symbol) (not (nat_lt y first_fresh) && nat_lt y b) (and_from (not (nat_lt y first_fresh)) (nat_lt y b) k.0 (used_more a b below y k.1)))
]

-- a symbol that lasts is in use
pub lasting_used : (next : ℕ) → first_fresh ≤ next → (y : ℕ) → is_lasting next y ≡ true → is_used next y ≡ true
lasting_used next beyond y is = elim (or_cases (nat_eq y wrap_symbol) (not (nat_lt y first_fresh) && nat_lt y next) is) [
  | inl e ↦ (elim (eqb_tells y wrap_symbol) [
    | inl same ↦ (let k : y ≡ 36 = same.1 in let far : 4194368 ≤ next = beyond in lt-ltb y next (omega (arith, k, far)))
    | inr other ↦ absurd (let no : true ≡ false = sym e ∙ other.0 in cc)
  ])
  | inr e ↦ (and_parts (not (nat_lt y first_fresh)) (nat_lt y next) e).1
]

used_agree : (next : ℕ) (v w : Valuation) → AgreeBelow next v w → AgreeOn (is_used next) v w
used_agree next v w is = record { numbers = λ y u. is.numbers y (ltb-true y next u); maps = λ y u. is.maps y (ltb-true y next u) }

pub num_below : (next : ℕ) (v w : Valuation) → AgreeBelow next v w → (t : Tree) → names_only (is_used next) t ≡ true → num v t ≡ num w t
num_below next v w is t names = num_same (is_used next) v w (used_agree next v w is) t names

pub truth_below : (next : ℕ) (v w : Valuation) → AgreeBelow next v w → (f : Formula) → form_names_only (is_used next) f ≡ true → truth v f ≡ truth w f
truth_below next v w is f names = truth_same (is_used next) v w (used_agree next v w is) f names

agree_less : (a b : ℕ) (v w : Valuation) → a ≤ b → AgreeBelow b v w → AgreeBelow a v w
agree_less a b v w below is = record { numbers = λ y u. is.numbers y (omega (arith, u, below)); maps = λ y u. is.maps y (omega (arith, u, below)) }

-- ---- what stands, under a valuation that is said

pub record At (x : MachineWithProgram) (known : Env) (t : ℕ) (v : Valuation) (e : Env) (round : List (Round annotated_language Env)) (s : World) : Type 0 where
  pub stands : StandsAt x (λ y. is_in y (assigned_locals (body_at x t) [])) v e t s
  pub same : HasConstantsOf known e
  pub unsaid : (y : ℕ) → y < name_limit → e.terms (name_symbol y) ≡ None → num v (Name (name_symbol y)) ≡ named_value (proofs_of s.shares t) (locals_of s.memory t) y
  pub lasting : names_only (is_lasting e.fresh) (term_of e wrap_symbol) ≡ true
  pub chain : Chain x known v e.fresh s round

pub at_standing : (x : MachineWithProgram) (known : Env) (t : ℕ) (e : Env) (round : List (Round annotated_language Env)) (s : World) → (is : Standing x known t e round s) → At x known t is.values e round s
at_standing x known t e round s is = record { stands = is.stands; same = is.same; unsaid = is.unsaid; lasting = is.lasting; chain = is.chain }

pub standing_at : (x : MachineWithProgram) (known : Env) (t : ℕ) (v : Valuation) (e : Env) (round : List (Round annotated_language Env)) (s : World) → At x known t v e round s → Standing x known t e round s
standing_at x known t v e round s is = record { values = v; stands = is.stands; same = is.same; unsaid = is.unsaid; lasting = is.lasting; chain = is.chain }

-- the constants have the same records
constants_go : (x : MachineWithProgram) (next : ℕ) (v w : Valuation) (e : Env) (s z : World) → AgreeBelow next v w → e.fresh ≤ next → SameConstants x s z → IsScopedEnv e → HasConstants x v e s → HasConstants x w e z
constants_go x next v w e s z agree below kept scoped has f lt is =
    let c = has f lt is in
    (c.0, c.1, sym (num_below e.fresh v w (agree_less e.fresh next v w below agree) c.0 (scoped.names f c.0 c.1)) ∙ c.2 ∙ sym (kept f lt is))

-- what forms round a place need stays
pub chain_goes : (x : MachineWithProgram) (known : Env) (v w : Valuation) (next more : ℕ) (s z : World) (round : List (Round annotated_language Env)) → AgreeBelow next v w → next ≤ more → SameConstants x s z → Chain x known v next s round → Chain x known w more z round
chain_goes x known v w next more s z [] agree below kept is = tt
chain_goes x known v w next more s z (form ∷ round) agree below kept (lasts, chain) =
    let early : form.env.fresh ≤ next = lasts.before in (
      record {
        scoped = lasts.scoped;
        constants = constants_go x next v w form.env s z agree early kept lasts.scoped lasts.constants;
        same = lasts.same;
        wrap = sym (num_below form.env.fresh v w (agree_less form.env.fresh next v w early agree) (term_of form.env wrap_symbol)
            (names_more (is_lasting form.env.fresh) (is_used form.env.fresh) (lasting_used form.env.fresh lasts.scoped.beyond) (term_of form.env wrap_symbol) lasts.lasting)) ∙ lasts.wrap;
        lasting = lasts.lasting;
        before = omega (arith, early, below);
      },
      chain_goes x known v w form.env.fresh form.env.fresh s z round (agree_less form.env.fresh next v w early agree) (omega arith) kept chain,
    )

-- ---- symbols that are still free come to stand for something

worth_same : (v w : Valuation) (t : TokenTree) → num v t.key ≡ num w t.key → num v t.value ≡ num w t.value → worth v t ≡ worth w t
worth_same v w t k n = cc

held_same : (v w : Valuation) (o : Option TokenTree) → ((t : TokenTree) → o ≡ Some t → worth v t ≡ worth w t) → option_map (worth v) o ≡ option_map (worth w) o
held_same v w None same = refl
held_same v w (Some t) same = let k = same t refl in cc

facts_go : (next : ℕ) (v w : Valuation) → AgreeBelow next v w → (fs : List Fact) → AllByRecursion (λ (f : Fact). form_names_only (is_used next) f.form ≡ true) fs → AllByRecursion (IsKnown v) fs → AllByRecursion (IsKnown w) fs
facts_go next v w agree [] scoped known = tt
facts_go next v w agree (f ∷ fs) scoped known = ((known.0.0, sym (truth_below next v w agree f.form scoped.0) ∙ known.0.1), facts_go next v w agree fs scoped.1 known.1)

facts_more : (a b : ℕ) → a ≤ b → (fs : List Fact) → AllByRecursion (λ (f : Fact). form_names_only (is_used a) f.form ≡ true) fs → AllByRecursion (λ (f : Fact). form_names_only (is_used b) f.form ≡ true) fs
facts_more a b below [] scoped = tt
facts_more a b below (f ∷ fs) scoped = (form_more (is_used a) (is_used b) (used_more a b below) f.form scoped.0, facts_more a b below fs scoped.1)

pub scoped_more : (e : Env) (n : ℕ) → IsScopedEnv e → IsScopedEnv (use_up n e)
scoped_more e n is =
    let below : e.fresh ≤ e.fresh + n = omega arith in
    let grow = names_more (is_used e.fresh) (is_used (e.fresh + n)) (used_more e.fresh (e.fresh + n) below) in
    record {
      names = λ y t k. grow t (is.names y t k);
      keys = λ m t k. grow t.key (is.keys m t k);
      values = λ m t k. grow t.value (is.values m t k);
      facts = facts_more e.fresh (e.fresh + n) below e.facts is.facts;
      said = is.said;
      beyond = (let far : first_fresh ≤ e.fresh = is.beyond in omega (arith, far, below));
    }

pub wrap_used : (x : MachineWithProgram) (known : Env) (t : ℕ) (v : Valuation) (e : Env) (round : List (Round annotated_language Env)) (s : World) → At x known t v e round s → names_only (is_used e.fresh) (term_of e wrap_symbol) ≡ true
wrap_used x known t v e round s is = names_more (is_lasting e.fresh) (is_used e.fresh) (lasting_used e.fresh is.stands.scoped.beyond) (term_of e wrap_symbol) is.lasting

pub fresher : (x : MachineWithProgram) (known : Env) (t : ℕ) (v w : Valuation) (n : ℕ) (e : Env) (round : List (Round annotated_language Env)) (s : World) → AgreeBelow e.fresh v w → At x known t v e round s → At x known t w (use_up n e) round s
fresher x known t v w n e round s agree is =
    let same = num_below e.fresh v w agree in
    let scoped = is.stands.scoped in
    record {
      stands = record {
        constants = λ f lt c. (let k = is.stands.constants f lt c in (k.0, k.1, sym (same k.0 (scoped.names f k.0 k.1)) ∙ k.2));
        names = λ y u k. sym (same u (scoped.names (name_symbol y) u k)) ∙ is.stands.names y u k;
        no_proofs = is.stands.no_proofs;
        wrap = sym (same (term_of e wrap_symbol) (wrap_used x known t v e round s is)) ∙ is.stands.wrap;
        hand = λ m. is.stands.hand m ∙ held_same v w (e.hand m) (λ u k. worth_same v w u (same u.key (scoped.keys m u k)) (same u.value (scoped.values m u k)));
        known = facts_go e.fresh v w agree e.facts scoped.facts is.stands.known;
        scoped = scoped_more e n scoped;
      };
      same = is.same;
      unsaid = λ y lt none. (let far : 4194368 ≤ e.fresh = scoped.beyond in sym (agree.numbers (name_symbol y) (omega (arith, lt, far))) ∙ is.unsaid y lt none);
      lasting = names_more (is_lasting e.fresh) (is_lasting (e.fresh + n)) (lasting_more e.fresh (e.fresh + n) (omega arith)) (term_of e wrap_symbol) is.lasting;
      chain = chain_goes x known v w e.fresh (e.fresh + n) s s round agree (omega arith) (λ f lt c. refl) is.chain;
    }

-- ---- more facts

pub all_both : {A : Type 0} (P : A → Type 0) (xs bs : List A) → AllByRecursion P xs → AllByRecursion P bs → AllByRecursion P (xs ++ bs)
all_both P [] bs a b = b
all_both P (y ∷ ys) bs a b = (a.0, all_both P ys bs a.1 b)

pub knows : (x : MachineWithProgram) (known : Env) (t : ℕ) (v : Valuation) (e : Env) (fs : List Fact) (round : List (Round annotated_language Env)) (s : World) → AllByRecursion (IsKnown v) fs → AllByRecursion (λ (f : Fact). form_names_only (is_used e.fresh) f.form ≡ true) fs
    → At x known t v e round s → At x known t v (know fs e) round s
knows x known t v e fs round s holds scoped is = record {
  stands = record {
    constants = is.stands.constants;
    names = is.stands.names;
    no_proofs = is.stands.no_proofs;
    wrap = is.stands.wrap;
    hand = is.stands.hand;
    known = all_both (IsKnown v) e.facts fs is.stands.known holds;
    scoped = record {
      names = is.stands.scoped.names;
      keys = is.stands.scoped.keys;
      values = is.stands.scoped.values;
      facts = all_both (λ (f : Fact). form_names_only (is_used e.fresh) f.form ≡ true) e.facts fs is.stands.scoped.facts scoped;
      said = is.stands.scoped.said;
      beyond = is.stands.scoped.beyond;
    };
  };
  same = is.same;
  unsaid = is.unsaid;
  lasting = is.lasting;
  chain = is.chain;
}

-- ---- a symbol comes to stand for a term

if_other : {A : Type 0} (y z : ℕ) (a b : A) → (y ≡ z → ⊥) → (if nat_eq y z then a else b) ≡ b
if_other y z a b apart = (let no = ne_eqb y z apart in cc)

-- what a term of an environment with one more name is
abbrev pub Said : Env → ℕ → Tree → ℕ → Tree → Type 0
Said e z t y u = ((y ≡ z) × (u ≡ t)) ⊎ ((y ≡ z → ⊥) × (e.terms y ≡ Some u))

pub said_is : (e : Env) (z : ℕ) (t : Tree) (y : ℕ) (u : Tree) → (name_as z t e).terms y ≡ Some u → Said e z t y u
said_is e z t y u is = elim (eqb_tells y z) [
  | inl same ↦ inl (same.1, (let k = same.0 in let j : Some t ≡ Some u = subst (λ b. (if b then Some t else e.terms y) ≡ Some u) k is in cc))
  | inr other ↦ inr (other.1, subst (λ b. (if b then Some t else e.terms y) ≡ Some u) other.0 is)
]

pub none_is : (e : Env) (z : ℕ) (t : Tree) (y : ℕ) → (name_as z t e).terms y ≡ None → (y ≡ z → ⊥) × (e.terms y ≡ None)
none_is e z t y is = elim (eqb_tells y z) [
  | inl same ↦ absurd (let j : Some t ≡ None = subst (λ b. (if b then Some t else e.terms y) ≡ None) same.0 is in cc)
  | inr other ↦ (other.1, subst (λ b. (if b then Some t else e.terms y) ≡ None) other.0 is)
]

pub scoped_named : (e : Env) (z : ℕ) (t : Tree) → names_only (is_used e.fresh) t ≡ true → ((z < 64) ⊎ IsTextName z) → IsScopedEnv e → IsScopedEnv (name_as z t e)
scoped_named e z t names name is = record {
  names = λ y u k. elim (said_is e z t y u k) [
    | inl here ↦ subst (λ d. names_only (is_used e.fresh) d ≡ true) (sym here.1) names
    | inr there ↦ is.names y u there.1
  ];
  keys = is.keys;
  values = is.values;
  facts = is.facts;
  said = λ y u k. elim (said_is e z t y u k) [
    | inl here ↦ subst (λ d. (d < 64) ⊎ IsTextName d) (sym here.0) name
    | inr there ↦ is.said y u there.1
  ];
  beyond = is.beyond;
}

constant_other : (x : MachineWithProgram) (v : Valuation) (e : Env) (z : ℕ) (t : Tree) (s r : World) → (32 ≤ z) → length (fields_of x) ≤ 32 → SameConstants x s r → HasConstants x v e s → HasConstants x v (name_as z t e) r
constant_other x v e z t s r far few kept has f lt is =
    let c = has f lt is in (c.0, if_other f z (Some t) (e.terms f) (λ k. omega (arith, lt, far, few, k)) ∙ c.1, c.2 ∙ sym (kept f lt is))

same_other : (known e : Env) (z : ℕ) (t : Tree) → 32 ≤ z → HasConstantsOf known e → HasConstantsOf known (name_as z t e)
same_other known e z t far has f lt = if_other f z (Some t) (e.terms f) (λ k. omega (arith, lt, far, k)) ∙ has f lt

-- what a state has to have that a name's value, as local or as proof name, is another
pub record NamedAnew (x : MachineWithProgram) (t y : ℕ) (n : ℤ) (s z : World) : Type 0 where
  pub kept : SameConstants x s z
  pub hand : hand_of z.shares t ≡ hand_of s.shares t
  pub wrap : wrap_of z.shares t ≡ wrap_of s.shares t
  pub here : named_value (proofs_of z.shares t) (locals_of z.memory t) y ≡ n
  pub others : (i : ℕ) → (i ≡ y → ⊥) → named_value (proofs_of z.shares t) (locals_of z.memory t) i ≡ named_value (proofs_of s.shares t) (locals_of s.memory t) i
  pub no_proofs : (i : ℕ) → is_in i (assigned_locals (body_at x t) []) ≡ true → proofs_of z.shares t i ≡ None

agree_same : (next : ℕ) (v : Valuation) → AgreeBelow next v v
agree_same next v = record { numbers = λ y u. refl; maps = λ y u. refl }

pub names_it : (x : MachineWithProgram) (known : Env) (t : ℕ) (v : Valuation) (e : Env) (y : ℕ) (u : Tree) (round : List (Round annotated_language Env)) (s z : World) → length (fields_of x) ≤ 32 → y < name_limit → names_only (is_used e.fresh) u ≡ true
    → NamedAnew x t y (num v u) s z → At x known t v e round s → At x known t v (name_as (name_symbol y) u e) round z
names_it x known t v e y u round s z few small names anew is = record {
  stands = record {
    constants = constant_other x v e (name_symbol y) u s z (omega arith) few anew.kept is.stands.constants;
    names = λ i w k. elim (said_is e (name_symbol y) u (name_symbol i) w k) [
      | inl here ↦ (let same : i ≡ y = (let j : 64 + 4 * i ≡ 64 + 4 * y = here.0 in omega (arith, j)) in
          subst (λ d. num v d ≡ named_value (proofs_of z.shares t) (locals_of z.memory t) i) (sym here.1) (subst (λ d. num v u ≡ named_value (proofs_of z.shares t) (locals_of z.memory t) d) (sym same) (sym anew.here)))
      | inr there ↦ is.stands.names i w there.1 ∙ sym (anew.others i (λ k2. there.0 (let j : i ≡ y = k2 in cc)))
    ];
    no_proofs = anew.no_proofs;
    wrap = subst (λ d. num v d ≡ wrap_of z.shares t) (sym wrap_stays) (is.stands.wrap ∙ sym anew.wrap);
    hand = λ m. subst (λ h. held_as m h ≡ option_map (worth v) (e.hand m)) (sym anew.hand) (is.stands.hand m);
    known = is.stands.known;
    scoped = scoped_named e (name_symbol y) u names (inr (y, refl, small)) is.stands.scoped;
  };
  same = same_other known e (name_symbol y) u (omega arith) is.same;
  unsaid = λ i lt none. (let k = none_is e (name_symbol y) u (name_symbol i) none in is.unsaid i lt k.1 ∙ sym (anew.others i (λ k2. k.0 (let j : i ≡ y = k2 in cc))));
  lasting = subst (λ d. names_only (is_lasting e.fresh) d ≡ true) (sym wrap_stays) is.lasting;
  chain = chain_goes x known v v e.fresh e.fresh s z round (agree_same e.fresh v) (omega arith) anew.kept is.chain;
} where
  wrap_stays : term_of (name_as (name_symbol y) u e) wrap_symbol ≡ term_of e wrap_symbol
  wrap_stays = let k = if_other wrap_symbol (name_symbol y) (Some u) (e.terms wrap_symbol) (λ k. omega (arith, k)) in cc

-- `wrap` is another
pub record WrappedAnew (x : MachineWithProgram) (t : ℕ) (n : ℤ) (s z : World) : Type 0 where
  pub kept : SameConstants x s z
  pub hand : hand_of z.shares t ≡ hand_of s.shares t
  pub wrap : wrap_of z.shares t ≡ n
  pub proofs : proofs_of z.shares t ≡ proofs_of s.shares t
  pub locals : locals_of z.memory t ≡ locals_of s.memory t

pub wraps_it : (x : MachineWithProgram) (known : Env) (t : ℕ) (v : Valuation) (e : Env) (u : Tree) (round : List (Round annotated_language Env)) (s z : World) → length (fields_of x) ≤ 32 → names_only (is_lasting e.fresh) u ≡ true
    → WrappedAnew x t (num v u) s z → At x known t v e round s → At x known t v (name_as wrap_symbol u e) round z
wraps_it x known t v e u round s z few names anew is = record {
  stands = record {
    constants = constant_other x v e wrap_symbol u s z (omega arith) few anew.kept is.stands.constants;
    names = λ i w k. elim (said_is e wrap_symbol u (name_symbol i) w k) [
      | inl here ↦ absurd (let j : 64 + 4 * i ≡ 36 = here.0 in omega (arith, j))
      | inr there ↦ is.stands.names i w there.1 ∙ named_stays i
    ];
    no_proofs = λ i a. subst (λ f. f i ≡ None) (sym anew.proofs) (is.stands.no_proofs i a);
    wrap = sym anew.wrap;
    hand = λ m. subst (λ h. held_as m h ≡ option_map (worth v) (e.hand m)) (sym anew.hand) (is.stands.hand m);
    known = is.stands.known;
    scoped = scoped_named e wrap_symbol u (names_more (is_lasting e.fresh) (is_used e.fresh) (lasting_used e.fresh is.stands.scoped.beyond) u names) (inl (omega arith)) is.stands.scoped;
  };
  same = same_other known e wrap_symbol u (omega arith) is.same;
  unsaid = λ i lt none. is.unsaid i lt (none_is e wrap_symbol u (name_symbol i) none).1 ∙ named_stays i;
  lasting = names;
  chain = chain_goes x known v v e.fresh e.fresh s z round (agree_same e.fresh v) (omega arith) anew.kept is.chain;
} where
  named_stays : (i : ℕ) → named_value (proofs_of s.shares t) (locals_of s.memory t) i ≡ named_value (proofs_of z.shares t) (locals_of z.memory t) i
  named_stays i = let p = anew.proofs in let l = anew.locals in cc
