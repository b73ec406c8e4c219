-- What a keep names before a step is at hand after the step.
use Rattle.std.specs.Prelude.{◌≡◌, ℕ, ◌+◌, ℤ, Bool, true, false, ◌&&◌, ◌||◌, if◌then◌else◌, nat_lt, nat_eq, List, [], ◌∷◌, map, Option, Some, None, is_some, Ok, Err}
use Rattle.std.specs.List.{list_all}
use Rattle.std.proofs.lemmas.Bool.{or_right}
use Rattle.sync_base.specs.Outcome.{◌>>=◌}
use Rattle.sync_base.specs.declared.stops.Rule.TheVariants.{K8}
use Rattle.sync_terms.specs.Symbols.{name_symbol}
use Rattle.sync_terms.specs.Trees.{most_nodes, Tree, Lit, Name, Add, Sub, Scale, Get, Has, Size, Sum, Nil, Put, Del, Bump, Formula, Le, Lt, Eq, Not, And, Or, Imp, neg, tree_size, formula_size}
use Rattle.sync_machine.specs.Naming.{is_in}
use Rattle.sync_rules.specs.Locality.{names_only, form_names_only}
use Rattle.sync_thread.specs.Programs.{KeepTree, KeepLineTree, KeepFactTree, AtomicTree}
use Rattle.sync_thread.specs.declared.operands.WordOp.{WordOp}
use Rattle.sync_thread_machine.specs.ProgramSymbols.{old_symbol, new_symbol, wrap_symbol, symbols, held_of}
use Rattle.sync_typing.specs.Environments.{Env, Outcome, refused, fits, bounds, know, name_as, use_up, bind, tell, top}
use Rattle.sync_typing.specs.Keeps.{option_all, keep_names_only, is_at_hand_in, own_tokens}
use Rattle.sync_typing.specs.Lists.{new_value, step_fact, assign_if, stepped, both_fit}
use Rattle.sync_thread.specs.declared.operands.WordOp.TheVariants as op
use mathlib.Core.Path.{refl, sym, subst}

-- ---- predicates that pass more

both_grow : (a b c d : Bool) → (a ≡ true → c ≡ true) → (b ≡ true → d ≡ true) → (a && b) ≡ true → (c && d) ≡ true
both_grow true b c d f g is = subst (λ z. (z && d) ≡ true) (sym (f refl)) (g is)
both_grow false b c d f g is = let no : false ≡ true = is in cc

one_grows : (a b c d : Bool) → (a ≡ true → c ≡ true) → (b ≡ true → d ≡ true) → (a || b) ≡ true → (c || d) ≡ true
one_grows true b c d f g is = subst (λ z. (z || d) ≡ true) (sym (f refl)) refl
one_grows false b c d f g is = or_right c d (g is)

pub all_grow : {A : Type 0} (p q : A → Bool) → ((x : A) → p x ≡ true → q x ≡ true) → (xs : List A) → list_all p xs ≡ true → list_all q xs ≡ true
all_grow p q more [] is = refl
all_grow p q more (x ∷ xs) is = both_grow (p x) (list_all p xs) (q x) (list_all q xs) (more x) (all_grow p q more xs) is

option_grows : {A : Type 0} (p q : A → Bool) → ((x : A) → p x ≡ true → q x ≡ true) → (o : Option A) → option_all p o ≡ true → option_all q o ≡ true
option_grows p q more None is = refl
option_grows p q more (Some x) is = more x is

names_grow : (p q : ℕ → Bool) → ((x : ℕ) → p x ≡ true → q x ≡ true) → (t : Tree) → names_only p t ≡ true → names_only q t ≡ true
unfolding names_only
names_grow p q more (Lit n) is = refl
names_grow p q more (Name x) is = more x is
names_grow p q more (Add a b) is = both_grow (names_only p a) (names_only p b) (names_only q a) (names_only q b) (names_grow p q more a) (names_grow p q more b) is
names_grow p q more (Sub a b) is = both_grow (names_only p a) (names_only p b) (names_only q a) (names_only q b) (names_grow p q more a) (names_grow p q more b) is
names_grow p q more (Scale n a) is = names_grow p q more a is
names_grow p q more (Get a b) is = both_grow (names_only p a) (names_only p b) (names_only q a) (names_only q b) (names_grow p q more a) (names_grow p q more b) is
names_grow p q more (Has a b) is = both_grow (names_only p a) (names_only p b) (names_only q a) (names_only q b) (names_grow p q more a) (names_grow p q more b) is
names_grow p q more (Size a) is = names_grow p q more a is
names_grow p q more (Sum a) is = names_grow p q more a is
names_grow p q more Nil is = refl
names_grow p q more (Put a b c) is = both_grow (names_only p a && names_only p b) (names_only p c) (names_only q a && names_only q b) (names_only q c)
    (both_grow (names_only p a) (names_only p b) (names_only q a) (names_only q b) (names_grow p q more a) (names_grow p q more b)) (names_grow p q more c) is
names_grow p q more (Del a b) is = both_grow (names_only p a) (names_only p b) (names_only q a) (names_only q b) (names_grow p q more a) (names_grow p q more b) is
names_grow p q more (Bump a b c) is = both_grow (names_only p a && names_only p b) (names_only p c) (names_only q a && names_only q b) (names_only q c)
    (both_grow (names_only p a) (names_only p b) (names_only q a) (names_only q b) (names_grow p q more a) (names_grow p q more b)) (names_grow p q more c) is

form_grows : (p q : ℕ → Bool) → ((x : ℕ) → p x ≡ true → q x ≡ true) → (f : Formula) → form_names_only p f ≡ true → form_names_only q f ≡ true
unfolding form_names_only
form_grows p q more (Le a b) is = both_grow (names_only p a) (names_only p b) (names_only q a) (names_only q b) (names_grow p q more a) (names_grow p q more b) is
form_grows p q more (Lt a b) is = both_grow (names_only p a) (names_only p b) (names_only q a) (names_only q b) (names_grow p q more a) (names_grow p q more b) is
form_grows p q more (Eq a b) is = both_grow (names_only p a) (names_only p b) (names_only q a) (names_only q b) (names_grow p q more a) (names_grow p q more b) is
form_grows p q more (Not f) is = form_grows p q more f is
form_grows p q more (And f g) is = both_grow (form_names_only p f) (form_names_only p g) (form_names_only q f) (form_names_only q g) (form_grows p q more f) (form_grows p q more g) is
form_grows p q more (Or f g) is = both_grow (form_names_only p f) (form_names_only p g) (form_names_only q f) (form_names_only q g) (form_grows p q more f) (form_grows p q more g) is
form_grows p q more (Imp f g) is = both_grow (form_names_only p f) (form_names_only p g) (form_names_only q f) (form_names_only q g) (form_grows p q more f) (form_grows p q more g) is

keep_grows : (p q : ℕ → Bool) → ((x : ℕ) → p x ≡ true → q x ≡ true) → (k : KeepTree) → keep_names_only p k ≡ true → keep_names_only q k ≡ true
keep_grows p q more k is = both_grow (list_all (line p) k.lines) (list_all (fact p) k.facts) (list_all (line q) k.lines) (list_all (fact q) k.facts)
    (all_grow (line p) (line q) (λ l. both_grow (option_all (names_only p) l.shape.key) (option_all (names_only p) l.shape.value) (option_all (names_only q) l.shape.key) (option_all (names_only q) l.shape.value)
    (option_grows (names_only p) (names_only q) (names_grow p q more) l.shape.key) (option_grows (names_only p) (names_only q) (names_grow p q more) l.shape.value)) k.lines)
    (all_grow (fact p) (fact q) (λ f. form_grows p q more f.form) k.facts) is where
      line : (ℕ → Bool) → KeepLineTree → Bool
      line r l = option_all (names_only r) l.shape.key && option_all (names_only r) l.shape.value

      fact : (ℕ → Bool) → KeepFactTree → Bool
      fact r f = form_names_only r f.form

-- ---- what is said stays said

abbrev pub Grows : Env → Env → Type 0
Grows e now = (y : ℕ) → is_some (e.terms y) ≡ true → is_some (now.terms y) ≡ true

abbrev pub Keeping : Env → Outcome Env → Type 0
Keeping e o = (now : Env) → o ≡ Ok now → Grows e now

pub at_hand_grows : (e now : Env) → Grows e now → (k : KeepTree) → keep_names_only (is_at_hand_in e.terms k) k ≡ true → keep_names_only (is_at_hand_in now.terms k) k ≡ true
at_hand_grows e now grows k is = keep_grows (is_at_hand_in e.terms k) (is_at_hand_in now.terms k) (λ x. one_grows (nat_lt x 64) (is_some (e.terms x) || own x) (nat_lt x 64) (is_some (now.terms x) || own x) (λ y. y)
    (one_grows (is_some (e.terms x)) (own x) (is_some (now.terms x)) (own x) (grows x) (λ y. y))) k is where
      own : ℕ → Bool
      own x = is_in x (symbols k.names) || is_in x (map held_of (own_tokens k))

ok_keeping : (e now : Env) → Grows e now → Keeping e (Ok now)
ok_keeping e now grows other is = subst (λ o. Grows e (from now o)) is grows where
  from : Env → Outcome Env → Env
  from d (Ok x) = x
  from d (Err r) = d

fits_keeping : (line n : ℕ) (e : Env) (o : Outcome Env) → Keeping e o → Keeping e (fits line n o)
fits_keeping line n e o keeping = tested (nat_lt most_nodes n) where
  tested : (b : Bool) → Keeping e (if b then refused line K8 else o)
  tested true now is y said = let no : Err _ ≡ Ok now = is in cc
  tested false now is y said = keeping now is y said

then_keeping : (e : Env) (o : Outcome Env) (f : Env → Outcome Env) → Keeping e o → ((m : Env) → Keeping m (f m)) → Keeping e (o >>= f)
then_keeping e (Ok m) f keeping later now is y said = later m now is y (keeping m refl y said)
then_keeping e (Err r) f keeping later now is y said = let no : Err r ≡ Ok now = is in cc

named_grows : (x : ℕ) (t : Tree) (e : Env) → Grows e (name_as x t e)
named_grows x t e y said = tested (nat_eq y x) where
  tested : (b : Bool) → is_some (if b then Some t else e.terms y) ≡ true
  tested true = refl
  tested false = said

bind_keeping : (line x : ℕ) (t : Tree) (high : ℤ) (e : Env) → Keeping e (bind line x t high e)
bind_keeping line x t high e = fits_keeping line (tree_size t + 2) e (Ok (know (bounds x t high) (name_as x t e))) (ok_keeping e (know (bounds x t high) (name_as x t e)) (named_grows x t e))

tell_keeping : (line : ℕ) (label : Option ℕ) (f : Formula) (e : Env) → Keeping e (tell line label f e)
tell_keeping line None f e = ok_keeping e e (λ y said. said)
tell_keeping line (Some h) f e = fits_keeping line (formula_size f) e (Ok _) (ok_keeping e _ (λ y said. said))

fact_keeping : (line : ℕ) (e : Env) (o : WordOp) (label : Option ℕ) (now : Env) → Keeping now (step_fact line e o label now)
fact_keeping line e (op.Add a) label now = then_keeping now _ _ (bind_keeping line wrap_symbol _ _ now) (λ m. tell_keeping line label _ m)
fact_keeping line e (op.Sub a) label now = then_keeping now _ _ (bind_keeping line wrap_symbol _ _ now) (λ m. tell_keeping line label _ m)
fact_keeping line e (op.Cas a b) label now = tell_keeping line label _ now
fact_keeping line e op.Load label now = ok_keeping now now (λ y said. said)
fact_keeping line e (op.Store a) label now = ok_keeping now now (λ y said. said)
fact_keeping line e (op.Swap a) label now = ok_keeping now now (λ y said. said)

assign_keeping : (line : ℕ) (x : Option ℕ) (t : Tree) (e now : Env) → Grows e now → Keeping e (assign_if line x t now)
assign_keeping line None t e now grows end is y said = ok_keeping e now grows end is y said
assign_keeping line (Some x) t e now grows end is y said = bind_keeping line (name_symbol x) t top now end is y (grows y said)

-- an operation on a word forgets no name
stepped_keeping : (line : ℕ) (a : AtomicTree) (e : Env) → Keeping e (stepped line a e)
stepped_keeping line a e = then_keeping e (bind line old_symbol (Name e.fresh) top e >>= bind line new_symbol (new_value e a.op) top >>= step_fact line e a.op a.label) (λ now. assign_if line a.local (Name e.fresh) (use_up 3 now))
    (then_keeping e (bind line old_symbol (Name e.fresh) top e >>= bind line new_symbol (new_value e a.op) top) (step_fact line e a.op a.label)
    (then_keeping e (bind line old_symbol (Name e.fresh) top e) (bind line new_symbol (new_value e a.op) top) (bind_keeping line old_symbol (Name e.fresh) top e) (λ m. bind_keeping line new_symbol (new_value e a.op) top m))
    (λ m. fact_keeping line e a.op a.label m))
    (λ m. assign_keeping line a.local (Name e.fresh) m (use_up 3 m) (λ y said. said))

both_keeping : (line : ℕ) (label : Option ℕ) (f : Formula) (e : Env) → Keeping e (both_fit line label f (Ok e))
both_keeping line None f e = ok_keeping e e (λ y said. said)
both_keeping line (Some h) f e = fits_keeping line (formula_size f) e (fits line (formula_size (neg f)) (Ok e)) (fits_keeping line (formula_size (neg f)) e (Ok e) (ok_keeping e e (λ y said. said)))

pub choice_keeping : (line : ℕ) (a : AtomicTree) (label : Option ℕ) (f : Env → Formula) (e : Env) → Keeping e (stepped line a e >>= (λ now. both_fit line label (f now) (Ok now)))
choice_keeping line a label f e = then_keeping e (stepped line a e) (λ now. both_fit line label (f now) (Ok now)) (stepped_keeping line a e) (λ m. both_keeping line label (f m) m)
