-- The row of `read`: an element that is in range is a cell, and a permission at hand says what it contains.
use Rattle.std.proofs.Common.{arith, inl, inr}
use Rattle.std.specs.Prelude.{◌≡◌, ℕ, zero, suc, ℤ, pos, ◌<◌, ◌≤◌, ◌+◌, ◌+ℤ◌, ◌^◌, Bool, true, false, ◌&&◌, if◌then◌else◌, nat_eq, int_lt, List, [], ◌∷◌, ◌++◌, length, map, filter, replicate, slice_index_or, Option, Some, None, is_some, option_map, Ok, ◌⊎◌}
use Rattle.std.specs.List.{AllByRecursion, flat_map, list_all}
use Rattle.std.specs.Ordering.{int_eq}
use Rattle.std.proofs.lemmas.Int.{ints}
use Rattle.std.proofs.lemmas.Bool.{and_parts, and_from, ltb-true, lt-ltb}
use Rattle.std.proofs.lemmas.Bool.Decides.{Decides-int_eq}
use Rattle.sync_base.specs.Outcome.{◌>>=◌}
use Rattle.sync_base.specs.declared.stops.Rule.TheVariants.{A5, T7}
use Rattle.sync_terms.specs.Symbols.{name_symbol}
use Rattle.sync_terms.specs.Trees.{Tree, Lit, Lt, Eq}
use Rattle.sync_terms.specs.Values.{Valuation, num, truth, Holds}
use Rattle.sync_kernel_facts.specs.Laws.{AreTrue}
use Rattle.sync_machine.specs.Naming.{is_in}
use Rattle.sync_rules.specs.Locality.{names_only}
use Rattle.sync_join.specs.Shards.{perm}
use Rattle.sync_join.specs.declared.tokens.Token.{Token as Shard}
use Rattle.sync_exchange.specs.Exchange.{held_as, tokens_in}
use Rattle.sync_exchange.specs.declared.hands.Held.{Held}
use Rattle.sync_thread.specs.Arrays.{Span, first_cells, cells_named, shifted}
use Rattle.sync_thread.specs.Code.{cell_at, cell_number, operand_value, setting}
use Rattle.sync_thread.specs.Control.{Halt, On}
use Rattle.sync_thread.specs.Programs.{ScriptTree, IndexTree, Read, ListTree}
use Rattle.sync_thread.specs.Resting.{Round, PassesUnless, Advances}
use Rattle.sync_thread.specs.declared.operands.CodeDecl.{CodeDecl}
use Rattle.sync_thread.specs.declared.operands.Opd.{Opd}
use Rattle.sync_thread.specs.declared.operands.Opd.TheVariants.{Number, Local}
use Rattle.sync_thread_machine.specs.MachineWithProgram.{MachineWithProgram, fields_of, decls_of}
use Rattle.sync_thread_meaning.specs.Meaning.{World, annotated_language, shared_step, permits_cell, with_shares}
use Rattle.sync_thread_meaning.specs.Shares.{Shares, hand_of, all_shards, beside, only_if}
use Rattle.sync_thread_meaning.specs.Sound.{contents_of}
use Rattle.sync_typing.specs.Dues.{Due, Alone, Owes}
use Rattle.sync_typing.specs.Environments.{Env, TokenTree, token, assign, top, on_some}
use Rattle.sync_typing.specs.Lists.{Spot, assigned_locals, shared_row}
use Rattle.sync_typing.specs.Locals.{operand, is_below, index_dues, index_spare, cell_dues, read_row, cell_term as element_term}
use Rattle.sync_typing.specs.Names.{operand_is_named, shared_is_named, list_is_named, are_names, is_name}
use Rattle.sync_typing_laws.proofs.LocalDues.{Met, row_met}
use Rattle.sync_typing_laws.proofs.LocalGoes.{list_kept, few_names}
use Rattle.sync_typing_laws.proofs.LocalMoves.{At, at_standing, standing_at, is_used}
use Rattle.sync_typing_laws.proofs.LocalProofs.{Goes}
use Rattle.sync_typing_laws.proofs.LocalRows.{AreFew, operand_is}
use Rattle.sync_typing_laws.proofs.LocalStatements.{with_local, local_whole, local_stayed, bind_is, assigns}
use Rattle.sync_typing_laws.specs.Rests.{worth, IsPart, aims_of}
use Rattle.sync_typing_laws.specs.Ruling.{body_at, scene_at, Meanings, rules_of}
use Rattle.sync_thread.specs.declared.operands.CodeDecl.TheVariants as code
use mathlib.Core.Path.{refl, sym, ap, subst, ◌∙◌}
use Rattle.sync_typing_laws.specs.Standing.{IsWholeState, Standing, standing_in}

-- ---- an element in range is a cell

replicated : (n v : ℕ) (xs : List ℕ) → length (replicate n v ++ xs) ≡ n + length xs
replicated zero v xs = omega arith
replicated (suc n) v xs = let k = replicated n v xs in omega (arith, k)

pub cell_is_there : (c : ℕ) (ds : List CodeDecl) (p : Span) → cells_named c ds ≡ Some p → (i : ℕ) → i < p.len → p.base + i < length (first_cells ds)
cell_is_there c [] p is i lt = let never : None ≡ Some p = is in cc
cell_is_there c (code.Word y n v ∷ ds) p is i lt = cell_is_there c ds p is i lt
cell_is_there c (code.Cell y n v ∷ ds) p is i lt = by (nat_eq c y) is (λ q k. cell_is_there c ds q k i) where
  more : length (first_cells (code.Cell y n v ∷ ds)) ≡ n + length (first_cells ds)
  more = replicated n v (first_cells ds)

  later : (o : Option Span) → cells_named c ds ≡ o → ((q : Span) → o ≡ Some q → i < q.len → q.base + i < length (first_cells ds)) → shifted n o ≡ Some p → p.base + i < length (first_cells (code.Cell y n v ∷ ds))
  later None k below h = let never : None ≡ Some p = h in cc
  later (Some q) k below h =
      let same : record { base = n + q.base; len = q.len } ≡ p = (let j : Some (record { base = n + q.base; len = q.len }) ≡ Some p = h in cc) in
      let len : q.len ≡ p.len = ap (λ (d : Span). d.len) same in
      let base : n + q.base ≡ p.base = ap (λ (d : Span). d.base) same in
      let small = below q refl (omega (arith, lt, len)) in
      omega (arith, small, base, more)

  by : (b : Bool) → (if b then Some (record { base = 0; len = n }) else shifted n (cells_named c ds)) ≡ Some p
      → ((q : Span) → cells_named c ds ≡ Some q → i < q.len → q.base + i < length (first_cells ds)) → p.base + i < length (first_cells (code.Cell y n v ∷ ds))
  by true h below =
      let same : record { base = 0; len = n } ≡ p = (let j : Some (record { base = 0; len = n }) ≡ Some p = h in cc) in
      let len : n ≡ p.len = ap (λ (d : Span). d.len) same in
      let base : 0 ≡ p.base = ap (λ (d : Span). d.base) same in
      omega (arith, lt, len, base, more)
  by false h below = later (cells_named c ds) refl below h

-- ---- a permission at hand is in the bag

abbrev pub Among : {A : Type 0} → A → List A → Type 0
Among y [] = ⊥
Among y (x ∷ xs) = (y ≡ x) ⊎ Among y xs

among_left : {A : Type 0} (y : A) (xs ys : List A) → Among y xs → Among y (xs ++ ys)
among_left y [] ys is = absurd is
among_left y (x ∷ xs) ys (inl same) = inl same
among_left y (x ∷ xs) ys (inr later) = inr (among_left y xs ys later)

among_right : {A : Type 0} (y : A) (xs ys : List A) → Among y ys → Among y (xs ++ ys)
among_right y [] ys is = is
among_right y (x ∷ xs) ys is = inr (among_right y xs ys is)

held_among : (n : ℕ) (u : Shard) (hs : List Held) → held_as n hs ≡ Some u → Among u (tokens_in hs)
unfolding held_as
held_among n u [] is = let never : None ≡ Some u = is in cc
held_among n u (h ∷ hs) is = by (nat_eq n h.name) is (held_among n u hs) where
  by : (b : Bool) → (if b then Some h.token else held_as n hs) ≡ Some u → (held_as n hs ≡ Some u → Among u (tokens_in hs)) → Among u (tokens_in (h ∷ hs))
  by true k later = inl (let j : Some h.token ≡ Some u = k in cc)
  by false k later = inr (later k)

hands_among : (u : Shard) (hands : List (List Held)) (t : ℕ) → Among u (tokens_in (slice_index_or hands t [])) → Among u (flat_map tokens_in hands)
hands_among u [] t is = absurd is
hands_among u (h ∷ hands) zero is = among_left u (tokens_in h) (flat_map tokens_in hands) is
hands_among u (h ∷ hands) (suc t) is = among_right u (tokens_in h) (flat_map tokens_in hands) (hands_among u hands t is)

pub bag_among : (n t : ℕ) (u : Shard) (g : Shares) → held_as n (hand_of g t) ≡ Some u → Among u (all_shards g)
bag_among n t u g is = among_left u (flat_map tokens_in g.hands) (beside g) (hands_among u g.hands t (held_among n u (hand_of g t) is))

kept_among : (k : ℕ) (u : Shard) (xs : List Shard) → Among u xs → int_eq u.key (pos k) ≡ true → Among u.value (map (λ (t : Shard). t.value) (filter (λ (t : Shard). int_eq t.key (pos k)) xs))
kept_among k u [] is key = absurd is
kept_among k u (x ∷ xs) (inl same) key = subst (λ b. Among u.value (map (λ (t : Shard). t.value) (if b then x ∷ filter (λ (t : Shard). int_eq t.key (pos k)) xs else filter (λ (t : Shard). int_eq t.key (pos k)) xs)))
    (sym (subst (λ (d : Shard). int_eq d.key (pos k) ≡ true) same key)) (inl (ap (λ (d : Shard). d.value) same))
kept_among k u (x ∷ xs) (inr is) key = by (int_eq x.key (pos k)) (kept_among k u xs is key) where
  by : (b : Bool) → Among u.value (map (λ (t : Shard). t.value) (filter (λ (t : Shard). int_eq t.key (pos k)) xs))
      → Among u.value (map (λ (t : Shard). t.value) (if b then x ∷ filter (λ (t : Shard). int_eq t.key (pos k)) xs else filter (λ (t : Shard). int_eq t.key (pos k)) xs))
  by true later = inr later
  by false later = later

perm_among : (u : Shard) (xs : List Shard) → Among u xs → nat_eq u.field perm ≡ true → Among u (filter (λ (t : Shard). nat_eq t.field perm) xs)
perm_among u [] is field = absurd is
perm_among u (x ∷ xs) (inl same) field = subst (λ b. Among u (if b then x ∷ filter (λ (t : Shard). nat_eq t.field perm) xs else filter (λ (t : Shard). nat_eq t.field perm) xs))
    (sym (subst (λ (d : Shard). nat_eq d.field perm ≡ true) same field)) (inl same)
perm_among u (x ∷ xs) (inr is) field = by (nat_eq x.field perm) (perm_among u xs is field) where
  by : (b : Bool) → Among u (filter (λ (t : Shard). nat_eq t.field perm) xs) → Among u (if b then x ∷ filter (λ (t : Shard). nat_eq t.field perm) xs else filter (λ (t : Shard). nat_eq t.field perm) xs)
  by true later = inr later
  by false later = later

only_one : {A : Type 0} (y z : A) (xs : List A) → xs ≡ z ∷ [] → Among y xs → y ≡ z
only_one y z xs is inside = one (subst (λ d. Among y d) is inside) where
  one : Among y (z ∷ []) → y ≡ z
  one (inl same) = same
  one (inr never) = absurd never

-- a permission that is in a hand says what its cell contains
pub permission_says : (n t k : ℕ) (u : Shard) (g : Shares) (c : ℤ) → held_as n (hand_of g t) ≡ Some u → nat_eq u.field perm ≡ true → int_eq u.key (pos k) ≡ true → contents_of k (all_shards g) g.kept ≡ c ∷ [] → u.value ≡ c
permission_says n t k u g c has field key is = only_one u.value c (contents_of k (all_shards g) g.kept) is
    (kept_among k u (filter (λ (d : Shard). nat_eq d.field perm) (all_shards g) ++ g.kept.stored) (among_left u (filter (λ (d : Shard). nat_eq d.field perm) (all_shards g)) g.kept.stored (perm_among u (all_shards g) (bag_among n t u g has) field)) key)

-- ---- what the dues of a cell say

all_parts : {A : Type 0} (P : A → Type 0) (xs ys : List A) → AllByRecursion P (xs ++ ys) → AllByRecursion P xs × AllByRecursion P ys
all_parts P [] ys is = (tt, is)
all_parts P (x ∷ xs) ys is = let k = all_parts P xs ys is.1 in ((is.0, k.0), k.1)

less_than : (a b : ℕ) → int_lt (pos a) (pos b) ≡ true → a < b
less_than a b is = grind (arith, ints, is)

all_at : {A : Type 0} (P : A → Type 0) (xs : List A) (t : ℕ) (d : A) → t < length xs → AllByRecursion P xs → P (slice_index_or xs t d)
all_at P [] t d lt all = absurd (omega (arith, lt))
all_at P (x ∷ xs) zero d lt all = all.0
all_at P (x ∷ xs) (suc t) d lt all = all_at P xs t d (omega (arith, lt)) all.1

some_is : {A : Type 0} (o : Option A) → is_some o ≡ true → (u : A) × (o ≡ Some u)
some_is None k = absurd (let never : false ≡ true = k in cc)
some_is (Some u) k = (u, refl)

token_of : (e : Env) (n : ℕ) (u : TokenTree) → e.hand n ≡ Some u → token e n ≡ u
token_of e n u is = cc

-- what holds where the dues of a cell are met: the permission that is held, its cell, and what it contains
pub record IsCell (x : MachineWithProgram) (t : ℕ) (v : Valuation) (e : Env) (s : World) (p : Span) (o : Opd) (n : ℕ) : Type 0 where
  pub held : TokenTree
  pub has : e.hand n ≡ Some held
  pub here : held_as n (hand_of s.shares t) ≡ Some (worth v held)
  pub index : operand_value s.memory t o < p.len
  pub inside : p.base + operand_value s.memory t o < length s.memory.cells
  pub permits : permits_cell (p.base + operand_value s.memory t o) (held_as n (hand_of s.shares t)) ≡ true
  pub value : num v held.value ≡ pos (cell_at s.memory (p.base + operand_value s.memory t o))
  pub field : nat_eq held.field perm ≡ true
  pub key : num v held.key ≡ pos (p.base + operand_value s.memory t o)

module _ (x : MachineWithProgram) (known : Env) (t : ℕ) (v : Valuation) (e : Env) (round : List (Round annotated_language Env)) (s : World) (names : AreFew x t) (whole : IsWholeState x s) (at : At x known t v e round s) where
  index_is : (o : Opd) (len : ℕ) (ss : List ScriptTree) (b : Bool) → operand_is_named (assigned_locals (body_at x t) []) o ≡ true → is_below o len ≡ b → AllByRecursion (Met v) (if b then [] else Alone A5 (Lt (operand e o) (Lit (pos len))) ss ∷ []) → operand_value s.memory t o < len
  unfolding truth
  index_is (Number n) len ss true named below met = ltb-true n len below
  index_is (Local y) len ss true named below met = let never : false ≡ true = below in cc
  index_is o len ss false named below met = less_than (operand_value s.memory t o) len (subst (λ d. int_lt d (pos len) ≡ true) (operand_is x known t v e round s names at o named) met.0)

  element_is : (o : Opd) (p : Span) → operand_is_named (assigned_locals (body_at x t) []) o ≡ true → num v (element_term e p o) ≡ pos (p.base + operand_value s.memory t o)
  element_is (Number n) p named = refl
  element_is (Local y) p named = let k = operand_is x known t v e round s names at (Local y) named in ap (λ d. pos p.base +ℤ d) k ∙ joined p.base (operand_value s.memory t (Local y)) where
    joined : (a b : ℕ) → pos a +ℤ pos b ≡ pos (a + b)
    joined a b = omega (arith, ints)

  key_is : (a b : Tree) → Holds v (Eq a b) → num v a ≡ num v b
  unfolding truth
  key_is a b is = (Decides-int_eq (num v a) (num v b)).0 is

  pub cell_is : (c : ℕ) (p : Span) (i : IndexTree) (n : ℕ) (ss : List ScriptTree) → cells_named c (decls_of x) ≡ Some p → operand_is_named (assigned_locals (body_at x t) []) i.operand ≡ true → AllByRecursion (Met v) (cell_dues e p i n ss) → IsCell x t v e s p i.operand n
  cell_is c p i n ss there named met = record { held = u; has = has; here = here; index = index; inside = inside; permits = permits; value = permission_says n t k (worth v u) s.shares (pos (cell_at s.memory k)) here field same_key (whole.good.cells k inside); field = field; key = key } where
    token_here : (u : TokenTree) × (e.hand n ≡ Some u)
    token_here = some_is (e.hand n) met.1.1.0

    u : TokenTree
    u = token_here.0

    has : e.hand n ≡ Some u
    has = token_here.1

    token_is : token e n ≡ u
    token_is = token_of e n u has

    here : held_as n (hand_of s.shares t) ≡ Some (worth v u)
    here = at.stands.hand n ∙ ap (option_map (worth v)) has

    field : nat_eq u.field perm ≡ true
    field = subst (λ (d : TokenTree). nat_eq d.field perm ≡ true) token_is met.1.1.1.1.0

    k : ℕ
    k = p.base + operand_value s.memory t i.operand

    rest : AllByRecursion (Met v) (index_dues e i p.len) × AllByRecursion (Met v) (Owes T7 (Eq (token e n).key (element_term e p i.operand)) ∷ index_spare i p.len ∷ [])
    rest = all_parts (Met v) (index_dues e i p.len) (Owes T7 (Eq (token e n).key (element_term e p i.operand)) ∷ index_spare i p.len ∷ []) met.1.1.1.1.1

    index : operand_value s.memory t i.operand < p.len
    index = index_is i.operand p.len i.scripts (is_below i.operand p.len) named refl rest.0

    inside : k < length s.memory.cells
    inside = let l = cell_is_there c (decls_of x) p there (operand_value s.memory t i.operand) index in let j = whole.tidy.cells in omega (arith, l, j)

    key : num v u.key ≡ pos k
    key = subst (λ (d : TokenTree). num v d.key ≡ pos k) token_is (key_is (token e n).key (element_term e p i.operand) rest.1.0 ∙ element_is i.operand p named)

    same_key : int_eq (num v u.key) (pos k) ≡ true
    same_key = (Decides-int_eq (num v u.key) (pos k)).1 key

    permits : permits_cell k (held_as n (hand_of s.shares t)) ≡ true
    permits = subst (λ o. permits_cell k o ≡ true) (sym here) (and_from (nat_eq u.field perm) (int_eq (num v u.key) (pos k)) field same_key)

-- the number of an element in range
pub number_is : (x : MachineWithProgram) (t : ℕ) (s : World) (c : ℕ) (p : Span) (o : Opd) → cells_named c (decls_of x) ≡ Some p → operand_value s.memory t o < p.len → cell_number (decls_of x) t s.memory c o ≡ Ok (p.base + operand_value s.memory t o)
number_is x t s c p o there index = let k = lt-ltb (operand_value s.memory t o) p.len index in cc

-- ---- `read`

module _ (x : MachineWithProgram) (known : Env) (t : ℕ) (few : length (fields_of x) ≤ 32) (names : AreFew x t) (laws : AreTrue) (round : List (Round annotated_language Env)) (s : World) (whole : IsWholeState x s) (lt : t ≤ length x.program.threads) where
  pub read_goes : (fits : ℤ → Bool) (spares : Halt → Type 0) (line y c : ℕ) (p : Span) (i : IndexTree) (n : ℕ) (ss : List ScriptTree) (e now : Env) → cells_named c (decls_of x) ≡ Some p → operand_is_named (assigned_locals (body_at x t) []) i.operand ≡ true
      → is_in y (assigned_locals (body_at x t) []) ≡ true → read_row line y p i n ss e ≡ Ok now → Standing x known t e round s → PassesUnless spares (shared_step fits x t (Read y c i n ss) s) (Goes x known t round s now)
  read_goes fits spares line y c p i n ss e now there named mine accepted is = subst (λ r. PassesUnless spares r (Goes x known t round s now)) (sym goes) (
    local_whole x t y content s locals_lt small whole,
    local_stayed x t y content s,
    standing_at x known t v now round (with_local t y content s) (subst (λ d. At x known t v d round (with_local t y content s)) (bind_is line (name_symbol y) (token e n).value top e now met.1)
        (assigns x known t v e y content (token e n).value round s few names locals_lt mine used value small at)),
  ) where
    v : Valuation
    v = is.values

    at : At x known t v e round s
    at = at_standing x known t e round s is

    dues : List Due
    dues = cell_dues e p i n ss

    met : AllByRecursion (Met v) dues × (assign line y (token e n).value e ≡ Ok now)
    met = row_met laws v e line at.stands.known dues ss (assign line y (token e n).value e) now accepted

    cell : IsCell x t v e s p i.operand n
    cell = cell_is x known t v e round s names whole at c p i n ss there named met.0

    k : ℕ
    k = p.base + operand_value s.memory t i.operand

    content : ℕ
    content = cell_at s.memory k

    locals_lt : t < length s.memory.locals
    locals_lt = (let j = whole.tidy.locals in omega (arith, j, lt))

    small : content < 2 ^ 64
    small = all_at (λ d. d < 2 ^ 64) s.memory.cells k 0 cell.inside whole.tidy.cells_fit

    token_is : token e n ≡ cell.held
    token_is = token_of e n cell.held cell.has

    used : names_only (is_used e.fresh) (token e n).value ≡ true
    used = subst (λ (d : TokenTree). names_only (is_used e.fresh) d.value ≡ true) (sym token_is) (at.stands.scoped.values n cell.held cell.has)

    value : num v (token e n).value ≡ pos content
    value = subst (λ (d : TokenTree). num v d.value ≡ pos content) (sym token_is) cell.value

    goes : shared_step fits x t (Read y c i n ss) s ≡ Ok (with_local t y content s)
    goes = subst (λ r. ((r >>= (λ j. Ok (setting t y (cell_at s.memory j) s.memory))) >>= (λ m. with_shares m (r >>= (λ j. only_if (permits_cell j (held_as n (hand_of s.shares t))) (Ok s.shares))))) ≡ Ok (with_local t y content s))
        (sym (number_is x t s c p i.operand there cell.index)) (subst (λ b. with_shares (setting t y content s.memory) (only_if b (Ok s.shares)) ≡ Ok (with_local t y content s)) (sym cell.permits) refl)

module _ (fits : ℤ → Bool) (x : MachineWithProgram) (known : Env) (spares : Halt → Type 0) (m : Meanings) (laws : AreTrue) (few : length (fields_of x) ≤ 32) (t : ℕ) (there : t ≤ length x.program.threads) (names : are_names (assigned_locals (body_at x t) []) ≡ true) where
  pub read_shared : (y c : ℕ) (i : IndexTree) (k : ℕ) (ss : List ScriptTree) (p : Spot) (n : ℕ) (rest : ListTree) → IsPart x (scene_at x t).locals p (On (Read y c i k ss) n rest) → (e now : Env) → shared_row (scene_at x t) n (Read y c i k ss) e ≡ Ok now
      → (round : List (Round annotated_language Env)) (s : World) → IsWholeState x s → Standing x known t e round s → PassesUnless spares (shared_step fits x t (Read y c i k ss) s) (λ z. Advances (rules_of x (standing_in x known spares m)) t s now round z)
  read_shared y c i k ss p n rest part e now row round s whole is = by (cells_named c (decls_of x)) refl (and_parts (is_some (cells_named c (decls_of x))) (operand_is_named (assigned_locals (body_at x t) []) i.operand && is_name k) named).0 row where
    named : shared_is_named x (scene_at x t).locals (Read y c i k ss) ≡ true
    named = (and_parts (shared_is_named x (scene_at x t).locals (Read y c i k ss)) (list_is_named x (scene_at x t).locals (aims_of p) rest) part.named).0

    index : operand_is_named (assigned_locals (body_at x t) []) i.operand ≡ true
    index = (and_parts (operand_is_named (assigned_locals (body_at x t) []) i.operand) (is_name k) (and_parts (is_some (cells_named c (decls_of x))) (operand_is_named (assigned_locals (body_at x t) []) i.operand && is_name k) named).1).0

    inside : list_all (λ j. is_in j (assigned_locals (body_at x t) [])) (y ∷ []) ≡ true
    inside = list_kept (λ j. is_in j (assigned_locals (body_at x t) [])) rest (y ∷ []) part.assigns

    by : (o : Option Span) → cells_named c (decls_of x) ≡ o → is_some o ≡ true → on_some o (Ok e) (λ (q : Span). read_row n y q i k ss e) ≡ Ok now
        → PassesUnless spares (shared_step fits x t (Read y c i k ss) s) (λ z. Advances (rules_of x (standing_in x known spares m)) t s now round z)
    by None h some r = absurd (let never : false ≡ true = some in cc)
    by (Some q) h some r = read_goes x known t few (few_names x t names) laws round s whole there fits spares n y c q i k ss e now h index (and_parts (is_in y (assigned_locals (body_at x t) [])) true inside).0 r is
