-- The row of `write`: one permission says another content, and its cell has it.
use Rattle.std.proofs.Common.{arith, inl, inr}
use Rattle.std.specs.Prelude.{◌≡◌, ℕ, zero, suc, ℤ, pos, ◌<◌, ◌≤◌, ◌+◌, ◌^◌, Bool, true, false, ◌&&◌, ◌||◌, if◌then◌else◌, nat_eq, List, [], ◌∷◌, ◌++◌, length, map, filter, slice_set, slice_index_or, Option, Some, None, is_some, option_map, Ok, ◌⊎◌}
use Rattle.std.specs.List.{AllByRecursion, IsDistinct, flat_map, range_with_len}
use Rattle.std.specs.Ordering.{int_eq}
use Rattle.std.proofs.lemmas.Int.{ints}
use Rattle.std.proofs.lemmas.Bool.{and_parts, ne_eqb}
use Rattle.std.proofs.lemmas.Bool.Decides.{eqb_tells, Decides-int_eq}
use mathlib.Core.Path.{refl, sym, ap, subst, ◌∙◌}
use Rattle.std.proofs.lemmas.List.{get_or-set_same, get_or-set_other, length-set}
use Rattle.sync_base.specs.Outcome.{◌>>=◌, first}
use Rattle.sync_base.specs.declared.strategies.Strategy.{Strategy}
use Rattle.sync_base.specs.declared.strategies.Strategy.TheVariants.{NotTokenized, Count}
use Rattle.sync_terms.specs.Values.{Valuation}
use Rattle.sync_kernel_facts.specs.Laws.{AreTrue}
use Rattle.sync_machine.specs.States.{strategies, strategy_at}
use Rattle.sync_machine.specs.declared.fields.Field.{Field}
use Rattle.sync_rules.specs.Locality.{names_only}
use Rattle.sync_join.specs.Join.{join_of, joined, value_at as field_value, tokens_of, record_at, all_of}
use Rattle.sync_join.specs.Shards.{Kept, perm, IsToken, AreSoundShards}
use Rattle.sync_join.specs.declared.tokens.Token.{Token as Shard}
use Rattle.sync_exchange.proofs.Doing.{no-permission}
use Rattle.sync_exchange.specs.Exchange.{held_as, tokens_in, revalued}
use Rattle.sync_exchange.specs.declared.hands.Held.{Held}
use Rattle.sync_thread.specs.Arrays.{Span, cells_named}
use Rattle.sync_thread.specs.Code.{cell_at, operand_value}
use Rattle.sync_thread.specs.Control.{Halt, On}
use Rattle.sync_thread.specs.Programs.{ScriptTree, IndexTree, Write, ListTree}
use Rattle.sync_thread.specs.Resting.{Round, PassesUnless, Advances}
use Rattle.sync_thread.specs.declared.operands.Opd.{Opd}
use Rattle.sync_thread_machine.specs.MachineWithProgram.{MachineWithProgram, fields_of, decls_of}
use Rattle.sync_thread_meaning.specs.Meaning.{World, annotated_language, shared_step, permits_cell, with_shares}
use Rattle.sync_thread_meaning.specs.Shares.{hand_of, with_hand, all_shards, beside, only_if}
use Rattle.sync_thread_meaning.specs.Sound.{contents_of}
use Rattle.sync_typing.specs.Dues.{Due}
use Rattle.sync_typing.specs.Environments.{Env, TokenTree, token, take_in, hand_after, on_some}
use Rattle.sync_typing.specs.Lists.{Spot, assigned_locals, shared_row}
use Rattle.sync_typing.specs.Locals.{operand, cell_dues, content, write_row}
use Rattle.sync_typing.specs.Names.{operand_is_named, shared_is_named, list_is_named, are_names, is_name}
use Rattle.sync_typing_laws.proofs.LocalCells.{IsCell, cell_is, number_is}
use Rattle.sync_typing_laws.proofs.LocalCopies.{perms, perms_append}
use Rattle.sync_typing_laws.proofs.LocalDues.{Met, row_met}
use Rattle.sync_typing_laws.proofs.LocalGoes.{few_names}
use Rattle.sync_typing_laws.proofs.LocalHands.{HeldAnew, hands_it, take_in_is}
use Rattle.sync_typing_laws.proofs.LocalMoves.{At, at_standing, standing_at, is_used}
use Rattle.sync_typing_laws.proofs.LocalProofs.{Goes}
use Rattle.sync_typing_laws.proofs.LocalRenamed.{names_of}
use Rattle.sync_typing_laws.proofs.LocalRows.{AreFew, operand_is, operand_used, operand_fits}
use Rattle.sync_typing_laws.specs.Rests.{worth, IsApart, IsPart, aims_of}
use Rattle.sync_typing_laws.specs.Ruling.{body_at, scene_at, Meanings, rules_of}
use Rattle.sync_typing_laws.specs.Standing.{IsWholeState, Standing, Stayed, standing_in}

all_set : {A : Type 0} (P : A → Type 0) (xs : List A) (t : ℕ) (y : A) → AllByRecursion P xs → P y → AllByRecursion P (slice_set xs t y)
all_set P [] t y all one = tt
all_set P (x ∷ xs) zero y all one = (one, all.1)
all_set P (x ∷ xs) (suc t) y all one = (all.0, all_set P xs t y all.1 one)

all_at : {A : Type 0} (P : A → Type 0) (xs : List A) (t : ℕ) (d : A) → t < length xs → AllByRecursion P xs → P (slice_index_or xs t d)
all_at P [] t d lt all = absurd (omega (arith, lt))
all_at P (x ∷ xs) zero d lt all = all.0
all_at P (x ∷ xs) (suc t) d lt all = all_at P xs t d (omega (arith, lt)) all.1

all_other : (P : Shard → Type 0) (xs : List Shard) (u w : Shard) (ys : List Shard) → AllByRecursion P (xs ++ u ∷ ys) → P w → AllByRecursion P (xs ++ w ∷ ys)
all_other P [] u w ys all one = (one, all.1)
all_other P (x ∷ xs) u w ys all one = (all.0, all_other P xs u w ys all.1 one)

assoc : {A : Type 0} (xs ys zs : List A) → (xs ++ ys) ++ zs ≡ xs ++ (ys ++ zs)
assoc [] ys zs = refl
assoc (x ∷ xs) ys zs = ap (λ d. x ∷ d) (assoc xs ys zs)

is_same : (a b : ℕ) → nat_eq a b ≡ true → a ≡ b
is_same a b is = elim (eqb_tells a b) [ inl k ↦ k.1 | inr k ↦ absurd (let never : true ≡ false = sym is ∙ k.0 in cc) ]

-- ---- one token in the place of another

pub record Parts (u w : Shard) (xs ys : List Shard) : Type 0 where
  pub before : List Shard
  pub after : List Shard
  pub old : xs ≡ before ++ u ∷ after
  pub anew : ys ≡ before ++ w ∷ after

parts_left : (u w : Shard) (xs ys zs : List Shard) → Parts u w xs ys → Parts u w (xs ++ zs) (ys ++ zs)
parts_left u w xs ys zs p = record {
  before = p.before;
  after = p.after ++ zs;
  old = ap (λ d. d ++ zs) p.old ∙ assoc p.before (u ∷ p.after) zs;
  anew = ap (λ d. d ++ zs) p.anew ∙ assoc p.before (w ∷ p.after) zs;
}

parts_right : (u w : Shard) (zs xs ys : List Shard) → Parts u w xs ys → Parts u w (zs ++ xs) (zs ++ ys)
parts_right u w zs xs ys p = record {
  before = zs ++ p.before;
  after = p.after;
  old = ap (λ d. zs ++ d) p.old ∙ sym (assoc zs p.before (u ∷ p.after));
  anew = ap (λ d. zs ++ d) p.anew ∙ sym (assoc zs p.before (w ∷ p.after));
}

parts_set : (u w : Shard) (hands : List (List Held)) (t : ℕ) (new : List Held) → t < length hands → Parts u w (tokens_in (slice_index_or hands t [])) (tokens_in new) → Parts u w (flat_map tokens_in hands) (flat_map tokens_in (slice_set hands t new))
parts_set u w [] t new lt p = absurd (omega (arith, lt))
parts_set u w (h ∷ hands) zero new lt p = parts_left u w (tokens_in h) (tokens_in new) (flat_map tokens_in hands) p
parts_set u w (h ∷ hands) (suc t) new lt p = parts_right u w (tokens_in h) (flat_map tokens_in hands) (flat_map tokens_in (slice_set hands t new)) (parts_set u w hands t new (omega (arith, lt)) p)

abbrev pub other : ℤ → Shard → Shard
other c u = record { field = u.field; key = u.key; value = c }

abbrev pub changed : ℤ → Held → Held
changed c h = record { name = h.name; token = other c h.token }

unchanged : (n : ℕ) (c : ℤ) (hs : List Held) → AllByRecursion (λ y. nat_eq n y ≡ false) (names_of hs) → revalued n c hs ≡ hs
unchanged n c [] all = refl
unchanged n c (h ∷ hs) all = subst (λ b. (if b then changed c h else h) ∷ revalued n c hs ≡ h ∷ hs) (sym all.0) (ap (λ d. h ∷ d) (unchanged n c hs all.1))

parts_of : (n : ℕ) (c : ℤ) (u : Shard) (hs : List Held) → IsApart hs → held_as n hs ≡ Some u → Parts u (other c u) (tokens_in hs) (tokens_in (revalued n c hs))
unfolding held_as IsDistinct
parts_of n c u [] apart is = absurd (let never : None ≡ Some u = is in cc)
parts_of n c u (h ∷ hs) apart is = by (nat_eq n h.name) refl is (parts_of n c u hs apart.1) where
  by : (b : Bool) → nat_eq n h.name ≡ b → (if b then Some h.token else held_as n hs) ≡ Some u → (held_as n hs ≡ Some u → Parts u (other c u) (tokens_in hs) (tokens_in (revalued n c hs)))
      → Parts u (other c u) (h.token ∷ tokens_in hs) ((if b then changed c h else h).token ∷ tokens_in (revalued n c hs))
  by true k e later = record {
    before = [];
    after = tokens_in hs;
    old = ap (λ d. d ∷ tokens_in hs) one;
    anew = ap (λ d. other c d ∷ tokens_in (revalued n c hs)) one ∙ ap (λ d. other c u ∷ tokens_in d) (unchanged n c hs (subst (λ d. AllByRecursion (λ y. nat_eq d y ≡ false) (names_of hs)) (sym (is_same n h.name k)) apart.0));
  } where
    one : h.token ≡ u
    one = let j : Some h.token ≡ Some u = e in cc
  by false k e later = let p = later e in record { before = h.token ∷ p.before; after = p.after; old = ap (λ d. h.token ∷ d) p.old; anew = ap (λ d. h.token ∷ d) p.anew }

same_names : (n : ℕ) (c : ℤ) (hs : List Held) → names_of (revalued n c hs) ≡ names_of hs
same_names n c [] = refl
same_names n c (h ∷ hs) = by (nat_eq n h.name) (same_names n c hs) where
  by : (b : Bool) → names_of (revalued n c hs) ≡ names_of hs → (if b then changed c h else h).name ∷ names_of (revalued n c hs) ≡ h.name ∷ names_of hs
  by true later = ap (λ d. h.name ∷ d) later
  by false later = ap (λ d. h.name ∷ d) later

held_here : (n : ℕ) (c : ℤ) (u : Shard) (hs : List Held) → held_as n hs ≡ Some u → held_as n (revalued n c hs) ≡ Some (other c u)
unfolding held_as
held_here n c u [] is = absurd (let never : None ≡ Some u = is in cc)
held_here n c u (h ∷ hs) is = by (nat_eq n h.name) refl is (held_here n c u hs) where
  by : (b : Bool) → nat_eq n h.name ≡ b → (if b then Some h.token else held_as n hs) ≡ Some u → (held_as n hs ≡ Some u → held_as n (revalued n c hs) ≡ Some (other c u))
      → (if nat_eq n (if b then changed c h else h).name then Some (if b then changed c h else h).token else held_as n (revalued n c hs)) ≡ Some (other c u)
  by true k e later = subst (λ d. (if d then Some (other c h.token) else held_as n (revalued n c hs)) ≡ Some (other c u)) (sym k) (let j : Some h.token ≡ Some u = e in let one : h.token ≡ u = cc in ap (λ d. Some (other c d)) one)
  by false k e later = subst (λ d. (if d then Some h.token else held_as n (revalued n c hs)) ≡ Some (other c u)) (sym k) (later e)

held_other : (n m : ℕ) (c : ℤ) (hs : List Held) → (m ≡ n → ⊥) → held_as m (revalued n c hs) ≡ held_as m hs
unfolding held_as
held_other n m c [] off = refl
held_other n m c (h ∷ hs) off = by (nat_eq n h.name) refl (held_other n m c hs off) where
  by : (b : Bool) → nat_eq n h.name ≡ b → held_as m (revalued n c hs) ≡ held_as m hs
      → (if nat_eq m (if b then changed c h else h).name then Some (if b then changed c h else h).token else held_as m (revalued n c hs)) ≡ (if nat_eq m h.name then Some h.token else held_as m hs)
  by true k later = subst (λ d. (if d then Some (other c h.token) else held_as m (revalued n c hs)) ≡ (if d then Some h.token else held_as m hs)) (sym (ne_eqb m h.name (λ j. off (j ∙ sym (is_same n h.name k))))) later
  by false k later = ap (λ d. if nat_eq m h.name then Some h.token else d) later

-- ---- no field looks at permissions

beyond : (xs : List Strategy) (f : ℕ) → length xs ≤ f → slice_index_or xs f NotTokenized ≡ NotTokenized
beyond [] f le = refl
beyond (x ∷ xs) zero le = absurd (omega (arith, le))
beyond (x ∷ xs) (suc f) le = beyond xs f (omega (arith, le))

length_strategies : (fs : List Field) → length (strategies fs) ≡ length fs
length_strategies [] = refl
length_strategies (f ∷ fs) = let k = length_strategies fs in omega (arith, k)

of_field : (f : ℕ) (xs : List Shard) (u w : Shard) (ys : List Shard) → nat_eq u.field f ≡ false → nat_eq w.field f ≡ false → tokens_of f (xs ++ u ∷ ys) ≡ tokens_of f (xs ++ w ∷ ys)
of_field f [] u w ys a b = subst (λ d. (if d then u ∷ tokens_of f ys else tokens_of f ys) ≡ tokens_of f (w ∷ ys)) (sym a) (subst (λ d. tokens_of f ys ≡ (if d then w ∷ tokens_of f ys else tokens_of f ys)) (sym b) refl)
of_field f (x ∷ xs) u w ys a b = ap (λ d. if nat_eq x.field f then x ∷ d else d) (of_field f xs u w ys a b)

value_same : (fs : List Field) (kept : Kept) (few : length fs ≤ 32) (xs : List Shard) (u w : Shard) (ys : List Shard) → u.field ≡ perm → w.field ≡ perm → (f : ℕ) → field_value fs (xs ++ u ∷ ys) kept f ≡ field_value fs (xs ++ w ∷ ys) kept f
value_same fs kept few xs u w ys a b f = elim (eqb_tells perm f) [
  | inl k ↦ subst (λ d. joined d (tokens_of f (xs ++ u ∷ ys)) (record_at kept f) (tokens_of f kept.stored) ≡ joined d (tokens_of f (xs ++ w ∷ ys)) (record_at kept f) (tokens_of f kept.stored))
      (sym (beyond (strategies fs) f (let n : 4294967295 ≡ f = k.1 in let l = length_strategies fs in omega (arith, n, l, few)))) refl
  | inr k ↦ ap (λ d. joined (strategy_at fs f) d (record_at kept f) (tokens_of f kept.stored)) (of_field f xs u w ys (subst (λ d. nat_eq d f ≡ false) (sym a) k.0) (subst (λ d. nat_eq d f ≡ false) (sym b) k.0))
]

map_same : {A B : Type 0} (f g : A → B) (xs : List A) → ((x : A) → f x ≡ g x) → map f xs ≡ map g xs
map_same f g [] same = refl
map_same f g (x ∷ xs) same = ap (λ d. d ∷ map f xs) (same x) ∙ ap (λ d. g x ∷ d) (map_same f g xs same)

join_same : (fs : List Field) (kept : Kept) (few : length fs ≤ 32) (xs : List Shard) (u w : Shard) (ys : List Shard) → u.field ≡ perm → w.field ≡ perm → join_of fs (xs ++ u ∷ ys) kept ≡ join_of fs (xs ++ w ∷ ys) kept
join_same fs kept few xs u w ys a b = ap all_of (map_same (field_value fs (xs ++ u ∷ ys) kept) (field_value fs (xs ++ w ∷ ys) kept) (range_with_len 0 (length fs)) (value_same fs kept few xs u w ys a b))

sound_other : (fs : List Field) (kept : Kept) (few : length fs ≤ 32) (xs : List Shard) (u w : Shard) (ys : List Shard) → w.field ≡ perm → AreSoundShards fs (xs ++ u ∷ ys) kept → AreSoundShards fs (xs ++ w ∷ ys) kept
sound_other fs kept few xs u w ys b is = record {
  shaped = record { tokens = all_other (IsToken fs) xs u w ys is.shaped.tokens (inl b); records = is.shaped.records; stored = is.shaped.stored };
  natural = all_other _ xs u w ys is.natural (λ k. absurd (no-permission fs few (subst (λ d. strategy_at fs d ≡ Count) b k)));
}

-- ---- what cells contain

abbrev pub says : ℕ → List Shard → List ℤ
says j ts = map (λ (t : Shard). t.value) (filter (λ (t : Shard). int_eq t.key (pos j)) ts)

says_append : (j : ℕ) (xs ys : List Shard) → says j (xs ++ ys) ≡ says j xs ++ says j ys
says_append j [] ys = refl
says_append j (x ∷ xs) ys = by (int_eq x.key (pos j)) (says_append j xs ys) where
  by : (b : Bool) → says j (xs ++ ys) ≡ says j xs ++ says j ys
      → map (λ (t : Shard). t.value) (if b then x ∷ filter (λ (t : Shard). int_eq t.key (pos j)) (xs ++ ys) else filter (λ (t : Shard). int_eq t.key (pos j)) (xs ++ ys))
      ≡ map (λ (t : Shard). t.value) (if b then x ∷ filter (λ (t : Shard). int_eq t.key (pos j)) xs else filter (λ (t : Shard). int_eq t.key (pos j)) xs) ++ says j ys
  by true later = ap (λ d. x.value ∷ d) later
  by false later = later

contents_mid : (j : ℕ) (kept : Kept) (xs : List Shard) (u : Shard) (ys : List Shard) → nat_eq u.field perm ≡ true → contents_of j (xs ++ u ∷ ys) kept ≡ says j (perms xs) ++ says j (u ∷ (perms ys ++ kept.stored))
contents_mid j kept xs u ys field = ap (λ d. says j (d ++ kept.stored)) (perms_append xs (u ∷ ys))
    ∙ subst (λ b. says j ((perms xs ++ (if b then u ∷ perms ys else perms ys)) ++ kept.stored) ≡ says j (perms xs) ++ says j (u ∷ (perms ys ++ kept.stored))) (sym field)
    (ap (λ d. says j d) (assoc (perms xs) (u ∷ perms ys) kept.stored) ∙ says_append j (perms xs) (u ∷ (perms ys ++ kept.stored)))

says_on : (j : ℕ) (u : Shard) (ys : List Shard) → int_eq u.key (pos j) ≡ true → says j (u ∷ ys) ≡ u.value ∷ says j ys
says_on j u ys k = subst (λ b. map (λ (t : Shard). t.value) (if b then u ∷ filter (λ (t : Shard). int_eq t.key (pos j)) ys else filter (λ (t : Shard). int_eq t.key (pos j)) ys) ≡ u.value ∷ says j ys) (sym k) refl

says_off : (j : ℕ) (u : Shard) (ys : List Shard) → int_eq u.key (pos j) ≡ false → says j (u ∷ ys) ≡ says j ys
says_off j u ys k = subst (λ b. map (λ (t : Shard). t.value) (if b then u ∷ filter (λ (t : Shard). int_eq t.key (pos j)) ys else filter (λ (t : Shard). int_eq t.key (pos j)) ys) ≡ says j ys) (sym k) refl

single : (xs : List ℤ) (a c d : ℤ) (ys : List ℤ) → xs ++ a ∷ ys ≡ d ∷ [] → xs ++ c ∷ ys ≡ c ∷ []
single [] a c d ys is = ap (λ e. c ∷ e) (let k : a ∷ ys ≡ d ∷ [] = is in cc)
single (x ∷ []) a c d ys is = absurd (let k : x ∷ a ∷ ys ≡ d ∷ [] = is in cc)
single (x ∷ y ∷ xs) a c d ys is = absurd (let k : x ∷ y ∷ (xs ++ a ∷ ys) ≡ d ∷ [] = is in cc)

contents_here : (k : ℕ) (kept : Kept) (xs : List Shard) (u : Shard) (c d : ℤ) (ys : List Shard) → nat_eq u.field perm ≡ true → int_eq u.key (pos k) ≡ true → contents_of k (xs ++ u ∷ ys) kept ≡ d ∷ [] → contents_of k (xs ++ other c u ∷ ys) kept ≡ c ∷ []
contents_here k kept xs u c d ys field key is = contents_mid k kept xs (other c u) ys field ∙ ap (λ e. says k (perms xs) ++ e) (says_on k (other c u) (perms ys ++ kept.stored) key)
    ∙ single (says k (perms xs)) u.value c d (says k (perms ys ++ kept.stored)) (ap (λ e. says k (perms xs) ++ e) (sym (says_on k u (perms ys ++ kept.stored) key)) ∙ sym (contents_mid k kept xs u ys field) ∙ is)

contents_there : (j : ℕ) (kept : Kept) (xs : List Shard) (u : Shard) (c : ℤ) (ys : List Shard) → nat_eq u.field perm ≡ true → int_eq u.key (pos j) ≡ false → contents_of j (xs ++ other c u ∷ ys) kept ≡ contents_of j (xs ++ u ∷ ys) kept
contents_there j kept xs u c ys field key = contents_mid j kept xs (other c u) ys field ∙ ap (λ e. says j (perms xs) ++ e) (says_off j (other c u) (perms ys ++ kept.stored) key ∙ sym (says_off j u (perms ys ++ kept.stored) key)) ∙ sym (contents_mid j kept xs u ys field)

far_key : (z : ℤ) (k j : ℕ) → z ≡ pos k → (j ≡ k → ⊥) → int_eq z (pos j) ≡ false
far_key z k j is off = by (int_eq z (pos j)) refl where
  by : (b : Bool) → int_eq z (pos j) ≡ b → b ≡ false
  by true e = absurd (off (let q = (Decides-int_eq z (pos j)).0 e in omega (arith, ints, is, q)))
  by false e = refl

-- ---- `write`

module _ (x : MachineWithProgram) (known : Env) (t : ℕ) (few : length (fields_of x) ≤ 32) (names : AreFew x t) (laws : AreTrue) (round : List (Round annotated_language Env)) (s : World) (whole : IsWholeState x s) (lt : t ≤ length x.program.threads) where
  abbrev pub written : ℕ → ℕ → ℕ → World
  written k n c = record { memory = record s.memory { cells = slice_set s.memory.cells k c }; shares = with_hand t (revalued n (pos c) (hand_of s.shares t)) s.shares }

  hands_lt : t < length s.shares.hands
  hands_lt = let k = whole.tidy.hands in omega (arith, k, lt)

  apart : IsApart (hand_of s.shares t)
  apart = all_at IsApart s.shares.hands t [] hands_lt whole.tidy.apart

  write_whole : (k n c : ℕ) (u : Shard) → held_as n (hand_of s.shares t) ≡ Some u → nat_eq u.field perm ≡ true → u.key ≡ pos k → k < length s.memory.cells → c < 2 ^ 64 → IsWholeState x (written k n c)
  write_whole k n c u has field key inside small = record {
    tidy = record {
      sound = subst (λ b. AreSoundShards (fields_of x) b s.shares.kept) (sym p.anew) (sound_other (fields_of x) s.shares.kept few p.before u (other (pos c) u) p.after perm_is (subst (λ b. AreSoundShards (fields_of x) b s.shares.kept) p.old whole.tidy.sound));
      apart = all_set IsApart s.shares.hands t new whole.tidy.apart (subst (λ d. IsDistinct nat_eq d) (sym (same_names n (pos c) (hand_of s.shares t))) apart);
      hands = length-set s.shares.hands t new ∙ whole.tidy.hands;
      proofs = whole.tidy.proofs;
      wraps = whole.tidy.wraps;
      locals = whole.tidy.locals;
      values = whole.tidy.values;
      cells = length-set s.memory.cells k c ∙ whole.tidy.cells;
      words_fit = whole.tidy.words_fit;
      cells_fit = all_set (λ d. d < 2 ^ 64) s.memory.cells k c whole.tidy.cells_fit small;
      locals_fit = whole.tidy.locals_fit;
    };
    good = record {
      state = whole.good.state;
      joined = ap (λ b. join_of (fields_of x) b s.shares.kept) p.anew ∙ join_same (fields_of x) s.shares.kept few p.before (other (pos c) u) u p.after perm_is perm_is ∙ ap (λ b. join_of (fields_of x) b s.shares.kept) (sym p.old) ∙ whole.good.joined;
      reached = whole.good.reached;
      meets = whole.good.meets;
      words = whole.good.words;
      cells = λ j l. cell_says j (let q = length-set s.memory.cells k c in omega (arith, l, q)) (eqb_tells j k);
    };
  } where
    new : List Held
    new = revalued n (pos c) (hand_of s.shares t)

    perm_is : u.field ≡ perm
    perm_is = is_same u.field perm field

    p : Parts u (other (pos c) u) (all_shards s.shares) (all_shards (with_hand t new s.shares))
    p = parts_left u (other (pos c) u) (flat_map tokens_in s.shares.hands) (flat_map tokens_in (slice_set s.shares.hands t new)) (beside s.shares) (parts_set u (other (pos c) u) s.shares.hands t new hands_lt (parts_of n (pos c) u (hand_of s.shares t) apart has))

    cell_says : (j : ℕ) → j < length s.memory.cells → ((nat_eq j k ≡ true) × (j ≡ k)) ⊎ ((nat_eq j k ≡ false) × (j ≡ k → ⊥)) → contents_of j (all_shards (with_hand t new s.shares)) s.shares.kept ≡ pos (slice_index_or (slice_set s.memory.cells k c) j 0) ∷ []
    cell_says j l (inl here) = subst (λ d. contents_of d (all_shards (with_hand t new s.shares)) s.shares.kept ≡ pos (slice_index_or (slice_set s.memory.cells k c) d 0) ∷ []) (sym here.1)
        (ap (λ b. contents_of k b s.shares.kept) p.anew ∙ contents_here k s.shares.kept p.before u (pos c) (pos (cell_at s.memory k)) p.after field ((Decides-int_eq u.key (pos k)).1 key) (ap (λ b. contents_of k b s.shares.kept) (sym p.old) ∙ whole.good.cells k inside)
        ∙ ap (λ d. pos d ∷ []) (sym (get_or-set_same s.memory.cells k c 0 inside)))
    cell_says j l (inr off) = ap (λ b. contents_of j b s.shares.kept) p.anew ∙ contents_there j s.shares.kept p.before u (pos c) p.after field (far_key u.key k j key off.1) ∙ ap (λ b. contents_of j b s.shares.kept) (sym p.old) ∙ whole.good.cells j l
        ∙ ap (λ d. pos d ∷ []) (sym (get_or-set_other s.memory.cells k j c 0 off.1))

  -- the hand that the row gives
  write_hand : (e : Env) (n : ℕ) (w : TokenTree) (m : ℕ) → (if nat_eq n m then Some w else e.hand m) ≡ hand_after (n ∷ []) ((n, w) ∷ []) e.hand m
  write_hand e n w m = elim (eqb_tells n m) [
    | inl a ↦ subst (λ b. (if b then Some w else e.hand m) ≡ first (if b then Some w else None) (if nat_eq m n || false then None else e.hand m)) (sym a.0) refl
    | inr a ↦ subst (λ b. (if b then Some w else e.hand m) ≡ first (if b then Some w else None) (if nat_eq m n || false then None else e.hand m)) (sym a.0)
        (subst (λ b. e.hand m ≡ (if b || false then None else e.hand m)) (sym (ne_eqb m n (λ k. a.1 (sym k)))) refl)
  ]

  pub write_goes : (fits : ℤ → Bool) (spares : Halt → Type 0) (line c : ℕ) (p : Span) (i : IndexTree) (a : Opd) (n : ℕ) (ss : List ScriptTree) (e now : Env) → cells_named c (decls_of x) ≡ Some p → operand_is_named (assigned_locals (body_at x t) []) i.operand ≡ true
      → operand_is_named (assigned_locals (body_at x t) []) a ≡ true → write_row line p i a n ss e ≡ Ok now → Standing x known t e round s → PassesUnless spares (shared_step fits x t (Write c i a n ss) s) (Goes x known t round s now)
  write_goes fits spares line c p i a n ss e now there named value_named accepted is = subst (λ r. PassesUnless spares r (Goes x known t round s now)) (sym goes) (
    write_whole k n val sh cell.here cell.field cell.key cell.inside small,
    stayed,
    standing_at x known t v now round z (subst (λ d. At x known t v d round z) (take_in_is line (n ∷ []) ((n, content (token e n) (operand e a)) ∷ []) e now met.1) (hands_it x known t v e after round s z anew at)),
  ) where
    v : Valuation
    v = is.values

    at : At x known t v e round s
    at = at_standing x known t e round s is

    dues : List Due
    dues = cell_dues e p i n ss

    met : AllByRecursion (Met v) dues × (take_in line (n ∷ []) ((n, content (token e n) (operand e a)) ∷ []) e ≡ Ok now)
    met = row_met laws v e line at.stands.known dues ss (take_in line (n ∷ []) ((n, content (token e n) (operand e a)) ∷ []) e) now accepted

    cell : IsCell x t v e s p i.operand n
    cell = cell_is x known t v e round s names whole at c p i n ss there named met.0

    k : ℕ
    k = p.base + operand_value s.memory t i.operand

    val : ℕ
    val = operand_value s.memory t a

    sh : Shard
    sh = worth v cell.held

    small : val < 2 ^ 64
    small = operand_fits x t s whole.tidy (assigned_locals (body_at x t) []) a value_named

    z : World
    z = written k n val

    w : TokenTree
    w = content (token e n) (operand e a)

    after : ℕ → Option TokenTree
    after = hand_after (n ∷ []) ((n, w) ∷ []) e.hand

    token_of : (u : TokenTree) → e.hand n ≡ Some u → token e n ≡ u
    token_of u h = cc

    token_is : token e n ≡ cell.held
    token_is = token_of cell.held cell.has

    worth_is : worth v w ≡ other (pos val) sh
    worth_is = ap (λ (d : TokenTree). worth v (content d (operand e a))) token_is ∙ ap (λ d. record { field = sh.field; key = sh.key; value = d }) (operand_is x known t v e round s names at a value_named)

    after_from : (P : TokenTree → Type 0) (m : ℕ) (u : TokenTree) → P w → ((y : TokenTree) → e.hand m ≡ Some y → P y) → after m ≡ Some u → P u
    after_from P m u one rest h = by (nat_eq n m) (write_hand e n w m ∙ h) where
      by : (b : Bool) → (if b then Some w else e.hand m) ≡ Some u → P u
      by true j = subst P (let q : Some w ≡ Some u = j in cc) one
      by false j = rest u j

    new : List Held
    new = revalued n (pos val) (hand_of s.shares t)

    held_then : (m : ℕ) → held_as m new ≡ option_map (worth v) (after m)
    held_then m = elim (eqb_tells n m) [
      | inl q ↦ subst (λ d. held_as d new ≡ option_map (worth v) (after m)) q.1 (held_here n (pos val) sh (hand_of s.shares t) cell.here ∙ ap Some (sym worth_is)
          ∙ ap (option_map (worth v)) (subst (λ b. Some w ≡ (if b then Some w else e.hand m)) (sym q.0) refl ∙ write_hand e n w m))
      | inr q ↦ held_other n m (pos val) (hand_of s.shares t) (λ j. q.1 (sym j)) ∙ at.stands.hand m ∙ ap (option_map (worth v)) (subst (λ b. e.hand m ≡ (if b then Some w else e.hand m)) (sym q.0) refl ∙ write_hand e n w m)
    ]

    anew : HeldAnew x t v e.fresh after s z
    anew = record {
      kept = λ f l d. refl;
      wrap = refl;
      proofs = refl;
      locals = refl;
      hand = λ m. subst (λ h. held_as m h ≡ option_map (worth v) (after m)) (sym (get_or-set_same s.shares.hands t new [] hands_lt)) (held_then m);
      keys = λ m u h. after_from (λ (d : TokenTree). names_only (is_used e.fresh) d.key ≡ true) m u (subst (λ (d : TokenTree). names_only (is_used e.fresh) d.key ≡ true) (sym token_is) (at.stands.scoped.keys n cell.held cell.has)) (λ y j. at.stands.scoped.keys m y j) h;
      values = λ m u h. after_from (λ (d : TokenTree). names_only (is_used e.fresh) d.value ≡ true) m u (operand_used x known t v e round s names at a value_named) (λ y j. at.stands.scoped.values m y j) h;
    }

    stayed : Stayed x t s z
    stayed = record { hands = λ j q. get_or-set_other s.shares.hands t j new [] q; proofs = λ j q. refl; wraps = λ j q. refl; locals = λ j q. refl; kept = λ f l d. refl }

    goes : shared_step fits x t (Write c i a n ss) s ≡ Ok z
    goes = subst (λ r. ((r >>= (λ j. Ok (record s.memory { cells = slice_set s.memory.cells j val }))) >>= (λ m. with_shares m (r >>= (λ j. only_if (permits_cell j (held_as n (hand_of s.shares t))) (Ok (with_hand t new s.shares)))))) ≡ Ok z)
        (sym (number_is x t s c p i.operand there cell.index)) (subst (λ b. with_shares (record s.memory { cells = slice_set s.memory.cells k val }) (only_if b (Ok (with_hand t new s.shares))) ≡ Ok z) (sym cell.permits) refl)

module _ (fits : ℤ → Bool) (x : MachineWithProgram) (known : Env) (spares : Halt → Type 0) (m : Meanings) (laws : AreTrue) (few : length (fields_of x) ≤ 32) (t : ℕ) (there : t ≤ length x.program.threads) (names : are_names (assigned_locals (body_at x t) []) ≡ true) where
  pub write_shared : (c : ℕ) (i : IndexTree) (a : Opd) (k : ℕ) (ss : List ScriptTree) (p : Spot) (n : ℕ) (rest : ListTree) → IsPart x (scene_at x t).locals p (On (Write c i a k ss) n rest) → (e now : Env) → shared_row (scene_at x t) n (Write c i a k ss) e ≡ Ok now
      → (round : List (Round annotated_language Env)) (s : World) → IsWholeState x s → Standing x known t e round s → PassesUnless spares (shared_step fits x t (Write c i a k ss) s) (λ z. Advances (rules_of x (standing_in x known spares m)) t s now round z)
  write_shared c i a k ss p n rest part e now row round s whole is = by (cells_named c (decls_of x)) refl (and_parts (is_some (cells_named c (decls_of x))) (operand_is_named (assigned_locals (body_at x t) []) i.operand && (operand_is_named (assigned_locals (body_at x t) []) a && is_name k)) named).0 row where
    named : shared_is_named x (scene_at x t).locals (Write c i a k ss) ≡ true
    named = (and_parts (shared_is_named x (scene_at x t).locals (Write c i a k ss)) (list_is_named x (scene_at x t).locals (aims_of p) rest) part.named).0

    both : (operand_is_named (assigned_locals (body_at x t) []) i.operand ≡ true) × ((operand_is_named (assigned_locals (body_at x t) []) a && is_name k) ≡ true)
    both = and_parts (operand_is_named (assigned_locals (body_at x t) []) i.operand) (operand_is_named (assigned_locals (body_at x t) []) a && is_name k)
        (and_parts (is_some (cells_named c (decls_of x))) (operand_is_named (assigned_locals (body_at x t) []) i.operand && (operand_is_named (assigned_locals (body_at x t) []) a && is_name k)) named).1

    by : (o : Option Span) → cells_named c (decls_of x) ≡ o → is_some o ≡ true → on_some o (Ok e) (λ (q : Span). write_row n q i a k ss e) ≡ Ok now
        → PassesUnless spares (shared_step fits x t (Write c i a k ss) s) (λ z. Advances (rules_of x (standing_in x known spares m)) t s now round z)
    by None h some r = absurd (let never : false ≡ true = some in cc)
    by (Some q) h some r = write_goes x known t few (few_names x t names) laws round s whole there fits spares n c q i a k ss e now h both.0 (and_parts (operand_is_named (assigned_locals (body_at x t) []) a) (is_name k) both.1).0 r is
