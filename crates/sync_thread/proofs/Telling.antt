-- A step and its entry do the same.
use Rattle.std.proofs.Common.{◌≡◌, ℕ, zero, suc, ◌+◌, ◌<◌, Bool, true, false, if◌then◌else◌, List, [], ◌∷◌, ◌++◌}
use Rattle.std.proofs.Common.{length, replicate, slice_set, slice_index, nat_eq, nat_lt, Option, Some, None, Result, Ok}
use Rattle.std.proofs.Common.{Err, refl, sym, ap, subst, ◌∙◌, arith, length-append, ltb-true, zero-add}
use Rattle.sync_base.specs.Outcome.{◌>>=◌}
use Rattle.sync_words.specs.declared.entries.Entry.{Entry}
use Rattle.sync_words.specs.declared.entries.Operation.TheVariants as operation
use Rattle.sync_words.specs.Entries.{entry, changed, words_with}
use Rattle.sync_thread.specs.declared.operands.CodeDecl.{CodeDecl}
use Rattle.sync_thread.specs.declared.operands.CodeDecl.TheVariants as code
use Rattle.sync_thread.specs.declared.operands.Opd.{Opd}
use Rattle.sync_thread.specs.declared.operands.WordOp.{WordOp}
use Rattle.sync_thread.specs.declared.operands.WordOp.TheVariants.{Load, Store, Swap, Add, Sub, Cas}
use Rattle.sync_thread.specs.Arrays.{first_words, first_cells, Span, shifted, words_named, cells_named}
use Rattle.sync_thread.specs.Control.{Halt, Broken}
use Rattle.sync_thread.specs.Code.{Read, Write, Peek, Operate, Print, Memory, number_in, cell_number}
use Rattle.sync_thread.specs.Code.{word_number, word_at, cell_at, operand_value, logged, effect_of, setting, set_if}
use Rattle.sync_thread.specs.Logs.{cell_place, ticket_place}
use Rattle.sync_thread.specs.Tables.{IsTableOf, StepsTell}

-- ---- answers

abbrev Gives : {A : Type 0} → Result A Halt → A → Type 0
Gives r a = r ≡ Ok a

abbrev ok_or : {A : Type 0} → A → Result A Halt → A
ok_or a (Ok b) = b
ok_or a (Err h) = a

ok_is : {A : Type 0} (a b : A) → Gives (Ok a) b → a ≡ b
ok_is a b is = ap (ok_or a) is

no_answer : {A B : Type 0} (h : Halt) (a : A) → Gives (Err h) a → B
no_answer h a is = absurd (cc)

-- ---- lists

set_front : (xs ys : List ℕ) (i v : ℕ) → i < length xs → slice_set (xs ++ ys) i v ≡ slice_set xs i v ++ ys
set_front [] ys i v less = absurd (omega (arith, less))
set_front (x ∷ xs) ys zero v less = refl
set_front (x ∷ xs) ys (suc i) v less = ap (λ zs. x ∷ zs) (set_front xs ys i v (omega (arith, less)))

set_back : (xs ys : List ℕ) (j v : ℕ) → slice_set (xs ++ ys) (length xs + j) v ≡ xs ++ slice_set ys j v
set_back [] ys j v = ap (λ i. slice_set ys i v) (zero-add j)
set_back (x ∷ xs) ys j v =
    let same : suc (length xs + j) ≡ suc (length xs) + j = omega arith in
    subst (λ i. slice_set (x ∷ (xs ++ ys)) i v ≡ x ∷ (xs ++ slice_set ys j v)) same
    (ap (λ zs. x ∷ zs) (set_back xs ys j v))

index_front : (xs ys : List ℕ) (i : ℕ) → i < length xs → slice_index (xs ++ ys) i ≡ slice_index xs i
index_front [] ys i less = absurd (omega (arith, less))
index_front (x ∷ xs) ys zero less = refl
index_front (x ∷ xs) ys (suc i) less = index_front xs ys i (omega (arith, less))

set_own : (xs : List ℕ) (i : ℕ) → slice_set xs i (slice_index xs i) ≡ xs
set_own [] i = refl
set_own (x ∷ xs) zero = refl
set_own (x ∷ xs) (suc i) = ap (λ zs. x ∷ zs) (set_own xs i)

length_set : (xs : List ℕ) (i v : ℕ) → length (slice_set xs i v) ≡ length xs
length_set [] i v = refl
length_set (x ∷ xs) zero v = refl
length_set (x ∷ xs) (suc i) v = ap suc (length_set xs i v)

length_many : (n v : ℕ) → length (replicate n v) ≡ n
length_many zero v = refl
length_many (suc n) v = ap suc (length_many n v)

-- ---- arrays

in_span : (b n i k : ℕ) → number_in (Some (record { base = b; len = n })) i ≡ Ok k → (i < n) × (k ≡ b + i)
in_span b n i k is = by (nat_lt i n) refl is where
  by : (c : Bool) → nat_lt i n ≡ c → Gives (if c then Ok (b + i) else Err Broken) k → (i < n) × (k ≡ b + i)
  by true less is = (ltb-true i n less, sym (ok_is (b + i) k is))
  by false less is = no_answer Broken k is

abbrev Shifted : ℕ → Option Span → ℕ → ℕ → Type 0
Shifted n o i k = (j : ℕ) × (number_in o i ≡ Ok j) × (k ≡ n + j)

in_shifted : (n : ℕ) (o : Option Span) (i k : ℕ) → number_in (shifted n o) i ≡ Ok k → Shifted n o i k
in_shifted n None i k is = no_answer Broken k is
in_shifted n (Some s) i k is = by (nat_lt i s.len) is where
  by : (c : Bool) → Gives (if c then Ok ((n + s.base) + i) else Err Broken) k
      → (j : ℕ) × Gives (if c then Ok (s.base + i) else Err Broken) j × (k ≡ n + j)
  by true is = let same = ok_is ((n + s.base) + i) k is in (s.base + i, refl, omega (arith, same))
  by false is = no_answer Broken k is

words_within : (x : ℕ) (ds : List CodeDecl) (i k : ℕ) → number_in (words_named x ds) i ≡ Ok k
    → k < length (first_words ds)
words_within x [] i k is = no_answer Broken k is
words_within x (code.Word y n v ∷ ds) i k is = by (nat_eq x y) is (words_within x ds i) where
  by : (c : Bool) → number_in (if c then Some (record { base = 0; len = n }) else shifted n (words_named x ds)) i ≡ Ok k
      → ((j : ℕ) → number_in (words_named x ds) i ≡ Ok j → j < length (first_words ds))
      → k < length (replicate n v ++ first_words ds)
  by true is later =
      let span = in_span 0 n i k is in
      let less = span.0 in
      let same = span.1 in
      let one = length-append (replicate n v) (first_words ds) in
      let two = length_many n v in
      omega (arith, less, same, one, two)
  by false is later =
      let found = in_shifted n (words_named x ds) i k is in
      let less = later found.0 found.1 in
      let same = found.2 in
      let one = length-append (replicate n v) (first_words ds) in
      let two = length_many n v in
      omega (arith, less, same, one, two)
words_within x (code.Cell y n v ∷ ds) i k is = words_within x ds i k is

cells_within : (x : ℕ) (ds : List CodeDecl) (i k : ℕ) → number_in (cells_named x ds) i ≡ Ok k
    → k < length (first_cells ds)
cells_within x [] i k is = no_answer Broken k is
cells_within x (code.Cell y n v ∷ ds) i k is = by (nat_eq x y) is (cells_within x ds i) where
  by : (c : Bool) → number_in (if c then Some (record { base = 0; len = n }) else shifted n (cells_named x ds)) i ≡ Ok k
      → ((j : ℕ) → number_in (cells_named x ds) i ≡ Ok j → j < length (first_cells ds))
      → k < length (replicate n v ++ first_cells ds)
  by true is later =
      let span = in_span 0 n i k is in
      let less = span.0 in
      let same = span.1 in
      let one = length-append (replicate n v) (first_cells ds) in
      let two = length_many n v in
      omega (arith, less, same, one, two)
  by false is later =
      let found = in_shifted n (cells_named x ds) i k is in
      let less = later found.0 found.1 in
      let same = found.2 in
      let one = length-append (replicate n v) (first_cells ds) in
      let two = length_many n v in
      omega (arith, less, same, one, two)
cells_within x (code.Word y n v ∷ ds) i k is = cells_within x ds i k is

-- ---- steps

-- What an operation leaves does not go with what its entry says that it found.
logged_leaves : (f : Opd → ℕ) (op : WordOp) (n found : ℕ) → changed n (logged f op found) ≡ effect_of f op n
logged_leaves f Load n found = refl
logged_leaves f (Store a) n found = refl
logged_leaves f (Swap a) n found = refl
logged_leaves f (Add a) n found = refl
logged_leaves f (Sub a) n found = refl
logged_leaves f (Cas a b) n found = refl

-- a memory with the same words and cells
same_table : (ds : List CodeDecl) (m after : Memory) (table : List ℕ) → after.words ≡ m.words → after.cells ≡ m.cells
    → IsTableOf ds m table → IsTableOf ds after table
same_table ds m after table words cells is = record {
  words = ap length words ∙ is.words;
  cells = ap length cells ∙ is.cells;
  ticket = is.ticket;
  laid = is.laid ∙ ap (λ ws. ws ++ (m.cells ++ is.ticket ∷ [])) (sym words)
      ∙ ap (λ cs. after.words ++ (cs ++ is.ticket ∷ [])) (sym cells);
}

set_if_words : (t : ℕ) (x : Option ℕ) (n : ℕ) (m : Memory) → (set_if t x n m).words ≡ m.words
set_if_words t (Some x) n m = refl
set_if_words t None n m = refl

set_if_cells : (t : ℕ) (x : Option ℕ) (n : ℕ) (m : Memory) → (set_if t x n m).cells ≡ m.cells
set_if_cells t (Some x) n m = refl
set_if_cells t None n m = refl

-- the number that both answers go on with
pub record Both {B C : Type 0} (r : Result ℕ Halt) (f : ℕ → Result B Halt) (h : ℕ → Result C Halt) (b : B) (c : C)
    : Type 0 where
  pub number : ℕ
  pub is : r ≡ Ok number
  pub one : f number ≡ Ok b
  pub two : h number ≡ Ok c

both_go : {B C : Type 0} (r : Result ℕ Halt) (f : ℕ → Result B Halt) (h : ℕ → Result C Halt) (b : B) (c : C)
    → (r >>= f) ≡ Ok b → (r >>= h) ≡ Ok c → Both r f h b c
both_go (Ok k) f h b c one two = record { number = k; is = refl; one = one; two = two }
both_go (Err e) f h b c one two = no_answer e b one

read_tells : (ds : List CodeDecl) (t x c : ℕ) (i : Opd) (m after : Memory) (found : ℕ) (e : Entry) (table : List ℕ)
    → IsTableOf ds m table
    → (cell_number ds t m c i >>= (λ k. Ok (entry t (cell_place ds k) (operation.Load found)))) ≡ Ok e
    → (cell_number ds t m c i >>= (λ k. Ok (setting t x (cell_at m k) m))) ≡ Ok after
    → IsTableOf ds after (words_with table e)
read_tells ds t x c i m after found e table is tells goes =
    let go = both_go (cell_number ds t m c i) (λ k. Ok (entry t (cell_place ds k) (operation.Load found)))
    (λ k. Ok (setting t x (cell_at m k) m)) e after tells goes in
    let k : ℕ = go.number in
    subst (λ (d : Entry). IsTableOf ds after (words_with table d))
    (ok_is (entry t (cell_place ds k) (operation.Load found)) e go.one)
    (subst (IsTableOf ds after) (sym (set_own table (cell_place ds k)))
    (subst (λ z. IsTableOf ds z table) (ok_is (setting t x (cell_at m k) m) after go.two)
    (same_table ds m (setting t x (cell_at m k) m) table refl refl is)))

write_tells : (ds : List CodeDecl) (t c : ℕ) (i : Opd) (v : ℕ) (m after : Memory) (e : Entry) (table : List ℕ)
    → IsTableOf ds m table
    → (cell_number ds t m c i >>= (λ k. Ok (entry t (cell_place ds k) (operation.Store v)))) ≡ Ok e
    → (cell_number ds t m c i >>= (λ k. Ok (record m { cells = slice_set m.cells k v }))) ≡ Ok after
    → IsTableOf ds after (words_with table e)
write_tells ds t c i v m after e table is tells goes =
    let go = both_go (cell_number ds t m c i) (λ k. Ok (entry t (cell_place ds k) (operation.Store v)))
    (λ k. Ok (record m { cells = slice_set m.cells k v })) e after tells goes in
    let k : ℕ = go.number in
    let within = cells_within c ds (operand_value m t i) k go.is in
    let many = is.cells in
    let less : k < length m.cells = omega (arith, within, many) in
    let next : Memory = record m { cells = slice_set m.cells k v } in
    let laid : slice_set table (cell_place ds k) v ≡ m.words ++ (slice_set m.cells k v ++ is.ticket ∷ []) =
    ap (λ ws. slice_set ws (cell_place ds k) v) is.laid
    ∙ ap (λ w. slice_set (m.words ++ (m.cells ++ is.ticket ∷ [])) (w + k) v) (sym is.words)
    ∙ set_back m.words (m.cells ++ is.ticket ∷ []) k v
    ∙ ap (λ cs. m.words ++ cs) (set_front m.cells (is.ticket ∷ []) k v less) in
    let made : IsTableOf ds next (slice_set table (cell_place ds k) v) =
    record { words = is.words; cells = length_set m.cells k v ∙ is.cells; ticket = is.ticket; laid = laid } in
    subst (λ (d : Entry). IsTableOf ds after (words_with table d))
    (ok_is (entry t (cell_place ds k) (operation.Store v)) e go.one)
    (subst (λ z. IsTableOf ds z (slice_set table (cell_place ds k) v)) (ok_is next after go.two) made)

operate_tells : (ds : List CodeDecl) (t : ℕ) (x : Option ℕ) (op : WordOp) (w : ℕ) (i : Opd) (m after : Memory)
    (found : ℕ) (e : Entry) (table : List ℕ) → IsTableOf ds m table
    → (word_number ds t m w i >>= (λ k. Ok (entry t k (logged (operand_value m t) op found)))) ≡ Ok e
    → (word_number ds t m w i >>= (λ k. Ok (set_if t x (word_at m k)
    (record m { words = slice_set m.words k (effect_of (operand_value m t) op (word_at m k)) })))) ≡ Ok after
    → IsTableOf ds after (words_with table e)
operate_tells ds t x op w i m after found e table is tells goes =
    let f : Opd → ℕ = operand_value m t in
    let go = both_go (word_number ds t m w i) (λ k. Ok (entry t k (logged f op found)))
    (λ k. Ok (set_if t x (word_at m k) (record m { words = slice_set m.words k (effect_of f op (word_at m k)) })))
    e after
    tells goes in
    let k : ℕ = go.number in
    let within = words_within w ds (operand_value m t i) k go.is in
    let many = is.words in
    let less : k < length m.words = omega (arith, within, many) in
    let rest : List ℕ = m.cells ++ is.ticket ∷ [] in
    let stands : slice_index table k ≡ word_at m k =
    ap (λ ws. slice_index ws k) is.laid ∙ index_front m.words rest k less in
    let new : ℕ = effect_of f op (word_at m k) in
    let left : changed (slice_index table k) (logged f op found) ≡ new =
    logged_leaves f op (slice_index table k) found ∙ ap (effect_of f op) stands in
    let next : Memory = record m { words = slice_set m.words k new } in
    let after_entry : List ℕ = slice_set table k (changed (slice_index table k) (logged f op found)) in
    let laid : after_entry ≡ slice_set m.words k new ++ (m.cells ++ is.ticket ∷ []) =
    ap (slice_set table k) left ∙ ap (λ ws. slice_set ws k new) is.laid ∙ set_front m.words rest k new less in
    let made : IsTableOf ds next after_entry =
    record { words = length_set m.words k new ∙ is.words; cells = is.cells; ticket = is.ticket; laid = laid } in
    let gone : IsTableOf ds (set_if t x (word_at m k) next) after_entry =
    same_table ds next (set_if t x (word_at m k) next) after_entry (set_if_words t x (word_at m k) next)
    (set_if_cells t x (word_at m k) next) made in
    subst (λ (d : Entry). IsTableOf ds after (words_with table d)) (ok_is (entry t k (logged f op found)) e go.one)
    (subst (λ z. IsTableOf ds z after_entry) (ok_is (set_if t x (word_at m k) next) after go.two) gone)

print_tells : (ds : List CodeDecl) (t found : ℕ) (m after : Memory) (e : Entry) (table : List ℕ)
    → IsTableOf ds m table
    → entry t (ticket_place ds) (operation.Add 1 found) ≡ e → after.words ≡ m.words → after.cells ≡ m.cells
    → IsTableOf ds after (words_with table e)
print_tells ds t found m after e table is same words cells =
    let p : ℕ = ticket_place ds in
    let new : ℕ = changed (slice_index table p) (operation.Add 1 found) in
    let rest : List ℕ = m.cells ++ is.ticket ∷ [] in
    let many = is.cells in
    let last : length (first_cells ds) ≡ length m.cells + 0 = omega (arith, many) in
    let laid : slice_set table p new ≡ m.words ++ (m.cells ++ new ∷ []) =
    ap (λ ws. slice_set ws p new) is.laid
    ∙ ap (λ n. slice_set (m.words ++ rest) (n + length (first_cells ds)) new) (sym is.words)
    ∙ set_back m.words rest (length (first_cells ds)) new
    ∙ ap (λ n. m.words ++ slice_set rest n new) last
    ∙ ap (λ cs. m.words ++ cs) (set_back m.cells (is.ticket ∷ []) 0 new) in
    let made : IsTableOf ds m (slice_set table p new) =
    record { words = is.words; cells = is.cells; ticket = new; laid = laid } in
    subst (λ (d : Entry). IsTableOf ds after (words_with table d)) same
    (same_table ds m after (slice_set table p new) words cells made)

pub steps_tell : StepsTell
steps_tell ds t (Read x c i) m after found e table is tells goes =
    read_tells ds t x c i m after found e table is tells goes
steps_tell ds t (Peek x c i) m after found e table is tells goes =
    read_tells ds t x c i m after found e table is tells goes
steps_tell ds t (Write c i o) m after found e table is tells goes =
    write_tells ds t c i (operand_value m t o) m after e table is tells goes
steps_tell ds t (Operate x op w i) m after found e table is tells goes =
    operate_tells ds t x op w i m after found e table is tells goes
steps_tell ds t (Print l o) m after found e table is tells goes =
    let printed : Memory = record m { lines = m.lines ++ record { label = l; value = operand_value m t o } ∷ [] } in
    print_tells ds t found m after e table is (ok_is (entry t (ticket_place ds) (operation.Add 1 found)) e tells)
    (sym (ap (λ (z : Memory). z.words) (ok_is printed after goes)))
    (sym (ap (λ (z : Memory). z.cells) (ok_is printed after goes)))
