-- Entries of a table of words, and which lists of them one processor could have made, a step at a time (sequential
-- consistency, Lamport 1979).
use Rattle.std.specs.Prelude.{◌≡◌, ℕ, ◌+◌, ◌-◌, ◌%◌, ◌^◌, Bool, true, ◌&&◌, List, [], ◌∷◌, filter, length, nat_lt, ◌==◌}
use Rattle.std.specs.Prelude.{if◌then◌else◌, slice_index, slice_set, unwrap_or, Option, Some, None}
use Rattle.std.specs.List.{list_any}
use Rattle.sync_words.specs.declared.entries.Entry.{Entry}
use Rattle.sync_words.specs.declared.entries.Operation.{Operation}
use Rattle.sync_words.specs.declared.entries.Operation.TheVariants.{Load, Store, Swap, Add, Sub, Cas}

abbrev pub entry : ℕ → ℕ → Operation → Entry
entry thread word operation = record { thread = thread; word = word; operation = operation }

-- the old value of the operation, if it has one, is n
abbrev pub agrees : ℕ → Operation → Bool
agrees n (Load old) = n == old
agrees n (Store new) = true
agrees n (Swap new old) = n == old
agrees n (Add k old) = n == old
agrees n (Sub k old) = n == old
agrees n (Cas wanted new old) = n == old

-- what the operation makes of a word that is n. Sums and differences wrap at 64 bits
abbrev pub changed : ℕ → Operation → ℕ
changed n (Load old) = n
changed n (Store new) = new
changed n (Swap new old) = new
changed n (Add k old) = (n + k) % 2 ^ 64
changed n (Sub k old) = (n + (2 ^ 64 - k)) % 2 ^ 64
changed n (Cas wanted new old) = if n == wanted then new else n

-- the words after one entry
abbrev pub words_with : List ℕ → Entry → List ℕ
words_with words e = slice_set words e.word (changed (slice_index words e.word) e.operation)

-- the words after a list of entries
abbrev pub words_after : List ℕ → List Entry → List ℕ
words_after words [] = words
words_after words (e ∷ es) = words_after (words_with words e) es

-- each entry's word is there, and each old value is what the entries before it left
abbrev pub is_legal : List ℕ → List Entry → Bool
is_legal words [] = true
is_legal words (e ∷ es) = nat_lt e.word (length words) && agrees (slice_index words e.word) e.operation
    && is_legal (words_with words e) es

-- the list is legal from these first words
abbrev pub IsLegal : List ℕ → List Entry → Type 0
IsLegal words es = is_legal words es ≡ true

-- the log of a thread: its entries, in order
abbrev pub log_of : ℕ → List Entry → List Entry
log_of thread es = filter (λ e. e.thread == thread) es

-- the thread number is among these
abbrev pub has : List ℕ → ℕ → Bool
has numbers thread = list_any (λ n. n == thread) numbers

-- the entries of these thread numbers, in order
abbrev pub entries_of : List ℕ → List Entry → List Entry
entries_of numbers es = filter (λ e. has numbers e.thread) es

-- what the operation found in its word; a store does not tell, and what it leaves does not go with what it finds
abbrev pub found_by : Operation → Option ℕ
found_by (Load old) = Some old
found_by (Store new) = None
found_by (Swap new old) = Some old
found_by (Add k old) = Some old
found_by (Sub k old) = Some old
found_by (Cas wanted new old) = Some old

-- what the operation left in its word
abbrev pub left_by : Operation → ℕ
left_by operation = changed (unwrap_or (found_by operation) 0) operation

-- the later of two answers
abbrev pub later : Option ℕ → Option ℕ → Option ℕ
later earlier (Some n) = Some n
later earlier None = earlier

-- what the last of these entries on a word left there
abbrev pub last_left : ℕ → List Entry → Option ℕ
last_left word [] = None
last_left word (e ∷ es) = later (if e.word == word then Some (left_by e.operation) else None) (last_left word es)
