-- The views of seats, and the lists of entries that have a seat.
use Rattle.std.specs.Prelude.{◌≡◌, ℕ, ◌<◌, Bool, true, List, [], ◌∷◌, ◌++◌, filter, All, Some, nat_lt, nat_le}
use Rattle.std.specs.List.{range_with_len}
use Rattle.sync_words.specs.declared.entries.Entry.{Entry}
use Rattle.sync_words.specs.declared.rule.View.{View}
use Rattle.sync_words.specs.Entries.{IsLegal, log_of, has, entries_of, words_after, last_left}

-- the view of the first seat: all numbers, and no entry
abbrev pub opened : List ℕ → ℕ → View
opened words threads = record {
  words = words;
  threads = threads;
  numbers = range_with_len 0 threads;
  past = [];
  since = [];
}

-- all entries of the seat's numbers, each number's in its order
abbrev pub made : View → List Entry
made v = v.past ++ v.since

-- the log of one of the seat's numbers
abbrev pub log : View → ℕ → List Entry
log v thread = log_of thread (made v)

-- the view after one more entry
abbrev pub added : View → Entry → View
added v e = record v { since = v.since ++ e ∷ [] }

-- the part of a view that has the numbers of a test
abbrev pub part : (ℕ → Bool) → View → View
part test v = record v { numbers = filter test v.numbers; past = filter (λ e. test e.thread) (made v); since = [] }

-- the numbers below `at`, with their logs
abbrev pub below : ℕ → View → View
below at v = part (λ n. nat_lt n at) v

-- the numbers from `at` on, with their logs
abbrev pub from : ℕ → View → View
from at v = part (λ n. nat_le at n) v

-- two views put together
abbrev pub merged : View → View → View
merged v w = record v { numbers = v.numbers ++ w.numbers; past = made v ++ made w; since = [] }

-- a view that was merged into another
abbrev pub spent : View
spent = record { words = []; threads = 0; numbers = []; past = []; since = [] }

-- every thread number of the table is the seat's
abbrev pub HoldsAll : View → Type 0
HoldsAll v = (t : ℕ) → t < v.threads → has v.numbers t ≡ true

-- a list has the seat: its entries of the seat's numbers are first the older ones, each number's in its order, and then
-- those of `since`
abbrev pub Fits : List Entry → View → Type 0
Fits es v = (older : List Entry) × (entries_of v.numbers es ≡ older ++ v.since)
    × ((t : ℕ) → log_of t older ≡ log_of t v.past)

-- a list that is legal from the first words, has the seat, and has entries of the table's thread numbers alone
pub record IsListOf (es : List Entry) (v : View) : Type 0 where
  pub legal : IsLegal v.words es
  pub fits : Fits es v
  pub known : All (λ e. e.thread < v.threads) es
  pub alone : HoldsAll v → entries_of v.numbers es ≡ es

-- there is such a list
abbrev pub Listed : View → Type 0
Listed v = (es : List Entry) × IsListOf es v

-- there is such a list, and it ends with this entry
abbrev pub Ends : View → Entry → Type 0
Ends v e = (es : List Entry) × IsListOf (es ++ e ∷ []) v

-- there is such a list, it has the seat's entries and no others, and it leaves these words
abbrev pub IsWhole : View → List ℕ → Type 0
IsWhole v words = (es : List Entry) × IsListOf es v × (entries_of v.numbers es ≡ es) × (words_after v.words es ≡ words)

-- a seat with all numbers finds what its last entry on the word left there
abbrev pub ReadsBack : View → ℕ → ℕ → Type 0
ReadsBack v word found = HoldsAll v → (n : ℕ) → last_left word v.since ≡ Some n → found ≡ n

-- the one entry stands at the end of its number's log, and the other logs stay
abbrev pub AddsToLog : View → View → Entry → Type 0
AddsToLog v w e = (t : ℕ) → log w t ≡ log v t ++ log_of t (e ∷ [])

-- the view of a seat of the same table with the same numbers
abbrev pub IsSameSeat : View → View → Type 0
IsSameSeat v w = (w.words ≡ v.words) × (w.threads ≡ v.threads) × (w.numbers ≡ v.numbers)
