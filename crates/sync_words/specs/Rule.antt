-- The rule of the table: the words and the logs of all seats come from one legal list.
use Rattle.std.specs.Prelude.{◌≡◌, ℕ, ◌<◌, true, List, [], ◌∷◌, ◌++◌, All, slice_index}
use mathlib.Core.Option.{some}
use lib.ListN.{get_elem?}
use Rattle.atomic_table.specs.Table.{State, Me}
use Rattle.sync_words.specs.declared.entries.Entry.{Entry}
use Rattle.sync_words.specs.declared.rule.View.{View}
use Rattle.sync_words.specs.Entries.{IsLegal, agrees, words_with, words_after, has}
use Rattle.sync_words.specs.Views.{added, Fits, Listed, Ends, ReadsBack, AddsToLog}

-- One list is legal from the first words, leaves the words, and has every seat. Each thread number is in exactly one
-- seat, and the list has entries of these numbers alone.
pub record Kept (first : List ℕ) (threads : ℕ) (s : State ℕ View) : Type 0 where
  pub entries : List Entry
  pub legal : IsLegal first entries
  pub leaves : words_after first entries ≡ s.words
  pub known : All (λ e. e.thread < threads) entries
  -- the seat that a number is in
  pub seat : ℕ → ℕ
  pub placed : (t : ℕ) → t < threads → (v : View) × (get_elem? s.views (seat t) ≡ some v) × (has v.numbers t ≡ true)
  pub alone : (id : ℕ) (v : View) (t : ℕ) → get_elem? s.views id ≡ some v → has v.numbers t ≡ true
      → (seat t ≡ id) × (t < threads)
  pub fits : (id : ℕ) (v : View) → get_elem? s.views id ≡ some v → Fits entries v

-- A state of the table right behind a step of this view's seat with this entry: its list ends with the entry, whose
-- operation found what the list before it left in its word, and the words are as the step left them.
pub record Stands (v : View) (e : Entry) : Type 0 where
  pub state : State ℕ View
  pub rule : Kept v.words v.threads state
  pub seat : (id : ℕ) × (get_elem? state.views id ≡ some v)
  pub before : List Entry
  pub last : rule.entries ≡ before ++ e ∷ []
  pub found : agrees (slice_index (words_after v.words before) e.word) e.operation ≡ true
  pub leaves : state.words ≡ words_with (words_after v.words before) e

-- some state of the table has a seat with this view
unfoldable pub IsSeated : View → Type 0
IsSeated v = (s : State ℕ View) × Kept v.words v.threads s × ((id : ℕ) × (get_elem? s.views id ≡ some v))

-- what a step that makes an entry tells its seat
pub record Makes (e : Entry) (m w : Me ℕ View) : Type 0 where
  pub view : w.0 ≡ added m.0 e
  pub slots : w.1 ≡ m.1
  pub ends : Ends w.0 e
  pub stands : Stands w.0 e
  pub logs : AddsToLog m.0 w.0 e

-- what a step that finds a value tells besides
pub record Finds (e : Entry) (found : ℕ) (m w : Me ℕ View) : Type 0 where
  pub makes : Makes e m w
  pub back : ReadsBack m.0 e.word found

-- what a step tells that changes nothing
pub record Learns (m w : Me ℕ View) : Type 0 where
  pub view : w.0 ≡ m.0
  pub slots : w.1 ≡ m.1
  pub listed : Listed w.0
  pub rests : IsSeated w.0
