-- How what is said of seats and of lists agrees.
use Rattle.std.specs.Prelude.{◌≡◌, ℕ, ◌<◌, ◌↔◌, Bool, true, List, [], filter, length, if◌then◌else◌}
use Rattle.sync_words.specs.declared.entries.Entry.{Entry}
use Rattle.sync_words.specs.declared.rule.View.{View}
use Rattle.sync_words.specs.Entries.{log_of, has}
use Rattle.sync_words.specs.Views.{log}

-- the logs of the seat's numbers are those of this list, and it has no other log
abbrev pub HasLogsOf : View → List Entry → Type 0
HasLogsOf v es = (t : ℕ) → log v t ≡ (if has v.numbers t then log_of t es else [])

-- some of these numbers pass the test exactly where one of them is there that does
abbrev pub AreSome : (ℕ → Bool) → List ℕ → Type 0
AreSome test numbers = (0 < length (filter test numbers)) ↔ ((t : ℕ) × (has numbers t ≡ true) × (test t ≡ true))
