-- Entries as the code keeps them: each with the entry that its key had before.
use Rattle.std.specs.Prelude.{◌≡◌, List, [], ◌∷◌, map}
use Rattle.sync_typing_ledgers.specs.declared.ledgers.Step.{Step}
use Rattle.sync_typing_ledgers.specs.Entries.{Entry, newest}

abbrev pub entry_of : Step → Entry
entry_of s = record { key = s.key; value = s.value }

abbrev pub entries_of : List Step → List Entry
entries_of ss = map entry_of ss

-- each hides what its key stood for before
abbrev pub HideOlder : List Step → Type 0
HideOlder [] = Unit {0}
HideOlder (s ∷ ss) = (s.hidden ≡ newest s.key (entries_of ss)) × HideOlder ss
