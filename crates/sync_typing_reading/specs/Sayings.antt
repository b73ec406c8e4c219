-- What symbols stand for by a ledger.
use Rattle.std.specs.Prelude.{◌≡◌, ℕ, suc, ◌-◌, ◌%◌, not, ◌||◌, nat_eq, nat_lt, Option, Some, None, option_map, unwrap_or, if◌then◌else◌}
use Rattle.std.specs.Option.{option_map_or}
use Rattle.sync_terms.specs.declared.nodes.TermId.{TermId}
use Rattle.sync_terms.specs.Stored.{Stored, tree, IsTerm}
use Rattle.sync_terms.specs.Trees.{Tree, Name}
use Rattle.sync_typing_ledgers.specs.declared.ledgers.Found.{Found}
use Rattle.sync_typing_ledgers.specs.Entries.{Kept, found_at, newest}
use Rattle.sync_typing_reading.specs.declared.sayings.Saying.{Saying}
use Rattle.sync_typing_reading.specs.declared.sayings.Saying.TheVariants as says

-- the value of an entry
abbrev pub entry_value : Option TermId → ℕ
entry_value None = 0
entry_value (Some t) = suc t.0

-- What a symbol's entry says. Below the floor fields, `old`, `new` and `wrap` keep their terms, names stand for
-- themselves, and `held` of a token stands for nothing.
abbrev pub said_by : ℕ → Found → Saying
said_by x f =
    if nat_eq f.value 0 then says.Nothing
    else if not f.is_below || nat_lt x 64 then says.Term (record { 0 = f.value - 1 })
    else if nat_eq (x % 4) 2 then says.Nothing
    else says.Itself

abbrev pub said_in : Kept → ℕ → Saying
said_in k x = option_map_or (said_by x) (option_map (found_at k.floor) (newest x k.entries)) says.Nothing

-- the term that is said, if one is
abbrev pub said_tree : Stored → ℕ → Saying → Option Tree
said_tree s x says.Nothing = None
said_tree s x says.Itself = Some (Name x)
said_tree s x (says.Term t) = Some (tree s t)

abbrev pub tree_in : Stored → Kept → ℕ → Option Tree
tree_in s k x = said_tree s x (said_in k x)

-- the term that a symbol stands for; itself where nothing is said
abbrev pub stands_in : Stored → Kept → ℕ → Tree
stands_in s k x = unwrap_or (tree_in s k x) (Name x)

-- the terms that are said are those of a store
abbrev pub AreSaidOf : Stored → Kept → Type 0
AreSaidOf s k = (x : ℕ) (t : TermId) → said_in k x ≡ says.Term t → IsTerm s t
