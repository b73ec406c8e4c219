-- What `same` keeps of the facts that it looked at.
use Rattle.std.specs.Prelude.{◌≡◌, ℕ, ◌-◌, ◌≤◌, Bool, false, ◌||◌, List, map, length, take, Option, Some, None, if◌then◌else◌}
use Rattle.std.specs.List.{list_any, AllZip}
use Rattle.sync_terms.specs.Trees.{Formula, Not}
use Rattle.sync_terms.specs.Stored.{Stored, IsShared}
use Rattle.sync_kernel_facts.specs.declared.literals.Literal.{Literal}
use Rattle.sync_kernel.specs.declared.seen.Seen.{Seen}
use Rattle.sync_kernel_facts.specs.Facts.{Fact, is_plain}
use Rattle.sync_kernel_facts.specs.Literals.{literal_form, IsLiteral, IsBare, denied_by, IsEntry}
use Rattle.sync_kernel.specs.Opposed.{closes_same, is_undone, is_fact}

-- what a fact without parameters says, and what it denies
abbrev pub says : Fact → Option Formula
says f = if is_plain f then Some f.form else None

abbrev pub denies : Fact → Option Formula
denies f = if is_plain f then denied_by f.form else None

-- `same` closes a branch with these facts
abbrev pub is_closed : List Fact → Bool
is_closed facts = list_any (closes_same facts) facts

-- all of these facts were looked at, and none before the newest closed the branch
pub record HasSeen (s : Stored) (facts : List Fact) (seen : Seen) : Type 0 where
  pub said : AllZip (IsEntry s) seen.said (map says facts)
  pub denied : AllZip (IsEntry s) seen.denied (map denies facts)
  pub before : is_closed (take (length facts - 1) facts) ≡ false
  pub closed : seen.closed ≡ is_closed facts

-- whether a fact that was looked at denies what is said, or is denied by it
abbrev pub TellsOpposed : Seen → Literal → Option Literal → Bool → Type 0
TellsOpposed seen says denies answer =
    (s : Stored) (facts : List Fact) → IsShared s → HasSeen s facts seen → IsLiteral s says → IsBare s says
    → IsEntry s denies (denied_by (literal_form s says))
    → answer ≡ (is_undone facts (literal_form s says) || is_fact facts (Not (literal_form s says)))

-- how many facts were looked at
abbrev pub seen_count : Seen → ℕ
seen_count seen = length seen.said

-- they are the oldest of these
pub record IsSeen (s : Stored) (facts : List Fact) (seen : Seen) : Type 0 where
  pub within : seen_count seen ≤ length facts
  pub oldest : HasSeen s (take (seen_count seen) facts) seen
