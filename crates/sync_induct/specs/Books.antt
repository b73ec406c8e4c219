-- The proofs of a text as the check of its obligations has them.
use Rattle.std.specs.Prelude.{◌≡◌}
use Rattle.std.specs.HashMap.{get}
use Rattle.sync_terms.specs.Stored.{Stored}
use Rattle.sync_terms.specs.Proofs.{titles_of, AreScriptsOf}
use Rattle.sync_induct.specs.declared.index.Title.{Title}
use Rattle.sync_induct.specs.declared.index.Book.{Book}
use Rattle.sync_induct.specs.Titles.{same_title, first_at}

-- the places are those of the first proof of each title
abbrev pub ArePlaced : Book → Type 0
ArePlaced b = (t : Title) → get same_title b.places.now t ≡ first_at t 0 (titles_of b.proofs.now)

-- and the scripts are of the store
pub record IsBook (s : Stored) (b : Book) : Type 0 where
  pub scripts : AreScriptsOf s b.proofs.now
  pub placed : ArePlaced b
