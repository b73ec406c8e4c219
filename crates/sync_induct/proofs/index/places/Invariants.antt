use Rattle.std.proofs.Common.{◌≡◌, take, drop, List, []}
use Rattle.std.specs.Option.{is_some}
use Rattle.std.specs.HashSet.{contains}
use Rattle.std.specs.HashMap.{get}
use Rattle.sync_base.specs.Outcome.{first}
use Rattle.sync_terms.specs.declared.proofs.Obligation.{Obligation}
use Rattle.sync_induct.specs.declared.index.Title.{Title}
use Rattle.sync_induct.specs.Checks.{has_title, stray_fault}
use Rattle.sync_terms.specs.Proofs.{titles_of}
use Rattle.sync_induct.specs.Titles.{same_title, first_at}
use Rattle.sync_induct.proofs.index.places.Given as goal

abbrev pub invariant-loop-i : goal.invariant-loop-i
invariant-loop-i l = record {
  placed : (t : Title) → first (get same_title l.places t) (first_at t l.i (titles_of (drop l.i l.proofs))) ≡ first_at t 0 (titles_of l.proofs);
  held : (t : Title) → is_some (get same_title l.places t) ≡ has_title (titles_of (take l.i l.proofs)) t;
  strays : (os : List Obligation) → ((t : Title) → contains same_title l.wanted t ≡ has_title os t) → stray_fault os (titles_of (take l.i l.proofs)) (titles_of (drop l.i l.proofs)) ≡ stray_fault os [] (titles_of l.proofs);
}
