-- Finite maps of numbers: what is at a key behind a change, and when two are the same.
use Rattle.std.proofs.Common.{◌≡◌, ℤ, Some, if◌then◌else◌}
use Rattle.std.specs.Ordering.{int_eq}
use Rattle.std.specs.Cmp.{int_cmp_total}
use Rattle.std.specs.FinMap.{int_cmp-IsAntisymmetric, same_map, get-insert}
use Rattle.std.specs.FinMap as finmap
use Rattle.sync_entries.specs.Narrow.{Map}

pub same : (m n : Map) → ((q : ℤ) → finmap.get m q ≡ finmap.get n q) → m ≡ n
same m n is = same_map int_cmp_total int_cmp-IsAntisymmetric m n is

pub get-put : (m : Map) (k v q : ℤ) → finmap.get (finmap.insert m k v) q ≡ (if int_eq q k then Some v else finmap.get m q)
get-put m k v q = get-insert int_cmp_total m k v q
