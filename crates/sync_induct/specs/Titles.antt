-- The titles of proofs: an operation, and a statement or an invariant.
use Rattle.std.specs.Prelude.{ℕ, suc, List, [], ◌∷◌, Bool, true, false, ◌&&◌, nat_eq, Option, Some, None, if◌then◌else◌}
use Rattle.std.specs.Bool.{beq}
use Rattle.sync_terms.specs.declared.proofs.Claim.{Claim}
use Rattle.sync_terms.specs.declared.proofs.Claim.TheVariants.{At, Keeps}
use Rattle.sync_terms.specs.declared.proofs.Obligation.{Obligation}
use Rattle.sync_induct.specs.declared.index.Title.{Title}

abbrev pub title : ℕ → Claim → Title
title op (At n) = record { op = op; keeps = false; number = n }
title op (Keeps n) = record { op = op; keeps = true; number = n }

abbrev pub titled : Obligation → Title
titled o = title o.op o.claim

abbrev pub same_title : Title → Title → Bool
same_title a b = nat_eq a.op b.op && (beq a.keeps b.keeps && nat_eq a.number b.number)

-- the place of the first with a title, counted from n
unfoldable pub first_at : Title → ℕ → List Obligation → Option ℕ
first_at t n [] = None
first_at t n (o ∷ os) = if same_title (titled o) t then Some n else first_at t (suc n) os
