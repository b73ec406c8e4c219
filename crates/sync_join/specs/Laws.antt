-- Laws of joins, which exchanges of tokens stand on.
use Rattle.std.specs.Prelude.{◌≡◌, ◌≢◌, ℕ, List, ◌∷◌, ◌++◌}
use Rattle.sync_machine.specs.declared.fields.Field.{Field}
use Rattle.sync_join.specs.declared.tokens.Token.{Token}
use Rattle.sync_join.specs.Shards.{Kept}
use Rattle.sync_join.specs.Join.{value_at, join_of}

-- where a token stands in the bag does not matter
abbrev pub BagOrder : Type 0
BagOrder = (fs : List Field) (xs : List Token) (t : Token) (ys : List Token) (kept : Kept) → join_of fs (xs ++ t ∷ ys) kept ≡ join_of fs (t ∷ (xs ++ ys)) kept

-- a token says nothing of another field
abbrev pub OtherFields : Type 0
OtherFields = (fs : List Field) (t : Token) (bag : List Token) (kept : Kept) (f : ℕ) → t.field ≢ f → value_at fs (t ∷ bag) kept f ≡ value_at fs bag kept f
