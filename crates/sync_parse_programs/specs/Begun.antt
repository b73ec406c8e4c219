-- What the productions begin with that programs take from elsewhere, and what may follow them; what begins and follows statements.
use Rattle.std.specs.Prelude.{◌≡◌, ℕ, true, false, List, [], ◌∷◌, ◌++◌}
use Rattle.sync_lex.specs.declared.signs.Sign.TheVariants as sign
use Rattle.sync_parse_forms.specs.Fronts.{code, Set, any, only, both, others}
use Rattle.sync_parse_forms.specs.Deciding.{Begun, decided}
use Rattle.sync_parse_programs.specs.Known.{Known, an_expr, a_script}
use Rattle.sync_parse_programs.specs.Statements.{statement}
use Rattle.sync_parse_programs.specs.Programs.{program}

-- what begins an expression
abbrev pub begins_expr : List ℕ
begins_expr = code sign.Bang ∷ code sign.Minus ∷ 1 ∷ 2 ∷ code sign.Dollar ∷ code sign.Nil ∷ code sign.OpenRound
    ∷ code sign.Value ∷ code sign.Index ∷ code sign.Old ∷ code sign.New ∷ code sign.Wrap
    ∷ code sign.Get ∷ code sign.Has ∷ code sign.Size ∷ code sign.Sum ∷ code sign.Put ∷ code sign.Del ∷ code sign.Bump ∷ code sign.Held ∷ []

-- what goes on with an expression
abbrev pub sum_signs : Set
sum_signs = both (both (only (code sign.Plus)) (only (code sign.Minus))) (only (code sign.Star))

abbrev pub relation_signs : Set
relation_signs = both (both (only (code sign.Equal)) (both (only (code sign.NotEqual)) (both (only (code sign.AtMost)) (only (code sign.Below))))) sum_signs

abbrev pub operators : Set
operators = both (only (code sign.Implies)) (both (only (code sign.Or)) (both (only (code sign.And)) relation_signs))

abbrev pub known_first : (X : Type 0) → Known X → List ℕ
known_first X an_expr = begins_expr
known_first X a_script = code sign.By ∷ []

abbrev pub known_follow : (X : Type 0) → Known X → Set
known_follow X an_expr = others operators
known_follow X a_script = any

abbrev pub begun : Begun Known
begun = record { first = known_first; follow = known_follow }

abbrev pub begins_statement : List ℕ
begins_statement = code sign.Store ∷ code sign.Write ∷ code sign.Print ∷ code sign.If ∷ code sign.Loop ∷ code sign.Next ∷ code sign.Break ∷ code sign.Meet ∷ code sign.End
    ∷ code sign.Let ∷ code sign.Do ∷ code sign.Split ∷ code sign.Merge ∷ code sign.Copy ∷ code sign.Move ∷ code sign.Assert ∷ 1 ∷ []

abbrev pub behind_statement : List ℕ
behind_statement = begins_statement ++ code sign.CloseBrace ∷ []

-- one terminal ahead decides everywhere in statements, and in a program behind which nothing stands
abbrev pub OneAheadDecides : Type 0
OneAheadDecides = (decided begun begins_statement behind_statement false statement behind_statement ≡ true) × (decided begun begins_statement behind_statement true program (0 ∷ []) ≡ true)
