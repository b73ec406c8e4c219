-- The signs and reserved words, and how they are written.
use Rattle.std.specs.Prelude.{ℕ, Bool, List, [], ◌∷◌, ◌++◌, Option, codes}
use Rattle.std.specs.List.{find}
use Rattle.std.specs.Str.{bytes_eq}
use Rattle.sync_lex.specs.declared.signs.Sign.{Sign}
use Rattle.sync_lex.specs.declared.signs.Sign.TheVariants as sign
use Rattle.sync_lex.specs.contracts.signs.Sign.{the_type}
use denote.Enum.Bare.{sameb}

-- whether the two are one sign
abbrev pub is_same : Sign → Sign → Bool
is_same a b = sameb the_type a b

unfoldable pub spelling_of : Sign → List ℕ
spelling_of sign.OpenBrace = codes "{"
spelling_of sign.CloseBrace = codes "}"
spelling_of sign.OpenRound = codes "("
spelling_of sign.CloseRound = codes ")"
spelling_of sign.OpenSquare = codes "["
spelling_of sign.CloseSquare = codes "]"
spelling_of sign.Comma = codes ","
spelling_of sign.Semicolon = codes ";"
spelling_of sign.Colon = codes ":"
spelling_of sign.Question = codes "?"
spelling_of sign.Label = codes "@"
spelling_of sign.Dollar = codes "$"
spelling_of sign.Bang = codes "!"
spelling_of sign.Star = codes "*"
spelling_of sign.Slash = codes "/"
spelling_of sign.Percent = codes "%"
spelling_of sign.Plus = codes "+"
spelling_of sign.Minus = codes "-"
spelling_of sign.Equal = codes "="
spelling_of sign.Below = codes "<"
spelling_of sign.NotEqual = codes "!="
spelling_of sign.AtMost = codes "<="
spelling_of sign.AtLeast = codes ">="
spelling_of sign.PlusEqual = codes "+="
spelling_of sign.MinusEqual = codes "-="
spelling_of sign.Arrow = codes "->"
spelling_of sign.MapsTo = codes "=>"
spelling_of sign.Implies = codes "==>"
spelling_of sign.And = codes "&&"
spelling_of sign.Or = codes "||"
spelling_of sign.Version = codes "version"
spelling_of sign.Machine = codes "machine"
spelling_of sign.Field = codes "field"
spelling_of sign.Init = codes "init"
spelling_of sign.Transition = codes "transition"
spelling_of sign.Property = codes "property"
spelling_of sign.Invariant = codes "invariant"
spelling_of sign.Require = codes "require"
spelling_of sign.Assert = codes "assert"
spelling_of sign.Update = codes "update"
spelling_of sign.Have = codes "have"
spelling_of sign.Guard = codes "guard"
spelling_of sign.Add = codes "add"
spelling_of sign.Deposit = codes "deposit"
spelling_of sign.Remove = codes "remove"
spelling_of sign.Withdraw = codes "withdraw"
spelling_of sign.Nil = codes "nil"
spelling_of sign.Value = codes "value"
spelling_of sign.Index = codes "index"
spelling_of sign.Old = codes "old"
spelling_of sign.New = codes "new"
spelling_of sign.Wrap = codes "wrap"
spelling_of sign.Get = codes "get"
spelling_of sign.Has = codes "has"
spelling_of sign.Size = codes "size"
spelling_of sign.Sum = codes "sum"
spelling_of sign.Put = codes "put"
spelling_of sign.Del = codes "del"
spelling_of sign.Bump = codes "bump"
spelling_of sign.Held = codes "held"
spelling_of sign.Proofs = codes "proofs"
spelling_of sign.Keeps = codes "keeps"
spelling_of sign.At = codes "at"
spelling_of sign.By = codes "by"
spelling_of sign.Same = codes "same"
spelling_of sign.Inst = codes "inst"
spelling_of sign.As = codes "as"
spelling_of sign.Parts = codes "parts"
spelling_of sign.Split = codes "split"
spelling_of sign.Cut = codes "cut"
spelling_of sign.Read = codes "read"
spelling_of sign.Total = codes "total"
spelling_of sign.Cong = codes "cong"
spelling_of sign.Denied = codes "denied"
spelling_of sign.Low = codes "low"
spelling_of sign.High = codes "high"
spelling_of sign.Program = codes "program"
spelling_of sign.Word = codes "word"
spelling_of sign.With = codes "with"
spelling_of sign.Holds = codes "holds"
spelling_of sign.When = codes "when"
spelling_of sign.Fact = codes "fact"
spelling_of sign.Cell = codes "cell"
spelling_of sign.Perm = codes "perm"
spelling_of sign.Start = codes "start"
spelling_of sign.Seal = codes "seal"
spelling_of sign.Give = codes "give"
spelling_of sign.No = codes "no"
spelling_of sign.Thread = codes "thread"
spelling_of sign.Ends = codes "ends"
spelling_of sign.Final = codes "final"
spelling_of sign.Store = codes "store"
spelling_of sign.Write = codes "write"
spelling_of sign.Print = codes "print"
spelling_of sign.If = codes "if"
spelling_of sign.Else = codes "else"
spelling_of sign.Join = codes "join"
spelling_of sign.Loop = codes "loop"
spelling_of sign.From = codes "from"
spelling_of sign.After = codes "after"
spelling_of sign.Next = codes "next"
spelling_of sign.Break = codes "break"
spelling_of sign.Meet = codes "meet"
spelling_of sign.End = codes "end"
spelling_of sign.Peek = codes "peek"
spelling_of sign.Via = codes "via"
spelling_of sign.Load = codes "load"
spelling_of sign.Swap = codes "swap"
spelling_of sign.Sub = codes "sub"
spelling_of sign.Cas = codes "cas"
spelling_of sign.Proof = codes "proof"
spelling_of sign.Open = codes "open"
spelling_of sign.Case = codes "case"
spelling_of sign.Yes = codes "yes"
spelling_of sign.Close = codes "close"
spelling_of sign.Still = codes "still"
spelling_of sign.Let = codes "let"
spelling_of sign.Do = codes "do"
spelling_of sign.Merge = codes "merge"
spelling_of sign.Copy = codes "copy"
spelling_of sign.Move = codes "move"

-- the signs of one byte, and of two
abbrev pub singles : List Sign
singles =
    sign.OpenBrace ∷ sign.CloseBrace ∷ sign.OpenRound ∷ sign.CloseRound ∷ sign.OpenSquare ∷ sign.CloseSquare ∷
    sign.Comma ∷ sign.Semicolon ∷ sign.Colon ∷ sign.Question ∷ sign.Label ∷ sign.Dollar ∷ sign.Bang ∷ sign.Star ∷
    sign.Slash ∷ sign.Percent ∷ sign.Plus ∷ sign.Minus ∷ sign.Equal ∷ sign.Below ∷ []

abbrev pub doubles : List Sign
doubles =
    sign.NotEqual ∷ sign.AtMost ∷ sign.AtLeast ∷ sign.PlusEqual ∷ sign.MinusEqual ∷ sign.Arrow ∷ sign.MapsTo ∷
    sign.And ∷ sign.Or ∷ []

-- the signs that are no reserved words
abbrev pub symbols : List Sign
symbols = sign.Implies ∷ (doubles ++ singles)

abbrev pub reserved_words : List Sign
reserved_words =
    sign.Version ∷ sign.Machine ∷ sign.Field ∷ sign.Init ∷ sign.Transition ∷ sign.Property ∷ sign.Invariant ∷
    sign.Require ∷ sign.Assert ∷ sign.Update ∷ sign.Have ∷ sign.Guard ∷ sign.Add ∷ sign.Deposit ∷ sign.Remove ∷
    sign.Withdraw ∷ sign.Nil ∷ sign.Value ∷ sign.Index ∷ sign.Old ∷ sign.New ∷ sign.Wrap ∷ sign.Get ∷ sign.Has ∷
    sign.Size ∷ sign.Sum ∷ sign.Put ∷ sign.Del ∷ sign.Bump ∷ sign.Held ∷ sign.Proofs ∷ sign.Keeps ∷ sign.At ∷
    sign.By ∷ sign.Same ∷ sign.Inst ∷ sign.As ∷ sign.Parts ∷ sign.Split ∷ sign.Cut ∷ sign.Read ∷ sign.Total ∷
    sign.Cong ∷ sign.Denied ∷ sign.Low ∷ sign.High ∷ sign.Program ∷ sign.Word ∷ sign.With ∷ sign.Holds ∷
    sign.When ∷ sign.Fact ∷ sign.Cell ∷ sign.Perm ∷ sign.Start ∷ sign.Seal ∷ sign.Give ∷ sign.No ∷ sign.Thread ∷
    sign.Ends ∷ sign.Final ∷ sign.Store ∷ sign.Write ∷ sign.Print ∷ sign.If ∷ sign.Else ∷ sign.Join ∷ sign.Loop ∷
    sign.From ∷ sign.After ∷ sign.Next ∷ sign.Break ∷ sign.Meet ∷ sign.End ∷ sign.Peek ∷ sign.Via ∷ sign.Load ∷
    sign.Swap ∷ sign.Sub ∷ sign.Cas ∷ sign.Proof ∷ sign.Open ∷ sign.Case ∷ sign.Yes ∷ sign.Close ∷ sign.Still ∷
    sign.Let ∷ sign.Do ∷ sign.Merge ∷ sign.Copy ∷ sign.Move ∷ []

abbrev pub signs : List Sign
signs = symbols ++ reserved_words

-- the sign or reserved word that is written so
unfoldable pub sign_of : List ℕ → Option Sign
sign_of bytes = find (λ s. bytes_eq (spelling_of s) bytes) signs
