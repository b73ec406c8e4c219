-- A spelling with a space or a line feed behind it is one lexeme: each sign and reserved word.
use Rattle.std.proofs.Common.{◌≡◌, ◌+◌, ◌-◌, ◌==◌, ℕ, Bool, true, false, if◌then◌else◌, List, [], ◌∷◌, ◌++◌, length, drop, refl, ap, ◌∙◌, arith}
use Rattle.sync_base.specs.declared.names.Name.{Name}
use Rattle.sync_lex.specs.declared.lexemes.Kind.{Kind}
use Rattle.sync_lex.specs.declared.lexemes.Kind.TheVariants as kind
use Rattle.sync_lex.specs.Bytes.{is_blank, begins_name, continues_name}
use Rattle.sync_lex.specs.Punctuation.{sign_len}
use Rattle.sync_lex.specs.Pieces.{piece}
use Rattle.sync_lex.specs.Lexemes.{with_first, line_after, lexemes_from}
use Rattle.sync_lex.specs.declared.signs.Sign.{Sign}
use Rattle.sync_lex.specs.declared.signs.Sign.TheVariants as sign
use Rattle.sync_lex.specs.Signs.{spelling_of, sign_of}
use Rattle.sync_lex.specs.Terminals.{named, said}

-- the first of these bytes begins a lexeme of this kind, of this spelling
abbrev pub Begins : Kind → List ℕ → List ℕ → Type 0
Begins kind spelling bytes = (at line : ℕ) → lexemes_from at line 0 (spelling ++ bytes)
    ≡ with_first (record { kind = kind; start = at; end = at + length spelling; line = line }) (lexemes_from (at + 1) line (length spelling - 1) (drop 1 spelling ++ bytes))

-- no line feed is among these bytes
abbrev pub one_line : List ℕ → Bool
one_line [] = true
one_line (b ∷ bytes) = if b == 10 then false else one_line bytes

same_line : (line : ℕ) (c : Bool) (d : Bool) → (if c then false else d) ≡ true → (if c then line + 1 else line) ≡ line
same_line line true d is = absurd cc
same_line line false d is = refl

later_line : (c : Bool) (d : Bool) → (if c then false else d) ≡ true → d ≡ true
later_line true d is = absurd cc
later_line false d is = is

-- what belongs to a lexeme is passed over
skips : (at line : ℕ) (xs ys : List ℕ) → one_line xs ≡ true → lexemes_from at line (length xs) (xs ++ ys) ≡ lexemes_from (at + length xs) line 0 ys
unfolding lexemes_from
skips at line [] ys is = ap (λ n. lexemes_from n line 0 ys) (omega arith)
skips at line (b ∷ bytes) ys is =
    ap (λ l. lexemes_from (at + 1) l (length bytes) (bytes ++ ys)) (same_line line (b == 10) (one_line bytes) is)
    ∙ (skips (at + 1) line bytes ys (later_line (b == 10) (one_line bytes) is) ∙ ap (λ n. lexemes_from n line 0 ys) (omega arith))

-- a byte that parts lexemes
abbrev pub IsGap : ℕ → Type 0
IsGap b = (at line : ℕ) (rest : List ℕ) → lexemes_from at line 0 (b ∷ rest) ≡ lexemes_from (at + 1) (line_after b line) 0 rest

pub space_gap : IsGap 32
unfolding lexemes_from piece is_blank
space_gap at line rest = refl

pub feed_gap : IsGap 10
unfolding lexemes_from piece is_blank
feed_gap at line rest = refl

-- a lexeme that begins so, and the byte behind it
pub passes : (kind : Kind) (b : ℕ) (bytes : List ℕ) (gap : ℕ) (rest : List ℕ) → one_line bytes ≡ true → IsGap gap → Begins kind (b ∷ bytes) (gap ∷ rest) → (at line : ℕ)
    → lexemes_from at line 0 (b ∷ (bytes ++ gap ∷ rest))
    ≡ with_first (record { kind = kind; start = at; end = at + length (b ∷ bytes); line = line }) (lexemes_from (at + length (b ∷ bytes) + 1) (line_after gap line) 0 rest)
passes kind b bytes gap rest is parts begins at line =
    let past : lexemes_from (at + 1) line (length (b ∷ bytes) - 1) (bytes ++ gap ∷ rest) ≡ lexemes_from (at + length (b ∷ bytes) + 1) (line_after gap line) 0 rest =
    ap (λ n. lexemes_from (at + 1) line n (bytes ++ gap ∷ rest)) (omega arith)
    ∙ (skips (at + 1) line bytes (gap ∷ rest) is ∙ (parts (at + 1 + length bytes) line rest ∙ ap (λ n. lexemes_from n (line_after gap line) 0 rest) (omega arith))) in
    begins at line ∙ ap (with_first (record { kind = kind; start = at; end = at + length (b ∷ bytes); line = line })) past

-- a sign with a space or a line feed behind it is one lexeme
pub record IsOne (s : Sign) : Type 0 where
  pub kind : Kind
  pub read : (names : List Name) (bytes : List ℕ) → said names kind bytes ≡ named names bytes (sign_of bytes)
  pub line : one_line (drop 1 (spelling_of s)) ≡ true
  pub space : (rest : List ℕ) → Begins kind (spelling_of s) (32 ∷ rest)
  pub feed : (rest : List ℕ) → Begins kind (spelling_of s) (10 ∷ rest)

pub one_sign : (s : Sign) → IsOne s
unfolding lexemes_from piece is_blank begins_name continues_name sign_len spelling_of
one_sign sign.OpenBrace = record { kind = kind.Sign; read = λ names bytes. refl; line = refl; space = λ rest at line. refl; feed = λ rest at line. refl }
one_sign sign.CloseBrace = record { kind = kind.Sign; read = λ names bytes. refl; line = refl; space = λ rest at line. refl; feed = λ rest at line. refl }
one_sign sign.OpenRound = record { kind = kind.Sign; read = λ names bytes. refl; line = refl; space = λ rest at line. refl; feed = λ rest at line. refl }
one_sign sign.CloseRound = record { kind = kind.Sign; read = λ names bytes. refl; line = refl; space = λ rest at line. refl; feed = λ rest at line. refl }
one_sign sign.OpenSquare = record { kind = kind.Sign; read = λ names bytes. refl; line = refl; space = λ rest at line. refl; feed = λ rest at line. refl }
one_sign sign.CloseSquare = record { kind = kind.Sign; read = λ names bytes. refl; line = refl; space = λ rest at line. refl; feed = λ rest at line. refl }
one_sign sign.Comma = record { kind = kind.Sign; read = λ names bytes. refl; line = refl; space = λ rest at line. refl; feed = λ rest at line. refl }
one_sign sign.Semicolon = record { kind = kind.Sign; read = λ names bytes. refl; line = refl; space = λ rest at line. refl; feed = λ rest at line. refl }
one_sign sign.Colon = record { kind = kind.Sign; read = λ names bytes. refl; line = refl; space = λ rest at line. refl; feed = λ rest at line. refl }
one_sign sign.Question = record { kind = kind.Sign; read = λ names bytes. refl; line = refl; space = λ rest at line. refl; feed = λ rest at line. refl }
one_sign sign.Label = record { kind = kind.Sign; read = λ names bytes. refl; line = refl; space = λ rest at line. refl; feed = λ rest at line. refl }
one_sign sign.Dollar = record { kind = kind.Sign; read = λ names bytes. refl; line = refl; space = λ rest at line. refl; feed = λ rest at line. refl }
one_sign sign.Bang = record { kind = kind.Sign; read = λ names bytes. refl; line = refl; space = λ rest at line. refl; feed = λ rest at line. refl }
one_sign sign.Star = record { kind = kind.Sign; read = λ names bytes. refl; line = refl; space = λ rest at line. refl; feed = λ rest at line. refl }
one_sign sign.Slash = record { kind = kind.Sign; read = λ names bytes. refl; line = refl; space = λ rest at line. refl; feed = λ rest at line. refl }
one_sign sign.Percent = record { kind = kind.Sign; read = λ names bytes. refl; line = refl; space = λ rest at line. refl; feed = λ rest at line. refl }
one_sign sign.Plus = record { kind = kind.Sign; read = λ names bytes. refl; line = refl; space = λ rest at line. refl; feed = λ rest at line. refl }
one_sign sign.Minus = record { kind = kind.Sign; read = λ names bytes. refl; line = refl; space = λ rest at line. refl; feed = λ rest at line. refl }
one_sign sign.Equal = record { kind = kind.Sign; read = λ names bytes. refl; line = refl; space = λ rest at line. refl; feed = λ rest at line. refl }
one_sign sign.Below = record { kind = kind.Sign; read = λ names bytes. refl; line = refl; space = λ rest at line. refl; feed = λ rest at line. refl }
one_sign sign.NotEqual = record { kind = kind.Sign; read = λ names bytes. refl; line = refl; space = λ rest at line. refl; feed = λ rest at line. refl }
one_sign sign.AtMost = record { kind = kind.Sign; read = λ names bytes. refl; line = refl; space = λ rest at line. refl; feed = λ rest at line. refl }
one_sign sign.AtLeast = record { kind = kind.Sign; read = λ names bytes. refl; line = refl; space = λ rest at line. refl; feed = λ rest at line. refl }
one_sign sign.PlusEqual = record { kind = kind.Sign; read = λ names bytes. refl; line = refl; space = λ rest at line. refl; feed = λ rest at line. refl }
one_sign sign.MinusEqual = record { kind = kind.Sign; read = λ names bytes. refl; line = refl; space = λ rest at line. refl; feed = λ rest at line. refl }
one_sign sign.Arrow = record { kind = kind.Sign; read = λ names bytes. refl; line = refl; space = λ rest at line. refl; feed = λ rest at line. refl }
one_sign sign.MapsTo = record { kind = kind.Sign; read = λ names bytes. refl; line = refl; space = λ rest at line. refl; feed = λ rest at line. refl }
one_sign sign.Implies = record { kind = kind.Sign; read = λ names bytes. refl; line = refl; space = λ rest at line. refl; feed = λ rest at line. refl }
one_sign sign.And = record { kind = kind.Sign; read = λ names bytes. refl; line = refl; space = λ rest at line. refl; feed = λ rest at line. refl }
one_sign sign.Or = record { kind = kind.Sign; read = λ names bytes. refl; line = refl; space = λ rest at line. refl; feed = λ rest at line. refl }
one_sign sign.Version = record { kind = kind.Name; read = λ names bytes. refl; line = refl; space = λ rest at line. refl; feed = λ rest at line. refl }
one_sign sign.Machine = record { kind = kind.Name; read = λ names bytes. refl; line = refl; space = λ rest at line. refl; feed = λ rest at line. refl }
one_sign sign.Field = record { kind = kind.Name; read = λ names bytes. refl; line = refl; space = λ rest at line. refl; feed = λ rest at line. refl }
one_sign sign.Init = record { kind = kind.Name; read = λ names bytes. refl; line = refl; space = λ rest at line. refl; feed = λ rest at line. refl }
one_sign sign.Transition = record { kind = kind.Name; read = λ names bytes. refl; line = refl; space = λ rest at line. refl; feed = λ rest at line. refl }
one_sign sign.Property = record { kind = kind.Name; read = λ names bytes. refl; line = refl; space = λ rest at line. refl; feed = λ rest at line. refl }
one_sign sign.Invariant = record { kind = kind.Name; read = λ names bytes. refl; line = refl; space = λ rest at line. refl; feed = λ rest at line. refl }
one_sign sign.Require = record { kind = kind.Name; read = λ names bytes. refl; line = refl; space = λ rest at line. refl; feed = λ rest at line. refl }
one_sign sign.Assert = record { kind = kind.Name; read = λ names bytes. refl; line = refl; space = λ rest at line. refl; feed = λ rest at line. refl }
one_sign sign.Update = record { kind = kind.Name; read = λ names bytes. refl; line = refl; space = λ rest at line. refl; feed = λ rest at line. refl }
one_sign sign.Have = record { kind = kind.Name; read = λ names bytes. refl; line = refl; space = λ rest at line. refl; feed = λ rest at line. refl }
one_sign sign.Guard = record { kind = kind.Name; read = λ names bytes. refl; line = refl; space = λ rest at line. refl; feed = λ rest at line. refl }
one_sign sign.Add = record { kind = kind.Name; read = λ names bytes. refl; line = refl; space = λ rest at line. refl; feed = λ rest at line. refl }
one_sign sign.Deposit = record { kind = kind.Name; read = λ names bytes. refl; line = refl; space = λ rest at line. refl; feed = λ rest at line. refl }
one_sign sign.Remove = record { kind = kind.Name; read = λ names bytes. refl; line = refl; space = λ rest at line. refl; feed = λ rest at line. refl }
one_sign sign.Withdraw = record { kind = kind.Name; read = λ names bytes. refl; line = refl; space = λ rest at line. refl; feed = λ rest at line. refl }
one_sign sign.Nil = record { kind = kind.Name; read = λ names bytes. refl; line = refl; space = λ rest at line. refl; feed = λ rest at line. refl }
one_sign sign.Value = record { kind = kind.Name; read = λ names bytes. refl; line = refl; space = λ rest at line. refl; feed = λ rest at line. refl }
one_sign sign.Index = record { kind = kind.Name; read = λ names bytes. refl; line = refl; space = λ rest at line. refl; feed = λ rest at line. refl }
one_sign sign.Old = record { kind = kind.Name; read = λ names bytes. refl; line = refl; space = λ rest at line. refl; feed = λ rest at line. refl }
one_sign sign.New = record { kind = kind.Name; read = λ names bytes. refl; line = refl; space = λ rest at line. refl; feed = λ rest at line. refl }
one_sign sign.Wrap = record { kind = kind.Name; read = λ names bytes. refl; line = refl; space = λ rest at line. refl; feed = λ rest at line. refl }
one_sign sign.Get = record { kind = kind.Name; read = λ names bytes. refl; line = refl; space = λ rest at line. refl; feed = λ rest at line. refl }
one_sign sign.Has = record { kind = kind.Name; read = λ names bytes. refl; line = refl; space = λ rest at line. refl; feed = λ rest at line. refl }
one_sign sign.Size = record { kind = kind.Name; read = λ names bytes. refl; line = refl; space = λ rest at line. refl; feed = λ rest at line. refl }
one_sign sign.Sum = record { kind = kind.Name; read = λ names bytes. refl; line = refl; space = λ rest at line. refl; feed = λ rest at line. refl }
one_sign sign.Put = record { kind = kind.Name; read = λ names bytes. refl; line = refl; space = λ rest at line. refl; feed = λ rest at line. refl }
one_sign sign.Del = record { kind = kind.Name; read = λ names bytes. refl; line = refl; space = λ rest at line. refl; feed = λ rest at line. refl }
one_sign sign.Bump = record { kind = kind.Name; read = λ names bytes. refl; line = refl; space = λ rest at line. refl; feed = λ rest at line. refl }
one_sign sign.Held = record { kind = kind.Name; read = λ names bytes. refl; line = refl; space = λ rest at line. refl; feed = λ rest at line. refl }
one_sign sign.Proofs = record { kind = kind.Name; read = λ names bytes. refl; line = refl; space = λ rest at line. refl; feed = λ rest at line. refl }
one_sign sign.Keeps = record { kind = kind.Name; read = λ names bytes. refl; line = refl; space = λ rest at line. refl; feed = λ rest at line. refl }
one_sign sign.At = record { kind = kind.Name; read = λ names bytes. refl; line = refl; space = λ rest at line. refl; feed = λ rest at line. refl }
one_sign sign.By = record { kind = kind.Name; read = λ names bytes. refl; line = refl; space = λ rest at line. refl; feed = λ rest at line. refl }
one_sign sign.Same = record { kind = kind.Name; read = λ names bytes. refl; line = refl; space = λ rest at line. refl; feed = λ rest at line. refl }
one_sign sign.Inst = record { kind = kind.Name; read = λ names bytes. refl; line = refl; space = λ rest at line. refl; feed = λ rest at line. refl }
one_sign sign.As = record { kind = kind.Name; read = λ names bytes. refl; line = refl; space = λ rest at line. refl; feed = λ rest at line. refl }
one_sign sign.Parts = record { kind = kind.Name; read = λ names bytes. refl; line = refl; space = λ rest at line. refl; feed = λ rest at line. refl }
one_sign sign.Split = record { kind = kind.Name; read = λ names bytes. refl; line = refl; space = λ rest at line. refl; feed = λ rest at line. refl }
one_sign sign.Cut = record { kind = kind.Name; read = λ names bytes. refl; line = refl; space = λ rest at line. refl; feed = λ rest at line. refl }
one_sign sign.Read = record { kind = kind.Name; read = λ names bytes. refl; line = refl; space = λ rest at line. refl; feed = λ rest at line. refl }
one_sign sign.Total = record { kind = kind.Name; read = λ names bytes. refl; line = refl; space = λ rest at line. refl; feed = λ rest at line. refl }
one_sign sign.Cong = record { kind = kind.Name; read = λ names bytes. refl; line = refl; space = λ rest at line. refl; feed = λ rest at line. refl }
one_sign sign.Denied = record { kind = kind.Name; read = λ names bytes. refl; line = refl; space = λ rest at line. refl; feed = λ rest at line. refl }
one_sign sign.Low = record { kind = kind.Name; read = λ names bytes. refl; line = refl; space = λ rest at line. refl; feed = λ rest at line. refl }
one_sign sign.High = record { kind = kind.Name; read = λ names bytes. refl; line = refl; space = λ rest at line. refl; feed = λ rest at line. refl }
one_sign sign.Program = record { kind = kind.Name; read = λ names bytes. refl; line = refl; space = λ rest at line. refl; feed = λ rest at line. refl }
one_sign sign.Word = record { kind = kind.Name; read = λ names bytes. refl; line = refl; space = λ rest at line. refl; feed = λ rest at line. refl }
one_sign sign.With = record { kind = kind.Name; read = λ names bytes. refl; line = refl; space = λ rest at line. refl; feed = λ rest at line. refl }
one_sign sign.Holds = record { kind = kind.Name; read = λ names bytes. refl; line = refl; space = λ rest at line. refl; feed = λ rest at line. refl }
one_sign sign.When = record { kind = kind.Name; read = λ names bytes. refl; line = refl; space = λ rest at line. refl; feed = λ rest at line. refl }
one_sign sign.Fact = record { kind = kind.Name; read = λ names bytes. refl; line = refl; space = λ rest at line. refl; feed = λ rest at line. refl }
one_sign sign.Cell = record { kind = kind.Name; read = λ names bytes. refl; line = refl; space = λ rest at line. refl; feed = λ rest at line. refl }
one_sign sign.Perm = record { kind = kind.Name; read = λ names bytes. refl; line = refl; space = λ rest at line. refl; feed = λ rest at line. refl }
one_sign sign.Start = record { kind = kind.Name; read = λ names bytes. refl; line = refl; space = λ rest at line. refl; feed = λ rest at line. refl }
one_sign sign.Seal = record { kind = kind.Name; read = λ names bytes. refl; line = refl; space = λ rest at line. refl; feed = λ rest at line. refl }
one_sign sign.Give = record { kind = kind.Name; read = λ names bytes. refl; line = refl; space = λ rest at line. refl; feed = λ rest at line. refl }
one_sign sign.No = record { kind = kind.Name; read = λ names bytes. refl; line = refl; space = λ rest at line. refl; feed = λ rest at line. refl }
one_sign sign.Thread = record { kind = kind.Name; read = λ names bytes. refl; line = refl; space = λ rest at line. refl; feed = λ rest at line. refl }
one_sign sign.Ends = record { kind = kind.Name; read = λ names bytes. refl; line = refl; space = λ rest at line. refl; feed = λ rest at line. refl }
one_sign sign.Final = record { kind = kind.Name; read = λ names bytes. refl; line = refl; space = λ rest at line. refl; feed = λ rest at line. refl }
one_sign sign.Store = record { kind = kind.Name; read = λ names bytes. refl; line = refl; space = λ rest at line. refl; feed = λ rest at line. refl }
one_sign sign.Write = record { kind = kind.Name; read = λ names bytes. refl; line = refl; space = λ rest at line. refl; feed = λ rest at line. refl }
one_sign sign.Print = record { kind = kind.Name; read = λ names bytes. refl; line = refl; space = λ rest at line. refl; feed = λ rest at line. refl }
one_sign sign.If = record { kind = kind.Name; read = λ names bytes. refl; line = refl; space = λ rest at line. refl; feed = λ rest at line. refl }
one_sign sign.Else = record { kind = kind.Name; read = λ names bytes. refl; line = refl; space = λ rest at line. refl; feed = λ rest at line. refl }
one_sign sign.Join = record { kind = kind.Name; read = λ names bytes. refl; line = refl; space = λ rest at line. refl; feed = λ rest at line. refl }
one_sign sign.Loop = record { kind = kind.Name; read = λ names bytes. refl; line = refl; space = λ rest at line. refl; feed = λ rest at line. refl }
one_sign sign.From = record { kind = kind.Name; read = λ names bytes. refl; line = refl; space = λ rest at line. refl; feed = λ rest at line. refl }
one_sign sign.After = record { kind = kind.Name; read = λ names bytes. refl; line = refl; space = λ rest at line. refl; feed = λ rest at line. refl }
one_sign sign.Next = record { kind = kind.Name; read = λ names bytes. refl; line = refl; space = λ rest at line. refl; feed = λ rest at line. refl }
one_sign sign.Break = record { kind = kind.Name; read = λ names bytes. refl; line = refl; space = λ rest at line. refl; feed = λ rest at line. refl }
one_sign sign.Meet = record { kind = kind.Name; read = λ names bytes. refl; line = refl; space = λ rest at line. refl; feed = λ rest at line. refl }
one_sign sign.End = record { kind = kind.Name; read = λ names bytes. refl; line = refl; space = λ rest at line. refl; feed = λ rest at line. refl }
one_sign sign.Peek = record { kind = kind.Name; read = λ names bytes. refl; line = refl; space = λ rest at line. refl; feed = λ rest at line. refl }
one_sign sign.Via = record { kind = kind.Name; read = λ names bytes. refl; line = refl; space = λ rest at line. refl; feed = λ rest at line. refl }
one_sign sign.Load = record { kind = kind.Name; read = λ names bytes. refl; line = refl; space = λ rest at line. refl; feed = λ rest at line. refl }
one_sign sign.Swap = record { kind = kind.Name; read = λ names bytes. refl; line = refl; space = λ rest at line. refl; feed = λ rest at line. refl }
one_sign sign.Sub = record { kind = kind.Name; read = λ names bytes. refl; line = refl; space = λ rest at line. refl; feed = λ rest at line. refl }
one_sign sign.Cas = record { kind = kind.Name; read = λ names bytes. refl; line = refl; space = λ rest at line. refl; feed = λ rest at line. refl }
one_sign sign.Proof = record { kind = kind.Name; read = λ names bytes. refl; line = refl; space = λ rest at line. refl; feed = λ rest at line. refl }
one_sign sign.Open = record { kind = kind.Name; read = λ names bytes. refl; line = refl; space = λ rest at line. refl; feed = λ rest at line. refl }
one_sign sign.Case = record { kind = kind.Name; read = λ names bytes. refl; line = refl; space = λ rest at line. refl; feed = λ rest at line. refl }
one_sign sign.Yes = record { kind = kind.Name; read = λ names bytes. refl; line = refl; space = λ rest at line. refl; feed = λ rest at line. refl }
one_sign sign.Close = record { kind = kind.Name; read = λ names bytes. refl; line = refl; space = λ rest at line. refl; feed = λ rest at line. refl }
one_sign sign.Still = record { kind = kind.Name; read = λ names bytes. refl; line = refl; space = λ rest at line. refl; feed = λ rest at line. refl }
one_sign sign.Let = record { kind = kind.Name; read = λ names bytes. refl; line = refl; space = λ rest at line. refl; feed = λ rest at line. refl }
one_sign sign.Do = record { kind = kind.Name; read = λ names bytes. refl; line = refl; space = λ rest at line. refl; feed = λ rest at line. refl }
one_sign sign.Merge = record { kind = kind.Name; read = λ names bytes. refl; line = refl; space = λ rest at line. refl; feed = λ rest at line. refl }
one_sign sign.Copy = record { kind = kind.Name; read = λ names bytes. refl; line = refl; space = λ rest at line. refl; feed = λ rest at line. refl }
one_sign sign.Move = record { kind = kind.Name; read = λ names bytes. refl; line = refl; space = λ rest at line. refl; feed = λ rest at line. refl }
