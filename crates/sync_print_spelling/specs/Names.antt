-- Which bytes are names, and lists of names.
use Rattle.std.specs.Prelude.{◌≡◌, ℕ, ◌≤◌, ◌≢◌, List, length, None, All, AllPairs}
use Rattle.sync_base.specs.Limits.{longest_name}
use Rattle.sync_base.specs.declared.names.Name.{Name}
use Rattle.sync_lex.specs.declared.lexemes.Kind.TheVariants as kind
use Rattle.sync_lex.specs.Signs.{sign_of}
use Rattle.sync_lex.specs.Spelling.{IsSpelled}

-- the bytes of a name: a letter or `_`, then letters, digits and `_`, at most 64 bytes, and no reserved word
pub record IsName (bytes : List ℕ) : Type 0 where
  pub spelled : IsSpelled kind.Name bytes
  pub short : length bytes ≤ longest_name
  pub free : sign_of bytes ≡ None

-- each is a name, and no two are spelled alike
pub record AreNames (names : List Name) : Type 0 where
  pub each : All (λ (n : Name). IsName n.bytes) names
  pub apart : AllPairs (λ (a b : Name). a.bytes ≢ b.bytes) names
