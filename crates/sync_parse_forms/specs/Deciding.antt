-- Whether one terminal ahead decides everywhere in a production: computed from it.
use Rattle.std.specs.Prelude.{ℕ, eqb, Bool, true, false, not, ◌&&◌, ◌||◌, List, [], ◌∷◌, ◌++◌}
use Rattle.sync_lex.specs.declared.signs.Sign.{Sign}
use Rattle.sync_lex.specs.declared.signs.Sign.TheVariants as sign
use Rattle.sync_parse_forms.specs.Fronts.{code, Set, only, others, among, all_of}
use Rattle.sync_parse_forms.specs.Codes.{Test, at_sign, at_signs, at_name, at_number, to_brace, Code, leaf, a_sign, a_name, a_number, inner, nothing, after, before, both, either, row, listed, bracketed, enclosed, node}

-- what is computed of known productions: what they begin with, and what may follow them
pub record Begun (K : Type 0 → Type 1) : Type 1 where
  pub first : (X : Type 0) → K X → List ℕ
  pub follow : (X : Type 0) → K X → Set

-- what may follow an item of a list that this sign ends
abbrev pub list_ends : Sign → List ℕ
list_ends e = code sign.Comma ∷ code e ∷ []

-- what a production begins with, where one of q follows, and what stands in its own brackets begins with one of b
abbrev pub first : {K : Type 0 → Type 1} {R A : Type 0} → ((X : Type 0) → K X → List ℕ) → List ℕ → Code K R A → List ℕ → List ℕ
first k b (leaf {A = X} c) q = k X c
first k b (a_sign s) q = code s ∷ []
first k b a_name q = 1 ∷ []
first k b a_number q = 2 ∷ []
first k b inner q = b
first k b nothing q = q
first k b (after s c) q = code s ∷ []
first k b (before c s) q = first k b c (code s ∷ [])
first k b (both c d) q = first k b c (first k b d q)
first k b (either t c d) q = first k b c q ++ first k b d q
first k b (row t c) q = first k b c [] ++ q
first k b (listed e c) q = first k b c (list_ends e) ++ code e ∷ []
first k b (bracketed o e c) q = code o ∷ []
first k b (enclosed o e c) q = code o ∷ []
first k b (node made parts law c) q = first k b c q

-- it takes a terminal
abbrev pub solid : {K : Type 0 → Type 1} {R A : Type 0} → Code K R A → Bool
solid (leaf c) = true
solid (a_sign s) = true
solid a_name = true
solid a_number = true
solid inner = true
solid nothing = false
solid (after s c) = true
solid (before c s) = solid c || true
solid (both c d) = solid c || (solid d || false)
solid (either t c d) = (solid c || false) && (solid d || false)
solid (row t c) = false
solid (listed e c) = false
solid (bracketed o e c) = true
solid (enclosed o e c) = true
solid (node made parts law c) = solid c || false

abbrev pub brace_or_end : Set
brace_or_end c = only 0 c || only (code sign.CloseBrace) c

abbrev pub codes_of : List Sign → List ℕ
codes_of [] = []
codes_of (s ∷ ss) = code s ∷ codes_of ss

-- where a test says yes
abbrev pub said_by : Test → Set
said_by (at_sign s) = only (code s)
said_by (at_signs ss) = among (codes_of ss)
said_by at_name = only 1
said_by at_number = only 2
said_by to_brace = others brace_or_end

-- the test tells one of p from one of q
abbrev pub tells : Test → List ℕ → List ℕ → Bool
tells t p q = all_of (said_by t) p && all_of (others (said_by t)) q

abbrev pub only_true : Bool → Bool
only_true b = b

-- One terminal ahead decides everywhere, where one of q follows. TerminalKind stands in its own brackets begins with one of b and may be
-- followed by one of e; it may stand here only inside of a bracket, unless open.
abbrev pub decided : {K : Type 0 → Type 1} {R A : Type 0} → Begun K → List ℕ → List ℕ → Bool → Code K R A → List ℕ → Bool
decided k b e open_ (leaf {A = X} c) q = all_of (k.follow X c) q
decided k b e open_ (a_sign s) q = true
decided k b e open_ a_name q = true
decided k b e open_ a_number q = true
decided k b e open_ inner q = open_ && all_of (among e) q
decided k b e open_ nothing q = true
decided k b e open_ (after s c) q = decided k b e open_ c q
decided k b e open_ (before c s) q = decided k b e open_ c (code s ∷ [])
decided k b e open_ (both c d) q = decided k b e open_ c (first k.first b d q) && decided k b e open_ d q
decided k b e open_ (either t c d) q = tells t (first k.first b c q) (first k.first b d q) && (decided k b e open_ c q && decided k b e open_ d q)
decided k b e open_ (row t c) q = only_true (solid c) && (all_of (among (first k.first b c [])) (first k.first b c (first k.first b c [] ++ q))
    && (decided k b e open_ c (first k.first b c [] ++ q) && (tells t (first k.first b c []) q && all_of (others (among (first k.first b c []))) q)))
decided k b e open_ (listed z c) q = only_true (solid c) && (decided k b e open_ c (list_ends z)
    && (all_of (others (only (code z))) (first k.first b c (list_ends z)) && (not (eqb (code z) (code sign.Comma)) && all_of (among (code z ∷ [])) q)))
decided k b e open_ (bracketed o z c) q = decided k b e true c (code z ∷ [])
decided k b e open_ (enclosed o z c) q = decided k b e true c (code z ∷ [])
decided k b e open_ (node made parts law c) q = decided k b e open_ c q

-- what stands in its own brackets stands only inside of brackets, unless open
abbrev pub closed : {K : Type 0 → Type 1} {R A : Type 0} → Bool → Code K R A → Bool
closed open_ (leaf c) = true
closed open_ (a_sign s) = true
closed open_ a_name = true
closed open_ a_number = true
closed open_ inner = open_
closed open_ nothing = true
closed open_ (after s c) = closed open_ c
closed open_ (before c s) = closed open_ c
closed open_ (both c d) = closed open_ c && closed open_ d
closed open_ (either t c d) = closed open_ c && closed open_ d
closed open_ (row t c) = closed open_ c
closed open_ (listed z c) = closed open_ c
closed open_ (bracketed o z c) = closed true c
closed open_ (enclosed o z c) = closed true c
closed open_ (node made parts law c) = closed open_ c
