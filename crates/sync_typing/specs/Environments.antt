-- What is known at one place of one thread, and the words in which the rules say what a statement does to it.
use Rattle.std.specs.Prelude.{◌^◌, ℕ, ◌+◌, ◌-◌, ℤ, pos, Bool, ◌&&◌, ◌||◌, nat_eq, nat_lt, List, [], ◌∷◌, ◌++◌, ◌/◌, ◌%◌, Option, Some, None, is_some, unwrap_or, option_map, Result, Ok, Err, if◌then◌else◌}
use Rattle.std.specs.List.{list_any}
use Rattle.sync_base.specs.Outcome.{first}
use Rattle.sync_base.specs.declared.stops.Refusal.{Refusal}
use Rattle.sync_base.specs.declared.stops.Rule.{Rule}
use Rattle.sync_base.specs.declared.stops.Rule.TheVariants.{K8}
use Rattle.sync_terms.specs.declared.scripts.HypName.TheVariants.{Low, High}
use Rattle.sync_terms.specs.Trees.{Tree, most_nodes, Lit, Name, Nil, Formula, Le, tree_size, formula_size, replaced, replaced_in}
use Rattle.sync_kernel_facts.specs.Facts.{Fact, named}
use Rattle.sync_terms.specs.Symbols.{name_symbol}
use Rattle.sync_thread_machine.specs.ProgramSymbols.{first_fresh}

-- a token, with terms for its key and its value; the field of a permission is `perm`
pub record TokenTree : Type 0 where
  pub field : ℕ
  pub key : Tree
  pub value : Tree

-- What symbols stand for (constants, locals, the proof names that are held, `old`, `new`, `wrap`), the tokens at hand
-- by their names, what is known, and the first symbol that is free.
pub record Env : Type 0 where
  pub terms : ℕ → Option Tree
  pub hand : ℕ → Option TokenTree
  pub facts : List Fact
  pub fresh : ℕ

-- the token of which a symbol is `held`
abbrev pub token_named : ℕ → Option ℕ
token_named x = if nat_lt 63 x && (nat_lt x first_fresh && nat_eq (x % 4) 2) then Some ((x - 66) / 4) else None

abbrev pub held_value : (ℕ → Option TokenTree) → Option ℕ → Option Tree
held_value hand None = None
held_value hand (Some n) = option_map (λ (t : TokenTree). t.value) (hand n)

-- what a symbol stands for, if a name or a token says it
abbrev pub said : Env → ℕ → Option Tree
said e x = first (e.terms x) (held_value e.hand (token_named x))

-- the term that a symbol stands for; itself where none was said
abbrev pub stands : Env → ℕ → Tree
stands e x = unwrap_or (said e x) (Name x)

abbrev pub read : Env → Tree → Tree
read e t = replaced (stands e) t

abbrev pub read_form : Env → Formula → Formula
read_form e f = replaced_in (stands e) f

-- a proof name or a token that a term names is held; other names are looked at by the rules on names
abbrev pub is_at_hand : Env → ℕ → Bool
is_at_hand e x = nat_lt x 64 || is_some (said e x)

abbrev pub on_some : {A B : Type 0} → Option A → B → (A → B) → B
on_some None other f = other
on_some (Some a) other f = f a

-- ---- refusals

-- what is wanted at each step of a row: a result, or the first refusal
abbrev pub Outcome : Type 0 → Type 0
Outcome X = Result X Refusal

abbrev pub refused : {X : Type 0} → ℕ → Rule → Outcome X
refused line rule = Err (record { line = line; rule = rule })

-- not more nodes than a store takes, or K8
abbrev pub fits : {X : Type 0} → ℕ → ℕ → Outcome X → Outcome X
fits line nodes rest = if nat_lt most_nodes nodes then refused line K8 else rest

-- ---- tokens

abbrev pub is_held : Env → ℕ → Bool
is_held e n = is_some (e.hand n)

-- the token of a name; where it is not held a rule has refused before
abbrev pub token : Env → ℕ → TokenTree
token e n = unwrap_or (e.hand n) (record { field = 0; key = Nil; value = Nil })

-- tokens with their names
abbrev pub Tokens : Type 0
Tokens = List (ℕ × TokenTree)

abbrev pub among : Tokens → ℕ → Option TokenTree
among [] n = None
among (t ∷ ts) n = if nat_eq t.0 n then Some t.1 else among ts n

-- tokens of these names leave the hand, and these enter it
abbrev pub hand_after : List ℕ → Tokens → (ℕ → Option TokenTree) → ℕ → Option TokenTree
hand_after gone new hand n = first (among new n) (if list_any (nat_eq n) gone then None else hand n)

-- the keys and values of the new ones are made
abbrev pub take_in : ℕ → List ℕ → Tokens → Env → Outcome Env
take_in line gone new e = made new where
  made : Tokens → Outcome Env
  made [] = Ok (record { terms = e.terms; hand = hand_after gone new e.hand; facts = e.facts; fresh = e.fresh })
  made (t ∷ ts) = fits line (tree_size t.1.key) (fits line (tree_size t.1.value) (made ts))

-- ---- names and facts

abbrev pub know : List Fact → Env → Env
know fs e = record { terms = e.terms; hand = e.hand; facts = e.facts ++ fs; fresh = e.fresh }

abbrev pub name_as : ℕ → Tree → Env → Env
name_as x t e =
    record { terms = λ y. if nat_eq y x then Some t else e.terms y; hand = e.hand; facts = e.facts; fresh = e.fresh }

-- so many new symbols are used
abbrev pub use_up : ℕ → Env → Env
use_up n e = record { terms = e.terms; hand = e.hand; facts = e.facts; fresh = e.fresh + n }

-- `low x` and `high x`, the bounds of a symbol that stands for a term
abbrev pub bounds : ℕ → Tree → ℤ → List Fact
bounds x t top =
    record { name = Low x; params = []; form = Le (Lit (pos 0)) t }
    ∷ record { name = High x; params = []; form = Le t (Lit top) } ∷ []

-- the greatest value of a word
abbrev pub top : ℤ
top = pos (2 ^ 64 - 1)

-- a symbol comes to stand for a number from 0 to a bound
abbrev pub bind : ℕ → ℕ → Tree → ℤ → Env → Outcome Env
bind line x t high e = fits line (tree_size t + 2) (Ok (know (bounds x t high) (name_as x t e)))

abbrev pub assign : ℕ → ℕ → Tree → Env → Outcome Env
assign line x t e = bind line (name_symbol x) t top e

-- what a label says; a label that is not written makes no formula
abbrev pub tell : ℕ → Option ℕ → Formula → Env → Outcome Env
tell line None form e = Ok e
tell line (Some name) form e = fits line (formula_size form) (Ok (know (named name form ∷ []) e))
