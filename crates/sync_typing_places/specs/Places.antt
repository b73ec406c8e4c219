-- What a place of a thread is to what the rules know there.
use Rattle.std.specs.Prelude.{◌≡◌, ℕ, ◌+◌, ℤ, pos, ◌&&◌, List, [], ◌∷◌, ◌++◌, length, map, Bool, true, false, Result, Ok, Err, Option, None, is_none, OnOk, nat_lt, if◌then◌else◌}
use Rattle.sync_base.specs.Outcome.{Gives}
use Rattle.sync_base.specs.declared.stops.Stop.{Stop}
use Rattle.sync_base.specs.declared.stops.Stop.TheVariants.{Refused, Memory}
use Rattle.sync_base.specs.declared.stops.Rule.TheVariants.{K8}
use Rattle.sync_terms.specs.declared.nodes.TermId.{TermId}
use Rattle.sync_terms.specs.declared.nodes.FormId.{FormId}
use Rattle.sync_terms.specs.Trees.{Tree, Lit, Name, Formula, Le, most_nodes, tree_size, formula_size}
use Rattle.sync_terms.specs.Stored.{Stored, Extends}
use Rattle.sync_terms.specs.declared.scripts.Script.{Script}
use Rattle.sync_base.specs.declared.stops.Rule.{Rule}
use Rattle.std.specs.List.{list_all}
use Rattle.sync_rules.specs.Locality.{names_only, form_names_only}
use Rattle.sync_thread.specs.Programs.{ScriptTree}
use Rattle.sync_thread.specs.Views.{scripts_tree}
use Rattle.sync_typing.specs.Dues.{spare}
use Rattle.sync_typing.specs.Symbols.{scripts_name_only}
use Rattle.sync_terms.specs.Building.{HasTerm, HasForm}
use Rattle.sync_kernel_facts.specs.Facts.{Fact}
use Rattle.sync_kernel.specs.declared.hypotheses.Hypotheses.{Hypotheses}
use Rattle.sync_kernel.specs.Hypotheses.{AreReady, known_in}
use Rattle.sync_terms.specs.Symbols.{name_symbol}
use Rattle.sync_typing.specs.Keeps.{bare, renewed, with_own}
use Rattle.sync_thread_machine.specs.ProgramSymbols.{first_fresh}
use Rattle.sync_typing_reading.specs.Sayings.{tree_in}
use Rattle.sync_typing.specs.Environments.{bounds, top, Env, Outcome, is_at_hand, TokenTree, Tokens, token_named}
use Rattle.sync_typing_places.specs.declared.hands.Hand.{Hand}
use Rattle.sync_typing_places.specs.declared.places.Place.{Place}
use Rattle.sync_typing_places.specs.declared.places.PlaceMark.{PlaceMark}
use Rattle.sync_typing_places.specs.declared.places.NamedToken.{NamedToken}
use Rattle.sync_typing_places.specs.declared.places.Bounds.{Bounds}
use Rattle.sync_typing_places.specs.Hands.{token_in, token_tree, Holds, IsWhole, IsHandOf, IsMarkOf, Begins}

-- a field, a word of the language, or a name
abbrev pub is_said_by_name : ℕ → Bool
is_said_by_name x = is_none (token_named x) && nat_lt x first_fresh

-- what symbols stand for by names
abbrev pub terms_in : Stored → Hand → ℕ → Option Tree
terms_in s h x = if is_said_by_name x then tree_in s h.names x else None

-- what is known at a place
unfoldable pub env_of : Stored → Place → Env
env_of s p = record { terms = terms_in s p.hand; hand = token_in s p.hand; facts = known_in s p.known; fresh = p.fresh }

-- The parts of a place fit together, and its terms and facts are those of a store.
pub record IsOwn (s : Stored) (p : Place) : Type 0 where
  pub whole : IsWhole p.hand
  pub ids : IsHandOf s p.hand
  pub holds : Holds s p.hand (terms_in s p.hand) (token_in s p.hand)
  pub ready : AreReady s p.known

-- how far a place is
pub record IsMarkAt (p : Place) (m : PlaceMark) : Type 0 where
  pub hand : IsMarkOf p.hand m.hand
  pub facts : (s : Stored) → m.facts ≡ length (known_in s p.known)
  pub fresh : m.fresh ≡ p.fresh

-- the newer facts are the older ones and some more
pub record GoOn (old new : List Fact) : Type 0 where
  pub more : List Fact
  pub is : new ≡ old ++ more

-- what is known, with other names and tokens
abbrev pub with_hand : Env → (ℕ → Option Tree) → (ℕ → Option TokenTree) → Env
with_hand e terms hand = record { terms = terms; hand = hand; facts = e.facts; fresh = e.fresh }

-- tokens under their numbers
abbrev pub named_tokens : Stored → List NamedToken → Tokens
named_tokens s ts = map (λ (t : NamedToken). (t.number, token_tree s t.token)) ts

-- ---- what a call gives

-- The place has become another, where this is known. What is taken back to a mark of the older is the older again.
pub record Becomes (s t : Stored) (old new : Place) (e : Env) : Type 0 where
  pub own : IsOwn t new
  pub env : env_of t new ≡ e
  pub leads : Begins old.hand new.hand
  pub remembers : GoOn (known_in s old.known) (known_in t new.known)

-- The store has gained at most, and over it the place is the same.
abbrev pub Stays : Stored → Stored → Place → Type 0
Stays s t p = Becomes s t p p (env_of s p)

-- The place has become another as a rule says, or the rule refuses; nothing is said where memory was wanting.
pub record Follows {A : Type 0} (s t : Stored) (old new : Place) (result : Result A Stop) (wanted : Outcome Env) : Type 0 where
  pub own : OnOk result (IsOwn t new)
  pub env : Gives (λ (x : A). env_of t new) result wanted
  pub leads : OnOk result (Begins old.hand new.hand)
  pub remembers : OnOk result (GoOn (known_in s old.known) (known_in t new.known))

-- ---- behind a keep

-- that locals are words, each standing for itself
abbrev pub own_bounds : List ℕ → List Fact
own_bounds [] = []
own_bounds (x ∷ xs) = bounds (name_symbol x) (Name (name_symbol x)) top ++ own_bounds xs

-- Behind a keep of a thread that names these, with these locals; what was known is handed out.
pub record IsRenewed (s t : Stored) (old new : Place) (names locals : List ℕ) (out : Hypotheses) : Type 0 where
  pub own : IsOwn t new
  pub env : env_of t new ≡ bare (with_own names (renewed (env_of s old).terms)) locals (env_of s old).fresh
  pub leads : Begins old.hand new.hand
  pub known : out ≡ old.known

-- ---- terms that are made at a line

-- the term where it is within the limit, else K8 at the line
abbrev pub MakesTerm : Stored → ℕ → Tree → Result TermId Stop → Type 0
MakesTerm s line t (Ok id) = HasTerm s t id × (nat_lt most_nodes (tree_size t) ≡ false)
MakesTerm s line t (Err Memory) = Unit {0}
MakesTerm s line t (Err (Refused r)) = (nat_lt most_nodes (tree_size t) ≡ true) × (r ≡ record { line = line; rule = K8 })

abbrev pub MakesForm : Stored → ℕ → Formula → Result FormId Stop → Type 0
MakesForm s line f (Ok id) = HasForm s f id × (nat_lt most_nodes (formula_size f) ≡ false)
MakesForm s line f (Err Memory) = Unit {0}
MakesForm s line f (Err (Refused r)) = (nat_lt most_nodes (formula_size f) ≡ true) × (r ≡ record { line = line; rule = K8 })

-- the bounds of a term, each with two nodes more than it
abbrev pub MakesBounds : Stored → ℕ → Tree → ℤ → Result Bounds Stop → Type 0
MakesBounds s line t high (Ok b) =
    HasForm s (Le (Lit (pos 0)) t) b.low × HasForm s (Le t (Lit high)) b.high × (nat_lt most_nodes (tree_size t + 2) ≡ false)
MakesBounds s line t high (Err Memory) = Unit {0}
MakesBounds s line t high (Err (Refused r)) =
    (nat_lt most_nodes (tree_size t + 2) ≡ true) × (r ≡ record { line = line; rule = K8 })

-- ---- what a statement owes

-- the scripts of a statement are of the store: whatever it gains, they stay the same
abbrev pub AreScriptsOf : Stored → List Script → Type 0
AreScriptsOf s ss = (t : Stored) → Extends s t → scripts_tree t ss ≡ scripts_tree s ss

-- a test is true, or the rule is broken at the line
abbrev pub wanted : ℕ → Rule → Bool → Result (Unit {0}) Stop
wanted line rule test = if test then Ok tt else Err (Refused (record { line = line; rule = rule }))

-- no script is left over
abbrev pub none_left : List ScriptTree → Outcome (Unit {0})
none_left ss = spare ss (Ok tt)

-- what terms, formulas and scripts name is at hand
abbrev pub all_at_hand : Env → List Tree → List Formula → List ScriptTree → Bool
all_at_hand e ts fs ss =
    list_all (names_only (is_at_hand e)) ts
    && (list_all (form_names_only (is_at_hand e)) fs && scripts_name_only (is_at_hand e) ss)
