-- What holds between events besides what is good: how much of everything there is, what remains of the lists of a text,
-- and what environments say of its threads.
use Rattle.std.specs.Prelude.{◌≡◌, ℕ, suc, ℤ, pos, ◌<◌, ◌≤◌, ◌^◌, Bool, true, false, not, ◌&&◌, ◌||◌, if◌then◌else◌, nat_eq, nat_lt, List, [], ◌∷◌, length, map, slice_get, Option, Some, None, is_some, is_none, option_map, Ok, ◌⊎◌}
use Rattle.std.specs.List.{AllByRecursion, IsDistinct, list_all}
use Rattle.sync_base.specs.declared.strategies.Strategy.TheVariants.{Constant}
use Rattle.sync_terms.specs.Symbols.{name_symbol}
use Rattle.sync_terms.specs.Trees.{Tree, Name}
use Rattle.sync_terms.specs.Values.{Valuation, num, Holds}
use Rattle.sync_machine.specs.Naming.{IsTextName, is_in}
use Rattle.sync_machine.specs.States.{strategy_at}
use Rattle.sync_rules.specs.Locality.{names_only, form_names_only}
use Rattle.sync_kernel_facts.specs.Facts.{Fact}
use Rattle.sync_join.specs.Join.{record_at, number_of}
use Rattle.sync_join.specs.Shards.{AreSoundShards}
use Rattle.sync_join.specs.declared.tokens.Token.{Token}
use Rattle.sync_exchange.specs.Exchange.{held_as}
use Rattle.sync_exchange.specs.declared.hands.Held.{Held}
use Rattle.sync_thread.specs.Arrays.{first_cells, name_limit}
use Rattle.sync_thread.specs.Code.{locals_of}
use Rattle.sync_thread.specs.Control.{Frame, InBranch, InLoop, Paused}
use Rattle.sync_thread.specs.Programs.{ClauseTree, KeepTree, ListTree, ThreadTree, StartTree}
use Rattle.sync_thread.specs.Resting.{silent, is_step}
use Rattle.sync_thread_machine.specs.MachineWithProgram.{MachineWithProgram, fields_of, decls_of}
use Rattle.sync_thread_machine.specs.ProgramSymbols.{old_symbol, new_symbol, wrap_symbol, first_fresh}
use Rattle.sync_thread_meaning.specs.Meaning.{World, annotated_language}
use Rattle.sync_thread_meaning.specs.Moments.{Configuration}
use Rattle.sync_thread_meaning.specs.Shares.{Owned, hand_of, proofs_of, wrap_of, all_shards, named_value, WordAt, array_words, Sight, word_sight}
use Rattle.sync_thread_meaning.specs.Sound.{IsGood, clause_is_kept, word_is_kept}
use Rattle.sync_thread_meaning.specs.Words.{OpenBlock}
use Rattle.sync_typing.specs.Blocks.{Inside, AroundTree}
use Rattle.sync_typing.specs.Environments.{Env, stands, TokenTree}
use Rattle.sync_typing.specs.Keeps.{option_all, keep_names_only, is_at_hand_in, own_tokens, bare, with_own, enter_keep, after_keep}
use Rattle.sync_typing.specs.Lists.{Scene, Target, in_branch, in_loop, on, past, list_fault, assigned_locals, Spot}
use Rattle.sync_typing.specs.Names.{Aims, list_is_named, keep_here, proof_names, bound_by_keep, none_in}
use Rattle.sync_typing.specs.Typing.{constants, scene_of, start_row, thread_place, final_place}

-- ---- the shape of a configuration

abbrev pub IsApart : List Held → Type 0
IsApart hand = IsDistinct nat_eq (map (λ (h : Held). h.name) hand)

-- each word has as many values as it has names
abbrev pub HaveValues : List WordAt → List Owned → Type 0
HaveValues [] os = Unit {0}
HaveValues (p ∷ ps) [] = Unit {0}
HaveValues (p ∷ ps) (o ∷ os) = (length o.values ≡ length p.word.names) × HaveValues ps os

-- The tokens are shaped and no amount is negative; names in a hand differ; there is a hand, a naming, a `wrap` and
-- locals for each thread and the final block, a value for each name of a word, and a content for each declared cell;
-- and words, cells and locals have 64 bits.
pub record IsTidy (x : MachineWithProgram) (s : World) : Type 0 where
  pub sound : AreSoundShards (fields_of x) (all_shards s.shares) s.shares.kept
  pub apart : AllByRecursion IsApart s.shares.hands
  pub hands : length s.shares.hands ≡ suc (length x.program.threads)
  pub proofs : length s.shares.proofs ≡ suc (length x.program.threads)
  pub wraps : length s.shares.wraps ≡ suc (length x.program.threads)
  pub locals : length s.memory.locals ≡ suc (length x.program.threads)
  pub values : HaveValues (array_words x.program.decls) s.shares.owned
  pub cells : length s.memory.cells ≡ length (first_cells (decls_of x))
  pub words_fit : AllByRecursion (λ n. n < 2 ^ 64) s.memory.words
  pub cells_fit : AllByRecursion (λ n. n < 2 ^ 64) s.memory.cells
  pub locals_fit : (t y : ℕ) → locals_of s.memory t y < 2 ^ 64

-- ---- what an environment says

-- the token that a token's terms say
abbrev pub worth : Valuation → TokenTree → Token
worth v t = record { field = t.field; key = num v t.key; value = num v t.value }

abbrev pub IsKnown : Valuation → Fact → Type 0
IsKnown v f = (f.params ≡ []) × Holds v f.form

-- No term or fact names a symbol that is still free. Something is said of constants, of words as `wrap` and of names
-- alone: what `held` of a token stands for is said by the hand.
pub record IsScopedEnv (e : Env) : Type 0 where
  pub names : (y : ℕ) (t : Tree) → e.terms y ≡ Some t → names_only (λ z. nat_lt z e.fresh) t ≡ true
  pub keys : (n : ℕ) (t : TokenTree) → e.hand n ≡ Some t → names_only (λ z. nat_lt z e.fresh) t.key ≡ true
  pub values : (n : ℕ) (t : TokenTree) → e.hand n ≡ Some t → names_only (λ z. nat_lt z e.fresh) t.value ≡ true
  pub facts : AllByRecursion (λ (f : Fact). form_names_only (λ z. nat_lt z e.fresh) f.form ≡ true) e.facts
  pub said : (y : ℕ) (t : Tree) → e.terms y ≡ Some t → (y < 64) ⊎ IsTextName y
  pub beyond : first_fresh ≤ e.fresh

-- each constant's name stands for its record
abbrev pub HasConstants : MachineWithProgram → Valuation → Env → World → Type 0
HasConstants x v e s =
    (f : ℕ) → f < length (fields_of x) → strategy_at (fields_of x) f ≡ Constant
    → (t : Tree) × (e.terms f ≡ Some t) × (num v t ≡ number_of (record_at s.shares.kept f))

-- Under the valuation the environment speaks of what thread t has. `is_assigned` says which names are locals of it: a
-- name is never both a local and a proof name.
pub record StandsAt (x : MachineWithProgram) (is_assigned : ℕ
    → Bool) (v : Valuation) (e : Env) (t : ℕ) (s : World) : Type 0 where
  pub constants : HasConstants x v e s
  pub names : (y : ℕ) (u : Tree) → e.terms (name_symbol y) ≡ Some u
      → num v u ≡ named_value (proofs_of s.shares t) (locals_of s.memory t) y
  pub no_proofs : (y : ℕ) → is_assigned y ≡ true → proofs_of s.shares t y ≡ None
  pub wrap : num v (stands e wrap_symbol) ≡ wrap_of s.shares t
  pub hand : (n : ℕ) → held_as n (hand_of s.shares t) ≡ option_map (worth v) (e.hand n)
  pub known : AllByRecursion (IsKnown v) e.facts
  pub scoped : IsScopedEnv e

-- two valuations say the same of all symbols that are not free yet
pub record AgreeBelow (next : ℕ) (v w : Valuation) : Type 0 where
  pub numbers : (y : ℕ) → y < next → v.number y ≡ w.number y
  pub maps : (y : ℕ) → y < next → v.mapping y ≡ w.mapping y

-- ---- inside the block of an operation on a word

-- While a word is open its guarded clauses that were not decided are kept at the old value, and nothing else is left.
abbrev pub clauses_are_half_kept : Sight → ℕ → List ℕ → List ClauseTree → List (Option Token) → Bool
clauses_are_half_kept v n decided [] [] = true
clauses_are_half_kept v n decided (c ∷ cs) (o ∷ os) =
    (if is_some c.guard && not (is_in n decided) then clause_is_kept v c o else is_none o)
    && clauses_are_half_kept v (suc n) decided cs os
clauses_are_half_kept v n decided [] (o ∷ os) = false
clauses_are_half_kept v n decided (c ∷ cs) [] = false

-- the block's word, its index and the values round the step are what their terms say
pub record StandsAround (x : MachineWithProgram) (v : Valuation) (e : Env) (a : AroundTree)
    (b : OpenBlock) : Type 0 where
  pub place : WordAt
  pub there : slice_get (array_words x.program.decls) b.number ≡ Some place
  pub word : a.word ≡ place.word
  pub index : num v a.index ≡ pos place.index
  pub old : num v a.old ≡ b.around.old
  pub new : num v a.new ≡ b.around.new
  pub scoped : (names_only (λ y. nat_lt y e.fresh) a.index
      && (names_only (λ y. nat_lt y e.fresh) a.old && names_only (λ y. nat_lt y e.fresh) a.new)) ≡ true
  pub old_named : stands e old_symbol ≡ a.old
  pub new_named : stands e new_symbol ≡ a.new

-- the word of an operation is kept, as what it owns says
pub record IsKeptAt (x : MachineWithProgram) (number value : ℕ) (s : World) : Type 0 where
  pub place : WordAt
  pub there : slice_get (array_words x.program.decls) number ≡ Some place
  pub owned : Owned
  pub owns : slice_get s.shares.owned number ≡ Some owned
  pub named : length owned.values ≡ length place.word.names
  pub kept : word_is_kept (fields_of x) s.shares.kept place value owned ≡ true

-- after `open`: besides, the values of the word's names, what was decided, and what the word still owns
pub record StandsOpen (x : MachineWithProgram) (is_assigned : ℕ
    → Bool) (v : Valuation) (c : Inside) (a : AroundTree) (t : ℕ) (s : World) (b : OpenBlock) : Type 0 where
  pub stands : StandsAt x is_assigned v c.env t s
  pub around : StandsAround x v c.env a b
  pub old : ℕ
  pub was : b.around.old ≡ pos old
  pub owned : Owned
  pub owns : slice_get s.shares.owned b.number ≡ Some owned
  pub values : map (num v) c.withs ≡ owned.values
  pub scoped : list_all (names_only (λ y. nat_lt y c.env.fresh)) c.withs ≡ true
  pub decided : c.decided ≡ b.decided
  pub kept : clauses_are_half_kept
      (word_sight (fields_of x) s.shares.kept around.place
      (pos old) owned.values) 1 c.decided around.place.word.clauses owned.tokens ≡ true

-- ---- what remains of the lists of a text

-- the keeps that jumps go to
abbrev pub aims_of : Spot → Aims
aims_of p = record { next = keep_of p.next; break = keep_of p.break; meet = keep_of p.meet; end = keep_of p.end } where
  keep_of : Option Target → Option KeepTree
  keep_of t = option_map (λ (t : Target). t.keep) t

-- A list as the names of a text leave it in a thread with these locals: its statements are named, it assigns locals of
-- the thread alone, and none of its proof names is a local.
pub record IsPart (x : MachineWithProgram) (locals : List ℕ) (spot : Spot) (list : ListTree) : Type 0 where
  pub named : list_is_named x locals (aims_of spot) list ≡ true
  pub assigns : list_all (λ y. is_in y locals) (assigned_locals list []) ≡ true
  pub binds : none_in (proof_names list) locals ≡ true

-- A keep of a form as they leave it, where there is one; and it names what is at hand in a keep of a form that begins
-- in this environment.
pub record IsPartKeep (x : MachineWithProgram) (locals : List ℕ) (e : Env) (k : Option KeepTree) : Type 0 where
  pub named : keep_here x k ≡ true
  pub binds : none_in (bound_by_keep k) locals ≡ true
  pub at_hand : option_all (λ (keep : KeepTree). keep_names_only (is_at_hand_in e.terms keep) keep) k ≡ true

-- ---- the lists round a place

-- the constants of an environment are those that are known after the start
abbrev pub HasConstantsOf : Env → Env → Type 0
HasConstantsOf known e = (f : ℕ) → f < 32 → e.terms f ≡ known.terms f

-- after the start a constant's term names nothing, and no other field has a term
pub record KnowsConstants (x : MachineWithProgram) (known : Env) : Type 0 where
  pub closed : (f : ℕ) (t : Tree) → f < 32 → known.terms f ≡ Some t → names_only (λ y. false) t ≡ true
  pub alone : (f : ℕ) (t : Tree) → f < 32 → known.terms f ≡ Some t → strategy_at (fields_of x) f ≡ Constant

-- the symbols that no keep changes: those that are in use after those of all names, and `wrap`'s own
abbrev pub is_lasting : ℕ → ℕ → Bool
is_lasting next y = nat_eq y wrap_symbol || (not (nat_lt y first_fresh) && nat_lt y next)

-- what a keep leaves of the environment before its form: the constants, and `wrap`, which is what was saved
pub record Lasts (x : MachineWithProgram) (known : Env) (v : Valuation) (saved : ℤ) (e : Env) (next : ℕ)
    (s : World) : Type 0 where
  pub scoped : IsScopedEnv e
  pub constants : HasConstants x v e s
  pub same : HasConstantsOf known e
  pub wrap : num v (stands e wrap_symbol) ≡ saved
  pub lasting : names_only (is_lasting e.fresh) (stands e wrap_symbol) ≡ true
  pub before : e.fresh ≤ next

-- The lists round a place, innermost first, are parts of a text, and well typed from their keeps.
abbrev pub Framed : Scene → Env → Valuation → ℕ → World → List (Frame annotated_language) → Spot → Spot → Type 0
Framed s known v next w [] inner outer = inner ≡ outer
Framed s known v next w (InBranch joined rest saved ∷ fs) inner outer =
    (e : Env) × (u : Spot) × (line : ℕ) × (inner ≡ in_branch e joined u) × Lasts s.text known v saved e next w
    × IsPartKeep s.text s.locals e joined × IsPart s.text s.locals u rest
    × (past line s.locals joined e (list_fault s rest u) rest ≡ None) × Framed s known v e.fresh w fs u outer
Framed s known v next w (InLoop k body left rest saved ∷ fs) inner outer =
    (e : Env) × (u : Spot) × (line : ℕ) × (inner ≡ in_loop e k left u) × Lasts s.text known v saved e next w
    × IsPartKeep s.text s.locals e
    (Some k) × IsPart s.text s.locals inner body × IsPartKeep s.text s.locals e left × IsPart s.text s.locals u rest
    × ((silent body).next ≡ false) × (on (after_keep line s.locals k e) (list_fault s body inner) ≡ None) ×
    (past line s.locals left e (list_fault s rest u) rest ≡ None) × Framed s known v e.fresh w fs u outer

-- ---- threads

-- Somebody who waits before a shared step: with the list of the whole thread or final block, and where that list goes
-- to. A name of which nothing is said stands for itself, and the constants and `wrap` will last after a keep.
pub record Rested (x : MachineWithProgram) (known : Env) (body : ListTree) (goal : Spot) (t : ℕ) (s : World)
    (w : Paused annotated_language) : Type 0 where
  pub env : Env
  pub spot : Spot
  pub values : Valuation
  pub waits : is_step w.rest ≡ true
  pub part : IsPart x (assigned_locals body []) spot w.rest
  pub same : HasConstantsOf known env
  pub unsaid : (y : ℕ) → y < name_limit → env.terms (name_symbol y) ≡ None
      → num values (Name (name_symbol y)) ≡ named_value (proofs_of s.shares t) (locals_of s.memory t) y
  pub lasting : names_only (is_lasting env.fresh) (stands env wrap_symbol) ≡ true
  pub stands : StandsAt x (λ y. is_in y (assigned_locals body [])) values env t s
  pub goes : list_fault (scene_of x body) w.rest spot env ≡ None
  pub framed : Framed (scene_of x body) known values env.fresh s w.frames spot goal

-- A thread that has ended has what its last keep says, where there is a final block that takes it, and no proof value
-- but those of the keep's own names.
pub record HasLeft (x : MachineWithProgram) (known : Env) (k : KeepTree) (t : ℕ) (s : World) : Type 0 where
  pub env : Env
  pub values : Valuation
  pub line : ℕ
  pub entered : enter_keep line k (bare (with_own k.names (constants known)) [] first_fresh) ≡ Ok env
  pub stands : StandsAt x (λ y. false) values env t s
  pub others : (y : ℕ) → is_in y k.names ≡ false → proofs_of s.shares t y ≡ None

abbrev pub HaveEnded : MachineWithProgram → Configuration → Type 0
HaveEnded x c = (t : ℕ) → t < length x.program.threads → slice_get c.places t ≡ Some None

-- Where there is no final block, it holds no token but those of the keep.
abbrev pub HasLeftIf : MachineWithProgram → Env → KeepTree → ℕ → World → Option ListTree → Type 0
HasLeftIf x known k t s None = (n : ℕ) → is_in n (own_tokens k) ≡ false → held_as n (hand_of s.shares t) ≡ None
HasLeftIf x known k t s (Some body) = HasLeft x known k t s

-- a thread waits, or it has ended, and the final block may have taken what it left
abbrev pub ThreadRests : MachineWithProgram → Env → Configuration → ℕ → ThreadTree
    → Option (Option (Paused annotated_language)) → Type 0
ThreadRests x known c t thread (Some (Some w)) = Rested x known thread.body (thread_place thread) t c.state w
ThreadRests x known c t thread (Some None) =
    HasLeftIf x known thread.ends t c.state x.program.last ⊎ (HaveEnded x c × (hand_of c.state.shares t ≡ []))
ThreadRests x known c t thread None = ⊥

-- the final block has nothing yet
pub record HasNothing (t : ℕ) (s : World) : Type 0 where
  pub hand : hand_of s.shares t ≡ []
  pub proofs : (y : ℕ) → proofs_of s.shares t y ≡ None
  pub locals : (y : ℕ) → locals_of s.memory t y ≡ 0

-- The final block waits, and then all threads have ended and no hand but its own holds anything; or it has not begun,
-- or all have ended.
abbrev pub FinalRests : MachineWithProgram → Env → Configuration → ℕ → Option ListTree
    → Option (Option (Paused annotated_language)) → Type 0
FinalRests x known c n (Some body) (Some (Some w)) =
    HaveEnded x c × ((t : ℕ) → t < n → hand_of c.state.shares t ≡ []) × Rested x known body final_place n c.state w
FinalRests x known c n last (Some None) = HasNothing n c.state ⊎ HaveEnded x c
FinalRests x known c n last other = ⊥

-- At a moment between events: all is good, there is a place for each thread and the final block, and each of them goes
-- on as the typing rules say. `known` is what is known after the start.
pub record Rests (x : MachineWithProgram) (known : Env) (c : Configuration) : Type 0 where
  pub tidy : IsTidy x c.state
  pub good : IsGood x c
  pub start : StartTree
  pub started : x.program.start ≡ Some start
  pub knows : start_row x start ≡ Ok known
  pub constants : KnowsConstants x known
  pub places : length c.places ≡ suc (length x.program.threads)
  pub threads : (t : ℕ) (thread : ThreadTree) → slice_get x.program.threads t ≡ Some thread
      → ThreadRests x known c t thread (slice_get c.places t)
  pub last : FinalRests x known c (length x.program.threads) x.program.last
      (slice_get c.places (length x.program.threads))
