-- What a keep asks of those who come to it, and what is known after it: the keep alone.
use Rattle.std.specs.Prelude.{ℕ, zero, suc, pos, Bool, true, false, ◌&&◌, ◌||◌, nat_eq, nat_lt, List, [], ◌∷◌, ◌++◌, length, map, Option, Some, None, is_some, unwrap_or, option_map, Ok, if◌then◌else◌}
use Rattle.std.specs.List.{list_all, list_any}
use Rattle.sync_base.specs.Outcome.{◌>>=◌}
use Rattle.sync_base.specs.declared.stops.Rule.TheVariants.{T1, T6}
use Rattle.sync_terms.specs.Trees.{Tree, Lit, Name, replaced, replaced_in}
use Rattle.sync_machine.specs.Naming.{is_in}
use Rattle.sync_machine.specs.Statements.{or_zero, one}
use Rattle.sync_rules.specs.Locality.{names_only, form_names_only}
use Rattle.sync_rules.specs.Obligations.{names}
use Rattle.sync_kernel_facts.specs.Facts.{Fact}
use Rattle.sync_thread.specs.Programs.{ScriptTree, KeepTree, KeepLineTree, KeepFactTree}
use Rattle.sync_terms.specs.Symbols.{name_symbol}
use Rattle.sync_thread_machine.specs.ProgramSymbols.{held_of, symbols, wrap_symbol}
use Rattle.sync_typing.specs.Symbols.{named_by, paired}
use Rattle.sync_typing.specs.Environments.{Env, TokenTree, Tokens, Outcome, on_some, stands, read, token, take_in, bounds, top, tell}
use Rattle.sync_typing.specs.Dues.{Due, Wants, Makes, Owes, row, at_hand_due, asked_dues}
use Rattle.sync_typing.specs.Blocks.{shape_dues, shape_field}

-- ---- the names in a keep

abbrev pub option_all : {A : Type 0} → (A → Bool) → Option A → Bool
option_all p None = true
option_all p (Some a) = p a

abbrev pub keep_names_only : (ℕ → Bool) → KeepTree → Bool
keep_names_only p k =
    list_all (λ (l : KeepLineTree). option_all (names_only p) l.shape.key && option_all (names_only p) l.shape.value)
    k.lines
    && list_all (λ (f : KeepFactTree). form_names_only p f.form) k.facts

abbrev pub own_tokens : KeepTree → List ℕ
own_tokens k = map (λ (l : KeepLineTree). l.name) k.lines

-- at hand in a keep: its own names and tokens, constants, and the names that are held before it
abbrev pub is_at_hand_in : (ℕ → Option Tree) → KeepTree → ℕ → Bool
is_at_hand_in before k x =
    nat_lt x 64 || (is_some (before x) || (is_in x (symbols k.names) || is_in x (map held_of (own_tokens k))))

abbrev pub keep_due : (ℕ → Option Tree) → KeepTree → Due
keep_due before k = Wants T1 (keep_names_only (is_at_hand_in before k) k)

abbrev pub keep_if_due : (ℕ → Option Tree) → Option KeepTree → List Due
keep_if_due before None = []
keep_if_due before (Some k) = keep_due before k ∷ []

-- ---- coming to a keep

-- What the names of a keep stand for where it is come to: its own for the arguments, `wrap` for that of the keep's
-- place.
abbrev pub arriving : Env → KeepTree → List Tree → Tree → ℕ → Tree
arriving e k args wrap x =
    unwrap_or (named_by (paired (symbols k.names) (map (read e) args) ++ (wrap_symbol, wrap) ∷ []) x) (stands e x)

abbrev pub lines_asks : Env → List KeepLineTree → List Due
lines_asks e [] = []
lines_asks e (l ∷ ls) = asked_dues e [] (nat_eq (shape_field l.shape)) l.name ++ lines_asks e ls

abbrev pub lines_dues : Env → (ℕ → Tree) → List KeepLineTree → List Due
lines_dues e s [] = []
lines_dues e s (l ∷ ls) = shape_dues T6 s l.shape (token e l.name) ++ lines_dues e s ls

abbrev pub facts_dues : (ℕ → Tree) → List KeepFactTree → List Due
facts_dues s fs = map (λ (f : KeepFactTree). Owes T6 (replaced_in s f.form)) fs

-- the obligations of `next`, `break`, `meet`, `end`, `from` and `give`, after those that stand before
abbrev pub arrive_dues : Env → KeepTree → List Tree → Tree → List Due
arrive_dues e k args wrap =
    lines_asks e k.lines ++ map Makes (map (read e) args) ++ lines_dues e (arriving e k args wrap) k.lines
    ++ facts_dues (arriving e k args wrap) k.facts

abbrev pub arrive_row : {X : Type 0} → ℕ → List Due → KeepTree → List Tree → List ScriptTree → Tree → Env → Outcome X
    → Outcome X
arrive_row line before k args ss wrap e next =
    row e line (at_hand_due e args [] ss ∷ before ++ arrive_dues e k args wrap) ss next

-- ---- after a keep

-- Each name of the thread stands for its own symbol again, of which nothing is known; constants and `wrap` stay.
abbrev pub renewed : (ℕ → Option Tree) → ℕ → Option Tree
renewed before x = if nat_lt x 64 then before x else option_map (λ t. Name x) (before x)

abbrev pub with_own : List ℕ → (ℕ → Option Tree) → ℕ → Option Tree
with_own ns before x = if is_in x (symbols ns) then Some (Name x) else before x

-- the bounds of all locals of a thread, in the order in which they are first assigned
abbrev pub local_bounds : (ℕ → Option Tree) → List ℕ → List Fact
local_bounds names [] = []
local_bounds names (x ∷ xs) =
    bounds (name_symbol x) (unwrap_or (names (name_symbol x)) (Name (name_symbol x))) top ++ local_bounds names xs

-- the value of a line names the token n
abbrev pub line_names : ℕ → KeepLineTree → Bool
line_names n l = on_some l.shape.value false (names (held_of n))

-- the value of a line names the token n, itself or through at most so many others
abbrev pub depends : ℕ → List KeepLineTree → ℕ → KeepLineTree → Bool
depends zero ls n l = line_names n l
depends (suc k) ls n l = line_names n l || list_any (λ (o : KeepLineTree). line_names o.name l && depends k ls n o) ls

abbrev pub is_circular : List KeepLineTree → KeepLineTree → Bool
is_circular ls l = depends (length ls) ls l.name l

abbrev pub line_value : KeepLineTree → Tree
line_value l = unwrap_or l.shape.value one

-- What `held` of a token of the keep stands for: its line's value, read so again; a token that depends on itself has
-- its own symbol, of which nothing is known.
abbrev pub value_among : (ℕ → Tree) → List KeepLineTree → List KeepLineTree → ℕ → Tree
value_among deeper all [] x = Name x
value_among deeper all (l ∷ ls) x =
    if nat_eq (held_of l.name) x then (if is_circular all l then Name x else replaced deeper (line_value l))
    else value_among deeper all ls x

abbrev pub line_values : ℕ → List KeepLineTree → ℕ → Tree
line_values zero ls x = Name x
line_values (suc k) ls x = value_among (line_values k ls) ls ls x

-- the tokens of a keep; s says what its other names stand for
abbrev pub kept_tokens : (ℕ → Tree) → List KeepLineTree → Tokens
kept_tokens s ls = map (λ (l : KeepLineTree). (l.name, token_at l)) ls where
  inside : Tree → Tree
  inside t = replaced s (replaced (line_values (length ls) ls) t)

  token_at : KeepLineTree → TokenTree
  token_at l =
      record { field = shape_field l.shape; key = inside (or_zero l.shape.key); value = inside (Name (held_of l.name)) }

abbrev pub tell_all : ℕ → List KeepFactTree → Env → Outcome Env
tell_all line [] e = Ok e
tell_all line (f ∷ fs) e = tell line f.label (replaced_in (stands e) f.form) e >>= tell_all line fs

-- the lines and the facts of a keep come to what is known
abbrev pub enter_keep : ℕ → KeepTree → Env → Outcome Env
enter_keep line k e = take_in line [] (kept_tokens (stands e) k.lines) e >>= tell_all line k.facts

abbrev pub enter_keeps : ℕ → List KeepTree → Env → Outcome Env
enter_keeps line [] e = Ok e
enter_keeps line (k ∷ ks) e = enter_keep line k e >>= enter_keeps line ks

-- names and the bounds of the locals, an empty hand
abbrev pub bare : (ℕ → Option Tree) → List ℕ → ℕ → Env
bare names locals next = record { terms = names; hand = λ n. None; facts = local_bounds names locals; fresh = next }

-- after a keep of a thread with these locals: the keep alone is known
abbrev pub after_keep : ℕ → List ℕ → KeepTree → Env → Outcome Env
after_keep line locals k e = enter_keep line k (bare (with_own k.names (renewed e.terms)) locals e.fresh)

-- at the beginning of a thread or the final block: all locals are 0
abbrev pub at_beginning : ℕ → (ℕ → Option Tree) → List ℕ → List KeepTree → ℕ → Outcome Env
at_beginning line constants locals ks next = enter_keeps line ks (bare (owned ks) locals next) where
  owned : List KeepTree → ℕ → Option Tree
  owned [] x = if is_in x (symbols locals) then Some (Lit (pos 0)) else constants x
  owned (k ∷ ks) x = with_own k.names (owned ks) x
