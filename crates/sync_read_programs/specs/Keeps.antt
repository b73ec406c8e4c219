-- Forms of tokens, keeps and declarations of a program, or the first rule of names that they break.
use Rattle.std.specs.Prelude.{ℕ, ◌-◌, nat_lt, Bool, true, false, List, [], ◌∷◌, ◌++◌, length, count_by, slice_get, is_none, Option, Some, None, Result, Ok, if◌then◌else◌}
use Rattle.sync_base.specs.declared.stops.Refusal.{Refusal}
use Rattle.sync_base.specs.declared.stops.Rule.TheVariants.{N1, N5, N6}
use Rattle.sync_base.specs.Outcome.{◌>>=◌}
use Rattle.sync_base.specs.declared.strategies.Strategy.{Strategy}
use Rattle.sync_base.specs.declared.strategies.Strategy.TheVariants as strategy
use Rattle.sync_terms.specs.Trees.{Tree, Formula}
use Rattle.sync_parse.specs.declared.trees.RawPattern.{RawPattern}
use Rattle.sync_parse.specs.declared.trees.RawPattern.TheVariants as pattern
use Rattle.sync_parse.specs.declared.trees.RawPlace.{RawPlace}
use Rattle.sync_parse.specs.declared.trees.RawPlace.TheVariants as place
use Rattle.sync_parse_exprs.specs.declared.expressions.RawExpr.{RawExpr}
use Rattle.sync_parse_exprs.specs.declared.raw_names.RawName.{RawName}
use Rattle.sync_parse_programs.specs.declared.operands.RawNumber.{RawNumber}
use Rattle.sync_parse_programs.specs.declared.proof_statements.RawShape.{RawShape}
use Rattle.sync_parse_programs.specs.declared.proof_statements.RawKeepLine.{RawKeepLine}
use Rattle.sync_parse_programs.specs.declared.proof_statements.RawKeepFact.{RawKeepFact}
use Rattle.sync_parse_programs.specs.declared.proof_statements.RawKeep.{RawKeep}
use Rattle.sync_parse_programs.specs.declared.proof_statements.RawClause.{RawClause}
use Rattle.sync_parse_programs.specs.declared.proof_statements.RawWord.{RawWord}
use Rattle.sync_parse_programs.specs.declared.proof_statements.RawCell.{RawCell}
use Rattle.sync_parse_programs.specs.declared.proof_statements.RawDeclaration.{RawDeclaration}
use Rattle.sync_parse_programs.specs.declared.proof_statements.RawDeclaration.TheVariants as declaration
use Rattle.sync_thread.specs.Programs.{ShapeTree, ClauseTree, WordTree, CellTree, DeclTree, KeepLineTree, KeepFactTree, KeepTree}
use Rattle.sync_thread.specs.Programs as tree
use Rattle.sync_read_names.specs.declared.scopes.Sort.TheVariants as sort
use Rattle.sync_read_names.specs.declared.scopes.Meaning.{Meaning}
use Rattle.sync_read_names.specs.declared.scopes.Meaning.TheVariants as meaning
use Rattle.sync_read_names.specs.declared.scopes.Scope.{Scope}
use Rattle.sync_read_names.specs.Scopes.{refuse, meaning_of}
use Rattle.sync_read_names.specs.Exprs.{term_of, form_of}
use Rattle.sync_read_programs.specs.declared.scopes.Declared.TheVariants as declared
use Rattle.sync_read_programs.specs.declared.scopes.WordCounts.{WordCounts}
use Rattle.sync_read_programs.specs.declared.scopes.Room.{Room}
use Rattle.sync_read_programs.specs.declared.scopes.ProgramScope.{ProgramScope}
use Rattle.sync_read_programs.specs.Scopes.{may_prove, prove_name, end_name, end_token, next_list, list_name, word_name, declare_name, in_word}
use Rattle.sync_read_programs.specs.Operands.{label_of, word_number}

-- ---- forms of tokens

-- the places `(v)`, `[k]` and `[k => v]` without `?`
abbrev pub is_term : RawPattern → Bool
is_term (pattern.Term e) = true
is_term (pattern.Bind n) = false

abbrev pub is_value : RawPlace → Bool
is_value (place.Value p) = is_term p
is_value (place.Key e) = false
is_value (place.Entry e p) = false

abbrev pub is_key : RawPlace → Bool
is_key (place.Key e) = true
is_key (place.Value p) = false
is_key (place.Entry e p) = false

abbrev pub is_entry : RawPlace → Bool
is_entry (place.Entry e p) = is_term p
is_entry (place.Value p) = false
is_entry (place.Key e) = false

-- the place that tokens of a field have; a field without tokens has none
abbrev pub has_place : Strategy → Option (RawPlace → Bool)
has_place strategy.Variable = Some is_value
has_place strategy.Option = Some is_value
has_place strategy.Count = Some is_value
has_place strategy.PersistentOption = Some is_value
has_place strategy.PersistentCount = Some is_value
has_place strategy.Set = Some is_key
has_place strategy.Multiset = Some is_key
has_place strategy.PersistentSet = Some is_key
has_place strategy.Map = Some is_entry
has_place strategy.PersistentMap = Some is_entry
has_place strategy.StorageMap = None
has_place strategy.Constant = None
has_place strategy.NotTokenized = None

abbrev pub token_field : ℕ → Option Strategy → RawPlace → ℕ → ℕ → Result (Option ℕ) Refusal
token_field f None p named line = refuse N1 named
token_field f (Some st) p named line = of (has_place st) where
  of : Option (RawPlace → Bool) → Result (Option ℕ) Refusal
  of None = refuse N1 named
  of (Some fits) = if fits p then Ok (Some f) else refuse N6 line

abbrev pub field_of_token : ProgramScope → Meaning → RawPlace → ℕ → ℕ → Result (Option ℕ) Refusal
field_of_token s (meaning.Field f t) p named line = token_field f (slice_get s.strategies f) p named line
field_of_token s meaning.Nothing p named line = refuse N1 named
field_of_token s (meaning.Operation n) p named line = refuse N1 named
field_of_token s (meaning.Invariant n) p named line = refuse N1 named

-- the field of a form, none for `perm`; its name, and its place, which is that of its field
abbrev pub shape_field : ProgramScope → Option RawName → RawPlace → ℕ → Result (Option ℕ) Refusal
shape_field s (Some n) p line = field_of_token s (meaning_of s.scope n.name) p n.line line
shape_field s None p line = if is_entry p then Ok None else refuse N6 line

abbrev pub value_in : ProgramScope → RawPattern → ℕ → Result Tree Refusal
value_in s (pattern.Term e) line = term_of sort.Number e s.scope
value_in s (pattern.Bind n) line = refuse N6 line

-- the key and the value of a place
abbrev pub place_terms : ProgramScope → RawPlace → ℕ → Result (Option Tree × Option Tree) Refusal
place_terms s (place.Value p) line = do
  v ← value_in s p line
  Ok (None, Some v)
place_terms s (place.Key e) line = do
  k ← term_of sort.Number e s.scope
  Ok (Some k, None)
place_terms s (place.Entry e p) line = do
  k ← term_of sort.Number e s.scope
  v ← value_in s p line
  Ok (Some k, Some v)

unfoldable pub shape_in : ProgramScope → RawShape → Result ShapeTree Refusal
shape_in s x = do
  f ← shape_field s x.field x.place x.line
  p ← place_terms s x.place x.line
  Ok (record { field = f; key = p.0; value = p.1 })

-- ---- keeps: those that threads end with have names and tokens that differ over all threads

abbrev pub prove_or_end : Bool → ProgramScope → RawName → Result ProgramScope Refusal
prove_or_end true s n = end_name s n
prove_or_end false s n = prove_name s n

unfoldable pub listed_proof_name : Bool → ProgramScope → RawName → Result ProgramScope Refusal
listed_proof_name ends s n = do
  s2 ← list_name s n
  x ← may_prove s2 n
  prove_or_end ends s2 n

-- proof names of one list, known from here on
unfoldable pub proof_names_from : Bool → List ℕ → ProgramScope → List RawName → Result (List ℕ × ProgramScope) Refusal
proof_names_from ends held s [] = Ok (held, s)
proof_names_from ends held s (n ∷ ns) = do
  s2 ← listed_proof_name ends s n
  proof_names_from ends (held ++ n.name ∷ []) s2 ns

abbrev pub end_token_if : Bool → ProgramScope → RawName → Result ProgramScope Refusal
end_token_if true s n = end_token s n
end_token_if false s n = Ok s

unfoldable pub keep_line : Bool → ProgramScope → RawKeepLine → Result (KeepLineTree × ProgramScope) Refusal
keep_line ends s l = do
  s2 ← list_name s l.name
  s3 ← end_token_if ends s2 l.name
  x ← shape_in s3 l.shape
  Ok (record { name = l.name.name; shape = x; line = l.name.line }, s3)

unfoldable pub keep_lines_from : Bool → List KeepLineTree → ProgramScope → List RawKeepLine → Result (List KeepLineTree × ProgramScope) Refusal
keep_lines_from ends held s [] = Ok (held, s)
keep_lines_from ends held s (l ∷ ls) = do
  x ← keep_line ends s l
  keep_lines_from ends (held ++ x.0 ∷ []) x.1 ls

unfoldable pub keep_fact : Scope → RawKeepFact → Result KeepFactTree Refusal
keep_fact s x = do
  f ← form_of x.form s
  Ok (record { form = f; label = label_of x.label; line = x.line })

unfoldable pub keep_facts_from : List KeepFactTree → Scope → List RawKeepFact → Result (List KeepFactTree) Refusal
keep_facts_from held s [] = Ok held
keep_facts_from held s (x ∷ xs) = do
  y ← keep_fact s x
  keep_facts_from (held ++ y ∷ []) s xs

unfoldable pub keep_in : Bool → ProgramScope → RawKeep → Result (KeepTree × ProgramScope) Refusal
keep_in ends s k = do
  ns ← proof_names_from ends [] (next_list s) k.names
  ls ← keep_lines_from ends [] (next_list ns.1) k.lines
  fs ← keep_facts_from [] ls.1.scope k.facts
  Ok (record { names = ns.0; lines = ls.0; facts = fs; line = k.line }, ls.1)

unfoldable pub keep_if : ProgramScope → Option RawKeep → Result (Option KeepTree × ProgramScope) Refusal
keep_if s None = Ok (None, s)
keep_if s (Some k) = do
  x ← keep_in false s k
  Ok (Some x.0, x.1)

-- ---- words and cells

-- how many elements may still come
abbrev pub take_from : ℕ → RawNumber → Result ℕ Refusal
take_from left n = if nat_lt left n.number then refuse N5 n.line else Ok (left - n.number)

unfoldable pub word_names_from : List ℕ → ProgramScope → List RawName → Result (List ℕ × ProgramScope) Refusal
word_names_from held s [] = Ok (held, s)
word_names_from held s (n ∷ ns) = do
  s2 ← word_name s n
  word_names_from (held ++ n.name ∷ []) s2 ns

abbrev pub names_or_none : Option (List RawName) → List RawName
names_or_none (Some ns) = ns
names_or_none None = []

abbrev pub form_if : Option RawExpr → Scope → Result (Option Formula) Refusal
form_if None s = Ok None
form_if (Some e) s = do
  f ← form_of e s
  Ok (Some f)

unfoldable pub clause_in : ProgramScope → RawClause → Result ClauseTree Refusal
clause_in s c = do
  x ← shape_in s c.shape
  g ← form_if c.guard s.scope
  Ok (record { shape = x; guard = g; line = c.line })

unfoldable pub clauses_from : List ClauseTree → ProgramScope → List RawClause → Result (List ClauseTree) Refusal
clauses_from held s [] = Ok held
clauses_from held s (c ∷ cs) = do
  x ← clause_in s c
  clauses_from (held ++ x ∷ []) s cs

abbrev pub is_unguarded : RawClause → Bool
is_unguarded c = is_none c.guard

abbrev pub word_counts : RawWord → WordCounts
word_counts w = record { names = length (names_or_none w.with); clauses = length w.clauses; unguarded = count_by is_unguarded w.clauses }

-- a text has at most 1,024 words and 4,096 cells
abbrev pub all_room : Room
all_room = record { words = 1024; cells = 4096 }

-- the length and the first value of an array, behind its name
abbrev pub sizes : ℕ → RawNumber → RawNumber → Result (ℕ × ℕ) Refusal
sizes left len value = do
  n ← take_from left len
  v ← word_number value
  Ok (n, v)

unfoldable pub word_body : ProgramScope → RawWord → ℕ → Result (WordTree × ProgramScope) Refusal
word_body s w value = do
  ns ← word_names_from [] (in_word w.name.name s) (names_or_none w.with)
  cs ← clauses_from [] ns.1 w.clauses
  f ← form_if w.fact ns.1.scope
  Ok (record { name = w.name.name; len = w.length.number; init = value; names = ns.0; clauses = cs; fact = f; line = w.line }, ns.1)

unfoldable pub word_declared : ℕ → ProgramScope → RawWord → Result (WordTree × ℕ × ProgramScope) Refusal
word_declared left s w = do
  s2 ← declare_name (declared.Word (word_counts w)) s w.name
  p ← sizes left w.length w.value
  x ← word_body s2 w p.1
  Ok (x.0, p.0, x.1)

unfoldable pub cell_declared : ℕ → ProgramScope → RawCell → Result (CellTree × ℕ × ProgramScope) Refusal
cell_declared left s c = do
  s2 ← declare_name declared.Cell s c.name
  p ← sizes left c.length c.value
  Ok (record { name = c.name.name; len = c.length.number; init = p.1; line = c.line }, p.0, s2)

unfoldable pub declaration_in : Room → ProgramScope → RawDeclaration → Result (DeclTree × Room × ProgramScope) Refusal
declaration_in room s (declaration.Word w) = do
  x ← word_declared room.words s w
  Ok (tree.Word x.0, record room { words = x.1 }, x.2)
declaration_in room s (declaration.Cell c) = do
  x ← cell_declared room.cells s c
  Ok (tree.Cell x.0, record room { cells = x.1 }, x.2)

unfoldable pub declarations_from : List DeclTree → Room → ProgramScope → List RawDeclaration → Result (List DeclTree × ProgramScope) Refusal
declarations_from held room s [] = Ok (held, s)
declarations_from held room s (d ∷ ds) = do
  x ← declaration_in room s d
  declarations_from (held ++ x.0 ∷ []) x.1 x.2 ds
