-- Words and cells that are read keep the names.
use Rattle.std.proofs.Common.{◌≡◌, ℕ, ◌+◌, ◌<◌, ◌≤◌, ◌||◌, Bool, true, false, if◌then◌else◌, List, [], ◌∷◌, ◌++◌, length, map, slice_get, slice_set, count_by, nat_lt, nat_eq, Option, Some, None, is_some, is_none, Result, Ok, Err, refl, sym, ap, subst, ◌∙◌, true≢false, append-nil, append_assoc, length-append, length-set, arith}
use Rattle.std.specs.List.{list_all, fold}
use Rattle.std.specs.Result.{IfOk}
use Rattle.std.proofs.lemmas.Bool.{ltb-true, eq-eqb, eqb-true, and_from, and_parts, or_left, or_right}
use Rattle.std.proofs.lemmas.List.{map-append, length-map}
use Rattle.std.proofs.lemmas.List.Folds.{list_all-append, list_any-append}
use Rattle.std.proofs.lemmas.Option.{slice_get_within}
use Rattle.sync_base.proofs.Basics.{or_false}
use Rattle.sync_base.specs.declared.stops.Rule.TheVariants.{N2}
use Rattle.sync_terms.specs.Symbols.{name_symbol}
use Rattle.sync_machine.specs.declared.fields.Field.{Field}
use Rattle.sync_machine.specs.Scope.{Known}
use Rattle.sync_machine.specs.States.{Numbers, strategy_at}
use Rattle.sync_machine.specs.Naming.{is_in}
use Rattle.sync_parse_exprs.specs.declared.expressions.RawExpr.{RawExpr}
use Rattle.sync_parse_exprs.specs.declared.expressions.Special.{Special}
use Rattle.sync_parse_exprs.specs.declared.expressions.Special.TheVariants as special
use Rattle.sync_parse_exprs.specs.declared.raw_names.RawName.{RawName}
use Rattle.sync_parse_programs.specs.declared.operands.RawNumber.{RawNumber}
use Rattle.sync_parse_programs.specs.declared.proof_statements.RawClause.{RawClause}
use Rattle.sync_parse_programs.specs.declared.proof_statements.RawWord.{RawWord}
use Rattle.sync_parse_programs.specs.declared.proof_statements.RawCell.{RawCell}
use Rattle.sync_parse_programs.specs.declared.proof_statements.RawDeclaration.{RawDeclaration}
use Rattle.sync_parse_programs.specs.declared.proof_statements.RawDeclaration.TheVariants as declaration
use Rattle.sync_thread.specs.Programs.{ClauseTree, WordTree, CellTree, DeclTree, is_unguarded}
use Rattle.sync_thread.specs.Programs as tree
use Rattle.sync_thread.specs.Arrays.{Span, words_in, cells_named, code_decl, shifted, name_limit}
use Rattle.sync_thread_machine.specs.MachineWithProgram.{MachineWithProgram}
use Rattle.sync_thread_machine.specs.ProgramSymbols.{symbols, value_symbol, index_symbol}
use Rattle.sync_typing.specs.Lists.{named_word}
use Rattle.sync_typing.specs.Typing.{is_constant}
use Rattle.sync_typing.specs.Names.{are_apart_names, is_small, is_formula, if_there, shape_is_named, is_constant_field, known_in_word, clause_is_named, decl_is_named, decl_name, number_if}
use Rattle.sync_read.specs.Acts.{strategy_sort}
use Rattle.sync_read.proofs.Chains.{after, after_ok, if_ok, weaker}
use Rattle.sync_read.proofs.Owning.{get_set_here, get_set_other}
use Rattle.sync_read_names.specs.declared.scopes.Sort.{Sort}
use Rattle.sync_read_names.specs.declared.scopes.Sort.TheVariants as sort
use Rattle.sync_read_names.specs.declared.scopes.Meaning.TheVariants.{Field as AField}
use Rattle.sync_read_names.specs.declared.scopes.Owners.{Owners}
use Rattle.sync_read_names.specs.declared.scopes.Owner.{Owner}
use Rattle.sync_read_names.specs.declared.scopes.Owner.TheVariants as owner
use Rattle.sync_read_names.specs.declared.scopes.Scope.{Scope}
use Rattle.sync_read_names.specs.Scopes.{refuse, number_in, symbol_of, meaning_of, flag, with_owner, has_owner, or_unowned, is_owned, is_local, knows_params, knows_special, special_number, seen_as}
use Rattle.sync_read_names.specs.Exprs.{form_of}
use Rattle.sync_read_programs.specs.declared.scopes.Declared.{Declared}
use Rattle.sync_read_programs.specs.declared.scopes.Declared.TheVariants as declared
use Rattle.sync_read_programs.specs.declared.scopes.Room.{Room}
use Rattle.sync_read_programs.specs.declared.scopes.Standing.{Standing}
use Rattle.sync_read_programs.specs.declared.scopes.ProgramScope.{ProgramScope}
use Rattle.sync_read_programs.specs.Scopes.{calls_of, constants_from, standing_of, or_no_standing, with_standing, is_undeclared, declare_name, word_name, prove_more, prove_name, in_word, word_sight}
use Rattle.sync_read_programs.specs.Operands.{word_number}
use Rattle.sync_read_programs.specs.Keeps.{is_unguarded as is_unguarded_raw, take_from, word_names_from, names_or_none, form_if, clause_in, clauses_from, word_counts, sizes, word_body, word_declared, cell_declared, declaration_in, declarations_from}
use Rattle.sync_read_programs.specs.Keeps.{shape_in}
use Rattle.sync_read_laws.proofs.TermsRead.{Agrees}
use Rattle.sync_read_laws.proofs.Places.{IsWord, IsDeclared, local_number, constant_up, seen_up, constant_is_number, is_number_sort}
use Rattle.sync_read_laws.proofs.Moves.{same_set, new_set, names_more}
use Rattle.sync_read_laws.proofs.Parts.{form_named, word_number_is}
use Rattle.sync_read_laws.proofs.KeepsRead.{shape_named}

-- ---- what is known while words and cells are read

abbrev pub proof_number : Option Owners → ℕ
proof_number (Some o) = o.proof
proof_number None = 0

pub record Declaring (x : MachineWithProgram) (ds : List DeclTree) (s : ProgramScope) : Type 0 where
  pub calls : s.calls ≡ calls_of x.machine
  pub strategies : s.strategies ≡ map (λ (f : Field). f.strategy) x.machine.fields
  pub constants : s.constants ≡ constants_from 0 0 x.machine.fields
  pub sorts : (n f : ℕ) (t : Sort) → meaning_of s.scope n ≡ AField f t → t ≡ strategy_sort (strategy_at x.machine.fields f)
  pub names : length s.standings ≤ name_limit
  pub owners : length s.scope.owners ≤ name_limit
  pub declared : (n : ℕ) → IsDeclared ds n (standing_of s n).declared
  pub local : (n : ℕ) → local_number (slice_get s.scope.owners n) ≡ 0
  pub proof : (n : ℕ) → proof_number (slice_get s.scope.owners n) ≡ 0
  pub words : (m n : ℕ) → is_owned s.scope (owner.Word m) n ≡ true → is_undeclared (standing_of s m).declared ≡ false
  pub threads : (n : ℕ) → (standing_of s n).thread ≡ None
  pub named : list_all (decl_is_named x) ds ≡ true
  pub apart : are_apart_names (map decl_name ds) ≡ true

-- ---- one declaration more

words_more : (n : ℕ) (ds : List DeclTree) (d : DeclTree) (w : WordTree) → named_word n (words_in ds) ≡ Some w → named_word n (words_in (ds ++ d ∷ [])) ≡ Some w
words_more n [] d w e = cc
words_more n (tree.Cell c ∷ ds) d w e = words_more n ds d w e
words_more n (tree.Word v ∷ ds) d w e = by (nat_eq n v.name) (words_more n ds d w) e where
  by : (b : Bool) → (named_word n (words_in ds) ≡ Some w → named_word n (words_in (ds ++ d ∷ [])) ≡ Some w)
      → (if b then Some v else named_word n (words_in ds)) ≡ Some w → (if b then Some v else named_word n (words_in (ds ++ d ∷ []))) ≡ Some w
  by true more e = e
  by false more e = more e

first_no : (a b : Bool) → (a || b) ≡ false → a ≡ false
first_no true b e = cc
first_no false b e = refl

second_no : (a b : Bool) → (a || b) ≡ false → b ≡ false
second_no true b e = cc
second_no false b e = e

word_last : (n : ℕ) (ds : List DeclTree) (w : WordTree) → is_in n (map decl_name ds) ≡ false → n ≡ w.name → named_word n (words_in (ds ++ tree.Word w ∷ [])) ≡ Some w
word_last n [] w new e = ap (λ b. if b then Some w else None) (eq-eqb n w.name e)
word_last n (tree.Cell c ∷ ds) w new e = word_last n ds w (second_no (nat_eq n c.name) (is_in n (map decl_name ds)) new) e
word_last n (tree.Word v ∷ ds) w new e =
    ap (λ b. if b then Some v else named_word n (words_in (ds ++ tree.Word w ∷ []))) (first_no (nat_eq n v.name) (is_in n (map decl_name ds)) new)
    ∙ word_last n ds w (second_no (nat_eq n v.name) (is_in n (map decl_name ds)) new) e

shifted_there : (k : ℕ) (o : Option Span) → is_some (shifted k o) ≡ is_some o
shifted_there k None = refl
shifted_there k (Some s) = refl

cells_more : (n : ℕ) (ds : List DeclTree) (d : DeclTree) → is_some (cells_named n (map code_decl ds)) ≡ true → is_some (cells_named n (map code_decl (ds ++ d ∷ []))) ≡ true
cells_more n [] d e = cc
cells_more n (tree.Word w ∷ ds) d e = cells_more n ds d e
cells_more n (tree.Cell c ∷ ds) d e = by (nat_eq n c.name) (cells_more n ds d) e where
  by : (b : Bool) → (is_some (cells_named n (map code_decl ds)) ≡ true → is_some (cells_named n (map code_decl (ds ++ d ∷ []))) ≡ true)
      → is_some (if b then Some (record { base = 0; len = c.len }) else shifted c.len (cells_named n (map code_decl ds))) ≡ true
      → is_some (if b then Some (record { base = 0; len = c.len }) else shifted c.len (cells_named n (map code_decl (ds ++ d ∷ [])))) ≡ true
  by true more e = refl
  by false more e = shifted_there c.len (cells_named n (map code_decl (ds ++ d ∷ []))) ∙ more (sym (shifted_there c.len (cells_named n (map code_decl ds))) ∙ e)

cell_last : (n : ℕ) (ds : List DeclTree) (c : CellTree) → n ≡ c.name → is_some (cells_named n (map code_decl (ds ++ tree.Cell c ∷ []))) ≡ true
cell_last n [] c e = ap (λ b. is_some (if b then Some (record { base = 0; len = c.len }) else shifted c.len None)) (eq-eqb n c.name e)
cell_last n (tree.Word w ∷ ds) c e = cell_last n ds c e
cell_last n (tree.Cell v ∷ ds) c e = by (nat_eq n v.name) (cell_last n ds c e) where
  by : (b : Bool) → is_some (cells_named n (map code_decl (ds ++ tree.Cell c ∷ []))) ≡ true → is_some (if b then Some (record { base = 0; len = v.len }) else shifted v.len (cells_named n (map code_decl (ds ++ tree.Cell c ∷ [])))) ≡ true
  by true more = refl
  by false more = shifted_there v.len (cells_named n (map code_decl (ds ++ tree.Cell c ∷ []))) ∙ more

-- what a name of another declaration stands for stays
declared_more : (ds : List DeclTree) (d : DeclTree) (n : ℕ) (k : Declared) → nat_eq n (decl_name d) ≡ false → IsDeclared ds n k → IsDeclared (ds ++ d ∷ []) n k
declared_more ds d n declared.Nothing other h =
    ap (is_in n) (map-append decl_name ds (d ∷ [])) ∙ list_any-append (nat_eq n) (map decl_name ds) (decl_name d ∷ []) ∙ ap (λ z. z || (nat_eq n (decl_name d) || false)) h ∙ or_false (nat_eq n (decl_name d)) ∙ other
declared_more ds d n (declared.Word c) other h = record { word = h.word; named = words_more n ds d h.word h.named; names = h.names; clauses = h.clauses; unguarded = h.unguarded }
declared_more ds d n declared.Cell other h = cells_more n ds d h

-- ---- a name that is declared

-- the standing of the new name, and those of others
pub record NewName (d : Declared) (s : ProgramScope) (n : ℕ) (next : ProgramScope) : Type 0 where
  pub there : n < length s.standings
  pub new : is_undeclared (standing_of s n).declared ≡ true
  pub are : next ≡ with_standing s n (record (standing_of s n) { declared = d })

declare_is : (d : Declared) (s : ProgramScope) (n : RawName) → IfOk (declare_name d s n) (NewName d s n.name)
declare_is d s n =
    if_ok (NewName d s n.name) (nat_lt n.name (length s.standings)) _ _ (λ there.
    if_ok (NewName d s n.name) (is_undeclared (standing_of s n.name).declared) (Ok (with_standing s n.name (record (standing_of s n.name) { declared = d }))) _ (λ new.
    record { there = ltb-true n.name (length s.standings) there; new = new; are = refl }))

undeclared_is : (ds : List DeclTree) (n : ℕ) (d : Declared) → is_undeclared d ≡ true → IsDeclared ds n d → is_in n (map decl_name ds) ≡ false
undeclared_is ds n declared.Nothing e h = h
undeclared_is ds n (declared.Word c) e h = cc
undeclared_is ds n declared.Cell e h = cc

-- the standings behind a new name
standing_here : (d : Declared) (s : ProgramScope) (n : ℕ) → n < length s.standings → (standing_of (with_standing s n (record (standing_of s n) { declared = d })) n).declared ≡ d
standing_here d s n there = ap (λ o. (or_no_standing o).declared) (get_set_here s.standings n (record (standing_of s n) { declared = d }) there)

standing_other : (d : Declared) (s : ProgramScope) (n k : ℕ) → nat_eq k n ≡ false → (standing_of (with_standing s n (record (standing_of s n) { declared = d })) k).declared ≡ (standing_of s k).declared
standing_other d s n k other = ap (λ o. (or_no_standing o).declared) (get_set_other s.standings n k (record (standing_of s n) { declared = d }) (λ e. absurd (true≢false (sym (eq-eqb k n e) ∙ other))))

standing_thread : (d : Declared) (s : ProgramScope) (n k : ℕ) → (standing_of (with_standing s n (record (standing_of s n) { declared = d })) k).thread ≡ (standing_of s k).thread
standing_thread d s n k = same_set (λ o. (or_no_standing o).thread) s.standings n (record (standing_of s n) { declared = d }) k refl

-- what is declared behind a new name
declared_behind : (ds : List DeclTree) (t : DeclTree) (d : Declared) (s : ProgramScope) (n : ℕ) → decl_name t ≡ n → n < length s.standings → ((k : ℕ) → IsDeclared ds k (standing_of s k).declared) → IsDeclared (ds ++ t ∷ []) n d
    → (k : ℕ) → IsDeclared (ds ++ t ∷ []) k (standing_of (with_standing s n (record (standing_of s n) { declared = d })) k).declared
declared_behind ds t d s n name there h here k = by (nat_eq k n) refl where
  by : (b : Bool) → nat_eq k n ≡ b → IsDeclared (ds ++ t ∷ []) k (standing_of (with_standing s n (record (standing_of s n) { declared = d })) k).declared
  by true e =
      let same : k ≡ n = eqb-true k n e in
      subst (λ j. IsDeclared (ds ++ t ∷ []) j (standing_of (with_standing s n (record (standing_of s n) { declared = d })) j).declared) (sym same)
      (subst (IsDeclared (ds ++ t ∷ []) n) (sym (standing_here d s n there)) here)
  by false e = subst (IsDeclared (ds ++ t ∷ []) k) (sym (standing_other d s n k e)) (declared_more ds t k (standing_of s k).declared (ap (nat_eq k) name ∙ e) (h k))

-- names that words have for values, behind a new name
words_behind : (d : Declared) (s : ProgramScope) (n : ℕ) → n < length s.standings → is_undeclared d ≡ false → ((m k : ℕ) → is_owned s.scope (owner.Word m) k ≡ true → is_undeclared (standing_of s m).declared ≡ false)
    → (m k : ℕ) → is_owned s.scope (owner.Word m) k ≡ true → is_undeclared (standing_of (with_standing s n (record (standing_of s n) { declared = d })) m).declared ≡ false
words_behind d s n there is h m k owned = by (nat_eq m n) refl where
  by : (b : Bool) → nat_eq m n ≡ b → is_undeclared (standing_of (with_standing s n (record (standing_of s n) { declared = d })) m).declared ≡ false
  by true e = ap (λ j. is_undeclared (standing_of (with_standing s n (record (standing_of s n) { declared = d })) j).declared) (eqb-true m n e) ∙ ap is_undeclared (standing_here d s n there) ∙ is
  by false e = ap is_undeclared (standing_other d s n m e) ∙ h m k owned

names_behind : (ds : List DeclTree) (t : DeclTree) (n : ℕ) → decl_name t ≡ n → n < name_limit → are_apart_names (map decl_name ds) ≡ true → is_in n (map decl_name ds) ≡ false → are_apart_names (map decl_name (ds ++ t ∷ [])) ≡ true
names_behind ds t n name few apart new =
    ap are_apart_names (map-append decl_name ds (t ∷ []) ∙ ap (λ k. map decl_name ds ++ k ∷ []) name) ∙ names_more (map decl_name ds) n apart few new

-- ---- cells

sizes_are : (left : ℕ) (len value : RawNumber) → IfOk (sizes left len value) (λ p. is_small p.1 ≡ true)
sizes_are left len value = after (λ p. is_small p.1 ≡ true) (take_from left len) _ (λ n. after_ok (λ p. is_small p.1 ≡ true) (λ v. is_small v ≡ true) (word_number value) _ (word_number_is value) (λ v small. small))

cell_goes : (x : MachineWithProgram) (ds : List DeclTree) (left : ℕ) (s : ProgramScope) (c : RawCell) → Declaring x ds s → IfOk (cell_declared left s c) (λ r. Declaring x (ds ++ tree.Cell r.0 ∷ []) r.2)
unfolding cell_declared
cell_goes x ds left s c h =
    after_ok _ _ (declare_name declared.Cell s c.name) _ (declare_is declared.Cell s c.name) (λ s2 name.
    after_ok _ _ (sizes left c.length c.value) _ (sizes_are left c.length c.value) (λ p small.
    let made : CellTree = record { name = c.name.name; len = c.length.number; init = p.1; line = c.line } in
    let new : is_in c.name.name (map decl_name ds) ≡ false = undeclared_is ds c.name.name (standing_of s c.name.name).declared name.new (h.declared c.name.name) in
    subst (Declaring x (ds ++ tree.Cell made ∷ [])) (sym name.are) (record {
      calls = h.calls;
      strategies = h.strategies;
      constants = h.constants;
      sorts = h.sorts;
      names = subst (λ k. k ≤ name_limit) (sym (length-set s.standings c.name.name _)) h.names;
      owners = h.owners;
      declared = declared_behind ds (tree.Cell made) declared.Cell s c.name.name refl name.there h.declared (cell_last c.name.name ds made refl);
      local = h.local;
      proof = h.proof;
      words = words_behind declared.Cell s c.name.name name.there refl h.words;
      threads = λ k. standing_thread declared.Cell s c.name.name k ∙ h.threads k;
      named = list_all-append (decl_is_named x) ds (tree.Cell made ∷ []) ∙ and_from (list_all (decl_is_named x) ds) _ h.named (and_from (is_small p.1) true small refl);
      apart = names_behind ds (tree.Cell made) c.name.name refl (omega (arith, name.there, h.names)) h.apart new;
    })))

-- ---- the names of a word

record InWord (x : MachineWithProgram) (name : ℕ) (base : List Standing) (ns : List ℕ) (s : ProgramScope) : Type 0 where
  calls : s.calls ≡ calls_of x.machine
  strategies : s.strategies ≡ map (λ (f : Field). f.strategy) x.machine.fields
  constants : s.constants ≡ constants_from 0 0 x.machine.fields
  sorts : (n f : ℕ) (t : Sort) → meaning_of s.scope n ≡ AField f t → t ≡ strategy_sort (strategy_at x.machine.fields f)
  owners : length s.scope.owners ≤ name_limit
  local : (n : ℕ) → local_number (slice_get s.scope.owners n) ≡ 0
  proof : (n : ℕ) → proof_number (slice_get s.scope.owners n) ≡ 0
  standings : s.standings ≡ base
  own : (k : ℕ) → is_owned s.scope (owner.Word name) k ≡ is_in k ns
  words : (m k : ℕ) → is_owned s.scope (owner.Word m) k ≡ true → nat_eq m name ≡ false → is_undeclared (or_no_standing (slice_get base m)).declared ≡ false
  nobody : s.scope.claim ≡ owner.Nobody
  mine : s.scope.owner ≡ owner.Word name
  sight : s.scope.sight ≡ word_sight s.constants
  apart : are_apart_names ns ≡ true

or_swap : (a b : Bool) → (a || b) ≡ (b || a)
or_swap true true = refl
or_swap true false = refl
or_swap false true = refl
or_swap false false = refl

word_name_goes : (x : MachineWithProgram) (name : ℕ) (base : List Standing) (ns : List ℕ) (s : ProgramScope) (n : RawName) → InWord x name base ns s → IfOk (word_name s n) (InWord x name base (ns ++ n.name ∷ []))
word_name_goes x name base ns s n h = free (is_local s.scope n.name) refl where
  proved : (o : Option Owners) → slice_get s.scope.owners n.name ≡ o → is_in n.name ns ≡ false → IfOk (prove_more o s n) (InWord x name base (ns ++ n.name ∷ []))
  proved None there new = tt
  proved (Some o) there new =
      let y = with_owner o s.scope.owner in
      let y_is : y ≡ record o { word = Some name } = ap (with_owner o) h.mine in
      let inside : n.name < length s.scope.owners = slice_get_within s.scope.owners n.name o there in record {
        calls = h.calls;
        strategies = h.strategies;
        constants = h.constants;
        sorts = h.sorts;
        owners = subst (λ k. k ≤ name_limit) (sym (length-set s.scope.owners n.name y)) h.owners;
        local = λ k. same_set local_number s.scope.owners n.name y k (ap (λ (z : Owners). z.local) y_is ∙ ap local_number (sym there)) ∙ h.local k;
        proof = λ k. same_set proof_number s.scope.owners n.name y k (ap (λ (z : Owners). z.proof) y_is ∙ ap proof_number (sym there)) ∙ h.proof k;
        standings = h.standings;
        own = λ k. new_set (λ z. or_unowned z (owner.Word name)) s.scope.owners n.name y k inside (ap (λ z. has_owner z (owner.Word name)) y_is ∙ eq-eqb name name refl)
            ∙ ap (λ z. nat_eq k n.name || z) (h.own k) ∙ or_swap (nat_eq k n.name) (is_in k ns) ∙ ap (λ z. is_in k ns || z) (sym (or_false (nat_eq k n.name))) ∙ sym (list_any-append (nat_eq k) ns (n.name ∷ []));
        words = λ m k owned other. h.words m k (was m k y_is other owned (nat_eq k n.name) refl) other;
        mine = h.mine;
        nobody = h.nobody;
        sight = h.sight;
        apart = names_more ns n.name h.apart (omega (arith, inside, h.owners)) new;
      } where
        was : (m k : ℕ) → with_owner o s.scope.owner ≡ record o { word = Some name } → nat_eq m name ≡ false → or_unowned (slice_get (slice_set s.scope.owners n.name (with_owner o s.scope.owner)) k) (owner.Word m) ≡ true → (b : Bool) → nat_eq k n.name ≡ b → is_owned s.scope (owner.Word m) k ≡ true
        was m k y_is other owned true e = absurd (true≢false (sym owned
            ∙ ap (λ j. or_unowned (slice_get (slice_set s.scope.owners n.name (with_owner o s.scope.owner)) j) (owner.Word m)) (eqb-true k n.name e)
            ∙ ap (λ z. or_unowned z (owner.Word m)) (get_set_here s.scope.owners n.name (with_owner o s.scope.owner) (slice_get_within s.scope.owners n.name o there))
            ∙ ap (λ z. has_owner z (owner.Word m)) y_is ∙ flipped m other)) where
              flipped : (m : ℕ) → nat_eq m name ≡ false → nat_eq name m ≡ false
              flipped m other = by (nat_eq name m) refl where
                by : (b : Bool) → nat_eq name m ≡ b → b ≡ false
                by true q = absurd (true≢false (sym (eq-eqb m name (sym (eqb-true name m q))) ∙ other))
                by false q = refl
        was m k y_is other owned false e = ap (λ z. or_unowned z (owner.Word m)) (sym (get_set_other s.scope.owners n.name k (with_owner o s.scope.owner) (λ q. absurd (true≢false (sym (eq-eqb k n.name q) ∙ e))))) ∙ owned

  free : (b : Bool) → is_local s.scope n.name ≡ b → IfOk (if b then refuse N2 n.line else prove_name s n) (InWord x name base (ns ++ n.name ∷ []))
  free true e = tt
  free false e = proved (slice_get s.scope.owners n.name) refl (sym (h.own n.name) ∙ ap (λ o. is_owned s.scope o n.name) (sym h.mine) ∙ e)

word_names_go : (x : MachineWithProgram) (name : ℕ) (base : List Standing) (raw : List RawName) (held : List ℕ) (s : ProgramScope) → InWord x name base held s → IfOk (word_names_from held s raw) (λ r. InWord x name base r.0 r.1 × (length r.0 ≡ length held + length raw))
unfolding word_names_from
word_names_go x name base [] held s h = (h, omega arith)
word_names_go x name base (n ∷ raw) held s h =
    after_ok _ _ (word_name s n) _ (word_name_goes x name base held s n h) (λ s2 one.
    weaker _ _ (word_names_from (held ++ n.name ∷ []) s2 raw) (word_names_go x name base raw (held ++ n.name ∷ []) s2 one) (λ r rest. (rest.0, omega (arith, rest.1, length-append held (n.name ∷ [])))))

-- ---- clauses

number_second : (a b : Bool) → b ≡ true → number_if (a || b) ≡ Some Numbers
number_second true b e = refl
number_second false b e = ap number_if e

number_front : (a b : Bool) → a ≡ true → number_if (a || b) ≡ Some Numbers
number_front true b e = refl
number_front false b e = cc

in_symbols : (n : ℕ) (ns : List ℕ) → is_in n ns ≡ true → is_in (name_symbol n) (symbols ns) ≡ true
in_symbols n [] e = e
in_symbols n (m ∷ ns) e = by (nat_eq n m) refl (in_symbols n ns) where
  by : (b : Bool) → nat_eq n m ≡ b → (is_in n ns ≡ true → is_in (name_symbol n) (symbols ns) ≡ true) → (nat_eq (name_symbol n) (name_symbol m) || is_in (name_symbol n) (symbols ns)) ≡ true
  by true q later = or_left (nat_eq (name_symbol n) (name_symbol m)) (is_in (name_symbol n) (symbols ns)) (eq-eqb (name_symbol n) (name_symbol m) (ap name_symbol (eqb-true n m q)))
  by false q later = or_right (nat_eq (name_symbol n) (name_symbol m)) (is_in (name_symbol n) (symbols ns)) (later (ap (λ b. b || is_in n ns) (sym q) ∙ e))

owned_inside : (xs : List Owners) (n : ℕ) (o : Owner) → or_unowned (slice_get xs n) o ≡ true → n < length xs
owned_inside xs n o e = by (slice_get xs n) refl where
  by : (z : Option Owners) → slice_get xs n ≡ z → n < length xs
  by None there = absurd (true≢false (sym e ∙ ap (λ z. or_unowned z o) there))
  by (Some z) there = slice_get_within xs n z there

word_agrees : (x : MachineWithProgram) (name : ℕ) (base : List Standing) (w : WordTree) (s : ProgramScope) → InWord x name base w.names s → Agrees s.scope (known_in_word x w)
word_agrees x name base w s h = record {
  nobody = ap knows_params h.nobody;
  words = words;
  held = λ n known. absurd (true≢false (sym known ∙ ap (λ g. g.held) h.sight));
  own = λ n mine. number_second (is_constant_field x (symbol_of n)) (is_in (symbol_of n) (value_symbol ∷ index_symbol ∷ symbols w.names)) (named n (ap (λ o. is_owned s.scope o n) (sym h.mine) ∙ mine));
  numbers = λ n i is. number_front (is_constant_field x i) (is_in i (value_symbol ∷ index_symbol ∷ symbols w.names)) (up n i sort.Number is);
  maps = λ n i is. absurd (true≢false (sym (ap is_number_sort (h.sorts n i sort.Map (seen_up s.scope.sight s.constants i (meaning_of s.scope n) sort.Map fields is).0 ∙ constant_is_number (strategy_at x.machine.fields i) (constant n i sort.Map is)))));
} where
  fields : s.scope.sight.fields ≡ Some s.constants
  fields = ap (λ g. g.fields) h.sight

  up : (n i : ℕ) (t : Sort) → seen_as s.scope n ≡ AField i t → is_constant_field x i ≡ true
  up n i t is = constant_up x i (ap (λ c. flag c i) (sym h.constants) ∙ (seen_up s.scope.sight s.constants i (meaning_of s.scope n) t (ap (λ g. g.fields) h.sight) is).1)

  constant : (n i : ℕ) (t : Sort) → seen_as s.scope n ≡ AField i t → is_constant (strategy_at x.machine.fields i) ≡ true
  constant n i t is = (and_parts (nat_lt i (length x.machine.fields)) (is_constant (strategy_at x.machine.fields i)) (constant_up x i (ap (λ c. flag c i) (sym h.constants) ∙ (seen_up s.scope.sight s.constants i (meaning_of s.scope n) t (ap (λ g. g.fields) h.sight) is).1))).1

  named : (n : ℕ) → is_owned s.scope (owner.Word name) n ≡ true → is_in (symbol_of n) (value_symbol ∷ index_symbol ∷ symbols w.names) ≡ true
  named n mine =
      let inside : n < length s.scope.owners = owned_inside s.scope.owners n (owner.Word name) mine in
      let same : number_in n ≡ n = omega (arith, inside, h.owners) in
      or_right (nat_eq (symbol_of n) value_symbol) _ (or_right (nat_eq (symbol_of n) index_symbol) _ (ap (λ k. is_in (name_symbol k) (symbols w.names)) same ∙ in_symbols n w.names (sym (h.own n) ∙ mine)))

  plain : (v : Special) → knows_special s.scope.sight v ≡ true → knows_special (word_sight s.constants) v ≡ true
  plain v known = ap (λ g. knows_special g v) (sym h.sight) ∙ known

  words : (v : Special) → knows_special s.scope.sight v ≡ true → known_in_word x w (special_number v) ≡ Some Numbers
  words special.Value known = number_second (is_constant_field x value_symbol) (is_in value_symbol (value_symbol ∷ index_symbol ∷ symbols w.names)) refl
  words special.Index known = number_second (is_constant_field x index_symbol) (is_in index_symbol (value_symbol ∷ index_symbol ∷ symbols w.names)) refl
  words special.Old known = absurd (true≢false (sym (ap (λ g. knows_special g special.Old) (sym h.sight) ∙ known)))
  words special.New known = absurd (true≢false (sym (ap (λ g. knows_special g special.New) (sym h.sight) ∙ known)))
  words special.Wrap known = absurd (true≢false (sym (ap (λ g. knows_special g special.Wrap) (sym h.sight) ∙ known)))

form_if_named : (s : Scope) (k : Known) → Agrees s k → (e : Option RawExpr) → IfOk (form_if e s) (λ f. if_there (is_formula k) f ≡ true)
form_if_named s k agrees None = refl
form_if_named s k agrees (Some e) = after_ok _ (λ f. is_formula k f ≡ true) (form_of e s) _ (form_named s k agrees e) (λ f is. is)

guard_same : (s : Scope) (e : Option RawExpr) → IfOk (form_if e s) (λ f. is_none f ≡ is_none e)
guard_same s None = refl
guard_same s (Some e) = after _ (form_of e s) _ (λ f. refl)

both_ok : {A E : Type 0} (P Q : A → Type 0) (r : Result A E) → IfOk r P → IfOk r Q → IfOk r (λ a. P a × Q a)
both_ok P Q (Ok a) p q = (p, q)
both_ok P Q (Err e) p q = tt

clause_goes : (x : MachineWithProgram) (name : ℕ) (base : List Standing) (w : WordTree) (s : ProgramScope) → InWord x name base w.names s → (c : RawClause) → IfOk (clause_in s c) (λ y. (clause_is_named x w y ≡ true) × (is_unguarded y ≡ is_unguarded_raw c))
unfolding clause_in
clause_goes x name base w s h c =
    let k = known_in_word x w in
    let agrees = word_agrees x name base w s h in
    after_ok _ (λ y. shape_is_named x k y ≡ true) (shape_in s c.shape) _ (shape_named x s k h.strategies agrees c.shape) (λ y shape.
    after_ok _ _ (form_if c.guard s.scope) _ (both_ok _ _ (form_if c.guard s.scope) (form_if_named s.scope k agrees c.guard) (guard_same s.scope c.guard)) (λ g guard.
    (and_from (shape_is_named x k y) (if_there (is_formula k) g) shape guard.0, guard.1)))

clauses_go : (x : MachineWithProgram) (name : ℕ) (base : List Standing) (w : WordTree) (s : ProgramScope) → InWord x name base w.names s → (raw : List RawClause) (held : List ClauseTree) → list_all (clause_is_named x w) held ≡ true
    → IfOk (clauses_from held s raw) (λ cs. (list_all (clause_is_named x w) cs ≡ true) × (map is_unguarded cs ≡ map is_unguarded held ++ map is_unguarded_raw raw))
unfolding clauses_from
clauses_go x name base w s h [] held named = (named, sym (append-nil (map is_unguarded held)))
clauses_go x name base w s h (c ∷ raw) held named =
    after_ok _ (λ y. (clause_is_named x w y ≡ true) × (is_unguarded y ≡ is_unguarded_raw c)) (clause_in s c) _ (clause_goes x name base w s h c) (λ y one.
    weaker _ _ (clauses_from (held ++ y ∷ []) s raw) (clauses_go x name base w s h raw (held ++ y ∷ []) (list_all-append (clause_is_named x w) held (y ∷ []) ∙ and_from (list_all (clause_is_named x w) held) _ named (and_from (clause_is_named x w y) true one.0 refl)))
    (λ cs rest. (rest.0, rest.1 ∙ ap (λ z. z ++ map is_unguarded_raw raw) (map-append is_unguarded held (y ∷ [])) ∙ append_assoc (map is_unguarded held) (is_unguarded y ∷ []) (map is_unguarded_raw raw) ∙ ap (λ b. map is_unguarded held ++ b ∷ map is_unguarded_raw raw) one.1)))

-- as many elements pass as there are yes answers
count_from : {A : Type 0} (p : A → Bool) (xs : List A) (a : ℕ) → fold (λ n x. n + (if p x then 1 else 0)) a xs ≡ fold (λ n b. n + (if b then 1 else 0)) a (map p xs)
count_from p [] a = refl
count_from p (x ∷ xs) a = count_from p xs (a + (if p x then 1 else 0))

count_answers : {A B : Type 0} (p : A → Bool) (q : B → Bool) (xs : List A) (ys : List B) → map p xs ≡ map q ys → count_by p xs ≡ count_by q ys
count_answers p q xs ys same = count_from p xs 0 ∙ ap (λ bs. fold (λ n b. n + (if b then 1 else 0)) 0 bs) same ∙ sym (count_from q ys 0)

-- ---- words

module _ (x : MachineWithProgram) (ds : List DeclTree) (s : ProgramScope) (w : RawWord) (h : Declaring x ds s) (there : w.name.name < length s.standings) (new : is_undeclared (standing_of s w.name.name).declared ≡ true) where
  abbrev name : ℕ
  name = w.name.name

  abbrev counts : Declared
  counts = declared.Word (word_counts w)

  abbrev behind : ProgramScope
  behind = with_standing s name (record (standing_of s name) { declared = counts })

  begins : InWord x name behind.standings [] (in_word name behind)
  begins = record {
    calls = h.calls;
    strategies = h.strategies;
    constants = h.constants;
    sorts = h.sorts;
    owners = h.owners;
    local = h.local;
    proof = h.proof;
    standings = refl;
    own = λ k. none_owned k (is_owned s.scope (owner.Word name) k) refl;
    words = λ m k owned other. ap is_undeclared (standing_other counts s name m other) ∙ h.words m k owned;
    nobody = refl;
    mine = refl;
    sight = refl;
    apart = refl;
  } where
    none_owned : (k : ℕ) (b : Bool) → is_owned s.scope (owner.Word name) k ≡ b → b ≡ false
    none_owned k true owned = absurd (true≢false (sym new ∙ h.words name k owned))
    none_owned k false owned = refl

  new_name : is_in name (map decl_name ds) ≡ false
  new_name = undeclared_is ds name (standing_of s name).declared new (h.declared name)

  -- behind the names, the clauses and the fact of the word
  ends : (v : WordTree) (next : ProgramScope) → v.name ≡ name → InWord x name behind.standings v.names next → decl_is_named x (tree.Word v) ≡ true → IsWord (ds ++ tree.Word v ∷ []) name (word_counts w) → Declaring x (ds ++ tree.Word v ∷ []) next
  ends v next is inside named word = record {
    calls = inside.calls;
    strategies = inside.strategies;
    constants = inside.constants;
    sorts = inside.sorts;
    names = subst (λ k. k ≤ name_limit) (sym (ap (λ (xs : List Standing). length xs) inside.standings ∙ length-set s.standings name _)) h.names;
    owners = inside.owners;
    declared = λ k. subst (IsDeclared (ds ++ tree.Word v ∷ []) k) (sym (ap (λ (xs : List Standing). (or_no_standing (slice_get xs k)).declared) inside.standings)) (declared_behind ds (tree.Word v) counts s name is there h.declared word k);
    local = inside.local;
    proof = inside.proof;
    words = λ m k owned. ap (λ (xs : List Standing). is_undeclared (or_no_standing (slice_get xs m)).declared) inside.standings ∙ known m (inside.words m k owned) (nat_eq m name) refl;
    threads = λ k. ap (λ (xs : List Standing). (or_no_standing (slice_get xs k)).thread) inside.standings ∙ standing_thread counts s name k ∙ h.threads k;
    named = list_all-append (decl_is_named x) ds (tree.Word v ∷ []) ∙ and_from (list_all (decl_is_named x) ds) _ h.named (and_from (decl_is_named x (tree.Word v)) true named refl);
    apart = names_behind ds (tree.Word v) name is (omega (arith, there, h.names)) h.apart new_name;
  } where
    known : (m : ℕ) → (nat_eq m name ≡ false → is_undeclared (standing_of behind m).declared ≡ false) → (b : Bool) → nat_eq m name ≡ b → is_undeclared (standing_of behind m).declared ≡ false
    known m other true e = ap (λ j. is_undeclared (standing_of behind j).declared) (eqb-true m name e) ∙ ap is_undeclared (standing_here counts s name there)
    known m other false e = other e

  body_goes : (value : ℕ) → is_small value ≡ true → IfOk (word_body behind w value) (λ r. Declaring x (ds ++ tree.Word r.0 ∷ []) r.1)
  unfolding word_body
  body_goes value small =
      after_ok _ _ (word_names_from [] (in_word name behind) (names_or_none w.with)) _ (word_names_go x name behind.standings (names_or_none w.with) [] (in_word name behind) begins) (λ ns one.
      let v0 : WordTree = record { name = name; len = w.length.number; init = value; names = ns.0; clauses = []; fact = None; line = w.line } in
      after_ok _ _ (clauses_from [] ns.1 w.clauses) _ (clauses_go x name behind.standings v0 ns.1 one.0 w.clauses [] refl) (λ cs two.
      after_ok _ _ (form_if w.fact ns.1.scope) _ (form_if_named ns.1.scope (known_in_word x v0) (word_agrees x name behind.standings v0 ns.1 one.0) w.fact) (λ f fact.
      let v : WordTree = record { name = name; len = w.length.number; init = value; names = ns.0; clauses = cs; fact = f; line = w.line } in
      ends v ns.1 refl one.0 (and_from (is_small value) _ small (and_from (are_apart_names ns.0) _ one.0.apart (and_from (list_all (clause_is_named x v) cs) _ two.0 fact)))
      (record {
        word = v;
        named = word_last name ds v new_name refl;
        names = omega (arith, one.1);
        clauses = sym (length-map cs is_unguarded) ∙ ap (λ (bs : List Bool). length bs) two.1 ∙ length-map w.clauses is_unguarded_raw;
        unguarded = count_answers is_unguarded is_unguarded_raw cs w.clauses two.1;
      }))))

word_goes : (x : MachineWithProgram) (ds : List DeclTree) (left : ℕ) (s : ProgramScope) (w : RawWord) → Declaring x ds s → IfOk (word_declared left s w) (λ r. Declaring x (ds ++ tree.Word r.0 ∷ []) r.2)
unfolding word_declared
word_goes x ds left s w h =
    after_ok _ _ (declare_name (declared.Word (word_counts w)) s w.name) _ (declare_is (declared.Word (word_counts w)) s w.name) (λ s2 name.
    after_ok _ _ (sizes left w.length w.value) _ (sizes_are left w.length w.value) (λ p small.
    after_ok _ (λ r. Declaring x (ds ++ tree.Word r.0 ∷ []) r.1) (word_body s2 w p.1) _ (subst (λ z. IfOk (word_body z w p.1) (λ r. Declaring x (ds ++ tree.Word r.0 ∷ []) r.1)) (sym name.are) (body_goes x ds s w h name.there name.new p.1 small)) (λ r go. go)))

-- ---- declarations

declaration_goes : (x : MachineWithProgram) (ds : List DeclTree) (room : Room) (s : ProgramScope) (d : RawDeclaration) → Declaring x ds s → IfOk (declaration_in room s d) (λ r. Declaring x (ds ++ r.0 ∷ []) r.2)
unfolding declaration_in
declaration_goes x ds room s (declaration.Word w) h = after_ok _ (λ r. Declaring x (ds ++ tree.Word r.0 ∷ []) r.2) (word_declared room.words s w) _ (word_goes x ds room.words s w h) (λ r go. go)
declaration_goes x ds room s (declaration.Cell c) h = after_ok _ (λ r. Declaring x (ds ++ tree.Cell r.0 ∷ []) r.2) (cell_declared room.cells s c) _ (cell_goes x ds room.cells s c h) (λ r go. go)

pub declarations_go : (x : MachineWithProgram) (raw : List RawDeclaration) (held : List DeclTree) (room : Room) (s : ProgramScope) → Declaring x held s → IfOk (declarations_from held room s raw) (λ r. Declaring x r.0 r.1)
unfolding declarations_from
declarations_go x [] held room s h = h
declarations_go x (d ∷ raw) held room s h =
    after_ok _ (λ r. Declaring x (held ++ r.0 ∷ []) r.2) (declaration_in room s d) _ (declaration_goes x held room s d h) (λ y one.
    declarations_go x raw (held ++ y.0 ∷ []) y.1 y.2 one)
