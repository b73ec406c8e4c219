-- Forms of tokens and keeps that are read keep the names.
use Rattle.std.proofs.Common.{◌≡◌, ℕ, zero, suc, ◌<◌, ◌&&◌, ◌||◌, Bool, true, false, List, [], ◌∷◌, ◌++◌, length, map, slice_get, slice_index_or, nat_lt, nat_eq, Option, Some, None, option_map, is_some, is_none, Ok, refl, sym, ap, subst, ◌∙◌, true≢false, append_assoc, append-nil, arith}
use Rattle.std.specs.List.{list_all}
use Rattle.std.specs.Result.{IfOk}
use Rattle.std.proofs.lemmas.Bool.{lt-ltb, eqb-true, and_from, and_parts}
use Rattle.std.proofs.lemmas.List.{map-append, length-map}
use Rattle.std.proofs.lemmas.List.Folds.{list_all-append}
use Rattle.std.proofs.lemmas.Option.{slice_get_within}
use Rattle.sync_base.specs.declared.strategies.Strategy.{Strategy}
use Rattle.sync_base.specs.declared.strategies.Strategy.TheVariants as strategy
use Rattle.sync_terms.specs.Trees.{Tree}
use Rattle.sync_machine.specs.declared.fields.Field.{Field}
use Rattle.sync_machine.specs.Machines.{Term}
use Rattle.sync_machine.specs.Scope.{Known}
use Rattle.sync_machine.specs.States.{strategy_at}
use Rattle.sync_machine.specs.Naming.{is_in}
use Rattle.sync_rules.specs.Shapes.{has_shape, has_value_alone, has_key_alone, has_both}
use Rattle.sync_parse.specs.declared.trees.RawPattern.{RawPattern}
use Rattle.sync_parse.specs.declared.trees.RawPattern.TheVariants as pattern
use Rattle.sync_parse.specs.declared.trees.RawPlace.{RawPlace}
use Rattle.sync_parse.specs.declared.trees.RawPlace.TheVariants as place
use Rattle.sync_parse_exprs.specs.declared.raw_names.RawName.{RawName}
use Rattle.sync_parse_programs.specs.declared.proof_statements.RawShape.{RawShape}
use Rattle.sync_parse_programs.specs.declared.proof_statements.RawKeepLine.{RawKeepLine}
use Rattle.sync_parse_programs.specs.declared.proof_statements.RawKeepFact.{RawKeepFact}
use Rattle.sync_parse_programs.specs.declared.proof_statements.RawKeep.{RawKeep}
use Rattle.sync_thread.specs.Programs.{KeepLineTree, KeepFactTree, KeepTree}
use Rattle.sync_thread.specs.Arrays.{name_limit}
use Rattle.sync_thread_machine.specs.MachineWithProgram.{MachineWithProgram, fields_of}
use Rattle.sync_typing.specs.Keeps.{own_tokens}
use Rattle.sync_typing.specs.Names.{are_apart_names, is_number, is_formula, if_there, has_token_shape, is_form, shape_is_named, keep_is_named, known_with}
use Rattle.sync_read_names.specs.declared.scopes.Sort.TheVariants as sort
use Rattle.sync_read_names.specs.declared.scopes.Meaning.{Meaning}
use Rattle.sync_read_names.specs.declared.scopes.Meaning.TheVariants as meaning
use Rattle.sync_read_names.specs.declared.scopes.Scope.{Scope}
use Rattle.sync_read_names.specs.Scopes.{meaning_of, is_assigned}
use Rattle.sync_read_names.specs.Exprs.{term_of, form_of}
use Rattle.sync_read.proofs.Chains.{after_ok, if_ok, weaker}
use Rattle.sync_read_programs.specs.declared.scopes.ProgramScope.{ProgramScope}
use Rattle.sync_read_programs.specs.Scopes.{standing_of, may_prove, prove_name, end_name, end_token, list_name, next_list}
use Rattle.sync_read_programs.specs.Keeps.{is_value, is_key, is_entry, has_place, token_field, field_of_token, shape_field, value_in, place_terms, shape_in, prove_or_end, listed_proof_name, proof_names_from, end_token_if, keep_line, keep_lines_from, keep_fact, keep_facts_from, keep_in}
use Rattle.sync_read_laws.proofs.TermsRead.{Agrees}
use Rattle.sync_read_laws.proofs.Places.{At, Stays, Keeps, keeps_here, keeps_then, goes_then, goes_as, Joined, at_stays, at_agrees, ends_at, none}
use Rattle.sync_read_laws.proofs.Moves.{only, Listed, listed_same, prove_goes, end_goes, may_prove_is, list_goes, end_token_goes, next_keeps, names_more}
use Rattle.sync_read_laws.proofs.Parts.{number_named, form_named}

-- ---- forms of tokens

abbrev has_key : RawPlace → Bool
has_key (place.Value p) = false
has_key (place.Key e) = true
has_key (place.Entry e p) = true

abbrev has_value : RawPlace → Bool
has_value (place.Value p) = true
has_value (place.Key e) = false
has_value (place.Entry e p) = true

-- the key and the value are those of the place
abbrev Like : RawPlace → Option Tree → Option Tree → Type 0
Like p key value = (is_some key ≡ has_key p) × (is_some value ≡ has_value p)

none_is : {A : Type 0} (o : Option A) → is_some o ≡ false → is_none o ≡ true
none_is None e = refl
none_is (Some a) e = cc

no_term : (o : Option Tree) → is_some o ≡ false → is_none (option_map Term o) ≡ true
no_term None e = refl
no_term (Some a) e = cc

a_term : (o : Option Tree) → is_some o ≡ true → is_some (option_map Term o) ≡ true
a_term None e = cc
a_term (Some a) e = refl

value_alone : (p : RawPlace) (key value : Option Tree) → is_value p ≡ true → Like p key value → has_value_alone (record { key = key; value = option_map Term value }) ≡ true
value_alone (place.Value p) key value e like = and_from (is_none key) (is_some (option_map Term value)) (none_is key like.0) (a_term value like.1)
value_alone (place.Key k) key value e like = cc
value_alone (place.Entry k p) key value e like = cc

key_alone : (p : RawPlace) (key value : Option Tree) → is_key p ≡ true → Like p key value → has_key_alone (record { key = key; value = option_map Term value }) ≡ true
key_alone (place.Value p) key value e like = cc
key_alone (place.Key k) key value e like = and_from (is_some key) (is_none (option_map Term value)) like.0 (no_term value like.1)
key_alone (place.Entry k p) key value e like = cc

both_there : (p : RawPlace) (key value : Option Tree) → is_entry p ≡ true → Like p key value → has_both (record { key = key; value = option_map Term value }) ≡ true
both_there (place.Value p) key value e like = cc
both_there (place.Key k) key value e like = cc
both_there (place.Entry k p) key value e like = and_from (is_some key) (is_some (option_map Term value)) like.0 (a_term value like.1)

abbrev fits_place : Option (RawPlace → Bool) → RawPlace → Bool
fits_place None p = false
fits_place (Some f) p = f p

shape_fits : (st : Strategy) (p : RawPlace) (key value : Option Tree) → fits_place (has_place st) p ≡ true → Like p key value → has_token_shape st (record { key = key; value = option_map Term value }) ≡ true
unfolding has_shape
shape_fits strategy.Variable p key value e like = value_alone p key value e like
shape_fits strategy.Option p key value e like = value_alone p key value e like
shape_fits strategy.Count p key value e like = value_alone p key value e like
shape_fits strategy.PersistentOption p key value e like = value_alone p key value e like
shape_fits strategy.PersistentCount p key value e like = value_alone p key value e like
shape_fits strategy.Set p key value e like = key_alone p key value e like
shape_fits strategy.Multiset p key value e like = key_alone p key value e like
shape_fits strategy.PersistentSet p key value e like = key_alone p key value e like
shape_fits strategy.Map p key value e like = both_there p key value e like
shape_fits strategy.PersistentMap p key value e like = both_there p key value e like
shape_fits strategy.StorageMap p key value e like = cc
shape_fits strategy.Constant p key value e like = cc
shape_fits strategy.NotTokenized p key value e like = cc

-- a field that has tokens of such a place, or the permission, which has key and value
abbrev FieldFits : MachineWithProgram → RawPlace → Option ℕ → Type 0
FieldFits x p None = is_entry p ≡ true
FieldFits x p (Some f) = (f < length (fields_of x)) × (fits_place (has_place (strategy_at (fields_of x) f)) p ≡ true)

entry_both : (p : RawPlace) (key value : Option Tree) → is_entry p ≡ true → Like p key value → (is_some key && is_some value) ≡ true
entry_both (place.Value p) key value e like = cc
entry_both (place.Key k) key value e like = cc
entry_both (place.Entry k p) key value e like = and_from (is_some key) (is_some value) like.0 like.1

form_fits : (x : MachineWithProgram) (p : RawPlace) (f : Option ℕ) (key value : Option Tree) → FieldFits x p f → Like p key value → is_form x (record { field = f; key = key; value = value }) ≡ true
form_fits x p None key value h like = entry_both p key value h like
form_fits x p (Some f) key value h like = and_from (nat_lt f (length (fields_of x))) _ (lt-ltb f (length (fields_of x)) h.0) (shape_fits (strategy_at (fields_of x) f) p key value h.1 like)

index_is : (xs : List Strategy) (f : ℕ) (st d : Strategy) → slice_get xs f ≡ Some st → slice_index_or xs f d ≡ st
index_is [] f st d e = cc
index_is (y ∷ ys) zero st d e = cc
index_is (y ∷ ys) (suc f) st d e = index_is ys f st d e

token_fits : (x : MachineWithProgram) (f : ℕ) (st : Strategy) (p : RawPlace) (named line : ℕ) → strategy_at (fields_of x) f ≡ st → f < length (fields_of x) → IfOk (token_field f (Some st) p named line) (FieldFits x p)
token_fits x f strategy.Variable p named line at within = if_ok (FieldFits x p) (is_value p) (Ok (Some f)) _ (λ e. (within, subst (λ z. fits_place (has_place z) p ≡ true) (sym at) e))
token_fits x f strategy.Option p named line at within = if_ok (FieldFits x p) (is_value p) (Ok (Some f)) _ (λ e. (within, subst (λ z. fits_place (has_place z) p ≡ true) (sym at) e))
token_fits x f strategy.Count p named line at within = if_ok (FieldFits x p) (is_value p) (Ok (Some f)) _ (λ e. (within, subst (λ z. fits_place (has_place z) p ≡ true) (sym at) e))
token_fits x f strategy.PersistentOption p named line at within = if_ok (FieldFits x p) (is_value p) (Ok (Some f)) _ (λ e. (within, subst (λ z. fits_place (has_place z) p ≡ true) (sym at) e))
token_fits x f strategy.PersistentCount p named line at within = if_ok (FieldFits x p) (is_value p) (Ok (Some f)) _ (λ e. (within, subst (λ z. fits_place (has_place z) p ≡ true) (sym at) e))
token_fits x f strategy.Set p named line at within = if_ok (FieldFits x p) (is_key p) (Ok (Some f)) _ (λ e. (within, subst (λ z. fits_place (has_place z) p ≡ true) (sym at) e))
token_fits x f strategy.Multiset p named line at within = if_ok (FieldFits x p) (is_key p) (Ok (Some f)) _ (λ e. (within, subst (λ z. fits_place (has_place z) p ≡ true) (sym at) e))
token_fits x f strategy.PersistentSet p named line at within = if_ok (FieldFits x p) (is_key p) (Ok (Some f)) _ (λ e. (within, subst (λ z. fits_place (has_place z) p ≡ true) (sym at) e))
token_fits x f strategy.Map p named line at within = if_ok (FieldFits x p) (is_entry p) (Ok (Some f)) _ (λ e. (within, subst (λ z. fits_place (has_place z) p ≡ true) (sym at) e))
token_fits x f strategy.PersistentMap p named line at within = if_ok (FieldFits x p) (is_entry p) (Ok (Some f)) _ (λ e. (within, subst (λ z. fits_place (has_place z) p ≡ true) (sym at) e))
token_fits x f strategy.StorageMap p named line at within = tt
token_fits x f strategy.Constant p named line at within = tt
token_fits x f strategy.NotTokenized p named line at within = tt

token_field_fits : (x : MachineWithProgram) (f : ℕ) (o : Option Strategy) (p : RawPlace) (named line : ℕ) → slice_get (map (λ (g : Field). g.strategy) (fields_of x)) f ≡ o → IfOk (token_field f o p named line) (FieldFits x p)
token_field_fits x f None p named line e = tt
token_field_fits x f (Some st) p named line e =
    token_fits x f st p named line (index_is (map (λ (g : Field). g.strategy) (fields_of x)) f st strategy.NotTokenized e)
    (subst (λ n. f < n) (length-map (fields_of x) (λ (g : Field). g.strategy)) (slice_get_within (map (λ (g : Field). g.strategy) (fields_of x)) f st e))

field_fits : (x : MachineWithProgram) (s : ProgramScope) (m : Meaning) (p : RawPlace) (named line : ℕ) → s.strategies ≡ map (λ (g : Field). g.strategy) (fields_of x) → IfOk (field_of_token s m p named line) (FieldFits x p)
field_fits x s (meaning.Field f t) p named line same = token_field_fits x f (slice_get s.strategies f) p named line (ap (λ xs. slice_get xs f) (sym same))
field_fits x s meaning.Nothing p named line same = tt
field_fits x s (meaning.Operation n) p named line same = tt
field_fits x s (meaning.Invariant n) p named line same = tt

shape_field_fits : (x : MachineWithProgram) (s : ProgramScope) (o : Option RawName) (p : RawPlace) (line : ℕ) → s.strategies ≡ map (λ (g : Field). g.strategy) (fields_of x) → IfOk (shape_field s o p line) (FieldFits x p)
shape_field_fits x s (Some n) p line same = field_fits x s (meaning_of s.scope n.name) p n.line line same
shape_field_fits x s None p line same = if_ok (FieldFits x p) (is_entry p) (Ok None) _ (λ e. e)

value_named : (s : ProgramScope) (k : Known) → Agrees s.scope k → (p : RawPattern) (line : ℕ) → IfOk (value_in s p line) (λ t. is_number k t ≡ true)
value_named s k agrees (pattern.Term e) line = number_named s.scope k agrees e
value_named s k agrees (pattern.Bind n) line = tt

abbrev PlaceNamed : Known → RawPlace → Option Tree × Option Tree → Type 0
PlaceNamed k p r = Like p r.0 r.1 × (if_there (is_number k) r.0 ≡ true) × (if_there (is_number k) r.1 ≡ true)

place_named : (s : ProgramScope) (k : Known) → Agrees s.scope k → (p : RawPlace) (line : ℕ) → IfOk (place_terms s p line) (PlaceNamed k p)
place_named s k agrees (place.Value p) line =
    after_ok (PlaceNamed k (place.Value p)) (λ t. is_number k t ≡ true) (value_in s p line) _ (value_named s k agrees p line) (λ v is. ((refl, refl), refl, is))
place_named s k agrees (place.Key e) line =
    after_ok (PlaceNamed k (place.Key e)) (λ t. is_number k t ≡ true) (term_of sort.Number e s.scope) _ (number_named s.scope k agrees e) (λ v is. ((refl, refl), is, refl))
place_named s k agrees (place.Entry e p) line =
    after_ok (PlaceNamed k (place.Entry e p)) (λ t. is_number k t ≡ true) (term_of sort.Number e s.scope) _ (number_named s.scope k agrees e) (λ i one.
    after_ok (PlaceNamed k (place.Entry e p)) (λ t. is_number k t ≡ true) (value_in s p line) _ (value_named s k agrees p line) (λ v two. ((refl, refl), one, two)))

pub shape_named : (x : MachineWithProgram) (s : ProgramScope) (k : Known) → s.strategies ≡ map (λ (g : Field). g.strategy) (fields_of x) → Agrees s.scope k → (r : RawShape) → IfOk (shape_in s r) (λ y. shape_is_named x k y ≡ true)
unfolding shape_in
shape_named x s k same agrees r =
    after_ok (λ y. shape_is_named x k y ≡ true) (FieldFits x r.place) (shape_field s r.field r.place r.line) _ (shape_field_fits x s r.field r.place r.line same) (λ f fits.
    after_ok (λ y. shape_is_named x k y ≡ true) (PlaceNamed k r.place) (place_terms s r.place r.line) _ (place_named s k agrees r.place r.line) (λ t named.
    and_from (is_form x (record { field = f; key = t.0; value = t.1 })) _ (form_fits x r.place f t.0 t.1 fits named.0)
    (and_from (if_there (is_number k) t.0) (if_there (is_number k) t.1) named.1 named.2)))

pub shape_at : (x : MachineWithProgram) (b : Bool) (ws : List ℕ) (s : ProgramScope) → At x b ws s → (r : RawShape) → IfOk (shape_in s r) (λ y. shape_is_named x (known_with x ws) y ≡ true)
shape_at x b ws s h r = shape_named x s (known_with x ws) h.strategies (at_agrees x b ws s h) r

-- ---- two sets of names, one after the other

pub swap : (a b z : Bool) → (b || (a || z)) ≡ ((a || b) || z)
swap true true z = refl
swap true false z = refl
swap false true z = refl
swap false false z = refl

pub swap_if : (a b e z : Bool) → ((b && e) || ((a && e) || z)) ≡ (((a || b) && e) || z)
swap_if true true true z = refl
swap_if true true false z = refl
swap_if true false true z = refl
swap_if true false false z = refl
swap_if false true true z = refl
swap_if false true false z = refl
swap_if false false true z = refl
swap_if false false false z = refl

second_none : (a b : Bool) → (a || b) ≡ false → b ≡ false
second_none true b e = cc
second_none false b e = e

pub stays_then : (s a c : ProgramScope) (p l e t q m f u ps ls es ts : ℕ → Bool) → Joined p q ps → Joined l m ls → Joined e f es → Joined t u ts
    → Stays s a p l e t → Stays a c q m f u → Stays s c ps ls es ts
stays_then s a c p l e t q m f u ps ls es ts jp jl je jt one two = record { goes = goes_then s a c p l e t q m f u ps ls es ts jp jl je jt one.goes two.goes; sight = two.sight ∙ one.sight }

pub stays_as : (s a : ProgramScope) (p l e t ps ls es ts : ℕ → Bool) → ((n : ℕ) → p n ≡ ps n) → ((n : ℕ) → l n ≡ ls n) → ((n : ℕ) → e n ≡ es n) → ((n : ℕ) → t n ≡ ts n)
    → Stays s a p l e t → Stays s a ps ls es ts
stays_as s a p l e t ps ls es ts jp jl je jt one = record { goes = goes_as s a p l e t ps ls es ts jp jl je jt one.goes; sight = one.sight }

and_true : (a : Bool) → (a && true) ≡ a
and_true true = refl
and_true false = refl

and_false : (a : Bool) → (a && false) ≡ false
and_false true = refl
and_false false = refl

-- a name that is ended now or later was not ended before
fresh_is : (s s2 : ProgramScope) (e : Bool) (n : ℕ) (added : List ℕ) (k : ℕ) → Stays s s2 (only n) none (λ k. only n k && e) none → (e ≡ true → ends_at s n ≡ false)
    → ((is_in k added && e) ≡ true → ends_at s2 k ≡ false) → (is_in k (n ∷ added) && e) ≡ true → ends_at s k ≡ false
fresh_is s s2 e n added k stays here later t = by (nat_eq k n) refl where
  by : (c : Bool) → nat_eq k n ≡ c → ends_at s k ≡ false
  by true q = ap (ends_at s) (eqb-true k n q) ∙ here (and_parts (is_in k (n ∷ added)) e t).1
  by false q = second_none (only n k && e) (ends_at s k) (sym (stays.goes.ends k) ∙ later (ap (λ c. (c || is_in k added) && e) (sym q) ∙ t))

-- ---- proof names of one list

abbrev pub raw_name : RawName → ℕ
raw_name n = n.name

-- behind more names of a list
pub record NamesGo (e : Bool) (held : List ℕ) (s : ProgramScope) (ns : List ℕ) (next : ProgramScope) (raw : List RawName) : Type 0 where
  pub added : List ℕ
  pub are : ns ≡ held ++ added
  pub apart : are_apart_names ns ≡ true
  pub said : added ≡ map raw_name raw
  pub stays : Stays s next (λ k. is_in k added) none (λ k. is_in k added && e) none
  pub fresh : (k : ℕ) → (is_in k added && e) ≡ true → ends_at s k ≡ false

-- behind one name of a list
record NameGo (e : Bool) (held : List ℕ) (s : ProgramScope) (n : ℕ) (next : ProgramScope) : Type 0 where
  few : n < name_limit
  new : is_in n held ≡ false
  listed : Listed (held ++ n ∷ []) next
  stays : Stays s next (only n) none (λ k. only n k && e) none
  fresh : e ≡ true → ends_at s n ≡ false

name_goes : (x : MachineWithProgram) (b : Bool) (ws : List ℕ) (e : Bool) (held : List ℕ) (s : ProgramScope) (n : RawName) → At x b ws s → Listed held s → IfOk (listed_proof_name e s n) (NameGo e held s n.name)
unfolding listed_proof_name
name_goes x b ws e held s n h listed =
    after_ok (NameGo e held s n.name) _ (list_name s n) _ (list_goes s n held listed) (λ s2 one.
    after_ok (NameGo e held s n.name) _ (may_prove s2 n) _ (may_prove_is s2 n) (λ k may.
    by e s2 one.0 one.1 one.2 one.3 may.1 (at_stays x b ws s s2 none none none none h one.2))) where
      by : (e : Bool) (s2 : ProgramScope) → n.name < length s.standings → is_in n.name held ≡ false → Keeps s s2 → Listed (held ++ n.name ∷ []) s2 → is_assigned s2.scope n.name ≡ false → At x b ws s2
          → IfOk (prove_or_end e s2 n) (NameGo e held s n.name)
      by true s2 there new keeps now free h2 = weaker _ _ (end_name s2 n) (end_goes s2 n h2.mine free) (λ next q. record {
        few = omega (arith, there, h.names);
        new = new;
        listed = listed_same (held ++ n.name ∷ []) s2 next q.3 q.4 now;
        stays = keeps_then s s2 next (only n.name) none (λ k. only n.name k && true) none keeps (stays_as s2 next (only n.name) none (only n.name) none (only n.name) none (λ k. only n.name k && true) none (λ k. refl) (λ k. refl) (λ k. sym (and_true (only n.name k))) (λ k. refl) q.2);
        fresh = λ t. sym (keeps.goes.ends n.name) ∙ q.1;
      })
      by false s2 there new keeps now free h2 = weaker _ _ (prove_name s2 n) (prove_goes s2 n h2.mine free) (λ next q. record {
        few = omega (arith, there, h.names);
        new = new;
        listed = listed_same (held ++ n.name ∷ []) s2 next q.2 q.3 now;
        stays = keeps_then s s2 next (only n.name) none (λ k. only n.name k && false) none keeps (stays_as s2 next (only n.name) none none none (only n.name) none (λ k. only n.name k && false) none (λ k. refl) (λ k. refl) (λ k. sym (and_false (only n.name k))) (λ k. refl) q.1);
        fresh = λ t. absurd (true≢false (sym t));
      })

pub names_go : (x : MachineWithProgram) (b : Bool) (ws : List ℕ) (e : Bool) (raw : List RawName) (held : List ℕ) (s : ProgramScope) → At x b ws s → Listed held s → are_apart_names held ≡ true
    → IfOk (proof_names_from e held s raw) (λ r. NamesGo e held s r.0 r.1 raw)
unfolding proof_names_from
names_go x b ws e [] held s h listed apart = record { added = []; are = sym (append-nil held); apart = apart; said = refl; stays = keeps_here s; fresh = λ k t. absurd (true≢false (sym t)) }
names_go x b ws e (n ∷ raw) held s h listed apart =
    after_ok _ (NameGo e held s n.name) (listed_proof_name e s n) _ (name_goes x b ws e held s n h listed) (λ s2 one.
    weaker _ _ (proof_names_from e (held ++ n.name ∷ []) s2 raw)
    (names_go x b ws e raw (held ++ n.name ∷ []) s2 (at_stays x b ws s s2 (only n.name) none (λ k. only n.name k && e) none h one.stays) one.listed (names_more held n.name apart one.few one.new))
    (λ r rest. record {
      added = n.name ∷ rest.added;
      are = rest.are ∙ append_assoc held (n.name ∷ []) rest.added;
      apart = rest.apart;
      said = ap (λ xs. n.name ∷ xs) rest.said;
      stays = stays_then s s2 r.1 (only n.name) none (λ k. only n.name k && e) none (λ k. is_in k rest.added) none (λ k. is_in k rest.added && e) none
          (λ k. is_in k (n.name ∷ rest.added)) none (λ k. is_in k (n.name ∷ rest.added) && e) none
          (λ k z. swap (only n.name k) (is_in k rest.added) z) (λ k z. refl) (λ k z. swap_if (only n.name k) (is_in k rest.added) e z) (λ k z. refl) one.stays rest.stays;
      fresh = λ k t. fresh_is s s2 e n.name rest.added k one.stays one.fresh (rest.fresh k) t;
    }))

-- ---- token lines of one keep

abbrev line_name : KeepLineTree → ℕ
line_name l = l.name

record LinesGo (x : MachineWithProgram) (ws : List ℕ) (e : Bool) (held : List KeepLineTree) (s : ProgramScope) (ls : List KeepLineTree) (next : ProgramScope) : Type 0 where
  added : List KeepLineTree
  are : ls ≡ held ++ added
  apart : are_apart_names (map line_name ls) ≡ true
  shapes : list_all (λ (l : KeepLineTree). shape_is_named x (known_with x ws) l.shape) ls ≡ true
  stays : Stays s next none none none (λ k. is_in k (map line_name added) && e)
  fresh : (k : ℕ) → (is_in k (map line_name added) && e) ≡ true → (standing_of s k).ends_token ≡ false

record LineGo (x : MachineWithProgram) (ws : List ℕ) (e : Bool) (held : List ℕ) (s : ProgramScope) (l : KeepLineTree) (next : ProgramScope) : Type 0 where
  few : l.name < name_limit
  new : is_in l.name held ≡ false
  listed : Listed (held ++ l.name ∷ []) next
  shape : shape_is_named x (known_with x ws) l.shape ≡ true
  stays : Stays s next none none none (λ k. only l.name k && e)
  fresh : e ≡ true → (standing_of s l.name).ends_token ≡ false

-- behind a token name that is listed, also of a keep that a thread ends with
record TokenGo (e : Bool) (ns : List ℕ) (s : ProgramScope) (n : ℕ) (next : ProgramScope) : Type 0 where
  listed : Listed ns next
  stays : Stays s next none none none (λ k. only n k && e)
  fresh : e ≡ true → (standing_of s n).ends_token ≡ false

token_goes : (e : Bool) (ns : List ℕ) (s : ProgramScope) (n : RawName) → n.name < length s.standings → Listed ns s → IfOk (end_token_if e s n) (TokenGo e ns s n.name)
token_goes true ns s n there listed = weaker _ _ (end_token s n) (end_token_goes s n ns there listed) (λ next q. record {
  listed = q.2;
  stays = stays_as s next none none none (only n.name) none none none (λ k. only n.name k && true) (λ k. refl) (λ k. refl) (λ k. refl) (λ k. sym (and_true (only n.name k))) q.1;
  fresh = λ t. q.0;
})
token_goes false ns s n there listed = record {
  listed = listed;
  stays = stays_as s s none none none none none none none (λ k. only n.name k && false) (λ k. refl) (λ k. refl) (λ k. refl) (λ k. sym (and_false (only n.name k))) (keeps_here s);
  fresh = λ t. absurd (true≢false (sym t));
}

line_goes : (x : MachineWithProgram) (b : Bool) (ws : List ℕ) (e : Bool) (held : List ℕ) (s : ProgramScope) (l : RawKeepLine) → At x b ws s → Listed held s → IfOk (keep_line e s l) (λ r. LineGo x ws e held s r.0 r.1)
unfolding keep_line
line_goes x b ws e held s l h listed =
    after_ok (λ r. LineGo x ws e held s r.0 r.1) _ (list_name s l.name) _ (list_goes s l.name held listed) (λ s2 one.
    after_ok (λ r. LineGo x ws e held s r.0 r.1) (TokenGo e (held ++ l.name.name ∷ []) s2 l.name.name) (end_token_if e s2 l.name) _ (token_goes e (held ++ l.name.name ∷ []) s2 l.name (subst (λ n. l.name.name < n) (sym one.2.goes.names) one.0) one.3) (λ s3 two.
    after_ok (λ r. LineGo x ws e held s r.0 r.1) _ (shape_in s3 l.shape) _
    (shape_at x b ws s3 (at_stays x b ws s2 s3 none none none (λ k. only l.name.name k && e) (at_stays x b ws s s2 none none none none h one.2) two.stays) l.shape) (λ y shape. record {
      few = omega (arith, one.0, h.names);
      new = one.1;
      listed = two.listed;
      shape = shape;
      stays = keeps_then s s2 s3 none none none (λ k. only l.name.name k && e) one.2 two.stays;
      fresh = λ t. sym (one.2.goes.tokens l.name.name) ∙ two.fresh t;
    })))

-- a token that is ended now or later was not ended before
fresh_token : (s s2 : ProgramScope) (e : Bool) (n : ℕ) (added : List ℕ) (k : ℕ) → Stays s s2 none none none (λ k. only n k && e) → (e ≡ true → (standing_of s n).ends_token ≡ false)
    → ((is_in k added && e) ≡ true → (standing_of s2 k).ends_token ≡ false) → (is_in k (n ∷ added) && e) ≡ true → (standing_of s k).ends_token ≡ false
fresh_token s s2 e n added k stays here later t = by (nat_eq k n) refl where
  by : (c : Bool) → nat_eq k n ≡ c → (standing_of s k).ends_token ≡ false
  by true q = ap (λ j. (standing_of s j).ends_token) (eqb-true k n q) ∙ here (and_parts (is_in k (n ∷ added)) e t).1
  by false q = second_none (only n k && e) (standing_of s k).ends_token (sym (stays.goes.tokens k) ∙ later (ap (λ c. (c || is_in k added) && e) (sym q) ∙ t))

lines_go : (x : MachineWithProgram) (b : Bool) (ws : List ℕ) (e : Bool) (raw : List RawKeepLine) (held : List KeepLineTree) (s : ProgramScope) → At x b ws s → Listed (map line_name held) s
    → are_apart_names (map line_name held) ≡ true → list_all (λ (l : KeepLineTree). shape_is_named x (known_with x ws) l.shape) held ≡ true
    → IfOk (keep_lines_from e held s raw) (λ r. LinesGo x ws e held s r.0 r.1)
unfolding keep_lines_from
lines_go x b ws e [] held s h listed apart shapes = record { added = []; are = sym (append-nil held); apart = apart; shapes = shapes; stays = keeps_here s; fresh = λ k t. absurd (true≢false (sym t)) }
lines_go x b ws e (l ∷ raw) held s h listed apart shapes =
    after_ok _ (λ r. LineGo x ws e (map line_name held) s r.0 r.1) (keep_line e s l) _ (line_goes x b ws e (map line_name held) s l h listed) (λ y one.
    weaker _ _ (keep_lines_from e (held ++ y.0 ∷ []) y.1 raw)
    (lines_go x b ws e raw (held ++ y.0 ∷ []) y.1 (at_stays x b ws s y.1 none none none (λ k. only y.0.name k && e) h one.stays)
    (subst (λ ns. Listed ns y.1) (sym (map-append line_name held (y.0 ∷ []))) one.listed)
    (ap are_apart_names (map-append line_name held (y.0 ∷ [])) ∙ names_more (map line_name held) y.0.name apart one.few one.new)
    (list_all-append (λ (l : KeepLineTree). shape_is_named x (known_with x ws) l.shape) held (y.0 ∷ []) ∙ and_from _ _ shapes (and_from (shape_is_named x (known_with x ws) y.0.shape) true one.shape refl)))
    (λ r rest. record {
      added = y.0 ∷ rest.added;
      are = rest.are ∙ append_assoc held (y.0 ∷ []) rest.added;
      apart = rest.apart;
      shapes = rest.shapes;
      stays = stays_then s y.1 r.1 none none none (λ k. only y.0.name k && e) none none none (λ k. is_in k (map line_name rest.added) && e)
          none none none (λ k. is_in k (map line_name (y.0 ∷ rest.added)) && e)
          (λ k z. refl) (λ k z. refl) (λ k z. refl) (λ k z. swap_if (only y.0.name k) (is_in k (map line_name rest.added)) e z) one.stays rest.stays;
      fresh = λ k t. fresh_token s y.1 e y.0.name (map line_name rest.added) k one.stays one.fresh (rest.fresh k) t;
    }))

-- ---- keeps

fact_named : (s : Scope) (k : Known) → Agrees s k → (r : RawKeepFact) → IfOk (keep_fact s r) (λ (f : KeepFactTree). is_formula k f.form ≡ true)
unfolding keep_fact
fact_named s k agrees r = after_ok _ (λ f. is_formula k f ≡ true) (form_of r.form s) _ (form_named s k agrees r.form) (λ f is. is)

facts_named : (s : Scope) (k : Known) → Agrees s k → (raw : List RawKeepFact) (held : List KeepFactTree) → list_all (λ (f : KeepFactTree). is_formula k f.form) held ≡ true
    → IfOk (keep_facts_from held s raw) (λ fs. list_all (λ (f : KeepFactTree). is_formula k f.form) fs ≡ true)
unfolding keep_facts_from
facts_named s k agrees [] held h = h
facts_named s k agrees (r ∷ raw) held h =
    after_ok _ (λ (f : KeepFactTree). is_formula k f.form ≡ true) (keep_fact s r) _ (fact_named s k agrees r) (λ y is.
    facts_named s k agrees raw (held ++ y ∷ []) (list_all-append (λ (f : KeepFactTree). is_formula k f.form) held (y ∷ []) ∙ and_from _ _ h (and_from (is_formula k y.form) true is refl)))

pub record KeepGo (x : MachineWithProgram) (ws : List ℕ) (e : Bool) (s : ProgramScope) (raw : RawKeep) (k : KeepTree) (next : ProgramScope) : Type 0 where
  pub named : keep_is_named x (known_with x ws) k ≡ true
  pub said : k.names ≡ map raw_name raw.names
  pub many : length k.names ≡ length raw.names
  pub stays : Stays s next (λ n. is_in n k.names) none (λ n. is_in n k.names && e) (λ n. is_in n (own_tokens k) && e)
  pub fresh : (n : ℕ) → (is_in n k.names && e) ≡ true → ends_at s n ≡ false
  pub fresh_tokens : (n : ℕ) → (is_in n (own_tokens k) && e) ≡ true → (standing_of s n).ends_token ≡ false

pub keep_goes : (x : MachineWithProgram) (b : Bool) (ws : List ℕ) (e : Bool) (s : ProgramScope) (k : RawKeep) → At x b ws s → IfOk (keep_in e s k) (λ r. KeepGo x ws e s k r.0 r.1)
unfolding keep_in
keep_goes x b ws e s k h =
    let P : KeepTree × ProgramScope → Type 0 = λ r. KeepGo x ws e s k r.0 r.1 in
    let s1 = next_list s in
    let h1 : At x b ws s1 = at_stays x b ws s s1 none none none none h (next_keeps s) in
    after_ok P (λ r. NamesGo e [] s1 r.0 r.1 k.names) (proof_names_from e [] s1 k.names) _ (names_go x b ws e k.names [] s1 h1 (λ n no. absurd (true≢false (sym no))) refl) (λ ns one.
    let s2 = next_list ns.1 in
    let h2 : At x b ws ns.1 = at_stays x b ws s1 ns.1 (λ n. is_in n one.added) none (λ n. is_in n one.added && e) none h1 one.stays in
    let h3 : At x b ws s2 = at_stays x b ws ns.1 s2 none none none none h2 (next_keeps ns.1) in
    after_ok P (λ r. LinesGo x ws e [] s2 r.0 r.1) (keep_lines_from e [] s2 k.lines) _ (lines_go x b ws e k.lines [] s2 h3 (λ n no. absurd (true≢false (sym no))) refl refl) (λ ls two.
    let h4 : At x b ws ls.1 = at_stays x b ws s2 ls.1 none none none (λ n. is_in n (map line_name two.added) && e) h3 two.stays in
    after_ok P (λ fs. list_all (λ (f : KeepFactTree). is_formula (known_with x ws) f.form) fs ≡ true) (keep_facts_from [] ls.1.scope k.facts) _ (facts_named ls.1.scope (known_with x ws) (at_agrees x b ws ls.1 h4) k.facts [] refl) (λ fs three.
    record {
      named = and_from (are_apart_names ns.0) _ one.apart (and_from (are_apart_names (map line_name ls.0)) _ two.apart (and_from _ _ two.shapes three));
      said = one.are ∙ one.said;
      many = ap length (one.are ∙ one.said) ∙ length-map k.names raw_name;
      stays = stays_then s ns.1 ls.1 (λ n. is_in n one.added) none (λ n. is_in n one.added && e) none none none none (λ n. is_in n (map line_name two.added) && e)
          (λ n. is_in n ns.0) none (λ n. is_in n ns.0 && e) (λ n. is_in n (map line_name ls.0) && e)
          (λ n z. ap (λ xs. is_in n xs || z) (sym one.are)) (λ n z. refl) (λ n z. ap (λ xs. (is_in n xs && e) || z) (sym one.are)) (λ n z. ap (λ xs. (is_in n (map line_name xs) && e) || z) (sym two.are))
          (keeps_then s s1 ns.1 (λ n. is_in n one.added) none (λ n. is_in n one.added && e) none (next_keeps s) one.stays)
          (keeps_then ns.1 s2 ls.1 none none none (λ n. is_in n (map line_name two.added) && e) (next_keeps ns.1) two.stays);
      fresh = λ n t. one.fresh n (ap (λ xs. is_in n xs && e) (sym one.are) ∙ t);
      fresh_tokens = λ n t. sym (one.stays.goes.tokens n) ∙ two.fresh n (ap (λ xs. is_in n (map line_name xs) && e) (sym two.are) ∙ t);
    })))
