-- The exchange of an operation over terms: `do`, `peek` and the start.
use Rattle.std.specs.Prelude.{ℕ, suc, Bool, true, false, nat_eq, List, [], ◌∷◌, ◌++◌, length, map, filter_map, drop, slice_index_or, Option, Some, None, is_some, unwrap_or, Ok, if◌then◌else◌, option_map}
use Rattle.std.specs.List.{range_with_len}
use Rattle.sync_base.specs.Outcome.{◌>>=◌}
use Rattle.sync_base.specs.declared.stops.Rule.TheVariants.{T4, T7}
use Rattle.sync_terms.specs.Trees.{Tree, Name, Formula, Eq, And, replaced, replaced_in}
use Rattle.sync_machine.specs.declared.fields.Field.{Field}
use Rattle.sync_machine.specs.Machines.{PatternTree, Bind, Term, ActTree, StepTree, OperationTree}
use Rattle.sync_machine.specs.Machines as acts
use Rattle.sync_machine.specs.Statements.{or_zero, or_one}
use Rattle.sync_machine.specs.States.{strategy_at}
use Rattle.sync_rules.specs.Locality.{form_names_only, is_variable}
use Rattle.sync_rules.specs.declared.slots.Role.{Role}
use Rattle.sync_rules.specs.declared.slots.Role.TheVariants.{Change, Taken, Read, Given, In, Out, Seen}
use Rattle.sync_rules.specs.Slots.{SlotTree, field_slot, statement_slot}
use Rattle.sync_join.specs.Shards.{perm}
use Rattle.sync_thread.specs.Programs.{DoTree, IndexTree}
use Rattle.sync_thread.specs.Arrays.{Span, token_numbers}
use Rattle.sync_thread_machine.specs.MachineWithProgram.{MachineWithProgram, fields_of, decls_of}
use Rattle.sync_typing.specs.Symbols.{Names, named_by, paired}
use Rattle.sync_typing.specs.Environments.{Env, TokenTree, Tokens, Outcome, on_some, read, token, take_in, assign, tell}
use Rattle.sync_typing.specs.Dues.{Due, Wants, Makes, Owes, row, at_hand_due, asked_dues, new_names_due, agrees}
use Rattle.sync_typing.specs.Locals.{index_dues, index_spare, cell_term}

-- ---- the parts of an operation, in the order of an exchange

pub data Part : Type 0 where
  Slot : (slot : SlotTree) → Part
  Requires : (form : Formula) → Part

abbrev pub slot_part : Option SlotTree → Option Part
slot_part None = None
slot_part (Some x) = Some (Slot x)

-- a require where it stands, or a statement's slot
abbrev pub step_part : List Field → StepTree → Option Part
step_part fs s = of s.act where
  of : ActTree → Option Part
  of (acts.Require form) = Some (Requires form)
  of act = slot_part (statement_slot fs s)

-- first the variables, then the statements
abbrev pub parts_of : List Field → OperationTree → List Part
parts_of fs o =
    filter_map (λ f. slot_part (field_slot fs o.steps f)) (range_with_len 0 (length fs))
    ++ filter_map (step_part fs) o.steps

-- ---- the tokens that are asked for

-- the field of the token that a slot names, where it names one: a permission goes into storage
abbrev pub named_field : SlotTree → Option ℕ
named_field x = of x.role where
  of : Role → Option ℕ
  of Change = Some x.field
  of Read = Some x.field
  of Taken = Some x.field
  of In = Some perm
  of Given = None
  of Out = None
  of Seen = None

-- a slot makes a token that needs a new name
abbrev pub gives_token : SlotTree → Bool
gives_token x = of x.role where
  of : Role → Bool
  of Given = true
  of Out = true
  of Change = false
  of Read = false
  of Taken = false
  of In = false
  of Seen = false

abbrev pub head_of : List ℕ → ℕ
head_of ns = slice_index_or ns 0 0

abbrev pub token_dues : Env → List ℕ → List Part → List ℕ → List Due
token_dues e before [] ns = []
token_dues e before (Requires form ∷ ps) ns = token_dues e before ps ns
token_dues e before (Slot x ∷ ps) ns = on_some (named_field x) (token_dues e before ps ns)
    (λ (f : ℕ). asked_dues e before (nat_eq f) (head_of ns) ++ token_dues e (head_of ns ∷ before) ps (drop 1 ns))

-- ---- an exchange under way

-- What the operation's names stand for, the token names and the names of new tokens that are left, what has to be met
-- so far, the tokens that go and that come, what a guard shows (both as the operation writes them), and the first
-- symbol that is free.
pub record Deal : Type 0 where
  pub names : Names
  pub tokens : List ℕ
  pub given : List ℕ
  pub dues : List Due
  pub gone : List ℕ
  pub new : Tokens
  pub guarded : Option TokenTree
  pub fresh : ℕ

abbrev pub dealt : Deal → Tree → Tree
dealt d t = replaced (λ x. unwrap_or (named_by d.names x) (Name x)) t

abbrev pub dealt_form : Deal → Formula → Formula
dealt_form d f = replaced_in (λ x. unwrap_or (named_by d.names x) (Name x)) f

abbrev pub dealt_if : Deal → Option Tree → Option Tree
dealt_if d (Some t) = Some (dealt d t)
dealt_if d None = None

abbrev pub calls : ℕ → Tree → Deal → Deal
calls x t d = record d { names = (x, t) ∷ d.names }

-- the name that a pattern binds, and the term that it is
abbrev pub binding : Option PatternTree → Tree → Deal → Deal
binding (Some (Bind v)) t d = calls v t d
binding (Some (Term u)) t d = d
binding None t d = d

abbrev pub pattern_term : Option PatternTree → Option Tree
pattern_term (Some (Term u)) = Some u
pattern_term (Some (Bind v)) = None
pattern_term None = None

-- a variable's name stands for the value of its token
abbrev pub with_variable : List Field → ℕ → Tree → Deal → Deal
with_variable fs f t d = if is_variable (strategy_at fs f) then calls f t d else d

-- what a slot writes
abbrev pub written : SlotTree → TokenTree
written x = record { field = x.field; key = or_zero x.key; value = or_one x.value }

abbrev pub stored_token : SlotTree → TokenTree
stored_token x = record { field = perm; key = or_zero x.key; value = or_one x.value }

-- the next token is looked at; its key and its value are what is asked
abbrev pub compare : Env → SlotTree → Deal → Deal
compare e x d = on (token e (head_of d.tokens)) where
  on : TokenTree → Deal
  on t =
      binding x.value t.value (record d {
        dues = d.dues ++ agrees T4 t.key (dealt_if d x.key) ++ agrees T4 t.value (dealt_if d (pattern_term x.value));
      })

abbrev pub loses : Deal → Deal
loses d = record d { gone = head_of d.tokens ∷ d.gone }

abbrev pub next_token : Deal → Deal
next_token d = record d { tokens = drop 1 d.tokens }

abbrev pub gains : ℕ → TokenTree → Deal → Deal
gains n t d = record d { new = d.new ++ (n, t) ∷ [] }

abbrev pub gains_next : TokenTree → Deal → Deal
gains_next t d = record (gains (head_of d.given) t d) { given = drop 1 d.given }

-- a stored object that goes out or is shown; a value that is bound is a new symbol
abbrev pub shows : SlotTree → Deal → Deal
shows x d = made (new_name x.value) where
  new_name : Option PatternTree → Deal
  new_name (Some (Bind v)) = record (calls v (Name d.fresh) d) { fresh = suc d.fresh }
  new_name (Some (Term u)) = d
  new_name None = d

  made : Deal → Deal
  made n = record n { dues = n.dues ++ Makes (dealt n (or_zero x.key)) ∷ Makes (dealt n (or_one x.value)) ∷ [] }

abbrev pub deal_slot : Env → List Field → SlotTree → Deal → Deal
deal_slot e fs x d = of x.role where
  t : Tree
  t = (token e (head_of d.tokens)).value

  of : Role → Deal
  of Change = next_token (gains (head_of d.tokens) (written x) (with_variable fs x.field t d))
  of Read = next_token (with_variable fs x.field t (compare e x d))
  of Taken = next_token (loses (compare e x d))
  of In = next_token (loses (compare e x d))
  of Given = gains_next (written x) d
  of Out = gains_next (stored_token x) (shows x d)
  of Seen = record (shows x d) { guarded = Some (stored_token x) }

abbrev pub deal : Env → List Field → List Part → Deal → Deal
deal e fs [] d = d
deal e fs (Requires form ∷ ps) d = deal e fs ps (record d { dues = d.dues ++ Owes T4 (dealt_form d form) ∷ [] })
deal e fs (Slot x ∷ ps) d = deal e fs ps (deal_slot e fs x d)

-- ---- rows

-- constants keep their terms; of all other names of the thread an operation knows nothing
abbrev pub constants_from : Env → ℕ → List Field → Names
constants_from e n [] = []
constants_from e n (f ∷ fs) = pair (e.terms n) ++ constants_from e (suc n) fs where
  pair : Option Tree → Names
  pair (Some t) = (n, t) ∷ []
  pair None = []

abbrev pub args_of : Env → DoTree → List Tree
args_of e d = map (read e) d.args

abbrev pub deal_of : MachineWithProgram → OperationTree → DoTree → Env → Deal
deal_of x o d e = deal e (fields_of x) (parts_of (fields_of x) o) (record {
  names = paired o.params (args_of e d) ++ constants_from e 0 (fields_of x);
  tokens = token_numbers (decls_of x) d.tokens;
  given = d.given;
  dues = [];
  gone = [];
  new = [];
  guarded = None;
  fresh = e.fresh;
})

-- tokens first, then the arguments
abbrev pub opening_dues : MachineWithProgram → OperationTree → DoTree → Env → List Due
opening_dues x o d e =
    at_hand_due e d.args [] d.scripts
    ∷ token_dues e [] (parts_of (fields_of x) o) (token_numbers (decls_of x) d.tokens) ++ new_names_due e d.given
    ∷ map Makes (args_of e d)

-- the asserts all of whose names have a term
abbrev pub local_assert : Deal → StepTree → Option Formula
local_assert d s = of s.act where
  of : ActTree → Option Formula
  of (acts.Assert form) =
      if form_names_only (λ y. is_some (named_by d.names y)) form then Some (dealt_form d form) else None
  of act = None

-- joined from the left
abbrev pub conjunction : Option Formula → List Formula → Option Formula
conjunction before [] = before
conjunction None (f ∷ fs) = conjunction (Some f) fs
conjunction (Some g) (f ∷ fs) = conjunction (Some (And g f)) fs

abbrev pub tell_if : ℕ → Option ℕ → Option Formula → Env → Outcome Env
tell_if line label None e = Ok e
tell_if line label (Some form) e = tell line label form e

abbrev pub dealt_token : Deal → ℕ × TokenTree → ℕ × TokenTree
dealt_token d n = (n.0, record { field = n.1.field; key = dealt d n.1.key; value = dealt d n.1.value })

-- All effects together: what the label says, then the tokens, whose keys and values are made here, when nothing is left
-- to be shown.
abbrev pub deal_effect : ℕ → OperationTree → DoTree → Deal → Env → Outcome Env
deal_effect line o f d e =
    tell_if line f.label (conjunction None (filter_map (local_assert d) o.steps)) (record e { fresh = d.fresh })
    >>= take_in line d.gone (map (dealt_token d) d.new)

abbrev pub do_row : ℕ → MachineWithProgram → OperationTree → DoTree → Env → Outcome Env
do_row line x o d e =
    row e line (opening_dues x o d e ++ (deal_of x o d e).dues) d.scripts (deal_effect line o d (deal_of x o d e) e)

-- ---- peeks

abbrev pub guarded_in : Deal → Option TokenTree
guarded_in d = option_map (λ (t : TokenTree). (dealt_token d (0, t)).1) d.guarded

-- what a guard shows is of the cell with this number; that there is a guard is said by the rules on names
abbrev pub guarded_dues : Option TokenTree → Tree → List Due
guarded_dues None cell = Wants T7 false ∷ []
guarded_dues (Some t) cell = Owes T7 (Eq t.key cell) ∷ []

abbrev pub assign_guarded : ℕ → ℕ → Option TokenTree → Env → Outcome Env
assign_guarded line y None e = Ok e
assign_guarded line y (Some t) e = assign line y t.value e

abbrev pub peek_dues : MachineWithProgram → OperationTree → DoTree → Span → IndexTree → Env → List Due
peek_dues x o d c i e =
    at_hand_due e [] [] i.scripts ∷ opening_dues x o d e ++ index_dues e i c.len ++ (deal_of x o d e).dues
    ++ guarded_dues (guarded_in (deal_of x o d e)) (cell_term e c i.operand) ++ index_spare i c.len ∷ []

abbrev pub peek_row : ℕ → MachineWithProgram → ℕ → Span → IndexTree → OperationTree → DoTree → Env → Outcome Env
peek_row line x y c i o d e =
    row e line (peek_dues x o d c i e) d.scripts
    (deal_effect line o d (deal_of x o d e) e >>= assign_guarded line y (guarded_in (deal_of x o d e)))
