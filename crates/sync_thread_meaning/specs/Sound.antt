-- What it is for a configuration to be good, and for a text to be sound.
use Rattle.std.specs.Prelude.{◌≡◌, ◌≢◌, ℕ, ℤ, pos, ◌<◌, Bool, true, false, not, ◌&&◌, nat_eq, List, [], ◌∷◌, ◌++◌}
use Rattle.std.specs.Prelude.{length, map, filter, slice_get, Option, Some, None, Result, Ok, Err}
use Rattle.std.specs.Ordering.{int_eq}
use Rattle.sync_machine.specs.declared.fields.Field.{Field}
use Rattle.sync_join.specs.declared.tokens.Token.{Token}
use Rattle.sync_machine.specs.States.{State, IsReached, MeetsInvariants, HoldsAlways}
use Rattle.sync_join.specs.Shards.{Kept, perm}
use Rattle.sync_join.specs.Join.{join_of}
use Rattle.sync_thread.specs.Control.{Halt, On, Paused}
use Rattle.sync_thread.specs.Programs.{ClauseTree, is_empty, ListTree, SharedTree, Read, Write, Peek, Operate, Print}
use Rattle.sync_thread.specs.Code.{Memory, code_of, cell_number, cell_at, erased_after, ErasedConfig}
use Rattle.sync_thread_meaning.specs.Shares.{Owned, Sight, is_of_form, WordAt, array_words, word_sight, guard_truth}
use Rattle.sync_thread_meaning.specs.Shares.{fact_is_true}
use Rattle.sync_thread_meaning.specs.MachineWithProgram.{MachineWithProgram, fields_of, decls_of}
use Rattle.sync_thread_meaning.specs.Meaning.{annotated_language}
use Rattle.sync_thread_meaning.specs.Moments.{Configuration, after, bag_in}

-- ---- races

-- the cell that a step accesses, and whether it writes it
abbrev pub access : MachineWithProgram → Memory → ℕ → SharedTree → Option (ℕ × Bool)
access x m t a = by a where
  cell : Bool → Result ℕ Halt → Option (ℕ × Bool)
  cell writes (Ok k) = Some (k, writes)
  cell writes (Err h) = None

  by : SharedTree → Option (ℕ × Bool)
  by (Read y c i p scripts) = cell false (cell_number (decls_of x) t m c i.operand)
  by (Write c i o p scripts) = cell true (cell_number (decls_of x) t m c i.operand)
  by (Peek y c i form) = cell false (cell_number (decls_of x) t m c i.operand)
  by (Operate b ps) = None
  by (Print l o) = None

abbrev pub next_access : MachineWithProgram → Memory → ℕ → ListTree → Option (ℕ × Bool)
next_access x m t (On a n rest) = access x m t a
next_access x m t other = None

abbrev pub paused_access : MachineWithProgram → Memory → ℕ → Option (Option (Paused annotated_language))
    → Option (ℕ × Bool)
paused_access x m t (Some (Some w)) = next_access x m t w.rest
paused_access x m t (Some None) = None
paused_access x m t None = None

abbrev pub access_at : MachineWithProgram → Configuration → ℕ → Option (ℕ × Bool)
access_at x c t = paused_access x c.state.memory t (slice_get c.places t)

-- the next steps of two threads access one cell, and one of them writes it
pub record Races (x : MachineWithProgram) (c : Configuration) : Type 0 where
  pub one : ℕ
  pub two : ℕ
  pub apart : one ≢ two
  pub cell : ℕ
  pub writes : access_at x c one ≡ Some (cell, true)
  pub how : Bool
  pub accesses : access_at x c two ≡ Some (cell, how)

-- ---- good configurations

-- a clause has its token, with its key and value, exactly where its guard is true
abbrev pub clause_is_kept : Sight → ClauseTree → Option Token → Bool
clause_is_kept v c o = kept (guard_truth v c.guard) o where
  kept : Option Bool → Option Token → Bool
  kept (Some holds) (Some t) = holds && is_of_form v c.shape t
  kept (Some holds) None = not holds
  kept None other = false

abbrev pub clauses_are_kept : Sight → List ClauseTree → List (Option Token) → Bool
clauses_are_kept v [] [] = true
clauses_are_kept v (c ∷ cs) (o ∷ os) = clause_is_kept v c o && clauses_are_kept v cs os
clauses_are_kept v [] (o ∷ os) = false
clauses_are_kept v (c ∷ cs) [] = false

abbrev pub word_is_kept : List Field → Kept → WordAt → ℕ → Owned → Bool
word_is_kept fs kept p n o = fact_is_true (word_sight fs kept p (pos n) o.values) p.word.fact
    && clauses_are_kept (word_sight fs kept p (pos n) o.values) p.word.clauses o.tokens

abbrev pub words_are_kept : List Field → Kept → List WordAt → List ℕ → List Owned → Bool
words_are_kept fs kept [] [] [] = true
words_are_kept fs kept (p ∷ ps) (n ∷ ns) (o ∷ os) = word_is_kept fs kept p n o && words_are_kept fs kept ps ns os
words_are_kept fs kept ps ns os = false

-- the contents that the permissions of a cell say, in the bag and stored
abbrev pub contents_of : ℕ → List Token → Kept → List ℤ
contents_of k bag kept =
    map (λ (t : Token). t.value) (filter (λ (t : Token). int_eq t.key (pos k))
    (filter (λ (t : Token). nat_eq t.field perm) bag ++ kept.stored))

pub record IsGood (x : MachineWithProgram) (c : Configuration) : Type 0 where
  -- all tokens and what is kept are the shards of a reached state, which meets every invariant
  pub state : State
  pub joined : join_of (fields_of x) (bag_in c) c.state.shares.kept ≡ Some state
  pub reached : IsReached x.machine state
  pub meets : MeetsInvariants x.machine state
  -- each word's fact is true, and it has the tokens that its clauses say
  pub words : words_are_kept (fields_of x) c.state.shares.kept
      (array_words x.program.decls) c.state.memory.words c.state.shares.owned ≡ true
  -- each cell has exactly one permission, which says its content
  pub cells : (k : ℕ) → k < length c.state.memory.cells
      → contents_of k (bag_in c) c.state.shares.kept ≡ pos (cell_at c.state.memory k) ∷ []
  pub no_race : Races x c → ⊥

-- ---- sound texts

-- At the moment after these events nothing has failed, all is good, and the erased program has done the same.
pub record GoesWell (x : MachineWithProgram) (sigma : List ℕ) : Type 0 where
  pub here : Configuration
  pub comes : after x sigma ≡ Ok here
  pub good : IsGood x here
  pub erased : ErasedConfig
  pub goes : erased_after (code_of x.program) sigma ≡ Ok erased
  pub same : here.state.memory ≡ erased.state

-- The machine holds always, and unless the program is the empty one every schedule goes well.
pub record IsSound (x : MachineWithProgram) : Type 0 where
  pub holds : HoldsAlways x.machine
  pub goes_well : is_empty x.program ≡ false → (sigma : List ℕ) → GoesWell x sigma
