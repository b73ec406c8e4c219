-- The laws of what programs mean.
use Rattle.std.specs.Prelude.{◌≡◌, ℕ, suc, ◌<◌, ◌≤◌, ℤ, Bool, true, false, List, [], length, flat_map, Some, Result}
use Rattle.std.specs.Prelude.{Ok, Err}
use Rattle.sync_join.specs.declared.tokens.Token.{Token}
use Rattle.sync_join.specs.Shards.{often}
use Rattle.sync_join.specs.Join.{join_of}
use Rattle.sync_exchange.specs.declared.hands.Held.{Held}
use Rattle.sync_thread.specs.Control.{Halt}
use Rattle.sync_thread.specs.Code.{Memory, code_of, erased_after}
use Rattle.sync_thread.specs.Programs.{is_empty, KeepTree, JumpTree, ProofTree, Let, Exchange, Split, Merge, Copy}
use Rattle.sync_thread.specs.Programs.{Move, Assert, Open, Case, Close, Still, Seal, Give}
use Rattle.sync_thread_meaning.specs.Erased.{erased_config}
use Rattle.sync_thread_meaning.specs.MachineWithProgram.{MachineWithProgram, fields_of}
use Rattle.sync_thread_meaning.specs.Meaning.{World, Site, proof_step, keep_step, end_step, gather}
use Rattle.sync_thread_meaning.specs.Moments.{Configuration, after, after_in, bag_in, TraceTree, trace_of}
use Rattle.sync_thread_meaning.specs.Shares.{Shares, array_words, hand_of, all_shards}

-- Whatever the bound of numbers, the text and the schedule: where the annotated program has not failed, the erased one
-- has done the same. It has the same words, cells, locals and lines, and everybody stands at the same place.
abbrev pub ErasedGoesAlong : Type 0
ErasedGoesAlong = (fits : ℤ → Bool) (x : MachineWithProgram) (sigma : List ℕ) (c : Configuration)
    → after_in fits x sigma ≡ Ok c → erased_after (code_of x.program) sigma ≡ Ok (erased_config c)

-- there is a hand for each thread, and one for the final block
abbrev pub HasHands : MachineWithProgram → World → Type 0
HasHands x s = length s.shares.hands ≡ suc (length x.program.threads)

-- Where the final block takes over: all tokens are those that were there before, in their order; the final block holds
-- what all of them held, thread by thread; and no thread holds anything any more.
pub record TakesAll (x : MachineWithProgram) (s : World) : Type 0 where
  pub all : all_shards (gather x s).shares ≡ all_shards s.shares
  pub taken : HasHands x s
      → hand_of (gather x s).shares (length x.program.threads) ≡ flat_map (λ (h : List Held). h) s.shares.hands
  pub left : HasHands x s → (t : ℕ) → t < length x.program.threads → hand_of (gather x s).shares t ≡ []

abbrev pub FinalTakesAll : Type 0
FinalTakesAll = (x : MachineWithProgram) (s : World) → TakesAll x s

-- a trace is of a configuration: its lines, its words, and the state that all shards make
pub record IsTraceAt (x : MachineWithProgram) (r : TraceTree) (here : Configuration) : Type 0 where
  pub lines : r.lines ≡ here.state.memory.lines
  pub words : r.words ≡ here.state.memory.words
  pub joined : join_of (fields_of x) (bag_in here) here.state.shares.kept ≡ Some r.state

-- What a schedule leaves is of the moment after its events, with one answer for each of them.
pub record IsTraceOf (x : MachineWithProgram) (sigma : List ℕ) (r : TraceTree) : Type 0 where
  pub here : Configuration
  pub comes : after x sigma ≡ Ok here
  pub trace : IsTraceAt x r here
  pub each : length r.moved ≡ length sigma

abbrev pub TracesAreOfMoments : Type 0
TracesAreOfMoments = (x : MachineWithProgram) (sigma : List ℕ) (r : TraceTree) → is_empty x.program ≡ false
    → trace_of x sigma ≡ Ok r → IsTraceOf x sigma r

-- there is a hand for each thread and one for the final block, and for each word what it owns
pub record HasPlaces (x : MachineWithProgram) (g : Shares) : Type 0 where
  pub hands : length g.hands ≡ suc (length x.program.threads)
  pub owned : length g.owned ≡ length (array_words x.program.decls)

-- every token is there as often as before: in a hand, in a word, or in the dust
abbrev pub HasSameTokens : Shares → Shares → Type 0
HasSameTokens g h = (t : Token) → often t (all_shards h) ≡ often t (all_shards g)

abbrev pub KeepsTokens : Shares → Result Shares Halt → Type 0
KeepsTokens g (Ok h) = HasSameTokens g h
KeepsTokens g (Err halt) = Unit {0}

abbrev pub KeepsTokensOf : World → Result World Halt → Type 0
KeepsTokensOf s (Ok z) = HasSameTokens s.shares z.shares
KeepsTokensOf s (Err halt) = Unit {0}

-- the statement only passes tokens on: it is no exchange, split, merger or copy
abbrev pub passes_on : ProofTree → Bool
passes_on (Exchange form) = false
passes_on (Split n one two amount scripts) = false
passes_on (Merge one two into) = false
passes_on (Copy n new) = false
passes_on (Let n term) = true
passes_on (Move token new) = true
passes_on (Assert form label scripts) = true
passes_on (Open names tokens label) = true
passes_on (Case form) = true
passes_on (Close form) = true
passes_on (Still scripts) = true
passes_on (Seal word i form) = true
passes_on (Give thread args scripts) = true

-- Such a statement, a keep that a jump comes to, and a keep of `ends` keep all tokens, wherever they stand and however
-- often: a second `give` or `seal` and a `close` without an `open` too.
pub record TokensStay (fits : ℤ → Bool) (x : MachineWithProgram) (t : ℕ) : Type 0 where
  pub statement : (site : Site) (m : Memory) (p : ProofTree) (g : Shares) → HasPlaces x g → passes_on p ≡ true
      → KeepsTokens g (proof_step fits x t site m p g)
  pub keep : (k : KeepTree) (j : JumpTree) (wrap : ℤ) (s : World) → HasPlaces x s.shares
      → KeepsTokensOf s (keep_step fits x t k j wrap s)
  pub end : (j : JumpTree) (s : World) → HasPlaces x s.shares → KeepsTokensOf s (end_step fits x t j s)

abbrev pub NoTokenIsLost : Type 0
NoTokenIsLost = (fits : ℤ → Bool) (x : MachineWithProgram) (t : ℕ) → t ≤ length x.program.threads
    → TokensStay fits x t
