-- What proof statements and shared steps do to the tokens: the annotated meaning of a program.
--
-- `fits` says which numbers are within the bound. With no bound nothing ends by `Wide`.
use Rattle.std.specs.Prelude.{ℕ, zero, suc, ℤ, pos, ◌+ℤ◌, ◌+◌, ◌/◌, ◌%◌, ◌*◌, ◌^◌, Bool, true, false, not, ◌&&◌}
use Rattle.std.specs.Prelude.{if◌then◌else◌, nat_eq, nat_lt, int_le, List, [], ◌∷◌, ◌++◌, length, map, slice_get}
use Rattle.std.specs.Prelude.{Option, Some, None, Result, Ok, Err}
use Rattle.std.specs.Ordering.{int_eq}
use Rattle.sync_base.specs.Outcome.{◌>>=◌}
use Rattle.sync_terms.specs.Trees.{Tree}
use Rattle.sync_terms.specs.Maps as maps
use Rattle.sync_machine.specs.declared.fields.Field.{Field}
use Rattle.sync_base.specs.declared.strategies.Strategy.{Strategy}
use Rattle.sync_base.specs.declared.strategies.Strategy.TheVariants.{Count}
use Rattle.sync_join.specs.declared.tokens.Token.{Token}
use Rattle.sync_exchange.specs.declared.hands.Held.{Held}
use Rattle.sync_thread.specs.declared.operands.Calc.{Calc}
use Rattle.sync_thread.specs.declared.operands.Calc.TheVariants as calc
use Rattle.sync_thread.specs.declared.operands.Opd.{Opd}
use Rattle.sync_thread.specs.declared.operands.WordOp.{WordOp}
use Rattle.sync_thread.specs.declared.operands.WordOp.TheVariants as op
use Rattle.sync_machine.specs.States.{State, strategy_at}
use Rattle.sync_join.specs.Shards.{perm}
use Rattle.sync_exchange.specs.Exchange.{held_as, revalued, tokens_in}
use Rattle.sync_exchange.specs.Splitting.{replaced, held, split_of, merged_of, copied_of, is_persistent}
use Rattle.sync_thread.specs.Control.{Halt, Broken, Language, StatementMeaning, ProgramMeaning}
use Rattle.sync_thread.specs.Programs.{KeepTree, ProofTree, Let, Exchange, Split, Merge, Copy, Move, Assert, Open, Case}
use Rattle.sync_thread.specs.Programs.{Close, Still, Seal, Give, ProofStepTree, JumpTree, LocalTree, Set, Proof}
use Rattle.sync_thread.specs.Programs.{SharedTree, Read, Write, Peek, Operate, Print, AtomicTree, ChoiceTree}
use Rattle.sync_thread.specs.Programs.{ThreadTree, program_forms, all_decided}
use Rattle.sync_thread.specs.Arrays.{words_named, token_number}
use Rattle.sync_thread_meaning.specs.MachineWithProgram.{MachineWithProgram, fields_of, decls_of}
use Rattle.sync_thread.specs.Code.{Memory, code_word, code_shared, code_local, code_step, satisfies, operand_value}
use Rattle.sync_thread.specs.Code.{word_number, word_at, cell_number, number_in, locals_of}
use Rattle.sync_thread_meaning.specs.Shares.{Shares, hand_of, proofs_of, wrap_of, with_hand, with_proofs, with_wrap}
use Rattle.sync_thread_meaning.specs.Shares.{only_if, bounded, handed_to, found, Around, nowhere_near, named_value}
use Rattle.sync_thread_meaning.specs.Shares.{symbol_value, Sight, sight_of, term_value, term_values, is_true, are_new}
use Rattle.sync_thread_meaning.specs.Shares.{given_to, Parted, keep_lines, keep_facts_hold, overlaid}
use Rattle.sync_thread_meaning.specs.Exchanges.{exchanged_at_join, guards_cell}
use Rattle.sync_thread_meaning.specs.Words.{OpenBlock, word_opened, decided_case, word_closed, clauses_at, may_stay}

-- ---- proof statements

abbrev pub is_count_strategy : Strategy → Bool
is_count_strategy Count = true
is_count_strategy other = false

abbrev pub is_count : List Field → Token → Bool
is_count fs t = is_count_strategy (strategy_at fs t.field)

abbrev pub may_be_copied : List Field → Token → Bool
may_be_copied fs t = is_persistent (strategy_at fs t.field)

-- a value of one name
abbrev pub one_value : ℕ → ℤ → ℕ → Option ℤ
one_value x n y = if nat_eq y x then Some n else None

-- the words and cells, and the tokens
pub record World : Type 0 where
  pub memory : Memory
  pub shares : Shares

-- where a proof statement stands: in the start, among a thread's statements, or in the block of an operation on a word
pub data Site : Type 0 where
  InStart : Site
  InThread : Site
  InBlock : (block : OpenBlock) → Site

abbrev pub around_of : Site → Around
around_of InStart = nowhere_near
around_of InThread = nowhere_near
around_of (InBlock b) = b.around

abbrev pub block_at : Site → Result OpenBlock Halt
block_at InStart = Err Broken
block_at InThread = Err Broken
block_at (InBlock b) = Ok b

abbrev pub in_start : Site → Bool
in_start InStart = true
in_start InThread = false
in_start (InBlock b) = false

-- what comes to a keep: the tokens of its lines, the tokens that do not, and the values of its names
pub record Arrival : Type 0 where
  pub kept : List Held
  pub left : List Held
  pub own : ℕ → Option ℤ

-- in a keep its own names come before all others, and `wrap` is the one of its place
abbrev pub keep_sight : List Field → World → ℕ → (ℕ → Option ℤ) → ℤ → Sight
keep_sight fs s t own wrap = record {
  valuation = record {
    number =
        symbol_value fs s.shares.kept (pos 0 ∷ pos 0 ∷ pos 0 ∷ pos 0 ∷ wrap ∷ [])
        (named_value (overlaid own (proofs_of s.shares t)) (locals_of s.memory t)) (hand_of s.shares t);
    mapping = λ x. maps.nil;
  };
  hand = hand_of s.shares t;
}

abbrev pub arrived : (ℤ → Bool) → MachineWithProgram → World → ℕ → KeepTree → List Tree → ℤ → Result Arrival Halt
arrived fits x s t k args wrap =
    term_values fits (sight_of (fields_of x) s.memory s.shares t nowhere_near) args >>= (λ ns.
    let v : Sight = keep_sight (fields_of x) s t (given_to k.names ns) wrap in
    keep_lines v k.lines (hand_of s.shares t) >>= (λ (p : Parted).
    only_if (keep_facts_hold v k.facts) (Ok (record { kept = p.kept; left = p.left; own = given_to k.names ns }))))

-- thread t goes on with these tokens and proof values; what is left of its hand is dropped
abbrev pub keeping : ℕ → List Held → List Held → (ℕ → Option ℤ) → Shares → Shares
keeping t kept left proofs g = with_proofs t proofs (with_hand t kept (record g { dust = g.dust ++ tokens_in left }))

abbrev pub thread_named : ℕ → List ThreadTree → Option ℕ
thread_named x [] = None
thread_named x (t ∷ ts) = if nat_eq x t.name then Some zero else next (thread_named x ts) where
  next : Option ℕ → Option ℕ
  next (Some n) = Some (suc n)
  next None = None

abbrev pub proof_step : (ℤ → Bool) → MachineWithProgram → ℕ → Site → Memory → ProofTree → Shares → Result Shares Halt
proof_step fits x t site m p g = does p where
  v : Sight
  v = sight_of (fields_of x) m g t (around_of site)

  hand : List Held
  hand = hand_of g t

  does : ProofTree → Result Shares Halt
  does (Let n term) =
      term_value fits v term >>= (λ i. Ok (with_proofs t (overlaid (one_value n i) (proofs_of g t)) g))
  does (Exchange form) = exchanged_at_join fits x t v form g
  does (Split n one two amount scripts) =
      term_value fits v amount >>= (λ i. found (held_as n hand) >>= (λ (token : Token).
      only_if (is_count (fields_of x) token && int_le (pos 0) i && int_le i token.value
      && are_new (one ∷ two ∷ []) hand)
      (Ok (with_hand t (split_of n token i one two hand) g))))
  does (Merge a b into) = found (held_as a hand) >>= (λ (one : Token). found (held_as b hand) >>= (λ (two : Token).
      only_if (not (nat_eq a b) && nat_eq one.field two.field && is_count (fields_of x) one && are_new (into ∷ []) hand)
      (bounded (fits (one.value +ℤ two.value)) (Ok (with_hand t (merged_of a one b two into hand) g)))))
  does (Copy n new) = found (held_as n hand) >>= (λ (token : Token).
      only_if (may_be_copied (fields_of x) token && are_new (new ∷ []) hand)
      (Ok (with_hand t (copied_of token new hand) g)))
  does (Move tok new) = found (held_as (token_number (decls_of x) tok) hand) >>= (λ (token : Token).
      only_if (are_new (new ∷ []) hand)
      (Ok (with_hand t (replaced (token_number (decls_of x) tok) (held new token token.value) hand) g)))
  does (Assert form label scripts) = only_if (is_true v form) (Ok g)
  does (Open names tokens label) = block_at site >>= (λ (b : OpenBlock). word_opened x t b.number names tokens g)
  does (Case form) = block_at site >>= (λ (b : OpenBlock). decided_case x t b form g)
  does (Close form) =
      block_at site
      >>= (λ (b : OpenBlock). only_if (all_decided b.decided 1 (clauses_at x b.number))
      (word_closed fits x t v b.number b.around.new form g))
  does (Still scripts) = block_at site >>= (λ (b : OpenBlock). only_if (may_stay x b) (Ok g))
  does (Seal word i form) =
      only_if (in_start site) (number_in (words_named word (decls_of x)) i
      >>= (λ n. word_closed fits x t v n (pos (word_at m n)) form g))
  does (Give thread args scripts) =
      only_if (in_start site) (found (thread_named thread x.program.threads)
      >>= (λ u. found (slice_get x.program.threads u) >>= (λ (taker : ThreadTree).
      arrived fits x (record { memory = m; shares = g }) t taker.takes args (pos 0) >>= (λ (a : Arrival).
      Ok (with_proofs u a.own (handed_to u a.kept (with_hand t a.left g)))))))

-- the site after a statement
abbrev pub deciding : ProofTree → List ℕ → List ℕ
deciding (Case form) ds = form.clause ∷ ds
deciding other ds = ds

abbrev pub site_after : ProofTree → Site → Site
site_after p (InBlock b) = InBlock (record b { decided = deciding p b.decided })
site_after p InStart = InStart
site_after p InThread = InThread

-- the proof statements of a block, in order
abbrev pub proof_steps : (ℤ → Bool) → MachineWithProgram → ℕ → Site → Memory → List ProofStepTree → Shares
    → Result Shares Halt
proof_steps fits x t site m [] g = Ok g
proof_steps fits x t site m (p ∷ ps) g =
    proof_step fits x t site m p.what g >>= proof_steps fits x t (site_after p.what site) m ps

-- ---- statements of threads

-- how often a calculation went round, or what it left over
abbrev pub calc_wrap : (Opd → ℕ) → Calc → Option ℤ
calc_wrap f (calc.Plain a) = None
calc_wrap f (calc.Plus a b) = Some (pos ((f a + f b) / 2 ^ 64))
calc_wrap f (calc.Minus a b) = Some (if nat_lt (f a) (f b) then pos 1 else pos 0)
calc_wrap f (calc.Times a n) = Some (pos ((f a * n) / 2 ^ 64))
calc_wrap f (calc.Over a n) = Some (pos (f a % n))
calc_wrap f (calc.Modulo a n) = Some (pos (f a / n))

abbrev pub op_wrap : (Opd → ℕ) → WordOp → ℕ → Option ℤ
op_wrap f (op.Add a) n = Some (pos ((n + f a) / 2 ^ 64))
op_wrap f (op.Sub a) n = Some (if nat_lt n (f a) then pos 1 else pos 0)
op_wrap f op.Load n = None
op_wrap f (op.Store a) n = None
op_wrap f (op.Swap a) n = None
op_wrap f (op.Cas a b) n = None

abbrev pub wrapping : ℕ → Option ℤ → Shares → Shares
wrapping t (Some n) g = with_wrap t n g
wrapping t None g = g

abbrev pub with_shares : Memory → Result Shares Halt → Result World Halt
with_shares m g = g >>= (λ (h : Shares). Ok (record { memory = m; shares = h }))

abbrev pub local_step : (ℤ → Bool) → MachineWithProgram → ℕ → LocalTree → World → Result World Halt
local_step fits x t (Set y c label) s = code_local t (record { local = y; calc = c }) s.memory
    >>= (λ m. with_shares m (Ok (wrapping t (calc_wrap (operand_value s.memory t) c) s.shares)))
local_step fits x t (Proof p) s = with_shares s.memory (proof_step fits x t InThread s.memory p s.shares)

-- the permission of a cell, held under this name
abbrev pub permits_cell : ℕ → Option Token → Bool
permits_cell c (Some t) = nat_eq t.field perm && int_eq t.key (pos c)
permits_cell c None = false

-- the block of an operation on a word, between the memory before and after it
abbrev pub word_block : (ℤ → Bool) → MachineWithProgram → ℕ → AtomicTree → List ProofStepTree → Memory → Memory
    → Shares → Result Shares Halt
word_block fits x t a ps m n g = word_number (decls_of x) t m a.word a.index.operand >>= (λ k.
    proof_steps fits x t (InBlock (record {
      number = k;
      around = record { old = pos (word_at m k); new = pos (word_at n k) };
      decided = [];
    })) n ps
    (wrapping t (op_wrap (operand_value m t) a.op (word_at m k)) g))

-- what a shared step does to the tokens, between the memory before and after it
abbrev pub share_step : (ℤ → Bool) → MachineWithProgram → ℕ → SharedTree → Memory → Memory → Shares
    → Result Shares Halt
share_step fits x t (Read y c i p scripts) m n g =
    cell_number (decls_of x) t m c i.operand >>= (λ k. only_if (permits_cell k (held_as p (hand_of g t))) (Ok g))
share_step fits x t (Write c i o p scripts) m n g =
    cell_number (decls_of x) t m c i.operand >>= (λ k. only_if (permits_cell k (held_as p (hand_of g t)))
    (Ok (with_hand t (revalued p (pos (operand_value m t o)) (hand_of g t)) g)))
share_step fits x t (Peek y c i form) m n g = cell_number (decls_of x) t m c i.operand >>= (λ k.
    let v : Sight = sight_of (fields_of x) m g t nowhere_near in
    guards_cell fits x v form g k >>= (λ is. only_if is (exchanged_at_join fits x t v form g)))
share_step fits x t (Operate a ps) m n g = word_block fits x t a ps m n g
share_step fits x t (Print label o) m n g = Ok g

abbrev pub shared_step : (ℤ → Bool) → MachineWithProgram → ℕ → SharedTree → World → Result World Halt
shared_step fits x t a s =
    code_step (decls_of x) t (code_shared a) s.memory
    >>= (λ m. with_shares m (share_step fits x t a s.memory m s.shares))

abbrev pub choice_step : (ℤ → Bool) → MachineWithProgram → ℕ → ChoiceTree → World → Result (Bool × World) Halt
choice_step fits x t a s = code_step (decls_of x) t (code_word a.atomic) s.memory >>= (λ (m : Memory).
    with_shares m (word_block fits x t a.atomic
    (if satisfies m t a.test.cond then a.first else a.second) s.memory m s.shares)
    >>= (λ (w : World). Ok (satisfies m t a.test.cond, w)))

-- a jump comes to a keep of its own thread
abbrev pub keep_step : (ℤ → Bool) → MachineWithProgram → ℕ → KeepTree → JumpTree → ℤ → World → Result World Halt
keep_step fits x t k j wrap s = arrived fits x s t k j.args wrap >>= (λ (a : Arrival). Ok (record {
  memory = s.memory;
  shares = with_wrap t wrap (keeping t a.kept a.left (overlaid a.own (proofs_of s.shares t)) s.shares);
}))

abbrev pub annotated_language : Language
annotated_language = record { forms = program_forms; Saved = ℤ; State = World }

-- A branch that just ends, a `meet` that is not the last of its list, and a jump to a keep that is not there fail.
abbrev pub annotated_statements : (ℤ → Bool) → MachineWithProgram → ℕ → StatementMeaning annotated_language
annotated_statements fits x t = record {
  local = local_step fits x t;
  shared = shared_step fits x t;
  choice = choice_step fits x t;
  test = λ c s. satisfies s.memory t c.cond;
  save = λ s. wrap_of s.shares t;
  keep = keep_step fits x t;
  falls = λ v s. Err Broken;
}

-- A thread's `end` comes to its last keep, whose names alone are left of its proof values. As at a `give`, `wrap` names
-- nothing there, and is 0.
abbrev pub end_step : (ℤ → Bool) → MachineWithProgram → ℕ → JumpTree → World → Result World Halt
end_step fits x t j s = found (slice_get x.program.threads t) >>= (λ (thread : ThreadTree).
    arrived fits x s t thread.ends j.args (pos 0) >>= (λ (a : Arrival).
    Ok (record s { shares = keeping t a.kept a.left a.own s.shares })))

-- the final block's list just ends
abbrev pub finish_step : MachineWithProgram → ℕ → World → Result World Halt
finish_step x t s = if nat_eq t (length x.program.threads) then Ok s else Err Broken

-- all hands in the last one
abbrev pub gathered : List (List Held) → List Held → List (List Held)
gathered [] all = all ∷ []
gathered (h ∷ []) all = (all ++ h) ∷ []
gathered (h ∷ i ∷ hs) all = [] ∷ gathered (i ∷ hs) (all ++ h)

abbrev pub all_values : List (ℕ → Option ℤ) → ℕ → Option ℤ
all_values [] = λ n. None
all_values (f ∷ fs) = overlaid f (all_values fs)

-- the final block takes what all threads have
abbrev pub gather : MachineWithProgram → World → World
gather x s =
    record s {
      shares = with_proofs (length x.program.threads) (all_values s.shares.proofs)
          (record s.shares { hands = gathered s.shares.hands [] });
    }

abbrev pub annotated_meaning : (ℤ → Bool) → MachineWithProgram → ProgramMeaning annotated_language
annotated_meaning fits x = record {
  statements = annotated_statements fits x;
  ends = end_step fits x;
  finishes = finish_step x;
  gathers = gather x;
  bodies = map (λ (t : ThreadTree). t.body) x.program.threads;
  last = x.program.last;
}
