-- What opening, deciding and closing a word does to its tokens.
use Rattle.std.specs.Prelude.{ℕ, zero, suc, ℤ, ◌+◌, Bool, true, not, ◌&&◌, ◌||◌, nat_eq, List, [], ◌∷◌, ◌++◌, slice_get}
use Rattle.std.specs.Prelude.{slice_set, is_some, is_none, Option, Some, None, Result, Ok, Err}
use Rattle.std.specs.List.{list_any}
use Rattle.std.specs.Ordering.{int_eq}
use Rattle.sync_base.specs.Outcome.{◌>>=◌}
use Rattle.sync_terms.specs.Trees.{Formula}
use Rattle.sync_join.specs.declared.tokens.Token.{Token}
use Rattle.sync_exchange.specs.declared.hands.Held.{Held}
use Rattle.sync_thread.specs.declared.operands.CodeDecl.{CodeDecl}
use Rattle.sync_thread.specs.declared.operands.Tok.{Tok}
use Rattle.sync_exchange.specs.Exchange.{held_as}
use Rattle.sync_exchange.specs.Splitting.{dropped, held}
use Rattle.sync_thread.specs.Control.{Halt, Broken}
use Rattle.sync_thread.specs.Programs.{ClauseTree, ClosingTree, CaseTree, is_unclaimed}
use Rattle.sync_thread.specs.Arrays.{token_number}
use Rattle.sync_thread_meaning.specs.MachineWithProgram.{MachineWithProgram, fields_of, decls_of}
use Rattle.sync_thread_meaning.specs.Shares.{Owned, Shares, hand_of, proofs_of, with_hand, with_proofs, only_if}
use Rattle.sync_thread_meaning.specs.Shares.{handed_to, owned_tokens, found, Around, Sight, term_values, is_of_form}
use Rattle.sync_thread_meaning.specs.Shares.{are_new, WordAt, array_words, given_to, word_sight, guard_truth}
use Rattle.sync_thread_meaning.specs.Shares.{fact_is_true, overlaid}

-- ---- words: opened, decided, closed

-- An operation on a word: the word's number, the values round it, and the guarded clauses decided so far.
pub record OpenBlock : Type 0 where
  pub number : ℕ
  pub around : Around
  pub decided : List ℕ

-- what enters a hand, and what a word still owns
pub record Taken : Type 0 where
  pub held : List Held
  pub owned : List (Option Token)

abbrev pub taken_one : Option Formula → Option Token → List ℕ → (List ℕ → Result Taken Halt) → Result Taken Halt
taken_one (Some f) o ns later = later ns >>= (λ (k : Taken). Ok (record { held = k.held; owned = o ∷ k.owned }))
taken_one None (Some t) (n ∷ ns) later =
    later ns
    >>= (λ (k : Taken). Ok (record { held = record { name = n; token = t } ∷ k.held; owned = None ∷ k.owned }))
taken_one None (Some t) [] later = Err Broken
taken_one None None ns later = Err Broken

-- the tokens of the unguarded clauses come out, under these names
abbrev pub taken_out : List ClauseTree → List (Option Token) → List ℕ → Result Taken Halt
taken_out [] os names = Ok (record { held = []; owned = os })
taken_out (c ∷ cs) [] names = Err Broken
taken_out (c ∷ cs) (o ∷ os) names = taken_one c.guard o names (taken_out cs os)

abbrev pub with_owned : ℕ → Owned → Shares → Shares
with_owned i o g = record g { owned = slice_set g.owned i o }

-- the tokens that a word has, if it is there
abbrev pub tokens_at : Option Owned → List Token
tokens_at (Some o) = owned_tokens o
tokens_at None = []

-- A word gets all of its tokens anew. Those that it still had are dropped; after an `open` with every clause decided
-- there are none.
abbrev pub with_owned_anew : ℕ → Owned → Shares → Shares
with_owned_anew i o g = with_owned i o (record g { dust = tokens_at (slice_get g.owned i) ++ g.dust })

abbrev pub word_opened : MachineWithProgram → ℕ → ℕ → List ℕ → List ℕ → Shares → Result Shares Halt
word_opened x t i names tokens g =
    found (slice_get (array_words x.program.decls) i)
    >>= (λ (p : WordAt). found (slice_get g.owned i) >>= (λ (o : Owned).
    only_if (are_new tokens (hand_of g t)) (taken_out p.word.clauses o.tokens tokens >>= (λ (k : Taken).
    Ok (with_owned i (record { tokens = k.owned; values = o.values })
    (with_proofs t (overlaid (given_to names o.values) (proofs_of g t)) (handed_to t k.held g)))))))

-- a guarded clause: its guard is as it is said to be at the old value; where it is true its token comes out
abbrev pub case_taken : ℕ → ℕ → Owned → ℕ → Bool → Option ℕ → Option Token → Shares → Result Shares Halt
case_taken t i o n holds (Some p) (Some token) g = only_if (holds && are_new (p ∷ []) (hand_of g t))
    (Ok (with_owned i (record o { tokens = slice_set o.tokens n None })
    (handed_to t (record { name = p; token = token } ∷ []) g)))
case_taken t i o n holds (Some p) None g = Err Broken
case_taken t i o n holds None token g = only_if (not holds && is_none token) (Ok g)

abbrev pub decided_case : MachineWithProgram → ℕ → OpenBlock → CaseTree → Shares → Result Shares Halt
decided_case x t b form g = clause form.clause where
  clause : ℕ → Result Shares Halt
  clause zero = Err Broken
  clause (suc n) =
      found (slice_get (array_words x.program.decls) b.number)
      >>= (λ (p : WordAt). found (slice_get g.owned b.number) >>= (λ (o : Owned).
      found (slice_get p.word.clauses n)
      >>= (λ (c : ClauseTree). found (slice_get o.tokens n) >>= (λ (token : Option Token).
      only_if (is_some c.guard && not (list_any (nat_eq (suc n)) b.decided))
      (found (guard_truth (word_sight (fields_of x) g.kept p b.around.old o.values) c.guard)
      >>= (λ (holds : Bool). case_taken t b.number o n holds form.taken token g))))))

-- Tokens go back, a clause at a time: a token exactly where the guard is true, with the clause's key and value. What
-- is left of the hand comes with what the word then owns.
pub record Put : Type 0 where
  pub tokens : List (Option Token)
  pub left : List Held

abbrev pub put_back : List CodeDecl → Sight → List ClauseTree → List (Option Tok) → List Held → Result Put Halt
put_back ds v [] [] hand = Ok (record { tokens = []; left = hand })
put_back ds v [] (e ∷ es) hand = Err Broken
put_back ds v (c ∷ cs) [] hand = Err Broken
put_back ds v (c ∷ cs) (None ∷ es) hand = found (guard_truth v c.guard) >>= (λ (holds : Bool). only_if (not holds)
    (put_back ds v cs es hand >>= (λ (k : Put). Ok (record { tokens = None ∷ k.tokens; left = k.left }))))
put_back ds v (c ∷ cs) (Some e ∷ es) hand =
    found (held_as (token_number ds e) hand) >>= (λ (t : Token). found (guard_truth v c.guard) >>= (λ (holds : Bool).
    only_if (holds && is_of_form v c.shape t)
    (put_back ds v cs es (dropped (token_number ds e) hand)
    >>= (λ (k : Put). Ok (record { tokens = Some t ∷ k.tokens; left = k.left })))))

-- a word at a value gets its tokens and the values of its names
abbrev pub word_closed : (ℤ → Bool) → MachineWithProgram → ℕ → Sight → ℕ → ℤ → ClosingTree → Shares
    → Result Shares Halt
word_closed fits x t v i value form g =
    found (slice_get (array_words x.program.decls) i) >>= (λ (p : WordAt). term_values fits v form.args >>= (λ ns.
    put_back (decls_of x) (word_sight (fields_of x) g.kept p value ns) p.word.clauses form.tokens (hand_of g t)
    >>= (λ (k : Put).
    only_if (fact_is_true (word_sight (fields_of x) g.kept p value ns) p.word.fact)
    (Ok (with_owned_anew i (record { tokens = k.tokens; values = ns }) (with_hand t k.left g))))))

abbrev pub clauses_at : MachineWithProgram → ℕ → List ClauseTree
clauses_at x i = of (slice_get (array_words x.program.decls) i) where
  of : Option WordAt → List ClauseTree
  of (Some p) = p.word.clauses
  of None = []

abbrev pub may_stay : MachineWithProgram → OpenBlock → Bool
may_stay x b = int_eq b.around.old b.around.new || free (slice_get (array_words x.program.decls) b.number) where
  free : Option WordAt → Bool
  free (Some p) = is_unclaimed p.word
  free None = true
