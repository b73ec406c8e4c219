-- No token is lost, statement by statement.
use Rattle.std.proofs.Common.{◌≡◌, ℕ, zero, suc, ◌+◌, ◌<◌, ℤ, Bool, true, false, List, [], ◌∷◌, ◌++◌}
use Rattle.std.proofs.Common.{length, flat_map, slice_get, slice_set, Option, Some, None, Result, Ok, Err, refl}
use Rattle.std.proofs.Common.{not, ◌&&◌, is_none, pos, ap, subst, arith}
use Rattle.sync_base.specs.Outcome.{◌>>=◌}
use Rattle.sync_terms.specs.Trees.{Tree, Formula}
use Rattle.sync_join.specs.declared.tokens.Token.{Token}
use Rattle.sync_join.specs.Shards.{often}
use Rattle.sync_join.proofs.Rearranged.{often-append}
use Rattle.sync_exchange.specs.declared.hands.Held.{Held}
use Rattle.sync_exchange.specs.Exchange.{held_as, tokens_in}
use Rattle.sync_exchange.specs.Splitting.{dropped, replaced, held}
use Rattle.sync_thread.specs.declared.operands.CodeDecl.{CodeDecl}
use Rattle.sync_thread.specs.declared.operands.Tok.{Tok}
use Rattle.sync_thread.specs.Control.{Halt}
use Rattle.sync_thread.specs.Arrays.{token_number, words_named}
use Rattle.sync_thread.specs.Programs.{ClauseTree, ScriptTree, ClosingTree, KeepTree, KeepLineTree, JumpTree}
use Rattle.sync_thread.specs.Programs.{ThreadTree, ProofTree, Let, Exchange, Split, Merge, Copy, Move, Assert, Open}
use Rattle.sync_thread.specs.Programs.{Case, Close, Still, Seal, Give}
use Rattle.sync_thread.specs.Code.{Memory, number_in, word_at}
use Rattle.sync_thread_meaning.specs.MachineWithProgram.{MachineWithProgram, fields_of, decls_of}
use Rattle.sync_thread_meaning.specs.Shares.{Owned, Shares, hand_of, proofs_of, with_hand, with_proofs, handed_to}
use Rattle.sync_thread_meaning.specs.Shares.{token_list, only_if, found, Sight, sight_of, nowhere_near}
use Rattle.sync_thread_meaning.specs.Shares.{term_value, term_values, array_words, given_to}
use Rattle.sync_thread_meaning.specs.Shares.{word_sight, guard_truth, Parted, keep_lines, overlaid}
use Rattle.sync_thread_meaning.specs.Words.{OpenBlock, Taken, taken_one, taken_out, word_opened, case_taken}
use Rattle.sync_thread_meaning.specs.Words.{decided_case}
use Rattle.sync_thread_meaning.specs.Words.{Put, put_back, word_closed, with_owned, with_owned_anew, may_stay}
use Rattle.sync_thread_meaning.specs.Meaning.{World, Site, around_of, block_at, Arrival, keep_sight, arrived}
use Rattle.sync_thread_meaning.specs.Meaning.{keeping, thread_named, proof_step, keep_step, end_step}
use Rattle.sync_thread_meaning.specs.Shares.{keep_facts_hold, is_true}
use Rattle.sync_thread_meaning.specs.Laws.{HasPlaces, KeepsTokens, KeepsTokensOf, passes_on, NoTokenIsLost}
use Rattle.sync_thread_meaning.proofs.Counting.{in_hand, in_all, got_below, hand_count, handed_count}
use Rattle.sync_thread_meaning.proofs.Counting.{owned_count, dust_count, anew_count, place_count, one_count}
use Rattle.sync_thread_meaning.proofs.Counting.{dropped_count, renamed_count}

-- what is true of an answer, if there is one
abbrev Holds : {A : Type 0} → (A → Type 0) → Result A Halt → Type 0
Holds P (Ok a) = P a
Holds P (Err h) = Unit {0}

bound : {A B : Type 0} (P : B → Type 0) (r : Result A Halt) (f : A → Result B Halt)
    → ((a : A) → r ≡ Ok a → Holds P (f a)) → Holds P (r >>= f)
bound P (Ok a) f on = on a refl
bound P (Err h) f on = tt

tested : {A : Type 0} (P : A → Type 0) (b : Bool) (r : Result A Halt) → Holds P r → Holds P (only_if b r)
tested P true r on = on
tested P false r on = tt

held_by : {A : Type 0} (P : A → Type 0) (r : Result A Halt) (a : A) → Holds P r → r ≡ Ok a → P a
held_by P r a on is = subst (Holds P) is on

abbrev answer : {A : Type 0} → Result A Halt → Option A
answer (Ok a) = Some a
answer (Err h) = None

found_is : {A : Type 0} (o : Option A) (a : A) → found o ≡ Ok a → o ≡ Some a
found_is (Some b) a is = ap answer is
found_is None a is = absurd (cc)

-- ---- words

abbrev in_places : Token → List (Option Token) → ℕ
in_places u os = often u (flat_map token_list os)

-- what is taken out and what stays are all
abbrev Splits : Token → List (Option Token) → Taken → Type 0
Splits u os k = in_places u os ≡ in_hand u k.held + in_places u k.owned

taken_one_splits : (u : Token) (guard : Option Formula) (o : Option Token) (ns : List ℕ) (os : List (Option Token))
    (later : List ℕ → Result Taken Halt) → ((ms : List ℕ) → Holds (Splits u os) (later ms))
    → Holds (Splits u (o ∷ os)) (taken_one guard o ns later)
taken_one_splits u (Some f) o ns os later on =
    bound (Splits u (o ∷ os)) (later ns) _ (λ k is.
    let rest = held_by (Splits u os) (later ns) k (on ns) is in
    let one = often-append u (token_list o) (flat_map token_list os) in
    let two = often-append u (token_list o) (flat_map token_list k.owned) in
    omega (arith, rest, one, two))
taken_one_splits u None (Some t) (n ∷ ns) os later on =
    bound (Splits u (Some t ∷ os)) (later ns) _ (λ k is.
    let rest = held_by (Splits u os) (later ns) k (on ns) is in
    let one = one_count u t (flat_map token_list os) in
    let two = one_count u t (tokens_in k.held) in
    omega (arith, rest, one, two))
taken_one_splits u None (Some t) [] os later on = tt
taken_one_splits u None None ns os later on = tt

taken_splits : (u : Token) (cs : List ClauseTree) (os : List (Option Token)) (ns : List ℕ)
    → Holds (Splits u os) (taken_out cs os ns)
taken_splits u [] os ns = omega arith
taken_splits u (c ∷ cs) [] ns = tt
taken_splits u (c ∷ cs) (o ∷ os) ns =
    taken_one_splits u c.guard o ns os (taken_out cs os) (λ ms. taken_splits u cs os ms)

-- what goes back and what is left are the hand
abbrev PutsAll : Token → List Held → Put → Type 0
PutsAll u hand k = in_hand u hand ≡ in_places u k.tokens + in_hand u k.left

put_all : (u : Token) (ds : List CodeDecl) (v : Sight) (cs : List ClauseTree) (es : List (Option Tok))
    (hand : List Held)
    → Holds (PutsAll u hand) (put_back ds v cs es hand)
put_all u ds v [] [] hand = omega arith
put_all u ds v [] (e ∷ es) hand = tt
put_all u ds v (c ∷ cs) [] hand = tt
put_all u ds v (c ∷ cs) (None ∷ es) hand =
    bound (PutsAll u hand) (found (guard_truth v c.guard)) _ (λ holds is.
    tested (PutsAll u hand) _ _ (bound (PutsAll u hand) (put_back ds v cs es hand) _ (λ k goes.
    held_by (PutsAll u hand) (put_back ds v cs es hand) k (put_all u ds v cs es hand) goes)))
put_all u ds v (c ∷ cs) (Some e ∷ es) hand =
    let n : ℕ = token_number ds e in
    bound (PutsAll u hand) (found (held_as n hand)) _ (λ t has.
    bound (PutsAll u hand) (found (guard_truth v c.guard)) _ (λ holds is.
    tested (PutsAll u hand) _ _ (bound (PutsAll u hand) (put_back ds v cs es (dropped n hand)) _ (λ k goes.
    let rest = held_by (PutsAll u (dropped n hand)) (put_back ds v cs es (dropped n hand)) k
    (put_all u ds v cs es (dropped n hand)) goes in
    let out = dropped_count u n hand t (found_is (held_as n hand) t has) in
    let one = one_count u t (flat_map token_list k.tokens) in
    omega (arith, rest, out, one)))))

-- ---- keeps

abbrev PartsAll : Token → List Held → Parted → Type 0
PartsAll u hand p = in_hand u hand ≡ in_hand u p.kept + in_hand u p.left

lines_part : (u : Token) (v : Sight) (ls : List KeepLineTree) (hand : List Held)
    → Holds (PartsAll u hand) (keep_lines v ls hand)
lines_part u v [] hand = omega arith
lines_part u v (l ∷ ls) hand =
    bound (PartsAll u hand) (found (held_as l.name hand)) _ (λ t has.
    tested (PartsAll u hand) _ _ (bound (PartsAll u hand) (keep_lines v ls (dropped l.name hand)) _ (λ p goes.
    let rest = held_by (PartsAll u (dropped l.name hand)) (keep_lines v ls (dropped l.name hand)) p
    (lines_part u v ls (dropped l.name hand)) goes in
    let out = dropped_count u l.name hand t (found_is (held_as l.name hand) t has) in
    let one = one_count u t (tokens_in p.kept) in
    omega (arith, rest, out, one))))

abbrev ArrivesWith : Token → List Held → Arrival → Type 0
ArrivesWith u hand a = in_hand u hand ≡ in_hand u a.kept + in_hand u a.left

arrives_with : (u : Token) (fits : ℤ → Bool) (x : MachineWithProgram) (s : World) (t : ℕ) (k : KeepTree)
    (args : List Tree) (wrap : ℤ) → Holds (ArrivesWith u (hand_of s.shares t)) (arrived fits x s t k args wrap)
arrives_with u fits x s t k args wrap =
    bound (ArrivesWith u (hand_of s.shares t))
    (term_values fits (sight_of (fields_of x) s.memory s.shares t nowhere_near) args)
    _ (λ ns is.
    let v : Sight = keep_sight (fields_of x) s t (given_to k.names ns) wrap in
    bound (ArrivesWith u (hand_of s.shares t)) (keep_lines v k.lines (hand_of s.shares t)) _ (λ p goes.
    tested (ArrivesWith u (hand_of s.shares t)) (keep_facts_hold v k.facts)
    (Ok (record { kept = p.kept; left = p.left; own = given_to k.names ns }))
    (held_by (PartsAll u (hand_of s.shares t)) (keep_lines v k.lines (hand_of s.shares t)) p
    (lines_part u v k.lines (hand_of s.shares t)) goes)))

-- what is left of a hand is dropped
keeping_count : (u : Token) (g : Shares) (t : ℕ) (kept left : List Held) (proofs : ℕ → Option ℤ) → t < length g.hands
    → in_hand u (hand_of g t) ≡ in_hand u kept + in_hand u left
    → in_all u (keeping t kept left proofs g) ≡ in_all u g
keeping_count u g t kept left proofs less all =
    let dusty : Shares = record g { dust = g.dust ++ tokens_in left } in
    let one = dust_count u g (g.dust ++ tokens_in left) g.dust refl (in_hand u left)
    (often-append u g.dust (tokens_in left)) in
    let two = hand_count u dusty t kept less in
    omega (arith, all, one, two)

-- ---- statements

abbrev Same : Token → Shares → Shares → Type 0
Same u g h = in_all u h ≡ in_all u g

opened_stays : (u : Token) (x : MachineWithProgram) (t i : ℕ) (names tokens : List ℕ) (g : Shares) → t < length g.hands
    → Holds (Same u g) (word_opened x t i names tokens g)
opened_stays u x t i names tokens g less =
    bound (Same u g) (found (slice_get (array_words x.program.decls) i)) _ (λ p is.
    bound (Same u g) (found (slice_get g.owned i)) _ (λ o has.
    tested (Same u g) _ _ (bound (Same u g) (taken_out p.word.clauses o.tokens tokens) _ (λ k goes.
    let parts = held_by (Splits u o.tokens) (taken_out p.word.clauses o.tokens tokens) k
    (taken_splits u p.word.clauses o.tokens tokens) goes in
    let next : Shares = with_proofs t (overlaid (given_to names o.values) (proofs_of g t)) (handed_to t k.held g) in
    let one = handed_count u g t k.held less in
    let two = owned_count u next i o (record { tokens = k.owned; values = o.values })
    (found_is (slice_get g.owned i) o has) in
    omega (arith, parts, one, two)))))

case_stays : (u : Token) (t i : ℕ) (o : Owned) (n : ℕ) (holds : Bool) (taken : Option ℕ) (token : Option Token)
    (g : Shares)
    → t < length g.hands → slice_get g.owned i ≡ Some o → slice_get o.tokens n ≡ Some token
    → Holds (Same u g) (case_taken t i o n holds taken token g)
case_stays u t i o n holds (Some p) (Some token) g less has there =
    let own : List Held = record { name = p; token = token } ∷ [] in
    tested (Same u g) _ (Ok (with_owned i (record o { tokens = slice_set o.tokens n None }) (handed_to t own g))) (
    let one = handed_count u g t own less in
    let two = owned_count u (handed_to t own g) i o (record o { tokens = slice_set o.tokens n None }) has in
    let place = place_count u o.tokens n token_list (Some token) None there in
    omega (arith, one, two, place))
case_stays u t i o n holds (Some p) None g less has there = tt
case_stays u t i o n holds None token g less has there = tested (Same u g) (not holds && is_none token) (Ok g) refl

decided_stays : (u : Token) (x : MachineWithProgram) (t : ℕ) (b : OpenBlock) (n : ℕ) (taken : Option ℕ)
    (scripts : List ScriptTree) (g : Shares) → t < length g.hands
    → Holds (Same u g) (decided_case x t b (record { clause = n; taken = taken; scripts = scripts }) g)
decided_stays u x t b zero taken scripts g less = tt
decided_stays u x t b (suc n) taken scripts g less =
    bound (Same u g) (found (slice_get (array_words x.program.decls) b.number)) _ (λ p is.
    bound (Same u g) (found (slice_get g.owned b.number)) _ (λ o has.
    bound (Same u g) (found (slice_get p.word.clauses n)) _ (λ c clause.
    bound (Same u g) (found (slice_get o.tokens n)) _ (λ token there.
    tested (Same u g) _ _ (bound (Same u g)
    (found (guard_truth (word_sight (fields_of x) g.kept p b.around.old o.values) c.guard)) _ (λ holds truth.
    case_stays u t b.number o n holds taken token g less (found_is (slice_get g.owned b.number) o has)
    (found_is (slice_get o.tokens n) token there)))))))

-- where one list is as long as another
there_too : {X Y : Type 0} (xs : List X) (ys : List Y) (i : ℕ) (y : Y) → slice_get ys i ≡ Some y → length xs ≡ length ys
    → (x : X) × (slice_get xs i ≡ Some x)
there_too xs [] i y is same = absurd (cc)
there_too [] (z ∷ ys) i y is same = absurd (omega (arith, same))
there_too (x ∷ xs) (z ∷ ys) zero y is same = (x, refl)
there_too (x ∷ xs) (z ∷ ys) (suc i) y is same = there_too xs ys i y is (omega (arith, same))

closed_stays : (u : Token) (fits : ℤ → Bool) (x : MachineWithProgram) (t : ℕ) (v : Sight) (i : ℕ) (value : ℤ)
    (form : ClosingTree) (g : Shares) → t < length g.hands → length g.owned ≡ length (array_words x.program.decls)
    → Holds (Same u g) (word_closed fits x t v i value form g)
closed_stays u fits x t v i value form g less many =
    bound (Same u g) (found (slice_get (array_words x.program.decls) i)) _ (λ p is.
    bound (Same u g) (term_values fits v form.args) _ (λ ns values.
    let w : Sight = word_sight (fields_of x) g.kept p value ns in
    bound (Same u g) (put_back (decls_of x) w p.word.clauses form.tokens (hand_of g t)) _ (λ k goes.
    tested (Same u g) _
    (Ok (with_owned_anew i (record { tokens = k.tokens; values = ns }) (with_hand t k.left g))) (
    let parts = held_by (PutsAll u (hand_of g t)) (put_back (decls_of x) w p.word.clauses form.tokens (hand_of g t)) k
    (put_all u (decls_of x) w p.word.clauses form.tokens (hand_of g t)) goes in
    let had = there_too g.owned (array_words x.program.decls) i p (found_is _ p is) many in
    let one = hand_count u g t k.left less in
    let two = anew_count u (with_hand t k.left g) i had.0 (record { tokens = k.tokens; values = ns }) had.1 in
    omega (arith, parts, one, two)))))

length_set : {X : Type 0} (xs : List X) (i : ℕ) (x : X) → length (slice_set xs i x) ≡ length xs
length_set [] i x = refl
length_set (y ∷ xs) zero x = refl
length_set (y ∷ xs) (suc i) x = ap suc (length_set xs i x)

given_stays : (u : Token) (fits : ℤ → Bool) (x : MachineWithProgram) (t : ℕ) (m : Memory) (thread : ℕ)
    (args : List Tree)
    (g : Shares) → t < length g.hands → length g.hands ≡ suc (length x.program.threads)
    → Holds (Same u g) (found (thread_named thread x.program.threads) >>= (λ w. found (slice_get x.program.threads w)
    >>= (λ (taker : ThreadTree).
    arrived fits x (record { memory = m; shares = g }) t taker.takes args (pos 0) >>= (λ (a : Arrival).
    Ok (with_proofs w a.own (handed_to w a.kept (with_hand t a.left g)))))))
given_stays u fits x t m thread args g less many =
    bound (Same u g) (found (thread_named thread x.program.threads)) _ (λ w is.
    bound (Same u g) (found (slice_get x.program.threads w)) _ (λ taker takes.
    let here : World = record { memory = m; shares = g } in
    bound (Same u g) (arrived fits x here t taker.takes args (pos 0)) _ (λ a goes.
    let parts = held_by (ArrivesWith u (hand_of g t)) (arrived fits x here t taker.takes args (pos 0)) a
    (arrives_with u fits x here t taker.takes args (pos 0)) goes in
    let below : w < length x.program.threads = got_below x.program.threads w taker (found_is _ taker takes) in
    let same = length_set g.hands t a.left in
    let one = hand_count u g t a.left less in
    let two = handed_count u (with_hand t a.left g) w a.kept (omega (arith, below, same, many)) in
    omega (arith, parts, one, two))))

no_pass : {A : Type 0} → false ≡ true → A
no_pass is = absurd (cc)

statement_stays : (u : Token) (fits : ℤ → Bool) (x : MachineWithProgram) (t : ℕ) (site : Site) (m : Memory)
    (p : ProofTree)
    (g : Shares) → t < length g.hands → HasPlaces x g → passes_on p ≡ true
    → Holds (Same u g) (proof_step fits x t site m p g)
statement_stays u fits x t site m (Exchange form) g less places is = no_pass is
statement_stays u fits x t site m (Split n one two amount scripts) g less places is = no_pass is
statement_stays u fits x t site m (Merge one two into) g less places is = no_pass is
statement_stays u fits x t site m (Copy n new) g less places is = no_pass is
statement_stays u fits x t site m (Let n term) g less places is =
    bound (Same u g) (term_value fits (sight_of (fields_of x) m g t (around_of site)) term) _ (λ i value. refl)
statement_stays u fits x t site m (Move tok new) g less places is =
    let n : ℕ = token_number (decls_of x) tok in
    bound (Same u g) (found (held_as n (hand_of g t))) _ (λ token has.
    tested (Same u g) _ (Ok (with_hand t (replaced n (held new token token.value) (hand_of g t)) g)) (
    let one = hand_count u g t (replaced n (held new token token.value) (hand_of g t)) less in
    let two = renamed_count u n new (hand_of g t) token (found_is _ token has) in
    omega (arith, one, two)))
statement_stays u fits x t site m (Assert form label scripts) g less places is =
    tested (Same u g) (is_true (sight_of (fields_of x) m g t (around_of site)) form) (Ok g) refl
statement_stays u fits x t site m (Open names tokens label) g less places is =
    bound (Same u g) (block_at site) _ (λ b inside. opened_stays u x t b.number names tokens g less)
statement_stays u fits x t site m (Case form) g less places is =
    bound (Same u g) (block_at site) _ (λ b inside. decided_stays u x t b form.clause form.taken form.scripts g less)
statement_stays u fits x t site m (Close form) g less places is =
    bound (Same u g) (block_at site) _ (λ b inside. tested (Same u g) _ _
    (closed_stays u fits x t (sight_of (fields_of x) m g t (around_of site)) b.number b.around.new form g less
    places.owned))
statement_stays u fits x t site m (Still scripts) g less places is =
    bound (Same u g) (block_at site) _ (λ b inside. tested (Same u g) (may_stay x b) (Ok g) refl)
statement_stays u fits x t site m (Seal word i form) g less places is =
    tested (Same u g) _ _ (bound (Same u g) (number_in (words_named word (decls_of x)) i) _ (λ n inside.
    closed_stays u fits x t (sight_of (fields_of x) m g t (around_of site)) n (pos (word_at m n)) form g less
    places.owned))
statement_stays u fits x t site m (Give thread args scripts) g less places is =
    tested (Same u g) _ _ (given_stays u fits x t m thread args g less places.hands)

-- ---- the law

keeps : (g : Shares) (r : Result Shares Halt) → ((u : Token) → Holds (Same u g) r) → KeepsTokens g r
keeps g (Ok h) all = all
keeps g (Err h) all = tt

keeps_of : (s : World) (r : Result World Halt)
    → ((u : Token) → Holds (λ (z : World). Same u s.shares z.shares) r) → KeepsTokensOf s r
keeps_of s (Ok z) all = all
keeps_of s (Err h) all = tt

keep_stays : (u : Token) (fits : ℤ → Bool) (x : MachineWithProgram) (t : ℕ) (k : KeepTree) (j : JumpTree) (wrap : ℤ)
    (s : World) → t < length s.shares.hands
    → Holds (λ (z : World). Same u s.shares z.shares) (keep_step fits x t k j wrap s)
keep_stays u fits x t k j wrap s less =
    bound (λ (z : World). Same u s.shares z.shares) (arrived fits x s t k j.args wrap) _ (λ a goes.
    keeping_count u s.shares t a.kept a.left (overlaid a.own (proofs_of s.shares t)) less
    (held_by (ArrivesWith u (hand_of s.shares t)) (arrived fits x s t k j.args wrap) a
    (arrives_with u fits x s t k j.args wrap) goes))

end_stays : (u : Token) (fits : ℤ → Bool) (x : MachineWithProgram) (t : ℕ) (j : JumpTree) (s : World)
    → t < length s.shares.hands → Holds (λ (z : World). Same u s.shares z.shares) (end_step fits x t j s)
end_stays u fits x t j s less =
    bound (λ (z : World). Same u s.shares z.shares) (found (slice_get x.program.threads t)) _ (λ thread is.
    bound (λ (z : World). Same u s.shares z.shares) (arrived fits x s t thread.ends j.args (pos 0)) _ (λ a goes.
    keeping_count u s.shares t a.kept a.left a.own less
    (held_by (ArrivesWith u (hand_of s.shares t)) (arrived fits x s t thread.ends j.args (pos 0)) a
    (arrives_with u fits x s t thread.ends j.args (pos 0)) goes)))

pub no_token_is_lost : NoTokenIsLost
no_token_is_lost fits x t within = record {
  statement = λ site m p g places is. keeps g (proof_step fits x t site m p g)
      (λ u. statement_stays u fits x t site m p g (room g places) places is);
  keep = λ k j wrap s places. keeps_of s (keep_step fits x t k j wrap s)
      (λ u. keep_stays u fits x t k j wrap s (room s.shares places));
  end = λ j s places. keeps_of s (end_step fits x t j s) (λ u. end_stays u fits x t j s (room s.shares places));
} where
  room : (g : Shares) → HasPlaces x g → t < length g.hands
  room g places = let many = places.hands in omega (arith, within, many)
