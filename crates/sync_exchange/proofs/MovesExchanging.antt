-- An exchange leaves the names of its hand apart.
use Rattle.std.proofs.Common.{◌≡◌, ℕ, ◌+◌, ◌≤◌, ℤ, pos, Bool, List, [], ◌∷◌, ◌++◌, length, Option, Some, None, Ok, Err, refl, ap, subst, arith, cond, if◌then◌else◌}
use Rattle.std.proofs.lemmas.List.Sums.{sum_by-cons}
use Rattle.sync_base.specs.Outcome.{◌>>=◌}
use Rattle.sync_machine.specs.declared.fields.Field.{Field}
use Rattle.sync_base.specs.declared.strategies.Strategy.{Strategy}
use Rattle.sync_base.specs.declared.strategies.Strategy.TheVariants.{Variable, Constant, NotTokenized, Option as OptionField, Map, Set, Multiset, Count, PersistentOption, PersistentMap, PersistentSet, PersistentCount, StorageMap}
use Rattle.sync_machine.specs.Machines.{ActTree, StepTree, OperationTree}
use Rattle.sync_machine.specs.Machines as acts
use Rattle.sync_machine.specs.Statements.{binds}
use Rattle.sync_machine.specs.States.{Value, State, strategy_at}
use Rattle.sync_join.specs.declared.tokens.Token.{Token}
use Rattle.sync_join.specs.Shards.{Kept, perm}
use Rattle.sync_join.specs.Join.{number_of}
use Rattle.sync_rules.specs.declared.slots.Role.{Role}
use Rattle.sync_rules.specs.declared.slots.Role.TheVariants.{Change, Taken, Read, Given, In, Out, Seen}
use Rattle.sync_rules.specs.Slots.{SlotTree, has_amounts}
use Rattle.sync_exchange.specs.declared.hands.Held.{Held}
use Rattle.sync_exchange.specs.declared.hands.XStop.TheVariants.{Differs, RequireFalse, Width}
use Rattle.sync_exchange.specs.Exchange.{Exchanging, Exchanged, Answer, outcome, named, is_at_place, unless, token_name, next_name, after_reading, after_taking, after_seeing, after_giving, knowing, binding, recording, storing, revaluing, key_at, amount_at, permission, token_of, started, updated, new_value, use_variable, use_variables, variable_slots, beginning, does, does_all, exchange_in}
use Rattle.sync_exchange.specs.Projection.{names_new, AreNames}
use Rattle.sync_exchange.proofs.Tokens.{occurs, holds}
use Rattle.sync_exchange.proofs.Passing.{ok_is, bind-ok, unless-ok, either, asked-token, asked-object}
use Rattle.sync_exchange.proofs.Lawful.{gives}
use Rattle.sync_exchange.proofs.Standing.{few-held, once-without, once-revalued, once-given, later-length}
use Rattle.sync_exchange.proofs.Going.{total_gives}
use Rattle.sync_exchange.proofs.Owning.{new_slots, names-once, names-enough}
use Rattle.sync_exchange.specs.Moves.{IsApart}
use Rattle.sync_exchange.proofs.MovesSplitting.{once-apart}

-- No name stands twice among those in hand, those entered and those to be given, and of these there are as many as
-- are wanted.
pub record AreOnce (x : Exchanging) (wanted : ℕ) : Type 0 where
  pub once : (name : ℕ) → holds name (x.hand ++ x.entered) + occurs name x.given ≤ 1
  pub enough : wanted ≤ length x.given

none-wanted : (x : Exchanging) (n : ℕ) → AreOnce x (0 + n) → AreOnce x n
none-wanted x n h = record { once = h.once; enough = let e = h.enough in omega (arith, e) }

one-fewer : (x : Exchanging) (n : ℕ) → AreOnce x (1 + n) → AreOnce x n
one-fewer x n h = record { once = h.once; enough = let e = h.enough in omega (arith, e) }

-- ---- what each change leaves

giving-once : (t : Token) (x : Exchanging) (n : ℕ) → AreOnce x (1 + n) → AreOnce (after_giving t x) n
giving-once t x n h =
    let e = h.enough in
    record {
      once = once-given x.hand x.entered x.given t (omega (arith, e)) h.once;
      enough = let l = later-length x.given (omega (arith, e)) in omega (arith, e, l);
    }

taking-once : (x : Exchanging) (n : ℕ) → AreOnce x n → AreOnce (after_taking x) n
taking-once x n h = record { once = once-without (next_name x.tokens) x.hand x.entered x.given h.once; enough = h.enough }

reading-once : (x : Exchanging) (n : ℕ) → AreOnce x n → AreOnce (after_reading x) n
reading-once x n h = record { once = h.once; enough = h.enough }

seeing-once : (x : Exchanging) (n : ℕ) → AreOnce x n → AreOnce (after_seeing x) n
seeing-once x n h = record { once = h.once; enough = h.enough }

knowing-once : (f name : ℕ) (k : ℤ) (x : Exchanging) (n : ℕ) → AreOnce x n → AreOnce (knowing f name k x) n
knowing-once f name k x n h = record { once = h.once; enough = h.enough }

recording-once : (f : ℕ) (v : Value) (x : Exchanging) (n : ℕ) → AreOnce x n → AreOnce (recording f v x) n
recording-once f v x n h = record { once = h.once; enough = h.enough }

storing-once : (ts : List Token) (x : Exchanging) (n : ℕ) → AreOnce x n → AreOnce (storing ts x) n
storing-once ts x n h = record { once = h.once; enough = h.enough }

binding-once : (o : Option ℕ) (k : ℤ) (x : Exchanging) (n : ℕ) → AreOnce x n → AreOnce (binding o k x) n
binding-once None k x n h = h
binding-once (Some y) k x n h = record { once = h.once; enough = h.enough }

revaluing-once : (f : ℕ) (k : ℤ) (x : Exchanging) (n : ℕ) → AreOnce x n → AreOnce (revaluing f k x) n
revaluing-once f k x n h =
    either (token_name f x.variables) (AreOnce (revaluing f k x) n) (λ none. rw none h)
    (λ name some. rw some (record { once = once-revalued name k x.hand x.entered x.given h.once; enough = h.enough }))

started-once : (s : Strategy) (f : ℕ) (v : Value) (x : Exchanging) (n : ℕ) → AreOnce x ((if has_amounts s then 1 else 0) + n) → AreOnce (started s f v x) n
started-once Variable f v x n h = revaluing-once f (number_of v) x n (none-wanted x n h)
started-once Count f v x n h = giving-once _ x n h
started-once PersistentCount f v x n h = recording-once f v _ n (giving-once _ x n h)
started-once Constant f v x n h = recording-once f v x n (none-wanted x n h)
started-once NotTokenized f v x n h = recording-once f v x n (none-wanted x n h)
started-once PersistentOption f v x n h = recording-once f v x n (none-wanted x n h)
started-once PersistentMap f v x n h = recording-once f v x n (none-wanted x n h)
started-once PersistentSet f v x n h = recording-once f v x n (none-wanted x n h)
started-once OptionField f v x n h = none-wanted x n h
started-once Map f v x n h = none-wanted x n h
started-once Set f v x n h = none-wanted x n h
started-once Multiset f v x n h = none-wanted x n h
started-once StorageMap f v x n h = none-wanted x n h

updated-once : (s : Strategy) (f : ℕ) (v : Value) (x : Exchanging) (n : ℕ) → AreOnce x n → AreOnce (updated s f v x) n
updated-once Variable f v x n h = revaluing-once f (number_of v) x n h
updated-once NotTokenized f v x n h = recording-once f v x n h
updated-once Constant f v x n h = h
updated-once OptionField f v x n h = h
updated-once Map f v x n h = h
updated-once Set f v x n h = h
updated-once Multiset f v x n h = h
updated-once Count f v x n h = h
updated-once PersistentOption f v x n h = h
updated-once PersistentMap f v x n h = h
updated-once PersistentSet f v x n h = h
updated-once PersistentCount f v x n h = h
updated-once StorageMap f v x n h = h

-- ---- statements

-- what an answer is, has its names once
to-answer : (z y : Exchanging) (n : ℕ) → z ≡ y → AreOnce z n → AreOnce y n
to-answer z y n e h = subst (λ (w : Exchanging). AreOnce w n) e h

module _ (fit : ℤ → Bool) (fs : List Field) where
  does-once : (line : ℕ) (a : ActTree) (x y : Exchanging) (n : ℕ) → does fit fs (record { act = a; line = line }) x ≡ Ok y → AreOnce x (gives fs a + n) → AreOnce y n
  unfolding does gives
  does-once line (acts.Require form) x y n e h =
      let a = unless-ok Width _ _ y e in
      let b = unless-ok (RequireFalse line) _ _ y a.1 in
      to-answer x y n (ok_is x y b.1) (none-wanted x n h)
  does-once line (acts.Assert form) x y n e h = to-answer x y n (ok_is x y e) (none-wanted x n h)
  does-once line (acts.HaveVariable f) x y n e h = to-answer x y n (ok_is x y e) (none-wanted x n h)
  does-once line (acts.Init f t) x y n e h =
      let a = unless-ok Width _ _ y e in
      to-answer _ y n (ok_is _ y a.1) (started-once (strategy_at fs f) f (new_value fs f t x) x n h)
  does-once line (acts.Update f t) x y n e h =
      let a = unless-ok Width _ _ y e in
      to-answer _ y n (ok_is _ y a.1) (updated-once (strategy_at fs f) f (new_value fs f t x) x n (none-wanted x n h))
  does-once line (acts.Remove f p) x y n e h =
      let a = asked-token fit f p x _ y e in
      to-answer _ y n a.answer (binding-once (binds p) a.token.value (after_taking x) n (taking-once x n (none-wanted x n h)))
  does-once line (acts.Have f p) x y n e h =
      let a = asked-token fit f p x _ y e in
      to-answer _ y n a.answer (binding-once (binds p) a.token.value (after_reading x) n (reading-once x n (none-wanted x n h)))
  does-once line (acts.Add f p) x y n e h =
      let a = unless-ok Width _ _ y e in
      to-answer _ y n (ok_is _ y a.1) (recording-once f _ _ n (giving-once (token_of f (key_at p x) (amount_at p x)) x n h))
  does-once line (acts.Deposit f p) x y n e h =
      let a = asked-token fit perm p x _ y e in
      to-answer _ y n a.answer (storing-once _ (after_taking x) n (taking-once x n (none-wanted x n h)))
  does-once line (acts.Withdraw f p) x y n e h =
      let a = asked-object fit f p x _ y e in
      to-answer _ y n a.answer (binding-once (binds p) a.number _ n (storing-once _ (after_giving (permission (key_at p x) a.number) x) n (giving-once (permission (key_at p x) a.number) x n h)))
  does-once line (acts.Guard f p) x y n e h =
      let a = asked-object fit f p x _ y e in
      to-answer _ y n a.answer (binding-once (binds p) a.number (after_seeing x) n (seeing-once x n (none-wanted x n h)))

  does_all-once : (ss : List StepTree) (x y : Exchanging) → does_all fit fs ss x ≡ Ok y → AreOnce x (total_gives fs ss) → AreOnce y 0
  unfolding total_gives
  does_all-once [] x y e h = to-answer x y 0 (ok_is x y e) h
  does_all-once (s ∷ ss) x y e h =
      let a = bind-ok (does fit fs s x) (does_all fit fs ss) y e in
      does_all-once ss a.0 y a.2 (does-once s.line s.act x a.0 (total_gives fs ss) a.1 h)

-- ---- variables

-- a token of the hand is read
reads-once : (f : ℕ) (x y : Exchanging) (n : ℕ)
    → (named x >>= (λ (t : Token). unless (Differs x.slot) (is_at_place f (pos 0) t) (Ok (knowing f (next_name x.tokens) t.value (after_reading x))))) ≡ Ok y
    → AreOnce x n → AreOnce y n
reads-once f x y n e h =
    let a = bind-ok (named x) _ y e in
    let b = unless-ok (Differs x.slot) (is_at_place f (pos 0) a.0) _ y a.2 in
    to-answer _ y n (ok_is _ y b.1) (knowing-once f (next_name x.tokens) a.0.value (after_reading x) n (reading-once x n h))

variable-once : (f : ℕ) (role : Role) (x y : Exchanging) (n : ℕ) → use_variable f role x ≡ Ok y → AreOnce x (cond (names_new role) 1 0 + n) → AreOnce y n
variable-once f Given x y n e h = to-answer _ y n (ok_is _ y e) (knowing-once f (next_name x.given) (pos 0) _ n (giving-once _ x n h))
variable-once f Change x y n e h = reads-once f x y n e (none-wanted x n h)
variable-once f Taken x y n e h = reads-once f x y n e (none-wanted x n h)
variable-once f Read x y n e h = reads-once f x y n e (none-wanted x n h)
variable-once f In x y n e h = reads-once f x y n e (none-wanted x n h)
variable-once f Out x y n e h = reads-once f x y n e (one-fewer x n h)
variable-once f Seen x y n e h = reads-once f x y n e (none-wanted x n h)

same-wanted : (x : Exchanging) (n k : ℕ) → n ≡ k → AreOnce x n → AreOnce x k
same-wanted x n k e h = subst (AreOnce x) e h

more-wanted : (s : SlotTree) (ss : List SlotTree) (n : ℕ) → new_slots (s ∷ ss) + n ≡ cond (names_new s.role) 1 0 + (new_slots ss + n)
more-wanted s ss n = let e = sum_by-cons (λ (r : SlotTree). cond (names_new r.role) 1 0) s ss in omega (arith, e)

variables-once : (ss : List SlotTree) (x y : Exchanging) (n : ℕ) → use_variables ss x ≡ Ok y → AreOnce x (new_slots ss + n) → AreOnce y n
variables-once [] x y n e h = to-answer x y n (ok_is x y e) (none-wanted x n h)
variables-once (s ∷ ss) x y n e h =
    let a = bind-ok (use_variable s.field s.role x) (use_variables ss) y e in
    variables-once ss a.0 y n a.2
    (variable-once s.field s.role x a.0 (new_slots ss + n) a.1 (same-wanted x (new_slots (s ∷ ss) + n) _ (more-wanted s ss n) h))

-- ---- the whole

outcome-hand : (r : Answer) (x : Exchanged) → outcome r ≡ Ok x → (y : Exchanging) × (r ≡ Ok y) × (y.hand ++ y.entered ≡ x.hand)
outcome-hand (Err stop) x e = absurd (cc)
outcome-hand (Ok y) x e = (y, refl, ap (λ (w : Exchanged). w.hand) (ok_is (record { hand = y.hand ++ y.entered; kept = y.kept; bound = y.bound }) x e))

-- an exchange that does not fail leaves a hand with each name once
pub apart-exchange : (fit : ℤ → Bool) (fs : List Field) (o : OperationTree) (args : List ℤ) (tokens given : List ℕ) (whole : State) (hand : List Held) (kept : Kept) → AreNames fs o tokens given hand
    → (x : Exchanged) → exchange_in fit fs o args tokens given whole hand kept ≡ Ok x → IsApart x.hand
apart-exchange fit fs o args tokens given whole hand kept names x e =
    let start = beginning fs o args tokens given whole hand kept in
    let out = outcome-hand (use_variables (variable_slots fs o) start >>= does_all fit fs o.steps) x e in
    let a = bind-ok (use_variables (variable_slots fs o) start) (does_all fit fs o.steps) out.0 out.1 in
    let enough = names-enough fs o tokens given hand names in
    let first : AreOnce start (new_slots (variable_slots fs o) + total_gives fs o.steps) = record { once = names-once fs o tokens given hand names; enough = omega (arith, enough) } in
    let last = does_all-once fit fs o.steps a.0 out.0 a.2 (variables-once (variable_slots fs o) start a.0 (total_gives fs o.steps) a.1 first) in
    subst IsApart out.2 (once-apart (out.0.hand ++ out.0.entered) (λ name. few-held name (out.0.hand ++ out.0.entered) out.0.given (last.once name)))
