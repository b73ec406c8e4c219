-- What the rules say of a statement by itself, and which symbols it reads.
use Rattle.std.proofs.Common.{◌≡◌, ℕ, ◌<◌, ℤ, pos, Bool, true, List, length, Option, Some, None, refl, sym, ◌∙◌, if◌then◌else◌}
use Rattle.sync_terms.specs.Trees.{Tree}
use Rattle.sync_terms.specs.Values.{Valuation, num}
use Rattle.sync_machine.specs.declared.fields.Field.{Field}
use Rattle.sync_machine.specs.Machines.{PatternTree, Bind, Term, PlaceTree, ActTree, StepTree}
use Rattle.sync_machine.specs.Machines as acts
use Rattle.sync_machine.specs.Statements.{field_of, key_of, value_of, or_zero, or_one, binds, bound_in}
use Rattle.sync_machine.specs.States.{strategy_of, strategy_at}
use Rattle.sync_rules.specs.Strategies.{kind_of, HasKind}
use Rattle.sync_rules.specs.Shapes.{fits}
use Rattle.sync_rules.specs.Locality.{names_only, form_names_only, key_names_only, pattern_names_only, place_names_only}
use Rattle.sync_rules.specs.Slots.{has_amounts}
use Rattle.sync_join.proofs.Maps.{equal}
use Rattle.sync_exchange.specs.Exchange.{Exchanging, key_at, amount_at, is_asked}
use Rattle.sync_exchange.proofs.Terms.{Same, num-same, and_left, and_right}

-- the symbols that an exchange reads at a statement pass a test
unfoldable pub reads_only : (ℕ → Bool) → ActTree → Bool
reads_only q (acts.Init f t) = names_only q t
reads_only q (acts.Require form) = form_names_only q form
reads_only q (acts.Assert form) = true
reads_only q (acts.Update f t) = names_only q t
reads_only q (acts.HaveVariable f) = true
reads_only q (acts.Add f p) = place_names_only q p
reads_only q (acts.Remove f p) = place_names_only q p
reads_only q (acts.Have f p) = place_names_only q p
reads_only q (acts.Deposit f p) = place_names_only q p
reads_only q (acts.Withdraw f p) = place_names_only q p
reads_only q (acts.Guard f p) = place_names_only q p

pub record IsLawful (fs : List Field) (q : ℕ → Bool) (a : ActTree) : Type 0 where
  pub allowed : HasKind (strategy_of fs a) (kind_of a)
  pub fit : fits (strategy_of fs a) a ≡ true
  pub inside : (f : ℕ) → field_of a ≡ Some f → f < length fs
  pub reads : reads_only q a ≡ true

-- how many new names a statement uses
unfoldable pub gives : List Field → ActTree → ℕ
gives fs (acts.Init f t) = if has_amounts (strategy_at fs f) then 1 else 0
gives fs (acts.Require form) = 0
gives fs (acts.Assert form) = 0
gives fs (acts.Update f t) = 0
gives fs (acts.HaveVariable f) = 0
gives fs (acts.Add f p) = 1
gives fs (acts.Remove f p) = 0
gives fs (acts.Have f p) = 0
gives fs (acts.Deposit f p) = 0
gives fs (acts.Withdraw f p) = 1
gives fs (acts.Guard f p) = 0

-- ---- places under two valuations

key-same : (q : ℕ → Bool) (v w : Valuation) (o : Option Tree) → Same q v w → key_names_only q o ≡ true → num v (or_zero o) ≡ num w (or_zero o)
key-same q v w None s e = refl
key-same q v w (Some t) s e = num-same q v w s t e

pub place-key : (q : ℕ → Bool) (v : Valuation) (p : PlaceTree) (x : Exchanging) → Same q x.names v → place_names_only q p ≡ true → key_at p x ≡ num v (key_of p)
place-key q v p x s e = key-same q x.names v p.key s (and_left _ _ e)

asked-cases : (q : ℕ → Bool) (v : Valuation) (key : Option Tree) (o : Option PatternTree) (n : ℤ) (x : Exchanging) → Same q x.names v → pattern_names_only q o ≡ true
    → is_asked (record { key = key; value = o }) n x ≡ true → ((z : ℕ) → bound_in o ≡ Some z → n ≡ v.number z) → n ≡ num v (or_one o)
asked-cases q v key None n x s e is bound = sym (equal (pos 1) n is)
asked-cases q v key (Some (Bind z)) n x s e is bound = bound z refl
asked-cases q v key (Some (Term t)) n x s e is bound = sym (equal (num x.names t) n is) ∙ num-same q x.names v s t e

-- the value that is found is the place's
pub place-asked : (q : ℕ → Bool) (v : Valuation) (p : PlaceTree) (n : ℤ) (x : Exchanging) → Same q x.names v → place_names_only q p ≡ true
    → is_asked p n x ≡ true → ((z : ℕ) → binds p ≡ Some z → n ≡ v.number z) → n ≡ num v (value_of p)
place-asked q v p n x s e is bound = asked-cases q v p.key p.value n x s (and_right (key_names_only q p.key) _ e) is bound

new-cases : (q : ℕ → Bool) (v w : Valuation) (o : Option PatternTree) → Same q v w → pattern_names_only q o ≡ true → bound_in o ≡ None → num v (or_one o) ≡ num w (or_one o)
new-cases q v w None s e b = refl
new-cases q v w (Some (Bind z)) s e b = absurd (cc)
new-cases q v w (Some (Term t)) s e b = num-same q v w s t e

-- the value of a new place
pub place-amount : (q : ℕ → Bool) (v : Valuation) (p : PlaceTree) (x : Exchanging) → Same q x.names v → place_names_only q p ≡ true → binds p ≡ None → amount_at p x ≡ num v (value_of p)
place-amount q v p x s e b = new-cases q x.names v p.value s (and_right (key_names_only q p.key) _ e) b
