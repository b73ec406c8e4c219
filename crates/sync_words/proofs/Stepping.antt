-- What each step owes to the table, and what it tells.
use Rattle.std.proofs.Common.{◌≡◌, ℕ, ◌+◌, ◌-◌, ◌%◌, ◌^◌, ◌<◌, ◌≤◌, Bool, true, false, cond, not, eqb, ltb, leb, List, [], ◌∷◌, ◌++◌, length, get_or, sym, refl, ap, ◌∙◌, subst, ⊎_elim, arith}
use mathlib.Core.Option.{some}
use lib.ListN.{get_elem?}
use lib.Seq.{set-get_or}
use prog.Atomic.{either}
use Rattle.std.proofs.lemmas.Bool.{eq-eqb, cases_lt, lt-ltb, le-ltb, lt-leb, le-leb}
use Rattle.atomic_table.specs.Table.{State, Me, stepped, keeps, Allows, Splits, Joins}
use Rattle.atomic_table.proofs.Lists.{set_else, set_again}
use Rattle.sync_words.specs.declared.entries.Entry.{Entry}
use Rattle.sync_words.specs.declared.entries.Operation.{Operation}
use Rattle.sync_words.specs.declared.entries.Operation.TheVariants.{Load, Store, Swap, Add, Sub, Cas}
use Rattle.sync_words.specs.declared.rule.View.{View}
use Rattle.sync_words.specs.Entries.{entry, agrees, changed, has}
use Rattle.sync_words.specs.Views.{added, below, from, merged, spent, HoldsAll, IsWhole}
use Rattle.sync_words.specs.Rule.{Kept, IsSeated, Makes, Finds, Learns}
use Rattle.sync_words.proofs.Lists.{length-words_after, words_after-append}
use Rattle.sync_words.proofs.Fitting.{adds_to_log, whole, list_of, reads_back}
use Rattle.sync_words.proofs.Keeping.{set_there, enters, splits, joins}

-- what a step tells that enters e into the log
tells : (s : State ℕ View) (id : ℕ) (m : Me ℕ View) (e : Entry) (n : ℕ) (k : Kept m.0.words m.0.threads s) → get_elem? s.views id ≡ some m.0 → has m.0.numbers e.thread ≡ true → e.word < length s.words
    → agrees (get_or s.words e.word 0) e.operation ≡ true → changed (get_or s.words e.word 0) e.operation ≡ n → Makes e m (added m.0 e, m.1)
unfolding enters
tells s id m e n k at own inside found becomes =
    let v : View = m.0 in
    let w : View = added v e in
    let after = enters v.words v.threads s k id v e m.1 n at own inside found becomes in
    let here = set_there s.views id v w at in
    record {
      view = refl;
      slots = refl;
      ends = (k.entries, list_of (k.entries ++ e ∷ []) w after.legal (after.fits id w here) after.known);
      stands = record {
        state = stepped s e.word n id m.1 w keeps;
        rule = after;
        seat = (id, here);
        before = k.entries;
        last = refl;
        found = subst (λ (ws : List ℕ). agrees (get_or ws e.word 0) e.operation ≡ true) (sym k.leaves) found;
        leaves = sym after.leaves ∙ words_after-append v.words k.entries (e ∷ []);
      };
      logs = adds_to_log v e;
    }

-- a step that enters the entry of what it found
finds : (slots id : ℕ) (m : Me ℕ View) (t i : ℕ) (f : ℕ → ℕ) (operation : ℕ → Operation) → has m.0.numbers t ≡ true → i < length m.0.words → ((n : ℕ) → agrees n (operation n) ≡ true) → ((n : ℕ) → changed n (operation n) ≡ f n)
    → Allows (Kept m.0.words m.0.threads) slots id m i f (λ n w. Finds (entry t i (operation n)) n m w)
finds slots id m t i f operation own inside found becomes s k _ at _ =
    let n : ℕ = get_or s.words i 0 in
    let e : Entry = entry t i (operation n) in
    let same : length s.words ≡ length m.0.words = ap length (sym k.leaves) ∙ length-words_after m.0.words k.entries in
    let there : i < length s.words = omega arith in (
      added m.0 e,
      keeps,
      tt,
      enters m.0.words m.0.threads s k id m.0 e m.1 (f n) at own there (found n) (becomes n),
      record {
        makes = tells s id m e (f n) k at own there (found n) (becomes n);
        back = λ all x last. ap (λ (ws : List ℕ). get_or ws i 0) (sym k.leaves) ∙ reads_back k.entries m.0 i k.legal (k.fits id m.0 at) k.known all x last;
      },
    )

pub in_table : (count : ℕ) (first words : List ℕ) (i : ℕ) → count ≡ length first → words ≡ first → i < length words → i < count
in_table count first words i counts is inside = let same : length words ≡ length first = ap length is in omega arith

-- The steps of thread t, which a clause names by `number`
module _ (first : List ℕ) (threads slots id : ℕ) (m : Me ℕ View) (t number i : ℕ) (named : t ≡ number) (words : m.0.words ≡ first) (bound : m.0.threads ≡ threads) (own : has m.0.numbers t ≡ true) (inside : i < length m.0.words) where
  -- the same at the table's own first words
  finds_at : (f : ℕ → ℕ) (operation : ℕ → Operation) → ((n : ℕ) → agrees n (operation n) ≡ true) → ((n : ℕ) → changed n (operation n) ≡ f n) → Allows (Kept first threads) slots id m i f (λ n w. Finds (entry number i (operation n)) n m w)
  finds_at f operation found becomes =
      let mine : has m.0.numbers number ≡ true = subst (λ (x : ℕ). has m.0.numbers x ≡ true) named own in
      subst (λ (p : List ℕ × ℕ). Allows (Kept p.0 p.1) slots id m i f (λ n w. Finds (entry number i (operation n)) n m w)) (λ j. (words j, bound j)) (finds slots id m number i f operation mine inside found becomes)

  equal : (n : ℕ) → eqb n n ≡ true
  equal n = eq-eqb n n refl

  pub loads : Allows (Kept first threads) slots id m i (λ n. n) (λ n w. Finds (entry number i (Load n)) n m w)
  loads = finds_at (λ n. n) Load equal (λ n. refl)

  pub stores : (new : ℕ) → Allows (Kept first threads) slots id m i (λ _. new) (λ _ w. Makes (entry number i (Store new)) m w)
  stores new s k count at small =
      let a = finds_at (λ _. new) (λ _. Store new) (λ n. refl) (λ n. refl) s k count at small in
      (a.0, a.1, a.2, a.3, a.4.makes)

  pub swaps : (new : ℕ) → Allows (Kept first threads) slots id m i (λ _. new) (λ n w. Finds (entry number i (Swap new n)) n m w)
  swaps new = finds_at (λ _. new) (λ n. Swap new n) equal (λ n. refl)

  pub adds : (k : ℕ) → Allows (Kept first threads) slots id m i (λ n. (n + k) % 2 ^ 64) (λ n w. Finds (entry number i (Add k n)) n m w)
  adds k = finds_at (λ n. (n + k) % 2 ^ 64) (λ n. Add k n) equal (λ n. refl)

  pub subs : (k : ℕ) → Allows (Kept first threads) slots id m i (λ n. (n + (2 ^ 64 - k)) % 2 ^ 64) (λ n w. Finds (entry number i (Sub k n)) n m w)
  subs k = finds_at (λ n. (n + (2 ^ 64 - k)) % 2 ^ 64) (λ n. Sub k n) equal (λ n. refl)

  either_is : (b : Bool) (x y : ℕ) → cond b x y ≡ either b x y
  either_is true x y = refl
  either_is false x y = refl

  pub exchanges : (old new : ℕ) → Allows (Kept first threads) slots id m i (λ n. either (eqb n old) new n) (λ n w. Finds (entry number i (Cas old new n)) n m w)
  exchanges old new = finds_at (λ n. either (eqb n old) new n) (λ n. Cas old new n) equal (λ n. either_is (eqb n old) new n)

-- a load that enters nothing, and learns that there is a list that has the seat
learns : (slots id : ℕ) (m : Me ℕ View) (i : ℕ) → Allows (Kept m.0.words m.0.threads) slots id m i (λ n. n) (λ n w. Learns m w)
unfolding IsSeated
learns slots id m i s k _ at _ =
    let same : Kept m.0.words m.0.threads (stepped s i (get_or s.words i 0) id m.1 m.0 keeps) =
    subst (λ (p : List ℕ × List View). Kept m.0.words m.0.threads record { words = p.0; homes = s.homes; views = p.1 }) (λ j. (sym (set-get_or s.words i 0) j, sym (set_again s.views id m.0 at) j)) k in
    (m.0, keeps, tt, same, record { view = refl; slots = refl; listed = (k.entries, list_of k.entries m.0 k.legal (k.fits id m.0 at) k.known); rests = (s, k, (id, at)) })

pub learns_at : (first : List ℕ) (threads slots id : ℕ) (m : Me ℕ View) (i : ℕ) → m.0.words ≡ first → m.0.threads ≡ threads → Allows (Kept first threads) slots id m i (λ n. n) (λ n w. Learns m w)
learns_at first threads slots id m i words bound = subst (λ (p : List ℕ × ℕ). Allows (Kept p.0 p.1) slots id m i (λ n. n) (λ n w. Learns m w)) (λ j. (words j, bound j)) (learns slots id m i)

pub test_apart : (at n : ℕ) → leb at n ≡ not (ltb n at)
test_apart at n = ⊎_elim (λ (l : n < at). lt-leb at n l ∙ sym (ap not (lt-ltb n at l))) (λ (l : at ≤ n). le-leb at n l ∙ sym (ap not (le-ltb n at l))) (cases_lt n at)

pub cuts : (first : List ℕ) (threads id at : ℕ) (v : View) → Splits (Kept first threads) id v (below at v) (from at v)
cuts first threads id at v s k there = splits first threads s k (λ n. ltb n at) (λ n. leb at n) (test_apart at) id v there

pub glues : (first : List ℕ) (threads id other : ℕ) (v w : View) → Joins (Kept first threads) id v other w (merged v w) spent
glues first threads id other v w s k at ne by = joins first threads s k id other v w at ne (sym (set_else s.views id other (merged v w) ne) ∙ by)

-- at the end a seat with all numbers has the whole list
pub ends_whole : (first : List ℕ) (threads id : ℕ) (v : View) (now : List ℕ) (s : State ℕ View) → Kept first threads s → get_elem? s.views id ≡ some v → s.words ≡ now → v.words ≡ first → v.threads ≡ threads → HoldsAll v → IsWhole v now
ends_whole first threads id v now s kept at is words bound all =
    let k : Kept v.words v.threads s = subst (λ (p : List ℕ × ℕ). Kept p.0 p.1 s) (λ j. (sym words j, sym bound j)) kept in
    (k.entries, list_of k.entries v k.legal (k.fits id v at) k.known, whole k.entries v k.known all, k.leaves ∙ is)
