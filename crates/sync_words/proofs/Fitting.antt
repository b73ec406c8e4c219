-- How a list of entries has a seat after an entry, a split and a merge.
use Rattle.std.proofs.Common.{◌≡◌, ℕ, ◌<◌, Bool, true, false, cond, ◌&&◌, ◌||◌, get_or, List, [], ◌∷◌, ◌++◌, length, filter, All, sym, refl, ap, ◌∙◌, subst, arith, append_assoc}
use Rattle.std.specs.Prelude.{unwrap_or}
use Rattle.std.proofs.lemmas.List.{append-nil}
use Rattle.std.proofs.lemmas.List.Elements.{All-weaker}
use mathlib.Core.Logic.{∥∥₁_elim}
use native.Mathlib.Nat.{ℕ_set}
use Rattle.sync_words.specs.declared.entries.Entry.{Entry}
use Rattle.sync_words.specs.declared.rule.View.{View}
use Rattle.sync_words.specs.Entries.{IsLegal, words_after, log_of, has, entries_of}
use Rattle.sync_words.specs.Views.{opened, made, log, added, part, merged, spent, HoldsAll, Fits, IsListOf, Listed, ReadsBack, AddsToLog}
use Rattle.sync_words.proofs.Lists.{words_after-append, value_after, legal_rest, log_of-append, has-append, has-filter, entries_of-append, log_of-kept, filter_all, filter_none}

-- a log is what the list has of a number of the seat, and empty for another number
pub log_is : (es : List Entry) (v : View) → Fits es v → (t : ℕ) → log v t ≡ cond (has v.numbers t) (log_of t es) []
log_is es v fits t =
    log_of-append t v.past v.since
    ∙ ap (λ l. l ++ log_of t v.since) (sym (fits.2 t))
    ∙ sym (log_of-append t fits.0 v.since)
    ∙ ap (log_of t) (sym fits.1)
    ∙ log_of-kept (has v.numbers) t es

-- a list has a seat with an empty `since` whose logs are what the list has of its numbers
fits_from : (es : List Entry) (v : View) → v.since ≡ [] → ((t : ℕ) → log_of t v.past ≡ cond (has v.numbers t) (log_of t es) []) → Fits es v
fits_from es v empty are =
    (entries_of v.numbers es, sym (append-nil (entries_of v.numbers es)) ∙ ap (λ l. entries_of v.numbers es ++ l) (sym empty), λ t. log_of-kept (has v.numbers) t es ∙ sym (are t))

pub fits_opened : (words : List ℕ) (threads : ℕ) → Fits [] (opened words threads)
fits_opened words threads = ([], refl, λ t. refl)

pub fits_spent : (es : List Entry) → Fits es spent
fits_spent es = ([], filter_none (λ e. has [] e.thread) es (λ e. refl), λ t. refl)

both_tests : (a b : Bool) (l : List Entry) → cond a (cond b l []) [] ≡ cond (a && b) l []
both_tests true b l = refl
both_tests false b l = refl

pub fits_part : (test : ℕ → Bool) (es : List Entry) (v : View) → Fits es v → Fits es (part test v)
fits_part test es v fits =
    fits_from es (part test v) refl
    (λ t. log_of-kept test t (made v) ∙ ap (λ l. cond (test t) l []) (log_is es v fits t) ∙ both_tests (test t) (has v.numbers t) (log_of t es) ∙ ap (λ b. cond b (log_of t es) []) (sym (has-filter test v.numbers t)))

either_test : (a b : Bool) (l : List Entry) → (a ≡ true → b ≡ true → ⊥) → cond a l [] ++ cond b l [] ≡ cond (a || b) l []
either_test true true l apart = absurd (apart refl refl)
either_test true false l apart = append-nil l
either_test false b l apart = refl

pub fits_merged : (es : List Entry) (v w : View) → Fits es v → Fits es w → ((t : ℕ) → has v.numbers t ≡ true → has w.numbers t ≡ true → ⊥) → Fits es (merged v w)
fits_merged es v w a b apart =
    fits_from es (merged v w) refl
    (λ t. log_of-append t (made v) (made w) ∙ ap (λ l. l ++ log w t) (log_is es v a t) ∙ ap (λ l. cond (has v.numbers t) (log_of t es) [] ++ l) (log_is es w b t)
    ∙ either_test (has v.numbers t) (has w.numbers t) (log_of t es) (apart t) ∙ ap (λ b. cond b (log_of t es) []) (sym (has-append v.numbers w.numbers t)))

-- the entry of a number that is not the seat's
pub fits_other : (es : List Entry) (e : Entry) (v : View) → has v.numbers e.thread ≡ false → Fits es v → Fits (es ++ e ∷ []) v
fits_other es e v none fits =
    (fits.0, entries_of-append v.numbers es (e ∷ []) ∙ ap (λ b. entries_of v.numbers es ++ cond b (e ∷ []) []) none ∙ append-nil (entries_of v.numbers es) ∙ fits.1, fits.2)

-- the entry of a number of the seat
pub fits_added : (es : List Entry) (e : Entry) (v : View) → has v.numbers e.thread ≡ true → Fits es v → Fits (es ++ e ∷ []) (added v e)
fits_added es e v own fits =
    (fits.0, entries_of-append v.numbers es (e ∷ []) ∙ ap (λ b. entries_of v.numbers es ++ cond b (e ∷ []) []) own ∙ ap (λ l. l ++ e ∷ []) fits.1 ∙ append_assoc fits.0 v.since (e ∷ []), fits.2)

pub adds_to_log : (v : View) (e : Entry) → AddsToLog v (added v e) e
adds_to_log v e t = ap (log_of t) (sym (append_assoc v.past v.since (e ∷ []))) ∙ log_of-append t (made v) (e ∷ [])

-- where the seat has all numbers, a list with entries of the table's numbers alone has no others
pub whole : (es : List Entry) (v : View) → All (λ e. e.thread < v.threads) es → HoldsAll v → entries_of v.numbers es ≡ es
whole es v known all = filter_all (λ e. has v.numbers e.thread) es (All-weaker (λ e. e.thread < v.threads) (λ e. has v.numbers e.thread ≡ true) (λ e l. all e.thread l) es known)

pub list_of : (es : List Entry) (v : View) → IsLegal v.words es → Fits es v → All (λ e. e.thread < v.threads) es → IsListOf es v
list_of es v legal fits known = record { legal = legal; fits = fits; known = known; alone = λ all. whole es v known all }

-- the older entries come first, so the last entry of `since` on a word is the last of all
pub reads_back : (es : List Entry) (v : View) (word : ℕ) → IsLegal v.words es → Fits es v → All (λ e. e.thread < v.threads) es → ReadsBack v word (get_or (words_after v.words es) word 0)
reads_back es v word legal fits known all n last =
    let is : es ≡ fits.0 ++ v.since = sym (whole es v known all) ∙ fits.1 in
    let split : IsLegal v.words (fits.0 ++ v.since) = subst (IsLegal v.words) is legal in
    ap (λ (l : List Entry). get_or (words_after v.words l) word 0) is
    ∙ ap (λ (ws : List ℕ). get_or ws word 0) (words_after-append v.words fits.0 v.since)
    ∙ value_after (words_after v.words fits.0) v.since word (legal_rest v.words fits.0 v.since split)
    ∙ ap (λ o. unwrap_or o (get_or (words_after v.words fits.0) word 0)) last

-- a part of a view has the logs of its numbers
pub log_part : (test : ℕ → Bool) (v : View) (t : ℕ) → test t ≡ true → log (part test v) t ≡ log v t
log_part test v t own = ap (log_of t) (append-nil (filter (λ e. test e.thread) (made v))) ∙ log_of-kept test t (made v) ∙ ap (λ b. cond b (log v t) []) own

empty : (l : List Entry) → length l ≡ 0 → l ≡ []
empty [] e = refl
empty (x ∷ xs) e = absurd (omega arith)

-- a seat has no entries of another's number
pub no_log : (v : View) → ∥ Listed v ∥₁ → (t : ℕ) → has v.numbers t ≡ false → log v t ≡ []
no_log v listed t none = empty (log v t) (∥∥₁_elim listed (ℕ_set _ _) (λ (x : Listed v). ap length (log_is x.0 v x.1.fits t ∙ ap (λ b. cond b (log_of t x.0) []) none)))

log_merged : (v w : View) (t : ℕ) → log (merged v w) t ≡ log v t ++ log w t
log_merged v w t = ap (log_of t) (append-nil (made v ++ made w)) ∙ log_of-append t (made v) (made w)

-- two views put together have the logs of both
pub log_merged_left : (v w : View) → ∥ Listed w ∥₁ → (t : ℕ) → has w.numbers t ≡ false → log (merged v w) t ≡ log v t
log_merged_left v w listed t none = log_merged v w t ∙ ap (λ l. log v t ++ l) (no_log w listed t none) ∙ append-nil (log v t)

pub log_merged_right : (v w : View) → ∥ Listed v ∥₁ → (t : ℕ) → has v.numbers t ≡ false → log (merged v w) t ≡ log w t
log_merged_right v w listed t none = log_merged v w t ∙ ap (λ l. l ++ log w t) (no_log v listed t none)
