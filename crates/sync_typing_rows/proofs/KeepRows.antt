-- The rows on keeps, put together: jumps and loops.
use Rattle.std.specs.List.{AllByRecursion, list_all}
use Rattle.std.proofs.lemmas.Bool.{and_parts}
use Rattle.std.proofs.lemmas.List.Folds.{list_all-append}
use Rattle.std.specs.Prelude.{◌≡◌, ℕ, ℤ, Bool, true, not, ◌&&◌, List, [], ◌∷◌, ◌++◌, map, Some, None, Ok, Err, Result}
use Rattle.sync_machine.specs.Naming.{is_in}
use Rattle.sync_terms.specs.Values.{num}
use Rattle.sync_thread.specs.Control.{Halt}
use Rattle.sync_thread.specs.Resting.{Advances, PassesUnless, Round, turn, Turn}
use Rattle.sync_thread_machine.specs.MachineWithProgram.{MachineWithProgram}
use Rattle.sync_thread_meaning.specs.Meaning.{World, annotated_language, keep_step}
use Rattle.sync_thread_meaning.specs.Shares.{wrap_of}
use Rattle.sync_typing.specs.Dues.{Due, at_hand_due}
use Rattle.sync_typing.specs.Environments.{Env, Outcome, read, stands as term_of}
use Rattle.sync_thread.specs.Symbols.{wrap_symbol}
use Rattle.sync_typing.specs.Keeps.{after_keep, arrive_dues, arrive_row, is_at_hand_in, keep_due, keep_if_due, keep_names_only}
use Rattle.sync_typing.specs.Names.{jump_is_named, keep_here, keep_is_named, known_here, none_in, list_is_named, proof_names, bound_by_keep}
use Rattle.sync_typing_laws.proofs.Deciding.{laws}
use Rattle.sync_typing_laws.proofs.LocalDues.{Met, row_met}
use Rattle.sync_typing_laws.specs.Rests.{KnowsConstants, aims_of}
use Rattle.sync_typing_laws.specs.RowLaws.{IsThreadOf, SparesWidth}
use Rattle.sync_typing_laws.specs.Ruling.{Meanings, loop_dues, rules_of, scene_at}
use Rattle.sync_typing_laws.specs.Standing.{IsWholeState, Standing, Stayed, standing_in}
use Rattle.sync_typing_rows.proofs.KeepingGoes.{kept_goes}
use Rattle.sync_typing_rows.proofs.KeepingRows.{Kept, begins, keep_passes, loop_passes, row_next}
use Rattle.sync_typing_rows.specs.KeepLaws.{JumpsGoOn, KeepRowsGoOn, LoopsGoOn}
use mathlib.Core.Path.{sym, ◌∙◌}

-- what passes passes with what follows from it
pub passes_more : {A : Type 0} (spares : Halt → Type 0) (r : Result A Halt) (good better : A → Type 0) → ((a : A) → good a → better a) → PassesUnless spares r good → PassesUnless spares r better
passes_more spares (Ok a) good better more is = more a is
passes_more spares (Err h) good better more is = is

pub front : (p : ℕ → Bool) (xs ys : List ℕ) → list_all p (xs ++ ys) ≡ true → list_all p xs ≡ true
front p xs ys is = (and_parts (list_all p xs) (list_all p ys) (sym (list_all-append p xs ys) ∙ is)).0

module _ (m : Meanings) (fits : ℤ → Bool) (x : MachineWithProgram) (known : Env) (t : ℕ) (of_text : IsThreadOf x t) (knows : KnowsConstants x known) (wide : SparesWidth m fits x t) where
  pub jumps : JumpsGoOn m fits x known t
  jumps k j named binds jump form e same now line at row at_hand after round s whole is =
      passes_more m.Spares (keep_step fits x t k j form.saved s) (Kept x t s k vals form.saved) (λ z. Advances (rules_of x (standing_in x known m.Spares m)) t s now (form ∷ round) z) goes
      (keep_passes laws fits m.Spares x known t of_text.few of_text.there k j named binds jump form e same line row at_hand round s (wide s) whole.tidy is) where
        vals : List ℤ
        vals = map (num is.values) (map (read e) j.args)

        goes : (z : World) → Kept x t s k vals form.saved z → IsWholeState x z × Stayed x t s z × Standing x known t now (form ∷ round) z
        goes z kept = (both.1, kept.stays, both.0) where
          both : Standing x known t now (form ∷ round) z × IsWholeState x z
          both = kept_goes x known knows of_text.few t of_text.there of_text.names k named is.values e.fresh form round s is.chain at_hand whole vals z kept at now after

  pub loops : LoopsGoOn m fits x known t
  loops p k j n body left rest part e inside row round s whole is =
      passes_more m.Spares (keep_step fits x t k j saved s) (Kept x t s k vals saved) (λ z. Advances (rules_of x (standing_in x known m.Spares m)) t s inside (form ∷ round) z) goes
      (loop_passes laws fits m.Spares x known t of_text.few of_text.there k j left named binds jump e inside n (scene_at x t).locals (loop_dues body left) row at_hand round s (wide s) whole.tidy is) where
        saved : ℤ
        saved = wrap_of s.shares t

        vals : List ℤ
        vals = map (num is.values) (map (read e) j.args)

        form : Round annotated_language Env
        form = turn k left saved e

        ls : List ℕ
        ls = (scene_at x t).locals

        named_so : (keep_is_named x (known_here x) k && (jump_is_named (known_here x) j (Some k) && (keep_here x left && (list_is_named x ls (record (aims_of p) { next = Some k; break = left; meet = None }) body && list_is_named x ls (aims_of p) rest)))) ≡ true
        named_so = part.named

        named : keep_is_named x (known_here x) k ≡ true
        named = (and_parts (keep_is_named x (known_here x) k) _ named_so).0

        jump : jump_is_named (known_here x) j (Some k) ≡ true
        jump = (and_parts (jump_is_named (known_here x) j (Some k)) _ (and_parts (keep_is_named x (known_here x) k) _ named_so).1).0

        free : ℕ → Bool
        free n = not (is_in n ls)

        binds : none_in k.names ls ≡ true
        binds = front free k.names (bound_by_keep left) (front free (k.names ++ bound_by_keep left) (proof_names body) (front free (k.names ++ bound_by_keep left ++ proof_names body) (proof_names rest) part.binds))

        again : Outcome Env
        again = after_keep n ls k e

        arrives : arrive_row n (keep_due e.terms k ∷ keep_if_due e.terms left) k j.args j.scripts (term_of e wrap_symbol) e again ≡ Ok inside
        arrives = row_next e n (loop_dues body left) [] (arrive_row n (keep_due e.terms k ∷ keep_if_due e.terms left) k j.args j.scripts (term_of e wrap_symbol) e again) inside row

        dues : List Due
        dues = at_hand_due e j.args [] j.scripts ∷ (keep_due e.terms k ∷ keep_if_due e.terms left) ++ arrive_dues e k j.args (term_of e wrap_symbol)

        met : AllByRecursion (Met is.values) dues × (again ≡ Ok inside)
        met = row_met laws is.values e n is.stands.known dues j.scripts again inside arrives

        at_hand : keep_names_only (is_at_hand_in e.terms k) k ≡ true
        at_hand = met.0.1.0

        goes : (z : World) → Kept x t s k vals saved z → IsWholeState x z × Stayed x t s z × Standing x known t inside (form ∷ round) z
        goes z kept = (both.1, kept.stays, both.0) where
          both : Standing x known t inside (form ∷ round) z × IsWholeState x z
          both = kept_goes x known knows of_text.few t of_text.there of_text.names k named is.values e.fresh form round s (begins x known t e (Turn k left) round s is) at_hand whole vals z kept n inside met.1

pub keep_rows_go_on : (m : Meanings) → KeepRowsGoOn m
keep_rows_go_on m fits x known t of_text knows wide = record { jumps = jumps m fits x known t of_text knows wide; loops = loops m fits x known t of_text knows wide }
