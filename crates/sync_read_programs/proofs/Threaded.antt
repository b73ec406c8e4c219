-- Threads, one after another.
use Rattle.std.proofs.Common.{◌≡◌, ℕ, ◌+◌, ◌<◌, List, [], ◌∷◌, ◌++◌, length, map, drop, get_or, Result, Ok, sym, ap, ◌∙◌}
use Rattle.std.proofs.lemmas.List.{drop_more, map-append, length-map}
use Rattle.sync_base.specs.declared.stops.Refusal.{Refusal}
use Rattle.sync_base.specs.Outcome.{◌>>=◌}
use Rattle.sync_terms.specs.Stored.{Stored}
use Rattle.sync_parse_programs.specs.declared.statements.RawThread.{RawThread}
use Rattle.sync_thread.specs.declared.program.Thread.{Thread}
use Rattle.sync_thread.specs.Programs.{ThreadTree}
use Rattle.sync_thread.specs.Views.{thread_tree}
use Rattle.sync_read_programs.specs.declared.scopes.ProgramScope.{ProgramScope}
use Rattle.sync_read_programs.specs.Programs.{thread_in, threads_from}

-- one more thread
pub threads_go : (t : Stored) (s next : ProgramScope) (raw : List RawThread) (i : ℕ) (o : RawThread) (held more : List Thread) (x : Thread) (want : Result (List ThreadTree × ProgramScope) Refusal)
    → i < length raw → o ≡ get_or raw i o → thread_in (length held) s o ≡ Ok (thread_tree t x, next) → more ≡ held ++ x ∷ []
    → threads_from (map (thread_tree t) held) s (drop i raw) ≡ want → threads_from (map (thread_tree t) more) next (drop (i + 1) raw) ≡ want
unfolding threads_from
threads_go t s next raw i o held more x want below item made is so_far =
    let rest = drop (i + 1) raw in
    let trees = map (thread_tree t) held in
    ap (λ ys. threads_from (map (thread_tree t) ys) next rest) is
    ∙ ap (λ ys. threads_from ys next rest) (map-append (thread_tree t) held (x ∷ []))
    ∙ sym (ap (λ r. r >>= (λ y. threads_from (trees ++ y.0 ∷ []) y.1 rest)) (ap (λ n. thread_in n s o) (length-map held (thread_tree t)) ∙ made))
    ∙ sym (ap (threads_from trees s) (drop_more raw i o below ∙ ap (λ y. y ∷ rest) (sym item)))
    ∙ so_far
