-- Lists of statements, as what their statements put before one another.
use Rattle.std.proofs.Common.{◌≡◌, ℕ, Bool, ◌+◌, ◌<◌, ◌≤◌, List, [], ◌∷◌, ◌++◌, length, map, drop, get_or, Result, Ok, Err, sym, ap, ◌∙◌}
use Rattle.std.proofs.lemmas.List.{at_drop_all, drop_more, map-append}
use Rattle.sync_base.specs.declared.stops.Stop.{Stop}
use Rattle.sync_base.specs.declared.stops.Stop.TheVariants.{Refused, Memory}
use Rattle.sync_base.specs.declared.stops.Refusal.{Refusal}
use Rattle.sync_base.specs.Outcome.{◌>>=◌, Stops}
use Rattle.sync_terms.specs.Stored.{Stored}
use Rattle.sync_parse_programs.specs.declared.statements.RawList.{RawList, out-RawList, fold_out-RawList}
use Rattle.sync_parse_programs.specs.declared.statements.RawStatement.{RawStatement}
use Rattle.sync_thread.specs.declared.program.List.{roll-List, fold-roll-List}
use Rattle.sync_thread.specs.declared.program.Stmt.{Stmt}
use Rattle.sync_thread.specs.Control.{Brace}
use Rattle.sync_thread.specs.Programs.{ListTree}
use Rattle.sync_thread.specs.Views.{Then, TailThen, before, list_tree, stmt_tree, kind_then, tail_then, atomic_then, list_then, stmt_then, when_then}
use Rattle.sync_read_programs.specs.declared.scopes.Aims.{Aims}
use Rattle.sync_read_programs.specs.declared.scopes.ProgramScope.{ProgramScope}
use Rattle.sync_read_programs.specs.Scopes.{with_wrap, knows_wrap}
use Rattle.sync_read_programs.specs.Statements.{Kind, Statement, RightSide, Tail, Body, right_in, kind_in, tail_in, if_in, body_of, loop_in, statement_of, when_in, statements_from, list_in, statement_in}

front : {X : Type 0} (xs : List X) (i : ℕ) (x : X) → i < length xs → x ≡ get_or xs i x → drop i xs ≡ x ∷ drop (i + 1) xs
front xs i x below is = drop_more xs i x below ∙ ap (λ y. y ∷ drop (i + 1) xs) (sym is)

-- one more statement
pub statements_go : {X Raw : Type 0} (a : Aims) (make : Raw → Statement) (view : X → Then) (s next : ProgramScope) (raw : List Raw) (i : ℕ) (o : Raw) (held more : List X) (x : X) (want : Result (List Then × ProgramScope) Refusal)
    → i < length raw → o ≡ get_or raw i o → make o a s ≡ Ok (view x, next) → more ≡ held ++ x ∷ []
    → statements_from a (map view held) s (map make (drop i raw)) ≡ want → statements_from a (map view more) next (map make (drop (i + 1) raw)) ≡ want
unfolding statements_from
statements_go a make view s next raw i o held more x want below item made is so_far =
    let rest = map make (drop (i + 1) raw) in
    ap (λ ys. statements_from a (map view ys) next rest) is
    ∙ ap (λ ys. statements_from a ys next rest) (map-append view held (x ∷ []))
    ∙ sym (ap (λ r. r >>= (λ y. statements_from a (map view held ++ y.0 ∷ []) y.1 rest)) made)
    ∙ sym (ap (λ xs. statements_from a (map view held) s (map make xs)) (front raw i o below item))
    ∙ so_far

list_is : (a : Aims) (s : ProgramScope) (b : RawList) → list_in b a s ≡ (statements_from a [] s (map statement_in (out-RawList b).statements) >>= (λ ys. Ok (before ys.0 (Brace (out-RawList b).end_line), with_wrap (knows_wrap s) ys.1)))
list_is a s b = ap (λ (f : Body). f a s) (fold_out-RawList RightSide Kind Tail Kind Body Kind Statement Tail right_in kind_in tail_in if_in body_of loop_in statement_of when_in b)

tree_is : (t : Stored) (ss : List Stmt) (line : ℕ) → list_tree t (roll-List (record { stmts = ss; end_line = line })) ≡ before (map (stmt_tree t) ss) (Brace line)
tree_is t ss line = fold-roll-List (ℕ → Then) TailThen (ℕ → Then) ListTree Then TailThen (kind_then t) (tail_then t) (atomic_then t) list_then stmt_then (when_then t) (record { stmts = ss; end_line = line })

-- a list whose statements are made
pub list_made : (a : Aims) (s last next : ProgramScope) (w : Bool) (t : Stored) (b : RawList) (items : List RawStatement) (i : ℕ) (ss : List Stmt) → length items ≤ i → items ≡ (out-RawList b).statements
    → w ≡ knows_wrap s → next ≡ with_wrap w last
    → statements_from a (map (stmt_tree t) ss) last (map statement_in (drop i items)) ≡ statements_from a [] s (map statement_in items)
    → list_in b a s ≡ Ok (list_tree t (roll-List (record { stmts = ss; end_line = (out-RawList b).end_line })), next)
unfolding statements_from
list_made a s last next w t b items i ss past are known wrap so_far =
    let line = (out-RawList b).end_line in
    let all : statements_from a [] s (map statement_in (out-RawList b).statements) ≡ Ok (map (stmt_tree t) ss, last) =
    ap (λ xs. statements_from a [] s (map statement_in xs)) (sym are) ∙ sym so_far ∙ at_drop_all (λ xs. statements_from a (map (stmt_tree t) ss) last (map statement_in xs)) items i past in
    list_is a s b ∙ ap (λ r. r >>= (λ ys. Ok (before ys.0 (Brace line), with_wrap (knows_wrap s) ys.1))) all
    ∙ ap (λ l. Ok (l, with_wrap (knows_wrap s) last)) (sym (tree_is t ss line))
    ∙ ap (λ z. Ok (list_tree t (roll-List (record { stmts = ss; end_line = line })), z)) (sym (wrap ∙ ap (λ w. with_wrap w last) known))

-- a list one of whose statements is not made
pub list_stops : (e : Stop) (a : Aims) (s now : ProgramScope) (b : RawList) (items : List RawStatement) (i : ℕ) (x : RawStatement) (held : List Then) → i < length items → x ≡ get_or items i x → items ≡ (out-RawList b).statements
    → statements_from a held now (map statement_in (drop i items)) ≡ statements_from a [] s (map statement_in items) → Stops e (statement_in x a now) → Stops e (list_in b a s)
unfolding statements_from
list_stops Memory a s now b items i x held below item are so_far h = tt
list_stops (Refused r) a s now b items i x held below item are so_far h =
    let rest = map statement_in (drop (i + 1) items) in
    let all : statements_from a [] s (map statement_in (out-RawList b).statements) ≡ Err r =
    ap (λ xs. statements_from a [] s (map statement_in xs)) (sym are) ∙ sym so_far
    ∙ ap (λ xs. statements_from a held now (map statement_in xs)) (front items i x below item)
    ∙ ap (λ y. y >>= (λ z. statements_from a (held ++ z.0 ∷ []) z.1 rest)) h in
    list_is a s b ∙ ap (λ y. y >>= (λ ys. Ok (before ys.0 (Brace (out-RawList b).end_line), with_wrap (knows_wrap s) ys.1))) all
