-- Words and cells, one after another.
use Rattle.std.proofs.Common.{◌≡◌, ℕ, ◌+◌, ◌<◌, List, [], ◌∷◌, ◌++◌, length, map, drop, get_or, Result, Ok, sym, ap, ◌∙◌}
use Rattle.std.proofs.lemmas.List.{drop_more, map-append}
use Rattle.sync_base.specs.declared.stops.Refusal.{Refusal}
use Rattle.sync_base.specs.Outcome.{◌>>=◌}
use Rattle.sync_terms.specs.Stored.{Stored}
use Rattle.sync_parse_programs.specs.declared.proof_statements.RawDeclaration.{RawDeclaration}
use Rattle.sync_thread.specs.declared.program.Decl.{Decl}
use Rattle.sync_thread.specs.Programs.{DeclTree}
use Rattle.sync_thread.specs.Views.{decl_tree}
use Rattle.sync_read_programs.specs.declared.scopes.Room.{Room}
use Rattle.sync_read_programs.specs.declared.scopes.ProgramScope.{ProgramScope}
use Rattle.sync_read_programs.specs.Keeps.{declaration_in, declarations_from}

-- one more word or cell
pub declarations_go : (t : Stored) (room less : Room) (s next : ProgramScope) (raw : List RawDeclaration) (i : ℕ) (o : RawDeclaration) (held more : List Decl) (x : Decl) (want : Result (List DeclTree × ProgramScope) Refusal)
    → i < length raw → o ≡ get_or raw i o → declaration_in room s o ≡ Ok (decl_tree t x, less, next) → more ≡ held ++ x ∷ []
    → declarations_from (map (decl_tree t) held) room s (drop i raw) ≡ want → declarations_from (map (decl_tree t) more) less next (drop (i + 1) raw) ≡ want
unfolding declarations_from
declarations_go t room less s next raw i o held more x want below item made is so_far =
    let rest = drop (i + 1) raw in
    let trees = map (decl_tree t) held in
    ap (λ ys. declarations_from (map (decl_tree t) ys) less next rest) is
    ∙ ap (λ ys. declarations_from ys less next rest) (map-append (decl_tree t) held (x ∷ []))
    ∙ sym (ap (λ r. r >>= (λ y. declarations_from (trees ++ y.0 ∷ []) y.1 y.2 rest)) made)
    ∙ sym (ap (declarations_from trees room s) (drop_more raw i o below ∙ ap (λ y. y ∷ rest) (sym item)))
    ∙ so_far
