-- Statements of code as trees, as forms, and what room they need.
use Rattle.std.proofs.Common.{◌≡◌, ℕ, suc, ◌+◌, ◌<◌, ◌≤◌, Bool, if◌then◌else◌, List, [], ◌∷◌, length, map, drop, max, get_or, slice_get, Option, Some, None, option_map, refl, sym, ap, ◌∙◌, drop-cons, arith}
use Rattle.sync_thread.specs.declared.operands.Calc.{Calc}
use Rattle.sync_thread.specs.declared.operands.Cond.{Cond}
use Rattle.sync_thread.specs.declared.operands.Opd.{Opd}
use Rattle.sync_thread.specs.declared.operands.WordOp.{WordOp}
use Rattle.sync_thread.specs.declared.program.CodeStmt.{CodeStmt, out-CodeStmt, fold-CodeStmt, fold-roll-CodeStmt, out-roll-CodeStmt}
use Rattle.sync_thread.specs.declared.program.CodeStmt.TheOpen.{CodeStmt-F}
use Rattle.sync_thread.specs.declared.program.CodeStmt.TheVariants as made
use Rattle.sync_thread.specs.declared.program.CodeStmt.TheVariants.{rolls-Set, rolls-Read, rolls-Write, rolls-Peek, rolls-Word, rolls-Print, rolls-If, rolls-Loop, rolls-Next, rolls-Break, rolls-End}
use Rattle.sync_thread.specs.Control.{Frame, InBranch, InLoop, Brace, Do, On, If, Loop, Next, Break, End}
use Rattle.sync_thread.specs.Code.{CodeList, code_language}
use Rattle.sync_thread.specs.Code as code
use Rattle.sync_thread.specs.Views.{CodeThen, code_then, code_before, code_stmt_tree, code_list_tree}
use Rattle.sync_thread_places.specs.declared.standings.Hop.{Hop}
use Rattle.sync_thread_places.specs.Places.{Enclosed, form_of, form_at, through, led_to, inside, most, nesting, nesting_step, width, width_step, local_room}
use Rattle.sync_thread_places.proofs.Tables.{got}

pub out_if : (c : Cond) (p q : List CodeStmt) → out-CodeStmt (made.If c p q) ≡ CodeStmt-F.If c p q
out_if c p q = ap out-CodeStmt (sym (rolls-If c p q)) ∙ out-roll-CodeStmt (CodeStmt-F.If c p q)

pub out_loop : (b : List CodeStmt) → out-CodeStmt (made.Loop b) ≡ CodeStmt-F.Loop b
out_loop b = ap out-CodeStmt (sym (rolls-Loop b)) ∙ out-roll-CodeStmt (CodeStmt-F.Loop b)

-- ---- statements as trees

pub set_tree : (x : ℕ) (c : Calc) (rest : CodeList)
    → code_stmt_tree (made.Set x c) rest ≡ Do (record { local = x; calc = c }) 0 rest
set_tree x c rest =
    ap (λ g. g rest) (ap code_stmt_tree (sym (rolls-Set x c)) ∙ fold-roll-CodeStmt CodeThen code_then (CodeStmt-F.Set x c))

pub read_tree : (x c : ℕ) (i : Opd) (rest : CodeList)
    → code_stmt_tree (made.Read x c i) rest ≡ On (code.Read x c i) 0 rest
read_tree x c i rest =
    ap (λ g. g rest) (ap code_stmt_tree (sym (rolls-Read x c i)) ∙ fold-roll-CodeStmt CodeThen code_then (CodeStmt-F.Read x c i))

pub write_tree : (c : ℕ) (i o : Opd) (rest : CodeList)
    → code_stmt_tree (made.Write c i o) rest ≡ On (code.Write c i o) 0 rest
write_tree c i o rest =
    ap (λ g. g rest) (ap code_stmt_tree (sym (rolls-Write c i o)) ∙ fold-roll-CodeStmt CodeThen code_then (CodeStmt-F.Write c i o))

pub peek_tree : (x c : ℕ) (i : Opd) (rest : CodeList)
    → code_stmt_tree (made.Peek x c i) rest ≡ On (code.Peek x c i) 0 rest
peek_tree x c i rest =
    ap (λ g. g rest) (ap code_stmt_tree (sym (rolls-Peek x c i)) ∙ fold-roll-CodeStmt CodeThen code_then (CodeStmt-F.Peek x c i))

pub word_tree : (x : Option ℕ) (op : WordOp) (w : ℕ) (i : Opd) (rest : CodeList)
    → code_stmt_tree (made.Word x op w i) rest ≡ On (code.Operate x op w i) 0 rest
word_tree x op w i rest =
    ap (λ g. g rest) (ap code_stmt_tree (sym (rolls-Word x op w i)) ∙ fold-roll-CodeStmt CodeThen code_then (CodeStmt-F.Word x op w i))

pub print_tree : (l : ℕ) (o : Opd) (rest : CodeList)
    → code_stmt_tree (made.Print l o) rest ≡ On (code.Print l o) 0 rest
print_tree l o rest =
    ap (λ g. g rest) (ap code_stmt_tree (sym (rolls-Print l o)) ∙ fold-roll-CodeStmt CodeThen code_then (CodeStmt-F.Print l o))

pub if_tree : (c : Cond) (p q : List CodeStmt) (rest : CodeList)
    → code_stmt_tree (made.If c p q) rest ≡ If c 0 (code_list_tree p) (code_list_tree q) None rest
if_tree c p q rest =
    ap (λ g. g rest) (ap code_stmt_tree (sym (rolls-If c p q)) ∙ fold-roll-CodeStmt CodeThen code_then (CodeStmt-F.If c p q))

pub loop_tree : (b : List CodeStmt) (rest : CodeList)
    → code_stmt_tree (made.Loop b) rest ≡ Loop tt tt 0 (code_list_tree b) (Some tt) rest
loop_tree b rest =
    ap (λ g. g rest) (ap code_stmt_tree (sym (rolls-Loop b)) ∙ fold-roll-CodeStmt CodeThen code_then (CodeStmt-F.Loop b))

pub next_tree : (rest : CodeList) → code_stmt_tree made.Next rest ≡ Next tt 0 rest
next_tree rest =
    ap (λ g. g rest) (ap code_stmt_tree (sym rolls-Next) ∙ fold-roll-CodeStmt CodeThen code_then CodeStmt-F.Next)

pub break_tree : (rest : CodeList) → code_stmt_tree made.Break rest ≡ Break tt 0 rest
break_tree rest =
    ap (λ g. g rest) (ap code_stmt_tree (sym rolls-Break) ∙ fold-roll-CodeStmt CodeThen code_then CodeStmt-F.Break)

pub end_tree : (rest : CodeList) → code_stmt_tree made.End rest ≡ End tt 0 rest
end_tree rest =
    ap (λ g. g rest) (ap code_stmt_tree (sym rolls-End) ∙ fold-roll-CodeStmt CodeThen code_then CodeStmt-F.End)

-- the list from a statement on begins with the statement
pub here : (list : List CodeStmt) (at : ℕ) (s : CodeStmt) → at < length list → s ≡ get_or list at s
    → code_list_tree (drop at list) ≡ code_stmt_tree s (code_list_tree (drop (suc at) list))
here list at s within is =
    ap code_list_tree (drop-cons list at s within)
    ∙ ap (λ x. code_stmt_tree x (code_list_tree (drop (suc at) list))) (sym is)

-- ---- forms

abbrev pub round : Frame code_language → Option Enclosed → Option Enclosed
round f x = option_map (inside (f ∷ [])) x

pub led_if : (list : List CodeStmt) (h : Hop) (hs : List Hop) (s : CodeStmt) (c : Cond) (p q : List CodeStmt)
    → slice_get list h.at ≡ Some s → s ≡ made.If c p q
    → led_to (h ∷ hs) list
    ≡ round (InBranch None (code_list_tree (drop (suc h.at) list)) tt) (led_to hs (if h.second then q else p))
led_if list h hs s c p q at is =
    ap (λ o. through (led_to hs) (form_at list h o)) (at ∙ ap Some is)
    ∙ ap (λ x. through (led_to hs) (form_of (drop (suc h.at) list) h.second x)) (out_if c p q)

pub led_loop : (list : List CodeStmt) (h : Hop) (hs : List Hop) (s : CodeStmt) (b : List CodeStmt)
    → slice_get list h.at ≡ Some s → s ≡ made.Loop b
    → led_to (h ∷ hs) list
    ≡ round (InLoop tt (code_list_tree b) (Some tt) (code_list_tree (drop (suc h.at) list)) tt) (led_to hs b)
led_loop list h hs s b at is =
    ap (λ o. through (led_to hs) (form_at list h o)) (at ∙ ap Some is)
    ∙ ap (λ x. through (led_to hs) (form_of (drop (suc h.at) list) h.second x)) (out_loop b)

-- ---- room

pub nesting_if : (c : Cond) (p q : List CodeStmt)
    → nesting (made.If c p q) ≡ suc (max (most (map nesting p)) (most (map nesting q)))
nesting_if c p q = ap nesting (sym (rolls-If c p q)) ∙ fold-roll-CodeStmt ℕ nesting_step (CodeStmt-F.If c p q)

pub nesting_loop : (b : List CodeStmt) → nesting (made.Loop b) ≡ suc (most (map nesting b))
nesting_loop b = ap nesting (sym (rolls-Loop b)) ∙ fold-roll-CodeStmt ℕ nesting_step (CodeStmt-F.Loop b)

pub width_if : (c : Cond) (p q : List CodeStmt)
    → width (made.If c p q) ≡ max (most (map width p)) (most (map width q))
width_if c p q = ap width (sym (rolls-If c p q)) ∙ fold-roll-CodeStmt ℕ width_step (CodeStmt-F.If c p q)

pub width_loop : (b : List CodeStmt) → width (made.Loop b) ≡ most (map width b)
width_loop b = ap width (sym (rolls-Loop b)) ∙ fold-roll-CodeStmt ℕ width_step (CodeStmt-F.Loop b)

pub width_set : (x : ℕ) (c : Calc) → width (made.Set x c) ≡ suc x
width_set x c = ap width (sym (rolls-Set x c)) ∙ fold-roll-CodeStmt ℕ width_step (CodeStmt-F.Set x c)
