-- The list to which a way leads, a form at a time.
use Rattle.std.proofs.Common.{◌≡◌, suc, ◌<◌, if◌then◌else◌, List, [], ◌∷◌, ◌++◌, length, drop, get_or, Option, Some, None, IfSome, IfNone, sym, ap, ◌∙◌}
use Rattle.sync_thread.specs.declared.operands.Cond.{Cond}
use Rattle.sync_thread.specs.declared.program.CodeStmt.{CodeStmt, out-CodeStmt}
use Rattle.sync_thread.specs.declared.program.CodeStmt.TheVariants as made
use Rattle.sync_thread.specs.Control.{Frame, InBranch, InLoop}
use Rattle.sync_thread.specs.Code.{code_language}
use Rattle.sync_thread.specs.Views.{code_list_tree}
use Rattle.sync_thread_places.specs.declared.standings.Hop.{Hop}
use Rattle.sync_thread_places.specs.Places.{LeadsTo, led_to, form_at, form_of, through}
use Rattle.sync_thread_places.proofs.Tables.{got}
use Rattle.sync_thread_places.proofs.Trees.{round, led_if, led_loop}

led_inside : (way hs : List Hop) (list inner l : List CodeStmt) (f : Frame code_language)
    → led_to way list ≡ round f (led_to hs inner) → LeadsTo hs inner l → LeadsTo way list l
led_inside way hs list inner l f e (fs, is) = (fs ++ f ∷ [], e ∙ ap (round f) is)

pub some_inside : {B : Type 0} (now : B → List CodeStmt) (r : Option B) (way hs : List Hop) (list inner : List CodeStmt) (f : Frame code_language)
    → led_to way list ≡ round f (led_to hs inner) → IfSome r (λ i. LeadsTo hs inner (now i)) → IfSome r (λ i. LeadsTo way list (now i))
some_inside now (Some i) way hs list inner f e there = led_inside way hs list inner (now i) f e there
some_inside now None way hs list inner f e there = tt

pub none_inside : {B : Type 0} (r : Option B) (way hs : List Hop) (list inner : List CodeStmt) (f : Frame code_language)
    → led_to way list ≡ round f (led_to hs inner) → IfNone r (led_to hs inner ≡ None) → IfNone r (led_to way list ≡ None)
none_inside (Some i) way hs list inner f e there = tt
none_inside None way hs list inner f e there = e ∙ ap (round f) there

pub if_way : (list : List CodeStmt) (way hs : List Hop) (hop : Hop) (s : CodeStmt) (c : Cond) (p q inner : List CodeStmt)
    → way ≡ hop ∷ hs → hop.at < length list → s ≡ get_or list hop.at s → s ≡ made.If c p q → (if hop.second then q else p) ≡ inner
    → led_to way list ≡ round (InBranch None (code_list_tree (drop (suc hop.at) list)) tt) (led_to hs inner)
if_way list way hs hop s c p q inner is within at same chosen =
    ap (λ w. led_to w list) is ∙ led_if list hop hs s c p q (got list hop.at s within at) same
    ∙ ap (λ l. round (InBranch None (code_list_tree (drop (suc hop.at) list)) tt) (led_to hs l)) chosen

pub loop_way : (list : List CodeStmt) (way hs : List Hop) (hop : Hop) (s : CodeStmt) (body inner : List CodeStmt)
    → way ≡ hop ∷ hs → hop.at < length list → s ≡ get_or list hop.at s → s ≡ made.Loop body → inner ≡ body
    → led_to way list ≡ round (InLoop tt (code_list_tree body) (Some tt) (code_list_tree (drop (suc hop.at) list)) tt) (led_to hs inner)
loop_way list way hs hop s body inner is within at same chosen =
    ap (λ w. led_to w list) is ∙ led_loop list hop hs s body (got list hop.at s within at) same
    ∙ ap (λ l. round (InLoop tt (code_list_tree body) (Some tt) (code_list_tree (drop (suc hop.at) list)) tt) (led_to hs l)) (sym chosen)

pub no_way : (list : List CodeStmt) (way hs : List Hop) (hop : Hop) (s : CodeStmt)
    → way ≡ hop ∷ hs → hop.at < length list → s ≡ get_or list hop.at s
    → form_of (drop (suc hop.at) list) hop.second (out-CodeStmt s) ≡ None → led_to way list ≡ None
no_way list way hs hop s is within at none =
    ap (λ w. led_to w list) is ∙ ap (λ o. through (led_to hs) (form_at list hop o)) (got list hop.at s within at)
    ∙ ap (through (led_to hs)) none
