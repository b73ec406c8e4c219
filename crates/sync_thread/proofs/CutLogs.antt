-- A part of a log from its beginning is a log.
use Rattle.std.specs.Prelude.{◌≡◌, ℕ, List, [], ◌∷◌, ◌++◌, Option, Some, None}
use mathlib.Core.Path.{refl}
use Rattle.sync_words.specs.declared.entries.Entry.{Entry}
use Rattle.sync_thread.specs.declared.operands.CodeDecl.{CodeDecl}
use Rattle.sync_thread.specs.Code.{CodeList, CodeTree}
use Rattle.sync_thread.specs.Logs.{Lane, list_of, MakeEntries, FollowsFrom, LogsAreCut}

made_first : (ds : List CodeDecl) (t : ℕ) (here there : Lane) (xs ys : List Entry)
    → MakeEntries ds t here (xs ++ ys) there → (mid : Lane) × MakeEntries ds t here xs mid
made_first ds t here there [] ys all = (here, refl)
made_first ds t here there (x ∷ xs) ys (next, one, rest) =
    let (mid, first) = made_first ds t next there xs ys rest in (mid, (next, one, first))

empty_first : (xs ys : List Entry) → xs ++ ys ≡ [] → xs ≡ []
empty_first [] ys is = refl
empty_first (x ∷ xs) ys is = absurd (cc)

cut : (x : CodeTree) (t : ℕ) (list : Option CodeList) (xs ys : List Entry)
    → (there : Lane) × FollowsFrom x t list (xs ++ ys) there → (there : Lane) × FollowsFrom x t list xs there
cut x t (Some list) xs ys (there, (begun, is, all)) =
    let (mid, first) = made_first x.decls t begun there xs ys all in (mid, (begun, is, first))
cut x t None xs ys (there, (empty, ended)) = (there, (empty_first xs ys empty, ended))

pub logs_are_cut : LogsAreCut
logs_are_cut x t log later follows = cut x t (list_of x t) log later follows
