-- What the rules on names say of a word of an array.
use Rattle.std.specs.Prelude.{◌≡◌, ℕ, zero, suc, true, List, [], ◌∷◌, map, slice_get, Some}
use Rattle.std.specs.List.{AllByRecursion, list_all, range_with_len}
use Rattle.std.proofs.lemmas.Bool.{and_parts}
use Rattle.sync_thread.specs.Programs.{DeclTree, Word, Cell}
use Rattle.sync_thread_machine.specs.MachineWithProgram.{MachineWithProgram}
use Rattle.sync_thread_meaning.specs.Shares.{WordAt, array_words}
use Rattle.sync_typing.specs.Names.{decls_are_named, decl_is_named, are_apart_names, decl_name}
use Rattle.sync_typing_laws.proofs.BlocksTokens.{all_append}
use mathlib.Core.Path.{subst}

pub each_get : {X : Type 0} (P : X → Type 0) (xs : List X) (i : ℕ) (x : X) → slice_get xs i ≡ Some x → AllByRecursion P xs → P x
each_get P [] i x is all = absurd (cc)
each_get P (z ∷ zs) zero x is all = subst P (let same : z ≡ x = cc in same) all.0
each_get P (z ∷ zs) (suc i) x is all = each_get P zs i x is all.1

words_named : (x : MachineWithProgram) (ds : List DeclTree) → list_all (decl_is_named x) ds ≡ true → AllByRecursion (λ (p : WordAt). decl_is_named x (Word p.word) ≡ true) (array_words ds)
words_named x [] e = tt
words_named x (Word w ∷ ds) e = let p = and_parts (decl_is_named x (Word w)) (list_all (decl_is_named x) ds) e in
    all_append (λ (p : WordAt). decl_is_named x (Word p.word) ≡ true) (map (λ i. record { word = w; index = i }) (range_with_len 0 w.len)) (array_words ds) (each (range_with_len 0 w.len) p.0) (words_named x ds p.1) where
      each : (is : List ℕ) → decl_is_named x (Word w) ≡ true → AllByRecursion (λ (p : WordAt). decl_is_named x (Word p.word) ≡ true) (map (λ i. record { word = w; index = i }) is)
      each [] d = tt
      each (i ∷ is) d = (d, each is d)
words_named x (Cell c ∷ ds) e = words_named x ds (and_parts (decl_is_named x (Cell c)) (list_all (decl_is_named x) ds) e).1

pub word_named : (x : MachineWithProgram) → decls_are_named x ≡ true → (i : ℕ) (p : WordAt) → slice_get (array_words x.program.decls) i ≡ Some p → decl_is_named x (Word p.word) ≡ true
word_named x e i p is = each_get (λ (p : WordAt). decl_is_named x (Word p.word) ≡ true) (array_words x.program.decls) i p is
    (words_named x x.program.decls (and_parts (are_apart_names (map decl_name x.program.decls)) (list_all (decl_is_named x) x.program.decls) e).1)
