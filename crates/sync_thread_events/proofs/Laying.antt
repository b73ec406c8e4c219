-- Arrays laid one behind the other.
use Rattle.std.proofs.Common.{◌≡◌, ℕ, ◌+◌, ◌^◌, ◌<◌, Bool, true, false, if◌then◌else◌, nat_eq, List, [], ◌∷◌, ◌++◌, length, replicate, append_assoc, append-nil, length-append, take, get_or, OnOk, Result, Ok, Err, Option, Some, None, refl, sym, ap, ◌∙◌, subst}
use Rattle.std.proofs.lemmas.List.{length-replicate, take_more}
use Rattle.sync_thread.specs.declared.operands.CodeDecl.{CodeDecl}
use Rattle.sync_thread.specs.declared.operands.CodeDecl.TheVariants as code
use Rattle.sync_thread.specs.Arrays.{Span, first_words, first_cells, shifted, words_named, cells_named}
use Rattle.sync_thread_events.specs.declared.steps.Span.{Span as Noted}
use Rattle.sync_thread_events.specs.declared.layout.Laid.{Laid}
use Rattle.sync_thread_events.specs.Steps.{spanned, span_in}
use Rattle.sync_thread_events.specs.Layout.{IsLaid, noted}
use Rattle.sync_thread_events.proofs.Tables.{some_same}

-- the first of two, where there is one
abbrev pub or_this : Option Span → Option Span → Option Span
or_this (Some s) o = Some s
or_this None o = o

abbrev pub one_span : Bool → ℕ → ℕ → Option Span
one_span b base n = if b then Some (record { base = base; len = n }) else None

shifts : (k n m base : ℕ) (b : Bool) (o : Option Span) → base ≡ k + m
    → shifted k (or_this o (one_span b m n)) ≡ or_this (shifted k o) (one_span b base n)
shifts k n m base b (Some s) is = refl
shifts k n m base true None is = ap (λ z. Some (record { base = z; len = n })) (sym is)
shifts k n m base false None is = refl

-- past another array
named_past : (k n m base : ℕ) (here there : Bool) (later before : Option Span) → later ≡ or_this before (one_span there m n) → base ≡ k + m
    → (if here then Some (record { base = 0; len = k }) else shifted k later)
    ≡ or_this (if here then Some (record { base = 0; len = k }) else shifted k before) (one_span there base n)
named_past k n m base true there later before same is = refl
named_past k n m base false there later before same is = ap (shifted k) same ∙ shifts k n m base there before is

noted_span : (y n base x : ℕ) (o : Option Noted)
    → spanned (noted y (record { base = base; len = n }) x o) ≡ or_this (spanned o) (one_span (nat_eq x y) base n)
noted_span y n base x (Some s) = refl
noted_span y n base x None = by (nat_eq x y) where
  here : Option Noted
  here = Some (record { base = base; len = n })

  by : (b : Bool) → spanned (if b then here else None) ≡ or_this None (one_span b base n)
  by true = refl
  by false = refl

narrow_still : (y n base x : ℕ) (o : Option Noted) (s : Noted) → base + n < 2 ^ 64
    → ((z : Noted) → o ≡ Some z → z.base + z.len < 2 ^ 64)
    → noted y (record { base = base; len = n }) x o ≡ Some s → s.base + s.len < 2 ^ 64
narrow_still y n base x (Some z) s narrow before at = before s at
narrow_still y n base x None s narrow before at = by (nat_eq x y) at where
  new : Noted
  new = record { base = base; len = n }

  by : (b : Bool) → (if b then Some new else None) ≡ Some s → s.base + s.len < 2 ^ 64
  by true e = subst (λ (z : Noted). z.base + z.len < 2 ^ 64) (some_same new s e) narrow
  by false e = absurd (let no : ◌≡◌ {A = Option Noted} None (Some s) = e in cc)

-- ---- Words

pub words_kept : (ds : List CodeDecl) (y n v : ℕ) → first_words (ds ++ code.Cell y n v ∷ []) ≡ first_words ds
words_kept [] y n v = refl
words_kept (code.Word z k u ∷ ds) y n v = ap (λ ns. replicate k u ++ ns) (words_kept ds y n v)
words_kept (code.Cell z k u ∷ ds) y n v = words_kept ds y n v

words_named_still : (x y n v : ℕ) (ds : List CodeDecl) → words_named x (ds ++ code.Cell y n v ∷ []) ≡ words_named x ds
words_named_still x y n v [] = refl
words_named_still x y n v (code.Word z k u ∷ ds) =
    ap (λ o. if nat_eq x z then Some (record { base = 0; len = k }) else shifted k o) (words_named_still x y n v ds)
words_named_still x y n v (code.Cell z k u ∷ ds) = words_named_still x y n v ds

pub words_added : (ds : List CodeDecl) (y n v : ℕ) → first_words (ds ++ code.Word y n v ∷ []) ≡ first_words ds ++ replicate n v
words_added [] y n v = append-nil (replicate n v)
words_added (code.Word z k u ∷ ds) y n v =
    ap (λ ns. replicate k u ++ ns) (words_added ds y n v) ∙ sym (append_assoc (replicate k u) (first_words ds) (replicate n v))
words_added (code.Cell z k u ∷ ds) y n v = words_added ds y n v

words_named_more : (x y n v : ℕ) (ds : List CodeDecl)
    → words_named x (ds ++ code.Word y n v ∷ []) ≡ or_this (words_named x ds) (one_span (nat_eq x y) (length (first_words ds)) n)
words_named_more x y n v [] = by (nat_eq x y) where
  by : (b : Bool) → (if b then Some (record { base = 0; len = n }) else shifted n None) ≡ or_this None (one_span b 0 n)
  by true = refl
  by false = refl
words_named_more x y n v (code.Word z k u ∷ ds) =
    named_past k n (length (first_words ds)) (length (replicate k u ++ first_words ds)) (nat_eq x z) (nat_eq x y)
    (words_named x (ds ++ code.Word y n v ∷ [])) (words_named x ds) (words_named_more x y n v ds)
    (length-append (replicate k u) (first_words ds) ∙ ap (λ m. m + length (first_words ds)) (length-replicate k u))
words_named_more x y n v (code.Cell z k u ∷ ds) = words_named_more x y n v ds

-- ---- Cells

pub cells_kept : (ds : List CodeDecl) (y n v : ℕ) → first_cells (ds ++ code.Word y n v ∷ []) ≡ first_cells ds
cells_kept [] y n v = refl
cells_kept (code.Cell z k u ∷ ds) y n v = ap (λ ns. replicate k u ++ ns) (cells_kept ds y n v)
cells_kept (code.Word z k u ∷ ds) y n v = cells_kept ds y n v

cells_named_still : (x y n v : ℕ) (ds : List CodeDecl) → cells_named x (ds ++ code.Word y n v ∷ []) ≡ cells_named x ds
cells_named_still x y n v [] = refl
cells_named_still x y n v (code.Cell z k u ∷ ds) =
    ap (λ o. if nat_eq x z then Some (record { base = 0; len = k }) else shifted k o) (cells_named_still x y n v ds)
cells_named_still x y n v (code.Word z k u ∷ ds) = cells_named_still x y n v ds

pub cells_added : (ds : List CodeDecl) (y n v : ℕ) → first_cells (ds ++ code.Cell y n v ∷ []) ≡ first_cells ds ++ replicate n v
cells_added [] y n v = append-nil (replicate n v)
cells_added (code.Cell z k u ∷ ds) y n v =
    ap (λ ns. replicate k u ++ ns) (cells_added ds y n v) ∙ sym (append_assoc (replicate k u) (first_cells ds) (replicate n v))
cells_added (code.Word z k u ∷ ds) y n v = cells_added ds y n v

cells_named_more : (x y n v : ℕ) (ds : List CodeDecl)
    → cells_named x (ds ++ code.Cell y n v ∷ []) ≡ or_this (cells_named x ds) (one_span (nat_eq x y) (length (first_cells ds)) n)
cells_named_more x y n v [] = by (nat_eq x y) where
  by : (b : Bool) → (if b then Some (record { base = 0; len = n }) else shifted n None) ≡ or_this None (one_span b 0 n)
  by true = refl
  by false = refl
cells_named_more x y n v (code.Cell z k u ∷ ds) =
    named_past k n (length (first_cells ds)) (length (replicate k u ++ first_cells ds)) (nat_eq x z) (nat_eq x y)
    (cells_named x (ds ++ code.Cell y n v ∷ [])) (cells_named x ds) (cells_named_more x y n v ds)
    (length-append (replicate k u) (first_cells ds) ∙ ap (λ m. m + length (first_cells ds)) (length-replicate k u))
cells_named_more x y n v (code.Word z k u ∷ ds) = cells_named_more x y n v ds

-- ---- one declaration more

pub word_more : (ds : List CodeDecl) (y n v : ℕ) (old new : Laid) → IsLaid ds old
    → new.words.items ≡ old.words.items ++ replicate n v
    → ((x : ℕ) → span_in new.spans.words.items x ≡ noted y (record { base = length old.words.items; len = n }) x (span_in old.spans.words.items x))
    → length old.words.items + n < 2 ^ 64 → new.cells.items ≡ old.cells.items → new.spans.cells.items ≡ old.spans.cells.items
    → IsLaid (ds ++ code.Word y n v ∷ []) new
word_more ds y n v old new is laid spans narrow others other_spans = record {
  words = laid ∙ ap (λ ns. ns ++ replicate n v) is.words ∙ sym (words_added ds y n v);
  cells = others ∙ is.cells ∙ sym (cells_kept ds y n v);
  spans = record {
    words = λ x. ap spanned (spans x)
        ∙ noted_span y n (length old.words.items) x (span_in old.spans.words.items x)
        ∙ ap (λ m. or_this (spanned (span_in old.spans.words.items x)) (one_span (nat_eq x y) m n)) (ap length is.words)
        ∙ ap (λ o. or_this o (one_span (nat_eq x y) (length (first_words ds)) n)) (is.spans.words x)
        ∙ sym (words_named_more x y n v ds);
    cells = λ x. ap (λ l. spanned (span_in l x)) other_spans ∙ is.spans.cells x ∙ sym (cells_named_still x y n v ds);
  };
  narrow_words = λ x s at. narrow_still y n (length old.words.items) x (span_in old.spans.words.items x) s narrow (is.narrow_words x)
      (sym (spans x) ∙ at);
  narrow_cells = λ x s at. is.narrow_cells x s (sym (ap (λ l. span_in l x) other_spans) ∙ at);
}

pub cell_more : (ds : List CodeDecl) (y n v : ℕ) (old new : Laid) → IsLaid ds old
    → new.cells.items ≡ old.cells.items ++ replicate n v
    → ((x : ℕ) → span_in new.spans.cells.items x ≡ noted y (record { base = length old.cells.items; len = n }) x (span_in old.spans.cells.items x))
    → length old.cells.items + n < 2 ^ 64 → new.words.items ≡ old.words.items → new.spans.words.items ≡ old.spans.words.items
    → IsLaid (ds ++ code.Cell y n v ∷ []) new
cell_more ds y n v old new is laid spans narrow others other_spans = record {
  cells = laid ∙ ap (λ ns. ns ++ replicate n v) is.cells ∙ sym (cells_added ds y n v);
  words = others ∙ is.words ∙ sym (words_kept ds y n v);
  spans = record {
    cells = λ x. ap spanned (spans x)
        ∙ noted_span y n (length old.cells.items) x (span_in old.spans.cells.items x)
        ∙ ap (λ m. or_this (spanned (span_in old.spans.cells.items x)) (one_span (nat_eq x y) m n)) (ap length is.cells)
        ∙ ap (λ o. or_this o (one_span (nat_eq x y) (length (first_cells ds)) n)) (is.spans.cells x)
        ∙ sym (cells_named_more x y n v ds);
    words = λ x. ap (λ l. spanned (span_in l x)) other_spans ∙ is.spans.words x ∙ sym (words_named_still x y n v ds);
  };
  narrow_cells = λ x s at. narrow_still y n (length old.cells.items) x (span_in old.spans.cells.items x) s narrow (is.narrow_cells x)
      (sym (spans x) ∙ at);
  narrow_words = λ x s at. is.narrow_words x s (sym (ap (λ l. span_in l x) other_spans) ∙ at);
}

-- as the calls give it
pub word_added : {A E : Type 0} (r : Result A E) (d : CodeDecl) (y n v : ℕ) (old new : Laid) → d ≡ code.Word y n v
    → OnOk r (new.words.items ≡ old.words.items ++ replicate n v)
    → OnOk r ((x : ℕ) → span_in new.spans.words.items x ≡ noted y (record { base = length old.words.items; len = n }) x (span_in old.spans.words.items x))
    → OnOk r (length old.words.items + n < 2 ^ 64) → new.cells.items ≡ old.cells.items → new.spans.cells.items ≡ old.spans.cells.items
    → OnOk r ((ds : List CodeDecl) → IsLaid ds old → IsLaid (ds ++ d ∷ []) new)
word_added (Ok u) d y n v old new is laid spans narrow others other_spans =
    λ ds before. subst (λ e. IsLaid (ds ++ e ∷ []) new) (sym is) (word_more ds y n v old new before laid spans narrow others other_spans)
word_added (Err h) d y n v old new is laid spans narrow others other_spans = tt

pub cell_added : {A E : Type 0} (r : Result A E) (d : CodeDecl) (y n v : ℕ) (old new : Laid) → d ≡ code.Cell y n v
    → OnOk r (new.cells.items ≡ old.cells.items ++ replicate n v)
    → OnOk r ((x : ℕ) → span_in new.spans.cells.items x ≡ noted y (record { base = length old.cells.items; len = n }) x (span_in old.spans.cells.items x))
    → OnOk r (length old.cells.items + n < 2 ^ 64) → new.words.items ≡ old.words.items → new.spans.words.items ≡ old.spans.words.items
    → OnOk r ((ds : List CodeDecl) → IsLaid ds old → IsLaid (ds ++ d ∷ []) new)
cell_added (Ok u) d y n v old new is laid spans narrow others other_spans =
    λ ds before. subst (λ e. IsLaid (ds ++ e ∷ []) new) (sym is) (cell_more ds y n v old new before laid spans narrow others other_spans)
cell_added (Err h) d y n v old new is laid spans narrow others other_spans = tt

pub laid_more : (ds : List CodeDecl) (i : ℕ) (d : CodeDecl) (laid : Laid) → i < length ds
    → IsLaid (take i ds ++ get_or ds i d ∷ []) laid → IsLaid (take (i + 1) ds) laid
laid_more ds i d laid within more = subst (λ es. IsLaid es laid) (sym (take_more ds i d within)) more
