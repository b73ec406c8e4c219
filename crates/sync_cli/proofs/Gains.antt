-- What a sink gained by one write after another.
use Rattle.std.proofs.Common.{◌≡◌, ℕ, suc, ◌+◌, ◌<◌, List, [], ◌∷◌, ◌++◌, length, get_or, take, drop, Option, Some, None, refl, ap, sym, ◌∙◌, append_assoc, length-append, length-drop, add-one, ◌-◌, Result, OnErr, Ok, Err, arith}
use Rattle.std.specs.List.{concat}
use Rattle.std.proofs.lemmas.List.{take-append-drop, take-append-le, take_all}
use Rattle.std.proofs.Math.Seq.{take-append_seam, take-append-add, drop-cons}
use Rattle.std.proofs.lemmas.Grind.{common_steps}
use Rattle.sync_base.specs.Outside.{gained}
use Rattle.sync_cli.specs.Streams.{GainsPart}

-- no byte changes nothing
pub gained-nil : (old : Option (List ℕ)) → gained old [] ≡ old
gained-nil None = refl
gained-nil (Some bytes) = grind (arith, common_steps)

-- one write after another gives both their bytes
pub gained-gained : (old : Option (List ℕ)) (front back : List ℕ) → gained (gained old front) back ≡ gained old (front ++ back)
gained-gained None front back = refl
gained-gained (Some bytes) front back = ap (λ xs. Some xs) (append_assoc bytes front back)

-- what a loop has written so far: the line is a front that the sink gained, and the rest
pub record HasWritten (old new : Option (List ℕ)) (line rest : List ℕ) : Type 0 where
  pub front : List ℕ
  pub cut : line ≡ front ++ rest
  pub written : new ≡ gained old front

pub HasWritten-start : (old : Option (List ℕ)) (line : List ℕ) → HasWritten old old line line
HasWritten-start old line = record { front = []; cut = refl; written = sym (gained-nil old) }

pub HasWritten-more : (old mid new : Option (List ℕ)) (line rest : List ℕ) (count : ℕ) → HasWritten old mid line rest → new ≡ gained mid (take count rest) → HasWritten old new line (take (length rest - count) (drop count rest))
HasWritten-more old mid new line rest count h e = record {
  front = h.front ++ take count rest;
  cut =
      h.cut ∙ ap (λ xs. h.front ++ xs) (sym (take-append-drop count rest))
      ∙ sym (append_assoc h.front (take count rest) (drop count rest))
      ∙ ap (λ xs. (h.front ++ take count rest) ++ xs) (sym whole);
  written = e ∙ ap (λ o. gained o (take count rest)) h.written ∙ gained-gained old h.front (take count rest);
}
  where
    whole : take (length rest - count) (drop count rest) ≡ drop count rest
    whole = take_all _ _ (omega (arith, length-drop count rest))

pub HasWritten-end : (old new : Option (List ℕ)) (line rest : List ℕ) → HasWritten old new line rest → length rest ≡ 0 → new ≡ gained old line
HasWritten-end old new line [] h e = h.written ∙ ap (λ xs. gained old xs) (grind (arith, common_steps))
HasWritten-end old new line (x ∷ rest) h e = absurd (omega arith)

pub HasWritten-part : (old mid new : Option (List ℕ)) (line rest : List ℕ) → HasWritten old mid line rest → 0 < length rest → new ≡ mid → GainsPart old new line
HasWritten-part old mid new line rest h pos e = (
  length h.front,
  omega (arith, ap length h.cut, length-append h.front rest),
  e ∙ h.written ∙ ap (λ xs. gained old xs) (sym (ap (take (length h.front)) h.cut ∙ take-append_seam h.front rest)),
)

-- a whole line was written, which stands in front of what was left
pub HasWritten-line : (old mid new : Option (List ℕ)) (text rest line after : List ℕ) → HasWritten old mid text rest → rest ≡ line ++ after → new ≡ gained mid line → HasWritten old new text after
HasWritten-line old mid new text rest line after h cut e = record {
  front = h.front ++ line;
  cut = h.cut ∙ ap (λ xs. h.front ++ xs) cut ∙ sym (append_assoc h.front line after);
  written = e ∙ ap (λ o. gained o line) h.written ∙ gained-gained old h.front line;
}

-- a part of a line was written, which stands in front of what was left
pub HasWritten-cut : (old mid new : Option (List ℕ)) (text rest line after : List ℕ) → HasWritten old mid text rest → rest ≡ line ++ after → GainsPart mid new line → GainsPart old new text
HasWritten-cut old mid new text rest line after h cut (count, below, e) = (
  length h.front + count,
  omega (arith, ap length whole, length-append h.front (line ++ after), length-append line after, below),
  e ∙ ap (λ o. gained o (take count line)) h.written ∙ gained-gained old h.front (take count line) ∙ ap (λ xs. gained old xs) (sym part),
)
  where
    whole : text ≡ h.front ++ (line ++ after)
    whole = h.cut ∙ ap (λ xs. h.front ++ xs) cut

    part : take (length h.front + count) text ≡ h.front ++ take count line
    part =
        ap (take (length h.front + count)) whole ∙ take-append-add h.front (line ++ after) count
        ∙ ap (λ xs. h.front ++ xs) (take-append-le count line after (omega (arith, below)))

-- what is left of lines is the next one and what is left behind it
pub concat-drop : (lines : List (List ℕ)) (i : ℕ) (line item : List ℕ) → i < length lines → item ≡ get_or lines i item → line ≡ item → concat (drop i lines) ≡ line ++ concat (drop (i + 1) lines)
concat-drop lines i line item within is same =
    ap concat (drop-cons lines i item within)
    ∙ ap (λ xs. xs ++ concat (drop (suc i) lines)) (sym (same ∙ is))
    ∙ ap (λ n. line ++ concat (drop n lines)) (sym (add-one i))

-- a fact that holds holds for an error too
pub OnErr-always : {A E : Type 0} (P : Type 0) (r : Result A E) → P → OnErr r P
OnErr-always P (Ok x) h = tt
OnErr-always P (Err e) h = h
