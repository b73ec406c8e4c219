-- The lines that sums have computed, while one more is computed.
use Rattle.std.proofs.Common.{◌≡◌, Bool, true, false, cond, Option, Some, None, refl, sym, ap, subst, ◌∙◌}
use Rattle.std.specs.Prelude.{option_map, if◌then◌else◌}
use Rattle.std.proofs.lemmas.Bool.{cond-true, cond-false}
use Rattle.sync_terms.specs.Stored.{Stored}
use Rattle.sync_linear.specs.Lines.{Line}
use Rattle.sync_linear.specs.Forms.{Narrow}
use Rattle.sync_linear.specs.Stores.{IsLineOf}
use Rattle.sync_kernel_facts.specs.declared.literals.Literal.{Literal}
use Rattle.sync_kernel_facts.specs.declared.branches.Known.{Known}
use Rattle.sync_kernel.specs.declared.rows.Shape.{Shape}
use Rattle.sync_kernel.specs.Shapes.{row_shaped}
use Rattle.sync_kernel_facts.proofs.Trailing.{literal_is}
use Rattle.sync_kernel_facts.specs.Literals.{literal_form, IsLiteral, same_literal}
use Rattle.sync_kernel.specs.Rows.{Row, row_of}
use Rattle.sync_terms.proofs.Extending.{Extends-refl}
use Rattle.sync_kernel.specs.declared.lines.Lines.{Lines}
use Rattle.sync_kernel.specs.SumLines.{IsRowLine, WasLine, line_in, WereLines}

pub no_lines : (s : Stored) (lines : Lines) → ((l : Literal) → line_in lines l ≡ None) → WereLines s lines
no_lines s lines e = λ l x h. absurd (cc (e l))

-- the line of a literal of the store
pub is_line : (s : Stored) (l : Literal) (x : Line) → IsLiteral s l → IsRowLine s (row_of (literal_form s l)) x → WasLine s l x
is_line s l x stored h = record { first = s; grew = Extends-refl s; stored = stored; line = h }

pub lines_more : (s : Stored) (old new : Lines) (says : Literal) (row : Line) → WereLines s old → ((l : Literal) → line_in new l ≡ cond (same_literal says l) (Some row) (line_in old l)) → WasLine s says row → WereLines s new
lines_more s old new says row h is r = λ l x e. by l x (same_literal says l) refl e
  where
    by : (l : Literal) (x : Line) (b : Bool) → same_literal says l ≡ b → line_in new l ≡ Some x → WasLine s l x
    by l x true q e =
        let same : row ≡ x = cc (sym (cond-true (same_literal says l) (Some row) (line_in old l) q) ∙ sym (is l) ∙ e) in
        subst (λ (y : Line). WasLine s l y) same (subst (λ (k : Literal). WasLine s k row) (literal_is says l q) r)
    by l x false q e = h l x (sym (cond-false (same_literal says l) (Some row) (line_in old l) q) ∙ sym (is l) ∙ e)

pub row_line : (s : Stored) (o : Option Row) (r : Row) (x : Line) → o ≡ Some r → IsRowLine s o x → IsLineOf s r.line x × Narrow r.line
row_line s o r x e h = let p : IsRowLine s (Some r) x = subst (λ (y : Option Row). IsRowLine s y x) e h in p

pub is_row_line : (s : Stored) (o : Option Row) (r : Row) (x : Line) → o ≡ Some r → IsLineOf s r.line x → Narrow r.line → IsRowLine s o x
is_row_line s o r x e i n = subst (λ (y : Option Row). IsRowLine s y x) (sym e) (i, n)

-- the line that a part wants
pub shape_row : (s : Stored) (k : Known) (shape : Option Shape) (sh : Shape) → option_map (row_shaped s) shape ≡ (if k.plain then row_of (literal_form s k.says) else None) → shape ≡ Some sh → row_of (literal_form s k.says) ≡ Some (row_shaped s sh)
shape_row s k shape sh e is = by k.plain (sym (ap (option_map (row_shaped s)) is) ∙ e)
  where
    by : (b : Bool) → Some (row_shaped s sh) ≡ (if b then row_of (literal_form s k.says) else None) → row_of (literal_form s k.says) ≡ Some (row_shaped s sh)
    by true q = sym q
    by false q = absurd (cc)
