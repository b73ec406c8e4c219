-- A text without a program spells a machine and its proofs alone.
use Rattle.std.proofs.Common.{◌≡◌, ℕ, List, [], Option, Some, None, refl, sym, ap, subst, ◌∙◌, ◌⊎◌, inl, inr}
use Rattle.sync_lex.specs.declared.terminals.Terminal.{Terminal}
use Rattle.sync_parse_forms.specs.Relations.{Spelled, Then, Either, Yields}
use Rattle.sync_parse_forms.specs.Relations.Either.{the_one, the_other}
use Rattle.sync_parse_grammar.specs.Texts as machines
use Rattle.sync_parse_programs.specs.declared.statements.RawProgram.{RawProgram}
use Rattle.sync_parse_texts.specs.declared.text_reader.RawWholeText.{RawWholeText}
use Rattle.sync_parse_texts.specs.SpelledPrograms as programs
use Rattle.sync_parse_texts.specs.Texts.{program_part}
use Rattle.sync_parse_texts.specs.Spelled.{WholeText, Spells}
use Rattle.sync_parse.specs.declared.trees.RawText.{RawText}

-- a text without its program
abbrev pub without_program : RawWholeText → RawText
without_program raw = record { machine = raw.machine; proofs = raw.proofs; names = raw.names }

-- one of two was spelled, and it is not the first
not_first : {A : Type 0} {m : Spelled A} {ts us : List Terminal} {x : A ⊎ Unit {0}} (f : A ⊎ Unit {0} → Option A) → ((y : A) → f (inl y) ≡ Some y)
    → Either (Then m (λ y. Yields (inl y))) (Then (Yields tt) (λ u. Yields (inr u))) ts us x → None ≡ f x → ts ≡ us
not_first f some (the_one d) none = let e = none ∙ ap f d.next.is ∙ some d.value in absurd cc
not_first f some (the_other d) none = d.one.none ∙ d.next.none

abbrev option_of : RawProgram ⊎ Unit {0} → Option RawProgram
option_of (inl x) = Some x
option_of (inr u) = None

-- no program is spelled by no terminals
no_terminals : (ts rest : List Terminal) → programs.Spells program_part ts rest None → ts ≡ rest
unfolding program_part
no_terminals ts rest d = d.one.none ∙ not_first option_of (λ y. refl) d.next.one d.next.next.is ∙ d.next.next.none

pub machine_alone : (bytes : List ℕ) (raw : RawWholeText) → Spells bytes raw → raw.program ≡ None → machines.Spells bytes (without_program raw)
unfolding WholeText machines.Text
machine_alone bytes raw d none = (d.0, d.1, alone d.2, d.3) where
  alone : WholeText d.0.list [] (raw.machine, (raw.proofs, raw.program)) → machines.Text d.0.list [] (raw.machine, raw.proofs)
  alone t =
      let v = t.next in
      let m = v.next in
      let ps = m.next in
      let p = ps.next in
      let program : p.value ≡ None = sym (ap (λ x. x.1.1) p.next.is) ∙ none in
      record {
        value = t.value;
        middle = t.middle;
        one = t.one;
        next = record {
          value = v.value;
          middle = v.middle;
          one = v.one;
          next = record {
            value = m.value;
            middle = m.middle;
            one = m.one;
            next = record { value = ps.value; middle = ps.middle; one = ps.one; next = record { none = no_terminals ps.middle p.middle (subst (λ x. programs.Spells program_part ps.middle p.middle x) program p.one) ∙ p.next.none; is = ap (λ x. (x.0, x.1.0)) p.next.is } };
          };
        };
      }
