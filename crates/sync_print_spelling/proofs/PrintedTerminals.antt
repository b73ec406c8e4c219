-- The terminals of what is printed of lexemes say these lexemes; a longer text than the limit is refused.
use Rattle.std.proofs.Common.{◌≡◌, ◌<◌, ◌≤◌, ℕ, All, List, [], length, Ok, Err, refl, ap, ◌∙◌, le-ltb, lt-ltb}
use Rattle.sync_base.specs.Limits.{longest_text}
use Rattle.sync_base.specs.declared.names.NameList.{NameList}
use Rattle.sync_base.specs.declared.stops.Rule.TheVariants.{L1}
use Rattle.sync_base.specs.Outcome.{◌>>=◌}
use Rattle.sync_lex.specs.Lexemes.{lexemes_from, lexemes_of}
use Rattle.sync_lex.specs.declared.terminals.Terminal.{Terminal}
use Rattle.sync_lex.specs.declared.terminals.Terminals.{Terminals}
use Rattle.sync_base.specs.declared.names.Name.{Name}
use Rattle.sync_lex.specs.Terminals.{terminals_of, terminals_in}
use Rattle.sync_print.specs.Lexemes.{Lexeme, printed}
use Rattle.sync_print_spelling.specs.Namings.{names_said, in_order, LexemeFits}
use Rattle.sync_print_spelling.specs.Names.{AreNames}
use Rattle.sync_print_spelling.proofs.TrueNames.{ArePrinted}
use Rattle.sync_print_spelling.proofs.ReadRuns.{runs}

within : (text : List ℕ) → length text ≤ longest_text → lexemes_of text ≡ lexemes_from 0 1 0 text
unfolding lexemes_of
within text le = rw (le-ltb longest_text (length text) le) refl

pub printed_terminals_in : (names : NameList) → AreNames names.list → (xs : List Lexeme) → All (LexemeFits names) xs → length (printed names xs) ≤ longest_text
    → (ws : Terminals) × ArePrinted names xs ws
unfolding terminals_in terminals_of
printed_terminals_in names are xs fits short =
    let text = printed names xs in
    let run = runs names are xs fits 0 1 in
    let are_terminals = run.terminals text refl [] [] in
    let ws : Terminals = record { list = are_terminals.terminals; names = record { list = in_order [] (names_said names xs) }; last_line = run.last } in (
      ws,
      record {
        terminals_in =
            ap (λ r. r >>= λ t. (let w = terminals_of text t.0 in Ok (record { list = w.0; names = record { list = w.1 }; last_line = t.1 }))) (within text short ∙ run.lexed)
            ∙ ap (λ (w : List Terminal × List Name). Ok (record { list = w.0; names = record { list = w.1 }; last_line = run.last })) are_terminals.read;
        named = refl;
        says = are_terminals.says;
      },
    )

pub too_long : (text : List ℕ) → longest_text < length text → terminals_in text ≡ Err (record { line = 1; rule = L1 })
unfolding terminals_in lexemes_of
too_long text over = rw (lt-ltb longest_text (length text) over) refl
