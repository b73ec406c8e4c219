-- The first rule that a text breaks, layer by layer; each layer gives nothing, or the first line and rule of its own.
use Rattle.std.specs.Prelude.{◌≡◌, ℕ, List, Option, Some, None, Result, Ok, Err}
use Rattle.sync_base.specs.declared.stops.Refusal.{Refusal}
use Rattle.sync_base.specs.Outcome.{first}
use Rattle.sync_lex.specs.declared.terminals.Terminals.{Terminals}
use Rattle.sync_lex.specs.Terminals.{terminals_in}
use Rattle.sync_parse.specs.Faults.{refused}
use Rattle.sync_parse_texts.specs.declared.text_reader.RawWholeText.{RawWholeText}
use Rattle.sync_parse_texts.specs.Texts.{sections_of, whole_text}
use Rattle.sync_rules.specs.Faults.{strategy_fault}
use Rattle.sync_induct.specs.Checks.{proof_fault}
use Rattle.sync_check.specs.Texts.{TextTree, resolved_whole, unbuilt, built_text_in}
use Rattle.sync_check.specs.Checking.{verdict_of}
use Rattle.sync_check.specs.Listing.{obligation_lines, listing_of}

abbrev pub fault_in : {A : Type 0} → Result A Refusal → Option Refusal
fault_in (Ok x) = None
fault_in (Err r) = Some r

-- what a layer says of what the layers below it give; nothing where they refuse
abbrev pub behind : {A : Type 0} → Result A Refusal → (A → Option Refusal) → Option Refusal
behind (Ok x) fault = fault x
behind (Err r) fault = None

-- L: of the bytes
abbrev pub lex_fault : List ℕ → Option Refusal
lex_fault bytes = fault_in (terminals_in bytes)

-- G: of the terminals
abbrev pub grammar_fault : List ℕ → Option Refusal
grammar_fault bytes = behind (terminals_in bytes) (λ (ws : Terminals). fault_in (refused ws.last_line (sections_of ws.list)))

-- N: of the raw tree
abbrev pub name_fault : List ℕ → Option Refusal
name_fault bytes = behind (whole_text bytes) (λ (raw : RawWholeText). fault_in (resolved_whole raw))

-- G9: of a program, which is not built yet
abbrev pub unbuilt_fault : List ℕ → Option Refusal
unbuilt_fault bytes = behind (whole_text bytes) (λ (raw : RawWholeText). behind (resolved_whole raw) (λ (t : TextTree). unbuilt raw.program))

-- the first of these four
abbrev pub reading_fault : List ℕ → Option Refusal
reading_fault bytes = first (lex_fault bytes) (first (grammar_fault bytes) (first (name_fault bytes) (unbuilt_fault bytes)))

-- S: of the machine
abbrev pub rules_fault : List ℕ → Option Refusal
rules_fault bytes = behind (built_text_in bytes) (λ (t : TextTree). strategy_fault t.machine)

-- S, and then I and K: of the machine and of its proofs
abbrev pub machine_faults : List ℕ → Option Refusal
machine_faults bytes = behind (built_text_in bytes) (λ (t : TextTree). first (strategy_fault t.machine) (proof_fault t.machine t.proofs))

-- the first rule that a text breaks
abbrev pub first_fault : List ℕ → Option Refusal
first_fault bytes = first (reading_fault bytes) (machine_faults bytes)

abbrev pub KeepsRules : List ℕ → Type 0
KeepsRules bytes = first_fault bytes ≡ None

-- The verdict refuses a text with its first fault, and accepts it where it has none.
pub record VerdictIsFirstFault (bytes : List ℕ) : Type 0 where
  pub refuses : (r : Refusal) → first_fault bytes ≡ Some r → verdict_of bytes ≡ Err r
  pub accepts : KeepsRules bytes → (scripts : ℕ) × (verdict_of bytes ≡ Ok scripts)

-- the first rule that a text breaks, but for those of its proofs
abbrev pub first_listing_fault : List ℕ → Option Refusal
first_listing_fault bytes = first (reading_fault bytes) (rules_fault bytes)

-- The listing refuses a text with the first of these, and lists what has to be proved of its machine where it has none.
pub record ListingIsFirstFault (bytes : List ℕ) : Type 0 where
  pub refuses : (r : Refusal) → first_listing_fault bytes ≡ Some r → listing_of bytes ≡ Err r
  pub lists : first_listing_fault bytes ≡ None → (t : TextTree) × (built_text_in bytes ≡ Ok t) × (listing_of bytes ≡ Ok (obligation_lines t))
