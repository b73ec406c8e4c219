-- What typing asks of an exchange, over the terms of its tokens, is what the laws of exchanges of terms ask.
use Rattle.std.specs.Prelude.{◌≡◌, ◌↔◌, ℕ, true, List, [], filter_map, Option, Some, None, option_map, unwrap_or}
use Rattle.std.specs.List.{AllByRecursion, Contains}
use Rattle.sync_terms.specs.Trees.{Tree, Name, Formula}
use Rattle.sync_terms.specs.Values.{Valuation, Holds}
use Rattle.sync_machine.specs.declared.fields.Field.{Field}
use Rattle.sync_machine.specs.Machines.{OperationTree}
use Rattle.sync_machine.specs.Naming.{machine_fault, AreTextNames}
use Rattle.sync_machine.specs.States.{IsInit}
use Rattle.sync_rules.specs.Faults.{strategy_fault}
use Rattle.sync_join.specs.Shards.{IsToken}
use Rattle.sync_thread.specs.Arrays.{token_numbers}
use Rattle.sync_thread.specs.Programs.{DoTree}
use Rattle.sync_thread_machine.specs.MachineWithProgram.{MachineWithProgram, fields_of, decls_of}
use Rattle.sync_typing.specs.Dues.{Due, Wants, Makes, Owes, Alone, Spare}
use Rattle.sync_typing.specs.Environments.{Env, TokenTree}
use Rattle.sync_typing.specs.Exchanging.{Deal, deal_of, parts_of, token_dues}
use Rattle.sync_typing.specs.Symbols.{named_by}
use Rattle.sync_exchange_laws.specs.Terms.{TokenTerms, HeldTerms, token_under, terms_as}
use Rattle.sync_exchange_laws.specs.WholeTerms.{exchange_dues}

-- the token of an exchange of terms that a token of typing is
abbrev pub as_terms : TokenTree → TokenTerms
as_terms t = record { field = t.field; key = t.key; value = t.value }

-- each name has the same token in a hand of terms
abbrev pub IsHandOf : (ℕ → Option TokenTree) → List HeldTerms → Type 0
IsHandOf tokens hand = (n : ℕ) → terms_as n hand ≡ option_map as_terms (tokens n)

-- under a valuation each token is a permission, or a token of its field
abbrev pub AreTokens : List Field → Valuation → (ℕ → Option TokenTree) → Type 0
AreTokens fs v tokens = (n : ℕ) (t : TokenTree) → tokens n ≡ Some t → IsToken fs (token_under v (as_terms t))

-- what a name of the operation stands for where typing has gone through its slots
abbrev pub stands_for : Deal → ℕ → Tree
stands_for d x = unwrap_or (named_by d.names x) (Name x)

-- the formulas that are owed
abbrev pub owed_by : Due → Option Formula
owed_by (Owes rule form) = Some form
owed_by (Alone rule form scripts) = Some form
owed_by (Wants rule test) = None
owed_by (Makes term) = None
owed_by (Spare scripts) = None

abbrev pub owed : List Due → List Formula
owed ds = filter_map owed_by ds

-- the test is true, where there is one
abbrev pub IsPassed : Due → Type 0
IsPassed (Wants rule test) = test ≡ true
IsPassed (Owes rule form) = Unit {0}
IsPassed (Alone rule form scripts) = Unit {0}
IsPassed (Makes term) = Unit {0}
IsPassed (Spare scripts) = Unit {0}

-- Where each token that a transition or property asks for is at hand, asked for once and of its field, what typing owes
-- holds under a valuation exactly where the dues of the exchange of terms do, with what its names stand for in typing.
abbrev pub DealsAskAlike : Type 0
DealsAskAlike = (x : MachineWithProgram) → AreTextNames x.machine → machine_fault x.machine ≡ None
    → strategy_fault x.machine ≡ None
    → (o : OperationTree) → Contains x.machine.ops o → (IsInit o → ⊥)
    → (d : DoTree) (e : Env) (v : Valuation) (hand : List HeldTerms) → IsHandOf e.hand hand
    → AreTokens (fields_of x) v e.hand
    → AllByRecursion IsPassed (token_dues e [] (parts_of (fields_of x) o) (token_numbers (decls_of x) d.tokens))
    → AllByRecursion (Holds v) (owed (deal_of x o d e).dues)
    ↔ AllByRecursion (Holds v)
    (exchange_dues (fields_of x) (stands_for (deal_of x o d e)) o (token_numbers (decls_of x) d.tokens) d.given hand)
