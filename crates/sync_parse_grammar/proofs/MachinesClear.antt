-- No terminals spell two machines, and no bytes two raw trees.
use Rattle.std.proofs.Common.{◌≡◌, ℕ, List, [], ◌∷◌, Result, Ok, refl, sym, ap, ◌∙◌}
use Rattle.sync_base.specs.declared.stops.Refusal.{Refusal}
use Rattle.sync_lex.specs.declared.signs.Sign.{Sign}
use Rattle.sync_lex.specs.declared.signs.Sign.TheVariants as sign
use Rattle.sync_lex.specs.declared.terminals.Terminals.{Terminals}
use Rattle.sync_parse_exprs.specs.declared.raw_names.RawName.{RawName}
use Rattle.sync_parse_exprs.specs.declared.expressions.RawExpr.{RawExpr}
use Rattle.sync_parse.specs.declared.trees.RawText.{RawText}
use Rattle.sync_parse.specs.declared.trees.RawMachine.{RawMachine}
use Rattle.sync_parse.specs.declared.trees.RawInvariant.{RawInvariant}
use Rattle.sync_parse.specs.declared.trees.RawOperation.{RawOperation}
use Rattle.sync_parse.specs.declared.trees.RawAct.{RawAct}
use Rattle.sync_parse.specs.declared.trees.RawAct.TheVariants as act
use Rattle.sync_parse.specs.declared.trees.RawPlace.{RawPlace}
use Rattle.sync_parse_forms.specs.Relations.{Spelled, Then, Closed, Many}
use Rattle.sync_parse_grammar.specs.Expressions.{AnExpr}
use Rattle.sync_parse_grammar.specs.Machines.{Pattern, Place, FormulaAct, ValueAct, FieldPlace, PlaceAct, HaveAct, ActKind, Act, Field, Mode, Operation, Invariant, Machine, Claim, Proof, Proofs}
use Rattle.sync_parse_grammar.specs.Texts.{Version, Text, Spells}
use Rattle.sync_parse_forms.specs.Fronts.{code, Set, any, only, among, both, others}
use Rattle.sync_parse_forms.proofs.Clears.{In, only_in, among_in, both_in, same_in, any_in, Starts, Follows, Clear, Fork, lone, fork_or, starts_then, starts_here, starts_the, starts_name, follows_starts, follows_yields, follows_or, follows_then, follows_many, clear_the, clear_name, clear_number, clear_strategy, clear_yields, clear_here, clear_then, clear_next, clear_optional, clear_many, clear_closed, clear_names}
use Rattle.sync_parse_grammar.proofs.ExpressionsClear.{operators, begins, clear_expr, starts_expr}
use Rattle.sync_parse_grammar.proofs.ScriptsClear.{clear_script}

-- ---- statements

pub pattern_fork : Fork (others operators) (both (only (code sign.Question)) begins) Pattern Pattern
unfolding Pattern
pattern_fork = fork_or (lone (clear_next clear_the λ q. clear_next clear_name λ n. clear_yields) (starts_then starts_the))
    (lone (clear_then (others operators) clear_expr (λ e. clear_yields) (λ e. follows_yields same_in) (λ e. follows_yields same_in)) (starts_then starts_expr)) (only_in _ refl)

pub clear_pattern : Clear (others operators) Pattern Pattern
clear_pattern = pattern_fork.clear

pub clear_place : {q : Set} → Clear q Place Place
unfolding Place
clear_place = (fork_or
    (lone (clear_next clear_the λ o. clear_then (others operators) clear_pattern (λ p. clear_next clear_the λ e. clear_yields)
    (λ p. follows_starts (starts_then starts_the) (only_in _ refl)) (λ p. follows_starts (starts_then starts_the) (only_in _ refl))) (starts_then (starts_the {s = sign.OpenRound})))
    (lone (clear_next clear_the λ o.
    clear_then (others operators) clear_expr
    (λ k. clear_then (only (code sign.CloseSquare))
    (clear_optional (clear_next clear_the λ m. clear_then (others operators) clear_pattern (λ p. clear_yields) (λ p. follows_yields (only_in _ refl)) (λ p. follows_yields (only_in _ refl)))
    (starts_then (starts_the {s = sign.MapsTo})) (starts_then (starts_the {s = sign.MapsTo})) (only_in _ refl))
    (λ x. clear_next clear_the λ e. clear_yields)
    (λ x. follows_starts (starts_then starts_the) same_in) (λ x. follows_starts (starts_then starts_the) same_in))
    (λ k. follows_then (only (code sign.CloseSquare)) (follows_or (follows_yields (only_in _ refl)) (follows_starts (starts_then (starts_the {s = sign.MapsTo})) (only_in _ refl)))
    (λ x. follows_starts (starts_then starts_the) same_in))
    (λ k. follows_then (only (code sign.CloseSquare)) (follows_or (follows_yields (only_in _ refl)) (follows_starts (starts_then (starts_the {s = sign.MapsTo})) (only_in _ refl)))
    (λ x. follows_starts (starts_then starts_the) same_in))) (starts_then (starts_the {s = sign.OpenSquare})))
    (only_in _ refl)).clear

closed_expr : {q : Set} → Clear q (Closed AnExpr) (Closed AnExpr)
closed_expr = clear_closed (others operators) clear_expr refl

closed_place : {q : Set} → Clear q (Closed Place) (Closed Place)
closed_place = clear_closed any clear_place refl

pub formula_fork : {q : Set} (opening : Sign) (made : RawExpr → RawAct) → Fork q (only (code opening)) (FormulaAct opening made) (FormulaAct opening made)
unfolding FormulaAct
formula_fork opening made = lone (clear_next clear_the λ w. clear_next closed_expr λ e. clear_yields) (starts_then starts_the)

pub value_fork : {q : Set} (opening : Sign) (made : RawName → RawExpr → RawAct) → Fork q (only (code opening)) (ValueAct opening made) (ValueAct opening made)
unfolding ValueAct
value_fork opening made = lone (clear_next clear_the λ w. clear_next clear_name λ n. clear_next clear_the λ q. clear_next closed_expr λ e. clear_yields) (starts_then starts_the)

pub field_place_fork : {q : Set} (opening symbol : Sign) → Fork q (only (code opening)) (FieldPlace opening symbol) (FieldPlace opening symbol)
unfolding FieldPlace
field_place_fork opening symbol = lone (clear_next clear_the λ w. clear_next clear_name λ n. clear_next clear_the λ q. clear_next closed_place λ p. clear_yields) (starts_then starts_the)

pub place_fork : {q : Set} (opening symbol : Sign) (made : RawName → RawPlace → RawAct) → Fork q (only (code opening)) (PlaceAct opening symbol made) (PlaceAct opening symbol made)
unfolding PlaceAct
place_fork opening symbol made = lone (clear_next (field_place_fork opening symbol).clear λ x. clear_yields) (starts_then (field_place_fork {q = any} opening symbol).left)

pub have_fork : {q : Set} → Fork q (only (code sign.Have)) HaveAct HaveAct
unfolding HaveAct
have_fork = lone (clear_next clear_the λ w. clear_next clear_name λ n.
    (fork_or (lone (clear_next clear_the λ s. clear_yields) (starts_then (starts_the {s = sign.Semicolon})))
    (lone (clear_next clear_the λ q. clear_next closed_place λ p. clear_yields) (starts_then (starts_the {s = sign.AtLeast}))) (only_in _ refl)).clear) (starts_then starts_the)

abbrev pub act_signs : Set
act_signs = both (only (code sign.Init)) (both (only (code sign.Require)) (both (only (code sign.Assert)) (both (only (code sign.Update)) (both (only (code sign.Have)) (both (only (code sign.Guard))
    (both (only (code sign.Add)) (both (only (code sign.Deposit)) (both (only (code sign.Remove)) (only (code sign.Withdraw))))))))))

act_fork : {q : Set} → Fork q act_signs ActKind ActKind
unfolding ActKind
act_fork =
    fork_or (value_fork sign.Init act.Init) (fork_or (formula_fork sign.Require act.Require) (fork_or (formula_fork sign.Assert act.Assert) (fork_or (value_fork sign.Update act.Update)
    (fork_or have_fork (fork_or (place_fork sign.Guard sign.AtLeast act.Guard) (fork_or (place_fork sign.Add sign.PlusEqual act.Add) (fork_or (place_fork sign.Deposit sign.PlusEqual act.Deposit)
    (fork_or (place_fork sign.Remove sign.MinusEqual act.Remove) (place_fork sign.Withdraw sign.MinusEqual act.Withdraw)
    (only_in _ refl)) (only_in _ refl)) (only_in _ refl)) (only_in _ refl)) (only_in _ refl)) (only_in _ refl)) (only_in _ refl)) (only_in _ refl)) (only_in _ refl)

pub clear_act : {q : Set} → Clear q Act Act
unfolding Act
clear_act = clear_next clear_here λ start. clear_next act_fork.clear λ x. clear_yields

pub starts_act : Starts Act act_signs
unfolding Act
starts_act = starts_here λ start. starts_then (act_fork {q = any}).left

-- ---- machines

pub field_fork : {q : Set} → Fork q (only (code sign.Field)) Field Field
unfolding Field
field_fork = lone (clear_next clear_the λ f. clear_next clear_name λ n. clear_next clear_the λ c. clear_next clear_strategy λ s. clear_next clear_the λ e. clear_yields) (starts_then starts_the)

abbrev pub modes : Set
modes = both (only (code sign.Init)) (both (only (code sign.Transition)) (only (code sign.Property)))

pub mode_fork : {q : Set} → Fork q modes Mode Mode
unfolding Mode
mode_fork = fork_or (lone (clear_next clear_the λ l. clear_yields) (starts_then starts_the))
    (fork_or (lone (clear_next clear_the λ l. clear_yields) (starts_then starts_the)) (lone (clear_next clear_the λ l. clear_yields) (starts_then starts_the)) (only_in _ refl)) (only_in _ refl)

pub operation_fork : {q : Set} → Fork q modes Operation Operation
unfolding Operation
operation_fork = lone (clear_next clear_here λ start. clear_next mode_fork.clear λ m. clear_next clear_name λ n. clear_next clear_names λ ps. clear_next clear_the λ o.
    clear_then (only (code sign.CloseBrace)) (clear_many {p = any} clear_act starts_act starts_act any_in any_in (only_in _ refl)) (λ xs. clear_next clear_the λ e. clear_yields)
    (λ xs. follows_starts (starts_then starts_the) same_in) (λ xs. follows_starts (starts_then starts_the) same_in)) (starts_here λ start. starts_then (mode_fork {q = any}).left)

pub invariant_fork : {q : Set} → Fork q (only (code sign.Invariant)) Invariant Invariant
unfolding Invariant
invariant_fork = lone (clear_next clear_the λ i. clear_next clear_name λ n. clear_next clear_names λ ps. clear_next clear_the λ c. clear_next closed_expr λ e. clear_yields) (starts_then starts_the)

-- what may follow the operations of a machine, and its fields
abbrev pub behind_operations : List ℕ
behind_operations = code sign.Invariant ∷ code sign.CloseBrace ∷ []

abbrev pub behind_fields : List ℕ
behind_fields = code sign.Init ∷ code sign.Transition ∷ code sign.Property ∷ behind_operations

pub invariants_follow : (g : List RawInvariant → Spelled RawMachine) → ((xs : List RawInvariant) → Starts (g xs) (only (code sign.CloseBrace))) → Follows any (among behind_operations) (Then (Many Invariant) g)
invariants_follow g s = follows_then (only (code sign.CloseBrace)) (follows_many (invariant_fork {q = any}).left (only_in _ refl) (only_in _ refl)) (λ xs. follows_starts (s xs) same_in)

pub operations_follow : (g : List RawOperation → Spelled RawMachine) → ((xs : List RawOperation) → Follows any (among behind_operations) (g xs)) → Follows any (among behind_fields) (Then (Many Operation) g)
operations_follow g f = follows_then (among behind_operations)
    (follows_many (operation_fork {q = any}).left (both_in (only_in _ refl) (both_in (only_in _ refl) (only_in _ refl))) (among_in behind_operations refl)) f

invariants_clear : {q : Set} {g : List RawInvariant → Spelled RawMachine} → ((xs : List RawInvariant) → Clear q (g xs) (g xs)) → ((xs : List RawInvariant) → Starts (g xs) (only (code sign.CloseBrace)))
    → Clear q (Then (Many Invariant) g) (Then (Many Invariant) g)
invariants_clear c s = clear_then (only (code sign.CloseBrace))
    (clear_many {p = any} invariant_fork.clear (invariant_fork {q = any}).left (invariant_fork {q = any}).left any_in any_in (only_in _ refl)) c
    (λ xs. follows_starts (s xs) same_in) (λ xs. follows_starts (s xs) same_in)

pub weaker : {A : Type 0} {m : Spelled A} {q p : Set} → Follows any p m → Follows q p m
weaker f = record { at = λ ts rest x d e. f.at ts rest x d refl }

pub clear_machine : {q : Set} → Clear q Machine Machine
unfolding Machine
clear_machine = clear_next clear_the λ m. clear_next clear_name λ n. clear_next clear_the λ o.
    clear_then (among behind_fields) (clear_many {p = any} field_fork.clear (field_fork {q = any}).left (field_fork {q = any}).left any_in any_in (among_in behind_fields refl))
    (λ fs. clear_then (among behind_operations)
    (clear_many {p = any} operation_fork.clear (operation_fork {q = any}).left (operation_fork {q = any}).left any_in any_in (among_in behind_operations refl))
    (λ ops. invariants_clear (λ is. clear_next clear_the λ e. clear_yields) (λ is. starts_then starts_the))
    (λ ops. weaker (invariants_follow _ (λ is. starts_then starts_the))) (λ ops. weaker (invariants_follow _ (λ is. starts_then starts_the))))
    (λ fs. weaker (operations_follow _ (λ ops. invariants_follow _ (λ is. starts_then starts_the))))
    (λ fs. weaker (operations_follow _ (λ ops. invariants_follow _ (λ is. starts_then starts_the))))

-- ---- proofs

clear_claim : {q : Set} → Clear q Claim Claim
unfolding Claim
clear_claim = (fork_or (lone (clear_next clear_the λ a. clear_next clear_number λ n. clear_yields) (starts_then (starts_the {s = sign.At})))
    (lone (clear_next clear_the λ k. clear_next clear_name λ n. clear_yields) (starts_then (starts_the {s = sign.Keeps}))) (only_in _ refl)).clear

pub proof_fork : {q : Set} → Fork q (only 1) Proof Proof
unfolding Proof
proof_fork = lone (clear_next clear_name λ n. clear_next clear_claim λ c. clear_next clear_script λ s. clear_yields) (starts_then starts_name)

-- the proofs, where no others follow them
pub clear_proofs : {q : Set} → In q (others (only (code sign.Proofs))) → Clear q Proofs Proofs
unfolding Proofs
clear_proofs behind = clear_optional (clear_next clear_the λ p. clear_next clear_the λ o.
    clear_then (only (code sign.CloseBrace)) (clear_many {p = any} proof_fork.clear (proof_fork {q = any}).left (proof_fork {q = any}).left any_in any_in (only_in _ refl))
    (λ xs. clear_next clear_the λ e. clear_yields) (λ xs. follows_starts (starts_then starts_the) same_in) (λ xs. follows_starts (starts_then starts_the) same_in))
    (starts_then (starts_the {s = sign.Proofs})) (starts_then (starts_the {s = sign.Proofs})) behind

-- ---- texts

pub clear_version : {q : Set} → Clear q Version Version
unfolding Version
clear_version = clear_next clear_the λ l. clear_next clear_number λ n. clear_yields

pub clear_text : Clear (only 0) Text Text
unfolding Text
clear_text = clear_next clear_version λ v. clear_next clear_the λ s. clear_next clear_machine λ m.
    clear_then (only 0) (clear_proofs (only_in _ refl)) (λ ps. clear_yields) (λ ps. follows_yields same_in) (λ ps. follows_yields same_in)

pub terminals_are : {u v : Terminals} → ◌≡◌ {A = Result Terminals Refusal} (Ok u) (Ok v) → u ≡ v
terminals_are e = cc

-- no bytes spell two raw trees
pub unambiguous : (text : List ℕ) (x y : RawText) → Spells text x → Spells text y → x ≡ y
unambiguous text x y d e =
    let terminals = terminals_are (sym d.1 ∙ e.1) in
    let trees = (clear_text.at d.0.list e.0.list [] [] (x.machine, x.proofs) (y.machine, y.proofs) d.2 e.2 (ap (λ (w : Terminals). w.list) terminals) refl refl).1 in
    let names = d.3 ∙ ap (λ (w : Terminals). w.names) terminals ∙ sym e.3 in
    λ i. record { machine = (trees i).0; proofs = (trees i).1; names = names i }
