-- Operands, terms, scripts and tokens that are read keep the names.
use Rattle.std.proofs.Common.{◌≡◌, ℕ, zero, suc, ◌+◌, ◌^◌, ◌<◌, ◌&&◌, Bool, true, false, if◌then◌else◌, List, [], ◌∷◌, ◌++◌, length, map, nat_lt, nat_eq, Option, Some, None, is_some, is_none, Result, Ok, Err, refl, sym, ap, ◌∙◌, true≢false, length-append, arith}
use Rattle.std.specs.List.{list_all}
use Rattle.std.specs.Result.{IfOk}
use Rattle.std.proofs.lemmas.Bool.{lt-ltb, eq-eqb, and_from, and_parts}
use Rattle.std.proofs.lemmas.List.Folds.{list_all-append}
use Rattle.sync_base.specs.declared.stops.Refusal.{Refusal}
use Rattle.sync_terms.specs.Trees.{Tree, Formula}
use Rattle.sync_machine.specs.Scope.{Known}
use Rattle.sync_machine.specs.Naming.{is_in, number_fault, formula_fault}
use Rattle.sync_parse.specs.declared.scripts.RawScript.{RawScript}
use Rattle.sync_parse_exprs.specs.declared.expressions.RawExpr.{RawExpr}
use Rattle.sync_parse_exprs.specs.declared.raw_names.RawName.{RawName}
use Rattle.sync_parse_programs.specs.declared.operands.RawNumber.{RawNumber}
use Rattle.sync_parse_programs.specs.declared.operands.RawOperand.{RawOperand}
use Rattle.sync_parse_programs.specs.declared.operands.RawOperand.TheVariants as raw
use Rattle.sync_parse_programs.specs.declared.operands.RawCondition.{RawCondition}
use Rattle.sync_parse_programs.specs.declared.operands.RawCalculation.{RawCalculation}
use Rattle.sync_parse_programs.specs.declared.operands.RawCalculation.TheVariants as calculation
use Rattle.sync_parse_programs.specs.declared.operands.RawIndex.{RawIndex}
use Rattle.sync_parse_programs.specs.declared.proof_statements.RawToken.{RawToken}
use Rattle.sync_thread.specs.declared.operands.Tok.{Tok}
use Rattle.sync_thread.specs.Programs.{ScriptTree}
use Rattle.sync_thread.specs.Arrays.{cells_named, name_limit}
use Rattle.sync_thread_machine.specs.MachineWithProgram.{MachineWithProgram, decls_of}
use Rattle.sync_typing.specs.Names.{is_name, are_names, is_small, is_divisor, is_number, is_formula, if_there, operand_is_named, calc_is_named, cond_is_named, index_is_named, token_is_named}
use Rattle.sync_read_names.specs.declared.scopes.Sort.TheVariants as sort
use Rattle.sync_read_names.specs.declared.scopes.Scope.{Scope}
use Rattle.sync_read_names.specs.Scopes.{is_assigned}
use Rattle.sync_read_names.specs.Exprs.{term_of, form_of}
use Rattle.sync_read.specs.Acts.{few_before}
use Rattle.sync_read.specs.Scripts.{numbers_from, script_in}
use Rattle.sync_read.proofs.Chains.{after, after_ok, if_ok, weaker}
use Rattle.sync_read_programs.specs.declared.scopes.Declared.{Declared}
use Rattle.sync_read_programs.specs.declared.scopes.Declared.TheVariants as declared
use Rattle.sync_read_programs.specs.declared.scopes.ProgramScope.{ProgramScope}
use Rattle.sync_read_programs.specs.Scopes.{standing_of, is_cell}
use Rattle.sync_read_programs.specs.Operands.{place_of, token_name, token_name_if, word_number, divisor, local_in, operand_in, two_operands, operand_and_divisor, condition_in, calculation_in, one_script, scripts_from, index_in}
use Rattle.sync_read_programs.specs.ProofStatements.{token_in, tokens_from, token_or_no, tokens_or_no_from}
use Rattle.sync_read_laws.proofs.TermsRead.{Agrees, term_number, form_is}
use Rattle.sync_read_laws.proofs.Places.{At, IsDeclared, Keeps, keeps_here, keeps_then, counted_keeps, none}

-- ---- numbers of words, operands

not_then : {A : Type 0} (P : A → Type 0) (b : Bool) (r : Result A Refusal) (f : Refusal) → (b ≡ false → IfOk r P) → IfOk (if b then Err f else r) P
not_then P true r f h = tt
not_then P false r f h = h refl

pub word_number_is : (n : RawNumber) → IfOk (word_number n) (λ v. is_small v ≡ true)
word_number_is n = if_ok (λ v. is_small v ≡ true) (nat_lt n.number (2 ^ 64)) (Ok n.number) _ (λ e. e)

divisor_is : (n : RawNumber) → IfOk (divisor n) (λ v. is_divisor v ≡ true)
divisor_is n = not_then (λ v. is_divisor v ≡ true) (nat_eq n.number 0) (word_number n) _ (λ e.
    if_ok (λ v. is_divisor v ≡ true) (nat_lt n.number (2 ^ 64)) (Ok n.number) _ (λ f.
    and_from (nat_lt 0 n.number) (is_small n.number) (lt-ltb 0 n.number (positive n.number e)) f)) where
      positive : (k : ℕ) → nat_eq k 0 ≡ false → 0 < k
      positive zero e = absurd (true≢false (sym (eq-eqb 0 0 refl) ∙ e))
      positive (suc k) e = omega arith

-- what is assigned here is among these locals
abbrev pub Among : ProgramScope → List ℕ → Type 0
Among s ls = (n : ℕ) → is_assigned s.scope n ≡ true → is_in n ls ≡ true

-- it is named wherever what is assigned here is among the locals
abbrev pub WithLocals : ProgramScope → (List ℕ → Bool) → Type 0
WithLocals s p = (ls : List ℕ) → Among s ls → p ls ≡ true

pub operand_named : (s : ProgramScope) (a : RawOperand) → IfOk (operand_in s a) (λ o. WithLocals s (λ ls. operand_is_named ls o))
operand_named s (raw.Number n) = after_ok (λ o. WithLocals s (λ ls. operand_is_named ls o)) (λ v. is_small v ≡ true) (word_number n) _ (word_number_is n) (λ v h ls among. h)
operand_named s (raw.Local n) =
    after_ok (λ o. WithLocals s (λ ls. operand_is_named ls o)) (λ k. is_assigned s.scope k ≡ true) (local_in s n) _
    (if_ok (λ k. is_assigned s.scope k ≡ true) (is_assigned s.scope n.name) (Ok n.name) _ (λ e. e)) (λ k h ls among. among k h)

pub two_named : (s : ProgramScope) (a b : RawOperand) → IfOk (two_operands s a b) (λ p. WithLocals s (λ ls. operand_is_named ls p.0 && operand_is_named ls p.1))
two_named s a b =
    after_ok (λ p. WithLocals s (λ ls. operand_is_named ls p.0 && operand_is_named ls p.1)) (λ o. WithLocals s (λ ls. operand_is_named ls o)) (operand_in s a) _ (operand_named s a) (λ x h.
    after_ok (λ p. WithLocals s (λ ls. operand_is_named ls p.0 && operand_is_named ls p.1)) (λ o. WithLocals s (λ ls. operand_is_named ls o)) (operand_in s b) _ (operand_named s b) (λ y g ls among.
    and_from (operand_is_named ls x) (operand_is_named ls y) (h ls among) (g ls among)))

divided_named : (s : ProgramScope) (a : RawOperand) (n : RawNumber) → IfOk (operand_and_divisor s a n) (λ p. WithLocals s (λ ls. operand_is_named ls p.0 && is_divisor p.1))
divided_named s a n =
    after_ok (λ p. WithLocals s (λ ls. operand_is_named ls p.0 && is_divisor p.1)) (λ o. WithLocals s (λ ls. operand_is_named ls o)) (operand_in s a) _ (operand_named s a) (λ x h.
    after_ok (λ p. WithLocals s (λ ls. operand_is_named ls p.0 && is_divisor p.1)) (λ v. is_divisor v ≡ true) (divisor n) _ (divisor_is n) (λ y g ls among.
    and_from (operand_is_named ls x) (is_divisor y) (h ls among) g))

pub condition_named : (s : ProgramScope) (c : RawCondition) → IfOk (condition_in s c) (λ d. WithLocals s (λ ls. cond_is_named ls d))
unfolding condition_in
condition_named s c = after_ok (λ d. WithLocals s (λ ls. cond_is_named ls d)) (λ p. WithLocals s (λ ls. operand_is_named ls p.0 && operand_is_named ls p.1)) (two_operands s c.left c.right) _ (two_named s c.left c.right) (λ p h. h)

pub calculation_named : (s : ProgramScope) (c : RawCalculation) → IfOk (calculation_in s c) (λ d. WithLocals s (λ ls. calc_is_named ls d))
unfolding calculation_in
calculation_named s (calculation.Plain a) = after_ok (λ d. WithLocals s (λ ls. calc_is_named ls d)) (λ o. WithLocals s (λ ls. operand_is_named ls o)) (operand_in s a) _ (operand_named s a) (λ x h. h)
calculation_named s (calculation.Plus a b) = after_ok (λ d. WithLocals s (λ ls. calc_is_named ls d)) (λ p. WithLocals s (λ ls. operand_is_named ls p.0 && operand_is_named ls p.1)) (two_operands s a b) _ (two_named s a b) (λ x h. h)
calculation_named s (calculation.Minus a b) = after_ok (λ d. WithLocals s (λ ls. calc_is_named ls d)) (λ p. WithLocals s (λ ls. operand_is_named ls p.0 && operand_is_named ls p.1)) (two_operands s a b) _ (two_named s a b) (λ x h. h)
calculation_named s (calculation.Times a n) = after_ok (λ d. WithLocals s (λ ls. calc_is_named ls d)) (λ p. WithLocals s (λ ls. operand_is_named ls p.0 && is_divisor p.1)) (operand_and_divisor s a n) _ (divided_named s a n) (λ x h. h)
calculation_named s (calculation.Over a n) = after_ok (λ d. WithLocals s (λ ls. calc_is_named ls d)) (λ p. WithLocals s (λ ls. operand_is_named ls p.0 && is_divisor p.1)) (operand_and_divisor s a n) _ (divided_named s a n) (λ x h. h)
calculation_named s (calculation.Modulo a n) = after_ok (λ d. WithLocals s (λ ls. calc_is_named ls d)) (λ p. WithLocals s (λ ls. operand_is_named ls p.0 && is_divisor p.1)) (operand_and_divisor s a n) _ (divided_named s a n) (λ x h. h)

-- ---- scripts

one_keeps : (s : ProgramScope) (x : RawScript) → IfOk (one_script s x) (λ r. Keeps s r.1)
unfolding one_script
one_keeps s x = after (λ r. Keeps s r.1) (few_before 65536 s.scripts x.line) _ (λ n. after (λ r. Keeps s r.1) (script_in s.scope x) _ (λ p. counted_keeps s (suc s.scripts)))

pub scripts_keep : (held : List ScriptTree) (s : ProgramScope) (xs : List RawScript) → IfOk (scripts_from held s xs) (λ r. Keeps s r.1)
unfolding scripts_from
scripts_keep held s [] = keeps_here s
scripts_keep held s (x ∷ xs) =
    after_ok (λ r. Keeps s r.1) (λ r. Keeps s r.1) (one_script s x) _ (one_keeps s x) (λ y k.
    weaker (λ r. Keeps y.1 r.1) (λ r. Keeps s r.1) (scripts_from (held ++ y.0 ∷ []) y.1 xs) (scripts_keep (held ++ y.0 ∷ []) y.1 xs) (λ r g. keeps_then s y.1 r.1 none none none none k g))

-- ---- lists of terms

all_more : {A : Type 0} (p : A → Bool) (held : List A) (x : A) → list_all p held ≡ true → p x ≡ true → list_all p (held ++ x ∷ []) ≡ true
all_more p held x h e = list_all-append p held (x ∷ []) ∙ and_from (list_all p held) (p x && true) h (and_from (p x) true e refl)

number_is : (k : Known) (t : Tree) → number_fault k t ≡ None → is_number k t ≡ true
number_is k t e = ap (λ o. is_none o) e

pub formula_is : (k : Known) (f : Formula) → formula_fault k f ≡ None → is_formula k f ≡ true
formula_is k f e = ap (λ o. is_none o) e

pub number_named : (s : Scope) (k : Known) → Agrees s k → (e : RawExpr) → IfOk (term_of sort.Number e s) (λ t. is_number k t ≡ true)
number_named s k agrees e = weaker (λ t. number_fault k t ≡ None) (λ t. is_number k t ≡ true) (term_of sort.Number e s) (term_number s k agrees e) (number_is k)

pub form_named : (s : Scope) (k : Known) → Agrees s k → (e : RawExpr) → IfOk (form_of e s) (λ f. is_formula k f ≡ true)
form_named s k agrees e = weaker (λ f. formula_fault k f ≡ None) (λ f. is_formula k f ≡ true) (form_of e s) (form_is s k agrees e) (formula_is k)

pub numbers_more : (s : Scope) (k : Known) → Agrees s k → (es : List RawExpr) (held : List Tree) → list_all (is_number k) held ≡ true
    → IfOk (numbers_from held s es) (λ ts. (list_all (is_number k) ts ≡ true) × (length ts ≡ length held + length es))
unfolding numbers_from
numbers_more s k agrees [] held h = (h, omega arith)
numbers_more s k agrees (e ∷ es) held h = after_ok _ (λ t. is_number k t ≡ true) (term_of sort.Number e s) _ (number_named s k agrees e) (λ t is.
    weaker _ _ (numbers_from (held ++ t ∷ []) s es) (numbers_more s k agrees es (held ++ t ∷ []) (all_more (is_number k) held t h is)) (λ ts p. (p.0, omega (arith, p.1, length-append held (t ∷ [])))))

pub numbers_named : (s : Scope) (k : Known) → Agrees s k → (es : List RawExpr) → IfOk (numbers_from [] s es) (λ ts. (list_all (is_number k) ts ≡ true) × (length ts ≡ length es))
numbers_named s k agrees es = weaker _ _ (numbers_from [] s es) (numbers_more s k agrees es [] refl) (λ ts p. (p.0, omega (arith, p.1)))

-- ---- tokens

pub token_name_is : (n : RawName) → is_name (token_name n) ≡ true
token_name_is n = lt-ltb (token_name n) name_limit (omega arith)

pub token_names_are : (ns : List RawName) → are_names (map token_name ns) ≡ true
token_names_are [] = refl
token_names_are (n ∷ ns) = and_from (is_name (token_name n)) (are_names (map token_name ns)) (token_name_is n) (token_names_are ns)

pub token_name_if_is : (n : Option RawName) → if_there is_name (token_name_if n) ≡ true
token_name_if_is None = refl
token_name_if_is (Some n) = token_name_is n

cell_declared_is : (x : MachineWithProgram) (n : ℕ) (d : Declared) → IsDeclared x.program.decls n d → is_cell d ≡ true → is_some (cells_named n (decls_of x)) ≡ true
cell_declared_is x n declared.Nothing h e = cc
cell_declared_is x n (declared.Word c) h e = cc
cell_declared_is x n declared.Cell h e = h

pub token_named : (x : MachineWithProgram) (b : Bool) (ws : List ℕ) (s : ProgramScope) → At x b ws s → (t : RawToken) → IfOk (token_in s t) (λ k. token_is_named x b k ≡ true)
token_named x b ws s h t = by t.at where
  by : (o : Option ℕ) → IfOk (token_in s (record t { at = o })) (λ k. token_is_named x b k ≡ true)
  by None = and_from (is_name (token_name t.name)) true (token_name_is t.name) refl
  by (Some j) = if_ok (λ k. token_is_named x b k ≡ true) (s.starts && is_cell (standing_of s (token_name t.name)).declared) (Ok (record { name = token_name t.name; at = Some (place_of j) })) _ (λ e.
      let p = and_parts s.starts (is_cell (standing_of s (token_name t.name)).declared) e in
      and_from (is_name (token_name t.name)) (b && is_some (cells_named (token_name t.name) (decls_of x))) (token_name_is t.name)
      (and_from b (is_some (cells_named (token_name t.name) (decls_of x))) (sym h.starts ∙ p.0) (cell_declared_is x (token_name t.name) (standing_of s (token_name t.name)).declared (h.declared (token_name t.name)) p.1)))

pub tokens_more : (x : MachineWithProgram) (b : Bool) (ws : List ℕ) (s : ProgramScope) → At x b ws s → (ts : List RawToken) (held : List Tok) → list_all (token_is_named x b) held ≡ true
    → IfOk (tokens_from held s ts) (λ ks. (list_all (token_is_named x b) ks ≡ true) × (length ks ≡ length held + length ts))
unfolding tokens_from
tokens_more x b ws s h [] held e = (e, omega arith)
tokens_more x b ws s h (t ∷ ts) held e = after_ok _ (λ k. token_is_named x b k ≡ true) (token_in s t) _ (token_named x b ws s h t) (λ k is.
    weaker _ _ (tokens_from (held ++ k ∷ []) s ts) (tokens_more x b ws s h ts (held ++ k ∷ []) (all_more (token_is_named x b) held k e is)) (λ ks p. (p.0, omega (arith, p.1, length-append held (k ∷ [])))))

token_or_no_named : (x : MachineWithProgram) (b : Bool) (ws : List ℕ) (s : ProgramScope) → At x b ws s → (t : Option RawToken) → IfOk (token_or_no s t) (λ k. if_there (token_is_named x b) k ≡ true)
token_or_no_named x b ws s h None = refl
token_or_no_named x b ws s h (Some t) = after_ok (λ k. if_there (token_is_named x b) k ≡ true) (λ k. token_is_named x b k ≡ true) (token_in s t) _ (token_named x b ws s h t) (λ k is. is)

pub tokens_or_no_more : (x : MachineWithProgram) (b : Bool) (ws : List ℕ) (s : ProgramScope) → At x b ws s → (ts : List (Option RawToken)) (held : List (Option Tok)) → list_all (if_there (token_is_named x b)) held ≡ true
    → IfOk (tokens_or_no_from held s ts) (λ ks. (list_all (if_there (token_is_named x b)) ks ≡ true) × (length ks ≡ length held + length ts))
unfolding tokens_or_no_from
tokens_or_no_more x b ws s h [] held e = (e, omega arith)
tokens_or_no_more x b ws s h (t ∷ ts) held e = after_ok _ (λ k. if_there (token_is_named x b) k ≡ true) (token_or_no s t) _ (token_or_no_named x b ws s h t) (λ k is.
    weaker _ _ (tokens_or_no_from (held ++ k ∷ []) s ts) (tokens_or_no_more x b ws s h ts (held ++ k ∷ []) (all_more (if_there (token_is_named x b)) held k e is)) (λ ks p. (p.0, omega (arith, p.1, length-append held (k ∷ [])))))

-- ---- indices

pub index_named : (s : ProgramScope) (i : RawIndex) → IfOk (index_in s i) (λ r. WithLocals s (λ ls. index_is_named ls r.0) × Keeps s r.1)
unfolding index_in
index_named s i =
    after_ok (λ r. WithLocals s (λ ls. index_is_named ls r.0) × Keeps s r.1) (λ o. WithLocals s (λ ls. operand_is_named ls o)) (operand_in s i.operand) _ (operand_named s i.operand) (λ o h.
    after_ok (λ r. WithLocals s (λ ls. index_is_named ls r.0) × Keeps s r.1) (λ r. Keeps s r.1) (scripts_from [] s i.scripts) _ (scripts_keep [] s i.scripts) (λ r k. (h, k)))
