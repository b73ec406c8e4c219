-- After a keep its environment stands, with the forms round it.
use Rattle.std.proofs.Common.{arith, inl, inr}
use Rattle.std.specs.Prelude.{◌≡◌, ℕ, ◌+◌, ◌*◌, ◌<◌, ◌≤◌, ℤ, pos, true, if◌then◌else◌, List, [], ◌∷◌, length, Option, Some, None, unwrap_or, option_map}
use Rattle.sync_base.specs.Outcome.{first}
use Rattle.sync_base.specs.declared.strategies.Strategy.TheVariants.{Constant}
use Rattle.sync_exchange.specs.Exchange.{held_as}
use Rattle.sync_join.specs.Join.{record_at}
use Rattle.sync_machine.specs.Naming.{is_in}
use Rattle.sync_machine.specs.States.{strategy_at}
use Rattle.sync_rules.specs.Locality.{names_only}
use Rattle.sync_terms.specs.Symbols.{name_symbol}
use Rattle.sync_terms.specs.Trees.{Tree, Name}
use Rattle.sync_terms.specs.Values.{Valuation, num}
use Rattle.sync_thread.specs.Arrays.{name_limit}
use Rattle.sync_thread.specs.Code.{locals_of}
use Rattle.sync_thread.specs.Programs.{KeepTree}
use Rattle.sync_thread.specs.Resting.{Round}
use Rattle.sync_thread.specs.Symbols.{wrap_symbol}
use Rattle.sync_thread_machine.specs.MachineWithProgram.{MachineWithProgram, fields_of}
use Rattle.sync_thread_meaning.specs.Meaning.{World, keep_sight, annotated_language}
use Rattle.sync_thread_meaning.specs.Shares.{hand_of, proofs_of, wrap_of, named_value, overlaid}
use Rattle.sync_typing.specs.Environments.{Env, stands as term_of}
use Rattle.sync_typing.specs.Keeps.{renewed, with_own, bare, kept_tokens, own_tokens}
use Rattle.sync_typing.specs.Lists.{assigned_locals}
use Rattle.sync_typing_laws.proofs.KeepingSights.{value_name}
use Rattle.sync_typing_laws.specs.Rests.{HasConstants, KnowsConstants, IsKnown, IsScopedEnv, is_lasting, worth}
use Rattle.sync_typing_laws.specs.Ruling.{body_at}
use Rattle.sync_typing_laws.specs.Standing.{Standing, Chain}
use Rattle.sync_typing_rows.proofs.Keeping.{renew, renew_own, renew_lasting, own_terms, low_terms, constants_last, chain_lasts}
use Rattle.sync_typing_rows.proofs.KeepingEnv.{entered, Told}
use mathlib.Core.Path.{sym, ap, subst, ◌∙◌}

-- what a keep leaves of the state, as it concerns its thread
pub record Came (x : MachineWithProgram) (k : KeepTree) (own : ℕ → Option ℤ) (saved : ℤ) (t : ℕ) (s z : World) : Type 0 where
  pub hand : (n : ℕ) → held_as n (hand_of z.shares t) ≡ (if is_in n (own_tokens k) then held_as n (hand_of s.shares t) else None)
  pub proofs : proofs_of z.shares t ≡ overlaid own (proofs_of s.shares t)
  pub locals : locals_of z.memory t ≡ locals_of s.memory t
  pub wrap : wrap_of z.shares t ≡ saved
  pub constants : (f : ℕ) → f < length (fields_of x) → strategy_at (fields_of x) f ≡ Constant → record_at z.shares.kept f ≡ record_at s.shares.kept f
  pub no_proofs : (y : ℕ) → is_in y (assigned_locals (body_at x t) []) ≡ true → proofs_of z.shares t y ≡ None

some_is : (a b : Tree) → Some a ≡ Some b → a ≡ b
some_is a b is = ap (λ o. unwrap_or o a) is

-- `form` is the form that the keep belongs to; with what `after_values` and `mid_hand` give
pub keep_stands : (x : MachineWithProgram) (known : Env) → KnowsConstants x known → length (fields_of x) ≤ 32 → (v : Valuation) (next t : ℕ) (s z : World) (form : Round annotated_language Env) (round : List (Round annotated_language Env))
    → Chain x known v next s (form ∷ round) → (k : KeepTree) (locals : List ℕ) (own : ℕ → Option ℤ) → Came x k own form.saved t s z
    → (now : Env) → let w : Valuation = renew v (keep_sight (fields_of x) s t own form.saved).valuation.number in let e : Env = bare (with_own k.names (renewed form.env.terms)) locals form.env.fresh in let mid : Env = entered [] (kept_tokens (term_of e) k.lines) e in
    Told (IsKnown w) mid now → ((n : ℕ) → option_map (worth w) (mid.hand n) ≡ (if is_in n (own_tokens k) then held_as n (hand_of s.shares t) else None)) → IsScopedEnv now
    → Standing x known t now (form ∷ round) z
keep_stands x known knows few v next t s z form round chain k locals own came now told hands scoped = record {
  values = w;
  stands = record {
    constants = λ f below constant. (let it = old_constants f below constant in let low : f < 64 = omega arith in (it.0, terms_low f low ∙ it.1, it.2));
    names = names;
    no_proofs = came.no_proofs;
    wrap = ap (num w) wrap_stands ∙ renew_lasting v g form.env.fresh (term_of form.env wrap_symbol) chain.0.lasting ∙ chain.0.wrap ∙ sym came.wrap;
    hand = λ n. came.hand n ∙ sym (hands n) ∙ ap (λ h. option_map (worth w) (h n)) (sym told.hand);
    known = told.facts;
    scoped = scoped;
  };
  same = λ f low. (let less : f < 64 = omega arith in terms_low f less ∙ chain.0.same f low);
  unsaid = λ y below none. own_value y below;
  lasting = subst (λ n. names_only (is_lasting n) (term_of now wrap_symbol) ≡ true) (sym told.fresh) (subst (λ a. names_only (is_lasting form.env.fresh) a ≡ true) (sym wrap_stands) chain.0.lasting);
  chain = (
    record {
      scoped = chain.0.scoped;
      constants = old_constants;
      same = chain.0.same;
      lasting = chain.0.lasting;
      wrap = renew_lasting v g form.env.fresh (term_of form.env wrap_symbol) chain.0.lasting ∙ chain.0.wrap;
      before = subst (λ n. form.env.fresh ≤ n) (sym told.fresh) (let same : form.env.fresh ≤ form.env.fresh = omega arith in same);
    },
    chain_lasts x known knows few v g s z came.constants form.env.fresh round chain.1,
  );
} where
  g : ℕ → ℤ
  g = (keep_sight (fields_of x) s t own form.saved).valuation.number

  w : Valuation
  w = renew v g

  old_constants : HasConstants x w form.env z
  old_constants = constants_last x known form.env knows few chain.0.same v g s z came.constants chain.0.constants

  terms_low : (y : ℕ) → y < 64 → now.terms y ≡ form.env.terms y
  terms_low y low = ap (λ f. f y) told.terms ∙ low_terms k.names form.env.terms y low

  wrap_stands : term_of now wrap_symbol ≡ term_of form.env wrap_symbol
  wrap_stands = ap (λ o. unwrap_or (first o None) (Name wrap_symbol)) (terms_low wrap_symbol (omega arith))

  own_value : (y : ℕ) → y < name_limit → w.number (name_symbol y) ≡ named_value (proofs_of z.shares t) (locals_of z.memory t) y
  own_value y below = renew_own v g (name_symbol y) (omega arith) (omega arith)
      ∙ value_name (fields_of x) s.shares.kept (pos 0 ∷ pos 0 ∷ pos 0 ∷ pos 0 ∷ form.saved ∷ []) (named_value (overlaid own (proofs_of s.shares t)) (locals_of s.memory t)) (hand_of s.shares t) y few
      ∙ ap (λ f. named_value f (locals_of s.memory t) y) (sym came.proofs) ∙ ap (λ l. named_value (proofs_of z.shares t) l y) (sym came.locals)

  names : (y : ℕ) (u : Tree) → now.terms (name_symbol y) ≡ Some u → num w u ≡ named_value (proofs_of z.shares t) (locals_of z.memory t) y
  names y u said = elim (own_terms k.names form.env.terms (name_symbol y) (omega arith)) [
    | inl none ↦ (let no : None ≡ Some u = sym none ∙ ap (λ f. f (name_symbol y)) (sym told.terms) ∙ said in cc)
    | inr some ↦ ap (num w) (sym (some_is (Name (name_symbol y)) u (sym some ∙ ap (λ f. f (name_symbol y)) (sym told.terms) ∙ said))) ∙ own_value y below
  ] where
    below : y < name_limit
    below = elim (scoped.said (name_symbol y) u said) [ inl small ↦ omega (arith, small) | inr name ↦ (let same : 64 + 4 * y ≡ 64 + 4 * name.0 = name.1 in let less : name.0 < 1048576 = name.2 in omega (arith, same, less)) ]
