-- What environments say of others stays.
use Rattle.std.specs.Prelude.{◌≡◌, ℕ, Bool, List, [], ◌∷◌}
use Rattle.sync_exchange.specs.Exchange.{held_as}
use Rattle.sync_machine.specs.Naming.{is_in}
use Rattle.sync_terms.specs.Values.{Valuation}
use Rattle.sync_thread.specs.Code.{locals_of}
use Rattle.sync_thread.specs.Resting.{Round}
use Rattle.sync_thread_machine.specs.MachineWithProgram.{MachineWithProgram}
use Rattle.sync_thread_meaning.specs.Meaning.{World, annotated_language}
use Rattle.sync_thread_meaning.specs.Shares.{proofs_of, named_value}
use Rattle.sync_typing.specs.Environments.{Env}
use Rattle.sync_typing_laws.specs.Rests.{StandsAt, HasConstants}
use Rattle.sync_typing.specs.Lists.{assigned_locals}
use Rattle.sync_typing_laws.specs.Ruling.{body_at}
use Rattle.sync_typing_laws.specs.Standing.{Standing, Chain, Stayed}
use mathlib.Core.Path.{sym, ap, ◌∙◌}

-- ---- what others have stays

constants_stay : (x : MachineWithProgram) (v : Valuation) (e : Env) (t : ℕ) (s z : World) → Stayed x t s z → HasConstants x v e s → HasConstants x v e z
constants_stay x v e t s z stays has f below constant = let it = has f below constant in (it.0, it.1, it.2 ∙ sym (stays.kept f below constant))

named_stays : (x : MachineWithProgram) (t u : ℕ) → (u ≡ t → ⊥) → (s z : World) → Stayed x t s z → (y : ℕ) → named_value (proofs_of s.shares u) (locals_of s.memory u) y ≡ named_value (proofs_of z.shares u) (locals_of z.memory u) y
named_stays x t u other s z stays y = ap (λ f. named_value f (locals_of s.memory u) y) (sym (stays.proofs u other)) ∙ ap (λ l. named_value (proofs_of z.shares u) l y) (sym (stays.locals u other))

pub at_stays : (x : MachineWithProgram) (q : ℕ → Bool) (v : Valuation) (e : Env) (t u : ℕ) → (u ≡ t → ⊥) → (s z : World) → Stayed x t s z → StandsAt x q v e u s → StandsAt x q v e u z
at_stays x q v e t u other s z stays is = record {
  constants = constants_stay x v e t s z stays is.constants;
  names = λ y a said. is.names y a said ∙ named_stays x t u other s z stays y;
  no_proofs = λ y assigned. ap (λ f. f y) (stays.proofs u other) ∙ is.no_proofs y assigned;
  wrap = is.wrap ∙ sym (stays.wraps u other);
  hand = λ n. ap (held_as n) (stays.hands u other) ∙ is.hand n;
  known = is.known;
  scoped = is.scoped;
}

pub chain_stays : (x : MachineWithProgram) (known : Env) (v : Valuation) (t : ℕ) (s z : World) → Stayed x t s z → (next : ℕ) (round : List (Round annotated_language Env)) → Chain x known v next s round → Chain x known v next z round
chain_stays x known v t s z stays next [] is = tt
chain_stays x known v t s z stays next (form ∷ round) (lasts, chain) = (
  record {
    scoped = lasts.scoped;
    constants = constants_stay x v form.env t s z stays lasts.constants;
    same = lasts.same;
    wrap = lasts.wrap;
    lasting = lasts.lasting;
    before = lasts.before;
  },
  chain_stays x known v t s z stays form.env.fresh round chain,
)

pub stands : (x : MachineWithProgram) (known : Env) (t u : ℕ) → (u ≡ t → ⊥) → (s z : World) → Stayed x t s z → (e : Env) (round : List (Round annotated_language Env)) → Standing x known u e round s → Standing x known u e round z
stands x known t u other s z stays e round is = record {
  values = is.values;
  stands = at_stays x (λ y. is_in y (assigned_at u)) is.values e t u other s z stays is.stands;
  same = is.same;
  unsaid = λ y below none. is.unsaid y below none ∙ named_stays x t u other s z stays y;
  lasting = is.lasting;
  chain = chain_stays x known is.values t s z stays e.fresh round is.chain;
} where
  assigned_at : ℕ → List ℕ
  assigned_at u = (assigned_locals (body_at x u) [])
