-- Plain texts: what a machine and its proofs say, without lines.
use Rattle.std.specs.Prelude.{ℕ, List, map}
use Rattle.sync_base.specs.declared.strategies.Strategy.{Strategy}
use Rattle.sync_base.specs.declared.strategies.OpMode.{OpMode}
use Rattle.sync_parse_exprs.specs.declared.raw_names.RawName.{RawName}
use Rattle.sync_parse.specs.declared.trees.RawText.{RawText}
use Rattle.sync_parse.specs.declared.trees.RawMachine.{RawMachine}
use Rattle.sync_parse.specs.declared.trees.RawField.{RawField}
use Rattle.sync_parse.specs.declared.trees.RawOperation.{RawOperation}
use Rattle.sync_parse.specs.declared.trees.RawStep.{RawStep}
use Rattle.sync_parse.specs.declared.trees.RawAct.{RawAct}
use Rattle.sync_parse.specs.declared.trees.RawAct.TheVariants as raw
use Rattle.sync_parse.specs.declared.trees.RawPlace.{RawPlace}
use Rattle.sync_parse.specs.declared.trees.RawPlace.TheVariants as raw_place
use Rattle.sync_parse.specs.declared.trees.RawPattern.{RawPattern}
use Rattle.sync_parse.specs.declared.trees.RawPattern.TheVariants as raw_pattern
use Rattle.sync_parse.specs.declared.trees.RawInvariant.{RawInvariant}
use Rattle.sync_parse.specs.declared.trees.RawProof.{RawProof}
use Rattle.sync_parse.specs.declared.trees.RawClaim.{RawClaim}
use Rattle.sync_parse.specs.declared.trees.RawClaim.TheVariants as raw_claim
use Rattle.sync_print.specs.Exprs.{Plain, plain}
use Rattle.sync_print.specs.Scripts.{PlainBlock, plain_block}

pub data PlainPattern : Type 0 where
  bind : ℕ → PlainPattern
  term : Plain → PlainPattern

pub data PlainPlace : Type 0 where
  value : PlainPattern → PlainPlace
  key : Plain → PlainPlace
  entry : Plain → PlainPattern → PlainPlace

pub data PlainAct : Type 0 where
  init : ℕ → Plain → PlainAct
  require : Plain → PlainAct
  assert : Plain → PlainAct
  update : ℕ → Plain → PlainAct
  have_variable : ℕ → PlainAct
  have : ℕ → PlainPlace → PlainAct
  guard : ℕ → PlainPlace → PlainAct
  add : ℕ → PlainPlace → PlainAct
  deposit : ℕ → PlainPlace → PlainAct
  remove : ℕ → PlainPlace → PlainAct
  withdraw : ℕ → PlainPlace → PlainAct

pub record PlainField : Type 0 where
  pub name : ℕ
  pub strategy : Strategy

pub record PlainOperation : Type 0 where
  pub mode : OpMode
  pub name : ℕ
  pub params : List ℕ
  pub acts : List PlainAct

pub record PlainInvariant : Type 0 where
  pub name : ℕ
  pub params : List ℕ
  pub form : Plain

pub record PlainMachine : Type 0 where
  pub name : ℕ
  pub fields : List PlainField
  pub operations : List PlainOperation
  pub invariants : List PlainInvariant

pub data PlainClaim : Type 0 where
  keeps : ℕ → PlainClaim
  at : ℕ → PlainClaim

pub record PlainProof : Type 0 where
  pub operation : ℕ
  pub claim : PlainClaim
  pub block : PlainBlock

pub record PlainText : Type 0 where
  pub machine : PlainMachine
  pub proofs : List PlainProof

abbrev pub name_number : RawName → ℕ
name_number x = x.name

abbrev pub plain_pattern : RawPattern → PlainPattern
plain_pattern (raw_pattern.Bind x) = bind x.name
plain_pattern (raw_pattern.Term e) = term (plain e)

abbrev pub plain_place : RawPlace → PlainPlace
plain_place (raw_place.Value p) = value (plain_pattern p)
plain_place (raw_place.Key e) = key (plain e)
plain_place (raw_place.Entry e p) = entry (plain e) (plain_pattern p)

abbrev pub plain_act_kind : RawAct → PlainAct
plain_act_kind (raw.Init x e) = init x.name (plain e)
plain_act_kind (raw.Require e) = require (plain e)
plain_act_kind (raw.Assert e) = assert (plain e)
plain_act_kind (raw.Update x e) = update x.name (plain e)
plain_act_kind (raw.HaveVariable x) = have_variable x.name
plain_act_kind (raw.Have x p) = have x.name (plain_place p)
plain_act_kind (raw.Guard x p) = guard x.name (plain_place p)
plain_act_kind (raw.Add x p) = add x.name (plain_place p)
plain_act_kind (raw.Deposit x p) = deposit x.name (plain_place p)
plain_act_kind (raw.Remove x p) = remove x.name (plain_place p)
plain_act_kind (raw.Withdraw x p) = withdraw x.name (plain_place p)

abbrev pub plain_act : RawStep → PlainAct
plain_act a = plain_act_kind a.what

abbrev pub plain_field : RawField → PlainField
plain_field f = record { name = f.name.name; strategy = f.strategy }

abbrev pub plain_operation : RawOperation → PlainOperation
plain_operation o = record { mode = o.mode; name = o.name.name; params = map name_number o.params; acts = map plain_act o.steps }

abbrev pub plain_invariant : RawInvariant → PlainInvariant
plain_invariant i = record { name = i.name.name; params = map name_number i.params; form = plain i.form }

abbrev pub plain_machine : RawMachine → PlainMachine
plain_machine m = record { name = m.name.name; fields = map plain_field m.fields; operations = map plain_operation m.operations; invariants = map plain_invariant m.invariants }

abbrev pub plain_claim : RawClaim → PlainClaim
plain_claim (raw_claim.Keeps x) = keeps x.name
plain_claim (raw_claim.At n) = at n

abbrev pub plain_proof : RawProof → PlainProof
plain_proof p = record { operation = p.operation.name; claim = plain_claim p.claim; block = plain_block p.script.block }

-- what a text says; names stand for their place in the text's list of names
abbrev pub plain_text : RawText → PlainText
plain_text t = record { machine = plain_machine t.machine; proofs = map plain_proof t.proofs }
