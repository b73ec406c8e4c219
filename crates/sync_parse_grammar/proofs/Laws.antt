-- What an answer of the reader says of the grammar.
use Rattle.std.proofs.Common.{◌≡◌, ℕ, List, length, Result, Ok, Err, IfOk}
use Rattle.sync_base.specs.declared.stops.Stop.{Stop}
use Rattle.sync_base.specs.Outcome.{Gives}
use Rattle.sync_parse.specs.declared.trees.RawText.{RawText}
use Rattle.sync_parse.specs.Machines.{parsed}
use Rattle.sync_parse_grammar.specs.Texts.{Spells, HasScripts}
use Rattle.sync_parse_grammar.proofs.MachinesSound.{sound}
use Rattle.sync_parse_grammar.proofs.MachinesClear.{unambiguous}
use Rattle.sync_parse_grammar.proofs.Counting.{by_text}

pub answer_spells : (text : List ℕ) (r : Result RawText Stop) → Gives (λ t. t) r (parsed text) → IfOk r (λ (t : RawText). Spells text t)
answer_spells text (Ok t) e = sound text t e
answer_spells text (Err s) e = tt

pub answer_only : (text : List ℕ) (r : Result RawText Stop) → Gives (λ t. t) r (parsed text) → IfOk r (λ (t : RawText). (other : RawText) → Spells text other → other ≡ t)
answer_only text (Ok t) e = λ other d. unambiguous text other t d (sound text t e)
answer_only text (Err s) e = tt

-- a spelled text has one `by` for each proof
pub scripts : (text : List ℕ) (raw : RawText) → Spells text raw → HasScripts text (length raw.proofs)
scripts text raw d = (d.0, d.1, by_text d.0.list (raw.machine, raw.proofs) d.2)

pub answer_scripts : (text : List ℕ) (r : Result RawText Stop) → Gives (λ t. t) r (parsed text) → IfOk r (λ (t : RawText). HasScripts text (length t.proofs))
answer_scripts text (Ok t) e = scripts text t (sound text t e)
answer_scripts text (Err s) e = tt
