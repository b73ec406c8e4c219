-- What the answer of the reader of whole texts says of the grammar.
use Rattle.std.proofs.Common.{◌≡◌, ℕ, List, [], Result, Ok, Err, IfOk, IfErr, ◌⊎◌, inl, inr, refl, sym, ap, ◌∙◌, subst}
use Rattle.sync_base.specs.Outcome as outcome
use Rattle.sync_base.specs.Outcome.{Gives}
use Rattle.sync_base.specs.declared.stops.Refusal.{Refusal}
use Rattle.sync_base.specs.declared.stops.Stop.{Stop}
use Rattle.sync_base.specs.declared.stops.Stop.TheVariants as stop
use Rattle.sync_base.specs.declared.stops.Rule.TheVariants as rule
use Rattle.sync_lex.specs.declared.terminals.Terminals.{Terminals}
use Rattle.sync_lex.specs.Terminals.{terminals_in}
use Rattle.sync_parse_exprs.specs.declared.faults.Fault.{Fault}
use Rattle.sync_parse_exprs.specs.declared.faults.Fault.TheVariants as fault
use Rattle.sync_parse.specs.Faults.{refusal_of, refused}
use Rattle.sync_parse_forms.proofs.Completes.{Met}
use Rattle.sync_parse_grammar.specs.Texts.{IsVersionOne, MayRefuse, IsOfVersionOne}
use Rattle.sync_parse_grammar.proofs.MachinesClear.{terminals_are}
use Rattle.sync_parse_grammar.proofs.MachinesComplete.{Stopped, deep_is, stops_is}
use Rattle.sync_parse_texts.specs.declared.text_reader.RawWholeText.{RawWholeText}
use Rattle.sync_parse_texts.specs.Texts.{Sections, sections_of, whole_text}
use Rattle.sync_parse_texts.specs.Spelled.{WholeText, Spells, MayRefuseVersionOne}
use Rattle.sync_parse_texts.proofs.Whole.{sections_sound, sections_clear, sections_read}

abbrev of_sections : Terminals → Result Sections Refusal → Result RawWholeText Refusal
of_sections ws r = outcome.◌>>=◌ {B = RawWholeText} r (λ t. Ok (record { machine = t.0; proofs = t.1.0; program = t.1.1; names = ws.names }))

abbrev of_terminals : Result Terminals Refusal → Result RawWholeText Refusal
of_terminals w = outcome.◌>>=◌ {B = RawWholeText} w (λ ws. of_sections ws (refused ws.last_line (sections_of ws.list)))

whole_is : (text : List ℕ) → whole_text text ≡ of_terminals (terminals_in text)
unfolding whole_text
whole_is text = refl

-- ---- what is read is spelled, and nothing else

raw_is : {u v : RawWholeText} → ◌≡◌ {A = Result RawWholeText Refusal} (Ok u) (Ok v) → u ≡ v
raw_is e = cc

abbrev sections : RawWholeText → Sections
sections raw = (raw.machine, (raw.proofs, raw.program))

read_spells : (text : List ℕ) (ws : Terminals) (raw : RawWholeText) → terminals_in text ≡ Ok ws → (r : Result Sections Fault) → sections_of ws.list ≡ r → of_sections ws (refused ws.last_line r) ≡ Ok raw → Spells text raw
read_spells text ws raw is (Err f) r_is h = absurd cc
read_spells text ws raw is (Ok t) r_is h =
    let same = raw_is h in
    (ws, is, subst (WholeText ws.list []) (ap (λ (x : RawWholeText). (x.machine, (x.proofs, x.program))) same) ((sections_sound ws.list).holds t r_is), ap (λ (x : RawWholeText). x.names) (sym same))

terminals_spell : (text : List ℕ) (raw : RawWholeText) (w : Result Terminals Refusal) → terminals_in text ≡ w → of_terminals w ≡ Ok raw → Spells text raw
terminals_spell text raw (Err r) is h = absurd cc
terminals_spell text raw (Ok ws) is h = read_spells text ws raw is (sections_of ws.list) refl h

pub sound : (text : List ℕ) (raw : RawWholeText) → whole_text text ≡ Ok raw → Spells text raw
sound text raw e = terminals_spell text raw (terminals_in text) refl (sym (whole_is text) ∙ e)

one_tree : (text : List ℕ) (x y : RawWholeText) → Spells text x → Spells text y → x ≡ y
one_tree text x y d e =
    let terminals = terminals_are (sym d.1 ∙ e.1) in
    let trees = (sections_clear.at d.0.list e.0.list [] [] (x.machine, (x.proofs, x.program)) (y.machine, (y.proofs, y.program)) d.2 e.2 (ap (λ (w : Terminals). w.list) terminals) refl refl).1 in
    let names = d.3 ∙ ap (λ (w : Terminals). w.names) terminals ∙ sym e.3 in
    λ i. record { machine = (trees i).0; proofs = (trees i).1.0; program = (trees i).1.1; names = names i }

pub answer_spells : (text : List ℕ) (r : Result RawWholeText Stop) → Gives (λ t. t) r (whole_text text) → IfOk r (λ (t : RawWholeText). Spells text t)
answer_spells text (Ok t) e = sound text t e
answer_spells text (Err s) e = tt

pub answer_only : (text : List ℕ) (r : Result RawWholeText Stop) → Gives (λ t. t) r (whole_text text) → IfOk r (λ (t : RawWholeText). (other : RawWholeText) → Spells text other → other ≡ t)
answer_only text (Ok t) e = λ other d. one_tree text other t d (sound text t e)
answer_only text (Err s) e = tt

-- ---- what is spelled is refused for its depth or its version alone

err_is : {x y : Refusal} → ◌≡◌ {A = Result RawWholeText Refusal} (Err x) (Err y) → x ≡ y
err_is e = cc

-- the fault for which terminals are refused
record Faulted (ws : Terminals) (r : Refusal) : Type 0 where
  fault : Fault
  stands : sections_of ws.list ≡ Err fault
  refuses : refusal_of ws.last_line fault ≡ r

fault_of : (ws : Terminals) (r : Refusal) (t : Result Sections Fault) → sections_of ws.list ≡ t → of_sections ws (refused ws.last_line t) ≡ Err r → Faulted ws r
fault_of ws r (Ok t) same h = absurd cc
fault_of ws r (Err f) same h = record { fault = f; stands = same; refuses = err_is h }

faulted : (text : List ℕ) (ws : Terminals) (r : Refusal) → terminals_in text ≡ Ok ws → whole_text text ≡ Err r → Faulted ws r
faulted text ws r is e = fault_of ws r (sections_of ws.list) refl (ap of_terminals (sym is) ∙ sym (whole_is text) ∙ e)

refused_read : (ws : Terminals) (x : Sections) (r : Refusal) → Faulted ws r → Met (sections_of ws.list) x → r.rule ≡ rule.G3
refused_read ws x r f met =
    let stands : Met {A = Sections} (Err f.fault) x = subst (λ t. Met t x) f.stands met in
    subst (λ (z : Refusal). z.rule ≡ rule.G3) f.refuses (deep_is ws.last_line f.fault stands.is)

refused_stopped : (ws : Terminals) (r : Refusal) → Faulted ws r → Stopped (sections_of ws.list) → (r.rule ≡ rule.G3) ⊎ (r.rule ≡ rule.G4)
refused_stopped ws r f stopped =
    let stops : Stopped {A = Sections} (Err f.fault) = subst (λ t. Stopped t) f.stands stopped in
    subst (λ (z : Refusal). (z.rule ≡ rule.G3) ⊎ (z.rule ≡ rule.G4)) f.refuses (stops_is ws.last_line f.fault stops.is)

refused_is : (text : List ℕ) (raw : RawWholeText) (r : Refusal) → Spells text raw → whole_text text ≡ Err r → (r.rule ≡ rule.G3) ⊎ (r.rule ≡ rule.G4)
refused_is text raw r d e = go (sections_read d.0.list (sections raw) d.2)
  where
    go : Met (sections_of d.0.list) (sections raw) ⊎ ((IsVersionOne d.0.list → ⊥) × Stopped (sections_of d.0.list)) → (r.rule ≡ rule.G3) ⊎ (r.rule ≡ rule.G4)
    go (inl met) = inl (refused_read d.0 (sections raw) r (faulted text d.0 r d.1 e) met)
    go (inr other) = refused_stopped d.0 r (faulted text d.0 r d.1 e) other.1

refused_deep : (text : List ℕ) (ws : Terminals) (raw : RawWholeText) (r : Refusal) → terminals_in text ≡ Ok ws → IsVersionOne ws.list → Spells text raw → whole_text text ≡ Err r → r.rule ≡ rule.G3
refused_deep text ws raw r is one d e = go (sections_read d.0.list (sections raw) d.2)
  where
    own : d.0 ≡ ws
    own = terminals_are (sym d.1 ∙ is)

    go : Met (sections_of d.0.list) (sections raw) ⊎ ((IsVersionOne d.0.list → ⊥) × Stopped (sections_of d.0.list)) → r.rule ≡ rule.G3
    go (inl met) = refused_read d.0 (sections raw) r (faulted text d.0 r d.1 e) met
    go (inr other) = absurd (other.0 (subst (λ (us : Terminals). IsVersionOne us.list) (sym own) one))

pub answer_refuses : (text : List ℕ) (r : Result RawWholeText Stop) → Gives (λ t. t) r (whole_text text) → IfErr r (λ s. (tree : RawWholeText) → Spells text tree → MayRefuse s)
answer_refuses text (Ok t) e = tt
answer_refuses text (Err stop.Memory) e = λ tree d. tt
answer_refuses text (Err (stop.Refused r)) e = λ tree d. refused_is text tree r d e

-- a text of version 1 that is spelled by a tree is refused for depth alone
pub answer_deep : (text : List ℕ) (r : Result RawWholeText Stop) → Gives (λ t. t) r (whole_text text)
    → IfErr r (λ s. IsOfVersionOne text → (tree : RawWholeText) → Spells text tree → MayRefuseVersionOne s)
answer_deep text (Ok t) e = tt
answer_deep text (Err stop.Memory) e = λ one tree d. tt
answer_deep text (Err (stop.Refused r)) e = λ one tree d. refused_deep text one.0 tree r one.1 one.2 d e
