-- What is read of a whole text is spelled; what is spelled is read or too deep; no terminals spell two.
use Rattle.std.proofs.Common.{◌≡◌, List, [], ◌∷◌, Result, Ok, Err, ◌⊎◌, inl, inr, refl, sym, subst, arith}
use Rattle.sync_base.specs.Outcome as outcome
use Rattle.sync_lex.specs.declared.signs.Sign.TheVariants as sign
use Rattle.sync_lex.specs.declared.terminals.Terminal.{Terminal}
use Rattle.sync_parse_exprs.specs.declared.faults.Fault.{Fault}
use Rattle.sync_parse_exprs.specs.Terminals.{Read}
use Rattle.sync_parse.specs.Machines.{version_at}
use Rattle.sync_parse_forms.proofs.Completes.{Met, Complete}
use Rattle.sync_parse_forms.specs.Relations.{Spelled, Then, Yields}
use Rattle.sync_parse_grammar.specs.Texts.{Version, IsVersionOne}
use Rattle.sync_parse_forms.proofs.Sounds.{ok_is, sign_sound}
use Rattle.sync_parse_grammar.proofs.MachinesSound.{Whole, whole_then, version_sound, machine_sound, proofs_sound}
use Rattle.sync_parse_forms.specs.Fronts.{code, Set, any, only, others}
use Rattle.sync_parse_forms.proofs.Clears.{In, among_in, only_in, same_in, follows_then, follows_yields, follows_any, Follows, Clear, clear_next, clear_then, clear_the, clear_yields}
use Rattle.sync_parse_grammar.proofs.MachinesClear.{clear_version, clear_machine, clear_proofs}
use Rattle.sync_parse_grammar.proofs.Completes as grammar
use Rattle.sync_parse_grammar.proofs.Completes.{complete_the}
use Rattle.sync_parse_grammar.proofs.MachinesComplete.{complete_machine, complete_proofs, Stopped, read_behind}
use Rattle.sync_parse_texts.specs.Texts.{Sections, nothing_behind, sections_of}
use Rattle.sync_parse_texts.specs.Spelled.{WholeText}
use Rattle.sync_parse_texts.proofs.Program.{at_end, behind_proofs, part_sound, part_clear, part_follows, part_complete, met, complete, IsRead, met_read}

-- ---- what is read is spelled

all_read : {A : Type 0} (x : A) (ts : List Terminal) → Whole (Yields x) ts (nothing_behind x ts)
all_read x [] = record { holds = λ y e. record { none = refl; is = sym (ok_is e) } }
all_read x (w ∷ ws) = record { holds = λ y e. absurd cc }

pub sections_sound : (ts : List Terminal) → Whole WholeText ts (sections_of ts)
unfolding sections_of WholeText
sections_sound ts =
    whole_then (version_sound 65 ts) λ v.
    whole_then (sign_sound 65 sign.Semicolon v.1) λ s.
    whole_then (machine_sound 65 s.1) λ m.
    whole_then (proofs_sound 65 m.1) λ ps.
    whole_then (part_sound 65 ps.1) λ p. all_read (m.0, (ps.0, p.0)) p.1

-- ---- no terminals spell two

no_more_proofs : In behind_proofs (others (only (code sign.Proofs)))
no_more_proofs = among_in (code sign.Program ∷ 0 ∷ []) refl

pub sections_clear : Clear at_end WholeText WholeText
unfolding WholeText
sections_clear = clear_next clear_version λ v. clear_next clear_the λ s. clear_next clear_machine λ m.
    clear_then behind_proofs (clear_proofs no_more_proofs)
    (λ ps. clear_then at_end part_clear (λ p. clear_yields) (λ p. follows_yields same_in) (λ p. follows_yields same_in))
    (λ ps. follows_then at_end part_follows (λ p. follows_yields same_in))
    (λ ps. follows_then at_end part_follows (λ p. follows_yields same_in))

-- ---- what is spelled is read

-- what all of these terminals spell is read, where it is not too deep
record Ends {A : Type 0} (m : Spelled A) (ts : List Terminal) (r : Result A Fault) : Type 0 where
  at : (x : A) → m ts [] x → Met r x

ends_case : {A B : Type 0} {p : Set} {m : Spelled A} {ts : List Terminal} {g : A → Spelled B} {f : A × List Terminal → Result B Fault} (r : Read A)
    → Complete p m ts r → ((v : A × List Terminal) → Ends (g v.0) v.1 (f v)) → ((x : A) → Follows (only 0) p (g x)) → (y : B) → Then m g ts [] y → Met (outcome.◌>>=◌ r f) y
ends_case {g = g} (Ok v) one next follows y d =
    let h = (one.at d.value d.middle d.one ((follows d.value).at d.middle [] y d.next refl)).is in (next v).at y (subst (λ z. g z.0 z.1 [] y) (sym h) d.next)
ends_case (Err f) one next follows y d =
    let h = (one.at d.value d.middle d.one ((follows d.value).at d.middle [] y d.next refl)).is in record { is = h }

ends_then : {A B : Type 0} {m : Spelled A} {ts : List Terminal} {r : Read A} {g : A → Spelled B} {f : A × List Terminal → Result B Fault} (p : Set)
    → Complete p m ts r → ((v : A × List Terminal) → Ends (g v.0) v.1 (f v)) → ((x : A) → Follows (only 0) p (g x)) → Ends (Then m g) ts (outcome.◌>>=◌ r f)
ends_then {r = r} p one next follows = record { at = ends_case r one next follows }

all_spelled : {A : Type 0} (x : A) (ts : List Terminal) → Ends (Yields x) ts (nothing_behind x ts)
all_spelled x [] = record { at = λ y d. record { is = sym d.is } }
all_spelled x (w ∷ ws) = record { at = λ y d. let e : ◌≡◌ {A = List Terminal} (w ∷ ws) [] = d.none in absurd cc }

-- what goes on behind the version is read, where it is not too deep; or the version is another than 1
behind_version : {A : Type 0} (m : Spelled A) (f : List Terminal → Result A Fault) → ((us : List Terminal) → Ends m us (f us)) → (ts : List Terminal) (x : A) → Then Version (λ v. m) ts [] x
    → Met (outcome.◌>>=◌ (version_at 65 ts) (λ v. f v.1)) x ⊎ ((IsVersionOne ts → ⊥) × Stopped (outcome.◌>>=◌ (version_at 65 ts) (λ v. f v.1)))
behind_version {A = A} m f behind ts x d =
    go (read_behind {m = there} {S = λ y. IsRead (f d.middle)} {f = λ v. f v.1}
    (λ v. record { at = λ y e. subst (λ us. grammar.Met (f v.1) y (IsRead (f us))) e.1 (met_read (f v.1) y ((behind v.1).at y e.0)) })
    ts x (record { value = d.value; middle = d.middle; one = d.one; next = (d.next, refl) }))
  where
    -- it stands where it stands in this derivation
    there : Spelled A
    there us rest y = m us rest y × (us ≡ d.middle)

    go : grammar.Met (outcome.◌>>=◌ (version_at 65 ts) (λ v. f v.1)) x (IsRead (f d.middle)) ⊎ ((IsVersionOne ts → ⊥) × Stopped (outcome.◌>>=◌ (version_at 65 ts) (λ v. f v.1)))
        → Met (outcome.◌>>=◌ (version_at 65 ts) (λ v. f v.1)) x ⊎ ((IsVersionOne ts → ⊥) × Stopped (outcome.◌>>=◌ (version_at 65 ts) (λ v. f v.1)))
    go (inl h) = inl (met _ x h)
    go (inr other) = inr other

pub sections_read : (ts : List Terminal) (x : Sections) → WholeText ts [] x → Met (sections_of ts) x ⊎ ((IsVersionOne ts → ⊥) × Stopped (sections_of ts))
unfolding sections_of WholeText
sections_read ts x d =
    behind_version _ _ (λ us. ends_then any (complete (complete_the 65 (omega arith) sign.Semicolon us)) (λ s. ends_then any (complete (complete_machine 65 (omega arith) s.1)) (λ m.
    ends_then behind_proofs (complete (complete_proofs no_more_proofs 65 (omega arith) m.1)) (λ ps.
    ends_then at_end (part_complete ps.1) (λ p. all_spelled (m.0, (ps.0, p.0)) p.1) (λ p. follows_yields (only_in _ refl)))
    (λ ps. follows_then at_end part_follows (λ p. follows_yields (only_in _ refl)))) (λ m. follows_any)) (λ s. follows_any)) ts x d
