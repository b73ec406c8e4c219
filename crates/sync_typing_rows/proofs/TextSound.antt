-- Every moment of a typed text is good, and so the text is sound.
use Rattle.std.specs.Prelude.{◌≡◌, ℕ, true, false, List, Option, Some, None, Ok, Err, Result}
use Rattle.sync_machine.specs.States.{HoldsAlways}
use Rattle.sync_exchange_values.specs.Fitting.{number_fits}
use Rattle.sync_terms.specs.Trees.{Tree}
use Rattle.sync_terms.specs.Values.{Valuation}
use Rattle.sync_thread.specs.Control.{Halt, Wide}
use Rattle.sync_thread.specs.Programs.{StartTree, is_empty}
use Rattle.sync_thread.specs.Resting.{AtRest, PassesUnless}
use Rattle.sync_thread_machine.specs.MachineWithProgram.{MachineWithProgram}
use Rattle.sync_thread_meaning.proofs.ErasedMoments.{erased_goes_along}
use Rattle.sync_thread_meaning.specs.Erased.{erased_config}
use Rattle.sync_thread_meaning.specs.Meaning.{annotated_meaning}
use Rattle.sync_thread_meaning.specs.Moments.{Configuration, after}
use Rattle.sync_thread_meaning.specs.Shares.{no_bound}
use Rattle.sync_thread_meaning.specs.Sound.{GoesWell, IsSound}
use Rattle.sync_typing.specs.Environments.{Env}
use Rattle.sync_typing.specs.Names.{start_is_named}
use Rattle.sync_typing_laws.proofs.ClosingStands.{number_free}
use Rattle.sync_typing_laws.specs.Ruling.{rules_of}
use Rattle.sync_typing_rows.proofs.NoRaces.{rests_are_good}
use Rattle.sync_typing_rows.proofs.TextRests.{typed_texts_rest}
use Rattle.sync_typing_rows.specs.RestLaws.{IsTypedText, meanings_of}
use Rattle.sync_typing_rows.specs.SoundLaws.{HasSoundExchanges, TypedTextsAreSound, no_failure}
use mathlib.Core.Path.{refl, sym, subst, ◌∙◌}

module _ (x : MachineWithProgram) (holds : HoldsAlways x.machine) (known : Env) (typed : IsTypedText x known) (sound : HasSoundExchanges x known) where
  free : (v : Valuation) (u : Tree) → number_fits no_bound v u ≡ false → no_failure Wide
  free v u out = let no : false ≡ true = sym out ∙ number_free v u in cc

  well : (sigma : List ℕ) (r : Result Configuration Halt) → after x sigma ≡ r → PassesUnless no_failure r (AtRest (rules_of x (meanings_of x known no_failure)) (annotated_meaning no_bound x)) → GoesWell x sigma
  well sigma (Ok c) same rests = record {
    here = c;
    comes = same;
    good = rests_are_good x known typed sound c rests;
    erased = erased_config c;
    goes = erased_goes_along no_bound x sigma c same;
    same = refl;
  }
  well sigma (Err h) same rests = absurd rests

  goes_well : is_empty x.program ≡ false → (sigma : List ℕ) → GoesWell x sigma
  goes_well full sigma = by x.program.start refl where
    by : (o : Option StartTree) → x.program.start ≡ o → GoesWell x sigma
    by None none = absurd (let empty : is_empty x.program ≡ true = subst (λ (o : Option StartTree). start_is_named x o ≡ true) none typed.named.started in let no : true ≡ false = sym empty ∙ full in cc)
    by (Some start) is = well sigma (after x sigma) refl (typed_texts_rest (meanings_of x known no_failure) no_bound free x known typed sound.rows start is (sound.starts start is) sigma)

  pub sound_text : IsSound x
  sound_text = record { holds = holds; goes_well = goes_well }

pub typed_texts_are_sound : TypedTextsAreSound
typed_texts_are_sound x holds known typed sound = sound_text x holds known typed sound
