-- From the bytes that were read to what a call may answer.
use Rattle.std.proofs.Common.{◌≡◌, ℕ, ◌+◌, ◌<◌, ◌≤◌, ◌⊎◌, inl, inr, List, [], ◌++◌, length, Option, Some, None, Result, Ok, Err, IfOk, String, refl, ap, sym, ◌∙◌, subst, length-append, arith}
use Rattle.std.proofs.lemmas.Grind.{common_steps}
use Rattle.std.specs.declared.alloc.Global.{Global}
use Rattle.std.specs.Result.{result_unwrap_or}
use Rattle.sync_base.specs.Outcome.{◌>>=◌}
use Rattle.sync_base.specs.Outside.{GivesFront}
use Rattle.sync_base.specs.declared.stops.Rule.TheVariants.{L1}
use Rattle.sync_cli.specs.Answers.{status_of, out_of, err_of, IsAnswer}
use Rattle.sync_check.specs.Checking.{judged, verdict_of}
use Rattle.sync_check.proofs.TooLong.{built_text_in-too_long}
use Rattle.sync_base.specs.Limits.{longest_text}
use Rattle.sync_cli.specs.Commands.{Asks, answered, accepted_lines, IsDone}
use Rattle.sync_check.specs.Listing.{listed, listing_of}
use Rattle.sync_cli.specs.Serving.{Allowed, WasRead}
use Rattle.sync_cli.specs.Streams.{IsAtEnd}
use Rattle.sync_cli.specs.declared.answers.Answer.{Answer}
use Rattle.sync_cli.specs.declared.answers.Answer.TheVariants as variant
use Rattle.sync_cli.specs.declared.commands.Command.{Command}
use Rattle.sync_cli.specs.declared.commands.Command.TheVariants.{Check, Obligations}

-- every command refuses a text that is longer than the limit
answered-too_long : (command : Command) (bytes : List ℕ) → longest_text < length bytes → answered command bytes ≡ Err (record { line = 1; rule = L1 })
unfolding answered verdict_of listing_of
answered-too_long Check bytes long = ap (λ r. (r >>= judged) >>= accepted_lines) (built_text_in-too_long bytes long)
answered-too_long Obligations bytes long = ap (λ r. r >>= listed) (built_text_in-too_long bytes long)

-- a text of the source, for which a command gives what it gives for the bytes that were read
record ReadAs (told left : Option (List ℕ)) (faults faults' : ℕ) (read : List ℕ) : Type 0 where
  text : List ℕ
  was_read : WasRead told left faults faults' text
  same : (command : Command) → answered command text ≡ answered command read
  done : (command : Command) (lines : List (List ℕ)) → answered command read ≡ Ok lines → IsDone command read lines → IsDone command text lines

-- all of the source was read
whole : (bytes rest read : List ℕ) (faults faults' : ℕ) → bytes ≡ read ++ rest → rest ≡ [] → length read ≤ longest_text + 1 → faults' ≡ faults → ReadAs (Some bytes) (Some rest) faults faults' read
whole bytes rest read faults faults' cut end bounded sound = record {
  text = bytes;
  was_read = record { sound = sound; is_told = refl; read_out = inl end; bounded = omega (arith, ap length cut, length-append read rest, ap length end) };
  same = λ command. ap (answered command) same;
  done = λ command lines gives is. subst (λ xs. IsDone command xs lines) (sym same) is;
}
  where
    same : bytes ≡ read
    same = cut ∙ ap (λ xs. read ++ xs) end ∙ grind (arith, common_steps)

-- more was read than a text may have
beyond : (bytes rest read : List ℕ) (faults faults' : ℕ) → bytes ≡ read ++ rest → longest_text < length read → length read ≤ longest_text + 1 → faults' ≡ faults → ReadAs (Some bytes) (Some rest) faults faults' read
beyond bytes rest read faults faults' cut long bounded sound =
    let sizes : length bytes ≡ length read + length rest = ap length cut ∙ length-append read rest in
    record {
      text = bytes;
      was_read = record { sound = sound; is_told = refl; read_out = inr (omega arith); bounded = omega arith };
      same = λ command. answered-too_long command bytes (omega arith) ∙ sym (answered-too_long command read long);
      done = λ command lines gives is. absurd (let e = sym gives ∙ answered-too_long command read long in cc);
    }

-- nothing is told of the source
untold : (left : Option (List ℕ)) (read : List ℕ) (faults faults' : ℕ) → faults' ≡ faults → ReadAs None left faults faults' read
untold left read faults faults' sound = record {
  text = read;
  was_read = record { sound = sound; is_told = tt; read_out = tt; bounded = tt };
  same = λ command. refl;
  done = λ command lines gives is. is;
}

read_as : (told left : Option (List ℕ)) (faults faults' : ℕ) (read : List ℕ) → GivesFront told left read → IsAtEnd left ⊎ (longest_text < length read) → length read ≤ longest_text + 1 → faults' ≡ faults → ReadAs told left faults faults' read
read_as None left faults faults' read front ends bounded sound = untold left read faults faults' sound
read_as (Some bytes) None faults faults' read front ends bounded sound = cc
read_as (Some bytes) (Some rest) faults faults' read front (inl end) bounded sound =
    whole bytes rest read faults faults' (front.1 ∙ ap (λ xs. read ++ xs) same) end bounded sound
  where
    same : front.0 ≡ rest
    same = cc
read_as (Some bytes) (Some rest) faults faults' read front (inr long) bounded sound =
    beyond bytes rest read faults faults' (front.1 ∙ ap (λ xs. read ++ xs) same) long bounded sound
  where
    same : front.0 ≡ rest
    same = cc

-- what a command answers for what was read is allowed
allowed_by : (words : List (String Global)) (told left : Option (List ℕ)) (faults faults' : ℕ) (read : List ℕ) (command : Command) (answer : Answer) → Asks words command → ReadAs told left faults faults' read → IsAnswer command read answer → Allowed words told left faults faults' (status_of answer) (out_of answer) (err_of answer)
allowed_by words told left faults faults' read command (variant.Done lines) w r a =
    (command, r.text, lines, w, r.was_read, r.same command ∙ a.0, r.done command lines a.0 a.1, refl, refl)
allowed_by words told left faults faults' read command (variant.Refused line) w r a =
    (command, r.text, a.0, w, r.was_read, r.same command ∙ a.1, refl, a.2)
allowed_by words told left faults faults' read command variant.Usage w r a = absurd a
allowed_by words told left faults faults' read command variant.ReadFault w r a = absurd a
allowed_by words told left faults faults' read command variant.NoMemory w r a = (command, w, refl, refl)

pub Allowed-from_answer : (words : List (String Global)) (told left : Option (List ℕ)) (faults faults' : ℕ) (read : List ℕ) (size : ℕ) (command : Command) (answer : Answer) → Asks words command → GivesFront told left read → length read ≡ size → IsAtEnd left ⊎ (longest_text < size) → size ≤ longest_text + 1 → faults' ≡ faults → IsAnswer command read answer → Allowed words told left faults faults' (status_of answer) (out_of answer) (err_of answer)
Allowed-from_answer words told left faults faults' read size command answer w front len ends bounded sound a =
    allowed_by words told left faults faults' read command answer w (read_as told left faults faults' read front (subst (λ n. IsAtEnd left ⊎ (longest_text < n)) (sym len) ends) (omega arith) sound) a

-- where a line was not made the answer is want of memory
pub IsAnswer-unwrap : {E : Type 0} (command : Command) (text : List ℕ) (made : Result Answer E) → IfOk made (IsAnswer command text) → IsAnswer command text (result_unwrap_or made variant.NoMemory)
IsAnswer-unwrap command text (Ok answer) h = h
IsAnswer-unwrap command text (Err e) h = tt
