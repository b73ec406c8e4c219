-- The verdict takes the layers one after another.
use Rattle.std.proofs.Common.{◌≡◌, ℕ, List, Option, Some, None, Result, Ok, Err, refl, ap, ◌∙◌, length}
use Rattle.sync_base.specs.declared.stops.Refusal.{Refusal}
use Rattle.sync_base.specs.Outcome.{first, ◌>>=◌}
use Rattle.sync_lex.specs.declared.terminals.Terminals.{Terminals}
use Rattle.sync_lex.specs.Terminals.{terminals_in}
use Rattle.sync_parse.specs.Faults.{refused}
use Rattle.sync_parse_texts.specs.declared.text_reader.RawWholeText.{RawWholeText}
use Rattle.sync_parse_texts.specs.Texts.{sections_of, whole_text}
use Rattle.sync_check.specs.Texts.{TextTree, unless, unbuilt, resolved_whole, built, built_text_in}
use Rattle.sync_check.specs.Checking.{judged, fault_of, verdict_of}
use Rattle.sync_check.specs.Listing.{listed, listing_of, obligation_lines}
use Rattle.sync_rules.specs.Faults.{strategy_fault}
use Rattle.sync_check_faults.specs.Faults.{fault_in, behind, lex_fault, grammar_fault, name_fault, unbuilt_fault, reading_fault, first_fault, first_listing_fault, VerdictIsFirstFault, ListingIsFirstFault}

-- one layer, and then the next
fault-then : {A B : Type 0} (r : Result A Refusal) (f : A → Result B Refusal) → fault_in (r >>= f) ≡ first (fault_in r) (behind r (λ x. fault_in (f x)))
fault-then (Ok x) f = refl
fault-then (Err e) f = refl

fault-kept : {A B : Type 0} (r : Result A Refusal) (f : A → B) → fault_in (r >>= λ x. Ok (f x)) ≡ fault_in r
fault-kept (Ok x) f = refl
fault-kept (Err e) f = refl

first-first : (a b c : Option Refusal) → first (first a b) c ≡ first a (first b c)
first-first (Some r) b c = refl
first-first None b c = refl

behind-same : {A : Type 0} (r : Result A Refusal) (f g : A → Option Refusal) → ((x : A) → f x ≡ g x) → behind r f ≡ behind r g
behind-same (Ok x) f g same = same x
behind-same (Err e) f g same = refl

fault-unless : {A : Type 0} (fault : Option Refusal) (x : A) → fault_in (unless fault x) ≡ fault
fault-unless None x = refl
fault-unless (Some r) x = refl

-- ---- the layers of a text

whole-fault : (bytes : List ℕ) → fault_in (whole_text bytes) ≡ first (lex_fault bytes) (grammar_fault bytes)
unfolding whole_text
whole-fault bytes =
    fault-then (terminals_in bytes) _
    ∙ ap (first (lex_fault bytes)) (behind-same (terminals_in bytes) _ _ (λ (ws : Terminals). fault-kept (refused ws.last_line (sections_of ws.list)) _))

built-fault : (raw : RawWholeText) → fault_in (built raw) ≡ first (fault_in (resolved_whole raw)) (behind (resolved_whole raw) (λ (t : TextTree). unbuilt raw.program))
built-fault raw =
    fault-then (resolved_whole raw) _
    ∙ ap (first (fault_in (resolved_whole raw))) (behind-same (resolved_whole raw) _ _ (λ (t : TextTree). fault-unless (unbuilt raw.program) t))

behind-first : {A : Type 0} (r : Result A Refusal) (f g : A → Option Refusal) → behind r (λ x. first (f x) (g x)) ≡ first (behind r f) (behind r g)
behind-first (Ok x) f g = refl
behind-first (Err e) f g = refl

names-fault : (bytes : List ℕ) → behind (whole_text bytes) (λ (raw : RawWholeText). fault_in (built raw)) ≡ first (name_fault bytes) (unbuilt_fault bytes)
names-fault bytes = behind-same (whole_text bytes) _ _ built-fault ∙ behind-first (whole_text bytes) _ _

built_text_in-fault : (bytes : List ℕ) → fault_in (built_text_in bytes) ≡ reading_fault bytes
unfolding built_text_in
built_text_in-fault bytes =
    fault-then (whole_text bytes) built
    ∙ ap (first (fault_in (whole_text bytes))) (names-fault bytes)
    ∙ ap (λ f. first f (first (name_fault bytes) (unbuilt_fault bytes))) (whole-fault bytes)
    ∙ first-first (lex_fault bytes) (grammar_fault bytes) (first (name_fault bytes) (unbuilt_fault bytes))

-- what is told of a text that is read, behind the layers of reading
told-fault : {A : Type 0} (told : TextTree → Result A Refusal) (fault : TextTree → Option Refusal) → ((t : TextTree) → fault_in (told t) ≡ fault t) → (bytes : List ℕ)
    → fault_in (built_text_in bytes >>= told) ≡ first (reading_fault bytes) (behind (built_text_in bytes) fault)
told-fault told fault same bytes =
    fault-then (built_text_in bytes) told
    ∙ ap (first (fault_in (built_text_in bytes))) (behind-same (built_text_in bytes) _ fault same)
    ∙ ap (λ f. first f (behind (built_text_in bytes) fault)) (built_text_in-fault bytes)

verdict-fault : (bytes : List ℕ) → fault_in (verdict_of bytes) ≡ first_fault bytes
unfolding verdict_of
verdict-fault bytes = told-fault judged fault_of (λ (t : TextTree). fault-unless (fault_of t) (length t.proofs)) bytes

listing-fault : (bytes : List ℕ) → fault_in (listing_of bytes) ≡ first_listing_fault bytes
unfolding listing_of
listing-fault bytes = told-fault listed (λ (t : TextTree). strategy_fault t.machine) (λ (t : TextTree). fault-unless (strategy_fault t.machine) (obligation_lines t)) bytes

-- ---- the verdict

refused-is : {A : Type 0} (v : Result A Refusal) (r : Refusal) → fault_in v ≡ Some r → v ≡ Err r
refused-is (Ok x) r e = absurd cc
refused-is (Err q) r e = cc

accepted-is : {A : Type 0} (v : Result A Refusal) → fault_in v ≡ None → (x : A) × (v ≡ Ok x)
accepted-is (Ok x) e = (x, refl)
accepted-is (Err q) e = absurd cc

pub first-fault : (bytes : List ℕ) → VerdictIsFirstFault bytes
first-fault bytes = record {
  refuses = λ r is. refused-is (verdict_of bytes) r (verdict-fault bytes ∙ is);
  accepts = λ keeps. accepted-is (verdict_of bytes) (verdict-fault bytes ∙ keeps);
}

-- ---- the listing

unless-kept : {A : Type 0} (fault : Option Refusal) (x : A) → fault_in (unless fault x) ≡ None → unless fault x ≡ Ok x
unless-kept None x e = refl
unless-kept (Some r) x e = absurd cc

listed-is : (s : Result TextTree Refusal) → fault_in (s >>= listed) ≡ None → (t : TextTree) × (s ≡ Ok t) × ((s >>= listed) ≡ Ok (obligation_lines t))
listed-is (Ok t) e = (t, refl, unless-kept (strategy_fault t.machine) (obligation_lines t) e)
listed-is (Err r) e = absurd cc

pub first-fault-listed : (bytes : List ℕ) → ListingIsFirstFault bytes
unfolding listing_of
first-fault-listed bytes = record {
  refuses = λ r is. refused-is (listing_of bytes) r (listing-fault bytes ∙ is);
  lists = λ keeps. listed-is (built_text_in bytes) (listing-fault bytes ∙ keeps);
}
