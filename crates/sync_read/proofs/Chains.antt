-- Chains of steps that may refuse: what is known of each answer is known behind the next step.
use Rattle.std.proofs.Common.{◌≡◌, Bool, true, false, if◌then◌else◌, Option, Some, None, Result, Ok, Err, refl}
use Rattle.std.specs.Result.{IfOk}
use Rattle.sync_base.specs.declared.stops.Refusal.{Refusal}
use Rattle.sync_base.specs.Outcome.{◌>>=◌, first}
use Rattle.sync_read_names.specs.Exprs.{unless}

pub after : {A B E : Type 0} (P : B → Type 0) (r : Result A E) (f : A → Result B E) → ((a : A) → IfOk (f a) P) → IfOk (r >>= f) P
after P (Ok a) f h = h a
after P (Err e) f h = tt

pub after_ok : {A B E : Type 0} (P : B → Type 0) (Q : A → Type 0) (r : Result A E) (f : A → Result B E) → IfOk r Q → ((a : A) → Q a → IfOk (f a) P) → IfOk (r >>= f) P
after_ok P Q (Ok a) f q h = h a q
after_ok P Q (Err e) f q h = tt

-- an answer that stands behind one more refusal
pub unless_ok : {A : Type 0} (P : A → Type 0) (o : Option Refusal) (r : Result A Refusal) → IfOk r P → IfOk (unless o r) P
unless_ok P (Some e) r h = tt
unless_ok P None r h = h

-- an answer where a test passes
pub if_ok : {A : Type 0} (P : A → Type 0) (b : Bool) (r : Result A Refusal) (x : Refusal) → (b ≡ true → IfOk r P) → IfOk (if b then r else Err x) P
if_ok P true r x h = h refl
if_ok P false r x h = tt

-- neither of two checks has a fault
pub both : {R : Type 0} (a b : Option R) → a ≡ None → b ≡ None → first a b ≡ None
both None b e f = f
both (Some r) b e f = absurd cc

-- what follows from what is known of an answer
pub weaker : {A E : Type 0} (P Q : A → Type 0) (r : Result A E) → IfOk r P → ((a : A) → P a → Q a) → IfOk r Q
weaker P Q (Ok a) h f = f a h
weaker P Q (Err e) h f = tt
