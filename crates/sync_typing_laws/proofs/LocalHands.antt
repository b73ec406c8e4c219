-- How what an environment says goes on where the thread's hand is another.
use Rattle.std.proofs.Common.{arith, inl, inr}
use Rattle.std.specs.Prelude.{◌≡◌, ℕ, zero, suc, ◌<◌, Bool, true, false, if◌then◌else◌, nat_eq, List, [], ◌∷◌, ◌++◌, length, slice_set, slice_index_or, Option, Some, None, option_map, Ok}
use Rattle.std.specs.List.{flat_map}
use Rattle.std.proofs.lemmas.Bool.{ne_eqb}
use Rattle.std.proofs.lemmas.Bool.Decides.{eqb_tells}
use Rattle.sync_terms.specs.Trees.{tree_size}
use Rattle.sync_terms.specs.Values.{Valuation}
use Rattle.sync_rules.specs.Locality.{names_only}
use Rattle.sync_join.specs.declared.tokens.Token.{Token as Shard}
use Rattle.sync_exchange.specs.Exchange.{held_as, tokens_in}
use Rattle.sync_exchange.specs.Splitting.{replaced, held}
use Rattle.sync_exchange.specs.declared.hands.Held.{Held}
use Rattle.sync_thread.specs.Code.{locals_of}
use Rattle.sync_thread.specs.Resting.{Round}
use Rattle.sync_thread_machine.specs.MachineWithProgram.{MachineWithProgram}
use Rattle.sync_thread_meaning.specs.Meaning.{World, annotated_language}
use Rattle.sync_thread_meaning.specs.Shares.{Shares, named_value, hand_of, proofs_of, wrap_of, with_hand, all_shards, beside}
use Rattle.sync_typing.specs.Environments.{Env, TokenTree, Tokens, take_in, hand_after, Outcome, fits}
use Rattle.sync_typing_laws.proofs.LocalDues.{fits_ok}
use Rattle.sync_typing_laws.proofs.LocalMoves.{At, is_used, chain_goes}
use Rattle.sync_typing_laws.specs.Rests.{worth}
use mathlib.Core.Path.{refl, sym, ap, subst, ◌∙◌}
use Rattle.sync_typing_laws.specs.Standing.{SameConstants}

-- an environment with another hand
abbrev pub with_tokens : (ℕ → Option TokenTree) → Env → Env
with_tokens h e = record { terms = e.terms; hand = h; facts = e.facts; fresh = e.fresh }

-- what a state has to have that the thread's hand is the one that these tokens say
pub record HeldAnew (x : MachineWithProgram) (t : ℕ) (v : Valuation) (next : ℕ) (h : ℕ → Option TokenTree) (s z : World) : Type 0 where
  pub kept : SameConstants x s z
  pub wrap : wrap_of z.shares t ≡ wrap_of s.shares t
  pub proofs : proofs_of z.shares t ≡ proofs_of s.shares t
  pub locals : locals_of z.memory t ≡ locals_of s.memory t
  pub hand : (m : ℕ) → held_as m (hand_of z.shares t) ≡ option_map (worth v) (h m)
  pub keys : (m : ℕ) (u : TokenTree) → h m ≡ Some u → names_only (is_used next) u.key ≡ true
  pub values : (m : ℕ) (u : TokenTree) → h m ≡ Some u → names_only (is_used next) u.value ≡ true

pub hands_it : (x : MachineWithProgram) (known : Env) (t : ℕ) (v : Valuation) (e : Env) (h : ℕ → Option TokenTree) (round : List (Round annotated_language Env)) (s z : World) → HeldAnew x t v e.fresh h s z → At x known t v e round s → At x known t v (with_tokens h e) round z
hands_it x known t v e h round s z anew is = record {
  stands = record {
    constants = λ f l c. (let k = is.stands.constants f l c in (k.0, k.1, k.2 ∙ sym (anew.kept f l c)));
    names = λ y u k. is.stands.names y u k ∙ named_stays y;
    no_proofs = λ y k. subst (λ f. f y ≡ None) (sym anew.proofs) (is.stands.no_proofs y k);
    wrap = is.stands.wrap ∙ sym anew.wrap;
    hand = anew.hand;
    known = is.stands.known;
    scoped = record { names = is.stands.scoped.names; keys = anew.keys; values = anew.values; facts = is.stands.scoped.facts; said = is.stands.scoped.said; beyond = is.stands.scoped.beyond };
  };
  same = is.same;
  unsaid = λ y l k. is.unsaid y l k ∙ named_stays y;
  lasting = is.lasting;
  chain = chain_goes x known v v e.fresh e.fresh s z round (record { numbers = λ y l. refl; maps = λ y l. refl }) (omega arith) anew.kept is.chain;
} where
  named_stays : (i : ℕ) → named_value (proofs_of s.shares t) (locals_of s.memory t) i ≡ named_value (proofs_of z.shares t) (locals_of z.memory t) i
  named_stays i = let p = anew.proofs in let l = anew.locals in cc

-- ---- a token under another name

-- where a token stays the same under another name, the tokens of a hand stay
pub renamed_tokens : (name new : ℕ) (u : Shard) (hs : List Held) → held_as name hs ≡ Some u → tokens_in (replaced name (held new u u.value) hs) ≡ tokens_in hs
unfolding held_as
renamed_tokens name new u [] is = let never : None ≡ Some u = is in cc
renamed_tokens name new u (h ∷ hs) is = by (nat_eq name h.name) refl is (renamed_tokens name new u hs) where
  by : (b : Bool) → nat_eq name h.name ≡ b → (if b then Some h.token else held_as name hs) ≡ Some u → (held_as name hs ≡ Some u → tokens_in (replaced name (held new u u.value) hs) ≡ tokens_in hs)
      → tokens_in (if b then held new u u.value ∷ hs else h ∷ replaced name (held new u u.value) hs) ≡ tokens_in (h ∷ hs)
  by true k token_here later = let same : Some h.token ≡ Some u = token_here in let one : h.token ≡ u = cc in ap (λ d. d ∷ tokens_in hs) (sym one)
  by false k token_here later = ap (λ d. h.token ∷ d) (later token_here)

-- what is held then, where the new name was not
pub renamed_held : (name new : ℕ) (u : Shard) (hs : List Held) → held_as name hs ≡ Some u → held_as new hs ≡ None → (m : ℕ) → (m ≡ name → ⊥) → (m ≡ new → ⊥) → held_as m (replaced name (held new u u.value) hs) ≡ held_as m hs
unfolding held_as
renamed_held name new u [] is free m other apart = refl
renamed_held name new u (h ∷ hs) is free m other apart = by (nat_eq name h.name) refl is (nat_eq new h.name) refl free (renamed_held name new u hs) where
  by : (b : Bool) → nat_eq name h.name ≡ b → (if b then Some h.token else held_as name hs) ≡ Some u → (c : Bool) → nat_eq new h.name ≡ c → (if c then Some h.token else held_as new hs) ≡ None
      → (held_as name hs ≡ Some u → held_as new hs ≡ None → (i : ℕ) → (i ≡ name → ⊥) → (i ≡ new → ⊥) → held_as i (replaced name (held new u u.value) hs) ≡ held_as i hs)
      → held_as m (if b then held new u u.value ∷ hs else h ∷ replaced name (held new u u.value) hs) ≡ (if nat_eq m h.name then Some h.token else held_as m hs)
  by b k token_here true j not_held later = absurd (let never : Some h.token ≡ None = not_held in cc)
  by true k token_here false j not_held later = let a = ne_eqb m new apart in let n = ne_eqb m h.name (λ i. other (i ∙ sym (same_name k))) in cc where
    same_name : nat_eq name h.name ≡ true → name ≡ h.name
    same_name q = elim (eqb_tells name h.name) [ inl y ↦ y.1 | inr y ↦ absurd (let never : true ≡ false = sym q ∙ y.0 in cc) ]
  by false k token_here false j not_held later = ap (λ d. if nat_eq m h.name then Some h.token else d) (later token_here not_held m other apart)

-- a hand that has the same tokens leaves all tokens as they are
same_all : (hands : List (List Held)) (t : ℕ) (new : List Held) → t < length hands → tokens_in new ≡ tokens_in (slice_index_or hands t []) → flat_map tokens_in (slice_set hands t new) ≡ flat_map tokens_in hands
same_all [] t new lt same = absurd (omega (arith, lt))
same_all (h ∷ hands) zero new lt same = ap (λ d. d ++ flat_map tokens_in hands) same
same_all (h ∷ hands) (suc t) new lt same = ap (λ d. tokens_in h ++ d) (same_all hands t new (omega (arith, lt)) same)

pub same_bag : (t : ℕ) (new : List Held) (g : Shares) → t < length g.hands → tokens_in new ≡ tokens_in (hand_of g t) → all_shards (with_hand t new g) ≡ all_shards g
same_bag t new g lt same = ap (λ d. d ++ beside g) (same_all g.hands t new lt same)

-- ---- rows of tokens

-- tokens that come in one by one make the hand that the row gives
pub take_in_is : (line : ℕ) (gone : List ℕ) (new : Tokens) (e now : Env) → take_in line gone new e ≡ Ok now → with_tokens (hand_after gone new e.hand) e ≡ now
take_in_is line gone new e now is = taken new is where
  of : Tokens → Outcome Env
  of [] = Ok (with_tokens (hand_after gone new e.hand) e)
  of (u ∷ us) = fits line (tree_size u.1.key) (fits line (tree_size u.1.value) (of us))

  taken : (us : Tokens) → of us ≡ Ok now → with_tokens (hand_after gone new e.hand) e ≡ now
  taken [] k = cc
  taken (u ∷ us) k = taken us (fits_ok line (tree_size u.1.value) (of us) now (fits_ok line (tree_size u.1.key) (fits line (tree_size u.1.value) (of us)) now k))
