-- Places over a store that grows, with a hand that changes, and taken back to a mark.
use Rattle.std.proofs.Common.{◌≡◌, ℕ, ◌+◌, ◌-◌, ◌≤◌, Bool, true, false, ◌&&◌, if◌then◌else◌, nat_lt, List, [], ◌++◌, append_assoc, length, drop, take, min, Option, Some, None, option_map, refl, sym, ap, ◌∙◌, subst, arith, Result, Ok, Err, OnOk}
use Rattle.std.specs.Prelude.{is_some, is_none, IfSome}
use Rattle.std.proofs.lemmas.Bool.{ltb-false}
use Rattle.std.proofs.lemmas.List.{append-nil, drop-drop, length-drop, length-take, take-take}
use Rattle.std.proofs.Math.Seq.{take-append_seam}
use Rattle.std.proofs.Math.Nat.{min-le_right}
use Rattle.sync_kernel.specs.declared.hypotheses.Hypotheses.{Hypotheses}
use Rattle.sync_kernel.specs.Hypotheses.{AreReady}
use Rattle.sync_terms.specs.Stored.{Stored, tree, IsTerm, Extends}
use Rattle.sync_terms.specs.Trees.{Tree}
use Rattle.sync_kernel_facts.specs.Facts.{Fact}
use Rattle.sync_kernel.specs.Hypotheses.{known_in}
use Rattle.sync_kernel.proofs.Assuming.{AreReady-more, known_in-more}
use Rattle.sync_thread_machine.specs.ProgramSymbols.{first_fresh}
use Rattle.sync_typing.specs.Environments.{know, use_up, Env, TokenTree, token_named}
use Rattle.sync_typing_ledgers.specs.Entries.{found_at, newest, oldest, Entry, Kept}
use Rattle.sync_typing_reading.specs.Sayings.{tree_in, AreSaidOf}
use Rattle.sync_typing_reading.proofs.Staying as staying
use Rattle.sync_typing_places.specs.declared.hands.Token.{Token}
use Rattle.sync_typing_places.specs.declared.hands.Hand.{Hand}
use Rattle.sync_typing_places.specs.declared.places.Place.{Place}
use Rattle.sync_typing_places.specs.declared.places.PlaceMark.{PlaceMark}
use Rattle.sync_typing_places.specs.Hands.{placed, token_at, token_in, token_tree, Begins, Holds, IsHandOf, IsSame, IsTokenOf, IsWhole}
use Rattle.sync_typing_places.specs.Places.{env_of, is_said_by_name, terms_in, with_hand, Becomes, GoOn, IsMarkAt, IsOwn, Stays}
use Rattle.sync_typing_places.proofs.Beginning.{begins_same}

-- ---- what a hand is, is one thing

term_is : (s : Stored) (h : Hand) (terms : ℕ → Option Tree) (hand : ℕ → Option TokenTree) → Holds s h terms hand
    → (x : ℕ) → terms x ≡ terms_in s h x
term_is s h terms hand is x = by (token_named x) refl (nat_lt x first_fresh) refl
  where
    by : (o : Option ℕ) → token_named x ≡ o → (b : Bool) → nat_lt x first_fresh ≡ b → terms x ≡ terms_in s h x
    by None e true f =
        sym (is.names x e) ∙ sym (λ i. if is_none (e i) && f i then tree_in s h.names x else None)
    by None e false f =
        is.few x (ltb-false x first_fresh f) ∙ sym (λ i. if is_none (e i) && f i then tree_in s h.names x else None)
    by (Some n) e b f = is.no_token x n e ∙ sym (λ i. if is_none (e i) && nat_lt x first_fresh then tree_in s h.names x else None)

pub terms_are : (s : Stored) (h : Hand) (terms : ℕ → Option Tree) (hand : ℕ → Option TokenTree) → Holds s h terms hand
    → terms ≡ terms_in s h
terms_are s h terms hand is = λ i x. term_is s h terms hand is x i

pub hand_is : (s : Stored) (h : Hand) (terms : ℕ → Option Tree) (hand : ℕ → Option TokenTree) → Holds s h terms hand
    → hand ≡ token_in s h
hand_is s h terms hand is = λ i n. sym (is.at_hand n) i

pub holds_own : (s : Stored) (h : Hand) (terms : ℕ → Option Tree) (hand : ℕ → Option TokenTree) → Holds s h terms hand
    → Holds s h (terms_in s h) (token_in s h)
holds_own s h terms hand is =
    subst (λ (f : ℕ → Option TokenTree). Holds s h (terms_in s h) f) (hand_is s h terms hand is)
    (subst (λ (f : ℕ → Option Tree). Holds s h f hand) (terms_are s h terms hand is) is)

pub own_holds : (s : Stored) (p : Place) → IsOwn s p → Holds s p.hand (env_of s p).terms (env_of s p).hand
unfolding env_of
own_holds s p own = own.holds

-- ---- facts that go on

pub same_facts : (old new : List Fact) → new ≡ old → GoOn old new
same_facts old new is = record { more = []; is = is ∙ sym (append-nil old) }

pub go_on_by : (a b c : List Fact) → GoOn a b → GoOn b c → GoOn a c
go_on_by a b c ab bc = record {
  more = ab.more ++ bc.more;
  is = bc.is ∙ ap (λ (fs : List Fact). fs ++ bc.more) ab.is ∙ append_assoc a ab.more bc.more;
}

cut_back : (a b : List Fact) (n : ℕ) → GoOn a b → n ≡ length a → take n b ≡ a
cut_back a b n on is =
    (λ i. take (is i) (on.is i)) ∙ take-append_seam a on.more

-- ---- over a store that grows

token_stays : {s t : Stored} (more : Extends s t) (o : Option Token) → ((u : Token) → o ≡ Some u → IsTerm s u.key × IsTerm s u.value)
    → option_map (token_tree t) o ≡ option_map (token_tree s) o
token_stays more None ids = refl
token_stays {s} {t} more (Some u) ids =
    let k : tree t u.key ≡ tree s u.key = (more.terms u.key (ids u refl).0).1 in
    let v : tree t u.value ≡ tree s u.value = (more.terms u.value (ids u refl).1).1 in
    λ i. Some (record { field = u.field; key = k i; value = v i })

pub token_in-more : {s t : Stored} (more : Extends s t) (h : Hand) → IsHandOf s h → (n : ℕ) → token_in t h n ≡ token_in s h n
token_in-more more h ids n = token_stays more (token_at h n) (ids.tokens n)

pub IsHandOf-more : {s t : Stored} (more : Extends s t) (h : Hand) → IsHandOf s h → IsHandOf t h
IsHandOf-more more h ids = record {
  said = staying.AreSaidOf-more more h.names ids.said;
  tokens = λ n t is. ((more.terms t.key (ids.tokens n t is).0).0, (more.terms t.value (ids.tokens n t is).1).0);
}

pub Holds-more : {s t : Stored} (more : Extends s t) (h : Hand) (terms : ℕ → Option Tree) (hand : ℕ → Option TokenTree) → IsHandOf s h
    → Holds s h terms hand → Holds t h terms hand
Holds-more more h terms hand ids is = record {
  names = λ x none. staying.tree_more more h.names ids.said x ∙ is.names x none;
  held = λ x n token. staying.tree_more more h.names ids.said x ∙ is.held x n token;
  no_token = is.no_token;
  few = is.few;
  at_hand = λ n. token_in-more more h ids n ∙ is.at_hand n;
}

pub env_stays : (s t : Stored) (p : Place) → Extends s t → IsOwn s p → env_of t p ≡ env_of s p
unfolding env_of
env_stays s t p more own = λ i. record {
  terms = λ x. if is_said_by_name x then staying.tree_more more p.hand.names own.ids.said x i else None;
  hand = λ n. token_in-more more p.hand own.ids n i;
  facts = known_in-more s t p.known more own.ready i;
  fresh = p.fresh;
}

pub stays : (s t : Stored) (p : Place) → Extends s t → IsOwn s p → Stays s t p
stays s t p more own = record {
  own = record {
    whole = own.whole;
    ids = IsHandOf-more more p.hand own.ids;
    holds = holds_own t p.hand _ _ (Holds-more more p.hand _ _ own.ids own.holds);
    ready = AreReady-more s t p.known more own.ready;
  };
  env = env_stays s t p more own;
  leads = begins_same p.hand p.hand refl refl refl;
  remembers = same_facts (known_in s p.known) (known_in t p.known) (known_in-more s t p.known more own.ready);
}

-- ---- a hand that begins with another

oldest_back : (a b c : List Entry) → oldest (length a) b ≡ a → oldest (length b) c ≡ b → oldest (length a) c ≡ a
oldest_back a b c ab bc =
    let lb : length b ≡ length c - (length c - length b) = sym (ap length bc) ∙ length-drop (length c - length b) c in
    let la : length a ≡ length b - (length b - length a) = sym (ap length ab) ∙ length-drop (length b - length a) b in
    let n : (length c - length b) + (length b - length a) ≡ length c - length a = omega (arith, la, lb) in
    sym (ap (λ (k : ℕ). drop k c) n) ∙ sym (drop-drop (length b - length a) (length c - length b) c)
    ∙ ap (λ (es : List Entry). drop (length b - length a) es) bc ∙ ab

take_back : (a b c : List Token) → take (length a) b ≡ a → take (length b) c ≡ b → take (length a) c ≡ a
take_back a b c ab bc =
    let la : length a ≡ min (length a) (length b) = sym (ap length ab) ∙ length-take (length a) b in
    let le : length a ≤ length b = subst (λ (n : ℕ). n ≤ length b) (sym la) (min-le_right (length a) (length b)) in
    sym (take-take (length a) (length b) c le) ∙ ap (λ (ts : List Token). take (length a) ts) bc ∙ ab

pub begins_on : (a b c : Hand) → Begins a b → Begins b c → Begins a c
begins_on a b c ab bc = record {
  names = oldest_back a.names.entries b.names.entries c.names.entries ab.names bc.names;
  places = oldest_back a.places.entries b.places.entries c.places.entries ab.places bc.places;
  tokens = take_back a.tokens.items b.tokens.items c.tokens.items ab.tokens bc.tokens;
}

-- ---- a place with another hand

pub rehand : (s : Stored) (old new : Place) (terms : ℕ → Option Tree) (hand : ℕ → Option TokenTree) → IsOwn s old
    → new.known ≡ old.known → new.fresh ≡ old.fresh → Holds s new.hand terms hand → IsWhole new.hand → IsHandOf s new.hand
    → Begins old.hand new.hand → Becomes s s old new (with_hand (env_of s old) terms hand)
unfolding env_of
rehand s old new terms hand own known fresh holds whole ids begins = record {
  own = record {
    whole = whole;
    ids = ids;
    holds = holds_own s new.hand terms hand holds;
    ready = subst (λ (k : Hypotheses). AreReady s k) (sym known) own.ready;
  };
  env = λ i. record {
    terms = sym (terms_are s new.hand terms hand holds) i;
    hand = sym (hand_is s new.hand terms hand holds) i;
    facts = known_in s (known i);
    fresh = fresh i;
  };
  leads = begins;
  remembers = same_facts (known_in s old.known) (known_in s new.known) (ap (known_in s) known);
}

-- the same of an answer
pub rehand_all : {A E : Type 0} (r : Result A E) (s : Stored) (old new : Place) (terms : ℕ → Option Tree) (hand : ℕ → Option TokenTree)
    → IsOwn s old → new.known ≡ old.known → new.fresh ≡ old.fresh → OnOk r (Holds s new.hand terms hand) → OnOk r (IsWhole new.hand)
    → OnOk r (IsHandOf s new.hand) → OnOk r (Begins old.hand new.hand)
    → OnOk r (Becomes s s old new (with_hand (env_of s old) terms hand))
rehand_all (Ok a) s old new terms hand own known fresh holds whole ids begins = rehand s old new terms hand own known fresh holds whole ids begins
rehand_all (Err e) s old new terms hand own known fresh holds whole ids begins = tt

-- ---- a place with more facts, or with another first free symbol

own_as : (s : Stored) (old new : Place) → IsOwn s old → new.hand ≡ old.hand → AreReady s new.known → IsOwn s new
own_as s old new own hand ready = record {
  whole = subst (λ (h : Hand). IsWhole h) (sym hand) own.whole;
  ids = subst (λ (h : Hand). IsHandOf s h) (sym hand) own.ids;
  holds = subst (λ (h : Hand). Holds s h (terms_in s h) (token_in s h)) (sym hand) own.holds;
  ready = ready;
}

begins_as : (old new : Place) → new.hand ≡ old.hand → Begins old.hand new.hand
begins_as old new hand = subst (λ (h : Hand). Begins old.hand h) (sym hand) (begins_same old.hand old.hand refl refl refl)

pub refreshed : (s : Stored) (old new : Place) (n : ℕ) → IsOwn s old → new.hand ≡ old.hand → new.known ≡ old.known
    → new.fresh ≡ old.fresh + n → Becomes s s old new (use_up n (env_of s old))
unfolding env_of
refreshed s old new n own hand known fresh = record {
  own = own_as s old new own hand (subst (λ (k : Hypotheses). AreReady s k) (sym known) own.ready);
  env = λ i. record { terms = terms_in s (hand i); hand = token_in s (hand i); facts = known_in s (known i); fresh = fresh i };
  leads = begins_as old new hand;
  remembers = same_facts (known_in s old.known) (known_in s new.known) (ap (known_in s) known);
}

pub learned : (s : Stored) (old new : Place) (fs : List Fact) → IsOwn s old → new.hand ≡ old.hand → new.fresh ≡ old.fresh
    → AreReady s new.known → known_in s new.known ≡ known_in s old.known ++ fs → Becomes s s old new (know fs (env_of s old))
unfolding env_of
learned s old new fs own hand fresh ready known = record {
  own = own_as s old new own hand ready;
  env = λ i. record { terms = terms_in s (hand i); hand = token_in s (hand i); facts = known i; fresh = fresh i };
  leads = begins_as old new hand;
  remembers = record { more = fs; is = known };
}

-- ---- a place with the same hand again

module _ (h new : Hand) (same : IsSame h new) where
  same_token : (n : ℕ) → token_at new n ≡ token_at h n
  same_token n =
      λ i. placed (same.tokens i) (option_map (found_at (same.places i).floor) (newest n (same.places i).entries))

  same_whole : IsWhole h → IsWhole new
  same_whole whole = record {
    names = subst (λ (k : Kept). k.floor ≤ length k.entries) (sym same.names) whole.names;
    places = subst (λ (k : Kept). k.floor ≤ length k.entries) (sym same.places) whole.places;
    placed = λ n p is. subst (λ (ts : List Token). p.value ≤ length ts) (sym same.tokens)
        (whole.placed n p (ap (λ (k : Kept). newest n k.entries) (sym same.places) ∙ is));
  }

  same_ids : (s : Stored) → IsHandOf s h → IsHandOf s new
  same_ids s ids = record {
    said = subst (AreSaidOf s) (sym same.names) ids.said;
    tokens = λ n t is. ids.tokens n t (sym (same_token n) ∙ is);
  }

  same_holds : (s : Stored) (terms : ℕ → Option Tree) (hand : ℕ → Option TokenTree) → Holds s h terms hand → Holds s new terms hand
  same_holds s terms hand is = record {
    names = λ x none. ap (λ (k : Kept). tree_in s k x) same.names ∙ is.names x none;
    held = λ x n token. ap (λ (k : Kept). tree_in s k x) same.names ∙ is.held x n token;
    no_token = is.no_token;
    few = is.few;
    at_hand = λ n. ap (option_map (token_tree s)) (same_token n) ∙ is.at_hand n;
  }

pub same_place : (s : Stored) (old new : Place) → IsOwn s old → IsSame old.hand new.hand → AreReady s new.known
    → known_in s new.known ≡ known_in s old.known → new.fresh ≡ old.fresh → Becomes s s old new (env_of s old)
unfolding env_of
same_place s old new own same ready known fresh =
    let holds = same_holds old.hand new.hand same s (terms_in s old.hand) (token_in s old.hand) own.holds in
    record {
      own = record {
        whole = same_whole old.hand new.hand same own.whole;
        ids = same_ids old.hand new.hand same s own.ids;
        holds = holds_own s new.hand (terms_in s old.hand) (token_in s old.hand) holds;
        ready = ready;
      };
      env = λ i. record {
        terms = sym (terms_are s new.hand (terms_in s old.hand) (token_in s old.hand) holds) i;
        hand = sym (hand_is s new.hand (terms_in s old.hand) (token_in s old.hand) holds) i;
        facts = known i;
        fresh = fresh i;
      };
      leads = begins_same old.hand new.hand same.names same.places same.tokens;
      remembers = same_facts (known_in s old.known) (known_in s new.known) known;
    }

-- ---- one after another

pub becomes_by : (a b c : Stored) (p q r : Place) (d e : Env) → Becomes a b p q d → Becomes b c q r e → Becomes a c p r e
becomes_by a b c p q r d e one two = record {
  own = two.own;
  env = two.env;
  leads = begins_on p.hand q.hand r.hand one.leads two.leads;
  remembers = go_on_by (known_in a p.known) (known_in b q.known) (known_in c r.known) one.remembers two.remembers;
}

-- the same place by another word for what is known there
pub becomes_as : (a b : Stored) (p q : Place) (d e : Env) → d ≡ e → Becomes a b p q d → Becomes a b p q e
becomes_as a b p q d e is one = record {
  own = one.own;
  env = one.env ∙ is;
  leads = one.leads;
  remembers = one.remembers;
}

-- taken back to a mark, a place is what it was there
pub taken_back : (s t : Stored) (before was new : Place) (m : PlaceMark) → IsOwn s before → IsMarkAt before m → Extends s t
    → GoOn (known_in s before.known) (known_in t was.known) → IsSame before.hand new.hand → AreReady t new.known
    → known_in t new.known ≡ take m.facts (known_in t was.known) → new.fresh ≡ m.fresh
    → Becomes s t before new (env_of s before)
taken_back s t before was new m own mark more on same ready known fresh =
    let still = stays s t before more own in
    let cut : take m.facts (known_in t was.known) ≡ known_in s before.known =
    cut_back (known_in s before.known) (known_in t was.known) m.facts on (mark.facts s) in
    let again : known_in t new.known ≡ known_in t before.known =
    known ∙ cut ∙ sym (known_in-more s t before.known more own.ready) in
    becomes_as s t before new (env_of t before) (env_of s before) still.env
    (becomes_by s t t before before new (env_of s before) (env_of t before) still
    (same_place t before new still.own same ready again (fresh ∙ mark.fresh)))

-- ---- a token, and a new place

pub some_seen : {A B : Type 0} (f : A → B) (o : Option A) → is_some (option_map f o) ≡ is_some o
some_seen f None = refl
some_seen f (Some a) = refl

if_some : (s : Stored) (o : Option Token) → ((t : Token) → o ≡ Some t → IsTokenOf s t) → IfSome o (IsTokenOf s)
if_some s None is = tt
if_some s (Some t) is = is t refl

pub stored_token : (s : Stored) (h : Hand) (n : ℕ) → IsHandOf s h → IfSome (token_at h n) (IsTokenOf s)
stored_token s h n ids = if_some s (token_at h n) (ids.tokens n)

pub own_new : (s : Stored) (p : Place) → Holds s p.hand (λ x. None) (λ n. None) → IsWhole p.hand → IsHandOf s p.hand
    → AreReady s p.known → IsOwn s p
own_new s p holds whole ids ready =
    record { whole = whole; ids = ids; holds = holds_own s p.hand (λ x. None) (λ n. None) holds; ready = ready }

pub env_new : (s : Stored) (p : Place) → Holds s p.hand (λ x. None) (λ n. None) → known_in s p.known ≡ [] → p.fresh ≡ first_fresh
    → env_of s p ≡ record { terms = λ x. None; hand = λ n. None; facts = []; fresh = first_fresh }
unfolding env_of
env_new s p holds known fresh = λ i. record {
  terms = sym (terms_are s p.hand (λ x. None) (λ n. None) holds) i;
  hand = sym (hand_is s p.hand (λ x. None) (λ n. None) holds) i;
  facts = known i;
  fresh = fresh i;
}

pub known_more : (s t : Stored) (p : Place) → Extends s t → IsOwn s p → known_in t p.known ≡ known_in s p.known
known_more s t p more own = known_in-more s t p.known more own.ready

pub still_same : (s : Stored) (p : Place) → IsOwn s p → Becomes s s p p (env_of s p)
still_same s p own = same_place s p p own (record { names = refl; places = refl; tokens = refl }) own.ready refl refl
