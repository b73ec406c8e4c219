-- Walks over lists, and what stands for what they have come to.
use Rattle.std.proofs.Common.{◌≡◌, ℕ, zero, suc, ◌+◌, ◌<◌, ◌≤◌, ℤ, pos, Bool, true, false, List, [], ◌∷◌, ◌++◌, length, drop, get_or, Option, Some, None, slice_index_or, slice_set, unwrap_or, slice_get, refl, ap, ◌∙◌, nat_eq, if◌then◌else◌}
use Rattle.std.proofs.lemmas.List.{set-get_or, at_drop_more, at_drop_all}
use Rattle.sync_base.specs.Outcome.{first}
use Rattle.sync_terms.specs.Maps as maps
use Rattle.sync_terms.specs.Values.{Valuation, with_value}
use Rattle.sync_join.proofs.Through.{cond-true, cond-false}
use Rattle.sync_join.specs.declared.tokens.Token.{Token}
use Rattle.sync_exchange.specs.declared.hands.Held.{Held}
use Rattle.sync_exchange.specs.declared.scopes.Known.{Known}
use Rattle.sync_exchange.specs.declared.works.Named.{Named}
use Rattle.sync_exchange.specs.declared.changes.Recording.{Recording}
use Rattle.sync_terms.specs.declared.nodes.Sym.{Sym}
use Rattle.sync_machine.specs.States.{Value}
use Rattle.sync_machine.specs.Views.{symbols_of}
use Rattle.sync_join.specs.Shards.{Kept}
use Rattle.sync_exchange.specs.Exchange.{Exchanging, argument, held_as, stored_at, is_at_place, token_name, next_name, later_names}
use Rattle.sync_exchange.specs.Works.{last_known, known_over, variables_of, recorded, changed_at}

-- ---- tokens by their names, objects by their keys

pub held-here : (name : ℕ) (hs : List Held) (i : ℕ) (d : Held) → i < length hs → nat_eq name (get_or hs i d).name ≡ true → held_as name (drop i hs) ≡ Some (get_or hs i d).token
unfolding held_as
held-here name hs i d h e = at_drop_more (held_as name) hs i d h ∙ cond-true (nat_eq name (get_or hs i d).name) (Some (get_or hs i d).token) (held_as name (drop (i + 1) hs)) e

pub held-later : (name : ℕ) (hs : List Held) (i : ℕ) (d : Held) → i < length hs → nat_eq name (get_or hs i d).name ≡ false → held_as name (drop i hs) ≡ held_as name (drop (i + 1) hs)
unfolding held_as
held-later name hs i d h e = at_drop_more (held_as name) hs i d h ∙ cond-false (nat_eq name (get_or hs i d).name) (Some (get_or hs i d).token) (held_as name (drop (i + 1) hs)) e

pub held-none : (name : ℕ) (hs : List Held) (i : ℕ) → length hs ≤ i → held_as name (drop i hs) ≡ None
unfolding held_as
held-none name hs i h = at_drop_all (held_as name) hs i h

pub stored-here : (f : ℕ) (k : ℤ) (ts : List Token) (i : ℕ) (d : Token) → i < length ts → is_at_place f k (get_or ts i d) ≡ true → stored_at f k (drop i ts) ≡ Some (get_or ts i d).value
unfolding stored_at
stored-here f k ts i d h e = at_drop_more (stored_at f k) ts i d h ∙ cond-true (is_at_place f k (get_or ts i d)) (Some (get_or ts i d).value) (stored_at f k (drop (i + 1) ts)) e

pub stored-later : (f : ℕ) (k : ℤ) (ts : List Token) (i : ℕ) (d : Token) → i < length ts → is_at_place f k (get_or ts i d) ≡ false → stored_at f k (drop i ts) ≡ stored_at f k (drop (i + 1) ts)
unfolding stored_at
stored-later f k ts i d h e = at_drop_more (stored_at f k) ts i d h ∙ cond-false (is_at_place f k (get_or ts i d)) (Some (get_or ts i d).value) (stored_at f k (drop (i + 1) ts)) e

pub stored-none : (f : ℕ) (k : ℤ) (ts : List Token) (i : ℕ) → length ts ≤ i → stored_at f k (drop i ts) ≡ None
unfolding stored_at
stored-none f k ts i h = at_drop_all (stored_at f k) ts i h

-- ---- what passes a test, up to a place

-- ---- what symbols stand for

pub known-push : (ks : List Known) (k : Known) (v : Valuation) → known_over (ks ++ k ∷ []) v ≡ with_value k.symbol k.number maps.nil (known_over ks v)
known-push [] k v = refl
known-push (j ∷ ks) k v = known-push ks k (with_value j.symbol j.number maps.nil v)

pub last-push : (x : ℕ) (ks : List Known) (k : Known) → last_known x (ks ++ k ∷ []) ≡ (if nat_eq x k.symbol then Some k.number else last_known x ks)
last-push x [] k = refl
last-push x (j ∷ ks) k =
    ap (λ o. first o (if nat_eq x j.symbol then Some j.number else None)) (last-push x ks k)
    ∙ either (nat_eq x k.symbol) k.number (last_known x ks) (if nat_eq x j.symbol then Some j.number else None) where
      either : (b : Bool) (n : ℤ) (o p : Option ℤ) → first (if b then Some n else o) p ≡ (if b then Some n else first o p)
      either true n o p = refl
      either false n o p = refl

pub variables-push : (vs : List Named) (v : Named) → variables_of (vs ++ v ∷ []) ≡ (v.field, v.name) ∷ variables_of vs
variables-push [] v = refl
variables-push (w ∷ vs) v = ap (λ ys. ys ++ (w.field, w.name) ∷ []) (variables-push vs v)

pub named-here : (f : ℕ) (vs : List Named) (v : Named) → nat_eq f v.field ≡ true → token_name f (variables_of (vs ++ v ∷ [])) ≡ Some v.name
unfolding token_name
named-here f vs v e = ap (token_name f) (variables-push vs v) ∙ cond-true (nat_eq f v.field) (Some v.name) (token_name f (variables_of vs)) e

pub named-before : (f : ℕ) (vs : List Named) (v : Named) → nat_eq f v.field ≡ false → token_name f (variables_of (vs ++ v ∷ [])) ≡ token_name f (variables_of vs)
unfolding token_name
named-before f vs v e = ap (token_name f) (variables-push vs v) ∙ cond-false (nat_eq f v.field) (Some v.name) (token_name f (variables_of vs)) e

-- ---- names in turn

pub next-at : (xs : List ℕ) (i : ℕ) → next_name (drop i xs) ≡ unwrap_or (slice_get xs i) 0
next-at [] zero = refl
next-at [] (suc i) = refl
next-at (x ∷ xs) zero = refl
next-at (x ∷ xs) (suc i) = next-at xs i

pub later-at : (xs : List ℕ) (i : ℕ) → later_names (drop i xs) ≡ drop (suc i) xs
later-at [] zero = refl
later-at [] (suc i) = refl
later-at (x ∷ xs) zero = refl
later-at (x ∷ xs) (suc i) = later-at xs i

-- ---- what symbols stand for, looked up

abbrev pub or_number : Option ℤ → ℤ → ℤ
or_number (Some n) d = n
or_number None d = d

abbrev pub or_map : Option ℤ → maps.Map → maps.Map
or_map (Some n) m = maps.nil
or_map None m = m

pub known-number : (ks : List Known) (v : Valuation) (x : ℕ) → (known_over ks v).number x ≡ or_number (last_known x ks) (v.number x)
known-number [] v x = refl
known-number (k ∷ ks) v x = known-number ks (with_value k.symbol k.number maps.nil v) x ∙ hidden (last_known x ks) (nat_eq x k.symbol) k.number (v.number x) where
  hidden : (o : Option ℤ) (b : Bool) (n d : ℤ) → or_number o (if b then n else d) ≡ or_number (first o (if b then Some n else None)) d
  hidden (Some m) b n d = refl
  hidden None true n d = refl
  hidden None false n d = refl

pub known-map : (ks : List Known) (v : Valuation) (x : ℕ) → (known_over ks v).mapping x ≡ or_map (last_known x ks) (v.mapping x)
known-map [] v x = refl
known-map (k ∷ ks) v x = known-map ks (with_value k.symbol k.number maps.nil v) x ∙ hidden (last_known x ks) (nat_eq x k.symbol) k.number (v.mapping x) where
  hidden : (o : Option ℤ) (b : Bool) (n : ℤ) (d : maps.Map) → or_map o (if b then maps.nil else d) ≡ or_map (first o (if b then Some n else None)) d
  hidden (Some m) b n d = refl
  hidden None true n d = refl
  hidden None false n d = refl

-- ---- arguments

argument-at : (ps : List Sym) (ns : List ℤ) (x i : ℕ) (d : Sym) (e : ℤ) → i < length ps → i < length ns → argument (symbols_of (drop i ps)) (drop i ns) x ≡ (if nat_eq x (get_or ps i d).0 then get_or ns i e else argument (symbols_of (drop (i + 1) ps)) (drop (i + 1) ns) x)
unfolding argument
argument-at ps ns x i d e h k = at_drop_more (λ qs. argument (symbols_of qs) (drop i ns) x) ps i d h ∙ at_drop_more (λ ms. argument (symbols_of (get_or ps i d ∷ drop (i + 1) ps)) ms x) ns i e k

pub argument-here : (ps : List Sym) (ns : List ℤ) (x i : ℕ) (d : Sym) (e : ℤ) → i < length ps → i < length ns → nat_eq x (get_or ps i d).0 ≡ true → argument (symbols_of (drop i ps)) (drop i ns) x ≡ get_or ns i e
argument-here ps ns x i d e h k is = argument-at ps ns x i d e h k ∙ cond-true (nat_eq x (get_or ps i d).0) (get_or ns i e) (argument (symbols_of (drop (i + 1) ps)) (drop (i + 1) ns) x) is

pub argument-later : (ps : List Sym) (ns : List ℤ) (x i : ℕ) (d : Sym) → i < length ps → i < length ns → nat_eq x (get_or ps i d).0 ≡ false → argument (symbols_of (drop i ps)) (drop i ns) x ≡ argument (symbols_of (drop (i + 1) ps)) (drop (i + 1) ns) x
argument-later ps ns x i d h k is = argument-at ps ns x i d (pos 0) h k ∙ cond-false (nat_eq x (get_or ps i d).0) (get_or ns i (pos 0)) (argument (symbols_of (drop (i + 1) ps)) (drop (i + 1) ns) x) is

pub argument-none : (ps : List Sym) (ns : List ℤ) (x i : ℕ) → length ps ≤ i → argument (symbols_of (drop i ps)) (drop i ns) x ≡ pos 0
unfolding argument
argument-none ps ns x i h = at_drop_all (λ qs. argument (symbols_of qs) (drop i ns) x) ps i h

no-more : (ps : List ℕ) (x : ℕ) → argument ps [] x ≡ pos 0
unfolding argument
no-more [] x = refl
no-more (p ∷ ps) x = refl

pub argument-short : (ps : List Sym) (ns : List ℤ) (x i : ℕ) → length ns ≤ i → argument (symbols_of (drop i ps)) (drop i ns) x ≡ pos 0
argument-short ps ns x i h = at_drop_all (λ ms. argument (symbols_of (drop i ps)) ms x) ns i h ∙ no-more (symbols_of (drop i ps)) x

-- ---- an exchange from its parts

pub same-exchanging : {n n' : Valuation} {s s' : ℕ} {t t' g g' : List ℕ} {v v' : List (ℕ × ℕ)} {h h' e e' : List Held} {k k' : Kept} {b b' : List ℤ} → n ≡ n' → s ≡ s' → t ≡ t' → g ≡ g' → v ≡ v' → h ≡ h' → e ≡ e' → k ≡ k' → b ≡ b'
    → ◌≡◌ {A = Exchanging} (record { names = n; slot = s; tokens = t; given = g; variables = v; hand = h; entered = e; kept = k; bound = b }) (record { names = n'; slot = s'; tokens = t'; given = g'; variables = v'; hand = h'; entered = e'; kept = k'; bound = b' })
same-exchanging pn ps pt pg pv ph pe pk pb i = record { names = pn i; slot = ps i; tokens = pt i; given = pg i; variables = pv i; hand = ph i; entered = pe i; kept = pk i; bound = pb i }

-- ---- records

pub recorded-push : (cs : List Recording) (r : Recording) (vs : List Value) → recorded (cs ++ r ∷ []) vs ≡ changed_at r (recorded cs vs)
recorded-push [] r vs = refl
recorded-push (c ∷ cs) r vs = recorded-push cs r (changed_at c vs)

-- a record that becomes what it is
pub kept-same : (vs : List Value) (f : ℕ) (d : Value) → slice_set vs f (slice_index_or vs f d) ≡ vs
kept-same vs f d = set-get_or vs f d
