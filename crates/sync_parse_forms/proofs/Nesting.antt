-- Productions whose brackets hold the same production.
use Rattle.std.proofs.Common.{◌≡◌, ℕ, zero, suc, ◌<◌, Bool, true, false, List, [], ◌∷◌, Ok, Err, refl, sym, subst, arith}
use Rattle.sync_lex.specs.declared.terminals.Terminal.{Terminal}
use Rattle.sync_parse_exprs.specs.declared.faults.Fault.TheVariants.{Ended}
use Rattle.sync_parse_exprs.specs.Terminals.{Read, Reader}
use Rattle.sync_parse_forms.specs.Relations.{Spelled}
use Rattle.sync_parse_forms.specs.Fronts.{front, among}
use Rattle.sync_parse_forms.specs.Codes.{Code}
use Rattle.sync_parse_forms.specs.Readings.{Levelled, read_levels}
use Rattle.sync_parse_forms.specs.Spellings.{spelled_levels}
use Rattle.sync_parse_forms.proofs.Forms.{Form, form, levels, nested}
use Rattle.sync_parse_forms.proofs.Counting.{Shorter, Holds}
use Rattle.sync_parse_forms.proofs.Sounds as sounds
use Rattle.sync_parse_forms.proofs.Sounds.{Sound}
use Rattle.sync_parse_forms.proofs.Clears.{Starts, Follows, Clear}
use Rattle.sync_parse_forms.proofs.Completes.{Complete}
use Rattle.sync_parse_forms.proofs.Bundle.{Edge, IsForm, lower}

abbrev never : {A : Type 0} → Form A
never = record { spelled = λ ts rest x. ⊥; read = λ left ts. Err Ended }

-- what one form spells, read as another
abbrev mix : {A : Type 0} → Form A → Form A → Form A
mix f g = record { spelled = f.spelled; read = g.read }

-- a production with a form in its brackets is known a level higher than the form
pub record Nests {K : Type 0 → Type 1} {R : Type 0} (p q : List ℕ) (k : (X : Type 0) → K X → Form X) (c : Code K R R) : Type 1 where
  pub step : (s : Bool) (n : ℕ) (g h : Form R) → IsForm s n true p q g h → IsForm s (suc n) true p q (form k g c) (form k h c)

-- where nothing is claimed of reading, it may be any
any_reader : {A : Type 0} {n : ℕ} {b : Bool} {p q : List ℕ} (f g k : Form A) → IsForm false n b p q f g → IsForm false 0 b p q (mix f k) g
any_reader f g k known = record {
  sound = λ is. absurd is;
  complete = λ left room. absurd (omega (arith, room));
  clear = known.clear;
  edge = known.edge;
  edge_too = known.edge_too;
}

edge_never : {A : Type 0} {p q : List ℕ} → Edge {A = A} true p q (never {A = A}).spelled
edge_never = record {
  follows = record { at = λ ts rest x d e. absurd d };
  starts = λ is. record { at = λ ts rest x d. absurd d };
  takes = λ ts rest x d. absurd d;
}

-- nothing beside another
none_left : {A : Type 0} {s : Bool} {n : ℕ} {p q : List ℕ} (g : Form A) → Edge true p q g.spelled → (k : Levelled A) → (Holds s → (left : ℕ) (ts : List Terminal) → Sound (never {A = A}).spelled ts (k left ts)) → IsForm s n true p q (record { spelled = (never {A = A}).spelled; read = k }) g
none_left g edge k sound = record {
  sound = sound;
  complete = λ left room ts. record { at = λ x rest d e. absurd d };
  clear = record { at = λ ts us rest vs x y d. absurd d };
  edge = edge_never;
  edge_too = edge;
}

same_levels : {K : Type 0 → Type 1} {R : Type 0} {p q : List ℕ} {k : (X : Type 0) → K X → Form X} {c : Code K R R} → Nests p q k c → (d : ℕ) → IsForm true 0 true p q (levels k c d) (levels k c d)
unfolding read_levels spelled_levels
same_levels known zero = none_left never edge_never never.read (λ is left ts. sounds.stops)
same_levels {k = k} {c = c} known (suc d) = lower (known.step true 0 (levels k c d) (levels k c d) (same_levels known d))

-- one depth beside another, read with levels of a third
abbrev AtDepth : {K : Type 0 → Type 1} {R : Type 0} → List ℕ → List ℕ → ((X : Type 0) → K X → Form X) → Code K R R → ℕ → Type 0
AtDepth p q k c d = (e n : ℕ) → IsForm false n true p q (mix (levels k c d) (levels k c n)) (levels k c e)

deeper_levels : {K : Type 0 → Type 1} {R : Type 0} {p q : List ℕ} {k : (X : Type 0) → K X → Form X} {c : Code K R R} → Nests p q k c → (d : ℕ) → AtDepth p q k c d → (e n : ℕ) → IsForm false n true p q (mix (form k (levels k c d) c) (levels k c n)) (form k (levels k c e) c)
unfolding read_levels spelled_levels
deeper_levels {k = k} {c = c} known d below e zero =
    any_reader (form k (mix (levels k c d) never) c) (form k (levels k c e) c) never (known.step false 0 (mix (levels k c d) (levels k c 0)) (levels k c e) (below e 0))
deeper_levels {k = k} {c = c} known d below e (suc n) = known.step false n (mix (levels k c d) (levels k c n)) (levels k c e) (below e n)

level_case : {K : Type 0 → Type 1} {R : Type 0} {p q : List ℕ} {k : (X : Type 0) → K X → Form X} {c : Code K R R} → Nests p q k c → (d : ℕ) → AtDepth p q k c d → (e n : ℕ) → IsForm false n true p q (mix (form k (levels k c d) c) (levels k c n)) (levels k c e)
unfolding read_levels spelled_levels
level_case known d below zero n = record {
  sound = λ is. absurd is;
  complete = (deeper_levels known d below 0 n).complete;
  clear = record { at = λ ts us rest vs x y d e. absurd e };
  edge = (same_levels known (suc d)).edge;
  edge_too = edge_never;
}
level_case known d below (suc e) n = deeper_levels known d below e n

all_levels : {K : Type 0 → Type 1} {R : Type 0} {p q : List ℕ} {k : (X : Type 0) → K X → Form X} {c : Code K R R} → Nests p q k c → (d : ℕ) → AtDepth p q k c d
unfolding read_levels spelled_levels
all_levels {k = k} {c = c} known zero = λ e n. none_left (levels k c e) (same_levels known e).edge (levels k c n).read (λ is. absurd is)
all_levels known (suc d) = level_case known d (all_levels known d)

edge_nested : {K : Type 0 → Type 1} {R : Type 0} {p q : List ℕ} {k : (X : Type 0) → K X → Form X} {c : Code K R R} → Nests p q k c → Edge true p q (nested k c).spelled
edge_nested known = record {
  follows = record { at = λ ts rest x d e. (same_levels known d.0).edge.follows.at ts rest x d.1 e };
  starts = λ is. record { at = λ ts rest x d. ((same_levels known d.0).edge.starts tt).at ts rest x d.1 };
  takes = λ ts rest x d. (same_levels known d.0).edge.takes ts rest x d.1;
}

-- a production to any depth
pub nested_form : {K : Type 0 → Type 1} {R : Type 0} {s : Bool} {n : ℕ} {p q : List ℕ} {k : (X : Type 0) → K X → Form X} {c : Code K R R} → Nests p q k c → IsForm s n true p q (nested k c) (nested k c)
nested_form known = record {
  sound = λ is left ts. record { holds = λ x rest e. (suc left, ((same_levels known (suc left)).sound tt left ts).holds x rest e) };
  complete = λ left room ts. record { at = λ x rest d e. ((all_levels known d.0 d.0 (suc left)).complete left (omega arith) ts).at x rest d.1 e };
  clear = record { at = λ ts us rest vs x y d e. (all_levels known d.0 e.0 0).clear.at ts us rest vs x y d.1 e.1 };
  edge = edge_nested known;
  edge_too = edge_nested known;
}
