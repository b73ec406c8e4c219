-- What comes out of a word that is kept, when it opens.
use Rattle.std.specs.Prelude.{◌≡◌, ℕ, suc, ◌+◌, Bool, true, false, ◌&&◌, if◌then◌else◌, nat_eq, List, [], ◌∷◌, length, map, flat_map, filter, count_by, Option, Some, None, is_some, is_none, option_map, Result, Ok, ◌≤◌}
use Rattle.std.specs.List.{list_all, AllByRecursion}
use Rattle.std.proofs.Common.{arith}
use Rattle.std.proofs.lemmas.Bool.{and_parts}
use Rattle.std.proofs.lemmas.List.Sums.{length-filter}
use Rattle.sync_base.specs.Outcome.{◌>>=◌}
use Rattle.sync_terms.specs.Trees.{Tree, Formula, replaced}
use Rattle.sync_terms.specs.Values.{Valuation, num}
use Rattle.sync_machine.specs.Naming.{number_fault}
use Rattle.sync_join.specs.Shards.{IsToken}
use Rattle.sync_join.specs.declared.tokens.Token.{Token}
use Rattle.sync_exchange.specs.Exchange.{held_as, tokens_in}
use Rattle.sync_exchange.specs.declared.hands.Held.{Held}
use Rattle.sync_thread.specs.Control.{Halt}
use Rattle.sync_thread.specs.Programs.{ClauseTree, WordTree, is_unguarded}
use Rattle.sync_thread_machine.specs.MachineWithProgram.{MachineWithProgram, fields_of}
use Rattle.sync_thread_meaning.specs.Shares.{Sight, token_list, is_of_form}
use Rattle.sync_thread_meaning.specs.Sound.{clause_is_kept, clauses_are_kept}
use Rattle.sync_thread_meaning.specs.Words.{Taken, taken_one, taken_out}
use Rattle.sync_typing.specs.Blocks.{shape_token, zipped}
use Rattle.sync_typing.specs.Environments.{among}
use Rattle.sync_typing.specs.Names.{clause_is_named, known_in_word, shape_is_named, if_there, is_formula}
use Rattle.sync_typing_laws.proofs.BlocksTokens.{shape_worth, all_front, all_back, all_append, eq_turned}
use Rattle.sync_typing_laws.specs.Rests.{worth, clauses_are_half_kept}
use mathlib.Core.Path.{refl, sym, ap, subst, ◌∙◌}

counted : (c : ClauseTree) (cs : List ClauseTree) (b : Bool) → is_unguarded c ≡ b → count_by is_unguarded (c ∷ cs) ≡ (if b then 1 else 0) + count_by is_unguarded cs
counted c cs b is = sym (length-filter is_unguarded (c ∷ cs)) ∙ ap (λ (z : Bool). length (if z then c ∷ filter is_unguarded cs else filter is_unguarded cs)) is ∙ on b where
  on : (b : Bool) → length (if b then c ∷ filter is_unguarded cs else filter is_unguarded cs) ≡ (if b then 1 else 0) + count_by is_unguarded cs
  on true = let a = length-filter is_unguarded cs in let r : length (c ∷ filter is_unguarded cs) ≡ suc (length (filter is_unguarded cs)) = refl in omega (arith)
  on false = let a = length-filter is_unguarded cs in omega (arith)

module _ (x : MachineWithProgram) (few : length (fields_of x) ≤ 32) (w : WordTree) (s : ℕ → Tree) (v : Valuation) (sight : Sight)
    (same : (t : Tree) → number_fault (known_in_word x w) t ≡ None → num v (replaced s t) ≡ num sight.valuation t) where
  -- what is told of the tokens that come out: their names, what they are, and what the word still owns
  pub record Out (cs : List ClauseTree) (os : List (Option Token)) (names : List ℕ) : Type 1 where
    pub taken : Taken
    pub is : taken_out cs os names ≡ Ok taken
    pub under : map (λ (h : Held). h.name) taken.held ≡ names
    pub held : (n : ℕ) → held_as n taken.held ≡ option_map (worth v) (among (zipped names (map (λ (c : ClauseTree). shape_token s c.shape) (filter is_unguarded cs))) n)
    pub half : (n : ℕ) → clauses_are_half_kept sight n [] cs taken.owned ≡ true
    pub tokens : (P : Token → Type 0) → AllByRecursion P (flat_map token_list os) → AllByRecursion P (tokens_in taken.held) × AllByRecursion P (flat_map token_list taken.owned)

  -- a guarded clause keeps its token
  guarded : (c : ClauseTree) (f : Formula) → c.guard ≡ Some f → (cs : List ClauseTree) (o : Option Token) (os : List (Option Token)) (names : List ℕ) → clause_is_kept sight c o ≡ true → Out cs os names → Out (c ∷ cs) (o ∷ os) names
  guarded c f guard cs o os names kept out = record {
    taken = record { held = out.taken.held; owned = o ∷ out.taken.owned };
    is = ap (λ g. taken_one g o names (taken_out cs os)) guard ∙ ap (λ (r : Result Taken Halt). r >>= (λ (k : Taken). Ok (record { held = k.held; owned = o ∷ k.owned }))) out.is;
    under = out.under;
    held = λ n. subst (λ (b : Bool). held_as n out.taken.held ≡ option_map (worth v) (among (zipped names (map (λ (c : ClauseTree). shape_token s c.shape) (if b then c ∷ filter is_unguarded cs else filter is_unguarded cs))) n)) (sym (ap is_none guard)) (out.held n);
    half = λ n. (let a = out.half (suc n) in subst (λ (b : Bool). ((if b && true then clause_is_kept sight c o else is_none o) && clauses_are_half_kept sight (suc n) [] cs out.taken.owned) ≡ true) (sym (ap is_some guard)) (rw (kept, a) refl));
    tokens = λ P all. (let k = out.tokens P (all_back P (token_list o) (flat_map token_list os) all) in (k.0, all_append P (token_list o) (flat_map token_list out.taken.owned) (all_front P (token_list o) (flat_map token_list os) all) k.1));
  }

  -- an unguarded one gives it away
  unguarded : (c : ClauseTree) → c.guard ≡ None → shape_is_named x (known_in_word x w) c.shape ≡ true → (cs : List ClauseTree) (t : Token) (os : List (Option Token)) (m : ℕ) (names : List ℕ) → is_of_form sight c.shape t ≡ true → IsToken (fields_of x) t → Out cs os names → Out (c ∷ cs) (Some t ∷ os) (m ∷ names)
  unfolding held_as
  unguarded c guard named cs t os m names form is out = record {
    taken = record { held = record { name = m; token = t } ∷ out.taken.held; owned = None ∷ out.taken.owned };
    is = ap (λ g. taken_one g (Some t) (m ∷ names) (taken_out cs os)) guard ∙ ap (λ (r : Result Taken Halt). r >>= (λ (k : Taken). Ok (record { held = record { name = m; token = t } ∷ k.held; owned = None ∷ k.owned }))) out.is;
    under = ap (λ ns. m ∷ ns) out.under;
    held = λ n. subst (λ (b : Bool). held_as n (record { name = m; token = t } ∷ out.taken.held) ≡ option_map (worth v) (among (zipped (m ∷ names) (map (λ (c : ClauseTree). shape_token s c.shape) (if b then c ∷ filter is_unguarded cs else filter is_unguarded cs))) n)) (sym (ap is_none guard)) (here n);
    half = λ n. subst (λ (b : Bool). ((if b && true then clause_is_kept sight c None else true) && clauses_are_half_kept sight (suc n) [] cs out.taken.owned) ≡ true) (sym (ap is_some guard)) (out.half (suc n));
    tokens = λ P all. (let k = out.tokens P all.1 in ((all.0, k.0), k.1));
  } where
    here : (n : ℕ) → held_as n (record { name = m; token = t } ∷ out.taken.held) ≡ option_map (worth v) (among ((m, shape_token s c.shape) ∷ zipped names (map (λ (c : ClauseTree). shape_token s c.shape) (filter is_unguarded cs))) n)
    here n = ap (λ (b : Bool). if b then Some t else held_as n out.taken.held) (eq_turned n m) ∙ tested (nat_eq m n) where
      tested : (b : Bool) → (if b then Some t else held_as n out.taken.held) ≡ option_map (worth v) (if b then Some (shape_token s c.shape) else among (zipped names (map (λ (c : ClauseTree). shape_token s c.shape) (filter is_unguarded cs))) n)
      tested true = ap Some (sym (shape_worth x few (known_in_word x w) s v sight same c.shape t named is form))
      tested false = out.held n

  pub comes_out : (cs : List ClauseTree) (os : List (Option Token)) (names : List ℕ) → clauses_are_kept sight cs os ≡ true → list_all (clause_is_named x w) cs ≡ true → length names ≡ count_by is_unguarded cs → AllByRecursion (IsToken (fields_of x)) (flat_map token_list os) → Out cs os names
  unfolding held_as
  comes_out [] [] [] kept named many all = record { taken = record { held = []; owned = [] }; is = refl; under = refl; held = λ n. refl; half = λ n. refl; tokens = λ P a. (tt, tt) }
  comes_out [] [] (m ∷ ms) kept named many all = absurd (let e : suc (length ms) ≡ 0 = many in omega (arith))
  comes_out [] (o ∷ os) names kept named many all = absurd (cc)
  comes_out (c ∷ cs) [] names kept named many all = absurd (cc)
  comes_out (c ∷ cs) (o ∷ os) names kept named many all = clause c.guard refl o names many k.0 (all_front (IsToken (fields_of x)) (token_list o) (flat_map token_list os) all) (λ ns e. comes_out cs os ns k.1 n.1 e (all_back (IsToken (fields_of x)) (token_list o) (flat_map token_list os) all)) where
    k : (clause_is_kept sight c o ≡ true) × (clauses_are_kept sight cs os ≡ true)
    k = and_parts (clause_is_kept sight c o) (clauses_are_kept sight cs os) kept

    n : (clause_is_named x w c ≡ true) × (list_all (clause_is_named x w) cs ≡ true)
    n = and_parts (clause_is_named x w c) (list_all (clause_is_named x w) cs) named

    clause : (g : Option Formula) → c.guard ≡ g → (o : Option Token) (names : List ℕ) → length names ≡ count_by is_unguarded (c ∷ cs) → clause_is_kept sight c o ≡ true → AllByRecursion (IsToken (fields_of x)) (token_list o) → ((ns : List ℕ) → length ns ≡ count_by is_unguarded cs → Out cs os ns) → Out (c ∷ cs) (o ∷ os) names
    clause (Some f) guard o names many kept all later = guarded c f guard cs o os names kept (later names (let a : length names ≡ 0 + count_by is_unguarded cs = many ∙ counted c cs false (ap is_none guard) in omega (arith)))
    clause None guard o [] many kept all later = absurd (let a : 0 ≡ 1 + count_by is_unguarded cs = many ∙ counted c cs true (ap is_none guard) in omega (arith))
    clause None guard None (m ∷ ms) many kept all later = absurd (let a : clause_is_kept sight (record c { guard = None }) None ≡ true = subst (λ g. clause_is_kept sight (record c { guard = g }) None ≡ true) guard kept in cc)
    clause None guard (Some t) (m ∷ ms) many kept all later = unguarded c guard (and_parts (shape_is_named x (known_in_word x w) c.shape) (if_there (is_formula (known_in_word x w)) c.guard) n.0).0 cs t os m ms
        (subst (λ g. clause_is_kept sight (record c { guard = g }) (Some t) ≡ true) guard kept) all.0
        (later ms (let a : suc (length ms) ≡ 1 + count_by is_unguarded cs = many ∙ counted c cs true (ap is_none guard) in omega (arith)))
