-- The proofs of a text.
use Rattle.std.proofs.Common.{◌≡◌, ℕ, ◌==◌, true, false, List, [], ◌∷◌, ◌++◌, length, map, refl, sym, arith}
use Rattle.std.specs.List.{flat_map}
use Rattle.std.proofs.lemmas.Bool.{eqb-true}
use Rattle.sync_base.specs.declared.names.NameList.{NameList}
use Rattle.sync_lex.specs.declared.signs.Sign.TheVariants as sign
use Rattle.sync_parse.specs.declared.trees.RawProof.{RawProof}
use Rattle.sync_print.specs.Texts.{plain_proof}
use Rattle.sync_print.specs.Lexemes.{one, printed}
use Rattle.sync_print.specs.ShowTexts.{show_proof, show_proofs}
use Rattle.sync_print.proofs.Steps.{nothing_more}

-- no proofs are not shown
pub no_proofs : (names : NameList) (a : List ℕ) (ps : List RawProof) → (length ps == 0) ≡ true → a ≡ a ++ printed names (show_proofs (map plain_proof ps))
no_proofs names a [] is = sym (nothing_more names a)
no_proofs names a (p ∷ ps) is = let none = eqb-true (length (p ∷ ps)) 0 is in absurd (omega arith)

pub some_proofs : (ps : List RawProof) → (length ps == 0) ≡ false
    → one sign.Proofs ++ one sign.OpenBrace ++ flat_map show_proof (map plain_proof ps) ++ one sign.CloseBrace ≡ show_proofs (map plain_proof ps)
some_proofs [] is = absurd (cc)
some_proofs (p ∷ ps) is = refl
