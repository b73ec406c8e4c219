-- Terminals that name what lexemes name: how they are put together.
use Rattle.std.proofs.Common.{◌≡◌, ◌≤◌, ◌<◌, ℕ, Bool, true, false, List, [], ◌∷◌, ◌++◌, length, Option, Some, None, cond, refl, sym, ap, ◌∙◌, subst, append_assoc}
use Rattle.std.specs.List.{All, cons_option, find}
use Rattle.std.specs.Str.{bytes_eq}
use Rattle.std.proofs.lemmas.List.Elements.{All-nil, All-cons, All-head, All-tail, All-append, filter_map-append}
use Rattle.std.proofs.lemmas.Slice.Eq.{bytes_eq-Decides}
use Rattle.sync_base.specs.declared.names.NameList.{NameList}
use Rattle.sync_base.specs.declared.strategies.Strategy.{Strategy}
use Rattle.sync_lex.specs.declared.signs.Sign.{Sign}
use Rattle.sync_lex.specs.declared.terminals.Terminal.{Terminal}
use Rattle.sync_lex.specs.Strategies.{spelling_of, strategy_of, strategies}
use Rattle.sync_base.specs.Limits.{largest}
use Rattle.sync_parse_exprs.specs.declared.raw_names.RawName.{RawName}
use Rattle.sync_parse_forms.specs.Relations.{The, AName, ANumber, AStrategy, OneOf, Yields}
use Rattle.sync_print.specs.Lexemes.{Lexeme, a_sign, a_number, a_name, a_strategy, one, one_name, one_number, one_strategy, needed}
use Rattle.sync_base.specs.Names.{spelling}
use Rattle.sync_print_spelling.specs.Namings.{names_said, what_name, terminal_names, LexemeFits}
use Rattle.sync_print_spelling.proofs.TrueNames.{KindIsTrue, TerminalIsTrue, TerminalsAreTrue}

-- between two places terminals name what these lexemes name, which fit the names; true terminals follow
pub record Told (names : NameList) (xs : List Lexeme) (ts rest : List Terminal) : Type 0 where
  pub said : terminal_names names ts ≡ names_said names xs ++ terminal_names names rest
  pub fit : All (LexemeFits names) xs
  pub true_rest : TerminalsAreTrue names rest

-- the same, where the terminals are true
pub record Tells (names : NameList) (xs : List Lexeme) (ts rest : List Terminal) : Type 0 where
  pub told : TerminalsAreTrue names ts → Told names xs ts rest

-- ---- one after another

names_said-append : (names : NameList) (xs ys : List Lexeme) → names_said names (xs ++ ys) ≡ names_said names xs ++ names_said names ys
unfolding names_said
names_said-append names xs ys = filter_map-append _ xs ys

joined : {A : Type 0} (a b c ab d e : List A) → c ≡ a ++ d → d ≡ b ++ e → ab ≡ a ++ b → c ≡ ab ++ e
joined a b c ab d e p q r = p ∙ (ap (λ z. a ++ z) q ∙ (sym (append_assoc a b e) ∙ ap (λ z. z ++ e) (sym r)))

pub both : {names : NameList} {xs ys : List Lexeme} {ts us rest : List Terminal} → Tells names xs ts us → Tells names ys us rest → Tells names (xs ++ ys) ts rest
both {names = names} {xs = xs} {ys = ys} {ts = ts} {us = us} {rest = rest} p q = record {
  told = λ t.
      let a = p.told t in
      let b = q.told a.true_rest in
      record {
        said = joined (names_said names xs) (names_said names ys) (terminal_names names ts) (names_said names (xs ++ ys)) (terminal_names names us) (terminal_names names rest) a.said b.said (names_said-append names xs ys);
        fit = All-append (LexemeFits names) xs ys a.fit b.fit;
        true_rest = b.true_rest;
      };
}

-- what names nothing, behind what names something
pub behind : {names : NameList} {xs : List Lexeme} {ts us rest : List Terminal} → Tells names xs ts us → Tells names [] us rest → Tells names xs ts rest
unfolding names_said
behind {names = names} {xs = xs} p q = record {
  told = λ t.
      let a = p.told t in
      let b = q.told a.true_rest in
      record { said = a.said ∙ ap (λ z. names_said names xs ++ z) b.said; fit = a.fit; true_rest = b.true_rest };
}

-- ---- no terminals

pub nothing : {names : NameList} {ts rest : List Terminal} → ts ≡ rest → Tells names [] ts rest
unfolding names_said
nothing {names = names} e = record { told = λ t. record { said = ap (terminal_names names) e; fit = All-nil (LexemeFits names); true_rest = subst (TerminalsAreTrue names) e t } }

-- a sign that is shown
pub silent : {names : NameList} {ts : List Terminal} (s : Sign) → Tells names (one s) ts ts
unfolding names_said one
silent {names = names} s = record { told = λ t. record { said = refl; fit = All-cons (LexemeFits names) (a_sign s) [] tt (All-nil (LexemeFits names)); true_rest = t } }

-- a sign that is shown where it is needed
pub perhaps : {names : NameList} {ts : List Terminal} (b : Bool) (s : Sign) → Tells names (needed b s) ts ts
perhaps true s = silent s
perhaps false s = nothing refl

-- a number that is shown
pub number_shown : {names : NameList} {ts : List Terminal} (n : ℕ) → n ≤ largest → Tells names (one_number n) ts ts
unfolding names_said one_number
number_shown {names = names} n fits = record { told = λ t. record { said = refl; fit = All-cons (LexemeFits names) (a_number n) [] fits (All-nil (LexemeFits names)); true_rest = t } }

-- ---- terminals

-- a terminal that is no name
skipped : {names : NameList} {ts rest : List Terminal} (w : Terminal) → ts ≡ w ∷ rest → what_name names w.what ≡ None → Tells names [] ts rest
unfolding names_said terminal_names
skipped {names = names} {rest = rest} w e is = record {
  told = λ t. record {
    said = ap (terminal_names names) e ∙ ap (λ (x : Option (List ℕ)). cons_option x (terminal_names names rest)) is;
    fit = All-nil (LexemeFits names);
    true_rest = All-tail (TerminalIsTrue names) w rest (subst (TerminalsAreTrue names) e t);
  };
}

-- a terminal that is a name, and a lexeme of this spelling
one_told : {names : NameList} {ts rest : List Terminal} (w : Terminal) (x : Lexeme) (bytes : List ℕ) → ts ≡ w ∷ rest → what_name names w.what ≡ Some bytes
    → names_said names (x ∷ []) ≡ bytes ∷ [] → LexemeFits names x → TerminalsAreTrue names ts → Told names (x ∷ []) ts rest
unfolding terminal_names
one_told {names = names} {rest = rest} w x bytes e is said fits t = record {
  said = ap (terminal_names names) e ∙ (ap (λ (y : Option (List ℕ)). cons_option y (terminal_names names rest)) is ∙ ap (λ (z : List (List ℕ)). z ++ terminal_names names rest) (sym said));
  fit = All-cons (LexemeFits names) x [] fits (All-nil (LexemeFits names));
  true_rest = All-tail (TerminalIsTrue names) w rest (subst (TerminalsAreTrue names) e t);
}

first_is : (names : NameList) {ts : List Terminal} (w : Terminal) (rest : List Terminal) → ts ≡ w ∷ rest → TerminalsAreTrue names ts → TerminalIsTrue names w
first_is names w rest e t = All-head (TerminalIsTrue names) w rest (subst (TerminalsAreTrue names) e t)

pub sign_read : {names : NameList} {s : Sign} {ts rest : List Terminal} {line : ℕ} → The s ts rest line → Tells names [] ts rest
sign_read {names = names} d = skipped d.terminal d.stands (ap (what_name names) d.is)

-- a sign that is read, and one that is shown
pub sign_told : {names : NameList} {s : Sign} {ts rest : List Terminal} {line : ℕ} (shown : Sign) → The s ts rest line → Tells names (one shown) ts rest
sign_told shown d = both (sign_read d) (silent shown)

pub one_of_read : {names : NameList} {A : Type 0} {table : Sign → Option A} {ts rest : List Terminal} {x : A × ℕ} → OneOf table ts rest x → Tells names [] ts rest
one_of_read {names = names} d = skipped d.terminal d.stands (ap (what_name names) d.is)

pub number_read : {names : NameList} {ts rest : List Terminal} {n : ℕ} → ANumber ts rest n → Tells names [] ts rest
number_read {names = names} d = skipped d.terminal d.stands (ap (what_name names) d.is)

-- a number that is read, and one that is shown
pub number_told : {names : NameList} {ts rest : List Terminal} {n : ℕ} (m : ℕ) → m ≤ largest → ANumber ts rest n → Tells names (one_number m) ts rest
number_told m fits d = both (number_read d) (number_shown m fits)

pub name_told : {names : NameList} {ts rest : List Terminal} {x : RawName} → AName ts rest x → Tells names (one_name x.name) ts rest
unfolding names_said one_name
name_told {names = names} {x = x} d =
    let same : x.name ≡ d.number = ap (λ (y : RawName). y.name) d.name_is in
    record {
      told = λ t.
          one_told d.terminal (a_name x.name) (spelling names x.name) d.stands (ap (what_name names) d.is ∙ ap (λ (y : ℕ). Some (spelling names y)) (sym same)) refl
          (subst (λ (y : ℕ). y < length names.list) (sym same) (subst (KindIsTrue names) d.is (first_is names d.terminal _ d.stands t)).0) t;
    }

-- what is found passes
found_case : {A : Type 0} (p : A → Bool) (y x : A) (b : Bool) (later : Option A) → p y ≡ b → (later ≡ Some x → p x ≡ true) → cond b (Some y) later ≡ Some x → p x ≡ true
found_case p y x true later is again e = let same : y ≡ x = cc in subst (λ z. p z ≡ true) same is
found_case p y x false later is again e = again e

found_passes : {A : Type 0} (p : A → Bool) (xs : List A) (x : A) → find p xs ≡ Some x → p x ≡ true
found_passes p [] x e = absurd cc
found_passes p (y ∷ ys) x e = found_case p y x (p y) (find p ys) refl (found_passes p ys x) e

strategy_spelled : (bytes : List ℕ) (s : Strategy) → Some s ≡ strategy_of bytes → spelling_of s ≡ bytes
unfolding strategy_of
strategy_spelled bytes s e = (bytes_eq-Decides (spelling_of s) bytes).0 (found_passes (λ (z : Strategy). bytes_eq (spelling_of z) bytes) strategies s (sym e))

pub strategy_told : {names : NameList} {ts rest : List Terminal} {s : Strategy} → AStrategy ts rest s → Tells names (one_strategy s) ts rest
unfolding names_said one_strategy
strategy_told {names = names} {s = s} d = record {
  told = λ t.
      let same = strategy_spelled (spelling names d.number) s (subst (KindIsTrue names) d.is (first_is names d.terminal _ d.stands t)).1 in
      one_told d.terminal (a_strategy s) (spelling_of s) d.stands (ap (what_name names) d.is ∙ ap (λ (z : List ℕ). Some z) (sym same)) refl tt t;
}

pub none_read : {names : NameList} {A : Type 0} {x y : A} {ts rest : List Terminal} → Yields x ts rest y → Tells names [] ts rest
none_read d = nothing d.none
