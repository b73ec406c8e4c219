-- The levels of the productions of expressions: what each spells.
use Rattle.std.proofs.Common.{◌≡◌, ℕ, false, List, nat_lt, ap, ◌∙◌}
use Rattle.sync_lex.specs.declared.signs.Sign.{Sign}
use Rattle.sync_lex.specs.declared.signs.Sign.TheVariants as sign
use Rattle.sync_lex.specs.declared.terminals.Terminal.{Terminal}
use Rattle.sync_parse_exprs.specs.declared.expressions.RawExpr.{RawExpr, fold-roll-RawExpr}
use Rattle.sync_parse_exprs.specs.declared.expressions.RawExprKind.{RawExprKind}
use Rattle.sync_parse_exprs.specs.declared.expressions.RawExprKind.TheVariants as kinds
use Rattle.sync_parse_exprs.specs.declared.expressions.Operator.{Operator}
use Rattle.sync_parse_exprs.specs.declared.expressions.Operator.TheVariants as operator
use Rattle.sync_parse_exprs.specs.Expressions.{placed}
use Rattle.sync_parse_forms.specs.Relations.{Spelled, The, the_one, the_other}
use Rattle.sync_parse_grammar.specs.Expressions.{placed_at, Whole, Unary, Product, Chain, ends, goes_on, Chained, SumSign, Sum, RelationSign, Relation, And, Or, Implied, plain as no_implies, implies as and_implies, Joins}
use Rattle.sync_print.specs.Exprs.{Plain, joined, plain, plain_kind, plain_at}
use Rattle.sync_print.specs.Lexemes.{one}
use Rattle.sync_print.proofs.Saying.{said, said-Two}
use Rattle.sync_print_spelling.specs.Levels.{Level, l0, l1, l2, l3, l4, l5, l6, rank, level}
use Rattle.sync_print_spelling.specs.Says.{Says}
use Rattle.sync_print_spelling.proofs.Terminals.{the_sign, here_is, yields, seq, whole}

-- ---- what a production spells

pub record Spelt (K : Spelled RawExprKind) (e : Plain) (ts rest : List Terminal) : Type 0 where
  pub kind : RawExprKind
  pub spelled : K ts rest kind
  pub means : said kind ≡ e

pub says_placed : (x : RawExprKind) (line : ℕ) → plain (placed x line) ≡ said x
says_placed x line = fold-roll-RawExpr Plain Plain plain_kind plain_at (record { what = x; line = line })

-- ---- levels

-- a derivation of a level is one of the level below
pub as_product : (I : Spelled RawExprKind) (ts rest : List Terminal) (x : RawExprKind) → Unary I ts rest x → Product I ts rest x
unfolding Product
as_product inside ts rest x d = the_one d

pub as_chain : (Op : Spelled Operator) (Item : Spelled RawExprKind) (ts rest : List Terminal) (x : RawExprKind) → Item ts rest x → Chained Op Item ts rest x
unfolding Chained
as_chain op item ts rest x d = seq ts ts here_is (seq x rest d ends)

pub as_sum : (I : Spelled RawExprKind) (ts rest : List Terminal) (x : RawExprKind) → Product I ts rest x → Sum I ts rest x
unfolding Sum
as_sum inside ts rest x d = as_chain SumSign (Product inside) ts rest x d

pub as_relation : (I : Spelled RawExprKind) (ts rest : List Terminal) (x : RawExprKind) → Sum I ts rest x → Relation I ts rest x
unfolding Relation
as_relation inside ts rest x d = seq ts ts here_is (seq x rest d (the_one (yields x)))

pub as_and : (I : Spelled RawExprKind) (ts rest : List Terminal) (x : RawExprKind) → Relation I ts rest x → And I ts rest x
unfolding And
as_and inside ts rest x d = as_chain (Joins sign.And operator.And) (Relation inside) ts rest x d

pub as_or : (I : Spelled RawExprKind) (ts rest : List Terminal) (x : RawExprKind) → And I ts rest x → Or I ts rest x
unfolding Or
as_or inside ts rest x d = as_chain (Joins sign.Or operator.Or) (And inside) ts rest x d

pub to_lowest : (I : Spelled RawExprKind) (k : Level) (ts rest : List Terminal) (x : RawExprKind) → level k I ts rest x → Implied I ts rest x
to_lowest inside l0 ts rest x d = d
to_lowest inside l1 ts rest x d = no_implies d
to_lowest inside l2 ts rest x d = no_implies (as_or inside ts rest x d)
to_lowest inside l3 ts rest x d = no_implies (as_or inside ts rest x (as_and inside ts rest x d))
to_lowest inside l4 ts rest x d = no_implies (as_or inside ts rest x (as_and inside ts rest x (as_relation inside ts rest x d)))
to_lowest inside l5 ts rest x d = no_implies (as_or inside ts rest x (as_and inside ts rest x (as_relation inside ts rest x (as_sum inside ts rest x d))))
to_lowest inside l6 ts rest x d =
    no_implies (as_or inside ts rest x (as_and inside ts rest x (as_relation inside ts rest x (as_sum inside ts rest x (as_product inside ts rest x d)))))

pub up6 : (I : Spelled RawExprKind) {e : Plain} {ts rest : List Terminal} → Spelt (Unary I) e ts rest → Spelt (Product I) e ts rest
up6 inside {ts = ts} {rest = rest} x = record { kind = x.kind; spelled = as_product inside ts rest x.kind x.spelled; means = x.means }

pub up5 : (I : Spelled RawExprKind) {e : Plain} {ts rest : List Terminal} → Spelt (Product I) e ts rest → Spelt (Sum I) e ts rest
up5 inside {ts = ts} {rest = rest} x = record { kind = x.kind; spelled = as_sum inside ts rest x.kind x.spelled; means = x.means }

pub up4 : (I : Spelled RawExprKind) {e : Plain} {ts rest : List Terminal} → Spelt (Sum I) e ts rest → Spelt (Relation I) e ts rest
up4 inside {ts = ts} {rest = rest} x = record { kind = x.kind; spelled = as_relation inside ts rest x.kind x.spelled; means = x.means }

pub up3 : (I : Spelled RawExprKind) {e : Plain} {ts rest : List Terminal} → Spelt (Relation I) e ts rest → Spelt (And I) e ts rest
up3 inside {ts = ts} {rest = rest} x = record { kind = x.kind; spelled = as_and inside ts rest x.kind x.spelled; means = x.means }

pub up2 : (I : Spelled RawExprKind) {e : Plain} {ts rest : List Terminal} → Spelt (And I) e ts rest → Spelt (Or I) e ts rest
up2 inside {ts = ts} {rest = rest} x = record { kind = x.kind; spelled = as_or inside ts rest x.kind x.spelled; means = x.means }

pub up1 : (I : Spelled RawExprKind) {e : Plain} {ts rest : List Terminal} → Spelt (Or I) e ts rest → Spelt (Implied I) e ts rest
up1 inside x = record { kind = x.kind; spelled = no_implies x.spelled; means = x.means }

-- what is of a level is of each lower one
pub lift : (I : Spelled RawExprKind) {e : Plain} {ts rest : List Terminal} (own k : Level) → nat_lt (rank own) (rank k) ≡ false → Spelt (level own I) e ts rest → Spelt (level k I) e ts rest
lift inside l0 l0 low x = x
lift inside l0 l1 low x = absurd (cc)
lift inside l0 l2 low x = absurd (cc)
lift inside l0 l3 low x = absurd (cc)
lift inside l0 l4 low x = absurd (cc)
lift inside l0 l5 low x = absurd (cc)
lift inside l0 l6 low x = absurd (cc)
lift inside l1 l0 low x = up1 inside x
lift inside l1 l1 low x = x
lift inside l1 l2 low x = absurd (cc)
lift inside l1 l3 low x = absurd (cc)
lift inside l1 l4 low x = absurd (cc)
lift inside l1 l5 low x = absurd (cc)
lift inside l1 l6 low x = absurd (cc)
lift inside l2 l0 low x = up1 inside (up2 inside x)
lift inside l2 l1 low x = up2 inside x
lift inside l2 l2 low x = x
lift inside l2 l3 low x = absurd (cc)
lift inside l2 l4 low x = absurd (cc)
lift inside l2 l5 low x = absurd (cc)
lift inside l2 l6 low x = absurd (cc)
lift inside l3 l0 low x = up1 inside (up2 inside (up3 inside x))
lift inside l3 l1 low x = up2 inside (up3 inside x)
lift inside l3 l2 low x = up3 inside x
lift inside l3 l3 low x = x
lift inside l3 l4 low x = absurd (cc)
lift inside l3 l5 low x = absurd (cc)
lift inside l3 l6 low x = absurd (cc)
lift inside l4 l0 low x = up1 inside (up2 inside (up3 inside (up4 inside x)))
lift inside l4 l1 low x = up2 inside (up3 inside (up4 inside x))
lift inside l4 l2 low x = up3 inside (up4 inside x)
lift inside l4 l3 low x = up4 inside x
lift inside l4 l4 low x = x
lift inside l4 l5 low x = absurd (cc)
lift inside l4 l6 low x = absurd (cc)
lift inside l5 l0 low x = up1 inside (up2 inside (up3 inside (up4 inside (up5 inside x))))
lift inside l5 l1 low x = up2 inside (up3 inside (up4 inside (up5 inside x)))
lift inside l5 l2 low x = up3 inside (up4 inside (up5 inside x))
lift inside l5 l3 low x = up4 inside (up5 inside x)
lift inside l5 l4 low x = up5 inside x
lift inside l5 l5 low x = x
lift inside l5 l6 low x = absurd (cc)
lift inside l6 l0 low x = up1 inside (up2 inside (up3 inside (up4 inside (up5 inside (up6 inside x)))))
lift inside l6 l1 low x = up2 inside (up3 inside (up4 inside (up5 inside (up6 inside x))))
lift inside l6 l2 low x = up3 inside (up4 inside (up5 inside (up6 inside x)))
lift inside l6 l3 low x = up4 inside (up5 inside (up6 inside x))
lift inside l6 l4 low x = up5 inside (up6 inside x)
lift inside l6 l5 low x = up6 inside x
lift inside l6 l6 low x = x

-- ---- chains

pub chain_more : {Op : Spelled Operator} {Item : Spelled RawExprKind} {start ts us vs rest : List Terminal} {x z : RawExprKind} {o : Operator} {y : RawExpr}
    → Chain Op Item start x ts us z → Op us vs o → Whole Item vs rest y → Chain Op Item start x ts rest (kinds.Two o (placed_at z start) y)
chain_more {y = y} ends op item = goes_on y op item ends
chain_more (goes_on y' op' item' more') op item = goes_on y' op' item' (chain_more more' op item)

-- two with an operator between, spelled by a production
pub record Twofold (K : Spelled RawExprKind) (o : Operator) (e f : Plain) (ts rest : List Terminal) : Type 0 where
  pub left : RawExpr
  pub right : RawExpr
  pub spelled : K ts rest (kinds.Two o left right)
  pub left_means : plain left ≡ e
  pub right_means : plain right ≡ f

pub spelt_two : {K : Spelled RawExprKind} (o : Operator) {e f : Plain} {ts rest : List Terminal} → Twofold K o e f ts rest → Spelt K (joined o e f) ts rest
spelt_two o {e = e} t = record {
  kind = kinds.Two o t.left t.right;
  spelled = t.spelled;
  means = said-Two o t.left t.right ∙ (ap (λ z. joined o z (plain t.right)) t.left_means ∙ ap (joined o e) t.right_means);
}

-- two of a chain
pub chained_two : (Op : Spelled Operator) (Item : Spelled RawExprKind) {e f : Plain} {ts us vs rest : List Terminal} {o : Operator}
    → Spelt (Chained Op Item) e ts us → Op us vs o → Spelt Item f vs rest → Twofold (Chained Op Item) o e f ts rest
unfolding Chained
chained_two ops item {vs = vs} a op b =
    let c = a.spelled in
    record {
      left = placed_at a.kind c.value;
      right = placed_at b.kind vs;
      spelled = seq c.value c.middle c.one (seq c.next.value c.next.middle c.next.one (chain_more c.next.next op (whole b.spelled)));
      left_means = says_placed a.kind _ ∙ a.means;
      right_means = says_placed b.kind _ ∙ b.means;
    }

pub sums : (I : Spelled RawExprKind) (o : Operator) {e f : Plain} {ts us vs rest : List Terminal}
    → Spelt (Sum I) e ts us → SumSign us vs o → Spelt (Product I) f vs rest → Twofold (Sum I) o e f ts rest
unfolding Sum
sums inside o a op b = chained_two SumSign (Product inside) a op b

pub ands : (I : Spelled RawExprKind) {e f : Plain} {ts us vs rest : List Terminal}
    → Spelt (And I) e ts us → Joins sign.And operator.And us vs operator.And → Spelt (Relation I) f vs rest → Twofold (And I) operator.And e f ts rest
unfolding And
ands inside a op b = chained_two (Joins sign.And operator.And) (Relation inside) a op b

pub ors : (I : Spelled RawExprKind) {e f : Plain} {ts us vs rest : List Terminal}
    → Spelt (Or I) e ts us → Joins sign.Or operator.Or us vs operator.Or → Spelt (And I) f vs rest → Twofold (Or I) operator.Or e f ts rest
unfolding Or
ors inside a op b = chained_two (Joins sign.Or operator.Or) (And inside) a op b

pub relations : (I : Spelled RawExprKind) (o : Operator) {e f : Plain} {ts us vs rest : List Terminal}
    → Spelt (Sum I) e ts us → RelationSign us vs o → Spelt (Sum I) f vs rest → Twofold (Relation I) o e f ts rest
unfolding Relation
relations inside o {ts = ts} {us = us} {vs = vs} {rest = rest} a op b =
    let y = placed_at b.kind vs in
    record {
      left = placed_at a.kind ts;
      right = y;
      spelled = seq ts ts here_is (seq a.kind us a.spelled (the_other (seq o vs op (seq y rest (whole b.spelled) (yields _)))));
      left_means = says_placed a.kind _ ∙ a.means;
      right_means = says_placed b.kind _ ∙ b.means;
    }

pub implications : (I : Spelled RawExprKind) {e f : Plain} {ts us vs rest : List Terminal} {line : ℕ}
    → Spelt (Or I) e ts us → The sign.Implies us vs line → Spelt (Implied I) f vs rest → Twofold (Implied I) operator.Implies e f ts rest
implications inside {ts = ts} {us = us} {vs = vs} {line = line} a op b = record {
  left = placed_at a.kind ts;
  right = placed_at b.kind vs;
  spelled = and_implies a.kind us line a.spelled op b.spelled;
  left_means = says_placed a.kind _ ∙ a.means;
  right_means = says_placed b.kind _ ∙ b.means;
}

pub joins : {s : Sign} {o : Operator} {ts rest : List Terminal} → Says (one s) ts rest → Joins s o ts rest o
joins {o = o} {rest = rest} h = let r = the_sign h in seq r.0 rest r.1 (yields o)
