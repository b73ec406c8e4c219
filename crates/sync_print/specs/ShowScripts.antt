-- The canonical lexemes of a proof script.
use Rattle.std.specs.Prelude.{ℕ, ℤ, unsigned_abs, List, [], ◌++◌, map, if◌then◌else◌}
use Rattle.std.specs.Int.{is_negative}
use Rattle.sync_lex.specs.declared.signs.Sign.{Sign}
use Rattle.sync_lex.specs.declared.signs.Sign.TheVariants as sign
use Rattle.sync_print.specs.Exprs.{Plain}
use Rattle.sync_print.specs.Scripts.{PlainSubject, name, special, PlainHyp, denied, label, at, low, high, PlainPart, PlainStep, same, sum, inst, parts, split, cut, read, size, total, cong, PlainBlock, done, first}
use Rattle.sync_print.specs.Lexemes.{Lexeme, one, one_name, one_number, in_braces, listed}
use Rattle.sync_print.specs.ShowExprs.{special_sign, show_expr}

abbrev pub show_subject : PlainSubject → List Lexeme
show_subject (name x) = one_name x
show_subject (special w) = one (special_sign w)

abbrev pub show_hyp : PlainHyp → List Lexeme
show_hyp denied = one sign.Denied
show_hyp (label x) = one_name x
show_hyp (at n) = one sign.At ++ one_number n
show_hyp (low s) = one sign.Low ++ show_subject s
show_hyp (high s) = one sign.High ++ show_subject s

-- a number, with `-` where it is below 0
abbrev pub show_times : ℤ → List Lexeme
show_times z = if is_negative z then one sign.Minus ++ one_number (unsigned_abs z) else one_number (unsigned_abs z)

abbrev pub show_part : PlainPart → List Lexeme
show_part p = show_times p.times ++ show_hyp p.hyp

-- the name that a step gives
abbrev pub show_as : ℕ → List Lexeme
show_as x = one sign.As ++ one_name x

abbrev pub show_lookup : Sign → Plain → Plain → ℕ → List Lexeme
show_lookup s m k x = one s ++ show_expr m ++ one sign.Comma ++ show_expr k ++ show_as x ++ one sign.Semicolon

abbrev mutual
  pub show_step : PlainStep → List Lexeme
  show_step same = one sign.Same ++ one sign.Semicolon
  show_step (sum ps) = one sign.Sum ++ listed (map show_part ps) ++ one sign.Semicolon
  show_step (inst h es x) = one sign.Inst ++ show_hyp h ++ one sign.OpenRound ++ listed (map show_expr es) ++ one sign.CloseRound ++ show_as x ++ one sign.Semicolon
  show_step (parts h x y) = one sign.Parts ++ show_hyp h ++ show_as x ++ one sign.Comma ++ one_name y ++ one sign.Semicolon
  show_step (split h x b c) = one sign.Split ++ show_hyp h ++ show_as x ++ in_braces (show_steps b) ++ in_braces (show_steps c)
  show_step (cut e x b) = one sign.Cut ++ show_expr e ++ show_as x ++ in_braces (show_steps b)
  show_step (read m k x) = show_lookup sign.Read m k x
  show_step (size m k x) = show_lookup sign.Size m k x
  show_step (total m k x) = show_lookup sign.Total m k x
  show_step (cong m j k x) = one sign.Cong ++ show_expr m ++ one sign.Comma ++ show_expr j ++ one sign.Comma ++ show_expr k ++ show_as x ++ one sign.Semicolon

  pub show_steps : PlainBlock → List Lexeme
  show_steps done = []
  show_steps (first s b) = show_step s ++ show_steps b

abbrev pub show_block : PlainBlock → List Lexeme
show_block b = in_braces (show_steps b)
