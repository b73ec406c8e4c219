-- What a text, a name and a number may be at most.
use Rattle.std.specs.Prelude.{ℕ}

-- so many bytes of a text
abbrev pub longest_text : ℕ
longest_text = 1048576

-- so many bytes of a name
abbrev pub longest_name : ℕ
longest_name = 64

-- 2 ^ 127 - 1
abbrev pub largest : ℕ
largest = 170141183460469231731687303715884105727
