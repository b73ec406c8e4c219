-- How many scripts a program has: `by` stands in it as often.
use Rattle.std.specs.Prelude.{ℕ, ◌+◌, List, [], ◌∷◌, length, Option, Some, None}
use Rattle.sync_thread.specs.Control.{Brace, Do, On, OnWhen, If, Loop, Next, Break, Meet, End}
use Rattle.sync_thread.specs.Programs.{IndexTree, ProofTree, Let, Exchange, Split, Merge, Copy, Move, Assert, Open}
use Rattle.sync_thread.specs.Programs.{Case, Close, Still, Seal, Give, ProofStepTree, LocalTree, Set, Proof, SharedTree}
use Rattle.sync_thread.specs.Programs.{Read, Write, Peek, Operate, Print, ChoiceTree, ListTree, ThreadTree, StartTree}
use Rattle.sync_thread.specs.Programs.{ProgramTree}

abbrev pub scripts_at : IndexTree → ℕ
scripts_at i = length i.scripts

abbrev pub scripts_by : ProofTree → ℕ
scripts_by (Let n t) = 0
scripts_by (Exchange d) = length d.scripts
scripts_by (Split n one two t ss) = length ss
scripts_by (Merge one two into) = 0
scripts_by (Copy n new) = 0
scripts_by (Move t new) = 0
scripts_by (Assert f label ss) = length ss
scripts_by (Open names tokens label) = 0
scripts_by (Case c) = length c.scripts
scripts_by (Close c) = length c.scripts
scripts_by (Still ss) = length ss
scripts_by (Seal w i c) = length c.scripts
scripts_by (Give t args ss) = length ss

abbrev pub scripts_in_block : List ProofStepTree → ℕ
scripts_in_block [] = 0
scripts_in_block (s ∷ ss) = scripts_by s.what + scripts_in_block ss

abbrev pub scripts_here : LocalTree → ℕ
scripts_here (Set x calc label) = 0
scripts_here (Proof p) = scripts_by p

abbrev pub scripts_of_step : SharedTree → ℕ
scripts_of_step (Read x c i n ss) = scripts_at i + length ss
scripts_of_step (Write c i o n ss) = scripts_at i + length ss
scripts_of_step (Peek x c i d) = scripts_at i + length d.scripts
scripts_of_step (Operate a block) = scripts_at a.index + scripts_in_block block
scripts_of_step (Print label o) = 0

abbrev pub scripts_of_choice : ChoiceTree → ℕ
scripts_of_choice a = scripts_at a.atomic.index + (scripts_in_block a.first + scripts_in_block a.second)

unfoldable pub scripts_in_list : ListTree → ℕ
scripts_in_list (Brace n) = 0
scripts_in_list (Do l n rest) = scripts_here l + scripts_in_list rest
scripts_in_list (On a n rest) = scripts_of_step a + scripts_in_list rest
scripts_in_list (OnWhen a n one two joined rest) =
    scripts_of_choice a + (scripts_in_list one + (scripts_in_list two + scripts_in_list rest))
scripts_in_list (If c n one two joined rest) = scripts_in_list one + (scripts_in_list two + scripts_in_list rest)
scripts_in_list (Loop k j n body left rest) = length j.scripts + (scripts_in_list body + scripts_in_list rest)
scripts_in_list (Next j n rest) = length j.scripts + scripts_in_list rest
scripts_in_list (Break j n rest) = length j.scripts + scripts_in_list rest
scripts_in_list (Meet j n rest) = length j.scripts + scripts_in_list rest
scripts_in_list (End j n rest) = length j.scripts + scripts_in_list rest

abbrev pub scripts_of_threads : List ThreadTree → ℕ
scripts_of_threads [] = 0
scripts_of_threads (t ∷ ts) = scripts_in_list t.body + scripts_of_threads ts

abbrev pub scripts_of_start : Option StartTree → ℕ
scripts_of_start (Some s) = length s.form.scripts + scripts_in_block s.steps
scripts_of_start None = 0

abbrev pub scripts_of_last : Option ListTree → ℕ
scripts_of_last (Some list) = scripts_in_list list
scripts_of_last None = 0

-- A text has these, and one for each proof of its machine.
abbrev pub scripts_of : ProgramTree → ℕ
scripts_of p = scripts_of_start p.start + (scripts_of_threads p.threads + scripts_of_last p.last)
