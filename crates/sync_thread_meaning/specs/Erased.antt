-- The erased program where the annotated one is at a configuration.
use Rattle.std.specs.Prelude.{List, map, option_map, Option, Some, None}
use Rattle.sync_thread.specs.Code.{ErasedConfig, code_language, code_list}
use Rattle.sync_thread.specs.Control.{Frame, InBranch, InLoop, Paused, running}
use Rattle.sync_thread_meaning.specs.Meaning.{annotated_language}
use Rattle.sync_thread_meaning.specs.Moments.{Configuration}

abbrev pub erased_frame : Frame annotated_language → Frame code_language
erased_frame (InBranch joined rest v) = InBranch None (code_list rest) tt
erased_frame (InLoop k body left rest v) = InLoop tt (code_list body) (Some tt) (code_list rest) tt

abbrev pub erased_paused : Paused annotated_language → Paused code_language
erased_paused w = record { rest = code_list w.rest; frames = map erased_frame w.frames }

abbrev pub erased_places : List (Option (Paused annotated_language)) → List (Option (Paused code_language))
erased_places ps = map (option_map erased_paused) ps

-- the same words, cells, lines and locals, and everybody before the code of what remains for him
abbrev pub erased_config : Configuration → ErasedConfig
erased_config c = running c.state.memory (erased_places c.places)
