-- How the two words of an entry show that a delivery failed.
use Rattle.std.specs.Prelude.{ℕ, Bool, true, false, ◌==◌, ◌&&◌, ◌||◌, not}
use Rattle.rv_model.specs.declared.entry.Act.{Act}
use Rattle.rv_model.specs.declared.entry.Act.TheVariants.{Deliver}
use Rattle.rv_model.specs.declared.entry.Entry.{Entry}
use Rattle.rv_model.specs.declared.hit.Mode.{Mode}
use Rattle.rv_model.specs.declared.hit.Mode.TheVariants as modes
use Rattle.rv_word.specs.Words.{set_in}

-- whether the word is that of an instance that waits: its set has row 0 alone
abbrev pub is_waiting : ℕ → Bool
is_waiting word = set_in word == 1

-- whether the word is that of an instance that is stopped: its set has no row
abbrev pub has_no_row : ℕ → Bool
has_no_row word = set_in word == 0

-- whether a hit of the mode begins a run and is its first letter
abbrev pub is_start_run : Mode → Bool
is_start_run modes.StartRun = true
is_start_run _ = false

-- whether a hit failed that found one word and left another: the instance waits now, and it ran before, or it waited
-- and the hit was to be a first letter
abbrev pub shows_failure : Mode → ℕ → ℕ → Bool
shows_failure mode before after = is_waiting after && (not (has_no_row before) && (not (is_waiting before) || is_start_run mode))

-- whether the entry is a delivery that failed
abbrev pub is_failed_entry : Entry → Act → Bool
is_failed_entry e (Deliver slot hit) = shows_failure hit.mode e.before e.after
is_failed_entry e _ = false
