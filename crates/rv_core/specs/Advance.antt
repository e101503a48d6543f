-- What a hit makes of a word, which has a set of rows and levels. No row is stopped, row 0 alone is waiting.
use Rattle.std.specs.Prelude.{◌≡◌, ℕ, ◌^◌, ◌<◌, ◌==◌, false, MatchBool, if◌then◌else◌, bit_and, bit_or}
use Rattle.std.specs.Int.{bit_not, w64}
use Rattle.rv_model.specs.declared.hit.Letter.{Letter}
use Rattle.rv_model.specs.declared.hit.Letter.TheVariants.{Event, Atoms}
use Rattle.rv_model.specs.declared.hit.Mode.{Mode}
use Rattle.rv_model.specs.declared.hit.Mode.TheVariants as mode
use Rattle.rv_model.specs.declared.hit.What.{What}
use Rattle.rv_model.specs.declared.hit.What.TheVariants.{Da, Ltl, Nothing}
use Rattle.rv_model.specs.declared.hit.Hit.{Hit}
use Rattle.rv_model.specs.declared.entry.Act.{Act}
use Rattle.rv_model.specs.declared.entry.Act.TheVariants.{Deliver, Stop, Look, Raise, Lower, Clear, End}
use Rattle.rv_model.specs.declared.entry.Answer.{Answer}
use Rattle.rv_model.specs.declared.entry.Answer.TheVariants.{Passed, Started, Kept, Failed, Stopped, Cleared, Ended, Looked, Switched}
use Rattle.rv_model.specs.Table.{Table, of_events, of_labels}
use Rattle.rv_model.specs.Scripts.{is_end}
use Rattle.rv_model.specs.Stepping.{step_set, start_set}
use Rattle.rv_word.specs.Words.{packed, set_in, atoms_in}
use Rattle.rv_core.specs.Levels.{new_levels}

-- only an automaton has a start whose event is not run, and an end runs none
abbrev pub RunsItsEvent : Mode → Type 0
RunsItsEvent mode.Event = Unit {0}
RunsItsEvent mode.Start = ⊥
RunsItsEvent mode.StartRun = Unit {0}
RunsItsEvent mode.End = ⊥

-- what is run is of the table's kind
abbrev pub FitsKind : Table → Mode → What → Type 0
FitsKind (of_events n rows) m (Da event) = event < n
FitsKind (of_events n rows) m (Ltl _ _ _) = ⊥
FitsKind (of_labels nodes) m (Da _) = ⊥
FitsKind (of_labels nodes) m (Ltl _ _ _) = RunsItsEvent m
FitsKind t m Nothing = ⊥

-- the hit is no end and of the table's kind, and an event is in range
abbrev pub FitsTable : Table → Hit → Type 0
FitsTable t hit = (is_end hit.mode ≡ false) × FitsKind t hit.mode hit.what

-- an end, which brings nothing, fits every table
abbrev pub FitsHit : Table → Hit → Type 0
FitsHit t hit = MatchBool (is_end hit.mode) (hit.what ≡ Nothing) (FitsTable t hit)

-- the sets of atoms that go on and off fit the levels
abbrev pub LevelsFit : What → Type 0
LevelsFit (Da _) = Unit {0}
LevelsFit Nothing = Unit {0}
LevelsFit (Ltl on off _) = (on < 2 ^ 32) × (off < 2 ^ 32)

-- the pulses fit too
abbrev pub PulseFits : What → Type 0
PulseFits (Da _) = Unit {0}
PulseFits Nothing = Unit {0}
PulseFits (Ltl _ _ pulse) = pulse < 2 ^ 32

-- all sets of atoms fit
abbrev pub WhatFits : What → Type 0
WhatFits w = LevelsFit w × PulseFits w

-- the levels with a hit, from those before it
abbrev pub levels_after : What → ℕ → ℕ
levels_after (Da _) levels = levels
levels_after Nothing levels = levels
levels_after (Ltl on off _) levels = new_levels levels on off

-- the letter of a hit, by the levels with it; an end has none
abbrev pub letter_by : What → ℕ → Letter
letter_by (Da event) levels = Event event
letter_by Nothing levels = Atoms 0
letter_by (Ltl _ _ pulse) levels = Atoms (bit_or levels pulse)

-- the answer to a letter, and the rows after it, from the rows before it and the rows that follow
abbrev pub begins : ℕ → ℕ → Answer × ℕ
begins start next = if next == 0 then (Failed start, 1) else (Started, next)

-- the same of a run, whose rows are told where it fails
abbrev pub goes_on : ℕ → ℕ → Answer × ℕ
goes_on set next = if next == 0 then (Failed set, 1) else (Kept, next)

-- of an instance that waits
abbrev pub from_waiting : Table → Mode → Letter → Answer × ℕ
from_waiting t mode.Event x = (Passed, 1)
from_waiting t mode.End x = (Passed, 1)
from_waiting t mode.Start x = (Started, start_set t)
from_waiting t mode.StartRun x = begins (start_set t) (step_set t (start_set t) x)

-- of an instance that waits, where the set is row 0 alone, or runs
abbrev pub set_turn : Table → ℕ → Mode → Letter → Answer × ℕ
set_turn t set m x = if set == 1 then from_waiting t m x else goes_on set (step_set t set x)

-- the answer to a hit, and the word after it: the levels first, and then a row of the table
abbrev pub moved : Table → ℕ → ℕ → Hit → Answer × ℕ
moved t set levels hit = let r = set_turn t set hit.mode (letter_by hit.what levels) in (r.0, packed r.1 levels)

-- what is stopped is not changed
abbrev pub advanced : Table → ℕ → Hit → Answer × ℕ
advanced t word hit = if set_in word == 0 then (Passed, word) else moved t (set_in word) (levels_after hit.what (atoms_in word)) hit

-- the answer to an act, and the word after it, with the slot's table and its starting levels
abbrev pub acted : Table → ℕ → ℕ → Act → Answer × ℕ
acted t start word (Deliver _ hit) = advanced t word hit
acted t start word (Stop _) = (Stopped, 0)
acted t start word (Clear _) = (Cleared, packed 1 start)
acted t start word (End _) = (Ended, packed 1 start)
acted t start word Look = (Looked word, word)
acted t start word (Raise bits) = (Switched, bit_or word bits)
acted t start word (Lower bits) = (Switched, bit_and word (bit_not w64 bits))
