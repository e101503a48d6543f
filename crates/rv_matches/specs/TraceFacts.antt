-- What the events of a trace tell: their names, and timestamps that go back.
use Rattle.std.specs.Prelude.{◌≡◌, ℕ, List, [], ◌∷◌, ◌++◌, length, map, filter, Option}
use Rattle.rv_matches.specs.declared.event_facts.TheConstants.{MOST_NAMES}
use Rattle.rv_matches.specs.LateTimes.{Late, Stamped, latest_of, late_behind}
use Rattle.rv_matches.specs.LineEvents.{LineEvent}
use Rattle.rv_matches.specs.TextFacts.{FirstOf, first_of}
use Rattle.rv_matches.specs.Times.{is_time}
use Rattle.rv_matches.specs.Words.{CountedValue, counted_value}

-- ---- timestamps

-- the timestamp of a line
abbrev pub stamped : LineEvent → Stamped
stamped line = record { line = line.number; stamp = line.stamp }

-- the timestamps that can be compared
abbrev pub stamps_of : List LineEvent → List Stamped
stamps_of lines = filter (λ s. is_time s.stamp) (map stamped lines)

-- the lines whose time is before that of a line above them
abbrev pub late_lines : List LineEvent → List Late
late_lines lines = late_behind [] (stamps_of lines)

-- ---- the events

-- the names of the events, line after line
abbrev pub event_names : List LineEvent → List (List ℕ)
event_names lines = map (λ line. line.name) lines

-- the names that are kept, with the number of their lines
abbrev pub counted_names : List LineEvent → CountedValue
counted_names lines = counted_value MOST_NAMES (event_names lines)

-- how many events there are, their names, the latest of them, and those that are late
pub record EventFactsValue : Type 0 where
  pub events : ℕ
  pub names : CountedValue
  pub latest : Option Stamped
  pub late : FirstOf Late

abbrev pub event_facts : List LineEvent → EventFactsValue
event_facts lines = record { events = length lines; names = counted_names lines; latest = latest_of (stamps_of lines); late = first_of (late_lines lines) }

-- what was told of any events becomes what is told of these and one more
abbrev pub TellsEvent : LineEvent → EventFactsValue → EventFactsValue → Type 0
TellsEvent line old new = (lines : List LineEvent) → old ≡ event_facts lines → new ≡ event_facts (lines ++ line ∷ [])
