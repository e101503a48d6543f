-- What a line of a trace says, as bytes: the timestamp, the name of the event and the fields.
use Rattle.std.specs.Prelude.{ℕ, ◌-◌, Bool, bytes_eq, List, length, take, Option}
use Rattle.rv_bind.specs.RuleValues.{OnValue}
use Rattle.rv_route.specs.Asking.{text_at, field_value, fires}
use Rattle.rv_text.specs.Places.{between}
use Rattle.rv_text.specs.Words.{words_of}
use Rattle.rv_trace.specs.declared.line.TraceLine.{TraceLine}
use Rattle.rv_matches.specs.Words.{last_of}

-- what a line says: its number, the timestamp without its colon, the name of the event, and all that follows the colon
-- behind that
pub record LineEvent : Type 0 where
  pub number : ℕ
  pub stamp : List ℕ
  pub name : List ℕ
  pub fields : List ℕ

-- a word without its last byte
abbrev pub without_last : List ℕ → List ℕ
without_last word = take (length word - 1) word

-- the word before a place, without its last byte
abbrev pub stamp_before : List ℕ → ℕ → List ℕ
stamp_before text place = without_last (last_of (words_of (between text 0 place)))

-- the timestamp is the word before the name
abbrev pub stamp_on : List ℕ → TraceLine → List ℕ
stamp_on text line = stamp_before text line.name.from

-- what the line says whose pieces are places in the text
abbrev pub event_on : List ℕ → TraceLine → LineEvent
event_on text line = record { number = line.number; stamp = stamp_on text line; name = text_at text line.name; fields = text_at text line.fields }

-- the line is of this event
abbrev pub is_of : List ℕ → LineEvent → Bool
is_of event line = bytes_eq line.name event

-- the rule fires on the line
abbrev pub fires_on : OnValue → LineEvent → Bool
fires_on rule line = fires line.name line.fields rule

-- the value of a field of the line
abbrev pub value_on : List ℕ → LineEvent → Option (List ℕ)
value_on field line = field_value line.fields field
