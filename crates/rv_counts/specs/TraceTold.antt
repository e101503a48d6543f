-- The numbers of a trace, as they are told: what its lines and its events tell.
use Rattle.std.specs.Prelude.{◌≡◌, ℕ, List, length, map, count_by, Option, option_map, option_and_then}
use Rattle.rv_bind.specs.RuleValues.{OnValue}
use Rattle.rv_text.specs.TextLines.{LineText}
use Rattle.rv_matches.specs.RuleLines.{has_rule, is_fired}
use Rattle.rv_matches.specs.TextFacts as facts
use Rattle.rv_matches.specs.TraceFacts.{late_lines, counted_names}
use Rattle.rv_matches.specs.declared.text_facts.Entries as buffers
use Rattle.rv_matches.specs.declared.late.Late as lates
use Rattle.rv_matches.specs.declared.late.Stamped as stamps
use Rattle.rv_facts.specs.declared.counts.Entries.{Entries}
use Rattle.rv_facts.specs.declared.counts.Late.{Late}
use Rattle.rv_facts.specs.declared.counts.Returns.{Returns}
use Rattle.rv_facts.specs.declared.counts.Stamped.{Stamped}
use Rattle.rv_facts.specs.declared.counts.TraceCounts.{TraceCounts}
use Rattle.rv_counts.specs.RuleTold.{counted_told}
use Rattle.rv_counts.specs.Watching.{events_in}

-- the comment on the buffer
abbrev pub entries_told : buffers.Entries → Entries
entries_told e = record { line = e.line; kept = e.kept; written = e.written }

-- the lines that end in a carriage return: the first, where there is one, and how many they are
abbrev pub returns_told : facts.FirstOf ℕ → Option Returns
returns_told returns = option_map (λ line. record { line = line; lines = returns.count }) returns.first

-- a timestamp with its line
abbrev pub stamped_told : stamps.Stamped → Stamped
stamped_told s = record { line = s.line; stamp = s.stamp }

-- a line whose time is before that of one above it, with the greatest above it, where there is one, and how many such lines there are
abbrev pub late_with : ℕ → lates.Late → Option Late
late_with count late = option_map (λ latest. record { late = stamped_told late.late; latest = stamped_told latest; lines = count }) late.latest

-- the first such line, where there is one
abbrev pub late_told : facts.FirstOf lates.Late → Option Late
late_told late = option_and_then (late_with late.count) late.first

-- what these lines, and the events on them, tell under the rules
pub record TellsTrace (rules : List OnValue) (seen : List LineText) (c : TraceCounts) : Type 0 where
  pub lines : c.lines ≡ length seen
  pub events : c.events ≡ length (events_in seen)
  pub named : c.named ≡ count_by (has_rule rules) (events_in seen)
  pub fired : c.fired ≡ count_by (is_fired rules) (events_in seen)
  pub names : map counted_told c.names.items ≡ (counted_names (events_in seen)).words
  pub overwritten : c.overwritten ≡ option_map entries_told (facts.text_facts seen).overwritten
  pub returns : c.returns ≡ returns_told (facts.text_facts seen).returns
  pub late : c.late ≡ late_told (facts.first_of (late_lines (events_in seen)))
