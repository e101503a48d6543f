-- What is kept of the lines of a trace: what all lines tell, what the events tell, and what the events are to the rules.
use Rattle.std.specs.Prelude.{◌≡◌, ℕ, List, filter_map, Option, Some, None, Result, Ok, Err}
use Rattle.rv_text.specs.TextLines.{LineText}
use Rattle.rv_text.specs.declared.refusals.Refusal.{Refusal}
use Rattle.rv_trace.specs.declared.line.TraceLine.{TraceLine}
use Rattle.rv_trace.specs.Lines.{line_of}
use Rattle.rv_bind.specs.declared.bindings.Bindings.{Bindings}
use Rattle.rv_matches.specs.LineEvents.{LineEvent, event_on}
use Rattle.rv_matches.specs.RuleLines.{AreRuleLines, IsForRules}
use Rattle.rv_matches.specs.TextFacts.{text_facts}
use Rattle.rv_matches.specs.TraceFacts.{event_facts}
use Rattle.rv_counts.specs.declared.watch.TraceWatch.{TraceWatch}

-- the event that was read on a line, if any
abbrev pub event_read : List ℕ → Result (Option TraceLine) Refusal → Option LineEvent
event_read text (Ok (Some line)) = Some (event_on text line)
event_read text (Ok None) = None
event_read text (Err refusal) = None

-- the event of a line, if it has one
abbrev pub event_in : LineText → Option LineEvent
event_in line = event_read line.bytes (line_of line.bytes 0 line.number)

-- the events of lines, in order
abbrev pub events_in : List LineText → List LineEvent
events_in lines = filter_map event_in lines

-- what is kept is what these lines tell, under the rules of the bindings
pub record IsWatch (bindings : Bindings) (lines : List LineText) (w : TraceWatch) : Type 0 where
  pub text : w.text ≡ text_facts lines
  pub events : w.events ≡ event_facts (events_in lines)
  pub rules : AreRuleLines bindings.rules.items (events_in lines) w.rules
  pub made : IsForRules bindings.rules.items w.rules
