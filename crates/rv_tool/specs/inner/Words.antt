-- A command with its words as plain texts, and when the name that it gives C tables is one.
use Rattle.std.specs.Prelude.{◌≡◌, true}
use Rattle.rv_header.specs.Naming.{is_header_name}
use Rattle.rv_tool.specs.declared.words.ToolCommand.{ToolCommand}
use Rattle.rv_tool.specs.declared.words.ToolCommand.TheVariants as commands
use Rattle.rv_tool.specs.Words.{CommandValue, replay, feed, feed_beside, journal, check, watch, control, load, table, header}

-- the command, with the bytes of its words as texts
abbrev pub command_value : ToolCommand → CommandValue
command_value (commands.Replay bindings trace) = replay bindings.now trace.now
command_value (commands.Feed bindings trace) = feed bindings.now trace.now
command_value (commands.FeedBeside bindings trace script) = feed_beside bindings.now trace.now script.now
command_value (commands.Journal bindings trace) = journal bindings.now trace.now
command_value (commands.Check bindings trace judged) = check bindings.now trace.now judged.now
command_value (commands.Watch bindings trace monitor instance) = watch bindings.now trace.now monitor.now instance.now
command_value (commands.Control bindings script) = control bindings.now script.now
command_value (commands.Load blocks) = load blocks
command_value (commands.Table kind file) = table kind file.now
command_value (commands.Header name file) = header name.now file.now

-- C tables may have the name that the command gives them
abbrev pub IsWellNamed : ToolCommand → Type 0
IsWellNamed (commands.Header name file) = is_header_name name.now ≡ true
IsWellNamed _ = Unit {0}
