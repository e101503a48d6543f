-- How what was done is put.
use Rattle.std.specs.Prelude.{◌≡◌, Some, Result, Ok, Err}
use Rattle.rv_bind.specs.declared.fault.BindFault.{BindFault}
use Rattle.rv_bind.specs.declared.fault.BindFault.TheVariants as faults
use Rattle.rv_tool.specs.declared.replay.FinishedRun.{FinishedRun}
use Rattle.rv_tool.specs.Headline.{Ending, GivesUp, PrintsText}
use Rattle.rv_tool.specs.Output.{IsWritten, refusal_text, missing_text}

-- what was done is put, or why there is nothing to put
abbrev pub IsPut : Result FinishedRun BindFault → Ending
IsPut (Ok done) c = IsWritten c.before c.after done.text.items done.status c.status × (c.history ≡ done.closed)
IsPut (Err faults.Memory) c = GivesUp c
IsPut (Err (faults.Refused file refusal)) c = PrintsText (refusal_text (Some file) refusal) 2 c
IsPut (Err (faults.Unread file)) c = PrintsText (missing_text file) 3 c
