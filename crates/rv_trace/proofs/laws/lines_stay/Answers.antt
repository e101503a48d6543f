use Rattle.std.proofs.Common.{ap}
use Rattle.rv_text.proofs.TextLineLemmas.{line_here-append}
use Rattle.rv_trace.specs.Traces.{reading_of}
use Rattle.rv_trace.proofs.laws.lines_stay.Goals as goal

pub returns : goal.returns
returns c text more number from ended = ap reading_of (line_here-append text more number from ended)
