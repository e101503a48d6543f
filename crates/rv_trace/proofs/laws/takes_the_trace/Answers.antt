use Rattle.std.proofs.Common.{sym, ◌∙◌, ap}
use Rattle.rv_trace.specs.Traces.{trace_of}
use Rattle.rv_trace.proofs.TakenLemmas.{adds-nothing, takes-read, refused-read}
use Rattle.rv_trace.proofs.laws.takes_the_trace.Goals as goal

pub returns-clause-line : goal.returns-clause-line
returns-clause-line c before after whole text line lines taken is = takes-read before after whole text line lines taken is

pub returns-clause-none : goal.returns-clause-none
returns-clause-none c before after whole lines taken is = ap trace_of (sym taken.all) ∙ adds-nothing before after lines taken.adds is

pub returns-clause-refused : goal.returns-clause-refused
returns-clause-refused c before after whole refusal lines refused is = refused-read before after whole refusal lines refused is
