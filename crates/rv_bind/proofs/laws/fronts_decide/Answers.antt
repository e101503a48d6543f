use Rattle.rv_text.specs.TextLines.{lines_of}
use Rattle.rv_dot.specs.Dot.{dot_of}
use Rattle.rv_ltl.specs.RuleFile.{ltl_of}
use Rattle.rv_bind.specs.Bound.{lines_bound, nothing_bound}
use Rattle.rv_bind.proofs.FrontLemmas.{dot-looks, lines-looks, ltl-looks}
use Rattle.rv_bind.proofs.FrontLaws.{bound-same, looks_decides}
use Rattle.rv_bind.proofs.laws.fronts_decide.Goals as goal

pub returns-clause-automata : goal.returns-clause-automata
returns-clause-automata c = looks_decides dot_of dot-looks

pub returns-clause-rules : goal.returns-clause-rules
returns-clause-rules c = looks_decides ltl_of ltl-looks

pub returns-clause-bindings : goal.returns-clause-bindings
returns-clause-bindings c files here = looks_decides (λ text. lines_bound files here nothing_bound (lines_of text)) (lines-looks files here)

pub returns-clause-files : goal.returns-clause-files
returns-clause-files c = bound-same
