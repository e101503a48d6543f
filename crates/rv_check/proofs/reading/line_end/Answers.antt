-- What was searched for.
use Rattle.rv_check.proofs.LineEndLemmas.{end-before, end-split, end-none}
use Rattle.rv_check.proofs.reading.line_end.Goals as goal

pub returns-clause-before : goal.returns-clause-before
returns-clause-before c = end-before c.args.bytes.now c.memchr.result c.memchr.ensures

pub returns-clause-split : goal.returns-clause-split
returns-clause-split c = end-split c.args.bytes.now c.memchr.result c.memchr.ensures

pub returns-clause-none : goal.returns-clause-none
returns-clause-none c = end-none c.args.bytes.now c.memchr.result c.memchr.ensures
