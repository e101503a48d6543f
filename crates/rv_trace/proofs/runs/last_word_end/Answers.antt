use Rattle.std.proofs.Common.{sym, arith}
use Rattle.rv_trace.proofs.RunLemmas.{rest-none, rest-inside, rest-first}
use Rattle.rv_trace.proofs.runs.last_word_end.Goals as goal

pub returns-then-bits-eq0-clause-value : goal.returns-then-bits-eq0-clause-value
returns-then-bits-eq0-clause-value c = sym (rest-none c.args.text.now c.args.place c.blank_bits.result c.requires.low c.requires.high (omega arith) c.blank_bits.ensures c.if-bits-eq0.true)

pub returns-else-bits-eq0-clause-value : goal.returns-else-bits-eq0-clause-value
returns-else-bits-eq0-clause-value c =
    sym (rest-first c.args.text.now c.args.place c.blank_bits.result c.requires.low c.requires.high (omega arith) c.blank_bits.ensures c.lowest.result c.lowest.ensures.set c.lowest.ensures.below)

pub returns-else-bits-eq0-clause-high : goal.returns-else-bits-eq0-clause-high
returns-else-bits-eq0-clause-high c =
    let inside = rest-inside c.args.text.now c.args.place c.blank_bits.result c.requires.low c.requires.high (omega arith) c.blank_bits.ensures c.lowest.result c.lowest.ensures.set in omega (arith, inside)
