-- Words of no command's number.
use Rattle.std.proofs.Common.{sym}
use Rattle.rv_tool.proofs.WordLemmas.{no_command}
use Rattle.rv_tool.proofs.words.read_words.Goals as goal

pub returns-then-words-ne3-clause-value : goal.returns-then-words-ne3-clause-value
returns-then-words-ne3-clause-value c = sym (no_command c.args.words.now c.if-words-eq2.false c.if-words-ne3.true c.if-words-eq4.false c.if-words-eq5.false)
