use Rattle.std.proofs.Common.{ap, ◌∙◌}
use Rattle.rv_journal.specs.inner.EntryReadings.{entry_from}
use Rattle.rv_journal.proofs.ReadingLemmas.{line-is, line-fits, line-reads}
use Rattle.rv_journal.proofs.reading.read_entry.Goals as goal

pub returns-clause-some : goal.returns-clause-some
returns-clause-some c = line-is c.args.line.now c.entry.result (c.entry.ensures ∙ ap entry_from c.new-words.ensures)

pub returns-clause-fits : goal.returns-clause-fits
returns-clause-fits c = line-fits c.args.line.now c.entry.result (c.entry.ensures ∙ ap entry_from c.new-words.ensures)

pub returns-clause-every : goal.returns-clause-every
returns-clause-every c = λ e fits same. c.entry.ensures ∙ ap entry_from c.new-words.ensures ∙ line-reads c.args.line.now e fits same
