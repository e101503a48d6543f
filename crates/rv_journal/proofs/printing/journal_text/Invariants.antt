-- The lines so far.
use Rattle.std.proofs.Common.{◌≡◌, take}
use Rattle.rv_journal.specs.EntryTexts.{journal_of}
use Rattle.rv_journal.proofs.printing.journal_text.Given as goal

abbrev pub invariant-loop-entry : goal.invariant-loop-entry
invariant-loop-entry l = l.out ≡ journal_of (take l.entry-index l.entries)
