-- The entries so far are in the list, and all is known of them.
use Rattle.std.proofs.Common.{◌≡◌}
use Rattle.std.specs.Prelude.{All, take}
use Rattle.rv_journal.specs.EntryTexts.{IsEntry}
use Rattle.rv_journal.proofs.entries.closed_of.Given as goal

abbrev pub invariant-loop-entry : goal.invariant-loop-entry
invariant-loop-entry l = record {
  list : l.closed ≡ take l.entry-index l.entries;
  known : All IsEntry (take l.entry-index l.entries);
}
