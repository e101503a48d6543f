-- What was fed so far is the front of the file.
use Rattle.std.proofs.Common.{◌≡◌, length}
use Rattle.rv_stream.specs.inner.Feeding.{IsFileFed}
use Rattle.rv_tool.specs.inner.JournalPieces.{IsSameRun}
use Rattle.rv_tool.proofs.check.take_pieces.Given as goal

abbrev pub invariant-loop-piece : goal.invariant-loop-piece
invariant-loop-piece g l =
    (g.S.Store.files l.store ≡ g.S.Store.files l.fn.store)
    × (g.S.Store.faults l.store ≡ g.S.Store.faults l.fn.store)
    × (length l.buffer ≡ length l.fn.buffer)
    × IsSameRun l.fn.reader.journal l.reader.journal
    × IsFileFed (g.S.Store.files l.fn.store) l.journal l.place l.reader.journal.text
