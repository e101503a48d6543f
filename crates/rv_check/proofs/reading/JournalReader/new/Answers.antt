-- No text yet.
use Rattle.std.proofs.Common.{refl, ap, false, []}
use Rattle.rv_check.specs.Readings.{pieces_joined}
use Rattle.rv_check.proofs.KeptLemmas.{open-none, reader-open}
use Rattle.rv_check.proofs.reading.JournalReader.new.Goals as goal

pub invariant_of-result : goal.invariant_of-result
invariant_of-result c =
    reader-open c.args.checker c.args.checker [] c.in_ok-tail.tail.items 1 false [] (pieces_joined c.new-pieces.result) refl c.in_ok-tail.ensures.items refl (ap pieces_joined c.new-pieces.ensures)
    (open-none c.args.checker c.requires c.begins.ensures)
