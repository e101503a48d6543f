-- The pieces so far and those that are to come are the whole.
use Rattle.std.proofs.Common.{◌≡◌, ◌++◌, drop, flat_map}
use Rattle.rv_facts.specs.Shown.{shown_byte}
use Rattle.rv_facts.proofs.pieces.put_shown.Given as goal

abbrev pub invariant-bytes : goal.invariant-bytes
invariant-bytes l = l.out ++ flat_map shown_byte (drop l.byte-index l.word) ≡ l.initial.out ++ flat_map shown_byte l.word
