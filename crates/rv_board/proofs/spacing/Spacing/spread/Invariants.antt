use Rattle.std.proofs.Common.{◌≡◌, ◌<◌, length, ℕ, slice_index}
use Rattle.rv_board.specs.Places.{place_of, room_of}
use Rattle.rv_board.proofs.spacing.Spacing.spread.Given as goal

-- the words so far stand at their places
abbrev pub invariant-loop-index : goal.invariant-loop-index
invariant-loop-index l = record {
  room : length l.placed.items ≡ room_of l.fn.self;
  each : (i : ℕ) → i < l.index → slice_index l.placed.items (place_of l.fn.self i) ≡ slice_index l.words.items i;
}
