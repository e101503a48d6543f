use Rattle.std.proofs.Common.{◌≡◌, ◌≤◌, take}
use Rattle.rv_dot.specs.Labels.{kept_len}
use Rattle.rv_dot.proofs.label.kept_len.Given as goal

abbrev pub invariant-loop-place : goal.invariant-loop-place
invariant-loop-place l = record { value : l.kept ≡ kept_len (take l.place l.bytes); within : l.kept ≤ l.place }
