use Rattle.std.proofs.Common.{◌≡◌, ◌≤◌, ◌*◌, sum, map, take, length}
use Rattle.rv_slots.specs.Shapes.{AreBases, count_of}
use Rattle.rv_slots.proofs.shape.Shape.new.Given as goal

abbrev pub invariant-loop-scope : goal.invariant-loop-scope
invariant-loop-scope l = record {
  made : l.counts.items ≡ map (count_of l.tasks) (take l.scope-index l.scopes);
  many : length l.counts.items ≡ l.scope-index;
  few : sum l.counts.items ≤ 65536 * l.scope-index;
  slots : l.slots ≡ sum l.counts.items;
  bases : AreBases l.counts.items l.bases.items;
}
