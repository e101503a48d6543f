use Rattle.std.proofs.Common.{◌≡◌, ◌<◌, ◌≤◌, ℕ, true, get_or}
use Rattle.rv_text.specs.Places.{has_class}
use Rattle.rv_matches.proofs.event_facts.run_start.Given as goal

abbrev pub invariant-loop-from : goal.invariant-loop-from
invariant-loop-from l = record {
  high : l.from ≤ l.to;
  each : (place : ℕ) → l.from ≤ place → place < l.to → has_class l.kind (get_or l.text place 0) ≡ true;
}

abbrev pub decreases-loop-from : goal.decreases-loop-from
decreases-loop-from l = l.from
