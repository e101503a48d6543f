use Rattle.std.proofs.Common.{◌≡◌, ℕ, true, false, List, Some, take}
use Rattle.std.specs.Prelude.{slice_get}
use Rattle.std.specs.List.{AllZip}
use Rattle.rv_bind.specs.RuleValues.{OnValue}
use Rattle.rv_route.specs.Events.{places_on}
use Rattle.rv_matches.specs.declared.rule_lines.RuleLine.{RuleLine}
use Rattle.rv_matches.specs.RuleLines.{IsByTests}
use Rattle.rv_matches.specs.inner.RuleSteps.{CountsEventLine}
use Rattle.rv_matches.proofs.PlaceLemmas.{is_place}
use Rattle.rv_matches.proofs.plain_events.add_plain.Given as goal

abbrev pub invariant-loop-place : goal.invariant-loop-place
invariant-loop-place l = record {
  places : AllZip IsByTests l.rules l.counts;
  passed : (place : ℕ) (rule : OnValue) (old new : RuleLine) → slice_get l.rules place ≡ Some rule → slice_get l.fn.counts place ≡ Some old → slice_get l.counts place ≡ Some new
      → is_place (take l.place-index (places_on l.event.name 0 l.rules)) place ≡ true → (fields : List ℕ) → CountsEventLine rule fields old new;
  kept : (place : ℕ) (old new : RuleLine) → slice_get l.fn.counts place ≡ Some old → slice_get l.counts place ≡ Some new
      → is_place (take l.place-index (places_on l.event.name 0 l.rules)) place ≡ false → new ≡ old;
}
