use Rattle.std.proofs.Common.{◌≡◌, ℕ, true, false, Some, take}
use Rattle.std.specs.Prelude.{filter, slice_get}
use Rattle.std.specs.List.{AllZip, list_all, list_any}
use Rattle.rv_bind.specs.RuleValues.{OnValue}
use Rattle.rv_route.specs.Asking.{holds}
use Rattle.rv_route.specs.Events.{is_on_event, places_on}
use Rattle.rv_matches.specs.declared.rule_lines.RuleLine.{RuleLine}
use Rattle.rv_matches.specs.RuleLines.{IsByTests}
use Rattle.rv_matches.specs.inner.RuleSteps.{CountsEventLine}
use Rattle.rv_matches.proofs.PlaceLemmas.{is_place}
use Rattle.rv_matches.proofs.rule_lines.add_event.Given as goal

abbrev pub invariant-loop-asked : goal.invariant-loop-asked
invariant-loop-asked l = record {
  places : AllZip IsByTests l.rules l.counts;
  passed : (place : ℕ) (rule : OnValue) (old new : RuleLine) → slice_get l.rules place ≡ Some rule → slice_get l.fn.counts place ≡ Some old → slice_get l.counts place ≡ Some new
      → is_place (take l.asked-index (places_on l.event.name 0 l.rules)) place ≡ true → CountsEventLine rule l.fields old new;
  kept : (place : ℕ) (old new : RuleLine) → slice_get l.fn.counts place ≡ Some old → slice_get l.counts place ≡ Some new
      → is_place (take l.asked-index (places_on l.event.name 0 l.rules)) place ≡ false → new ≡ old;
  fires : l.fired ≡ list_any (λ (rule : OnValue). list_all (holds l.fields) rule.tests) (take l.asked-index (filter (is_on_event l.event.name) l.rules));
}
