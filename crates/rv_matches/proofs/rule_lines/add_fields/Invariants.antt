use Rattle.std.proofs.Common.{◌≡◌, ℕ, List, [], ◌∷◌, ◌++◌, length, map}
use Rattle.std.specs.Prelude.{All}
use Rattle.rv_matches.specs.LineEvents.{LineEvent}
use Rattle.rv_matches.specs.RuleLines.{HasTest, field_counts, field_told}
use Rattle.rv_matches.proofs.MixedLemmas.{mixed}
use Rattle.rv_matches.proofs.rule_lines.add_fields.Given as goal

abbrev pub invariant-loop-place : goal.invariant-loop-place
invariant-loop-place l = record {
  many : length l.list.items ≡ length l.fn.list.items;
  tests : All (HasTest l.rule.tests) l.list.items;
  counts : (lines : List LineEvent) (line : LineEvent) (names : List (List ℕ)) → line.fields ≡ l.fields → map field_told l.fn.list.items ≡ map (field_counts lines) names
      → map field_told l.list.items ≡ mixed (field_counts lines) (field_counts (lines ++ line ∷ [])) names l.place;
}
