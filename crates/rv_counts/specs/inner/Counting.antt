-- From what a run has kept to the numbers that are told.
use Rattle.std.specs.Prelude.{◌≡◌, ℕ, List, count_by}
use Rattle.rv_matches.specs.RuleLines as matches
use Rattle.rv_matches.specs.Words as words
use Rattle.rv_matches.specs.declared.rule_lines.RuleLine.{RuleLine}
use Rattle.rv_facts.specs.declared.counts.MonitorCounts.{MonitorCounts}
use Rattle.rv_facts.specs.declared.counts.RuleCounts.{RuleCounts}
use Rattle.rv_reach.specs.declared.monitor.MonitorReach.{MonitorReach}
use Rattle.rv_report.specs.declared.summary.Summary.{Summary}
use Rattle.rv_counts.specs.RuleTold.{TellsRule}

-- what was kept of a rule is told
abbrev pub CountsRule : List words.Counted → List ℕ → RuleLine → RuleCounts → Type 0
CountsRule names event line c = (counts : matches.RuleCounts) → matches.IsRuleLine counts line → TellsRule names event counts c

-- what the report counts of a monitor and what its deliveries have reached is told
pub record CountsMonitor (summary : Summary) (reach : MonitorReach) (c : MonitorCounts) : Type 0 where
  pub instances : c.instances ≡ summary.instances
  pub deliveries : c.deliveries ≡ summary.deliveries
  pub failures : c.failures ≡ summary.failures
  pub stopped : c.stopped ≡ summary.stopped
  pub instances_started : c.instances_started ≡ count_by (λ i. i.started) reach.instances.items
  pub instances_failed : c.instances_failed ≡ count_by (λ i. i.failed) reach.instances.items
  pub instances_running : c.instances_running ≡ count_by (λ i. i.running) reach.instances.items
  pub passed : c.passed ≡ reach.passed
  pub started : c.started ≡ reach.started
  pub kept : c.kept ≡ reach.kept
  pub failed : c.failed ≡ reach.failed
  pub ended : c.ended ≡ reach.ended
  pub rows : c.rows ≡ reach.rows
  pub edges : c.edges ≡ reach.edges
  pub letters : c.letters ≡ reach.letters
  pub atoms : c.atoms ≡ reach.atoms
