-- The findings of the bindings are exactly their zeros.
use Rattle.std.proofs.Common.{◌≡◌, ℕ, ◌<◌, Bool, List, [], ◌++◌, refl}
use Rattle.std.specs.Prelude.{◌↔◌, codes, not, ◌&&◌, ◌==◌, slice_index}
use Rattle.rv_bind.specs.declared.bindings.Monitor.{Monitor}
use Rattle.rv_bind.specs.Values.{BoundValue}
use Rattle.rv_facts.specs.declared.lines.BindingLines.{BindingLines}
use Rattle.rv_facts.specs.declared.counts.Counts.{Counts}
use Rattle.rv_facts.specs.declared.counts.MonitorCounts.{MonitorCounts}
use Rattle.rv_findings.specs.Findings.{bindings_findings, rule_finding}
use Rattle.rv_findings.specs.MonitorFindings.{monitor_findings}
use Rattle.rv_findings.specs.OwnRules.{is_nothing}
use Rattle.rv_findings.specs.Zeros.{CannotStart, Finds, FindsInBindings, HaltsAll, HasNoReact, HasUnbound, HasUnset, HasUntaken, HasUntrue, IsOff, IsOn, NeverFires, NeverStarts, SomeMonitor, SomePair}
use Rattle.rv_findings.proofs.KindLemmas.{Other, found_so, no_found, no_rule}
use Rattle.rv_findings.proofs.NothingLemmas.{none_is, none_there}
use Rattle.rv_findings.proofs.PartLemmas.{bindings_parts, monitors_part, none_part, rules_part}
use Rattle.rv_findings.proofs.SomeLemmas.{left, neither, no_pair, pair_like, right, same, some_pair, chain}
use Rattle.rv_bind.specs.RuleValues.{OnValue}
use Rattle.rv_facts.specs.declared.counts.RuleCounts.{RuleCounts}
use Rattle.rv_findings.proofs.TestLemmas.{both, from_passes, is_zero, passes, together, zero_is}
use Rattle.rv_findings.proofs.MonitorZeros.{cannot_at, halt_at, never_at, of_no_monitor, off_at, react_at, unbound_at, unset_at, untaken_at, untrue_at}

module _ (line : ℕ) (edges : Bool) (b : BoundValue) (lines : BindingLines) (counts : Counts) where
  -- what is found of the bindings is found in their parts
  in_bindings : (kind : List ℕ) → Finds kind line (bindings_findings edges b lines counts) ↔ Finds kind line (none_part edges b lines counts ++ (monitors_part edges b lines counts ++ rules_part edges b lines counts))
  in_bindings kind =
      same (IsOn kind line) (bindings_findings edges b lines counts) (none_part edges b lines counts ++ (monitors_part edges b lines counts ++ rules_part edges b lines counts)) (bindings_parts edges b lines counts)

  -- that there are no monitors
  not_none : (kind : List ℕ) → Other kind (codes "no-monitors: ") → Finds kind line (none_part edges b lines counts) → ⊥
  not_none kind other = no_found kind line (is_nothing b.monitors) 1 _ (other (codes "no line of the bindings is a monitor"))

  -- a rule
  not_rules : (kind : List ℕ) → Other kind (codes "rule-never-fires: ") → Finds kind line (rules_part edges b lines counts) → ⊥
  not_rules kind other = no_pair (IsOn kind line) (rule_finding counts.trace.events lines.rules.items) (no_rule kind line other counts.trace.events lines.rules.items) 0 b.rules counts.rules.items

  -- a monitor
  by_monitor : (kind : List ℕ) (P : ℕ → Monitor → MonitorCounts → Type 0) → Other kind (codes "no-monitors: ") → Other kind (codes "rule-never-fires: ")
      → ((place : ℕ) (m : Monitor) (c : MonitorCounts) → Finds kind line (monitor_findings edges b lines counts place m c) ↔ P place m c)
      → Finds kind line (bindings_findings edges b lines counts) ↔ SomeMonitor b counts P
  by_monitor kind P other other' each =
      chain (in_bindings kind)
      (chain (right (IsOn kind line) (none_part edges b lines counts) (monitors_part edges b lines counts ++ rules_part edges b lines counts) (not_none kind other))
      (chain (left (IsOn kind line) (monitors_part edges b lines counts) (rules_part edges b lines counts) (not_rules kind other'))
      (chain (some_pair (IsOn kind line) (monitor_findings edges b lines counts) b.monitors counts.monitors.items)
      (pair_like (λ place m c. Finds kind line (monitor_findings edges b lines counts place m c)) P b.monitors counts.monitors.items each))))

  -- all monitors have none of another kind
  not_monitors : (kind : List ℕ) → Other kind (codes "monitor-off: ") → Other kind (codes "monitor-cannot-start: ") → Other kind (codes "monitor-never-starts: ") → Other kind (codes "no-react: ")
      → Other kind (codes "event-not-bound: ") → Other kind (codes "atom-not-bound: ") → Other kind (codes "atom-never-true: ") → Other kind (codes "edge-never-taken: ") → Other kind (codes "run-halted: ")
      → Finds kind line (monitors_part edges b lines counts) → ⊥
  not_monitors kind a d e f g h i j k =
      no_pair (IsOn kind line) (monitor_findings edges b lines counts) (λ place m c. of_no_monitor line edges b lines counts place m c kind a d e f g h i j k) 0 b.monitors counts.monitors.items

  -- there are no monitors
  none_at : Finds (codes "no-monitors") line (bindings_findings edges b lines counts) ↔ ((b.monitors ≡ []) × (1 ≡ line))
  none_at =
      let kind = codes "no-monitors" in
      let here = found_so kind line (is_nothing b.monitors) 1 (codes "no-monitors: no line of the bindings is a monitor") refl in
      chain (in_bindings kind)
      (chain (left (IsOn kind line) (none_part edges b lines counts) (monitors_part edges b lines counts ++ rules_part edges b lines counts)
      (neither (IsOn kind line) (monitors_part edges b lines counts) (rules_part edges b lines counts)
      (not_monitors kind (λ t. refl) (λ t. refl) (λ t. refl) (λ t. refl) (λ t. refl) (λ t. refl) (λ t. refl) (λ t. refl) (λ t. refl)) (not_rules kind (λ t. refl))))
      (chain here (λ p. (none_there b.monitors p.0, p.1), λ p. (none_is b.monitors p.0, p.1))))

  -- a rule that never fires
  pub rule_is : (events : ℕ) (ls : List ℕ) (place : ℕ) (rule : OnValue) (c : RuleCounts) → Finds (codes "rule-never-fires") line (rule_finding events ls place rule c) ↔ ((slice_index ls place ≡ line) × (0 < events) × (c.fires ≡ 0))
  rule_is events ls place rule c =
      let this = found_so (codes "rule-never-fires") line (not (events == 0) && c.fires == 0) (slice_index ls place) _ refl in (
        λ a.
            let p = this.0 a in
            let tests = both (not (events == 0)) (c.fires == 0) p.0 in
            (p.1, from_passes events tests.0, is_zero c.fires tests.1),
        λ p. this.1 (together (not (events == 0)) (c.fires == 0) (passes events p.1) (zero_is c.fires p.2), p.0),
      )

  -- a rule never fires
  rule_at : Finds (codes "rule-never-fires") line (bindings_findings edges b lines counts) ↔ SomePair (NeverFires lines counts line) b.rules counts.rules.items
  rule_at =
      let kind = codes "rule-never-fires" in
      chain (in_bindings kind)
      (chain (right (IsOn kind line) (none_part edges b lines counts) (monitors_part edges b lines counts ++ rules_part edges b lines counts) (not_none kind (λ t. refl)))
      (chain (right (IsOn kind line) (monitors_part edges b lines counts) (rules_part edges b lines counts)
      (not_monitors kind (λ t. refl) (λ t. refl) (λ t. refl) (λ t. refl) (λ t. refl) (λ t. refl) (λ t. refl) (λ t. refl) (λ t. refl)))
      (chain (some_pair (IsOn kind line) (rule_finding counts.trace.events lines.rules.items) b.rules counts.rules.items)
      (pair_like (λ place rule c. Finds kind line (rule_finding counts.trace.events lines.rules.items place rule c)) (NeverFires lines counts line) b.rules counts.rules.items
      (rule_is counts.trace.events lines.rules.items)))))

-- of each kind a finding stands where its number is zero
pub bindings_zeros : (edges : Bool) (b : BoundValue) (lines : BindingLines) (counts : Counts) (line : ℕ) → FindsInBindings edges b lines counts line
bindings_zeros edges b lines counts line = record {
  no_monitors = none_at line edges b lines counts;
  off = by_monitor line edges b lines counts (codes "monitor-off") (IsOff lines line) (λ t. refl) (λ t. refl) (off_at line edges b lines counts);
  cannot_start = by_monitor line edges b lines counts (codes "monitor-cannot-start") (CannotStart b lines line) (λ t. refl) (λ t. refl) (cannot_at line edges b lines counts);
  never_starts = by_monitor line edges b lines counts (codes "monitor-never-starts") (NeverStarts b lines counts line) (λ t. refl) (λ t. refl) (never_at line edges b lines counts);
  no_react = by_monitor line edges b lines counts (codes "no-react") (HasNoReact lines line) (λ t. refl) (λ t. refl) (react_at line edges b lines counts);
  not_bound = by_monitor line edges b lines counts (codes "event-not-bound") (HasUnbound b lines line) (λ t. refl) (λ t. refl) (unbound_at line edges b lines counts);
  not_set = by_monitor line edges b lines counts (codes "atom-not-bound") (HasUnset b lines line) (λ t. refl) (λ t. refl) (unset_at line edges b lines counts);
  never_true = by_monitor line edges b lines counts (codes "atom-never-true") (HasUntrue b lines line) (λ t. refl) (λ t. refl) (untrue_at line edges b lines counts);
  never_taken = by_monitor line edges b lines counts (codes "edge-never-taken") (HasUntaken edges b lines line) (λ t. refl) (λ t. refl) (untaken_at line edges b lines counts);
  halted = by_monitor line edges b lines counts (codes "run-halted") (HaltsAll lines counts line) (λ t. refl) (λ t. refl) (halt_at line edges b lines counts);
  never_fires = rule_at line edges b lines counts;
}
