-- The findings of a monitor are exactly its zeros.
use Rattle.std.proofs.Common.{ℕ, Bool, List, ◌++◌, refl}
use Rattle.std.specs.Prelude.{◌↔◌, codes, not, ◌&&◌, ◌==◌}
use Rattle.rv_bind.specs.declared.bindings.Monitor.{Monitor}
use Rattle.rv_bind.specs.Values.{BoundValue}
use Rattle.rv_facts.specs.declared.lines.BindingLines.{BindingLines}
use Rattle.rv_facts.specs.declared.counts.Counts.{Counts}
use Rattle.rv_facts.specs.declared.counts.MonitorCounts.{MonitorCounts}
use Rattle.rv_findings.specs.declared.finding.Asked.TheVariants.{Starts}
use Rattle.rv_findings.specs.declared.finding.Finding.{Finding}
use Rattle.rv_facts.specs.BindingLines.{lines_named}
use Rattle.rv_findings.specs.MonitorFindings.{monitor_findings}
use Rattle.rv_findings.specs.OwnRules.{first_of, lines_where}
use Rattle.rv_findings.specs.Watched.{rules_at}
use Rattle.rv_findings.specs.Zeros.{CannotStart, Finds, HaltsAll, HasNoReact, HasUnbound, HasUnset, HasUntaken, HasUntrue, IsOff, IsOn, NeverStarts}
use Rattle.rv_findings.proofs.KindLemmas.{Other, no_edges, no_halt, no_off, no_react, no_spec, no_start}
use Rattle.rv_findings.proofs.PartLemmas.{edges_part, halt_part, line_of, monitor_parts, name_of, off_part, react_part, spec_part, start_part}
use Rattle.rv_findings.proofs.PartZeros.{cannot_is, edges_are, events_are, halt_is, never_is, off_is, react_is, unset_are, untrue_are}
use Rattle.rv_findings.proofs.SomeLemmas.{fifth_of_six, first_of_six, fourth_of_six, last_of_six, neither, same, second_of_six, chain, third_of_six}

module _ (line : ℕ) (edges : Bool) (b : BoundValue) (lines : BindingLines) (counts : Counts) (place : ℕ) (m : Monitor) (c : MonitorCounts) where
  -- the parts
  abbrev off : List Finding
  off = off_part edges b lines counts place m c

  abbrev start : List Finding
  start = start_part edges b lines counts place m c

  abbrev react : List Finding
  react = react_part edges b lines counts place m c

  abbrev of_spec : List Finding
  of_spec = spec_part edges b lines counts place m c

  abbrev of_edges : List Finding
  of_edges = edges_part edges b lines counts place m c

  abbrev halt : List Finding
  halt = halt_part edges b lines counts place m c

  abbrev name : List ℕ
  name = name_of edges b lines counts place m c

  abbrev own_line : ℕ
  own_line = line_of edges b lines counts place m c

  -- what is found of the monitor is found in its parts
  in_parts : (kind : List ℕ) → Finds kind line (monitor_findings edges b lines counts place m c) ↔ Finds kind line (off ++ (start ++ (react ++ (of_spec ++ (of_edges ++ halt)))))
  in_parts kind = same (IsOn kind line) (monitor_findings edges b lines counts place m c) (off ++ (start ++ (react ++ (of_spec ++ (of_edges ++ halt))))) (monitor_parts edges b lines counts place m c)

  module _ (kind : List ℕ) where
    -- another part has none of the kind
    not_off : Other kind (codes "monitor-off: ") → Finds kind line off → ⊥
    not_off other = no_off kind line other name m.enabled (lines_named m.name lines.offs.items)

    not_start : Other kind (codes "monitor-cannot-start: ") → Other kind (codes "monitor-never-starts: ") → Finds kind line start → ⊥
    not_start cannot never = no_start kind line cannot never name own_line (m.enabled && not (counts.trace.events == 0)) (not (c.instances_started == 0)) (first_of (lines_where Starts (rules_at b lines place)))

    not_react : Other kind (codes "no-react: ") → Finds kind line react → ⊥
    not_react other = no_react kind line other name own_line (lines_named m.name lines.reacts.items)

    not_spec : Other kind (codes "event-not-bound: ") → Other kind (codes "atom-not-bound: ") → Other kind (codes "atom-never-true: ") → Finds kind line of_spec → ⊥
    not_spec event unset untrue = no_spec kind line name own_line m.name (rules_at b lines place) lines c event unset untrue m.spec

    not_edges : Other kind (codes "edge-never-taken: ") → Finds kind line of_edges → ⊥
    not_edges other = no_edges kind line name own_line m.name (rules_at b lines place) lines c other edges m.spec

    not_halt : Other kind (codes "run-halted: ") → Finds kind line halt → ⊥
    not_halt other = no_halt kind line other name place (lines_named m.name lines.reacts.items) counts.halt counts.undelivered

  -- it is off
  pub off_at : Finds (codes "monitor-off") line (monitor_findings edges b lines counts place m c) ↔ IsOff lines line place m c
  off_at =
      let kind = codes "monitor-off" in
      chain (in_parts kind)
      (chain (first_of_six (IsOn kind line) off start react of_spec of_edges halt (not_start kind (λ t. refl) (λ t. refl)) (not_react kind (λ t. refl)) (not_spec kind (λ t. refl) (λ t. refl) (λ t. refl)) (not_edges kind (λ t. refl)) (not_halt kind (λ t. refl)))
      (off_is line name m.enabled (lines_named m.name lines.offs.items)))

  -- its start alone
  start_alone : (kind : List ℕ) → Other kind (codes "monitor-off: ") → Other kind (codes "no-react: ") → Other kind (codes "event-not-bound: ") → Other kind (codes "atom-not-bound: ") → Other kind (codes "atom-never-true: ")
      → Other kind (codes "edge-never-taken: ") → Other kind (codes "run-halted: ") → Finds kind line (monitor_findings edges b lines counts place m c) ↔ Finds kind line start
  start_alone kind a b' d e f g h =
      chain (in_parts kind) (second_of_six (IsOn kind line) off start react of_spec of_edges halt (not_off kind a) (not_react kind b') (not_spec kind d e f) (not_edges kind g) (not_halt kind h))

  -- it cannot start
  pub cannot_at : Finds (codes "monitor-cannot-start") line (monitor_findings edges b lines counts place m c) ↔ CannotStart b lines line place m c
  cannot_at =
      chain (start_alone (codes "monitor-cannot-start") (λ t. refl) (λ t. refl) (λ t. refl) (λ t. refl) (λ t. refl) (λ t. refl) (λ t. refl))
      (cannot_is line name own_line (m.enabled && not (counts.trace.events == 0)) (not (c.instances_started == 0)) (lines_where Starts (rules_at b lines place)))

  -- it never starts
  pub never_at : Finds (codes "monitor-never-starts") line (monitor_findings edges b lines counts place m c) ↔ NeverStarts b lines counts line place m c
  never_at =
      chain (start_alone (codes "monitor-never-starts") (λ t. refl) (λ t. refl) (λ t. refl) (λ t. refl) (λ t. refl) (λ t. refl) (λ t. refl))
      (never_is line name own_line m.enabled counts.trace.events c.instances_started (lines_where Starts (rules_at b lines place)))

  -- nobody is told of its failures
  pub react_at : Finds (codes "no-react") line (monitor_findings edges b lines counts place m c) ↔ HasNoReact lines line place m c
  react_at =
      let kind = codes "no-react" in
      chain (in_parts kind)
      (chain (third_of_six (IsOn kind line) off start react of_spec of_edges halt (not_off kind (λ t. refl)) (not_start kind (λ t. refl) (λ t. refl)) (not_spec kind (λ t. refl) (λ t. refl) (λ t. refl)) (not_edges kind (λ t. refl)) (not_halt kind (λ t. refl)))
      (react_is line name own_line (lines_named m.name lines.reacts.items)))

  -- its specification alone
  spec_alone : (kind : List ℕ) → Other kind (codes "monitor-off: ") → Other kind (codes "monitor-cannot-start: ") → Other kind (codes "monitor-never-starts: ") → Other kind (codes "no-react: ")
      → Other kind (codes "edge-never-taken: ") → Other kind (codes "run-halted: ") → Finds kind line (monitor_findings edges b lines counts place m c) ↔ Finds kind line of_spec
  spec_alone kind a d e f g h =
      chain (in_parts kind) (fourth_of_six (IsOn kind line) off start react of_spec of_edges halt (not_off kind a) (not_start kind d e) (not_react kind f) (not_edges kind g) (not_halt kind h))

  -- an event has no line
  pub unbound_at : Finds (codes "event-not-bound") line (monitor_findings edges b lines counts place m c) ↔ HasUnbound b lines line place m c
  unbound_at =
      chain (spec_alone (codes "event-not-bound") (λ t. refl) (λ t. refl) (λ t. refl) (λ t. refl) (λ t. refl) (λ t. refl))
      (events_are line name own_line m.name (rules_at b lines place) lines c m.spec)

  -- an atom has none
  pub unset_at : Finds (codes "atom-not-bound") line (monitor_findings edges b lines counts place m c) ↔ HasUnset b lines line place m c
  unset_at =
      chain (spec_alone (codes "atom-not-bound") (λ t. refl) (λ t. refl) (λ t. refl) (λ t. refl) (λ t. refl) (λ t. refl))
      (unset_are line name own_line m.name (rules_at b lines place) lines c m.spec)

  -- an atom is never true
  pub untrue_at : Finds (codes "atom-never-true") line (monitor_findings edges b lines counts place m c) ↔ HasUntrue b lines line place m c
  untrue_at =
      chain (spec_alone (codes "atom-never-true") (λ t. refl) (λ t. refl) (λ t. refl) (λ t. refl) (λ t. refl) (λ t. refl))
      (untrue_are line name own_line m.name (rules_at b lines place) lines c m.spec)

  -- an edge is not taken
  pub untaken_at : Finds (codes "edge-never-taken") line (monitor_findings edges b lines counts place m c) ↔ HasUntaken edges b lines line place m c
  untaken_at =
      let kind = codes "edge-never-taken" in
      chain (in_parts kind)
      (chain (fifth_of_six (IsOn kind line) off start react of_spec of_edges halt (not_off kind (λ t. refl)) (not_start kind (λ t. refl) (λ t. refl)) (not_react kind (λ t. refl)) (not_spec kind (λ t. refl) (λ t. refl) (λ t. refl)) (not_halt kind (λ t. refl)))
      (edges_are line name own_line m.name (rules_at b lines place) lines c edges m.spec))

  -- it halts the run
  pub halt_at : Finds (codes "run-halted") line (monitor_findings edges b lines counts place m c) ↔ HaltsAll lines counts line place m c
  halt_at =
      let kind = codes "run-halted" in
      chain (in_parts kind)
      (chain (last_of_six (IsOn kind line) off start react of_spec of_edges halt (not_off kind (λ t. refl)) (not_start kind (λ t. refl) (λ t. refl)) (not_react kind (λ t. refl)) (not_spec kind (λ t. refl) (λ t. refl) (λ t. refl)) (not_edges kind (λ t. refl)))
      (halt_is line name place (lines_named m.name lines.reacts.items) counts.halt counts.undelivered))

  -- of another kind than all of a monitor
  pub of_no_monitor : (kind : List ℕ) → Other kind (codes "monitor-off: ") → Other kind (codes "monitor-cannot-start: ") → Other kind (codes "monitor-never-starts: ") → Other kind (codes "no-react: ")
      → Other kind (codes "event-not-bound: ") → Other kind (codes "atom-not-bound: ") → Other kind (codes "atom-never-true: ") → Other kind (codes "edge-never-taken: ") → Other kind (codes "run-halted: ")
      → Finds kind line (monitor_findings edges b lines counts place m c) → ⊥
  of_no_monitor kind a d e f g h i j k found =
      neither (IsOn kind line) off (start ++ (react ++ (of_spec ++ (of_edges ++ halt)))) (not_off kind a)
      (neither (IsOn kind line) start (react ++ (of_spec ++ (of_edges ++ halt))) (not_start kind d e)
      (neither (IsOn kind line) react (of_spec ++ (of_edges ++ halt)) (not_react kind f) (neither (IsOn kind line) of_spec (of_edges ++ halt) (not_spec kind g h i) (neither (IsOn kind line) of_edges halt (not_edges kind j) (not_halt kind k)))))
      ((in_parts kind).0 found)
