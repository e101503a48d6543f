-- No finding means that all is watched.
use Rattle.std.proofs.Common.{◌≡◌, ℕ, ◌+◌, ◌<◌, Bool, true, false, List, [], ◌∷◌, ◌++◌, inl, inr, length, get_or, refl, sym, ap, ◌∙◌, arith}
use Rattle.std.specs.Prelude.{◌↔◌, ◌==◌, not, ◌&&◌, if◌then◌else◌}
use Rattle.rv_bind.specs.declared.bindings.Monitor.{Monitor}
use Rattle.rv_bind.specs.BoundViews.{bound_value}
use Rattle.rv_bind.specs.Values.{BoundValue}
use Rattle.rv_facts.specs.declared.lines.BindingLines.{BindingLines}
use Rattle.rv_facts.specs.declared.counts.Counts.{Counts}
use Rattle.rv_facts.specs.declared.counts.MonitorCounts.{MonitorCounts}
use Rattle.rv_findings.specs.declared.coverage.Told.{Told}
use Rattle.rv_findings.specs.declared.finding.Asked.TheVariants.{Starts}
use Rattle.rv_findings.specs.declared.finding.Finding.{Finding}
use Rattle.rv_facts.specs.BindingLines.{lines_named}
use Rattle.rv_findings.specs.Findings.{bindings_findings, empty_finding, late_finding, overwritten_finding, return_finding, rule_finding, trace_findings}
use Rattle.rv_findings.specs.MonitorFindings.{monitor_findings}
use Rattle.rv_findings.specs.OwnRules.{is_nothing, lines_where}
use Rattle.rv_findings.specs.Watched.{IsAllWatched, IsWatched, rules_at}
use Rattle.rv_findings.specs.Whole.{coverage_status}
use Rattle.rv_findings.proofs.PartLemmas.{bindings_parts, edges_part, halt_part, line_of, monitor_parts, monitors_part, name_of, none_part, off_part, react_part, rules_part, spec_part, start_part, trace_parts}
use Rattle.rv_findings.proofs.NothingLemmas.{neither, no_first, no_second, of_no_pair, some_item, some_there, there_are}
use Rattle.rv_findings.proofs.QuietLemmas.{edges_nothing, empty_nothing, halt_nothing, late_nothing, no_edges, no_finding, no_spec, not_found, off_nothing, overwritten_nothing, react_nothing, return_nothing, rule_nothing, spec_nothing, start_nothing}
use Rattle.rv_findings.proofs.TestLemmas.{either_is, from_passes, is_zero, passes, zero_is}

-- ---- a monitor

module _ (edges : Bool) (b : BoundValue) (lines : BindingLines) (counts : Counts) (place : ℕ) (m : Monitor) (c : MonitorCounts) where
  -- a monitor of which nothing is found is watched
  monitor_nothing : 0 < counts.trace.events → monitor_findings edges b lines counts place m c ≡ [] → IsWatched edges b lines counts place m c
  monitor_nothing some nothing =
      let own = rules_at b lines place in
      let name = name_of edges b lines counts place m c in
      let line = line_of edges b lines counts place m c in
      let off = off_part edges b lines counts place m c in
      let start = start_part edges b lines counts place m c in
      let react = react_part edges b lines counts place m c in
      let of_spec = spec_part edges b lines counts place m c in
      let of_edges = edges_part edges b lines counts place m c in
      let halt = halt_part edges b lines counts place m c in
      let e = sym (monitor_parts edges b lines counts place m c) ∙ nothing in
      let behind_off = no_second off (start ++ (react ++ (of_spec ++ (of_edges ++ halt)))) e in
      let behind_start = no_second start (react ++ (of_spec ++ (of_edges ++ halt))) behind_off in
      let behind_react = no_second react (of_spec ++ (of_edges ++ halt)) behind_start in
      let behind_spec = no_second of_spec (of_edges ++ halt) behind_react in
      let on = (off_nothing name m.enabled (lines_named m.name lines.offs.items)).0 (no_first off (start ++ (react ++ (of_spec ++ (of_edges ++ halt)))) e) in
      let starts = (start_nothing name line (m.enabled && not (counts.trace.events == 0)) (not (c.instances_started == 0)) (lines_where Starts own)).0 (no_first start (react ++ (of_spec ++ (of_edges ++ halt))) behind_off) in
      let may : (m.enabled && not (counts.trace.events == 0)) ≡ true = rw on (passes counts.trace.events some) in
      let started = from_passes c.instances_started (starts.1 may) in
      let specified = spec_nothing name line m.name own lines c m.spec (no_first of_spec (of_edges ++ halt) behind_react) in
      record {
        on = on;
        starts = starts.0;
        started = started;
        reacts = (react_nothing name line (lines_named m.name lines.reacts.items)).0 (no_first react (of_spec ++ (of_edges ++ halt)) behind_start);
        bound = specified.0;
        set = λ atom lt. (specified.1 atom lt).0;
        trues = λ atom lt. (specified.1 atom lt).1;
        taken = edges_nothing name line m.name own lines c edges m.spec started (no_first of_edges halt behind_spec);
        delivered = (halt_nothing name place (lines_named m.name lines.reacts.items) counts.halt counts.undelivered).0 (no_second of_edges halt behind_spec);
      }

  -- and back
  no_monitor : IsWatched edges b lines counts place m c → monitor_findings edges b lines counts place m c ≡ []
  no_monitor w =
      let own = rules_at b lines place in
      let name = name_of edges b lines counts place m c in
      let line = line_of edges b lines counts place m c in
      let off = off_part edges b lines counts place m c in
      let start = start_part edges b lines counts place m c in
      let react = react_part edges b lines counts place m c in
      let of_spec = spec_part edges b lines counts place m c in
      let of_edges = edges_part edges b lines counts place m c in
      let halt = halt_part edges b lines counts place m c in
      let no_off : off ≡ [] = (off_nothing name m.enabled (lines_named m.name lines.offs.items)).1 w.on in
      let no_start : start ≡ [] = (start_nothing name line (m.enabled && not (counts.trace.events == 0)) (not (c.instances_started == 0)) (lines_where Starts own)).1 (w.starts, λ may. passes c.instances_started w.started) in
      let no_react : react ≡ [] = (react_nothing name line (lines_named m.name lines.reacts.items)).1 w.reacts in
      let nothing_specified : of_spec ≡ [] = no_spec name line m.name own lines c m.spec w.bound (λ atom lt. (w.set atom lt, w.trues atom lt)) in
      let none_asked : of_edges ≡ [] = no_edges name line m.name own lines c edges m.spec w.taken in
      let no_halt : halt ≡ [] = (halt_nothing name place (lines_named m.name lines.reacts.items) counts.halt counts.undelivered).1 w.delivered in
      monitor_parts edges b lines counts place m c
      ∙ neither off (start ++ (react ++ (of_spec ++ (of_edges ++ halt)))) no_off
      (neither start (react ++ (of_spec ++ (of_edges ++ halt))) no_start
      (neither react (of_spec ++ (of_edges ++ halt)) no_react (neither of_spec (of_edges ++ halt) nothing_specified (neither of_edges halt none_asked no_halt))))

-- ---- all

-- where there is no finding all is watched
all_nothing : (edges : Bool) (b : BoundValue) (lines : BindingLines) (counts : Counts) → bindings_findings edges b lines counts ++ trace_findings counts.trace ≡ [] → IsAllWatched edges b lines counts
all_nothing edges b lines counts nothing =
    let none = none_part edges b lines counts in
    let monitors = monitors_part edges b lines counts in
    let rules = rules_part edges b lines counts in
    let empty = empty_finding counts.trace.events in
    let front = overwritten_finding counts.trace.overwritten in
    let returns = return_finding counts.trace.returns in
    let late = late_finding counts.trace.late in
    let bindings : none ++ (monitors ++ rules) ≡ [] = sym (bindings_parts edges b lines counts) ∙ no_first (bindings_findings edges b lines counts) (trace_findings counts.trace) nothing in
    let trace : empty ++ (front ++ (returns ++ late)) ≡ [] = sym (trace_parts counts.trace) ∙ no_second (bindings_findings edges b lines counts) (trace_findings counts.trace) nothing in
    let behind_empty = no_second empty (front ++ (returns ++ late)) trace in
    let behind_front = no_second front (returns ++ late) behind_empty in
    let some = (empty_nothing counts.trace.events).0 (no_first empty (front ++ (returns ++ late)) trace) in
    let behind_none = no_second none (monitors ++ rules) bindings in
    let no_monitors = (of_no_pair (monitor_findings edges b lines counts) b.monitors counts.monitors.items).0 (no_first monitors rules behind_none) in
    let no_rules = (of_no_pair (rule_finding counts.trace.events lines.rules.items) b.rules counts.rules.items).0 (no_second monitors rules behind_none) in
    record {
      some = some_there b.monitors (not_found (is_nothing b.monitors) 1 _ (no_first none (monitors ++ rules) bindings));
      monitors = λ k m c lt lt'. monitor_nothing edges b lines counts k (get_or b.monitors k m) (get_or counts.monitors.items k c) some (no_monitors k m c lt lt');
      rules = λ k rule c lt lt'. (rule_nothing counts.trace.events lines.rules.items k (get_or b.rules k rule) (get_or counts.rules.items k c) some).0 (no_rules k rule c lt lt');
      events = some;
      front = (overwritten_nothing counts.trace.overwritten).0 (no_first front (returns ++ late) behind_empty);
      line_ends = (return_nothing counts.trace.returns).0 (no_first returns late behind_front);
      in_order = (late_nothing counts.trace.late).0 (no_second returns late behind_front);
    }

-- and back
no_findings : (edges : Bool) (b : BoundValue) (lines : BindingLines) (counts : Counts) → IsAllWatched edges b lines counts → bindings_findings edges b lines counts ++ trace_findings counts.trace ≡ []
no_findings edges b lines counts w =
    let monitors = monitors_part edges b lines counts in
    let rules = rules_part edges b lines counts in
    let no_monitors : monitors ≡ [] =
    (of_no_pair (monitor_findings edges b lines counts) b.monitors counts.monitors.items).1 (λ k m c lt lt'. no_monitor edges b lines counts k (get_or b.monitors k m) (get_or counts.monitors.items k c) (w.monitors k m c lt lt')) in
    let no_rules : rules ≡ [] =
    (of_no_pair (rule_finding counts.trace.events lines.rules.items) b.rules counts.rules.items).1
    (λ k rule c lt lt'. (rule_nothing counts.trace.events lines.rules.items k (get_or b.rules k rule) (get_or counts.rules.items k c) w.events).1 (w.rules k rule c lt lt')) in
    neither (bindings_findings edges b lines counts) (trace_findings counts.trace)
    (bindings_parts edges b lines counts ∙ neither (none_part edges b lines counts) (monitors ++ rules) (no_finding (is_nothing b.monitors) 1 _ (there_are b.monitors w.some)) (neither monitors rules no_monitors no_rules))
    (trace_parts counts.trace
    ∙ neither (empty_finding counts.trace.events) (overwritten_finding counts.trace.overwritten ++ (return_finding counts.trace.returns ++ late_finding counts.trace.late)) ((empty_nothing counts.trace.events).1 w.events)
    (neither (overwritten_finding counts.trace.overwritten) (return_finding counts.trace.returns ++ late_finding counts.trace.late) ((overwritten_nothing counts.trace.overwritten).1 w.front)
    (neither (return_finding counts.trace.returns) (late_finding counts.trace.late) ((return_nothing counts.trace.returns).1 w.line_ends) ((late_nothing counts.trace.late).1 w.in_order))))

-- there is no finding exactly where all is watched
pub all_is_watched : (edges : Bool) (b : BoundValue) (lines : BindingLines) (counts : Counts) → (bindings_findings edges b lines counts ++ trace_findings counts.trace ≡ []) ↔ IsAllWatched edges b lines counts
all_is_watched edges b lines counts = (all_nothing edges b lines counts, no_findings edges b lines counts)

-- no length, no list
nothing_counted : (xs ys : List Finding) → length xs + length ys ≡ 0 → xs ++ ys ≡ []
nothing_counted [] [] e = refl
nothing_counted [] (y ∷ ys) e = absurd (omega arith)
nothing_counted (x ∷ xs) ys e = absurd (omega arith)

-- and back
none_counted : (xs ys : List Finding) → xs ++ ys ≡ [] → length xs + length ys ≡ 0
none_counted [] [] e = refl
none_counted [] (y ∷ ys) e = absurd (some_item y ys e)
none_counted (x ∷ xs) ys e = absurd (some_item x (xs ++ ys) e)

-- the status, by whether there is none
abbrev status_by : Bool → ℕ
status_by none = if none then 0 else 1

-- it is 0 of no finding alone
clean : (n : ℕ) → status_by (n == 0) ≡ 0 → n ≡ 0
clean n e = elim (either_is (n == 0)) [
  | inl is ↦ is_zero n is
  | inr differs ↦ let wrong : status_by false ≡ 0 = ap status_by (sym differs) ∙ e in absurd (omega arith)
]

-- the status is 0 there alone
pub clean_is_watched : (edges : Bool) (t : Told) → (coverage_status edges t ≡ 0) ↔ IsAllWatched edges (bound_value t.bound.now) t.lines.now t.counts.now
clean_is_watched edges t =
    let bindings = bindings_findings edges (bound_value t.bound.now) t.lines.now t.counts.now in
    let trace = trace_findings t.counts.now.trace in
    let law = all_is_watched edges (bound_value t.bound.now) t.lines.now t.counts.now in (
      λ e. law.0 (nothing_counted bindings trace (clean (length bindings + length trace) e)),
      λ w. ap status_by (zero_is (length bindings + length trace) (none_counted bindings trace (law.1 w))),
    )
