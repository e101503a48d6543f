-- The findings of the trace are exactly its zeros.
use Rattle.std.proofs.Common.{◌≡◌, ℕ, List, ◌++◌, refl, ap, ◌∙◌}
use Rattle.std.specs.Prelude.{◌↔◌, codes, ◌==◌, Option, Some, None}
use Rattle.rv_facts.specs.declared.counts.Entries.{Entries}
use Rattle.rv_facts.specs.declared.counts.Late.{Late}
use Rattle.rv_facts.specs.declared.counts.Returns.{Returns}
use Rattle.rv_findings.specs.Findings.{empty_finding, late_finding, overwritten_finding, return_finding, trace_findings}
use Rattle.rv_findings.specs.Zeros.{Finds, IsOn, FindsInTrace}
use Rattle.rv_findings.proofs.KindLemmas.{found_so, this_kind, no_empty, no_front, no_late, no_returns}
use Rattle.rv_findings.proofs.SomeLemmas.{left, none, right, chain, neither, same}
use Rattle.rv_findings.proofs.TestLemmas.{is_zero, zero_is}
use Rattle.rv_facts.specs.declared.counts.TraceCounts.{TraceCounts}
use Rattle.rv_findings.proofs.PartLemmas.{trace_parts}
use Rattle.rv_findings.proofs.PartZeros.{so_like}

module _ (line : ℕ) where
  -- no events
  pub empty_is : (events : ℕ) → Finds (codes "no-events") line (empty_finding events) ↔ ((events ≡ 0) × (1 ≡ line))
  empty_is events = chain (found_so (codes "no-events") line (events == 0) 1 _ refl) (so_like (events == 0) (is_zero events) (zero_is events))

  -- an overwritten front
  pub front_is : (o : Option Entries) → Finds (codes "front-overwritten") line (overwritten_finding o) ↔ ((e : Entries) × (o ≡ Some e) × (e.line ≡ line))
  front_is None = (λ a. absurd (none (IsOn (codes "front-overwritten") line) a), λ p. absurd (let wrong : None ≡ Some p.0 = p.1 in cc))
  front_is (Some x) =
      let this = this_kind (codes "front-overwritten") line x.line _ refl in
      (λ a. (x, refl, this.0 a), λ p. let same : x ≡ p.0 = let e : Some x ≡ Some p.0 = p.1 in cc in this.1 (ap (λ (y : Entries). y.line) same ∙ p.2))

  -- carriage returns
  pub returns_are : (o : Option Returns) → Finds (codes "carriage-returns") line (return_finding o) ↔ ((r : Returns) × (o ≡ Some r) × (r.line ≡ line))
  returns_are None = (λ a. absurd (none (IsOn (codes "carriage-returns") line) a), λ p. absurd (let wrong : None ≡ Some p.0 = p.1 in cc))
  returns_are (Some x) =
      let this = this_kind (codes "carriage-returns") line x.line _ refl in
      (λ a. (x, refl, this.0 a), λ p. let same : x ≡ p.0 = let e : Some x ≡ Some p.0 = p.1 in cc in this.1 (ap (λ (y : Returns). y.line) same ∙ p.2))

  -- a time that goes back
  pub late_is : (o : Option Late) → Finds (codes "time-goes-back") line (late_finding o) ↔ ((late : Late) × (o ≡ Some late) × (late.late.line ≡ line))
  late_is None = (λ a. absurd (none (IsOn (codes "time-goes-back") line) a), λ p. absurd (let wrong : None ≡ Some p.0 = p.1 in cc))
  late_is (Some x) =
      let this = this_kind (codes "time-goes-back") line x.late.line _ refl in
      (λ a. (x, refl, this.0 a), λ p. let same : x ≡ p.0 = let e : Some x ≡ Some p.0 = p.1 in cc in this.1 (ap (λ (y : Late). y.late.line) same ∙ p.2))

module _ (c : TraceCounts) (line : ℕ) where
  -- what is found of the trace is found in its parts
  in_trace : (kind : List ℕ) → Finds kind line (trace_findings c) ↔ Finds kind line (empty_finding c.events ++ (overwritten_finding c.overwritten ++ (return_finding c.returns ++ late_finding c.late)))
  in_trace kind = same (IsOn kind line) (trace_findings c) (empty_finding c.events ++ (overwritten_finding c.overwritten ++ (return_finding c.returns ++ late_finding c.late))) (trace_parts c)

  -- of each kind
  pub trace_zeros : FindsInTrace c line
  trace_zeros =
      let empty = empty_finding c.events in
      let front = overwritten_finding c.overwritten in
      let returns = return_finding c.returns in
      let late = late_finding c.late in
      record {
        no_events =
            let kind = codes "no-events" in
            chain (in_trace kind)
            (chain (left (IsOn kind line) empty (front ++ (returns ++ late))
            (neither (IsOn kind line) front (returns ++ late) (no_front kind line (λ t. refl) c.overwritten) (neither (IsOn kind line) returns late (no_returns kind line (λ t. refl) c.returns) (no_late kind line (λ t. refl) c.late))))
            (empty_is line c.events));
        overwritten =
            let kind = codes "front-overwritten" in
            chain (in_trace kind)
            (chain (right (IsOn kind line) empty (front ++ (returns ++ late)) (no_empty kind line (λ t. refl) c.events))
            (chain (left (IsOn kind line) front (returns ++ late) (neither (IsOn kind line) returns late (no_returns kind line (λ t. refl) c.returns) (no_late kind line (λ t. refl) c.late)))
            (front_is line c.overwritten)));
        returns =
            let kind = codes "carriage-returns" in
            chain (in_trace kind)
            (chain (right (IsOn kind line) empty (front ++ (returns ++ late)) (no_empty kind line (λ t. refl) c.events))
            (chain (right (IsOn kind line) front (returns ++ late) (no_front kind line (λ t. refl) c.overwritten))
            (chain (left (IsOn kind line) returns late (no_late kind line (λ t. refl) c.late)) (returns_are line c.returns))));
        goes_back =
            let kind = codes "time-goes-back" in
            chain (in_trace kind)
            (chain (right (IsOn kind line) empty (front ++ (returns ++ late)) (no_empty kind line (λ t. refl) c.events))
            (chain (right (IsOn kind line) front (returns ++ late) (no_front kind line (λ t. refl) c.overwritten))
            (chain (right (IsOn kind line) returns late (no_returns kind line (λ t. refl) c.returns)) (late_is line c.late))));
      }
