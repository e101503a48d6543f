-- What the findings of a kind are in the part that has them.
use Rattle.std.proofs.Common.{◌≡◌, ℕ, ◌<◌, Bool, true, false, List, [], ◌∷◌, ◌++◌, arith, refl, ap, ◌∙◌}
use Rattle.std.specs.Prelude.{◌↔◌, codes, not, ◌&&◌, ◌==◌, slice_index, slice_index_or, Option, Some, None, if◌then◌else◌}
use Rattle.std.proofs.lemmas.Bool.{false≢true}
use Rattle.std.proofs.lemmas.Bool.Decides.{nat_tests}
use Rattle.rv_model.specs.declared.formula.Spec.{Spec}
use Rattle.rv_model.specs.declared.formula.Spec.TheVariants as spec
use Rattle.rv_facts.specs.declared.lines.BindingLines.{BindingLines}
use Rattle.rv_facts.specs.declared.counts.Halt.{Halt}
use Rattle.rv_facts.specs.declared.counts.MonitorCounts.{MonitorCounts}
use Rattle.rv_findings.specs.declared.finding.Asked.TheVariants.{Brings}
use Rattle.rv_findings.specs.declared.finding.OwnRule.{OwnRule}
use Rattle.rv_findings.specs.declared.spec_findings.SpecPart.TheVariants.{Events, Edges, Atoms}
use Rattle.rv_facts.specs.MonitorFacts.{place_edge}
use Rattle.rv_findings.specs.MonitorFindings.{asked_edges, atom_findings_by, halt_finding, off_findings, part_findings, part_size, place_finding, react_findings, spec_findings, start_findings}
use Rattle.rv_findings.specs.OwnRules.{final_line, first_of, first_or, is_nothing, least_line, least_of, lines_where}
use Rattle.rv_findings.specs.Watched.{atom_lines}
use Rattle.rv_findings.specs.Zeros.{Finds, IsOn, edge_lines}
use Rattle.rv_findings.proofs.KindLemmas.{found_so, no_atoms, no_events, no_found, not_this, this_kind}
use Rattle.rv_findings.proofs.NothingLemmas.{none_is, none_there, some_item}
use Rattle.rv_findings.proofs.SomeLemmas.{left, none, right, some_place, chain}
use Rattle.rv_findings.proofs.TestLemmas.{both, denied, deny, fails, from_passes, from_fails, is_zero, passes, together, zero_is}

-- a test says otherwise the same
pub so_like : (b : Bool) {A B : Type 0} → (b ≡ true → A) → (A → b ≡ true) → ((b ≡ true) × B) ↔ (A × B)
so_like b from to = (λ p. (from p.0, p.1), λ p. (to p.0, p.1))

module _ (line : ℕ) where
  -- a monitor is off
  pub off_is : (name : List ℕ) (enabled : Bool) (ls : List ℕ) → Finds (codes "monitor-off") line (off_findings name enabled ls) ↔ ((enabled ≡ false) × (first_or 0 ls ≡ line))
  unfolding off_findings
  off_is name enabled ls = chain (found_so (codes "monitor-off") line (not enabled) (first_or 0 ls) _ refl) (so_like (not enabled) (denied enabled) (deny enabled))

  -- it cannot start
  pub cannot_is : (name : List ℕ) (l : ℕ) (enabled started : Bool) (ls : List ℕ) → Finds (codes "monitor-cannot-start") line (start_findings name l enabled started (first_of ls)) ↔ ((ls ≡ []) × (l ≡ line))
  unfolding start_findings
  cannot_is name l enabled started [] = let this = this_kind (codes "monitor-cannot-start") line l (codes "monitor-cannot-start: no line of " ++ name ++ codes " has the mode start or start_run") refl in (λ a. (refl, this.0 a), λ p. this.1 p.1)
  cannot_is name l enabled started (first ∷ ls) =
      (λ a. absurd (no_found (codes "monitor-cannot-start") line (enabled && not started) first (codes "monitor-never-starts: no delivery starts " ++ name) refl a), λ p. absurd (some_item first ls p.0))

  -- it never starts
  pub never_is : (name : List ℕ) (l : ℕ) (on : Bool) (events started : ℕ) (ls : List ℕ)
      → Finds (codes "monitor-never-starts") line (start_findings name l (on && not (events == 0)) (not (started == 0)) (first_of ls)) ↔ ((first_of ls ≡ Some line) × (on ≡ true) × (0 < events) × (started ≡ 0))
  unfolding start_findings
  never_is name l on events started [] =
      (λ a. absurd (not_this (codes "monitor-never-starts") line l (codes "monitor-cannot-start: no line of " ++ name ++ codes " has the mode start or start_run") refl a), λ p. absurd (let wrong : None ≡ Some line = p.0 in cc))
  never_is name l on events started (first ∷ ls) =
      let this = found_so (codes "monitor-never-starts") line (on && not (events == 0) && not (not (started == 0))) first (codes "monitor-never-starts: no delivery starts " ++ name) refl in (
        λ a.
            let p = this.0 a in
            let tests = both (on && not (events == 0)) (not (not (started == 0))) p.0 in
            let more = both on (not (events == 0)) tests.0 in
            (ap (λ (n : ℕ). Some n) p.1, more.0, from_passes events more.1, from_fails started (denied (not (started == 0)) tests.1)),
        λ p.
            let same : first ≡ line = let e : Some first ≡ Some line = p.0 in cc in
            this.1 (together (on && not (events == 0)) (not (not (started == 0))) (together on (not (events == 0)) p.1 (passes events p.2)) (deny (not (started == 0)) (fails started p.3)), same),
      )

  -- nobody is told of its failures
  pub react_is : (name : List ℕ) (l : ℕ) (ls : List ℕ) → Finds (codes "no-react") line (react_findings name l ls) ↔ ((ls ≡ []) × (l ≡ line))
  unfolding react_findings
  react_is name l ls = chain (found_so (codes "no-react") line (is_nothing ls) l _ refl) (so_like (is_nothing ls) (none_there ls) (none_is ls))

  -- an atom that no line sets
  unset_is : (name : List ℕ) (l letters true_in : ℕ) (atom ls : List ℕ) → Finds (codes "atom-not-bound") line (atom_findings_by name l letters true_in atom (least_of ls)) ↔ ((ls ≡ []) × (l ≡ line))
  unset_is name l letters true_in atom [] = let this = this_kind (codes "atom-not-bound") line l _ refl in (λ a. (refl, this.0 a), λ p. this.1 p.1)
  unset_is name l letters true_in atom (first ∷ ls) =
      (λ a. absurd (no_found (codes "atom-not-bound") line (not (letters == 0) && true_in == 0) (least_line first ls) _ refl a), λ p. absurd (some_item first ls p.0))

  -- an atom that is true in no letter
  untrue_is : (name : List ℕ) (l letters true_in : ℕ) (atom ls : List ℕ)
      → Finds (codes "atom-never-true") line (atom_findings_by name l letters true_in atom (least_of ls)) ↔ ((least_of ls ≡ Some line) × (0 < letters) × (true_in ≡ 0))
  untrue_is name l letters true_in atom [] = (λ a. absurd (not_this (codes "atom-never-true") line l _ refl a), λ p. absurd (let wrong : None ≡ Some line = p.0 in cc))
  untrue_is name l letters true_in atom (first ∷ ls) =
      let this = found_so (codes "atom-never-true") line (not (letters == 0) && true_in == 0) (least_line first ls) _ refl in (
        λ a.
            let p = this.0 a in
            let tests = both (not (letters == 0)) (true_in == 0) p.0 in
            (ap (λ (n : ℕ). Some n) p.1, from_passes letters tests.0, is_zero true_in tests.1),
        λ p.
            let same : least_line first ls ≡ line = let e : Some (least_line first ls) ≡ Some line = p.0 in cc in
            this.1 (together (not (letters == 0)) (true_in == 0) (passes letters p.1) (zero_is true_in p.2), same),
      )

  module _ (name : List ℕ) (l : ℕ) (called : List ℕ) (own : List OwnRule) (lines : BindingLines) (c : MonitorCounts) where
    -- an event that no line brings
    at_event : (s : Spec) (event : ℕ) → event < part_size Events s → Finds (codes "event-not-bound") line (place_finding name l called own lines c s Events event) ↔ ((lines_where (Brings event) own ≡ []) × (l ≡ line))
    at_event (spec.Da a) event lt =
        let ls = lines_where (Brings event) own in
        chain (found_so (codes "event-not-bound") line (is_nothing ls) l _ refl) (so_like (is_nothing ls) (none_there ls) (none_is ls))
    at_event (spec.Ltl rule) event lt = absurd (omega arith)

    -- an atom that none sets
    at_unset : (s : Spec) (atom : ℕ) → atom < part_size Atoms s → Finds (codes "atom-not-bound") line (place_finding name l called own lines c s Atoms atom) ↔ ((atom_lines called own lines s atom ≡ []) × (l ≡ line))
    at_unset (spec.Da a) atom lt = absurd (omega arith)
    at_unset (spec.Ltl rule) atom lt = unset_is name l c.letters (slice_index c.atoms.items atom) (slice_index_or rule.atoms atom []) (atom_lines called own lines (spec.Ltl rule) atom)

    -- an atom that is never true
    at_untrue : (s : Spec) (atom : ℕ) → atom < part_size Atoms s
        → Finds (codes "atom-never-true") line (place_finding name l called own lines c s Atoms atom) ↔ ((least_of (atom_lines called own lines s atom) ≡ Some line) × (0 < c.letters) × (slice_index c.atoms.items atom ≡ 0))
    at_untrue (spec.Da a) atom lt = absurd (omega arith)
    at_untrue (spec.Ltl rule) atom lt = untrue_is name l c.letters (slice_index c.atoms.items atom) (slice_index_or rule.atoms atom []) (atom_lines called own lines (spec.Ltl rule) atom)

    -- an edge that is not taken
    at_edge : (s : Spec) (edge : ℕ) → edge < part_size Edges s → Finds (codes "edge-never-taken") line (place_finding name l called own lines c s Edges edge) ↔ ((slice_index c.edges.items edge ≡ 0) × (first_or l (edge_lines own s edge) ≡ line))
    at_edge (spec.Da a) edge lt =
        let n = slice_index c.edges.items edge in
        chain (found_so (codes "edge-never-taken") line (n == 0) (first_or l (lines_where (Brings (place_edge a edge).event) own)) _ refl) (so_like (n == 0) (is_zero n) (zero_is n))
    at_edge (spec.Ltl rule) edge lt = absurd (omega arith)

    -- the events that no line brings
    pub events_are : (s : Spec) → Finds (codes "event-not-bound") line (spec_findings name l called own lines c s) ↔ ((event : ℕ) × (event < part_size Events s) × (lines_where (Brings event) own ≡ []) × (l ≡ line))
    unfolding spec_findings
    events_are s =
        let of_events = part_findings name l called own lines c s Events in
        let of_atoms = part_findings name l called own lines c s Atoms in
        let front = left (IsOn (codes "event-not-bound") line) of_events of_atoms (no_atoms (codes "event-not-bound") line name l called own lines c (λ t. refl) (λ t. refl) s) in
        let at = some_place (IsOn (codes "event-not-bound") line) (place_finding name l called own lines c s Events) (part_size Events s) in
        (λ a. let p = at.0 (front.0 a) in let q = (at_event s p.0 p.1).0 p.2 in (p.0, p.1, q.0, q.1), λ p. front.1 (at.1 (p.0, p.1, (at_event s p.0 p.1).1 (p.2, p.3))))

    -- the atoms that none sets
    pub unset_are : (s : Spec) → Finds (codes "atom-not-bound") line (spec_findings name l called own lines c s) ↔ ((atom : ℕ) × (atom < part_size Atoms s) × (atom_lines called own lines s atom ≡ []) × (l ≡ line))
    unfolding spec_findings
    unset_are s =
        let of_events = part_findings name l called own lines c s Events in
        let of_atoms = part_findings name l called own lines c s Atoms in
        let back = right (IsOn (codes "atom-not-bound") line) of_events of_atoms (no_events (codes "atom-not-bound") line name l called own lines c (λ t. refl) s) in
        let at = some_place (IsOn (codes "atom-not-bound") line) (place_finding name l called own lines c s Atoms) (part_size Atoms s) in
        (λ a. let p = at.0 (back.0 a) in let q = (at_unset s p.0 p.1).0 p.2 in (p.0, p.1, q.0, q.1), λ p. back.1 (at.1 (p.0, p.1, (at_unset s p.0 p.1).1 (p.2, p.3))))

    -- the atoms that are never true
    pub untrue_are : (s : Spec)
        → Finds (codes "atom-never-true") line (spec_findings name l called own lines c s) ↔ ((atom : ℕ) × (atom < part_size Atoms s) × (least_of (atom_lines called own lines s atom) ≡ Some line) × (0 < c.letters) × (slice_index c.atoms.items atom ≡ 0))
    unfolding spec_findings
    untrue_are s =
        let of_events = part_findings name l called own lines c s Events in
        let of_atoms = part_findings name l called own lines c s Atoms in
        let back = right (IsOn (codes "atom-never-true") line) of_events of_atoms (no_events (codes "atom-never-true") line name l called own lines c (λ t. refl) s) in
        let at = some_place (IsOn (codes "atom-never-true") line) (place_finding name l called own lines c s Atoms) (part_size Atoms s) in
        (λ a. let p = at.0 (back.0 a) in let q = (at_untrue s p.0 p.1).0 p.2 in (p.0, p.1, q.0, q.1, q.2), λ p. back.1 (at.1 (p.0, p.1, (at_untrue s p.0 p.1).1 (p.2, p.3, p.4))))

    -- the edges that are not taken
    pub edges_are : (edges : Bool) (s : Spec)
        → Finds (codes "edge-never-taken") line (asked_edges edges name l called own lines c s)
        ↔ ((edge : ℕ) × (edge < part_size Edges s) × (edges ≡ true) × (0 < c.instances_started) × (slice_index c.edges.items edge ≡ 0) × (first_or l (edge_lines own s edge) ≡ line))
    unfolding asked_edges
    edges_are edges s = (
      λ a.
          let asked = asked_for (edges && not (c.instances_started == 0)) a in
          let tests = both edges (not (c.instances_started == 0)) asked.0 in
          let p = at.0 asked.1 in
          let q = (at_edge s p.0 p.1).0 p.2 in
          (p.0, p.1, tests.0, from_passes c.instances_started tests.1, q.0, q.1),
      λ p. ask (edges && not (c.instances_started == 0)) (together edges (not (c.instances_started == 0)) p.2 (passes c.instances_started p.3)) (at.1 (p.0, p.1, (at_edge s p.0 p.1).1 (p.4, p.5))),
    )
      where
        at : Finds (codes "edge-never-taken") line (part_findings name l called own lines c s Edges) ↔ ((edge : ℕ) × (edge < part_size Edges s) × Finds (codes "edge-never-taken") line (place_finding name l called own lines c s Edges edge))
        at = some_place (IsOn (codes "edge-never-taken") line) (place_finding name l called own lines c s Edges) (part_size Edges s)

        asked_for : (are : Bool) → Finds (codes "edge-never-taken") line (if are then part_findings name l called own lines c s Edges else []) → (are ≡ true) × Finds (codes "edge-never-taken") line (part_findings name l called own lines c s Edges)
        asked_for true a = (refl, a)
        asked_for false a = absurd (none (IsOn (codes "edge-never-taken") line) a)

        ask : (are : Bool) → are ≡ true → Finds (codes "edge-never-taken") line (part_findings name l called own lines c s Edges) → Finds (codes "edge-never-taken") line (if are then part_findings name l called own lines c s Edges else [])
        ask true e a = a
        ask false e a = absurd (false≢true e)

  -- a monitor that halts a run with more to deliver
  pub halt_is : (name : List ℕ) (place : ℕ) (ls : List ℕ) (halt : Option Halt) (undelivered : ℕ)
      → Finds (codes "run-halted") line (halt_finding name place ls halt undelivered) ↔ ((h : Halt) × (halt ≡ Some h) × (h.monitor ≡ place) × (0 < undelivered) × (final_line ls ≡ line))
  unfolding halt_finding
  halt_is name place ls None undelivered = (λ a. absurd (none (IsOn (codes "run-halted") line) a), λ p. absurd (let wrong : None ≡ Some p.0 = p.1 in cc))
  halt_is name place ls (Some halt) undelivered =
      let this = found_so (codes "run-halted") line (halt.monitor == place && not (undelivered == 0)) (final_line ls) _ refl in (
        λ a.
            let p = this.0 a in
            let tests = both (halt.monitor == place) (not (undelivered == 0)) p.0 in
            (halt, refl, from_same tests.0, from_passes undelivered tests.1, p.1),
        λ p.
            let at_halt : halt ≡ p.0 = let e : Some halt ≡ Some p.0 = p.1 in cc in
            this.1 (together (halt.monitor == place) (not (undelivered == 0)) (is_same (ap (λ (x : Halt). x.monitor) at_halt ∙ p.2)) (passes undelivered p.3), p.4),
      )
    where
      is_same : halt.monitor ≡ place → (halt.monitor == place) ≡ true
      is_same e = grind (arith, nat_tests)

      from_same : (halt.monitor == place) ≡ true → halt.monitor ≡ place
      from_same e = grind (arith, nat_tests)
