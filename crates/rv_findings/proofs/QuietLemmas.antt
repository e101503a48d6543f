-- When a part has no finding.
use Rattle.std.proofs.Common.{◌≡◌, ℕ, ◌<◌, Bool, true, false, List, [], ◌∷◌, inl, inr, length, refl, sym, ap, ◌∙◌, arith}
use Rattle.std.specs.Prelude.{◌↔◌, ◌==◌, not, ◌&&◌, Option, Some, None, slice_index, if◌then◌else◌}
use Rattle.std.proofs.lemmas.Bool.{false≢true}
use Rattle.std.proofs.lemmas.Bool.Decides.{nat_tests}
use Rattle.rv_model.specs.declared.formula.Spec.{Spec}
use Rattle.rv_model.specs.declared.formula.Spec.TheVariants as spec
use Rattle.rv_bind.specs.RuleValues.{OnValue}
use Rattle.rv_facts.specs.declared.lines.BindingLines.{BindingLines}
use Rattle.rv_facts.specs.declared.counts.Entries.{Entries}
use Rattle.rv_facts.specs.declared.counts.Halt.{Halt}
use Rattle.rv_facts.specs.declared.counts.Late.{Late}
use Rattle.rv_facts.specs.declared.counts.MonitorCounts.{MonitorCounts}
use Rattle.rv_facts.specs.declared.counts.Returns.{Returns}
use Rattle.rv_facts.specs.declared.counts.RuleCounts.{RuleCounts}
use Rattle.rv_findings.specs.declared.finding.Asked.TheVariants.{Brings}
use Rattle.rv_findings.specs.declared.finding.OwnRule.{OwnRule}
use Rattle.rv_findings.specs.declared.spec_findings.SpecPart.TheVariants.{Events, Edges, Atoms}
use Rattle.rv_findings.specs.Findings.{empty_finding, late_finding, overwritten_finding, return_finding, rule_finding}
use Rattle.rv_findings.specs.MonitorFindings.{asked_edges, atom_findings_by, found_if, halt_finding, off_findings, part_findings, part_size, place_finding, react_findings, spec_findings, start_findings}
use Rattle.rv_findings.specs.OwnRules.{first_of, is_nothing, least_of, lines_where}
use Rattle.rv_findings.specs.Watched.{atom_lines}
use Rattle.rv_findings.proofs.NothingLemmas.{neither, no_first, no_places, no_second, place_at, some_item, some_there, there_are}
use Rattle.rv_findings.proofs.TestLemmas.{above, either_is, fails, from_fails, from_passes, is_not, not_both, not_is, not_zero, one_fails, passes}

-- ---- one finding

-- there is none where it is not so
pub not_found : (is_so : Bool) (line : ℕ) (text : List ℕ) → found_if is_so line text ≡ [] → is_so ≡ false
not_found true line text e = absurd (some_item (record { line = line; text = text }) [] e)
not_found false line text e = refl

-- and back
pub no_finding : (is_so : Bool) (line : ℕ) (text : List ℕ) → is_so ≡ false → found_if is_so line text ≡ []
no_finding true line text e = absurd (false≢true (sym e))
no_finding false line text e = refl

-- ---- the parts of a monitor

-- it is on
pub off_nothing : (name : List ℕ) (enabled : Bool) (ls : List ℕ) → (off_findings name enabled ls ≡ []) ↔ (enabled ≡ true)
unfolding off_findings
off_nothing name enabled ls = (λ e. not_is enabled (not_found (not enabled) _ _ e), λ e. no_finding (not enabled) _ _ (is_not enabled e))

-- a line starts instances, and where it may one is started
pub start_nothing : (name : List ℕ) (line : ℕ) (enabled started : Bool) (ls : List ℕ) → (start_findings name line enabled started (first_of ls) ≡ []) ↔ ((0 < length ls) × (enabled ≡ true → started ≡ true))
unfolding start_findings
start_nothing name line enabled started [] = (λ e. absurd (some_item _ [] e), λ p. let lt = p.0 in absurd (omega arith))
start_nothing name line enabled started (l ∷ ls) = (
  λ e. (omega arith, λ on. not_is started (not_both enabled (not started) (not_found (enabled && not started) _ _ e) on)),
  λ p. no_finding (enabled && not started) _ _ (one_fails enabled (not started) (λ on. is_not started (p.1 on))),
)

-- a failure is told
pub react_nothing : (name : List ℕ) (line : ℕ) (ls : List ℕ) → (react_findings name line ls ≡ []) ↔ (0 < length ls)
unfolding react_findings
react_nothing name line ls = (λ e. some_there ls (not_found (is_nothing ls) _ _ e), λ lt. no_finding (is_nothing ls) _ _ (there_are ls lt))

-- what may be found of an atom
atom_nothing : (name : List ℕ) (line letters true_in : ℕ) (atom ls : List ℕ) → (atom_findings_by name line letters true_in atom (least_of ls) ≡ []) ↔ ((0 < length ls) × (0 < letters → 0 < true_in))
atom_nothing name line letters true_in atom [] = (λ e. absurd (some_item _ [] e), λ p. let lt = p.0 in absurd (omega arith))
atom_nothing name line letters true_in atom (l ∷ ls) = (
  λ e. (omega arith, λ some. above true_in (not_both (not (letters == 0)) (true_in == 0) (not_found (not (letters == 0) && true_in == 0) _ _ e) (passes letters some))),
  λ p. no_finding (not (letters == 0) && true_in == 0) _ _ (one_fails (not (letters == 0)) (true_in == 0) (λ some. not_zero true_in (p.1 (from_passes letters some)))),
)

module _ (name : List ℕ) (line : ℕ) (called : List ℕ) (own : List OwnRule) (lines : BindingLines) (c : MonitorCounts) where
  -- an event has a line
  event_nothing : (s : Spec) (event : ℕ) → event < part_size Events s → (place_finding name line called own lines c s Events event ≡ []) ↔ (0 < length (lines_where (Brings event) own))
  event_nothing (spec.Da a) event lt =
      let ls = lines_where (Brings event) own in
      (λ e. some_there ls (not_found (is_nothing ls) _ _ e), λ lt'. no_finding (is_nothing ls) _ _ (there_are ls lt'))
  event_nothing (spec.Ltl rule) event lt = absurd (omega arith)

  -- an atom has a line, and is true in some letter
  place_atom_nothing : (s : Spec) (atom : ℕ) → atom < part_size Atoms s
      → (place_finding name line called own lines c s Atoms atom ≡ []) ↔ ((0 < length (atom_lines called own lines s atom)) × (0 < c.letters → 0 < slice_index c.atoms.items atom))
  place_atom_nothing (spec.Da a) atom lt = absurd (omega arith)
  place_atom_nothing (spec.Ltl rule) atom lt = atom_nothing name line c.letters (slice_index c.atoms.items atom) _ (atom_lines called own lines (spec.Ltl rule) atom)

  -- an edge is taken
  edge_nothing : (s : Spec) (edge : ℕ) → edge < part_size Edges s → (place_finding name line called own lines c s Edges edge ≡ []) ↔ (0 < slice_index c.edges.items edge)
  edge_nothing (spec.Da a) edge lt =
      let n = slice_index c.edges.items edge in
      (λ e. above n (not_found (n == 0) _ _ e), λ lt'. no_finding (n == 0) _ _ (not_zero n lt'))
  edge_nothing (spec.Ltl rule) edge lt = absurd (omega arith)

  -- the events have lines, and the atoms, which are true in some letter
  pub spec_nothing : (s : Spec) → spec_findings name line called own lines c s ≡ []
      → ((event : ℕ) → event < part_size Events s → 0 < length (lines_where (Brings event) own))
      × ((atom : ℕ) → atom < part_size Atoms s → (0 < length (atom_lines called own lines s atom)) × (0 < c.letters → 0 < slice_index c.atoms.items atom))
  unfolding spec_findings
  spec_nothing s e =
      let events = part_findings name line called own lines c s Events in
      let atoms = part_findings name line called own lines c s Atoms in (
        λ event lt. (event_nothing s event lt).0 (place_at (place_finding name line called own lines c s Events) (part_size Events s) event (no_first events atoms e) lt),
        λ atom lt. (place_atom_nothing s atom lt).0 (place_at (place_finding name line called own lines c s Atoms) (part_size Atoms s) atom (no_second events atoms e) lt),
      )

  -- and back
  pub no_spec : (s : Spec) → ((event : ℕ) → event < part_size Events s → 0 < length (lines_where (Brings event) own))
      → ((atom : ℕ) → atom < part_size Atoms s → (0 < length (atom_lines called own lines s atom)) × (0 < c.letters → 0 < slice_index c.atoms.items atom))
      → spec_findings name line called own lines c s ≡ []
  unfolding spec_findings
  no_spec s events atoms =
      neither (part_findings name line called own lines c s Events) (part_findings name line called own lines c s Atoms)
      (no_places (place_finding name line called own lines c s Events) (part_size Events s) (λ event lt. (event_nothing s event lt).1 (events event lt)))
      (no_places (place_finding name line called own lines c s Atoms) (part_size Atoms s) (λ atom lt. (place_atom_nothing s atom lt).1 (atoms atom lt)))

  -- where edges are asked for and an instance is started, each is taken
  pub edges_nothing : (edges : Bool) (s : Spec) → 0 < c.instances_started → asked_edges edges name line called own lines c s ≡ [] → edges ≡ true → (edge : ℕ) → edge < part_size Edges s → 0 < slice_index c.edges.items edge
  unfolding asked_edges
  edges_nothing false s started e asked edge lt = absurd (false≢true asked)
  edges_nothing true s started e asked edge lt =
      let all : part_findings name line called own lines c s Edges ≡ [] = ap (λ (b : Bool). if b then part_findings name line called own lines c s Edges else []) (sym (passes c.instances_started started)) ∙ e in
      (edge_nothing s edge lt).0 (place_at (place_finding name line called own lines c s Edges) (part_size Edges s) edge all lt)

  -- and back
  pub no_edges : (edges : Bool) (s : Spec) → (edges ≡ true → (edge : ℕ) → edge < part_size Edges s → 0 < slice_index c.edges.items edge) → asked_edges edges name line called own lines c s ≡ []
  unfolding asked_edges
  no_edges false s taken = refl
  no_edges true s taken = elim (either_is (not (c.instances_started == 0))) [
    | inl is ↦ rw is (no_places (place_finding name line called own lines c s Edges) (part_size Edges s) (λ edge lt. (edge_nothing s edge lt).1 (taken refl edge lt)))
    | inr differs ↦ rw differs refl
  ]

-- it halts no run that has more to deliver
pub halt_nothing : (name : List ℕ) (place : ℕ) (ls : List ℕ) (halt : Option Halt) (undelivered : ℕ)
    → (halt_finding name place ls halt undelivered ≡ []) ↔ ((h : Halt) → halt ≡ Some h → h.monitor ≡ place → undelivered ≡ 0)
unfolding halt_finding
halt_nothing name place ls None undelivered = (λ e h is. absurd (let wrong : None ≡ Some h = is in cc), λ all. refl)
halt_nothing name place ls (Some halt) undelivered = (
  λ e h is same.
      let at_halt : halt ≡ h = let both : Some halt ≡ Some h = is in cc in
      let same' : (halt.monitor == place) ≡ true = is_same (ap (λ (x : Halt). x.monitor) at_halt ∙ same) in
      from_fails undelivered (not_both (halt.monitor == place) (not (undelivered == 0)) (not_found (halt.monitor == place && not (undelivered == 0)) _ _ e) same'),
  λ all. no_finding (halt.monitor == place && not (undelivered == 0)) _ _ (one_fails (halt.monitor == place) (not (undelivered == 0)) (λ same. fails undelivered (all halt refl (from_same same)))),
)
  where
    is_same : halt.monitor ≡ place → (halt.monitor == place) ≡ true
    is_same e = grind (arith, nat_tests)

    from_same : (halt.monitor == place) ≡ true → halt.monitor ≡ place
    from_same e = grind (arith, nat_tests)

-- ---- a rule, and the trace

-- of a trace with events, it fires
pub rule_nothing : (events : ℕ) (ls : List ℕ) (place : ℕ) (rule : OnValue) (c : RuleCounts) → 0 < events → (rule_finding events ls place rule c ≡ []) ↔ (0 < c.fires)
rule_nothing events ls place rule c some = (
  λ e. above c.fires (not_both (not (events == 0)) (c.fires == 0) (not_found (not (events == 0) && c.fires == 0) _ _ e) (passes events some)),
  λ lt. no_finding (not (events == 0) && c.fires == 0) _ _ (one_fails (not (events == 0)) (c.fires == 0) (λ is. not_zero c.fires lt)),
)

-- it has events
pub empty_nothing : (events : ℕ) → (empty_finding events ≡ []) ↔ (0 < events)
empty_nothing events = (λ e. above events (not_found (events == 0) _ _ e), λ lt. no_finding (events == 0) _ _ (not_zero events lt))

-- its front
pub overwritten_nothing : (o : Option Entries) → (overwritten_finding o ≡ []) ↔ (o ≡ None)
overwritten_nothing None = (λ e. refl, λ e. refl)
overwritten_nothing (Some x) = (λ e. absurd (some_item _ [] e), λ e. absurd (let wrong : Some x ≡ None = e in cc))

-- plain line ends
pub return_nothing : (o : Option Returns) → (return_finding o ≡ []) ↔ (o ≡ None)
return_nothing None = (λ e. refl, λ e. refl)
return_nothing (Some x) = (λ e. absurd (some_item _ [] e), λ e. absurd (let wrong : Some x ≡ None = e in cc))

-- its times in order
pub late_nothing : (o : Option Late) → (late_finding o ≡ []) ↔ (o ≡ None)
late_nothing None = (λ e. refl, λ e. refl)
late_nothing (Some x) = (λ e. absurd (some_item _ [] e), λ e. absurd (let wrong : Some x ≡ None = e in cc))
