-- Of which kinds the findings of each part are: of none whose name begins otherwise.
use Rattle.std.proofs.Common.{◌≡◌, ℕ, Bool, true, false, List, [], ◌∷◌, ◌++◌, refl, sym, ◌∙◌}
use Rattle.std.specs.Prelude.{◌↔◌, codes, decimal, not, ◌&&◌, ◌==◌, slice_index, slice_index_or, Option, Some, None, if◌then◌else◌}
use Rattle.std.proofs.lemmas.Bool.{false≢true}
use Rattle.rv_model.specs.declared.formula.Spec.{Spec}
use Rattle.rv_model.specs.declared.formula.Spec.TheVariants as spec
use Rattle.rv_bind.specs.RuleValues.{OnValue}
use Rattle.rv_facts.specs.declared.lines.BindingLines.{BindingLines}
use Rattle.rv_facts.specs.declared.counts.Entries.{Entries}
use Rattle.rv_facts.specs.declared.counts.Halt.{Halt}
use Rattle.rv_facts.specs.declared.counts.Late.{Late}
use Rattle.rv_facts.specs.declared.counts.MonitorCounts.{MonitorCounts}
use Rattle.rv_facts.specs.declared.counts.Returns.{Returns}
use Rattle.rv_facts.specs.declared.counts.RuleCounts.{RuleCounts}
use Rattle.rv_findings.specs.declared.finding.Asked.TheVariants.{Brings}
use Rattle.rv_findings.specs.declared.finding.OwnRule.{OwnRule}
use Rattle.rv_findings.specs.declared.spec_findings.SpecPart.TheVariants.{Events, Edges, Atoms}
use Rattle.rv_facts.specs.MonitorFacts.{edge_text, place_edge}
use Rattle.rv_facts.specs.Shown.{in_brackets}
use Rattle.rv_findings.specs.Findings.{empty_finding, late_finding, latest_text, overwritten_finding, return_finding, rule_finding, silent_text}
use Rattle.rv_findings.specs.MonitorFindings.{asked_edges, atom_findings_by, atom_text, found_if, halt_finding, off_findings, part_findings, part_size, place_finding, react_findings, spec_findings, start_findings}
use Rattle.rv_findings.specs.OwnRules.{final_line, first_or, is_nothing, least_of, lines_where}
use Rattle.rv_findings.specs.Watched.{atom_lines}
use Rattle.rv_findings.specs.Zeros.{Finds, IsOn, has_prefix}
use Rattle.rv_findings.proofs.SomeLemmas.{neither, none, one, some_place, this_one}

-- texts that begin with the word are of another kind
abbrev pub Other : List ℕ → List ℕ → Type 0
Other kind word = (text : List ℕ) → has_prefix (kind ++ codes ": ") (word ++ text) ≡ false

module _ (kind : List ℕ) (line : ℕ) where
  -- a finding of another kind
  pub not_this : (l : ℕ) (text : List ℕ) → has_prefix (kind ++ codes ": ") text ≡ false → Finds kind line (record { line = l; text = text } ∷ []) → ⊥
  not_this l text other a = false≢true (sym other ∙ (one (IsOn kind line) (record { line = l; text = text }) a).0)

  -- so it is where it may be found
  pub no_found : (is_so : Bool) (l : ℕ) (text : List ℕ) → has_prefix (kind ++ codes ": ") text ≡ false → Finds kind line (found_if is_so l text) → ⊥
  no_found true l text other a = not_this l text other a
  no_found false l text other a = none (IsOn kind line) a

  -- a finding of this kind
  pub this_kind : (l : ℕ) (text : List ℕ) → has_prefix (kind ++ codes ": ") text ≡ true → Finds kind line (record { line = l; text = text } ∷ []) ↔ (l ≡ line)
  this_kind l text mine = (λ a. (one (IsOn kind line) (record { line = l; text = text }) a).1, λ e. this_one (IsOn kind line) (record { line = l; text = text }) (mine, e))

  -- so it is where it may be found
  pub found_so : (is_so : Bool) (l : ℕ) (text : List ℕ) → has_prefix (kind ++ codes ": ") text ≡ true → Finds kind line (found_if is_so l text) ↔ ((is_so ≡ true) × (l ≡ line))
  found_so true l text mine = let this = this_kind l text mine in (λ a. (refl, this.0 a), λ p. this.1 p.1)
  found_so false l text mine = (λ a. absurd (none (IsOn kind line) a), λ p. absurd (false≢true p.0))

  -- whether a monitor is off
  pub no_off : Other kind (codes "monitor-off: ") → (name : List ℕ) (enabled : Bool) (ls : List ℕ) → Finds kind line (off_findings name enabled ls) → ⊥
  unfolding off_findings
  no_off other name enabled ls = no_found (not enabled) (first_or 0 ls) _ (other (name ++ codes " gets no delivery"))

  -- whether it starts
  pub no_start : Other kind (codes "monitor-cannot-start: ") → Other kind (codes "monitor-never-starts: ") → (name : List ℕ) (l : ℕ) (enabled started : Bool) (first : Option ℕ)
      → Finds kind line (start_findings name l enabled started first) → ⊥
  unfolding start_findings
  no_start cannot never name l enabled started None = not_this l _ (cannot (codes "no line of " ++ name ++ codes " has the mode start or start_run"))
  no_start cannot never name l enabled started (Some first) = no_found (enabled && not started) first _ (never (codes "no delivery starts " ++ name))

  -- whether its failures are told
  pub no_react : Other kind (codes "no-react: ") → (name : List ℕ) (l : ℕ) (ls : List ℕ) → Finds kind line (react_findings name l ls) → ⊥
  unfolding react_findings
  no_react other name l ls = no_found (is_nothing ls) l _ (other (codes "a failure of " ++ name ++ codes " is counted, and not printed"))

  -- an atom
  no_atom : Other kind (codes "atom-not-bound: ") → Other kind (codes "atom-never-true: ") → (name : List ℕ) (l letters true_in : ℕ) (atom : List ℕ) (least : Option ℕ)
      → Finds kind line (atom_findings_by name l letters true_in atom least) → ⊥
  no_atom unset untrue name l letters true_in atom None = not_this l _ (unset (codes "no line sets " ++ atom_text name atom))
  no_atom unset untrue name l letters true_in atom (Some least) =
      no_found (not (letters == 0) && true_in == 0) least _ (untrue (atom_text name atom ++ codes " is true in no letter" ++ in_brackets letters))

  module _ (name : List ℕ) (l : ℕ) (called : List ℕ) (own : List OwnRule) (lines : BindingLines) (c : MonitorCounts) where
    -- its events
    pub no_events : Other kind (codes "event-not-bound: ") → (s : Spec) → Finds kind line (part_findings name l called own lines c s Events) → ⊥
    no_events other s a = let at = (some_place (IsOn kind line) (place_finding name l called own lines c s Events) (part_size Events s)).0 a in at_event s at.0 at.2
      where
        at_event : (s : Spec) (event : ℕ) → Finds kind line (place_finding name l called own lines c s Events event) → ⊥
        at_event (spec.Da m) event a = no_found (is_nothing (lines_where (Brings event) own)) l _ (other (codes "no line brings " ++ slice_index_or m.events event [] ++ codes " to " ++ name)) a
        at_event (spec.Ltl rule) event a = none (IsOn kind line) a

    -- its atoms
    pub no_atoms : Other kind (codes "atom-not-bound: ") → Other kind (codes "atom-never-true: ") → (s : Spec) → Finds kind line (part_findings name l called own lines c s Atoms) → ⊥
    no_atoms unset untrue s a = let at = (some_place (IsOn kind line) (place_finding name l called own lines c s Atoms) (part_size Atoms s)).0 a in at_atom s at.0 at.2
      where
        at_atom : (s : Spec) (atom : ℕ) → Finds kind line (place_finding name l called own lines c s Atoms atom) → ⊥
        at_atom (spec.Da m) atom a = none (IsOn kind line) a
        at_atom (spec.Ltl rule) atom a = no_atom unset untrue name l c.letters (slice_index c.atoms.items atom) (slice_index_or rule.atoms atom []) (least_of (atom_lines called own lines (spec.Ltl rule) atom)) a

    -- both
    pub no_spec : Other kind (codes "event-not-bound: ") → Other kind (codes "atom-not-bound: ") → Other kind (codes "atom-never-true: ") → (s : Spec) → Finds kind line (spec_findings name l called own lines c s) → ⊥
    unfolding spec_findings
    no_spec event unset untrue s = neither (IsOn kind line) (part_findings name l called own lines c s Events) (part_findings name l called own lines c s Atoms) (no_events event s) (no_atoms unset untrue s)

    -- its edges
    pub no_edges : Other kind (codes "edge-never-taken: ") → (edges : Bool) (s : Spec) → Finds kind line (asked_edges edges name l called own lines c s) → ⊥
    unfolding asked_edges
    no_edges other edges s = asked (edges && not (c.instances_started == 0))
      where
        at_edge : (s : Spec) (edge : ℕ) → Finds kind line (place_finding name l called own lines c s Edges edge) → ⊥
        at_edge (spec.Da m) edge a = no_found (slice_index c.edges.items edge == 0) (first_or l (lines_where (Brings (place_edge m edge).event) own)) _ (other (edge_text m (place_edge m edge) ++ codes " of " ++ name)) a
        at_edge (spec.Ltl rule) edge a = none (IsOn kind line) a

        asked : (are : Bool) → Finds kind line (if are then part_findings name l called own lines c s Edges else []) → ⊥
        asked true a = let at = (some_place (IsOn kind line) (place_finding name l called own lines c s Edges) (part_size Edges s)).0 a in at_edge s at.0 at.2
        asked false a = none (IsOn kind line) a

  -- whether it halts the run
  pub no_halt : Other kind (codes "run-halted: ") → (name : List ℕ) (place : ℕ) (ls : List ℕ) (halt : Option Halt) (undelivered : ℕ) → Finds kind line (halt_finding name place ls halt undelivered) → ⊥
  unfolding halt_finding
  no_halt other name place ls None undelivered = none (IsOn kind line)
  no_halt other name place ls (Some halt) undelivered =
      no_found (halt.monitor == place && not (undelivered == 0)) (final_line ls) _
      (other (name ++ codes " failed on line " ++ decimal halt.line ++ codes " of the trace, and what fires behind it is not delivered" ++ in_brackets undelivered))

  -- a rule
  pub no_rule : Other kind (codes "rule-never-fires: ") → (events : ℕ) (ls : List ℕ) (place : ℕ) (rule : OnValue) (c : RuleCounts) → Finds kind line (rule_finding events ls place rule c) → ⊥
  no_rule other events ls place rule c = no_found (not (events == 0) && c.fires == 0) (slice_index ls place) _ (other (silent_text rule c))

  -- that there are no events
  pub no_empty : Other kind (codes "no-events: ") → (events : ℕ) → Finds kind line (empty_finding events) → ⊥
  no_empty other events = no_found (events == 0) 1 _ (other (codes "no line of the trace is an event"))

  -- its front
  pub no_front : Other kind (codes "front-overwritten: ") → (o : Option Entries) → Finds kind line (overwritten_finding o) → ⊥
  no_front other None = none (IsOn kind line)
  no_front other (Some e) = not_this e.line _ (other (decimal e.kept ++ codes " of " ++ decimal e.written ++ codes " entries are left"))

  -- its line ends
  pub no_returns : Other kind (codes "carriage-returns: ") → (o : Option Returns) → Finds kind line (return_finding o) → ⊥
  no_returns other None = none (IsOn kind line)
  no_returns other (Some r) = not_this r.line _ (other (codes "the line ends in one" ++ in_brackets r.lines))

  -- its times
  pub no_late : Other kind (codes "time-goes-back: ") → (o : Option Late) → Finds kind line (late_finding o) → ⊥
  no_late other None = none (IsOn kind line)
  no_late other (Some late) = not_this late.late.line _ (other (late.late.stamp ++ codes " stands behind " ++ latest_text late.latest ++ in_brackets late.lines))
