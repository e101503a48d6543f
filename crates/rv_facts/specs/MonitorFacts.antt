-- The facts of a monitor besides its rules: what the report tells, its instances and answers, and what was reached.
use Rattle.std.specs.Prelude.{ℕ, ◌+◌, List, [], ◌++◌, length, flat_map, codes, slice_index, slice_index_or}
use Rattle.rv_model.specs.declared.automaton.Edge.{Edge}
use Rattle.rv_model.specs.declared.formula.Spec.{Spec}
use Rattle.rv_model.specs.declared.formula.Spec.TheVariants as spec
use Rattle.rv_model.specs.Machine.{Machine}
use Rattle.rv_model.specs.Numbers.{list_of}
use Rattle.rv_model.specs.Reports.{count_text, line_end}
use Rattle.rv_model.specs.Table.{Table, of_labels}
use Rattle.rv_report.specs.FormulaTexts.{labels_text}
use Rattle.rv_table.specs.Rows.{node_in}
use Rattle.rv_facts.specs.declared.counts.MonitorCounts.{MonitorCounts}
use Rattle.rv_facts.specs.declared.monitor_facts.Share.{Share}
use Rattle.rv_facts.specs.declared.monitor_facts.Share.TheVariants.{States, Edges, Rows, Atoms}
use Rattle.rv_facts.specs.Shown.{numbered}

-- the first n places
abbrev pub places : ℕ → List ℕ
places n = list_of (λ place. place) n

-- what the report tells of it
abbrev pub summary_fact : List ℕ → MonitorCounts → List ℕ
summary_fact name c = count_text name c.instances c.deliveries c.failures c.stopped

-- its instances that were started, that failed, and that still run
abbrev pub instances_fact : List ℕ → MonitorCounts → List ℕ
instances_fact name c =
    name ++ numbered (codes ": instances: started") c.instances_started ++ numbered (codes ", failed") c.instances_failed ++ numbered (codes ", running") c.instances_running ++ line_end

-- its deliveries and ends, by their answers
abbrev pub answers_fact : List ℕ → MonitorCounts → List ℕ
answers_fact name c =
    name ++ numbered (codes ": answers: passed") c.passed ++ numbered (codes ", started") c.started ++ numbered (codes ", kept") c.kept
    ++ numbered (codes ", failed") c.failed ++ numbered (codes ", ended") c.ended ++ line_end

-- ---- of an automaton

-- a state, which has the row behind its index: the rows are counted from 1 on
abbrev pub state_fact : List ℕ → MonitorCounts → List (List ℕ) → ℕ → List ℕ
state_fact name c states state = name ++ codes ": state " ++ slice_index_or states state [] ++ numbered (codes ": reached") (slice_index c.rows.items state) ++ line_end

-- an edge by its names
abbrev pub edge_text : Machine → Edge → List ℕ
edge_text a edge = slice_index_or a.states edge.from [] ++ codes " " ++ slice_index_or a.events edge.event [] ++ codes " " ++ slice_index_or a.states edge.to []

-- the edge at an index of the automaton's
abbrev pub place_edge : Machine → ℕ → Edge
place_edge a place = slice_index_or a.edges place (record { from = 0; event = 0; to = 0 })

abbrev pub edge_fact : List ℕ → MonitorCounts → Machine → ℕ → List ℕ
edge_fact name c a place = name ++ codes ": edge " ++ edge_text a (place_edge a place) ++ numbered (codes ": taken") (slice_index c.edges.items place) ++ line_end

-- ---- of a rule

-- the row behind an index, up to its labels
abbrev pub row_front : List ℕ → ℕ → List ℕ
row_front name k = name ++ numbered (codes ": row") (k + 1) ++ codes " ["

-- the row behind an index
abbrev pub row_fact : List ℕ → MonitorCounts → List (List ℕ) → Table → ℕ → List ℕ
row_fact name c atoms t k = row_front name k ++ labels_text atoms (node_in t (k + 1)).labels ++ numbered (codes "]: reached") (slice_index c.rows.items k) ++ line_end

-- an atom
abbrev pub atom_fact : List ℕ → MonitorCounts → List (List ℕ) → ℕ → List ℕ
atom_fact name c atoms atom =
    name ++ codes ": atom " ++ slice_index_or atoms atom [] ++ numbered (codes ": letters") c.letters ++ numbered (codes ", true") (slice_index c.atoms.items atom) ++ line_end

-- ---- of either

-- the table of the monitor at an index
abbrev pub table_at : List Table → ℕ → Table
table_at tables place = slice_index_or tables place (of_labels [])

-- how many there are of it: of an automaton states and edges, of a rule rows and atoms
abbrev pub share_size : Share → Spec → MonitorCounts → ℕ
share_size States (spec.Da a) c = length a.states
share_size Edges (spec.Da a) c = length a.edges
share_size Rows (spec.Ltl rule) c = length c.rows.items
share_size Atoms (spec.Ltl rule) c = length rule.atoms
share_size _ _ c = 0

-- one of them
abbrev pub share_fact : List ℕ → MonitorCounts → Table → Spec → Share → ℕ → List ℕ
share_fact name c t (spec.Da a) States place = state_fact name c a.states place
share_fact name c t (spec.Da a) Edges place = edge_fact name c a place
share_fact name c t (spec.Ltl rule) Rows place = row_fact name c rule.atoms t place
share_fact name c t (spec.Ltl rule) Atoms place = atom_fact name c rule.atoms place
share_fact name c t _ _ place = []

-- all of them
abbrev pub share_facts : List ℕ → MonitorCounts → Table → Spec → Share → List ℕ
share_facts name c t spec share = flat_map (share_fact name c t spec share) (places (share_size share spec c))

-- states and edges of an automaton, rows and atoms of a rule
unfoldable pub reached_facts : List ℕ → MonitorCounts → Table → Spec → List ℕ
reached_facts name c t spec = share_facts name c t spec States ++ share_facts name c t spec Edges ++ share_facts name c t spec Rows ++ share_facts name c t spec Atoms
