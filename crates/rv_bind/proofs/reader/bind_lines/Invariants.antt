use Rattle.std.proofs.Common.{◌≡◌, length}
use Rattle.std.specs.Prelude.{Some}
use Rattle.rv_io.specs.Files.{Files}
use Rattle.rv_text.specs.TextLines.{lines_of}
use Rattle.rv_bind.specs.Bound.{lines_bound, nothing_bound}
use Rattle.rv_bind.specs.BoundViews.{bound_value}
use Rattle.rv_bind.specs.WellFormed.{IsWellFormed}
use Rattle.rv_bind.proofs.PossibleLemmas.{MayRest}
use Rattle.rv_bind.proofs.ReachedLemmas.{Leads}
use Rattle.rv_bind.proofs.reader.bind_lines.Given as goal

abbrev pub invariant-loop-line : goal.invariant-loop-line
invariant-loop-line g l =
    (g.S.Store.files l.store ≡ g.S.Store.files l.initial.store)
    × (g.S.Store.faults l.store ≡ g.S.Store.faults l.initial.store)
    × IsWellFormed (bound_value l.bound)
    × ((files : Files) → g.S.Store.files l.initial.store ≡ Some files → lines_bound files l.here nothing_bound (lines_of l.text) ≡ lines_bound files l.here (bound_value l.bound) l.lines)
    × MayRest l.here (lines_of l.text) (bound_value l.bound) l.lines
    × Leads (g.S.Store.files l.initial.store) l.here (lines_of l.text) (bound_value l.bound) l.lines

abbrev pub decreases-loop-line : goal.decreases-loop-line
decreases-loop-line g l = length l.lines
