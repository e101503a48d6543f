-- The line of a monitor, and one record more.
use Rattle.std.specs.Prelude.{ℕ, List, [], ◌∷◌, ◌++◌}
use Rattle.rv_model.specs.declared.record.Record.{Record}
use Rattle.rv_model.specs.declared.record.Task.{Task}
use Rattle.rv_model.specs.Reports.{Reported, count_text}
use Rattle.rv_report.specs.declared.summary.Summary.{Summary}
use Rattle.rv_report.specs.declared.tally.Tally.{Tally}
use Rattle.rv_report.specs.Tallies.{AreTallies, IsWholeTally, tally_at}

-- the line of a monitor that is shown so, by its numbers
abbrev pub count_line : List ℕ → Summary → List ℕ
count_line shown s = count_text shown s.instances s.deliveries s.failures s.stopped

-- the tallies of any records become those of these and one more
abbrev pub CountsRecord : Record → List Tally → List Tally → Type 0
CountsRecord r old new = (monitors : List Reported) (tasks : List Task) (rs : List Record) → AreTallies monitors tasks rs old → AreTallies monitors tasks (rs ++ r ∷ []) new

-- the tallies of any records, whatever monitors they have
abbrev pub AreWhole : List Record → List Tally → Type 0
AreWhole rs ts = (monitor : ℕ) → IsWholeTally monitor rs (tally_at ts monitor)

-- the tallies of any records become those of these and of the records of other tallies
abbrev pub JoinsTallies : List Tally → List Tally → List Tally → Type 0
JoinsTallies others old new = (monitors : List Reported) (tasks : List Task) (rs more : List Record) → AreTallies monitors tasks rs old → AreWhole more others → AreTallies monitors tasks (rs ++ more) new
