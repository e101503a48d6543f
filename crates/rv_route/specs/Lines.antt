-- Lines that lie in a text.
use Rattle.std.specs.Prelude.{ℕ, ◌≤◌, List, length}
use Rattle.rv_trace.specs.Lines.{LiesIn}
use Rattle.rv_trace.specs.declared.line.TraceLine.{TraceLine}

-- a line whose pieces lie in the text, of a CPU that there is
pub record IsRoutable (text : List ℕ) (line : TraceLine) : Type 0 where
  pub size : length text ≤ 4294967295
  pub lies : LiesIn text line
