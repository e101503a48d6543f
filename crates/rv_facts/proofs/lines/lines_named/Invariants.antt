-- What was read and what the lines that are left give is the whole.
use Rattle.std.proofs.Common.{◌≡◌, ◌++◌, length}
use Rattle.std.specs.Prelude.{filter_map}
use Rattle.rv_text.specs.TextLines.{lines_of}
use Rattle.rv_facts.specs.BindingLines.{named_in}
use Rattle.rv_facts.proofs.lines.lines_named.Given as goal

abbrev pub invariant-lines : goal.invariant-lines
invariant-lines l = l.found.items ++ filter_map (named_in l.first) l.cursor ≡ filter_map (named_in l.first) (lines_of l.text)

abbrev pub decreases-lines : goal.decreases-lines
decreases-lines l = length l.cursor
