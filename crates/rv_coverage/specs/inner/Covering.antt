-- What was read of the two files of a run, and what its report is.
use Rattle.std.specs.Prelude.{◌≡◌, ℕ, List, [], Option, Some}
use Rattle.rv_io.specs.Files.{Files}
use Rattle.rv_bind.specs.Outcomes.{accepted}
use Rattle.rv_text.specs.TextLines.{lines_of}
use Rattle.rv_bind.specs.BoundViews.{bound_value}
use Rattle.rv_bind.specs.Values.{BoundValue}
use Rattle.rv_bind.specs.WellFormed.{IsWellFormed}
use Rattle.rv_facts.specs.BindingLines.{AreLinesOf}
use Rattle.rv_facts.specs.declared.counts.Counts.{Counts}
use Rattle.rv_facts.specs.declared.lines.BindingLines.{BindingLines}
use Rattle.rv_findings.specs.Whole.{coverage_status, coverage_text}
use Rattle.rv_findings.specs.declared.coverage.CoverageReport.{CoverageReport}
use Rattle.rv_findings.specs.declared.coverage.Told.{Told}
use Rattle.rv_route.specs.Routed.{list_value}
use Rattle.rv_stream.specs.Listed.{IsListed}
use Rattle.rv_tool.specs.Inputs.{InputValue}
use Rattle.rv_coverage.specs.declared.covering.Read.{Read}
use Rattle.rv_coverage.specs.Texts.{MayTexts, RunTexts, texts_in}
use Rattle.rv_coverage.specs.Words.{CoverageCommandValue}
use Rattle.rv_counts.specs.Watching.{IsWatch}

-- the input that was read
abbrev pub read_input : Read → InputValue
read_input r = record { bound = bound_value r.bound; routed = list_value r.routed; changes = [] }

-- what was read is that of these texts
pub record IsReadOf (texts : RunTexts) (r : Read) : Type 0 where
  pub input : texts.input ≡ read_input r
  pub lines : AreLinesOf texts.bindings r.lines
  pub watch : IsWatch r.bound.bindings (lines_of texts.trace) r.watch

-- these are texts to which the two names may come, and what they do come to where the store tells its files
pub record ReadsTexts (told : Option Files) (bindings trace : List ℕ) (r : Read) : Type 0 where
  pub texts : RunTexts
  pub are : IsReadOf texts r
  pub may : MayTexts bindings trace (accepted texts)
  pub whole : (files : Files) → told ≡ Some files → texts_in files bindings trace ≡ accepted texts

-- a run can begin with it
pub record MayRun (r : Read) : Type 0 where
  pub formed : IsWellFormed (bound_value r.bound)
  pub listed : IsListed r.bound.bindings r.routed

-- the text and the status are those of what the command asks of the two names, these bindings, on which lines they stand, and these counts
pub record IsReportOf (command : CoverageCommandValue) (lines : BindingLines) (bound : BoundValue) (counts : Counts) (report : CoverageReport) : Type 0 where
  pub told : Told
  pub bindings : told.bindings.now ≡ command.bindings
  pub trace : told.trace.now ≡ command.trace
  pub lines_are : told.lines.now ≡ lines
  pub bound_is : bound_value told.bound.now ≡ bound
  pub counts_are : told.counts.now ≡ counts
  pub text : report.text.items ≡ coverage_text command.edges told
  pub status : report.status ≡ coverage_status command.edges told
