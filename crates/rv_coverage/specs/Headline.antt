-- What the top call promises: what it puts and its status tell what the one history of the run has watched, or say why there is none.
use Rattle.std.specs.Prelude.{◌≡◌, ℕ, List, Option, Some, None}
use Rattle.rv_text.specs.declared.numbers.TheConstants.{USAGE}
use Rattle.rv_io.specs.Files.{Files}
use Rattle.rv_model.specs.declared.entry.Entry.{Entry}
use Rattle.rv_model.specs.Cuts.{AtEach}
use Rattle.rv_model.specs.Histories.{AreJudges, IsNoStop, IsOneHistory}
use Rattle.rv_model.specs.Judging.{Judge}
use Rattle.rv_bind.specs.BoundViews.{bound_value}
use Rattle.rv_facts.specs.BindingLines.{AreLinesOf}
use Rattle.rv_findings.specs.Whole.{coverage_status, coverage_text}
use Rattle.rv_findings.specs.declared.coverage.Told.{Told}
use Rattle.rv_tool.specs.Calls.{Call, CountsNone}
use Rattle.rv_tool.specs.Headline.{Ending, PrintsSome, PrintsText}
use Rattle.rv_tool.specs.Inputs.{InputValue, run_of}
use Rattle.rv_tool.specs.Opaque.{EndsOnSome}
use Rattle.rv_tool.specs.Output.{refusal_text}
use Rattle.rv_tool.specs.Runs.{AnswersBy}
use Rattle.rv_counts.specs.Counts.{JudgedRun, TellsRun}
use Rattle.rv_coverage.specs.Texts.{MayTexts, RunTexts, texts_in}
use Rattle.rv_coverage.specs.Words.{CoverageCommandValue}

-- the run of an input, by these judges and with this history
abbrev pub judged_run : InputValue → List Judge → List Entry → JudgedRun
judged_run i judges h = record { bound = i.bound; tasks = i.routed.tasks; input = run_of i; judges = judges; history = h }

-- what is told of: the two names, the bindings and on which lines of their text they stand, and the numbers of the run
pub record IsToldOf (command : CoverageCommandValue) (texts : RunTexts) (run : JudgedRun) (told : Told) : Type 0 where
  pub bindings : told.bindings.now ≡ command.bindings
  pub trace : told.trace.now ≡ command.trace
  pub lines : AreLinesOf texts.bindings told.lines.now
  pub bound : bound_value told.bound.now ≡ texts.input.bound
  pub counts : TellsRun run texts.trace told.counts.now

-- by some judges of the specifications this is a history of one thread, with no stop; no other one is of the input, by whichever judges; and the text and the status are those of all that is told of it
pub record IsCoverage (command : CoverageCommandValue) (texts : RunTexts) (h : List Entry) (text : List ℕ) (status : ℕ) : Type 0 where
  pub judges : List Judge
  pub are_judges : AreJudges (run_of texts.input).specs (run_of texts.input).setup.tables judges
  pub history : IsOneHistory (run_of texts.input) judges h
  pub no_stop : AtEach (λ before e. IsNoStop e.act) h
  pub only : (others : List Judge) (k : List Entry) → AreJudges (run_of texts.input).specs (run_of texts.input).setup.tables others → IsOneHistory (run_of texts.input) others k → h ≡ k
  pub told : Told
  pub is_told : IsToldOf command texts (judged_run texts.input judges h) told
  pub text_is : text ≡ coverage_text command.edges told
  pub status_is : status ≡ coverage_status command.edges told

-- what the two files come to is told
abbrev pub Tells : CoverageCommandValue → RunTexts → Ending
Tells command texts = PrintsSome (IsCoverage command texts)

-- what the call answers on a store that tells its files
abbrev pub AnswersCoverage : Option CoverageCommandValue → Files → Call → Type 0
AnswersCoverage None files c = CountsNone c × PrintsText (refusal_text None (record { number = USAGE; line = 0 })) 2 c.end
AnswersCoverage (Some command) files c = AnswersBy (Tells command) (λ files. texts_in files command.bindings command.trace) files c

-- the same on one that does not, by what some text of each file comes to
abbrev pub AnswersCoverageOpaque : Option CoverageCommandValue → Call → Type 0
AnswersCoverageOpaque None c = CountsNone c × PrintsText (refusal_text None (record { number = USAGE; line = 0 })) 2 c.end
AnswersCoverageOpaque (Some command) c = EndsOnSome (MayTexts command.bindings command.trace) (Tells command) c
