-- What the reading for a verdict comes to.
use Rattle.std.specs.Prelude.{◌≡◌, ℕ, Option, Some, Result, Ok, Err}
use Rattle.rv_io.specs.Files.{Files}
use Rattle.rv_bind.specs.declared.fault.BindFault.{BindFault}
use Rattle.rv_bind.specs.FilePieces.{FaultRefines}
use Rattle.rv_bind.specs.Outcomes.{Outcome, accepted}
use Rattle.rv_bind.specs.Possible.{MayFault}
use Rattle.rv_check.specs.declared.reading.Verdict.{Verdict}
use Rattle.rv_tool.specs.Checks.{CheckedValue, IsJudged}

-- what was read gives a verdict that holds, or it is the fault that the files come to
abbrev pub JudgesRead : Option Files → ℕ → ℕ → Result Verdict BindFault → (Files → Outcome CheckedValue) → Type 0
JudgesRead told before now (Ok verdict) outcome = (files : Files) → told ≡ Some files → (c : CheckedValue) × (outcome files ≡ accepted c) × IsJudged c verdict
JudgesRead told before now (Err fault) outcome = FaultRefines told before now fault outcome

-- what was read gives a verdict that holds of what may be checked, or it is a fault that may come
abbrev pub JudgesSome : Result Verdict BindFault → (Outcome CheckedValue → Type 0) → Type 0
JudgesSome (Ok verdict) May = (c : CheckedValue) × May (accepted c) × IsJudged c verdict
JudgesSome (Err fault) May = MayFault fault May
