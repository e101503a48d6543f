-- A law: every specification has a judge, with every table.
use Rattle.rv_model.specs.declared.formula.Spec.{Spec}
use Rattle.rv_model.specs.Judging.{Judge, JudgesBySpec}
use Rattle.rv_model.specs.Stepping.{IsTable}
use Rattle.rv_model.specs.Table.{Table}

-- so what is said of all judges by a specification is said of one
abbrev pub EverySpecIsJudged : Type 0
EverySpecIsJudged = (spec : Spec) (t : Table) → IsTable t → (j : Judge) × JudgesBySpec spec t j
