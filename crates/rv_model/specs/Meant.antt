-- Laws: the table of an automaton means it, and who judges by a table judges by what the table means.
use Rattle.rv_model.specs.declared.formula.Spec.{Spec}
use Rattle.rv_model.specs.declared.formula.Spec.TheVariants.{Da}
use Rattle.rv_model.specs.Machine.{Machine}
use Rattle.rv_model.specs.WellFormed.{IsAutomaton}
use Rattle.rv_model.specs.Table.{Table, table_of}
use Rattle.rv_model.specs.Judging.{Judge, Means, JudgesByTable, JudgesBySpec}

-- a law: the table of an automaton means it
abbrev pub TablesMean : Type 0
TablesMean = (a : Machine) → IsAutomaton a → Means (table_of a) (Da a)

-- a law: the list of no letters is good by every specification and reaches the start row, so what a table means decides all
abbrev pub TablesJudge : Type 0
TablesJudge = (spec : Spec) (t : Table) (j : Judge) → Means t spec → JudgesByTable t j → JudgesBySpec spec t j
