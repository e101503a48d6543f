-- One step's flag.
use Rattle.std.specs.Prelude.{Bool, true, List, slice_set, Some, None}
use Rattle.rv_ltl.specs.declared.token.CodeStep.{CodeStep}
use Rattle.rv_ltl.specs.declared.token.CodeStep.TheVariants as steps
use Rattle.rv_ltl.specs.File.{Def}
use Rattle.rv_ltl.specs.inner.Weights.{index_of}

-- the flags with that of the definition that the step names
abbrev pub flagged : List Def → CodeStep → List Bool → List Bool
flagged ds steps.True fs = fs
flagged ds steps.False fs = fs
flagged ds (steps.Name x) fs = elim (index_of ds x) [ Some i ↦ slice_set fs i true | None ↦ fs ]
flagged ds (steps.Unary op) fs = fs
flagged ds (steps.Binary op) fs = fs
