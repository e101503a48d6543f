-- What is wrong, as it is printed.
use Rattle.std.specs.Prelude.{ℕ, List, ◌++◌, codes}
use Rattle.rv_react.specs.declared.react.Fault.{Fault}
use Rattle.rv_react.specs.declared.react.Fault.TheVariants.{Da, Ltl}

-- what is wrong
abbrev pub shown_fault : Fault → List ℕ
shown_fault (Da event state) = codes " does not allow event " ++ event ++ codes " on state " ++ state
shown_fault Ltl = codes ": violation detected"
