-- Formulas of linear temporal logic as plain data, without the boxes that hold a formula's parts.
use Rattle.std.specs.Prelude.{ℕ}

-- a formula of linear temporal logic
pub data Ltl : Type 0 where
  True False : Ltl
  Atom : ℕ → Ltl
  Not Next Always Eventually : Ltl → Ltl
  And Or Imply Equivalent Until Release WeakUntil : Ltl → Ltl → Ltl
  deriving Discrete as Ltl-discrete
