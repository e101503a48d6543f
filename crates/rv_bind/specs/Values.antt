-- Bindings as contracts see them.
use Rattle.std.specs.Prelude.{ℕ, List}
use Rattle.rv_model.specs.Table.{Table}
use Rattle.rv_bind.specs.declared.bindings.Monitor.{Monitor}
use Rattle.rv_bind.specs.declared.bindings.Item.{Item}
use Rattle.rv_bind.specs.RuleValues.{OnValue}
pub use Rattle.rv_bind.specs.RuleValues.{OnValue}

-- the lists of the bindings, in the order of their lines, and a table for each monitor
pub record BoundValue : Type 0 where
  pub containers : List (List ℕ)
  pub monitors : List Monitor
  pub rules : List OnValue
  pub items : List Item
  pub tables : List Table
