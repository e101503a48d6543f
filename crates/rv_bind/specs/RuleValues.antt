-- A rule of the bindings as contracts see it.
use Rattle.std.specs.Prelude.{ℕ, List, Option}
use Rattle.rv_model.specs.declared.hit.Hit.{Hit}
use Rattle.rv_bind.specs.declared.bindings.Test.{Test}

-- which lines hit an instance of the monitor at an index, and how; its fields are those of `On`
pub record OnValue : Type 0 where
  pub monitor : ℕ
  pub event : List ℕ
  pub by : Option (List ℕ)
  pub tests : List Test
  pub hit : Hit
