-- The program's bindings as contracts see them.
use Rattle.rv_bind.specs.declared.bindings.Bound.{Bound}
use Rattle.rv_bind.specs.Values.{BoundValue}

-- the bindings and their tables as one plain value
abbrev pub bound_value : Bound → BoundValue
bound_value b = record {
  containers = b.bindings.containers;
  monitors = b.bindings.monitors.items;
  rules = b.bindings.rules.items;
  items = b.bindings.items.items;
  tables = b.tables.items;
}
