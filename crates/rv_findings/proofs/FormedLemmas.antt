-- What well-formed bindings have.
use Rattle.std.proofs.Common.{◌≡◌, suc, ◌≤◌, List, [], ◌∷◌, length, refl, sym, ap, ◌∙◌, arith}
use Rattle.std.proofs.lemmas.List.{length-map}
use Rattle.rv_model.specs.Table.{Table}
use Rattle.rv_bind.specs.Values.{BoundValue}
use Rattle.rv_bind.specs.WellFormed.{HaveTables, IsWellFormed, MonitorKind, kind_of, kinds_of}

-- as many tables as kinds
tables_of_kinds : (kinds : List MonitorKind) (tables : List Table) → HaveTables kinds tables → length kinds ≡ length tables
tables_of_kinds [] [] have = refl
tables_of_kinds [] (t ∷ tables) have = absurd have
tables_of_kinds (kind ∷ kinds) [] have = absurd have
tables_of_kinds (kind ∷ kinds) (t ∷ tables) have = ap suc (tables_of_kinds kinds tables have.1)

-- each monitor has its table
pub tables_enough : (b : BoundValue) → IsWellFormed b → length b.monitors ≤ length b.tables
tables_enough b formed =
    let same : length b.monitors ≡ length b.tables = sym (length-map b.monitors kind_of) ∙ tables_of_kinds (kinds_of b.monitors) b.tables formed.tables in
    omega arith
