-- A part of the program as plain data.
use Rattle.std.specs.Prelude.{List, map}
use Rattle.rv_model.specs.Formulas.{ltl}
use Rattle.rv_nnf.specs.declared.parts.Part.{Part}
use Rattle.rv_nnf.specs.declared.parts.Part.TheVariants.{Label, And, Or, Next, Until, Release}
use Rattle.rv_nnf.specs.Parts.{PartValue}

-- the part without its boxes
abbrev pub part_value : Part → PartValue
part_value (Label f) = PartValue.Label (ltl f)
part_value (And i j) = PartValue.And i j
part_value (Or i j) = PartValue.Or i j
part_value (Next i) = PartValue.Next i
part_value (Until i j) = PartValue.Until i j
part_value (Release i j) = PartValue.Release i j

-- a list of them
abbrev pub part_values : List Part → List PartValue
part_values parts = map part_value parts
