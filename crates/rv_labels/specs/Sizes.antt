-- How many cubes a label has by the way they are made, with those that no letter meets.
use Rattle.std.specs.Prelude.{ℕ, ◌+◌, ◌*◌, Bool, true, false, not, nat_lt, List, Option, Some, None, if◌then◌else◌}
use Rattle.rv_model.specs.Numbers.{one_if}
use Rattle.rv_model.specs.Ltl.{Ltl, True, Atom, Not, And, Or, Imply, Equivalent}
use Rattle.rv_labels.specs.declared.cube.Cube.{Cube}
use Rattle.rv_labels.specs.declared.sizes.TheConstants.{MOST_CUBES}
use Rattle.rv_labels.specs.Cubes.{cubes_of}

-- the size of a label's list at true, and of its negation's at false: joined lists multiply, others add
abbrev pub size_of : Ltl → Bool → ℕ
size_of True sign = one_if sign
size_of (Atom a) sign = 1
size_of (Not f) sign = size_of f (not sign)
size_of (Or f g) true = size_of f true + size_of g true
size_of (Or f g) false = size_of f false * size_of g false
size_of (And f g) true = size_of f true * size_of g true
size_of (And f g) false = size_of f false + size_of g false
size_of (Imply f g) true = size_of f false + size_of g true
size_of (Imply f g) false = size_of f true * size_of g false
size_of (Equivalent f g) true = size_of f true * size_of g true + size_of f false * size_of g false
size_of (Equivalent f g) false = size_of f true * size_of g false + size_of f false * size_of g true
size_of _ sign = one_if (not sign)

-- the label's cubes, unless their size is over the most
abbrev pub cubes_if_few : Ltl → Option (List Cube)
cubes_if_few f = if nat_lt MOST_CUBES (size_of f true) then None else Some (cubes_of f true)
