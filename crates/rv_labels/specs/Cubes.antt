-- Cubes, and the lists of them that say where a label is true and where it is not.
use Rattle.std.specs.Prelude.{ℕ, ◌^◌, ◌==◌, Bool, true, false, not, bit_and, bit_or, List, [], ◌∷◌, ◌++◌, map, filter, flat_map}
use Rattle.rv_model.specs.Ltl.{Ltl, True, Atom, Not, And, Or, Imply, Equivalent}
use Rattle.rv_labels.specs.declared.cube.Cube.{Cube}

-- the cube of one atom: it is needed at true, and forbidden at false
abbrev pub cube_of : ℕ → Bool → Cube
cube_of a true = record { need = 2 ^ a; forbid = 0 }
cube_of a false = record { need = 0; forbid = 2 ^ a }

-- what both ask
abbrev pub union_of : Cube → Cube → Cube
union_of c d = record { need = bit_or c.need d.need; forbid = bit_or c.forbid d.forbid }

-- no atom is both needed and forbidden
abbrev pub is_possible : Cube → Bool
is_possible c = bit_and c.need c.forbid == 0

-- the unions of the cubes with this one, without those that no letter meets
abbrev pub unions_with : List Cube → Cube → List Cube
unions_with right c = filter is_possible (map (union_of c) right)

-- the unions of a cube of the left list and one of the right list, the left one outermost, without those that no letter meets
abbrev pub cube_unions : List Cube → List Cube → List Cube
cube_unions left right = flat_map (unions_with right) left

-- the cube that every letter meets, or none
abbrev pub whole_if : Bool → List Cube
whole_if true = record { need = 0; forbid = 0 } ∷ []
whole_if false = []

-- the cubes of a label at true, and of its negation at false; a temporal operator, which no label has, counts as false
abbrev pub cubes_of : Ltl → Bool → List Cube
cubes_of True sign = whole_if sign
cubes_of (Atom a) sign = cube_of a sign ∷ []
cubes_of (Not f) sign = cubes_of f (not sign)
cubes_of (Or f g) true = cubes_of f true ++ cubes_of g true
cubes_of (Or f g) false = cube_unions (cubes_of f false) (cubes_of g false)
cubes_of (And f g) true = cube_unions (cubes_of f true) (cubes_of g true)
cubes_of (And f g) false = cubes_of f false ++ cubes_of g false
cubes_of (Imply f g) true = cubes_of f false ++ cubes_of g true
cubes_of (Imply f g) false = cube_unions (cubes_of f true) (cubes_of g false)
cubes_of (Equivalent f g) true = cube_unions (cubes_of f true) (cubes_of g true) ++ cube_unions (cubes_of f false) (cubes_of g false)
cubes_of (Equivalent f g) false = cube_unions (cubes_of f true) (cubes_of g false) ++ cube_unions (cubes_of f false) (cubes_of g true)
cubes_of _ sign = whole_if (not sign)
