-- Where a letter meets a cube.
use Rattle.std.specs.Prelude.{ℕ, ◌==◌, ◌&&◌, Bool, bit_and, IsTrue}
use Rattle.rv_model.specs.Numbers.{has_bit}
use Rattle.rv_labels.specs.declared.cube.Cube.{Cube}

-- the letter has every atom that the cube needs, and none that it forbids
abbrev pub Meets : ℕ → Cube → Type 0
Meets letter c = ((a : ℕ) → IsTrue (has_bit c.need a) → IsTrue (has_bit letter a)) × ((a : ℕ) → IsTrue (has_bit c.forbid a) → ¬ IsTrue (has_bit letter a))

-- the same, as a test that computes
abbrev pub meets : ℕ → Cube → Bool
meets letter c = (bit_and letter c.need == c.need) && (bit_and letter c.forbid == 0)
