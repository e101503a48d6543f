-- The halves of an instance's word (this project's choice: rows in the high half, levels in the low half).
use Rattle.std.specs.Prelude.{ℕ, ◌+◌, ◌*◌, ◌/◌, ◌%◌, ◌^◌}

-- the word of a set of rows and of levels
abbrev pub packed : ℕ → ℕ → ℕ
packed set atoms = set * 2 ^ 32 + atoms

-- the set of rows in a word
abbrev pub set_in : ℕ → ℕ
set_in word = word / 2 ^ 32

-- the levels in a word
abbrev pub atoms_in : ℕ → ℕ
atoms_in word = word % 2 ^ 32
