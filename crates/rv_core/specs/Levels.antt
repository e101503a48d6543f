-- A law: what a formula's hit makes of the levels, and its letter, on the bits of a word's low half.
use Rattle.std.specs.Prelude.{ℕ, bit_and, bit_or}
use Rattle.std.specs.Int.{bit_not, w32}

-- the levels without `off`, and then with `on`
abbrev pub new_levels : ℕ → ℕ → ℕ → ℕ
new_levels low on off = bit_or (bit_and low (bit_not w32 off)) on
