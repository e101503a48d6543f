-- Bytes of two texts that are looked at together, place by place.
use Rattle.std.specs.Prelude.{ℕ, Bool, not, ◌&&◌, ◌||◌, nat_eq, nat_lt}
use Rattle.rv_text.specs.Places.{is_digit}

-- the bytes are the same, or both are digits; and they are no blanks, as all that is less than a point counts
abbrev pub is_alike : ℕ → ℕ → Bool
is_alike a b = not (nat_lt b 46) && (nat_eq a b || (is_digit a && is_digit b))
