-- Timestamps as decimal numbers: digits, and maybe a point and digits behind it.
use Rattle.std.specs.Prelude.{ℕ, ◌+◌, ◌-◌, ◌*◌, ◌^◌, Bool, ◌&&◌, nat_le, List, ◌++◌, length}
use Rattle.rv_text.specs.Decimal.{all_digits, number_of}
use Rattle.rv_text.specs.declared.runs.ByteClass.TheVariants as kinds
use Rattle.rv_text.specs.Places.{between, run_end}
use Rattle.rv_matches.specs.declared.words.TheConstants.{LONGEST}

-- where the digits before the point end
abbrev pub point_in : List ℕ → ℕ
point_in stamp = run_end kinds.Digit stamp 0

-- all digits without the point
abbrev pub digits_in : List ℕ → List ℕ
digits_in stamp = between stamp 0 (point_in stamp) ++ between stamp (point_in stamp + 1) (length stamp)

-- how many digits stand behind the point
abbrev pub decimals_in : List ℕ → ℕ
decimals_in stamp = length stamp - (point_in stamp + 1)

-- a timestamp that is not too long to be compared
abbrev pub is_time : List ℕ → Bool
is_time stamp = nat_le (length stamp) LONGEST && all_digits (digits_in stamp)

-- the time as a number of parts that are so small that no timestamp which is compared has smaller ones
abbrev pub time_of : List ℕ → ℕ
time_of stamp = number_of (digits_in stamp) * 10 ^ (LONGEST - decimals_in stamp)
