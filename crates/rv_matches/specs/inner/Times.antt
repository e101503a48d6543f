-- The digits of timestamps, place by place.
use Rattle.std.specs.Prelude.{ℕ, ◌+◌, ◌-◌, List, nat_lt, slice_index, if◌then◌else◌}
use Rattle.rv_matches.specs.declared.words.TheConstants.{LONGEST}
use Rattle.rv_matches.specs.Times.{digits_in, point_in}

-- the digit at one of so many places before the point and as many behind it
unfoldable pub digit_at : List ℕ → ℕ → ℕ
digit_at stamp place = if nat_lt (point_in stamp + place) LONGEST then 0 else slice_index (digits_in stamp) (point_in stamp + place - LONGEST) - 48
