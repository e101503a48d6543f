-- Timestamps that go back: the latest of some, and those that are before one above them.
use Rattle.std.specs.Prelude.{Bool, nat_lt, List, [], ◌∷◌, ◌++◌, fold, Option, Some, None, if◌then◌else◌}
use Rattle.std.specs.List.{list_any}
pub use Rattle.rv_matches.specs.declared.late.Late.{Late}
pub use Rattle.rv_matches.specs.declared.late.Stamped.{Stamped}
use Rattle.rv_matches.specs.Times.{time_of}

-- the one time is before the other
abbrev pub is_earlier : Stamped → Stamped → Bool
is_earlier a b = nat_lt (time_of a.stamp) (time_of b.stamp)

-- the greatest time, and of equal ones the first
abbrev pub later_of : Option Stamped → Stamped → Option Stamped
later_of None s = Some s
later_of (Some best) s = if is_earlier best s then Some s else Some best

abbrev pub latest_of : List Stamped → Option Stamped
latest_of stamps = fold later_of None stamps

-- the lines whose time is before that of a line above them, each with the latest above it
abbrev pub late_behind : List Stamped → List Stamped → List Late
late_behind before [] = []
late_behind before (s ∷ stamps) =
    (if list_any (is_earlier s) before then record { late = s; latest = latest_of before } ∷ [] else []) ++ late_behind (before ++ s ∷ []) stamps
