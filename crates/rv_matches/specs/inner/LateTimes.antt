-- Timestamps that go back, from line to line: what is kept, and whether one more is the latest, or late.
use Rattle.std.specs.Prelude.{◌≡◌, ℕ, Bool, true, false, List, [], ◌∷◌, ◌++◌, Option, Some, None, IfSome}
use Rattle.rv_matches.specs.LateTimes.{Late, Stamped, is_earlier, late_behind, later_of, latest_of}
use Rattle.rv_matches.specs.TextFacts.{FirstOf, first_of}
use Rattle.rv_matches.specs.Times.{is_time}

-- the latest timestamp, and those that are before one above them
pub record TimesValue : Type 0 where
  pub latest : Option Stamped
  pub late : FirstOf Late

abbrev pub times_of : List Stamped → TimesValue
times_of stamps = record { latest = latest_of stamps; late = first_of (late_behind [] stamps) }

-- the bytes of one
abbrev pub stamp_in : Stamped → List ℕ
stamp_in s = s.stamp

-- there is one, and it can be compared
abbrev pub HasTime : Option Stamped → Type 0
HasTime latest = IfSome latest (λ s. is_time s.stamp ≡ true)

-- the timestamp becomes the latest
abbrev pub is_latest : Option Stamped → Stamped → Bool
is_latest None s = true
is_latest (Some best) s = is_earlier best s

-- the timestamp is before the latest
abbrev pub is_late : Option Stamped → Stamped → Bool
is_late None s = false
is_late (Some best) s = is_earlier s best

-- what was told of any timestamps becomes what is told of these and one more
abbrev pub TellsTime : Stamped → TimesValue → TimesValue → Type 0
TellsTime s old new = (stamps : List Stamped) → old ≡ times_of stamps → new ≡ times_of (stamps ++ s ∷ [])

-- the timestamp can be compared, is not late, and the later one is now the latest; or nothing changes
abbrev pub IfTaken : Bool → Stamped → Option Stamped → Option Stamped → Type 0
IfTaken true s old new = (is_time s.stamp ≡ true) × (is_late old s ≡ false) × (new ≡ later_of old s)
IfTaken false s old new = new ≡ old

-- the timestamp can be compared and was told of; or it was not told of, and nothing changes
abbrev pub IfLike : Bool → Stamped → TimesValue → TimesValue → Type 0
IfLike true s old new = (is_time s.stamp ≡ true) × TellsTime s old new
IfLike false s old new = new ≡ old
