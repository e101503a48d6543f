-- How often something is so at the entries of a history, by the entries before each, the newest first.
use Rattle.std.specs.Prelude.{ℕ, ◌+◌, Bool, ◌||◌, false, List, [], ◌∷◌, if◌then◌else◌}
use Rattle.rv_model.specs.declared.entry.Entry.{Entry}

-- at how many of the entries behind a past
abbrev pub count_behind : (List Entry → Entry → Bool) → List Entry → List Entry → ℕ
count_behind holds past [] = 0
count_behind holds past (e ∷ h) = (if holds past e then 1 else 0) + count_behind holds (e ∷ past) h

-- at how many entries of the history
abbrev pub count_at : (List Entry → Entry → Bool) → List Entry → ℕ
count_at holds h = count_behind holds [] h

-- at one of the entries behind a past, or at more
abbrev pub any_behind : (List Entry → Entry → Bool) → List Entry → List Entry → Bool
any_behind holds past [] = false
any_behind holds past (e ∷ h) = holds past e || any_behind holds (e ∷ past) h

-- at one entry of the history, or at more
abbrev pub any_at : (List Entry → Entry → Bool) → List Entry → Bool
any_at holds h = any_behind holds [] h
