-- Names in C tables: the header's own, and those of states and events that cannot stand there (this project's choice).
use Rattle.std.specs.Prelude.{ℕ, Bool, false, ◌&&◌, ◌||◌, ◌==◌, nat_le, List, [], ◌∷◌, length, codes}
use Rattle.std.specs.List.{list_all, list_any}
use Rattle.std.specs.Str.{bytes_eq}
use Rattle.rv_model.specs.Machine.{Machine}
use Rattle.rv_model.specs.WellFormed.{is_between}
use Rattle.rv_dot.specs.Sets.{stands_in}

-- a lower-case letter, a digit or `_`
abbrev pub is_header_byte : ℕ → Bool
is_header_byte b = is_between 97 122 b || is_between 48 57 b || b == 95

-- 1 to 32 of these
abbrev pub is_header_name : List ℕ → Bool
is_header_name name = nat_le 1 (length name) && nat_le (length name) 32 && list_all is_header_byte name

-- the first byte is a digit
abbrev pub begins_with_digit : List ℕ → Bool
begins_with_digit [] = false
begins_with_digit (b ∷ name) = is_between 48 57 b

-- a name that the tables have for themselves
abbrev pub is_reserved : List ℕ → Bool
is_reserved name = bytes_eq name (codes "state_max") || bytes_eq name (codes "event_max") || bytes_eq name (codes "automaton")

-- no state and no event of tables has such a name
unfoldable pub is_unfit : List ℕ → Bool
is_unfit name = begins_with_digit name || is_reserved name

-- a dot stands in the name
abbrev pub has_dot : List ℕ → Bool
has_dot name = list_any (λ b. b == 46) name

-- no state of tables has such a name
unfoldable pub is_unfit_state : List ℕ → Bool
is_unfit_state name = has_dot name || is_unfit name

-- the automaton has no tables: for the name of a state or of an event, or because a state and an event have one name
unfoldable pub has_no_tables : Machine → Bool
has_no_tables a = list_any is_unfit_state a.states || list_any is_unfit a.events || list_any (stands_in a.events) a.states
