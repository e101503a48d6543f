-- Sets of names, as ascending lists with no name twice, and the places of names in a list.
use Rattle.std.specs.Prelude.{ℕ, ◌+◌, Bool, List, [], ◌∷◌, Option, Some, None, if◌then◌else◌}
use Rattle.std.specs.List.{fold}
use Rattle.std.specs.Option.{option_map, is_some, unwrap_or}
use Rattle.std.specs.Str.{bytes_eq}
use Rattle.std.specs.BTreeSet.{insert_key}
use Rattle.std.specs.Cmp.Lexicographic.{slice_cmp}
use Rattle.std.specs.Ordering.{nat_cmp}

-- the names, ascending by bytes, each once
unfoldable pub ascending : List (List ℕ) → List (List ℕ)
ascending names = fold (insert_key (slice_cmp nat_cmp)) [] names

-- the place of the first name that is this one
unfoldable pub place_of : List ℕ → List (List ℕ) → Option ℕ
place_of name [] = None
place_of name (x ∷ names) = if bytes_eq x name then Some 0 else option_map (λ n. n + 1) (place_of name names)

-- the name stands in the list
abbrev pub stands_in : List (List ℕ) → List ℕ → Bool
stands_in names name = is_some (place_of name names)

-- its place, or 0
abbrev pub number_in : List (List ℕ) → List ℕ → ℕ
number_in names name = unwrap_or (place_of name names) 0
