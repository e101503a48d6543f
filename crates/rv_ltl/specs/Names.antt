-- The names of a file: those of its words that are names, ascending by bytes, each once.
use Rattle.std.specs.Prelude.{ℕ, suc, Bool, true, false, ◌&&◌, ◌||◌, nat_eq, nat_lt, if◌then◌else◌, List, [], ◌∷◌, Option, Some, None}
use Rattle.std.specs.List.{fold}
use Rattle.std.specs.Str.{bytes_eq}
use Rattle.std.specs.BTreeSet.{insert_key}
use Rattle.std.specs.Cmp.Lexicographic.{slice_cmp}
use Rattle.std.specs.Ordering.{nat_cmp}
use Rattle.rv_ltl.specs.Parse.{◌>>=◌}

-- an upper-case letter
abbrev pub is_upper : ℕ → Bool
is_upper byte = nat_lt 64 byte && nat_lt byte 91

-- an upper-case letter, a digit or _
abbrev pub is_atom_byte : ℕ → Bool
is_atom_byte byte = is_upper byte || (nat_lt 47 byte && nat_lt byte 58) || nat_eq byte 95

-- each byte may stand in a name
abbrev pub all_name_bytes : List ℕ → Bool
all_name_bytes [] = true
all_name_bytes (byte ∷ bytes) = is_atom_byte byte && all_name_bytes bytes

-- an upper-case letter, and then upper-case letters, digits and _
abbrev pub is_atom_name : List ℕ → Bool
is_atom_name [] = false
is_atom_name (byte ∷ bytes) = is_upper byte && all_name_bytes bytes

-- the names with one more, at its place by bytes, where the piece is a name
abbrev pub with_piece : List (List ℕ) → List ℕ → List (List ℕ)
with_piece names piece = if is_atom_name piece then insert_key (slice_cmp nat_cmp) names piece else names

-- the names among the pieces
unfoldable pub names_of : List (List ℕ) → List (List ℕ)
names_of pieces = fold with_piece [] pieces

-- a word's place among the names
abbrev pub place_in : List (List ℕ) → List ℕ → Option ℕ
place_in [] word = None
place_in (name ∷ names) word = if bytes_eq name word then Some 0 else (place_in names word >>= λ place. Some (suc place))
