-- The names of the trace that come nearest to one of the bindings.
use Rattle.std.specs.Prelude.{ℕ, ◌+◌, ◌/◌, min, ◌==◌, nat_le, nat_eq, List, [], length, map, filter, flat_map, take, if◌then◌else◌}
use Rattle.strsim.specs.Edits.{levenshtein_row}
use Rattle.rv_model.specs.Numbers.{list_of}
use Rattle.rv_text.specs.Pieces.{pieces_by}
use Rattle.rv_matches.specs.declared.near.Near.{Near}
use Rattle.rv_matches.specs.declared.near.TheConstants.{FARTHEST, MOST_NEAR}
use Rattle.rv_matches.specs.declared.words.TheConstants.{LONGEST}
use Rattle.rv_matches.specs.Words.{Counted, last_of}

-- how many bytes have to be put in, taken out or replaced to make the one the other
abbrev pub edits : List ℕ → List ℕ → ℕ
edits one other = levenshtein_row nat_eq one other (length other)

-- what stands behind the last colon, as in SYSTEM:EVENT
abbrev pub own_name : List ℕ → List ℕ
own_name name = last_of (pieces_by 58 name)

-- the least number of edits, where of each name its own part may stand for the whole
abbrev pub distance : List ℕ → List ℕ → ℕ
distance one other = min (min (edits one other) (edits one (own_name other))) (min (edits (own_name one) other) (edits (own_name one) (own_name other)))

-- a name, the number of its lines, and its distance
abbrev pub near : List ℕ → Counted → Near
near event name = record { name = name.0; lines = name.1; distance = distance event name.0 }

-- the farthest that is near to an event: a third of the length of its own name, and no more than the limit
abbrev pub reach : List ℕ → ℕ
reach event = min (length (own_name event) / 3) FARTHEST

-- the names at this distance, by first appearance
abbrev pub nears_at : List ℕ → List Counted → ℕ → List Near
nears_at event names far = filter (λ n. n.distance == far) (map (near event) names)

-- the nearest names, of equal distance by first appearance
abbrev pub nearest : List ℕ → List Counted → List Near
nearest event names = if nat_le (length event) LONGEST then take MOST_NEAR (flat_map (nears_at event names) (list_of (λ far. far) (reach event + 1))) else []
