-- Pairs of a set of labels and a set of parts. A set is a number that has a bit for each of its members.
use Rattle.std.specs.Prelude.{ℕ, ◌^◌, Bool, ◌&&◌, ◌==◌, List, map, flat_map, bit_or}
use Rattle.std.specs.List.{list_any}
use Rattle.rv_tableau.specs.declared.pairs.Pair.{Pair}

-- it asks nothing
abbrev pub empty_pair : Pair
empty_pair = record { labels = 0; next = 0 }

-- the label k alone
abbrev pub label_alone : ℕ → Pair
label_alone k = record { labels = 2 ^ k; next = 0 }

-- the part k alone, on the rest
abbrev pub later_alone : ℕ → Pair
later_alone k = record { labels = 0; next = 2 ^ k }

-- what both ask
abbrev pub join : Pair → Pair → Pair
join p q = record { labels = bit_or p.labels q.labels; next = bit_or p.next q.next }

-- all unions of a pair of ps with a pair of qs
abbrev pub unions : List Pair → List Pair → List Pair
unions ps qs = flat_map (λ p. map (join p) qs) ps

-- the pairs with part k added to what they ask of the rest
abbrev pub and_later : ℕ → List Pair → List Pair
and_later k ps = map (join (later_alone k)) ps

-- whether the two are the same
abbrev pub same_pair : Pair → Pair → Bool
same_pair p q = (p.labels == q.labels) && (p.next == q.next)

-- whether it is one of them
abbrev pub is_one_of : Pair → List Pair → Bool
is_one_of p ps = list_any (same_pair p) ps
