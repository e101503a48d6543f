-- What is taken from the rows is their cells.
use Rattle.std.proofs.Common.{◌≡◌, ℕ, true, List, [], ◌∷◌, ◌++◌, length, drop, refl, sym, ap, ◌∙◌, arith, append_assoc}
use Rattle.std.specs.Prelude.{codes}
use Rattle.std.specs.List.{AllByRecursion, flat_map, zip}
use Rattle.rv_dot.specs.Gathered.{Arc}
use Rattle.rv_header.specs.HeaderText.{row_text}
use Rattle.rv_header.specs.inner.Taking.{pieces, members_in, cell_arcs, row_arcs, rows_arcs}
use Rattle.rv_header.proofs.Cuts.{lacks, simple, cut, uncut, both_lack, all_lack, simple_lacks}
use Rattle.rv_header.proofs.Listed.{later, members_back}

-- a list behind its opening brace
abbrev inside : List (List ℕ) → List ℕ
inside [] = codes " }"
inside (x ∷ xs) = 32 ∷ (x ++ flat_map later xs ++ codes " }")

-- such a list lacks an opening brace
inside_lacks : (row : List (List ℕ)) → AllByRecursion (λ n. simple n ≡ true) row → lacks 123 (inside row) ≡ true
inside_lacks [] all = refl
inside_lacks (x ∷ xs) all =
    both_lack 123 (x ++ flat_map later xs) (codes " }") (both_lack 123 x (flat_map later xs) (simple_lacks 123 refl x all.0) (all_lack 123 later xs (go xs all.1))) refl
  where
    go : (ys : List (List ℕ)) → AllByRecursion (λ n. simple n ≡ true) ys → AllByRecursion (λ y. lacks 123 (later y) ≡ true) ys
    go [] h = tt
    go (y ∷ ys) h = (simple_lacks 123 refl y h.0, go ys h.1)

-- pairs stop where the first list does
zip_more : (xs ys more : List (List ℕ)) → length xs ≡ length ys → zip xs (ys ++ more) ≡ zip xs ys
zip_more [] ys more h = refl
zip_more (x ∷ xs) [] more h = absurd (omega (arith, h))
zip_more (x ∷ xs) (y ∷ ys) more h = ap (λ (zs : List (List ℕ × List ℕ)). (x, y) ∷ zs) (zip_more xs ys more (omega (arith, h)))

-- a row has a cell for each event
abbrev pub IsRow : List (List ℕ) → List (List ℕ) → Type 0
IsRow events row = AllByRecursion (λ n. simple n ≡ true) row × (length events ≡ length row)

-- the cells of a row
row_back : (name : List ℕ) (events : List (List ℕ)) (from : List ℕ) (row : List (List ℕ)) (tail : List ℕ) → IsRow events row → row_arcs name events from (members_in (inside row ++ 44 ∷ tail)) ≡ row_arcs name events from row
row_back name [] from row tail h = refl
row_back name (v ∷ events) from [] tail h = absurd (omega (arith, h.1))
row_back name (v ∷ events) from (x ∷ xs) tail h =
    let found = members_back x xs tail h.0.0 h.0.1 in
    let text : inside (x ∷ xs) ++ 44 ∷ tail ≡ 32 ∷ (x ++ flat_map later xs ++ (codes " }" ++ 44 ∷ tail)) = ap (λ (t : List ℕ). 32 ∷ t) (append_assoc (x ++ flat_map later xs) (codes " }") (44 ∷ tail)) in
    ap (λ (t : List ℕ). row_arcs name (v ∷ events) from (members_in t)) text ∙ ap (λ (ms : List (List ℕ)). row_arcs name (v ∷ events) from ms) found.1
    ∙ ap (λ (zs : List (List ℕ × List ℕ)). flat_map (λ (p : List ℕ × List ℕ). cell_arcs name from p.0 p.1) zs) (zip_more (v ∷ events) (x ∷ xs) found.0 h.1)

-- a row, apart
apart_row : (front : List ℕ) (row : List (List ℕ)) (rest end : List ℕ) → front ++ ((row_text row ++ rest) ++ end) ≡ (front ++ codes "\t\t") ++ 123 ∷ ((inside row ++ codes ",\n") ++ (rest ++ end))
apart_row front [] rest end = simp append_assoc
apart_row front (x ∷ xs) rest end = go (x ++ flat_map later xs)
  where
    go : (t : List ℕ) → front ++ (((9 ∷ 9 ∷ 123 ∷ 32 ∷ (t ++ codes " }" ++ codes ",\n")) ++ rest) ++ end) ≡ (front ++ codes "\t\t") ++ 123 ∷ ((32 ∷ (t ++ codes " }") ++ codes ",\n") ++ (rest ++ end))
    go t = simp append_assoc

-- the pieces begin with the front, up to the first row
heads : (front : List ℕ) (rows : List (List (List ℕ))) (end : List ℕ) → lacks 123 front ≡ true → lacks 123 end ≡ true
    → (more : List ℕ) × (pieces 123 (front ++ (flat_map row_text rows ++ end)) ≡ (front ++ more) ∷ drop 1 (pieces 123 (front ++ (flat_map row_text rows ++ end))))
heads front [] end h k = let one : pieces 123 (front ++ end) ≡ (front ++ end) ∷ [] = uncut 123 (front ++ end) (both_lack 123 front end h k) in (end, rw one refl)
heads front (row ∷ rows) end h k =
    let one : pieces 123 (front ++ (flat_map row_text (row ∷ rows) ++ end)) ≡ (front ++ codes "\t\t") ∷ pieces 123 ((inside row ++ codes ",\n") ++ (flat_map row_text rows ++ end)) =
    ap (pieces 123) (apart_row front row (flat_map row_text rows) end) ∙ cut 123 (front ++ codes "\t\t") ((inside row ++ codes ",\n") ++ (flat_map row_text rows ++ end)) (both_lack 123 front (codes "\t\t") h refl) in
    (codes "\t\t", one ∙ ap (λ (ps : List (List ℕ)). (front ++ codes "\t\t") ∷ drop 1 ps) (sym one))

-- nothing beside no rows
no_rows : (name : List ℕ) (events states : List (List ℕ)) → rows_arcs name events states [] ≡ []
no_rows name events [] = refl
no_rows name events (s ∷ states) = refl

-- the arcs of the rows that are taken are those of the rows
pub rows_back : (name : List ℕ) (events states : List (List ℕ)) (front : List ℕ) (rows : List (List (List ℕ))) (end : List ℕ) → lacks 123 front ≡ true → lacks 123 end ≡ true → AllByRecursion (IsRow events) rows
    → rows_arcs name events states (drop 1 (pieces 123 (front ++ (flat_map row_text rows ++ end)))) ≡ flat_map (λ (p : List ℕ × List (List ℕ)). row_arcs name events p.0 p.1) (zip states rows)
rows_back name events [] front rows end h k all = refl
rows_back name events (s ∷ states) front [] end h k all =
    ap (λ (ps : List (List ℕ)). rows_arcs name events (s ∷ states) (drop 1 ps)) (uncut 123 (front ++ end) (both_lack 123 front end h k))
rows_back name events (s ∷ states) front (row ∷ rows) end h k all =
    let rest : List ℕ = flat_map row_text rows ++ end in
    let next : List ℕ = inside row ++ codes ",\n" in
    let lacked : lacks 123 next ≡ true = both_lack 123 (inside row) (codes ",\n") (inside_lacks row all.0.0) refl in
    let one : pieces 123 (front ++ (flat_map row_text (row ∷ rows) ++ end)) ≡ (front ++ codes "\t\t") ∷ pieces 123 (next ++ rest) =
    ap (pieces 123) (apart_row front row (flat_map row_text rows) end) ∙ cut 123 (front ++ codes "\t\t") (next ++ rest) (both_lack 123 front (codes "\t\t") h refl) in
    let head = heads next rows end lacked k in
    let text : next ++ head.0 ≡ inside row ++ 44 ∷ (10 ∷ head.0) = append_assoc (inside row) (codes ",\n") head.0 in
    let more : List Arc = rows_arcs name events states (drop 1 (pieces 123 (next ++ rest))) in
    ap (λ (ps : List (List ℕ)). rows_arcs name events (s ∷ states) (drop 1 ps)) one
    ∙ ap (λ (ps : List (List ℕ)). rows_arcs name events (s ∷ states) ps) head.1
    ∙ ap (λ (t : List ℕ). row_arcs name events s (members_in t) ++ more) text
    ∙ ap (λ (a : List Arc). a ++ more) (row_back name events s row (10 ∷ head.0) all.0)
    ∙ ap (λ (a : List Arc). row_arcs name events s row ++ a) (rows_back name events states next rows end lacked k all.1)
