-- The canonical text, line by line as it is written.
use Rattle.std.proofs.Common.{◌≡◌, ℕ, suc, ◌+◌, ◌<◌, ◌/◌, ◌%◌, Bool, List, [], ◌∷◌, ◌++◌, length, get_or, drop, Some, refl, sym, ap, ◌∙◌, arith, append_assoc, drop-cons}
use Rattle.std.specs.Prelude.{map, codes, slice_get, ◌==◌}
use Rattle.std.specs.List.{flat_map}
use Rattle.std.proofs.lemmas.Option.{get_or_from_slice_get}
use Rattle.rv_model.specs.Machine.{Machine}
use Rattle.rv_dot.specs.Canonical.{State, quoted, marker, head_lines, marker_line, state_line, initial_line, node_line, arc_line, last_line, states_marked, arc_named, dot_text}

-- the name at a place, and those behind it
cut_at : (names : List (List ℕ)) (place : ℕ) (name : List ℕ) → place < length names → slice_get names place ≡ Some name → drop place names ≡ name ∷ drop (place + 1) names
cut_at names place name lt at =
    let next : suc place ≡ place + 1 = omega arith in
    drop-cons names place [] lt ∙ ap (λ (n : List ℕ). n ∷ drop (suc place) names) (get_or_from_slice_get names place name [] at) ∙ ap (λ (k : ℕ). name ∷ drop k names) next

-- one line more of each name
pub nodes_more : (names : List (List ℕ)) (place : ℕ) (name out out' total : List ℕ) → place < length names → slice_get names place ≡ Some name
    → out ++ flat_map node_line (drop place names) ≡ total → out' ≡ out ++ node_line name → out' ++ flat_map node_line (drop (place + 1) names) ≡ total
nodes_more names place name out out' total lt at so_far grown =
    ap (λ (o : List ℕ). o ++ flat_map node_line (drop (place + 1) names)) grown ∙ append_assoc out (node_line name) (flat_map node_line (drop (place + 1) names))
    ∙ ap (λ (ns : List (List ℕ)). out ++ flat_map node_line ns) (sym (cut_at names place name lt at)) ∙ so_far

-- one declaration more
pub states_more : (names : List (List ℕ)) (place bits : ℕ) (name out out' total : List ℕ) (test : Bool) → place < length names → slice_get names place ≡ Some name → test ≡ (bits % 2 == 1)
    → out ++ flat_map state_line (states_marked bits (drop place names)) ≡ total → out' ≡ out ++ state_line (record { name = name; is_marked = test })
    → out' ++ flat_map state_line (states_marked (bits / 2) (drop (place + 1) names)) ≡ total
states_more names place bits name out out' total test lt at is so_far grown =
    let line : Bool → List ℕ = λ t. state_line (record { name = name; is_marked = t }) in
    ap (λ (o : List ℕ). o ++ flat_map state_line (states_marked (bits / 2) (drop (place + 1) names))) (grown ∙ ap (λ (t : Bool). out ++ line t) is)
    ∙ append_assoc out (line (bits % 2 == 1)) (flat_map state_line (states_marked (bits / 2) (drop (place + 1) names)))
    ∙ ap (λ (ns : List (List ℕ)). out ++ flat_map state_line (states_marked bits ns)) (sym (cut_at names place name lt at)) ∙ so_far

-- the names of the marked states
pub names_marked : (bits : ℕ) (names : List (List ℕ)) → map (λ (s : State). s.name) (states_marked bits names) ≡ names
names_marked bits [] = refl
names_marked bits (name ∷ names) = ap (λ (ns : List (List ℕ)). name ∷ ns) (names_marked (bits / 2) names)

-- five parts behind a front
five : (o a b c d e : List ℕ) → o ++ a ++ b ++ c ++ d ++ e ≡ o ++ (a ++ b ++ c ++ d ++ e)
five o a b c d e = simp append_assoc

-- the declaration of the marker in its parts
pub marker_line_written : (initial o p q r : List ℕ) → p ≡ o ++ codes "\t{node [shape = plaintext, style=invis, label=\"\"] " → q ≡ p ++ quoted (marker initial) → r ≡ q ++ codes "};\n" → r ≡ o ++ marker_line initial
marker_line_written initial o p q r a b c =
    let front : List ℕ = codes "\t{node [shape = plaintext, style=invis, label=\"\"] " in
    c ∙ ap (λ (t : List ℕ). t ++ codes "};\n") (b ∙ ap (λ (t : List ℕ). t ++ quoted (marker initial)) a ∙ append_assoc o front (quoted (marker initial))) ∙ append_assoc o (front ++ quoted (marker initial)) (codes "};\n")

-- a declaration in its parts
pub state_line_written : (name : List ℕ) (shape o p q r s t : List ℕ) → p ≡ o ++ codes "\t{node [shape = " → q ≡ p ++ shape → r ≡ q ++ codes "] " → s ≡ r ++ quoted name → t ≡ s ++ codes "};\n"
    → t ≡ o ++ (codes "\t{node [shape = " ++ shape ++ codes "] " ++ quoted name ++ codes "};\n")
state_line_written name shape o p q r s t a b c d e = rw (e, d, c, b, a) (five o (codes "\t{node [shape = ") shape (codes "] ") (quoted name) (codes "};\n"))

-- the lines one after the other are the text
pub written : (a : Machine) (initial o p q r s t u v : List ℕ) → slice_get a.states 0 ≡ Some initial → o ≡ [] → p ≡ o ++ head_lines → q ≡ p ++ marker_line initial → r ≡ q ++ flat_map state_line (states_marked a.marked a.states)
    → s ≡ r ++ initial_line initial → t ≡ s ++ flat_map node_line a.states → u ≡ t ++ flat_map arc_line (map (arc_named a.states a.events) a.edges) → v ≡ u ++ last_line → v ≡ dot_text a
unfolding dot_text
written a initial o p q r s t u v at empty e f g h i j k =
    let first : get_or a.states 0 [] ≡ initial = get_or_from_slice_get a.states 0 initial [] at in
    rw (k, j, i, h, g, f, e, empty, first, names_marked a.marked a.states) refl
