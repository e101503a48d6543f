-- A canonical text is within the limit of size.
use Rattle.std.proofs.Common.{◌≡◌, ℕ, suc, ◌+◌, ◌-◌, ◌*◌, ◌<◌, ◌≤◌, Bool, true, false, List, [], ◌∷◌, ◌++◌, length, get_or, refl, ap, subst, inl, inr, arith, length-append}
use Rattle.std.specs.Prelude.{map, codes, ◌%◌, ◌/◌, ◌==◌}
use Rattle.std.specs.List.{AllByRecursion, flat_map}
use Rattle.std.proofs.Math.Nat.{mul-suc}
use Rattle.std.proofs.lemmas.List.{length-map}
use Rattle.rv_model.specs.declared.automaton.Edge.{Edge}
use Rattle.rv_model.specs.Machine.{Machine}
use Rattle.rv_model.specs.WellFormed.{IsStateName, EdgeIsBefore, IsAutomaton}
use Rattle.rv_dot.specs.Gathered.{Arc}
use Rattle.rv_dot.specs.Members.{IsMember}
use Rattle.rv_dot.specs.Canonical.{State, quoted, marker, drawn_shape, head_lines, marker_line, state_line, initial_line, node_line, arc_line, last_line, states_marked, arc_named, drawing_of, drawing_text}
use Rattle.rv_dot.proofs.CanonicalLaws.{names_marked}
use Rattle.rv_dot.proofs.MemberLaws.{AllLater, member_map, all_member}
use Rattle.rv_dot.proofs.SetOrder.{all_from_members}
use Rattle.rv_dot.proofs.MachineLaws.{edges_later}

-- a number of its own for each state and event
abbrev key : Edge → ℕ
key e = e.from * 64 + e.event

-- a later edge has a greater number
key_less : (e f : Edge) → e.event < 64 → EdgeIsBefore e f → key e < key f
key_less e f few h = elim h [ inl from ↦ omega (arith, from) | inr both ↦ omega (arith, both.0, both.1) ]

-- numbers in order are few
keys_few : (edges : List Edge) (low : ℕ) → AllLater EdgeIsBefore edges → AllByRecursion (λ e. (low ≤ key e) × (key e < 1984) × (e.event < 64)) edges → length edges ≤ 1984 - low
keys_few [] low up all = omega arith
keys_few (e ∷ edges) low up all =
    let rest = keys_few edges (key e + 1) up.1 (go edges up.0 all.1) in
    omega (arith, rest, all.0.0, all.0.1)
  where
    go : (fs : List Edge) → AllByRecursion (λ f. EdgeIsBefore e f) fs → AllByRecursion (λ f. (low ≤ key f) × (key f < 1984) × (f.event < 64)) fs → AllByRecursion (λ f. (key e + 1 ≤ key f) × (key f < 1984) × (f.event < 64)) fs
    go [] p q = tt
    go (f ∷ fs) p q = let less = key_less e f all.0.2 p.0 in ((omega (arith, less), q.0.1, q.0.2), go fs p.1 q.1)

-- at most one edge for each state and event
pub edges_few : (a : Machine) → IsAutomaton a → length a.edges ≤ 1984
edges_few a h =
    keys_few a.edges 0 (edges_later a h)
    (all_from_members (λ e. (0 ≤ key e) × (key e < 1984) × (e.event < 64)) a.edges (λ e m.
    let at = all_member (λ (x : Edge). (x.from < length a.states) × (x.event < length a.events) × (x.to < length a.states)) a.edges e h.in_range m in
    (omega arith, omega (arith, at.0, at.1, h.few_states, h.few_events), omega (arith, at.1, h.few_events))))

-- lines of few bytes each
lines_few : {A : Type 0} (line : A → List ℕ) (most : ℕ) (xs : List A) → AllByRecursion (λ x. length (line x) ≤ most) xs → length (flat_map line xs) ≤ most * length xs
lines_few line most [] h = omega arith
lines_few line most (x ∷ xs) h =
    let one : length (line x ++ flat_map line xs) ≡ length (line x) + length (flat_map line xs) = length-append (line x) (flat_map line xs) in
    let rest = lines_few line most xs h.1 in
    let step : most * length (x ∷ xs) ≡ most * length xs + most = mul-suc most (length xs) in
    omega (arith, one, rest, step, h.0)

-- a quoted name is short
quoted_few : (name : List ℕ) → length name ≤ 64 → length (quoted name) ≤ 66
quoted_few name h = let two : length (name ++ codes "\"") ≡ length name + 1 = length-append name (codes "\"") in omega (arith, two)

-- a quoted marker is short
marker_few : (name : List ℕ) → length name ≤ 64 → length (quoted (marker name)) ≤ 73
marker_few name h = let two : length (name ++ codes "\"") ≡ length name + 1 = length-append name (codes "\"") in omega (arith, two)

-- two texts have the sum of their lengths
sum_two : (x y : List ℕ) (m n : ℕ) → length x ≤ m → length y ≤ n → length (x ++ y) ≤ m + n
sum_two x y m n h k = omega (arith, length-append x y)

-- so have three
sum_three : (x y z : List ℕ) (k l m : ℕ) → length x ≤ k → length y ≤ l → length z ≤ m → length (x ++ y ++ z) ≤ k + l + m
sum_three x y z k l m p q r = sum_two (x ++ y) z (k + l) m (sum_two x y k l p q) r

-- so have five
sum_five : (x y z v w : List ℕ) (k l m n o : ℕ) → length x ≤ k → length y ≤ l → length z ≤ m → length v ≤ n → length w ≤ o → length (x ++ y ++ z ++ v ++ w) ≤ k + l + m + n + o
sum_five x y z v w k l m n o p q r s t = sum_three (x ++ y ++ z) v w (k + l + m) n o (sum_three x y z k l m p q r) s t

-- so have seven
sum_seven : (a b x y z v w : List ℕ) (i j k l m n o : ℕ) → length a ≤ i → length b ≤ j → length x ≤ k → length y ≤ l → length z ≤ m → length v ≤ n → length w ≤ o → length (a ++ b ++ x ++ y ++ z ++ v ++ w) ≤ i + j + k + l + m + n + o
sum_seven a b x y z v w i j k l m n o e f p q r s t = sum_five (a ++ b ++ x) y z v w (i + j + k) l m n o (sum_three a b x i j k e f p) q r s t

-- a shape is short
shape_few : (t : Bool) → length (drawn_shape t) ≤ 12
shape_few true = omega arith
shape_few false = omega arith

-- a declaration is short
state_few : (s : State) → length s.name ≤ 64 → length (state_line s) ≤ 99
state_few s h = sum_five (codes "\t{node [shape = ") (drawn_shape s.is_marked) (codes "] ") (quoted s.name) (codes "};\n") 16 12 2 66 3 (omega arith) (shape_few s.is_marked) (omega arith) (quoted_few s.name h) (omega arith)

-- the marker's is short
marker_line_few : (i : List ℕ) → length i ≤ 64 → length (marker_line i) ≤ 150
marker_line_few i h = sum_three (codes "\t{node [shape = plaintext, style=invis, label=\"\"] ") (quoted (marker i)) (codes "};\n") 74 73 3 (omega arith) (marker_few i h) (omega arith)

-- its edge is short
initial_few : (i : List ℕ) → length i ≤ 64 → length (initial_line i) ≤ 146
initial_few i h = sum_five (codes "\t") (quoted (marker i)) (codes " -> ") (quoted i) (codes ";\n") 1 73 4 66 2 (omega arith) (marker_few i h) (omega arith) (quoted_few i h) (omega arith)

-- a label is short
node_few : (n : List ℕ) → length n ≤ 64 → length (node_line n) ≤ 147
node_few n h = sum_five (codes "\t") (quoted n) (codes " [label = ") (quoted n) (codes "];\n") 1 66 11 66 3 (omega arith) (quoted_few n h) (omega arith) (quoted_few n h) (omega arith)

-- an edge is short
arc_few : (a : Arc) → length a.from ≤ 64 → length a.event ≤ 64 → length a.to ≤ 64 → length (arc_line a) ≤ 220
arc_few a f e t =
    sum_seven (codes "\t") (quoted a.from) (codes " -> ") (quoted a.to) (codes " [ label = ") (quoted a.event) (codes " ];\n") 1 66 4 66 13 66 4 (omega arith) (quoted_few a.from f) (omega arith) (quoted_few a.to t) (omega arith) (quoted_few a.event e)
    (omega arith)

-- all declarations are short
state_names_few : (bits : ℕ) (names : List (List ℕ)) → AllByRecursion (λ n. length n ≤ 64) names → AllByRecursion (λ (s : State). length (state_line s) ≤ 99) (states_marked bits names)
state_names_few bits [] h = tt
state_names_few bits (n ∷ names) h = (state_few (record { name = n; is_marked = bits % 2 == 1 }) h.0, state_names_few (bits / 2) names h.1)

-- there are as many marked states as names
length_marked : (bits : ℕ) (names : List (List ℕ)) → length (states_marked bits names) ≡ length names
length_marked bits [] = refl
length_marked bits (n ∷ names) = ap suc (length_marked (bits / 2) names)

-- the whole text
pub text_few : (a : Machine) → IsAutomaton a → length (drawing_text (drawing_of a)) ≤ 1048576
text_few a h =
    let states_short : AllByRecursion (λ n. length n ≤ 64) a.states = all_from_members (λ n. length n ≤ 64) a.states (λ n m. (all_member IsStateName a.states n h.states_named m).0.1) in
    let initial_short : length (get_or a.states 0 []) ≤ 64 = (h.states_named 0 [] (omega (arith, h.some_state))).0.1 in
    let states = lines_few state_line 99 (states_marked a.marked a.states) (state_names_few a.marked a.states states_short) in
    let nodes = lines_few node_line 147 a.states (all_from_members (λ n. length (node_line n) ≤ 147) a.states (λ n m. node_few n (all_member IsStateName a.states n h.states_named m).0.1)) in
    let nodes_named : length (flat_map node_line (map (λ (s : State). s.name) (states_marked a.marked a.states))) ≡ length (flat_map node_line a.states) = ap (λ (ns : List (List ℕ)). length (flat_map node_line ns)) (names_marked a.marked a.states) in
    let arcs = lines_few arc_line 220 (map (arc_named a.states a.events) a.edges) (all_from_members (λ x. length (arc_line x) ≤ 220) (map (arc_named a.states a.events) a.edges) (λ x m. arc_short x m)) in
    let some_edges = edges_few a h in
    let long = length_marked a.marked a.states in
    let arcs_long = length-map a.edges (arc_named a.states a.events) in
    let one = marker_line_few (get_or a.states 0 []) initial_short in
    let two : length (flat_map state_line (states_marked a.marked a.states)) ≤ 3069 = omega (arith, states, long, h.few_states) in
    let three = initial_few (get_or a.states 0 []) initial_short in
    let four : length (flat_map node_line (map (λ (s : State). s.name) (states_marked a.marked a.states))) ≤ 4557 = omega (arith, nodes, nodes_named, h.few_states) in
    let five : length (flat_map arc_line (map (arc_named a.states a.events) a.edges)) ≤ 436480 = omega (arith, arcs, arcs_long, some_edges) in
    let total = sum_seven head_lines (marker_line (get_or a.states 0 [])) (flat_map state_line (states_marked a.marked a.states)) (initial_line (get_or a.states 0 []))
    (flat_map node_line (map (λ (s : State). s.name) (states_marked a.marked a.states))) (flat_map arc_line (map (arc_named a.states a.events) a.edges)) last_line 60 150 3069 146 4557 436480 2 (omega arith) one two three four five (omega arith) in
    omega (arith, total)
  where
    arc_short : (x : Arc) → IsMember x (map (arc_named a.states a.events) a.edges) → length (arc_line x) ≤ 220
    arc_short x m =
        let e = member_map (arc_named a.states a.events) x a.edges m in
        let at = all_member (λ (y : Edge). (y.from < length a.states) × (y.event < length a.events) × (y.to < length a.states)) a.edges e.0 h.in_range e.1 in
        subst (λ (y : Arc). length (arc_line y) ≤ 220) e.2
        (arc_few (arc_named a.states a.events e.0) (h.states_named e.0.from [] at.0).0.1 (h.events_named e.0.event [] at.1).1 (h.states_named e.0.to [] at.2).0.1)
