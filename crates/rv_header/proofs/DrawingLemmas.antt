-- Edges, marks and drawings of an automaton that is read again.
use Rattle.std.proofs.Common.{◌≡◌, ℕ, suc, ◌+◌, ◌*◌, ◌<◌, List, [], ◌∷◌, length, refl, ap, ◌∙◌, arith, ◌⊎◌, inl, inr}
use Rattle.std.specs.Prelude.{map, ◌/◌}
use Rattle.std.specs.List.{AllByRecursion}
use Rattle.rv_model.specs.declared.automaton.Edge.{Edge}
use Rattle.rv_model.specs.WellFormed.{EdgeIsBefore}
use Rattle.rv_dot.specs.Gathered.{Arc}
use Rattle.rv_dot.specs.Canonical.{State, states_marked, drawing_text}
use Rattle.rv_dot.proofs.MemberLaws.{AllLater}
use Rattle.rv_header.specs.HeaderText.{mark_text}
use Rattle.rv_header.proofs.Grid.{key}

-- edges in order have ascending cells
pub keys_ascend : (edges : List Edge) → AllByRecursion (λ e. e.event < 64) edges → AllLater EdgeIsBefore edges → AllLater (λ e f. key e < key f) edges
keys_ascend [] few up = tt
keys_ascend (e ∷ edges) few up = (go edges up.0, keys_ascend edges few.1 up.1)
  where
    step : (c d : ℕ) → (e.from < c) ⊎ ((e.from ≡ c) × (e.event < d)) → e.from * 64 + e.event < c * 64 + d
    step c d (inl x) = omega (arith, x, few.0)
    step c d (inr x) = omega (arith, x.0, x.1)

    go : (fs : List Edge) → AllByRecursion (λ f. EdgeIsBefore e f) fs → AllByRecursion (λ f. key e < key f) fs
    go [] h = tt
    go (f ∷ fs) h = (step f.from f.event h.0, go fs h.1)

-- as many marks as states
pub as_many : (bits : ℕ) (names : List (List ℕ)) → length (map (λ (s : State). mark_text s.is_marked) (states_marked bits names)) ≡ length names
as_many bits [] = refl
as_many bits (n ∷ names) = ap suc (as_many (bits / 2) names)

-- three equal parts draw the same
pub same_drawing : (initial initial' : List ℕ) (states states' : List State) (arcs arcs' : List Arc) → initial ≡ initial' → states ≡ states' → arcs ≡ arcs'
    → drawing_text (record { initial = initial; states = states; arcs = arcs }) ≡ drawing_text (record { initial = initial'; states = states'; arcs = arcs' })
same_drawing initial initial' states states' arcs arcs' p q r =
    ap (λ (x : List ℕ). drawing_text (record { initial = x; states = states; arcs = arcs })) p
    ∙ ap (λ (x : List State). drawing_text (record { initial = initial'; states = x; arcs = arcs })) q
    ∙ ap (λ (x : List Arc). drawing_text (record { initial = initial'; states = states'; arcs = x })) r
