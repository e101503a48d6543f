-- A path goes on by one of the edges, and which edges were tried.
use Rattle.std.proofs.Common.{◌≡◌, ℕ, ◌+◌, ◌<◌, ◌==◌, ◌&&◌, Bool, true, false, inl, inr, List, [], ◌∷◌, length, get_or, arith, refl, ap, ◌∙◌}
use Rattle.std.proofs.lemmas.List.{get_or_default}
use Rattle.rv_model.specs.declared.automaton.Edge.{Edge}
use Rattle.rv_model.specs.declared.hit.Letter.{Letter}
use Rattle.rv_model.specs.declared.hit.Letter.TheVariants.{Event, Atoms}
use Rattle.rv_model.specs.Machine.{Machine}
use Rattle.rv_model.specs.Language.{IsPath, HasEdge}
use Rattle.rv_model.proofs.NumberLemmas.{nat_lt_or}
use Rattle.rv_reference.specs.inner.Edges.{is_edge_by}

-- some path from the state takes the letters
abbrev pub AcceptsFrom : Machine → ℕ → List Letter → Type 0
AcceptsFrom a state letters = (path : List ℕ) × IsPath (HasEdge a) state path letters

-- an edge that is none
abbrev pub no_edge : Edge
no_edge = record { from = 0; event = 0; to = 0 }

-- the edge at this place
abbrev pub edge_at : Machine → ℕ → Edge
edge_at a k = get_or a.edges k no_edge

-- no edge before the place leads from the state by the letter to where the rest is accepted
abbrev pub NoneBefore : Machine → ℕ → Letter → List Letter → ℕ → Type 0
NoneBefore a state x rest n = (k : ℕ) → k < n → is_edge_by state x (edge_at a k) ≡ true → AcceptsFrom a (edge_at a k).to rest → ⊥

-- two tests that hold together hold each
and_parts : (a b : Bool) → (a && b) ≡ true → (a ≡ true) × (b ≡ true)
and_parts true b e = (refl, e)
and_parts false b e = cc

-- numbers that the test tells to be equal are equal
same_number : (a b : ℕ) → (a == b) ≡ true → a ≡ b
same_number a b e = grind arith

-- the test tells a number to be equal to itself
pub itself : (a : ℕ) → (a == a) ≡ true
itself a = grind arith

-- an edge and a path from its end make a path
pub path-here : (a : Machine) (state : ℕ) (x : Letter) (rest : List Letter) (k : ℕ) → k < length a.edges → is_edge_by state x (edge_at a k) ≡ true → AcceptsFrom a (edge_at a k).to rest → AcceptsFrom a state (x ∷ rest)
path-here a state (Atoms set) rest k lt is p = cc
path-here a state (Event event) rest k lt is p =
    let e : Edge = record { from = state; event = event; to = (edge_at a k).to } in
    let both = and_parts ((edge_at a k).from == state) ((edge_at a k).event == event) is in
    let from = same_number (edge_at a k).from state both.0 in
    let by = same_number (edge_at a k).event event both.1 in
    let same : edge_at a k ≡ e = λ i. record { from = from i; event = by i; to = (edge_at a k).to } in
    ((edge_at a k).to ∷ p.0, ((k, lt, get_or_default a.edges k e no_edge lt ∙ same), p.1))

-- no letters are always taken
pub path-empty : (a : Machine) (state : ℕ) → AcceptsFrom a state []
path-empty a state = ([], tt)

-- where no edge leads on there is no path
pub path-none : (a : Machine) (state : ℕ) (x : Letter) (rest : List Letter) → NoneBefore a state x rest (length a.edges) → AcceptsFrom a state (x ∷ rest) → ⊥
path-none a state x rest none ([], p) = p
path-none a state (Atoms set) rest none (to ∷ path, p) = p.0
path-none a state (Event event) rest none (to ∷ path, p) =
    let e : Edge = record { from = state; event = event; to = to } in
    let place = p.0.0 in
    let lt : place < length a.edges = p.0.1 in
    let same : edge_at a place ≡ e = get_or_default a.edges place no_edge e lt ∙ p.0.2 in
    let is : is_edge_by state (Event event) e ≡ true = rw (itself state, itself event) refl in
    none place lt (rw same is) (path, rw (ap (λ (z : Edge). z.to) same) p.1)

-- one more edge that does not lead on
pub none-next : (a : Machine) (state : ℕ) (x : Letter) (rest : List Letter) (n : ℕ) → NoneBefore a state x rest n → (is_edge_by state x (edge_at a n) ≡ true → AcceptsFrom a (edge_at a n).to rest → ⊥) → NoneBefore a state x rest (n + 1)
none-next a state x rest n none here k lt =
    elim (nat_lt_or k n (omega arith)) [
      | inl below ↦ none k below
      | inr same ↦ rw same here
    ]
