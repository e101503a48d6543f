-- Letters, and the language of an automaton.
use Rattle.std.specs.Prelude.{ℕ, List, [], ◌∷◌, Contains}
use Rattle.rv_model.specs.declared.hit.Letter.{Letter}
use Rattle.rv_model.specs.declared.hit.Letter.TheVariants.{Event, Atoms}
use Rattle.rv_model.specs.Machine.{Machine}

-- from `from`, each of the letters leads by Step to the next place of the path
abbrev pub IsPath : (ℕ → Letter → ℕ → Type 0) → ℕ → List ℕ → List Letter → Type 0
IsPath Step from [] [] = Unit {0}
IsPath Step from (to ∷ path) (x ∷ letters) = Step from x to × IsPath Step to path letters
IsPath Step from [] (x ∷ letters) = ⊥
IsPath Step from (to ∷ path) [] = ⊥

-- the automaton has this edge
abbrev pub HasEdge : Machine → ℕ → Letter → ℕ → Type 0
HasEdge a from (Event e) to = Contains a.edges (record { from = from; event = e; to = to })
HasEdge a from (Atoms set) to = ⊥

-- from the initial state, which is the first, a path of states takes the letters
abbrev pub Accepts : Machine → List Letter → Type 0
Accepts a letters = (path : List ℕ) × IsPath (HasEdge a) 0 path letters
