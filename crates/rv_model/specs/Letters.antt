-- Letters: an automaton's events, or the sets of atoms that a rule judges.
use Rattle.std.specs.Prelude.{ℕ}
use Rattle.rv_model.specs.declared.hit.Letter.{Letter}
use Rattle.rv_model.specs.declared.hit.Letter.TheVariants.{Event, Atoms}

-- the atoms that hold in a letter, as a set; an event has none
abbrev pub atoms_in : Letter → ℕ
atoms_in (Event event) = 0
atoms_in (Atoms set) = set
