-- What a seat played, and how a machine's history grows by it.
use Rattle.std.specs.Prelude.{◌≡◌, ℕ, List, [], ◌∷◌, ◌++◌, reverse}
use Rattle.rv_model.specs.declared.entry.Entry.{Entry}
use Rattle.rv_model.specs.Histories.{IsNoStop, IsPermittedTo}
use Rattle.rv_model.specs.Scripts.{Played, played}
use Rattle.rv_core.specs.Core.{CoreValue}
use Rattle.rv_core.specs.Setup.{judges_of}

-- the entries of what was played, without the answers
abbrev pub entries_played : List Played → List Entry
entries_played [] = []
entries_played (p ∷ ps) = p.0 ∷ entries_played ps

-- all that was played is by the seat, which may do it, and none of it is a stop
abbrev pub AllBy : ℕ → List Played → Type 0
AllBy seat [] = Unit {0}
AllBy seat (p ∷ ps) = ((p.0.seat ≡ seat) × IsNoStop p.0.act × IsPermittedTo p.0.act seat) × AllBy seat ps

-- the history grows by the entries of `ps`, all the seat's and no stops, and each has the answer that `ps` gives it
pub record Did (seat : ℕ) (old new : CoreValue) (ps : List Played) : Type 0 where
  pub grows : new ≡ record old { history = old.history ++ entries_played ps }
  pub played_is : played old.setup (judges_of old.setup) seat (reverse (old.history ++ entries_played ps)) ≡ played old.setup (judges_of old.setup) seat (reverse old.history) ++ ps
  pub by : AllBy seat ps
