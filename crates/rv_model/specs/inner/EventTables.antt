-- An automaton's table, asked for one thing; a formula's answers as one without events.
use Rattle.std.specs.Prelude.{ℕ, Option, None}
use Rattle.rv_model.specs.declared.hit.Letter.{Letter}
use Rattle.rv_model.specs.Table.{Table, of_events, of_labels, entry_by}

-- how many events an automaton's table has
abbrev pub event_count : Table → ℕ
event_count (of_events n rows) = n
event_count (of_labels nodes) = 0

-- the entry of a row by a letter
abbrev pub entry : Table → ℕ → Letter → Option ℕ
entry (of_events n rows) row x = entry_by rows row x
entry (of_labels nodes) row x = None
