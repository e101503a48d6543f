-- What holds at each entry of a history, by the entries before it.
use Rattle.std.specs.Prelude.{◌≡◌, List, ◌∷◌, ◌++◌}
use Rattle.rv_model.specs.declared.entry.Entry.{Entry}

-- the fact holds at each entry, of the entries before it and of it
abbrev pub AtEach : (List Entry → Entry → Type 0) → List Entry → Type 0
AtEach P h = (before : List Entry) (e : Entry) (after : List Entry) → h ≡ before ++ e ∷ after → P before e
