-- What one line more of a text tells.
use Rattle.std.specs.Prelude.{◌≡◌, ℕ, List, [], ◌∷◌, ◌++◌, Option, Some, None, if◌then◌else◌}
use Rattle.rv_text.specs.TextLines.{LineText}
use Rattle.rv_matches.specs.declared.text_facts.Entries.{Entries}
use Rattle.rv_matches.specs.TextFacts.{FirstOf, is_overwritten, returns_of}

-- what was told of any lines becomes what is told of these and one more
abbrev pub TellsReturn : LineText → FirstOf ℕ → FirstOf ℕ → Type 0
TellsReturn line old new = (lines : List LineText) → old ≡ returns_of lines → new ≡ returns_of (lines ++ line ∷ [])

-- what a comment says, if it says so
abbrev pub if_overwritten : Option Entries → Option Entries
if_overwritten None = None
if_overwritten (Some entries) = if is_overwritten entries then Some entries else None
