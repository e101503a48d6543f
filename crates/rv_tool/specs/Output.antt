-- The texts of refusals and missing files (this project's choice: docs/FORMATS.md), and what becomes of a text.
use Rattle.std.specs.Prelude.{◌≡◌, ◌⊎◌, ℕ, ◌==◌, List, [], ◌++◌, codes, decimal, Option, Some, None, if◌then◌else◌}
use Rattle.rv_text.specs.declared.refusals.Refusal.{Refusal}
use Rattle.rv_io.specs.Files.{Rose}
use Rattle.rv_io.specs.Taken.{Takes}
use Rattle.rv_tool.specs.Calls.{SinkState}

-- which file it is
abbrev pub in_file_text : Option (List ℕ) → List ℕ
in_file_text None = []
in_file_text (Some file) = codes " in " ++ file

-- which line it is; line 0 is none
abbrev pub in_line_text : ℕ → List ℕ
in_line_text line = if line == 0 then [] else codes " line " ++ decimal line

-- the number of a refusal, with its file and line where it has them
abbrev pub refusal_text : Option (List ℕ) → Refusal → List ℕ
refusal_text file refusal = codes "rv: refused " ++ decimal refusal.number ++ in_file_text file ++ in_line_text refusal.line ++ codes "\n"

-- which file cannot be read
abbrev pub missing_text : List ℕ → List ℕ
missing_text file = codes "rv: cannot read " ++ file ++ codes "\n"

-- the sink took the whole text and counted no fault; or its count of faults rose, a front of the text was taken, and the status is 4
abbrev pub IsWritten : SinkState → SinkState → List ℕ → ℕ → ℕ → Type 0
IsWritten before after text said status =
    ((status ≡ said) × (after.faults ≡ before.faults) × Takes before.taken after.taken text)
    ⊎ ((status ≡ 4) × Rose before.faults after.faults × (front : List ℕ) × (back : List ℕ) × (text ≡ front ++ back) × Takes before.taken after.taken front)
