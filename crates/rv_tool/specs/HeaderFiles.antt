-- What `header` prints of an automaton file.
use Rattle.std.specs.Prelude.{ℕ, List, Result}
use Rattle.rv_text.specs.declared.refusals.Refusal.{Refusal}
use Rattle.rv_text.specs.Readings.{and_then}
use Rattle.rv_io.specs.Files.{Files}
use Rattle.rv_dot.specs.Dot.{dot_of}
use Rattle.rv_header.specs.HeaderText.{header_of}
use Rattle.rv_bind.specs.Outcomes.{Outcome, of_file, of_name}

-- the C tables of an automaton file's text, or the first refusal
abbrev pub header_of_text : List ℕ → List ℕ → Result (List ℕ) Refusal
header_of_text name bytes = and_then (dot_of bytes) (header_of name)

-- the same of a file
abbrev pub header_in : Files → List ℕ → List ℕ → Outcome (List ℕ)
header_in files name file = of_name files file (λ bytes. of_file file (header_of_text name bytes))
