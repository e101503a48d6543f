-- The generated input as files.
use Rattle.std.specs.Prelude.{ℕ, List, bytes_eq, codes, Some, None, if◌then◌else◌}
use Rattle.rv_io.specs.Files.{Files}
use Rattle.rv_dot.specs.Canonical.{dot_text}
use Rattle.rv_gen.specs.Generated.{bindings_text, wip, wwnr, trace_text}
use Rattle.rv_bind.specs.Outcomes.{Outcome}
use Rattle.rv_tool.specs.Inputs.{InputValue, run_input}

-- the files of these texts, by their names
abbrev pub named_files : List ℕ → List ℕ → List ℕ → List ℕ → Files
named_files bindings wip wwnr trace name =
    if bytes_eq name (codes "gen.rv") then Some bindings
    else if bytes_eq name (codes "wip.dot") then Some wip
    else if bytes_eq name (codes "wwnr.dot") then Some wwnr
    else if bytes_eq name (codes "gen.txt") then Some trace
    else None

-- the generated bindings and automata, with a trace of so many blocks
abbrev pub generated_files : ℕ → Files
generated_files blocks = named_files bindings_text (dot_text wip) (dot_text wwnr) (trace_text blocks)

-- what so many blocks come to, by the same readers as any files
abbrev pub load_input : ℕ → Outcome InputValue
load_input blocks = run_input (generated_files blocks) (codes "gen.rv") (codes "gen.txt")
