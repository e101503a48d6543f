-- What the words of the command line ask for.
use Rattle.std.specs.Prelude.{ℕ, Bool, true, false, List, [], ◌∷◌, Option, Some, None, bytes_eq, codes, if◌then◌else◌}

-- the two files of a replay, and whether each edge that was not taken is a finding
pub record CoverageCommandValue : Type 0 where
  pub bindings : List ℕ
  pub trace : List ℕ
  pub edges : Bool

-- the command that the words are, if they are one: two files, and no more than the word `edges` behind them
abbrev pub coverage_command_of : List (List ℕ) → Option CoverageCommandValue
coverage_command_of (bindings ∷ trace ∷ []) = Some (record { bindings = bindings; trace = trace; edges = false })
coverage_command_of (bindings ∷ trace ∷ word ∷ []) = if bytes_eq word (codes "edges") then Some (record { bindings = bindings; trace = trace; edges = true }) else None
coverage_command_of _ = None
