-- How `load` ends.
use Rattle.std.specs.Prelude.{◌≡◌, ℕ}
use Rattle.rv_bind.specs.Outcomes.{accepted}
use Rattle.rv_tool.specs.Headline.{Ending}
use Rattle.rv_tool.specs.Inputs.{InputValue}
use Rattle.rv_tool.specs.Loaded.{load_input}

-- so many blocks come to an input, which ends in its own way
abbrev pub EndsAsLoad : (InputValue → Ending) → ℕ → Ending
EndsAsLoad Accepted blocks c = (i : InputValue) × (load_input blocks ≡ accepted i) × Accepted i c
