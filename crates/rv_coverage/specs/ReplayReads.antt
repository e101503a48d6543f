-- The two files come to what a replay of them comes to.
use Rattle.std.specs.Prelude.{◌≡◌, ℕ, List}
use Rattle.rv_io.specs.Files.{Files}
use Rattle.rv_bind.specs.Outcomes.{Outcome, accepted, reading}
use Rattle.rv_tool.specs.Inputs.{InputValue, run_input}
use Rattle.rv_tool.specs.Possible.{MayInput}
use Rattle.rv_coverage.specs.Texts.{MayTexts, RunTexts, texts_in}

-- the input alone of what the texts come to
abbrev pub input_alone : Outcome RunTexts → Outcome InputValue
input_alone o = reading o (λ texts. accepted texts.input)

-- a law: what is accepted is the input of a replay, what is refused or missing is refused or missing there alike, and on any store the two names may come to no more
pub record ReadsAsReplay : Type 0 where
  pub told : (files : Files) (bindings trace : List ℕ) → input_alone (texts_in files bindings trace) ≡ run_input files bindings trace
  pub untold : (bindings trace : List ℕ) (o : Outcome RunTexts) → MayTexts bindings trace o → MayInput bindings trace (input_alone o)
