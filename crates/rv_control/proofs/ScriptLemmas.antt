-- From one line of a script to the next.
use Rattle.std.proofs.Common.{◌≡◌, List, [], ◌∷◌, ◌++◌, Ok, ap, ◌∙◌, append-nil}
use Rattle.rv_text.specs.Readings.{Refuses, and_then, onto}
use Rattle.rv_text.specs.TextLines.{LineText}
use Rattle.rv_text.specs.declared.refusals.Refused.{Refused}
use Rattle.rv_text.specs.declared.refusals.Refused.TheVariants as refuseds
use Rattle.rv_text.proofs.ReadingLaws.{onto-onto}
use Rattle.rv_control.specs.declared.script.Numbered.{Numbered}
use Rattle.rv_control.specs.Scripts.{line_said, commands_of_lines}

-- nothing behind changes nothing
pub commands_of_lines-none : (commands : List Numbered) → onto commands (commands_of_lines []) ≡ Ok commands
unfolding commands_of_lines
commands_of_lines-none commands = ap Ok (append-nil commands)

module _ (line : LineText) (later : List LineText) (so_far : List Numbered) where
  -- a line that was read, before the others
  pub commands_of_lines-ok : (commands : List Numbered) → line_said line ≡ Ok commands → onto so_far (commands_of_lines (line ∷ later)) ≡ onto (so_far ++ commands) (commands_of_lines later)
  unfolding commands_of_lines
  commands_of_lines-ok commands is = ap (λ r. onto so_far (and_then r (λ more. onto more (commands_of_lines later)))) is ∙ onto-onto so_far commands (commands_of_lines later)

  -- a line that is refused, before the others
  pub commands_of_lines-refused : (refused : Refused) → Refuses refused (line_said line) → Refuses refused (onto so_far (commands_of_lines (line ∷ later)))
  unfolding commands_of_lines
  commands_of_lines-refused refuseds.Memory is = tt
  commands_of_lines-refused (refuseds.Because refusal) is = ap (λ r. onto so_far (and_then r (λ more. onto more (commands_of_lines later)))) is
