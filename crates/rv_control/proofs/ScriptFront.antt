-- A script is read no further than one byte past its limit.
use Rattle.std.proofs.Common.{◌≡◌, ◌+◌, ◌<◌, inl, inr, List, [], ◌∷◌, take, refl, sym, ap, ap₂, ◌∙◌}
use Rattle.std.proofs.lemmas.Bool.{lt-ltb}
use Rattle.rv_text.specs.Readings.{and_then, onto, refused_at}
use Rattle.rv_text.specs.TextLines.{LineText, lines_of}
use Rattle.rv_text.specs.declared.numbers.TheConstants.{CONTROL_SYNTAX}
use Rattle.rv_bind.proofs.LinesAlike.{AreAlikeWithin, lines_of-alike}
use Rattle.rv_bind.specs.Outcomes.{text_front}
use Rattle.rv_bind.proofs.FrontLemmas.{LooksAtFront}
use Rattle.rv_control.specs.declared.script.TheConstants.{SCRIPT_LIMIT}
use Rattle.rv_control.specs.Scripts.{line_said, commands_of_lines, script_of}

-- a line that ends past the limit is refused by its number alone
line-past : (line : LineText) → SCRIPT_LIMIT < line.end → line_said line ≡ refused_at CONTROL_SYNTAX line.number
line-past line past = rw (lt-ltb SCRIPT_LIMIT line.end past) refl

-- lines that are alike within the limit say the same
lines-alike : (lines others : List LineText) → AreAlikeWithin SCRIPT_LIMIT lines others → commands_of_lines lines ≡ commands_of_lines others
unfolding commands_of_lines
lines-alike [] [] alike = refl
lines-alike [] (other ∷ others) alike = absurd alike
lines-alike (line ∷ lines) [] alike = absurd alike
lines-alike (line ∷ lines) (other ∷ others) (inl alike) = ap₂ (λ l later. and_then (line_said l) (λ commands. onto commands later)) alike.0 (lines-alike lines others alike.1)
lines-alike (line ∷ lines) (other ∷ others) (inr past) =
    ap (λ said. and_then said (λ commands. onto commands (commands_of_lines lines))) (line-past line past.1)
    ∙ ap (refused_at CONTROL_SYNTAX) past.0
    ∙ sym (ap (λ said. and_then said (λ commands. onto commands (commands_of_lines others))) (line-past other past.2))

-- so the commands of a script are those of its front
pub script-looks : LooksAtFront script_of
unfolding script_of text_front
script-looks text = lines-alike (lines_of text) (lines_of (take (SCRIPT_LIMIT + 1) text)) (lines_of-alike text SCRIPT_LIMIT)
