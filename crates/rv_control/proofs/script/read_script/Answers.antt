use Rattle.std.proofs.Common.{sym, ◌∙◌, ap}
use Rattle.std.proofs.lemmas.Result.{err_from_is_err_and}
use Rattle.std.specs.Option.{option_to_list}
use Rattle.rv_text.specs.TextLines.{line_text}
use Rattle.rv_text.proofs.ReadingLaws.{Refuses-same, onto-none}
use Rattle.rv_control.specs.Scripts.{commands_of_lines, script_of}
use Rattle.rv_text.specs.Readings.{onto}
use Rattle.rv_control.proofs.ScriptLemmas.{commands_of_lines-none, commands_of_lines-ok, commands_of_lines-refused}
use Rattle.rv_control.proofs.script.read_script.Goals as goal

pub loop-line-init : goal.loop-line-init
unfolding script_of
loop-line-init c = rw (c.new-commands.ensures.items, c.new-lines.ensures) (onto-none _)

pub loop-line-preserved : goal.loop-line-preserved
loop-line-preserved c =
    let later = c.next_line.new.self in
    c.loop-line.invariant
    ∙ ap (λ lines. onto c.loop-line.commands.items (commands_of_lines lines)) c.in-Some.ensures.some
    ∙ commands_of_lines-ok (line_text c.in-Some.line) later c.loop-line.commands.items (option_to_list c.in_ok-read.read) c.in_ok-read.ensures
    ∙ ap (λ items. onto items (commands_of_lines later)) (sym c.in_ok-push_some.ensures)

pub returns-in_err-read : goal.returns-in_err-read
returns-in_err-read c =
    let given = err_from_is_err_and c.from_residual.result c.from_residual.ensures.1 in
    rw (given.1, given.2)
    (Refuses-same c.in_err-read.field-0.0 _ _ (c.loop-line.invariant ∙ ap (λ lines. onto c.loop-line.commands.items (commands_of_lines lines)) c.in-Some.ensures.some)
    (commands_of_lines-refused (line_text c.in-Some.line) c.next_line.new.self c.loop-line.commands.items c.in_err-read.field-0.0 c.in_err-read.ensures))

pub returns : goal.returns
returns c =
    c.loop-line.invariant ∙ ap (λ lines. onto c.loop-line.commands.items (commands_of_lines lines)) c.in_default.ensures.none.0 ∙ commands_of_lines-none c.loop-line.commands.items
