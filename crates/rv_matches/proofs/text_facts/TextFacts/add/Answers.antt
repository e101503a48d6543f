use Rattle.std.proofs.Common.{◌+◌, [], ◌∷◌, sym, ap, ◌∙◌}
use Rattle.std.specs.Option.{option_or}
use Rattle.std.proofs.lemmas.List.{length-append}
use Rattle.rv_text.specs.TextLines.{line_text}
use Rattle.rv_matches.specs.TextFacts.{TextFactsValue, entries_on}
use Rattle.rv_matches.specs.inner.TextSteps.{if_overwritten}
use Rattle.rv_matches.proofs.TextLemmas.{overwritten_push}
use Rattle.rv_matches.proofs.text_facts.TextFacts.add.Goals as goal

pub returns : goal.returns
returns c = λ lines is.
    let line = line_text c.args.line in
    let was = c.self.view_is ∙ is in
    let many = c.add_comment.ensures.kept.0 ∙ c.in_ok-add_return.ensures.kept.0 ∙ c.in_ok-self-inside.ensures ∙ ap (λ (t : TextFactsValue). t.lines + 1) was ∙ sym (length-append lines (line ∷ [])) in
    let first = c.add_comment.ensures.overwritten ∙ ap (λ o. option_or o (if_overwritten (entries_on line))) (c.in_ok-add_return.ensures.kept.1 ∙ ap (λ (t : TextFactsValue). t.overwritten) was) ∙ sym (overwritten_push lines line) in
    let returned = c.add_comment.ensures.kept.1 ∙ c.in_ok-add_return.ensures.returns lines (ap (λ (t : TextFactsValue). t.returns) was) in
    λ j. record { lines = many j; overwritten = first j; returns = returned j }
