use Rattle.std.proofs.Common.{◌≡◌, ◌≤◌, length, take, sym, ap, ◌∙◌, arith}
use Rattle.std.proofs.lemmas.List.{length-take-le}
use Rattle.std.proofs.lemmas.Slice.{between_from_start}
use Rattle.rv_text.specs.Words.{words_of}
use Rattle.rv_matches.specs.LineEvents.{without_last}
use Rattle.rv_matches.specs.Words.{last_of}
use Rattle.rv_matches.proofs.StampLemmas.{last_word}
use Rattle.rv_matches.proofs.event_facts.stamp_on.Goals as goal

pub returns : goal.returns
returns c =
    let text = c.args.text.now in
    let end = c.args.line.now.name.from in
    let lies = c.requires.lies in
    let inside : end ≤ length text = omega (arith, lies.name, lies.name_end) in
    let front = take end text in
    let long : length front ≡ end = length-take-le end text inside in
    let to = c.run_start-to.result in
    let high : to ≤ length front = omega (arith, c.run_start-to.ensures.high) in
    c.without_last.ensures
    ∙ ap without_last (sym (ap (λ t. last_of (words_of t)) (between_from_start text end)
    ∙ last_word front c.word_start-from.result to c.word_start-from.ensures.high high (λ k l h. c.run_start-to.ensures.each k l (omega arith)) c.word_start-from.ensures.each c.word_start-from.ensures.before c.run_start-to.ensures.before))
