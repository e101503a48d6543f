-- The line is good, or it has stopped.
use Rattle.std.proofs.Common.{◌≡◌, ◌+◌, ◌++◌, ◌∷◌, [], List, ℕ, false, ap, ◌∙◌, append_assoc, rules}
use Rattle.rv_check.specs.Readings.{ReaderValue, pieces_joined}
use Rattle.rv_check.proofs.KeptLemmas.{pieces_joined-more, open-of, reader-ended}
use Rattle.rv_check.proofs.reading.JournalReader.end.Goals as goal

pub invariant_of-self-2 : goal.invariant_of-self-2
invariant_of-self-2 c =
    let i = c.self.inside in
    let part : List ℕ = c.args.part.now in
    let going : i.stopped ≡ false = ap (λ (r : ReaderValue). r.stopped) c.self.view_is ∙ c.requires.goes_on in
    let next_is : c.in_ok-next.next ≡ i.line + 1 = search rules in
    let text_is : pieces_joined c.push-2.new.given ≡ pieces_joined i.pieces ++ (part ++ 10 ∷ []) = ap pieces_joined c.push-2.ensures ∙ pieces_joined-more c.push.new.given (10 ∷ []) ∙ ap (λ (t : List ℕ). t ++ 10 ∷ []) (ap pieces_joined c.push.ensures ∙ pieces_joined-more i.pieces part) ∙ append_assoc (pieces_joined i.pieces) part (10 ∷ []) in
    reader-ended i.checker c.take_line.new.checker i.tail.items c.take_line.new.tail.items i.line c.in_ok-next.next c.number_behind-self-inside.result c.in_ok-good.good (pieces_joined i.pieces) (pieces_joined c.push-2.new.given) part
    (open-of i.checker i.tail.items i.line i.stopped (pieces_joined i.pieces) going c.self.invariant) c.requires.unended c.in_ok-good.ensures.takes next_is c.number_behind-self-inside.ensures text_is
