use Rattle.std.proofs.Common.{◌≡◌, ◌∙◌, Some, ap, sym}
use Rattle.std.specs.Prelude.{Ok}
use Rattle.rv_dot.specs.Canonical.{dot_text}
use Rattle.rv_dot.specs.Dot.{dot_of}
use Rattle.rv_dot.proofs.ReadAgain.{read_again}
use Rattle.rv_header.proofs.HeadersBack.{file_taken}
use Rattle.rv_header.proofs.reading.automaton_in.Goals as goal

pub returns-in_default : goal.returns-in_default
returns-in_default c = λ h is. absurd (c.in_default.not-Some (dot_text h.automaton) (c.in_ok-text.ensures ∙ file_taken c.args.bytes.now h is))

pub returns : goal.returns
returns c = λ h is.
    let found : Some c.in-Some.text ≡ Some (dot_text h.automaton) = sym c.in-Some.is ∙ c.in_ok-text.ensures ∙ file_taken c.args.bytes.now h is in
    let text : c.in-Some.text ≡ dot_text h.automaton = cc in
    let read : dot_of c.bytes.result.now ≡ Ok h.automaton = ap dot_of (c.bytes.ensures ∙ text) ∙ read_again h.automaton is.formed in
    rw read at c.read_dot.ensures
