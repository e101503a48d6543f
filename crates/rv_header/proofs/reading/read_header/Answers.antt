use Rattle.std.proofs.Common.{◌≡◌, ◌∙◌, ℕ, true, false, List, ap, sym}
use Rattle.rv_header.specs.Naming.{is_header_name}
use Rattle.rv_header.specs.HeaderText.{header_text}
use Rattle.rv_dot.proofs.StandsLaws.{name_test}
use Rattle.rv_header.proofs.HeadersBack.{name_taken, refused_for, unnamed, machine_read}
use Rattle.rv_header.proofs.reading.read_header.Goals as goal

pub returns-then-not-is_header_name : goal.returns-then-not-is_header_name
returns-then-not-is_header_name c = refused_for c.args.bytes.now c.refused.result c.refused.ensures (λ h is. unnamed c.args.bytes.now h is (ap is_header_name (sym c.in_ok-name.ensures) ∙ sym c.is_header_name.ensures ∙ c.if-not-is_header_name.true))

pub returns-then-not-branch : goal.returns-then-not-branch
returns-then-not-branch c = refused_for c.args.bytes.now c.refused-then-not-branch.result c.refused-then-not-branch.ensures (λ h is.
    let machine : c.in-Ok.automaton ≡ h.automaton = machine_read c.in-Ok.automaton h.automaton (c.in-Ok.ensures h is) in
    let name : c.in_ok-name.name.now ≡ h.name = c.in_ok-name.ensures ∙ name_taken c.args.bytes.now h is in
    let same : header_text c.in_ok-name.name.now c.in-Ok.automaton ≡ c.args.bytes.now = ap (λ (n : List ℕ). header_text n c.in-Ok.automaton) name ∙ ap (header_text h.name) machine ∙ sym is.text in
    let apart : true ≡ false = sym (name_test (header_text c.in_ok-name.name.now c.in-Ok.automaton) c.args.bytes.now same) ∙ sym c.in_ok-is_written.ensures ∙ c.if-not-branch.true in
    absurd (cc))
