use Rattle.std.proofs.Common.{None, Some, sym, ap, ◌∙◌, subst}
use Rattle.std.specs.Prelude.{Result}
use Rattle.rv_text.specs.declared.refusals.Refusal.{Refusal}
use Rattle.rv_model.specs.Machine.{Machine}
use Rattle.rv_text.specs.Readings.{Gives}
use Rattle.rv_dot.specs.Dot.{machine_of}
use Rattle.rv_dot.specs.inner.Held.{sayings_claims}
use Rattle.rv_dot.proofs.WholeLaws.{long_refused, short_read}
use Rattle.rv_dot.proofs.reading.read_dot.Goals as goal

pub returns-then-bytes-gt-MOST_BYTES : goal.returns-then-bytes-gt-MOST_BYTES
returns-then-bytes-gt-MOST_BYTES c = rw c.refused.ensures (long_refused c.args.bytes.now c.if-bytes-gt-MOST_BYTES.true)

pub returns-in-Ok : goal.returns-in-Ok
returns-in-Ok c =
    let said = short_read c.args.bytes.now (Some (sayings_claims c.in-Ok.said.items)) c.if-bytes-gt-MOST_BYTES.false c.in-Ok.ensures in
    subst (λ (r : Result Machine Refusal). Gives (λ a. a) c.automaton.result r) (ap machine_of (ap sayings_claims c.deref.ensures.value) ∙ sym said) c.automaton.ensures

pub returns-in-Err-Syntax : goal.returns-in-Err-Syntax
returns-in-Err-Syntax c = rw c.refused-in-Err-Syntax.ensures (short_read c.args.bytes.now None c.if-bytes-gt-MOST_BYTES.false (rw c.in-Err-Syntax.field-0-is at c.in-Err-Syntax.ensures))
