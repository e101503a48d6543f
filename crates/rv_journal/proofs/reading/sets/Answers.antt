use Rattle.std.proofs.Common.{◌≡◌, Some, None, rules, ◌∙◌}
use Rattle.rv_model.specs.declared.hit.What.TheVariants.{Ltl}
use Rattle.rv_journal.specs.inner.EntryReadings.{sets_from, off_from, pulse_from}
use Rattle.rv_journal.proofs.ThenLemmas.{then-some, then-none, gives-none}
use Rattle.rv_journal.proofs.reading.sets.Goals as goal

pub returns-in_err-on : goal.returns-in_err-on
returns-in_err-on c = let none : c.from_residual.result ≡ None = search rules in gives-none sets_from _ _ _ none (then-none off_from c.in_err-on.ensures)

pub returns-in_err-off : goal.returns-in_err-off
returns-in_err-off c =
    let none : c.from_residual-in_err-off.result ≡ None = search rules in
    gives-none sets_from _ _ _ none (then-some off_from c.in_ok-on.ensures ∙ then-none (pulse_from c.in_ok-on.on) c.in_err-off.ensures)

pub returns-in_err-pulse : goal.returns-in_err-pulse
returns-in_err-pulse c =
    let none : c.from_residual-in_err-pulse.result ≡ None = search rules in
    gives-none sets_from _ _ _ none (then-some off_from c.in_ok-on.ensures ∙ then-some (pulse_from c.in_ok-on.on) c.in_ok-off.ensures ∙ then-none (λ pulse rest. Some (Ltl c.in_ok-on.on c.in_ok-off.off pulse, rest)) c.in_err-pulse.ensures)

pub returns : goal.returns
returns c = then-some off_from c.in_ok-on.ensures ∙ then-some (pulse_from c.in_ok-on.on) c.in_ok-off.ensures ∙ then-some (λ pulse rest. Some (Ltl c.in_ok-on.on c.in_ok-off.off pulse, rest)) c.in_ok-pulse.ensures
