use Rattle.std.proofs.Common.{◌≡◌, Some, None, rules}
use Rattle.rv_model.specs.declared.hit.What.TheVariants.{Da}
use Rattle.rv_journal.specs.inner.EntryReadings.{event_from}
use Rattle.rv_journal.proofs.ThenLemmas.{then-some, then-none, gives-none}
use Rattle.rv_journal.proofs.reading.event.Goals as goal

pub returns-in_err-event : goal.returns-in_err-event
returns-in_err-event c = let none : c.from_residual.result ≡ None = search rules in gives-none event_from _ _ _ none (then-none (λ event rest. Some (Da event, rest)) c.in_err-event.ensures.number)

pub returns : goal.returns
returns c = then-some (λ event rest. Some (Da event, rest)) c.in_ok-event.ensures.number
