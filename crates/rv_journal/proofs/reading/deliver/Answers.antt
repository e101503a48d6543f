use Rattle.std.proofs.Common.{◌≡◌, Some, None, rules, ◌∙◌}
use Rattle.rv_model.specs.declared.entry.Act.TheVariants.{Deliver}
use Rattle.rv_journal.specs.inner.EntryReadings.{deliver_from, hit_from, run_from}
use Rattle.rv_journal.proofs.ThenLemmas.{then-some, then-none, gives-none}
use Rattle.rv_journal.proofs.reading.deliver.Goals as goal

pub returns-in_err-slot : goal.returns-in_err-slot
returns-in_err-slot c = let none : c.from_residual.result ≡ None = search rules in gives-none deliver_from _ _ _ none (then-none hit_from c.in_err-slot.ensures)

pub returns-in_err-mode : goal.returns-in_err-mode
returns-in_err-mode c =
    let none : c.from_residual-in_err-mode.result ≡ None = search rules in
    gives-none deliver_from _ _ _ none (then-some hit_from c.in_ok-slot.ensures ∙ then-none (run_from c.in_ok-slot.slot) c.in_err-mode.ensures)

pub returns-in_err-what : goal.returns-in_err-what
returns-in_err-what c =
    let none : c.from_residual-in_err-what.result ≡ None = search rules in
    gives-none deliver_from _ _ _ none (then-some hit_from c.in_ok-slot.ensures ∙ then-some (run_from c.in_ok-slot.slot) c.in_ok-mode.ensures
    ∙ then-none (λ what rest. Some (Deliver c.in_ok-slot.slot (record { mode = c.in_ok-mode.mode; what = what }), rest)) c.in_err-what.ensures)

pub returns : goal.returns
returns c =
    then-some hit_from c.in_ok-slot.ensures ∙ then-some (run_from c.in_ok-slot.slot) c.in_ok-mode.ensures
    ∙ then-some (λ what rest. Some (Deliver c.in_ok-slot.slot (record { mode = c.in_ok-mode.mode; what = what }), rest)) c.in_ok-what.ensures
