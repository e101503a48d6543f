use Rattle.std.proofs.Common.{◌≡◌, None, rules, sym, ap, ◌∙◌}
use Rattle.rv_model.specs.declared.entry.Entry.{Entry}
use Rattle.rv_journal.specs.inner.EntryReadings.{acted_from, before_from, after_from, all_words_read}
use Rattle.rv_journal.proofs.ThenLemmas.{then-some, then-none}
use Rattle.rv_journal.proofs.reading.entry.Goals as goal

pub returns-in_err-seat : goal.returns-in_err-seat
returns-in_err-seat c = let none : c.from_residual.result ≡ None = search rules in none ∙ sym (then-none acted_from c.in_err-seat.ensures)

pub returns-in_err-act : goal.returns-in_err-act
returns-in_err-act c =
    let none : c.from_residual-in_err-act.result ≡ None = search rules in
    none ∙ sym (then-some acted_from c.in_ok-seat.ensures ∙ then-none (before_from c.in_ok-seat.seat) c.in_err-act.ensures)

pub returns-in_err-before : goal.returns-in_err-before
returns-in_err-before c =
    let none : c.from_residual-in_err-before.result ≡ None = search rules in
    none ∙ sym (then-some acted_from c.in_ok-seat.ensures ∙ then-some (before_from c.in_ok-seat.seat) c.in_ok-act.ensures ∙ then-none (after_from c.in_ok-seat.seat c.in_ok-act.act) c.in_err-before.ensures.number)

pub returns-in_err-after : goal.returns-in_err-after
returns-in_err-after c =
    let none : c.from_residual-in_err-after.result ≡ None = search rules in
    none ∙ sym (then-some acted_from c.in_ok-seat.ensures ∙ then-some (before_from c.in_ok-seat.seat) c.in_ok-act.ensures ∙ then-some (after_from c.in_ok-seat.seat c.in_ok-act.act) c.in_ok-before.ensures.number
    ∙ then-none (λ after rest. all_words_read (record { seat = c.in_ok-seat.seat; act = c.in_ok-act.act; before = c.in_ok-before.before; after = after }) rest) c.in_err-after.ensures.number)

pub returns-in-Some : goal.returns-in-Some
returns-in-Some c =
    let x : Entry = record { seat = c.in_ok-seat.seat; act = c.in_ok-act.act; before = c.in_ok-before.before; after = c.in_ok-after.after } in
    sym (then-some acted_from c.in_ok-seat.ensures ∙ then-some (before_from c.in_ok-seat.seat) c.in_ok-act.ensures ∙ then-some (after_from c.in_ok-seat.seat c.in_ok-act.act) c.in_ok-before.ensures.number
    ∙ then-some (λ after rest. all_words_read (record { seat = c.in_ok-seat.seat; act = c.in_ok-act.act; before = c.in_ok-before.before; after = after }) rest) c.in_ok-after.ensures.number
    ∙ ap (all_words_read x) c.in-Some.ensures.some)

pub returns-in-None : goal.returns-in-None
returns-in-None c =
    let x : Entry = record { seat = c.in_ok-seat.seat; act = c.in_ok-act.act; before = c.in_ok-before.before; after = c.in_ok-after.after } in
    sym (then-some acted_from c.in_ok-seat.ensures ∙ then-some (before_from c.in_ok-seat.seat) c.in_ok-act.ensures ∙ then-some (after_from c.in_ok-seat.seat c.in_ok-act.act) c.in_ok-before.ensures.number
    ∙ then-some (λ after rest. all_words_read (record { seat = c.in_ok-seat.seat; act = c.in_ok-act.act; before = c.in_ok-before.before; after = after }) rest) c.in_ok-after.ensures.number
    ∙ ap (all_words_read x) c.in-None.ensures.none.0)
