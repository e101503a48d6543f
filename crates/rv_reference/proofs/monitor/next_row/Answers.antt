use Rattle.std.proofs.Common.{◌≤◌, sym, ap, ◌∙◌, length, arith}
use Rattle.rv_model.specs.Machine.{Machine}
use Rattle.rv_model.specs.inner.EventTables.{entry}
use Rattle.rv_model.specs.Table.{table_of}
use Rattle.rv_reference.proofs.EntryLemmas.{entry-past, entry-no_event, entry-in}
use Rattle.rv_reference.proofs.monitor.next_row.Goals as goal

pub returns-then-row-len : goal.returns-then-row-len
returns-then-row-len c =
    let states = c.len.ensures ∙ ap (λ (m : Machine). length m.states) c.automaton.view_is in
    sym (ap (entry (table_of c.args.automaton.now) c.args.row) c.in-Event.is ∙ entry-past c.args.automaton.now c.args.row c.in-Event.event (rw states at c.if-row-len.true))

pub returns-then-event-len : goal.returns-then-event-len
returns-then-event-len c =
    let states = c.len.ensures ∙ ap (λ (m : Machine). length m.states) c.automaton.view_is in
    let events = c.len-2.ensures ∙ ap (λ (m : Machine). length m.events) c.automaton.view_is in
    let some : 1 ≤ c.args.row = let not_zero = c.if-row-eq0.false in grind arith in
    sym (ap (entry (table_of c.args.automaton.now) c.args.row) c.in-Event.is ∙ entry-no_event c.args.automaton.now c.args.row c.in-Event.event some (rw states at c.if-row-len.false) (rw events at c.if-event-len.true))

pub returns : goal.returns
returns c =
    let states = c.len.ensures ∙ ap (λ (m : Machine). length m.states) c.automaton.view_is in
    let events = c.len-2.ensures ∙ ap (λ (m : Machine). length m.events) c.automaton.view_is in
    let some : 1 ≤ c.args.row = let not_zero = c.if-row-eq0.false in grind arith in
    c.row_after.ensures ∙ sym (ap (entry (table_of c.args.automaton.now) c.args.row) c.in-Event.is ∙ entry-in c.args.automaton.now c.args.row c.in-Event.event some (rw states at c.if-row-len.false) (rw events at c.if-event-len.false))
