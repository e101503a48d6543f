use Rattle.std.proofs.Common.{ap}
use Rattle.rv_model.specs.Machine.{Machine}
use Rattle.rv_header.specs.HeaderText.{row_text, cells}
use Rattle.rv_header.proofs.ListSteps.{numbered_more}
use Rattle.rv_header.proofs.rows.put_rows.Goals as goal

pub states-preserved : goal.states-preserved
states-preserved c =
    numbered_more (λ from. row_text (cells c.args.name.now c.args.automaton.now from)) c.args.automaton.now.states c.states.from c.states.out c.put_row.new.out _
    (rw (← ap (λ (m : Machine). m.states) c.automaton.view_is, ← c.len.ensures) c.states-test.true) c.states.invariant c.in_ok-put_row.ensures
