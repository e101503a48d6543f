use Rattle.std.proofs.Common.{◌++◌, ◌%◌, ap, ◌∙◌, sym, refl}
use Rattle.std.specs.Prelude.{Some, ◌==◌}
use Rattle.std.specs.List.{flat_map}
use Rattle.rv_dot.specs.Canonical.{state_line, states_marked}
use Rattle.rv_dot.proofs.CanonicalLaws.{states_more}
use Rattle.rv_dot.proofs.canonical.put_states.Goals as goal

pub states-preserved : goal.states-preserved
states-preserved c =
    states_more c.args.states.now c.states.place c.states.bits c.bytes.result.now c.states.out c.put_state_line.new.out (c.args.out.now ++ flat_map state_line (states_marked c.args.marked c.args.states.now)) (c.states.bits % 2 == 1)
    (rw (← c.len.ensures) c.states-test.true) (c.get.ensures ∙ ap Some (sym c.bytes.ensures)) refl c.states.invariant c.in_ok-put_state_line.ensures
