use Rattle.std.proofs.Common.{◌++◌, ap, ◌∙◌, sym}
use Rattle.std.specs.Prelude.{Some}
use Rattle.std.specs.List.{flat_map}
use Rattle.rv_dot.specs.Canonical.{node_line}
use Rattle.rv_dot.proofs.CanonicalLaws.{nodes_more}
use Rattle.rv_dot.proofs.canonical.put_nodes.Goals as goal

pub states-preserved : goal.states-preserved
states-preserved c =
    nodes_more c.args.states.now c.states.place c.bytes.result.now c.states.out c.put_node_line.new.out (c.args.out.now ++ flat_map node_line c.args.states.now)
    (rw (← c.len.ensures) c.states-test.true) (c.get.ensures ∙ ap Some (sym c.bytes.ensures)) c.states.invariant c.in_ok-put_node_line.ensures
