use Rattle.rv_dot.specs.Canonical.{drawn_shape}
use Rattle.rv_dot.proofs.CanonicalLaws.{state_line_written}
use Rattle.rv_dot.proofs.lines.put_state_line.Goals as goal

pub returns : goal.returns
returns c =
    state_line_written c.args.name.now (drawn_shape c.args.is_marked) c.args.out.now c.put.new.out c.put_shape.new.out c.put-2.new.out c.put_quoted.new.out c.put-3.new.out
    c.in_ok-put.ensures c.in_ok-put_shape.ensures c.in_ok-put-2.ensures c.in_ok-put_quoted.ensures c.in_ok-put-3.ensures
