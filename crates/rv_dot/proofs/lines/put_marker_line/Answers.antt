use Rattle.std.proofs.lemmas.Result.{on_ok_weaker}
use Rattle.rv_dot.proofs.CanonicalLaws.{marker_line_written}
use Rattle.rv_dot.proofs.lines.put_marker_line.Goals as goal

pub returns : goal.returns
returns c = on_ok_weaker c.put-2.result (λ added. marker_line_written c.args.initial.now c.args.out.now c.put.new.out c.put_marker.new.out c.put-2.new.out c.in_ok-put.ensures c.in_ok-put_marker.ensures added) c.put-2.ensures
