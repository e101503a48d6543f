use Rattle.std.proofs.Common.{◌∙◌, arith}
use Rattle.rv_control.proofs.OrderLemmas.{order-disables}
use Rattle.rv_control.proofs.control.Control.order_of.Goals as goal

pub returns-then-first-eq33 : goal.returns-then-first-eq33
returns-then-first-eq33 c = c.disable.ensures ∙ order-disables c.args.self.now c.args.text.now (omega arith) c.if-first-eq33.true
