-- By what was next.
use Rattle.std.proofs.Common.{sym, subst}
use Rattle.rv_model.specs.Numbers.{has_bit}
use Rattle.rv_check.specs.declared.next.Next.{Next}
use Rattle.rv_check.specs.inner.Nexts.{Moves}
use Rattle.rv_check.proofs.script.after.Goals as goal

pub returns-in-Look : goal.returns-in-Look
returns-in-Look c = subst (λ (n : Next). Moves c.args.setup.now (has_bit c.args.panics) c.args.work.now n c.args.step.now.word c.args.step.now.answer c.after_look.result) (sym c.in-Look.is) (c.after_look.ensures (has_bit c.args.panics) c.args.step.now.answer)

pub returns-in-Deliver : goal.returns-in-Deliver
returns-in-Deliver c = subst (λ (n : Next). Moves c.args.setup.now (has_bit c.args.panics) c.args.work.now n c.args.step.now.word c.args.step.now.answer c.after_delivery.result) (sym c.in-Deliver.is) (c.after_delivery.ensures c.args.step.now.word)
