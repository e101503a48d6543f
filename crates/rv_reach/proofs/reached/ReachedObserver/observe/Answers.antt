-- The monitor of the record is told of it alone.
use Rattle.std.proofs.Common.{arith}
use Rattle.std.proofs.lemmas.Result.{on_ok_weaker}
use Rattle.rv_reach.proofs.ReachedLemmas.{observed-set}
use Rattle.rv_reach.proofs.reached.ReachedObserver.observe.Goals as goal

pub returns : goal.returns
returns c =
    on_ok_weaker c.add.result
    (λ reaches old makes tasks rs are.
    observed-set c.args.bindings.now c.args.core.now c.args.slot c.args.before c.args.made.now c.args.self.now c.index.result.now c.index_mut.result.now c.add.new.self
    (let x = c.if-place-len.false in let y = c.len.ensures in omega arith) (let x = c.if-place-len-2.false in let y = c.len-else-place-len.ensures in omega arith) c.index.ensures c.index_mut.ensures.value reaches old makes are)
    c.add.ensures
