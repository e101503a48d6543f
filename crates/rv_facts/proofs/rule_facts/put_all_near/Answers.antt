-- One name more.
use Rattle.std.proofs.Common.{◌<◌, length, arith}
use Rattle.rv_facts.specs.RuleFacts.{near_fact}
use Rattle.rv_facts.proofs.GrowingLists.{more_pieces}
use Rattle.rv_facts.proofs.rule_facts.put_all_near.Goals as goal

pub names-preserved : goal.names-preserved
names-preserved c =
    let lt : c.names.near-index < length c.args.names.now = omega arith in
    more_pieces (near_fact c.args.front.now) c.args.names.now c.names.near-index c.near-item.result c.names.out _ _ lt c.near-item.is c.names.invariant c.in_ok-put_near.ensures
