-- With room for a mark of the instance, one record more.
use Rattle.std.proofs.Common.{refl}
use Rattle.std.proofs.lemmas.Result.{on_ok_weaker}
use Rattle.rv_report.specs.declared.tally.Tally.{Tally}
use Rattle.rv_report.proofs.WholeLemmas.{whole-mine}
use Rattle.rv_report.proofs.tally.Tally.add_any.Goals as goal

pub returns : goal.returns
returns c =
    let old : Tally = c.args.self.now in
    let mid : Tally = record { seen = c.reach.new.seen; deliveries = old.deliveries; failures = old.failures; stopped = old.stopped } in
    on_ok_weaker c.add.result (λ more rs was. whole-mine rs c.args.made.now old mid c.add.new.self c.in_ok-reach.ensures.many c.in_ok-reach.ensures.same refl refl refl more was) c.add.ensures
