-- The record is counted for its monitor alone.
use Rattle.std.proofs.Common.{List, sym, subst}
use Rattle.std.proofs.lemmas.Result.{on_ok_weaker}
use Rattle.rv_report.specs.declared.tally.Tally.{Tally}
use Rattle.rv_report.specs.Tallies.{IsWholeTally, tally_value}
use Rattle.rv_report.proofs.WholeLemmas.{wholes-mine}
use Rattle.rv_report.proofs.digest.count.Goals as goal

pub returns : goal.returns
returns c =
    let mid : List Tally = c.reach.new.tallies.items in
    let r = c.args.made.now in
    let was : Tally = c.index_mut.result.now in
    on_ok_weaker c.add_any.result
    (λ more rs are.
    wholes-mine rs r c.args.tallies.now.items mid was c.add_any.new.self c.in_ok-reach.ensures.many c.in_ok-reach.ensures.same (λ w. more rs (subst (λ (t : Tally). IsWholeTally r.monitor rs (tally_value t)) (sym c.index_mut.ensures.value) w)) are)
    c.add_any.ensures
