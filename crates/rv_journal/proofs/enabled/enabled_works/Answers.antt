use Rattle.std.proofs.Common.{subst, sym}
use Rattle.std.specs.List.{AllZip}
use Rattle.std.proofs.lemmas.List.Elements.{AllZip-push}
use Rattle.rv_journal.specs.Enabled.{IsEnabledWork}
use Rattle.rv_journal.proofs.enabled.enabled_works.Goals as goal

pub loop-work-preserved : goal.loop-work-preserved
loop-work-preserved c =
    subst (AllZip (IsEnabledWork c.args.switches) _) (sym c.in_ok-push.ensures.items) (AllZip-push (IsEnabledWork c.args.switches) _ _ c.in-Some.work c.in_ok-enabled_work.field-0 c.loop-work.invariant c.in_ok-enabled_work.ensures)
