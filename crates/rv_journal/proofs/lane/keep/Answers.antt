-- There is room, so the push succeeds.
use Rattle.std.proofs.Common.{refl, subst}
use Rattle.rv_journal.specs.CountedLanes.{CountedLaneValue}
use Rattle.rv_journal.specs.inner.CountedLanes.{KeepsObserved}
use Rattle.rv_journal.proofs.lane.keep.Goals as goal

pub returns : goal.returns
returns c =
    let i = c.lane.inside in
    let old : CountedLaneValue = record { work = i.work; counted = i.counted.items; room = i.counted.cap } in
    let new : CountedLaneValue = record { work = i.work; counted = c.push.new.self.items; room = c.push.new.self.cap } in
    let k : KeepsObserved old new c.args.observed = record { work_is = refl; counted_is = rw (← c.in-Ok.ensures.items) refl; room = c.push.ensures.capacity } in
    subst (λ (v : CountedLaneValue). KeepsObserved v new c.args.observed) c.lane.view_is k
