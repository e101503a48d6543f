-- The lane that is read is the one at the index.
use Rattle.std.proofs.Common.{◌≡◌, sym, subst}
use Rattle.std.specs.Prelude.{MatchOption, []}
use Rattle.rv_journal.specs.CountedLanes.{CountedLaneValue}
use Rattle.rv_journal.specs.inner.MergeSteps.{IsCursor, GoesTo, rest_of}
use Rattle.rv_journal.proofs.ReadyLemmas.{lane-read}
use Rattle.rv_journal.proofs.merging.next_from.Goals as goal

pub next-requires : goal.next-requires
next-requires c =
    subst (λ (x : CountedLaneValue). IsCursor x c.args.cursor.now) (lane-read c.args.lanes.now c.args.index c.index-lanes-index.result c.requires.low c.index-lanes-index.is) c.requires.cursor

pub returns : goal.returns
returns c =
    subst (λ (x : CountedLaneValue). MatchOption c.next.result (rest_of x c.args.cursor.now ≡ []) (λ n. GoesTo x c.args.cursor.now n.step n.cursor)) (sym (lane-read c.args.lanes.now c.args.index c.index-lanes-index.result c.requires.low c.index-lanes-index.is)) c.next.ensures
