use Rattle.std.proofs.Common.{◌≡◌, arith, sym, subst}
use Rattle.std.specs.Prelude.{Option}
use Rattle.rv_io.specs.Files.{Files}
use Rattle.rv_io.specs.declared.store.TheConstants.{READ_LIMIT}
use Rattle.rv_stream.specs.inner.Feeding.{IsFileFed}
use Rattle.rv_stream.proofs.FeedingLemmas.{fed-limit}
use Rattle.rv_stream.proofs.trace_text.take_pieces.Goals as goal

pub returns-clause-all : goal.returns-clause-all
returns-clause-all g c =
    let kept = c.loop-place.invariant in
    let at : c.loop-place.place ≡ READ_LIMIT = let low = kept.2 in let past = c.loop-place-test.false in omega arith in
    fed-limit (g.S.Store.files c.args.store.now) c.args.trace.now c.loop-place.place c.loop-place.routing.lines.fed at kept.5

pub take_next-requires-clause-open : goal.take_next-requires-clause-open
take_next-requires-clause-open g c = c.loop-place.invariant.4

pub take_next-requires-clause-told : goal.take_next-requires-clause-told
take_next-requires-clause-told g c = c.loop-place.invariant.7

pub take_next-requires-clause-fed : goal.take_next-requires-clause-fed
take_next-requires-clause-fed g c =
    let kept = c.loop-place.invariant in
    subst (λ (told : Option Files). IsFileFed told c.args.trace.now c.loop-place.place c.loop-place.routing.lines.fed) (sym kept.0) kept.5

pub returns-clause-fails : goal.returns-clause-fails
returns-clause-fails g c = record { kept = c.loop-place.invariant.0; counts = c.loop-place.invariant.1; fault = tt; named = tt }
