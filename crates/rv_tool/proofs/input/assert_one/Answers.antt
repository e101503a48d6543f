-- The law of one thread, of the lanes that are ready.
use Rattle.std.proofs.Common.{List, [], map, sym, subst}
use Rattle.std.specs.Prelude.{All}
use Rattle.rv_model.specs.declared.work.Change.{Change}
use Rattle.rv_model.specs.Histories.{input_with}
use Rattle.rv_model.specs.Setups.{Setup}
use Rattle.rv_model.specs.Works.{IsWork}
use Rattle.rv_bind.specs.declared.bindings.Monitor.{Monitor}
use Rattle.rv_feed.specs.Existence.{HasOneHistory}
use Rattle.rv_feed.specs.Lane.{LaneValue, panics_of, works_of}
use Rattle.rv_feed.proofs.AnyRunLemmas.{one_exists}
use Rattle.rv_tool.specs.Inputs.{run_of}
use Rattle.rv_tool.specs.inner.Prepared.{prepared_value}
use Rattle.rv_tool.proofs.input.assert_one.Goals as goal

pub returns : goal.returns
returns c =
    let ready = c.args.ready.now in
    let is = c.requires.ready in
    let monitors = ready.bindings.monitors.items in
    let specs = map (λ (m : Monitor). m.spec) monitors in
    let panics = panics_of (map (λ (m : Monitor). m.reactor) monitors) in
    let works = works_of ready.lanes.items in
    let are = subst (All (λ (l : LaneValue). IsWork l.work)) c.as_slice.ensures.value c.assert_lanes.ensures in
    let one = one_exists ready.setup specs panics ready.lanes.items c.assert_invariant.ensures is.mean are is.lanes in
    subst (λ (cs : List Change). HasOneHistory (input_with (run_of (prepared_value ready)).setup specs panics works cs)) (sym c.requires.unchanged)
    (subst (λ (s : Setup). HasOneHistory (input_with s specs panics works [])) is.setup one)
