use Rattle.std.proofs.Common.{List, [], length, map, ap, ◌∙◌}
use Rattle.rv_model.specs.Setups.{Setup}
use Rattle.rv_model.specs.Works.{Work}
use Rattle.rv_bind.specs.declared.bindings.Monitor.{Monitor}
use Rattle.rv_replay.specs.Lists.{fresh_lanes}
use Rattle.rv_replay.proofs.RunLemmas.{fresh-works, fresh-new}
use Rattle.rv_route.specs.Listing.{works_listed}
use Rattle.rv_tool.proofs.PreparedLemmas.{ready_made}
use Rattle.rv_tool.proofs.listed.prepare_list.Goals as goal

pub returns-clause-ready : goal.returns-clause-ready
returns-clause-ready c =
    let parts = c.in_ok-setup.field-0 in
    let are = c.in_ok-setup.ensures in
    let listed = c.requires.listed in
    let works : List Work = works_listed c.args.routed.list in
    let made = ready_made c.args.bound.bindings.monitors.items c.as_slice.result.now c.args.bound.tables.items parts.setup c.len.result (length c.args.routed.tasks) works (fresh_lanes works)
    c.requires.formed.tables listed.fit are.setup c.as_slice.ensures.value c.len.ensures.length (fresh-works works) (fresh-new works) in
    record {
      setup = made.again;
      reactors = are.reactors ∙ ap (map (λ (m : Monitor). m.reactor)) c.as_slice.ensures.value;
      mean = made.mean;
      fits = record { cpus = listed.cpus; lanes = made.fit; ascend = listed.ascend };
    }

pub returns-clause-value : goal.returns-clause-value
returns-clause-value c =
    let bindings = c.args.bound.bindings in
    λ i. record {
      bound = record { containers = bindings.containers; monitors = bindings.monitors.items; rules = bindings.rules.items; items = bindings.items.items; tables = ap (λ (s : Setup). s.tables) c.in_ok-setup.ensures.setup i };
      routed = record { tasks = c.args.routed.tasks; works = works_listed c.args.routed.list };
      changes = [];
    }
