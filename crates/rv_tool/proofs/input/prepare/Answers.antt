use Rattle.std.proofs.Common.{length, map, sym, ap, ◌∙◌, subst}
use Rattle.std.specs.Prelude.{All}
use Rattle.std.proofs.lemmas.List.Elements.{All-nil}
use Rattle.rv_feed.specs.Changes.{IsBelowHalt}
use Rattle.rv_model.specs.Setups.{Setup}
use Rattle.rv_bind.specs.declared.bindings.Monitor.{Monitor}
use Rattle.rv_route.specs.Fitting.{FromRules}
use Rattle.rv_tool.proofs.PreparedLemmas.{ready_made}
use Rattle.rv_tool.proofs.input.prepare.Goals as goal

pub returns-clause-ready : goal.returns-clause-ready
returns-clause-ready c =
    let parts = c.in_ok-setup.field-0 in
    let are = c.in_ok-setup.ensures in
    let given = c.in_ok-lanes.ensures in
    let made = ready_made c.args.bound.bindings.monitors.items c.as_slice.result.now c.args.bound.tables.items parts.setup c.len.result (length c.args.routed.tasks) c.args.routed.works.items c.in_ok-lanes.lanes.items
    c.requires.formed.tables c.requires.fit are.setup c.as_slice.ensures.value c.len.ensures.length given.0 given.1 in
    record {
      setup = made.again;
      reactors = are.reactors ∙ ap (map (λ (m : Monitor). m.reactor)) c.as_slice.ensures.value;
      mean = made.mean;
      lanes = made.fit;
      ascend = made.ascend;
      by_cpu = made.by_cpu;
      below_halt = subst (All IsBelowHalt) (sym c.new.ensures.items) (All-nil IsBelowHalt);
      few_monitors = c.requires.formed.few_monitors;
      few_containers = c.requires.formed.few_containers;
      tables = made.tables;
      routed = made.routed;
      rules = subst (FromRules c.args.bound.bindings.rules.items) (sym given.0) c.requires.rules;
    }

pub returns-clause-value : goal.returns-clause-value
returns-clause-value c =
    let bindings = c.args.bound.bindings in
    let are = c.in_ok-setup.ensures in
    λ i. record {
      bound = record { containers = bindings.containers; monitors = bindings.monitors.items; rules = bindings.rules.items; items = bindings.items.items; tables = ap (λ (s : Setup). s.tables) are.setup i };
      routed = record { tasks = c.args.routed.tasks; works = c.in_ok-lanes.ensures.0 i };
      changes = c.new.ensures.items i;
    }
