use Rattle.std.proofs.Common.{◌∙◌}
use Rattle.rv_tool.proofs.PreparedLemmas.{shape_fits}
use Rattle.rv_tool.proofs.input.opening.Goals as goal

pub invariant_of-result : goal.invariant_of-result
invariant_of-result c =
    shape_fits c.args.monitors.now c.args.tables.items c.args.tasks c.as_slice.result.now c.in_ok-shape.shape c.in_ok-starts.starts.items c.opening_switches-switches.result c.requires.tables
    (c.as_slice.ensures.value ∙ c.in_ok-scopes.ensures) c.in_ok-shape.ensures c.in_ok-starts.ensures c.opening_switches-switches.ensures.fits
