use Rattle.std.proofs.Common.{◌≡◌, Some, sym, refl, ap, ◌∙◌, rules}
use Rattle.std.specs.Prelude.{position}
use Rattle.rv_bind.specs.Bound.{is_called, monitor_named}
use Rattle.rv_bind.specs.MonitorLines.{reacting}
use Rattle.rv_bind.specs.BoundViews.{bound_value}
use Rattle.rv_bind.proofs.BoundLemmas.{change_added}
use Rattle.rv_bind.proofs.ChangedLemmas.{change_formed}
use Rattle.rv_bind.proofs.bindings.Bound.choose.Goals as goal

pub returns-clause-reactor : goal.returns-clause-reactor
returns-clause-reactor c =
    let named : monitor_named (bound_value c.args.self.now) c.args.monitor.now ≡ Some c.in-Some.place = ap (position (is_called c.args.monitor.now)) (sym c.as_slice.ensures.value) ∙ sym c.in-Some.ensures.value in
    change_added (bound_value c.args.self.now) c.args.monitor.now c.in-Some.place named (reacting c.args.reactor) c.index_mut.result.now _ (search rules) (sym c.index_mut.ensures.value) refl

pub returns-clause-formed : goal.returns-clause-formed
returns-clause-formed c = change_formed (bound_value c.args.self.now) _ _ (reacting c.args.reactor) (λ m. refl) (λ m. refl) (λ m. refl) c.requires (returns-clause-reactor c)
