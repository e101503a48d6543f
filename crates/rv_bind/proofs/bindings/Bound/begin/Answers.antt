use Rattle.std.proofs.Common.{◌≡◌, ◌<◌, length, Some, sym, refl, ap, ◌∙◌, rules}
use Rattle.std.specs.Prelude.{position, slice_get}
use Rattle.std.proofs.lemmas.Option.{slice_get-get_or}
use Rattle.rv_bind.specs.Bound.{is_called, monitor_named}
use Rattle.rv_bind.specs.BoundViews.{bound_value}
use Rattle.rv_bind.proofs.BoundLemmas.{begin_added}
use Rattle.rv_bind.proofs.ChangedLemmas.{begin_formed}
use Rattle.rv_bind.proofs.bindings.Bound.begin.Goals as goal

pub returns-clause-starting : goal.returns-clause-starting
returns-clause-starting c =
    let named : monitor_named (bound_value c.args.self.now) c.args.monitor.now ≡ Some c.in-Some.place = ap (position (is_called c.args.monitor.now)) (sym c.as_slice.ensures.value) ∙ sym c.in-Some.ensures.value in
    let within : c.in-Some.place < length (bound_value c.args.self.now).monitors = search rules in
    let m = c.index_mut-monitor.result.now in
    let there : slice_get (bound_value c.args.self.now).monitors c.in-Some.place ≡ Some m =
    slice_get-get_or (bound_value c.args.self.now).monitors c.in-Some.place m within ∙ ap Some (sym c.index_mut-monitor.ensures.value) in
    begin_added (bound_value c.args.self.now) c.args.monitor.now c.in-Some.place named c.args.atom.now c.in_ok-bit.bit m _ there c.in_ok-bit.ensures refl

pub returns-clause-formed : goal.returns-clause-formed
returns-clause-formed c = begin_formed (bound_value c.args.self.now) _ _ c.args.atom.now c.requires (returns-clause-starting c)
