use Rattle.std.proofs.Common.{◌≡◌, Ok, rules}
use Rattle.rv_control.specs.Effects.{effect}
use Rattle.rv_control.proofs.EffectLemmas.{effect-below}
use Rattle.rv_control.proofs.control.Control.write.Goals as goal

pub returns-clause-below_halt : goal.returns-clause-below_halt
returns-clause-below_halt c =
    let is : effect c.args.self.now c.args.path.now c.args.text.now c.args.append ≡ Ok (c.apply.new.self, c.in_ok-change.change) = search rules in
    effect-below c.args.self.now c.assert_invariant.ensures.few_monitors c.args.path.now c.args.text.now c.args.append c.apply.new.self c.in_ok-change.change is
