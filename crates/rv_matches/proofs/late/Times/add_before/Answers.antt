use Rattle.std.proofs.Common.{refl}
use Rattle.rv_matches.specs.LateTimes.{Stamped}
use Rattle.rv_matches.specs.LineEvents.{stamp_before}
use Rattle.rv_matches.proofs.LateLemmas.{told_taken}
use Rattle.rv_matches.proofs.late.Times.add_before.Goals as goal

pub returns : goal.returns
returns c =
    let s : Stamped = record { line = c.args.line; stamp = stamp_before c.args.text.now c.args.name } in
    told_taken c.take_before.result s _ _ _ c.self.view_is c.take_before.ensures refl
