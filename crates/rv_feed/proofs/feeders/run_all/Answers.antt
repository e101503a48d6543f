-- Without changes the control actor's seat stays as it is.
use Rattle.std.proofs.Common.{◌≡◌, [], length, vec_len, arith, refl, sym, ap, subst}
use Rattle.std.proofs.lemmas.Bool.Decides.{nat_tests}
use Rattle.std.proofs.lemmas.List.{nil_from_length}
use Rattle.rv_model.specs.Scripts.{control_acts}
use Rattle.rv_feed.specs.Changes.{DoesAll}
use Rattle.rv_feed.proofs.ChangeLemmas.{does-none}
use Rattle.rv_feed.proofs.feeders.run_all.Goals as goal

pub returns-then-is_empty-clause-changer : goal.returns-then-is_empty-clause-changer
returns-then-is_empty-clause-changer g c =
    let changer = c.args.changer.now in
    let count : vec_len changer.changes ≡ 0 = let t = c.if-is_empty.true in let e = c.is_empty.ensures in grind (arith, nat_tests) in
    let items : length changer.changes.items ≡ 0 = let ok = changer.changes.ok.0 in omega arith in
    let none : changer.changes.items ≡ [] = nil_from_length changer.changes.items items in
    let acts : control_acts changer.seat.board.setup.shape changer.changes.items ≡ [] = ap (control_acts changer.seat.board.setup.shape) none in
    record { does = subst (DoesAll changer.seat changer.seat) (sym acts) (does-none changer.seat c.number.ensures.sound); same = refl }
