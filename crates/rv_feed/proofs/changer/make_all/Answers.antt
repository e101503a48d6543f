-- A change after changes.
use Rattle.std.proofs.Common.{◌≡◌, ◌+◌, List, [], ◌∷◌, ◌++◌, take, get_or, sym, ap, ◌∙◌, subst, append-nil}
use Rattle.std.proofs.lemmas.Grind.{flat_map-append}
use Rattle.std.proofs.lemmas.List.{take_more}
use Rattle.rv_model.specs.declared.entry.Act.{Act}
use Rattle.rv_model.specs.declared.work.Change.{Change}
use Rattle.rv_model.specs.Scripts.{change_acts, control_acts}
use Rattle.rv_feed.specs.Changes.{DoesAll}
use Rattle.rv_feed.proofs.ChangeLemmas.{does-none, does-then}
use Rattle.rv_feed.proofs.changer.make_all.Goals as goal

pub loop-place-init : goal.loop-place-init
loop-place-init g c = does-none c.args.seat.now c.number.ensures.sound

pub make-requires-clause-seat : goal.make-requires-clause-seat
make-requires-clause-seat g c = record {
  board_is = c.loop-place.invariant.grows.board ∙ c.requires.seat.board_is;
  actor = c.loop-place.invariant.grows.grows.number ∙ c.requires.seat.actor;
}

pub make-requires-clause-bits : goal.make-requires-clause-bits
make-requires-clause-bits g c = c.requires.bits c.loop-place.place (record { lower = 0; clear = 0; raise = 0 }) c.loop-place-test.true

pub loop-place-preserved : goal.loop-place-preserved
loop-place-preserved g c =
    let shape = c.args.board.now.setup.shape in
    let changes : List Change = c.args.changes.now in
    let place = c.loop-place.place in
    let d : Change = record { lower = 0; clear = 0; raise = 0 } in
    let change : Change = get_or changes place d in
    let done = take place changes in
    let acts : control_acts shape done ++ change_acts shape change ≡ control_acts shape (take (place + 1) changes) =
    ap (λ (z : List Act). control_acts shape done ++ z) (sym (append-nil (change_acts shape change))) ∙ sym (flat_map-append (change_acts shape) done (change ∷ [])) ∙ ap (control_acts shape) (sym (take_more changes place d c.loop-place-test.true)) in
    subst (DoesAll c.args.seat.now c.make.new.seat) acts (does-then c.args.seat.now c.loop-place.seat c.make.new.seat (control_acts shape done) (change_acts shape change) c.loop-place.invariant c.make.ensures)
