-- Each try is allowed, and counts one change by others where it is lost.
use Rattle.std.proofs.Common.{◌+◌, ◌<◌, ap, ◌∙◌, sym, subst, arith, add-one}
use Rattle.rv_model.specs.Setups.{Setup}
use Rattle.rv_model.specs.Table.{Table}
use Rattle.rv_core.specs.Advance.{FitsTable, advanced}
use Rattle.rv_core.specs.Setup.{table_at}
use Rattle.rv_board.specs.declared.view.View.{View}
use Rattle.rv_board.specs.Seats.{BoardId, SeatValue}
use Rattle.rv_board.proofs.AllowedLemmas.{loads, exchanges, stops}
use Rattle.rv_board.proofs.MeetLemmas.{meets}
use Rattle.rv_board.proofs.RaceLemmas.{Lost, lost_none, lost_more, opened_is, raced, usable_lost, setup_lost, at_same, at_other, is-made, given_up}
use Rattle.rv_board.proofs.SpacingLemmas.{index-at, slot-at}
use Rattle.rv_board.proofs.board.Board.deliver.Goals as goal

pub load-word-requires : goal.load-word-requires
load-word-requires g c =
    let m = meets c.seat.view_is c.requires.board c.self.view_is c.self.invariant in
    let at = m.stands c.requires.slot c.place-place.ensures.place in
    let low = at.low in
    (m.table_is, at.below, loads _ _ c.seat.invariant m.setup_is (c.args.slot + 1) at.at (omega arith))

pub loop-lost-init : goal.loop-lost-init
loop-lost-init g c =
    let m = meets c.seat.view_is c.requires.board c.self.view_is c.self.invariant in
    let at = m.stands c.requires.slot c.place-place.ensures.place in
    let s = c.load-word.ensures in
    let u = c.seat.invariant in
    let seen = c.seat.view_is in
    record {
      table = s.0 ∙ ap (λ (f : SeatValue). f.board.table) seen;
      empty = s.2.1 ∙ u.empty;
      number = u.number_is ∙ ap (λ (f : SeatValue). f.part.number) seen;
      end = u.end_is ∙ ap (λ (f : SeatValue). f.part.end) seen;
      lost = subst (λ (v : View). Lost v c.load-word.new.seat.me.0 c.args.slot 0 c.load-word.result) (opened_is u seen) (lost_none _ _ c.args.slot _ _ (index-at (c.args.slot + 1) m.setup_is at.at ∙ add-one c.args.slot) s.2.0);
    }

pub compare_exchange_with-found-requires : goal.compare_exchange_with-found-requires
compare_exchange_with-found-requires g c =
    let i = c.loop-lost.invariant in
    let m = meets c.seat.view_is c.requires.board c.self.view_is c.self.invariant in
    let at = m.stands c.requires.slot c.place-place.ensures.place in
    let fits : FitsTable (table_at c.self.inside.table.shared.key c.args.slot) c.args.hit.now = subst (λ (s : Setup). FitsTable (table_at s c.args.slot) c.args.hit.now) (sym m.key_is) c.requires.hit in
    let table = c.table-table.ensures ∙ ap (λ (s : Setup). table_at s c.args.slot) (sym c.self.invariant.0) in (
      i.table ∙ ap (λ (f : SeatValue). f.board.table) (sym c.seat.view_is) ∙ m.table_is,
      at.below,
      exchanges _ _ (usable_lost c.loop-lost.seat-inside.token.me c.seat.invariant c.seat.view_is i.lost i.empty) (setup_lost c.seat.invariant c.seat.view_is i.lost ∙ m.setup_is) c.args.slot c.loop-lost.word c.advance-next.result.word c.args.hit.now at.at at.low fits c.advance-next.ensures.fits
          (c.advance-next.ensures.word ∙ ap (λ (t : Table). (advanced t c.loop-lost.word c.args.hit.now).1) table) (omega arith),
    )

pub returns-then-found-word : goal.returns-then-found-word
returns-then-found-word g c =
    let i = c.loop-lost.invariant in
    let s = c.compare_exchange_with-found.ensures in
    let has : c.args.seat.now.part.number < c.args.seat.now.part.end = subst (λ (f : SeatValue). f.part.number < f.part.end) c.seat.view_is c.seat.invariant.has in
    let table = c.table-table.ensures ∙ ap (λ (z : Setup). table_at z c.args.slot) (ap (λ (z : BoardId). z.setup) (c.self.view_is ∙ sym c.requires.board)) in
    is-made c.args.seat.now c.args.slot c.loop-lost.word c.args.hit.now has (s.0 ∙ i.table) i.lost c.if-found-word.true
    (c.advance-next.ensures.answer ∙ ap (λ (t : Table). (advanced t c.loop-lost.word c.args.hit.now).0) table) (at_same _ c.if-found-word.true s.2.0)

pub loop-lost-preserved : goal.loop-lost-preserved
loop-lost-preserved g c =
    let i = c.loop-lost.invariant in
    let m = meets c.seat.view_is c.requires.board c.self.view_is c.self.invariant in
    let at = m.stands c.requires.slot c.place-place.ensures.place in
    let here = setup_lost c.seat.invariant c.seat.view_is i.lost ∙ m.setup_is in
    let s = c.compare_exchange_with-found.ensures in
    record {
      table = s.0 ∙ i.table;
      empty = s.2.1 ∙ i.empty;
      number = i.number;
      end = i.end;
      lost = lost_more (index-at (c.args.slot + 1) here at.at ∙ add-one c.args.slot) i.lost (at_other _ c.if-found-word.false s.2.0) c.if-found-word.false;
    }

pub swap-requires : goal.swap-requires
swap-requires g c =
    let i = c.loop-lost.invariant in
    let m = meets c.seat.view_is c.requires.board c.self.view_is c.self.invariant in
    let at = m.stands c.requires.slot c.place-place.ensures.place in
    let has : c.args.seat.now.part.number < c.args.seat.now.part.end = subst (λ (f : SeatValue). f.part.number < f.part.end) c.seat.view_is c.seat.invariant.has in
    let u = usable_lost c.loop-lost.seat-inside.token.me c.seat.invariant c.seat.view_is i.lost i.empty in
    (i.table ∙ ap (λ (f : SeatValue). f.board.table) (sym c.seat.view_is) ∙ m.table_is, at.below, stops _ _ u (setup_lost c.seat.invariant c.seat.view_is i.lost ∙ m.setup_is) c.args.slot at.at at.low (raced has (omega arith) i.lost))

pub returns : goal.returns
returns g c =
    let i = c.loop-lost.invariant in
    let m = meets c.seat.view_is c.requires.board c.self.view_is c.self.invariant in
    let at = m.stands c.requires.slot c.place-place.ensures.place in
    let here = setup_lost c.seat.invariant c.seat.view_is i.lost ∙ m.setup_is in
    let s = c.swap.ensures in
    let has : c.args.seat.now.part.number < c.args.seat.now.part.end = subst (λ (f : SeatValue). f.part.number < f.part.end) c.seat.view_is c.seat.invariant.has in
    given_up c.args.seat.now c.args.slot has (omega arith) (slot-at c.args.slot here at.at) (s.0 ∙ i.table) i.lost s.2.0
