-- The lanes' lists are what the joined seat has seen, so the merged history is that of the run.
use Rattle.std.proofs.Common.{◌≡◌, false, List, [], ◌++◌, length, sym, ◌∙◌, subst}
use Rattle.std.specs.Prelude.{All, take, drop}
use Rattle.rv_model.specs.declared.entry.Entry.{Entry}
use Rattle.rv_model.specs.Numbers.{has_bit}
use Rattle.rv_model.specs.Setups.{Setup}
use Rattle.rv_core.proofs.JudgedLemmas.{are-judges}
use Rattle.rv_board.proofs.ListLemmas.{lent}
use Rattle.rv_journal.specs.declared.feeding.CountedFeeder.{CountedFeeder}
use Rattle.rv_journal.specs.CountedFeeders.{FitsCountedFeeder, RunsCounted}
use Rattle.rv_journal.specs.CountedLanes.{CountedLaneValue}
use Rattle.rv_journal.specs.EntryTexts.{IsNoEnd, IsEntry}
use Rattle.rv_journal.specs.Merging.{CanMerge}
use Rattle.rv_journal.specs.Running.{FitsCountedWork}
use Rattle.rv_journal.proofs.NoEndLemmas.{no-ends}
use Rattle.rv_journal.proofs.RecordedLemmas.{all-fit, all-on, recorded-from, recorded-can-merge, whole-run}
use Rattle.rv_journal.proofs.running.record_run.Goals as goal

pub seat_works-requires-clause-seat : goal.seat_works-requires-clause-seat
seat_works-requires-clause-seat g c = c.in_ok-board.ensures.seat

pub seat_works-requires-clause-fit : goal.seat_works-requires-clause-fit
seat_works-requires-clause-fit g c = subst (λ (s : Setup). All (FitsCountedWork s) c.args.works.items) (sym c.in_ok-board.ensures.board) c.requires.fit

pub run_counted-requires : goal.run_counted-requires
run_counted-requires g c =
    let board = c.in_ok-board.field-0.board in
    let fs : List (CountedFeeder g.row.G.Denot) = c.in_ok-feeders.feeders.items in
    (c.type_bounds.send-G, (c.type_bounds.sync-R, subst (All (FitsCountedFeeder board)) (sym c.as_mut_slice.ensures.value) (all-fit board fs c.in_ok-feeders.ensures.seated)))

pub join_all-requires-clause-into : goal.join_all-requires-clause-into
join_all-requires-clause-into g c = c.in_ok-feeders.ensures.is_first.board_is

pub join_all-requires-clause-seats : goal.join_all-requires-clause-seats
join_all-requires-clause-seats g c =
    let board = c.in_ok-board.field-0.board in
    let fs : List (CountedFeeder g.row.G.Denot) = c.in_ok-feeders.feeders.items in
    let ran = lent RunsCounted _ _ _ c.run_counted.new.feeders c.in_ok-feeders.feeders.ok.0 c.as_mut_slice.ensures.value c.run_counted.ensures in
    all-on board fs _ c.in_ok-feeders.ensures.seated ran

pub merge-requires : goal.merge-requires
merge-requires g c =
    let board = c.in_ok-board.field-0.board in
    let fs : List (CountedFeeder g.row.G.Denot) = c.in_ok-feeders.feeders.items in
    let fs' : List (CountedFeeder g.row.G.Denot) = take c.in_ok-feeders.feeders.len (c.run_counted.new.feeders ++ drop (length c.run_counted.new.feeders) fs) in
    let ran = lent RunsCounted _ _ _ c.run_counted.new.feeders c.in_ok-feeders.feeders.ok.0 c.as_mut_slice.ensures.value c.run_counted.ensures in
    let first = c.seat_works.new.seat.seat in
    let last = c.join_all.new.into.seat in
    let joined = c.in_ok-lanes.ensures in
    let are = recorded-from board first last c.args.works.items fs fs' c.in_ok-lanes.lanes.items c.in_ok-feeders.ensures ran joined c.number.ensures.sound in
    let setup_is : board.setup ≡ c.args.setup = c.in_ok-board.ensures.board in
    let can = recorded-can-merge board last.part.seen first c.args.works.items fs fs' are c.requires.ascend (subst (λ (s : Setup). has_bit s.switches 34 ≡ false) (sym setup_is) c.requires.running) in
    subst (λ (z : Setup × List CountedLaneValue). CanMerge z.0 last.part.seen z.1) (λ i. (sym c.setup.ensures i, (sym joined.lanes_are ∙ sym c.as_slice.ensures.value) i)) can

pub close-requires : goal.close-requires
close-requires g c = c.in_ok-lanes.ensures.board_is

pub closed_of-closed-requires : goal.closed_of-closed-requires
closed_of-closed-requires g c =
    subst (All (λ (e : Entry). IsNoEnd e.act)) (sym c.as_slice-2.ensures.value) (no-ends c.setup.result.now c.in_ok-entries.entries.items c.in_ok-entries.ensures.merged.fits)

pub returns-clause-legal : goal.returns-clause-legal
returns-clause-legal g c =
    let board = c.in_ok-board.field-0.board in
    let fs : List (CountedFeeder g.row.G.Denot) = c.in_ok-feeders.feeders.items in
    let fs' : List (CountedFeeder g.row.G.Denot) = take c.in_ok-feeders.feeders.len (c.run_counted.new.feeders ++ drop (length c.run_counted.new.feeders) fs) in
    let ran = lent RunsCounted _ _ _ c.run_counted.new.feeders c.in_ok-feeders.feeders.ok.0 c.as_mut_slice.ensures.value c.run_counted.ensures in
    whole-run board c.args.setup c.seat_works.new.seat.seat c.join_all.new.into.seat c.args.works.items fs fs' c.in_ok-lanes.lanes.items c.in_ok-feeders.ensures ran c.in_ok-lanes.ensures c.number.ensures.sound c.in_ok-board.ensures.board
    c.setup.result.now c.as_slice.result.now c.in_ok-entries.entries.items c.closed_of-closed.result c.setup.ensures c.as_slice.ensures.value c.in_ok-entries.ensures.merged (c.closed_of-closed.ensures.closed ∙ c.as_slice-2.ensures.value) []

pub returns-clause-specs : goal.returns-clause-specs
returns-clause-specs g c = λ specs mean.
    let board = c.in_ok-board.field-0.board in
    let fs : List (CountedFeeder g.row.G.Denot) = c.in_ok-feeders.feeders.items in
    let fs' : List (CountedFeeder g.row.G.Denot) = take c.in_ok-feeders.feeders.len (c.run_counted.new.feeders ++ drop (length c.run_counted.new.feeders) fs) in
    let ran = lent RunsCounted _ _ _ c.run_counted.new.feeders c.in_ok-feeders.feeders.ok.0 c.as_mut_slice.ensures.value c.run_counted.ensures in
    record {
      are_judges = are-judges specs c.args.setup.tables c.assert_invariant.ensures.are_tables mean;
      legal =
          whole-run board c.args.setup c.seat_works.new.seat.seat c.join_all.new.into.seat c.args.works.items fs fs' c.in_ok-lanes.lanes.items c.in_ok-feeders.ensures ran c.in_ok-lanes.ensures c.number.ensures.sound c.in_ok-board.ensures.board
          c.setup.result.now c.as_slice.result.now c.in_ok-entries.entries.items c.closed_of-closed.result c.setup.ensures c.as_slice.ensures.value c.in_ok-entries.ensures.merged (c.closed_of-closed.ensures.closed ∙ c.as_slice-2.ensures.value) specs;
    }

pub returns-clause-entries : goal.returns-clause-entries
returns-clause-entries g c = subst (All IsEntry) c.as_slice-2.ensures.value c.closed_of-closed.ensures.known
