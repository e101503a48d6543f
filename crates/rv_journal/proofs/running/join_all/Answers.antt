-- A seat is joined in, after others.
use Rattle.std.proofs.Common.{◌≡◌, List, [], ◌∷◌, ◌++◌, sym, ap, ◌∙◌, subst}
use Rattle.std.specs.Prelude.{All}
use Rattle.std.proofs.lemmas.List.{nil_from_length}
use Rattle.rv_board.specs.RunSeats.{HasTakenIn}
use Rattle.rv_board.proofs.ListLemmas.{map-reverse-more}
use Rattle.rv_board.proofs.RunSeatLemmas.{joined-none, joined-on, joined-more}
use Rattle.rv_journal.specs.declared.feeding.CountedFeeder.{CountedFeeder}
use Rattle.rv_journal.specs.CountedLanes.{CountedLaneValue}
use Rattle.rv_journal.specs.inner.Running.{lanes_in}
use Rattle.rv_journal.proofs.running.join_all.Goals as goal

pub loop-feeder-init : goal.loop-feeder-init
loop-feeder-init g c = record {
  joined_in = [];
  seats = joined-none (λ (f : CountedFeeder g.row.G.Denot). f.seat.seat) c.args.board.now c.args.into.now.seat c.args.feeders.items c.requires.into c.requires.seats;
  lanes = c.new-lanes.ensures.items;
}

pub join-requires-clause-into : goal.join-requires-clause-into
join-requires-clause-into g c = c.loop-feeder.invariant.seats.board_is

pub join-requires-clause-from : goal.join-requires-clause-from
join-requires-clause-from g c = joined-on (λ (f : CountedFeeder g.row.G.Denot). f.seat.seat) c.args.board.now c.pop.new.self.items c.loop-feeder.invariant.seats c.in-Some.ensures.items

pub loop-feeder-preserved : goal.loop-feeder-preserved
loop-feeder-preserved g c =
    let i = c.loop-feeder.invariant in
    let f : CountedFeeder g.row.G.Denot = c.in-Some.feeder in
    record {
      joined_in = f ∷ i.joined_in;
      seats = joined-more (λ (f : CountedFeeder g.row.G.Denot). f.seat.seat) c.args.board.now c.pop.new.self.items i.seats c.in-Some.ensures.items c.join.ensures.seats;
      lanes = c.in_ok-push.ensures.items ∙ (ap (λ (z : List CountedLaneValue). z ++ f.lane ∷ []) i.lanes ∙ sym (map-reverse-more (λ (f : CountedFeeder g.row.G.Denot). f.lane) f i.joined_in));
    }

pub returns : goal.returns
returns g c =
    let i = c.loop-feeder.invariant in
    let none : c.loop-feeder.feeders.items ≡ [] = nil_from_length c.loop-feeder.feeders.items (sym c.loop-feeder.feeders.ok.0 ∙ c.in_default.ensures.cases.0) in
    let all : c.args.feeders.items ≡ i.joined_in = i.seats.split ∙ ap (λ (z : List (CountedFeeder g.row.G.Denot)). z ++ i.joined_in) none in
    record {
      board_is = i.seats.board_is;
      into = i.seats.into;
      seats = subst (All (λ (f : CountedFeeder g.row.G.Denot). HasTakenIn c.loop-feeder.into.seat f.seat.seat)) (sym all) i.seats.seats;
      lanes_are = i.lanes ∙ ap lanes_in (sym all);
    }
