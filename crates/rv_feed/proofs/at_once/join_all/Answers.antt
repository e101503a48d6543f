-- A seat is joined in, after others.
use Rattle.std.proofs.Common.{◌≡◌, ◌+◌, List, [], ◌∷◌, ◌++◌, length, sym, ap, ◌∙◌, subst, arith, append_assoc, append-nil}
use Rattle.std.specs.Prelude.{All}
use Rattle.std.proofs.lemmas.List.{length-append, nil_from_length}
use Rattle.rv_board.specs.RunSeats.{HasTakenIn}
use Rattle.rv_board.proofs.ListLemmas.{map-reverse-more}
use Rattle.rv_board.proofs.RunSeatLemmas.{joined-none, joined-on, joined-more}
use Rattle.rv_feed.specs.declared.feeder.Feeder.{Feeder}
use Rattle.rv_feed.specs.AtOnce.{lanes_of}
use Rattle.rv_feed.specs.Lane.{LaneValue}
use Rattle.rv_feed.proofs.at_once.join_all.Goals as goal

pub loop-feeder-init : goal.loop-feeder-init
loop-feeder-init g c = record {
  joined_in = [];
  seats = joined-none (λ (f : Feeder g.row.G.Denot LaneValue). f.seat) c.args.board.now c.args.into.now c.args.feeders.items c.requires.into c.requires.seats;
  lanes = sym (append-nil c.args.lanes.now.items);
  room = c.requires.room;
}

pub join-requires-clause-into : goal.join-requires-clause-into
join-requires-clause-into g c = c.loop-feeder.invariant.seats.board_is

pub join-requires-clause-from : goal.join-requires-clause-from
join-requires-clause-from g c = joined-on (λ (f : Feeder g.row.G.Denot LaneValue). f.seat) c.args.board.now c.pop.new.self.items c.loop-feeder.invariant.seats c.in-Some.ensures.items

pub put_back-requires : goal.put_back-requires
put_back-requires g c =
    let left : length c.loop-feeder.feeders.items ≡ length c.pop.new.self.items + 1 = ap length c.in-Some.ensures.items ∙ length-append c.pop.new.self.items (c.in-Some.feeder ∷ []) in
    let room = c.loop-feeder.invariant.room in
    omega arith

pub loop-feeder-preserved : goal.loop-feeder-preserved
loop-feeder-preserved g c =
    let i = c.loop-feeder.invariant in
    let f : Feeder g.row.G.Denot LaneValue = c.in-Some.feeder in
    let put : c.put_back.new.lanes.items ≡ c.loop-feeder.lanes.items ++ f.lane ∷ [] = c.put_back.ensures.lanes in
    record {
      joined_in = f ∷ i.joined_in;
      seats = joined-more (λ (f : Feeder g.row.G.Denot LaneValue). f.seat) c.args.board.now c.pop.new.self.items i.seats c.in-Some.ensures.items c.join.ensures;
      lanes = put ∙ ap (λ (z : List LaneValue). z ++ f.lane ∷ []) i.lanes ∙ append_assoc c.args.lanes.now.items (lanes_of i.joined_in) (f.lane ∷ [])
          ∙ ap (λ (z : List LaneValue). c.args.lanes.now.items ++ z) (sym (map-reverse-more (λ (f : Feeder g.row.G.Denot LaneValue). f.lane) f i.joined_in));
      room =
          let a : length c.put_back.new.lanes.items ≡ length c.loop-feeder.lanes.items + 1 = ap length put ∙ length-append c.loop-feeder.lanes.items (f.lane ∷ []) in
          let b : length c.loop-feeder.feeders.items ≡ length c.pop.new.self.items + 1 = ap length c.in-Some.ensures.items ∙ length-append c.pop.new.self.items (f ∷ []) in
          let r = i.room in
          let cap = c.put_back.ensures.room in
          omega arith;
    }

pub returns-clause-seats : goal.returns-clause-seats
returns-clause-seats g c =
    let i = c.loop-feeder.invariant in
    let none : c.loop-feeder.feeders.items ≡ [] = nil_from_length c.loop-feeder.feeders.items (sym c.loop-feeder.feeders.ok.0 ∙ c.in_default.ensures.cases.0) in
    let all : c.args.feeders.items ≡ i.joined_in = i.seats.split ∙ ap (λ (z : List (Feeder g.row.G.Denot LaneValue)). z ++ i.joined_in) none in
    subst (All (λ (f : Feeder g.row.G.Denot LaneValue). HasTakenIn c.loop-feeder.into f.seat)) (sym all) i.seats.seats

pub returns-clause-lanes : goal.returns-clause-lanes
returns-clause-lanes g c =
    let i = c.loop-feeder.invariant in
    let none : c.loop-feeder.feeders.items ≡ [] = nil_from_length c.loop-feeder.feeders.items (sym c.loop-feeder.feeders.ok.0 ∙ c.in_default.ensures.cases.0) in
    let all : c.args.feeders.items ≡ i.joined_in = i.seats.split ∙ ap (λ (z : List (Feeder g.row.G.Denot LaneValue)). z ++ i.joined_in) none in
    i.lanes ∙ ap (λ (z : List (Feeder g.row.G.Denot LaneValue)). c.args.lanes.now.items ++ lanes_of z) (sym all)
