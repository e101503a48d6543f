use Rattle.std.proofs.Common.{◌≡◌, ◌∷◌, ◌∙◌, subst, rules}
use Rattle.std.specs.List.{All}
use Rattle.std.specs.Vec.Iter.{into_iter_items}
use Rattle.std.proofs.lemmas.List.Elements.{All-tail}
use Rattle.rv_board.specs.Seats.{SeatValue}
use Rattle.test_threads.proofs.seats.join_all.Goals as goal

pub loop-from-preserved : goal.loop-from-preserved
loop-from-preserved c =
    let split : into_iter_items c.loop-from.from-iterator ≡ c.in-Some.from ∷ into_iter_items c.next.new.self = search rules in
    let P : SeatValue → Type 0 = λ s. s.board ≡ c.args.board.now in
    (c.join.ensures.board ∙ c.loop-from.invariant.0, All-tail P c.in-Some.from (into_iter_items c.next.new.self) (subst (All P) split c.loop-from.invariant.1))
