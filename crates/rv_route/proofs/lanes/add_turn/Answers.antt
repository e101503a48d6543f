use Rattle.std.proofs.Common.{◌≡◌, ◌-◌, length, rules, arith}
use Rattle.rv_route.proofs.LaneLemmas.{same_turn, turn_goes_on, turn_begins, no_turns, other_turn}
use Rattle.rv_route.proofs.lanes.add_turn.Goals.{else-count-gt0-via-then-count-gt0+else-index-line, else-count-gt0-via-else-count-gt0}
use Rattle.rv_route.proofs.lanes.add_turn.Goals as goal

pub returns-then-index-line : goal.returns-then-index-line
returns-then-index-line c =
    let many : c.len-count.result ≡ length c.args.turns.now.items = search rules in
    turn_goes_on c.args.turns.now.items c.args.line c.args.place c.len-count.result c.index_mut.result.now many (search rules) c.index_mut.ensures.value
    (same_turn c.args.turns.now.items (c.len-count.result - 1) c.args.line c.index.result.now c.index_mut.result.now (let m = many in let some = c.if-count-gt0.true in omega arith) c.index.ensures c.index_mut.ensures.value c.if-index-line.true)

pub returns : goal.returns
returns c =
    let many : c.len-count.result ≡ length c.args.turns.now.items = search rules in
    turn_begins c.args.turns.now.items _ c.args.line c.args.place (elim c.else-count-gt0.branch [
      | else-count-gt0-via-then-count-gt0+else-index-line w ↦ other_turn c.args.turns.now.items c.args.line c.len-count.result w.index.result.now many (search rules) w.index.ensures w.if-index-line.false
      | else-count-gt0-via-else-count-gt0 w ↦ no_turns c.args.turns.now.items c.args.line (let m = many in let none = w.if-count-gt0.false in omega arith)
    ]) c.in_ok-push.ensures.items
