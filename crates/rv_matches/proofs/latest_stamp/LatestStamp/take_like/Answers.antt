use Rattle.std.proofs.Common.{◌≡◌, ◌≤◌, ◌<◌, true, Some, length, take, sym, ap, ◌∙◌, subst, arith}
use Rattle.std.proofs.lemmas.List.{take-take}
use Rattle.rv_matches.specs.LateTimes.{Stamped}
use Rattle.rv_matches.specs.Times.{is_time}
use Rattle.rv_matches.specs.inner.LateTimes.{HasTime}
use Rattle.rv_matches.proofs.TakenLemmas.{alike_later, alike_time, alike_word, held_near, same_bytes, taken_later, taken_same}
use Rattle.rv_matches.proofs.latest_stamp.LatestStamp.take_like.Goals as goal

pub returns-then-same-end : goal.returns-then-same-end
returns-then-same-end c =
    let held = c.self.inside in
    let end = c.args.end in
    let text = c.args.bytes.now in
    let best : Stamped = record { line = held.line; stamp = take end held.near } in
    let s : Stamped = record { line = c.args.line; stamp = take end text } in
    let as_long : end ≡ held.end = c.if-end-self.false in
    let latest : c.args.self.now ≡ Some best = sym c.self.view_is ∙ held_near _ held.line end held.end held.near as_long (omega (arith, c.if-end-eq0.false)) in
    let bytes = same_bytes held.near text end (omega (arith, as_long, c.self.invariant)) (omega (arith, c.self.ranges)) c.if-bytes-lt-WIDTH.false c.same_in-same.result c.same_in-same.ensures c.if-same-end.true in
    record {
      taken = taken_same c.args.self.now best s latest c.requires bytes;
      word = λ yes. alike_word held.near text end (omega (arith, as_long, c.self.invariant)) (omega (arith, c.self.ranges)) c.if-bytes-lt-WIDTH.false c.alike_in.result c.alike_in.ensures c.if-alike_in-end.false;
    }

pub returns : goal.returns
returns c =
    let held = c.self.inside in
    let end = c.args.end in
    let text = c.args.bytes.now in
    let best : Stamped = record { line = held.line; stamp = take end held.near } in
    let s : Stamped = record { line = c.args.line; stamp = take end text } in
    let as_long : end ≡ held.end = c.if-end-self.false in
    let some : 0 < end = omega (arith, c.if-end-eq0.false) in
    let low : end ≤ 16 = omega (arith, as_long, c.self.invariant) in
    let room : length held.near ≡ 16 = omega (arith, c.self.ranges) in
    let latest : c.args.self.now ≡ Some best = sym c.self.view_is ∙ held_near _ held.line end held.end held.near as_long some in
    let time : is_time best.stamp ≡ true = subst HasTime latest c.requires in
    let timed = alike_time held.near text end low room c.if-bytes-lt-WIDTH.false c.same_in-same.result c.same_in-same.ensures c.alike_in.result c.alike_in.ensures c.if-alike_in-end.false time in
    let later = alike_later held.near text end low room c.if-bytes-lt-WIDTH.false c.same_in-same.result c.same_in-same.ensures c.alike_in.result c.alike_in.ensures c.if-alike_in-end.false time (omega (arith, c.if-same-end.false)) c.if-bytes-same.false in
    let now = held_near _ c.args.line end held.end (take 16 text) as_long some ∙ ap (λ b. Some (record { line = c.args.line; stamp = b })) (take-take end 16 text low) in
    record {
      taken = taken_later c.args.self.now _ best s latest timed later now;
      word = λ yes. alike_word held.near text end low room c.if-bytes-lt-WIDTH.false c.alike_in.result c.alike_in.ensures c.if-alike_in-end.false;
    }
