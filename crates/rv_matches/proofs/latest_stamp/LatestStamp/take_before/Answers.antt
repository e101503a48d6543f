use Rattle.std.proofs.Common.{◌+◌, ◌≤◌, refl}
use Rattle.rv_matches.proofs.StampLemmas.{stamp_found}
use Rattle.rv_matches.proofs.TakenLemmas.{taken_there}
use Rattle.rv_matches.proofs.latest_stamp.LatestStamp.take_before.Goals as goal

pub returns : goal.returns
returns c =
    let room : c.self.inside.end + 3 ≤ c.args.name = c.if-name-end.false in
    taken_there c.take_like.result c.args.line _ _ _ _ _ refl
    (λ yes. stamp_found c.args.text.now c.args.name c.self.inside.end c.requires.name room c.if-text-name-ne32.false c.if-text-name-ne58.false c.if-text-name-ne32-2.false (c.take_like.ensures.word yes)) c.take_like.ensures.taken
