use Rattle.std.proofs.Common.{get_or}
use Rattle.rv_matches.specs.inner.Lanes.{is_alike}
use Rattle.rv_trace.proofs.PairLemmas.{pair_run}
use Rattle.rv_matches.proofs.PairLemmas.{apart, apart_is, apart_lanes}
use Rattle.rv_matches.proofs.lanes.alike_in.Goals as goal

pub returns : goal.returns
returns c =
    let one = c.args.one.now in
    let other = c.args.other.now in
    pair_run is_alike one other c.requires.one c.requires.other _ _ c.first_set.ensures apart (apart_lanes one other c.requires.one c.requires.other)
    (λ k. apart_is (get_or one k 0) (get_or other k 0) (c.type_inv.one k).fits (c.type_inv.other k).fits)
