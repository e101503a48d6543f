use Rattle.std.proofs.Common.{inl, inr, arith}
use Rattle.std.specs.Prelude.{slice_get}
use Rattle.rv_matches.proofs.NearLemmas.{none_nears}
use Rattle.rv_matches.proofs.near.add_near.Goals.{then-distance-far-via-then-distance-far, then-distance-far-via-else-distance-far+then-len-ge-MOST_NEAR}
use Rattle.rv_matches.proofs.near.add_near.Goals as goal

pub returns-then-distance-far-clause-added : goal.returns-then-distance-far-clause-added
returns-then-distance-far-clause-added c =
    none_nears (slice_get c.args.names.now.words c.args.place) c.args.found.now.items c.args.distance c.args.far c.requires.few (elim c.then-distance-far.branch [
      | then-distance-far-via-then-distance-far w ↦ inl w.if-distance-far.true
      | then-distance-far-via-else-distance-far+then-len-ge-MOST_NEAR w ↦ inr (omega (arith, w.len.ensures))
    ])
