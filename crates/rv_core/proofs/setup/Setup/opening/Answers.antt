-- The slot's monitor has a starting value.
use Rattle.std.proofs.Common.{◌+◌, ◌^◌, arith, ap, ◌∙◌}
use Rattle.rv_core.proofs.PlaceLemmas.{place-below, start-read}
use Rattle.rv_core.proofs.setup.Setup.opening.Goals as goal

pub index-requires : goal.index-requires
index-requires c =
    let b = place-below _ c.args.self.now c.self.view_is c.args.slot c.place-place.result.monitor c.requires c.place-place.ensures.monitor _ c.self.invariant.many_starts in
    let len = c.self.inside.starts.ok.0 in omega arith

pub returns-clause-word : goal.returns-clause-word
returns-clause-word c =
    let is = start-read _ c.args.self.now c.self.view_is c.args.slot c.place-place.result.monitor c.requires c.place-place.ensures.monitor c.index.result.now c.self.invariant.many_starts c.index.ensures in
    c.pack.ensures.word ∙ ap (λ n. 2 ^ 32 + n) is
