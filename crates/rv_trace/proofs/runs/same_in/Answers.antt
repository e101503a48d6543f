use Rattle.std.proofs.Common.{cond, eqb, get_or, not, refl}
use Rattle.std.specs.Prelude.{nat_eq}
use Rattle.rv_trace.proofs.PairLemmas.{pair_run, set_lane}
use Rattle.rv_trace.proofs.runs.same_in.Goals as goal

pub returns : goal.returns
returns c =
    let one = c.args.one.now in
    let other = c.args.other.now in
    pair_run nat_eq one other c.requires.one c.requires.other _ _ c.first_set.ensures (λ a b. cond (not (eqb a b)) 255 0) refl (λ k. set_lane (not (eqb (get_or one k 0) (get_or other k 0))))
