use Rattle.std.proofs.Common.{subst}
use Rattle.std.specs.Prelude.{IfSome}
use Rattle.rv_matches.specs.inner.ShortTimes.{IsShortTime}
use Rattle.rv_matches.proofs.ShortLemmas.{earlier_by}
use Rattle.rv_matches.proofs.short_times.is_earlier.Goals as goal

pub returns : goal.returns
returns c =
    let one = c.args.one.now in
    let other = c.args.other.now in
    let short = subst (λ o. IfSome o (IsShortTime one)) c.in-Some.is c.requires.short in
    let its = subst (λ o. IfSome o (IsShortTime other)) c.in-Some-its.is c.requires.its in
    earlier_by one other c.in-Some.time c.in-Some-its.against short its c.if-time-against.false
