use Rattle.std.proofs.Common.{sym, subst}
use Rattle.std.specs.Prelude.{IfSome}
use Rattle.rv_matches.specs.inner.ShortTimes.{IsShortTime}
use Rattle.rv_matches.proofs.short_times.is_comparable.Goals as goal

pub returns-in-Some : goal.returns-in-Some
returns-in-Some c = sym ((subst (λ o. IfSome o (IsShortTime c.args.stamp.now)) c.in-Some.is c.requires).time)
