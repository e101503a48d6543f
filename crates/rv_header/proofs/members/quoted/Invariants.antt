use Rattle.std.proofs.Common.{◌≡◌, ◌-◌, ◌++◌, drop, length, map}
use Rattle.rv_dot.specs.Canonical.{quoted}
use Rattle.rv_header.proofs.members.quoted.Given as goal

abbrev pub invariant-names : goal.invariant-names
invariant-names l = l.made ++ map quoted (drop l.place l.names) ≡ map quoted l.names

abbrev pub decreases-names : goal.decreases-names
decreases-names l = length l.names - l.place
